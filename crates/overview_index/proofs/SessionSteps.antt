-- The session of an index, range by range.
use Rattle.std.proofs.Common.{◌≡◌, ◌≢◌, ◌+◌, ◌<◌, ◌≤◌, ℕ, Bool, true, false, List, [], ◌∷◌, ◌++◌, Option, Some, Err, refl, ap, sym, subst, ◌∙◌, length, take, arith, inl, inr, append-nil}
use Rattle.std.specs.Prelude.{slice_get, ◌==◌, if◌then◌else◌}
use Rattle.std.specs.List.{AllByRecursion}
use Rattle.std.proofs.lemmas.List.{length-append, length-drop, nil_from_length, take_all}
use Rattle.std.proofs.lemmas.List.Concat.{flat_map-append}
use Rattle.std.proofs.lemmas.Option.{slice_get_within}
use Rattle.io_traits.specs.declared.links.LinkEvent.{LinkEvent}
use Rattle.nntp_lines.specs.declared.group.GroupReply.{GroupReply}
use Rattle.nntp_lines.specs.declared.why.Why.{Why}
use Rattle.nntp_lines.specs.declared.why.Why.TheVariants as why
use Rattle.nzb_writer.specs.declared.index.Index.{Index}
use Rattle.link_dialog.specs.declared.dialog.Dialog.{Dialog}
use Rattle.link_dialog.specs.Dialog.{Message, answers_of}
use Rattle.link_dialog.specs.Replies.{Reply}
use Rattle.link_dialog.specs.Talk.{Start, IsOpen, IsMessageRefused, Ends, Talked, patience_of, quit_message}
use Rattle.link_dialog.proofs.Sessions.{answers_more, no_answers_at_end}
use Rattle.overview_index.specs.Asking.{Tallies, WouldFill, StandsAt, IsRangeAnswered, IsRangeCut, KeepsLiveIf, error_of, HasBegun, IsChosen, IndexUnderWay, HasHeardAll}
use Rattle.overview_index.specs.Group.{IsIndexOfLines}
use Rattle.overview_index.specs.Session.{Query, Range, ranges_in, messages_of, over_message, goes_on, lines_in, overs_in, Overview, HasIndexed, OverWasRefused, IndexWasRefused, WasFilled, WasOverBefore, WasOverWithin, IndexWasOver, WasStopped, IndexEnds}
use Rattle.overview_index.specs.declared.adding.Desk.{Desk}
use Rattle.overview_index.specs.declared.asking.Chosen.{Chosen}
use Rattle.overview_index.specs.declared.added.GroupError.{GroupError}
use Rattle.overview_index.specs.declared.added.GroupError.TheVariants as group_error
use Rattle.overview_index.proofs.Ranges.{messages_more}

-- ---- the opening

pub opens : (q : Query) (start : Start) (now : Option (List LinkEvent)) (live : List Bool) (dialog : Dialog) → IsOpen start now live q.patience dialog → HasBegun q start now dialog
opens q start now live dialog o = record { patience = o.0; replies = o.2.0; rests = o.2.1 }

-- the link is over before the login is done
pub opening_over : (q : Query) (start : Start) (now : Option (List LinkEvent)) (reason : Why) → (out : List ℕ) × (replies : List Reply) × Ends start now q.patience [] out reason replies → IndexWasOver q start now reason
opening_over q start now reason (out, replies, e) =
    let before : WasOverBefore q start now reason = record {
      replies = replies;
      said = [];
      said_is = inl refl;
      unheard = no_answers_at_end start now q.patience out reason replies e;
      out = out;
      ends = e;
    } in
    inl before

-- ---- the newsgroup is chosen

pub chosen_begins : (q : Query) (start : Start) (now : Option (List LinkEvent)) (dialog : Dialog) (chosen : Chosen) (desk : Desk) → Tallies desk q.group [] → IsChosen q start now dialog chosen → IndexUnderWay q start now dialog chosen.group desk 0 chosen.live
chosen_begins q start now dialog chosen desk t x = record {
  patience = x.patience;
  replies = x.replies;
  overs = [];
  overview = record { chosen = record { code = 211; line = x.line; lines = [] }; answers = x.answers; code = refl; group_is = x.group_is; each = tt; few = omega arith };
  count = refl;
  stands = x.stands;
  tallies = t;
}

-- ---- one range more

all-append : (P : Reply → Type 0) (first second : List Reply) → AllByRecursion P first → AllByRecursion P second → AllByRecursion P (first ++ second)
all-append P [] second one two = two
all-append P (reply ∷ first) second one two = (one.0, all-append P first second one.1 two)

lines-append : (first second : List Reply) → lines_in (first ++ second) ≡ lines_in first ++ lines_in second
lines-append first second = flat_map-append (λ (reply : Reply). if reply.code == 224 then reply.lines else []) first second

-- a range that is there, and its reply
pub record IsNext (q : Query) (start : Start) (was : Option (List LinkEvent)) (dialog : Dialog) (group : GroupReply) (desk : Desk) (done : ℕ) (range : Range) : Type 0 where
  pub under_way : IndexUnderWay q start was dialog group desk done true
  pub there : slice_get (ranges_in q group) done ≡ Some range

next_answers : (q : Query) (start : Start) (was : Option (List LinkEvent)) (dialog : Dialog) (group : GroupReply) (desk : Desk) (done : ℕ) (range : Range) (reply : Reply) → (n : IsNext q start was dialog group desk done range) →
    answers_of start.login (n.under_way.replies ++ reply ∷ []) ≡ n.under_way.overview.chosen ∷ n.under_way.overs ++ reply ∷ []
next_answers q start was dialog group desk done range reply n =
    let u = n.under_way in
    answers_more start was dialog (messages_of q.group (take done (ranges_in q group))) u.replies (reply ∷ []) u.stands ∙ ap (λ (l : List Reply). l ++ reply ∷ []) u.overview.answers

next_overview : (q : Query) (start : Start) (was : Option (List LinkEvent)) (dialog : Dialog) (group : GroupReply) (desk : Desk) (done : ℕ) (range : Range) (reply : Reply) → (n : IsNext q start was dialog group desk done range) → goes_on reply ≡ true →
    Overview q start.login (n.under_way.replies ++ reply ∷ []) group (n.under_way.overs ++ reply ∷ [])
next_overview q start was dialog group desk done range reply n goes =
    let u = n.under_way in
    record {
      chosen = u.overview.chosen;
      answers = next_answers q start was dialog group desk done range reply n;
      code = u.overview.code;
      group_is = u.overview.group_is;
      each = all-append (λ (r : Reply). goes_on r ≡ true) u.overs (reply ∷ []) u.overview.each (goes, tt);
      few = omega (arith, length-append u.overs (reply ∷ []), u.count, slice_get_within (ranges_in q group) done range n.there);
    }

-- what was said with this range
next_messages : (q : Query) (start : Start) (was : Option (List LinkEvent)) (dialog : Dialog) (group : GroupReply) (desk : Desk) (done : ℕ) (range : Range) → (n : IsNext q start was dialog group desk done range) →
    messages_of q.group (take done (ranges_in q group)) ++ over_message range ∷ [] ≡ messages_of q.group (take (length n.under_way.overs + 1) (ranges_in q group))
next_messages q start was dialog group desk done range n =
    messages_more q.group (ranges_in q group) done range n.there ∙ ap (λ k. messages_of q.group (take (k + 1) (ranges_in q group))) (sym n.under_way.count)

-- its lines were added
pub range_done : (q : Query) (start : Start) (was now : Option (List LinkEvent)) (dialog : Dialog) (group : GroupReply) (desk after : Desk) (done : ℕ) (range : Range) (code : ℕ) (kept : Bool) (block : List ℕ) (live : Bool) →
    (n : IsNext q start was dialog group desk done range) → (a : IsRangeAnswered start now dialog (messages_of q.group (take done (ranges_in q group))) range n.under_way.replies code kept block live) →
    Tallies after q.group (lines_in n.under_way.overs ++ lines_in (a.reply ∷ [])) → IndexUnderWay q start now dialog group after (done + 1) live
range_done q start was now dialog group desk after done range code kept block live n a t =
    let u = n.under_way in
    record {
      patience = u.patience;
      replies = u.replies ++ a.reply ∷ [];
      overs = u.overs ++ a.reply ∷ [];
      overview = next_overview q start was dialog group desk done range a.reply n a.goes;
      count = omega (arith, length-append u.overs (a.reply ∷ []), u.count);
      stands = subst (λ (ms : List Message). StandsAt start now dialog ms (u.replies ++ a.reply ∷ []) live) (messages_more q.group (ranges_in q group) done range n.there) a.stands;
      tallies = subst (λ (l : List (List ℕ)). Tallies after q.group l) (sym (lines-append u.overs (a.reply ∷ []))) t;
    }

-- QUIT was said behind its reply
quit_said : (q : Query) (start : Start) (was quitted : Option (List LinkEvent)) (dialog : Dialog) (group : GroupReply) (desk : Desk) (done : ℕ) (range : Range) (replies : List Reply) → (n : IsNext q start was dialog group desk done range) →
    Talked start quitted (patience_of dialog) ((messages_of q.group (take done (ranges_in q group)) ++ over_message range ∷ []) ++ quit_message ∷ []) replies →
    Talked start quitted q.patience (messages_of q.group (take (length n.under_way.overs + 1) (ranges_in q group)) ++ quit_message ∷ []) replies
quit_said q start was quitted dialog group desk done range replies n t =
    subst (λ (p : ℕ). Talked start quitted p (messages_of q.group (take (length n.under_way.overs + 1) (ranges_in q group)) ++ quit_message ∷ []) replies) n.under_way.patience
    (subst (λ (ms : List Message). Talked start quitted (patience_of dialog) (ms ++ quit_message ∷ []) replies) (next_messages q start was dialog group desk done range n) t)

range_stopped : (q : Query) (start : Start) (was quitted : Option (List LinkEvent)) (dialog : Dialog) (group : GroupReply) (desk : Desk) (done : ℕ) (range : Range) (reply : Reply) → (n : IsNext q start was dialog group desk done range) → goes_on reply ≡ true →
    Talked start quitted (patience_of dialog) ((messages_of q.group (take done (ranges_in q group)) ++ over_message range ∷ []) ++ quit_message ∷ []) (n.under_way.replies ++ reply ∷ []) → WasStopped q start quitted
range_stopped q start was quitted dialog group desk done range reply n goes t =
    let u = n.under_way in
    let count : length u.overs + 1 ≡ length (u.overs ++ reply ∷ []) = omega (arith, length-append u.overs (reply ∷ [])) in
    record {
      replies = u.replies ++ reply ∷ [];
      group = group;
      overs = u.overs ++ reply ∷ [];
      overview = next_overview q start was dialog group desk done range reply n goes;
      talked = subst (λ (k : ℕ). Talked start quitted q.patience (messages_of q.group (take k (ranges_in q group)) ++ quit_message ∷ []) (u.replies ++ reply ∷ [])) count
          (quit_said q start was quitted dialog group desk done range (u.replies ++ reply ∷ []) n t);
    }

range_filled : (q : Query) (start : Start) (was quitted : Option (List LinkEvent)) (dialog : Dialog) (group : GroupReply) (desk : Desk) (done : ℕ) (range : Range) (reply : Reply) (reason : GroupError) → (n : IsNext q start was dialog group desk done range) → goes_on reply ≡ true →
    WouldFill (lines_in n.under_way.overs) (lines_in (reply ∷ [])) reason →
    Talked start quitted (patience_of dialog) ((messages_of q.group (take done (ranges_in q group)) ++ over_message range ∷ []) ++ quit_message ∷ []) (n.under_way.replies ++ reply ∷ []) → WasFilled q start quitted reason
range_filled q start was quitted dialog group desk done range reply reason n goes f t =
    let u = n.under_way in
    record {
      replies = u.replies ++ reply ∷ [];
      group = group;
      overs = u.overs;
      last = reply;
      overview = next_overview q start was dialog group desk done range reply n goes;
      front = f.front;
      line = f.line;
      behind = f.behind;
      lines = f.lines_are;
      fits = f.fits;
      over = f.over;
      talked = quit_said q start was quitted dialog group desk done range (u.replies ++ reply ∷ []) n t;
    }

-- its lines weren't all added
pub range_ends : (q : Query) (start : Start) (was quitted : Option (List LinkEvent)) (dialog : Dialog) (group : GroupReply) (desk : Desk) (done : ℕ) (range : Range) (reply : Reply) (reason : GroupError) → (n : IsNext q start was dialog group desk done range) → goes_on reply ≡ true →
    (reason ≢ group_error.Memory → WouldFill (lines_in n.under_way.overs) (lines_in (reply ∷ [])) reason) →
    Talked start quitted (patience_of dialog) ((messages_of q.group (take done (ranges_in q group)) ++ over_message range ∷ []) ++ quit_message ∷ []) (n.under_way.replies ++ reply ∷ []) → IndexEnds q start quitted (Err (error_of reason))
range_ends q start was quitted dialog group desk done range reply group_error.Memory n goes fills t =
    inr (range_stopped q start was quitted dialog group desk done range reply n goes t)
range_ends q start was quitted dialog group desk done range reply group_error.Segments n goes fills t =
    let some : group_error.Segments ≢ group_error.Memory = λ e. cc in
    (some, range_filled q start was quitted dialog group desk done range reply group_error.Segments n goes (fills some) t)
range_ends q start was quitted dialog group desk done range reply group_error.Files n goes fills t =
    let some : group_error.Files ≢ group_error.Memory = λ e. cc in
    (some, range_filled q start was quitted dialog group desk done range reply group_error.Files n goes (fills some) t)

-- OVER is refused
pub range_refused : (q : Query) (start : Start) (was now : Option (List LinkEvent)) (dialog : Dialog) (group : GroupReply) (desk : Desk) (done : ℕ) (range : Range) (code : ℕ) → (n : IsNext q start was dialog group desk done range) →
    (x : IsMessageRefused start now (patience_of dialog) (messages_of q.group (take done (ranges_in q group))) (over_message range) n.under_way.replies code) × (goes_on x.reply ≡ false) → IndexWasRefused q start now code
range_refused q start was now dialog group desk done range code n (x, not) =
    let u = n.under_way in
    let refused : OverWasRefused q start now code = record {
      replies = u.replies ++ x.reply ∷ [];
      group = group;
      overs = u.overs;
      reply = x.reply;
      chosen = u.overview.chosen;
      answers = next_answers q start was dialog group desk done range x.reply n;
      chosen_code = u.overview.code;
      group_is = u.overview.group_is;
      each = u.overview.each;
      code_is = x.code_is;
      refused = not;
      more = omega (arith, u.count, slice_get_within (ranges_in q group) done range n.there);
      talked = quit_said q start was now dialog group desk done range (u.replies ++ x.reply ∷ []) n x.talked;
    } in
    inr refused

-- it has no reply
pub range_cut : (q : Query) (start : Start) (was now : Option (List LinkEvent)) (dialog : Dialog) (group : GroupReply) (desk : Desk) (done : ℕ) (range : Range) (reason : Why) → (n : IsNext q start was dialog group desk done range) →
    IsRangeCut start now (patience_of dialog) (messages_of q.group (take done (ranges_in q group))) range n.under_way.replies reason → IndexWasOver q start now reason
range_cut q start was now dialog group desk done range reason n x =
    let u = n.under_way in
    let less : done < length (ranges_in q group) = slice_get_within (ranges_in q group) done range n.there in
    let ends = subst (λ (ms : List Message). Ends start now (patience_of dialog) ms x.out reason u.replies) (messages_more q.group (ranges_in q group) done range n.there) x.ends in
    let within : WasOverWithin q start now reason = record {
      replies = u.replies;
      group = group;
      overs = u.overs;
      overview = u.overview;
      missing = omega (arith, u.count, less);
      asked = done + 1;
      few = omega (arith, less);
      out = x.out;
      ends = subst (λ (p : ℕ). Ends start now p (messages_of q.group (take (done + 1) (ranges_in q group))) x.out reason u.replies) u.patience ends;
    } in
    inr within

-- the link was over behind the reply before it
pub range_unasked : (q : Query) (start : Start) (now : Option (List LinkEvent)) (dialog : Dialog) (group : GroupReply) (desk : Desk) (done : ℕ) → IndexUnderWay q start now dialog group desk done false → done < length (ranges_in q group) → IndexWasOver q start now why.Unasked
range_unasked q start now dialog group desk done u less =
    let within : WasOverWithin q start now why.Unasked = record {
      replies = u.replies;
      group = group;
      overs = u.overs;
      overview = u.overview;
      missing = omega (arith, u.count, less);
      asked = done;
      few = omega (arith, less);
      out = u.stands.0;
      ends = subst (λ (p : ℕ). Ends start now p (messages_of q.group (take done (ranges_in q group))) u.stands.0 why.Unasked u.replies) u.patience u.stands.1;
    } in
    inr within

-- ---- all ranges have their replies

pub all_heard : (q : Query) (start : Start) (was now : Option (List LinkEvent)) (dialog : Dialog) (group : GroupReply) (desk : Desk) (done : ℕ) (live : Bool) → (u : IndexUnderWay q start was dialog group desk done live) → length (ranges_in q group) ≤ done →
    Talked start now (patience_of dialog) (messages_of q.group (take done (ranges_in q group)) ++ quit_message ∷ []) u.replies → HasHeardAll q start now desk
all_heard q start was now dialog group desk done live u all t =
    let talked = subst (λ (l : List Range). Talked start now (patience_of dialog) (messages_of q.group l ++ quit_message ∷ []) u.replies) (take_all done (ranges_in q group) all) t in
    record {
      replies = u.replies;
      group = group;
      overs = u.overs;
      overview = u.overview;
      all = omega (arith, u.count, all, u.overview.few);
      talked = subst (λ (p : ℕ). Talked start now p (messages_of q.group (ranges_in q group) ++ quit_message ∷ []) u.replies) u.patience talked;
      tallies = u.tallies;
    }

pub has_index : (q : Query) (start : Start) (now : Option (List LinkEvent)) (desk : Desk) (index : Index) (skipped : ℕ) → (h : HasHeardAll q start now desk) → IsIndexOfLines q.group (overs_in (lines_in h.overs)) index → skipped ≡ desk.skipped → HasIndexed q start now (record { index = index; skipped = skipped })
has_index q start now desk index skipped h is same = record {
  replies = h.replies;
  group = h.group;
  overs = h.overs;
  overview = h.overview;
  all = h.all;
  talked = h.talked;
  index = is;
  skipped = same ∙ h.tallies.skipped;
}

-- no memory was left for the index
pub has_none : (q : Query) (start : Start) (now : Option (List LinkEvent)) (desk : Desk) → HasHeardAll q start now desk → WasStopped q start now
has_none q start now desk h =
    let all : ranges_in q h.group ≡ take (length h.overs) (ranges_in q h.group) = sym (take_all (length h.overs) (ranges_in q h.group) (omega (arith, h.all))) in
    record {
      replies = h.replies;
      group = h.group;
      overs = h.overs;
      overview = h.overview;
      talked = subst (λ (l : List Range). Talked start now q.patience (messages_of q.group l ++ quit_message ∷ []) h.replies) all h.talked;
    }

-- ---- whether the link is live

pub still_live : (before now : List Bool) (link : ℕ) (live : Bool) → slice_get before link ≡ Some true → KeepsLiveIf before now live → live ≡ true → slice_get now link ≡ Some true
still_live before now link true was keeps is = ap (λ (l : List Bool). slice_get l link) keeps ∙ was
still_live before now link false was keeps is = cc
