-- The session of a post, part by part.
use Rattle.std.proofs.Common.{◌≡◌, ◌≢◌, ◌<◌, ◌+◌, ◌-◌, ◌*◌, ◌≤◌, ◌==◌, ℕ, Bool, true, false, List, [], ◌∷◌, ◌++◌, Option, Some, None, refl, ap, sym, subst, ◌∙◌, append_assoc, append-nil, length, set, take, arith, lit<, lit≤}
use Rattle.std.specs.Prelude.{nat_lt, slice_get, ◌&&◌}
use Rattle.std.proofs.lemmas.Bool.{ne_eqb}
use Rattle.std.proofs.lemmas.Bool.Decides.{nat_tests}
use Rattle.std.proofs.lemmas.List.{length-append, length-map, nil_from_length, take_at}
use Rattle.io_traits.specs.declared.links.LinkEvent.{LinkEvent}
use Rattle.io_traits.specs.Trace.{sent}
use Rattle.nntp_lines.specs.declared.why.Why.{Why}
use Rattle.link_dialog.specs.declared.dialog.Dialog.{Dialog}
use Rattle.link_dialog.specs.Dialog.{Message, AreFull, all_bytes, asked_by, login_messages, answers_of, answers_to, IsDialog}
use Rattle.link_dialog.specs.Moments.{why_over}
use Rattle.link_dialog.specs.Replies.{Reply}
use Rattle.link_dialog.specs.Talk.{Start, Rests, Ends, Talked, IsMessageRefused, bytes_said, patience_of, quit_message}
use Rattle.link_dialog.proofs.HeardCount.{whole_heard}
use Rattle.link_dialog.proofs.Sessions.{answers_more, count_of_answers as count_of_replies, no_answers, no_answers_at_end}
use Rattle.link_dialog.proofs.Standing.{bytes-append, full-append}
use Rattle.poster.specs.Said.{Made, IsMade, AreMade, blocks_of, post_message, part_messages, messages_of, NoneEmpty, post_length, part_end, is_permitted, ends_of, refusal_in, outcomes_of, out_of}
use Rattle.poster.specs.Session.{Session, whole, HasSent, StopsAt, WasOver, WasRefused, WasStopped}
use Rattle.poster.specs.Posting.{IsPartAnswered, IsOverAt, IsUnsent, IsArticleCut, UnderWay}
use Rattle.poster.specs.declared.index.PartEnd.{PartEnd}
use Rattle.poster.specs.declared.index.PartEnd.TheVariants.{NotSent}
use Rattle.poster.specs.declared.index.Sent.{Sent}
use Rattle.poster.specs.declared.settings.Settings.{Settings}
use Rattle.poster.proofs.SaidLemmas.{made_some, mades_some, made_more, blocks_more, messages-append, messages_full, count_of_messages, bytes_of_part, ends-append, count_of_ends, refusal-append, no_refusal, a_refusal, outcomes_more}
use Rattle.poster.proofs.StopLemmas.{stops_at}

-- two replies to each part
count_of_answers : (start : Start) (now : Option (List LinkEvent)) (dialog : Dialog) (blocks : List (List ℕ)) (replies : List Reply) → Rests start now dialog (messages_of blocks) replies → length (answers_of start.login replies) ≡ 2 * length blocks
count_of_answers start now dialog blocks replies r = count_of_replies start now dialog (messages_of blocks) replies r ∙ count_of_messages blocks

-- ---- the next part's outcome

-- the outcomes of the parts and the next one's, whatever number of bytes went out
noted_next : (total at out any : ℕ) (answers more : List Reply) (mades : List Made) (made : Made) (end : PartEnd) (before after : List Sent) →
    length answers ≡ 2 * length mades → length mades ≡ at → at < total → before ≡ outcomes_of total (ends_of answers any (blocks_of mades)) mades → after ≡ set before at (record { end = end; bytes = made.octets }) →
    ends_of more (out - length (all_bytes (messages_of (blocks_of mades)))) (made.block ∷ []) ≡ end ∷ [] →
    after ≡ outcomes_of total (ends_of (answers ++ more) out (blocks_of (mades ++ made ∷ []))) (mades ++ made ∷ [])
noted_next total at out any answers more mades made end before after count is less was set_is next =
    let blocks : List (List ℕ) = blocks_of mades in
    let same : length blocks ≡ length mades = length-map mades (λ (m : Made). m.block) in
    let ends : ends_of (answers ++ more) out (blocks_of (mades ++ made ∷ [])) ≡ ends_of answers any blocks ++ end ∷ [] =
    ap (λ l. ends_of (answers ++ more) out l) (blocks_more mades made) ∙ ends-append answers more out any blocks (made.block ∷ []) (omega (arith, count, same))
    ∙ ap (λ (l : List PartEnd). ends_of answers any blocks ++ l) next in
    let entry : Sent = record { end = end; bytes = made.octets } in
    set_is ∙ ap (λ (l : List Sent). set l at entry) was ∙ ap (λ n. set (outcomes_of total (ends_of answers any blocks) mades) n entry) (sym is)
    ∙ outcomes_more total (ends_of answers any blocks) mades end made (count_of_ends answers any blocks ∙ same) (omega (arith, is, less))
    ∙ ap (λ (l : List PartEnd). outcomes_of total l (mades ++ made ∷ [])) (sym ends)

-- ---- a part that is answered

pub part_answered : (s : Settings) (size total : ℕ) (content : Option (List ℕ)) (start : Start) (then now : Option (List LinkEvent)) (dialog : Dialog) (at part : ℕ) (made : Made) (end : PartEnd) (before after : List Sent) →
    (u : UnderWay s size total content start then dialog at before) → part ≡ at + 1 → part ≤ total → IsMade s size content part made → after ≡ set before at (record { end = end; bytes = made.octets }) →
    IsPartAnswered start now dialog (messages_of (blocks_of u.mades)) made.block u.replies end → UnderWay s size total content start now dialog part after
part_answered s size total content start then now dialog at part made end before after u next last m set_is a =
    let more : List Reply = a.permit ∷ a.answer ∷ [] in
    let blocks : List (List ℕ) = blocks_of u.mades in
    let same : length blocks ≡ length u.mades = length-map u.mades (λ (x : Made). x.block) in
    let told : answers_of start.login (u.replies ++ more) ≡ answers_of start.login u.replies ++ more = answers_more start then dialog (messages_of blocks) u.replies more u.rests in
    let count : length (answers_of start.login u.replies) ≡ 2 * length blocks = count_of_answers start then dialog blocks u.replies u.rests in
    let mades : List Made = u.mades ++ made ∷ [] in
    let out : ℕ = length (all_bytes (messages_of (blocks_of mades))) in
    let one : ends_of more (out - length (all_bytes (messages_of blocks))) (made.block ∷ []) ≡ end ∷ [] = ap (λ (e : PartEnd). e ∷ []) (sym a.end_is) in
    record {
      patience = u.patience;
      mades = mades;
      are_made = made_more s size content 1 part u.mades made (omega (arith, next, u.count)) u.are_made m;
      count = omega (arith, length-append u.mades (made ∷ []), u.count, next);
      replies = u.replies ++ more;
      rests = subst (λ (ms : List Message). Rests start now dialog ms (u.replies ++ more)) (sym (messages-append blocks (made.block ∷ [])) ∙ ap (λ l. messages_of l) (sym (blocks_more u.mades made))) a.rests;
      permitted = ap (λ l. refusal_in l) told ∙ refusal-append (answers_of start.login u.replies) more (length blocks) count u.permitted ∙ no_refusal a.permit (a.answer ∷ []) a.permitted (lit≤ tt);
      noted = noted_next total at out _ (answers_of start.login u.replies) more u.mades made end before after (omega (arith, count, same)) u.count (omega (arith, next, last)) u.noted set_is one
          ∙ ap (λ l. outcomes_of total (ends_of l out (blocks_of mades)) mades) (sym told);
    }

-- ---- the link is over

-- a dialog that is over is one of whatever parts were left
abbrev pub session_over : (s : Settings) (size total : ℕ) (content : Option (List ℕ)) (start : Start) (now : Option (List LinkEvent)) (mades : List Made) (front : List Message) (rest : List (List ℕ) → List Message) (out : List ℕ) (reason : Why) (replies : List Reply) →
    AreMade s size content 1 mades → 1 ≤ length mades → length mades ≤ total → ((more : List (List ℕ)) → front ++ rest more ≡ messages_of (blocks_of mades ++ more) ++ quit_message ∷ []) → ((more : List (List ℕ)) → NoneEmpty more → AreFull (rest more)) →
    Ends start now s.patience front out reason replies → Session whole s size total content start now
session_over s size total content start now mades front rest out reason replies are some few same full e = record {
  mades = mades;
  are_made = are;
  some = some;
  few = few;
  link = e.link;
  events = e.events;
  replies = replies;
  on_this = e.on_this;
  told = e.told;
  said = λ more more_some count. subst (λ (ms : List Message). IsDialog start.login ms s.patience e.events replies) (same more) (e.dialog (rest more) (full more more_some));
}

-- nothing of an article went out
pub over_unbegun : (s : Settings) (size total : ℕ) (content : Option (List ℕ)) (start : Start) (now : Option (List LinkEvent)) (mades : List Made) (front : List Message) (rest : List (List ℕ) → List Message) (out : List ℕ) (reason : Why) (replies : List Reply) →
    (are : AreMade s size content 1 mades) → (some : 1 ≤ length mades) → (few : length mades ≤ total) → (same : (more : List (List ℕ)) → front ++ rest more ≡ messages_of (blocks_of mades ++ more) ++ quit_message ∷ []) → (full : (more : List (List ℕ)) → NoneEmpty more → AreFull (rest more)) →
    (e : Ends start now s.patience front out reason replies) → refusal_in (answers_of start.login replies) ≡ None → out_of start.login replies e.events ≤ post_length → WasOver s size total content start now reason
over_unbegun s size total content start now mades front rest out reason replies are some few same full e permitted short = record {
  session = session_over s size total content start now mades front rest out reason replies are some few same full e;
  permitted = permitted;
  unbegun = λ begun. omega (arith, begun, short);
  over = λ more more_some count. subst (λ (ms : List Message). why_over s.patience (asked_by (login_messages start.login replies ++ ms)) e.events ≡ Some reason) (same more) (e.over (rest more) (full more more_some));
}

-- the link is over before the login is done
pub opening_over : (s : Settings) (size total : ℕ) (content : Option (List ℕ)) (start : Start) (now : Option (List LinkEvent)) (made : Made) (out : List ℕ) (reason : Why) (replies : List Reply) →
    IsMade s size content 1 made → 1 ≤ total → Ends start now s.patience [] out reason replies → WasOver s size total content start now reason
opening_over s size total content start now made out reason replies m few e =
    let login : List Message = login_messages start.login replies in
    let alone : IsDialog start.login [] s.patience e.events replies = e.dialog [] tt in
    let none : answers_of start.login replies ≡ [] = no_answers_at_end start now s.patience out reason replies e in
    let front : length (sent e.events) ≤ length (all_bytes login) =
    omega (arith, ap length alone.dialog.front.1, length-append (sent e.events) alone.dialog.front.0, ap (λ (ms : List Message). length (all_bytes ms)) (append-nil login)) in
    let short : out_of start.login replies e.events ≤ post_length = omega (arith, front) in
    over_unbegun s size total content start now (made ∷ []) [] (λ more. messages_of (made.block ∷ more) ++ quit_message ∷ []) out reason replies (m, tt) (lit≤ tt) few (λ more. refl)
    (λ more more_some. full-append (messages_of (made.block ∷ more)) (quit_message ∷ []) (messages_full (made.block ∷ more) (made_some s size content 1 made m, more_some)) (lit< tt, tt))
    e (ap (λ l. refusal_in l) none) short

-- how many bytes went out behind the login
out_at_end : (start : Start) (now : Option (List LinkEvent)) (dialog : Dialog) (blocks : List (List ℕ)) (replies more : List Reply) (out : List ℕ) (events : List LinkEvent) → Rests start now dialog (messages_of blocks) replies → sent events ≡ bytes_said start (messages_of blocks) replies ++ out →
    out_of start.login (replies ++ more) events ≡ length (all_bytes (messages_of blocks)) + length out
out_at_end start now dialog blocks replies more out events r bytes =
    let login : List Message = login_messages start.login replies in
    let same : length (all_bytes (login_messages start.login (replies ++ more))) ≡ length (all_bytes login) = ap (λ (ms : List Message). length (all_bytes ms)) (r.settled more) in
    omega (arith, ap length bytes, length-append (bytes_said start (messages_of blocks) replies) out, ap length (bytes-append login (messages_of blocks)), length-append (all_bytes login) (all_bytes (messages_of blocks)), same)

-- what was left to be said behind a part
abbrev pub rest_said : List (List ℕ) → List Message
rest_said more = messages_of more ++ quit_message ∷ []

rest_full : (more : List (List ℕ)) → NoneEmpty more → AreFull (rest_said more)
rest_full more some = full-append (messages_of more) (quit_message ∷ []) (messages_full more some) (lit< tt, tt)

rest_same : (mades : List Made) (made : Made) (more : List (List ℕ)) → (messages_of (blocks_of mades) ++ part_messages made.block) ++ rest_said more ≡ messages_of (blocks_of (mades ++ made ∷ []) ++ more) ++ quit_message ∷ []
rest_same mades made more =
    let blocks : List (List ℕ) = blocks_of mades in
    let part : List Message = part_messages made.block in
    sym (append_assoc (messages_of blocks ++ part) (messages_of more) (quit_message ∷ []))
    ∙ ap (λ ms. ms ++ quit_message ∷ [])
    (ap (λ ms. ms ++ messages_of more) (sym (messages-append blocks (made.block ∷ [])) ∙ ap (λ l. messages_of l) (sym (blocks_more mades made)))
    ∙ sym (messages-append (blocks_of (mades ++ made ∷ [])) more))

-- bytes of the parts that were posted
some_out : (blocks : List (List ℕ)) → NoneEmpty blocks → 1 ≤ length blocks → post_length < length (all_bytes (messages_of blocks))
some_out [] some many = absurd (omega (arith, many))
some_out (block ∷ blocks) some many = omega (arith, bytes_of_part block blocks, some.0)

-- ---- what a part was at the end of a link

no_byte : (permitted begun : Bool) → begun ≡ false → part_end None (permitted && begun) ≡ NotSent
no_byte true begun is = rw is refl
no_byte false begun is = refl

no_permit : (permitted begun : Bool) → permitted ≡ false → part_end None (permitted && begun) ≡ NotSent
no_permit permitted begun is = rw is refl

some_byte : (answer : Option Reply) (permitted begun : Bool) → permitted ≡ true → begun ≡ true → part_end answer (permitted && begun) ≡ part_end answer true
some_byte answer permitted begun one two = rw one (rw two refl)

-- no answer, and no byte
end_unsent : (answers : List Reply) (n : ℕ) → length answers ≤ 1 → n ≤ post_length → NotSent ≡ part_end (slice_get answers 1) (is_permitted answers && nat_lt post_length n)
end_unsent [] n few short = refl
end_unsent (reply ∷ []) n few short = let less : nat_lt post_length n ≡ false = grind (arith, nat_tests) in sym (no_byte (reply.code == 340) (nat_lt post_length n) less)
end_unsent (reply ∷ answer ∷ answers) n few short = absurd (omega (arith, few))

-- a byte, and maybe an answer
end_cut : (answers : List Reply) (n : ℕ) (end : PartEnd) → is_permitted answers ≡ true → post_length < n → end ≡ part_end (slice_get answers 1) true → end ≡ part_end (slice_get answers 1) (is_permitted answers && nat_lt post_length n)
end_cut answers n end permitted more is = let some : nat_lt post_length n ≡ true = grind (arith, nat_tests) in is ∙ sym (some_byte (slice_get answers 1) (is_permitted answers) (nat_lt post_length n) permitted some)

-- ---- the link is over at a part

-- a part whose article is made, behind those that were posted
pub record IsNext (s : Settings) (size total : ℕ) (content : Option (List ℕ)) (start : Start) (then : Option (List LinkEvent)) (dialog : Dialog) (at part : ℕ) (made : Made) (before : List Sent) : Type 0 where
  pub under_way : UnderWay s size total content start then dialog at before
  pub next : part ≡ at + 1
  pub last : part ≤ total
  pub made_is : IsMade s size content part made

next_made : (s : Settings) (size total : ℕ) (content : Option (List ℕ)) (start : Start) (then : Option (List LinkEvent)) (dialog : Dialog) (at part : ℕ) (made : Made) (before : List Sent) → (n : IsNext s size total content start then dialog at part made before) → AreMade s size content 1 (n.under_way.mades ++ made ∷ [])
next_made s size total content start then dialog at part made before n = made_more s size content 1 part n.under_way.mades made (omega (arith, n.next, n.under_way.count)) n.under_way.are_made n.made_is

-- the ending of the link, in the settings' terms
over_ends : (s : Settings) (start : Start) (now : Option (List LinkEvent)) (dialog : Dialog) (messages : List Message) (block : List ℕ) (replies answers : List Reply) (out : List ℕ) (reason : Why) → patience_of dialog ≡ s.patience → IsOverAt start now (patience_of dialog) messages block replies answers out reason
    → Ends start now s.patience (messages ++ part_messages block) (bytes_said start messages replies ++ out) reason (replies ++ answers)
over_ends s start now dialog messages block replies answers out reason is o = subst (λ (p : ℕ). Ends start now p (messages ++ part_messages block) (bytes_said start messages replies ++ out) reason (replies ++ answers)) is o.ends

permitted_all : (start : Start) (then : Option (List LinkEvent)) (dialog : Dialog) (blocks : List (List ℕ)) (replies more : List Reply) → Rests start then dialog (messages_of blocks) replies → refusal_in (answers_of start.login replies) ≡ None → refusal_in (answers_of start.login (replies ++ more)) ≡ refusal_in more
permitted_all start then dialog blocks replies more r none =
    ap (λ l. refusal_in l) (answers_more start then dialog (messages_of blocks) replies more r) ∙ refusal-append (answers_of start.login replies) more (length blocks) (count_of_answers start then dialog blocks replies r) none

-- the outcomes of all parts, where the next one ended so
noted_last : (s : Settings) (size total : ℕ) (content : Option (List ℕ)) (start : Start) (then : Option (List LinkEvent)) (dialog : Dialog) (at part out : ℕ) (made : Made) (end : PartEnd) (more : List Reply) (before after : List Sent) →
    (n : IsNext s size total content start then dialog at part made before) → after ≡ set before at (record { end = end; bytes = made.octets }) →
    end ≡ part_end (slice_get more 1) (is_permitted more && nat_lt post_length (out - length (all_bytes (messages_of (blocks_of n.under_way.mades))))) →
    after ≡ outcomes_of total (ends_of (answers_of start.login (n.under_way.replies ++ more)) out (blocks_of (n.under_way.mades ++ made ∷ []))) (n.under_way.mades ++ made ∷ [])
noted_last s size total content start then dialog at part out made end more before after n set_is is =
    let u = n.under_way in
    let blocks : List (List ℕ) = blocks_of u.mades in
    let mades : List Made = u.mades ++ made ∷ [] in
    let same : length blocks ≡ length u.mades = length-map u.mades (λ (x : Made). x.block) in
    noted_next total at out _ (answers_of start.login u.replies) more u.mades made end before after (omega (arith, count_of_answers start then dialog blocks u.replies u.rests, same)) u.count (omega (arith, n.next, n.last)) u.noted set_is
    (ap (λ (e : PartEnd). e ∷ []) (sym is))
    ∙ ap (λ l. outcomes_of total (ends_of l out (blocks_of mades)) mades) (sym (answers_more start then dialog (messages_of blocks) u.replies more u.rests))

-- the run stops at the part whose article was the last that was made
last_stops : (s : Settings) (size total : ℕ) (content : Option (List ℕ)) (start : Start) (then : Option (List LinkEvent)) (dialog : Dialog) (at part out : ℕ) (made : Made) (more : List Reply) (before after : List Sent) →
    (n : IsNext s size total content start then dialog at part made before) →
    after ≡ outcomes_of total (ends_of (answers_of start.login (n.under_way.replies ++ more)) out (blocks_of (n.under_way.mades ++ made ∷ []))) (n.under_way.mades ++ made ∷ []) →
    StopsAt (length (n.under_way.mades ++ made ∷ [])) after
last_stops s size total content start then dialog at part out made more before after n is =
    let u = n.under_way in
    let blocks : List (List ℕ) = blocks_of u.mades in
    let mades : List Made = u.mades ++ made ∷ [] in
    let answers : List Reply = answers_of start.login u.replies in
    let all : length (answers_of start.login (u.replies ++ more)) ≡ length answers + length more = ap length (answers_more start then dialog (messages_of blocks) u.replies more u.rests) ∙ length-append answers more in
    let before_it : length answers ≡ 2 * length blocks = count_of_answers start then dialog blocks u.replies u.rests in
    let same : length blocks ≡ length u.mades = length-map u.mades (λ (x : Made). x.block) in
    let count : length mades ≡ length u.mades + 1 = length-append u.mades (made ∷ []) in
    stops_at total out (answers_of start.login (u.replies ++ more)) mades after (omega (arith, count)) (omega (arith, count, u.count, n.next, n.last)) (omega (arith, all, before_it, same, count)) is

part_over : (s : Settings) (size total : ℕ) (content : Option (List ℕ)) (start : Start) (then now : Option (List LinkEvent)) (dialog : Dialog) (at part : ℕ) (made : Made) (end : PartEnd) (answers : List Reply) (out : List ℕ) (reason : Why) (before after : List Sent) →
    (n : IsNext s size total content start then dialog at part made before) → after ≡ set before at (record { end = end; bytes = made.octets }) →
    IsOverAt start now (patience_of dialog) (messages_of (blocks_of n.under_way.mades)) made.block n.under_way.replies answers out reason →
    end ≡ part_end (slice_get answers 1) (is_permitted answers && nat_lt post_length (length out)) →
    post_length < length (all_bytes (messages_of (blocks_of n.under_way.mades))) + length out → HasSent s size total content start now after
part_over s size total content start then now dialog at part made end answers out reason before after n set_is o is begun =
    let u = n.under_way in
    let blocks : List (List ℕ) = blocks_of u.mades in
    let mades : List Made = u.mades ++ made ∷ [] in
    let before_it : ℕ = length (all_bytes (messages_of blocks)) in
    let e = over_ends s start now dialog (messages_of blocks) made.block u.replies answers out reason u.patience o in
    let count : length mades ≡ part = omega (arith, length-append u.mades (made ∷ []), u.count, n.next) in
    let all_out : out_of start.login (u.replies ++ answers) e.events ≡ before_it + length out = out_at_end start then dialog blocks u.replies answers out e.events u.rests e.bytes in
    let own_out : length out ≡ out_of start.login (u.replies ++ answers) e.events - before_it = omega (arith, all_out) in
    let noted = noted_last s size total content start then dialog at part (out_of start.login (u.replies ++ answers) e.events) made end answers before after n set_is
    (is ∙ ap (λ k. part_end (slice_get answers 1) (is_permitted answers && nat_lt post_length k)) own_out) in
    record {
      session = session_over s size total content start now mades (messages_of blocks ++ part_messages made.block) rest_said (bytes_said start (messages_of blocks) u.replies ++ out) reason (u.replies ++ answers)
          (next_made s size total content start then dialog at part made before n) (omega (arith, count, n.next)) (omega (arith, count, n.last)) (rest_same u.mades made) rest_full e;
      permitted = permitted_all start then dialog blocks u.replies answers u.rests u.permitted ∙ o.permitted;
      begun = omega (arith, begun, all_out);
      outcomes = noted;
      stops = last_stops s size total content start then dialog at part (out_of start.login (u.replies ++ answers) e.events) made answers before after n noted;
    }

pub part_cut : (s : Settings) (size total : ℕ) (content : Option (List ℕ)) (start : Start) (then now : Option (List LinkEvent)) (dialog : Dialog) (at part : ℕ) (made : Made) (end : PartEnd) (before after : List Sent) →
    (n : IsNext s size total content start then dialog at part made before) → after ≡ set before at (record { end = end; bytes = made.octets }) →
    IsArticleCut start now (patience_of dialog) (messages_of (blocks_of n.under_way.mades)) made.block n.under_way.replies end → HasSent s size total content start now after
part_cut s size total content start then now dialog at part made end before after n set_is x =
    part_over s size total content start then now dialog at part made end x.answers x.out x.reason before after n set_is x.over (end_cut x.answers (length x.out) end x.permitted x.begun x.end_is) (omega (arith, x.begun))

-- a later part of which nothing went out
pub part_unsent : (s : Settings) (size total : ℕ) (content : Option (List ℕ)) (start : Start) (then now : Option (List LinkEvent)) (dialog : Dialog) (at part : ℕ) (made : Made) (reason : Why) (before after : List Sent) → 1 ≤ at →
    (n : IsNext s size total content start then dialog at part made before) → after ≡ set before at (record { end = NotSent; bytes = made.octets }) →
    IsUnsent start now (patience_of dialog) (messages_of (blocks_of n.under_way.mades)) made.block n.under_way.replies reason → HasSent s size total content start now after
part_unsent s size total content start then now dialog at part made reason before after later n set_is x =
    let u = n.under_way in
    let blocks : List (List ℕ) = blocks_of u.mades in
    let many : 1 ≤ length blocks = omega (arith, length-map u.mades (λ (m : Made). m.block), u.count, later) in
    part_over s size total content start then now dialog at part made NotSent x.answers x.out reason before after n set_is x.over (end_unsent x.answers (length x.out) x.unanswered x.unbegun)
    (omega (arith, some_out blocks (mades_some s size content 1 u.mades u.are_made) many))

-- the first part, of which nothing went out
pub first_unsent : (s : Settings) (size total : ℕ) (content : Option (List ℕ)) (start : Start) (then now : Option (List LinkEvent)) (dialog : Dialog) (at part : ℕ) (made : Made) (reason : Why) (before : List Sent) → at ≡ 0 →
    (n : IsNext s size total content start then dialog at part made before) →
    IsUnsent start now (patience_of dialog) (messages_of (blocks_of n.under_way.mades)) made.block n.under_way.replies reason → WasOver s size total content start now reason
first_unsent s size total content start then now dialog at part made reason before first n x =
    let u = n.under_way in
    let blocks : List (List ℕ) = blocks_of u.mades in
    let mades : List Made = u.mades ++ made ∷ [] in
    let none : u.mades ≡ [] = nil_from_length u.mades (omega (arith, u.count, first)) in
    let e = over_ends s start now dialog (messages_of blocks) made.block u.replies x.answers x.out reason u.patience x.over in
    let count : length mades ≡ part = omega (arith, length-append u.mades (made ∷ []), u.count, n.next) in
    let nothing : length (all_bytes (messages_of blocks)) ≡ 0 = ap (λ (ms : List Made). length (all_bytes (messages_of (blocks_of ms)))) none in
    let all_out : out_of start.login (u.replies ++ x.answers) e.events ≡ length (all_bytes (messages_of blocks)) + length x.out = out_at_end start then dialog blocks u.replies x.answers x.out e.events u.rests e.bytes in
    over_unbegun s size total content start now mades (messages_of blocks ++ part_messages made.block) rest_said (bytes_said start (messages_of blocks) u.replies ++ x.out) reason (u.replies ++ x.answers)
    (next_made s size total content start then dialog at part made before n) (omega (arith, count, n.next)) (omega (arith, count, n.last)) (rest_same u.mades made) rest_full e
    (permitted_all start then dialog blocks u.replies x.answers u.rests u.permitted ∙ x.over.permitted) (omega (arith, all_out, nothing, x.unbegun))

-- ---- POST is refused

pub part_refused : (s : Settings) (size total : ℕ) (content : Option (List ℕ)) (start : Start) (then now : Option (List LinkEvent)) (dialog : Dialog) (at part : ℕ) (made : Made) (code : ℕ) (before after : List Sent) →
    (n : IsNext s size total content start then dialog at part made before) → after ≡ set before at (record { end = NotSent; bytes = made.octets }) →
    code ≢ 340 → IsMessageRefused start now (patience_of dialog) (messages_of (blocks_of n.under_way.mades)) post_message n.under_way.replies code → WasRefused s size total content start now code after
part_refused s size total content start then now dialog at part made code before after n set_is other x =
    let u = n.under_way in
    let blocks : List (List ℕ) = blocks_of u.mades in
    let mades : List Made = u.mades ++ made ∷ [] in
    let more : List Reply = x.reply ∷ [] in
    let count : length mades ≡ part = omega (arith, length-append u.mades (made ∷ []), u.count, n.next) in
    let t = x.talked in
    let not : x.reply.code ≢ 340 = λ e. other (sym x.code_is ∙ e) in
    let differs : (x.reply.code == 340) ≡ false = ne_eqb x.reply.code 340 not in
    let cut : length blocks ≡ length (blocks ++ made.block ∷ []) - 1 = omega (arith, length-append blocks (made.block ∷ [])) in
    let but_last : blocks ≡ take (length (blocks_of mades) - 1) (blocks_of mades) = sym (ap (λ l. take (length l - 1) l) (blocks_more u.mades made) ∙ take_at blocks (made.block ∷ []) (length (blocks ++ made.block ∷ []) - 1) cut) in
    let said = subst (λ (p : ℕ). IsDialog start.login (messages_of blocks ++ post_message ∷ quit_message ∷ []) p t.events (u.replies ++ more)) u.patience
    (subst (λ (ms : List Message). IsDialog start.login ms (patience_of dialog) t.events (u.replies ++ more)) (append_assoc (messages_of blocks) (post_message ∷ []) (quit_message ∷ [])) t.dialog) in
    let noted = noted_last s size total content start then dialog at part (out_of start.login (u.replies ++ more) t.events) made NotSent more before after n set_is
    (sym (no_permit (x.reply.code == 340) (nat_lt post_length (out_of start.login (u.replies ++ more) t.events - length (all_bytes (messages_of blocks)))) differs)) in
    record {
      session = record {
        mades = mades;
        are_made = next_made s size total content start then dialog at part made before n;
        some = omega (arith, count, n.next);
        few = omega (arith, count, n.last);
        link = t.link;
        events = t.events;
        replies = u.replies ++ more;
        on_this = t.on_this;
        told = t.told;
        said = subst (λ (l : List (List ℕ)). IsDialog start.login (messages_of l ++ post_message ∷ quit_message ∷ []) s.patience t.events (u.replies ++ more)) but_last said;
      };
      refusal = permitted_all start then dialog blocks u.replies more u.rests u.permitted ∙ a_refusal x.reply not ∙ ap (λ k. Some k) x.code_is;
      outcomes = noted;
      stops = last_stops s size total content start then dialog at part (out_of start.login (u.replies ++ more) t.events) made more before after n noted;
    }

-- ---- QUIT

-- the outcomes of parts that have their answers, whatever number of bytes went out
ends_any : (answers : List Reply) (out any : ℕ) (blocks : List (List ℕ)) → length answers ≡ 2 * length blocks → ends_of answers out blocks ≡ ends_of answers any blocks
ends_any answers out any blocks count =
    ap (λ l. ends_of l out blocks) (sym (append-nil answers)) ∙ ap (λ l. ends_of (answers ++ []) out l) (sym (append-nil blocks)) ∙ ends-append answers [] out any blocks [] count
    ∙ append-nil (ends_of answers any blocks)

-- all that was said to have its replies went out
pub all_quit : (s : Settings) (size total : ℕ) (content : Option (List ℕ)) (start : Start) (then now : Option (List LinkEvent)) (dialog : Dialog) (done : ℕ) (sent_list : List Sent) → (u : UnderWay s size total content start then dialog done sent_list) → done ≡ total → 1 ≤ total →
    Talked start now (patience_of dialog) (messages_of (blocks_of u.mades) ++ quit_message ∷ []) u.replies → HasSent s size total content start now sent_list
all_quit s size total content start then now dialog done sent_list u all some t =
    let blocks : List (List ℕ) = blocks_of u.mades in
    let login : List Message = login_messages start.login u.replies in
    let first : List Message = login ++ messages_of blocks in
    let same : length blocks ≡ length u.mades = length-map u.mades (λ (m : Made). m.block) in
    let dialog_is = subst (λ (p : ℕ). IsDialog start.login (messages_of blocks ++ quit_message ∷ []) p t.events u.replies) u.patience t.dialog in
    let said : (more : List (List ℕ)) → NoneEmpty more → length blocks + length more ≡ total → IsDialog start.login (messages_of (blocks ++ more) ++ quit_message ∷ []) s.patience t.events u.replies =
    λ more more_some count. (let none : more ≡ [] = nil_from_length more (omega (arith, count, same, u.count, all)) in
    subst (λ (l : List (List ℕ)). IsDialog start.login (messages_of l ++ quit_message ∷ []) s.patience t.events u.replies) (sym (ap (λ l. blocks ++ l) none ∙ append-nil blocks)) dialog_is) in
    let heard : answers_to s.patience (first ++ quit_message ∷ []) t.events ≡ u.replies = ap (λ ms. answers_to s.patience ms t.events) (append_assoc login (messages_of blocks) (quit_message ∷ [])) ∙ dialog_is.answers in
    let count : length first + 1 ≤ length u.replies = omega (arith, u.rests.stands.count) in
    let went : length (all_bytes first) ≤ length (sent t.events) = whole_heard s.patience first (quit_message ∷ []) t.events u.replies heard count in
    let both : length (all_bytes first) ≡ length (all_bytes login) + length (all_bytes (messages_of blocks)) = ap length (bytes-append login (messages_of blocks)) ∙ length-append (all_bytes login) (all_bytes (messages_of blocks)) in
    let parts : post_length < length (all_bytes (messages_of blocks)) = some_out blocks (mades_some s size content 1 u.mades u.are_made) (omega (arith, same, u.count, all, some)) in
    let answers = count_of_answers start then dialog blocks u.replies u.rests in
    let noted : sent_list ≡ outcomes_of total (ends_of (answers_of start.login u.replies) (out_of start.login u.replies t.events) blocks) u.mades = u.noted ∙ ap (λ (ends : List PartEnd). outcomes_of total ends u.mades) (ends_any (answers_of start.login u.replies) _ (out_of start.login u.replies t.events) blocks answers) in
    record {
      session = record {
        mades = u.mades;
        are_made = u.are_made;
        some = omega (arith, u.count, all, some);
        few = omega (arith, u.count, all);
        link = t.link;
        events = t.events;
        replies = u.replies;
        on_this = t.on_this;
        told = t.told;
        said = said;
      };
      permitted = u.permitted;
      begun = omega (arith, went, both, parts);
      outcomes = noted;
      stops = stops_at total (out_of start.login u.replies t.events) (answers_of start.login u.replies) u.mades sent_list (omega (arith, u.count, all, some)) (omega (arith, u.count, all)) (omega (arith, answers, same)) noted;
    }

-- the next part isn't made
pub part_stopped : (s : Settings) (size total : ℕ) (content : Option (List ℕ)) (start : Start) (then now : Option (List LinkEvent)) (dialog : Dialog) (done : ℕ) (sent_list : List Sent) → (u : UnderWay s size total content start then dialog done sent_list) → 1 ≤ done → done < total →
    Talked start now (patience_of dialog) (messages_of (blocks_of u.mades) ++ quit_message ∷ []) u.replies → WasStopped s size total content start now
part_stopped s size total content start then now dialog done sent_list u some more t =
    let blocks : List (List ℕ) = blocks_of u.mades in
    let same : length blocks ≡ length u.mades = length-map u.mades (λ (m : Made). m.block) in
    record {
      session = record {
        mades = u.mades;
        are_made = u.are_made;
        some = omega (arith, u.count, some);
        few = omega (arith, u.count, more);
        link = t.link;
        events = t.events;
        replies = u.replies;
        on_this = t.on_this;
        told = t.told;
        said = subst (λ (p : ℕ). IsDialog start.login (messages_of blocks ++ quit_message ∷ []) p t.events u.replies) u.patience t.dialog;
      };
      more = omega (arith, u.count, more);
      permitted = u.permitted;
      answered = omega (arith, count_of_answers start then dialog blocks u.replies u.rests, same);
    }

-- ---- at the start

-- a dialog was opened, and no part was posted
pub begins : (s : Settings) (size total : ℕ) (content : Option (List ℕ)) (start : Start) (now : Option (List LinkEvent)) (dialog : Dialog) (replies : List Reply) (sent_list : List Sent) → patience_of dialog ≡ s.patience → Rests start now dialog [] replies → sent_list ≡ outcomes_of total [] [] → UnderWay s size total content start now dialog 0 sent_list
begins s size total content start now dialog replies sent_list patience r is =
    let none : answers_of start.login replies ≡ [] = no_answers start now dialog replies r in
    record {
      patience = patience;
      mades = [];
      are_made = tt;
      count = refl;
      replies = replies;
      rests = r;
      permitted = ap (λ l. refusal_in l) none;
      noted = is;
    }
