-- At each moment of each lawful trace what is carried of a link is what the link's own events say.
use Rattle.std.proofs.Common.{◌≡◌, ◌≢◌, ◌+◌, ◌<◌, inl, inr, zero, suc, ℕ, Bool, true, false, List, [], ◌∷◌, ◌++◌, Option, Some, None, length, map, refl, ap, sym, subst, ◌∙◌, arith, append_assoc, append-nil}
use Rattle.std.specs.Prelude.{slice_get, cond, is_some, nat_le, ◌==◌, filter}
use Rattle.std.proofs.lemmas.Bool.Decides.{nat_tests}
use Rattle.io_traits.specs.declared.links.LinkEvent.{LinkEvent}
use Rattle.io_traits.specs.declared.links.LinkEvent.TheVariants as event
use Rattle.io_traits.specs.Trace.{link_of, on_link}
use Rattle.link_dialog.specs.declared.awaited.Awaited.{Awaited}
use Rattle.link_dialog.specs.declared.awaited.Awaited.TheVariants.{Greeting}
use Rattle.link_dialog.specs.Events.{fine, single_bytes}
use Rattle.nntp_lines.specs.declared.why.Why.{Why}
use Rattle.link_dialog.specs.Reading.{RepliesRead}
use Rattle.link_dialog.specs.Replies.{Reply}
use Rattle.link_dialog.specs.Moments.{IsListening, state_of, reading_at, why_at, why_over, replies_heard}
use Rattle.link_dialog.specs.Dialog.{Message, AreFull, asked_by}
use Rattle.link_dialog.proofs.EventSteps.{fine-append}
use Rattle.lists.specs.Edit.{edit_at}
use Rattle.fetch_trace.proofs.Lists.{same_or_not}
use Rattle.pipeline_core.proofs.Full.{get-edit_other}
use Rattle.fetch_trace.specs.Setting.{Opening, Setting}
use Rattle.fetch_trace.specs.Hearing.{Hearing, after_byte, after_quiet, after_end, whole_by}
use Rattle.fetch_trace.specs.LinkNow.{LinkNow, fresh_link, is_over, is_ready, with_hearing}
use Rattle.fetch_trace.specs.Standing.{Standing, before_all, pipeline_of, with_link, is_number, place_from, by_link, by_place, on_number}
use Rattle.fetch_trace.specs.Due.{Due, due_on}
use Rattle.fetch_trace.specs.Moving.{begins, says, sends, loses, replies_by, hears_byte, is_quiet, is_lost, hears, moved, moved_by}
use Rattle.fetch_trace.specs.Lawful.{IsPieceDue, MayCome, IsLawful}
use Rattle.fetch_trace.specs.HeardOn.{HeardBy, HeardOn, AreHeardOn, LinksAreHeard, ToldOn, LinksAreTold}
use Rattle.fetch_trace.proofs.Lists.{edit-nothing}
use Rattle.fetch_trace.proofs.HeldSteps.{get_now}
use Rattle.fetch_trace.proofs.Sending.{place-kept}
use Rattle.fetch_trace.proofs.HeardSteps.{as_heard, loses_becomes, replies_becomes, either, heard_same, over_step, byte_step, quiet_step, end_step, sent_step}

-- ---- the events on one link

filter_append : (p : LinkEvent → Bool) (first second : List LinkEvent) → filter p (first ++ second) ≡ filter p first ++ filter p second
filter_append p [] second = refl
filter_append p (e ∷ first) second = by (p e) (filter_append p first second)
  where
    by : (b : Bool) → filter p (first ++ second) ≡ filter p first ++ filter p second → cond b (e ∷ filter p (first ++ second)) (filter p (first ++ second)) ≡ cond b (e ∷ filter p first) (filter p first) ++ filter p second
    by true is = ap (λ (es : List LinkEvent). e ∷ es) is
    by false is = is

on_one : (n : ℕ) (e : LinkEvent) → link_of e ≡ n → on_link n (e ∷ []) ≡ e ∷ []
on_one n e is = let test : (link_of e == n) ≡ true = grind (arith, nat_tests) in rw test refl

on_none : (n : ℕ) (e : LinkEvent) → link_of e ≢ n → on_link n (e ∷ []) ≡ []
on_none n e other = let test : (link_of e == n) ≡ false = grind (arith, nat_tests) in rw test refl

pub on_more : (n : ℕ) (m : List LinkEvent) (e : LinkEvent) → link_of e ≡ n → on_link n (m ++ e ∷ []) ≡ on_link n m ++ e ∷ []
on_more n m e is = filter_append (λ (x : LinkEvent). link_of x == n) m (e ∷ []) ∙ ap (λ (es : List LinkEvent). on_link n m ++ es) (on_one n e is)

pub on_other : (n : ℕ) (m : List LinkEvent) (e : LinkEvent) → link_of e ≢ n → on_link n (m ++ e ∷ []) ≡ on_link n m
on_other n m e other = filter_append (λ (x : LinkEvent). link_of x == n) m (e ∷ []) ∙ ap (λ (es : List LinkEvent). on_link n m ++ es) (on_none n e other) ∙ append-nil (on_link n m)

-- a piece is its bytes
singles_by : (k n : ℕ) (bytes : List ℕ) (b : Bool) → (n == k) ≡ b → on_link k (single_bytes n bytes) ≡ cond b (single_bytes n bytes) []
singles_by k n [] true is = refl
singles_by k n [] false is = refl
singles_by k n (byte ∷ bytes) true is = rw is (ap (λ (es : List LinkEvent). event.Heard n (byte ∷ []) ∷ es) (singles_by k n bytes true is))
singles_by k n (byte ∷ bytes) false is = rw is (singles_by k n bytes false is)

fine_singles : (n : ℕ) (bytes : List ℕ) → fine (single_bytes n bytes) ≡ single_bytes n bytes
fine_singles n [] = refl
fine_singles n (byte ∷ bytes) = ap (λ (es : List LinkEvent). event.Heard n (byte ∷ []) ∷ es) (fine_singles n bytes)

piece_by : (k n : ℕ) (bytes : List ℕ) (b : Bool) → (n == k) ≡ b → fine (on_link k (single_bytes n bytes)) ≡ fine (on_link k (event.Heard n bytes ∷ []))
piece_by k n bytes true is = ap fine (singles_by k n bytes true is) ∙ fine_singles n bytes ∙ sym (rw is (append-nil (single_bytes n bytes)))
piece_by k n bytes false is = ap fine (singles_by k n bytes false is) ∙ sym (rw is refl)

piece_same : (k n : ℕ) (m : List LinkEvent) (bytes : List ℕ) → fine (on_link k (m ++ single_bytes n bytes)) ≡ fine (on_link k (m ++ event.Heard n bytes ∷ []))
piece_same k n m bytes =
    ap fine (filter_append (λ (x : LinkEvent). link_of x == k) m (single_bytes n bytes)) ∙ fine-append (on_link k m) (on_link k (single_bytes n bytes))
    ∙ ap (λ (es : List LinkEvent). fine (on_link k m) ++ es) (piece_by k n bytes (n == k) refl)
    ∙ sym (fine-append (on_link k m) (on_link k (event.Heard n bytes ∷ []))) ∙ sym (ap fine (filter_append (λ (x : LinkEvent). link_of x == k) m (event.Heard n bytes ∷ [])))

-- ---- the place of a link

record Found (b n i : ℕ) (links : List LinkNow) : Type 0 where
  j : ℕ
  at : i ≡ b + j
  l : LinkNow
  here : slice_get links j ≡ Some l
  number : l.opening.number ≡ Some n

number_is : (n : ℕ) (o : Option ℕ) → is_number n o ≡ true → o ≡ Some n
number_is n None is = cc
number_is n (Some m) is = let same : m ≡ n = grind (arith, nat_tests) in ap (λ k. Some k) same

found_by : (b n : ℕ) (l : LinkNow) (links : List LinkNow) (i : ℕ) (t : Bool) → is_number n l.opening.number ≡ t → cond t (Some b) (place_from (b + 1) n links) ≡ Some i → (place_from (b + 1) n links ≡ Some i → Found (b + 1) n i links) → Found b n i (l ∷ links)
found_by b n l links i true own is rest = let same : b ≡ i = cc in record { j = 0; at = sym same ∙ (let z : b ≡ b + 0 = omega arith in z); l = l; here = refl; number = number_is n l.opening.number own }
found_by b n l links i false own is rest = let f = rest is in let at = f.at in record { j = suc f.j; at = omega (arith, at); l = f.l; here = f.here; number = f.number }

found : (b n : ℕ) (links : List LinkNow) (i : ℕ) → place_from b n links ≡ Some i → Found b n i links
found b n [] i is = cc
found b n (l ∷ links) i is = found_by b n l links i (is_number n l.opening.number) refl is (λ rest. found (b + 1) n links i rest)

-- the link at its number's place has the number
pub number_at : (n i : ℕ) (links : List LinkNow) (l : LinkNow) → place_from 0 n links ≡ Some i → slice_get links i ≡ Some l → l.opening.number ≡ Some n
number_at n i links l is here =
    let f = found 0 n links i is in
    let at : i ≡ f.j = f.at ∙ (let z : 0 + f.j ≡ f.j = omega arith in z) in
    let both : Some f.l ≡ Some l = sym f.here ∙ ap (λ k. slice_get links k) (sym at) ∙ here in
    let same : f.l ≡ l = cc in
    ap (λ (a : LinkNow). a.opening.number) (sym same) ∙ f.number

-- ---- an event

record MovedTo (setting : Setting) (s after : Standing) (i : ℕ) (l : LinkNow) (own now_own : List LinkEvent) : Type 0 where
  now : LinkNow
  links : after.links ≡ edit_at i (λ old. now) s.links
  opening : now.opening ≡ l.opening
  step : HeardOn setting own l → HeardOn setting now_own now

pub one_some : (i j : ℕ) → Some i ≡ Some j → i ≡ j
one_some i j is = cc

at_link : (setting : Setting) (s after : Standing) (k j : ℕ) (m : List LinkEvent) (e : LinkEvent) (lj : LinkNow) → link_of e ≡ k → place_from 0 k s.links ≡ Some j → slice_get s.links j ≡ Some lj → MovedTo setting s after j lj (on_link k m) (on_link k m ++ e ∷ []) → AreHeardOn setting s m → AreHeardOn setting after (m ++ e ∷ [])
at_link setting s after k j m e lj is place here to old i n l there number at =
    let links = to.links in
    let kept : place_from 0 n s.links ≡ Some i = sym (place-kept 0 n s.links j lj to.now here to.opening) ∙ ap (λ (ls : List LinkNow). place_from 0 n ls) (sym links) ∙ at in
    let numbered : lj.opening.number ≡ Some k = number_at k j s.links lj place here in
    elim (same_or_not i j) [
      | inl e_same ↦ (let both : Some l ≡ Some to.now = sym there ∙ ap (λ (ls : List LinkNow). slice_get ls i) links ∙ ap (λ p. slice_get (edit_at j (λ old. to.now) s.links) p) e_same ∙ get_now s.links j lj to.now here in
          let same : to.now ≡ l = cc in
          let numbers : Some n ≡ Some k = sym number ∙ ap (λ (a : LinkNow). a.opening.number) (sym same) ∙ ap (λ (o : Opening). o.number) to.opening ∙ numbered in
          let n_is : k ≡ n = cc in
          let P : ℕ → Type 0 = λ p. HeardOn setting (on_link p (m ++ e ∷ [])) to.now in
          let Q : List LinkEvent → Type 0 = λ es. HeardOn setting es to.now in
          subst (λ (a : LinkNow). HeardOn setting (on_link n (m ++ e ∷ [])) a) same (subst P n_is (subst Q (sym (on_more k m e is)) (to.step (old j k lj here numbered place)))))
      | inr apart ↦ (let was : slice_get s.links i ≡ Some l = sym (get-edit_other s.links j i (λ old. to.now) apart) ∙ ap (λ (ls : List LinkNow). slice_get ls i) (sym links) ∙ there in
          let other : link_of e ≢ n = λ same. apart (one_some i j (sym kept ∙ ap (λ p. place_from 0 p s.links) (sym same ∙ is) ∙ place)) in
          subst (λ (es : List LinkEvent). HeardOn setting es l) (sym (on_other n m e other)) (old i n l was number kept))
    ]

-- an event on no link
at_none : (setting : Setting) (s : Standing) (k : ℕ) (m : List LinkEvent) (e : LinkEvent) → link_of e ≡ k → ((i : ℕ) (l : LinkNow) → place_from 0 k s.links ≡ Some i → slice_get s.links i ≡ Some l → ⊥) → AreHeardOn setting s m → AreHeardOn setting s (m ++ e ∷ [])
at_none setting s k m e is none old i n l there number at =
    let other : link_of e ≢ n = λ same. none i l (ap (λ p. place_from 0 p s.links) (sym is ∙ same) ∙ at) there in
    subst (λ (es : List LinkEvent). HeardOn setting es l) (sym (on_other n m e other)) (old i n l there number at)

by_links : (setting : Setting) (s : Standing) (f : ℕ → LinkNow → Standing → Standing) (k j : ℕ) (m : List LinkEvent) (e : LinkEvent) (o : Option LinkNow) → link_of e ≡ k → place_from 0 k s.links ≡ Some j → slice_get s.links j ≡ o → ((i : ℕ) (l : LinkNow) → place_from 0 k s.links ≡ Some i → slice_get s.links i ≡ Some l → MovedTo setting s (f i l s) i l (on_link k m) (on_link k m ++ e ∷ [])) → AreHeardOn setting s m → AreHeardOn setting (by_link f j o s) (m ++ e ∷ [])
by_links setting s f k j m e (Some lj) is place here each old = at_link setting s (f j lj s) k j m e lj is place here (each j lj place here) old
by_links setting s f k j m e None is place here each old = at_none setting s k m e is (λ i l at there. (let same : i ≡ j = one_some i j (sym at ∙ place) in let no : Some l ≡ None = sym there ∙ ap (λ p. slice_get s.links p) same ∙ here in cc)) old

by_places : (setting : Setting) (s : Standing) (f : ℕ → LinkNow → Standing → Standing) (k : ℕ) (m : List LinkEvent) (e : LinkEvent) (o : Option ℕ) → link_of e ≡ k → place_from 0 k s.links ≡ o → ((i : ℕ) (l : LinkNow) → place_from 0 k s.links ≡ Some i → slice_get s.links i ≡ Some l → MovedTo setting s (f i l s) i l (on_link k m) (on_link k m ++ e ∷ [])) → AreHeardOn setting s m → AreHeardOn setting (by_place f o s) (m ++ e ∷ [])
by_places setting s f k m e (Some j) is place each old = by_links setting s f k j m e (slice_get s.links j) is place refl each old
by_places setting s f k m e None is place each old = at_none setting s k m e is (λ i l at there. (let no : Some i ≡ None = sym at ∙ place in cc)) old

by_number : (setting : Setting) (s : Standing) (f : ℕ → LinkNow → Standing → Standing) (k : ℕ) (m : List LinkEvent) (e : LinkEvent) → link_of e ≡ k → ((i : ℕ) (l : LinkNow) → place_from 0 k s.links ≡ Some i → slice_get s.links i ≡ Some l → MovedTo setting s (f i l s) i l (on_link k m) (on_link k m ++ e ∷ [])) → AreHeardOn setting s m → AreHeardOn setting (on_number f k s) (m ++ e ∷ [])
by_number setting s f k m e is each old = by_places setting s f k m e (place_from 0 k s.links) is refl each old

-- ---- each kind of event

nothing_moves : (setting : Setting) (s : Standing) (i n : ℕ) (l : LinkNow) (own : List LinkEvent) (e : LinkEvent) → slice_get s.links i ≡ Some l → (HeardOn setting own l → HeardOn setting (own ++ e ∷ []) l) → MovedTo setting s s i l own (own ++ e ∷ [])
nothing_moves setting s i n l own e here step = record { now = l; links = sym (edit-nothing s.links i (λ old. l) l here refl); opening = refl; step = step }

byte_moves : (setting : Setting) (s : Standing) (i n byte : ℕ) (l : LinkNow) (own : List LinkEvent) (b : Bool) → 0 < setting.patience → slice_get s.links i ≡ Some l → l.opening.number ≡ Some n → is_over l ≡ b → MovedTo setting s (cond b s (replies_by (after_byte byte l.hearing) (whole_by l.hearing.waiting (l.hearing.rest ++ byte ∷ [])) (is_ready l) i l s)) i l own (own ++ event.Heard n (byte ∷ []) ∷ [])
byte_moves setting s i n byte l own true some here number over = nothing_moves setting s i n l own (event.Heard n (byte ∷ [])) here (over_step setting own (event.Heard n (byte ∷ [])) l n refl refl number over)
byte_moves setting s i n byte l own false some here number live =
    let to = replies_becomes s i l (after_byte byte l.hearing) (whole_by l.hearing.waiting (l.hearing.rest ++ byte ∷ [])) (is_ready l) in
    record { now = to.now; links = to.links; opening = to.opening_is; step = byte_step setting own n byte l to.now some live to.hearing_is to.saying_is to.commands_are }

quiet_moves : (setting : Setting) (s : Standing) (i n : ℕ) (l : LinkNow) (own : List LinkEvent) (b : Bool) → slice_get s.links i ≡ Some l → l.opening.number ≡ Some n → is_over l ≡ b →
    MovedTo setting s (cond b s (cond (is_some (after_quiet setting.patience l.hearing).over) (loses (after_quiet setting.patience l.hearing) i l s) (with_link i (with_hearing (after_quiet setting.patience l.hearing) l) s))) i l own (own ++ event.Quiet n ∷ [])
quiet_moves setting s i n l own true here number over = nothing_moves setting s i n l own (event.Quiet n) here (over_step setting own (event.Quiet n) l n refl refl number over)
quiet_moves setting s i n l own false here number live =
    let hearing = after_quiet setting.patience l.hearing in
    let to = either s (loses hearing i l s) (with_link i (with_hearing hearing l) s) i l hearing (is_some hearing.over) (loses_becomes s i l hearing) (as_heard s i l hearing) in
    record { now = to.now; links = to.links; opening = to.opening_is; step = quiet_step setting own n l to.now live to.hearing_is to.saying_is to.commands_are }

end_moves : (setting : Setting) (s : Standing) (i n : ℕ) (l : LinkNow) (own : List LinkEvent) (b : Bool) → slice_get s.links i ≡ Some l → l.opening.number ≡ Some n → is_over l ≡ b → MovedTo setting s (cond b s (loses (after_end l.hearing) i l s)) i l own (own ++ event.Ended n ∷ [])
end_moves setting s i n l own true here number over = nothing_moves setting s i n l own (event.Ended n) here (over_step setting own (event.Ended n) l n refl refl number over)
end_moves setting s i n l own false here number live =
    let to = loses_becomes s i l (after_end l.hearing) in
    record { now = to.now; links = to.links; opening = to.opening_is; step = end_step setting own n l to.now live to.hearing_is to.saying_is to.commands_are }

pub says_opening : (setting : Setting) (s : Standing) (i : ℕ) (l : LinkNow) (bytes unsent : List ℕ) → (says setting bytes unsent i l s).opening ≡ l.opening
says_opening setting s i l bytes (byte ∷ unsent) = refl
says_opening setting s i l bytes [] = by (due_on setting (pipeline_of setting s.links) i l)
  where
    by : (o : Option Due) → (begins bytes o l).opening ≡ l.opening
    by None = refl
    by (Some due) = refl

sent_moves : (setting : Setting) (s : Standing) (i n : ℕ) (l : LinkNow) (bytes : List ℕ) (events : List LinkEvent) (b : Bool) → 0 < setting.patience → is_over l ≡ b → is_over l ≡ false → IsPieceDue setting s bytes i l l.saying.unsent → MovedTo setting s (cond b s (with_link i (says setting bytes l.saying.unsent i l s) s)) i l events (events ++ event.Sent n bytes ∷ [])
sent_moves setting s i n l bytes events true some over live turn = let no : true ≡ false = sym over ∙ live in cc
sent_moves setting s i n l bytes events false some live same turn = record {
  now = says setting bytes l.saying.unsent i l s;
  links = refl;
  opening = says_opening setting s i l bytes l.saying.unsent;
  step = sent_step setting events s i n l bytes l.saying.unsent some live refl turn;
}

-- ---- all events

bytes_heard : (setting : Setting) (s : Standing) (n : ℕ) (m : List LinkEvent) (bytes : List ℕ) → 0 < setting.patience → AreHeardOn setting s m → AreHeardOn setting (hears bytes n s) (m ++ single_bytes n bytes)
bytes_heard setting s n m [] some old = subst (λ (es : List LinkEvent). AreHeardOn setting s es) (sym (append-nil m)) old
bytes_heard setting s n m (byte ∷ bytes) some old =
    let e = event.Heard n (byte ∷ []) in
    let next : AreHeardOn setting (on_number (hears_byte byte) n s) (m ++ e ∷ []) = by_number setting s (hears_byte byte) n m e refl (λ i l place here. byte_moves setting s i n byte l (on_link n m) (is_over l) some here (number_at n i s.links l place here) refl) old in
    subst (λ (es : List LinkEvent). AreHeardOn setting (hears bytes n (on_number (hears_byte byte) n s)) es) (append_assoc m (e ∷ []) (single_bytes n bytes)) (bytes_heard setting (on_number (hears_byte byte) n s) n (m ++ e ∷ []) bytes some next)

pub event_heard : (setting : Setting) (s : Standing) (m : List LinkEvent) (e : LinkEvent) → 0 < setting.patience → MayCome setting s e → AreHeardOn setting s m → AreHeardOn setting (moved setting s e) (m ++ e ∷ [])
event_heard setting s m (event.Opened n address) some may old = absurd may
event_heard setting s m (event.Sent n bytes) some may old =
    by_number setting s (sends setting bytes) n m (event.Sent n bytes) refl (λ i l place here.
    (let at : may.i ≡ i = one_some may.i i (sym may.on.place ∙ place) in
    let both : Some may.l ≡ Some l = sym may.on.here ∙ ap (λ p. slice_get s.links p) at ∙ here in
    let same : may.l ≡ l = cc in
    let live : is_over l ≡ false = subst (λ (a : LinkNow). is_over a ≡ false) same may.on.live in
    let turn : IsPieceDue setting s bytes i l l.saying.unsent = subst (λ (a : LinkNow). IsPieceDue setting s bytes i a a.saying.unsent) same (subst (λ p. IsPieceDue setting s bytes p may.l may.l.saying.unsent) at may.piece) in
    sent_moves setting s i n l bytes (on_link n m) (is_over l) some refl live turn)) old
event_heard setting s m (event.Heard n bytes) some may old =
    (λ i k l there number at. heard_same setting (on_link k (m ++ single_bytes n bytes)) (on_link k (m ++ event.Heard n bytes ∷ [])) l (piece_same k n m bytes) (bytes_heard setting s n m bytes some old i k l there number at))
event_heard setting s m (event.Quiet n) some may old = by_number setting s (is_quiet setting.patience) n m (event.Quiet n) refl (λ i l place here. quiet_moves setting s i n l (on_link n m) (is_over l) here (number_at n i s.links l place here) refl) old
event_heard setting s m (event.Ended n) some may old = by_number setting s is_lost n m (event.Ended n) refl (λ i l place here. end_moves setting s i n l (on_link n m) (is_over l) here (number_at n i s.links l place here) refl) old

all_heard : (setting : Setting) (s : Standing) (m events : List LinkEvent) → 0 < setting.patience → IsLawful setting s events → AreHeardOn setting s m → AreHeardOn setting (moved_by setting s events) (m ++ events)
all_heard setting s m [] some lawful old = subst (λ (es : List LinkEvent). AreHeardOn setting s es) (sym (append-nil m)) old
all_heard setting s m (e ∷ events) some lawful old =
    subst (λ (es : List LinkEvent). AreHeardOn setting (moved_by setting (moved setting s e) events) es) (append_assoc m (e ∷ []) events)
    (all_heard setting (moved setting s e) (m ++ e ∷ []) events some lawful.1 (event_heard setting s m e some lawful.0 old))

-- ---- before all events

listens_first : (messages : List Message) (patience : ℕ) → AreFull messages → 0 < patience → IsListening patience (asked_by messages) [] (state_of [] (Greeting ∷ []) [])
listens_first [] patience full patient =
    let few : nat_le patience 0 ≡ false = grind (arith, nat_tests) in
    record { lived = refl; not_over = rw few refl; reading = refl; not_ended = refl }
listens_first (message ∷ messages) patience full patient =
    let few : nat_le patience 0 ≡ false = grind (arith, nat_tests) in
    let some : 0 < length message.bytes = full.0 in
    let none : nat_le (length message.bytes) 0 ≡ false = grind (arith, nat_tests) in
    record { lived = refl; not_over = rw few refl; reading = rw none refl; not_ended = refl }

first_heard : (setting : Setting) (opening : Opening) → 0 < setting.patience → HeardOn setting [] (fresh_link opening)
first_heard setting opening some = record {
  said = [];
  full = tt;
  goes = refl;
  asks = refl;
  hears = λ more full. record { listening = listens_first more setting.patience full some; quiets = refl; few = some };
}

pub fresh_heard : (setting : Setting) (openings : List Opening) (i : ℕ) (l : LinkNow) → 0 < setting.patience → slice_get (map fresh_link openings) i ≡ Some l → HeardOn setting [] l
fresh_heard setting [] i l some is = cc
fresh_heard setting (opening ∷ openings) zero l some is = let same : fresh_link opening ≡ l = cc in subst (λ (a : LinkNow). HeardOn setting [] a) same (first_heard setting opening some)
fresh_heard setting (opening ∷ openings) (suc i) l some is = fresh_heard setting openings i l some is

pub links_are_heard : LinksAreHeard
links_are_heard setting events some lawful = all_heard setting (before_all setting) [] events some lawful (λ i n l there number at. fresh_heard setting setting.openings i l some there)

-- ---- in the words of link_dialog

told_by : (p : ℕ) (asked : List ℕ → List Awaited) (own : List LinkEvent) (h : Hearing) (o : Option Why) → HeardBy p asked (fine own) h o → (replies_heard p asked own ≡ h.replies) × (why_over p asked own ≡ o)
told_by p asked own h None s = (
  ap (λ (m : List LinkEvent). (reading_at asked m).replies) s.listening.lived ∙ ap (λ (r : RepliesRead Awaited Reply). r.replies) s.listening.reading,
  ap (λ (m : List LinkEvent). why_at p asked m) s.listening.lived ∙ s.listening.not_over,
)
told_by p asked own h (Some reason) s = (s.answers, s.why)

told_on : (setting : Setting) (own : List LinkEvent) (l : LinkNow) → HeardOn setting own l → ToldOn setting own l
told_on setting own l on =
    let both = told_by setting.patience (asked_by (on.said ++ [])) own l.hearing l.hearing.over (on.hears [] tt) in
    let same : on.said ++ [] ≡ on.said = append-nil on.said in
    record {
      said = on.said;
      full = on.full;
      goes = on.goes;
      asks = on.asks;
      replies = ap (λ (ms : List Message). replies_heard setting.patience (asked_by ms) own) (sym same) ∙ both.0;
      over = ap (λ (ms : List Message). why_over setting.patience (asked_by ms) own) (sym same) ∙ both.1;
    }

pub links_are_told : LinksAreTold
links_are_told setting events some lawful i n l there number at = told_on setting (on_link n events) l (links_are_heard setting events some lawful i n l there number at)
