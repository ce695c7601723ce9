-- A command sent in several pieces.
use Rattle.std.proofs.Common.{◌≡◌, ◌≢◌, ◌+◌, ◌<◌, zero, suc, ℕ, Bool, true, false, not, ◌||◌, List, [], ◌∷◌, ◌++◌, Option, Some, None, length, drop, refl, ap, sym, subst, ◌∙◌, arith, append_assoc, append-nil}
use Rattle.std.specs.Prelude.{slice_get, is_some}
use Rattle.std.specs.List.{concat}
use Rattle.io_traits.specs.declared.links.LinkEvent.{LinkEvent}
use Rattle.io_traits.specs.declared.links.LinkEvent.TheVariants as event
use Rattle.link_dialog.specs.declared.awaited.Awaited.{Awaited}
use Rattle.link_dialog.specs.Sending.{sends as sent_events, ArePieces}
use Rattle.lists.specs.Edit.{edit_at}
use Rattle.pipeline_core.proofs.Full.{get-edit_other}
use Rattle.fetch_trace.specs.Setting.{Setting}
use Rattle.fetch_trace.specs.Hearing.{after_sent}
use Rattle.fetch_trace.specs.LinkNow.{LinkNow, Asking, is_over}
use Rattle.fetch_trace.specs.Standing.{Standing, pipeline_of, place_from, with_link}
use Rattle.fetch_trace.specs.Due.{Due, due_on}
use Rattle.fetch_trace.specs.Moving.{begun_with, awaited_after, is_quit, with_saying, begins, says, moved, moved_by}
use Rattle.fetch_trace.specs.Lawful.{OthersRest, IsPieceDue, MaySend, IsLawful}

-- ---- one place of a list

pub get-edit_same : {A : Type 0} (xs : List A) (i : ℕ) (x y : A) → slice_get xs i ≡ Some x → slice_get (edit_at i (λ old. y) xs) i ≡ Some y
get-edit_same [] i x y is = cc
get-edit_same (a ∷ xs) zero x y is = refl
get-edit_same (a ∷ xs) (suc i) x y is = get-edit_same xs i x y is

pub edit-twice : {A : Type 0} (xs : List A) (i : ℕ) (y z : A) → edit_at i (λ old. z) (edit_at i (λ old. y) xs) ≡ edit_at i (λ old. z) xs
edit-twice [] i y z = refl
edit-twice (a ∷ xs) zero y z = refl
edit-twice (a ∷ xs) (suc i) y z = ap (λ t. a ∷ t) (edit-twice xs i y z)

drop-front : (front back : List ℕ) → drop (length front) (front ++ back) ≡ back
drop-front [] back = refl
drop-front (x ∷ front) back = drop-front front back

-- links keep their numbers
pub place-kept : (k n : ℕ) (links : List LinkNow) (i : ℕ) (l now : LinkNow) → slice_get links i ≡ Some l → now.opening ≡ l.opening → place_from k n (edit_at i (λ old. now) links) ≡ place_from k n links
place-kept k n [] i l now is same = refl
place-kept k n (a ∷ links) zero l now is same = let here : a ≡ l = cc in rw (here, same) refl
place-kept k n (a ∷ links) (suc i) l now is same = rw (place-kept (k + 1) n links i l now is same) refl

-- ---- a link that says something

or_twice : (a b : Bool) → ((a || b) || b) ≡ (a || b)
or_twice true b = refl
or_twice false true = refl
or_twice false false = refl

-- a command goes on where it was begun
goes_on_saying : (kind : Awaited) (byte : ℕ) (unsent rest : List ℕ) (asking : Asking) (l : LinkNow) → with_saying kind rest asking (with_saying kind (byte ∷ unsent) asking l) ≡ with_saying kind rest asking l
goes_on_saying kind byte unsent rest asking l =
    ap (λ (w : List Awaited). record { opening = l.opening; hearing = record { replies = l.hearing.replies; waiting = w ++ awaited_after kind rest; rest = l.hearing.rest; quiets = 0; over = None }; saying = record { kind = kind; unsent = rest; quits = (l.saying.quits || is_quit kind) || is_quit kind }; asking = asking }) (append-nil l.hearing.waiting)
    ∙ ap (λ (q : Bool). record { opening = l.opening; hearing = after_sent (awaited_after kind rest) l.hearing; saying = record { kind = kind; unsent = rest; quits = q }; asking = asking }) (or_twice l.saying.quits (is_quit kind))

right_false : (a b : Bool) → (a || b) ≡ false → b ≡ false
right_false true b is = cc
right_false false b is = is

-- the link on which a command is begun
pub record IsSayer (s : Standing) (n i : ℕ) (l : LinkNow) : Type 0 where
  pub place : place_from 0 n s.links ≡ Some i
  pub here : slice_get s.links i ≡ Some l
  pub live : is_over l ≡ false
  pub others : OthersRest s i

-- the same with this said of the command
abbrev pub saying : ℕ → Awaited → List ℕ → Asking → LinkNow → Standing → Standing
saying i kind unsent asking l s = with_link i (with_saying kind unsent asking l) s

pub still_sayer : (s : Standing) (n i : ℕ) (l : LinkNow) (kind : Awaited) (unsent : List ℕ) (asking : Asking) → IsSayer s n i l → IsSayer (saying i kind unsent asking l s) n i (with_saying kind unsent asking l)
still_sayer s n i l kind unsent asking on = record {
  place = place-kept 0 n s.links i l (with_saying kind unsent asking l) on.here refl ∙ on.place;
  here = get-edit_same s.links i l (with_saying kind unsent asking l) on.here;
  live = right_false (is_some l.hearing.over) (not (is_some l.opening.number)) on.live;
  others = λ k other differ at. on.others k other differ (sym (get-edit_other s.links i k (λ old. with_saying kind unsent asking l) differ) ∙ at);
}

-- what a piece does on a link that isn't over
on_sayer : (setting : Setting) (s : Standing) (n i : ℕ) (l : LinkNow) (bytes : List ℕ) → IsSayer s n i l → moved setting s (event.Sent n bytes) ≡ with_link i (says setting bytes l.saying.unsent i l s) s
on_sayer setting s n i l bytes on =
    let place : place_from 0 n s.links ≡ Some i = on.place in
    let here : slice_get s.links i ≡ Some l = on.here in
    let live : is_over l ≡ false = on.live in
    rw (place, here, live) refl

-- ---- the first piece

first_says : (setting : Setting) (s : Standing) (n i : ℕ) (l : LinkNow) (piece rest : List ℕ) (due : Due) (unsent : List ℕ) → l.saying.unsent ≡ unsent → unsent ≡ [] → due_on setting (pipeline_of setting s.links) i l ≡ Some due → piece ++ rest ≡ due.text → says setting piece l.saying.unsent i l s ≡ with_saying due.kind rest (begun_with due.segment l.asking) l
first_says setting s n i l piece rest due unsent is none due_is front =
    let empty : l.saying.unsent ≡ [] = is ∙ none in
    let left : drop (length piece) due.text ≡ rest = ap (λ t. drop (length piece) t) (sym front) ∙ drop-front piece rest in
    ap (λ (u : List ℕ). says setting piece u i l s) empty
    ∙ ap (λ (d : Option Due). begins piece d l) due_is
    ∙ ap (λ (u : List ℕ). with_saying due.kind u (begun_with due.segment l.asking) l) left

pub first_piece : (setting : Setting) (s : Standing) (n i : ℕ) (l : LinkNow) (piece rest : List ℕ) (due : Due) → IsSayer s n i l → l.saying.unsent ≡ [] → due_on setting (pipeline_of setting s.links) i l ≡ Some due → piece ++ rest ≡ due.text → moved setting s (event.Sent n piece) ≡ saying i due.kind rest (begun_with due.segment l.asking) l s
first_piece setting s n i l piece rest due on none due_is front =
    on_sayer setting s n i l piece on ∙ ap (λ (now : LinkNow). with_link i now s) (first_says setting s n i l piece rest due l.saying.unsent refl none due_is front)

pub first_may : (setting : Setting) (s : Standing) (n i : ℕ) (l : LinkNow) (piece rest : List ℕ) (due : Due) → IsSayer s n i l → l.saying.unsent ≡ [] → due_on setting (pipeline_of setting s.links) i l ≡ Some due → piece ≢ [] → piece ++ rest ≡ due.text → MaySend setting s n piece
first_may setting s n i l piece rest due on none due_is some front =
    let P : List ℕ → Type 0 = λ u. IsPieceDue setting s piece i l u in
    record { i = i; l = l; on = record { place = on.place; here = on.here; live = on.live }; others = on.others; piece = subst P (sym none) (due, due_is, (some, (rest, front))) }

-- ---- a later piece

pub later_piece : (setting : Setting) (s : Standing) (n i : ℕ) (l : LinkNow) (kind : Awaited) (byte : ℕ) (unsent piece rest : List ℕ) (asking : Asking) → IsSayer s n i l → piece ++ rest ≡ byte ∷ unsent → moved setting (saying i kind (byte ∷ unsent) asking l s) (event.Sent n piece) ≡ saying i kind rest asking l s
later_piece setting s n i l kind byte unsent piece rest asking on front =
    let now = with_saying kind (byte ∷ unsent) asking l in
    let left : drop (length piece) (byte ∷ unsent) ≡ rest = ap (λ t. drop (length piece) t) (sym front) ∙ drop-front piece rest in
    on_sayer setting (saying i kind (byte ∷ unsent) asking l s) n i now piece (still_sayer s n i l kind (byte ∷ unsent) asking on)
    ∙ ap (λ (u : List ℕ). with_link i (with_saying kind u asking now) (saying i kind (byte ∷ unsent) asking l s)) left
    ∙ ap (λ (ls : List LinkNow). record { links = ls; entries = s.entries; ends = s.ends; last = s.last }) (edit-twice s.links i now (with_saying kind rest asking now))
    ∙ ap (λ (t : LinkNow). with_link i t s) (goes_on_saying kind byte unsent rest asking l)

later_may : (setting : Setting) (s : Standing) (n i : ℕ) (l : LinkNow) (kind : Awaited) (byte : ℕ) (unsent piece rest : List ℕ) (asking : Asking) → IsSayer s n i l → piece ≢ [] → piece ++ rest ≡ byte ∷ unsent → MaySend setting (saying i kind (byte ∷ unsent) asking l s) n piece
later_may setting s n i l kind byte unsent piece rest asking on some front =
    let now = still_sayer s n i l kind (byte ∷ unsent) asking on in
    record { i = i; l = with_saying kind (byte ∷ unsent) asking l; on = record { place = now.place; here = now.here; live = now.live }; others = now.others; piece = (some, (rest, front)) }

some_full : (piece : List ℕ) → 0 < length piece → piece ≢ []
some_full [] some none = omega (arith, some)
some_full (byte ∷ piece) some none = cc

-- pieces of the rest of a command
pub record Says (setting : Setting) (s : Standing) (events : List LinkEvent) (after : Standing) : Type 0 where
  pub lawful : IsLawful setting s events
  pub moves : moved_by setting s events ≡ after

later_by : (setting : Setting) (s : Standing) (n i : ℕ) (l : LinkNow) (kind : Awaited) (unsent piece : List ℕ) (pieces : List (List ℕ)) (rest behind : List ℕ) (asking : Asking) → ((other : List ℕ) → other ≡ behind → Says setting (saying i kind other asking l s) (sent_events n pieces) (saying i kind rest asking l s)) → IsSayer s n i l → 0 < length piece → piece ++ behind ≡ unsent → Says setting (saying i kind unsent asking l s) (event.Sent n piece ∷ sent_events n pieces) (saying i kind rest asking l s)
later_by setting s n i l kind [] [] pieces rest behind asking more on some front = absurd (omega (arith, some))
later_by setting s n i l kind [] (byte ∷ piece) pieces rest behind asking more on some front = cc
later_by setting s n i l kind (byte ∷ unsent) piece pieces rest behind asking more on some front =
    let step = later_piece setting s n i l kind byte unsent piece behind asking on front in
    let next = more behind refl in
    let P : Standing → Type 0 = λ t. IsLawful setting t (sent_events n pieces) in
    record {
      lawful = (later_may setting s n i l kind byte unsent piece behind asking on (some_full piece some) front, subst P (sym step) next.lawful);
      moves = ap (λ (t : Standing). moved_by setting t (sent_events n pieces)) step ∙ next.moves;
    }

pub later_pieces : (setting : Setting) (s : Standing) (n i : ℕ) (l : LinkNow) (kind : Awaited) (unsent : List ℕ) (pieces : List (List ℕ)) (rest : List ℕ) (asking : Asking) → IsSayer s n i l → ArePieces pieces → concat pieces ++ rest ≡ unsent → Says setting (saying i kind unsent asking l s) (sent_events n pieces) (saying i kind rest asking l s)
later_pieces setting s n i l kind unsent [] rest asking on full front = record { lawful = tt; moves = ap (λ (u : List ℕ). saying i kind u asking l s) (sym front) }
later_pieces setting s n i l kind unsent (piece ∷ pieces) rest asking on full front =
    later_by setting s n i l kind unsent piece pieces rest (concat pieces ++ rest) asking
    (λ other is. later_pieces setting s n i l kind other pieces rest asking on full.1 (sym is))
    on full.0 (sym (append_assoc piece (concat pieces) rest) ∙ front)

-- a command that is due, in pieces: each may come, and together they are what the front is at once
pub pieces_of_command : (setting : Setting) (s : Standing) (n i : ℕ) (l : LinkNow) (due : Due) (piece : List ℕ) (pieces : List (List ℕ)) (rest : List ℕ) → IsSayer s n i l → l.saying.unsent ≡ [] → due_on setting (pipeline_of setting s.links) i l ≡ Some due → ArePieces (piece ∷ pieces) → concat (piece ∷ pieces) ++ rest ≡ due.text → Says setting s (sent_events n (piece ∷ pieces)) (saying i due.kind rest (begun_with due.segment l.asking) l s)
pieces_of_command setting s n i l due piece pieces rest on none due_is full front =
    let whole : piece ++ (concat pieces ++ rest) ≡ due.text = sym (append_assoc piece (concat pieces) rest) ∙ front in
    let step = first_piece setting s n i l piece (concat pieces ++ rest) due on none due_is whole in
    let next = later_pieces setting s n i l due.kind (concat pieces ++ rest) pieces rest (begun_with due.segment l.asking) on full.1 refl in
    let P : Standing → Type 0 = λ t. IsLawful setting t (sent_events n pieces) in
    record {
      lawful = (first_may setting s n i l piece (concat pieces ++ rest) due on none due_is (some_full piece full.0) whole, subst P (sym step) next.lawful);
      moves = ap (λ (t : Standing). moved_by setting t (sent_events n pieces)) step ∙ next.moves;
    }
