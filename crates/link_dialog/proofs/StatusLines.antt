-- One more byte, where no line is whole yet.
use Rattle.std.proofs.Common.{◌≡◌, ℕ, ◌+◌, ◌<◌, Bool, true, false, List, [], ◌∷◌, ◌++◌, Option, Some, None, refl, ap, sym, ◌∙◌, subst, arith, cond, take, length, get_or, ◌-◌}
use Rattle.std.specs.Prelude.{◌==◌, ◌&&◌}
use Rattle.std.specs.Option.{option_map}
use Rattle.std.proofs.lemmas.List.{take_all, take_more}
use Rattle.std.proofs.lemmas.Bool.Decides.{nat_tests}
use Rattle.link_dialog.specs.Replies.{first_line, with_byte, ends_line}

-- a line that isn't whole at its second byte begins no line end at its first
no_end_here : (b : Bool) (line rest : Option (List ℕ × List ℕ)) (c : ℕ) (front : List ℕ × List ℕ) → cond b (Some front) (option_map (with_byte c) rest) ≡ None → (b ≡ false) × (rest ≡ None)
no_end_here true line rest c front is = cc
no_end_here false line None c front is = (refl, refl)
no_end_here false line (Some r) c front is = cc

pub unfinished_more : (front : List ℕ) (x byte : ℕ) → first_line (front ++ x ∷ []) ≡ None → ((x == 13) && (byte == 10)) ≡ false → first_line ((front ++ x ∷ []) ++ byte ∷ []) ≡ None
unfinished_more [] x byte none other = rw other refl
unfinished_more (c ∷ []) x byte none other =
    let was = no_end_here ((c == 13) && (x == 10)) None (first_line (x ∷ [])) c ([], []) none in
    rw (was.0, other) refl
unfinished_more (c ∷ d ∷ front) x byte none other =
    let was = no_end_here ((c == 13) && (d == 10)) None (first_line (d ∷ front ++ x ∷ [])) c ([], front ++ x ∷ []) none in
    rw (was.0, unfinished_more (d ∷ front) x byte was.1 other) refl

pub finished_more : (front : List ℕ) → first_line (front ++ 13 ∷ []) ≡ None → first_line ((front ++ 13 ∷ []) ++ 10 ∷ []) ≡ Some (front, [])
finished_more [] none = refl
finished_more (c ∷ []) none =
    let was = no_end_here ((c == 13) && (13 == 10)) None (first_line (13 ∷ [])) c ([], []) none in
    rw was.0 refl
finished_more (c ∷ d ∷ front) none =
    let was = no_end_here ((c == 13) && (d == 10)) None (first_line (d ∷ front ++ 13 ∷ [])) c ([], front ++ 13 ∷ []) none in
    rw (was.0, finished_more (d ∷ front) was.1) refl

-- a list that isn't empty is its front and its last member
front_and_last : (rest : List ℕ) → 0 < length rest → rest ≡ take (length rest - 1) rest ++ get_or rest (length rest - 1) 0 ∷ []
front_and_last rest some =
    let below : length rest - 1 < length rest = omega arith in
    let back : (length rest - 1) + 1 ≡ length rest = omega arith in
    sym (take_all (length rest) rest (omega arith)) ∙ ap (λ n. take n rest) (sym back) ∙ take_more rest (length rest - 1) 0 below

pub line_more : (rest : List ℕ) (byte : ℕ) → first_line rest ≡ None → ends_line rest byte ≡ false → first_line (rest ++ byte ∷ []) ≡ None
line_more [] byte none goes_on = refl
line_more (c ∷ cs) byte none goes_on =
    let rest = c ∷ cs in
    let split : rest ≡ take (length rest - 1) rest ++ get_or rest (length rest - 1) 0 ∷ [] = front_and_last rest (omega arith) in
    let P : List ℕ → Type 0 = λ r. first_line (r ++ byte ∷ []) ≡ None in
    let other : ((get_or rest (length rest - 1) 0 == 13) && (byte == 10)) ≡ false = grind (arith, nat_tests) in
    subst P (sym split) (unfinished_more (take (length rest - 1) rest) (get_or rest (length rest - 1) 0) byte (ap first_line (sym split) ∙ none) other)

pub line_whole : (rest : List ℕ) (byte : ℕ) → first_line rest ≡ None → ends_line rest byte ≡ true → first_line (rest ++ byte ∷ []) ≡ Some (take (length rest - 1) rest, [])
line_whole [] byte none ends = absurd (grind (arith, nat_tests))
line_whole (c ∷ cs) byte none ends =
    let rest = c ∷ cs in
    let split : rest ≡ take (length rest - 1) rest ++ get_or rest (length rest - 1) 0 ∷ [] = front_and_last rest (omega arith) in
    let is_lf : byte ≡ 10 = grind (arith, nat_tests) in
    let is_cr : get_or rest (length rest - 1) 0 ≡ 13 = grind (arith, nat_tests) in
    let cr : rest ≡ take (length rest - 1) rest ++ 13 ∷ [] = split ∙ ap (λ x. take (length rest - 1) rest ++ x ∷ []) is_cr in
    ap (λ r. first_line (r ++ byte ∷ [])) cr ∙ ap (λ b. first_line ((take (length rest - 1) rest ++ 13 ∷ []) ++ b ∷ [])) is_lf ∙ finished_more (take (length rest - 1) rest) (ap first_line (sym cr) ∙ none)
