-- One more line of a saved text.
use Rattle.std.proofs.Common.{◌≡◌, ◌≢◌, ◌≤◌, ◌<◌, ℕ, zero, suc, ◌+◌, ◌==◌, if◌then◌else◌, false, true, List, [], ◌∷◌, ◌++◌, length, take, drop, get_or, refl, sym, ◌∙◌, ap, arith, append_assoc, ◌-◌, subst, length-drop}
use Rattle.std.proofs.lemmas.List.Splits.{length-slice_split, slice_split-cons_no, slice_split-cons_yes}
use Rattle.std.proofs.lemmas.List.{append-nil, take_all}
use Rattle.std.proofs.lemmas.Bool.{eq-eqb, eqb-true}
use Rattle.std.proofs.lemmas.Bool.Decides.{nat_tests}
use Rattle.std.specs.List.{onto_first, slice_split}
use Rattle.std.specs.Str.Lines.{lines_of_parts, strip_carriage_return}
use Rattle.memchr.specs.Find.{Nowhere, NoneBefore, Passes, is_byte}
use Rattle.lists.specs.Text.{text_lines}

no_feed : (x : ℕ) → x ≢ 10 → (x == 10) ≡ false
no_feed x ne = grind (arith, nat_tests)

cut_at : (text : List ℕ) (n : ℕ) → n < length text → ((k : ℕ) → k < n → get_or text k 0 ≢ 10) → get_or text n 0 ≡ 10 → slice_split (λ b. b == 10) text ≡ take n text ∷ slice_split (λ b. b == 10) (drop (n + 1) text)
cut_at [] n lt before here = absurd (omega arith)
cut_at (x ∷ text) zero lt before here = slice_split-cons_yes (λ b. b == 10) x text (eq-eqb x 10 here)
cut_at (x ∷ text) (suc n) lt before here =
    let rest = cut_at text n (omega arith) (λ k less. before (suc k) (omega arith)) here in
    let e : suc n + 1 ≡ suc (n + 1) = omega arith in
    rw e (slice_split-cons_no (λ b. b == 10) x text (no_feed x (before 0 (omega arith))) ∙ ap (onto_first x) rest)

no_cut : (text : List ℕ) → ((k : ℕ) → k < length text → get_or text k 0 ≢ 10) → slice_split (λ b. b == 10) text ≡ text ∷ []
no_cut [] none = refl
no_cut (x ∷ text) none =
    slice_split-cons_no (λ b. b == 10) x text (no_feed x (none 0 (omega arith))) ∙ ap (onto_first x) (no_cut text (λ k less. none (suc k) (omega arith)))

first_of_parts : (part : List ℕ) (parts : List (List ℕ)) → 1 ≤ length parts → lines_of_parts (part ∷ parts) ≡ strip_carriage_return part ∷ lines_of_parts parts
first_of_parts part [] some = absurd (omega arith)
first_of_parts part (p ∷ parts) some = refl

-- the first line, before the first LF
first_line : (text : List ℕ) (n : ℕ) → n < length text → ((k : ℕ) → k < n → get_or text k 0 ≢ 10) → get_or text n 0 ≡ 10 → text_lines text ≡ strip_carriage_return (take n text) ∷ text_lines (drop (n + 1) text)
first_line text n lt before here =
    ap lines_of_parts (cut_at text n lt before here)
    ∙ first_of_parts (take n text) (slice_split (λ b. b == 10) (drop (n + 1) text)) (omega (arith, length-slice_split (λ b. b == 10) (drop (n + 1) text)))

-- one more line behind those so far
pub one_more_line : (lines all : List (List ℕ)) (rest line : List ℕ) (n : ℕ) → n < length rest → ((k : ℕ) → k < n → get_or rest k 0 ≢ 10) → get_or rest n 0 ≡ 10 → line ≡ strip_carriage_return (take n rest) → lines ++ text_lines rest ≡ all → (lines ++ line ∷ []) ++ text_lines (drop (n + 1) rest) ≡ all
one_more_line lines all rest line n lt before here line_is so_far =
    append_assoc lines (line ∷ []) (text_lines (drop (n + 1) rest)) ∙ ap (λ l. lines ++ l ∷ text_lines (drop (n + 1) rest)) line_is
    ∙ ap (λ l. lines ++ l) (sym (first_line rest n lt before here)) ∙ so_far

no_zero : (n : ℕ) → (suc n == 0) ≡ false
no_zero n = grind (arith, nat_tests)

-- what is left without an LF
pub last_line : (rest : List ℕ) → ((k : ℕ) → k < length rest → get_or rest k 0 ≢ 10) → 1 ≤ length rest → text_lines rest ≡ rest ∷ []
last_line [] none some = absurd (omega arith)
last_line (x ∷ rest) none some = ap lines_of_parts (no_cut (x ∷ rest) none) ∙ ap (λ b. if b then [] else ((x ∷ rest) ∷ [])) (no_zero (length rest))

pub no_line : (rest : List ℕ) → length rest ≡ 0 → text_lines rest ≡ []
no_line [] is = refl
no_line (x ∷ rest) is = absurd (omega arith)

-- ---- the same of the text from a place on, as a search for the first LF tells of it

left_whole : (text : List ℕ) (at : ℕ) → take (length text - at) (drop at text) ≡ drop at text
left_whole text at = take_all (length text - at) (drop at text) (omega (arith, length-drop at text))

not_feed : (x : ℕ) → ((x == 10) ≡ true → ⊥) → x ≢ 10
not_feed x unequal is = unequal (eq-eqb x 10 is)

drop_none : (n : ℕ) (none : List ℕ) → none ≡ [] → drop n none ≡ none
drop_none zero none is = refl
drop_none (suc n) [] is = refl
drop_none (suc n) (x ∷ none) is = absurd (omega (arith, ap length is))

drop_more : (text : List ℕ) (at n : ℕ) → drop n (drop at text) ≡ drop (at + n) text
drop_more text zero n = let e : n ≡ 0 + n = omega arith in ap (λ k. drop k text) e
drop_more [] (suc at) n = drop_none n [] refl ∙ sym (drop_none (suc at + n) [] refl)
drop_more (x ∷ text) (suc at) n = let e : suc at + n ≡ suc (at + n) = omega arith in drop_more text at n ∙ ap (λ k. drop k (x ∷ text)) (sym e)

pub more_text : (lines all : List (List ℕ)) (text left line : List ℕ) (at n : ℕ) → left ≡ take (length text - at) (drop at text) → NoneBefore (Passes (is_byte 10) left) 0 (length left) n × Passes (is_byte 10) left n → line ≡ strip_carriage_return (take (at + n - at) (drop at text)) → lines ++ text_lines (drop at text) ≡ all → (lines ++ line ∷ []) ++ text_lines (drop (at + (n + 1)) text) ≡ all
more_text lines all text left line at n left_is (none, here) line_is so_far =
    let whole : left ≡ drop at text = left_is ∙ left_whole text at in
    let lt : n < length (drop at text) = subst (λ (l : List ℕ). n < length l) whole none.high in
    let before : (k : ℕ) → k < n → get_or (drop at text) k 0 ≢ 10 = λ k less. subst (λ (l : List ℕ). get_or l k 0 ≢ 10) whole (not_feed (get_or left k 0) (none.before k (omega arith) less)) in
    let feed : get_or (drop at text) n 0 ≡ 10 = subst (λ (l : List ℕ). get_or l n 0 ≡ 10) whole (eqb-true (get_or left n 0) 10 here) in
    let count : at + n - at ≡ n = omega arith in
    ap (λ l. (lines ++ line ∷ []) ++ text_lines l) (sym (drop_more text at (n + 1)))
    ∙ one_more_line lines all (drop at text) line n lt before feed (line_is ∙ ap (λ k. strip_carriage_return (take k (drop at text))) count) so_far

pub rest_of_text : (lines all : List (List ℕ)) (text left : List ℕ) (at : ℕ) → left ≡ take (length text - at) (drop at text) → Nowhere (Passes (is_byte 10) left) 0 (length left) → 1 ≤ length left → lines ++ text_lines (drop at text) ≡ all → lines ++ left ∷ [] ≡ all
rest_of_text lines all text left at left_is none some so_far =
    let whole : left ≡ drop at text = left_is ∙ left_whole text at in
    ap (λ l. lines ++ l) (sym (last_line left (λ k less. not_feed (get_or left k 0) (none k (omega arith) less)) some) ∙ ap text_lines whole) ∙ so_far

pub no_rest : (lines all : List (List ℕ)) (text : List ℕ) (at : ℕ) → at ≡ length text → lines ++ text_lines (drop at text) ≡ all → lines ≡ all
no_rest lines all text at is so_far =
    sym (append-nil lines) ∙ ap (λ l. lines ++ l) (sym (no_line (drop at text) (omega (arith, length-drop at text, is)))) ∙ so_far
