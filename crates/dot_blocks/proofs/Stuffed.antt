-- What stuffing gives is a block.
use Rattle.std.proofs.Common.{◌≡◌, ℕ, ◌+◌, List, [], ◌∷◌, ◌++◌, refl, sym, ap, ◌∙◌, append_assoc, inl, inr, zero, suc, drop, slice_get, Some, arith}
use Rattle.std.specs.List.{AllByRecursion}
use Rattle.std.proofs.lemmas.Bool.{eq-eqb, ne_eqb, cases_eq}
use Rattle.dot_blocks.specs.Blocks.{HoldsNoLineEnd, IsWireForm, IsBlock, stuffed_line, stuffed}

stuffed_wire : (line : List ℕ) → HoldsNoLineEnd line → IsWireForm line (stuffed_line line)
stuffed_wire [] h = (h, inl ((λ d. absurd cc), refl))
stuffed_wire (x ∷ line) h = elim (cases_eq x 46) [
  | inl p ↦ rw (eq-eqb x 46 p) (h, inr ((λ e. absurd cc), (refl)))
  | inr p ↦ rw (ne_eqb x 46 p) (h, inl ((λ d. let f = d.1 in p (cc)), refl))
]

pub is_block : (lines : List (List ℕ)) → AllByRecursion HoldsNoLineEnd lines → IsBlock lines (stuffed lines)
is_block [] h = ([], refl, refl)
is_block (line ∷ lines) h =
    let rest = is_block lines h.1 in (
      stuffed_line line ++ 13 ∷ 10 ∷ rest.0,
      (stuffed_line line, rest.0, stuffed_wire line h.0, rest.1, refl),
      ap (λ (t : List ℕ). stuffed_line line ++ 13 ∷ 10 ∷ t) rest.2 ∙ sym (append_assoc (stuffed_line line) (13 ∷ 10 ∷ rest.0) (46 ∷ 13 ∷ 10 ∷ [])),
    )

-- what has been appended, and with the block of the lines that are left it is the block of all lines
pub record Appended (lines : List (List ℕ)) (i : ℕ) (old new : List ℕ) : Type 0 where
  pub text : List ℕ
  pub new_is : new ≡ old ++ text
  pub goes_on : text ++ stuffed (drop i lines) ≡ stuffed lines

at_line : (lines : List (List ℕ)) (line : List ℕ) (i : ℕ) → slice_get lines i ≡ Some line → stuffed (drop i lines) ≡ stuffed_line line ++ 13 ∷ 10 ∷ stuffed (drop (i + 1) lines)
at_line [] line zero e = absurd cc
at_line [] line (suc i) e = absurd cc
at_line (l ∷ lines) line zero e = let same : l ≡ line = cc in ap (λ (v : List ℕ). stuffed_line v ++ 13 ∷ 10 ∷ stuffed lines) same
at_line (l ∷ lines) line (suc i) e =
    let one : suc i + 1 ≡ suc (i + 1) = omega arith in
    at_line lines line i e ∙ ap (λ (n : ℕ). stuffed_line line ++ 13 ∷ 10 ∷ stuffed (drop n (l ∷ lines))) (sym one)

pub appended_line : (lines : List (List ℕ)) (line old out new : List ℕ) (i : ℕ) → slice_get lines i ≡ Some line → new ≡ out ++ (stuffed_line line ++ 13 ∷ 10 ∷ []) → Appended lines i old out → Appended lines (i + 1) old new
appended_line lines line old out new i is e a =
    let wire : List ℕ = stuffed_line line ++ 13 ∷ 10 ∷ [] in
    record {
      text = a.text ++ wire;
      new_is = e ∙ ap (λ (t : List ℕ). t ++ wire) a.new_is ∙ append_assoc old a.text wire;
      goes_on = append_assoc a.text wire (stuffed (drop (i + 1) lines))
          ∙ ap (λ (t : List ℕ). a.text ++ t) (append_assoc (stuffed_line line) (13 ∷ 10 ∷ []) (stuffed (drop (i + 1) lines)) ∙ sym (at_line lines line i is)) ∙ a.goes_on;
    }

-- a front of what was to be appended
pub front_of : (lines : List (List ℕ)) (i : ℕ) (old out new : List ℕ) → Appended lines i old out → ((more : List ℕ) × (new ≡ out ++ more)) → (more : List ℕ) × (new ≡ old ++ more)
front_of lines i old out new a (more, e) = (a.text ++ more, e ∙ ap (λ (t : List ℕ). t ++ more) a.new_is ∙ append_assoc old a.text more)
