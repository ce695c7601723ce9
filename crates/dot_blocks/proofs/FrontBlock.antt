-- The block that is read at the front of some bytes is the block that stands there.
use Rattle.std.proofs.Common.{◌≡◌, ◌≢◌, ℕ, false, cond, eqb, ◌&&◌, List, [], ◌∷◌, ◌++◌, Option, Some, None, refl, ap, subst, ◌∙◌, append_assoc, inl, inr}
use Rattle.std.proofs.lemmas.Bool.{ne_eqb, cases_eq, and_left, and_right}
use Rattle.std.proofs.lemmas.List.{append-nil}
use Rattle.dot_blocks.specs.Blocks.{HoldsNoLineEnd, BeginsWithDot, IsWireForm, AreWireLines, IsBlock}
use Rattle.dot_blocks.specs.BlockReading.{unstuffed, is_dot, with_line, block_from, front_block}
use Rattle.dot_blocks.specs.Heard.{IsHeard}
use Rattle.dot_blocks.proofs.LineEnds.{no_end_in_rest, no_end_behind_dot}
use Rattle.dot_blocks.proofs.Reading.{block_or_heard}

-- the lines and the rest that are found
abbrev Found : Type 0
Found = Option (List (List ℕ) × List ℕ)

-- what is found once a line has ended
abbrev finished : List ℕ → List ℕ → Found
finished line more = cond (is_dot line) (Some ([], more)) (with_line (unstuffed line) (block_from [] more))

-- ---- a block is read

no_pair : (x y : ℕ) (u : List ℕ) → HoldsNoLineEnd (x ∷ y ∷ u) → (eqb x 13 && eqb y 10) ≡ false
no_pair x y u h = elim (cases_eq x 13) [
  | inl p ↦ elim (cases_eq y 10) [ inl q ↦ absurd (h [] u (cc)) | inr q ↦ and_right (eqb x 13) (eqb y 10) (ne_eqb y 10 q) ]
  | inr p ↦ and_left (eqb x 13) (eqb y 10) (ne_eqb x 13 p)
]

scanned : (u line more : List ℕ) → HoldsNoLineEnd u → block_from line (u ++ 13 ∷ 10 ∷ more) ≡ finished (line ++ u) more
unfolding block_from
scanned [] line more h = rw append-nil refl
scanned (x ∷ []) line more h =
    rw (and_right (eqb x 13) false refl) refl
scanned (x ∷ y ∷ u) line more h =
    rw (no_pair x y u h) (scanned (y ∷ u) (line ++ x ∷ []) more (no_end_in_rest x (y ∷ u) h) ∙ ap (λ (t : List ℕ). finished t more) (append_assoc line (x ∷ []) (y ∷ u)))

plain_line : (v : List ℕ) → ¬ (BeginsWithDot v) → (is_dot v ≡ false) × (unstuffed v ≡ v)
plain_line [] n = (refl, refl)
plain_line (x ∷ []) n = let o : x ≢ 46 = λ e. n ([], (cc)) in (ne_eqb x 46 o, rw (ne_eqb x 46 o) refl)
plain_line (x ∷ y ∷ v) n = let o : x ≢ 46 = λ e. n (y ∷ v, (cc)) in (refl, rw (ne_eqb x 46 o) refl)

dotted_line : (v : List ℕ) → v ≢ [] → is_dot (46 ∷ v) ≡ false
dotted_line [] n = absurd (n refl)
dotted_line (x ∷ v) n = refl

wire_read : (v u : List ℕ) → IsWireForm v u → HoldsNoLineEnd u × (is_dot u ≡ false) × (unstuffed u ≡ v)
wire_read v u (h, inl (n, e)) = let p = plain_line v n in rw e (h, p.0, p.1)
wire_read v u (h, inr (n, e)) = rw e (no_end_behind_dot v h, dotted_line v n, refl)

lines_read : (lines : List (List ℕ)) (whole more : List ℕ) → AreWireLines lines whole → front_block (whole ++ 46 ∷ 13 ∷ 10 ∷ more) ≡ Some (lines, more)
unfolding block_from
lines_read [] whole more p = rw p refl
lines_read (v ∷ lines) whole more (u, rest, wire, are, e) =
    let k = wire_read v u wire in
    let at : whole ++ 46 ∷ 13 ∷ 10 ∷ more ≡ u ++ 13 ∷ 10 ∷ (rest ++ 46 ∷ 13 ∷ 10 ∷ more) = ap (λ (t : List ℕ). t ++ 46 ∷ 13 ∷ 10 ∷ more) e ∙ append_assoc u (13 ∷ 10 ∷ rest) (46 ∷ 13 ∷ 10 ∷ more) in
    rw at (scanned u [] (rest ++ 46 ∷ 13 ∷ 10 ∷ more) k.0 ∙ rw (k.1, k.2, lines_read lines rest more are) refl)

pub block_read : (lines : List (List ℕ)) (block more : List ℕ) → IsBlock lines block → front_block (block ++ more) ≡ Some (lines, more)
block_read lines block more (whole, are, e) =
    ap front_block (ap (λ (t : List ℕ). t ++ more) e ∙ append_assoc whole (46 ∷ 13 ∷ 10 ∷ []) more) ∙ lines_read lines whole more are

-- ---- where no block stands at the front, none is read

none_scanned : (u line : List ℕ) → HoldsNoLineEnd u → block_from line u ≡ None
unfolding block_from
none_scanned [] line h = refl
none_scanned (x ∷ []) line h = refl
none_scanned (x ∷ y ∷ u) line h = rw (no_pair x y u h) (none_scanned (y ∷ u) (line ++ x ∷ []) (no_end_in_rest x (y ∷ u) h))

lines_alone : (lines : List (List ℕ)) (whole begun : List ℕ) → AreWireLines lines whole → HoldsNoLineEnd begun → front_block (whole ++ begun) ≡ None
lines_alone [] whole begun p none = ap (λ (t : List ℕ). front_block (t ++ begun)) p ∙ none_scanned begun [] none
lines_alone (v ∷ lines) whole begun (u, rest, wire, are, e) none =
    let k = wire_read v u wire in
    let at : whole ++ begun ≡ u ++ 13 ∷ 10 ∷ (rest ++ begun) = ap (λ (t : List ℕ). t ++ begun) e ∙ append_assoc u (13 ∷ 10 ∷ rest) begun in
    rw at (scanned u [] (rest ++ begun) k.0 ∙ rw (k.1, k.2, lines_alone lines rest begun are none) refl)

heard_alone : (bytes : List ℕ) (lines : List (List ℕ)) (begun : List ℕ) → IsHeard bytes lines begun → front_block bytes ≡ None
heard_alone bytes lines begun h = ap front_block h.heard_is ∙ lines_alone lines h.whole begun h.are_lines h.goes_on

abbrev pair_of : List (List ℕ) → List ℕ → List (List ℕ) × List ℕ
pair_of lines rest = (lines, rest)

pub block_found : (bytes : List ℕ) (lines : List (List ℕ)) (rest : List ℕ) → front_block bytes ≡ Some (lines, rest) → (block : List ℕ) × IsBlock lines block × (bytes ≡ block ++ rest)
block_found bytes lines rest read = elim (block_or_heard bytes) [
  | inl ((others, block, more, is, e), _) ↦
      let again : front_block bytes ≡ Some (others, more) = ap front_block e ∙ block_read others block more is in
      let same : pair_of others more ≡ pair_of lines rest = cc in
      (block, subst (λ (l : List (List ℕ)). IsBlock l block) (ap (λ (p : List (List ℕ) × List ℕ). p.0) same) is, e ∙ ap (λ (p : List (List ℕ) × List ℕ). block ++ p.1) same)
  | inr (_, (others, begun, (h, _))) ↦ let none = heard_alone bytes others begun h in absurd cc
]
