-- A line as it comes holds no CRLF, until its own comes.
use Rattle.std.proofs.Common.{◌≡◌, ℕ, ◌-◌, ◌≤◌, ◌==◌, Bool, true, false, List, [], ◌∷◌, ◌++◌, length, take, drop, refl, sym, ◌∙◌, ap, subst, append_assoc, arith}
use Rattle.std.specs.Prelude.{if◌then◌else◌}
use Rattle.std.proofs.lemmas.List.{take-append-drop, take-append-le, length-append}
use Rattle.std.proofs.Math.Seq.{drop-append_seam}
use Rattle.dot_blocks.specs.Blocks.{HoldsNoLineEnd}
use Rattle.dot_blocks.specs.BlockReading.{unstuffed}
use Rattle.dot_blocks.proofs.LineEnds.{joined, no_end_in_front, no_end_in_one, no_end_in_rest}
use Rattle.news_spool.specs.Lines.{is_whole, without_end}

ended : (front : List ℕ) → is_whole (front ++ 13 ∷ 10 ∷ []) ≡ true
ended front =
    let len : length (front ++ 13 ∷ 10 ∷ []) - 2 ≡ length front = omega (arith, length-append front (13 ∷ 10 ∷ [])) in
    rw len (rw (drop-append_seam front (13 ∷ 10 ∷ [])) refl)

-- one byte more that doesn't end it
pub goes_on : (line : List ℕ) (byte : ℕ) → HoldsNoLineEnd line → is_whole (line ++ byte ∷ []) ≡ false → HoldsNoLineEnd (line ++ byte ∷ [])
goes_on line byte none unended = joined line (byte ∷ []) none (no_end_in_one byte) (λ ends w is.
    let feed : byte ≡ 10 = cc in
    let whole : line ++ byte ∷ [] ≡ ends.0 ++ 13 ∷ 10 ∷ [] =
    ap (λ (b : ℕ). line ++ b ∷ []) feed ∙ ap (λ (l : List ℕ). l ++ 10 ∷ []) ends.1 ∙ append_assoc ends.0 (13 ∷ []) (10 ∷ []) in
    let yes : true ≡ false = sym (ended ends.0) ∙ ap is_whole (sym whole) ∙ unended in
    cc)

-- what stands before its CRLF
pub cut : (line : List ℕ) (byte : ℕ) → HoldsNoLineEnd line → HoldsNoLineEnd (without_end (line ++ byte ∷ []))
cut line byte none =
    let n : ℕ = length (line ++ byte ∷ []) - 2 in
    let short : n ≤ length line = omega (arith, length-append line (byte ∷ [])) in
    subst HoldsNoLineEnd (sym (take-append-le n line (byte ∷ []) short))
    (no_end_in_front (take n line) (drop n line) (subst HoldsNoLineEnd (sym (take-append-drop n line)) none))

-- a line without a dot before it
pub none_unstuffed : (line : List ℕ) → HoldsNoLineEnd line → HoldsNoLineEnd (unstuffed line)
none_unstuffed [] none = none
none_unstuffed (x ∷ line) none = by (x == 46)
  where
    by : (b : Bool) → HoldsNoLineEnd (if b then line else x ∷ line)
    by true = no_end_in_rest x line none
    by false = none
