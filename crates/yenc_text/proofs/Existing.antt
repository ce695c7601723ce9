-- Each part's bytes have data lines, of each line length but none.
use Rattle.std.proofs.Common.{◌≡◌, ◌≤◌, ◌<◌, ◌⊎◌, ℕ, zero, suc, ◌+◌, List, [], ◌∷◌, length, take, drop, refl, sym, arith, inl, inr, length-drop}
use Rattle.std.proofs.lemmas.List.{take-append-drop}
use Rattle.yenc_bytes.specs.WriterLines.{is_empty, IsWriterLine, IsCanonicalData}
use Rattle.yenc_bytes.proofs.DataLines.{Filled, Filled-none, Filled-more, Filled-end}
use Rattle.yenc_text.specs.Text.{text_of, EachHasText}

-- a front of the bytes is one line
record FirstLine (line_length : ℕ) (rest : List ℕ) : Type 0 where
  used : ℕ
  line : List ℕ
  some : 1 ≤ used
  inside : used ≤ length rest
  is_line : IsWriterLine line_length (is_empty (drop used rest)) (take used rest) line

-- whether one number is below another
below_or_not : (a b : ℕ) → (a < b) ⊎ (b ≤ a)
below_or_not zero zero = inr (omega arith)
below_or_not zero (suc b) = inl (omega arith)
below_or_not (suc a) zero = inr (omega arith)
below_or_not (suc a) (suc b) = elim (below_or_not a b) [
  | inl p ↦ inl (omega (arith, p))
  | inr p ↦ inr (omega (arith, p))
]

-- a line that is begun goes on to one line, over at most so many more bytes
goes_on : (left line_length : ℕ) (rest : List ℕ) (used : ℕ) (text : List ℕ) → length rest ≡ used + left → Filled line_length rest used text → 1 ≤ used → FirstLine line_length rest
goes_on zero line_length rest used text long filled some = record {
  used = used;
  line = text;
  some = some;
  inside = omega (arith, long);
  is_line = Filled-end line_length rest used text filled some (λ left. absurd (omega (arith, left, long)));
}
goes_on (suc left) line_length rest used text long filled some = elim (below_or_not (length text) line_length) [
  | inl room ↦
      goes_on left line_length rest (used + 1) _ (omega (arith, long))
      (Filled-more line_length rest used (length text) text _ filled refl (omega (arith, long)) room refl) (omega arith)
  | inr full ↦ record {
    used = used;
    line = text;
    some = some;
    inside = omega (arith, long);
    is_line = Filled-end line_length rest used text filled some (λ left. full);
  }
]

-- bytes begin with a line
first_line : (line_length : ℕ) (b : ℕ) (bytes : List ℕ) → 1 ≤ line_length → FirstLine line_length (b ∷ bytes)
first_line line_length b bytes h =
    goes_on (length bytes) line_length (b ∷ bytes) (0 + 1) _ (omega arith)
    (Filled-more line_length (b ∷ bytes) 0 0 [] _ (Filled-none line_length (b ∷ bytes) h) refl (omega arith) h refl) (omega arith)

-- at most so many bytes have data lines
have_lines : (most line_length : ℕ) (bytes : List ℕ) → 1 ≤ line_length → length bytes ≤ most → (lines : List (List ℕ)) × IsCanonicalData line_length bytes lines
have_lines most line_length [] h long = ([], refl)
have_lines zero line_length (b ∷ bytes) h long = absurd (omega (arith, long))
have_lines (suc most) line_length (b ∷ bytes) h long =
    let first = first_line line_length b bytes h in
    let rest : List ℕ = drop first.used (b ∷ bytes) in
    let more = have_lines most line_length rest h (omega (arith, long, first.some, first.inside, length-drop first.used (b ∷ bytes))) in
    (first.line ∷ more.0, (take first.used (b ∷ bytes), rest, sym (take-append-drop first.used (b ∷ bytes)), first.is_line, more.1))

pub each_has_text : EachHasText
each_has_text line_length bytes h =
    let lines = have_lines (length bytes) line_length bytes h (omega arith) in
    (text_of lines.0, (lines.0, lines.1, refl))
