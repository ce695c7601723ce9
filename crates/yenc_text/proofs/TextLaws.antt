-- The text of lines behind one another, and of the pieces of a part's data lines.
use Rattle.std.proofs.Common.{◌≡◌, ℕ, ◌+◌, ◌==◌, Bool, true, false, List, [], ◌∷◌, ◌++◌, take, drop, refl, sym, ap, subst, ◌∙◌, append_assoc}
use Rattle.std.proofs.lemmas.List.{append-nil, take-append-drop}
use Rattle.std.proofs.Math.Seq.{drop-drop}
use Rattle.yenc_bytes.specs.WriterLines.{is_empty, IsWriterLine, IsCanonicalData}
use Rattle.yenc_body.specs.Canonical.{header, part_line, trailer, body_around}
use Rattle.yenc_body.specs.declared.spec.BodySpec.{BodySpec}
use Rattle.yenc_text.specs.Text.{ended, text_of, opening, closing, IsDataText, IsPiece, TextOfThree}

-- the text of lines behind one another
pub text_of-append : (a b : List (List ℕ)) → text_of (a ++ b) ≡ text_of a ++ text_of b
text_of-append [] b = refl
text_of-append (line ∷ a) b = ap (λ t. ended line ++ t) (text_of-append a b) ∙ sym (append_assoc (ended line) (text_of a) (text_of b))

-- no line yet
pub piece_none : (line_length : ℕ) (bytes : List ℕ) → IsPiece line_length bytes 0 []
piece_none line_length bytes = λ more is. is

-- one more line
pub piece_more : (line_length : ℕ) (bytes : List ℕ) (used count : ℕ) (text line new : List ℕ) → IsPiece line_length bytes used text
    → IsWriterLine line_length (is_empty (drop count (drop used bytes))) (take count (drop used bytes)) line → new ≡ text ++ ended line → IsPiece line_length bytes (used + count) new
piece_more line_length bytes used count text line new so_far is_line new_is more (lines, are, more_is) =
    let left : List ℕ = drop used bytes in
    let behind : drop (used + count) bytes ≡ drop count left = sym (drop-drop count used bytes) in
    let all : IsDataText line_length left (ended line ++ more) = (
      line ∷ lines,
      (take count left, drop count left, sym (take-append-drop count left), is_line, subst (λ (r : List ℕ). IsCanonicalData line_length r lines) behind are),
      ap (λ t. ended line ++ t) more_is,
    ) in
    subst (IsDataText line_length bytes) (sym (ap (λ t. t ++ more) new_is ∙ append_assoc text (ended line) more)) (so_far (ended line ++ more) all)

-- the text of a body's lines
around_text : (spec : BodySpec) (content : List ℕ) (lines : List (List ℕ)) (one : Bool) → (spec.total == 1) ≡ one
    → opening spec content ++ (text_of lines ++ closing spec content) ≡ text_of (body_around spec content lines)
around_text spec content lines true is =
    let back : text_of (lines ++ trailer spec content ∷ []) ≡ text_of lines ++ closing spec content =
    text_of-append lines (trailer spec content ∷ []) ∙ ap (λ t. text_of lines ++ t) (append-nil (closing spec content))
    in
    rw is (sym (ap (λ t. ended (header spec) ++ t) back))
around_text spec content lines false is =
    let back : text_of (lines ++ trailer spec content ∷ []) ≡ text_of lines ++ closing spec content =
    text_of-append lines (trailer spec content ∷ []) ∙ ap (λ t. text_of lines ++ t) (append-nil (closing spec content))
    in
    rw is (append_assoc (ended (header spec)) (ended (part_line spec content)) (text_of lines ++ closing spec content)
    ∙ sym (ap (λ t. ended (header spec) ++ (ended (part_line spec content) ++ t)) back))

pub text_of_three : TextOfThree
text_of_three spec content text (lines, are, text_is) = (
  body_around spec content lines,
  (lines, are, refl),
  ap (λ t. opening spec content ++ (t ++ closing spec content)) text_is ∙ around_text spec content lines (spec.total == 1) refl,
)
