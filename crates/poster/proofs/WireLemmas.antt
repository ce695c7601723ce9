-- Lines as they are sent, appended to a block that is made.
use Rattle.std.proofs.Common.{◌≡◌, ◌≤◌, ℕ, ◌+◌, Some, List, [], ◌∷◌, ◌++◌, length, take, drop, slice_get, refl, sym, ap, subst, ◌∙◌, inl, inr, arith, append_assoc, length-append, length-drop}
use Rattle.std.proofs.lemmas.Bool.{cases_eq, eq-eqb, ne_eqb}
use Rattle.std.proofs.lemmas.List.{append-nil, take_more, take-append-drop, nil_from_length}
use Rattle.std.proofs.lemmas.List.Sums.{sum_by-append}
use Rattle.std.proofs.lemmas.Option.{get_or_from_slice_get, slice_get_within}
use Rattle.dot_blocks.specs.Blocks.{stuffed, stuffed_line}
use Rattle.yenc_bytes.specs.WriterLines.{IsCanonicalData, IsWriterLine, is_empty}
use Rattle.yenc_lines.specs.KeywordText.{begin_text, end_text, part_text}
use Rattle.yenc_body.specs.Canonical.{body_around, header, part_line, trailer}
use Rattle.yenc_body.specs.declared.spec.BodySpec.{BodySpec}
use Rattle.yenc_text.specs.Text.{closing, ended, opening}
use Rattle.poster.specs.Article.{octets_of_line}
use Rattle.poster.specs.Wire.{SendsBody, SendsData, SendsLines, dot_before, wire_line, wire_of}

-- ---- lines

wire_of-append : (a b : List (List ℕ)) → wire_of (a ++ b) ≡ wire_of a ++ wire_of b
wire_of-append [] b = refl
wire_of-append (line ∷ a) b = ap (λ t. wire_line line ++ t) (wire_of-append a b) ∙ sym (append_assoc (wire_line line) (wire_of a) (wire_of b))

pub sends_none : (old : List ℕ) → SendsLines [] old old 0
sends_none old = record { wire_is = sym (append-nil old); dots_are = refl }

pub sends_both : (a b : List (List ℕ)) (old mid new : List ℕ) (m n : ℕ) → SendsLines a old mid m → SendsLines b mid new n → SendsLines (a ++ b) old new (m + n)
sends_both a b old mid new m n p q = record {
  wire_is = q.wire_is ∙ ap (λ t. t ++ wire_of b) p.wire_is ∙ append_assoc old (wire_of a) (wire_of b) ∙ ap (λ t. old ++ t) (sym (wire_of-append a b));
  dots_are = omega (arith, ap length (wire_of-append a b), length-append (wire_of a) (wire_of b), sum_by-append octets_of_line a b, p.dots_are, q.dots_are);
}

stuffed_is : (line : List ℕ) → stuffed_line line ≡ dot_before line ++ line
stuffed_is [] = refl
stuffed_is (x ∷ line) = elim (cases_eq x 46) [
  | inl p ↦ rw (eq-eqb x 46 p) refl
  | inr p ↦ rw (ne_eqb x 46 p) refl
]

-- one line, behind the dot that it has more
pub line_sent : (line old a b new : List ℕ) (dots : ℕ) → a ≡ old ++ dot_before line → dots ≡ length (dot_before line) → b ≡ a ++ line → new ≡ b ++ 13 ∷ 10 ∷ [] → SendsLines (line ∷ []) old new dots
line_sent line old a b new dots dot_is dots_are line_is end_is =
    let dot : List ℕ = dot_before line in
    let crlf : List ℕ = 13 ∷ 10 ∷ [] in
    let whole : wire_of (line ∷ []) ≡ (dot ++ line) ++ crlf = append-nil (wire_line line) ∙ ap (λ t. t ++ crlf) (stuffed_is line) in
    let both : b ≡ old ++ (dot ++ line) = line_is ∙ ap (λ t. t ++ line) dot_is ∙ append_assoc old dot line in
    record {
      wire_is = end_is ∙ ap (λ t. t ++ crlf) both ∙ append_assoc old (dot ++ line) crlf ∙ ap (λ t. old ++ t) (sym whole);
      dots_are = omega (arith, ap length whole, length-append (dot ++ line) crlf, length-append dot line, dots_are);
    }

-- the lines up to a place, and the one there
pub one_more : (lines : List (List ℕ)) (i : ℕ) (line old mid new : List ℕ) (m n : ℕ) → slice_get lines i ≡ Some line → SendsLines (take i lines) old mid m → SendsLines (line ∷ []) mid new n
    → SendsLines (take (i + 1) lines) old new (m + n)
one_more lines i line old mid new m n read p q =
    let front : take (i + 1) lines ≡ take i lines ++ line ∷ [] =
    take_more lines i line (slice_get_within lines i line read) ∙ ap (λ l. take i lines ++ l ∷ []) (get_or_from_slice_get lines i line line read)
    in
    subst (λ ls. SendsLines ls old new (m + n)) (sym front) (sends_both (take i lines) (line ∷ []) old mid new m n p q)

-- ---- data lines

-- the data lines so far, which go on to all of them whatever those of the rest are
pub record DataSoFar (line_length : ℕ) (bytes old rest new : List ℕ) (dots : ℕ) : Type 0 where
  pub lines : List (List ℕ)
  pub sends : SendsLines lines old new dots
  pub follows : (more : List (List ℕ)) → IsCanonicalData line_length rest more → IsCanonicalData line_length bytes (lines ++ more)
  pub few : dots + length rest ≤ length bytes

pub data_none : (line_length : ℕ) (bytes old : List ℕ) → DataSoFar line_length bytes old bytes old 0
data_none line_length bytes old = record { lines = []; sends = sends_none old; follows = λ more is. is; few = omega arith }

pub data_more : (line_length : ℕ) (bytes old rest after mid new : List ℕ) (used : ℕ) (line : List ℕ) (m n : ℕ) → DataSoFar line_length bytes old rest mid m
    → IsWriterLine line_length (is_empty (drop used rest)) (take used rest) line → SendsLines (line ∷ []) mid new n → n ≤ 1 → 1 ≤ used → used ≤ length rest → after ≡ drop used rest
    → DataSoFar line_length bytes old after new (m + n)
data_more line_length bytes old rest after mid new used line m n so_far is_line sends one some inside after_is = record {
  lines = so_far.lines ++ line ∷ [];
  sends = sends_both so_far.lines (line ∷ []) old mid new m n so_far.sends sends;
  follows = λ more is. subst (IsCanonicalData line_length bytes) (sym (append_assoc so_far.lines (line ∷ []) more))
      (so_far.follows (line ∷ more) (take used rest, drop used rest, sym (take-append-drop used rest), is_line, subst (λ (r : List ℕ). IsCanonicalData line_length r more) after_is is));
  few = omega (arith, so_far.few, one, some, inside, ap length after_is, length-drop used rest);
}

pub data_end : (line_length : ℕ) (bytes old rest new : List ℕ) (dots : ℕ) → DataSoFar line_length bytes old rest new dots → length rest ≡ 0 → SendsData line_length bytes old new dots
data_end line_length bytes old rest new dots so_far none =
    (so_far.lines, subst (IsCanonicalData line_length bytes) (append-nil so_far.lines) (so_far.follows [] (nil_from_length rest none)), so_far.sends)

-- ---- bodies

-- a line that begins with no dot is sent as it is
plain_sent : (line old : List ℕ) → stuffed_line line ≡ line → SendsLines (line ∷ []) old (old ++ ended line) 0
plain_sent line old plain =
    let whole : wire_of (line ∷ []) ≡ ended line = append-nil (wire_line line) ∙ ap (λ t. t ++ 13 ∷ 10 ∷ []) plain in
    record {
      wire_is = ap (λ t. old ++ t) (sym whole);
      dots_are = omega (arith, ap length whole, length-append line (13 ∷ 10 ∷ []));
    }

header_plain : (spec : BodySpec) → stuffed_line (header spec) ≡ header spec
unfolding header begin_text
header_plain spec = elim (cases_eq spec.total 1) [
  | inl p ↦ rw (eq-eqb spec.total 1 p) refl
  | inr p ↦ rw (ne_eqb spec.total 1 p) refl
]

part_line_plain : (spec : BodySpec) (content : List ℕ) → stuffed_line (part_line spec content) ≡ part_line spec content
unfolding part_line part_text
part_line_plain spec content = refl

trailer_plain : (spec : BodySpec) (content : List ℕ) → stuffed_line (trailer spec content) ≡ trailer spec content
unfolding trailer end_text
trailer_plain spec content = elim (cases_eq spec.total 1) [
  | inl p ↦ rw (eq-eqb spec.total 1 p) refl
  | inr p ↦ rw (ne_eqb spec.total 1 p) refl
]

-- what stands before the data lines, they, and what stands behind them
body_sent : (spec : BodySpec) (content : List ℕ) (held : List (List ℕ)) (old a b new : List ℕ) (dots : ℕ) → a ≡ old ++ opening spec content → SendsLines held a b dots → new ≡ b ++ closing spec content
    → SendsLines (body_around spec content held) old new dots
body_sent spec content held old a b new dots opened sends closed =
    let end : SendsLines (trailer spec content ∷ []) b new 0 = subst (λ n. SendsLines (trailer spec content ∷ []) b n 0) (sym closed) (plain_sent (trailer spec content) b (trailer_plain spec content)) in
    let behind : SendsLines (held ++ trailer spec content ∷ []) a new (dots + 0) = sends_both held (trailer spec content ∷ []) a b new dots 0 sends end in
    let first : SendsLines (header spec ∷ []) old (old ++ ended (header spec)) 0 = plain_sent (header spec) old (header_plain spec) in
    let sum : 0 + (dots + 0) ≡ dots = omega arith in
    elim (cases_eq spec.total 1) [
      | inl p ↦
          let a_is : a ≡ old ++ ended (header spec) = opened ∙ rw (eq-eqb spec.total 1 p) refl in
          let shape : body_around spec content held ≡ header spec ∷ held ++ trailer spec content ∷ [] = rw (eq-eqb spec.total 1 p) refl in
          rw shape (subst (SendsLines (header spec ∷ held ++ trailer spec content ∷ []) old new) sum
          (sends_both (header spec ∷ []) (held ++ trailer spec content ∷ []) old a new 0 (dots + 0) (subst (λ t. SendsLines (header spec ∷ []) old t 0) (sym a_is) first) behind))
      | inr p ↦
          let mid : List ℕ = old ++ ended (header spec) in
          let a_is : a ≡ mid ++ ended (part_line spec content) = opened ∙ rw (ne_eqb spec.total 1 p) (sym (append_assoc old (ended (header spec)) (ended (part_line spec content)))) in
          let shape : body_around spec content held ≡ header spec ∷ part_line spec content ∷ held ++ trailer spec content ∷ [] = rw (ne_eqb spec.total 1 p) refl in
          let second : SendsLines (part_line spec content ∷ []) mid a 0 = subst (λ t. SendsLines (part_line spec content ∷ []) mid t 0) (sym a_is) (plain_sent (part_line spec content) mid (part_line_plain spec content)) in
          let rest : SendsLines (part_line spec content ∷ held ++ trailer spec content ∷ []) mid new (0 + (dots + 0)) = sends_both (part_line spec content ∷ []) (held ++ trailer spec content ∷ []) mid a new 0 (dots + 0) second behind in
          let sums : 0 + (0 + (dots + 0)) ≡ dots = omega arith in
          rw shape (subst (SendsLines (header spec ∷ part_line spec content ∷ held ++ trailer spec content ∷ []) old new) sums
          (sends_both (header spec ∷ []) (part_line spec content ∷ held ++ trailer spec content ∷ []) old mid new 0 (0 + (dots + 0)) first rest))
    ]

-- the body that is wanted, from the one of the same part
pub body_pushed : (spec wanted : BodySpec) (content old a b new : List ℕ) (dots : ℕ) → spec ≡ wanted → a ≡ old ++ opening spec content → SendsData spec.line content a b dots → new ≡ b ++ closing spec content
    → SendsBody wanted content old new dots
body_pushed spec wanted content old a b new dots same opened (held, canonical, sends) closed =
    subst (λ s. SendsBody s content old new dots) same (body_around spec content held, (held, canonical, refl), body_sent spec content held old a b new dots opened sends closed)

-- ---- blocks

-- lines as they are sent and the dot that ends a block
pub stuffed_wire : (lines : List (List ℕ)) → stuffed lines ≡ wire_of lines ++ 46 ∷ 13 ∷ 10 ∷ []
stuffed_wire [] = refl
stuffed_wire (line ∷ lines) =
    let dot : List ℕ = 46 ∷ 13 ∷ 10 ∷ [] in
    ap (λ t. stuffed_line line ++ 13 ∷ 10 ∷ t) (stuffed_wire lines)
    ∙ sym (append_assoc (stuffed_line line) (13 ∷ 10 ∷ []) (wire_of lines ++ dot))
    ∙ sym (append_assoc (wire_line line) (wire_of lines) dot)
