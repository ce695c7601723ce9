-- The lines of a body as a writer makes it: none holds a line end, and all together they aren't long.
use Rattle.std.proofs.Common.{◌≡◌, ℕ, ◌+◌, ◌-◌, ◌*◌, ◌≤◌, ◌<◌, ◌^◌, ◌%◌, ◌==◌, Bool, true, false, List, [], ◌∷◌, ◌++◌, length, Option, Some, None, refl, sym, ap, subst, ◌∙◌, inl, inr, arith, lit≤, length-append}
use Rattle.std.specs.Prelude.{codes, decimal, All, sum_by, ◌||◌, ◌&&◌}
use Rattle.std.proofs.lemmas.Bool.{cases_eq, eq-eqb, ne_eqb}
use Rattle.std.proofs.lemmas.Bool.Decides.{nat_tests}
use Rattle.std.proofs.lemmas.List.Elements.{All-append, All-cons, All-nil}
use Rattle.std.proofs.lemmas.List.Sums.{sum_by-append, sum_by-cons}
use Rattle.crc_field.specs.Crc.{crc32}
use Rattle.crc_field.specs.Hex.{hex_digits}
use Rattle.yenc_bytes.specs.WriterLines.{IsCanonicalData, IsWriterLine, is_empty, line_text, writer_spelling}
use Rattle.yenc_lines.specs.KeywordText.{begin_text, end_text, item, part_text}
use Rattle.yenc_lines.specs.Name.{IsName, has_no_line_end}
use Rattle.yenc_body.specs.Canonical.{IsCanonicalBody, header, part_line, trailer}
use Rattle.yenc_lines.specs.declared.keyword.Begin.{Begin}
use Rattle.yenc_lines.specs.declared.keyword.EndLine.{EndLine}
use Rattle.yenc_body.specs.declared.spec.BodySpec.{BodySpec}
use Rattle.poster.specs.Article.{octets_of_line}
use Rattle.poster.proofs.ShortText.{IsShort, both_short, hex_short, longer, name_short, number_short}

-- ---- data lines

shown : ℕ → ℕ
shown b = (b + 42) % 256

spelling_plain : (forced : Bool) (b : ℕ) → has_no_line_end (writer_spelling forced b) ≡ true
spelling_plain true b = grind (arith, nat_tests)
spelling_plain false b = grind (arith, nat_tests)

spelling_short : (forced : Bool) (b : ℕ) → length (writer_spelling forced b) ≤ 2
spelling_short true b = grind (arith, nat_tests)
spelling_short false b = grind (arith, nat_tests)

-- at most two characters a byte
line_text_short : (line_length : ℕ) (ends : Bool) (before : ℕ) (bytes : List ℕ) → IsShort (2 * length bytes) (line_text line_length ends before bytes)
line_text_short line_length ends before [] = record { plain = refl; short = lit≤ tt }
line_text_short line_length ends before (b ∷ bytes) =
    let forced : Bool = before == 0 || before + 1 == line_length || (ends && is_empty bytes) in
    let spelling : List ℕ = writer_spelling forced b in
    let first : IsShort 2 spelling = record { plain = spelling_plain forced b; short = spelling_short forced b } in
    longer (2 + 2 * length bytes) (2 * length (b ∷ bytes)) _ (omega arith)
    (both_short 2 (2 * length bytes) spelling (line_text line_length ends (before + length spelling) bytes) first (line_text_short line_length ends (before + length spelling) bytes))

abbrev pub ArePlain : List (List ℕ) → Type 0
ArePlain lines = All (λ line. has_no_line_end line ≡ true) lines

-- lines without a line end that have at most so many octets together
pub record AreShort (most : ℕ) (lines : List (List ℕ)) : Type 0 where
  pub plain : ArePlain lines
  pub short : sum_by octets_of_line lines ≤ most

pub no_lines : AreShort 0 []
no_lines = record { plain = All-nil (λ line. has_no_line_end line ≡ true); short = lit≤ tt }

pub line_more : (m n : ℕ) (line : List ℕ) (lines : List (List ℕ)) → IsShort m line → AreShort n lines → AreShort (m + 2 + n) (line ∷ lines)
line_more m n line lines p q = record {
  plain = All-cons (λ (text : List ℕ). has_no_line_end text ≡ true) line lines p.plain q.plain;
  short = omega (arith, sum_by-cons octets_of_line line lines, p.short, q.short);
}

pub lines_more : (m n : ℕ) (a b : List (List ℕ)) → AreShort m a → AreShort n b → AreShort (m + n) (a ++ b)
lines_more m n a b p q = record {
  plain = All-append (λ (text : List ℕ). has_no_line_end text ≡ true) a b p.plain q.plain;
  short = omega (arith, sum_by-append octets_of_line a b, p.short, q.short);
}

pub fewer : (m n : ℕ) (lines : List (List ℕ)) → m ≤ n → AreShort m lines → AreShort n lines
fewer m n lines le p = record { plain = p.plain; short = omega (arith, p.short) }

some_byte : (bytes line : List ℕ) (line_length : ℕ) (ends : Bool) → IsWriterLine line_length ends bytes line → 1 ≤ length bytes
some_byte [] line line_length ends w = absurd (w.some refl)
some_byte (b ∷ bytes) line line_length ends w = omega arith

-- at most four octets a byte, with the ends of the lines
pub data_lines_short : (line_length : ℕ) (bytes : List ℕ) (lines : List (List ℕ)) → IsCanonicalData line_length bytes lines → AreShort (4 * length bytes) lines
data_lines_short line_length bytes [] canonical = fewer 0 (4 * length bytes) [] (omega arith) no_lines
data_lines_short line_length bytes (line ∷ lines) (front, rest, whole, written, more) =
    let text : IsShort (2 * length front) line = subst (IsShort (2 * length front)) (sym written.text) (line_text_short line_length (is_empty rest) 0 front) in
    fewer (2 * length front + 2 + 4 * length rest) (4 * length bytes) (line ∷ lines)
    (omega (arith, some_byte front line line_length (is_empty rest) written, ap length whole, length-append front rest))
    (line_more (2 * length front) (4 * length rest) line lines text (data_lines_short line_length rest lines more))

-- ---- keyword lines

literal : (most : ℕ) (text : List ℕ) → has_no_line_end text ≡ true → length text ≤ most → IsShort most text
literal most text plain short = record { plain = plain; short = short }

-- an item with a number
number_item : (key : List ℕ) (n : ℕ) → IsShort 6 key → n < 2 ^ 64 → IsShort 28 (item key decimal (Some n))
number_item key n k h =
    both_short 8 20 (codes " " ++ key ++ codes "=") (decimal n)
    (both_short 7 1 (codes " " ++ key) (codes "=") (both_short 1 6 (codes " ") key (literal 1 (codes " ") refl (lit≤ tt)) k) (literal 1 (codes "=") refl (lit≤ tt)))
    (number_short n h)

-- an item with a CRC
crc_item : (key : List ℕ) (n : ℕ) → IsShort 6 key → IsShort 16 (item key (hex_digits 8) (Some n))
crc_item key n k =
    both_short 8 8 (codes " " ++ key ++ codes "=") (hex_digits 8 n)
    (both_short 7 1 (codes " " ++ key) (codes "=") (both_short 1 6 (codes " ") key (literal 1 (codes " ") refl (lit≤ tt)) k) (literal 1 (codes "=") refl (lit≤ tt)))
    (hex_short 8 n)

key : (text : List ℕ) → has_no_line_end text ≡ true → length text ≤ 6 → IsShort 6 text
key = literal 6

none : IsShort 0 []
none = literal 0 [] refl (lit≤ tt)

-- an item's number fits a word, if it is there
abbrev pub FitsWord : Option ℕ → Type 0
FitsWord None = Unit {0}
FitsWord (Some n) = n < 2 ^ 64

number_or_none : (key : List ℕ) (o : Option ℕ) → IsShort 6 key → FitsWord o → IsShort 28 (item key decimal o)
number_or_none key None k h = longer 0 28 [] (lit≤ tt) none
number_or_none key (Some n) k h = number_item key n k h

crc_or_none : (key : List ℕ) (o : Option ℕ) → IsShort 6 key → IsShort 28 (item key (hex_digits 8) o)
crc_or_none key None k = longer 0 28 [] (lit≤ tt) none
crc_or_none key (Some n) k = longer 16 28 _ (lit≤ tt) (crc_item key n k)

begin_short : (b : Begin) → IsName b.name → FitsWord b.part → FitsWord b.total → FitsWord b.line → b.size < 2 ^ 64 → IsShort 381 (begin_text b)
unfolding begin_text
begin_short b name part total line size =
    both_short 126 255 _ b.name
    (both_short 119 7 _ (codes " name=")
    (both_short 91 28 _ (item (codes "size") decimal (Some b.size))
    (both_short 63 28 _ (item (codes "line") decimal b.line)
    (both_short 35 28 _ (item (codes "total") decimal b.total)
    (both_short 7 28 (codes "=ybegin") (item (codes "part") decimal b.part) (literal 7 (codes "=ybegin") refl (lit≤ tt))
    (number_or_none (codes "part") b.part (key (codes "part") refl (lit≤ tt)) part))
    (number_or_none (codes "total") b.total (key (codes "total") refl (lit≤ tt)) total))
    (number_or_none (codes "line") b.line (key (codes "line") refl (lit≤ tt)) line))
    (number_item (codes "size") b.size (key (codes "size") refl (lit≤ tt)) size))
    (literal 7 (codes " name=") refl (lit≤ tt)))
    (name_short b.name name)

end_short : (e : EndLine) → e.size < 2 ^ 64 → FitsWord e.part → IsShort 117 (end_text e)
unfolding end_text
end_short e size part =
    both_short 89 28 _ (item (codes "crc32") (hex_digits 8) e.crc32)
    (both_short 61 28 _ (item (codes "pcrc32") (hex_digits 8) e.pcrc32)
    (both_short 33 28 _ (item (codes "part") decimal e.part)
    (both_short 5 28 (codes "=yend") (item (codes "size") decimal (Some e.size)) (literal 5 (codes "=yend") refl (lit≤ tt))
    (number_item (codes "size") e.size (key (codes "size") refl (lit≤ tt)) size))
    (number_or_none (codes "part") e.part (key (codes "part") refl (lit≤ tt)) part))
    (crc_or_none (codes "pcrc32") e.pcrc32 (key (codes "pcrc32") refl (lit≤ tt))))
    (crc_or_none (codes "crc32") e.crc32 (key (codes "crc32") refl (lit≤ tt)))

-- ---- bodies

-- what the lines of a body need of the part that it is made of
pub record IsSmall (spec : BodySpec) (content : List ℕ) : Type 0 where
  pub name : IsName spec.name
  pub part : spec.part < 2 ^ 64
  pub total : spec.total < 2 ^ 64
  pub first : spec.first + length content < 2 ^ 64
  pub size : spec.size < 2 ^ 64
  pub line : spec.line < 2 ^ 64

header_short : (spec : BodySpec) (content : List ℕ) → IsSmall spec content → IsShort 381 (header spec)
unfolding header
header_short spec content h = elim (cases_eq spec.total 1) [
  | inl one ↦ rw (eq-eqb spec.total 1 one) (begin_short (record { part = None; total = None; line = Some spec.line; size = spec.size; name = spec.name }) h.name tt tt h.line h.size)
  | inr more ↦ rw (ne_eqb spec.total 1 more) (begin_short (record { part = Some spec.part; total = Some spec.total; line = Some spec.line; size = spec.size; name = spec.name }) h.name h.part h.total h.line h.size)
]

part_line_short : (spec : BodySpec) (content : List ℕ) → IsSmall spec content → IsShort 62 (part_line spec content)
unfolding part_line part_text
part_line_short spec content h =
    both_short 34 28 (codes "=ypart" ++ item (codes "begin") decimal (Some spec.first)) (item (codes "end") decimal (Some (spec.first + length content - 1)))
    (both_short 6 28 (codes "=ypart") (item (codes "begin") decimal (Some spec.first)) (literal 6 (codes "=ypart") refl (lit≤ tt))
    (number_item (codes "begin") spec.first (key (codes "begin") refl (lit≤ tt)) (omega (arith, h.first))))
    (number_item (codes "end") (spec.first + length content - 1) (key (codes "end") refl (lit≤ tt)) (omega (arith, h.first)))

trailer_short : (spec : BodySpec) (content : List ℕ) → IsSmall spec content → IsShort 117 (trailer spec content)
unfolding trailer
trailer_short spec content h = elim (cases_eq spec.total 1) [
  | inl one ↦ rw (eq-eqb spec.total 1 one) (end_short (record { size = spec.size; part = None; pcrc32 = None; crc32 = Some (crc32 content) }) h.size tt)
  | inr more ↦ rw (ne_eqb spec.total 1 more) (end_short (record { size = length content; part = Some spec.part; pcrc32 = Some (crc32 content); crc32 = None }) (omega (arith, h.first)) h.part)
]

-- the lines of a body: three keyword lines at most, and four octets a byte
pub body_short : (spec : BodySpec) (content : List ℕ) (lines : List (List ℕ)) → IsSmall spec content → IsCanonicalBody spec content lines → AreShort (566 + 4 * length content) lines
body_short spec content lines h (held, canonical, lines_are) =
    let head = header_short spec content h in
    let between = part_line_short spec content h in
    let behind = trailer_short spec content h in
    let filled = data_lines_short spec.line content held canonical in
    let end = lines_more (4 * length content) 119 held (trailer spec content ∷ []) filled (line_more 117 0 (trailer spec content) [] behind no_lines) in
    elim (cases_eq spec.total 1) [
      | inl one ↦
          let shape : lines ≡ header spec ∷ held ++ trailer spec content ∷ [] = lines_are ∙ rw (eq-eqb spec.total 1 one) refl in
          rw shape (fewer (383 + (4 * length content + 119)) (566 + 4 * length content) _ (omega arith) (line_more 381 (4 * length content + 119) (header spec) _ head end))
      | inr more ↦
          let shape : lines ≡ header spec ∷ part_line spec content ∷ held ++ trailer spec content ∷ [] = lines_are ∙ rw (ne_eqb spec.total 1 more) refl in
          rw shape (fewer (383 + (64 + (4 * length content + 119))) (566 + 4 * length content) _ (omega arith)
          (line_more 381 (64 + (4 * length content + 119)) (header spec) _ head (line_more 62 (4 * length content + 119) (part_line spec content) _ between end)))
    ]
