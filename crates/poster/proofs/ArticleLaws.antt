-- The articles of a file.
use Rattle.std.proofs.Common.{◌≡◌, ℕ, ◌+◌, ◌-◌, ◌*◌, ◌≤◌, true, List, [], ◌∷◌, ◌++◌, length, refl, sym, ap, subst, ◌∙◌, arith, lit≤, length-append}
use Rattle.std.specs.Prelude.{All}
use Rattle.std.specs.List.{list_all}
use Rattle.std.proofs.lemmas.Bool.{and_parts}
use Rattle.std.proofs.lemmas.Bool.Decides.{nat_tests}
use Rattle.std.proofs.lemmas.List.Elements.{All-head, All-tail, All-weaker, recursion_from_All}
use Rattle.std.proofs.lemmas.List.Folds.{list_all-append}
use Rattle.article_head.specs.Field.{IsFileName}
use Rattle.article_head.specs.Head.{IsFieldLine}
use Rattle.article_head.proofs.HeadLaws.{head_is_fields}
use Rattle.article_head.proofs.PartIdLaws.{part_id_is_message_id}
use Rattle.article_head.proofs.TextLaws.{wider_passed}
use Rattle.dot_blocks.specs.Blocks.{HoldsNoLineEnd, IsBlock, stuffed}
use Rattle.dot_blocks.proofs.Stuffed.{is_block}
use Rattle.nntp_lines.specs.Command.{is_printable}
use Rattle.yenc_bytes.proofs.OneData.{one_canonical_data}
use Rattle.yenc_body.specs.Canonical.{IsCanonicalBody, IsPart}
use Rattle.yenc_body.specs.Parts.{most_bytes, most_parts, part_bytes, part_length, part_place, parts_of}
use Rattle.yenc_body.specs.declared.spec.BodySpec.{BodySpec}
use Rattle.yenc_body.proofs.PartLaws.{is_part, place_before}
use Rattle.yenc_lines.specs.Name.{IsName, has_no_line_end}
use Rattle.poster.specs.Article.{AreArticles, AreArticlesFrom, Article, IsArticle, IsWritten, head_of, lines_of, octets_of, spec_for}
use Rattle.poster.specs.Plan.{IsPartNumber, id_of}
use Rattle.poster.specs.Settings.{AreSettings}
use Rattle.poster.specs.declared.settings.Settings.{Settings}
use Rattle.poster.specs.Wire.{SendsArticle, SendsBody, SendsLines}
use Rattle.poster.proofs.WireLemmas.{sends_both, stuffed_wire}
use Rattle.poster.proofs.BodyLines.{ArePlain, AreShort, IsSmall, body_short, fewer, line_more, lines_more, no_lines}
use Rattle.poster.proofs.ShortText.{IsShort, ends_no_line}
use Rattle.limits.specs.declared.TheConstants.{MOST_OCTETS}

-- ---- heads

printable_plain : (byte : ℕ) → is_printable byte ≡ true → ends_no_line byte ≡ true
printable_plain byte h = grind (arith, nat_tests)

field_short : (line : List ℕ) → IsFieldLine line → IsShort 998 line
field_short line h = record { plain = wider_passed is_printable ends_no_line printable_plain line h.printable; short = h.short }

fields_short : (fields : List (List ℕ)) → All IsFieldLine fields → AreShort (1000 * length fields) fields
fields_short [] all = no_lines
fields_short (line ∷ fields) all =
    fewer (1000 + 1000 * length fields) (1000 * length (line ∷ fields)) (line ∷ fields) (omega arith)
    (line_more 998 (1000 * length fields) line fields (field_short line (All-head IsFieldLine line fields all)) (fields_short fields (All-tail IsFieldLine line fields all)))

empty_line : AreShort 2 ([] ∷ [])
empty_line = line_more 0 0 [] [] (record { plain = refl; short = lit≤ tt }) no_lines

head_short : (s : Settings) (size part : ℕ) → AreSettings s → parts_of size s.part_size ≤ most_parts → IsPartNumber size s.part_size part
    → AreShort 4002 (head_of s part (parts_of size s.part_size) (id_of s size part))
head_short s size part settings few number =
    let total = parts_of size s.part_size in
    let id = part_id_is_message_id s.token s.domain part total settings.token settings.domain (omega (arith, number.1)) few in
    let fields = head_is_fields s.from s.newsgroups s.comment s.name part total (id_of s size part) settings.from settings.newsgroups settings.comment settings.name
    (omega (arith, number.1, few)) (omega (arith, few)) id in
    let count : length fields.0 + 1 ≡ 5 = sym (length-append fields.0 ([] ∷ [])) ∙ ap length (sym fields.1) in
    rw fields.1 (fewer (1000 * length fields.0 + 2) 4002 _ (omega arith) (lines_more (1000 * length fields.0) 2 fields.0 ([] ∷ []) (fields_short fields.0 fields.2) empty_line))

-- ---- articles

-- the name that a subject gives is one that a header line can
file_name_is_name : (name : List ℕ) → IsFileName name → IsName name
file_name_is_name name h = record {
  some = h.some;
  most = h.short;
  no_line_end = wider_passed is_printable ends_no_line printable_plain name h.printable;
  trimmed = h.trimmed;
}

part_is_small : (s : Settings) (size part : ℕ) (bytes : List ℕ) → AreSettings s → size ≤ most_bytes → parts_of size s.part_size ≤ most_parts → IsPartNumber size s.part_size part
    → length bytes ≡ part_length size s.part_size part → IsSmall (spec_for s size part) bytes
part_is_small s size part bytes settings small few number len =
    let name = file_name_is_name s.name settings.name in
    let place = place_before size s.part_size part settings.part_size_least number.0 number.1 in
    record {
      name = name;
      part = omega (arith, number.1, few);
      total = omega (arith, few);
      first = omega (arith, place, len, settings.part_size_most);
      size = omega arith;
      line = omega (arith, settings.line_most);
    }

-- the lines of an article: none holds a line end, and all together they aren't long
pub article_short : (s : Settings) (size part : ℕ) (bytes : List ℕ) (a : Article) → AreSettings s → size ≤ most_bytes → parts_of size s.part_size ≤ most_parts
    → IsPartNumber size s.part_size part → length bytes ≡ part_length size s.part_size part → IsArticle s size part bytes a → AreShort MOST_OCTETS (lines_of a)
article_short s size part bytes a settings small few number len is =
    let head_is : a.head ≡ head_of s part (parts_of size s.part_size) (id_of s size part) =
    is.head_is ∙ ap (λ id. head_of s part (parts_of size s.part_size) id) is.id_is in
    let head : AreShort 4002 a.head = subst (AreShort 4002) (sym head_is) (head_short s size part settings few number) in
    let body = body_short (spec_for s size part) bytes a.body (part_is_small s size part bytes settings small few number len) is.body_is in
    fewer (4002 + (566 + 4 * length bytes)) MOST_OCTETS _ (omega (arith, len, settings.part_size_most)) (lines_more 4002 (566 + 4 * length bytes) a.head a.body head body)

-- a line without NUL, CR and LF holds no CR LF
plain_holds_none : (line : List ℕ) → has_no_line_end line ≡ true → HoldsNoLineEnd line
plain_holds_none line plain a b whole =
    let all : list_all ends_no_line (a ++ 13 ∷ 10 ∷ b) ≡ true = rw whole at plain in
    let behind = (and_parts (list_all ends_no_line a) (list_all ends_no_line (13 ∷ 10 ∷ b)) (sym (list_all-append ends_no_line a (13 ∷ 10 ∷ b)) ∙ all)).1 in
    cc

pub plain_hold_none : (lines : List (List ℕ)) → ArePlain lines → All HoldsNoLineEnd lines
plain_hold_none lines plain = All-weaker (λ (line : List ℕ). has_no_line_end line ≡ true) HoldsNoLineEnd plain_holds_none lines plain

-- ---- one list of articles

abbrev made : List ℕ → List (List ℕ) → List (List ℕ) → Article
made id head body = record { id = id; head = head; body = body }

same_article : (a b : Article) → a.id ≡ b.id → a.head ≡ b.head → a.body ≡ b.body → a ≡ b
same_article a b id head body = ap (λ i. made i a.head a.body) id ∙ ap (λ h. made b.id h a.body) head ∙ ap (λ lines. made b.id b.head lines) body

same_body : (spec : BodySpec) (bytes : List ℕ) (a b : List (List ℕ)) → IsCanonicalBody spec bytes a → IsCanonicalBody spec bytes b → a ≡ b
same_body spec bytes a b (held, canonical, a_is) (other, also, b_is) =
    let same : held ≡ other = one_canonical_data spec.line bytes held other canonical also in
    a_is ∙ rw same (sym b_is)

one_article : (s : Settings) (size part : ℕ) (bytes : List ℕ) (a b : Article) → IsArticle s size part bytes a → IsArticle s size part bytes b → a ≡ b
one_article s size part bytes a b p q =
    let id : a.id ≡ b.id = p.id_is ∙ sym q.id_is in
    let head : a.head ≡ b.head = p.head_is ∙ rw id (sym q.head_is) in
    same_article a b id head (same_body (spec_for s size part) bytes a.body b.body p.body_is q.body_is)

articles_from_are_one : (part : ℕ) (s : Settings) (file : List ℕ) (a b : List Article) → length a ≡ length b → AreArticlesFrom part s file a → AreArticlesFrom part s file b → a ≡ b
articles_from_are_one part s file [] [] same p q = refl
articles_from_are_one part s file [] (y ∷ b) same p q = absurd (omega (arith, same))
articles_from_are_one part s file (x ∷ a) [] same p q = absurd (omega (arith, same))
articles_from_are_one part s file (x ∷ a) (y ∷ b) same p q =
    let first = one_article s (length file) part (part_bytes file s.part_size part) x y p.0 q.0 in
    let rest = articles_from_are_one (part + 1) s file a b (omega (arith, same)) p.1 q.1 in
    cc

pub same_articles : (s : Settings) (file : List ℕ) (a b : List Article) → AreArticles s file a → AreArticles s file b → a ≡ b
same_articles s file a b p q = articles_from_are_one 1 s file a b (p.count ∙ sym q.count) p.each q.each

-- ---- the law

pub hold_no_line_end : (s : Settings) (size part : ℕ) (bytes : List ℕ) (a : Article) → AreSettings s → size ≤ most_bytes →
    parts_of size s.part_size ≤ most_parts → IsPartNumber size s.part_size part → length bytes ≡ part_length size s.part_size part →
    IsArticle s size part bytes a → ArePlain (lines_of a)
hold_no_line_end s size part bytes a settings small few number len is = (article_short s size part bytes a settings small few number len is).plain

-- ---- the article that is made

-- a head and a body behind it are sent as an article
pub article_sent : (s : Settings) (size part total : ℕ) (bytes id : List ℕ) (old lines : List (List ℕ)) (before between new : List ℕ) (m n : ℕ) → old ≡ [] → lines ≡ old ++ head_of s part total id → total ≡ parts_of size s.part_size
    → id ≡ id_of s size part → before ≡ [] → SendsLines lines before between m → SendsBody (spec_for s size part) bytes between new n → SendsArticle s size part bytes new (m + n)
article_sent s size part total bytes id old lines before between new m n none head total_is id_is empty first (body, canonical, second) =
    let head_is : lines ≡ head_of s part total id = head ∙ ap (λ ls. ls ++ head_of s part total id) none in
    let both : SendsLines (lines ++ body) before new (m + n) = sends_both lines body before between new m n first second in (
      made id (head_of s part total id) body,
      record { id_is = id_is; head_is = ap (λ k. head_of s part k id) total_is; body_is = canonical },
      subst (λ ls. SendsLines (ls ++ body) [] new (m + n)) head_is (subst (λ o. SendsLines (lines ++ body) o new (m + n)) empty both),
    )

-- how many bytes an article has as it is sent
pub length_sent : (s : Settings) (size part : ℕ) (bytes new : List ℕ) (dots : ℕ) → (sent : SendsArticle s size part bytes new dots) → length new ≡ octets_of sent.0 + dots
length_sent s size part bytes new dots (a, is, sends) = ap length sends.wire_is ∙ sends.dots_are

-- the head of an article has five lines
pub head_count : (s : Settings) (part total : ℕ) (id : List ℕ) (old lines : List (List ℕ)) → old ≡ [] → lines ≡ old ++ head_of s part total id → length lines ≡ 5
head_count s part total id old lines none is = ap length (is ∙ ap (λ ls. ls ++ head_of s part total id) none)

-- what the body is made for is a part that it can be made of
pub spec_is_part : (s : Settings) (size part len : ℕ) (spec : BodySpec) → AreSettings s → size ≤ most_bytes → IsPartNumber size s.part_size part → len ≡ part_length size s.part_size part → spec ≡ spec_for s size part
    → IsPart spec len
spec_is_part s size part len spec settings small number len_is spec_is =
    rw (spec_is, len_is) (is_part s.name s.line size s.part_size part settings.line_least settings.line_most settings.part_size_least settings.part_size_most number.0 small number.1)

abbrev pub spec_with : List ℕ → (part total first size line : ℕ) → BodySpec
spec_with name part total first size line = record { name = name; part = part; total = total; first = first; size = size; line = line }

pub spec_made : (s : Settings) (size part total first : ℕ) (name : List ℕ) → name ≡ s.name → total ≡ parts_of size s.part_size → first ≡ part_place s.part_size part + 1
    → spec_with name part total first size s.line ≡ spec_for s size part
spec_made s size part total first name n t f = rw (n, t, f) refl

-- the article's block, and its octets
pub article_written : (s : Settings) (size part octets dots : ℕ) (bytes sent block : List ℕ) → AreSettings s → size ≤ most_bytes → parts_of size s.part_size ≤ most_parts → IsPartNumber size s.part_size part
    → length bytes ≡ part_length size s.part_size part → SendsArticle s size part bytes sent dots → octets ≡ length sent - dots → block ≡ sent ++ 46 ∷ 13 ∷ 10 ∷ [] → IsWritten s size part bytes block octets
article_written s size part octets dots bytes sent block settings small few number len (a, is, sends) octets_are closed =
    let short : AreShort MOST_OCTETS (lines_of a) = article_short s size part bytes a settings small few number len is in
    let long = length_sent s size part bytes sent dots (a, is, sends) in
    let block_is : block ≡ stuffed (lines_of a) = closed ∙ ap (λ t. t ++ 46 ∷ 13 ∷ 10 ∷ []) sends.wire_is ∙ sym (stuffed_wire (lines_of a)) in
    let count : octets ≡ octets_of a = omega (arith, octets_are, long) in
    record {
      article = a;
      is_article = is;
      block_is = block_is;
      is_block = subst (IsBlock (lines_of a)) (sym block_is) (is_block (lines_of a) (recursion_from_All HoldsNoLineEnd (lines_of a) (plain_hold_none (lines_of a) short.plain)));
      octets_are = count;
      octets_most = omega (arith, count, short.short);
    }
