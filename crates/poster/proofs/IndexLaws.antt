-- The index of a file that was posted.
use Rattle.std.proofs.Common.{◌≡◌, ℕ, zero, suc, ◌+◌, ◌≤◌, ◌<◌, true, List, [], ◌∷◌, ◌++◌, length, get_or, take, refl, sym, ap, subst, ◌∙◌, arith, lit≤, add-zero}
use Rattle.std.specs.Prelude.{All, IsPermutation, map, nat_le}
use Rattle.std.specs.List.{AllByRecursion, list_all, range_with_len}
use Rattle.std.proofs.lemmas.Bool.Decides.{nat_tests}
use Rattle.std.proofs.lemmas.List.Elements.{All-head, All-tail, All-weaker, recursion_from_All}
use Rattle.std.proofs.lemmas.List.FromFn.{length-map-range_with_len}
use Rattle.std.proofs.lemmas.List.Sorted.{IsPermutation-refl}
use Rattle.article_head.specs.Subject.{subject_text}
use Rattle.article_head.proofs.HeadLaws.{subject_printable}
use Rattle.article_head.proofs.PartIdLaws.{part_id_is_message_id}
use Rattle.article_head.proofs.Pieces.{names_are_pieces}
use Rattle.nntp_lines.specs.Command.{is_printable}
use Rattle.nntp_lines.specs.GroupName.{IsGroupName}
use Rattle.nzb_writer.specs.Canonical.{IsValidFile, IsValidIndex}
use Rattle.nzb_writer.specs.Markup.{IsTextBytes, is_message_id, trimmed}
use Rattle.nzb_writer.specs.declared.index.FileEntry.{FileEntry}
use Rattle.nzb_writer.specs.declared.index.Index.{Index}
use Rattle.nzb_writer.specs.declared.index.Meta.{Meta}
use Rattle.nzb_writer.specs.declared.index.Segment.{Segment}
use Rattle.nzb_writer.proofs.ValidTexts.{group_is_valid, id_is_valid, plain_text, wider}
use Rattle.yenc_body.specs.Parts.{most_parts, parts_of}
use Rattle.poster.specs.Article.{AreArticlesFrom, Article}
use Rattle.poster.specs.Index.{AreOutcomes, IndexesArticles, entry_of, index_of, numbered, segments_from}
use Rattle.poster.specs.Plan.{IsPlanOf, id_of, planned_part}
use Rattle.poster.specs.Settings.{AreSettings}
use Rattle.poster.specs.declared.index.Sent.{Sent}
use Rattle.poster.specs.declared.parts.Plan.{Plan}
use Rattle.poster.specs.declared.parts.PlanPart.{PlanPart}
use Rattle.poster.specs.declared.settings.Settings.{Settings}
use Rattle.limits.specs.declared.TheConstants.{MOST_OCTETS, LAST_MOMENT}

-- ---- texts

printable_plain : (byte : ℕ) → is_printable byte ≡ true → nat_le 32 byte ≡ true
printable_plain byte h = grind (arith, nat_tests)

printable_text : (text : List ℕ) → list_all is_printable text ≡ true → IsTextBytes text
printable_text text all = plain_text text (wider is_printable (nat_le 32) printable_plain text all)

-- ---- segments

abbrev pub IsValidSegment : Segment → Type 0
IsValidSegment s = (1 ≤ s.number) × (s.number ≤ 4294967295) × (s.bytes ≤ MOST_OCTETS) × (is_message_id s.id ≡ true)

length-segments : (number : ℕ) (parts : List PlanPart) (sent : List Sent) → length sent ≡ length parts → length (segments_from number parts sent) ≡ length parts
length-segments number [] sent same = refl
length-segments number (part ∷ parts) [] same = absurd (omega (arith, same))
length-segments number (part ∷ parts) (s ∷ sent) same = let rest = length-segments (number + 1) parts sent (omega (arith, same)) in omega (arith, rest)

segments_valid : (s : Settings) (size number count : ℕ) (sent : List Sent) → AreSettings s → parts_of size s.part_size ≤ most_parts → 1 ≤ number → number + count ≤ parts_of size s.part_size + 1
    → All (λ one. one.bytes ≤ MOST_OCTETS) sent → AllByRecursion IsValidSegment (segments_from number (map (planned_part s size) (range_with_len number count)) sent)
segments_valid s size number zero sent settings few first last short = tt
segments_valid s size number (suc count) [] settings few first last short = tt
segments_valid s size number (suc count) (one ∷ sent) settings few first last short =
    let id = part_id_is_message_id s.token s.domain number (parts_of size s.part_size) settings.token settings.domain (omega (arith, few, last)) few in
    let IsFew : Sent → Type 0 = λ other. other.bytes ≤ MOST_OCTETS in (
      (first, omega (arith, few, last), All-head IsFew one sent short, id_is_valid (id_of s size number) id),
      segments_valid s size (number + 1) count sent settings few (omega arith) (omega (arith, last)) (All-tail IsFew one sent short),
    )

-- ---- the index

pub index_valid : (s : Settings) (p : Plan) (sent : List Sent) (moment : ℕ) → AreSettings s → IsPlanOf s p.size p → AreOutcomes p sent → moment ≤ LAST_MOMENT → IsValidIndex (index_of s p sent moment)
index_valid s p sent moment settings plan outcomes late =
    let total : ℕ = parts_of p.size s.part_size in
    let count : length p.parts ≡ total = ap length plan.parts_are ∙ length-map-range_with_len (planned_part s p.size) 1 total in
    let groups : AllByRecursion (λ g. IsTextBytes g × (trimmed g ≡ g)) settings.newsgroups.names =
    recursion_from_All (λ (g : List ℕ). IsTextBytes g × (trimmed g ≡ g)) settings.newsgroups.names (All-weaker IsGroupName (λ (g : List ℕ). IsTextBytes g × (trimmed g ≡ g)) group_is_valid settings.newsgroups.names settings.newsgroups.valid) in
    let segments : AllByRecursion IsValidSegment (segments_from 1 p.parts sent) =
    subst (λ parts. AllByRecursion IsValidSegment (segments_from 1 parts sent)) (sym plan.parts_are) (segments_valid s p.size 1 total sent settings plan.few_parts (lit≤ tt) (omega arith) outcomes.short) in
    let file : IsValidFile (entry_of s p sent moment) = record {
      poster = printable_text s.from settings.from.printable;
      subject = printable_text (subject_text s.comment s.name 1 (length p.parts)) (subject_printable s.comment s.name 1 (length p.parts) settings.comment settings.name (lit≤ tt) (omega (arith, count, plan.few_parts)));
      date = late;
      groups = subst (AllByRecursion (λ g. IsTextBytes g × (trimmed g ≡ g))) (names_are_pieces s.newsgroups settings.newsgroups) groups;
      segments = segments;
    } in
    record {
      metas = tt;
      files = (file, tt);
      few_files = lit≤ tt;
      few_segments = omega (arith, length-segments 1 p.parts sent outcomes.count, count, plan.few_parts);
    }

-- ---- the index of the articles

abbrev pub named : Segment → ℕ × List ℕ
named s = (s.number, s.id)

segments_named : (s : Settings) (file : List ℕ) (number count : ℕ) (sent : List Sent) (articles : List Article) → length sent ≡ count → length articles ≡ count → AreArticlesFrom number s file articles
    → map named (segments_from number (map (planned_part s (length file)) (range_with_len number count)) sent) ≡ numbered number articles
segments_named s file number zero sent [] sents many are = refl
segments_named s file number zero sent (a ∷ articles) sents many are = absurd (omega (arith, many))
segments_named s file number (suc count) sent [] sents many are = absurd (omega (arith, many))
segments_named s file number (suc count) [] (a ∷ articles) sents many are = absurd (omega (arith, sents))
segments_named s file number (suc count) (one ∷ sent) (a ∷ articles) sents many are =
    let rest = segments_named s file (number + 1) count sent articles (omega (arith, sents)) (omega (arith, many)) are.1 in
    rw (rest, are.0.id_is) refl

pub index_of_articles : (s : Settings) (p : Plan) (sent : List Sent) (moment : ℕ) → IsPlanOf s p.size p → AreOutcomes p sent → IndexesArticles s p.size (index_of s p sent moment)
index_of_articles s p sent moment plan outcomes = (
  entry_of s p sent moment,
  refl,
  λ file articles len are.
      let total : ℕ = parts_of p.size s.part_size in
      let sents : length sent ≡ total = outcomes.count ∙ ap length plan.parts_are ∙ length-map-range_with_len (planned_part s p.size) 1 total in
      let same : map named (segments_from 1 p.parts sent) ≡ numbered 1 articles =
      ap (λ parts. map named (segments_from 1 parts sent)) plan.parts_are
      ∙ (let e : p.size ≡ length file = sym len in
      rw e (segments_named s file 1 (parts_of (length file) s.part_size) sent articles (sents ∙ ap (λ size. parts_of size s.part_size) e) are.count are.each)) in
      subst (IsPermutation (map named (segments_from 1 p.parts sent))) same (IsPermutation-refl (map named (segments_from 1 p.parts sent))),
)

-- ---- making it

abbrev pub segment_with : (number bytes : ℕ) → List ℕ → Segment
segment_with number bytes id = record { number = number; bytes = bytes; id = id }

abbrev pub index_with : List Meta → List FileEntry → Index
index_with metas files = record { metas = metas; files = files }

-- one more segment
segments_more : (number : ℕ) (parts : List PlanPart) (sent : List Sent) (i : ℕ) (d : PlanPart) (e : Sent) → i < length parts → i < length sent
    → segments_from number (take (i + 1) parts) (take (i + 1) sent) ≡ segments_from number (take i parts) (take i sent) ++ segment_with (number + i) (get_or sent i e).bytes (get_or parts i d).id ∷ []
segments_more number [] sent i d e p q = absurd (omega arith)
segments_more number (part ∷ parts) [] i d e p q = absurd (omega arith)
segments_more number (part ∷ parts) (s ∷ sent) zero d e p q = rw (add-zero number) refl
segments_more number (part ∷ parts) (s ∷ sent) (suc i) d e p q =
    let one : suc i + 1 ≡ suc (i + 1) = omega arith in
    let next : number + suc i ≡ number + 1 + i = omega arith in
    rw (one, next, segments_more (number + 1) parts sent i d e (omega (arith, p)) (omega (arith, q))) refl

pub segments_pushed : (parts : List PlanPart) (sent : List Sent) (i : ℕ) (part : PlanPart) (e : Sent) (id : List ℕ) (old new : List Segment) → i < length parts → i < length sent
    → old ≡ segments_from 1 (take i parts) (take i sent) → part ≡ get_or parts i part → id ≡ part.id → new ≡ old ++ segment_with (i + 1) (get_or sent i e).bytes id ∷ []
    → new ≡ segments_from 1 (take (i + 1) parts) (take (i + 1) sent)
segments_pushed parts sent i part e id old new p q so_far read id_is pushed =
    let number : i + 1 ≡ 1 + i = omega arith in
    pushed
    ∙ rw (so_far, id_is, ap (λ (one : PlanPart). one.id) read) (
    ap (λ n. segments_from 1 (take i parts) (take i sent) ++ segment_with n (get_or sent i e).bytes (get_or parts i part).id ∷ []) number
    ∙ sym (segments_more 1 parts sent i part e p q)
    )

pub index_made : (s : Settings) (p : Plan) (sent : List Sent) (moment : ℕ) (metas : List Meta) (old files : List FileEntry) (entry : FileEntry) → metas ≡ [] → old ≡ [] → files ≡ old ++ entry ∷ []
    → entry ≡ entry_of s p sent moment → index_with metas files ≡ index_of s p sent moment
index_made s p sent moment metas old files entry m o f e = rw (m, f, o, e) refl
