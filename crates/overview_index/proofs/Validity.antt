-- The index of a grouper has a canonical text that is read again.
use Rattle.std.proofs.Common.{◌≡◌, ℕ, zero, suc, ◌+◌, ◌-◌, ◌≤◌, ◌<◌, ◌&&◌, ◌==◌, Bool, true, false, cond, List, [], ◌∷◌, length, get_or, map, filter, Vec, sum_by, refl, sym, ap, subst, ◌∙◌, arith}
use Rattle.std.specs.Prelude.{nat_le}
use Rattle.std.specs.BTreeMap.{btree_map_len, values}
use Rattle.std.specs.List.{AllByRecursion, AllZip, list_all, prefix_len, suffix_len}
use Rattle.std.specs.Map.{values_of}
use Rattle.std.proofs.lemmas.Bool.{and_from, and_parts, le-leb}
use Rattle.std.proofs.lemmas.Bool.Decides.{nat_tests}
use Rattle.std.proofs.lemmas.List.{length-map, take_all}
use Rattle.std.proofs.lemmas.List.Elements.{recursion_from_All}
use Rattle.std.proofs.lemmas.List.Sums.{suffix_len_is, sum_by-cons}
use Rattle.std.proofs.lemmas.Map.Entries.{length-values_of}
use Rattle.nntp_lines.specs.GroupName.{IsGroupName}
use Rattle.nntp_lines.specs.MessageId.{IsMessageId, is_id_byte}
use Rattle.nzb_writer.specs.Canonical.{IsValidFile, IsValidIndex}
use Rattle.nzb_writer.specs.Markup.{IsTextBytes, is_control, is_message_id, is_white, trimmed}
use Rattle.nzb_writer.specs.Markup as nzb
use Rattle.nzb_writer.specs.declared.index.FileEntry.{FileEntry}
use Rattle.nzb_writer.specs.declared.index.Index.{Index}
use Rattle.nzb_writer.specs.declared.index.Segment.{Segment}
use Rattle.nzb_writer.proofs.ValidTexts.{group_is_valid, id_is_valid, plain_text}
use Rattle.overview_lines.specs.OverLine.{Over}
use Rattle.overview_index.specs.Draft.{IsDraftOf, entry_of}
use Rattle.overview_index.specs.Group.{Counted, Key, counted_in, has_key, keys_of, number_of, segment_of}
use Rattle.overview_index.specs.Grouper.{IsEntryOf, IsArticleRead, HasGrouped, count_in}
use Rattle.overview_index.specs.declared.draft.Draft.{Draft}
use Rattle.overview_index.specs.declared.grouper.Grouper.{Grouper}
use Rattle.overview_index.proofs.Finished.{ComesFrom, find-holds, segments_come}
use Rattle.limits.specs.declared.TheConstants.{MOST_OCTETS}

-- ---- segments

abbrev IsValidSegment : Segment → Type 0
IsValidSegment s = (1 ≤ s.number) × (s.number ≤ 4294967295) × (s.bytes ≤ MOST_OCTETS) × (is_message_id s.id ≡ true)

read_segment : (a : Counted) → IsArticleRead a → IsValidSegment (segment_of a)
read_segment a read = (read.some, omega (arith, read.short), read.over.bytes, id_is_valid a.over.id read.over.id)

all_filtered : (P : Counted → Type 0) (p : Counted → Bool) (xs : List Counted) → AllByRecursion P xs → AllByRecursion P (filter p xs)
all_filtered P p [] h = h
all_filtered P p (x ∷ xs) h = elim (p x) as (λ b. AllByRecursion P (cond b (x ∷ filter p xs) (filter p xs))) [ true ↦ (h.0, all_filtered P p xs h.1) | false ↦ all_filtered P p xs h.1 ]

segments_valid : (articles : List Counted) (key : Key) (es : List (ℕ × Segment)) → AllByRecursion IsArticleRead articles → AllByRecursion (ComesFrom articles key) es → AllByRecursion IsValidSegment (values_of es)
segments_valid articles key [] read come = tt
segments_valid articles key (e ∷ es) read come = (
  subst IsValidSegment (sym come.0.segment)
      (read_segment come.0.article (find-holds IsArticleRead (λ a. number_of a == e.0) (filter (has_key key) articles) come.0.article (all_filtered IsArticleRead (has_key key) articles read) come.0.there)),
  segments_valid articles key es read come.1,
)

-- ---- files

file_valid : (group : List ℕ) (articles : List Counted) (key : Key) (draft : Draft) → IsGroupName group → AllByRecursion IsArticleRead articles → IsDraftOf articles key draft → IsValidFile (entry_of group draft)
file_valid group articles key draft name read is =
    let first : IsArticleRead is.first = find-holds IsArticleRead (has_key key) articles is.first read is.is_first in
    record {
      poster = subst IsTextBytes (sym is.begun.poster) (plain_text is.first.over.from first.over.from.plain);
      subject = subst IsTextBytes (sym is.begun.subject) (plain_text is.first.over.subject first.over.subject.plain);
      date = is.begun.late;
      groups = (group_is_valid group name, tt);
      segments = segments_valid articles key draft.segments.entries read (segments_come articles key draft is);
    }

files_valid : {Z : Type 0} (group : List ℕ) (articles : List Counted) (keys : List Key) (es : List (Vec ℕ Z × Draft)) → IsGroupName group → AllByRecursion IsArticleRead articles → AllZip (IsEntryOf articles) keys es
    → AllByRecursion IsValidFile (map (entry_of group) (values_of es))
files_valid group articles [] [] name read h = tt
files_valid group articles [] (e ∷ es) name read h = absurd h
files_valid group articles (key ∷ keys) [] name read h = absurd h
files_valid group articles (key ∷ keys) (e ∷ es) name read h = (file_valid group articles key e.1 name read h.0.draft, files_valid group articles keys es name read h.1)

-- an index has as many segments as its files have
counted_segments : (group : List ℕ) (drafts : List Draft) → sum_by (λ (f : FileEntry). length f.segments) (map (entry_of group) drafts) ≡ count_in drafts
counted_segments group [] = refl
counted_segments group (draft ∷ drafts) =
    sum_by-cons (λ (f : FileEntry). length f.segments) (entry_of group draft) (map (entry_of group) drafts)
    ∙ ap (λ n. length (values draft.segments) + n) (counted_segments group drafts)
    ∙ ap (λ n. n + count_in drafts) (length-values_of draft.segments.entries)
    ∙ sym (sum_by-cons (λ (one : Draft). btree_map_len one.segments) draft drafts)

abbrev index_with : List FileEntry → Index
index_with files = record { metas = []; files = files }

pub index_valid : (grouper : Grouper) (index : Index) → IsGroupName grouper.group → index.metas ≡ [] → index.files ≡ map (entry_of grouper.group) (values_of grouper.files.entries) → (group : List ℕ) (lines : List Over)
    → HasGrouped grouper group lines → IsValidIndex index
index_valid grouper index name metas files group lines stands =
    let articles : List Counted = counted_in lines in
    let made : List FileEntry = map (entry_of grouper.group) (values_of grouper.files.entries) in
    let is : index ≡ index_with made = λ i. record { metas = metas i; files = files i } in
    let valid : IsValidIndex (index_with made) = record {
      metas = tt;
      files = files_valid grouper.group articles (keys_of articles) grouper.files.entries name (recursion_from_All IsArticleRead articles stands.files.read) stands.files.files;
      few_files = omega (arith, length-map (values_of grouper.files.entries) (entry_of grouper.group), length-values_of grouper.files.entries, stands.files.few_files);
      few_segments = omega (arith, counted_segments grouper.group (values_of grouper.files.entries), stands.files.in_files, stands.files.few_segments);
    } in
    subst IsValidIndex (sym is) valid
