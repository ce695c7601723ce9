-- An NZB text that is read is in the grammar, and its index is the one that was read.
use Rattle.std.proofs.Common.{◌≡◌, ℕ, suc, ◌+◌, ◌≤◌, true, false, eqb, ◌||◌, List, [], ◌∷◌, ◌++◌, length, Some, None, Result, Ok, Err, refl, sym, ap, ◌∙◌, append_assoc, arith, inl, inr, ◌⊎◌}
use Rattle.std.specs.Prelude.{codes, nat_eq, fold, bytes_eq, nat_lt, sum_by}
use Rattle.std.specs.List.{starts_with, flat_map, list_any}
use Rattle.std.proofs.lemmas.Bool.{eqb-true, ltb-true, ltb-false, cases_Bool, or_from}
use Rattle.std.proofs.lemmas.List.{append-nil, length-append}
use Rattle.std.proofs.lemmas.List.Sums.{sum_by-append}
use Rattle.std.proofs.lemmas.Slice.Eq.{bytes_eq-Decides}
use Rattle.nzb_index.specs.declared.error.NzbLimit.TheVariants as limits
use Rattle.nzb_writer.specs.declared.index.Meta.{Meta}
use Rattle.nzb_writer.specs.declared.index.Segment.{Segment}
use Rattle.nzb_writer.specs.declared.index.FileEntry.{FileEntry}
use Rattle.nzb_writer.specs.declared.index.Index.{Index}
use Rattle.nzb_writer.specs.Markup.{attribute, or_nothing, number_of, unchecked, is_message_id, is_white, is_control, IsBetween}
use Rattle.nzb_writer.specs.Nzb.{segment_checks, file_checks, IsMeta, IsGroup, IsSegment, Listed, groups, segments, Lists, groups_in, segments_in, Entry, head, file, IsEntry, metas_in, files_in, IsMark, IsDeclaration, IsDocumentType, segment_count, IsNzb}
use Rattle.nzb_index.specs.MarkupReading.{Stop, refused, limit, word, name_at, tag_at, leaf, no_fault, between, between_or, one_white}
use Rattle.nzb_index.specs.NzbReading.{Refusal, past, bad_id, meta_item, group_item, segment_item, file_part, entry_item, with_file, type_end, behind_type, behind_mark, behind_declaration, nothing_behind, index_at, nzb_of, with_place}
use Rattle.nzb_index.proofs.Gives.{Gives, gives_ok, gives_err, gives_bind, gives_if, gives_unexpected, gives_as, gives_test, word_gives, between_or_gives, Between, between_gives, up_to_gives, name_gives}
use Rattle.nzb_index.proofs.TagsFound.{tag_gives}
use Rattle.nzb_index.proofs.ElementsFound.{leaf_gives, element, ReadsOne, parent_gives}
use Rattle.limits.specs.declared.TheConstants.{MOST_FILES, MOST_SEGMENTS, MOST_TEXT_BYTES}

-- ---- lists that grow at their end

pub fold_push : {A : Type 0} (xs ys : List A) → fold (λ s x. s ++ x ∷ []) xs ys ≡ xs ++ ys
fold_push xs [] = sym (append-nil xs)
fold_push xs (y ∷ ys) = fold_push (xs ++ y ∷ []) ys ∙ append_assoc xs (y ∷ []) ys

abbrev pub push : {A : Type 0} → List A → A → List A
push xs x = xs ++ x ∷ []

abbrev pub Any : {S : Type 0} → S → Type 0
Any s = Unit {0}

named_from : (name wanted from rest : List ℕ) → bytes_eq name wanted ≡ true → from ≡ codes "<" ++ name ++ rest → from ≡ codes "<" ++ wanted ++ rest
named_from name wanted from rest same e = e ∙ ap (λ (n : List ℕ). codes "<" ++ n ++ rest) ((bytes_eq-Decides name wanted).0 same)

-- ---- metas, groups and segments

pub meta_reads : ReadsOne meta_item IsMeta push Any
meta_reads metas name from rest e fits =
    gives_test (bytes_eq name (codes "meta")) _ _ (λ same.
    gives_bind (tag_at unchecked rest) _ (tag_gives unchecked rest) (λ tag tagged.
    gives_bind (leaf (codes "meta") no_fault tag.0 tag.1) _ (leaf_gives (codes "meta") no_fault tag.0 tag.1) (λ t l.
    let el = element unchecked (codes "meta") from rest tag.0 tag.1 l.inside t.1 (named_from name (codes "meta") from rest same e) tagged l.content in
    gives_ok _ (record {
      one = el.one;
      value = record { kind = or_nothing (attribute (codes "type") tag.0.attributes); text = t.0 };
      from_is = el.from_is;
      is_one = (tag.0.attributes, l.inside, el.is_element, refl, l.is_text);
      after_is = refl;
      fits = tt;
    }))))

pub group_reads : ReadsOne group_item IsGroup push Any
group_reads gs name from rest e fits =
    gives_test (bytes_eq name (codes "group")) _ _ (λ same.
    gives_bind (tag_at unchecked rest) _ (tag_gives unchecked rest) (λ tag tagged.
    gives_bind (leaf (codes "group") no_fault tag.0 tag.1) _ (leaf_gives (codes "group") no_fault tag.0 tag.1) (λ t l.
    let el = element unchecked (codes "group") from rest tag.0 tag.1 l.inside t.1 (named_from name (codes "group") from rest same e) tagged l.content in
    gives_ok _ (record { one = el.one; value = t.0; from_is = el.from_is; is_one = (tag.0.attributes, l.inside, el.is_element, l.is_text); after_is = refl; fits = tt }))))

abbrev pub FewSegments : ℕ → List Segment → Type 0
FewSegments earlier ss = earlier + length ss ≤ MOST_SEGMENTS

pub good_id : (from id : List ℕ) → bad_id from id ≡ None → is_message_id id ≡ true
good_id from id e = elim (cases_Bool (is_message_id id)) [ inl t ↦ t | inr f ↦ absurd (bad (rw f at e)) ]
  where
    bad : {s : Stop} → Some s ≡ None → ⊥
    bad {s} e = cc

pub segment_reads : (earlier : ℕ) → ReadsOne (segment_item earlier) IsSegment push (FewSegments earlier)
segment_reads earlier ss name from rest e fits =
    gives_test (bytes_eq name (codes "segment")) _ _ (λ same.
    gives_test (nat_lt (earlier + length ss) MOST_SEGMENTS) _ _ (λ room.
    gives_bind (tag_at segment_checks rest) _ (tag_gives segment_checks rest) (λ tag tagged.
    gives_test _ _ _ (λ has.
    gives_bind (leaf (codes "segment") (bad_id from) tag.0 tag.1) _ (leaf_gives (codes "segment") (bad_id from) tag.0 tag.1) (λ t l.
    let el = element segment_checks (codes "segment") from rest tag.0 tag.1 l.inside t.1 (named_from name (codes "segment") from rest same e) tagged l.content in
    let s : Segment = record { number = number_of (codes "number") tag.0.attributes; bytes = number_of (codes "bytes") tag.0.attributes; id = t.0 } in
    gives_ok _ (record {
      one = el.one;
      value = s;
      from_is = el.from_is;
      is_one = (tag.0.attributes, l.inside, el.is_element, has, refl, refl, l.is_text, good_id from t.0 l.unknown);
      after_is = refl;
      fits = let below = ltb-true (earlier + length ss) MOST_SEGMENTS room in omega (arith, length-append ss (s ∷ []), below);
    }))))))

-- ---- files

abbrev pub listed : FileEntry → Listed → FileEntry
listed f (groups gs) = record f { groups = f.groups ++ gs }
listed f (segments ss) = record f { segments = f.segments ++ ss }

pub all_listed : (parts : List Listed) (f : FileEntry) → fold listed f parts ≡ record f { groups = f.groups ++ flat_map groups_in parts; segments = f.segments ++ flat_map segments_in parts }
all_listed [] f = rw (append-nil f.groups, append-nil f.segments) refl
all_listed (groups gs ∷ parts) f = all_listed parts (listed f (groups gs)) ∙ ap (λ (g : List (List ℕ)). record f { groups = g; segments = f.segments ++ flat_map segments_in parts }) (append_assoc f.groups gs (flat_map groups_in parts))
all_listed (segments ss ∷ parts) f = all_listed parts (listed f (segments ss)) ∙ ap (λ (s : List Segment). record f { groups = f.groups ++ flat_map groups_in parts; segments = s }) (append_assoc f.segments ss (flat_map segments_in parts))

abbrev pub FewInFile : ℕ → FileEntry → Type 0
FewInFile earlier f = FewSegments earlier f.segments

pub part_reads : (earlier : ℕ) → ReadsOne (file_part earlier) Lists listed (FewInFile earlier)
part_reads earlier f name from rest e fits = gives_if (bytes_eq name (codes "groups")) _ _
    (λ same. gives_bind (tag_at unchecked rest) _ (tag_gives unchecked rest) (λ tag tagged.
    gives_bind _ _ (parent_gives group_item IsGroup push Any (codes "groups") group_reads tag.0 f.groups tag.1 tt) (λ g many.
    let el = element unchecked (codes "groups") from rest tag.0 tag.1 many.inside g.1 (named_from name (codes "groups") from rest same e) tagged many.content in
    gives_ok _ (record {
      one = el.one;
      value = groups many.values;
      from_is = el.from_is;
      is_one = (tag.0.attributes, many.inside, el.is_element, many.are_elements);
      after_is = ap (λ (x : List (List ℕ)). record f { groups = x }) (many.after_is ∙ fold_push f.groups many.values);
      fits = fits;
    }))))
    (λ other. gives_if (bytes_eq name (codes "segments")) _ _
    (λ same. gives_bind (tag_at unchecked rest) _ (tag_gives unchecked rest) (λ tag tagged.
    gives_bind _ _ (parent_gives (segment_item earlier) IsSegment push (FewSegments earlier) (codes "segments") (segment_reads earlier) tag.0 f.segments tag.1 fits) (λ s many.
    let el = element unchecked (codes "segments") from rest tag.0 tag.1 many.inside s.1 (named_from name (codes "segments") from rest same e) tagged many.content in
    gives_ok _ (record {
      one = el.one;
      value = segments many.values;
      from_is = el.from_is;
      is_one = (tag.0.attributes, many.inside, el.is_element, many.are_elements);
      after_is = ap (λ (x : List Segment). record f { segments = x }) (many.after_is ∙ fold_push f.segments many.values);
      fits = many.fits;
    }))))
    (λ more. gives_err _))

-- ---- the root

abbrev pub entered : Index → Entry → Index
entered i (head metas) = record i { metas = i.metas ++ metas }
entered i (file f) = with_file i f

pub all_entered : (entries : List Entry) (i : Index) → fold entered i entries ≡ record { metas = i.metas ++ flat_map metas_in entries; files = i.files ++ flat_map files_in entries }
all_entered [] i = rw (append-nil i.metas, append-nil i.files) refl
all_entered (head metas ∷ entries) i = all_entered entries (entered i (head metas)) ∙ ap (λ (m : List Meta). record { metas = m; files = i.files ++ flat_map files_in entries }) (append_assoc i.metas metas (flat_map metas_in entries))
all_entered (file f ∷ entries) i = all_entered entries (with_file i f) ∙ ap (λ (fs : List FileEntry). record { metas = i.metas ++ flat_map metas_in entries; files = fs }) (append_assoc i.files (f ∷ []) (flat_map files_in entries))

abbrev pub Few : Index → Type 0
Few i = (length i.files ≤ MOST_FILES) × (segment_count i ≤ MOST_SEGMENTS)

pub segments_with : (i : Index) (f : FileEntry) → segment_count (with_file i f) ≡ segment_count i + length f.segments
segments_with i f = sum_by-append (λ (x : FileEntry). length x.segments) i.files (f ∷ []) ∙ ap (λ (n : ℕ). segment_count i + n) one
  where
    one : sum_by (λ (x : FileEntry). length x.segments) (f ∷ []) ≡ length f.segments
    one = omega arith

pub entry_reads : ReadsOne entry_item IsEntry entered Few
entry_reads i name from rest e fits = gives_if (bytes_eq name (codes "head")) _ _
    (λ same. gives_bind (tag_at unchecked rest) _ (tag_gives unchecked rest) (λ tag tagged.
    gives_bind _ _ (parent_gives meta_item IsMeta push Any (codes "head") meta_reads tag.0 i.metas tag.1 tt) (λ m many.
    let el = element unchecked (codes "head") from rest tag.0 tag.1 many.inside m.1 (named_from name (codes "head") from rest same e) tagged many.content in
    gives_ok _ (record {
      one = el.one;
      value = head many.values;
      from_is = el.from_is;
      is_one = (tag.0.attributes, many.inside, el.is_element, many.are_elements);
      after_is = ap (λ (x : List Meta). record i { metas = x }) (many.after_is ∙ fold_push i.metas many.values);
      fits = fits;
    }))))
    (λ other. gives_if (bytes_eq name (codes "file")) _ _
    (λ same. gives_test (nat_lt (length i.files) MOST_FILES) _ _ (λ room.
    gives_bind (tag_at file_checks rest) _ (tag_gives file_checks rest) (λ tag tagged.
    let start : FileEntry = record {
      poster = or_nothing (attribute (codes "poster") tag.0.attributes);
      date = number_of (codes "date") tag.0.attributes;
      subject = or_nothing (attribute (codes "subject") tag.0.attributes);
      groups = [];
      segments = [];
    } in
    gives_bind _ _ (parent_gives (file_part (segment_count i)) Lists listed (FewInFile (segment_count i)) (codes "file") (part_reads (segment_count i)) tag.0 start tag.1 (omega (arith, fits))) (λ f many.
    let el = element file_checks (codes "file") from rest tag.0 tag.1 many.inside f.1 (named_from name (codes "file") from rest same e) tagged many.content in
    let made : f.0 ≡ record start { groups = flat_map groups_in many.values; segments = flat_map segments_in many.values } = many.after_is ∙ all_listed many.values start in
    gives_ok _ (record {
      one = el.one;
      value = file f.0;
      from_is = el.from_is;
      is_one = (tag.0.attributes, many.inside, many.values, el.is_element, many.are_elements, ap (λ (x : FileEntry). x.poster) made, ap (λ (x : FileEntry). x.subject) made, ap (λ (x : FileEntry). x.date) made, ap (λ (x : FileEntry). x.groups) made, ap (λ (x : FileEntry). x.segments) made);
      after_is = refl;
      fits = (let below = ltb-true (length i.files) MOST_FILES room in omega (arith, length-append i.files (f.0 ∷ []), below), let few = many.fits in omega (arith, segments_with i f.0, few));
    })))))
    (λ more. gives_err _))

-- ---- the whole text

pub mark_gives : (text : List ℕ) → Gives (behind_mark text) (λ rest. (mark : List ℕ) × (text ≡ mark ++ rest) × IsMark mark)
mark_gives text = gives_if (starts_with nat_eq text (0xEF ∷ [])) _ _
    (λ e. gives_as _ (word_gives (0xEF ∷ 0xBB ∷ 0xBF ∷ []) text) (λ rest f. (0xEF ∷ 0xBB ∷ 0xBF ∷ [], f, inr refl)))
    (λ e. gives_ok _ ([], refl, inl refl))

pub one_white_gives : (text : List ℕ) → Gives (one_white text) (λ rest. (w : ℕ) × (is_white w ≡ true) × (text ≡ w ∷ rest))
one_white_gives [] = gives_err _
one_white_gives (x ∷ rest) = gives_if (is_white x) _ _ (λ e. gives_ok _ (x, e, refl)) (λ e. gives_unexpected (x ∷ rest))

pub declaration_gives : (text : List ℕ) → Gives (behind_declaration text) (λ rest. (declaration : List ℕ) × (text ≡ declaration ++ rest) × IsDeclaration declaration)
declaration_gives text = gives_if (starts_with nat_eq text (codes "<?")) _ _
    (λ e. gives_bind (word (codes "<?xml") text) _ (word_gives (codes "<?xml") text) (λ name opened.
    gives_bind (one_white name) _ (one_white_gives name) (λ inside w.
    gives_as _ (up_to_gives 63 (codes ">") inside) (λ rest closed. (codes "<?xml" ++ w.0 ∷ closed.0, joined text name inside closed.0 rest w.0 opened w.2 closed.1, inr (w.0, closed.0, w.1, refl, closed.2))))))
    (λ e. gives_ok _ ([], refl, inl refl))
  where
    joined : (t n i c r : List ℕ) (w : ℕ) → t ≡ codes "<?xml" ++ n → n ≡ w ∷ i → i ≡ c ++ r → t ≡ (codes "<?xml" ++ w ∷ c) ++ r
    joined t n i c r w e1 e2 e3 = rw (e1, e2, e3) refl

pub type_end_gives : (text : List ℕ) → Gives (type_end text) (λ rest. (inside : List ℕ) × (text ≡ inside ++ codes ">" ++ rest) × (list_any (λ b. eqb b 62 || eqb b 91 || is_control b) inside ≡ false))
type_end_gives [] = gives_err _
type_end_gives (x ∷ text) =
    gives_if (eqb x 62) _ _ (λ e. gives_ok _ ([], ap (λ (y : ℕ). y ∷ text) (eqb-true x 62 e), refl)) (λ e.
    gives_if (eqb x 91) _ _ (λ f. gives_err _) (λ f.
    gives_if (is_control x) _ _ (λ k. gives_unexpected (x ∷ text)) (λ k.
    gives_as _ (type_end_gives text) (λ rest more. (x ∷ more.0, ap (λ (t : List ℕ). x ∷ t) more.1, or_from (eqb x 62 || eqb x 91 || is_control x) _ (or_from (eqb x 62 || eqb x 91) (is_control x) (or_from (eqb x 62) (eqb x 91) e f) k) more.2)))))

abbrev pub Typed : List ℕ → List ℕ → Type 0
Typed more rest = (document_type : List ℕ) × (codes "<!" ++ more ≡ document_type ++ rest) × IsDocumentType document_type

pub type_gives : (more : List ℕ) → Gives (behind_type more) (Typed more)
type_gives more =
    gives_bind (word (codes "DOCTYPE") more) _ (word_gives (codes "DOCTYPE") more) (λ name opened.
    gives_bind (one_white name) _ (one_white_gives name) (λ inside w.
    gives_bind (type_end inside) _ (type_end_gives inside) (λ behind closed.
    gives_as _ (between_gives behind) (λ rest b. (codes "<!DOCTYPE" ++ w.0 ∷ closed.0 ++ codes ">" ++ b.0, joined more name inside closed.0 behind b.0 rest w.0 opened w.2 closed.1 b.1, inr (w.0, closed.0, b.0, w.1, closed.2, b.2, refl))))))
  where
    joined : (t n i c b f r : List ℕ) (w : ℕ) → t ≡ codes "DOCTYPE" ++ n → n ≡ w ∷ i → i ≡ c ++ codes ">" ++ b → b ≡ f ++ r → codes "<!" ++ t ≡ (codes "<!DOCTYPE" ++ w ∷ c ++ codes ">" ++ f) ++ r
    joined t n i c b f r w e1 e2 e3 e4 = rw (e1, e2, e3, e4) (simp append_assoc)

-- white, comments and a document type, or none
pub record Typing (text rest : List ℕ) : Type 0 where
  pub between : List ℕ
  pub document_type : List ℕ
  pub text_is : text ≡ between ++ document_type ++ rest
  pub is_between : IsBetween between
  pub is_document_type : IsDocumentType document_type

pub typing : (text rest : List ℕ) → Between Typed text rest → Typing text rest
typing text rest b = go b.ending
  where
    go : (b.mid ≡ rest) ⊎ ((more : List ℕ) × (b.mid ≡ codes "<!" ++ more) × Typed more rest) → Typing text rest
    go (inl e) = record { between = b.front; document_type = []; text_is = joined text b.front b.mid rest b.text_is e; is_between = b.is_between; is_document_type = inl refl }
      where
        joined : (t f m r : List ℕ) → t ≡ f ++ m → m ≡ r → t ≡ f ++ [] ++ r
        joined t f m r e1 e2 = rw (e1, e2) (sym (append_assoc f [] r))
    go (inr (more, e, (d, f, is))) = record { between = b.front; document_type = d; text_is = joined text b.front b.mid (codes "<!" ++ more) d rest b.text_is e f; is_between = b.is_between; is_document_type = is }
      where
        joined : (t f m o d r : List ℕ) → t ≡ f ++ m → m ≡ o → o ≡ d ++ r → t ≡ f ++ d ++ r
        joined t f m o d r e1 e2 e3 = rw (e1, e2, e3) (simp append_assoc)

nothing_gives : (text : List ℕ) → Gives (nothing_behind text) (λ rest. text ≡ [])
nothing_gives [] = gives_ok _ refl
nothing_gives (x ∷ rest) = gives_bind (word (codes "<!--") (x ∷ rest)) _ (word_gives (codes "<!--") (x ∷ rest)) (λ r e. gives_unexpected r)

no_index : Index
no_index = record { metas = []; files = [] }

pub index_gives : (text : List ℕ) → length text ≤ MOST_TEXT_BYTES → Gives (index_at text) (IsNzb text)
unfolding no_index
index_gives text short =
    gives_bind (behind_mark text) _ (mark_gives text) (λ marked m.
    gives_bind (behind_declaration marked) _ (declaration_gives marked) (λ declared d.
    gives_bind (between_or behind_type (suc (length text)) declared) _ (between_or_gives behind_type Typed type_gives (suc (length text)) declared) (λ here b.
    let t = typing declared here b in
    gives_bind (word (codes "<") here) _ (word_gives (codes "<") here) (λ inside opened.
    gives_bind (name_at inside) _ (name_gives inside) (λ name named.
    gives_test (bytes_eq name.0 (codes "nzb")) _ _ (λ same.
    gives_bind (tag_at unchecked name.1) _ (tag_gives unchecked name.1) (λ tag tagged.
    gives_bind _ _ (parent_gives entry_item IsEntry entered Few (codes "nzb") entry_reads tag.0 no_index tag.1 (omega arith, omega arith)) (λ index many.
    gives_bind (between index.1) _ (between_gives index.1) (λ behind last.
    gives_bind (nothing_behind behind) _ (nothing_gives behind) (λ nothing over.
    let el = element unchecked (codes "nzb") here name.1 tag.0 tag.1 many.inside index.1 (named_from name.0 (codes "nzb") here name.1 same (opened ∙ ap (λ (t : List ℕ). codes "<" ++ t) named.text_is)) tagged many.content in
    let made : index.0 ≡ record { metas = flat_map metas_in many.values; files = flat_map files_in many.values } = many.after_is ∙ all_entered many.values no_index in
    gives_ok _ (record {
      mark = m.0;
      declaration = d.0;
      between = t.between;
      document_type = t.document_type;
      root = el.one;
      behind = last.0;
      text_is = joined text m.0 marked d.0 declared t.between t.document_type here el.one index.1 last.0 behind m.1 d.1 t.text_is el.from_is last.1 over;
      is_mark = m.2;
      is_declaration = d.2;
      is_between = t.is_between;
      is_document_type = t.is_document_type;
      is_root = (tag.0.attributes, many.inside, many.values, el.is_element, many.are_elements, ap (λ (x : Index). x.metas) made, ap (λ (x : Index). x.files) made);
      is_behind = last.2;
      short = short;
      few_files = many.fits.0;
      few_segments = many.fits.1;
    })))))))))))
  where
    joined : (t m a d b w y h r i l e : List ℕ) → t ≡ m ++ a → a ≡ d ++ b → b ≡ w ++ y ++ h → h ≡ r ++ i → i ≡ l ++ e → e ≡ [] → t ≡ m ++ d ++ w ++ y ++ r ++ l
    joined t m a d b w y h r i l e e1 e2 e3 e4 e5 e6 = rw (e1, e2, e3, e4, e5, e6, append-nil l) (simp append_assoc)

-- a reading is a text of the grammar
pub nzb_found : (text : List ℕ) (i : Index) → nzb_of text ≡ Ok i → IsNzb text i
unfolding nzb_of
nzb_found text i e = elim (cases_Bool (nat_lt MOST_TEXT_BYTES (length text))) [
  | inl long ↦ absurd (let f : stopped ≡ Ok i = rw long at e in cc)
  | inr short ↦ (index_gives text (ltb-false MOST_TEXT_BYTES (length text) short)).given i (placed (length text) (index_at text) (rw short at e))
]
  where
    stopped : Result Index Refusal
    stopped = Err (past limits.TextBytes)

    given : Index → Result Index Stop
    given k = Ok k

    placed : (n : ℕ) (r : Result Index Stop) → with_place n r ≡ Ok i → r ≡ Ok i
    placed n (Ok j) e = let same : j ≡ i = cc in ap (λ (k : Index). given k) same
    placed n (Err (refused left reason)) e = absurd cc
    placed n (Err (limit l)) e = absurd cc
