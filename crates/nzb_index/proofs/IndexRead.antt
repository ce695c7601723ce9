-- A text of the grammar is read, and gives its index.
use Rattle.std.proofs.Common.{◌≡◌, ℕ, suc, ◌+◌, true, false, eqb, ◌||◌, List, [], ◌∷◌, ◌++◌, length, None, Result, Ok, refl, sym, ap, subst, ◌∙◌, append_assoc, arith, inl, inr, ◌⊎◌}
use Rattle.std.specs.Prelude.{codes, nat_eq, nat_lt, fold}
use Rattle.std.specs.List.{starts_with, list_all, list_any, concat, AllByRecursion}
use Rattle.std.proofs.lemmas.Bool.{and_parts, and_left, lt-ltb, le-ltb, or_parts}
use Rattle.std.proofs.lemmas.Bool.Decides.{nat_tests}
use Rattle.std.proofs.lemmas.List.{length-append, append-nil}
use Rattle.nzb_writer.specs.declared.index.Segment.{Segment}
use Rattle.nzb_writer.specs.declared.index.FileEntry.{FileEntry}
use Rattle.nzb_writer.specs.declared.index.Index.{Index}
use Rattle.nzb_writer.specs.Markup.{Attribute, AttributeChecks, IsElement, attribute, or_nothing, number_of, unchecked, is_white, is_control, IsWhite, IsMarkupName, IsMarkupComment}
use Rattle.nzb_writer.specs.Nzb.{segment_checks, file_checks, IsMeta, IsGroup, IsSegment, Listed, groups, segments, Lists, Entry, head, file, IsEntry, IsRoot, IsMark, IsDeclaration, IsDocumentType, segment_count, IsNzb}
use Rattle.nzb_index.specs.MarkupReading.{Stop, ValueRead, Tag, no_fault, between, between_or}
use Rattle.nzb_index.specs.NzbReading.{bad_id, meta_item, group_item, segment_item, file_part, entry_item, type_end, behind_type, behind_mark, behind_declaration, index_at, nzb_of}
use Rattle.nzb_index.proofs.IndexFound.{push, Any, FewSegments, fold_push, listed, all_listed, FewInFile, entered, all_entered, Few, segments_with}
use Rattle.nzb_index.proofs.WordsRead.{then, name_back, between_back, Stops, stops_back, up_to_back}
use Rattle.nzb_index.proofs.TagsRead.{Opened, open_back}
use Rattle.nzb_index.proofs.ElementsRead.{ReadOne, ReadsBack, leaf_back, parent_back, between_stops, tag_stops}
use Rattle.limits.specs.declared.TheConstants.{MOST_FILES, MOST_SEGMENTS, MOST_TEXT_BYTES}

-- ---- metas, groups and segments

-- an element of the grammar is read, where its item reads what its tag opens
element_back : {S A : Type 0} (item : S → List ℕ → List ℕ → List ℕ → ValueRead S) (add : S → A → S) (s : S) (x : A) (checks : AttributeChecks) (name one : List ℕ) (attributes : List Attribute) (inside rest : List ℕ) → IsMarkupName name → IsElement checks name one attributes inside →
    ((o : Opened checks name one attributes inside rest) → item s name (60 ∷ (name ++ o.left)) o.left ≡ Ok (add s x, rest)) → ReadOne item add s x one rest
element_back item add s x checks name one attributes inside rest n is read =
    let o = open_back checks name one attributes inside rest is in
    record { name = name; left = o.left; text_is = o.text_is; is_name = n; ends = o.ends; read = read o }

pub is_meta : IsMarkupName (codes "meta")
is_meta = (λ e. cc, refl)

pub meta_back : ReadsBack meta_item IsMeta push Any
meta_back metas m one rest (attributes, inside, is, kind, text) fits = element_back meta_item push metas m unchecked (codes "meta") one attributes inside rest is_meta is (λ o.
    rw o.tag (rw (leaf_back (codes "meta") no_fault (record { attributes = attributes; closed = o.closed }) o.mid inside rest m.text is_meta o.content text refl) (rw (← kind) refl)))

pub is_group : IsMarkupName (codes "group")
is_group = (λ e. cc, refl)

pub group_back : ReadsBack group_item IsGroup push Any
group_back gs g one rest (attributes, inside, is, text) fits = element_back group_item push gs g unchecked (codes "group") one attributes inside rest is_group is (λ o.
    rw o.tag (rw (leaf_back (codes "group") no_fault (record { attributes = attributes; closed = o.closed }) o.mid inside rest g is_group o.content text refl) refl))

pub is_segment : IsMarkupName (codes "segment")
is_segment = (λ e. cc, refl)

pub segment_back : (earlier : ℕ) → ReadsBack (segment_item earlier) IsSegment push (FewSegments earlier)
segment_back earlier ss s one rest (attributes, inside, is, has, number, bytes, text, good) fits =
    let room : nat_lt (earlier + length ss) MOST_SEGMENTS ≡ true = lt-ltb (earlier + length ss) MOST_SEGMENTS (omega (arith, length-append ss (s ∷ []), fits)) in
    element_back (segment_item earlier) push ss s segment_checks (codes "segment") one attributes inside rest is_segment is (λ o.
    let from : List ℕ = 60 ∷ (codes "segment" ++ o.left) in
    let known : bad_id from s.id ≡ None = rw good refl in
    rw room (rw o.tag (rw has (rw (leaf_back (codes "segment") (bad_id from) (record { attributes = attributes; closed = o.closed }) o.mid inside rest s.id is_segment o.content text known) (rw (← number, ← bytes) refl)))))

fewer : (earlier : ℕ) (ss : List Segment) (s : Segment) → FewSegments earlier (push ss s) → FewSegments earlier ss
fewer earlier ss s h = omega (arith, length-append ss (s ∷ []), h)

-- ---- files

pub is_groups : IsMarkupName (codes "groups")
is_groups = (λ e. cc, refl)

pub is_segments : IsMarkupName (codes "segments")
is_segments = (λ e. cc, refl)

pub part_back : (earlier : ℕ) → ReadsBack (file_part earlier) Lists listed (FewInFile earlier)
part_back earlier f (groups gs) one rest (attributes, inside, is, are) fits = element_back (file_part earlier) listed f (groups gs) unchecked (codes "groups") one attributes inside rest is_groups is (λ o.
    let read = parent_back group_item IsGroup push Any (codes "groups") group_back (λ s x u. u) is_groups (record { attributes = attributes; closed = o.closed }) f.groups o.mid inside rest gs o.content are tt in
    rw o.tag (rw (read, fold_push f.groups gs) refl))
part_back earlier f (segments ss) one rest (attributes, inside, is, are) fits = element_back (file_part earlier) listed f (segments ss) unchecked (codes "segments") one attributes inside rest is_segments is (λ o.
    let few : FewSegments earlier (fold push f.segments ss) = rw (fold_push f.segments ss) fits in
    let read = parent_back (segment_item earlier) IsSegment push (FewSegments earlier) (codes "segments") (segment_back earlier) (fewer earlier) is_segments (record { attributes = attributes; closed = o.closed }) f.segments o.mid inside rest ss o.content are few in
    rw o.tag (rw (read, fold_push f.segments ss) refl))

fewer_in_file : (earlier : ℕ) (f : FileEntry) (x : Listed) → FewInFile earlier (listed f x) → FewInFile earlier f
fewer_in_file earlier f (groups gs) h = h
fewer_in_file earlier f (segments ss) h = omega (arith, length-append f.segments ss, h)

-- ---- the root

pub is_head : IsMarkupName (codes "head")
is_head = (λ e. cc, refl)

pub is_file : IsMarkupName (codes "file")
is_file = (λ e. cc, refl)

pub entry_back : ReadsBack entry_item IsEntry entered Few
entry_back i (head metas) one rest (attributes, inside, is, are) fits = element_back entry_item entered i (head metas) unchecked (codes "head") one attributes inside rest is_head is (λ o.
    let read = parent_back meta_item IsMeta push Any (codes "head") meta_back (λ s x u. u) is_head (record { attributes = attributes; closed = o.closed }) i.metas o.mid inside rest metas o.content are tt in
    rw o.tag (rw (read, fold_push i.metas metas) refl))
entry_back i (file f) one rest (attributes, inside, parts, is, are, poster, subject, date, gs, ss) fits =
    let start : FileEntry = record {
      poster = or_nothing (attribute (codes "poster") attributes);
      date = number_of (codes "date") attributes;
      subject = or_nothing (attribute (codes "subject") attributes);
      groups = [];
      segments = [];
    } in
    let made : fold listed start parts ≡ f = all_listed parts start ∙ rw (← poster, ← subject, ← date, ← gs, ← ss) refl in
    let room : nat_lt (length i.files) MOST_FILES ≡ true = lt-ltb (length i.files) MOST_FILES (omega (arith, length-append i.files (f ∷ []), fits.0)) in
    let few : FewInFile (segment_count i) (fold listed start parts) = rw made (omega (arith, segments_with i f, fits.1)) in
    element_back entry_item entered i (file f) file_checks (codes "file") one attributes inside rest is_file is (λ o.
    let read = parent_back (file_part (segment_count i)) Lists listed (FewInFile (segment_count i)) (codes "file") (part_back (segment_count i)) (fewer_in_file (segment_count i)) is_file (record { attributes = attributes; closed = o.closed }) start o.mid inside rest parts o.content are few in
    rw (room, o.tag) (rw (read, made) refl))

pub fewer_entries : (i : Index) (x : Entry) → Few (entered i x) → Few i
fewer_entries i (head metas) h = h
fewer_entries i (file f) h = (omega (arith, length-append i.files (f ∷ []), h.0), omega (arith, segments_with i f, h.1))

-- ---- before the root

-- what stands at a text's front where no mark and no declaration does
pub record Plain (text : List ℕ) : Type 0 where
  pub no_mark : starts_with nat_eq text (0xEF ∷ []) ≡ false
  pub no_declaration : starts_with nat_eq text (codes "<?") ≡ false

pub white_plain : (x : ℕ) (t : List ℕ) → is_white x ≡ true → Plain (x ∷ t)
white_plain x t w = record { no_mark = and_left (eqb 0xEF x) _ (no_ef x w); no_declaration = and_left (eqb 60 x) _ (no_less x w) }
  where
    no_ef : (y : ℕ) → is_white y ≡ true → eqb 0xEF y ≡ false
    no_ef y e = grind (arith, nat_tests)

    no_less : (y : ℕ) → is_white y ≡ true → eqb 60 y ≡ false
    no_less y e = grind (arith, nat_tests)

pub between_plain : (pieces : List (List ℕ)) (rest : List ℕ) → AllByRecursion (λ p. IsWhite p ⊎ IsMarkupComment p) pieces → Plain rest → Plain (concat pieces ++ rest)
between_plain [] rest h p = p
between_plain ([] ∷ pieces) rest h p = between_plain pieces rest h.1 p
between_plain ((x ∷ t) ∷ pieces) rest (inl w, h) p = white_plain x ((t ++ concat pieces) ++ rest) (and_parts (is_white x) (list_all is_white t) w).0
between_plain ((x ∷ t) ∷ pieces) rest (inr (front, e, ends), h) p = subst (λ (q : List ℕ). Plain ((q ++ concat pieces) ++ rest)) (sym e) (record { no_mark = refl; no_declaration = refl })

pub type_plain : (document_type rest : List ℕ) → IsDocumentType document_type → Plain rest → Plain (document_type ++ rest)
type_plain d rest (inl e) p = rw e p
type_plain d rest (inr (w, inside, behind, white, never, b, e)) p = rw e (record { no_mark = refl; no_declaration = refl })

pub mark_back : (mark rest : List ℕ) → IsMark mark → starts_with nat_eq rest (0xEF ∷ []) ≡ false → behind_mark (mark ++ rest) ≡ Ok rest
mark_back mark rest (inl e) n = rw e (rw n refl)
mark_back mark rest (inr e) n = rw e refl

pub declaration_back : (declaration rest : List ℕ) → IsDeclaration declaration → Plain rest → (behind_declaration (declaration ++ rest) ≡ Ok rest) × (starts_with nat_eq (declaration ++ rest) (0xEF ∷ []) ≡ false)
declaration_back d rest (inl e) p = (rw e (rw p.no_declaration refl), rw e p.no_mark)
declaration_back d rest (inr (w, inside, white, e, ends)) p = (rw e (rw white (up_to_back 63 (codes ">") inside rest refl ends)), rw e refl)

pub type_end_back : (inside rest : List ℕ) → list_any (λ b. eqb b 62 || eqb b 91 || is_control b) inside ≡ false → type_end (inside ++ 62 ∷ rest) ≡ Ok rest
type_end_back [] rest h = refl
type_end_back (x ∷ inside) rest h =
    let a = or_parts (eqb x 62 || eqb x 91 || is_control x) (list_any (λ b. eqb b 62 || eqb b 91 || is_control b) inside) h in
    let k = or_parts (eqb x 62 || eqb x 91) (is_control x) a.0 in
    let b = or_parts (eqb x 62) (eqb x 91) k.0 in
    rw (b.0, b.1, k.1) (type_end_back inside rest a.1)

pub typed_back : (document_type rest : List ℕ) → IsDocumentType document_type → Stops rest → (k : ℕ) → between_or behind_type (suc k) (document_type ++ rest) ≡ Ok rest
typed_back d rest (inl e) s k = rw e (stops_back behind_type rest s k)
typed_back d rest (inr (w, inside, behind, white, never, b, e)) s k =
    rw (joined d w inside behind e) (rw white (rw (type_end_back inside (behind ++ rest) never) (between_stops behind rest b s)))
  where
    joined : (d : List ℕ) (w : ℕ) (i b : List ℕ) → d ≡ codes "<!DOCTYPE" ++ w ∷ i ++ codes ">" ++ b → d ++ rest ≡ codes "<!DOCTYPE" ++ w ∷ (i ++ 62 ∷ (b ++ rest))
    joined d w i b e = rw e (simp append_assoc)

-- ---- the whole text

pub is_nzb : IsMarkupName (codes "nzb")
is_nzb = (λ e. cc, refl)

pub no_index : Index
no_index = record { metas = []; files = [] }

pub index_back : (text : List ℕ) (i : Index) → IsNzb text i → index_at text ≡ Ok i
unfolding no_index
index_back text i w = go w.is_root
  where
    joined : (t m d b y r l h : List ℕ) → t ≡ m ++ d ++ b ++ y ++ r ++ l → r ++ l ≡ h → t ≡ m ++ (d ++ (b ++ (y ++ h)))
    joined t m d b y r l h e f = rw (e, ← f) (simp append_assoc)

    given : Index → Result Index Stop
    given j = Ok j

    go : IsRoot w.root i → index_at text ≡ Ok i
    go (attributes, inside, entries, is, are, metas, files) =
        let o = open_back unchecked (codes "nzb") w.root attributes inside w.behind is in
        let tag : Tag = record { attributes = attributes; closed = o.closed } in
        let root : List ℕ = 60 ∷ (codes "nzb" ++ o.left) in
        let whole : text ≡ w.mark ++ (w.declaration ++ (w.between ++ (w.document_type ++ root))) = joined text w.mark w.declaration w.between w.document_type w.root w.behind root w.text_is o.text_is in
        let stops = tag_stops (codes "nzb") o.left is_nzb in
        let plain : Plain (w.between ++ (w.document_type ++ root)) = rw w.is_between.1 (between_plain w.is_between.0 (w.document_type ++ root) w.is_between.2 (type_plain w.document_type root w.is_document_type (record { no_mark = refl; no_declaration = refl }))) in
        let declared = declaration_back w.declaration (w.between ++ (w.document_type ++ root)) w.is_declaration plain in
        let marked = mark_back w.mark (w.declaration ++ (w.between ++ (w.document_type ++ root))) w.is_mark declared.1 in
        let typed : between_or behind_type (suc (length text)) (w.between ++ (w.document_type ++ root)) ≡ Ok root =
        rw w.is_between.1 (between_back behind_type (w.document_type ++ root) (Ok root) (typed_back w.document_type root w.is_document_type stops) w.is_between.0 (length text) w.is_between.2
        (omega (arith, ap length whole, ap length w.is_between.1, length-append w.mark (w.declaration ++ (w.between ++ (w.document_type ++ root))), length-append w.declaration (w.between ++ (w.document_type ++ root)), length-append w.between (w.document_type ++ root)))) in
        let made : fold entered no_index entries ≡ i = all_entered entries no_index ∙ rw (← metas, ← files) refl in
        let few : Few (fold entered no_index entries) = rw made (w.few_files, w.few_segments) in
        let read = parent_back entry_item IsEntry entered Few (codes "nzb") entry_back fewer_entries is_nzb tag no_index o.mid inside w.behind entries o.content are few in
        let last : between w.behind ≡ Ok [] = rw (append-nil w.behind) at (between_stops w.behind [] w.is_behind (record { no_white = refl; no_comment = refl })) in
        then (behind_mark text) _ (w.declaration ++ (w.between ++ (w.document_type ++ root))) _ (rw whole marked)
        (rw declared.0 (rw typed (rw (name_back (codes "nzb") o.left is_nzb o.ends) (rw o.tag (rw read (rw last (ap (λ (j : Index). given j) made)))))))

-- a text of the grammar is read
pub nzb_back : (text : List ℕ) (i : Index) → IsNzb text i → nzb_of text ≡ Ok i
unfolding nzb_of
nzb_back text i n =
    let read = index_back text i n in
    rw (le-ltb MOST_TEXT_BYTES (length text) n.short) (rw read refl)
