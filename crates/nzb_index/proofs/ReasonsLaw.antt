-- A text that is refused for a reason of the table has it at the place that is told.
use Rattle.std.proofs.Common.{◌≡◌, ℕ, suc, ◌+◌, ◌-◌, Bool, true, false, not, eqb, ◌||◌, ◌≤◌, List, [], ◌∷◌, ◌++◌, length, drop, Some, None, Result, Ok, Err, refl, sym, ap, subst, ◌∙◌, append_assoc, arith, inl, inr}
use Rattle.std.specs.Prelude.{codes, nat_eq, bytes_eq, nat_lt}
use Rattle.std.specs.List.{starts_with, list_any, flat_map}
use Rattle.std.proofs.lemmas.Bool.{cases_Bool, eqb-true, or_from}
use Rattle.std.proofs.lemmas.List.{length-append, append_cancel_left}
use Rattle.std.proofs.lemmas.Slice.Eq.{bytes_eq-Decides}
use Rattle.nzb_index.specs.declared.error.NzbReason.{NzbReason}
use Rattle.nzb_index.specs.declared.error.NzbReason.TheVariants.{Unexpected, WrongTag, NoNumber, BadId, Subset}
use Rattle.nzb_index.specs.declared.error.NzbLimit.TheVariants as limits
use Rattle.nzb_writer.specs.declared.index.Index.{Index}
use Rattle.nzb_writer.specs.Markup.{is_control, is_white, is_name_byte, is_message_id, has_attribute, unchecked, IsBetween}
use Rattle.nzb_writer.specs.Nzb.{segment_checks, file_checks, segment_count, IsMeta, IsGroup, IsSegment, Lists, IsEntry, metas_in, files_in, IsRoot}
use Rattle.nzb_index.specs.MarkupReading.{Stop, refused, limit, word, name_at, one_white, between, between_or, tag_at, leaf}
use Rattle.nzb_index.specs.NzbReading.{Refusal, refused_at, past, bad_id, meta_item, group_item, segment_item, file_part, entry_item, type_end, behind_type, behind_mark, behind_declaration, nothing_behind, index_at, nzb_of, with_place}
use Rattle.nzb_index.specs.Broken.{OtherByte, OpensType, BrokenDeclaration, declaration_name, no_white_behind_xml, in_declaration, BrokenType, comment_before, type_name, no_white_behind_type, in_type, behind_type as behind_its_end, BrokenEnd, in_end, no_comment}
use Rattle.nzb_index.specs.Reasons.{Fault, StartTag, LeafFault, SegmentFault, segment_name, segment_tag, no_number, segment_text, segment_end, no_id, other_id, parent_tag, parent_content, ListedFault, listed_name, in_groups, in_segments, EntryFault, entry_name, in_head, in_file, RootFault, root_name, root_inside, NzbFault, in_nzb, subset, in_mark, in_xml, before_root, no_root, no_root_name, behind_root, HasReason, IsOneOf}
use Rattle.limits.specs.declared.TheConstants.{MOST_TEXT_BYTES}
use Rattle.nzb_index.proofs.Words.{starts_front}
use Rattle.nzb_index.proofs.Gives.{Gives, gives_ok, gives_bind, gives_if, gives_as, word_gives, up_to_gives, between_or_gives, between_gives}
use Rattle.nzb_index.proofs.TagsFound.{tag_gives}
use Rattle.nzb_index.proofs.ElementsFound.{element, parent_gives}
use Rattle.nzb_index.proofs.IndexFound.{push, Any, good_id, FewSegments, FewInFile, Few, listed, entered, all_entered, meta_reads, group_reads, segment_reads, part_reads, entry_reads, mark_gives, one_white_gives, declaration_gives, type_end_gives, typing, Typed, type_gives}
use Rattle.nzb_index.proofs.Stops.{Stops, stops_ok, stops_err, stops_bind, stops_then, stops_if, stops_test, stops_as, Told, in_table, told_as, told_here, ended, AtByte, broken_as, broken_so, unexpected_told, word_stops, letter_stops, up_to_stops, name_stops, one_white_stops, Standing, gives_both, between_or_stands, between_stands, between_or_stops, no_hyphen_here, between_stops}
use Rattle.nzb_index.proofs.ReasonsFound.{name_ends, other_bytes, other_too, starts_other, name_over, tag_stops, start_tag, leaf_stops, StopsOne, parent_stops, leaf_element_stops}

named_so : (name wanted from rest : List ℕ) → bytes_eq name wanted ≡ true → from ≡ codes "<" ++ name ++ rest → from ≡ codes "<" ++ wanted ++ rest
named_so name wanted from rest b e = e ∙ ap (λ (n : List ℕ). codes "<" ++ n ++ rest) ((bytes_eq-Decides name wanted).0 b)

-- ---- metas, groups and segments

meta_stops : StopsOne meta_item (LeafFault (codes "meta")) Any
meta_stops metas name from rest e opens fits = leaf_element_stops (codes "meta") name from rest _ e opens

group_stops : StopsOne group_item (LeafFault (codes "group")) Any
group_stops gs name from rest e opens fits = leaf_element_stops (codes "group") name from rest _ e opens

-- why an id is none
bad_id_is : (from id : List ℕ) (s : Stop) → bad_id from id ≡ Some s → (is_message_id id ≡ false) × (s ≡ refused (length from) BadId)
bad_id_is from id s e = elim (cases_Bool (is_message_id id)) [
  | inl t ↦ absurd (let f : None ≡ Some s = rw t at e in cc)
  | inr f ↦ (f, let g : Some (refused (length from) BadId) ≡ Some s = rw f at e in cc)
]

segment_stops : (earlier : ℕ) → StopsOne (segment_item earlier) SegmentFault (FewSegments earlier)
segment_stops earlier ss name from rest e opens fits =
    stops_test (bytes_eq name (codes "segment")) _ _ (λ b. told_here from WrongTag (segment_name name opens (other_bytes name (codes "segment") b))) (λ b.
    stops_test (nat_lt (earlier + length ss) _) _ _ (λ full. record { row = tt }) (λ room.
    let whole = named_so name (codes "segment") from rest b e in
    stops_bind (tag_at segment_checks rest) _ (stops_as _ (tag_stops segment_checks rest (name_over name from rest e opens)) (told_as (λ h r f. segment_tag rest h r whole f))) (tag_gives segment_checks rest) (λ tag tagged.
    let is = start_tag segment_checks (codes "segment") from rest tag.0 tag.1 whole tagged in
    let as_closed : (c : Bool) → tag.0.closed ≡ c → StartTag segment_checks (codes "segment") from tag.0.attributes c tag.1 = λ c f. subst (λ (closed : Bool). StartTag segment_checks (codes "segment") from tag.0.attributes closed tag.1) f is in
    stops_test (has_attribute (codes "number") tag.0.attributes) _ _ (λ none. told_here from NoNumber (no_number tag.0.attributes tag.0.closed tag.1 is none)) (λ has.
    stops_then (leaf (codes "segment") (bad_id from) tag.0 tag.1) _ (leaf_stops (codes "segment") (bad_id from) tag.0 tag.1
    (λ c h r f. segment_text tag.0.attributes tag.1 h r (as_closed false c) has f)
    (λ c s k. subst (Told (SegmentFault from)) (sym (bad_id_is from [] s k).1) (told_here from BadId (no_id tag.0.attributes tag.1 (as_closed true c) has)))
    (λ c i d l a t k s n. subst (Told (SegmentFault from)) (sym (bad_id_is from d s n).1) (told_here from BadId (other_id tag.0.attributes tag.1 i d l (as_closed false c) has a t k (bad_id_is from d s n).0)))
    (λ c i d l h a t none unclosed. segment_end tag.0.attributes tag.1 i d l h (as_closed false c) has a t (good_id from d none) unclosed))
    (λ t. stops_ok _)))))

-- ---- files

part_stops : (earlier : ℕ) → StopsOne (file_part earlier) ListedFault (FewInFile earlier)
part_stops earlier f name from rest e opens fits = stops_if (bytes_eq name (codes "groups")) _ _
    (λ b. let whole = named_so name (codes "groups") from rest b e in
    stops_bind (tag_at unchecked rest) _ (stops_as _ (tag_stops unchecked rest (name_over name from rest e opens)) (told_as (λ h r x. in_groups h r (parent_tag rest h r whole x)))) (tag_gives unchecked rest) (λ tag tagged.
    let is = start_tag unchecked (codes "groups") from rest tag.0 tag.1 whole tagged in
    stops_then _ _ (parent_stops group_item IsGroup push Any (LeafFault (codes "group")) (codes "groups") group_reads group_stops tag.0 f.groups tag.1 tt
    (λ c h r x. in_groups h r (parent_content tag.0.attributes tag.1 h r (subst (λ (closed : Bool). StartTag unchecked (codes "groups") from tag.0.attributes closed tag.1) c is) x))) (λ g. stops_ok _)))
    (λ other. stops_if (bytes_eq name (codes "segments")) _ _
    (λ b. let whole = named_so name (codes "segments") from rest b e in
    stops_bind (tag_at unchecked rest) _ (stops_as _ (tag_stops unchecked rest (name_over name from rest e opens)) (told_as (λ h r x. in_segments h r (parent_tag rest h r whole x)))) (tag_gives unchecked rest) (λ tag tagged.
    let is = start_tag unchecked (codes "segments") from rest tag.0 tag.1 whole tagged in
    stops_then _ _ (parent_stops (segment_item earlier) IsSegment push (FewSegments earlier) SegmentFault (codes "segments") (segment_reads earlier) (segment_stops earlier) tag.0 f.segments tag.1 fits
    (λ c h r x. in_segments h r (parent_content tag.0.attributes tag.1 h r (subst (λ (closed : Bool). StartTag unchecked (codes "segments") from tag.0.attributes closed tag.1) c is) x))) (λ g. stops_ok _)))
    (λ more. stops_err _ (told_here from WrongTag (listed_name name opens (other_bytes name (codes "groups") other) (other_bytes name (codes "segments") more)))))

-- ---- the root

entry_stops : StopsOne entry_item EntryFault Few
entry_stops i name from rest e opens fits = stops_if (bytes_eq name (codes "head")) _ _
    (λ b. let whole = named_so name (codes "head") from rest b e in
    stops_bind (tag_at unchecked rest) _ (stops_as _ (tag_stops unchecked rest (name_over name from rest e opens)) (told_as (λ h r x. in_head h r (parent_tag rest h r whole x)))) (tag_gives unchecked rest) (λ tag tagged.
    let is = start_tag unchecked (codes "head") from rest tag.0 tag.1 whole tagged in
    stops_then _ _ (parent_stops meta_item IsMeta push Any (LeafFault (codes "meta")) (codes "head") meta_reads meta_stops tag.0 i.metas tag.1 tt
    (λ c h r x. in_head h r (parent_content tag.0.attributes tag.1 h r (subst (λ (closed : Bool). StartTag unchecked (codes "head") from tag.0.attributes closed tag.1) c is) x))) (λ m. stops_ok _)))
    (λ other. stops_if (bytes_eq name (codes "file")) _ _
    (λ b. let whole = named_so name (codes "file") from rest b e in
    stops_test (nat_lt (length i.files) _) _ _ (λ full. record { row = tt }) (λ room.
    stops_bind (tag_at file_checks rest) _ (stops_as _ (tag_stops file_checks rest (name_over name from rest e opens)) (told_as (λ h r x. in_file h r (parent_tag rest h r whole x)))) (tag_gives file_checks rest) (λ tag tagged.
    let is = start_tag file_checks (codes "file") from rest tag.0 tag.1 whole tagged in
    stops_then _ _ (parent_stops (file_part (segment_count i)) Lists listed (FewInFile (segment_count i)) ListedFault (codes "file") (part_reads (segment_count i)) (part_stops (segment_count i)) tag.0 _ tag.1 (omega (arith, fits))
    (λ c h r x. in_file h r (parent_content tag.0.attributes tag.1 h r (subst (λ (closed : Bool). StartTag file_checks (codes "file") from tag.0.attributes closed tag.1) c is) x))) (λ f. stops_ok _))))
    (λ more. stops_err _ (told_here from WrongTag (entry_name name opens (other_bytes name (codes "head") other) (other_bytes name (codes "file") more)))))

-- ---- the whole text

mark_stops : (text : List ℕ) → Stops (behind_mark text) (Told (NzbFault text))
mark_stops text = stops_if (starts_with nat_eq text (0xEF ∷ [])) _ _
    (λ e. broken_as _ (word_stops (0xEF ∷ 0xBB ∷ 0xBF ∷ []) text) (λ h b. in_mark (drop 1 text) h (starts_front text (0xEF ∷ []) e) b)) (λ e. stops_ok text)

declaration_stops : (text : List ℕ) → Stops (behind_declaration text) (Told (AtByte (BrokenDeclaration text)))
declaration_stops text = stops_if (starts_with nat_eq text (codes "<?")) _ _
    (λ e. stops_bind (word (codes "<?xml") text) _ (broken_so _ (word_stops (codes "<?xml") text) (λ h b. declaration_name (drop 2 text) h (starts_front text (codes "<?") e) b)) (word_gives (codes "<?xml") text) (λ name opened.
    stops_bind (one_white name) _ (broken_so _ (one_white_stops name) (λ h b. subst (λ (t : List ℕ). BrokenDeclaration text t) (sym b.here_is) (no_white_behind_xml name opened b.other))) (one_white_gives name) (λ inside w.
    broken_so _ (up_to_stops 63 (codes ">") inside) (λ h b. in_declaration w.0 inside h (opened ∙ ap (λ (t : List ℕ). codes "<?xml" ++ t) w.2) w.1 b))))
    (λ e. stops_ok text)

nothing_stops : (text : List ℕ) → Standing text → Stops (nothing_behind text) (Told (AtByte (BrokenEnd text)))
nothing_stops [] standing = stops_ok []
nothing_stops (x ∷ rest) standing =
    stops_bind (word (codes "<!--") (x ∷ rest)) _ (broken_so _ (word_stops (codes "<!--") (x ∷ rest)) (λ h b. no_comment h (record { byte = x; more = rest; here_is = refl; is_other = standing.not_white x rest refl }) b))
    (word_gives (codes "<!--") (x ∷ rest)) (λ r e. absurd (let f : starts_with nat_eq (codes "<!--" ++ r) (codes "<!") ≡ false = subst (λ (t : List ℕ). starts_with nat_eq t (codes "<!") ≡ false) e standing.no_mark in let g : true ≡ false = f in cc))

abbrev IsOpen : List ℕ → Type 0
IsOpen inside = list_any (λ b. eqb b 62 || eqb b 91 || is_control b) inside ≡ false

type_end_stops : {F : Fault} (text : List ℕ) → ((inside more : List ℕ) → text ≡ inside ++ 91 ∷ more → IsOpen inside → F (91 ∷ more) Subset) →
    ((inside here : List ℕ) → text ≡ inside ++ here → IsOpen inside → OtherByte (λ b. not (is_control b)) here → F here Unexpected) → Stops (type_end text) (Told F)
type_end_stops {F} [] row control = ended
type_end_stops {F} (x ∷ text) row control =
    stops_if (eqb x 62) _ _ (λ e. stops_ok text) (λ e.
    stops_if (eqb x 91) _ _ (λ f. stops_err _ (record { row = λ t. (91 ∷ text, refl, row [] text (ap (λ (y : ℕ). y ∷ text) (eqb-true x 91 f)) refl) })) (λ f.
    stops_if (is_control x) _ _ (λ k. unexpected_told (x ∷ text) (λ y m g. control [] (x ∷ text) refl refl (record { byte = x; more = text; here_is = refl; is_other = rw k refl }))) (λ k.
    let stands = or_from (eqb x 62 || eqb x 91) (is_control x) (or_from (eqb x 62) (eqb x 91) e f) k in
    type_end_stops text (λ inside more g clean. row (x ∷ inside) more (ap (λ (t : List ℕ). x ∷ t) g) (or_from (eqb x 62 || eqb x 91 || is_control x) _ stands clean))
    (λ inside here g clean other. control (x ∷ inside) here (ap (λ (t : List ℕ). x ∷ t) g) (or_from (eqb x 62 || eqb x 91 || is_control x) _ stands clean) other))))

-- in front of the root, behind white and comments
record BeforeRoot (declared here : List ℕ) : Type 0 where
  pub front : List ℕ
  pub from : List ℕ
  pub declared_is : declared ≡ front ++ from
  pub is_between : IsBetween front
  pub fault : BrokenType from here

named_type : {F : Fault} (more : List ℕ) → starts_with nat_eq (codes "<!" ++ more) (codes "<!-") ≡ false → ((here : List ℕ) → BrokenType (codes "<!" ++ more) here → F here Unexpected) → Stops (word (codes "DOCTYPE") more) (Told F)
named_type {F} [] n broken = ended
named_type {F} (x ∷ more) n broken = broken_as _ (word_stops (codes "DOCTYPE") (x ∷ more)) (λ h b. broken h (type_name (x ∷ more) h refl (no_hyphen_here (x ∷ more) x more refl n) b))

-- behind `<!` no comment begins
type_stops : {F : Fault} (more : List ℕ) → starts_with nat_eq (codes "<!" ++ more) (codes "<!-") ≡ false → ((here : List ℕ) → BrokenType (codes "<!" ++ more) here → F here Unexpected) →
    ((opened rest : List ℕ) → codes "<!" ++ more ≡ opened ++ 91 ∷ rest → OpensType opened → F (91 ∷ rest) Subset) → Stops (behind_type more) (Told F)
type_stops {F} more n broken row =
    stops_bind (word (codes "DOCTYPE") more) _ (named_type more n broken) (word_gives (codes "DOCTYPE") more) (λ name opened.
    stops_bind (one_white name) _ (broken_as _ (one_white_stops name) (λ h b. subst (λ (t : List ℕ). F t Unexpected) (sym b.here_is) (broken name (no_white_behind_type name (ap (λ (t : List ℕ). codes "<!" ++ t) opened) b.other)))) (one_white_gives name) (λ inside w.
    let begun : codes "<!" ++ more ≡ codes "<!DOCTYPE" ++ w.0 ∷ inside = ap (λ (t : List ℕ). codes "<!" ++ t) (opened ∙ ap (λ (t : List ℕ). codes "DOCTYPE" ++ t) w.2) in
    stops_bind (type_end inside) _ (type_end_stops inside
    (λ i rest h clean. row (codes "<!DOCTYPE" ++ w.0 ∷ i) rest (begun ∙ ap (λ (t : List ℕ). codes "<!DOCTYPE" ++ w.0 ∷ t) h) (w.0, i, w.1, clean, refl))
    (λ i here h clean other. broken here (in_type (codes "<!DOCTYPE" ++ w.0 ∷ i) here (begun ∙ ap (λ (t : List ℕ). codes "<!DOCTYPE" ++ w.0 ∷ t) h) (w.0, i, w.1, clean, refl) other)))
    (type_end_gives inside) (λ behind closed.
    broken_as _ (between_stops behind) (λ h b. broken h (behind_its_end (codes "<!DOCTYPE" ++ w.0 ∷ closed.0 ++ codes ">" ++ b.front) b.from h
    (joined (codes "<!" ++ more) inside closed.0 behind b.front b.from w.0 begun closed.1 b.text_is) (λ none. cc) (inr (w.0, closed.0, b.front, w.1, closed.2, b.is_between, refl)) b.fault)))))
  where
    joined : (t i c b f m : List ℕ) (w : ℕ) → t ≡ codes "<!DOCTYPE" ++ w ∷ i → i ≡ c ++ codes ">" ++ b → b ≡ f ++ m → t ≡ (codes "<!DOCTYPE" ++ w ∷ c ++ codes ">" ++ f) ++ m
    joined t i c b f m w e1 e2 e3 = rw (e1, e2, e3) (simp append_assoc)

no_index : Index
no_index = record { metas = []; files = [] }

-- what is left is the whole text only where the mark, or the declaration, does not begin
mark_known : (text : List ℕ) → Gives (behind_mark text) (λ rest. length text ≤ length rest → starts_with nat_eq text (0xEF ∷ []) ≡ false)
mark_known text = gives_if (starts_with nat_eq text (0xEF ∷ [])) _ _ (λ e. gives_as _ (word_gives (0xEF ∷ 0xBB ∷ 0xBF ∷ []) text) (λ rest f long. absurd (omega (arith, ap length f, long)))) (λ e. gives_ok text (λ long. e))

declaration_known : (text : List ℕ) → Gives (behind_declaration text) (λ rest. length text ≤ length rest → starts_with nat_eq text (codes "<?") ≡ false)
declaration_known text = gives_if (starts_with nat_eq text (codes "<?")) _ _
    (λ e. gives_bind (word (codes "<?xml") text) _ (word_gives (codes "<?xml") text) (λ name opened. gives_bind (one_white name) _ (one_white_gives name) (λ inside w.
    gives_as _ (up_to_gives 63 (codes ">") inside) (λ rest closed long. absurd (omega (arith, ap length opened, ap length w.2, ap length closed.1, length-append closed.0 rest, long))))))
    (λ e. gives_ok text (λ long. e))

type_stands : (more : List ℕ) → Gives (behind_type more) Standing
type_stands more = gives_bind (word (codes "DOCTYPE") more) _ (word_gives (codes "DOCTYPE") more) (λ name opened. gives_bind (one_white name) _ (one_white_gives name) (λ inside w.
    gives_bind (type_end inside) _ (type_end_gives inside) (λ behind closed. between_stands behind)))

no_mark_here : (text here : List ℕ) (allowed : ℕ → Bool) → starts_with nat_eq text (0xEF ∷ []) ≡ false → text ≡ here → OtherByte allowed here → OtherByte (λ b. eqb 0xEF b) here
no_mark_here text here allowed s e o = record { byte = o.byte; more = o.more; here_is = o.here_is; is_other = starts_other 0xEF o.byte text o.more (e ∙ o.here_is) s }

-- behind `<` this byte doesn't stand
no_second : (c : ℕ) (here inside : List ℕ) (allowed : ℕ → Bool) → here ≡ codes "<" ++ inside → starts_with nat_eq here (60 ∷ c ∷ []) ≡ false → OtherByte allowed inside → OtherByte (λ b. eqb c b) inside
no_second c here inside allowed e s o = record {
  byte = o.byte;
  more = o.more;
  here_is = o.here_is;
  is_other = starts_other c o.byte inside o.more o.here_is (subst (λ (t : List ℕ). starts_with nat_eq t (60 ∷ c ∷ []) ≡ false) e s);
}

both_others : (first second : ℕ → Bool) (text : List ℕ) → OtherByte first text → OtherByte second text → OtherByte (λ b. first b || second b) text
both_others first second text a b = record { byte = a.byte; more = a.more; here_is = a.here_is; is_other = or_from (first a.byte) (second a.byte) a.is_other (subst (λ (x : ℕ). second x ≡ false) same b.is_other) }
  where
    same : b.byte ≡ a.byte
    same = let e : b.byte ∷ b.more ≡ a.byte ∷ a.more = sym b.here_is ∙ a.here_is in cc

index_stops : (text : List ℕ) → Stops (index_at text) (Told (NzbFault text))
unfolding no_index
index_stops text =
    stops_bind (behind_mark text) _ (mark_stops text) (gives_both _ (mark_gives text) (mark_known text)) (λ marked of_mark.
    let m = of_mark.0 in
    stops_bind (behind_declaration marked) _ (broken_as _ (declaration_stops marked) (λ h b. in_xml m.0 marked h m.1 m.2 b)) (gives_both _ (declaration_gives marked) (declaration_known marked)) (λ declared of_declaration.
    let d = of_declaration.0 in
    let fronted : (between from : List ℕ) → declared ≡ between ++ from → text ≡ m.0 ++ d.0 ++ between ++ from = λ between from e. with_front text m.0 marked d.0 declared between from m.1 d.1 e in
    stops_bind (between_or behind_type (suc (length text)) declared) _
    (between_or_stops behind_type (suc (length text)) declared
    (λ front from h e is b. before_root m.0 d.0 front from h (fronted front from e) m.2 d.2 is (comment_before h b))
    (λ front more e is n. type_stops more n (λ h b. before_root m.0 d.0 front (codes "<!" ++ more) h (fronted front (codes "<!" ++ more) e) m.2 d.2 is b)
    (λ opened rest f o. subset m.0 d.0 front opened rest (with_type text m.0 d.0 front (codes "<!" ++ more) opened (91 ∷ rest) (fronted front (codes "<!" ++ more) e) f) m.2 d.2 is o)))
    (gives_both _ (between_or_gives behind_type Typed type_gives (suc (length text)) declared) (between_or_stands behind_type type_stands (suc (length text)) declared)) (λ here of_between.
    let t = typing declared here of_between.0 in
    let stands = of_between.1 in
    let rooted : text ≡ m.0 ++ d.0 ++ t.between ++ t.document_type ++ here = joined text m.0 marked d.0 declared t.between t.document_type here m.1 d.1 t.text_is in
    let row : (h : List ℕ) (r : NzbReason) → RootFault here h r → NzbFault text h r = λ h r x. in_nzb m.0 d.0 t.between t.document_type here h r rooted m.2 d.2 t.is_between t.is_document_type x in
    let long : length here ≤ length declared = longer declared t.between t.document_type here t.text_is in
    stops_bind (word (codes "<") here) _ (broken_as _ (letter_stops 60 here) (λ h b. subst (λ (x : List ℕ). NzbFault text x Unexpected) (sym b.here_is)
    (no_root m.0 d.0 t.between t.document_type here rooted m.2 d.2 t.is_between t.is_document_type (other_too is_white (λ x. eqb 60 x) here stands.not_white b.other)
    (λ whole. no_mark_here text here (λ x. eqb 60 x) (of_mark.1 (omega (arith, long, ap length whole, ap length d.1, length-append d.0 declared))) whole b.other)))) (word_gives (codes "<") here) (λ inside opened.
    stops_bind (name_at inside) _ (broken_as _ (name_stops inside) (λ h b. subst (λ (x : List ℕ). NzbFault text x Unexpected) (sym b.here_is)
    (no_root_name m.0 d.0 t.between t.document_type here inside rooted m.2 d.2 t.is_between t.is_document_type opened (both_others is_name_byte (λ x. eqb 33 x) inside b.other (no_second 33 here inside is_name_byte opened stands.no_mark b.other))
    (λ whole. let same = append_cancel_left m.0 marked here (sym m.1 ∙ whole) in
    no_second 63 here inside is_name_byte opened (subst (λ (x : List ℕ). starts_with nat_eq x (codes "<?") ≡ false) same (of_declaration.1 (omega (arith, long, ap length same)))) b.other)))) (name_ends inside) (λ name named.
    stops_test (bytes_eq name.0 (codes "nzb")) _ _ (λ n. told_here here WrongTag (row here WrongTag (root_name name.0 (inside, opened, named.ends) (other_bytes name.0 (codes "nzb") n)))) (λ n.
    let begun : here ≡ codes "<" ++ name.0 ++ name.1 = opened ∙ ap (λ (x : List ℕ). codes "<" ++ x) named.named.text_is in
    let whole = named_so name.0 (codes "nzb") here name.1 n begun in
    stops_bind (tag_at unchecked name.1) _ (stops_as _ (tag_stops unchecked name.1 (name_over name.0 here name.1 begun (inside, opened, named.ends))) (told_as (λ h r x. row h r (root_inside h r (parent_tag name.1 h r whole x))))) (tag_gives unchecked name.1) (λ tag tagged.
    let is = start_tag unchecked (codes "nzb") here name.1 tag.0 tag.1 whole tagged in
    stops_bind _ _ (parent_stops entry_item IsEntry entered Few EntryFault (codes "nzb") entry_reads entry_stops tag.0 no_index tag.1 (omega arith, omega arith)
    (λ c h r x. row h r (root_inside h r (parent_content tag.0.attributes tag.1 h r (subst (λ (closed : Bool). StartTag unchecked (codes "nzb") here tag.0.attributes closed tag.1) c is) x))))
    (parent_gives entry_item IsEntry entered Few (codes "nzb") entry_reads tag.0 no_index tag.1 (omega arith, omega arith)) (λ index many.
    let el = element unchecked (codes "nzb") here name.1 tag.0 tag.1 many.inside index.1 whole tagged many.content in
    let made : index.0 ≡ record { metas = flat_map metas_in many.values; files = flat_map files_in many.values } = many.after_is ∙ all_entered many.values no_index in
    let is_root : IsRoot el.one index.0 = (tag.0.attributes, many.inside, many.values, el.is_element, many.are_elements, ap (λ (x : Index). x.metas) made, ap (λ (x : Index). x.files) made) in
    let over : (behind from h : List ℕ) → index.1 ≡ behind ++ from → IsBetween behind → BrokenEnd from h → NzbFault text h Unexpected = λ behind from h e is_between b.
    behind_root m.0 d.0 t.between t.document_type el.one behind from h index.0 (with_end text m.0 d.0 t.between t.document_type here el.one index.1 behind from rooted el.from_is e) m.2 d.2 t.is_between t.is_document_type is_root is_between b in
    stops_bind (between index.1) _ (broken_as _ (between_stops index.1) (λ h b. over b.front b.from h b.text_is b.is_between (in_end h b.fault))) (gives_both _ (between_gives index.1) (between_stands index.1)) (λ behind last.
    stops_then (nothing_behind behind) _ (broken_as _ (nothing_stops behind last.1) (λ h b. over last.0.0 behind h last.0.1 last.0.2 b)) (λ nothing. stops_ok _))))))))))
  where
    joined : (t m k d c b y h : List ℕ) → t ≡ m ++ k → k ≡ d ++ c → c ≡ b ++ y ++ h → t ≡ m ++ d ++ b ++ y ++ h
    joined t m k d c b y h e1 e2 e3 = rw (e1, e2, e3) (simp append_assoc)

    with_front : (t m k d c b f : List ℕ) → t ≡ m ++ k → k ≡ d ++ c → c ≡ b ++ f → t ≡ m ++ d ++ b ++ f
    with_front t m k d c b f e1 e2 e3 = rw (e1, e2, e3) (simp append_assoc)

    with_type : (t m d b f o r : List ℕ) → t ≡ m ++ d ++ b ++ f → f ≡ o ++ r → t ≡ m ++ d ++ b ++ o ++ r
    with_type t m d b f o r e1 e2 = rw (e1, e2) (simp append_assoc)

    with_end : (t m d b y h o i l f : List ℕ) → t ≡ m ++ d ++ b ++ y ++ h → h ≡ o ++ i → i ≡ l ++ f → t ≡ m ++ d ++ b ++ y ++ o ++ l ++ f
    with_end t m d b y h o i l f e1 e2 e3 = rw (e1, e2, e3) (simp append_assoc)

    longer : (c b y h : List ℕ) → c ≡ b ++ y ++ h → length h ≤ length c
    longer c b y h e = omega (arith, ap length e, length-append (b ++ y) h)

-- a refusal by a reason of the table is a row of it
pub reason_of : (reason : NzbReason) → in_table reason ≡ true → IsOneOf reason
unfolding nzb_of
reason_of reason known text place e = elim (cases_Bool (nat_lt MOST_TEXT_BYTES (length text))) [
  | inl long ↦ absurd (let f : refuses (past limits.TextBytes) ≡ refuses (refused_at place reason) = rw long at e in cc)
  | inr short ↦ placed (index_at text) refl (rw short at e)
]
  where
    refuses : Refusal → Result Index Refusal
    refuses r = Err r

    placed : (r : Result Index Stop) → index_at text ≡ r → with_place (length text) r ≡ Err (refused_at place reason) → HasReason text place reason
    placed (Ok i) f h = absurd cc
    placed (Err (limit l)) f h = absurd cc
    placed (Err (refused left q)) f h =
        let at : length text - left ≡ place = cc in
        let same : q ≡ reason = cc in
        let t = ((index_stops text).stopped (refused left q) f).row (rw same known) in
        (t.0, sym at ∙ ap (λ (n : ℕ). length text - n) (sym t.1), subst (λ (x : NzbReason). NzbFault text t.0 x) same t.2)
