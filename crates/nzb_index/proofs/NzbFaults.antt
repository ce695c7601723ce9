-- An element of an NZB text that has a reason of the table is refused for it, or for a limit that is passed before.
use Rattle.std.proofs.Common.{◌≡◌, ℕ, ◌+◌, true, false, List, [], ◌∷◌, ◌++◌, length, Some, Ok, refl, ◌∙◌, arith, inl, inr}
use Rattle.std.specs.Prelude.{codes, nat_lt, fold, if◌then◌else◌}
use Rattle.std.proofs.lemmas.Bool.{cases_Bool, ltb-true}
use Rattle.std.proofs.lemmas.List.{length-append}
use Rattle.nzb_index.specs.declared.error.NzbReason.{NzbReason}
use Rattle.nzb_index.specs.declared.error.NzbReason.TheVariants.{WrongTag, NoNumber, BadId}
use Rattle.nzb_index.specs.declared.error.NzbLimit.TheVariants as limits
use Rattle.nzb_writer.specs.declared.index.Segment.{Segment}
use Rattle.nzb_writer.specs.declared.index.FileEntry.{FileEntry}
use Rattle.nzb_writer.specs.declared.index.Index.{Index}
use Rattle.nzb_writer.specs.Markup.{attribute, has_attribute, or_nothing, number_of, unchecked}
use Rattle.nzb_writer.specs.Nzb.{segment_checks, file_checks, segment_count, IsMeta, IsGroup, IsSegment, groups, segments, Lists, head, file, IsEntry}
use Rattle.nzb_index.specs.MarkupReading.{ValueRead, Tag, refused, stop_at, tag_at, leaf, parent, ◌>>=◌}
use Rattle.nzb_index.specs.NzbReading.{bad_id, meta_item, group_item, segment_item, file_part, entry_item, with_file}
use Rattle.nzb_index.specs.Reasons.{LeafFault, SegmentFault, segment_name, segment_tag, no_number, segment_text, segment_end, no_id, other_id, ListedFault, listed_name, in_groups, in_segments, EntryFault, entry_name, in_head, in_file}
use Rattle.nzb_index.proofs.IndexFound.{push, Any, FewSegments, fold_push, listed, all_listed, FewInFile, entered, Few, segments_with}
use Rattle.nzb_index.proofs.IndexRead.{meta_back, group_back, segment_back, part_back, entry_back, is_meta, is_group, is_segment, is_groups, is_segments, is_head, is_file}
use Rattle.nzb_index.proofs.TagsRead.{open_back}
use Rattle.nzb_index.proofs.FaultsRead.{Tells, told, past_limit, tells_bind, tag_told}
use Rattle.nzb_index.proofs.ElementFaults.{bytes_other, end_known_told, opened, leaf_end_tells, leaf_text_told, leaf_open_told, closes_begins, started, tag_no_name, other_tells, leaf_fault_tells, PassesLimit, ReadsOrPasses, TellsOne, parent_fault_tells, parent_passes}
use Rattle.limits.specs.declared.TheConstants.{MOST_FILES, MOST_SEGMENTS}

-- ---- elements of the grammar

pub meta_passes : ReadsOrPasses meta_item IsMeta push Any
meta_passes metas m one rest is fits = inl (tt, meta_back metas m one rest is tt)

pub group_passes : ReadsOrPasses group_item IsGroup push Any
group_passes gs g one rest is fits = inl (tt, group_back gs g one rest is tt)

pub segment_passes : (earlier : ℕ) → ReadsOrPasses (segment_item earlier) IsSegment push (FewSegments earlier)
segment_passes earlier ss s one rest is fits = elim (cases_Bool (nat_lt (earlier + length ss) MOST_SEGMENTS)) [
  | inl room ↦
      let below = ltb-true (earlier + length ss) MOST_SEGMENTS room in
      let few : FewSegments earlier (push ss s) = omega (arith, length-append ss (s ∷ []), below) in
      inl (few, segment_back earlier ss s one rest is few)
  | inr full ↦ inr (past full is)
]
  where
    past : nat_lt (earlier + length ss) MOST_SEGMENTS ≡ false → IsSegment one s → PassesLimit (segment_item earlier) ss one rest
    past full (attributes, inside, is, has, number, bytes, text, good) =
        let o = open_back segment_checks (codes "segment") one attributes inside rest is in
        record { name = codes "segment"; left = o.left; text_is = o.text_is; is_name = is_segment; ends = o.ends; past = limits.Segments; read = rw full refl }

pub part_passes : (earlier : ℕ) → ReadsOrPasses (file_part earlier) Lists listed (FewInFile earlier)
part_passes earlier f (groups gs) one rest is fits = inl (fits, part_back earlier f (groups gs) one rest is fits)
part_passes earlier f (segments ss) one rest (attributes, inside, is, are) fits =
    let o = open_back unchecked (codes "segments") one attributes inside rest is in
    let tag : Tag = record { attributes = attributes; closed = o.closed } in
    elim (parent_passes (segment_item earlier) IsSegment push (FewSegments earlier) (codes "segments") (segment_passes earlier) tag f.segments o.mid inside rest ss o.content are fits) [
      | inl few ↦ let fitting : FewInFile earlier (listed f (segments ss)) = rw (fold_push f.segments ss) at few in inl (fitting, part_back earlier f (segments ss) one rest (attributes, inside, is, are) fitting)
      | inr (l, e) ↦ inr (record { name = codes "segments"; left = o.left; text_is = o.text_is; is_name = is_segments; ends = o.ends; past = l; read = rw o.tag (rw e refl) })
    ]

pub entry_passes : ReadsOrPasses entry_item IsEntry entered Few
entry_passes i (head metas) one rest is fits = inl (fits, entry_back i (head metas) one rest is fits)
entry_passes i (file f) one rest (attributes, inside, parts, is, are, poster, subject, date, gs, ss) fits =
    let o = open_back file_checks (codes "file") one attributes inside rest is in
    elim (cases_Bool (nat_lt (length i.files) MOST_FILES)) [
      | inr full ↦ inr (record { name = codes "file"; left = o.left; text_is = o.text_is; is_name = is_file; ends = o.ends; past = limits.Files; read = rw full refl })
      | inl room ↦
          let below = ltb-true (length i.files) MOST_FILES room in
          let tag : Tag = record { attributes = attributes; closed = o.closed } in
          let start : FileEntry = record {
            poster = or_nothing (attribute (codes "poster") attributes);
            date = number_of (codes "date") attributes;
            subject = or_nothing (attribute (codes "subject") attributes);
            groups = [];
            segments = [];
          } in
          let made : fold listed start parts ≡ f = all_listed parts start ∙ rw (← poster, ← subject, ← date, ← gs, ← ss) refl in
          elim (parent_passes (file_part (segment_count i)) Lists listed (FewInFile (segment_count i)) (codes "file") (part_passes (segment_count i)) tag start o.mid inside rest parts o.content are (omega (arith, fits.1))) [
            | inl few ↦
                let fitting : FewInFile (segment_count i) f = rw made at few in
                let all : Few (entered i (file f)) = (omega (arith, length-append i.files (f ∷ []), below), omega (arith, segments_with i f, fitting)) in
                inl (all, entry_back i (file f) one rest (attributes, inside, parts, is, are, poster, subject, date, gs, ss) all)
            | inr (l, e) ↦ inr (record { name = codes "file"; left = o.left; text_is = o.text_is; is_name = is_file; ends = o.ends; past = l; read = rw (room, o.tag) (rw e refl) })
          ]
    ]

-- ---- elements that have a reason

pub meta_tells : TellsOne meta_item (LeafFault (codes "meta")) Any
meta_tells metas from here reason fits f = leaf_fault_tells meta_item metas (codes "meta") is_meta
    (λ tag t. (metas ++ record { kind = or_nothing (attribute (codes "type") tag.0.attributes); text = t.0 } ∷ [], t.1)) (λ name from left. refl) from here reason f

pub group_tells : TellsOne group_item (LeafFault (codes "group")) Any
group_tells gs from here reason fits f = leaf_fault_tells group_item gs (codes "group") is_group (λ tag t. (gs ++ t.0 ∷ [], t.1)) (λ name from left. refl) from here reason f

-- behind the name of a segment for which there is room
abbrev segment_rest : List Segment → List ℕ → List ℕ → ValueRead (List Segment)
segment_rest ss from left = do
  tag ← tag_at segment_checks left
  has ← if has_attribute (codes "number") tag.0.attributes then Ok true else stop_at from NoNumber
  id ← leaf (codes "segment") (bad_id from) tag.0 tag.1
  Ok (ss ++ record { number = number_of (codes "number") tag.0.attributes; bytes = number_of (codes "bytes") tag.0.attributes; id = id.0 } ∷ [], id.1)

segment_on : (earlier : ℕ) (ss : List Segment) (from left here : List ℕ) (reason : NzbReason) → Tells (segment_rest ss from left) here reason → Tells (segment_item earlier ss (codes "segment") from left) here reason
segment_on earlier ss from left here reason t = elim (cases_Bool (nat_lt (earlier + length ss) MOST_SEGMENTS)) [ inl room ↦ rw room t | inr full ↦ past_limit limits.Segments (rw full refl) ]

pub segment_tells : (earlier : ℕ) → TellsOne (segment_item earlier) SegmentFault (FewSegments earlier)
segment_tells earlier ss from here _ fits (segment_name other opens differs) = other_tells (segment_item earlier) ss from other WrongTag opens (λ left. told (rw (bytes_other other (codes "segment") differs) refl))
segment_tells earlier ss from here reason fits (segment_tag rest _ _ e f) = record {
  name = codes "segment";
  left = rest;
  from_is = e;
  is_name = is_segment;
  ends = tag_no_name segment_checks rest here reason f;
  tells = segment_on earlier ss from rest here reason (tells_bind (tag_at segment_checks rest) _ here reason (tag_told segment_checks rest here reason f));
}
segment_tells earlier ss from here _ fits (no_number attributes closed rest start lacks) =
    let st = started segment_checks (codes "segment") from attributes closed rest start in
    record { name = codes "segment"; left = st.left; from_is = st.from_is; is_name = is_segment; ends = st.ends; tells = segment_on earlier ss from st.left from NoNumber (rw st.read (told (rw lacks refl))) }
segment_tells earlier ss from here reason fits (segment_text attributes rest _ _ start has f) =
    let st = started segment_checks (codes "segment") from attributes false rest start in
    record {
      name = codes "segment";
      left = st.left;
      from_is = st.from_is;
      is_name = is_segment;
      ends = st.ends;
      tells = segment_on earlier ss from st.left here reason (rw st.read (rw has (tells_bind (leaf (codes "segment") (bad_id from) (opened attributes) rest) _ here reason (leaf_text_told (codes "segment") (bad_id from) attributes rest here reason f))));
    }
segment_tells earlier ss from here _ fits (no_id attributes rest start has) =
    let st = started segment_checks (codes "segment") from attributes true rest start in
    record { name = codes "segment"; left = st.left; from_is = st.from_is; is_name = is_segment; ends = st.ends; tells = segment_on earlier ss from st.left from BadId (rw st.read (rw has (told refl))) }
segment_tells earlier ss from here _ fits (other_id attributes rest inside id end start has e t closes bad) =
    let st = started segment_checks (codes "segment") from attributes false rest start in
    let i = closes_begins end (codes "segment") closes in
    let known : bad_id from id ≡ Some (refused (length from) BadId) = rw bad refl in
    record {
      name = codes "segment";
      left = st.left;
      from_is = st.from_is;
      is_name = is_segment;
      ends = st.ends;
      tells = segment_on earlier ss from st.left from BadId (rw st.read (rw has (tells_bind (leaf (codes "segment") (bad_id from) (opened attributes) rest) _ from BadId
          (leaf_end_tells (codes "segment") (bad_id from) attributes rest inside id end i.0 from BadId e t i.1 (told (rw known (end_known_told (codes "segment") (refused (length from) BadId) end closes)))))));
    }
segment_tells earlier ss from here _ fits (segment_end attributes rest inside id end _ start has e t good unclosed) =
    let st = started segment_checks (codes "segment") from attributes false rest start in
    record {
      name = codes "segment";
      left = st.left;
      from_is = st.from_is;
      is_name = is_segment;
      ends = st.ends;
      tells = segment_on earlier ss from st.left here _ (rw st.read (rw has (tells_bind (leaf (codes "segment") (bad_id from) (opened attributes) rest) _ here _
          (leaf_open_told (codes "segment") (bad_id from) attributes rest inside id end here e t (rw good refl) unclosed))));
    }

pub part_tells : (earlier : ℕ) → TellsOne (file_part earlier) ListedFault (FewInFile earlier)
part_tells earlier f from here _ fits (listed_name other opens no_groups no_segments) =
    other_tells (file_part earlier) f from other WrongTag opens (λ left. told (rw (bytes_other other (codes "groups") no_groups) (rw (bytes_other other (codes "segments") no_segments) refl)))
part_tells earlier f from here reason fits (in_groups _ _ x) =
    let p = parent_fault_tells unchecked group_item IsGroup push Any (LeafFault (codes "group")) (codes "groups") group_passes group_tells (λ tag. f.groups) (λ tag. tt) (λ tag g. Ok (record f { groups = g.0 }, g.1)) from here reason x in
    record { name = codes "groups"; left = p.0; from_is = p.1; is_name = is_groups; ends = p.2; tells = p.3 }
part_tells earlier f from here reason fits (in_segments _ _ x) =
    let p = parent_fault_tells unchecked (segment_item earlier) IsSegment push (FewSegments earlier) SegmentFault (codes "segments") (segment_passes earlier) (segment_tells earlier) (λ tag. f.segments) (λ tag. fits) (λ tag g. Ok (record f { segments = g.0 }, g.1)) from here reason x in
    record { name = codes "segments"; left = p.0; from_is = p.1; is_name = is_segments; ends = p.2; tells = p.3 }

abbrev file_start : Tag → FileEntry
file_start tag = record {
  poster = or_nothing (attribute (codes "poster") tag.attributes);
  date = number_of (codes "date") tag.attributes;
  subject = or_nothing (attribute (codes "subject") tag.attributes);
  groups = [];
  segments = [];
}

pub entry_tells : TellsOne entry_item EntryFault Few
entry_tells i from here _ fits (entry_name other opens no_head no_file) =
    other_tells entry_item i from other WrongTag opens (λ left. told (rw (bytes_other other (codes "head") no_head) (rw (bytes_other other (codes "file") no_file) refl)))
entry_tells i from here reason fits (in_head _ _ x) =
    let p = parent_fault_tells unchecked meta_item IsMeta push Any (LeafFault (codes "meta")) (codes "head") meta_passes meta_tells (λ tag. i.metas) (λ tag. tt) (λ tag m. Ok (record i { metas = m.0 }, m.1)) from here reason x in
    record { name = codes "head"; left = p.0; from_is = p.1; is_name = is_head; ends = p.2; tells = p.3 }
entry_tells i from here reason fits (in_file _ _ x) =
    let p = parent_fault_tells file_checks (file_part (segment_count i)) Lists listed (FewInFile (segment_count i)) ListedFault (codes "file") (part_passes (segment_count i)) (part_tells (segment_count i)) file_start (λ tag. omega (arith, fits.1)) (λ tag f. Ok (with_file i f.0, f.1))
    from here reason x in
    record { name = codes "file"; left = p.0; from_is = p.1; is_name = is_file; ends = p.2; tells = room p.0 p.3 }
  where
    room : (left : List ℕ) → Tells {A = Index × List ℕ} (tag_at file_checks left >>= λ tag. parent (file_part (segment_count i)) (codes "file") tag.0 (file_start tag.0) tag.1 >>= λ f. Ok (with_file i f.0, f.1)) here reason → Tells (entry_item i (codes "file") from left) here reason
    room left t = elim (cases_Bool (nat_lt (length i.files) MOST_FILES)) [ inl free ↦ rw free t | inr full ↦ past_limit limits.Files (rw full refl) ]
