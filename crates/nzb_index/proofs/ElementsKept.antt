-- What is read of tags, elements and the whole text stays as it is when more text follows.
use Rattle.std.proofs.Common.{◌≡◌, ℕ, zero, suc, ◌+◌, ◌≤◌, Bool, true, false, cond, eqb, ◌||◌, ◌&&◌, List, [], ◌∷◌, ◌++◌, length, Option, Some, None, Result, Ok, Err, refl, sym, ◌∙◌, arith, inl, inr}
use Rattle.std.specs.Prelude.{codes, nat_eq, nat_lt, bytes_eq}
use Rattle.std.specs.List.{starts_with}
use Rattle.std.proofs.lemmas.Bool.{eqb-true, eq-eqb, ne_eqb, cases_Bool, cases_eq}
use Rattle.std.proofs.lemmas.List.{length-append}
use Rattle.nzb_index.specs.declared.error.NzbReason.TheVariants.{WrongTag, DoubleAttribute, NoNumber, BadNumber, BadId}
use Rattle.nzb_index.specs.declared.error.NzbLimit.{NzbLimit}
use Rattle.nzb_index.specs.declared.error.NzbLimit.TheVariants as limits
use Rattle.nzb_writer.specs.Markup.{Attribute, AttributeChecks, has_attribute, unchecked, is_message_id, trimmed}
use Rattle.nzb_writer.specs.Nzb.{segment_checks, file_checks, segment_count}
use Rattle.nzb_index.specs.MarkupReading.{Stop, refused, limit, ValueRead, Tag, stop_at, unexpected, word, behind_white, name_at, between, text_at, quoted_at, attribute_at, tag_rest, tag_at, or_stop, end_tag, leaf, children, parent, only, no_fault, ◌>>=◌}
use Rattle.nzb_index.specs.NzbReading.{bad_id, meta_item, group_item, segment_item, file_part, entry_item}
use Rattle.nzb_index.proofs.Keeps.{Keeps, goes_on, cut, limited, Never, behind, second, same, keeps_bind, keeps_then, keeps_if, stop_keeps, unexpected_keeps, test_keeps, word_keeps, all, part, white_keeps, name_keeps, Edge, nothing, opening, between_keeps}
use Rattle.nzb_index.proofs.TextsKept.{value_keeps, text_keeps}
use Rattle.limits.specs.declared.TheConstants.{MOST_FILES, MOST_SEGMENTS}

-- ---- attributes and tags

quoted_keeps : (text more : List ℕ) → Keeps (second more) Never more (quoted_at text) (quoted_at (text ++ more))
quoted_keeps [] more = cut _
quoted_keeps (q ∷ text) more = keeps_if (eqb q 34 || eqb q 39) _ _ _ _ _ refl (λ e. value_keeps q (length text) (length (text ++ more)) text more (omega (arith, length-append text more))) (λ e. unexpected_keeps (q ∷ text))

attribute_keeps : (checks : AttributeChecks) (earlier : List Attribute) (here more : List ℕ) → Keeps (second more) Never more (attribute_at checks earlier here) (attribute_at checks earlier (here ++ more))
attribute_keeps checks earlier here more =
    keeps_then (name_at here) _ _ _ (name_keeps here more) (λ n.
    keeps_then {shift = same} (cond (has_attribute n.0 earlier) (stop_at here DoubleAttribute) (Ok true)) _ _ _
    (keeps_if (has_attribute n.0 earlier) _ _ _ _ _ refl (λ e. stop_keeps here DoubleAttribute (λ f. cc)) (λ e. goes_on true)) (λ new.
    elim (white_keeps n.1 more) [
      | all e ↦ rw e (cut _)
      | part x t e f ↦ rw (e, f) (keeps_then (word (codes "=") (x ∷ t)) _ _ _ (word_keeps (codes "=") (x ∷ t) more) (λ b. value n.0 b))
    ]))
  where
    value : (name b : List ℕ) → Keeps (second {A = Attribute} more) (Never {A = Attribute × List ℕ}) more
        (quoted_at (behind_white b) >>= λ value. cond (checks name value.0) (Ok true) (stop_at here BadNumber) >>= λ fits. Ok (record { name = name; value = value.0 }, value.1))
        (quoted_at (behind_white (b ++ more)) >>= λ value. cond (checks name value.0) (Ok true) (stop_at (here ++ more) BadNumber) >>= λ fits. Ok (record { name = name; value = value.0 }, value.1))
    value name b = elim (white_keeps b more) [
      | all e ↦ rw e (cut _)
      | part x t e f ↦ rw (e, f) (keeps_then (quoted_at (x ∷ t)) _ _ _ (quoted_keeps (x ∷ t) more) (λ v.
          keeps_then _ _ _ _ (test_keeps (checks name v.0) (checks name v.0) here BadNumber (λ g. cc) refl) (λ fits. goes_on (record { name = name; value = v.0 }, v.1))))
    ]

same_length : (a b m : List ℕ) → eqb (length (a ++ m)) (length (b ++ m)) ≡ eqb (length a) (length b)
same_length a b m = elim (cases_eq (length a) (length b)) [
  | inl e ↦ eq-eqb (length (a ++ m)) (length (b ++ m)) (omega (arith, length-append a m, length-append b m, e)) ∙ sym (eq-eqb (length a) (length b) e)
  | inr n ↦ ne_eqb (length (a ++ m)) (length (b ++ m)) (λ e. n (omega (arith, length-append a m, length-append b m, e))) ∙ sym (ne_eqb (length a) (length b) n)
]

tag_rest_keeps : (checks : AttributeChecks) (fuel fuel' : ℕ) (earlier : List Attribute) (rest more : List ℕ) → fuel ≤ fuel' → Keeps (second more) Never more (tag_rest checks fuel earlier rest) (tag_rest checks fuel' earlier (rest ++ more))
tag_rest_keeps checks zero fuel' earlier rest more l = cut _
tag_rest_keeps checks (suc fuel) zero earlier rest more l = absurd (omega arith)
tag_rest_keeps checks (suc fuel) (suc fuel') earlier rest more l = elim (white_keeps rest more) [
  | all e ↦ rw e (over (eqb 0 (length rest)))
  | part x t e f ↦ rw (e, f) (keeps_if (eqb 62 x && true) _ _ _ _ _ refl (λ a. goes_on (record { attributes = earlier; closed = false }, t))
      (λ a. keeps_if (eqb 47 x && true) _ _ _ _ _ refl (λ b. keeps_then (word (codes "/>") (x ∷ t)) _ _ _ (word_keeps (codes "/>") (x ∷ t) more) (λ left. goes_on (record { attributes = earlier; closed = true }, left)))
      (λ b. keeps_if (eqb (length (x ∷ t)) (length rest)) _ _ _ _ _ (same_length (x ∷ t) rest more) (λ c. unexpected_keeps (x ∷ t))
      (λ c. keeps_then (attribute_at checks earlier (x ∷ t)) _ _ _ (attribute_keeps checks earlier (x ∷ t) more) (λ a. tag_rest_keeps checks fuel fuel' (earlier ++ a.0 ∷ []) a.1 more (omega arith))))))
]
  where
    over : {r : Result (Tag × List ℕ) Stop} (b : Bool) → Keeps (second more) Never more (cond b (unexpected []) (attribute_at checks earlier [] >>= λ a. tag_rest checks fuel (earlier ++ a.0 ∷ []) a.1)) r
    over true = cut _
    over false = cut _

pub tag_keeps : (checks : AttributeChecks) (rest more : List ℕ) → Keeps (second more) Never more (tag_at checks rest) (tag_at checks (rest ++ more))
tag_keeps checks rest more = tag_rest_keeps checks (length rest) (length (rest ++ more)) [] rest more (omega (arith, length-append rest more))

close_keeps : (text more : List ℕ) → Keeps (behind more) Never more (word (codes ">") (behind_white text)) (word (codes ">") (behind_white (text ++ more)))
close_keeps text more = elim (white_keeps text more) [
  | all e ↦ rw e (cut _)
  | part x t e f ↦ rw (e, f) (word_keeps (codes ">") (x ∷ t) more)
]

end_tag_keeps : (name : List ℕ) (known known' : Option Stop) (rest more : List ℕ) → Keeps same Never more (or_stop known) (or_stop known') → Keeps (behind more) Never more (end_tag name known rest) (end_tag name known' (rest ++ more))
end_tag_keeps name known known' rest more k =
    keeps_then (word (codes "</") rest) _ _ _ (word_keeps (codes "</") rest more) (λ inside.
    keeps_then (name_at inside) _ _ _ (name_keeps inside more) (λ n.
    keeps_then _ _ _ _ (test_keeps (bytes_eq n.0 name) (bytes_eq n.0 name) rest WrongTag (λ e. cc) refl) (λ ok.
    keeps_then (or_stop known) _ _ _ k (λ fine. close_keeps n.1 more))))

leaf_keeps : (name : List ℕ) (known known' : List ℕ → Option Stop) (tag : Tag) (rest more : List ℕ) → ((t : List ℕ) → Keeps same Never more (or_stop (known t)) (or_stop (known' t))) →
    Keeps (second more) Never more (leaf name known tag rest) (leaf name known' tag (rest ++ more))
leaf_keeps name known known' tag rest more k = keeps_if tag.closed _ _ _ _ _ refl
    (λ c. keeps_then (or_stop (known [])) _ _ _ (k []) (λ fine. goes_on ([], rest)))
    (λ c. keeps_then (text_at (length rest) rest) _ _ _ (text_keeps (length rest) (length (rest ++ more)) rest more (omega (arith, length-append rest more))) (λ t.
    keeps_then (end_tag name (known (trimmed t.0)) t.1) _ _ _ (end_tag_keeps name (known (trimmed t.0)) (known' (trimmed t.0)) t.1 more (k (trimmed t.0))) (λ left. goes_on (trimmed t.0, left))))

-- ---- elements

abbrev KeepsItem : {S : Type 0} → List ℕ → (S → List ℕ → List ℕ → List ℕ → ValueRead S) → Type 0
KeepsItem {S} more item = (s : S) (name from rest : List ℕ) → Keeps (second more) Never more (item s name from rest) (item s name (from ++ more) (rest ++ more))

-- what stands behind white and comments: the end tag, or an element
abbrev step : {S : Type 0} → (S → List ℕ → List ℕ → List ℕ → ValueRead S) → List ℕ → ℕ → S → List ℕ → ValueRead S
step item name fuel s here =
    cond (starts_with nat_eq here (codes "</")) (end_tag name None here >>= λ left. Ok (s, left))
    (word (codes "<") here >>= λ inside. name_at inside >>= λ n. item s n.0 here n.1 >>= λ t. children item name fuel t.0 t.1)

step_edge : {S : Type 0} (item : S → List ℕ → List ℕ → List ℕ → ValueRead S) (name more : List ℕ) (fuel : ℕ) (s : S) (here : List ℕ) → Edge here → (r : ValueRead S) → Keeps (second more) Never more (step item name fuel s here) r
step_edge item name more fuel s here nothing r = cut _
step_edge item name more fuel s here opening r = cut _

step_keeps : {S : Type 0} (item : S → List ℕ → List ℕ → List ℕ → ValueRead S) (name more : List ℕ) → KeepsItem more item → (fuel fuel' : ℕ) (s : S) (here : List ℕ) →
    ((t : S) (left : List ℕ) → Keeps (second more) Never more (children item name fuel t left) (children item name fuel' t (left ++ more))) → Keeps (second more) Never more (step item name fuel s here) (step item name fuel' s (here ++ more))
step_keeps item name more k fuel fuel' s [] again = cut _
step_keeps item name more k fuel fuel' s (x ∷ []) again = elim (cases_Bool (eqb 60 x)) [
  | inl e ↦ rw (← (eqb-true 60 x e)) (cut _)
  | inr e ↦ rw e (unexpected_keeps (x ∷ []))
]
step_keeps item name more k fuel fuel' s (x ∷ y ∷ t) again = keeps_if (eqb 60 x && (eqb 47 y && true)) _ _ _ _ _ refl
    (λ e. keeps_then (end_tag name None (x ∷ y ∷ t)) _ _ _ (end_tag_keeps name None None (x ∷ y ∷ t) more (goes_on true)) (λ left. goes_on (s, left)))
    (λ e. keeps_then (word (codes "<") (x ∷ y ∷ t)) _ _ _ (word_keeps (codes "<") (x ∷ y ∷ t) more) (λ inside. keeps_then (name_at inside) _ _ _ (name_keeps inside more) (λ n.
    keeps_then (item s n.0 (x ∷ y ∷ t) n.1) _ _ _ (k s n.0 (x ∷ y ∷ t) n.1) (λ r. again r.0 r.1))))

children_keeps : {S : Type 0} (item : S → List ℕ → List ℕ → List ℕ → ValueRead S) (name more : List ℕ) → KeepsItem more item → (fuel fuel' : ℕ) (s : S) (rest : List ℕ) → fuel ≤ fuel' →
    Keeps (second more) Never more (children item name fuel s rest) (children item name fuel' s (rest ++ more))
children_keeps {S} item name more k zero fuel' s rest l = cut _
children_keeps {S} item name more k (suc fuel) zero s rest l = absurd (omega arith)
children_keeps {S} item name more k (suc fuel) (suc fuel') s rest l =
    keeps_bind (between rest) _ _ _ (between_keeps unexpected more (λ t. unexpected_keeps t) refl (suc (length rest)) (suc (length (rest ++ more))) rest (omega (arith, length-append rest more))) (step_edge item name more fuel s)
    (λ here. step_keeps item name more k fuel fuel' s here (λ t left. children_keeps item name more k fuel fuel' t left (omega arith)))

pub parent_keeps : {S : Type 0} (item : S → List ℕ → List ℕ → List ℕ → ValueRead S) (name more : List ℕ) → KeepsItem more item → (tag : Tag) (s : S) (rest : List ℕ) → Keeps (second more) Never more (parent item name tag s rest) (parent item name tag s (rest ++ more))
parent_keeps {S} item name more k tag s rest = keeps_if tag.closed _ _ _ _ _ refl (λ c. goes_on (s, rest)) (λ c. children_keeps item name more k (length rest) (length (rest ++ more)) s rest (omega (arith, length-append rest more)))

-- ---- the elements of an NZB

pub only_keeps : (wanted name from more : List ℕ) → Keeps same Never more (only wanted name from) (only wanted name (from ++ more))
only_keeps wanted name from more = test_keeps (bytes_eq name wanted) (bytes_eq name wanted) from WrongTag (λ e. cc) refl

meta_keeps : (more : List ℕ) → KeepsItem more meta_item
meta_keeps more metas name from rest =
    keeps_then (only (codes "meta") name from) _ _ _ (only_keeps (codes "meta") name from more) (λ ok.
    keeps_then (tag_at unchecked rest) _ _ _ (tag_keeps unchecked rest more) (λ tag.
    keeps_then (leaf (codes "meta") no_fault tag.0 tag.1) _ _ _ (leaf_keeps (codes "meta") no_fault no_fault tag.0 tag.1 more (λ t. goes_on true)) (λ text. goes_on _)))

group_keeps : (more : List ℕ) → KeepsItem more group_item
group_keeps more gs name from rest =
    keeps_then (only (codes "group") name from) _ _ _ (only_keeps (codes "group") name from more) (λ ok.
    keeps_then (tag_at unchecked rest) _ _ _ (tag_keeps unchecked rest more) (λ tag.
    keeps_then (leaf (codes "group") no_fault tag.0 tag.1) _ _ _ (leaf_keeps (codes "group") no_fault no_fault tag.0 tag.1 more (λ t. goes_on true)) (λ text. goes_on _)))

bad_id_keeps : (from more id : List ℕ) → Keeps same Never more (or_stop (bad_id from id)) (or_stop (bad_id (from ++ more) id))
bad_id_keeps from more id = go (is_message_id id)
  where
    go : (b : Bool) → Keeps same Never more (or_stop (cond b None (Some (refused (length from) BadId)))) (or_stop (cond b None (Some (refused (length (from ++ more)) BadId))))
    go true = goes_on true
    go false = stop_keeps from BadId (λ e. cc)

room_keeps : {more : List ℕ} (b : Bool) (l : NzbLimit) → Keeps same Never more (cond b (Ok true) (Err (limit l))) (cond b (Ok true) (Err (limit l)))
room_keeps true l = goes_on true
room_keeps false l = limited l

segment_keeps : (earlier : ℕ) (more : List ℕ) → KeepsItem more (segment_item earlier)
segment_keeps earlier more ss name from rest =
    keeps_then (only (codes "segment") name from) _ _ _ (only_keeps (codes "segment") name from more) (λ ok.
    keeps_then (cond (nat_lt (earlier + length ss) MOST_SEGMENTS) (Ok true) (Err (limit limits.Segments))) _ _ _ (room_keeps (nat_lt (earlier + length ss) MOST_SEGMENTS) limits.Segments) (λ room.
    keeps_then (tag_at segment_checks rest) _ _ _ (tag_keeps segment_checks rest more) (λ tag.
    keeps_then _ _ _ _ (test_keeps (has_attribute (codes "number") tag.0.attributes) (has_attribute (codes "number") tag.0.attributes) from NoNumber (λ e. cc) refl) (λ has.
    keeps_then (leaf (codes "segment") (bad_id from) tag.0 tag.1) _ _ _ (leaf_keeps (codes "segment") (bad_id from) (bad_id (from ++ more)) tag.0 tag.1 more (λ t. bad_id_keeps from more t)) (λ id. goes_on _)))))

part_keeps : (earlier : ℕ) (more : List ℕ) → KeepsItem more (file_part earlier)
part_keeps earlier more f name from rest = keeps_if (bytes_eq name (codes "groups")) _ _ _ _ _ refl
    (λ a. keeps_then (tag_at unchecked rest) _ _ _ (tag_keeps unchecked rest more) (λ tag. keeps_then (parent group_item (codes "groups") tag.0 f.groups tag.1) _ _ _ (parent_keeps group_item (codes "groups") more (group_keeps more) tag.0 f.groups tag.1) (λ g. goes_on _)))
    (λ a. keeps_if (bytes_eq name (codes "segments")) _ _ _ _ _ refl
    (λ b. keeps_then (tag_at unchecked rest) _ _ _ (tag_keeps unchecked rest more) (λ tag. keeps_then (parent (segment_item earlier) (codes "segments") tag.0 f.segments tag.1) _ _ _ (parent_keeps (segment_item earlier) (codes "segments") more (segment_keeps earlier more) tag.0 f.segments tag.1) (λ s. goes_on _)))
    (λ b. stop_keeps from WrongTag (λ e. cc)))

pub entry_keeps : (more : List ℕ) → KeepsItem more entry_item
entry_keeps more i name from rest = keeps_if (bytes_eq name (codes "head")) _ _ _ _ _ refl
    (λ a. keeps_then (tag_at unchecked rest) _ _ _ (tag_keeps unchecked rest more) (λ tag. keeps_then (parent meta_item (codes "head") tag.0 i.metas tag.1) _ _ _ (parent_keeps meta_item (codes "head") more (meta_keeps more) tag.0 i.metas tag.1) (λ m. goes_on _)))
    (λ a. keeps_if (bytes_eq name (codes "file")) _ _ _ _ _ refl
    (λ b. keeps_then (cond (nat_lt (length i.files) MOST_FILES) (Ok true) (Err (limit limits.Files))) _ _ _ (room_keeps (nat_lt (length i.files) MOST_FILES) limits.Files) (λ room.
    keeps_then (tag_at file_checks rest) _ _ _ (tag_keeps file_checks rest more) (λ tag.
    keeps_then (parent (file_part (segment_count i)) (codes "file") tag.0 _ tag.1) _ _ _ (parent_keeps (file_part (segment_count i)) (codes "file") more (part_keeps (segment_count i) more) tag.0 _ tag.1) (λ f. goes_on _))))
    (λ b. stop_keeps from WrongTag (λ e. cc)))
