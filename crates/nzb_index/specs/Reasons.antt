-- What an NZB text is refused for: the table of the reasons but `Ended`, by elements. The text from the told place on is
-- `here`, and everything in front of it is of the grammar. `Ended` is told by the text's end alone. A limit that is passed
-- earlier comes first.
use Rattle.std.specs.Prelude.{◌≡◌, ◌≢◌, ℕ, ◌-◌, ◌≤◌, Bool, true, false, not, ◌||◌, ◌==◌, List, [], ◌∷◌, ◌++◌, length, ◌⊎◌, codes, IsTrue, IsFalse}
use Rattle.std.specs.List.{list_any}
use Rattle.nzb_index.specs.declared.error.NzbReason.{NzbReason}
use Rattle.nzb_index.specs.declared.error.NzbReason.TheVariants.{Ended, Unexpected, BadReference, WrongTag, DoubleAttribute, NoNumber, BadNumber, BadId, Subset}
use Rattle.nzb_writer.specs.Markup.{is_white, is_control, is_name_byte, is_message_id, IsWhite, IsMarkupName, IsBetween, IsReference, IsValue, IsElementText, Attribute, IsAttribute, AreAttributes, AreElements, has_attribute, AttributeChecks, unchecked}
use Rattle.nzb_writer.specs.Nzb.{segment_checks, file_checks, IsMeta, IsGroup, IsSegment, Lists, IsEntry, IsRoot, IsMark, IsDeclaration, IsDocumentType}
use Rattle.nzb_writer.specs.declared.index.Index.{Index}
use Rattle.nzb_index.specs.Broken.{OtherByte, BrokenWord, BrokenInside, BrokenBetween, BrokenDeclaration, BrokenType, BrokenEnd, NameEnds, OpensWith, ClosesWith, NoEndName, OpenEnd, OpensType}
use Rattle.nzb_index.specs.declared.error.NzbLimit.{NzbLimit}
use Rattle.nzb_index.specs.NzbReading.{refused_at, past}
use Rattle.nzb_index.specs.Refusal.{IsTextRefused, IsCutShort}
use Rattle.limits.specs.declared.TheConstants.{MOST_TEXT_BYTES}

-- what a rest of a text is refused for: the text from the told place on, and the reason
abbrev pub Fault : Type 1
Fault = List ℕ → NzbReason → Type 0

-- ---- tags

-- an `&` at which no reference stands, whatever follows
pub record NoReference (here : List ℕ) : Type 0 where
  pub rest : List ℕ
  pub here_is : here ≡ 38 ∷ rest
  pub none : (more reference bytes behind : List ℕ) → here ++ more ≡ reference ++ behind → IsReference reference bytes → ⊥

-- a byte in a value, which it neither is nor stands for
pub data ValueFault (here : List ℕ) : NzbReason → Type 0 where
  no_reference : NoReference here → ValueFault here BadReference
  no_value_byte : OtherByte (λ b. not (b == 60 || is_control b)) here → ValueFault here Unexpected

-- an attribute that stands behind these of its tag
pub data AttributeFault (checks : AttributeChecks) (earlier : List Attribute) (rest : List ℕ) : List ℕ → NzbReason → Type 0 where
  second_of_a_name : (white here name : List ℕ) → rest ≡ white ++ here → IsWhite white → white ≢ [] → NameEnds here name → IsTrue (has_attribute name earlier) →
      AttributeFault checks earlier rest here DoubleAttribute
  fault_in_value : (white name behind_name behind_equals raw bytes here : List ℕ) (quote : ℕ) (reason : NzbReason) → rest ≡ white ++ (name ++ (behind_name ++ codes "=" ++ (behind_equals ++ quote ∷ (raw ++ here)))) → IsWhite white → white ≢ [] → IsMarkupName name →
      IsFalse (has_attribute name earlier) → IsWhite behind_name → IsWhite behind_equals → (quote ≡ 34) ⊎ (quote ≡ 39) → IsFalse (list_any (λ b. b == quote || b == 60) raw) → IsValue raw bytes → ValueFault here reason →
      AttributeFault checks earlier rest here reason
  value_not_allowed : (white one behind tail : List ℕ) (a : Attribute) → rest ≡ white ++ (one ++ behind) → IsWhite white → one ≡ a.name ++ tail → IsAttribute (white ++ one) a → IsFalse (has_attribute a.name earlier) →
      IsFalse (checks a.name a.value) → AttributeFault checks earlier rest (one ++ behind) BadNumber
  -- directly behind the tag's name or the attribute before
  no_white : (here : List ℕ) → rest ≡ here → OtherByte (λ b. is_white b || 62 == b || 47 == b) here → (earlier ≡ [] → OtherByte is_name_byte here) → AttributeFault checks earlier rest here Unexpected
  no_attribute : (white here : List ℕ) → rest ≡ white ++ here → IsWhite white → white ≢ [] → OtherByte (λ b. is_white b || 62 == b || 47 == b || is_name_byte b) here → AttributeFault checks earlier rest here Unexpected
  no_close : (white from inside here : List ℕ) → rest ≡ white ++ from → IsWhite white → from ≡ codes "/" ++ inside → BrokenWord (codes "/>") from here → AttributeFault checks earlier rest here Unexpected
  no_equals : (white from name behind here : List ℕ) → rest ≡ white ++ from → IsWhite white → white ≢ [] → NameEnds from name → IsFalse (has_attribute name earlier) → from ≡ name ++ (behind ++ here) → IsWhite behind →
      OtherByte (λ b. is_white b || 61 == b) here → AttributeFault checks earlier rest here Unexpected
  no_quote : (white name behind_name behind_equals here : List ℕ) → rest ≡ white ++ (name ++ (behind_name ++ codes "=" ++ (behind_equals ++ here))) → IsWhite white → white ≢ [] → IsMarkupName name →
      IsFalse (has_attribute name earlier) → IsWhite behind_name → IsWhite behind_equals → OtherByte (λ b. is_white b || (b == 34 || b == 39)) here → AttributeFault checks earlier rest here Unexpected

-- a start tag, behind its name
pub record TagFault (checks : AttributeChecks) (rest here : List ℕ) (reason : NzbReason) : Type 0 where
  pub attribute_text : List ℕ
  pub attributes : List Attribute
  pub left : List ℕ
  pub rest_is : rest ≡ attribute_text ++ left
  pub are_attributes : AreAttributes checks [] attribute_text attributes
  pub fault : AttributeFault checks attributes left here reason

-- how a start tag ends: it may be the end tag too
abbrev pub ending : Bool → List ℕ
ending true = codes "/>"
ending false = codes ">"

-- a whole start tag
pub record StartTag (checks : AttributeChecks) (name from : List ℕ) (attributes : List Attribute) (closed : Bool) (rest : List ℕ) : Type 0 where
  pub attribute_text : List ℕ
  pub white : List ℕ
  pub from_is : from ≡ codes "<" ++ name ++ attribute_text ++ white ++ ending closed ++ rest
  pub are_attributes : AreAttributes checks [] attribute_text attributes
  pub is_white : IsWhite white

-- ---- elements, from their `<` on

-- behind a text so far, from its end on
pub data TextStop (from : List ℕ) : List ℕ → NzbReason → Type 0 where
  tag_in_text : (other : List ℕ) → OpensWith from other → TextStop from from WrongTag
  no_reference_in_text : NoReference from → TextStop from from BadReference
  control_in_text : OtherByte (λ b. not (is_control b)) from → TextStop from from Unexpected
  no_comment_in_text : (inside rest here : List ℕ) → from ≡ codes "<" ++ rest → rest ≡ codes "!" ++ inside → BrokenWord (codes "!--") rest here → TextStop from here Unexpected
  comment_in_text : (inside here : List ℕ) → from ≡ codes "<!--" ++ inside → BrokenInside (codes "-->") inside here → TextStop from here Unexpected
  no_name_in_text : (here : List ℕ) → from ≡ codes "<" ++ here → OtherByte (λ b. is_name_byte b || 47 == b || 33 == b) here → TextStop from here Unexpected

-- a text between the tags of an element
pub data TextFault (name rest : List ℕ) : List ℕ → NzbReason → Type 0 where
  in_text : (inside bytes from here : List ℕ) (reason : NzbReason) → rest ≡ inside ++ from → IsElementText inside bytes → TextStop from here reason → TextFault name rest here reason
  end_in_text : (inside bytes here other : List ℕ) → rest ≡ inside ++ here → IsElementText inside bytes → ClosesWith here other → other ≢ name → TextFault name rest here WrongTag
  no_end_in_text : (inside bytes from here : List ℕ) → rest ≡ inside ++ from → IsElementText inside bytes → NoEndName from here → TextFault name rest here Unexpected

-- elements between the tags of an element
pub data ContentFault {A : Type 0} (IsOne : List ℕ → A → Type 0) (OneFault : List ℕ → Fault) (name rest : List ℕ) : List ℕ → NzbReason → Type 0 where
  in_one : (front from here : List ℕ) (reason : NzbReason) (xs : List A) → rest ≡ front ++ from → AreElements IsOne front xs → OneFault from here reason → ContentFault IsOne OneFault name rest here reason
  end_in_content : (front here other : List ℕ) (xs : List A) → rest ≡ front ++ here → AreElements IsOne front xs → ClosesWith here other → other ≢ name → ContentFault IsOne OneFault name rest here WrongTag
  in_between : (front from here : List ℕ) (xs : List A) → rest ≡ front ++ from → AreElements IsOne front xs → BrokenBetween from here → ContentFault IsOne OneFault name rest here Unexpected
  no_tag : (front here : List ℕ) (xs : List A) → rest ≡ front ++ here → AreElements IsOne front xs → OtherByte (λ b. is_white b || 60 == b) here → ContentFault IsOne OneFault name rest here Unexpected
  no_name : (front here : List ℕ) (xs : List A) → rest ≡ front ++ (codes "<" ++ here) → AreElements IsOne front xs → OtherByte (λ b. is_name_byte b || 47 == b || 33 == b) here → ContentFault IsOne OneFault name rest here Unexpected
  no_end_name : (front from here : List ℕ) (xs : List A) → rest ≡ front ++ from → AreElements IsOne front xs → NoEndName from here → ContentFault IsOne OneFault name rest here Unexpected
  open_end : (front from here : List ℕ) (xs : List A) → rest ≡ front ++ from → AreElements IsOne front xs → OpenEnd name from here → ContentFault IsOne OneFault name rest here Unexpected

-- an element of this name, with a text in it
pub data LeafFault (name from : List ℕ) : List ℕ → NzbReason → Type 0 where
  leaf_name : (other : List ℕ) → OpensWith from other → other ≢ name → LeafFault name from from WrongTag
  leaf_tag : (rest here : List ℕ) (reason : NzbReason) → from ≡ codes "<" ++ name ++ rest → TagFault unchecked rest here reason → LeafFault name from here reason
  leaf_text : (attributes : List Attribute) (rest here : List ℕ) (reason : NzbReason) → StartTag unchecked name from attributes false rest → TextFault name rest here reason → LeafFault name from here reason
  leaf_end : (attributes : List Attribute) (rest inside bytes end here : List ℕ) → StartTag unchecked name from attributes false rest → rest ≡ inside ++ end → IsElementText inside bytes → OpenEnd name end here → LeafFault name from here Unexpected

-- a segment: its number is judged at its start tag's end, and its message-id at its end tag's name, or at `/>`
pub data SegmentFault (from : List ℕ) : List ℕ → NzbReason → Type 0 where
  segment_name : (other : List ℕ) → OpensWith from other → other ≢ codes "segment" → SegmentFault from from WrongTag
  segment_tag : (rest here : List ℕ) (reason : NzbReason) → from ≡ codes "<segment" ++ rest → TagFault segment_checks rest here reason → SegmentFault from here reason
  no_number : (attributes : List Attribute) (closed : Bool) (rest : List ℕ) → StartTag segment_checks (codes "segment") from attributes closed rest → IsFalse (has_attribute (codes "number") attributes) → SegmentFault from from NoNumber
  segment_text : (attributes : List Attribute) (rest here : List ℕ) (reason : NzbReason) → StartTag segment_checks (codes "segment") from attributes false rest → IsTrue (has_attribute (codes "number") attributes) →
      TextFault (codes "segment") rest here reason → SegmentFault from here reason
  no_id : (attributes : List Attribute) (rest : List ℕ) → StartTag segment_checks (codes "segment") from attributes true rest → IsTrue (has_attribute (codes "number") attributes) → SegmentFault from from BadId
  other_id : (attributes : List Attribute) (rest inside id end : List ℕ) → StartTag segment_checks (codes "segment") from attributes false rest → IsTrue (has_attribute (codes "number") attributes) →
      rest ≡ inside ++ end → IsElementText inside id → ClosesWith end (codes "segment") → IsFalse (is_message_id id) → SegmentFault from from BadId
  segment_end : (attributes : List Attribute) (rest inside id end here : List ℕ) → StartTag segment_checks (codes "segment") from attributes false rest → IsTrue (has_attribute (codes "number") attributes) →
      rest ≡ inside ++ end → IsElementText inside id → IsTrue (is_message_id id) → OpenEnd (codes "segment") end here → SegmentFault from here Unexpected

-- an element with elements in it, whose name is the one wanted
pub data ParentFault {A : Type 0} (checks : AttributeChecks) (IsOne : List ℕ → A → Type 0) (OneFault : List ℕ → Fault) (name from : List ℕ) : List ℕ → NzbReason → Type 0 where
  parent_tag : (rest here : List ℕ) (reason : NzbReason) → from ≡ codes "<" ++ name ++ rest → TagFault checks rest here reason → ParentFault checks IsOne OneFault name from here reason
  parent_content : (attributes : List Attribute) (rest here : List ℕ) (reason : NzbReason) → StartTag checks name from attributes false rest → ContentFault IsOne OneFault name rest here reason → ParentFault checks IsOne OneFault name from here reason

-- what stands in a file
pub data ListedFault (from : List ℕ) : List ℕ → NzbReason → Type 0 where
  listed_name : (other : List ℕ) → OpensWith from other → other ≢ codes "groups" → other ≢ codes "segments" → ListedFault from from WrongTag
  in_groups : (here : List ℕ) (reason : NzbReason) → ParentFault unchecked IsGroup (LeafFault (codes "group")) (codes "groups") from here reason → ListedFault from here reason
  in_segments : (here : List ℕ) (reason : NzbReason) → ParentFault unchecked IsSegment SegmentFault (codes "segments") from here reason → ListedFault from here reason

-- what stands in the root
pub data EntryFault (from : List ℕ) : List ℕ → NzbReason → Type 0 where
  entry_name : (other : List ℕ) → OpensWith from other → other ≢ codes "head" → other ≢ codes "file" → EntryFault from from WrongTag
  in_head : (here : List ℕ) (reason : NzbReason) → ParentFault unchecked IsMeta (LeafFault (codes "meta")) (codes "head") from here reason → EntryFault from here reason
  in_file : (here : List ℕ) (reason : NzbReason) → ParentFault file_checks Lists ListedFault (codes "file") from here reason → EntryFault from here reason

pub data RootFault (from : List ℕ) : List ℕ → NzbReason → Type 0 where
  root_name : (other : List ℕ) → OpensWith from other → other ≢ codes "nzb" → RootFault from from WrongTag
  root_inside : (here : List ℕ) (reason : NzbReason) → ParentFault unchecked IsEntry EntryFault (codes "nzb") from here reason → RootFault from here reason

-- ---- the whole text

pub data NzbFault (text : List ℕ) : List ℕ → NzbReason → Type 0 where
  in_nzb : (mark declaration between document_type from here : List ℕ) (reason : NzbReason) → text ≡ mark ++ declaration ++ between ++ document_type ++ from → IsMark mark → IsDeclaration declaration → IsBetween between →
      IsDocumentType document_type → RootFault from here reason → NzbFault text here reason
  subset : (mark declaration between opened more : List ℕ) → text ≡ mark ++ declaration ++ between ++ opened ++ 91 ∷ more → IsMark mark → IsDeclaration declaration → IsBetween between → OpensType opened →
      NzbFault text (91 ∷ more) Subset
  in_mark : (inside here : List ℕ) → text ≡ 0xEF ∷ inside → BrokenWord (0xEF ∷ 0xBB ∷ 0xBF ∷ []) text here → NzbFault text here Unexpected
  in_xml : (mark from here : List ℕ) → text ≡ mark ++ from → IsMark mark → BrokenDeclaration from here → NzbFault text here Unexpected
  before_root : (mark declaration between from here : List ℕ) → text ≡ mark ++ declaration ++ between ++ from → IsMark mark → IsDeclaration declaration → IsBetween between → BrokenType from here → NzbFault text here Unexpected
  -- at the text's beginning the mark and the declaration may stand too
  no_root : (mark declaration between document_type here : List ℕ) → text ≡ mark ++ declaration ++ between ++ document_type ++ here → IsMark mark → IsDeclaration declaration → IsBetween between →
      IsDocumentType document_type → OtherByte (λ b. is_white b || 60 == b) here → (text ≡ here → OtherByte (λ b. 0xEF == b) here) → NzbFault text here Unexpected
  no_root_name : (mark declaration between document_type from here : List ℕ) → text ≡ mark ++ declaration ++ between ++ document_type ++ from → IsMark mark → IsDeclaration declaration → IsBetween between →
      IsDocumentType document_type → from ≡ codes "<" ++ here → OtherByte (λ b. is_name_byte b || 33 == b) here → (text ≡ mark ++ from → OtherByte (λ b. 63 == b) here) → NzbFault text here Unexpected
  behind_root : (mark declaration between document_type root behind from here : List ℕ) (index : Index) → text ≡ mark ++ declaration ++ between ++ document_type ++ root ++ behind ++ from → IsMark mark → IsDeclaration declaration →
      IsBetween between → IsDocumentType document_type → IsRoot root index → IsBetween behind → BrokenEnd from here → NzbFault text here Unexpected

-- the reason, with the place of what it tells, from 0
abbrev pub HasReason : List ℕ → ℕ → NzbReason → Type 0
HasReason text place reason = (here : List ℕ) × (place ≡ length text - length here) × NzbFault text here reason

-- ---- the laws

-- what is refused by the text's end is told at its length
abbrev pub EndedAtEnd : Type 0
EndedAtEnd = (text : List ℕ) (place : ℕ) → IsTextRefused text (refused_at place Ended) → place ≡ length text

-- what is refused for this reason has it at the place that is told
abbrev pub IsOneOf : NzbReason → Type 0
IsOneOf reason = (text : List ℕ) (place : ℕ) → IsTextRefused text (refused_at place reason) → HasReason text place reason

-- A text that isn't too long and has a reason is refused for it, or for a limit that it passes before. What cannot become a
-- reference is cut short only where it runs up to the text's end.
abbrev pub ReasonsAreTold : Type 0
ReasonsAreTold = (text : List ℕ) (place : ℕ) (reason : NzbReason) → length text ≤ MOST_TEXT_BYTES → HasReason text place reason →
    IsTextRefused text (refused_at place reason) ⊎ ((passed : NzbLimit) × IsTextRefused text (past passed)) ⊎ ((reason ≡ BadReference) × IsCutShort text)
