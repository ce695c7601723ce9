-- Where a form of the grammar breaks off: behind a front of it stands a byte that cannot stand there. The text from that
-- byte on is `here`.
use Rattle.std.specs.Prelude.{◌≡◌, ◌≢◌, ℕ, Bool, not, ◌||◌, ◌==◌, List, [], ◌∷◌, ◌++◌, codes, IsTrue, IsFalse}
use Rattle.std.specs.List.{list_any}
use Rattle.nzb_writer.specs.Markup.{is_white, is_control, is_name_byte, IsTextBytes, IsMarkupName, IsWhite}
use Rattle.nzb_writer.specs.Nzb.{IsDocumentType}

-- a byte stands in front, and is none of these
pub record OtherByte (allowed : ℕ → Bool) (here : List ℕ) : Type 0 where
  pub byte : ℕ
  pub more : List ℕ
  pub here_is : here ≡ byte ∷ more
  pub is_other : IsFalse (allowed byte)

-- a front of the word stands here, and behind it another byte than the word's next
pub record BrokenWord (word rest here : List ℕ) : Type 0 where
  pub begun : List ℕ
  pub next : ℕ
  pub missing : List ℕ
  pub word_is : word ≡ begun ++ next ∷ missing
  pub rest_is : rest ≡ begun ++ here
  pub other : OtherByte (λ b. next == b) here

-- a control byte stands before the first of the word
pub record BrokenInside (word rest here : List ℕ) : Type 0 where
  pub inside : List ℕ
  pub rest_is : rest ≡ inside ++ here
  pub is_text : IsTextBytes inside
  pub not_ended : (a b : List ℕ) → inside ≡ a ++ word ++ b → ⊥
  pub control : OtherByte (λ b. not (is_control b)) here

-- ---- comments, the XML declaration and the document type, from their `<` on

pub data BrokenComment (from : List ℕ) : List ℕ → Type 0 where
  second_hyphen : (inside here : List ℕ) → from ≡ codes "<!-" ++ inside → BrokenWord (codes "<!--") from here → BrokenComment from here
  in_comment : (inside here : List ℕ) → from ≡ codes "<!--" ++ inside → BrokenInside (codes "-->") inside here → BrokenComment from here

-- where white and comments alone may stand
pub data BrokenBetween (from : List ℕ) : List ℕ → Type 0 where
  first_hyphen : (here : List ℕ) → from ≡ codes "<!" ++ here → OtherByte (λ b. 45 == b) here → BrokenBetween from here
  comment_between : (here : List ℕ) → BrokenComment from here → BrokenBetween from here

pub data BrokenDeclaration (from : List ℕ) : List ℕ → Type 0 where
  declaration_name : (inside here : List ℕ) → from ≡ codes "<?" ++ inside → BrokenWord (codes "<?xml") from here → BrokenDeclaration from here
  no_white_behind_xml : (here : List ℕ) → from ≡ codes "<?xml" ++ here → OtherByte is_white here → BrokenDeclaration from here
  in_declaration : (w : ℕ) (inside here : List ℕ) → from ≡ codes "<?xml" ++ w ∷ inside → IsTrue (is_white w) → BrokenInside (codes "?>") inside here → BrokenDeclaration from here

-- a document type that is left open
abbrev pub OpensType : List ℕ → Type 0
OpensType text = (w : ℕ) × (inside : List ℕ) × IsTrue (is_white w) × IsFalse (list_any (λ b. b == 62 || b == 91 || is_control b) inside) × (text ≡ codes "<!DOCTYPE" ++ w ∷ inside)

-- where a comment or a document type may stand
pub data BrokenType (from : List ℕ) : List ℕ → Type 0 where
  comment_before : (here : List ℕ) → BrokenComment from here → BrokenType from here
  type_name : (rest here : List ℕ) → from ≡ codes "<!" ++ rest → OtherByte (λ b. 45 == b) rest → BrokenWord (codes "DOCTYPE") rest here → BrokenType from here
  no_white_behind_type : (here : List ℕ) → from ≡ codes "<!DOCTYPE" ++ here → OtherByte is_white here → BrokenType from here
  in_type : (opened here : List ℕ) → from ≡ opened ++ here → OpensType opened → OtherByte (λ b. not (is_control b)) here → BrokenType from here
  behind_type : (document_type left here : List ℕ) → from ≡ document_type ++ left → document_type ≢ [] → IsDocumentType document_type → BrokenBetween left here → BrokenType from here

-- ---- names and end tags

-- a name stands in front, and has ended: a byte that no name has is behind it
pub record NameEnds (text name : List ℕ) : Type 0 where
  pub byte : ℕ
  pub more : List ℕ
  pub text_is : text ≡ name ++ byte ∷ more
  pub is_name : IsMarkupName name
  pub is_other : IsFalse (is_name_byte byte)

-- a start tag that may have any name
abbrev pub OpensWith : List ℕ → List ℕ → Type 0
OpensWith here name = (inside : List ℕ) × (here ≡ codes "<" ++ inside) × NameEnds inside name

-- an end tag that may have any name
abbrev pub ClosesWith : List ℕ → List ℕ → Type 0
ClosesWith here name = (inside : List ℕ) × (here ≡ codes "</" ++ inside) × NameEnds inside name

-- an end tag without a name
pub record NoEndName (from here : List ℕ) : Type 0 where
  pub from_is : from ≡ codes "</" ++ here
  pub other : OtherByte is_name_byte here

-- an end tag of this name that has more than white behind the name
pub record OpenEnd (name from here : List ℕ) : Type 0 where
  pub white : List ℕ
  pub closes : ClosesWith from name
  pub from_is : from ≡ codes "</" ++ name ++ white ++ here
  pub white_is : IsWhite white
  pub other : OtherByte (λ b. is_white b || 62 == b) here

-- behind the root, and white and comments
pub data BrokenEnd (from : List ℕ) : List ℕ → Type 0 where
  in_end : (here : List ℕ) → BrokenBetween from here → BrokenEnd from here
  no_comment : (here : List ℕ) → OtherByte is_white from → BrokenWord (codes "<!--") from here → BrokenEnd from here
