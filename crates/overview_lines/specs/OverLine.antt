-- A line of an overview, and what it says of an article (RFC 3977, 8.3.2 and 8.4). The limits of length and of numbers are
-- this project's, and so is which fields are read.
use Rattle.std.specs.Prelude.{◌≡◌, ℕ, ◌≤◌, ◌<◌, Bool, not, ◌==◌, nat_le, List, [], ◌∷◌, ◌++◌, length, Option, Some, None, IsSome, IsTrue, IsFalse, All}
use Rattle.std.specs.List.{list_all, join_with_byte}
use Rattle.numbers.specs.Numbers.{decimal_of, within}
use Rattle.nntp_lines.specs.MessageId.{IsMessageId}
use Rattle.overview_lines.specs.declared.over.OverLine.{OverLine}
use Rattle.overview_lines.specs.declared.over.OverFault.{OverFault}
use Rattle.overview_lines.specs.declared.over.OverFault.TheVariants.{TooLong, TooFewFields, BadNumber, BadText, BadId}
use Rattle.limits.specs.declared.TheConstants.{MOST_ARTICLE, MOST_OCTETS}

-- what is read of a line; the message-id is given without its angle brackets
pub record Over : Type 0 where
  pub number : ℕ
  pub subject : List ℕ
  pub from : List ℕ
  pub date : List ℕ
  pub id : List ℕ
  pub bytes : ℕ

-- what a line that was read says
abbrev pub over_in : OverLine → Over
over_in line = record { number = line.number; subject = line.subject.now; from = line.from.now; date = line.date.now; id = line.id; bytes = line.bytes }

-- ---- the fields of a line

-- TAB (9), which stands between two fields
abbrev pub is_tab : ℕ → Bool
is_tab byte = byte == 9

-- a line is these fields, with a TAB between two and none in any
pub record AreFields (line : List ℕ) (fields : List (List ℕ)) : Type 0 where
  pub some : 1 ≤ length fields
  pub joined : line ≡ join_with_byte 9 fields
  pub parted : All (λ field. IsTrue (list_all (λ byte. not (is_tab byte)) field)) fields

-- those of the first eight fields that are read
pub record Fields : Type 0 where
  pub number : List ℕ
  pub subject : List ℕ
  pub from : List ℕ
  pub date : List ℕ
  pub id : List ℕ
  pub bytes : List ℕ

-- the line has eight fields or more, and these are among the first eight; the order is fixed by the standard
pub record HasFields (line : List ℕ) (f : Fields) : Type 0 where
  pub references : List ℕ
  pub lines : List ℕ
  pub more : List (List ℕ)
  pub are : AreFields line (f.number ∷ f.subject ∷ f.from ∷ f.date ∷ f.id ∷ references ∷ f.bytes ∷ lines ∷ more)

-- the number of an article, of up to 16 digits; leading zeros may stand
abbrev pub number_of : List ℕ → Option ℕ
number_of field = within 1 MOST_ARTICLE (decimal_of field)

-- no byte is below 32, as a control character is
abbrev pub is_plain : List ℕ → Bool
is_plain text = list_all (λ byte. nat_le 32 byte) text

-- a message-id in its angle brackets, `<` (60) and `>` (62)
pub record IsIdField (field : List ℕ) (id : List ℕ) : Type 0 where
  pub whole : field ≡ 60 ∷ (id ++ 62 ∷ [])
  pub rule : IsMessageId id

-- how many bytes an article has; where nothing is said it is 0
abbrev pub bytes_of : List ℕ → Option ℕ
bytes_of [] = Some 0
bytes_of (digit ∷ digits) = within 0 MOST_OCTETS (decimal_of (digit ∷ digits))

-- ---- what a line says

-- a line that says this of an article
pub record IsOverLine (line : List ℕ) (over : Over) : Type 0 where
  pub fields : Fields
  pub short : length line ≤ 4096
  pub has : HasFields line fields
  pub number : number_of fields.number ≡ Some over.number
  pub subject : fields.subject ≡ over.subject
  pub from : fields.from ≡ over.from
  pub date : fields.date ≡ over.date
  pub plain_subject : IsTrue (is_plain over.subject)
  pub plain_from : IsTrue (is_plain over.from)
  pub plain_date : IsTrue (is_plain over.date)
  pub id : IsIdField fields.id over.id
  pub bytes : bytes_of fields.bytes ≡ Some over.bytes

-- the first thing that is wrong with a line: each row holds of lines of which no row above it holds
pub data HasOverFault (line : List ℕ) : OverFault → Type 0 where
  too_long : 4096 < length line → HasOverFault line TooLong
  too_few_fields : (fields : List (List ℕ)) → length line ≤ 4096 → AreFields line fields → length fields < 8 → HasOverFault line TooFewFields
  bad_number : (f : Fields) → length line ≤ 4096 → HasFields line f → number_of f.number ≡ None → HasOverFault line (BadNumber 1)
  bad_subject : (f : Fields) → length line ≤ 4096 → HasFields line f → IsSome (number_of f.number) → IsFalse (is_plain f.subject) → HasOverFault line (BadText 2)
  bad_from : (f : Fields) → length line ≤ 4096 → HasFields line f → IsSome (number_of f.number) → IsTrue (is_plain f.subject) → IsFalse (is_plain f.from) →
      HasOverFault line (BadText 3)
  bad_date : (f : Fields) → length line ≤ 4096 → HasFields line f → IsSome (number_of f.number) → IsTrue (is_plain f.subject) → IsTrue (is_plain f.from) →
      IsFalse (is_plain f.date) → HasOverFault line (BadText 4)
  bad_id : (f : Fields) → length line ≤ 4096 → HasFields line f → IsSome (number_of f.number) → IsTrue (is_plain f.subject) → IsTrue (is_plain f.from) →
      IsTrue (is_plain f.date) → ((id : List ℕ) → ¬ IsIdField f.id id) → HasOverFault line BadId
  bad_bytes : (f : Fields) (id : List ℕ) → length line ≤ 4096 → HasFields line f → IsSome (number_of f.number) → IsTrue (is_plain f.subject) → IsTrue (is_plain f.from) →
      IsTrue (is_plain f.date) → IsIdField f.id id → bytes_of f.bytes ≡ None → HasOverFault line (BadNumber 7)

-- a text of a line that was read
pub record IsOverText (text : List ℕ) : Type 0 where
  pub plain : IsTrue (is_plain text)
  pub short : length text ≤ 4096

-- what any line that was read says
pub record IsReadLine (over : Over) : Type 0 where
  pub number_least : 1 ≤ over.number
  pub number_most : over.number ≤ MOST_ARTICLE
  pub subject : IsOverText over.subject
  pub from : IsOverText over.from
  pub date : IsOverText over.date
  pub id : IsMessageId over.id
  pub bytes : over.bytes ≤ MOST_OCTETS
