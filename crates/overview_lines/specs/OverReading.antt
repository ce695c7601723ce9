-- The reading of a line of an overview on lists, beside what such a line is.
use Rattle.std.specs.Prelude.{◌≡◌, ℕ, ◌-◌, Bool, ◌&&◌, ◌==◌, nat_le, if◌then◌else◌, List, ◌∷◌, length, take, drop, slice_index, Option, Some, None, Result, Ok, Err, MatchResult}
use Rattle.std.specs.List.{list_all, slice_split}
use Rattle.nntp_lines.specs.MessageId.{is_id_byte}
use Rattle.overview_lines.specs.OverLine.{Over, Fields, HasOverFault, IsOverLine, bytes_of, is_plain, is_tab, number_of}
use Rattle.overview_lines.specs.declared.over.LineFields.{LineFields}
use Rattle.overview_lines.specs.declared.over.OverFault.{OverFault}
use Rattle.overview_lines.specs.declared.over.OverFault.TheVariants.{TooLong, TooFewFields, BadNumber, BadText, BadId}

-- the fields as plain texts
abbrev pub fields_in : LineFields → Fields
fields_in f = record { number = f.number.now; subject = f.subject.now; from = f.from.now; date = f.date.now; id = f.id.now; bytes = f.bytes.now }

-- those of all fields that are read
abbrev pub read_fields : List (List ℕ) → Option Fields
read_fields (number ∷ subject ∷ from ∷ date ∷ id ∷ references ∷ bytes ∷ lines ∷ more) =
    Some (record { number = number; subject = subject; from = from; date = date; id = id; bytes = bytes })
read_fields fewer = None

-- the fields of a line, if there are eight or more
unfoldable pub fields_of : List ℕ → Option Fields
fields_of line = read_fields (slice_split is_tab line)

-- what stands between angle brackets, if it is a message-id
abbrev pub is_id : List ℕ → Bool
is_id bytes = nat_le 1 (length bytes) && nat_le (length bytes) 248 && list_all is_id_byte bytes

abbrev pub inner_of : List ℕ → List ℕ
inner_of field = take (length field - 2) (drop 1 field)

unfoldable pub id_of : List ℕ → Option (List ℕ)
id_of field =
    if nat_le 2 (length field) && slice_index field 0 == 60 && slice_index field (length field - 1) == 62 && is_id (inner_of field)
    then Some (inner_of field) else None

abbrev pub with_bytes : Fields → ℕ → List ℕ → Option ℕ → Result Over OverFault
with_bytes f number id None = Err (BadNumber 7)
with_bytes f number id (Some bytes) = Ok (record { number = number; subject = f.subject; from = f.from; date = f.date; id = id; bytes = bytes })

abbrev pub with_id : Fields → ℕ → Option (List ℕ) → Result Over OverFault
with_id f number None = Err BadId
with_id f number (Some id) = with_bytes f number id (bytes_of f.bytes)

abbrev pub with_number : Fields → Option ℕ → Result Over OverFault
with_number f None = Err (BadNumber 1)
with_number f (Some number) =
    if is_plain f.subject then (if is_plain f.from then (if is_plain f.date then with_id f number (id_of f.id) else Err (BadText 4)) else Err (BadText 3)) else Err (BadText 2)

-- what fields say of an article, or what is wrong with them
unfoldable pub over_said : Fields → Result Over OverFault
over_said f = with_number f (number_of f.number)

abbrev pub with_fields : Option Fields → Result Over OverFault
with_fields None = Err TooFewFields
with_fields (Some f) = over_said f

-- what a line says of an article, or what is wrong with it
unfoldable pub over_of : List ℕ → Result Over OverFault
over_of line = if nat_le (length line) 4096 then with_fields (fields_of line) else Err TooLong

-- ---- laws

-- a line says one thing, or one thing is wrong with it first, and that is what is read
abbrev pub OverLineIsRead : Type 0
OverLineIsRead = (line : List ℕ) (over : Over) → IsOverLine line over → over_of line ≡ Ok over

abbrev pub OverFaultIsTold : Type 0
OverFaultIsTold = (line : List ℕ) (fault : OverFault) → HasOverFault line fault → over_of line ≡ Err fault

-- and each line says something, or something is wrong with it
abbrev pub OverLineOrFault : Type 0
OverLineOrFault = (line : List ℕ) → MatchResult (over_of line) (IsOverLine line) (HasOverFault line)
