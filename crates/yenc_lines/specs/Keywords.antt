-- Keyword lines as a reader takes them (yEnc draft 1.3, "Headers and Trailers", and for `part`, `total`, `begin`, `end`
-- and `pcrc32` "Multi-part Encoded Binaries"). The ranges of numbers are this project's; the draft has none.
use Rattle.std.specs.Prelude.{ℕ, ◌-◌, Bool, not, ◌&&◌, nat_le, nat_eq, ◌==◌, if◌then◌else◌, List, [], ◌∷◌, length, take, drop, find, Option, Some, None, Result, Ok, Err, is_some, option_map, option_and_then, codes, bytes_eq}
use Rattle.std.specs.List.{starts_with, slice_split, before_first, after_first, prefix_len, suffix_len, join_with_byte, list_any}
use Rattle.numbers.specs.Numbers.{decimal_of, hex32_of, within, or_zero}
use Rattle.yenc_lines.specs.Name.{has_no_line_end}
use Rattle.yenc_lines.specs.declared.key.Key.{Key}
use Rattle.yenc_lines.specs.declared.key.Key.TheVariants as key
use Rattle.yenc_lines.specs.declared.key.KeyFault.{KeyFault}
use Rattle.yenc_lines.specs.declared.key.KeyFault.TheVariants.{NotIt, NoItem, BadNumber, Repeated, BadName}
use Rattle.yenc_lines.specs.declared.keyword.Begin.{Begin}
use Rattle.yenc_lines.specs.declared.keyword.PartLine.{PartLine}
use Rattle.yenc_lines.specs.declared.keyword.EndLine.{EndLine}
use Rattle.limits.specs.declared.TheConstants.{MOST_FILE_BYTES}

-- ---- keys

-- a key as it stands in a line
abbrev pub key_name : Key → List ℕ
key_name key.Part = codes "part"
key_name key.Total = codes "total"
key_name key.Line = codes "line"
key_name key.Size = codes "size"
key_name key.Name = codes "name"
key_name key.Begin = codes "begin"
key_name key.End = codes "end"
key_name key.Pcrc32 = codes "pcrc32"
key_name key.Crc32 = codes "crc32"

-- two keys are the same where they are written the same
abbrev pub same_key : Key → Key → Bool
same_key a b = bytes_eq (key_name a) (key_name b)

-- the number that a value is, where the key has one in its range
abbrev pub number_of : Key → List ℕ → Option ℕ
number_of key.Part value = within 1 4294967295 (decimal_of value)
number_of key.Total value = within 0 4294967295 (decimal_of value)
number_of key.Line value = within 0 4294967295 (decimal_of value)
number_of key.Size value = within 0 MOST_FILE_BYTES (decimal_of value)
number_of key.Name value = None
number_of key.Begin value = within 1 MOST_FILE_BYTES (decimal_of value)
number_of key.End value = within 0 MOST_FILE_BYTES (decimal_of value)
number_of key.Pcrc32 value = hex32_of value
number_of key.Crc32 value = hex32_of value

-- a value that can be a name: 1 to 255 bytes, and none that ends a line or a text
abbrev pub is_name : List ℕ → Bool
is_name value = nat_le 1 (length value) && nat_le (length value) 255 && has_no_line_end value

-- ---- the items of a line

-- an item: a key, and the text of its value
pub record Item : Type 0 where
  pub key : Key
  pub value : List ℕ

-- the byte between two items
abbrev pub is_space : ℕ → Bool
is_space b = b == 32

-- the byte between a key and its value
abbrev pub is_equals : ℕ → Bool
is_equals b = b == 61

-- without the spaces at both ends
abbrev pub trimmed : List ℕ → List ℕ
trimmed text = let front = drop (prefix_len is_space text) text in take (length front - suffix_len is_space front) front

-- a piece between spaces as an item: a known key, `=`, and the value
abbrev pub item_of : List Key → List ℕ → Option Item
item_of known piece =
    if list_any is_equals piece
    then option_map (λ (k : Key). record { key = k; value = after_first is_equals piece }) (find (λ k. bytes_eq (key_name k) (before_first is_equals piece)) known)
    else None

-- The items of a piece and the pieces behind it. A name runs to the line's end, over the pieces that are left, and no
-- item follows it.
abbrev pub with_item : Option Item → List (List ℕ) → List Item → List Item
with_item None more items = items
with_item (Some item) more items =
    if same_key item.key key.Name
    then record item { value = trimmed (join_with_byte 32 (item.value ∷ more)) } ∷ []
    else item ∷ items

-- the items in the pieces, those with a known key
abbrev pub items_in : List Key → List (List ℕ) → List Item
items_in known [] = []
items_in known (piece ∷ more) = with_item (item_of known piece) more (items_in known more)

-- a kind of keyword line: the word and its space at the front, the keys that it knows, and those that it must have, in order
pub record Kind : Type 0 where
  pub word : List ℕ
  pub known : List Key
  pub required : List Key

-- the header line
abbrev pub ybegin : Kind
ybegin = record { word = codes "=ybegin "; known = key.Part ∷ key.Total ∷ key.Line ∷ key.Size ∷ key.Name ∷ []; required = key.Size ∷ key.Name ∷ [] }

-- the line of one part of several
abbrev pub ypart : Kind
ypart = record { word = codes "=ypart "; known = key.Begin ∷ key.End ∷ []; required = key.Begin ∷ key.End ∷ [] }

-- the trailer line
abbrev pub yend : Kind
yend = record { word = codes "=yend "; known = key.Size ∷ key.Part ∷ key.Pcrc32 ∷ key.Crc32 ∷ []; required = key.Size ∷ [] }

-- the items of a line of this kind, from left to right
abbrev pub items_of : Kind → List ℕ → List Item
items_of kind line = items_in kind.known (slice_split is_space (drop (length kind.word) line))

-- ---- the first fault of a line

-- the first of two that is there
abbrev pub or_else : {A : Type 0} → Option A → Option A → Option A
or_else None other = other
or_else (Some x) other = Some x

-- what is wrong with the value of a key
abbrev pub value_fault : Key → List ℕ → Option KeyFault
value_fault key.Name value = if is_name value then None else Some BadName
value_fault k value = if is_some (number_of k value) then None else Some (BadNumber k)

-- an item's fault behind items of these keys
abbrev pub item_fault : List Key → Item → Option KeyFault
item_fault earlier item = if list_any (same_key item.key) earlier then Some (Repeated item.key) else value_fault item.key item.value

-- the fault of the first item that fails, from left to right
abbrev pub first_item_fault : List Key → List Item → Option KeyFault
first_item_fault earlier [] = None
first_item_fault earlier (item ∷ items) = or_else (item_fault earlier item) (first_item_fault (item.key ∷ earlier) items)

-- the first required key of which there is no item
abbrev pub missing_key : List Key → List Item → Option KeyFault
missing_key required items = option_map NoItem (find (λ k. not (list_any (λ item. same_key k item.key) items)) required)

-- what is wrong with a line of this kind
abbrev pub key_fault_of : Kind → List ℕ → Option KeyFault
key_fault_of kind line =
    if starts_with nat_eq line kind.word
    then or_else (first_item_fault [] (items_of kind line)) (missing_key kind.required (items_of kind line))
    else Some NotIt

-- ---- what a line says

-- the number of the first item with this key
abbrev pub number_in : List Item → Key → Option ℕ
number_in items k = option_and_then (λ item. number_of k item.value) (find (λ item. same_key k item.key) items)

-- the value of the first item that is a name, or nothing
abbrev pub name_in : List Item → List ℕ
name_in [] = []
name_in (item ∷ items) = if same_key item.key key.Name then item.value else name_in items

-- what stands where there is no fault
abbrev pub unless_fault : {A : Type 0} → Option KeyFault → A → Result A KeyFault
unless_fault None x = Ok x
unless_fault (Some f) x = Err f

-- a header line as it is read
unfoldable pub begin_of : List ℕ → Result Begin KeyFault
begin_of line = let items = items_of ybegin line in unless_fault (key_fault_of ybegin line)
    (record { part = number_in items key.Part; total = number_in items key.Total; line = number_in items key.Line; size = or_zero (number_in items key.Size); name = name_in items })

-- a part line as it is read
unfoldable pub part_of : List ℕ → Result PartLine KeyFault
part_of line = let items = items_of ypart line in unless_fault (key_fault_of ypart line)
    (record { begin = or_zero (number_in items key.Begin); end = or_zero (number_in items key.End) })

-- a trailer line as it is read
unfoldable pub end_of : List ℕ → Result EndLine KeyFault
end_of line = let items = items_of yend line in unless_fault (key_fault_of yend line)
    (record { size = or_zero (number_in items key.Size); part = number_in items key.Part; pcrc32 = number_in items key.Pcrc32; crc32 = number_in items key.Crc32 })
