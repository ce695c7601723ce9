-- The numbers of a line's items, taken from left to right up to the first item that fails.
use Rattle.std.specs.Prelude.{ℕ, if◌then◌else◌, List, [], ◌∷◌, replicate, Option, Some, None, Result, Ok, Err, is_some, not, filter, find, option_map, slice_index_or, slice_set}
use Rattle.numbers.specs.Numbers.{or_zero}
use Rattle.yenc_lines.specs.declared.key.Key.{Key}
use Rattle.yenc_lines.specs.declared.key.Key.TheVariants as key
use Rattle.yenc_lines.specs.declared.key.KeyFault.{KeyFault}
use Rattle.yenc_lines.specs.declared.key.KeyFault.TheVariants.{BadNumber, NoItem, Repeated}
use Rattle.yenc_lines.specs.declared.keyword.Begin.{Begin}
use Rattle.yenc_lines.specs.Keywords.{Item, number_of, same_key, unless_fault}

-- the place of a key's number
abbrev pub place : Key → ℕ
place key.Part = 0
place key.Total = 1
place key.Line = 2
place key.Size = 3
place key.Name = 4
place key.Begin = 5
place key.End = 6
place key.Pcrc32 = 7
place key.Crc32 = 8

-- the number of a key, where it was given
abbrev pub given : List (Option ℕ) → Key → Option ℕ
given numbers k = slice_index_or numbers (place k) None

-- before the first item
abbrev pub nothing : List (Option ℕ)
nothing = replicate 9 None

-- what is wrong with an item behind those that gave these numbers
abbrev pub put_fault : List (Option ℕ) → Key → List ℕ → Option KeyFault
put_fault numbers k value = if is_some (given numbers k) then Some (Repeated k) else (if is_some (number_of k value) then None else Some (BadNumber k))

-- what stands where there is no fault
abbrev pub unless : {A : Type 0} → Option KeyFault → Result A KeyFault → Result A KeyFault
unless None more = more
unless (Some fault) more = Err fault

-- the numbers with that of one more item
abbrev pub with_number : List (Option ℕ) → Item → List (Option ℕ)
with_number numbers item = slice_set numbers (place item.key) (number_of item.key item.value)

-- the numbers behind a piece, which may be no item
abbrev pub taken : List (Option ℕ) → Option Item → Result (List (Option ℕ)) KeyFault
taken numbers None = Ok numbers
taken numbers (Some item) = unless (put_fault numbers item.key item.value) (Ok (with_number numbers item))

-- the numbers behind all items
abbrev pub gathered : List (Option ℕ) → List Item → Result (List (Option ℕ)) KeyFault
gathered numbers [] = Ok numbers
gathered numbers (item ∷ items) = unless (put_fault numbers item.key item.value) (gathered (with_number numbers item) items)

-- the first required key that no number was given for
abbrev pub missing_in : List Key → List (Option ℕ) → Option KeyFault
missing_in required numbers = option_map NoItem (find (λ k. not (is_some (given numbers k))) required)

-- the items that are no name
abbrev pub plain_of : List Item → List Item
plain_of items = filter (λ item. not (same_key item.key key.Name)) items

-- the text of the name, where there is one
abbrev pub named_of : List Item → Option (List ℕ)
named_of [] = None
named_of (item ∷ items) = if same_key item.key key.Name then Some item.value else named_of items

-- a header line with this name, where its size was given
abbrev pub begin_with : List (Option ℕ) → List ℕ → Result Begin KeyFault
begin_with numbers name = unless_fault (missing_in (key.Size ∷ []) numbers)
    (record { part = given numbers key.Part; total = given numbers key.Total; line = given numbers key.Line; size = or_zero (given numbers key.Size); name = name })
