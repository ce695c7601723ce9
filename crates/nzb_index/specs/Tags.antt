-- What the reading of start tags over a slice answers.
use Rattle.std.specs.Prelude.{◌≡◌, ℕ, suc, ◌<◌, ◌≤◌, Bool, if◌then◌else◌, List, [], ◌∷◌, ◌++◌, length, drop, Option, Some, None, Result, Ok, Err, bytes_eq, is_some}
use Rattle.std.specs.Borrow.{Bor}
use Rattle.std.specs.BTreeSet.{BTreeSet, contains_by}
use Rattle.std.specs.Cmp.Lexicographic.{slice_cmp}
use Rattle.std.specs.Ordering.{nat_cmp}
use Rattle.std.specs.Option.{option_map}
use Rattle.nzb_index.specs.declared.error.NzbError.{NzbError}
use Rattle.nzb_index.specs.declared.tags.Element.{Element}
use Rattle.nzb_index.specs.declared.tags.TheConstants.{FEW_NAMES}
use Rattle.nzb_index.specs.declared.tags.Element.TheVariants.{Plain, File, Segment}
use Rattle.nzb_writer.specs.Markup.{Attribute, AttributeChecks, unchecked}
use Rattle.nzb_writer.specs.Nzb.{file_checks, segment_checks}
use Rattle.nzb_index.specs.MarkupReading.{Stop, Tag}
use Rattle.nzb_index.specs.Readers.{Fails}

-- the attributes of these names and values
abbrev pub attributes_of : List (List ℕ) → List (List ℕ) → List Attribute
attributes_of [] values = []
attributes_of (name ∷ names) [] = []
attributes_of (name ∷ names) (value ∷ values) = record { name = name; value = value } ∷ attributes_of names values

-- the place of the first of these names that is this one
abbrev pub place_of : List ℕ → List (List ℕ) → Option ℕ
place_of name [] = None
place_of name (n ∷ names) = if bytes_eq n name then Some 0 else option_map suc (place_of name names)

-- the set has the names behind the first few, and nothing else
abbrev pub HasLater : BTreeSet (Bor (List ℕ)) → List (List ℕ) → Type 0
HasLater later names = (q : List ℕ) → contains_by (λ k. slice_cmp nat_cmp q k.now) later ≡ is_some (place_of q (drop FEW_NAMES names))

-- which values an element's attributes may have
abbrev pub checks_of : Element → AttributeChecks
checks_of Plain = unchecked
checks_of File = file_checks
checks_of Segment = segment_checks

-- one attribute more
abbrev pub ReadsAttribute : List ℕ → ℕ → List (List ℕ) → List (List ℕ) → List (List ℕ) → List (List ℕ) → Result ℕ NzbError → Result (Attribute × List ℕ) Stop → Type 0
ReadsAttribute text at names values new_names new_values (Ok end) read = (at < end) × (end ≤ length text)
    × ((a : Attribute) × (new_names ≡ names ++ a.name ∷ []) × (new_values ≡ values ++ a.value ∷ []) × (read ≡ Ok (a, drop end text)))
ReadsAttribute text at names values new_names new_values (Err e) read = Fails text e read

-- a start tag: whether it is the end tag too, and the place behind it
abbrev pub ReadsTag : List ℕ → ℕ → List (List ℕ) → List (List ℕ) → Result (Bool × ℕ) NzbError → Result (Tag × List ℕ) Stop → Type 0
ReadsTag text at names values (Ok (closed, end)) read = (at < end) × (end ≤ length text) × (length names ≡ length values) × (read ≡ Ok (record { attributes = attributes_of names values; closed = closed }, drop end text))
ReadsTag text at names values (Err e) read = Fails text e read
