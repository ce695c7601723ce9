-- The first packet of each id, by its number.
use Rattle.std.specs.Prelude.{◌≡◌, ℕ, ◌<◌, ◌&&◌, Bool, List, [], ◌∷◌, ◌++◌, length, slice_get, Option, Some, None, if◌then◌else◌}
use Rattle.std.specs.Option.{is_some}
use Rattle.std.specs.Map.{lookup}
use Rattle.std.specs.List.{find}
use Rattle.std.specs.Str.{bytes_eq}
use Rattle.par2_check.specs.Bodies.{file_id, is_desc}

-- the number of an id
abbrev pub first_in : List ℕ → List (List ℕ × ℕ) → Option ℕ
first_in id firsts = lookup (bytes_eq id) firsts

-- with a number for an id that has none
abbrev pub with_first : List ℕ → ℕ → List (List ℕ × ℕ) → List (List ℕ × ℕ)
with_first id number firsts = if is_some (first_in id firsts) then firsts else firsts ++ (id, number) ∷ []

-- a packet counts, and speaks of the file of this id
abbrev pub counts_for : (List ℕ → Bool) → List ℕ → List ℕ → Bool
counts_for counts id packet = counts packet && bytes_eq id (file_id packet)

-- a number, if there is one, is that of the packet that is found, and else none is found
abbrev pub IsNumberOf : List (List ℕ) → Option (List ℕ) → Option ℕ → Type 0
IsNumberOf packets found None = found ≡ None
IsNumberOf packets found (Some number) = (number < length packets) × (slice_get packets number ≡ found)

-- of each id, the number is that of the first packet, of these, that counts and speaks of it
abbrev pub AreFirsts : (List ℕ → Bool) → (packets among : List (List ℕ)) → List (List ℕ × ℕ) → Type 0
AreFirsts counts packets among firsts = (id : List ℕ) → IsNumberOf packets (find (counts_for counts id) among) (first_in id firsts)

abbrev pub AreDescs : List ℕ → List (List ℕ) → List (List ℕ × ℕ) → Type 0
AreDescs set packets descs = AreFirsts (is_desc set) packets packets descs
