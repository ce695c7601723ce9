-- Worked cases, by evaluation.
use Rattle.std.proofs.Common.{◌≡◌, ℕ, true, List, [], ◌∷◌, ◌++◌, Some, None, refl}
use Rattle.std.specs.Prelude.{codes, replicate}
use Rattle.par2_check.specs.Bodies.{desc_type, ids_of, main_type, slice_count, slices_type, without_zeros}
use Rattle.par2_check.specs.Damage.{is_damaged}
use Rattle.par2_check.specs.Runs.{with_number}
use Rattle.par2_check.specs.Set.{set_in}
use Rattle.par2_check.specs.declared.set.ParFile.{ParFile}
use Rattle.par2_check.specs.declared.set.ParSet.{ParSet}

-- ---- packets, whose digests aren't read any more

abbrev own : List ℕ
own = replicate 16 1

abbrev packet : List ℕ → List ℕ → List ℕ → List ℕ
packet set kind body = replicate 32 0 ++ set ++ kind ++ body

abbrev long : ℕ → List ℕ
long n = n ∷ replicate 7 0

-- a Main with a slice size and ids
abbrev main : ℕ → List ℕ → List ℕ
main slice ids = packet own main_type (long slice ++ 1 ∷ 0 ∷ 0 ∷ 0 ∷ [] ++ ids)

-- a FileDesc of a file of so many bytes
abbrev desc : List ℕ → ℕ → ℕ → List ℕ → List ℕ
desc id digest size name = packet own desc_type (id ++ replicate 16 digest ++ replicate 16 0 ++ long size ++ name)

abbrev slices : List ℕ → List ℕ → List ℕ
slices id entries = packet own slices_type (id ++ entries)

abbrev entry : ℕ → List ℕ
entry digest = replicate 16 digest ++ replicate 4 0

abbrev d : List ℕ
d = replicate 16 2

abbrev e : List ℕ
e = replicate 16 3

abbrev three : List ℕ
three = entry 4 ++ entry 5 ++ entry 6

abbrev file_d : ParFile
file_d = record { name = codes "d"; size = 9; md5 = replicate 16 7; slices = replicate 16 4 ∷ replicate 16 5 ∷ replicate 16 6 ∷ [] }

abbrev set_d : ParSet
set_d = record { slice = 4; files = file_d ∷ [] }

abbrev desc_d : List ℕ
desc_d = desc d 7 9 (codes "d" ++ 0 ∷ 0 ∷ 0 ∷ [])

set_of_a_file : set_in (main 4 d ∷ desc_d ∷ slices d three ∷ []) ≡ Some set_d
set_of_a_file = refl

order_is_free : set_in (slices d three ∷ desc_d ∷ main 4 d ∷ []) ≡ Some set_d
order_is_free = refl

no_main : set_in (desc_d ∷ slices d three ∷ []) ≡ None
no_main = refl

-- a slice size that is no multiple of four
odd_main_is_passed : set_in (main 6 d ∷ main 4 d ∷ desc_d ∷ slices d three ∷ []) ≡ Some set_d
odd_main_is_passed = refl

first_main_counts : set_in (main 4 d ∷ main 8 e ∷ desc_d ∷ slices d three ∷ []) ≡ Some set_d
first_main_counts = refl

first_desc_counts : set_in (main 4 d ∷ desc_d ∷ desc d 8 9 (codes "later") ∷ slices d three ∷ []) ≡ Some set_d
first_desc_counts = refl

other_sets_are_ignored : set_in (main 4 d ∷ packet (replicate 16 9) desc_type (d ++ replicate 32 0 ++ long 9 ++ codes "x") ∷ desc_d ∷ slices d three ∷ []) ≡ Some set_d
other_sets_are_ignored = refl

-- one entry too many, and one too few
right_entries_count : set_in (main 4 d ∷ desc_d ∷ slices d (three ++ entry 8) ∷ slices d (entry 4) ∷ slices d three ∷ []) ≡ Some set_d
right_entries_count = refl

wrong_entries_alone : set_in (main 4 d ∷ desc_d ∷ slices d (three ++ entry 8) ∷ []) ≡ Some (record { slice = 4; files = [] })
wrong_entries_alone = refl

-- an id twice, one beyond the number of files that the Main says, and an empty file
ids_once_each : ids_of (main 4 (e ++ d ++ e ++ d)) ≡ e ∷ d ∷ []
ids_once_each = refl

files_in_order : set_in (main 4 (e ++ d) ∷ desc_d ∷ slices d three ∷ desc e 7 0 (codes "d") ∷ slices e [] ∷ [])
    ≡ Some (record { slice = 4; files = record { name = codes "d"; size = 0; md5 = replicate 16 7; slices = [] } ∷ file_d ∷ [] })
files_in_order = refl

zeros_inside_stay : without_zeros (0 ∷ 1 ∷ 0 ∷ 2 ∷ 0 ∷ 0 ∷ []) ≡ 0 ∷ 1 ∷ 0 ∷ 2 ∷ []
zeros_inside_stay = refl

last_slice_is_shorter : slice_count 4 9 ≡ 3
last_slice_is_shorter = refl

no_slice_of_nothing : slice_count 4 0 ≡ 0
no_slice_of_nothing = refl

-- ---- damage: of `1234567` the slices 2 and 3 lack bytes

second_is_cut : is_damaged 4 file_d (codes "1234567") 2 ≡ true
second_is_cut = refl

third_is_lost : is_damaged 4 file_d (codes "1234567") 3 ≡ true
third_is_lost = refl

-- ---- runs

next_is_joined : with_number 6 ((1, 2) ∷ (4, 5) ∷ []) ≡ (1, 2) ∷ (4, 6) ∷ []
next_is_joined = refl

later_is_apart : with_number 7 ((1, 2) ∷ (4, 5) ∷ []) ≡ (1, 2) ∷ (4, 5) ∷ (7, 7) ∷ []
later_is_apart = refl
