-- The set of a PAR 2.0 text.
use Rattle.std.specs.Prelude.{All, true, length, ◌≡◌, ℕ, ◌==◌, ◌&&◌, Bool, false, List, Option, Some, None, Result, Ok, Err, ⊤}
use Rattle.std.specs.List.{filter_map, find}
use Rattle.std.specs.Option.{option_and_then, option_map}
use Rattle.par2_check.specs.Packets.{ArePackets}
use Rattle.par2_check.specs.Bodies.{entries_of, entry_count, file_id, ids_of, is_desc, is_main, is_slice_size, is_slices, md5_of, name_of, set_id, size_of, slice_count, slice_of}
use Rattle.par2_check.specs.Firsts.{AreFirsts, counts_for}
use Rattle.par2_check.specs.declared.set.ParFile.{ParFile}
use Rattle.par2_check.specs.declared.set.ParSet.{ParSet}
use Rattle.par2_check.specs.declared.set.ParError.{ParError}
use Rattle.par2_check.specs.declared.set.ParError.TheVariants.{Memory, NoMain}

-- the first FileDesc of an id
abbrev pub desc_of : List ℕ → List (List ℕ) → List ℕ → Option (List ℕ)
desc_of set packets id = find (counts_for (is_desc set) id) packets

-- an IFSC has so many entries
abbrev pub has_entries : List ℕ → ℕ → List ℕ → Bool
has_entries set count packet = is_slices set packet && entry_count packet == count

-- the first IFSC of an id that has so many entries
abbrev pub slices_of : List ℕ → ℕ → List (List ℕ) → List ℕ → Option (List ℕ)
slices_of set count packets id = find (counts_for (has_entries set count) id) packets

-- the file of a FileDesc and an IFSC
abbrev pub par_file : List ℕ → List ℕ → ParFile
par_file desc slices = record { name = name_of desc; size = size_of desc; md5 = md5_of desc; slices = entries_of slices }

-- the file of an id, where it has a FileDesc, and an IFSC with as many entries as the file has slices
abbrev pub file_of : ℕ → List ℕ → List (List ℕ) → List ℕ → Option ParFile
file_of slice set packets id =
    option_and_then (λ desc. option_map (par_file desc) (slices_of set (slice_count slice (size_of desc)) packets id)) (desc_of set packets id)

-- the files of the set of a Main, in the order of its ids
abbrev pub files_of : List ℕ → List (List ℕ) → List ParFile
files_of main packets = filter_map (file_of (slice_of main) (set_id main) packets) (ids_of main)

abbrev pub set_of_main : List (List ℕ) → List ℕ → ParSet
set_of_main packets main = record { slice = slice_of main; files = files_of main packets }

-- the set of packets: that of the first Main that counts
abbrev pub set_in : List (List ℕ) → Option ParSet
set_in packets = option_map (set_of_main packets) (find is_main packets)

-- the set of a text, or that it has none
pub record IsSetOf (text : List ℕ) (set : Option ParSet) : Type 0 where
  pub packets : List (List ℕ)
  pub are : ArePackets text packets
  pub set_is : set_in packets ≡ set

-- how the reading of a text ends
abbrev pub SetEnds : List ℕ → Result ParSet ParError → Type 0
SetEnds text (Ok set) = IsSetOf text (Some set)
SetEnds text (Err NoMain) = IsSetOf text None
SetEnds text (Err Memory) = ⊤

-- slices may have this size, and a file has an MD5 for each of them
abbrev pub fits : ℕ → ParFile → Bool
fits slice file = is_slice_size slice && length file.slices == slice_count slice file.size

-- each file of a set has an MD5 for each of its slices
abbrev pub AreFitting : ParSet → Type 0
AreFitting set = All (λ file. fits set.slice file ≡ true) set.files

-- ---- as it is read

-- an IFSC has as many entries as the file of a FileDesc has slices
abbrev pub has_slices : ℕ → Option (List ℕ) → List ℕ → Bool
has_slices slice None packet = false
has_slices slice (Some desc) packet = entry_count packet == slice_count slice (size_of desc)

-- an IFSC has as many entries as the file of its id has slices
abbrev pub is_wanted : ℕ → List ℕ → List (List ℕ) → List ℕ → Bool
is_wanted slice set packets packet = has_slices slice (desc_of set packets (file_id packet)) packet

-- an IFSC counts, with as many entries as the file of its id has slices
abbrev pub counts_in : ℕ → List ℕ → List (List ℕ) → List ℕ → Bool
counts_in slice set packets packet = is_slices set packet && is_wanted slice set packets packet

abbrev pub AreEntries : ℕ → List ℕ → List (List ℕ) → List (List ℕ × ℕ) → Type 0
AreEntries slice set packets firsts = AreFirsts (counts_in slice set packets) packets packets firsts
