-- The packets that are read: Main, FileDesc and IFSC. A packet's type stands at its byte 48, its set's id at 32, its body from 64 on.
use Rattle.std.specs.Prelude.{ℕ, zero, suc, ◌+◌, ◌-◌, ◌*◌, ◌/◌, ◌%◌, ◌==◌, ◌&&◌, Bool, nat_le, if◌then◌else◌, List, [], ◌∷◌, ◌++◌, length, drop, fold, codes}
use Rattle.std.specs.List.{list_any}
use Rattle.std.specs.Str.{bytes_eq}
use Rattle.limits.specs.declared.TheConstants.{MOST_FILE_BYTES}
use Rattle.par2_check.specs.Packets.{long_at, part, word_at}
use Rattle.par2_check.specs.declared.bodies.TheConstants.{MOST_SLICE}

abbrev pub main_type : List ℕ
main_type = codes "PAR 2.0" ++ 0 ∷ codes "Main" ++ 0 ∷ 0 ∷ 0 ∷ 0 ∷ []

abbrev pub desc_type : List ℕ
desc_type = codes "PAR 2.0" ++ 0 ∷ codes "FileDesc"

abbrev pub slices_type : List ℕ
slices_type = codes "PAR 2.0" ++ 0 ∷ codes "IFSC" ++ 0 ∷ 0 ∷ 0 ∷ 0 ∷ []

-- a packet has at least so many bytes, and this type
abbrev pub is_kind : ℕ → List ℕ → List ℕ → Bool
is_kind least kind packet = nat_le least (length packet) && bytes_eq (part 48 16 packet) kind

-- the id of a packet's set
abbrev pub set_id : List ℕ → List ℕ
set_id packet = part 32 16 packet

-- the id of the file of which a FileDesc or an IFSC speaks
abbrev pub file_id : List ℕ → List ℕ
file_id packet = part 64 16 packet

-- the first pieces of so many bytes each
abbrev pub pieces : ℕ → List ℕ → ℕ → List (List ℕ)
pieces len bytes zero = []
pieces len bytes (suc count) = pieces len bytes count ++ part (len * count) len bytes ∷ []

-- ---- Main: the slice size (8 bytes), how many files there are (4), and their ids (16 each)

-- a slice may have this size
abbrev pub is_slice_size : ℕ → Bool
is_slice_size size = nat_le 4 size && nat_le size MOST_SLICE && size % 4 == 0

-- how many bytes a slice of a Main's set has
abbrev pub slice_of : List ℕ → ℕ
slice_of packet = long_at 64 packet

-- how many ids a Main has
abbrev pub id_count : List ℕ → ℕ
id_count packet = (length packet - 76) / 16

-- it counts where the slice size is one, and the ids are whole and at least as many as it says
abbrev pub is_main : List ℕ → Bool
is_main packet =
    is_kind 76 main_type packet && is_slice_size (slice_of packet) && (length packet - 76) % 16 == 0 && nat_le (word_at 72 packet) (id_count packet)

-- the ids with one more, unless it is there
abbrev pub with_id : List (List ℕ) → List ℕ → List (List ℕ)
with_id ids id = if list_any (bytes_eq id) ids then ids else ids ++ id ∷ []

-- a Main's ids, each where it stands first
abbrev pub ids_of : List ℕ → List (List ℕ)
ids_of packet = fold with_id [] (pieces 16 (drop 76 packet) (id_count packet))

-- ---- FileDesc: the file's id (16 bytes), its MD5 (16), that of its first 16 KiB (16), its length (8), and its name

-- how many bytes a file has
abbrev pub size_of : List ℕ → ℕ
size_of packet = long_at 112 packet

abbrev pub is_desc : List ℕ → List ℕ → Bool
is_desc set packet = is_kind 120 desc_type packet && bytes_eq (set_id packet) set && nat_le (size_of packet) MOST_FILE_BYTES

-- the MD5 of all bytes of a file
abbrev pub md5_of : List ℕ → List ℕ
md5_of packet = part 80 16 packet

-- a byte before what is kept of those behind it
abbrev pub before_kept : ℕ → List ℕ → List ℕ
before_kept zero [] = []
before_kept zero (c ∷ kept) = zero ∷ c ∷ kept
before_kept (suc byte) kept = suc byte ∷ kept

-- what stands before the zeros at an end
abbrev pub without_zeros : List ℕ → List ℕ
without_zeros [] = []
without_zeros (byte ∷ bytes) = before_kept byte (without_zeros bytes)

abbrev pub name_of : List ℕ → List ℕ
name_of packet = without_zeros (drop 120 packet)

-- ---- IFSC: the file's id (16 bytes), and for each slice its MD5 (16) and its CRC-32 (4)

abbrev pub is_slices : List ℕ → List ℕ → Bool
is_slices set packet = is_kind 80 slices_type packet && bytes_eq (set_id packet) set && (length packet - 80) % 20 == 0

-- how many slices an IFSC tells of
abbrev pub entry_count : List ℕ → ℕ
entry_count packet = (length packet - 80) / 20

-- the MD5 of each of the first slices
abbrev pub entries_to : List ℕ → ℕ → List (List ℕ)
entries_to packet zero = []
entries_to packet (suc count) = entries_to packet count ++ part (80 + 20 * count) 16 packet ∷ []

-- the MD5 of each slice
abbrev pub entries_of : List ℕ → List (List ℕ)
entries_of packet = entries_to packet (entry_count packet)

-- how many slices a file of so many bytes has, the last one perhaps shorter
abbrev pub slice_count : ℕ → ℕ → ℕ
slice_count slice size = if size % slice == 0 then size / slice else size / slice + 1
