-- The files of a set, from the first packets of their ids.
use Rattle.std.proofs.Common.{◌≡◌, ℕ, zero, suc, ◌+◌, ◌*◌, ◌<◌, All, arith, length-append, ◌-◌, ◌%◌, ◌≤◌, ◌==◌, Bool, true, List, [], ◌∷◌, ◌++◌, Option, Some, None, length, bytes_eq, inl, inr, refl, sym, ap, subst, ◌∙◌}
use Rattle.std.specs.Prelude.{◌&&◌, nat_le, slice_get, slice_index_or}
use Rattle.std.specs.List.{cons_option, filter_map, find}
use Rattle.std.specs.Option.{option_and_then, option_map, option_to_list}
use Rattle.std.proofs.lemmas.Bool.{and_from, and_parts, and_right, cases_Bool, eq-eqb, eqb-true, leb-true}
use Rattle.std.proofs.lemmas.Slice.Eq.{bytes_eq-Decides}
use Rattle.limits.specs.declared.TheConstants.{MOST_FILE_BYTES}
use Rattle.par2_check.specs.Bodies.{desc_type, entries_of, entries_to, entry_count, file_id, id_count, ids_of, is_desc, is_kind, is_main, is_slice_size, is_slices, main_type, set_id, size_of, slice_count, slice_of, slices_type}
use Rattle.par2_check.specs.Firsts.{AreDescs, IsNumberOf, counts_for, first_in}
use Rattle.par2_check.specs.Packets.{part, word_at}
use Rattle.par2_check.specs.Set.{AreEntries, counts_in, desc_of, file_of, files_of, fits, has_entries, has_slices, is_wanted, par_file, slices_of}
use Rattle.par2_check.specs.declared.bodies.TheConstants.{MOST_SLICE}
use Rattle.par2_check.specs.declared.set.ParFile.{ParFile}
use Rattle.par2_check.proofs.FirstLaws.{find_passes, get_some}

-- ---- how long the packets are that are read

long_kind : (least : ℕ) (kind packet : List ℕ) → is_kind least kind packet ≡ true → least ≤ length packet
long_kind least kind packet is = leb-true least (length packet) ((and_parts (nat_le least (length packet)) (bytes_eq (part 48 16 packet) kind) is).0)

long_desc : (set packet : List ℕ) → is_desc set packet ≡ true → 120 ≤ length packet
long_desc set packet is =
    let front = and_parts (is_kind 120 desc_type packet && bytes_eq (set_id packet) set) (nat_le (size_of packet) MOST_FILE_BYTES) is in
    long_kind 120 desc_type packet ((and_parts (is_kind 120 desc_type packet) (bytes_eq (set_id packet) set) front.0).0)

pub long_slices : (set packet : List ℕ) → is_slices set packet ≡ true → 80 ≤ length packet
long_slices set packet is =
    let front = and_parts (is_kind 80 slices_type packet && bytes_eq (set_id packet) set) ((length packet - 80) % 20 == 0) is in
    long_kind 80 slices_type packet ((and_parts (is_kind 80 slices_type packet) (bytes_eq (set_id packet) set) front.0).0)

-- a Main has a slice size
pub slice_size_of : (main : List ℕ) → is_main main ≡ true → is_slice_size (slice_of main) ≡ true
slice_size_of main is =
    let all = and_parts (is_kind 76 main_type main && is_slice_size (slice_of main) && (length main - 76) % 16 == 0) (nat_le (word_at 72 main) (id_count main)) is in
    let front = and_parts (is_kind 76 main_type main && is_slice_size (slice_of main)) ((length main - 76) % 16 == 0) all.0 in
    (and_parts (is_kind 76 main_type main) (is_slice_size (slice_of main)) front.0).1

pub main_sized : (main : List ℕ) → is_main main ≡ true → (76 ≤ length main) × (4 ≤ slice_of main)
main_sized main is =
    let all = and_parts (is_kind 76 main_type main && is_slice_size (slice_of main) && (length main - 76) % 16 == 0) (nat_le (word_at 72 main) (id_count main)) is in
    let front = and_parts (is_kind 76 main_type main && is_slice_size (slice_of main)) ((length main - 76) % 16 == 0) all.0 in
    let kind = (and_parts (is_kind 76 main_type main) (is_slice_size (slice_of main)) front.0).0 in
    let size = and_parts (nat_le 4 (slice_of main) && nat_le (slice_of main) MOST_SLICE) (slice_of main % 4 == 0) (slice_size_of main is) in
    (long_kind 76 main_type main kind, leb-true 4 (slice_of main) ((and_parts (nat_le 4 (slice_of main)) (nat_le (slice_of main) MOST_SLICE) size.0).0))

-- ---- FileDesc

-- the packet of an id's number is its FileDesc
pub desc_found : (set id : List ℕ) (packets : List (List ℕ)) (descs : List (List ℕ × ℕ)) (number : ℕ) (packet : List ℕ) → AreDescs set packets descs → first_in id descs ≡ Some number
    → slice_get packets number ≡ Some packet → (desc_of set packets id ≡ Some packet) × (120 ≤ length packet)
desc_found set id packets descs number packet are is there =
    let here : IsNumberOf packets (desc_of set packets id) (Some number) = subst (λ (o : Option ℕ). IsNumberOf packets (desc_of set packets id) o) is (are id) in
    let found : desc_of set packets id ≡ Some packet = sym here.1 ∙ there in
    let passes = find_passes (counts_for (is_desc set) id) packets packet found in
    (found, long_desc set packet ((and_parts (is_desc set packet) (bytes_eq id (file_id packet)) passes).0))

pub no_desc : (set id : List ℕ) (packets : List (List ℕ)) (descs : List (List ℕ × ℕ)) → AreDescs set packets descs → first_in id descs ≡ None → desc_of set packets id ≡ None
no_desc set id packets descs are is = subst (λ (o : Option ℕ). IsNumberOf packets (desc_of set packets id) o) is (are id)

-- ---- IFSC

-- which IFSC counts for an id with a FileDesc
counts_agree : (slice : ℕ) (set : List ℕ) (packets : List (List ℕ)) (id desc : List ℕ) → desc_of set packets id ≡ Some desc → (packet : List ℕ)
    → counts_for (counts_in slice set packets) id packet ≡ counts_for (has_entries set (slice_count slice (size_of desc))) id packet
counts_agree slice set packets id desc is packet =
    let own : List ℕ = file_id packet in
    let wanted : Bool = is_wanted slice set packets packet in
    let has : Bool = entry_count packet == slice_count slice (size_of desc) in
    elim (cases_Bool (bytes_eq id own)) [
      | inl same ↦ (let e : id ≡ own = (bytes_eq-Decides id own).0 same in
          ap (λ (o : Option (List ℕ)). (is_slices set packet && has_slices slice o packet) && bytes_eq id own) (ap (desc_of set packets) (sym e) ∙ is))
      | inr other ↦ (and_right (is_slices set packet && wanted) (bytes_eq id own) other ∙ sym (and_right (is_slices set packet && has) (bytes_eq id own) other))
    ]

slices_agree : (slice : ℕ) (set : List ℕ) (packets : List (List ℕ)) (id desc : List ℕ) → desc_of set packets id ≡ Some desc
    → find (counts_for (counts_in slice set packets) id) packets ≡ slices_of set (slice_count slice (size_of desc)) packets id
slices_agree slice set packets id desc is = λ i. find (λ packet. counts_agree slice set packets id desc is packet i) packets

-- ---- the file of an id

pub file_without_desc : (slice : ℕ) (set : List ℕ) (packets : List (List ℕ)) (id : List ℕ) → desc_of set packets id ≡ None → file_of slice set packets id ≡ None
file_without_desc slice set packets id none =
    ap (option_and_then (λ desc. option_map (par_file desc) (slices_of set (slice_count slice (size_of desc)) packets id))) none

pub file_without_slices : (slice : ℕ) (set id : List ℕ) (packets : List (List ℕ)) (descs entries : List (List ℕ × ℕ)) (number : ℕ) → AreDescs set packets descs → AreEntries slice set packets entries
    → first_in id descs ≡ Some number → first_in id entries ≡ None → file_of slice set packets id ≡ None
file_without_slices slice set id packets descs entries number are_descs are_entries first none =
    let here : IsNumberOf packets (desc_of set packets id) (Some number) = subst (λ (o : Option ℕ). IsNumberOf packets (desc_of set packets id) o) first (are_descs id) in
    let packet = get_some packets number here.0 in
    let desc : desc_of set packets id ≡ Some packet.0 = sym here.1 ∙ packet.1 in
    let absent : find (counts_for (counts_in slice set packets) id) packets ≡ None =
    subst (λ (o : Option ℕ). IsNumberOf packets (find (counts_for (counts_in slice set packets) id) packets) o) none (are_entries id) in
    let slices : slices_of set (slice_count slice (size_of packet.0)) packets id ≡ None = sym (slices_agree slice set packets id packet.0 desc) ∙ absent in
    ap (option_and_then (λ desc. option_map (par_file desc) (slices_of set (slice_count slice (size_of desc)) packets id))) desc ∙ ap (option_map (par_file packet.0)) slices

pub slices_found : (slice : ℕ) (set id : List ℕ) (packets : List (List ℕ)) (entries : List (List ℕ × ℕ)) (number : ℕ) (packet : List ℕ) → AreEntries slice set packets entries → first_in id entries ≡ Some number
    → slice_get packets number ≡ Some packet → (find (counts_for (counts_in slice set packets) id) packets ≡ Some packet) × (80 ≤ length packet)
slices_found slice set id packets entries number packet are is there =
    let test : List ℕ → Bool = counts_in slice set packets in
    let here : IsNumberOf packets (find (counts_for test id) packets) (Some number) = subst (λ (o : Option ℕ). IsNumberOf packets (find (counts_for test id) packets) o) is (are id) in
    let found : find (counts_for test id) packets ≡ Some packet = sym here.1 ∙ there in
    let passes = and_parts (test packet) (bytes_eq id (file_id packet)) (find_passes (counts_for test id) packets packet found) in
    (found, long_slices set packet ((and_parts (is_slices set packet) (is_wanted slice set packets packet) passes.0).0))

pub file_of_both : (slice : ℕ) (set id : List ℕ) (packets : List (List ℕ)) (desc slices : List ℕ) → desc_of set packets id ≡ Some desc → find (counts_for (counts_in slice set packets) id) packets ≡ Some slices
    → file_of slice set packets id ≡ Some (par_file desc slices)
file_of_both slice set id packets desc slices desc_is slices_is =
    ap (option_and_then (λ desc. option_map (par_file desc) (slices_of set (slice_count slice (size_of desc)) packets id))) desc_is
    ∙ ap (option_map (par_file desc)) (sym (slices_agree slice set packets id desc desc_is) ∙ slices_is)

-- one id more
one_or_none : {B : Type 0} (o : Option B) → cons_option o [] ≡ [] ++ option_to_list o
one_or_none None = refl
one_or_none (Some x) = refl

one_more_or_not : {B : Type 0} (o : Option B) (xs ys zs : List B) → xs ≡ ys ++ zs → cons_option o xs ≡ cons_option o ys ++ zs
one_more_or_not None xs ys zs is = is
one_more_or_not (Some x) xs ys zs is = ap (λ l. x ∷ l) is

pub filter_map_behind : {A B : Type 0} (h : A → Option B) (xs : List A) (x : A) → filter_map h (xs ++ x ∷ []) ≡ filter_map h xs ++ option_to_list (h x)
filter_map_behind h [] x = one_or_none (h x)
filter_map_behind h (y ∷ ys) x = one_more_or_not (h y) (filter_map h (ys ++ x ∷ [])) (filter_map h ys) (option_to_list (h x)) (filter_map_behind h ys x)

-- ---- the files of a set have an MD5 for each slice

entries_count : (packet : List ℕ) (count : ℕ) → length (entries_to packet count) ≡ count
entries_count packet zero = refl
entries_count packet (suc count) =
    length-append (entries_to packet count) (part (80 + 20 * count) 16 packet ∷ []) ∙ ap (λ n. n + 1) (entries_count packet count) ∙ (let e : count + 1 ≡ suc count = omega arith in e)

fits_both : (slice : ℕ) (set : List ℕ) (desc slices : List ℕ) → is_slice_size slice ≡ true → has_entries set (slice_count slice (size_of desc)) slices ≡ true → fits slice (par_file desc slices) ≡ true
fits_both slice set desc slices sized has =
    let count : ℕ = slice_count slice (size_of desc) in
    let number : entry_count slices ≡ count = eqb-true (entry_count slices) count ((and_parts (is_slices set slices) (entry_count slices == count) has).1) in
    and_from (is_slice_size slice) (length (entries_of slices) == count) sized (eq-eqb (length (entries_of slices)) count (entries_count slices (entry_count slices) ∙ number))

fits_slices : (slice : ℕ) (set desc : List ℕ) (found : Option (List ℕ)) (file : ParFile) → is_slice_size slice ≡ true
    → ((slices : List ℕ) → found ≡ Some slices → has_entries set (slice_count slice (size_of desc)) slices ≡ true) → option_map (par_file desc) found ≡ Some file → fits slice file ≡ true
fits_slices slice set desc None file sized has is = absurd (cc)
fits_slices slice set desc (Some slices) file sized has is =
    let same : par_file desc slices ≡ file = cc in
    subst (λ (file : ParFile). fits slice file ≡ true) same (fits_both slice set desc slices sized (has slices refl))

fits_found : (slice : ℕ) (set : List ℕ) (packets : List (List ℕ)) (id : List ℕ) (found : Option (List ℕ)) (file : ParFile) → is_slice_size slice ≡ true
    → option_and_then (λ desc. option_map (par_file desc) (slices_of set (slice_count slice (size_of desc)) packets id)) found ≡ Some file → fits slice file ≡ true
fits_found slice set packets id None file sized is = absurd (cc)
fits_found slice set packets id (Some desc) file sized is =
    let test : List ℕ → Bool = has_entries set (slice_count slice (size_of desc)) in
    fits_slices slice set desc (slices_of set (slice_count slice (size_of desc)) packets id) file sized
    (λ slices found. (and_parts (test slices) (bytes_eq id (file_id slices)) (find_passes (counts_for test id) packets slices found)).0) is

all_cons : {B : Type 0} (P : B → Type 0) (y : B) (ys : List B) → P y → All P ys → (k : ℕ) (d : B) → k < length (y ∷ ys) → P (slice_index_or (y ∷ ys) k d)
all_cons P y ys one rest zero d lt = one
all_cons P y ys one rest (suc k) d lt = rest k d (omega (arith, lt))

all_with : {B : Type 0} (P : B → Type 0) (o : Option B) (ys : List B) → ((y : B) → o ≡ Some y → P y) → All P ys → All P (cons_option o ys)
all_with P None ys one rest = rest
all_with P (Some y) ys one rest = all_cons P y ys (one y refl) rest

all_made : {A B : Type 0} (h : A → Option B) (P : B → Type 0) → ((x : A) (y : B) → h x ≡ Some y → P y) → (xs : List A) → All P (filter_map h xs)
all_made h P each [] = λ k d lt. absurd (omega (arith, lt))
all_made h P each (x ∷ xs) = all_with P (h x) (filter_map h xs) (each x) (all_made h P each xs)

-- the files of the set of a Main have an MD5 for each slice
pub files_fit : (main : List ℕ) (packets : List (List ℕ)) → is_main main ≡ true → All (λ file. fits (slice_of main) file ≡ true) (files_of main packets)
files_fit main packets is =
    all_made (file_of (slice_of main) (set_id main) packets) (λ file. fits (slice_of main) file ≡ true)
    (λ id file made. fits_found (slice_of main) (set_id main) packets id (desc_of (set_id main) packets id) file (slice_size_of main is) made) (ids_of main)
