-- Files by their numbers, after a change of one of them.
use Rattle.std.proofs.Common.{◌≡◌, ◌≢◌, ◌<◌, ◌≤◌, ◌+◌, ◌-◌, ℕ, zero, suc, List, [], ◌∷◌, ◌++◌, true, false, not, Bool, Option, Some, None, length, get_or, set, take, drop, refl, sym, ◌∙◌, ap, subst, arith, append-nil}
use Rattle.std.proofs.lemmas.Option.{none-some}
use Rattle.std.specs.Prelude.{is_some, ◌==◌, ◌&&◌, if◌then◌else◌, filter, replicate}
use Rattle.std.proofs.Common.{Result, Ok, Err, OnOk, OnErr, Vec, Global}
use Rattle.std.specs.Option.{option_map}
use Rattle.io_traits.specs.Store.{Stored, Puts, is_created, written_at, filled, with_bytes}
use Rattle.io_memory.specs.declared.mem_files.MemFile.{MemFile}
use Rattle.io_memory.specs.MemFiles.{shelf_of, numbers_of, stored, IsFirst, SameShelf}

pub none_more : (files : List MemFile) (file i : ℕ) (x : MemFile) → i < length files → x ≡ get_or files i x → shelf_of (take i files) file ≡ None → x.number ≢ file → shelf_of (take (i + 1) files) file ≡ None
none_more [] file i x inside is none other = absurd (omega arith)
none_more (f ∷ files) file zero x inside is none other = grind arith
none_more (f ∷ files) file (suc i) x inside is none other =
    let e : i + 1 ≡ suc i = omega arith in
    let rest : shelf_of (take (i + 1) files) file ≡ None = none_more files file i x (omega arith) is (grind arith) other in
    let rest_is : shelf_of (take (suc i) files) file ≡ None = subst (λ (n : ℕ). shelf_of (take n files) file ≡ None) e rest in
    let e_more : suc i + 1 ≡ suc (suc i) = omega arith in
    rw e_more (grind (arith, rest_is))

pub found : (files : List MemFile) (file i : ℕ) (x : MemFile) → i < length files → x ≡ get_or files i x → shelf_of (take i files) file ≡ None → x.number ≡ file → shelf_of files file ≡ Some (stored x)
found [] file i x inside is none same = absurd (omega arith)
found (f ∷ files) file zero x inside is none same = grind arith
found (f ∷ files) file (suc i) x inside is none same = grind (arith, found files file i x)

pub set_here : (files : List MemFile) (file i : ℕ) (y : MemFile) → i < length files → shelf_of (take i files) file ≡ None → y.number ≡ file → shelf_of (set files i y) file ≡ Some (stored y)
set_here [] file i y inside none same = absurd (omega arith)
set_here (f ∷ files) file zero y inside none same = grind arith
set_here (f ∷ files) file (suc i) y inside none same = grind (arith, set_here files file i y)

pub set_other : (files : List MemFile) (file i k : ℕ) (x y : MemFile) → i < length files → x ≡ get_or files i x → x.number ≡ file → y.number ≡ file → k ≢ file → shelf_of (set files i y) k ≡ shelf_of files k
set_other [] file i k x y inside is same new other = absurd (omega arith)
set_other (f ∷ files) file zero k x y inside is same new other = grind arith
set_other (f ∷ files) file (suc i) k x y inside is same new other = grind (arith, set_other files file i k x y)

pub set_numbers : (files : List MemFile) (i : ℕ) (x y : MemFile) → i < length files → x ≡ get_or files i x → y.number ≡ x.number → numbers_of (set files i y) ≡ numbers_of files
set_numbers [] i x y inside is same = absurd (omega arith)
set_numbers (f ∷ files) zero x y inside is same = cc
set_numbers (f ∷ files) (suc i) x y inside is same = ap (λ (ns : List ℕ). f.number ∷ ns) (set_numbers files i x y (omega arith) is same)

-- what is left without the files of a number
abbrev pub others : ℕ → MemFile → Bool
others file held = not (held.number == file)

pub removed_here : (file : ℕ) (files : List MemFile) → shelf_of (filter (others file) files) file ≡ None
removed_here file [] = refl
removed_here file (f ∷ files) = grind (arith, removed_here file files)

pub removed_other : (file k : ℕ) (files : List MemFile) → k ≢ file → shelf_of (filter (others file) files) k ≡ shelf_of files k
removed_other file k [] other = refl
removed_other file k (f ∷ files) other = grind (arith, removed_other file k files)

pub removed_numbers : (file k : ℕ) (files : List MemFile) → is_created (numbers_of (filter (others file) files)) k ≡ (if k == file then false else is_created (numbers_of files) k)
removed_numbers file k [] = grind arith
removed_numbers file k (f ∷ files) = grind (arith, removed_numbers file k files)

pub pushed_here : (files : List MemFile) (file : ℕ) (y : MemFile) → shelf_of files file ≡ None → y.number ≡ file → shelf_of (files ++ y ∷ []) file ≡ Some (stored y)
pushed_here [] file y none same = grind arith
pushed_here (f ∷ files) file y none same = grind (arith, pushed_here files file y)

pub pushed_other : (files : List MemFile) (file k : ℕ) (y : MemFile) → y.number ≡ file → k ≢ file → shelf_of (files ++ y ∷ []) k ≡ shelf_of files k
pushed_other [] file k y same other = grind arith
pushed_other (f ∷ files) file k y same other = grind (arith, pushed_other files file k y)

pub pushed_numbers : (files : List MemFile) (k : ℕ) (y : MemFile) → is_created (numbers_of (files ++ y ∷ [])) k ≡ (if k == y.number then true else is_created (numbers_of files) k)
pushed_numbers [] k y = grind arith
pushed_numbers (f ∷ files) k y = grind (arith, pushed_numbers files k y)

pub is_there : (files : List MemFile) (file : ℕ) → is_created (numbers_of files) file ≡ true → shelf_of files file ≡ None → ⊥
is_there [] file created none = grind arith
is_there (f ∷ files) file created none = grind (arith, is_there files file)

pub isnt_there : (files : List MemFile) (file : ℕ) → is_created (numbers_of files) file ≡ false → shelf_of files file ≡ None
isnt_there [] file created = refl
isnt_there (f ∷ files) file created = grind (arith, isnt_there files file)

-- what the first file of a number holds
pub first_holds : (files : List MemFile) (file place : ℕ) (x : MemFile) → IsFirst files file place → x ≡ get_or files place x → shelf_of files file ≡ Some (stored x)
first_holds files file place x first is = found files file place x first.inside is first.earlier (first.here x is)

-- what a change of the first file of a number leaves
pub first_set : (files : List MemFile) (file place : ℕ) (x y : MemFile) (now : Option Stored) → IsFirst files file place → x ≡ get_or files place x → y.number ≡ x.number → now ≡ Some (stored y)
    → Puts file now (shelf_of files) (shelf_of (set files place y))
first_set files file place x y now first is same holds =
    let number : y.number ≡ file = same ∙ first.here x is in
    record {
      changed = set_here files file place y first.inside first.earlier number ∙ sym holds;
      others = λ k other. set_other files file place k x y first.inside is (first.here x is) number other;
    }

-- what was written into: the place is filled up, and the piece stands in it
take_filled : (bytes : List ℕ) (pos n m : ℕ) → pos ≤ length bytes + n → pos ≤ length bytes + m → take pos (bytes ++ replicate n 0) ≡ take pos (bytes ++ replicate m 0)
take_filled [] zero n m a b = refl
take_filled [] (suc pos) zero m a b = absurd (omega arith)
take_filled [] (suc pos) (suc n) zero a b = absurd (omega arith)
take_filled [] (suc pos) (suc n) (suc m) a b = ap (λ (xs : List ℕ). 0 ∷ xs) (take_filled [] pos n m (omega arith) (omega arith))
take_filled (x ∷ bytes) zero n m a b = refl
take_filled (x ∷ bytes) (suc pos) n m a b = ap (λ (xs : List ℕ). x ∷ xs) (take_filled bytes pos n m (omega arith) (omega arith))

drop_nil : (n : ℕ) → drop {A = ℕ} n [] ≡ []
drop_nil zero = refl
drop_nil (suc n) = refl

drop_filled : (bytes : List ℕ) (stop n : ℕ) → n ≡ stop - length bytes → drop stop (bytes ++ replicate n 0) ≡ drop stop bytes
drop_filled [] zero zero is = refl
drop_filled [] zero (suc n) is = absurd (omega arith)
drop_filled [] (suc stop) zero is = refl
drop_filled [] (suc stop) (suc n) is = drop_filled [] stop n (omega arith) ∙ drop_nil stop
drop_filled (x ∷ bytes) zero zero is = append-nil (x ∷ bytes)
drop_filled (x ∷ bytes) zero (suc n) is = absurd (omega arith)
drop_filled (x ∷ bytes) (suc stop) n is = drop_filled bytes stop n (omega arith)

pieces : (a b c d e : List ℕ) → a ≡ b → d ≡ e → a ++ c ++ d ≡ b ++ c ++ e
pieces a b c d e f g = cc

some_written : (pos : ℕ) (piece bytes : List ℕ) → 1 ≤ length piece → take pos (filled pos bytes) ++ piece ++ drop (pos + length piece) bytes ≡ written_at pos piece bytes
some_written pos [] bytes some = absurd (omega arith)
some_written pos (byte ∷ piece) bytes some = refl

-- a piece put over bytes that were filled up to its end
pub written : (bytes piece : List ℕ) (pos : ℕ) → 1 ≤ length piece
    → take pos (bytes ++ replicate (pos + length piece - length bytes) 0) ++ piece ++ drop (pos + length piece) (bytes ++ replicate (pos + length piece - length bytes) 0) ≡ written_at pos piece bytes
written bytes piece pos some =
    let front = take_filled bytes pos (pos + length piece - length bytes) (pos - length bytes) (omega arith) (omega arith) in
    let back = drop_filled bytes (pos + length piece) (pos + length piece - length bytes) refl in
    pieces _ _ piece _ _ front back ∙ some_written pos piece bytes some

-- a file that is made where there is none
pub made : (before : ℕ → Option Stored) (files : List MemFile) (file : ℕ) (y : MemFile) → Puts file None before (shelf_of files) → y.number ≡ file → Puts file (Some (stored y)) before (shelf_of (files ++ y ∷ []))
made before files file y gone number = record {
  changed = pushed_here files file y gone.changed number;
  others = λ k other. pushed_other files file k y number other ∙ gone.others k other;
}

pub made_created : (before : List ℕ) (files : List MemFile) (file : ℕ) (y : MemFile) → ((k : ℕ) → is_created (numbers_of files) k ≡ (if k == file then false else is_created before k)) → y.number ≡ file
    → (k : ℕ) → is_created (numbers_of (files ++ y ∷ [])) k ≡ (if k == file then true else is_created before k)
made_created before files file y gone number k = grind (arith, pushed_numbers files k y, gone k)

pub removed : (file : ℕ) (before now : List MemFile) → now ≡ filter (others file) before → Puts file None (shelf_of before) (shelf_of now)
removed file before now is = rw is (record { changed = removed_here file before; others = λ k other. removed_other file k before other })

pub removed_created : (file : ℕ) (before now : List MemFile) → now ≡ filter (others file) before → (k : ℕ) → is_created (numbers_of now) k ≡ (if k == file then false else is_created (numbers_of before) k)
removed_created file before now is k = rw is (removed_numbers file k before)

-- a change that left the bytes as they were left every file
pub first_same : (files : List MemFile) (file place : ℕ) (x y : MemFile) → IsFirst files file place → x ≡ get_or files place x → y.number ≡ x.number → stored y ≡ stored x
    → SameShelf (shelf_of files) (shelf_of (set files place y))
first_same files file place x y first is same holds k = by_number (k == file) refl
  where
    puts : Puts file (Some (stored y)) (shelf_of files) (shelf_of (set files place y))
    puts = first_set files file place x y (Some (stored y)) first is same refl

    at_file : shelf_of (set files place y) file ≡ shelf_of files file
    at_file = puts.changed ∙ ap (λ s. Some s) holds ∙ sym (first_holds files file place x first is)

    by_number : (b : Bool) → (k == file) ≡ b → shelf_of (set files place y) k ≡ shelf_of files k
    by_number true e =
        let same_file : k ≡ file = grind arith in
        rw same_file at_file
    by_number false e = puts.others k (grind arith)

-- what a call on the bytes of the first file of a number leaves, by its answer
pub written_first : {T E : Type 0} (change : List ℕ → List ℕ) (result : Result T E) (files : List MemFile) (file place : ℕ) (x : MemFile) (bytes : Vec ℕ Global) → IsFirst files file place → x ≡ get_or files place x
    → OnOk result (bytes.items ≡ change x.bytes.items)
    → OnOk result (Puts file (option_map (with_bytes change) (shelf_of files file)) (shelf_of files) (shelf_of (set files place (record { number = x.number; name = x.name; bytes = bytes }))))
written_first change (Ok value) files file place x bytes first is changed =
    let holds = first_holds files file place x first is in
    first_set files file place x (record { number = x.number; name = x.name; bytes = bytes }) _ first is refl (rw holds (rw changed refl))
written_first change (Err e) files file place x bytes first is changed = tt

pub same_first : {T E : Type 0} (result : Result T E) (files : List MemFile) (file place : ℕ) (x : MemFile) (bytes : Vec ℕ Global) → IsFirst files file place → x ≡ get_or files place x
    → OnErr result (bytes.items ≡ x.bytes.items)
    → OnErr result (SameShelf (shelf_of files) (shelf_of (set files place (record { number = x.number; name = x.name; bytes = bytes }))))
same_first (Ok value) files file place x bytes first is same = tt
same_first (Err e) files file place x bytes first is same = first_same files file place x (record { number = x.number; name = x.name; bytes = bytes }) first is refl (rw same refl)

-- a list that was written back whole
pub whole : (now items : List ℕ) (len : ℕ) → length now ≡ length items → len ≡ length items → take len (now ++ drop (length now) items) ≡ now
whole [] [] zero e f = refl
whole [] [] (suc len) e f = absurd (omega arith)
whole [] (x ∷ items) len e f = absurd (omega arith)
whole (a ∷ now) [] len e f = absurd (omega arith)
whole (a ∷ now) (x ∷ items) zero e f = absurd (omega arith)
whole (a ∷ now) (x ∷ items) (suc len) e f = ap (λ (xs : List ℕ). a ∷ xs) (whole now items len (omega arith) (omega arith))

pub write_done : (old piece full now : List ℕ) (pos : ℕ) → full ≡ old ++ replicate (pos + length piece - length old) 0 → now ≡ take pos full ++ piece ++ drop (pos + length piece) full → 1 ≤ length piece → now ≡ written_at pos piece old
write_done old piece full now pos is put some = put ∙ ap (λ (xs : List ℕ). take pos xs ++ piece ++ drop (pos + length piece) xs) is ∙ written old piece pos some

-- a file that is there was created
pub kept : (files : List MemFile) (file : ℕ) (name : List ℕ) → option_map (λ held. held.name) (shelf_of files file) ≡ Some name
    → (k : ℕ) → is_created (numbers_of files) k ≡ (if (k == file) && true then true else is_created (numbers_of files) k)
kept files file name named k = by_number (k == file) refl
  where
    created : (b : Bool) → is_created (numbers_of files) file ≡ b → is_created (numbers_of files) file ≡ true
    created true e = e
    created false e = absurd (none-some name (sym (ap (option_map (λ (held : Stored). held.name)) (isnt_there files file e)) ∙ named))

    by_number : (b : Bool) → (k == file) ≡ b → is_created (numbers_of files) k ≡ (if (k == file) && true then true else is_created (numbers_of files) k)
    by_number true e =
        let same_file : k ≡ file = grind arith in
        let is : is_created (numbers_of files) k ≡ true = ap (is_created (numbers_of files)) same_file ∙ created _ refl in
        rw e is
    by_number false e = rw e refl

-- whether a file is there, by what is shown of it
pub shown : (files : List MemFile) (file : ℕ) (bytes : Option (List ℕ)) → bytes ≡ option_map (λ held. held.bytes) (shelf_of files file) → is_some bytes ≡ is_created (numbers_of files) file
shown files file bytes is = is_same _ refl
  where
    is_same : (b : Bool) → is_created (numbers_of files) file ≡ b → is_some bytes ≡ is_created (numbers_of files) file
    is_same true e = by_held (shelf_of files file) refl
      where
        by_held : (held : Option Stored) → shelf_of files file ≡ held → is_some bytes ≡ is_created (numbers_of files) file
        by_held None h = absurd (is_there files file e h)
        by_held (Some held) h = ap is_some (is ∙ ap (option_map (λ (s : Stored). s.bytes)) h) ∙ sym e
    is_same false e = ap is_some (is ∙ ap (option_map (λ (s : Stored). s.bytes)) (isnt_there files file e)) ∙ sym e
