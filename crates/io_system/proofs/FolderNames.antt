-- Numbers of files, after one was taken away or added.
use Rattle.std.proofs.Common.{◌≡◌, ◌≢◌, ◌<◌, ◌+◌, ℕ, zero, suc, List, [], ◌∷◌, ◌++◌, true, false, not, Bool, length, get_or, take, subst, arith}
use Rattle.std.specs.Prelude.{◌==◌, ◌&&◌, if◌then◌else◌, filter}
use Rattle.io_traits.specs.Store.{is_created}
use Rattle.io_system.specs.declared.folder_store.NamedFile.{NamedFile}
use Rattle.io_system.specs.FolderStore.{numbers_of, Forgets}

pub none_more : (files : List NamedFile) (file i : ℕ) (x : NamedFile) → i < length files → x ≡ get_or files i x → is_created (numbers_of (take i files)) file ≡ false → x.number ≢ file → is_created (numbers_of (take (i + 1) files)) file ≡ false
none_more [] file i x inside is none other = absurd (omega arith)
none_more (f ∷ files) file zero x inside is none other = grind arith
none_more (f ∷ files) file (suc i) x inside is none other =
    let e : i + 1 ≡ suc i = omega arith in
    let rest : is_created (numbers_of (take (i + 1) files)) file ≡ false = none_more files file i x (omega arith) is (grind arith) other in
    let rest_is : is_created (numbers_of (take (suc i) files)) file ≡ false = subst (λ (n : ℕ). is_created (numbers_of (take n files)) file ≡ false) e rest in
    let e_more : suc i + 1 ≡ suc (suc i) = omega arith in
    rw e_more (grind (arith, rest_is))

-- what is left without the files of a number
abbrev pub others : ℕ → NamedFile → Bool
others file named = not (named.number == file)

left : (file k : ℕ) (files : List NamedFile) → is_created (numbers_of (filter (others file) files)) k ≡ (if k == file then false else is_created (numbers_of files) k)
left file k [] = grind arith
left file k (f ∷ files) = grind (arith, left file k files)

pub forgotten : (file : ℕ) (before now : List NamedFile) → now ≡ filter (others file) before → Forgets file before now
forgotten file before now is k = rw is (left file k before)

pub added : (files : List NamedFile) (k : ℕ) (y : NamedFile) → is_created (numbers_of (files ++ y ∷ [])) k ≡ (if k == y.number then true else is_created (numbers_of files) k)
added [] k y = grind arith
added (f ∷ files) k y = grind (arith, added files k y)

pub replaced : (old before files : List NamedFile) (file : ℕ) (y : NamedFile) → before ≡ old → Forgets file before files → y.number ≡ file
    → (k : ℕ) → is_created (numbers_of (files ++ y ∷ [])) k ≡ (if (k == file) && true then true else is_created (numbers_of old) k)
replaced old before files file y is gone number k = rw (← is) (grind (arith, added files k y, gone k))
