-- What a source of files tells of them.
use Rattle.std.specs.Prelude.{◌≡◌, ◌≤◌, ℕ, List, [], ◌∷◌, length, take, drop, None, Some, Option, Result, Ok, Err, if◌then◌else◌, ⊤, IfOk, OnErr}
use Rattle.std.specs.Str.{bytes_eq}
use Rattle.io_traits.specs.Causes.{Rose}

-- the bytes of the first file with a name
abbrev pub file_of : List ℕ → List (List ℕ × List ℕ) → Option (List ℕ)
file_of name [] = None
file_of name (file ∷ files) = if bytes_eq file.0 name then Some file.1 else file_of name files

-- after an opening the current file has the length that was answered; after a failed one there is no current file
abbrev pub Opens : {E : Type 0} → Option ℕ → Result ℕ E → Type 0
Opens current (Ok len) = current ≡ Some len
Opens current (Err e) = current ≡ None

-- After an opening: where the files are told, the content is that of the first file with the name, and has the length
-- that was answered. Where they aren't, it isn't told either. After a failed opening there is none.
abbrev pub OpensFile : {E : Type 0} → List ℕ → Option (List (List ℕ × List ℕ)) → Option (List ℕ) → Result ℕ E → Type 0
OpensFile name files content (Err e) = content ≡ None
OpensFile name None content (Ok len) = content ≡ None
OpensFile name (Some files) content (Ok len) =
    (bytes : List ℕ) × (file_of name files ≡ Some bytes) × (content ≡ Some bytes) × (length bytes ≡ len)

-- a read at a place gave n bytes: where the content is told, they are the content's bytes from there, and at least one
abbrev pub GivesAt : Option (List ℕ) → ℕ → List ℕ → ℕ → Type 0
GivesAt None place buf n = ⊤
GivesAt (Some bytes) place buf n = (1 ≤ n) × (take n buf ≡ take n (drop place bytes))

-- The count of reads that gave no byte, and the place of the last one: a read at this place raises the first and sets
-- the second where it gives no byte, and changes neither at any other answer.
pub record CountsShorts {E : Type 0} (before now place_before place_now place : ℕ) (result : Result ℕ E) : Type 0 where
  pub later : before ≤ now
  pub short : IfOk result (λ n. n ≡ 0 → Rose before now)
  pub short_place : IfOk result (λ n. n ≡ 0 → place_now ≡ place)
  pub full : IfOk result (λ n. 1 ≤ n → now ≡ before)
  pub full_place : IfOk result (λ n. 1 ≤ n → place_now ≡ place_before)
  pub failed : OnErr result (now ≡ before)
  pub failed_place : OnErr result (place_now ≡ place_before)
