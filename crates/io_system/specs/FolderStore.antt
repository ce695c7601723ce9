-- Which files of a folder were created.
use Rattle.std.specs.Prelude.{◌≡◌, ℕ, false, List, [], ◌∷◌, ◌==◌, if◌then◌else◌}
use Rattle.io_traits.specs.Store.{is_created}
use Rattle.io_system.specs.declared.folder_store.NamedFile.{NamedFile}

-- the numbers of the files
abbrev pub numbers_of : List NamedFile → List ℕ
numbers_of [] = []
numbers_of (file ∷ files) = file.number ∷ numbers_of files

-- one number is gone, and the others are as they were
abbrev pub Forgets : ℕ → List NamedFile → List NamedFile → Type 0
Forgets file before now = (k : ℕ) → is_created (numbers_of now) k ≡ (if k == file then false else is_created (numbers_of before) k)
