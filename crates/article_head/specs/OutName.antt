-- The name under which a file of an index is written: its number in the index, and behind it the name in its subject, of
-- which no byte can lead out of a folder.
use Rattle.std.specs.Prelude.{◌≡◌, ◌≢◌, ℕ, ◌+◌, ◌/◌, ◌%◌, ◌≤◌, ◌<◌, Bool, not, ◌||◌, ◌==◌, if◌then◌else◌, List, [], ◌∷◌, ◌++◌, length, map, take, codes, Option, Some, None, IsTrue}
use Rattle.std.specs.Char.{is_ascii_alphanumeric, is_ascii_digit}
use Rattle.std.specs.List.{list_all}
use Rattle.article_head.specs.QuotedName.{quoted_name}
use Rattle.limits.specs.declared.TheConstants.{MOST_FILES}

-- a letter, a digit, `-`, `.` or `_` (POSIX, "portable filename character set")
abbrev pub is_portable : ℕ → Bool
is_portable byte = is_ascii_alphanumeric byte || byte == 45 || byte == 46 || byte == 95

-- a byte, or `_` in place of one that isn't portable
abbrev pub portable : ℕ → ℕ
portable byte = if is_portable byte then byte else 95

-- a name, or `file` where there is none
abbrev pub name_or_file : Option (List ℕ) → List ℕ
name_or_file None = codes "file"
name_or_file (Some []) = codes "file"
name_or_file (Some (byte ∷ name)) = byte ∷ name

abbrev pub digit : ℕ → ℕ
digit n = 48 + n % 10

-- the four last decimal digits of a number
abbrev pub four_digits : ℕ → List ℕ
four_digits n = digit (n / 1000) ∷ digit (n / 100) ∷ digit (n / 10) ∷ digit n ∷ []

-- the name of a file whose articles have such a subject; files are counted from 0, and in names from 1
abbrev pub out_name : ℕ → List ℕ → List ℕ
out_name file subject = four_digits (file + 1) ++ codes "-" ++ map portable (take 200 (name_or_file (quoted_name subject)))

-- ---- what such names are

-- 6 to 205 portable bytes, the first of which is a digit
pub record IsOutName (name : List ℕ) : Type 0 where
  pub least : 6 ≤ length name
  pub most : length name ≤ 205
  pub portable : IsTrue (list_all is_portable name)
  pub numbered : IsTrue (list_all is_ascii_digit (take 1 name))

-- the name of a file in a folder (POSIX, "filename"): no slash and no zero byte, and it doesn't name the folder itself or the
-- one above it
pub record IsFilename (name : List ℕ) : Type 0 where
  pub some : 1 ≤ length name
  pub short : length name ≤ 255
  pub no_slash : IsTrue (list_all (λ byte. not (byte == 47)) name)
  pub no_zero : IsTrue (list_all (λ byte. not (byte == 0)) name)
  pub not_dot : name ≢ codes "."
  pub not_dot_dot : name ≢ codes ".."

-- two files of an index have two names, whatever their subjects
abbrev pub OutNamesDiffer : Type 0
OutNamesDiffer = (file other : ℕ) (subject another : List ℕ) → file < MOST_FILES → other < MOST_FILES → file ≢ other → out_name file subject ≢ out_name other another
