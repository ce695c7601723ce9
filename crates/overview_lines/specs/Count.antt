-- The count in a subject, which says what part of how many an article is: `(1/5)` (yEnc draft 1.3, "Subject Line
-- Conventions"). The limit of seven digits is this project's, and so is that of several counts the last one is meant.
use Rattle.std.specs.Prelude.{◌≡◌, ℕ, ◌+◌, ◌-◌, ◌≤◌, ◌&&◌, ◌==◌, nat_le, nat_lt, if◌then◌else◌, List, [], ◌∷◌, ◌++◌, length, take, drop, slice_index, Option, Some, None}
use Rattle.std.specs.Char.{is_ascii_digit}
use Rattle.std.specs.List.{prefix_len}
use Rattle.std.specs.Option.{option_or}
use Rattle.numbers.specs.Numbers.{decimal_of, Numbered, numbered_of}
use Rattle.overview_lines.specs.declared.count.Count.{Count}

-- the number that 1 to 7 decimal digits say; leading zeros may stand
abbrev pub number_of : List ℕ → Option ℕ
number_of digits = if nat_le (length digits) 7 then decimal_of digits else None

-- a count stands in a subject: `(` (40), the number of the part, from 1, `/` (47), how many there are, and `)` (41)
pub record IsCount (subject : List ℕ) (count : Count) : Type 0 where
  pub before : List ℕ
  pub part : List ℕ
  pub total : List ℕ
  pub behind : List ℕ
  pub whole : subject ≡ before ++ 40 ∷ (part ++ 47 ∷ (total ++ 41 ∷ behind))
  pub start_is : count.start ≡ length before
  pub end_is : count.end + length behind ≡ length subject
  pub part_is : number_of part ≡ Some count.part
  pub total_is : number_of total ≡ Some count.total
  pub first : 1 ≤ count.part

-- it is the count that starts last
pub record IsLastCount (subject : List ℕ) (count : Count) : Type 0 where
  pub is : IsCount subject count
  pub last : (other : Count) → IsCount subject other → other.start ≤ count.start

-- ---- the reading of a subject

-- how many digits a text begins with
abbrev pub digits_len : List ℕ → ℕ
digits_len text = prefix_len is_ascii_digit text

-- the number that a text begins with, where this byte stands behind it
unfoldable pub number_before : ℕ → List ℕ → Option Numbered
number_before byte text =
    if nat_lt (digits_len text) (length text) && (slice_index text (digits_len text) == byte)
    then numbered_of (number_of (take (digits_len text) text)) (drop (digits_len text + 1) text) else None

abbrev pub with_total : (start end part : ℕ) → Option Numbered → Option Count
with_total start end part None = None
with_total start end part (Some total) =
    if nat_le 1 part then Some (record { start = start; end = end - length total.behind; part = part; total = total.number }) else None

abbrev pub with_part : (start end : ℕ) → Option Numbered → Option Count
with_part start end None = None
with_part start end (Some part) = with_total start end part.number (number_before 41 part.behind)

-- the count that a text begins with, which stands in a subject behind so many bytes
unfoldable pub count_at : ℕ → List ℕ → Option Count
count_at start [] = None
count_at start (byte ∷ text) = if byte == 40 then with_part start (start + 1 + length text) (number_before 47 text) else None

-- the last count that a text holds
unfoldable pub last_count : ℕ → List ℕ → Option Count
last_count start [] = None
last_count start (byte ∷ text) = option_or (last_count (start + 1) text) (count_at start (byte ∷ text))

-- the count of a subject, if it has one
unfoldable pub count_of : List ℕ → Option Count
count_of subject = last_count 0 subject

-- ---- laws

-- a subject has at most one last count, which is the one that is read
abbrev pub LastCountIsRead : Type 0
LastCountIsRead = (subject : List ℕ) (count : Count) → IsLastCount subject count → count_of subject ≡ Some count
