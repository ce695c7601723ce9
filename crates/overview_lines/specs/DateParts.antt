-- The parts of a date as an overview gives it (RFC 5322, 3.3, and 4.3 for the names of zones), and how each is read. That names
-- stand in this case alone is this project's choice.
use Rattle.std.specs.Prelude.{◌≡◌, ℕ, ◌+◌, ◌*◌, ◌≤◌, ◌&&◌, ◌||◌, ◌==◌, ◌⊎◌, nat_le, if◌then◌else◌, List, [], ◌∷◌, ◌++◌, length, take, drop, slice_index, codes, Option, Some, None, IsTrue}
use Rattle.std.specs.Char.{is_ascii_alphabetic}
use Rattle.std.specs.List.{list_all}
use Rattle.std.specs.Str.{bytes_eq}
use Rattle.numbers.specs.Numbers.{decimal_of, within}

-- one or more spaces
pub record AreSpaces (text : List ℕ) : Type 0 where
  pub some : 1 ≤ length text
  pub all : IsTrue (list_all (λ byte. byte == 32) text)

-- nothing, or the name of a day of the week, a comma (44) and spaces; whether the name fits the date isn't asked
pub data IsWeekday (text : List ℕ) : Type 0 where
  missing : text ≡ [] → IsWeekday text
  named : (name spaces : List ℕ) → text ≡ name ++ 44 ∷ spaces → length name ≡ 3 → IsTrue (list_all is_ascii_alphabetic name) → AreSpaces spaces → IsWeekday text

-- the value of at least and at most so many decimal digits
pub record IsNumber (least most : ℕ) (digits : List ℕ) (value : ℕ) : Type 0 where
  pub some : least ≤ length digits
  pub few : length digits ≤ most
  pub value_is : decimal_of digits ≡ Some value

-- the month of a name
pub data IsMonth (name : List ℕ) (month : ℕ) : Type 0 where
  january : name ≡ codes "Jan" → month ≡ 1 → IsMonth name month
  february : name ≡ codes "Feb" → month ≡ 2 → IsMonth name month
  march : name ≡ codes "Mar" → month ≡ 3 → IsMonth name month
  april : name ≡ codes "Apr" → month ≡ 4 → IsMonth name month
  may : name ≡ codes "May" → month ≡ 5 → IsMonth name month
  june : name ≡ codes "Jun" → month ≡ 6 → IsMonth name month
  july : name ≡ codes "Jul" → month ≡ 7 → IsMonth name month
  august : name ≡ codes "Aug" → month ≡ 8 → IsMonth name month
  september : name ≡ codes "Sep" → month ≡ 9 → IsMonth name month
  october : name ≡ codes "Oct" → month ≡ 10 → IsMonth name month
  november : name ≡ codes "Nov" → month ≡ 11 → IsMonth name month
  december : name ≡ codes "Dec" → month ≡ 12 → IsMonth name month

-- hours and minutes of two digits each, with this text between, and how many seconds they are
pub record IsClock (between : List ℕ) (text : List ℕ) (seconds : ℕ) : Type 0 where
  pub hour_digits : List ℕ
  pub minute_digits : List ℕ
  pub hour : ℕ
  pub minute : ℕ
  pub whole : text ≡ hour_digits ++ (between ++ minute_digits)
  pub is_hour : IsNumber 2 2 hour_digits hour
  pub is_minute : IsNumber 2 2 minute_digits minute
  pub hour_most : hour ≤ 23
  pub minute_most : minute ≤ 59
  pub value : seconds ≡ hour * 3600 + minute * 60

-- a time of day, with a colon (58) between two parts, and the seconds of the day before it; a second may be a leap second
pub data IsTime (text : List ℕ) (seconds : ℕ) : Type 0 where
  to_minute : IsClock (58 ∷ []) text seconds → IsTime text seconds
  to_second : (clock digits : List ℕ) (minutes second : ℕ) → text ≡ clock ++ 58 ∷ digits → IsClock (58 ∷ []) clock minutes → IsNumber 2 2 digits second → second ≤ 60 →
      seconds ≡ minutes + second → IsTime text seconds

-- how many seconds a zone is ahead of UTC, and how many behind it; one of them is 0
pub record Zone : Type 0 where
  pub ahead : ℕ
  pub behind : ℕ

-- a zone: `+` (43) or `-` (45) and its offset, or a name of UTC
pub data IsZone (text : List ℕ) (zone : Zone) : Type 0 where
  east : (offset : List ℕ) → text ≡ 43 ∷ offset → IsClock [] offset zone.ahead → zone.behind ≡ 0 → IsZone text zone
  west : (offset : List ℕ) → text ≡ 45 ∷ offset → IsClock [] offset zone.behind → zone.ahead ≡ 0 → IsZone text zone
  utc : (text ≡ codes "GMT") ⊎ ((text ≡ codes "UT") ⊎ (text ≡ codes "UTC")) → zone.ahead ≡ 0 → zone.behind ≡ 0 → IsZone text zone

-- ---- the reading of each

-- a day of a month
unfoldable pub day_of : List ℕ → Option ℕ
day_of word = if nat_le (length word) 2 then within 0 31 (decimal_of word) else None

unfoldable pub month_of : List ℕ → Option ℕ
month_of word =
    if bytes_eq word (codes "Jan") then Some 1 else if bytes_eq word (codes "Feb") then Some 2 else if bytes_eq word (codes "Mar") then Some 3
    else if bytes_eq word (codes "Apr") then Some 4 else if bytes_eq word (codes "May") then Some 5 else if bytes_eq word (codes "Jun") then Some 6
    else if bytes_eq word (codes "Jul") then Some 7 else if bytes_eq word (codes "Aug") then Some 8 else if bytes_eq word (codes "Sep") then Some 9
    else if bytes_eq word (codes "Oct") then Some 10 else if bytes_eq word (codes "Nov") then Some 11 else if bytes_eq word (codes "Dec") then Some 12 else None

-- a year from 1970 on
unfoldable pub year_of : List ℕ → Option ℕ
year_of word = if length word == 4 then within 1970 9999 (decimal_of word) else None

-- a number of two digits, up to this one
unfoldable pub two_digits : ℕ → List ℕ → Option ℕ
two_digits most word = if length word == 2 then within 0 most (decimal_of word) else None

abbrev pub with_minute : ℕ → Option ℕ → Option ℕ
with_minute hour None = None
with_minute hour (Some minute) = Some (hour * 3600 + minute * 60)

abbrev pub with_hour : Option ℕ → List ℕ → Option ℕ
with_hour None word = None
with_hour (Some hour) word = with_minute hour (two_digits 59 word)

-- the seconds of an hour and a minute
unfoldable pub clock_of : List ℕ → List ℕ → Option ℕ
clock_of hour minute = with_hour (two_digits 23 hour) minute

abbrev pub with_second : ℕ → Option ℕ → Option ℕ
with_second minutes None = None
with_second minutes (Some second) = Some (minutes + second)

-- the seconds of a time of day: minutes and what stands behind them
abbrev pub with_clock : Option ℕ → List ℕ → Option ℕ
with_clock None rest = None
with_clock (Some minutes) [] = Some minutes
with_clock (Some minutes) (colon ∷ word) = if colon == 58 then with_second minutes (two_digits 60 word) else None

unfoldable pub time_of : List ℕ → Option ℕ
time_of word =
    if nat_le 5 (length word) && (slice_index word 2 == 58) then with_clock (clock_of (take 2 word) (take 2 (drop 3 word))) (drop 5 word) else None

abbrev pub with_sign : ℕ → Option ℕ → Option Zone
with_sign sign None = None
with_sign sign (Some seconds) =
    if sign == 43 then Some (record { ahead = seconds; behind = 0 }) else if sign == 45 then Some (record { ahead = 0; behind = seconds }) else None

unfoldable pub zone_of : List ℕ → Option Zone
zone_of word =
    if bytes_eq word (codes "GMT") || bytes_eq word (codes "UT") || bytes_eq word (codes "UTC") then Some (record { ahead = 0; behind = 0 })
    else if length word == 5 then with_sign (slice_index word 0) (clock_of (take 2 (drop 1 word)) (drop 3 word)) else None
