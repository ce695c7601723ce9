-- The date of an article, as an overview gives it (RFC 5322, 3.3). That years begin with 1970 and have four digits, that one or
-- more spaces stand between two parts, and that what follows the zone isn't read: these are choices of this project.
use Rattle.std.specs.Prelude.{◌≡◌, ℕ, zero, suc, ◌+◌, ◌-◌, ◌*◌, ◌≤◌, ◌&&◌, ◌==◌, pos, Bool, nat_le, if◌then◌else◌, List, ◌++◌, length, take, drop, slice_index, Option, Some, None, IsTrue}
use Rattle.std.specs.Char.{is_ascii_alphabetic}
use Rattle.std.specs.List.{list_all, position_or_len, prefix_len}
use Rattle.jiff.specs.Words.{IsYmd, days_in_month, days_in_year, epoch_day}
use Rattle.jiff_core.specs.declared.civil.date.Date.{Date}
use Rattle.nntp_lines.specs.StatusLine.{is_end_or_space}
use Rattle.overview_lines.specs.declared.date.DateWords.{DateWords}
use Rattle.overview_lines.specs.DateParts.{AreSpaces, IsMonth, IsNumber, IsTime, IsWeekday, IsZone, Zone, day_of, month_of, time_of, year_of, zone_of}

-- ---- days

-- the days of the first n years from 1970 on
unfoldable pub days_of_years : ℕ → ℕ
days_of_years zero = 0
days_of_years (suc n) = days_of_years n + days_in_year (pos (1970 + n))

-- the days of the first n months of a year
unfoldable pub days_of_months : ℕ → ℕ → ℕ
days_of_months year zero = 0
days_of_months year (suc n) = days_of_months year n + days_in_month (pos year) (suc n)

-- the number of a day from 1970 on: 0 for 1 January 1970
abbrev pub day_number : (year month day : ℕ) → ℕ
day_number year month day = days_of_years (year - 1970) + days_of_months year (month - 1) + (day - 1)

-- ---- a date

-- a text that begins with a date, and the date's seconds of Unix time
pub record IsDate (text : List ℕ) (seconds : ℕ) : Type 0 where
  pub weekday : List ℕ
  pub day_digits : List ℕ
  pub month_name : List ℕ
  pub year_digits : List ℕ
  pub time_text : List ℕ
  pub zone_text : List ℕ
  pub behind : List ℕ
  pub day_end : List ℕ
  pub month_end : List ℕ
  pub year_end : List ℕ
  pub time_end : List ℕ
  pub whole : text ≡ weekday ++ (day_digits ++ (day_end ++ (month_name ++ (month_end ++ (year_digits ++ (year_end ++ (time_text ++ (time_end ++ (zone_text ++ behind)))))))))
  pub spaces : AreSpaces day_end × AreSpaces month_end × AreSpaces year_end × AreSpaces time_end
  pub ended : IsTrue (is_end_or_space behind)
  pub day : ℕ
  pub month : ℕ
  pub year : ℕ
  pub time : ℕ
  pub zone : Zone
  pub is_weekday : IsWeekday weekday
  pub is_day : IsNumber 1 2 day_digits day
  pub is_month : IsMonth month_name month
  pub is_year : IsNumber 4 4 year_digits year
  pub is_time : IsTime time_text time
  pub is_zone : IsZone zone_text zone
  pub year_least : 1970 ≤ year
  pub day_least : 1 ≤ day
  pub day_most : day ≤ days_in_month (pos year) month
  pub value : seconds + zone.ahead ≡ day_number year month day * 86400 + time + zone.behind

-- ---- the reading of a date

abbrev pub is_space : ℕ → Bool
is_space byte = byte == 32

-- what stands before the first space, and what stands behind the spaces there
abbrev pub first_word : List ℕ → List ℕ
first_word text = take (position_or_len is_space text) text

abbrev pub without_spaces : List ℕ → List ℕ
without_spaces text = drop (prefix_len is_space text) text

abbrev pub behind_word : List ℕ → List ℕ
behind_word text = without_spaces (drop (position_or_len is_space text) text)

-- three letters and a comma
abbrev pub is_weekday : List ℕ → Bool
is_weekday word = (length word == 4) && list_all is_ascii_alphabetic (take 3 word) && (slice_index word 3 == 44)

-- the words that say a date; where one is missing it is empty
pub record Words : Type 0 where
  pub day : List ℕ
  pub month : List ℕ
  pub year : List ℕ
  pub time : List ℕ
  pub zone : List ℕ

-- the words as plain texts
abbrev pub words_in : DateWords → Words
words_in w = record { day = w.day.now; month = w.month.now; year = w.year.now; time = w.time.now; zone = w.zone.now }

unfoldable pub words_from : List ℕ → Words
words_from text =
    let month = behind_word text in let year = behind_word month in let time = behind_word year in let zone = behind_word time in
    record { day = first_word text; month = first_word month; year = first_word year; time = first_word time; zone = first_word zone }

unfoldable pub words_of : List ℕ → Words
words_of text = if is_weekday (first_word text) then words_from (behind_word text) else words_from text

-- the number of a day, if the calendar has it
unfoldable pub day_in : (year month day : ℕ) → Option ℕ
day_in year month day = if nat_le 1 day && nat_le day (days_in_month (pos year) month) then Some (day_number year month day) else None

-- the seconds from 1970 on, if the moment isn't before
abbrev pub moment_of : (day time : ℕ) → Zone → Option ℕ
moment_of day time zone = if nat_le zone.ahead (day * 86400 + time + zone.behind) then Some (day * 86400 + time + zone.behind - zone.ahead) else None

abbrev pub with_zone : ℕ → ℕ → Option Zone → Option ℕ
with_zone day time None = None
with_zone day time (Some zone) = moment_of day time zone

abbrev pub with_time : Words → ℕ → Option ℕ → Option ℕ
with_time words day None = None
with_time words day (Some time) = with_zone day time (zone_of words.zone)

abbrev pub with_day : Words → Option ℕ → Option ℕ
with_day words None = None
with_day words (Some day) = with_time words day (time_of words.time)

abbrev pub with_month : Words → ℕ → ℕ → Option ℕ → Option ℕ
with_month words year day None = None
with_month words year day (Some month) = with_day words (day_in year month day)

abbrev pub with_day_of_month : Words → ℕ → Option ℕ → Option ℕ
with_day_of_month words year None = None
with_day_of_month words year (Some day) = with_month words year day (month_of words.month)

abbrev pub with_year : Words → Option ℕ → Option ℕ
with_year words None = None
with_year words (Some year) = with_day_of_month words year (day_of words.day)

-- the seconds of Unix time that words say
unfoldable pub seconds_of : Words → Option ℕ
seconds_of words = with_year words (year_of words.year)

-- and those that a text says, if it begins with a date
unfoldable pub date_of : List ℕ → Option ℕ
date_of text = seconds_of (words_of text)

-- ---- laws

-- a text says one moment at most, and that is what is read
abbrev pub DateIsRead : Type 0
DateIsRead = (text : List ℕ) (seconds : ℕ) → IsDate text seconds → date_of text ≡ Some seconds

-- the number of a day is the one that the calendar gives it
abbrev pub DayNumbersAreKnown : Type 0
DayNumbersAreKnown = (year month day : ℕ) (date : Date) → 1970 ≤ year → IsYmd (pos year) (pos month) (pos day) date → epoch_day date ≡ pos (day_number year month day)
