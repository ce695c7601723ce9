-- The reading of a date agrees with what a date is.
use Rattle.std.proofs.Common.{◌≡◌, ◌≤◌, ◌<◌, ℕ, ◌+◌, ◌-◌, ◌*◌, ◌==◌, ◌&&◌, Bool, true, false, List, [], ◌∷◌, ◌++◌, length, take, drop, get_or, Option, Some, None, MatchOption, refl, sym, ◌∙◌, ap, subst, arith, pos, append_assoc, drop-cons}
use Rattle.std.proofs.Math.ListN.{drop_of_length-le}
use Rattle.std.specs.Prelude.{nat_le, nat_lt, not}
use Rattle.std.specs.Char.{is_ascii_alphabetic}
use Rattle.std.specs.List.{list_all, position_or_len, prefix_len}
use Rattle.std.proofs.lemmas.Bool.{and_from, and_parts, eqb-true, le-leb, leb-true, ltb-false, ltb-true}
use Rattle.std.proofs.lemmas.Bool.Decides.{nat_tests}
use Rattle.std.proofs.lemmas.List.{take-append-drop}
use Rattle.std.proofs.lemmas.List.Folds.{list_all-append}
use Rattle.std.proofs.lemmas.List.Sums.{prefix_len_stops}
use Rattle.jiff.specs.Words.{days_in_month}
use Rattle.nntp_lines.specs.StatusLine.{is_end_or_space}
use Rattle.overview_lines.specs.Date.{IsDate, Words, behind_word, date_of, day_in, day_number, first_word, is_space, is_weekday, moment_of, seconds_of, with_day, with_day_of_month, with_month, with_time, with_year, with_zone, words_from, words_of}
use Rattle.overview_lines.specs.DateParts.{AreSpaces, IsMonth, IsNumber, IsTime, IsWeekday, missing, named, IsZone, Zone, day_of, month_of, time_of, year_of, zone_of}
use Rattle.overview_lines.proofs.DayLaws.{day_in_is, day_in_is_read}
use Rattle.overview_lines.proofs.PartLaws.{day_is, day_is_read, month_is, month_is_read, month_word, number_word, time_is, time_is_read, time_word, year_is, year_is_read, zone_is, zone_is_read, zone_word}
use Rattle.overview_lines.proofs.WordLaws.{IsCut, cut, last_seam, no_space_first, unspaced, word_seam}

none_number : {a : ℕ} → None ≡ Some a → ⊥
none_number e = cc

some_number : {a b : ℕ} → Some a ≡ Some b → a ≡ b
some_number e = cc

-- ---- the words of a date

-- words behind each other are the words of a text
words_are : (t0 t1 t2 t3 t4 day month year time zone : List ℕ) → (first_word t0 ≡ day) × (behind_word t0 ≡ t1) → (first_word t1 ≡ month) × (behind_word t1 ≡ t2) →
    (first_word t2 ≡ year) × (behind_word t2 ≡ t3) → (first_word t3 ≡ time) × (behind_word t3 ≡ t4) → first_word t4 ≡ zone →
    words_from t0 ≡ record { day = day; month = month; year = year; time = time; zone = zone }
unfolding words_from
words_are t0 t1 t2 t3 t4 day month year time zone a b c d e = cc

-- ---- the day of the week

-- what has fewer than four bytes is none
short_is_none : (word : List ℕ) → length word ≤ 2 → is_weekday word ≡ false
short_is_none [] few = refl
short_is_none (a ∷ []) few = refl
short_is_none (a ∷ b ∷ []) few = refl
short_is_none (a ∷ b ∷ c ∷ more) few = absurd (omega arith)

no_weekday : (text : List ℕ) → is_weekday (first_word text) ≡ false → words_of text ≡ words_from text
unfolding words_of
no_weekday text none = rw none refl

a_weekday : (text : List ℕ) → is_weekday (first_word text) ≡ true → words_of text ≡ words_from (behind_word text)
unfolding words_of
a_weekday text is = rw is refl

letter_unspaced : (byte : ℕ) → is_ascii_alphabetic byte ≡ true → unspaced byte ≡ true
letter_unspaced byte h = grind (arith, nat_tests)

letters_unspaced : (letters : List ℕ) → list_all is_ascii_alphabetic letters ≡ true → list_all unspaced letters ≡ true
letters_unspaced [] all = refl
letters_unspaced (x ∷ xs) all =
    let parts = and_parts (is_ascii_alphabetic x) (list_all is_ascii_alphabetic xs) all in
    and_from (unspaced x) (list_all unspaced xs) (letter_unspaced x parts.0) (letters_unspaced xs parts.1)

name_is_weekday : (name : List ℕ) → length name ≡ 3 → list_all is_ascii_alphabetic name ≡ true → is_weekday (name ++ 44 ∷ []) ≡ true
name_is_weekday [] three letters = absurd (omega arith)
name_is_weekday (a ∷ []) three letters = absurd (omega arith)
name_is_weekday (a ∷ b ∷ []) three letters = absurd (omega arith)
name_is_weekday (a ∷ b ∷ c ∷ []) three letters = rw letters refl
name_is_weekday (a ∷ b ∷ c ∷ d ∷ more) three letters = absurd (omega arith)

weekday_words : (name spaces rest : List ℕ) → length name ≡ 3 → list_all is_ascii_alphabetic name ≡ true → AreSpaces spaces → prefix_len is_space rest ≡ 0 →
    words_of ((name ++ 44 ∷ spaces) ++ rest) ≡ words_from rest
weekday_words name spaces rest three letters are_spaces starts =
    ap words_of whole ∙ a_weekday ((name ++ 44 ∷ []) ++ (spaces ++ rest)) (rw seam.0 (name_is_weekday name three letters)) ∙ ap words_from seam.1
  where
    whole : (name ++ 44 ∷ spaces) ++ rest ≡ (name ++ 44 ∷ []) ++ (spaces ++ rest)
    whole = append_assoc name (44 ∷ spaces) rest ∙ sym (append_assoc name (44 ∷ []) (spaces ++ rest))

    plain : list_all unspaced (name ++ 44 ∷ []) ≡ true
    plain = list_all-append unspaced name (44 ∷ []) ∙ and_from (list_all unspaced name) (list_all unspaced (44 ∷ [])) (letters_unspaced name letters) refl

    seam : (first_word ((name ++ 44 ∷ []) ++ (spaces ++ rest)) ≡ name ++ 44 ∷ []) × (behind_word ((name ++ 44 ∷ []) ++ (spaces ++ rest)) ≡ rest)
    seam = word_seam (name ++ 44 ∷ []) spaces rest plain are_spaces starts

-- the first word of a text that is a day of the week, and the spaces behind it
weekday_is : (word gap : List ℕ) → is_weekday word ≡ true → list_all is_space gap ≡ true → 1 ≤ length gap → IsWeekday (word ++ gap)
weekday_is word gap is all some = go word (eqb-true (length word) 4 four) letters comma
  where
    parts : (((length word == 4) && list_all is_ascii_alphabetic (take 3 word)) ≡ true) × ((get_or word 3 0 == 44) ≡ true)
    parts = and_parts ((length word == 4) && list_all is_ascii_alphabetic (take 3 word)) (get_or word 3 0 == 44) is

    four : (length word == 4) ≡ true
    four = (and_parts (length word == 4) (list_all is_ascii_alphabetic (take 3 word)) parts.0).0

    letters : list_all is_ascii_alphabetic (take 3 word) ≡ true
    letters = (and_parts (length word == 4) (list_all is_ascii_alphabetic (take 3 word)) parts.0).1

    comma : get_or word 3 0 ≡ 44
    comma = eqb-true (get_or word 3 0) 44 parts.1

    go : (word : List ℕ) → length word ≡ 4 → list_all is_ascii_alphabetic (take 3 word) ≡ true → get_or word 3 0 ≡ 44 → IsWeekday (word ++ gap)
    go [] long letters comma = absurd (omega arith)
    go (a ∷ []) long letters comma = absurd (omega arith)
    go (a ∷ b ∷ []) long letters comma = absurd (omega arith)
    go (a ∷ b ∷ c ∷ []) long letters comma = absurd (omega arith)
    go (a ∷ b ∷ c ∷ d ∷ []) long letters comma = named (a ∷ b ∷ c ∷ []) gap (ap (λ (x : ℕ). a ∷ b ∷ c ∷ x ∷ gap) comma) refl letters (record { some = some; all = all })
    go (a ∷ b ∷ c ∷ d ∷ e ∷ more) long letters comma = absurd (omega arith)

-- ---- what words say

moment_is_read : (day time seconds : ℕ) (zone : Zone) → seconds + zone.ahead ≡ day * 86400 + time + zone.behind → moment_of day time zone ≡ Some seconds
moment_is_read day time seconds zone is =
    let room : nat_le zone.ahead (day * 86400 + time + zone.behind) ≡ true = le-leb zone.ahead (day * 86400 + time + zone.behind) (omega arith) in
    let left : day * 86400 + time + zone.behind - zone.ahead ≡ seconds = omega arith in
    rw room (ap (λ (n : ℕ). Some n) left)

moment_is : (day time seconds : ℕ) (zone : Zone) → moment_of day time zone ≡ Some seconds → seconds + zone.ahead ≡ day * 86400 + time + zone.behind
moment_is day time seconds zone is = by_test (nat_le zone.ahead (day * 86400 + time + zone.behind)) refl
  where
    by_test : (test : Bool) → nat_le zone.ahead (day * 86400 + time + zone.behind) ≡ test → seconds + zone.ahead ≡ day * 86400 + time + zone.behind
    by_test false e = absurd (none_number {a = seconds} (rw e at is))
    by_test true e =
        let same : day * 86400 + time + zone.behind - zone.ahead ≡ seconds = some_number (rw e at is) in
        omega (arith, same, leb-true zone.ahead (day * 86400 + time + zone.behind) e)

month_length : (year month : ℕ) → days_in_month (pos year) month ≤ 31
month_length year month = grind arith

-- the text behind the day of the week
abbrev dated : {text : List ℕ} {seconds : ℕ} → IsDate text seconds → List ℕ
dated h = h.day_digits ++ (h.day_end ++ (h.month_name ++ (h.month_end ++ (h.year_digits ++ (h.year_end ++ (h.time_text ++ (h.time_end ++ (h.zone_text ++ h.behind))))))))

abbrev words_said : {text : List ℕ} {seconds : ℕ} → IsDate text seconds → Words
words_said h = record { day = h.day_digits; month = h.month_name; year = h.year_digits; time = h.time_text; zone = h.zone_text }

module _ (text : List ℕ) (seconds : ℕ) (h : IsDate text seconds) where
  dated_words : words_from (dated h) ≡ words_said h
  dated_words =
      let zone_t = h.zone_text ++ h.behind in
      let time_t = h.time_text ++ (h.time_end ++ zone_t) in
      let year_t = h.year_digits ++ (h.year_end ++ time_t) in
      let month_t = h.month_name ++ (h.month_end ++ year_t) in
      let month_w = month_word h.month_name h.month h.is_month in
      let year_w = number_word 4 4 h.year_digits h.year h.is_year in
      let time_w = time_word h.time_text h.time h.is_time in
      let zone_w = zone_word h.zone_text h.zone h.is_zone in
      words_are (dated h) month_t year_t time_t zone_t h.day_digits h.month_name h.year_digits h.time_text h.zone_text
      (word_seam h.day_digits h.day_end month_t (number_word 1 2 h.day_digits h.day h.is_day).unspaced h.spaces.0 (no_space_first h.month_name (h.month_end ++ year_t) month_w))
      (word_seam h.month_name h.month_end year_t month_w.unspaced h.spaces.1 (no_space_first h.year_digits (h.year_end ++ time_t) year_w))
      (word_seam h.year_digits h.year_end time_t year_w.unspaced h.spaces.2 (no_space_first h.time_text (h.time_end ++ zone_t) time_w))
      (word_seam h.time_text h.time_end zone_t time_w.unspaced h.spaces.3 (no_space_first h.zone_text h.behind zone_w))
      (last_seam h.zone_text h.behind zone_w.unspaced h.ended)

  starts_plain : prefix_len is_space (dated h) ≡ 0
  starts_plain = no_space_first h.day_digits _ (number_word 1 2 h.day_digits h.day h.is_day)

  -- a day is no day of the week
  day_first : first_word (dated h) ≡ h.day_digits
  day_first =
      let month_w = month_word h.month_name h.month h.is_month in
      (word_seam h.day_digits h.day_end _ (number_word 1 2 h.day_digits h.day h.is_day).unspaced h.spaces.0 (no_space_first h.month_name _ month_w)).0

  date_words : words_of text ≡ words_said h
  date_words = ap words_of h.whole ∙ by_weekday h.weekday h.is_weekday ∙ dated_words
    where
      by_weekday : (weekday : List ℕ) → IsWeekday weekday → words_of (weekday ++ dated h) ≡ words_from (dated h)
      by_weekday weekday (missing none) = ap (λ (w : List ℕ). words_of (w ++ dated h)) none ∙ no_weekday (dated h) (rw day_first (short_is_none h.day_digits h.is_day.few))
      by_weekday weekday (named name spaces whole three letters are_spaces) =
          ap (λ (w : List ℕ). words_of (w ++ dated h)) whole ∙ weekday_words name spaces (dated h) three letters are_spaces starts_plain

-- a date is read
pub date_is_read : (text : List ℕ) (seconds : ℕ) → IsDate text seconds → date_of text ≡ Some seconds
unfolding date_of seconds_of
date_is_read text seconds h =
    let day_most : h.day ≤ 31 = omega (arith, h.day_most, month_length h.year h.month) in
    let words = words_said h in
    ap (λ (w : Words). with_year w (year_of w.year)) (date_words text seconds h)
    ∙ ap (with_year words) (year_is_read h.year_digits h.year h.is_year h.year_least)
    ∙ ap (with_day_of_month words h.year) (day_is_read h.day_digits h.day h.is_day day_most)
    ∙ ap (with_month words h.year h.day) (month_is_read h.month_name h.month h.is_month)
    ∙ ap (with_day words) (day_in_is_read h.year h.month h.day h.day_least h.day_most)
    ∙ ap (with_time words (day_number h.year h.month h.day)) (time_is_read h.time_text h.time h.is_time)
    ∙ ap (with_zone (day_number h.year h.month h.day) h.time) (zone_is_read h.zone_text h.zone h.is_zone)
    ∙ moment_is_read (day_number h.year h.month h.day) h.time seconds h.zone h.value

-- ---- what is read is a date

pub record IsSaid (w : Words) (seconds : ℕ) : Type 0 where
  pub day : ℕ
  pub month : ℕ
  pub year : ℕ
  pub time : ℕ
  pub zone : Zone
  pub is_day : IsNumber 1 2 w.day day
  pub is_month : IsMonth w.month month
  pub is_year : IsNumber 4 4 w.year year
  pub is_time : IsTime w.time time
  pub is_zone : IsZone w.zone zone
  pub year_least : 1970 ≤ year
  pub day_least : 1 ≤ day
  pub day_most : day ≤ days_in_month (pos year) month
  pub value : seconds + zone.ahead ≡ day_number year month day * 86400 + time + zone.behind

none_zone : {a : Zone} → None ≡ Some a → ⊥
none_zone e = cc

module _ (w : Words) (seconds : ℕ) where
  by_zone : (year day month number time : ℕ) → (year_of w.year ≡ Some year) × (day_of w.day ≡ Some day) × (month_of w.month ≡ Some month) × (day_in year month day ≡ Some number) × (time_of w.time ≡ Some time) →
      (zone : Option Zone) → zone_of w.zone ≡ zone → with_zone number time zone ≡ Some seconds → IsSaid w seconds
  by_zone year day month number time are None e is = absurd (none_number is)
  by_zone year day month number time are (Some zone) e is =
      let the_year = year_is w.year year are.0 in
      let the_day = day_in_is year month day number are.3 in
      record {
        day = day;
        month = month;
        year = year;
        time = time;
        zone = zone;
        is_day = day_is w.day day are.1;
        is_month = month_is w.month month are.2;
        is_year = the_year.0;
        is_time = time_is w.time time are.4;
        is_zone = zone_is w.zone zone e;
        year_least = the_year.1;
        day_least = the_day.0;
        day_most = the_day.1;
        value = moment_is number time seconds zone is ∙ ap (λ (n : ℕ). n * 86400 + time + zone.behind) (sym the_day.2);
      }

  by_time : (year day month number : ℕ) → (year_of w.year ≡ Some year) × (day_of w.day ≡ Some day) × (month_of w.month ≡ Some month) × (day_in year month day ≡ Some number) →
      (time : Option ℕ) → time_of w.time ≡ time → with_time w number time ≡ Some seconds → IsSaid w seconds
  by_time year day month number are None e is = absurd (none_number is)
  by_time year day month number are (Some time) e is = by_zone year day month number time (are.0, are.1, are.2, are.3, e) (zone_of w.zone) refl is

  by_number : (year day month : ℕ) → (year_of w.year ≡ Some year) × (day_of w.day ≡ Some day) × (month_of w.month ≡ Some month) →
      (number : Option ℕ) → day_in year month day ≡ number → with_day w number ≡ Some seconds → IsSaid w seconds
  by_number year day month are None e is = absurd (none_number is)
  by_number year day month are (Some number) e is = by_time year day month number (are.0, are.1, are.2, e) (time_of w.time) refl is

  by_month : (year day : ℕ) → (year_of w.year ≡ Some year) × (day_of w.day ≡ Some day) → (month : Option ℕ) → month_of w.month ≡ month → with_month w year day month ≡ Some seconds → IsSaid w seconds
  by_month year day are None e is = absurd (none_number is)
  by_month year day are (Some month) e is = by_number year day month (are.0, are.1, e) (day_in year month day) refl is

  by_day : (year : ℕ) → year_of w.year ≡ Some year → (day : Option ℕ) → day_of w.day ≡ day → with_day_of_month w year day ≡ Some seconds → IsSaid w seconds
  by_day year one None e is = absurd (none_number is)
  by_day year one (Some day) e is = by_month year day (one, e) (month_of w.month) refl is

  by_year : (year : Option ℕ) → year_of w.year ≡ year → with_year w year ≡ Some seconds → IsSaid w seconds
  by_year None e is = absurd (none_number is)
  by_year (Some year) e is = by_day year e (day_of w.day) refl is

-- a text is a day of the week, if any, and what the words are cut from
pub record IsDated (text : List ℕ) : Type 0 where
  pub weekday : List ℕ
  pub rest : List ℕ
  pub whole : text ≡ weekday ++ rest
  pub words : words_of text ≡ words_from rest
  pub is_weekday : 1 ≤ length rest → IsWeekday weekday

dated_is : (text : List ℕ) → IsDated text
dated_is text = by_test (is_weekday (first_word text)) refl
  where
    first : IsCut text
    first = cut text

    by_test : (test : Bool) → is_weekday (first_word text) ≡ test → IsDated text
    by_test false e = record { weekday = []; rest = text; whole = refl; words = no_weekday text e; is_weekday = λ some. missing refl }
    by_test true e = record {
      weekday = first_word text ++ first.gap;
      rest = behind_word text;
      whole = first.whole ∙ sym (append_assoc (first_word text) first.gap (behind_word text));
      words = a_weekday text e;
      is_weekday = λ some. weekday_is (first_word text) first.gap e first.all (first.some some);
    }

-- a text whose first word isn't empty isn't either
word_some : (text : List ℕ) → 1 ≤ length (first_word text) → 1 ≤ length text
word_some [] some = some
word_some (x ∷ xs) some = omega arith

-- a text is its first word, and what stands behind it where that ends
pub record IsEnded (text : List ℕ) : Type 0 where
  pub behind : List ℕ
  pub whole : text ≡ first_word text ++ behind
  pub ended : is_end_or_space behind ≡ true

ended_is : (text : List ℕ) → IsEnded text
ended_is text = record { behind = drop at text; whole = sym (take-append-drop at text); ended = by_end (nat_lt at (length text)) refl }
  where
    at : ℕ
    at = position_or_len is_space text

    is_so : (test : Bool) → not test ≡ false → test ≡ true
    is_so true e = refl
    is_so false e = sym e

    by_end : (test : Bool) → nat_lt at (length text) ≡ test → is_end_or_space (drop at text) ≡ true
    by_end true e =
        let inside : at < length text = ltb-true at (length text) e in
        rw (drop-cons text at 0) (is_so (get_or text at 0 == 32) (prefix_len_stops unspaced text 0 inside))
    by_end false e = rw (drop_of_length-le text (ltb-false at (length text) e)) refl

-- the words of a text that say a moment are a date
said_is_date : (text weekday t0 : List ℕ) (seconds : ℕ) → text ≡ weekday ++ t0 → (1 ≤ length t0 → IsWeekday weekday) → IsSaid (words_from t0) seconds → IsDate text seconds
unfolding words_from
said_is_date text weekday t0 seconds whole weekday_is h = record {
  weekday = weekday;
  day_digits = first_word t0;
  month_name = first_word t1;
  year_digits = first_word t2;
  time_text = first_word t3;
  zone_text = first_word t4;
  behind = last.behind;
  day_end = c0.gap;
  month_end = c1.gap;
  year_end = c2.gap;
  time_end = c3.gap;
  whole = whole ∙ ap (λ (t : List ℕ). weekday ++ t) (c0.whole ∙ ap (λ (t : List ℕ). first_word t0 ++ (c0.gap ++ t)) (c1.whole ∙ ap (λ (t : List ℕ). first_word t1 ++ (c1.gap ++ t))
      (c2.whole ∙ ap (λ (t : List ℕ). first_word t2 ++ (c2.gap ++ t)) (c3.whole ∙ ap (λ (t : List ℕ). first_word t3 ++ (c3.gap ++ t)) last.whole))));
  spaces = (record { some = c0.some some1; all = c0.all }, record { some = c1.some some2; all = c1.all }, record { some = c2.some some3; all = c2.all }, record { some = c3.some some4; all = c3.all });
  ended = last.ended;
  day = h.day;
  month = h.month;
  year = h.year;
  time = h.time;
  zone = h.zone;
  is_weekday = weekday_is some0;
  is_day = h.is_day;
  is_month = h.is_month;
  is_year = h.is_year;
  is_time = h.is_time;
  is_zone = h.is_zone;
  year_least = h.year_least;
  day_least = h.day_least;
  day_most = h.day_most;
  value = h.value;
}
  where
    t1 : List ℕ
    t1 = behind_word t0

    t2 : List ℕ
    t2 = behind_word t1

    t3 : List ℕ
    t3 = behind_word t2

    t4 : List ℕ
    t4 = behind_word t3

    c0 : IsCut t0
    c0 = cut t0

    c1 : IsCut t1
    c1 = cut t1

    c2 : IsCut t2
    c2 = cut t2

    c3 : IsCut t3
    c3 = cut t3

    last : IsEnded t4
    last = ended_is t4

    some0 : 1 ≤ length t0
    some0 = word_some t0 (number_word 1 2 (first_word t0) h.day h.is_day).some

    some1 : 1 ≤ length t1
    some1 = word_some t1 (month_word (first_word t1) h.month h.is_month).some

    some2 : 1 ≤ length t2
    some2 = word_some t2 (number_word 4 4 (first_word t2) h.year h.is_year).some

    some3 : 1 ≤ length t3
    some3 = word_some t3 (time_word (first_word t3) h.time h.is_time).some

    some4 : 1 ≤ length t4
    some4 = word_some t4 (zone_word (first_word t4) h.zone h.is_zone).some

pub read_is_date : (text : List ℕ) (seconds : ℕ) → date_of text ≡ Some seconds → IsDate text seconds
unfolding date_of seconds_of
read_is_date text seconds is =
    let dated = dated_is text in
    let said = by_year (words_from dated.rest) seconds (year_of (words_from dated.rest).year) refl (subst (λ (w : Words). with_year w (year_of w.year) ≡ Some seconds) dated.words is) in
    said_is_date text dated.weekday dated.rest seconds dated.whole dated.is_weekday said

pub unread_is_none : (text : List ℕ) → date_of text ≡ None → (seconds : ℕ) → ¬ IsDate text seconds
unread_is_none text none seconds h = none_number (sym none ∙ date_is_read text seconds h)

-- what is read, or isn't, says whether there is a date
pub read_says : (text : List ℕ) (found : Option ℕ) → found ≡ date_of text → MatchOption found ((seconds : ℕ) → ¬ IsDate text seconds) (IsDate text)
read_says text None is = unread_is_none text (sym is)
read_says text (Some seconds) is = read_is_date text seconds (sym is)
