-- The definitions of counts, of lines of an overview and of dates, computed on cases that were written out by hand.
use Rattle.std.proofs.Common.{◌≡◌, Some, None, Ok, Err, refl, lit≤, lit<}
use Rattle.std.specs.Prelude.{codes, replicate}
use Rattle.overview_lines.specs.declared.over.OverFault.TheVariants.{TooLong, TooFewFields, BadNumber, BadText, BadId}
use Rattle.overview_lines.specs.Count.{IsCount, count_at, count_of, last_count, number_before}
use Rattle.overview_lines.specs.Date.{date_of, day_in, day_number, days_of_months, days_of_years, seconds_of, words_from, words_of}
use Rattle.overview_lines.specs.DateParts.{IsMonth, july, clock_of, day_of, month_of, time_of, two_digits, year_of, zone_of}
use Rattle.overview_lines.specs.OverLine.{HasOverFault, too_long}
use Rattle.overview_lines.specs.OverReading.{fields_of, id_of, over_of, over_said}

-- ---- counts

pub count : count_of (codes "\"b.bin\" yEnc (1/5)") ≡ Some (record { start = 13; end = 18; part = 1; total = 5 })
unfolding count_of last_count count_at number_before
count = refl

-- of two counts the later one, and of two brackets the inner one
pub later_count : count_of (codes "(1/2) \"b\" (2/3) yEnc") ≡ Some (record { start = 10; end = 15; part = 2; total = 3 })
unfolding count_of last_count count_at number_before
later_count = refl

pub inner_bracket : count_of (codes "((1/2)") ≡ Some (record { start = 1; end = 6; part = 1; total = 2 })
unfolding count_of last_count count_at number_before
inner_bracket = refl

-- leading zeros, and more parts than there are
pub zeros : count_of (codes "(001/003)") ≡ Some (record { start = 0; end = 9; part = 1; total = 3 })
unfolding count_of last_count count_at number_before
zeros = refl

pub third_of_none : count_of (codes "(3/0)") ≡ Some (record { start = 0; end = 5; part = 3; total = 0 })
unfolding count_of last_count count_at number_before
third_of_none = refl

-- no part 0, and no eight digits
pub part_zero : count_of (codes "(1/2) (0/3)") ≡ Some (record { start = 0; end = 5; part = 1; total = 2 })
unfolding count_of last_count count_at number_before
part_zero = refl

pub eight_digits : count_of (codes "(00000001/2)") ≡ None
unfolding count_of last_count count_at number_before
eight_digits = refl

pub seven_digits : count_of (codes "(0000001/9999999)") ≡ Some (record { start = 0; end = 17; part = 1; total = 9999999 })
unfolding count_of last_count count_at number_before
seven_digits = refl

pub not_ended : count_of (codes "(1/2") ≡ None
unfolding count_of last_count count_at number_before
not_ended = refl

-- the same by the definition of a count
pub is_count : IsCount (codes "x(3/0)y") (record { start = 1; end = 6; part = 3; total = 0 })
is_count = record {
  before = codes "x";
  part = codes "3";
  total = codes "0";
  behind = codes "y";
  whole = refl;
  start_is = refl;
  end_is = refl;
  part_is = refl;
  total_is = refl;
  first = lit≤ tt;
}

-- ---- lines of an overview

-- the first line of RFC 3977, 8.3.3, without what follows its eighth field
pub overview : over_of (codes "3000234\tI am just a test article\t\"Demo User\" <nobody@example.com>\t6 Oct 1998 04:38:40 -0500\t<45223423@example.com>\t<45454@example.net>\t1234\t17")
    ≡ Ok (record {
      number = 3000234;
      subject = codes "I am just a test article";
      from = codes "\"Demo User\" <nobody@example.com>";
      date = codes "6 Oct 1998 04:38:40 -0500";
      id = codes "45223423@example.com";
      bytes = 1234;
    })
unfolding over_of fields_of over_said id_of
overview = refl

-- no bytes, and a ninth field
pub bytes_missing : over_of (codes "1\ts\tf\td\t<a@b>\t\t\t\tmore") ≡ Ok (record { number = 1; subject = codes "s"; from = codes "f"; date = codes "d"; id = codes "a@b"; bytes = 0 })
unfolding over_of fields_of over_said id_of
bytes_missing = refl

pub seven_fields : over_of (codes "1\ts\tf\td\t<a@b>\tr\t1") ≡ Err TooFewFields
unfolding over_of fields_of over_said id_of
seven_fields = refl

pub number_zero : over_of (codes "0\t\u{1}\tf\td\t<a@b>\tr\t1\tl") ≡ Err (BadNumber 1)
unfolding over_of fields_of over_said id_of
number_zero = refl

pub control_in_subject : over_of (codes "1\t\u{1f}\tf\t\u{1}\t<a@b>\tr\t1\tl") ≡ Err (BadText 2)
unfolding over_of fields_of over_said id_of
control_in_subject = refl

pub control_in_from : over_of (codes "1\ts\t\u{1}\t\u{1}\t<a@b>\tr\t1\tl") ≡ Err (BadText 3)
unfolding over_of fields_of over_said id_of
control_in_from = refl

pub control_in_date : over_of (codes "1\ts\tf\t\u{1}\ta@b\tr\t1\tl") ≡ Err (BadText 4)
unfolding over_of fields_of over_said id_of
control_in_date = refl

pub id_without_brackets : over_of (codes "1\ts\tf\td\ta@b\tr\tx\tl") ≡ Err BadId
unfolding over_of fields_of over_said id_of
id_without_brackets = refl

pub bytes_no_number : over_of (codes "1\ts\tf\td\t<a@b>\tr\tx\tl") ≡ Err (BadNumber 7)
unfolding over_of fields_of over_said id_of
bytes_no_number = refl

-- 4,097 bytes, by the definition
pub is_too_long : HasOverFault (replicate 4097 97) TooLong
is_too_long = too_long (lit< tt)

-- ---- days

pub first_day : day_number 1970 1 1 ≡ 0
unfolding days_of_years days_of_months
first_day = refl

pub leap_day : day_number 2000 2 29 ≡ 11016
unfolding days_of_years days_of_months
leap_day = refl

-- ---- dates

pub date : date_of (codes "Fri, 21 Nov 1997 09:55:06 -0600") ≡ Some 880127706
unfolding date_of words_of words_from seconds_of day_of month_of year_of time_of zone_of clock_of two_digits day_in days_of_years days_of_months
date = refl

pub ahead_of_utc : date_of (codes "Thu, 01 Jan 1970 02:00:10 +0200 (EET)") ≡ Some 10
unfolding date_of words_of words_from seconds_of day_of month_of year_of time_of zone_of clock_of two_digits day_in days_of_years days_of_months
ahead_of_utc = refl

pub before_1970 : date_of (codes "Thu, 01 Jan 1970 00:00:00 +0100") ≡ None
unfolding date_of words_of words_from seconds_of day_of month_of year_of time_of zone_of clock_of two_digits day_in days_of_years days_of_months
before_1970 = refl

pub leap_second : date_of (codes "31 Dec 2016  23:59:60   UTC") ≡ Some 1483228800
unfolding date_of words_of words_from seconds_of day_of month_of year_of time_of zone_of clock_of two_digits day_in days_of_years days_of_months
leap_second = refl

pub leap_day_of_2000 : date_of (codes "29 Feb 2000 12:00 GMT") ≡ Some 951825600
unfolding date_of words_of words_from seconds_of day_of month_of year_of time_of zone_of clock_of two_digits day_in days_of_years days_of_months
leap_day_of_2000 = refl

pub leap_day_of_2100 : date_of (codes "29 Feb 2100 12:00 GMT") ≡ None
unfolding date_of words_of words_from seconds_of day_of month_of year_of time_of zone_of clock_of two_digits day_in days_of_years days_of_months
leap_day_of_2100 = refl

pub no_zone : date_of (codes "1 Jul 2003 10:52") ≡ None
unfolding date_of words_of words_from seconds_of day_of month_of year_of time_of zone_of clock_of two_digits day_in days_of_years days_of_months
no_zone = refl

pub zone_with_more : date_of (codes "1 Jul 2003 10:52 +02000") ≡ None
unfolding date_of words_of words_from seconds_of day_of month_of year_of time_of zone_of clock_of two_digits day_in days_of_years days_of_months
zone_with_more = refl

-- the same by the definition of a month
pub is_month : IsMonth (codes "Jul") 7
is_month = july refl refl
