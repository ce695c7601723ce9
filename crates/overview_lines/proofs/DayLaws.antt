-- The number of a day is the one that the calendar of `jiff` gives it.
use Rattle.std.proofs.Common.{◌≡◌, ◌≤◌, ℕ, zero, suc, ◌+◌, ◌-◌, ◌&&◌, Bool, true, false, Some, None, refl, ◌∙◌, ap, subst, arith, ℤ, pos, ◌-ℤ◌, to_z, w8, w16}
use Rattle.std.specs.Prelude.{nat_le, if◌then◌else◌}
use Rattle.std.proofs.lemmas.Bool.{and_parts, le-leb, leb-true}
use Rattle.std.proofs.lemmas.Int.{to_z_pos}
use Rattle.jiff_core.specs.declared.civil.date.Date.{Date}
use Rattle.jiff_core.specs.Calendar.{IsDate, day_count, days_from_civil, days_in_month}
use Rattle.jiff_core.specs.Calendar.{days_of_months as their_months, days_of_years as their_years}
use Rattle.jiff_core.specs.Date.{IsYmd, epoch_day}
use Rattle.jiff_core.proofs.CalendarLemmas.{day_count-epoch, days_of_months-zero}
use Rattle.jiff_core.proofs.DateLemmas.{civil}
use Rattle.jiff_core.proofs.SignedLemmas.{signed_arith}
use Rattle.overview_lines.specs.Date.{day_in, day_number, days_of_months, days_of_years}

-- the days of whole months
months_same : (year n : ℕ) → their_months (pos year) n ≡ days_of_months year n
unfolding their_months days_of_months
months_same year zero = refl
months_same year (suc n) = ap (λ (days : ℕ). days + days_in_month (pos year) (suc n)) (months_same year n)

-- the days of whole years, from a base on
years_on : (base n : ℕ) → base ≡ 11970 → their_years (n + base) ≡ their_years base + days_of_years n
unfolding their_years days_of_years
years_on base zero is = let same : 0 + base ≡ base = omega arith in rw same (omega arith)
years_on base (suc n) is =
    let next : suc n + base ≡ suc (n + base) = omega arith in
    let year : pos (n + base) -ℤ pos 10000 ≡ pos (1970 + n) = omega (arith, signed_arith) in
    rw next (rw year (omega (arith, years_on base n is)))

-- the days before 1970, as they count them
epoch : their_years 11970 ≡ 4371953
unfolding day_count
epoch = omega (arith, day_count-epoch, days_of_months-zero (pos 1970))

years_are : (year : ℕ) → 1970 ≤ year → their_years (year + 10000) ≡ 4371953 + days_of_years (year - 1970)
years_are year least =
    let place : year - 1970 + 11970 ≡ year + 10000 = omega arith in
    omega (arith, epoch, rw place at (years_on 11970 (year - 1970) refl))

pub civil_number : (year month day : ℕ) → 1970 ≤ year → 1 ≤ day → days_from_civil (pos year) month day ≡ pos (day_number year month day)
unfolding days_from_civil day_count
civil_number year month day least some =
    let theirs : day_count (pos year) month day ≡ 4371953 + day_number year month day = omega (arith, years_are year least, months_same year (month - 1)) in
    rw (theirs, day_count-epoch) (omega (arith, signed_arith))

pub day_numbers_are_known : (year month day : ℕ) (date : Date) → 1970 ≤ year → IsYmd (pos year) (pos month) (pos day) date → epoch_day date ≡ pos (day_number year month day)
day_numbers_are_known year month day date least is =
    let the_month : date.month ≡ month = cc in
    let the_day : date.day ≡ day = cc in
    let some : 1 ≤ day = omega (arith, (civil date).2.0, the_day) in
    rw (is.0, the_month, the_day) (civil_number year month day least some)

-- ---- days that the calendar has

none_number : {a : ℕ} → None ≡ Some a → ⊥
none_number e = cc

some_number : {a b : ℕ} → Some a ≡ Some b → a ≡ b
some_number e = cc

pub day_in_is_read : (year month day : ℕ) → 1 ≤ day → day ≤ days_in_month (pos year) month → day_in year month day ≡ Some (day_number year month day)
unfolding day_in
day_in_is_read year month day least most = rw (le-leb 1 day least, le-leb day (days_in_month (pos year) month) most) refl

pub day_in_is : (year month day number : ℕ) → day_in year month day ≡ Some number → (1 ≤ day) × (day ≤ days_in_month (pos year) month) × (day_number year month day ≡ number)
unfolding day_in
day_in_is year month day number is = by_test (nat_le 1 day && nat_le day (days_in_month (pos year) month)) refl
  where
    by_test : (test : Bool) → (nat_le 1 day && nat_le day (days_in_month (pos year) month)) ≡ test → (1 ≤ day) × (day ≤ days_in_month (pos year) month) × (day_number year month day ≡ number)
    by_test false e = absurd (none_number {a = number} (rw e at is))
    by_test true e =
        let parts = and_parts (nat_le 1 day) (nat_le day (days_in_month (pos year) month)) e in
        (leb-true 1 day parts.0, leb-true day (days_in_month (pos year) month) parts.1, some_number (rw e at is))

-- a day that the calendar doesn't have has no number
pub day_in_is_none : (year month day : ℕ) → year ≤ 9999 → 1 ≤ month → month ≤ 12 → (IsDate (pos year) (pos month) (pos day) → ⊥) → day_in year month day ≡ None
unfolding day_in
day_in_is_none year month day late least most never = by_test (nat_le 1 day && nat_le day (days_in_month (pos year) month)) refl
  where
    is_date : 1 ≤ day → day ≤ days_in_month (pos year) month → IsDate (pos year) (pos month) (pos day)
    is_date some few = ((omega (arith, signed_arith), omega (arith, signed_arith)), (omega (arith, signed_arith), omega (arith, signed_arith)), (omega (arith, signed_arith), omega (arith, signed_arith)))

    by_test : (test : Bool) → (nat_le 1 day && nat_le day (days_in_month (pos year) month)) ≡ test → (if test then Some (day_number year month day) else None) ≡ None
    by_test false e = refl
    by_test true e =
        let parts = and_parts (nat_le 1 day) (nat_le day (days_in_month (pos year) month)) e in
        absurd (never (is_date (leb-true 1 day parts.0) (leb-true day (days_in_month (pos year) month) parts.1)))

-- small numbers, as the constructor of a date takes them
pub same_parts : (year month day : ℕ) → year ≤ 9999 → month ≤ 12 → day ≤ 31 → (to_z w16 year ≡ pos year) × (to_z w8 month ≡ pos month) × (to_z w8 day ≡ pos day)
same_parts year month day years months days = (to_z_pos w16 year (omega arith), to_z_pos w8 month (omega arith), to_z_pos w8 day (omega arith))

-- a day of a date that was made has its number
pub made_number : (year month day : ℕ) (date plain : Date) (number : ℤ) → 1970 ≤ year → year ≤ 9999 → month ≤ 12 → day ≤ 31 → IsYmd (to_z w16 year) (to_z w8 month) (to_z w8 day) date →
    plain ≡ date → number ≡ epoch_day plain → number ≡ pos (day_number year month day)
made_number year month day date plain number least years months days is same numbered =
    let parts = same_parts year month day years months days in
    numbered ∙ ap (λ (d : Date). epoch_day d) same ∙ day_numbers_are_known year month day date least (is.0 ∙ parts.0, is.1 ∙ parts.1, is.2 ∙ parts.2)

pub made_day : (year month day : ℕ) → year ≤ 9999 → month ≤ 12 → day ≤ 31 → IsDate (to_z w16 year) (to_z w8 month) (to_z w8 day) → day_in year month day ≡ Some (day_number year month day)
made_day year month day years months days is =
    let parts = same_parts year month day years months days in
    let date : IsDate (pos year) (pos month) (pos day) =
    subst (λ (y : ℤ). IsDate y (pos month) (pos day)) parts.0
    (subst (λ (m : ℤ). IsDate (to_z w16 year) m (pos day)) parts.1 (subst (λ (d : ℤ). IsDate (to_z w16 year) (to_z w8 month) d) parts.2 is)) in
    day_in_is_read year month day (omega (arith, signed_arith, date.2)) (omega (arith, signed_arith, date.2))

pub no_day : (year month day : ℕ) → year ≤ 9999 → 1 ≤ month → month ≤ 12 → day ≤ 31 → (IsDate (to_z w16 year) (to_z w8 month) (to_z w8 day) → ⊥) → day_in year month day ≡ None
no_day year month day years least months days never =
    let parts = same_parts year month day years months days in
    day_in_is_none year month day years least months (λ date. never (rw (parts.0, parts.1, parts.2) date))
