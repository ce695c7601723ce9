-- The reading of the parts of a date agrees with what they are.
use Rattle.std.proofs.Common.{◌≡◌, ◌≤◌, ℕ, ◌==◌, ◌||◌, ◌⊎◌, Bool, true, false, List, [], ◌∷◌, ◌++◌, length, take, drop, Option, Some, None, refl, sym, ◌∙◌, ap, subst, inl, inr, arith, lit≤, length-append}
use Rattle.std.proofs.lemmas.List.{append-nil}
use Rattle.std.specs.Prelude.{codes, nat_le, not, slice_index, if◌then◌else◌}
use Rattle.std.specs.Char.{is_ascii_digit}
use Rattle.std.specs.List.{list_all}
use Rattle.std.specs.Str.{bytes_eq}
use Rattle.std.proofs.lemmas.Bool.{and_from, and_parts, eq-eqb, eqb-true, le-leb, leb-true}
use Rattle.std.proofs.lemmas.Bool.Decides.{nat_tests}
use Rattle.std.proofs.lemmas.List.Folds.{list_all-append}
use Rattle.std.proofs.lemmas.Slice.Eq.{bytes_eq-Decides}
use Rattle.numbers.specs.Numbers.{decimal_of}
use Rattle.overview_lines.specs.Date.{is_space}
use Rattle.overview_lines.specs.DateParts.{IsClock, IsMonth, january, february, march, april, may, june, july, august, september, october, november, december, IsNumber, IsTime, to_minute, to_second, IsZone, east, west, utc, Zone, clock_of, day_of, month_of, time_of, two_digits, with_clock, with_hour, with_minute, with_second, with_sign, year_of, zone_of}
use Rattle.overview_lines.proofs.Digits.{few_value, within_is, within_parts}

none_number : {a : ℕ} → None ≡ Some a → ⊥
none_number e = cc

some_number : {a b : ℕ} → Some a ≡ Some b → a ≡ b
some_number e = cc

none_zone : {a : Zone} → None ≡ Some a → ⊥
none_zone e = cc

some_zone : {a b : Zone} → Some a ≡ Some b → a ≡ b
some_zone e = cc

-- ---- numbers

pub day_is_read : (word : List ℕ) (day : ℕ) → IsNumber 1 2 word day → day ≤ 31 → day_of word ≡ Some day
unfolding day_of
day_is_read word day h most = rw (le-leb (length word) 2 h.few, h.value_is) (within_is 0 31 day (omega arith) most)

-- digits are at least one
some_digit : (word : List ℕ) (value : ℕ) → decimal_of word ≡ Some value → 1 ≤ length word
some_digit [] value is = absurd (none_number is)
some_digit (d ∷ ds) value is = omega arith

pub day_is : (word : List ℕ) (day : ℕ) → day_of word ≡ Some day → IsNumber 1 2 word day
unfolding day_of
day_is word day is = by_length (nat_le (length word) 2) refl
  where
    by_length : (test : Bool) → nat_le (length word) 2 ≡ test → IsNumber 1 2 word day
    by_length false e = absurd (none_number {a = day} (rw e at is))
    by_length true e =
        let parts = within_parts 0 31 (decimal_of word) day (rw e at is) in
        record { some = some_digit word day parts.0; few = leb-true (length word) 2 e; value_is = parts.0 }

pub year_is_read : (word : List ℕ) (year : ℕ) → IsNumber 4 4 word year → 1970 ≤ year → year_of word ≡ Some year
unfolding year_of
year_is_read word year h least =
    let four : (length word == 4) ≡ true = eq-eqb (length word) 4 (omega (arith, h.some, h.few)) in
    rw (four, h.value_is) (within_is 1970 9999 year least (omega (arith, few_value 4 word year h.value_is h.few)))

pub year_is : (word : List ℕ) (year : ℕ) → year_of word ≡ Some year → IsNumber 4 4 word year × (1970 ≤ year)
unfolding year_of
year_is word year is = by_length (length word == 4) refl
  where
    by_length : (test : Bool) → (length word == 4) ≡ test → IsNumber 4 4 word year × (1970 ≤ year)
    by_length false e = absurd (none_number {a = year} (rw e at is))
    by_length true e =
        let parts = within_parts 1970 9999 (decimal_of word) year (rw e at is) in
        let four : length word ≡ 4 = eqb-true (length word) 4 e in
        (record { some = omega arith; few = omega arith; value_is = parts.0 }, parts.1)

pub two_are_read : (most : ℕ) (word : List ℕ) (value : ℕ) → IsNumber 2 2 word value → value ≤ most → two_digits most word ≡ Some value
unfolding two_digits
two_are_read most word value h le =
    let two : (length word == 2) ≡ true = eq-eqb (length word) 2 (omega (arith, h.some, h.few)) in
    rw (two, h.value_is) (within_is 0 most value (omega arith) le)

pub two_are : (most : ℕ) (word : List ℕ) (value : ℕ) → two_digits most word ≡ Some value → IsNumber 2 2 word value × (value ≤ most)
unfolding two_digits
two_are most word value is = by_length (length word == 2) refl
  where
    by_length : (test : Bool) → (length word == 2) ≡ test → IsNumber 2 2 word value × (value ≤ most)
    by_length false e = absurd (none_number {a = value} (rw e at is))
    by_length true e =
        let parts = within_parts 0 most (decimal_of word) value (rw e at is) in
        let two : length word ≡ 2 = eqb-true (length word) 2 e in
        (record { some = omega arith; few = omega arith; value_is = parts.0 }, parts.2)

-- ---- months

pub month_is_read : (word : List ℕ) (month : ℕ) → IsMonth word month → month_of word ≡ Some month
unfolding month_of
month_is_read word month (january is value) = rw (is, value) refl
month_is_read word month (february is value) = rw (is, value) refl
month_is_read word month (march is value) = rw (is, value) refl
month_is_read word month (april is value) = rw (is, value) refl
month_is_read word month (may is value) = rw (is, value) refl
month_is_read word month (june is value) = rw (is, value) refl
month_is_read word month (july is value) = rw (is, value) refl
month_is_read word month (august is value) = rw (is, value) refl
month_is_read word month (september is value) = rw (is, value) refl
month_is_read word month (october is value) = rw (is, value) refl
month_is_read word month (november is value) = rw (is, value) refl
month_is_read word month (december is value) = rw (is, value) refl

-- what is chosen by a name is of that name, or else of a later one
pick : (word name : List ℕ) (value month : ℕ) (rest : Option ℕ) → (word ≡ name → month ≡ value → IsMonth word month) → (rest ≡ Some month → IsMonth word month) →
    (if bytes_eq word name then Some value else rest) ≡ Some month → IsMonth word month
pick word name value month rest here later is = by_test (bytes_eq word name) refl
  where
    by_test : (test : Bool) → bytes_eq word name ≡ test → IsMonth word month
    by_test true e = here ((bytes_eq-Decides word name).0 e) (sym (some_number (rw e at is)))
    by_test false e = later (rw e at is)

pub month_is : (word : List ℕ) (month : ℕ) → month_of word ≡ Some month → IsMonth word month
unfolding month_of
month_is word month is =
    pick word (codes "Jan") 1 month _ january (pick word (codes "Feb") 2 month _ february (pick word (codes "Mar") 3 month _ march
    (pick word (codes "Apr") 4 month _ april (pick word (codes "May") 5 month _ may (pick word (codes "Jun") 6 month _ june
    (pick word (codes "Jul") 7 month _ july (pick word (codes "Aug") 8 month _ august (pick word (codes "Sep") 9 month _ september
    (pick word (codes "Oct") 10 month _ october (pick word (codes "Nov") 11 month _ november (pick word (codes "Dec") 12 month None december
    (λ none. absurd (none_number none))))))))))))) is

-- ---- times

pub clock_is_read : (between text : List ℕ) (seconds : ℕ) (h : IsClock between text seconds) → clock_of h.hour_digits h.minute_digits ≡ Some seconds
unfolding clock_of
clock_is_read between text seconds h =
    ap (λ (hour : Option ℕ). with_hour hour h.minute_digits) (two_are_read 23 h.hour_digits h.hour h.is_hour h.hour_most)
    ∙ ap (with_minute h.hour) (two_are_read 59 h.minute_digits h.minute h.is_minute h.minute_most) ∙ ap (λ (n : ℕ). Some n) (sym h.value)

pub clock_is : (between hour minute : List ℕ) (seconds : ℕ) → clock_of hour minute ≡ Some seconds → IsClock between (hour ++ (between ++ minute)) seconds
unfolding clock_of
clock_is between hour minute seconds is = by_hour (two_digits 23 hour) refl is
  where
    by_minute : (h : ℕ) → two_digits 23 hour ≡ Some h → (m : Option ℕ) → two_digits 59 minute ≡ m → with_minute h m ≡ Some seconds → IsClock between (hour ++ (between ++ minute)) seconds
    by_minute h e None f found = absurd (none_number found)
    by_minute h e (Some m) f found =
        let one = two_are 23 hour h e in
        let two = two_are 59 minute m f in
        record {
          hour_digits = hour;
          minute_digits = minute;
          hour = h;
          minute = m;
          whole = refl;
          is_hour = one.0;
          is_minute = two.0;
          hour_most = one.1;
          minute_most = two.1;
          value = sym (some_number found);
        }

    by_hour : (h : Option ℕ) → two_digits 23 hour ≡ h → with_hour h minute ≡ Some seconds → IsClock between (hour ++ (between ++ minute)) seconds
    by_hour None e found = absurd (none_number found)
    by_hour (Some h) e found = by_minute h e (two_digits 59 minute) refl found

-- two digits, as a list of two
pub record IsPair (digits : List ℕ) : Type 0 where
  pub first : ℕ
  pub second : ℕ
  pub whole : digits ≡ first ∷ second ∷ []

pub pair_of : (digits : List ℕ) (value : ℕ) → IsNumber 2 2 digits value → IsPair digits
pair_of digits value h = go digits (omega (arith, h.some, h.few))
  where
    go : (digits : List ℕ) → length digits ≡ 2 → IsPair digits
    go [] two = absurd (omega arith)
    go (a ∷ []) two = absurd (omega arith)
    go (a ∷ b ∷ []) two = record { first = a; second = b; whole = refl }
    go (a ∷ b ∷ c ∷ more) two = absurd (omega arith)

-- the same, digit by digit
pub digits_are_read : (between text : List ℕ) (seconds : ℕ) (h : IsClock between text seconds) (hour : IsPair h.hour_digits) (minute : IsPair h.minute_digits) →
    clock_of (hour.first ∷ hour.second ∷ []) (minute.first ∷ minute.second ∷ []) ≡ Some seconds
digits_are_read between text seconds h hour minute =
    ap (λ (digits : List ℕ). clock_of digits (minute.first ∷ minute.second ∷ [])) (sym hour.whole) ∙ ap (clock_of h.hour_digits) (sym minute.whole) ∙ clock_is_read between text seconds h

-- the minutes of a time, and what stands behind them
clock_in_time : (clock rest : List ℕ) (minutes : ℕ) → IsClock (58 ∷ []) clock minutes → time_of (clock ++ rest) ≡ with_clock (Some minutes) rest
unfolding time_of
clock_in_time clock rest minutes h =
    let hour = pair_of h.hour_digits h.hour h.is_hour in
    let minute = pair_of h.minute_digits h.minute h.is_minute in
    let whole : clock ≡ hour.first ∷ hour.second ∷ 58 ∷ minute.first ∷ minute.second ∷ [] =
    h.whole ∙ ap (λ (digits : List ℕ). digits ++ 58 ∷ h.minute_digits) hour.whole ∙ ap (λ (digits : List ℕ). hour.first ∷ hour.second ∷ 58 ∷ digits) minute.whole in
    let read = digits_are_read (58 ∷ []) clock minutes h hour minute in
    let long : nat_le 5 (length (hour.first ∷ hour.second ∷ 58 ∷ minute.first ∷ minute.second ∷ rest)) ≡ true = le-leb 5 _ (omega arith) in
    rw whole (rw long (ap (λ (c : Option ℕ). with_clock c rest) read))

pub time_is_read : (text : List ℕ) (seconds : ℕ) → IsTime text seconds → time_of text ≡ Some seconds
time_is_read text seconds (to_minute h) = rw append-nil at (clock_in_time text [] seconds h)
time_is_read text seconds (to_second clock digits minutes second whole h is_second most value) =
    ap time_of whole ∙ clock_in_time clock (58 ∷ digits) minutes h ∙ ap (with_second minutes) (two_are_read 60 digits second is_second most) ∙ ap (λ (n : ℕ). Some n) (sym value)

pub time_is : (text : List ℕ) (seconds : ℕ) → time_of text ≡ Some seconds → IsTime text seconds
unfolding time_of
time_is [] seconds is = absurd (none_number is)
time_is (a ∷ []) seconds is = absurd (none_number is)
time_is (a ∷ b ∷ []) seconds is = absurd (none_number is)
time_is (a ∷ b ∷ c ∷ []) seconds is = absurd (none_number is)
time_is (a ∷ b ∷ c ∷ d ∷ []) seconds is = absurd (none_number is)
time_is (a ∷ b ∷ c ∷ d ∷ e ∷ rest) seconds is = by_colon (c == 58) refl
  where
    clock : List ℕ
    clock = a ∷ b ∷ 58 ∷ d ∷ e ∷ []

    by_rest : (rest : List ℕ) (minutes : ℕ) → IsClock (58 ∷ []) clock minutes → with_clock (Some minutes) rest ≡ Some seconds → IsTime (clock ++ rest) seconds
    by_rest [] minutes h found = to_minute (subst (λ (n : ℕ). IsClock (58 ∷ []) clock n) (some_number found) h)
    by_rest (colon ∷ digits) minutes h found = by_second (colon == 58) refl
      where
        by_digits : colon ≡ 58 → (second : Option ℕ) → two_digits 60 digits ≡ second → with_second minutes second ≡ Some seconds → IsTime (clock ++ colon ∷ digits) seconds
        by_digits is_colon None f got = absurd (none_number got)
        by_digits is_colon (Some second) f got =
            let parts = two_are 60 digits second f in
            to_second clock digits minutes second (ap (λ (x : ℕ). clock ++ x ∷ digits) is_colon) h parts.0 parts.1 (sym (some_number got))

        by_second : (test : Bool) → (colon == 58) ≡ test → IsTime (clock ++ colon ∷ digits) seconds
        by_second false f = absurd (none_number {a = seconds} (rw f at found))
        by_second true f = by_digits (eqb-true colon 58 f) (two_digits 60 digits) refl (rw f at found)

    by_clock : (minutes : Option ℕ) → clock_of (a ∷ b ∷ []) (d ∷ e ∷ []) ≡ minutes → with_clock minutes rest ≡ Some seconds → IsTime (clock ++ rest) seconds
    by_clock None f found = absurd (none_number found)
    by_clock (Some minutes) f found = by_rest rest minutes (clock_is (58 ∷ []) (a ∷ b ∷ []) (d ∷ e ∷ []) minutes f) found

    long : nat_le 5 (length (a ∷ b ∷ c ∷ d ∷ e ∷ rest)) ≡ true
    long = le-leb 5 (length (a ∷ b ∷ c ∷ d ∷ e ∷ rest)) (omega arith)

    by_colon : (test : Bool) → (c == 58) ≡ test → IsTime (a ∷ b ∷ c ∷ d ∷ e ∷ rest) seconds
    by_colon false f = absurd (none_number {a = seconds} (rw (long, f) at is))
    by_colon true f =
        subst (λ (x : ℕ). IsTime (a ∷ b ∷ x ∷ d ∷ e ∷ rest) seconds) (sym (eqb-true c 58 f)) (by_clock (clock_of (a ∷ b ∷ []) (d ∷ e ∷ [])) refl (rw (long, f) at is))

-- ---- zones

pub zone_is_read : (text : List ℕ) (zone : Zone) → IsZone text zone → zone_of text ≡ Some zone
unfolding zone_of
zone_is_read text zone (east offset whole h none) =
    let hour = pair_of h.hour_digits h.hour h.is_hour in
    let minute = pair_of h.minute_digits h.minute h.is_minute in
    let read = digits_are_read [] offset zone.ahead h hour minute in
    rw (whole, h.whole, hour.whole, minute.whole) (ap (with_sign 43) read ∙ ap (λ (n : ℕ). Some (record { ahead = zone.ahead; behind = n })) (sym none))
zone_is_read text zone (west offset whole h none) =
    let hour = pair_of h.hour_digits h.hour h.is_hour in
    let minute = pair_of h.minute_digits h.minute h.is_minute in
    let read = digits_are_read [] offset zone.behind h hour minute in
    rw (whole, h.whole, hour.whole, minute.whole) (ap (with_sign 45) read ∙ ap (λ (n : ℕ). Some (record { ahead = n; behind = zone.behind })) (sym none))
zone_is_read text zone (utc (inl is) ahead behind) = rw is (ap (λ (n : ℕ). Some (record { ahead = n; behind = 0 })) (sym ahead) ∙ ap (λ (n : ℕ). Some (record { ahead = zone.ahead; behind = n })) (sym behind))
zone_is_read text zone (utc (inr (inl is)) ahead behind) = rw is (ap (λ (n : ℕ). Some (record { ahead = n; behind = 0 })) (sym ahead) ∙ ap (λ (n : ℕ). Some (record { ahead = zone.ahead; behind = n })) (sym behind))
zone_is_read text zone (utc (inr (inr is)) ahead behind) = rw is (ap (λ (n : ℕ). Some (record { ahead = n; behind = 0 })) (sym ahead) ∙ ap (λ (n : ℕ). Some (record { ahead = zone.ahead; behind = n })) (sym behind))

either : (a b : Bool) → (a || b) ≡ true → (a ≡ true) ⊎ (b ≡ true)
either true b is = inl refl
either false b is = inr is

pub zone_is : (text : List ℕ) (zone : Zone) → zone_of text ≡ Some zone → IsZone text zone
unfolding zone_of
zone_is text zone is = by_name (bytes_eq text (codes "GMT") || bytes_eq text (codes "UT") || bytes_eq text (codes "UTC")) refl
  where
    utc_zone : (text ≡ codes "GMT") ⊎ ((text ≡ codes "UT") ⊎ (text ≡ codes "UTC")) → Some (record { ahead = 0; behind = 0 }) ≡ Some zone → IsZone text zone
    utc_zone name found =
        let same : record { ahead = 0; behind = 0 } ≡ zone = some_zone found in
        utc name (sym (ap (λ (z : Zone). z.ahead) same)) (sym (ap (λ (z : Zone). z.behind) same))

    by_names : (bytes_eq text (codes "GMT") || bytes_eq text (codes "UT") || bytes_eq text (codes "UTC")) ≡ true → (text ≡ codes "GMT") ⊎ ((text ≡ codes "UT") ⊎ (text ≡ codes "UTC"))
    by_names e =
        elim (either (bytes_eq text (codes "GMT") || bytes_eq text (codes "UT")) (bytes_eq text (codes "UTC")) e) [
          | inl first ↦ elim (either (bytes_eq text (codes "GMT")) (bytes_eq text (codes "UT")) first) [
            | inl g ↦ inl ((bytes_eq-Decides text (codes "GMT")).0 g)
            | inr u ↦ inr (inl ((bytes_eq-Decides text (codes "UT")).0 u))
          ]
          | inr last ↦ inr (inr ((bytes_eq-Decides text (codes "UTC")).0 last))
        ]

    by_offset : (text : List ℕ) → length text ≡ 5 → with_sign (slice_index text 0) (clock_of (take 2 (drop 1 text)) (drop 3 text)) ≡ Some zone → IsZone text zone
    by_offset [] five found = absurd (omega arith)
    by_offset (s ∷ []) five found = absurd (omega arith)
    by_offset (s ∷ a ∷ []) five found = absurd (omega arith)
    by_offset (s ∷ a ∷ b ∷ []) five found = absurd (omega arith)
    by_offset (s ∷ a ∷ b ∷ c ∷ []) five found = absurd (omega arith)
    by_offset (s ∷ a ∷ b ∷ c ∷ d ∷ e ∷ more) five found = absurd (omega arith)
    by_offset (s ∷ a ∷ b ∷ c ∷ d ∷ []) five found = by_clock (clock_of (a ∷ b ∷ []) (c ∷ d ∷ [])) refl found
      where
        by_minus : (seconds : ℕ) → IsClock [] (a ∷ b ∷ c ∷ d ∷ []) seconds → (test : Bool) → (s == 45) ≡ test →
            (if test then Some (record { ahead = 0; behind = seconds }) else None) ≡ Some zone → IsZone (s ∷ a ∷ b ∷ c ∷ d ∷ []) zone
        by_minus seconds h false f got = absurd (none_zone got)
        by_minus seconds h true f got =
            let same : record { ahead = 0; behind = seconds } ≡ zone = some_zone got in
            west (a ∷ b ∷ c ∷ d ∷ []) (ap (λ (x : ℕ). x ∷ a ∷ b ∷ c ∷ d ∷ []) (eqb-true s 45 f))
            (subst (λ (n : ℕ). IsClock [] (a ∷ b ∷ c ∷ d ∷ []) n) (ap (λ (z : Zone). z.behind) same) h) (sym (ap (λ (z : Zone). z.ahead) same))

        by_plus : (seconds : ℕ) → IsClock [] (a ∷ b ∷ c ∷ d ∷ []) seconds → (test : Bool) → (s == 43) ≡ test →
            (if test then Some (record { ahead = seconds; behind = 0 }) else if s == 45 then Some (record { ahead = 0; behind = seconds }) else None) ≡ Some zone → IsZone (s ∷ a ∷ b ∷ c ∷ d ∷ []) zone
        by_plus seconds h false f got = by_minus seconds h (s == 45) refl got
        by_plus seconds h true f got =
            let same : record { ahead = seconds; behind = 0 } ≡ zone = some_zone got in
            east (a ∷ b ∷ c ∷ d ∷ []) (ap (λ (x : ℕ). x ∷ a ∷ b ∷ c ∷ d ∷ []) (eqb-true s 43 f))
            (subst (λ (n : ℕ). IsClock [] (a ∷ b ∷ c ∷ d ∷ []) n) (ap (λ (z : Zone). z.ahead) same) h) (sym (ap (λ (z : Zone). z.behind) same))

        by_clock : (clock : Option ℕ) → clock_of (a ∷ b ∷ []) (c ∷ d ∷ []) ≡ clock → with_sign s clock ≡ Some zone → IsZone (s ∷ a ∷ b ∷ c ∷ d ∷ []) zone
        by_clock None f got = absurd (none_zone got)
        by_clock (Some seconds) f got = by_plus seconds (clock_is [] (a ∷ b ∷ []) (c ∷ d ∷ []) seconds f) (s == 43) refl got

    by_length : (test : Bool) → (length text == 5) ≡ test →
        (if test then with_sign (slice_index text 0) (clock_of (take 2 (drop 1 text)) (drop 3 text)) else None) ≡ Some zone → IsZone text zone
    by_length false e found = absurd (none_zone found)
    by_length true e found = by_offset text (eqb-true (length text) 5 e) found

    by_name : (test : Bool) → (bytes_eq text (codes "GMT") || bytes_eq text (codes "UT") || bytes_eq text (codes "UTC")) ≡ test → IsZone text zone
    by_name true e = utc_zone (by_names e) (rw e at is)
    by_name false e = by_length (length text == 5) refl (rw e at is)

-- ---- words

-- a word isn't empty and holds no space
pub record IsPlainWord (word : List ℕ) : Type 0 where
  pub some : 1 ≤ length word
  pub unspaced : list_all (λ byte. not (is_space byte)) word ≡ true

digit_no_space : (byte : ℕ) → is_ascii_digit byte ≡ true → not (byte == 32) ≡ true
digit_no_space byte h = grind (arith, nat_tests)

digits_unspaced : (digits : List ℕ) → list_all is_ascii_digit digits ≡ true → list_all (λ byte. not (is_space byte)) digits ≡ true
digits_unspaced [] all = refl
digits_unspaced (d ∷ ds) all =
    let parts = and_parts (is_ascii_digit d) (list_all is_ascii_digit ds) all in
    and_from (not (d == 32)) (list_all (λ byte. not (is_space byte)) ds) (digit_no_space d parts.0) (digits_unspaced ds parts.1)

all_digits : (digits : List ℕ) (value : ℕ) → decimal_of digits ≡ Some value → list_all is_ascii_digit digits ≡ true
all_digits [] value is = refl
all_digits (d ∷ ds) value is = by_test (list_all is_ascii_digit (d ∷ ds)) refl
  where
    by_test : (test : Bool) → list_all is_ascii_digit (d ∷ ds) ≡ test → list_all is_ascii_digit (d ∷ ds) ≡ true
    by_test true e = e
    by_test false e = absurd (none_number {a = value} (rw e at is))

pub number_word : (least most : ℕ) (digits : List ℕ) (value : ℕ) → IsNumber least most digits value → IsPlainWord digits
number_word least most digits value h = record { some = some_digit digits value h.value_is; unspaced = digits_unspaced digits (all_digits digits value h.value_is) }

pub month_word : (word : List ℕ) (month : ℕ) → IsMonth word month → IsPlainWord word
month_word word month (january is value) = rw is (record { some = lit≤ tt; unspaced = refl })
month_word word month (february is value) = rw is (record { some = lit≤ tt; unspaced = refl })
month_word word month (march is value) = rw is (record { some = lit≤ tt; unspaced = refl })
month_word word month (april is value) = rw is (record { some = lit≤ tt; unspaced = refl })
month_word word month (may is value) = rw is (record { some = lit≤ tt; unspaced = refl })
month_word word month (june is value) = rw is (record { some = lit≤ tt; unspaced = refl })
month_word word month (july is value) = rw is (record { some = lit≤ tt; unspaced = refl })
month_word word month (august is value) = rw is (record { some = lit≤ tt; unspaced = refl })
month_word word month (september is value) = rw is (record { some = lit≤ tt; unspaced = refl })
month_word word month (october is value) = rw is (record { some = lit≤ tt; unspaced = refl })
month_word word month (november is value) = rw is (record { some = lit≤ tt; unspaced = refl })
month_word word month (december is value) = rw is (record { some = lit≤ tt; unspaced = refl })

-- two texts after each other
pub word_append : (a b : List ℕ) → IsPlainWord a → list_all (λ byte. not (is_space byte)) b ≡ true → IsPlainWord (a ++ b)
word_append a b word rest = record {
  some = omega (arith, word.some, length-append a b);
  unspaced = list_all-append (λ byte. not (is_space byte)) a b ∙ and_from (list_all (λ byte. not (is_space byte)) a) (list_all (λ byte. not (is_space byte)) b) word.unspaced rest;
}

clock_word : (between text : List ℕ) (seconds : ℕ) → list_all (λ byte. not (is_space byte)) between ≡ true → IsClock between text seconds → IsPlainWord text
clock_word between text seconds plain h =
    let minute = number_word 2 2 h.minute_digits h.minute h.is_minute in
    subst IsPlainWord (sym h.whole)
    (word_append h.hour_digits (between ++ h.minute_digits) (number_word 2 2 h.hour_digits h.hour h.is_hour)
    (list_all-append (λ byte. not (is_space byte)) between h.minute_digits
    ∙ and_from (list_all (λ byte. not (is_space byte)) between) (list_all (λ byte. not (is_space byte)) h.minute_digits) plain minute.unspaced))

pub time_word : (text : List ℕ) (seconds : ℕ) → IsTime text seconds → IsPlainWord text
time_word text seconds (to_minute h) = clock_word (58 ∷ []) text seconds refl h
time_word text seconds (to_second clock digits minutes second whole h is_second most value) =
    subst IsPlainWord (sym whole) (word_append clock (58 ∷ digits) (clock_word (58 ∷ []) clock minutes refl h) ((number_word 2 2 digits second is_second).unspaced))

pub zone_word : (text : List ℕ) (zone : Zone) → IsZone text zone → IsPlainWord text
zone_word text zone (east offset whole h none) = subst IsPlainWord (sym whole) (record { some = omega arith; unspaced = (clock_word [] offset zone.ahead refl h).unspaced })
zone_word text zone (west offset whole h none) = subst IsPlainWord (sym whole) (record { some = omega arith; unspaced = (clock_word [] offset zone.behind refl h).unspaced })
zone_word text zone (utc (inl is) ahead behind) = subst IsPlainWord (sym is) (record { some = lit≤ tt; unspaced = refl })
zone_word text zone (utc (inr (inl is)) ahead behind) = subst IsPlainWord (sym is) (record { some = lit≤ tt; unspaced = refl })
zone_word text zone (utc (inr (inr is)) ahead behind) = subst IsPlainWord (sym is) (record { some = lit≤ tt; unspaced = refl })
