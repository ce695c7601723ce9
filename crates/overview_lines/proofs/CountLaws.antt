-- The reading of the count in a subject agrees with what such a count is.
use Rattle.std.proofs.Common.{◌≡◌, ◌≤◌, ◌<◌, ℕ, zero, suc, ◌+◌, ◌-◌, ◌==◌, ◌&&◌, Bool, true, false, List, [], ◌∷◌, ◌++◌, length, take, drop, get_or, Option, Some, None, refl, sym, ◌∙◌, ap, subst, arith, length-append, length-take, take-append-drop}
use Rattle.std.specs.Prelude.{nat_le, nat_lt, if◌then◌else◌, IfSome}
use Rattle.std.specs.Char.{is_ascii_digit}
use Rattle.std.specs.List.{list_all}
use Rattle.std.specs.Option.{option_or}
use Rattle.std.proofs.lemmas.Bool.{and_parts, eq-eqb, eqb-true, le-leb, leb-false, leb-true, lt-ltb, ltb-true}
use Rattle.std.proofs.Math.Seq.{drop-append_seam, get_or-append_seam, take-append_seam}
use Rattle.numbers.specs.Numbers.{decimal_of, Numbered, numbered_of}
use Rattle.overview_lines.specs.declared.count.Count.{Count}
use Rattle.overview_lines.specs.Count.{IsCount, IsLastCount, count_at, count_of, digits_len, last_count, number_before, number_of, with_part, with_total}
use Rattle.overview_lines.proofs.Digits.{few_value}
use Rattle.overview_lines.proofs.Fronts.{behind_seam, cut_there, prefix_seam}

none_number : {a : ℕ} → None ≡ Some a → ⊥
none_number e = cc

none_found : {a : Numbered} → None ≡ Some a → ⊥
none_found e = cc

none_count : {a : Count} → None ≡ Some a → ⊥
none_count e = cc

-- ---- numbers

-- a number's digits are digits, and few
pub all_digits : (digits : List ℕ) (n : ℕ) → number_of digits ≡ Some n → (list_all is_ascii_digit digits ≡ true) × (length digits ≤ 7)
all_digits digits n is = by_length (nat_le (length digits) 7) refl
  where
    by_test : (ds : List ℕ) (test : Bool) → list_all is_ascii_digit ds ≡ test → decimal_of ds ≡ Some n → list_all is_ascii_digit ds ≡ true
    by_test [] test e d = refl
    by_test (d ∷ ds) true e v = e
    by_test (d ∷ ds) false e v = absurd (none_number {a = n} (rw e at v))

    by_length : (test : Bool) → nat_le (length digits) 7 ≡ test → (list_all is_ascii_digit digits ≡ true) × (length digits ≤ 7)
    by_length false e = absurd (none_number {a = n} (rw e at is))
    by_length true e = (by_test digits (list_all is_ascii_digit digits) refl (rw e at is), leb-true (length digits) 7 e)

pub number_is_read : (byte : ℕ) (digits behind : List ℕ) (n : ℕ) → is_ascii_digit byte ≡ false → number_of digits ≡ Some n → number_before byte (digits ++ byte ∷ behind) ≡ Some (record { number = n; behind = behind })
unfolding number_before
number_is_read byte digits behind n ends is =
    let at = prefix_seam is_ascii_digit digits byte behind ((all_digits digits n is).0) ends in
    let inside : nat_lt (length digits) (length (digits ++ byte ∷ behind)) ≡ true = lt-ltb (length digits) (length (digits ++ byte ∷ behind)) (omega (arith, length-append digits (byte ∷ behind))) in
    let there : (get_or (digits ++ byte ∷ behind) (length digits) 0 == byte) ≡ true = eq-eqb _ _ (get_or-append_seam digits byte behind 0) in
    let front = take-append_seam digits (byte ∷ behind) in
    let back = behind_seam digits byte behind in
    rw at (rw inside (rw there (rw front (rw is (ap (λ (b : List ℕ). Some (record { number = n; behind = b })) back)))))

pub record IsNumberedAt (byte : ℕ) (text : List ℕ) (found : Numbered) : Type 0 where
  pub digits : List ℕ
  pub whole : text ≡ digits ++ byte ∷ found.behind
  pub number : number_of digits ≡ Some found.number

pub found_is_number : (byte : ℕ) (text : List ℕ) (found : Numbered) → number_before byte text ≡ Some found → IsNumberedAt byte text found
unfolding number_before
found_is_number byte text found is = by_test (nat_lt (digits_len text) (length text) && (get_or text (digits_len text) 0 == byte)) refl
  where
    by_number : (number : Option ℕ) → number_of (take (digits_len text) text) ≡ number → text ≡ take (digits_len text) text ++ byte ∷ drop (digits_len text + 1) text →
        numbered_of number (drop (digits_len text + 1) text) ≡ Some found → IsNumberedAt byte text found
    by_number None e whole f = absurd (none_found f)
    by_number (Some n) e whole f =
        let same : record { number = n; behind = drop (digits_len text + 1) text } ≡ found = cc in
        record {
          digits = take (digits_len text) text;
          whole = whole ∙ ap (λ (x : Numbered). take (digits_len text) text ++ byte ∷ x.behind) same;
          number = e ∙ ap (λ (x : Numbered). Some x.number) same;
        }

    by_test : (test : Bool) → (nat_lt (digits_len text) (length text) && (get_or text (digits_len text) 0 == byte)) ≡ test → IsNumberedAt byte text found
    by_test false e = absurd (none_found {a = found} (rw e at is))
    by_test true e =
        let parts = and_parts (nat_lt (digits_len text) (length text)) (get_or text (digits_len text) 0 == byte) e in
        let whole = cut_there (digits_len text) text (ltb-true (digits_len text) (length text) parts.0) in
        let there = eqb-true (get_or text (digits_len text) 0) byte parts.1 in
        by_number (number_of (take (digits_len text) text)) refl (whole ∙ ap (λ (x : ℕ). take (digits_len text) text ++ x ∷ drop (digits_len text + 1) text) there) (rw e at is)

-- ---- a count at a place

length_of_count : (before part total behind : List ℕ) → length (before ++ 40 ∷ (part ++ 47 ∷ (total ++ 41 ∷ behind))) ≡ length before + 1 + length (part ++ 47 ∷ (total ++ 41 ∷ behind))
length_of_count before part total behind = omega (arith, length-append before (40 ∷ (part ++ 47 ∷ (total ++ 41 ∷ behind))))

-- a count is read where it starts
pub count_is_read : (subject : List ℕ) (count : Count) → IsCount subject count → count_at count.start (drop count.start subject) ≡ Some count
unfolding count_at
count_is_read subject count h =
    let text = h.part ++ 47 ∷ (h.total ++ 41 ∷ h.behind) in
    let there : drop count.start subject ≡ 40 ∷ text = rw (h.whole, h.start_is) (drop-append_seam h.before (40 ∷ text)) in
    let end : count.start + 1 + length text - length h.behind ≡ count.end = omega (arith, h.end_is, h.start_is, ap (λ (t : List ℕ). length t) h.whole, length_of_count h.before h.part h.total h.behind) in
    rw there
    (ap (with_part count.start (count.start + 1 + length text)) (number_is_read 47 h.part (h.total ++ 41 ∷ h.behind) count.part refl h.part_is)
    ∙ ap (with_total count.start (count.start + 1 + length text) count.part) (number_is_read 41 h.total h.behind count.total refl h.total_is)
    ∙ rw (le-leb 1 count.part h.first) (ap (λ (e : ℕ). Some (record { start = count.start; end = e; part = count.part; total = count.total })) end))

-- and what is read there is a count
pub read_is_count : (before text : List ℕ) (count : Count) → count_at (length before) text ≡ Some count → IsCount (before ++ text) count × (count.start ≡ length before)
unfolding count_at
read_is_count before [] count is = absurd (none_count is)
read_is_count before (byte ∷ text) count is = by_byte (byte == 40) refl
  where
    end : ℕ
    end = length before + 1 + length text

    by_least : (part : Numbered) → IsNumberedAt 47 text part → (total : Numbered) → IsNumberedAt 41 part.behind total → byte ≡ 40 → (test : Bool) → nat_le 1 part.number ≡ test →
        (if test then Some (record { start = length before; end = length before + 1 + length text - length total.behind; part = part.number; total = total.number }) else None) ≡ Some count →
        IsCount (before ++ byte ∷ text) count × (count.start ≡ length before)
    by_least part one total two is_open false e found = absurd (none_count found)
    by_least part one total two is_open true e found =
        let same : record { start = length before; end = length before + 1 + length text - length total.behind; part = part.number; total = total.number } ≡ count = cc in
        let start_is : length before ≡ count.start = ap (λ (c : Count). c.start) same in
        let end_is : length before + 1 + length text - length total.behind ≡ count.end = ap (λ (c : Count). c.end) same in
        let part_is : part.number ≡ count.part = ap (λ (c : Count). c.part) same in
        let total_is : total.number ≡ count.total = ap (λ (c : Count). c.total) same in
        let whole : before ++ byte ∷ text ≡ before ++ 40 ∷ (one.digits ++ 47 ∷ (two.digits ++ 41 ∷ total.behind)) =
        ap (λ (b : ℕ). before ++ b ∷ text) is_open ∙ ap (λ (t : List ℕ). before ++ 40 ∷ t) (one.whole ∙ ap (λ (t : List ℕ). one.digits ++ 47 ∷ t) two.whole) in (
          record {
            before = before;
            part = one.digits;
            total = two.digits;
            behind = total.behind;
            whole = whole;
            start_is = sym start_is;
            end_is = omega (
              arith,
              end_is,
              length-append before (byte ∷ text),
              ap (λ (t : List ℕ). length t) one.whole,
              length-append one.digits (47 ∷ part.behind),
              ap (λ (t : List ℕ). length t) two.whole,
              length-append two.digits (41 ∷ total.behind),
            );
            part_is = one.number ∙ ap (λ (n : ℕ). Some n) part_is;
            total_is = two.number ∙ ap (λ (n : ℕ). Some n) total_is;
            first = omega (arith, leb-true 1 part.number e, part_is);
          },
          sym start_is,
        )

    by_total : (part : Numbered) → IsNumberedAt 47 text part → byte ≡ 40 → (total : Option Numbered) → number_before 41 part.behind ≡ total →
        with_total (length before) (length before + 1 + length text) part.number total ≡ Some count → IsCount (before ++ byte ∷ text) count × (count.start ≡ length before)
    by_total part one is_open None e found = absurd (none_count found)
    by_total part one is_open (Some total) e found = by_least part one total (found_is_number 41 part.behind total e) is_open (nat_le 1 part.number) refl found

    by_part : byte ≡ 40 → (part : Option Numbered) → number_before 47 text ≡ part → with_part (length before) (length before + 1 + length text) part ≡ Some count →
        IsCount (before ++ byte ∷ text) count × (count.start ≡ length before)
    by_part is_open None e found = absurd (none_count found)
    by_part is_open (Some part) e found = by_total part (found_is_number 47 text part e) is_open (number_before 41 part.behind) refl found

    by_byte : (test : Bool) → (byte == 40) ≡ test → IsCount (before ++ byte ∷ text) count × (count.start ≡ length before)
    by_byte false e = absurd (none_count {a = count} (rw e at is))
    by_byte true e = by_part (eqb-true byte 40 e) (number_before 47 text) refl (rw e at is)

-- ---- the last count

-- a count is found behind so many bytes, and none starts later
pub record IsFoundLast (start : ℕ) (text : List ℕ) (count : Count) : Type 0 where
  pub skipped : ℕ
  pub inside : skipped < length text
  pub here : count_at (start + skipped) (drop skipped text) ≡ Some count
  pub later : (more : ℕ) → skipped < more → more < length text → count_at (start + more) (drop more text) ≡ None

-- none starts at any place of a text
abbrev StartsNone : ℕ → List ℕ → Type 0
StartsNone start text = (more : ℕ) → more < length text → count_at (start + more) (drop more text) ≡ None

none_from : (start byte : ℕ) (text : List ℕ) → count_at start (byte ∷ text) ≡ None → StartsNone (start + 1) text → StartsNone start (byte ∷ text)
none_from start byte text here rest zero inside = let same : start + 0 ≡ start = omega arith in rw same here
none_from start byte text here rest (suc more) inside = let same : start + suc more ≡ start + 1 + more = omega arith in rw same (rest more (omega arith))

-- where there is no last count, none starts anywhere
pub none_starts : (start : ℕ) (text : List ℕ) → last_count start text ≡ None → StartsNone start text
unfolding last_count
none_starts start [] none = λ more inside. absurd (omega arith)
none_starts start (byte ∷ text) none = by_rest (last_count (start + 1) text) none (none_starts (start + 1) text)
  where
    by_rest : (rest : Option Count) → option_or rest (count_at start (byte ∷ text)) ≡ None → (rest ≡ None → StartsNone (start + 1) text) → StartsNone start (byte ∷ text)
    by_rest None is behind = none_from start byte text is (behind refl)
    by_rest (Some count) is behind = absurd (none_count (sym is))

found_here : (start byte : ℕ) (text : List ℕ) (count : Count) → count_at start (byte ∷ text) ≡ Some count → StartsNone (start + 1) text → IsFoundLast start (byte ∷ text) count
found_here start byte text count here rest = record {
  skipped = 0;
  inside = omega arith;
  here = let same : start + 0 ≡ start = omega arith in rw same here;
  later = later;
}
  where
    later : (more : ℕ) → 0 < more → more < length (byte ∷ text) → count_at (start + more) (drop more (byte ∷ text)) ≡ None
    later zero some inside = absurd (omega arith)
    later (suc more) some inside = let same : start + suc more ≡ start + 1 + more = omega arith in rw same (rest more (omega arith))

found_behind : (start byte : ℕ) (text : List ℕ) (count : Count) → IsFoundLast (start + 1) text count → IsFoundLast start (byte ∷ text) count
found_behind start byte text count found = record {
  skipped = suc found.skipped;
  inside = omega (arith, found.inside);
  here = let same : start + suc found.skipped ≡ start + 1 + found.skipped = omega arith in rw same found.here;
  later = later;
}
  where
    later : (more : ℕ) → suc found.skipped < more → more < length (byte ∷ text) → count_at (start + more) (drop more (byte ∷ text)) ≡ None
    later zero some inside = absurd (omega arith)
    later (suc more) some inside = let same : start + suc more ≡ start + 1 + more = omega arith in rw same (found.later more (omega arith) (omega arith))

-- the last count is found, and none starts later
pub last_is_found : (start : ℕ) (text : List ℕ) (count : Count) → last_count start text ≡ Some count → IsFoundLast start text count
unfolding last_count
last_is_found start [] count is = absurd (none_count is)
last_is_found start (byte ∷ text) count is = by_rest (last_count (start + 1) text) refl is (last_is_found (start + 1) text count)
  where
    by_rest : (rest : Option Count) → last_count (start + 1) text ≡ rest → option_or rest (count_at start (byte ∷ text)) ≡ Some count → (rest ≡ Some count → IsFoundLast (start + 1) text count) →
        IsFoundLast start (byte ∷ text) count
    by_rest None e here behind = found_here start byte text count here (none_starts (start + 1) text e)
    by_rest (Some other) e same behind = found_behind start byte text count (behind same)

-- ---- subjects

-- a count starts in its subject
starts_inside : (subject : List ℕ) (count : Count) → IsCount subject count → count.start < length subject
starts_inside subject count h =
    omega (arith, h.start_is, ap (λ (t : List ℕ). length t) h.whole, length-append h.before (40 ∷ (h.part ++ 47 ∷ (h.total ++ 41 ∷ h.behind))))

-- what is found last is the last count
found_is_last : (subject : List ℕ) (count : Count) → IsFoundLast 0 subject count → IsLastCount subject count
found_is_last subject count found = record { is = is_count.0; last = is_last }
  where
    is_count : IsCount subject count × (count.start ≡ found.skipped)
    is_count =
        let long : length (take found.skipped subject) ≡ 0 + found.skipped = omega (arith, length-take found.skipped subject, found.inside) in
        let read = read_is_count (take found.skipped subject) (drop found.skipped subject) count (rw long found.here) in
        (subst (λ (s : List ℕ). IsCount s count) (take-append-drop found.skipped subject) read.0, omega (arith, read.1, long))

    is_last : (other : Count) → IsCount subject other → other.start ≤ count.start
    is_last other h = by_order (nat_le other.start count.start) refl
      where
        by_order : (test : Bool) → nat_le other.start count.start ≡ test → other.start ≤ count.start
        by_order true e = leb-true other.start count.start e
        by_order false e =
            let later : found.skipped < other.start = omega (arith, leb-false other.start count.start e, is_count.1) in
            let same : 0 + other.start ≡ other.start = omega arith in
            let none = found.later other.start later (starts_inside subject other h) in
            absurd (none_count (sym (rw same at none) ∙ count_is_read subject other h))

pub read_is_last : (subject : List ℕ) (count : Count) → count_of subject ≡ Some count → IsLastCount subject count
unfolding count_of
read_is_last subject count is = found_is_last subject count (last_is_found 0 subject count is)

pub unread_is_none : (subject : List ℕ) → count_of subject ≡ None → (count : Count) → ¬ IsCount subject count
unfolding count_of
unread_is_none subject none count h =
    let same : 0 + count.start ≡ count.start = omega arith in
    let starts = none_starts 0 subject none count.start (starts_inside subject count h) in
    none_count (sym (rw same at starts) ∙ count_is_read subject count h)

-- a last count is what is read
pub last_count_is_read : (subject : List ℕ) (count : Count) → IsLastCount subject count → count_of subject ≡ Some count
last_count_is_read subject count h = by_count (count_of subject) refl
  where
    by_count : (found : Option Count) → count_of subject ≡ found → count_of subject ≡ Some count
    by_count None e = absurd (unread_is_none subject e count h.is)
    by_count (Some other) e =
        let last = read_is_last subject other e in
        let same : other.start ≡ count.start = omega (arith, h.last other last.is, last.last count h.is) in
        let read = count_is_read subject other last.is in
        e ∙ sym (subst (λ (n : ℕ). count_at n (drop n subject) ≡ Some other) same read) ∙ count_is_read subject count h.is

-- ---- what holds of every count

pub count_bounds : (subject : List ℕ) (count : Count) → IsCount subject count → (count.start < count.end) × (count.end ≤ length subject)
count_bounds subject count h =
    let long = length_of_count h.before h.part h.total h.behind in
    let whole = ap (λ (t : List ℕ). length t) h.whole in
    let rest = length-append h.part (47 ∷ (h.total ++ 41 ∷ h.behind)) in
    let last = length-append h.total (41 ∷ h.behind) in
    (omega (arith, h.start_is, h.end_is, long, whole, rest, last), omega (arith, h.end_is))

number_most : (digits : List ℕ) (n : ℕ) → number_of digits ≡ Some n → n ≤ 9999999
number_most digits n is = by_length (nat_le (length digits) 7) refl
  where
    by_length : (test : Bool) → nat_le (length digits) 7 ≡ test → n ≤ 9999999
    by_length false e = absurd (none_number {a = n} (rw e at is))
    by_length true e = omega (arith, few_value 7 digits n (rw e at is) (leb-true (length digits) 7 e))

-- what the clauses say of a count that is read
pub record IsCountWithin (subject : List ℕ) (count : Count) : Type 0 where
  pub order : count.start < count.end
  pub within : count.end ≤ length subject
  pub some : 1 ≤ count.part
  pub few : count.part ≤ 9999999
  pub total : count.total ≤ 9999999

pub count_within : (subject : List ℕ) (count : Count) → IsLastCount subject count → IsCountWithin subject count
count_within subject count h = record {
  order = (count_bounds subject count h.is).0;
  within = (count_bounds subject count h.is).1;
  some = h.is.first;
  few = number_most h.is.part count.part h.is.part_is;
  total = number_most h.is.total count.total h.is.total_is;
}

-- what holds of each count that is read, holds where one is
pub where_read : (P : Count → Type 0) (subject : List ℕ) (found : Option Count) → found ≡ count_of subject → ((count : Count) → IsLastCount subject count → P count) → IfSome found P
where_read P subject None is each = tt
where_read P subject (Some count) is each = each count (read_is_last subject count (sym is))
