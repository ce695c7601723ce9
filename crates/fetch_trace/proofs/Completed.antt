-- A posted file that is on its course is complete exactly where each of its parts was heard whole, and is then as posted.
use Rattle.std.proofs.Common.{◌≡◌, ◌≢◌, ◌+◌, ◌-◌, ◌<◌, ◌≤◌, ◌⊎◌, inl, inr, zero, suc, ℕ, Bool, true, false, ◌&&◌, ◌||◌, List, [], ◌∷◌, Option, Some, None, length, refl, ap, sym, subst, ◌∙◌, arith}
use Rattle.std.specs.Prelude.{slice_get, slice_index_or, cond, ◌==◌, nat_le}
use Rattle.std.proofs.lemmas.Bool.Decides.{nat_tests}
use Rattle.yenc_body.specs.declared.part.Part.{Part}
use Rattle.fetch_trace.proofs.Lists.{same_or_not}
use Rattle.range_assembler.specs.declared.assembler.Entry.{Entry}
use Rattle.range_assembler.specs.declared.assembler.Hold.{Hold}
use Rattle.range_assembler.specs.declared.assembler.Hold.TheVariants.{Free, Held, Accepted}
use Rattle.range_assembler.specs.Entries.{is_taken, is_accepted, shares, size_here, kept_size, covers}
use Rattle.range_assembler.specs.Missing.{is_covered, with_bare, gaps, missing_in, is_nothing, is_known, is_complete}
use Rattle.fetch_trace.specs.Setting.{Setting}
use Rattle.fetch_trace.specs.Standing.{Standing, is_kept}
use Rattle.fetch_trace.specs.Result.{part_of, size_or_none, IsRebuilt}
use Rattle.fetch_trace.specs.Headline.{IsOf, IsPosted, IsHeardWhole, IsFresh, WasKept, AreKept, IsThere, IsCompleted, IsCompletedAnew}
use Rattle.fetch_trace.proofs.Posted.{one_size}
use Rattle.fetch_trace.proofs.Onward.{was_taken}
use Rattle.fetch_trace.proofs.OnCourse.{IsTakenAt, IsOnCourse, is_of, own_file}

-- ---- tests

and_left : (a b : Bool) → (a && b) ≡ true → a ≡ true
and_left true b is = refl
and_left false b is = cc

and_right : (a b : Bool) → (a && b) ≡ true → b ≡ true
and_right true b is = is
and_right false b is = cc

and_both : (a b : Bool) → a ≡ true → b ≡ true → (a && b) ≡ true
and_both true b one two = two
and_both false b one two = cc

-- ---- accepted entries

record IsAcceptedOf (file : ℕ) (entries : List Entry) : Type 0 where
  segment : ℕ
  entry : Entry
  kept : ℕ
  there : slice_get entries segment ≡ Some entry
  own : entry.file ≡ file
  taken : entry.hold ≡ Accepted kept

abbrev later : (file : ℕ) (entry : Entry) (entries : List Entry) → IsAcceptedOf file entries → IsAcceptedOf file (entry ∷ entries)
later file entry entries a = record { segment = suc a.segment; entry = a.entry; kept = a.kept; there = a.there; own = a.own; taken = a.taken }

size_found : (file : ℕ) (entry : Entry) (entries : List Entry) (hold : Hold) (b : Bool) → entry.hold ≡ hold → (entry.file == file) ≡ b → is_known (size_here file entry.file entry.hold (kept_size file entries)) ≡ true → (is_known (kept_size file entries) ≡ true → IsAcceptedOf file entries) → IsAcceptedOf file (entry ∷ entries)
size_found file entry entries Free b hold own is rest = later file entry entries (rest (rw hold at is))
size_found file entry entries Held b hold own is rest = later file entry entries (rest (rw hold at is))
size_found file entry entries (Accepted kept) true hold own is rest = record { segment = 0; entry = entry; kept = kept; there = refl; own = (let same : entry.file ≡ file = grind (arith, nat_tests) in same); taken = hold }
size_found file entry entries (Accepted kept) false hold own is rest = later file entry entries (rest (rw (hold, own) at is))

known_by : (file : ℕ) (entries : List Entry) → is_known (kept_size file entries) ≡ true → IsAcceptedOf file entries
known_by file [] is = cc
known_by file (entry ∷ entries) is = size_found file entry entries entry.hold (entry.file == file) refl refl is (λ more. known_by file entries more)

still_known : (file of : ℕ) (hold : Hold) (o : Option ℕ) → is_known o ≡ true → is_known (size_here file of hold o) ≡ true
still_known file of Free o is = is
still_known file of Held o is = is
still_known file of (Accepted size) o is = by (of == file)
  where
    by : (b : Bool) → is_known (cond b (Some size) o) ≡ true
    by true = refl
    by false = is

known_here : (file of kept : ℕ) (range : Hold) (o : Option ℕ) → of ≡ file → range ≡ Accepted kept → is_known (size_here file of range o) ≡ true
known_here file of kept range o own taken = let test : (of == file) ≡ true = grind (arith, nat_tests) in rw (taken, test) refl

known_of : (file : ℕ) (entries : List Entry) (k kept : ℕ) (entry : Entry) → slice_get entries k ≡ Some entry → entry.file ≡ file → entry.hold ≡ Accepted kept → is_known (kept_size file entries) ≡ true
known_of file [] k kept entry there own taken = cc
known_of file (first ∷ entries) zero kept entry there own taken =
    let same : first ≡ entry = cc in
    known_here file first.file kept first.hold (kept_size file entries) (ap (λ (e : Entry). e.file) same ∙ own) (ap (λ (e : Entry). e.hold) same ∙ taken)
known_of file (first ∷ entries) (suc k) kept entry there own taken = still_known file first.file first.hold (kept_size file entries) (known_of file entries k kept entry there own taken)

-- ---- covered offsets

record IsCoveredBy (file offset : ℕ) (entries : List Entry) : Type 0 where
  accepted : IsAcceptedOf file entries
  low : accepted.entry.first ≤ offset
  high : offset ≤ accepted.entry.last

hold_accepted : (hold : Hold) → is_accepted hold ≡ true → (kept : ℕ) × (hold ≡ Accepted kept)
hold_accepted Free is = cc
hold_accepted Held is = cc
hold_accepted (Accepted kept) is = (kept, refl)

covers_by : (file offset : ℕ) (entry : Entry) (entries : List Entry) (b : Bool) → covers file offset entry ≡ b → (b || is_covered file entries offset) ≡ true → (is_covered file entries offset ≡ true → IsCoveredBy file offset entries) → IsCoveredBy file offset (entry ∷ entries)
covers_by file offset entry entries true here is rest =
    let own_test : Bool = entry.file == file in
    let low_test : Bool = nat_le entry.first offset in
    let high_test : Bool = nat_le offset entry.last in
    let three = and_left (own_test && is_accepted entry.hold && low_test) high_test here in
    let high = and_right (own_test && is_accepted entry.hold && low_test) high_test here in
    let two = and_left (own_test && is_accepted entry.hold) low_test three in
    let low = and_right (own_test && is_accepted entry.hold) low_test three in
    let own = and_left own_test (is_accepted entry.hold) two in
    let held = and_right own_test (is_accepted entry.hold) two in
    let taken = hold_accepted entry.hold held in
    record {
      accepted = record { segment = 0; entry = entry; kept = taken.0; there = refl; own = (let same : entry.file ≡ file = grind (arith, nat_tests) in same); taken = taken.1 };
      low = (let less : entry.first ≤ offset = grind (arith, nat_tests) in less);
      high = (let less : offset ≤ entry.last = grind (arith, nat_tests) in less);
    }
covers_by file offset entry entries false here is rest = let found = rest is in record { accepted = later file entry entries found.accepted; low = found.low; high = found.high }

covered_by : (file offset : ℕ) (entries : List Entry) → is_covered file entries offset ≡ true → IsCoveredBy file offset entries
covered_by file offset [] is = cc
covered_by file offset (entry ∷ entries) is = covers_by file offset entry entries (covers file offset entry) refl is (λ more. covered_by file offset entries more)

or_right : (a b : Bool) → b ≡ true → (a || b) ≡ true
or_right true b is = refl
or_right false b is = is

or_left : (a b : Bool) → a ≡ true → (a || b) ≡ true
or_left true b is = refl
or_left false b is = cc

covers_here : (file offset kept : ℕ) (entry : Entry) → entry.file ≡ file → entry.hold ≡ Accepted kept → entry.first ≤ offset → offset ≤ entry.last → covers file offset entry ≡ true
covers_here file offset kept entry own taken low high =
    let one : (entry.file == file) ≡ true = grind (arith, nat_tests) in
    let two : is_accepted entry.hold ≡ true = ap is_accepted taken in
    let three : nat_le entry.first offset ≡ true = grind (arith, nat_tests) in
    let four : nat_le offset entry.last ≡ true = grind (arith, nat_tests) in
    rw (one, two, three, four) refl

covered_of : (file offset : ℕ) (entries : List Entry) (k kept : ℕ) (entry : Entry) → slice_get entries k ≡ Some entry → entry.file ≡ file → entry.hold ≡ Accepted kept → entry.first ≤ offset → offset ≤ entry.last → is_covered file entries offset ≡ true
covered_of file offset [] k kept entry there own taken low high = cc
covered_of file offset (first ∷ entries) zero kept entry there own taken low high =
    let same : first ≡ entry = cc in
    or_left (covers file offset first) (is_covered file entries offset) (ap (λ (e : Entry). covers file offset e) same ∙ covers_here file offset kept entry own taken low high)
covered_of file offset (first ∷ entries) (suc k) kept entry there own taken low high =
    or_right (covers file offset first) (is_covered file entries offset) (covered_of file offset entries k kept entry there own taken low high)

-- ---- gaps

bare_some : (offset : ℕ) (ranges : List (ℕ × ℕ)) → is_nothing (with_bare offset ranges) ≡ true → ⊥
bare_some offset [] is = cc
bare_some offset (range ∷ ranges) is = by (range.0 == offset + 1) is
  where
    by : (b : Bool) → is_nothing (cond b ((offset, range.1) ∷ ranges) ((offset, offset) ∷ range ∷ ranges)) ≡ true → ⊥
    by true e = cc
    by false e = cc

gap_by : (covered : ℕ → Bool) (offset count : ℕ) (b : Bool) → is_nothing (cond b (gaps covered (offset + 1) count) (with_bare offset (gaps covered (offset + 1) count))) ≡ true → (b ≡ true) × (is_nothing (gaps covered (offset + 1) count) ≡ true)
gap_by covered offset count true is = (refl, is)
gap_by covered offset count false is = absurd (bare_some offset (gaps covered (offset + 1) count) is)

none_missing : (covered : ℕ → Bool) (offset count k : ℕ) → is_nothing (gaps covered offset count) ≡ true → offset ≤ k → k < offset + count → covered k ≡ true
none_missing covered offset zero k is low high = absurd (omega (arith, low, high))
none_missing covered offset (suc count) k is low high =
    let here = gap_by covered offset count (covered offset) is in
    elim (same_or_not k offset) [
      | inl e ↦ ap covered e ∙ here.0
      | inr apart ↦ none_missing covered (offset + 1) count k here.1 (above offset k low apart) (omega (arith, high))
    ]
  where
    above : (a b : ℕ) → a ≤ b → b ≢ a → a + 1 ≤ b
    above zero zero low other = absurd (other refl)
    above zero (suc b) low other = omega arith
    above (suc a) zero low other = absurd (omega (arith, low))
    above (suc a) (suc b) low other = let less = above a b (omega (arith, low)) (λ e. other (ap (λ n. suc n) e)) in omega (arith, less)

nothing_missing : (covered : ℕ → Bool) (offset count : ℕ) → ((k : ℕ) → offset ≤ k → k < offset + count → covered k ≡ true) → is_nothing (gaps covered offset count) ≡ true
nothing_missing covered offset zero all = refl
nothing_missing covered offset (suc count) all =
    let here : covered offset ≡ true = all offset (omega arith) (omega arith) in
    rw here (nothing_missing covered (offset + 1) count (λ k low high. all k (omega (arith, low)) (omega (arith, high))))

-- ---- lists

same_gets : (xs ys : List ℕ) → length xs ≡ length ys → ((k : ℕ) → k < length ys → slice_get xs k ≡ slice_get ys k) → xs ≡ ys
same_gets [] [] long same = refl
same_gets [] (y ∷ ys) long same = absurd (omega (arith, long))
same_gets (x ∷ xs) [] long same = absurd (omega (arith, long))
same_gets (x ∷ xs) (y ∷ ys) long same =
    let first : Some x ≡ Some y = same 0 (omega arith) in
    let here : x ≡ y = cc in
    let rest = same_gets xs ys (omega (arith, long)) (λ k below. same (suc k) (omega (arith, below))) in
    rw (here, rest) refl

byte_there : (xs : List ℕ) (k : ℕ) → k < length xs → (byte : ℕ) × (slice_get xs k ≡ Some byte)
byte_there [] k below = absurd (omega (arith, below))
byte_there (x ∷ xs) zero below = (x, refl)
byte_there (x ∷ xs) (suc k) below = byte_there xs k (omega (arith, below))

index_of : (xs : List ℕ) (k x : ℕ) → slice_get xs k ≡ Some x → slice_index_or xs k 0 ≡ x
index_of [] k x is = cc
index_of (y ∷ xs) zero x is = let same : y ≡ x = cc in same
index_of (y ∷ xs) (suc k) x is = index_of xs k x is

-- ---- the file

module _ (setting : Setting) (file : ℕ) (bytes : List ℕ) (lines : ℕ → List (List ℕ)) (part : ℕ → Part) (s : Standing) (posted : IsPosted setting file bytes lines part) (on : IsOnCourse setting file (length bytes) part s) where
  taken_of : (a : IsAcceptedOf file s.entries) → IsOf setting file a.segment
  taken_of a = is_of setting file a.segment s.entries a.entry on.files a.there a.own

  heard_of : (a : IsAcceptedOf file s.entries) → IsThere setting s a.segment
  heard_of a = on.heard a.segment a.kept a.entry a.there a.own a.taken

  abbrev accepted_of : (segment : ℕ) → IsOf setting file segment → IsTakenAt s.entries segment → IsAcceptedOf file s.entries
  accepted_of segment own taken = record { segment = segment; entry = taken.0; kept = taken.1.0; there = taken.1.1.0; own = own_file setting file segment s.entries taken.0 on.files taken.1.1.0 own; taken = taken.1.1.1 }

  -- an offset of a part that is covered is so by the part's own entry
  meets : (segment other offset : ℕ) → IsOf setting file segment → IsOf setting file other → segment ≢ other → (part segment).first ≤ offset → offset ≤ (part segment).last → (part other).first ≤ offset → offset ≤ (part other).last → ⊥
  meets segment other offset own there apart low high low2 high2 =
      let none = posted.apart segment other Held own there apart in
      let zero_is : (file == file) ≡ true = grind (arith, nat_tests) in
      let one : nat_le (part other).first (part segment).last ≡ true = grind (arith, nat_tests) in
      let two : nat_le (part segment).first (part other).last ≡ true = grind (arith, nat_tests) in
      let three : nat_le (part other).first (part other).last ≡ true = grind (arith, nat_tests) in
      let four : nat_le (part segment).first (part segment).last ≡ true = grind (arith, nat_tests) in
      let some : shares file (part segment).first (part segment).last (record { file = file; hold = Held; first = (part other).first; last = (part other).last }) ≡ true = rw (zero_is, one, two, three, four) refl in
      let no : true ≡ false = sym some ∙ none in
      cc

  covered_part : (segment offset : ℕ) → IsOf setting file segment → (part segment).first ≤ offset → offset ≤ (part segment).last → is_covered file s.entries offset ≡ true → IsThere setting s segment
  covered_part segment offset own low high covered =
      let by = covered_by file offset s.entries covered in
      let a = by.accepted in
      let taken : is_taken a.entry.hold ≡ true = ap is_taken a.taken in
      let first : a.entry.first ≡ (part a.segment).first = on.known.first a.segment a.entry a.there a.own taken in
      let last : a.entry.last ≡ (part a.segment).last = on.known.last a.segment a.entry a.there a.own taken in
      let low2 = by.low in
      let high2 = by.high in
      elim (same_or_not segment a.segment) [
        | inl e ↦ subst (λ n. IsThere setting s n) (sym e) (heard_of a)
        | inr apart ↦ absurd (meets segment a.segment offset own (taken_of a) apart low high (omega (arith, first, low2)) (omega (arith, last, high2)))
      ]

  part_covered : (segment offset : ℕ) → IsOf setting file segment → (part segment).first ≤ offset → offset ≤ (part segment).last → IsThere setting s segment → is_covered file s.entries offset ≡ true
  part_covered segment offset own low high heard =
      let a = accepted_of segment own (on.taken segment own heard) in
      let taken : is_taken a.entry.hold ≡ true = ap is_taken a.taken in
      let first : a.entry.first ≡ (part segment).first = on.known.first segment a.entry a.there a.own taken in
      let last : a.entry.last ≡ (part segment).last = on.known.last segment a.entry a.there a.own taken in
      covered_of file offset s.entries segment a.kept a.entry a.there a.own a.taken (omega (arith, first, low)) (omega (arith, last, high))

  size_is : (kept_size file s.entries ≡ None) ⊎ (kept_size file s.entries ≡ Some (length bytes))
  size_is = one_size file (length bytes) s.entries (λ k entry kept there own taken. on.known.sizes k entry kept there own taken)

  -- a complete file has a size, and each offset up to it is covered
  record IsFull : Type 0 where
    known : IsAcceptedOf file s.entries
    size : kept_size file s.entries ≡ Some (length bytes)
    all : (offset : ℕ) → 1 ≤ offset → offset ≤ length bytes → is_covered file s.entries offset ≡ true

  full_by : (o : Option ℕ) → kept_size file s.entries ≡ o → (o ≡ None) ⊎ (o ≡ Some (length bytes)) → (is_known o && is_nothing (missing_in file s.entries o)) ≡ true → IsFull
  full_by None is size complete = cc
  full_by (Some n) is (inl none) complete = cc
  full_by (Some n) is (inr size) complete =
      let same : n ≡ length bytes = cc in
      record {
        known = known_by file s.entries (ap is_known is);
        size = is ∙ size;
        all = λ offset low high. none_missing (is_covered file s.entries) 1 n offset complete low (omega (arith, high, same));
      }

  full : is_complete file s.entries ≡ true → IsFull
  full complete = full_by (kept_size file s.entries) refl size_is complete

  all_heard : IsFull → (segment : ℕ) → IsOf setting file segment → IsThere setting s segment
  all_heard f segment own = elim (posted.filled segment own) [
    | inl some ↦ (let within = posted.within segment own in
        let low = within.0 in
        let high = within.1 in
        covered_part segment (part segment).first own (omega arith) some (f.all (part segment).first low (omega (arith, high, some))))
    | inr only ↦ (let a = f.known in subst (λ n. IsThere setting s n) (only a.segment (taken_of a)) (heard_of a))
  ]

  whole_by : (o : Option ℕ) → kept_size file s.entries ≡ o → (o ≡ None) ⊎ (o ≡ Some (length bytes)) → is_known o ≡ true → ((offset : ℕ) → 1 ≤ offset → offset ≤ length bytes → is_covered file s.entries offset ≡ true) → (is_known o && is_nothing (missing_in file s.entries o)) ≡ true
  whole_by None is size known all = cc
  whole_by (Some n) is (inl none) known all = cc
  whole_by (Some n) is (inr size) known all =
      let same : n ≡ length bytes = cc in
      nothing_missing (is_covered file s.entries) 1 n (λ k low high. all k low (omega (arith, high, same)))

  all_complete : ((segment : ℕ) → IsOf setting file segment → IsThere setting s segment) → is_complete file s.entries ≡ true
  all_complete heard =
      let first = posted.some in
      let a = accepted_of first.0 first.1 (on.taken first.0 first.1 (heard first.0 first.1)) in
      whole_by (kept_size file s.entries) refl size_is (known_of file s.entries a.segment a.kept a.entry a.there a.own a.taken)
      (λ offset low high. (let found = posted.covers offset low high in part_covered found.0 offset found.1.0 found.1.1.0 found.1.1.1 (heard found.0 found.1.0)))

  -- the byte at an offset
  rebuilt_at : (rebuilt : List ℕ) (base : List ℕ) (segment offset : ℕ) (b : Bool) → is_kept (slice_get setting.entries segment) ≡ b → AreKept setting file bytes part base → IsRebuilt setting base s file rebuilt → IsOf setting file segment → (part segment).first ≤ offset → offset ≤ (part segment).last → 1 ≤ offset → offset ≤ length bytes → IsThere setting s segment → slice_get rebuilt (offset - 1) ≡ slice_get bytes (offset - 1)
  rebuilt_at rebuilt base segment offset true kept are_kept is own low high one within there =
      let was = was_taken setting file bytes lines part (slice_get setting.entries segment) kept in
      let both : Some own.0 ≡ Some was.0 = sym own.1.0 ∙ was.1.1.0 in
      let same : own.0 ≡ was.0 = cc in
      let own_file_is : was.0.file ≡ file = ap (λ (e : Entry). e.file) (sym same) ∙ own.1.1 in
      let first : was.0.first ≡ (part segment).first = are_kept.first segment was.1.0 was.0 was.1.1.0 own_file_is was.1.1.1 in
      let last : was.0.last ≡ (part segment).last = are_kept.last segment was.1.0 was.0 was.1.1.0 own_file_is was.1.1.1 in
      let byte = byte_there bytes (offset - 1) (omega (arith, one, within)) in
      let based : slice_get base (offset - 1) ≡ Some byte.0 = are_kept.same segment offset own kept low high ∙ byte.1 in
      is.kept segment was.1.0 was.0 offset was.1.1.0 own_file_is was.1.1.1 (omega (arith, first, low)) (omega (arith, last, high))
      ∙ ap (λ n. Some n) (index_of base (offset - 1) byte.0 based) ∙ sym byte.1
  rebuilt_at rebuilt base segment offset false unkept are_kept is own low high one within there =
      let a = accepted_of segment own (on.taken segment own there) in
      is.parts segment a.entry (part segment) offset a.there a.own (on.ends segment a.kept a.entry a.there a.own a.taken (λ kept. (let no : true ≡ false = sym kept ∙ unkept in cc))) low high
      ∙ posted.content segment offset own low high

  rebuilt_is : (rebuilt base : List ℕ) → AreKept setting file bytes part base → IsFull → IsRebuilt setting base s file rebuilt → rebuilt ≡ bytes
  rebuilt_is rebuilt base are_kept f is =
      let long : length rebuilt ≡ length bytes = is.long ∙ ap size_or_none f.size in
      same_gets rebuilt bytes long (λ k below.
      (let found = posted.covers (k + 1) (omega arith) (omega (arith, below)) in
      let at : (k + 1) - 1 ≡ k = omega arith in
      ap (λ n. slice_get rebuilt n) (sym at)
      ∙ rebuilt_at rebuilt base found.0 (k + 1) (is_kept (slice_get setting.entries found.0)) refl are_kept is found.1.0 found.1.1.0 found.1.1.1 (omega arith) (omega (arith, below)) (all_heard f found.0 found.1.0)
      ∙ ap (λ n. slice_get bytes n) at))

  part_given : (segment : ℕ) → IsOf setting file segment → (WasKept setting segment → ⊥) → IsThere setting s segment → part_of s segment ≡ Some (part segment)
  part_given segment own unkept heard = let a = accepted_of segment own (on.taken segment own heard) in on.ends segment a.kept a.entry a.there a.own a.taken unkept

  not_kept : (segment : ℕ) → (WasKept setting segment → ⊥) → IsThere setting s segment → IsHeardWhole s segment
  not_kept segment unkept (inl kept) = absurd (unkept kept)
  not_kept segment unkept (inr heard) = heard

  given_heard : (segment : ℕ) (p : Part) → IsOf setting file segment → part_of s segment ≡ Some p → IsThere setting s segment
  given_heard segment p own is = heard_of (accepted_of segment own (on.given segment p own is))

  none_by : (segment : ℕ) (o : Option Part) → IsOf setting file segment → (WasKept setting segment → ⊥) → part_of s segment ≡ o → (IsHeardWhole s segment → ⊥) → part_of s segment ≡ None
  none_by segment None own unkept is unheard = is
  none_by segment (Some p) own unkept is unheard = absurd (unheard (not_kept segment unkept (given_heard segment p own is)))

  size_by : (size : ℕ) → kept_size file s.entries ≡ Some size → (kept_size file s.entries ≡ None) ⊎ (kept_size file s.entries ≡ Some (length bytes)) → size ≡ length bytes
  size_by size is (inl none) = let no : Some size ≡ None = sym is ∙ none in cc
  size_by size is (inr known) = let both : Some size ≡ Some (length bytes) = sym is ∙ known in let same : size ≡ length bytes = cc in same

  bare_by : (segment offset : ℕ) (b : Bool) → is_covered file s.entries offset ≡ b → IsOf setting file segment → (part segment).first ≤ offset → offset ≤ (part segment).last → (IsThere setting s segment → ⊥) → is_covered file s.entries offset ≡ false
  bare_by segment offset true is own low high unheard = absurd (unheard (covered_part segment offset own low high is))
  bare_by segment offset false is own low high unheard = is

  pub completed : (base : List ℕ) → AreKept setting file bytes part base → IsCompleted setting file bytes part base s
  completed base are_kept = record {
    complete = ((λ is. all_heard (full is)), all_complete);
    rebuilt = λ rebuilt is made. rebuilt_is rebuilt base are_kept (full is) made;
    given = λ segment own unkept. ((λ is. not_kept segment unkept (given_heard segment (part segment) own is)), (λ heard. part_given segment own unkept (inr heard)));
    none_given = λ segment own unkept. ((λ none heard. (let no : None ≡ Some (part segment) = sym none ∙ part_given segment own unkept (inr heard) in cc)), (λ unheard. none_by segment (part_of s segment) own unkept refl unheard));
    size = λ size is. size_by size is size_is;
    known = (
      (λ is. (let a = known_by file s.entries is in (a.segment, (taken_of a, heard_of a)))),
      (λ heard. (let a = accepted_of heard.0 heard.1.0 (on.taken heard.0 heard.1.0 heard.1.1) in known_of file s.entries a.segment a.kept a.entry a.there a.own a.taken)),
    );
    missing = λ offset low high. (
      (λ bare.
          (let found = posted.covers offset low high in
          (found.0, (found.1.0, (found.1.1.0, (found.1.1.1, (λ heard. (let no : true ≡ false = sym (part_covered found.0 offset found.1.0 found.1.1.0 found.1.1.1 heard) ∙ bare in cc)))))))
          ),
      (λ found. bare_by found.0 offset (is_covered file s.entries offset) refl found.1.0 found.1.1.0 found.1.1.1.0 found.1.1.1.1),
    );
  }

-- ---- a fetch that begins with nothing of the file

module _ (setting : Setting) (file : ℕ) (fresh : IsFresh setting file) where
  pub unkept_now : (segment : ℕ) → IsOf setting file segment → WasKept setting segment → ⊥
  unkept_now segment own kept =
      let free : own.0.hold ≡ Free = fresh segment own.0 own.1.0 own.1.1 in
      let no : false ≡ true = sym (ap is_kept own.1.0 ∙ ap is_accepted free) ∙ kept in
      cc

  never_taken : (segment size : ℕ) (entry : Entry) → slice_get setting.entries segment ≡ Some entry → entry.file ≡ file → entry.hold ≡ Accepted size → ⊥
  never_taken segment size entry there own taken = let no : Free ≡ Accepted size = sym (fresh segment entry there own) ∙ taken in cc

  pub nothing_kept : (bytes : List ℕ) (part : ℕ → Part) → AreKept setting file bytes part []
  nothing_kept bytes part = record {
    first = λ segment size entry there own taken. absurd (never_taken segment size entry there own taken);
    last = λ segment size entry there own taken. absurd (never_taken segment size entry there own taken);
    sized = λ segment size entry there own taken. absurd (never_taken segment size entry there own taken);
    same = λ segment offset own kept low high. absurd (unkept_now segment own kept);
  }

  only_heard : (s : Standing) (segment : ℕ) → IsOf setting file segment → IsThere setting s segment → IsHeardWhole s segment
  only_heard s segment own (inl kept) = absurd (unkept_now segment own kept)
  only_heard s segment own (inr heard) = heard

  pub completed_anew : (bytes : List ℕ) (part : ℕ → Part) (s : Standing) → IsCompleted setting file bytes part [] s → IsCompletedAnew setting file bytes part s
  completed_anew bytes part s c = record {
    complete = ((λ is segment own. only_heard s segment own (c.complete.0 is segment own)), (λ heard. c.complete.1 (λ segment own. inr (heard segment own))));
    rebuilt = c.rebuilt;
    given = λ segment own. c.given segment own (unkept_now segment own);
    none_given = λ segment own. c.none_given segment own (unkept_now segment own);
    size = c.size;
    known = ((λ is. (let found = c.known.0 is in (found.0, (found.1.0, only_heard s found.0 found.1.0 found.1.1)))), (λ found. c.known.1 (found.0, (found.1.0, inr found.1.1))));
    missing = λ offset low high. (let both = c.missing offset low high in (
      (λ bare. (let found = both.0 bare in (found.0, (found.1.0, (found.1.1.0, (found.1.1.1.0, (λ heard. found.1.1.1.1 (inr heard)))))))),
      (λ found. both.1 (found.0, (found.1.0, (found.1.1.0, (found.1.1.1.0, (λ there. found.1.1.1.1 (only_heard s found.0 found.1.0 there))))))),
    ));
  }
