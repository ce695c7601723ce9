-- The accepted ranges of a file, read off the ranges in order.
use Rattle.std.proofs.Common.{◌≡◌, ◌≢◌, ◌+◌, ◌-◌, ◌<◌, ◌≤◌, inl, inr, zero, suc, ℕ, Bool, true, false, ◌&&◌, List, [], ◌∷◌, Some, None, length, drop, refl, ap, sym, subst, ◌∙◌, arith}
use Rattle.std.specs.Prelude.{slice_get, cond, ◌==◌}
use Rattle.std.proofs.lemmas.Bool.Decides.{nat_tests}
use Rattle.std.proofs.lemmas.List.Sums.{take_while-cons}
use Rattle.std.proofs.lemmas.Bool.{cases_Bool, cases_eq}
use Rattle.range_assembler.specs.declared.assembler.Entry.{Entry}
use Rattle.range_assembler.specs.declared.assembler.Hold.{Hold}
use Rattle.range_assembler.specs.declared.assembler.Hold.TheVariants.{Free, Held, Accepted}
use Rattle.range_assembler.specs.declared.sequence.Range.{Range}
use Rattle.range_assembler.specs.Entries.{is_taken, is_accepted}
use Rattle.range_assembler.specs.Before.{IsPlace}
use Rattle.range_assembler.specs.Order.{IsOrder, range_of}
use Rattle.range_assembler.specs.Sound.{AreSoundRanges}
use Rattle.range_assembler.specs.Accepted.{IsAmong, AreParts, IsKthPart, is_accepted_entry, is_accepted_at, front_of_file, kth_from}
use Rattle.range_assembler.proofs.Scanning.{both}
use Rattle.range_assembler.proofs.Ordering.{not_before, before_means, below_place, some_at, within, has_offset, shown_means, some_shown}

-- ---- one range of those that are gone over

same_test : (a b : ℕ) → a ≡ b → (a == b) ≡ true
same_test a b same = grind (arith, nat_tests)

other_test : (a b : ℕ) → a ≢ b → (a == b) ≡ false
other_test a b other = grind (arith, nat_tests)

nothing_at : (k : ℕ) → slice_get {X = ℕ} [] k ≡ None
nothing_at zero = refl
nothing_at (suc k) = refl

front_stops : (file : ℕ) (range : Range) (ranges : List Range) → range.file ≢ file → front_of_file file (range ∷ ranges) ≡ []
front_stops file range ranges other = take_while-cons (λ r. r.file == file) range ranges ∙ rw (other_test range.file file other) refl

front_goes : (file : ℕ) (range : Range) (ranges : List Range) → range.file ≡ file → front_of_file file (range ∷ ranges) ≡ range ∷ front_of_file file ranges
front_goes file range ranges same = take_while-cons (λ r. r.file == file) range ranges ∙ rw (same_test range.file file same) refl

pub kth_other : (file : ℕ) (entries : List Entry) (range : Range) (ranges : List Range) (k : ℕ) → range.file ≢ file → kth_from file entries (range ∷ ranges) k ≡ None
kth_other file entries range ranges k other = rw (front_stops file range ranges other) (nothing_at k)

pub kth_skip : (file : ℕ) (entries : List Entry) (range : Range) (ranges : List Range) (k : ℕ) → range.file ≡ file → is_accepted_at entries range.segment ≡ false → kth_from file entries (range ∷ ranges) k ≡ kth_from file entries ranges k
kth_skip file entries range ranges k same held = rw (front_goes file range ranges same, held) refl

pub kth_hit : (file : ℕ) (entries : List Entry) (range : Range) (ranges : List Range) (k : ℕ) → range.file ≡ file → is_accepted_at entries range.segment ≡ true → k ≡ 0 → kth_from file entries (range ∷ ranges) k ≡ Some range.segment
kth_hit file entries range ranges zero same accepted none = rw (front_goes file range ranges same, accepted) refl
kth_hit file entries range ranges (suc k) same accepted none = absurd (omega (arith, none))

pub kth_less : (file : ℕ) (entries : List Entry) (range : Range) (ranges : List Range) (k less : ℕ) → range.file ≡ file → is_accepted_at entries range.segment ≡ true → k ≡ suc less → kth_from file entries (range ∷ ranges) k ≡ kth_from file entries ranges less
kth_less file entries range ranges zero less same accepted more = absurd (omega (arith, more))
kth_less file entries range ranges (suc k) less same accepted more =
    let one : k ≡ less = omega (arith, more) in
    rw (front_goes file range ranges same, accepted) (ap (kth_from file entries ranges) one)

pub drop_at : (ranges : List Range) (at : ℕ) (range : Range) → slice_get ranges at ≡ Some range → drop at ranges ≡ range ∷ drop (suc at) ranges
drop_at [] at range is = cc
drop_at (first ∷ ranges) zero range is = let same : first ≡ range = cc in ap (λ (r : Range). r ∷ ranges) same
drop_at (first ∷ ranges) (suc at) range is = drop_at ranges at range is

pub drop_past : (ranges : List Range) (at : ℕ) → length ranges ≤ at → drop at ranges ≡ []
drop_past [] zero past = refl
drop_past [] (suc at) past = refl
drop_past (first ∷ ranges) zero past = absurd (omega (arith, past))
drop_past (first ∷ ranges) (suc at) past = drop_past ranges at (omega (arith, past))

no_range_at : (k : ℕ) → slice_get {X = Range} [] k ≡ None
no_range_at zero = refl
no_range_at (suc k) = refl

-- ---- the segments of the accepted ones

abbrev is_its : ℕ → List Entry → Range → Bool
is_its file entries range = (range.file == file) && is_accepted_at entries range.segment

abbrev accepted_in : ℕ → List Entry → List Range → List ℕ
accepted_in file entries [] = []
accepted_in file entries (range ∷ ranges) = cond (is_its file entries range) (range.segment ∷ accepted_in file entries ranges) (accepted_in file entries ranges)

takes : (file : ℕ) (entries : List Entry) (range : Range) (ranges : List Range) → is_its file entries range ≡ true → accepted_in file entries (range ∷ ranges) ≡ range.segment ∷ accepted_in file entries ranges
takes file entries range ranges is = rw is refl

leaves : (file : ℕ) (entries : List Entry) (range : Range) (ranges : List Range) → is_its file entries range ≡ false → accepted_in file entries (range ∷ ranges) ≡ accepted_in file entries ranges
leaves file entries range ranges is = rw is refl

not_its : (file : ℕ) (entries : List Entry) (range : Range) → range.file ≢ file → is_its file entries range ≡ false
not_its file entries range other = rw (other_test range.file file other) refl

none_in : (file : ℕ) (entries : List Entry) (ranges : List Range) → ((k : ℕ) (range : Range) → slice_get ranges k ≡ Some range → range.file ≢ file) → accepted_in file entries ranges ≡ []
none_in file entries [] other = refl
none_in file entries (range ∷ ranges) other =
    leaves file entries range ranges (not_its file entries range (other 0 range refl)) ∙ none_in file entries ranges (λ k r is. other (suc k) r is)

below_left : (file : ℕ) (entries : List Entry) (ranges : List Range) (place : ℕ) → ((k : ℕ) (range : Range) → k < place → slice_get ranges k ≡ Some range → range.file ≢ file) → accepted_in file entries ranges ≡ accepted_in file entries (drop place ranges)
below_left file entries ranges zero other = refl
below_left file entries [] (suc place) other = refl
below_left file entries (range ∷ ranges) (suc place) other =
    leaves file entries range ranges (not_its file entries range (other 0 range (omega arith) refl)) ∙ below_left file entries ranges place (λ k r low is. other (suc k) r (omega (arith, low)) is)

-- ---- they are found one after the other

abbrev AreFrom : ℕ → List Range → Type 0
AreFrom file ranges = (k : ℕ) (range : Range) → slice_get ranges k ≡ Some range → file ≤ range.file

abbrev FilesRise : List Range → Type 0
FilesRise ranges = (j k : ℕ) (one other : Range) → j < k → slice_get ranges j ≡ Some one → slice_get ranges k ≡ Some other → one.file ≤ other.file

kth_is : (file : ℕ) (entries : List Entry) (ranges : List Range) (k : ℕ) → AreFrom file ranges → FilesRise ranges → kth_from file entries ranges k ≡ slice_get (accepted_in file entries ranges) k
kth_is file entries [] k from rise = sym (nothing_at k)
kth_is file entries (range ∷ ranges) k from rise = elim (cases_eq range.file file) [
  | inl same ↦ elim (cases_Bool (is_accepted_at entries range.segment)) [
    | inl accepted ↦ here k same accepted (λ j. kth_is file entries ranges j behind rising)
    | inr held ↦ (let none : is_its file entries range ≡ false = rw (held, same_test range.file file same) refl in
        kth_skip file entries range ranges k same held ∙ kth_is file entries ranges k behind rising ∙ ap (λ (t : List ℕ). slice_get t k) (sym (leaves file entries range ranges none)))
  ]
  | inr other ↦ (let first : file ≤ range.file = from 0 range refl in
      let later : (j : ℕ) (r : Range) → slice_get ranges j ≡ Some r → r.file ≢ file = λ j r is e. (let up : range.file ≤ r.file = rise 0 (suc j) range r (omega arith) refl is in absurd (omega (arith, up, first, other, e))) in
      kth_other file entries range ranges k other ∙ sym (nothing_at k)
      ∙ ap (λ (t : List ℕ). slice_get t k) (sym (leaves file entries range ranges (not_its file entries range other) ∙ none_in file entries ranges later)))
]
  where
    behind : AreFrom file ranges
    behind j r is = from (suc j) r is

    rising : FilesRise ranges
    rising i j one other low a b = rise (suc i) (suc j) one other (omega (arith, low)) a b

    here : (j : ℕ) → range.file ≡ file → is_accepted_at entries range.segment ≡ true → ((i : ℕ) → kth_from file entries ranges i ≡ slice_get (accepted_in file entries ranges) i) → kth_from file entries (range ∷ ranges) j ≡ slice_get (accepted_in file entries (range ∷ ranges)) j
    here zero same accepted along =
        let its : is_its file entries range ≡ true = rw (accepted, same_test range.file file same) refl in
        kth_hit file entries range ranges zero same accepted refl ∙ ap (λ (t : List ℕ). slice_get t 0) (sym (takes file entries range ranges its))
    here (suc j) same accepted along =
        let its : is_its file entries range ≡ true = rw (accepted, same_test range.file file same) refl in
        kth_less file entries range ranges (suc j) j same accepted refl ∙ along j ∙ ap (λ (t : List ℕ). slice_get t (suc j)) (sym (takes file entries range ranges its))

-- ---- and are all of them, in order

record FromRange (file : ℕ) (entries : List Entry) (ranges : List Range) (segment : ℕ) : Type 0 where
  place : ℕ
  range : Range
  there : slice_get ranges place ≡ Some range
  is : is_its file entries range ≡ true
  its : range.segment ≡ segment

from_behind : (file : ℕ) (entries : List Entry) (range : Range) (ranges : List Range) (segment : ℕ) → FromRange file entries ranges segment → FromRange file entries (range ∷ ranges) segment
from_behind file entries range ranges segment found = record { place = suc found.place; range = found.range; there = found.there; is = found.is; its = found.its }

from_range : (file : ℕ) (entries : List Entry) (ranges : List Range) (k segment : ℕ) → slice_get (accepted_in file entries ranges) k ≡ Some segment → FromRange file entries ranges segment
from_range file entries [] k segment is = (let no_way : None ≡ Some segment = sym (nothing_at k) ∙ is in cc)
from_range file entries (range ∷ ranges) k segment is = elim (cases_Bool (is_its file entries range)) [
  | inl its ↦ here k its (ap (λ (t : List ℕ). slice_get t k) (sym (takes file entries range ranges its)) ∙ is) (λ j there. from_range file entries ranges j segment there)
  | inr other ↦ from_behind file entries range ranges segment (from_range file entries ranges k segment (ap (λ (t : List ℕ). slice_get t k) (sym (leaves file entries range ranges other)) ∙ is))
]
  where
    here : (j : ℕ) → is_its file entries range ≡ true → slice_get (range.segment ∷ accepted_in file entries ranges) j ≡ Some segment → ((i : ℕ) → slice_get (accepted_in file entries ranges) i ≡ Some segment → FromRange file entries ranges segment) → FromRange file entries (range ∷ ranges) segment
    here zero its there along = record { place = 0; range = range; there = refl; is = its; its = cc }
    here (suc j) its there along = from_behind file entries range ranges segment (along j there)

record TwoRanges (ranges : List Range) (one other : ℕ) : Type 0 where
  low : ℕ
  high : ℕ
  former : Range
  latter : Range
  less : low < high
  there : slice_get ranges low ≡ Some former
  behind : slice_get ranges high ≡ Some latter
  its : former.segment ≡ one
  other_its : latter.segment ≡ other

two_behind : (range : Range) (ranges : List Range) (one other : ℕ) → TwoRanges ranges one other → TwoRanges (range ∷ ranges) one other
two_behind range ranges one other two = record { low = suc two.low; high = suc two.high; former = two.former; latter = two.latter; less = (let l : two.low < two.high = two.less in omega (arith, l)); there = two.there; behind = two.behind; its = two.its; other_its = two.other_its }

two_ranges : (file : ℕ) (entries : List Entry) (ranges : List Range) (j k one other : ℕ) → j < k → slice_get (accepted_in file entries ranges) j ≡ Some one → slice_get (accepted_in file entries ranges) k ≡ Some other → TwoRanges ranges one other
two_ranges file entries [] j k one other low a b = (let no_way : None ≡ Some one = sym (nothing_at j) ∙ a in cc)
two_ranges file entries (range ∷ ranges) j k one other low a b = elim (cases_Bool (is_its file entries range)) [
  | inl its ↦ here j k low (ap (λ (t : List ℕ). slice_get t j) (sym (takes file entries range ranges its)) ∙ a) (ap (λ (t : List ℕ). slice_get t k) (sym (takes file entries range ranges its)) ∙ b) (λ u v less c d. two_ranges file entries ranges u v one other less c d)
  | inr not_it ↦ two_behind range ranges one other (two_ranges file entries ranges j k one other low (ap (λ (t : List ℕ). slice_get t j) (sym (leaves file entries range ranges not_it)) ∙ a) (ap (λ (t : List ℕ). slice_get t k) (sym (leaves file entries range ranges not_it)) ∙ b))
]
  where
    here : (u v : ℕ) → u < v → slice_get (range.segment ∷ accepted_in file entries ranges) u ≡ Some one → slice_get (range.segment ∷ accepted_in file entries ranges) v ≡ Some other →
        ((x y : ℕ) → x < y → slice_get (accepted_in file entries ranges) x ≡ Some one → slice_get (accepted_in file entries ranges) y ≡ Some other → TwoRanges ranges one other) → TwoRanges (range ∷ ranges) one other
    here u zero less c d along = absurd (omega (arith, less))
    here zero (suc v) less c d along =
        let found = from_range file entries ranges v other d in
        record { low = 0; high = suc found.place; former = range; latter = found.range; less = omega arith; there = refl; behind = found.there; its = cc; other_its = found.its }
    here (suc u) (suc v) less c d along = two_behind range ranges one other (along u v (omega (arith, less)) c d)

among_behind : (x y : ℕ) (xs : List ℕ) → IsAmong y xs → IsAmong y (x ∷ xs)
among_behind x y xs found = record { place = suc found.place; there = found.there }

among : (file : ℕ) (entries : List Entry) (ranges : List Range) (p : ℕ) (range : Range) → slice_get ranges p ≡ Some range → is_its file entries range ≡ true → IsAmong range.segment (accepted_in file entries ranges)
among file entries [] p range there is = cc
among file entries (first ∷ ranges) zero range there is =
    let same : first ≡ range = cc in
    let its : is_its file entries first ≡ true = ap (is_its file entries) same ∙ is in
    subst (IsAmong range.segment) (sym (takes file entries first ranges its)) (record { place = 0; there = ap (λ (r : Range). Some r.segment) same })
among file entries (first ∷ ranges) (suc p) range there is =
    let found = among file entries ranges p range there is in
    elim (cases_Bool (is_its file entries first)) [
      | inl its ↦ subst (IsAmong range.segment) (sym (takes file entries first ranges its)) (among_behind first.segment range.segment (accepted_in file entries ranges) found)
      | inr other ↦ subst (IsAmong range.segment) (sym (leaves file entries first ranges other)) found
    ]

accepted_taken : (hold : Hold) → is_accepted hold ≡ true → is_taken hold ≡ true
accepted_taken Free is = cc
accepted_taken Held is = cc
accepted_taken (Accepted size) is = refl

parts_in : (file : ℕ) (entries : List Entry) (ranges : List Range) → IsOrder entries ranges → AreParts file entries (accepted_in file entries ranges)
parts_in file entries ranges order = record {
  each = λ k segment is.
      (let found = from_range file entries ranges k segment is in
      let stands = order.sound found.place found.range found.there in
      let two = both (found.range.file == file) (is_accepted_at entries found.range.segment) found.is in
      let test : (found.range.file == file) ≡ true = two.0 in
      let same : found.range.file ≡ file = grind (arith, nat_tests) in
      let file_is : found.range.file ≡ stands.entry.file = ap (λ (r : Range). r.file) stands.same in
      record {
        entry = stands.entry;
        there = ap (λ n. slice_get entries n) (sym found.its) ∙ stands.there;
        its = sym file_is ∙ same;
        accepted = ap is_accepted_entry (sym stands.there) ∙ two.1;
        some = (shown_means stands.entry stands.shown).1;
      });
  all = λ segment part.
      (let shown = some_shown part.entry (accepted_taken part.entry.hold part.accepted) part.some in
      let listed = order.whole segment part.entry part.there shown in
      let accepted : is_accepted_at entries segment ≡ true = ap is_accepted_entry part.there ∙ part.accepted in
      let its : is_its file entries (range_of segment part.entry) ≡ true = rw (accepted, same_test part.entry.file file part.its) refl in
      among file entries ranges listed.place (range_of segment part.entry) listed.there its);
  rising = λ j k one other low a b former latter is_former is_latter.
      (let two = two_ranges file entries ranges j k one other low a b in
      let first = order.sound two.low two.former two.there in
      let second = order.sound two.high two.latter two.behind in
      let first_file : two.former.file ≡ two.latter.file = of_one_file j k one other a b two in
      let one_is : Some first.entry ≡ Some former = sym first.there ∙ ap (λ n. slice_get entries n) two.its ∙ is_former in
      let other_is : Some second.entry ≡ Some latter = sym second.there ∙ ap (λ n. slice_get entries n) two.other_its ∙ is_latter in
      let e : first.entry ≡ former = cc in
      let f : second.entry ≡ latter = cc in
      let last : two.former.last ≡ former.last = ap (λ (r : Range). r.last) first.same ∙ ap (λ (x : Entry). x.last) e in
      let begin : two.latter.first ≡ latter.first = ap (λ (r : Range). r.first) second.same ∙ ap (λ (x : Entry). x.first) f in
      elim (order.rising two.low two.high two.former two.latter two.less two.there two.behind) [
        | inl earlier ↦ absurd (omega (arith, earlier, first_file))
        | inr ends ↦ (let less = ends.1 in omega (arith, less, last, begin))
      ]);
}
  where
    file_of_segment : (k segment : ℕ) (range : Range) (p : ℕ) → slice_get (accepted_in file entries ranges) k ≡ Some segment → slice_get ranges p ≡ Some range → range.segment ≡ segment → range.file ≡ file
    file_of_segment k segment range p is there its =
        let found = from_range file entries ranges k segment is in
        let one = order.sound found.place found.range found.there in
        let other = order.sound p range there in
        let same : Some one.entry ≡ Some other.entry = sym one.there ∙ ap (λ n. slice_get entries n) (found.its ∙ sym its) ∙ other.there in
        let e : one.entry ≡ other.entry = cc in
        let two = both (found.range.file == file) (is_accepted_at entries found.range.segment) found.is in
        let test : (found.range.file == file) ≡ true = two.0 in
        let found_file : found.range.file ≡ file = grind (arith, nat_tests) in
        let a : found.range.file ≡ one.entry.file = ap (λ (r : Range). r.file) one.same in
        let b : range.file ≡ other.entry.file = ap (λ (r : Range). r.file) other.same in
        b ∙ ap (λ (x : Entry). x.file) (sym e) ∙ sym a ∙ found_file

    of_one_file : (j k one other : ℕ) → slice_get (accepted_in file entries ranges) j ≡ Some one → slice_get (accepted_in file entries ranges) k ≡ Some other → (two : TwoRanges ranges one other) → two.former.file ≡ two.latter.file
    of_one_file j k one other a b two = file_of_segment j one two.former two.low a two.there two.its ∙ sym (file_of_segment k other two.latter two.high b two.behind two.other_its)

-- ---- from a place on

get_drop : (ranges : List Range) (n k m : ℕ) → m ≡ n + k → slice_get (drop n ranges) k ≡ slice_get ranges m
get_drop ranges zero k m e = ap (λ i. slice_get ranges i) (let f : k ≡ m = omega (arith, e) in f)
get_drop [] (suc n) k m e = no_range_at k ∙ sym (no_range_at m)
get_drop (first ∷ ranges) (suc n) k zero e = absurd (omega (arith, e))
get_drop (first ∷ ranges) (suc n) k (suc m) e = get_drop ranges n k m (omega (arith, e))

precedes_file : (ranges : List Range) (entries : List Entry) (j k : ℕ) (one other : Range) → IsOrder entries ranges → j < k → slice_get ranges j ≡ Some one → slice_get ranges k ≡ Some other → one.file ≤ other.file
precedes_file ranges entries j k one other order low a b = elim (order.rising j k one other low a b) [ inl less ↦ omega (arith, less) | inr same ↦ (let e = same.0 in omega (arith, e)) ]

pub kth_found : (entries : List Entry) (ranges : List Range) (file place k : ℕ) → AreSoundRanges entries → IsOrder entries ranges → IsPlace file 1 ranges place → IsKthPart file k entries (kth_from file entries (drop place ranges) k)
kth_found entries ranges file place k sound order at = record {
  segments = accepted_in file entries ranges;
  are = parts_in file entries ranges order;
  answer_is = kth_is file entries (drop place ranges) k from rise ∙ ap (λ (t : List ℕ). slice_get t k) (sym (below_left file entries ranges place below));
}
  where
    below : (j : ℕ) (range : Range) → j < place → slice_get ranges j ≡ Some range → range.file ≢ file
    below j range low is same = elim (before_means file 1 range (below_place entries ranges file 1 place j range order at low is)) [
      | inl less ↦ absurd (omega (arith, less, same))
      | inr ends ↦ (let stands = order.sound j range is in
          let means = shown_means stands.entry stands.shown in
          let one : 1 ≤ stands.entry.first = (sound.ranges range.segment stands.entry stands.there means.0).from_one in
          let first : range.first ≡ stands.entry.first = ap (λ (r : Range). r.first) stands.same in
          let some = has_offset entries ranges j range order is in
          let last = ends.1 in absurd (omega (arith, one, first, some, last)))
    ]

    first_file : (range : Range) → slice_get ranges place ≡ Some range → file ≤ range.file
    first_file range is = elim (not_before file 1 range (at.from range is)) [ inl less ↦ omega (arith, less) | inr same ↦ (let e = same.0 in omega (arith, e)) ]

    from : AreFrom file (drop place ranges)
    from j range is = behind j (sym (get_drop ranges place j (place + j) refl) ∙ is)
      where
        behind : (i : ℕ) → slice_get ranges (place + i) ≡ Some range → file ≤ range.file
        behind zero there = first_file range (ap (λ n. slice_get ranges n) (let e : place ≡ place + 0 = omega arith in e) ∙ there)
        behind (suc i) there =
            let w = within ranges (place + suc i) range there in
            let here = some_at ranges place (omega (arith, w)) in
            let a = first_file here.range here.there in
            let b = precedes_file ranges entries place (place + suc i) here.range range order (omega arith) here.there there in
            omega (arith, a, b)

    rise : FilesRise (drop place ranges)
    rise i j one other low a b = precedes_file ranges entries (place + i) (place + j) one other order (omega (arith, low)) (sym (get_drop ranges place i (place + i) refl) ∙ a) (sym (get_drop ranges place j (place + j) refl) ∙ b)
