-- What a write within the range of a part leaves.
use Rattle.std.proofs.Common.{◌≡◌, ◌≢◌, ◌<◌, ◌≤◌, ◌+◌, ◌-◌, ◌⊎◌, inl, inr, ℕ, true, false, List, [], ◌++◌, Option, Some, length, length-append, replicate, refl, sym, ap, subst, ◌∙◌, arith}
use Rattle.std.specs.Prelude.{slice_get, nat_le, ◌==◌}
use Rattle.std.specs.Option.{option_map}
use Rattle.std.proofs.lemmas.Bool.{cases_eq, cases_lt}
use Rattle.std.proofs.lemmas.Bool.Decides.{nat_tests}
use Rattle.std.proofs.lemmas.List.{length-replicate}
use Rattle.std.proofs.lemmas.Option.{slice_get_within}
use Rattle.io_traits.specs.Store.{Shelf, Stored, Puts, with_bytes, written_at}
use Rattle.range_assembler.specs.declared.assembler.Entry.{Entry}
use Rattle.range_assembler.specs.Entries.{is_taken, shares, with_release}
use Rattle.range_assembler.specs.Sound.{AreSoundRanges}
use Rattle.fetch_files.specs.Calls.{zeroed}
use Rattle.fetch_files.specs.Filled.{AreFilled, HaveRoom, HoldsGiven, IsFilled, IsGivenAt, IsPartOf, NoneGiven, with_given}
use Rattle.fetch_files.specs.Laws.{StaysFilled}
use Rattle.fetch_files.proofs.Edits.{release_fills}
use Rattle.fetch_files.proofs.Written.{IsBeside, get-beside, get-behind, get-front, get-gap, get-written, get-zeros, some-get}

-- ---- what the segments gave, with a change in one

pub given_here : (segment : ℕ) (now : List ℕ) (given : ℕ → List ℕ) → with_given segment now given segment ≡ now
given_here segment now given = grind (arith, nat_tests)

pub given_other : (segment k : ℕ) (now : List ℕ) (given : ℕ → List ℕ) → k ≢ segment → with_given segment now given k ≡ given k
given_other segment k now given other = grind (arith, nat_tests)

one_entry : (entries : List Entry) (s segment : ℕ) (e entry : Entry) → slice_get entries segment ≡ Some entry → s ≡ segment → slice_get entries s ≡ Some e → e ≡ entry
one_entry entries s segment e entry here same there =
    let both : Some e ≡ Some entry = sym there ∙ ap (λ n. slice_get entries n) same ∙ here in cc

-- ---- two parts share no place

-- an offset that is in the range of a part of the file
record Takes (file offset : ℕ) (entry : Entry) : Type 0 where
  its : entry.file ≡ file
  taken : is_taken entry.hold ≡ true
  low : entry.first ≤ offset
  high : offset ≤ entry.last

shared : (first last offset : ℕ) (file : ℕ) (entry : Entry) → Takes file offset entry → first ≤ offset → offset ≤ last → shares file first last entry ≡ true
shared first last offset file entry takes from upto =
    let its : entry.file ≡ file = takes.its in
    let low : entry.first ≤ offset = takes.low in
    let high : offset ≤ entry.last = takes.high in
    let a : (entry.file == file) ≡ true = grind (arith, nat_tests) in
    let b : nat_le entry.first last ≡ true = grind (arith, nat_tests) in
    let c : nat_le first entry.last ≡ true = grind (arith, nat_tests) in
    let d : nat_le entry.first entry.last ≡ true = grind (arith, nat_tests) in
    let e : nat_le first last ≡ true = grind (arith, nat_tests) in
    rw (a, takes.taken, b, c, d, e) refl

no_shared_offset : (entries : List Entry) (s segment offset : ℕ) (e entry : Entry) → AreSoundRanges entries → slice_get entries s ≡ Some e → slice_get entries segment ≡ Some entry → s ≢ segment → Takes entry.file offset e → Takes entry.file offset entry → ⊥
no_shared_offset entries s segment offset e entry sound there here other one two =
    let none : shares entry.file entry.first entry.last e ≡ false = sound.apart segment s entry e (λ same. other (sym same)) here there two.taken in
    let no_way : true ≡ false = sym (shared entry.first entry.last offset entry.file e one two.low two.high) ∙ none in cc

-- ---- a write in the range of a part

module _ (entries : List Entry) (given : ℕ → List ℕ) (segment place : ℕ) (entry : Entry) (now piece bytes : List ℕ) where
  -- what a write has to do, so that the part then gave `now`
  record Replaces : Type 0 where
    -- it is in the part's range
    from : entry.first ≤ place + 1
    upto : place + length piece ≤ entry.last
    -- it leaves what the part now gave
    mine : (k : ℕ) → k < length now → slice_get (written_at place piece bytes) (entry.first - 1 + k) ≡ slice_get now k
    -- what it wrote is zero, or given now
    wrote : (at : ℕ) → place ≤ at → at < place + length piece → (slice_get (written_at place piece bytes) at ≡ Some 0) ⊎ IsGivenAt entry.file entries (with_given segment now given) at
    -- what the part gave beside it is given still
    kept : (at : ℕ) → IsBeside place piece at → entry.first ≤ at + 1 → at + 1 < entry.first + length (given segment) → IsGivenAt entry.file entries (with_given segment now given) at

  module _ (sound : AreSoundRanges entries) (room : HaveRoom entries given) (here : slice_get entries segment ≡ Some entry) (taken : is_taken entry.hold ≡ true) (replaces : Replaces) where
    -- a place of another part is beside the write
    beside_others : (s k : ℕ) (e : Entry) → IsPartOf entry.file entries s e → s ≢ segment → k < length (given s) → IsBeside place piece (e.first - 1 + k)
    beside_others s k e part other less = elim (cases_lt (e.first - 1 + k) place) [
      | inl low ↦ inl low
      | inr high ↦ elim (cases_lt (e.first - 1 + k) (place + length piece)) [
        | inl inside ↦ (let one = sound.ranges s e part.here part.taken in
            let first : 1 ≤ e.first = one.from_one in
            let fits = room s e part.here part.taken in
            let from = replaces.from in
            let upto = replaces.upto in
            absurd (no_shared_offset entries s segment (e.first + k) e entry sound part.here here other
            (record { its = part.file_is; taken = part.taken; low = omega arith; high = omega (arith, fits, less) })
            (record { its = refl; taken = taken; low = omega (arith, from, high, first); high = omega (arith, upto, inside, first) })))
        | inr past ↦ inr past
      ]
    ]

    still_given : (at : ℕ) → IsBeside place piece at → IsGivenAt entry.file entries given at → IsGivenAt entry.file entries (with_given segment now given) at
    still_given at beside was = elim (cases_eq was.segment segment) [
      | inl same ↦ (let e : was.entry ≡ entry = one_entry entries was.segment segment was.entry entry here same was.part.here in
          let low = subst (λ (x : Entry). x.first ≤ at + 1) e was.low in
          let high = subst (λ (x : Entry). at + 1 < x.first + length (given was.segment)) e was.high in
          replaces.kept at beside low (subst (λ n. at + 1 < entry.first + length (given n)) same high))
      | inr other ↦ record {
        segment = was.segment;
        entry = was.entry;
        part = was.part;
        low = was.low;
        high = subst (λ (t : List ℕ). at + 1 < was.entry.first + length t) (sym (given_other segment was.segment now given other)) was.high;
      }
    ]

    zero_beside : HoldsGiven entry.file entries given bytes → (at : ℕ) → IsBeside place piece at → at < length (written_at place piece bytes) → (IsGivenAt entry.file entries (with_given segment now given) at → ⊥) → slice_get (written_at place piece bytes) at ≡ Some 0
    zero_beside holds at beside within bare = elim (cases_lt at (length bytes)) [
      | inl inside ↦ get-beside place at piece bytes beside inside ∙ holds.zeros at inside (λ was. bare (still_given at beside was))
      | inr past ↦ get-gap place at piece bytes beside past within
    ]

    holds_replaced : HoldsGiven entry.file entries given bytes → HoldsGiven entry.file entries (with_given segment now given) (written_at place piece bytes)
    holds_replaced holds = record {
      parts = λ s k e part less. elim (cases_eq s segment) [
        | inl same ↦ (let is : e ≡ entry = one_entry entries s segment e entry here same part.here in
            let gave : with_given segment now given s ≡ now = ap (λ n. with_given segment now given n) same ∙ given_here segment now given in
            let short : k < length now = subst (λ (t : List ℕ). k < length t) gave less in
            ap (λ (x : Entry). slice_get (written_at place piece bytes) (x.first - 1 + k)) is ∙ replaces.mine k short ∙ ap (λ (t : List ℕ). slice_get t k) (sym gave))
        | inr other ↦ (let gave : with_given segment now given s ≡ given s = given_other segment s now given other in
            let short : k < length (given s) = subst (λ (t : List ℕ). k < length t) gave less in
            let was = holds.parts s k e part short in
            let some = some-get (given s) k short in
            let inside = slice_get_within bytes (e.first - 1 + k) some.0 (was ∙ some.1) in
            get-beside place (e.first - 1 + k) piece bytes (beside_others s k e part other short) inside ∙ was ∙ ap (λ (t : List ℕ). slice_get t k) (sym gave))
      ];
      zeros = λ at within bare. elim (cases_lt at place) [
        | inl low ↦ zero_beside holds at (inl low) within bare
        | inr high ↦ elim (cases_lt at (place + length piece)) [
          | inl inside ↦ elim (replaces.wrote at high inside) [ inl zero_is ↦ zero_is | inr gave ↦ absurd (bare gave) ]
          | inr past ↦ zero_beside holds at (inr past) within bare
        ]
      ];
    }

-- ---- all files

other_file : (entries : List Entry) (given : ℕ → List ℕ) (segment file : ℕ) (entry : Entry) (now bytes : List ℕ) → slice_get entries segment ≡ Some entry → file ≢ entry.file → HoldsGiven file entries given bytes → HoldsGiven file entries (with_given segment now given) bytes
other_file entries given segment file entry now bytes here other holds =
    let gave : (s : ℕ) (e : Entry) → IsPartOf file entries s e → with_given segment now given s ≡ given s = λ s e part. given_other segment s now given (λ same.
    other (sym part.file_is ∙ ap (λ (x : Entry). x.file) (one_entry entries s segment e entry here same part.here))) in
    record {
      parts = λ s k e part less. holds.parts s k e part (subst (λ (t : List ℕ). k < length t) (gave s e part) less) ∙ ap (λ (t : List ℕ). slice_get t k) (sym (gave s e part));
      zeros = λ at within bare. holds.zeros at within (λ was. bare (record {
        segment = was.segment;
        entry = was.entry;
        part = was.part;
        low = was.low;
        high = subst (λ (t : List ℕ). at + 1 < was.entry.first + length t) (sym (gave was.segment was.entry was.part)) was.high;
      }));
    }

filled_replaced : (count : ℕ) (name : ℕ → List ℕ) (entries : List Entry) (given : ℕ → List ℕ) (segment : ℕ) (entry : Entry) (now : List ℕ) (change : List ℕ → List ℕ) (old new : Shelf)
    → slice_get entries segment ≡ Some entry
    → ((bytes : List ℕ) → HoldsGiven entry.file entries given bytes → HoldsGiven entry.file entries (with_given segment now given) (change bytes))
    → AreFilled count name entries given old → Puts entry.file (option_map (with_bytes change) (old entry.file)) old new → AreFilled count name entries (with_given segment now given) new
filled_replaced count name entries given segment entry now change old new here holds filled puts file less = elim (cases_eq file entry.file) [
  | inl same ↦ (let was = filled entry.file (subst (λ n. n < count) same less) in
      let P : ℕ → Type 0 = λ (n : ℕ). IsFilled n (name n) entries (with_given segment now given) (new n) in
      subst P (sym same) (record {
        stored = with_bytes change was.stored;
        there = puts.changed ∙ ap (λ (held : Option Stored). option_map (with_bytes change) held) was.there;
        named = was.named;
        holds = holds was.stored.bytes was.holds;
      }))
  | inr other ↦ (let was = filled file less in
      record { stored = was.stored; there = puts.others file other ∙ was.there; named = was.named; holds = other_file entries given segment file entry now was.stored.bytes here other was.holds })
]

-- ---- a piece more

pub piece_is_written : (count : ℕ) (name : ℕ → List ℕ) (entries : List Entry) (given : ℕ → List ℕ) (segment : ℕ) (entry : Entry) (piece : List ℕ) (old new : Shelf)
    → AreSoundRanges entries → HaveRoom entries given
    → slice_get entries segment ≡ Some entry → is_taken entry.hold ≡ true → entry.first + length (given segment) + length piece ≤ entry.last + 1
    → AreFilled count name entries given old
    → Puts entry.file (option_map (with_bytes (written_at (entry.first - 1 + length (given segment)) piece)) (old entry.file)) old new
    → AreFilled count name entries (with_given segment (given segment ++ piece) given) new
piece_is_written count name entries given segment entry piece old new sound room here taken fits =
    let gave : List ℕ = given segment in
    let now : List ℕ = gave ++ piece in
    let place : ℕ = entry.first - 1 + length gave in
    let one = sound.ranges segment entry here taken in
    let first : 1 ≤ entry.first = one.from_one in
    let part : IsPartOf entry.file entries segment entry = record { here = here; file_is = refl; taken = taken } in
    let long : length now ≡ length gave + length piece = length-append gave piece in
    let is_given : (at : ℕ) → entry.first ≤ at + 1 → at + 1 < entry.first + length now → IsGivenAt entry.file entries (with_given segment now given) at = λ at low high.
    record { segment = segment; entry = entry; part = part; low = low; high = subst (λ (t : List ℕ). at + 1 < entry.first + length t) (sym (given_here segment now given)) high } in
    filled_replaced count name entries given segment entry now (written_at place piece) old new here (λ bytes holds.
    holds_replaced entries given segment place entry now piece bytes sound room here taken
    (record {
      from = omega arith;
      upto = omega arith;
      mine = λ k less. elim (cases_lt k (length gave)) [
        | inl low ↦ (let was = holds.parts segment k entry part low in
            let some = some-get gave k low in
            let inside = slice_get_within bytes (entry.first - 1 + k) some.0 (was ∙ some.1) in
            get-beside place (entry.first - 1 + k) piece bytes (inl (omega arith)) inside ∙ was ∙ sym (get-front gave piece k low))
        | inr high ↦ get-written place (k - length gave) (entry.first - 1 + k) piece bytes (omega (arith, high)) (omega (arith, less, long, high)) ∙ sym (get-behind gave piece k (k - length gave) (omega (arith, high)))
      ];
      wrote = λ at low high. inr (is_given at (omega (arith, low)) (omega (arith, low, high, long, first)));
      kept = λ at beside low high. is_given at low (omega (arith, high, long));
    })
    holds)

-- ---- zeros over a part

pub part_is_cleared : (count : ℕ) (name : ℕ → List ℕ) (entries : List Entry) (given : ℕ → List ℕ) (segment : ℕ) (entry : Entry) (old new : Shelf)
    → AreSoundRanges entries → HaveRoom entries given
    → slice_get entries segment ≡ Some entry → is_taken entry.hold ≡ true
    → AreFilled count name entries given old
    → Puts entry.file (option_map (with_bytes (zeroed (entry.first - 1) (length (given segment)))) (old entry.file)) old new
    → AreFilled count name entries (with_given segment [] given) new
part_is_cleared count name entries given segment entry old new sound room here taken =
    let count_given : ℕ = length (given segment) in
    let piece : List ℕ = replicate count_given 0 in
    let place : ℕ = entry.first - 1 in
    let one = sound.ranges segment entry here taken in
    let first : 1 ≤ entry.first = one.from_one in
    let fits = room segment entry here taken in
    let long : length piece ≡ count_given = length-replicate count_given 0 in
    filled_replaced count name entries given segment entry [] (written_at place piece) old new here (λ bytes holds.
    holds_replaced entries given segment place entry [] piece bytes sound room here taken
    (record {
      from = omega arith;
      upto = omega (arith, first, fits, long);
      mine = λ k less. absurd (omega (arith, less));
      wrote = λ at low high. inl (get-written place (at - place) at piece bytes (omega (arith, low)) (omega (arith, low, high)) ∙ get-zeros count_given (at - place) (omega (arith, low, high, long)));
      kept = λ at beside low high. elim beside [
        | inl before ↦ absurd (omega (arith, before, low, first))
        | inr behind ↦ absurd (omega (arith, behind, high, long, first))
      ];
    })
    holds)

pub cleared_stays : (entries : List Entry) (given : ℕ → List ℕ) (segment : ℕ) → StaysFilled (with_given segment [] given) entries (with_release segment entries)
cleared_stays entries given segment = release_fills entries (with_given segment [] given) segment (given_here segment [] given)

shorter : (entries : List Entry) (given : ℕ → List ℕ) (segment s : ℕ) → length (with_given segment [] given s) ≤ length (given s)
shorter entries given segment s = elim (cases_eq s segment) [
  | inl same ↦ (let gave : length (with_given segment [] given s) ≡ 0 = ap (λ n. length (with_given segment [] given n)) same ∙ ap (λ (t : List ℕ). length t) (given_here segment [] given) in omega (arith, gave))
  | inr other ↦ (let gave : length (with_given segment [] given s) ≡ length (given s) = ap (λ (t : List ℕ). length t) (given_other segment s [] given other) in omega (arith, gave))
]

pub cleared_room : (entries : List Entry) (given : ℕ → List ℕ) (segment : ℕ) → HaveRoom entries given → HaveRoom entries (with_given segment [] given)
cleared_room entries given segment room s e there taken =
    let fits = room s e there taken in
    let short = shorter entries given segment s in
    omega (arith, fits, short)

pub cleared_none : (entries : List Entry) (given : ℕ → List ℕ) (segment : ℕ) → NoneGiven entries given → NoneGiven entries (with_given segment [] given)
cleared_none entries given segment none s e there free = elim (cases_eq s segment) [
  | inl same ↦ ap (λ n. with_given segment [] given n) same ∙ given_here segment [] given
  | inr other ↦ given_other segment s [] given other ∙ none s e there free
]
