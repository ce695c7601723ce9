-- What stays true where an entry changes.
use Rattle.std.proofs.Common.{◌≡◌, ◌≢◌, ◌<◌, ◌≤◌, ◌+◌, ◌-◌, inl, inr, zero, suc, ℕ, true, false, List, [], ◌∷◌, Option, Some, None, length, refl, sym, ap, subst, ◌∙◌, arith}
use Rattle.std.specs.Prelude.{slice_get}
use Rattle.std.proofs.lemmas.Bool.{cases_eq}
use Rattle.lists.specs.Edit.{edit_at}
use Rattle.io_traits.specs.Store.{Shelf}
use Rattle.range_assembler.specs.declared.assembler.Entry.{Entry}
use Rattle.range_assembler.specs.declared.assembler.Hold.{Hold}
use Rattle.range_assembler.specs.declared.assembler.Hold.TheVariants.{Free, Held, Accepted}
use Rattle.range_assembler.specs.Claims.{is_free, is_free_at, is_free_entry, is_held, is_held_at, is_held_entry}
use Rattle.range_assembler.specs.Entries.{entries_of, is_taken, with_accept, with_claim, with_release}
use Rattle.range_assembler.proofs.Holds.{free_in}
use Rattle.fetch_files.specs.Filled.{AreFilled, HaveRoom, HoldsGiven, IsGivenAt, IsPartOf, NoneGiven}
use Rattle.fetch_files.specs.Laws.{StaysFilled}

-- ---- one place of a list that was edited

get-edit_other : {A : Type 0} (xs : List A) (i k : ℕ) (f : A → A) → k ≢ i → slice_get (edit_at i f xs) k ≡ slice_get xs k
get-edit_other [] i k f other = refl
get-edit_other (x ∷ xs) zero zero f other = absurd (other refl)
get-edit_other (x ∷ xs) zero (suc k) f other = refl
get-edit_other (x ∷ xs) (suc i) zero f other = refl
get-edit_other (x ∷ xs) (suc i) (suc k) f other = get-edit_other xs i k f (λ same. other (ap (λ n. suc n) same))

get-edit_same : {A : Type 0} (xs : List A) (i : ℕ) (f : A → A) (x : A) → slice_get xs i ≡ Some x → slice_get (edit_at i f xs) i ≡ Some (f x)
get-edit_same [] i f x is = cc
get-edit_same (y ∷ xs) zero f x is = let same : y ≡ x = cc in ap (λ t. Some (f t)) same
get-edit_same (y ∷ xs) (suc i) f x is = get-edit_same xs i f x is

record CameFrom {A : Type 0} (xs : List A) (i : ℕ) (f : A → A) (y : A) : Type 0 where
  before : A
  there : slice_get xs i ≡ Some before
  is : f before ≡ y

came_from : {A : Type 0} (xs : List A) (i : ℕ) (f : A → A) (y : A) → slice_get (edit_at i f xs) i ≡ Some y → CameFrom xs i f y
came_from [] i f y is = cc
came_from (x ∷ xs) zero f y is = record { before = x; there = refl; is = (let same : f x ≡ y = cc in same) }
came_from (x ∷ xs) (suc i) f y is = let at = came_from xs i f y is in record { before = at.before; there = at.there; is = at.is }

-- ---- other entries, and the same bytes

-- a part that begins there too
record HasTwin (file : ℕ) (entries : List Entry) (segment first : ℕ) : Type 0 where
  entry : Entry
  part : IsPartOf file entries segment entry
  begins : entry.first ≡ first

-- each part that gave something is a part of the other entries, from the same first offset on
abbrev Twins : (ℕ → List ℕ) → List Entry → List Entry → Type 0
Twins given entries after = (file segment : ℕ) (entry : Entry) → IsPartOf file entries segment entry → 0 < length (given segment) → HasTwin file after segment entry.first

some_given : (file : ℕ) (entries : List Entry) (given : ℕ → List ℕ) (place : ℕ) (at : IsGivenAt file entries given place) → 0 < length (given at.segment)
some_given file entries given place at = let low = at.low in let high = at.high in omega (arith, low, high)

still_given : (given : ℕ → List ℕ) (entries after : List Entry) → Twins given entries after → (file place : ℕ) → IsGivenAt file entries given place → IsGivenAt file after given place
still_given given entries after twins file place at =
    let twin = twins file at.segment at.entry at.part (some_given file entries given place at) in
    record {
      segment = at.segment;
      entry = twin.entry;
      part = twin.part;
      low = subst (λ n. n ≤ place + 1) (sym twin.begins) at.low;
      high = subst (λ n. place + 1 < n + length (given at.segment)) (sym twin.begins) at.high;
    }

holds_still : (given : ℕ → List ℕ) (entries after : List Entry) → Twins given entries after → Twins given after entries → (file : ℕ) (bytes : List ℕ) → HoldsGiven file entries given bytes → HoldsGiven file after given bytes
holds_still given entries after forth back file bytes holds = record {
  parts = λ segment k entry part less.
      let twin = back file segment entry part (omega arith) in
      ap (λ n. slice_get bytes (n - 1 + k)) (sym twin.begins) ∙ holds.parts segment k twin.entry twin.part less;
  zeros = λ place within bare. holds.zeros place within (λ at. bare (still_given given entries after forth file place at));
}

filled_still : (given : ℕ → List ℕ) (entries after : List Entry) → Twins given entries after → Twins given after entries → (count : ℕ) (name : ℕ → List ℕ) (shelf : Shelf) → AreFilled count name entries given shelf → AreFilled count name after given shelf
filled_still given entries after forth back count name shelf filled file less =
    let old = filled file less in
    record { stored = old.stored; there = old.there; named = old.named; holds = holds_still given entries after forth back file old.stored.bytes old.holds }

-- ---- an entry whose segment gave nothing changes

empty_short : (bytes : List ℕ) → bytes ≡ [] → 0 < length bytes → ⊥
empty_short bytes none some = omega (arith, ap length none)

forth_silent : (given : ℕ → List ℕ) (entries : List Entry) (i : ℕ) (f : Entry → Entry) → given i ≡ [] → Twins given entries (edit_at i f entries)
forth_silent given entries i f none file segment entry part some = elim (cases_eq segment i) [
  | inl same ↦ absurd (empty_short (given segment) (ap given same ∙ none) some)
  | inr other ↦ record { entry = entry; part = record { here = get-edit_other entries i segment f other ∙ part.here; file_is = part.file_is; taken = part.taken }; begins = refl }
]

back_silent : (given : ℕ → List ℕ) (entries : List Entry) (i : ℕ) (f : Entry → Entry) → given i ≡ [] → Twins given (edit_at i f entries) entries
back_silent given entries i f none file segment entry part some = elim (cases_eq segment i) [
  | inl same ↦ absurd (empty_short (given segment) (ap given same ∙ none) some)
  | inr other ↦ record { entry = entry; part = record { here = sym (get-edit_other entries i segment f other) ∙ part.here; file_is = part.file_is; taken = part.taken }; begins = refl }
]

-- a range that begins at most one behind its last offset, where it is one
abbrev HasForward : (Entry → Entry) → Type 0
HasForward f = (entry : Entry) → is_taken (f entry).hold ≡ true → (f entry).first ≤ (f entry).last + 1

silent_fills : (given : ℕ → List ℕ) (entries : List Entry) (i : ℕ) (f : Entry → Entry) → given i ≡ [] → HasForward f → StaysFilled given entries (edit_at i f entries)
silent_fills given entries i f none forward = record {
  filled = filled_still given entries (edit_at i f entries) (forth_silent given entries i f none) (back_silent given entries i f none);
  room = λ room segment entry there taken. elim (cases_eq segment i) [
    | inl same ↦ (let P : Entry → Type 0 = λ e. is_taken e.hold ≡ true → e.first ≤ e.last + 1 in
        let at = came_from entries i f entry (subst (λ n. slice_get (edit_at i f entries) n ≡ Some entry) same there) in
        let long = subst P at.is (forward at.before) taken in
        let short : length (given segment) ≡ 0 = ap length (ap given same ∙ none) in
        omega (arith, long, short))
    | inr other ↦ room segment entry (sym (get-edit_other entries i segment f other) ∙ there) taken
  ];
  none = λ silent segment entry there free. elim (cases_eq segment i) [
    | inl same ↦ ap given same ∙ none
    | inr other ↦ silent segment entry (sym (get-edit_other entries i segment f other) ∙ there) free
  ];
}

pub claim_fills : (entries : List Entry) (given : ℕ → List ℕ) (segment first last : ℕ) → given segment ≡ [] → first ≤ last + 1 → StaysFilled given entries (with_claim segment first last entries)
claim_fills entries given segment first last none forward =
    silent_fills given entries segment (λ entry. record { file = entry.file; hold = Held; first = first; last = last }) none (λ entry taken. forward)

free_is_no_range : is_taken Free ≡ true → ⊥
free_is_no_range taken = cc

pub release_fills : (entries : List Entry) (given : ℕ → List ℕ) (segment : ℕ) → given segment ≡ [] → StaysFilled given entries (with_release segment entries)
release_fills entries given segment none =
    silent_fills given entries segment (λ entry. record { file = entry.file; hold = Free; first = entry.first; last = entry.last }) none (λ entry taken. absurd (free_is_no_range taken))

-- ---- a held entry is accepted

held_is_taken : (hold : Hold) → is_held hold ≡ true → is_taken hold ≡ true
held_is_taken Free held = cc
held_is_taken Held held = refl
held_is_taken (Accepted size) held = cc

held_at : (entries : List Entry) (i : ℕ) (entry : Entry) → is_held_at entries i ≡ true → slice_get entries i ≡ Some entry → is_taken entry.hold ≡ true
held_at entries i entry held there = held_is_taken entry.hold (ap is_held_entry (sym there) ∙ held)

abbrev accepted : ℕ → Entry → Entry
accepted size entry = record { file = entry.file; hold = Accepted size; first = entry.first; last = entry.last }

forth_accepted : (given : ℕ → List ℕ) (entries : List Entry) (i size : ℕ) → Twins given entries (edit_at i (accepted size) entries)
forth_accepted given entries i size file segment entry part some = elim (cases_eq segment i) [
  | inl same ↦ (let there : slice_get (edit_at i (accepted size) entries) segment ≡ Some (accepted size entry) =
      subst (λ n. slice_get (edit_at n (accepted size) entries) segment ≡ Some (accepted size entry)) same (get-edit_same entries segment (accepted size) entry part.here) in
      record { entry = accepted size entry; part = record { here = there; file_is = part.file_is; taken = refl }; begins = refl })
  | inr other ↦ record { entry = entry; part = record { here = get-edit_other entries i segment (accepted size) other ∙ part.here; file_is = part.file_is; taken = part.taken }; begins = refl }
]

back_accepted : (given : ℕ → List ℕ) (entries : List Entry) (i size : ℕ) → is_held_at entries i ≡ true → Twins given (edit_at i (accepted size) entries) entries
back_accepted given entries i size held file segment entry part some = elim (cases_eq segment i) [
  | inl same ↦ (let at = came_from entries i (accepted size) entry (subst (λ n. slice_get (edit_at i (accepted size) entries) n ≡ Some entry) same part.here) in
      record {
        entry = at.before;
        part = record { here = subst (λ n. slice_get entries n ≡ Some at.before) (sym same) at.there; file_is = ap (λ (e : Entry). e.file) at.is ∙ part.file_is; taken = held_at entries i at.before held at.there };
        begins = ap (λ (e : Entry). e.first) at.is;
      })
  | inr other ↦ record { entry = entry; part = record { here = sym (get-edit_other entries i segment (accepted size) other) ∙ part.here; file_is = part.file_is; taken = part.taken }; begins = refl }
]

accepted_is_taken : (size : ℕ) (entry before : Entry) → accepted size before ≡ entry → is_taken entry.hold ≡ false → ⊥
accepted_is_taken size entry before is free = let no_way : true ≡ false = ap (λ (e : Entry). is_taken e.hold) is ∙ free in cc

pub accept_fills : (entries : List Entry) (given : ℕ → List ℕ) (segment size : ℕ) → is_held_at entries segment ≡ true → StaysFilled given entries (with_accept segment size entries)
accept_fills entries given i size held = record {
  filled = filled_still given entries (edit_at i (accepted size) entries) (forth_accepted given entries i size) (back_accepted given entries i size held);
  room = λ room segment entry there taken. elim (cases_eq segment i) [
    | inl same ↦ (let at = came_from entries i (accepted size) entry (subst (λ n. slice_get (edit_at i (accepted size) entries) n ≡ Some entry) same there) in
        let P : Entry → Type 0 = λ e. e.first + length (given segment) ≤ e.last + 1 in
        subst P at.is (room segment at.before (subst (λ n. slice_get entries n ≡ Some at.before) (sym same) at.there) (held_at entries i at.before held at.there)))
    | inr other ↦ room segment entry (sym (get-edit_other entries i segment (accepted size) other) ∙ there) taken
  ];
  none = λ silent segment entry there free. elim (cases_eq segment i) [
    | inl same ↦ (let at = came_from entries i (accepted size) entry (subst (λ n. slice_get (edit_at i (accepted size) entries) n ≡ Some entry) same there) in
        absurd (accepted_is_taken size entry at.before at.is free))
    | inr other ↦ silent segment entry (sym (get-edit_other entries i segment (accepted size) other) ∙ there) free
  ];
}

-- ---- a free entry

free_is_bare : (hold : Hold) → is_free hold ≡ true → is_taken hold ≡ false
free_is_bare Free free = refl
free_is_bare Held free = cc
free_is_bare (Accepted size) free = cc

free_one : (given : List ℕ) (found : Option Entry) → ((entry : Entry) → found ≡ Some entry → is_taken entry.hold ≡ false → given ≡ []) → is_free_entry found ≡ true → given ≡ []
free_one given None silent free = cc
free_one given (Some entry) silent free = silent entry refl (free_is_bare entry.hold free)

pub free_gave_nothing : (entries : List Entry) (given : ℕ → List ℕ) (segment : ℕ) → NoneGiven entries given → is_free_at entries segment ≡ true → given segment ≡ []
free_gave_nothing entries given segment silent free = free_one (given segment) (slice_get entries segment) (silent segment) free

-- ---- no entry yet has a range

no_range : (hold : Hold) → hold ≡ Free → is_taken hold ≡ true → ⊥
no_range Free free taken = cc
no_range Held free taken = cc
no_range (Accepted size) free taken = cc

pub first_has_room : (file : ℕ) (counts : List ℕ) → HaveRoom (entries_of file counts) (λ segment. [])
first_has_room file counts segment entry there taken = absurd (no_range entry.hold (free_in file counts segment entry there) taken)
