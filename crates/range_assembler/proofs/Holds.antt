-- What a change of one entry leaves.
use Rattle.std.proofs.Common.{◌≡◌, ◌≢◌, ◌+◌, ◌<◌, ◌≤◌, ◌⊎◌, inl, inr, zero, suc, ℕ, Bool, true, false, ◌&&◌, List, [], ◌∷◌, ◌++◌, Option, Some, None, length, refl, ap, sym, subst, ◌∙◌, arith, set, length-set, replicate}
use Rattle.std.specs.Prelude.{slice_get, nat_le, ◌==◌}
use Rattle.std.proofs.lemmas.Bool.Decides.{nat_tests}
use Rattle.std.proofs.lemmas.Option.{slice_get_past}
use Rattle.std.proofs.lemmas.Bool.{cases_lt, cases_eq}
use Rattle.lists.specs.Edit.{edit_at}
use Rattle.range_assembler.specs.declared.assembler.Entry.{Entry}
use Rattle.range_assembler.specs.declared.assembler.Hold.{Hold}
use Rattle.range_assembler.specs.declared.assembler.Hold.TheVariants.{Free, Held, Accepted}
use Rattle.range_assembler.specs.Entries.{least_clash, shares, is_taken, kept_size, free_entry, entries_of}
use Rattle.range_assembler.specs.Claims.{is_held}
use Rattle.range_assembler.specs.Sound.{AreSoundRanges, IsSoundRange}
use Rattle.lists.proofs.OnePlace.{get-set_other, get-set_same}
use Rattle.range_assembler.proofs.Scanning.{no_clash, kept_is, kept_none}
use Rattle.limits.specs.declared.TheConstants.{MOST_FILE_BYTES, MOST_SEGMENTS}

-- an edit is a write of the changed element
pub set-edit : {A : Type 0} (xs : List A) (i : ℕ) (f : A → A) (x : A) → slice_get xs i ≡ Some x → set xs i (f x) ≡ edit_at i f xs
set-edit [] i f x is = cc
set-edit (y ∷ xs) zero f x is = let same : y ≡ x = cc in rw same refl
set-edit (y ∷ xs) (suc i) f x is = ap (λ t. y ∷ t) (set-edit xs i f x is)

swap : (a b c d e : Bool) → (a && true && b && c && d && e) ≡ (a && true && c && b && e && d)
swap false b c d e = refl
swap true true true true true = refl
swap true true true true false = refl
swap true true true false true = refl
swap true true true false false = refl
swap true true false true true = refl
swap true true false true false = refl
swap true true false false true = refl
swap true true false false false = refl
swap true false true true true = refl
swap true false true true false = refl
swap true false true false true = refl
swap true false true false false = refl
swap true false false true true = refl
swap true false false true false = refl
swap true false false false true = refl
swap true false false false false = refl

same_test : (m n : ℕ) → (m == n) ≡ (n == m)
same_test m n = grind (arith, nat_tests)

-- two ranges share an offset, or not, whichever is named first
shares-sym : (one two : Entry) → is_taken one.hold ≡ true → is_taken two.hold ≡ true → shares one.file one.first one.last two ≡ shares two.file two.first two.last one
shares-sym one two first second =
    rw (second, first, same_test two.file one.file)
    (swap (one.file == two.file) (nat_le two.first one.last) (nat_le one.first two.last) (nat_le two.first two.last) (nat_le one.first one.last))

and_none : (a b c d e : Bool) → (a && false && b && c && d && e) ≡ false
and_none true b c d e = refl
and_none false b c d e = refl

-- an entry that has no range shares nothing
no_share : (file first last : ℕ) (entry : Entry) → is_taken entry.hold ≡ false → shares file first last entry ≡ false
no_share file first last entry free = rw free (and_none (entry.file == file) (nat_le entry.first last) (nat_le first entry.last) (nat_le entry.first entry.last) (nat_le first last))

-- the entry at one place, after a write
pub record IsAt (entries : List Entry) (i k : ℕ) (new found : Entry) : Type 0 where
  pub way : ((k ≡ i) × (new ≡ found)) ⊎ ((k ≢ i) × (slice_get entries k ≡ Some found))

at_of : (entries : List Entry) (i k : ℕ) (old new found : Entry) → slice_get entries i ≡ Some old → slice_get (set entries i new) k ≡ Some found → ((k ≡ i) × (new ≡ found)) ⊎ ((k ≢ i) × (slice_get entries k ≡ Some found))
at_of entries i k old new found is read = elim (cases_eq k i) [
  | inl e ↦ (let there : Some new ≡ Some found = sym (get-set_same entries i new old is) ∙ ap (λ n. slice_get (set entries i new) n) (sym e) ∙ read in
      let same : new ≡ found = cc in inl (e, same))
  | inr other ↦ inr (other, sym (get-set_other entries i k new other) ∙ read)
]

-- a write that keeps what is true of every assembler
pub record Fits (entries : List Entry) (i : ℕ) (new : Entry) : Type 0 where
  pub range : is_taken new.hold ≡ true → IsSoundRange new
  pub apart : (k : ℕ) (other : Entry) → k ≢ i → slice_get entries k ≡ Some other → is_taken new.hold ≡ true → shares new.file new.first new.last other ≡ false
  pub size : (k size kept : ℕ) (other : Entry) → slice_get entries k ≡ Some other → new.file ≡ other.file → new.hold ≡ Accepted size → other.hold ≡ Accepted kept → size ≡ kept
  pub within : (size : ℕ) → new.hold ≡ Accepted size → new.last ≤ size

apart_new : (entries : List Entry) (i k : ℕ) (new other : Entry) → Fits entries i new → k ≢ i → slice_get entries k ≡ Some other → is_taken other.hold ≡ true → (b : Bool) → is_taken new.hold ≡ b → shares other.file other.first other.last new ≡ false
apart_new entries i k new other fits differ is taken true here = shares-sym other new taken here ∙ fits.apart k other differ is here
apart_new entries i k new other fits differ is taken false here = no_share other.file other.first other.last new here

pub sound-set : (entries : List Entry) (i : ℕ) (old new : Entry) → AreSoundRanges entries → slice_get entries i ≡ Some old → Fits entries i new → AreSoundRanges (set entries i new)
sound-set entries i old new sound is fits = record {
  few = rw length-set sound.few;
  apart = λ j k entry other differ one two taken.
      elim (at_of entries i j old new entry is one) [
        | inl here ↦ elim (at_of entries i k old new other is two) [
          | inl there ↦ absurd (differ (here.0 ∙ sym there.0))
          | inr there ↦ (let P : Entry → Type 0 = λ e. is_taken e.hold ≡ true → shares e.file e.first e.last other ≡ false in
              subst P here.1 (λ t. fits.apart k other there.0 there.1 t) taken)
        ]
        | inr here ↦ elim (at_of entries i k old new other is two) [
          | inl there ↦ (let P : Entry → Type 0 = λ e. shares entry.file entry.first entry.last e ≡ false in
              subst P there.1 (apart_new entries i j new entry fits here.0 here.1 taken (is_taken new.hold) refl))
          | inr there ↦ sound.apart j k entry other differ here.1 there.1 taken
        ]
      ];
  ranges = λ k entry one taken. elim (at_of entries i k old new entry is one) [
    | inl here ↦ (let P : Entry → Type 0 = λ e. is_taken e.hold ≡ true → IsSoundRange e in subst P here.1 fits.range taken)
    | inr here ↦ sound.ranges k entry here.1 taken
  ];
  one_size = λ j k entry other size kept one two its first second.
      elim (at_of entries i j old new entry is one) [
        | inl here ↦ elim (at_of entries i k old new other is two) [
          | inl there ↦ (let same : entry ≡ other = sym here.1 ∙ there.1 in let holds : Accepted size ≡ Accepted kept = sym first ∙ ap (λ (e : Entry). e.hold) same ∙ second in cc)
          | inr there ↦ fits.size k size kept other there.1 (ap (λ (e : Entry). e.file) here.1 ∙ its) (ap (λ (e : Entry). e.hold) here.1 ∙ first) second
        ]
        | inr here ↦ elim (at_of entries i k old new other is two) [
          | inl there ↦ sym (fits.size j kept size entry here.1 (ap (λ (e : Entry). e.file) there.1 ∙ sym its) (ap (λ (e : Entry). e.hold) there.1 ∙ second) first)
          | inr there ↦ sound.one_size j k entry other size kept here.1 there.1 its first second
        ]
      ];
  within = λ k entry size one has. elim (at_of entries i k old new entry is one) [
    | inl here ↦ (let P : Entry → Type 0 = λ e. e.hold ≡ Accepted size → e.last ≤ size in subst P here.1 (fits.within size) has)
    | inr here ↦ sound.within k entry size here.1 has
  ];
}

-- a range that clashes with none is held
pub fits-claim : (entries : List Entry) (i first last : ℕ) (old : Entry) → slice_get entries i ≡ Some old → least_clash 0 old.file first last entries ≡ None → 1 ≤ first → first ≤ last + 1 → last ≤ MOST_FILE_BYTES → Fits entries i record { file = old.file; hold = Held; first = first; last = last }
fits-claim entries i first last old is none one forward small = record {
  range = λ t. record { from_one = one; forward = forward; small = small };
  apart = λ k other differ there t. no_clash 0 old.file first last entries k other none there;
  size = λ k size kept other there its has second. cc;
  within = λ size has. cc;
}

held_taken : (hold : Hold) → is_held hold ≡ true → is_taken hold ≡ true
held_taken Free is = cc
held_taken Held is = refl
held_taken (Accepted size) is = refl

kept_case : (entries : List Entry) (k size kept : ℕ) (old other : Entry) → AreSoundRanges entries → slice_get entries k ≡ Some other → old.file ≡ other.file → other.hold ≡ Accepted kept → ((n : ℕ) → kept_size old.file entries ≡ Some n → n ≡ size) → (o : Option ℕ) → kept_size old.file entries ≡ o → size ≡ kept
kept_case entries k size kept old other sound there its has same None none = absurd (kept_none old.file entries k kept other none there (sym its) has)
kept_case entries k size kept old other sound there its has same (Some n) found =
    let r = kept_is old.file n entries found in
    sym (same n found) ∙ sound.one_size r.place k r.entry other n kept r.is there (r.its ∙ its) r.has has

-- a held range is accepted
pub fits-accept : (entries : List Entry) (i size : ℕ) (old : Entry) → AreSoundRanges entries → slice_get entries i ≡ Some old → is_held old.hold ≡ true → old.last ≤ size → ((kept : ℕ) → kept_size old.file entries ≡ Some kept → kept ≡ size) → Fits entries i record { file = old.file; hold = Accepted size; first = old.first; last = old.last }
fits-accept entries i size old sound is held small same = record {
  range = λ t. let r = sound.ranges i old is (held_taken old.hold held) in record { from_one = r.from_one; forward = r.forward; small = r.small };
  apart = λ k other differ there t. sound.apart i k old other (λ e. differ (sym e)) is there (held_taken old.hold held);
  size = λ k wanted kept other there its has second.
      let first : size ≡ wanted = cc in
      sym first ∙ kept_case entries k size kept old other sound there its second same (kept_size old.file entries) refl;
  within = λ wanted has. let first : size ≡ wanted = cc in omega arith;
}

-- a held range is given up
pub fits-release : (entries : List Entry) (i : ℕ) (old : Entry) → Fits entries i record { file = old.file; hold = Free; first = old.first; last = old.last }
fits-release entries i old = record {
  range = λ t. let no_way : false ≡ true = t in cc;
  apart = λ k other differ there t. let no_way : false ≡ true = t in cc;
  size = λ k size kept other there its has second. cc;
  within = λ size has. cc;
}

free_among : (file count : ℕ) (rest : List Entry) (k : ℕ) (entry : Entry) → ((n : ℕ) → slice_get rest n ≡ Some entry → entry.hold ≡ Free) → slice_get (replicate count (free_entry file) ++ rest) k ≡ Some entry → entry.hold ≡ Free
free_among file zero rest k entry others is = others k is
free_among file (suc count) rest zero entry others is = let same : free_entry file ≡ entry = cc in ap (λ (e : Entry). e.hold) (sym same)
free_among file (suc count) rest (suc k) entry others is = free_among file count rest k entry others is

-- entries without ranges
pub free_in : (file : ℕ) (counts : List ℕ) (k : ℕ) (entry : Entry) → slice_get (entries_of file counts) k ≡ Some entry → entry.hold ≡ Free
free_in file [] k entry is = cc
free_in file (count ∷ counts) k entry is = free_among file count (entries_of (file + 1) counts) k entry (λ n there. free_in (file + 1) counts n entry there) is

pub sound-start : (counts : List ℕ) → length (entries_of 0 counts) ≤ MOST_SEGMENTS → AreSoundRanges (entries_of 0 counts)
sound-start counts few = record {
  few = few;
  apart = λ j k entry other differ one two taken. let no_way : false ≡ true = sym (ap is_taken (free_in 0 counts j entry one)) ∙ taken in cc;
  ranges = λ k entry one taken. let no_way : false ≡ true = sym (ap is_taken (free_in 0 counts k entry one)) ∙ taken in cc;
  one_size = λ j k entry other size kept one two its first second. let no_way : Free ≡ Accepted size = sym (free_in 0 counts j entry one) ∙ first in cc;
  within = λ k entry size one has. let no_way : Free ≡ Accepted size = sym (free_in 0 counts k entry one) ∙ has in cc;
}

-- a place at which there is something
pub place_within : (test : Option Entry → Bool) (entries : List Entry) (k : ℕ) → test None ≡ false → test (slice_get entries k) ≡ true → k < length entries
place_within test entries k none some = elim (cases_lt k (length entries)) [
  | inl below ↦ below
  | inr past ↦ (let no_way : true ≡ false = sym some ∙ ap test (slice_get_past entries k past) ∙ none in cc)
]
