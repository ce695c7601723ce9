-- The files at the end.
use Rattle.std.proofs.Common.{◌≡◌, ◌<◌, ◌≤◌, ◌+◌, ◌-◌, ◌⊎◌, inl, inr, zero, suc, ℕ, Bool, true, false, ◌||◌, List, [], ◌∷◌, Option, Some, None, length, refl, sym, ap, ◌∙◌, arith}
use Rattle.std.specs.Prelude.{slice_get}
use Rattle.std.specs.Option.{option_map}
use Rattle.std.proofs.lemmas.Bool.{cases_lt}
use Rattle.std.proofs.lemmas.Option.{slice_get_within}
use Rattle.io_traits.specs.Store.{Shelf, Stored, resized, with_bytes}
use Rattle.range_assembler.specs.declared.assembler.Entry.{Entry}
use Rattle.range_assembler.specs.declared.assembler.Hold.{Hold}
use Rattle.range_assembler.specs.declared.assembler.Hold.TheVariants.{Free, Held, Accepted}
use Rattle.range_assembler.specs.Claims.{is_held}
use Rattle.range_assembler.specs.Entries.{covers, is_accepted, is_taken, kept_size}
use Rattle.range_assembler.specs.Missing.{is_covered}
use Rattle.range_assembler.specs.Sound.{AreSoundRanges}
use Rattle.range_assembler.proofs.Scanning.{kept_is, kept_none, means_covers}
use Rattle.fetch_files.specs.Calls.{PutsFirst}
use Rattle.fetch_files.specs.Filled.{AreFilled, AreFinal, HoldsGiven, IsFinal, IsGivenAt, final_size}
use Rattle.fetch_files.specs.Laws.{GaveWhole, NoneHeld}
use Rattle.fetch_files.proofs.Written.{get-grown, get-resized, length-resized, some-get}

size_case : (file : ℕ) (entries : List Entry) (segment size : ℕ) (entry : Entry) (kept : Option ℕ) → AreSoundRanges entries → slice_get entries segment ≡ Some entry → entry.file ≡ file → entry.hold ≡ Accepted size → kept_size file entries ≡ kept → final_size kept ≡ size
size_case file entries segment size entry None sound there its has found = absurd (kept_none file entries segment size entry found there its has)
size_case file entries segment size entry (Some kept) sound there its has found =
    let by = kept_is file kept entries found in
    sound.one_size by.place segment by.entry entry kept size by.is there (by.its ∙ sym its) by.has has

-- the size of a file is that of each of its accepted parts
size_is : (file : ℕ) (entries : List Entry) (segment size : ℕ) (entry : Entry) → AreSoundRanges entries → slice_get entries segment ≡ Some entry → entry.file ≡ file → entry.hold ≡ Accepted size → final_size (kept_size file entries) ≡ size
size_is file entries segment size entry sound there its has = size_case file entries segment size entry (kept_size file entries) sound there its has refl

or_true : (b : Bool) → (b || true) ≡ true
or_true true = refl
or_true false = refl

covered_at : (file offset : ℕ) (entries : List Entry) (k : ℕ) (entry : Entry) → slice_get entries k ≡ Some entry → covers file offset entry ≡ true → is_covered file entries offset ≡ true
covered_at file offset [] k entry there has = cc
covered_at file offset (e ∷ entries) zero entry there has =
    let same : e ≡ entry = cc in
    let here : covers file offset e ≡ true = ap (λ (x : Entry). covers file offset x) same ∙ has in
    ap (λ b. b || is_covered file entries offset) here
covered_at file offset (e ∷ entries) (suc k) entry there has = ap (λ b. covers file offset e || b) (covered_at file offset entries k entry there has) ∙ or_true (covers file offset e)

held_or_accepted : (hold : Hold) → is_taken hold ≡ true → (is_held hold ≡ true) ⊎ ((size : ℕ) × (hold ≡ Accepted size))
held_or_accepted Free taken = cc
held_or_accepted Held taken = inl refl
held_or_accepted (Accepted size) taken = inr (size, refl)

-- an offset of which a part gave the byte is in its accepted range
given_is_covered : (file : ℕ) (entries : List Entry) (given : ℕ → List ℕ) (place offset : ℕ) → NoneHeld entries → GaveWhole entries given → offset ≡ place + 1 → IsGivenAt file entries given place → is_covered file entries offset ≡ true
given_is_covered file entries given place offset still whole is at =
    let low = at.low in
    let high = at.high in
    elim (held_or_accepted at.entry.hold at.part.taken) [
      | inl held ↦ absurd (still at.segment at.entry at.part.here held)
      | inr has ↦ (let all = whole at.segment has.0 at.entry at.part.here has.1 in
          covered_at file offset entries at.segment at.entry at.part.here
          (means_covers file offset at.entry (record { its = at.part.file_is; accepted = ap is_accepted has.1; low = omega (arith, low, is); high = omega (arith, low, high, all, is) })))
    ]

pub files_are_final : (file : ℕ) (entries : List Entry) (given : ℕ → List ℕ) (bytes : List ℕ) → AreSoundRanges entries → NoneHeld entries → GaveWhole entries given → HoldsGiven file entries given bytes → IsFinal file entries given (resized (final_size (kept_size file entries)) bytes)
files_are_final file entries given bytes sound still whole holds =
    let most : ℕ = final_size (kept_size file entries) in
    record {
      long = length-resized most bytes;
      parts = λ segment size offset entry there its has low high.
          let taken : is_taken entry.hold ≡ true = ap is_taken has in
          let one = sound.ranges segment entry there taken in
          let first : 1 ≤ entry.first = one.from_one in
          let all = whole segment size entry there has in
          let k : ℕ = offset - entry.first in
          let less : k < length (given segment) = omega (arith, all, low, high) in
          let was = holds.parts segment k entry (record { here = there; file_is = its; taken = taken }) less in
          let some = some-get (given segment) k less in
          let inside = slice_get_within bytes (entry.first - 1 + k) some.0 (was ∙ some.1) in
          let at : offset - 1 ≡ entry.first - 1 + k = omega (arith, first, low) in
          let within = sound.within segment entry size there has in
          let is = size_is file entries segment size entry sound there its has in
          get-resized most (offset - 1) bytes (omega (arith, within, is, first, low, high)) (omega (arith, at, inside))
          ∙ ap (λ n. slice_get bytes n) at ∙ was;
      zeros = λ offset low high bare.
          let less : offset - 1 < most = omega (arith, low, high, length-resized most bytes) in
          elim (cases_lt (offset - 1) (length bytes)) [
            | inl inside ↦ get-resized most (offset - 1) bytes less inside ∙ holds.zeros (offset - 1) inside (λ at.
                let is : offset ≡ offset - 1 + 1 = omega (arith, low) in
                let no_way : true ≡ false = sym (given_is_covered file entries given (offset - 1) offset still whole is at) ∙ bare in cc)
            | inr past ↦ get-grown most (offset - 1) bytes less past
          ];
    }

pub shelf_is_final : (count : ℕ) (name : ℕ → List ℕ) (entries : List Entry) (given : ℕ → List ℕ) (old new : Shelf) → AreSoundRanges entries → NoneHeld entries → GaveWhole entries given
    → AreFilled count name entries given old
    → PutsFirst count (λ file. option_map (with_bytes (resized (final_size (kept_size file entries)))) (old file)) old new
    → AreFinal count name entries given new
shelf_is_final count name entries given old new sound still whole filled puts file less =
    let was = filled file less in
    let change : List ℕ → List ℕ = resized (final_size (kept_size file entries)) in
    record {
      stored = with_bytes change was.stored;
      there = puts.changed file less ∙ ap (λ (held : Option Stored). option_map (with_bytes change) held) was.there;
      named = was.named;
      final = files_are_final file entries given was.stored.bytes sound still whole was.holds;
    }
