-- How the slices of a file stand, step by step.
use Rattle.std.proofs.Common.{◌≡◌, ℕ, ◌+◌, ◌-◌, ◌*◌, ◌/◌, ◌%◌, ◌<◌, ◌≤◌, ◌==◌, inl, inr, ◌⊎◌, Bool, true, cond, List, [], ◌++◌, Option, length, take, drop, sym, ap, subst, ◌∙◌, arith, length-drop, append-nil, append_assoc}
use Rattle.std.specs.Prelude.{nat_le, ◌&&◌, not, replicate, slice_get}
use Rattle.std.proofs.Math.Nat.{mul-le-mul_right}
use Rattle.std.proofs.Math.Seq.{take-add}
use Rattle.std.proofs.lemmas.Bool.{cases_lt, cond-false, cond_both, le-leb, lt-leb, ne_eqb}
use Rattle.std.proofs.lemmas.List.{drop-drop, length-take-le, replicate-append-replicate}
use Rattle.std.proofs.lemmas.Nat.{div-mul-add, le-div, mod-mul-add}
use Rattle.md5.specs.Md5.{Holds, md5}
use Rattle.par2_check.specs.Bodies.{slice_count}
use Rattle.par2_check.specs.Checking.{IsCounted, IsNextPiece, StandsFor, judged}
use Rattle.par2_check.specs.Damage.{is_damaged, is_entry, is_sound_at, padded, slice_len}
use Rattle.par2_check.specs.Packets.{part}
use Rattle.par2_check.specs.Runs.{AreRuns, with_number}
use Rattle.par2_check.specs.declared.set.ParFile.{ParFile}
use Rattle.par2_check.specs.declared.slices.Slices.{Slices}
use Rattle.par2_check.proofs.Parts.{part-drop, part-take}
use Rattle.par2_check.proofs.RunLaws.{runs_judged, runs_more}

-- ---- how many slices there are

pub count_above : (closed slice size : ℕ) → 0 < slice → closed * slice + slice ≤ size → closed + 1 ≤ slice_count slice size
count_above closed slice size some fits =
    let h : closed + 1 ≤ size / slice = le-div (closed + 1) size slice some (omega (arith, fits)) in
    cond_both (size % slice == 0) (size / slice) (size / slice + 1) (λ n. closed + 1 ≤ n) (λ _. h) (λ _. omega (arith, h))

pub count_even : (closed slice size : ℕ) → 0 < slice → size ≡ closed * slice + 0 → slice_count slice size ≡ closed
count_even closed slice size some is =
    let quotient : size / slice ≡ closed = ap (λ n. n / slice) is ∙ div-mul-add closed slice 0 some in
    let rest : size % slice ≡ 0 = ap (λ n. n % slice) is ∙ mod-mul-add closed slice 0 some in
    ap (λ n. cond (n == 0) (size / slice) (size / slice + 1)) rest ∙ quotient

pub count_odd : (closed slice filled size : ℕ) → filled < slice → 0 < filled → size ≡ closed * slice + filled → slice_count slice size ≡ closed + 1
count_odd closed slice filled size less some is =
    let quotient : size / slice ≡ closed = ap (λ n. n / slice) is ∙ div-mul-add closed slice filled less in
    let rest : size % slice ≡ filled = ap (λ n. n % slice) is ∙ mod-mul-add closed slice filled less in
    cond-false (size % slice == 0) (size / slice) (size / slice + 1) (ne_eqb (size % slice) 0 (omega arith)) ∙ ap (λ n. n + 1) quotient

-- ---- one slice

-- a slice whose bytes all came is damaged where its entry is another one
damaged_at : (slice : ℕ) (file : ParFile) (content : List ℕ) (closed len : ℕ) (got : List ℕ) → slice_len slice file.size (closed * slice) ≡ len → closed * slice + len ≤ length content
    → got ≡ padded slice (part (closed * slice) len content) → is_damaged slice file content (closed + 1) ≡ not (is_entry (md5 got) (slice_get file.slices closed))
damaged_at slice file content closed len got len_is inside got_is =
    let start : ℕ = closed * slice in
    let entry : Option (List ℕ) = slice_get file.slices closed in
    let e : closed + 1 - 1 ≡ closed = omega arith in
    ap (λ (k : ℕ). not (is_sound_at slice file.size (k * slice) (slice_get file.slices k) content)) e
    ∙ ap (λ (n : ℕ). not (nat_le (start + n) (length content) && is_entry (md5 (padded slice (part start n content))) entry)) len_is
    ∙ ap (λ (b : Bool). not (b && is_entry (md5 (padded slice (part start len content))) entry)) (le-leb (start + len) (length content) inside)
    ∙ ap (λ (l : List ℕ). not (is_entry (md5 l) entry)) (sym got_is)

-- the runs with a slice that is judged
pub runs_on : (slice : ℕ) (file : ParFile) (content : List ℕ) (closed len : ℕ) (got : List ℕ) (damaged more : List (ℕ × ℕ)) → slice_len slice file.size (closed * slice) ≡ len → closed * slice + len ≤ length content
    → got ≡ padded slice (part (closed * slice) len content) → AreRuns (is_damaged slice file content) closed damaged → more ≡ judged file.slices closed got damaged → AreRuns (is_damaged slice file content) (closed + 1) more
runs_on slice file content closed len got damaged more len_is inside got_is are is =
    subst (λ (runs : List (ℕ × ℕ)). AreRuns (is_damaged slice file content) (closed + 1) runs) (sym is)
    (runs_judged (is_damaged slice file content) closed damaged (is_entry (md5 got) (slice_get file.slices closed)) are (damaged_at slice file content closed len got len_is inside got_is))

-- whole slices need no zeros
no_zeros : (slice : ℕ) (bytes : List ℕ) → length bytes ≡ slice → bytes ≡ padded slice bytes
no_zeros slice bytes is = let e : slice - length bytes ≡ 0 = omega (arith, is) in sym (ap (λ n. bytes ++ replicate n 0) e ∙ append-nil bytes)

-- zeros behind zeros
pub zeros_on : (bytes : List ℕ) (before room after : ℕ) → before + room ≡ after → (bytes ++ replicate before 0) ++ replicate room 0 ≡ bytes ++ replicate after 0
zeros_on bytes before room after is =
    append_assoc bytes (replicate before 0) (replicate room 0) ∙ ap (λ (l : List ℕ). bytes ++ l) (replicate-append-replicate before room 0) ∙ ap (λ (n : ℕ). bytes ++ replicate n 0) is

-- ---- the next bytes of a slice

-- the bytes of a slice with those that come
pub part_on : (content : List ℕ) (start filled taken : ℕ) (bytes : List ℕ) → taken ≡ start + filled → IsNextPiece content taken bytes → part start filled content ++ bytes ≡ part start (filled + length bytes) content
part_on content start filled taken bytes is piece =
    let behind : drop filled (drop start content) ≡ drop taken content = drop-drop filled start content ∙ ap (λ n. drop n content) (sym is) in
    sym (take-add filled (length bytes) (drop start content) ∙ ap (λ (l : List ℕ). part start filled content ++ take (length bytes) l) behind ∙ ap (λ (l : List ℕ). part start filled content ++ l) (sym piece.same))

pub filled_on : (slice : ℕ) (file : ParFile) (content : List ℕ) (old new : Slices) (bytes : List ℕ) → IsCounted slice old → IsNextPiece content old.taken bytes → StandsFor slice file content old
    → new.taken ≡ old.taken + length bytes → new.closed ≡ old.closed → new.filled ≡ old.filled + length bytes → new.damaged ≡ old.damaged → ((m : List ℕ) → Holds old.part m → Holds new.part (m ++ bytes))
    → StandsFor slice file content new
filled_on slice file content old new bytes counted piece stands taken closed filled damaged update =
    let start : ℕ = old.closed * slice in
    let holds : Holds new.part (part start (old.filled + length bytes) content) = subst (Holds new.part) (part_on content start old.filled old.taken bytes counted.taken piece) (update _ stands.part_holds) in
    record {
      inside = omega (arith, piece.inside, taken);
      part_holds = subst (λ (n : ℕ). Holds new.part (part (n * slice) new.filled content)) (sym closed) (subst (λ (n : ℕ). Holds new.part (part start n content)) (sym filled) holds);
      damaged = subst (λ (n : ℕ). AreRuns (is_damaged slice file content) n new.damaged) (sym closed) (subst (λ (runs : List (ℕ × ℕ)). AreRuns (is_damaged slice file content) old.closed runs) (sym damaged) stands.damaged);
    }

pub closed_on : (slice : ℕ) (file : ParFile) (content : List ℕ) (old mid new : Slices) (bytes : List ℕ) → IsCounted slice old → old.taken + length bytes ≤ file.size → old.filled + length bytes ≡ slice
    → IsNextPiece content old.taken bytes → StandsFor slice file content old
    → ((m : List ℕ) → Holds old.part m → Holds mid.part (m ++ bytes)) → new.taken ≡ old.taken + length bytes → new.closed ≡ old.closed + 1 → new.filled ≡ 0 → Holds new.part []
    → ((got : List ℕ) → Holds mid.part got → new.damaged ≡ judged file.slices old.closed got old.damaged) → StandsFor slice file content new
closed_on slice file content old mid new bytes counted fits full piece stands update taken closed filled empty damaged =
    let start : ℕ = old.closed * slice in
    let got : List ℕ = part start slice content in
    let got_is : part start old.filled content ++ bytes ≡ got = part_on content start old.filled old.taken bytes counted.taken piece ∙ ap (λ (n : ℕ). part start n content) full in
    let holds : Holds mid.part got = subst (Holds mid.part) got_is (update _ stands.part_holds) in
    let inside : start + slice ≤ length content = omega (arith, piece.inside, counted.taken, full) in
    let len_is : slice_len slice file.size start ≡ slice = omega (arith, fits, counted.taken, full) in
    let count : length got ≡ slice = length-take-le slice (drop start content) (omega (arith, length-drop start content)) in
    record {
      inside = omega (arith, piece.inside, taken);
      part_holds = subst (λ (n : ℕ). Holds new.part (part (new.closed * slice) n content)) (sym filled) empty;
      damaged = subst (λ (n : ℕ). AreRuns (is_damaged slice file content) n new.damaged) (sym closed)
          (runs_on slice file content old.closed slice got old.damaged new.damaged len_is inside (no_zeros slice got count) stands.damaged (damaged got holds));
    }

-- a piece within a piece
pub piece_within : (content piece : List ℕ) (taken at room : ℕ) → IsNextPiece content taken piece → at + room ≤ length piece → IsNextPiece content (taken + at) (take (at + room - at) (drop at piece))
piece_within content piece taken at room next fits =
    let some : at + room - at ≡ room = omega arith in
    let sub : List ℕ = take room (drop at piece) in
    let count : length sub ≡ room = length-take-le room (drop at piece) (omega (arith, length-drop at piece)) in
    let same : sub ≡ part (taken + at) room content =
    ap (λ (l : List ℕ). take room (drop at l)) next.same ∙ part-take at room (length piece) (drop taken content) fits ∙ part-drop at room taken content in
    subst (λ (n : ℕ). IsNextPiece content (taken + at) (take n (drop at piece))) (sym some)
    (record { inside = omega (arith, next.inside, count); same = same ∙ ap (λ (n : ℕ). part (taken + at) n content) (sym count) })

-- ---- at the end

-- the last slice, which is shorter than the others
pub last_on : (slice : ℕ) (file : ParFile) (content : List ℕ) (old mid new : Slices) → IsCounted slice old → old.taken ≡ file.size → length file.slices ≡ slice_count slice file.size → 0 < old.filled
    → StandsFor slice file content old
    → ((m : List ℕ) → Holds old.part m → Holds mid.part (m ++ replicate (slice - old.filled) 0))
    → ((got : List ℕ) → Holds mid.part got → new.damaged ≡ judged file.slices old.closed got old.damaged) → AreRuns (is_damaged slice file content) (length file.slices) new.damaged
last_on slice file content old mid new counted all entries some stands update damaged =
    let start : ℕ = old.closed * slice in
    let bytes : List ℕ = part start old.filled content in
    let got : List ℕ = bytes ++ replicate (slice - old.filled) 0 in
    let inside : start + old.filled ≤ length content = omega (arith, stands.inside, counted.taken) in
    let count : length bytes ≡ old.filled = length-take-le old.filled (drop start content) (omega (arith, length-drop start content)) in
    let got_is : got ≡ padded slice bytes = ap (λ (n : ℕ). bytes ++ replicate (slice - n) 0) (sym count) in
    let len_is : slice_len slice file.size start ≡ old.filled = omega (arith, all, counted.taken, counted.less) in
    let number : length file.slices ≡ old.closed + 1 = entries ∙ count_odd old.closed slice old.filled file.size counted.less some (sym all ∙ counted.taken) in
    subst (λ (n : ℕ). AreRuns (is_damaged slice file content) n new.damaged) (sym number)
    (runs_on slice file content old.closed old.filled got old.damaged new.damaged len_is inside got_is stands.damaged (damaged got (update bytes stands.part_holds)))

pub closed_below : (slice : ℕ) (file : ParFile) (old : Slices) → IsCounted slice old → old.taken ≡ file.size → length file.slices ≡ slice_count slice file.size → 0 < old.filled → old.closed < length file.slices
closed_below slice file old counted all entries some =
    let number : length file.slices ≡ old.closed + 1 = entries ∙ count_odd old.closed slice old.filled file.size counted.less some (sym all ∙ counted.taken) in omega (arith, number)

-- no slice is shorter than the others
pub none_left : (slice : ℕ) (file : ParFile) (content : List ℕ) (old : Slices) → IsCounted slice old → old.taken ≡ file.size → length file.slices ≡ slice_count slice file.size → old.filled ≡ 0
    → StandsFor slice file content old → AreRuns (is_damaged slice file content) (length file.slices) old.damaged
none_left slice file content old counted all entries none stands =
    let number : length file.slices ≡ old.closed = entries ∙ count_even old.closed slice file.size (omega (arith, counted.less)) (sym all ∙ counted.taken ∙ ap (λ n. old.closed * slice + n) none) in
    subst (λ (n : ℕ). AreRuns (is_damaged slice file content) n old.damaged) (sym number) stands.damaged

cases_le : (a b : ℕ) → a ≤ b → (a ≡ b) ⊎ (a + 1 ≤ b)
cases_le a b le = elim (cases_lt a b) [ inl lt ↦ inr (omega arith) | inr ge ↦ inl (omega arith) ]

-- a slice of which bytes are lacking is damaged
lost_at : (slice : ℕ) (file : ParFile) (content : List ℕ) (old : Slices) (k : ℕ) → IsCounted slice old → old.taken < file.size → length content ≡ old.taken → old.closed ≤ k → is_damaged slice file content (k + 1) ≡ true
lost_at slice file content old k counted fewer end low =
    let e : k + 1 - 1 ≡ k = omega arith in
    let entry : Option (List ℕ) = slice_get file.slices k in
    let start : ℕ = k * slice in
    let len : ℕ = slice_len slice file.size start in
    let lacks : length content < start + len =
    elim (cases_le old.closed k low) [
      | inl is ↦ (let same : start ≡ old.closed * slice = ap (λ (n : ℕ). n * slice) (sym is) in omega (arith, same, counted.taken, counted.less, fewer, end))
      | inr lt ↦ (let more : (old.closed + 1) * slice ≤ start = mul-le-mul_right slice lt in omega (arith, more, counted.taken, counted.less, end))
    ] in
    ap (λ (n : ℕ). not (is_sound_at slice file.size (n * slice) (slice_get file.slices n) content)) e
    ∙ ap (λ (b : Bool). not (b && is_entry (md5 (padded slice (part start len content))) entry)) (lt-leb (start + len) (length content) lacks)

pub lost_on : (slice : ℕ) (file : ParFile) (content : List ℕ) (old : Slices) (k : ℕ) (damaged more : List (ℕ × ℕ)) → IsCounted slice old → old.taken < file.size → length content ≡ old.taken → old.closed ≤ k
    → AreRuns (is_damaged slice file content) k damaged → more ≡ with_number (k + 1) damaged → AreRuns (is_damaged slice file content) (k + 1) more
lost_on slice file content old k damaged more counted fewer end low are is =
    subst (λ (runs : List (ℕ × ℕ)). AreRuns (is_damaged slice file content) (k + 1) runs) (sym is)
    (runs_more (is_damaged slice file content) k damaged are (lost_at slice file content old k counted fewer end low))

-- not all slices came whole
pub closed_few : (slice : ℕ) (file : ParFile) (old : Slices) → IsCounted slice old → old.taken < file.size → length file.slices ≡ slice_count slice file.size → old.closed ≤ length file.slices
closed_few slice file old counted fewer entries =
    let some : 0 < slice = omega (arith, counted.less) in
    let h : old.closed ≤ file.size / slice = le-div old.closed file.size slice some (omega (arith, counted.taken, fewer)) in
    let low : old.closed ≤ slice_count slice file.size = cond_both (file.size % slice == 0) (file.size / slice) (file.size / slice + 1) (λ n. old.closed ≤ n) (λ _. h) (λ _. omega (arith, h)) in
    omega (arith, low, entries)
