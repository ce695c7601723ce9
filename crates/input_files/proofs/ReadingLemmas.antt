-- One read after another.
use Rattle.std.proofs.Common.{◌<◌, ◌≡◌, ◌≤◌, ℕ, ◌+◌, List, ◌++◌, length, take, drop, Option, Some, None, Result, Ok, Err, IfOk, IfSome, OnSome, sym, ◌∙◌, ap, subst, arith, length-append, length-take}
use Rattle.std.proofs.Math.Seq.{take-add}
use Rattle.std.proofs.lemmas.List.{drop-drop}
use Rattle.io_traits.specs.Causes.{Rose}
use Rattle.io_traits.specs.Input.{GivesAt}
use Rattle.io_traits.specs.declared.blame.Blame.{Blame}
use Rattle.io_traits.specs.declared.blame.Blame.TheVariants.{Open, Read, Create, Keep, Write, SetLen, Send, Receive}
use Rattle.input_files.specs.Reading.{Reading, HasFailed, IsBelow, IsFaultless, IsIn, IsPiece, IsReadIn, IsReadOrOpen, IsShortAt, PieceEnds, ReadEnds}
use Rattle.input_files.specs.declared.reading.ReadError.{ReadError}
use Rattle.input_files.specs.declared.reading.ReadError.TheVariants.{Memory, Fault, Short, TooLong}

pub IsPiece-more : (content : Option (List ℕ)) (place : ℕ) (old new buf : List ℕ) (at n : ℕ) → GivesAt content (place + at) buf n → IsPiece content place old → at ≡ length old → n ≤ length buf → new ≡ old ++ take n buf → IsPiece content place new
IsPiece-more None place old new buf at n reads front at_is le is = tt
IsPiece-more (Some bytes) place old new buf at n reads front at_is le is =
    let e : length new ≡ at + n = omega (arith, ap length is, length-append {A = ℕ}, length-take {A = ℕ}) in
    let f : take at (drop place bytes) ≡ old = ap (λ k. take k (drop place bytes)) at_is ∙ sym front in
    is ∙ ap (λ l. old ++ l) reads.1 ∙ ap (λ l. old ++ take n l) (sym (drop-drop at place bytes)) ∙ ap (λ l. l ++ take n (drop at (drop place bytes))) (sym f)
    ∙ sym (take-add at n (drop place bytes)) ∙ ap (λ k. take k (drop place bytes)) (sym e)

-- ---- a file that is opened and then read

blame_is_allowed : (asked allowed : Option Blame → Type 0) (before now : Option (Option Blame)) → ((blame : Option Blame) → asked blame → allowed blame) → OnSome before (IfSome now asked) → OnSome before (IfSome now allowed)
blame_is_allowed asked allowed None now more is = tt
blame_is_allowed asked allowed (Some before) None more is = tt
blame_is_allowed asked allowed (Some before) (Some now) more is = more now is

-- how the opening of a file and the reading of a piece of it end together
abbrev pub OpenedEnds : {T : Type 0} → (Option Blame → Type 0) → (place len : ℕ) → Reading → Result T ReadError → Type 0
OpenedEnds allowed place len r (Ok _) = IsFaultless r
OpenedEnds allowed place len r (Err Memory) = IsFaultless r
OpenedEnds allowed place len r (Err Fault) = HasFailed allowed r
OpenedEnds allowed place len r (Err (Short at)) = IsShortAt at r × IsIn place len at
OpenedEnds allowed place len r (Err TooLong) = ⊥

-- the same reading, seen from an earlier moment
abbrev pub from : ℕ → ℕ → Option (Option Blame) → Reading → Reading
from faults shorts blame r = record {
  faults_before = faults;
  faults_now = r.faults_now;
  shorts_before = shorts;
  shorts_now = r.shorts_now;
  short_place = r.short_place;
  current = r.current;
  blame_before = blame;
  blame_now = r.blame_now;
}

-- what the reading of a piece says is said of the opening, which changed no count, and the reading together
pub ends_of_opened : {T : Type 0} (allowed : Option Blame → Type 0) (place len : ℕ) (r : Reading) (faults shorts : ℕ) (blame : Option (Option Blame)) (result : Result T ReadError) → ((b : Option Blame) → IsReadIn place len b → allowed b)
    → r.faults_before ≡ faults → r.shorts_before ≡ shorts → r.blame_before ≡ blame → PieceEnds place len r result → OpenedEnds allowed place len (from faults shorts blame r) result
ends_of_opened allowed place len r faults shorts blame (Ok value) more f s b (quiet, same) = record { faults = quiet.faults ∙ f; shorts = quiet.shorts ∙ s }
ends_of_opened allowed place len r faults shorts blame (Err Memory) more f s b quiet = record { faults = quiet.faults ∙ f; shorts = quiet.shorts ∙ s }
ends_of_opened allowed place len r faults shorts blame (Err Fault) more f s b failed = record {
  faults = subst (λ n. Rose n r.faults_now) f failed.faults;
  shorts = failed.shorts ∙ s;
  blamed = subst (λ (o : Option (Option Blame)). OnSome o (IfSome r.blame_now allowed)) b (blame_is_allowed (IsReadIn place len) allowed r.blame_before r.blame_now more failed.blamed);
}
ends_of_opened allowed place len r faults shorts blame (Err (Short at)) more f s b (short, inside) = (record { faults = short.faults ∙ f; shorts = subst (λ n. Rose n r.shorts_now) s short.shorts; place_is = short.place_is }, inside)
ends_of_opened allowed place len r faults shorts blame (Err TooLong) more f s b never = absurd never

fits_in : (len most : ℕ) (current : Option ℕ) → current ≡ Some len → len ≤ most → IfSome current (λ n. n ≤ most)
fits_in len most None is le = tt
fits_in len most (Some n) is le = let e : n ≡ len = cc in omega arith

pub read_is_allowed : (path : List ℕ) (place len : ℕ) (blame : Option Blame) → IsReadIn place len blame → IsReadOrOpen path blame
read_is_allowed path place len None is = tt
read_is_allowed path place len (Some (Read at)) is = tt
read_is_allowed path place len (Some (Open name)) is = absurd is
read_is_allowed path place len (Some (Create file name)) is = absurd is
read_is_allowed path place len (Some (Keep file name)) is = absurd is
read_is_allowed path place len (Some (Write file at size)) is = absurd is
read_is_allowed path place len (Some (SetLen file size)) is = absurd is
read_is_allowed path place len (Some (Send link)) is = absurd is
read_is_allowed path place len (Some (Receive link)) is = absurd is

-- a file that is read whole
below : (len place : ℕ) (current : Option ℕ) → current ≡ Some len → place < len → IsBelow current place
below len place current is inside = rw is inside

pub ends_of_whole : (path : List ℕ) (len most : ℕ) (r : Reading) (result : Result (List ℕ) ReadError) → r.current ≡ Some len → len ≤ most → IfOk result (λ bytes. length bytes ≡ len) → OpenedEnds (IsReadOrOpen path) 0 len r result → ReadEnds most (IsReadOrOpen path) r result
ends_of_whole path len most r (Ok bytes) is le whole quiet = (quiet, is ∙ ap (λ n. Some n) (sym whole), omega (arith, whole))
ends_of_whole path len most r (Err Memory) is le whole quiet = (quiet, fits_in len most r.current is le)
ends_of_whole path len most r (Err Fault) is le whole failed = (failed, fits_in len most r.current is le)
ends_of_whole path len most r (Err (Short place)) is le whole (short, inside) = (short, fits_in len most r.current is le, below len place r.current is (omega (arith, inside.1)))
ends_of_whole path len most r (Err TooLong) is le whole never = absurd never
