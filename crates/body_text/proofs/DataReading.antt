-- The reading of the data lines goes on by one that was decoded in place, or ends.
use Rattle.std.proofs.Common.{◌≡◌, ◌≤◌, ℕ, ◌+◌, ◌-◌, false, List, ◌∷◌, length, take, drop, refl, sym, ◌∙◌, ap, subst, arith, length-take, Ok, Err}
use Rattle.std.specs.Prelude.{codes, nat_eq}
use Rattle.std.specs.List.{starts_with}
use Rattle.lists.specs.Text.{text_lines}
use Rattle.yenc_body.specs.declared.fault.Fault.{Fault}
use Rattle.yenc_body.specs.declared.fault.Reason.{Reason}
use Rattle.yenc_body.specs.declared.fault.Reason.TheVariants.{NoEnd}
use Rattle.yenc_body.specs.declared.place.Place.{Place}
use Rattle.yenc_body.specs.declared.place.Place.TheVariants.{Filling}
use Rattle.yenc_body.specs.declared.stage.Head.{Head}
use Rattle.yenc_body.specs.declared.stage.Refusal.{Refusal}
use Rattle.yenc_body.specs.declared.step.StepError.TheVariants.{Refused}
use Rattle.yenc_body.specs.BodyReading.{fault_at, line_of}
use Rattle.yenc_body.specs.FirstFault.{PartDataFault}
use Rattle.yenc_body.proofs.LineLaws.{end_is_keyword}
use Rattle.yenc_body.proofs.StepReading.{filled, not_filled}
use Rattle.body_text.specs.DataPlaces.{IsDecoded, between}
use Rattle.body_text.specs.Standing.{EndsIn, StandsAt}
use Rattle.body_text.proofs.InPlace.{further}
use Rattle.body_text.proofs.ReadingOn.{cut_short}

-- the place among the data lines, with the first bytes of a buffer
abbrev pub filling : Head → ℕ → List ℕ → Place
filling head put buf = Filling head.begin head.first head.last (take put buf)

-- what agrees from a place on, from a later one
pub behind_line_end : (old buf : List ℕ) (at next : ℕ) → drop at buf ≡ drop at old → at ≤ next → drop next buf ≡ drop next old
behind_line_end old buf at next rest order =
    let e : at + (next - at) ≡ next = omega arith in
    subst (λ n. drop n buf ≡ drop n old) e (further old buf at (next - at) rest)

-- the first of the lines that are left of the text stands in the buffer
pub line_left : (old buf : List ℕ) (at stop next : ℕ) → drop at buf ≡ drop at old → at ≤ next → text_lines (drop at buf) ≡ between buf at stop ∷ text_lines (drop next buf) →
    text_lines (drop at old) ≡ between buf at stop ∷ text_lines (drop next old)
line_left old buf at stop next rest order first =
    ap text_lines (sym rest) ∙ first ∙ ap (λ l. between buf at stop ∷ text_lines l) (behind_line_end old buf at next rest order)

-- a data line was decoded
pub line_decoded : (head : Head) (buf new : List ℕ) (at stop put count : ℕ) → put ≤ length buf → starts_with nat_eq (between buf at stop) (codes "=y") ≡ false →
    IsDecoded buf new at stop put (head.last + 1 - head.first - put) count → line_of (filling head put buf) (between buf at stop) ≡ Ok (filling head (put + count) new)
line_decoded head buf new at stop put count within keyword d =
    filled head.begin head.first head.last put (take put buf) (between buf at stop) (take (put + count) new) (omega (arith, length-take put buf)) (end_is_keyword (between buf at stop) keyword) keyword
    (d.bytes, d.spelled, omega (arith, d.count_is, d.room_is), d.put)

-- a data line is refused
pub line_refused : (head : Head) (buf : List ℕ) (at stop put column : ℕ) (reason : Reason) → put ≤ length buf → starts_with nat_eq (between buf at stop) (codes "=y") ≡ false →
    PartDataFault (head.last + 1 - head.first - put) (between buf at stop) column reason → line_of (filling head put buf) (between buf at stop) ≡ Err (column, reason)
line_refused head buf at stop put column reason within keyword f =
    not_filled head.begin head.first head.last put (take put buf) (between buf at stop) (take put buf) (Refused column reason) (omega (arith, length-take put buf)) (end_is_keyword (between buf at stop) keyword) keyword f

-- the lines end among the data lines
pub no_trailer : (all : List (List ℕ)) (head : Head) (old buf : List ℕ) (at put before : ℕ) (refusal : Refusal) → StandsAt all (text_lines (drop at old)) (filling head put buf) before → length old ≤ at →
    refusal ≡ record { column = 1; reason = NoEnd } → (fault : Fault) → fault ≡ fault_at (before + 1) refusal.column refusal.reason → EndsIn all fault
no_trailer all head old buf at put before refusal s past whole fault is =
    cut_short all old at (filling head put buf) before NoEnd s past (λ n. refl) fault (is ∙ ap (λ (r : Refusal). fault_at (before + 1) r.column r.reason) whole)
