-- What a change of one link does to the answers of the segments.
use Rattle.std.proofs.Common.{◌≡◌, ◌≤◌, zero, suc, ℕ, Bool, false, ◌&&◌, ◌||◌, List, [], ◌∷◌, ◌++◌, Some, length, refl, ap, ◌∙◌, arith}
use Rattle.std.specs.Prelude.{slice_get, ◌==◌}
use Rattle.lists.specs.Edit.{edit_at}
use Rattle.limits.specs.declared.TheConstants.{MOST_SERVERS}
use Rattle.fetch_trace.specs.Setting.{Setting}
use Rattle.fetch_trace.specs.Verdicts.{Verdict, is_accepted}
use Rattle.fetch_trace.specs.LinkNow.{LinkNow, has_answer, is_refused, some_arrival, some_absence}
use Rattle.fetch_trace.specs.Standing.{from_numbers, segment_at, is_kept}
use Rattle.fetch_trace.proofs.Lists.{from-agree}
use Rattle.fetch_trace.proofs.Truths.{or_assoc, or_false, or_swap, or_under}

-- ---- the answers of one link

abbrev pub answered : (Verdict → Bool) → ℕ → LinkNow → Bool
answered test segment l = has_answer test segment l.asking.commands l.asking.verdicts

-- a command more, which lacks its answer
pub answers-begun : (test : Verdict → Bool) (segment k : ℕ) (commands : List ℕ) (verdicts : List Verdict) → length verdicts ≤ length commands → has_answer test segment (commands ++ k ∷ []) verdicts ≡ has_answer test segment commands verdicts
answers-begun test segment k [] [] few = refl
answers-begun test segment k [] (verdict ∷ verdicts) few = absurd (omega arith)
answers-begun test segment k (command ∷ commands) [] few = refl
answers-begun test segment k (command ∷ commands) (verdict ∷ verdicts) few = ap (λ t. ((command == segment) && test verdict) || t) (answers-begun test segment k commands verdicts (omega arith))

no_answers : (test : Verdict → Bool) (segment : ℕ) (commands : List ℕ) → has_answer test segment commands [] ≡ false
no_answers test segment [] = refl
no_answers test segment (command ∷ commands) = refl

-- one answer more, to the oldest command that lacked one
pub answers-more : (test : Verdict → Bool) (segment k : ℕ) (verdict : Verdict) (commands : List ℕ) (verdicts : List Verdict) → slice_get commands (length verdicts) ≡ Some k → has_answer test segment commands (verdicts ++ verdict ∷ []) ≡ (has_answer test segment commands verdicts || ((k == segment) && test verdict))
answers-more test segment k verdict [] verdicts is = cc
answers-more test segment k verdict (command ∷ commands) [] is =
    let same : command ≡ k = cc in rw same (or_false ((k == segment) && test verdict) (has_answer test segment commands []) (no_answers test segment commands))
answers-more test segment k verdict (command ∷ commands) (first ∷ verdicts) is =
    ap (λ t. ((command == segment) && test first) || t) (answers-more test segment k verdict commands verdicts is) ∙ or_assoc ((command == segment) && test first) (has_answer test segment commands verdicts) ((k == segment) && test verdict)

-- ---- of all links

pub arrival-same : (segment : ℕ) (links : List LinkNow) (i : ℕ) (l now : LinkNow) → slice_get links i ≡ Some l → answered is_accepted segment now ≡ answered is_accepted segment l → some_arrival segment (edit_at i (λ old. now) links) ≡ some_arrival segment links
arrival-same segment [] i l now is same = cc
arrival-same segment (a ∷ links) zero l now is same = let here : a ≡ l = cc in rw (here, same) refl
arrival-same segment (a ∷ links) (suc i) l now is same = ap (λ t. answered is_accepted segment a || t) (arrival-same segment links i l now is same)

pub absence-same : (server segment : ℕ) (links : List LinkNow) (i : ℕ) (l now : LinkNow) → slice_get links i ≡ Some l → now.opening.server ≡ l.opening.server → answered is_refused segment now ≡ answered is_refused segment l → some_absence server segment (edit_at i (λ old. now) links) ≡ some_absence server segment links
absence-same server segment [] i l now is own same = cc
absence-same server segment (a ∷ links) zero l now is own same = let here : a ≡ l = cc in rw (here, own, same) refl
absence-same server segment (a ∷ links) (suc i) l now is own same = ap (λ t. ((a.opening.server == server) && answered is_refused segment a) || t) (absence-same server segment links i l now is own same)

pub arrival-more : (segment : ℕ) (links : List LinkNow) (i : ℕ) (l now : LinkNow) (more : Bool) → slice_get links i ≡ Some l → answered is_accepted segment now ≡ (answered is_accepted segment l || more) → some_arrival segment (edit_at i (λ old. now) links) ≡ (some_arrival segment links || more)
arrival-more segment [] i l now more is same = cc
arrival-more segment (a ∷ links) zero l now more is same = let here : a ≡ l = cc in rw (here, same) (or_swap (answered is_accepted segment l) more (some_arrival segment links))
arrival-more segment (a ∷ links) (suc i) l now more is same =
    ap (λ t. answered is_accepted segment a || t) (arrival-more segment links i l now more is same) ∙ or_assoc (answered is_accepted segment a) (some_arrival segment links) more

pub absence-more : (server segment : ℕ) (links : List LinkNow) (i : ℕ) (l now : LinkNow) (more : Bool) → slice_get links i ≡ Some l → now.opening.server ≡ l.opening.server → answered is_refused segment now ≡ (answered is_refused segment l || more) → some_absence server segment (edit_at i (λ old. now) links) ≡ (some_absence server segment links || ((l.opening.server == server) && more))
absence-more server segment [] i l now more is own same = cc
absence-more server segment (a ∷ links) zero l now more is own same =
    let here : a ≡ l = cc in
    rw (here, own, same) (or_under (l.opening.server == server) (answered is_refused segment l) more (some_absence server segment links))
absence-more server segment (a ∷ links) (suc i) l now more is own same =
    ap (λ t. ((a.opening.server == server) && answered is_refused segment a) || t) (absence-more server segment links i l now more is own same)
    ∙ or_assoc ((a.opening.server == server) && answered is_refused segment a) (some_absence server segment links) ((l.opening.server == server) && more)

-- ---- of all segments

-- where a change leaves each answer of the link, it leaves each segment
pub segments-same : (setting : Setting) (links : List LinkNow) (i count : ℕ) (l now : LinkNow) → slice_get links i ≡ Some l → now.opening.server ≡ l.opening.server → ((test : Verdict → Bool) (segment : ℕ) → answered test segment now ≡ answered test segment l) → from_numbers (segment_at setting (edit_at i (λ old. now) links)) 0 count ≡ from_numbers (segment_at setting links) 0 count
segments-same setting links i count l now is own same = from-agree (segment_at setting links) (segment_at setting (edit_at i (λ old. now) links)) 0 count (λ k.
    let arrival : some_arrival k (edit_at i (λ old. now) links) ≡ some_arrival k links = arrival-same k links i l now is (same is_accepted k) in
    let absence : from_numbers (λ v. some_absence v k (edit_at i (λ old. now) links)) 0 MOST_SERVERS ≡ from_numbers (λ v. some_absence v k links) 0 MOST_SERVERS =
    from-agree (λ v. some_absence v k links) (λ v. some_absence v k (edit_at i (λ old. now) links)) 0 MOST_SERVERS (λ v. absence-same v k links i l now is own (same is_refused k)) in
    ap (λ (a : Bool). record { arrived = is_kept (slice_get setting.entries k) || a; answered = from_numbers (λ v. some_absence v k (edit_at i (λ old. now) links)) 0 MOST_SERVERS }) arrival
    ∙ ap (λ (m : List Bool). record { arrived = is_kept (slice_get setting.entries k) || some_arrival k links; answered = m }) absence)
