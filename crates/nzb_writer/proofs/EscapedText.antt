-- Writing a text with its references, from one reference to the next.
use Rattle.std.proofs.Common.{◌≡◌, ℕ, suc, ◌+◌, ◌-◌, ◌<◌, ◌≤◌, false, List, [], ◌∷◌, ◌++◌, length, get_or, take, drop, refl, sym, ap, ◌∙◌, append_assoc, arith, inl, inr, add-one, drop-cons}
use Rattle.std.specs.List.{prefix_len}
use Rattle.std.proofs.lemmas.Bool.{cases_Bool}
use Rattle.std.proofs.lemmas.List.{length-drop, nil_from_length, append-nil, drop-drop}
use Rattle.nzb_writer.specs.Canonical.{is_plain, reference_of, escaped}

-- what is written as it is stands in front of what is left
plain_run : (t : List ℕ) → escaped t ≡ take (prefix_len is_plain t) t ++ escaped (drop (prefix_len is_plain t) t)
plain_run [] = refl
plain_run (x ∷ t) = elim (cases_Bool (is_plain x)) [
  | inl p ↦ let more : 1 + prefix_len is_plain t ≡ suc (prefix_len is_plain t) = omega arith in rw (p, more) (ap (λ (u : List ℕ). x ∷ u) (plain_run t))
  | inr r ↦ let none : prefix_len is_plain (x ∷ t) ≡ 0 = rw r refl in rw none refl
]

-- behind it stands a byte that is written as a reference, or nothing
run_ends : (t : List ℕ) (x : ℕ) (more : List ℕ) → drop (prefix_len is_plain t) t ≡ x ∷ more → is_plain x ≡ false
run_ends [] x more e = absurd cc
run_ends (y ∷ t) x more e = elim (cases_Bool (is_plain y)) [
  | inl p ↦ let one : 1 + prefix_len is_plain t ≡ suc (prefix_len is_plain t) = omega arith in run_ends t x more (rw (p, one) at e)
  | inr r ↦ let same : y ≡ x = let f : y ∷ t ≡ x ∷ more = rw r at e in cc in rw (← same) r
]

here : (text : List ℕ) (i : ℕ) → i < length text → drop i text ≡ get_or text i 0 ∷ drop (i + 1) text
here text i h = rw add-one (drop-cons text i 0 h)

drop_twice : (n m : ℕ) (t : List ℕ) → drop n (drop m t) ≡ drop (m + n) t
drop_twice n m t = drop-drop n m t ∙ ap (λ (k : ℕ). drop k t) (omega arith)

-- a text is written up to a place
pub record StillEscaping (text old out : List ℕ) (at : ℕ) : Type 0 where
  pub within : at ≤ length text
  pub front : List ℕ
  pub appended : out ≡ old ++ front
  pub left : escaped text ≡ front ++ escaped (drop at text)

pub escaping_starts : (text out : List ℕ) → StillEscaping text out out 0
escaping_starts text out = record { within = omega arith; front = []; appended = sym (append-nil out); left = refl }

pub escaping_over : (text old out : List ℕ) (at : ℕ) → StillEscaping text old out at → length text ≤ at → out ≡ old ++ escaped text
escaping_over text old out at s h =
    let within = s.within in
    let none : drop at text ≡ [] = nil_from_length (drop at text) (omega (arith, length-drop at text, h, within)) in
    s.appended ∙ ap (λ (t : List ℕ). old ++ t) (sym (s.left ∙ ap (λ (t : List ℕ). s.front ++ escaped t) none ∙ append-nil s.front))

-- the run from a place on, and what is left behind it
run_from : (text : List ℕ) (at end : ℕ) → end ≡ at + prefix_len is_plain (drop at text) → escaped (drop at text) ≡ take (end - at) (drop at text) ++ escaped (drop end text)
run_from text at end e =
    let n : end - at ≡ prefix_len is_plain (drop at text) = omega (arith, e) in
    let rest : drop (prefix_len is_plain (drop at text)) (drop at text) ≡ drop end text = drop_twice (prefix_len is_plain (drop at text)) at text ∙ ap (λ (k : ℕ). drop k text) (sym e) in
    plain_run (drop at text) ∙ rw (n, rest) refl

pub escaping_whole : (text old out out' : List ℕ) (at end : ℕ) → StillEscaping text old out at → end ≡ at + prefix_len is_plain (drop at text) → out' ≡ out ++ take (end - at) (drop at text) → end ≡ length text → out' ≡ old ++ escaped text
escaping_whole text old out out' at end s e f h =
    let none : drop end text ≡ [] = nil_from_length (drop end text) (omega (arith, length-drop end text, h)) in
    let run : escaped (drop at text) ≡ take (end - at) (drop at text) = run_from text at end e ∙ ap (λ (t : List ℕ). take (end - at) (drop at text) ++ escaped t) none ∙ append-nil (take (end - at) (drop at text)) in
    let all : escaped text ≡ s.front ++ take (end - at) (drop at text) = s.left ∙ ap (λ (t : List ℕ). s.front ++ t) run in
    f ∙ ap (λ (t : List ℕ). t ++ take (end - at) (drop at text)) s.appended ∙ append_assoc old s.front (take (end - at) (drop at text)) ∙ ap (λ (t : List ℕ). old ++ t) (sym all)

pub escaping_next : (text old out out' : List ℕ) (at end : ℕ) → StillEscaping text old out at → end ≡ at + prefix_len is_plain (drop at text) → end < length text →
    out' ≡ (out ++ take (end - at) (drop at text)) ++ reference_of (get_or text end 0) → StillEscaping text old out' (end + 1)
escaping_next text old out out' at end s e h f =
    let run : List ℕ = take (end - at) (drop at text) in
    let x : ℕ = get_or text end 0 in
    let rest : drop (prefix_len is_plain (drop at text)) (drop at text) ≡ x ∷ drop (end + 1) text = drop_twice (prefix_len is_plain (drop at text)) at text ∙ ap (λ (k : ℕ). drop k text) (sym e) ∙ here text end h in
    let none : is_plain x ≡ false = run_ends (drop at text) x (drop (end + 1) text) rest in
    let one : escaped (drop end text) ≡ reference_of x ++ escaped (drop (end + 1) text) = ap (λ (t : List ℕ). escaped t) (here text end h) ∙ byte x (drop (end + 1) text) none in
    record {
      within = omega (arith, h);
      front = (s.front ++ run) ++ reference_of x;
      appended = f ∙ joined out old s.front run (reference_of x) s.appended;
      left = s.left ∙ ap (λ (t : List ℕ). s.front ++ t) (run_from text at end e ∙ ap (λ (t : List ℕ). run ++ t) one) ∙ sym (append_assoc (s.front ++ run) (reference_of x) (escaped (drop (end + 1) text)) ∙ append_assoc s.front run (reference_of x ++ escaped (drop (end + 1) text)));
    }
  where
    byte : (y : ℕ) (more : List ℕ) → is_plain y ≡ false → escaped (y ∷ more) ≡ reference_of y ++ escaped more
    byte y more n = rw n refl

    joined : (o p a b c : List ℕ) → o ≡ p ++ a → (o ++ b) ++ c ≡ p ++ ((a ++ b) ++ c)
    joined o p a b c e = rw e (simp append_assoc)
