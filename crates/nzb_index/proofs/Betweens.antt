-- White and comments over a slice, with as much fuel as is left.
use Rattle.std.proofs.Common.{◌≡◌, ℕ, zero, suc, ◌+◌, ◌<◌, ◌≤◌, true, false, eqb, ◌&&◌, List, [], ◌∷◌, length, drop, Result, Ok, Err, refl, ap, subst, ◌∙◌, arith, inl, inr}
use Rattle.std.specs.Prelude.{codes, nat_eq}
use Rattle.std.specs.List.{prefix_len, starts_with}
use Rattle.std.proofs.lemmas.Bool.{cases_Bool, and_parts, and_from}
use Rattle.std.proofs.lemmas.List.{length-append, length-drop, drop-drop}
use Rattle.nzb_index.specs.declared.error.NzbError.{NzbError}
use Rattle.nzb_index.specs.declared.error.NzbError.TheVariants.{Memory, Refused, Limit}
use Rattle.nzb_index.specs.declared.scan.Between.{Between}
use Rattle.nzb_index.specs.declared.scan.Between.TheVariants.{Other, Declaration}
use Rattle.nzb_writer.specs.Markup.{is_white}
use Rattle.nzb_index.specs.MarkupReading.{Stop, word, behind_white, up_to, between, between_or, unexpected, ◌>>=◌}
use Rattle.nzb_index.specs.Readers.{Fails, ReadsTo, EndsBetween, unexpected_at}
use Rattle.nzb_index.proofs.Words.{starts_front, word_found, up_to_found}
use Rattle.nzb_index.proofs.Places.{unexpected_fails}

-- ---- what fails, fails in what is read further

pub fails_as : {A : Type 0} (text : List ℕ) (e : NzbError) (read other : Result A Stop) → other ≡ read → Fails text e read → Fails text e other
fails_as {A} text Memory read other same h = tt
fails_as {A} text (Refused place reason) read other same h = (h.0, same ∙ h.1)
fails_as {A} text (Limit l) read other same h = same ∙ h

pub fails_then : {A B : Type 0} (text : List ℕ) (e : NzbError) (read : Result A Stop) (f : A → Result B Stop) → Fails text e read → Fails text e (read >>= f)
fails_then {A} {B} text Memory read f h = tt
fails_then {A} {B} text (Refused place reason) read f h = (h.0, rw h.1 refl)
fails_then {A} {B} text (Limit l) read f h = rw h refl

-- ---- white and comments

white_twice : (t : List ℕ) → behind_white (behind_white t) ≡ behind_white t
white_twice [] = refl
white_twice (x ∷ t) = elim (cases_Bool (is_white x)) [
  | inl w ↦ let more : 1 + prefix_len is_white t ≡ suc (prefix_len is_white t) = omega arith in rw w (rw more (white_twice t))
  | inr o ↦ rw o (rw o refl)
]

white_shorter : (t : List ℕ) → length (behind_white t) ≤ length t
white_shorter t = omega (arith, length-drop (prefix_len is_white t) t)

at_white : (otherwise : List ℕ → Result (List ℕ) Stop) (fuel : ℕ) (t here : List ℕ) → here ≡ behind_white t → between_or otherwise (suc fuel) t ≡ between_or otherwise (suc fuel) here
at_white otherwise fuel t here e = rw (e, white_twice t) refl

-- the reading goes on at a place, with enough fuel
pub record GoesOn (text : List ℕ) (at i : ℕ) (otherwise : List ℕ → Result (List ℕ) Stop) (fuel : ℕ) : Type 0 where
  pub left : ℕ
  pub fits : length (drop i text) ≤ left
  pub reads : between_or otherwise (suc fuel) (drop at text) ≡ between_or otherwise (suc left) (drop i text)

-- behind white, the text from a place on is still to be read
pub record StillBetween (text : List ℕ) (at i : ℕ) : Type 0 where
  pub behind : at ≤ i
  pub within : i ≤ length text
  pub no_white : behind_white (drop i text) ≡ drop i text
  pub goes_on : (otherwise : List ℕ → Result (List ℕ) Stop) (fuel : ℕ) → length (drop at text) ≤ fuel → GoesOn text at i otherwise fuel

pub between_start : (text : List ℕ) (at i : ℕ) → at ≤ i → i ≤ length text → drop i text ≡ behind_white (drop at text) → StillBetween text at i
between_start text at i b l e = record {
  behind = b;
  within = l;
  no_white = rw e (white_twice (drop at text));
  goes_on = λ otherwise fuel fits. record {
    left = fuel;
    fits = omega (arith, ap length e, white_shorter (drop at text), fits);
    reads = at_white otherwise fuel (drop at text) (drop i text) e;
  };
}

no_comment : (t : List ℕ) → starts_with nat_eq t (codes "<!") ≡ false → starts_with nat_eq t (codes "<!-") ≡ false
no_comment [] e = refl
no_comment (x ∷ []) e = elim (cases_Bool (eqb 60 x)) [ inl a ↦ rw a refl | inr a ↦ rw a refl ]
no_comment (x ∷ y ∷ t) e = elim (cases_Bool (eqb 60 x)) [
  | inr a ↦ rw a refl
  | inl a ↦ elim (cases_Bool (eqb 33 y)) [ inr b ↦ rw (a, b) refl | inl b ↦ absurd (let f : true ≡ false = rw (a, b) at e in cc) ]
]

comment_opens : (t : List ℕ) → starts_with nat_eq t (codes "<!-") ≡ true → starts_with nat_eq t (codes "<!") ≡ true
comment_opens [] e = absurd cc
comment_opens (x ∷ []) e = absurd (let p = and_parts (eqb 60 x) false e in let q = p.1 in cc)
comment_opens (x ∷ y ∷ t) e =
    let p = and_parts (eqb 60 x) (eqb 33 y && starts_with nat_eq t (codes "-")) e in
    let q = and_parts (eqb 33 y) (starts_with nat_eq t (codes "-")) p.1 in
    and_from (eqb 60 x) (eqb 33 y && true) p.0 (and_from (eqb 33 y) true q.0 refl)

pub between_over : (text : List ℕ) (at i : ℕ) → StillBetween text at i → starts_with nat_eq (drop i text) (codes "<!") ≡ false → EndsBetween text at (Ok (Other i))
between_over text at i s e = λ otherwise fuel fits. let g = s.goes_on otherwise fuel fits in (s.behind, s.within, g.reads ∙ rw (s.no_white, e) refl)

pub between_declares : (text : List ℕ) (at i : ℕ) → StillBetween text at i → starts_with nat_eq (drop i text) (codes "<!-") ≡ false → starts_with nat_eq (drop i text) (codes "<!") ≡ true →
    (i + 2 ≤ length text) × EndsBetween text at (Ok (Declaration (i + 2)))
between_declares text at i s f e =
    let front = starts_front (drop i text) (codes "<!") e in
    let within = s.within in
    let long : i + 2 ≤ length text = omega (arith, ap length front, length-drop i text, within) in
    let behind = s.behind in
    (long, λ otherwise fuel fits. let g = s.goes_on otherwise fuel fits in (omega (arith, behind), long, g.reads ∙ rw (s.no_white, e, f) (ap (λ (t : List ℕ). otherwise t) (drop-drop 2 i text))))

after : (List ℕ → Result (List ℕ) Stop) → ℕ → Result (List ℕ) Stop → Result (List ℕ) Stop
after otherwise fuel read = read >>= λ inside. up_to (codes "-->") inside >>= λ behind. between_or otherwise fuel behind

comment_reads : (text : List ℕ) (i : ℕ) (otherwise : List ℕ → Result (List ℕ) Stop) (fuel : ℕ) → behind_white (drop i text) ≡ drop i text → starts_with nat_eq (drop i text) (codes "<!-") ≡ true →
    between_or otherwise (suc fuel) (drop i text) ≡ after otherwise fuel (word (codes "<!--") (drop i text))
unfolding after
comment_reads text i otherwise fuel w e = rw (w, comment_opens (drop i text) e, e) refl

pub comment_fails : (text : List ℕ) (at i : ℕ) (e : NzbError) → StillBetween text at i → starts_with nat_eq (drop i text) (codes "<!-") ≡ true → Fails text e (word (codes "<!--") (drop i text)) → EndsBetween text at (Err e)
unfolding after
comment_fails text at i e s f h = λ otherwise fuel fits. let g = s.goes_on otherwise fuel fits in
    fails_as text e _ _ (g.reads ∙ comment_reads text i otherwise g.left s.no_white f) (fails_then text e (word (codes "<!--") (drop i text)) (λ inside. up_to (codes "-->") inside >>= λ behind. between_or otherwise g.left behind) h)

pub inside_fails : (text : List ℕ) (at i inside : ℕ) (e : NzbError) → StillBetween text at i → starts_with nat_eq (drop i text) (codes "<!-") ≡ true → word (codes "<!--") (drop i text) ≡ Ok (drop inside text) →
    Fails text e (up_to (codes "-->") (drop inside text)) → EndsBetween text at (Err e)
unfolding after
inside_fails text at i inside e s f w h = λ otherwise fuel fits. let g = s.goes_on otherwise fuel fits in
    fails_as text e _ _ (g.reads ∙ comment_reads text i otherwise g.left s.no_white f ∙ rw w refl) (fails_then text e (up_to (codes "-->") (drop inside text)) (λ behind. between_or otherwise g.left behind) h)

pub between_next : (text : List ℕ) (at i inside behind j : ℕ) → StillBetween text at i → starts_with nat_eq (drop i text) (codes "<!-") ≡ true → i ≤ inside → inside ≤ behind → behind ≤ length text → word (codes "<!--") (drop i text) ≡ Ok (drop inside text) →
    up_to (codes "-->") (drop inside text) ≡ Ok (drop behind text) → behind ≤ j → j ≤ length text → drop j text ≡ behind_white (drop behind text) → (i < j) × StillBetween text at j
unfolding after
between_next text at i inside behind j s f l1 l2 l3 w u l4 l5 e = (
  less,
  record {
    behind = let b = s.behind in omega (arith, b, less);
    within = l5;
    no_white = rw e (white_twice (drop behind text));
    goes_on = λ otherwise fuel fits. next otherwise fuel (s.goes_on otherwise fuel fits);
  },
)
  where
    shorter : length (drop j text) < length (drop i text)
    shorter =
        let front = word_found (codes "<!--") (drop i text) (drop inside text) w in
        let closed = up_to_found 45 (codes "->") (drop inside text) (drop behind text) u in
        omega (arith, ap length front, ap length closed.1, length-append closed.0 (drop behind text), ap length e, white_shorter (drop behind text))

    less : i < j
    less = omega (arith, shorter, length-drop j text, length-drop i text, l5)

    next : (otherwise : List ℕ → Result (List ℕ) Stop) (fuel : ℕ) → GoesOn text at i otherwise fuel → GoesOn text at j otherwise fuel
    next otherwise fuel g = go g.left g.fits (g.reads ∙ comment_reads text i otherwise g.left s.no_white f ∙ rw w (rw u refl))
      where
        go : (left : ℕ) → length (drop i text) ≤ left → between_or otherwise (suc fuel) (drop at text) ≡ between_or otherwise left (drop behind text) → GoesOn text at j otherwise fuel
        go zero l r = absurd (omega (arith, l, shorter))
        go (suc left) l r = record { left = left; fits = omega (arith, l, shorter); reads = r ∙ at_white otherwise left (drop behind text) (drop j text) e }

-- ---- white and comments alone

pub between_fails : (text : List ℕ) (at : ℕ) (e : NzbError) → EndsBetween text at (Err e) → Fails text e (between (drop at text))
between_fails text at e h = h unexpected (length (drop at text)) (omega arith)

pub between_ends : (text : List ℕ) (at end : ℕ) (b : Between) → b ≡ Other end → EndsBetween text at (Ok b) → ReadsTo text at (Ok end) (between (drop at text))
between_ends text at end b e h = let f : EndsBetween text at (Ok (Other end)) = subst (λ (x : Between). EndsBetween text at (Ok x)) e h in f unexpected (length (drop at text)) (omega arith)

pub between_wrong : (text : List ℕ) (at end : ℕ) (b : Between) → b ≡ Declaration end → EndsBetween text at (Ok b) → (end ≤ length text) × Fails text (unexpected_at text end) (between (drop at text))
between_wrong text at end b e h =
    let f : EndsBetween text at (Ok (Declaration end)) = subst (λ (x : Between). EndsBetween text at (Ok x)) e h in
    let r = f unexpected (length (drop at text)) (omega arith) in
    (r.1, unexpected_fails text end _ r.1 r.2)
