-- What the readers of words and of white take of an NZB text is what the grammar says.
use Rattle.std.proofs.Common.{◌≡◌, ℕ, suc, ◌+◌, Bool, true, false, cond, eqb, List, [], ◌∷◌, ◌++◌, length, take, drop, Result, Ok, Err, refl, ap, ◌∙◌, append_assoc, arith, inl, inr, ◌⊎◌}
use Rattle.std.specs.Prelude.{nat_eq}
use Rattle.std.specs.List.{starts_with, list_all, prefix_len}
use Rattle.std.proofs.lemmas.Bool.{eqb-true, eq-eqb, cases_Bool, and_parts, and_from, or_from}
use Rattle.std.proofs.lemmas.List.{length-append, nil_from_length}
use Rattle.nzb_writer.specs.Markup.{is_white, is_control, IsWhite, EndsAtFirst}
use Rattle.nzb_index.specs.MarkupReading.{Stop, word, up_to, unexpected, ◌>>=◌}

-- ---- tools

pub chosen : {A : Type 0} (b : Bool) (x y z : A) → cond b x y ≡ z → ((b ≡ true) × (x ≡ z)) ⊎ ((b ≡ false) × (y ≡ z))
chosen true x y z e = inl (refl, e)
chosen false x y z e = inr (refl, e)

pub bind_ok : {A B : Type 0} (r : Result A Stop) (f : A → Result B Stop) (y : B) → (r >>= f) ≡ Ok y → (x : A) × (r ≡ Ok x) × (f x ≡ Ok y)
bind_ok (Ok x) f y e = (x, refl, e)
bind_ok (Err d) f y e = absurd cc

abbrev got : List ℕ → Result (List ℕ) Stop
got rest = Ok rest

unexpected_no : (text rest : List ℕ) → unexpected text ≡ got rest → ⊥
unexpected_no [] rest e = cc
unexpected_no (x ∷ text) rest e = cc

pub starts_front : (text w : List ℕ) → starts_with nat_eq text w ≡ true → text ≡ w ++ drop (length w) text
starts_front text [] e = refl
starts_front [] (c ∷ w) e = absurd cc
starts_front (x ∷ text) (c ∷ w) e =
    let p = and_parts (eqb c x) (starts_with nat_eq text w) e in
    let same = eqb-true c x p.0 in
    let rest = starts_front text w p.1 in
    cc

pub front_starts : (w rest : List ℕ) → starts_with nat_eq (w ++ rest) w ≡ true
front_starts [] rest = refl
front_starts (c ∷ w) rest = and_from (eqb c c) (starts_with nat_eq (w ++ rest) w) (eq-eqb c c refl) (front_starts w rest)

-- ---- a word

pub word_found : (w text rest : List ℕ) → word w text ≡ Ok rest → text ≡ w ++ rest
word_found [] text rest e = cc
word_found (c ∷ w) [] rest e = absurd cc
word_found (c ∷ w) (x ∷ text) rest e = elim (chosen (eqb c x) (word w text) (unexpected (x ∷ text)) (got rest) e) [
  | inl p ↦ let same = eqb-true c x p.0 in let more = word_found w text rest p.1 in cc
  | inr p ↦ absurd (unexpected_no (x ∷ text) rest p.1)
]

-- ---- up to the first of a word

pub not_at : (x : ℕ) (text : List ℕ) (w : List ℕ) → starts_with nat_eq (x ∷ text) w ≡ false → (b : List ℕ) → x ∷ text ≡ w ++ b → ⊥
not_at x text w e b f = let s : starts_with nat_eq (x ∷ text) w ≡ true = rw f (front_starts w b) in absurd cc

word_ends_itself : (w a b : List ℕ) → w ≡ a ++ w ++ b → b ≡ []
word_ends_itself w a b e = nil_from_length b (omega (arith, ap length e, length-append (a ++ w) b, length-append a w))

ends_later : (x c : ℕ) (w text front rest : List ℕ) → is_control x ≡ false → starts_with nat_eq (x ∷ text) (c ∷ w) ≡ false → text ≡ front ++ rest → EndsAtFirst front (c ∷ w) → EndsAtFirst (x ∷ front) (c ∷ w)
ends_later x c w text front rest n e f ((inside, g, clean), first) = ((x ∷ inside, cc, or_from (is_control x) _ n clean), only)
  where
    only : (a b : List ℕ) → x ∷ front ≡ a ++ (c ∷ w) ++ b → b ≡ []
    only [] b h = absurd (not_at x text (c ∷ w) e (b ++ rest) (ap (λ (t : List ℕ). x ∷ t) f ∙ ap (λ (t : List ℕ). t ++ rest) h ∙ append_assoc (c ∷ w) b rest))
    only (d ∷ a) b h = first a b (cc)

pub up_to_found : (c : ℕ) (w text rest : List ℕ) → up_to (c ∷ w) text ≡ Ok rest → (front : List ℕ) × (text ≡ front ++ rest) × EndsAtFirst front (c ∷ w)
up_to_found c w [] rest e = absurd cc
up_to_found c w (x ∷ text) rest e =
    let here = cond (starts_with nat_eq (x ∷ text) (c ∷ w)) (got (drop (length (c ∷ w)) (x ∷ text))) (up_to (c ∷ w) text) in
    elim (chosen (is_control x) (unexpected (x ∷ text)) here (got rest) e) [
      | inl k ↦ absurd (unexpected_no (x ∷ text) rest k.1)
      | inr k ↦ elim (chosen (starts_with nat_eq (x ∷ text) (c ∷ w)) (got (drop (length (c ∷ w)) (x ∷ text))) (up_to (c ∷ w) text) (got rest) k.1) [
        | inl p ↦
            let left : drop (length (c ∷ w)) (x ∷ text) ≡ rest = cc in
            (c ∷ w, starts_front (x ∷ text) (c ∷ w) p.0 ∙ ap (λ (t : List ℕ). (c ∷ w) ++ t) left, (([], refl, refl), word_ends_itself (c ∷ w)))
        | inr p ↦
            let more = up_to_found c w text rest p.1 in
            (x ∷ more.0, ap (λ (t : List ℕ). x ∷ t) more.1, ends_later x c w text more.0 rest k.0 p.0 more.1 more.2)
      ]
    ]

-- ---- white and comments

pub white_front : (text : List ℕ) → IsWhite (take (prefix_len is_white text) text)
white_front [] = refl
white_front (x ∷ text) = elim (cases_Bool (is_white x)) [
  | inl w ↦ rw w (front_of x text w (white_front text))
  | inr o ↦ rw o refl
]
  where
    front_of : (y : ℕ) (more : List ℕ) → is_white y ≡ true → IsWhite (take (prefix_len is_white more) more) → IsWhite (take (1 + prefix_len is_white more) (y ∷ more))
    front_of y more w h = rw one_more (and_from (is_white y) (list_all is_white (take (prefix_len is_white more) more)) w h)
      where
        one_more : 1 + prefix_len is_white more ≡ suc (prefix_len is_white more)
        one_more = omega arith
