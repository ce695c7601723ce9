-- A text of the grammar is read: the small forms, references, values and texts.
use Rattle.std.proofs.Common.{◌≡◌, ◌≢◌, ℕ, zero, suc, ◌+◌, ◌≤◌, Bool, true, false, cond, eqb, List, [], ◌∷◌, ◌++◌, length, take, drop, Result, Ok, refl, ap, ◌∙◌, append_assoc, arith, inl, inr, ◌⊎◌}
use Rattle.std.specs.Prelude.{codes, nat_eq}
use Rattle.std.specs.List.{starts_with, list_all, list_any, prefix_len, concat, AllByRecursion}
use Rattle.std.proofs.lemmas.Bool.{ne_eqb, and_parts, and_from, or_parts, false_from_ne_true}
use Rattle.std.proofs.lemmas.Bool.Decides.{nat_tests}
use Rattle.std.proofs.lemmas.List.{length-append, nil_from_length}
use Rattle.nzb_writer.specs.Markup.{is_white, is_control, is_name_byte, IsWhite, IsMarkupName, IsMarkupComment, EndsAtFirst}
use Rattle.nzb_index.specs.MarkupReading.{Stop, up_to, behind_white, between_or, name_at, ◌>>=◌}
use Rattle.nzb_index.proofs.Words.{starts_front, front_starts}

-- ---- tools

pub then : {A B : Type 0} (r : Result A Stop) (f : A → Result B Stop) (x : A) (y : Result B Stop) → r ≡ Ok x → f x ≡ y → (r >>= f) ≡ y
then {A} {B} r f x y e h = rw e h

pub on_true : {A : Type 0} (b : Bool) (x y z : A) → b ≡ true → x ≡ z → cond b x y ≡ z
on_true b x y z e h = rw e h

pub on_false : {A : Type 0} (b : Bool) (x y z : A) → b ≡ false → y ≡ z → cond b x y ≡ z
on_false b x y z e h = rw e h

pub prefix_all : (p : ℕ → Bool) (a b : List ℕ) → list_all p a ≡ true → prefix_len p (a ++ b) ≡ length a + prefix_len p b
prefix_all p [] b h = omega arith
prefix_all p (x ∷ a) b h = let r = and_parts (p x) (list_all p a) h in rw r.0 (let more = prefix_all p a b r.1 in omega (arith, more))

pub take_front : (a b : List ℕ) → take (length a) (a ++ b) ≡ a
take_front [] b = refl
take_front (x ∷ a) b = ap (λ (t : List ℕ). x ∷ t) (take_front a b)

pub drop_front : (a b : List ℕ) → drop (length a) (a ++ b) ≡ b
drop_front [] b = refl
drop_front (x ∷ a) b = drop_front a b

-- ---- white and names

pub white_more : (w t : List ℕ) → IsWhite w → behind_white (w ++ t) ≡ behind_white t
white_more [] t h = refl
white_more (x ∷ w) t h =
    let r = and_parts (is_white x) (list_all is_white w) h in
    rw r.0 (let n : 1 + prefix_len is_white (w ++ t) ≡ suc (prefix_len is_white (w ++ t)) = omega arith in rw n (white_more w t r.1))

pub white_none : (x : ℕ) (t : List ℕ) → is_white x ≡ false → behind_white (x ∷ t) ≡ x ∷ t
white_none x t e = rw e refl

pub behind_all_white : (w : List ℕ) (x : ℕ) (t : List ℕ) → IsWhite w → is_white x ≡ false → behind_white (w ++ x ∷ t) ≡ x ∷ t
behind_all_white w x t h e = white_more w (x ∷ t) h ∙ white_none x t e

-- another byte than a name's
pub record NoName (text : List ℕ) : Type 0 where
  pub byte : ℕ
  pub more : List ℕ
  pub text_is : text ≡ byte ∷ more
  pub is_none : is_name_byte byte ≡ false

pub white_no_name : (x : ℕ) → is_white x ≡ true → is_name_byte x ≡ false
white_no_name x e = grind (arith, nat_tests)

pub name_no_white : (x : ℕ) → is_name_byte x ≡ true → is_white x ≡ false
name_no_white x e = grind (arith, nat_tests)

pub no_name_white : (w t : List ℕ) → IsWhite w → NoName t → NoName (w ++ t)
no_name_white [] t h n = n
no_name_white (x ∷ w) t h n = record { byte = x; more = w ++ t; text_is = refl; is_none = white_no_name x (and_parts (is_white x) (list_all is_white w) h).0 }

pub name_back : (name rest : List ℕ) → IsMarkupName name → NoName rest → name_at (name ++ rest) ≡ Ok (name, rest)
name_back name rest (some, all) n = go name some all
  where
    long : (m : List ℕ) → list_all is_name_byte m ≡ true → prefix_len is_name_byte (m ++ rest) ≡ length m
    long m h = prefix_all is_name_byte m rest h ∙ (let none : prefix_len is_name_byte rest ≡ 0 = rw (n.text_is, n.is_none) refl in omega (arith, none))

    go : (m : List ℕ) → m ≢ [] → list_all is_name_byte m ≡ true → name_at (m ++ rest) ≡ Ok (m, rest)
    go [] s h = absurd (s refl)
    go (x ∷ m) s h =
        let more : eqb (length (x ∷ m)) (length ((x ∷ m) ++ rest)) ≡ false = ne_eqb (length (x ∷ m)) (length ((x ∷ m) ++ rest)) (λ e. absurd (omega (arith, length-append (x ∷ m) rest, e, ap length n.text_is))) in
        let some : eqb (length (x ∷ m)) 0 ≡ false = ne_eqb (length (x ∷ m)) 0 (omega arith) in
        rw (long (x ∷ m) h) (rw (more, some) (rw (take_front (x ∷ m) rest, drop_front (x ∷ m) rest) refl))

-- ---- up to the first of a word

starts_within : (a b w : List ℕ) → starts_with nat_eq (a ++ b) w ≡ true → length w ≤ length a → starts_with nat_eq a w ≡ true
starts_within a b [] e h = refl
starts_within [] b (c ∷ w) e h = absurd (omega arith)
starts_within (x ∷ a) b (c ∷ w) e h = let p = and_parts (eqb c x) (starts_with nat_eq (a ++ b) w) e in and_from (eqb c x) (starts_with nat_eq a w) p.0 (starts_within a b w p.1 (omega arith))

up_to_front : (c : ℕ) (w rest inside : List ℕ) → is_control c ≡ false → list_any is_control inside ≡ false → ((a b : List ℕ) → inside ++ (c ∷ w) ≡ a ++ (c ∷ w) ++ b → b ≡ []) → up_to (c ∷ w) ((inside ++ (c ∷ w)) ++ rest) ≡ Ok rest
up_to_front c w rest [] n clean first = on_false (is_control c) _ _ _ n (on_true (starts_with nat_eq ((c ∷ w) ++ rest) (c ∷ w)) _ _ _ (front_starts (c ∷ w) rest) (ap (λ (t : List ℕ). gave t) (drop_front (c ∷ w) rest)))
  where
    gave : List ℕ → Result (List ℕ) Stop
    gave t = Ok t
up_to_front c w rest (x ∷ inside) n clean first =
    let r = or_parts (is_control x) (list_any is_control inside) clean in
    on_false (is_control x) _ _ _ r.0 (on_false (starts_with nat_eq ((x ∷ (inside ++ (c ∷ w))) ++ rest) (c ∷ w)) _ _ _ (false_from_ne_true _ not_here) (up_to_front c w rest inside n r.1 (λ a b e. first (x ∷ a) b (ap (λ (t : List ℕ). x ∷ t) e))))
  where
    not_here : starts_with nat_eq ((x ∷ (inside ++ (c ∷ w))) ++ rest) (c ∷ w) ≡ true → ⊥
    not_here e =
        let s = starts_within (x ∷ (inside ++ (c ∷ w))) rest (c ∷ w) e (omega (arith, length-append inside (c ∷ w))) in
        let f = starts_front (x ∷ (inside ++ (c ∷ w))) (c ∷ w) s in
        let none : drop (length (c ∷ w)) (x ∷ (inside ++ (c ∷ w))) ≡ [] = first [] (drop (length (c ∷ w)) (x ∷ (inside ++ (c ∷ w)))) f in
        absurd (omega (arith, ap length f, length-append inside (c ∷ w), length-append (c ∷ w) (drop (length (c ∷ w)) (x ∷ (inside ++ (c ∷ w)))), ap length none))

pub up_to_back : (c : ℕ) (w front rest : List ℕ) → is_control c ≡ false → EndsAtFirst front (c ∷ w) → up_to (c ∷ w) (front ++ rest) ≡ Ok rest
up_to_back c w front rest n ((inside, e, clean), first) = rw e (up_to_front c w rest inside n clean (λ a b f. first a b (e ∙ f)))

-- ---- white and comments

pub between_back : (otherwise : List ℕ → Result (List ℕ) Stop) (rest : List ℕ) (r : Result (List ℕ) Stop) → ((k : ℕ) → between_or otherwise (suc k) rest ≡ r) →
    (pieces : List (List ℕ)) (fuel : ℕ) → AllByRecursion (λ p. IsWhite p ⊎ IsMarkupComment p) pieces → length (concat pieces) ≤ fuel → between_or otherwise (suc fuel) (concat pieces ++ rest) ≡ r
between_back otherwise rest r known [] fuel h l = known fuel
between_back otherwise rest r known (p ∷ pieces) zero h l =
    let one : p ≡ [] = nil_from_length p (omega (arith, length-append p (concat pieces))) in
    rw one (between_back otherwise rest r known pieces zero h.1 (omega (arith, length-append p (concat pieces))))
between_back otherwise rest r known (p ∷ pieces) (suc fuel) h l = elim h.0 [
  | inl w ↦ rw (append_assoc p (concat pieces) rest) (rw (white_more p (concat pieces ++ rest) w)
      (between_back otherwise rest r known pieces (suc fuel) h.1 (omega (arith, length-append p (concat pieces)))))
  | inr (front, e, ends) ↦
      let fits : length (concat pieces) ≤ fuel = omega (arith, length-append p (concat pieces), ap length e, l) in
      rw (e, append_assoc front (concat pieces) rest) (rw (up_to_back 45 (codes "->") front (concat pieces ++ rest) refl ends) (between_back otherwise rest r known pieces fuel h.1 fits))
]

-- where white and comments end
pub record Stops (rest : List ℕ) : Type 0 where
  pub no_white : behind_white rest ≡ rest
  pub no_comment : starts_with nat_eq rest (codes "<!") ≡ false

pub stops_back : (otherwise : List ℕ → Result (List ℕ) Stop) (rest : List ℕ) → Stops rest → (k : ℕ) → between_or otherwise (suc k) rest ≡ Ok rest
stops_back otherwise rest s k = rw (s.no_white, s.no_comment) refl
