-- What a reader answers stays as it is when more text follows: a value, and a refusal other than by the text's end.
use Rattle.std.proofs.Common.{◌≡◌, ◌≢◌, ℕ, zero, suc, ◌+◌, ◌≤◌, ◌<◌, Bool, true, false, cond, eqb, ◌&&◌, List, [], ◌∷◌, ◌++◌, length, take, drop, Result, Ok, Err, refl, sym, ap, ◌∙◌, arith, inl, inr}
use Rattle.std.specs.Prelude.{codes, nat_eq}
use Rattle.std.specs.List.{starts_with, list_any, prefix_len}
use Rattle.std.proofs.lemmas.Bool.{eqb-true, eqb-false, ne_eqb, cases_Bool, cases_lt, and_parts, and_right, or_parts, or_from}
use Rattle.std.proofs.lemmas.List.{length-append, take-append-le, drop-append-le}
use Rattle.std.proofs.lemmas.List.Folds.{prefix_len-append}
use Rattle.std.proofs.lemmas.List.Sums.{prefix_len-le-length}
use Rattle.nzb_index.specs.declared.error.NzbReason.{NzbReason}
use Rattle.nzb_index.specs.declared.error.NzbReason.TheVariants.{Ended, Unexpected}
use Rattle.nzb_index.specs.declared.error.NzbLimit.{NzbLimit}
use Rattle.nzb_writer.specs.Markup.{is_white, is_control, is_name_byte}
use Rattle.nzb_index.specs.MarkupReading.{Stop, refused, limit, stop_at, unexpected, word, behind_white, up_to, name_at, one_white, between_or, ◌>>=◌}

-- `after` is what a reader answers with `more` behind the text at which it answered `before`.
pub data Keeps {A : Type 0} (shift : A → A) (End : A → Type 0) (more : List ℕ) : Result A Stop → Result A Stop → Type 0 where
  goes_on : (x : A) → Keeps shift End more (Ok x) (Ok (shift x))
  ends : (x : A) (after : Result A Stop) → End x → Keeps shift End more (Ok x) after
  cut : (after : Result A Stop) → Keeps shift End more (Err (refused 0 Ended)) after
  stays : (left : ℕ) (reason : NzbReason) → reason ≢ Ended → Keeps shift End more (Err (refused left reason)) (Err (refused (left + length more) reason))
  limited : (l : NzbLimit) → Keeps shift End more (Err (limit l)) (Err (limit l))

-- no value is changed by what follows
abbrev pub Never : {A : Type 0} → A → Type 0
Never x = ⊥

abbrev pub behind : List ℕ → List ℕ → List ℕ
behind more text = text ++ more

abbrev pub second : {A : Type 0} → List ℕ → A × List ℕ → A × List ℕ
second more x = (x.0, x.1 ++ more)

abbrev pub same : {A : Type 0} → A → A
same x = x

pub keeps_bind : {A B : Type 0} {shift : A → A} {End : A → Type 0} {shift_b : B → B} {EndB : B → Type 0} {more : List ℕ} (r r' : Result A Stop) (f f' : A → Result B Stop) → Keeps shift End more r r' →
    ((x : A) → End x → (s : Result B Stop) → Keeps shift_b EndB more (f x) s) → ((x : A) → Keeps shift_b EndB more (f x) (f' (shift x))) → Keeps shift_b EndB more (r >>= f) (r' >>= f')
keeps_bind r r' f f' (goes_on x) e k = k x
keeps_bind r r' f f' (ends x after h) e k = e x h (after >>= f')
keeps_bind r r' f f' (cut after) e k = cut _
keeps_bind r r' f f' (stays left reason n) e k = stays left reason n
keeps_bind r r' f f' (limited l) e k = limited l

-- after a reader whose values stay
pub keeps_then : {A B : Type 0} {shift : A → A} {shift_b : B → B} {EndB : B → Type 0} {more : List ℕ} (r r' : Result A Stop) (f f' : A → Result B Stop) → Keeps shift Never more r r' →
    ((x : A) → Keeps shift_b EndB more (f x) (f' (shift x))) → Keeps shift_b EndB more (r >>= f) (r' >>= f')
keeps_then r r' f f' h k = keeps_bind r r' f f' h (λ x e s. absurd e) k

pub keeps_if : {A : Type 0} {shift : A → A} {End : A → Type 0} {more : List ℕ} (b b' : Bool) (x y x' y' : Result A Stop) → b' ≡ b → (b ≡ true → Keeps shift End more x x') → (b ≡ false → Keeps shift End more y y') →
    Keeps shift End more (cond b x y) (cond b' x' y')
keeps_if true b' x y x' y' e g h = rw e (g refl)
keeps_if false b' x y x' y' e g h = rw e (h refl)

pub stays_at : {A : Type 0} {shift : A → A} {End : A → Type 0} {more : List ℕ} (left left' : ℕ) (reason : NzbReason) → reason ≢ Ended → left' ≡ left + length more → Keeps shift End more (Err (refused left reason)) (Err (refused left' reason))
stays_at left left' reason n e = rw e (stays left reason n)

pub stop_keeps : {A : Type 0} {shift : A → A} {End : A → Type 0} {more : List ℕ} (from : List ℕ) (reason : NzbReason) → reason ≢ Ended → Keeps shift End more (stop_at from reason) (stop_at (from ++ more) reason)
stop_keeps {A} {shift} {End} {more} from reason n = stays_at (length from) (length (from ++ more)) reason n (length-append from more)

pub unexpected_keeps : {A : Type 0} {shift : A → A} {End : A → Type 0} {more : List ℕ} (text : List ℕ) → Keeps shift End more (unexpected text) (unexpected (text ++ more))
unexpected_keeps [] = cut _
unexpected_keeps (x ∷ text) = stop_keeps (x ∷ text) Unexpected (λ e. cc)

-- a test that only stops
pub test_keeps : {more : List ℕ} (b b' : Bool) (from : List ℕ) (reason : NzbReason) → reason ≢ Ended → b' ≡ b → Keeps same Never more (cond b (Ok true) (stop_at from reason)) (cond b' (Ok true) (stop_at (from ++ more) reason))
test_keeps b b' from reason n e = keeps_if b b' _ _ _ _ e (λ t. goes_on true) (λ f. stop_keeps from reason n)

-- ---- words and names

pub word_keeps : (w text more : List ℕ) → Keeps (behind more) Never more (word w text) (word w (text ++ more))
word_keeps [] text more = goes_on text
word_keeps (c ∷ w) [] more = cut _
word_keeps (c ∷ w) (x ∷ text) more = keeps_if (eqb c x) (eqb c x) _ _ _ _ refl (λ e. word_keeps w text more) (λ e. unexpected_keeps (x ∷ text))

pub one_white_keeps : (text more : List ℕ) → Keeps (behind more) Never more (one_white text) (one_white (text ++ more))
one_white_keeps [] more = cut _
one_white_keeps (x ∷ text) more = keeps_if (is_white x) (is_white x) _ _ _ _ refl (λ e. goes_on text) (λ e. unexpected_keeps (x ∷ text))

-- white is taken up to the text's end, or another byte stands behind it
pub data White (text more : List ℕ) : Type 0 where
  all : behind_white text ≡ [] → White text more
  part : (x : ℕ) (t : List ℕ) → behind_white text ≡ x ∷ t → behind_white (text ++ more) ≡ x ∷ (t ++ more) → White text more

pub white_keeps : (text more : List ℕ) → White text more
white_keeps [] more = all refl
white_keeps (x ∷ text) more = elim (cases_Bool (is_white x)) [
  | inr o ↦ part x text (rw o refl) (rw o refl)
  | inl w ↦
      let one : 1 + prefix_len is_white text ≡ suc (prefix_len is_white text) = omega arith in
      let two : 1 + prefix_len is_white (text ++ more) ≡ suc (prefix_len is_white (text ++ more)) = omega arith in
      elim (white_keeps text more) [
        | all e ↦ all (rw w (rw one e))
        | part y t e f ↦ part y t (rw w (rw one e)) (rw w (rw two f))
      ]
]

pub prefix_keeps : (p : ℕ → Bool) (text more : List ℕ) → eqb (prefix_len p text) (length text) ≡ false → prefix_len p (text ++ more) ≡ prefix_len p text
prefix_keeps p text more e = prefix_len-append p text more ∙ rw e refl

pub longer : (n : ℕ) (text more : List ℕ) → n ≤ length text → eqb n (length text) ≡ false → eqb n (length (text ++ more)) ≡ false
longer n text more l e = ne_eqb n (length (text ++ more)) (λ f. eqb-false n (length text) e (omega (arith, length-append text more, f)))

pub name_keeps : (text more : List ℕ) → Keeps (second more) Never more (name_at text) (name_at (text ++ more))
name_keeps text more = elim (cases_Bool (eqb (prefix_len is_name_byte text) (length text))) [
  | inl e ↦ rw e (cut _)
  | inr e ↦
      let n = prefix_len is_name_byte text in
      let l = prefix_len-le-length is_name_byte text in
      rw (prefix_keeps is_name_byte text more e) (rw (e, longer n text more l e) (keeps_if (eqb n 0) (eqb n 0) _ _ _ _ refl (λ z. unexpected_keeps text)
      (λ z. rw (take-append-le n text more l, drop-append-le n text more l) (goes_on (take n text, drop n text)))))
]

-- ---- up to a word, and white and comments

starts_keeps : (text more w : List ℕ) → length w ≤ length text → starts_with nat_eq (text ++ more) w ≡ starts_with nat_eq text w
starts_keeps text more [] l = refl
starts_keeps [] more (c ∷ w) l = absurd (omega arith)
starts_keeps (x ∷ text) more (c ∷ w) l = ap (λ (b : Bool). eqb c x && b) (starts_keeps text more w (omega arith))

short_starts : (text w : List ℕ) → length text < length w → starts_with nat_eq text w ≡ false
short_starts text [] l = absurd (omega arith)
short_starts [] (c ∷ w) l = refl
short_starts (x ∷ text) (c ∷ w) l = and_right (eqb c x) _ (short_starts text w (omega arith))

up_to_short : (w text : List ℕ) → length text < length w → list_any is_control text ≡ false → up_to w text ≡ Err (refused 0 Ended)
up_to_short w [] l clean = refl
up_to_short w (x ∷ text) l clean = let r = or_parts (is_control x) (list_any is_control text) clean in rw (r.0, short_starts (x ∷ text) w l) (up_to_short w text (omega arith) r.1)

-- what a word without control bytes may begin with has none
starts_clean : (text more w : List ℕ) → starts_with nat_eq (text ++ more) w ≡ true → length text ≤ length w → list_any is_control w ≡ false → list_any is_control text ≡ false
starts_clean [] more w s l clean = refl
starts_clean (x ∷ text) more [] s l clean = absurd (omega arith)
starts_clean (x ∷ text) more (c ∷ w) s l clean =
    let p = and_parts (eqb c x) (starts_with nat_eq (text ++ more) w) s in
    let r = or_parts (is_control c) (list_any is_control w) clean in
    or_from (is_control x) _ (rw (← (eqb-true c x p.0)) r.0) (starts_clean text more w p.1 (omega arith) r.1)

pub up_to_keeps : (w text more : List ℕ) → list_any is_control w ≡ false → Keeps (behind more) Never more (up_to w text) (up_to w (text ++ more))
up_to_keeps w [] more clean = cut _
up_to_keeps w (x ∷ text) more clean = keeps_if (is_control x) (is_control x) _ _ _ _ refl (λ k. unexpected_keeps (x ∷ text)) (λ k. elim (cases_lt (length (x ∷ text)) (length w)) [
  | inl short ↦ elim (cases_Bool (starts_with nat_eq (x ∷ (text ++ more)) w)) [
    | inl s ↦ rw (short_starts (x ∷ text) w short) (rw (up_to_short w text (omega arith) (or_parts (is_control x) (list_any is_control text) (starts_clean (x ∷ text) more w s (omega arith) clean)).1) (cut _))
    | inr s ↦ rw (short_starts (x ∷ text) w short) (rw s (up_to_keeps w text more clean))
  ]
  | inr long ↦ keeps_if (starts_with nat_eq (x ∷ text) w) (starts_with nat_eq (x ∷ (text ++ more)) w) _ _ _ _ (starts_keeps (x ∷ text) more w long)
      (λ e. rw (drop-append-le (length w) (x ∷ text) more long) (goes_on (drop (length w) (x ∷ text)))) (λ e. up_to_keeps w text more clean)
])

-- where more white, or a comment, may follow
pub data Edge : List ℕ → Type 0 where
  nothing : Edge []
  opening : Edge (60 ∷ [])

pub between_keeps : (otherwise : List ℕ → Result (List ℕ) Stop) (more : List ℕ) → ((text : List ℕ) → Keeps (behind more) Edge more (otherwise text) (otherwise (text ++ more))) → otherwise [] ≡ Err (refused 0 Ended) →
    (fuel fuel' : ℕ) (text : List ℕ) → fuel ≤ fuel' → Keeps (behind more) Edge more (between_or otherwise fuel text) (between_or otherwise fuel' (text ++ more))
between_keeps otherwise more other none zero fuel' text l = cut _
between_keeps otherwise more other none (suc fuel) zero text l = absurd (omega arith)
between_keeps otherwise more other none (suc fuel) (suc fuel') text l = elim (white_keeps text more) [
  | all e ↦ rw e (ends [] _ nothing)
  | part x t e f ↦ rw (e, f) (go x t (λ left. between_keeps otherwise more other none fuel fuel' left (omega arith)))
]
  where
    go : (x : ℕ) (t : List ℕ) → ((left : List ℕ) → Keeps (behind more) Edge more (between_or otherwise fuel left) (between_or otherwise fuel' (left ++ more))) →
        Keeps (behind more) Edge more
        (cond (starts_with nat_eq (x ∷ t) (codes "<!")) (cond (starts_with nat_eq (x ∷ t) (codes "<!-")) (word (codes "<!--") (x ∷ t) >>= λ inside. up_to (codes "-->") inside >>= λ left. between_or otherwise fuel left) (otherwise (drop 2 (x ∷ t)))) (Ok (x ∷ t)))
        (cond (starts_with nat_eq (x ∷ (t ++ more)) (codes "<!")) (cond (starts_with nat_eq (x ∷ (t ++ more)) (codes "<!-")) (word (codes "<!--") (x ∷ (t ++ more)) >>= λ inside. up_to (codes "-->") inside >>= λ left. between_or otherwise fuel' left) (otherwise (drop 2 (x ∷ (t ++ more))))) (Ok (x ∷ (t ++ more))))
    go x [] again = elim (cases_Bool (eqb 60 x)) [
      | inl e ↦ rw (← (eqb-true 60 x e)) (ends (60 ∷ []) _ opening)
      | inr e ↦ rw e (goes_on (x ∷ []))
    ]
    go x (y ∷ []) again = elim (cases_Bool (eqb 60 x && (eqb 33 y && true))) [
      | inl e ↦
          let p = and_parts (eqb 60 x) (eqb 33 y && true) e in
          let q = and_parts (eqb 33 y) true p.1 in
          rw (← (eqb-true 60 x p.0), ← (eqb-true 33 y q.0)) (rw none (cut _))
      | inr e ↦ keeps_if (eqb 60 x && (eqb 33 y && true)) (eqb 60 x && (eqb 33 y && true)) _ _ _ _ refl (λ t. absurd (let f : true ≡ false = sym t ∙ e in cc)) (λ f. goes_on (x ∷ y ∷ []))
    ]
    go x (y ∷ z ∷ t) again = keeps_if (starts_with nat_eq (x ∷ y ∷ z ∷ t) (codes "<!")) _ _ _ _ _ refl
        (λ a. keeps_if (starts_with nat_eq (x ∷ y ∷ z ∷ t) (codes "<!-")) _ _ _ _ _ refl
        (λ b. keeps_then (word (codes "<!--") (x ∷ y ∷ z ∷ t)) _ _ _ (word_keeps (codes "<!--") (x ∷ y ∷ z ∷ t) more) (λ inside. keeps_then (up_to (codes "-->") inside) _ _ _ (up_to_keeps (codes "-->") inside more refl) again))
        (λ b. other (z ∷ t)))
        (λ a. goes_on (x ∷ y ∷ z ∷ t))
