-- What is read of references, values and texts stays as it is when more text follows.
use Rattle.std.proofs.Common.{◌≡◌, ℕ, zero, suc, ◌+◌, ◌≤◌, Bool, true, false, not, cond, eqb, ◌||◌, ◌&&◌, List, [], ◌∷◌, ◌++◌, length, take, drop, None, Result, Ok, refl, sym, arith, inl, inr}
use Rattle.std.specs.Prelude.{codes, nat_eq, find, encode_utf8, bytes_eq}
use Rattle.std.specs.List.{starts_with, list_any, prefix_len}
use Rattle.std.specs.Char.{is_ascii_digit, is_ascii_hexdigit}
use Rattle.std.specs.Str.Parse.{digits_value}
use Rattle.std.proofs.lemmas.Bool.{eqb-true, eq-eqb, eqb-false, ne_eqb, cases_Bool, or_parts, and_left, and_right}
use Rattle.std.proofs.lemmas.List.{take-append-le, drop-append-le, length-drop}
use Rattle.std.proofs.lemmas.List.Sums.{prefix_len-le-length}
use Rattle.nzb_index.specs.declared.error.NzbReason.TheVariants.{BadReference, WrongTag}
use Rattle.nzb_writer.specs.Markup.{is_white, is_control, is_character}
use Rattle.nzb_index.specs.MarkupReading.{Stop, stop_at, word, up_to, name_at, references, digits_at, named, reference_at, with_front, value_at, text_at, ◌>>=◌}
use Rattle.nzb_index.proofs.Words.{starts_front}
use Rattle.nzb_index.proofs.Keeps.{Keeps, goes_on, cut, Never, second, keeps_then, keeps_if, stop_keeps, unexpected_keeps, word_keeps, up_to_keeps, name_keeps, prefix_keeps, longer}

-- ---- references

digits_keeps : (is_digit : ℕ → Bool) (radix : ℕ) (from rest more : List ℕ) → Keeps (second more) Never more (digits_at is_digit radix from rest) (digits_at is_digit radix (from ++ more) (rest ++ more))
digits_keeps is_digit radix from rest more = elim (cases_Bool (eqb (prefix_len is_digit rest) (length rest))) [
  | inl e ↦ rw e (cut _)
  | inr e ↦
      let n = prefix_len is_digit rest in
      let l = prefix_len-le-length is_digit rest in
      let under : n + 1 ≤ length rest = let apart = eqb-false n (length rest) e in omega (arith, l, apart) in
      rw (prefix_keeps is_digit rest more e) (rw (e, longer n rest more l e) (rw (take-append-le n rest more l, drop-append-le n rest more l, drop-append-le (n + 1) rest more under)
      (go n (drop n rest) (let d = length-drop n rest in omega (arith, d, under)))))
]
  where
    go : (n : ℕ) (t : List ℕ) → 1 ≤ length t → Keeps (second more) Never more
        (cond (not (eqb n 0) && starts_with nat_eq t (codes ";") && is_character (digits_value radix (take n rest))) (Ok (encode_utf8 (digits_value radix (take n rest)), drop (n + 1) rest)) (stop_at from BadReference))
        (cond (not (eqb n 0) && starts_with nat_eq (t ++ more) (codes ";") && is_character (digits_value radix (take n rest))) (Ok (encode_utf8 (digits_value radix (take n rest)), drop (n + 1) rest ++ more)) (stop_at (from ++ more) BadReference))
    go n [] l = absurd (omega arith)
    go n (y ∷ t) l = keeps_if (not (eqb n 0) && (eqb 59 y && true) && is_character (digits_value radix (take n rest))) _ _ _ _ _ refl
        (λ e. goes_on (encode_utf8 (digits_value radix (take n rest)), drop (n + 1) rest)) (λ e. stop_keeps from BadReference (λ f. cc))

-- a word of which the text is no part, and that is no part of the text, begins no longer text
apart_starts : (text w more : List ℕ) → starts_with nat_eq text w ≡ false → starts_with nat_eq w text ≡ false → (starts_with nat_eq (text ++ more) w ≡ false) × (starts_with nat_eq w (text ++ more) ≡ false)
apart_starts text [] more e f = absurd cc
apart_starts [] (c ∷ w) more e f = absurd cc
apart_starts (x ∷ text) (c ∷ w) more e f = elim (cases_Bool (eqb c x)) [
  | inr n ↦ (and_left (eqb c x) _ n, and_left (eqb x c) _ (ne_eqb x c (λ g. eqb-false c x n (sym g))))
  | inl y ↦
      let same = eq-eqb x c (sym (eqb-true c x y)) in
      let deeper = apart_starts text w more (rest (eqb c x) _ y e) (rest (eqb x c) _ same f) in
      (and_right (eqb c x) _ deeper.0, and_right (eqb x c) _ deeper.1)
]
  where
    rest : (a b : Bool) → a ≡ true → (a && b) ≡ false → b ≡ false
    rest a b t e = rw t at e

named_keeps : (from rest more : List ℕ) → Keeps (second more) Never more (named from rest (find (λ r. starts_with nat_eq rest r.0) references)) (named (from ++ more) (rest ++ more) (find (λ r. starts_with nat_eq (rest ++ more) r.0) references))
named_keeps from rest more = elim (cases_Bool (starts_with nat_eq rest (codes "amp;"))) [
  | inl a ↦ rw (starts_front rest (codes "amp;") a) (goes_on _)
  | inr a ↦ elim (cases_Bool (starts_with nat_eq rest (codes "lt;"))) [
    | inl b ↦ rw (starts_front rest (codes "lt;") b) (goes_on _)
    | inr b ↦ elim (cases_Bool (starts_with nat_eq rest (codes "gt;"))) [
      | inl c ↦ rw (starts_front rest (codes "gt;") c) (goes_on _)
      | inr c ↦ elim (cases_Bool (starts_with nat_eq rest (codes "quot;"))) [
        | inl d ↦ rw (starts_front rest (codes "quot;") d) (goes_on _)
        | inr d ↦ elim (cases_Bool (starts_with nat_eq rest (codes "apos;"))) [
          | inl f ↦ rw (starts_front rest (codes "apos;") f) (goes_on _)
          | inr f ↦ rw (a, b, c, d, f) (none a b c d f)
        ]
      ]
    ]
  ]
]
  where
    none : starts_with nat_eq rest (codes "amp;") ≡ false → starts_with nat_eq rest (codes "lt;") ≡ false → starts_with nat_eq rest (codes "gt;") ≡ false → starts_with nat_eq rest (codes "quot;") ≡ false → starts_with nat_eq rest (codes "apos;") ≡ false →
        Keeps (second more) Never more (named from rest None) (named (from ++ more) (rest ++ more) (find (λ r. starts_with nat_eq (rest ++ more) r.0) references))
    none a b c d f = elim (cases_Bool (list_any (λ r. starts_with nat_eq r.0 rest) references)) [
      | inl t ↦ rw t (cut _)
      | inr t ↦
          let p = or_parts (starts_with nat_eq (codes "amp;") rest) _ t in
          let q = or_parts (starts_with nat_eq (codes "lt;") rest) _ p.1 in
          let r = or_parts (starts_with nat_eq (codes "gt;") rest) _ q.1 in
          let s = or_parts (starts_with nat_eq (codes "quot;") rest) _ r.1 in
          let u = or_parts (starts_with nat_eq (codes "apos;") rest) _ s.1 in
          let amp = apart_starts rest (codes "amp;") more a p.0 in
          let lt = apart_starts rest (codes "lt;") more b q.0 in
          let gt = apart_starts rest (codes "gt;") more c r.0 in
          let quot = apart_starts rest (codes "quot;") more d s.0 in
          let apos = apart_starts rest (codes "apos;") more f u.0 in
          rw (amp.0, lt.0, gt.0, quot.0, apos.0) (rw (t, amp.1, lt.1, gt.1, quot.1, apos.1) (stop_keeps from BadReference (λ e. cc)))
    ]

pub reference_keeps : (from rest more : List ℕ) → Keeps (second more) Never more (reference_at from rest) (reference_at (from ++ more) (rest ++ more))
reference_keeps from [] more = cut _
reference_keeps from (x ∷ []) more = elim (cases_Bool (eqb 35 x)) [
  | inl e ↦ rw (← (eqb-true 35 x e)) (cut _)
  | inr e ↦ let f : eqb x 35 ≡ false = ne_eqb x 35 (λ g. eqb-false 35 x e (sym g)) in rw (e, f) (named_keeps from (x ∷ []) more)
]
reference_keeps from (x ∷ y ∷ rest) more = keeps_if (eqb 35 x && (eqb 120 y && true)) _ _ _ _ _ refl (λ a. digits_keeps is_ascii_hexdigit 16 from rest more)
    (λ a. keeps_if (bytes_eq (x ∷ y ∷ rest) (codes "#")) _ _ _ _ _ refl (λ b. cut _)
    (λ b. keeps_if (eqb 35 x && true) _ _ _ _ _ refl (λ c. digits_keeps is_ascii_digit 10 from (y ∷ rest) more)
    (λ c. named_keeps from (x ∷ y ∷ rest) more)))

-- ---- values and texts

front_keeps : {more : List ℕ} (front : List ℕ) (r r' : Result (List ℕ × List ℕ) Stop) → Keeps (second more) Never more r r' → Keeps (second more) Never more (with_front front r) (with_front front r')
front_keeps front r r' k = keeps_then r r' _ _ k (λ x. goes_on (front ++ x.0, x.1))

-- a line end, or another character, where the rest of a value keeps
character_keeps : (quote x fuel fuel' : ℕ) (rest more : List ℕ) → Keeps (second more) Never more (value_at quote fuel rest) (value_at quote fuel' (rest ++ more)) →
    Keeps (second more) Never more (cond (eqb x 13 && starts_with nat_eq rest (codes "\n")) (value_at quote fuel rest) (with_front (cond (is_white x) 32 x ∷ []) (value_at quote fuel rest)))
    (cond (eqb x 13 && starts_with nat_eq (rest ++ more) (codes "\n")) (value_at quote fuel' (rest ++ more)) (with_front (cond (is_white x) 32 x ∷ []) (value_at quote fuel' (rest ++ more))))
character_keeps quote x zero fuel' [] more k = rw (and_right (eqb x 13) false refl) (cut _)
character_keeps quote x (suc fuel) fuel' [] more k = rw (and_right (eqb x 13) false refl) (cut _)
character_keeps quote x fuel fuel' (y ∷ rest) more k = keeps_if (eqb x 13 && (eqb 10 y && true)) _ _ _ _ _ refl (λ a. k) (λ a. front_keeps (cond (is_white x) 32 x ∷ []) (value_at quote fuel (y ∷ rest)) _ k)

pub value_keeps : (quote fuel fuel' : ℕ) (rest more : List ℕ) → fuel ≤ fuel' → Keeps (second more) Never more (value_at quote fuel rest) (value_at quote fuel' (rest ++ more))
value_keeps quote zero fuel' rest more l = cut _
value_keeps quote (suc fuel) zero rest more l = absurd (omega arith)
value_keeps quote (suc fuel) (suc fuel') [] more l = cut _
value_keeps quote (suc fuel) (suc fuel') (x ∷ rest) more l = keeps_if (eqb x quote) _ _ _ _ _ refl (λ e. goes_on ([], rest))
    (λ e. keeps_if (eqb x 60 || is_control x) _ _ _ _ _ refl (λ a. unexpected_keeps (x ∷ rest))
    (λ a. keeps_if (eqb x 38) _ _ _ _ _ refl
    (λ b. keeps_then (reference_at (x ∷ rest) rest) _ _ _ (reference_keeps (x ∷ rest) rest more) (λ r. front_keeps r.0 (value_at quote fuel r.1) _ (value_keeps quote fuel fuel' r.1 more (omega arith))))
    (λ b. character_keeps quote x fuel fuel' rest more (value_keeps quote fuel fuel' rest more (omega arith)))))

-- a tag or a comment in a text
markup_keeps : (x fuel fuel' : ℕ) (rest more : List ℕ) → ((left : List ℕ) → Keeps (second more) Never more (text_at fuel left) (text_at fuel' (left ++ more))) →
    Keeps (second more) Never more (cond (starts_with nat_eq rest (codes "/")) (Ok ([], x ∷ rest)) (cond (starts_with nat_eq rest (codes "!")) (word (codes "!--") rest >>= λ inside. up_to (codes "-->") inside >>= λ left. text_at fuel left) (name_at rest >>= λ n. stop_at (x ∷ rest) WrongTag)))
    (cond (starts_with nat_eq (rest ++ more) (codes "/")) (Ok ([], x ∷ (rest ++ more))) (cond (starts_with nat_eq (rest ++ more) (codes "!")) (word (codes "!--") (rest ++ more) >>= λ inside. up_to (codes "-->") inside >>= λ left. text_at fuel' left) (name_at (rest ++ more) >>= λ n. stop_at (x ∷ (rest ++ more)) WrongTag)))
markup_keeps x fuel fuel' [] more k = cut _
markup_keeps x fuel fuel' (y ∷ rest) more k = keeps_if (eqb 47 y && true) _ _ _ _ _ refl (λ a. goes_on ([], x ∷ y ∷ rest))
    (λ a. keeps_if (eqb 33 y && true) _ _ _ _ _ refl
    (λ b. keeps_then (word (codes "!--") (y ∷ rest)) _ _ _ (word_keeps (codes "!--") (y ∷ rest) more) (λ inside. keeps_then (up_to (codes "-->") inside) _ _ _ (up_to_keeps (codes "-->") inside more refl) k))
    (λ b. keeps_then (name_at (y ∷ rest)) _ _ _ (name_keeps (y ∷ rest) more) (λ n. stop_keeps (x ∷ y ∷ rest) WrongTag (λ e. cc))))

pub text_keeps : (fuel fuel' : ℕ) (rest more : List ℕ) → fuel ≤ fuel' → Keeps (second more) Never more (text_at fuel rest) (text_at fuel' (rest ++ more))
text_keeps zero fuel' rest more l = cut _
text_keeps (suc fuel) zero rest more l = absurd (omega arith)
text_keeps (suc fuel) (suc fuel') [] more l = cut _
text_keeps (suc fuel) (suc fuel') (x ∷ rest) more l = keeps_if (eqb x 38) _ _ _ _ _ refl
    (λ b. keeps_then (reference_at (x ∷ rest) rest) _ _ _ (reference_keeps (x ∷ rest) rest more) (λ r. front_keeps r.0 (text_at fuel r.1) _ (text_keeps fuel fuel' r.1 more (omega arith))))
    (λ b. keeps_if (not (eqb x 60)) _ _ _ _ _ refl (λ c. keeps_if (is_control x) _ _ _ _ _ refl (λ d. unexpected_keeps (x ∷ rest)) (λ d. front_keeps (x ∷ []) (text_at fuel rest) _ (text_keeps fuel fuel' rest more (omega arith))))
    (λ c. markup_keeps x fuel fuel' rest more (λ left. text_keeps fuel fuel' left more (omega arith))))
