-- References, values and texts that are read are those of the grammar.
use Rattle.std.proofs.Common.{◌≡◌, ◌≢◌, ℕ, zero, suc, ◌+◌, Bool, true, false, not, cond, eqb, ◌||◌, ◌&&◌, List, [], ◌∷◌, ◌++◌, length, take, drop, Option, None, Result, Ok, refl, sym, ap, subst, ◌∙◌, append_assoc, arith, inl, inr, ◌⊎◌}
use Rattle.std.specs.Prelude.{codes, nat_eq, find, ◌==◌, encode_utf8, bytes_eq}
use Rattle.std.specs.List.{starts_with, list_all, list_any, prefix_len}
use Rattle.std.specs.Char.{is_ascii_digit, is_ascii_hexdigit}
use Rattle.std.specs.Str.Parse.{digits_value}
use Rattle.std.proofs.lemmas.Bool.{eqb-true, eqb-false, eq-eqb, ne_eqb, cases_Bool, cases_eq, and_parts, and_from, or_parts, or_from, or_cases, and_left, and_right, not-true}
use Rattle.std.proofs.lemmas.Bool.Decides.{nat_tests}
use Rattle.std.proofs.lemmas.List.{take-append-drop, drop-drop, length-take, length-drop}
use Rattle.nzb_index.specs.declared.error.NzbReason.TheVariants.{Ended, BadReference}
use Rattle.nzb_writer.specs.Markup.{is_white, is_control, is_character, IsNamedReference, IsReference, IsPlainText, Denotes, spaced}
use Rattle.nzb_index.specs.MarkupReading.{Stop, word, unexpected, stop_at, references, digits_at, named, reference_at, with_front, value_at, ◌>>=◌}
use Rattle.nzb_index.proofs.Words.{chosen, bind_ok, starts_front}

abbrev gave : List ℕ → List ℕ → Result (List ℕ × List ℕ) Stop
gave bytes rest = Ok (bytes, rest)

abbrev pair : List ℕ → List ℕ → List ℕ × List ℕ
pair a b = (a, b)

same_pair : (a b c d : List ℕ) → gave a b ≡ gave c d → (a ≡ c) × (b ≡ d)
same_pair a b c d e = let p : pair a b ≡ pair c d = cc in (ap (λ (t : List ℕ × List ℕ). t.0) p, ap (λ (t : List ℕ × List ℕ). t.1) p)

unexpected_gives : (text a b : List ℕ) → unexpected text ≡ gave a b → ⊥
unexpected_gives [] a b e = cc
unexpected_gives (x ∷ text) a b e = cc

-- ---- references

-- no quote, no `<` and no white
abbrev pub is_loud : ℕ → Bool
is_loud b = b == 34 || b == 39 || b == 60 || is_white b

abbrev pub IsQuiet : List ℕ → Type 0
IsQuiet text = list_any is_loud text ≡ false

pub front_passes : (p : ℕ → Bool) (text : List ℕ) → list_all p (take (prefix_len p text) text) ≡ true
front_passes p [] = refl
front_passes p (x ∷ text) = elim (cases_Bool (p x)) [
  | inl w ↦ let one_more : 1 + prefix_len p text ≡ suc (prefix_len p text) = omega arith in rw (w, one_more) (and_from (p x) _ w (front_passes p text))
  | inr o ↦ rw o refl
]

hex_digit_quiet : (c : ℕ) → is_ascii_hexdigit c ≡ true → is_loud c ≡ false
hex_digit_quiet c e = grind (arith, nat_tests)

digit_is_hex : (c : ℕ) → is_ascii_digit c ≡ true → is_ascii_hexdigit c ≡ true
digit_is_hex c e = grind (arith, nat_tests)

pub digits_quiet : (ds : List ℕ) → list_all is_ascii_hexdigit ds ≡ true → IsQuiet ds
digits_quiet [] h = refl
digits_quiet (d ∷ ds) h = let p = and_parts (is_ascii_hexdigit d) (list_all is_ascii_hexdigit ds) h in or_from (is_loud d) (list_any is_loud ds) (hex_digit_quiet d p.0) (digits_quiet ds p.1)

pub decimal_is_hex : (ds : List ℕ) → list_all is_ascii_digit ds ≡ true → list_all is_ascii_hexdigit ds ≡ true
decimal_is_hex [] h = refl
decimal_is_hex (d ∷ ds) h = let p = and_parts (is_ascii_digit d) (list_all is_ascii_digit ds) h in and_from (is_ascii_hexdigit d) _ (digit_is_hex d p.0) (decimal_is_hex ds p.1)

abbrev Digits : (ℕ → Bool) → ℕ → List ℕ → List ℕ → List ℕ → Type 0
Digits is_digit radix rest bytes behind = (ds : List ℕ) × (rest ≡ ds ++ 59 ∷ behind) × (ds ≢ []) × (list_all is_digit ds ≡ true) × (is_character (digits_value radix ds) ≡ true) × (bytes ≡ encode_utf8 (digits_value radix ds))

digits_found : (is_digit : ℕ → Bool) (radix : ℕ) (from rest bytes behind : List ℕ) → digits_at is_digit radix from rest ≡ gave bytes behind → Digits is_digit radix rest bytes behind
digits_found is_digit radix from rest bytes behind e =
    let n = prefix_len is_digit rest in
    let test = not (eqb n 0) && starts_with nat_eq (drop n rest) (codes ";") && is_character (digits_value radix (take n rest)) in
    elim (chosen (eqb n (length rest)) (stop_at [] Ended) (cond test (gave (encode_utf8 (digits_value radix (take n rest))) (drop (n + 1) rest)) (stop_at from BadReference)) (gave bytes behind) e) [
      | inl p ↦ absurd cc
      | inr p ↦ elim (chosen test (gave (encode_utf8 (digits_value radix (take n rest))) (drop (n + 1) rest)) (stop_at from BadReference) (gave bytes behind) p.1) [
        | inr q ↦ absurd cc
        | inl q ↦
            let a = and_parts (not (eqb n 0) && starts_with nat_eq (drop n rest) (codes ";")) (is_character (digits_value radix (take n rest))) q.0 in
            let b = and_parts (not (eqb n 0)) (starts_with nat_eq (drop n rest) (codes ";")) a.0 in
            let r = same_pair (encode_utf8 (digits_value radix (take n rest))) (drop (n + 1) rest) bytes behind q.1 in
            let semi : drop n rest ≡ 59 ∷ drop 1 (drop n rest) = starts_front (drop n rest) (codes ";") b.1 in
            let further : drop 1 (drop n rest) ≡ drop (n + 1) rest = drop-drop 1 n rest in
            (take n rest, sym (take-append-drop n rest) ∙ ap (λ (t : List ℕ). take n rest ++ t) (semi ∙ ap (λ (t : List ℕ). 59 ∷ t) (further ∙ r.1)), some_taken n rest (not-true (eqb n 0) b.0) semi, front_passes is_digit rest, a.1, sym r.0)
      ]
    ]
  where
    some_taken : (k : ℕ) (text : List ℕ) → eqb k 0 ≡ false → drop k text ≡ 59 ∷ drop 1 (drop k text) → take k text ≢ []
    some_taken k text h s empty = let zero_not = eqb-false k 0 h in absurd (omega (arith, ap length s, ap length empty, length-take k text, length-drop k text, zero_not))

unfoldable pub Reference : List ℕ → List ℕ → List ℕ → Type 0
Reference rest bytes behind = (t : List ℕ) × (rest ≡ t ++ behind) × IsReference (38 ∷ t) bytes × IsQuiet t

named_one : (from rest bytes behind name : List ℕ) (c : ℕ) (o : Option (List ℕ × ℕ)) → starts_with nat_eq rest name ≡ true → gave (c ∷ []) (drop (length name) rest) ≡ gave bytes behind →
    IsNamedReference (38 ∷ name) c → is_character c ≡ true → encode_utf8 c ≡ c ∷ [] → IsQuiet name → Reference rest bytes behind
unfolding Reference
named_one from rest bytes behind name c o s e n ch enc q =
    let p = same_pair (c ∷ []) (drop (length name) rest) bytes behind e in
    (name, starts_front rest name s ∙ ap (λ (t : List ℕ). name ++ t) p.1, (c, inl n, ch, sym p.0 ∙ sym enc), q)

pub encoded : (encode_utf8 38 ≡ 38 ∷ []) × (encode_utf8 60 ≡ 60 ∷ []) × (encode_utf8 62 ≡ 62 ∷ []) × (encode_utf8 34 ≡ 34 ∷ []) × (encode_utf8 39 ≡ 39 ∷ [])
unfolding lib.Utf8.encode
encoded = (refl, refl, refl, refl, refl)

nothing_named : (from rest bytes behind : List ℕ) → named from rest None ≡ gave bytes behind → ⊥
nothing_named from rest bytes behind e = elim (chosen (list_any (λ r. starts_with nat_eq r.0 rest) references) (stop_at [] Ended) (stop_at from BadReference) (gave bytes behind) e) [ inl p ↦ absurd cc | inr p ↦ absurd cc ]

named_found : (from rest bytes behind : List ℕ) → named from rest (find (λ r. starts_with nat_eq rest r.0) references) ≡ gave bytes behind → Reference rest bytes behind
named_found from rest bytes behind e = elim (cases_Bool (starts_with nat_eq rest (codes "amp;"))) [
  | inl a ↦ named_one from rest bytes behind (codes "amp;") 38 None a (rw a at e) (inl (refl, refl)) refl encoded.0 refl
  | inr a ↦ elim (cases_Bool (starts_with nat_eq rest (codes "lt;"))) [
    | inl b ↦ named_one from rest bytes behind (codes "lt;") 60 None b (rw (a, b) at e) (inr (inl (refl, refl))) refl encoded.1 refl
    | inr b ↦ elim (cases_Bool (starts_with nat_eq rest (codes "gt;"))) [
      | inl c ↦ named_one from rest bytes behind (codes "gt;") 62 None c (rw (a, b, c) at e) (inr (inr (inl (refl, refl)))) refl encoded.2 refl
      | inr c ↦ elim (cases_Bool (starts_with nat_eq rest (codes "quot;"))) [
        | inl d ↦ named_one from rest bytes behind (codes "quot;") 34 None d (rw (a, b, c, d) at e) (inr (inr (inr (inl (refl, refl))))) refl encoded.3 refl
        | inr d ↦ elim (cases_Bool (starts_with nat_eq rest (codes "apos;"))) [
          | inl f ↦ named_one from rest bytes behind (codes "apos;") 39 None f (rw (a, b, c, d, f) at e) (inr (inr (inr (inr (refl, refl))))) refl encoded.4 refl
          | inr f ↦ absurd (nothing_named from rest bytes behind (rw (a, b, c, d, f) at e))
        ]
      ]
    ]
  ]
]

pub quiet-append : (a b : List ℕ) → IsQuiet a → IsQuiet b → IsQuiet (a ++ b)
quiet-append [] b p q = q
quiet-append (x ∷ a) b p q = let r = or_parts (is_loud x) (list_any is_loud a) p in or_from (is_loud x) _ r.0 (quiet-append a b r.1 q)

numeric_rest : (word ds rest left behind : List ℕ) → rest ≡ word ++ left → left ≡ ds ++ 59 ∷ behind → rest ≡ (word ++ (ds ++ 59 ∷ [])) ++ behind
numeric_rest word ds rest left behind e f = e ∙ ap (λ (t : List ℕ). word ++ t) (f ∙ sym (append_assoc ds (59 ∷ []) behind)) ∙ sym (append_assoc word (ds ++ 59 ∷ []) behind)

hex_reference : (rest bytes behind : List ℕ) → starts_with nat_eq rest (codes "#x") ≡ true → Digits is_ascii_hexdigit 16 (drop 2 rest) bytes behind → Reference rest bytes behind
unfolding Reference
hex_reference rest bytes behind s (ds, e, some, all, ch, is) = (
  codes "#x" ++ (ds ++ 59 ∷ []),
  numeric_rest (codes "#x") ds rest (drop 2 rest) behind (starts_front rest (codes "#x") s) e,
  (digits_value 16 ds, inr (inr (ds, refl, some, all, refl)), ch, is),
  quiet-append ds (59 ∷ []) (digits_quiet ds all) refl,
)

decimal_reference : (rest bytes behind : List ℕ) → starts_with nat_eq rest (codes "#") ≡ true → Digits is_ascii_digit 10 (drop 1 rest) bytes behind → Reference rest bytes behind
unfolding Reference
decimal_reference rest bytes behind s (ds, e, some, all, ch, is) = (
  codes "#" ++ (ds ++ 59 ∷ []),
  numeric_rest (codes "#") ds rest (drop 1 rest) behind (starts_front rest (codes "#") s) e,
  (digits_value 10 ds, inr (inl (ds, refl, some, all, refl)), ch, is),
  quiet-append ds (59 ∷ []) (digits_quiet ds (decimal_is_hex ds all)) refl,
)

pub reference_found : (from rest bytes behind : List ℕ) → reference_at from rest ≡ gave bytes behind → Reference rest bytes behind
reference_found from rest bytes behind e =
    let last = named from rest (find (λ r. starts_with nat_eq rest r.0) references) in
    let third = cond (starts_with nat_eq rest (codes "#")) (digits_at is_ascii_digit 10 from (drop 1 rest)) last in
    let second = cond (bytes_eq rest (codes "#")) (stop_at [] Ended) third in
    elim (chosen (starts_with nat_eq rest (codes "#x")) (digits_at is_ascii_hexdigit 16 from (drop 2 rest)) second (gave bytes behind) e) [
      | inl p ↦ hex_reference rest bytes behind p.0 (digits_found is_ascii_hexdigit 16 from (drop 2 rest) bytes behind p.1)
      | inr p ↦ elim (chosen (bytes_eq rest (codes "#")) (stop_at [] Ended) third (gave bytes behind) p.1) [
        | inl q ↦ absurd cc
        | inr q ↦ elim (chosen (starts_with nat_eq rest (codes "#")) (digits_at is_ascii_digit 10 from (drop 1 rest)) last (gave bytes behind) q.1) [
          | inl r ↦ decimal_reference rest bytes behind r.0 (digits_found is_ascii_digit 10 from (drop 1 rest) bytes behind r.1)
          | inr r ↦ named_found from rest bytes behind r.1
        ]
      ]
    ]

-- ---- values

-- a character of a value, as one space where it is a line end, a TAB or a space
abbrev pub shown : ℕ → ℕ
shown x = cond (eqb x 13 || eqb x 10 || eqb x 9) 32 x

pub spaced-one : (x : ℕ) (rest : List ℕ) → ((m : List ℕ) → x ≡ 13 → rest ≡ 10 ∷ m → ⊥) → spaced (x ∷ rest) ≡ shown x ∷ spaced rest
spaced-one x [] h = refl
spaced-one x (y ∷ m) h = rw (apart (cases_eq x 13) (cases_eq y 10)) refl
  where
    apart : (x ≡ 13) ⊎ (x ≡ 13 → ⊥) → (y ≡ 10) ⊎ (y ≡ 10 → ⊥) → (eqb x 13 && eqb y 10) ≡ false
    apart (inl p) (inl q) = absurd (h m p (cc))
    apart (inl p) (inr q) = and_right (eqb x 13) (eqb y 10) (ne_eqb y 10 q)
    apart (inr p) q = and_left (eqb x 13) (eqb y 10) (ne_eqb x 13 p)

pub record Quiet (y : ℕ) : Type 0 where
  pub double : y ≢ 34
  pub single : y ≢ 39
  pub less : y ≢ 60
  pub white : is_white y ≡ false

pub quiet_parts : (y : ℕ) → is_loud y ≡ false → Quiet y
quiet_parts y k =
    let a = or_parts (eqb y 34 || eqb y 39 || eqb y 60) (is_white y) k in
    let b = or_parts (eqb y 34 || eqb y 39) (eqb y 60) a.0 in
    let c = or_parts (eqb y 34) (eqb y 39) b.0 in
    record { double = eqb-false y 34 c.0; single = eqb-false y 39 c.1; less = eqb-false y 60 b.1; white = a.1 }

pub no_white : (y : ℕ) → is_white y ≡ false → (y ≢ 9) × (y ≢ 10) × (y ≢ 13) × (y ≢ 32)
no_white y k =
    let a = or_parts (eqb y 9 || eqb y 10 || eqb y 13) (eqb y 32) k in
    let b = or_parts (eqb y 9 || eqb y 10) (eqb y 13) a.0 in
    let c = or_parts (eqb y 9) (eqb y 10) b.0 in
    (eqb-false y 9 c.0, eqb-false y 10 c.1, eqb-false y 13 b.1, eqb-false y 32 a.1)

pub shown_plain : (y : ℕ) → is_white y ≡ false → shown y ≡ y
shown_plain y k = let p = no_white y k in rw (ne_eqb y 13 p.2, ne_eqb y 10 p.1, ne_eqb y 9 p.0) refl

pub shown_white : (y : ℕ) → is_white y ≡ true → shown y ≡ 32
shown_white y k = elim (or_cases (eqb y 9 || eqb y 10 || eqb y 13) (eqb y 32) k) [
  | inr a ↦ let e = eqb-true y 32 a in rw e refl
  | inl a ↦ elim (or_cases (eqb y 9 || eqb y 10) (eqb y 13) a) [
    | inr b ↦ let e = eqb-true y 13 b in rw e refl
    | inl b ↦ elim (or_cases (eqb y 9) (eqb y 10) b) [ inl c ↦ (let e = eqb-true y 9 c in rw e refl) | inr c ↦ (let e = eqb-true y 10 c in rw e refl) ]
  ]
]

pub no_line_end : (x : ℕ) (rest : List ℕ) → (eqb x 13 && starts_with nat_eq rest (codes "\n")) ≡ false → (m : List ℕ) → x ≡ 13 → rest ≡ 10 ∷ m → ⊥
no_line_end x rest h m e f = let t : (eqb x 13 && starts_with nat_eq rest (codes "\n")) ≡ true = rw (e, f) refl in absurd cc

not_white : (x : ℕ) → is_loud x ≡ false → (shown x ≡ x) × (x ≢ 13)
not_white x h = let q = quiet_parts x h in (shown_plain x q.white, (no_white x q.white).2)

spaced-append : (a b : List ℕ) → IsQuiet a → spaced (a ++ b) ≡ a ++ spaced b
spaced-append [] b q = refl
spaced-append (x ∷ a) b q =
    let r = or_parts (is_loud x) (list_any is_loud a) q in
    let w = not_white x r.0 in
    spaced-one x (a ++ b) (λ m e f. w.1 e) ∙ ap (λ (y : ℕ). y ∷ spaced (a ++ b)) w.0 ∙ ap (λ (t : List ℕ). x ∷ t) (spaced-append a b r.1)

abbrev pub Piece : List ℕ → List ℕ → Type 0
Piece t p = IsPlainText t p ⊎ IsReference t p

with_piece : (t p text bytes : List ℕ) → Piece t p → Denotes Piece text bytes → Denotes Piece (t ++ text) (p ++ bytes)
with_piece t p text bytes h (pieces, all, e, f) = ((t, p) ∷ pieces, (h, all), ap (λ (x : List ℕ). t ++ x) e, ap (λ (x : List ℕ). p ++ x) f)

abbrev pub closes : ℕ → ℕ → Bool
closes quote b = eqb b quote || eqb b 60

-- a value is read: its text up to the quote
pub record Value (quote : ℕ) (rest bytes behind : List ℕ) : Type 0 where
  pub raw : List ℕ
  pub rest_is : rest ≡ raw ++ quote ∷ behind
  pub inside : list_any (closes quote) raw ≡ false
  pub is_value : Denotes Piece (spaced raw) bytes

closes_no : (c y : ℕ) → (c ≡ 34) ⊎ (c ≡ 39) → Quiet y → closes c y ≡ false
closes_no c y (inl e) q = or_from (eqb y c) (eqb y 60) (ne_eqb y c (λ f. q.double (f ∙ e))) (ne_eqb y 60 q.less)
closes_no c y (inr e) q = or_from (eqb y c) (eqb y 60) (ne_eqb y c (λ f. q.single (f ∙ e))) (ne_eqb y 60 q.less)

quiet_inside : (quote : ℕ) → (quote ≡ 34) ⊎ (quote ≡ 39) → (t : List ℕ) → IsQuiet t → list_any (closes quote) t ≡ false
quiet_inside quote k [] q = refl
quiet_inside quote k (x ∷ t) q = let r = or_parts (is_loud x) (list_any is_loud t) q in or_from (closes quote x) _ (closes_no quote x k (quiet_parts x r.0)) (quiet_inside quote k t r.1)

pub inside-append : (p : ℕ → Bool) (a b : List ℕ) → list_any p a ≡ false → list_any p b ≡ false → list_any p (a ++ b) ≡ false
inside-append p [] b h k = k
inside-append p (x ∷ a) b h k = let r = or_parts (p x) (list_any p a) h in or_from (p x) _ r.0 (inside-append p a b r.1 k)

-- a reference in front of a value
pub value_reference : (quote : ℕ) → (quote ≡ 34) ⊎ (quote ≡ 39) → (rest bytes left more behind : List ℕ) → Reference rest bytes left → Value quote left more behind → Value quote (38 ∷ rest) (bytes ++ more) behind
unfolding Reference
value_reference quote k rest bytes left more behind (t, e, is, q) v =
    let quiet : IsQuiet (38 ∷ t) = q in
    record {
      raw = 38 ∷ (t ++ v.raw);
      rest_is = ap (λ (x : List ℕ). 38 ∷ x) (e ∙ ap (λ (x : List ℕ). t ++ x) v.rest_is ∙ sym (append_assoc t v.raw (quote ∷ behind)));
      inside = inside-append (closes quote) (38 ∷ t) v.raw (quiet_inside quote k (38 ∷ t) quiet) v.inside;
      is_value = subst (λ (x : List ℕ). Denotes Piece x (bytes ++ more)) (sym (spaced-append (38 ∷ t) v.raw quiet)) (with_piece (38 ∷ t) bytes (spaced v.raw) more (inr is) v.is_value);
    }

-- one character in front of a value
pub value_character : (quote x : ℕ) (rest more behind : List ℕ) → closes quote x ≡ false → is_control x ≡ false → x ≢ 38 → (quote ≡ 34) ⊎ (quote ≡ 39) → ((m : List ℕ) → x ≡ 13 → rest ≡ 10 ∷ m → ⊥) → Value quote rest more behind →
    Value quote (x ∷ rest) ((cond (is_white x) 32 x ∷ []) ++ more) behind
value_character quote x rest more behind c clean amp k apart v =
    record {
      raw = x ∷ v.raw;
      rest_is = ap (λ (t : List ℕ). x ∷ t) v.rest_is;
      inside = or_from (closes quote x) _ c v.inside;
      is_value = subst (λ (t : List ℕ). Denotes Piece t ((cond (is_white x) 32 x ∷ []) ++ more)) (sym (spaced-one x v.raw alone ∙ ap (λ (y : ℕ). y ∷ spaced v.raw) same))
          (with_piece (cond (is_white x) 32 x ∷ []) (cond (is_white x) 32 x ∷ []) (spaced v.raw) more (inl (cond (is_white x) 32 x, plain.0, plain.1, plain.2, refl, refl)) v.is_value);
    }
  where
    alone : (m : List ℕ) → x ≡ 13 → v.raw ≡ 10 ∷ m → ⊥
    alone m e f = apart (m ++ quote ∷ behind) e (v.rest_is ∙ ap (λ (t : List ℕ). t ++ quote ∷ behind) f)

    same : shown x ≡ cond (is_white x) 32 x
    same = elim (cases_Bool (is_white x)) [ inl w ↦ rw w (shown_white x w) | inr w ↦ rw w (shown_plain x w) ]

    plain : (cond (is_white x) 32 x ≢ 38) × (cond (is_white x) 32 x ≢ 60) × (is_control (cond (is_white x) 32 x) ≡ false)
    plain = elim (cases_Bool (is_white x)) [ inl w ↦ rw w (omega arith, omega arith, refl) | inr w ↦ grow w ]
      where
        grow : is_white x ≡ false → (cond (is_white x) 32 x ≢ 38) × (cond (is_white x) 32 x ≢ 60) × (is_control (cond (is_white x) 32 x) ≡ false)
        grow w = let same : cond (is_white x) 32 x ≡ x = rw w refl in rw same (amp, eqb-false x 60 (or_parts (eqb x quote) (eqb x 60) c).1, clean)

-- CR LF in front of a value is one line end
pub value_line_end : (quote : ℕ) (rest more behind : List ℕ) → (quote ≡ 34) ⊎ (quote ≡ 39) → starts_with nat_eq rest (codes "\n") ≡ true → Value quote rest more behind → Value quote (13 ∷ rest) more behind
value_line_end quote rest more behind k s v = go v.raw v.rest_is v.inside v.is_value
  where
    first : rest ≡ 10 ∷ drop 1 rest
    first = starts_front rest (codes "\n") s

    go : (raw : List ℕ) → rest ≡ raw ++ quote ∷ behind → list_any (closes quote) raw ≡ false → Denotes Piece (spaced raw) more → Value quote (13 ∷ rest) more behind
    go [] e i h = let f = first in absurd (no_quote k (cc))
      where
        no_quote : (quote ≡ 34) ⊎ (quote ≡ 39) → quote ≡ 10 → ⊥
        no_quote (inl p) f = absurd (omega arith)
        no_quote (inr p) f = absurd (omega arith)
    go (y ∷ raw) e i h =
        let f = first in let lf : y ≡ 10 = cc in
        record {
          raw = 13 ∷ y ∷ raw;
          rest_is = ap (λ (t : List ℕ). 13 ∷ t) e;
          inside = or_from (closes quote 13) _ (closes_13 k) i;
          is_value = subst (λ (t : List ℕ). Denotes Piece t more) (sym (both y raw lf)) h;
        }
      where
        both : (z : ℕ) (m : List ℕ) → z ≡ 10 → spaced (13 ∷ z ∷ m) ≡ spaced (z ∷ m)
        both z m f = rw (eq-eqb z 10 f) refl

        closes_13 : (quote ≡ 34) ⊎ (quote ≡ 39) → closes quote 13 ≡ false
        closes_13 (inl p) = or_from (eqb 13 quote) false (ne_eqb 13 quote (omega arith)) refl
        closes_13 (inr p) = or_from (eqb 13 quote) false (ne_eqb 13 quote (omega arith)) refl

value_to : (quote : ℕ) (rest a b c d : List ℕ) → gave a b ≡ gave c d → Value quote rest a b → Value quote rest c d
value_to quote rest a b c d e v = let p = same_pair a b c d e in
    subst (λ (t : List ℕ). Value quote rest c t) p.1 (subst (λ (t : List ℕ). Value quote rest t b) p.0 v)

value_at_amp : (quote x : ℕ) (rest bytes behind : List ℕ) → x ≡ 38 → Value quote (38 ∷ rest) bytes behind → Value quote (x ∷ rest) bytes behind
value_at_amp quote x rest bytes behind e v = subst (λ (y : ℕ). Value quote (y ∷ rest) bytes behind) (sym e) v

pub value_found : (quote : ℕ) → (quote ≡ 34) ⊎ (quote ≡ 39) → (fuel : ℕ) (rest bytes behind : List ℕ) → value_at quote fuel rest ≡ gave bytes behind → Value quote rest bytes behind
value_found quote k zero rest bytes behind e = absurd cc
value_found quote k (suc fuel) [] bytes behind e = absurd cc
value_found quote k (suc fuel) (x ∷ rest) bytes behind e =
    let tail = with_front (cond (is_white x) 32 x ∷ []) (value_at quote fuel rest) in
    let ending = cond (eqb x 13 && starts_with nat_eq rest (codes "\n")) (value_at quote fuel rest) tail in
    let reference = reference_at (x ∷ rest) rest >>= λ r. with_front r.0 (value_at quote fuel r.1) in
    elim (chosen (eqb x quote) (gave [] rest) (cond (eqb x 60 || is_control x) (unexpected (x ∷ rest)) (cond (eqb x 38) reference ending)) (gave bytes behind) e) [
      | inl p ↦
          let same = eqb-true x quote p.0 in
          let r = same_pair [] rest bytes behind p.1 in
          rw (← r.0, ← r.1) (record { raw = []; rest_is = ap (λ (y : ℕ). y ∷ rest) same; inside = refl; is_value = ([], tt, refl, refl) })
      | inr p ↦ elim (chosen (eqb x 60 || is_control x) (unexpected (x ∷ rest)) (cond (eqb x 38) reference ending) (gave bytes behind) p.1) [
        | inl q ↦ absurd (unexpected_gives (x ∷ rest) bytes behind q.1)
        | inr q ↦
            let stands = or_parts (eqb x 60) (is_control x) q.0 in
            let open_is : closes quote x ≡ false = or_from (eqb x quote) (eqb x 60) p.0 stands.0 in
            elim (chosen (eqb x 38) reference ending (gave bytes behind) q.1) [
              | inl r ↦
                  let a = bind_ok (reference_at (x ∷ rest) rest) (λ f. with_front f.0 (value_at quote fuel f.1)) (bytes, behind) r.1 in
                  let b = bind_ok (value_at quote fuel a.0.1) (λ f. Ok (a.0.0 ++ f.0, f.1)) (bytes, behind) a.2 in
                  let found = value_reference quote k rest a.0.0 a.0.1 b.0.0 b.0.1 (reference_found (x ∷ rest) rest a.0.0 a.0.1 a.1) (value_found quote k fuel a.0.1 b.0.0 b.0.1 b.1) in
                  value_at_amp quote x rest bytes behind (eqb-true x 38 r.0) (value_to quote (38 ∷ rest) (a.0.0 ++ b.0.0) b.0.1 bytes behind b.2 found)
              | inr r ↦ elim (chosen (eqb x 13 && starts_with nat_eq rest (codes "\n")) (value_at quote fuel rest) tail (gave bytes behind) r.1) [
                | inl s ↦
                    let b = and_parts (eqb x 13) (starts_with nat_eq rest (codes "\n")) s.0 in
                    let cr = eqb-true x 13 b.0 in
                    rw cr (value_line_end quote rest bytes behind k b.1 (value_found quote k fuel rest bytes behind s.1))
                | inr s ↦
                    let b = bind_ok (value_at quote fuel rest) (λ f. Ok ((cond (is_white x) 32 x ∷ []) ++ f.0, f.1)) (bytes, behind) s.1 in
                    let apart = no_line_end x rest s.0 in
                    value_to quote (x ∷ rest) ((cond (is_white x) 32 x ∷ []) ++ b.0.0) b.0.1 bytes behind b.2 (value_character quote x rest b.0.0 b.0.1 open_is stands.1 (eqb-false x 38 r.0) k apart (value_found quote k fuel rest b.0.0 b.0.1 b.1))
              ]
            ]
      ]
    ]
