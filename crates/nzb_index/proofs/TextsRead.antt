-- A text of the grammar is read: references, values and texts.
use Rattle.std.proofs.Common.{◌≡◌, ◌≢◌, ℕ, zero, suc, ◌≤◌, Bool, true, false, cond, eqb, ◌&&◌, List, [], ◌∷◌, ◌++◌, length, Result, Ok, Err, refl, sym, ap, ◌∙◌, append_assoc, arith, inl, inr, ◌⊎◌}
use Rattle.std.specs.Prelude.{codes, nat_eq, encode_utf8}
use Rattle.std.specs.List.{starts_with, list_all, list_any, prefix_len, flat_map, AllByRecursion}
use Rattle.std.specs.Char.{is_ascii_digit, is_ascii_hexdigit}
use Rattle.std.specs.Str.Parse.{digits_value}
use Rattle.std.proofs.lemmas.Bool.{eq-eqb, ne_eqb, cases_Bool, cases_eq, and_parts, or_parts, and_left, and_right}
use Rattle.std.proofs.lemmas.Bool.Decides.{nat_tests}
use Rattle.std.proofs.lemmas.List.{length-append, append-nil, drop-drop}
use Rattle.nzb_writer.specs.Markup.{is_white, is_control, is_character, IsReference, IsNamedReference, spaced}
use Rattle.nzb_index.specs.MarkupReading.{Stop, ValueRead, digits_at, reference_at, with_front, value_at, text_at}
use Rattle.nzb_index.proofs.TextsFound.{IsQuiet, is_loud, quiet_parts, digits_quiet, decimal_is_hex, quiet-append, shown, spaced-one, shown_plain, shown_white, closes, encoded, Piece}
use Rattle.nzb_index.proofs.ElementsFound.{TextPiece}
use Rattle.nzb_index.proofs.WordsRead.{then, prefix_all, take_front, drop_front, up_to_back}

abbrev pub gave : List ℕ → List ℕ → Result (List ℕ × List ℕ) Stop
gave bytes rest = Ok (bytes, rest)

-- ---- references

pub record ReadReference (text bytes : List ℕ) : Type 0 where
  pub name : List ℕ
  pub text_is : text ≡ 38 ∷ name
  pub quiet : IsQuiet name
  pub read : (from rest : List ℕ) → reference_at from (name ++ rest) ≡ gave bytes rest

digits_back : (is_digit : ℕ → Bool) (radix : ℕ) (from ds rest : List ℕ) → ds ≢ [] → list_all is_digit ds ≡ true → is_digit 59 ≡ false → is_character (digits_value radix ds) ≡ true →
    digits_at is_digit radix from (ds ++ 59 ∷ rest) ≡ gave (encode_utf8 (digits_value radix ds)) rest
digits_back is_digit radix from ds rest some all semi ch =
    rw n (rw (take_front ds (59 ∷ rest), drop_front ds (59 ∷ rest), ← (drop-drop 1 (length ds) (ds ++ 59 ∷ rest))) (rw (drop_front ds (59 ∷ rest), ch, more, not_none) refl))
  where
    n : prefix_len is_digit (ds ++ 59 ∷ rest) ≡ length ds
    n = prefix_all is_digit ds (59 ∷ rest) all ∙ (let none : prefix_len is_digit (59 ∷ rest) ≡ 0 = rw semi refl in omega (arith, none))

    more : eqb (length ds) (length (ds ++ 59 ∷ rest)) ≡ false
    more = ne_eqb (length ds) (length (ds ++ 59 ∷ rest)) (λ e. absurd (omega (arith, length-append ds (59 ∷ rest), e)))

    not_none : eqb (length ds) 0 ≡ false
    not_none = ne_eqb (length ds) 0 (go ds some)
      where
        go : (t : List ℕ) → t ≢ [] → length t ≡ 0 → ⊥
        go [] s e = s refl
        go (x ∷ t) s e = absurd (omega arith)

decimal_back : (from ds rest : List ℕ) → ds ≢ [] → list_all is_ascii_digit ds ≡ true → is_character (digits_value 10 ds) ≡ true →
    reference_at from ((35 ∷ (ds ++ 59 ∷ [])) ++ rest) ≡ gave (encode_utf8 (digits_value 10 ds)) rest
decimal_back from [] rest some all ch = absurd (some refl)
decimal_back from (d ∷ ds) rest some all ch =
    let x : eqb 120 d ≡ false = no_x d (and_parts (is_ascii_digit d) (list_all is_ascii_digit ds) all).0 in
    rw (x, append_assoc ds (59 ∷ []) rest) (digits_back is_ascii_digit 10 from (d ∷ ds) rest some all refl ch)
  where
    no_x : (y : ℕ) → is_ascii_digit y ≡ true → eqb 120 y ≡ false
    no_x y e = grind (arith, nat_tests)

hex_back : (from ds rest : List ℕ) → ds ≢ [] → list_all is_ascii_hexdigit ds ≡ true → is_character (digits_value 16 ds) ≡ true →
    reference_at from ((35 ∷ 120 ∷ (ds ++ 59 ∷ [])) ++ rest) ≡ gave (encode_utf8 (digits_value 16 ds)) rest
hex_back from ds rest some all ch = rw (append_assoc ds (59 ∷ []) rest) (digits_back is_ascii_hexdigit 16 from ds rest some all refl ch)

pub reference_back : (text bytes : List ℕ) → IsReference text bytes → ReadReference text bytes
reference_back text bytes (c, inl n, ch, is) = go n
  where
    one : (name : List ℕ) (k : ℕ) → text ≡ 38 ∷ name → c ≡ k → encode_utf8 k ≡ k ∷ [] → IsQuiet name → ((from rest : List ℕ) → reference_at from (name ++ rest) ≡ gave (k ∷ []) rest) → ReadReference text bytes
    one name k e f enc q r = record { name = name; text_is = e; quiet = q; read = λ from rest. r from rest ∙ ap (λ (b : List ℕ). gave b rest) (sym (is ∙ ap (λ (m : ℕ). encode_utf8 m) f ∙ enc)) }

    go : IsNamedReference text c → ReadReference text bytes
    go (inl (e, f)) = one (codes "amp;") 38 e f encoded.0 refl (λ from rest. refl)
    go (inr (inl (e, f))) = one (codes "lt;") 60 e f encoded.1 refl (λ from rest. refl)
    go (inr (inr (inl (e, f)))) = one (codes "gt;") 62 e f encoded.2 refl (λ from rest. refl)
    go (inr (inr (inr (inl (e, f))))) = one (codes "quot;") 34 e f encoded.3 refl (λ from rest. refl)
    go (inr (inr (inr (inr (e, f))))) = one (codes "apos;") 39 e f encoded.4 refl (λ from rest. refl)
reference_back text bytes (c, inr (inl (ds, e, some, all, v)), ch, is) = record {
  name = 35 ∷ (ds ++ 59 ∷ []);
  text_is = e;
  quiet = quiet-append ds (59 ∷ []) (digits_quiet ds (decimal_is_hex ds all)) refl;
  read = λ from rest. decimal_back from ds rest some all (rw (← v) ch) ∙ ap (λ (b : List ℕ). gave b rest) (sym (is ∙ ap (λ (m : ℕ). encode_utf8 m) v));
}
reference_back text bytes (c, inr (inr (ds, e, some, all, v)), ch, is) = record {
  name = 35 ∷ 120 ∷ (ds ++ 59 ∷ []);
  text_is = e;
  quiet = quiet-append ds (59 ∷ []) (digits_quiet ds all) refl;
  read = λ from rest. hex_back from ds rest some all (rw (← v) ch) ∙ ap (λ (b : List ℕ). gave b rest) (sym (is ∙ ap (λ (m : ℕ). encode_utf8 m) v));
}

-- ---- values

-- CR LF, which is one line end, or one character
data Front (x : ℕ) (more : List ℕ) : Type 0 where
  pair : (m : List ℕ) → x ≡ 13 → more ≡ 10 ∷ m → spaced (x ∷ more) ≡ spaced more → Front x more
  alone : ((m : List ℕ) → x ≡ 13 → more ≡ 10 ∷ m → ⊥) → spaced (x ∷ more) ≡ shown x ∷ spaced more → Front x more

front_of : (x : ℕ) (more : List ℕ) → Front x more
front_of x [] = alone (λ m e f. absurd cc) refl
front_of x (y ∷ m) = elim (cases_eq x 13) [
  | inr n ↦ alone (λ k e f. n e) (spaced-one x (y ∷ m) (λ k e f. n e))
  | inl e ↦ elim (cases_eq y 10) [
    | inr n ↦ alone (λ k e f. n (cc)) (spaced-one x (y ∷ m) (λ k e f. n (cc)))
    | inl f ↦ rw (e, f) (pair m refl refl refl)
  ]
]

shown_quiet : (z y : ℕ) → shown z ≡ y → is_white y ≡ false → z ≡ y
shown_quiet z y e q = elim (cases_Bool (is_white z)) [
  | inl w ↦ absurd (let t : is_white y ≡ true = rw (← e, shown_white z w) refl in absurd cc)
  | inr o ↦ sym (shown_plain z o) ∙ e
]

-- what stands for a text without white is that text
unspaced : (m t f : List ℕ) → spaced m ≡ t ++ f → IsQuiet t → (rest : List ℕ) × (m ≡ t ++ rest) × (spaced rest ≡ f)
unspaced m [] f e q = (m, refl, e)
unspaced [] (y ∷ t) f e q = absurd cc
unspaced (z ∷ m) (y ∷ t) f e q =
    let r = or_parts (is_loud y) (list_any is_loud t) q in
    let plain = (quiet_parts y r.0).white in
    elim (front_of z m) [
      | pair k a b s ↦ absurd (never y k (sym s ∙ e) b plain)
      | alone a s ↦
          let both : shown z ∷ spaced m ≡ y ∷ (t ++ f) = sym s ∙ e in
          let same : z ≡ y = shown_quiet z y (cc) plain in
          let more = unspaced m t f (cc) r.1 in
          (more.0, cc (same, more.1), more.2)
    ]
  where
    never : (y : ℕ) (k : List ℕ) → spaced m ≡ y ∷ (t ++ f) → m ≡ 10 ∷ k → is_white y ≡ false → ⊥
    never y k e b plain =
        let first : spaced (10 ∷ k) ≡ 32 ∷ spaced k = spaced-one 10 k (λ i g h. absurd (omega arith)) in
        let two : 32 ∷ spaced k ≡ y ∷ (t ++ f) = sym first ∙ (rw b at e) in
        let space : 32 ≡ y = cc in
        let white : is_white y ≡ true = rw (← space) refl in absurd cc

shown_as : (x : ℕ) → cond (is_white x) 32 x ≡ shown x
shown_as x = elim (cases_Bool (is_white x)) [ inl w ↦ rw w (sym (shown_white x w)) | inr o ↦ rw o (sym (shown_plain x o)) ]

-- what stands as it is in a value is no control byte
plain_control : (x b : ℕ) → shown x ≡ b → is_control b ≡ false → is_control x ≡ false
plain_control x b e clean = elim (cases_Bool (is_white x)) [
  | inl w ↦ white_control x w
  | inr o ↦ rw (← (shown_plain x o), e) clean
]
  where
    white_control : (y : ℕ) → is_white y ≡ true → is_control y ≡ false
    white_control y w = grind (arith, nat_tests)

amp_control : (x : ℕ) → x ≡ 38 → is_control x ≡ false
amp_control x e = rw e refl

piece_some : (t p : List ℕ) → Piece t p → t ≢ []
piece_some t p (inl (b, n, l, c, e, f)) empty = absurd cc
piece_some t p (inr r) empty = let e = (reference_back t p r).text_is in absurd cc

abbrev pub raw_of : List (List ℕ × List ℕ) → List ℕ
raw_of pieces = flat_map (λ p. p.0) pieces

abbrev pub bytes_of : List (List ℕ × List ℕ) → List ℕ
bytes_of pieces = flat_map (λ p. p.1) pieces

front_none : (r : ValueRead (List ℕ)) → with_front [] r ≡ r
front_none (Ok x) = refl
front_none (Err s) = refl

front_twice : (a b : List ℕ) (r : ValueRead (List ℕ)) → with_front a (with_front b r) ≡ with_front (a ++ b) r
front_twice a b (Ok x) = ap (λ (t : List ℕ). gave t x.1) (sym (append_assoc a b x.0))
front_twice a b (Err s) = refl

-- a value's front is read, whatever reads on behind it, where no line feed stands
pub value_to : (quote : ℕ) → (quote ≡ 34) ⊎ (quote ≡ 39) → (end : List ℕ) (r : ValueRead (List ℕ)) → starts_with nat_eq end (codes "\n") ≡ false → ((fuel : ℕ) → length end ≤ fuel → value_at quote fuel end ≡ r) → (fuel : ℕ) (raw : List ℕ) (pieces : List (List ℕ × List ℕ)) → AllByRecursion (λ p. Piece p.0 p.1) pieces → spaced raw ≡ raw_of pieces →
    list_any (closes quote) raw ≡ false → length (raw ++ end) ≤ fuel → value_at quote fuel (raw ++ end) ≡ with_front (bytes_of pieces) r
value_to quote k end r apart known fuel [] [] all e i l = known fuel l ∙ sym (front_none r)
value_to quote k end r apart known zero (x ∷ more) pieces all e i l = absurd (omega arith)
value_to quote k end r apart known fuel [] (p ∷ pieces) all e i l = absurd (piece_some p.0 p.1 all.0 (empty p.0 (raw_of pieces) e))
  where
    empty : (a b : List ℕ) → [] ≡ a ++ b → a ≡ []
    empty [] b e = refl
    empty (x ∷ a) b e = absurd cc
value_to quote k end r no_feed known (suc fuel) (x ∷ more) pieces all e i l =
    let open_is = or_parts (closes quote x) (list_any (closes quote) more) i in
    let parts = or_parts (eqb x quote) (eqb x 60) open_is.0 in
    elim (front_of x more) [
      | pair m a b s ↦ line_end m a b parts.0 (value_to quote k end r no_feed known fuel more pieces all (sym s ∙ e) open_is.1 (omega arith))
      | alone apart s ↦ one pieces all (sym s ∙ e) apart parts.0 parts.1 (λ m ps h g j n. value_to quote k end r no_feed known fuel m ps h g j n) open_is.1
    ]
  where
    line_end : (m : List ℕ) → x ≡ 13 → more ≡ 10 ∷ m → eqb x quote ≡ false → value_at quote fuel (more ++ end) ≡ with_front (bytes_of pieces) r → value_at quote (suc fuel) (x ∷ (more ++ end)) ≡ with_front (bytes_of pieces) r
    line_end m a b c h = go x more a b c h
      where
        go : (y : ℕ) (t : List ℕ) → y ≡ 13 → t ≡ 10 ∷ m → eqb y quote ≡ false → value_at quote fuel (t ++ end) ≡ with_front (bytes_of pieces) r → value_at quote (suc fuel) (y ∷ (t ++ end)) ≡ with_front (bytes_of pieces) r
        go y t a b c h = rw c (rw (a, b) (rw b at h))

    no_lf : ((m : List ℕ) → x ≡ 13 → more ≡ 10 ∷ m → ⊥) → (eqb x 13 && starts_with nat_eq (more ++ end) (codes "\n")) ≡ false
    no_lf apart = elim (cases_eq x 13) [
      | inr n ↦ and_left (eqb x 13) _ (ne_eqb x 13 n)
      | inl e ↦ and_right (eqb x 13) _ (go more (λ m f. apart m e f))
    ]
      where
        go : (t : List ℕ) → ((m : List ℕ) → t ≡ 10 ∷ m → ⊥) → starts_with nat_eq (t ++ end) (codes "\n") ≡ false
        go [] h = no_feed
        go (y ∷ t) h = and_left (eqb 10 y) _ (ne_eqb 10 y (λ f. h t (ap (λ (z : ℕ). z ∷ t) (sym f))))

    one : (ps : List (List ℕ × List ℕ)) → AllByRecursion (λ p. Piece p.0 p.1) ps → shown x ∷ spaced more ≡ raw_of ps → ((m : List ℕ) → x ≡ 13 → more ≡ 10 ∷ m → ⊥) → eqb x quote ≡ false → eqb x 60 ≡ false →
        ((m : List ℕ) (qs : List (List ℕ × List ℕ)) → AllByRecursion (λ p. Piece p.0 p.1) qs → spaced m ≡ raw_of qs → list_any (closes quote) m ≡ false → length (m ++ end) ≤ fuel → value_at quote fuel (m ++ end) ≡ with_front (bytes_of qs) r) →
        list_any (closes quote) more ≡ false → value_at quote (suc fuel) (x ∷ (more ++ end)) ≡ with_front (bytes_of ps) r
    one [] all e apart c d again i = absurd cc
    one ((t, p) ∷ ps) (inl (b, n, less, clean, is, gives), all) e apart c d again i =
        let both : shown x ∷ spaced more ≡ b ∷ raw_of ps = e ∙ ap (λ (u : List ℕ). u ++ raw_of ps) is in
        let same : shown x ≡ b = cc in
        let amp : eqb x 38 ≡ false = ne_eqb x 38 (λ f. n (sym same ∙ ap (λ (y : ℕ). shown y) f)) in
        let read = again more ps all (cc) i (omega arith) in
        rw (c, d, plain_control x b same clean) (rw (amp, no_lf apart, shown_as x, same, read, gives) (front_twice (b ∷ []) (bytes_of ps) r))
    one ((t, p) ∷ ps) (inr q, all) e apart c d again i =
        let ref = reference_back t p q in
        let both : shown x ∷ spaced more ≡ 38 ∷ (ref.name ++ raw_of ps) = e ∙ ap (λ (u : List ℕ). u ++ raw_of ps) ref.text_is in
        let amp : x ≡ 38 = shown_quiet x 38 (cc) refl in
        let more_is = unspaced more ref.name (raw_of ps) (cc) ref.quiet in
        let inside : list_any (closes quote) (ref.name ++ more_is.0) ≡ false = rw (← more_is.1) i in
        let shorter : length (more_is.0 ++ end) ≤ fuel = omega (arith, length-append more end, length-append more_is.0 end, ap length more_is.1, length-append ref.name more_is.0, l) in
        rw (c, d, amp_control x amp) (rw (amp, more_is.1, append_assoc ref.name more_is.0 end) (then _ (λ (v : List ℕ × List ℕ). with_front v.0 (value_at quote fuel v.1)) (p, more_is.0 ++ end) (with_front (p ++ bytes_of ps) r) (ref.read (38 ∷ (ref.name ++ (more_is.0 ++ end))) (more_is.0 ++ end))
        (rw (again more_is.0 ps all more_is.2 (any_rest ref.name more_is.0 inside) shorter) (front_twice p (bytes_of ps) r))))
      where
        any_rest : (a b : List ℕ) → list_any (closes quote) (a ++ b) ≡ false → list_any (closes quote) b ≡ false
        any_rest [] b h = h
        any_rest (y ∷ a) b h = any_rest a b (or_parts (closes quote y) _ h).1

pub value_back : (quote : ℕ) → (quote ≡ 34) ⊎ (quote ≡ 39) → (fuel : ℕ) (raw rest : List ℕ) (pieces : List (List ℕ × List ℕ)) → AllByRecursion (λ p. Piece p.0 p.1) pieces → spaced raw ≡ raw_of pieces →
    list_any (closes quote) raw ≡ false → length (raw ++ quote ∷ rest) ≤ fuel → value_at quote fuel (raw ++ quote ∷ rest) ≡ gave (bytes_of pieces) rest
value_back quote k fuel raw rest pieces all e i l =
    value_to quote k (quote ∷ rest) (gave [] rest) (no_feed k) over fuel raw pieces all e i l ∙ ap (λ (b : List ℕ). gave b rest) (append-nil (bytes_of pieces))
  where
    no_feed : (quote ≡ 34) ⊎ (quote ≡ 39) → starts_with nat_eq (quote ∷ rest) (codes "\n") ≡ false
    no_feed (inl e) = rw e refl
    no_feed (inr e) = rw e refl

    over : (n : ℕ) → length (quote ∷ rest) ≤ n → value_at quote n (quote ∷ rest) ≡ gave [] rest
    over zero l = absurd (omega arith)
    over (suc n) l = rw (eq-eqb quote quote refl) refl

-- ---- texts

pub text_long : (t p : List ℕ) → TextPiece t p → 1 ≤ length t
text_long t p (inl (b, n, less, c, e, f)) = omega (arith, ap length e)
text_long t p (inr (inl r)) = omega (arith, ap length (reference_back t p r).text_is)
text_long t p (inr (inr ((front, e, ends), f))) = omega (arith, ap length e)

-- a text's front is read, whatever reads on behind it
pub text_to : (end : List ℕ) (r : ValueRead (List ℕ)) → ((fuel : ℕ) → length end ≤ fuel → text_at fuel end ≡ r) → (fuel : ℕ) (pieces : List (List ℕ × List ℕ)) → AllByRecursion (λ p. TextPiece p.0 p.1) pieces → length (raw_of pieces ++ end) ≤ fuel →
    text_at fuel (raw_of pieces ++ end) ≡ with_front (bytes_of pieces) r
text_to end r known fuel [] all l = known fuel l ∙ sym (front_none r)
text_to end r known zero ((t, p) ∷ pieces) all l = absurd (omega (arith, text_long t p all.0, length-append (t ++ raw_of pieces) end, length-append t (raw_of pieces)))
text_to end r known (suc fuel) ((t, p) ∷ pieces) all l =
    let long = text_long t p all.0 in
    go all.0 (text_to end r known fuel pieces all.1 (omega (arith, length-append (raw_of pieces) end, length-append (t ++ raw_of pieces) end, length-append t (raw_of pieces))))
  where
    go : TextPiece t p → text_at fuel (raw_of pieces ++ end) ≡ with_front (bytes_of pieces) r → text_at (suc fuel) ((t ++ raw_of pieces) ++ end) ≡ with_front (p ++ bytes_of pieces) r
    go (inl (b, n, less, clean, is, gives)) h = rw (is, gives) (rw (ne_eqb b 38 n, ne_eqb b 60 less) (rw clean (rw h (front_twice (b ∷ []) (bytes_of pieces) r))))
    go (inr (inl q)) h =
        let ref = reference_back t p q in
        rw (append_assoc t (raw_of pieces) end, ref.text_is) (then _ (λ (v : List ℕ × List ℕ). with_front v.0 (text_at fuel v.1)) (p, raw_of pieces ++ end) (with_front (p ++ bytes_of pieces) r) (ref.read (38 ∷ (ref.name ++ (raw_of pieces ++ end))) (raw_of pieces ++ end))
        (rw h (front_twice p (bytes_of pieces) r)))
    go (inr (inr ((front, e, ends), f))) h = rw (append_assoc t (raw_of pieces) end, e, f) (rw (up_to_back 45 (codes "->") front (raw_of pieces ++ end) refl ends) h)

pub text_back : (fuel : ℕ) (rest : List ℕ) (pieces : List (List ℕ × List ℕ)) → AllByRecursion (λ p. TextPiece p.0 p.1) pieces → length (raw_of pieces ++ (60 ∷ 47 ∷ rest)) ≤ fuel →
    text_at fuel (raw_of pieces ++ (60 ∷ 47 ∷ rest)) ≡ gave (bytes_of pieces) (60 ∷ 47 ∷ rest)
text_back fuel rest pieces all l = text_to (60 ∷ 47 ∷ rest) (gave [] (60 ∷ 47 ∷ rest)) over fuel pieces all l ∙ ap (λ (b : List ℕ). gave b (60 ∷ 47 ∷ rest)) (append-nil (bytes_of pieces))
  where
    over : (n : ℕ) → length (60 ∷ 47 ∷ rest) ≤ n → text_at n (60 ∷ 47 ∷ rest) ≡ gave [] (60 ∷ 47 ∷ rest)
    over zero l = absurd (omega arith)
    over (suc n) l = refl
