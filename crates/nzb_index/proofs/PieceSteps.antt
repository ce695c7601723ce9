-- Values and texts over a slice, a piece at a time.
use Rattle.std.proofs.Common.{◌≡◌, ◌≢◌, ℕ, zero, suc, ◌+◌, ◌-◌, ◌<◌, ◌≤◌, Bool, true, false, not, cond, eqb, ltb, ◌||◌, ◌&&◌, List, [], ◌∷◌, ◌++◌, length, get_or, take, drop, Result, Ok, Err, refl, sym, ap, subst, ◌∙◌, append_assoc, arith, inl, inr, ◌⊎◌}
use Rattle.std.specs.Prelude.{codes, nat_eq}
use Rattle.std.specs.List.{prefix_len, starts_with}
use Rattle.std.proofs.lemmas.Bool.{cases_Bool, eq-eqb, ne_eqb, and_parts, or_from, not-true, ltb-true, and_left, and_right}
use Rattle.std.proofs.lemmas.Bool.Decides.{nat_tests}
use Rattle.std.proofs.lemmas.List.{length-drop, drop-drop}
use Rattle.nzb_index.specs.declared.error.NzbError.{NzbError}
use Rattle.nzb_index.specs.declared.error.NzbError.TheVariants.{Refused}
use Rattle.nzb_index.specs.declared.error.NzbReason.TheVariants.{WrongTag}
use Rattle.nzb_index.specs.declared.pieces.Piece.{Piece}
use Rattle.nzb_index.specs.declared.pieces.Piece.TheVariants.{Goes, Ends}
use Rattle.nzb_writer.specs.Markup.{is_white, is_control}
use Rattle.nzb_index.specs.MarkupReading.{Stop, stop_at, unexpected, word, up_to, name_at, reference_at, with_front, value_at, text_at, ◌>>=◌}
use Rattle.nzb_index.specs.Readers.{Fails, unexpected_at, ReadsOn, Steps, FailsAt, ReadsPiece, stands_in_value, stands_in_text}
use Rattle.nzb_index.proofs.Places.{here, over, unexpected_fails}
use Rattle.nzb_index.proofs.Betweens.{fails_as, fails_then}

abbrev Reader : Type 0
Reader = ℕ → List ℕ → Result (List ℕ × List ℕ) Stop

pub front_nothing : (r : Result (List ℕ × List ℕ) Stop) → with_front [] r ≡ r
front_nothing (Ok x) = refl
front_nothing (Err s) = refl

pub front_twice : (a b : List ℕ) (r : Result (List ℕ × List ℕ) Stop) → with_front a (with_front b r) ≡ with_front (a ++ b) r
front_twice a b (Ok x) = rw (append_assoc a b x.0) refl
front_twice a b (Err s) = refl

front_fails : (text : List ℕ) (e : NzbError) (a : List ℕ) (r : Result (List ℕ × List ℕ) Stop) → Fails text e r → Fails text e (with_front a r)
front_fails text e a r h = fails_then text e r (λ x. Ok (a ++ x.0, x.1)) h

-- ---- from piece to piece

pub record StillReading (reader : ℕ → List ℕ → Result (List ℕ × List ℕ) Stop) (text : List ℕ) (at end : ℕ) (bytes : List ℕ) : Type 0 where
  pub behind : at ≤ end
  pub within : end ≤ length text
  pub steps : Steps reader text at end bytes

pub reading_starts : (reader : ℕ → List ℕ → Result (List ℕ × List ℕ) Stop) (text bytes : List ℕ) (at : ℕ) → at ≤ length text → bytes ≡ [] → StillReading reader text at at bytes
reading_starts reader text bytes at l e = record {
  behind = omega arith;
  within = l;
  steps = λ fuel fits. record { left = fuel; fits = fits; reads = rw e (sym (front_nothing (reader fuel (drop at text)))) };
}

pub reading_goes : (reader : ℕ → List ℕ → Result (List ℕ × List ℕ) Stop) (text bytes : List ℕ) (at i : ℕ) (new : List ℕ) (j : ℕ) (p : Piece) → StillReading reader text at i bytes → p ≡ Goes j → ReadsPiece reader text i bytes new (Ok p) → (i < j) × StillReading reader text at j new
reading_goes reader text bytes at i new j p s is h = go (subst (λ (x : Piece). ReadsPiece reader text i bytes new (Ok x)) is h)
  where
    go : ReadsPiece reader text i bytes new (Ok (Goes j)) → (i < j) × StillReading reader text at j new
    go (l, w, (more, e, steps)) = (
      l,
      record {
        behind = let b = s.behind in omega (arith, b, l);
        within = w;
        steps = λ fuel fits. next fuel more e steps (s.steps fuel fits);
      },
    )
      where
        next : (fuel : ℕ) (m : List ℕ) → new ≡ bytes ++ m → Steps reader text i j m → ReadsOn reader text at i bytes fuel → ReadsOn reader text at j new fuel
        next fuel m f st g = let n = st g.left g.fits in record {
          left = n.left;
          fits = n.fits;
          reads = g.reads ∙ ap (λ (r : Result (List ℕ × List ℕ) Stop). with_front bytes r) n.reads ∙ front_twice bytes m (reader n.left (drop j text)) ∙ ap (λ (t : List ℕ). with_front t (reader n.left (drop j text))) (sym f);
        }

pub reading_ends : (reader : ℕ → List ℕ → Result (List ℕ × List ℕ) Stop) (text bytes : List ℕ) (at i : ℕ) (new : List ℕ) (end : ℕ) (p : Piece) → StillReading reader text at i bytes → p ≡ Ends end → ReadsPiece reader text i bytes new (Ok p) →
    (at ≤ end) × (end ≤ length text) × (reader (length (drop at text)) (drop at text) ≡ Ok (new, drop end text))
reading_ends reader text bytes at i new end p s is h = go (subst (λ (x : Piece). ReadsPiece reader text i bytes new (Ok x)) is h)
  where
    go : ReadsPiece reader text i bytes new (Ok (Ends end)) → (at ≤ end) × (end ≤ length text) × (reader (length (drop at text)) (drop at text) ≡ Ok (new, drop end text))
    go (l, w, e, ends) =
        let g = s.steps (length (drop at text)) (omega arith) in
        let b = s.behind in
        (omega (arith, b, l), w, g.reads ∙ ap (λ (r : Result (List ℕ × List ℕ) Stop). with_front bytes r) (ends g.left g.fits) ∙ rw (append_nil bytes, e) refl)
      where
        append_nil : (t : List ℕ) → t ++ [] ≡ t
        append_nil [] = refl
        append_nil (x ∷ t) = ap (λ (u : List ℕ). x ∷ u) (append_nil t)

pub reading_fails : (reader : ℕ → List ℕ → Result (List ℕ × List ℕ) Stop) (text bytes : List ℕ) (at i : ℕ) (e : NzbError) → StillReading reader text at i bytes → FailsAt reader text i e → Fails text e (reader (length (drop at text)) (drop at text))
reading_fails reader text bytes at i e s h =
    let g = s.steps (length (drop at text)) (omega arith) in
    fails_as text e _ _ g.reads (front_fails text e bytes (reader g.left (drop i text)) (h g.left g.fits))

-- ---- a run of bytes that stand for themselves

Copies : (ℕ → List ℕ → Result (List ℕ × List ℕ) Stop) → (ℕ → Bool) → Type 0
Copies reader p = (x : ℕ) (rest : List ℕ) (fuel : ℕ) → p x ≡ true → reader (suc fuel) (x ∷ rest) ≡ with_front (x ∷ []) (reader fuel rest)

record Copied (reader : ℕ → List ℕ → Result (List ℕ × List ℕ) Stop) (p : ℕ → Bool) (t : List ℕ) (fuel : ℕ) : Type 0 where
  left : ℕ
  fits : length (drop (prefix_len p t) t) ≤ left
  reads : reader fuel t ≡ with_front (take (prefix_len p t) t) (reader left (drop (prefix_len p t) t))

run_copied : (reader : ℕ → List ℕ → Result (List ℕ × List ℕ) Stop) (p : ℕ → Bool) → Copies reader p → (t : List ℕ) (fuel : ℕ) → length t ≤ fuel → Copied reader p t fuel
unfolding Copies
run_copied reader p copies [] fuel l = record { left = fuel; fits = l; reads = sym (front_nothing (reader fuel [])) }
run_copied reader p copies (x ∷ t) zero l = absurd (omega arith)
run_copied reader p copies (x ∷ t) (suc fuel) l = elim (cases_Bool (p x)) [
  | inr no_more ↦ let none : prefix_len p (x ∷ t) ≡ 0 = rw no_more refl in record { left = suc fuel; fits = rw none l; reads = rw none (sym (front_nothing (reader (suc fuel) (x ∷ t)))) }
  | inl one_more ↦
      let n : prefix_len p (x ∷ t) ≡ suc (prefix_len p t) = rw one_more (omega arith) in
      let c = run_copied reader p copies t fuel (omega (arith, l)) in
      record {
        left = c.left;
        fits = rw n c.fits;
        reads = rw n (copies x t fuel one_more ∙ ap (λ (r : Result (List ℕ × List ℕ) Stop). with_front (x ∷ []) r) c.reads ∙ front_twice (x ∷ []) (take (prefix_len p t) t) (reader c.left (drop (prefix_len p t) t)));
      }
]

run_steps : (reader : ℕ → List ℕ → Result (List ℕ × List ℕ) Stop) (p : ℕ → Bool) → Copies reader p → (text : List ℕ) (at end : ℕ) → end ≡ at + prefix_len p (drop at text) → Steps reader text at end (take (end - at) (drop at text))
run_steps reader p copies text at end e = λ fuel fits.
    let c = run_copied reader p copies (drop at text) fuel fits in
    let n : end - at ≡ prefix_len p (drop at text) = omega (arith, e) in
    let rest : drop (prefix_len p (drop at text)) (drop at text) ≡ drop end text = drop-drop (prefix_len p (drop at text)) at text ∙ ap (λ (k : ℕ). drop k text) (sym e) in
    record { left = c.left; fits = rw (← rest) c.fits; reads = rw (n, ← rest) c.reads }

some_run : (p : ℕ → Bool) (text : List ℕ) (at end : ℕ) → at < length text → end ≡ at + prefix_len p (drop at text) → p (get_or text at 0) ≡ true → at < end
some_run p text at end l e h = let n : prefix_len p (drop at text) ≡ suc (prefix_len p (drop (at + 1) text)) = rw (here text at l) (counted (get_or text at 0) (drop (at + 1) text) h) in omega (arith, e, n)
  where
    counted : (y : ℕ) (t : List ℕ) → p y ≡ true → prefix_len p (y ∷ t) ≡ suc (prefix_len p t)
    counted y t g = rw g (omega arith)

-- ---- a piece of a value

-- with a byte there, some fuel is there
with_fuel : (P : ℕ → Type 0) (text : List ℕ) (at fuel : ℕ) → at < length text → length (drop at text) ≤ fuel → ((left : ℕ) → length (drop (at + 1) text) ≤ left → P (suc left)) → P fuel
with_fuel P text at zero l fits h = absurd (omega (arith, length-drop at text, l, fits))
with_fuel P text at (suc left) l fits h = h left (omega (arith, length-drop at text, length-drop (at + 1) text, fits))

pub value_over : (quote : ℕ) (text : List ℕ) (i : ℕ) → i ≤ length text → length text ≤ i → FailsAt (value_at quote) text i (unexpected_at text i)
value_over quote text i l m = λ fuel fits. unexpected_fails text i (value_at quote fuel (drop i text)) l (rw (over text i m) (nothing fuel))
  where
    nothing : (fuel : ℕ) → value_at quote fuel [] ≡ unexpected []
    nothing zero = refl
    nothing (suc fuel) = refl

pub value_ends : (quote : ℕ) (text bytes : List ℕ) (at : ℕ) → at < length text → get_or text at 0 ≡ quote → ReadsPiece (value_at quote) text at bytes bytes (Ok (Ends (at + 1)))
value_ends quote text bytes at l e = (omega arith, omega (arith, l), refl, λ fuel fits. with_fuel (λ f. value_at quote f (drop at text) ≡ Ok ([], drop (at + 1) text)) text at fuel l fits (λ left fits. rw (here text at l) (rw (eq-eqb (get_or text at 0) quote e) refl)))

pub value_wrong : (quote : ℕ) (text : List ℕ) (at : ℕ) → at < length text → get_or text at 0 ≢ quote → (get_or text at 0 ≡ 60) ⊎ (is_control (get_or text at 0) ≡ true) → FailsAt (value_at quote) text at (unexpected_at text at)
value_wrong quote text at l n why = λ fuel fits. unexpected_fails text at (value_at quote fuel (drop at text)) (omega (arith, l)) (with_fuel (λ f. value_at quote f (drop at text) ≡ unexpected (drop at text)) text at fuel l fits (λ left fits. rw (here text at l) (rw (ne_eqb (get_or text at 0) quote n, judged why) refl)))
  where
    judged : (get_or text at 0 ≡ 60) ⊎ (is_control (get_or text at 0) ≡ true) → (eqb (get_or text at 0) 60 || is_control (get_or text at 0)) ≡ true
    judged (inl e) = rw e refl
    judged (inr k) = elim (cases_Bool (eqb (get_or text at 0) 60)) [ inl t ↦ rw t refl | inr f ↦ rw (f, k) refl ]

-- a byte that neither ends a value nor is wrong there
pub record Open (quote : ℕ) (text : List ℕ) (at : ℕ) : Type 0 where
  pub within : at < length text
  pub no_quote : get_or text at 0 ≢ quote
  pub no_tag : get_or text at 0 ≢ 60
  pub no_control : is_control (get_or text at 0) ≡ false

value_more : (quote : ℕ) (text : List ℕ) (at left : ℕ) → Open quote text at → value_at quote (suc left) (drop at text) ≡
    cond (eqb (get_or text at 0) 38) (reference_at (drop at text) (drop (at + 1) text) >>= λ r. with_front r.0 (value_at quote left r.1))
    (cond (eqb (get_or text at 0) 13 && starts_with nat_eq (drop (at + 1) text) (codes "\n")) (value_at quote left (drop (at + 1) text)) (with_front (cond (is_white (get_or text at 0)) 32 (get_or text at 0) ∷ []) (value_at quote left (drop (at + 1) text))))
value_more quote text at left o = rw (here text at o.within) (rw (ne_eqb (get_or text at 0) quote o.no_quote, or_from (eqb (get_or text at 0) 60) (is_control (get_or text at 0)) (ne_eqb (get_or text at 0) 60 o.no_tag) o.no_control) refl)

pub value_reference : (quote : ℕ) (text bytes new more : List ℕ) (at end : ℕ) → Open quote text at → get_or text at 0 ≡ 38 → at < end → end ≤ length text → new ≡ bytes ++ more → reference_at (drop at text) (drop (at + 1) text) ≡ Ok (more, drop end text) →
    ReadsPiece (value_at quote) text at bytes new (Ok (Goes end))
value_reference quote text bytes new more at end o amp l w e r = (
  l,
  w,
  (
    more,
    e,
    λ fuel fits. with_fuel (λ f. ReadsOn (value_at quote) text at end more f) text at fuel o.within fits (λ left fits. record {
      left = left;
      fits = omega (arith, fits, length-drop end text, length-drop (at + 1) text, l);
      reads = value_more quote text at left o ∙ rw (eq-eqb (get_or text at 0) 38 amp) (rw r refl);
    }),
  ),
)

pub value_reference_fails : (quote : ℕ) (text : List ℕ) (at : ℕ) (e : NzbError) → Open quote text at → get_or text at 0 ≡ 38 → Fails text e (reference_at (drop at text) (drop (at + 1) text)) → FailsAt (value_at quote) text at e
value_reference_fails quote text at e o amp h = λ fuel fits. with_fuel (λ f. Fails text e (value_at quote f (drop at text))) text at fuel o.within fits (λ left fits.
    fails_as text e _ _ (value_more quote text at left o ∙ rw (eq-eqb (get_or text at 0) 38 amp) refl) (fails_then text e (reference_at (drop at text) (drop (at + 1) text)) (λ r. with_front r.0 (value_at quote left r.1)) h))

one_further : (text : List ℕ) (at left : ℕ) → length (drop (at + 1) text) ≤ left → length (drop (at + 1) text) ≤ left
one_further text at left fits = fits

pub value_return : (quote : ℕ) (text bytes : List ℕ) (at : ℕ) → Open quote text at → get_or text at 0 ≡ 13 → starts_with nat_eq (drop (at + 1) text) (codes "\n") ≡ true → ReadsPiece (value_at quote) text at bytes bytes (Ok (Goes (at + 1)))
value_return quote text bytes at o cr lf = (
  omega arith,
  (let w = o.within in omega (arith, w)),
  (
    [],
    sym (append_nil bytes),
    λ fuel fits. with_fuel (λ f. ReadsOn (value_at quote) text at (at + 1) [] f) text at fuel o.within fits (λ left fits. record {
      left = left;
      fits = fits;
      reads = value_more quote text at left o ∙ rw cr (rw lf (sym (front_nothing (value_at quote left (drop (at + 1) text)))));
    }),
  ),
)
  where
    append_nil : (t : List ℕ) → t ++ [] ≡ t
    append_nil [] = refl
    append_nil (x ∷ t) = ap (λ (u : List ℕ). x ∷ u) (append_nil t)

pub value_white : (quote : ℕ) (text bytes new : List ℕ) (at : ℕ) → Open quote text at → get_or text at 0 ≢ 38 → (get_or text at 0 ≢ 13) ⊎ (starts_with nat_eq (drop (at + 1) text) (codes "\n") ≡ false) → is_white (get_or text at 0) ≡ true → new ≡ bytes ++ 32 ∷ [] → ReadsPiece (value_at quote) text at bytes new (Ok (Goes (at + 1)))
value_white quote text bytes new at o amp no_pair white e = (
  omega arith,
  (let w = o.within in omega (arith, w)),
  (
    32 ∷ [],
    e,
    λ fuel fits. with_fuel (λ f. ReadsOn (value_at quote) text at (at + 1) (32 ∷ []) f) text at fuel o.within fits (λ left fits. record {
      left = left;
      fits = fits;
      reads = value_more quote text at left o ∙ rw (ne_eqb (get_or text at 0) 38 amp, no_line_end no_pair, white) refl;
    }),
  ),
)
  where
    no_line_end : (get_or text at 0 ≢ 13) ⊎ (starts_with nat_eq (drop (at + 1) text) (codes "\n") ≡ false) → (eqb (get_or text at 0) 13 && starts_with nat_eq (drop (at + 1) text) (codes "\n")) ≡ false
    no_line_end (inl n) = and_left _ _ (ne_eqb (get_or text at 0) 13 n)
    no_line_end (inr f) = and_right _ _ f

value_copies : (quote : ℕ) → Copies (value_at quote) (stands_in_value quote)
unfolding Copies
value_copies quote x rest fuel h =
    let p = and_parts (ltb 32 x && not (eqb x quote) && not (eqb x 60)) (not (eqb x 38)) h in
    let q = and_parts (ltb 32 x && not (eqb x quote)) (not (eqb x 60)) p.0 in
    let r = and_parts (ltb 32 x) (not (eqb x quote)) q.0 in
    let above = ltb-true 32 x r.0 in
    rw (not-true (eqb x quote) r.1, or_from (eqb x 60) (is_control x) (not-true (eqb x 60) q.1) (no_control x above), not-true (eqb x 38) p.1) (rw (no_white x above) (rw (no_return x above) refl))
  where
    no_control : (y : ℕ) → 32 < y → is_control y ≡ false
    no_control y l = grind (arith, nat_tests)

    no_return : (y : ℕ) → 32 < y → eqb y 13 ≡ false
    no_return y l = ne_eqb y 13 (omega (arith, l))

    no_white : (y : ℕ) → 32 < y → is_white y ≡ false
    no_white y l = grind (arith, nat_tests)

stands : (quote : ℕ) (text : List ℕ) (at : ℕ) → Open quote text at → get_or text at 0 ≢ 38 → is_white (get_or text at 0) ≡ false → stands_in_value quote (get_or text at 0) ≡ true
stands quote text at o amp white = rw (above (get_or text at 0) o.no_control white) (rw (ne_eqb (get_or text at 0) quote o.no_quote, ne_eqb (get_or text at 0) 60 o.no_tag, ne_eqb (get_or text at 0) 38 amp) refl)
  where
    above : (y : ℕ) → is_control y ≡ false → is_white y ≡ false → ltb 32 y ≡ true
    above y c w = grind (arith, nat_tests)

pub value_run_goes : (quote : ℕ) (text bytes new : List ℕ) (at end : ℕ) → Open quote text at → get_or text at 0 ≢ 38 → is_white (get_or text at 0) ≡ false → end ≡ at + prefix_len (stands_in_value quote) (drop at text) → end ≤ length text → new ≡ bytes ++ take (end - at) (drop at text) →
    ReadsPiece (value_at quote) text at bytes new (Ok (Goes end))
value_run_goes quote text bytes new at end o amp white e w f = (some_run (stands_in_value quote) text at end o.within e (stands quote text at o amp white), w, (take (end - at) (drop at text), f, run_steps (value_at quote) (stands_in_value quote) (value_copies quote) text at end e))

-- ---- a piece of a text

pub text_over : (text : List ℕ) (i : ℕ) → i ≤ length text → length text ≤ i → FailsAt text_at text i (unexpected_at text i)
text_over text i l m = λ fuel fits. unexpected_fails text i (text_at fuel (drop i text)) l (rw (over text i m) (nothing fuel))
  where
    nothing : (fuel : ℕ) → text_at fuel [] ≡ unexpected []
    nothing zero = refl
    nothing (suc fuel) = refl

pub text_reference : (text bytes new more : List ℕ) (at end : ℕ) → at < length text → get_or text at 0 ≡ 38 → at < end → end ≤ length text → new ≡ bytes ++ more → reference_at (drop at text) (drop (at + 1) text) ≡ Ok (more, drop end text) → ReadsPiece text_at text at bytes new (Ok (Goes end))
text_reference text bytes new more at end within amp l w e r = (
  l,
  w,
  (
    more,
    e,
    λ fuel fits. with_fuel (λ f. ReadsOn text_at text at end more f) text at fuel within fits (λ left fits. record {
      left = left;
      fits = omega (arith, fits, length-drop end text, length-drop (at + 1) text, l);
      reads = text_amp left ∙ rw r refl;
    }),
  ),
)
  where
    text_amp : (left : ℕ) → text_at (suc left) (drop at text) ≡ (reference_at (drop at text) (drop (at + 1) text) >>= λ r. with_front r.0 (text_at left r.1))
    text_amp left = rw (here text at within) (rw (eq-eqb (get_or text at 0) 38 amp) refl)

pub text_reference_fails : (text : List ℕ) (at : ℕ) (e : NzbError) → at < length text → get_or text at 0 ≡ 38 → Fails text e (reference_at (drop at text) (drop (at + 1) text)) → FailsAt text_at text at e
text_reference_fails text at e within amp h = λ fuel fits. with_fuel (λ f. Fails text e (text_at f (drop at text))) text at fuel within fits (λ left fits.
    fails_as text e _ _ (text_amp left) (fails_then text e (reference_at (drop at text) (drop (at + 1) text)) (λ r. with_front r.0 (text_at left r.1)) h))
  where
    text_amp : (left : ℕ) → text_at (suc left) (drop at text) ≡ (reference_at (drop at text) (drop (at + 1) text) >>= λ r. with_front r.0 (text_at left r.1))
    text_amp left = rw (here text at within) (rw (eq-eqb (get_or text at 0) 38 amp) refl)

pub text_control : (text : List ℕ) (at : ℕ) → at < length text → get_or text at 0 ≢ 38 → get_or text at 0 ≢ 60 → is_control (get_or text at 0) ≡ true → FailsAt text_at text at (unexpected_at text at)
text_control text at l amp less k = λ fuel fits. unexpected_fails text at (text_at fuel (drop at text)) (omega (arith, l)) (with_fuel (λ f. text_at f (drop at text) ≡ unexpected (drop at text)) text at fuel l fits (λ left fits.
    rw (here text at l) (rw (ne_eqb (get_or text at 0) 38 amp, ne_eqb (get_or text at 0) 60 less) (rw k refl))))

text_copies : Copies text_at stands_in_text
unfolding Copies
text_copies x rest fuel h =
    let p = and_parts (not (eqb x 38) && not (eqb x 60)) (not (is_control x)) h in
    let q = and_parts (not (eqb x 38)) (not (eqb x 60)) p.0 in
    rw (not-true (eqb x 38) q.0, not-true (eqb x 60) q.1) (rw (not-true (is_control x) p.1) refl)

pub text_run_goes : (text bytes new : List ℕ) (at end : ℕ) → at < length text → get_or text at 0 ≢ 38 → get_or text at 0 ≢ 60 → is_control (get_or text at 0) ≡ false → end ≡ at + prefix_len stands_in_text (drop at text) → end ≤ length text → new ≡ bytes ++ take (end - at) (drop at text) →
    ReadsPiece text_at text at bytes new (Ok (Goes end))
text_run_goes text bytes new at end l amp less k e w f = (some_run stands_in_text text at end l e (rw (ne_eqb (get_or text at 0) 38 amp, ne_eqb (get_or text at 0) 60 less) (rw k refl)), w, (take (end - at) (drop at text), f, run_steps text_at stands_in_text text_copies text at end e))

-- a piece that appends nothing
pub piece_on : (reader : ℕ → List ℕ → Result (List ℕ × List ℕ) Stop) (text bytes : List ℕ) (at : ℕ) (r : Result Piece NzbError) → ReadsPiece reader text at [] [] r → ReadsPiece reader text at bytes bytes r
piece_on reader text bytes at (Ok (Goes end)) (l, w, (more, e, steps)) = (l, w, (more, more_nothing more e, steps))
  where
    more_nothing : (m : List ℕ) → [] ≡ [] ++ m → bytes ≡ bytes ++ m
    more_nothing m e = rw (← e) (sym (append_nil bytes))
      where
        append_nil : (t : List ℕ) → t ++ [] ≡ t
        append_nil [] = refl
        append_nil (x ∷ t) = ap (λ (u : List ℕ). x ∷ u) (append_nil t)
piece_on reader text bytes at (Ok (Ends end)) (l, w, e, ends) = (l, w, refl, ends)
piece_on reader text bytes at (Err d) h = h

-- ---- markup in a text

-- behind a `<`
tag_more : (text : List ℕ) (at left : ℕ) → at < length text → get_or text at 0 ≡ 60 → text_at (suc left) (drop at text) ≡
    cond (starts_with nat_eq (drop (at + 1) text) (codes "/")) (Ok ([], drop at text))
    (cond (starts_with nat_eq (drop (at + 1) text) (codes "!")) (word (codes "!--") (drop (at + 1) text) >>= λ inside. up_to (codes "-->") inside >>= λ behind. text_at left behind) (name_at (drop (at + 1) text) >>= λ n. stop_at (drop at text) WrongTag))
tag_more text at left l less = rw (here text at l) (rw less refl)

pub end_tag_ends : (text : List ℕ) (at : ℕ) → at < length text → get_or text at 0 ≡ 60 → starts_with nat_eq (drop (at + 1) text) (codes "/") ≡ true → ReadsPiece text_at text at [] [] (Ok (Ends at))
end_tag_ends text at l less s = (omega arith, omega (arith, l), refl, λ fuel fits. with_fuel (λ f. text_at f (drop at text) ≡ Ok ([], drop at text)) text at fuel l fits (λ left fits. tag_more text at left l less ∙ rw s refl))

-- a comment, or a declaration that is wrong
record Comment (text : List ℕ) (at : ℕ) : Type 0 where
  within : at < length text
  less : get_or text at 0 ≡ 60
  no_end : starts_with nat_eq (drop (at + 1) text) (codes "/") ≡ false
  opens : starts_with nat_eq (drop (at + 1) text) (codes "!") ≡ true

comment_more : (text : List ℕ) (at left : ℕ) → Comment text at → text_at (suc left) (drop at text) ≡ (word (codes "!--") (drop (at + 1) text) >>= λ inside. up_to (codes "-->") inside >>= λ behind. text_at left behind)
comment_more text at left o = tag_more text at left o.within o.less ∙ rw (o.no_end, o.opens) refl

pub comment_goes : (text : List ℕ) (at inside end : ℕ) → at < length text → get_or text at 0 ≡ 60 → starts_with nat_eq (drop (at + 1) text) (codes "/") ≡ false → starts_with nat_eq (drop (at + 1) text) (codes "!") ≡ true →
    at + 1 ≤ inside → inside ≤ end → end ≤ length text → word (codes "!--") (drop (at + 1) text) ≡ Ok (drop inside text) → up_to (codes "-->") (drop inside text) ≡ Ok (drop end text) → ReadsPiece text_at text at [] [] (Ok (Goes end))
comment_goes text at inside end l less n s a b w e f = (
  omega (arith, a, b),
  w,
  (
    [],
    refl,
    λ fuel fits. with_fuel (λ k. ReadsOn text_at text at end [] k) text at fuel l fits (λ left fits. record {
      left = left;
      fits = omega (arith, fits, length-drop end text, length-drop (at + 1) text, a, b);
      reads = comment_more text at left (record { within = l; less = less; no_end = n; opens = s }) ∙ rw e (rw f (sym (front_nothing (text_at left (drop end text)))));
    }),
  ),
)

pub comment_word_fails : (text : List ℕ) (at : ℕ) (e : NzbError) → at < length text → get_or text at 0 ≡ 60 → starts_with nat_eq (drop (at + 1) text) (codes "/") ≡ false → starts_with nat_eq (drop (at + 1) text) (codes "!") ≡ true →
    Fails text e (word (codes "!--") (drop (at + 1) text)) → FailsAt text_at text at e
comment_word_fails text at e l less n s h = λ fuel fits. with_fuel (λ f. Fails text e (text_at f (drop at text))) text at fuel l fits (λ left fits.
    fails_as text e _ _ (comment_more text at left (record { within = l; less = less; no_end = n; opens = s })) (fails_then text e (word (codes "!--") (drop (at + 1) text)) (λ inside. up_to (codes "-->") inside >>= λ behind. text_at left behind) h))

pub comment_inside_fails : (text : List ℕ) (at inside : ℕ) (e : NzbError) → at < length text → get_or text at 0 ≡ 60 → starts_with nat_eq (drop (at + 1) text) (codes "/") ≡ false → starts_with nat_eq (drop (at + 1) text) (codes "!") ≡ true →
    word (codes "!--") (drop (at + 1) text) ≡ Ok (drop inside text) → Fails text e (up_to (codes "-->") (drop inside text)) → FailsAt text_at text at e
comment_inside_fails text at inside e l less n s w h = λ fuel fits. with_fuel (λ f. Fails text e (text_at f (drop at text))) text at fuel l fits (λ left fits.
    fails_as text e _ _ (comment_more text at left (record { within = l; less = less; no_end = n; opens = s }) ∙ rw w refl) (fails_then text e (up_to (codes "-->") (drop inside text)) (λ behind. text_at left behind) h))

name_more : (text : List ℕ) (at left : ℕ) → at < length text → get_or text at 0 ≡ 60 → starts_with nat_eq (drop (at + 1) text) (codes "/") ≡ false → starts_with nat_eq (drop (at + 1) text) (codes "!") ≡ false →
    text_at (suc left) (drop at text) ≡ (name_at (drop (at + 1) text) >>= λ n. stop_at (drop at text) WrongTag)
name_more text at left l less n s = tag_more text at left l less ∙ rw (n, s) refl

pub name_fails : (text : List ℕ) (at : ℕ) (e : NzbError) → at < length text → get_or text at 0 ≡ 60 → starts_with nat_eq (drop (at + 1) text) (codes "/") ≡ false → starts_with nat_eq (drop (at + 1) text) (codes "!") ≡ false →
    Fails text e (name_at (drop (at + 1) text)) → FailsAt text_at text at e
name_fails text at e l less n s h = λ fuel fits. with_fuel (λ f. Fails text e (text_at f (drop at text))) text at fuel l fits (λ left fits.
    fails_as text e _ _ (name_more text at left l less n s) (fails_then text e (name_at (drop (at + 1) text)) (λ n. stop_at (drop at text) WrongTag) h))

pub wrong_tag : (text : List ℕ) (at : ℕ) (n : List ℕ × List ℕ) → at < length text → get_or text at 0 ≡ 60 → starts_with nat_eq (drop (at + 1) text) (codes "/") ≡ false → starts_with nat_eq (drop (at + 1) text) (codes "!") ≡ false →
    name_at (drop (at + 1) text) ≡ Ok n → FailsAt text_at text at (Refused at WrongTag)
wrong_tag text at n l less e s h = λ fuel fits. with_fuel (λ f. Fails text (Refused at WrongTag) (text_at f (drop at text))) text at fuel l fits (λ left fits. (omega (arith, l), name_more text at left l less e s ∙ rw h (rw (length-drop at text) refl)))
