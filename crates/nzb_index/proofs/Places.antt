-- One byte of a slice further, as the readers on lists go.
use Rattle.std.proofs.Common.{◌≡◌, ℕ, ◌+◌, ◌-◌, ◌<◌, ◌≤◌, true, false, eqb, List, [], ◌∷◌, length, get_or, take, drop, Result, Ok, Err, refl, sym, ap, ◌∙◌, arith, inl, inr, ◌⊎◌, add-one, drop-cons}
use Rattle.std.specs.Prelude.{nat_eq}
use Rattle.std.specs.List.{prefix_len, starts_with}
use Rattle.std.proofs.lemmas.Bool.{cases_Bool, eq-eqb, eqb-true, eqb-false, ne_eqb}
use Rattle.std.proofs.lemmas.List.{length-append, length-drop, nil_from_length, drop-drop}
use Rattle.nzb_index.specs.declared.error.NzbReason.TheVariants.{Ended, Unexpected}
use Rattle.nzb_writer.specs.Markup.{is_control, is_name_byte}
use Rattle.nzb_index.specs.MarkupReading.{Stop, refused, word, up_to, name_at, unexpected}
use Rattle.nzb_index.specs.Readers.{Fails, unexpected_at}
use Rattle.nzb_index.proofs.Words.{starts_front}

pub here : (text : List ℕ) (i : ℕ) → i < length text → drop i text ≡ get_or text i 0 ∷ drop (i + 1) text
here text i h = rw add-one (drop-cons text i 0 h)

pub over : (text : List ℕ) (i : ℕ) → length text ≤ i → drop i text ≡ []
over text i e = nil_from_length (drop i text) (omega (arith, length-drop i text, e))

-- ---- refusals

pub unexpected_over : {A : Type 0} (text : List ℕ) (i : ℕ) → i ≡ length text → unexpected {A = A} (drop i text) ≡ Err (refused (length text - i) Ended)
unexpected_over {A} text i e = let none : length text - i ≡ 0 = omega (arith, e) in rw (over text i (omega (arith, e)), none) refl

pub unexpected_here : {A : Type 0} (text : List ℕ) (i : ℕ) → i < length text → unexpected {A = A} (drop i text) ≡ Err (refused (length text - i) Unexpected)
unexpected_here {A} text i h = shown (drop i text) (get_or text i 0) (drop (i + 1) text) (here text i h) (length-drop i text)
  where
    shown : (t : List ℕ) (x : ℕ) (more : List ℕ) → t ≡ x ∷ more → length t ≡ length text - i → unexpected {A = A} t ≡ Err (refused (length text - i) Unexpected)
    shown t x more e f = rw (← f) (rw e refl)

-- the refusal at a place is that of the text from there on
pub unexpected_fails : {A : Type 0} (text : List ℕ) (i : ℕ) (read : Result A Stop) → i ≤ length text → read ≡ unexpected (drop i text) → Fails text (unexpected_at text i) read
unexpected_fails {A} text i read l e = elim (cases_Bool (eqb i (length text))) [
  | inl t ↦ let end = eqb-true i (length text) t in rw t (l, e ∙ unexpected_over text i end)
  | inr f ↦ let apart = eqb-false i (length text) f in rw f (l, e ∙ unexpected_here text i (omega (arith, l, apart)))
]

-- ---- words

-- a word that goes on otherwise, or behind the text's end
pub word_stops : (text w : List ℕ) (i k : ℕ) → k < length w → (i ≡ length text) ⊎ ((i < length text) × (get_or text i 0 ≡ get_or w k 0 → ⊥)) → i ≤ length text → word (drop k w) (drop i text) ≡ unexpected (drop i text)
word_stops text w i k h (inl e) l = rw (here w k h) (rw (over text i (omega (arith, e))) refl)
word_stops text w i k h (inr (m, n)) l = rw (here w k h) (rw (here text i m) (rw (ne_eqb (get_or w k 0) (get_or text i 0) (λ e. n (sym e))) refl))

-- ---- up to a word

pub up_to_here : (text w : List ℕ) (i : ℕ) → i < length text → is_control (get_or text i 0) ≡ false → starts_with nat_eq (drop i text) w ≡ true → (i + length w ≤ length text) × (up_to w (drop i text) ≡ Ok (drop (i + length w) text))
up_to_here text w i h n s =
    let front = starts_front (drop i text) w s in
    let long : i + length w ≤ length text = omega (arith, ap length front, length-append w (drop (length w) (drop i text)), length-drop i text, h) in
    (long, rw (here text i h) (rw n (rw (rw (here text i h) at s) (rw (← (here text i h), drop-drop (length w) i text) refl))))

pub up_to_on : (text w : List ℕ) (i : ℕ) → i < length text → is_control (get_or text i 0) ≡ false → starts_with nat_eq (drop i text) w ≡ false → up_to w (drop i text) ≡ up_to w (drop (i + 1) text)
up_to_on text w i h n s = rw (here text i h) (rw n (rw (rw (here text i h) at s) refl))

pub up_to_control : (text w : List ℕ) (i : ℕ) → i < length text → is_control (get_or text i 0) ≡ true → up_to w (drop i text) ≡ unexpected (drop i text)
up_to_control text w i h n = rw (here text i h) (rw n refl)

pub up_to_over : (text w : List ℕ) (i : ℕ) → length text ≤ i → up_to w (drop i text) ≡ unexpected (drop i text)
up_to_over text w i h = rw (over text i h) refl

-- ---- names

pub name_over : (text : List ℕ) (at end : ℕ) → at ≤ end → end ≡ length text → prefix_len is_name_byte (drop at text) ≡ end - at + prefix_len is_name_byte (drop end text) → name_at (drop at text) ≡ unexpected (drop end text)
name_over text at end l e p =
    let none = over text end (omega (arith, e)) in
    let whole : prefix_len is_name_byte (drop at text) ≡ length (drop at text) = p ∙ rw none (omega (arith, length-drop at text, e)) in
    rw none (rw (eq-eqb (prefix_len is_name_byte (drop at text)) (length (drop at text)) whole) refl)

pub name_none : (text : List ℕ) (at : ℕ) → at < length text → is_name_byte (get_or text at 0) ≡ false → name_at (drop at text) ≡ unexpected (drop at text)
name_none text at h n =
    let stops : prefix_len is_name_byte (drop at text) ≡ 0 = rw (here text at h) (rw n refl) in
    let part : eqb 0 (length (drop at text)) ≡ false = ne_eqb 0 (length (drop at text)) (λ e. absurd (omega (arith, e, length-drop at text, h))) in
    rw stops (rw part refl)

pub name_here : (text : List ℕ) (at end : ℕ) → at < end → end < length text → is_name_byte (get_or text end 0) ≡ false → prefix_len is_name_byte (drop at text) ≡ end - at + prefix_len is_name_byte (drop end text) → name_at (drop at text) ≡ Ok (take (end - at) (drop at text), drop end text)
name_here text at end l h n p =
    let stops : prefix_len is_name_byte (drop end text) ≡ 0 = rw (here text end h) (rw n refl) in
    let len : prefix_len is_name_byte (drop at text) ≡ end - at = p ∙ omega (arith, stops) in
    let part : eqb (end - at) (length (drop at text)) ≡ false = ne_eqb (end - at) (length (drop at text)) (λ e. absurd (omega (arith, e, length-drop at text, h, l))) in
    let some : eqb (end - at) 0 ≡ false = ne_eqb (end - at) 0 (λ e. absurd (omega (arith, e, l))) in
    let rest : drop (end - at) (drop at text) ≡ drop end text = drop-drop (end - at) at text ∙ ap (λ (k : ℕ). drop k text) (omega (arith, l)) in
    rw len (rw (part, some) (rw rest refl))
