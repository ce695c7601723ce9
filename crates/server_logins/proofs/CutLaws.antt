-- Cuts at a byte.
use Rattle.std.proofs.Common.{◌≡◌, ◌≢◌, ◌<◌, ℕ, zero, suc, ◌+◌, ◌-◌, ◌==◌, true, false, List, [], ◌∷◌, ◌++◌, Option, None, Some, length, take, drop, get_or, refl, sym, ◌∙◌, ap, arith}
use Rattle.std.specs.Prelude.{All, MatchOption}
use Rattle.std.specs.Option.{option_map}
use Rattle.std.proofs.lemmas.Bool.{cond-true, cond-false, cond_both, eq-eqb, eqb-true, ne_eqb}
use Rattle.std.proofs.lemmas.List.{take_rest}
use Rattle.memchr.specs.Find.{NoneBefore, Nowhere, Passes, is_byte}
use Rattle.std.proofs.lemmas.List.Elements.{All-head, All-tail}
use Rattle.server_logins.specs.Cut.{cut_at}

-- a text is whole in a cut: the byte stands between the two texts
abbrev pub IsWhole : ℕ → List ℕ → List ℕ × List ℕ → Type 0
IsWhole byte text cut = text ≡ cut.0 ++ byte ∷ cut.1

mapped : (byte first : ℕ) (text : List ℕ) (cut : Option (List ℕ × List ℕ)) → MatchOption cut (Unit {0}) (IsWhole byte text)
    → MatchOption (option_map (λ (c : List ℕ × List ℕ). (first ∷ c.0, c.1)) cut) (Unit {0}) (IsWhole byte (first ∷ text))
mapped byte first text None says = tt
mapped byte first text (Some cut) says = ap (λ l. first ∷ l) says

-- what is cut has the byte between its two texts
pub cut_says : (byte : ℕ) (text : List ℕ) → MatchOption (cut_at byte text) (Unit {0}) (IsWhole byte text)
cut_says byte [] = tt
cut_says byte (first ∷ text) =
    cond_both (first == byte) (Some ([], text)) (option_map (λ (c : List ℕ × List ℕ). (first ∷ c.0, c.1)) (cut_at byte text))
    (λ o. MatchOption o (Unit {0}) (IsWhole byte (first ∷ text)))
    (λ same. ap (λ b. b ∷ text) (eqb-true first byte same))
    (λ other. mapped byte first text (cut_at byte text) (cut_says byte text))

-- a text in front of which the byte stands nowhere is cut there
pub cut_found : (byte : ℕ) (front behind : List ℕ) → All (λ x. (x == byte) ≡ false) front → cut_at byte (front ++ byte ∷ behind) ≡ Some (front, behind)
cut_found byte [] behind none = cond-true (byte == byte) (Some ([], behind)) (option_map (λ (c : List ℕ × List ℕ). (byte ∷ c.0, c.1)) (cut_at byte behind)) (eq-eqb byte byte refl)
cut_found byte (x ∷ front) behind none =
    cond-false (x == byte) (Some ([], front ++ byte ∷ behind)) (option_map (λ (c : List ℕ × List ℕ). (x ∷ c.0, c.1)) (cut_at byte (front ++ byte ∷ behind))) (All-head (λ x. (x == byte) ≡ false) x front none)
    ∙ ap (option_map (λ (c : List ℕ × List ℕ). (x ∷ c.0, c.1))) (cut_found byte front behind (All-tail (λ x. (x == byte) ≡ false) x front none))

-- a text is cut at the first place of the byte
pub cut_taken : (byte : ℕ) (text : List ℕ) (n : ℕ) → n < length text → ((k : ℕ) → k < n → get_or text k 0 ≢ byte) → get_or text n 0 ≡ byte → cut_at byte text ≡ Some (take n text, drop (n + 1) text)
cut_taken byte [] n lt before here = absurd (omega arith)
cut_taken byte (x ∷ text) zero lt before here = cond-true (x == byte) (Some ([], text)) (option_map (λ (c : List ℕ × List ℕ). (x ∷ c.0, c.1)) (cut_at byte text)) (eq-eqb x byte here)
cut_taken byte (x ∷ text) (suc n) lt before here =
    let e : suc n + 1 ≡ suc (n + 1) = omega arith in
    rw e
    (cond-false (x == byte) (Some ([], text)) (option_map (λ (c : List ℕ × List ℕ). (x ∷ c.0, c.1)) (cut_at byte text)) (ne_eqb x byte (before 0 (omega arith)))
    ∙ ap (option_map (λ (c : List ℕ × List ℕ). (x ∷ c.0, c.1))) (cut_taken byte text n (omega arith) (λ k less. before (suc k) (omega arith)) here))

-- a text without the byte isn't cut
pub cut_nowhere : (byte : ℕ) (text : List ℕ) → ((k : ℕ) → k < length text → get_or text k 0 ≢ byte) → cut_at byte text ≡ None
cut_nowhere byte [] none = refl
cut_nowhere byte (x ∷ text) none =
    cond-false (x == byte) (Some ([], text)) (option_map (λ (c : List ℕ × List ℕ). (x ∷ c.0, c.1)) (cut_at byte text)) (ne_eqb x byte (none 0 (omega arith)))
    ∙ ap (option_map (λ (c : List ℕ × List ℕ). (x ∷ c.0, c.1))) (cut_nowhere byte text (λ k less. none (suc k) (omega arith)))

-- ---- as a search for the byte tells of it

not_byte : (byte x : ℕ) → ((x == byte) ≡ true → ⊥) → x ≢ byte
not_byte byte x unequal is = unequal (eq-eqb x byte is)

pub found_byte : (byte : ℕ) (text front behind : List ℕ) (n : ℕ) → NoneBefore (Passes (is_byte byte) text) 0 (length text) n × Passes (is_byte byte) text n → front ≡ take n text
    → behind ≡ take (length text - (n + 1)) (drop (n + 1) text) → Some (front, behind) ≡ cut_at byte text
found_byte byte text front behind n (none, here) front_is behind_is =
    let whole : behind ≡ drop (n + 1) text = behind_is ∙ take_rest text (n + 1) in
    ap (λ f. Some (f, behind)) front_is ∙ ap (λ b. Some (take n text, b)) whole
    ∙ sym (cut_taken byte text n none.high (λ k less. not_byte byte (get_or text k 0) (none.before k (omega arith) less)) (eqb-true (get_or text n 0) byte here))

pub found_nowhere : (byte : ℕ) (text : List ℕ) → Nowhere (Passes (is_byte byte) text) 0 (length text) → None ≡ cut_at byte text
found_nowhere byte text none = sym (cut_nowhere byte text (λ k less. not_byte byte (get_or text k 0) (none k (omega arith) less)))
