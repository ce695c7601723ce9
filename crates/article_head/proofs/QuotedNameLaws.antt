-- The name that is found in a subject is the one between its first and its last double quote.
use Rattle.std.proofs.Common.{◌≡◌, ◌≢◌, ◌<◌, ◌≤◌, ℕ, zero, suc, ◌+◌, ◌-◌, ◌==◌, Bool, true, false, List, [], ◌∷◌, ◌++◌, Option, None, Some, length, take, drop, get_or, refl, sym, ◌∙◌, ap, arith, append_assoc, inl, inr}
use Rattle.std.specs.Prelude.{All, MatchOption, codes, if◌then◌else◌}
use Rattle.std.specs.Option.{option_and_then}
use Rattle.std.proofs.lemmas.Bool.{cases_Bool, cond-true, cond-false, cond_both, eq-eqb, eqb-true, ne_eqb}
use Rattle.std.proofs.lemmas.List.{take_rest}
use Rattle.std.proofs.lemmas.List.Elements.{All-cons, All-head, All-nil, All-tail}
use Rattle.memchr.specs.Find.{NoneAfter, NoneBefore, Nowhere, Passes, is_byte}
use Rattle.article_head.specs.QuotedName.{FindsQuotedName, IsQuotedName, Lacks, before_last, behind_first, in_front, quoted_name}

-- ---- the first such byte

-- a text in two pieces, with a byte between them that stands nowhere in the first
pub record CutsFirst (byte : ℕ) (text behind : List ℕ) : Type 0 where
  pub front : List ℕ
  pub whole : text ≡ front ++ byte ∷ behind
  pub none : Lacks byte front

-- the same with the second
pub record CutsLast (byte : ℕ) (text front : List ℕ) : Type 0 where
  pub behind : List ℕ
  pub whole : text ≡ front ++ byte ∷ behind
  pub none : Lacks byte behind

pub first_found : (byte : ℕ) (front behind : List ℕ) → Lacks byte front → behind_first byte (front ++ byte ∷ behind) ≡ Some behind
first_found byte [] behind none = cond-true (byte == byte) (Some behind) (behind_first byte behind) (eq-eqb byte byte refl)
first_found byte (x ∷ front) behind none =
    cond-false (x == byte) (Some (front ++ byte ∷ behind)) (behind_first byte (front ++ byte ∷ behind)) (All-head (λ y. (y == byte) ≡ false) x front none)
    ∙ first_found byte front behind (All-tail (λ y. (y == byte) ≡ false) x front none)

first_mapped : (byte x : ℕ) (text : List ℕ) (behind : Option (List ℕ)) → (x == byte) ≡ false → MatchOption behind (Unit {0}) (CutsFirst byte text) → MatchOption behind (Unit {0}) (CutsFirst byte (x ∷ text))
first_mapped byte x text None other says = tt
first_mapped byte x text (Some behind) other says =
    record { front = x ∷ says.front; whole = ap (λ l. x ∷ l) says.whole; none = All-cons (λ y. (y == byte) ≡ false) x says.front other says.none }

pub first_says : (byte : ℕ) (text : List ℕ) → MatchOption (behind_first byte text) (Unit {0}) (CutsFirst byte text)
first_says byte [] = tt
first_says byte (x ∷ text) =
    cond_both (x == byte) (Some text) (behind_first byte text) (λ o. MatchOption o (Unit {0}) (CutsFirst byte (x ∷ text)))
    (λ same. record { front = []; whole = ap (λ b. b ∷ text) (eqb-true x byte same); none = All-nil (λ y. (y == byte) ≡ false) })
    (λ other. first_mapped byte x text (behind_first byte text) other (first_says byte text))

-- ---- the last such byte

pub last_nowhere : (byte : ℕ) (text : List ℕ) → Lacks byte text → before_last byte text ≡ None
last_nowhere byte [] none = refl
last_nowhere byte (x ∷ text) none =
    ap (in_front x (x == byte)) (last_nowhere byte text (All-tail (λ y. (y == byte) ≡ false) x text none))
    ∙ ap (λ b. in_front x b None) (All-head (λ y. (y == byte) ≡ false) x text none)

pub last_found : (byte : ℕ) (front behind : List ℕ) → Lacks byte behind → before_last byte (front ++ byte ∷ behind) ≡ Some front
last_found byte [] behind none = ap (in_front byte (byte == byte)) (last_nowhere byte behind none) ∙ ap (λ b. in_front byte b None) (eq-eqb byte byte refl)
last_found byte (x ∷ front) behind none = ap (in_front x (x == byte)) (last_found byte front behind none)

-- what the last byte leaves in a text that goes on behind a byte
lacking_more : (byte x : ℕ) (text : List ℕ) → Lacks byte text → (x == byte) ≡ false → Lacks byte (x ∷ text)
lacking_more byte x text none other = All-cons (λ y. (y == byte) ≡ false) x text other none

last_mapped : (byte x : ℕ) (text : List ℕ) (is : Bool) (front : Option (List ℕ)) → (x == byte) ≡ is → MatchOption front (Lacks byte text) (CutsLast byte text)
    → MatchOption (in_front x is front) (Lacks byte (x ∷ text)) (CutsLast byte (x ∷ text))
last_mapped byte x text is (Some front) test says = record { behind = says.behind; whole = ap (λ l. x ∷ l) says.whole; none = says.none }
last_mapped byte x text true None test says = record { behind = text; whole = ap (λ b. b ∷ text) (eqb-true x byte test); none = says }
last_mapped byte x text false None test says = lacking_more byte x text says test

pub last_says : (byte : ℕ) (text : List ℕ) → MatchOption (before_last byte text) (Lacks byte text) (CutsLast byte text)
last_says byte [] = All-nil (λ y. (y == byte) ≡ false)
last_says byte (x ∷ text) = last_mapped byte x text (x == byte) (before_last byte text) refl (last_says byte text)

-- ---- names

-- a name that is quoted is found
quoted_found : (subject name : List ℕ) → IsQuotedName subject name → quoted_name subject ≡ Some name
quoted_found subject name is =
    let whole : is.before ++ codes "\"" ++ name ++ codes "\"" ++ is.behind ≡ is.before ++ 34 ∷ (name ++ 34 ∷ is.behind) = simp append_assoc in
    ap quoted_name (is.whole ∙ whole)
    ∙ ap (option_and_then (before_last 34)) (first_found 34 is.before (name ++ 34 ∷ is.behind) is.first)
    ∙ last_found 34 name is.behind is.last

between : (subject rest name : List ℕ) → CutsFirst 34 subject rest → CutsLast 34 rest name → IsQuotedName subject name
between subject rest name first last =
    let whole : first.front ++ codes "\"" ++ name ++ codes "\"" ++ last.behind ≡ first.front ++ 34 ∷ (name ++ 34 ∷ last.behind) = simp append_assoc in
    record {
      before = first.front;
      behind = last.behind;
      whole = first.whole ∙ ap (λ l. first.front ++ 34 ∷ l) last.whole ∙ sym whole;
      first = first.none;
      last = last.none;
    }

in_rest : (subject rest : List ℕ) (name : Option (List ℕ)) → CutsFirst 34 subject rest → MatchOption name (Lacks 34 rest) (CutsLast 34 rest) → (found : Option (List ℕ)) → found ≡ name
    → (found ≡ None → (other : List ℕ) → ¬ IsQuotedName subject other) → FindsQuotedName subject found
in_rest subject rest name first last None is never = never refl
in_rest subject rest None first last (Some found) is never = cc
in_rest subject rest (Some name) first last (Some found) is never =
    let same : found ≡ name = cc in
    rw same (between subject rest name first last)

never_found : (subject : List ℕ) (found : Option (List ℕ)) → found ≡ quoted_name subject → found ≡ None → (other : List ℕ) → ¬ IsQuotedName subject other
never_found subject found is none other quoted = let e : None ≡ Some other = sym none ∙ is ∙ quoted_found subject other quoted in cc

by_rest : (subject : List ℕ) (rest : Option (List ℕ)) → MatchOption rest (Unit {0}) (CutsFirst 34 subject) → (found : Option (List ℕ)) → found ≡ option_and_then (before_last 34) rest
    → (found ≡ None → (other : List ℕ) → ¬ IsQuotedName subject other) → FindsQuotedName subject found
by_rest subject None first None is never = never refl
by_rest subject None first (Some found) is never = cc
by_rest subject (Some rest) first found is never = in_rest subject rest (before_last 34 rest) first (last_says 34 rest) found is never

pub finds_quoted_name : (subject : List ℕ) (found : Option (List ℕ)) → found ≡ quoted_name subject → FindsQuotedName subject found
finds_quoted_name subject found is = by_rest subject (behind_first 34 subject) (first_says 34 subject) found is (never_found subject found is)

-- ---- as a search for the byte tells of it

not_byte : (byte x : ℕ) → ((x == byte) ≡ true → ⊥) → (x == byte) ≡ false
not_byte byte x unequal = elim (cases_Bool (x == byte)) [ inl same ↦ absurd (unequal same) | inr other ↦ other ]

pub first_taken : (byte : ℕ) (text : List ℕ) (n : ℕ) → n < length text → ((k : ℕ) → k < n → (get_or text k 0 == byte) ≡ true → ⊥) → (get_or text n 0 == byte) ≡ true → behind_first byte text ≡ Some (drop (n + 1) text)
first_taken byte [] n lt before here = absurd (omega arith)
first_taken byte (x ∷ text) zero lt before here = cond-true (x == byte) (Some text) (behind_first byte text) here
first_taken byte (x ∷ text) (suc n) lt before here =
    let e : suc n + 1 ≡ suc (n + 1) = omega arith in
    rw e
    (cond-false (x == byte) (Some text) (behind_first byte text) (not_byte byte x (before 0 (omega arith)))
    ∙ first_taken byte text n (omega arith) (λ k less. before (suc k) (omega arith)) here)

pub first_nowhere : (byte : ℕ) (text : List ℕ) → ((k : ℕ) → k < length text → (get_or text k 0 == byte) ≡ true → ⊥) → behind_first byte text ≡ None
first_nowhere byte [] none = refl
first_nowhere byte (x ∷ text) none =
    cond-false (x == byte) (Some text) (behind_first byte text) (not_byte byte x (none 0 (omega arith))) ∙ first_nowhere byte text (λ k less. none (suc k) (omega arith))

lacks_by_place : (byte : ℕ) (text : List ℕ) → ((k : ℕ) → k < length text → (get_or text k 0 == byte) ≡ true → ⊥) → Lacks byte text
lacks_by_place byte [] none = All-nil (λ y. (y == byte) ≡ false)
lacks_by_place byte (x ∷ text) none = lacking_more byte x text (lacks_by_place byte text (λ k less. none (suc k) (omega arith))) (not_byte byte x (none 0 (omega arith)))

pub last_taken : (byte : ℕ) (text : List ℕ) (n : ℕ) → n < length text → ((k : ℕ) → n + 1 ≤ k → k < length text → (get_or text k 0 == byte) ≡ true → ⊥) → (get_or text n 0 == byte) ≡ true → before_last byte text ≡ Some (take n text)
last_taken byte [] n lt after here = absurd (omega arith)
last_taken byte (x ∷ text) zero lt after here =
    ap (in_front x (x == byte)) (last_nowhere byte text (lacks_by_place byte text (λ k less. after (suc k) (omega arith) (omega arith)))) ∙ ap (λ b. in_front x b None) here
last_taken byte (x ∷ text) (suc n) lt after here =
    ap (in_front x (x == byte)) (last_taken byte text n (omega arith) (λ k low less. after (suc k) (omega arith) (omega arith)) here)

pub found_first : (byte : ℕ) (text behind : List ℕ) (n : ℕ) → NoneBefore (Passes (is_byte byte) text) 0 (length text) n × Passes (is_byte byte) text n → behind ≡ take (length text - (n + 1)) (drop (n + 1) text)
    → Some behind ≡ behind_first byte text
found_first byte text behind n (none, here) is = ap (λ b. Some b) (is ∙ take_rest text (n + 1)) ∙ sym (first_taken byte text n none.high (λ k less. none.before k (omega arith) less) here)

pub found_no_first : (byte : ℕ) (text : List ℕ) → Nowhere (Passes (is_byte byte) text) 0 (length text) → None ≡ behind_first byte text
found_no_first byte text none = sym (first_nowhere byte text (λ k less. none k (omega arith) less))

pub found_last : (byte : ℕ) (text front : List ℕ) (n : ℕ) → NoneAfter (Passes (is_byte byte) text) 0 (length text) n × Passes (is_byte byte) text n → front ≡ take n text → Some front ≡ before_last byte text
found_last byte text front n (none, here) is = ap (λ f. Some f) is ∙ sym (last_taken byte text n none.high (λ k low less. none.after k low less) here)

pub found_no_last : (byte : ℕ) (text : List ℕ) → Nowhere (Passes (is_byte byte) text) 0 (length text) → None ≡ before_last byte text
found_no_last byte text none = sym (last_nowhere byte text (lacks_by_place byte text (λ k less. none k (omega arith) less)))
