-- Spellings in a row, and what lands them.
use Rattle.std.proofs.Common.{◌≡◌, ◌≢◌, ℕ, zero, suc, ◌+◌, ◌%◌, ◌<◌, ◌≤◌, false, ◌||◌, eqb, List, [], ◌∷◌, ◌++◌, length, get_or, take, drop, refl, sym, ap, subst, ◌∙◌, append_assoc, arith}
use Rattle.std.proofs.Math.Seq.{take-add}
use Rattle.std.proofs.lemmas.Bool.{eqb-false, or_parts, or_from}
use Rattle.std.proofs.lemmas.List.{length-take, length-drop, get_or-take, get_or-drop, ext_get_or, drop-drop}
use Rattle.yenc_bytes.specs.DataLine.{Spells, SpellsAll}
use Rattle.yenc_bytes.specs.DataLineReading.{is_stray}
use Rattle.yenc_bytes.proofs.Strays.{is_plain as plain_then}
use Rattle.landing_kernel.specs.Characters.{is_critical, lowered}
use Rattle.landing_kernel.specs.Landing.{Lands}
use Rattle.gap_kernel.specs.Landing.{LandsSpellings}

-- ---- spellings

pub spells_plain : (x : ℕ) → x < 256 → is_stray x ≡ false → x ≢ 61 → Spells (lowered x) (x ∷ [])
spells_plain x byte plain other = (omega arith, omega arith, plain_then x plain, other)

pub spells_escaped : (x y : ℕ) → x ≡ 61 → y < 256 → is_stray y ≡ false → Spells ((y + 150) % 256) (x ∷ y ∷ [])
spells_escaped x y equals byte plain = (omega arith, equals, omega arith, plain_then y plain)

pub SpellsAll-append : (bs cs text more : List ℕ) → SpellsAll bs text → SpellsAll cs more → SpellsAll (bs ++ cs) (text ++ more)
SpellsAll-append [] cs text more p q = subst (SpellsAll cs) (ap (λ t. t ++ more) (sym p)) q
SpellsAll-append (b ∷ bs) cs text more (w, rest, s, p, e) q = (w, rest ++ more, s, SpellsAll-append bs cs rest more p q, ap (λ t. t ++ more) e ∙ append_assoc w rest more)

-- a plain character
pub record IsPlainByte (x : ℕ) : Type 0 where
  pub byte : x < 256
  pub stray_not : is_stray x ≡ false
  pub escape_not : x ≢ 61

plain_byte : (x : ℕ) → x < 256 → is_critical x ≡ false → IsPlainByte x
plain_byte x byte e =
    let p = or_parts (eqb x 0 || eqb x 10 || eqb x 13) (eqb x 61) e in
    let q = or_parts (eqb x 0 || eqb x 10) (eqb x 13) p.0 in
    let r = or_parts (eqb x 0) (eqb x 10) q.0 in
    record { byte = byte; stray_not = or_from (eqb x 0) _ r.0 (or_from (eqb x 10) _ r.1 q.1); escape_not = eqb-false x 61 p.1 }

-- plain characters, and the bytes that they stand for
pub plain_spelled : (xs ys : List ℕ) → length ys ≡ length xs → ((i : ℕ) → i < length xs → IsPlainByte (get_or xs i 0)) → ((i : ℕ) → i < length xs → get_or ys i 0 ≡ lowered (get_or xs i 0)) → SpellsAll ys xs
plain_spelled [] [] long plain low = refl
plain_spelled [] (y ∷ ys) long plain low = absurd (omega arith)
plain_spelled (x ∷ xs) [] long plain low = absurd (omega arith)
plain_spelled (x ∷ xs) (y ∷ ys) long plain low =
    let p = plain 0 (omega arith) in
    let first = subst (λ b. Spells b (x ∷ [])) (sym (low 0 (omega arith))) (spells_plain x p.byte p.stray_not p.escape_not) in
    let rest = plain_spelled xs ys (omega arith) (λ i lt. plain (suc i) (omega arith)) (λ i lt. low (suc i) (omega arith)) in
    (x ∷ [], xs, first, rest, refl)

-- the same with one escape among them, at place k
pub escape_spelled : (k : ℕ) (xs ys : List ℕ) → suc k < length xs → suc (length ys) ≡ length xs
    → get_or xs k 0 ≡ 61
    → ((i : ℕ) → i < length xs → i ≢ k → IsPlainByte (get_or xs i 0))
    → ((i : ℕ) → i < k → get_or ys i 0 ≡ lowered (get_or xs i 0))
    → get_or ys k 0 ≡ (get_or xs (suc k) 0 + 150) % 256
    → ((i : ℕ) → k < i → i < length ys → get_or ys i 0 ≡ lowered (get_or xs (suc i) 0))
    → SpellsAll ys xs
escape_spelled k [] ys lt long equals plain before at behind = absurd (omega arith)
escape_spelled k (x ∷ xs) [] lt long equals plain before at behind = absurd (omega arith)
escape_spelled zero (x ∷ []) (b ∷ bs) lt long equals plain before at behind = absurd (omega arith)
escape_spelled zero (x ∷ y ∷ more) (b ∷ bs) lt long equals plain before at behind =
    let p = plain 1 (omega arith) (λ e. omega arith) in
    let first = subst (λ c. Spells c (x ∷ y ∷ [])) (sym at) (spells_escaped x y equals p.byte p.stray_not) in
    let rest = plain_spelled more bs (omega arith) (λ i less. plain (suc (suc i)) (omega arith) (λ e. omega arith)) (λ i less. behind (suc i) (omega arith) (omega arith)) in
    (x ∷ y ∷ [], more, first, rest, refl)
escape_spelled (suc k) (x ∷ xs) (b ∷ bs) lt long equals plain before at behind =
    let p = plain 0 (omega arith) (λ e. omega arith) in
    let first = subst (λ c. Spells c (x ∷ [])) (sym (before 0 (omega arith))) (spells_plain x p.byte p.stray_not p.escape_not) in
    let rest = escape_spelled k xs bs (omega arith) (omega arith) equals (λ i less ne. plain (suc i) (omega arith) (λ e. ne (omega arith))) (λ i less. before (suc i) (omega arith)) at (λ i more less. behind (suc i) (omega arith) (omega arith)) in
    (x ∷ [], xs, first, rest, refl)

-- ---- the landing of spellings

same_part : (xs ys : List ℕ) (i n : ℕ) → length xs ≡ length ys → ((k : ℕ) → k < n → get_or xs (i + k) 0 ≡ get_or ys (i + k) 0) → take n (drop i xs) ≡ take n (drop i ys)
same_part xs ys i n long each =
    let xs_take = length-take n (drop i xs) in
    let ys_take = length-take n (drop i ys) in
    ext_get_or 0 (take n (drop i xs)) (take n (drop i ys)) (omega (arith, xs_take, ys_take, length-drop i xs, length-drop i ys, long)) (λ k lt.
    let less : k < n = omega (arith, xs_take) in
    get_or-take n (drop i xs) k 0 less ∙ get_or-drop i xs k 0 ∙ each k less ∙ sym (get_or-take n (drop i ys) k 0 less ∙ get_or-drop i ys k 0))

part_joins : (xs : List ℕ) (i n m : ℕ) → take (n + m) (drop i xs) ≡ take n (drop i xs) ++ take m (drop (i + n) xs)
part_joins xs i n m = take-add n m (drop i xs) ∙ ap (λ t. take n (drop i xs) ++ take m t) (drop-drop n i xs)

pub lands_none : (buf : List ℕ) (from to : ℕ) → LandsSpellings buf buf from to 0 0
lands_none buf from to = record { spelled = refl; below = λ k lt. refl; above = λ k le. refl; long = refl }

pub lands_more : (old mid new : List ℕ) (from to n m a b : ℕ) → to + m ≤ from + n → LandsSpellings old mid from to n m → LandsSpellings mid new (from + n) (to + m) a b → LandsSpellings old new from to (n + a) (m + b)
lands_more old mid new from to n m a b order p q =
    let text : take (n + a) (drop from old) ≡ take n (drop from old) ++ take a (drop (from + n) mid) =
    part_joins old from n a ∙ ap (λ t. take n (drop from old) ++ t) (same_part old mid (from + n) a (sym p.long) (λ k lt. sym (p.above (from + n + k) (omega arith)))) in
    let bytes : take (m + b) (drop to new) ≡ take m (drop to mid) ++ take b (drop (to + m) new) =
    part_joins new to m b ∙ ap (λ t. t ++ take b (drop (to + m) new)) (same_part new mid to m q.long (λ k lt. q.below (to + k) (omega arith))) in
    record {
      spelled = subst (λ t. SpellsAll (take (m + b) (drop to new)) t) (sym text)
          (subst (λ t. SpellsAll t (take n (drop from old) ++ take a (drop (from + n) mid))) (sym bytes) (SpellsAll-append _ _ _ _ p.spelled q.spelled));
      below = λ k lt. q.below k (omega arith) ∙ p.below k lt;
      above = λ k le. q.above k (omega arith) ∙ p.above k (omega arith);
      long = q.long ∙ p.long;
    }

-- a run of plain characters
pub lands_plain : (old new : List ℕ) (from to n : ℕ) → to ≤ from → from + n ≤ length old → length new ≡ length old → ((i : ℕ) → get_or old i 0 < 256) → ((k : ℕ) → k < n → is_critical (get_or old (from + k) 0) ≡ false) → Lands old new from to n → LandsSpellings old new from to n n
lands_plain old new from to n order room long bytes plain p =
    let xs = take n (drop from old) in
    let ys = take n (drop to new) in
    let xs_long : length xs ≡ n = omega (arith, length-take n (drop from old), length-drop from old) in
    let ys_long : length ys ≡ n = omega (arith, length-take n (drop to new), length-drop to new) in
    let at : (k : ℕ) → k < n → get_or xs k 0 ≡ get_or old (from + k) 0 = λ k lt. get_or-take n (drop from old) k 0 lt ∙ get_or-drop from old k 0 in
    record {
      spelled = plain_spelled xs ys (omega arith)
          (λ k lt. let less : k < n = omega arith in subst IsPlainByte (sym (at k less)) (plain_byte (get_or old (from + k) 0) (bytes (from + k)) (plain k less)))
          (λ k lt. let less : k < n = omega arith in get_or-take n (drop to new) k 0 less ∙ get_or-drop to new k 0 ∙ p.moved k less ∙ ap lowered (sym (at k less)));
      below = p.below;
      above = λ k le. p.above k (omega arith);
      long = long;
    }
