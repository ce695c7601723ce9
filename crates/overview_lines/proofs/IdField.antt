-- The reading of a message-id in its angle brackets agrees with what it is.
use Rattle.std.proofs.Common.{◌≡◌, ◌≢◌, ◌≤◌, ◌↔◌, ℕ, suc, ◌+◌, ◌-◌, ◌==◌, ◌&&◌, Bool, true, false, Bor, List, [], ◌∷◌, ◌++◌, length, take, drop, get_or, Option, Some, None, MatchOption, refl, sym, ◌∙◌, ap, subst, arith, length-append}
use Rattle.std.specs.Prelude.{IfSome, IsSome, nat_le}
use Rattle.std.specs.List.{list_all}
use Rattle.std.proofs.Math.ListN.{drop_of_length-le}
use Rattle.std.proofs.Math.Seq.{get_or-append_seam, take-append_seam}
use Rattle.std.proofs.lemmas.Bool.{and_from, and_parts, eq-eqb, eqb-true, le-leb, leb-true}
use Rattle.nntp_lines.specs.MessageId.{IsMessageId, is_id_byte}
use Rattle.overview_lines.specs.OverLine.{IsIdField}
use Rattle.overview_lines.specs.OverReading.{id_of, inner_of, is_id}
use Rattle.overview_lines.proofs.Fronts.{cut_there}

none_id : {a : List ℕ} → None ≡ Some a → ⊥
none_id e = cc

some_same : {a b : List ℕ} → Some a ≡ Some b → a ≡ b
some_same e = cc

-- brackets at both ends
pub brackets : (field rest : List ℕ) (found : Option (Bor (List ℕ))) → field ≡ 60 ∷ rest → MatchOption found ((front : List ℕ) → rest ≢ front ++ 62 ∷ []) (λ x. rest ≡ x.now ++ 62 ∷ []) →
    MatchOption found ((inner : List ℕ) → field ≢ 60 ∷ (inner ++ 62 ∷ [])) (λ inner. field ≡ 60 ∷ (inner.now ++ 62 ∷ []))
brackets field rest None opened none = λ inner is. none inner (let same : 60 ∷ rest ≡ 60 ∷ (inner ++ 62 ∷ []) = sym opened ∙ is in cc)
brackets field rest (Some x) opened some = opened ∙ ap (λ (t : List ℕ). 60 ∷ t) some

-- what stands between brackets
pub inner_is : (inner : List ℕ) → inner_of (60 ∷ (inner ++ 62 ∷ [])) ≡ inner
inner_is inner =
    let long : length (60 ∷ (inner ++ 62 ∷ [])) - 2 ≡ length inner = omega (arith, length-append inner (62 ∷ [])) in
    rw long (take-append_seam inner (62 ∷ []))

-- the test of a message-id is what one is
id_from_test : (bytes : List ℕ) → is_id bytes ≡ true → IsMessageId bytes
id_from_test bytes passed =
    let parts = and_parts (nat_le 1 (length bytes) && nat_le (length bytes) 248) (list_all is_id_byte bytes) passed in
    let ends = and_parts (nat_le 1 (length bytes)) (nat_le (length bytes) 248) parts.0 in
    record { some = leb-true 1 (length bytes) ends.0; short = leb-true (length bytes) 248 ends.1; all = parts.1 }

test_from_id : (bytes : List ℕ) → IsMessageId bytes → is_id bytes ≡ true
test_from_id bytes id =
    and_from (nat_le 1 (length bytes) && nat_le (length bytes) 248) (list_all is_id_byte bytes)
    (and_from (nat_le 1 (length bytes)) (nat_le (length bytes) 248) (le-leb 1 (length bytes) id.some) (le-leb (length bytes) 248 id.short)) id.all

-- a field that is such an id is read
pub id_is_read : (field id : List ℕ) → IsIdField field id → id_of field ≡ Some id
unfolding id_of
id_is_read field id h = rw h.whole (rw (two, last, inner_is id, test_from_id id h.rule) refl)
  where
    two : nat_le 2 (length (60 ∷ (id ++ 62 ∷ []))) ≡ true
    two = le-leb 2 (length (60 ∷ (id ++ 62 ∷ []))) (omega (arith, length-append id (62 ∷ [])))

    last : (get_or (60 ∷ (id ++ 62 ∷ [])) (length (60 ∷ (id ++ 62 ∷ [])) - 1) 0 == 62) ≡ true
    last =
        let place : length (60 ∷ (id ++ 62 ∷ [])) - 1 ≡ length (60 ∷ id) = omega (arith, length-append id (62 ∷ [])) in
        eq-eqb _ _ (rw place (get_or-append_seam (60 ∷ id) 62 [] 0))

-- a text with its last byte
closed : (text : List ℕ) → 1 ≤ length text → text ≡ take (length text - 1) text ++ get_or text (length text - 1) 0 ∷ []
closed text some =
    let place : length text - 1 + 1 ≡ length text = omega arith in
    let end : drop (length text - 1 + 1) text ≡ [] = drop_of_length-le text (omega arith) in
    cut_there (length text - 1) text (omega arith) ∙ ap (λ (rest : List ℕ). take (length text - 1) text ++ get_or text (length text - 1) 0 ∷ rest) end

-- and what is read is one
pub read_is_id : (field id : List ℕ) → id_of field ≡ Some id → IsIdField field id
unfolding id_of
read_is_id [] id is = absurd (none_id is)
read_is_id (first ∷ rest) id is = by_test (fits && opens && closes && is_id inner) refl
  where
    fits : Bool
    fits = nat_le 2 (length (first ∷ rest))

    opens : Bool
    opens = first == 60

    closes : Bool
    closes = get_or (first ∷ rest) (length (first ∷ rest) - 1) 0 == 62

    inner : List ℕ
    inner = take (length (first ∷ rest) - 2) rest

    by_test : (test : Bool) → (fits && opens && closes && is_id inner) ≡ test → IsIdField (first ∷ rest) id
    by_test false e = absurd (none_id {a = id} (rw e at is))
    by_test true e =
        let all = and_parts (fits && opens && closes) (is_id inner) e in
        let ends = and_parts (fits && opens) closes all.0 in
        let front = and_parts fits opens ends.0 in
        let long : 2 ≤ length (first ∷ rest) = leb-true 2 (length (first ∷ rest)) front.0 in
        let same : inner ≡ id = some_same (rw e at is) in
        let place : length (first ∷ rest) - 1 ≡ suc (length rest - 1) = omega arith in
        let last : get_or rest (length rest - 1) 0 ≡ 62 = eqb-true (get_or rest (length rest - 1) 0) 62 (rw place at ends.1) in
        let size : length rest - 1 ≡ length (first ∷ rest) - 2 = omega arith in
        record {
          whole = ap (λ (b : ℕ). b ∷ rest) (eqb-true first 60 front.1)
              ∙ ap (λ (t : List ℕ). 60 ∷ t) (closed rest (omega arith) ∙ ap (λ (b : ℕ). take (length rest - 1) rest ++ b ∷ []) last
              ∙ ap (λ (n : ℕ). take n rest ++ 62 ∷ []) size ∙ ap (λ (t : List ℕ). t ++ 62 ∷ []) same);
          rule = subst IsMessageId same (id_from_test inner all.1);
        }

-- what is found where such an id is, and nothing elsewhere, is what is read
pub found_is_read : (field : List ℕ) (found : Option (List ℕ)) → MatchOption found ((id : List ℕ) → ¬ IsIdField field id) (IsIdField field) → found ≡ id_of field
found_is_read field (Some id) is = sym (id_is_read field id is)
found_is_read field None none = by_id (id_of field) refl
  where
    by_id : (found : Option (List ℕ)) → id_of field ≡ found → None ≡ id_of field
    by_id None e = sym e
    by_id (Some id) e = absurd (none id (read_is_id field id e))

-- so is a message-id between brackets
pub inner_is_read : (field inner : List ℕ) (found : Option (List ℕ)) → field ≡ 60 ∷ (inner ++ 62 ∷ []) → (IsSome found ↔ IsMessageId inner) → IfSome found (λ id. id ≡ inner) → found ≡ id_of field
inner_is_read field inner found whole rule same = found_is_read field found (by_found found rule same)
  where
    by_found : (found : Option (List ℕ)) → (IsSome found ↔ IsMessageId inner) → IfSome found (λ id. id ≡ inner) → MatchOption found ((id : List ℕ) → ¬ IsIdField field id) (IsIdField field)
    by_found (Some id) rule same = record { whole = whole ∙ ap (λ (t : List ℕ). 60 ∷ (t ++ 62 ∷ [])) (sym same); rule = subst IsMessageId (sym same) (rule.0 refl) }
    by_found None rule same = λ id h.
        let one : inner ≡ id = sym (inner_is inner) ∙ ap inner_of (sym whole ∙ h.whole) ∙ inner_is id in
        let no = rule.1 (subst IsMessageId (sym one) h.rule) in
        cc
