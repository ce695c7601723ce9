-- A line is cut into its fields at each TAB.
use Rattle.std.proofs.Common.{◌≡◌, ◌≤◌, ◌<◌, ℕ, ◌+◌, ◌-◌, Bool, true, false, List, [], ◌∷◌, ◌++◌, length, take, drop, Some, None, refl, sym, ◌∙◌, ap, subst, arith, lit<, length-append, length-drop}
use Rattle.std.proofs.lemmas.List.{take_all}
use Rattle.std.specs.Prelude.{All, nat_lt, position, not, ◌==◌, IsTrue}
use Rattle.std.specs.List.{join_with_byte, list_all, onto_first, position_or_len, slice_split}
use Rattle.std.proofs.lemmas.Bool.{and_parts, ltb-false, ltb-true}
use Rattle.std.proofs.lemmas.List.Elements.{All-cons, All-head, All-nil, All-tail}
use Rattle.std.proofs.lemmas.List.Splits.{join_with_byte-slice_split, length-slice_split, slice_split-cons_no, slice_split-cons_yes, slice_split_at, slice_split_first, slice_split_none}
use Rattle.overview_lines.specs.OverLine.{AreFields, Fields, HasFields, is_tab}
use Rattle.overview_lines.specs.OverReading.{fields_of, read_fields}

some_place : {a b : ℕ} → Some a ≡ Some b → a ≡ b
some_place e = cc

none_place : {a : ℕ} → None ≡ Some a → ⊥
none_place e = cc

some_none : {a : ℕ} → Some a ≡ None → ⊥
some_none e = cc

-- all that stands behind a place, as a slice has it
pub rest_is : (at : ℕ) (text : List ℕ) → take (length text - at) (drop at text) ≡ drop at text
rest_is at text = take_all (length text - at) (drop at text) (omega (arith, length-drop at text))

-- a text with a TAB is cut there
pub cut_at_tab : (text : List ℕ) (at : ℕ) → position is_tab text ≡ Some at → slice_split is_tab text ≡ take at text ∷ slice_split is_tab (drop (at + 1) text)
cut_at_tab text at is = by_test (nat_lt (position_or_len is_tab text) (length text)) refl
  where
    by_test : (test : Bool) → nat_lt (position_or_len is_tab text) (length text) ≡ test → slice_split is_tab text ≡ take at text ∷ slice_split is_tab (drop (at + 1) text)
    by_test false e = absurd (none_place {a = at} (rw e at is))
    by_test true e =
        let same : position_or_len is_tab text ≡ at = some_place (rw e at is) in
        slice_split_first is_tab text 0 (ltb-true (position_or_len is_tab text) (length text) e) ∙ rw same refl

one_field : (text : List ℕ) → length text ≤ position_or_len is_tab text → slice_split is_tab text ≡ text ∷ []
one_field [] none = refl
one_field (b ∷ bs) none = by_test (b == 9) refl (one_field bs)
  where
    by_test : (test : Bool) → (b == 9) ≡ test → (length bs ≤ position_or_len is_tab bs → slice_split is_tab bs ≡ bs ∷ []) → slice_split is_tab (b ∷ bs) ≡ (b ∷ bs) ∷ []
    by_test true e rest = absurd (let none_here : length (b ∷ bs) ≤ 0 = rw e at none in omega arith)
    by_test false e rest =
        let further : length (b ∷ bs) ≤ 1 + position_or_len is_tab bs = rw e at none in
        slice_split-cons_no is_tab b bs e ∙ ap (λ (fields : List (List ℕ)). onto_first b fields) (rest (omega arith))

-- and one without is one field
pub not_cut : (text : List ℕ) → position is_tab text ≡ None → slice_split is_tab text ≡ text ∷ []
not_cut text none = by_test (nat_lt (position_or_len is_tab text) (length text)) refl
  where
    by_test : (test : Bool) → nat_lt (position_or_len is_tab text) (length text) ≡ test → slice_split is_tab text ≡ text ∷ []
    by_test true e = absurd (some_none {a = position_or_len is_tab text} (rw e at none))
    by_test false e = one_field text (ltb-false (position_or_len is_tab text) (length text) e)

-- eight fields are read, whatever follows
pub eight_fields : (number subject from date id references bytes rest : List ℕ) →
    read_fields (number ∷ subject ∷ from ∷ date ∷ id ∷ references ∷ bytes ∷ slice_split is_tab rest) ≡ Some (record { number = number; subject = subject; from = from; date = date; id = id; bytes = bytes })
eight_fields number subject from date id references bytes rest = by_rest (slice_split is_tab rest) (omega (arith, length-slice_split is_tab rest))
  where
    by_rest : (more : List (List ℕ)) → 1 ≤ length more → read_fields (number ∷ subject ∷ from ∷ date ∷ id ∷ references ∷ bytes ∷ more) ≡ Some (record { number = number; subject = subject; from = from; date = date; id = id; bytes = bytes })
    by_rest [] some = absurd (omega arith)
    by_rest (lines ∷ more) some = refl

-- ---- a line's fields

-- no TAB stands in a field
abbrev pub IsUntabbed : List ℕ → Type 0
IsUntabbed field = IsTrue (list_all (λ byte. not (is_tab byte)) field)

untabbed : (field : List ℕ) → IsUntabbed field → All (λ x. (x == 9) ≡ false) field
untabbed [] all = All-nil (λ x. (x == 9) ≡ false)
untabbed (x ∷ field) all =
    let parts = and_parts (not (x == 9)) (list_all (λ byte. not (is_tab byte)) field) all in
    All-cons (λ y. (y == 9) ≡ false) x field (is_no (x == 9) parts.0) (untabbed field parts.1)
  where
    is_no : (test : Bool) → not test ≡ true → test ≡ false
    is_no false e = refl
    is_no true e = sym e

-- what was joined is cut into the same fields
split_joined : (fields : List (List ℕ)) → 1 ≤ length fields → All IsUntabbed fields → slice_split is_tab (join_with_byte 9 fields) ≡ fields
split_joined [] some parted = absurd (omega arith)
split_joined (field ∷ []) some parted = slice_split_none is_tab field (untabbed field (All-head IsUntabbed field [] parted))
split_joined (field ∷ next ∷ fields) some parted =
    slice_split_at is_tab field 9 (join_with_byte 9 (next ∷ fields)) (untabbed field (All-head IsUntabbed field (next ∷ fields) parted)) refl
    ∙ ap (λ (rest : List (List ℕ)). field ∷ rest) (split_joined (next ∷ fields) (omega arith) (All-tail IsUntabbed field (next ∷ fields) parted))

-- a line has one list of fields
pub fields_are_split : (line : List ℕ) (fields : List (List ℕ)) → AreFields line fields → slice_split is_tab line ≡ fields
fields_are_split line fields are = ap (slice_split is_tab) are.joined ∙ split_joined fields are.some are.parted

onto_untabbed : (b : ℕ) (fields : List (List ℕ)) → (b == 9) ≡ false → All IsUntabbed fields → All IsUntabbed (onto_first b fields)
onto_untabbed b [] other all = All-cons IsUntabbed (b ∷ []) [] (rw other refl) (All-nil IsUntabbed)
onto_untabbed b (field ∷ fields) other all =
    let head : IsUntabbed (b ∷ field) = rw other (All-head IsUntabbed field fields all) in
    All-cons IsUntabbed (b ∷ field) fields head (All-tail IsUntabbed field fields all)

split_untabbed : (line : List ℕ) → All IsUntabbed (slice_split is_tab line)
split_untabbed [] = All-cons IsUntabbed [] [] refl (All-nil IsUntabbed)
split_untabbed (b ∷ bs) = by_test (b == 9) refl (split_untabbed bs)
  where
    by_test : (test : Bool) → (b == 9) ≡ test → All IsUntabbed (slice_split is_tab bs) → All IsUntabbed (slice_split is_tab (b ∷ bs))
    by_test true e rest = rw (slice_split-cons_yes is_tab b bs e) (All-cons IsUntabbed [] (slice_split is_tab bs) refl rest)
    by_test false e rest = rw (slice_split-cons_no is_tab b bs e) (onto_untabbed b (slice_split is_tab bs) e rest)

-- which are those that it is cut into
pub split_are_fields : (line : List ℕ) → AreFields line (slice_split is_tab line)
split_are_fields line = record {
  some = omega (arith, length-slice_split is_tab line);
  joined = sym (join_with_byte-slice_split 9 line);
  parted = split_untabbed line;
}

none_fields : {a : Fields} → None ≡ Some a → ⊥
none_fields e = cc

-- eight fields or more are read
pub fields_are_read : (line : List ℕ) (f : Fields) → HasFields line f → fields_of line ≡ Some f
unfolding fields_of
fields_are_read line f has = ap read_fields (fields_are_split line _ has.are)

-- fewer aren't
pub few_are_unread : (line : List ℕ) (fields : List (List ℕ)) → AreFields line fields → length fields < 8 → fields_of line ≡ None
unfolding fields_of
few_are_unread line fields are few = ap read_fields (fields_are_split line fields are) ∙ none_of fields few
  where
    none_of : (fields : List (List ℕ)) → length fields < 8 → read_fields fields ≡ None
    none_of [] few = refl
    none_of (a ∷ []) few = refl
    none_of (a ∷ b ∷ []) few = refl
    none_of (a ∷ b ∷ c ∷ []) few = refl
    none_of (a ∷ b ∷ c ∷ d ∷ []) few = refl
    none_of (a ∷ b ∷ c ∷ d ∷ e ∷ []) few = refl
    none_of (a ∷ b ∷ c ∷ d ∷ e ∷ f ∷ []) few = refl
    none_of (a ∷ b ∷ c ∷ d ∷ e ∷ f ∷ g ∷ []) few = refl
    none_of (a ∷ b ∷ c ∷ d ∷ e ∷ f ∷ g ∷ h ∷ more) few = absurd (omega arith)

-- what is read are the fields
pub read_are_fields : (line : List ℕ) (f : Fields) → fields_of line ≡ Some f → HasFields line f
unfolding fields_of
read_are_fields line f is = by_fields (slice_split is_tab line) (split_are_fields line) is
  where
    by_fields : (fields : List (List ℕ)) → AreFields line fields → read_fields fields ≡ Some f → HasFields line f
    by_fields [] are e = absurd (none_fields e)
    by_fields (a ∷ []) are e = absurd (none_fields e)
    by_fields (a ∷ b ∷ []) are e = absurd (none_fields e)
    by_fields (a ∷ b ∷ c ∷ []) are e = absurd (none_fields e)
    by_fields (a ∷ b ∷ c ∷ d ∷ []) are e = absurd (none_fields e)
    by_fields (a ∷ b ∷ c ∷ d ∷ i ∷ []) are e = absurd (none_fields e)
    by_fields (a ∷ b ∷ c ∷ d ∷ i ∷ r ∷ []) are e = absurd (none_fields e)
    by_fields (a ∷ b ∷ c ∷ d ∷ i ∷ r ∷ n ∷ []) are e = absurd (none_fields e)
    by_fields (a ∷ b ∷ c ∷ d ∷ i ∷ r ∷ n ∷ l ∷ more) are e =
        let same : record { number = a; subject = b; from = c; date = d; id = i; bytes = n } ≡ f = cc in
        subst (λ (g : Fields). HasFields line g) same (record { references = r; lines = l; more = more; are = are })

-- where nothing is read there are fewer
pub unread_are_few : (line : List ℕ) → fields_of line ≡ None → length (slice_split is_tab line) < 8
unfolding fields_of
unread_are_few line none = by_fields (slice_split is_tab line) none
  where
    by_fields : (fields : List (List ℕ)) → read_fields fields ≡ None → length fields < 8
    by_fields [] e = lit< tt
    by_fields (a ∷ []) e = omega arith
    by_fields (a ∷ b ∷ []) e = omega arith
    by_fields (a ∷ b ∷ c ∷ []) e = omega arith
    by_fields (a ∷ b ∷ c ∷ d ∷ []) e = omega arith
    by_fields (a ∷ b ∷ c ∷ d ∷ i ∷ []) e = omega arith
    by_fields (a ∷ b ∷ c ∷ d ∷ i ∷ r ∷ []) e = omega arith
    by_fields (a ∷ b ∷ c ∷ d ∷ i ∷ r ∷ n ∷ []) e = omega arith
    by_fields (a ∷ b ∷ c ∷ d ∷ i ∷ r ∷ n ∷ l ∷ more) e =
        absurd (some_fields e)
      where
        some_fields : {g : Fields} → Some g ≡ None → ⊥
        some_fields e = cc

-- a field is no longer than its line
pub fields_are_short : (line : List ℕ) (f : Fields) → HasFields line f → (length f.subject ≤ length line) × (length f.from ≤ length line) × (length f.date ≤ length line)
fields_are_short line f has =
    let from_id = join_with_byte 9 (f.id ∷ has.references ∷ f.bytes ∷ has.lines ∷ has.more) in
    let whole = ap (λ (t : List ℕ). length t) has.are.joined in
    let one = length-append f.number (9 ∷ (f.subject ++ 9 ∷ (f.from ++ 9 ∷ (f.date ++ 9 ∷ from_id)))) in
    let two = length-append f.subject (9 ∷ (f.from ++ 9 ∷ (f.date ++ 9 ∷ from_id))) in
    let three = length-append f.from (9 ∷ (f.date ++ 9 ∷ from_id)) in
    let four = length-append f.date (9 ∷ from_id) in
    (omega (arith, whole, one, two), omega (arith, whole, one, two, three), omega (arith, whole, one, two, three, four))
