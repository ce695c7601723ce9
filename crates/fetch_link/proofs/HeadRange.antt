-- The range that the keyword lines of an article fix is one that can be claimed.
use Rattle.std.proofs.Common.{◌≡◌, ◌≤◌, ◌+◌, ◌^◌, ℕ, Bool, true, false, List, [], ◌∷◌, Option, Some, None, Ok, refl, ap, sym, subst, ◌∙◌, arith}
use Rattle.std.specs.Prelude.{cond, not, ◌&&◌, nat_le, nat_eq, is_some, find, option_map, IfOk}
use Rattle.std.specs.List.{starts_with, list_any}
use Rattle.std.proofs.lemmas.Bool.{leb-true, and_parts}
use Rattle.numbers.specs.Numbers.{decimal_of, or_zero, within}
use Rattle.yenc_lines.specs.declared.key.Key.{Key}
use Rattle.yenc_lines.specs.declared.key.Key.TheVariants as key
use Rattle.yenc_lines.specs.declared.key.KeyFault.{KeyFault}
use Rattle.yenc_lines.specs.declared.key.KeyFault.TheVariants.{NotIt, NoItem, Repeated, BadNumber}
use Rattle.yenc_lines.specs.declared.keyword.Begin.{Begin}
use Rattle.yenc_lines.specs.declared.keyword.PartLine.{PartLine}
use Rattle.yenc_lines.specs.Keywords.{Item, ypart, same_key, number_of, number_in, or_else, unless_fault, items_of, item_fault, value_fault, first_item_fault, missing_key, key_fault_of, begin_of, part_of}
use Rattle.yenc_lines.proofs.GatherLaws.{same_is}
use Rattle.yenc_body.specs.Body.{IsHead, single, several, IsOpened}
use Rattle.fused_decoder.proofs.ReadingLaws.{begin_small}

-- ---- the first offset

begin_number : (o : Option ℕ) → is_some (within 1 1099511627776 o) ≡ true → 1 ≤ or_zero (within 1 1099511627776 o)
begin_number None is = cc
begin_number (Some n) is = by_test (nat_le 1 n && nat_le n 1099511627776) refl is
  where
    by_test : (b : Bool) → (nat_le 1 n && nat_le n 1099511627776) ≡ b → is_some (cond b (Some n) None) ≡ true → 1 ≤ or_zero (cond (nat_le 1 n && nat_le n 1099511627776) (Some n) None)
    by_test true holds is = rw holds (leb-true _ _ (and_parts (nat_le 1 n) (nat_le n 1099511627776) holds).0)
    by_test false holds is = cc

value_there : (b : Bool) (k : Key) → cond b None (Some (BadNumber k)) ≡ None → b ≡ true
value_there true k is = refl
value_there false k is = cc

none_first : (a b : Option KeyFault) → or_else a b ≡ None → (a ≡ None) × (b ≡ None)
none_first None b is = (refl, is)
none_first (Some f) b is = cc

not_repeated : (b : Bool) (k : Key) (value : Option KeyFault) → cond b (Some (Repeated k)) value ≡ None → value ≡ None
not_repeated true k value is = cc
not_repeated false k value is = is

begin_value : (item : Item) → item.key ≡ key.Begin → value_fault item.key item.value ≡ None → 1 ≤ or_zero (number_of key.Begin item.value)
begin_value item same none =
    let begin : value_fault key.Begin item.value ≡ None = ap (λ (k : Key). value_fault k item.value) (sym same) ∙ none in
    begin_number (decimal_of item.value) (value_there (is_some (number_of key.Begin item.value)) key.Begin begin)

begin_found : (earlier : List Key) (items : List Item) → first_item_fault earlier items ≡ None → list_any (λ (item : Item). same_key key.Begin item.key) items ≡ true → 1 ≤ or_zero (number_in items key.Begin)
begin_found earlier [] none any = cc
begin_found earlier (item ∷ items) none any =
    let parts = none_first (item_fault earlier item) (first_item_fault (item.key ∷ earlier) items) none in
    by_test (same_key key.Begin item.key) refl parts.0 any (λ later. begin_found (item.key ∷ earlier) items parts.1 later)
  where
    by_test : (b : Bool) → same_key key.Begin item.key ≡ b → item_fault earlier item ≡ None → list_any (λ (i : Item). same_key key.Begin i.key) (item ∷ items) ≡ true → (list_any (λ (i : Item). same_key key.Begin i.key) items ≡ true → 1 ≤ or_zero (number_in items key.Begin)) → 1 ≤ or_zero (number_in (item ∷ items) key.Begin)
    by_test true is here any behind =
        let same : key.Begin ≡ item.key = same_is key.Begin item.key is in
        let value : value_fault item.key item.value ≡ None = not_repeated (list_any (same_key item.key) earlier) item.key (value_fault item.key item.value) here in
        let own : 1 ≤ or_zero (number_of key.Begin item.value) = begin_value item (sym same) value in
        rw is own
    by_test false is here any behind =
        let later : list_any (λ (i : Item). same_key key.Begin i.key) items ≡ true = sym (rw is refl) ∙ any in
        let own : 1 ≤ or_zero (number_in items key.Begin) = behind later in
        rw is own

begin_there : (b : Bool) (more : Option Key) → option_map NoItem (cond (not b) (Some key.Begin) more) ≡ None → b ≡ true
begin_there true more is = refl
begin_there false more is = cc

pub part_begin : (line : List ℕ) (p : PartLine) → part_of line ≡ Ok p → 1 ≤ p.begin
unfolding part_of
part_begin line p e = by_fault (key_fault_of ypart line) refl e
  where
    no_fault : (b : Bool) → starts_with nat_eq line ypart.word ≡ b → cond b (or_else (first_item_fault [] (items_of ypart line)) (missing_key ypart.required (items_of ypart line))) (Some NotIt) ≡ None → 1 ≤ or_zero (number_in (items_of ypart line) key.Begin)
    no_fault true is none =
        let parts = none_first (first_item_fault [] (items_of ypart line)) (missing_key ypart.required (items_of ypart line)) none in
        begin_found [] (items_of ypart line) parts.0
        (begin_there (list_any (λ (item : Item). same_key key.Begin item.key) (items_of ypart line)) (find (λ k. not (list_any (λ (item : Item). same_key k item.key) (items_of ypart line))) (key.End ∷ [])) parts.1)
    no_fault false is none = cc

    by_fault : (f : Option KeyFault) → key_fault_of ypart line ≡ f → unless_fault f (record { begin = or_zero (number_in (items_of ypart line) key.Begin); end = or_zero (number_in (items_of ypart line) key.End) }) ≡ Ok p → 1 ≤ p.begin
    by_fault None none e =
        let some : 1 ≤ or_zero (number_in (items_of ypart line) key.Begin) = no_fault (starts_with nat_eq line ypart.word) refl none in
        let same : p.begin ≡ or_zero (number_in (items_of ypart line) key.Begin) = cc in rw same some
    by_fault (Some f) is e = absurd cc

-- ---- the size

opened_small : (lines : List (List ℕ)) (b : Begin) → IsOpened lines b → b.size ≤ 1099511627776
opened_small lines b opened = subst (λ found. IfOk found (λ (k : Begin). k.size ≤ 1099511627776)) opened.reading (begin_small opened.line (begin_of opened.line) refl)

pub head_is_a_range : (lines : List (List ℕ)) (b : Begin) (first last : ℕ) → IsHead lines b first last → (1 ≤ first) × (first ≤ last + 1) × (last ≤ b.size) × (b.size ≤ 2 ^ 40)
head_is_a_range lines b first last (single opened part f l range) = let small = opened_small lines b opened in (omega (arith, f), range.0, range.1, omega (arith, small))
head_is_a_range lines b first last (several front line n p are opened part keyword reading f l range) =
    let small = opened_small front b opened in let own = part_begin line p reading in (omega (arith, f, own), range.0, range.1, omega (arith, small))
