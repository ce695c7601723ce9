-- The items of a line whose known keys have numbers, and what a line of such a kind says.
use Rattle.std.proofs.Common.{◌≡◌, ℕ, Bool, true, false, List, [], ◌∷◌, length, drop, Option, Some, None, Result, Ok, Err, refl, sym, ◌∙◌, ap, inl, inr, subst, option_map, find, bytes_eq, is_some, nat_eq, ◌≤◌, take, take_all}
use Rattle.std.proofs.lemmas.Bool.{cases_Bool, or_parts}
use Rattle.std.specs.List.{list_any, slice_split, starts_with, before_first, after_first}
use Rattle.yenc_lines.specs.declared.key.Key.{Key}
use Rattle.yenc_lines.specs.declared.key.Key.TheVariants as key
use Rattle.yenc_lines.specs.declared.key.KeyFault.{KeyFault}
use Rattle.yenc_lines.specs.declared.key.KeyFault.TheVariants.{NotIt}
use Rattle.yenc_lines.specs.Keywords.{Item, Kind, key_name, same_key, is_equals, is_space, item_of, items_in, items_of, number_in, missing_key, key_fault_of}
use Rattle.yenc_lines.specs.Gathered.{given, gathered, nothing, missing_in}
use Rattle.yenc_lines.proofs.GatherLaws.{same_sym, given_nothing, HasNoName, Tells, tells, fails, at_first, onto}

-- a key that was found among keys that have numbers is not `name`
found_plain : (p : Key → Bool) (known : List Key) (k : Key) → list_any (same_key key.Name) known ≡ false → find p known ≡ Some k → same_key k key.Name ≡ false
found_plain p [] k plain is = absurd (cc)
found_plain p (j ∷ known) k plain is =
    let parts = or_parts (same_key key.Name j) (list_any (same_key key.Name) known) plain in
    elim (cases_Bool (p j)) [
      | inl holds ↦ let e : j ≡ k = some_key (rw holds at is) in subst (λ (i : Key). same_key i key.Name ≡ false) e (same_sym j key.Name ∙ parts.0)
      | inr lacks ↦ found_plain p known k parts.1 (rw lacks at is)
    ]
  where
    some_key : {a b : Key} → Some a ≡ Some b → a ≡ b
    some_key e = cc

pub item_plain : (known : List Key) (piece : List ℕ) (item : Item) → list_any (same_key key.Name) known ≡ false → item_of known piece ≡ Some item → same_key item.key key.Name ≡ false
item_plain known piece item plain is = elim (cases_Bool (list_any is_equals piece)) [
  | inl holds ↦ by_found (find (λ k. bytes_eq (key_name k) (before_first is_equals piece)) known) refl (rw holds at is)
  | inr lacks ↦ absurd (none_item (rw lacks at is))
]
  where
    none_item : None ≡ Some item → ⊥
    none_item e = cc

    some_item : {a b : Item} → Some a ≡ Some b → a ≡ b
    some_item e = cc

    by_found : (found : Option Key) → find (λ k. bytes_eq (key_name k) (before_first is_equals piece)) known ≡ found →
        option_map (λ (k : Key). record { key = k; value = after_first is_equals piece }) found ≡ Some item → same_key item.key key.Name ≡ false
    by_found None f e = absurd (none_item e)
    by_found (Some k) f e = subst (λ (i : Item). same_key i.key key.Name ≡ false) (some_item e) (found_plain _ known k plain f)

-- one piece more, where no key is `name`
pub items_step : (known : List Key) (piece : List ℕ) (more : List (List ℕ)) (found : Option Item) → list_any (same_key key.Name) known ≡ false → item_of known piece ≡ found →
    items_in known (piece ∷ more) ≡ onto found (items_in known more)
items_step known piece more None plain is = rw is refl
items_step known piece more (Some item) plain is = rw (is, item_plain known piece item plain is) refl

pub items_plain : (known : List Key) (pieces : List (List ℕ)) → list_any (same_key key.Name) known ≡ false → HasNoName (items_in known pieces)
items_plain known [] plain = tt
items_plain known (piece ∷ more) plain = by_item (items_plain known more plain) (item_of known piece) refl
  where
    by_item : HasNoName (items_in known more) → (found : Option Item) → item_of known piece ≡ found → HasNoName (items_in known (piece ∷ more))
    by_item later None is = rw is later
    by_item later (Some item) is = rw (is, item_plain known piece item plain is) (item_plain known piece item plain is, later)

-- ---- a line of a kind

pub kind_not : (kind : Kind) (line : List ℕ) → starts_with nat_eq line kind.word ≡ false → key_fault_of kind line ≡ Some NotIt
kind_not kind line lacks = rw lacks refl

pub kind_fails : (kind : Kind) (line : List ℕ) (f : KeyFault) → list_any (same_key key.Name) kind.known ≡ false → starts_with nat_eq line kind.word ≡ true →
    gathered nothing (items_of kind line) ≡ Err f → key_fault_of kind line ≡ Some f
kind_fails kind line f plain is e =
    let fault = fails [] nothing (items_of kind line) f at_first (items_plain kind.known (slice_split is_space (drop (length kind.word) line)) plain) e in
    rw (is, fault) refl

missing_is : (items : List Item) (numbers : List (Option ℕ)) (required : List Key) → Tells [] nothing items numbers → missing_key required items ≡ missing_in required numbers
missing_is items numbers [] t = refl
missing_is items numbers (k ∷ required) t =
    let has : is_some (given numbers k) ≡ list_any (λ item. same_key k item.key) items = rw given_nothing at (t.has k) in
    elim (cases_Bool (list_any (λ item. same_key k item.key) items)) [
      | inl holds ↦ rw (has, holds) (missing_is items numbers required t)
      | inr lacks ↦ rw (has, lacks) refl
    ]

pub kind_told : (kind : Kind) (line : List ℕ) (numbers : List (Option ℕ)) → list_any (same_key key.Name) kind.known ≡ false → starts_with nat_eq line kind.word ≡ true →
    gathered nothing (items_of kind line) ≡ Ok numbers → key_fault_of kind line ≡ missing_in kind.required numbers
kind_told kind line numbers plain is e =
    let t = tells [] nothing (items_of kind line) numbers at_first (items_plain kind.known (slice_split is_space (drop (length kind.word) line)) plain) e in
    rw (is, t.fault) (missing_is (items_of kind line) numbers kind.required t)

pub kind_numbers : (kind : Kind) (line : List ℕ) (numbers : List (Option ℕ)) → list_any (same_key key.Name) kind.known ≡ false →
    gathered nothing (items_of kind line) ≡ Ok numbers → (k : Key) → given numbers k ≡ number_in (items_of kind line) k
kind_numbers kind line numbers plain e k =
    let t = tells [] nothing (items_of kind line) numbers at_first (items_plain kind.known (slice_split is_space (drop (length kind.word) line)) plain) e in
    rw given_nothing at (t.values k)

-- the numbers of the text behind the word
pub kind_text : (kind : Kind) (line : List ℕ) (n : ℕ) (r : Result (List (Option ℕ)) KeyFault) → length (drop (length kind.word) line) ≤ n →
    r ≡ gathered nothing (items_in kind.known (slice_split is_space (take n (drop (length kind.word) line)))) → gathered nothing (items_of kind line) ≡ r
kind_text kind line n r long is = sym (is ∙ ap (λ (t : List ℕ). gathered nothing (items_in kind.known (slice_split is_space t))) (take_all n (drop (length kind.word) line) long))
