-- What a header line says, by its numbers and its name.
use Rattle.std.proofs.Common.{◌≡◌, ℕ, Bool, true, false, not, List, [], ◌∷◌, drop, Option, Some, None, Ok, Err, refl, sym, ◌∙◌, ap, inl, inr, subst, find, is_some, nat_eq, option_and_then, unwrap_or, option_map, cond, if◌then◌else◌}
use Rattle.std.proofs.lemmas.Bool.{cases_Bool}
use Rattle.std.specs.List.{list_any, slice_split, starts_with}
use Rattle.numbers.specs.Numbers.{or_zero}
use Rattle.yenc_lines.specs.declared.key.Key.{Key}
use Rattle.yenc_lines.specs.declared.key.Key.TheVariants as key
use Rattle.yenc_lines.specs.declared.key.KeyFault.{KeyFault}
use Rattle.yenc_lines.specs.declared.key.KeyFault.TheVariants.{NotIt, NoItem}
use Rattle.yenc_lines.specs.declared.keyword.Begin.{Begin}
use Rattle.yenc_lines.specs.Keywords.{Item, same_key, is_space, item_of, items_in, items_of, ybegin, number_of, number_in, name_in, item_fault, value_fault, first_item_fault, missing_key, key_fault_of, or_else, unless_fault, begin_of}
use Rattle.yenc_lines.specs.Gathered.{given, gathered, nothing, plain_of, named_of, missing_in, begin_with}
use Rattle.yenc_lines.proofs.GatherLaws.{same_is, same_sym, HasNoName, Tells, tells, fails, at_first, given_nothing}

-- ---- a name is the last item

abbrev pub NameIsLast : List Item → Type 0
NameIsLast [] = Unit {0}
NameIsLast (item ∷ items) = (same_key item.key key.Name ≡ true → items ≡ []) × NameIsLast items

differ : (b : Bool) → b ≡ false → b ≡ true → ⊥
differ b e f = cc

name_last : (known : List Key) (pieces : List (List ℕ)) → NameIsLast (items_in known pieces)
name_last known [] = tt
name_last known (piece ∷ more) = by_item (name_last known more) (item_of known piece) refl
  where
    by_key : NameIsLast (items_in known more) → (item : Item) (test : Bool) → item_of known piece ≡ Some item → same_key item.key key.Name ≡ test → NameIsLast (items_in known (piece ∷ more))
    by_key later item true is named = rw (is, named) (λ e. refl, tt)
    by_key later item false is plain = rw (is, plain) (λ e. absurd (differ (same_key item.key key.Name) plain e), later)

    by_item : NameIsLast (items_in known more) → (found : Option Item) → item_of known piece ≡ found → NameIsLast (items_in known (piece ∷ more))
    by_item later None is = rw is later
    by_item later (Some item) is = by_key later item (same_key item.key key.Name) is refl

-- ---- the plain items, and the name

abbrev pub name_fault : Option (List ℕ) → Option KeyFault
name_fault None = None
name_fault (Some name) = value_fault key.Name name

abbrev pub or_nothing : Option (List ℕ) → List ℕ
or_nothing None = []
or_nothing (Some name) = name

or_else_assoc : (a b c : Option KeyFault) → or_else a (or_else b c) ≡ or_else (or_else a b) c
or_else_assoc None b c = refl
or_else_assoc (Some x) b c = refl

or_else_nothing : (a : Option KeyFault) → or_else a None ≡ a
or_else_nothing None = refl
or_else_nothing (Some x) = refl

name_item_fault : (earlier : List Key) (item : Item) → list_any (same_key key.Name) earlier ≡ false → same_key item.key key.Name ≡ true → item_fault earlier item ≡ value_fault key.Name item.value
name_item_fault earlier item free named =
    subst (λ (k : Key). item_fault earlier (record { key = k; value = item.value }) ≡ value_fault key.Name item.value) (sym (same_is item.key key.Name named)) (rw free refl)

fault_split : (earlier : List Key) (items : List Item) → NameIsLast items → list_any (same_key key.Name) earlier ≡ false →
    first_item_fault earlier items ≡ or_else (first_item_fault earlier (plain_of items)) (name_fault (named_of items))
fault_split earlier [] last free = refl
fault_split earlier (item ∷ items) last free = elim (cases_Bool (same_key item.key key.Name)) [
  | inl named ↦ rw (named, last.0 named, name_item_fault earlier item free named) (or_else_nothing (value_fault key.Name item.value))
  | inr plain ↦
      let still : list_any (same_key key.Name) (item.key ∷ earlier) ≡ false = rw (same_sym key.Name item.key, plain) free in
      rw plain
      (ap (or_else (item_fault earlier item)) (fault_split (item.key ∷ earlier) items last.1 still)
      ∙ or_else_assoc (item_fault earlier item) (first_item_fault (item.key ∷ earlier) (plain_of items)) (name_fault (named_of items)))
]

not_named : (item : Item) (k : Key) → same_key k key.Name ≡ false → same_key item.key key.Name ≡ true → same_key k item.key ≡ false
not_named item k plain named = subst (λ (j : Key). same_key k j ≡ false) (sym (same_is item.key key.Name named)) plain

find_plain : (k : Key) (items : List Item) → same_key k key.Name ≡ false → find (λ item. same_key k item.key) items ≡ find (λ item. same_key k item.key) (plain_of items)
find_plain k [] plain = refl
find_plain k (item ∷ items) plain = elim (cases_Bool (same_key item.key key.Name)) [
  | inl named ↦ rw (named, not_named item k plain named) (find_plain k items plain)
  | inr other ↦ elim (cases_Bool (same_key k item.key)) [
    | inl same ↦ rw (other, same) refl
    | inr differs ↦ rw (other, differs) (find_plain k items plain)
  ]
]

any_plain : (k : Key) (items : List Item) → same_key k key.Name ≡ false → list_any (λ item. same_key k item.key) items ≡ list_any (λ item. same_key k item.key) (plain_of items)
any_plain k [] plain = refl
any_plain k (item ∷ items) plain = elim (cases_Bool (same_key item.key key.Name)) [
  | inl named ↦ rw (named, not_named item k plain named) (any_plain k items plain)
  | inr other ↦ elim (cases_Bool (same_key k item.key)) [
    | inl same ↦ rw (other, same) refl
    | inr differs ↦ rw (other, differs) (any_plain k items plain)
  ]
]

any_named : (items : List Item) → list_any (λ item. same_key key.Name item.key) items ≡ is_some (named_of items)
any_named [] = refl
any_named (item ∷ items) = elim (cases_Bool (same_key item.key key.Name)) [
  | inl named ↦ rw (same_sym key.Name item.key, named) refl
  | inr other ↦ rw (same_sym key.Name item.key, other) (any_named items)
]

name_in_is : (items : List Item) → name_in items ≡ or_nothing (named_of items)
name_in_is [] = refl
name_in_is (item ∷ items) = elim (cases_Bool (same_key item.key key.Name)) [
  | inl named ↦ rw named refl
  | inr other ↦ rw other (name_in_is items)
]

plain_is : (items : List Item) → HasNoName (plain_of items)
plain_is [] = tt
plain_is (item ∷ items) = elim (cases_Bool (same_key item.key key.Name)) [
  | inl named ↦ rw named (plain_is items)
  | inr other ↦ rw other (other, plain_is items)
]

-- ---- a header line

-- what is wrong with a header line
header_fault : (line : List ℕ) → starts_with nat_eq line ybegin.word ≡ true →
    key_fault_of ybegin line ≡ or_else (or_else (first_item_fault [] (plain_of (items_of ybegin line))) (name_fault (named_of (items_of ybegin line)))) (missing_key ybegin.required (items_of ybegin line))
header_fault line is = rw (is, fault_split [] (items_of ybegin line) (name_last ybegin.known (slice_split is_space (drop 8 line))) refl) refl

pub begin_fails : (line : List ℕ) (f : KeyFault) → starts_with nat_eq line ybegin.word ≡ true → gathered nothing (plain_of (items_of ybegin line)) ≡ Err f → Err f ≡ begin_of line
unfolding begin_of
begin_fails line f is e =
    let fault = header_fault line is in
    let first = fails [] nothing (plain_of (items_of ybegin line)) f at_first (plain_is (items_of ybegin line)) e in
    rw (fault, first) refl

by_parts : (size name : Bool) → option_map NoItem (cond (not size) (Some key.Size) (cond (not name) (Some key.Name) None)) ≡ (if size then (if name then None else Some (NoItem key.Name)) else Some (NoItem key.Size))
by_parts true true = refl
by_parts true false = refl
by_parts false true = refl
by_parts false false = refl

header_missing : (items : List Item) (numbers : List (Option ℕ)) → Tells [] nothing (plain_of items) numbers →
    missing_key ybegin.required items ≡ (if is_some (given numbers key.Size) then (if is_some (named_of items) then None else Some (NoItem key.Name)) else Some (NoItem key.Size))
header_missing items numbers t =
    let size : list_any (λ item. same_key key.Size item.key) items ≡ is_some (given numbers key.Size) = any_plain key.Size items refl ∙ sym (t.has key.Size) in
    rw (size, any_named items) (by_parts (is_some (given numbers key.Size)) (is_some (named_of items)))

header_number : (k : Key) (items : List Item) (numbers : List (Option ℕ)) → same_key k key.Name ≡ false → Tells [] nothing (plain_of items) numbers → given numbers k ≡ number_in items k
header_number k items numbers plain t =
    let value : given numbers k ≡ number_in (plain_of items) k = rw given_nothing at (t.values k) in
    value ∙ sym (ap (option_and_then (λ (item : Item). number_of k item.value)) (find_plain k items plain))

-- the number of a key in a header line
pub header_given : (line : List ℕ) (numbers : List (Option ℕ)) (k : Key) → same_key k key.Name ≡ false → gathered nothing (plain_of (items_of ybegin line)) ≡ Ok numbers → given numbers k ≡ number_in (items_of ybegin line) k
header_given line numbers k plain e = header_number k (items_of ybegin line) numbers plain (tells [] nothing (plain_of (items_of ybegin line)) numbers at_first (plain_is (items_of ybegin line)) e)

header_read : (line : List ℕ) (numbers : List (Option ℕ)) → starts_with nat_eq line ybegin.word ≡ true → gathered nothing (plain_of (items_of ybegin line)) ≡ Ok numbers →
    begin_of line ≡ unless_fault (or_else (name_fault (named_of (items_of ybegin line))) (if is_some (given numbers key.Size) then (if is_some (named_of (items_of ybegin line)) then None else Some (NoItem key.Name)) else Some (NoItem key.Size)))
    (record { part = given numbers key.Part; total = given numbers key.Total; line = given numbers key.Line; size = or_zero (given numbers key.Size); name = or_nothing (named_of (items_of ybegin line)) })
unfolding begin_of
header_read line numbers is e =
    let t = tells [] nothing (plain_of (items_of ybegin line)) numbers at_first (plain_is (items_of ybegin line)) e in
    let fault = header_fault line is in
    let first = t.fault in
    let lacks = header_missing (items_of ybegin line) numbers t in
    let part = header_number key.Part (items_of ybegin line) numbers refl t in
    let total = header_number key.Total (items_of ybegin line) numbers refl t in
    let typical = header_number key.Line (items_of ybegin line) numbers refl t in
    let size = header_number key.Size (items_of ybegin line) numbers refl t in
    rw (fault, first, lacks, part, total, typical, size, name_in_is (items_of ybegin line)) refl

by_size_nameless : (size : Option ℕ) (x : Begin) → Err (unwrap_or (option_map NoItem (cond (not (is_some size)) (Some key.Size) None)) (NoItem key.Name))
    ≡ unless_fault (if is_some size then Some (NoItem key.Name) else Some (NoItem key.Size)) x
by_size_nameless None x = refl
by_size_nameless (Some n) x = refl

by_size_named : (size : Option ℕ) (x : Begin) → unless_fault (option_map NoItem (cond (not (is_some size)) (Some key.Size) None)) x ≡ unless_fault (if is_some size then None else Some (NoItem key.Size)) x
by_size_named None x = refl
by_size_named (Some n) x = refl

pub begin_nameless : (line : List ℕ) (numbers : List (Option ℕ)) → starts_with nat_eq line ybegin.word ≡ true → gathered nothing (plain_of (items_of ybegin line)) ≡ Ok numbers →
    named_of (items_of ybegin line) ≡ None → Err (unwrap_or (missing_in (key.Size ∷ []) numbers) (NoItem key.Name)) ≡ begin_of line
begin_nameless line numbers is e named = rw (header_read line numbers is e, named) (by_size_nameless (given numbers key.Size) _)

pub begin_bad_name : (line : List ℕ) (numbers : List (Option ℕ)) (name : List ℕ) (f : KeyFault) → starts_with nat_eq line ybegin.word ≡ true → gathered nothing (plain_of (items_of ybegin line)) ≡ Ok numbers →
    named_of (items_of ybegin line) ≡ Some name → value_fault key.Name name ≡ Some f → Err f ≡ begin_of line
begin_bad_name line numbers name f is e named bad = rw (header_read line numbers is e, named, bad) refl

pub begin_is : (line : List ℕ) (numbers : List (Option ℕ)) (name : List ℕ) → starts_with nat_eq line ybegin.word ≡ true → gathered nothing (plain_of (items_of ybegin line)) ≡ Ok numbers →
    named_of (items_of ybegin line) ≡ Some name → value_fault key.Name name ≡ None → begin_with numbers name ≡ begin_of line
begin_is line numbers name is e named good = rw (header_read line numbers is e, named, good) (by_size_named (given numbers key.Size) _)

pub begin_not : (line : List ℕ) → starts_with nat_eq line ybegin.word ≡ false → Err NotIt ≡ begin_of line
unfolding begin_of
begin_not line is = rw is refl
