-- What the gathered items say of a line.
use Rattle.std.proofs.Common.{◌≡◌, ◌<◌, ℕ, subst, Bool, if◌then◌else◌, true, false, ◌||◌, eqb, List, [], ◌∷◌, length, Option, Some, None, Result, Ok, Err, refl, sym, ◌∙◌, ap, inl, inr, arith, is_some, length-set, get_or-set_same, get_or-set_other, slice_set}
use Rattle.std.proofs.lemmas.Bool.{cases_Bool, eqb-false}
use Rattle.std.specs.List.{list_any}
use Rattle.yenc_lines.specs.declared.key.Key.{Key}
use Rattle.yenc_lines.specs.declared.key.Key.TheVariants as key
use Rattle.yenc_lines.specs.declared.key.KeyFault.{KeyFault}
use Rattle.yenc_lines.specs.declared.key.KeyFault.TheVariants.{BadNumber, Repeated}
use Rattle.yenc_lines.specs.Keywords.{Item, same_key, number_of, number_in, item_fault, value_fault, first_item_fault, or_else}
use Rattle.yenc_lines.specs.Gathered.{place, given, put_fault, gathered, taken, unless, with_number, nothing}

-- ---- keys by their places

pub same_place : (j k : Key) → same_key j k ≡ eqb (place j) (place k)
same_place key.Part key.Part = refl
same_place key.Part _ = refl
same_place key.Total key.Total = refl
same_place key.Total _ = refl
same_place key.Line key.Line = refl
same_place key.Line _ = refl
same_place key.Size key.Size = refl
same_place key.Size _ = refl
same_place key.Name key.Name = refl
same_place key.Name _ = refl
same_place key.Begin key.Begin = refl
same_place key.Begin _ = refl
same_place key.End key.End = refl
same_place key.End _ = refl
same_place key.Pcrc32 key.Pcrc32 = refl
same_place key.Pcrc32 _ = refl
same_place key.Crc32 key.Crc32 = refl
same_place key.Crc32 _ = refl

pub same_is : (j k : Key) → same_key j k ≡ true → j ≡ k
same_is key.Part key.Part same = refl
same_is key.Part _ same = absurd (cc)
same_is key.Total key.Total same = refl
same_is key.Total _ same = absurd (cc)
same_is key.Line key.Line same = refl
same_is key.Line _ same = absurd (cc)
same_is key.Size key.Size same = refl
same_is key.Size _ same = absurd (cc)
same_is key.Name key.Name same = refl
same_is key.Name _ same = absurd (cc)
same_is key.Begin key.Begin same = refl
same_is key.Begin _ same = absurd (cc)
same_is key.End key.End same = refl
same_is key.End _ same = absurd (cc)
same_is key.Pcrc32 key.Pcrc32 same = refl
same_is key.Pcrc32 _ same = absurd (cc)
same_is key.Crc32 key.Crc32 same = refl
same_is key.Crc32 _ same = absurd (cc)

pub same_key_self : (k : Key) → same_key k k ≡ true
same_key_self key.Part = refl
same_key_self key.Total = refl
same_key_self key.Line = refl
same_key_self key.Size = refl
same_key_self key.Name = refl
same_key_self key.Begin = refl
same_key_self key.End = refl
same_key_self key.Pcrc32 = refl
same_key_self key.Crc32 = refl

place_inside : (k : Key) → place k < 9
place_inside key.Part = omega arith
place_inside key.Total = omega arith
place_inside key.Line = omega arith
place_inside key.Size = omega arith
place_inside key.Name = omega arith
place_inside key.Begin = omega arith
place_inside key.End = omega arith
place_inside key.Pcrc32 = omega arith
place_inside key.Crc32 = omega arith

pub same_sym : (j k : Key) → same_key j k ≡ same_key k j
same_sym key.Part key.Part = refl
same_sym key.Part _ = refl
same_sym key.Total key.Total = refl
same_sym key.Total _ = refl
same_sym key.Line key.Line = refl
same_sym key.Line _ = refl
same_sym key.Size key.Size = refl
same_sym key.Size _ = refl
same_sym key.Name key.Name = refl
same_sym key.Name _ = refl
same_sym key.Begin key.Begin = refl
same_sym key.Begin _ = refl
same_sym key.End key.End = refl
same_sym key.End _ = refl
same_sym key.Pcrc32 key.Pcrc32 = refl
same_sym key.Pcrc32 _ = refl
same_sym key.Crc32 key.Crc32 = refl
same_sym key.Crc32 _ = refl

pub given_nothing : (k : Key) → given nothing k ≡ None
given_nothing key.Part = refl
given_nothing key.Total = refl
given_nothing key.Line = refl
given_nothing key.Size = refl
given_nothing key.Name = refl
given_nothing key.Begin = refl
given_nothing key.End = refl
given_nothing key.Pcrc32 = refl
given_nothing key.Crc32 = refl

given_same : (numbers : List (Option ℕ)) (k : Key) (v : Option ℕ) → length numbers ≡ 9 → given (slice_set numbers (place k) v) k ≡ v
given_same numbers k v long = let inside : place k < length numbers = omega (arith, place_inside k) in rw get_or-set_same refl

given_other : (numbers : List (Option ℕ)) (j k : Key) (v : Option ℕ) → same_key k j ≡ false → given (slice_set numbers (place j) v) k ≡ given numbers k
given_other numbers j k v other = get_or-set_other numbers (place j) (place k) v None (λ e. eqb-false _ _ (sym (same_place k j) ∙ other) e)

-- ---- the state and the keys before

-- the keys that stood before are those that gave a number
pub record Matches (earlier : List Key) (numbers : List (Option ℕ)) : Type 0 where
  pub long : length numbers ≡ 9
  pub are : (k : Key) → list_any (same_key k) earlier ≡ is_some (given numbers k)

value_fault_is : (k : Key) (value : List ℕ) → same_key k key.Name ≡ false → value_fault k value ≡ (if is_some (number_of k value) then None else Some (BadNumber k))
value_fault_is key.Part value other = refl
value_fault_is key.Total value other = refl
value_fault_is key.Line value other = refl
value_fault_is key.Size value other = refl
value_fault_is key.Name value other = absurd (cc)
value_fault_is key.Begin value other = refl
value_fault_is key.End value other = refl
value_fault_is key.Pcrc32 value other = refl
value_fault_is key.Crc32 value other = refl

put_parts : (given number : Option ℕ) (k : Key) → (if is_some given then Some (Repeated k) else (if is_some number then None else Some (BadNumber k))) ≡ None → (given ≡ None) × (is_some number ≡ true)
put_parts None None k e = absurd (cc)
put_parts None (Some n) k e = (refl, refl)
put_parts (Some m) n k e = absurd (cc)

-- an item that is no name fails by the keys before it as it does by the numbers
fault_is : (earlier : List Key) (numbers : List (Option ℕ)) (item : Item) → Matches earlier numbers → same_key item.key key.Name ≡ false →
    item_fault earlier item ≡ put_fault numbers item.key item.value
fault_is earlier numbers item m other = rw (m.are item.key, value_fault_is item.key item.value other) refl

set_there : (numbers : List (Option ℕ)) (item : Item) (k : Key) → length numbers ≡ 9 → same_key k item.key ≡ true → given (with_number numbers item) k ≡ number_of k item.value
set_there numbers item k long same =
    let is : item.key ≡ k = sym (same_is k item.key same) in
    subst (λ (j : Key). given (with_number numbers item) j ≡ number_of j item.value) is (given_same numbers item.key (number_of item.key item.value) long)

some_there : (item : Item) (k : Key) → same_key k item.key ≡ true → is_some (number_of item.key item.value) ≡ true → is_some (number_of k item.value) ≡ true
some_there item k same some = subst (λ (j : Key). is_some (number_of j item.value) ≡ true) (sym (same_is k item.key same)) some

-- the keys and the numbers behind an item that didn't fail
after_item : (earlier : List Key) (numbers : List (Option ℕ)) (item : Item) → Matches earlier numbers → put_fault numbers item.key item.value ≡ None →
    Matches (item.key ∷ earlier) (with_number numbers item)
after_item earlier numbers item m none =
    let parts = put_parts (given numbers item.key) (number_of item.key item.value) item.key none in
    record {
      long = length-set numbers (place item.key) (number_of item.key item.value) ∙ m.long;
      are = λ k. elim (cases_Bool (same_key k item.key)) [
        | inl same ↦ rw same (sym (ap is_some (set_there numbers item k m.long same) ∙ some_there item k same parts.1))
        | inr differs ↦ rw differs (m.are k ∙ ap is_some (sym (given_other numbers item.key k (number_of item.key item.value) differs)))
      ];
    }

-- ---- all items

-- the items behind what may be an item
abbrev pub onto : Option Item → List Item → List Item
onto None items = items
onto (Some item) items = item ∷ items

-- no item is a name
abbrev pub HasNoName : List Item → Type 0
HasNoName [] = Unit {0}
HasNoName (item ∷ items) = (same_key item.key key.Name ≡ false) × HasNoName items

-- what the gathered numbers say
pub record Tells (earlier : List Key) (numbers : List (Option ℕ)) (items : List Item) (now : List (Option ℕ)) : Type 0 where
  pub fault : first_item_fault earlier items ≡ None
  pub values : (k : Key) → given now k ≡ or_else (given numbers k) (number_in items k)
  pub has : (k : Key) → is_some (given now k) ≡ (is_some (given numbers k) || list_any (λ item. same_key k item.key) items)

pub unless_ok : {A : Type 0} (fault : Option KeyFault) (more : Result A KeyFault) (x : A) → unless fault more ≡ Ok x → (fault ≡ None) × (more ≡ Ok x)
unless_ok None more x e = (refl, e)
unless_ok (Some f) more x e = absurd (cc)

or_else_none : (o : Option ℕ) → o ≡ or_else o None
or_else_none None = refl
or_else_none (Some n) = refl

or_else_some : (o x : Option ℕ) → is_some o ≡ true → or_else o x ≡ o
or_else_some None x e = absurd (cc)
or_else_some (Some n) x e = refl

abbrev pub went : List (Option ℕ) → Result (List (Option ℕ)) KeyFault
went numbers = Ok numbers

abbrev pub broke : KeyFault → Result (List (Option ℕ)) KeyFault
broke f = Err f

pub ok_same : (a b : List (Option ℕ)) → went a ≡ went b → a ≡ b
ok_same a b e = cc

pub err_same : (f g : KeyFault) → broke f ≡ broke g → f ≡ g
err_same f g e = cc

or_false : (b : Bool) → b ≡ (b || false)
or_false true = refl
or_false false = refl

pub tells : (earlier : List Key) (numbers : List (Option ℕ)) (items : List Item) (now : List (Option ℕ)) → Matches earlier numbers → HasNoName items →
    gathered numbers items ≡ Ok now → Tells earlier numbers items now
tells earlier numbers [] now m plain e =
    let is = ok_same numbers now e in
    record {
      fault = refl;
      values = λ k. ap (λ (l : List (Option ℕ)). given l k) (sym is) ∙ or_else_none (given numbers k);
      has = λ k. ap (λ (l : List (Option ℕ)). is_some (given l k)) (sym is) ∙ or_false (is_some (given numbers k));
    }
tells earlier numbers (item ∷ items) now m plain e =
    let none = unless_ok (put_fault numbers item.key item.value) (gathered (with_number numbers item) items) now e in
    let parts = put_parts (given numbers item.key) (number_of item.key item.value) item.key none.0 in
    let later = tells (item.key ∷ earlier) (with_number numbers item) items now (after_item earlier numbers item m none.0) plain.1 none.1 in
    record {
      fault = rw (fault_is earlier numbers item m plain.0, none.0) later.fault;
      values = λ k. later.values k ∙ value_before numbers item items k m.long parts.0 parts.1;
      has = λ k. later.has k ∙ has_before numbers item items k m.long parts.0 parts.1;
    }
  where
    free : (numbers : List (Option ℕ)) (item : Item) (k : Key) → same_key k item.key ≡ true → given numbers item.key ≡ None → given numbers k ≡ None
    free numbers item k same none = subst (λ (j : Key). given numbers j ≡ None) (sym (same_is k item.key same)) none

    value_before : (numbers : List (Option ℕ)) (item : Item) (items : List Item) (k : Key) → length numbers ≡ 9 → given numbers item.key ≡ None → is_some (number_of item.key item.value) ≡ true →
        or_else (given (with_number numbers item) k) (number_in items k) ≡ or_else (given numbers k) (number_in (item ∷ items) k)
    value_before numbers item items k long none some = elim (cases_Bool (same_key k item.key)) [
      | inl same ↦ rw (same, free numbers item k same none, set_there numbers item k long same) (or_else_some (number_of k item.value) (number_in items k) (some_there item k same some))
      | inr differs ↦ rw (differs, given_other numbers item.key k (number_of item.key item.value) differs) refl
    ]

    has_before : (numbers : List (Option ℕ)) (item : Item) (items : List Item) (k : Key) → length numbers ≡ 9 → given numbers item.key ≡ None → is_some (number_of item.key item.value) ≡ true →
        (is_some (given (with_number numbers item) k) || list_any (λ i. same_key k i.key) items) ≡ (is_some (given numbers k) || list_any (λ i. same_key k i.key) (item ∷ items))
    has_before numbers item items k long none some = elim (cases_Bool (same_key k item.key)) [
      | inl same ↦ rw (same, free numbers item k same none, set_there numbers item k long same, some_there item k same some) refl
      | inr differs ↦ rw (differs, given_other numbers item.key k (number_of item.key item.value) differs) refl
    ]

-- and where gathering fails, the first item that fails does so
pub fails : (earlier : List Key) (numbers : List (Option ℕ)) (items : List Item) (f : KeyFault) → Matches earlier numbers → HasNoName items →
    gathered numbers items ≡ Err f → first_item_fault earlier items ≡ Some f
fails earlier numbers [] f m plain e = absurd (cc)
fails earlier numbers (item ∷ items) f m plain e =
    rw (fault_is earlier numbers item m plain.0)
    (by_fault (λ is err. fails (item.key ∷ earlier) (with_number numbers item) items f (after_item earlier numbers item m is) plain.1 err) (put_fault numbers item.key item.value) refl e)
  where
    by_fault : (put_fault numbers item.key item.value ≡ None → gathered (with_number numbers item) items ≡ Err f → first_item_fault (item.key ∷ earlier) items ≡ Some f) →
        (fault : Option KeyFault) → put_fault numbers item.key item.value ≡ fault → unless fault (gathered (with_number numbers item) items) ≡ Err f →
        or_else fault (first_item_fault (item.key ∷ earlier) items) ≡ Some f
    by_fault later None is err = later is err
    by_fault later (Some g) is err = ap Some (err_same g f err)

-- before the first item
pub at_first : Matches [] nothing
at_first = record { long = refl; are = λ k. ap is_some (sym (given_nothing k)) }

-- ---- one piece more

pub onto_goes : (found : Option Item) (items : List Item) (numbers now : List (Option ℕ)) → taken numbers found ≡ Ok now → gathered numbers (onto found items) ≡ gathered now items
onto_goes None items numbers now t = ap (λ (l : List (Option ℕ)). gathered l items) (ok_same numbers now t)
onto_goes (Some item) items numbers now t =
    let parts = unless_ok (put_fault numbers item.key item.value) (Ok (with_number numbers item)) now t in
    ap (λ (f : Option KeyFault). unless f (gathered (with_number numbers item) items)) parts.0 ∙ ap (λ (l : List (Option ℕ)). gathered l items) (ok_same (with_number numbers item) now parts.1)

pub onto_fails : (found : Option Item) (items : List Item) (numbers : List (Option ℕ)) (f : KeyFault) → taken numbers found ≡ Err f → gathered numbers (onto found items) ≡ Err f
onto_fails None items numbers f t = absurd (cc)
onto_fails (Some item) items numbers f t = by_fault (put_fault numbers item.key item.value) t
  where
    by_fault : (fault : Option KeyFault) → unless fault (Ok (with_number numbers item)) ≡ Err f → unless fault (gathered (with_number numbers item) items) ≡ Err f
    by_fault None t = absurd (cc)
    by_fault (Some g) t = ap (λ (h : KeyFault). Err h) (err_same g f t)
