-- What a change of one entry makes of the order.
use Rattle.std.proofs.Common.{◌≡◌, ◌≢◌, ◌+◌, ◌<◌, ◌≤◌, ◌⊎◌, inl, inr, zero, suc, ℕ, Bool, true, false, List, [], ◌∷◌, Some, length, refl, ap, sym, subst, ◌∙◌, arith, set}
use Rattle.std.specs.Prelude.{slice_get, cond, insert, remove}
use Rattle.std.proofs.lemmas.Bool.{cases_lt, cases_eq}
use Rattle.range_assembler.specs.declared.assembler.Entry.{Entry}
use Rattle.range_assembler.specs.declared.sequence.Range.{Range}
use Rattle.range_assembler.specs.Order.{Precedes, range_of, is_shown, count_shown, IsOfEntry, IsAmongRanges, IsOrder, IsAbsent}
use Rattle.lists.proofs.OnePlace.{get-set_other, get-set_same}
use Rattle.range_assembler.proofs.Ordering.{has_offset}

pub record IsPast {X : Type 0} (xs : List X) (p k : ℕ) (x : X) : Type 0 where
  pub before : ℕ
  pub next : k ≡ suc before
  pub past : p ≤ before
  pub there : slice_get xs before ≡ Some x

-- where an element of a list with one more comes from
pub came : {X : Type 0} (xs : List X) (p : ℕ) (y : X) (k : ℕ) (x : X) → p ≤ length xs → slice_get (insert xs p y) k ≡ Some x → ((k < p) × (slice_get xs k ≡ Some x)) ⊎ (((k ≡ p) × (y ≡ x)) ⊎ IsPast xs p k x)
came xs zero y zero x low is = let same : y ≡ x = cc in inr (inl (refl, same))
came xs zero y (suc k) x low is = inr (inr record { before = k; next = refl; past = omega arith; there = is })
came [] (suc p) y k x low is = absurd (omega arith)
came (z ∷ xs) (suc p) y zero x low is = let first : 0 < suc p = omega arith in inl (first, is)
came (z ∷ xs) (suc p) y (suc k) x low is = elim (came xs p y k x (omega arith) is) [
  | inl c ↦ (let less : suc k < suc p = omega (arith, c.0) in inl (less, c.1))
  | inr c ↦ elim c [
    | inl d ↦ (let same : suc k ≡ suc p = ap (λ n. suc n) d.0 in inr (inl (same, d.1)))
    | inr d ↦ (let past = d.past in let next = d.next in inr (inr record { before = suc d.before; next = ap (λ n. suc n) next; past = omega (arith, past); there = d.there }))
  ]
]

one_later : (z : Range) (xs : List Range) (x : Range) → IsAmongRanges xs x → IsAmongRanges (z ∷ xs) x
one_later z xs x listed = record { place = suc listed.place; there = listed.there }

pub stays : (xs : List Range) (p : ℕ) (y : Range) (j : ℕ) (x : Range) → slice_get xs j ≡ Some x → IsAmongRanges (insert xs p y) x
stays xs zero y j x is = record { place = suc j; there = is }
stays [] (suc p) y j x is = cc
stays (z ∷ xs) (suc p) y zero x is = record { place = 0; there = is }
stays (z ∷ xs) (suc p) y (suc j) x is = one_later z (insert xs p y) x (stays xs p y j x is)

pub is_new : (xs : List Range) (p : ℕ) (y : Range) → p ≤ length xs → IsAmongRanges (insert xs p y) y
is_new xs zero y low = record { place = 0; there = refl }
is_new [] (suc p) y low = absurd (omega arith)
is_new (z ∷ xs) (suc p) y low = one_later z (insert xs p y) y (is_new xs p y (omega arith))

-- where an element of a list with one less comes from
pub left_over : {X : Type 0} (xs : List X) (p k : ℕ) (x : X) → slice_get (remove xs p) k ≡ Some x → ((k < p) × (slice_get xs k ≡ Some x)) ⊎ ((p ≤ k) × (slice_get xs (suc k) ≡ Some x))
left_over [] zero k x is = cc
left_over [] (suc p) k x is = cc
left_over (z ∷ xs) zero k x is = let low : 0 ≤ k = omega arith in inr (low, is)
left_over (z ∷ xs) (suc p) zero x is = let first : 0 < suc p = omega arith in inl (first, is)
left_over (z ∷ xs) (suc p) (suc k) x is = elim (left_over xs p k x is) [
  | inl c ↦ (let less : suc k < suc p = omega (arith, c.0) in inl (less, c.1))
  | inr c ↦ (let more : suc p ≤ suc k = omega (arith, c.0) in inr (more, c.1))
]

pub remains : (xs : List Range) (p j : ℕ) (x : Range) → slice_get xs j ≡ Some x → j ≢ p → IsAmongRanges (remove xs p) x
remains [] p j x is other = cc
remains (z ∷ xs) zero zero x is other = absurd (other refl)
remains (z ∷ xs) zero (suc j) x is other = record { place = j; there = is }
remains (z ∷ xs) (suc p) zero x is other = record { place = 0; there = is }
remains (z ∷ xs) (suc p) (suc j) x is other = one_later z (remove xs p) x (remains xs p j x is (λ same. other (ap (λ n. suc n) same)))

-- the entry of another segment
stands_other : (entries : List Entry) (i : ℕ) (new : Entry) (range : Range) → IsOfEntry entries range → range.segment ≢ i → IsOfEntry (set entries i new) range
stands_other entries i new range stands other = record { entry = stands.entry; there = get-set_other entries i range.segment new other ∙ stands.there; shown = stands.shown; same = stands.same }

shown_other : (entries : List Entry) (i : ℕ) (old : Entry) (range : Range) → slice_get entries i ≡ Some old → is_shown old ≡ false → IsOfEntry entries range → range.segment ≢ i
shown_other entries i old range is none stands same =
    let there : slice_get entries i ≡ Some stands.entry = subst (λ k. slice_get entries k ≡ Some stands.entry) same stands.there in
    let one : Some old ≡ Some stands.entry = sym is ∙ there in
    let e : old ≡ stands.entry = cc in
    let no_way : false ≡ true = sym none ∙ ap is_shown e ∙ stands.shown in cc

-- no range is that of an entry that shows none
pub absent : (entries : List Entry) (ranges : List Range) (i : ℕ) (old : Entry) → IsOrder entries ranges → slice_get entries i ≡ Some old → is_shown old ≡ false → IsAbsent i ranges
absent entries ranges i old order is none k range there = shown_other entries i old range is none (order.sound k range there)

-- an entry that shows none, before and after
pub order-hidden : (entries : List Entry) (ranges : List Range) (i : ℕ) (old new : Entry) → IsOrder entries ranges → slice_get entries i ≡ Some old → is_shown old ≡ false → is_shown new ≡ false → IsOrder (set entries i new) ranges
order-hidden entries ranges i old new order is none still = record {
  rising = order.rising;
  sound = λ k range there. stands_other entries i new range (order.sound k range there) (absent entries ranges i old order is none k range there);
  whole = λ segment entry there shown. elim (cases_eq segment i) [
    | inl same ↦ (let e : new ≡ entry = (let one : Some new ≡ Some entry = sym (get-set_same entries i new old is) ∙ ap (λ n. slice_get (set entries i new) n) (sym same) ∙ there in cc) in
        let no_way : false ≡ true = sym still ∙ ap is_shown e ∙ shown in cc)
    | inr other ↦ order.whole segment entry (sym (get-set_other entries i segment new other) ∙ there) shown
  ];
}

-- an entry whose range stays
pub order-kept : (entries : List Entry) (ranges : List Range) (i : ℕ) (old new : Entry) → IsOrder entries ranges → slice_get entries i ≡ Some old → is_shown old ≡ true → is_shown new ≡ true → range_of i old ≡ range_of i new → IsOrder (set entries i new) ranges
order-kept entries ranges i old new order is shows still kept = record {
  rising = order.rising;
  sound = λ k range there. let stands = order.sound k range there in elim (cases_eq range.segment i) [
    | inl same ↦ (let here : slice_get entries i ≡ Some stands.entry = subst (λ n. slice_get entries n ≡ Some stands.entry) same stands.there in
        let one : Some old ≡ Some stands.entry = sym is ∙ here in
        let e : old ≡ stands.entry = cc in
        record {
          entry = new;
          there = ap (λ n. slice_get (set entries i new) n) same ∙ get-set_same entries i new old is;
          shown = still;
          same = stands.same ∙ ap (λ n. range_of n stands.entry) same ∙ ap (λ (x : Entry). range_of i x) (sym e) ∙ kept ∙ ap (λ n. range_of n new) (sym same);
        })
    | inr other ↦ stands_other entries i new range stands other
  ];
  whole = λ segment entry there shown. elim (cases_eq segment i) [
    | inl same ↦ (let one : Some new ≡ Some entry = sym (get-set_same entries i new old is) ∙ ap (λ n. slice_get (set entries i new) n) (sym same) ∙ there in
        let e : new ≡ entry = cc in
        let its : range_of i old ≡ range_of segment entry = kept ∙ ap (λ n. range_of n new) (sym same) ∙ ap (λ (x : Entry). range_of segment x) e in
        subst (λ r. IsAmongRanges ranges r) its (order.whole i old is shows))
    | inr other ↦ order.whole segment entry (sym (get-set_other entries i segment new other) ∙ there) shown
  ];
}

-- one more at its place, where each stands so before those behind it
pub more_in_order : (Before : Range → Range → Type 0) (xs : List Range) (p : ℕ) (y : Range) → p ≤ length xs → ((j k : ℕ) (one other : Range) → j < k → slice_get xs j ≡ Some one → slice_get xs k ≡ Some other → Before one other) → ((j : ℕ) (one : Range) → j < p → slice_get xs j ≡ Some one → Before one y) → ((k : ℕ) (other : Range) → p ≤ k → slice_get xs k ≡ Some other → Before y other) → (j k : ℕ) (one other : Range) → j < k → slice_get (insert xs p y) j ≡ Some one → slice_get (insert xs p y) k ≡ Some other → Before one other
more_in_order Before xs p y low rising below above j k one other less first second = elim (came xs p y j one low first) [
  | inl a ↦ elim (came xs p y k other low second) [
    | inl b ↦ rising j k one other less a.1 b.1
    | inr c ↦ elim c [
      | inl b ↦ subst (λ r. Before one r) b.1 (below j one a.0 a.1)
      | inr b ↦ (let past = b.past in let up : j < b.before = omega (arith, a.0, past) in rising j b.before one other up a.1 b.there)
    ]
  ]
  | inr d ↦ elim d [
    | inl a ↦ elim (came xs p y k other low second) [
      | inl b ↦ absurd (omega (arith, less, a.0, b.0))
      | inr c ↦ elim c [
        | inl b ↦ absurd (omega (arith, less, a.0, b.0))
        | inr b ↦ subst (λ r. Before r other) a.1 (above b.before other b.past b.there)
      ]
    ]
    | inr a ↦ (let past = a.past in let next = a.next in elim (came xs p y k other low second) [
      | inl b ↦ absurd (omega (arith, less, past, next, b.0))
      | inr c ↦ elim c [
        | inl b ↦ absurd (omega (arith, less, past, next, b.0))
        | inr b ↦ (let more = b.next in let up : a.before < b.before = omega (arith, less, next, more) in rising a.before b.before one other up a.there b.there)
      ]
    ])
  ]
]

-- an entry shows a range that has its place
pub order-insert : (entries : List Entry) (ranges : List Range) (i p : ℕ) (old new : Entry) → IsOrder entries ranges → slice_get entries i ≡ Some old → is_shown old ≡ false → is_shown new ≡ true → p ≤ length ranges → ((j : ℕ) (one : Range) → j < p → slice_get ranges j ≡ Some one → Precedes one (range_of i new)) → ((k : ℕ) (other : Range) → p ≤ k → slice_get ranges k ≡ Some other → Precedes (range_of i new) other) → IsOrder (set entries i new) (insert ranges p (range_of i new))
order-insert entries ranges i p old new order is none shows low below above = record {
  rising = more_in_order Precedes ranges p (range_of i new) low order.rising below above;
  sound = λ k range there. elim (came ranges p (range_of i new) k range low there) [
    | inl a ↦ stands_other entries i new range (order.sound k range a.1) (absent entries ranges i old order is none k range a.1)
    | inr c ↦ elim c [
      | inl a ↦ subst (λ r. IsOfEntry (set entries i new) r) a.1 (record { entry = new; there = get-set_same entries i new old is; shown = shows; same = refl })
      | inr a ↦ stands_other entries i new range (order.sound a.before range a.there) (absent entries ranges i old order is none a.before range a.there)
    ]
  ];
  whole = λ segment entry there shown. elim (cases_eq segment i) [
    | inl same ↦ (let one : Some new ≡ Some entry = sym (get-set_same entries i new old is) ∙ ap (λ n. slice_get (set entries i new) n) (sym same) ∙ there in
        let e : new ≡ entry = cc in
        let its : range_of i new ≡ range_of segment entry = ap (λ n. range_of n new) (sym same) ∙ ap (λ (x : Entry). range_of segment x) e in
        subst (λ r. IsAmongRanges (insert ranges p (range_of i new)) r) its (is_new ranges p (range_of i new) low))
    | inr other ↦ (let listed = order.whole segment entry (sym (get-set_other entries i segment new other) ∙ there) shown in stays ranges p (range_of i new) listed.place (range_of segment entry) listed.there)
  ];
}

-- no range stands at two places
once : (entries : List Entry) (ranges : List Range) (j k : ℕ) (range : Range) → IsOrder entries ranges → slice_get ranges j ≡ Some range → slice_get ranges k ≡ Some range → j < k → ⊥
once entries ranges j k range order one two less =
    let some = has_offset entries ranges j range order one in
    elim (order.rising j k range range less one two) [
      | inl low ↦ absurd (omega (arith, low))
      | inr low ↦ absurd (omega (arith, low.1, some))
    ]

-- two ranges of one segment stand at one place
one_place : (entries : List Entry) (ranges : List Range) (i j k : ℕ) (old : Entry) (range : Range) → IsOrder entries ranges → slice_get entries i ≡ Some old → slice_get ranges j ≡ Some (range_of i old) → slice_get ranges k ≡ Some range → range.segment ≡ i → j ≢ k → ⊥
one_place entries ranges i j k old range order is here there its other =
    let stands = order.sound k range there in
    let at : slice_get entries i ≡ Some stands.entry = subst (λ n. slice_get entries n ≡ Some stands.entry) its stands.there in
    let one : Some old ≡ Some stands.entry = sym is ∙ at in
    let e : old ≡ stands.entry = cc in
    let same : range ≡ range_of i old = stands.same ∙ ap (λ n. range_of n stands.entry) its ∙ ap (λ (x : Entry). range_of i x) (sym e) in
    let again : slice_get ranges k ≡ Some (range_of i old) = there ∙ ap (λ (r : Range). Some r) same in
    elim (cases_lt j k) [
      | inl less ↦ once entries ranges j k (range_of i old) order here again less
      | inr upto ↦ (let more : k < j = omega (arith, upto, other) in once entries ranges k j (range_of i old) order again here more)
    ]

-- an entry whose range is taken out
pub order-remove : (entries : List Entry) (ranges : List Range) (i p : ℕ) (old new : Entry) → IsOrder entries ranges → slice_get entries i ≡ Some old → is_shown new ≡ false → slice_get ranges p ≡ Some (range_of i old) → IsOrder (set entries i new) (remove ranges p)
order-remove entries ranges i p old new order is none here = record {
  rising = λ j k one other less first second. elim (left_over ranges p j one first) [
    | inl a ↦ elim (left_over ranges p k other second) [
      | inl b ↦ order.rising j k one other less a.1 b.1
      | inr b ↦ (let up : j < suc k = omega (arith, less) in order.rising j (suc k) one other up a.1 b.1)
    ]
    | inr a ↦ elim (left_over ranges p k other second) [
      | inl b ↦ absurd (omega (arith, less, a.0, b.0))
      | inr b ↦ (let up : suc j < suc k = omega (arith, less) in order.rising (suc j) (suc k) one other up a.1 b.1)
    ]
  ];
  sound = λ k range there. elim (left_over ranges p k range there) [
    | inl a ↦ stands_other entries i new range (order.sound k range a.1) (λ its. one_place entries ranges i p k old range order is here a.1 its (λ same. absurd (omega (arith, same, a.0))))
    | inr a ↦ stands_other entries i new range (order.sound (suc k) range a.1) (λ its. one_place entries ranges i p (suc k) old range order is here a.1 its (λ same. absurd (omega (arith, same, a.0))))
  ];
  whole = λ segment entry there shown. elim (cases_eq segment i) [
    | inl same ↦ (let one : Some new ≡ Some entry = sym (get-set_same entries i new old is) ∙ ap (λ n. slice_get (set entries i new) n) (sym same) ∙ there in
        let e : new ≡ entry = cc in
        let no_way : false ≡ true = sym none ∙ ap is_shown e ∙ shown in cc)
    | inr other ↦ (let listed = order.whole segment entry (sym (get-set_other entries i segment new other) ∙ there) shown in
        remains ranges p listed.place (range_of segment entry) listed.there (λ same. other (let again : slice_get ranges p ≡ Some (range_of segment entry) = subst (λ n. slice_get ranges n ≡ Some (range_of segment entry)) same listed.there in
        let two : Some (range_of segment entry) ≡ Some (range_of i old) = sym again ∙ here in
        let e : range_of segment entry ≡ range_of i old = cc in ap (λ (r : Range). r.segment) e)))
  ];
}

-- how many entries show a range
abbrev pub one_if : Bool → ℕ
one_if true = 1
one_if false = 0

count_cons : (entry : Entry) (entries : List Entry) → count_shown (entry ∷ entries) ≡ one_if (is_shown entry) + count_shown entries
count_cons entry entries = elim (is_shown entry) as (λ b. cond b (suc (count_shown entries)) (count_shown entries) ≡ one_if b + count_shown entries) [ true ↦ omega arith | false ↦ omega arith ]

pub count-set : (entries : List Entry) (i : ℕ) (old new : Entry) → slice_get entries i ≡ Some old → count_shown (set entries i new) + one_if (is_shown old) ≡ count_shown entries + one_if (is_shown new)
count-set [] i old new is = cc
count-set (entry ∷ entries) zero old new is =
    let same : entry ≡ old = cc in
    let a = count_cons new entries in
    let b : count_shown (entry ∷ entries) ≡ one_if (is_shown old) + count_shown entries = count_cons entry entries ∙ ap (λ (x : Entry). one_if (is_shown x) + count_shown entries) same in
    omega (arith, a, b)
count-set (entry ∷ entries) (suc i) old new is =
    let a = count_cons entry (set entries i new) in
    let b = count_cons entry entries in
    let c = count-set entries i old new is in
    omega (arith, a, b, c)

one_at_most : (b : Bool) → one_if b ≤ 1
one_at_most true = omega arith
one_at_most false = omega arith

pub count-upto : (entries : List Entry) → count_shown entries ≤ length entries
count-upto [] = omega arith
count-upto (entry ∷ entries) =
    let a = count_cons entry entries in
    let b = one_at_most (is_shown entry) in
    let c = count-upto entries in
    omega (arith, a, b, c)
