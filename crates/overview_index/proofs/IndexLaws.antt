-- A list of lines has one index.
use Rattle.std.proofs.Common.{◌≡◌, ℕ, ◌≤◌, ◌<◌, ◌==◌, inl, inr, cond, ◌⊎◌, List, [], ◌∷◌, map, filter, find, None, Some, Option, Less, nat_cmp, refl, sym, ap, ◌∙◌, arith}
use Rattle.std.specs.List.{AllByRecursion, AllZip}
use Rattle.std.specs.List.Sorted.{IsStrictlySortedBy}
use Rattle.std.proofs.lemmas.Bool.{cases_lt, cases_order, eq-eqb, ne_eqb}
use Rattle.std.proofs.lemmas.Bool.Decides.{nat_tests}
use Rattle.std.proofs.lemmas.Map.Keys.{sorted_from_strictly_increasing, sorted_head, sorted_tail}
use Rattle.std.proofs.lemmas.Option.{none-some, same_Some}
use Rattle.nzb_writer.specs.declared.index.FileEntry.{FileEntry}
use Rattle.nzb_writer.specs.declared.index.Segment.{Segment}
use Rattle.overview_index.specs.Group.{AreSegments, Counted, IsFileOf, Key, OneIndexOfLines, counted_in, has_key, keys_of, seconds_of}

abbrev number_in : Segment → ℕ
number_in s = s.number

abbrev at_number : ℕ → List Segment → Option Segment
at_number n segments = find (λ (s : Segment). s.number == n) segments

-- no number up to n stands among greater ones
not_above : (n : ℕ) (xs : List Segment) → AllByRecursion (λ m. nat_cmp n m ≡ Less) (map number_in xs) → (m : ℕ) → m ≤ n → at_number m xs ≡ None
not_above n [] h m le = refl
not_above n (x ∷ xs) h m le =
    let above : n < x.number = grind (arith, nat_tests, h.0) in
    ap (λ b. cond b (Some x) (at_number m xs)) (ne_eqb x.number m (λ e. absurd (omega arith))) ∙ not_above n xs h.1 m le

module _ (x : Segment) (xs : List Segment) (sorted : IsStrictlySortedBy nat_cmp (map number_in (x ∷ xs))) where
  -- the first has its number
  first_there : at_number x.number (x ∷ xs) ≡ Some x
  first_there = ap (λ b. cond b (Some x) (at_number x.number xs)) (eq-eqb x.number x.number refl)

  -- and none a lesser
  none_below : (m : ℕ) → m < x.number → at_number m (x ∷ xs) ≡ None
  none_below m less =
      ap (λ b. cond b (Some x) (at_number m xs)) (ne_eqb x.number m (λ e. absurd (omega arith)))
      ∙ not_above x.number xs (sorted_head nat_cmp x.number (map number_in xs) sorted) m (omega arith)

  -- what the others have
  others : (m : ℕ) → (m ≤ x.number → at_number m xs ≡ None) × (x.number < m → at_number m (x ∷ xs) ≡ at_number m xs)
  others m = (
    λ le. not_above x.number xs (sorted_head nat_cmp x.number (map number_in xs) sorted) m le,
    λ less. ap (λ b. cond b (Some x) (at_number m xs)) (ne_eqb x.number m (λ e. absurd (omega arith))),
  )

same_segments : (xs ys : List Segment) → IsStrictlySortedBy nat_cmp (map number_in xs) → IsStrictlySortedBy nat_cmp (map number_in ys) → ((n : ℕ) → at_number n xs ≡ at_number n ys) → xs ≡ ys
same_segments [] [] p q h = refl
same_segments [] (y ∷ ys) p q h = absurd (none-some y (h y.number ∙ first_there y ys q))
same_segments (x ∷ xs) [] p q h = absurd (none-some x (sym (h x.number) ∙ first_there x xs p))
same_segments (x ∷ xs) (y ∷ ys) p q h = elim (cases_order x.number y.number) [
  | inl same ↦
      let firsts : x ≡ y = same_Some x y (sym (first_there x xs p) ∙ h x.number ∙ ap (λ n. at_number n (y ∷ ys)) same ∙ first_there y ys q) in
      let behind : (n : ℕ) → at_number n xs ≡ at_number n ys = λ n. rest n (cases_lt x.number n) same in
      let tails = same_segments xs ys (sorted_tail nat_cmp x.number (map number_in xs) p) (sorted_tail nat_cmp y.number (map number_in ys) q) behind in
      λ i. firsts i ∷ tails i
  | inr apart ↦ elim apart [
    | inl less ↦ absurd (none-some x (sym (none_below y ys q x.number less) ∙ sym (h x.number) ∙ first_there x xs p))
    | inr less ↦ absurd (none-some y (sym (none_below x xs p y.number less) ∙ h y.number ∙ first_there y ys q))
  ]
]
  where
    rest : (n : ℕ) → (x.number < n) ⊎ (n ≤ x.number) → x.number ≡ y.number → at_number n xs ≡ at_number n ys
    rest n (inl less) same = sym ((others x xs p n).1 less) ∙ h n ∙ (others y ys q n).1 (omega arith)
    rest n (inr le) same = (others x xs p n).0 le ∙ sym ((others y ys q n).0 (omega arith))

segments_same : (articles : List Counted) (xs ys : List Segment) → AreSegments articles xs → AreSegments articles ys → xs ≡ ys
segments_same articles xs ys p q =
    same_segments xs ys (sorted_from_strictly_increasing (map number_in xs) p.ascending) (sorted_from_strictly_increasing (map number_in ys) q.ascending) (λ n. p.each n ∙ sym (q.each n))

file_same : (group : List ℕ) (articles : List Counted) (key : Key) (one other : FileEntry) → IsFileOf group articles key one → IsFileOf group articles key other → one ≡ other
file_same group articles key one other p q =
    let first : p.first ≡ q.first = same_Some p.first q.first (sym p.is_first ∙ q.is_first) in
    let poster : one.poster ≡ other.poster = p.poster ∙ ap (λ (a : Counted). a.over.from) first ∙ sym q.poster in
    let date : one.date ≡ other.date = p.date ∙ ap (λ (a : Counted). seconds_of a.over.date) first ∙ sym q.date in
    let subject : one.subject ≡ other.subject = p.subject ∙ ap (λ (a : Counted). a.over.subject) first ∙ sym q.subject in
    let groups : one.groups ≡ other.groups = p.groups ∙ sym q.groups in
    let segments : one.segments ≡ other.segments = segments_same (filter (has_key key) articles) one.segments other.segments p.segments q.segments in
    λ i. record { poster = poster i; date = date i; subject = subject i; groups = groups i; segments = segments i }

files_same : (group : List ℕ) (articles : List Counted) (keys : List Key) (xs ys : List FileEntry) → AllZip (IsFileOf group articles) keys xs → AllZip (IsFileOf group articles) keys ys → xs ≡ ys
files_same group articles [] [] [] p q = refl
files_same group articles [] [] (y ∷ ys) p q = absurd q
files_same group articles [] (x ∷ xs) ys p q = absurd p
files_same group articles (key ∷ keys) [] ys p q = absurd p
files_same group articles (key ∷ keys) (x ∷ xs) [] p q = absurd q
files_same group articles (key ∷ keys) (x ∷ xs) (y ∷ ys) p q =
    let firsts = file_same group articles key x y p.0 q.0 in
    let rest = files_same group articles keys xs ys p.1 q.1 in
    λ i. firsts i ∷ rest i

pub one_index : OneIndexOfLines
one_index group lines one other p q =
    let metas : one.metas ≡ other.metas = p.metas ∙ sym q.metas in
    let files : one.files ≡ other.files = files_same group (counted_in lines) (keys_of (counted_in lines)) one.files other.files p.files q.files in
    λ i. record { metas = metas i; files = files i }
