-- The index of the files of a grouper.
use Rattle.std.proofs.Common.{◌≡◌, ℕ, ◌==◌, Bool, true, false, cond, List, [], ◌∷◌, get_or, map, filter, find, None, Some, Option, Vec, nat_cmp, option_map, refl, sym, ap, subst, ◌∙◌, eqb-true, arith}
use Rattle.std.specs.BTreeMap.{is_at, values}
use Rattle.std.specs.List.{AllByRecursion, AllZip}
use Rattle.std.specs.List.Sorted.{IsStrictlyIncreasing}
use Rattle.std.specs.Map.{lookup, values_of}
use Rattle.std.specs.Map as map_of
use Rattle.std.proofs.lemmas.Bool.Decides.{nat_tests}
use Rattle.std.proofs.lemmas.Cmp.{nat_cmp_total}
use Rattle.std.proofs.lemmas.List.Elements.{recursion_from_All}
use Rattle.std.proofs.lemmas.Map.Entries.{btree_map_get_place}
use Rattle.std.proofs.lemmas.Map.Keys.{IsStrictlyIncreasing-from_sorted}
use Rattle.std.proofs.lemmas.Option.{none-some, same_Some, slice_get-get_or}
use Rattle.nzb_writer.specs.declared.index.Index.{Index}
use Rattle.nzb_writer.specs.declared.index.Segment.{Segment}
use Rattle.overview_lines.specs.OverLine.{Over}
use Rattle.overview_index.specs.Draft.{IsDraftOf, entry_of}
use Rattle.overview_index.specs.Group.{AreSegments, Counted, IsFileOf, IsIndexOfLines, Key, counted_in, has_key, keys_of, number_of, segment_of}
use Rattle.overview_index.specs.Grouper.{IsEntryOf, HasGrouped}
use Rattle.overview_index.specs.declared.draft.Draft.{Draft}
use Rattle.overview_index.specs.declared.grouper.Grouper.{Grouper}
use Rattle.overview_index.proofs.Drafts.{part_in}

-- ---- what is found among articles

pub find-passes : {A : Type 0} (p : A → Bool) (xs : List A) (x : A) → find p xs ≡ Some x → p x ≡ true
find-passes p [] x h = absurd (none-some x h)
find-passes p (y ∷ ys) x h = by (p y) refl (find-passes p ys x) h
  where
    by : (b : Bool) → p y ≡ b → (find p ys ≡ Some x → p x ≡ true) → cond b (Some y) (find p ys) ≡ Some x → p x ≡ true
    by true e rest is = subst (λ z. p z ≡ true) (same_Some y x is) e
    by false e rest is = rest is

pub find-holds : {A : Type 0} (P : A → Type 0) (p : A → Bool) (xs : List A) (x : A) → AllByRecursion P xs → find p xs ≡ Some x → P x
find-holds P p [] x all h = absurd (none-some x h)
find-holds P p (y ∷ ys) x all h = by (p y) (find-holds P p ys x all.1) h
  where
    by : (b : Bool) → (find p ys ≡ Some x → P x) → cond b (Some y) (find p ys) ≡ Some x → P x
    by true rest is = subst P (same_Some y x is) all.0
    by false rest is = rest is

-- ---- the segments of a file

-- an entry of a file's segments is that of an article
pub record ComesFrom (articles : List Counted) (key : Key) (entry : ℕ × Segment) : Type 0 where
  pub article : Counted
  pub there : part_in key entry.0 articles ≡ Some article
  pub segment : entry.1 ≡ segment_of article

pub segments_come : (articles : List Counted) (key : Key) (draft : Draft) → IsDraftOf articles key draft → AllByRecursion (ComesFrom articles key) draft.segments.entries
segments_come articles key draft is =
    recursion_from_All (ComesFrom articles key) draft.segments.entries (λ i d inside.
    let entry : ℕ × Segment = get_or draft.segments.entries i d in
    comes entry (part_in key entry.0 articles) refl (sym (is.segments entry.0) ∙ btree_map_get_place nat_cmp_total draft.segments i entry.0 entry.1 is.ordered (slice_get-get_or draft.segments.entries i d inside)))
  where
    comes : (entry : ℕ × Segment) (o : Option Counted) → part_in key entry.0 articles ≡ o → option_map segment_of o ≡ Some entry.1 → ComesFrom articles key entry
    comes entry None is h = absurd (none-some entry.1 h)
    comes entry (Some a) is h = record { article = a; there = is; segment = sym (same_Some (segment_of a) entry.1 h) }

tests_agree : (m n : ℕ) → (m == n) ≡ is_at (nat_cmp n) m
tests_agree m n = grind (arith, nat_tests)

comes_numbered : (articles : List Counted) (key : Key) (entry : ℕ × Segment) → ComesFrom articles key entry → entry.1.number ≡ entry.0
comes_numbered articles key entry c =
    ap (λ (s : Segment). s.number) c.segment
    ∙ eqb-true (number_of c.article) entry.0 (find-passes (λ a. number_of a == entry.0) (filter (has_key key) articles) c.article c.there)

module _ (articles : List Counted) (key : Key) where
  numbers_are_keys : (es : List (ℕ × Segment)) → AllByRecursion (ComesFrom articles key) es → map (λ (s : Segment). s.number) (values_of es) ≡ map_of.keys_of es
  numbers_are_keys [] h = refl
  numbers_are_keys (e ∷ es) h =
      let first = comes_numbered articles key e h.0 in
      let rest = numbers_are_keys es h.1 in
      λ i. first i ∷ rest i

  found_by_number : (es : List (ℕ × Segment)) → AllByRecursion (ComesFrom articles key) es → (n : ℕ) → find (λ (s : Segment). s.number == n) (values_of es) ≡ lookup (is_at (nat_cmp n)) es
  found_by_number [] h n = refl
  found_by_number (e ∷ es) h n =
      let number = comes_numbered articles key e h.0 in
      let rest = found_by_number es h.1 n in
      let same : (e.1.number == n) ≡ is_at (nat_cmp n) e.0 = ap (λ m. m == n) number ∙ tests_agree e.0 n in
      λ i. cond (same i) (Some e.1) (rest i)

are_segments : (articles : List Counted) (key : Key) (draft : Draft) → IsDraftOf articles key draft → AreSegments (filter (has_key key) articles) (values draft.segments)
are_segments articles key draft is =
    let come = segments_come articles key draft is in
    record {
      ascending = subst IsStrictlyIncreasing (sym (numbers_are_keys articles key draft.segments.entries come)) (IsStrictlyIncreasing-from_sorted (map_of.keys_of draft.segments.entries) is.ordered);
      each = λ n. found_by_number articles key draft.segments.entries come n ∙ is.segments n;
    }

-- ---- the files

file_is : (group : List ℕ) (articles : List Counted) (key : Key) (draft : Draft) → IsDraftOf articles key draft → IsFileOf group articles key (entry_of group draft)
file_is group articles key draft is = record {
  first = is.first;
  is_first = is.is_first;
  poster = is.begun.poster;
  date = is.begun.date;
  subject = is.begun.subject;
  groups = refl;
  segments = are_segments articles key draft is;
}

files_are : {Z : Type 0} (group : List ℕ) (articles : List Counted) (keys : List Key) (es : List (Vec ℕ Z × Draft)) → AllZip (IsEntryOf articles) keys es
    → AllZip (IsFileOf group articles) keys (map (entry_of group) (values_of es))
files_are group articles [] [] h = tt
files_are group articles [] (e ∷ es) h = absurd h
files_are group articles (key ∷ keys) [] h = absurd h
files_are group articles (key ∷ keys) (e ∷ es) h = (file_is group articles key e.1 h.0.draft, files_are group articles keys es h.1)

pub index_is : (grouper : Grouper) (index : Index) → index.metas ≡ [] → index.files ≡ map (entry_of grouper.group) (values_of grouper.files.entries) → (group : List ℕ) (lines : List Over)
    → HasGrouped grouper group lines → IsIndexOfLines group lines index
index_is grouper index metas files group lines stands = record {
  metas = metas;
  files =
      let of_group : index.files ≡ map (entry_of group) (values_of grouper.files.entries) = files ∙ ap (λ name. map (entry_of name) (values_of grouper.files.entries)) stands.files.group_is in
      subst (AllZip (IsFileOf group (counted_in lines)) (keys_of (counted_in lines))) (sym of_group)
      (files_are group (counted_in lines) (keys_of (counted_in lines)) grouper.files.entries stands.files.files);
}
