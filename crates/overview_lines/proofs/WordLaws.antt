-- The words of a date: cut at spaces, they are its parts.
use Rattle.std.proofs.Common.{◌≡◌, ◌≤◌, ◌<◌, ℕ, suc, ◌+◌, ◌==◌, Bool, true, false, List, [], ◌∷◌, ◌++◌, length, take, drop, get_or, refl, sym, ◌∙◌, ap, arith, drop-cons, take-append-drop, length-drop}
use Rattle.std.specs.Prelude.{not}
use Rattle.std.specs.List.{list_all, position_or_len, prefix_len}
use Rattle.std.proofs.Math.Seq.{drop-append_seam, take-append_seam}
use Rattle.std.proofs.lemmas.Bool.{and_parts}
use Rattle.std.proofs.lemmas.List.{append-nil, take_all}
use Rattle.std.proofs.lemmas.List.Folds.{length-prefix_len}
use Rattle.std.proofs.lemmas.List.Sums.{prefix_len_stops}
use Rattle.nntp_lines.specs.StatusLine.{is_end_or_space}
use Rattle.overview_lines.specs.Date.{behind_word, first_word, is_space, without_spaces}
use Rattle.overview_lines.specs.DateParts.{AreSpaces}
use Rattle.overview_lines.proofs.Fronts.{prefix_seam, prefix_whole}
use Rattle.overview_lines.proofs.PartLaws.{IsPlainWord}

abbrev pub unspaced : ℕ → Bool
unspaced byte = not (is_space byte)

-- ---- what a text begins with

-- what passes a test, and then as much as passes behind it
prefix_more : (p : ℕ → Bool) (xs ys : List ℕ) → list_all p xs ≡ true → prefix_len p (xs ++ ys) ≡ length xs + prefix_len p ys
prefix_more p [] ys all = omega arith
prefix_more p (x ∷ xs) ys all =
    let parts = and_parts (p x) (list_all p xs) all in
    let rest = prefix_more p xs ys parts.1 in
    rw parts.0 (omega (arith, rest))

-- what is taken while it passes, passes
prefix_passes : (p : ℕ → Bool) (xs : List ℕ) → list_all p (take (prefix_len p xs) xs) ≡ true
prefix_passes p [] = refl
prefix_passes p (x ∷ xs) = by_test (p x) refl (prefix_passes p xs)
  where
    by_test : (test : Bool) → p x ≡ test → list_all p (take (prefix_len p xs) xs) ≡ true → list_all p (take (prefix_len p (x ∷ xs)) (x ∷ xs)) ≡ true
    by_test false e rest = rw e refl
    by_test true e rest =
        let one : 1 + prefix_len p xs ≡ suc (prefix_len p xs) = omega arith in
        rw e (rw one (rw e rest))

-- a plain word begins with no space
pub no_space_first : (word rest : List ℕ) → IsPlainWord word → prefix_len is_space (word ++ rest) ≡ 0
no_space_first word rest h = go word h.some h.unspaced
  where
    not_false : (test : Bool) → not test ≡ true → test ≡ false
    not_false false e = refl
    not_false true e = sym e

    go : (word : List ℕ) → 1 ≤ length word → list_all unspaced word ≡ true → prefix_len is_space (word ++ rest) ≡ 0
    go [] some all = absurd (omega arith)
    go (w ∷ ws) some all = rw (not_false (w == 32) ((and_parts (unspaced w) (list_all unspaced ws) all).0)) refl

-- ---- one word

-- a word, spaces, and what begins with no space
pub word_seam : (word gap rest : List ℕ) → list_all unspaced word ≡ true → AreSpaces gap → prefix_len is_space rest ≡ 0 → (first_word (word ++ (gap ++ rest)) ≡ word) × (behind_word (word ++ (gap ++ rest)) ≡ rest)
word_seam word [] rest plain spaces starts = absurd (omega (arith, spaces.some))
word_seam word (g ∷ gs) rest plain spaces starts = (rw at (take-append_seam word (g ∷ (gs ++ rest))), rw (at, drop-append_seam word (g ∷ (gs ++ rest))) behind)
  where
    is_gap : (g == 32) ≡ true
    is_gap = (and_parts (g == 32) (list_all is_space gs) spaces.all).0

    stops : unspaced g ≡ false
    stops = rw is_gap refl

    at : prefix_len unspaced (word ++ g ∷ (gs ++ rest)) ≡ length word
    at = prefix_seam unspaced word g (gs ++ rest) plain stops

    behind : without_spaces ((g ∷ gs) ++ rest) ≡ rest
    behind =
        let long : prefix_len is_space ((g ∷ gs) ++ rest) ≡ length (g ∷ gs) = omega (arith, prefix_more is_space (g ∷ gs) rest spaces.all, starts) in
        rw long (drop-append_seam (g ∷ gs) rest)

-- a word at the end, or before a space
pub last_seam : (word behind : List ℕ) → list_all unspaced word ≡ true → is_end_or_space behind ≡ true → first_word (word ++ behind) ≡ word
last_seam word [] plain ended = rw append-nil (rw (prefix_whole unspaced word plain) (take_all (length word) word (omega arith)))
last_seam word (space ∷ rest) plain ended =
    let stops : unspaced space ≡ false = rw ended refl in
    rw (prefix_seam unspaced word space rest plain stops) (take-append_seam word (space ∷ rest))

-- a text is its first word, spaces, and what stands behind them
pub record IsCut (text : List ℕ) : Type 0 where
  pub gap : List ℕ
  pub whole : text ≡ first_word text ++ (gap ++ behind_word text)
  pub all : list_all is_space gap ≡ true
  pub some : 1 ≤ length (behind_word text) → 1 ≤ length gap

pub cut : (text : List ℕ) → IsCut text
cut text = record {
  gap = take spaces rest;
  whole = sym (take-append-drop at text) ∙ ap (λ (t : List ℕ). take at text ++ t) (sym (take-append-drop spaces rest));
  all = prefix_passes is_space rest;
  some = some;
}
  where
    at : ℕ
    at = position_or_len is_space text

    rest : List ℕ
    rest = drop at text

    spaces : ℕ
    spaces = prefix_len is_space rest

    begins : at < length text → prefix_len is_space rest ≡ 1 + prefix_len is_space (drop (suc at) text)
    begins inside =
        let here = prefix_len_stops unspaced text 0 inside in
        rw (drop-cons text at 0) (rw (is_so (get_or text at 0 == 32) here) refl)
      where
        is_so : (test : Bool) → not test ≡ false → test ≡ true
        is_so true e = refl
        is_so false e = sym e

    some : 1 ≤ length (drop spaces rest) → 1 ≤ length (take spaces rest)
    some more =
        let inside : at < length text = omega (arith, more, length-drop spaces rest, length-drop at text) in
        omega (arith, begins inside, length-prefix_len is_space rest)
