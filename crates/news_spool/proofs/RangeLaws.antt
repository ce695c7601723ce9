-- The reading of a range.
use Rattle.std.proofs.Common.{◌≡◌, ℕ, ◌+◌, ◌-◌, ◌≤◌, List, [], Some, None, length, take, drop, refl, sym, ◌∙◌, ap, arith}
use Rattle.std.specs.Prelude.{Option}
use Rattle.std.specs.List.{position_or_len}
use Rattle.std.proofs.lemmas.List.{length-drop, take_all}
use Rattle.std.proofs.Math.ListN.{drop_of_length-le}
use Rattle.nntp_lines.specs.GroupReply.{number_of}
use Rattle.news_spool.specs.Ranges.{is_hyphen, range_between, range_of}

one_alone : (first : Option ℕ) → range_between first None ≡ None
one_alone None = refl
one_alone (Some first) = refl

pub no_hyphen : (text : List ℕ) (hyphen : ℕ) → hyphen ≡ position_or_len is_hyphen text → length text ≤ hyphen → None ≡ range_of text
unfolding range_of
no_hyphen text hyphen is past =
    let none : drop (position_or_len is_hyphen text + 1) text ≡ [] = drop_of_length-le text (omega (arith, is)) in
    rw none (sym (one_alone (number_of (take (position_or_len is_hyphen text) text))))

pub no_first : (text : List ℕ) (hyphen : ℕ) → hyphen ≡ position_or_len is_hyphen text → None ≡ number_of (take hyphen text) → None ≡ range_of text
unfolding range_of
no_first text hyphen is first =
    ap (λ (n : Option ℕ). range_between n (number_of (drop (position_or_len is_hyphen text + 1) text))) (first ∙ ap (λ (k : ℕ). number_of (take k text)) is)

-- what stands behind the hyphen, as a slice up to the end
behind : (text : List ℕ) (k : ℕ) → take (length text - k) (drop k text) ≡ drop k text
behind text k = take_all (length text - k) (drop k text) (omega (arith, length-drop k text))

pub two_numbers : (text : List ℕ) (hyphen : ℕ) (first last : Option ℕ) → hyphen ≡ position_or_len is_hyphen text
    → first ≡ number_of (take hyphen text) → last ≡ number_of (take (length text - (hyphen + 1)) (drop (hyphen + 1) text)) → range_between first last ≡ range_of text
unfolding range_of
two_numbers text hyphen first last is f l =
    ap (λ (n : Option ℕ). range_between n last) (f ∙ ap (λ (k : ℕ). number_of (take k text)) is)
    ∙ ap (λ (n : Option ℕ). range_between (number_of (take (position_or_len is_hyphen text) text)) n)
    (l ∙ ap (λ (t : List ℕ). number_of t) (behind text (hyphen + 1)) ∙ ap (λ (k : ℕ). number_of (drop (k + 1) text)) is)
