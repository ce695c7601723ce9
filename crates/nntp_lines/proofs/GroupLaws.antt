-- The reading of a line that answers GROUP agrees with what such a line is.
use Rattle.std.proofs.Common.{◌≡◌, ◌<◌, ◌+◌, ◌==◌, ℕ, suc, Bool, true, false, List, [], ◌∷◌, ◌++◌, length, take, drop, Option, Some, None, refl, sym, ◌∙◌, ap, arith, length-append, take-append-drop}
use Rattle.std.specs.Prelude.{codes, nat_lt, nat_eq, IfSome}
use Rattle.std.specs.Char.{is_ascii_digit}
use Rattle.std.specs.List.{list_all, starts_with}
use Rattle.std.proofs.lemmas.Bool.{lt-ltb, ltb-true, eqb-true, and_parts}
use Rattle.std.proofs.lemmas.Slice.Eq.{bytes_eq-Decides}
use Rattle.std.proofs.Math.Seq.{take-append_seam}
use Rattle.numbers.specs.Numbers.{Numbered, numbered_of}
use Rattle.nntp_lines.specs.declared.group.GroupReply.{GroupReply}
use Rattle.nntp_lines.specs.GroupReply.{IsGroupLine, number_of, first_space, numbered, with_count, with_low, with_high, group_of}

none_number : {a : ℕ} → None ≡ Some a → ⊥
none_number e = cc

none_found : {a : Numbered} → None ≡ Some a → ⊥
none_found e = cc

-- ---- the first space

-- digits have no space among them
not_a_space : (d : ℕ) → is_ascii_digit d ≡ true → (d == 32) ≡ false
not_a_space d is = by_test (d == 32) refl
  where
    by_test : (test : Bool) → (d == 32) ≡ test → (d == 32) ≡ false
    by_test false e = e
    by_test true e = absurd (let there : d ≡ 32 = eqb-true d 32 e in let digit = rw there at is in cc)

pub space_behind_digits : (digits rest : List ℕ) → list_all is_ascii_digit digits ≡ true → first_space (digits ++ 32 ∷ rest) ≡ length digits
space_behind_digits [] rest all = refl
space_behind_digits (d ∷ ds) rest all =
    let more = space_behind_digits ds rest ((and_parts (is_ascii_digit d) (list_all is_ascii_digit ds) all).1) in
    rw (not_a_space d ((and_parts (is_ascii_digit d) (list_all is_ascii_digit ds) all).0)) (omega (arith, more))

pub all_digits : (digits : List ℕ) (n : ℕ) → number_of digits ≡ Some n → list_all is_ascii_digit digits ≡ true
all_digits [] n is = absurd (none_number is)
all_digits (d ∷ ds) n is = by_test (list_all is_ascii_digit (d ∷ ds)) refl
  where
    by_test : (test : Bool) → list_all is_ascii_digit (d ∷ ds) ≡ test → list_all is_ascii_digit (d ∷ ds) ≡ true
    by_test true e = e
    by_test false e = absurd (none_number {a = n} (rw e at is))

-- at the first space there is one
pub space_there : (text : List ℕ) → first_space text < length text → text ≡ take (first_space text) text ++ 32 ∷ drop (first_space text + 1) text
space_there [] inside = absurd (omega (arith, inside))
space_there (b ∷ bs) inside = by_test (b == 32) refl (λ i. space_there bs i)
  where
    more : (n : ℕ) → bs ≡ take n bs ++ 32 ∷ drop (n + 1) bs → b ∷ bs ≡ take (1 + n) (b ∷ bs) ++ 32 ∷ drop (1 + n + 1) (b ∷ bs)
    more n e =
        let one : 1 + n ≡ suc n = omega arith in
        let two : suc n + 1 ≡ suc (n + 1) = omega arith in
        rw (one, two) (ap (λ (l : List ℕ). b ∷ l) e)

    by_test : (test : Bool) → (b == 32) ≡ test → (first_space bs < length bs → bs ≡ take (first_space bs) bs ++ 32 ∷ drop (first_space bs + 1) bs) → b ∷ bs ≡ take (first_space (b ∷ bs)) (b ∷ bs) ++ 32 ∷ drop (first_space (b ∷ bs) + 1) (b ∷ bs)
    by_test true e behind = rw e (ap (λ (x : ℕ). x ∷ bs) (eqb-true b 32 e))
    by_test false e behind = rw e (more (first_space bs) (behind (let i = rw e at inside in omega (arith, i))))

-- ---- numbers

pub number_is_read : (digits behind : List ℕ) (number : ℕ) → number_of digits ≡ Some number → numbered (digits ++ 32 ∷ behind) ≡ Some (record { number = number; behind = behind })
unfolding numbered
number_is_read digits behind number is =
    let at = space_behind_digits digits behind (all_digits digits number is) in
    let inside : nat_lt (length digits) (length (digits ++ 32 ∷ behind)) ≡ true = lt-ltb (length digits) (length (digits ++ 32 ∷ behind)) (omega (arith, length-append digits (32 ∷ behind))) in
    let front : take (length digits) (digits ++ 32 ∷ behind) ≡ digits = take-append_seam digits (32 ∷ behind) in
    let back = behind_seam digits behind in
    rw at (rw inside (rw front (rw is (ap (λ (b : List ℕ). Some (record { number = number; behind = b })) back))))
  where
    behind_seam : (ds b : List ℕ) → drop (length ds + 1) (ds ++ 32 ∷ b) ≡ b
    behind_seam [] b = refl
    behind_seam (d ∷ ds) b = let one : suc (length ds) + 1 ≡ suc (length ds + 1) = omega arith in rw one (behind_seam ds b)

pub record IsCut (text : List ℕ) (found : Numbered) : Type 0 where
  pub digits : List ℕ
  pub whole : text ≡ digits ++ 32 ∷ found.behind
  pub number : number_of digits ≡ Some found.number

pub found_is_cut : (text : List ℕ) (found : Numbered) → numbered text ≡ Some found → IsCut text found
unfolding numbered
found_is_cut text found is = by_test (nat_lt (first_space text) (length text)) refl
  where
    by_number : (number : Option ℕ) → number_of (take (first_space text) text) ≡ number → first_space text < length text → numbered_of number (drop (first_space text + 1) text) ≡ Some found → IsCut text found
    by_number None e inside f = absurd (none_found f)
    by_number (Some n) e inside f =
        let same : record { number = n; behind = drop (first_space text + 1) text } ≡ found = cc in
        record {
          digits = take (first_space text) text;
          whole = space_there text inside ∙ ap (λ (x : Numbered). take (first_space text) text ++ 32 ∷ x.behind) same;
          number = e ∙ ap (λ (x : Numbered). Some x.number) same;
        }

    by_test : (test : Bool) → nat_lt (first_space text) (length text) ≡ test → IsCut text found
    by_test false e = absurd (none_found {a = found} (rw e at is))
    by_test true e = by_number (number_of (take (first_space text) text)) refl (ltb-true (first_space text) (length text) e) (rw e at is)

-- ---- lines

pub line_is_read : (line : List ℕ) (reply : GroupReply) → IsGroupLine line reply → group_of line ≡ Some reply
unfolding group_of
line_is_read line reply h =
    let low = h.low ++ 32 ∷ (h.high ++ 32 ∷ h.name) in
    rw h.whole (ap with_count (number_is_read h.count low reply.count h.count_is)
    ∙ ap (with_low reply.count) (number_is_read h.low (h.high ++ 32 ∷ h.name) reply.low h.low_is)
    ∙ ap (with_high reply.count reply.low) (number_is_read h.high h.name reply.high h.high_is))

begins : (line : List ℕ) → starts_with nat_eq line (codes "211 ") ≡ true → codes "211 " ++ drop 4 line ≡ line
begins line is = ap (λ (t : List ℕ). t ++ drop 4 line) ((bytes_eq-Decides (codes "211 ") (take 4 line)).0 is) ∙ take-append-drop 4 line

pub read_is_line : (line : List ℕ) → IfSome (group_of line) (IsGroupLine line)
unfolding group_of
read_is_line line = by_test (starts_with nat_eq line (codes "211 ")) refl
  where
    by_high : (high : Option Numbered) (c l : Numbered) → starts_with nat_eq line (codes "211 ") ≡ true → numbered (drop 4 line) ≡ Some c → numbered c.behind ≡ Some l → numbered l.behind ≡ high → IfSome (with_high c.number l.number high) (IsGroupLine line)
    by_high None c l is one two three = tt
    by_high (Some high) c l is one two three =
        let first = found_is_cut (drop 4 line) c one in
        let second = found_is_cut c.behind l two in
        let third = found_is_cut l.behind high three in
        record {
          count = first.digits;
          low = second.digits;
          high = third.digits;
          name = high.behind;
          whole = sym (begins line is) ∙ ap (λ (t : List ℕ). codes "211 " ++ t) (first.whole ∙ ap (λ (t : List ℕ). first.digits ++ 32 ∷ t) (second.whole ∙ ap (λ (t : List ℕ). second.digits ++ 32 ∷ t) third.whole));
          count_is = first.number;
          low_is = second.number;
          high_is = third.number;
        }

    by_low : (low : Option Numbered) (c : Numbered) → starts_with nat_eq line (codes "211 ") ≡ true → numbered (drop 4 line) ≡ Some c → numbered c.behind ≡ low → IfSome (with_low c.number low) (IsGroupLine line)
    by_low None c is one two = tt
    by_low (Some l) c is one two = by_high (numbered l.behind) c l is one two refl

    by_count : (count : Option Numbered) → starts_with nat_eq line (codes "211 ") ≡ true → numbered (drop 4 line) ≡ count → IfSome (with_count count) (IsGroupLine line)
    by_count None is one = tt
    by_count (Some c) is one = by_low (numbered c.behind) c is one refl

    by_test : (test : Bool) → starts_with nat_eq line (codes "211 ") ≡ test → IfSome (group_of line) (IsGroupLine line)
    by_test false is = rw is tt
    by_test true is = rw is (by_count (numbered (drop 4 line)) is refl)
