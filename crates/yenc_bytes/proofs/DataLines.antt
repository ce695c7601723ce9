-- One more spelling on a line, and one more line.
use Rattle.std.proofs.Common.{◌≡◌, ◌≤◌, ◌<◌, ℕ, zero, suc, ◌+◌, ◌%◌, ◌==◌, ◌||◌, Bool, false, List, [], ◌∷◌, ◌++◌, length, take, drop, get_or, refl, sym, ◌∙◌, ap, subst, arith, append_assoc, length-take}
use Rattle.std.proofs.lemmas.List.{append-nil, take_more, take-append-drop, nil_from_length}
use Rattle.std.proofs.lemmas.Bool.{ne_eqb}
use Rattle.landing_kernel.specs.Characters.{is_critical}
use Rattle.landing_kernel.specs.Raising.{Raises}
use Rattle.yenc_bytes.specs.WriterLines.{writer_spelling, is_empty, line_text, without_last, IsWriterLine, IsCanonicalData}
use Rattle.yenc_bytes.proofs.LineText.{line_text-more, without_last-append, is_empty-drop, is_empty-before}

-- the first `used` bytes of a part stand on a line so far, as this text, and the line wasn't full before the last of them
pub record Filled (line_length : ℕ) (rest : List ℕ) (used : ℕ) (text : List ℕ) : Type 0 where
  pub spelled : text ≡ line_text line_length (is_empty (drop used rest)) 0 (take used rest)
  pub inside : used ≤ length rest
  pub not_before : length (line_text line_length false 0 (without_last (take used rest))) < line_length

-- a line with no byte
pub Filled-none : (line_length : ℕ) (rest : List ℕ) → 1 ≤ line_length → Filled line_length rest 0 []
Filled-none line_length rest h = record { spelled = refl; inside = omega arith; not_before = omega arith }

-- one more byte, with its spelling
pub Filled-more : (line_length : ℕ) (rest : List ℕ) (used len : ℕ) (text s : List ℕ) → Filled line_length rest used text → length text ≡ len → used < length rest → len < line_length
    → s ≡ writer_spelling (len == 0 || len + 1 == line_length || used + 1 == length rest) (get_or rest used 0) → Filled line_length rest (used + 1) (text ++ s)
Filled-more line_length rest used len text s so_far len_is left room s_is =
    let front : List ℕ = line_text line_length false 0 (take used rest) in
    let b : ℕ = get_or rest used 0 in
    let ends : Bool = is_empty (drop (used + 1) rest) in
    let text_is : text ≡ front = so_far.spelled ∙ ap (λ (e : Bool). line_text line_length e 0 (take used rest)) (is_empty-before used rest left) in
    let front_len : length front ≡ len = omega (arith, ap length text_is) in
    let s_spelled : s ≡ writer_spelling (len == 0 || len + 1 == line_length || ends) b =
    s_is ∙ ap (λ (e : Bool). writer_spelling (len == 0 || len + 1 == line_length || e) b) (sym (is_empty-drop (used + 1) rest (omega arith)))
    in
    let bytes : take (used + 1) rest ≡ take used rest ++ b ∷ [] = take_more rest used 0 left in
    let cut : without_last (take (used + 1) rest) ≡ take used rest = ap without_last bytes ∙ without_last-append (take used rest) b [] ∙ append-nil (take used rest) in
    let shorter : length (line_text line_length false 0 (without_last (take (used + 1) rest))) ≡ len = ap (λ (bs : List ℕ). length (line_text line_length false 0 bs)) cut ∙ front_len in
    record {
      spelled =
          ap (λ (t : List ℕ). t ++ s) text_is ∙ ap (λ (t : List ℕ). front ++ t) s_spelled
          ∙ sym (line_text-more line_length ends (take used rest) b len front_len)
          ∙ ap (line_text line_length ends 0) (sym bytes);
      inside = omega arith;
      not_before = omega (arith, shorter);
    }

-- lists that are alike at their front
same_front : (n : ℕ) (xs ys : List ℕ) → length xs ≡ length ys → ((k : ℕ) → k < n → get_or xs k 0 ≡ get_or ys k 0) → take n xs ≡ take n ys
same_front zero xs ys long each = refl
same_front (suc n) [] [] long each = refl
same_front (suc n) [] (y ∷ ys) long each = absurd (omega (arith, long))
same_front (suc n) (x ∷ xs) [] long each = absurd (omega (arith, long))
same_front (suc n) (x ∷ xs) (y ∷ ys) long each = (λ t. each 0 (omega arith) t ∷ same_front n xs ys (omega (arith, long)) (λ k lt. each (suc k) (omega arith)) t)

-- the spelling of a byte in a line's middle that needs no escape
plain_spelling : (line_length len used long b x : ℕ) → 1 ≤ len → len + 1 < line_length → used + 1 < long → x ≡ (b + 42) % 256 → is_critical x ≡ false
    → x ∷ [] ≡ writer_spelling (len == 0 || len + 1 == line_length || used + 1 == long) b
plain_spelling line_length len used long b x some room left is plain =
    let e0 : (len == 0) ≡ false = ne_eqb len 0 (omega arith) in
    let e1 : (len + 1 == line_length) ≡ false = ne_eqb (len + 1) line_length (omega arith) in
    let e2 : (used + 1 == long) ≡ false = ne_eqb (used + 1) long (omega arith) in
    let p : is_critical ((b + 42) % 256) ≡ false = subst (λ n. is_critical n ≡ false) is plain in
    rw (e0, e1, e2, p) (ap (λ n. n ∷ []) is)

some_columns : (len n : ℕ) → (len ≡ 0 → suc n ≡ 0) → 1 ≤ len
some_columns zero n first = absurd (let e = first refl in omega arith)
some_columns (suc len) n first = omega arith

-- bytes that were raised behind a line's first characters
pub Filled-raised : (line_length : ℕ) (rest : List ℕ) (used len : ℕ) (old new : List ℕ) (n : ℕ) → line_length ≤ length old → Filled line_length rest used (take len old) → length (take len old) ≡ len
    → used + n < length rest → len + n < line_length → (len ≡ 0 → n ≡ 0) → Raises rest old new used len n → Filled line_length rest (used + n) (take (len + n) new)
Filled-raised line_length rest used len old new zero wide so_far len_is left room first raised =
    let front : take len new ≡ take len old = same_front len new old raised.long raised.below in
    let e : len + 0 ≡ len = omega arith in
    let f : used + 0 ≡ used = omega arith in
    subst (λ k. Filled line_length rest k (take (len + 0) new)) (sym f) (subst (λ k. Filled line_length rest used (take k new)) (sym e) (subst (Filled line_length rest used) (sym front) so_far))
Filled-raised line_length rest used len old new (suc n) wide so_far len_is left room first raised =
    let less : Raises rest old new used len n = record {
      moved = λ k lt. raised.moved k (omega arith);
      plain = λ k lt. raised.plain k (omega arith);
      below = raised.below;
      long = raised.long;
    } in
    let some : 1 ≤ len = some_columns len n first in
    let run = Filled-raised line_length rest used len old new n wide so_far len_is (omega arith) (omega arith) (λ e. absurd (omega arith)) less in
    let at = len + n in
    let x = get_or new at 0 in
    let b = get_or rest (used + n) 0 in
    let l1 = length-take len old in
    let same_long = raised.long in
    let inside : at < length new = omega (arith, same_long) in
    let run_long : length (take at new) ≡ at = omega (arith, length-take at new) in
    let is : x ≡ (b + 42) % 256 = raised.moved n (omega arith) in
    let more = Filled-more line_length rest (used + n) at (take at new) (x ∷ []) run run_long (omega arith) (omega arith) (plain_spelling line_length at (used + n) (length rest) b x (omega arith) (omega arith) (omega arith) is (raised.plain n (omega arith))) in
    let e : len + suc n ≡ at + 1 = omega arith in
    let f : used + suc n ≡ used + n + 1 = omega arith in
    let text : take (len + suc n) new ≡ take at new ++ x ∷ [] = ap (λ k. take k new) e ∙ take_more new at 0 inside in
    subst (λ k. Filled line_length rest k (take (len + suc n) new)) (sym f) (subst (Filled line_length rest (used + n + 1)) (sym text) more)

-- bytes are left only before the end
more_left : (used : ℕ) (rest : List ℕ) → used ≤ length rest → is_empty (drop used rest) ≡ false → used < length rest
more_left zero [] h more = absurd cc
more_left zero (b ∷ rest) h more = omega arith
more_left (suc used) [] h more = absurd (omega arith)
more_left (suc used) (b ∷ rest) h more = omega (arith, more_left used rest (omega arith) more)

-- a line that is full, or has the rest of the part, is one of the writer's
pub Filled-end : (line_length : ℕ) (rest : List ℕ) (used : ℕ) (text : List ℕ) → Filled line_length rest used text → 1 ≤ used → (used < length rest → line_length ≤ length text)
    → IsWriterLine line_length (is_empty (drop used rest)) (take used rest) text
Filled-end line_length rest used text filled some full = record {
  text = filled.spelled;
  some = λ none. omega (arith, ap length none, length-take used rest, filled.inside);
  full = λ more. full (more_left used rest filled.inside more);
  not_before = filled.not_before;
}

-- the lines so far, and what is to follow
pub record SoFar (line_length : ℕ) (bytes : List ℕ) (old : List (List ℕ)) (rest : List ℕ) (out : List (List ℕ)) : Type 0 where
  pub lines : List (List ℕ)
  pub appended : out ≡ old ++ lines
  pub follows : (more : List (List ℕ)) → IsCanonicalData line_length rest more → IsCanonicalData line_length bytes (lines ++ more)

-- one more line
pub SoFar-more : (line_length : ℕ) (bytes : List ℕ) (old : List (List ℕ)) (rest after : List ℕ) (out new : List (List ℕ)) (used : ℕ) (line : List ℕ)
    → SoFar line_length bytes old rest out → IsWriterLine line_length (is_empty (drop used rest)) (take used rest) line → new ≡ out ++ line ∷ [] → after ≡ drop used rest
    → SoFar line_length bytes old after new
SoFar-more line_length bytes old rest after out new used line so_far is_line new_is after_is = record {
  lines = so_far.lines ++ line ∷ [];
  appended = new_is ∙ ap (λ (o : List (List ℕ)). o ++ line ∷ []) so_far.appended ∙ append_assoc old so_far.lines (line ∷ []);
  follows = λ more is. subst (IsCanonicalData line_length bytes) (sym (append_assoc so_far.lines (line ∷ []) more))
      (so_far.follows (line ∷ more) (take used rest, drop used rest, sym (take-append-drop used rest), is_line, subst (λ (r : List ℕ). IsCanonicalData line_length r more) after_is is));
}

-- no byte is left
pub SoFar-end : (line_length : ℕ) (bytes : List ℕ) (old : List (List ℕ)) (rest : List ℕ) (out : List (List ℕ)) → SoFar line_length bytes old rest out → length rest ≡ 0
    → (lines : List (List ℕ)) × (out ≡ old ++ lines) × IsCanonicalData line_length bytes lines
SoFar-end line_length bytes old rest out so_far none =
    (so_far.lines, so_far.appended, subst (IsCanonicalData line_length bytes) (append-nil so_far.lines) (so_far.follows [] (nil_from_length rest none)))
