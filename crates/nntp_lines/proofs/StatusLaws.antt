-- The reading of a status line agrees with what a status line is.
use Rattle.std.proofs.Common.{◌≡◌, ◌≤◌, ◌<◌, ℕ, Bool, true, false, List, [], ◌∷◌, ◌++◌, length, Option, Some, None, Ok, Err, refl, sym, ◌∙◌, ap, arith}
use Rattle.std.specs.Prelude.{IfOk, IfErr}
use Rattle.std.proofs.lemmas.Bool.{le-leb, lt-leb}
use Rattle.std.specs.Option.{ok_or}
use Rattle.numbers.specs.Numbers.{decimal_of}
use Rattle.nntp_lines.specs.declared.status.StatusFault.{StatusFault}
use Rattle.nntp_lines.specs.declared.status.StatusFault.TheVariants.{NotACode, TooLong}
use Rattle.nntp_lines.specs.StatusLine.{BeginsWithCode, IsStatusLine, HasStatusFault, is_end_or_space, code_of, status_of}

none_some : {a : ℕ} → None ≡ Some a → ⊥
none_some e = cc

-- ---- codes

pub code_is_read : (line : List ℕ) (code : ℕ) → BeginsWithCode line code → code_of line ≡ Some code
code_is_read line code h = go h.digits h.three h.number h.whole
  where
    go : (digits : List ℕ) → length digits ≡ 3 → decimal_of digits ≡ Some code → line ≡ digits ++ h.text → code_of line ≡ Some code
    go [] three number whole = absurd (omega arith)
    go (a ∷ []) three number whole = absurd (omega arith)
    go (a ∷ b ∷ []) three number whole = absurd (omega arith)
    go (a ∷ b ∷ c ∷ []) three number whole = rw whole (rw h.behind number)
    go (a ∷ b ∷ c ∷ d ∷ more) three number whole = absurd (omega arith)

pub code_begins : (line : List ℕ) (code : ℕ) → code_of line ≡ Some code → BeginsWithCode line code
code_begins [] code e = absurd (none_some e)
code_begins (a ∷ []) code e = absurd (none_some e)
code_begins (a ∷ b ∷ []) code e = absurd (none_some e)
code_begins (a ∷ b ∷ c ∷ text) code e = by_test (is_end_or_space text) refl
  where
    by_test : (test : Bool) → is_end_or_space text ≡ test → BeginsWithCode (a ∷ b ∷ c ∷ text) code
    by_test false is = absurd (none_some (rw is at e))
    by_test true is = record { digits = a ∷ b ∷ c ∷ []; text = text; whole = refl; three = refl; number = rw is at e; behind = is }

-- ---- status lines

pub too_long : (line : List ℕ) → 510 < length line → status_of line ≡ Err TooLong
unfolding status_of
too_long line long = rw (lt-leb (length line) 510 long) refl

pub short_enough : (line : List ℕ) → length line ≤ 510 → status_of line ≡ ok_or (code_of line) NotACode
unfolding status_of
short_enough line short = rw (le-leb (length line) 510 short) refl

-- a status line is read
pub line_is_read : (line : List ℕ) (code : ℕ) → IsStatusLine line code → status_of line ≡ Ok code
line_is_read line code h = short_enough line h.short ∙ ap (λ (o : Option ℕ). ok_or o NotACode) (code_is_read line code h.begins)

-- what is none is told so
pub fault_is_told : (line : List ℕ) (fault : StatusFault) → HasStatusFault line fault → status_of line ≡ Err fault
fault_is_told line TooLong long = too_long line long
fault_is_told line NotACode h = by_code (code_of line) refl
  where
    by_code : (code : Option ℕ) → code_of line ≡ code → status_of line ≡ Err NotACode
    by_code None is = short_enough line h.0 ∙ ap (λ (o : Option ℕ). ok_or o NotACode) is
    by_code (Some code) is = absurd (h.1 code (code_begins line code is))

-- what is read is a status line
pub read_is_line : (line : List ℕ) → length line ≤ 510 → IfOk (ok_or (code_of line) NotACode) (IsStatusLine line)
read_is_line line short = by_code (code_of line) refl
  where
    by_code : (code : Option ℕ) → code_of line ≡ code → IfOk (ok_or code NotACode) (IsStatusLine line)
    by_code None is = tt
    by_code (Some code) is = record { short = short; begins = code_begins line code is }

-- and what isn't read is none
pub unread_is_none : (line : List ℕ) → length line ≤ 510 → IfErr (ok_or (code_of line) NotACode) (HasStatusFault line)
unread_is_none line short = by_code (code_of line) refl
  where
    by_code : (code : Option ℕ) → code_of line ≡ code → IfErr (ok_or code NotACode) (HasStatusFault line)
    by_code None is = (short, λ code begins. none_some (sym is ∙ code_is_read line code begins))
    by_code (Some code) is = tt
