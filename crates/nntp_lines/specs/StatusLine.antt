-- Status lines, the first lines of a server's responses, without their CRLF (RFC 3977, 3.1, 3.2 and 9.4.1,
-- "initial-response-line").
use Rattle.std.specs.Prelude.{◌≡◌, ℕ, ◌≤◌, ◌<◌, Bool, true, ◌==◌, nat_le, if◌then◌else◌, List, [], ◌∷◌, ◌++◌, length, Option, Some, None, Result, Ok, Err, IsTrue}
use Rattle.std.specs.Option.{ok_or}
use Rattle.numbers.specs.Numbers.{decimal_of}
use Rattle.nntp_lines.specs.declared.status.StatusFault.{StatusFault}
use Rattle.nntp_lines.specs.declared.status.StatusFault.TheVariants.{NotACode, TooLong}

-- a line ends here, or goes on with a space
abbrev pub is_end_or_space : List ℕ → Bool
is_end_or_space [] = true
is_end_or_space (byte ∷ bytes) = byte == 32

-- a line begins with a code: three digits, behind which it ends, or a space stands and any text
pub record BeginsWithCode (line : List ℕ) (code : ℕ) : Type 0 where
  pub digits : List ℕ
  pub text : List ℕ
  pub whole : line ≡ digits ++ text
  pub three : length digits ≡ 3
  pub number : decimal_of digits ≡ Some code
  pub behind : IsTrue (is_end_or_space text)

-- a status line and its code; with its CRLF it has at most 512 bytes
pub record IsStatusLine (line : List ℕ) (code : ℕ) : Type 0 where
  pub short : length line ≤ 510
  pub begins : BeginsWithCode line code

-- why a line is none
abbrev pub HasStatusFault : List ℕ → StatusFault → Type 0
HasStatusFault line TooLong = 510 < length line
HasStatusFault line NotACode = (length line ≤ 510) × ((code : ℕ) → ¬ BeginsWithCode line code)

-- ---- the reading of a line

-- the code that a line begins with
abbrev pub code_of : List ℕ → Option ℕ
code_of (a ∷ b ∷ c ∷ text) = if is_end_or_space text then decimal_of (a ∷ b ∷ c ∷ []) else None
code_of shorter = None

-- the code of a status line, or why it is none
unfoldable pub status_of : List ℕ → Result ℕ StatusFault
status_of line = if nat_le (length line) 510 then ok_or (code_of line) NotACode else Err TooLong

-- ---- laws

-- a status line has one code, which is the one that is read
abbrev pub StatusLineIsRead : Type 0
StatusLineIsRead = (line : List ℕ) (code : ℕ) → IsStatusLine line code → status_of line ≡ Ok code

-- a line that is none has one fault, which is the one that is told
abbrev pub StatusFaultIsTold : Type 0
StatusFaultIsTold = (line : List ℕ) (fault : StatusFault) → HasStatusFault line fault → status_of line ≡ Err fault
