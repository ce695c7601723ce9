-- The reply to GROUP by which a newsgroup is chosen (RFC 3977, 6.1.1: `211 number low high group`).
use Rattle.std.specs.Prelude.{◌≡◌, ℕ, ◌+◌, ◌==◌, nat_eq, nat_lt, if◌then◌else◌, List, ◌∷◌, ◌++◌, length, take, drop, codes, Option, Some, None}
use Rattle.std.specs.List.{position_or_len, starts_with}
use Rattle.numbers.specs.Numbers.{decimal_of, within, Numbered, numbered_of}
use Rattle.nntp_lines.specs.declared.group.GroupReply.{GroupReply}
use Rattle.limits.specs.declared.TheConstants.{MOST_ARTICLE}

-- a number of articles, or of an article; this program takes numbers of up to 16 digits, RFC 3977, 6, asks for ten
abbrev pub number_of : List ℕ → Option ℕ
number_of digits = within 0 MOST_ARTICLE (decimal_of digits)

-- the line without its CRLF, and its three numbers, with a space (32) behind each; the name behind them isn't read
pub record IsGroupLine (line : List ℕ) (reply : GroupReply) : Type 0 where
  pub count : List ℕ
  pub low : List ℕ
  pub high : List ℕ
  pub name : List ℕ
  pub whole : line ≡ codes "211 " ++ (count ++ 32 ∷ (low ++ 32 ∷ (high ++ 32 ∷ name)))
  pub count_is : number_of count ≡ Some reply.count
  pub low_is : number_of low ≡ Some reply.low
  pub high_is : number_of high ≡ Some reply.high

-- ---- the reading of a line

-- the place of the first space, or the length where there is none
abbrev pub first_space : List ℕ → ℕ
first_space text = position_or_len (λ byte. byte == 32) text

-- a number in front of a space, and what stands behind that space
unfoldable pub numbered : List ℕ → Option Numbered
numbered text =
    if nat_lt (first_space text) (length text)
    then numbered_of (number_of (take (first_space text) text)) (drop (first_space text + 1) text) else None

abbrev pub with_high : ℕ → ℕ → Option Numbered → Option GroupReply
with_high count low None = None
with_high count low (Some high) = Some (record { count = count; low = low; high = high.number })

abbrev pub with_low : ℕ → Option Numbered → Option GroupReply
with_low count None = None
with_low count (Some low) = with_high count low.number (numbered low.behind)

abbrev pub with_count : Option Numbered → Option GroupReply
with_count None = None
with_count (Some count) = with_low count.number (numbered count.behind)

-- what a line says of a newsgroup, if it is such a line
unfoldable pub group_of : List ℕ → Option GroupReply
group_of line = if starts_with nat_eq line (codes "211 ") then with_count (numbered (drop 4 line)) else None

-- ---- laws

-- such a line says one thing, which is what is read
abbrev pub GroupLineIsRead : Type 0
GroupLineIsRead = (line : List ℕ) (reply : GroupReply) → IsGroupLine line reply → group_of line ≡ Some reply
