-- A range of articles' numbers (RFC 3977, 8.3): two numbers with a hyphen between. Zeros may stand in front of either.
use Rattle.std.specs.Prelude.{ℕ, Bool, ◌&&◌, ◌==◌, nat_le, List, Option, Some, None}
use Rattle.std.specs.List.{after_first, before_first}
use Rattle.nntp_lines.specs.GroupReply.{number_of}
use Rattle.news_spool.specs.declared.range.NumberRange.{NumberRange}

abbrev pub is_hyphen : ℕ → Bool
is_hyphen byte = byte == 45

-- the range from one number to another, where there are both
abbrev pub range_between : Option ℕ → Option ℕ → Option NumberRange
range_between None last = None
range_between (Some first) None = None
range_between (Some first) (Some last) = Some (record { first = first; last = last })

-- the range that a text gives, if it is one
unfoldable pub range_of : List ℕ → Option NumberRange
range_of text = range_between (number_of (before_first is_hyphen text)) (number_of (after_first is_hyphen text))

-- a number is in a range
abbrev pub is_within : NumberRange → ℕ → Bool
is_within range number = nat_le range.first number && nat_le number range.last
