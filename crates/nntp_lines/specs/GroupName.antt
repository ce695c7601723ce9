-- The name of a newsgroup (RFC 5536, 3.1.4, "newsgroup-name"). The limit of 200 bytes is this project's, and so is that
-- dots may stand anywhere; the standard has them between two components.
use Rattle.std.specs.Prelude.{ℕ, Bool, ◌||◌, ◌==◌, List}
use Rattle.std.specs.Char.{is_ascii_alphanumeric}
use Rattle.nntp_lines.specs.Word.{IsWord}

-- a letter, a digit, `+`, `-`, `_`, or the dot between two components
abbrev pub is_group_byte : ℕ → Bool
is_group_byte byte = is_ascii_alphanumeric byte || byte == 43 || byte == 45 || byte == 95 || byte == 46

-- 1 to 200 of them
abbrev pub IsGroupName : List ℕ → Type 0
IsGroupName name = IsWord is_group_byte 200 name
