-- The name of a user, or a password (RFC 4643, 3.1, "username" and "password"). The limit of 200 bytes is this project's,
-- and so is that they are printable ASCII characters without a space, which servers would take for the word's end.
use Rattle.std.specs.Prelude.{ℕ, List}
use Rattle.std.specs.Char.{is_ascii_graphic}
use Rattle.nntp_lines.specs.Word.{IsWord}

-- 1 to 200 printable ASCII characters that are no space
abbrev pub IsLoginWord : List ℕ → Type 0
IsLoginWord bytes = IsWord is_ascii_graphic 200 bytes
