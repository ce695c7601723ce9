-- Lines as a server in memory hears them: CRLF ends each (RFC 3977, 3.1).
use Rattle.std.specs.Prelude.{ℕ, ◌-◌, Bool, nat_eq, List, length, take}
use Rattle.std.specs.List.{ends_with}
use Rattle.nntp_lines.specs.Command.{crlf}

-- the line ends with CRLF
abbrev pub is_whole : List ℕ → Bool
is_whole line = ends_with nat_eq line crlf

abbrev pub without_end : List ℕ → List ℕ
without_end line = take (length line - 2) line
