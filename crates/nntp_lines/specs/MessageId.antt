-- The message-id of an article, without the angle brackets round it (RFC 3977, 3.6 and 9.8, "message-id").
use Rattle.std.specs.Prelude.{ℕ, Bool, not, ◌&&◌, ◌==◌, List}
use Rattle.std.specs.Char.{is_ascii_graphic}
use Rattle.nntp_lines.specs.Word.{IsWord}

-- a printable ASCII character that is no space and no `>`
abbrev pub is_id_byte : ℕ → Bool
is_id_byte byte = is_ascii_graphic byte && not (byte == 62)

-- 1 to 248 of them
abbrev pub IsMessageId : List ℕ → Type 0
IsMessageId inner = IsWord is_id_byte 248 inner
