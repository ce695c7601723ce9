-- How many bytes the good packet has that a text begins with.
use Rattle.std.specs.Prelude.{ℕ, ◌-◌, ◌%◌, ◌==◌, ◌&&◌, Bool, nat_le, if◌then◌else◌, List, length, Option, Some, None}
use Rattle.std.specs.Str.{bytes_eq}
use Rattle.md5.specs.Md5.{md5}
use Rattle.par2_check.specs.Packets.{long_at, part, signature}

-- a text has room for a header, and begins as one
abbrev pub is_headed : List ℕ → Bool
is_headed text = nat_le 64 (length text) && bytes_eq (part 0 8 text) signature

-- a packet of a text may have this length
abbrev pub is_length : ℕ → List ℕ → Bool
is_length len text = nat_le 64 len && len % 4 == 0 && nat_le len (length text)

-- the MD5 of what follows it in so many bytes is that which the header tells
abbrev pub has_digest : ℕ → List ℕ → Bool
has_digest len text = bytes_eq (md5 (part 32 (len - 32) text)) (part 16 16 text)

abbrev pub is_packet : ℕ → List ℕ → Bool
is_packet len text = is_headed text && is_length len text && has_digest len text

-- the length of the good packet that a text begins with
abbrev pub packet_len : List ℕ → Option ℕ
packet_len text = if is_packet (long_at 8 text) text then Some (long_at 8 text) else None
