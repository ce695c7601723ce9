-- The name of a file as a header line carries it (yEnc draft 1.3, "Headers and Trailers"): every byte may stand in it
-- but those that end a line or a text, and decoders cut the spaces at its ends. The limit of 255 bytes is this project's; the draft
-- has names of up to 256 characters.
use Rattle.std.specs.Prelude.{ℕ, ◌-◌, ◌≤◌, Bool, not, ◌||◌, ◌&&◌, ◌==◌, List, length, slice_index, IsTrue}
use Rattle.std.specs.List.{list_all}

-- a byte that ends a line, or a text
abbrev pub is_line_end : ℕ → Bool
is_line_end byte = byte == 0 || byte == 10 || byte == 13

-- no NUL, LF or CR, so that the line goes on to the name's last byte
abbrev pub has_no_line_end : List ℕ → Bool
has_no_line_end bytes = list_all (λ byte. not (is_line_end byte)) bytes

-- no space at either end, since decoders cut those
abbrev pub is_trimmed : List ℕ → Bool
is_trimmed bytes = not (slice_index bytes 0 == 32) && not (slice_index bytes (length bytes - 1) == 32)

-- a name: 1 to 255 bytes, which a decoder finds again as they are
pub record IsName (bytes : List ℕ) : Type 0 where
  pub some : 1 ≤ length bytes
  pub most : length bytes ≤ 255
  pub no_line_end : IsTrue (has_no_line_end bytes)
  pub trimmed : IsTrue (is_trimmed bytes)
