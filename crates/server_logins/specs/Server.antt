-- Where a news server is: the name of a host or its IP address, a colon, and a port. The limits of length are this
-- project's; a name of the domain name system has at most 253 characters (RFC 1035, 2.3.4, written out).
use Rattle.std.specs.Prelude.{◌≡◌, ◌≢◌, ℕ, ◌≤◌, Bool, false, not, ◌&&◌, ◌||◌, ◌==◌, nat_le, List, ◌++◌, length, get_or, Option, Some, None, is_some, codes}
use Rattle.std.specs.Char.{is_ascii_alphanumeric}
use Rattle.std.specs.List.{list_all}
use Rattle.nntp_lines.specs.Word.{IsWord}
use Rattle.numbers.specs.Numbers.{decimal_of, within}
use Rattle.server_logins.specs.Cut.{cut_at}

-- a letter, a digit, `-` or `.`
abbrev pub is_host_byte : ℕ → Bool
is_host_byte byte = is_ascii_alphanumeric byte || byte == 45 || byte == 46

abbrev pub IsHost : List ℕ → Type 0
IsHost host = IsWord is_host_byte 253 host

-- the decimal digits of a number from 1 to 65535, the first of which is no zero
pub record IsPort (port : List ℕ) : Type 0 where
  pub number : ℕ
  pub digits : decimal_of port ≡ Some number
  pub least : 1 ≤ number
  pub most : number ≤ 65535
  pub plain : get_or port 0 0 ≢ 48

pub record IsServer (text : List ℕ) : Type 0 where
  pub host : List ℕ
  pub port : List ℕ
  pub whole : text ≡ host ++ codes ":" ++ port
  pub host_valid : IsHost host
  pub port_valid : IsPort port

-- ---- the test

abbrev pub is_host : List ℕ → Bool
is_host host = nat_le 1 (length host) && nat_le (length host) 253 && list_all is_host_byte host

abbrev pub is_port : List ℕ → Bool
is_port port = not (get_or port 0 0 == 48) && is_some (within 1 65535 (decimal_of port))

abbrev pub are_host_and_port : Option (List ℕ × List ℕ) → Bool
are_host_and_port None = false
are_host_and_port (Some cut) = is_host cut.0 && is_port cut.1

-- what stands in front of the first colon is a host, and what stands behind it a port
abbrev pub is_server : List ℕ → Bool
is_server text = are_host_and_port (cut_at 58 text)
