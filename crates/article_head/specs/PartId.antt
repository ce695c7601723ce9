-- The message-id of a part's article (RFC 5536, 3.1.3, "msg-id-core"): a token that is the file's own, the number of the
-- part, how many there are, and a domain. The limits of length are this project's.
use Rattle.std.specs.Prelude.{◌≡◌, ◌≢◌, ℕ, ◌≤◌, Bool, ◌||◌, ◌==◌, List, length, ◌++◌, codes, decimal, All, IsTrue}
use Rattle.std.specs.Char.{is_ascii_alphanumeric}
use Rattle.std.specs.List.{join_with_byte, list_all, list_any, slice_split}
use Rattle.nntp_lines.specs.Word.{IsWord}
use Rattle.limits.specs.declared.TheConstants.{MOST_ID_BYTES, MOST_SEGMENTS}

-- a letter, a digit, `-` or `_`
abbrev pub is_token_byte : ℕ → Bool
is_token_byte byte = is_ascii_alphanumeric byte || byte == 45 || byte == 95

-- what the ids of all parts of a file begin with
abbrev pub IsToken : List ℕ → Type 0
IsToken token = IsWord is_token_byte MOST_ID_BYTES token

-- a letter, a digit or `-`
abbrev pub is_label_byte : ℕ → Bool
is_label_byte byte = is_ascii_alphanumeric byte || byte == 45

-- the pieces of the name of a domain
abbrev pub labels_of : List ℕ → List (List ℕ)
labels_of domain = slice_split (λ byte. byte == 46) domain

-- the name of a domain: labels, with a dot between two
pub record IsDomain (domain : List ℕ) : Type 0 where
  pub labels : List (List ℕ)
  pub some : 1 ≤ length labels
  pub valid : All (IsWord is_label_byte MOST_ID_BYTES) labels
  pub joined : domain ≡ join_with_byte 46 labels
  pub short : length domain ≤ MOST_ID_BYTES

-- the message-id, without its angle brackets
unfoldable pub part_id_text : (token domain : List ℕ) (part total : ℕ) → List ℕ
part_id_text token domain part total = token ++ codes "." ++ decimal part ++ codes "of" ++ decimal total ++ codes "@" ++ domain

-- two parts of a file have two message-ids
abbrev pub PartIdsDiffer : Type 0
PartIdsDiffer = (token domain : List ℕ) (part other total : ℕ) → part ≤ MOST_SEGMENTS → other ≤ MOST_SEGMENTS → part ≢ other →
    part_id_text token domain part total ≢ part_id_text token domain other total

-- ---- message-ids of the standard

-- a character of an atom (RFC 5322, 3.2.3, "atext")
abbrev pub is_atom_byte : ℕ → Bool
is_atom_byte byte = is_ascii_alphanumeric byte || list_any (λ mark. byte == mark) (codes "!#$%&'*+-/=?^_`{|}~")

-- one or more of them
abbrev pub IsAtom : List ℕ → Type 0
IsAtom atom = (1 ≤ length atom) × IsTrue (list_all is_atom_byte atom)

-- atoms, with a dot between two (RFC 5322, 3.2.3, "dot-atom-text")
pub record IsDotAtom (text : List ℕ) : Type 0 where
  pub atoms : List (List ℕ)
  pub some : 1 ≤ length atoms
  pub valid : All IsAtom atoms
  pub joined : text ≡ join_with_byte 46 atoms

-- a message-id without its angle brackets (RFC 5536, 3.1.3, "msg-id-core"; with them it has at most 250 bytes)
pub record IsMessageIdCore (text : List ℕ) : Type 0 where
  pub left : List ℕ
  pub right : List ℕ
  pub whole : text ≡ left ++ codes "@" ++ right
  pub left_valid : IsDotAtom left
  pub right_valid : IsDotAtom right
  pub short : length text ≤ 248

-- what is made of a token and a domain is a message-id of the standard
abbrev pub PartIdsAreValid : Type 0
PartIdsAreValid = (token domain : List ℕ) (part total : ℕ) → IsToken token → IsDomain domain → part ≤ MOST_SEGMENTS → total ≤ MOST_SEGMENTS →
    IsMessageIdCore (part_id_text token domain part total)
