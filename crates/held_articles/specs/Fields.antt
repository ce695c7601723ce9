-- The fields of an article's head that a server in memory reads (RFC 5536, 2.2 and 3.1). A field that breaks its rule isn't
-- there.
use Rattle.std.specs.Prelude.{ℕ, ◌-◌, Bool, ◌&&◌, ◌==◌, nat_lt, if◌then◌else◌, List, [], ◌∷◌, length, take, drop, slice_index, codes, Option, Some, None}
use Rattle.std.specs.Option.{is_some, option_and_then}
use Rattle.std.specs.List.{list_all}
use Rattle.nntp_lines.specs.GroupName.{is_group_byte}
use Rattle.nntp_lines.specs.MessageId.{is_id_byte}
use Rattle.article_head.specs.Field.{is_word, names_of}
use Rattle.std.specs.Str.{bytes_eq}

-- a line begins with this text
abbrev pub begins : List ℕ → List ℕ → Bool
begins text line = bytes_eq (take (length text) line) text

-- what the first line of a head says that begins with these bytes: a field's name, a colon and a space
abbrev pub field_of : List ℕ → List (List ℕ) → Option (List ℕ)
field_of name [] = None
field_of name (line ∷ lines) = if begins name line then Some (drop (length name) line) else field_of name lines

-- a head says who posts and what it is (RFC 5536, 3.1.2 and 3.1.6)
abbrev pub has_from_and_subject : List (List ℕ) → Bool
has_from_and_subject head = is_some (field_of (codes "From: ") head) && is_some (field_of (codes "Subject: ") head)

-- ---- newsgroups

-- names of newsgroups with a comma between two (RFC 5536, 3.1.4), as many as there are
abbrev pub are_newsgroups : List ℕ → Bool
are_newsgroups text = list_all (is_word is_group_byte 200) (names_of text)

abbrev pub newsgroups_in : List ℕ → Option (List ℕ)
newsgroups_in text = if are_newsgroups text then Some text else None

-- the newsgroups that a head names
abbrev pub newsgroups_of : List (List ℕ) → Option (List ℕ)
newsgroups_of head = option_and_then newsgroups_in (field_of (codes "Newsgroups: ") head)

-- ---- the message-id

-- angle brackets, and what stands between them
abbrev pub is_bracketed : List ℕ → Bool
is_bracketed text = nat_lt 1 (length text) && slice_index text 0 == 60 && slice_index text (length text - 1) == 62

abbrev pub between : List ℕ → List ℕ
between text = take (length text - 1 - 1) (drop 1 text)

-- a message-id in angle brackets (RFC 5536, 3.1.3)
abbrev pub id_in : List ℕ → Option (List ℕ)
id_in text = if is_bracketed text && is_word is_id_byte 248 (between text) then Some (between text) else None

-- the message-id that a head gives
abbrev pub id_of : List (List ℕ) → Option (List ℕ)
id_of head = option_and_then id_in (field_of (codes "Message-ID: ") head)
