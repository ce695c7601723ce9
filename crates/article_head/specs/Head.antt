-- The head of a part's article as it is posted (RFC 5536, 2.2 and 3.1): a field a line, and an empty line. The fields `Date`
-- and `Path` are left to the server (RFC 5537, 3.4.1 and 3.5).
use Rattle.std.specs.Prelude.{◌≡◌, ℕ, ◌≤◌, List, [], ◌∷◌, ◌++◌, length, codes, IsTrue, All}
use Rattle.std.specs.Char.{is_ascii_graphic}
use Rattle.std.specs.List.{list_all, list_any}
use Rattle.nntp_lines.specs.Command.{is_printable}
use Rattle.nntp_lines.specs.MessageId.{IsMessageId}
use Rattle.article_head.specs.declared.head.Head.{Head}
use Rattle.article_head.specs.Field.{IsComment, IsFileName, IsFrom, IsNewsgroups}
use Rattle.article_head.specs.Subject.{subject_text}

-- who posts (RFC 5536, 3.1.2)
abbrev pub from_line : List ℕ → List ℕ
from_line from = codes "From: " ++ from

-- where to (RFC 5536, 3.1.4)
abbrev pub newsgroups_line : List ℕ → List ℕ
newsgroups_line newsgroups = codes "Newsgroups: " ++ newsgroups

-- what it is (RFC 5536, 3.1.6)
abbrev pub subject_line : (comment name : List ℕ) (part total : ℕ) → List ℕ
subject_line comment name part total = codes "Subject: " ++ subject_text comment name part total

-- the message-id, which is given without its angle brackets (RFC 5536, 3.1.3)
abbrev pub message_id_line : List ℕ → List ℕ
message_id_line id = codes "Message-ID: <" ++ id ++ codes ">"

-- the head's lines
abbrev pub head_lines : (from newsgroups comment name : List ℕ) (part total : ℕ) (id : List ℕ) → List (List ℕ)
head_lines from newsgroups comment name part total id =
    from_line from ∷ newsgroups_line newsgroups ∷ subject_line comment name part total ∷ message_id_line id ∷ [] ∷ []

abbrev pub lines_of_head : Head → List (List ℕ)
lines_of_head head = head_lines head.from.now head.newsgroups.now head.comment.now head.name.now head.part head.total head.id.now

-- the fields say what they may
pub record HasValidFields (head : Head) : Type 0 where
  pub from : IsFrom head.from.now
  pub newsgroups : IsNewsgroups head.newsgroups.now
  pub comment : IsComment head.comment.now
  pub name : IsFileName head.name.now

-- ---- lines of fields

-- the line of a header field (RFC 5536, 2.2): a name, a colon and a space, and printable ASCII characters behind them, of
-- which there is at least one that is no space; at most 998 bytes
pub record IsFieldLine (line : List ℕ) : Type 0 where
  pub name : List ℕ
  pub body : List ℕ
  pub whole : line ≡ name ++ codes ": " ++ body
  pub named : 1 ≤ length name
  pub some : IsTrue (list_any is_ascii_graphic body)
  pub printable : IsTrue (list_all is_printable line)
  pub short : length line ≤ 998

-- a head has lines of fields and then an empty line, so that no field's text can end it or begin a field of its own
abbrev pub HeadIsFields : Type 0
HeadIsFields = (from newsgroups comment name : List ℕ) (part total : ℕ) (id : List ℕ) → IsFrom from → IsNewsgroups newsgroups → IsComment comment →
    IsFileName name → part ≤ 4294967295 → total ≤ 4294967295 → IsMessageId id →
    (fields : List (List ℕ)) × (head_lines from newsgroups comment name part total id ≡ fields ++ [] ∷ []) × All IsFieldLine fields
