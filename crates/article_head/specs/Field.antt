-- What the fields of a posted article's head may say (RFC 5536, 2.2 and 3.1). All limits of length are this project's, and
-- so is that the text is printable ASCII.
use Rattle.std.specs.Prelude.{◌≡◌, ℕ, ◌-◌, ◌≤◌, Bool, not, ◌&&◌, ◌==◌, nat_le, List, length, slice_index, IsTrue, All}
use Rattle.std.specs.List.{list_all, join_with_byte, slice_split}
use Rattle.nntp_lines.specs.Command.{is_printable}
use Rattle.nntp_lines.specs.GroupName.{IsGroupName}

-- no space at either end
abbrev pub is_trimmed : List ℕ → Bool
is_trimmed text = not (slice_index text 0 == 32) && not (slice_index text (length text - 1) == 32)

-- so many printable ASCII characters and spaces, with no space at either end
pub record IsText (least most : ℕ) (text : List ℕ) : Type 0 where
  pub some : least ≤ length text
  pub short : length text ≤ most
  pub printable : IsTrue (list_all is_printable text)
  pub trimmed : IsTrue (is_trimmed text)

-- who posts an article (RFC 5536, 3.1.2); whether it is a mailbox is left to the server
abbrev pub IsFrom : List ℕ → Type 0
IsFrom from = IsText 1 200 from

-- what a subject begins with, which may be nothing
abbrev pub IsComment : List ℕ → Type 0
IsComment comment = IsText 0 200 comment

-- the name of a file, as the subject gives it
abbrev pub IsFileName : List ℕ → Type 0
IsFileName name = IsText 1 255 name

-- a word of up to so many bytes that may stand in it, as a test
abbrev pub is_word : (ℕ → Bool) → ℕ → List ℕ → Bool
is_word may_stand most bytes = nat_le 1 (length bytes) && nat_le (length bytes) most && list_all may_stand bytes

-- the pieces of a list of newsgroups
abbrev pub names_of : List ℕ → List (List ℕ)
names_of text = slice_split (λ byte. byte == 44) text

-- the newsgroups that an article goes to (RFC 5536, 3.1.4, "newsgroup-list"): 1 to 10 names, with a comma between two
pub record IsNewsgroups (text : List ℕ) : Type 0 where
  pub names : List (List ℕ)
  pub some : 1 ≤ length names
  pub few : length names ≤ 10
  pub valid : All IsGroupName names
  pub joined : text ≡ join_with_byte 44 names
  pub short : length text ≤ 600

-- a list of newsgroups has one list of names, its pieces
abbrev pub NewsgroupsAreOne : Type 0
NewsgroupsAreOne = (text : List ℕ) (newsgroups : IsNewsgroups text) → newsgroups.names ≡ names_of text
