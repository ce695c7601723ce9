-- Commands as a client sends them (RFC 3977, 3.1 and 9.2, and for the login RFC 4643, 3.1): a keyword, and its arguments
-- behind one space each.
use Rattle.std.specs.Prelude.{◌≡◌, ℕ, ◌≤◌, Bool, List, [], ◌∷◌, ◌++◌, length, codes, decimal, IsTrue}
use Rattle.std.specs.List.{list_all}
use Rattle.std.specs.Int.{is_in_range}
use Rattle.nntp_lines.specs.GroupName.{IsGroupName}
use Rattle.nntp_lines.specs.LoginWord.{IsLoginWord}
use Rattle.nntp_lines.specs.MessageId.{IsMessageId}
use Rattle.nntp_lines.specs.declared.command.Command.{Command}
use Rattle.nntp_lines.specs.declared.command.Command.TheVariants.{Body, Stat, Group, Over, Post, Quit, User, Pass}
use Rattle.limits.specs.declared.TheConstants.{MOST_ARTICLE}

-- ---- the text of each command, without its CRLF

-- the body of the article with a message-id, which is given without its angle brackets (RFC 3977, 6.2.3)
abbrev pub body_line : List ℕ → List ℕ
body_line id = codes "BODY <" ++ id ++ codes ">"

-- whether there is an article with a message-id (RFC 3977, 6.2.4)
abbrev pub stat_line : List ℕ → List ℕ
stat_line id = codes "STAT <" ++ id ++ codes ">"

-- a newsgroup is to be read (RFC 3977, 6.1.1)
abbrev pub group_line : List ℕ → List ℕ
group_line name = codes "GROUP " ++ name

-- the overview of the articles with the numbers from `first` to `last` (RFC 3977, 8.3)
abbrev pub over_line : ℕ → ℕ → List ℕ
over_line first last = codes "OVER " ++ decimal first ++ codes "-" ++ decimal last

-- an article is to be posted (RFC 3977, 6.3.1)
abbrev pub post_line : List ℕ
post_line = codes "POST"

-- the session ends (RFC 3977, 5.4)
abbrev pub quit_line : List ℕ
quit_line = codes "QUIT"

-- the name of the user who logs in, and the password (RFC 4643, 2.3)
abbrev pub user_line : List ℕ → List ℕ
user_line name = codes "AUTHINFO USER " ++ name

abbrev pub pass_line : List ℕ → List ℕ
pass_line password = codes "AUTHINFO PASS " ++ password

-- ---- commands

-- a command without its CRLF
abbrev pub command_line : Command → List ℕ
command_line (Body id) = body_line id.now
command_line (Stat id) = stat_line id.now
command_line (Group name) = group_line name.now
command_line (Over first last) = over_line first last
command_line Post = post_line
command_line Quit = quit_line
command_line (User name) = user_line name.now
command_line (Pass password) = pass_line password.now

-- CR and LF
abbrev pub crlf : List ℕ
crlf = 13 ∷ 10 ∷ []

-- a command as it is sent
unfoldable pub command_text : Command → List ℕ
command_text command = command_line command ++ crlf

-- the number of an article: at most 16 digits (RFC 3977, 9.8, "article-number")
abbrev pub IsArticleNumber : ℕ → Type 0
IsArticleNumber number = number ≤ MOST_ARTICLE

-- the numbers in a command are those of articles
abbrev pub HasArticleNumbers : Command → Type 0
HasArticleNumbers (Over first last) = IsArticleNumber first × IsArticleNumber last
HasArticleNumbers other = Unit {0}

-- the words in a command keep to their rules
abbrev pub HasValidWords : Command → Type 0
HasValidWords (Body id) = IsMessageId id.now
HasValidWords (Stat id) = IsMessageId id.now
HasValidWords (Group name) = IsGroupName name.now
HasValidWords (User name) = IsLoginWord name.now
HasValidWords (Pass password) = IsLoginWord password.now
HasValidWords other = Unit {0}

-- ---- one line

-- a printable ASCII character or a space
abbrev pub is_printable : ℕ → Bool
is_printable byte = is_in_range 32 126 byte

-- one whole command line: printable characters, and one CRLF behind them; at most 512 bytes with it (RFC 3977, 3.1)
pub record IsCommandLine (text : List ℕ) : Type 0 where
  pub line : List ℕ
  pub ended : text ≡ line ++ crlf
  pub printable : IsTrue (list_all is_printable line)
  pub short : length text ≤ 512
