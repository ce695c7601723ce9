-- What a server in memory answers to a command (RFC 3977, and RFC 4643 for the login).
use Rattle.std.specs.Prelude.{ℕ, Bool, not, ◌&&◌, ◌||◌, nat_lt, if◌then◌else◌, List, ◌++◌, length, drop, codes, Option, Some, None}
use Rattle.std.specs.Option.{is_some}
use Rattle.std.specs.Str.{bytes_eq}
use Rattle.nntp_lines.specs.Command.{crlf}
use Rattle.news_spool.specs.declared.range.NumberRange.{NumberRange}
use Rattle.news_spool.specs.declared.reply.Answer.{Answer}
use Rattle.news_spool.specs.declared.reply.Answer.TheVariants.{Line, Group, Overview, Body, Stat}
use Rattle.news_spool.specs.declared.reply.Reply.{Reply}
use Rattle.news_spool.specs.declared.reply.Reply.TheVariants.{Ready, Send, Posted, Refused, NotInGroup, NoneChosen, NoneInRange, NoneWithId, Follows, Bye, LoginFirst, PassNext, LoggedIn, NameFirst, WrongLogin, NoLogin, What}
use Rattle.held_articles.specs.Fields.{begins, id_in}
use Rattle.news_spool.specs.Ranges.{range_of}

-- ---- the text of each reply

-- a status line without its CRLF
abbrev pub reply_line : Reply → List ℕ
reply_line Ready = codes "200 ready"
reply_line Send = codes "340 send"
reply_line Posted = codes "240 posted"
reply_line Refused = codes "441 refused"
reply_line NotInGroup = codes "411 none"
reply_line NoneChosen = codes "412 no group"
reply_line NoneInRange = codes "423 none"
reply_line NoneWithId = codes "430 none"
reply_line Follows = codes "224 follows"
reply_line Bye = codes "205 bye"
reply_line LoginFirst = codes "480 login"
reply_line PassNext = codes "381 more"
reply_line LoggedIn = codes "281 in"
reply_line NameFirst = codes "482 order"
reply_line WrongLogin = codes "481 refused"
reply_line NoLogin = codes "502 no"
reply_line What = codes "500 what"

-- a reply as it is sent
unfoldable pub reply_text : Reply → List ℕ
reply_text reply = reply_line reply ++ crlf

-- ---- the reply to each command

-- a line has this text
abbrev pub is_line : List ℕ → List ℕ → Bool
is_line text line = bytes_eq line text

-- the line is a command of the login (RFC 4643, 2.3)
abbrev pub is_authinfo : List ℕ → Bool
is_authinfo line = is_line (codes "AUTHINFO") line || begins (codes "AUTHINFO ") line

abbrev pub is_user : List ℕ → Bool
is_user line = begins (codes "AUTHINFO USER ") line

abbrev pub is_pass : List ℕ → Bool
is_pass line = begins (codes "AUTHINFO PASS ") line

-- the argument of those two
abbrev pub login_word : List ℕ → List ℕ
login_word line = drop 14 line

-- to a password, by the server's own login and the name that came last
abbrev pub pass_reply : List ℕ × List ℕ → Option (List ℕ) → List ℕ → Reply
pass_reply own None password = NameFirst
pass_reply own (Some name) password = if bytes_eq own.0 name && bytes_eq own.1 password then LoggedIn else WrongLogin

-- to a command of the login, by the login that the server has, if it has one
abbrev pub login_reply : Option (List ℕ × List ℕ) → Option (List ℕ) → List ℕ → Reply
login_reply None name line = NoLogin
login_reply (Some own) name line =
    if is_user line then PassNext else if is_pass line then pass_reply own name (login_word line) else What

-- to a command that names a newsgroup (RFC 3977, 6.1.1)
abbrev pub is_group : List ℕ → Bool
is_group line = begins (codes "GROUP ") line

abbrev pub group_word : List ℕ → List ℕ
group_word line = drop 6 line

-- to one that asks for an overview (RFC 3977, 8.3), by the range that it gives
abbrev pub is_over : List ℕ → Bool
is_over line = begins (codes "OVER ") line

abbrev pub over_answer : Option NumberRange → Answer
over_answer None = Line What
over_answer (Some range) = Overview range

-- to one that asks for an article's body (RFC 3977, 6.2.3), or whether it is there (6.2.4), by the message-id that it gives
abbrev pub body_answer : Option (List ℕ) → Answer
body_answer None = Line What
body_answer (Some id) = Body id

abbrev pub stat_answer : Option (List ℕ) → Answer
stat_answer None = Line What
stat_answer (Some id) = Stat id

-- to such a command, and to one that the server doesn't know
unfoldable pub article_answer : List ℕ → Answer
article_answer line =
    if begins (codes "BODY ") line then body_answer (id_in (drop 5 line))
    else if begins (codes "STAT ") line then stat_answer (id_in (drop 5 line))
    else Line What

-- To any line of a command, by the server's login, whether the link is logged in, and the name that came last. A line of
-- more than 510 bytes is no command (RFC 3977, 3.1).
unfoldable pub answer_to : Option (List ℕ × List ℕ) → Bool → Option (List ℕ) → List ℕ → Answer
answer_to login logged_in name line =
    if nat_lt 510 (length line) then Line What
    else if is_line (codes "QUIT") line then Line Bye
    else if is_authinfo line then Line (login_reply login name line)
    else if is_some login && not logged_in then Line LoginFirst
    else if is_line (codes "POST") line then Line Send
    else if is_group line then Group
    else if is_over line then over_answer (range_of (drop 5 line))
    else article_answer line
