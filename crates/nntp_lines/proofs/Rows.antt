-- The definitions of words, commands and status lines, computed on cases that were written out by hand.
use Rattle.std.proofs.Common.{◌≡◌, ℕ, List, [], ◌++◌, Some, None, Ok, Err, refl, lit≤, lit<, arith}
use Rattle.std.specs.Prelude.{codes, replicate}
use Rattle.std.specs.Borrow.{Bor}
use Rattle.std.specs.Fmt.{digits}
use Rattle.nntp_lines.specs.declared.status.StatusFault.TheVariants.{NotACode, TooLong}
use Rattle.nntp_lines.specs.declared.command.Command.TheVariants.{Body, Over, Quit}
use Rattle.nntp_lines.specs.Command.{command_text, stat_line, group_line, post_line, user_line, pass_line, HasArticleNumbers}
use Rattle.nntp_lines.specs.GroupName.{IsGroupName}
use Rattle.nntp_lines.specs.GroupReply.{group_of, numbered}
use Rattle.nntp_lines.specs.LoginWord.{IsLoginWord}
use Rattle.nntp_lines.specs.MessageId.{IsMessageId}
use Rattle.nntp_lines.specs.StatusLine.{HasStatusFault, IsStatusLine, status_of}

-- ---- words

pub id : IsMessageId (codes "part1of1.a$b@example.org")
id = record { some = lit≤ tt; short = lit≤ tt; all = refl }

-- the first bracket may stand in an id, the last one may not
pub id_with_first_bracket : IsMessageId (codes "a<b@c")
id_with_first_bracket = record { some = lit≤ tt; short = lit≤ tt; all = refl }

pub id_with_last_bracket : ¬ IsMessageId (codes "a>b@c")
id_with_last_bracket h = let e = h.all in cc

pub id_with_space : ¬ IsMessageId (codes "a b@c")
id_with_space h = let e = h.all in cc

pub empty_id : ¬ IsMessageId []
empty_id h = omega (arith, h.some)

pub longest_id : IsMessageId (replicate 248 97)
longest_id = record { some = lit≤ tt; short = lit≤ tt; all = refl }

pub id_too_long : ¬ IsMessageId (replicate 249 97)
id_too_long h = omega (arith, h.short)

pub group : IsGroupName (codes "alt.binaries.multi-media_x+y")
group = record { some = lit≤ tt; short = lit≤ tt; all = refl }

pub two_groups : ¬ IsGroupName (codes "alt.test,misc.test")
two_groups h = let e = h.all in cc

pub longest_group : IsGroupName (replicate 200 97)
longest_group = record { some = lit≤ tt; short = lit≤ tt; all = refl }

pub group_too_long : ¬ IsGroupName (replicate 201 97)
group_too_long h = omega (arith, h.short)

pub password : IsLoginWord (codes "correct-horse;>battery")
password = record { some = lit≤ tt; short = lit≤ tt; all = refl }

pub password_of_two_words : ¬ IsLoginWord (codes "correct horse")
password_of_two_words h = let e = h.all in cc

-- ---- commands

pub body : (id : Bor (List ℕ)) → id.now ≡ codes "a@b" → command_text (Body id) ≡ codes "BODY <a@b>\r\n"
unfolding command_text
body id is = rw is refl

pub over : command_text (Over 1 9999999999999999) ≡ codes "OVER 1-9999999999999999\r\n"
unfolding command_text digits
over = refl

pub quit : command_text Quit ≡ codes "QUIT\r\n"
unfolding command_text
quit = refl

pub stat : stat_line (codes "a@b") ≡ codes "STAT <a@b>"
stat = refl

pub newsgroup : group_line (codes "alt.test") ≡ codes "GROUP alt.test"
newsgroup = refl

pub post : post_line ≡ codes "POST"
post = refl

pub user : user_line (codes "fred") ≡ codes "AUTHINFO USER fred"
user = refl

pub pass : pass_line (codes "flintstone") ≡ codes "AUTHINFO PASS flintstone"
pass = refl

-- an article's number has 16 digits
pub greatest_number : HasArticleNumbers (Over 9999999999999999 9999999999999999)
greatest_number = (lit≤ tt, lit≤ tt)

-- ---- status lines

-- text of any kind behind a code
pub article_follows : status_of (codes "222 0 <a@b>") ≡ Ok 222
unfolding status_of
article_follows = refl

-- nothing behind a code, and a space alone
pub code_alone : status_of (codes "200") ≡ Ok 200
unfolding status_of
code_alone = refl

pub code_and_space : status_of (codes "205 ") ≡ Ok 205
unfolding status_of
code_and_space = refl

-- a code is three digits, whichever they are
pub small_code : status_of (codes "099 x") ≡ Ok 99
unfolding status_of
small_code = refl

pub two_digits : status_of (codes "20") ≡ Err NotACode
unfolding status_of
two_digits = refl

pub four_digits : status_of (codes "2000") ≡ Err NotACode
unfolding status_of
four_digits = refl

pub letter_in_code : status_of (codes "2x0 hello") ≡ Err NotACode
unfolding status_of
letter_in_code = refl

pub empty_line : status_of [] ≡ Err NotACode
unfolding status_of
empty_line = refl

-- 510 bytes and 511
pub longest_line : status_of (codes "200 " ++ replicate 506 97) ≡ Ok 200
unfolding status_of
longest_line = refl

pub line_too_long : status_of (codes "200 " ++ replicate 507 97) ≡ Err TooLong
unfolding status_of
line_too_long = refl

-- the same by the definition of a status line
pub is_article_follows : IsStatusLine (codes "222 0 <a@b>") 222
is_article_follows = record { short = lit≤ tt; begins = record { digits = codes "222"; text = codes " 0 <a@b>"; whole = refl; three = refl; number = refl; behind = refl } }

pub is_too_long : HasStatusFault (codes "200 " ++ replicate 507 97) TooLong
is_too_long = lit< tt

-- ---- the reply to GROUP

pub group_chosen : group_of (codes "211 1234 3000234 3002322 misc.test") ≡ Some (record { count = 1234; low = 3000234; high = 3002322 })
unfolding group_of numbered
group_chosen = refl

-- an empty group, and a name that is left out behind its space
pub empty_group : group_of (codes "211 0 0 0 ") ≡ Some (record { count = 0; low = 0; high = 0 })
unfolding group_of numbered
empty_group = refl

pub without_name : group_of (codes "211 1 2 3") ≡ None
unfolding group_of numbered
without_name = refl

pub two_spaces : group_of (codes "211  1 2 3 x") ≡ None
unfolding group_of numbered
two_spaces = refl

pub another_code : group_of (codes "411 1 2 3 x") ≡ None
unfolding group_of numbered
another_code = refl

-- sixteen digits and seventeen
pub greatest_article : group_of (codes "211 1 1 9999999999999999 x") ≡ Some (record { count = 1; low = 1; high = 9999999999999999 })
unfolding group_of numbered
greatest_article = refl

pub article_too_great : group_of (codes "211 1 1 10000000000000000 x") ≡ None
unfolding group_of numbered
article_too_great = refl
