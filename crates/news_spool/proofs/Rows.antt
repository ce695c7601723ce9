-- The definitions of replies, articles and links, computed on cases that were written out by hand.
use Rattle.std.proofs.Common.{◌≡◌, ℕ, ◌++◌, true, false, List, [], ◌∷◌, Some, None, length, refl}
use Rattle.std.specs.Fmt.{digits}
use Rattle.std.specs.Prelude.{codes, Option}
use Rattle.held_articles.specs.declared.article.Article.{Article}
use Rattle.news_spool.specs.declared.link_state.Due.TheVariants as due
use Rattle.news_spool.specs.declared.link_state.LinkState.{LinkState}
use Rattle.news_spool.specs.declared.reply.Answer.TheVariants.{Body, Group, Line, Overview, Stat}
use Rattle.news_spool.specs.declared.reply.Reply.TheVariants.{Send, LoginFirst, PassNext, LoggedIn, NameFirst, WrongLogin, NoLogin, Bye, What}
use Rattle.news_spool.specs.Answers.{answer_to, article_answer, reply_text}
use Rattle.held_articles.specs.Articles.{article_of}
use Rattle.held_articles.specs.Fields.{field_of, id_of, newsgroups_of}
use Rattle.held_articles.specs.Articles.{in_group}
use Rattle.held_articles.specs.ById.{present_article}
use Rattle.news_spool.specs.Bodies.{body_reply, stat_reply}
use Rattle.news_spool.specs.Groups.{group_line, group_reply}
use Rattle.news_spool.specs.LinkState.{due_on, given, heard_bytes, new_link}
use Rattle.news_spool.specs.Overview.{over_reply, overview_of}
use Rattle.news_spool.specs.Pieces.{next_turn, piece_at}
use Rattle.news_spool.specs.Ranges.{range_of}
use Rattle.news_spool.specs.declared.plan.SpoolServer.{SpoolServer}

-- ---- commands

abbrev own : Option (List ℕ × List ℕ)
own = Some (codes "me", codes "secret")

pub posts : answer_to None false None (codes "POST") ≡ Line Send
unfolding answer_to
posts = refl

pub login_comes_first : answer_to own false None (codes "POST") ≡ Line LoginFirst
unfolding answer_to
login_comes_first = refl

pub quits_without_login : answer_to own false None (codes "QUIT") ≡ Line Bye
unfolding answer_to
quits_without_login = refl

pub name_is_taken : answer_to own false None (codes "AUTHINFO USER you") ≡ Line PassNext
unfolding answer_to
name_is_taken = refl

pub password_is_right : answer_to own false (Some (codes "me")) (codes "AUTHINFO PASS secret") ≡ Line LoggedIn
unfolding answer_to
password_is_right = refl

pub name_is_wrong : answer_to own false (Some (codes "you")) (codes "AUTHINFO PASS secret") ≡ Line WrongLogin
unfolding answer_to
name_is_wrong = refl

pub name_is_missing : answer_to own false None (codes "AUTHINFO PASS secret") ≡ Line NameFirst
unfolding answer_to
name_is_missing = refl

pub no_login : answer_to None false None (codes "AUTHINFO USER me") ≡ Line NoLogin
unfolding answer_to
no_login = refl

pub other_word : answer_to None false None (codes "AUTHINFOX") ≡ Line What
unfolding answer_to article_answer
other_word = refl

pub group_is_asked : answer_to None false None (codes "GROUP a") ≡ Group
unfolding answer_to
group_is_asked = refl

pub overview_is_asked : answer_to None false None (codes "OVER 1-20") ≡ Overview (record { first = 1; last = 20 })
unfolding answer_to range_of
overview_is_asked = refl

pub login_before_a_group : answer_to own false None (codes "GROUP a") ≡ Line LoginFirst
unfolding answer_to
login_before_a_group = refl

pub body_is_asked : answer_to None false None (codes "BODY <a@b>") ≡ Body (codes "a@b")
unfolding answer_to article_answer
body_is_asked = refl

pub presence_is_asked : answer_to None false None (codes "STAT <a@b>") ≡ Stat (codes "a@b")
unfolding answer_to article_answer
presence_is_asked = refl

pub login_before_a_body : answer_to own false None (codes "BODY <a@b>") ≡ Line LoginFirst
unfolding answer_to
login_before_a_body = refl

pub body_by_number : answer_to None false None (codes "BODY 5") ≡ Line What
unfolding answer_to article_answer
body_by_number = refl

pub stat_of_nothing : answer_to None false None (codes "STAT") ≡ Line What
unfolding answer_to article_answer
stat_of_nothing = refl

-- ---- ranges

pub zeros_in_front : range_of (codes "002-9999999999999999") ≡ Some (record { first = 2; last = 9999999999999999 })
unfolding range_of
zeros_in_front = refl

pub one_number : range_of (codes "1") ≡ None
unfolding range_of
one_number = refl

pub no_end : range_of (codes "1-") ≡ None
unfolding range_of
no_end = refl

pub number_too_large : range_of (codes "1-10000000000000000") ≡ None
unfolding range_of
number_too_large = refl

-- ---- fields

-- the first line that begins so counts, and the name is compared byte by byte
pub first_field : field_of (codes "Subject: ") (codes "subject: a" ∷ codes "Subject:b" ∷ codes "Subject: c" ∷ codes "Subject: d" ∷ []) ≡ Some (codes "c")
first_field = refl

pub two_newsgroups : newsgroups_of (codes "Newsgroups: alt.a,alt.b" ∷ []) ≡ Some (codes "alt.a,alt.b")
two_newsgroups = refl

pub comma_at_the_end : newsgroups_of (codes "Newsgroups: alt.a," ∷ []) ≡ None
comma_at_the_end = refl

pub id_in_brackets : id_of (codes "Message-ID: <a@b>" ∷ []) ≡ Some (codes "a@b")
id_in_brackets = refl

pub id_without_brackets : id_of (codes "Message-ID: a@b" ∷ codes "Message-ID: <a@b>" ∷ []) ≡ None
id_without_brackets = refl

-- ---- newsgroups

abbrev article_in : List ℕ → Article
article_in newsgroups = record {
  id = codes "d@e";
  newsgroups = newsgroups;
  head = codes "Subject: a\tb" ∷ codes "From: c" ∷ [];
  body = codes "line" ∷ [] ∷ [];
}

abbrev article_of_id : List ℕ → Article
article_of_id id = record { id = id; newsgroups = codes "x"; head = []; body = [] }

abbrev three : List Article
three = article_in (codes "x,y") ∷ article_in (codes "y") ∷ article_in (codes "x") ∷ []

pub second_name : in_group (codes "y") (article_in (codes "x,y")) ≡ true
unfolding in_group
second_name = refl

pub both_names : in_group (codes "x,y") (article_in (codes "x,y")) ≡ false
unfolding in_group
both_names = refl

pub first_and_third : group_reply (codes "x") three ≡ codes "211 2 1 3 x\r\n"
unfolding group_line in_group reply_text digits
first_and_third = refl

pub no_article : group_reply (codes "z") three ≡ codes "411 none\r\n"
unfolding group_line in_group reply_text
no_article = refl

-- ---- bodies

abbrev dotted : Article
dotted = record { id = codes "d@e"; newsgroups = codes "x"; head = []; body = codes "one" ∷ codes ".two" ∷ [] ∷ [] }

pub dots_are_stuffed : body_reply (present_article (codes "d@e") (1 ∷ 3 ∷ []) (article_of_id (codes "f@g") ∷ dotted ∷ [])) ≡ codes "222 0 <d@e>\r\none\r\n..two\r\n\r\n.\r\n"
dots_are_stuffed = refl

pub lacked_body : body_reply (present_article (codes "d@e") (1 ∷ 2 ∷ []) (article_of_id (codes "f@g") ∷ dotted ∷ [])) ≡ codes "430 none\r\n"
unfolding reply_text
lacked_body = refl

pub unknown_body : body_reply (present_article (codes "d@f") [] (dotted ∷ [])) ≡ codes "430 none\r\n"
unfolding reply_text
unknown_body = refl

pub article_is_there : stat_reply (present_article (codes "d@e") [] (dotted ∷ [])) ≡ codes "223 0 <d@e>\r\n"
article_is_there = refl

-- ---- overviews

-- the lines have 12, 7, 0, 4 and 0 bytes, and two more each
pub one_overview : overview_of 3 (article_in (codes "x")) (codes "now") ≡ codes "3\ta b\tc\tnow\t<d@e>\t\t33\t2"
unfolding overview_of digits
one_overview = refl

pub one_of_three : over_reply (Some (codes "x")) (record { first = 2; last = 3 }) (codes "now") three
    ≡ codes "224 follows\r\n3\ta b\tc\tnow\t<d@e>\t\t33\t2\r\n.\r\n"
unfolding in_group overview_of reply_text digits
one_of_three = refl

pub none_in_range : over_reply (Some (codes "x")) (record { first = 2; last = 2 }) (codes "now") three ≡ codes "423 none\r\n"
unfolding in_group overview_of reply_text
none_in_range = refl

pub none_chosen : over_reply None (record { first = 1; last = 3 }) (codes "now") three ≡ codes "412 no group\r\n"
unfolding reply_text
none_chosen = refl

-- ---- links

abbrev open_server : SpoolServer
open_server = record { address = []; absent = 2 ∷ []; login = None }

abbrev heard : List ℕ → LinkState × List Article
heard bytes = heard_bytes open_server [] bytes (new_link 0 None None, [])

pub greeting : (heard []).0.talk.owed ≡ codes "200 ready\r\n"
unfolding reply_text
greeting = refl

abbrev posted : List ℕ
posted = codes "POST\r\nFrom: a\r\nNewsgroups: b\r\nSubject: c\r\nMessage-ID: <d>\r\n\r\n..e\r\n.\r\n"

pub article_is_kept : (heard posted).1 ≡ record {
  id = codes "d";
  newsgroups = codes "b";
  head = codes "From: a" ∷ codes "Newsgroups: b" ∷ codes "Subject: c" ∷ codes "Message-ID: <d>" ∷ [];
  body = codes ".e" ∷ [];
} ∷ []
unfolding answer_to reply_text article_of
article_is_kept = refl

pub article_is_answered : (heard posted).0.talk.owed ≡ codes "200 ready\r\n340 send\r\n240 posted\r\n"
unfolding answer_to reply_text article_of
article_is_answered = refl

-- the same article again
pub known_is_refused : (heard (posted ++ posted)).0.talk.owed ≡ codes "200 ready\r\n340 send\r\n240 posted\r\n340 send\r\n441 refused\r\n"
unfolding answer_to reply_text article_of
known_is_refused = refl

pub known_changes_nothing : length (heard (posted ++ posted)).1 ≡ 1
unfolding answer_to reply_text article_of
known_changes_nothing = refl

-- the newsgroup that is chosen stays where another one is refused
pub refusal_keeps_the_group : (heard (posted ++ codes "GROUP b\r\nGROUP c\r\nOVER 1-1\r\n")).0.talk.group ≡ Some (codes "b")
unfolding answer_to range_of reply_text article_of in_group group_line overview_of
refusal_keeps_the_group = refl

-- the dot that was taken off is put on again
pub body_of_what_was_posted : (heard (posted ++ codes "BODY <d>\r\n")).0.talk.owed ≡ codes "200 ready\r\n340 send\r\n240 posted\r\n222 0 <d>\r\n..e\r\n.\r\n"
unfolding answer_to article_answer reply_text article_of
body_of_what_was_posted = refl

-- nothing is heard behind the end of the session
pub nothing_is_heard : (heard (codes "QUIT\r\nPOST\r\n")).0.talk.owed ≡ codes "200 ready\r\n205 bye\r\n"
unfolding answer_to reply_text
nothing_is_heard = refl

-- ---- what is due

abbrev greeted : LinkState
greeted = new_link 0 (Some 4) (Some 9)

pub link_gives_up_to_its_end : due_on None 64 greeted ≡ due.Bytes 4
unfolding reply_text
link_gives_up_to_its_end = refl

pub piece_bounds : due_on (Some 3) 64 greeted ≡ due.Bytes 3
unfolding reply_text
piece_bounds = refl

pub room_bounds : due_on (Some 3) 2 greeted ≡ due.Bytes 2
unfolding reply_text
room_bounds = refl

pub empty_piece_is_quiet : due_on (Some 0) 64 (given 4 greeted) ≡ due.Quiet
empty_piece_is_quiet = refl

pub link_ends : due_on (Some 1) 64 (given 4 greeted) ≡ due.End
link_ends = refl

pub link_falls_quiet : due_on None 64 (given 9 (new_link 0 None (Some 9))) ≡ due.Quiet
link_falls_quiet = refl

pub session_ends : due_on None 64 (given 20 (heard (codes "QUIT\r\n")).0) ≡ due.End
unfolding answer_to reply_text
session_ends = refl

pub nothing_is_owed : due_on None 64 (given 11 (new_link 0 None None)) ≡ due.Quiet
unfolding reply_text
nothing_is_owed = refl

-- the fifth receive of two pieces has the first one's bound
pub pieces_come_again : piece_at (1 ∷ 7 ∷ []) (next_turn 2 (next_turn 2 (next_turn 2 (next_turn 2 0)))) ≡ Some 1
pieces_come_again = refl

pub no_pieces : piece_at [] (next_turn 0 0) ≡ None
no_pieces = refl
