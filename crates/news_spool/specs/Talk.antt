-- What a line does that a server in memory hears on a link: the talk goes on to another state, with a reply, and an article
-- may be kept.
use Rattle.std.specs.Prelude.{ℕ, Bool, true, false, ◌==◌, if◌then◌else◌, List, [], ◌∷◌, ◌++◌, length, Option, Some, None}
use Rattle.dot_blocks.specs.BlockReading.{is_dot, unstuffed}
use Rattle.held_articles.specs.declared.article.Article.{Article}
use Rattle.news_spool.specs.declared.reply.Answer.{Answer}
use Rattle.news_spool.specs.declared.reply.Answer.TheVariants.{Line, Group, Overview, Body as TheBody, Stat}
use Rattle.news_spool.specs.declared.reply.Reply.{Reply}
use Rattle.news_spool.specs.declared.reply.Reply.TheVariants as reply
use Rattle.news_spool.specs.declared.talk.Phase.{Phase}
use Rattle.news_spool.specs.declared.talk.Phase.TheVariants.{Commands, Head, Body, Over}
use Rattle.news_spool.specs.declared.talk.Talk.{Talk}
use Rattle.news_spool.specs.Answers.{answer_to, group_word, login_word, reply_text}
use Rattle.held_articles.specs.Articles.{article_of, is_known}
use Rattle.held_articles.specs.ById.{present_article}
use Rattle.news_spool.specs.declared.plan.SpoolServer.{SpoolServer}
use Rattle.news_spool.specs.Bodies.{body_reply, stat_reply}
use Rattle.news_spool.specs.Groups.{chosen_after, group_count, group_reply}
use Rattle.news_spool.specs.Overview.{over_reply}

-- a text is owed, and one more reply
abbrev pub saying : List ℕ → Talk → Talk
saying text talk = record {
  phase = talk.phase;
  name = talk.name;
  logged_in = talk.logged_in;
  group = talk.group;
  owed = talk.owed ++ text;
}

abbrev pub owing : Reply → Talk → Talk
owing reply talk = saying (reply_text reply) talk

-- something else comes next
abbrev pub in_phase : Phase → Talk → Talk
in_phase phase talk = record { phase = phase; name = talk.name; logged_in = talk.logged_in; group = talk.group; owed = talk.owed }

-- a talk begins with the greeting, which is answered to no line
abbrev pub new_talk : Talk
new_talk = record { phase = Commands; name = None; logged_in = false; group = None; owed = reply_text reply.Ready }

-- what is kept of one that has ended
abbrev pub ended_talk : Talk
ended_talk = record { phase = Over; name = None; logged_in = false; group = None; owed = [] }

-- ---- commands

-- what comes behind a reply to a command
abbrev pub phase_after : Reply → Phase
phase_after reply.Send = Head []
phase_after reply.Bye = Over
phase_after other = Commands

-- the name that came last
abbrev pub name_after : Reply → List ℕ → Option (List ℕ) → Option (List ℕ)
name_after reply.PassNext line name = Some (login_word line)
name_after other line name = name

abbrev pub logged_in_after : Reply → Bool → Bool
logged_in_after reply.LoggedIn before = true
logged_in_after other before = before

-- what a reply to a command leaves
abbrev pub after_reply : Reply → List ℕ → Talk → Talk
after_reply reply line talk = record {
  phase = phase_after reply;
  name = name_after reply line talk.name;
  logged_in = logged_in_after reply talk.logged_in;
  group = talk.group;
  owed = talk.owed ++ reply_text reply;
}

-- what a command leaves that names a newsgroup
abbrev pub after_group : List ℕ → List Article → Talk → Talk
after_group name articles talk = record {
  phase = talk.phase;
  name = talk.name;
  logged_in = talk.logged_in;
  group = chosen_after name (group_count name articles) talk.group;
  owed = talk.owed ++ group_reply name articles;
}

-- what an answer leaves, over these articles, each of which has this date, from a server that lacks those with the numbers `absent`
abbrev pub answered : Answer → List ℕ → List ℕ → List ℕ → List Article → Talk → Talk
answered (Line reply) line absent date articles talk = after_reply reply line talk
answered Group line absent date articles talk = after_group (group_word line) articles talk
answered (Overview range) line absent date articles talk = saying (over_reply talk.group range date articles) talk
answered (TheBody id) line absent date articles talk = saying (body_reply (present_article id absent articles)) talk
answered (Stat id) line absent date articles talk = saying (stat_reply (present_article id absent articles)) talk

-- a command came to a server
abbrev pub heard_command : SpoolServer → List ℕ → List ℕ → List Article → Talk → Talk
heard_command server date line articles talk =
    answered (answer_to server.login talk.logged_in talk.name line) line server.absent date articles (in_phase Commands talk)

-- ---- articles

-- what an article is answered that has come whole: it is taken where it is one, and no other has its message-id
abbrev pub article_reply : Option Article → List Article → Reply
article_reply None articles = reply.Refused
article_reply (Some article) articles = if is_known article.id articles then reply.Refused else reply.Posted

abbrev pub articles_after : Option Article → List Article → List Article
articles_after None articles = articles
articles_after (Some article) articles = if is_known article.id articles then articles else articles ++ article ∷ []

-- commands follow behind it
abbrev pub judged : Option Article → Talk × List Article → Talk × List Article
judged article heard = (owing (article_reply article heard.1) (in_phase Commands heard.0), articles_after article heard.1)

-- a line of a head, or the empty line behind it; what ends before that is no article
abbrev pub heard_head : List (List ℕ) → List ℕ → Talk → Talk
heard_head head line talk =
    if is_dot line then owing reply.Refused (in_phase Commands talk)
    else if length line == 0 then in_phase (Body head []) talk
    else in_phase (Head (head ++ unstuffed line ∷ [])) talk

-- a line of a body, or the dot behind it
abbrev pub heard_body : List (List ℕ) → List (List ℕ) → List ℕ → Talk × List Article → Talk × List Article
heard_body head body line heard =
    if is_dot line then judged (article_of head body) heard
    else (in_phase (Body head (body ++ unstuffed line ∷ [])) heard.0, heard.1)

-- ---- lines

abbrev pub heard_in : Phase → SpoolServer → List ℕ → List ℕ → Talk × List Article → Talk × List Article
heard_in Commands server date line heard = (heard_command server date line heard.1 heard.0, heard.1)
heard_in (Head head) server date line heard = (heard_head head line heard.0, heard.1)
heard_in (Body head body) server date line heard = heard_body head body line heard
heard_in Over server date line heard = heard

-- a line came, without its CRLF
abbrev pub heard_line : SpoolServer → List ℕ → List ℕ → Talk × List Article → Talk × List Article
heard_line server date line heard = heard_in heard.0.phase server date line heard
