-- What bytes do that a server in memory hears on a link, and what is due to a receive there.
use Rattle.std.specs.Prelude.{ℕ, ◌<◌, ◌≤◌, min, ⊤, IfSome, Bool, true, false, ◌==◌, if◌then◌else◌, List, [], ◌∷◌, ◌++◌, length, drop, Option, None}
use Rattle.held_articles.specs.declared.article.Article.{Article}
use Rattle.news_spool.specs.declared.link_state.Due.{Due}
use Rattle.news_spool.specs.declared.link_state.Due.TheVariants as due
use Rattle.news_spool.specs.declared.link_state.LinkState.{LinkState}
use Rattle.news_spool.specs.declared.plan.SpoolServer.{SpoolServer}
use Rattle.news_spool.specs.declared.talk.Phase.{Phase}
use Rattle.news_spool.specs.declared.talk.Phase.TheVariants.{Commands, Head, Body, Over}
use Rattle.news_spool.specs.declared.talk.Talk.{Talk}
use Rattle.news_spool.specs.Lines.{is_whole, without_end}
use Rattle.news_spool.specs.Pieces.{bounded, is_spent, left_of}
use Rattle.news_spool.specs.Talk.{ended_talk, heard_line, new_talk}

-- a link to a server, with these bounds
abbrev pub new_link : ℕ → Option ℕ → Option ℕ → LinkState
new_link server ends_in quiet_in = record { server = server; line = []; talk = new_talk; ends_in = ends_in; quiet_in = quiet_in }

-- a link that has ended keeps nothing
abbrev pub ended : LinkState → LinkState
ended link = record {
  server = link.server;
  line = [];
  talk = ended_talk;
  ends_in = None;
  quiet_in = None;
}

-- ---- sent

-- the line that has begun, and the talk before it
abbrev pub with_line : List ℕ → Talk → LinkState → LinkState
with_line line talk link = record { server = link.server; line = line; talk = talk; ends_in = link.ends_in; quiet_in = link.quiet_in }

-- a line came, with its CRLF
abbrev pub line_heard : SpoolServer → List ℕ → List ℕ → LinkState × List Article → LinkState × List Article
line_heard server date line heard =
    let after = heard_line server date (without_end line) (heard.0.talk, heard.1) in
    (with_line [] after.0 heard.0, after.1)

-- a byte came to a server, whose articles have this date
abbrev pub heard_byte : SpoolServer → List ℕ → ℕ → LinkState × List Article → LinkState × List Article
heard_byte server date byte heard =
    let line = heard.0.line ++ byte ∷ [] in
    if is_whole line then line_heard server date line heard
    else (with_line line heard.0.talk heard.0, heard.1)

-- bytes came, one after the other
abbrev pub heard_bytes : SpoolServer → List ℕ → List ℕ → LinkState × List Article → LinkState × List Article
heard_bytes server date [] heard = heard
heard_bytes server date (byte ∷ bytes) heard = heard_bytes server date bytes (heard_byte server date byte heard)

-- ---- received

abbrev pub is_over : Phase → Bool
is_over Commands = false
is_over (Head head) = false
is_over (Body head body) = false
is_over Over = true

-- What is due to a receive with a bound of its own, into so much room. One whose bound is 0 is quiet. Then the link's own
-- bounds count, its end first. A link on which the session is over ends once all replies were given.
abbrev pub due_on : Option ℕ → ℕ → LinkState → Due
due_on piece room link =
    if is_spent piece then due.Quiet
    else if is_spent link.ends_in then due.End
    else if is_spent link.quiet_in then due.Quiet
    else if length link.talk.owed == 0 then (if is_over link.talk.phase then due.End else due.Quiet)
    else due.Bytes (bounded piece (bounded link.ends_in (bounded link.quiet_in (min room (length link.talk.owed)))))

-- so many bytes were given
abbrev pub given : ℕ → LinkState → LinkState
given n link = record {
  server = link.server;
  line = link.line;
  talk = record {
    phase = link.talk.phase;
    name = link.talk.name;
    logged_in = link.talk.logged_in;
    group = link.talk.group;
    owed = drop n link.talk.owed;
  };
  ends_in = left_of link.ends_in n;
  quiet_in = left_of link.quiet_in n;
}

-- so many bytes are owed, and within the link's own bounds
pub record CanGive (n : ℕ) (link : LinkState) : Type 0 where
  pub owed : n ≤ length link.talk.owed
  pub ends_in : IfSome link.ends_in (λ most. n ≤ most)
  pub quiet_in : IfSome link.quiet_in (λ most. n ≤ most)

-- bytes that are due are at least one, there is room for them, and the link can give them
abbrev pub DueFits : ℕ → LinkState → Due → Type 0
DueFits room link (due.Bytes n) = (0 < n) × (n ≤ room) × CanGive n link
DueFits room link due.Quiet = ⊤
DueFits room link due.End = ⊤
