-- What a moment says of one link: what was heard and said on it, and what came of the segments that it was asked for. Replies come
-- in the order of the commands (RFC 3977, 3.5).
use Rattle.std.specs.Prelude.{◌==◌, ◌||◌, ◌&&◌, ℕ, Bool, true, false, not, List, [], ◌∷◌, Option, None, is_some, length, drop}
use Rattle.link_dialog.specs.declared.awaited.Awaited.{Awaited}
use Rattle.link_dialog.specs.declared.awaited.Awaited.TheVariants.{Greeting}
use Rattle.pipeline_core.specs.LinkAt.{LinkAt}
use Rattle.range_assembler.specs.declared.assembler.Clash.{Clash}
use Rattle.fetch_trace.specs.Setting.{Opening}
use Rattle.fetch_trace.specs.Hearing.{Hearing, at_opening, is_greeted}
use Rattle.fetch_trace.specs.Verdicts.{Verdict, is_accepted}

-- the command that was begun last: the kind of its reply, and its bytes that haven't gone out; and whether QUIT was begun
pub record Saying : Type 0 where
  pub kind : Awaited
  pub unsent : List ℕ
  pub quits : Bool

-- the segments whose commands were begun, the verdicts of their answers, the k-th answer being that of the k-th command, and the
-- range that stood against that of the unfinished article
pub record Asking : Type 0 where
  pub commands : List ℕ
  pub verdicts : List Verdict
  pub against : Option Clash

pub record LinkNow : Type 0 where
  pub opening : Opening
  pub hearing : Hearing
  pub saying : Saying
  pub asking : Asking

abbrev pub fresh_link : Opening → LinkNow
fresh_link opening = record {
  opening = opening;
  hearing = at_opening;
  saying = record { kind = Greeting; unsent = []; quits = false };
  asking = record { commands = []; verdicts = []; against = None };
}

abbrev pub with_hearing : Hearing → LinkNow → LinkNow
with_hearing hearing l = record { opening = l.opening; hearing = hearing; saying = l.saying; asking = l.asking }

abbrev pub with_asking : Hearing → Asking → LinkNow → LinkNow
with_asking hearing asking l = record { opening = l.opening; hearing = hearing; saying = l.saying; asking = asking }

-- it is over, or wasn't opened
abbrev pub is_over : LinkNow → Bool
is_over l = is_some l.hearing.over || not (is_some l.opening.number)

abbrev pub is_ready : LinkNow → Bool
is_ready l = is_greeted l.opening.login l.hearing.replies

-- the segments whose commands lack their answer
abbrev pub waiting_of : Asking → List ℕ
waiting_of asking = drop (length asking.verdicts) asking.commands

abbrev pub outstanding_by : Bool → List ℕ → List ℕ
outstanding_by false waiting = waiting
outstanding_by true waiting = []

-- as the core sees it
abbrev pub link_at : LinkNow → LinkAt
link_at l = record { server = l.opening.server; greeted = is_ready l; over = is_over l; asked = outstanding_by (is_over l) (waiting_of l.asking) }

-- whether an answer with such a verdict belongs to the segment
abbrev pub has_answer : (Verdict → Bool) → ℕ → List ℕ → List Verdict → Bool
has_answer test segment [] verdicts = false
has_answer test segment (command ∷ commands) [] = false
has_answer test segment (command ∷ commands) (verdict ∷ verdicts) = ((command == segment) && test verdict) || has_answer test segment commands verdicts

abbrev pub is_refused : Verdict → Bool
is_refused verdict = not (is_accepted verdict)

-- the segment was accepted on some link
abbrev pub some_arrival : ℕ → List LinkNow → Bool
some_arrival segment [] = false
some_arrival segment (l ∷ links) = has_answer is_accepted segment l.asking.commands l.asking.verdicts || some_arrival segment links

-- the server answered, and the segment wasn't accepted
abbrev pub some_absence : ℕ → ℕ → List LinkNow → Bool
some_absence server segment [] = false
some_absence server segment (l ∷ links) = ((l.opening.server == server) && has_answer is_refused segment l.asking.commands l.asking.verdicts) || some_absence server segment links
