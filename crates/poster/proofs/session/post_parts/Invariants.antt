use Rattle.std.proofs.Common.{◌≡◌, ◌≤◌, ◌-◌, length, Some, true}
use Rattle.std.specs.Prelude.{slice_get}
use Rattle.link_dialog.specs.Talk.{Start, link_of_dialog}
use Rattle.poster.specs.Said.{IsMade}
use Rattle.poster.specs.Posting.{UnderWay, made_on}
use Rattle.poster.proofs.session.post_parts.Given as goal

-- the parts before this one were posted, and its article stands on the desk
abbrev pub invariant-loop-end : goal.invariant-loop-end
invariant-loop-end g l = record {
  first : 1 ≤ l.part;
  last : l.part ≤ l.total;
  all : length l.sent ≡ length l.plan.parts;
  live : slice_get (g.L.Links.live l.links) (link_of_dialog l.dialog) ≡ Some true;
  made : IsMade l.settings l.plan.size (g.I.Input.content l.initial.input) l.part (made_on l.desk);
  under_way : (start : Start) → UnderWay l.settings l.plan.size (length l.plan.parts) (g.I.Input.content l.initial.input) start (g.L.Links.trace l.initial.links) l.dialog 0 l.initial.sent
      → UnderWay l.settings l.plan.size (length l.plan.parts) (g.I.Input.content l.initial.input) start (g.L.Links.trace l.links) l.dialog (l.part - 1) l.sent;
  current : g.I.Input.current l.input ≡ g.I.Input.current l.initial.input;
  content : g.I.Input.content l.input ≡ g.I.Input.content l.initial.input;
  faults : g.I.Input.faults l.input ≡ g.I.Input.faults l.initial.input;
  shorts : g.I.Input.shorts l.input ≡ g.I.Input.shorts l.initial.input;
  blame : g.I.Input.blame l.input ≡ g.I.Input.blame l.initial.input;
}

abbrev pub decreases-loop-end : goal.decreases-loop-end
decreases-loop-end g l = l.total - l.part
