use Rattle.std.proofs.Common.{◌≡◌, ◌≤◌, Some, true}
use Rattle.std.specs.Prelude.{slice_get}
use Rattle.link_dialog.specs.Talk.{Start, link_of_dialog}
use Rattle.overview_index.specs.Asking.{IndexUnderWay}
use Rattle.overview_index.specs.Session.{Query}
use Rattle.overview_index.proofs.session.index_ranges.Given as goal

-- the ranges before this one have their replies
abbrev pub invariant-loop-done : goal.invariant-loop-done
invariant-loop-done g l = record {
  live : l.live ≡ true → slice_get (g.L.Links.live l.links) (link_of_dialog l.dialog) ≡ Some true;
  faults : g.L.Links.faults l.initial.links ≤ g.L.Links.faults l.links;
  under_way : (q : Query) (start : Start) → q.first ≡ l.fn.first → q.last ≡ l.fn.last → IndexUnderWay q start (g.L.Links.trace l.initial.links) l.dialog l.fn.chosen.group l.initial.desk 0 l.fn.chosen.live →
      IndexUnderWay q start (g.L.Links.trace l.links) l.dialog l.fn.chosen.group l.desk l.done l.live;
}
