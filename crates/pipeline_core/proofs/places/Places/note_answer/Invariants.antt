use Rattle.std.proofs.Common.{◌≡◌}
use Rattle.pipeline_core.proofs.Placed.{Falling}
use Rattle.pipeline_core.proofs.places.Places.note_answer.Given as goal

abbrev pub invariant-loop-other : goal.invariant-loop-other
invariant-loop-other l = record {
  falling : Falling l.fn.self.lows l.self.lows l.server l.segment l.other;
  fresh : l.self.fresh ≡ l.fn.self.fresh;
  decided : l.self.decided ≡ l.fn.self.decided;
}
