use Rattle.std.proofs.Common.{◌≡◌, ◌≤◌, ◌-◌, IfSome}
use Rattle.par2_check.specs.Checking.{IsCounted, Knows}
use Rattle.par2_check.proofs.checking.Checking.read.Given as goal

abbrev pub invariant-loop-self : goal.invariant-loop-self
invariant-loop-self g l = record {
  most : l.self.slices.taken ≤ l.end;
  counted : IsCounted l.slice l.self.slices;
  knows : IfSome (g.I.Input.content l.initial.input) (Knows l.slice l.file l.initial.self) → IfSome (g.I.Input.content l.initial.input) (Knows l.slice l.file l.self);
  content : g.I.Input.content l.input ≡ g.I.Input.content l.initial.input;
  files : g.I.Input.files l.input ≡ g.I.Input.files l.initial.input;
  current : g.I.Input.current l.input ≡ g.I.Input.current l.initial.input;
  faults : g.I.Input.faults l.input ≡ g.I.Input.faults l.initial.input;
  blame : g.I.Input.blame l.input ≡ g.I.Input.blame l.initial.input;
  shorts : g.I.Input.shorts l.input ≡ g.I.Input.shorts l.initial.input;
}

abbrev pub decreases-loop-self : goal.decreases-loop-self
decreases-loop-self g l = l.end - l.self.slices.taken
