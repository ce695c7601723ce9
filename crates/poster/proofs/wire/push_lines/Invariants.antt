use Rattle.std.proofs.Common.{◌≤◌, take}
use Rattle.poster.specs.Wire.{SendsLines}
use Rattle.poster.proofs.wire.push_lines.Given as goal

abbrev pub invariant-loop-i : goal.invariant-loop-i
invariant-loop-i l = record {
  sends : SendsLines (take l.i l.lines) l.fn.block l.block l.dots;
  few : l.dots ≤ l.i;
}
