use Rattle.std.proofs.Common.{◌≡◌, drop, None}
use Rattle.overview_lines.specs.Count.{last_count}
use Rattle.overview_lines.proofs.count.last_count.Given as goal

-- no count starts there or behind
abbrev pub invariant-loop-start : goal.invariant-loop-start
invariant-loop-start l = last_count l.start (drop l.start l.subject) ≡ None
