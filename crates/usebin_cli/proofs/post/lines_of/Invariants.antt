use Rattle.std.proofs.Common.{◌≡◌, take}
use Rattle.usebin_cli.specs.PostText.{part_lines}
use Rattle.usebin_cli.proofs.post.lines_of.Given as goal

abbrev pub invariant-loop-before : goal.invariant-loop-before
invariant-loop-before l = l.text ≡ part_lines 1 (take l.before l.sent)
