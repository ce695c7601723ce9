-- A part more is a line more.
use Rattle.std.proofs.Common.{◌≡◌, ◌+◌, ◌∙◌, ◌++◌, ap, sym, arith, take, get_or}
use Rattle.poster.specs.declared.index.PartEnd.TheVariants.{Posted}
use Rattle.poster.specs.declared.index.Sent.{Sent}
use Rattle.usebin_cli.specs.PostText.{part_line, part_lines}
use Rattle.usebin_cli.proofs.PostSteps.{one_line_more}
use Rattle.usebin_cli.proofs.post.lines_of.Goals as goal

pub loop-before-preserved : goal.loop-before-preserved
loop-before-preserved c =
    let before = c.loop-before.before in
    let none : Sent = record { end = Posted; bytes = 0 } in
    let part = get_or c.args.sent.now before none in
    let next : before + 1 ≡ 1 + before = omega arith in
    c.in_ok-push_line.ensures
    ∙ ap (λ t. t ++ part_line (before + 1) part.end) c.loop-before.invariant
    ∙ ap (λ n. part_lines 1 (take before c.args.sent.now) ++ part_line n part.end) next
    ∙ sym (one_line_more 1 before c.args.sent.now none (omega (arith, c.loop-before-test.true)))
