use Rattle.std.proofs.Common.{◌+◌, ◌-◌, ◌++◌, ◌∙◌, refl, ap, length, drop, arith, length-drop, length-take}
use Rattle.lists.specs.Text.{text_lines}
use Rattle.lists.proofs.TextLines.{more_text, rest_of_text}
use Rattle.lists.proofs.text.split_text.Goals as goal

pub loop-len-preserved : goal.loop-len-preserved
loop-len-preserved c = record {
  inside = omega (arith, c.in-Some.ensures.0.high, length-take (length c.args.text.now - c.loop-len.at) (drop c.loop-len.at c.args.text.now), length-drop c.loop-len.at c.args.text.now);
  lines = ap (λ l. l ++ text_lines (drop (c.loop-len.at + (c.in-Some.len + 1)) c.args.text.now)) c.in_ok-push.ensures.ok
      ∙ more_text c.loop-len.lines _ c.args.text.now _ _ c.loop-len.at c.in-Some.len refl c.in-Some.ensures c.without_return.ensures c.loop-len.invariant.lines;
}

pub returns : goal.returns
returns c = c.in_ok-push-2.ensures.ok
    ∙ rest_of_text c.loop-len.lines _ c.args.text.now _ c.loop-len.at refl c.in_default.ensures (omega (arith, c.if-at-text.false, c.loop-len.invariant.inside, length-take (length c.args.text.now - c.loop-len.at) (drop c.loop-len.at c.args.text.now), length-drop c.loop-len.at c.args.text.now)) c.loop-len.invariant.lines
