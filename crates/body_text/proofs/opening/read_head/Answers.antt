use Rattle.std.proofs.Common.{◌∙◌, ap, arith, drop, [], Ok}
use Rattle.lists.specs.Text.{text_lines}
use Rattle.yenc_body.specs.Staged.{place_with}
use Rattle.body_text.proofs.ReadingOn.{at_first, behind_first, cut_short, not_data, refused_first}
use Rattle.body_text.proofs.opening.read_head.Goals as goal

pub loop-at-init : goal.loop-at-init
loop-at-init c = record {
  stands = at_first (text_lines c.args.text.now);
  before = tt;
  in_file = tt;
  within = omega arith;
  lines = omega arith;
}

pub returns-in-Err-clause-fault : goal.returns-in-Err-clause-fault
returns-in-Err-clause-fault c =
    refused_first (text_lines c.args.text.now) (drop c.loop-at.at c.args.text.now) (drop c.line_end-end.result.next c.args.text.now) _ (place_with c.loop-at.stage []) c.loop-at.lines c.in-Err.refusal.column c.in-Err.refusal.reason
    c.loop-at.invariant.stands c.line_end-end.ensures.first c.in-Err.ensures.finds c.fault_at.result c.fault_at.ensures

pub returns-in-Filling-clause-stands : goal.returns-in-Filling-clause-stands
returns-in-Filling-clause-stands c =
    behind_first (text_lines c.args.text.now) (drop c.loop-at.at c.args.text.now) (drop c.line_end-end.result.next c.args.text.now) _ (place_with c.loop-at.stage []) _ c.loop-at.lines
    c.loop-at.invariant.stands c.line_end-end.ensures.first (c.in-Ok.ensures.finds ∙ ap (λ s. Ok (place_with s [])) c.in-Filling.is)

pub loop-at-preserved : goal.loop-at-preserved
loop-at-preserved c = record {
  stands = behind_first (text_lines c.args.text.now) (drop c.loop-at.at c.args.text.now) (drop c.line_end-end.result.next c.args.text.now) _ (place_with c.loop-at.stage []) (place_with c.in-Ok.next []) c.loop-at.lines
      c.loop-at.invariant.stands c.line_end-end.ensures.first c.in-Ok.ensures.finds;
  before = not_data c.in-Ok.next c.in_default.not-Filling;
  in_file = c.in-Ok.ensures.in_file;
  within = c.line_end-end.ensures.within.1;
  lines = omega (arith, c.line_end-end.ensures.within.0, c.loop-at.invariant.lines);
}

pub returns-clause-fault : goal.returns-clause-fault
returns-clause-fault c =
    cut_short (text_lines c.args.text.now) c.args.text.now c.loop-at.at (place_with c.loop-at.stage []) c.loop-at.lines c.lack.result
    c.loop-at.invariant.stands (omega (arith, c.loop-at-test.false)) c.lack.ensures c.fault_at-2.result c.fault_at-2.ensures
