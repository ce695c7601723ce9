use Rattle.std.proofs.Common.{◌≡◌, ◌+◌, false, true, take, sym, subst, refl, arith}
use Rattle.std.proofs.lemmas.List.{take_all}
use Rattle.std.proofs.lemmas.List.Elements.{All-from_recursion}
use Rattle.dot_blocks.specs.Blocks.{HoldsNoLineEnd, IsBlock}
use Rattle.dot_blocks.proofs.BlockLaws.{heard_begins_no_block, splits_whole, splits_rest, lines_hold_none}
use Rattle.dot_blocks.proofs.Framing.{split_more, split_ended, split_begun, left_whole, wire_there, left_inside}
use Rattle.dot_blocks.proofs.split.split_block.Goals as goal

pub returns-then-at-block-clause-each_line : goal.returns-then-at-block-clause-each_line
returns-then-at-block-clause-each_line c =
    All-from_recursion HoldsNoLineEnd c.loop-len.lines (lines_hold_none c.loop-len.lines _ c.loop-len.invariant.are_lines)

pub returns-then-at-block-clause-each_block : goal.returns-then-at-block-clause-each_block
returns-then-at-block-clause-each_block c = λ lines front rest is e.
    let block = split_ended c.loop-len.lines c.args.block.now _ _ _ c.loop-len.at c.in-Some.len c.loop-len.invariant.are_lines (left_whole c.args.block.now c.loop-len.at) (wire_there c.args.block.now c.loop-len.at c.in-Some.len) c.in-Some.ensures.here (c.if-is_dot.ensures.0 refl) in
    let whole : take (c.loop-len.at + (c.in-Some.len + 2)) c.args.block.now ≡ c.args.block.now = take_all (c.loop-len.at + (c.in-Some.len + 2)) c.args.block.now (omega (arith, c.if-at-block.true)) in
    splits_whole c.args.block.now c.loop-len.lines lines front rest (subst (IsBlock c.loop-len.lines) whole block) is e

pub returns-else-at-block-clause-refused : goal.returns-else-at-block-clause-refused
returns-else-at-block-clause-refused c =
    let inside = left_inside c.args.block.now c.loop-len.at c.in-Some.len c.in-Some.ensures.inside in (
      omega (arith, inside, c.if-at-block.false),
      (c.loop-len.lines, split_ended c.loop-len.lines c.args.block.now _ _ _ c.loop-len.at c.in-Some.len c.loop-len.invariant.are_lines (left_whole c.args.block.now c.loop-len.at) (wire_there c.args.block.now c.loop-len.at c.in-Some.len) c.in-Some.ensures.here (c.if-is_dot.ensures.0 refl)),
    )

pub returns-else-at-block-clause-each_block : goal.returns-else-at-block-clause-each_block
returns-else-at-block-clause-each_block c = λ lines front rest is e.
    let inside = left_inside c.args.block.now c.loop-len.at c.in-Some.len c.in-Some.ensures.inside in
    let block = split_ended c.loop-len.lines c.args.block.now _ _ _ c.loop-len.at c.in-Some.len c.loop-len.invariant.are_lines (left_whole c.args.block.now c.loop-len.at) (wire_there c.args.block.now c.loop-len.at c.in-Some.len) c.in-Some.ensures.here (c.if-is_dot.ensures.0 refl) in
    splits_rest c.args.block.now (c.loop-len.at + (c.in-Some.len + 2)) lines front rest (omega (arith, inside, c.if-at-block.false), (c.loop-len.lines, block)) is e

pub loop-len-preserved : goal.loop-len-preserved
loop-len-preserved c = record {
  inside = left_inside c.args.block.now c.loop-len.at c.in-Some.len c.in-Some.ensures.inside;
  are_lines = rw c.in_ok-push.ensures.ok
      (split_more c.loop-len.lines c.args.block.now _ _ _ _ c.loop-len.at c.in-Some.len c.loop-len.invariant.are_lines (left_whole c.args.block.now c.loop-len.at) (wire_there c.args.block.now c.loop-len.at c.in-Some.len) c.in-Some.ensures.here
      (c.without_dot.ensures (subst HoldsNoLineEnd (sym (wire_there c.args.block.now c.loop-len.at c.in-Some.len)) c.in-Some.ensures.before) (λ is. let no : false ≡ true = c.if-is_dot.ensures.1 is in cc)));
}

pub returns-clause-refused : goal.returns-clause-refused
returns-clause-refused c = heard_begins_no_block c.args.block.now c.loop-len.lines _ (split_begun c.loop-len.lines c.args.block.now _ c.loop-len.at c.loop-len.invariant.are_lines (left_whole c.args.block.now c.loop-len.at) c.in_default.ensures.none)

pub returns-clause-each_block : goal.returns-clause-each_block
returns-clause-each_block c = λ lines front rest is e.
    heard_begins_no_block c.args.block.now c.loop-len.lines _ (split_begun c.loop-len.lines c.args.block.now _ c.loop-len.at c.loop-len.invariant.are_lines (left_whole c.args.block.now c.loop-len.at) c.in_default.ensures.none) lines front rest is e
