use Rattle.std.proofs.Common.{◌≡◌, ◌<◌, sym, ◌∙◌, arith, drop}
use Rattle.std.proofs.lemmas.Result.{err_from_is_err_and}
use Rattle.nzb_index.specs.MarkupReading.{behind_white}
use Rattle.nzb_index.specs.Tags.{checks_of}
use Rattle.nzb_index.proofs.TagEnds.{tag_opens, tag_closes, tag_slash_fails, tag_joined, tag_attribute_fails, tag_next, tag_over}
use Rattle.nzb_index.proofs.tags.tag_end.Goals as goal

pub returns-then-starts_at : goal.returns-then-starts_at
returns-then-starts_at c = tag_opens (checks_of c.args.element) c.args.text.now c.args.at c.loop-end.end c.white_end-here.result c.loop-end.scratch.names c.loop-end.scratch.values c.loop-end.invariant.0 c.loop-end-test.true c.white_end-here.ensures.behind c.white_end-here.ensures.within c.white_end-here.ensures.white (sym c.starts_at.ensures ∙ c.if-starts_at.true)

pub returns-in_err-behind : goal.returns-in_err-behind
returns-in_err-behind c =
    let p = err_from_is_err_and c.from_residual.result c.from_residual.ensures.1 in
    rw (p.1, p.2) (tag_slash_fails (checks_of c.args.element) c.args.text.now c.args.at c.loop-end.end c.white_end-here.result c.loop-end.scratch.names c.loop-end.scratch.values c.in_err-behind.field-0.0 c.loop-end.invariant.0 c.loop-end-test.true c.white_end-here.ensures.white (sym c.starts_at.ensures ∙ c.if-starts_at.false) (sym c.starts_at-in-loop-end.ensures ∙ c.if-starts_at-2.true) c.in_err-behind.ensures)

pub returns-then-starts_at-2 : goal.returns-then-starts_at-2
returns-then-starts_at-2 c =
    let b = c.in_ok-behind.ensures in
    tag_closes (checks_of c.args.element) c.args.text.now c.args.at c.loop-end.end c.white_end-here.result c.in_ok-behind.behind c.loop-end.scratch.names c.loop-end.scratch.values c.loop-end.invariant.0 c.loop-end-test.true c.white_end-here.ensures.behind c.white_end-here.ensures.white (sym c.starts_at.ensures ∙ c.if-starts_at.false) (sym c.starts_at-in-loop-end.ensures ∙ c.if-starts_at-2.true) b.0 b.1 b.2

pub returns-then-here-end : goal.returns-then-here-end
returns-then-here-end c =
    let same = c.if-here-end.true in
    let white : drop c.loop-end.end c.args.text.now ≡ behind_white (drop c.loop-end.end c.args.text.now) = rw same at c.white_end-here.ensures.white in
    rw (c.unexpected.ensures, same) (tag_joined (checks_of c.args.element) c.args.text.now c.args.at c.loop-end.end c.loop-end.scratch.names c.loop-end.scratch.values c.loop-end.invariant.0 c.loop-end-test.true white (rw same at (sym c.starts_at.ensures ∙ c.if-starts_at.false)) (rw same at (sym c.starts_at-in-loop-end.ensures ∙ c.if-starts_at-2.false)))

pub returns-in_err-end : goal.returns-in_err-end
returns-in_err-end c =
    let p = err_from_is_err_and c.from_residual-in_err-end.result c.from_residual-in_err-end.ensures.1 in
    let apart = c.if-here-end.false in
    let behind = c.white_end-here.ensures.behind in
    let more : c.loop-end.end < c.white_end-here.result = omega (arith, apart, behind) in
    rw (p.1, p.2) (tag_attribute_fails (checks_of c.args.element) c.args.text.now c.args.at c.loop-end.end c.white_end-here.result c.loop-end.scratch.names c.loop-end.scratch.values c.in_err-end.field-0.0 c.loop-end.invariant.0 c.loop-end-test.true more c.white_end-here.ensures.within c.white_end-here.ensures.white (sym c.starts_at.ensures ∙ c.if-starts_at.false) (sym c.starts_at-in-loop-end.ensures ∙ c.if-starts_at-2.false) c.in_err-end.ensures.read)

pub loop-end-preserved : goal.loop-end-preserved
loop-end-preserved c =
    let apart = c.if-here-end.false in
    let behind = c.white_end-here.ensures.behind in
    let more : c.loop-end.end < c.white_end-here.result = omega (arith, apart, behind) in
    (tag_next (checks_of c.args.element) c.args.text.now c.args.at c.loop-end.end c.white_end-here.result c.in_ok-end.end c.loop-end.scratch.names c.loop-end.scratch.values c.attribute_end.new.scratch.names c.attribute_end.new.scratch.values c.loop-end.invariant.0 c.loop-end-test.true more c.white_end-here.ensures.within c.white_end-here.ensures.white (sym c.starts_at.ensures ∙ c.if-starts_at.false) (sym c.starts_at-in-loop-end.ensures ∙ c.if-starts_at-2.false) c.in_ok-end.ensures.read, c.in_ok-end.ensures.later)

pub returns : goal.returns
returns c = rw c.unexpected-2.ensures (tag_over (checks_of c.args.element) c.args.text.now c.args.at c.loop-end.end c.loop-end.scratch.names c.loop-end.scratch.values c.loop-end.invariant.0 c.loop-end-test.false)
