use Rattle.nzb_index.specs.MarkupReading.{value_at}
use Rattle.nzb_index.specs.Readers.{unexpected_at}
use Rattle.nzb_index.proofs.PieceSteps.{reading_starts, reading_goes, reading_fails, value_over}
use Rattle.nzb_index.proofs.pieces.value_end.Goals as goal

pub loop-end-init : goal.loop-end-init
loop-end-init c = reading_starts (value_at c.args.quote) c.args.text.now c.clear.new.self c.args.at c.requires c.clear.ensures

pub loop-end-preserved : goal.loop-end-preserved
loop-end-preserved c = (reading_goes (value_at c.args.quote) c.args.text.now c.loop-end.out c.args.at c.loop-end.end c.value_piece.new.out c.in-Goes.next c.in_ok-next.field-0 c.loop-end.invariant c.in-Goes.is c.in_ok-next.ensures).1

pub returns : goal.returns
returns c =
    let within = c.loop-end.invariant.within in
    rw c.unexpected.ensures (reading_fails (value_at c.args.quote) c.args.text.now c.loop-end.out c.args.at c.loop-end.end (unexpected_at c.args.text.now c.loop-end.end) c.loop-end.invariant (value_over c.args.quote c.args.text.now c.loop-end.end within c.loop-end-test.false))
