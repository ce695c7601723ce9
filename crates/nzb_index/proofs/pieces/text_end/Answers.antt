use Rattle.nzb_index.specs.MarkupReading.{text_at}
use Rattle.nzb_index.specs.Readers.{unexpected_at}
use Rattle.nzb_index.proofs.PieceSteps.{reading_starts, reading_goes, reading_fails, text_over}
use Rattle.nzb_index.proofs.pieces.text_end.Goals as goal

pub loop-end-init : goal.loop-end-init
loop-end-init c = reading_starts text_at c.args.text.now c.clear.new.self c.args.at c.requires c.clear.ensures

pub loop-end-preserved : goal.loop-end-preserved
loop-end-preserved c = (reading_goes text_at c.args.text.now c.loop-end.out c.args.at c.loop-end.end c.text_piece.new.out c.in-Goes.next c.in_ok-next.field-0 c.loop-end.invariant c.in-Goes.is c.in_ok-next.ensures).1

pub returns : goal.returns
returns c =
    let within = c.loop-end.invariant.within in
    rw c.unexpected.ensures (reading_fails text_at c.args.text.now c.loop-end.out c.args.at c.loop-end.end (unexpected_at c.args.text.now c.loop-end.end) c.loop-end.invariant (text_over c.args.text.now c.loop-end.end within c.loop-end-test.false))
