use Rattle.std.proofs.Common.{◌+◌, arith, drop, sym, ◌∙◌}
use Rattle.body_text.proofs.DataReading.{behind_line_end, filling, line_decoded, line_left, line_refused, no_trailer}
use Rattle.body_text.proofs.ReadingOn.{at_closed, behind_first, refused_first}
use Rattle.body_text.specs.DataPlaces.{between}
use Rattle.body_text.proofs.decoding.decode_data.Goals as goal

pub returns-in-None : goal.returns-in-None
returns-in-None c = λ all begun.
    let inv = c.loop-at.invariant in
    let first = line_left c.args.buf.now c.loop-at.buf c.loop-at.at c.line_end-end.result.stop c.line_end-end.result.next inv.rest (omega (arith, c.line_end-end.ensures.within)) c.line_end-end.ensures.first in
    let behind = behind_first all (drop c.loop-at.at c.args.buf.now) (drop c.line_end-end.result.next c.args.buf.now) (between c.loop-at.buf c.loop-at.at c.line_end-end.result.stop) (filling c.args.head.now c.loop-at.put c.loop-at.buf) _ c.loop-at.lines (inv.stands all begun) first c.in-None.ensures in
    (omega (arith, inv.behind, inv.within, inv.long), at_closed all _ _ _ behind)

pub returns-in-Some : goal.returns-in-Some
returns-in-Some c = λ all begun.
    let inv = c.loop-at.invariant in
    let first = line_left c.args.buf.now c.loop-at.buf c.loop-at.at c.line_end-end.result.stop c.line_end-end.result.next inv.rest (omega (arith, c.line_end-end.ensures.within)) c.line_end-end.ensures.first in
    refused_first all (drop c.loop-at.at c.args.buf.now) (drop c.line_end-end.result.next c.args.buf.now) (between c.loop-at.buf c.loop-at.at c.line_end-end.result.stop) (filling c.args.head.now c.loop-at.put c.loop-at.buf) c.loop-at.lines c.in-Some.refusal.column c.in-Some.refusal.reason (inv.stands all begun) first c.in-Some.ensures c.fault_at.result c.fault_at.ensures

pub returns-in-Err : goal.returns-in-Err
returns-in-Err c = λ all begun.
    let inv = c.loop-at.invariant in
    let first = line_left c.args.buf.now c.loop-at.buf c.loop-at.at c.line_end-end.result.stop c.line_end-end.result.next inv.rest (omega (arith, c.line_end-end.ensures.within)) c.line_end-end.ensures.first in
    let refused = line_refused c.args.head.now c.loop-at.buf c.loop-at.at c.line_end-end.result.stop c.loop-at.put c.in-Err.refusal.column c.in-Err.refusal.reason (omega (arith, inv.behind, inv.within, inv.long)) (sym c.if-starts_with.ensures.value) c.in-Err.ensures in
    refused_first all (drop c.loop-at.at c.args.buf.now) (drop c.line_end-end.result.next c.args.buf.now) (between c.loop-at.buf c.loop-at.at c.line_end-end.result.stop) (filling c.args.head.now c.loop-at.put c.loop-at.buf) c.loop-at.lines c.in-Err.refusal.column c.in-Err.refusal.reason (inv.stands all begun) first refused c.fault_at-in-Err.result c.fault_at-in-Err.ensures

pub loop-at-preserved : goal.loop-at-preserved
loop-at-preserved c =
    let inv = c.loop-at.invariant in
    let d = c.in-Ok.ensures in
    let first = line_left c.args.buf.now c.loop-at.buf c.loop-at.at c.line_end-end.result.stop c.line_end-end.result.next inv.rest (omega (arith, c.line_end-end.ensures.within)) c.line_end-end.ensures.first in
    let read = line_decoded c.args.head.now c.loop-at.buf c.decode_in_place.new.buf c.loop-at.at c.line_end-end.result.stop c.loop-at.put c.in-Ok.count (omega (arith, inv.behind, inv.within, inv.long)) (sym c.if-starts_with.ensures.value) d in
    let there = behind_line_end c.loop-at.buf c.decode_in_place.new.buf c.line_end-end.result.stop c.line_end-end.result.next d.rest (omega (arith, c.line_end-end.ensures.order)) in record {
      stands = λ all begun. behind_first all (drop c.loop-at.at c.args.buf.now) (drop c.line_end-end.result.next c.args.buf.now) (between c.loop-at.buf c.loop-at.at c.line_end-end.result.stop) (filling c.args.head.now c.loop-at.put c.loop-at.buf) (filling c.args.head.now (c.loop-at.put + c.in-Ok.count) c.decode_in_place.new.buf) c.loop-at.lines (inv.stands all begun) first read;
      rest = there ∙ behind_line_end c.args.buf.now c.loop-at.buf c.loop-at.at c.line_end-end.result.next inv.rest (omega (arith, c.line_end-end.ensures.within));
      long = d.long ∙ inv.long;
      room = omega (arith, d.room_is, inv.room);
      behind = omega (arith, d.inside, c.line_end-end.ensures.order);
      within = omega (arith, c.line_end-end.ensures.within, inv.long);
      lines = omega (arith, inv.lines, c.line_end-end.ensures.within);
    }

pub returns : goal.returns
returns c = λ all begun.
    let inv = c.loop-at.invariant in
    no_trailer all c.args.head.now c.args.buf.now c.loop-at.buf c.loop-at.at c.loop-at.put c.loop-at.lines c.whole_line.result (inv.stands all begun) (omega (arith, c.loop-at-test.false, inv.long)) c.whole_line.ensures c.fault_at-2.result c.fault_at-2.ensures
