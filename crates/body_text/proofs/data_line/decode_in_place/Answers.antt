use Rattle.std.proofs.Common.{◌≡◌, ◌≤◌, ◌+◌, ◌-◌, length, arith, ◌∙◌}
use Rattle.std.proofs.Math.ListN.{length-set}
use Rattle.body_text.proofs.InPlace.{decoded, full_there, long_between, read_landed, read_put, refused_there, rest_landed, rest_put}
use Rattle.body_text.proofs.data_line.decode_in_place.Goals as goal

pub returns-in-Err : goal.returns-in-Err
returns-in-Err c =
    let inv = c.loop-at.invariant in
    let run = c.land_run-plain.ensures in
    let long : length c.land_run-plain.new.buf ≡ length c.loop-at.buf = omega (arith, c.land_run-plain.auto.buf) in
    let read = read_landed c.args.buf.now c.loop-at.buf c.land_run-plain.new.buf c.args.start c.args.stop c.args.to c.loop-at.put c.args.room c.loop-at.at c.loop-at.left c.land_run-plain.result c.are_bytes.ensures inv.read inv.rest long inv.long inv.begun (omega (arith, c.requires)) inv.behind run.landed run.plain run.inside run.left in
    let rest = rest_landed c.args.buf.now c.loop-at.buf c.land_run-plain.new.buf c.loop-at.at c.loop-at.put c.land_run-plain.result inv.rest long run.landed inv.behind in
    refused_there c.args.buf.now c.land_run-plain.new.buf c.args.start c.args.stop c.args.to (c.loop-at.put + c.land_run-plain.result) c.args.room (c.loop-at.at + c.land_run-plain.result) (c.loop-at.left - c.land_run-plain.result) c.in-Err.fault read rest (omega (arith, inv.begun)) run.inside c.in-Err.ensures.refused c.refused.result.column c.refused.result.reason c.refused.ensures.column c.refused.ensures.reason

pub returns-then-left-eq0 : goal.returns-then-left-eq0
returns-then-left-eq0 c =
    let inv = c.loop-at.invariant in
    let run = c.land_run-plain.ensures in
    let long : length c.land_run-plain.new.buf ≡ length c.loop-at.buf = omega (arith, c.land_run-plain.auto.buf) in
    let read = read_landed c.args.buf.now c.loop-at.buf c.land_run-plain.new.buf c.args.start c.args.stop c.args.to c.loop-at.put c.args.room c.loop-at.at c.loop-at.left c.land_run-plain.result c.are_bytes.ensures inv.read inv.rest long inv.long inv.begun (omega (arith, c.requires)) inv.behind run.landed run.plain run.inside run.left in
    let rest = rest_landed c.args.buf.now c.loop-at.buf c.land_run-plain.new.buf c.loop-at.at c.loop-at.put c.land_run-plain.result inv.rest long run.landed inv.behind in
    full_there c.args.buf.now c.land_run-plain.new.buf c.args.start c.args.stop c.args.to (c.loop-at.put + c.land_run-plain.result) c.args.room (c.loop-at.at + c.land_run-plain.result) (c.loop-at.left - c.land_run-plain.result) c.in-Ok.spelling.0 c.in-Ok.spelling.1 read rest (omega (arith, inv.begun)) run.inside c.in-Ok.ensures.spelled c.if-left-eq0.true

pub loop-at-preserved : goal.loop-at-preserved
loop-at-preserved c =
    let inv = c.loop-at.invariant in
    let run = c.land_run-plain.ensures in
    let long : length c.land_run-plain.new.buf ≡ length c.loop-at.buf = omega (arith, c.land_run-plain.auto.buf) in
    let read = read_landed c.args.buf.now c.loop-at.buf c.land_run-plain.new.buf c.args.start c.args.stop c.args.to c.loop-at.put c.args.room c.loop-at.at c.loop-at.left c.land_run-plain.result c.are_bytes.ensures inv.read inv.rest long inv.long inv.begun (omega (arith, c.requires)) inv.behind run.landed run.plain run.inside run.left in
    let rest = rest_landed c.args.buf.now c.loop-at.buf c.land_run-plain.new.buf c.loop-at.at c.loop-at.put c.land_run-plain.result inv.rest long run.landed inv.behind in
    let fits : c.loop-at.at + c.land_run-plain.result - c.args.start + c.in-Ok.spelling.1 ≤ c.args.stop - c.args.start = omega (arith, c.in-Ok.ensures.inside, long_between c.land_run-plain.new.buf c.args.start c.args.stop (omega (arith, c.requires)) (omega (arith, c.requires, long, inv.long))) in
    record {
      read = read_put c.args.buf.now c.land_run-plain.new.buf c.args.start c.args.stop c.args.to (c.loop-at.put + c.land_run-plain.result) c.args.room (c.loop-at.at + c.land_run-plain.result) (c.loop-at.left - c.land_run-plain.result) c.in-Ok.spelling.0 c.in-Ok.spelling.1 read rest (omega (arith, long, inv.long)) (omega (arith, inv.begun)) (omega (arith, run.inside, c.if-at-stop.false)) (omega (arith, c.requires)) (omega (arith, inv.behind)) c.in-Ok.ensures.spelled fits (omega arith);
      rest = rest_put c.args.buf.now c.land_run-plain.new.buf (c.loop-at.at + c.land_run-plain.result) (c.loop-at.put + c.land_run-plain.result) c.in-Ok.spelling.0 c.in-Ok.spelling.1 rest (omega (arith, inv.behind)) c.in-Ok.ensures.some;
      long = length-set _ _ _ ∙ long ∙ inv.long;
      begun = omega (arith, inv.begun);
      inside = omega (arith, fits, inv.begun, c.requires);
      behind = omega (arith, inv.behind, c.in-Ok.ensures.some);
      ahead = omega (arith, inv.ahead);
    }

pub returns-then-at-stop : goal.returns-then-at-stop
returns-then-at-stop c =
    let inv = c.loop-at.invariant in
    let run = c.land_run-plain.ensures in
    let long : length c.land_run-plain.new.buf ≡ length c.loop-at.buf = omega (arith, c.land_run-plain.auto.buf) in
    let read = read_landed c.args.buf.now c.loop-at.buf c.land_run-plain.new.buf c.args.start c.args.stop c.args.to c.loop-at.put c.args.room c.loop-at.at c.loop-at.left c.land_run-plain.result c.are_bytes.ensures inv.read inv.rest long inv.long inv.begun (omega (arith, c.requires)) inv.behind run.landed run.plain run.inside run.left in
    let rest = rest_landed c.args.buf.now c.loop-at.buf c.land_run-plain.new.buf c.loop-at.at c.loop-at.put c.land_run-plain.result inv.rest long run.landed inv.behind in
    decoded c.args.buf.now c.land_run-plain.new.buf c.args.start c.args.stop c.args.to (c.loop-at.put + c.land_run-plain.result) c.args.room (c.loop-at.at + c.land_run-plain.result) (c.loop-at.left - c.land_run-plain.result) read rest (omega (arith, long, inv.long)) (omega (arith, c.requires)) c.if-at-stop.true (omega (arith, c.requires)) (omega (arith, inv.behind)) (omega (arith, inv.ahead))

pub returns : goal.returns
returns c =
    let inv = c.loop-at.invariant in
    decoded c.args.buf.now c.loop-at.buf c.args.start c.args.stop c.args.to c.loop-at.put c.args.room c.loop-at.at c.loop-at.left inv.read inv.rest inv.long (omega (arith, c.requires)) (omega (arith, c.loop-at-test.false, inv.inside)) (omega (arith, c.requires)) inv.behind inv.ahead
