use Rattle.std.proofs.Common.{◌∙◌, refl, arith}
use Rattle.std.proofs.Math.ListN.{length-set}
use Rattle.numbers.proofs.DecimalDigits.{two_places, fewer_places, put_digit, last_digit}
use Rattle.numbers.proofs.decimal.write_dec.Goals as goal

pub loop-rest-preserved : goal.loop-rest-preserved
loop-rest-preserved c =
    let two = two_places c.loop-rest.at c.loop-rest.rest c.loop-rest-test.true c.loop-rest.invariant.room in
    record {
      inside = omega arith;
      long = length-set _ _ _ ∙ c.loop-rest.invariant.long;
      some = omega arith;
      room = fewer_places c.loop-rest.at c.loop-rest.rest c.loop-rest.invariant.some c.loop-rest.invariant.room;
      text = put_digit c.args.n c.loop-rest.rest c.loop-rest.at c.loop-rest.digits c.loop-rest-test.true (omega arith) c.loop-rest.invariant.some (omega arith) c.loop-rest.invariant.text;
    }

pub returns-clause-text : goal.returns-clause-text
returns-clause-text c =
    let last = last_digit c.args.n c.loop-rest.rest c.loop-rest.at c.loop-rest.digits _ c.loop-rest-test.false c.loop-rest.invariant.some c.loop-rest.invariant.long c.loop-rest.invariant.inside c.loop-rest.invariant.text refl in
    c.put.ensures.text ∙ last.1
