use Rattle.std.proofs.Common.{◌-◌, ◌∙◌, length, take, drop, ap, sym, arith, take_all, length-drop}
use Rattle.std.proofs.lemmas.Result.{err_from_is_err_and}
use Rattle.yenc_lines.proofs.ReadLaws.{read_goes, read_fails}
use Rattle.yenc_lines.proofs.items.read_numbers.Goals as goal

pub returns-in_err-take : goal.returns-in_err-take
returns-in_err-take c =
    let p = err_from_is_err_and c.from_residual.result c.from_residual.ensures.1 in
    let rest = take_all (length c.args.text.now - c.loop-at.at) (drop c.loop-at.at c.args.text.now) (omega (arith, length-drop c.loop-at.at c.args.text.now)) in
    rw (p.1, p.2)
    (sym (read_fails c.args.known.now c.args.text.now (take (length c.args.text.now - c.loop-at.at) (drop c.loop-at.at c.args.text.now)) c.loop-at.at c.first_at-end.result c.loop-at.numbers
    c.in_err-take.field-0.0 c.requires.keys c.loop-at-test.true rest c.first_at-end.ensures.place c.in_err-take.ensures)
    ∙ c.loop-at.invariant.rest)

pub loop-at-preserved : goal.loop-at-preserved
loop-at-preserved c =
    let rest = take_all (length c.args.text.now - c.loop-at.at) (drop c.loop-at.at c.args.text.now) (omega (arith, length-drop c.loop-at.at c.args.text.now)) in
    record {
      inside = omega (arith, c.first_at-end.ensures.inside, ap length rest, length-drop c.loop-at.at c.args.text.now);
      long = c.take.array_long;
      rest = sym (read_goes c.args.known.now c.args.text.now (take (length c.args.text.now - c.loop-at.at) (drop c.loop-at.at c.args.text.now)) c.loop-at.at c.first_at-end.result c.loop-at.numbers
          c.take.new.numbers c.requires.keys c.loop-at-test.true rest c.first_at-end.ensures.place c.in_ok-take.ensures)
          ∙ c.loop-at.invariant.rest;
    }
