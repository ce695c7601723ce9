use Rattle.std.proofs.lemmas.Result.{err_from_is_err_and}
use Rattle.yenc_lines.specs.declared.key.Key.TheVariants as key
use Rattle.yenc_lines.proofs.ReaderLaws.{part_fails, part_is, number_is}
use Rattle.yenc_lines.proofs.read.read_part.Goals as goal

pub returns-in_err-numbers : goal.returns-in_err-numbers
returns-in_err-numbers c =
    let p = err_from_is_err_and c.from_residual.result c.from_residual.ensures.1 in
    rw (p.1, p.2) (part_fails c.args.line.now c.in_err-numbers.field-0.0 c.in_err-numbers.ensures.fault)

pub returns : goal.returns
returns c =
    let begin = number_is c.in_ok-numbers.numbers c.place.result c.unwrap_or.result key.Begin c.unwrap_or.ensures c.place.ensures.value in
    let end = number_is c.in_ok-numbers.numbers c.place-2.result c.unwrap_or-2.result key.End c.unwrap_or-2.ensures c.place-2.ensures.value in
    rw (begin, end) (part_is c.args.line.now c.in_ok-numbers.numbers c.in_ok-numbers.ensures.fault c.in_ok-numbers.ensures.numbers)
