-- Each answer is the reading of the line, and so it says what the line says, or what is wrong with it.
use Rattle.std.proofs.Common.{◌≤◌, length, Err, arith}
use Rattle.overview_lines.specs.declared.over.OverFault.TheVariants.{TooLong, TooFewFields}
use Rattle.overview_lines.specs.OverReading.{fields_in}
use Rattle.overview_lines.proofs.OverLaws.{IsRead, fields_said, long_line, no_fields, read_is_line, read_is_over, told_is_fault}
use Rattle.overview_lines.proofs.over.read_over.Goals as goal

pub returns-then-line-gt-MOST-clause-reading : goal.returns-then-line-gt-MOST-clause-reading
returns-then-line-gt-MOST-clause-reading c = long_line c.args.line.now c.if-line-gt-MOST.true

pub returns-then-line-gt-MOST-clause-fault : goal.returns-then-line-gt-MOST-clause-fault
returns-then-line-gt-MOST-clause-fault c = told_is_fault c.args.line.now (Err TooLong) (long_line c.args.line.now c.if-line-gt-MOST.true)

-- what is said by the fields is said by the line
said : (c : goal.After-over_said) → IsRead c.args.line.now c.over_said.result
said c =
    let short : length c.args.line.now ≤ 4096 = omega arith in
    fields_said c.args.line.now (fields_in c.in-Some.fields) c.over_said.result short c.in-Some.ensures c.over_said.ensures

pub returns-in-Some-clause-reading : goal.returns-in-Some-clause-reading
returns-in-Some-clause-reading c = said c

pub returns-in-Some-clause-line : goal.returns-in-Some-clause-line
returns-in-Some-clause-line c = read_is_line c.args.line.now c.over_said.result (said c)

pub returns-in-Some-clause-over : goal.returns-in-Some-clause-over
returns-in-Some-clause-over c = read_is_over c.args.line.now c.over_said.result (said c)

pub returns-in-Some-clause-fault : goal.returns-in-Some-clause-fault
returns-in-Some-clause-fault c = told_is_fault c.args.line.now c.over_said.result (said c)

pub returns-in-None-clause-reading : goal.returns-in-None-clause-reading
returns-in-None-clause-reading c = let short : length c.args.line.now ≤ 4096 = omega arith in no_fields c.args.line.now short c.in-None.ensures

pub returns-in-None-clause-fault : goal.returns-in-None-clause-fault
returns-in-None-clause-fault c =
    let short : length c.args.line.now ≤ 4096 = omega arith in
    told_is_fault c.args.line.now (Err TooFewFields) (no_fields c.args.line.now short c.in-None.ensures)
