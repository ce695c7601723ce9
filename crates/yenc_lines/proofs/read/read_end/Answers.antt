use Rattle.std.proofs.lemmas.Result.{err_from_is_err_and}
use Rattle.yenc_lines.specs.declared.key.Key.TheVariants as key
use Rattle.yenc_lines.specs.Gathered.{given}
use Rattle.yenc_lines.specs.Keywords.{yend, items_of, number_in}
use Rattle.yenc_lines.proofs.ReaderLaws.{end_fails, end_is, number_is}
use Rattle.yenc_lines.proofs.SmallNumbers.{part_small, pcrc32_small, crc32_small, small_too}
use Rattle.yenc_lines.proofs.read.read_end.Goals as goal

pub returns-in_err-numbers : goal.returns-in_err-numbers
returns-in_err-numbers c =
    let p = err_from_is_err_and c.from_residual.result c.from_residual.ensures.1 in
    rw (p.1, p.2) (end_fails c.args.line.now c.in_err-numbers.field-0.0 c.in_err-numbers.ensures.fault)

pub small-requires : goal.small-requires
small-requires c =
    small_too (number_in (items_of yend c.args.line.now) key.Part) (given c.in_ok-numbers.numbers key.Part) (c.in_ok-numbers.ensures.numbers key.Part) (part_small (items_of yend c.args.line.now))

pub small-requires-2 : goal.small-requires-2
small-requires-2 c =
    small_too (number_in (items_of yend c.args.line.now) key.Pcrc32) (given c.in_ok-numbers.numbers key.Pcrc32) (c.in_ok-numbers.ensures.numbers key.Pcrc32) (pcrc32_small (items_of yend c.args.line.now))

pub small-requires-3 : goal.small-requires-3
small-requires-3 c =
    small_too (number_in (items_of yend c.args.line.now) key.Crc32) (given c.in_ok-numbers.numbers key.Crc32) (c.in_ok-numbers.ensures.numbers key.Crc32) (crc32_small (items_of yend c.args.line.now))

pub returns : goal.returns
returns c =
    let size = number_is c.in_ok-numbers.numbers c.place.result c.unwrap_or.result key.Size c.unwrap_or.ensures c.place.ensures.value in
    rw (size, c.small.ensures, c.small-2.ensures, c.small-3.ensures) (end_is c.args.line.now c.in_ok-numbers.numbers c.in_ok-numbers.ensures.fault c.in_ok-numbers.ensures.numbers)
