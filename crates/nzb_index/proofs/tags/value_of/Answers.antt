use Rattle.std.proofs.Common.{sym, arith}
use Rattle.nzb_index.proofs.TagEnds.{place_within, value_there, value_missing}
use Rattle.nzb_index.proofs.tags.value_of.Goals as goal

pub line-requires : goal.line-requires
line-requires c =
    let within = place_within c.args.name.now c.args.names.now c.in-Some.at (sym c.in-Some.ensures) in
    let pairs = c.requires in
    omega (arith, within, pairs)

pub returns-in-Some : goal.returns-in-Some
returns-in-Some c = value_there c.args.name.now c.line.result.now c.args.names.now c.args.values.now c.in-Some.at c.requires (sym c.in-Some.ensures) c.line.ensures

pub returns-in-None : goal.returns-in-None
returns-in-None c = value_missing c.args.name.now c.args.names.now c.args.values.now c.requires (sym c.in-None.ensures)
