use Rattle.std.proofs.Common.{sym, ◌∙◌}
use Rattle.par2_check.proofs.SetLaws.{desc_found}
use Rattle.par2_check.proofs.set.is_wanted.Goals as goal

pub long_at-size-requires : goal.long_at-size-requires
long_at-size-requires c =
    (
    desc_found c.args.set.now c.sixteen_at.result c.args.packets.now c.args.descs.now c.in-Some.number c.packet.result.now c.requires.descs (sym c.first.ensures ∙ c.in-Some.is) c.packet.ensures
    ).1
