use Rattle.std.proofs.Common.{ap, ◌∙◌}
use Rattle.std.proofs.lemmas.List.{take_rest}
use Rattle.par2_check.specs.Bodies.{without_zeros}
use Rattle.par2_check.proofs.bodies.name_of.Goals as goal

pub returns : goal.returns
returns c = c.without_zeros.ensures ∙ ap without_zeros (take_rest c.args.packet.now 120)
