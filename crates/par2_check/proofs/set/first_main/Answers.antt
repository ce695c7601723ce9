use Rattle.std.proofs.Common.{sym, ◌∙◌}
use Rattle.par2_check.specs.Bodies.{is_main}
use Rattle.par2_check.proofs.FirstLaws.{first_found, none_up_to}
use Rattle.par2_check.proofs.set.first_main.Goals as goal

pub returns-then-is_main : goal.returns-then-is_main
returns-then-is_main c =
    first_found is_main c.args.packets.now c.loop-i.i c.packet-packet.result.now c.loop-i.invariant c.packet-packet.ensures (sym c.is_main.ensures ∙ c.if-is_main.true)

pub loop-i-preserved : goal.loop-i-preserved
loop-i-preserved c =
    none_up_to is_main c.args.packets.now c.loop-i.i c.packet-packet.result.now c.loop-i.invariant c.packet-packet.ensures (sym c.is_main.ensures ∙ c.if-is_main.false)
