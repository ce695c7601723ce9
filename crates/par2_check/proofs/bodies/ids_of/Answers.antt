use Rattle.par2_check.proofs.Ids.{one_more}
use Rattle.par2_check.proofs.bodies.ids_of.Goals as goal

pub loop-i-preserved : goal.loop-i-preserved
loop-i-preserved c = one_more c.args.packet.now c.loop-i.ids.keys c.insert.new.self.keys c.loop-i.i _ c.loop-i.invariant c.sixteen_at.ensures c.in_ok-insert.ensures.keys
