use Rattle.par2_check.proofs.CheckLaws.{on_ok_two, whole_on}
use Rattle.par2_check.proofs.checking.Checking.take.Goals as goal

pub returns-clause-knows : goal.returns-clause-knows
returns-clause-knows c =
    on_ok_two c.take.result c.take.ensures.taken c.take.ensures.stands (λ taken stands. λ content piece knows. record {
      slices = stands content piece knows.slices;
      whole = whole_on content c.args.piece.now c.args.self.now.whole c.update.new.self c.args.self.now.slices.taken c.take.new.self.taken piece taken c.update.ensures knows.whole;
    })
