use Rattle.std.proofs.Common.{arith}
use Rattle.std.proofs.lemmas.Result.{on_ok_weaker}
use Rattle.par2_check.proofs.SliceLaws.{closed_below, last_on, none_left}
use Rattle.par2_check.proofs.slices.Slices.finish.Goals as goal

pub returns-then-self-eq0 : goal.returns-then-self-eq0
returns-then-self-eq0 c = λ content stands. none_left c.args.slice c.args.file.now content c.args.self.now c.requires.counted c.requires.all c.requires.entries c.if-self-eq0.true stands

pub close-requires : goal.close-requires
close-requires c = closed_below c.args.slice c.args.file.now c.args.self.now c.requires.counted c.requires.all c.requires.entries (omega (arith, c.if-self-eq0.false))

pub returns : goal.returns
returns c =
    on_ok_weaker c.close.result (λ judged. λ content stands.
    last_on c.args.slice c.args.file.now content c.args.self.now
    (record { taken = c.args.self.now.taken; closed = c.args.self.now.closed; filled = c.args.self.now.filled; part = c.add_zeros.new.part; damaged = c.args.self.now.damaged })
    c.close.new.self c.requires.counted c.requires.all c.requires.entries (omega (arith, c.if-self-eq0.false)) stands c.add_zeros.ensures judged) c.close.ensures.damaged
