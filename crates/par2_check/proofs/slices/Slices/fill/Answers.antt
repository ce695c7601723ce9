use Rattle.std.proofs.Common.{◌+◌, length, refl, arith}
use Rattle.std.proofs.lemmas.Result.{on_ok_weaker}
use Rattle.par2_check.proofs.SliceLaws.{closed_on, filled_on}
use Rattle.par2_check.proofs.slices.Slices.fill.Goals as goal

pub returns-then-self-slice-clause-stands : goal.returns-then-self-slice-clause-stands
returns-then-self-slice-clause-stands c = λ content piece stands.
    filled_on c.args.slice c.args.file.now content c.args.self.now _ c.args.bytes.now c.requires.counted piece stands refl refl refl refl c.update.ensures

pub returns-clause-stands : goal.returns-clause-stands
returns-clause-stands c =
    on_ok_weaker c.close.result (λ judged. λ content piece stands.
    closed_on c.args.slice c.args.file.now content c.args.self.now
    (record { taken = c.args.self.now.taken + length c.args.bytes.now; closed = c.args.self.now.closed; filled = c.args.self.now.filled + length c.args.bytes.now; part = c.update.new.self; damaged = c.args.self.now.damaged })
    c.close.new.self c.args.bytes.now c.requires.counted c.requires.fits (omega (arith, c.requires.room, c.if-self-slice.false)) piece stands
    c.update.ensures c.close.ensures.taken c.close.ensures.closed c.close.ensures.filled c.close.ensures.part judged) c.close.ensures.damaged
