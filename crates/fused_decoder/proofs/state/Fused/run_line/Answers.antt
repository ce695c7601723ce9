use Rattle.std.proofs.Common.{◌+◌, arith, subst, sym}
use Rattle.fused_decoder.specs.declared.state.Fused.{Fused}
use Rattle.fused_decoder.specs.Runs.{CameBut}
use Rattle.fused_decoder.proofs.ManyLaws.{run_but}
use Rattle.fused_decoder.proofs.state.Fused.run_line.Goals as goal

pub returns-clause-came : goal.returns-clause-came
returns-clause-came c =
    let end = c.run_end-end.ensures in
    let run = c.land_spellings-run in
    λ start old first le came. subst (λ (s : Fused). CameBut start s old run.new.buf first (c.args.used + run.result.used) (c.args.wrote + run.result.landed)) (sym c.advance.ensures)
    (run_but start c.args.self.now old c.args.buf.now run.new.buf first c.args.used c.args.wrote run.result.used run.result.landed c.requires.running run.ensures.landed (omega (arith, run.ensures.within, end.within)) run.ensures.within.0 c.requires.order.0
    (omega (arith, run.ensures.within, end.fits)) end.ranges.0 end.ranges.1 end.ranges.2 le came)
