use Rattle.std.proofs.Common.{◌≡◌, ◌≤◌, ℕ, length, subst, arith}
use Rattle.par2_check.specs.Damage.{is_damaged}
use Rattle.par2_check.specs.Runs.{AreRuns}
use Rattle.par2_check.proofs.SliceLaws.{closed_few, lost_on}
use Rattle.par2_check.proofs.slices.Slices.lose.Goals as goal

pub loop-i-preserved : goal.loop-i-preserved
loop-i-preserved c = record {
  low = omega (arith, c.loop-i.invariant.low);
  runs = λ slice content cut stands.
      lost_on slice c.args.file.now content c.args.self.now c.loop-i.i c.loop-i.self.damaged c.add_number.new.runs cut.counted cut.fewer cut.all c.loop-i.invariant.low
      (c.loop-i.invariant.runs slice content cut stands) c.in_ok-add_number.ensures;
}

pub returns : goal.returns
returns c = λ slice content cut stands.
    let few : c.args.self.now.closed ≤ length c.args.file.now.slices = closed_few slice c.args.file.now c.args.self.now cut.counted cut.fewer cut.entries in
    let all : c.loop-i.i ≡ length c.args.file.now.slices = omega (arith, few, c.len-i-end.ensures, c.loop-i.auto.i-end, c.loop-i-test.false) in
    subst (λ (n : ℕ). AreRuns (is_damaged slice c.args.file.now content) n c.loop-i.self.damaged) all (c.loop-i.invariant.runs slice content cut stands)
