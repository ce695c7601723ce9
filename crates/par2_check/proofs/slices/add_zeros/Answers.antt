use Rattle.std.proofs.Common.{◌≡◌, ◌+◌, ◌-◌, ℕ, subst, arith}
use Rattle.md5.specs.Md5.{Holds}
use Rattle.par2_check.proofs.SliceLaws.{zeros_on}
use Rattle.par2_check.proofs.slices.add_zeros.Goals as goal

pub loop-left-preserved : goal.loop-left-preserved
loop-left-preserved c =
    let before : ℕ = c.args.count - c.loop-left.left in
    let after : ℕ = c.args.count - (c.loop-left.left - c.min-room.result) in
    let sum : before + c.min-room.result ≡ after = omega (arith, c.loop-left.invariant.most, c.min-room.ensures) in
    record {
      most = omega (arith, c.loop-left.invariant.most);
      holds = λ bytes holds.
          subst (Holds c.add_few_zeros.new.part) (zeros_on bytes before c.min-room.result after sum) (c.add_few_zeros.ensures _ (c.loop-left.invariant.holds bytes holds));
    }
