use Rattle.std.proofs.Common.{◌+◌, ◌-◌, ◌≤◌, ℕ, length, drop, take, subst, sym, arith, length-drop, length-take}
use Rattle.par2_check.specs.Checking.{IsNextPiece}
use Rattle.par2_check.proofs.SliceLaws.{piece_within}
use Rattle.par2_check.proofs.slices.Slices.take.Goals as goal

pub loop-at-preserved : goal.loop-at-preserved
loop-at-preserved c =
    let fits : c.loop-at.at + c.min-room.result ≤ length c.args.piece.now = omega (arith, c.min-room.ensures, c.loop-at.invariant.most) in
    record {
      most = fits;
      counted = c.in_ok-fill.ensures.counted;
      taken = omega (arith, c.in_ok-fill.ensures.taken, c.loop-at.invariant.taken, length-take {A = ℕ}, length-drop {A = ℕ}, fits);
      stands = λ content piece stands.
          c.in_ok-fill.ensures.stands content
          (subst (λ (n : ℕ). IsNextPiece content n (take (c.loop-at.at + c.min-room.result - c.loop-at.at) (drop c.loop-at.at c.args.piece.now))) (sym c.loop-at.invariant.taken)
          (piece_within content c.args.piece.now c.args.self.now.taken c.loop-at.at c.min-room.result piece fits))
          (c.loop-at.invariant.stands content piece stands);
    }
