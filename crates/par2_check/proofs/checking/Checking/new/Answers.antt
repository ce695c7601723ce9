use Rattle.std.proofs.Common.{ℕ, subst, sym, take}
use Rattle.md5.specs.Md5.{Holds}
use Rattle.par2_check.proofs.checking.Checking.new.Goals as goal

pub returns-clause-knows : goal.returns-clause-knows
returns-clause-knows c = λ slice file content. record {
  slices = c.new.ensures.stands slice file content;
  whole = subst (λ (n : ℕ). Holds c.new-2.result (take n content)) (sym c.new.ensures.taken) c.new-2.ensures;
}
