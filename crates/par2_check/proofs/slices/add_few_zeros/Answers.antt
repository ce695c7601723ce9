use Rattle.std.proofs.Common.{◌++◌, ℕ, List, ap, subst}
use Rattle.std.proofs.lemmas.List.{take-replicate}
use Rattle.md5.specs.Md5.{Holds}
use Rattle.par2_check.proofs.slices.add_few_zeros.Goals as goal

pub returns : goal.returns
returns c = λ bytes holds.
    subst (Holds c.update.new.self) (ap (λ (zeros : List ℕ). bytes ++ zeros) (take-replicate c.args.count 4096 0 c.requires)) (c.update.ensures bytes holds)
