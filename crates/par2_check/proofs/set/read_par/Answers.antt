use Rattle.std.proofs.Common.{All, ℕ, List, subst, ◌≡◌, true, sym, arith}
use Rattle.par2_check.specs.Bodies.{is_main}
use Rattle.par2_check.specs.Set.{files_of, fits}
use Rattle.par2_check.specs.declared.set.ParFile.{ParFile}
use Rattle.par2_check.proofs.FirstLaws.{find_passes}
use Rattle.par2_check.proofs.SetLaws.{files_fit, main_sized}
use Rattle.par2_check.proofs.set.read_par.Goals as goal

pub files_of-requires : goal.files_of-requires
files_of-requires c = find_passes is_main c.in-Ok.packets c.in-Some.main.now (sym c.in-Some.ensures)

pub long_at-requires : goal.long_at-requires
long_at-requires c =
    let passes : is_main c.in-Some.main.now ≡ true = find_passes is_main c.in-Ok.packets c.in-Some.main.now (sym c.in-Some.ensures) in
    let sized = main_sized c.in-Some.main.now passes in omega (arith, sized.0)

pub returns-in-Ok-files_of-clause-fits : goal.returns-in-Ok-files_of-clause-fits
returns-in-Ok-files_of-clause-fits c =
    let main : List ℕ = c.in-Some.main.now in
    let passes : is_main main ≡ true = find_passes is_main c.in-Ok.packets main (sym c.in-Some.ensures) in
    subst (λ (files : List ParFile). All (λ file. fits c.long_at.result file ≡ true) files) (sym c.in-Ok-files_of.ensures)
    (subst (λ (n : ℕ). All (λ file. fits n file ≡ true) (files_of main c.in-Ok.packets)) (sym c.long_at.ensures) (files_fit main c.in-Ok.packets passes))
