use Rattle.par2_check.proofs.SetLaws.{main_sized}
use Rattle.par2_check.proofs.set.files_of.Goals as goal

pub ids_of-requires : goal.ids_of-requires
ids_of-requires c = (main_sized c.args.main.now c.requires).0
