use Rattle.std.proofs.Common.{refl, arith}
use Rattle.std.proofs.lemmas.Grind.{common_steps}
use Rattle.io_memory.proofs.FileLaws.{made, made_created}
use Rattle.io_memory.proofs.mem_files.MemFiles.make.Goals as goal

pub returns-clause-told : goal.returns-clause-told
returns-clause-told c = rw c.in_ok-push.ensures.items (grind (arith, common_steps, made _ _ _ (record { number = c.args.file; name = c.in_ok-name.name; bytes = c.new.result }) c.remove.ensures.told refl))

pub returns-clause-created : goal.returns-clause-created
returns-clause-created c = rw c.in_ok-push.ensures.items (made_created _ _ c.args.file (record { number = c.args.file; name = c.in_ok-name.name; bytes = c.new.result }) c.remove.ensures.created refl)
