use Rattle.std.proofs.Common.{◌∙◌, sym, ap, arith, length, ◌≤◌}
use Rattle.std.proofs.lemmas.Grind.{common_steps}
use Rattle.io_memory.proofs.FileLaws.{whole, write_done}
use Rattle.io_memory.proofs.mem_files.write_into.Goals as goal

pub returns-clause-ok : goal.returns-clause-ok
returns-clause-ok c =
    let same = ap length c.deref_mut.ensures.value in
    let some : 1 ≤ length c.args.bytes.now = grind (arith, common_steps) in
    whole c.overwrite.new.held c.fill.new.held.items c.fill.new.held.len (c.overwrite.ensures.len ∙ same) (sym c.deref_mut.ensures.len ∙ same)
    ∙ write_done c.args.held.now.items c.args.bytes.now c.deref_mut.result.now c.overwrite.new.held c.args.pos (c.deref_mut.ensures.value ∙ c.in_ok-fill.ensures.ok) c.overwrite.ensures.put some
