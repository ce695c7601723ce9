use Rattle.std.proofs.Common.{◌∙◌}
use Rattle.io_memory.proofs.NamedFiles.{found_at}
use Rattle.io_memory.proofs.mem_input.place_of.Goals as goal

pub returns-then-eq-clause-found : goal.returns-then-eq-clause-found
returns-then-eq-clause-found c =
    found_at c.args.name.now c.args.files.now c.loop-i.i c.index-files-i.result c.loop-i-test.true c.index-files-i.is (cc) ∙ c.loop-i.invariant
