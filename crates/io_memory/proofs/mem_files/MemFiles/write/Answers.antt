use Rattle.std.proofs.Common.{refl}
use Rattle.io_memory.proofs.FileLaws.{is_there, set_numbers, written_first, same_first}
use Rattle.io_traits.specs.Store.{written_at}
use Rattle.io_memory.proofs.mem_files.MemFiles.write.Goals as goal

pub unreachable-requires : goal.unreachable-requires
unreachable-requires c = is_there c.args.self.now.items.items c.args.file c.requires.created (c.in-None.ensures.missing refl)

pub returns-clause-ok : goal.returns-clause-ok
returns-clause-ok c = written_first (written_at c.args.pos c.args.bytes.now) c.write_into.result c.args.self.now.items.items c.args.file c.in-Some.place c.index_mut.result.now c.write_into.new.held c.in-Some.ensures.found c.index_mut.ensures.value c.write_into.ensures.ok

pub returns-clause-err : goal.returns-clause-err
returns-clause-err c = same_first c.write_into.result c.args.self.now.items.items c.args.file c.in-Some.place c.index_mut.result.now c.write_into.new.held c.in-Some.ensures.found c.index_mut.ensures.value c.write_into.ensures.err

pub returns-clause-numbers : goal.returns-clause-numbers
returns-clause-numbers c = set_numbers c.args.self.now.items.items c.in-Some.place c.index_mut.result.now _ c.in-Some.ensures.found.inside c.index_mut.ensures.value refl
