use Rattle.io_memory.proofs.NamedFiles.{content_is, counts_content, gives_content}
use Rattle.io_memory.proofs.mem_input.MemInputInput.read_at.Goals as goal

pub returns-clause-bytes : goal.returns-clause-bytes
returns-clause-bytes c =
    let content = content_is c.args.self.now.files c.args.self.now.current c.in-Some.place c.args.pos c.index-as_slice-place.result c.as_slice-in-Some-2.result.now c.in-Some.is c.requires.inside (cc) c.as_slice-in-Some-2.ensures in
    gives_content _ c.as_slice-in-Some-2.result.now c.copy_from.new.buf c.args.pos c.copy_from.result content (c.copy_from.ensures.gives c.requires.room)

pub returns-clause-most : goal.returns-clause-most
returns-clause-most c =
    let content = content_is c.args.self.now.files c.args.self.now.current c.in-Some.place c.args.pos c.index-as_slice-place.result c.as_slice-in-Some-2.result.now c.in-Some.is c.requires.inside (cc) c.as_slice-in-Some-2.ensures in
    counts_content _ c.as_slice-in-Some-2.result.now c.args.pos _ c.copy_from.result content c.copy_from.ensures.count
