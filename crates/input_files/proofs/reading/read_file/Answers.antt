use Rattle.std.proofs.Common.{◌∙◌, arith}
use Rattle.input_files.specs.Reading.{IsReadOrOpen}
use Rattle.input_files.proofs.ReadingLemmas.{ends_of_opened, ends_of_whole, read_is_allowed}
use Rattle.input_files.proofs.reading.read_file.Goals as goal

pub returns-clause-ends : goal.returns-clause-ends
returns-clause-ends g c =
    ends_of_whole c.args.path.now c.in-Ok.len c.args.most _ c.read_part.result (c.read_part.ensures.current ∙ c.in-Ok.ensures.current) (omega arith) c.read_part.ensures.length
    (
    ends_of_opened (IsReadOrOpen c.args.path.now) 0 c.in-Ok.len _ _ _ _ c.read_part.result (read_is_allowed c.args.path.now 0 c.in-Ok.len) c.in-Ok.ensures.cause.kept c.in-Ok.ensures.shorts c.in-Ok.ensures.blame
    c.read_part.ensures.ends
    )
