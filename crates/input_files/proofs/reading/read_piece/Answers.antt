use Rattle.std.proofs.Common.{arith}
use Rattle.input_files.proofs.ReadingLemmas.{IsPiece-more}
use Rattle.input_files.proofs.reading.read_piece.Goals as goal

pub returns-in-Ok-extend-clause-piece : goal.returns-in-Ok-extend-clause-piece
returns-in-Ok-extend-clause-piece g c = λ piece.
    IsPiece-more _ c.args.place c.args.bytes.now c.extend.new.self c.read_at.new.buf c.len-at.result c.in-Ok.n c.in-Ok.ensures.bytes piece c.len-at.ensures (omega (arith, c.in-Ok.ensures.bound)) c.in-Ok-extend.ensures.ok
