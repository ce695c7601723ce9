use Rattle.fetch_files.proofs.Pieces.{piece_is_written}
use Rattle.fetch_files.proofs.laws.piece_is_written.Goals as goal

pub returns : goal.returns
returns c = piece_is_written
