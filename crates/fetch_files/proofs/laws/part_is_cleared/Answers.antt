use Rattle.fetch_files.proofs.Pieces.{cleared_stays, part_is_cleared}
use Rattle.fetch_files.proofs.laws.part_is_cleared.Goals as goal

pub returns : goal.returns
returns c count name entries given segment entry old new sound room here taken filled puts =
    let cleared = part_is_cleared count name entries given segment entry old new sound room here taken filled puts in
    let stays = cleared_stays entries given segment in
    (cleared, stays.filled count name new cleared)
