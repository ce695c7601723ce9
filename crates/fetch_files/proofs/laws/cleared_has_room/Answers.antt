use Rattle.fetch_files.proofs.Pieces.{cleared_none, cleared_room, cleared_stays}
use Rattle.fetch_files.proofs.laws.cleared_has_room.Goals as goal

pub returns : goal.returns
returns c entries given segment room none = (cleared_room entries given segment room, cleared_none entries given segment none, cleared_stays entries given segment)
