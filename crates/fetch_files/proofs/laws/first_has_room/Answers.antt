use Rattle.std.proofs.Common.{refl}
use Rattle.fetch_files.proofs.Edits.{first_has_room}
use Rattle.fetch_files.proofs.laws.first_has_room.Goals as goal

pub returns : goal.returns
returns c file counts = (first_has_room file counts, λ segment entry there free. refl, λ segment entry there taken. refl)
