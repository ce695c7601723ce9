-- The piece that is due has bytes that weren't given.
use Rattle.io_memory.specs.Script.{rest_at}
use Rattle.io_memory.proofs.ScriptLaws.{place_in_piece}
use Rattle.io_memory.proofs.script.take_turn.Goals as goal

pub copy_from-n-requires : goal.copy_from-n-requires
copy_from-n-requires c =
    let place = c.due_place-place.result in
    rw c.as_slice.ensures
    (place_in_piece c.args.script.now (rest_at c.args.place c.args.script.now) place.turn place.given c.index-script-place.result c.in-Give.bytes
    c.if-place-script.false c.index-script-place.is c.in-Give.is c.due_place-place.ensures)
