-- Each script is at its start.
use Rattle.io_memory.proofs.ScriptLaws.{rests_from_start}
use Rattle.io_memory.proofs.script_links.ScriptLinks.with_sends.Goals as goal

pub returns-clause-scripts : goal.returns-clause-scripts
returns-clause-scripts c =
    let items = c.in_ok-places.ensures.items_if_clones_equal (λ y is. is) in
    rw (items, c.len.ensures) (rests_from_start c.args.scripts)
