use Rattle.std.proofs.Common.{arith}
use Rattle.io_memory.proofs.ScriptLaws.{rests_length}
use Rattle.io_memory.proofs.script_links.ScriptLinksLinks.open.Goals as goal

pub returns-in-Ok-clause-scripted : goal.returns-in-Ok-clause-scripted
returns-in-Ok-clause-scripted c = omega (arith, rests_length c.args.self.now.places.items c.args.self.now.scripts c.args.self.now.placed, c.opened.ensures, c.len.ensures)
