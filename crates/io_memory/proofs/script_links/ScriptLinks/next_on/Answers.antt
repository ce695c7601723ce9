-- What is taken of a script from its place on is what is due on the link.
use Rattle.std.proofs.Common.{List, length, subst, arith, ◌∙◌, ap, sym}
use Rattle.io_memory.specs.declared.script.Turn.{Turn}
use Rattle.io_memory.specs.Script.{got_of, GivesPiece}
use Rattle.io_memory.proofs.ScriptLaws.{due_is, turn_taken}
use Rattle.io_memory.proofs.script_links.ScriptLinks.next_on.Goals as goal

pub returns-clause-got : goal.returns-clause-got
returns-clause-got c =
    let due_here = due_is c.args.self.now.places.items c.args.self.now.scripts c.args.link c.index.result.now c.as_slice-script.result.now
    c.args.self.now.placed (omega (arith, c.requires.link, c.args.self.now.scripted)) c.index.ensures (cc) in
    c.take_turn.ensures.got ∙ ap (got_of (length c.args.buf.now)) (sym due_here)

pub returns-clause-piece : goal.returns-clause-piece
returns-clause-piece c =
    let due_here = due_is c.args.self.now.places.items c.args.self.now.scripts c.args.link c.index.result.now c.as_slice-script.result.now
    c.args.self.now.placed (omega (arith, c.requires.link, c.args.self.now.scripted)) c.index.ensures (cc) in
    let P : List Turn → Type 0 = λ turns. GivesPiece c.take_turn.result.0 c.take_turn.new.buf turns in
    subst P (sym due_here) c.take_turn.ensures.piece

pub returns-clause-left : goal.returns-clause-left
returns-clause-left c =
    turn_taken c.args.self.now.places.items c.args.self.now.scripts c.args.link (length c.args.buf.now) c.index.result.now c.take_turn.result.1
    c.as_slice-script.result.now c.args.self.now.placed (omega (arith, c.requires.link, c.args.self.now.scripted)) c.index.ensures (cc) c.take_turn.ensures.left
