-- Byte by byte, up to the end of the line.
use Rattle.std.proofs.Common.{List, ℕ, sym, arith, refl, subst, append-nil}
use Rattle.link_dialog.specs.declared.reader.Step.TheVariants.{More, Line, Over}
use Rattle.link_dialog.specs.Reader.{HoldsRest}
use Rattle.link_dialog.proofs.Feeding.{step_in_piece, line_goes_on_in, line_ends_in, all_listened, all_stands, nothing_yet, line_ended_at, link_ended_at}
use Rattle.link_dialog.proofs.reader.Reader.feed.Goals as goal

pub loop-i-init : goal.loop-i-init
loop-i-init c = record {
  grew = omega arith;
  stands = λ rest stands. subst (λ (r : List ℕ). HoldsRest c.args.self.now r) (sym (append-nil rest)) stands;
  fed = λ p link asked m replies rest some stands listening. nothing_yet p link asked m replies c.args.kind rest listening;
}

pub loop-i-preserved : goal.loop-i-preserved
loop-i-preserved c = record {
  grew = let g = c.in-More.ensures.grows in let h = c.loop-i.invariant.grew in omega (arith, g, h);
  stands = λ rest stands.
      line_goes_on_in c.args.kind rest c.args.piece.now c.loop-i.i c.loop-i.self c.step.new.self c.loop-i-test.true (c.loop-i.invariant.stands rest stands) c.in-More.ensures.says;
  fed = λ p link asked m replies rest some stands listening.
      step_in_piece p link asked m replies c.args.kind rest c.args.piece.now c.loop-i.i More c.loop-i.self c.step.new.self some c.loop-i-test.true
      (c.loop-i.invariant.fed p link asked m replies rest some stands listening) (c.loop-i.invariant.stands rest stands) c.in-More.ensures.says;
}

pub returns-in-Line-clause-reads : goal.returns-in-Line-clause-reads
returns-in-Line-clause-reads c rest stands =
    line_ends_in c.args.kind rest c.args.piece.now c.loop-i.i c.in-Line.code c.loop-i.self c.step.new.self c.loop-i-test.true (c.loop-i.invariant.stands rest stands) c.in-Line.ensures.says

pub returns-in-Line-clause-fed : goal.returns-in-Line-clause-fed
returns-in-Line-clause-fed c p link asked m replies rest some stands listening =
    step_in_piece p link asked m replies c.args.kind rest c.args.piece.now c.loop-i.i (Line c.in-Line.code) c.loop-i.self c.step.new.self some c.loop-i-test.true
    (c.loop-i.invariant.fed p link asked m replies rest some stands listening) (c.loop-i.invariant.stands rest stands) c.in-Line.ensures.says

pub returns-in-Over-clause-fed : goal.returns-in-Over-clause-fed
returns-in-Over-clause-fed c p link asked m replies rest some stands listening =
    step_in_piece p link asked m replies c.args.kind rest c.args.piece.now c.loop-i.i (Over c.in-Over.why) c.loop-i.self c.step.new.self some c.loop-i-test.true
    (c.loop-i.invariant.fed p link asked m replies rest some stands listening) (c.loop-i.invariant.stands rest stands) c.in-Over.ensures.says

pub returns-clause-reads : goal.returns-clause-reads
returns-clause-reads c rest stands = (refl, all_stands rest c.args.piece.now c.loop-i.i c.loop-i.self (omega arith) (c.loop-i.invariant.stands rest stands))

pub returns-clause-fed : goal.returns-clause-fed
returns-clause-fed c p link asked m replies rest some stands listening =
    all_listened p link asked m replies c.args.kind rest c.args.piece.now c.loop-i.i (omega arith) (c.loop-i.invariant.fed p link asked m replies rest some stands listening)

pub returns-in-Line-clause-ends : goal.returns-in-Line-clause-ends
returns-in-Line-clause-ends c rest stands = line_ended_at c.args.kind rest c.args.piece.now c.loop-i.i c.in-Line.code c.loop-i.self (c.loop-i.invariant.stands rest stands)

pub returns-in-Over-clause-ends : goal.returns-in-Over-clause-ends
returns-in-Over-clause-ends c rest stands =
    link_ended_at c.args.kind rest c.args.piece.now c.loop-i.i c.in-Over.why c.loop-i.self c.step.new.self c.loop-i-test.true (c.loop-i.invariant.stands rest stands) c.in-Over.ensures.says
