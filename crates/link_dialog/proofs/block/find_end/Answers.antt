-- Line by line.
use Rattle.std.proofs.Common.{ℕ, List, ◌++◌, take, drop, subst}
use Rattle.std.proofs.lemmas.List.{take_all}
use Rattle.dot_blocks.specs.declared.framer.Frame.TheVariants.{More, LineEnd, End}
use Rattle.link_dialog.specs.Block.{IsInBlock, IsBlockOf}
use Rattle.link_dialog.proofs.BlockReaders.{frame_more, frame_line, frame_end, frames_at, fits_at, next_front}
use Rattle.link_dialog.proofs.block.find_end.Goals as goal

pub returns-in-End-clause-block : goal.returns-in-End-clause-block
returns-in-End-clause-block c heard s =
    subst (λ (t : List ℕ). IsBlockOf t) (next_front heard c.args.piece.now c.loop-at.at c.step-used.result.0)
    (frame_end c.loop-at.framer c.step-used.new.self (take c.step-used.result.0 (drop c.loop-at.at c.args.piece.now)) (heard ++ take c.loop-at.at c.args.piece.now) (frames_at c.loop-at.framer c.step-used.new.self c.args.piece.now c.loop-at.at c.step-used.result.0 c.step-used.result.1 End c.in-End.is c.step-used.ensures.steps) (c.loop-at.invariant.goes_on heard s))

pub loop-at-preserved-in-More : goal.loop-at-preserved-in-More
loop-at-preserved-in-More c = record {
  inside = fits_at c.args.piece.now c.loop-at.at c.step-used.result.0 c.loop-at.invariant.inside c.step-used.ensures.used;
  goes_on = λ heard s.
      subst (λ (t : List ℕ). IsInBlock c.step-used.new.self t) (next_front heard c.args.piece.now c.loop-at.at c.step-used.result.0)
      (frame_more c.loop-at.framer c.step-used.new.self (take c.step-used.result.0 (drop c.loop-at.at c.args.piece.now)) (heard ++ take c.loop-at.at c.args.piece.now) (frames_at c.loop-at.framer c.step-used.new.self c.args.piece.now c.loop-at.at c.step-used.result.0 c.step-used.result.1 More c.in-More.is c.step-used.ensures.steps) (c.loop-at.invariant.goes_on heard s));
}

pub loop-at-preserved : goal.loop-at-preserved
loop-at-preserved c = record {
  inside = fits_at c.args.piece.now c.loop-at.at c.step-used.result.0 c.loop-at.invariant.inside c.step-used.ensures.used;
  goes_on = λ heard s.
      subst (λ (t : List ℕ). IsInBlock c.step-used.new.self t) (next_front heard c.args.piece.now c.loop-at.at c.step-used.result.0)
      (frame_line c.loop-at.framer c.step-used.new.self (take c.step-used.result.0 (drop c.loop-at.at c.args.piece.now)) (heard ++ take c.loop-at.at c.args.piece.now) (frames_at c.loop-at.framer c.step-used.new.self c.args.piece.now c.loop-at.at c.step-used.result.0 c.step-used.result.1 LineEnd c.in-LineEnd.is c.step-used.ensures.steps) (c.loop-at.invariant.goes_on heard s));
}

pub returns-clause-more : goal.returns-clause-more
returns-clause-more c heard s =
    subst (λ (t : List ℕ). IsInBlock c.loop-at.framer (heard ++ t)) (take_all c.loop-at.at c.args.piece.now c.loop-at-test.false) (c.loop-at.invariant.goes_on heard s)
