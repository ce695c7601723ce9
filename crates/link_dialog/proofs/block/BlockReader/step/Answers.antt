-- The end of the block, and its middle.
use Rattle.std.proofs.Common.{◌≡◌, ◌≤◌, ◌+◌, ℕ, List, ◌++◌, length, take, arith, ap, subst}
use Rattle.std.proofs.lemmas.List.{length-take-le, take-take, take_all}
use Rattle.link_dialog.specs.Block.{IsInBlock, IsBlockOf, IsKept}
use Rattle.link_dialog.proofs.block.BlockReader.step.Goals as goal

pub returns-in-Some-clause-steps : goal.returns-in-Some-clause-steps
returns-in-Some-clause-steps c heard s =
    let piece = c.args.piece.now in
    let m = c.min.result in
    let is = c.min.ensures in
    let within : m ≤ length piece = omega (arith, is) in
    let long : length (take m piece) ≡ m = length-take-le m piece within in
    let fits = c.in-Some.ensures.fits in
    let same : take c.in-Some.used (take m piece) ≡ take c.in-Some.used piece = take-take c.in-Some.used m piece (omega (arith, fits, long)) in
    let room = c.args.self.now.within in (
      c.in-Some.ensures.some,
      omega (arith, fits, long, within),
      omega (arith, fits, long, is, room),
      subst (λ (t : List ℕ). IsBlockOf (heard ++ t)) same (c.in-Some.ensures.block heard s.place),
      subst (λ (t : List ℕ). IsKept c.keep-self.result c.keep-self.new.block (heard ++ t)) same (c.keep-self.ensures heard s.bytes),
    )

pub returns-else-front-piece-clause-steps : goal.returns-else-front-piece-clause-steps
returns-else-front-piece-clause-steps c heard s =
    let piece = c.args.piece.now in
    let m = c.min.result in
    let is = c.min.ensures in
    let within : m ≤ length piece = omega (arith, is) in
    let long : length (take m piece) ≡ m = length-take-le m piece within in
    let all : take m piece ≡ piece = let past = c.if-front-piece.false in take_all m piece (omega (arith, past, long)) in (
      record {
        place = subst (λ (t : List ℕ). IsInBlock c.find_end.new.framer (heard ++ t)) all (c.in-None.ensures.more heard s.place);
        bytes = subst (λ (t : List ℕ). IsKept c.keep-self-in-None.result c.keep-self-in-None.new.block (heard ++ t)) all (c.keep-self-in-None.ensures heard s.bytes);
      },
      ap (λ t. c.args.self.now.heard + length t) all,
    )

pub returns-else-front-piece-clause-grows : goal.returns-else-front-piece-clause-grows
returns-else-front-piece-clause-grows c =
    let piece = c.args.piece.now in
    let m = c.min.result in
    let is = c.min.ensures in
    let within : m ≤ length piece = omega (arith, is) in
    let long : length (take m piece) ≡ m = length-take-le m piece within in
    let all : take m piece ≡ piece = let past = c.if-front-piece.false in take_all m piece (omega (arith, past, long)) in
    ap (λ t. c.args.self.now.heard + length t) all
