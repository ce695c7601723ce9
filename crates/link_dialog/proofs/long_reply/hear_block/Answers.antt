-- Receive by receive.
use Rattle.std.proofs.Common.{◌≡◌, ◌<◌, ◌≤◌, ℕ, List, length, take, ◌∙◌, refl, subst, arith}
use Rattle.std.proofs.lemmas.List.{length-take-le}
use Rattle.link_dialog.specs.declared.block.BlockStep.{BlockStep}
use Rattle.link_dialog.specs.BlockReader.{BlockSteps, Grows}
use Rattle.link_dialog.proofs.Hearings.{quiet_to_end, ended_to_end}
use Rattle.link_dialog.proofs.BlockHearings.{new_piece_at, piece_more, block_quiet, falls_in_block}
use Rattle.link_dialog.proofs.BlockAnswers.{answers_whole, answers_early, answers_too_long}
use Rattle.link_dialog.proofs.long_reply.hear_block.Goals as goal

piece_long : (n : ℕ) (buf old : List ℕ) → length buf ≡ length old → (0 < n) × (n ≤ length old) → length (take n buf) ≡ n
piece_long n buf old same count = length-take-le n buf (rw same count.1)

piece_some : (n : ℕ) (buf old : List ℕ) → length buf ≡ length old → (0 < n) × (n ≤ length old) → 0 < length (take n buf)
piece_some n buf old same count = rw (piece_long n buf old same count) count.0

pub loop-len-init : goal.loop-len-init
loop-len-init g c = record {
  patient = c.requires.patient;
  faults = omega arith;
  live = refl;
  small = c.args.reader.now.within;
  room = c.requires.room;
  so_far = λ before s. s;
}

pub loop-len-preserved-in-More : goal.loop-len-preserved-in-More
loop-len-preserved-in-More g c =
    let piece = take c.in-Bytes.len c.receive.new.buf in
    record {
      patient = c.requires.patient;
      faults = let cause = c.in-Bytes.ensures.cause in let before = c.loop-len.invariant.faults in omega (arith, cause, before);
      live = c.in-Bytes.ensures.live ∙ c.loop-len.invariant.live;
      small = c.step.new.self.within;
      room = rw c.receive.auto.buf c.loop-len.invariant.room;
      so_far = λ before begun.
          let s = c.loop-len.invariant.so_far before begun in
          let p = new_piece_at before (g.L.Links.trace c.loop-len.links) (g.L.Links.trace c.receive.new.links) c.args.link c.args.patience c.args.kind c.args.code c.loop-len.reader c.loop-len.block c.loop-len.quiet piece s c.in-Bytes.ensures.trace
          (piece_some c.in-Bytes.len c.receive.new.buf c.loop-len.buf c.receive.auto.buf c.in-Bytes.ensures.count) in
          piece_more before (g.L.Links.trace c.receive.new.links) c.args.link c.args.patience c.args.kind c.args.code piece 0 s.block c.loop-len.reader c.step.new.self c.loop-len.block c.step.new.block
          c.requires.patient c.requires.block p.0 s.stands p.1
          (subst (λ (t : BlockStep). BlockSteps c.loop-len.reader c.loop-len.block c.step.new.self c.step.new.block s.block piece t) c.in-More.is (c.step.ensures.steps s.block));
    }

pub returns-then-used-len-clause-heard : goal.returns-then-used-len-clause-heard
returns-then-used-len-clause-heard g c before begun =
    let piece = take c.in-Bytes.len c.receive.new.buf in
    let s = c.loop-len.invariant.so_far before begun in
    let long = piece_long c.in-Bytes.len c.receive.new.buf c.loop-len.buf c.receive.auto.buf c.in-Bytes.ensures.count in
    let p = new_piece_at before (g.L.Links.trace c.loop-len.links) (g.L.Links.trace c.receive.new.links) c.args.link c.args.patience c.args.kind c.args.code c.loop-len.reader c.loop-len.block c.loop-len.quiet piece s c.in-Bytes.ensures.trace
    (piece_some c.in-Bytes.len c.receive.new.buf c.loop-len.buf c.receive.auto.buf c.in-Bytes.ensures.count) in
    let all = c.if-used-len.true in
    answers_whole before (g.L.Links.trace c.receive.new.links) c.args.link c.args.patience c.args.kind c.args.code piece 0 s.block c.loop-len.reader c.step.new.self c.loop-len.block c.step.new.block c.in-End.used
    c.requires.patient c.requires.meant c.requires.block p.0 s.stands p.1
    (subst (λ (t : BlockStep). BlockSteps c.loop-len.reader c.loop-len.block c.step.new.self c.step.new.block s.block piece t) c.in-End.is (c.step.ensures.steps s.block))
    (omega (arith, long, all))

pub returns-in-End-clause-heard : goal.returns-in-End-clause-heard
returns-in-End-clause-heard g c before begun =
    let piece = take c.in-Bytes.len c.receive.new.buf in
    let s = c.loop-len.invariant.so_far before begun in
    let long = piece_long c.in-Bytes.len c.receive.new.buf c.loop-len.buf c.receive.auto.buf c.in-Bytes.ensures.count in
    let p = new_piece_at before (g.L.Links.trace c.loop-len.links) (g.L.Links.trace c.receive.new.links) c.args.link c.args.patience c.args.kind c.args.code c.loop-len.reader c.loop-len.block c.loop-len.quiet piece s c.in-Bytes.ensures.trace
    (piece_some c.in-Bytes.len c.receive.new.buf c.loop-len.buf c.receive.auto.buf c.in-Bytes.ensures.count) in
    let steps = subst (λ (t : BlockStep). BlockSteps c.loop-len.reader c.loop-len.block c.step.new.self c.step.new.block s.block piece t) c.in-End.is (c.step.ensures.steps s.block) in
    let other = c.if-used-len.false in
    let fits = (steps s.stands).1 in
    answers_early before (g.L.Links.trace c.receive.new.links) c.args.link c.args.patience c.args.kind c.args.code piece 0 s.block c.loop-len.reader c.step.new.self c.loop-len.block c.step.new.block c.in-End.used
    c.requires.patient c.requires.meant c.requires.block p.0 s.stands p.1 steps
    (omega (arith, long, other, fits))

pub returns-in-TooLong-clause-heard : goal.returns-in-TooLong-clause-heard
returns-in-TooLong-clause-heard g c before begun =
    let piece = take c.in-Bytes.len c.receive.new.buf in
    let s = c.loop-len.invariant.so_far before begun in
    let p = new_piece_at before (g.L.Links.trace c.loop-len.links) (g.L.Links.trace c.receive.new.links) c.args.link c.args.patience c.args.kind c.args.code c.loop-len.reader c.loop-len.block c.loop-len.quiet piece s c.in-Bytes.ensures.trace
    (piece_some c.in-Bytes.len c.receive.new.buf c.loop-len.buf c.receive.auto.buf c.in-Bytes.ensures.count) in
    answers_too_long before (g.L.Links.trace c.receive.new.links) c.args.link c.args.patience c.args.kind c.args.code piece 0 s.block c.loop-len.reader c.step.new.self c.loop-len.block c.step.new.block
    c.requires.patient c.requires.block p.0 s.stands p.1
    (subst (λ (t : BlockStep). BlockSteps c.loop-len.reader c.loop-len.block c.step.new.self c.step.new.block s.block piece t) c.in-TooLong.is (c.step.ensures.steps s.block))

pub loop-len-smaller-in-More : goal.loop-len-smaller-in-More
loop-len-smaller-in-More g c =
    let piece = take c.in-Bytes.len c.receive.new.buf in
    let grew = subst (λ (t : BlockStep). Grows c.loop-len.reader c.step.new.self piece t) c.in-More.is c.step.ensures.grows in
    falls_in_block c.loop-len.reader.heard c.step.new.self.heard (length piece) c.args.patience c.loop-len.quiet grew
    (piece_some c.in-Bytes.len c.receive.new.buf c.loop-len.buf c.receive.auto.buf c.in-Bytes.ensures.count) c.step.new.self.within

pub returns-then-quiet-patience-clause-heard : goal.returns-then-quiet-patience-clause-heard
returns-then-quiet-patience-clause-heard g c before begun =
    quiet_to_end before (g.L.Links.trace c.loop-len.links) (g.L.Links.trace c.receive.new.links) c.args.link c.args.patience c.args.kind c.loop-len.quiet (c.loop-len.invariant.so_far before begun).so_far c.in-Quiet.ensures.trace c.if-quiet-patience.true

pub loop-len-preserved : goal.loop-len-preserved
loop-len-preserved g c = record {
  patient = c.if-quiet-patience.false;
  faults = let cause = c.in-Quiet.ensures.cause in let before = c.loop-len.invariant.faults in omega (arith, cause, before);
  live = c.in-Quiet.ensures.live ∙ c.loop-len.invariant.live;
  small = c.loop-len.invariant.small;
  room = rw c.receive.auto.buf c.loop-len.invariant.room;
  so_far = λ before begun.
      block_quiet before (g.L.Links.trace c.loop-len.links) (g.L.Links.trace c.receive.new.links) c.args.link c.args.patience c.args.kind c.args.code c.loop-len.reader c.loop-len.block c.loop-len.quiet (c.loop-len.invariant.so_far before begun) c.in-Quiet.ensures.trace c.if-quiet-patience.false;
}

pub returns-in-Closed-clause-heard : goal.returns-in-Closed-clause-heard
returns-in-Closed-clause-heard g c before begun =
    ended_to_end before (g.L.Links.trace c.loop-len.links) (g.L.Links.trace c.receive.new.links) c.args.link c.args.patience c.args.kind c.loop-len.quiet (c.loop-len.invariant.so_far before begun).so_far c.in-Closed.ensures.trace

pub returns-in-Failed-clause-heard : goal.returns-in-Failed-clause-heard
returns-in-Failed-clause-heard g c before begun =
    ended_to_end before (g.L.Links.trace c.loop-len.links) (g.L.Links.trace c.receive.new.links) c.args.link c.args.patience c.args.kind c.loop-len.quiet (c.loop-len.invariant.so_far before begun).so_far c.in-Failed.ensures.trace
