-- Receive by receive.
use Rattle.std.proofs.Common.{◌≡◌, ◌<◌, ◌≤◌, ℕ, List, length, take, ◌∙◌, refl, subst, arith}
use Rattle.std.proofs.lemmas.List.{length-take-le}
use Rattle.link_dialog.specs.declared.reader.Step.{Step}
use Rattle.link_dialog.specs.Reader.{GrowsAtPiece}
use Rattle.link_dialog.proofs.Hearings.{ReadAt, FedAt, line_begins, line_quiet, line_more, line_ends, line_over, quiet_to_end, ended_to_end, falls_at_piece}
use Rattle.link_dialog.proofs.hearing.hear_line.Goals as goal

piece_some : (n : ℕ) (buf old : List ℕ) → length buf ≡ length old → (0 < n) × (n ≤ length old) → 0 < length (take n buf)
piece_some n buf old same count =
    let fits : n ≤ length buf = rw same count.1 in
    rw (length-take-le n buf fits) count.0

pub loop-len-init : goal.loop-len-init
loop-len-init g c = record {
  patient = c.requires.patient;
  faults = omega arith;
  live = refl;
  small = c.args.reader.now.in_range;
  room = c.requires.room;
  heard = line_begins (g.L.Links.trace c.args.links.now) c.args.link c.args.patience c.args.kind c.args.reader.now c.requires.begins;
}

pub loop-len-smaller-in-More : goal.loop-len-smaller-in-More
loop-len-smaller-in-More g c =
    let grew = subst (λ (s : Step). GrowsAtPiece c.loop-len.reader.len c.feed-fed.new.self.len (length (take c.in-Bytes.len c.receive.new.buf)) s) c.in-More.is c.feed-fed.ensures.grows in
    falls_at_piece c.loop-len.reader.len c.feed-fed.new.self.len (length (take c.in-Bytes.len c.receive.new.buf)) c.args.patience c.loop-len.quiet grew
    (piece_some c.in-Bytes.len c.receive.new.buf c.loop-len.buf c.receive.auto.buf c.in-Bytes.ensures.count) c.feed-fed.ensures.small

pub loop-len-preserved-in-More : goal.loop-len-preserved-in-More
loop-len-preserved-in-More g c =
    let piece = take c.in-Bytes.len c.receive.new.buf in
    record {
      patient = c.requires.patient;
      faults = let cause = c.in-Bytes.ensures.cause in let before = c.loop-len.invariant.faults in omega (arith, cause, before);
      live = c.in-Bytes.ensures.live ∙ c.loop-len.invariant.live;
      small = c.feed-fed.ensures.small;
      room = rw c.receive.auto.buf c.loop-len.invariant.room;
      heard = line_more (g.L.Links.trace c.args.links.now) (g.L.Links.trace c.loop-len.links) (g.L.Links.trace c.receive.new.links) c.args.link c.args.patience c.args.kind c.loop-len.reader c.feed-fed.new.self c.loop-len.quiet piece c.feed-fed.result.used
          c.loop-len.invariant.heard c.in-Bytes.ensures.trace
          (piece_some c.in-Bytes.len c.receive.new.buf c.loop-len.buf c.receive.auto.buf c.in-Bytes.ensures.count)
          (subst (λ (s : Step). ReadAt c.args.kind piece c.feed-fed.result.used s c.loop-len.reader c.feed-fed.new.self) c.in-More.is c.feed-fed.ensures.reads)
          (subst (λ (s : Step). FedAt c.args.patience c.args.link c.args.kind piece c.feed-fed.result.used s c.loop-len.reader) c.in-More.is
          (λ asked moment replies rest stands listening. c.feed-fed.ensures.fed c.args.patience c.args.link asked moment replies rest c.requires.patient stands listening));
    }

pub returns-in-Line-clause-heard : goal.returns-in-Line-clause-heard
returns-in-Line-clause-heard g c =
    let piece = take c.in-Bytes.len c.receive.new.buf in
    line_ends (g.L.Links.trace c.args.links.now) (g.L.Links.trace c.loop-len.links) (g.L.Links.trace c.receive.new.links) c.args.link c.args.patience c.args.kind c.loop-len.reader c.feed-fed.new.self c.loop-len.quiet piece c.feed-fed.result.used c.in-Line.code
    c.loop-len.invariant.heard c.in-Bytes.ensures.trace
    (subst (λ (s : Step). ReadAt c.args.kind piece c.feed-fed.result.used s c.loop-len.reader c.feed-fed.new.self) c.in-Line.is c.feed-fed.ensures.reads)
    (subst (λ (s : Step). FedAt c.args.patience c.args.link c.args.kind piece c.feed-fed.result.used s c.loop-len.reader) c.in-Line.is
    (λ asked moment replies rest stands listening. c.feed-fed.ensures.fed c.args.patience c.args.link asked moment replies rest c.requires.patient stands listening))

pub returns-in-Over-clause-heard : goal.returns-in-Over-clause-heard
returns-in-Over-clause-heard g c =
    let piece = take c.in-Bytes.len c.receive.new.buf in
    line_over (g.L.Links.trace c.args.links.now) (g.L.Links.trace c.loop-len.links) (g.L.Links.trace c.receive.new.links) c.args.link c.args.patience c.args.kind c.loop-len.reader c.loop-len.quiet piece c.feed-fed.result.used c.in-Over.why
    c.loop-len.invariant.heard c.in-Bytes.ensures.trace
    (subst (λ (s : Step). FedAt c.args.patience c.args.link c.args.kind piece c.feed-fed.result.used s c.loop-len.reader) c.in-Over.is
    (λ asked moment replies rest stands listening. c.feed-fed.ensures.fed c.args.patience c.args.link asked moment replies rest c.requires.patient stands listening))

pub returns-then-quiet-patience-clause-heard : goal.returns-then-quiet-patience-clause-heard
returns-then-quiet-patience-clause-heard g c =
    quiet_to_end (g.L.Links.trace c.args.links.now) (g.L.Links.trace c.loop-len.links) (g.L.Links.trace c.receive.new.links) c.args.link c.args.patience c.args.kind c.loop-len.quiet c.loop-len.invariant.heard.so_far c.in-Quiet.ensures.trace c.if-quiet-patience.true

pub loop-len-preserved : goal.loop-len-preserved
loop-len-preserved g c = record {
  patient = c.if-quiet-patience.false;
  faults = let cause = c.in-Quiet.ensures.cause in let before = c.loop-len.invariant.faults in omega (arith, cause, before);
  live = c.in-Quiet.ensures.live ∙ c.loop-len.invariant.live;
  small = c.loop-len.invariant.small;
  room = rw c.receive.auto.buf c.loop-len.invariant.room;
  heard = line_quiet (g.L.Links.trace c.args.links.now) (g.L.Links.trace c.loop-len.links) (g.L.Links.trace c.receive.new.links) c.args.link c.args.patience c.args.kind c.loop-len.reader c.loop-len.quiet c.loop-len.invariant.heard c.in-Quiet.ensures.trace c.if-quiet-patience.false;
}

pub returns-in-Closed-clause-heard : goal.returns-in-Closed-clause-heard
returns-in-Closed-clause-heard g c =
    ended_to_end (g.L.Links.trace c.args.links.now) (g.L.Links.trace c.loop-len.links) (g.L.Links.trace c.receive.new.links) c.args.link c.args.patience c.args.kind c.loop-len.quiet c.loop-len.invariant.heard.so_far c.in-Closed.ensures.trace

pub returns-in-Failed-clause-heard : goal.returns-in-Failed-clause-heard
returns-in-Failed-clause-heard g c =
    ended_to_end (g.L.Links.trace c.args.links.now) (g.L.Links.trace c.loop-len.links) (g.L.Links.trace c.receive.new.links) c.args.link c.args.patience c.args.kind c.loop-len.quiet c.loop-len.invariant.heard.so_far c.in-Failed.ensures.trace
