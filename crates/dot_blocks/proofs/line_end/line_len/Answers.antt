use Rattle.std.proofs.Common.{◌-◌, length, arith}
use Rattle.dot_blocks.proofs.LineSearch.{none_below, none_at_all, none_before_feed, none_past_feed}
use Rattle.dot_blocks.proofs.line_end.line_len.Goals as goal
use Rattle.dot_blocks.proofs.line_end.line_len.Goals.{else-feed-gt0-via-then-feed-gt0+else-bytes-feed-eq13, else-feed-gt0-via-else-feed-gt0}

pub returns-then-bytes-feed-eq13-clause-before : goal.returns-then-bytes-feed-eq13-clause-before
returns-then-bytes-feed-eq13-clause-before c =
    let found = c.in-Some.ensures.0 in
    let inside = found.high in
    let below = none_before_feed c.args.bytes.now c.loop-feed.from c.in-Some.feed found.before c.loop-feed.invariant.before in
    none_below c.args.bytes.now (c.in-Some.feed - 1) (omega arith) (record { none = λ k lt r f. below.none k (omega arith) r f })

pub loop-feed-preserved : goal.loop-feed-preserved
loop-feed-preserved c =
    let found = c.in-Some.ensures.0 in
    let inside = found.high in
    let below = none_before_feed c.args.bytes.now c.loop-feed.from c.in-Some.feed found.before c.loop-feed.invariant.before in
    record {
      inside = omega arith;
      before = none_past_feed c.args.bytes.now c.in-Some.feed below (λ some is. elim c.else-feed-gt0.branch [
        | else-feed-gt0-via-then-feed-gt0+else-bytes-feed-eq13 w ↦ absurd (w.if-bytes-feed-eq13.false is)
        | else-feed-gt0-via-else-feed-gt0 w ↦ absurd (omega (arith, w.if-feed-gt0.false))
      ]);
    }

pub returns-clause-none : goal.returns-clause-none
returns-clause-none c = none_at_all c.args.bytes.now (none_before_feed c.args.bytes.now c.loop-feed.from (length c.args.bytes.now) c.in_default.ensures c.loop-feed.invariant.before)
