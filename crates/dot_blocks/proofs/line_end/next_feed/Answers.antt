use Rattle.std.proofs.Common.{◌+◌, ◌-◌, ◌≤◌, refl, length, arith}
use Rattle.dot_blocks.proofs.LineSearch.{part_first, part_none, nowhere_then, later_first}
use Rattle.dot_blocks.proofs.line_end.next_feed.Goals as goal

pub returns-in-Some : goal.returns-in-Some
returns-in-Some c =
    part_first c.args.bytes.now _ c.args.from (c.min-near.result - c.args.from) c.in-Some.ahead refl (omega (arith, c.min-near.ensures)) c.in-Some.ensures

pub returns-in_err-ahead : goal.returns-in_err-ahead
returns-in_err-ahead c =
    let low : c.args.from ≤ c.min-near.result = omega (arith, c.min-near.ensures) in
    let high : c.min-near.result ≤ length c.args.bytes.now = omega (arith, c.min-near.ensures) in
    let none = part_none c.args.bytes.now _ c.args.from c.min-near.result refl low high c.in_default.ensures in
    rw c.from_residual.ensures
    (nowhere_then c.args.bytes.now c.args.from c.min-near.result (length c.args.bytes.now) none (part_none c.args.bytes.now _ c.min-near.result (length c.args.bytes.now) refl high (omega arith) c.in_err-ahead.ensures))

pub returns : goal.returns
returns c =
    let low : c.args.from ≤ c.min-near.result = omega (arith, c.min-near.ensures) in
    let high : c.min-near.result ≤ length c.args.bytes.now = omega (arith, c.min-near.ensures) in
    let none = part_none c.args.bytes.now _ c.args.from c.min-near.result refl low high c.in_default.ensures in
    let found = part_first c.args.bytes.now _ c.min-near.result (length c.args.bytes.now - c.min-near.result) c.in_ok-ahead.ahead refl (omega arith) c.in_ok-ahead.ensures in
    (later_first c.args.bytes.now c.args.from c.min-near.result (c.min-near.result + c.in_ok-ahead.ahead) low none found.0, found.1)
