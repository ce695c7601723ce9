use Rattle.std.proofs.Common.{arith, rules, ◌+◌}
use Rattle.fetch_files.specs.Calls.{zeroed}
use Rattle.fetch_files.proofs.Rows.{blames_piece, changes_more, front_long, front_of_zeros, last_more, zeroed_front}
use Rattle.fetch_files.proofs.zeros.clear.Goals as goal

pub clear_piece-requires-clause-zeros : goal.clear_piece-requires-clause-zeros
clear_piece-requires-clause-zeros g c = front_of_zeros c.min-len.result 65536

pub returns-in_err-clear_piece-clause-blame : goal.returns-in_err-clear_piece-clause-blame
returns-in_err-clear_piece-clause-blame g c =
    blames_piece c.from_residual.result c.args.file c.args.place c.args.count c.loop-done.done _ _ _ _ (omega (arith, front_long c.min-len.result 65536 (omega arith))) c.loop-done.invariant.blame c.in_err-clear_piece.ensures.blame

pub loop-done-preserved : goal.loop-done-preserved
loop-done-preserved g c = record {
  upto = omega arith;
  faults = search rules;
  blame = search rules;
  last = last_more _ _ (c.loop-done.done + c.min-len.result) c.in_ok-clear_piece.ensures.last (omega arith);
  created = search rules;
  told = changes_more c.args.file (zeroed c.args.place c.loop-done.done) _ (zeroed c.args.place (c.loop-done.done + c.min-len.result)) (zeroed_front c.args.place c.loop-done.done c.min-len.result 65536 (omega arith)) _ _ _ c.loop-done.invariant.told c.in_ok-clear_piece.ensures.told;
}
