use Rattle.std.proofs.Common.{arith, rules, ◌+◌}
use Rattle.fetch_files.proofs.Rows.{created_more, last_more, made_is, others_more, puts_more}
use Rattle.fetch_files.proofs.ends.create_files.Goals as goal

pub loop-file-preserved : goal.loop-file-preserved
loop-file-preserved g c = record {
  faults = search rules;
  blame = search rules;
  last = last_more _ _ (c.loop-file.file + 1) c.in_ok-create_file.ensures.last (omega arith);
  created = created_more _ _ c.loop-file.file c.in_ok-create_file.ensures.created c.loop-file.invariant.created;
  others = others_more _ _ _ c.loop-file.file c.in_ok-create_file.ensures.created c.loop-file.invariant.others;
  told = puts_more c.loop-file.file _ _ (made_is _ c.loop-file.file c.index-files-file.result (omega arith) c.index-files-file.is) _ _ _ c.loop-file.invariant.told c.in_ok-create_file.ensures.told;
}
