use Rattle.std.proofs.Common.{arith, rules, ◌+◌}
use Rattle.range_assembler.specs.Entries.{kept_size}
use Rattle.io_traits.specs.Store.{resized}
use Rattle.fetch_files.specs.Filled.{final_size}
use Rattle.fetch_files.proofs.Rows.{firsts_more, last_more}
use Rattle.fetch_files.proofs.ends.set_lengths.Goals as goal

pub loop-file-preserved : goal.loop-file-preserved
loop-file-preserved g c = record {
  faults = search rules;
  blame = search rules;
  last = last_more _ _ (c.loop-file.file + 1) c.in_ok-set_length.ensures.last (omega arith);
  created = search rules;
  told = firsts_more c.loop-file.file (λ file. resized (final_size (kept_size file c.args.ranges.now))) _ _ _ c.loop-file.invariant.told c.in_ok-set_length.ensures.told;
}
