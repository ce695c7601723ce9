use Rattle.std.proofs.Common.{◌≡◌, cond, eqb, false}
use Rattle.std.specs.Option.{option_map}
use Rattle.range_assembler.specs.Entries.{kept_size}
use Rattle.io_traits.specs.Store.{WhereTold, resized, with_bytes}
use Rattle.fetch_files.specs.Calls.{PutsFirst}
use Rattle.fetch_files.specs.Filled.{final_size}
use Rattle.fetch_files.proofs.ends.set_lengths.Given as goal

abbrev pub invariant-loop-file : goal.invariant-loop-file
invariant-loop-file g l = record {
  faults : g.T.Store.faults l.store ≡ g.T.Store.faults l.initial.store;
  blame : g.T.Store.blame l.store ≡ g.T.Store.blame l.initial.store;
  last : g.T.Store.last_failed l.store ≡ cond (eqb l.file 0) (g.T.Store.last_failed l.initial.store) false;
  created : g.T.Store.created l.store ≡ g.T.Store.created l.initial.store;
  told : WhereTold (g.T.Store.told l.initial.store) (g.T.Store.told l.store) (λ old new. PutsFirst l.file (λ file. option_map (with_bytes (resized (final_size (kept_size file l.ranges)))) (old file)) old new);
}
