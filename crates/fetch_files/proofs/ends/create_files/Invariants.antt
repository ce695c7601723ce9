use Rattle.std.proofs.Common.{◌≡◌, cond, eqb, false, Some}
use Rattle.io_traits.specs.Store.{WhereTold}
use Rattle.fetch_files.specs.Calls.{AreCreated, CreatesNoneFrom, PutsFirst, empty_file}
use Rattle.fetch_files.specs.Names.{name_at}
use Rattle.fetch_files.proofs.ends.create_files.Given as goal

abbrev pub invariant-loop-file : goal.invariant-loop-file
invariant-loop-file g l = record {
  faults : g.T.Store.faults l.store ≡ g.T.Store.faults l.initial.store;
  blame : g.T.Store.blame l.store ≡ g.T.Store.blame l.initial.store;
  last : g.T.Store.last_failed l.store ≡ cond (eqb l.file 0) (g.T.Store.last_failed l.initial.store) false;
  created : AreCreated l.file (g.T.Store.created l.store);
  others : CreatesNoneFrom l.file (g.T.Store.created l.initial.store) (g.T.Store.created l.store);
  told : WhereTold (g.T.Store.told l.initial.store) (g.T.Store.told l.store) (PutsFirst l.file (λ file. Some (empty_file (name_at l.files file))));
}
