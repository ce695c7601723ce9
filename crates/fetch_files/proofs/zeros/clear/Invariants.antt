use Rattle.std.proofs.Common.{◌≡◌, ◌≤◌, ◌-◌, cond, eqb, false}
use Rattle.std.specs.Option.{option_map}
use Rattle.io_traits.specs.Store.{Puts, WhereTold, with_bytes}
use Rattle.fetch_files.specs.Calls.{zeroed}
use Rattle.fetch_files.proofs.zeros.clear.Given as goal

abbrev pub invariant-loop-done : goal.invariant-loop-done
invariant-loop-done g l = record {
  upto : l.done ≤ l.count;
  faults : g.T.Store.faults l.store ≡ g.T.Store.faults l.initial.store;
  blame : g.T.Store.blame l.store ≡ g.T.Store.blame l.initial.store;
  last : g.T.Store.last_failed l.store ≡ cond (eqb l.done 0) (g.T.Store.last_failed l.initial.store) false;
  created : g.T.Store.created l.store ≡ g.T.Store.created l.initial.store;
  told : WhereTold (g.T.Store.told l.initial.store) (g.T.Store.told l.store) (λ old new. Puts l.file (option_map (with_bytes (zeroed l.place l.done)) (old l.file)) old new);
}

abbrev pub decreases-loop-done : goal.decreases-loop-done
decreases-loop-done g l = l.count - l.done
