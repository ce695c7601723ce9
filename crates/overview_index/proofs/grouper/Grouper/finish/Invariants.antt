use Rattle.std.proofs.Common.{◌≡◌, ◌++◌, map}
use Rattle.indexmap.specs.IndexMap.{values}
use Rattle.overview_index.specs.Draft.{entry_of}
use Rattle.overview_index.proofs.grouper.Grouper.finish.Given as goal

abbrev pub invariant-loop-draft : goal.invariant-loop-draft
invariant-loop-draft l = l.entries ++ map (entry_of l.name) l.draft-iterator ≡ map (entry_of l.name) (values l.fn.self.files)
