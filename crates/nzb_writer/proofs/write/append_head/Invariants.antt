use Rattle.std.proofs.Common.{◌≡◌, ◌++◌, take}
use Rattle.std.specs.List.{flat_map}
use Rattle.nzb_writer.specs.Canonical.{meta_text}
use Rattle.nzb_writer.proofs.write.append_head.Given as goal

abbrev pub invariant-loop-meta : goal.invariant-loop-meta
invariant-loop-meta l = l.out ≡ l.initial.out ++ flat_map meta_text (take l.meta-index l.metas)
