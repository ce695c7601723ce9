use Rattle.usebin_cli.proofs.CheckLemmas.{bytes_fit}
use Rattle.usebin_cli.proofs.check.counts_of.Goals as goal

pub byte_count-requires : goal.byte_count-requires
byte_count-requires c = rw c.as_slice-files.ensures (bytes_fit _ c.requires)
