use Rattle.fused_decoder.proofs.ReadingLaws.{part_small}
use Rattle.fused_decoder.proofs.state.Fused.part.Goals as goal

pub take_part-requires : goal.take_part-requires
take_part-requires c = part_small _ c.read_part-found.result c.read_part-found.ensures
