use Rattle.fused_decoder.proofs.ReadingLaws.{begin_small}
use Rattle.fused_decoder.proofs.state.Fused.begin.Goals as goal

pub take_begin-requires : goal.take_begin-requires
take_begin-requires c = begin_small _ c.read_begin-found.result c.read_begin-found.ensures
