use Rattle.fused_decoder.proofs.WholeLaws.{gives_whole, whole_read}
use Rattle.fused_decoder.proofs.laws.whole_is_read.Goals as goal

pub returns : goal.returns
returns c = λ lines p whole body. (λ gives. whole_read lines p whole gives, λ is. gives_whole lines p whole body is)
