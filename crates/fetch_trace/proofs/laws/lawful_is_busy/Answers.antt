use Rattle.fetch_trace.proofs.LawfulLaws.{lawful_is_busy}
use Rattle.fetch_trace.proofs.laws.lawful_is_busy.Goals as goal

pub returns : goal.returns
returns c setting s events lawful = lawful_is_busy setting s events lawful
