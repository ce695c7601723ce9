use Rattle.fetch_trace.proofs.LawfulLaws.{nothing_follows_over}
use Rattle.fetch_trace.proofs.laws.nothing_follows_over.Goals as goal

pub returns : goal.returns
returns c setting s events n i l place here over lawful = nothing_follows_over setting s events n i l place here over lawful
