use Rattle.fetch_trace.proofs.LawfulLaws.{ends_once}
use Rattle.fetch_trace.proofs.laws.ends_once.Goals as goal

pub returns : goal.returns
returns c setting events after n lawful = ends_once setting events after n lawful
