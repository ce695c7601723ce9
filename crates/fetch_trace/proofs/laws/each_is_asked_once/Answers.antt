use Rattle.fetch_trace.proofs.AskedOnce.{each_is_asked_once}
use Rattle.fetch_trace.proofs.laws.each_is_asked_once.Goals as goal

pub returns : goal.returns
returns c setting events i segment l few here = each_is_asked_once setting events i segment l few here
