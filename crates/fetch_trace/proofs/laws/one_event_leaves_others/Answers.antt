use Rattle.fetch_trace.proofs.Apart.{one_event_leaves_others}
use Rattle.fetch_trace.proofs.laws.one_event_leaves_others.Goals as goal

pub returns : goal.returns
returns c setting events event = one_event_leaves_others setting events event
