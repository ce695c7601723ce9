use Rattle.fetch_trace.proofs.Turns.{turns_are_computed}
use Rattle.fetch_trace.proofs.laws.turns_are_computed.Goals as goal

pub returns : goal.returns
returns c setting s events = turns_are_computed setting s events
