-- The ends that have a line.
use Rattle.std.specs.Prelude.{◌^◌, ◌<◌}
use Rattle.nntp_lines.specs.declared.why.Why.{Why}
use Rattle.nntp_lines.specs.declared.why.Why.TheVariants as why
use Rattle.yenc_body.specs.declared.fault.Reason.{Reason}
use Rattle.yenc_body.specs.declared.fault.Reason.TheVariants as reason
use Rattle.run_ends.specs.declared.end.End.{End}
use Rattle.run_ends.specs.declared.end.End.TheVariants as end
use Rattle.run_ends.specs.declared.end.Limit.TheVariants as limit
use Rattle.run_ends.specs.declared.end.ReplyFault.TheVariants as reply

-- a reason whose numbers are ones that it can hold
abbrev pub IsReason : Reason → Type 0
IsReason (reason.EndPart there here) = (there < 2 ^ 32) × (here < 2 ^ 32)
IsReason (reason.EndSize there here) = (there < 2 ^ 64) × (here < 2 ^ 64)
IsReason (reason.TooFew count wanted) = (count < 2 ^ 64) × (wanted < 2 ^ 64)
IsReason (reason.CrcDiffers said crc) = (said < 2 ^ 32) × (crc < 2 ^ 32)
IsReason other = Unit {0}

-- why a link is over, with a code that it can hold
abbrev pub IsWhy : Why → Type 0
IsWhy (why.Greeting code) = code < 2 ^ 16
IsWhy (why.Login code) = code < 2 ^ 16
IsWhy (why.Odd code) = code < 2 ^ 16
IsWhy other = Unit {0}

-- Any end but the two that have no line. The numbers are those that its type can hold, so that each such end of the
-- program is one.
abbrev pub HasLine : End → Type 0
HasLine end.Done = ⊥
HasLine end.NotAllPosted = ⊥
HasLine (end.WordsRefused number) = number < 2 ^ 64
HasLine (end.Short place) = place < 2 ^ 64
HasLine (end.Limit (limit.Part total)) = total < 2 ^ 32
HasLine (end.NoBody fault) = (fault.line < 2 ^ 64) × (fault.column < 2 ^ 64) × IsReason fault.reason
HasLine (end.NoReply (reply.Code code)) = code < 2 ^ 16
HasLine (end.NoNzb place reason) = place < 2 ^ 64
HasLine (end.LoginBroken number) = number < 2 ^ 64
HasLine (end.Refused code) = code < 2 ^ 16
HasLine (end.Over reason) = IsWhy reason
HasLine other = Unit {0}
