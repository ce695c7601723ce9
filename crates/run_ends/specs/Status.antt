-- The exit status of each end.
use Rattle.std.specs.Prelude.{ℕ}
use Rattle.run_ends.specs.declared.end.End.{End}
use Rattle.run_ends.specs.declared.end.End.TheVariants.{Done, NotAllPosted, WordsRefused, InputFault, OutputFault, NoLink, Short, Limit, NoBody, NoReply, NoNzb, LoginBroken, NoMemory, Refused, Over}

abbrev pub status_of : End → ℕ
status_of Done = 0
status_of NotAllPosted = 1
status_of (WordsRefused number) = 2
status_of InputFault = 3
status_of OutputFault = 4
status_of NoLink = 5
status_of (Short place) = 6
status_of (Limit limit) = 6
status_of (NoBody fault) = 6
status_of (NoReply fault) = 6
status_of (NoNzb place reason) = 6
status_of (LoginBroken number) = 6
status_of NoMemory = 7
status_of (Refused code) = 8
status_of (Over why) = 9
