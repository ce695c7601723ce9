-- The line of each end on standard error.
use Rattle.std.specs.Prelude.{ℕ, List, [], ◌∷◌, ◌++◌, codes}
use Rattle.std.specs.Fmt.{decimal}
use Rattle.limits.specs.declared.TheConstants.{MOST_FILE_BYTES, MOST_FILES, MOST_LOGIN_BYTES, MOST_SEGMENTS, MOST_TEXT_BYTES}
use Rattle.nntp_lines.specs.declared.why.Why.{Why}
use Rattle.nzb_index.specs.declared.error.NzbReason.{NzbReason}
use Rattle.yenc_body.specs.declared.fault.Fault.{Fault}
use Rattle.run_ends.specs.declared.end.End.{End}
use Rattle.run_ends.specs.declared.end.End.TheVariants.{Done, NotAllPosted, WordsRefused, InputFault, OutputFault, NoLink, Short, Limit as Passes, NoBody, NoReply as IsNoReply, NoNzb, LoginBroken, NoMemory, Refused, Over}
use Rattle.run_ends.specs.declared.end.Limit.{Limit}
use Rattle.run_ends.specs.declared.end.Limit.TheVariants.{File, Segments, Part, Text, Files, Login}
use Rattle.run_ends.specs.declared.end.ReplyFault.{ReplyFault}
use Rattle.run_ends.specs.declared.end.ReplyFault.TheVariants.{NoReply, Code, Unfinished, Rest}
use Rattle.run_ends.specs.Printed.{nzb_reason_text, reason_text, why_text, with_value}

-- a limit, with the most that it allows, or how many parts there are
abbrev pub limit_text : Limit → List ℕ
limit_text File = with_value (codes "limit file") (decimal MOST_FILE_BYTES)
limit_text Segments = with_value (codes "limit segments") (decimal MOST_SEGMENTS)
limit_text (Part total) = with_value (codes "limit part") (decimal total)
limit_text Text = with_value (codes "limit text") (decimal MOST_TEXT_BYTES)
limit_text Files = with_value (codes "limit files") (decimal MOST_FILES)
limit_text Login = with_value (codes "limit login") (decimal MOST_LOGIN_BYTES)

-- the place of a fault of lines, and what is wrong there
abbrev pub fault_text : Fault → List ℕ
fault_text f = with_value (codes "line") (decimal f.line) ++ codes " " ++ with_value (codes "column") (decimal f.column) ++ codes " " ++ reason_text f.reason

-- what is wrong with a reply
abbrev pub reply_text : ReplyFault → List ℕ
reply_text NoReply = codes "reply NoReply"
reply_text (Code code) = with_value (codes "reply Code") (decimal code)
reply_text Unfinished = codes "reply Unfinished"
reply_text Rest = codes "reply Rest"

-- a place in a text, and why the text is refused there
abbrev pub place_text : ℕ → NzbReason → List ℕ
place_text place reason = with_value (codes "place") (decimal place) ++ codes " " ++ nzb_reason_text reason

-- why a link is over
abbrev pub over_text : Why → List ℕ
over_text reason = codes "link over " ++ why_text reason

-- a line that says this
abbrev pub says : List ℕ → List ℕ
says text = codes "usebin: " ++ text ++ 10 ∷ []

-- the line of an end; what was done has none
abbrev pub line_of : End → List ℕ
line_of Done = []
line_of NotAllPosted = []
line_of (WordsRefused number) = says (with_value (codes "words") (decimal number))
line_of InputFault = says (codes "input fault")
line_of OutputFault = says (codes "output fault")
line_of NoLink = says (codes "no link")
line_of (Short place) = says (with_value (codes "short") (decimal place))
line_of (Passes limit) = says (limit_text limit)
line_of (NoBody fault) = says (fault_text fault)
line_of (IsNoReply fault) = says (reply_text fault)
line_of (NoNzb place reason) = says (place_text place reason)
line_of (LoginBroken number) = says (with_value (codes "login") (decimal number))
line_of NoMemory = says (codes "no memory")
line_of (Refused code) = says (with_value (codes "refused") (decimal code))
line_of (Over reason) = says (over_text reason)
