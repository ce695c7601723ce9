-- The line of an end as the code reads it, word by word. What `read_line` promises is said by `line_of` alone; these say
-- what each function below it answers.
use Rattle.std.specs.Prelude.{ℕ, ◌+◌, Bool, ◌||◌, ◌==◌, if◌then◌else◌, List, take, drop, Option, Some, None, codes, bytes_eq}
use Rattle.std.specs.List.{position_or_len}
use Rattle.std.specs.Option.{option_map, option_and_then}
use Rattle.numbers.specs.Numbers.{decimal_of, hex32_of, within}
use Rattle.nntp_lines.specs.declared.why.Why.{Why}
use Rattle.nntp_lines.specs.declared.why.Why.TheVariants as why
use Rattle.nzb_index.specs.declared.error.NzbReason.{NzbReason}
use Rattle.nzb_index.specs.declared.error.NzbReason.TheVariants as nzb
use Rattle.yenc_lines.specs.declared.key.Key.{Key}
use Rattle.yenc_lines.specs.declared.key.Key.TheVariants as key
use Rattle.yenc_lines.specs.declared.key.KeyFault.{KeyFault}
use Rattle.yenc_lines.specs.declared.key.KeyFault.TheVariants as key_fault
use Rattle.yenc_body.specs.declared.fault.Fault.{Fault}
use Rattle.yenc_body.specs.declared.fault.Reason.{Reason}
use Rattle.yenc_body.specs.declared.fault.Reason.TheVariants as reason
use Rattle.run_ends.specs.declared.end.End.{End}
use Rattle.run_ends.specs.declared.end.End.TheVariants as end
use Rattle.run_ends.specs.declared.end.Limit.{Limit}
use Rattle.run_ends.specs.declared.end.Limit.TheVariants as limit
use Rattle.run_ends.specs.declared.end.ReplyFault.{ReplyFault}
use Rattle.run_ends.specs.declared.end.ReplyFault.TheVariants as reply

-- ---- words

-- a byte behind a word
abbrev pub is_word_end : ℕ → Bool
is_word_end byte = (byte == 32) || (byte == 10)

-- the first word of a text
unfoldable pub first_word : List ℕ → List ℕ
first_word text = take (position_or_len is_word_end text) text

-- what stands behind the byte that ends the first word
unfoldable pub behind_word : List ℕ → List ℕ
behind_word text = drop (position_or_len is_word_end text + 1) text

-- the number that the first word is, up to `most`
abbrev pub number_told : ℕ → List ℕ → Option ℕ
number_told most text = within 0 most (decimal_of (first_word text))

-- numbers of 64, 32 and 16 bits
abbrev pub long_told : List ℕ → Option ℕ
long_told text = number_told 18446744073709551615 text

abbrev pub short_told : List ℕ → Option ℕ
short_told text = number_told 4294967295 text

abbrev pub code_told : List ℕ → Option ℕ
code_told text = number_told 65535 text

-- the CRC that the first word is
abbrev pub crc_told : List ℕ → Option ℕ
crc_told text = hex32_of (first_word text)

-- what is made of two values, where both are there
abbrev pub both : {A B C : Type 0} → (A → B → C) → Option A → Option B → Option C
both make None second = None
both make (Some first) None = None
both make (Some first) (Some second) = Some (make first second)

-- ---- reasons

-- a key
unfoldable pub key_told : List ℕ → Option Key
key_told text = let word = first_word text in
    if bytes_eq word (codes "part") then Some key.Part
    else if bytes_eq word (codes "total") then Some key.Total
    else if bytes_eq word (codes "line") then Some key.Line
    else if bytes_eq word (codes "size") then Some key.Size
    else if bytes_eq word (codes "name") then Some key.Name
    else if bytes_eq word (codes "begin") then Some key.Begin
    else if bytes_eq word (codes "end") then Some key.End
    else if bytes_eq word (codes "pcrc32") then Some key.Pcrc32
    else if bytes_eq word (codes "crc32") then Some key.Crc32
    else None

-- what is wrong with a keyword line
unfoldable pub key_fault_told : List ℕ → Option KeyFault
key_fault_told text = let word = first_word text in let rest = behind_word text in
    if bytes_eq word (codes "NotIt") then Some key_fault.NotIt
    else if bytes_eq word (codes "NoItem") then option_map key_fault.NoItem (key_told rest)
    else if bytes_eq word (codes "BadNumber") then option_map key_fault.BadNumber (key_told rest)
    else if bytes_eq word (codes "Repeated") then option_map key_fault.Repeated (key_told rest)
    else if bytes_eq word (codes "BadName") then Some key_fault.BadName
    else None

-- a reason with its values
unfoldable pub reason_told : List ℕ → Option Reason
reason_told text = let word = first_word text in let rest = behind_word text in
    if bytes_eq word (codes "NoBegin") then Some reason.NoBegin
    else if bytes_eq word (codes "BadBegin") then option_map reason.BadBegin (key_fault_told rest)
    else if bytes_eq word (codes "PartRange") then Some reason.PartRange
    else if bytes_eq word (codes "NoPart") then Some reason.NoPart
    else if bytes_eq word (codes "BadPart") then option_map reason.BadPart (key_fault_told rest)
    else if bytes_eq word (codes "Stray") then Some reason.Stray
    else if bytes_eq word (codes "LoneEscape") then Some reason.LoneEscape
    else if bytes_eq word (codes "TooMany") then Some reason.TooMany
    else if bytes_eq word (codes "Keyword") then Some reason.Keyword
    else if bytes_eq word (codes "KeywordTooLong") then Some reason.KeywordTooLong
    else if bytes_eq word (codes "NoEnd") then Some reason.NoEnd
    else if bytes_eq word (codes "BadEnd") then option_map reason.BadEnd (key_fault_told rest)
    else if bytes_eq word (codes "EndPart") then both reason.EndPart (short_told rest) (short_told (behind_word rest))
    else if bytes_eq word (codes "EndSize") then both reason.EndSize (long_told rest) (long_told (behind_word rest))
    else if bytes_eq word (codes "TooFew") then both reason.TooFew (long_told rest) (long_told (behind_word rest))
    else if bytes_eq word (codes "CrcDiffers") then both reason.CrcDiffers (crc_told rest) (crc_told (behind_word rest))
    else None

-- why a text is no NZB
unfoldable pub nzb_reason_told : List ℕ → Option NzbReason
nzb_reason_told text = let word = first_word text in
    if bytes_eq word (codes "Ended") then Some nzb.Ended
    else if bytes_eq word (codes "Unexpected") then Some nzb.Unexpected
    else if bytes_eq word (codes "BadReference") then Some nzb.BadReference
    else if bytes_eq word (codes "WrongTag") then Some nzb.WrongTag
    else if bytes_eq word (codes "DoubleAttribute") then Some nzb.DoubleAttribute
    else if bytes_eq word (codes "NoNumber") then Some nzb.NoNumber
    else if bytes_eq word (codes "BadNumber") then Some nzb.BadNumber
    else if bytes_eq word (codes "BadId") then Some nzb.BadId
    else if bytes_eq word (codes "Subset") then Some nzb.Subset
    else None

-- why a link is over
unfoldable pub why_told : List ℕ → Option Why
why_told text = let word = first_word text in let rest = behind_word text in
    if bytes_eq word (codes "ended") then Some why.Ended
    else if bytes_eq word (codes "quiet") then Some why.Quiet
    else if bytes_eq word (codes "greeting") then option_map why.Greeting (code_told rest)
    else if bytes_eq word (codes "login") then option_map why.Login (code_told rest)
    else if bytes_eq word (codes "odd") then option_map why.Odd (code_told rest)
    else if bytes_eq word (codes "noreply") then Some why.NoReply
    else if bytes_eq word (codes "toolong") then Some why.TooLong
    else if bytes_eq word (codes "unasked") then Some why.Unasked
    else None

-- ---- ends

-- a limit
unfoldable pub limit_told : List ℕ → Option Limit
limit_told text = let word = first_word text in let rest = behind_word text in
    if bytes_eq word (codes "file") then Some limit.File
    else if bytes_eq word (codes "segments") then Some limit.Segments
    else if bytes_eq word (codes "part") then option_map limit.Part (short_told rest)
    else if bytes_eq word (codes "text") then Some limit.Text
    else if bytes_eq word (codes "files") then Some limit.Files
    else if bytes_eq word (codes "login") then Some limit.Login
    else None

-- a fault at this line
abbrev pub at_line : ℕ → ℕ → Reason → Fault
at_line line column why = record { line = line; column = column; reason = why }

-- the place of a fault of lines, and what is wrong there
unfoldable pub fault_told : List ℕ → Option Fault
fault_told text = let rest = behind_word (behind_word text) in
    option_and_then (λ line. both (at_line line) (long_told rest) (reason_told (behind_word rest))) (long_told text)

-- what is wrong with a reply
unfoldable pub reply_told : List ℕ → Option ReplyFault
reply_told text = let word = first_word text in let rest = behind_word text in
    if bytes_eq word (codes "NoReply") then Some reply.NoReply
    else if bytes_eq word (codes "Code") then option_map reply.Code (code_told rest)
    else if bytes_eq word (codes "Unfinished") then Some reply.Unfinished
    else if bytes_eq word (codes "Rest") then Some reply.Rest
    else None

-- a place in a text, and why the text is refused there
unfoldable pub place_told : List ℕ → Option End
place_told text = both end.NoNzb (long_told text) (nzb_reason_told (behind_word text))

-- what was lacking
unfoldable pub lack_told : List ℕ → Option End
lack_told text = let word = first_word text in
    if bytes_eq word (codes "link") then Some end.NoLink
    else if bytes_eq word (codes "memory") then Some end.NoMemory
    else None

-- the end that the words behind the first one tell
unfoldable pub end_told : List ℕ → Option End
end_told text = let word = first_word text in let rest = behind_word text in
    if bytes_eq word (codes "words") then option_map end.WordsRefused (long_told rest)
    else if bytes_eq word (codes "input") then Some end.InputFault
    else if bytes_eq word (codes "output") then Some end.OutputFault
    else if bytes_eq word (codes "no") then lack_told rest
    else if bytes_eq word (codes "short") then option_map end.Short (long_told rest)
    else if bytes_eq word (codes "limit") then option_map end.Limit (limit_told rest)
    else if bytes_eq word (codes "line") then option_map end.NoBody (fault_told rest)
    else if bytes_eq word (codes "reply") then option_map end.NoReply (reply_told rest)
    else if bytes_eq word (codes "place") then place_told rest
    else if bytes_eq word (codes "login") then option_map end.LoginBroken (long_told rest)
    else if bytes_eq word (codes "refused") then option_map end.Refused (code_told rest)
    else if bytes_eq word (codes "link") then option_map end.Over (why_told (behind_word rest))
    else None

-- the end that a line tells, where it is the line of one
unfoldable pub line_told : List ℕ → Option End
line_told line = if bytes_eq (first_word line) (codes "usebin:") then end_told (behind_word line) else None
