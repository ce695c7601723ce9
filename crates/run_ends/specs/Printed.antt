-- The words and values of the lines on standard error.
use Rattle.std.specs.Prelude.{ℕ, List, ◌++◌, codes}
use Rattle.std.specs.Fmt.{decimal}
use Rattle.crc_field.specs.Hex.{hex_digits}
use Rattle.nntp_lines.specs.declared.why.Why.{Why}
use Rattle.nntp_lines.specs.declared.why.Why.TheVariants as why
use Rattle.nzb_index.specs.declared.error.NzbReason.{NzbReason}
use Rattle.nzb_index.specs.declared.error.NzbReason.TheVariants.{Ended, Unexpected, BadReference, WrongTag, DoubleAttribute, NoNumber, BadNumber, BadId, Subset}
use Rattle.yenc_body.specs.declared.fault.Reason.{Reason}
use Rattle.yenc_body.specs.declared.fault.Reason.TheVariants.{NoBegin, BadBegin, PartRange, NoPart, BadPart, Stray, LoneEscape, TooMany, Keyword, KeywordTooLong, NoEnd, BadEnd, EndPart, EndSize, TooFew, CrcDiffers}
use Rattle.yenc_lines.specs.Keywords.{key_name}
use Rattle.yenc_lines.specs.declared.key.KeyFault.{KeyFault}
use Rattle.yenc_lines.specs.declared.key.KeyFault.TheVariants as key

-- a value behind a space
abbrev pub with_value : List ℕ → List ℕ → List ℕ
with_value name value = name ++ codes " " ++ value

-- two values, each behind a space
abbrev pub with_values : List ℕ → List ℕ → List ℕ → List ℕ
with_values name first second = name ++ codes " " ++ first ++ codes " " ++ second

-- what is wrong with a keyword line, with the key in lower case
abbrev pub key_fault_text : KeyFault → List ℕ
key_fault_text key.NotIt = codes "NotIt"
key_fault_text (key.NoItem k) = with_value (codes "NoItem") (key_name k)
key_fault_text (key.BadNumber k) = with_value (codes "BadNumber") (key_name k)
key_fault_text (key.Repeated k) = with_value (codes "Repeated") (key_name k)
key_fault_text key.BadName = codes "BadName"

-- a reason's name and its values: a CRC has eight hexadecimal digits, and other numbers are decimal
abbrev pub reason_text : Reason → List ℕ
reason_text NoBegin = codes "NoBegin"
reason_text (BadBegin fault) = with_value (codes "BadBegin") (key_fault_text fault)
reason_text PartRange = codes "PartRange"
reason_text NoPart = codes "NoPart"
reason_text (BadPart fault) = with_value (codes "BadPart") (key_fault_text fault)
reason_text Stray = codes "Stray"
reason_text LoneEscape = codes "LoneEscape"
reason_text TooMany = codes "TooMany"
reason_text Keyword = codes "Keyword"
reason_text KeywordTooLong = codes "KeywordTooLong"
reason_text NoEnd = codes "NoEnd"
reason_text (BadEnd fault) = with_value (codes "BadEnd") (key_fault_text fault)
reason_text (EndPart there here) = with_values (codes "EndPart") (decimal there) (decimal here)
reason_text (EndSize there here) = with_values (codes "EndSize") (decimal there) (decimal here)
reason_text (TooFew count wanted) = with_values (codes "TooFew") (decimal count) (decimal wanted)
reason_text (CrcDiffers said crc) = with_values (codes "CrcDiffers") (hex_digits 8 said) (hex_digits 8 crc)

-- the name of a reason
abbrev pub nzb_reason_text : NzbReason → List ℕ
nzb_reason_text Ended = codes "Ended"
nzb_reason_text Unexpected = codes "Unexpected"
nzb_reason_text BadReference = codes "BadReference"
nzb_reason_text WrongTag = codes "WrongTag"
nzb_reason_text DoubleAttribute = codes "DoubleAttribute"
nzb_reason_text NoNumber = codes "NoNumber"
nzb_reason_text BadNumber = codes "BadNumber"
nzb_reason_text BadId = codes "BadId"
nzb_reason_text Subset = codes "Subset"

-- why a link is over
abbrev pub why_text : Why → List ℕ
why_text why.Ended = codes "ended"
why_text why.Quiet = codes "quiet"
why_text (why.Greeting code) = with_value (codes "greeting") (decimal code)
why_text (why.Login code) = with_value (codes "login") (decimal code)
why_text (why.Odd code) = with_value (codes "odd") (decimal code)
why_text why.NoReply = codes "noreply"
why_text why.TooLong = codes "toolong"
why_text why.Unasked = codes "unasked"
