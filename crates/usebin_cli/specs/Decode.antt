-- How `decode` ends.
use Rattle.std.specs.Prelude.{◌≡◌, ℕ, List, Option, Some, Result, Ok, Err, ⊤}
use Rattle.yenc_body.specs.Body.{IsBody}
use Rattle.yenc_body.specs.FirstFault.{IsFirstFault}
use Rattle.lists.specs.Text.{text_lines}
use Rattle.yenc_body.specs.declared.part.Part.{Part}
use Rattle.yenc_body.specs.declared.fault.Fault.{Fault}
use Rattle.command_words.specs.CommandLine.{BodyAsked}
use Rattle.usebin_cli.specs.Printed.{range_line}
use Rattle.usebin_cli.specs.Reply.{HasReplyFault, IsBodyReply}
use Rattle.input_files.specs.Reading.{Reading, HasFailed, IsBelow, Exceeds, IsReadOrOpen, IsSaved, most_text}
use Rattle.usebin_cli.specs.Writing.{Written, WroteWhole, WroteFront}
use Rattle.run_ends.specs.declared.end.End.{End}
use Rattle.run_ends.specs.declared.end.End.TheVariants.{Done, InputFault, OutputFault, Short, Limit as Passes, NoBody, NoReply, NoMemory}
use Rattle.run_ends.specs.declared.end.Limit.TheVariants.{Text}
use Rattle.run_ends.specs.declared.end.ReplyFault.{ReplyFault}
use Rattle.command_words.specs.declared.keys.Form.{Form}
use Rattle.command_words.specs.declared.keys.Form.TheVariants.{File, Wire}

-- the lines of a body as it was saved: those of a file, or those in a reply off the wire
abbrev pub IsSavedAs : Form → List ℕ → List (List ℕ) → Type 0
IsSavedAs File text lines = lines ≡ text_lines text
IsSavedAs Wire text lines = IsBodyReply text lines

-- a text has the lines of the body of this part
abbrev pub HasBody : Form → List ℕ → Part → Type 0
HasBody form text p = (lines : List (List ℕ)) × IsSavedAs form text lines × IsBody lines p

-- a text has lines that are no body, and have this first fault
abbrev pub HasNoBody : Form → List ℕ → Fault → Type 0
HasNoBody form text f = (lines : List (List ℕ)) × IsSavedAs form text lines × IsFirstFault lines f

-- a text should be a reply, and has this fault
abbrev pub HasNoReply : Form → List ℕ → ReplyFault → Type 0
HasNoReply form text f = (form ≡ Wire) × HasReplyFault text f

-- the text at the path has the body of this part
abbrev pub IsDecoded : BodyAsked → Option (List (List ℕ × List ℕ)) → Option ℕ → Part → Type 0
IsDecoded asked files current p = (text : List ℕ) × IsSaved asked.path files current text × HasBody asked.form text p

-- the text at the path has no body, and this first fault
abbrev pub IsNoBody : BodyAsked → Option (List (List ℕ × List ℕ)) → Option ℕ → Fault → Type 0
IsNoBody asked files current f = (text : List ℕ) × IsSaved asked.path files current text × HasNoBody asked.form text f

-- the text at the path is no reply with a body, and has this fault
abbrev pub IsNoReply : BodyAsked → Option (List (List ℕ × List ℕ)) → Option ℕ → ReplyFault → Type 0
IsNoReply asked files current f = (text : List ℕ) × IsSaved asked.path files current text × HasNoReply asked.form text f

-- a text was read to its part, or not for this
abbrev pub ReadsText : Form → List ℕ → Result Part End → Type 0
ReadsText form text (Ok p) = HasBody form text p
ReadsText form text (Err NoMemory) = ⊤
ReadsText form text (Err (NoReply f)) = HasNoReply form text f
ReadsText form text (Err (NoBody f)) = HasNoBody form text f
ReadsText form text (Err other) = ⊥

-- the bytes of such a part were written, behind its range, which was noted
abbrev pub WroteDecoded : (List ℕ → Written → Type 0) → BodyAsked → Option (List (List ℕ × List ℕ)) → Reading → Written → Option (List ℕ) → Type 0
WroteDecoded how asked files r w told = (p : Part) × IsDecoded asked files r.current p × how p.content w × (told ≡ Some (range_line p))

-- what each end of `decode` says of the input, of the output and of what was noted, beside what it has in common with others
abbrev pub Decodes : BodyAsked → Option (List (List ℕ × List ℕ)) → Reading → Written → Option (List ℕ) → End → Type 0
Decodes asked files r w told Done = WroteDecoded WroteWhole asked files r w told
Decodes asked files r w told OutputFault = WroteDecoded WroteFront asked files r w told
Decodes asked files r w told InputFault = HasFailed (IsReadOrOpen asked.path) r
Decodes asked files r w told (Short place) = IsBelow r.current place
Decodes asked files r w told (Passes Text) = Exceeds most_text r.current
Decodes asked files r w told (NoBody f) = IsNoBody asked files r.current f
Decodes asked files r w told (NoReply f) = IsNoReply asked files r.current f
Decodes asked files r w told NoMemory = ⊤
Decodes asked files r w told other = ⊥
