-- What a run of any command says of the words, the input, the links and the outputs, by how it ended.
use Rattle.std.specs.Prelude.{◌≡◌, ◌⊎◌, ◌++◌, ℕ, List, Option, Some, None, ⊤}
use Rattle.io_traits.specs.Causes.{Rose}
use Rattle.command_words.specs.CommandLine.{Words}
use Rattle.command_words.specs.CommandLine.Words.{Asks, Refused as AreRefused}
use Rattle.command_words.specs.CommandLine.Command.{Check, Decode, Encode, Index as AsksIndex, Post}
use Rattle.yenc_body.specs.declared.part.Part.{Part as BodyPart}
use Rattle.nzb_writer.specs.declared.index.Index.{Index}
use Rattle.nntp_lines.specs.declared.login.Login.{Login}
use Rattle.input_files.specs.Reading.{Reading, IsFaultless, IsShortAt, Fits, Exceeds, most_text}
use Rattle.run_ends.specs.Line.{line_of}
use Rattle.run_ends.specs.declared.end.End.{End}
use Rattle.run_ends.specs.declared.end.End.TheVariants.{Done, NotAllPosted, WordsRefused, InputFault, OutputFault, NoLink, Short, Limit as Passes, Refused, Over}
use Rattle.run_ends.specs.declared.end.Limit.{Limit}
use Rattle.run_ends.specs.declared.end.Limit.TheVariants.{Text}
use Rattle.usebin_cli.specs.Check.{Checks, HasIndex}
use Rattle.usebin_cli.specs.Decode.{Decodes, IsDecoded}
use Rattle.usebin_cli.specs.Encode.{Encodes, HasPart, ExceedsLimit}
use Rattle.usebin_cli.specs.Ended.{note_text}
use Rattle.usebin_cli.specs.Index.{Indexes}
use Rattle.usebin_cli.specs.Linked.{Linked}
use Rattle.usebin_cli.specs.Login.{IsLoginAt}
use Rattle.usebin_cli.specs.Post.{FitsAt, FitsPost, IsTooLarge, Posts}
use Rattle.usebin_cli.specs.Writing.{Written, Got, IsUntouched}

-- ---- what the words ask for

-- a command that makes use of links
abbrev pub UsesLinks : Words → Type 0
UsesLinks (Asks (Post asked)) = ⊤
UsesLinks (Asks (AsksIndex asked)) = ⊤
UsesLinks other = ⊥

-- nothing that is read from the input
abbrev pub ReadsNothing : Words → Type 0
ReadsNothing (AreRefused number) = ⊤
ReadsNothing (Asks (AsksIndex asked)) = asked.login ≡ None
ReadsNothing other = ⊥

-- a command that may leave out a part
abbrev pub HasParts : Words → Type 0
HasParts (Asks (Post asked)) = ⊤
HasParts other = ⊥

-- the current file has this length, or there is none, and what the words ask of it is within its limits
abbrev pub FitsWords : Words → Option ℕ → Type 0
FitsWords (Asks (Encode asked)) current = HasPart asked current
FitsWords (Asks (Decode asked)) current = Fits most_text current
FitsWords (Asks (Check path)) current = Fits most_text current
FitsWords (Asks (Post asked)) current = FitsPost asked current
FitsWords other current = ⊤

-- the current file has this length, and what the words ask of it goes past this limit
abbrev pub IsPast : Words → Option ℕ → Limit → Type 0
IsPast (Asks (Encode asked)) current limit = ExceedsLimit asked current limit
IsPast (Asks (Decode asked)) current limit = Exceeds most_text current × (limit ≡ Text)
IsPast (Asks (Check path)) current limit = Exceeds most_text current × (limit ≡ Text)
IsPast (Asks (Post asked)) current limit = IsTooLarge asked current limit
IsPast other current limit = ⊥

-- the same of some limit
abbrev pub IsOverLimit : Words → Option ℕ → Type 0
IsOverLimit words current = (limit : Limit) × IsPast words current limit

-- what the input tells at the path in the words is in the grammar of what they ask for, and within the limits: a body that is
-- to be decoded, an NZB that is to be checked, or a file that is to be posted and its login file
abbrev pub IsInGrammar : Words → Option (List (List ℕ × List ℕ)) → Option ℕ → Type 0
IsInGrammar (Asks (Decode asked)) (Some files) current = (p : BodyPart) × IsDecoded asked (Some files) current p × Fits most_text current
IsInGrammar (Asks (Post asked)) (Some files) current = (login : Option Login) × IsLoginAt asked.server asked.login (Some files) login × FitsAt asked files
IsInGrammar (Asks (Check path)) (Some files) current = (index : Index) × HasIndex path (Some files) current index
IsInGrammar other files current = ⊥

-- ---- what runs that end so have in common, whatever the words ask for

-- which words there may be
abbrev pub MayEnd : End → Words → Type 0
MayEnd (WordsRefused number) words = words ≡ AreRefused number
MayEnd NotAllPosted words = HasParts words
MayEnd NoLink words = UsesLinks words
MayEnd (Refused code) words = UsesLinks words
MayEnd (Over reason) words = UsesLinks words
MayEnd other words = ⊤

-- which faults of the input there were
abbrev pub HasRead : End → Reading → Type 0
HasRead InputFault r = Rose r.faults_before r.faults_now × (r.shorts_now ≡ r.shorts_before)
HasRead (Short place) r = IsShortAt place r
HasRead other r = IsFaultless r

-- which faults of the output there were, and where nothing was written
abbrev pub HasWritten : End → Written → Type 0
HasWritten Done w = w.faults_now ≡ w.faults_before
HasWritten NotAllPosted w = w.faults_now ≡ w.faults_before
HasWritten OutputFault w = Rose w.faults_before w.faults_now
HasWritten other w = IsUntouched w

-- where nothing was noted on the sink for errors
abbrev pub HasNoted : End → Option (List ℕ) → Type 0
HasNoted Done told = ⊤
HasNoted NotAllPosted told = ⊤
HasNoted OutputFault told = ⊤
HasNoted (Refused code) told = ⊤
HasNoted other told = told ≡ None

-- that the current file was within the limits, where none is told
abbrev pub HasKept : End → Words → Option ℕ → Type 0
HasKept (Passes limit) words current = ⊤
HasKept other words current = FitsWords words current

pub record HasEnded (words : Words) (r : Reading) (w : Written) (note : Option (List ℕ)) (end : End) : Type 0 where
  pub may : MayEnd end words
  pub read : HasRead end r
  pub kept : HasKept end words r.current
  pub wrote : HasWritten end w
  pub noted : HasNoted end note

-- ---- a run

-- what an end says of a run for these words, beside that
abbrev pub EndsSo : Words → Option (List (List ℕ × List ℕ)) → ℕ → Reading → Linked → Written → Option (List ℕ) → End → Type 0
EndsSo (AreRefused number) files moment r t w told end = end ≡ WordsRefused number
EndsSo (Asks (Encode asked)) files moment r t w told end = Encodes asked files r w end × (told ≡ None)
EndsSo (Asks (Decode asked)) files moment r t w told end = Decodes asked files r w told end
EndsSo (Asks (Check path)) files moment r t w told end = Checks path files r w end × (told ≡ None)
EndsSo (Asks (Post asked)) files moment r t w told end = Posts asked files moment r t w told end
EndsSo (Asks (AsksIndex asked)) files moment r t w told end = Indexes asked files r t w told end

-- A run for these words ended so. The sink for errors has got what was noted, and the line of the end behind it, or a front of
-- that where a write to it failed.
pub record Ran (words : Words) (files : Option (List (List ℕ × List ℕ))) (moment : ℕ) (r : Reading) (t : Linked) (w e : Written) (end : End) : Type 0 where
  pub note : Option (List ℕ)
  pub common : HasEnded words r w note end
  pub so : EndsSo words files moment r t w note end
  pub said : Got (note_text note ++ line_of end) e

-- the statuses of all commands, and those of a command that makes use of links, of which 1 is that of parts alone
abbrev pub IsStatusOf : Words → ℕ → Type 0
IsStatusOf words status =
    (status ≡ 0) ⊎ ((status ≡ 2) ⊎ ((status ≡ 3) ⊎ ((status ≡ 4) ⊎ ((status ≡ 6) ⊎ ((status ≡ 7) ⊎ (UsesLinks words × ((HasParts words × (status ≡ 1)) ⊎ ((status ≡ 5) ⊎ ((status ≡ 8) ⊎ (status ≡ 9))))))))))
