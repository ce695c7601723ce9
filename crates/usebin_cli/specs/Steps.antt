-- What the functions on the way to an end of a command say.
use Rattle.std.specs.Prelude.{◌≡◌, ◌⊎◌, ℕ, List, true, Option, Some, None, Result, Ok, Err}
use Rattle.command_words.specs.CommandLine.{BodyAsked, PartAsked, Words}
use Rattle.command_words.specs.CommandLine.Words.{Asks}
use Rattle.command_words.specs.CommandLine.Command.{Decode, Encode, Index as AsksIndex, Post}
use Rattle.command_words.specs.Index.{IndexAsked}
use Rattle.command_words.specs.Post.{PostAsked}
use Rattle.input_files.specs.Reading.{Reading, IsFaultless, Fits, most_text}
use Rattle.nzb_writer.specs.Canonical.{IsValidIndex, nzb_text}
use Rattle.overview_index.specs.declared.session.Indexed.{Indexed}
use Rattle.run_ends.specs.declared.end.End.{End}
use Rattle.run_ends.specs.declared.end.End.TheVariants.{Done, NoMemory, Refused}
use Rattle.yenc_body.specs.declared.part.Part.{Part}
use Rattle.usebin_cli.specs.Decode.{Decodes, IsDecoded}
use Rattle.usebin_cli.specs.Encode.{Encodes, IsAskedPart}
use Rattle.usebin_cli.specs.Ended.{Noted, WritesBehind}
use Rattle.usebin_cli.specs.Index.{HasRun, Indexes, skipped_line}
use Rattle.usebin_cli.specs.Linked.{Linked, OpenedNone}
use Rattle.usebin_cli.specs.Post.{IsPlanned, IsPosted, IsWholeEnd, Posts, posted_text}
use Rattle.usebin_cli.specs.PostText.{part_lines}
use Rattle.usebin_cli.specs.Run.{HasEnded}
use Rattle.usebin_cli.specs.Writing.{Written, IsUntouched, Told}
use Rattle.usebin_cli.specs.declared.encode.AskedPart.{AskedPart}
use Rattle.usebin_cli.specs.declared.ended.Ended.{Ended}
use Rattle.usebin_cli.specs.declared.post.PlannedFile.{PlannedFile}
use Rattle.usebin_cli.specs.declared.post.PostedFile.{PostedFile}

-- a command ended so, and what it noted was told so
pub record Runs (words : Words) (says : Written → Option (List ℕ) → End → Type 0) (r : Reading) (w e : Written) (ended : Ended) : Type 0 where
  pub note : Option (List ℕ)
  pub noted : Noted ended.is_told note e
  pub common : HasEnded words r w note ended.end
  pub so : says w note ended.end

-- a command ends so before anything is written or noted
abbrev pub Stops : Words → (Written → Option (List ℕ) → End → Type 0) → Reading → End → Type 0
Stops words so r end = (w : Written) → IsUntouched w → HasEnded words r w None end × so w None end

-- the asked part of a file was read, or `encode` ends so
abbrev pub ReadsPart : PartAsked → Option (List (List ℕ × List ℕ)) → Reading → Result AskedPart End → Type 0
ReadsPart asked files r (Ok part) = IsAskedPart asked files r part
ReadsPart asked files r (Err end) = Stops (Asks (Encode asked)) (λ w note end. Encodes asked files r w end) r end

-- the part was read whose body was saved, or `decode` ends so
abbrev pub FindsPart : BodyAsked → Option (List (List ℕ × List ℕ)) → Reading → Result Part End → Type 0
FindsPart asked files r (Ok p) = IsFaultless r × Fits most_text r.current × IsDecoded asked files r.current p
FindsPart asked files r (Err end) = Stops (Asks (Decode asked)) (Decodes asked files r) r end

-- ---- post

-- the file was planned, or `post` ends so before a link was opened
abbrev pub PlansFile : PostAsked → Option (List (List ℕ × List ℕ)) → Reading → Option (List ℕ) → Result PlannedFile End → Type 0
PlansFile asked files r content (Ok file) = IsFaultless r × (r.blame_now ≡ r.blame_before) × IsPlanned asked files r.current content file
PlansFile asked files r content (Err end) = (moment : ℕ) (t : Linked) → OpenedNone t → Stops (Asks (Post asked)) (Posts asked files moment r t) r end

-- the file was posted, or `post` ends so without a list of outcomes
abbrev pub PostsFile : PostAsked → Option (List (List ℕ × List ℕ)) → Reading → Linked → Result PostedFile End → Type 0
PostsFile asked files r t (Ok posted) = IsPosted asked files r t posted
PostsFile asked files r t (Err end) = (moment : ℕ) → Stops (Asks (Post asked)) (Posts asked files moment r t) r end

-- what was posted was noted, and its index written, or not for want of memory or since POST was refused
abbrev pub TellsPosted : PostedFile → ℕ → Written → Written → Ended → Type 0
TellsPosted posted moment w e ended =
    ((ended.end ≡ NoMemory) × (ended.is_told ≡ true) × IsUntouched w × IsUntouched e)
    ⊎ (((code : ℕ) × (posted.refused ≡ Some code) × (ended.end ≡ Refused code) × IsUntouched w × Told ended.is_told (part_lines 1 posted.sent) e)
    ⊎ ((whole : End) × (posted.refused ≡ None) × IsWholeEnd posted.sent whole × WritesBehind (part_lines 1 posted.sent) (posted_text posted moment) whole w e ended))

-- ---- index

-- the newsgroup was indexed, or `index` ends so
abbrev pub IndexesGroup : IndexAsked → Option (List (List ℕ × List ℕ)) → Reading → Linked → Result Indexed End → Type 0
IndexesGroup asked files r t (Ok indexed) = HasRun asked files r t (Ok indexed) × IsValidIndex indexed.index
IndexesGroup asked files r t (Err end) = Stops (Asks (AsksIndex asked)) (Indexes asked files r t) r end

-- how many lines were skipped was noted, and the index written, or not for want of memory
abbrev pub TellsIndexed : Indexed → Written → Written → Ended → Type 0
TellsIndexed indexed w e ended =
    ((ended.end ≡ NoMemory) × (ended.is_told ≡ true) × IsUntouched w × IsUntouched e) ⊎ WritesBehind (skipped_line indexed.skipped) (nzb_text indexed.index) Done w e ended
