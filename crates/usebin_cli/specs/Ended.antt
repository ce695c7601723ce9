-- What is noted, written and said on the way to an end of a command.
use Rattle.std.specs.Prelude.{◌≡◌, ◌⊎◌, Bool, true, false, ℕ, List, [], Option, Some, None}
use Rattle.run_ends.specs.Line.{line_of}
use Rattle.run_ends.specs.declared.end.End.{End}
use Rattle.run_ends.specs.declared.end.End.TheVariants.{OutputFault}
use Rattle.usebin_cli.specs.Writing.{Written, Got, IsUntouched, Told, WroteFront, WroteWhole}
use Rattle.usebin_cli.specs.declared.ended.Ended.{Ended}

-- what was noted on the sink for errors, if anything was, and whether it was written whole
abbrev pub Noted : Bool → Option (List ℕ) → Written → Type 0
Noted is_told None e = (is_told ≡ true) × IsUntouched e
Noted is_told (Some note) e = Told is_told note e

-- a note as a text
abbrev pub note_text : Option (List ℕ) → List ℕ
note_text None = []
note_text (Some note) = note

-- a text was noted, and then one was written, whole or only in front of a failed write
pub record WritesBehind (note text : List ℕ) (whole : End) (w e : Written) (ended : Ended) : Type 0 where
  pub noted : Told ended.is_told note e
  pub wrote : (WroteWhole text w × (ended.end ≡ whole)) ⊎ (WroteFront text w × (ended.end ≡ OutputFault))

-- the line of an end was said, or a front of it where a write failed, or nothing where one had failed before
abbrev pub SaysLineIf : Bool → End → Written → Type 0
SaysLineIf true end e = Got (line_of end) e
SaysLineIf false end e = IsUntouched e

abbrev pub SaysLine : Ended → Written → Type 0
SaysLine ended e = SaysLineIf ended.is_told ended.end e
