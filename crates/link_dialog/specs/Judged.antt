-- What the judgement of a whole status line makes of its last byte.
use Rattle.std.specs.Prelude.{◌≡◌, ℕ, Result, Ok, Err}
use Rattle.nntp_lines.specs.declared.why.Why.{Why}
use Rattle.link_dialog.specs.declared.reader.Step.{Step}
use Rattle.link_dialog.specs.declared.reader.Step.TheVariants.{More, Line, Over}

abbrev pub IsJudgedBy : Result ℕ Why → Step → Type 0
IsJudgedBy judgement More = ⊥
IsJudgedBy judgement (Line code) = judgement ≡ Ok code
IsJudgedBy judgement (Over reason) = judgement ≡ Err reason
