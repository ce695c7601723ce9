-- The ending of an article's block, and the verdict of the answer.
use Rattle.std.specs.Prelude.{◌≡◌, ℕ, Option, Some, None}
use Rattle.crc_field.specs.Crc.{crc32}
use Rattle.yenc_body.specs.declared.part.Part.{Part}
use Rattle.link_dialog.specs.Replies.{Reply}
use Rattle.range_assembler.specs.declared.assembler.Clash.{Clash}
use Rattle.range_assembler.specs.Claims.{other_size}
use Rattle.fused_decoder.specs.declared.event.Ending.{Ending}
use Rattle.fused_decoder.specs.declared.event.Ending.TheVariants as ending
use Rattle.fused_decoder.specs.declared.state.Mode.{Mode}
use Rattle.fused_decoder.specs.declared.state.Mode.TheVariants.{Unasked, On, Away}
use Rattle.fused_decoder.specs.Steps.{IsEnding}
use Rattle.fetch_trace.specs.Verdicts.{Range, Verdict, range_in, verdict_of, sized}
use Rattle.fetch_trace.specs.Verdicts.Verdict.{Refused, Clashes}

-- what stood against the range of an article, by what was answered to it
abbrev pub Stood : Mode → Option Clash → Option Range → Type 0
Stood Unasked against range = against ≡ None
Stood On against range = against ≡ None
Stood Away against range = (clash : Clash) × (fixed : Range) × (against ≡ Some clash) × (range ≡ Some fixed)

-- The verdict that an ending is, where this stood against the article and the file's accepted parts have this size, or none are: a part of
-- another size isn't accepted, and one that was turned away clashes.
abbrev pub IsVerdict : Ending → Option Clash → Option ℕ → Verdict → Type 0
IsVerdict (ending.Accepted crc whole) against kept verdict = (part : Part) × (crc ≡ crc32 part.content) × (verdict ≡ sized part whole (other_size part.begin.size kept))
IsVerdict (ending.Refused fault) against kept verdict = verdict ≡ Refused fault
IsVerdict ending.TurnedAway against kept verdict = (clash : Clash) × (against ≡ Some clash) × (verdict ≡ Clashes clash)

-- how the block of an article ends is the verdict of the answer
abbrev pub EndingIsVerdict : Type 0
EndingIsVerdict = (reply : Reply) (mode : Mode) (against : Option Clash) (kept : Option ℕ) (ended : Ending) →
    reply.code ≡ 222 → IsEnding reply.lines mode ended → Stood mode against (range_in reply.lines) → IsVerdict ended against kept (verdict_of against kept reply)
