-- A decoding, step by step.
use Rattle.std.proofs.Common.{ℕ, List, Option, Result, Ok, Err, refl}
use Rattle.command_words.specs.CommandLine.{BodyAsked}
use Rattle.command_words.specs.CommandLine.Words.{Asks}
use Rattle.command_words.specs.CommandLine.Command.{Decode}
use Rattle.command_words.specs.declared.keys.Form.TheVariants.{Wire}
use Rattle.input_files.specs.Reading.{Reading, Fits, IsFaultless, IsSaved, most_text}
use Rattle.run_ends.specs.declared.end.End.{End}
use Rattle.run_ends.specs.declared.end.End.TheVariants.{Done, NoBody, NoReply, NoMemory}
use Rattle.yenc_body.specs.declared.part.Part.{Part}
use Rattle.usebin_cli.specs.Decode.{Decodes, IsDecoded, ReadsText}
use Rattle.usebin_cli.specs.Ended.{WritesBehind}
use Rattle.usebin_cli.specs.Printed.{range_line}
use Rattle.usebin_cli.specs.Reply.{IsReplyError}
use Rattle.usebin_cli.specs.Steps.{FindsPart, Runs}
use Rattle.usebin_cli.specs.Writing.{Written}
use Rattle.usebin_cli.specs.declared.ended.Ended.{Ended}
use Rattle.usebin_cli.proofs.EndLaws.{wrote_behind}

-- a text that is no reply has no body
pub no_reply : (text : List ℕ) (end : End) → IsReplyError text end → ReadsText Wire text (Err end)
no_reply text NoMemory r = tt
no_reply text (NoReply f) r = (refl, r)
no_reply text other r = absurd r

-- the text was read whole
pub finds_part : (asked : BodyAsked) (files : Option (List (List ℕ × List ℕ))) (r : Reading) (text : List ℕ) (result : Result Part End) → IsFaultless r → Fits most_text r.current → IsSaved asked.path files r.current text →
    ReadsText asked.form text result → FindsPart asked files r result
finds_part asked files r text (Ok p) faultless fits saved read = (faultless, fits, (text, saved, read))
finds_part asked files r text (Err NoMemory) faultless fits saved read = λ w none. (record { may = tt; read = faultless; kept = fits; wrote = none; noted = refl }, tt)
finds_part asked files r text (Err (NoReply f)) faultless fits saved read = λ w none. (record { may = tt; read = faultless; kept = fits; wrote = none; noted = refl }, (text, saved, read))
finds_part asked files r text (Err (NoBody f)) faultless fits saved read = λ w none. (record { may = tt; read = faultless; kept = fits; wrote = none; noted = refl }, (text, saved, read))
finds_part asked files r text (Err other) faultless fits saved read = absurd read

-- its range was noted, and its bytes were written
pub decoded : (asked : BodyAsked) (files : Option (List (List ℕ × List ℕ))) (r : Reading) (w e : Written) (p : Part) (ended : Ended) → IsFaultless r → Fits most_text r.current → IsDecoded asked files r.current p →
    WritesBehind (range_line p) p.content Done w e ended → Runs (Asks (Decode asked)) (Decodes asked files r) r w e ended
decoded asked files r w e p ended faultless fits is x =
    wrote_behind (Asks (Decode asked)) (Decodes asked files r) r w e (range_line p) p.content Done ended x
    (λ wrote. (record { may = tt; read = faultless; kept = fits; wrote = wrote.faults; noted = tt }, (p, is, wrote, refl)))
    (λ wrote. (record { may = tt; read = faultless; kept = fits; wrote = wrote.faults; noted = tt }, (p, is, wrote, refl)))
