use Rattle.std.proofs.Common.{None, refl}
use Rattle.command_words.specs.Asked.{asked_of, body_asked}
use Rattle.command_words.specs.CommandLine.Words.{Asks, Refused}
use Rattle.command_words.specs.CommandLine.Command.{Check, Decode, Encode, Index, Post}
use Rattle.command_words.specs.Index.{index_found}
use Rattle.command_words.specs.Post.{post_found}
use Rattle.usebin_cli.proofs.EndLaws.{same_words}
use Rattle.usebin_cli.proofs.top.run.Goals as goal

pub returns-in-Err-clause-runs : goal.returns-in-Err-clause-runs
returns-in-Err-clause-runs g c =
    same_words _ (Refused c.in-Err.number) _ _ _ _ _ _ _ c.in-Err.ensures.words
    (record {
      note = None;
      noted = (refl, record { faults = refl; told = refl });
      common = record { may = refl; read = record { faults = refl; shorts = refl }; kept = tt; wrote = record { faults = refl; told = refl }; noted = refl };
      so = refl;
    })

pub returns-in-Ok-Encode-clause-runs : goal.returns-in-Ok-Encode-clause-runs
returns-in-Ok-Encode-clause-runs g c =
    same_words _ (Asks (Encode (asked_of c.in-Ok-Encode.asked))) _ _ _ _ _ _ _ (rw c.in-Ok-Encode.field-0-is at c.in-Ok-Encode.ensures.words)
    (record { note = None; noted = (refl, record { faults = refl; told = refl }); common = c.encode.ensures.ended; so = (c.encode.ensures.so, refl) })

pub returns-in-Ok-Check-clause-runs : goal.returns-in-Ok-Check-clause-runs
returns-in-Ok-Check-clause-runs g c =
    same_words _ (Asks (Check c.in-Ok-Check.asked.path.now)) _ _ _ _ _ _ _ (rw c.in-Ok-Check.field-0-is at c.in-Ok-Check.ensures.words)
    (record { note = None; noted = (refl, record { faults = refl; told = refl }); common = c.check.ensures.ended; so = (c.check.ensures.so, refl) })

pub returns-in-Ok-Decode-clause-runs : goal.returns-in-Ok-Decode-clause-runs
returns-in-Ok-Decode-clause-runs g c = same_words _ (Asks (Decode (body_asked c.in-Ok-Decode.asked))) _ _ _ _ _ _ _ (rw c.in-Ok-Decode.field-0-is at c.in-Ok-Decode.ensures.words) c.decode.ensures

pub returns-in-Ok-Post-clause-runs : goal.returns-in-Ok-Post-clause-runs
returns-in-Ok-Post-clause-runs g c = same_words _ (Asks (Post (post_found c.in-Ok-Post.asked))) _ _ _ _ _ _ _ (rw c.in-Ok-Post.field-0-is at c.in-Ok-Post.ensures.words) c.post.ensures

pub returns-in-Ok-Index-clause-runs : goal.returns-in-Ok-Index-clause-runs
returns-in-Ok-Index-clause-runs g c = same_words _ (Asks (Index (index_found c.in-Ok-Index.asked))) _ _ _ _ _ _ _ (rw c.in-Ok-Index.field-0-is at c.in-Ok-Index.ensures.words) c.index.ensures.runs
