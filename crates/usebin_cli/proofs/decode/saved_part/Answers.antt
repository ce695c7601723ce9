use Rattle.command_words.specs.Asked.{body_asked}
use Rattle.usebin_cli.proofs.DecodeSteps.{finds_part}
use Rattle.usebin_cli.proofs.decode.saved_part.Goals as goal

pub returns : goal.returns
returns g c =
    finds_part (body_asked c.args.asked) _ _ c.in-Ok.text c.read_text.result c.in-Ok.ensures.ends.0 (rw c.in-Ok.ensures.ends.1 c.in-Ok.ensures.ends.2) (record { told = c.in-Ok.ensures.content; size = c.in-Ok.ensures.ends.1 })
    c.read_text.ensures
