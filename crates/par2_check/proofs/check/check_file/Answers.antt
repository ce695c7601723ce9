use Rattle.par2_check.proofs.CheckLaws.{checked_of, known_at_first}
use Rattle.par2_check.proofs.check.check_file.Goals as goal

pub returns-in-Ok-judge-clause-checked : goal.returns-in-Ok-judge-clause-checked
returns-in-Ok-judge-clause-checked g c =
    checked_of c.args.slice c.args.file.now c.read.new.self c.in-Ok-judge.checked (g.I.Input.content c.args.input.now) c.args.len c.requires.told
    (c.in-Ok.ensures.knows (known_at_first c.args.slice c.args.file.now c.new-checking.result (g.I.Input.content c.args.input.now) (c.new-checking.ensures.knows c.args.slice c.args.file.now)))
    c.in-Ok-judge.ensures
