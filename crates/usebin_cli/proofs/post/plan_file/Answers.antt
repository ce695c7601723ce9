use Rattle.command_words.specs.Post.{post_found}
use Rattle.usebin_cli.proofs.PostSteps.{no_login}
use Rattle.usebin_cli.proofs.post.plan_file.Goals as goal

pub returns-in-Err : goal.returns-in-Err
returns-in-Err g c = no_login (post_found c.args.asked.now) _ _ c.in-Err.end c.in-Err.ensures.login
