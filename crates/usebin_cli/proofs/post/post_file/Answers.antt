use Rattle.std.proofs.Common.{refl}
use Rattle.usebin_cli.proofs.post.post_file.Goals as goal

pub returns-in-Err : goal.returns-in-Err
returns-in-Err g c = λ moment. c.in-Err.ensures moment _ refl
