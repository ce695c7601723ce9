use Rattle.std.proofs.Common.{refl}
use Rattle.command_words.specs.Index.{index_found}
use Rattle.usebin_cli.proofs.IndexSteps.{no_login}
use Rattle.usebin_cli.proofs.index.index_group.Goals as goal

pub returns-in-Err-clause-ends : goal.returns-in-Err-clause-ends
returns-in-Err-clause-ends g c = no_login (index_found c.args.asked.now) _ _ _ c.in-Err.end c.in-Err.ensures.login refl
