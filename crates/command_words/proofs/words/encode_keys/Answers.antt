use Rattle.command_words.proofs.WordsLemmas.{same_table}
use Rattle.command_words.proofs.words.encode_keys.Goals as goal

pub returns : goal.returns
returns c = same_table c.args.is_named c.path_rule.result _ c.path_rule.ensures
