use Rattle.std.proofs.Common.{map, string_bytes}
use Rattle.command_words.proofs.IndexLemmas.{same_keys}
use Rattle.command_words.proofs.index.index_keys.Goals as goal

pub returns : goal.returns
returns c = same_keys (map string_bytes c.args.words.now) c.number_before.result c.number_before-2.result c.number_before.ensures c.number_before-2.ensures
