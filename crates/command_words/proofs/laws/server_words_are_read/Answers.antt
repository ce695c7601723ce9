use Rattle.command_words.proofs.ServerWordLaws.{server_words_are_read}
use Rattle.command_words.proofs.laws.server_words_are_read.Goals as goal

pub returns : goal.returns
returns c = server_words_are_read
