use Rattle.std.proofs.Common.{◌∙◌, ap, string_bytes}
use Rattle.command_words.specs.CommandLine.{asks_to_index, asks_to_post}
use Rattle.command_words.proofs.WordsLemmas.{words_encode, words_index, words_post}
use Rattle.command_words.proofs.words.read_words.Goals as goal

pub returns-in-Ok-clause-words : goal.returns-in-Ok-clause-words
returns-in-Ok-clause-words c =
    words_encode string_bytes c.args.words.now c.command-item.result c.as_str.result.now c.in-len1-up.len_at_least c.command-item.is c.as_str.ensures.value c.in-encode.is ∙ c.in-Ok.ensures.words

pub returns-in-Err-clause-words : goal.returns-in-Err-clause-words
returns-in-Err-clause-words c =
    words_encode string_bytes c.args.words.now c.command-item.result c.as_str.result.now c.in-len1-up.len_at_least c.command-item.is c.as_str.ensures.value c.in-encode.is ∙ c.in-Err.ensures.words

pub returns-in-Ok-read_post-clause-words : goal.returns-in-Ok-read_post-clause-words
returns-in-Ok-read_post-clause-words c =
    words_post string_bytes c.args.words.now c.command-item.result c.as_str.result.now c.in-len1-up.len_at_least c.command-item.is c.as_str.ensures.value c.in-post.is ∙ ap asks_to_post c.in-Ok-read_post.ensures.words

pub returns-in-Err-read_post-clause-words : goal.returns-in-Err-read_post-clause-words
returns-in-Err-read_post-clause-words c =
    words_post string_bytes c.args.words.now c.command-item.result c.as_str.result.now c.in-len1-up.len_at_least c.command-item.is c.as_str.ensures.value c.in-post.is ∙ ap asks_to_post c.in-Err-read_post.ensures.words

pub returns-in-Ok-read_index-clause-words : goal.returns-in-Ok-read_index-clause-words
returns-in-Ok-read_index-clause-words c =
    words_index string_bytes c.args.words.now c.command-item.result c.as_str.result.now c.in-len1-up.len_at_least c.command-item.is c.as_str.ensures.value c.in-index.is ∙ ap asks_to_index c.in-Ok-read_index.ensures.words

pub returns-in-Err-read_index-clause-words : goal.returns-in-Err-read_index-clause-words
returns-in-Err-read_index-clause-words c =
    words_index string_bytes c.args.words.now c.command-item.result c.as_str.result.now c.in-len1-up.len_at_least c.command-item.is c.as_str.ensures.value c.in-index.is ∙ ap asks_to_index c.in-Err-read_index.ensures.words
