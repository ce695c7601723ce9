use Rattle.std.proofs.Common.{◌∙◌, ◌+◌, ap, map, string_bytes}
use Rattle.std.proofs.lemmas.List.{length-map}
use Rattle.command_words.specs.Asked.{paired}
use Rattle.command_words.specs.CommandLine.Words.{Refused}
use Rattle.command_words.proofs.WordsLemmas.{asked_is, encode_asks, encode_lacks, encode_refused, header_name_of}
use Rattle.command_words.proofs.words.read_encode.Goals as goal

pub returns-in-Err-clause-words : goal.returns-in-Err-clause-words
returns-in-Err-clause-words c = encode_refused (map string_bytes c.args.words.now) _ c.has_key.result c.in-Err.number c.encode_keys-keys.ensures c.has_key.ensures c.in-Err.ensures

pub returns-in_default-value_in-clause-words : goal.returns-in_default-value_in-clause-words
returns-in_default-value_in-clause-words c =
    encode_lacks (map string_bytes c.args.words.now) _ c.has_key.result c.encode_keys-keys.ensures c.has_key.ensures c.in_default.ensures c.in_default-value_in.ensures
    ∙ ap (λ n. Refused (n + 2)) (length-map c.args.words.now string_bytes)

pub header_name-requires : goal.header_name-requires
header_name-requires c = header_name_of _ _ c.has_key.result c.in-Some.path.now c.encode_keys-keys.ensures c.has_key.ensures c.in_default.ensures c.in-Some.ensures

pub returns-clause-words : goal.returns-clause-words
returns-clause-words c =
    let words = map string_bytes c.args.words.now in
    encode_asks words _ c.has_key.result c.in-Some.path.now _ c.encode_keys-keys.ensures c.has_key.ensures c.in_default.ensures c.in-Some.ensures
    (asked_is c.in-Some.path.now c.header_name.result c.number_or.result c.number_or-2.result c.number_or-3.result (paired words) c.header_name.ensures c.number_or.ensures.value c.number_or-2.ensures.value c.number_or-3.ensures.value)
