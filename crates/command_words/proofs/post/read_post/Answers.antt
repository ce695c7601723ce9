use Rattle.std.proofs.Common.{◌∙◌, ◌+◌, ap, map, string_bytes, sym, Err}
use Rattle.std.proofs.lemmas.List.{length-map}
use Rattle.command_words.specs.Asked.{paired}
use Rattle.command_words.proofs.PostLemmas.{post_allowed, post_asks, post_is, post_lacks, post_name, post_refused}
use Rattle.command_words.proofs.post.read_post.Goals as goal

pub returns-in-Err-clause-words : goal.returns-in-Err-clause-words
returns-in-Err-clause-words c = post_refused (map string_bytes c.args.words.now) _ c.has_key.result c.in-Err.number c.post_keys-keys.ensures c.has_key.ensures c.in-Err.ensures

pub returns-then-not-has_all-clause-words : goal.returns-then-not-has_all-clause-words
returns-then-not-has_all-clause-words c =
    post_lacks (map string_bytes c.args.words.now) _ c.has_key.result c.post_keys-keys.ensures c.has_key.ensures c.in_default.ensures (sym c.if-not-has_all.ensures)
    ∙ ap (λ n. Err (n + 2)) (length-map c.args.words.now string_bytes)

pub header_name-requires : goal.header_name-requires
header_name-requires c =
    post_name (map string_bytes c.args.words.now) _ c.has_key.result c.text_of-path.result.now c.post_keys-keys.ensures c.has_key.ensures c.in_default.ensures (sym c.if-not-has_all.ensures) c.text_of-path.ensures

pub returns-clause-words : goal.returns-clause-words
returns-clause-words c =
    let words = map string_bytes c.args.words.now in
    post_asks words _ c.has_key.result _ c.post_keys-keys.ensures c.has_key.ensures c.in_default.ensures (sym c.if-not-has_all.ensures)
    (post_is c.text_of-path.result.now c.bytes_of.result.now c.bytes_of-2.result.now c.bytes_of-3.result.now c.bytes_of-4.result.now c.bytes_of-5.result.now c.header_name.result c.bytes_of-6.result.now c.number_or.result c.number_or-2.result c.number_or-3.result _ (paired words)
    c.text_of-path.ensures c.bytes_of.ensures c.bytes_of-2.ensures c.bytes_of-3.ensures c.bytes_of-4.ensures c.bytes_of-5.ensures c.header_name.ensures c.bytes_of-6.ensures c.number_or.ensures.value c.number_or-2.ensures.value c.number_or-3.ensures.value c.value_in.ensures)

pub returns-clause-allowed : goal.returns-clause-allowed
returns-clause-allowed c =
    let words = map string_bytes c.args.words.now in
    post_allowed words _ c.has_key.result _ c.post_keys-keys.ensures c.has_key.ensures c.in_default.ensures (sym c.if-not-has_all.ensures)
    (post_is c.text_of-path.result.now c.bytes_of.result.now c.bytes_of-2.result.now c.bytes_of-3.result.now c.bytes_of-4.result.now c.bytes_of-5.result.now c.header_name.result c.bytes_of-6.result.now c.number_or.result c.number_or-2.result c.number_or-3.result _ (paired words)
    c.text_of-path.ensures c.bytes_of.ensures c.bytes_of-2.ensures c.bytes_of-3.ensures c.bytes_of-4.ensures c.bytes_of-5.ensures c.header_name.ensures c.bytes_of-6.ensures c.number_or.ensures.value c.number_or-2.ensures.value c.number_or-3.ensures.value c.value_in.ensures)
    (record {
      line_least = c.number_or.ensures.least;
      line_most = c.number_or.ensures.most;
      part_size_least = c.number_or-2.ensures.least;
      part_size_most = c.number_or-2.ensures.most;
      patience_least = c.number_or-3.ensures.least;
      patience_most = c.number_or-3.ensures.most;
    })
