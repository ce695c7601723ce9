use Rattle.std.proofs.Common.{◌∙◌, ◌+◌, ap, map, string_bytes, sym, Err}
use Rattle.std.proofs.lemmas.List.{length-map}
use Rattle.command_words.specs.Asked.{paired}
use Rattle.command_words.proofs.IndexLemmas.{group_is, index_allowed, index_asks, index_is, index_lacks, index_refused}
use Rattle.command_words.proofs.index.read_index.Goals as goal

pub returns-in-Err-clause-words : goal.returns-in-Err-clause-words
returns-in-Err-clause-words c = index_refused (map string_bytes c.args.words.now) _ c.in-Err.number c.index_keys-keys.ensures c.in-Err.ensures

pub returns-then-not-has_all-clause-words : goal.returns-then-not-has_all-clause-words
returns-then-not-has_all-clause-words c =
    index_lacks (map string_bytes c.args.words.now) _ c.index_keys-keys.ensures c.in_default.ensures (sym c.if-not-has_all.ensures)
    ∙ ap (λ n. Err (n + 2)) (length-map c.args.words.now string_bytes)

pub group_of-requires : goal.group_of-requires
group_of-requires c =
    group_is (map string_bytes c.args.words.now) _ c.bytes_of-2.result.now c.index_keys-keys.ensures c.in_default.ensures (sym c.if-not-has_all.ensures) c.bytes_of-2.ensures

pub returns-clause-words : goal.returns-clause-words
returns-clause-words c =
    let words = map string_bytes c.args.words.now in
    index_asks words _ _ c.index_keys-keys.ensures c.in_default.ensures (sym c.if-not-has_all.ensures)
    (index_is c.bytes_of.result.now c.group_of.result c.number_or.result c.number_or-2.result c.number_or-3.result _ (paired words)
    c.bytes_of.ensures (c.group_of.ensures ∙ c.bytes_of-2.ensures) c.number_or.ensures.value c.number_or-2.ensures.value c.number_or-3.ensures.value c.value_in.ensures)

pub returns-clause-allowed : goal.returns-clause-allowed
returns-clause-allowed c =
    let words = map string_bytes c.args.words.now in
    index_allowed words _ _ c.index_keys-keys.ensures c.in_default.ensures (sym c.if-not-has_all.ensures)
    (index_is c.bytes_of.result.now c.group_of.result c.number_or.result c.number_or-2.result c.number_or-3.result _ (paired words)
    c.bytes_of.ensures (c.group_of.ensures ∙ c.bytes_of-2.ensures) c.number_or.ensures.value c.number_or-2.ensures.value c.number_or-3.ensures.value c.value_in.ensures)
    (record {
      first_least = c.number_or.ensures.least;
      last_most = c.number_or-2.ensures.most;
      patience_least = c.number_or-3.ensures.least;
      patience_most = c.number_or-3.ensures.most;
    })
