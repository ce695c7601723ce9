use Rattle.std.proofs.Common.{◌∙◌, ◌+◌, ap, map, string_bytes, sym, Err}
use Rattle.std.proofs.lemmas.List.{length-map}
use Rattle.command_words.specs.Asked.{paired}
use Rattle.command_words.proofs.FetchLemmas.{fetch_allowed, fetch_asks, fetch_is, fetch_lacks, fetch_refused, has_few_servers}
use Rattle.command_words.proofs.fetch.read_fetch.Goals as goal

pub returns-in-Err-clause-words : goal.returns-in-Err-clause-words
returns-in-Err-clause-words c = fetch_refused (map string_bytes c.args.words.now) _ c.in-Err.number c.fetch_keys-keys.ensures c.in-Err.ensures

pub returns-then-not-has_all-clause-words : goal.returns-then-not-has_all-clause-words
returns-then-not-has_all-clause-words c =
    fetch_lacks (map string_bytes c.args.words.now) _ c.fetch_keys-keys.ensures c.in_default.ensures (sym c.if-not-has_all.ensures)
    ∙ ap (λ n. Err (n + 2)) (length-map c.args.words.now string_bytes)

pub servers_in-requires : goal.servers_in-requires
servers_in-requires c = has_few_servers (map string_bytes c.args.words.now) _ c.fetch_keys-keys.ensures c.in_default.ensures

pub returns-clause-words : goal.returns-clause-words
returns-clause-words c =
    let words = map string_bytes c.args.words.now in
    fetch_asks words _ _ c.fetch_keys-keys.ensures c.in_default.ensures (sym c.if-not-has_all.ensures)
    (fetch_is c.text_of.result.now c.servers_in.result c.number_or.result c.number_or-2.result _ (paired words)
    c.text_of.ensures c.servers_in.ensures c.number_or.ensures.value c.number_or-2.ensures.value c.value_in.ensures)

pub returns-clause-allowed : goal.returns-clause-allowed
returns-clause-allowed c =
    let words = map string_bytes c.args.words.now in
    fetch_allowed words _ _ c.fetch_keys-keys.ensures c.in_default.ensures (sym c.if-not-has_all.ensures)
    (fetch_is c.text_of.result.now c.servers_in.result c.number_or.result c.number_or-2.result _ (paired words)
    c.text_of.ensures c.servers_in.ensures c.number_or.ensures.value c.number_or-2.ensures.value c.value_in.ensures)
    (record {
      depth_least = c.number_or.ensures.least;
      depth_most = c.number_or.ensures.most;
      patience_least = c.number_or-2.ensures.least;
      patience_most = c.number_or-2.ensures.most;
    })
