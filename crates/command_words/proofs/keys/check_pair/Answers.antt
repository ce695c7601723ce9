use Rattle.std.proofs.Common.{◌≡◌, ◌≢◌, ◌<◌, ◌∙◌, ◌+◌, true, false, ap, sym, arith, length, string_bytes, map}
use Rattle.std.specs.Prelude.{nat_le}
use Rattle.std.proofs.lemmas.List.{length-map, take-map}
use Rattle.command_words.specs.Asked.{key_model, most_times, paired, takes_by}
use Rattle.command_words.specs.Keys.{values_of}
use Rattle.command_words.proofs.KeysLemmas.{bad_pair, good_pair, has_no_room, has_room, next, next_two, refused_pair, repeated, unknown, word_at}
use Rattle.command_words.proofs.keys.check_pair.Goals as goal

pub returns-in_default : goal.returns-in_default
returns-in_default c =
    refused_pair _ _ _ _ _ _ (next string_bytes c.args.words.now c.args.at c.index-words-at.result c.as_str-word.result.now c.requires c.index-words-at.is c.as_str-word.ensures.value)
    (unknown (map key_model c.args.keys.now) _ c.as_str-word.result.now c.in_default.ensures)

pub returns-then-times_in-most_times : goal.returns-then-times_in-most_times
returns-then-times_in-most_times c =
    let front = take-map string_bytes c.args.at c.args.words.now in
    let times = ap (λ l. length (values_of c.as_str-word.result.now (paired l))) front ∙ sym c.times_in.ensures in
    refused_pair _ _ _ _ _ _ (next string_bytes c.args.words.now c.args.at c.index-words-at.result c.as_str-word.result.now c.requires c.index-words-at.is c.as_str-word.ensures.value)
    (repeated (map key_model c.args.keys.now) _ c.as_str-word.result.now (key_model c.in-Some.key) c.in-Some.ensures
    (has_no_room _ c.times_in.result _ c.most_times.result times c.most_times.ensures.times (omega (arith, c.if-times_in-most_times.true))))

pub returns-then-not-takes : goal.returns-then-not-takes
returns-then-not-takes c =
    let front = take-map string_bytes c.args.at c.args.words.now in
    let times = ap (λ l. length (values_of c.as_str-word.result.now (paired l))) front ∙ sym c.times_in.ensures in
    let room = has_room _ c.times_in.result _ c.most_times.result times c.most_times.ensures.times (omega (arith, c.if-times_in-most_times.false)) in
    let bad = c.if-not-takes.ensures ∙ ap (λ l. takes_by c.in-Some.key.rule (values_of c.as_str-word.result.now (paired l)) c.as_str.result.now) (sym front) in
    let ne : c.args.at + 1 ≢ length c.args.words.now = c.if-at-words.false in
    let lt : c.args.at + 1 < length c.args.words.now = omega (arith, c.requires) in
    bad_pair (map key_model c.args.keys.now) _ _ (key_model c.in-Some.key) _ _ _ _ c.as_str.result.now
    (next_two string_bytes c.args.words.now c.args.at c.index-words-at.result c.as_str-word.result.now lt c.index-words-at.is c.as_str-word.ensures.value)
    (word_at string_bytes c.args.words.now (c.args.at + 1) c.index-words-at-2.result c.as_str.result.now lt c.index-words-at-2.is c.as_str.ensures.value) c.in-Some.ensures room bad

pub returns : goal.returns
returns c =
    let front = take-map string_bytes c.args.at c.args.words.now in
    let times = ap (λ l. length (values_of c.as_str-word.result.now (paired l))) front ∙ sym c.times_in.ensures in
    let room = has_room _ c.times_in.result _ c.most_times.result times c.most_times.ensures.times (omega (arith, c.if-times_in-most_times.false)) in
    let good = c.if-not-takes.ensures ∙ ap (λ l. takes_by c.in-Some.key.rule (values_of c.as_str-word.result.now (paired l)) c.as_str.result.now) (sym front) in
    let ne : c.args.at + 1 ≢ length c.args.words.now = c.if-at-words.false in
    let lt : c.args.at + 1 < length c.args.words.now = omega (arith, c.requires) in (
      omega (arith, lt, length-map c.args.words.now string_bytes),
      good_pair (map key_model c.args.keys.now) _ _ (key_model c.in-Some.key) _ _ _ _ _ c.as_str.result.now
          (next_two string_bytes c.args.words.now c.args.at c.index-words-at.result c.as_str-word.result.now lt c.index-words-at.is c.as_str-word.ensures.value)
          (word_at string_bytes c.args.words.now c.args.at c.index-words-at.result c.as_str-word.result.now c.requires c.index-words-at.is c.as_str-word.ensures.value)
          (word_at string_bytes c.args.words.now (c.args.at + 1) c.index-words-at-2.result c.as_str.result.now lt c.index-words-at-2.is c.as_str.ensures.value) c.in-Some.ensures room good,
    )
