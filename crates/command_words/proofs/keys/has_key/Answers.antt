use Rattle.std.proofs.Common.{◌∙◌, ap, map, string_bytes, sym}
use Rattle.command_words.specs.Keys.{stands_as_key}
use Rattle.command_words.proofs.KeysLemmas.{drop_next, next, stands, stands_later}
use Rattle.command_words.proofs.keys.has_key.Goals as goal

pub returns-then-eq : goal.returns-then-eq
returns-then-eq c =
    sym (stands c.args.key.now _ _ _ (next string_bytes c.args.words.now c.loop-at.at c.index-words-at.result c.as_str.result.now c.loop-at-test.true c.index-words-at.is c.as_str.ensures.value) c.if-eq.ensures)
    ∙ c.loop-at.invariant

pub loop-at-preserved : goal.loop-at-preserved
loop-at-preserved c =
    ap (stands_as_key c.args.key.now) (sym (drop_next (map string_bytes c.args.words.now) c.loop-at.at))
    ∙ sym (stands_later c.args.key.now _ _ _ (next string_bytes c.args.words.now c.loop-at.at c.index-words-at.result c.as_str.result.now c.loop-at-test.true c.index-words-at.is c.as_str.ensures.value) c.if-eq.ensures)
    ∙ c.loop-at.invariant
