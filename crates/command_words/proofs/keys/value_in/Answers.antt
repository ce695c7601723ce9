use Rattle.std.proofs.Common.{◌∙◌, ◌+◌, ap, sym, arith, string_bytes, Some}
use Rattle.std.proofs.lemmas.List.{length-map}
use Rattle.command_words.proofs.KeysLemmas.{found, next_two, no_value, passed, word_at}
use Rattle.command_words.proofs.keys.value_in.Goals as goal

pub returns-then-eq : goal.returns-then-eq
returns-then-eq c =
    ap (λ t. Some t) (sym (word_at string_bytes c.args.words.now (c.loop-at.at + 1) c.index-words-at-then-eq.result c.as_str-then-eq.result.now (omega (arith, c.loop-at-test.true)) c.index-words-at-then-eq.is c.as_str-then-eq.ensures.value))
    ∙ sym (found c.args.key.now _ _ _ _ (next_two string_bytes c.args.words.now c.loop-at.at c.index-words-at.result c.as_str.result.now c.loop-at-test.true c.index-words-at.is c.as_str.ensures.value) c.if-eq.ensures)
    ∙ c.loop-at.invariant.same

pub loop-at-preserved : goal.loop-at-preserved
loop-at-preserved c = record {
  inside = omega arith;
  same =
      sym (passed c.args.key.now _ _ _ _ (next_two string_bytes c.args.words.now c.loop-at.at c.index-words-at.result c.as_str.result.now c.loop-at-test.true c.index-words-at.is c.as_str.ensures.value) c.if-eq.ensures)
      ∙ c.loop-at.invariant.same;
}

pub returns : goal.returns
returns c = sym (no_value c.args.key.now _ c.loop-at.at (omega (arith, length-map c.args.words.now string_bytes))) ∙ c.loop-at.invariant.same
