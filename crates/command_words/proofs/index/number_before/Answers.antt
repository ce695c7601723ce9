use Rattle.std.proofs.Common.{◌∙◌, ◌+◌, ap, sym, arith, string_bytes}
use Rattle.std.proofs.lemmas.List.{length-map}
use Rattle.command_words.specs.Index.{article_of}
use Rattle.command_words.proofs.IndexLemmas.{no_number, number_found, number_later, number_stopped}
use Rattle.command_words.proofs.KeysLemmas.{next_two, word_at}
use Rattle.command_words.proofs.index.number_before.Goals as goal

pub returns-then-eq : goal.returns-then-eq
returns-then-eq c =
    c.article_in.ensures
    ∙ ap article_of (sym (word_at string_bytes c.args.words.now (c.loop-at.at + 1) c.index-words-at-then-eq.result c.as_str.result.now (omega (arith, c.loop-at-test.true)) c.index-words-at-then-eq.is c.as_str.ensures.value))
    ∙ sym (number_found c.args.key.now c.args.other.now _ _ _ _ (next_two string_bytes c.args.words.now c.loop-at.at c.index-words-at.result c.as_str-word.result.now c.loop-at-test.true c.index-words-at.is c.as_str-word.ensures.value) c.if-eq.ensures)
    ∙ c.loop-at.invariant.same

pub returns-then-eq-2 : goal.returns-then-eq-2
returns-then-eq-2 c =
    sym (number_stopped c.args.key.now c.args.other.now _ _ _ _ (next_two string_bytes c.args.words.now c.loop-at.at c.index-words-at.result c.as_str-word.result.now c.loop-at-test.true c.index-words-at.is c.as_str-word.ensures.value) c.if-eq.ensures c.if-eq-2.ensures)
    ∙ c.loop-at.invariant.same

pub loop-at-preserved : goal.loop-at-preserved
loop-at-preserved c = record {
  inside = omega arith;
  same =
      sym (number_later c.args.key.now c.args.other.now _ _ _ _ (next_two string_bytes c.args.words.now c.loop-at.at c.index-words-at.result c.as_str-word.result.now c.loop-at-test.true c.index-words-at.is c.as_str-word.ensures.value) c.if-eq.ensures c.if-eq-2.ensures)
      ∙ c.loop-at.invariant.same;
}

pub returns : goal.returns
returns c = sym (no_number c.args.key.now c.args.other.now _ c.loop-at.at (omega (arith, length-map c.args.words.now string_bytes))) ∙ c.loop-at.invariant.same
