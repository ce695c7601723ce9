use Rattle.std.proofs.Common.{◌+◌, ap, arith, length, List, ℕ, map, string_bytes}
use Rattle.std.proofs.lemmas.List.{length-map}
use Rattle.command_words.proofs.KeysLemmas.{next_two, no_values, values_here, values_later}
use Rattle.command_words.proofs.keys.times_in.Goals as goal
use Rattle.command_words.proofs.keys.times_in.Goals.{then-eq, else-eq}

pub loop-at-preserved : goal.loop-at-preserved
loop-at-preserved c =
    let here = next_two string_bytes c.args.words.now c.loop-at.at c.index-words-at.result c.as_str.result.now c.loop-at-test.true c.index-words-at.is c.as_str.ensures.value in
    elim c.if-eq.branch [
      | then-eq w ↦
          let one = ap (λ (l : List (List ℕ)). length l) (values_here c.args.key.now _ _ _ _ here w.if-eq.ensures) in
          record { inside = omega arith; few = omega (arith, w.times-is); same = omega (arith, w.times-is, one, c.loop-at.invariant.same) }
      | else-eq w ↦
          let none = ap (λ (l : List (List ℕ)). length l) (values_later c.args.key.now _ _ _ _ here w.if-eq.ensures) in
          record { inside = omega arith; few = omega (arith, w.times-is); same = omega (arith, w.times-is, none, c.loop-at.invariant.same) }
    ]

pub returns : goal.returns
returns c =
    let none = ap (λ (l : List (List ℕ)). length l) (no_values c.args.key.now (map string_bytes c.args.words.now) c.loop-at.at (omega (arith, length-map c.args.words.now string_bytes))) in
    omega (arith, none, c.loop-at.invariant.same)
