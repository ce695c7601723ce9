use Rattle.std.proofs.Common.{ℕ, List, ◌≤◌, ◌≡◌, ◌-◌, ◌∙◌, length, take, drop, ap, sym, refl, arith, take_all, length-drop}
use Rattle.std.proofs.lemmas.Result.{err_from_is_err_and}
use Rattle.yenc_lines.specs.Keywords.{Item}
use Rattle.yenc_lines.specs.Gathered.{gathered, plain_of, named_of}
use Rattle.yenc_lines.proofs.HeaderLaws.{header_goes, header_fails, header_named, header_name}
use Rattle.yenc_lines.proofs.header.read_header.Goals as goal

rest_is : (text : List ℕ) (at : ℕ) → take (length text - at) (drop at text) ≡ drop at text
rest_is text at = take_all (length text - at) (drop at text) (omega (arith, length-drop at text))

pub returns-then-starts_with-clause-numbers : goal.returns-then-starts_with-clause-numbers
returns-then-starts_with-clause-numbers c =
    sym c.loop-at.invariant.numbers
    ∙ ap (λ (l : List Item). gathered c.loop-at.numbers (plain_of l))
    (header_name c.args.text.now (take (length c.args.text.now - c.loop-at.at) (drop c.loop-at.at c.args.text.now)) c.loop-at.at c.loop-at-test.true (rest_is c.args.text.now c.loop-at.at) (sym c.if-starts_with.ensures.value))

pub returns-then-starts_with-clause-name : goal.returns-then-starts_with-clause-name
returns-then-starts_with-clause-name c =
    let long : 5 ≤ length (take (length c.args.text.now - c.loop-at.at) (drop c.loop-at.at c.args.text.now)) = c.if-starts_with.ensures.bound refl in (
      omega (arith, long, ap length (rest_is c.args.text.now c.loop-at.at), length-drop c.loop-at.at c.args.text.now),
      sym c.loop-at.invariant.named
          ∙ ap named_of
          (header_name c.args.text.now (take (length c.args.text.now - c.loop-at.at) (drop c.loop-at.at c.args.text.now)) c.loop-at.at c.loop-at-test.true (rest_is c.args.text.now c.loop-at.at) (sym c.if-starts_with.ensures.value)),
    )

pub returns-in_err-take-clause-numbers : goal.returns-in_err-take-clause-numbers
returns-in_err-take-clause-numbers c =
    let p = err_from_is_err_and c.from_residual.result c.from_residual.ensures.1 in
    rw (p.1, p.2)
    (sym c.loop-at.invariant.numbers
    ∙ header_fails c.args.text.now (take (length c.args.text.now - c.loop-at.at) (drop c.loop-at.at c.args.text.now)) c.loop-at.at c.first_at-end.result c.loop-at.numbers c.in_err-take.field-0.0 c.loop-at-test.true
    (rest_is c.args.text.now c.loop-at.at) c.first_at-end.ensures.place (sym c.if-starts_with.ensures.value) c.in_err-take.ensures)

pub loop-at-preserved : goal.loop-at-preserved
loop-at-preserved c = record {
  inside = omega (arith, c.first_at-end.ensures.inside, ap length (rest_is c.args.text.now c.loop-at.at), length-drop c.loop-at.at c.args.text.now);
  long = c.take.array_long;
  numbers = sym (header_goes c.args.text.now (take (length c.args.text.now - c.loop-at.at) (drop c.loop-at.at c.args.text.now)) c.loop-at.at c.first_at-end.result c.loop-at.numbers c.take.new.numbers c.loop-at-test.true
      (rest_is c.args.text.now c.loop-at.at) c.first_at-end.ensures.place (sym c.if-starts_with.ensures.value) c.in_ok-take.ensures)
      ∙ c.loop-at.invariant.numbers;
  named = sym (header_named c.args.text.now (take (length c.args.text.now - c.loop-at.at) (drop c.loop-at.at c.args.text.now)) c.loop-at.at c.first_at-end.result c.loop-at-test.true
      (rest_is c.args.text.now c.loop-at.at) c.first_at-end.ensures.place (sym c.if-starts_with.ensures.value))
      ∙ c.loop-at.invariant.named;
}
