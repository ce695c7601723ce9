use Rattle.std.proofs.Common.{sym, ◌∙◌, arith, ◌<◌}
use Rattle.std.proofs.lemmas.Bool.{not-false, not-true}
use Rattle.std.proofs.lemmas.Result.{err_from_is_err_and}
use Rattle.nzb_index.specs.Tags.{attributes_of, checks_of}
use Rattle.nzb_index.proofs.TagEnds.{Named, valued_at, has_place, attribute_double, attribute_equals_fails, attribute_value_fails, attribute_bad, attribute_reads}
use Rattle.nzb_index.proofs.tags.attribute_end.Goals as goal

pub returns-then-not-new-clause-read : goal.returns-then-not-new-clause-read
returns-then-not-new-clause-read c =
    let n = c.in_ok-name.ensures in
    let is_named : Named c.args.text.now c.args.at c.in_ok-name.name = record { behind = n.0; within = n.1; read = n.2 } in
    rw c.refused.ensures (attribute_double (checks_of c.args.element) (attributes_of c.args.scratch.now.names c.args.scratch.now.values) c.args.text.now c.args.at c.in_ok-name.name is_named (has_place _ c.args.scratch.now.names c.args.scratch.now.values c.requires.pairs ∙ not-false _ (sym c.in_ok-new.ensures.new ∙ c.if-not-new.true)))

pub returns-in_err-equals-clause-read : goal.returns-in_err-equals-clause-read
returns-in_err-equals-clause-read c =
    let p = err_from_is_err_and c.from_residual-in_err-equals.result c.from_residual-in_err-equals.ensures.1 in
    let n = c.in_ok-name.ensures in
    let is_named : Named c.args.text.now c.args.at c.in_ok-name.name = record { behind = n.0; within = n.1; read = n.2 } in
    rw (p.1, p.2) (attribute_equals_fails (checks_of c.args.element) (attributes_of c.args.scratch.now.names c.args.scratch.now.values) c.args.text.now c.args.at c.in_ok-name.name c.white_end.result c.in_err-equals.field-0.0 is_named (has_place _ c.args.scratch.now.names c.args.scratch.now.values c.requires.pairs ∙ not-true _ (sym c.in_ok-new.ensures.new ∙ c.if-not-new.false)) c.white_end.ensures.white c.in_err-equals.ensures)

pub returns-in_err-end-clause-read : goal.returns-in_err-end-clause-read
returns-in_err-end-clause-read c =
    let p = err_from_is_err_and c.from_residual-in_err-end.result c.from_residual-in_err-end.ensures.1 in
    let there = valued_at c.args.scratch.now.names c.args.scratch.now.values c.args.text.now c.args.at c.in_ok-name.name c.white_end.result c.in_ok-equals.equals c.white_end-2.result _ c.requires.pairs c.in_ok-name.ensures c.in_ok-new.ensures.new c.if-not-new.false
    c.white_end.ensures.white c.in_ok-equals.ensures.2 c.white_end-2.ensures.white in
    rw (p.1, p.2) (attribute_value_fails (checks_of c.args.element) (attributes_of c.args.scratch.now.names c.args.scratch.now.values) c.args.text.now c.args.at c.in_ok-name.name c.white_end-2.result c.in_err-end.field-0.0 there c.in_err-end.ensures)

pub returns-then-not-allows-clause-read : goal.returns-then-not-allows-clause-read
returns-then-not-allows-clause-read c =
    let there = valued_at c.args.scratch.now.names c.args.scratch.now.values c.args.text.now c.args.at c.in_ok-name.name c.white_end.result c.in_ok-equals.equals c.white_end-2.result _ c.requires.pairs c.in_ok-name.ensures c.in_ok-new.ensures.new c.if-not-new.false
    c.white_end.ensures.white c.in_ok-equals.ensures.2 c.white_end-2.ensures.white in
    let v = c.in_ok-end.ensures in
    let s = c.as_slice.ensures in
    let a = c.allows.ensures in
    let t = c.if-not-allows.true in
    rw c.refused-then-not-allows.ensures (attribute_bad (checks_of c.args.element) (attributes_of c.args.scratch.now.names c.args.scratch.now.values) c.args.text.now c.quoted_end.new.out c.args.at c.in_ok-name.name c.white_end-2.result c.in_ok-end.end there v.2 (cc (s, a, t)))

pub returns-clause-read : goal.returns-clause-read
returns-clause-read c =
    let n = c.in_ok-name.ensures in
    let q = c.in_ok-equals.ensures in
    let there = valued_at c.args.scratch.now.names c.args.scratch.now.values c.args.text.now c.args.at c.in_ok-name.name c.white_end.result c.in_ok-equals.equals c.white_end-2.result _ c.requires.pairs c.in_ok-name.ensures c.in_ok-new.ensures.new c.if-not-new.false
    c.white_end.ensures.white c.in_ok-equals.ensures.2 c.white_end-2.ensures.white in
    let v = c.in_ok-end.ensures in
    let s = c.as_slice.ensures in
    let s2 = c.as_slice-2.ensures in
    let a = c.allows.ensures in
    let t = c.if-not-allows.false in
    let named_ok = c.in_ok-push.ensures.ok in
    let valued_ok = c.in_ok-push-2.ensures.ok in
    let w1 = c.white_end.ensures.behind in
    let w2 = c.white_end-2.ensures.behind in
    let before : c.args.at < c.in_ok-end.end = omega (arith, n.0, w1, q.0, w2, v.0) in
    attribute_reads (checks_of c.args.element) c.args.scratch.now.names c.args.scratch.now.values c.push.new.lines c.push-2.new.lines c.args.text.now c.quoted_end.new.out c.args.at c.in_ok-name.name c.white_end-2.result c.in_ok-end.end there before v.1 v.2 (cc (s, a, t)) named_ok (cc (s2, valued_ok))
