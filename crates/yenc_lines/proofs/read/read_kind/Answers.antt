use Rattle.std.proofs.Common.{ℕ, ◌-◌, ◌∙◌, length, Ok, Err, sym, arith, length-drop}
use Rattle.std.proofs.lemmas.Result.{err_from_is_err_and}
use Rattle.yenc_lines.specs.Keywords.{Kind}
use Rattle.yenc_lines.proofs.KindLaws.{kind_fails, kind_told, kind_numbers, kind_text}
use Rattle.yenc_lines.proofs.read.read_kind.Goals as goal

pub returns-in_err-numbers-clause-fault : goal.returns-in_err-numbers-clause-fault
returns-in_err-numbers-clause-fault c =
    let kind : Kind = record { word = c.args.word.now; known = c.args.known.now; required = c.args.required.now } in
    let p = err_from_is_err_and c.from_residual.result c.from_residual.ensures.1 in
    rw (p.1, p.2)
    (kind_fails kind c.args.line.now c.in_err-numbers.field-0.0 c.requires.keys (sym c.if-not-starts_with.ensures.value)
    (kind_text kind c.args.line.now (length c.args.line.now - length c.args.word.now) (Err c.in_err-numbers.field-0.0) (omega (arith, length-drop {A = ℕ})) c.in_err-numbers.ensures))

pub returns-in-Some-clause-fault : goal.returns-in-Some-clause-fault
returns-in-Some-clause-fault c =
    let kind : Kind = record { word = c.args.word.now; known = c.args.known.now; required = c.args.required.now } in
    kind_told kind c.args.line.now c.in_ok-numbers.numbers c.requires.keys (sym c.if-not-starts_with.ensures.value)
    (kind_text kind c.args.line.now (length c.args.line.now - length c.args.word.now) (Ok c.in_ok-numbers.numbers) (omega (arith, length-drop {A = ℕ})) c.in_ok-numbers.ensures)
    ∙ sym c.in-Some.ensures

pub returns-in-None-clause-fault : goal.returns-in-None-clause-fault
returns-in-None-clause-fault c =
    let kind : Kind = record { word = c.args.word.now; known = c.args.known.now; required = c.args.required.now } in
    kind_told kind c.args.line.now c.in_ok-numbers.numbers c.requires.keys (sym c.if-not-starts_with.ensures.value)
    (kind_text kind c.args.line.now (length c.args.line.now - length c.args.word.now) (Ok c.in_ok-numbers.numbers) (omega (arith, length-drop {A = ℕ})) c.in_ok-numbers.ensures)
    ∙ sym c.in-None.ensures

pub returns-in-None-clause-numbers : goal.returns-in-None-clause-numbers
returns-in-None-clause-numbers c =
    let kind : Kind = record { word = c.args.word.now; known = c.args.known.now; required = c.args.required.now } in
    kind_numbers kind c.args.line.now c.in_ok-numbers.numbers c.requires.keys
    (kind_text kind c.args.line.now (length c.args.line.now - length c.args.word.now) (Ok c.in_ok-numbers.numbers) (omega (arith, length-drop {A = ℕ})) c.in_ok-numbers.ensures)
