use Rattle.std.proofs.Common.{◌≡◌, ℕ, ◌-◌, ◌∙◌, List, Option, Some, None, Result, Ok, Err, length, take, drop, ap, sym, refl, arith, take_all, length-drop}
use Rattle.std.proofs.lemmas.Result.{err_from_is_err_and}
use Rattle.std.specs.List.{slice_split}
use Rattle.yenc_lines.specs.declared.key.Key.TheVariants as key
use Rattle.yenc_lines.specs.declared.key.KeyFault.{KeyFault}
use Rattle.yenc_lines.specs.Keywords.{is_space, items_in, items_of, number_in, trimmed, value_fault, ybegin}
use Rattle.yenc_lines.specs.Gathered.{begin_with, gathered, given, named_of, nothing, plain_of}
use Rattle.yenc_lines.proofs.BeginLaws.{begin_not, begin_fails, begin_nameless, begin_bad_name, begin_is, header_given}
use Rattle.yenc_lines.proofs.SmallNumbers.{part_small, total_small, line_small, small_too}
use Rattle.yenc_lines.proofs.read.read_begin.Goals as goal

-- the text behind the word, as the code cuts it
abbrev text_of : List ℕ → List ℕ
text_of line = take (length line - 8) (drop 8 line)

text_is : (line : List ℕ) → text_of line ≡ drop 8 line
text_is line = take_all (length line - 8) (drop 8 line) (omega (arith, length-drop 8 line))

numbers_of : (line : List ℕ) (r : Result (List (Option ℕ)) KeyFault) → gathered nothing (plain_of (items_in ybegin.known (slice_split is_space (text_of line)))) ≡ r → gathered nothing (plain_of (items_of ybegin line)) ≡ r
numbers_of line r e = ap (λ (t : List ℕ). gathered nothing (plain_of (items_in ybegin.known (slice_split is_space t)))) (sym (text_is line)) ∙ e

name_of : (line : List ℕ) (name : Option (List ℕ)) → named_of (items_in ybegin.known (slice_split is_space (text_of line))) ≡ name → named_of (items_of ybegin line) ≡ name
name_of line name e = ap (λ (t : List ℕ). named_of (items_in ybegin.known (slice_split is_space t))) (sym (text_is line)) ∙ e

-- a name's text, as the code cuts it
rest_is : (text : List ℕ) (at : ℕ) → take (length text - at) (drop at text) ≡ drop at text
rest_is text at = take_all (length text - at) (drop at text) (omega (arith, length-drop at text))

pub returns-then-not-starts_with : goal.returns-then-not-starts_with
returns-then-not-starts_with c = begin_not c.args.line.now (sym c.if-not-starts_with.ensures.value)

pub returns-in_err-numbers : goal.returns-in_err-numbers
returns-in_err-numbers c =
    let p = err_from_is_err_and c.from_residual.result c.from_residual.ensures.1 in
    rw (p.1, p.2)
    (begin_fails c.args.line.now c.in_err-numbers.field-0.0 (sym c.if-not-starts_with.ensures.value) (numbers_of c.args.line.now (Err c.in_err-numbers.field-0.0) c.in_err-numbers.ensures.numbers))

pub returns-in_err-name-in-Some : goal.returns-in_err-name-in-Some
returns-in_err-name-in-Some c =
    let p = err_from_is_err_and c.from_residual-in_err-name-in-Some.result c.from_residual-in_err-name-in-Some.ensures.1 in
    let named = rw c.in-Some.is at c.in_ok-numbers.ensures.name in
    rw (p.1, p.2)
    (begin_bad_name c.args.line.now c.in_ok-numbers.numbers (trimmed (drop c.in-Some.at (text_of c.args.line.now))) c.in_err-name-in-Some.field-0.0 (sym c.if-not-starts_with.ensures.value)
    (numbers_of c.args.line.now (Ok c.in_ok-numbers.numbers) c.in_ok-numbers.ensures.numbers) (name_of c.args.line.now (Some (trimmed (drop c.in-Some.at (text_of c.args.line.now)))) named.1)
    (ap (λ (t : List ℕ). value_fault key.Name (trimmed t)) (sym (rest_is (text_of c.args.line.now) c.in-Some.at)) ∙ c.in_err-name-in-Some.ensures.fault))

pub begin_with-requires-clause-part : goal.begin_with-requires-clause-part
begin_with-requires-clause-part c =
    let all = items_of ybegin c.args.line.now in
    small_too (number_in all key.Part) (given c.in_ok-numbers.numbers key.Part) (header_given c.args.line.now c.in_ok-numbers.numbers key.Part refl (numbers_of c.args.line.now (Ok c.in_ok-numbers.numbers) c.in_ok-numbers.ensures.numbers)) (part_small all)

pub begin_with-requires-clause-total : goal.begin_with-requires-clause-total
begin_with-requires-clause-total c =
    let all = items_of ybegin c.args.line.now in
    small_too (number_in all key.Total) (given c.in_ok-numbers.numbers key.Total) (header_given c.args.line.now c.in_ok-numbers.numbers key.Total refl (numbers_of c.args.line.now (Ok c.in_ok-numbers.numbers) c.in_ok-numbers.ensures.numbers)) (total_small all)

pub begin_with-requires-clause-line : goal.begin_with-requires-clause-line
begin_with-requires-clause-line c =
    let all = items_of ybegin c.args.line.now in
    small_too (number_in all key.Line) (given c.in_ok-numbers.numbers key.Line) (header_given c.args.line.now c.in_ok-numbers.numbers key.Line refl (numbers_of c.args.line.now (Ok c.in_ok-numbers.numbers) c.in_ok-numbers.ensures.numbers)) (line_small all)

pub returns-in_ok-name-in-Some : goal.returns-in_ok-name-in-Some
returns-in_ok-name-in-Some c =
    let named = rw c.in-Some.is at c.in_ok-numbers.ensures.name in
    let rest = rest_is (text_of c.args.line.now) c.in-Some.at in
    c.begin_with.ensures ∙ ap (λ (t : List ℕ). begin_with c.in_ok-numbers.numbers t) (c.in_ok-name-in-Some.ensures.name ∙ ap trimmed rest)
    ∙ begin_is c.args.line.now c.in_ok-numbers.numbers (trimmed (drop c.in-Some.at (text_of c.args.line.now))) (sym c.if-not-starts_with.ensures.value)
    (numbers_of c.args.line.now (Ok c.in_ok-numbers.numbers) c.in_ok-numbers.ensures.numbers) (name_of c.args.line.now (Some (trimmed (drop c.in-Some.at (text_of c.args.line.now)))) named.1)
    (ap (λ (t : List ℕ). value_fault key.Name (trimmed t)) (sym rest) ∙ c.in_ok-name-in-Some.ensures.fault)

pub returns-in-None : goal.returns-in-None
returns-in-None c =
    let named = rw c.in-None.is at c.in_ok-numbers.ensures.name in
    rw (c.unwrap_or.ensures, c.missing.ensures)
    (begin_nameless c.args.line.now c.in_ok-numbers.numbers (sym c.if-not-starts_with.ensures.value) (numbers_of c.args.line.now (Ok c.in_ok-numbers.numbers) c.in_ok-numbers.ensures.numbers) (name_of c.args.line.now None named))
