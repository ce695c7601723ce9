-- One line more, and one that isn't added.
use Rattle.std.proofs.Common.{ℕ, List, ◌++◌, ◌∷◌, [], length, take, ap, sym, subst, append_assoc, arith, ◌≤◌, ◌∙◌}
use Rattle.std.proofs.lemmas.List.{take_all}
use Rattle.overview_index.specs.Asking.{Tallies}
use Rattle.overview_index.proofs.AddedLines.{take_there, fills_among}
use Rattle.overview_index.proofs.adding.add_lines.Goals as goal

pub returns-in-Err : goal.returns-in-Err
returns-in-Err c group before t some =
    fills_among before c.args.lines.now c.loop-i.i c.line.result.now c.in-Err.why c.line.ensures (c.in-Err.ensures group (before ++ take c.loop-i.i c.args.lines.now) (c.loop-i.invariant group before t) some)

pub loop-i-preserved : goal.loop-i-preserved
loop-i-preserved c group before t =
    let first : List (List ℕ) = take c.loop-i.i c.args.lines.now in
    subst (λ (l : List (List ℕ)). Tallies c.add_line.new.desk group l)
    (append_assoc before first (c.line.result.now ∷ []) ∙ ap (λ (l : List (List ℕ)). before ++ l) (sym (take_there c.args.lines.now c.loop-i.i c.line.result.now c.line.ensures)))
    (c.in-Ok.ensures group (before ++ first) (c.loop-i.invariant group before t))

pub returns : goal.returns
returns c group before t =
    let all : length c.args.lines.now ≤ c.loop-i.i = omega (arith, c.loop-i-test.false, c.len-i-end.ensures.count) in
    subst (λ (l : List (List ℕ)). Tallies c.loop-i.desk group (before ++ l)) (take_all c.loop-i.i c.args.lines.now all) (c.loop-i.invariant group before t)
