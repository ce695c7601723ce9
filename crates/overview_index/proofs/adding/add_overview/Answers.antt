-- The lines of a block are those of its reply.
use Rattle.std.proofs.Common.{List, ℕ, [], ◌∙◌, append-nil, subst, sym}
use Rattle.std.proofs.lemmas.Bool.{eq-eqb}
use Rattle.overview_index.specs.Asking.{AddsLines}
use Rattle.overview_index.proofs.AddedLines.{kept_block, lines_of_block}
use Rattle.overview_index.proofs.adding.add_overview.Goals as goal

pub returns-in-Ok : goal.returns-in-Ok
returns-in-Ok c group before reply r t =
    let held = c.args.desk.now.block in
    let block = kept_block reply c.args.kept held c.if-not-kept.false (r.lines_are (eq-eqb c.args.code 224 c.if-code-ne224.false)) in
    let found = c.in-Ok.ensures.each_block reply.lines held [] block (c.as_slice.ensures ∙ sym (append-nil held)) in
    subst (λ (l : List (List ℕ)). AddsLines c.add_lines.new.desk group before l c.add_lines.result)
    (found.0 ∙ sym (lines_of_block reply (r.code_is ∙ c.if-code-ne224.false))) (c.add_lines.ensures group before t)
