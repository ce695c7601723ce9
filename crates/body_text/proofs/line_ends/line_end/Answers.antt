use Rattle.std.proofs.Common.{◌≡◌, ◌+◌, ◌-◌, ◌∷◌, [], ◌∙◌, refl, sym, ap, length, take, drop, arith, length-drop, length-take}
use Rattle.lists.specs.Text.{text_lines}
use Rattle.lists.proofs.TextLines.{more_text, no_line, rest_of_text}
use Rattle.body_text.proofs.line_ends.line_end.Goals as goal

pub returns-in-Some-clause-first : goal.returns-in-Some-clause-first
returns-in-Some-clause-first c =
    let e : c.args.start + (c.in-Some.len + 1) ≡ c.args.start + c.in-Some.len + 1 = omega arith in
    sym (more_text [] (text_lines (drop c.args.start c.args.text.now)) c.args.text.now _ _ c.args.start c.in-Some.len refl c.in-Some.ensures c.before_return.ensures.stripped refl)
    ∙ ap (λ n. take (c.before_return.result - c.args.start) (drop c.args.start c.args.text.now) ∷ text_lines (drop n c.args.text.now)) e

pub returns-in-None-clause-first : goal.returns-in-None-clause-first
returns-in-None-clause-first c =
    sym (rest_of_text [] (text_lines (drop c.args.start c.args.text.now)) c.args.text.now _ c.args.start refl c.in-None.ensures (omega (arith, c.requires, length-take (length c.args.text.now - c.args.start) (drop c.args.start c.args.text.now), length-drop c.args.start c.args.text.now)) refl)
    ∙ ap (λ l. take (length c.args.text.now - c.args.start) (drop c.args.start c.args.text.now) ∷ l) (sym (no_line (drop (length c.args.text.now) c.args.text.now) (omega (arith, length-drop (length c.args.text.now) c.args.text.now))))
