-- One line, a block in the first piece, and a block in more of them.
use Rattle.std.proofs.Common.{◌≡◌, ◌+◌, Bool, true, false, [], length, take, ◌∙◌, subst, sym, arith}
use Rattle.std.proofs.lemmas.List.{length-take-le, length-drop}
use Rattle.link_dialog.specs.declared.block.BlockStep.TheVariants.{More, End, TooLong}
use Rattle.link_dialog.specs.declared.answer.Answer.TheVariants as answer
use Rattle.link_dialog.specs.declared.answer.BlockAnswer.{BlockAnswer}
use Rattle.link_dialog.specs.BlockHearing.{IsBlockAnswered}
use Rattle.link_dialog.specs.Replies.{has_block}
use Rattle.link_dialog.specs.Reader.{held}
use Rattle.link_dialog.specs.Talk.{line_reply}
use Rattle.link_dialog.proofs.Hearings.{line_answers, line_answers_more, line_is_meant}
use Rattle.link_dialog.proofs.BlockHearings.{behind_line_at, piece_more, status_long}
use Rattle.link_dialog.proofs.BlockAnswers.{answers_whole, answers_early, answers_too_long, begins_behind, steps_left, no_lines}
use Rattle.link_dialog.proofs.long_reply.hear_long_reply.Goals as goal

pub returns-then-end-clause-heard : goal.returns-then-end-clause-heard
returns-then-end-clause-heard g c =
    let piece = take c.in-Ok.end.len c.hear_line.new.buf in
    let long : length piece ≡ c.in-Ok.end.len = length-take-le c.in-Ok.end.len c.hear_line.new.buf c.in-Ok.ensures.room in
    let none : has_block c.args.kind c.in-Ok.end.code ≡ false = sym c.has_block.ensures ∙ c.if-not-has_block.true in
    let reader = c.hear_line.new.reader in (
      line_is_meant c.args.kind _ c.in-Ok.end.code reader c.in-Ok.ensures.heard.line,
      (
        line_reply c.in-Ok.end.code (held reader),
        no_lines c.args.kind c.in-Ok.end.code (held reader) _ none,
        line_answers (g.L.Links.trace c.args.links.now) (g.L.Links.trace c.hear_line.new.links) c.args.link c.args.patience c.args.kind piece c.in-Ok.end.used c.in-Ok.end.code reader
            c.requires.patient c.in-Ok.ensures.some (c.if-end.true ∙ sym long) none c.in-Ok.ensures.heard,
      ),
    )

pub returns-then-not-has_block-clause-heard : goal.returns-then-not-has_block-clause-heard
returns-then-not-has_block-clause-heard g c =
    let piece = take c.in-Ok.end.len c.hear_line.new.buf in
    let long : length piece ≡ c.in-Ok.end.len = length-take-le c.in-Ok.end.len c.hear_line.new.buf c.in-Ok.ensures.room in
    let none : has_block c.args.kind c.in-Ok.end.code ≡ false = sym c.has_block.ensures ∙ c.if-not-has_block.true in
    let reader = c.hear_line.new.reader in
    let other = c.if-end.false in
    let fits = c.in-Ok.ensures.fits in (
      line_is_meant c.args.kind _ c.in-Ok.end.code reader c.in-Ok.ensures.heard.line,
      (
        line_reply c.in-Ok.end.code (held reader),
        no_lines c.args.kind c.in-Ok.end.code (held reader) _ none,
        line_answers_more (g.L.Links.trace c.args.links.now) (g.L.Links.trace c.hear_line.new.links) c.args.link c.args.patience c.args.kind piece c.in-Ok.end.used c.in-Ok.end.code reader
            c.requires.patient c.in-Ok.ensures.some (omega (arith, long, other, fits)) none c.in-Ok.ensures.heard,
      ),
    )

pub new-reader-requires : goal.new-reader-requires
new-reader-requires g c =
    let long = status_long c.args.kind _ c.in-Ok.end.code c.hear_line.new.reader c.in-Ok.ensures.heard.line in
    let short = c.in-Ok.ensures.heard.line.short in
    let is = c.len_with_end.ensures in
    omega (arith, long, short, is)

pub returns-then-end-used-clause-heard : goal.returns-then-end-used-clause-heard
returns-then-end-used-clause-heard g c =
    let piece = take c.in-Ok.end.len c.hear_line.new.buf in
    let long : length piece ≡ c.in-Ok.end.len = length-take-le c.in-Ok.end.len c.hear_line.new.buf c.in-Ok.ensures.room in
    let fits = c.in-Ok.ensures.fits in
    let has : has_block c.args.kind c.in-Ok.end.code ≡ true = sym c.has_block.ensures ∙ c.if-not-has_block.false in
    let meant = line_is_meant c.args.kind _ c.in-Ok.end.code c.hear_line.new.reader c.in-Ok.ensures.heard.line in
    let p = behind_line_at (g.L.Links.trace c.args.links.now) (g.L.Links.trace c.hear_line.new.links) c.args.link c.args.patience c.args.kind piece c.in-Ok.end.used c.in-Ok.end.code c.hear_line.new.reader
    c.requires.patient c.in-Ok.ensures.some (omega (arith, long, fits)) has c.in-Ok.ensures.heard in
    let stands = begins_behind c.new-reader.result c.len_with_end.result c.clear.new.self c.clear.ensures c.new-reader.ensures in
    let count : c.new-reader.result.heard ≡ length p.0.status + 0 = let a = c.new-reader.ensures.1 in let b = c.len_with_end.ensures in let d = p.1 in omega (arith, a, b, d) in
    let all = c.if-end-used.true in
    subst (λ (k : Bool). IsBlockAnswered (g.L.Links.trace c.args.links.now) (g.L.Links.trace c.hear_line.new.links) c.args.link c.args.patience c.args.kind k c.step.new.block (answer.Code c.in-Ok.end.code)) (sym c.is_kept-then-end-used.ensures)
    (answers_whole (g.L.Links.trace c.args.links.now) (g.L.Links.trace c.hear_line.new.links) c.args.link c.args.patience c.args.kind c.in-Ok.end.code piece c.in-Ok.end.used [] c.new-reader.result c.step.new.self c.clear.new.self c.step.new.block c.in-End.used
    c.requires.patient meant has p.0 stands count
    (steps_left c.new-reader.result c.step.new.self c.clear.new.self c.step.new.block [] piece c.in-Ok.end.used c.step.result (End c.in-End.used) c.in-End.is (c.step.ensures.steps []))
    (omega (arith, long, all)))

pub returns-else-end-used-clause-heard : goal.returns-else-end-used-clause-heard
returns-else-end-used-clause-heard g c =
    let piece = take c.in-Ok.end.len c.hear_line.new.buf in
    let long : length piece ≡ c.in-Ok.end.len = length-take-le c.in-Ok.end.len c.hear_line.new.buf c.in-Ok.ensures.room in
    let fits = c.in-Ok.ensures.fits in
    let has : has_block c.args.kind c.in-Ok.end.code ≡ true = sym c.has_block.ensures ∙ c.if-not-has_block.false in
    let meant = line_is_meant c.args.kind _ c.in-Ok.end.code c.hear_line.new.reader c.in-Ok.ensures.heard.line in
    let p = behind_line_at (g.L.Links.trace c.args.links.now) (g.L.Links.trace c.hear_line.new.links) c.args.link c.args.patience c.args.kind piece c.in-Ok.end.used c.in-Ok.end.code c.hear_line.new.reader
    c.requires.patient c.in-Ok.ensures.some (omega (arith, long, fits)) has c.in-Ok.ensures.heard in
    let stands = begins_behind c.new-reader.result c.len_with_end.result c.clear.new.self c.clear.ensures c.new-reader.ensures in
    let count : c.new-reader.result.heard ≡ length p.0.status + 0 = let a = c.new-reader.ensures.1 in let b = c.len_with_end.ensures in let d = p.1 in omega (arith, a, b, d) in
    let steps = steps_left c.new-reader.result c.step.new.self c.clear.new.self c.step.new.block [] piece c.in-Ok.end.used c.step.result (End c.in-End.used) c.in-End.is (c.step.ensures.steps []) in
    let other = c.if-end-used.false in
    let within = (steps stands).1 in
    subst (λ (k : Bool). IsBlockAnswered (g.L.Links.trace c.args.links.now) (g.L.Links.trace c.hear_line.new.links) c.args.link c.args.patience c.args.kind k c.step.new.block (answer.Unasked c.in-Ok.end.code)) (sym c.is_kept-in-End.ensures)
    (answers_early (g.L.Links.trace c.args.links.now) (g.L.Links.trace c.hear_line.new.links) c.args.link c.args.patience c.args.kind c.in-Ok.end.code piece c.in-Ok.end.used [] c.new-reader.result c.step.new.self c.clear.new.self c.step.new.block c.in-End.used
    c.requires.patient meant has p.0 stands count steps
    (omega (arith, long, other, within, length-drop c.in-Ok.end.used piece)))

pub returns-in-More-clause-heard : goal.returns-in-More-clause-heard
returns-in-More-clause-heard g c =
    let piece = take c.in-Ok.end.len c.hear_line.new.buf in
    let long : length piece ≡ c.in-Ok.end.len = length-take-le c.in-Ok.end.len c.hear_line.new.buf c.in-Ok.ensures.room in
    let fits = c.in-Ok.ensures.fits in
    let has : has_block c.args.kind c.in-Ok.end.code ≡ true = sym c.has_block.ensures ∙ c.if-not-has_block.false in
    let meant = line_is_meant c.args.kind _ c.in-Ok.end.code c.hear_line.new.reader c.in-Ok.ensures.heard.line in
    let p = behind_line_at (g.L.Links.trace c.args.links.now) (g.L.Links.trace c.hear_line.new.links) c.args.link c.args.patience c.args.kind piece c.in-Ok.end.used c.in-Ok.end.code c.hear_line.new.reader
    c.requires.patient c.in-Ok.ensures.some (omega (arith, long, fits)) has c.in-Ok.ensures.heard in
    let stands = begins_behind c.new-reader.result c.len_with_end.result c.clear.new.self c.clear.ensures c.new-reader.ensures in
    let count : c.new-reader.result.heard ≡ length p.0.status + 0 = let a = c.new-reader.ensures.1 in let b = c.len_with_end.ensures in let d = p.1 in omega (arith, a, b, d) in
    subst (λ (k : Bool). IsBlockAnswered (g.L.Links.trace c.args.links.now) (g.L.Links.trace c.hear_block-answer.new.links) c.args.link c.args.patience c.args.kind k c.hear_block-answer.new.block c.hear_block-answer.result) (sym c.is_kept.ensures)
    (c.hear_block-answer.ensures.heard (g.L.Links.trace c.args.links.now)
    (piece_more (g.L.Links.trace c.args.links.now) (g.L.Links.trace c.hear_line.new.links) c.args.link c.args.patience c.args.kind c.in-Ok.end.code piece c.in-Ok.end.used [] c.new-reader.result c.step.new.self c.clear.new.self c.step.new.block
    c.requires.patient has p.0 stands count
    (steps_left c.new-reader.result c.step.new.self c.clear.new.self c.step.new.block [] piece c.in-Ok.end.used c.step.result More c.in-More.is (c.step.ensures.steps []))))

pub returns-in-TooLong-clause-heard : goal.returns-in-TooLong-clause-heard
returns-in-TooLong-clause-heard g c =
    let piece = take c.in-Ok.end.len c.hear_line.new.buf in
    let long : length piece ≡ c.in-Ok.end.len = length-take-le c.in-Ok.end.len c.hear_line.new.buf c.in-Ok.ensures.room in
    let fits = c.in-Ok.ensures.fits in
    let has : has_block c.args.kind c.in-Ok.end.code ≡ true = sym c.has_block.ensures ∙ c.if-not-has_block.false in
    let meant = line_is_meant c.args.kind _ c.in-Ok.end.code c.hear_line.new.reader c.in-Ok.ensures.heard.line in
    let p = behind_line_at (g.L.Links.trace c.args.links.now) (g.L.Links.trace c.hear_line.new.links) c.args.link c.args.patience c.args.kind piece c.in-Ok.end.used c.in-Ok.end.code c.hear_line.new.reader
    c.requires.patient c.in-Ok.ensures.some (omega (arith, long, fits)) has c.in-Ok.ensures.heard in
    let stands = begins_behind c.new-reader.result c.len_with_end.result c.clear.new.self c.clear.ensures c.new-reader.ensures in
    let count : c.new-reader.result.heard ≡ length p.0.status + 0 = let a = c.new-reader.ensures.1 in let b = c.len_with_end.ensures in let d = p.1 in omega (arith, a, b, d) in
    subst (λ (b : BlockAnswer). IsBlockAnswered (g.L.Links.trace c.args.links.now) (g.L.Links.trace c.hear_line.new.links) c.args.link c.args.patience c.args.kind b.kept c.step.new.block b.answer) (sym c.over-in-TooLong.ensures)
    (answers_too_long (g.L.Links.trace c.args.links.now) (g.L.Links.trace c.hear_line.new.links) c.args.link c.args.patience c.args.kind c.in-Ok.end.code piece c.in-Ok.end.used [] c.new-reader.result c.step.new.self c.clear.new.self c.step.new.block
    c.requires.patient has p.0 stands count
    (steps_left c.new-reader.result c.step.new.self c.clear.new.self c.step.new.block [] piece c.in-Ok.end.used c.step.result TooLong c.in-TooLong.is (c.step.ensures.steps [])))
