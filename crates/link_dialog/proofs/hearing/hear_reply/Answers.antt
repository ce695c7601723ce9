-- A line with nothing behind it, and one with more.
use Rattle.std.proofs.Common.{◌≡◌, length, take, ◌∙◌, sym, arith}
use Rattle.std.proofs.lemmas.List.{length-take-le}
use Rattle.link_dialog.specs.Reader.{held}
use Rattle.link_dialog.proofs.Hearings.{line_answers, line_answers_more, line_is_meant, no_block}
use Rattle.link_dialog.proofs.hearing.hear_reply.Goals as goal

pub returns-then-end-clause-heard : goal.returns-then-end-clause-heard
returns-then-end-clause-heard g c =
    let long : length (take c.in-Ok.end.len c.hear_line.new.buf) ≡ c.in-Ok.end.len = length-take-le c.in-Ok.end.len c.hear_line.new.buf c.in-Ok.ensures.room in (
      line_is_meant c.args.kind _ c.in-Ok.end.code c.hear_line.new.reader c.in-Ok.ensures.heard.line,
      (
        held c.hear_line.new.reader,
        line_answers (g.L.Links.trace c.args.links.now) (g.L.Links.trace c.hear_line.new.links) c.args.link c.args.patience c.args.kind (take c.in-Ok.end.len c.hear_line.new.buf) c.in-Ok.end.used c.in-Ok.end.code c.hear_line.new.reader
            c.requires.patient c.in-Ok.ensures.some (c.if-end.true ∙ sym long) (no_block c.args.kind c.in-Ok.end.code c.requires.plain) c.in-Ok.ensures.heard,
      ),
    )

pub returns-else-end-clause-heard : goal.returns-else-end-clause-heard
returns-else-end-clause-heard g c =
    let long : length (take c.in-Ok.end.len c.hear_line.new.buf) ≡ c.in-Ok.end.len = length-take-le c.in-Ok.end.len c.hear_line.new.buf c.in-Ok.ensures.room in
    let other = c.if-end.false in
    let fits = c.in-Ok.ensures.fits in (
      line_is_meant c.args.kind _ c.in-Ok.end.code c.hear_line.new.reader c.in-Ok.ensures.heard.line,
      (
        held c.hear_line.new.reader,
        line_answers_more (g.L.Links.trace c.args.links.now) (g.L.Links.trace c.hear_line.new.links) c.args.link c.args.patience c.args.kind (take c.in-Ok.end.len c.hear_line.new.buf) c.in-Ok.end.used c.in-Ok.end.code c.hear_line.new.reader
            c.requires.patient c.in-Ok.ensures.some (omega (arith, long, other, fits)) (no_block c.args.kind c.in-Ok.end.code c.requires.plain) c.in-Ok.ensures.heard,
      ),
    )
