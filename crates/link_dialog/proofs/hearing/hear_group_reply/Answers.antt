-- A line with another code, and one that chooses the newsgroup, each with more behind it or not.
use Rattle.std.proofs.Common.{◌≡◌, ℕ, [], ◌∷◌, Some, None, length, take, ◌∙◌, sym, refl, ap, subst, arith}
use Rattle.std.proofs.lemmas.List.{length-take-le}
use Rattle.nntp_lines.specs.GroupReply.{group_of}
use Rattle.nntp_lines.specs.declared.why.Why.TheVariants as why
use Rattle.link_dialog.specs.declared.awaited.Awaited.TheVariants.{Group}
use Rattle.link_dialog.specs.Hearing.{HeardTo}
use Rattle.link_dialog.specs.Reader.{held}
use Rattle.link_dialog.specs.Talk.{line_reply}
use Rattle.link_dialog.proofs.Hearings.{line_answers, line_answers_more, line_is_meant}
use Rattle.link_dialog.proofs.hearing.hear_group_reply.Goals as goal

pub returns-then-end-clause-heard : goal.returns-then-end-clause-heard
returns-then-end-clause-heard g c =
    let piece = take c.in-Ok.end.len c.hear_line.new.buf in
    let long : length piece ≡ c.in-Ok.end.len = length-take-le c.in-Ok.end.len c.hear_line.new.buf c.in-Ok.ensures.room in
    let other = c.if-end.true in
    let fits = c.in-Ok.ensures.fits in
    let reader = c.hear_line.new.reader in (
      line_is_meant Group _ c.in-Ok.end.code reader c.in-Ok.ensures.heard.line,
      c.if-end-ne211.true,
      (
        held reader,
        line_answers_more (g.L.Links.trace c.args.links.now) (g.L.Links.trace c.hear_line.new.links) c.args.link c.args.patience Group piece c.in-Ok.end.used c.in-Ok.end.code reader
            c.requires.patient c.in-Ok.ensures.some (omega (arith, long, other, fits)) refl c.in-Ok.ensures.heard,
      ),
    )

pub returns-then-end-ne211-clause-heard : goal.returns-then-end-ne211-clause-heard
returns-then-end-ne211-clause-heard g c =
    let piece = take c.in-Ok.end.len c.hear_line.new.buf in
    let long : length piece ≡ c.in-Ok.end.len = length-take-le c.in-Ok.end.len c.hear_line.new.buf c.in-Ok.ensures.room in
    let reader = c.hear_line.new.reader in (
      line_is_meant Group _ c.in-Ok.end.code reader c.in-Ok.ensures.heard.line,
      c.if-end-ne211.true,
      (
        held reader,
        line_answers (g.L.Links.trace c.args.links.now) (g.L.Links.trace c.hear_line.new.links) c.args.link c.args.patience Group piece c.in-Ok.end.used c.in-Ok.end.code reader
            c.requires.patient c.in-Ok.ensures.some (c.if-end.false ∙ sym long) refl c.in-Ok.ensures.heard,
      ),
    )

pub returns-then-end-2-clause-heard : goal.returns-then-end-2-clause-heard
returns-then-end-2-clause-heard g c =
    let piece = take c.in-Ok.end.len c.hear_line.new.buf in
    let long : length piece ≡ c.in-Ok.end.len = length-take-le c.in-Ok.end.len c.hear_line.new.buf c.in-Ok.ensures.room in
    let other = c.if-end-2.true in
    let fits = c.in-Ok.ensures.fits in
    let reader = c.hear_line.new.reader in (
      held reader,
      ap group_of (sym c.line.ensures) ∙ sym c.read_group.ensures.reading ∙ c.in-Some.is,
      subst (λ (n : ℕ). HeardTo (g.L.Links.trace c.args.links.now) (g.L.Links.trace c.hear_line.new.links) c.args.link c.args.patience Group (line_reply n (held reader) ∷ []) (Some why.Unasked)) c.if-end-ne211.false
          (line_answers_more (g.L.Links.trace c.args.links.now) (g.L.Links.trace c.hear_line.new.links) c.args.link c.args.patience Group piece c.in-Ok.end.used c.in-Ok.end.code reader
          c.requires.patient c.in-Ok.ensures.some (omega (arith, long, other, fits)) refl c.in-Ok.ensures.heard),
    )

pub returns-clause-heard : goal.returns-clause-heard
returns-clause-heard g c =
    let piece = take c.in-Ok.end.len c.hear_line.new.buf in
    let long : length piece ≡ c.in-Ok.end.len = length-take-le c.in-Ok.end.len c.hear_line.new.buf c.in-Ok.ensures.room in
    let reader = c.hear_line.new.reader in (
      held reader,
      ap group_of (sym c.line.ensures) ∙ sym c.read_group.ensures.reading ∙ c.in-Some.is,
      subst (λ (n : ℕ). HeardTo (g.L.Links.trace c.args.links.now) (g.L.Links.trace c.hear_line.new.links) c.args.link c.args.patience Group (line_reply n (held reader) ∷ []) None) c.if-end-ne211.false
          (line_answers (g.L.Links.trace c.args.links.now) (g.L.Links.trace c.hear_line.new.links) c.args.link c.args.patience Group piece c.in-Ok.end.used c.in-Ok.end.code reader
          c.requires.patient c.in-Ok.ensures.some (c.if-end-2.false ∙ sym long) refl c.in-Ok.ensures.heard),
    )
