-- The fields one after the other, with TABs between.
use Rattle.std.proofs.Common.{ℕ, List, ◌∙◌, ap, length}
use Rattle.news_spool.proofs.OverviewLines.{fields_joined}
use Rattle.news_spool.proofs.overview.append_overview.Goals as goal

pub returns : goal.returns
returns c =
    fields_joined c.args.number c.in_ok-octets.octets c.len.result c.args.article.now c.as_slice.result.now c.args.date.now c.args.out.now
    c.extend_number.new.self c.append_field.new.out c.append_field-2.new.out c.extend.new.self c.extend-2.new.self c.extend-3.new.self c.extend-4.new.self
    c.extend-5.new.self c.extend_number-2.new.self c.extend-6.new.self c.extend_number-3.new.self
    c.in_ok-extend_number.ensures c.in_ok-append_field.ensures c.in_ok-append_field-2.ensures c.in_ok-extend.ensures.ok c.in_ok-extend-2.ensures.ok
    c.in_ok-extend-3.ensures.ok c.in_ok-extend-4.ensures.ok c.in_ok-extend-5.ensures.ok c.in_ok-extend_number-2.ensures c.in_ok-extend-6.ensures.ok
    c.in_ok-extend_number-3.ensures c.as_slice.ensures.bytes c.in_ok-octets.ensures
    (c.len.ensures.count ∙ ap (λ (lines : List (List ℕ)). length lines) c.as_lines.ensures.lines)
