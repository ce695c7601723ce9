use Rattle.std.proofs.Common.{◌∙◌, ◌+◌, ◌≤◌, ◌++◌, ap, length, map, subst, sym}
use Rattle.std.specs.Prelude.{codes}
use Rattle.article_head.specs.OutName.{IsOutName, four_digits, name_or_file, portable}
use Rattle.article_head.specs.QuotedName.{quoted_name}
use Rattle.article_head.proofs.OutNameLaws.{is_out_name, kept_short}
use Rattle.article_head.proofs.files.out_name.Goals as goal

pub put_out_name-len-requires-clause-short : goal.put_out_name-len-requires-clause-short
put_out_name-len-requires-clause-short c = subst (λ name. length name ≤ 200) (sym c.kept_name.ensures) (kept_short (name_or_file (quoted_name c.args.subject.now)))

pub invariant_of-result : goal.invariant_of-result
invariant_of-result c =
    subst IsOutName
    (sym (c.in-Some.ensures.same ∙ c.put_out_name-len.ensures.text ∙ ap (λ name. four_digits (c.args.file + 1) ++ codes "-" ++ map portable name) c.kept_name.ensures))
    (is_out_name c.args.file c.args.subject.now)
