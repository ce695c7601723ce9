use Rattle.std.proofs.Common.{◌∙◌}
use Rattle.std.specs.Option.{is_some}
use Rattle.nntp_lines.specs.GroupName.{is_group_byte}
use Rattle.article_head.proofs.Pieces.{same_test}
use Rattle.article_head.proofs.field.is_name.Goals as goal

pub returns : goal.returns
returns c = c.is_some.ensures ∙ same_test is_group_byte 200 c.args.name.now (is_some c.new.result) c.new.ensures.rule.0 c.new.ensures.rule.1
