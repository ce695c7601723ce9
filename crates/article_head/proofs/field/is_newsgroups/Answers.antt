-- More than nine commas are more than ten names.
use Rattle.std.proofs.Common.{arith}
use Rattle.article_head.proofs.Pieces.{few_names}
use Rattle.article_head.proofs.field.is_newsgroups.Goals as goal

pub returns-then-commas_in-gt9 : goal.returns-then-commas_in-gt9
returns-then-commas_in-gt9 c = (λ wrong. cc, λ newsgroups. absurd (omega (arith, c.commas_in.ensures, few_names c.args.text.now newsgroups)))
