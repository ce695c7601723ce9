-- What a post demands of its settings.
use Rattle.std.specs.Prelude.{◌≤◌}
use Rattle.article_head.specs.Field.{IsComment, IsFileName, IsFrom, IsNewsgroups}
use Rattle.article_head.specs.PartId.{IsDomain, IsToken}
use Rattle.poster.specs.declared.settings.Settings.{Settings}
use Rattle.limits.specs.declared.TheConstants.{LEAST_LINE, MOST_LINE, MOST_PART_BYTES, MOST_PATIENCE}

-- the fields say what they may; the address of the server may be any
pub record AreSettings (s : Settings) : Type 0 where
  pub from : IsFrom s.from
  pub newsgroups : IsNewsgroups s.newsgroups
  pub token : IsToken s.token
  pub domain : IsDomain s.domain
  pub comment : IsComment s.comment
  pub name : IsFileName s.name
  pub line_least : LEAST_LINE ≤ s.line
  pub line_most : s.line ≤ MOST_LINE
  pub part_size_least : 1 ≤ s.part_size
  pub part_size_most : s.part_size ≤ MOST_PART_BYTES
  pub patience_least : 1 ≤ s.patience
  pub patience_most : s.patience ≤ MOST_PATIENCE
