use Rattle.std.proofs.Common.{sym, subst}
use Rattle.std.specs.Str.{IsUtf8}
use Rattle.article_head.specs.OutName.{IsFilename}
use Rattle.article_head.proofs.OutNameLaws.{is_filename, is_text}
use Rattle.article_head.proofs.files.OutName.as_str.Goals as goal

pub unreachable-requires : goal.unreachable-requires
unreachable-requires c = c.in-Err.ensures.cases.0 (subst IsUtf8 (sym c.as_slice.ensures) (is_text c.self.inside.text c.self.invariant))

pub returns-clause-filename : goal.returns-clause-filename
returns-clause-filename c = subst IsFilename c.self.view_is (is_filename c.self.inside.text c.self.invariant)
