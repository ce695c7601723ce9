-- The decoder of an article that hasn't ended, also of a link that is over.
use Rattle.std.proofs.Common.{sym, ◌∙◌}
use Rattle.fetch_link.proofs.Shown.{in_line_none, shown_block}
use Rattle.fetch_link.proofs.connection.Connection.decoder.Goals as goal

pub returns-in-Line : goal.returns-in-Line
returns-in-Line c = record { decoder = λ h mode against stands. in_line_none c.args.self.now h mode against c.in-Line.is stands }

pub returns-then-is_shown : goal.returns-then-is_shown
returns-then-is_shown c = record { decoder = λ h mode against stands. shown_block c.args.self.now h mode against c.in-Article.is (sym c.is_shown.ensures ∙ c.if-is_shown.true) stands }
