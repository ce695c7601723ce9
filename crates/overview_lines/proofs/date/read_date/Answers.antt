use Rattle.std.proofs.Common.{◌≡◌, ◌∙◌, ap}
use Rattle.overview_lines.specs.Date.{date_of, seconds_of}
use Rattle.overview_lines.proofs.DateLaws.{read_says}
use Rattle.overview_lines.proofs.date.read_date.Goals as goal

-- what is read
read : (c : goal.After-seconds_of) → c.seconds_of.result ≡ date_of c.args.text.now
unfolding date_of
read c = c.seconds_of.ensures.reading ∙ ap seconds_of c.words_of.ensures

pub returns-clause-date : goal.returns-clause-date
returns-clause-date c = read_says c.args.text.now c.seconds_of.result (read c)
