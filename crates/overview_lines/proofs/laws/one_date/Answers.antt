use Rattle.overview_lines.proofs.DateLaws.{date_is_read}
use Rattle.overview_lines.proofs.DayLaws.{day_numbers_are_known}
use Rattle.overview_lines.proofs.laws.one_date.Goals as goal

pub returns-clause-date : goal.returns-clause-date
returns-clause-date c = date_is_read

pub returns-clause-day : goal.returns-clause-day
returns-clause-day c = day_numbers_are_known
