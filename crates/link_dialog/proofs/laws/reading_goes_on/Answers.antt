use Rattle.link_dialog.specs.Replies.{whole_reply}
use Rattle.link_dialog.proofs.Readings.{read_on}
use Rattle.link_dialog.proofs.laws.reading_goes_on.Goals as goal

pub returns : goal.returns
returns c kinds more_kinds bytes more = read_on whole_reply kinds more_kinds bytes more
