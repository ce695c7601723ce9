use Rattle.link_dialog.specs.Replies.{whole_reply}
use Rattle.link_dialog.proofs.Greatest.{reading_is_split, reading_is_greatest, replies_prefix_free}
use Rattle.link_dialog.proofs.laws.greatest_number_of_replies.Goals as goal

pub returns-clause-split : goal.returns-clause-split
returns-clause-split c kinds bytes = reading_is_split whole_reply kinds bytes

pub returns-clause-greatest : goal.returns-clause-greatest
returns-clause-greatest c kinds bytes replies waiting rest split = reading_is_greatest whole_reply kinds bytes replies waiting rest replies_prefix_free split
