use Rattle.link_dialog.proofs.Greatest.{replies_prefix_free}
use Rattle.link_dialog.proofs.laws.no_reply_begins_another.Goals as goal

pub returns : goal.returns
returns c = replies_prefix_free
