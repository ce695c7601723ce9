use Rattle.std.proofs.Common.{sym, ◌∙◌}
use Rattle.link_dialog.proofs.laws.one_list_of_replies.Goals as goal

pub returns : goal.returns
returns c messages patience events a b one two = sym one.answers ∙ two.answers
