use Rattle.std.proofs.Common.{◌≡◌, true, false}
use Rattle.nntp_lines.specs.GroupName.{is_group_byte}
use Rattle.server_logins.proofs.WordTests.{word_from_test}
use Rattle.command_words.proofs.index.group_of.Goals as goal

pub unreachable-requires : goal.unreachable-requires
unreachable-requires c =
    let never : false ≡ true = c.in-None.ensures.rule.1 (word_from_test is_group_byte 200 c.args.name.now c.requires) in
    cc
