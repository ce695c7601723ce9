use Rattle.std.proofs.Common.{◌≡◌, ◌∙◌, true, false, ap}
use Rattle.command_words.specs.Keys.{is_header_name}
use Rattle.command_words.proofs.WordsLemmas.{name_of_header}
use Rattle.command_words.proofs.words.header_name.Goals as goal

pub unreachable-requires : goal.unreachable-requires
unreachable-requires c =
    let never : false ≡ true = c.in-None.ensures.rule.1 (name_of_header _ (ap is_header_name c.name_given.ensures ∙ c.requires)) in
    cc
