use Rattle.std.proofs.Common.{◌∙◌, ap, map, string_bytes, sym}
use Rattle.command_words.specs.Asked.{paired, takes_by}
use Rattle.command_words.specs.Keys.{values_of}
use Rattle.command_words.specs.PostValues.{is_domain, is_newsgroups}
use Rattle.command_words.specs.declared.keys.Rule.{Rule}
use Rattle.command_words.proofs.PostLaws.{same_domain, same_newsgroups}
use Rattle.command_words.proofs.keys.takes.Goals as goal

pub returns-in-Newsgroups : goal.returns-in-Newsgroups
returns-in-Newsgroups c =
    same_newsgroups c.as_bytes-bytes.result.now c.is_newsgroups.result c.is_newsgroups.ensures ∙ ap is_newsgroups c.as_bytes-bytes.ensures.value
    ∙ sym (ap (λ (rule : Rule). takes_by rule (values_of c.args.key.now (paired (map string_bytes c.args.before.now))) c.args.value.now) c.in-Newsgroups.is)

pub returns-in-Domain : goal.returns-in-Domain
returns-in-Domain c =
    same_domain c.as_bytes-bytes.result.now c.is_domain.result c.is_domain.ensures ∙ ap is_domain c.as_bytes-bytes.ensures.value
    ∙ sym (ap (λ (rule : Rule). takes_by rule (values_of c.args.key.now (paired (map string_bytes c.args.before.now))) c.args.value.now) c.in-Domain.is)
