use Rattle.std.proofs.Common.{ℕ, Option, sym, ap, ◌∙◌}
use Rattle.std.specs.Prelude.{is_some}
use Rattle.nzb_index.proofs.TagEnds.{has_place}
use Rattle.nzb_index.proofs.tags.Scratch.has.Goals as goal

pub returns : goal.returns
returns c = c.is_some.ensures ∙ ap (λ (o : Option ℕ). is_some o) c.place_of.ensures ∙ sym (has_place c.args.name.now c.args.self.now.names c.args.self.now.values c.requires)
