use Rattle.std.proofs.Common.{ap, inl, inr, sym, ◌∙◌}
use Rattle.std.specs.Map.{lookup, set_value}
use Rattle.std.specs.Option.{option_copied_mut}
use Rattle.overview_index.specs.Grouper.{is_spelled}
use Rattle.overview_index.proofs.grouper.Grouper.put.Goals as goal

pub returns-in-Some-clause-files : goal.returns-in-Some-clause-files
returns-in-Some-clause-files c =
    let files = c.args.self.now.files.entries in
    inl (record {
      before = c.in-Some.draft.now;
      behind = c.add.new.self;
      there = ap (λ text. lookup (is_spelled text) files) (sym c.as_slice.ensures) ∙ sym c.get_mut.ensures.value ∙ ap option_copied_mut c.in-Some.is;
      adds = c.add.ensures;
      files = (c.get_mut.follows.holds c.add.new.self).0 ∙ ap (λ text. set_value (is_spelled text) files c.add.new.self) c.as_slice.ensures;
    })

pub returns-in-None-clause-files : goal.returns-in-None-clause-files
returns-in-None-clause-files c =
    let files = c.args.self.now.files.entries in
    inr (record {
      absent = ap (λ text. lookup (is_spelled text) files) (sym c.as_slice.ensures) ∙ sym c.get_mut.ensures.value ∙ ap option_copied_mut c.in-None.is;
      adds = rw c.get_mut.follows.holds-at-none at c.begin_file.ensures.files;
    })
