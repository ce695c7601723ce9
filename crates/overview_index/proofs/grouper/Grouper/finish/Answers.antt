use Rattle.std.proofs.Common.{◌≡◌, ◌++◌, [], ◌∙◌, append-nil, ap, map, rules, sym}
use Rattle.std.specs.Map.{values_of}
use Rattle.overview_index.specs.Draft.{entry_of}
use Rattle.overview_index.proofs.Finished.{index_is}
use Rattle.overview_index.proofs.Validity.{index_valid}
use Rattle.overview_index.proofs.grouper.Grouper.finish.Goals as goal
use Rattle.overview_index.proofs.grouper.Grouper.finish.Goals.{After-drop-self-2}

all_made : (c : After-drop-self-2) → c.loop-draft.entries ≡ map (entry_of c.args.self.group) (values_of c.args.self.files.entries)
all_made c =
    let done : c.loop-draft.draft-iterator ≡ [] = search rules in
    sym (append-nil c.loop-draft.entries)
    ∙ ap (λ rest. c.loop-draft.entries ++ map (entry_of c.as_slice-name.result.now) rest) (sym done)
    ∙ c.loop-draft.invariant
    ∙ ap (λ name. map (entry_of name) (values_of c.args.self.files.entries)) c.as_slice-name.ensures.bytes

pub returns-clause-index : goal.returns-clause-index
returns-clause-index c = index_is c.args.self _ c.new.ensures (all_made c)

pub returns-clause-valid : goal.returns-clause-valid
returns-clause-valid c = index_valid c.args.self _ c.as_slice-name.ensures.rule c.new.ensures (all_made c)
