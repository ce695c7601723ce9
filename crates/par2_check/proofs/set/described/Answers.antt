use Rattle.std.proofs.Common.{◌++◌, [], ℕ, List, Option, ap, sym, take, get_or, ◌∙◌}
use Rattle.std.specs.List.{filter_map}
use Rattle.std.specs.Option.{option_to_list}
use Rattle.std.proofs.lemmas.List.{take_more}
use Rattle.par2_check.specs.Set.{file_of}
use Rattle.par2_check.specs.declared.set.ParFile.{ParFile}
use Rattle.par2_check.proofs.SetLaws.{filter_map_behind}
use Rattle.par2_check.proofs.set.described.Goals as goal

pub loop-id-preserved : goal.loop-id-preserved
loop-id-preserved c =
    let file : List ℕ → Option ParFile = file_of c.args.slice c.args.set.now c.args.packets.now in
    let ids : List (List ℕ) = c.args.ids.now in
    let id : List ℕ = get_or ids c.loop-id.id-index [] in
    c.in_ok-add_file.ensures ∙ ap (λ (files : List ParFile). files ++ option_to_list (file id)) c.loop-id.invariant ∙ sym (filter_map_behind file (take c.loop-id.id-index ids) id)
    ∙ ap (filter_map file) (sym (take_more ids c.loop-id.id-index [] c.loop-id-test.true))
