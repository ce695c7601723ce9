use Rattle.std.proofs.Common.{◌≡◌, ◌++◌, List, Option, Some, None, ap, sym, ◌∙◌, append-nil}
use Rattle.std.specs.Option.{option_to_list}
use Rattle.std.proofs.lemmas.Result.{on_ok_weaker}
use Rattle.par2_check.specs.Set.{file_of}
use Rattle.par2_check.specs.declared.set.ParFile.{ParFile}
use Rattle.par2_check.proofs.SetLaws.{desc_found, file_of_both, file_without_slices, slices_found}
use Rattle.par2_check.proofs.set.add_file.Goals as goal

pub returns-in_default-first : goal.returns-in_default-first
returns-in_default-first c =
    let files : List ParFile = c.args.files.now in
    let none : file_of c.args.slice c.args.set.now c.args.packets.now c.args.id.now ≡ None =
    file_without_slices c.args.slice c.args.set.now c.args.id.now c.args.packets.now c.args.descs.now c.args.entries.now c.in-Some.desc c.requires.descs c.requires.entries
    (sym c.first.ensures ∙ c.in-Some.is) (sym c.first-2.ensures ∙ c.in_default-first.is) in
    sym (ap (λ (o : Option ParFile). files ++ option_to_list o) none ∙ append-nil files)

pub par_file-requires-clause-desc : goal.par_file-requires-clause-desc
par_file-requires-clause-desc c =
    (
    desc_found c.args.set.now c.args.id.now c.args.packets.now c.args.descs.now c.in-Some.desc c.packet.result.now c.requires.descs (sym c.first.ensures ∙ c.in-Some.is) c.packet.ensures
    ).1

pub par_file-requires-clause-slices : goal.par_file-requires-clause-slices
par_file-requires-clause-slices c =
    (
    slices_found c.args.slice c.args.set.now c.args.id.now c.args.packets.now c.args.entries.now c.in-Some-first.slices c.packet-2.result.now c.requires.entries (sym c.first-2.ensures ∙ c.in-Some-first.is)
    c.packet-2.ensures
    ).1

pub returns : goal.returns
returns c =
    let files : List ParFile = c.args.files.now in
    let desc =
    desc_found c.args.set.now c.args.id.now c.args.packets.now c.args.descs.now c.in-Some.desc c.packet.result.now c.requires.descs (sym c.first.ensures ∙ c.in-Some.is) c.packet.ensures in
    let slices =
    slices_found c.args.slice c.args.set.now c.args.id.now c.args.packets.now c.args.entries.now c.in-Some-first.slices c.packet-2.result.now c.requires.entries (sym c.first-2.ensures ∙ c.in-Some-first.is)
    c.packet-2.ensures in
    let found : file_of c.args.slice c.args.set.now c.args.packets.now c.args.id.now ≡ Some c.in_ok-file.file =
    file_of_both c.args.slice c.args.set.now c.args.id.now c.args.packets.now c.packet.result.now c.packet-2.result.now desc.0 slices.0
    ∙ ap (λ (file : ParFile). Some file) (sym c.in_ok-file.ensures) in
    on_ok_weaker c.push.result (λ pushed. pushed ∙ sym (ap (λ (o : Option ParFile). files ++ option_to_list o) found)) c.push.ensures.ok
