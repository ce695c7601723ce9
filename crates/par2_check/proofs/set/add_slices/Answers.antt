use Rattle.std.proofs.Common.{◌≡◌, true, false, rules, sym, ◌∙◌}
use Rattle.std.proofs.lemmas.Bool.{and_from, and_left, and_right}
use Rattle.std.proofs.lemmas.Result.{on_ok_weaker}
use Rattle.par2_check.specs.Bodies.{is_slices}
use Rattle.par2_check.specs.Set.{counts_in, is_wanted}
use Rattle.par2_check.proofs.FirstLaws.{added, kept}
use Rattle.par2_check.proofs.set.add_slices.Goals as goal

pub returns-then-not-is_slices : goal.returns-then-not-is_slices
returns-then-not-is_slices c = λ are.
    let packet = c.packet-packet.result.now in
    let fails : c.is_slices.result ≡ false = search rules in
    kept (counts_in c.args.slice c.args.set.now c.args.packets.now) c.args.packets.now c.args.number packet c.args.entries.now c.packet-packet.ensures
    (and_left (is_slices c.args.set.now packet) (is_wanted c.args.slice c.args.set.now c.args.packets.now packet) (sym c.is_slices.ensures ∙ fails)) are

pub returns-then-not-is_wanted : goal.returns-then-not-is_wanted
returns-then-not-is_wanted c = λ are.
    let packet = c.packet-packet.result.now in
    let fails : c.is_wanted.result ≡ false = search rules in
    kept (counts_in c.args.slice c.args.set.now c.args.packets.now) c.args.packets.now c.args.number packet c.args.entries.now c.packet-packet.ensures
    (and_right (is_slices c.args.set.now packet) (is_wanted c.args.slice c.args.set.now c.args.packets.now packet) (sym c.is_wanted.ensures ∙ fails)) are

pub returns : goal.returns
returns c =
    on_ok_weaker c.add.result (λ is. λ are.
    let packet = c.packet-packet.result.now in
    let slices : c.is_slices.result ≡ true = search rules in
    let wanted : c.is_wanted.result ≡ true = search rules in
    added (counts_in c.args.slice c.args.set.now c.args.packets.now) c.args.packets.now c.args.number packet c.sixteen_at.result c.args.entries.now c.add.new.self c.packet-packet.ensures c.requires.inside
    (and_from (is_slices c.args.set.now packet) (is_wanted c.args.slice c.args.set.now c.args.packets.now packet) (sym c.is_slices.ensures ∙ slices) (sym c.is_wanted.ensures ∙ wanted))
    c.sixteen_at.ensures is are) c.add.ensures
