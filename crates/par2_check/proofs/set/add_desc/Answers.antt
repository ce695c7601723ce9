use Rattle.std.proofs.Common.{◌≡◌, true, false, rules, sym, ◌∙◌}
use Rattle.std.proofs.lemmas.Result.{on_ok_weaker}
use Rattle.par2_check.specs.Bodies.{is_desc}
use Rattle.par2_check.proofs.FirstLaws.{added, kept}
use Rattle.par2_check.proofs.set.add_desc.Goals as goal

pub returns-then-not-is_desc : goal.returns-then-not-is_desc
returns-then-not-is_desc c = λ are.
    let fails : c.is_desc.result ≡ false = search rules in
    kept (is_desc c.args.set.now) c.args.packets.now c.args.number c.packet-packet.result.now c.args.descs.now c.packet-packet.ensures (sym c.is_desc.ensures ∙ fails) are

pub returns : goal.returns
returns c =
    on_ok_weaker c.add.result (λ is. λ are.
    let passes : c.is_desc.result ≡ true = search rules in
    added (is_desc c.args.set.now) c.args.packets.now c.args.number c.packet-packet.result.now c.sixteen_at.result c.args.descs.now c.add.new.self c.packet-packet.ensures c.requires (sym c.is_desc.ensures ∙ passes)
    c.sixteen_at.ensures is are) c.add.ensures
