use Rattle.std.proofs.Common.{◌≡◌, true, bytes_eq, rules, sym, ◌∙◌}
use Rattle.std.specs.Prelude.{nat_le}
use Rattle.limits.specs.declared.TheConstants.{MOST_FILE_BYTES}
use Rattle.par2_check.specs.Bodies.{desc_type, is_kind, set_id, size_of}
use Rattle.par2_check.proofs.Tests.{both, second_fails}
use Rattle.par2_check.proofs.bodies.is_desc.Goals as goal

pub returns-then-is_of : goal.returns-then-is_of
returns-then-is_of c =
    let packet = c.args.packet.now in
    let kind : c.is_kind.result ≡ true = search rules in
    both (is_kind 120 desc_type packet) (bytes_eq (set_id packet) c.args.set.now) (nat_le (size_of packet) MOST_FILE_BYTES) _ (sym c.is_kind.ensures ∙ kind)
    (sym c.is_of.ensures ∙ c.if-is_of.true) (search rules)

pub returns-else-is_of : goal.returns-else-is_of
returns-else-is_of c =
    let packet = c.args.packet.now in
    let kind : c.is_kind.result ≡ true = search rules in
    second_fails (is_kind 120 desc_type packet) (bytes_eq (set_id packet) c.args.set.now) (nat_le (size_of packet) MOST_FILE_BYTES) _ (sym c.is_kind.ensures ∙ kind)
    (sym c.is_of.ensures ∙ c.if-is_of.false) c.is_of.ensures
