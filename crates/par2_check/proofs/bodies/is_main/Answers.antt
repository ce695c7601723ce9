use Rattle.std.proofs.Common.{ℕ, Bool, ◌≡◌, ◌-◌, ◌%◌, ◌==◌, true, false, length, List, rules, sym, ◌∙◌}
use Rattle.std.specs.Prelude.{nat_le}
use Rattle.std.proofs.lemmas.Bool.{eq-eqb, ne_eqb}
use Rattle.par2_check.specs.Bodies.{id_count, is_kind, is_slice_size, main_type, slice_of}
use Rattle.par2_check.specs.Packets.{word_at}
use Rattle.par2_check.proofs.Tests.{all_four, first_fails, second_of_four, third_of_four}
use Rattle.par2_check.proofs.bodies.is_main.Goals as goal

abbrev sized : List ℕ → Bool
sized packet = is_slice_size (slice_of packet)

abbrev cut : List ℕ → Bool
cut packet = (length packet - 76) % 16 == 0

abbrev counted : List ℕ → Bool
counted packet = nat_le (word_at 72 packet) (id_count packet)

pub returns-then-not-is_kind : goal.returns-then-not-is_kind
returns-then-not-is_kind c =
    let packet : List ℕ = c.args.packet.now in
    let test : c.is_kind.result ≡ false = search rules in
    first_fails (is_kind 76 main_type packet) (sized packet) (cut packet) (counted packet) (sym c.is_kind.ensures ∙ test)

pub returns-then-not-is_slice_size : goal.returns-then-not-is_slice_size
returns-then-not-is_slice_size c =
    let packet : List ℕ = c.args.packet.now in
    let test : c.is_kind.result ≡ true = search rules in
    let size : c.is_slice_size.result ≡ false = search rules in
    let sized_is : c.is_slice_size.result ≡ sized packet = search rules in
    second_of_four (is_kind 76 main_type packet) (sized packet) (cut packet) (counted packet) (sym c.is_kind.ensures ∙ test) (sym sized_is ∙ size)

pub returns-then-ids-ne0 : goal.returns-then-ids-ne0
returns-then-ids-ne0 c =
    let packet : List ℕ = c.args.packet.now in
    let test : c.is_kind.result ≡ true = search rules in
    let size : c.is_slice_size.result ≡ true = search rules in
    let sized_is : c.is_slice_size.result ≡ sized packet = search rules in
    third_of_four (is_kind 76 main_type packet) (sized packet) (cut packet) (counted packet) (sym c.is_kind.ensures ∙ test) (sym sized_is ∙ size) (ne_eqb ((length packet - 76) % 16) 0 c.if-ids-ne0.true)

pub returns : goal.returns
returns c =
    let packet : List ℕ = c.args.packet.now in
    let test : c.is_kind.result ≡ true = search rules in
    let size : c.is_slice_size.result ≡ true = search rules in
    let sized_is : c.is_slice_size.result ≡ sized packet = search rules in
    all_four (is_kind 76 main_type packet) (sized packet) (cut packet) (counted packet) _ (sym c.is_kind.ensures ∙ test) (sym sized_is ∙ size) (eq-eqb ((length packet - 76) % 16) 0 c.if-ids-ne0.false)
    (search rules)
