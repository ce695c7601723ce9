use Rattle.std.proofs.Common.{◌≡◌, ◌+◌, ◌-◌, ◌<◌, ◌≤◌, ◌∷◌, ℕ, List, Some, None, length, drop, take, ap, subst, sym, ◌∙◌, arith, length-drop}
use Rattle.std.proofs.lemmas.List.{take_rest}
use Rattle.memchr.specs.Find.{NoneBefore, OccursAt}
use Rattle.par2_check.specs.Packets.{ArePackets, signature}
use Rattle.par2_check.specs.PacketLength.{packet_len}
use Rattle.par2_check.proofs.PacketLaws.{behind_it, found_at, none_left, nowhere_at, one_on, packet_found, up_to}
use Rattle.par2_check.proofs.packets.next_packet.Goals as goal

pub returns-in-Some-packet_len : goal.returns-in-Some-packet_len
returns-in-Some-packet_len c =
    let text : List ℕ = c.args.text.now in
    let at : ℕ = c.loop-behind.at in
    let start : ℕ = at + c.in-Some.behind in
    let len : ℕ = c.in-Some-packet_len.len in
    let found : packet_len (drop start text) ≡ Some len = ap packet_len (sym (take_rest text start)) ∙ sym c.packet_len.ensures ∙ c.in-Some-packet_len.is in
    let good = packet_found (drop start text) len found in
    let first : NoneBefore (OccursAt (drop at text) signature) 0 (length (drop at text) + 1) c.in-Some.behind = found_at text c.args.finder.now at c.in-Some.behind c.requires.signature (c.in-Some.ensures.0) in
    let e : start + len - start ≡ len = omega arith in (
      omega (arith, c.loop-behind.invariant.low),
      omega (arith, good.0),
      omega (arith, good.0, good.1, length-drop start text),
      λ packets are.
          c.loop-behind.invariant.rest _ (
          up_to text at c.in-Some.behind _ first (
          subst (λ (n : ℕ). ArePackets (drop start text) (take n (drop start text) ∷ packets)) (sym e) (behind_it text start len packets found are))),
    )

pub loop-behind-preserved : goal.loop-behind-preserved
loop-behind-preserved c =
    let text : List ℕ = c.args.text.now in
    let at : ℕ = c.loop-behind.at in
    let start : ℕ = at + c.in-Some.behind in
    let none : packet_len (drop start text) ≡ None = ap packet_len (sym (take_rest text start)) ∙ sym c.packet_len.ensures ∙ c.in-None.is in
    let first : NoneBefore (OccursAt (drop at text) signature) 0 (length (drop at text) + 1) c.in-Some.behind = found_at text c.args.finder.now at c.in-Some.behind c.requires.signature (c.in-Some.ensures.0) in
    let fits : c.in-Some.behind + length c.args.finder.now ≤ length (take (length text - at) (drop at text)) = c.in-Some.ensures.1.fits in
    let there : start < length text = omega (arith, fits, ap length (take_rest text at), length-drop at text, ap length c.requires.signature) in
    record {
      low = omega (arith, c.loop-behind.invariant.low);
      high = omega arith;
      rest = λ packets are. c.loop-behind.invariant.rest packets (up_to text at c.in-Some.behind packets first (one_on text start packets there none are));
    }

pub returns : goal.returns
returns c = c.loop-behind.invariant.rest _ (none_left (drop c.loop-behind.at c.args.text.now) (nowhere_at c.args.text.now c.args.finder.now c.loop-behind.at c.requires.signature c.in_default.ensures))
