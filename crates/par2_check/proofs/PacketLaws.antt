-- What the search for packets says of the packets of a text.
use Rattle.std.proofs.Common.{◌≡◌, ℕ, zero, suc, ◌+◌, ◌-◌, ◌%◌, ◌≤◌, ◌<◌, ◌==◌, Bool, true, false, cond, List, [], ◌∷◌, ◌++◌, Some, None, length, take, drop, get_or, bytes_eq, refl, sym, ap, subst, ◌∙◌, arith, length-append}
use Rattle.std.specs.Prelude.{nat_le, ◌&&◌}
use Rattle.std.specs.Int.{w64, from_le_bytes}
use Rattle.std.proofs.lemmas.Bool.{and_from, and_parts, cond-true, eq-eqb, eqb-true, le-leb, leb-true}
use Rattle.std.proofs.lemmas.List.{drop-drop, drop-take, drop_all, drop_more, get_or-take, length-take-le, take-take, take_rest, take-append-drop}
use Rattle.std.proofs.lemmas.Slice.Eq.{bytes_eq-Decides}
use Rattle.md5.specs.Md5.{md5}
use Rattle.memchr.specs.Find.{NoneBefore, Nowhere, OccursAt}
use Rattle.par2_check.specs.Packets.{ArePackets, BeginsPacket, IsPacket, long_at, part, signature}
use Rattle.par2_check.specs.PacketLength.{has_digest, is_headed, is_length, is_packet, packet_len}
use Rattle.par2_check.proofs.Parts.{part-append, part-take}

found_by : (b : Bool) (n len : ℕ) → cond b (Some n) None ≡ Some len → (b ≡ true) × (n ≡ len)
found_by true n len e = (refl, cc)
found_by false n len e = absurd (cc)

same_bytes : (a b : List ℕ) → bytes_eq a b ≡ true → a ≡ b
same_bytes a b e = (bytes_eq-Decides a b).0 e

-- what the tests of a length say
pub record IsTested (len : ℕ) (text : List ℕ) : Type 0 where
  pub begins : take 8 text ≡ signature
  pub least : 64 ≤ len
  pub fours : len % 4 ≡ 0
  pub inside : len ≤ length text
  pub digest : md5 (part 32 (len - 32) text) ≡ part 16 16 text

tested : (len : ℕ) (text : List ℕ) → is_packet len text ≡ true → IsTested len text
tested len text e =
    let whole = and_parts (is_headed text && is_length len text) (has_digest len text) e in
    let front = and_parts (is_headed text) (is_length len text) whole.0 in
    let lens = and_parts (nat_le 64 len && len % 4 == 0) (nat_le len (length text)) front.1 in
    let least = and_parts (nat_le 64 len) (len % 4 == 0) lens.0 in
    record {
      begins = same_bytes (part 0 8 text) signature ((and_parts (nat_le 64 (length text)) (bytes_eq (part 0 8 text) signature) front.0).1);
      least = leb-true 64 len least.0;
      fours = eqb-true (len % 4) 0 least.1;
      inside = leb-true len (length text) lens.1;
      digest = same_bytes (md5 (part 32 (len - 32) text)) (part 16 16 text) whole.1;
    }

-- the first bytes of a text that pass are a good packet
good_of : (len : ℕ) (text : List ℕ) → IsTested len text → long_at 8 text ≡ len → IsPacket (take len text)
good_of len text t is =
    let count : length (take len text) ≡ len = length-take-le len text t.inside in
    let split : len ≡ 32 + (len - 32) = omega (arith, t.least) in
    let behind : drop 32 (take len text) ≡ part 32 (len - 32) text = ap (λ n. drop 32 (take n text)) split ∙ drop-take 32 (len - 32) text in
    record {
      begins = take-take 8 len text (omega (arith, t.least)) ∙ t.begins;
      size = ap (from_le_bytes w64) (part-take 8 8 len text (omega (arith, t.least))) ∙ is ∙ sym count;
      least = omega (arith, t.least, count);
      fours = ap (λ n. n % 4) count ∙ t.fours;
      digest = ap md5 behind ∙ t.digest ∙ sym (part-take 16 16 len text (omega (arith, t.least)));
    }

-- what is found is a good packet
pub packet_found : (text : List ℕ) (len : ℕ) → packet_len text ≡ Some len → (64 ≤ len) × (len ≤ length text) × IsPacket (take len text)
packet_found text len e =
    let by = found_by (is_packet (long_at 8 text) text) (long_at 8 text) len e in
    let t : IsTested len text = tested len text (subst (λ n. is_packet n text ≡ true) by.1 by.0) in
    (t.least, t.inside, good_of len text t by.1)

-- each good packet is found
pub packet_there : (packet rest : List ℕ) → IsPacket packet → packet_len (packet ++ rest) ≡ Some (length packet)
packet_there packet rest good =
    let len : ℕ = length packet in
    let text : List ℕ = packet ++ rest in
    let least : 64 ≤ len = good.least in
    let more : length text ≡ len + length rest = length-append packet rest in
    let is : long_at 8 text ≡ len = ap (from_le_bytes w64) (part-append 8 8 packet rest (omega arith)) ∙ good.size in
    let headed : is_headed text ≡ true =
    and_from (nat_le 64 (length text)) (bytes_eq (part 0 8 text) signature) (le-leb 64 (length text) (omega arith))
    ((bytes_eq-Decides (part 0 8 text) signature).1 (part-append 0 8 packet rest (omega arith) ∙ good.begins)) in
    let lens : is_length len text ≡ true =
    and_from (nat_le 64 len && len % 4 == 0) (nat_le len (length text))
    (and_from (nat_le 64 len) (len % 4 == 0) (le-leb 64 len least) (eq-eqb (len % 4) 0 good.fours)) (le-leb len (length text) (omega arith)) in
    let behind : part 32 (len - 32) text ≡ drop 32 packet = part-append 32 (len - 32) packet rest (omega arith) ∙ take_rest packet 32 in
    let digest : has_digest len text ≡ true =
    (bytes_eq-Decides (md5 (part 32 (len - 32) text)) (part 16 16 text)).1 (ap md5 behind ∙ good.digest ∙ sym (part-append 16 16 packet rest (omega arith))) in
    let whole : is_packet len text ≡ true =
    and_from (is_headed text && is_length len text) (has_digest len text) (and_from (is_headed text) (is_length len text) headed lens) digest in
    ap (λ (n : ℕ). cond (is_packet n text) (Some n) None) is ∙ cond-true (is_packet len text) (Some len) None whole

-- where none is found none begins
pub none_begins : (text : List ℕ) → packet_len text ≡ None → ¬ (BeginsPacket text)
none_begins text none (packet, (rest, begins)) =
    let there : packet_len text ≡ Some (length packet) = ap packet_len begins.text_is ∙ packet_there packet rest begins.good in
    cc

-- ---- the search for the next one

begins_occurs : (text : List ℕ) → BeginsPacket text → OccursAt text signature 0
begins_occurs text (packet, (rest, begins)) =
    let good = begins.good in
    let least : 64 ≤ length packet = good.least in
    let count : length text ≡ length packet + length rest = ap length begins.text_is ∙ length-append packet rest in
    let front : take 8 text ≡ signature = ap (take 8) begins.text_is ∙ part-append 0 8 packet rest (omega arith) ∙ good.begins in
    record {
      fits = omega arith;
      reads = λ j lt. let e : 0 + j ≡ j = omega arith in ap (λ (n : ℕ). get_or text n 0) e ∙ sym (get_or-take 8 text j 0 lt) ∙ ap (λ (bytes : List ℕ). get_or bytes j 0) front;
    }

occurs_later : (byte : ℕ) (text : List ℕ) (at : ℕ) → OccursAt text signature at → OccursAt (byte ∷ text) signature (suc at)
occurs_later byte text at occurs = record {
  fits = omega (arith, occurs.fits);
  reads = λ j lt. let e : suc at + j ≡ suc (at + j) = omega arith in ap (λ (n : ℕ). get_or (byte ∷ text) n 0) e ∙ occurs.reads j lt;
}

-- places at which no signature stands are passed
passes : (k : ℕ) (text : List ℕ) (packets : List (List ℕ)) → k ≤ length text → ((j : ℕ) → j < k → ¬ (OccursAt text signature j)) → ArePackets (drop k text) packets → ArePackets text packets
passes zero text packets le none are = are
passes (suc k) [] packets le none are = absurd (omega (arith, le))
passes (suc k) (byte ∷ text) packets le none are =
    ArePackets.passed byte text packets (λ begins. none 0 (omega arith) (begins_occurs (byte ∷ text) begins))
    (passes k text packets (omega (arith, le)) (λ j lt occurs. none (suc j) (omega (arith, lt)) (occurs_later byte text j occurs)) are)

-- where no signature stands there is no packet
pub none_left : (text : List ℕ) → Nowhere (OccursAt text signature) 0 (length text + 1) → ArePackets text []
none_left text none =
    passes (length text) text [] (omega arith) (λ j lt. none j (omega arith) (omega (arith, lt)))
    (subst (λ (l : List ℕ). ArePackets l []) (sym (drop_all (length text) text (omega arith))) ArePackets.at_end)

-- up to the place that is found
pub up_to : (text : List ℕ) (at behind : ℕ) (packets : List (List ℕ)) → NoneBefore (OccursAt (drop at text) signature) 0 (length (drop at text) + 1) behind
    → ArePackets (drop (at + behind) text) packets → ArePackets (drop at text) packets
up_to text at behind packets first are =
    passes behind (drop at text) packets (omega (arith, first.high)) (λ j lt. first.before j (omega arith) lt)
    (subst (λ (l : List ℕ). ArePackets l packets) (sym (drop-drop behind at text)) are)

-- one byte further on, where no packet begins
pub one_on : (text : List ℕ) (at : ℕ) (packets : List (List ℕ)) → at < length text → packet_len (drop at text) ≡ None → ArePackets (drop (at + 1) text) packets → ArePackets (drop at text) packets
one_on text at packets lt none are =
    let e : drop at text ≡ get_or text at 0 ∷ drop (at + 1) text = drop_more text at 0 lt in
    subst (λ (l : List ℕ). ArePackets l packets) (sym e)
    (ArePackets.passed (get_or text at 0) (drop (at + 1) text) packets (subst (λ (l : List ℕ). ¬ (BeginsPacket l)) e (none_begins (drop at text) none)) are)

-- behind the packet that begins there
pub behind_it : (text : List ℕ) (at len : ℕ) (packets : List (List ℕ)) → packet_len (drop at text) ≡ Some len → ArePackets (drop (at + len) text) packets → ArePackets (drop at text) (take len (drop at text) ∷ packets)
behind_it text at len packets found are =
    let good = packet_found (drop at text) len found in
    let rest : List ℕ = drop len (drop at text) in
    ArePackets.taken (drop at text) (take len (drop at text)) rest packets
    (record { text_is = sym (take-append-drop len (drop at text)); good = good.2 })
    (subst (λ (l : List ℕ). ArePackets l packets) (sym (drop-drop len at text)) are)

-- ---- what is searched is cut from the text

pub found_at : (text needle : List ℕ) (at behind : ℕ) → needle ≡ signature
    → NoneBefore (OccursAt (take (length text - at) (drop at text)) needle) 0 (length (take (length text - at) (drop at text)) + 1) behind
    → NoneBefore (OccursAt (drop at text) signature) 0 (length (drop at text) + 1) behind
found_at text needle at behind is first =
    subst (λ (n : List ℕ). NoneBefore (OccursAt (drop at text) n) 0 (length (drop at text) + 1) behind) is
    (subst (λ (l : List ℕ). NoneBefore (OccursAt l needle) 0 (length l + 1) behind) (take_rest text at) first)

pub nowhere_at : (text needle : List ℕ) (at : ℕ) → needle ≡ signature → Nowhere (OccursAt (take (length text - at) (drop at text)) needle) 0 (length (take (length text - at) (drop at text)) + 1)
    → Nowhere (OccursAt (drop at text) signature) 0 (length (drop at text) + 1)
nowhere_at text needle at is none =
    subst (λ (n : List ℕ). Nowhere (OccursAt (drop at text) n) 0 (length (drop at text) + 1)) is
    (subst (λ (l : List ℕ). Nowhere (OccursAt l needle) 0 (length l + 1)) (take_rest text at) none)
