-- A text has one list of packets, and so one set or none.
use Rattle.std.proofs.Common.{◌≡◌, ℕ, zero, suc, ◌≤◌, List, [], ◌∷◌, Option, Some, None, length, take, drop, refl, sym, ap, subst, ◌∙◌, arith, length-append, length-drop}
use Rattle.std.proofs.lemmas.List.{drop_at, take-append-drop, take_at}
use Rattle.par2_check.specs.Packets.{ArePackets, BeginsPacket, IsPacketWith, at_end, passed, taken}
use Rattle.par2_check.specs.PacketLength.{packet_len}
use Rattle.par2_check.specs.Set.{IsSetOf, set_in}
use Rattle.par2_check.specs.declared.set.ParSet.{ParSet}
use Rattle.par2_check.proofs.PacketLaws.{none_begins, packet_found, packet_there}

-- what is found begins the text
found_begins : (text : List ℕ) (len : ℕ) → packet_len text ≡ Some len → BeginsPacket text
found_begins text len found =
    let good = packet_found text len found in (take len text, (drop len text, record { text_is = sym (take-append-drop len text); good = good.2 }))

-- ---- there is one

some_list_to : (most : ℕ) (text : List ℕ) → length text ≤ most → (packets : List (List ℕ)) × ArePackets text packets
some_list_to zero [] le = ([], ArePackets.at_end)
some_list_to zero (byte ∷ rest) le = absurd (omega (arith, le))
some_list_to (suc most) [] le = ([], ArePackets.at_end)
some_list_to (suc most) (byte ∷ rest) le =
    (elim (packet_len (byte ∷ rest)) as (λ (o : Option ℕ). packet_len (byte ∷ rest) ≡ o → (packets : List (List ℕ)) × ArePackets (byte ∷ rest) packets) [
      | None ↦ λ none. (let behind = some_list_to most rest (omega (arith, le)) in (behind.0, ArePackets.passed byte rest behind.0 (none_begins (byte ∷ rest) none) behind.1))
      | Some len ↦ λ found. (
          let good = packet_found (byte ∷ rest) len found in
          let behind = some_list_to most (drop len (byte ∷ rest)) (omega (arith, le, good.0, length-drop len (byte ∷ rest))) in (
            take len (byte ∷ rest) ∷ behind.0,
            ArePackets.taken (byte ∷ rest) (take len (byte ∷ rest)) (drop len (byte ∷ rest)) behind.0 (record { text_is = sym (take-append-drop len (byte ∷ rest)); good = good.2 }) behind.1,
          ))
    ]) refl

pub some_list : (text : List ℕ) → (packets : List (List ℕ)) × ArePackets text packets
some_list text = some_list_to (length text) text (omega arith)

-- ---- there is no other

-- what follows a packet that is found
record Follows (text : List ℕ) (len : ℕ) (packets : List (List ℕ)) : Type 0 where
  rest : List (List ℕ)
  are : ArePackets (drop len text) rest
  packets_are : packets ≡ take len text ∷ rest

same_length : (text packet rest : List ℕ) (len : ℕ) → packet_len text ≡ Some len → IsPacketWith text packet rest → len ≡ length packet
same_length text packet rest len found begins =
    let there : packet_len text ≡ Some (length packet) = ap packet_len begins.text_is ∙ packet_there packet rest begins.good in
    let both : Some len ≡ Some (length packet) = sym found ∙ there in
    cc

follows : (text : List ℕ) (packets : List (List ℕ)) (len : ℕ) → packet_len text ≡ Some len → ArePackets text packets → Follows text len packets
follows [] [] len found at_end = let good = packet_found [] len found in absurd (omega (arith, good.0, good.1))
follows text (packet ∷ packets) len found (taken t p rest ps begins are) =
    let e : len ≡ length packet = same_length text packet rest len found begins in
    record {
      rest = packets;
      are = subst (λ (l : List ℕ). ArePackets l packets) (sym (ap (drop len) begins.text_is ∙ drop_at packet rest len (sym e))) are;
      packets_are = ap (λ (l : List ℕ). l ∷ packets) (sym (ap (take len) begins.text_is ∙ take_at packet rest len (sym e)));
    }
follows (byte ∷ rest) packets len found (passed b r ps none are) = absurd (none (found_begins (byte ∷ rest) len found))

nothing_follows : (text : List ℕ) (packets : List (List ℕ)) → text ≡ [] → ArePackets text packets → [] ≡ packets
nothing_follows [] [] e at_end = refl
nothing_follows text (packet ∷ packets) e (taken t p rest ps begins are) = absurd (omega (arith, begins.good.least, ap length (sym begins.text_is ∙ e), length-append packet rest))
nothing_follows (byte ∷ rest) packets e (passed b r ps none are) = absurd (cc)

passed_too : (byte : ℕ) (rest : List ℕ) (packets : List (List ℕ)) → ¬ (BeginsPacket (byte ∷ rest)) → ArePackets (byte ∷ rest) packets → ArePackets rest packets
passed_too byte rest (packet ∷ packets) none (taken t p r ps begins are) = absurd (none (packet, (r, begins)))
passed_too byte rest packets none (passed b r ps not_there are) = are

pub one_list : (text : List ℕ) (one other : List (List ℕ)) → ArePackets text one → ArePackets text other → one ≡ other
one_list [] [] other at_end others = nothing_follows [] other refl others
one_list text (packet ∷ packets) other (taken t p rest ps begins are) others =
    let found : packet_len text ≡ Some (length packet) = ap packet_len begins.text_is ∙ packet_there packet rest begins.good in
    let next : Follows text (length packet) other = follows text other (length packet) found others in
    let behind : ArePackets rest next.rest = subst (λ (l : List ℕ). ArePackets l next.rest) (ap (drop (length packet)) begins.text_is ∙ drop_at packet rest (length packet) refl) next.are in
    let first : packet ≡ take (length packet) text = sym (ap (take (length packet)) begins.text_is ∙ take_at packet rest (length packet) refl) in
    ap (λ (l : List (List ℕ)). packet ∷ l) (one_list rest packets next.rest are behind) ∙ ap (λ (l : List ℕ). l ∷ next.rest) first ∙ sym next.packets_are
one_list (byte ∷ rest) packets other (passed b r ps none are) others = one_list rest packets other are (passed_too byte rest other none others)

-- ---- the set

pub some_set : (text : List ℕ) → (set : Option ParSet) × IsSetOf text set
some_set text = let list = some_list text in (set_in list.0, record { packets = list.0; are = list.1; set_is = refl })

pub one_set : (text : List ℕ) (one other : Option ParSet) → IsSetOf text one → IsSetOf text other → one ≡ other
one_set text one other a b = sym a.set_is ∙ ap set_in (one_list text a.packets b.packets a.are b.are) ∙ b.set_is
