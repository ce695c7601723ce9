-- The packets of a PAR 2.0 text.
use Rattle.std.specs.Prelude.{◌≡◌, ℕ, ◌≤◌, ◌+◌, ◌-◌, ◌%◌, All, List, [], ◌∷◌, ◌++◌, length, take, drop, codes, Option, Some, None}
use Rattle.std.specs.Int.{w32, w64, from_le_bytes}
use Rattle.md5.specs.Md5.{md5}
use Rattle.par2_check.specs.declared.packets.Span.{Span}

-- so many bytes from a place on
abbrev pub part : ℕ → ℕ → List ℕ → List ℕ
part at len bytes = take len (drop at bytes)

-- the numbers of eight bytes and of four, from a place on, the lowest byte first
abbrev pub long_at : ℕ → List ℕ → ℕ
long_at at bytes = from_le_bytes w64 (part at 8 bytes)

abbrev pub word_at : ℕ → List ℕ → ℕ
word_at at bytes = from_le_bytes w32 (part at 4 bytes)

-- what a packet begins with
abbrev pub signature : List ℕ
signature = codes "PAR2" ++ 0 ∷ codes "PKT"

-- A good packet, as all its bytes: it says its own length, which is at least 64 and a multiple of 4, and the MD5 of what follows.
pub record IsPacket (bytes : List ℕ) : Type 0 where
  pub begins : take 8 bytes ≡ signature
  pub size : long_at 8 bytes ≡ length bytes
  pub least : 64 ≤ length bytes
  pub fours : length bytes % 4 ≡ 0
  pub digest : md5 (drop 32 bytes) ≡ part 16 16 bytes

-- a text begins with a good packet, and this stands behind it
pub record IsPacketWith (text packet rest : List ℕ) : Type 0 where
  pub text_is : text ≡ packet ++ rest
  pub good : IsPacket packet

-- a text begins with a good packet
abbrev pub BeginsPacket : List ℕ → Type 0
BeginsPacket text = (packet : List ℕ) × ((rest : List ℕ) × IsPacketWith text packet rest)

-- The packets of a text, from the left: where a good packet begins it is taken and the reading goes on behind it, else one byte
-- further on.
pub data ArePackets : List ℕ → List (List ℕ) → Type 0 where
  at_end : ArePackets [] []
  taken : (text packet rest : List ℕ) (packets : List (List ℕ)) → IsPacketWith text packet rest → ArePackets rest packets → ArePackets text (packet ∷ packets)
  passed : (byte : ℕ) (rest : List ℕ) (packets : List (List ℕ)) → ¬ (BeginsPacket (byte ∷ rest)) → ArePackets rest packets → ArePackets (byte ∷ rest) packets

-- ---- as they are kept

-- the bytes where a packet stands
abbrev pub span_bytes : List ℕ → Span → List ℕ
span_bytes text span = take (span.end - span.start) (drop span.start text)

-- a packet stands within so many bytes
abbrev pub IsWithin : ℕ → Span → Type 0
IsWithin len span = (span.start ≤ span.end) × (span.end ≤ len)

abbrev pub AreWithin : List Span → ℕ → Type 0
AreWithin spans len = All (IsWithin len) spans

-- The next packet from a place on: whatever the packets behind it are, they are those from the place on, with this one before
-- them.
abbrev pub IsNextPacket : List ℕ → ℕ → Option Span → Type 0
IsNextPacket text from None = ArePackets (drop from text) []
IsNextPacket text from (Some span) =
    (from ≤ span.start) × (span.start + 64 ≤ span.end) × (span.end ≤ length text)
    × ((packets : List (List ℕ)) → ArePackets (drop span.end text) packets → ArePackets (drop from text) (span_bytes text span ∷ packets))
