-- Which ranges are held at a moment, and by which articles. The range of an article is that of its part in the file (yEnc draft 1.3,
-- "Multi-part Encoded Binaries").
use Rattle.std.specs.Prelude.{◌≡◌, ℕ, true, false, List, [], ◌∷◌, Some, None, length, slice_get}
use Rattle.range_assembler.specs.declared.assembler.Entry.{Entry}
use Rattle.range_assembler.specs.declared.assembler.Hold.TheVariants.{Held, Accepted}
use Rattle.range_assembler.specs.declared.assembler.Clash.{Clash}
use Rattle.fetch_trace.specs.Setting.{Setting}
use Rattle.fetch_trace.specs.Verdicts.{Range, range_of}
use Rattle.fetch_trace.specs.LinkNow.{LinkNow, is_over, is_ready, waiting_of}
use Rattle.fetch_trace.specs.Standing.{Standing, segment_at}

-- the segment is the oldest on the link whose command lacks its answer
abbrev pub IsOldest : LinkNow → ℕ → Type 0
IsOldest l segment = (behind : List ℕ) × (waiting_of l.asking ≡ segment ∷ behind)

-- the link is in an article of the segment, past its range moment, and no range stood against it
pub record Holds (l : LinkNow) (segment : ℕ) (range : Range) : Type 0 where
  pub live : is_over l ≡ false
  pub ready : is_ready l ≡ true
  pub oldest : IsOldest l segment
  pub fixed : range_of l.hearing.rest ≡ Some range
  pub clear : l.asking.against ≡ None

-- an entry that is held, with this range
pub record IsHeldAt (entries : List Entry) (segment : ℕ) (range : Range) : Type 0 where
  pub entry : Entry
  pub there : slice_get entries segment ≡ Some entry
  pub held : entry.hold ≡ Held
  pub first : entry.first ≡ range.first
  pub last : entry.last ≡ range.last

pub record Holder (links : List LinkNow) (segment first last : ℕ) : Type 0 where
  pub i : ℕ
  pub l : LinkNow
  pub here : slice_get links i ≡ Some l
  pub range : Range
  pub holds : Holds l segment range
  pub first_is : first ≡ range.first
  pub last_is : last ≡ range.last

-- the ranges that are held are those of unfinished articles past their range moment, without a clash, on links that aren't over;
-- and where a range is accepted, its segment has arrived
pub record AreHeld (setting : Setting) (s : Standing) : Type 0 where
  pub held : (segment : ℕ) (entry : Entry) → slice_get s.entries segment ≡ Some entry → entry.hold ≡ Held → Holder s.links segment entry.first entry.last
  pub holds : (i segment : ℕ) (l : LinkNow) (range : Range) → slice_get s.links i ≡ Some l → Holds l segment range → IsHeldAt s.entries segment range
  pub accepted : (segment size : ℕ) (entry : Entry) → slice_get s.entries segment ≡ Some entry → entry.hold ≡ Accepted size → (segment_at setting s.links segment).arrived ≡ true
  pub long : length s.entries ≡ length setting.entries

-- a range stands against an unfinished article alone, and nothing is left over where nothing is awaited
pub record IsSettled (l : LinkNow) : Type 0 where
  pub blocked : (clash : Clash) → l.asking.against ≡ Some clash → (is_ready l ≡ true) × (((range : Range) × (range_of l.hearing.rest ≡ Some range)) × ((segment : ℕ) × IsOldest l segment))
  pub empty : l.hearing.over ≡ None → l.hearing.waiting ≡ [] → l.hearing.rest ≡ []

-- nothing is held at the start
abbrev pub NoneHeld : List Entry → Type 0
NoneHeld entries = (segment : ℕ) (entry : Entry) → slice_get entries segment ≡ Some entry → entry.hold ≡ Held → ⊥
