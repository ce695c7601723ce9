-- What the reading of elements over a slice answers.
use Rattle.std.specs.Prelude.{◌≡◌, ℕ, ◌+◌, ◌-◌, ◌<◌, ◌≤◌, Bool, nat_eq, if◌then◌else◌, List, [], take, length, drop, Option, Some, None, Result, Ok, Err, codes, ⊤}
use Rattle.std.specs.List.{starts_with}
use Rattle.nzb_index.specs.declared.error.NzbError.{NzbError}
use Rattle.nzb_index.specs.declared.error.NzbReason.TheVariants.{BadId}
use Rattle.nzb_index.specs.declared.elements.Child.{Child}
use Rattle.nzb_index.specs.declared.elements.Child.TheVariants as child
use Rattle.nzb_index.specs.MarkupReading.{Stop, refused, Tag, word, name_at, between, end_tag, ◌>>=◌}
use Rattle.nzb_index.specs.Readers.{Fails}

-- what stands next between the tags of an element: its end tag, or another tag, whose name, text from its `<` on and text
-- behind its name are told
pub data Next : Type 0 where
  ended : List ℕ → Next
  opened : (name from rest : List ℕ) → Next

abbrev pub next_at : List ℕ → List ℕ → Result Next Stop
next_at name rest =
    between rest >>= λ here.
    if starts_with nat_eq here (codes "</") then (end_tag name None here >>= λ behind. Ok (ended behind))
    else word (codes "<") here >>= λ inside. name_at inside >>= λ n. Ok (opened n.0 here n.1)

abbrev pub ReadsNext : List ℕ → ℕ → Result Child NzbError → Result Next Stop → Type 0
ReadsNext text at (Ok (child.Ended end)) read = (at ≤ end) × (end ≤ length text) × (read ≡ Ok (ended (drop end text)))
ReadsNext text at (Ok (child.Opened from end)) read =
    (at ≤ from) × (from + 1 < end) × (end ≤ length text) × (read ≡ Ok (opened (take (end - (from + 1)) (drop (from + 1) text)) (drop from text) (drop end text)))
ReadsNext text at (Err e) read = Fails text e read

-- what an end tag's name shows: a segment at this place has a bad message-id
abbrev pub known_at : List ℕ → Option ℕ → Option Stop
known_at text None = None
known_at text (Some from) = Some (refused (length text - from) BadId)

abbrev pub IsWithin : List ℕ → Option ℕ → Type 0
IsWithin text None = ⊤
IsWithin text (Some from) = from ≤ length text

-- a start tag whose attributes don't matter
abbrev pub bare : Bool → Tag
bare closed = record { attributes = []; closed = closed }
