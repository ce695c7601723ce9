-- What a reader over a slice answers, by the reader on lists: a place, for the text that is left from it on.
use Rattle.std.specs.Char.{is_ascii_digit, is_ascii_hexdigit}
use Rattle.std.specs.Prelude.{[], ◌++◌, ◌&&◌, not, nat_lt, ◌≡◌, ℕ, suc, Bool, min, IsTrue, encode_utf8, ◌-◌, ◌<◌, ◌≤◌, List, length, take, drop, Result, Ok, Err, ⊤, ◌==◌, if◌then◌else◌}
use Rattle.nzb_index.specs.declared.error.NzbError.{NzbError}
use Rattle.nzb_index.specs.declared.error.NzbError.TheVariants.{Memory, Refused, Limit}
use Rattle.nzb_index.specs.declared.error.NzbReason.TheVariants.{Ended, Unexpected}
use Rattle.nzb_index.specs.MarkupReading.{Stop, refused, limit, between_or, with_front}
use Rattle.nzb_writer.specs.Markup.{is_character, is_control}
use Rattle.nzb_index.specs.declared.pieces.Piece.{Piece}
use Rattle.nzb_index.specs.declared.pieces.Piece.TheVariants.{Goes, Ends}
use Rattle.nzb_index.specs.declared.scan.Between.{Between}
use Rattle.nzb_index.specs.declared.scan.Between.TheVariants.{Other, Declaration}

-- the same stop, unless memory was wanting
abbrev pub Fails : {A : Type 0} → List ℕ → NzbError → Result A Stop → Type 0
Fails text Memory read = ⊤
Fails text (Refused place reason) read = (place ≤ length text) × (read ≡ Err (refused (length text - place) reason))
Fails text (Limit l) read = read ≡ Err (limit l)

-- the refusal at a place where no byte, or not this one, can stand
abbrev pub unexpected_at : List ℕ → ℕ → NzbError
unexpected_at text at = Refused at (if at == length text then Ended else Unexpected)

-- the text behind what was read from a place on
abbrev pub ReadsTo : List ℕ → ℕ → Result ℕ NzbError → Result (List ℕ) Stop → Type 0
ReadsTo text at (Ok end) read = (at ≤ end) × (end ≤ length text) × (read ≡ Ok (drop end text))
ReadsTo text at (Err e) read = Fails text e read

-- the same, with the text that was taken
abbrev pub ReadsName : List ℕ → ℕ → Result ℕ NzbError → Result (List ℕ × List ℕ) Stop → Type 0
ReadsName text at (Ok end) read = (at < end) × (end ≤ length text) × (read ≡ Ok (take (end - at) (drop at text), drop end text))
ReadsName text at (Err e) read = Fails text e read

-- the same, with a value
abbrev pub ReadsValue : {A : Type 0} → List ℕ → ℕ → A → Result ℕ NzbError → Result (A × List ℕ) Stop → Type 0
ReadsValue text at value (Ok end) read = (at ≤ end) × (end ≤ length text) × (read ≡ Ok (value, drop end text))
ReadsValue text at value (Err e) read = Fails text e read

-- Where white and comments end: at another byte or the text's end, or behind `<!`, where no comment begins. From there on
-- `otherwise` reads.
abbrev pub ReadsBetween : List ℕ → ℕ → (List ℕ → Result (List ℕ) Stop) → Result Between NzbError → Result (List ℕ) Stop → Type 0
ReadsBetween text at otherwise (Ok (Other end)) read = (at ≤ end) × (end ≤ length text) × (read ≡ Ok (drop end text))
ReadsBetween text at otherwise (Ok (Declaration end)) read = (at ≤ end) × (end ≤ length text) × (read ≡ otherwise (drop end text))
ReadsBetween text at otherwise (Err e) read = Fails text e read

abbrev pub EndsBetween : List ℕ → ℕ → Result Between NzbError → Type 0
EndsBetween text at result = (otherwise : List ℕ → Result (List ℕ) Stop) (fuel : ℕ) → length (drop at text) ≤ fuel → ReadsBetween text at otherwise result (between_or otherwise (suc fuel) (drop at text))

-- a reference's character
abbrev pub ReadsReference : List ℕ → ℕ → Result (ℕ × ℕ) NzbError → Result (List ℕ × List ℕ) Stop → Type 0
ReadsReference text at (Ok (c, end)) read = (at < end) × (end ≤ length text) × IsTrue (is_character c) × (read ≡ Ok (encode_utf8 c, drop end text))
ReadsReference text at (Err e) read = Fails text e read

abbrev pub is_digit_of : ℕ → ℕ → Bool
is_digit_of radix byte = if radix == 16 then is_ascii_hexdigit byte else is_ascii_digit byte

-- a value, or the first number above that of every character
abbrev pub capped : ℕ → ℕ
capped n = min n 0x110000

-- bytes that go behind others, for what was read
abbrev pub ReadsMore : List ℕ → ℕ → List ℕ → List ℕ → Result ℕ NzbError → Result (List ℕ × List ℕ) Stop → Type 0
ReadsMore text at old new (Ok end) read = (at < end) × (end ≤ length text) × ((more : List ℕ) × (new ≡ old ++ more) × (read ≡ Ok (more, drop end text)))
ReadsMore text at old new (Err e) read = Fails text e read

-- ---- values and texts, a piece at a time

-- bytes that stand for themselves, and are no space
abbrev pub stands_in_value : ℕ → ℕ → Bool
stands_in_value quote byte = nat_lt 32 byte && not (byte == quote) && not (byte == 60) && not (byte == 38)

abbrev pub stands_in_text : ℕ → Bool
stands_in_text byte = not (byte == 38) && not (byte == 60) && not (is_control byte)

-- a reader with as much fuel as there is text goes on from a place to another, behind these bytes
pub record ReadsOn (reader : ℕ → List ℕ → Result (List ℕ × List ℕ) Stop) (text : List ℕ) (at end : ℕ) (more : List ℕ) (fuel : ℕ) : Type 0 where
  pub left : ℕ
  pub fits : length (drop end text) ≤ left
  pub reads : reader fuel (drop at text) ≡ with_front more (reader left (drop end text))

abbrev pub Steps : (ℕ → List ℕ → Result (List ℕ × List ℕ) Stop) → List ℕ → ℕ → ℕ → List ℕ → Type 0
Steps reader text at end more = (fuel : ℕ) → length (drop at text) ≤ fuel → ReadsOn reader text at end more fuel

abbrev pub ReadingEndsAt : (ℕ → List ℕ → Result (List ℕ × List ℕ) Stop) → List ℕ → ℕ → ℕ → Type 0
ReadingEndsAt reader text at end = (fuel : ℕ) → length (drop at text) ≤ fuel → reader fuel (drop at text) ≡ Ok ([], drop end text)

abbrev pub FailsAt : (ℕ → List ℕ → Result (List ℕ × List ℕ) Stop) → List ℕ → ℕ → NzbError → Type 0
FailsAt reader text at e = (fuel : ℕ) → length (drop at text) ≤ fuel → Fails text e (reader fuel (drop at text))

abbrev pub ReadsPiece : (ℕ → List ℕ → Result (List ℕ × List ℕ) Stop) → List ℕ → ℕ → List ℕ → List ℕ → Result Piece NzbError → Type 0
ReadsPiece reader text at old new (Ok (Goes end)) = (at < end) × (end ≤ length text) × ((more : List ℕ) × (new ≡ old ++ more) × Steps reader text at end more)
ReadsPiece reader text at old new (Ok (Ends end)) = (at ≤ end) × (end ≤ length text) × (new ≡ old) × ReadingEndsAt reader text at end
ReadsPiece reader text at old new (Err e) = FailsAt reader text at e
