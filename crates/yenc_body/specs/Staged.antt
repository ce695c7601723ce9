-- Where the lines of a body have come to, without the bytes of its data lines.
use Rattle.std.specs.Prelude.{◌≡◌, ℕ, [], List, Option, Some, None, Result, Ok, Err}
use Rattle.yenc_body.specs.declared.place.Place.{Place}
use Rattle.yenc_body.specs.declared.place.Place.TheVariants as place
use Rattle.yenc_body.specs.declared.fault.Reason.{Reason}
use Rattle.yenc_lines.specs.declared.keyword.Begin.{Begin}
use Rattle.yenc_body.specs.declared.stage.Stage.{Stage}
use Rattle.yenc_body.specs.declared.stage.Stage.TheVariants.{Opening, Opened, Filling}
use Rattle.yenc_body.specs.declared.stage.Refusal.{Refusal}

-- the place of a stage, with these bytes where it is among the data lines
abbrev pub place_with : Stage → List ℕ → Place
place_with Opening bytes = place.Opening
place_with (Opened b n) bytes = place.Opened b n
place_with (Filling head) bytes = place.Filling head.begin head.first head.last bytes

-- what the reading of a line on lists finds is what was answered: a stage without bytes, or what the line is refused for
abbrev pub Finds : Result Place (ℕ × Reason) → Result Stage Refusal → Type 0
Finds found (Ok stage) = found ≡ Ok (place_with stage [])
Finds found (Err refusal) = found ≡ Err (refusal.column, refusal.reason)

-- what the reading of a keyword line among the data lines finds on lists: the part that ends with these bytes, or what it is refused for
abbrev pub Closes : Begin → (first last : ℕ) → List ℕ → Result Place (ℕ × Reason) → Option Refusal → Type 0
Closes b first last bytes found None = found ≡ Ok (place.Closed (record { begin = b; first = first; last = last; content = bytes }))
Closes b first last bytes found (Some refusal) = found ≡ Err (refusal.column, refusal.reason)
