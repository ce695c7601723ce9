-- What a piece that was heard of a status line did, at a moment at which one reply is awaited.
use Rattle.std.specs.Prelude.{◌≡◌, ◌<◌, ◌-◌, ℕ, List, [], ◌∷◌, ◌++◌, Some, None, take, length}
use Rattle.io_traits.specs.declared.links.LinkEvent.{LinkEvent}
use Rattle.link_dialog.specs.declared.awaited.Awaited.{Awaited}
use Rattle.link_dialog.specs.declared.reader.Reader.{Reader}
use Rattle.link_dialog.specs.declared.reader.Step.{Step}
use Rattle.link_dialog.specs.declared.reader.Step.TheVariants.{More, Line, Over}
use Rattle.link_dialog.specs.Events.{single_bytes}
use Rattle.link_dialog.specs.Replies.{Reply, first_line, why_of_rest}
use Rattle.link_dialog.specs.Moments.{IsListening, IsOver, state_of}
use Rattle.link_dialog.specs.Reader.{HoldsRest, IsLine}

-- after this front of a piece the link listens for the same reply
abbrev pub ListensAt : ℕ → ℕ → (List ℕ → List Awaited) → List LinkEvent → List Reply → Awaited → List ℕ → List ℕ → Type 0
ListensAt patience link asked moment replies kind rest front =
    IsListening patience asked (moment ++ single_bytes link front) (state_of replies (kind ∷ []) (rest ++ front))

-- what was read: the line goes on through all of the piece, or it ended with the last byte that was used
abbrev pub IsRead : Awaited → List ℕ → List ℕ → ℕ → Step → Reader → Type 0
IsRead kind rest piece used More reader = (used ≡ length piece) × HoldsRest reader (rest ++ piece)
IsRead kind rest piece used (Line code) reader = (0 < used) × IsLine kind (rest ++ take used piece) code reader
IsRead kind rest piece used (Over reason) reader = Unit {0}

-- the link listens through all of the piece, or up to the byte that ended the line, or it is over by the piece's end
abbrev pub IsFed : ℕ → ℕ → (List ℕ → List Awaited) → List LinkEvent → List Reply → Awaited → List ℕ → List ℕ → ℕ → Step → Type 0
IsFed patience link asked moment replies kind rest piece used More = ListensAt patience link asked moment replies kind rest piece
IsFed patience link asked moment replies kind rest piece used (Line code) = ListensAt patience link asked moment replies kind rest (take (used - 1) piece)
IsFed patience link asked moment replies kind rest piece used (Over reason) = IsOver patience asked (moment ++ single_bytes link piece) reason replies

-- where the piece ended the line or the link, no line was whole before its last used byte, and it wasn't too long; and why it ended
-- the link
abbrev pub EndsAt : Awaited → List ℕ → List ℕ → ℕ → Step → Type 0
EndsAt kind rest piece used More = Unit {0}
EndsAt kind rest piece used (Line code) = first_line (rest ++ take (used - 1) piece) ≡ None
EndsAt kind rest piece used (Over reason) =
    (first_line (rest ++ take (used - 1) piece) ≡ None) × (length (rest ++ take (used - 1) piece) < 512) × (why_of_rest (kind ∷ []) (rest ++ take used piece) ≡ Some reason)
