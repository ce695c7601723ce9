-- The scripts that links in memory follow, and what a receive gets of one.
use Rattle.std.specs.Prelude.{◌≡◌, ℕ, min, Bool, false, nat_le, List, [], ◌∷◌, length, take, drop, slice_index_or, slice_set, ⊤}
use Rattle.io_traits.specs.declared.links.Got.{Got}
use Rattle.io_traits.specs.declared.links.Got.TheVariants as got
use Rattle.io_memory.specs.declared.script.Place.{Place}
use Rattle.io_memory.specs.declared.script.Turn.{Turn}
use Rattle.io_memory.specs.declared.script.Turn.TheVariants as turn

-- ---- places

-- a script of whose first piece so many bytes were given
abbrev pub cut : ℕ → List Turn → List Turn
cut given [] = []
cut given (turn.Give bytes ∷ turns) = turn.Give (drop given bytes) ∷ turns
cut given (turn.Quiet ∷ turns) = turn.Quiet ∷ turns
cut given (turn.End ∷ turns) = turn.End ∷ turns
cut given (turn.Fail ∷ turns) = turn.Fail ∷ turns

-- what is still to come of a script from a place on
abbrev pub rest_at : Place → List Turn → List Turn
rest_at place script = cut place.given (drop place.turn script)

-- what is still to come of each script
abbrev pub rests_at : List Place → List (List Turn) → List (List Turn)
rests_at [] scripts = []
rests_at (place ∷ places) [] = []
rests_at (place ∷ places) (script ∷ scripts) = rest_at place script ∷ rests_at places scripts

-- whether a turn is a piece of which all bytes were given
abbrev pub is_spent : ℕ → Turn → Bool
is_spent given (turn.Give bytes) = nat_le (length bytes) given
is_spent given turn.Quiet = false
is_spent given turn.End = false
is_spent given turn.Fail = false

-- ---- receives

-- a script without the pieces at its front that have no byte
abbrev pub due : List Turn → List Turn
due [] = []
due (turn.Give [] ∷ turns) = due turns
due (turn.Give (byte ∷ bytes) ∷ turns) = turn.Give (byte ∷ bytes) ∷ turns
due (turn.Quiet ∷ turns) = turn.Quiet ∷ turns
due (turn.End ∷ turns) = turn.End ∷ turns
due (turn.Fail ∷ turns) = turn.Fail ∷ turns

-- what a receive into a buffer of so much room gets of the turns that are due; behind the last one a link is quiet
abbrev pub got_of : ℕ → List Turn → Got
got_of room [] = got.Quiet
got_of room (turn.Give piece ∷ turns) = got.Bytes (min room (length piece))
got_of room (turn.Quiet ∷ turns) = got.Quiet
got_of room (turn.End ∷ turns) = got.Closed
got_of room (turn.Fail ∷ turns) = got.Failed

-- the turns that it leaves; one that ends the link stays
abbrev pub left_of : ℕ → List Turn → List Turn
left_of room [] = []
left_of room (turn.Give piece ∷ turns) = turn.Give (drop room piece) ∷ turns
left_of room (turn.Quiet ∷ turns) = turns
left_of room (turn.End ∷ turns) = turn.End ∷ turns
left_of room (turn.Fail ∷ turns) = turn.Fail ∷ turns

-- the bytes of the piece that is due
abbrev pub piece_of : List Turn → List ℕ
piece_of [] = []
piece_of (turn.Give piece ∷ turns) = piece
piece_of (turn.Quiet ∷ turns) = []
piece_of (turn.End ∷ turns) = []
piece_of (turn.Fail ∷ turns) = []

-- the bytes that a receive gave are those of the piece that was due
abbrev pub GivesPiece : Got → List ℕ → List Turn → Type 0
GivesPiece (got.Bytes n) buf turns = take n buf ≡ take n (piece_of turns)
GivesPiece got.Quiet buf turns = ⊤
GivesPiece got.Closed buf turns = ⊤
GivesPiece got.Failed buf turns = ⊤

-- ---- links

-- the turns that are due on a link
abbrev pub due_on : List (List Turn) → ℕ → List Turn
due_on left link = due (slice_index_or left link [])

-- what a receive leaves of each script; one that ended its link leaves them
abbrev pub left_after : List (List Turn) → ℕ → ℕ → Got → List (List Turn)
left_after left link room (got.Bytes n) = slice_set left link (left_of room (due_on left link))
left_after left link room got.Quiet = slice_set left link (left_of room (due_on left link))
left_after left link room got.Closed = left
left_after left link room got.Failed = left

-- a fact about a receive that didn't fail, and one about a receive that did
abbrev pub UnlessFailed : Got → Type 0 → Type 0
UnlessFailed (got.Bytes n) P = P
UnlessFailed got.Quiet P = P
UnlessFailed got.Closed P = P
UnlessFailed got.Failed P = ⊤

abbrev pub OnFailed : Got → Type 0 → Type 0
OnFailed (got.Bytes n) P = ⊤
OnFailed got.Quiet P = ⊤
OnFailed got.Closed P = ⊤
OnFailed got.Failed P = P
