-- StepsOver of a reader of a block.
use Rattle.std.proofs.Common.{◌≡◌, ◌≤◌, ◌+◌, ◌-◌, ℕ, List, [], ◌∷◌, ◌++◌, ap, sym, subst, ◌∙◌, append_assoc, take, drop, length, arith}
use Rattle.std.proofs.Math.Seq.{take-add}
use Rattle.std.proofs.lemmas.List.{take_rest, length-drop}
use Rattle.dot_blocks.specs.declared.place.Place.{Place}
use Rattle.dot_blocks.specs.declared.framer.Frame.{Frame}
use Rattle.dot_blocks.specs.declared.framer.Frame.TheVariants.{More, LineEnd, End}
use Rattle.dot_blocks.specs.Heard.{HasFramed, StepsOver}
use Rattle.link_dialog.specs.Block.{IsInBlock, IsBlockOf}

-- what a step of the framer says, wherever it stands
abbrev pub Frames : Place → Place → List ℕ → Frame → Type 0
Frames old new piece frame = (heard : List ℕ) (lines : List (List ℕ)) (begun : List ℕ) → HasFramed old heard lines begun → StepsOver new heard lines begun piece frame

pub frame_more : (old new : Place) (piece heard : List ℕ) → Frames old new piece More → IsInBlock old heard → IsInBlock new (heard ++ piece)
frame_more old new piece heard frames s = (s.0, s.1 ++ piece, frames heard s.0 s.1 s.2)

pub frame_line : (old new : Place) (piece heard : List ℕ) → Frames old new piece LineEnd → IsInBlock old heard → IsInBlock new (heard ++ piece)
frame_line old new piece heard frames s = let t = frames heard s.0 s.1 s.2 in (s.0 ++ t.0 ∷ [], [], t.4)

pub frame_end : (old new : Place) (piece heard : List ℕ) → Frames old new piece End → IsInBlock old heard → IsBlockOf (heard ++ piece)
frame_end old new piece heard frames s = let t = frames heard s.0 s.1 s.2 in (s.0, t.1)

-- one step more
pub next_front : (heard piece : List ℕ) (i n : ℕ) → (heard ++ take i piece) ++ take n (drop i piece) ≡ heard ++ take (i + n) piece
next_front heard piece i n = append_assoc heard (take i piece) (take n (drop i piece)) ∙ ap (λ t. heard ++ t) (sym (take-add i n piece))

-- a step over what is left of a piece
pub frames_at : (old new : Place) (piece : List ℕ) (i n : ℕ) (answer frame : Frame) → answer ≡ frame → Frames old new (take n (take (length piece - i) (drop i piece))) answer → Frames old new (take n (drop i piece)) frame
frames_at old new piece i n answer frame is frames =
    subst (λ (f : Frame). Frames old new (take n (drop i piece)) f) is
    (subst (λ (t : List ℕ). Frames old new (take n t) answer) (take_rest piece i) frames)

pub fits_at : (piece : List ℕ) (i n : ℕ) → i ≤ length piece → n ≤ length (take (length piece - i) (drop i piece)) → i + n ≤ length piece
fits_at piece i n inside used =
    let left = rw (take_rest piece i) at used in
    omega (arith, left, inside, length-drop i piece)
