-- What sending tells.
use Rattle.std.specs.Prelude.{◌≡◌, ◌<◌, ℕ, List, [], ◌∷◌, ◌++◌, Option, length, take, map}
use Rattle.std.specs.List.{concat, AllByRecursion}
use Rattle.io_traits.specs.declared.links.LinkEvent.{LinkEvent}
use Rattle.io_traits.specs.declared.links.LinkEvent.TheVariants.{Sent, Ended}
use Rattle.io_traits.specs.Links.{tell}

-- one event for each piece
abbrev pub sends : ℕ → List (List ℕ) → List LinkEvent
sends link pieces = map (λ piece. Sent link piece) pieces

-- no piece is empty
abbrev pub ArePieces : List (List ℕ) → Type 0
ArePieces pieces = AllByRecursion (λ piece. 0 < length piece) pieces

-- all of the bytes went out, in some pieces
pub record SentWhole (before after : Option (List LinkEvent)) (link : ℕ) (bytes : List ℕ) : Type 0 where
  pub pieces : List (List ℕ)
  pub told : after ≡ tell before (sends link pieces)
  pub full : ArePieces pieces
  pub whole : concat pieces ≡ bytes

-- the first n of the bytes went out, and then the link ended
pub record SentInPart (before after : Option (List LinkEvent)) (link : ℕ) (bytes : List ℕ) (n : ℕ) : Type 0 where
  pub pieces : List (List ℕ)
  pub told : after ≡ tell before (sends link pieces ++ Ended link ∷ [])
  pub full : ArePieces pieces
  pub front : concat pieces ≡ take n bytes
  pub some : n < length bytes
