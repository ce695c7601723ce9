-- Bytes that were heard, as the replies that are whole in them and a rest. What a whole reply is, is a parameter:
-- `whole kind bytes` is what these bytes say, where they are a whole reply of that kind.
use Rattle.std.specs.Prelude.{◌≡◌, ℕ, List, [], ◌∷◌, ◌++◌, Option, Some, None}

-- the first, where there is one, and else the second
abbrev pub first_some : {A : Type 0} → Option A → Option A → Option A
first_some (Some x) other = Some x
first_some None other = other

abbrev pub ends_here : {R : Type 0} → Option R → List ℕ → Option (R × List ℕ)
ends_here (Some reply) after = Some (reply, after)
ends_here None after = None

-- the shortest front of `before ++ after`, from `before` on, that is a whole reply: what it says, and what follows it
abbrev pub shortest_from : {R : Type 0} → (List ℕ → Option R) → List ℕ → List ℕ → Option (R × List ℕ)
shortest_from whole before [] = ends_here (whole before) []
shortest_from whole before (byte ∷ after) =
    first_some (ends_here (whole before) (byte ∷ after)) (shortest_from whole (before ++ byte ∷ []) after)

-- the replies that are whole, the kinds of those that are still awaited, and the bytes that belong to no whole reply
pub record RepliesRead (K R : Type 0) : Type 0 where
  pub replies : List R
  pub waiting : List K
  pub rest : List ℕ

abbrev pub with_replies : {K R : Type 0} → List R → RepliesRead K R → RepliesRead K R
with_replies replies reading = record { replies = replies ++ reading.replies; waiting = reading.waiting; rest = reading.rest }

-- after a reply the rest is read on; without one all of it waits
abbrev pub read_found : {K R : Type 0} → Option (R × List ℕ) → (List ℕ → RepliesRead K R) → List K → List ℕ → RepliesRead K R
read_found (Some found) read_on kinds bytes = with_replies (found.0 ∷ []) (read_on found.1)
read_found None read_on kinds bytes = record { replies = []; waiting = kinds; rest = bytes }

-- one reply of each kind, in order, as many as are whole at the front of the bytes
abbrev pub reading_of : {K R : Type 0} → (K → List ℕ → Option R) → List K → List ℕ → RepliesRead K R
reading_of whole [] bytes = record { replies = []; waiting = []; rest = bytes }
reading_of whole (kind ∷ kinds) bytes =
    read_found (shortest_from (whole kind) [] bytes) (λ after. reading_of whole kinds after) (kind ∷ kinds) bytes

-- ---- as a split

-- the bytes are a whole reply of each kind, in order, as far as the replies go, and then a rest
abbrev pub IsSplit : {K R : Type 0} → (K → List ℕ → Option R) → List K → List ℕ → List R → List K → List ℕ → Type 0
IsSplit whole kinds bytes [] waiting rest = (waiting ≡ kinds) × (rest ≡ bytes)
IsSplit whole [] bytes (reply ∷ replies) waiting rest = ⊥
IsSplit whole (kind ∷ kinds) bytes (reply ∷ replies) waiting rest =
    (piece : List ℕ) × (after : List ℕ) × (bytes ≡ piece ++ after) × (whole kind piece ≡ Some reply)
    × IsSplit whole kinds after replies waiting rest

-- no whole reply is the beginning of another of its kind
abbrev pub IsPrefixFree : {K R : Type 0} → (K → List ℕ → Option R) → Type 0
IsPrefixFree {K} {R} whole =
    (kind : K) (front back : List ℕ) (one two : R) → whole kind front ≡ Some one → whole kind (front ++ back) ≡ Some two → back ≡ []
