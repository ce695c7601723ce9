-- Items with a space before each, cut again.
use Rattle.std.proofs.Common.{◌≡◌, ℕ, false, List, [], ◌∷◌, ◌++◌, drop, Option, Some, None, refl, sym, ap, ◌∙◌, append_assoc}
use Rattle.std.specs.Prelude.{codes}
use Rattle.std.specs.List.{AllByRecursion, slice_split, list_any}
use Rattle.std.proofs.lemmas.List.{append-nil}
use Rattle.yenc_lines.specs.Keywords.{is_space}
use Rattle.yenc_lines.specs.KeywordText.{item}
use Rattle.yenc_lines.proofs.PartReads.{piece_then, last_piece}

abbrev pub HasNoSpace : List ℕ → Type 0
HasNoSpace piece = list_any is_space piece ≡ false

-- a space before each piece
abbrev pub spaced : List (List ℕ) → List ℕ
spaced [] = []
spaced (piece ∷ pieces) = 32 ∷ (piece ++ spaced pieces)

-- an item as a piece, where it is there
abbrev pub piece_of : List ℕ → (ℕ → List ℕ) → Option ℕ → List (List ℕ)
piece_of key text None = []
piece_of key text (Some n) = (key ++ codes "=" ++ text n) ∷ []

pub item_then : (key : List ℕ) (text : ℕ → List ℕ) (n : Option ℕ) (pieces : List (List ℕ)) (more : List ℕ) → item key text n ++ (spaced pieces ++ more) ≡ spaced (piece_of key text n ++ pieces) ++ more
item_then key text None pieces more = refl
item_then key text (Some n) pieces more = ap (λ (t : List ℕ). 32 ∷ t) (sym (append_assoc (key ++ codes "=" ++ text n) (spaced pieces) more))

begins_with_space : (pieces : List (List ℕ)) (more : List ℕ) → spaced pieces ++ 32 ∷ more ≡ 32 ∷ drop 1 (spaced pieces ++ 32 ∷ more)
begins_with_space [] more = refl
begins_with_space (piece ∷ pieces) more = refl

pub pieces_then : (pieces : List (List ℕ)) (more : List ℕ) → AllByRecursion HasNoSpace pieces → slice_split is_space (drop 1 (spaced pieces ++ 32 ∷ more)) ≡ pieces ++ slice_split is_space more
pieces_then [] more h = refl
pieces_then (piece ∷ pieces) more h =
    ap (λ (t : List ℕ). slice_split is_space t) (append_assoc piece (spaced pieces) (32 ∷ more) ∙ ap (λ (t : List ℕ). piece ++ t) (begins_with_space pieces more))
    ∙ piece_then piece (drop 1 (spaced pieces ++ 32 ∷ more)) h.0
    ∙ ap (λ (t : List (List ℕ)). piece ∷ t) (pieces_then pieces more h.1)

pub all_pieces : (piece : List ℕ) (pieces : List (List ℕ)) → HasNoSpace piece → AllByRecursion HasNoSpace pieces → slice_split is_space (piece ++ spaced pieces) ≡ piece ∷ pieces
all_pieces piece [] h more = ap (λ (t : List ℕ). slice_split is_space t) (append-nil piece) ∙ last_piece piece h
all_pieces piece (next ∷ pieces) h more = piece_then piece (next ++ spaced pieces) h ∙ ap (λ (t : List (List ℕ)). piece ∷ t) (all_pieces next pieces more.0 more.1)

pub AllByRecursion-append : (a b : List (List ℕ)) → AllByRecursion HasNoSpace a → AllByRecursion HasNoSpace b → AllByRecursion HasNoSpace (a ++ b)
AllByRecursion-append [] b h k = k
AllByRecursion-append (x ∷ a) b h k = (h.0, AllByRecursion-append a b h.1 k)
