-- Rows of lines and their blocks, computed.
use Rattle.std.proofs.Common.{◌≡◌, ◌≢◌, ℕ, Bool, true, false, ◌&&◌, ◌==◌, if◌then◌else◌, List, [], ◌∷◌, refl, inl, inr, lit<, Some, None}
use Rattle.std.proofs.lemmas.Bool.{eq-eqb, and_from}
use Rattle.dot_blocks.specs.declared.split.BlockError.TheVariants.{Unfinished, Rest}
use Rattle.dot_blocks.specs.declared.place.Place.TheVariants.{DotReturn, Return}
use Rattle.dot_blocks.specs.Blocks.{HoldsNoLineEnd, IsWireForm, IsBlock, IsNoBlockFor, stuffed}
use Rattle.dot_blocks.specs.BlockReading.{block_from, front_block}
use Rattle.dot_blocks.specs.Heard.{IsHeard, IsAt}
use Rattle.dot_blocks.proofs.LineEnds.{no_end_in_none, no_end_in_one}
use Rattle.dot_blocks.proofs.BlockLaws.{heard_begins_no_block, no_dot_alone}

abbrev holds_none : List ℕ → Bool
holds_none [] = true
holds_none (x ∷ []) = true
holds_none (x ∷ y ∷ bytes) = if x == 13 && y == 10 then false else holds_none (y ∷ bytes)

-- a test that is true went the second way
second_way : (b c : Bool) → (if b then false else c) ≡ true → (b ≡ false) × (c ≡ true)
second_way true c e = absurd cc
second_way false c e = (refl, e)

none : (bytes : List ℕ) → holds_none bytes ≡ true → HoldsNoLineEnd bytes
none [] e = no_end_in_none
none (x ∷ []) e = no_end_in_one x
none (x ∷ y ∷ bytes) e =
    let way = second_way (x == 13 && y == 10) (holds_none (y ∷ bytes)) e in
    behind (none (y ∷ bytes) way.1) (λ r f. let both : (x == 13 && y == 10) ≡ true = and_from (x == 13) (y == 10) (eq-eqb x 13 r) (eq-eqb y 10 f) in let no = way.0 in absurd cc)
  where
    behind : HoldsNoLineEnd (y ∷ bytes) → (x ≡ 13 → y ≢ 10) → HoldsNoLineEnd (x ∷ y ∷ bytes)
    behind h n [] b f = n (cc) (cc)
    behind h n (c ∷ a) b f = h a b (cc)

-- ---- blocks

-- no line
pub empty_block : IsBlock [] (46 ∷ 13 ∷ 10 ∷ [])
empty_block = ([], refl, refl)

-- an empty line
pub empty_line : IsBlock ([] ∷ []) (13 ∷ 10 ∷ 46 ∷ 13 ∷ 10 ∷ [])
empty_line = (13 ∷ 10 ∷ [], ([], [], (no_end_in_none, inl ((λ d. cc), refl)), refl, refl), refl)

-- `..` is the line of one dot
pub two_dots : IsBlock ((46 ∷ []) ∷ []) (46 ∷ 46 ∷ 13 ∷ 10 ∷ 46 ∷ 13 ∷ 10 ∷ [])
two_dots = (46 ∷ 46 ∷ 13 ∷ 10 ∷ [], (46 ∷ 46 ∷ [], [], (no_end_in_one 46, inr ((λ e. cc), refl)), refl, refl), refl)

-- `.=y` is the line `=y`, though no dot had to be added to it
pub needless_dot : IsBlock ((61 ∷ 121 ∷ []) ∷ []) (46 ∷ 61 ∷ 121 ∷ 13 ∷ 10 ∷ 46 ∷ 13 ∷ 10 ∷ [])
needless_dot = (46 ∷ 61 ∷ 121 ∷ 13 ∷ 10 ∷ [], (46 ∷ 61 ∷ 121 ∷ [], [], (none (61 ∷ 121 ∷ []) refl, inr ((λ e. cc), refl)), refl, refl), refl)

-- a lone CR before a dot, a lone LF and a NUL are content
pub lone_bytes : IsBlock ((13 ∷ 46 ∷ 10 ∷ 0 ∷ []) ∷ []) (13 ∷ 46 ∷ 10 ∷ 0 ∷ 13 ∷ 10 ∷ 46 ∷ 13 ∷ 10 ∷ [])
lone_bytes = (
  13 ∷ 46 ∷ 10 ∷ 0 ∷ 13 ∷ 10 ∷ [],
  (13 ∷ 46 ∷ 10 ∷ 0 ∷ [], [], (none (13 ∷ 46 ∷ 10 ∷ 0 ∷ []) refl, inl ((λ d. let e = d.1 in cc), refl)), refl, refl),
  refl,
)

-- a dot alone is no line
pub dot_alone : (line : List ℕ) → ¬ (IsWireForm line (46 ∷ []))
dot_alone line = no_dot_alone line

-- ---- stuffed

-- the lines ``, `.`, `..`, `a.`
pub stuffed_lines : stuffed ([] ∷ (46 ∷ []) ∷ (46 ∷ 46 ∷ []) ∷ (97 ∷ 46 ∷ []) ∷ [])
    ≡ 13 ∷ 10 ∷ 46 ∷ 46 ∷ 13 ∷ 10 ∷ 46 ∷ 46 ∷ 46 ∷ 13 ∷ 10 ∷ 97 ∷ 46 ∷ 13 ∷ 10 ∷ 46 ∷ 13 ∷ 10 ∷ []
stuffed_lines = refl

pub stuffed_none : stuffed [] ≡ 46 ∷ 13 ∷ 10 ∷ []
stuffed_none = refl

-- ---- heard, and refused

-- `a`, and then a dot and CR
pub begun_line : IsHeard (97 ∷ 13 ∷ 10 ∷ 46 ∷ 13 ∷ []) ((97 ∷ []) ∷ []) (46 ∷ 13 ∷ [])
begun_line = record {
  whole = 97 ∷ 13 ∷ 10 ∷ [];
  are_lines = (97 ∷ [], [], (no_end_in_one 97, inl ((λ d. let e = d.1 in cc), refl)), refl, refl);
  goes_on = none (46 ∷ 13 ∷ []) refl;
  heard_is = refl;
}

pub begun_at : IsAt DotReturn (46 ∷ 13 ∷ [])
begun_at = refl

-- two CR may be followed by the LF of a line's end
pub two_returns : IsAt Return (13 ∷ 13 ∷ [])
two_returns = ((13 ∷ [], refl), λ e. cc)

-- a lone CR, and then a dot and CRLF, is no block
pub lone_return_before_dot : IsNoBlockFor (13 ∷ 46 ∷ 13 ∷ 10 ∷ []) Unfinished
lone_return_before_dot = heard_begins_no_block (13 ∷ 46 ∷ 13 ∷ 10 ∷ []) ((13 ∷ 46 ∷ []) ∷ []) [] (record {
  whole = 13 ∷ 46 ∷ 13 ∷ 10 ∷ [];
  are_lines = (13 ∷ 46 ∷ [], [], (none (13 ∷ 46 ∷ []) refl, inl ((λ d. let e = d.1 in cc), refl)), refl, refl);
  goes_on = no_end_in_none;
  heard_is = refl;
})

-- neither is a lone LF, and then a dot and CRLF
pub lone_feed_before_dot : IsNoBlockFor (10 ∷ 46 ∷ 13 ∷ 10 ∷ []) Unfinished
lone_feed_before_dot = heard_begins_no_block (10 ∷ 46 ∷ 13 ∷ 10 ∷ []) ((10 ∷ 46 ∷ []) ∷ []) [] (record {
  whole = 10 ∷ 46 ∷ 13 ∷ 10 ∷ [];
  are_lines = (10 ∷ 46 ∷ [], [], (none (10 ∷ 46 ∷ []) refl, inl ((λ d. let e = d.1 in cc), refl)), refl, refl);
  goes_on = no_end_in_none;
  heard_is = refl;
})

-- a byte behind the empty block
pub byte_behind : IsNoBlockFor (46 ∷ 13 ∷ 10 ∷ 120 ∷ []) (Rest 3)
byte_behind = (lit< tt, ([], empty_block))

-- ---- read from left to right

-- `a`, `.`, and what follows the block
pub lines_and_rest : front_block (97 ∷ 13 ∷ 10 ∷ 46 ∷ 46 ∷ 13 ∷ 10 ∷ 46 ∷ 13 ∷ 10 ∷ 120 ∷ []) ≡ Some ((97 ∷ []) ∷ (46 ∷ []) ∷ [], 120 ∷ [])
unfolding block_from
lines_and_rest = refl

-- a dot and a lone CR, a dot and a lone LF
pub dots_that_go_on : front_block (46 ∷ 13 ∷ 13 ∷ 10 ∷ 46 ∷ 10 ∷ 13 ∷ 10 ∷ 46 ∷ 13 ∷ 10 ∷ []) ≡ Some ((13 ∷ []) ∷ (10 ∷ []) ∷ [], [])
unfolding block_from
dots_that_go_on = refl

pub nothing_read : front_block (97 ∷ 13 ∷ 10 ∷ 46 ∷ 13 ∷ []) ≡ None
unfolding block_from
nothing_read = refl
