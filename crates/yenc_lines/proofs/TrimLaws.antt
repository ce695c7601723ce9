-- Spaces at the ends of a name's text.
use Rattle.std.proofs.Common.{◌≡◌, ◌≢◌, ◌<◌, ℕ, ◌+◌, ◌-◌, List, length, drop, get_or, reverse, refl, sym, ◌∙◌, arith, eq-eqb, ne_eqb}
use Rattle.std.proofs.lemmas.List.{at_drop_more, get_or-reverse, length-reverse}
use Rattle.std.specs.List.{prefix_len}
use Rattle.yenc_lines.specs.Keywords.{is_space}

space_here : (text : List ℕ) (at : ℕ) → at < length text → get_or text at 0 ≡ 32 → prefix_len is_space (drop at text) ≡ 1 + prefix_len is_space (drop (at + 1) text)
space_here text at inside is = at_drop_more (prefix_len is_space) text at 0 inside ∙ rw (eq-eqb (get_or text at 0) 32 is) refl

other_here : (text : List ℕ) (at : ℕ) → at < length text → get_or text at 0 ≢ 32 → prefix_len is_space (drop at text) ≡ 0
other_here text at inside is = at_drop_more (prefix_len is_space) text at 0 inside ∙ rw (ne_eqb (get_or text at 0) 32 is) refl

-- the same from the end
pub space_behind : (text : List ℕ) (count : ℕ) → count < length text → get_or text (length text - 1 - count) 0 ≡ 32 →
    prefix_len is_space (drop count (reverse text)) ≡ 1 + prefix_len is_space (drop (count + 1) (reverse text))
space_behind text count inside is = space_here (reverse text) count (omega (arith, length-reverse text)) (get_or-reverse text count 0 inside ∙ is)

pub other_behind : (text : List ℕ) (count : ℕ) → count < length text → get_or text (length text - 1 - count) 0 ≢ 32 → prefix_len is_space (drop count (reverse text)) ≡ 0
other_behind text count inside is = other_here (reverse text) count (omega (arith, length-reverse text)) (λ e. is (sym (get_or-reverse text count 0 inside) ∙ e))
