-- Texts that are cut at a byte.
use Rattle.std.specs.Prelude.{ℕ, ◌==◌, if◌then◌else◌, List, [], ◌∷◌, Option, Some, None}
use Rattle.std.specs.Option.{option_map}
use Rattle.server_logins.specs.declared.cut.Cut.{Cut}

-- the bytes in front of the first such byte, and those behind it, if it stands anywhere
abbrev pub cut_at : ℕ → List ℕ → Option (List ℕ × List ℕ)
cut_at byte [] = None
cut_at byte (first ∷ text) = if first == byte then Some ([], text) else option_map (λ cut. (first ∷ cut.0, cut.1)) (cut_at byte text)

-- the two texts of a cut
abbrev pub cut_model : Cut → List ℕ × List ℕ
cut_model cut = (cut.front.now, cut.behind.now)
