-- Lines that are appended one after another.
use Rattle.std.proofs.Common.{◌≡◌, ℕ, ◌+◌, ◌<◌, List, [], ◌∷◌, ◌++◌, length, get_or, take, sym, ap, ◌∙◌, append_assoc}
use Rattle.std.specs.List.{flat_map}
use Rattle.std.proofs.lemmas.Grind.{flat_map-append}
use Rattle.std.proofs.lemmas.List.{append-nil, take_more}

-- one line more
pub line_more : {A : Type 0} (line : A → List ℕ) (xs : List A) (i : ℕ) (x : A) (o0 o1 o2 : List ℕ) → i < length xs → x ≡ get_or xs i x → o1 ≡ o0 ++ flat_map line (take i xs) → o2 ≡ o1 ++ line x → o2 ≡ o0 ++ flat_map line (take (i + 1) xs)
line_more {A} line xs i x o0 o1 o2 h is e f =
    let more : flat_map line (take (i + 1) xs) ≡ flat_map line (take i xs) ++ line x = ap (λ (t : List A). flat_map line t) (take_more xs i x h) ∙ flat_map-append line (take i xs) (get_or xs i x ∷ []) ∙ ap (λ (y : A). flat_map line (take i xs) ++ (line y ++ [])) (sym is) ∙ ap (λ (t : List ℕ). flat_map line (take i xs) ++ t) (append-nil (line x)) in
    f ∙ ap (λ (t : List ℕ). t ++ line x) e ∙ append_assoc o0 (flat_map line (take i xs)) (line x) ∙ ap (λ (t : List ℕ). o0 ++ t) (sym more)
