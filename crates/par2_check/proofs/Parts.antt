-- Parts of bytes, and of what is cut from them.
use Rattle.std.proofs.Common.{◌≡◌, ℕ, ◌+◌, ◌-◌, ◌≤◌, List, ◌++◌, length, take, drop, ap, ◌∙◌, arith, length-drop}
use Rattle.std.proofs.lemmas.List.{drop-append-le, drop-drop, drop-take, take-append-le, take-take}
use Rattle.par2_check.specs.Packets.{part}

pub part-append : (at len : ℕ) (xs ys : List ℕ) → at + len ≤ length xs → part at len (xs ++ ys) ≡ part at len xs
part-append at len xs ys le =
    ap (take len) (drop-append-le at xs ys (omega arith)) ∙ take-append-le len (drop at xs) ys (omega (arith, length-drop {A = ℕ}))

pub part-take : (at len most : ℕ) (xs : List ℕ) → at + len ≤ most → part at len (take most xs) ≡ part at len xs
part-take at len most xs le =
    let e : most ≡ at + (most - at) = omega arith in
    ap (λ n. take len (drop at (take n xs))) e ∙ ap (take len) (drop-take at (most - at) xs) ∙ take-take len (most - at) (drop at xs) (omega arith)

pub part-drop : (at len from : ℕ) (xs : List ℕ) → part at len (drop from xs) ≡ part (from + at) len xs
part-drop at len from xs = ap (take len) (drop-drop at from xs)
