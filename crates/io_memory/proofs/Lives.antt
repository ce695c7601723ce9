-- The number of live links.
use Rattle.std.proofs.Common.{◌≡◌, ◌+◌, ℕ, zero, suc, Bool, true, false, List, [], ◌∷◌, ◌++◌, Some, refl, set, arith}
use Rattle.std.specs.Prelude.{slice_get}
use Rattle.io_memory.specs.Log.{count_live}

pub one_more : (live : List Bool) → count_live (live ++ true ∷ []) ≡ count_live live + 1
one_more [] = refl
one_more (true ∷ live) = omega (arith, one_more live)
one_more (false ∷ live) = omega (arith, one_more live)

pub one_fewer : (live : List Bool) (i : ℕ) → slice_get live i ≡ Some true → count_live (set live i false) + 1 ≡ count_live live
one_fewer [] i is = cc
one_fewer (true ∷ live) zero is = omega arith
one_fewer (false ∷ live) zero is = cc
one_fewer (true ∷ live) (suc i) is = omega (arith, one_fewer live i is)
one_fewer (false ∷ live) (suc i) is = omega (arith, one_fewer live i is)
