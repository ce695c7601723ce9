-- A live link stays so while its connection is used, and no longer once that is closed.
use Rattle.std.proofs.Common.{◌≡◌, ℕ, zero, suc, true, false, List, [], ◌∷◌, Option, None, Some, refl, ap, set}
use Rattle.std.specs.Prelude.{is_some, slice_get}
use Rattle.std.proofs.lemmas.List.{map-set}
use Rattle.io_system.specs.TcpLinks.{live_of}

pub stays_live : {S : Type 0} (streams : List (Option S)) (at : ℕ) (stream : S) → slice_get (live_of streams) at ≡ Some true → live_of (set streams at (Some stream)) ≡ live_of streams
stays_live [] at stream is = refl
stays_live (first ∷ streams) zero stream is = let same : true ≡ is_some first = cc in ap (λ alive. alive ∷ live_of streams) same
stays_live (first ∷ streams) (suc at) stream is = ap (λ live. is_some first ∷ live) (stays_live streams at stream is)

pub no_longer_live : {S : Type 0} (streams : List (Option S)) (at : ℕ) → live_of (set streams at None) ≡ set (live_of streams) at false
no_longer_live streams at = map-set (λ stream. is_some stream) streams at None
