-- What a call has read: its link, and the place at which a server's search begins.
use Rattle.std.proofs.Common.{◌≡◌, ◌<◌, ◌≤◌, ◌∙◌, ℕ, List, Some, length, get_or, sym, ap, subst, refl, arith}
use Rattle.std.specs.Prelude.{slice_get}
use Rattle.std.proofs.lemmas.Option.{slice_get_read, slice_get-get_or}
use Rattle.pipeline_core.specs.LinkAt.{LinkAt}
use Rattle.pipeline_core.specs.PipelineAt.{Pipeline}
use Rattle.pipeline_core.specs.Pipeline.{next_segment}
use Rattle.pipeline_core.specs.Sound.{IsPlaced}
use Rattle.pipeline_core.proofs.Free.{IsNext, is_next}
use Rattle.limits.specs.declared.TheConstants.{MOST_SERVERS}

pub link_read : {p now : Pipeline} (i : ℕ) (link : LinkAt) → p ≡ now → i < length now.links → link ≡ get_or p.links i link → slice_get p.links i ≡ Some link
link_read {p} {now} i link same there value =
    slice_get_read p.links (length p.links) i link refl (subst (λ (q : Pipeline). i < length q.links) (sym same) there) value

-- a link that may be asked for a segment
pub record IsAsker (p : Pipeline) (i k : ℕ) (link : LinkAt) : Type 0 where
  pub there : slice_get p.links i ≡ Some link
  pub asks : next_segment p i ≡ Some k
  pub next : IsNext p link k

pub asker_read : {p now : Pipeline} (i k : ℕ) (link : LinkAt) → p ≡ now → i < length now.links → next_segment now i ≡ Some k → link ≡ get_or p.links i link → IsAsker p i k link
asker_read {p} {now} i k link same within next value =
    let there = link_read i link same within value in
    let asks : next_segment p i ≡ Some k = ap (λ (q : Pipeline). next_segment q i) same ∙ next in
    record { there = there; asks = asks; next = is_next p i k link there asks }

pub low_read : {p now : Pipeline} (server : ℕ) (lows : List ℕ) (fresh decided : ℕ) → p ≡ now → server < length now.levels → length p.levels ≤ MOST_SERVERS → IsPlaced p lows fresh decided → slice_get lows server ≡ Some (get_or lows server 0)
low_read {p} {now} server lows fresh decided same there few placed =
    let within : server < length p.levels = subst (λ (q : Pipeline). server < length q.levels) (sym same) there in
    slice_get-get_or lows server 0 (omega (arith, within, few, placed.as_many))
