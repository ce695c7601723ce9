-- On which links of a core a reply is awaited.
use Rattle.std.specs.Prelude.{◌≡◌, ◌≢◌, ◌≤◌, ◌⊎◌, ℕ, false, [], Some, None, slice_get}
use Rattle.pipeline_core.specs.LinkAt.{LinkAt}
use Rattle.pipeline_core.specs.PipelineAt.{Pipeline}
use Rattle.pipeline_core.specs.Pipeline.{next_segment, is_finished}
use Rattle.pipeline_core.specs.Sound.{AreIdle}

-- a link that isn't over, and isn't greeted or has a segment outstanding
pub record IsAwaited (p : Pipeline) : Type 0 where
  pub k : ℕ
  pub link : LinkAt
  pub here : slice_get p.links k ≡ Some link
  pub live : link.over ≡ false
  pub waits : (link.greeted ≡ false) ⊎ (link.asked ≢ [])

-- where not each segment is decided and no link has one to ask for, a reply is awaited on some link
abbrev pub SomeoneIsAwaited : Type 0
SomeoneIsAwaited = (p : Pipeline) → 1 ≤ p.depth → AreIdle p.links → ((k : ℕ) → next_segment p k ≡ None) → is_finished p ≡ false → IsAwaited p
