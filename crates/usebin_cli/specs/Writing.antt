-- What is seen of a sink before a call and after it.
use Rattle.std.specs.Prelude.{◌≡◌, ◌⊎◌, ℕ, Bool, true, false, List, take, Option}
use Rattle.io_traits.specs.Causes.{Rose}
use Rattle.io_traits.specs.Sink.{told_and}
use Rattle.io_traits.specs.declared.sink.Sink.{Ghosts as Outlet}

-- the count of faults and the told bytes of a sink, before and after
pub record Written : Type 0 where
  pub faults_before : ℕ
  pub faults_now : ℕ
  pub told_before : Option (List ℕ)
  pub told_now : Option (List ℕ)

-- the same, of a sink
abbrev pub written : {S : Type 0} → Outlet S → S → S → Written
written sink before now = record { faults_before = sink.faults before; faults_now = sink.faults now; told_before = sink.told before; told_now = sink.told now }

-- nothing was written
pub record IsUntouched (w : Written) : Type 0 where
  pub faults : w.faults_now ≡ w.faults_before
  pub told : w.told_now ≡ w.told_before

-- the whole text was written, and nothing else
pub record WroteWhole (text : List ℕ) (w : Written) : Type 0 where
  pub faults : w.faults_now ≡ w.faults_before
  pub told : w.told_now ≡ told_and w.told_before text

-- a write failed, and only a front of the text was written before it
pub record WroteFront (text : List ℕ) (w : Written) : Type 0 where
  pub faults : Rose w.faults_before w.faults_now
  pub front : (k : ℕ) × (w.told_now ≡ told_and w.told_before (take k text))

-- the text was written, or a front of it where a write failed
abbrev pub Got : List ℕ → Written → Type 0
Got text w = WroteWhole text w ⊎ WroteFront text w

-- a text was written whole, or only a front of it before a failed write
abbrev pub Told : Bool → List ℕ → Written → Type 0
Told true text w = WroteWhole text w
Told false text w = WroteFront text w
