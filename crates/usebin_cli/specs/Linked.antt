-- What is seen of links before a call and after it.
use Rattle.std.specs.Prelude.{◌≡◌, ℕ, List, Option, Err}
use Rattle.io_traits.specs.Causes.{Rose, BlamesNamed}
use Rattle.io_traits.specs.declared.blame.Blame.{Blame}
use Rattle.io_traits.specs.declared.blame.Blame.TheVariants as blames
use Rattle.io_traits.specs.declared.links.LinkEvent.{LinkEvent}
use Rattle.io_traits.specs.declared.links.Links.{Ghosts as Net}

-- the trace, the count of faults and the last failed call of links, before and after
pub record Linked : Type 0 where
  pub trace_before : Option (List LinkEvent)
  pub trace_now : Option (List LinkEvent)
  pub faults_before : ℕ
  pub faults_now : ℕ
  pub blame_before : Option (Option Blame)
  pub blame_now : Option (Option Blame)

-- the same, of links
abbrev pub linked : {L : Type 0} → Net L → L → L → Linked
linked links before now = record {
  trace_before = links.trace before;
  trace_now = links.trace now;
  faults_before = links.faults before;
  faults_now = links.faults now;
  blame_before = links.blame before;
  blame_now = links.blame now;
}

-- no link was opened
abbrev pub OpenedNone : Linked → Type 0
OpenedNone t = t.trace_now ≡ t.trace_before

-- the opening of a link to this address failed
pub record FailedToOpen (address : List ℕ) (t : Linked) : Type 0 where
  pub none : OpenedNone t
  pub faults : Rose t.faults_before t.faults_now
  pub blame : BlamesNamed {T = ℕ} {E = ℕ} t.blame_before t.blame_now (blames.Open address) (Err 0)
