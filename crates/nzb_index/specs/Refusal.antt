-- What is refused of an NZB text, and where it is known.
use Rattle.std.specs.Prelude.{◌≡◌, ℕ, ◌<◌, ◌≤◌, List, ◌++◌, length, take, ◌⊎◌, Err}
use Rattle.nzb_index.specs.declared.error.NzbReason.TheVariants.{Ended}
use Rattle.nzb_writer.specs.declared.index.Index.{Index}
use Rattle.nzb_writer.specs.Nzb.{IsNzb}
use Rattle.nzb_writer.specs.Canonical.{IsValidIndex, nzb_text}
use Rattle.nzb_index.specs.NzbReading.{Refusal, refused_at, nzb_of}
use Rattle.limits.specs.declared.TheConstants.{MOST_TEXT_BYTES}

-- what a text is refused for: a reason at a place, or a limit that it passes
abbrev pub IsTextRefused : List ℕ → Refusal → Type 0
IsTextRefused text refusal = nzb_of text ≡ Err refusal

-- no text with an index begins so
abbrev pub IsDead : List ℕ → Type 0
IsDead front = (more : List ℕ) (index : Index) → IsNzb (front ++ more) index → ⊥

-- refused for its end alone, at which more could still follow
abbrev pub IsCutShort : List ℕ → Type 0
IsCutShort text = IsTextRefused text (refused_at (length text) Ended)

-- A refusal that is known once the first k bytes are there: no text with an index begins with them, and each text that
-- begins with them, up to the limit of length, is refused for it. It isn't known before: each shorter front is cut
-- short, or has an index.
pub record IsKnownFirst (text : List ℕ) (refusal : Refusal) (k : ℕ) : Type 0 where
  pub is_front : k ≤ length text
  pub dead : IsDead (take k text)
  pub known : (more : List ℕ) → length (take k text ++ more) ≤ MOST_TEXT_BYTES → IsTextRefused (take k text ++ more) refusal
  pub not_before : (j : ℕ) → j < k → IsCutShort (take j text) ⊎ ((index : Index) × IsNzb (take j text) index)

-- each text has exactly one of an index, a refusal and a limit
pub record HasOneIndex (text : List ℕ) (index : Index) : Type 0 where
  pub is_nzb : IsNzb text index
  pub no_other : (other : Index) → IsNzb text other → other ≡ index
  pub no_refusal : (refusal : Refusal) → IsTextRefused text refusal → ⊥

pub record HasOneRefusal (text : List ℕ) (refusal : Refusal) : Type 0 where
  pub is_refused : IsTextRefused text refusal
  pub no_other : (other : Refusal) → IsTextRefused text other → other ≡ refusal
  pub no_index : (index : Index) → IsNzb text index → ⊥

abbrev pub OneAnswer : Type 0
OneAnswer = (text : List ℕ) → ((index : Index) × HasOneIndex text index) ⊎ ((refusal : Refusal) × HasOneRefusal text refusal)

-- a refusal of a text within the limit of length is that by the text's end, or is known first at exactly one of its fronts
abbrev pub KnownFirst : Type 0
KnownFirst = (text : List ℕ) (refusal : Refusal) → length text ≤ MOST_TEXT_BYTES → IsTextRefused text refusal →
    IsCutShort text ⊎ ((k : ℕ) × IsKnownFirst text refusal k × ((j : ℕ) → IsKnownFirst text refusal j → j ≡ k))

-- an index that a text has is valid
abbrev pub IndexIsValid : Type 0
IndexIsValid = (text : List ℕ) (index : Index) → IsNzb text index → IsValidIndex index

-- the canonical text of a valid index, if it is no longer than a text may be, has that index
abbrev pub NzbReadsBack : Type 0
NzbReadsBack = (index : Index) → IsValidIndex index → length (nzb_text index) ≤ MOST_TEXT_BYTES → IsNzb (nzb_text index) index
