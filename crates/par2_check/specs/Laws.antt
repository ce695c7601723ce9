-- What is unique: the packets of a text, its set, and the greatest runs of numbers.
use Rattle.std.specs.Prelude.{◌≡◌, ℕ, Bool, List, Option}
use Rattle.par2_check.specs.Packets.{ArePackets}
use Rattle.par2_check.specs.Runs.{AreRuns}
use Rattle.par2_check.specs.Set.{IsSetOf}
use Rattle.par2_check.specs.declared.set.ParSet.{ParSet}

-- there is one list of packets of each text
abbrev pub OneListOfPackets : Type 0
OneListOfPackets =
    ((text : List ℕ) → (packets : List (List ℕ)) × ArePackets text packets) × ((text : List ℕ) (one other : List (List ℕ)) → ArePackets text one → ArePackets text other → one ≡ other)

-- each text has one set, or has none
abbrev pub OneSetOrNone : Type 0
OneSetOrNone = ((text : List ℕ) → (set : Option ParSet) × IsSetOf text set) × ((text : List ℕ) (one other : Option ParSet) → IsSetOf text one → IsSetOf text other → one ≡ other)

-- the numbers that pass a test have one list of greatest runs at most
abbrev pub OneListOfRuns : Type 0
OneListOfRuns = (test : ℕ → Bool) (most : ℕ) (one other : List (ℕ × ℕ)) → AreRuns test most one → AreRuns test most other → one ≡ other
