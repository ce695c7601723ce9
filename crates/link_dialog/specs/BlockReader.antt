-- What a reader of a block stands for, and what its steps say.
use Rattle.std.specs.Prelude.{◌≡◌, ◌≤◌, ◌<◌, ◌+◌, ℕ, List, [], ◌++◌, take, length}
use Rattle.link_dialog.specs.declared.block.BlockReader.{BlockReader}
use Rattle.link_dialog.specs.declared.block.BlockStep.{BlockStep}
use Rattle.link_dialog.specs.declared.block.BlockStep.TheVariants.{More, End, TooLong}
use Rattle.link_dialog.specs.Block.{IsInBlock, IsBlockOf, IsKept}
use Rattle.link_dialog.specs.Replies.{most}

-- the reader stands behind these bytes of a block, of which these are kept
pub record StandsIn (reader : BlockReader) (kept heard : List ℕ) : Type 0 where
  pub place : IsInBlock reader.framer heard
  pub bytes : IsKept reader.kept kept heard

abbrev pub BlockBegins : BlockReader → ℕ → Type 0
BlockBegins reader line = StandsIn reader [] [] × (reader.heard ≡ line)

-- the block goes on behind the piece, or it ended, or at some byte the reply has too many
abbrev pub BlockSteps : BlockReader → List ℕ → BlockReader → List ℕ → List ℕ → List ℕ → BlockStep → Type 0
BlockSteps old kept_old new kept_new heard piece More =
    StandsIn old kept_old heard → StandsIn new kept_new (heard ++ piece) × (new.heard ≡ old.heard + length piece)
BlockSteps old kept_old new kept_new heard piece (End used) =
    StandsIn old kept_old heard → (0 < used) × (used ≤ length piece) × (old.heard + used ≤ most)
    × IsBlockOf (heard ++ take used piece) × IsKept new.kept kept_new (heard ++ take used piece)
BlockSteps old kept_old new kept_new heard piece TooLong =
    StandsIn old kept_old heard → (n : ℕ) × (n < length piece) × (old.heard + n ≡ most) × IsInBlock new.framer (heard ++ take n piece)

-- where the block goes on, each byte of the piece is counted
abbrev pub Grows : BlockReader → BlockReader → List ℕ → BlockStep → Type 0
Grows old new piece More = new.heard ≡ old.heard + length piece
Grows old new piece (End used) = Unit {0}
Grows old new piece TooLong = Unit {0}
