-- What hearing a reply with a block tells, piece by piece.
use Rattle.std.specs.Prelude.{◌≡◌, ◌+◌, ℕ, Bool, true, List, [], ◌∷◌, ◌++◌, Option, Some, None, length}
use Rattle.io_traits.specs.declared.links.LinkEvent.{LinkEvent}
use Rattle.dot_blocks.specs.Blocks.{IsBlock}
use Rattle.nntp_lines.specs.declared.why.Why.TheVariants as why
use Rattle.link_dialog.specs.declared.awaited.Awaited.{Awaited}
use Rattle.link_dialog.specs.declared.answer.Answer.{Answer}
use Rattle.link_dialog.specs.declared.answer.Answer.TheVariants as answer
use Rattle.link_dialog.specs.declared.reader.Reader.{Reader}
use Rattle.link_dialog.specs.declared.block.BlockReader.{BlockReader}
use Rattle.link_dialog.specs.Replies.{Reply, has_block, is_meant}
use Rattle.link_dialog.specs.Reader.{IsLine}
use Rattle.link_dialog.specs.Hearing.{HeardSoFar, HeardTo}
use Rattle.link_dialog.specs.Block.{IsKept}
use Rattle.link_dialog.specs.BlockReader.{StandsIn}

-- a status line was heard whole, and then these bytes of its block, for which the reader stands
pub record BlockSoFar (before now : Option (List LinkEvent)) (link patience : ℕ) (kind : Awaited) (code : ℕ) (reader : BlockReader) (kept : List ℕ) (quiet : ℕ) : Type 0 where
  pub so_far : HeardSoFar before now link patience kind quiet
  pub status : List ℕ
  pub block : List ℕ
  pub line_reader : Reader
  pub line : IsLine kind status code line_reader
  pub bytes : so_far.bytes ≡ status ++ block
  pub stands : StandsIn reader kept block
  pub count : reader.heard ≡ length status + length block

-- a reply with this code, and the lines of its block, of which the bytes were kept, or none
pub record HasReply (kind : Awaited) (code : ℕ) (kept : Bool) (block : List ℕ) (reply : Reply) : Type 0 where
  pub code_is : reply.code ≡ code
  pub lines_are : has_block kind code ≡ true → (bytes : List ℕ) × IsBlock reply.lines bytes × IsKept kept block bytes

-- what hearing a reply with a block answers
abbrev pub IsBlockAnswered : Option (List LinkEvent) → Option (List LinkEvent) → ℕ → ℕ → Awaited → Bool → List ℕ → Answer → Type 0
IsBlockAnswered before after link patience kind kept block (answer.Code code) =
    (is_meant kind code ≡ true) × ((reply : Reply) × HasReply kind code kept block reply × HeardTo before after link patience kind (reply ∷ []) None)
IsBlockAnswered before after link patience kind kept block (answer.Unasked code) =
    (is_meant kind code ≡ true) × ((reply : Reply) × HasReply kind code kept block reply × HeardTo before after link patience kind (reply ∷ []) (Some why.Unasked))
IsBlockAnswered before after link patience kind kept block (answer.Over reason) =
    HeardTo before after link patience kind [] (Some reason)
