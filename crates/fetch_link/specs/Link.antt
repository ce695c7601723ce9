-- What is kept of a link, against what was heard on it.
use Rattle.std.specs.Borrow.{Bor}
use Rattle.std.specs.List.{AllByRecursion}
use Rattle.std.specs.Prelude.{◌≡◌, ◌<◌, ℕ, true, List, [], ◌∷◌, ◌++◌, Option, Some, None, length, is_some}
use Rattle.link_dialog.specs.declared.awaited.Awaited.{Awaited}
use Rattle.link_dialog.specs.declared.awaited.Awaited.TheVariants.{Body}
use Rattle.link_dialog.specs.declared.reader.Reader.{Reader}
use Rattle.link_dialog.specs.Reader.{IsLine}
use Rattle.link_dialog.specs.Reader as reader
use Rattle.range_assembler.specs.declared.assembler.Clash.{Clash}
use Rattle.fused_decoder.specs.declared.state.Fused.{Fused}
use Rattle.fused_decoder.specs.declared.state.Mode.{Mode}
use Rattle.fused_decoder.specs.declared.state.Mode.TheVariants.{Unasked, On, Away}
use Rattle.fused_decoder.specs.Stands as decoder
use Rattle.fused_decoder.specs.Steps.{IsGiven}
use Rattle.fetch_trace.specs.Hearing.{Hearing}
use Rattle.fetch_trace.specs.Verdicts.{Range, range_of}
use Rattle.fetch_link.specs.declared.connection.Connection.{Connection}
use Rattle.fetch_link.specs.declared.connection.Phase.{Phase}
use Rattle.fetch_link.specs.declared.connection.Phase.TheVariants.{Line, Article}
use Rattle.fetch_link.specs.Shown.{block_awaited, is_shown, block_shown}

-- a range that was answered is fixed
abbrev pub IsAnswered : Mode → List ℕ → Type 0
IsAnswered Unasked rest = Unit {0}
IsAnswered On rest = (range : Range) × (range_of rest ≡ Some range)
IsAnswered Away rest = (range : Range) × (range_of rest ≡ Some range)

-- so many bytes were given so far
abbrev pub HasGiven : Mode → List ℕ → ℕ → Type 0
HasGiven Unasked block wrote = (bytes : List ℕ) → IsGiven block bytes → wrote ≡ length bytes
HasGiven On block wrote = (bytes : List ℕ) → IsGiven block bytes → wrote ≡ length bytes
HasGiven Away block wrote = Unit {0}

-- this is the size of the file whose range is known
abbrev pub KnowsSize : Mode → List ℕ → ℕ → Type 0
KnowsSize Unasked rest size = Unit {0}
KnowsSize On rest size = (range : Range) → range_of rest ≡ Some range → size ≡ range.size
KnowsSize Away rest size = Unit {0}

-- in an article: behind its status line the decoder stands for the block so far
pub record InArticle (c : Connection) (h : Hearing) (mode : Mode) : Type 0 where
  pub kinds : List Awaited
  pub waiting_is : h.waiting ≡ Body ∷ kinds
  pub status : List ℕ
  pub block : List ℕ
  pub line_reader : Reader
  pub rest_is : h.rest ≡ status ++ block
  pub line : IsLine Body status 222 line_reader
  pub stands : decoder.HasHeard c.fused block mode
  pub heard_is : c.heard ≡ length h.rest
  pub are_bytes : AllByRecursion (λ x. x < 256) block
  pub is_answered : IsAnswered mode h.rest
  pub reader_is : reader.HoldsRest c.reader []
  pub wrote_is : HasGiven mode block c.wrote
  pub size_is : KnowsSize mode h.rest c.size

abbrev pub InPhase : Phase → Connection → Hearing → Mode → Option Clash → Type 0
InPhase Line c h mode against = reader.HoldsRest c.reader h.rest × (mode ≡ Unasked) × (against ≡ None)
InPhase Article c h mode against = InArticle c h mode

-- what stood against the range of the unfinished article, by what was answered to it
abbrev pub IsStood : Mode → Option Clash → Type 0
IsStood Unasked against = against ≡ None
IsStood On against = against ≡ None
IsStood Away against = (clash : Clash) × (against ≡ Some clash)

-- on a link that isn't over
pub record Listens (c : Connection) (h : Hearing) (mode : Mode) (against : Option Clash) : Type 0 where
  pub quiet_is : c.quiet ≡ h.quiets
  pub against_is : c.against ≡ against
  pub stood_is : IsStood mode against
  pub in_phase : InPhase c.phase c h mode against

-- the decoder that is kept stands for the block of the article that hasn't ended, where there is one
abbrev pub KeepsBlock : Phase → Connection → Hearing → Mode → Type 0
KeepsBlock Line c h mode = block_awaited h.waiting h.rest ≡ None
KeepsBlock Article c h mode = (block : List ℕ) × (block_awaited h.waiting h.rest ≡ Some block) × decoder.HasHeard c.fused block mode

-- What is kept stands for what was heard, where the range of the unfinished article was answered so, and this stands against it.
-- Of a link that is over only its decoder is kept.
pub record LinkStands (c : Connection) (h : Hearing) (mode : Mode) (against : Option Clash) : Type 0 where
  pub over_is : c.over ≡ h.over
  pub listens : h.over ≡ None → Listens c h mode against
  pub shows : is_some h.over ≡ true → is_shown h.over ≡ true → KeepsBlock c.phase c h mode

-- the decoder stands for the block of the article that hasn't ended, where one is shown
abbrev pub Decodes : Option (Bor Fused) → Hearing → Mode → Type 0
Decodes None h mode = block_shown h ≡ None
Decodes (Some fused) h mode = (block : List ℕ) × (block_shown h ≡ Some block) × decoder.HasHeard fused.now block mode
