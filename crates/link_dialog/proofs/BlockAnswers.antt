-- What hearing a reply with a block answers, by what the last piece did.
use Rattle.std.proofs.Common.{◌≡◌, ◌<◌, ◌+◌, ◌-◌, ℕ, true, false, List, [], ◌++◌, Option, Some, refl, sym, subst, ◌∙◌, take, drop, length, arith}
use Rattle.std.proofs.lemmas.List.{take_rest}
use Rattle.io_traits.specs.declared.links.LinkEvent.{LinkEvent}
use Rattle.nntp_lines.specs.declared.why.Why.TheVariants as why
use Rattle.link_dialog.specs.declared.awaited.Awaited.{Awaited}
use Rattle.link_dialog.specs.declared.answer.Answer.TheVariants as answer
use Rattle.link_dialog.specs.declared.block.BlockReader.{BlockReader}
use Rattle.link_dialog.specs.declared.block.BlockStep.{BlockStep}
use Rattle.link_dialog.specs.declared.block.BlockStep.TheVariants.{End, TooLong}
use Rattle.link_dialog.specs.Replies.{has_block, is_meant}
use Rattle.link_dialog.specs.Talk.{line_reply}
use Rattle.link_dialog.specs.Hearing.{HeardTo}
use Rattle.link_dialog.specs.BlockReader.{StandsIn, BlockSteps, BlockBegins}
use Rattle.link_dialog.specs.BlockHearing.{HasReply, IsBlockAnswered}
use Rattle.link_dialog.proofs.BlockHearings.{InPiece, block_reply, piece_ends, piece_ends_early, piece_too_long}

pub answers_whole : (before after : Option (List LinkEvent)) (link patience : ℕ) (kind : Awaited) (code : ℕ) (piece : List ℕ) (u : ℕ) (block : List ℕ) (old new : BlockReader) (kept_old kept_new : List ℕ) (used : ℕ) → 0 < patience → is_meant kind code ≡ true → has_block kind code ≡ true → (s : InPiece before after link patience kind code piece u block) → StandsIn old kept_old block → old.heard ≡ length s.status + length block → BlockSteps old kept_old new kept_new block (drop u piece) (End used) → u + used ≡ length piece → IsBlockAnswered before after link patience kind new.kept kept_new (answer.Code code)
answers_whole before after link patience kind code piece u block old new kept_old kept_new used patient meant has s stands count steps all =
    let step = steps stands in
    let room = step.2 in (
      meant,
      (
        block_reply code s.line_reader step.3.0,
        record { code_is = refl; lines_are = λ h. (block ++ take used (drop u piece), step.3.1, step.4) },
        piece_ends before after link patience kind code piece u block used step.3.0 patient has s step.0 all (omega (arith, count, room)) step.3.1,
      ),
    )

pub answers_early : (before after : Option (List LinkEvent)) (link patience : ℕ) (kind : Awaited) (code : ℕ) (piece : List ℕ) (u : ℕ) (block : List ℕ) (old new : BlockReader) (kept_old kept_new : List ℕ) (used : ℕ) → 0 < patience → is_meant kind code ≡ true → has_block kind code ≡ true → (s : InPiece before after link patience kind code piece u block) → StandsIn old kept_old block → old.heard ≡ length s.status + length block → BlockSteps old kept_old new kept_new block (drop u piece) (End used) → u + used < length piece → IsBlockAnswered before after link patience kind new.kept kept_new (answer.Unasked code)
answers_early before after link patience kind code piece u block old new kept_old kept_new used patient meant has s stands count steps less =
    let step = steps stands in
    let room = step.2 in (
      meant,
      (
        block_reply code s.line_reader step.3.0,
        record { code_is = refl; lines_are = λ h. (block ++ take used (drop u piece), step.3.1, step.4) },
        piece_ends_early before after link patience kind code piece u block used step.3.0 patient has s step.0 less (omega (arith, count, room)) step.3.1,
      ),
    )

pub answers_too_long : (before after : Option (List LinkEvent)) (link patience : ℕ) (kind : Awaited) (code : ℕ) (piece : List ℕ) (u : ℕ) (block : List ℕ) (old new : BlockReader) (kept_old kept_new : List ℕ) → 0 < patience → has_block kind code ≡ true → (s : InPiece before after link patience kind code piece u block) → StandsIn old kept_old block → old.heard ≡ length s.status + length block → BlockSteps old kept_old new kept_new block (drop u piece) TooLong → HeardTo before after link patience kind [] (Some why.TooLong)
answers_too_long before after link patience kind code piece u block old new kept_old kept_new patient has s stands count steps =
    let step = steps stands in
    let full = step.2 in
    piece_too_long before after link patience kind code piece u block step.0 new patient has s step.1 (omega (arith, count, full)) step.3

-- where the reader begins, behind the status line
pub begins_behind : (reader : BlockReader) (line : ℕ) (kept : List ℕ) → kept ≡ [] → BlockBegins reader line → StandsIn reader kept []
begins_behind reader line kept none s = subst (λ (t : List ℕ). StandsIn reader t []) (sym none) s.0

-- a step over what is left of a piece
pub steps_left : (old new : BlockReader) (kept_old kept_new heard piece : List ℕ) (u : ℕ) (answer step : BlockStep) → answer ≡ step → BlockSteps old kept_old new kept_new heard (take (length piece - u) (drop u piece)) answer → BlockSteps old kept_old new kept_new heard (drop u piece) step
steps_left old new kept_old kept_new heard piece u answer step is steps =
    subst (λ (s : BlockStep). BlockSteps old kept_old new kept_new heard (drop u piece) s) is
    (subst (λ (t : List ℕ). BlockSteps old kept_old new kept_new heard t answer) (take_rest piece u) steps)

-- a reply of one line
pub no_lines : (kind : Awaited) (code : ℕ) (line kept : List ℕ) → has_block kind code ≡ false → HasReply kind code true kept (line_reply code line)
no_lines kind code line kept none = record { code_is = refl; lines_are = λ has. let two : true ≡ false = sym has ∙ none in cc }
