-- What hearing a reply of one line answers, and the reply to GROUP.
use Rattle.std.specs.Prelude.{◌≡◌, ◌≢◌, ℕ, Bool, true, List, [], ◌∷◌, Option, Some, None, ⊤}
use Rattle.io_traits.specs.declared.links.LinkEvent.{LinkEvent}
use Rattle.nntp_lines.specs.declared.why.Why.TheVariants as why
use Rattle.link_dialog.specs.declared.awaited.Awaited.{Awaited}
use Rattle.link_dialog.specs.declared.answer.Answer.{Answer}
use Rattle.link_dialog.specs.declared.answer.Answer.TheVariants as answer
use Rattle.link_dialog.specs.declared.answer.GroupAnswer.{GroupAnswer}
use Rattle.link_dialog.specs.declared.answer.GroupAnswer.TheVariants as group_answer
use Rattle.link_dialog.specs.declared.awaited.Awaited.TheVariants.{Group}
use Rattle.nntp_lines.specs.GroupReply.{group_of}
use Rattle.link_dialog.specs.Replies.{is_meant}
use Rattle.link_dialog.specs.Talk.{line_reply}
use Rattle.link_dialog.specs.Hearing.{HeardTo}

abbrev pub IsAnswered : Option (List LinkEvent) → Option (List LinkEvent) → ℕ → ℕ → Awaited → Answer → Type 0
IsAnswered before after link patience kind (answer.Code code) =
    (is_meant kind code ≡ true) × ((line : List ℕ) × HeardTo before after link patience kind (line_reply code line ∷ []) None)
IsAnswered before after link patience kind (answer.Unasked code) =
    (is_meant kind code ≡ true) × ((line : List ℕ) × HeardTo before after link patience kind (line_reply code line ∷ []) (Some why.Unasked))
IsAnswered before after link patience kind (answer.Over reason) = HeardTo before after link patience kind [] (Some reason)

-- what hearing the reply to GROUP answers: what is said of the newsgroup is read from the line
abbrev pub IsGroupAnswered : Option (List LinkEvent) → Option (List LinkEvent) → ℕ → ℕ → GroupAnswer → Type 0
IsGroupAnswered before after link patience (group_answer.Chosen group) =
    (line : List ℕ) × (group_of line ≡ Some group) × HeardTo before after link patience Group (line_reply 211 line ∷ []) None
IsGroupAnswered before after link patience (group_answer.ChosenUnasked group) =
    (line : List ℕ) × (group_of line ≡ Some group) × HeardTo before after link patience Group (line_reply 211 line ∷ []) (Some why.Unasked)
IsGroupAnswered before after link patience (group_answer.Code code) =
    (is_meant Group code ≡ true) × (code ≢ 211) × ((line : List ℕ) × HeardTo before after link patience Group (line_reply code line ∷ []) None)
IsGroupAnswered before after link patience (group_answer.Unasked code) =
    (is_meant Group code ≡ true) × (code ≢ 211) × ((line : List ℕ) × HeardTo before after link patience Group (line_reply code line ∷ []) (Some why.Unasked))
IsGroupAnswered before after link patience (group_answer.Over reason) = HeardTo before after link patience Group [] (Some reason)

-- the link stays as it is where the reply was heard and nothing behind it
abbrev pub GroupKeepsLive : List Bool → List Bool → GroupAnswer → Type 0
GroupKeepsLive before now (group_answer.Chosen group) = now ≡ before
GroupKeepsLive before now (group_answer.ChosenUnasked group) = ⊤
GroupKeepsLive before now (group_answer.Code code) = now ≡ before
GroupKeepsLive before now (group_answer.Unasked code) = ⊤
GroupKeepsLive before now (group_answer.Over reason) = ⊤
