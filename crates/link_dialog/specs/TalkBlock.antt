-- Hearing a reply that may have a block, and the reply to GROUP, in the terms of the caller of a dialog.
use Rattle.std.specs.Prelude.{◌≡◌, ◌≢◌, ℕ, Bool, true, List, [], ◌∷◌, ◌++◌, Option, Some}
use Rattle.io_traits.specs.declared.links.LinkEvent.{LinkEvent}
use Rattle.nntp_lines.specs.declared.why.Why.TheVariants as why
use Rattle.link_dialog.specs.declared.awaited.Awaited.{Awaited}
use Rattle.link_dialog.specs.declared.answer.Answer.{Answer}
use Rattle.link_dialog.specs.declared.answer.Answer.TheVariants as answer
use Rattle.link_dialog.specs.declared.answer.GroupAnswer.{GroupAnswer}
use Rattle.link_dialog.specs.declared.answer.GroupAnswer.TheVariants as group_answer
use Rattle.link_dialog.specs.declared.awaited.Awaited.TheVariants.{Group}
use Rattle.nntp_lines.specs.GroupReply.{group_of}
use Rattle.link_dialog.specs.declared.dialog.Dialog.{Dialog}
use Rattle.link_dialog.specs.Replies.{Reply, is_meant}
use Rattle.link_dialog.specs.Dialog.{Message}
use Rattle.link_dialog.specs.Talk.{Start, Rests, Ends, bytes_said, line_reply}
use Rattle.link_dialog.specs.BlockHearing.{HasReply}

-- It was heard whole, or bytes behind it too, or the link is over without it. `HasReply` says what is kept of its block.
abbrev pub IsBlockHeard : Start → Option (List LinkEvent) → Dialog → List Message → Awaited → List Reply → Bool → List ℕ → Answer → Type 0
IsBlockHeard start now dialog messages kind replies kept block (answer.Code code) =
    (is_meant kind code ≡ true)
    × ((reply : Reply) × HasReply kind code kept block reply × Rests start now dialog messages (replies ++ reply ∷ []))
IsBlockHeard start now dialog messages kind replies kept block (answer.Unasked code) =
    (is_meant kind code ≡ true)
    × ((reply : Reply) × HasReply kind code kept block reply
    × Ends start now dialog.patience messages (bytes_said start messages replies) why.Unasked (replies ++ reply ∷ []))
IsBlockHeard start now dialog messages kind replies kept block (answer.Over reason) =
    Ends start now dialog.patience messages (bytes_said start messages replies) reason replies

-- The newsgroup is chosen, or the reply has another code, in both cases with bytes behind it or not, or the link is over without
-- it.
abbrev pub IsGroupHeard : Start → Option (List LinkEvent) → Dialog → List Message → List Reply → GroupAnswer → Type 0
IsGroupHeard start now dialog messages replies (group_answer.Chosen group) =
    (line : List ℕ) × (group_of line ≡ Some group) × Rests start now dialog messages (replies ++ line_reply 211 line ∷ [])
IsGroupHeard start now dialog messages replies (group_answer.ChosenUnasked group) =
    (line : List ℕ) × (group_of line ≡ Some group)
    × Ends start now dialog.patience messages (bytes_said start messages replies) why.Unasked (replies ++ line_reply 211 line ∷ [])
IsGroupHeard start now dialog messages replies (group_answer.Code code) =
    (is_meant Group code ≡ true) × (code ≢ 211) × ((line : List ℕ) × Rests start now dialog messages (replies ++ line_reply code line ∷ []))
IsGroupHeard start now dialog messages replies (group_answer.Unasked code) =
    (is_meant Group code ≡ true) × (code ≢ 211)
    × ((line : List ℕ) × Ends start now dialog.patience messages (bytes_said start messages replies) why.Unasked (replies ++ line_reply code line ∷ []))
IsGroupHeard start now dialog messages replies (group_answer.Over reason) =
    Ends start now dialog.patience messages (bytes_said start messages replies) reason replies
