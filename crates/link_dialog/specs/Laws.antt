-- Laws of replies and dialogs.
use Rattle.std.specs.Prelude.{◌≡◌, ℕ, List, ◌++◌, None}
use Rattle.io_traits.specs.declared.links.LinkEvent.{LinkEvent}
use Rattle.link_dialog.specs.declared.awaited.Awaited.{Awaited}
use Rattle.link_dialog.specs.Reading.{RepliesRead, reading_of, with_replies, IsSplit, IsPrefixFree}
use Rattle.link_dialog.specs.Replies.{Reply, whole_reply}
use Rattle.link_dialog.specs.Dialog.{Message, IsDialog}

-- no whole reply is the beginning of another of its kind
abbrev pub NoReplyBeginsAnother : Type 0
NoReplyBeginsAnother = IsPrefixFree whole_reply

-- the reading of some bytes is a split of them
abbrev pub ReadingIsSplit : Type 0
ReadingIsSplit = (kinds : List Awaited) (bytes : List ℕ) →
    IsSplit whole_reply kinds bytes (reading_of whole_reply kinds bytes).replies (reading_of whole_reply kinds bytes).waiting (reading_of whole_reply kinds bytes).rest

-- each split has a front of the replies that are read
abbrev pub ReadingIsGreatest : Type 0
ReadingIsGreatest = (kinds : List Awaited) (bytes : List ℕ) (replies : List Reply) (waiting : List Awaited) (rest : List ℕ) →
    IsSplit whole_reply kinds bytes replies waiting rest →
    (more : List Reply) × ((reading_of whole_reply kinds bytes).replies ≡ replies ++ more)

-- what is read of more bytes by more kinds, after a reading of the first bytes by the first kinds
abbrev pub read_on_from : RepliesRead Awaited Reply → List Awaited → List ℕ → RepliesRead Awaited Reply
read_on_from reading kinds more = with_replies reading.replies (reading_of whole_reply (reading.waiting ++ kinds) (reading.rest ++ more))

abbrev pub ReadingGoesOn : Type 0
ReadingGoesOn = (kinds more_kinds : List Awaited) (bytes more : List ℕ) →
    reading_of whole_reply (kinds ++ more_kinds) (bytes ++ more) ≡ read_on_from (reading_of whole_reply kinds bytes) more_kinds more

abbrev pub RepliesAreThoseOfTheEvents : Type 0
RepliesAreThoseOfTheEvents = (messages : List Message) (patience : ℕ) (events : List LinkEvent) (a b : List Reply) →
    IsDialog None messages patience events a → IsDialog None messages patience events b → a ≡ b
