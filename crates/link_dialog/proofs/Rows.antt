-- Worked cases of replies, of why a link is over, and of dialogs.
use Rattle.std.proofs.Common.{◌≡◌, ℕ, List, [], ◌∷◌, ◌++◌, Some, None, refl}
use Rattle.std.specs.Prelude.{codes, replicate}
use Rattle.io_traits.specs.declared.links.LinkEvent.{LinkEvent}
use Rattle.io_traits.specs.declared.links.LinkEvent.TheVariants.{Sent, Heard, Quiet, Ended}
use Rattle.nntp_lines.specs.declared.why.Why.TheVariants as why
use Rattle.nntp_lines.specs.StatusLine.{status_of}
use Rattle.dot_blocks.specs.BlockReading.{block_from}
use Rattle.link_dialog.specs.declared.awaited.Awaited.TheVariants.{Greeting, User, Post, Article, Over}
use Rattle.link_dialog.specs.Replies.{whole_reply, why_of_rest}
use Rattle.link_dialog.specs.Moments.{why_over, replies_heard}
use Rattle.link_dialog.specs.Dialog.{Message, message_of, asked_by}

-- a line with its CRLF
abbrev line : List ℕ → List ℕ
line text = text ++ 13 ∷ 10 ∷ []

-- ---- replies

greeted : whole_reply Greeting (line (codes "200 hi")) ≡ Some (record { code = 200; line = codes "200 hi"; lines = [] })
unfolding status_of
greeted = refl

not_greeted : whole_reply Greeting (line (codes "502 no")) ≡ None
unfolding status_of
not_greeted = refl

-- a block follows 224, and nothing follows 423
overview : whole_reply Over (line (codes "224 x") ++ line (codes "a") ++ line (codes "..b") ++ line (codes ".")) ≡ Some (record { code = 224; line = codes "224 x"; lines = codes "a" ∷ codes ".b" ∷ [] })
unfolding status_of block_from
overview = refl

no_overview : whole_reply Over (line (codes "423 none")) ≡ Some (record { code = 423; line = codes "423 none"; lines = [] })
unfolding status_of block_from
no_overview = refl

overview_goes_on : whole_reply Over (line (codes "224 x") ++ line (codes "a")) ≡ None
unfolding status_of block_from
overview_goes_on = refl

-- ---- why a link is over

bad_greeting : why_of_rest (Greeting ∷ []) (line (codes "502 no")) ≡ Some (why.Greeting 502)
unfolding status_of
bad_greeting = refl

bad_login : why_of_rest (User ∷ []) (line (codes "481 no")) ≡ Some (why.Login 481)
unfolding status_of
bad_login = refl

odd : why_of_rest (Post ∷ []) (line (codes "400 bye")) ≡ Some (why.Odd 400)
unfolding status_of
odd = refl

no_code : why_of_rest (Article ∷ []) (line (codes "hello")) ≡ Some why.NoReply
unfolding status_of
no_code = refl

too_long_a_line : why_of_rest (Article ∷ []) (replicate 512 65) ≡ Some why.NoReply
too_long_a_line = refl

-- ---- dialogs

abbrev posting : List Message
posting = message_of Post (line (codes "POST")) ∷ []

abbrev posted : List LinkEvent
posted = Heard 0 (line (codes "200")) ∷ Sent 0 (line (codes "POST")) ∷ Heard 0 (codes "340") ∷ Quiet 0 ∷ Heard 0 (line [] ++ 46 ∷ 46 ∷ []) ∷ []

-- the first byte behind the reply ends the link, and the last one counts no more
unasked : why_over 2 (asked_by posting) posted ≡ Some why.Unasked
unfolding status_of
unasked = refl

two_replies : replies_heard 2 (asked_by posting) posted ≡ record { code = 200; line = codes "200"; lines = [] } ∷ record { code = 340; line = codes "340"; lines = [] } ∷ []
unfolding status_of
two_replies = refl

-- two quiet receives after each other are too many for a patience of 2
quiet : why_over 2 (asked_by posting) (Quiet 0 ∷ Quiet 0 ∷ []) ≡ Some why.Quiet
quiet = refl

ended : why_over 2 (asked_by posting) (Quiet 0 ∷ Ended 0 ∷ []) ≡ Some why.Ended
ended = refl
