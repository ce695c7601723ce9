-- Of which article a link shows the decoder: of the one that hasn't ended, also where the link is over inside it.
use Rattle.std.specs.Prelude.{ℕ, Bool, true, false, not, List, [], ◌∷◌, Option, Some, None, if◌then◌else◌}
use Rattle.nntp_lines.specs.declared.why.Why.{Why}
use Rattle.nntp_lines.specs.declared.why.Why.TheVariants.{TooLong}
use Rattle.link_dialog.specs.declared.awaited.Awaited.{Awaited}
use Rattle.link_dialog.specs.Replies.{first_line}
use Rattle.fetch_trace.specs.HeardOn.{is_body}
use Rattle.fetch_trace.specs.Hearing.{Hearing}
use Rattle.fetch_trace.specs.Verdicts.{block_of}

-- what follows a whole status line of code 222 that answers BODY (RFC 3977, 6.2.3)
abbrev pub block_awaited : List Awaited → List ℕ → Option (List ℕ)
block_awaited [] rest = None
block_awaited (kind ∷ kinds) rest = if is_body kind then block_of (first_line rest) else None

abbrev pub is_too_long : Why → Bool
is_too_long TooLong = true
is_too_long other = false

-- of an article that is too long nothing is shown
abbrev pub is_shown : Option Why → Bool
is_shown None = true
is_shown (Some reason) = not (is_too_long reason)

-- the block of the article that hasn't ended, as far as it has come
abbrev pub block_shown : Hearing → Option (List ℕ)
block_shown h = if is_shown h.over then block_awaited h.waiting h.rest else None
