-- Replies (RFC 3977, 3.1 and 3.2): a status line with its CRLF and, where a block follows that code, the block.
use Rattle.std.specs.Prelude.{◌==◌, ◌&&◌, ◌||◌, ℕ, Bool, true, false, not, List, [], ◌∷◌, length, Option, Some, None, Result, Ok, Err, if◌then◌else◌, nat_le, nat_lt, drop, slice_index, ◌-◌, is_some}
use Rattle.std.specs.Option.{option_map}
use Rattle.std.specs.Int.{is_in_range}
use Rattle.nntp_lines.specs.declared.status.StatusFault.{StatusFault}
use Rattle.nntp_lines.specs.declared.why.Why.{Why}
use Rattle.nntp_lines.specs.declared.why.Why.TheVariants as why
use Rattle.nntp_lines.specs.GroupReply.{group_of}
use Rattle.nntp_lines.specs.StatusLine.{status_of}
use Rattle.dot_blocks.specs.BlockReading.{front_block}
use Rattle.link_dialog.specs.declared.awaited.Awaited.{Awaited}
use Rattle.link_dialog.specs.declared.awaited.Awaited.TheVariants.{Greeting, User, Pass, Post, Article, Group, Over, Body, Quit}
use Rattle.limits.specs.declared.TheConstants.{MOST_TEXT_BYTES}

-- what a reply says: its code, its status line without the CRLF, and the lines of its block, if it has one
pub record Reply : Type 0 where
  pub code : ℕ
  pub line : List ℕ
  pub lines : List (List ℕ)

-- ---- codes

-- The codes that are taken as a reply. Any other ends the link.
abbrev pub is_meant : Awaited → ℕ → Bool
-- the server is ready, and posting is allowed or not (RFC 3977, 5.1)
is_meant Greeting code = (code == 200) || (code == 201)
-- logged in, or a password is wanted (RFC 4643, 2.3)
is_meant User code = (code == 281) || (code == 381)
is_meant Pass code = code == 281
-- send the article, or it is refused by any other code; 400 ends the session (RFC 3977, 6.3.1 and 3.2.1)
is_meant Post code = not (code == 400)
-- the article was taken or refused (RFC 3977, 6.3.1)
is_meant Article code = (code == 240) || (code == 441)
-- the newsgroup is chosen, or the command failed (RFC 3977, 6.1.1)
is_meant Group code = (code == 211) || is_in_range 400 599 code
-- an overview, or there is none, or the command failed (RFC 3977, 8.3)
is_meant Over code = (code == 224) || is_in_range 400 599 code
-- a body, or the server doesn't have it (RFC 3977, 6.2.3)
is_meant Body code = (code == 222) || is_in_range 401 499 code
-- the connection closes (RFC 3977, 5.4); this program doesn't read it
is_meant Quit code = code == 205

-- whether a block follows the status line
abbrev pub has_block : Awaited → ℕ → Bool
has_block Over code = code == 224
has_block Body code = code == 222
has_block other code = false

-- why a link is over at a code that isn't meant
abbrev pub refusal_of : Awaited → ℕ → Why
refusal_of Greeting code = why.Greeting code
refusal_of User code = why.Login code
refusal_of Pass code = why.Login code
refusal_of other code = why.Odd code

-- ---- status lines

-- the bytes before the first CRLF, and those behind it
abbrev pub begins_line_end : List ℕ → Bool
begins_line_end (c ∷ d ∷ cs) = (c == 13) && (d == 10)
begins_line_end short = false

abbrev pub with_byte : ℕ → List ℕ × List ℕ → List ℕ × List ℕ
with_byte c line = (c ∷ line.0, line.1)

abbrev pub first_line : List ℕ → Option (List ℕ × List ℕ)
first_line [] = None
first_line (c ∷ cs) = if begins_line_end (c ∷ cs) then Some ([], drop 1 cs) else option_map (with_byte c) (first_line cs)

-- whether a byte ends the line that these bytes begin
abbrev pub ends_line : List ℕ → ℕ → Bool
ends_line rest byte = (byte == 10) && (nat_lt 0 (length rest) && (slice_index rest (length rest - 1) == 13))

-- whether a line with this code is read as a reply; one that chooses a newsgroup has its numbers (RFC 3977, 6.1.1)
abbrev pub is_read : Awaited → ℕ → List ℕ → Bool
is_read Group code line = not (code == 211) || is_some (group_of line)
is_read other code line = true

abbrev pub judged_code : Awaited → List ℕ → Result ℕ StatusFault → Result ℕ Why
judged_code kind line (Err fault) = Err why.NoReply
judged_code kind line (Ok code) =
    if is_meant kind code then (if is_read kind code line then Ok code else Err why.NoReply) else Err (refusal_of kind code)

-- the code of a status line where a reply of this kind is awaited, or why it ends the link
abbrev pub judged : Awaited → List ℕ → Result ℕ Why
judged kind line = judged_code kind line (status_of line)

-- ---- replies

-- the most bytes that a reply may have: 64 MiB
abbrev pub most : ℕ
most = MOST_TEXT_BYTES

-- a reply that ends here, with no byte behind it
abbrev pub reply_at_end : ℕ → List ℕ → List (List ℕ) → List ℕ → Option Reply
reply_at_end code line lines [] = Some (record { code = code; line = line; lines = lines })
reply_at_end code line lines (c ∷ cs) = None

abbrev pub reply_with_block : ℕ → List ℕ → Option (List (List ℕ) × List ℕ) → Option Reply
reply_with_block code line None = None
reply_with_block code line (Some found) = reply_at_end code line found.0 found.1

-- a status line that was judged, and what follows it
abbrev pub reply_judged : Awaited → List ℕ → List ℕ → Result ℕ Why → Option Reply
reply_judged kind line after (Err reason) = None
reply_judged kind line after (Ok code) =
    if has_block kind code then reply_with_block code line (front_block after) else reply_at_end code line [] after

abbrev pub reply_of : Awaited → Option (List ℕ × List ℕ) → Option Reply
reply_of kind None = None
reply_of kind (Some line) = reply_judged kind line.0 line.1 (judged kind line.0)

-- what these bytes say, where they are a whole reply of this kind
abbrev pub whole_reply : Awaited → List ℕ → Option Reply
whole_reply kind bytes = if nat_le (length bytes) most then reply_of kind (first_line bytes) else None

-- ---- why a rest ends a link

abbrev pub why_judged : List ℕ → Result ℕ Why → Option Why
why_judged rest (Err reason) = Some reason
why_judged rest (Ok code) = if nat_le (length rest) most then None else Some why.TooLong

-- with CRLF a status line has at most 512 bytes
abbrev pub why_of_line : Awaited → List ℕ → Option (List ℕ × List ℕ) → Option Why
why_of_line kind rest None = if nat_le 512 (length rest) then Some why.NoReply else None
why_of_line kind rest (Some line) = why_judged rest (judged kind line.0)

-- Why what was heard behind the replies ends the link, where replies of these kinds are still awaited. Behind the last
-- reply that is due any byte does. Each of these reasons comes with its one byte, so no two come at once.
abbrev pub why_of_rest : List Awaited → List ℕ → Option Why
why_of_rest [] [] = None
why_of_rest [] (c ∷ cs) = Some why.Unasked
why_of_rest (kind ∷ kinds) rest = why_of_line kind rest (first_line rest)
