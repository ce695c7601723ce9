-- A reply to BODY as it came off the wire: a status line, and a block of the lines of an article's body (RFC 3977, sections 3.1,
-- 3.1.1, 3.2 and 6.2.3).
use Rattle.std.specs.Prelude.{◌≡◌, ◌≢◌, ◌<◌, ℕ, List, ◌∷◌, ◌++◌, drop, length, take, Option, Some, None, ⊤}
use Rattle.dot_blocks.specs.Blocks.{BeginsNoBlock, HoldsNoLineEnd, IsBlock}
use Rattle.nntp_lines.specs.StatusLine.{IsStatusLine}
use Rattle.run_ends.specs.declared.end.End.{End}
use Rattle.run_ends.specs.declared.end.End.TheVariants.{NoMemory, NoReply as LacksReply}
use Rattle.run_ends.specs.declared.end.ReplyFault.{ReplyFault}
use Rattle.run_ends.specs.declared.end.ReplyFault.TheVariants.{NoReply, Code, Unfinished, Rest}

-- the code of a reply that goes on with the body of an article (6.2.3)
abbrev pub body_follows : ℕ
body_follows = 222

-- a text begins with a status line of this code, which the first CRLF ends, and goes on with this
pub record BeginsWithStatus (text : List ℕ) (code : ℕ) (rest : List ℕ) : Type 0 where
  pub line : List ℕ
  pub text_is : text ≡ line ++ 13 ∷ 10 ∷ rest
  pub first : HoldsNoLineEnd line
  pub status : IsStatusLine line code

-- the reply with a body of these lines: the status line of a body that follows, and one block
abbrev pub IsBodyReply : List ℕ → List (List ℕ) → Type 0
IsBodyReply text lines = (block : List ℕ) × BeginsWithStatus text body_follows block × IsBlock lines block

-- why a text is none, in the order in which it is judged
abbrev pub HasReplyFault : List ℕ → ReplyFault → Type 0
HasReplyFault text NoReply = (code : ℕ) (rest : List ℕ) → ¬ (BeginsWithStatus text code rest)
HasReplyFault text (Code code) = (rest : List ℕ) × BeginsWithStatus text code rest × (code ≢ body_follows)
HasReplyFault text Unfinished = (rest : List ℕ) × BeginsWithStatus text body_follows rest × BeginsNoBlock rest
HasReplyFault text Rest =
    (rest : List ℕ) × BeginsWithStatus text body_follows rest
    × ((used : ℕ) × (used < length rest) × ((lines : List (List ℕ)) × IsBlock lines (take used rest)))

-- a text is refused for its fault, unless memory was wanting
abbrev pub IsReplyError : List ℕ → End → Type 0
IsReplyError text NoMemory = ⊤
IsReplyError text (LacksReply fault) = HasReplyFault text fault
IsReplyError text other = ⊥

-- the code of the status line at a text's front, and how many bytes it has with its CRLF
abbrev pub ReadsStatus : List ℕ → Option (ℕ × ℕ) → Type 0
ReadsStatus text None = HasReplyFault text NoReply
ReadsStatus text (Some found) = BeginsWithStatus text found.0 (drop found.1 text)
