-- What is said over a link to post a file (RFC 3977, 6.3.1), and what the replies say of its parts.
use Rattle.std.specs.Prelude.{◌≡◌, ℕ, suc, zero, ◌+◌, ◌-◌, ◌==◌, ◌≤◌, ◌<◌, ◌&&◌, Bool, false, nat_lt, if◌then◌else◌, List, [], ◌∷◌, ◌++◌, length, map, drop, slice_get, Option, Some, None}
use Rattle.std.specs.List.{flat_map, AllByRecursion}
use Rattle.io_traits.specs.declared.links.LinkEvent.{LinkEvent}
use Rattle.io_traits.specs.Trace.{sent}
use Rattle.nntp_lines.specs.Command.{crlf, post_line}
use Rattle.nntp_lines.specs.declared.login.Login.{Login}
use Rattle.input_files.specs.Reading.{IsPiece}
use Rattle.dot_blocks.specs.Blocks.{stuffed}
use Rattle.yenc_body.specs.Parts.{part_length, part_place}
use Rattle.link_dialog.specs.declared.awaited.Awaited.TheVariants.{Post, Article as TheArticle}
use Rattle.link_dialog.specs.Dialog.{Message, message_of, all_bytes, login_messages}
use Rattle.link_dialog.specs.Replies.{Reply}
use Rattle.poster.specs.Article.{Article, IsArticle, lines_of, octets_of}
use Rattle.poster.specs.declared.index.PartEnd.{PartEnd}
use Rattle.poster.specs.declared.index.PartEnd.TheVariants.{Posted, Refused, Unsure, NotSent}
use Rattle.poster.specs.declared.index.Sent.{Sent}
use Rattle.poster.specs.declared.settings.Settings.{Settings}
use Rattle.limits.specs.declared.TheConstants.{MOST_OCTETS}

-- ---- the articles that were made

-- the block of a part's article, as it is sent, and how many octets the article has
pub record Made : Type 0 where
  pub block : List ℕ
  pub octets : ℕ

-- the article of a part of a file of this many bytes, of the part's bytes, which are those that the input tells there
pub record IsMade (s : Settings) (size : ℕ) (content : Option (List ℕ)) (part : ℕ) (made : Made) : Type 0 where
  pub bytes : List ℕ
  pub told : IsPiece content (part_place s.part_size part) bytes
  pub length_is : length bytes ≡ part_length size s.part_size part
  pub article : Article
  pub is_article : IsArticle s size part bytes article
  pub block_is : made.block ≡ stuffed (lines_of article)
  pub octets_are : made.octets ≡ octets_of article
  pub octets_most : made.octets ≤ MOST_OCTETS

-- the articles of the parts from a part on
abbrev pub AreMade : Settings → ℕ → Option (List ℕ) → ℕ → List Made → Type 0
AreMade s size content part [] = Unit {0}
AreMade s size content part (made ∷ more) = IsMade s size content part made × AreMade s size content (part + 1) more

abbrev pub blocks_of : List Made → List (List ℕ)
blocks_of mades = map (λ (made : Made). made.block) mades

-- ---- what is said

abbrev pub post_message : Message
post_message = message_of Post (post_line ++ crlf)

abbrev pub article_message : List ℕ → Message
article_message block = message_of TheArticle block

-- a part: POST, and its article as a block
abbrev pub part_messages : List ℕ → List Message
part_messages block = post_message ∷ article_message block ∷ []

-- the parts whose articles are these blocks, one after the other
abbrev pub messages_of : List (List ℕ) → List Message
messages_of blocks = flat_map part_messages blocks

-- no block is empty
abbrev pub NoneEmpty : List (List ℕ) → Type 0
NoneEmpty blocks = AllByRecursion (λ (block : List ℕ). 0 < length block) blocks

-- ---- what became of each part

-- how many bytes POST has on the wire
abbrev pub post_length : ℕ
post_length = length post_message.bytes

-- what the code of the answer to an article says of it
abbrev pub article_end : ℕ → PartEnd
article_end code = if code == 240 then Posted else Refused code

-- the answer to the article, if one was heard, and else whether a byte of the article went out
abbrev pub part_end : Option Reply → Bool → PartEnd
part_end (Some reply) begun = article_end reply.code
part_end None begun = if begun then Unsure else NotSent

-- whether POST was permitted by the first of these replies: only then an article follows it
abbrev pub is_permitted : List Reply → Bool
is_permitted [] = false
is_permitted (reply ∷ answers) = reply.code == 340

-- What became of the parts whose articles are these blocks, where these replies were heard to their messages, in order, and
-- this many bytes of them went out.
abbrev pub ends_of : List Reply → ℕ → List (List ℕ) → List PartEnd
ends_of answers out [] = []
ends_of answers out (block ∷ blocks) =
    part_end (slice_get answers 1) (is_permitted answers && nat_lt post_length out) ∷ ends_of (drop 2 answers) (out - post_length - length block) blocks

-- the first code by which POST was refused, among the replies to POST and to an article in turn
abbrev pub refusal_in : List Reply → Option ℕ
refusal_in [] = None
refusal_in (reply ∷ []) = if reply.code == 340 then None else Some reply.code
refusal_in (reply ∷ answer ∷ answers) = if reply.code == 340 then refusal_in answers else Some reply.code

-- The list of all parts, of which there are this many: of those whose articles were made what became of them and how many
-- octets they have, and of the others that nothing was sent.
abbrev pub outcomes_of : ℕ → List PartEnd → List Made → List Sent
outcomes_of zero ends mades = []
outcomes_of (suc n) (end ∷ ends) (made ∷ mades) = record { end = end; bytes = made.octets } ∷ outcomes_of n ends mades
outcomes_of (suc n) [] mades = record { end = NotSent; bytes = 0 } ∷ outcomes_of n [] []
outcomes_of (suc n) (end ∷ ends) [] = record { end = NotSent; bytes = 0 } ∷ outcomes_of n [] []

-- how many bytes went out behind those of the login
abbrev pub out_of : Option Login → List Reply → List LinkEvent → ℕ
out_of login replies events = length (sent events) - length (all_bytes (login_messages login replies))
