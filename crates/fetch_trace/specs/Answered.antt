-- The premise of the headline in the words of the bytes that were heard (RFC 3977, 3.1 and 6.2.3).
use Rattle.std.specs.Prelude.{◌≡◌, ℕ, List, [], ◌∷◌, ◌++◌, Some, slice_get}
use Rattle.yenc_body.specs.declared.part.Part.{Part}
use Rattle.link_dialog.specs.declared.awaited.Awaited.TheVariants.{Body}
use Rattle.link_dialog.specs.Replies.{Reply, first_line, whole_reply}
use Rattle.fetch_trace.specs.Setting.{Setting}
use Rattle.fetch_trace.specs.Verdicts.{block_of}
use Rattle.fetch_trace.specs.LinkNow.{LinkNow}
use Rattle.fetch_trace.specs.Standing.{Standing}
use Rattle.fetch_trace.specs.HeldRanges.{IsOldest}
use Rattle.fetch_trace.specs.Headline.{IsOf, IsPosted, AnswersArePosted, answers_on}

-- Every answer on the link to a segment of the file that is an article has the lines of the posted one; and where what was heard
-- behind the answers begins with a whole status line of code 222, it goes on to such an article.
pub record IsAnsweredOn (setting : Setting) (file : ℕ) (lines : ℕ → List (List ℕ)) (l : LinkNow) : Type 0 where
  pub whole : (k segment : ℕ) (reply : Reply) → slice_get l.asking.commands k ≡ Some segment → slice_get (answers_on l) k ≡ Some reply → IsOf setting file segment → reply.code ≡ 222 → reply.lines ≡ lines segment
  pub begun : (segment : ℕ) (block : List ℕ) → IsOldest l segment → IsOf setting file segment → block_of (first_line l.hearing.rest) ≡ Some block →
      (more : List ℕ) × ((byte : ℕ) × ((reply : Reply) × ((whole_reply Body (l.hearing.rest ++ (more ++ byte ∷ [])) ≡ Some reply) × (reply.lines ≡ lines segment))))

-- then the answers are posted, as the headline asks
abbrev pub FrontsArePosted : Type 0
FrontsArePosted = (setting : Setting) (file : ℕ) (bytes : List ℕ) (lines : ℕ → List (List ℕ)) (part : ℕ → Part) (s : Standing) → IsPosted setting file bytes lines part →
    ((i : ℕ) (l : LinkNow) → slice_get s.links i ≡ Some l → IsAnsweredOn setting file lines l) → AnswersArePosted setting file bytes lines part s
