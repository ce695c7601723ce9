-- Laws of what an article's bytes give.
use Rattle.std.specs.List.{AllByRecursion}
use Rattle.std.specs.Prelude.{◌≡◌, ◌<◌, ◌≤◌, ◌+◌, ◌-◌, ◌^◌, ℕ, false, List, [], ◌∷◌, ◌++◌, slice_get, Option, Some, None, length}
use Rattle.yenc_lines.specs.declared.keyword.Begin.{Begin}
use Rattle.yenc_body.specs.Body.{IsHead}
use Rattle.yenc_body.specs.declared.place.Place.TheVariants.{Opening}
use Rattle.fused_decoder.specs.DataGiven.{data_given_from}
use Rattle.fused_decoder.specs.Steps.{IsGiven}
use Rattle.fetch_trace.specs.Verdicts.{Range, range_in, lines_from}
use Rattle.fetch_trace.specs.LinkNow.{LinkNow, with_hearing, is_over}
use Rattle.fetch_trace.specs.Standing.{Standing, with_link, place_from}
use Rattle.fetch_trace.specs.Moving.{hears, hears_byte}
use Rattle.fetch_link.specs.Bytes.{heard_by, AreSilent}

-- before its range is fixed an article gives nothing, and then no more than the range has room for
abbrev pub Fits : Option Range → List ℕ → Type 0
Fits None bytes = bytes ≡ []
Fits (Some range) bytes = length bytes ≤ range.last + 1 - range.first

abbrev pub GivenFits : Type 0
GivenFits = (heard bytes : List ℕ) → AllByRecursion (λ x. x < 256) heard → IsGiven heard bytes → Fits (range_in (lines_from [] heard)) bytes

-- and so do the lines of a whole one
abbrev pub AllGivenFits : Type 0
AllGivenFits = (lines : List (List ℕ)) → AllByRecursion (λ line. AllByRecursion (λ x. x < 256) line) lines → Fits (range_in lines) (data_given_from lines Opening)

-- the range that the keyword lines fix is one that can be claimed
abbrev pub HeadIsARange : Type 0
HeadIsARange = (lines : List (List ℕ)) (b : Begin) (first last : ℕ) → IsHead lines b first last → (1 ≤ first) × (first ≤ last + 1) × (last ≤ b.size) × (b.size ≤ 2 ^ 40)

-- ---- what is heard, in what a moment says of all links

-- the link behind these bytes, where they are silent
abbrev pub behind : List ℕ → LinkNow → LinkNow
behind bytes l = with_hearing (heard_by bytes l.hearing) l

-- the link i has the number n, and isn't over
pub record IsLive (s : Standing) (n i : ℕ) (l : LinkNow) : Type 0 where
  pub place : place_from 0 n s.links ≡ Some i
  pub here : slice_get s.links i ≡ Some l
  pub live : is_over l ≡ false

-- silent bytes change what was heard on the link, and nothing else
abbrev pub SilenceMovesHearing : Type 0
SilenceMovesHearing = (s : Standing) (n i : ℕ) (l : LinkNow) (bytes : List ℕ) → IsLive s n i l → AreSilent l.hearing.waiting l.hearing.rest bytes →
    hears bytes n s ≡ with_link i (behind bytes l) s

-- where all but the last are silent, that one is the only move
abbrev pub LastByteMoves : Type 0
LastByteMoves = (s : Standing) (n i : ℕ) (l : LinkNow) (front : List ℕ) (byte : ℕ) → IsLive s n i l → AreSilent l.hearing.waiting l.hearing.rest front →
    hears (front ++ byte ∷ []) n s ≡ hears_byte byte i (behind front l) (with_link i (behind front l) s)
