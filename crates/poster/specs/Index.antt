-- The index of a file that was posted.
use Rattle.std.specs.Prelude.{◌≡◌, ℕ, ◌+◌, ◌≤◌, List, [], ◌∷◌, length, map, All, IsPermutation}
use Rattle.article_head.specs.Field.{names_of}
use Rattle.article_head.specs.Subject.{subject_text}
use Rattle.nzb_writer.specs.declared.index.FileEntry.{FileEntry}
use Rattle.nzb_writer.specs.declared.index.Index.{Index}
use Rattle.nzb_writer.specs.declared.index.Segment.{Segment}
use Rattle.poster.specs.Article.{AreArticles, Article}
use Rattle.poster.specs.declared.index.Sent.{Sent}
use Rattle.poster.specs.declared.parts.Plan.{Plan}
use Rattle.poster.specs.declared.parts.PlanPart.{PlanPart}
use Rattle.poster.specs.declared.settings.Settings.{Settings}
use Rattle.limits.specs.declared.TheConstants.{MOST_OCTETS}

-- one outcome for each part of a plan, none with more octets than an index may tell
pub record AreOutcomes (p : Plan) (sent : List Sent) : Type 0 where
  pub count : length sent ≡ length p.parts
  pub short : All (λ s. s.bytes ≤ MOST_OCTETS) sent

-- a segment for each part, numbered from a number on
abbrev pub segments_from : ℕ → List PlanPart → List Sent → List Segment
segments_from number [] sent = []
segments_from number (part ∷ parts) [] = []
segments_from number (part ∷ parts) (s ∷ sent) =
    record { number = number; bytes = s.bytes; id = part.id } ∷ segments_from (number + 1) parts sent

-- the file that was posted at a moment
abbrev pub entry_of : Settings → Plan → List Sent → ℕ → FileEntry
entry_of s p sent moment = record {
  poster = s.from;
  date = moment;
  subject = subject_text s.comment s.name 1 (length p.parts);
  groups = names_of s.newsgroups;
  segments = segments_from 1 p.parts sent;
}

-- the index with that file alone
abbrev pub index_of : Settings → Plan → List Sent → ℕ → Index
index_of s p sent moment = record { metas = []; files = entry_of s p sent moment ∷ [] }

-- ---- the index of articles

-- the numbers of articles, from a number on, and their message-ids
abbrev pub numbered : ℕ → List Article → List (ℕ × List ℕ)
numbered number [] = []
numbered number (a ∷ articles) = (number, a.id) ∷ numbered (number + 1) articles

-- the segments of a file are, in any order, number i with the message-id of article i, each once
abbrev pub IsIndexOf : List Article → FileEntry → Type 0
IsIndexOf articles entry = IsPermutation (map (λ (s : Segment). (s.number, s.id)) entry.segments) (numbered 1 articles)

-- an index has one file, which is the index of the articles of each file of this many bytes
abbrev pub IndexesArticles : Settings → ℕ → Index → Type 0
IndexesArticles s size index =
    (entry : FileEntry) × (index.files ≡ entry ∷ [])
    × ((file : List ℕ) (articles : List Article) → length file ≡ size → AreArticles s file articles → IsIndexOf articles entry)
