-- What a grouper has of a file: what its first article says of it, and its segments in a map by their numbers.
use Rattle.std.specs.Prelude.{◌≡◌, ℕ, ◌≤◌, ◌+◌, ◌<◌, ◌==◌, List, [], ◌∷◌, filter, find, None, Some, Result, Ok, Err, IsSome}
use Rattle.std.specs.BTreeMap.{IsOrdered, Updates, btree_map_len, get, values}
use Rattle.std.specs.Option.{option_map}
use Rattle.std.specs.Ordering.{nat_cmp}
use Rattle.nzb_writer.specs.declared.index.FileEntry.{FileEntry}
use Rattle.overview_lines.specs.OverLine.{over_in}
use Rattle.overview_lines.specs.declared.count.Count.{Count}
use Rattle.overview_lines.specs.declared.over.OverLine.{OverLine}
use Rattle.overview_index.specs.Group.{Counted, Key, has_key, number_of, seconds_of, segment_of}
use Rattle.overview_index.specs.declared.added.Added.{Added}
use Rattle.overview_index.specs.declared.added.Added.TheVariants.{New, Repeat, NoCount}
use Rattle.overview_index.specs.declared.added.GroupError.{GroupError}
use Rattle.overview_index.specs.declared.added.GroupError.TheVariants.{Memory, Segments, Files}
use Rattle.overview_index.specs.declared.draft.Draft.{Draft}
use Rattle.limits.specs.declared.TheConstants.{LAST_MOMENT, MOST_SEGMENTS}

-- the article of a line that was read, with the count of its subject
abbrev pub article_in : OverLine → Count → Counted
article_in line count = record { over = over_in line; count = count }

-- the file that this article begins
pub record IsBegunBy (first : Counted) (draft : Draft) : Type 0 where
  pub poster : draft.poster ≡ first.over.from
  pub date : draft.date ≡ seconds_of first.over.date
  pub late : draft.date ≤ LAST_MOMENT
  pub subject : draft.subject ≡ first.over.subject

-- the file of the articles with a key
pub record IsDraftOf (articles : List Counted) (key : Key) (draft : Draft) : Type 0 where
  pub first : Counted
  pub is_first : find (has_key key) articles ≡ Some first
  pub begun : IsBegunBy first draft
  pub ordered : IsOrdered nat_cmp draft.segments
  pub segments : (number : ℕ) → get nat_cmp draft.segments number ≡ option_map segment_of (find (λ a. number_of a == number) (filter (has_key key) articles))

-- the same file, with the same segments
pub record IsSameDraft (old new : Draft) : Type 0 where
  pub poster : new.poster ≡ old.poster
  pub date : new.date ≡ old.date
  pub subject : new.subject ≡ old.subject
  pub segments : new.segments.entries ≡ old.segments.entries

-- the same file, with the segment of an article that has a new number
pub record HasSegmentMore (article : Counted) (old new : Draft) : Type 0 where
  pub poster : new.poster ≡ old.poster
  pub date : new.date ≡ old.date
  pub subject : new.subject ≡ old.subject
  pub updates : Updates nat_cmp old.segments new.segments (number_of article) (Some (segment_of article))
  pub more : btree_map_len new.segments ≡ btree_map_len old.segments + 1
  pub ordered : IsOrdered nat_cmp new.segments

-- what becomes of a file to which an article is added, where so many segments are in all files
abbrev pub AddsArticle : Counted → ℕ → Draft → Draft → Result Added GroupError → Type 0
AddsArticle article count old new (Ok New) = (get nat_cmp old.segments (number_of article) ≡ None) × (count < MOST_SEGMENTS) × HasSegmentMore article old new
AddsArticle article count old new (Ok Repeat) = IsSome (get nat_cmp old.segments (number_of article)) × IsSameDraft old new
AddsArticle article count old new (Ok NoCount) = ⊥
AddsArticle article count old new (Err Memory) = IsSameDraft old new
AddsArticle article count old new (Err Segments) = (get nat_cmp old.segments (number_of article) ≡ None) × (MOST_SEGMENTS ≤ count) × IsSameDraft old new
AddsArticle article count old new (Err Files) = ⊥

-- a file as it is in an index
abbrev pub entry_of : List ℕ → Draft → FileEntry
entry_of group draft = record {
  poster = draft.poster;
  date = draft.date;
  subject = draft.subject;
  groups = group ∷ [];
  segments = values draft.segments;
}
