-- The files that the articles of an overview are parts of (RFC 3977, 8.3; yEnc draft 1.3, "Subject Line Conventions"). How
-- articles are taken together is this project's choice: by who posted them and by their subject without its last count.
use Rattle.std.specs.Prelude.{◌≡◌, ℕ, ◌≤◌, ◌<◌, Bool, not, ◌&&◌, ◌==◌, List, [], ◌∷◌, ◌++◌, length, take, drop, map, filter, find, Option, Some, bytes_eq, IsTrue, IsFalse, unwrap_or}
use Rattle.std.specs.List.{AllZip, filter_map, list_any}
use Rattle.std.specs.List.Sorted.{IsStrictlyIncreasing}
use Rattle.std.specs.Option.{option_map}
use Rattle.nzb_writer.specs.declared.index.FileEntry.{FileEntry}
use Rattle.nzb_writer.specs.declared.index.Index.{Index}
use Rattle.nzb_writer.specs.declared.index.Segment.{Segment}
use Rattle.overview_lines.specs.Count.{count_of}
use Rattle.overview_lines.specs.Date.{date_of}
use Rattle.overview_lines.specs.OverLine.{Over}
use Rattle.overview_lines.specs.declared.count.Count.{Count}
use Rattle.overview_index.specs.declared.added.GroupError.{GroupError}
use Rattle.overview_index.specs.declared.added.GroupError.TheVariants.{Memory, Segments, Files}
use Rattle.limits.specs.declared.TheConstants.{MOST_FILES, MOST_SEGMENTS}

-- ---- articles

-- an article whose subject has a count
pub record Counted : Type 0 where
  pub over : Over
  pub count : Count

-- the article of a line, where its subject has a count
unfoldable pub counted : Over → Option Counted
counted over = option_map (λ count. record { over = over; count = count }) (count_of over.subject)

-- the articles among some lines whose subjects have a count, in order
abbrev pub counted_in : List Over → List Counted
counted_in lines = filter_map counted lines

-- what the articles of one file have in common: who posted them, and their subject without the bytes of its last count
abbrev pub Key : Type 0
Key = List ℕ × List ℕ

abbrev pub key_of : Counted → Key
key_of a = (a.over.from, take a.count.start a.over.subject ++ drop a.count.end a.over.subject)

abbrev pub same_key : Key → Key → Bool
same_key one other = bytes_eq one.0 other.0 && bytes_eq one.1 other.1

abbrev pub has_key : Key → Counted → Bool
has_key key a = same_key key (key_of a)

-- which part of the file an article is
abbrev pub number_of : Counted → ℕ
number_of a = a.count.part

-- an article is of the file of another, and the same part of it
abbrev pub same_part : Counted → Counted → Bool
same_part one other = has_key (key_of one) other && (number_of one == number_of other)

-- ---- files

-- the members of a list, each once, in the order in which they appear first
abbrev pub each_once : {A : Type 0} → (A → A → Bool) → List A → List A
each_once same [] = []
each_once same (x ∷ xs) = x ∷ filter (λ y. not (same x y)) (each_once same xs)

-- the keys of some articles, each once, in the order in which they appear first
abbrev pub keys_of : List Counted → List Key
keys_of articles = each_once same_key (map key_of articles)

-- the segment that an article makes
abbrev pub segment_of : Counted → Segment
segment_of a = record { number = number_of a; bytes = a.over.bytes; id = a.over.id }

-- the segments of a file whose articles are these: for each number that an article has the segment of the first article that
-- has it, in ascending order of numbers
pub record AreSegments (articles : List Counted) (segments : List Segment) : Type 0 where
  pub ascending : IsStrictlyIncreasing (map (λ (s : Segment). s.number) segments)
  pub each : (number : ℕ) → find (λ (s : Segment). s.number == number) segments ≡ option_map segment_of (find (λ a. number_of a == number) articles)

-- seconds that a date says, or 0 where it isn't read
abbrev pub seconds_of : List ℕ → ℕ
seconds_of date = unwrap_or (date_of date) 0

-- the file of the articles with a key, in a newsgroup: what is said of it is what its first article says
pub record IsFileOf (group : List ℕ) (articles : List Counted) (key : Key) (file : FileEntry) : Type 0 where
  pub first : Counted
  pub is_first : find (has_key key) articles ≡ Some first
  pub poster : file.poster ≡ first.over.from
  pub date : file.date ≡ seconds_of first.over.date
  pub subject : file.subject ≡ first.over.subject
  pub groups : file.groups ≡ group ∷ []
  pub segments : AreSegments (filter (has_key key) articles) file.segments

-- the index of the lines of a newsgroup's overview: the files in the order in which their first articles appear
pub record IsIndexOfLines (group : List ℕ) (lines : List Over) (index : Index) : Type 0 where
  pub metas : index.metas ≡ []
  pub files : AllZip (IsFileOf group (counted_in lines)) (keys_of (counted_in lines)) index.files

-- a list of lines has one index
abbrev pub OneIndexOfLines : Type 0
OneIndexOfLines = (group : List ℕ) (lines : List Over) (one other : Index) → IsIndexOfLines group lines one → IsIndexOfLines group lines other → one ≡ other

-- ---- what an index may hold

-- the articles that bring a segment, in order
abbrev pub parts_of : List Counted → List Counted
parts_of articles = each_once same_part articles

-- how many segments, and how many files, the index of some lines has
abbrev pub segments_in : List Over → ℕ
segments_in lines = length (parts_of (counted_in lines))

abbrev pub files_in : List Over → ℕ
files_in lines = length (keys_of (counted_in lines))

-- behind these lines, this one is an article whose file has its number already
abbrev pub IsRepeat : List Over → Over → Type 0
IsRepeat lines line = (a : Counted) × (counted line ≡ Some a) × IsTrue (list_any (λ other. same_part other a) (counted_in lines))

-- behind these lines, this one is an article that brings a segment
abbrev pub BringsSegment : List Over → Over → Type 0
BringsSegment lines line = (a : Counted) × (counted line ≡ Some a) × IsFalse (list_any (λ other. same_part other a) (counted_in lines))

-- behind these lines, this one is an article that begins a file
abbrev pub BeginsFile : List Over → Over → Type 0
BeginsFile lines line = (a : Counted) × (counted line ≡ Some a) × IsFalse (list_any (λ other. has_key (key_of other) a) (counted_in lines))

-- Behind these lines, this one brings a segment that the index cannot hold: it has as many as it may, or, where it has
-- not, it has as many files as it may and this one begins another.
abbrev pub WouldPass : List Over → Over → GroupError → Type 0
WouldPass lines line Memory = ⊥
WouldPass lines line Segments = BringsSegment lines line × (MOST_SEGMENTS ≤ segments_in lines)
WouldPass lines line Files = BeginsFile lines line × (segments_in lines < MOST_SEGMENTS) × (MOST_FILES ≤ files_in lines)
