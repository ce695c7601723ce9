-- What a grouper stands for.
use Rattle.std.specs.Prelude.{◌≡◌, ℕ, ◌≤◌, ◌+◌, ◌<◌, ◌⊎◌, List, [], ◌∷◌, ◌++◌, length, sum_by, All, None, Some, Result, Ok, Err, Vec, IsTrue, bytes_eq, Bool}
use Rattle.std.specs.BTreeMap.{btree_map_len}
use Rattle.std.specs.List.{AllZip}
use Rattle.std.specs.Map.{lookup, set_value, values_of}
use Rattle.nzb_writer.specs.Canonical.{IsValidIndex}
use Rattle.nzb_writer.specs.declared.index.Index.{Index}
use Rattle.overview_lines.specs.OverLine.{IsReadLine, Over, is_plain}
use Rattle.overview_index.specs.Draft.{AddsArticle, IsBegunBy, IsDraftOf}
use Rattle.overview_index.specs.Group.{BringsSegment, Counted, WouldPass, IsIndexOfLines, IsRepeat, Key, counted, counted_in, keys_of, number_of, parts_of, segment_of}
use Rattle.overview_index.specs.declared.added.Added.{Added}
use Rattle.overview_index.specs.declared.added.Added.TheVariants.{New, Repeat, NoCount}
use Rattle.overview_index.specs.declared.added.GroupError.{GroupError}
use Rattle.overview_index.specs.declared.added.GroupError.TheVariants.{Memory, Segments, Files}
use Rattle.overview_index.specs.declared.draft.Draft.{Draft}
use Rattle.overview_index.specs.declared.grouper.Grouper.{Grouper}
use Rattle.limits.specs.declared.TheConstants.{MOST_FILES, MOST_SEGMENTS}

-- ---- the files

-- a key as one text
abbrev pub spelled : Key → List ℕ
spelled key = key.0 ++ 0 ∷ key.1

-- the text of a file's key is this one
abbrev pub is_spelled : {Z : Type 0} → List ℕ → Vec ℕ Z → Bool
is_spelled text key = bytes_eq text key.items

-- a file of the table is that of the articles with a key; a text without a byte below 32 stands before the zero byte alone
pub record IsEntryOf {Z : Type 0} (articles : List Counted) (key : Key) (entry : Vec ℕ Z × Draft) : Type 0 where
  pub plain : IsTrue (is_plain key.0)
  pub text : entry.0.items ≡ spelled key
  pub draft : IsDraftOf articles key entry.1

-- an article of a line that was read
pub record IsArticleRead (article : Counted) : Type 0 where
  pub over : IsReadLine article.over
  pub some : 1 ≤ number_of article
  pub short : number_of article ≤ 9999999

-- how many segments some files have
abbrev pub count_in : List Draft → ℕ
count_in drafts = sum_by (λ (draft : Draft). btree_map_len draft.segments) drafts

-- the grouper has the files of these articles, of this newsgroup
pub record HasFilesOf (grouper : Grouper) (group : List ℕ) (articles : List Counted) : Type 0 where
  pub group_is : grouper.group ≡ group
  pub read : All IsArticleRead articles
  pub files : AllZip (IsEntryOf articles) (keys_of articles) grouper.files.entries
  pub count : grouper.count ≡ length (parts_of articles)
  pub in_files : grouper.count ≡ count_in (values_of grouper.files.entries)
  pub few_segments : grouper.count ≤ MOST_SEGMENTS
  pub few_files : length grouper.files.entries ≤ MOST_FILES

-- the grouper has the files of these lines, of this newsgroup
pub record HasGrouped (grouper : Grouper) (group : List ℕ) (lines : List Over) : Type 0 where
  pub files : HasFilesOf grouper group (counted_in lines)

-- ---- one line more

-- an article is added to a file that has its key
pub record ChangesFile {Z : Type 0} (article : Counted) (text : List ℕ) (count : ℕ) (old new : List (Vec ℕ Z × Draft)) (result : Result Added GroupError) : Type 0 where
  pub before : Draft
  pub behind : Draft
  pub there : lookup (is_spelled text) old ≡ Some before
  pub adds : AddsArticle article count before behind result
  pub files : new ≡ set_value (is_spelled text) old behind

-- a file that this article begins stands behind the others
pub record HasFileMore {Z : Type 0} (article : Counted) (text : List ℕ) (old new : List (Vec ℕ Z × Draft)) : Type 0 where
  pub key : Vec ℕ Z
  pub draft : Draft
  pub text_is : key.items ≡ text
  pub begun : IsBegunBy article draft
  pub segments : draft.segments.entries ≡ (number_of article, segment_of article) ∷ []
  pub files : new ≡ old ++ (key, draft) ∷ []

abbrev pub AddsFile : {Z : Type 0} → Counted → List ℕ → ℕ → List (Vec ℕ Z × Draft) → List (Vec ℕ Z × Draft) → Result Added GroupError → Type 0
AddsFile article text count old new (Ok New) = (count < MOST_SEGMENTS) × (length old < MOST_FILES) × HasFileMore article text old new
AddsFile article text count old new (Ok Repeat) = ⊥
AddsFile article text count old new (Ok NoCount) = ⊥
AddsFile article text count old new (Err Memory) = new ≡ old
AddsFile article text count old new (Err Segments) = (MOST_SEGMENTS ≤ count) × (new ≡ old)
AddsFile article text count old new (Err Files) = (count < MOST_SEGMENTS) × (MOST_FILES ≤ length old) × (new ≡ old)

-- an article begins a file
pub record BeginsFile {Z : Type 0} (article : Counted) (text : List ℕ) (count : ℕ) (old new : List (Vec ℕ Z × Draft)) (result : Result Added GroupError) : Type 0 where
  pub absent : lookup (is_spelled text) old ≡ None
  pub adds : AddsFile article text count old new result

-- what becomes of the files to which an article is added, whose key is this text, where they have so many segments
abbrev pub PutsArticle : {Z : Type 0} → Counted → List ℕ → ℕ → List (Vec ℕ Z × Draft) → List (Vec ℕ Z × Draft) → Result Added GroupError → Type 0
PutsArticle article text count old new result = ChangesFile article text count old new result ⊎ BeginsFile article text count old new result

-- how many segments there are, once a line has brought this
abbrev pub count_behind : ℕ → Added → ℕ
count_behind count New = count + 1
count_behind count Repeat = count
count_behind count NoCount = count

-- what `add` answers of a line behind these, and what the grouper stands for then
abbrev pub AddAnswers : Grouper → List ℕ → List Over → Over → Result Added GroupError → Type 0
AddAnswers new group lines line (Ok New) = BringsSegment lines line × ((error : GroupError) → ¬ WouldPass lines line error) × HasGrouped new group (lines ++ line ∷ [])
AddAnswers new group lines line (Ok Repeat) = IsRepeat lines line × HasGrouped new group (lines ++ line ∷ [])
AddAnswers new group lines line (Ok NoCount) = (counted line ≡ None) × HasGrouped new group (lines ++ line ∷ [])
AddAnswers new group lines line (Err Memory) = HasGrouped new group lines
AddAnswers new group lines line (Err Segments) = WouldPass lines line Segments × HasGrouped new group lines
AddAnswers new group lines line (Err Files) = WouldPass lines line Files × HasGrouped new group lines

-- what `add` answers of a line, and what becomes of the grouper, whatever it stands for
abbrev pub Answers : Grouper → Grouper → Over → Result Added GroupError → Type 0
Answers old new line result = (group : List ℕ) (lines : List Over) → HasGrouped old group lines → AddAnswers new group lines line result

-- ---- the index

-- the index of the lines that the grouper stands for
abbrev pub IsIndexOfGrouper : Grouper → Index → Type 0
IsIndexOfGrouper grouper index = (group : List ℕ) (lines : List Over) → HasGrouped grouper group lines → IsIndexOfLines group lines index

-- it has a canonical text that is read again, if the grouper stands for any lines
abbrev pub IsValidIndexOf : Grouper → Index → Type 0
IsValidIndexOf grouper index = (group : List ℕ) (lines : List Over) → HasGrouped grouper group lines → IsValidIndex index
