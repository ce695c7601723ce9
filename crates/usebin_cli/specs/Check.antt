-- How `check` ends.
use Rattle.std.specs.Prelude.{◌≡◌, ◌⊎◌, ℕ, List, [], ◌∷◌, ◌++◌, length, sum_by, Option, codes, ⊤}
use Rattle.std.specs.Fmt.{decimal}
use Rattle.nzb_writer.specs.Nzb.{IsNzb, segment_count}
use Rattle.nzb_index.specs.NzbReading.{Refusal, refused_at, past}
use Rattle.nzb_index.specs.Refusal.{IsTextRefused}
use Rattle.nzb_writer.specs.declared.index.FileEntry.{FileEntry}
use Rattle.nzb_writer.specs.declared.index.Index.{Index}
use Rattle.nzb_index.specs.declared.error.NzbLimit.{NzbLimit}
use Rattle.nzb_index.specs.declared.error.NzbLimit.TheVariants.{TextBytes, Files, Segments}
use Rattle.input_files.specs.Reading.{Reading, HasFailed, IsBelow, Exceeds, IsReadOrOpen, IsSaved, most_text}
use Rattle.usebin_cli.specs.Writing.{Written, WroteWhole, WroteFront}
use Rattle.usebin_cli.specs.declared.check.Counts.{Counts}
use Rattle.run_ends.specs.declared.end.End.{End}
use Rattle.run_ends.specs.declared.end.End.TheVariants.{Done, InputFault, OutputFault, Short, Limit as Passes, NoNzb, NoMemory}
use Rattle.run_ends.specs.declared.end.Limit.{Limit}
use Rattle.run_ends.specs.declared.end.Limit.TheVariants as limits
use Rattle.run_ends.specs.declared.end.Limit.TheVariants.{Text}

-- ---- what is printed

-- how many bytes the segments of a file have together
abbrev pub bytes_of : FileEntry → ℕ
bytes_of f = sum_by (λ s. s.bytes) f.segments

-- the same of all files of an index
abbrev pub byte_count : Index → ℕ
byte_count i = sum_by bytes_of i.files

-- how many files an index has, and how many segments and bytes they have together
abbrev pub counts_of : Index → Counts
counts_of i = record { files = length i.files; segments = segment_count i; bytes = byte_count i }

-- the lines of such counts
unfoldable pub counts_text : Counts → List ℕ
counts_text c = codes "files " ++ decimal c.files ++ codes "\nsegments " ++ decimal c.segments ++ codes "\nbytes " ++ decimal c.bytes ++ 10 ∷ []

-- the limit that an NZB text passes, as one of all limits
abbrev pub nzb_limit : NzbLimit → Limit
nzb_limit TextBytes = Text
nzb_limit Files = limits.Files
nzb_limit Segments = limits.Segments

-- ---- how it ends

-- the text at the path lists this
abbrev pub HasIndex : List ℕ → Option (List (List ℕ × List ℕ)) → Option ℕ → Index → Type 0
HasIndex path files current index = (text : List ℕ) × IsSaved path files current text × IsNzb text index

-- the text at the path is refused for this
abbrev pub IsNoIndex : List ℕ → Option (List (List ℕ × List ℕ)) → Option ℕ → Refusal → Type 0
IsNoIndex path files current refusal = (text : List ℕ) × IsSaved path files current text × IsTextRefused text refusal

-- the counts of such an index were written so
abbrev pub WroteCounts : (List ℕ → Written → Type 0) → List ℕ → Option (List (List ℕ × List ℕ)) → Reading → Written → Type 0
WroteCounts how path files r w = (index : Index) × HasIndex path files r.current index × how (counts_text (counts_of index)) w

-- the text at the path is too long to be read, or it was read and passes this limit
abbrev pub PassesLimit : List ℕ → Option (List (List ℕ × List ℕ)) → Reading → Limit → Type 0
PassesLimit path files r limit =
    ((limit ≡ Text) × Exceeds most_text r.current) ⊎ ((passed : NzbLimit) × (limit ≡ nzb_limit passed) × IsNoIndex path files r.current (past passed))

-- what each end of `check` says of the input and of the output, beside what it has in common with others
abbrev pub Checks : List ℕ → Option (List (List ℕ × List ℕ)) → Reading → Written → End → Type 0
Checks path files r w Done = WroteCounts WroteWhole path files r w
Checks path files r w OutputFault = WroteCounts WroteFront path files r w
Checks path files r w InputFault = HasFailed (IsReadOrOpen path) r
Checks path files r w (Short place) = IsBelow r.current place
Checks path files r w (Passes limit) = PassesLimit path files r limit
Checks path files r w (NoNzb place reason) = IsNoIndex path files r.current (refused_at place reason)
Checks path files r w NoMemory = ⊤
Checks path files r w other = ⊥
