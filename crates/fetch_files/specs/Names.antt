-- The names of the files of an index.
use Rattle.std.specs.Prelude.{ℕ, List, [], Option, Some, None, slice_get}
use Rattle.article_head.specs.OutName.{out_name}
use Rattle.nzb_writer.specs.declared.index.FileEntry.{FileEntry}

abbrev pub name_of : ℕ → Option FileEntry → List ℕ
name_of file (Some entry) = out_name file entry.subject
name_of file None = []

-- the name under which a file of an index is written
abbrev pub name_at : List FileEntry → ℕ → List ℕ
name_at files file = name_of file (slice_get files file)
