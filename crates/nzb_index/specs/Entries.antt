-- What the reading of files and entries over a slice answers.
use Rattle.std.specs.Prelude.{◌≡◌, ℕ, ◌+◌, ◌≤◌, List, [], length, drop, Result, Ok, Err, codes}
use Rattle.nzb_index.specs.declared.error.NzbError.{NzbError}
use Rattle.nzb_writer.specs.declared.index.FileEntry.{FileEntry}
use Rattle.nzb_writer.specs.declared.index.Index.{Index}
use Rattle.nzb_writer.specs.Markup.{attribute, number_of, or_nothing}
use Rattle.nzb_index.specs.MarkupReading.{Stop, ValueRead, parent, tag_at, ◌>>=◌}
use Rattle.nzb_writer.specs.Nzb.{file_checks, segment_count}
use Rattle.nzb_index.specs.NzbReading.{file_part}
use Rattle.nzb_index.specs.Readers.{Fails}
use Rattle.limits.specs.declared.TheConstants.{MOST_SEGMENTS}

-- a file from behind its tag's name on
abbrev pub file_at : ℕ → List ℕ → ValueRead FileEntry
file_at earlier rest =
    tag_at file_checks rest >>= λ tag.
    parent (file_part earlier) (codes "file") tag.0 (record {
      poster = or_nothing (attribute (codes "poster") tag.0.attributes);
      date = number_of (codes "date") tag.0.attributes;
      subject = or_nothing (attribute (codes "subject") tag.0.attributes);
      groups = [];
      segments = [];
    }) tag.1

abbrev pub ReadsFile : List ℕ → ℕ → ℕ → Result (FileEntry × ℕ) NzbError → Result (FileEntry × List ℕ) Stop → Type 0
ReadsFile text at earlier (Ok (file, end)) read = (at ≤ end) × (end ≤ length text) × (earlier + length file.segments ≤ MOST_SEGMENTS) × (read ≡ Ok (file, drop end text))
ReadsFile text at earlier (Err e) read = Fails text e read

-- the index behind an entry, with how many segments it has
abbrev pub ReadsEntry : List ℕ → ℕ → Index → Result (ℕ × ℕ) NzbError → Result (Index × List ℕ) Stop → Type 0
ReadsEntry text at index (Ok (end, count)) read = (at ≤ end) × (end ≤ length text) × (count ≡ segment_count index) × (count ≤ MOST_SEGMENTS) × (read ≡ Ok (index, drop end text))
ReadsEntry text at index (Err e) read = Fails text e read
