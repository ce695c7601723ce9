-- How much an NZB can list.
use Rattle.std.proofs.Common.{◌≤◌, ◌<◌, ◌^◌, ◌*◌, List, [], ◌∷◌, length, arith, sum_by}
use Rattle.std.specs.List.{AllByRecursion}
use Rattle.std.proofs.lemmas.List.Sums.{sum_by-cons}
use Rattle.nzb_writer.specs.Canonical.{IsValidFile, IsValidIndex}
use Rattle.nzb_writer.specs.Markup.{is_message_id}
use Rattle.std.specs.Prelude.{IsTrue}
use Rattle.nzb_writer.specs.declared.index.FileEntry.{FileEntry}
use Rattle.nzb_writer.specs.declared.index.Index.{Index}
use Rattle.nzb_writer.specs.declared.index.Segment.{Segment}
use Rattle.usebin_cli.specs.Check.{bytes_of}
use Rattle.limits.specs.declared.TheConstants.{MOST_OCTETS}

segments_most : (ss : List Segment) → AllByRecursion (λ s. (1 ≤ s.number) × (s.number ≤ 4294967295) × (s.bytes ≤ MOST_OCTETS) × IsTrue (is_message_id s.id)) ss → sum_by (λ s. s.bytes) ss ≤ length ss * MOST_OCTETS
segments_most [] all = omega arith
segments_most (s ∷ ss) all = omega (arith, sum_by-cons (λ (x : Segment). x.bytes) s ss, all.0.2, segments_most ss all.1)

files_most : (fs : List FileEntry) → AllByRecursion IsValidFile fs → sum_by bytes_of fs ≤ sum_by (λ f. length f.segments) fs * MOST_OCTETS
files_most [] all = omega arith
files_most (f ∷ fs) all = omega (arith, sum_by-cons bytes_of f fs, sum_by-cons (λ (x : FileEntry). length x.segments) f fs, segments_most f.segments all.0.segments, files_most fs all.1)

pub bytes_fit : (i : Index) → IsValidIndex i → sum_by bytes_of i.files < 2 ^ 64
bytes_fit i valid = omega (arith, files_most i.files valid.files, valid.few_segments)
