use Rattle.std.proofs.Common.{◌≡◌, ◌≤◌, ◌-◌, length}
use Rattle.input_files.specs.Reading.{IsPiece}
use Rattle.input_files.proofs.reading.read_part_into.Given as goal

abbrev pub invariant-loop-buffer : goal.invariant-loop-buffer
invariant-loop-buffer g l = record {
  most : length l.bytes ≤ l.len;
  piece : IsPiece (g.I.Input.content l.initial.input) l.place l.bytes;
  content : g.I.Input.content l.input ≡ g.I.Input.content l.initial.input;
  files : g.I.Input.files l.input ≡ g.I.Input.files l.initial.input;
  current : g.I.Input.current l.input ≡ g.I.Input.current l.initial.input;
  faults : g.I.Input.faults l.input ≡ g.I.Input.faults l.initial.input;
  blame : g.I.Input.blame l.input ≡ g.I.Input.blame l.initial.input;
  shorts : g.I.Input.shorts l.input ≡ g.I.Input.shorts l.initial.input;
}

abbrev pub decreases-loop-buffer : goal.decreases-loop-buffer
decreases-loop-buffer g l = l.len - length l.bytes
