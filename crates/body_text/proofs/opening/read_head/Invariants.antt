use Rattle.std.proofs.Common.{◌≤◌, ◌-◌, [], length, drop}
use Rattle.lists.specs.Text.{text_lines}
use Rattle.yenc_body.specs.ReadBody.{IsInFile}
use Rattle.yenc_body.specs.Staged.{place_with}
use Rattle.body_text.specs.Standing.{IsBeforeData, StandsAt}
use Rattle.body_text.proofs.opening.read_head.Given as goal

abbrev pub invariant-loop-at : goal.invariant-loop-at
invariant-loop-at l = record {
  stands : StandsAt (text_lines l.text) (text_lines (drop l.at l.text)) (place_with l.stage []) l.lines;
  before : IsBeforeData l.stage;
  in_file : IsInFile (place_with l.stage []);
  within : l.at ≤ length l.text;
  lines : l.lines ≤ l.at;
}

abbrev pub decreases-loop-at : goal.decreases-loop-at
decreases-loop-at l = length l.text - l.at
