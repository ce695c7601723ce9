use Rattle.std.proofs.Common.{◌≡◌, ◌≤◌, ◌+◌, ◌-◌, List, ℕ, [], length, take, drop}
use Rattle.lists.specs.Text.{text_lines}
use Rattle.yenc_body.specs.declared.place.Place.TheVariants.{Filling}
use Rattle.body_text.specs.Standing.{StandsAt}
use Rattle.body_text.proofs.decoding.decode_data.Given as goal

abbrev pub invariant-loop-at : goal.invariant-loop-at
invariant-loop-at l = record {
  stands : (all : List (List ℕ)) → StandsAt all (text_lines (drop l.from l.fn.buf)) (Filling l.head.begin l.head.first l.head.last []) l.before →
      StandsAt all (text_lines (drop l.at l.fn.buf)) (Filling l.head.begin l.head.first l.head.last (take l.put l.buf)) l.lines;
  rest : drop l.at l.buf ≡ drop l.at l.fn.buf;
  long : length l.buf ≡ length l.fn.buf;
  room : l.put ≤ l.head.last + 1 - l.head.first;
  behind : l.put ≤ l.at;
  within : l.at ≤ length l.fn.buf;
  lines : l.lines ≤ l.at;
}

abbrev pub decreases-loop-at : goal.decreases-loop-at
decreases-loop-at l = length l.fn.buf - l.at
