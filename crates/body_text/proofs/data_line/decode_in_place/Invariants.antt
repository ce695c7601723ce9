use Rattle.std.proofs.Common.{◌≡◌, ◌≤◌, ◌-◌, length, take, drop}
use Rattle.yenc_body.proofs.DataFilling.{IsReadTo}
use Rattle.body_text.specs.DataPlaces.{between}
use Rattle.body_text.proofs.data_line.decode_in_place.Given as goal

abbrev pub invariant-loop-at : goal.invariant-loop-at
invariant-loop-at l = record {
  read : IsReadTo (between l.fn.buf l.start l.stop) (take l.to l.fn.buf) (take l.put l.buf) l.room (l.at - l.start) l.left;
  rest : drop l.at l.buf ≡ drop l.at l.fn.buf;
  long : length l.buf ≡ length l.fn.buf;
  begun : l.start ≤ l.at;
  inside : l.at ≤ l.stop;
  behind : l.put ≤ l.at;
  ahead : l.to ≤ l.put;
}

abbrev pub decreases-loop-at : goal.decreases-loop-at
decreases-loop-at l = l.stop - l.at
