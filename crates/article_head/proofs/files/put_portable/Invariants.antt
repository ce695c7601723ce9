use Rattle.std.proofs.Common.{◌≡◌, ◌+◌, ◌++◌, map, take}
use Rattle.article_head.specs.OutName.{portable}
use Rattle.article_head.proofs.files.put_portable.Given as goal

abbrev pub invariant-loop-byte : goal.invariant-loop-byte
invariant-loop-byte l = record {
  end : l.end ≡ l.at + l.byte-index;
  text : take l.end l.text ≡ take l.at l.initial.text ++ map portable (take l.byte-index l.name);
}
