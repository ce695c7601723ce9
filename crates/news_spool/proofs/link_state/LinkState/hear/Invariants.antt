use Rattle.std.proofs.Common.{◌≡◌, length, take, drop}
use Rattle.news_spool.specs.LinkState.{heard_bytes}
use Rattle.news_spool.proofs.link_state.LinkState.hear.Given as goal

abbrev pub invariant-loop-byte : goal.invariant-loop-byte
invariant-loop-byte l = record {
  heard : heard_bytes l.server l.date (drop l.byte-index l.bytes) (l.self, l.articles) ≡ heard_bytes l.server l.date l.bytes (l.initial.self, l.initial.articles);
  kept : take (length l.initial.articles) l.articles ≡ l.initial.articles;
  server : l.self.server ≡ l.initial.self.server;
}
