use Rattle.std.proofs.Common.{◌≡◌, ◌≤◌, ◌*◌, take}
use Rattle.std.specs.Prelude.{sum_by}
use Rattle.command_words.proofs.servers.links_of.Given as goal

abbrev pub invariant-loop-server : goal.invariant-loop-server
invariant-loop-server l = record {
  links : l.links ≡ sum_by (λ server. server.links) (take l.server-index l.servers);
  most : l.links ≤ l.server-index * 4294967295;
}
