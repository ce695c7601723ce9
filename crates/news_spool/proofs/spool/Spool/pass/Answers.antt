-- The link stays with its server.
use Rattle.std.proofs.Common.{rules, ap, length}
use Rattle.news_spool.specs.declared.link_state.LinkState.{LinkState}
use Rattle.news_spool.proofs.Served.{same_server}
use Rattle.news_spool.proofs.spool.Spool.pass.Goals as goal

pub invariant_of-self : goal.invariant_of-self
invariant_of-self c = record {
  as_many = search rules;
  served = same_server (length c.args.self.now.plan.servers) c.args.self.now.links.items c.args.link c.index_mut-state.result.now c.pass.new.self c.args.self.now.served c.requires.link
      c.index_mut-state.ensures.value (ap (λ (link : LinkState). link.server) c.pass.ensures);
}
