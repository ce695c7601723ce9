-- The link stays with its server.
use Rattle.std.proofs.Common.{rules, ◌<◌, ap, arith, length}
use Rattle.io_memory.specs.LinkLog.{log_live}
use Rattle.news_spool.specs.declared.link_state.LinkState.{LinkState}
use Rattle.news_spool.proofs.Served.{live_inside, same_server}
use Rattle.news_spool.proofs.spool.Spool.end.Goals as goal

pub invariant_of-self : goal.invariant_of-self
invariant_of-self c =
    let inside : c.args.link < length c.args.self.now.links.items = omega (arith, c.args.self.now.as_many, live_inside (log_live c.args.self.now.log) c.args.link c.requires) in
    record {
      as_many = search rules;
      served = same_server (length c.args.self.now.plan.servers) c.args.self.now.links.items c.args.link c.index_mut-state.result.now c.end-2.new.self c.args.self.now.served inside
          c.index_mut-state.ensures.value (ap (λ (link : LinkState). link.server) c.end-2.ensures);
    }
