-- One link is changed, and it stays with its server.
use Rattle.std.proofs.Common.{rules, length}
use Rattle.news_spool.proofs.LinkLaws.{OnOk-follows, ended_is, sent_is}
use Rattle.news_spool.proofs.Served.{one_served, same_server}
use Rattle.news_spool.proofs.spool.Spool.hear.Goals as goal

pub server_at-server-requires : goal.server_at-server-requires
server_at-server-requires c =
    rw c.as_slice.ensures (one_served (length c.args.self.now.plan.servers) c.args.self.now.links.items c.args.link c.index_mut-state.result.now c.args.self.now.served c.requires c.index_mut-state.ensures.value)

pub invariant_of-self : goal.invariant_of-self
invariant_of-self c = record {
  as_many = search rules;
  served = same_server (length c.args.self.now.plan.servers) c.args.self.now.links.items c.args.link c.index_mut-state.result.now c.hear.new.self c.args.self.now.served c.requires
      c.index_mut-state.ensures.value c.hear.ensures.server;
}

pub returns-clause-ok : goal.returns-clause-ok
returns-clause-ok c =
    OnOk-follows c.hear.result _ _
    (sent_is c.args.self.now.plan c.args.self.now.links.items c.args.self.now.articles c.args.link c.as_slice-date.result.now c.args.bytes.now
    c.index_mut-state.result.now c.server_at-server.result.now c.hear.new.self c.hear.new.articles c.requires c.index_mut-state.ensures.value (cc)
    c.as_slice-date.ensures) c.hear.ensures.ok

pub returns-clause-ended : goal.returns-clause-ended
returns-clause-ended c =
    ended_is c.args.self.now.links.items c.args.link c.index_mut-state.result.now c.hear.new.self c.requires c.index_mut-state.ensures.value c.hear.ensures.server
