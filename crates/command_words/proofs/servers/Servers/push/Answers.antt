use Rattle.std.proofs.Common.{arith}
use Rattle.command_words.proofs.ServersLemmas.{push_room, pushed, pushed_length}
use Rattle.command_words.proofs.servers.Servers.push.Goals as goal

pub bounds-self-inside-self-inside : goal.bounds-self-inside-self-inside
bounds-self-inside-self-inside c = push_room c.self.inside.all c.self.inside.len c.args.self.now c.self.view_is c.self.invariant.1 c.requires

pub invariant_of-self : goal.invariant_of-self
invariant_of-self c =
    let room = push_room c.self.inside.all c.self.inside.len c.args.self.now c.self.view_is c.self.invariant.1 c.requires in
    (omega (arith, room), pushed_length c.self.inside.all c.self.inside.len c.args.server c.self.invariant.1)

pub returns : goal.returns
returns c =
    let room = push_room c.self.inside.all c.self.inside.len c.args.self.now c.self.view_is c.self.invariant.1 c.requires in
    pushed c.self.inside.all c.self.inside.len c.args.self.now c.args.server c.self.view_is c.self.invariant.1 room
