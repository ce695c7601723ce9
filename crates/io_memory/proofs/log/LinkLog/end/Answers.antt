-- A link that is live is counted among those that are.
use Rattle.std.proofs.Common.{◌≡◌, arith}
use Rattle.io_memory.specs.Log.{count_live}
use Rattle.io_memory.proofs.Lives.{one_fewer}
use Rattle.io_memory.proofs.log.LinkLog.end.Goals as goal

pub overflow_sub-self : goal.overflow_sub-self
overflow_sub-self c =
    let fewer = one_fewer c.args.self.now.live.items c.args.link c.requires in
    let count : c.args.self.now.ends ≡ count_live c.args.self.now.live.items = c.args.self.now.count in
    omega (arith, fewer, count)
