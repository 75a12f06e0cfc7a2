use Rattle.std.proofs.Common.{◌≡◌, Some, sym, ◌∙◌}
use Rattle.shard_core.specs.Arrived.{arrived}
use Rattle.shard_core.specs.Rules.{router_of}
use Rattle.shard_core.proofs.Coming.{came, commit_two_told}
use Rattle.shard_core.proofs.shard.Shard.deliver_commit_two.Goals as goal

pub returns-in-Err-Memory-clause-ok : goal.returns-in-Err-Memory-clause-ok
returns-in-Err-Memory-clause-ok c =
    let same : c.on_commit_two.new.self ≡ c.arrive.new.self = c.in-Err-Memory.ensures.err in
    let at : c.on_commit_two.new.self ≡ arrived c.args.self.now c.args.wall c.args.envelope.now =
    same ∙ c.arrive.ensures.arrived in
    let from : router_of c.args.envelope.now.from ≡ Some c.in-Some.router =
    sym c.in-Some.ensures.number in
    came c.args.self.now c.args.wall c.args.envelope.now c.on_commit_two.new.self
    c.tell_end.new.self c.tell_end.result at
    (commit_two_told c.on_commit_two.new.self c.args.envelope.now c.args.m.now c.in-Some.router
    c.tell_end.new.self c.tell_end.result c.requires from
    (rw same c.in-Err-Memory.ensures.memory) (rw same c.in-Err-Memory.ensures.new)
    c.tell_end.ensures)
