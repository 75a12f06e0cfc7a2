use Rattle.std.proofs.Common.{◌≡◌, ◌∙◌}
use Rattle.shard_core.specs.Arrived.{arrived}
use Rattle.shard_core.proofs.Coming.{came, prepare_told, still_other}
use Rattle.shard_core.proofs.shard.Shard.deliver_prepare_to.Goals as goal

pub returns-in-Err-Memory-clause-ok : goal.returns-in-Err-Memory-clause-ok
returns-in-Err-Memory-clause-ok c =
    let same : c.on_prepare.new.self ≡ c.arrive.new.self = c.in-Err-Memory.ensures.err in
    let at : c.on_prepare.new.self ≡ arrived c.args.self.now c.args.wall c.args.envelope.now = same
    ∙ c.arrive.ensures.arrived in
    let other = still_other c.args.self.now c.args.wall c.args.envelope.now c.on_prepare.new.self
    c.args.m.now.tag at c.requires.other in
    came c.args.self.now c.args.wall c.args.envelope.now c.on_prepare.new.self c.tell_vote.new.self
    c.tell_vote.result at
    (prepare_told c.on_prepare.new.self c.args.envelope.now c.args.m.now c.tell_vote.new.self
    c.tell_vote.result c.requires.msg
    (rw same c.in-Err-Memory.ensures.memory) other c.tell_vote.ensures)
