use Rattle.std.proofs.Common.{ℤ, w64, ap, ◌∙◌}
use Rattle.std.specs.Option.{option_copied}
use Rattle.std.proofs.lemmas.Int.{to_z-of_z}
use Rattle.router_rules.specs.Statements.{asks}
use Rattle.router_plan.specs.Plans.{state_of, move_of}
use Rattle.router_core.proofs.Beginning.{begun_so}
use Rattle.router_core.proofs.statements.begins_at.Goals as goal

pub returns-clause-moved : goal.returns-clause-moved
returns-clause-moved c =
    begun_so (state_of c.args.base.now c.args.chunks.now c.args.sessions.now)
    (state_of c.drawn-drawn.result c.args.chunks.now c.args.sessions.now) c.args.lsid
    (option_copied c.args.session) c.args.number c.args.asker c.args.op.now c.args.read_at
    c.begun_at-t.result c.in_ok-asked.asked c.in_ok-deed.deed
    (move_of c.done_in.result c.args.chunks.now c.args.sessions.now)
    c.begun_at-t.ensures
    (c.in_ok-asked.ensures ∙ ap (λ (n : ℤ). asks c.args.chunks.now c.args.lsid n c.args.asker
    c.args.op.now c.begun_at-t.result) (to_z-of_z w64 c.args.number c.ranges.number))
    c.in_ok-deed.ensures c.drawn-drawn.ensures c.done_in.ensures.moved
