use Rattle.std.proofs.Common.{◌≡◌, false, None, refl, sym, ap, subst, ◌∙◌}
use Rattle.shard_core.specs.Carrying.{IsBounded}
use Rattle.shard_core.specs.State.{ShardState}
use Rattle.node_store.proofs.Taking.{takes_short, same_node, ran, can_append_ceiling}
use Rattle.node_store.proofs.Taking.{can_append_record, made_carries, carries_payload}
use Rattle.node_store.proofs.shard_node.ShardNodeMachine.take.Goals as goal

pub returns-in_default : goal.returns-in_default
returns-in_default g c = takes_short c.args.self.now.node c.args.self.now.node c.args.event.now refl

pub returns-then-is_err : goal.returns-then-is_err
returns-then-is_err g c =
    takes_short c.args.self.now.node _ c.args.event.now (
    same_node c.self.inside.core c.self.inside.settled _ _ _ _ _ _ c.reserve.ensures.records
    c.reserve.ensures.lost c.reserve.ensures.faults ∙ ap (λ s. s.node) c.self.view_is
    )

pub append_all-requires-clause-ceiling : goal.append_all-requires-clause-ceiling
append_all-requires-clause-ceiling g c =
    can_append_ceiling c.self.inside.core c.args.event.now _
    c.in-Ok-step.ensures.step (g.L.RecordLog.is_closed c.reserve.new.self)
    (λ none. c.reserve.ensures.closed ∙ c.self.invariant.running none)

pub append_all-requires-clause-then : goal.append_all-requires-clause-then
append_all-requires-clause-then g c =
    can_append_record c.self.inside.core c.args.event.now _
    c.in-Ok-step.ensures.step (g.L.RecordLog.is_closed c.reserve.new.self)
    (λ none. c.reserve.ensures.closed ∙ c.self.invariant.running none)

pub append_all-requires-clause-carries : goal.append_all-requires-clause-carries
append_all-requires-clause-carries g c =
    carries_payload c.self.inside.core c.args.event.now _ c.in-Ok-step.ensures.step
    (g.L.RecordLog.is_closed c.reserve.new.self) (λ none. c.reserve.ensures.closed
    ∙ c.self.invariant.running none) _ c.self.invariant.bounded c.in-Ok.ensures

pub invariant_of-self-in-Ok-append_all : goal.invariant_of-self-in-Ok-append_all
invariant_of-self-in-Ok-append_all g c =
    let running : c.self.inside.core.stopped ≡ None → g.L.RecordLog.is_closed c.reserve.new.self
    ≡ false = λ none. c.reserve.ensures.closed ∙ c.self.invariant.running none in
    record {
      bounded = (made_carries c.self.inside.core c.args.event.now _ c.in-Ok-step.ensures.step _
          running c.self.invariant.bounded).bounded;
      running = λ none. c.in-Ok-append_all.ensures.ok.2
          ∙ ran c.self.inside.core c.args.event.now _ c.in-Ok-step.ensures.step _ running none;
    }

pub invariant_of-self-in-Err-Failed : goal.invariant_of-self-in-Err-Failed
invariant_of-self-in-Err-Failed g c =
    let running : c.self.inside.core.stopped ≡ None → g.L.RecordLog.is_closed c.reserve.new.self
    ≡ false = λ none. c.reserve.ensures.closed ∙ c.self.invariant.running none in
    record {
      bounded =
          subst (λ (s : ShardState). IsBounded s.part) (sym c.stop.ensures)
          (made_carries c.self.inside.core c.args.event.now _ c.in-Ok-step.ensures.step _ running
          c.self.invariant.bounded).bounded;
      running = λ none. let stopped = sym (ap (λ (s : ShardState). s.stopped) c.stop.ensures)
          ∙ none in absurd cc;
    }
