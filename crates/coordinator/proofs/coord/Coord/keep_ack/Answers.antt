use Rattle.std.proofs.Common.{◌≡◌, Option, false, ap, sym, subst, ◌∙◌, IfSome, IfNone}
use Rattle.std.specs.BTreeMap.{BTreeMap}
use Rattle.txn_types.specs.declared.names.Tag.{Tag}
use Rattle.coordinator.specs.TwoPhase.{Coordinated, acked, ack_counts, with_ack, is_last_ack}
use Rattle.coordinator.specs.contracts.coord.Coord.{the_view}
use Rattle.coordinator.proofs.Found.{held_there, held_nowhere, changed, others_keep}
use Rattle.coordinator.proofs.coord.Coord.keep_ack.Goals as goal
use Rattle.coordinator.proofs.coord.Coord.keep_ack.Goals.{in-Some, in_default}

pub returns-clause-kept : goal.returns-clause-kept
returns-clause-kept c =
    let entries = c.self.inside.coordinations.entries in
    let coords = c.args.self.now in
    let key = c.new.result in
    let tag = c.args.tag in
    elim c.match-get_mut.branch [
      | in-Some w ↦
          subst (λ (o : Option Coordinated). IfSome o (λ k. is_last_ack c.args.shard k ≡ false
          → the_view c.match-get_mut.self-inside ≡ acked c.args.tag c.args.shard k
          c.args.self.now)) (sym (held_there key tag w.in-Some.coordination.now entries coords
          c.new.ensures c.self.view_is w.in-Some.ensures.value))
          (λ other. ap the_view w.self-inside-is
          ∙ (c.get_mut.follows.holds w.ack.new.self).0
          ∙ changed (ack_counts c.args.shard w.in-Some.coordination.now)
          key tag w.in-Some.coordination.now w.ack.new.self
          (with_ack c.args.shard w.in-Some.coordination.now) entries coords c.new.ensures
          c.self.view_is c.get_mut.ensures.ordered w.in-Some.ensures.value w.ack.ensures
          ∙ sym (others_keep tag c.args.shard w.in-Some.coordination.now coords other))
      | in_default w ↦
          subst (λ (o : Option Coordinated). IfSome o
          (λ k. is_last_ack c.args.shard k ≡ false → the_view c.match-get_mut.self-inside
          ≡ acked c.args.tag c.args.shard k c.args.self.now)) (sym (held_nowhere key tag entries
          coords c.new.ensures c.self.view_is w.in_default.ensures.value))
          (tt)
    ]

pub returns-clause-none : goal.returns-clause-none
returns-clause-none c =
    let entries = c.self.inside.coordinations.entries in
    let coords = c.args.self.now in
    let key = c.new.result in
    let tag = c.args.tag in
    elim c.match-get_mut.branch [
      | in-Some w ↦
          subst (λ (o : Option Coordinated). IfNone o (the_view c.match-get_mut.self-inside
          ≡ c.args.self.now)) (sym (held_there key tag w.in-Some.coordination.now entries coords
          c.new.ensures c.self.view_is w.in-Some.ensures.value))
          (tt)
      | in_default w ↦
          subst (λ (o : Option Coordinated). IfNone o
          (the_view c.match-get_mut.self-inside ≡ c.args.self.now)) (sym (held_nowhere key tag
          entries coords c.new.ensures c.self.view_is w.in_default.ensures.value))
          (ap the_view w.self-inside-is ∙ ap (λ (m : BTreeMap Tag Coordinated). m.entries)
          c.get_mut.follows.holds-at-none ∙ c.self.view_is)
    ]
