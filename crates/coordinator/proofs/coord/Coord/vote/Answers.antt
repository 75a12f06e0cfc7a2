use Rattle.std.proofs.Common.{◌≡◌, Option, Result, Ok, Err, ap, sym, subst, ◌∙◌, MatchOption}
use Rattle.std.specs.BTreeMap.{BTreeMap}
use Rattle.txn_types.specs.declared.names.Tag.{Tag}
use Rattle.txn_types.specs.declared.decision.Decision.{Decision}
use Rattle.coordinator.specs.declared.plan.CoordErr.{CoordErr}
use Rattle.coordinator.specs.declared.plan.CoordErr.TheVariants.{Unknown}
use Rattle.coordinator.specs.TwoPhase.{Coordinated, voted, counts, behind_vote, decided_by}
use Rattle.coordinator.specs.contracts.coord.Coord.{the_view}
use Rattle.coordinator.proofs.Found.{held_there, held_nowhere, changed}
use Rattle.coordinator.proofs.coord.Coord.vote.Goals as goal
use Rattle.coordinator.proofs.coord.Coord.vote.Goals.{in-Some, in-None}

pub returns-clause-decided : goal.returns-clause-decided
returns-clause-decided c =
    let entries = c.self.inside.coordinations.entries in
    let coords = c.args.self.now in
    let key = c.new.result in
    let tag = c.args.tag in
    elim c.match-get_mut.branch [
      | in-Some w ↦
          subst (λ (o : Option Coordinated). MatchOption o (c.match-get_mut.result ≡ Err Unknown)
          (λ k. c.match-get_mut.result ≡ Ok (decided_by c.args.shard c.args.vote.now k)))
          (sym (held_there key tag w.in-Some.coordination.now entries coords c.new.ensures
          c.self.view_is w.in-Some.ensures.value))
          (w.result-is ∙ ap (λ (d : Option Decision). let r : Result (Option Decision) CoordErr =
          Ok d in r) w.vote.ensures.decided)
      | in-None w ↦
          subst (λ (o : Option Coordinated). MatchOption o (c.match-get_mut.result ≡ Err Unknown)
          (λ k. c.match-get_mut.result ≡ Ok (decided_by c.args.shard c.args.vote.now k)))
          (sym (held_nowhere key tag entries coords c.new.ensures c.self.view_is
          w.in-None.ensures.value))
          (w.result-is)
    ]

pub returns-clause-after : goal.returns-clause-after
returns-clause-after c =
    let entries = c.self.inside.coordinations.entries in
    let coords = c.args.self.now in
    let key = c.new.result in
    let tag = c.args.tag in
    elim c.match-get_mut.branch [
      | in-Some w ↦
          subst (λ (o : Option Coordinated). MatchOption o (the_view c.match-get_mut.self-inside
          ≡ c.args.self.now) (λ k. the_view c.match-get_mut.self-inside
          ≡ voted c.args.tag c.args.shard c.args.vote.now k c.args.self.now))
          (sym (held_there key tag w.in-Some.coordination.now entries coords c.new.ensures
          c.self.view_is w.in-Some.ensures.value))
          (ap the_view w.self-inside-is
          ∙ (c.get_mut.follows.holds w.vote.new.self).0
          ∙ changed (counts c.args.shard w.in-Some.coordination.now) key tag
          w.in-Some.coordination.now w.vote.new.self (behind_vote c.args.shard c.args.vote.now
          w.in-Some.coordination.now) entries coords c.new.ensures c.self.view_is
          c.get_mut.ensures.ordered w.in-Some.ensures.value w.vote.ensures.after)
      | in-None w ↦
          subst (λ (o : Option Coordinated). MatchOption o (the_view c.match-get_mut.self-inside
          ≡ c.args.self.now) (λ k. the_view c.match-get_mut.self-inside ≡ voted c.args.tag
          c.args.shard c.args.vote.now k c.args.self.now)) (sym (held_nowhere key tag entries
          coords c.new.ensures c.self.view_is w.in-None.ensures.value))
          (ap the_view w.self-inside-is ∙ ap (λ (m : BTreeMap Tag Coordinated). m.entries)
          c.get_mut.follows.holds-at-none ∙ c.self.view_is)
    ]
