use Rattle.std.specs.Prelude.{IsTrue, vec_len}
use Rattle.std.proofs.Common.{◌≡◌, length, sym, ap, subst, ◌∙◌, arith}
use Rattle.std.proofs.lemmas.List.{length-map}
use Rattle.cluster_core.specs.Nodes.{Nodes}
use Rattle.cluster_world.specs.World.{WorldState}
use Rattle.cluster_play.specs.declared.status.Status.{Status}
use Rattle.cluster_play.specs.Steps.{nodes_of, status_behind, EndedOver}
use Rattle.cluster_play.proofs.Turns.{never_begun}
use Rattle.cluster_play.proofs.Endings.{played_over, has_all, count_of, fault_at}
use Rattle.cluster_play.proofs.play.play_over.Goals as goal

pub returns-in_default-clause-ended : goal.returns-in_default-clause-ended
returns-in_default-clause-ended g c = never_begun ((d : g.row.D.Denot)
    → IsTrue (g.D.Disk.tells d)) c.args.map.now c.args.player.now _ (g.K.Sink.held c.args.out.now)

pub end-requires-clause-all : goal.end-requires-clause-all
end-requires-clause-all g c =
    let old = c.new-world.result.nodes in
    let new = c.play_all-played.new.world.nodes in
    let at_shards : length old.shards ≡ vec_len c.args.nodes.shards =
    ap (λ (w : WorldState). length w.nodes.shards) c.new-world.ensures
    ∙ length-map c.args.nodes.shards.items (λ n. n.node)
    ∙ omega (arith, c.args.nodes.shards.ok.0) in
    let at_routers : length old.routers ≡ vec_len c.args.nodes.routers =
    ap (λ (w : WorldState). length w.nodes.routers) c.new-world.ensures
    ∙ length-map c.args.nodes.routers.items (λ n. n.router)
    ∙ omega (arith, c.args.nodes.routers.ok.0) in
    let shards : vec_len c.into_nodes-shards.result.0 ≡ length new.shards = count_of (λ n.
    n.node) c.into_nodes-shards.result.0.items new.shards (vec_len c.into_nodes-shards.result.0)
    (omega (arith, c.into_nodes-shards.result.0.ok.0)) c.into_nodes-shards.ensures.shards in
    let routers : vec_len c.into_nodes-shards.result.1 ≡ length new.routers =
    count_of (λ n. n.router) c.into_nodes-shards.result.1.items new.routers
    (vec_len c.into_nodes-shards.result.1) (omega (arith, c.into_nodes-shards.result.1.ok.0))
    c.into_nodes-shards.ensures.routers in
    has_all c.play_all-played.result old new (vec_len c.args.disks.now) _ _
    c.play_all-played.ensures.nodes shards routers
    (omega (arith, at_shards, at_routers, c.requires.all)) (omega
    (arith, at_shards, c.requires.shards)) (omega (arith, at_routers, c.requires.routers))

pub returns-clause-ended : goal.returns-clause-ended
returns-clause-ended g c =
    let start : Nodes = nodes_of c.args.nodes.shards.items c.args.nodes.routers.items in
    let over = played_over ((d : g.row.D.Denot)
    → IsTrue (g.D.Disk.tells d)) c.args.map.now c.args.player.now c.new-world.result.nodes
    (g.K.Sink.held c.args.out.now) (g.K.Sink.held c.play_all-played.new.out)
    c.play_all-played.result c.play_all-played.ensures.played c.play_all-played.ensures.stop in
    let at : EndedOver ((d : g.row.D.Denot) → IsTrue (g.D.Disk.tells d))
    c.args.map.now c.args.player.now start (g.K.Sink.held c.args.out.now)
    (g.K.Sink.held c.play_all-played.new.out) (status_behind c.play_all-played.result) =
    subst (λ (n : Nodes). EndedOver ((d : g.row.D.Denot) → IsTrue (g.D.Disk.tells d)) c.args.map.now
    c.args.player.now n (g.K.Sink.held c.args.out.now) (g.K.Sink.held c.play_all-played.new.out)
    (status_behind c.play_all-played.result)) (ap (λ (w : WorldState). w.nodes)
    c.new-world.ensures) over in
    subst (λ (s : Status). EndedOver ((d : g.row.D.Denot) → IsTrue (g.D.Disk.tells d))
    c.args.map.now c.args.player.now start (g.K.Sink.held c.args.out.now)
    (g.K.Sink.held c.play_all-played.new.out) s) (sym c.end.ensures.status) at

pub returns-clause-fault : goal.returns-clause-fault
returns-clause-fault g c = λ is.
    fault_at ((d : g.row.D.Denot) → IsTrue (g.D.Disk.tells d)) c.args.map.now
    c.args.player.now c.new-world.result.nodes (g.K.Sink.held c.args.out.now)
    (g.K.Sink.held c.play_all-played.new.out) c.play_all-played.result
    (g.K.Sink.fault_count c.args.out.now) (g.K.Sink.fault_count c.play_all-played.new.out)
    c.play_all-played.ensures.played c.play_all-played.ensures.fault
    (sym c.end.ensures.status ∙ is)
