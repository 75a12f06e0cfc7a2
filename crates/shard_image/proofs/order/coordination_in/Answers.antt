use Rattle.std.proofs.Common.{◌≡◌, option_map, sym, ap, ◌∙◌}
use Rattle.coordinator.specs.TwoPhase.{Coordinations, Coordinated, coordinated_of}
use Rattle.shard_image.specs.Image.{Image}
use Rattle.shard_image.proofs.Decisions.{coordination_is}
use Rattle.shard_image.proofs.order.coordination_in.Goals as goal

pub returns : goal.returns
returns c =
    let coord : c.image.inside.coord ≡ c.args.image.now.coord =
    ap (λ (i : Image). i.coord) c.image.view_is in
    c.coordination.ensures
    ∙ ap (λ (coords : Coordinations). option_map (λ (c : Coordinated). c.decision)
    (coordinated_of coords c.args.tag.now)) coord
    ∙ sym (coordination_is c.args.image.now c.args.tag.now)
