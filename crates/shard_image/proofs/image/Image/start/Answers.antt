use Rattle.std.proofs.Common.{◌≡◌, None, subst, ap, ◌∙◌}
use Rattle.coordinator.specs.TwoPhase.{Coordinations, coordinated_of}
use Rattle.shard_image.specs.Image.{Image}
use Rattle.shard_image.specs.Sound.{IsImage}
use Rattle.shard_image.proofs.Asked.{new_coordination}
use Rattle.shard_image.proofs.image.Image.start.Goals as goal

pub start-requires-clause-new : goal.start-requires-clause-new
start-requires-clause-new c =
    let coord : c.self.inside.coord ≡ c.args.self.now.coord =
    ap (λ (i : Image). i.coord) c.self.view_is in
    ap (λ (coords : Coordinations). coordinated_of coords c.args.tag.now) coord
    ∙ new_coordination c.args.self.now c.args.tag.now c.args.lsid.now c.args.number c.args.parts.now
    c.requires.follows
