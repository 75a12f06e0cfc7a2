use Rattle.shard_image.specs.Image.{Image}
use Rattle.shard_core.proofs.Restarting.{image_stands}
use Rattle.shard_core.proofs.shard.Shard.of.Goals as goal

pub of-requires : goal.of-requires
of-requires c =
    let i : Image = record {
      boot = c.image.inside.boot;
      ceiling = c.image.inside.ceiling;
      store = c.image.inside.store;
      sessions = c.image.inside.sessions;
      pending = c.image.inside.pending;
      coord = c.image.inside.coord;
      count = c.image.inside.place.count;
      greatest = c.image.inside.place.greatest;
    } in
    image_stands c.args.shard i c.image.invariant
