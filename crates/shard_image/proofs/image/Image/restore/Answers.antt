use Rattle.std.proofs.Common.{◌≡◌, true, sym, subst}
use Rattle.journal_rec.specs.declared.record.Rec.TheVariants as rec
use Rattle.shard_image.specs.Image.{Image, can_follow_image}
use Rattle.shard_image.proofs.Asked.{undecided_there}
use Rattle.shard_image.proofs.Behind.{restored_is}
use Rattle.shard_image.proofs.image.Image.restore.Goals as goal

pub restore-requires : goal.restore-requires
restore-requires c =
    let j : Image = record {
      boot = c.self.inside.boot;
      ceiling = c.self.inside.ceiling;
      store = c.self.inside.store;
      sessions = c.self.inside.sessions;
      pending = c.self.inside.pending;
      coord = c.self.inside.coord;
      count = c.self.inside.place.count;
      greatest = c.self.inside.place.greatest;
    } in
    let can : can_follow_image j (rec.CoordDecision c.args.tag.now c.args.decision) ≡ true =
    subst (λ (i : Image). can_follow_image i (rec.CoordDecision c.args.tag.now c.args.decision)
    ≡ true) (sym c.self.view_is) c.requires.follows in
    undecided_there j c.args.tag.now c.args.decision can

pub returns : goal.returns
returns c =
    let j : Image = record {
      boot = c.self.inside.boot;
      ceiling = c.self.inside.ceiling;
      store = c.self.inside.store;
      sessions = c.self.inside.sessions;
      pending = c.self.inside.pending;
      coord = c.self.inside.coord;
      count = c.self.inside.place.count;
      greatest = c.self.inside.place.greatest;
    } in
    let can : can_follow_image j (rec.CoordDecision c.args.tag.now c.args.decision) ≡ true =
    subst (λ (i : Image). can_follow_image i (rec.CoordDecision c.args.tag.now c.args.decision)
    ≡ true) (sym c.self.view_is) c.requires.follows in
    restored_is c.args.self.now j c.args.tag.now c.args.decision c.restore.new.self c.self.view_is
    (undecided_there j c.args.tag.now c.args.decision can) c.restore.ensures
