use Rattle.std.proofs.Common.{◌≡◌, true, List, IsSomeAnd, sym, subst}
use Rattle.journal_rec.specs.declared.record.Rec.TheVariants as rec
use Rattle.version_store.specs.Versions.{keys_of}
use Rattle.version_store.specs.declared.version.Pending.{Pending}
use Rattle.shard_image.specs.Image.{Image, can_follow_image}
use Rattle.shard_image.specs.Sound.{pending_of}
use Rattle.shard_image.proofs.Asked.{Finds, finds}
use Rattle.shard_image.proofs.Behind.{decide_keeps}
use Rattle.shard_image.proofs.image.Image.decide.Goals as goal

pub decide_pending-requires : goal.decide_pending-requires
decide_pending-requires c =
    let j : Image = record {
      boot = c.self.inside.boot;
      ceiling = c.self.inside.ceiling;
      store = c.self.inside.store;
      sessions = c.self.inside.sessions;
      pending = c.self.inside.pending;
      coord = c.self.inside.coord;
      count = c.self.inside.place.count;
      greatest = c.self.inside.place.greatest;
    } in
    let can : can_follow_image j (rec.Decided c.args.d.now) ≡ true =
    subst (λ (i : Image). can_follow_image i (rec.Decided c.args.d.now)
    ≡ true) (sym c.self.view_is) c.requires.follows in
    let f : Finds j c.args.d.now = finds j c.self.invariant c.args.d.now can in
    subst (λ (pending : List Pending). IsSomeAnd (pending_of pending c.args.d.now.tag) (λ q. q.keys
    ≡ keys_of c.args.d.now.tag c.self.inside.store)) (sym c.as_slice.ensures) f.pending

pub replace-requires : goal.replace-requires
replace-requires c =
    let j : Image = record {
      boot = c.self.inside.boot;
      ceiling = c.self.inside.ceiling;
      store = c.self.inside.store;
      sessions = c.self.inside.sessions;
      pending = c.self.inside.pending;
      coord = c.self.inside.coord;
      count = c.self.inside.place.count;
      greatest = c.self.inside.place.greatest;
    } in
    let can : can_follow_image j (rec.Decided c.args.d.now) ≡ true =
    subst (λ (i : Image). can_follow_image i (rec.Decided c.args.d.now)
    ≡ true) (sym c.self.view_is) c.requires.follows in
    let f : Finds j c.args.d.now = finds j c.self.invariant c.args.d.now can in
    f.session

pub invariant_of-self : goal.invariant_of-self
invariant_of-self c =
    let j : Image = record {
      boot = c.self.inside.boot;
      ceiling = c.self.inside.ceiling;
      store = c.self.inside.store;
      sessions = c.self.inside.sessions;
      pending = c.self.inside.pending;
      coord = c.self.inside.coord;
      count = c.self.inside.place.count;
      greatest = c.self.inside.place.greatest;
    } in
    let can : can_follow_image j (rec.Decided c.args.d.now) ≡ true =
    subst (λ (i : Image). can_follow_image i (rec.Decided c.args.d.now)
    ≡ true) (sym c.self.view_is) c.requires.follows in
    decide_keeps j c.args.d.now c.time_of.result c.session_behind.result c.decide_pending.new.store
    c.replace.new.self c.forget.new.pendings c.self.invariant can
    c.time_of.ensures c.session_behind.ensures c.decide_pending.ensures c.forget.ensures
    c.replace.ensures
