use Rattle.std.proofs.Common.{◌≡◌, ℤ, w64, true, List, map, refl, ap, sym, subst, ◌∙◌}
use Rattle.std.proofs.lemmas.Int.{to_z-of_z}
use Rattle.txn_types.specs.declared.write.Write.{Write}
use Rattle.txn_semantics.specs.Writes.{place_of}
use Rattle.session_table.specs.Sessions.{with_session}
use Rattle.session_table.specs.declared.session.SessionState.TheVariants as state
use Rattle.journal_rec.specs.declared.record.Rec.TheVariants as rec
use Rattle.version_store.specs.TakenBack.{AreFree}
use Rattle.version_store.specs.Versions.{Versions, keys_of, with_writes, dropped}
use Rattle.shard_image.specs.Image.{Image, can_follow_image}
use Rattle.shard_image.proofs.Asked.{Lays, lays, begun}
use Rattle.shard_image.proofs.Behind.{commit_keeps}
use Rattle.shard_image.proofs.image.Image.commit.Goals as goal

pub lay-requires-clause-free : goal.lay-requires-clause-free
lay-requires-clause-free c =
    let j : Image = record {
      boot = c.self.inside.boot;
      ceiling = c.self.inside.ceiling;
      store = c.self.inside.store;
      sessions = c.self.inside.sessions;
      pending = c.self.inside.pending;
      coord = c.self.inside.coord;
      count = c.self.inside.place.count;
      greatest = c.self.inside.place.greatest;
    } in
    let can : can_follow_image j (rec.Commit c.args.tag.now c.args.lsid.now c.args.number
    c.args.read_at c.args.at c.args.writes.now) ≡ true = subst (λ (i : Image).
    can_follow_image i (rec.Commit c.args.tag.now c.args.lsid.now c.args.number c.args.read_at
    c.args.at c.args.writes.now) ≡ true) (sym c.self.view_is) c.requires.follows in
    let l : Lays j.store c.args.tag.now c.args.writes.now =
    lays j c.self.invariant c.args.tag.now c.args.lsid.now c.args.number c.args.read_at
    c.args.at c.args.writes.now c.requires.written (begun j (rec.Commit c.args.tag.now
    c.args.lsid.now c.args.number c.args.read_at c.args.at c.args.writes.now) can refl) in
    subst (λ (ws : List Write). AreFree c.args.tag.now c.self.inside.store ws)
    (sym c.as_slice-writes.ensures.writes) l.free

pub lay-requires-clause-keys : goal.lay-requires-clause-keys
lay-requires-clause-keys c =
    let j : Image = record {
      boot = c.self.inside.boot;
      ceiling = c.self.inside.ceiling;
      store = c.self.inside.store;
      sessions = c.self.inside.sessions;
      pending = c.self.inside.pending;
      coord = c.self.inside.coord;
      count = c.self.inside.place.count;
      greatest = c.self.inside.place.greatest;
    } in
    let can : can_follow_image j (rec.Commit c.args.tag.now c.args.lsid.now c.args.number
    c.args.read_at c.args.at c.args.writes.now) ≡ true = subst (λ (i : Image).
    can_follow_image i (rec.Commit c.args.tag.now c.args.lsid.now c.args.number c.args.read_at
    c.args.at c.args.writes.now) ≡ true) (sym c.self.view_is) c.requires.follows in
    let l : Lays j.store c.args.tag.now c.args.writes.now =
    lays j c.self.invariant c.args.tag.now c.args.lsid.now c.args.number c.args.read_at
    c.args.at c.args.writes.now c.requires.written (begun j (rec.Commit c.args.tag.now
    c.args.lsid.now c.args.number c.args.read_at c.args.at c.args.writes.now) can refl) in
    let own = subst (λ (ws : List Write). keys_of c.args.tag.now (with_writes c.args.tag.now
    c.self.inside.store ws) ≡ map place_of ws) (sym c.as_slice-writes.ensures.writes) l.keys in
    c.as_slice.ensures ∙ c.in_ok-keys.ensures ∙ sym own

pub lay-requires-clause-back : goal.lay-requires-clause-back
lay-requires-clause-back c =
    let j : Image = record {
      boot = c.self.inside.boot;
      ceiling = c.self.inside.ceiling;
      store = c.self.inside.store;
      sessions = c.self.inside.sessions;
      pending = c.self.inside.pending;
      coord = c.self.inside.coord;
      count = c.self.inside.place.count;
      greatest = c.self.inside.place.greatest;
    } in
    let can : can_follow_image j (rec.Commit c.args.tag.now c.args.lsid.now c.args.number
    c.args.read_at c.args.at c.args.writes.now) ≡ true = subst (λ (i : Image).
    can_follow_image i (rec.Commit c.args.tag.now c.args.lsid.now c.args.number c.args.read_at
    c.args.at c.args.writes.now) ≡ true) (sym c.self.view_is) c.requires.follows in
    let l : Lays j.store c.args.tag.now c.args.writes.now =
    lays j c.self.invariant c.args.tag.now c.args.lsid.now c.args.number c.args.read_at
    c.args.at c.args.writes.now c.requires.written (begun j (rec.Commit c.args.tag.now
    c.args.lsid.now c.args.number c.args.read_at c.args.at c.args.writes.now) can refl) in
    subst (λ (ws : List Write). dropped c.args.tag.now (with_writes c.args.tag.now
    c.self.inside.store ws) ≡ c.self.inside.store) (sym c.as_slice-writes.ensures.writes) l.back

pub decide-requires : goal.decide-requires
decide-requires c =
    let j : Image = record {
      boot = c.self.inside.boot;
      ceiling = c.self.inside.ceiling;
      store = c.self.inside.store;
      sessions = c.self.inside.sessions;
      pending = c.self.inside.pending;
      coord = c.self.inside.coord;
      count = c.self.inside.place.count;
      greatest = c.self.inside.place.greatest;
    } in
    let can : can_follow_image j (rec.Commit c.args.tag.now c.args.lsid.now c.args.number
    c.args.read_at c.args.at c.args.writes.now) ≡ true = subst (λ (i : Image).
    can_follow_image i (rec.Commit c.args.tag.now c.args.lsid.now c.args.number c.args.read_at
    c.args.at c.args.writes.now) ≡ true) (sym c.self.view_is) c.requires.follows in
    let l : Lays j.store c.args.tag.now c.args.writes.now =
    lays j c.self.invariant c.args.tag.now c.args.lsid.now c.args.number c.args.read_at
    c.args.at c.args.writes.now c.requires.written (begun j (rec.Commit c.args.tag.now
    c.args.lsid.now c.args.number c.args.read_at c.args.at c.args.writes.now) can refl) in
    let own = subst (λ (ws : List Write). keys_of c.args.tag.now (with_writes c.args.tag.now
    c.self.inside.store ws) ≡ map place_of ws) (sym c.as_slice-writes.ensures.writes) l.keys in
    c.as_slice-2.ensures ∙ c.in_ok-keys.ensures ∙ sym own
    ∙ ap (λ (v : Versions). keys_of c.args.tag.now v) (sym c.in_ok-lay.ensures.store)

pub invariant_of-self-2 : goal.invariant_of-self-2
invariant_of-self-2 c =
    let j : Image = record {
      boot = c.self.inside.boot;
      ceiling = c.self.inside.ceiling;
      store = c.self.inside.store;
      sessions = c.self.inside.sessions;
      pending = c.self.inside.pending;
      coord = c.self.inside.coord;
      count = c.self.inside.place.count;
      greatest = c.self.inside.place.greatest;
    } in
    let can : can_follow_image j (rec.Commit c.args.tag.now c.args.lsid.now c.args.number
    c.args.read_at c.args.at c.args.writes.now) ≡ true = subst (λ (i : Image).
    can_follow_image i (rec.Commit c.args.tag.now c.args.lsid.now c.args.number c.args.read_at
    c.args.at c.args.writes.now) ≡ true) (sym c.self.view_is) c.requires.follows in
    commit_keeps j c.args.tag.now c.args.lsid.now c.args.number c.args.read_at c.args.at
    c.args.writes.now c.as_slice-writes.result.now c.lay.new.store c.decide.new.self
    c.lay.new.sessions c.self.invariant c.requires.written can
    c.as_slice-writes.ensures.writes c.in_ok-lay.ensures.store
    c.decide.ensures (c.in_ok-lay.ensures.sessions
    ∙ ap (λ (n : ℤ). with_session c.self.inside.sessions c.args.lsid.now
    (record { number = n; tag = c.args.tag.now; state = state.Committed c.args.at }))
    (to_z-of_z w64 c.args.number c.ranges.number))
