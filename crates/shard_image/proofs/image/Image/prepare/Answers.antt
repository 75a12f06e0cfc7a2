use Rattle.std.proofs.Common.{◌≡◌, ℤ, w64, true, List, map, refl, ap, sym, subst, ◌∙◌}
use Rattle.std.proofs.lemmas.Int.{to_z-of_z}
use Rattle.txn_types.specs.declared.write.Write.{Write}
use Rattle.txn_semantics.specs.Writes.{place_of}
use Rattle.session_table.specs.Sessions.{with_session}
use Rattle.session_table.specs.declared.session.SessionState.TheVariants as state
use Rattle.journal_rec.specs.declared.record.Rec.TheVariants as rec
use Rattle.version_store.specs.TakenBack.{AreFree}
use Rattle.version_store.specs.Versions.{Versions, keys_of, with_writes, dropped}
use Rattle.shard_image.specs.Image.{Image, can_follow_image}
use Rattle.shard_image.proofs.Asked.{Lays, lays, begun}
use Rattle.shard_image.proofs.Behind.{prepare_keeps}
use Rattle.shard_image.proofs.image.Image.prepare.Goals as goal

pub lay_prepared-requires-clause-free : goal.lay_prepared-requires-clause-free
lay_prepared-requires-clause-free c =
    let j : Image = record {
      boot = c.self.inside.boot;
      ceiling = c.self.inside.ceiling;
      store = c.self.inside.store;
      sessions = c.self.inside.sessions;
      pending = c.self.inside.pending;
      coord = c.self.inside.coord;
      count = c.self.inside.place.count;
      greatest = c.self.inside.place.greatest;
    } in
    let can : can_follow_image j (rec.Prepared c.args.q.tag c.args.q.lsid c.args.number
    c.args.boot c.args.q.read_at c.args.at c.args.coordinator c.args.writes.now) ≡ true =
    subst (λ (i : Image). can_follow_image i (rec.Prepared c.args.q.tag c.args.q.lsid
    c.args.number c.args.boot c.args.q.read_at c.args.at c.args.coordinator c.args.writes.now)
    ≡ true) (sym c.self.view_is) c.requires.follows in
    let l : Lays j.store c.args.q.tag c.args.writes.now = lays j c.self.invariant c.args.q.tag
    c.args.q.lsid c.args.number c.args.q.read_at c.args.at c.args.writes.now c.requires.written
    (begun j (rec.Prepared c.args.q.tag c.args.q.lsid c.args.number c.args.boot c.args.q.read_at
    c.args.at c.args.coordinator c.args.writes.now) can refl) in
    subst (λ (ws : List Write). AreFree c.args.q.tag c.self.inside.store ws)
    (sym c.as_slice-2.ensures.writes) l.free

pub lay_prepared-requires-clause-keys : goal.lay_prepared-requires-clause-keys
lay_prepared-requires-clause-keys c =
    let j : Image = record {
      boot = c.self.inside.boot;
      ceiling = c.self.inside.ceiling;
      store = c.self.inside.store;
      sessions = c.self.inside.sessions;
      pending = c.self.inside.pending;
      coord = c.self.inside.coord;
      count = c.self.inside.place.count;
      greatest = c.self.inside.place.greatest;
    } in
    let can : can_follow_image j (rec.Prepared c.args.q.tag c.args.q.lsid c.args.number
    c.args.boot c.args.q.read_at c.args.at c.args.coordinator c.args.writes.now) ≡ true =
    subst (λ (i : Image). can_follow_image i (rec.Prepared c.args.q.tag c.args.q.lsid
    c.args.number c.args.boot c.args.q.read_at c.args.at c.args.coordinator c.args.writes.now)
    ≡ true) (sym c.self.view_is) c.requires.follows in
    let l : Lays j.store c.args.q.tag c.args.writes.now = lays j c.self.invariant c.args.q.tag
    c.args.q.lsid c.args.number c.args.q.read_at c.args.at c.args.writes.now c.requires.written
    (begun j (rec.Prepared c.args.q.tag c.args.q.lsid c.args.number c.args.boot c.args.q.read_at
    c.args.at c.args.coordinator c.args.writes.now) can refl) in
    let own = subst (λ (ws : List Write).
    keys_of c.args.q.tag (with_writes c.args.q.tag c.self.inside.store ws)
    ≡ map place_of c.args.writes.now) (sym c.as_slice-2.ensures.writes) l.keys in
    c.as_slice.ensures ∙ c.in_ok-keys.ensures ∙ c.requires.keys ∙ sym own

pub lay_prepared-requires-clause-back : goal.lay_prepared-requires-clause-back
lay_prepared-requires-clause-back c =
    let j : Image = record {
      boot = c.self.inside.boot;
      ceiling = c.self.inside.ceiling;
      store = c.self.inside.store;
      sessions = c.self.inside.sessions;
      pending = c.self.inside.pending;
      coord = c.self.inside.coord;
      count = c.self.inside.place.count;
      greatest = c.self.inside.place.greatest;
    } in
    let can : can_follow_image j (rec.Prepared c.args.q.tag c.args.q.lsid c.args.number
    c.args.boot c.args.q.read_at c.args.at c.args.coordinator c.args.writes.now) ≡ true =
    subst (λ (i : Image). can_follow_image i (rec.Prepared c.args.q.tag c.args.q.lsid
    c.args.number c.args.boot c.args.q.read_at c.args.at c.args.coordinator c.args.writes.now)
    ≡ true) (sym c.self.view_is) c.requires.follows in
    let l : Lays j.store c.args.q.tag c.args.writes.now = lays j c.self.invariant c.args.q.tag
    c.args.q.lsid c.args.number c.args.q.read_at c.args.at c.args.writes.now c.requires.written
    (begun j (rec.Prepared c.args.q.tag c.args.q.lsid c.args.number c.args.boot c.args.q.read_at
    c.args.at c.args.coordinator c.args.writes.now) can refl) in
    subst (λ (ws : List Write). dropped c.args.q.tag (with_writes c.args.q.tag c.self.inside.store
    ws) ≡ c.self.inside.store) (sym c.as_slice-2.ensures.writes) l.back

pub prepare-requires : goal.prepare-requires
prepare-requires c =
    let j : Image = record {
      boot = c.self.inside.boot;
      ceiling = c.self.inside.ceiling;
      store = c.self.inside.store;
      sessions = c.self.inside.sessions;
      pending = c.self.inside.pending;
      coord = c.self.inside.coord;
      count = c.self.inside.place.count;
      greatest = c.self.inside.place.greatest;
    } in
    let can : can_follow_image j (rec.Prepared c.args.q.tag c.args.q.lsid c.args.number
    c.args.boot c.args.q.read_at c.args.at c.args.coordinator c.args.writes.now) ≡ true =
    subst (λ (i : Image). can_follow_image i (rec.Prepared c.args.q.tag c.args.q.lsid
    c.args.number c.args.boot c.args.q.read_at c.args.at c.args.coordinator c.args.writes.now)
    ≡ true) (sym c.self.view_is) c.requires.follows in
    let l : Lays j.store c.args.q.tag c.args.writes.now = lays j c.self.invariant c.args.q.tag
    c.args.q.lsid c.args.number c.args.q.read_at c.args.at c.args.writes.now c.requires.written
    (begun j (rec.Prepared c.args.q.tag c.args.q.lsid c.args.number c.args.boot c.args.q.read_at
    c.args.at c.args.coordinator c.args.writes.now) can refl) in
    let own = subst (λ (ws : List Write).
    keys_of c.args.q.tag (with_writes c.args.q.tag c.self.inside.store ws)
    ≡ map place_of c.args.writes.now) (sym c.as_slice-2.ensures.writes) l.keys in
    c.as_slice-3.ensures ∙ c.in_ok-keys.ensures ∙ c.requires.keys ∙ sym own
    ∙ ap (λ (v : Versions). keys_of c.args.q.tag v) (sym c.in_ok-lay_prepared.ensures.store)

pub invariant_of-self-2 : goal.invariant_of-self-2
invariant_of-self-2 c =
    let j : Image = record {
      boot = c.self.inside.boot;
      ceiling = c.self.inside.ceiling;
      store = c.self.inside.store;
      sessions = c.self.inside.sessions;
      pending = c.self.inside.pending;
      coord = c.self.inside.coord;
      count = c.self.inside.place.count;
      greatest = c.self.inside.place.greatest;
    } in
    let can : can_follow_image j (rec.Prepared c.args.q.tag c.args.q.lsid c.args.number
    c.args.boot c.args.q.read_at c.args.at c.args.coordinator c.args.writes.now) ≡ true =
    subst (λ (i : Image). can_follow_image i (rec.Prepared c.args.q.tag c.args.q.lsid
    c.args.number c.args.boot c.args.q.read_at c.args.at c.args.coordinator c.args.writes.now)
    ≡ true) (sym c.self.view_is) c.requires.follows in
    prepare_keeps j c.args.q c.args.number c.args.at c.args.coordinator c.args.boot
    c.args.writes.now c.as_slice-2.result.now c.lay_prepared.new.store c.prepare.new.self
    c.lay_prepared.new.sessions c.lay_prepared.new.pending c.self.invariant
    c.requires.written can
    c.requires.keys c.as_slice-2.ensures.writes c.in_ok-lay_prepared.ensures.store
    c.prepare.ensures (c.in_ok-lay_prepared.ensures.sessions
    ∙ ap (λ (n : ℤ). with_session c.self.inside.sessions c.args.q.lsid (record {
      number = n;
      tag = c.args.q.tag;
      state = state.Prepared c.args.at c.args.coordinator;
    })) (to_z-of_z w64 c.args.number c.ranges.number)) c.in_ok-lay_prepared.ensures.pending
