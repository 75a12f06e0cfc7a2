use Rattle.std.proofs.Common.{◌≡◌, ◌∙◌, IsSomeAnd, ap, sym, subst}
use Rattle.txn_types.specs.declared.names.Tag.{Tag}
use Rattle.session_table.specs.declared.session.SessionState.TheVariants as state
use Rattle.version_store.specs.Versions.{keys_of, dropped}
use Rattle.participant.specs.Part.{Part, session, end_live}
use Rattle.participant.specs.Stands.{Stands}
use Rattle.participant.proofs.Moving.{Ending, ending, has_something}
use Rattle.participant.proofs.part.Participant.end_live.Goals as goal

pub drop_txn-requires : goal.drop_txn-requires
drop_txn-requires c =
    let p : Part = record {
      shard = c.self.inside.shard;
      boot = c.self.inside.boot;
      sessions = c.self.inside.sessions;
      live = c.self.inside.live;
      pending = c.self.inside.pending;
      store = c.self.inside.store;
    } in
    let live : IsSomeAnd (session p c.args.lsid.now) (λ s. s.state ≡ state.Live) =
    subst (λ (q : Part). IsSomeAnd (session q c.args.lsid.now) (λ s. s.state ≡ state.Live))
    (sym c.self.view_is) c.requires in
    let ends : Ending p c.args.lsid.now c.args.cause c.in-Some.live =
    ending p c.args.lsid.now c.args.cause c.in-Some.live c.self.invariant c.len-count.ensures
    live (sym c.in-Some.is ∙ c.take_out.ensures.taken) in
    c.keys.ensures ∙ ends.keys
    ∙ ap (λ (tag : Tag). keys_of tag c.self.inside.store) (sym c.tag.ensures)

pub end-requires : goal.end-requires
end-requires c =
    let p : Part = record {
      shard = c.self.inside.shard;
      boot = c.self.inside.boot;
      sessions = c.self.inside.sessions;
      live = c.self.inside.live;
      pending = c.self.inside.pending;
      store = c.self.inside.store;
    } in
    let live : IsSomeAnd (session p c.args.lsid.now) (λ s. s.state ≡ state.Live) =
    subst (λ (q : Part). IsSomeAnd (session q c.args.lsid.now) (λ s. s.state ≡ state.Live))
    (sym c.self.view_is) c.requires in
    let ends : Ending p c.args.lsid.now c.args.cause c.in-Some.live =
    ending p c.args.lsid.now c.args.cause c.in-Some.live c.self.invariant c.len-count.ensures
    live (sym c.in-Some.is ∙ c.take_out.ensures.taken) in
    ends.there

pub returns-in-Some : goal.returns-in-Some
returns-in-Some c =
    let p : Part = record {
      shard = c.self.inside.shard;
      boot = c.self.inside.boot;
      sessions = c.self.inside.sessions;
      live = c.self.inside.live;
      pending = c.self.inside.pending;
      store = c.self.inside.store;
    } in
    let live : IsSomeAnd (session p c.args.lsid.now) (λ s. s.state ≡ state.Live) =
    subst (λ (q : Part). IsSomeAnd (session q c.args.lsid.now) (λ s. s.state ≡ state.Live))
    (sym c.self.view_is) c.requires in
    let ends : Ending p c.args.lsid.now c.args.cause c.in-Some.live =
    ending p c.args.lsid.now c.args.cause c.in-Some.live c.self.invariant c.len-count.ensures
    live (sym c.in-Some.is ∙ c.take_out.ensures.taken) in
    let gives = ends.gives c.end.new.self c.take_out.new.self c.drop_txn.new.self
    c.end.ensures c.take_out.ensures.left (c.drop_txn.ensures
    ∙ ap (λ (tag : Tag). dropped tag c.self.inside.store) c.tag.ensures) in
    gives ∙ ap (λ (q : Part). end_live q c.args.lsid.now c.args.cause) c.self.view_is

pub invariant_of-self : goal.invariant_of-self
invariant_of-self c =
    let p : Part = record {
      shard = c.self.inside.shard;
      boot = c.self.inside.boot;
      sessions = c.self.inside.sessions;
      live = c.self.inside.live;
      pending = c.self.inside.pending;
      store = c.self.inside.store;
    } in
    let live : IsSomeAnd (session p c.args.lsid.now) (λ s. s.state ≡ state.Live) =
    subst (λ (q : Part). IsSomeAnd (session q c.args.lsid.now) (λ s. s.state ≡ state.Live))
    (sym c.self.view_is) c.requires in
    let ends : Ending p c.args.lsid.now c.args.cause c.in-Some.live =
    ending p c.args.lsid.now c.args.cause c.in-Some.live c.self.invariant c.len-count.ensures
    live (sym c.in-Some.is ∙ c.take_out.ensures.taken) in
    let gives = ends.gives c.end.new.self c.take_out.new.self c.drop_txn.new.self
    c.end.ensures c.take_out.ensures.left (c.drop_txn.ensures
    ∙ ap (λ (tag : Tag). dropped tag c.self.inside.store) c.tag.ensures) in
    subst Stands (sym gives) ends.stands

pub returns-in-None : goal.returns-in-None
returns-in-None c =
    let p : Part = record {
      shard = c.self.inside.shard;
      boot = c.self.inside.boot;
      sessions = c.self.inside.sessions;
      live = c.self.inside.live;
      pending = c.self.inside.pending;
      store = c.self.inside.store;
    } in
    let live : IsSomeAnd (session p c.args.lsid.now) (λ s. s.state ≡ state.Live) =
    subst (λ (q : Part). IsSomeAnd (session q c.args.lsid.now) (λ s. s.state ≡ state.Live))
    (sym c.self.view_is) c.requires in
    absurd (has_something p c.args.lsid.now c.self.invariant live
    (sym c.in-None.is ∙ c.take_out.ensures.taken))
