use Rattle.std.proofs.Common.{◌≡◌, ◌∙◌, List, [], Some, IsSomeAnd, option_map, ap, sym, subst}
use Rattle.session_table.specs.declared.session.SessionState.TheVariants as state
use Rattle.version_store.specs.declared.version.Pending.{Pending}
use Rattle.participant.specs.Part.{Part, session, open_of}
use Rattle.participant.specs.Stands.{Stands, newest_keys, pending_of}
use Rattle.participant.proofs.Moving.{Pushing, pushing}
use Rattle.participant.proofs.Votes.{at_end}
use Rattle.participant.proofs.part.Participant.prepare_open.Goals as goal

pub returns-then-is_at_end-clause-voted : goal.returns-then-is_at_end-clause-voted
returns-then-is_at_end-clause-voted c = λ s is.
    at_end c.args.self.now c.args.clock.now.last c.args.wall c.args.m.now s
    c.args.pending (open_of c.args.self.now c.args.m.now.lsid) c.requires.pending
    (sym c.is_at_end.ensures ∙ c.if-is_at_end.true)
    ∙ c.veto.ensures c.args.clock.now.last s is

pub invariant_of-self-in-Some : goal.invariant_of-self-in-Some
invariant_of-self-in-Some c =
    let p : Part = record {
      shard = c.self.inside.shard;
      boot = c.self.inside.boot;
      sessions = c.self.inside.sessions;
      live = c.self.inside.live;
      pending = c.self.inside.pending;
      store = c.self.inside.store;
    } in
    let live : IsSomeAnd (session p c.args.m.now.lsid) (λ s. s.state ≡ state.Live) =
    subst (λ (q : Part). IsSomeAnd (session q c.args.m.now.lsid) (λ s. s.state ≡ state.Live))
    (sym c.self.view_is) c.requires.live in
    let from : Some c.args.pending
    ≡ option_map (pending_of c.args.m.now.lsid) (open_of p c.args.m.now.lsid) =
    subst (λ (q : Part). Some c.args.pending ≡ option_map (pending_of c.args.m.now.lsid)
    (open_of q c.args.m.now.lsid)) (sym c.self.view_is) c.requires.pending in
    let push : Pushing p c.args.m.now.lsid c.args.pending =
    pushing p c.args.m.now.lsid c.args.pending c.self.invariant live from in
    subst (λ (pending : List Pending). Stands (record p { pending = pending }))
    (sym c.in_ok-push.ensures.ok) push.stands

pub prepare_at-requires-clause-listed : goal.prepare_at-requires-clause-listed
prepare_at-requires-clause-listed c = λ s is.
    let p : Part = record {
      shard = c.self.inside.shard;
      boot = c.self.inside.boot;
      sessions = c.self.inside.sessions;
      live = c.self.inside.live;
      pending = c.self.inside.pending;
      store = c.self.inside.store;
    } in
    let live : IsSomeAnd (session p c.args.m.now.lsid) (λ s. s.state ≡ state.Live) =
    subst (λ (q : Part). IsSomeAnd (session q c.args.m.now.lsid) (λ s. s.state ≡ state.Live))
    (sym c.self.view_is) c.requires.live in
    let from : Some c.args.pending
    ≡ option_map (pending_of c.args.m.now.lsid) (open_of p c.args.m.now.lsid) =
    subst (λ (q : Part). Some c.args.pending ≡ option_map (pending_of c.args.m.now.lsid)
    (open_of q c.args.m.now.lsid)) (sym c.self.view_is) c.requires.pending in
    let push : Pushing p c.args.m.now.lsid c.args.pending =
    pushing p c.args.m.now.lsid c.args.pending c.self.invariant live from in
    ap (λ (pending : List Pending). newest_keys s.tag [] pending) c.in_ok-push.ensures.ok
    ∙ push.listed s is
