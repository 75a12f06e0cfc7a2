use Rattle.std.proofs.Common.{◌≡◌, false, IsSomeAnd, sym, subst}
use Rattle.session_table.specs.declared.session.SessionState.TheVariants as state
use Rattle.participant.specs.Part.{Part, session, open_of}
use Rattle.participant.specs.Stands.{has_writes}
use Rattle.participant.proofs.Moving.{released}
use Rattle.participant.proofs.part.Participant.release.Goals as goal

pub invariant_of-self : goal.invariant_of-self
invariant_of-self c =
    let p : Part = record {
      shard = c.self.inside.shard;
      boot = c.self.inside.boot;
      sessions = c.self.inside.sessions;
      live = c.self.inside.live;
      pending = c.self.inside.pending;
      store = c.self.inside.store;
    } in
    let live : IsSomeAnd (session p c.args.m.now.lsid) (λ s. s.state ≡ state.Live) =
    subst (λ (q : Part). IsSomeAnd (session q c.args.m.now.lsid) (λ s. s.state ≡ state.Live))
    (sym c.self.view_is) c.requires.live in
    let none : has_writes (open_of p c.args.m.now.lsid) ≡ false = subst (λ (q : Part).
    has_writes (open_of q c.args.m.now.lsid) ≡ false) (sym c.self.view_is) c.requires.none in
    released p c.args.m.now.lsid c.end.new.self c.take_out-live.new.self c.self.invariant
    c.len-count.ensures live none c.end.ensures c.take_out-live.ensures.left
