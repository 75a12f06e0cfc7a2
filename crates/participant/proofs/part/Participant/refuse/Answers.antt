use Rattle.std.proofs.Common.{◌≡◌, ◌∙◌, ap, sym, subst, refl}
use Rattle.txn_types.specs.declared.cause.Cause.{Cause}
use Rattle.session_table.specs.Sessions.{with_session}
use Rattle.session_table.specs.declared.session.Session.{Session}
use Rattle.session_table.specs.declared.session.SessionState.TheVariants as state
use Rattle.participant.specs.declared.said.Said.TheVariants.{Refused}
use Rattle.participant.specs.Part.{Part, session, open_of}
use Rattle.participant.specs.Statement.{Turn, refuses}
use Rattle.participant.specs.Stands.{Stands, CanLeave}
use Rattle.participant.proofs.Statements.{live_keys, refused_stands, refusing}
use Rattle.participant.proofs.part.Participant.refuse.Goals as goal

pub drop_live-requires : goal.drop_live-requires
drop_live-requires c =
    let p : Part = record {
      shard = c.self.inside.shard;
      boot = c.self.inside.boot;
      sessions = c.self.inside.sessions;
      live = c.self.inside.live;
      pending = c.self.inside.pending;
      store = c.self.inside.store;
    } in
    record { keys = λ o is. live_keys p c.args.m.now.lsid o c.self.invariant is }

pub invariant_of-self-2 : goal.invariant_of-self-2
invariant_of-self-2 c =
    let p : Part = record {
      shard = c.self.inside.shard;
      boot = c.self.inside.boot;
      sessions = c.self.inside.sessions;
      live = c.self.inside.live;
      pending = c.self.inside.pending;
      store = c.self.inside.store;
    } in
    let left : CanLeave (session p c.args.m.now.lsid) = subst (λ (q : Part).
    CanLeave (session q c.args.m.now.lsid)) (sym c.self.view_is) c.requires.left in
    let set : c.set.new.self ≡ with_session c.self.inside.sessions c.args.m.now.lsid (record {
      number = c.args.m.now.number;
      tag = c.args.m.now.tag;
      state = state.Aborted c.args.cause c.args.read_at;
    }) = c.in_ok-set.ensures.ok ∙ ap (λ (s : Session). with_session c.self.inside.sessions
    c.args.m.now.lsid s) c.aborted_session-session.ensures in
    let gives = refusing p c.args.m.now (state.Aborted c.args.cause c.args.read_at)
    c.set.new.self c.drop_live.new.lives c.drop_live.new.store set c.drop_live.ensures.lives
    c.drop_live.ensures.store in
    subst Stands (sym gives) (refused_stands p c.args.m.now
    (state.Aborted c.args.cause c.args.read_at) (open_of p c.args.m.now.lsid) refl refl
    c.self.invariant c.len-count.ensures c.collections-collections.ensures.rises left)

pub returns-clause-said : goal.returns-clause-said
returns-clause-said c =
    let p : Part = record {
      shard = c.self.inside.shard;
      boot = c.self.inside.boot;
      sessions = c.self.inside.sessions;
      live = c.self.inside.live;
      pending = c.self.inside.pending;
      store = c.self.inside.store;
    } in
    let set : c.set.new.self ≡ with_session c.self.inside.sessions c.args.m.now.lsid (record {
      number = c.args.m.now.number;
      tag = c.args.m.now.tag;
      state = state.Aborted c.args.cause c.args.read_at;
    }) = c.in_ok-set.ensures.ok ∙ ap (λ (s : Session). with_session c.self.inside.sessions
    c.args.m.now.lsid s) c.aborted_session-session.ensures in
    let gives = refusing p c.args.m.now (state.Aborted c.args.cause c.args.read_at)
    c.set.new.self c.drop_live.new.lives c.drop_live.new.store set c.drop_live.ensures.lives
    c.drop_live.ensures.store in
    ap (λ (q : Part). let t : Turn = refuses q c.args.m.now c.args.cause c.args.read_at in t)
    (sym c.self.view_is)
    ∙ ap (λ (q : Part). let t : Turn = (Refused c.args.cause c.args.read_at, q) in t) (sym gives)
    ∙ ap (λ (why : Cause). let t : Turn = (
      Refused why c.args.read_at,
      record p {
        sessions = c.set.new.self;
        live = c.drop_live.new.lives;
        store = c.drop_live.new.store;
      },
    ) in t) (sym c.in_ok-again.ensures)
