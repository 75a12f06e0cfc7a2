use Rattle.std.proofs.Common.{◌≡◌, ◌∙◌, false, ap, sym, subst}
use Rattle.txn_types.specs.Order.{lsid_cmp}
use Rattle.txn_semantics.specs.Keyed.{put}
use Rattle.participant.specs.declared.said.Open.{Open}
use Rattle.participant.specs.Part.{Part, session, elsewhere}
use Rattle.participant.specs.Statement.{with_open, made_room, writes_with}
use Rattle.participant.specs.Stands.{Stands, CanLeave, mine}
use Rattle.participant.proofs.Statements.{live_keys, session_there, written_stands, written_by}
use Rattle.participant.proofs.Statements.{room_is}
use Rattle.participant.proofs.part.Participant.put.Goals as goal

pub put_all-requires-clause-there : goal.put_all-requires-clause-there
put_all-requires-clause-there c = λ some.
    let p : Part = record {
      shard = c.self.inside.shard;
      boot = c.self.inside.boot;
      sessions = c.self.inside.sessions;
      live = c.self.inside.live;
      pending = c.self.inside.pending;
      store = c.self.inside.store;
    } in
    session_there p c.args.m.now.lsid c.self.invariant some

pub put_all-requires-clause-keys : goal.put_all-requires-clause-keys
put_all-requires-clause-keys c = λ o is.
    let p : Part = record {
      shard = c.self.inside.shard;
      boot = c.self.inside.boot;
      sessions = c.self.inside.sessions;
      live = c.self.inside.live;
      pending = c.self.inside.pending;
      store = c.self.inside.store;
    } in
    live_keys p c.args.m.now.lsid o c.self.invariant is

pub invariant_of-self-2 : goal.invariant_of-self-2
invariant_of-self-2 c =
    let p : Part = record {
      shard = c.self.inside.shard;
      boot = c.self.inside.boot;
      sessions = c.self.inside.sessions;
      live = c.self.inside.live;
      pending = c.self.inside.pending;
      store = c.self.inside.store;
    } in
    let once : elsewhere p c.args.m.now.lsid c.args.m.now.tag ≡ false =
    subst (λ (q : Part). elsewhere q c.args.m.now.lsid c.args.m.now.tag
    ≡ false) (sym c.self.view_is) c.requires.once in
    let left : CanLeave (session p c.args.m.now.lsid) = subst (λ (q : Part).
    CanLeave (session q c.args.m.now.lsid)) (sym c.self.view_is) c.requires.left in
    let whole : c.args.entry.writes ≡ writes_with (mine p c.args.m.now) c.args.writes.now =
    subst (λ (q : Part). c.args.entry.writes ≡ writes_with (mine q c.args.m.now)
    c.args.writes.now) (sym c.self.view_is) c.requires.whole in
    let lives : c.put_all.new.lives ≡ put lsid_cmp c.args.m.now.lsid c.args.entry
    c.self.inside.live = c.in_ok-put_all.ensures.lives ∙ ap (λ (o : Open).
    put lsid_cmp c.args.m.now.lsid o c.self.inside.live) c.new-live.ensures in
    let gives = written_by p c.args.m.now c.args.entry c.args.writes.now c.put_all.new.sessions
    c.put_all.new.lives c.put_all.new.store c.in_ok-put_all.ensures.sessions lives
    c.in_ok-put_all.ensures.store in
    subst Stands (sym gives) (written_stands p c.args.m.now c.args.entry c.args.writes.now
    c.self.invariant c.collections-collections.ensures.rises once left c.requires.tag whole)

pub returns-clause-ok : goal.returns-clause-ok
returns-clause-ok c =
    let p : Part = record {
      shard = c.self.inside.shard;
      boot = c.self.inside.boot;
      sessions = c.self.inside.sessions;
      live = c.self.inside.live;
      pending = c.self.inside.pending;
      store = c.self.inside.store;
    } in
    let lives : c.put_all.new.lives ≡ put lsid_cmp c.args.m.now.lsid c.args.entry
    c.self.inside.live = c.in_ok-put_all.ensures.lives ∙ ap (λ (o : Open).
    put lsid_cmp c.args.m.now.lsid o c.self.inside.live) c.new-live.ensures in
    let gives = written_by p c.args.m.now c.args.entry c.args.writes.now c.put_all.new.sessions
    c.put_all.new.lives c.put_all.new.store c.in_ok-put_all.ensures.sessions lives
    c.in_ok-put_all.ensures.store in
    gives
    ∙ sym (room_is p c.args.m.now c.args.entry c.args.writes.now c.len-count.ensures)
    ∙ ap (λ (q : Part). with_open (made_room q c.args.m.now (mine q c.args.m.now)) c.args.m.now
    c.args.entry c.args.writes.now) c.self.view_is
