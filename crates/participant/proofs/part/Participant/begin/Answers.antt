use Rattle.std.proofs.Common.{◌≡◌, ℕ, false, Option, None, IfOk, IfSome, sym, subst}
use Rattle.txn_types.specs.Order.{same_tag}
use Rattle.participant.specs.declared.said.Open.{Open}
use Rattle.participant.specs.Part.{Part, session}
use Rattle.participant.specs.Statement.{Turn, performed, read_time}
use Rattle.participant.specs.Stands.{mine}
use Rattle.participant.proofs.Statements.{mine_none}
use Rattle.participant.proofs.part.Participant.begin.Goals as goal

pub returns-clause-said : goal.returns-clause-said
returns-clause-said c =
    let p : Part = record {
      shard = c.self.inside.shard;
      boot = c.self.inside.boot;
      sessions = c.self.inside.sessions;
      live = c.self.inside.live;
      pending = c.self.inside.pending;
      store = c.self.inside.store;
    } in
    let other : IfSome (session p c.args.m.now.lsid) (λ s. same_tag s.tag c.args.m.now.tag
    ≡ false) = subst (λ (q : Part). IfSome (session q c.args.m.now.lsid)
    (λ s. same_tag s.tag c.args.m.now.tag ≡ false)) (sym c.self.view_is) c.requires.other in
    let none : mine c.args.self.now c.args.m.now ≡ None = subst (λ (q : Part). mine q c.args.m.now
    ≡ None) c.self.view_is (mine_none p c.args.m.now c.self.invariant other) in
    subst (λ (e : Option Open). IfOk c.perform.result (λ said.
    performed c.args.self.now c.args.wall c.args.m.now (read_time c.args.last c.args.m.now) e
    ≡ (let t : Turn = (said, c.perform.new.self) in t))) none
    (subst (λ (at : ℕ). IfOk c.perform.result (λ said. performed c.args.self.now
    c.args.wall c.args.m.now at (mine c.args.self.now c.args.m.now) ≡ (let t : Turn =
    (said, c.perform.new.self) in t))) c.read_time.ensures c.perform.ensures.said)
