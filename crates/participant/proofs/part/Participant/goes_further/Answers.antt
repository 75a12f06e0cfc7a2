use Rattle.std.proofs.Common.{◌≡◌, ◌∙◌, true, nat_eq, Option, Some, IfSome, ap, sym, subst}
use Rattle.std.proofs.lemmas.Result.{IfOk-weaker}
use Rattle.txn_types.specs.Order.{same_tag}
use Rattle.txn_types.specs.declared.cause.Cause.TheVariants as cause
use Rattle.session_table.specs.declared.session.Session.{Session}
use Rattle.participant.specs.declared.said.Open.{Open}
use Rattle.participant.specs.declared.said.Said.{Said}
use Rattle.participant.specs.declared.said.Said.TheVariants.{Refused}
use Rattle.participant.specs.Part.{Part, session, open_of, ends_live}
use Rattle.participant.specs.Statement.{Turn, performed, goes_on}
use Rattle.participant.specs.Stands.{mine}
use Rattle.participant.proofs.Rules.{goes_here, goes_elsewhere}
use Rattle.participant.proofs.Statements.{mine_open}
use Rattle.participant.proofs.part.Participant.goes_further.Goals as goal

pub returns-then-is_here-clause-said : goal.returns-then-is_here-clause-said
returns-then-is_here-clause-said c =
    let p : Part = record {
      shard = c.self.inside.shard;
      boot = c.self.inside.boot;
      sessions = c.self.inside.sessions;
      live = c.self.inside.live;
      pending = c.self.inside.pending;
      store = c.self.inside.store;
    } in
    let own : IfSome (session p c.args.m.now.lsid) (λ s. same_tag s.tag c.args.m.now.tag ≡ true) =
    subst (λ (q : Part). IfSome (session q c.args.m.now.lsid)
    (λ s. same_tag s.tag c.args.m.now.tag ≡ true)) (sym c.self.view_is) c.requires.own in
    let mine_is : mine c.args.self.now c.args.m.now ≡ open_of c.args.self.now c.args.m.now.lsid =
    subst (λ (q : Part). mine q c.args.m.now ≡ open_of q c.args.m.now.lsid) c.self.view_is
    (mine_open p c.args.m.now c.self.invariant own) in
    let here : nat_eq c.args.m.now.boot c.args.self.now.boot ≡ true =
    ap (λ (q : Part). nat_eq c.args.m.now.boot q.boot) (sym c.self.view_is)
    ∙ sym c.is_here.ensures ∙ c.if-is_here.true in
    IfOk-weaker c.perform.result
    (λ said. performed c.args.self.now c.args.wall c.args.m.now c.args.read_at
    (mine c.args.self.now c.args.m.now) ≡ (let t : Turn = (said, c.perform.new.self) in t))
    (λ said. (s : Session) → session c.args.self.now c.args.m.now.lsid ≡ Some s
    → goes_on c.args.self.now c.args.wall c.args.m.now s (open_of c.args.self.now
    c.args.m.now.lsid) ≡ (let t : Turn = (said, c.perform.new.self) in t))
    (λ said h s is.
    goes_here c.args.self.now c.args.wall c.args.m.now s c.args.read_at
    (open_of c.args.self.now c.args.m.now.lsid) c.requires.next here
    ∙ ap (λ (e : Option Open). performed c.args.self.now c.args.wall c.args.m.now c.args.read_at e)
    (sym mine_is)
    ∙ h)
    c.perform.ensures.said

pub returns-clause-said : goal.returns-clause-said
returns-clause-said c = λ s is.
    goes_elsewhere c.args.self.now c.args.wall c.args.m.now s c.args.read_at
    (open_of c.args.self.now c.args.m.now.lsid) c.self.inside.boot (ap (λ (q : Part). q.boot)
    c.self.view_is) c.requires.next (sym c.is_here.ensures ∙ c.if-is_here.false)
    ∙ ap (λ (q : Part). let t : Turn =
    (Refused (cause.Unavailable c.args.m.now.boot c.self.inside.boot) 0, q) in t)
    (sym (c.end_live.ensures ∙ ap (ends_live c.args.self.now c.args.m.now.lsid
    (cause.Unavailable c.args.m.now.boot c.self.inside.boot)) is))
    ∙ ap (λ (said : Said). let t : Turn = (said, c.end_live.new.self) in t) (sym c.refused.ensures)
