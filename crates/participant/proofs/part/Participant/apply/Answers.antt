use Rattle.std.proofs.Common.{◌≡◌, ◌∙◌, List, [], Option, Some, IsSome, IsSomeAnd, IfSome, ℕ, ap}
use Rattle.std.proofs.Common.{sym, subst}
use Rattle.journal_rec.specs.declared.record.Decided.{Decided}
use Rattle.session_table.specs.Sessions.{session_of, with_state, prepared_at}
use Rattle.session_table.specs.declared.session.Session.{Session}
use Rattle.session_table.specs.declared.session.SessionState.{SessionState}
use Rattle.version_store.specs.Versions.{decided}
use Rattle.version_store.specs.declared.version.Pending.{Pending}
use Rattle.participant.specs.Part.{Part, session}
use Rattle.participant.specs.Decide.{Deciding, applies, decided_part, record_of}
use Rattle.participant.specs.Stands.{Stands, newest_keys}
use Rattle.participant.proofs.Moving.{Applying, applying}
use Rattle.participant.proofs.part.Participant.apply.Goals as goal

pub decide-requires : goal.decide-requires
decide-requires c =
    let p : Part = record {
      shard = c.self.inside.shard;
      boot = c.self.inside.boot;
      sessions = c.self.inside.sessions;
      live = c.self.inside.live;
      pending = c.self.inside.pending;
      store = c.self.inside.store;
    } in
    let s : Session = c.in_ok-session.session.now in
    let found : session c.args.self.now c.args.m.now.lsid ≡ Some s = sym c.in_ok-session.ensures in
    let there : session p c.args.m.now.lsid ≡ Some s =
    subst (λ (q : Part). session q c.args.m.now.lsid ≡ Some s) (sym c.self.view_is) found in
    let is_prepared : IsSomeAnd (session p c.args.m.now.lsid) (λ s. IsSome (prepared_at s.state)) =
    subst (λ (q : Part). IsSomeAnd (session q c.args.m.now.lsid)
    (λ s. IsSome (prepared_at s.state))) (sym c.self.view_is) c.requires in
    let apply : Applying p c.args.m.now s =
    applying p c.args.m.now s there c.self.invariant c.len-count.ensures is_prepared in
    c.newest_keys-keys.ensures ∙ ap (λ (pending : List Pending).
    newest_keys s.tag [] pending) c.as_slice.ensures ∙ apply.keys

pub invariant_of-self : goal.invariant_of-self
invariant_of-self c =
    let p : Part = record {
      shard = c.self.inside.shard;
      boot = c.self.inside.boot;
      sessions = c.self.inside.sessions;
      live = c.self.inside.live;
      pending = c.self.inside.pending;
      store = c.self.inside.store;
    } in
    let s : Session = c.in_ok-session.session.now in
    let found : session c.args.self.now c.args.m.now.lsid ≡ Some s = sym c.in_ok-session.ensures in
    let there : session p c.args.m.now.lsid ≡ Some s =
    subst (λ (q : Part). session q c.args.m.now.lsid ≡ Some s) (sym c.self.view_is) found in
    let is_prepared : IsSomeAnd (session p c.args.m.now.lsid) (λ s. IsSome (prepared_at s.state)) =
    subst (λ (q : Part). IsSomeAnd (session q c.args.m.now.lsid)
    (λ s. IsSome (prepared_at s.state))) (sym c.self.view_is) c.requires in
    let apply : Applying p c.args.m.now s =
    applying p c.args.m.now s there c.self.invariant c.len-count.ensures is_prepared in
    let table =
    subst (λ (st : SessionState). IfSome (session_of c.self.inside.sessions c.args.m.now.lsid)
    (λ s. c.end.new.self ≡ with_state c.self.inside.sessions c.args.m.now.lsid s st))
    c.state_behind.ensures c.end.ensures in
    let gives = apply.gives c.end.new.self c.forget.new.pendings
    c.decide.new.self table c.forget.ensures (c.decide.ensures
    ∙ ap (λ (at : Option ℕ). decided s.tag at c.self.inside.store) c.commit_time.ensures) in
    subst Stands (sym gives) apply.stands

pub returns : goal.returns
returns c = λ t is.
    let p : Part = record {
      shard = c.self.inside.shard;
      boot = c.self.inside.boot;
      sessions = c.self.inside.sessions;
      live = c.self.inside.live;
      pending = c.self.inside.pending;
      store = c.self.inside.store;
    } in
    let s : Session = c.in_ok-session.session.now in
    let found : session c.args.self.now c.args.m.now.lsid ≡ Some s = sym c.in_ok-session.ensures in
    let there : session p c.args.m.now.lsid ≡ Some s =
    subst (λ (q : Part). session q c.args.m.now.lsid ≡ Some s) (sym c.self.view_is) found in
    let is_prepared : IsSomeAnd (session p c.args.m.now.lsid) (λ s. IsSome (prepared_at s.state)) =
    subst (λ (q : Part). IsSomeAnd (session q c.args.m.now.lsid)
    (λ s. IsSome (prepared_at s.state))) (sym c.self.view_is) c.requires in
    let apply : Applying p c.args.m.now s =
    applying p c.args.m.now s there c.self.invariant c.len-count.ensures is_prepared in
    let table =
    subst (λ (st : SessionState). IfSome (session_of c.self.inside.sessions c.args.m.now.lsid)
    (λ s. c.end.new.self ≡ with_state c.self.inside.sessions c.args.m.now.lsid s st))
    c.state_behind.ensures c.end.ensures in
    let gives = apply.gives c.end.new.self c.forget.new.pendings
    c.decide.new.self table c.forget.ensures (c.decide.ensures
    ∙ ap (λ (at : Option ℕ). decided s.tag at c.self.inside.store) c.commit_time.ensures) in
    let same : Some t ≡ Some s = sym is ∙ found in
    let one : t ≡ s = cc in
    ap (λ (u : Session). applies c.args.self.now c.args.m.now u) one
    ∙ ap (λ (q : Part). let d : Deciding = (Some (record_of c.args.m.now s), q) in d)
    (ap (λ (q : Part). decided_part q c.args.m.now s) (sym c.self.view_is) ∙ sym gives)
    ∙ ap (λ (d : Decided). let e : Deciding = (
      Some d,
      record p
          { sessions = c.end.new.self; pending = c.forget.new.pendings; store = c.decide.new.self },
    ) in e) (sym c.record_of-decided.ensures)
