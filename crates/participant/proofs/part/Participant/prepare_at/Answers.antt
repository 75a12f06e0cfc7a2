use Rattle.std.proofs.Common.{◌≡◌, ◌∙◌, Some, IsSomeAnd, ap, sym, subst}
use Rattle.txn_types.specs.declared.names.Tag.{Tag}
use Rattle.session_table.specs.declared.session.Session.{Session}
use Rattle.session_table.specs.declared.session.SessionState.TheVariants as state
use Rattle.participant.specs.Part.{Part, session}
use Rattle.version_store.specs.declared.version.Stamp.TheVariants as stamp
use Rattle.version_store.specs.Versions.{stamped, keys_of}
use Rattle.participant.specs.Stands.{pending_keys}
use Rattle.participant.proofs.Moving.{prepared_stands}
use Rattle.participant.proofs.part.Participant.prepare_at.Goals as goal

pub invariant_of-self-2 : goal.invariant_of-self-2
invariant_of-self-2 c =
    let p : Part = record {
      shard = c.self.inside.shard;
      boot = c.self.inside.boot;
      sessions = c.self.inside.sessions;
      live = c.self.inside.live;
      pending = c.self.inside.pending;
      store = c.self.inside.store;
    } in
    let live : IsSomeAnd (session p c.args.m.now.lsid) (λ s. s.state ≡ state.Live) =
    subst (λ (q : Part). IsSomeAnd (session q c.args.m.now.lsid) (λ s. s.state ≡ state.Live))
    (sym c.self.view_is) c.requires.live in
    prepared_stands p c.args.m.now.lsid c.in_ok-live.live c.args.at c.args.m.now.coordinator
    c.end.new.self c.take_out.new.self c.prepare.new.self c.self.invariant c.len-count.ensures
    live (sym c.in_ok-live.was ∙ c.take_out.ensures.taken)
    (subst (λ (q : Part). (s : Session) → session q c.args.m.now.lsid ≡ Some s
    → pending_keys q s.tag ≡ keys_of s.tag q.store) (sym c.self.view_is) c.requires.listed)
    c.end.ensures c.take_out.ensures.left
    (c.prepare.ensures ∙ ap (λ (tag : Tag). stamped tag (stamp.Prepared tag c.args.at)
    c.self.inside.store) c.tag.ensures)
