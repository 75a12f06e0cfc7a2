-- A shard's state after the rule of a message: the records' state backs it, with the rule's
-- record.
use Rattle.std.proofs.Common.{◌≡◌, ◌≤◌, ℕ, ℤ, Bool, true, false, Option, Some, None, IfSome, refl}
use Rattle.std.proofs.Common.{ap, ◌∙◌, sym, nat_eq, if◌then◌else◌}
use Rattle.txn_types.specs.Order.{same_tag, tag_cmp}
use Rattle.txn_types.specs.declared.cause.Cause.TheVariants as cause
use Rattle.txn_types.specs.declared.decision.Decision.{Decision}
use Rattle.txn_types.specs.declared.message.Acked.{Acked}
use Rattle.txn_types.specs.declared.message.CommitTwo.{CommitTwo}
use Rattle.txn_types.specs.declared.message.Msg.{Msg}
use Rattle.txn_types.specs.declared.message.Msg.TheVariants as msg
use Rattle.txn_types.specs.declared.message.Statement.{Statement}
use Rattle.txn_types.specs.declared.message.Vote.{Vote}
use Rattle.txn_types.specs.declared.names.Tag.{Tag}
use Rattle.txn_types.specs.declared.node.NodeId.{NodeId}
use Rattle.txn_semantics.specs.Keyed.{put, taken_out}
use Rattle.session_table.specs.declared.session.Session.{Session}
use Rattle.session_table.specs.declared.session.SessionState.{SessionState}
use Rattle.session_table.specs.declared.session.SessionState.TheVariants as state
use Rattle.journal_rec.specs.declared.record.Rec.{Rec}
use Rattle.journal_rec.specs.declared.record.Rec.TheVariants as rec
use Rattle.coordinator.specs.TwoPhase.{Coordinated, coordinated_of, undecided, with_asker}
use Rattle.coordinator.specs.TwoPhase.{decided_by, is_last_ack}
use Rattle.participant.specs.declared.said.Said.{Said}
use Rattle.participant.specs.declared.said.Said.TheVariants.{Did, Blocked, Refused, Late}
use Rattle.participant.specs.Part.{Part, session, elsewhere}
use Rattle.participant.specs.Statement.{statement}
use Rattle.participant.specs.Decide.{decide}
use Rattle.participant.specs.Memory.{ended_for_memory}
use Rattle.participant.proofs.Cases.{either}
use Rattle.participant.proofs.Following.{either_is}
use Rattle.shard_image.specs.Image.{Image}
use Rattle.shard_image.specs.Sound.{IsWritten}
use Rattle.shard_core.specs.State.{ShardState, with_part, with_last, read_at_of}
use Rattle.shard_core.specs.Ruled.{Ruled, coordinates}
use Rattle.shard_core.specs.Participating.{answers, decided_record}
use Rattle.shard_core.specs.Coordinating.{asks, unless_coordinated, unless_older, unless_known}
use Rattle.shard_core.specs.Coordinating.{larger_number, plan_of, starts_own, starts_new, votes_on}
use Rattle.shard_core.specs.Coordinating.{votes_if, acks_if, on_commit_two, on_recover, recovers}
use Rattle.shard_core.specs.Rules.{ruled, from_router, router_of}
use Rattle.shard_core.specs.Wanting.{Wanting, told_memory}
use Rattle.shard_core.specs.Durable.{plans_of}
use Rattle.durable_laws.proofs.Holding.{behind, Left, Backs}
use Rattle.durable_laws.proofs.Coordinated.{plans_put, plans_out, plans_same, rises_with}
use Rattle.durable_laws.proofs.Coordinated.{vote_leaves, vote_decides, record_decides, rises_voted}
use Rattle.durable_laws.proofs.Coordinated.{rises_acked, last_ack, other_ack}
use Rattle.durable_laws.proofs.Ends.{abort_left}
use Rattle.durable_laws.proofs.Stating.{statement_left}
use Rattle.durable_laws.proofs.Events.{abort_kept, recover_kept, memory_kept, decide_kept}
use Rattle.durable_laws.proofs.Events.{commit_kept, prepare_kept}

-- the core that a rule leaves, with its record
abbrev pub BacksRuled : Image → Ruled → Type 0
BacksRuled i r = Backs (behind i r.rec) r.core × IfSome r.rec IsWritten

-- with another part
pub with_left : (i : Image) (s : ShardState) (q : Part) (r : Option Rec) → Backs i s
    → Left i q s.clock.last r → Backs (behind i r) (with_part s q) × IfSome r IsWritten
with_left i s q r b left = (
  record {
    whole = left.whole;
    holds = left.holds;
    ceiling = left.ceiling ∙ b.ceiling;
    rises = b.rises;
    plans = ap plans_of left.coord ∙ b.plans;
  },
  left.written,
)

with_later : (i : Image) (s : ShardState) (q : Part) (later : ℕ) (r : Option Rec) → Backs i s
    → Left i q later r → Backs (behind i r) (with_last (with_part s q) later) × IfSome r IsWritten
with_later i s q later r b left = (
  record {
    whole = left.whole;
    holds = left.holds;
    ceiling = left.ceiling ∙ b.ceiling;
    rises = b.rises;
    plans = ap plans_of left.coord ∙ b.plans;
  },
  left.written,
)

answers_backed : (i : Image) (s : ShardState) (to : NodeId) (m : Statement) (said : Said)
    → Backs i s × Unit {0} → BacksRuled i (answers s to m said)
answers_backed i s to m (Did read_at reply wrote) b = b
answers_backed i s to m (Blocked held) b = b
answers_backed i s to m (Refused why read_at) b = b
answers_backed i s to m Late b = b

module _ (i : Image) (s : ShardState) (b : Backs i s) where
  -- nothing changes
  ok : Backs i s × Unit {0}
  ok = (b, tt)

  asks_backed : (router : ℕ) (tag : Tag) (c : Coordinated) (d : Option Decision)
      → coordinated_of s.coord tag ≡ Some c → c.decision ≡ d → BacksRuled i (asks s router tag c d)
  asks_backed router tag c None there is = (
    record {
      whole = b.whole;
      holds = b.holds;
      ceiling = b.ceiling;
      rises = rises_with tag (with_asker router c) s.coord b.rises;
      plans = b.plans ∙ sym (plans_same tag c (with_asker router c) s.coord b.rises there refl);
    },
    tt,
  )
  asks_backed router tag c (Some d) there is = ok

  coordinated_backed : (router : ℕ) (tag : Tag) (c : Option Coordinated) (other : Ruled)
      → coordinated_of s.coord tag ≡ c → BacksRuled i other
      → BacksRuled i (unless_coordinated s router tag c other)
  coordinated_backed router tag None other is h = h
  coordinated_backed router tag (Some c) other is h = asks_backed router tag c c.decision is refl

  older_backed : (router : ℕ) (tag : Tag) (have : Option ℤ) (other : Ruled) → BacksRuled i other
      → BacksRuled i (unless_older s router tag have other)
  older_backed router tag None other h = h
  older_backed router tag (Some have) other h = ok

  known_backed : (router : ℕ) (tag : Tag) (own : Option Session) (number : ℤ) (other : Ruled)
      → BacksRuled i other → BacksRuled i (unless_known s router tag own number other)
  known_backed router tag own number other h =
      older_backed router tag (larger_number own number)
      (unless_coordinated s router tag (coordinated_of s.coord tag) other)
      (coordinated_backed router tag (coordinated_of s.coord tag) other refl h)

  starts_own_backed : (router : ℕ) (m : CommitTwo) (own : Session) (st : SessionState)
      → own.state ≡ st → session s.part m.lsid ≡ Some own
      → BacksRuled i (starts_own s router m own st)
  starts_own_backed router m own state.Live is there =
      either (nat_eq m.boot s.part.boot) (BacksRuled i) _ _ (
        record {
          whole = b.whole;
          holds = record {
            boot = b.holds.boot;
            store = b.holds.store;
            pending = b.holds.pending;
            sessions = b.holds.sessions;
            recorded = b.holds.recorded;
          };
          ceiling = b.ceiling;
          rises = rises_with m.tag (with_asker router (undecided (plan_of m))) s.coord b.rises;
          plans = plans_put m.tag (undecided (plan_of m)) i.coord
              ∙ ap (put tag_cmp m.tag (plan_of m, None)) b.plans
              ∙ sym (plans_put m.tag (with_asker router (undecided (plan_of m))) s.coord);
        },
        tt,
      )
      (with_left i s _ None b (abort_left i s.part s.clock.last m.lsid own b.whole b.holds there is
      (cause.Unavailable m.boot s.part.boot)))
  starts_own_backed router m own (state.Prepared at coordinator) is there = ok
  starts_own_backed router m own (state.Committed at) is there = ok
  starts_own_backed router m own state.Released is there = ok
  starts_own_backed router m own (state.Aborted why read_at) is there = ok

  starts_new_backed : (router : ℕ) (m : CommitTwo) (own : Option Session)
      → session s.part m.lsid ≡ own → BacksRuled i (starts_new s router m own)
  starts_new_backed router m None is = ok
  starts_new_backed router m (Some own) is = either (same_tag own.tag m.tag) (BacksRuled i) _ _
      (starts_own_backed router m own own.state refl is) ok

  votes_on_backed : (m : Vote) (c : Coordinated) (d : Option Decision)
      → coordinated_of s.coord m.tag ≡ Some c → decided_by m.shard m.vote c ≡ d
      → BacksRuled i (votes_on s m c d)
  votes_on_backed m c None there is = (
    record {
      whole = b.whole;
      holds = b.holds;
      ceiling = b.ceiling;
      rises = rises_voted m.tag m.shard m.vote c s.coord b.rises;
      plans = b.plans ∙ sym (vote_leaves m.tag m.shard m.vote c s.coord b.rises there is);
    },
    tt,
  )
  votes_on_backed m c (Some d) there is = (
    record {
      whole = b.whole;
      holds = record {
        boot = b.holds.boot;
        store = b.holds.store;
        pending = b.holds.pending;
        sessions = b.holds.sessions;
        recorded = b.holds.recorded;
      };
      ceiling = b.ceiling;
      rises = rises_voted m.tag m.shard m.vote c s.coord b.rises;
      plans = record_decides m.tag d c i.coord s.coord b.plans there
          ∙ sym (vote_decides m.tag m.shard m.vote c s.coord d is);
    },
    tt,
  )

  votes_backed : (m : Vote) (c : Option Coordinated) → coordinated_of s.coord m.tag ≡ c
      → BacksRuled i (votes_if s m c)
  votes_backed m None is = ok
  votes_backed m (Some c) is = votes_on_backed m c (decided_by m.shard m.vote c) is refl

  ack_case : (m : Acked) (c : Coordinated) (last : Bool) → coordinated_of s.coord m.tag ≡ Some c
      → is_last_ack m.shard c ≡ last → (let q : ShardState = (acks_if s m (Some c)).core in
      Backs (behind i (if last then Some (rec.CoordEnd m.tag) else None)) q
      × IfSome (if last then Some (rec.CoordEnd m.tag) else None) IsWritten)
  ack_case m c true there is = (
    record {
      whole = b.whole;
      holds = record {
        boot = b.holds.boot;
        store = b.holds.store;
        pending = b.holds.pending;
        sessions = b.holds.sessions;
        recorded = b.holds.recorded;
      };
      ceiling = b.ceiling;
      rises = rises_acked m.tag m.shard c s.coord b.rises;
      plans = plans_out m.tag i.coord ∙ ap (taken_out tag_cmp m.tag) b.plans
          ∙ sym (last_ack m.tag m.shard c s.coord is);
    },
    tt,
  )
  ack_case m c false there is = (
    record {
      whole = b.whole;
      holds = b.holds;
      ceiling = b.ceiling;
      rises = rises_acked m.tag m.shard c s.coord b.rises;
      plans = b.plans ∙ sym (other_ack m.tag m.shard c s.coord b.rises there is);
    },
    tt,
  )

  acks_backed : (m : Acked) (c : Option Coordinated) → coordinated_of s.coord m.tag ≡ c
      → BacksRuled i (acks_if s m c)
  acks_backed m None is = ok
  acks_backed m (Some c) is = ack_case m c (is_last_ack m.shard c) is refl

  router_backed : (rule : ℕ → Ruled) (router : Option ℕ) → ((n : ℕ) → BacksRuled i (rule n))
      → BacksRuled i (from_router s rule router)
  router_backed rule None h = ok
  router_backed rule (Some router) h = h router

  -- Each message.

  pub ruled_backed : (from : NodeId) (m : Msg) → read_at_of m ≤ s.clock.last
      → BacksRuled i (ruled s from m)
  ruled_backed from (msg.Statement m) reads =
      let turn = statement s.part s.clock.last s.wall m in
      either_is (elsewhere s.part m.lsid m.tag) (BacksRuled i) _ _ (λ other. ok)
      (λ once. answers_backed i (with_part s turn.1) from m turn.0 (with_left i s turn.1 None b
      (statement_left i s.part s.clock.last s.wall m b.whole b.holds once reads)))
  ruled_backed from (msg.Answer m) reads = ok
  ruled_backed from (msg.Commit m) reads =
      with_later i s _ _ _ b (commit_kept i s.part s.clock.last b.whole b.holds s.wall m)
  ruled_backed from (msg.Outcome m) reads = ok
  ruled_backed from (msg.Abort m) reads = either (coordinates s m.tag) (BacksRuled i) _ _ ok
      (with_left i s _ None b (abort_kept i s.part s.clock.last b.whole b.holds m))
  ruled_backed from (msg.CommitTwo m) reads =
      router_backed (λ router. on_commit_two s router m) (router_of from)
      (λ router. known_backed router m.tag (session s.part m.lsid) m.number _
      (starts_new_backed router m (session s.part m.lsid) refl))
  ruled_backed from (msg.Prepare m) reads =
      with_later i s _ _ _ b (prepare_kept i s.part s.clock.last b.whole b.holds s.wall m)
  ruled_backed from (msg.Vote m) reads = votes_backed m (coordinated_of s.coord m.tag) refl
  ruled_backed from (msg.Decide m) reads = with_left i s (decide s.part m).1
      (decided_record (decide s.part m).0) b (decide_kept i s.part s.clock.last b.whole b.holds m)
  ruled_backed from (msg.Acked m) reads = acks_backed m (coordinated_of s.coord m.tag) refl
  ruled_backed from (msg.Recover m) reads =
      router_backed (λ router. on_recover s router m) (router_of from)
      (λ router. known_backed router m.tag (session s.part m.lsid) m.number (recovers s router m)
      (with_left i s _ None b (recover_kept i s.part s.clock.last b.whole b.holds m)))
  ruled_backed from msg.Nudge reads = ok

  -- Want of memory.

  pub told_backed : (w : Wanting) → BacksRuled i (told_memory s w)
  told_backed w = with_left i s (ended_for_memory s.part w.lsid w.tag) None b (memory_kept i s.part
      s.clock.last b.whole b.holds w.lsid w.tag)
