-- On one shard, a write conflict with a time has its commit.
use Rattle.std.proofs.Common.{◌≡◌, inl, inr, ℕ, List, [], ◌∷◌, map, Contains, None, refl, ap, subst}
use Rattle.std.proofs.Common.{sym}
use Rattle.txn_types.specs.declared.cause.By.TheVariants as by
use Rattle.txn_types.specs.declared.cause.Cause.{Cause}
use Rattle.txn_types.specs.declared.cause.Cause.TheVariants as cause
use Rattle.txn_types.specs.declared.event.Happening.TheVariants as what
use Rattle.txn_types.specs.declared.id.Id.{Id}
use Rattle.txn_types.specs.declared.message.Envelope.{Envelope}
use Rattle.txn_types.specs.declared.message.Msg.{Msg}
use Rattle.txn_types.specs.declared.message.Msg.TheVariants as msg
use Rattle.txn_types.specs.declared.names.Tag.{Tag}
use Rattle.txn_types.specs.declared.node.NodeId.TheVariants.{Shard}
use Rattle.txn_semantics.specs.declared.commits.Entry.{Entry}
use Rattle.shard_core.specs.Core.{entered}
use Rattle.shard_core.specs.NodeStep.{NodeState}
use Rattle.shard_core.specs.State.{met}
use Rattle.chunk_map.specs.Map.{Map}
use Rattle.txn_model.specs.Commits.{Journals, commits}
use Rattle.txn_model.specs.declared.ran.Ran.{Ran}
use Rattle.txn_model.specs.declared.ran.Ran.TheVariants.{Step}
use Rattle.cluster_core.specs.Causes.{Making, IsMade, Stood}
use Rattle.cluster_core.specs.Nodes.{Nodes, commits_of}
use Rattle.cluster_core.specs.Trace.{IsTrace}
use Rattle.one_shard_laws.specs.Lasting.{WasNamed, HasRun}
use Rattle.one_shard_laws.specs.Concluding.{StartsAlone}
use Rattle.stood_laws.specs.Because.{MsgBecause}
use Rattle.making_laws.specs.News.{IsNew}
use Rattle.cluster_core.specs.Right.{past_of}
use Rattle.stood_laws.proofs.Stamps.{IsCommitOf, store_commits, expire_each}
use Rattle.stood_laws.proofs.Standing.{Origin, IsOfMaking, origin, has_run, one, world, step}
use Rattle.stood_laws.proofs.Standing.{at_first}
use Rattle.stood_laws.proofs.Times.{GoesOn, recs_go, time_stood}

module _ (chunks : Map) (start : Nodes) (run : List Ran) (trace : List Nodes) (now : Nodes)
    (alone : StartsAlone chunks start) (is : IsTrace start run trace now) (within shard : ℕ)
    (tag : Tag) (why : Cause) (m : Making)
    (made : IsMade (past_of chunks start run trace now) within shard tag why m)
    (runs : m.before.core.stopped ≡ None) where
  -- the records of the step's shard are among those of the end
  going : GoesOn m.before.records now
  going =
      let s = step chunks start run trace now alone is within shard tag why m made in
      let o = one chunks start run trace now alone is within shard tag why m made in
      let first : m.before ≡ o.node =
      (at_first chunks start run trace now alone is within shard tag why m made).1 in
      recs_go m.before.records made.nodes
      (Step (Shard shard) m.event m.answer s.faults ∷ s.after_run) (made.nodes ∷ s.after_trace) now
      (refl, (made.next, s.steps, s.goes))
      (world chunks start run trace now alone is within shard tag why m made) o (
        o.node,
        o.shards,
        λ r there. subst (λ (n : NodeState). Contains n.records r) first there,
      )

  ends : (e : Entry) → Contains (commits (going.0.records ∷ [])) e → Contains (commits_of now) e
  ends e there =
      subst (λ (j : Journals). Contains (commits j) e)
      (sym (ap (λ (shards : List NodeState). map (λ (n : NodeState). n.records) shards) going.1))
      there

  ran : HasRun made.nodes.sent m.before.core m.before.records m.before.hand
  ran = has_run chunks start run trace now alone is within shard tag why m made runs

  pub by_msg : (d : Envelope) → m.event.what ≡ what.Deliver d → (x : Msg) → d.msg ≡ x
      → IsOfMaking m x → (id : Id) (time : ℕ)
      → MsgBecause (met (entered m.before.core m.event) d) x (cause.WriteConflict id (by.At time))
      → Stood (past_of chunks start run trace now) m (cause.WriteConflict id (by.At time))
  by_msg d there (msg.Statement x) at of id time h =
      time_stood m d there x at of.0 of.1 (past_of chunks start run trace now) going.0.records id
      time
      (expire_each (IsCommitOf m.before.records) m.before.core.part
      (met (entered m.before.core m.event) d).wall
      (store_commits (WasNamed made.nodes.sent) m.before.records m.before.core.part.store
      ran.1.alone.records ran.1.backed.durable.store))
      going.2 ends h
  by_msg d there (msg.Commit x) at of id time h = absurd h
  by_msg d there (msg.Recover x) at of id time h = absurd h
  by_msg d there (msg.Abort x) at of id time h = cc
  by_msg d there (msg.Answer x) at of id time h = absurd h
  by_msg d there (msg.Outcome x) at of id time h = absurd h
  by_msg d there (msg.CommitTwo x) at of id time h = absurd h
  by_msg d there (msg.Prepare x) at of id time h = absurd h
  by_msg d there (msg.Vote x) at of id time h = absurd h
  by_msg d there (msg.Decide x) at of id time h = absurd h
  by_msg d there (msg.Acked x) at of id time h = absurd h
  by_msg d there msg.Nudge at of id time h = absurd h

pub conflict_stood : (chunks : Map) (start : Nodes) (run : List Ran) (trace : List Nodes)
    (now : Nodes) → StartsAlone chunks start → IsTrace start run trace now
    → (within shard : ℕ) (tag : Tag) (id : Id) (time : ℕ) (m : Making)
    → IsMade (past_of chunks start run trace now) within shard tag
    (cause.WriteConflict id (by.At time)) m → IsNew m (cause.WriteConflict id (by.At time))
    → Stood (past_of chunks start run trace now) m (cause.WriteConflict id (by.At time))
conflict_stood chunks start run trace now alone is within shard tag id time m made new =
    by_origin (origin chunks start run trace now alone is within shard tag
    (cause.WriteConflict id (by.At time)) m made new)
  where
    by_origin : Origin m (cause.WriteConflict id (by.At time))
        → Stood (past_of chunks start run trace now) m (cause.WriteConflict id (by.At time))
    by_origin (inl memory) = cc
    by_origin (inr (inl fault)) = absurd (not_fault fault.0 fault.2)
      where
        not_fault : (faults : ℕ) → cause.WriteConflict id (by.At time) ≡ cause.Faulted faults → ⊥
        not_fault faults h = cc
    by_origin (inr (inr (runs, inl old))) = absurd old
    by_origin (inr (inr (runs, inr rule))) =
        by_msg chunks start run trace now alone is within shard tag
        (cause.WriteConflict id (by.At time)) m made runs rule.0 rule.1 rule.0.msg refl rule.2 id
        time rule.3
