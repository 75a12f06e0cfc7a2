-- On one shard a statement's own meaning stands where it makes a cause, and so do the bytes of what
-- it writes.
use Rattle.std.proofs.Common.{◌≡◌, inl, inr, ℕ, List, refl}
use Rattle.txn_types.specs.declared.cause.Cause.TheVariants as cause
use Rattle.txn_types.specs.declared.event.Happening.TheVariants as what
use Rattle.txn_types.specs.declared.message.Envelope.{Envelope}
use Rattle.txn_types.specs.declared.message.Msg.{Msg}
use Rattle.txn_types.specs.declared.message.Msg.TheVariants as msg
use Rattle.txn_types.specs.declared.names.Tag.{Tag}
use Rattle.txn_types.specs.declared.operation.OpErr.{OpErr}
use Rattle.chunk_map.specs.Map.{Map, IsMap}
use Rattle.shard_core.specs.Core.{entered}
use Rattle.shard_core.specs.State.{met}
use Rattle.std.proofs.Common.{None}
use Rattle.txn_model.specs.declared.ran.Ran.{Ran}
use Rattle.cluster_core.specs.Causes.{Making, IsMade, Stood}
use Rattle.cluster_core.specs.Nodes.{Nodes}
use Rattle.cluster_core.specs.Right.{past_of}
use Rattle.cluster_core.specs.Trace.{IsTrace}
use Rattle.one_shard_laws.specs.Concluding.{StartsAlone}
use Rattle.making_laws.specs.News.{IsNew}
use Rattle.stood_laws.specs.Because.{MsgBecause}
use Rattle.stood_laws.proofs.Meant.{statement_stood, volume_stood}
use Rattle.stood_laws.proofs.Standing.{Origin, IsOfMaking, origin}

module _ (chunks : Map) (start : Nodes) (run : List Ran) (trace : List Nodes) (now : Nodes)
    (map : IsMap chunks) (alone : StartsAlone chunks start) (is : IsTrace start run trace now)
    (within shard : ℕ) (tag : Tag) (m : Making) where
  -- refused by its meaning
  module _ (err : OpErr)
      (made : IsMade (past_of chunks start run trace now) within shard tag (cause.Statement err) m)
      (new : IsNew m (cause.Statement err)) where
    abbrev Refused : Type 0
    Refused = Stood (past_of chunks start run trace now) m (cause.Statement err)

    by_refusal : m.before.core.stopped ≡ None → (d : Envelope) → m.event.what ≡ what.Deliver d
        → (x : Msg) → d.msg ≡ x → IsOfMaking m x
        → MsgBecause (met (entered m.before.core m.event) d) x (cause.Statement err) → Refused
    by_refusal runs d there (msg.Statement x) at of h =
        statement_stood chunks start run trace now map alone is within shard tag
        (cause.Statement err) m made runs d there x at of new err h
    by_refusal runs d there (msg.Commit x) at of h = absurd h
    by_refusal runs d there (msg.Recover x) at of h = absurd h
    by_refusal runs d there (msg.Abort x) at of h = cc
    by_refusal runs d there (msg.Answer x) at of h = absurd h
    by_refusal runs d there (msg.Outcome x) at of h = absurd h
    by_refusal runs d there (msg.CommitTwo x) at of h = absurd h
    by_refusal runs d there (msg.Prepare x) at of h = absurd h
    by_refusal runs d there (msg.Vote x) at of h = absurd h
    by_refusal runs d there (msg.Decide x) at of h = absurd h
    by_refusal runs d there (msg.Acked x) at of h = absurd h
    by_refusal runs d there msg.Nudge at of h = absurd h

    pub refusal_stood : Refused
    refusal_stood =
        by_origin (origin chunks start run trace now alone is within shard tag
        (cause.Statement err) m made new)
      where
        not_fault : (faults : ℕ) → cause.Statement err ≡ cause.Faulted faults → ⊥
        not_fault faults h = cc

        by_origin : Origin m (cause.Statement err) → Refused
        by_origin (inl memory) = cc
        by_origin (inr (inl fault)) = absurd (not_fault fault.0 fault.2)
        by_origin (inr (inr (runs, inl old))) = absurd old
        by_origin (inr (inr (runs, inr rule))) =
            by_refusal runs rule.0 rule.1 rule.0.msg refl rule.2 rule.3

  -- too many bytes
  module _ (bytes : ℕ)
      (made : IsMade (past_of chunks start run trace now) within shard tag (cause.Volume bytes) m)
      (new : IsNew m (cause.Volume bytes)) where
    abbrev Large : Type 0
    Large = Stood (past_of chunks start run trace now) m (cause.Volume bytes)

    by_volume : m.before.core.stopped ≡ None → (d : Envelope) → m.event.what ≡ what.Deliver d
        → (x : Msg) → d.msg ≡ x → IsOfMaking m x
        → MsgBecause (met (entered m.before.core m.event) d) x (cause.Volume bytes) → Large
    by_volume runs d there (msg.Statement x) at of h =
        volume_stood chunks start run trace now map alone is within shard tag
        (cause.Volume bytes) m made runs d there x at of new bytes h
    by_volume runs d there (msg.Commit x) at of h = absurd h
    by_volume runs d there (msg.Recover x) at of h = absurd h
    by_volume runs d there (msg.Abort x) at of h = cc
    by_volume runs d there (msg.Answer x) at of h = absurd h
    by_volume runs d there (msg.Outcome x) at of h = absurd h
    by_volume runs d there (msg.CommitTwo x) at of h = absurd h
    by_volume runs d there (msg.Prepare x) at of h = absurd h
    by_volume runs d there (msg.Vote x) at of h = absurd h
    by_volume runs d there (msg.Decide x) at of h = absurd h
    by_volume runs d there (msg.Acked x) at of h = absurd h
    by_volume runs d there msg.Nudge at of h = absurd h

    pub large_stood : Large
    large_stood =
        by_origin (origin chunks start run trace now alone is within shard tag
        (cause.Volume bytes) m made new)
      where
        not_fault : (faults : ℕ) → cause.Volume bytes ≡ cause.Faulted faults → ⊥
        not_fault faults h = cc

        by_origin : Origin m (cause.Volume bytes) → Large
        by_origin (inl memory) = cc
        by_origin (inr (inl fault)) = absurd (not_fault fault.0 fault.2)
        by_origin (inr (inr (runs, inl old))) = absurd old
        by_origin (inr (inr (runs, inr rule))) =
            by_volume runs rule.0 rule.1 rule.0.msg refl rule.2 rule.3
