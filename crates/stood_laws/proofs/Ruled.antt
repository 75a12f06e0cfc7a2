-- What stands where a rule makes a cause, on one shard.
use Rattle.std.proofs.Common.{◌≡◌, inl, inr, ℕ, List, true, subst, sym}
use Rattle.txn_types.specs.declared.cause.Cause.{Cause}
use Rattle.txn_types.specs.declared.names.Tag.{Tag}
use Rattle.chunk_map.specs.Map.{Map}
use Rattle.txn_model.specs.declared.ran.Ran.{Ran}
use Rattle.cluster_core.specs.Causes.{Making, IsMade, Stood, HasFailed}
use Rattle.cluster_core.specs.Nodes.{Nodes}
use Rattle.cluster_core.specs.Trace.{IsTrace}
use Rattle.one_shard_laws.specs.Concluding.{StartsAlone}
use Rattle.making_laws.specs.News.{IsNew}
use Rattle.cluster_core.specs.Right.{past_of}
use Rattle.stood_laws.specs.Ruled.{is_ruled}
use Rattle.stood_laws.proofs.Places.{has_failed}
use Rattle.stood_laws.proofs.Rules.{wall_stood, rule_stood}
use Rattle.stood_laws.proofs.Standing.{Origin, ByFault, has_run, origin}

pub fault_stood : (chunks : Map) (start : Nodes) (run : List Ran) (trace : List Nodes)
    (now : Nodes) → StartsAlone chunks start → IsTrace start run trace now → (within shard : ℕ)
    (tag : Tag) (why : Cause) (m : Making)
    → IsMade (past_of chunks start run trace now) within shard tag why m → ByFault m why
    → Stood (past_of chunks start run trace now) m why
fault_stood chunks start run trace now alone is within shard tag why m made h =
    let past = past_of chunks start run trace now in
    let failed : HasFailed run shard m.place h.0 =
    has_failed chunks start run trace now alone.fresh is m.place made.nodes shard h.0
    made.at.before m.event m.answer made.faults made.at.step m.before made.before h.1 in
    subst (Stood past m) (sym h.2)
    (subst (λ (n : ℕ). HasFailed run n m.place h.0) (sym made.there) failed)

pub ruled_stood : (chunks : Map) (start : Nodes) (run : List Ran) (trace : List Nodes)
    (now : Nodes) → StartsAlone chunks start → IsTrace start run trace now → (within shard : ℕ)
    (tag : Tag) (why : Cause) (m : Making)
    → IsMade (past_of chunks start run trace now) within shard tag why m → IsNew m why
    → is_ruled why ≡ true → Stood (past_of chunks start run trace now) m why
ruled_stood chunks start run trace now alone is within shard tag why m made new ruled =
    by_origin (origin chunks start run trace now alone is within shard tag why m made new)
  where
    by_origin : Origin m why → Stood (past_of chunks start run trace now) m why
    by_origin (inl memory) =
        subst (Stood (past_of chunks start run trace now) m) (sym memory) tt
    by_origin (inr (inl fault)) =
        fault_stood chunks start run trace now alone is within shard tag why m made fault
    by_origin (inr (inr (runs, inl old))) =
        wall_stood (past_of chunks start run trace now) m why old
    by_origin (inr (inr (runs, inr rule))) =
        let lasts = (has_run chunks start run trace now alone is within shard tag why m made
        runs).1 in
        rule_stood (past_of chunks start run trace now) m why ruled lasts.holds.rises rule
