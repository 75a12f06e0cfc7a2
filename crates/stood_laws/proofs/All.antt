-- What stands at makings, cause by cause, taken together.
use Rattle.std.proofs.Common.{◌≡◌, ℕ, List, true, refl}
use Rattle.txn_types.specs.declared.cause.By.TheVariants as by
use Rattle.txn_types.specs.declared.cause.Cause.{Cause}
use Rattle.txn_types.specs.declared.cause.Cause.TheVariants as cause
use Rattle.txn_types.specs.declared.names.Tag.{Tag}
use Rattle.chunk_map.specs.Map.{Map, IsMap}
use Rattle.txn_model.specs.declared.ran.Ran.{Ran}
use Rattle.cluster_core.specs.Causes.{Making, IsMade, Stood}
use Rattle.cluster_core.specs.Nodes.{Nodes}
use Rattle.cluster_core.specs.Trace.{IsTrace}
use Rattle.one_shard_laws.specs.Concluding.{StartsAlone}
use Rattle.making_laws.specs.News.{IsNew}
use Rattle.cluster_core.specs.Right.{past_of}
use Rattle.stood_laws.specs.Ruled.{is_shown, RecoversEarlier}
use Rattle.stood_laws.proofs.Conflicting.{conflict_stood}
use Rattle.stood_laws.proofs.Earlier.{unavailable_stood}
use Rattle.stood_laws.proofs.Meanings.{refusal_stood, large_stood}
use Rattle.stood_laws.proofs.Ruled.{ruled_stood}

module _ (chunks : Map) (start : Nodes) (run : List Ran) (trace : List Nodes) (now : Nodes)
    (map : IsMap chunks) (alone : StartsAlone chunks start) (is : IsTrace start run trace now)
    (within shard : ℕ) (tag : Tag) (m : Making) (earlier : RecoversEarlier m) where
  pub all_stood : (why : Cause) → IsMade (past_of chunks start run trace now) within shard tag why m
      → IsNew m why → is_shown why ≡ true → Stood (past_of chunks start run trace now) m why
  all_stood (cause.WriteConflict id (by.At time)) made new shown =
      conflict_stood chunks start run trace now alone is within shard tag id time m made new
  all_stood (cause.WriteConflict id (by.Tag other)) made new shown =
      ruled_stood chunks start run trace now alone is within shard tag
      (cause.WriteConflict id (by.Tag other)) m made new refl
  all_stood (cause.Unavailable carried have) made new shown =
      unavailable_stood chunks start run trace now map alone is within shard tag carried have m made
      new earlier
  all_stood (cause.Expired begun time) made new shown =
      ruled_stood chunks start run trace now alone is within shard tag (cause.Expired begun time) m
      made new refl
  all_stood (cause.Faulted faults) made new shown =
      ruled_stood chunks start run trace now alone is within shard tag (cause.Faulted faults) m made
      new refl
  all_stood (cause.Replaced number other) made new shown =
      ruled_stood chunks start run trace now alone is within shard tag
      (cause.Replaced number other) m made new refl
  all_stood (cause.ClockEnd last) made new shown =
      ruled_stood chunks start run trace now alone is within shard tag (cause.ClockEnd last) m made
      new refl
  all_stood (cause.PreparedStands other) made new shown =
      ruled_stood chunks start run trace now alone is within shard tag
      (cause.PreparedStands other) m made new refl
  all_stood cause.TooManySessions made new shown =
      ruled_stood chunks start run trace now alone is within shard tag cause.TooManySessions m made
      new refl
  all_stood (cause.Voted from code) made new shown =
      ruled_stood chunks start run trace now alone is within shard tag (cause.Voted from code) m
      made new refl
  all_stood (cause.SnapshotTooOld at floor) made new shown =
      ruled_stood chunks start run trace now alone is within shard tag
      (cause.SnapshotTooOld at floor) m made new refl
  all_stood cause.Memory made new shown = tt
  all_stood (cause.Statement err) made new shown =
      refusal_stood chunks start run trace now map alone is within shard tag m err made new
  all_stood (cause.Volume bytes) made new shown =
      large_stood chunks start run trace now map alone is within shard tag m bytes made new
  all_stood (cause.ClientAbort reason) made new shown = cc
