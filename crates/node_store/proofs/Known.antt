-- What a live transaction has written stays within its volume.
use Rattle.std.proofs.Common.{◌≤◌, Bool, true, false, List, [], ◌∷◌, find, Option, Some, option_map}
use Rattle.std.proofs.Common.{if◌then◌else◌, arith}
use Rattle.txn_types.specs.BySession.{entry_of}
use Rattle.txn_types.specs.Order.{same_lsid}
use Rattle.txn_types.specs.declared.node.Lsid.{Lsid}
use Rattle.journal_rec.specs.Volume.{volume}
use Rattle.participant.specs.declared.said.Open.{Open}
use Rattle.participant.specs.Part.{Part, open_of}
use Rattle.participant.specs.Statement.{own_of, most_bytes}
use Rattle.shard_core.specs.Carrying.{AreWithin, IsBounded}

within_case : (entry : Lsid × Open) (found : Option (Lsid × Open)) (b : Bool)
    → volume entry.1.writes ≤ most_bytes
    → volume (own_of (option_map (λ e. e.1) found)) ≤ most_bytes
    → volume (own_of (option_map (λ e. e.1) (if b then Some entry else found))) ≤ most_bytes
within_case entry found true first more = first
within_case entry found false first more = more

no_writes : volume [] ≤ most_bytes
unfolding volume
no_writes = omega arith

within_found : (lsid : Lsid) (live : List (Lsid × Open)) → AreWithin live
    → volume (own_of (entry_of lsid live)) ≤ most_bytes
within_found lsid [] within = no_writes
within_found lsid (entry ∷ live) within = within_case entry (find (λ e. same_lsid lsid e.0) live)
    (same_lsid lsid entry.0) within.0 (within_found lsid live within.1)

pub own_within : (p : Part) (lsid : Lsid) → IsBounded p
    → volume (own_of (open_of p lsid)) ≤ most_bytes
own_within p lsid b = within_found lsid p.live b.within
