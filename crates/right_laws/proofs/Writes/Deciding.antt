-- On one shard what is told of transactions is one decision of each, and agrees with the list of
-- commits.
use Rattle.std.proofs.Common.{◌≡◌, false, List, subst}
use Rattle.txn_types.specs.declared.names.Tag.{Tag}
use Rattle.txn_semantics.specs.Answers.{began}
use Rattle.chunk_map.specs.Map.{Map, IsMap}
use Rattle.txn_model.specs.Commits.{has_entry}
use Rattle.txn_model.specs.declared.ran.Ran.{Ran}
use Rattle.cluster_core.specs.Deciding.{OneDecision, TokensGiven}
use Rattle.cluster_core.specs.Ledger.{answered_in}
use Rattle.cluster_core.specs.Nodes.{Nodes, commits_of}
use Rattle.cluster_core.specs.Right.{boots_of}
use Rattle.cluster_core.specs.Telling.{told_in}
use Rattle.cluster_core.specs.Trace.{IsTrace}
use Rattle.one_shard_laws.specs.Concluding.{StartsAlone}
use Rattle.decision_laws.proofs.Excluding.{aborted_excludes}
use Rattle.decision_laws.proofs.Released.{released_wrote_nothing}
use Rattle.right_laws.proofs.Tokens.Agreeing.{recovers_agree}
use Rattle.right_laws.proofs.Tokens.Coming.{recovers_come}
use Rattle.right_laws.specs.Grounds.{WasToldAborted}
use Rattle.right_laws.proofs.Tellings.Agreeing.{one_decision}
use Rattle.right_laws.proofs.Writes.Writeless.{writeless}

-- where tokens are handed back as they were told
pub one_decided : (chunks : Map) (start : Nodes) (run : List Ran) (trace : List Nodes)
    (now : Nodes) → IsMap chunks → StartsAlone chunks start → IsTrace start run trace now
    → TokensGiven start.routers run
    → OneDecision (began (boots_of start.routers)) run (commits_of now)
    (answered_in start.routers run) (told_in start.routers run)
one_decided chunks start run trace now is h k given =
    one_decision chunks is start h run trace now k aborted
    (released_wrote_nothing chunks start run trace now is h k)
    (writeless chunks is start h now run trace k)
  where
    aborted : (tag : Tag) → WasToldAborted now.sent tag → has_entry (commits_of now) tag ≡ false
    aborted tag w =
        subst (λ (x : Tag). has_entry (commits_of now) x ≡ false) w.of
        (aborted_excludes chunks start run trace now is h k
        (recovers_agree chunks start run trace now is h k given)
        (recovers_come chunks start run trace now is h k given) w.envelope w.outcome w.cause w.among
        w.msg w.told)
