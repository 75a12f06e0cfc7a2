-- A request to recover a transaction names the boot that each request to commit it names.
use Rattle.std.proofs.Common.{◌∷◌, ◌++◌, All, List, [], sym, subst}
use Rattle.std.proofs.lemmas.List.Elements.{All-contains, Contains-append_right}
use Rattle.txn_types.specs.declared.message.Envelope.{Envelope}
use Rattle.txn_types.specs.declared.message.Recover.{Recover}
use Rattle.txn_semantics.specs.declared.commits.Answered.{Answered}
use Rattle.chunk_map.specs.Map.{Map, IsMap}
use Rattle.txn_model.specs.declared.ran.Ran.{Ran}
use Rattle.cluster_core.specs.Deciding.{TokensGiven}
use Rattle.cluster_core.specs.Nodes.{Nodes}
use Rattle.cluster_core.specs.Trace.{IsTrace}
use Rattle.answer_laws.proofs.Lists.{has_first}
use Rattle.one_shard_laws.specs.Concluding.{StartsAlone}
use Rattle.decision_laws.specs.Recovering.{RecoversAgree, WasSought}
use Rattle.right_laws.proofs.Tokens.Deeds.{AskOk}
use Rattle.right_laws.proofs.Tokens.Named.{Known}
use Rattle.right_laws.proofs.Tokens.Running.{IsReached, all_reached}

pub sought_known : (nodes : Nodes) (told : List Answered)
    → All (λ (e : Envelope). AskOk (Known nodes told) e.msg) nodes.sent → (x : Recover)
    → WasSought nodes.sent x → Known nodes told x.lsid x.number x.tag x.boot
sought_known nodes told all x was =
    subst (AskOk (Known nodes told)) was.2
    (All-contains (λ (e : Envelope). AskOk (Known nodes told) e.msg) nodes.sent was.0 all was.1)

pub recovers_agree : (chunks : Map) (start : Nodes) (run : List Ran) (trace : List Nodes)
    (now : Nodes) → IsMap chunks → StartsAlone chunks start → IsTrace start run trace now
    → TokensGiven start.routers run → RecoversAgree now.sent
recovers_agree chunks start run trace now is h k given x m was sent same =
    let r = All-contains (IsReached chunks is start h) (trace ++ now ∷ []) now
    (all_reached chunks is start h run trace now k given)
    (Contains-append_right trace (now ∷ []) now (has_first now [])) in
    sym ((sought_known now _ r.tokens.sent x was).boots.commits m sent (sym same))
