-- A request to recover a transaction names it as it was named before, and it had come to the shard
-- in the boot that the request names.
use Rattle.std.proofs.Common.{◌≡◌, ◌++◌, ◌<◌, ◌∷◌, ℕ, ℤ, Bool, All, List, [], Ok, refl, sym, ap}
use Rattle.std.proofs.Common.{subst, ◌∙◌, arith, length}
use Rattle.std.specs.Prelude.{Contains, IfOk}
use Rattle.std.proofs.lemmas.List.Elements.{All-contains}
use Rattle.txn_types.specs.Letters.{Named}
use Rattle.txn_types.specs.declared.cause.Cause.{Cause}
use Rattle.txn_types.specs.declared.message.Answer.{Answer}
use Rattle.txn_types.specs.declared.message.Envelope.{Envelope}
use Rattle.txn_types.specs.declared.message.Msg.{Msg}
use Rattle.txn_types.specs.declared.message.Msg.TheVariants as msg
use Rattle.txn_types.specs.declared.message.Recover.{Recover}
use Rattle.txn_types.specs.declared.node.Lsid.{Lsid}
use Rattle.txn_types.specs.declared.node.NodeId.{NodeId}
use Rattle.txn_types.specs.declared.node.NodeId.TheVariants.{Router}
use Rattle.txn_types.specs.declared.operation.OpReply.{OpReply}
use Rattle.shard_core.specs.NodeStep.{NodeState}
use Rattle.chunk_map.specs.Map.{Map, IsMap}
use Rattle.txn_model.specs.declared.ran.Ran.{Ran}
use Rattle.cluster_core.specs.Deciding.{TokensGiven}
use Rattle.cluster_core.specs.Ledger.{answered_in}
use Rattle.cluster_core.specs.Nodes.{Nodes}
use Rattle.cluster_core.specs.Parts.{KnowsBoot, TagsBegunOnce, names_of}
use Rattle.cluster_core.specs.Trace.{IsTrace}
use Rattle.address_laws.specs.Addresses.{EnvThere, HasNode, NamesThere}
use Rattle.known_laws.specs.Known.{EnvKnown, IsTold, KnownTo, KnownStands, Tells}
use Rattle.known_laws.specs.Known as kn
use Rattle.one_shard_laws.specs.Concluding.{StartsAlone}
use Rattle.one_shard_laws.specs.Lasting.{OneShard}
use Rattle.one_shard_laws.proofs.Joint.{runs_alone}
use Rattle.decision_laws.specs.Recovering.{RecoversCome, WasSought, sought_name}
use Rattle.right_laws.proofs.Tokens.Agreeing.{sought_known}
use Rattle.right_laws.proofs.Tokens.Named.{Known, CameBack}
use Rattle.right_laws.proofs.Tokens.Running.{IsReached, all_reached, world_of, known_of}
use Rattle.right_laws.proofs.Tokens.Running.{addresses_of}

module _ (chunks : Map) (is : IsMap chunks) (start : Nodes) (h : StartsAlone chunks start)
    (nodes : Nodes) (r : IsReached chunks is start h nodes) where
  tags : TagsBegunOnce nodes
  tags = (world_of chunks is start h r.run r.trace nodes r.comes).tags

  alone : OneShard nodes
  alone = runs_alone chunks start r.run r.trace nodes h r.comes

  knows : KnownStands nodes
  knows = known_of chunks is start h r.run r.trace nodes r.comes

  module _ (x : Recover) (was : WasSought nodes.sent x) where
    known : Known nodes (answered_in start.routers r.run) x.lsid x.number x.tag x.boot
    known = sought_known nodes (answered_in start.routers r.run) r.tokens.sent x was

    back : CameBack nodes.sent x.tag x.boot
    back = known.back

    -- the Answer is of the one shard
    shard_is : back.answer.shard ≡ 0
    shard_is =
        let env = All-contains (EnvThere (HasNode nodes)) nodes.sent back.envelope
        (addresses_of chunks is start h r.run r.trace nodes r.comes).sent back.there in
        let there : back.answer.shard < length nodes.shards =
        subst (NamesThere (HasNode nodes)) back.is env.names in
        let one : length nodes.shards ≡ 1 =
        ap (λ (xs : List NodeState). length xs) alone.shards in
        omega (arith, there, one)

    told : Tells nodes back.answer
    told =
        let env : KnownTo (kn.Known nodes) (Tells nodes) back.envelope.to back.envelope.msg =
        All-contains (EnvKnown (kn.Known nodes) (Tells nodes)) nodes.sent back.envelope knows.sent
        back.there in
        subst (λ (m : Msg). KnownTo (kn.Known nodes) (Tells nodes) (Router back.router) m) back.is
        (subst (λ (to : NodeId). KnownTo (kn.Known nodes) (Tells nodes) to back.envelope.msg)
        back.to env)

    is_told : IsTold nodes back.answer back.done
    is_told = subst (λ (o : _). IfOk o (IsTold nodes back.answer)) back.ok told

    knows_boot : KnowsBoot nodes 0 x.boot x.lsid x.number x.tag
    knows_boot =
        let t = is_told in
        let same = tags.one_begin t.0 (sought_name x) t.1 known.named (t.2 ∙ back.tag_is) in
        let shard : KnowsBoot nodes 0 back.answer.boot t.0.lsid t.0.number t.0.tag =
        subst (λ (n : ℕ). KnowsBoot nodes n back.answer.boot t.0.lsid t.0.number t.0.tag) shard_is
        t.3 in
        let boot : KnowsBoot nodes 0 x.boot t.0.lsid t.0.number t.0.tag =
        subst (λ (b : ℕ). KnowsBoot nodes 0 b t.0.lsid t.0.number t.0.tag) back.boot_is shard in
        let lsid : KnowsBoot nodes 0 x.boot x.lsid t.0.number t.0.tag =
        subst (λ (l : Lsid). KnowsBoot nodes 0 x.boot l t.0.number t.0.tag) same.0 boot in
        let number : KnowsBoot nodes 0 x.boot x.lsid x.number t.0.tag =
        subst (λ (i : ℤ). KnowsBoot nodes 0 x.boot x.lsid i t.0.tag) same.1 lsid in
        subst (KnowsBoot nodes 0 x.boot x.lsid x.number) (t.2 ∙ back.tag_is) number

    pub came : Contains (names_of nodes) (sought_name x)
        × KnowsBoot nodes 0 x.boot x.lsid x.number x.tag
    came = (known.named, knows_boot)

pub recovers_come : (chunks : Map) (start : Nodes) (run : List Ran) (trace : List Nodes)
    (now : Nodes) → IsMap chunks → StartsAlone chunks start → IsTrace start run trace now
    → TokensGiven start.routers run → (nodes : Nodes) → Contains (trace ++ now ∷ []) nodes
    → RecoversCome nodes
recovers_come chunks start run trace now is h k given nodes c x was =
    came chunks is start h nodes
    (All-contains (IsReached chunks is start h) (trace ++ now ∷ []) nodes
    (all_reached chunks is start h run trace now k given) c) x was
