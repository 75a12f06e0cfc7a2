-- What stands of requests to recover a transaction: they name the boot of the shard that requests to
-- commit it name, and the transaction had come to the shard in that boot.
use Rattle.std.specs.Prelude.{◌≡◌, List, Contains}
use Rattle.txn_types.specs.Letters.{Named}
use Rattle.txn_types.specs.declared.message.Commit.{Commit}
use Rattle.txn_types.specs.declared.message.Envelope.{Envelope}
use Rattle.txn_types.specs.declared.message.Msg.TheVariants as msg
use Rattle.txn_types.specs.declared.message.Recover.{Recover}
use Rattle.cluster_core.specs.Nodes.{Nodes}
use Rattle.cluster_core.specs.Parts.{KnowsBoot, names_of}
use Rattle.decision_laws.specs.Ends.{WasSent}

-- a request to recover it was sent
abbrev pub WasSought : List Envelope → Recover → Type 0
WasSought sent x = (e : Envelope) × Contains sent e × (e.msg ≡ msg.Recover x)

abbrev pub RecoversAgree : List Envelope → Type 0
RecoversAgree sent =
    (x : Recover) (m : Commit) → WasSought sent x → WasSent sent m → x.tag ≡ m.tag
    → x.boot ≡ m.boot

-- its transaction was named so
abbrev pub sought_name : Recover → Named
sought_name x = record { tag = x.tag; lsid = x.lsid; number = x.number }

-- each names a transaction as it was named before, and a boot that the shard had; where it has it
-- still, the session there has the transaction, or has gone on
abbrev pub RecoversCome : Nodes → Type 0
RecoversCome nodes = (x : Recover) → WasSought nodes.sent x
    → Contains (names_of nodes) (sought_name x)
    × KnowsBoot nodes 0 x.boot x.lsid x.number x.tag
