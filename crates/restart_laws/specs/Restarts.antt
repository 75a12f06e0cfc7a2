-- Where a shard is started again, each record that it has and each in hand fits its bytes: then
-- what is read of its journal is what was written.
use Rattle.std.specs.Prelude.{◌≡◌, ℕ, List, [], ◌∷◌, Option, Some, slice_get}
use Rattle.std.proofs.Common.{inl, inr}
use Rattle.log_laws.specs.Fitting.{AllFit}
use Rattle.shard_core.specs.NodeStep.{NodeState}
use Rattle.txn_types.specs.declared.node.NodeId.TheVariants.{Shard}
use Rattle.chunk_map.specs.Map.{Map}
use Rattle.txn_model.specs.declared.ran.Ran.{Ran}
use Rattle.txn_model.specs.declared.ran.Ran.TheVariants.{Swapped}
use Rattle.cluster_core.specs.Nodes.{Nodes}
use Rattle.play_steps.specs.Player.{Player}
use Rattle.cluster_play.specs.Ended.{IsTurnText}
use Rattle.cluster_play.specs.Plays.{PlaysTo}

abbrev pub FitsAt : Nodes → Option Ran → Type 0
FitsAt nodes (Some (Swapped (Shard n))) = (s : NodeState) → slice_get nodes.shards n ≡ Some s
    → AllFit s.records × AllFit s.hand
FitsAt nodes other = Unit {0}

-- so at each restart of what was played
abbrev pub RestartsFit : (told : Type 0) → (chunks : Map) → (p : Player) → (start : Nodes)
    → (items : List (Option Ran)) → (text : List ℕ) → (q : Player) → (behind : Nodes)
    → PlaysTo told chunks p start items text q behind → Type 0
RestartsFit told chunks p start [] text q behind h = Unit {0}
RestartsFit told chunks p start (item ∷ items) text q behind h = FitsAt start item
    × RestartsFit told chunks h.2 h.3 items h.1 q behind h.6

-- and at what comes next
abbrev pub NextFits : (told : Type 0) → (chunks : Map) → (q : Player) → (behind : Nodes)
    → (text : List ℕ) → IsTurnText told chunks q behind text → Type 0
NextFits told chunks q behind text (inl none) = Unit {0}
NextFits told chunks q behind text (inr next) = FitsAt behind next.0
