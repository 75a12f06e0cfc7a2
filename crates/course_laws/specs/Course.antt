-- The course of a schedule: what is played of it where nothing outside fails.
use Rattle.std.specs.Prelude.{◌≡◌, ◌⊎◌, ℕ, List, [], ◌∷◌, ◌++◌, map, Option, Some, option_map}
use Rattle.std.specs.Prelude.{slice_get}
use Rattle.log_laws.specs.Fitting.{AllFit}
use Rattle.shard_core.specs.NodeStep.{NodeState}
use Rattle.chunk_map.specs.Map.{Map}
use Rattle.txn_types.specs.declared.node.NodeId.TheVariants.{Shard, Router}
use Rattle.txn_model.specs.declared.ran.Ran.{Ran}
use Rattle.txn_model.specs.declared.ran.Ran.TheVariants.{Step, Swapped}
use Rattle.cluster_core.specs.Nodes.{Nodes}
use Rattle.play_steps.specs.Player.{Player}
use Rattle.cluster_play.specs.Plays.{PlaysTo, IsCalm}
use Rattle.course_laws.specs.Unharmed.{IsUnharmed}

-- nothing outside failed at any of these items
abbrev pub AreUndisturbed : List (Option Ran) → Type 0
AreUndisturbed [] = Unit {0}
AreUndisturbed (Some (Step node e a faults) ∷ items) = IsUnharmed a × AreUndisturbed items
AreUndisturbed (other ∷ items) = AreUndisturbed items

-- Nodes and items but for how often disks have failed since they were new, which no node goes by.

abbrev pub uncounted : NodeState → NodeState
uncounted s = record s { faults = 0 }

abbrev pub nodes_uncounted : Nodes → Nodes
nodes_uncounted nodes = record nodes { shards = map uncounted nodes.shards }

abbrev pub ran_uncounted : Ran → Ran
ran_uncounted (Step node e a faults) = Step node e a 0
ran_uncounted (Swapped node) = Swapped node

abbrev pub items_uncounted : List (Option Ran) → List (Option Ran)
items_uncounted items = map (option_map ran_uncounted) items

abbrev pub AreSame : Nodes → Nodes → Type 0
AreSame nodes others = nodes_uncounted nodes ≡ nodes_uncounted others

-- no append of a shard failed since it started
abbrev pub HaveNothingInHand : Nodes → Type 0
HaveNothingInHand nodes = (n : ℕ) (s : NodeState) → slice_get nodes.shards n ≡ Some s → s.hand ≡ []

-- Restarts.

-- one of a node brings back what stood: its disk tells what it holds (`told`), and each field of a
-- shard's records fits its bytes
abbrev pub BringsBack : Type 0 → Nodes → Option Ran → Type 0
BringsBack told nodes (Some (Swapped (Shard n))) =
    told × ((s : NodeState) → slice_get nodes.shards n ≡ Some s → AllFit s.records)
BringsBack told nodes (Some (Swapped (Router n))) = told
BringsBack told nodes other = Unit {0}

-- so does each of what was played
abbrev pub RestartsBringBack : (told : Type 0) → (chunks : Map) → (p : Player) → (start : Nodes)
    → (items : List (Option Ran)) → (text : List ℕ) → (q : Player) → (behind : Nodes)
    → PlaysTo told chunks p start items text q behind → Type 0
RestartsBringBack told chunks p start [] text q behind h = Unit {0}
RestartsBringBack told chunks p start (item ∷ items) text q behind h = BringsBack told start item
    × RestartsBringBack told chunks h.2 h.3 items h.1 q behind h.6

-- no line asks for a restart; or each brings back what stood
abbrev pub AreRestored : (told : Type 0) → (chunks : Map) → (p : Player) → (start : Nodes)
    → (items : List (Option Ran)) → (text : List ℕ) → (q : Player) → (behind : Nodes)
    → PlaysTo told chunks p start items text q behind → Type 0
AreRestored told chunks p start items text q behind h = IsCalm p
    ⊎ RestartsBringBack told chunks p start items text q behind h

-- the longer one goes on from the shorter one
pub record GoesOn (told : Type 0) (chunks : Map) (items items' : List (Option Ran))
    (text text' : List ℕ) (q q' : Player) (behind behind' : Nodes) : Type 0 where
  pub more : List (Option Ran)
  pub rest : List ℕ
  pub are : items_uncounted items' ≡ items_uncounted items ++ items_uncounted more
  pub written : text' ≡ text ++ rest
  pub nodes : Nodes
  pub same : AreSame nodes behind
  pub plays : PlaysTo told chunks q nodes more rest q' behind'
