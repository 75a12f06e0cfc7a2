-- What the run of a schedule is: what its lines ask, one after the other; and what is written of
-- it.
use Rattle.std.specs.Prelude.{◌≡◌, ◌≢◌, ◌≤◌, ◌<◌, ℕ, ◌+◌, List, [], ◌∷◌, ◌++◌, Option, Some, None}
use Rattle.std.specs.Prelude.{slice_get, slice_set}
use Rattle.txn_types.specs.declared.event.NodeAnswer.{NodeAnswer}
use Rattle.txn_types.specs.declared.event.NodeAnswer.TheVariants as answer
use Rattle.txn_types.specs.declared.event.NodeEvent.{NodeEvent}
use Rattle.txn_types.specs.declared.node.NodeId.{NodeId}
use Rattle.txn_types.specs.declared.node.NodeId.TheVariants.{Shard, Router}
use Rattle.journal_rec.specs.declared.record.Rec.{Rec}
use Rattle.log_laws.specs.Fitting.{AllFit}
use Rattle.shard_core.specs.NodeStep.{NodeState, started}
use Rattle.chunk_map.specs.Map.{Map}
use Rattle.router_state.specs.State.{RouterState, fresh_router}
use Rattle.txn_model.specs.declared.ran.Ran.{Ran}
use Rattle.txn_model.specs.declared.ran.Ran.TheVariants.{Step, Swapped}
use Rattle.cluster_core.specs.Nodes.{Nodes, commits_of}
use Rattle.cluster_core.specs.Trace.{Happens, IsTrace, MayRemain}
use Rattle.cluster_world.specs.World.{HasNode, MayHappen, event_of}
use Rattle.cluster_world.specs.declared.event.WorldEvent.{WorldEvent}
use Rattle.cluster_world.specs.declared.event.WorldEvent.TheVariants.{At, Deliver}
use Rattle.play_text.specs.Dump.{kept_by}
use Rattle.play_text.specs.Text.{boot_line, dump_text}
use Rattle.play_steps.specs.declared.want.Want.{Want}
use Rattle.play_steps.specs.declared.want.Want.TheVariants as want
use Rattle.play_steps.specs.Player.{Player}
use Rattle.play_steps.specs.Lines.{Next, HaveNoRestart, next}
use Rattle.play_steps.specs.Taking.{where_logs}
use Rattle.play_steps.specs.Steps.{given_of, answer_text, behind_answer}

-- What comes next asks this of the nodes.
abbrev pub asked : ℕ → Want → Option WorldEvent
asked wall (want.Event node happening) = Some (At node (record { wall = wall; what = happening }))
asked wall (want.Deliver number) = Some (Deliver number wall)
asked wall other = None

-- A node took what was asked. One that answers out of memory ends the playing, so that is none.
pub record IsTaken (nodes : Nodes) (wall : ℕ) (w : Want) (node : NodeId) (e : NodeEvent)
    (a : NodeAnswer) : Type 0 where
  pub event : WorldEvent
  pub asks : asked wall w ≡ Some event
  pub comes : event_of nodes event ≡ Some (node, e)
  pub room : a ≢ answer.Memory

-- an item of the run is what was wanted
abbrev pub IsWanted : Nodes → ℕ → Want → Ran → Type 0
IsWanted nodes wall w (Step node e a faults) = IsTaken nodes wall w node e a
IsWanted nodes wall w (Swapped node) = w ≡ want.Renew node

-- The node isn't there, or the message that would be delivered. Then nothing happens.
abbrev pub CannotBe : Nodes → ℕ → Want → Type 0
CannotBe nodes wall (want.Event node happening) =
    MayHappen nodes (At node (record { wall = wall; what = happening })) → ⊥
CannotBe nodes wall (want.Deliver number) = MayHappen nodes (Deliver number wall) → ⊥
CannotBe nodes wall (want.Renew node) = HasNode nodes node → ⊥
CannotBe nodes wall other = ⊥

-- A shard starts again from what its disk has. That is what a crash may leave, where disks tell
-- what they hold (`told`) and each field of its records fits its bytes.
pub record StartsAgain (told : Type 0) (n : ℕ) (before after : NodeState) : Type 0 where
  pub recs : List Rec
  pub faults : ℕ
  pub remain : told → AllFit before.records → AllFit before.hand → MayRemain before recs
  pub later : before.faults ≤ faults
  pub starts : started n recs faults ≡ Some after

pub record ShardRestarts (told : Type 0) (old : Nodes) (n : ℕ) (new : Nodes) : Type 0 where
  pub before : NodeState
  pub after : NodeState
  pub there : slice_get old.shards n ≡ Some before
  pub again : StartsAgain told n before after
  pub nodes : new
      ≡ record { shards = slice_set old.shards n after; routers = old.routers; sent = old.sent }

-- A router starts again, with the map of the configuration, at some boot. That is the next one,
-- where disks tell what they hold.
pub record BootsAgain (told : Type 0) (chunks : Map) (n : ℕ)
    (before after : RouterState) : Type 0 where
  pub boot : ℕ
  pub next : told → boot ≡ before.boot + 1
  pub left : told → before.boot < 4294967294
  pub starts : after ≡ fresh_router n boot chunks

pub record RouterRestarts (told : Type 0) (chunks : Map) (old : Nodes) (n : ℕ)
    (new : Nodes) : Type 0 where
  pub before : RouterState
  pub after : RouterState
  pub there : slice_get old.routers n ≡ Some before
  pub again : BootsAgain told chunks n before after
  pub nodes : new
      ≡ record { shards = old.shards; routers = slice_set old.routers n after; sent = old.sent }

-- what happened to the nodes
abbrev pub Happened : Type 0 → Map → Nodes → Ran → Nodes → Type 0
Happened told chunks old (Step node e a faults) new = Happens old (Step node e a faults) new
Happened told chunks old (Swapped (Shard n)) new = ShardRestarts told old n new
Happened told chunks old (Swapped (Router n)) new = RouterRestarts told chunks old n new

-- What is written of it, with the nodes after it; and the player then.

abbrev pub boot_at : Nodes → NodeId → ℕ
boot_at nodes (Shard n) = elim (slice_get nodes.shards n) [ Some s ↦ s.core.part.boot | None ↦ 0 ]
boot_at nodes (Router n) = elim (slice_get nodes.routers n) [ Some r ↦ r.boot | None ↦ 0 ]

abbrev pub text_behind : Player → Want → Ran → Nodes → List ℕ
text_behind p w (Step node e a faults) nodes = answer_text p (given_of w) a
text_behind p w (Swapped node) nodes = where_logs p.logs (boot_line node (boot_at nodes node))

abbrev pub player_behind : Player → Want → Ran → Player
player_behind p w (Step node e a faults) = behind_answer p (given_of w) a
player_behind p w (Swapped node) = p

-- What is done of what is wanted, where the player is this one: an item of the run, or none where
-- it can't be.
abbrev pub Does : Type 0 → Map → Player → Want → Nodes → Option Ran → List ℕ → Player
    → Nodes → Type 0
Does told chunks p w nodes None text q behind = CannotBe nodes p.wall w × (text ≡ []) × (q ≡ p)
    × (behind ≡ nodes)
Does told chunks p w nodes (Some ran) text q behind =
    IsWanted nodes p.wall w ran × Happened told chunks nodes ran behind
    × (text ≡ text_behind p w ran behind) × (q ≡ player_behind p w ran)

-- the list of commits as it is written at these nodes
abbrev pub dump_at : Map → Nodes → List ℕ
dump_at chunks nodes = dump_text (kept_by chunks) (commits_of nodes)

-- what comes next at these nodes
abbrev pub next_at : Map → Nodes → Player → Next
next_at chunks nodes p = next (dump_at chunks nodes) p

-- a turn: what is written before what comes next, and then of it
abbrev pub Turn : Type 0 → Map → Next → Nodes → Option Ran → List ℕ → Player → Nodes → Type 0
Turn told chunks n nodes item text q behind = (more : List ℕ) × (text ≡ n.0 ++ more)
    × Does told chunks n.2 n.1 nodes item more q behind

-- so many turns, one after the other: their items, the text of them all, and the player and the
-- nodes after them
abbrev pub PlaysTo : Type 0 → Map → Player → Nodes → List (Option Ran) → List ℕ → Player
    → Nodes → Type 0
PlaysTo told chunks p nodes [] text q behind = (text ≡ []) × (q ≡ p) × (behind ≡ nodes)
PlaysTo told chunks p nodes (item ∷ items) text q behind =
    (first rest : List ℕ) × (mid : Player) × (between : Nodes)
    × Turn told chunks (next_at chunks nodes p) nodes item first mid between
    × (text ≡ first ++ rest) × PlaysTo told chunks mid between items rest q behind

-- Runs without a restart.

-- no line that is to come asks for one, and nothing else was asked
abbrev pub IsCalm : Player → Type 0
IsCalm p = HaveNoRestart p.lines × (p.queue ≡ [])

-- what happened, without what couldn't be
abbrev pub ran_of : List (Option Ran) → List Ran
ran_of [] = []
ran_of (None ∷ items) = ran_of items
ran_of (Some ran ∷ items) = ran ∷ ran_of items

-- each item may happen in a cluster, one after the other
abbrev pub IsRun : Nodes → List (Option Ran) → Nodes → Type 0
IsRun start items behind = (trace : List Nodes) × IsTrace start (ran_of items) trace behind

-- The items are what the schedule asks up to where `last` comes next; this is the whole text up to
-- there, with what stands in front of `last`: at the end of the schedule that is the list of
-- commits.
pub record Plays (told : Type 0) (chunks : Map) (last : Want) (p : Player) (nodes : Nodes)
    (items : List (Option Ran)) (text : List ℕ) (behind : Nodes) : Type 0 where
  pub front : List ℕ
  pub player : Player
  pub turns : PlaysTo told chunks p nodes items front player behind
  pub comes : (next_at chunks behind player).1 ≡ last
  pub is : text ≡ front ++ (next_at chunks behind player).0
