-- A schedule in which no line asks that a shard starts again brings no such restart.
use Rattle.std.proofs.Common.{◌≡◌, ℕ, List, [], ◌∷◌, Option, Some, None, sym, subst}
use Rattle.cluster_world.specs.declared.event.WorldEvent.{WorldEvent}
use Rattle.txn_types.specs.declared.node.NodeId.TheVariants.{Shard, Router}
use Rattle.chunk_map.specs.Map.{Map}
use Rattle.txn_model.specs.declared.ran.Ran.{Ran}
use Rattle.txn_model.specs.declared.ran.Ran.TheVariants.{Step, Swapped}
use Rattle.cluster_core.specs.Nodes.{Nodes}
use Rattle.play_script.specs.Lines.{line_of}
use Rattle.play_script.specs.declared.line.Line.{Line}
use Rattle.play_script.specs.declared.line.Line.TheVariants as line
use Rattle.play_steps.specs.declared.want.Want.{Want}
use Rattle.play_steps.specs.declared.want.Want.TheVariants as want
use Rattle.play_steps.specs.Player.{Player}
use Rattle.play_steps.specs.Lines.{Next, from_lines, next}
use Rattle.play_steps.proofs.Keeping.{Grants, AllAre, AskedFor, Goes, IsKept, IsNext, LineAsks}
use Rattle.play_steps.proofs.Keeping.{answer_on, good_line, next_on}
use Rattle.play_steps.specs.Steps.{given_of}
use Rattle.cluster_play.specs.Plays.{CannotBe, Does, PlaysTo, Turn, asked, dump_at, next_at}
use Rattle.restart_laws.specs.Restarts.{FitsAt, RestartsFit}
use Rattle.played_laws.specs.Throughout.{AsksNoShard, HaveNoShardRestart}

abbrev IsNoShard : Want → Type 0
IsNoShard (want.Renew (Shard n)) = ⊥
IsNoShard other = Unit {0}

granted : Grants IsNoShard
granted = record { event = λ node happening. tt; deliver = λ number. tt; spent = tt }

line_asks : (l : Line) → AsksNoShard (Some l) → LineAsks IsNoShard l
line_asks (line.Restart (Shard n)) calm = calm
line_asks (line.Restart (Router n)) calm = tt
line_asks other calm = tt

asked_for : (o : Option Line) → AsksNoShard o → AskedFor IsNoShard o
asked_for None calm = tt
asked_for (Some l) calm = line_asks l calm

from_on : (dump : List ℕ) (lines : List (List ℕ)) (p : Player) → HaveNoShardRestart lines
    → AllAre IsNoShard p.queue → IsNext HaveNoShardRestart IsNoShard (from_lines dump lines p)
from_on dump [] p calm all = tt
from_on dump (l ∷ lines) p calm all =
    good_line HaveNoShardRestart IsNoShard granted dump l lines p calm.1 all
    (asked_for (line_of l) calm.0) (λ q on. from_on dump lines q calm.1 on.1)

stays_calm : (dump : List ℕ) (p : Player) → IsKept HaveNoShardRestart IsNoShard p
    → IsNext HaveNoShardRestart IsNoShard (next dump p)
stays_calm dump p on = next_on HaveNoShardRestart IsNoShard granted dump (from_on dump) p on

-- What is played of it.

abbrev pub Calm : Player → Type 0
Calm p = IsKept HaveNoShardRestart IsNoShard p

cannot_on : (nodes : Nodes) (wall : ℕ) (w : Want) (p : Player)
    → Goes HaveNoShardRestart IsNoShard w p → CannotBe nodes wall w → Calm p
cannot_on nodes wall (want.Event node happening) p on cannot = on
cannot_on nodes wall (want.Deliver number) p on cannot = on
cannot_on nodes wall (want.Renew node) p on cannot = on.1
cannot_on nodes wall want.End p on cannot = absurd cannot
cannot_on nodes wall (want.Bad line) p on cannot = absurd cannot
cannot_on nodes wall want.Spent p on cannot = absurd cannot

not_asked : (e : WorldEvent) → ◌≡◌ {A = Option WorldEvent} None (Some e) → ⊥
not_asked e is = cc

asked_on : (wall : ℕ) (w : Want) (event : WorldEvent) (p : Player)
    → Goes HaveNoShardRestart IsNoShard w p → asked wall w ≡ Some event → Calm p
asked_on wall (want.Event node happening) event p on is = on
asked_on wall (want.Deliver number) event p on is = on
asked_on wall (want.Renew node) event p on is = on.1
asked_on wall want.End event p on is = absurd (not_asked event is)
asked_on wall (want.Bad line) event p on is = absurd (not_asked event is)
asked_on wall want.Spent event p on is = absurd (not_asked event is)

does_on : (told : Type 0) (chunks : Map) (p : Player) (w : Want) (nodes : Nodes)
    (item : Option Ran) (text : List ℕ) (q : Player) (behind : Nodes)
    → Goes HaveNoShardRestart IsNoShard w p → Does told chunks p w nodes item text q behind
    → Calm q
does_on told chunks p w nodes None text q behind on d =
    subst Calm (sym d.2) (cannot_on nodes p.wall w p on d.0)
does_on told chunks p w nodes (Some (Step node e a faults)) text q behind on d =
    subst Calm (sym d.3) (answer_on HaveNoShardRestart IsNoShard p (given_of w) a
    (asked_on p.wall w d.0.event p on d.0.asks))
does_on told chunks p w nodes (Some (Swapped node)) text q behind on d =
    let at : Goes HaveNoShardRestart IsNoShard (want.Renew node) p =
    subst (λ (x : Want). Goes HaveNoShardRestart IsNoShard x p) d.0 on in
    subst Calm (sym d.3) at.1

turn_on : (told : Type 0) (chunks : Map) (p : Player) (nodes : Nodes) (item : Option Ran)
    (text : List ℕ) (q : Player) (behind : Nodes) → Calm p
    → Turn told chunks (next_at chunks nodes p) nodes item text q behind → Calm q
turn_on told chunks p nodes item text q behind calm t =
    let n : Next = next_at chunks nodes p in
    does_on told chunks n.2 n.1 nodes item t.0 q behind (stays_calm (dump_at chunks nodes) p calm)
    t.2

pub calm_on : (told : Type 0) (chunks : Map) (p : Player) (nodes : Nodes)
    (items : List (Option Ran)) (text : List ℕ) (q : Player) (behind : Nodes) → Calm p
    → PlaysTo told chunks p nodes items text q behind → Calm q
calm_on told chunks p nodes [] text q behind calm h = subst Calm (sym h.1) calm
calm_on told chunks p nodes (item ∷ items) text q behind calm h =
    calm_on told chunks h.2 h.3 items h.1 q behind
    (turn_on told chunks p nodes item h.0 h.2 h.3 calm h.4) h.6

does_fits : (told : Type 0) (chunks : Map) (p : Player) (w : Want) (nodes : Nodes)
    (item : Option Ran) (text : List ℕ) (q : Player) (behind : Nodes)
    → Goes HaveNoShardRestart IsNoShard w p → Does told chunks p w nodes item text q behind
    → FitsAt nodes item
does_fits told chunks p w nodes None text q behind goes d = tt
does_fits told chunks p w nodes (Some (Step node e a faults)) text q behind goes d = tt
does_fits told chunks p w nodes (Some (Swapped (Router n))) text q behind goes d = tt
does_fits told chunks p w nodes (Some (Swapped (Shard n))) text q behind goes d =
    let at : Goes HaveNoShardRestart IsNoShard (want.Renew (Shard n)) p =
    subst (λ (x : Want). Goes HaveNoShardRestart IsNoShard x p) d.0 goes in absurd at.0

pub turn_fits : (told : Type 0) (chunks : Map) (p : Player) (nodes : Nodes) (item : Option Ran)
    (text : List ℕ) (q : Player) (behind : Nodes) → Calm p
    → Turn told chunks (next_at chunks nodes p) nodes item text q behind → FitsAt nodes item
turn_fits told chunks p nodes item text q behind calm t =
    let n : Next = next_at chunks nodes p in
    does_fits told chunks n.2 n.1 nodes item t.0 q behind (stays_calm (dump_at chunks nodes) p calm)
    t.2

pub calm_fits : (told : Type 0) (chunks : Map) (p : Player) (nodes : Nodes)
    (items : List (Option Ran)) (text : List ℕ) (q : Player) (behind : Nodes) → Calm p
    → (h : PlaysTo told chunks p nodes items text q behind)
    → RestartsFit told chunks p nodes items text q behind h
calm_fits told chunks p nodes [] text q behind calm h = tt
calm_fits told chunks p nodes (item ∷ items) text q behind calm h = (
  turn_fits told chunks p nodes item h.0 h.2 h.3 calm h.4,
  calm_fits told chunks h.2 h.3 items h.1 q behind
      (turn_on told chunks p nodes item h.0 h.2 h.3 calm h.4) h.6,
)
