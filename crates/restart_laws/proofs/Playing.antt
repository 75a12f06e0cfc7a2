-- What is played of a schedule brings bytes of clients, on connections whose numbers have 32 bits.
use Rattle.std.proofs.Common.{◌≡◌, ℕ, All, List, [], ◌∷◌, Option, Some, None, sym, ap, subst}
use Rattle.std.specs.Prelude.{slice_get}
use Rattle.std.proofs.lemmas.List.Elements.{All-nil, All-cons}
use Rattle.txn_types.specs.declared.event.Happening.TheVariants as what
use Rattle.txn_types.specs.declared.event.NodeEvent.{NodeEvent}
use Rattle.txn_types.specs.declared.message.Envelope.{Envelope}
use Rattle.txn_types.specs.declared.node.NodeId.{NodeId}
use Rattle.chunk_map.specs.Map.{Map}
use Rattle.txn_model.specs.declared.ran.Ran.{Ran}
use Rattle.txn_model.specs.declared.ran.Ran.TheVariants.{Step, Swapped}
use Rattle.cluster_core.specs.Nodes.{Nodes}
use Rattle.cluster_world.specs.World.{delivered, event_of}
use Rattle.cluster_world.specs.declared.event.WorldEvent.{WorldEvent}
use Rattle.cluster_world.specs.declared.event.WorldEvent.TheVariants.{At, Deliver}
use Rattle.play_steps.specs.declared.want.Want.{Want}
use Rattle.play_steps.specs.declared.want.Want.TheVariants as want
use Rattle.play_steps.specs.Player.{Player}
use Rattle.play_steps.specs.Lines.{Next}
use Rattle.play_steps.specs.Steps.{given_of}
use Rattle.cluster_play.specs.Plays.{Does, PlaysTo, Turn, asked, dump_at, next_at, ran_of}
use Rattle.cluster_play.specs.Schedule.{Schedule, player_of}
use Rattle.restart_laws.proofs.Hearing.{EventFits, HoldsBytes, Hears, WantFits, answer_on, next_on}

abbrev pub RanFits : Ran → Type 0
RanFits (Step node e a faults) = EventFits e.what
RanFits (Swapped node) = Unit {0}

abbrev pub ItemFits : Option Ran → Type 0
ItemFits None = Unit {0}
ItemFits (Some ran) = RanFits ran

not_asked : (e : WorldEvent) → ◌≡◌ {A = Option WorldEvent} None (Some e) → ⊥
not_asked e is = cc

-- what comes is what was wanted

at_is : (to node : NodeId) (e f : NodeEvent)
    → ◌≡◌ {A = Option (NodeId × NodeEvent)} (Some (to, e)) (Some (node, f)) → e ≡ f
at_is to node e f is = let same : (to, e) ≡ (node, f) = cc in ap (λ (x : NodeId × NodeEvent). x.1) same

asked_is : (e f : WorldEvent) → ◌≡◌ {A = Option WorldEvent} (Some e) (Some f) → e ≡ f
asked_is e f is = cc

delivers : (wall : ℕ) (o : Option Envelope) (node : NodeId) (e : NodeEvent)
    → delivered wall o ≡ Some (node, e) → EventFits e.what
delivers wall None node e is = absurd cc
delivers wall (Some m) node e is =
    subst (λ (x : NodeEvent). EventFits x.what)
    (at_is m.to node (record { wall = wall; what = what.Deliver m }) e is) tt

event_fits : (nodes : Nodes) (wall : ℕ) (w : Want) (event : WorldEvent) (node : NodeId)
    (e : NodeEvent) → WantFits w → asked wall w ≡ Some event
    → event_of nodes event ≡ Some (node, e) → EventFits e.what
event_fits nodes wall (want.Event to happening) event node e one asks comes =
    let given : NodeEvent = record { wall = wall; what = happening } in
    subst (λ (x : NodeEvent). EventFits x.what) (at_is to node given e
    (subst (λ (x : WorldEvent). event_of nodes x ≡ Some (node, e))
    (sym (asked_is (At to given) event asks)) comes)) one
event_fits nodes wall (want.Deliver number) event node e one asks comes =
    delivers wall (slice_get nodes.sent number) node e
    (subst (λ (x : WorldEvent). event_of nodes x ≡ Some (node, e))
    (sym (asked_is (Deliver number wall) event asks)) comes)
event_fits nodes wall (want.Renew to) event node e one asks comes = absurd (not_asked event asks)
event_fits nodes wall want.End event node e one asks comes = absurd (not_asked event asks)
event_fits nodes wall (want.Bad l) event node e one asks comes = absurd (not_asked event asks)
event_fits nodes wall want.Spent event node e one asks comes = absurd (not_asked event asks)

does_fits : (told : Type 0) (chunks : Map) (p : Player) (w : Want) (nodes : Nodes)
    (item : Option Ran) (text : List ℕ) (q : Player) (behind : Nodes) → WantFits w → Hears p
    → Does told chunks p w nodes item text q behind → ItemFits item × Hears q
does_fits told chunks p w nodes None text q behind one on d = (tt, subst Hears (sym d.2) on)
does_fits told chunks p w nodes (Some (Step node e a faults)) text q behind one on d = (
  event_fits nodes p.wall w d.0.event node e one d.0.asks d.0.comes,
  subst Hears (sym d.3) (answer_on p (given_of w) a on),
)
does_fits told chunks p w nodes (Some (Swapped node)) text q behind one on d =
    (tt, subst Hears (sym d.3) on)

pub turn_fits : (told : Type 0) (chunks : Map) (p : Player) (nodes : Nodes) (item : Option Ran)
    (text : List ℕ) (q : Player) (behind : Nodes) → Hears p
    → Turn told chunks (next_at chunks nodes p) nodes item text q behind → ItemFits item × Hears q
turn_fits told chunks p nodes item text q behind on t =
    let n : Next = next_at chunks nodes p in
    let h = next_on (dump_at chunks nodes) p on in
    does_fits told chunks n.2 n.1 nodes item t.0 q behind h.0 h.1 t.2

ran_more : (item : Option Ran) (items : List (Option Ran)) → ItemFits item
    → All RanFits (ran_of items) → All RanFits (ran_of (item ∷ items))
ran_more None items one all = all
ran_more (Some ran) items one all = All-cons RanFits ran (ran_of items) one all

pub plays_fit : (told : Type 0) (chunks : Map) (p : Player) (nodes : Nodes)
    (items : List (Option Ran)) (text : List ℕ) (q : Player) (behind : Nodes) → Hears p
    → PlaysTo told chunks p nodes items text q behind → All RanFits (ran_of items)
plays_fit told chunks p nodes [] text q behind on h = All-nil RanFits
plays_fit told chunks p nodes (item ∷ items) text q behind on h =
    let t = turn_fits told chunks p nodes item h.0 h.2 h.3 on h.4 in
    ran_more item items t.0 (plays_fit told chunks h.2 h.3 items h.1 q behind t.1 h.6)

-- nothing has come before the first line
pub first_hears : (s : Schedule) → Hears (player_of s)
first_hears s = (All-nil HoldsBytes, All-nil WantFits)
