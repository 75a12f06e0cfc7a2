-- What is wanted, and what came of it.
use Rattle.std.proofs.Common.{◌≡◌, ℕ, List, ◌++◌, Option, Some, None, Result, Ok, Err, OnOk, inl}
use Rattle.std.proofs.Common.{inr, refl, sym, ap, subst, ◌∙◌}
use Rattle.outside_core.specs.Bytes.{Went, WentInPart}
use Rattle.chunk_map.specs.Map.{Map}
use Rattle.txn_types.specs.declared.node.NodeId.{NodeId}
use Rattle.txn_model.specs.declared.ran.Ran.{Ran}
use Rattle.txn_model.specs.declared.ran.Ran.TheVariants.{Step, Swapped}
use Rattle.cluster_core.specs.Nodes.{Nodes}
use Rattle.cluster_world.specs.World.{MayHappen}
use Rattle.cluster_world.specs.declared.event.WorldEvent.{WorldEvent}
use Rattle.cluster_world.specs.declared.event.WorldEvent.TheVariants.{At, Deliver}
use Rattle.txn_types.specs.declared.event.Happening.{Happening}
use Rattle.play_steps.specs.declared.want.Given.{Given}
use Rattle.play_steps.specs.declared.want.Want.{Want}
use Rattle.play_steps.specs.declared.want.Want.TheVariants as want
use Rattle.play_steps.specs.Player.{Player}
use Rattle.play_steps.specs.Steps.{given_of, answer_text, behind_answer}
use Rattle.cluster_play.specs.declared.stop.Stop.{Stop}
use Rattle.cluster_play.specs.declared.stop.Stop.TheVariants as stop
use Rattle.cluster_play.specs.Plays.{asked, CannotBe, Does, next_at}
use Rattle.cluster_play.specs.Steps.{Comes, Acts, ActStops, TurnedTo, TurnStops}
use Rattle.cluster_play.proofs.Texts.{part_more, part_all}
use Rattle.outside_core.proofs.Steps.{went_more}

-- what came of an event is done of what asked for it
pub comes_does : (told : Type 0) (chunks : Map) (p q : Player) (given : Given) (w : Want)
    (event : WorldEvent) (nodes behind : Nodes) (item : Option Ran) (text : List ℕ)
    → asked p.wall w ≡ Some event → given ≡ given_of w → ((MayHappen nodes event → ⊥)
    → CannotBe nodes p.wall w) → Comes p given event nodes item text q behind
    → Does told chunks p w nodes item text q behind
comes_does told chunks p q given w event nodes behind None text asks gives cannot h =
    (cannot h.0, h.1, h.2, h.3)
comes_does told chunks p q given w event nodes behind (Some (Step node e a faults)) text asks
    gives cannot h = (
      record { event = event; asks = asks; comes = h.0; room = h.1 },
      h.2,
      h.3 ∙ ap (λ (x : Given). answer_text p x a) gives,
      h.4 ∙ ap (λ (x : Given). behind_answer p x a) gives,
    )
comes_does told chunks p q given w event nodes behind (Some (Swapped node)) text asks gives cannot
    h = absurd h

-- the text of a step, after what a buffer held
abbrev pub ComesIn : Player → Given → WorldEvent → Nodes → List ℕ → List ℕ → Player → Nodes → Type 0
ComesIn p given event nodes out out' q behind = (item : Option Ran) × (more : List ℕ)
    × (out' ≡ out ++ more) × Comes p given event nodes item more q behind

abbrev pub DoesIn : Type 0 → Map → Player → Want → Nodes → List ℕ → List ℕ → Player → Nodes → Type 0
DoesIn told chunks p w nodes out out' q behind = (item : Option Ran) × (more : List ℕ)
    × (out' ≡ out ++ more) × Does told chunks p w nodes item more q behind

pub comes_done : {T E : Type 0} (r : Result T E) (told : Type 0) (chunks : Map) (p q : Player)
    (given : Given) (w : Want) (event : WorldEvent) (nodes behind : Nodes) (out out' : List ℕ)
    → asked p.wall w ≡ Some event → given ≡ given_of w → ((MayHappen nodes event → ⊥)
    → CannotBe nodes p.wall w) → OnOk r (ComesIn p given event nodes out out' q behind)
    → OnOk r (DoesIn told chunks p w nodes out out' q behind)
comes_done (Ok x) told chunks p q given w event nodes behind out out' asks gives cannot h = (
  h.0,
  h.1,
  h.2,
  comes_does told chunks p q given w event nodes behind h.0 h.1 asks gives cannot h.3,
)
comes_done (Err e) told chunks p q given w event nodes behind out out' asks gives cannot h = tt

-- the whole turn
pub turned : (told : Type 0) (chunks : Map) (p mid q : Player) (w : Want) (nodes behind : Nodes)
    (held held1 held2 : Option (List ℕ))
    → (next_at chunks nodes p).1 ≡ w → (next_at chunks nodes p).2 ≡ mid
    → Went held held1 (next_at chunks nodes p).0
    → Acts told chunks mid w nodes held1 held2 q behind
    → TurnedTo told chunks p nodes held held2 q behind None
turned told chunks p mid q w nodes behind held held1 held2 wants is went a =
    let n = next_at chunks nodes p in
    let by_want : Does told chunks mid n.1 nodes a.item a.text q behind = subst (λ (x : Want).
    Does told chunks mid x nodes a.item a.text q behind) (sym wants) a.does in
    let by_player : Does told chunks n.2 n.1 nodes a.item a.text q behind = subst (λ (x : Player).
    Does told chunks x n.1 nodes a.item a.text q behind) (sym is) by_want in (
      a.item,
      n.0 ++ a.text,
      (a.text, refl, by_player),
      went_more held held1 held2 n.0 a.text went a.went,
    )

pub turn_stops : {D : Type 0} (told : Type 0) (chunks : Map) (p mid : Player) (w : Want)
    (nodes : Nodes) (held held1 held2 : Option (List ℕ)) (s : Stop D)
    → (next_at chunks nodes p).1 ≡ w → (next_at chunks nodes p).2 ≡ mid
    → Went held held1 (next_at chunks nodes p).0
    → ActStops told chunks mid w nodes held1 held2 s
    → TurnStops told chunks p nodes held held2 s
turn_stops told chunks p mid w nodes held held1 held2 (stop.Cut cut) wants is went (inl same) =
    let n = next_at chunks nodes p in (
      n.0,
      inl refl,
      subst (λ (h : Option (List ℕ)). WentInPart held h n.0) (sym same)
          (part_all held held1 n.0 went),
    )
turn_stops told chunks p mid w nodes held held1 held2 (stop.Cut cut) wants is went (inr a) =
    let n = next_at chunks nodes p in
    let by_want : Does told chunks mid n.1 nodes a.item a.text a.q a.behind = subst (λ (x : Want).
    Does told chunks mid x nodes a.item a.text a.q a.behind) (sym wants) a.does in
    let by_player : Does told chunks n.2 n.1 nodes a.item a.text a.q a.behind =
    subst (λ (x : Player). Does told chunks x n.1 nodes a.item a.text a.q a.behind)
    (sym is) by_want in (
      n.0 ++ a.text,
      inr (a.item, a.q, a.behind, (a.text, refl, by_player)),
      part_more held held1 held2 n.0 a.text went a.part,
    )
turn_stops told chunks p mid w nodes held held1 held2 (stop.Lone node error disk) wants is went h =
    let n = next_at chunks nodes p in
    (wants ∙ h.0, subst (λ (x : Option (List ℕ)). Went held x n.0) (sym h.1) went)

pub event_done : {T E : Type 0} (r : Result T E) (told : Type 0) (chunks : Map) (p q : Player)
    (given : Given) (w : Want) (wall : ℕ) (node : NodeId) (happening : Happening)
    (nodes behind : Nodes) (out out' : List ℕ)
    → w ≡ want.Event node happening → wall ≡ p.wall → given ≡ given_of w → OnOk r (ComesIn p
    given (At node (record { wall = wall; what = happening })) nodes out out' q behind)
    → OnOk r (DoesIn told chunks p w nodes out out' q behind)
event_done r told chunks p q given w wall node happening nodes behind out out' is walls gives h =
    let asks : asked p.wall w ≡ Some (At node (record { wall = wall; what = happening })) =
    ap (asked p.wall) is
    ∙ ap (λ (k : ℕ). Some (At node (record { wall = k; what = happening }))) (sym walls) in
    let cannot : (MayHappen nodes (At node (record { wall = wall; what = happening })) → ⊥)
    → CannotBe nodes p.wall w = λ none.
    subst (λ (x : Want). CannotBe nodes p.wall x) (sym is) (subst (λ (k : ℕ).
    MayHappen nodes (At node (record { wall = k; what = happening })) → ⊥) walls none) in
    comes_done r told chunks p q given w (At node (record { wall = wall; what = happening })) nodes
    behind out out' asks gives cannot h

pub deliver_done : {T E : Type 0} (r : Result T E) (told : Type 0) (chunks : Map) (p q : Player)
    (given : Given) (w : Want) (wall number : ℕ) (nodes behind : Nodes) (out out' : List ℕ)
    → w ≡ want.Deliver number → wall ≡ p.wall → given ≡ given_of w
    → OnOk r (ComesIn p given (Deliver number wall) nodes out out' q behind)
    → OnOk r (DoesIn told chunks p w nodes out out' q behind)
deliver_done r told chunks p q given w wall number nodes behind out out' is walls gives h =
    let asks : asked p.wall w ≡ Some (Deliver number wall) = ap (asked p.wall) is
    ∙ ap (λ (k : ℕ). Some (Deliver number k)) (sym walls) in
    let cannot : (MayHappen nodes (Deliver number wall) → ⊥) → CannotBe nodes p.wall w = λ none.
    subst (λ (x : Want). CannotBe nodes p.wall x) (sym is)
    (subst (λ (k : ℕ). MayHappen nodes (Deliver number k) → ⊥) walls none) in
    comes_done r told chunks p q given w (Deliver number wall) nodes behind out out' asks
    gives cannot h
