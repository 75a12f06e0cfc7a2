-- What a player keeps to is kept by turns; so a schedule without a restart is a run.
use Rattle.std.proofs.Common.{◌≡◌, ℕ, List, [], ◌∷◌, Option, Some, None, refl, sym, subst}
use Rattle.chunk_map.specs.Map.{Map}
use Rattle.txn_model.specs.declared.ran.Ran.{Ran}
use Rattle.txn_model.specs.declared.ran.Ran.TheVariants.{Step, Swapped}
use Rattle.cluster_core.specs.Nodes.{Nodes}
use Rattle.cluster_core.specs.Trace.{Happens}
use Rattle.cluster_world.specs.declared.event.WorldEvent.{WorldEvent}
use Rattle.play_steps.specs.declared.want.Want.{Want}
use Rattle.play_steps.specs.declared.want.Want.TheVariants as want
use Rattle.play_steps.specs.Player.{Player}
use Rattle.play_steps.specs.Lines.{Next, HaveNoRestart, next}
use Rattle.play_steps.specs.Steps.{given_of}
use Rattle.play_steps.proofs.Keeping.{AllAre, IsKept, Goes, IsNext, answer_on}
use Rattle.play_steps.proofs.Calm.{IsNoRenew, stays_calm}
use Rattle.cluster_play.specs.Plays.{asked, CannotBe, Does, dump_at, next_at, PlaysTo, IsCalm, IsRun}

abbrev pub Stays : (List (List ℕ) → Type 0) → (Want → Type 0) → Type 0
Stays P W = (dump : List ℕ) (p : Player) → IsKept P W p → IsNext P W (next dump p)

cannot_on : (P : List (List ℕ) → Type 0) (W : Want → Type 0) (nodes : Nodes) (wall : ℕ) (w : Want)
    (p : Player) → Goes P W w p → CannotBe nodes wall w → IsKept P W p
cannot_on P W nodes wall (want.Event node happening) p on cannot = on
cannot_on P W nodes wall (want.Deliver number) p on cannot = on
cannot_on P W nodes wall (want.Renew node) p on cannot = on.1
cannot_on P W nodes wall want.End p on cannot = absurd cannot
cannot_on P W nodes wall (want.Bad line) p on cannot = absurd cannot
cannot_on P W nodes wall want.Spent p on cannot = absurd cannot

not_asked : (e : WorldEvent) → ◌≡◌ {A = Option WorldEvent} None (Some e) → ⊥
not_asked e is = cc

asked_on : (P : List (List ℕ) → Type 0) (W : Want → Type 0) (wall : ℕ) (w : Want)
    (event : WorldEvent) (p : Player) → Goes P W w p → asked wall w ≡ Some event → IsKept P W p
asked_on P W wall (want.Event node happening) event p on is = on
asked_on P W wall (want.Deliver number) event p on is = on
asked_on P W wall (want.Renew node) event p on is = on.1
asked_on P W wall want.End event p on is = absurd (not_asked event is)
asked_on P W wall (want.Bad line) event p on is = absurd (not_asked event is)
asked_on P W wall want.Spent event p on is = absurd (not_asked event is)

does_on : (P : List (List ℕ) → Type 0) (W : Want → Type 0) (told : Type 0) (chunks : Map)
    (p : Player) (w : Want) (nodes : Nodes) (item : Option Ran) (text : List ℕ) (q : Player)
    (behind : Nodes) → Goes P W w p → Does told chunks p w nodes item text q behind → IsKept P W q
does_on P W told chunks p w nodes None text q behind on d =
    subst (IsKept P W) (sym d.2) (cannot_on P W nodes p.wall w p on d.0)
does_on P W told chunks p w nodes (Some (Step node e a faults)) text q behind on d =
    subst (IsKept P W) (sym d.3) (answer_on P W p (given_of w) a
    (asked_on P W p.wall w d.0.event p on d.0.asks))
does_on P W told chunks p w nodes (Some (Swapped node)) text q behind on d =
    let at : Goes P W (want.Renew node) p = subst (λ (x : Want). Goes P W x p) d.0 on in
    subst (IsKept P W) (sym d.3) at.1

pub plays_on : (P : List (List ℕ) → Type 0) (W : Want → Type 0) → Stays P W → (told : Type 0)
    (chunks : Map) (p : Player) (nodes : Nodes) (items : List (Option Ran)) (text : List ℕ)
    (q : Player) (behind : Nodes) → IsKept P W p
    → PlaysTo told chunks p nodes items text q behind → IsKept P W q
plays_on P W stays told chunks p nodes [] text q behind on h = subst (IsKept P W) (sym h.1) on
plays_on P W stays told chunks p nodes (item ∷ items) text q behind on h =
    let n : Next = next_at chunks nodes p in
    plays_on P W stays told chunks h.2 h.3 items h.1 q behind
    (does_on P W told chunks n.2 n.1 nodes item h.4.0 h.2 h.3 (stays (dump_at chunks nodes) p on)
    h.4.2) h.6

-- Without a restart each item happens.

abbrev Calm : Player → Type 0
Calm p = IsKept HaveNoRestart IsNoRenew p

happens_on : (told : Type 0) (chunks : Map) (p : Player) (w : Want) (nodes : Nodes) (ran : Ran)
    (text : List ℕ) (q : Player) (behind : Nodes) → Goes HaveNoRestart IsNoRenew w p
    → Does told chunks p w nodes (Some ran) text q behind → Happens nodes ran behind
happens_on told chunks p w nodes (Step node e a faults) text q behind on d = d.1
happens_on told chunks p w nodes (Swapped node) text q behind on d =
    let at : Goes HaveNoRestart IsNoRenew (want.Renew node) p =
    subst (λ (x : Want). Goes HaveNoRestart IsNoRenew x p) d.0 on in absurd at.0

runs_on : (told : Type 0) (chunks : Map) (p : Player) (nodes : Nodes) (items : List (Option Ran))
    (text : List ℕ) (q : Player) (behind : Nodes) → Calm p
    → PlaysTo told chunks p nodes items text q behind → IsRun nodes items behind
runs_on told chunks p nodes [] text q behind on h = ([], h.2)
runs_on told chunks p nodes (None ∷ items) text q behind on h =
    let n : Next = next_at chunks nodes p in
    let later : Calm h.2 = does_on HaveNoRestart IsNoRenew told chunks n.2 n.1 nodes None h.4.0 h.2
    h.3 (stays_calm (dump_at chunks nodes) p on) h.4.2 in
    subst (λ (x : Nodes). IsRun x items behind) h.4.2.3
    (runs_on told chunks h.2 h.3 items h.1 q behind later h.6)
runs_on told chunks p nodes (Some ran ∷ items) text q behind on h =
    let n : Next = next_at chunks nodes p in
    let goes : Goes HaveNoRestart IsNoRenew n.1 n.2 = stays_calm (dump_at chunks nodes) p on in
    let later : Calm h.2 = does_on HaveNoRestart IsNoRenew told chunks n.2 n.1 nodes (Some ran)
    h.4.0 h.2 h.3 goes h.4.2 in
    let more = runs_on told chunks h.2 h.3 items h.1 q behind later h.6 in (
      nodes ∷ more.0,
      (refl, (h.3, happens_on told chunks n.2 n.1 nodes ran h.4.0 h.2 h.3 goes h.4.2, more.1)),
    )

pub calm_run : (told : Type 0) (chunks : Map) (p : Player) (nodes : Nodes)
    (items : List (Option Ran)) (text : List ℕ) (q : Player) (behind : Nodes) → IsCalm p
    → PlaysTo told chunks p nodes items text q behind → IsRun nodes items behind
calm_run told chunks p nodes items text q behind calm h =
    runs_on told chunks p nodes items text q behind
    (calm.0, subst (AllAre IsNoRenew) (sym calm.1) tt) h
