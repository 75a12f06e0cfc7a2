-- What is done of what is wanted, where nothing outside fails: one thing.
use Rattle.std.proofs.Common.{◌≡◌, ◌<◌, ℕ, List, Option, Some, None, option_map}
use Rattle.std.proofs.Common.{length, refl, sym, ap, subst, ◌∙◌}
use Rattle.std.specs.Prelude.{slice_get}
use Rattle.std.proofs.lemmas.Option.{slice_get_within}
use Rattle.chunk_map.specs.Map.{Map}
use Rattle.txn_types.specs.declared.event.NodeAnswer.{NodeAnswer}
use Rattle.txn_types.specs.declared.event.NodeEvent.{NodeEvent}
use Rattle.txn_types.specs.declared.message.Envelope.{Envelope}
use Rattle.txn_types.specs.declared.node.NodeId.{NodeId}
use Rattle.txn_types.specs.declared.node.NodeId.TheVariants.{Shard, Router}
use Rattle.txn_model.specs.declared.ran.Ran.{Ran}
use Rattle.txn_model.specs.declared.ran.Ran.TheVariants.{Step, Swapped}
use Rattle.router_state.specs.State.{RouterState}
use Rattle.cluster_core.specs.Nodes.{Nodes}
use Rattle.cluster_core.specs.Trace.{Happens}
use Rattle.cluster_world.specs.World.{HasNode, MayHappen, GoesTo, delivered, event_of}
use Rattle.cluster_world.specs.declared.event.WorldEvent.{WorldEvent}
use Rattle.cluster_world.specs.declared.event.WorldEvent.TheVariants.{At, Deliver}
use Rattle.play_text.specs.Text.{boot_line}
use Rattle.play_steps.specs.declared.want.Want.{Want}
use Rattle.play_steps.specs.declared.want.Want.TheVariants as want
use Rattle.play_steps.specs.Player.{Player}
use Rattle.play_steps.specs.Taking.{where_logs}
use Rattle.play_steps.specs.Steps.{given_of, answer_text, behind_answer}
use Rattle.cluster_play.specs.declared.status.Status.{Status}
use Rattle.cluster_play.specs.Steps.{status_at}
use Rattle.cluster_play.specs.Plays.{asked, IsTaken, IsWanted, CannotBe, Happened, Does}
use Rattle.cluster_play.specs.Plays.{text_behind}
use Rattle.course_laws.specs.Unharmed.{IsUnharmed}
use Rattle.course_laws.specs.Course.{AreSame, ran_uncounted, HaveNothingInHand, BringsBack}
use Rattle.course_laws.proofs.Nodes.{IsUnharmedRan, same_count, same_routers, same_sent, same_boot}
use Rattle.course_laws.proofs.Nodes.{same_back}
use Rattle.course_laws.proofs.Nodes.{steps_once, restarts_once, stays_empty}
use Rattle.course_laws.proofs.Alone.{IsAlone}

-- the node is there
there : (nodes behind : Nodes) (node : NodeId) (e : NodeEvent) (a : NodeAnswer) (f : ℕ)
    → Happens nodes (Step node e a f) behind → HasNode nodes node
there nodes behind (Shard n) e a f h = slice_get_within nodes.shards n h.before h.there
there nodes behind (Router n) e a f h = slice_get_within nodes.routers n h.before h.there

restarts_there : (told : Type 0) (chunks : Map) (nodes behind : Nodes) (node : NodeId)
    → Happened told chunks nodes (Swapped node) behind → HasNode nodes node
restarts_there told chunks nodes behind (Shard n) h =
    slice_get_within nodes.shards n h.before h.there
restarts_there told chunks nodes behind (Router n) h =
    slice_get_within nodes.routers n h.before h.there

has_same : (nodes others : Nodes) (node : NodeId) → AreSame nodes others → HasNode others node
    → HasNode nodes node
has_same nodes others (Shard n) same h =
    subst (λ (k : ℕ). n < k) (sym (same_count nodes others same)) h
has_same nodes others (Router n) same h = subst (λ (xs : List RouterState). n < length xs)
    (sym (same_routers nodes others same)) h

-- What can't be isn't taken.

event_same : (w v : WorldEvent) → ◌≡◌ {A = Option WorldEvent} (Some w) (Some v) → w ≡ v
event_same w v is = cc

abbrev Comes : Type 0
Comes = NodeId × NodeEvent

comes_same : (x y : Comes) → ◌≡◌ {A = Option Comes} (Some x) (Some y) → x ≡ y
comes_same x y is = cc

not_asked : (e : WorldEvent) → ◌≡◌ {A = Option WorldEvent} None (Some e) → ⊥
not_asked e is = cc

goes_to : (nodes : Nodes) (wall : ℕ) (o : Option Envelope) (node : NodeId) (e : NodeEvent)
    → delivered wall o ≡ Some (node, e) → HasNode nodes node → GoesTo nodes o
goes_to nodes wall None node e is has = absurd (cc)
goes_to nodes wall (Some x) node e is has =
    let same : x.to ≡ node = ap (λ (c : Comes). c.0) (comes_same _ (node, e) is) in
    subst (HasNode nodes) (sym same) has

event_may : (nodes : Nodes) (event : WorldEvent) (wall : ℕ) (w : Want) (node : NodeId)
    (e : NodeEvent) → IsAlone w → asked wall w ≡ Some event → event_of nodes event ≡ Some (node, e)
    → HasNode nodes node → MayHappen nodes event
event_may nodes event wall (want.Event n happening) node e alone asks comes has =
    let is : At n (record { wall = wall; what = happening }) ≡ event = event_same _ event asks in
    let of : event_of nodes (At n (record { wall = wall; what = happening })) ≡ Some (node, e) =
    ap (event_of nodes) is ∙ comes in
    let same : n ≡ node = ap (λ (c : Comes). c.0) (comes_same _ (node, e) of) in
    subst (MayHappen nodes) is (subst (HasNode nodes) (sym same) has, alone)
event_may nodes event wall (want.Deliver number) node e alone asks comes has =
    let is : Deliver number wall ≡ event = event_same _ event asks in
    let of : event_of nodes (Deliver number wall) ≡ Some (node, e) = ap (event_of nodes) is
    ∙ comes in
    subst (MayHappen nodes) is (goes_to nodes wall (slice_get nodes.sent number) node e of has)
event_may nodes event wall (want.Renew n) node e alone asks comes has =
    absurd (not_asked event asks)
event_may nodes event wall want.End node e alone asks comes has = absurd (not_asked event asks)
event_may nodes event wall (want.Bad line) node e alone asks comes has =
    absurd (not_asked event asks)
event_may nodes event wall want.Spent node e alone asks comes has = absurd (not_asked event asks)

cannot_take : (nodes : Nodes) (event : WorldEvent) (wall : ℕ) (w : Want)
    → asked wall w ≡ Some event → CannotBe nodes wall w → MayHappen nodes event → ⊥
cannot_take nodes event wall (want.Event n happening) asks cannot may =
    cannot (subst (MayHappen nodes) (sym (event_same _ event asks)) may)
cannot_take nodes event wall (want.Deliver number) asks cannot may =
    cannot (subst (MayHappen nodes) (sym (event_same _ event asks)) may)
cannot_take nodes event wall (want.Renew n) asks cannot may = not_asked event asks
cannot_take nodes event wall want.End asks cannot may = cannot
cannot_take nodes event wall (want.Bad line) asks cannot may = cannot
cannot_take nodes event wall want.Spent asks cannot may = cannot

-- an event comes to the same node
event_at : (nodes others : Nodes) (event : WorldEvent) → AreSame nodes others
    → event_of nodes event ≡ event_of others event
event_at nodes others (At node e) same = refl
event_at nodes others (Deliver number wall) same = ap (λ (xs : List Envelope). delivered wall
    (slice_get xs number)) (same_sent nodes others same)

not_both : (told : Type 0) (chunks : Map) (wall : ℕ) (w : Want) (nodes others behind : Nodes)
    (ran : Ran) → IsAlone w → AreSame nodes others → CannotBe nodes wall w
    → IsWanted others wall w ran → Happened told chunks others ran behind → ⊥
not_both told chunks wall w nodes others behind (Step node e a f) alone same cannot wanted h =
    let has : HasNode nodes node =
    has_same nodes others node same (there others behind node e a f h) in
    cannot_take nodes wanted.event wall w wanted.asks cannot
    (event_may nodes wanted.event wall w node e alone wanted.asks
    (event_at nodes others wanted.event same ∙ wanted.comes) has)
not_both told chunks wall w nodes others behind (Swapped node) alone same cannot wanted h =
    let cannot' : CannotBe nodes wall (want.Renew node) =
    subst (CannotBe nodes wall) wanted cannot in
    cannot' (has_same nodes others node same (restarts_there told chunks others behind node h))

-- What is taken is one thing.

taken_same : (nodes others : Nodes) (wall : ℕ) (w : Want) (node node' : NodeId)
    (e e' : NodeEvent) (a a' : NodeAnswer) → AreSame nodes others → IsTaken nodes wall w node e a
    → IsTaken others wall w node' e' a' → (node ≡ node') × (e ≡ e')
taken_same nodes others wall w node node' e e' a a' same t t' =
    let event : t.event ≡ t'.event = event_same t.event t'.event (sym t.asks ∙ t'.asks) in
    let comes : ◌≡◌ {A = Option Comes} (Some (node, e)) (Some (node', e')) = sym t.comes
    ∙ ap (event_of nodes) event ∙ event_at nodes others t'.event same ∙ t'.comes in
    let one = comes_same (node, e) (node', e') comes in
    (ap (λ (c : Comes). c.0) one, ap (λ (c : Comes). c.1) one)

not_renewed : (wall : ℕ) (w : Want) (node : NodeId) (event : WorldEvent) → w ≡ want.Renew node
    → asked wall w ≡ Some event → ⊥
not_renewed wall w node event is asks = not_asked event (sym (ap (asked wall) is) ∙ asks)

renew_same : (node node' : NodeId) → want.Renew node ≡ want.Renew node' → node ≡ node'
renew_same node node' is = cc

pub record OneDone (p p' : Player) (ran ran' : Ran) (text text' : List ℕ)
    (behind behind' : Nodes) : Type 0 where
  pub item : ran_uncounted ran ≡ ran_uncounted ran'
  pub written : text ≡ text'
  pub player : p ≡ p'
  pub nodes : AreSame behind behind'

module _ (told : Type 0) (chunks : Map) (p : Player) (w : Want) (nodes others : Nodes)
    (same : AreSame nodes others) (none : HaveNothingInHand nodes) where
  step_once : (node : NodeId) (e : NodeEvent) (a a' : NodeAnswer) (f f' : ℕ)
      (behind behind' : Nodes) → Happens nodes (Step node e a f) behind → IsUnharmed a
      → Happens others (Step node e a' f') behind' → IsUnharmed a'
      → OneDone (behind_answer p (given_of w) a) (behind_answer p (given_of w) a')
      (Step node e a f) (Step node e a' f') (answer_text p (given_of w) a)
      (answer_text p (given_of w) a') behind behind'
  step_once node e a a' f f' behind behind' h well h' well' =
      let once = steps_once nodes others behind behind' node e a a' f f' same h well h' well' in
      record {
        item = ap (λ (x : NodeAnswer). Step node e x 0) once.0;
        written = ap (answer_text p (given_of w)) once.0;
        player = ap (behind_answer p (given_of w)) once.0;
        nodes = once.1;
      }

  renew_once : (node : NodeId) (behind behind' : Nodes)
      → BringsBack told nodes (Some (Swapped node))
      → Happened told chunks nodes (Swapped node) behind
      → Happened told chunks others (Swapped node) behind'
      → OneDone p p (Swapped node) (Swapped node) (text_behind p w (Swapped node) behind)
      (text_behind p w (Swapped node) behind') behind behind'
  renew_once node behind behind' b h h' =
      let once = restarts_once told chunks nodes others behind behind' node b none same h h' in
      record {
        item = refl;
        written = ap (λ (boot : ℕ). where_logs p.logs (boot_line node boot))
            (same_boot behind behind' node once);
        player = refl;
        nodes = once;
      }

  ran_once : (ran ran' : Ran) (text text' : List ℕ) (q q' : Player) (behind behind' : Nodes)
      → BringsBack told nodes (Some ran)
      → Does told chunks p w nodes (Some ran) text q behind → IsUnharmedRan ran
      → Does told chunks p w others (Some ran') text' q' behind' → IsUnharmedRan ran'
      → OneDone q q' ran ran' text text' behind behind'
  ran_once (Step node e a f) (Step node' e' a' f') text text' q q' behind behind' b d well d'
      well' =
      let one = taken_same nodes others p.wall w node node' e e' a a' same d.0 d'.0 in
      let at : Happens others (Step node e a' f') behind' =
      subst (λ (x : NodeEvent). Happens others (Step node x a' f') behind') (sym one.1)
      (subst (λ (x : NodeId). Happens others (Step x e' a' f') behind') (sym one.0) d'.1) in
      let once = step_once node e a a' f f' behind behind' d.1 well at well' in
      record {
        item = once.item ∙ ap (λ (x : NodeId). Step x e a' 0) one.0
            ∙ ap (λ (x : NodeEvent). Step node' x a' 0) one.1;
        written = d.2 ∙ once.written ∙ sym d'.2;
        player = d.3 ∙ once.player ∙ sym d'.3;
        nodes = once.nodes;
      }
  ran_once (Step node e a f) (Swapped node') text text' q q' behind behind' b d well d' well' =
      absurd (not_renewed p.wall w node' d.0.event d'.0 d.0.asks)
  ran_once (Swapped node) (Step node' e' a' f') text text' q q' behind behind' b d well d' well' =
      absurd (not_renewed p.wall w node d'.0.event d.0 d'.0.asks)
  ran_once (Swapped node) (Swapped node') text text' q q' behind behind' b d well d' well' =
      let one : node ≡ node' = renew_same node node' (sym d.0 ∙ d'.0) in
      let at : Happened told chunks others (Swapped node) behind' =
      subst (λ (x : NodeId). Happened told chunks others (Swapped x) behind') (sym one) d'.1 in
      let once = renew_once node behind behind' b d.1 at in
      record {
        item = ap Swapped one;
        written = d.2 ∙ once.written
            ∙ ap (λ (x : NodeId). text_behind p w (Swapped x) behind') one ∙ sym d'.2;
        player = d.3 ∙ sym d'.3;
        nodes = once.nodes;
      }

-- Whether it can be or not.

abbrev pub IsUnharmedItem : Option Ran → Type 0
IsUnharmedItem None = Unit {0}
IsUnharmedItem (Some ran) = IsUnharmedRan ran

pub record SameDone (item item' : Option Ran) (text text' : List ℕ) (q q' : Player)
    (behind behind' : Nodes) : Type 0 where
  pub is : option_map ran_uncounted item ≡ option_map ran_uncounted item'
  pub written : text ≡ text'
  pub player : q ≡ q'
  pub nodes : AreSame behind behind'

pub does_once : (told : Type 0) (chunks : Map) (p : Player) (w : Want) (nodes others : Nodes)
    (item item' : Option Ran) (text text' : List ℕ) (q q' : Player) (behind behind' : Nodes)
    → IsAlone w → AreSame nodes others → HaveNothingInHand nodes → BringsBack told nodes item
    → Does told chunks p w nodes item text q behind → IsUnharmedItem item
    → Does told chunks p w others item' text' q' behind' → IsUnharmedItem item'
    → SameDone item item' text text' q q' behind behind'
does_once told chunks p w nodes others None None text text' q q' behind behind' alone same none
    b d well d' well' = record {
      is = refl;
      written = d.1 ∙ sym d'.1;
      player = d.2 ∙ sym d'.2;
      nodes = subst (λ (x : Nodes). AreSame x behind') (sym d.3)
          (subst (λ (x : Nodes). AreSame nodes x) (sym d'.3) same);
    }
does_once told chunks p w nodes others None (Some ran) text text' q q' behind behind' alone same
    none b d well d' well' =
    absurd (not_both told chunks p.wall w nodes others behind' ran alone same d.0 d'.0 d'.1)
does_once told chunks p w nodes others (Some ran) None text text' q q' behind behind' alone same
    none b d well d' well' = absurd (not_both told chunks p.wall w others nodes behind ran
    alone (same_back nodes others same) d'.0 d.0 d.1)
does_once told chunks p w nodes others (Some ran) (Some ran') text text' q q' behind behind' alone
    same none b d well d' well' =
    let once = ran_once told chunks p w nodes others same none ran ran' text text' q q'
    behind behind' b d well d' well' in
    record {
      is = ap Some once.item;
      written = once.written;
      player = once.player;
      nodes = once.nodes;
    }

-- What ends a playing is done by nothing.

no_status : (node : NodeId) (s : Status) → status_at (want.Renew node) ≡ Some s → ⊥
no_status node s is = cc

pub ends_undone : (told : Type 0) (chunks : Map) (p : Player) (w : Want) (nodes : Nodes)
    (item : Option Ran) (text : List ℕ) (q : Player) (behind : Nodes) (s : Status)
    → status_at w ≡ Some s → Does told chunks p w nodes item text q behind → ⊥
ends_undone told chunks p want.End nodes None text q behind s is d = d.0
ends_undone told chunks p (want.Bad line) nodes None text q behind s is d = d.0
ends_undone told chunks p want.Spent nodes None text q behind s is d = d.0
ends_undone told chunks p (want.Event node happening) nodes None text q behind s is d = cc
ends_undone told chunks p (want.Deliver number) nodes None text q behind s is d = cc
ends_undone told chunks p (want.Renew node) nodes None text q behind s is d = cc
ends_undone told chunks p want.End nodes (Some (Step node e a f)) text q behind s is d =
    not_asked d.0.event d.0.asks
ends_undone told chunks p (want.Bad line) nodes (Some (Step node e a f)) text q behind s is d =
    not_asked d.0.event d.0.asks
ends_undone told chunks p want.Spent nodes (Some (Step node e a f)) text q behind s is d =
    not_asked d.0.event d.0.asks
ends_undone told chunks p (want.Event n happening) nodes (Some (Step node e a f)) text q behind s
    is d = cc
ends_undone told chunks p (want.Deliver number) nodes (Some (Step node e a f)) text q behind s is
    d = cc
ends_undone told chunks p (want.Renew n) nodes (Some (Step node e a f)) text q behind s is d = cc
ends_undone told chunks p w nodes (Some (Swapped node)) text q behind s is d =
    no_status node s (sym (ap status_at d.0) ∙ is)

-- Nothing comes to be in hand.
pub does_empty : (told : Type 0) (chunks : Map) (p : Player) (w : Want) (nodes : Nodes)
    (item : Option Ran) (text : List ℕ) (q : Player) (behind : Nodes) → HaveNothingInHand nodes
    → Does told chunks p w nodes item text q behind → IsUnharmedItem item
    → HaveNothingInHand behind
does_empty told chunks p w nodes None text q behind none d well =
    subst HaveNothingInHand (sym d.3) none
does_empty told chunks p w nodes (Some ran) text q behind none d well =
    stays_empty told chunks nodes behind ran none d.1 well

-- what answers keep is kept
pub does_keeps : (I : Player → Type 0) → ((p : Player) (w : Want) (a : NodeAnswer) → I p
    → I (behind_answer p (given_of w) a)) → (told : Type 0) (chunks : Map) (p : Player) (w : Want)
    (nodes : Nodes) (item : Option Ran) (text : List ℕ) (q : Player) (behind : Nodes) → I p
    → Does told chunks p w nodes item text q behind → I q
does_keeps I keeps told chunks p w nodes None text q behind on d = subst I (sym d.2) on
does_keeps I keeps told chunks p w nodes (Some (Step node e a f)) text q behind on d =
    subst I (sym d.3) (keeps p w a on)
does_keeps I keeps told chunks p w nodes (Some (Swapped node)) text q behind on d =
    subst I (sym d.3) on
