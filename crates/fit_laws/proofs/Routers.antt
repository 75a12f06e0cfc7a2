-- What routers name fits, after each event: in their sessions, in what they wait for and in what
-- was sent.
use Rattle.std.proofs.Common.{◌≡◌, inl, inr, ◌<◌, ◌^◌, ◌++◌, ℕ, Bool, All, List, []}
use Rattle.std.proofs.Common.{Option, Some, None, refl, sym, ap, subst, ◌∙◌, arith}
use Rattle.std.proofs.Common.{slice_get, slice_set}
use Rattle.std.specs.Prelude.{Contains}
use Rattle.std.proofs.lemmas.Option.{get_or_from_slice_get, slice_get_within}
use Rattle.std.proofs.lemmas.List.Elements.{All-nil, All-contains}
use Rattle.std.proofs.lemmas.List.Elements.{Contains-append_cases, filter_map-append}
use Rattle.txn_types.specs.Letters.{Named, named_in, given_out}
use Rattle.txn_types.specs.declared.event.NodeAnswer.{NodeAnswer}
use Rattle.txn_types.specs.declared.event.NodeEvent.{NodeEvent}
use Rattle.txn_types.specs.declared.message.Envelope.{Envelope}
use Rattle.txn_types.specs.declared.node.NodeId.TheVariants.{Shard, Router}
use Rattle.chunk_map.specs.Map.{Map}
use Rattle.router_state.specs.State.{RouterState, fresh_router}
use Rattle.router_core.specs.Step.{RouterTakes, router_step}
use Rattle.txn_model.specs.declared.ran.Ran.{Ran}
use Rattle.txn_model.specs.declared.ran.Ran.TheVariants.{Step, Swapped}
use Rattle.cluster_core.specs.Nodes.{Nodes}
use Rattle.cluster_core.specs.Trace.{Happens, IsFresh, again}
use Rattle.shard_core.specs.Effect.{SentNames}
use Rattle.world_laws.specs.Begins.{EntryNames, Leaves, RouterNames, begins}
use Rattle.world_laws.specs.Joint.{Stands}
use Rattle.world_laws.proofs.Beginning.{step_leaves, step_names}
use Rattle.world_laws.proofs.Lists.{get_set}
use Rattle.world_laws.proofs.Tags.{back_sent, names, names_all, names_back, same_back}
use Rattle.fit_laws.specs.Bytes.{BringsBytes, ComesOn, IsOfBytes, IsOnConnection, RoutersFit}
use Rattle.fit_laws.proofs.Drawn.{OwnEntry, step_drawn}
use Rattle.fit_laws.proofs.Named.{NameFits, RouterFits, step_begins}

-- the router of that number
record RouterStands (n : ℕ) (r : RouterState) : Type 0 where
  number : r.number ≡ n
  fits : RouterFits r
  names : RouterNames NameFits r

abbrev RoutersStand : List RouterState → Type 0
RoutersStand routers = (n : ℕ) (r : RouterState) → slice_get routers n ≡ Some r → RouterStands n r

abbrev NamesFit : List Envelope → Type 0
NamesFit sent = (x : Named) → Contains (names sent) x → NameFits x

pub record NamesStand (nodes : Nodes) : Type 0 where
  routers : RoutersStand nodes.routers
  pub sent : NamesFit nodes.sent

-- A router's step.

leaves_number : (r t : RouterState) (o : Option Named) → Leaves r t o
    → (t.number ≡ r.number) × (t.boot ≡ r.boot)
leaves_number r t None h = (h.number, h.boot)
leaves_number r t (Some x) h = (h.number, h.boot)

takes_names : (n : ℕ) (r : RouterState) (e : NodeEvent) (a : NodeAnswer) (t : RouterState)
    → RouterTakes r e a t → BringsBytes e.what → ComesOn e.what → RouterStands n r
    → RouterStands n t × SentNames NameFits (given_out a)
takes_names n r e a t h bytes on s =
    let want : Bool = h.0 in
    let turn : RouterState = (router_step want r e).state in
    let k = step_names NameFits want r e (step_begins want r e bytes on s.fits) s.names in
    let same = leaves_number r turn (begins want r e) (step_leaves want r e) in
    let stands : RouterStands n turn = record {
      number = same.0 ∙ s.number;
      fits = record {
        number = subst (λ (k : ℕ). k < 2 ^ 16) (sym same.0) s.fits.number;
        boot = subst (λ (k : ℕ). k < 2 ^ 32) (sym same.1) s.fits.boot;
        drawn = step_drawn want r e bytes s.fits.drawn;
      };
      names = k.state;
    } in (
      subst (RouterStands n) (sym h.2) stands,
      subst (λ (x : NodeAnswer). SentNames NameFits (given_out x)) (sym h.1) k.out,
    )

set_routers : (routers : List RouterState) (n : ℕ) (after : RouterState) → RoutersStand routers
    → RouterStands n after → RoutersStand (slice_set routers n after)
set_routers routers n after h this number r e = elim (get_set routers n number after r e) [
  | inl w ↦
      subst (RouterStands number) w.1 (subst (λ (k : ℕ). RouterStands k after) (sym w.0) this)
  | inr w ↦ h number r w
]

more_names : (sent out : List Envelope) → NamesFit sent → SentNames NameFits out
    → NamesFit (sent ++ out)
more_names sent out h k x here =
    elim (Contains-append_cases (names sent) (names out) x
    (subst (λ (ns : List Named). Contains ns x)
    (filter_map-append (λ (e : Envelope). named_in e.msg) sent out) here)) [
      | inl w ↦ h x w
      | inr w ↦ All-contains NameFits (names out) x (names_all NameFits out k) w
    ]

-- a router that starts again

again_stands : (n : ℕ) (before : RouterState) → before.boot < 4294967294 → RouterStands n before
    → RouterStands n (again n before)
again_stands n before left s = record {
  number = refl;
  fits = record {
    number = subst (λ (k : ℕ). k < 2 ^ 16) s.number s.fits.number;
    boot = omega (arith, left);
    drawn = All-nil (OwnEntry 0);
  };
  names = All-nil (EntryNames NameFits);
}

-- Each event.

same_routers : (old new : Nodes) → new.routers ≡ old.routers → RoutersStand old.routers
    → RoutersStand new.routers
same_routers old new e h = subst RoutersStand (sym e) h

pub names_step : (old : Nodes) (ran : Ran) (new : Nodes) → Happens old ran new → Stands old
    → IsOfBytes ran → IsOnConnection ran → NamesStand old → NamesStand new
names_step old (Step (Shard n) e a faults) new h s bytes on k = record {
  routers = same_routers old new (ap (λ (w : Nodes). w.routers) h.nodes) k.routers;
  sent = λ x here. k.sent x (back_sent old new (given_out a) (ap (λ (w : Nodes). w.sent) h.nodes)
      (names_back old n e a h.before h.after h.there h.comes h.takes s.plans).1 x here);
}
names_step old (Step (Router n) e a faults) new h s bytes on k =
    let t = takes_names n h.before e a h.after h.takes bytes on (k.routers n h.before h.there) in
    record {
      routers = subst RoutersStand (sym (ap (λ (w : Nodes). w.routers) h.nodes))
          (set_routers old.routers n h.after k.routers t.0);
      sent = subst NamesFit (sym (ap (λ (w : Nodes). w.sent) h.nodes))
          (more_names old.sent (given_out a) k.sent t.1);
    }
names_step old (Swapped (Shard n)) new h s bytes on k = record {
  routers = same_routers old new (ap (λ (w : Nodes). w.routers) h.nodes) k.routers;
  sent = λ x here. k.sent x (same_back old new (ap (λ (w : Nodes). w.sent) h.nodes) x here);
}
names_step old (Swapped (Router n)) new h s bytes on k = record {
  routers = subst RoutersStand (sym (ap (λ (w : Nodes). w.routers) h.nodes))
      (set_routers old.routers n (again n h.before) k.routers
      (again_stands n h.before h.left (k.routers n h.before h.there)));
  sent = λ x here. k.sent x (same_back old new (ap (λ (w : Nodes). w.sent) h.nodes) x here);
}

-- A first start.

at_place : {A : Type 0} (P : A → Type 0) (xs : List A) (n : ℕ) (x : A) → All P xs
    → slice_get xs n ≡ Some x → P x
at_place P xs n x h e =
    subst P (get_or_from_slice_get xs n x x e) (h n x (slice_get_within xs n x e))

fresh_stands : (chunks : Map) (n boot : ℕ) → n < 2 ^ 16 → boot < 2 ^ 32
    → RouterStands n (fresh_router n boot chunks)
fresh_stands chunks n boot h k = record {
  number = refl;
  fits = record { number = h; boot = k; drawn = All-nil (OwnEntry 0) };
  names = All-nil (EntryNames NameFits);
}

none_has : (x : Named) → Contains [] x → ⊥
none_has x h = absurd (omega (arith, h.1))

pub names_first : (chunks : Map) (start : Nodes) → IsFresh chunks start → RoutersFit start
    → NamesStand start
names_first chunks start h fit = record {
  routers = λ n r e.
      let is = h.routers n r e in
      let below = slice_get_within start.routers n r e in
      let boot : (fresh_router n is.0 chunks).boot < 2 ^ 32 =
      subst (λ (x : RouterState). x.boot < 2 ^ 32) is.1
      (at_place (λ (x : RouterState). x.boot < 2 ^ 32) start.routers n r fit.boots e) in
      subst (RouterStands n) (sym is.1)
      (fresh_stands chunks n is.0 (omega (arith, below, fit.count)) boot);
  sent = λ x here. absurd (none_has x
      (subst (λ (sent : List Envelope). Contains (names sent) x) h.sent here));
}
