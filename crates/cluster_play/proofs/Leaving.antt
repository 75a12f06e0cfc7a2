-- The nodes that a stop leaves.
use Rattle.std.proofs.Common.{◌≡◌, ◌<◌, ℕ, zero, suc, ◌+◌, List, [], ◌∷◌, length, map, remove}
use Rattle.std.proofs.Common.{get_or, slice_get, Option, Some, None, option_map, Result, Ok, Err}
use Rattle.std.proofs.Common.{OnOk, sym, ap, subst, ◌∙◌, arith}
use Rattle.std.proofs.lemmas.List.{length-map}
use Rattle.std.proofs.lemmas.Option.{slice_get-get_or}
use Rattle.router_state.specs.State.{RouterState}
use Rattle.router_store.specs.Routers.{RouterOn}
use Rattle.shard_core.specs.NodeStep.{NodeState}
use Rattle.node_store.specs.Nodes.{ShardOn}
use Rattle.cluster_play.specs.Plays.{boot_at}
use Rattle.txn_types.specs.declared.node.NodeId.TheVariants.{Shard, Router}
use Rattle.cluster_core.specs.Nodes.{Nodes}
use Rattle.cluster_play.specs.Steps.{AreAllBut}

one_gone : {A : Type 0} (xs : List A) (n : ℕ) → n < length xs → length (remove xs n) + 1 ≡ length xs
one_gone [] n h = absurd (omega (arith, h))
one_gone (x ∷ xs) zero h = omega arith
one_gone (x ∷ xs) (suc n) h = let more : length (remove xs n) + 1 ≡ length xs =
    one_gone xs n (omega (arith, h)) in omega (arith, more)

pub shard_gone : (old new : Nodes) (n : ℕ) → n < length old.shards
    → new ≡ record old { shards = remove old.shards n } → AreAllBut (Shard n) old new
shard_gone old new n there is = (
  ap (λ (x : Nodes). length x.shards + 1) is ∙ one_gone old.shards n there,
  ap (λ (x : Nodes). length x.routers) is,
)

pub router_gone : (old new : Nodes) (n : ℕ) → n < length old.routers
    → new ≡ record old { routers = remove old.routers n } → AreAllBut (Router n) old new
router_gone old new n there is = (
  ap (λ (x : Nodes). length x.shards) is,
  ap (λ (x : Nodes). length x.routers + 1) is ∙ one_gone old.routers n there,
)

pub ok_more : {T E : Type 0} (r : Result T E) (P Q : Type 0) → (P → Q) → OnOk r P → OnOk r Q
ok_more (Ok x) P Q f p = f p
ok_more (Err e) P Q f p = tt

got_map : {A B : Type 0} (f : A → B) (xs : List A) (n : ℕ) (x : A) → slice_get xs n ≡ Some x
    → slice_get (map f xs) n ≡ Some (f x)
got_map f [] n x is = cc
got_map f (y ∷ ys) zero x is = ap (option_map f) is
got_map f (y ∷ ys) (suc n) x is = got_map f ys n x is

boot_by : (nodes : Nodes) (n : ℕ) (r : RouterState) → slice_get nodes.routers n ≡ Some r
    → boot_at nodes (Router n) ≡ r.boot
boot_by nodes n r is = ap (λ (x : Option RouterState). elim x [ Some r ↦ r.boot | None ↦ 0 ]) is

-- the boot of the router that stands there
pub boot_router : {L : Type 0} (nodes : Nodes) (items : List (RouterOn L)) (n from : ℕ)
    (r : RouterOn L) → map (λ x. x.router) items ≡ nodes.routers → from ≡ n
    → n < length nodes.routers → r ≡ get_or items from r → boot_at nodes (Router n) ≡ r.router.boot
boot_router {L} nodes items n from r all same there is =
    let f : RouterOn L → RouterState = λ (x : RouterOn L). x.router in
    let long : length nodes.routers ≡ length items =
    ap (λ (l : List RouterState). length l) (sym all) ∙ length-map items f in
    let within : from < length items = omega (arith, same, there, long) in
    let got : slice_get items from ≡ Some r = slice_get-get_or items from r within
    ∙ ap (λ (x : RouterOn L). Some x) (sym is) in
    let at : slice_get nodes.routers n ≡ Some r.router = subst (λ (k : ℕ). slice_get nodes.routers k
    ≡ Some r.router) same (subst (λ (l : List RouterState). slice_get l from ≡ Some r.router)
    all (got_map f items from r got)) in
    boot_by nodes n r.router at

boot_of_shard : (nodes : Nodes) (n : ℕ) (s : NodeState) → slice_get nodes.shards n ≡ Some s
    → boot_at nodes (Shard n) ≡ s.core.part.boot
boot_of_shard nodes n s is =
    ap (λ (x : Option NodeState). elim x [ Some s ↦ s.core.part.boot | None ↦ 0 ]) is

-- the boot of the shard that stands there
pub boot_shard : {L : Type 0} (nodes : Nodes) (items : List (ShardOn L)) (n from : ℕ)
    (s : ShardOn L) → map (λ x. x.node) items ≡ nodes.shards → from ≡ n → n < length nodes.shards
    → s ≡ get_or items from s → boot_at nodes (Shard n) ≡ s.node.core.part.boot
boot_shard {L} nodes items n from s all same there is =
    let f : ShardOn L → NodeState = λ (x : ShardOn L). x.node in
    let long : length nodes.shards ≡ length items = ap (λ (l : List NodeState). length l) (sym all)
    ∙ length-map items f in
    let within : from < length items = omega (arith, same, there, long) in
    let got : slice_get items from ≡ Some s = slice_get-get_or items from s within
    ∙ ap (λ (x : ShardOn L). Some x) (sym is) in
    let at : slice_get nodes.shards n ≡ Some s.node = subst (λ (k : ℕ). slice_get nodes.shards k
    ≡ Some s.node) same (subst (λ (l : List NodeState). slice_get l from ≡ Some s.node) all
    (got_map f items from s got)) in
    boot_of_shard nodes n s.node at
