-- Nodes as their starts left them.
use Rattle.std.proofs.Common.{◌≡◌, ◌<◌, ◌≤◌, ℕ, zero, suc, List, [], ◌∷◌, ◌++◌, length, Some, map}
use Rattle.std.proofs.Common.{refl, sym, ap, subst, ◌∙◌, arith, slice_get, Result, Ok}
use Rattle.std.proofs.lemmas.List.{length-map}
use Rattle.journal_rec.specs.declared.record.Rec.{Rec}
use Rattle.journal_core.proofs.Spelling.{young_reads}
use Rattle.record_store.specs.Found.{FoundIn, records_of}
use Rattle.node_store.specs.Starts.{StartsFrom}
use Rattle.shard_core.specs.NodeStep.{NodeState, started as start_of}
use Rattle.chunk_map.specs.Map.{Map}
use Rattle.router_state.specs.State.{RouterState, fresh_router}
use Rattle.node_store.specs.Nodes.{ShardOn}
use Rattle.router_store.specs.Boots.{next_boot}
use Rattle.router_store.specs.Routers.{RouterOn, StartsFrom as BootsFrom}
use Rattle.record_store.specs.Logged.{DiskRecords}
use Rattle.cluster_conf.specs.Conf.{Settings}
use Rattle.cluster_play.specs.Ended.{AreStarted}
use Rattle.cluster_play.specs.Steps.{nodes_of}
use Rattle.cluster_play.specs.Starting.{IsStarted, AllStarted, IsBooted, AllBooted, shard_states}
use Rattle.cluster_play.specs.Starting.{router_states}

ok_same : {A B : Type 0} {x y : A} → ◌≡◌ {A = Result A B} (Ok x) (Ok y) → x ≡ y
ok_same is = cc

-- a disk of 17 bytes at most has no record
pub none_found : (told tells : Type 0) (file : List ℕ) (recs : List Rec) → (told → tells)
    → (tells → length file ≤ 17) → FoundIn tells file recs → told → recs ≡ []
none_found told tells file recs tell short found t =
    let payloads : found.payloads ≡ [] =
    ok_same (sym (found.file_has (tell t)) ∙ young_reads file (short (tell t))) in
    ok_same (sym found.are ∙ ap records_of payloads)

-- so a shard that starts from it has none
pub started_new : (told tells : Type 0) (n : ℕ) (s : NodeState) (file : List ℕ) → (told → tells)
    → (tells → length file ≤ 17) → StartsFrom n tells file s → IsStarted told n s
started_new told tells n s file tell short from = record {
  recs = from.recs;
  faults = s.faults;
  new = none_found told tells file from.recs tell short from.found;
  starts = from.starts;
}

-- and a router is at its first boot
pub booted_new : (told tells : Type 0) (n : ℕ) (chunks : Map) (r : RouterState) (recs : List Rec)
    (file : List ℕ) → (told → tells) → (tells → length file ≤ 17)
    → BootsFrom n chunks tells file r recs → IsBooted told chunks n r
booted_new told tells n chunks r recs file tell short from = (
  next_boot from.recs,
  (λ t. ap next_boot (none_found told tells file from.recs tell short from.found t)),
  from.boots.fresh,
)

-- one more at the end of a list
all_push : {A : Type 0} (P : ℕ → A → Type 0) (xs : List A) (x : A)
    → ((n : ℕ) (a : A) → slice_get xs n ≡ Some a → P n a) → P (length xs) x → (n : ℕ) (a : A)
    → slice_get (xs ++ x ∷ []) n ≡ Some a → P n a
all_push P [] x all one zero a is = let same : x ≡ a = cc in subst (P zero) same one
all_push P [] x all one (suc n) a is = cc
all_push P (y ∷ ys) x all one zero a is = all zero a is
all_push P (y ∷ ys) x all one (suc n) a is =
    all_push (λ k b. P (suc k) b) ys x (λ k b. all (suc k) b) one n a is

map_push : {A B : Type 0} (f : A → B) (xs : List A) (x : A)
    → map f (xs ++ x ∷ []) ≡ map f xs ++ f x ∷ []
map_push f [] x = refl
map_push f (y ∷ ys) x = ap (λ zs. f y ∷ zs) (map_push f ys x)

pub shards_push : {D : Type 0} (told : Type 0) (shards new : List (ShardOn (DiskRecords D)))
    (node : ShardOn (DiskRecords D)) (shard : ℕ) → new ≡ shards ++ node ∷ [] → shard ≡ length shards
    → AllStarted told (shard_states shards) → IsStarted told shard node.node
    → AllStarted told (shard_states new)
shards_push {D} told shards new node shard is place all one =
    let f : ShardOn (DiskRecords D) → NodeState = λ (n : ShardOn (DiskRecords D)). n.node in
    let at : length (map f shards) ≡ shard = length-map shards f ∙ sym place in
    let last : IsStarted told (length (map f shards)) node.node =
    subst (λ (k : ℕ). IsStarted told k node.node) (sym at) one in
    let pushed : shard_states new ≡ map f shards ++ node.node ∷ [] =
    ap (λ (l : List (ShardOn (DiskRecords D))). map f l) is ∙ map_push f shards node in
    subst (AllStarted told) (sym pushed)
    (all_push (IsStarted told) (map f shards) node.node all last)

pub routers_push : {D : Type 0} (told : Type 0) (chunks : Map) (routers new : List (RouterOn (DiskRecords D)))
    (node : RouterOn (DiskRecords D)) (router : ℕ) → new ≡ routers ++ node ∷ []
    → router ≡ length routers
    → AllBooted told chunks (router_states routers) → IsBooted told chunks router node.router
    → AllBooted told chunks (router_states new)
routers_push {D} told chunks routers new node router is place all one =
    let f : RouterOn (DiskRecords D) → RouterState = λ (n : RouterOn (DiskRecords D)). n.router in
    let at : length (map f routers) ≡ router = length-map routers f ∙ sym place in
    let last : IsBooted told chunks (length (map f routers)) node.router =
    subst (λ (k : ℕ). IsBooted told chunks k node.router) (sym at) one in
    let pushed : router_states new ≡ map f routers ++ node.router ∷ [] =
    ap (λ (l : List (RouterOn (DiskRecords D))). map f l) is ∙ map_push f routers node in
    subst (AllBooted told chunks) (sym pushed)
    (all_push (IsBooted told chunks) (map f routers) node.router all last)

-- none
pub none_started : (told : Type 0) (shards : List NodeState) → length shards ≡ 0
    → AllStarted told shards
none_started told [] none = λ n s is. cc
none_started told (s ∷ shards) none = absurd (omega (arith, none))

pub none_booted : (told : Type 0) (chunks : Map) (routers : List RouterState) → length routers ≡ 0
    → AllBooted told chunks routers
none_booted told chunks [] none = λ n r is. cc
none_booted told chunks (r ∷ routers) none = absurd (omega (arith, none))

pub are_started : {D : Type 0} (told : Type 0) (conf : Settings) (shards : List (ShardOn (DiskRecords D)))
    (routers : List (RouterOn (DiskRecords D))) → 1 ≤ conf.shards → conf.map.shards ≡ conf.shards
    → AllStarted told (shard_states shards) → AllBooted told conf.map (router_states routers)
    → length shards ≡ conf.shards → length routers ≡ conf.routers
    → AreStarted told conf (nodes_of shards routers)
are_started {D} told conf shards routers some same started booted count many =
    let f : ShardOn (DiskRecords D) → NodeState = λ (n : ShardOn (DiskRecords D)). n.node in
    let h : RouterOn (DiskRecords D) → RouterState = λ (n : RouterOn (DiskRecords D)). n.router in
    let states : length (map f shards) ≡ conf.shards = length-map shards f ∙ count in
    record {
      fresh = record {
        shards = λ n s is. let one = started n s is in (one.recs, one.faults, one.starts);
        routers = λ n r is. let one = booted n r is in (one.0, one.2);
        sent = refl;
        count = same ∙ sym states;
        some = subst (λ (k : ℕ). 0 < k) (sym states) (omega (arith, some));
      };
      new = λ t n s is.
          let one = started n s is in (
            one.faults,
            subst (λ (r : List Rec). start_of n r one.faults ≡ Some s) (one.new t) one.starts,
          );
      booted = λ t n r is.
          let one = booted n r is in one.2 ∙ ap (λ (b : ℕ). fresh_router n b conf.map) (one.1 t);
      shards = states;
      routers = length-map routers h ∙ many;
    }
