-- Disks at their places.
use Rattle.std.proofs.Common.{◌≡◌, ◌≤◌, ℕ, zero, suc, List, [], ◌∷◌, ◌++◌, length, take, drop, map}
use Rattle.std.proofs.Common.{insert, refl, sym, ap, ◌∙◌, append_assoc, arith}
use Rattle.std.proofs.lemmas.List.{take-append-drop}
use Rattle.node_store.specs.Nodes.{ShardOn}
use Rattle.router_store.specs.Routers.{RouterOn}
use Rattle.record_store.specs.Logged.{DiskRecords}
use Rattle.cluster_play.specs.Starting.{shard_disks, router_disks, behind_shards}

map_pushed : {A B : Type 0} (f : A → B) (xs : List A) (x : A) (ys : List B)
    → map f (xs ++ x ∷ []) ++ ys ≡ map f xs ++ f x ∷ ys
map_pushed f [] x ys = refl
map_pushed f (z ∷ zs) x ys = ap (λ l. f z ∷ l) (map_pushed f zs x ys)

-- the last shard's disk is put in front
pub shards_popped : {D : Type 0} (old new : List (ShardOn (DiskRecords D)))
    (node : ShardOn (DiskRecords D)) (disk : D) (disks more all : List D)
    → old ≡ new ++ node ∷ [] → disk ≡ node.log.journal.disk → more ≡ insert disks 0 disk
    → shard_disks old ++ disks ≡ all → shard_disks new ++ more ≡ all
shards_popped {D} old new node disk disks more all parts its put is =
    let d : ShardOn (DiskRecords D) → D = λ (n : ShardOn (DiskRecords D)). n.log.journal.disk in
    let pushed : map d old ++ disks ≡ map d new ++ d node ∷ disks =
    ap (λ (l : List (ShardOn (DiskRecords D))). map d l ++ disks) parts
    ∙ map_pushed d new node disks in
    let there : more ≡ d node ∷ disks = put ∙ ap (λ (x : D). x ∷ disks) its in
    ap (λ (l : List D). map d new ++ l) there ∙ sym pushed ∙ is

pub take_insert : {A : Type 0} (xs : List A) (n : ℕ) (x : A) → n ≤ length xs
    → take n (insert xs n x) ≡ take n xs
take_insert xs zero x h = refl
take_insert [] (suc n) x h = absurd (omega (arith, h))
take_insert (y ∷ ys) (suc n) x h = ap (λ l. y ∷ l) (take_insert ys n x (omega (arith, h)))

pub drop_insert : {A : Type 0} (xs : List A) (n : ℕ) (x : A) → n ≤ length xs
    → drop n (insert xs n x) ≡ x ∷ drop n xs
drop_insert xs zero x h = refl
drop_insert [] (suc n) x h = absurd (omega (arith, h))
drop_insert (y ∷ ys) (suc n) x h = drop_insert ys n x (omega (arith, h))

-- the last router's disk is put in after the shards'
pub routers_popped : {D : Type 0} (old new : List (RouterOn (DiskRecords D)))
    (node : RouterOn (DiskRecords D)) (disk : D) (disks more all : List D)
    → old ≡ new ++ node ∷ [] → disk ≡ node.log.journal.disk → more ≡ insert disks 16 disk
    → 16 ≤ length disks → router_disks old ++ drop 16 disks ≡ all
    → router_disks new ++ drop 16 more ≡ all
routers_popped {D} old new node disk disks more all parts its put many is =
    let d : RouterOn (DiskRecords D) → D = λ (n : RouterOn (DiskRecords D)). n.log.journal.disk in
    let pushed : map d old ++ drop 16 disks ≡ map d new ++ d node ∷ drop 16 disks =
    ap (λ (l : List (RouterOn (DiskRecords D))). map d l ++ drop 16 disks) parts
    ∙ map_pushed d new node (drop 16 disks) in
    let there : drop 16 more ≡ d node ∷ drop 16 disks = ap (λ (l : List D). drop 16 l) put
    ∙ drop_insert disks 16 disk many ∙ ap (λ (x : D). x ∷ drop 16 disks) its in
    ap (λ (l : List D). map d new ++ l) there ∙ sym pushed ∙ is

pub front_kept : {D : Type 0} (disk : D) (disks more all : List D) → more ≡ insert disks 16 disk
    → 16 ≤ length disks → take 16 disks ≡ all → take 16 more ≡ all
front_kept {D} disk disks more all put many is = ap (λ (l : List D). take 16 l) put
    ∙ take_insert disks 16 disk many ∙ is

-- all are there
pub routers_there : {D : Type 0} (routers : List D) (old new : List D) → take 16 new ≡ take 16 old
    → drop 16 new ≡ routers ++ drop 16 old → new ≡ behind_shards old routers
routers_there {D} routers old new front behind =
    sym (take-append-drop 16 new) ∙ ap (λ (l : List D). l ++ drop 16 new) front
    ∙ ap (λ (l : List D). take 16 old ++ l) behind
    ∙ sym (append_assoc (take 16 old) routers (drop 16 old))
