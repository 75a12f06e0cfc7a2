-- Nodes of one configuration that start on new disks are the same, but for how often their disks
-- have failed.
use Rattle.std.proofs.Common.{◌≡◌, ℕ, suc, List, [], ◌∷◌, map, length, Some, refl, sym, ap, ◌∙◌, arith}
use Rattle.std.specs.Prelude.{slice_get}
use Rattle.std.proofs.lemmas.List.{map-id}
use Rattle.txn_types.specs.declared.message.Envelope.{Envelope}
use Rattle.shard_core.specs.NodeStep.{NodeState}
use Rattle.router_state.specs.State.{RouterState}
use Rattle.cluster_conf.specs.Conf.{Settings}
use Rattle.cluster_core.specs.Nodes.{Nodes}
use Rattle.cluster_play.specs.Ended.{AreStarted}
use Rattle.course_laws.specs.Course.{AreSame, uncounted}
use Rattle.course_laws.proofs.Taking.{starts_once}

-- lists are the same as far as they are at each place
places_same : {A B : Type 0} (f : A → B) (xs ys : List A) → length xs ≡ length ys
    → ((n : ℕ) (x y : A) → slice_get xs n ≡ Some x → slice_get ys n ≡ Some y → f x ≡ f y)
    → map f xs ≡ map f ys
places_same f [] [] long same = refl
places_same f [] (y ∷ ys) long same = absurd (omega (arith, long))
places_same f (x ∷ xs) [] long same = absurd (omega (arith, long))
places_same {B = B} f (x ∷ xs) (y ∷ ys) long same =
    ap (λ (b : B). b ∷ map f xs) (same 0 x y refl refl)
    ∙ ap (λ (bs : List B). f y ∷ bs) (places_same f xs ys (omega (arith, long))
    (λ n a b at at'. same (suc n) a b at at'))

abbrev as_nodes : List NodeState → List RouterState → List Envelope → Nodes
as_nodes shards routers sent = record { shards = shards; routers = routers; sent = sent }

pub starts_same : (told : Type 0) (conf : Settings) (start others : Nodes) → told
    → AreStarted told conf start → AreStarted told conf others → AreSame start others
starts_same told conf start others t h h' =
    let shards : map uncounted start.shards ≡ map uncounted others.shards =
    places_same uncounted start.shards others.shards (h.shards ∙ sym h'.shards)
    (λ n x y at at'.
    let a = h.new t n x at in
    let b = h'.new t n y at' in
    starts_once n [] a.0 b.0 x y a.1 b.1) in
    let routers : start.routers ≡ others.routers =
    sym (map-id start.routers)
    ∙ places_same (λ (r : RouterState). r) start.routers others.routers
    (h.routers ∙ sym h'.routers)
    (λ n x y at at'. h.booted t n x at ∙ sym (h'.booted t n y at'))
    ∙ map-id others.routers in
    ap (λ (xs : List NodeState). as_nodes xs start.routers start.sent) shards
    ∙ ap (λ (rs : List RouterState). as_nodes (map uncounted others.shards) rs start.sent) routers
    ∙ ap (as_nodes (map uncounted others.shards) others.routers)
    (h.fresh.sent ∙ sym h'.fresh.sent)
