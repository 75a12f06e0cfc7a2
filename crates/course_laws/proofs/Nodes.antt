-- Nodes that are the same but for counts of faults: what happens to them is the same.
use Rattle.std.proofs.Common.{◌≡◌, inl, inr, ◌+◌, ℕ, List, [], ◌∷◌, ◌++◌, map, length, Option, Some}
use Rattle.std.proofs.Common.{None}
use Rattle.std.proofs.Common.{option_map, refl, sym, ap, subst, ◌∙◌}
use Rattle.std.specs.Prelude.{slice_get, slice_set}
use Rattle.std.proofs.lemmas.List.{map-set, length-map, append-nil}
use Rattle.std.proofs.lemmas.Option.{slice_get-map}
use Rattle.txn_types.specs.Letters.{given_out}
use Rattle.txn_types.specs.declared.event.NodeAnswer.{NodeAnswer}
use Rattle.txn_types.specs.declared.event.NodeAnswer.TheVariants as answer
use Rattle.txn_types.specs.declared.event.NodeEvent.{NodeEvent}
use Rattle.txn_types.specs.declared.message.Envelope.{Envelope}
use Rattle.txn_types.specs.declared.node.NodeId.{NodeId}
use Rattle.txn_types.specs.declared.node.NodeId.TheVariants.{Shard, Router}
use Rattle.txn_model.specs.declared.ran.Ran.{Ran}
use Rattle.txn_model.specs.declared.ran.Ran.TheVariants.{Step, Swapped}
use Rattle.journal_rec.specs.declared.record.Rec.{Rec}
use Rattle.log_laws.specs.Fitting.{AllFit}
use Rattle.shard_core.specs.NodeStep.{NodeState, started}
use Rattle.chunk_map.specs.Map.{Map}
use Rattle.router_state.specs.State.{RouterState, fresh_router}
use Rattle.router_core.specs.Step.{RouterTakes}
use Rattle.txn_model.specs.Commits.{commits}
use Rattle.cluster_core.specs.Nodes.{Nodes, journals_of, commits_of}
use Rattle.cluster_core.specs.Trace.{Happens, MayRemain}
use Rattle.cluster_play.specs.Plays.{StartsAgain, BootsAgain, Happened, boot_at}
use Rattle.world_laws.proofs.Lists.{get_set}
use Rattle.course_laws.specs.Unharmed.{IsUnharmed}
use Rattle.course_laws.specs.Course.{uncounted, nodes_uncounted, AreSame, HaveNothingInHand}
use Rattle.course_laws.specs.Course.{BringsBack}
use Rattle.course_laws.proofs.Taking.{shard_takes, shard_takes_once, router_takes_once, starts_once}
use Rattle.course_laws.proofs.Taking.{starts_empty}

-- What is the same of them.

same_shards : (old old' : Nodes) → AreSame old old'
    → map uncounted old.shards ≡ map uncounted old'.shards
same_shards old old' same = ap (λ (x : Nodes). x.shards) same

pub same_routers : (old old' : Nodes) → AreSame old old' → old.routers ≡ old'.routers
same_routers old old' same = ap (λ (x : Nodes). x.routers) same

pub same_sent : (old old' : Nodes) → AreSame old old' → old.sent ≡ old'.sent
same_sent old old' same = ap (λ (x : Nodes). x.sent) same

pub same_count : (old old' : Nodes) → AreSame old old' → length old.shards ≡ length old'.shards
same_count old old' same =
    sym (length-map old.shards uncounted)
    ∙ ap (λ (xs : List NodeState). length xs) (same_shards old old' same)
    ∙ length-map old'.shards uncounted

abbrev seen_at : List NodeState → ℕ → Option NodeState
seen_at shards n = option_map uncounted (slice_get shards n)

same_seen : (old old' : Nodes) (n : ℕ) → AreSame old old'
    → seen_at old.shards n ≡ seen_at old'.shards n
same_seen old old' n same =
    sym (slice_get-map uncounted old.shards n)
    ∙ ap (λ (xs : List NodeState). slice_get xs n) (same_shards old old' same)
    ∙ slice_get-map uncounted old'.shards n

some_same : (a b : NodeState) → ◌≡◌ {A = Option NodeState} (Some a) (Some b) → a ≡ b
some_same a b is = cc

same_at : (old old' : Nodes) (n : ℕ) (s s' : NodeState) → AreSame old old'
    → slice_get old.shards n ≡ Some s → slice_get old'.shards n ≡ Some s'
    → uncounted s ≡ uncounted s'
same_at old old' n s s' same there there' =
    some_same (uncounted s) (uncounted s') (sym (ap (option_map uncounted) there)
    ∙ same_seen old old' n same ∙ ap (option_map uncounted) there')

router_some : (a b : RouterState) → ◌≡◌ {A = Option RouterState} (Some a) (Some b) → a ≡ b
router_some a b is = cc

same_router_at : (old old' : Nodes) (n : ℕ) (s s' : RouterState) → AreSame old old'
    → slice_get old.routers n ≡ Some s → slice_get old'.routers n ≡ Some s' → s ≡ s'
same_router_at old old' n s s' same there there' =
    router_some s s' (sym there ∙ ap (λ (xs : List RouterState). slice_get xs n)
    (same_routers old old' same) ∙ there')

map_records : (xs : List NodeState) → map (λ n. n.records) (map uncounted xs)
    ≡ map (λ n. n.records) xs
map_records [] = refl
map_records (x ∷ xs) = ap (λ (l : List (List Rec)). x.records ∷ l) (map_records xs)

pub same_commits : (old old' : Nodes) → AreSame old old' → commits_of old ≡ commits_of old'
same_commits old old' same =
    ap commits (sym (map_records old.shards)
    ∙ ap (λ (x : Nodes). journals_of x) same ∙ map_records old'.shards)

abbrev boot_in : Option NodeState → ℕ
boot_in o = elim o [ Some s ↦ s.core.part.boot | None ↦ 0 ]

boot_seen : (o : Option NodeState) → boot_in o ≡ boot_in (option_map uncounted o)
boot_seen None = refl
boot_seen (Some s) = refl

abbrev router_boot : Option RouterState → ℕ
router_boot o = elim o [ Some r ↦ r.boot | None ↦ 0 ]

pub same_boot : (old old' : Nodes) (node : NodeId) → AreSame old old'
    → boot_at old node ≡ boot_at old' node
same_boot old old' (Shard n) same =
    boot_seen (slice_get old.shards n) ∙ ap boot_in (same_seen old old' n same)
    ∙ sym (boot_seen (slice_get old'.shards n))
same_boot old old' (Router n) same =
    ap (λ (xs : List RouterState). router_boot (slice_get xs n)) (same_routers old old' same)

-- Nodes put together of what they have.

abbrev with_shards : List NodeState → List RouterState → List Envelope → Nodes
with_shards shards routers sent = record { shards = shards; routers = routers; sent = sent }

put_same : (xs ys : List NodeState) (n : ℕ) (a b : NodeState)
    → map uncounted xs ≡ map uncounted ys → uncounted a ≡ uncounted b
    → map uncounted (slice_set xs n a) ≡ map uncounted (slice_set ys n b)
put_same xs ys n a b same is =
    map-set uncounted xs n a
    ∙ ap (λ (zs : List NodeState). slice_set zs n (uncounted a)) same
    ∙ ap (λ (z : NodeState). slice_set (map uncounted ys) n z) is
    ∙ sym (map-set uncounted ys n b)

same_of : (xs ys : List NodeState) (r q : List RouterState) (s t : List Envelope)
    → map uncounted xs ≡ map uncounted ys → r ≡ q → s ≡ t
    → AreSame (with_shards xs r s) (with_shards ys q t)
same_of xs ys r q s t a b c =
    ap (λ (zs : List NodeState). with_shards zs r s) a
    ∙ ap (λ (z : List RouterState). with_shards (map uncounted ys) z s) b
    ∙ ap (λ (z : List Envelope). with_shards (map uncounted ys) q z) c

as_same : (new new' one other : Nodes) → new ≡ one → new' ≡ other → AreSame one other
    → AreSame new new'
as_same new new' one other is is' same =
    ap nodes_uncounted is ∙ same ∙ sym (ap nodes_uncounted is')

pub same_back : (old old' : Nodes) → AreSame old old' → AreSame old' old
same_back old old' same = sym same

-- Steps.

not_memory : (a : NodeAnswer) → IsUnharmed a → a ≡ answer.Memory → ⊥
not_memory a well is = subst IsUnharmed is well

pub steps_once : (old old' new new' : Nodes) (node : NodeId) (e : NodeEvent) (a a' : NodeAnswer)
    (f f' : ℕ) → AreSame old old' → Happens old (Step node e a f) new → IsUnharmed a
    → Happens old' (Step node e a' f') new' → IsUnharmed a' → (a ≡ a') × AreSame new new'
steps_once old old' new new' (Shard n) e a a' f f' same h well h' well' =
    let at = same_at old old' n h.before h'.before same h.there h'.there in
    let once = shard_takes_once h.before h'.before h.after h'.after e a a' at h.takes h'.takes well
    well' in
    let sent : old.sent ++ given_out a ≡ old'.sent ++ given_out a' =
    ap (λ (x : List Envelope). x ++ given_out a) (same_sent old old' same)
    ∙ ap (λ (x : NodeAnswer). old'.sent ++ given_out x) once.0 in (
      once.0,
      as_same new new' (with_shards (slice_set old.shards n h.after) old.routers
          (old.sent ++ given_out a)) (with_shards (slice_set old'.shards n h'.after) old'.routers
          (old'.sent ++ given_out a')) h.nodes h'.nodes
          (same_of (slice_set old.shards n h.after) (slice_set old'.shards n h'.after) old.routers
          old'.routers (old.sent ++ given_out a) (old'.sent ++ given_out a')
          (put_same old.shards old'.shards n h.after h'.after (same_shards old old' same) once.1)
          (same_routers old old' same) sent),
    )
steps_once old old' new new' (Router n) e a a' f f' same h well h' well' =
    let at = same_router_at old old' n h.before h'.before same h.there h'.there in
    let takes = subst (λ (r : RouterState). RouterTakes r e a h.after) at h.takes in
    let once = router_takes_once h'.before h.after h'.after e a a' takes h'.takes
    (not_memory a well) (not_memory a' well') in
    let sent : old.sent ++ given_out a ≡ old'.sent ++ given_out a' =
    ap (λ (x : List Envelope). x ++ given_out a) (same_sent old old' same)
    ∙ ap (λ (x : NodeAnswer). old'.sent ++ given_out x) once.0 in
    let routers : slice_set old.routers n h.after ≡ slice_set old'.routers n h'.after =
    ap (λ (xs : List RouterState). slice_set xs n h.after) (same_routers old old' same)
    ∙ ap (λ (r : RouterState). slice_set old'.routers n r) once.1 in (
      once.0,
      as_same new new' (with_shards old.shards (slice_set old.routers n h.after)
          (old.sent ++ given_out a)) (with_shards old'.shards (slice_set old'.routers n h'.after)
          (old'.sent ++ given_out a')) h.nodes h'.nodes
          (same_of old.shards old'.shards (slice_set old.routers n h.after)
          (slice_set old'.routers n h'.after) (old.sent ++ given_out a) (old'.sent ++ given_out a')
          (same_shards old old' same) routers sent),
    )

-- Restarts.

left_alone : (s : NodeState) (recs : List Rec) → s.hand ≡ [] → MayRemain s recs → recs ≡ s.records
left_alone s recs none (inl is) = is
left_alone s recs none (inr is) = is ∙ ap (λ (l : List Rec). s.records ++ l) none
    ∙ append-nil s.records

starts_from : (told : Type 0) (n : ℕ) (before after : NodeState) → told → AllFit before.records
    → before.hand ≡ [] → (h : StartsAgain told n before after)
    → started n before.records h.faults ≡ Some after
starts_from told n before after t fit none h =
    let remain = h.remain t fit (subst AllFit (sym none) tt) in
    subst (λ (l : List Rec). started n l h.faults ≡ Some after)
    (left_alone before h.recs none remain) h.starts

again_once : (told : Type 0) (n : ℕ) (before before' after after' : NodeState) → told
    → uncounted before ≡ uncounted before' → AllFit before.records → before.hand ≡ []
    → StartsAgain told n before after → StartsAgain told n before' after'
    → uncounted after ≡ uncounted after'
again_once told n before before' after after' t same fit none h h' =
    let records : before.records ≡ before'.records = ap (λ (s : NodeState). s.records) same in
    let hand : before.hand ≡ before'.hand = ap (λ (s : NodeState). s.hand) same in
    let first = starts_from told n before after t fit none h in
    let other = starts_from told n before' after' t (subst AllFit records fit)
    (sym hand ∙ none) h' in
    starts_once n before.records h.faults h'.faults after after' first
    (subst (λ (l : List Rec). started n l h'.faults ≡ Some after') (sym records) other)

boots_from : (told : Type 0) (chunks : Map) (n : ℕ) (before after : RouterState) → told
    → BootsAgain told chunks n before after → after ≡ fresh_router n (before.boot + 1) chunks
boots_from told chunks n before after t h =
    h.starts ∙ ap (λ (b : ℕ). fresh_router n b chunks) (h.next t)

pub restarts_once : (told : Type 0) (chunks : Map) (old old' new new' : Nodes) (node : NodeId)
    → BringsBack told old (Some (Swapped node)) → HaveNothingInHand old → AreSame old old'
    → Happened told chunks old (Swapped node) new → Happened told chunks old' (Swapped node) new'
    → AreSame new new'
restarts_once told chunks old old' new new' (Shard n) b none same h h' =
    let at = same_at old old' n h.before h'.before same h.there h'.there in
    let once = again_once told n h.before h'.before h.after h'.after b.0 at (b.1 h.before h.there)
    (none n h.before h.there) h.again h'.again in
    as_same new new' (with_shards (slice_set old.shards n h.after) old.routers old.sent)
    (with_shards (slice_set old'.shards n h'.after) old'.routers old'.sent) h.nodes h'.nodes
    (same_of (slice_set old.shards n h.after) (slice_set old'.shards n h'.after) old.routers
    old'.routers old.sent old'.sent
    (put_same old.shards old'.shards n h.after h'.after (same_shards old old' same) once)
    (same_routers old old' same) (same_sent old old' same))
restarts_once told chunks old old' new new' (Router n) b none same h h' =
    let at = same_router_at old old' n h.before h'.before same h.there h'.there in
    let once : h.after ≡ h'.after = boots_from told chunks n h.before h.after b h.again
    ∙ ap (λ (r : RouterState). fresh_router n (r.boot + 1) chunks) at
    ∙ sym (boots_from told chunks n h'.before h'.after b h'.again) in
    let routers : slice_set old.routers n h.after ≡ slice_set old'.routers n h'.after =
    ap (λ (xs : List RouterState). slice_set xs n h.after) (same_routers old old' same)
    ∙ ap (λ (r : RouterState). slice_set old'.routers n r) once in
    as_same new new' (with_shards old.shards (slice_set old.routers n h.after) old.sent)
    (with_shards old'.shards (slice_set old'.routers n h'.after) old'.sent) h.nodes h'.nodes
    (same_of old.shards old'.shards (slice_set old.routers n h.after)
    (slice_set old'.routers n h'.after) old.sent old'.sent (same_shards old old' same) routers
    (same_sent old old' same))

-- Nothing comes to be in hand.

put_empty : (xs : List NodeState) (n : ℕ) (after : NodeState)
    → ((k : ℕ) (s : NodeState) → slice_get xs k ≡ Some s → s.hand ≡ []) → after.hand ≡ []
    → (k : ℕ) (s : NodeState) → slice_get (slice_set xs n after) k ≡ Some s → s.hand ≡ []
put_empty xs n after all none k s there =
    elim (get_set xs n k after s there)
    [ inl h ↦ subst (λ (x : NodeState). x.hand ≡ []) h.1 none | inr h ↦ all k s h ]

as_empty : (new : Nodes) (xs : List NodeState) → new.shards ≡ xs
    → ((k : ℕ) (s : NodeState) → slice_get xs k ≡ Some s → s.hand ≡ []) → HaveNothingInHand new
as_empty new xs is all n s there =
    all n s (subst (λ (l : List NodeState). slice_get l n ≡ Some s) is there)

-- nothing outside failed at it
abbrev pub IsUnharmedRan : Ran → Type 0
IsUnharmedRan (Step node e a faults) = IsUnharmed a
IsUnharmedRan (Swapped node) = Unit {0}

pub stays_empty : (told : Type 0) (chunks : Map) (old new : Nodes) (ran : Ran)
    → HaveNothingInHand old → Happened told chunks old ran new → IsUnharmedRan ran
    → HaveNothingInHand new
stays_empty told chunks old new (Step (Shard n) e a f) none h well =
    as_empty new (slice_set old.shards n h.after) (ap (λ (x : Nodes). x.shards) h.nodes)
    (put_empty old.shards n h.after none
    ((shard_takes h.before e a h.after h.takes well).hand ∙ none n h.before h.there))
stays_empty told chunks old new (Step (Router n) e a f) none h well =
    as_empty new old.shards (ap (λ (x : Nodes). x.shards) h.nodes) none
stays_empty told chunks old new (Swapped (Shard n)) none h well =
    as_empty new (slice_set old.shards n h.after) (ap (λ (x : Nodes). x.shards) h.nodes)
    (put_empty old.shards n h.after none
    (starts_empty n h.again.recs h.again.faults h.after h.again.starts))
stays_empty told chunks old new (Swapped (Router n)) none h well =
    as_empty new old.shards (ap (λ (x : Nodes). x.shards) h.nodes) none
