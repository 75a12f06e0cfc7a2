-- What stood where each cause that was told was made, on one shard.
use Rattle.std.proofs.Common.{◌≡◌, ◌⊎◌, inl, inr, ◌++◌, ℕ, List, [], ◌∷◌, All, false, refl, subst}
use Rattle.std.proofs.Common.{sym}
use Rattle.std.proofs.Common.{Contains, Some, slice_get}
use Rattle.std.proofs.lemmas.List.Elements.{All-weaker}
use Rattle.txn_types.specs.declared.cause.Cause.{Cause}
use Rattle.txn_types.specs.declared.cause.Cause.TheVariants as cause
use Rattle.txn_types.specs.declared.names.Tag.{Tag}
use Rattle.shard_core.specs.NodeStep.{NodeState}
use Rattle.chunk_map.specs.Map.{Map, IsMap}
use Rattle.txn_model.specs.declared.ran.Ran.{Ran}
use Rattle.cluster_core.specs.Causes.{Past, Making, IsMade, Stood, TellsCause, EndsWith, CauseOf}
use Rattle.cluster_core.specs.Causes.{AllCaused}
use Rattle.cluster_core.specs.Deciding.{TokensGiven}
use Rattle.cluster_core.specs.Nodes.{Nodes}
use Rattle.cluster_core.specs.Right.{past_of}
use Rattle.cluster_core.specs.Telling.{Telling, Meant, Done, Undone, Caused, told_in}
use Rattle.cluster_core.specs.Trace.{IsTrace}
use Rattle.world_laws.specs.Clocks.{EachShard}
use Rattle.world_laws.specs.Joint.{DisksStand, DiskStands, NoName}
use Rattle.world_laws.proofs.Clocks.{started_is}
use Rattle.world_laws.proofs.Joint.{new_disk}
use Rattle.world_laws.proofs.Naming.{one}
use Rattle.known_laws.specs.Known.{NamesNone, RecNamed}
use Rattle.one_shard_laws.specs.Concluding.{StartsAlone}
use Rattle.making_laws.specs.Made.{MakingOf}
use Rattle.making_laws.specs.News.{IsNew, IsFirst, is_free}
use Rattle.making_laws.proofs.Running.{all_made}
use Rattle.abort_laws.proofs.Whole.{all_stood as wish_stood}
use Rattle.stood_laws.specs.Ruled.{RecoversEarlier}
use Rattle.stood_laws.proofs.All.{all_stood}
use Rattle.stood_laws.proofs.Standing.{only, step_of}
use Rattle.right_laws.specs.Boots.{RecoversNameBoots}
use Rattle.right_laws.proofs.Tokens.Earlier.{recovers_name_boots}
use Rattle.right_laws.proofs.Causes.Recovering.{recovers_earlier}
use Rattle.right_laws.proofs.Causes.Unvoted.{none_voted}

-- what holds of the one shard as it starts
each_starts : (P : NodeState → Type 0) (chunks : Map) (start : Nodes)
    → (h : StartsAlone chunks start)
    → P h.node → EachShard start (λ number n. P n)
each_starts P chunks start h this number n there =
    subst P
    (sym (only h.node n number
    (subst (λ (xs : List NodeState). slice_get xs number ≡ Some n) h.shards there)).1) this

new_disks : (chunks : Map) (start : Nodes) → StartsAlone chunks start → DisksStand start
new_disks chunks start h =
    each_starts (λ (n : NodeState). DiskStands start n.records) chunks start h
    (new_disk start 0 h.faults h.node h.starts)

new_names : (chunks : Map) (start : Nodes) → StartsAlone chunks start → NamesNone start
new_names chunks start h =
    each_starts (λ (n : NodeState). All (RecNamed NoName) n.records) chunks start h
    (subst (λ (n : NodeState). All (RecNamed NoName) n.records)
    (sym (started_is 0 [] h.faults h.node h.starts)) (one (RecNamed NoName) _ tt))

module _ (chunks : Map) (start : Nodes) (run : List Ran) (trace : List Nodes) (now : Nodes)
    (map : IsMap chunks) (alone : StartsAlone chunks start) (is : IsTrace start run trace now)
    (name : (nodes : Nodes) → Contains (trace ++ now ∷ []) nodes → RecoversNameBoots nodes) where
  abbrev past : Past
  past = past_of chunks start run trace now

  earlier : (place shard : ℕ) (tag : Tag) (why : Cause) (m : Making)
      → IsMade past place shard tag why m → RecoversEarlier m
  earlier place shard tag why m made =
      recovers_earlier chunks start run trace now is name place shard tag why m made

  -- a vote hadn't ended the transaction before
  first_vote : (place shard : ℕ) (tag : Tag) (voter code : ℕ) (m : Making)
      → IsMade past place shard tag (cause.Voted voter code) m → IsFirst m (cause.Voted voter code)
  first_vote place shard tag voter code m made old read_at there own ended =
      let s = step_of chunks start run trace now is place shard tag (cause.Voted voter code) m made
      in
      none_voted chunks start s.before_run s.before_trace made.nodes alone s.comes shard m.before
      made.before m.lsid old voter code read_at there ended

  stood : (place shard : ℕ) (tag : Tag) (why : Cause) (m : Making)
      → IsMade past place shard tag why m → (is_free why ≡ false → IsNew m why)
      → Stood past m why
  stood place shard tag cause.Memory m made new = tt
  stood place shard tag (cause.Voted voter code) m made new =
      all_stood chunks start run trace now map alone is place shard tag m
      (earlier place shard tag (cause.Voted voter code) m made) (cause.Voted voter code) made
      (is_new made.makes) refl
    where
      is_new : TellsCause m (cause.Voted voter code) ⊎ EndsWith m (cause.Voted voter code)
          → IsNew m (cause.Voted voter code)
      is_new (inl tells) = inr (tells, first_vote place shard tag voter code m made)
      is_new (inr ends) = inl ends
  stood place shard tag (cause.ClientAbort why) m made new =
      wish_stood chunks start run trace now alone.fresh (new_disks chunks start alone)
      (new_names chunks start alone) is place shard tag why m made (new refl)
  stood place shard tag other m made new =
      all_stood chunks start run trace now map alone is place shard tag m
      (earlier place shard tag other m made) other made (new refl) refl

  caused : (place : ℕ) (tag : Tag) (meant : Meant) → MakingOf past place tag meant
      → CauseOf past place tag meant
  caused place tag Done h = tt
  caused place tag Undone h = tt
  caused place tag (Caused shard why) h = record {
    making = h.making;
    made = h.made;
    stood = stood place shard tag why h.making h.made h.new;
  }

  caused_where_named : AllCaused past (told_in start.routers run)
  caused_where_named =
      All-weaker (λ (t : Telling). MakingOf past t.place t.tag t.meant)
      (λ (t : Telling). CauseOf past t.place t.tag t.meant)
      (λ t h. caused t.place t.tag t.meant h) (told_in start.routers run)
      (all_made chunks start run trace now alone.fresh (new_disks chunks start alone) is)

pub all_caused : (chunks : Map) (start : Nodes) (run : List Ran) (trace : List Nodes) (now : Nodes)
    → IsMap chunks → StartsAlone chunks start → IsTrace start run trace now
    → TokensGiven start.routers run
    → AllCaused (past_of chunks start run trace now) (told_in start.routers run)
all_caused chunks start run trace now map alone is given =
    caused_where_named chunks start run trace now map alone is
    (recovers_name_boots chunks start run trace now map alone is given)
