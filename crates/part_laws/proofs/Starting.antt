-- What holds of the first part, and of a store after a crash.
use Rattle.std.proofs.Common.{◌≡◌, ◌≤◌, ℕ, Bool, true, false, cond, List, [], ◌∷◌, Option, Some}
use Rattle.std.proofs.Common.{None, filter, map, option_map, unwrap_or, refl, ap, subst, ◌∙◌, sym}
use Rattle.std.proofs.Common.{nat_le, if◌then◌else◌}
use Rattle.std.specs.Option.{option_and_then, is_some}
use Rattle.txn_types.specs.declared.names.Tag.{Tag}
use Rattle.txn_semantics.specs.declared.commits.Entry.{Entry}
use Rattle.txn_semantics.specs.Keyed.{Rises}
use Rattle.txn_semantics.specs.Writes.{Place, place_cmp}
use Rattle.txn_semantics.proofs.Places.{place_total, place_exact}
use Rattle.part_laws.specs.Looked.{looked}
use Rattle.part_laws.proofs.Looking.{looked-map, looked-filter, rises_map, rises_filter}
use Rattle.part_laws.proofs.Stores.{versions_is}
use Rattle.version_store.specs.declared.version.Stamp.{Stamp}
use Rattle.version_store.specs.declared.version.Stamp.TheVariants.{Unfinished, Prepared, At}
use Rattle.version_store.specs.declared.version.Version.{Version}
use Rattle.version_store.specs.Versions.{outlives, finished, has_versions, first, Versions}
use Rattle.version_store.specs.Versions.{is_some_and, is_of, versions_of}
use Rattle.part_laws.specs.Each.{Each}
use Rattle.part_laws.specs.Seen.{wrote_at}
use Rattle.part_laws.specs.Chain.{Decisions, own_at, time_of, stands_by, standing, newest_time}
use Rattle.part_laws.specs.Chain.{IsCommitted, IsChain}
use Rattle.part_laws.specs.Sound.{Opened, Opens, decisions, Served, stamp_since, stamp_of, OwnedAt}
use Rattle.part_laws.specs.Sound.{StandsAt, IsSound}
use Rattle.part_laws.specs.Parts.{IsServing, if_prepared}
use Rattle.part_laws.specs.Start.{first_part, none_open, prepared_ones, Survives}
use Rattle.part_laws.proofs.Chains.{every, each_weaker, each_filter, found_kept, times_kept}
use Rattle.part_laws.proofs.Chains.{committed_chain, none_found}
use Rattle.part_laws.proofs.Owners.{newest-agree, not_own}

pub first_holds : (shard boot limit last : ℕ)
    → IsServing (first_part shard boot limit) none_open last [] []
first_holds shard boot limit last =
    record {
      sound = record {
        rises = tt;
        stands = λ place. record {
          chain = tt;
          view = λ at. refl;
          newest = tt;
          owned = λ tag. record { own = refl; stamps = λ o is. cc; behind = λ o is. cc };
        };
        opened = λ tag o is. cc;
        right = tt;
        owns = tt;
        known = tt;
        apart = tt;
        whole = tt;
        none = λ tag o is. cc;
      };
      rises = tt;
      sessions = λ lsid. refl;
      kept = λ lsid o is. cc;
      refusals = λ lsid s err at is. cc;
      held = λ tag o is. cc;
      alone = λ a b s t is. cc;
    }

-- A crash.

-- a decision stands on prepared transactions alone
prepared_by : (o : Opened) (b : Bool) → is_some o.prepared ≡ b
    → (is_some o.prepared ≡ false → o.decided ≡ None)
    → option_and_then (λ (o : Opened). o.decided) (if b then Some o else None) ≡ o.decided
prepared_by o true is h = refl
prepared_by o false is h = sym (h is)

decided_case : (o : Option Opened) → ((x : Opened) → o ≡ Some x → is_some x.prepared ≡ false
    → x.decided ≡ None) → option_and_then (λ (o : Opened). o.decided) (if_prepared o)
    ≡ option_and_then (λ (o : Opened). o.decided) o
decided_case None h = refl
decided_case (Some o) h = prepared_by o (is_some o.prepared) refl (h o refl)

undecided_at : (o : Option ℕ) → ((at : ℕ) → o ≡ Some at → ⊥) → o ≡ None
undecided_at None h = refl
undecided_at (Some at) h = absurd (h at refl)

stamp_times : (old new : Decisions) (stamp : Stamp) → ((tag : Tag) → new tag ≡ old tag)
    → time_of new stamp ≡ time_of old stamp
stamp_times old new (Unfinished w) same = refl
stamp_times old new (Prepared w at) same = same w
stamp_times old new (At at) same = refl

gone_time : (old : Decisions) (stamp : Stamp) → outlives stamp ≡ false → time_of old stamp ≡ None
gone_time old (Unfinished w) h = refl
gone_time old (Prepared w at) h = cc
gone_time old (At at) h = cc

-- the open transactions that a crash leaves
kept_by : (o x : Opened) (b : Bool) → is_some o.prepared ≡ b
    → ◌≡◌ {A = Option Opened} (if b then Some o else None) (Some x)
    → ◌≡◌ {A = Option Opened} (Some o) (Some x) × (is_some x.prepared ≡ true)
kept_by o x true is h = let same : o ≡ x = cc in
    (h, ap (λ (z : Opened). is_some z.prepared) (sym same) ∙ is)
kept_by o x false is h = cc

pub kept_some : (o : Option Opened) (x : Opened) → if_prepared o ≡ Some x
    → (o ≡ Some x) × (is_some x.prepared ≡ true)
kept_some None x h = cc
kept_some (Some o) x h = kept_by o x (is_some o.prepared) refl h

-- the versions of a transaction: all of them last where it is prepared, and else none
stamp_lasts : (tag : Tag) (o : Option ℕ) (b : Bool) → is_some o ≡ b
    → outlives (stamp_since tag o) ≡ b
stamp_lasts tag None b h = h
stamp_lasts tag (Some n) b h = h

not_mine : (tag : Tag) (o : Opened) (v : Version) (b : Bool) → is_of tag v ≡ b
    → (is_of tag v ≡ true → v.stamp ≡ stamp_of tag o) → is_some o.prepared ≡ true
    → outlives v.stamp ≡ false → is_of tag v ≡ false
not_mine tag o v true is h prepared gone = let wrong : true ≡ false =
    sym (ap outlives (h is) ∙ stamp_lasts tag o.prepared true prepared) ∙ gone in cc
not_mine tag o v false is h prepared gone = is

own_prepared : (tag : Tag) (o : Opened) (V : List Version) → is_some o.prepared ≡ true
    → Each (λ v. is_of tag v ≡ true → v.stamp ≡ stamp_of tag o) V
    → own_at tag (filter (λ v. outlives v.stamp) V) ≡ own_at tag V
own_prepared tag o V prepared stamps =
    ap (option_map (λ (v : Version). v.doc))
    (found_kept (λ v. outlives v.stamp) (is_of tag) (is_of tag) V
    (each_weaker (λ v. is_of tag v ≡ true → v.stamp ≡ stamp_of tag o) (λ v. (outlives v.stamp ≡ true
    → is_of tag v ≡ is_of tag v) × (outlives v.stamp ≡ false → is_of tag v ≡ false))
    (λ v h. ((λ kept. refl), (λ gone. not_mine tag o v (is_of tag v) refl h prepared gone))) V
    stamps))

not_one : (tag : Tag) (v : Version) (b : Bool) → is_of tag v ≡ b
    → (is_of tag v ≡ true → true ≡ false) → is_of tag v ≡ false
not_one tag v true is h = let wrong : true ≡ false = h is in cc
not_one tag v false is h = is

gone_case : (tag : Tag) (v : Version) (V : List Version) (b : Bool) → outlives v.stamp ≡ b
    → (is_of tag v ≡ true → outlives v.stamp ≡ false) → Each (λ v. is_of tag v ≡ false) V
    → Each (λ v. is_of tag v ≡ false) (cond b (v ∷ V) V)
gone_case tag v V true is h more =
    (not_one tag v (is_of tag v) refl (λ mine. sym is ∙ h mine), more)
gone_case tag v V false is h more = more

all_gone : (tag : Tag) (V : List Version) → Each (λ v. is_of tag v ≡ true → outlives v.stamp
    ≡ false) V → Each (λ v. is_of tag v ≡ false) (filter (λ v. outlives v.stamp) V)
all_gone tag [] h = tt
all_gone tag (v ∷ V) h = gone_case tag v (filter (λ v. outlives v.stamp) V) (outlives v.stamp) refl
    h.0 (all_gone tag V h.1)

own_lost : (tag : Tag) (V : List Version) → Each (λ v. is_of tag v ≡ true
    → outlives v.stamp ≡ false) V → own_at tag (filter (λ v. outlives v.stamp) V) ≡ None
own_lost tag V h = ap (option_map (λ (v : Version). v.doc)) (none_found (is_of tag)
    (filter (λ v. outlives v.stamp) V) (all_gone tag V h))

chain_case : (v : Version) (V W : List Version) (b : Bool) → Each IsCommitted W
    → IsChain (cond b (v ∷ W) W)
chain_case v V W true h = h
chain_case v V W false h = committed_chain W h

chain_left : (V : List Version) → IsChain V → IsChain (filter (λ v. outlives v.stamp) V)
chain_left [] h = tt
chain_left (v ∷ V) h = chain_case v V (filter (λ v. outlives v.stamp) V) (outlives v.stamp)
    (each_filter IsCommitted (λ v. outlives v.stamp) V h)

module _ (old : Decisions) (new : Decisions) (same : (tag : Tag) → new tag ≡ old tag)
    (V : List Version) where
  standing_left : (moment : ℕ)
      → standing new moment (filter (λ v. outlives v.stamp) V) ≡ standing old moment V
  standing_left moment =
      ap (option_map (λ (v : Version). v.doc))
      (found_kept (λ v. outlives v.stamp) (stands_by old moment) (stands_by new moment) V
      (every (λ v. (outlives v.stamp ≡ true → stands_by new moment v ≡ stands_by old moment v)
      × (outlives v.stamp ≡ false → stands_by old moment v ≡ false))
      (λ v. (
        (λ kept. ap (is_some_and (λ time. nat_le time moment)) (stamp_times old new v.stamp same)),
        (λ gone. ap (is_some_and (λ time. nat_le time moment)) (gone_time old v.stamp gone)),
      )) V))

  newest_left : newest_time new (filter (λ v. outlives v.stamp) V) ≡ newest_time old V
  newest_left =
      newest-agree old new (filter (λ v. outlives v.stamp) V)
      (every (λ v. time_of new v.stamp ≡ time_of old v.stamp)
      (λ v. stamp_times old new v.stamp same) (filter (λ v. outlives v.stamp) V))
      ∙ ap (λ o. unwrap_or o 0) (times_kept (λ v. outlives v.stamp) (λ v. time_of old v.stamp)
      V (every (λ v. outlives v.stamp ≡ false → time_of old v.stamp ≡ None)
      (λ v gone. gone_time old v.stamp gone) V))

  owned_by : (place : Place) (tag : Tag) (o : Opened) (b : Bool)
      → is_some o.prepared ≡ b → OwnedAt old place V tag (Some o)
      → OwnedAt new place (filter (λ v. outlives v.stamp) V) tag (if b then Some o else None)
  owned_by place tag o true is owned =
      record {
        own = own_prepared tag o V is (owned.stamps o refl) ∙ owned.own;
        stamps = λ p h. each_filter (λ v. is_of tag v ≡ true
            → v.stamp ≡ stamp_of tag p) (λ v. outlives v.stamp) V (owned.stamps p h);
        behind = λ p h undecided wrote. subst (λ n. n
            ≤ p.read_at) (sym newest_left) (owned.behind p h undecided wrote);
      }
  owned_by place tag o false is owned =
      record {
        own = own_lost tag V (each_weaker (λ v. is_of tag v ≡ true → v.stamp ≡ stamp_of tag o)
            (λ v. is_of tag v ≡ true → outlives v.stamp ≡ false) (λ v h mine. ap outlives (h mine)
            ∙ stamp_lasts tag o.prepared false is) V (owned.stamps o refl));
        stamps = λ o is. cc;
        behind = λ o is. cc;
      }

  owned_left : (place : Place) (tag : Tag) (o : Option Opened) → OwnedAt old place V tag o
      → OwnedAt new place (filter (λ v. outlives v.stamp) V) tag (if_prepared o)
  owned_left place tag None owned =
      record {
        own = own_lost tag V (each_weaker (λ v. is_of tag v ≡ false) (λ v. is_of tag v ≡ true
            → outlives v.stamp ≡ false) (λ v not_it mine. let wrong : true ≡ false = sym mine
            ∙ not_it in cc) V (not_own tag V owned.own));
        stamps = λ o is. cc;
        behind = λ o is. cc;
      }
  owned_left place tag (Some o) owned = owned_by place tag o (is_some o.prepared) refl owned

pub crash_leaves : (store left : Versions) (opens : Opens) (last : ℕ) (entries : List Entry)
    (served : List Served) → IsSound store opens last entries served → Survives store left
    → IsSound left (prepared_ones opens) last entries served
crash_leaves store left opens last entries served sound survives =
    let old = decisions opens in
    let new = decisions (prepared_ones opens) in
    let same : (tag : Tag) → new tag ≡ old tag =
    λ tag. decided_case (opens tag) (λ x is none. undecided_at x.decided (λ at decided.
    let dated = (sound.opened tag x is).decided at decided in
    let wrong : false ≡ true = sym none ∙ ap is_some dated.1 in cc)) in
    record {
      rises = survives.rises;
      stands = λ place.
          let V = versions_of store place in
          let stands = sound.stands place in
          subst (StandsAt (prepared_ones opens) entries place) (sym (survives.versions place))
          (record {
            chain = chain_left V stands.chain;
            view = λ at. standing_left old new same V at ∙ stands.view at;
            newest = each_weaker (λ (e : Entry). is_some (wrote_at place e.writes) ≡ true
                → e.at ≤ newest_time old V) (λ (e : Entry). is_some (wrote_at place e.writes) ≡ true
                → e.at ≤ newest_time new (filter (λ v. outlives v.stamp) V))
                (λ e h wrote. subst (λ n. e.at ≤ n) (sym (newest_left old new same V)) (h wrote))
                entries stands.newest;
            owned = λ tag. owned_left old new same V place tag (opens tag) (stands.owned tag);
          });
      opened = λ tag o is. sound.opened tag o (kept_some (opens tag) o is).0;
      right = sound.right;
      owns = sound.owns;
      known = sound.known;
      apart = sound.apart;
      whole = sound.whole;
      none = λ tag o is undecided. sound.none tag o (kept_some (opens tag) o is).0 undecided;
    }

-- What a store leaves after a stop.

kept_or_none : (V : List Version) → unwrap_or (if is_some (first V) then Some V else None) [] ≡ V
kept_or_none [] = refl
kept_or_none (v ∷ V) = refl

left_nil : (o : Option (List Version)) → unwrap_or (option_and_then (λ V. if is_some (first V)
    then Some V else None) (option_map (filter (λ (v : Version). outlives v.stamp)) o)) []
    ≡ filter (λ (v : Version). outlives v.stamp) (unwrap_or o [])
left_nil None = refl
left_nil (Some V) = kept_or_none (filter (λ (v : Version). outlives v.stamp) V)

pub finished_survives : (store : Versions) → Rises place_cmp store → Survives store (finished store)
finished_survives store r =
    let f : List Version → List Version = filter (λ v. outlives v.stamp) in
    let kept = map (λ (key : Place × List Version). (key.0, f key.1)) store in
    let rises = rises_map place_cmp place_total place_exact f store r in
    record {
      rises = rises_filter place_cmp place_total place_exact has_versions kept rises;
      versions = λ place.
          versions_is (finished store) place
          ∙ ap (λ o. unwrap_or o []) (looked-filter place_cmp place_total place_exact
          (λ V. is_some (first V)) place kept rises
          ∙ ap (option_and_then (λ V. if is_some (first V) then Some V else None))
          (looked-map place_cmp place_total place_exact f place store))
          ∙ left_nil (looked place_cmp place store)
          ∙ ap f (sym (versions_is store place));
    }
