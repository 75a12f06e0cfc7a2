-- A shard that starts from records.
use Rattle.std.proofs.Common.{◌≡◌, ◌≤◌, ◌+◌, ◌++◌, ◌||◌, ℕ, Bool, true, false, cond, List, [], ◌∷◌}
use Rattle.std.proofs.Common.{find, Option, Some, None, IsSomeAnd, IfSome, inl, option_map}
use Rattle.std.proofs.Common.{option_and_then, unwrap_or, refl, ap, subst, ◌∙◌, sym, arith, nat_lt}
use Rattle.std.proofs.Common.{if◌then◌else◌}
use Rattle.std.specs.List.{AllByRecursion, list_any, filter_map, cons_option}
use Rattle.std.specs.Option.{is_some}
use Rattle.txn_types.specs.Order.{same_tag}
use Rattle.txn_types.specs.declared.names.Tag.{Tag}
use Rattle.txn_types.specs.declared.node.Lsid.{Lsid}
use Rattle.txn_semantics.specs.Writes.{Place}
use Rattle.session_table.specs.Sessions.{Table, session_of, prepared_at}
use Rattle.session_table.specs.declared.session.Session.{Session}
use Rattle.session_table.specs.declared.session.SessionState.TheVariants as state
use Rattle.version_store.specs.declared.version.Pending.{Pending}
use Rattle.version_store.specs.declared.version.Stamp.{Stamp}
use Rattle.version_store.specs.declared.version.Stamp.TheVariants.{Unfinished, Prepared, At}
use Rattle.version_store.specs.declared.version.Version.{Version}
use Rattle.version_store.specs.Versions.{versions_of, finished, outlives, is_of, has_versions}
use Rattle.version_store.specs.Versions.{first, commit_of, newest_of, writer_of}
use Rattle.journal_rec.specs.Follows.{first_refused}
use Rattle.journal_rec.specs.declared.record.Rec.{Rec}
use Rattle.journal_rec.specs.declared.record.Rec.TheVariants as rec
use Rattle.participant.proofs.Keys.{of_writer}
use Rattle.part_laws.specs.Each.{Each}
use Rattle.part_laws.specs.Chain.{own_at, IsCommitted}
use Rattle.part_laws.proofs.Chains.{none_found, each_weaker, committed_is_not}
use Rattle.part_laws.proofs.Owners.{committed_none}
use Rattle.part_laws.proofs.Stores.{versions_is}
use Rattle.shard_image.specs.Image.{Image, with_record, image_of}
use Rattle.shard_image.specs.Sound.{IsImage, IsHeld, IsFront, IsKey, Pends, HasIts, pending_of}
use Rattle.shard_image.specs.Sound.{prepare_time, AreWritten}
use Rattle.shard_image.proofs.Decisions.{image_counted}
use Rattle.shard_core.specs.State.{ShardState}
use Rattle.shard_core.specs.Durable.{IsDurable}
use Rattle.shard_core.specs.NodeStep.{NodeState, core_of, boot_behind, node_of, started_if, started}
use Rattle.shard_core.proofs.Restarting.{part_of, image_stands}
use Rattle.durable_laws.proofs.Whole.{AreFilled, AreNewestFirst, newest_commit, HasStamp}
use Rattle.durable_laws.proofs.Whole.{PendingHas, IsWhole}
use Rattle.durable_laws.specs.Backed.{IsBacked, IsFoundAgain}
use Rattle.durable_laws.proofs.Holding.{Backs}
use Rattle.durable_laws.proofs.Places.{below_committed, lasting, lasting_rest}
use Rattle.durable_laws.proofs.Lasting.{stores_same, rises_finished, versions_finished}
use Rattle.durable_laws.proofs.Lasting.{filled_finished}
use Rattle.durable_laws.proofs.Opening.{at_looked}
use Rattle.durable_laws.proofs.Facts.{IsFine, image_fine, image_append, fine_record}
use Rattle.durable_laws.proofs.Backing.{from_backs}
use Rattle.durable_laws.proofs.Tables.{prepared_is}
use Rattle.durable_laws.proofs.Ends.{some_has}

each_of_all : {X : Type 0} (P Q : X → Type 0) → ((x : X) → P x → Q x) → (xs : List X)
    → AllByRecursion P xs → Each Q xs
each_of_all P Q f [] h = tt
each_of_all P Q f (x ∷ xs) h = (f x h.0, each_of_all P Q f xs h.1)

held_of : (P : Pending → Type 0) (o : Option Pending) → IsSomeAnd o P
    → (q : Pending) × (o ≡ Some q) × P q
held_of P None h = absurd h
held_of P (Some q) h = (q, refl, h)

any_found : (tag : Tag) (pending : List Pending) (q : Pending) → pending_of pending tag ≡ Some q
    → list_any (λ q. same_tag q.tag tag) pending ≡ true
any_found tag [] q h = cc
any_found tag (x ∷ pending) q h = any_case (same_tag x.tag tag) h (any_found tag pending q)
  where
    any_case : (b : Bool) → cond b (Some x) (pending_of pending tag) ≡ Some q
        → (pending_of pending tag ≡ Some q → list_any (λ (q : Pending). same_tag q.tag tag) pending
        ≡ true) → (b || list_any (λ (q : Pending). same_tag q.tag tag) pending) ≡ true
    any_case true h more = refl
    any_case false h more = more h

-- The versions of a key.

key_newest : (pending : List Pending) (sessions : Table) (V : List Version) (stamp : Stamp)
    → IsFront pending sessions V stamp → (v : Version) → v.stamp ≡ stamp → AreNewestFirst (v ∷ V)
key_newest pending sessions V (Unfinished tag) front v is = absurd front
key_newest pending sessions V (Prepared tag at) front v is = let h = held_of (IsHeld sessions
    at V) (pending_of pending tag) front in subst (λ (st : Stamp). AreNewestFirst
    ((let w : Version = record { stamp = st; doc = v.doc } in w) ∷ V)) (sym is) h.2.below
key_newest pending sessions V (At at) front v is = subst (λ (st : Stamp).
    AreNewestFirst ((let w : Version = record { stamp = st; doc = v.doc } in w) ∷ V)) (sym is) front

front_below : (pending : List Pending) (sessions : Table) (V : List Version) (stamp : Stamp)
    → IsFront pending sessions V stamp → Each IsCommitted V × (outlives stamp ≡ true)
front_below pending sessions V (Unfinished tag) front = absurd front
front_below pending sessions V (Prepared tag at) front = let h =
    held_of (IsHeld sessions at V) (pending_of pending tag) front in
    (below_committed at V h.2.below, refl)
front_below pending sessions V (At at) front = (below_committed at V front, refl)

-- what is said of a place whose versions stand so, or that has none
abbrev AtKey : List Pending → Table → List Version → Type 0
AtKey pending sessions V = (v : Version) (rest : List Version) → V ≡ v ∷ rest
    → IsFront pending sessions rest v.stamp

key_front : (pending : List Pending) (sessions : Table) (V : List Version)
    → IsKey pending sessions V → AtKey pending sessions V
key_front pending sessions [] key v rest is = cc
key_front pending sessions (x ∷ xs) key v rest is =
    let one : x ≡ v = cc in
    let end : xs ≡ rest = cc in
    subst (λ (w : Version). IsFront pending sessions rest w.stamp) one
    (subst (λ (r : List Version). IsFront pending sessions r x.stamp) end key)

key_filled : (pending : List Pending) (sessions : Table) (key : Place × List Version)
    (V : List Version) → key.1 ≡ V → IsKey pending sessions V → has_versions key ≡ true
key_filled pending sessions key [] is h = absurd h
key_filled pending sessions key (v ∷ V) is h = ap (λ (W : List Version). is_some (first W)) is

module _ (i : Image) (h : IsImage i) where
  -- at each place
  at_place : (place : Place) → AtKey i.pending i.sessions (versions_of i.store place)
  at_place place =
      subst (AtKey i.pending i.sessions) (sym (versions_is i.store place))
      (at_looked (AtKey i.pending i.sessions) place i.store (λ v rest is. cc)
      (each_of_all (λ (key : Place × List Version). IsKey i.pending i.sessions key.1)
      (λ (key : Place × List Version). AtKey i.pending i.sessions key.1)
      (λ key k. key_front i.pending i.sessions key.1 k) i.store h.keys))

  filled : AreFilled i.store
  filled = each_of_all (λ (key : Place × List Version).
      IsKey i.pending i.sessions key.1) (λ (key : Place × List Version). has_versions key
      ≡ true) (λ key k. key_filled i.pending i.sessions key key.1 refl k) i.store h.keys

  newest_case : (V : List Version) → AtKey i.pending i.sessions V → AreNewestFirst V
  newest_case [] at = tt
  newest_case (v ∷ V) at = key_newest i.pending i.sessions V v.stamp (at v V refl) v refl

  lasting_case : (V : List Version) → AtKey i.pending i.sessions V → lasting V ≡ V
  lasting_case [] at = refl
  lasting_case (v ∷ V) at =
      let front = front_below i.pending i.sessions V v.stamp (at v V refl) in
      ap (λ b. cond b (v ∷ lasting V) (lasting V)) front.1
      ∙ ap (λ W. v ∷ W) (lasting_rest V front.0)

  store_lasts : i.store ≡ finished i.store
  store_lasts =
      stores_same i.store (finished i.store) h.rises (rises_finished i.store h.rises) filled
      (filled_finished i.store)
      (λ place. sym (versions_finished i.store place h.rises
      ∙ lasting_case (versions_of i.store place) (at_place place)))

  -- A prepared transaction.

  module _ (q : Pending) (p : Pends i.pending i.sessions i.store q) where
    time_is : prepare_time i.sessions q.lsid ≡ Some p.1
    time_is = ap (option_and_then (λ (s : Session). prepared_at s.state)) p.2.session ∙ p.2.state

    mine_case : (V : List Version) (v : Version) (stamp : Stamp) → v.stamp ≡ stamp
        → is_of q.tag v ≡ true → IsFront i.pending i.sessions V stamp
        → (stamp ≡ Prepared q.tag p.1) × IfSome (newest_of V) (λ commit. commit ≤ q.read_at)
    mine_case V v (Unfinished tag) is mine front = absurd front
    mine_case V v (Prepared tag at) is mine front =
        let held = held_of (IsHeld i.sessions at V) (pending_of i.pending tag) front in
        let own : writer_of v.stamp ≡ Some q.tag = of_writer q.tag v mine in
        let both : Some tag ≡ Some q.tag = sym (ap writer_of is) ∙ own in
        let same : tag ≡ q.tag = cc in
        let there : Some held.0 ≡ Some q = sym held.1 ∙ ap (pending_of i.pending) same
        ∙ p.2.first in
        let one : held.0 ≡ q = cc in
        let times : Some at ≡ Some p.1 = sym held.2.time
        ∙ ap (λ (x : Pending). prepare_time i.sessions x.lsid) one ∙ time_is in
        let time : at ≡ p.1 = cc in (
          ap (λ t. Prepared t at) same ∙ ap (Prepared q.tag) time,
          subst (λ (x : Pending). IfSome (newest_of V) (λ commit. commit ≤ x.read_at)) one
              held.2.free,
        )
    mine_case V v (At at) is mine front =
        let own : writer_of v.stamp ≡ Some q.tag = of_writer q.tag v mine in
        let wrong : None ≡ Some q.tag = sym (ap writer_of is) ∙ own in cc

    rest_stamps : (V : List Version) → Each IsCommitted V
        → Each (HasStamp q.tag (Prepared q.tag p.1)) V
    rest_stamps V c = each_weaker IsCommitted (HasStamp q.tag (Prepared q.tag p.1)) (λ v none mine.
        let wrong : true ≡ false = sym mine ∙ committed_is_not q.tag v none in cc) V c

    stamps_case : (V : List Version) → AtKey i.pending i.sessions V
        → Each (HasStamp q.tag (Prepared q.tag p.1)) V
    stamps_case [] at = tt
    stamps_case (v ∷ V) at = (
      (λ mine. (mine_case V v v.stamp refl mine (at v V refl)).0),
      rest_stamps V (front_below i.pending i.sessions V v.stamp (at v V refl)).0,
    )

    under_case : (o : Option ℕ) → IfSome o (λ commit. commit ≤ q.read_at)
        → unwrap_or o 0 ≤ q.read_at
    under_case None u = omega arith
    under_case (Some n) u = u

    behind_case : (v : Version) (V : List Version) (b : Bool) → is_of q.tag v ≡ b
        → IsFront i.pending i.sessions V v.stamp → is_some (option_map (λ (v : Version). v.doc)
        (cond b (Some v) (find (is_of q.tag) V))) ≡ true → newest_commit (v ∷ V) ≤ q.read_at
    behind_case v V true is front own =
        let mine = mine_case V v v.stamp refl is front in
        let none : newest_commit (v ∷ V) ≡ newest_commit V =
        ap (λ (st : Stamp). unwrap_or (first (cons_option (commit_of st)
        (filter_map (λ (v : Version). commit_of v.stamp) V))) 0) mine.0 in
        subst (λ n. n ≤ q.read_at) (sym none) (under_case (newest_of V) mine.1)
    behind_case v V false is front own =
        let nothing : own_at q.tag V ≡ None =
        ap (option_map (λ (v : Version). v.doc)) (none_found (is_of q.tag) V
        (committed_none q.tag V (front_below i.pending i.sessions V v.stamp front).0)) in
        let wrong : false ≡ true = sym (ap is_some nothing) ∙ own in cc

    over_case : (V : List Version) → AtKey i.pending i.sessions V → is_some (own_at q.tag V) ≡ true
        → newest_commit V ≤ q.read_at
    over_case [] at own = cc
    over_case (v ∷ V) at own = behind_case v V (is_of q.tag v) refl (at v V refl) own

    pending_has : (shard : ℕ) → PendingHas (part_of shard i) q
    pending_has shard =
        let st = prepared_is p.0.state p.1 p.2.state in
        record {
          s = p.0;
          at = p.1;
          coordinator = st.0;
          session = p.2.session;
          tag = p.2.tag;
          state = st.1;
          later = p.2.later;
          keys = p.2.keys;
          over = record {
            stamps = λ place. stamps_case (versions_of i.store place) (at_place place);
            behind = λ place. over_case (versions_of i.store place) (at_place place);
          };
        }

  prepared_case : (lsid : Lsid) (s : Session) (at coordinator : ℕ)
      → session_of i.sessions lsid ≡ Some s → s.state ≡ state.Prepared at coordinator
      → list_any (λ q. same_tag q.tag s.tag) i.pending ≡ true
  prepared_case lsid s at coordinator there is =
      let has : HasIts i.pending lsid s.tag (state.Prepared at coordinator) =
      subst (HasIts i.pending lsid s.tag) is (h.sessions lsid s there) in
      let found = held_of (λ q. q.lsid ≡ lsid) (pending_of i.pending s.tag) has in
      any_found s.tag i.pending found.0 found.1

  -- The part, and the core.

  pub image_whole : (shard last : ℕ) → IsFine i → IsWhole (part_of shard i) last
  image_whole shard last fine =
      record {
        stands = image_stands shard i h;
        rises = h.rises;
        filled = filled;
        newest = λ place. newest_case (versions_of i.store place) (at_place place);
        lives = tt;
        live = λ lsid o mine. cc;
        pending = each_of_all (Pends i.pending i.sessions i.store) (PendingHas (part_of shard i))
            (λ q p. pending_has q p shard) i.pending h.pending;
        prepared = prepared_case;
        apart = fine.apart;
      }

  pub core_backed : (shard : ℕ) → IsFine i → Backs i (core_of shard i)
  core_backed shard fine =
      record {
        whole = image_whole shard i.ceiling fine;
        holds = record {
          boot = refl;
          store = store_lasts;
          pending = refl;
          sessions = λ lsid recorded has. (
            some_has (part_of shard i) lsid recorded recorded has (inl refl),
            fine.never lsid recorded has,
          );
          recorded = λ lsid s there told. there;
        };
        ceiling = refl;
        rises = fine.rises;
        plans = refl;
      }

-- A boot's record changes nothing else.

boot_sound : (i : Image) (boot : ℕ) → IsImage i → IsImage (with_record i (rec.Boot boot))
boot_sound i boot h = record {
  rises = h.rises;
  keys = h.keys;
  pending = h.pending;
  sessions = h.sessions;
  limit = h.limit;
  most = h.most;
}

start_is : (shard : ℕ) (recs : List Rec) (faults : ℕ) (n : NodeState) (b : Bool)
    → (if b then Some (node_of shard (recs ++ boot_behind (image_of recs) ∷ []) faults)
    else None) ≡ Some n → node_of shard (recs ++ boot_behind (image_of recs) ∷ []) faults ≡ n
start_is shard recs faults n true h = cc
start_is shard recs faults n false h = cc

-- what a start finds: no record was refused, and it is that of the records with the next boot
pub record IsStart (shard : ℕ) (recs : List Rec) (faults : ℕ) (n : NodeState) : Type 0 where
  pub follows : first_refused recs ≡ None
  pub node : node_of shard (recs ++ boot_behind (image_of recs) ∷ []) faults ≡ n

pub started_case : (shard : ℕ) (recs : List Rec) (faults : ℕ) (n : NodeState) (o : Option ℕ)
    → first_refused recs ≡ o → started_if shard recs faults o ≡ Some n → IsStart shard recs faults n
started_case shard recs faults n None is h = record {
  follows = is;
  node = start_is shard recs faults n (nat_lt (image_of recs).boot 4294967294) h;
}
started_case shard recs faults n (Some index) is h = cc

pub start_backed : (shard : ℕ) (recs : List Rec) (faults : ℕ) (n : NodeState) → AreWritten recs
    → started shard recs faults ≡ Some n → IsBacked n.records n.core
start_backed shard recs faults n written h =
    let start = started_case shard recs faults n (first_refused recs) refl h in
    let i : Image = image_of recs in
    let j : Image = with_record i (boot_behind i) in
    let all : List Rec = recs ++ boot_behind i ∷ [] in
    let is : image_of all ≡ j = image_append recs (boot_behind i ∷ []) in
    let sound : IsImage j =
    boot_sound i (i.boot + 1) ((image_counted recs written start.follows).1) in
    let backs : Backs j (core_of shard j) =
    core_backed j sound shard (fine_record i (boot_behind i) (image_fine recs)) in
    subst (λ (x : NodeState). IsBacked x.records x.core) start.node (from_backs all (core_of shard
    (image_of all)) (subst (λ (x : Image). Backs x (core_of shard x)) (sym is) backs))

pub start_finds : (shard : ℕ) (recs : List Rec) (faults : ℕ) (n : NodeState) (s : ShardState)
    → IsBacked recs s → started shard recs faults ≡ Some n → IsFoundAgain s n.core
start_finds shard recs faults n s b h =
    let d : IsDurable (image_of recs) s = b.durable in
    let start = started_case shard recs faults n (first_refused recs) refl h in
    let i : Image = image_of recs in
    let j : Image = with_record i (boot_behind i) in
    let all : List Rec = recs ++ boot_behind i ∷ [] in
    let is : image_of all ≡ j = image_append recs (boot_behind i ∷ []) in
    let found : IsFoundAgain s (core_of shard j) = record {
      boot = ap (λ b. b + 1) d.boot;
      clock = ap (λ c. record { last = c; ceiling = c }) d.ceiling;
      store = d.store;
      pending = d.pending;
      live = refl;
      coord = d.coord;
      sessions = d.sessions;
      recorded = b.recorded;
      stopped = refl;
    } in
    subst (λ (x : NodeState). IsFoundAgain s x.core) start.node
    (subst (λ (x : Image). IsFoundAgain s (core_of shard x)) (sym is) found)

pub first_start : (shard faults : ℕ) → (n : NodeState) × (started shard [] faults ≡ Some n)
    × IsBacked n.records n.core
unfolding image_of
first_start shard faults =
    let n : NodeState = node_of shard (rec.Boot 1 ∷ []) faults in
    (n, refl, start_backed shard [] faults n tt refl)
