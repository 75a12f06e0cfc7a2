-- What a statement finds of its transaction, and how a part stands after it.
use Rattle.std.proofs.Common.{◌≡◌, Bool, true, false, cond, List, [], ◌∷◌, ◌++◌, Option, Some, None}
use Rattle.std.proofs.Common.{IsSome, IfSome, map, refl, ap, subst, ◌∙◌, sym}
use Rattle.std.specs.declared.cmp.Ordering.{Ordering}
use Rattle.std.specs.declared.cmp.Ordering.TheVariants.{Less, Equal, Greater}
use Rattle.txn_types.specs.BySession.{entry_of}
use Rattle.txn_types.specs.Order.{same_tag, same_lsid, lsid_cmp}
use Rattle.txn_types.specs.declared.message.Statement.{Statement}
use Rattle.txn_types.specs.declared.names.Tag.{Tag}
use Rattle.txn_types.specs.declared.node.Lsid.{Lsid}
use Rattle.txn_types.specs.declared.write.Write.{Write}
use Rattle.txn_types.proofs.Orders.{lsid_total, lsid_exact}
use Rattle.txn_semantics.specs.Keyed.{put, taken_out, laid, Rises}
use Rattle.txn_semantics.specs.Writes.{Place, place_of, place_cmp, placed, write_set}
use Rattle.txn_semantics.proofs.Laying.{laid_behind}
use Rattle.txn_semantics.proofs.Places.{place_total, place_exact}
use Rattle.session_table.specs.Sessions.{Table, with_session, prepared_at}
use Rattle.session_table.specs.declared.session.Session.{Session}
use Rattle.session_table.specs.declared.session.SessionState.{SessionState}
use Rattle.session_table.specs.declared.session.SessionState.TheVariants as state
use Rattle.version_store.specs.Versions.{Versions, keys_of, with_writes, dropped}
use Rattle.version_store.proofs.Keyed.{found}
use Rattle.version_store.proofs.TakenBack.{found_put, found_other}
use Rattle.participant.specs.declared.said.Open.{Open}
use Rattle.participant.specs.Part.{Part, session, open_of, is_open, elsewhere, closed, without_live}
use Rattle.participant.specs.Laws.{ChangesOnly}
use Rattle.participant.specs.Statement.{own_of, writes_with, with_open, made_room}
use Rattle.participant.specs.Statement.{stands as stands_as}
use Rattle.participant.specs.Stands.{StateAt, SessionAt, Stands, IsClosed, CanLeave, live_session}
use Rattle.participant.specs.Stands.{without_older, without_open, mine_of, mine}
use Rattle.participant.proofs.Elsewhere.{nowhere_else}
use Rattle.participant.proofs.Ends.{entry_elsewhere, entry_without}
use Rattle.participant.proofs.Forgotten.{nothing_taken}
use Rattle.participant.proofs.Inserted.{all_into, Ascend, keys_laid, ascend_keys, rises_under}
use Rattle.participant.proofs.Inserted.{put_taken}
use Rattle.participant.proofs.Keys.{keys_dropped}
use Rattle.write_sets.proofs.Merges.{laid-append}
use Rattle.participant.proofs.Moving.{made, moved, entry_here, of_two, one_session, none_live}
use Rattle.participant.proofs.Moving.{closed_at}
use Rattle.participant.proofs.Tags.{tag_flip, tag_same, lsid_same}
use Rattle.participant.proofs.Written.{keys_gone, keys_with, keys_with_others, rises_written}
use Rattle.participant.proofs.Written.{rises_dropped}

-- What stands there already.

pub record HasLive (p : Part) (lsid : Lsid) (a : Open) : Type 0 where
  pub s : Session
  pub there : session p lsid ≡ Some s
  pub live : s.state ≡ state.Live
  pub tag : a.tag ≡ s.tag
  pub keys : map place_of a.writes ≡ keys_of s.tag p.store

state_live : (store : Versions) (s : Session) (st : SessionState) (a : Open)
    → StateAt store s st (Some a) → (st ≡ state.Live) × (a.tag ≡ s.tag)
    × (map place_of a.writes ≡ keys_of s.tag store)
state_live store s state.Live a h = (refl, h.0, h.1)
state_live store s (state.Prepared at coordinator) a h = cc
state_live store s (state.Committed at) a h = cc
state_live store s state.Released a h = cc
state_live store s (state.Aborted why read_at) a h = cc

has_live_case : (p : Part) (lsid : Lsid) (a : Open) (there : Option Session)
    → session p lsid ≡ there → SessionAt p.store there (Some a) → HasLive p lsid a
has_live_case p lsid a None is at = cc
has_live_case p lsid a (Some s) is at = let h = state_live p.store s s.state a at in
    record { s = s; there = is; live = h.0; tag = h.1; keys = h.2 }

pub has_live : (p : Part) (lsid : Lsid) (a : Open) → Stands p → open_of p lsid ≡ Some a
    → HasLive p lsid a
has_live p lsid a stands is = has_live_case p lsid a (session p lsid) refl
    (subst (SessionAt p.store (session p lsid)) is (stands.sessions lsid))

-- the keys of its own versions
pub live_keys : (p : Part) (lsid : Lsid) (a : Open) → Stands p → open_of p lsid ≡ Some a
    → map place_of a.writes ≡ keys_of a.tag p.store
live_keys p lsid a stands is = let h = has_live p lsid a stands is in
    h.keys ∙ ap (λ tag. keys_of tag p.store) (sym h.tag)

-- the session of a live transaction is there
some_case : (p : Part) (lsid : Lsid) (o : Option Open) → open_of p lsid ≡ o → Stands p → IsSome o
    → IsSome (session p lsid)
some_case p lsid None is stands some = cc
some_case p lsid (Some a) is stands some = let h = has_live p lsid a stands is in
    subst IsSome (sym h.there) refl

pub session_there : (p : Part) (lsid : Lsid) → Stands p → IsSome (open_of p lsid)
    → IsSome (session p lsid)
session_there p lsid stands some = some_case p lsid (open_of p lsid) refl stands some

-- nothing is open where nothing is live and nothing prepared
shut_case : (store : Versions) (s : Session) (st : SessionState) → StateAt store s st None
    → prepared_at st ≡ None → is_open st ≡ true → ⊥
shut_case store s state.Live at left still = at
shut_case store s (state.Prepared at coordinator) none left still = cc
shut_case store s (state.Committed at) none left still = cc
shut_case store s state.Released none left still = cc
shut_case store s (state.Aborted why read_at) none left still = cc

if_some : {A : Type 0} (P : A → Type 0) (o : Option A) (a : A) → o ≡ Some a → IfSome o P → P a
if_some P o a is h = subst (λ x. IfSome x P) is h

not_open : (p : Part) (lsid : Lsid) (t : Session) → Stands p → CanLeave (session p lsid)
    → open_of p lsid ≡ None → session p lsid ≡ Some t → is_open t.state ≡ true → ⊥
not_open p lsid t stands left none there still =
    let at : SessionAt p.store (Some t) None = subst (SessionAt p.store (Some t)) none
    (subst (λ s. SessionAt p.store s (open_of p lsid)) there (stands.sessions lsid)) in
    shut_case p.store t t.state at
    (if_some (λ (t : Session). prepared_at t.state ≡ None) (session p lsid) t there left) still

-- What is the statement's own.

mine_none_case : (p : Part) (m : Statement) (o : Option Open) → open_of p m.lsid ≡ o → Stands p
    → IfSome (session p m.lsid) (λ s. same_tag s.tag m.tag ≡ false) → mine_of m.tag o ≡ None
mine_none_case p m None is stands other = refl
mine_none_case p m (Some a) is stands other =
    let h = has_live p m.lsid a stands is in
    ap (λ b. cond b (Some a) None) (ap (λ tag. same_tag tag m.tag) h.tag ∙ if_some
    (λ (s : Session). same_tag s.tag m.tag ≡ false) (session p m.lsid) h.s h.there other)

-- none at a first statement
pub mine_none : (p : Part) (m : Statement) → Stands p
    → IfSome (session p m.lsid) (λ s. same_tag s.tag m.tag ≡ false) → mine p m ≡ None
mine_none p m stands other = mine_none_case p m (open_of p m.lsid) refl stands other

-- and else what is live
mine_open_case : (p : Part) (m : Statement) (o : Option Open) → open_of p m.lsid ≡ o → Stands p
    → IfSome (session p m.lsid) (λ s. same_tag s.tag m.tag ≡ true) → mine_of m.tag o ≡ o
mine_open_case p m None is stands own = refl
mine_open_case p m (Some a) is stands own =
    let h = has_live p m.lsid a stands is in
    ap (λ b. cond b (Some a) None) (ap (λ tag. same_tag tag m.tag) h.tag
    ∙ if_some (λ (s : Session). same_tag s.tag m.tag ≡ true) (session p m.lsid) h.s h.there own)

pub mine_open : (p : Part) (m : Statement) → Stands p
    → IfSome (session p m.lsid) (λ s. same_tag s.tag m.tag ≡ true) → mine p m ≡ open_of p m.lsid
mine_open p m stands own = mine_open_case p m (open_of p m.lsid) refl stands own

-- The versions without those of an older transaction.

-- no other session has the tag open
abbrev pub ClosedBeside : Part → Lsid → Tag → Type 0
ClosedBeside p lsid tag = (x : Lsid) (t : Session) → same_lsid x lsid ≡ false → session p x ≡ Some t
    → is_open t.state ≡ true → same_tag t.tag tag ≡ false

beside_case : (p : Part) (lsid : Lsid) (tag : Tag) (x : Lsid) (t : Session) (b : Bool)
    → same_lsid x lsid ≡ b → ClosedBeside p lsid tag → ((s : Session) → session p lsid ≡ Some s
    → is_open s.state ≡ true → same_tag s.tag tag ≡ false)
    → session p x ≡ Some t → is_open t.state ≡ true → same_tag t.tag tag ≡ false
beside_case p lsid tag x t true is beside own there still =
    own t (subst (λ l. session p l ≡ Some t) (lsid_same x lsid is) there) still
beside_case p lsid tag x t false is beside own there still = beside x t is there still

closed_with : (p : Part) (lsid : Lsid) (tag : Tag) → ClosedBeside p lsid tag → ((s : Session)
    → session p lsid ≡ Some s → is_open s.state ≡ true → same_tag s.tag tag ≡ false)
    → IsClosed p tag
closed_with p lsid tag beside own x t there still =
    beside_case p lsid tag x t (same_lsid x lsid) refl beside own there still

-- of versions that a session's older transaction left: other transactions' are as they were, and
-- nobody's stand
pub record Left (p : Part) (lsid : Lsid) (store : Versions) : Type 0 where
  pub rises : Rises place_cmp store
  pub others : (x : Lsid) (t : Session) → same_lsid x lsid ≡ false → session p x ≡ Some t
      → is_open t.state ≡ true → keys_of t.tag store ≡ keys_of t.tag p.store

dropped_left : (p : Part) (lsid : Lsid) (a : Open) → Stands p → Rises place_cmp p.store
    → open_of p lsid ≡ Some a → Left p lsid (dropped a.tag p.store)
dropped_left p lsid a stands r is =
    let h = has_live p lsid a stands is in
    let so : is_open h.s.state ≡ true = ap is_open h.live in
    record {
      rises = rises_dropped a.tag p.store r;
      others = λ x t apart there still. keys_dropped a.tag t.tag p.store (ap (same_tag t.tag) h.tag
          ∙ of_two p lsid x h.s t stands h.there so apart there still);
    }

same_left : (p : Part) (lsid : Lsid) → Stands p → Rises place_cmp p.store → Left p lsid p.store
same_left p lsid stands r = record { rises = r; others = λ x t apart there still. refl }

-- nobody's versions stand where the session's live transaction was dropped
gone_case : (p : Part) (lsid : Lsid) (a : Open) (tag : Tag) (b : Bool)
    → same_tag tag a.tag ≡ b → Stands p → open_of p lsid ≡ Some a → ClosedBeside p lsid tag
    → keys_of tag (dropped a.tag p.store) ≡ []
gone_case p lsid a tag true same stands is beside =
    ap (λ t. keys_of t (dropped a.tag p.store)) (tag_same tag a.tag same) ∙ keys_gone a.tag p.store
gone_case p lsid a tag false same stands is beside =
    let h = has_live p lsid a stands is in
    keys_dropped a.tag tag p.store same
    ∙ stands.owned tag (closed_with p lsid tag beside (λ s there still.
    ap (λ (u : Session). same_tag u.tag tag) (one_session p lsid s h.s there h.there)
    ∙ ap (λ t. same_tag t tag) (sym h.tag) ∙ tag_flip a.tag tag ∙ same))

gone : (p : Part) (lsid : Lsid) (a : Open) (tag : Tag) → Stands p → open_of p lsid ≡ Some a
    → ClosedBeside p lsid tag → keys_of tag (dropped a.tag p.store) ≡ []
gone p lsid a tag stands is beside =
    gone_case p lsid a tag (same_tag tag a.tag) refl stands is beside

none_owned : (p : Part) (lsid : Lsid) (tag : Tag) → Stands p → CanLeave (session p lsid)
    → open_of p lsid ≡ None → ClosedBeside p lsid tag → keys_of tag p.store ≡ []
none_owned p lsid tag stands left is beside = stands.owned tag (closed_with p lsid tag beside
    (λ s there still. absurd (not_open p lsid s stands left is there still)))

-- what a statement's writes find
pub record Cleared (p : Part) (m : Statement) (store : Versions) (own : Option Open) : Type 0 where
  pub left : Left p m.lsid store
  pub keys : keys_of m.tag store ≡ map place_of (own_of own)
  pub nobody : (tag : Tag) → ClosedBeside p m.lsid tag → same_tag m.tag tag ≡ false
      → keys_of tag store ≡ []

older_case : (p : Part) (m : Statement) (a : Open) (b : Bool) → same_tag a.tag m.tag ≡ b → Stands p
    → Rises place_cmp p.store → ClosedBeside p m.lsid m.tag → open_of p m.lsid ≡ Some a
    → Cleared p m (cond b p.store (dropped a.tag p.store)) (cond b (Some a) None)
older_case p m a true same stands r beside is =
    let h = has_live p m.lsid a stands is in
    record {
      left = same_left p m.lsid stands r;
      keys = ap (λ t. keys_of t p.store) (sym (tag_same a.tag m.tag same))
          ∙ sym (live_keys p m.lsid a stands is);
      nobody = λ tag other differ.
          stands.owned tag (closed_with p m.lsid tag other (λ s there still.
          ap (λ (u : Session). same_tag u.tag tag) (one_session p m.lsid s h.s there h.there)
          ∙ ap (λ t. same_tag t tag) (sym h.tag ∙ tag_same a.tag m.tag same) ∙ differ));
    }
older_case p m a false same stands r beside is =
    record {
      left = dropped_left p m.lsid a stands r is;
      keys = gone p m.lsid a m.tag stands is beside;
      nobody = λ tag other differ. gone p m.lsid a tag stands is other;
    }

cleared_case : (p : Part) (m : Statement) (o : Option Open) → open_of p m.lsid ≡ o → Stands p
    → Rises place_cmp p.store → ClosedBeside p m.lsid m.tag → CanLeave (session p m.lsid)
    → Cleared p m (without_older m.tag o p.store) (mine_of m.tag o)
cleared_case p m None is stands r beside left =
    record {
      left = same_left p m.lsid stands r;
      keys = none_owned p m.lsid m.tag stands left is beside;
      nobody = λ tag other differ. none_owned p m.lsid tag stands left is other;
    }
cleared_case p m (Some a) is stands r beside left =
    older_case p m a (same_tag a.tag m.tag) refl stands r beside is

pub cleared : (p : Part) (m : Statement) → Stands p → Rises place_cmp p.store
    → ClosedBeside p m.lsid m.tag → CanLeave (session p m.lsid)
    → Cleared p m (without_older m.tag (open_of p m.lsid) p.store) (mine p m)
cleared p m stands r beside left = cleared_case p m (open_of p m.lsid) refl stands r beside left

-- The keys of the writes of a transaction.

abbrev IsPlaced : List (Place × Write) → Type 0
IsPlaced [] = Unit {0}
IsPlaced (row ∷ rows) = (row.0 ≡ place_of row.1) × IsPlaced rows

placed_laid_case : (write : Write) (row : Place × Write) (rows : List (Place × Write))
    (o : Ordering) → IsPlaced (row ∷ rows) → IsPlaced (put place_cmp (place_of write) write rows)
    → IsPlaced (elim o [
      | Less ↦ (place_of write, write) ∷ row ∷ rows
      | Equal ↦ (place_of write, write) ∷ rows
      | Greater ↦ row ∷ put place_cmp (place_of write) write rows
    ])
placed_laid_case write row rows Less all more = (refl, all)
placed_laid_case write row rows Equal all more = (refl, all.1)
placed_laid_case write row rows Greater all more = (all.0, more)

placed_put : (write : Write) (rows : List (Place × Write)) → IsPlaced rows
    → IsPlaced (put place_cmp (place_of write) write rows)
placed_put write [] all = (refl, tt)
placed_put write (row ∷ rows) all = placed_laid_case write row rows (place_cmp (place_of write)
    row.0) all (placed_put write rows all.1)

placed_laid : (rows : List (Place × Write)) (writes : List Write) → IsPlaced rows
    → IsPlaced (laid place_cmp rows (map placed writes))
placed_laid rows [] all = all
placed_laid rows (write ∷ writes) all =
    placed_laid (put place_cmp (place_of write) write rows) writes (placed_put write rows all)

keys_placed : (rows : List (Place × Write)) → IsPlaced rows → map place_of
    (map (λ (row : Place × Write). row.1) rows) ≡ map (λ (row : Place × Write). row.0) rows
keys_placed [] all = refl
keys_placed (row ∷ rows) all =
    ap (λ (p : Place). p ∷ map place_of (map (λ (row : Place × Write). row.1) rows)) (sym all.0)
    ∙ ap (λ (keys : List Place). row.0 ∷ keys) (keys_placed rows all.1)

laid_over_nothing : (rows : List (Place × Write)) → Rises place_cmp rows
    → laid place_cmp [] rows ≡ rows
laid_over_nothing [] r = refl
laid_over_nothing (row ∷ rows) r = laid_behind place_cmp place_total place_exact row [] rows r.0
    ∙ ap (λ (xs : List (Place × Write)). row ∷ xs) (laid_over_nothing rows r.1)

keys_of_placed : (writes : List Write)
    → map (λ (row : Place × Write). row.0) (map placed writes) ≡ map place_of writes
keys_of_placed [] = refl
keys_of_placed (write ∷ writes) =
    ap (λ (keys : List Place). place_of write ∷ keys) (keys_of_placed writes)

pub keys_of_set : (own writes : List Write) → Ascend place_cmp (map place_of own) → map place_of
    (write_set (own ++ writes)) ≡ all_into place_cmp (map place_of writes) (map place_of own)
keys_of_set own writes up =
    let all : List (Place × Write) = laid place_cmp [] (map placed (own ++ writes)) in
    keys_placed all (placed_laid [] (own ++ writes) tt)
    ∙ ap (map (λ (row : Place × Write). row.0)) (laid-append [] own writes)
    ∙ ap (λ rows. map (λ (row : Place × Write). row.0) (laid place_cmp rows (map placed writes)))
    (laid_over_nothing (map placed own)
    (rises_under place_cmp place_of (λ (write : Write). write) own up))
    ∙ keys_laid place_cmp (map placed own) (map placed writes)
    ∙ ap (λ (keys : List Place). all_into place_cmp keys
    (map (λ (row : Place × Write). row.0) (map placed own))) (keys_of_placed writes)
    ∙ ap (all_into place_cmp (map place_of writes)) (keys_of_placed own)

-- After a statement that is done.

put_entry : (lsid : Lsid) (o : Open) (live : List (Lsid × Open))
    → entry_of lsid (put lsid_cmp lsid o live) ≡ Some o
put_entry lsid o live = sym (found lsid_cmp lsid (put lsid_cmp lsid o live))
    ∙ found_put lsid_cmp lsid_total lsid_exact lsid o live

put_other : (x lsid : Lsid) (o : Open) (live : List (Lsid × Open)) → same_lsid x lsid ≡ false
    → entry_of x (put lsid_cmp lsid o live) ≡ entry_of x live
put_other x lsid o live apart = sym (found lsid_cmp x (put lsid_cmp lsid o live))
    ∙ found_other lsid_cmp lsid_total lsid_exact lsid x o live apart ∙ found lsid_cmp x live

abbrev pub written_part : Part → Statement → Open → List Write → Part
written_part p m o writes =
    record p {
      sessions = with_session p.sessions m.lsid (live_session m);
      live = put lsid_cmp m.lsid o p.live;
      store = with_writes m.tag (without_older m.tag (open_of p m.lsid) p.store) writes;
    }

pub written_by : (p : Part) (m : Statement) (o : Open) (writes : List Write)
    (table : Table) (live : List (Lsid × Open)) (store : Versions)
    → table ≡ with_session p.sessions m.lsid (live_session m) → live ≡ put lsid_cmp m.lsid o p.live
    → store ≡ with_writes m.tag (without_older m.tag (open_of p m.lsid) p.store) writes
    → record p { sessions = table; live = live; store = store } ≡ written_part p m o writes
written_by p m o writes table live store ht hl hs =
    made p table (with_session p.sessions m.lsid (live_session m))
    live (put lsid_cmp m.lsid o p.live) store
    (with_writes m.tag (without_older m.tag (open_of p m.lsid) p.store) writes) ht hl hs

written_changes : (p : Part) (m : Statement) (o : Open) (writes : List Write)
    → ChangesOnly m.lsid p (written_part p m o writes)
written_changes p m o writes =
    record {
      shard = refl;
      boot = refl;
      sessions =
          λ other apart. entry_elsewhere other m.lsid apart (live_session m) p.sessions.entries;
      live = λ other apart. put_other other m.lsid o p.live apart;
    }

pub written_stands : (p : Part) (m : Statement) (o : Open) (writes : List Write) → Stands p
    → Rises place_cmp p.store → elsewhere p m.lsid m.tag ≡ false → CanLeave (session p m.lsid)
    → o.tag ≡ m.tag → o.writes ≡ writes_with (mine p m) writes → Stands (written_part p m o writes)
written_stands p m o writes stands r once leave tag whole =
    let beside : ClosedBeside p m.lsid m.tag = nowhere_else p m.lsid m.tag once in
    let store : Versions = without_older m.tag (open_of p m.lsid) p.store in
    let clear : Cleared p m store (mine p m) = cleared p m stands r beside leave in
    let now : Session = live_session m in
    let q : Part = written_part p m o writes in
    let here : session q m.lsid ≡ Some now = entry_here m.lsid now p.sessions.entries in
    let up : Ascend place_cmp (map place_of (own_of (mine p m))) = subst (Ascend place_cmp)
    clear.keys (ascend_keys place_cmp _ (rises_written m.tag store clear.left.rises)) in
    let keys : map place_of o.writes ≡ keys_of m.tag q.store =
    ap (map place_of) whole
    ∙ keys_of_set (own_of (mine p m)) writes up
    ∙ ap (all_into place_cmp (map place_of writes)) (sym clear.keys)
    ∙ sym (keys_with m.tag store writes clear.left.rises) in
    let has : StateAt q.store now state.Live (Some o) = (tag, keys) in
    moved m.lsid p q stands
    (record {
      others = written_changes p m o writes;
      mine = subst (λ s. SessionAt q.store s (open_of q m.lsid)) (sym here)
          (subst (λ e. SessionAt q.store (Some now) e) (sym (put_entry m.lsid o p.live)) has);
      keys = λ x t other ht to. keys_with_others m.tag t.tag store writes clear.left.rises (beside x
          t other ht to) ∙ clear.left.others x t other ht to;
      pending = λ x t other ht to. refl;
      prepared = λ u at coordinator hu prepared.
          let same : Some now ≡ Some u = sym here ∙ hu in
          let one : now ≡ u = cc in
          let wrong : state.Live ≡ state.Prepared at coordinator = ap (λ (v : Session). v.state) one
          ∙ prepared in
          cc;
      apart = λ x u t other hu ht uo to.
          let same : Some now ≡ Some u = sym here ∙ hu in
          let one : now ≡ u = cc in
          ap (λ (v : Session). same_tag v.tag t.tag) (sym one) ∙ tag_flip m.tag t.tag
          ∙ beside x t other ht to;
      owned = λ other shut.
          let differ : same_tag m.tag other ≡ false = shut m.lsid now here refl in
          keys_with_others m.tag other store writes clear.left.rises (tag_flip other m.tag ∙ differ)
          ∙ clear.nobody other (λ x t apart there still. shut x t
          (entry_elsewhere x m.lsid apart now p.sessions.entries ∙ there) still) differ;
    })

room_other : (p : Part) (m : Statement) (o a : Open) (writes : List Write) (b : Bool)
    → open_of p m.lsid ≡ Some a → Rises lsid_cmp p.live
    → (let x : Part = with_open (made_room p m (cond b (Some a) None)) m o writes in x)
    ≡ record p {
      sessions = with_session p.sessions m.lsid (live_session m);
      live = put lsid_cmp m.lsid o p.live;
      store = with_writes m.tag (cond b p.store (dropped a.tag p.store)) writes;
    }
room_other p m o a writes true is r = refl
room_other p m o a writes false is r =
    ap (λ e. with_open (closed p m.lsid e) m o writes) is
    ∙ ap (λ (live : List (Lsid × Open)). let x : Part = record p {
      sessions = with_session p.sessions m.lsid (live_session m);
      live = live;
      store = with_writes m.tag (dropped a.tag p.store) writes;
    } in x)
    (put_taken lsid_cmp lsid_total lsid_exact m.lsid o p.live r)

room_case : (p : Part) (m : Statement) (o : Open) (writes : List Write) (e : Option Open)
    → open_of p m.lsid ≡ e → Rises lsid_cmp p.live
    → (let x : Part = with_open (made_room p m (mine_of m.tag e)) m o writes in x)
    ≡ record p {
      sessions = with_session p.sessions m.lsid (live_session m);
      live = put lsid_cmp m.lsid o p.live;
      store = with_writes m.tag (without_older m.tag e p.store) writes;
    }
room_case p m o writes None is r = ap (λ e. with_open (closed p m.lsid e) m o writes) is
room_case p m o writes (Some a) is r = room_other p m o a writes (same_tag a.tag m.tag) is r

-- the part that a statement leaves, as its definition has it
pub room_is : (p : Part) (m : Statement) (o : Open) (writes : List Write) → Rises lsid_cmp p.live
    → with_open (made_room p m (mine p m)) m o writes ≡ written_part p m o writes
room_is p m o writes r = room_case p m o writes (open_of p m.lsid) refl r

-- After a refusal.

-- a session that isn't open isn't one that is
not_both : (found_there : Option Session) (now u : Session) → found_there ≡ Some now
    → found_there ≡ Some u → is_open now.state ≡ false → is_open u.state ≡ true → ⊥
not_both found_there now u here there shut still =
    let same : Some now ≡ Some u = sym here ∙ there in
    let one : now ≡ u = cc in
    let wrong : true ≡ false = sym still ∙ ap (λ (v : Session). is_open v.state) (sym one) ∙ shut in
    cc

shut_stands : (p : Part) (m : Statement) (st : SessionState) (live : List (Lsid × Open))
    (store : Versions) → is_open st ≡ false → Stands p → ((x : Lsid) → same_lsid x m.lsid ≡ false
    → entry_of x live ≡ entry_of x p.live) → entry_of m.lsid live ≡ None
    → Left p m.lsid store → ((tag : Tag) → ClosedBeside p m.lsid tag → keys_of tag store ≡ [])
    → Stands (record p {
      sessions =
          with_session p.sessions m.lsid (record { number = m.number; tag = m.tag; state = st });
      live = live;
      store = store;
    })
shut_stands p m st live store shut stands lives none left nobody =
    let now : Session = record { number = m.number; tag = m.tag; state = st } in
    let q : Part =
    record p { sessions = with_session p.sessions m.lsid now; live = live; store = store } in
    let here : session q m.lsid ≡ Some now = entry_here m.lsid now p.sessions.entries in
    moved m.lsid p q stands
    (record {
      others = record {
        shard = refl;
        boot = refl;
        sessions = λ other apart. entry_elsewhere other m.lsid apart now p.sessions.entries;
        live = lives;
      };
      mine = subst (λ s. SessionAt store s (entry_of m.lsid live)) (sym here) (closed_at store now
          st (entry_of m.lsid live) shut none);
      keys = left.others;
      pending = λ x t other ht to. refl;
      prepared = λ u at coordinator hu prepared. absurd (not_both (session q m.lsid) now u here hu
          shut (ap is_open prepared));
      apart = λ x u t other hu ht uo to. absurd (not_both (session q m.lsid) now u here hu shut uo);
      owned = λ tag closed. nobody tag (λ x t apart there still.
          closed x t (entry_elsewhere x m.lsid apart now p.sessions.entries ∙ there) still);
    })

-- the session's transaction is aborted, and has nothing any more
pub refused_stands : (p : Part) (m : Statement) (st : SessionState) (o : Option Open)
    → open_of p m.lsid ≡ o → is_open st ≡ false → Stands p → Rises lsid_cmp p.live
    → Rises place_cmp p.store → CanLeave (session p m.lsid)
    → Stands (stands_as (closed p m.lsid o) m st)
refused_stands p m st None is shut stands rl rs leave =
    shut_stands p m st p.live p.store shut stands (λ x apart. refl) is (same_left p m.lsid stands
    rs) (λ tag beside. none_owned p m.lsid tag stands leave is beside)
refused_stands p m st (Some a) is shut stands rl rs leave =
    shut_stands p m st (taken_out lsid_cmp m.lsid p.live) (dropped a.tag p.store) shut
    stands (λ x apart. entry_without x m.lsid apart p.live) (none_live p m.lsid rl)
    (dropped_left p m.lsid a stands rs is)
    (λ tag beside. gone p m.lsid a tag stands is beside)

-- what a refusal takes
pub closed_is : (p : Part) (lsid : Lsid) (o : Option Open) → open_of p lsid ≡ o → record p
    { live = taken_out lsid_cmp lsid p.live; store = without_open o p.store } ≡ closed p lsid o
closed_is p lsid None is = ap (λ (live : List (Lsid × Open)). let x : Part =
    record p { live = live } in x) (nothing_taken lsid p.live is)
closed_is p lsid (Some a) is = refl

same_sessions : (p : Part) (m : Statement) (st : SessionState) (o : Option Open)
    → (let x : Part = record (closed p m.lsid o) {
      sessions =
          with_session p.sessions m.lsid (record { number = m.number; tag = m.tag; state = st });
    } in x) ≡ stands_as (closed p m.lsid o) m st
same_sessions p m st None = refl
same_sessions p m st (Some a) = refl

-- the part that a refusal leaves, as its definition has it
pub refusing : (p : Part) (m : Statement) (st : SessionState)
    (table : Table) (live : List (Lsid × Open)) (store : Versions)
    → table ≡ with_session p.sessions m.lsid (record { number = m.number; tag = m.tag; state = st })
    → live ≡ taken_out lsid_cmp m.lsid p.live → store ≡ without_open (open_of p m.lsid) p.store
    → record p { sessions = table; live = live; store = store }
    ≡ stands_as (without_live p m.lsid) m st
refusing p m st table live store ht hl hs =
    let now : Session = record { number = m.number; tag = m.tag; state = st } in
    made p table (with_session p.sessions m.lsid now) live (taken_out lsid_cmp m.lsid p.live) store
    (without_open (open_of p m.lsid) p.store) ht hl hs
    ∙ ap (λ (q : Part). let x : Part = record q { sessions = with_session p.sessions m.lsid now } in
    x) (closed_is p m.lsid (open_of p m.lsid) refl)
    ∙ same_sessions p m st (open_of p m.lsid)
