-- A record that can follow keeps the state of one piece, and what is counted of it is what is
-- counted of the records.
use Rattle.std.proofs.Common.{◌≡◌, ◌≤◌, ◌+◌, ℕ, ℤ, Bool, true, false, List, [], ◌∷◌, ◌++◌, map}
use Rattle.std.proofs.Common.{find, length, nat_eq, Option, Some, None, option_and_then, IsSomeAnd}
use Rattle.std.proofs.Common.{if◌then◌else◌, All, refl, ap, sym, ◌∙◌, arith}
use Rattle.std.specs.List.{AllByRecursion}
use Rattle.std.specs.Option.{option_or}
use Rattle.std.proofs.lemmas.List.Elements.{All-cons, All-nil}
use Rattle.std.proofs.lemmas.List.Folds.{find-append}
use Rattle.txn_types.specs.Order.{same_tag, same_lsid}
use Rattle.txn_types.specs.declared.names.Tag.{Tag}
use Rattle.txn_types.specs.declared.node.Lsid.{Lsid}
use Rattle.txn_types.specs.declared.write.Write.{Write}
use Rattle.txn_semantics.specs.Keyed.{Rises}
use Rattle.txn_semantics.specs.Writes.{Place, place_of, place_cmp, placed}
use Rattle.session_table.specs.Sessions.{Table, session_of, with_session, prepared_at}
use Rattle.session_table.specs.declared.session.Session.{Session}
use Rattle.session_table.specs.declared.session.SessionState.{SessionState}
use Rattle.session_table.specs.declared.session.SessionState.TheVariants as state
use Rattle.version_store.specs.Versions.{Versions, with_writes, restamped, stamped, keys_of, is_of}
use Rattle.version_store.specs.declared.version.Pending.{Pending}
use Rattle.version_store.specs.declared.version.Stamp.{Stamp}
use Rattle.version_store.specs.declared.version.Stamp.TheVariants.{Prepared, At}
use Rattle.version_store.specs.declared.version.Version.{Version}
use Rattle.journal_rec.specs.Follows as journal
use Rattle.journal_rec.specs.Follows.{Ledger, Standing, can_go_on, can_follow, can_follow_boot}
use Rattle.journal_rec.specs.Follows.{standing_of, coordination_of, most_sessions, committed}
use Rattle.journal_rec.specs.Follows.{decides, is_undecided, is_from}
use Rattle.journal_rec.specs.declared.record.Rec.{Rec}
use Rattle.journal_rec.specs.declared.record.Rec.TheVariants as rec
use Rattle.shard_image.specs.Image.{Image, with_record, ledger_of, standing_by}
use Rattle.shard_image.specs.Laws.{HasNone}
use Rattle.shard_image.specs.Sound.{pending_of, prepare_time, IsKey, Pends, HasIts, IsImage}
use Rattle.shard_image.proofs.Found.{found_holds, each_as, each_with, each_append}
use Rattle.shard_image.proofs.Sessions.{lsid_is, entry_there, entry_elsewhere, length_with_entry}
use Rattle.shard_image.proofs.Counting.{commit_counted, number_counted, counts_on}
use Rattle.shard_image.proofs.Fronts.{own_tag, not_same, Frames, IsMid, IsOpenKey, mid_of}
use Rattle.shard_image.proofs.Fronts.{commits_key, prepares_key}
use Rattle.shard_image.proofs.Stores.{none_own, IsStampOf, IsWritable, writes_keep, rises_writes}
use Rattle.shard_image.proofs.Stores.{rises_mapped, each_mapped, keys_are, writes_leave}
use Rattle.shard_image.proofs.Stores.{stamp_leaves, own_keys, own_stamped, writes_newest}
use Rattle.shard_image.proofs.Stores.{prepared_newest, nothing_own}
use Rattle.shard_image.proofs.Freed.{Writes, opens, none_found}

pub same_ledger : (a b : Ledger) → a.boot ≡ b.boot → a.ceiling ≡ b.ceiling → a.greatest ≡ b.greatest
    → a.numbers ≡ b.numbers → a.standing ≡ b.standing → a.newest ≡ b.newest
    → a.coordinated ≡ b.coordinated → a ≡ b
same_ledger a b boot ceiling greatest numbers standing newest coordinated =
    λ j. record {
      boot = boot j;
      ceiling = ceiling j;
      greatest = greatest j;
      numbers = numbers j;
      standing = standing j;
      newest = newest j;
      coordinated = coordinated j;
    }

-- Sessions and prepared transactions.

-- of other sessions the prepared transactions count as before
standing_same : (t : Table) (lsid : Lsid) (s : Session) (pending : List Pending)
    → AllByRecursion (λ q. same_lsid q.lsid lsid ≡ false) pending
    → map (standing_by (with_session t lsid s)) pending ≡ map (standing_by t) pending
standing_same t lsid s [] all = refl
standing_same t lsid s (q ∷ pending) all =
    let e : session_of (with_session t lsid s) q.lsid ≡ session_of t q.lsid =
    entry_elsewhere q.lsid lsid all.0 s t.entries in
    let here : standing_by (with_session t lsid s) q ≡ standing_by t q = rw e refl in
    rw here
    (ap (λ (xs : List Standing). standing_by t q ∷ xs) (standing_same t lsid s pending all.1))

pub time_elsewhere : (t : Table) (lsid other : Lsid) (s : Session) → same_lsid other lsid ≡ false
    → prepare_time (with_session t lsid s) other ≡ prepare_time t other
time_elsewhere t lsid other s apart = ap (option_and_then (λ (s : Session). prepared_at s.state))
    (entry_elsewhere other lsid apart s t.entries)

-- what a session's transaction has, after one of this session
pub has_case : (pending pending' : List Pending) (t : Table) (lsid other : Lsid) (new s : Session)
    (b : Bool) → same_lsid other lsid ≡ b → session_of (with_session t lsid new) other ≡ Some s
    → ((lsid : Lsid) (s : Session) → session_of t lsid ≡ Some s → HasIts pending lsid s.tag s.state)
    → HasIts pending' lsid new.tag new.state
    → ((s : Session) → same_lsid other lsid ≡ false → HasIts pending other s.tag s.state
    → HasIts pending' other s.tag s.state) → HasIts pending' other s.tag s.state
has_case pending pending' t lsid other new s true is found all here more =
    let same : other ≡ lsid = lsid_is other lsid is in
    let there : session_of (with_session t lsid new) other ≡ Some new =
    rw same (entry_there lsid new t.entries) in
    let one : new ≡ s = cc in
    rw (same, ← one) here
has_case pending pending' t lsid other new s false is found all here more =
    more s is (all other s (sym (entry_elsewhere other lsid is new t.entries) ∙ found))

-- a found option is found in more
found_more : (pending : List Pending) (q new : Pending) (tag : Tag)
    → pending_of pending tag ≡ Some q → pending_of (pending ++ new ∷ []) tag ≡ Some q
found_more pending q new tag is =
    find-append (λ (q : Pending). same_tag q.tag tag) pending (new ∷ []) ∙ ap
    (λ (o : Option Pending). option_or o (find (λ (q : Pending). same_tag q.tag tag) (new ∷ []))) is

found_new : (pending : List Pending) (new : Pending) → pending_of pending new.tag ≡ None
    → pending_of (pending ++ new ∷ []) new.tag ≡ Some new
found_new pending new none =
    find-append (λ (q : Pending). same_tag q.tag new.tag) pending (new ∷ [])
    ∙ ap (λ (o : Option Pending). option_or o (find (λ (q : Pending). same_tag q.tag new.tag)
    (new ∷ []))) none ∙ rw (own_tag new.tag) refl

has_more_case : (pending : List Pending) (new : Pending) (lsid : Lsid) (tag : Tag)
    (o : Option Pending) → pending_of pending tag ≡ o → IsSomeAnd o (λ q. q.lsid ≡ lsid)
    → IsSomeAnd (pending_of (pending ++ new ∷ []) tag) (λ q. q.lsid ≡ lsid)
has_more_case pending new lsid tag None is h = absurd h
has_more_case pending new lsid tag (Some q) is h = rw (found_more pending q new tag is) h

has_more : (pending : List Pending) (new : Pending) (lsid : Lsid) (tag : Tag) (st : SessionState)
    → HasIts pending lsid tag st → HasIts (pending ++ new ∷ []) lsid tag st
has_more pending new lsid tag state.Live h = absurd h
has_more pending new lsid tag (state.Prepared at coordinator) h =
    has_more_case pending new lsid tag (pending_of pending tag) refl h
has_more pending new lsid tag (state.Committed at) h = tt
has_more pending new lsid tag state.Released h = tt
has_more pending new lsid tag (state.Aborted why read_at) h = tt

-- a prepared transaction of another session stays
pub pends_still : (pending pending' : List Pending) (t : Table) (lsid : Lsid)
    (new : Session) (store store' : Versions) (q : Pending) → same_lsid q.lsid lsid ≡ false
    → (pending_of pending q.tag ≡ Some q → pending_of pending' q.tag ≡ Some q)
    → keys_of q.tag store' ≡ keys_of q.tag store → Pends pending t store q
    → Pends pending' (with_session t lsid new) store' q
pends_still pending pending' t lsid new store store' q apart found keys p = (
  p.0,
  p.1,
  record {
    first = found p.2.first;
    session = entry_elsewhere q.lsid lsid apart new t.entries ∙ p.2.session;
    tag = p.2.tag;
    state = p.2.state;
    later = p.2.later;
    keys = keys ∙ p.2.keys;
  },
)

all_of_each : {A : Type 0} (P : A → Type 0) (xs : List A) → AllByRecursion P xs → All P xs
all_of_each P [] h = All-nil P
all_of_each P (x ∷ xs) h = All-cons P x xs h.0 (all_of_each P xs h.1)

-- no version is of a transaction that isn't prepared
has_none : (tag : Tag) (pending : List Pending) (sessions : Table) (store : Versions)
    → pending_of pending tag ≡ None → AllByRecursion (λ row. IsKey pending sessions row.1) store
    → HasNone tag store
has_none tag pending sessions store new keys =
    all_of_each (λ (key : Place × List Version). All (λ version. is_of tag version ≡ false) key.1)
    store
    (each_as (λ (row : Place × List Version). IsKey pending sessions row.1)
    (λ (key : Place × List Version). All (λ version. is_of tag version ≡ false) key.1) store
    (λ row key. all_of_each (λ version. is_of tag version ≡ false) row.1
    (none_found (is_of tag) row.1 (none_own tag pending sessions row.1 new key))) keys)

map_one_more : {A B : Type 0} (f : A → B) (xs : List A) (x : A)
    → map f (xs ++ x ∷ []) ≡ map f xs ++ f x ∷ []
map_one_more f [] x = refl
map_one_more {A} {B} f (y ∷ xs) x = ap (λ (ys : List B). f y ∷ ys) (map_one_more f xs x)

-- what is counted of a state
abbrev pub Counted : Image → Rec → Type 0
Counted i r = (ledger_of (with_record i r) ≡ journal.with_record (ledger_of i) r)
    × IsImage (with_record i r)

pub boot_stays : (count boot : ℕ) → nat_eq count 0 ≡ false → ◌≡◌ {A = Option ℕ} (if nat_eq
    (count + 1) 0 then None else Some boot) (if nat_eq count 0 then None else Some boot)
boot_stays count boot e = rw (counts_on count, e) refl

-- A transaction commits, or is prepared.
module _ (i : Image) (h : IsImage i) (some : nat_eq i.count 0 ≡ false) (tag : Tag)
    (lsid : Lsid) (number : ℤ) (read_at at : ℕ) (writes : List Write) (rising : Rises place_cmp
    (map placed writes)) (w : Writes i tag lsid number read_at at writes) where
  abbrev new_session : SessionState → Session
  new_session st = record { number = number; tag = tag; state = st }

  abbrev new_table : SessionState → Table
  new_table st = with_session i.sessions lsid (new_session st)

  abbrev written_store : Versions
  written_store = with_writes tag i.store writes

  mid : AllByRecursion (λ row. IsMid tag read_at i.pending i.sessions row.1) written_store
  mid =
      let start = each_with (λ (row : Place × List Version). IsKey i.pending
      i.sessions row.1) (λ row. journal.is_free (ledger_of i) read_at row.0 ≡ true
      → IsOpenKey read_at row.1) (IsWritable tag read_at i.pending i.sessions
      (journal.is_free (ledger_of i) read_at)) i.store
      (λ row a b. (mid_of tag read_at i.pending i.sessions row.1 w.new a, b)) h.keys (opens i
      h read_at) in
      each_as (IsWritable tag read_at i.pending i.sessions (journal.is_free (ledger_of i) read_at))
      (λ row. IsMid tag read_at i.pending i.sessions row.1) written_store (λ row a. a.0)
      (writes_keep tag read_at i.pending i.sessions (journal.is_free (ledger_of i) read_at) writes
      i.store h.rises w.free start)

  others : AllByRecursion (λ q. same_tag q.tag tag ≡ false) i.pending
  others = none_found (λ (q : Pending). same_tag q.tag tag) i.pending w.new

  frame : (st : SessionState) (pending' : List Pending)
      → ((q : Pending) (t : Tag) → pending_of i.pending t ≡ Some q → pending_of pending' t ≡ Some q)
      → Frames tag i.pending i.sessions pending' (new_table st)
  frame st pending' more =
      record {
        same = λ t q apart is. (
          more q t is,
          time_elsewhere i.sessions lsid q.lsid (new_session st) (found_holds (λ (q : Pending).
              same_tag q.tag t) (λ q. same_lsid q.lsid lsid ≡ false) i.pending q w.nobody is),
        );
      }

  pend : (st : SessionState) (pending' : List Pending) (stamp : Stamp) → IsStampOf tag stamp
      → ((q : Pending) (t : Tag) → pending_of i.pending t ≡ Some q → pending_of pending' t ≡ Some q)
      → AllByRecursion (Pends pending' (new_table st) (stamped tag stamp written_store)) i.pending
  pend st pending' stamp own more =
      let both = each_with (λ (q : Pending). same_lsid q.lsid lsid
      ≡ false) (λ q. same_tag q.tag tag ≡ false) (λ q. (same_lsid q.lsid lsid ≡ false)
      × (same_tag q.tag tag ≡ false)) i.pending (λ q a b. (a, b)) w.nobody others in
      each_with (λ (q : Pending). (same_lsid q.lsid lsid ≡ false) × (same_tag q.tag tag ≡ false))
      (Pends i.pending i.sessions i.store)
      (Pends pending' (new_table st) (stamped tag stamp written_store)) i.pending
      (λ q a p.
      let apart = not_same tag q.tag a.1 in
      pends_still i.pending pending' i.sessions lsid (new_session st) i.store
      (stamped tag stamp written_store) q a.0 (more q q.tag)
      (keys_are q.tag (stamped tag stamp written_store) ∙ stamp_leaves q.tag tag stamp
      written_store own apart ∙ ap (λ (xs : List (Place × Version)). map (λ row. row.0) xs)
      (writes_leave q.tag tag writes i.store apart h.rises) ∙ sym (keys_are q.tag i.store)) p)
      both h.pending

  most : (st : SessionState) → length (new_table st).entries ≤ most_sessions
  most st = let more = length_with_entry lsid (new_session st) i.sessions.entries in
      omega (arith, more, h.most, w.room)

  pub commit_step : Counted i (rec.Commit tag lsid number read_at at writes)
  commit_step =
      let stays = λ (q : Pending) (t : Tag) (is : pending_of i.pending t ≡ Some q). is in (
        same_ledger _ _ (boot_stays i.count i.boot some) refl refl
            (number_counted lsid (new_session (state.Committed at)) i.sessions.entries)
            (standing_same i.sessions lsid (new_session (state.Committed at)) i.pending w.nobody)
            (commit_counted tag at writes i.store h.rises
            (has_none tag i.pending i.sessions i.store w.new h.keys)) refl,
        record {
          rises = rises_mapped (map (restamped tag (At at))) written_store (rises_writes tag writes
              i.store h.rises);
          keys = each_mapped (IsMid tag read_at i.pending i.sessions) (IsKey i.pending
              (new_table (state.Committed at))) (map (restamped tag (At at))) written_store
              (λ versions m. commits_key tag i.pending i.sessions i.pending
              (new_table (state.Committed at)) (frame (state.Committed at) i.pending stays)
              read_at at versions w.later m) mid;
          pending = pend (state.Committed at) i.pending (At at) tt stays;
          sessions = λ other s found. has_case i.pending i.pending i.sessions lsid other
              (new_session (state.Committed at)) s (same_lsid other lsid) refl found h.sessions tt
              (λ s apart has. has);
          limit = h.limit;
          most = most (state.Committed at);
        },
      )

  pub prepare_step : (boot coordinator : ℕ)
      → Counted i (rec.Prepared tag lsid number boot read_at at coordinator writes)
  prepare_step boot coordinator =
      let st = state.Prepared at coordinator in
      let q : Pending =
      record { tag = tag; lsid = lsid; read_at = read_at; keys = map place_of writes } in
      let pending' : List Pending = i.pending ++ q ∷ [] in
      let more = λ (p : Pending) (t : Tag) (is : pending_of i.pending t
      ≡ Some p). found_more i.pending p q t is in
      let there = entry_there lsid (new_session st) i.sessions.entries in
      let found = found_new i.pending q w.new in
      let time : prepare_time (new_table st) lsid ≡ Some at =
      ap (option_and_then (λ (s : Session). prepared_at s.state)) there in
      let standing : standing_by (new_table st) q ≡ record {
        tag = tag;
        lsid = lsid;
        number = number;
        read_at = read_at;
        at = at;
        places = map place_of writes;
      } = rw there refl in
      let keys : keys_of tag (stamped tag (Prepared tag at) written_store) ≡ map place_of writes =
      keys_are tag (stamped tag (Prepared tag at) written_store) ∙ own_stamped tag at written_store
      ∙ sym (keys_are tag written_store)
      ∙ own_keys tag writes i.store h.rises rising (nothing_own tag i.pending i.sessions i.store
      w.new h.keys) in (
        same_ledger _ _ (boot_stays i.count i.boot some) refl refl
            (number_counted lsid (new_session st) i.sessions.entries)
            (map_one_more (standing_by (new_table st)) i.pending q
            ∙ ap (λ (xs : List Standing). xs ++ standing_by (new_table st) q ∷ [])
            (standing_same i.sessions lsid (new_session st) i.pending w.nobody)
            ∙ ap (λ (x : Standing). map (standing_by i.sessions) i.pending ++ x ∷ []) standing)
            (prepared_newest tag at written_store ∙ writes_newest tag writes i.store h.rises) refl,
        record {
          rises = rises_mapped (map (restamped tag (Prepared tag at))) written_store
              (rises_writes tag writes i.store h.rises);
          keys = each_mapped (IsMid tag read_at i.pending i.sessions) (IsKey pending'
              (new_table st)) (map (restamped tag (Prepared tag at))) written_store
              (λ versions m. prepares_key tag i.pending i.sessions pending' (new_table st)
              (frame st pending' more) q at versions w.later found time m) mid;
          pending = each_append (Pends pending' (new_table st) (stamped tag (Prepared tag at)
              written_store)) i.pending q (pend st pending' (Prepared tag at) refl more) (
                new_session st,
                at,
                record {
                  first = found;
                  session = there;
                  tag = refl;
                  state = refl;
                  later = w.later;
                  keys = keys;
                },
              );
          sessions = λ other s is. has_case i.pending pending' i.sessions lsid other
              (new_session st) s (same_lsid other lsid) refl is h.sessions (rw found refl) (λ s
              apart has. has_more i.pending q other s.tag s.state has);
          limit = h.limit;
          most = most st;
        },
      )
