-- A prepared transaction is decided; what is coordinated; and each record of a journal.
use Rattle.std.proofs.Common.{◌≡◌, ◌≤◌, ◌+◌, ◌&&◌, ℕ, ℤ, Bool, true, false, not, cond, List, []}
use Rattle.std.proofs.Common.{◌∷◌, map, filter, find, length, nat_eq, nat_le, int_lt, Option, Some}
use Rattle.std.proofs.Common.{None, is_some, unwrap_or, option_map, option_and_then, IsSomeAnd}
use Rattle.std.proofs.Common.{if◌then◌else◌, refl, ap, sym, subst, ◌∙◌, arith}
use Rattle.std.specs.List.{AllByRecursion}
use Rattle.std.proofs.lemmas.Int.{ints}
use Rattle.txn_types.specs.BySession.{BySession, entry_of, with_entry}
use Rattle.txn_types.specs.Order.{same_tag, same_lsid, tag_cmp}
use Rattle.txn_types.specs.declared.decision.Decision.{Decision}
use Rattle.txn_types.specs.declared.decision.Decision.TheVariants as decision
use Rattle.txn_types.specs.declared.names.Tag.{Tag}
use Rattle.txn_types.specs.declared.node.Lsid.{Lsid}
use Rattle.txn_semantics.specs.Keyed.{Rises}
use Rattle.txn_semantics.specs.Writes.{Place, place_cmp}
use Rattle.session_table.specs.Sessions.{Table, session_of, with_session, prepared_at, state_behind}
use Rattle.session_table.specs.Sessions.{commit_time}
use Rattle.session_table.specs.declared.session.Session.{Session}
use Rattle.session_table.specs.declared.session.SessionState.{SessionState}
use Rattle.session_table.specs.declared.session.SessionState.TheVariants as state
use Rattle.version_store.specs.Versions.{Versions, restamped, stamped, dropped, decided, without}
use Rattle.version_store.specs.Versions.{has_versions, newest_of, keys_of, first}
use Rattle.version_store.specs.declared.version.Pending.{Pending}
use Rattle.version_store.specs.declared.version.Stamp.TheVariants.{At}
use Rattle.version_store.specs.declared.version.Version.{Version}
use Rattle.journal_rec.specs.Follows as journal
use Rattle.journal_rec.specs.Follows.{Ledger, Standing, can_go_on, can_follow, can_follow_boot}
use Rattle.journal_rec.specs.Follows.{standing_of, coordination_of, most_sessions, committed}
use Rattle.journal_rec.specs.Follows.{decides, is_undecided, is_from, is_below_ceiling, places_of}
use Rattle.journal_rec.specs.Follows.{can_write}
use Rattle.journal_rec.specs.declared.record.Decided.{Decided}
use Rattle.journal_rec.specs.declared.record.Rec.{Rec}
use Rattle.journal_rec.specs.declared.record.Rec.TheVariants as rec
use Rattle.coordinator.specs.TwoPhase.{Coordinations, Coordinated, coordinated_of, undecided}
use Rattle.coordinator.specs.declared.plan.Plan.{Plan}
use Rattle.shard_image.specs.Image.{Image, with_record, with_records, image_of, empty_image}
use Rattle.shard_image.specs.Image.{ledger_of, standing_by, number_of}
use Rattle.shard_image.specs.Sound.{pending_of, prepare_time, IsKey, Pends, IsPending, HasIts}
use Rattle.shard_image.specs.Sound.{IsImage, IsWritten, AreWritten}
use Rattle.shard_image.proofs.Found.{both_true, not_true, found_passes, found_holds, find_mapped}
use Rattle.shard_image.proofs.Found.{find_kept, each_as}
use Rattle.shard_image.proofs.Lists.{kept, valued, valued_put}
use Rattle.shard_image.proofs.Sessions.{own_lsid, lsid_is, entry_elsewhere, with_entry_again}
use Rattle.shard_image.proofs.Counting.{number_counted, decision_counted, end_counted, counts_on}
use Rattle.shard_image.proofs.Fronts.{own_tag, tag_is, not_same, Frames, decided_key, dropped_left}
use Rattle.shard_image.proofs.Fronts.{IsLeft}
use Rattle.shard_image.proofs.Stores.{IsStamped, rises_mapped, rises_filtered, each_mapped}
use Rattle.shard_image.proofs.Stores.{each_left, keys_are, stamp_leaves, drop_leaves}
use Rattle.shard_image.proofs.Stores.{dropped_newest, decided_newest, key_stamped}
use Rattle.shard_image.proofs.Freed.{can_writes}
use Rattle.shard_image.proofs.Steps.{same_ledger, time_elsewhere, has_case, pends_still, Counted}
use Rattle.shard_image.proofs.Steps.{boot_stays, commit_step, prepare_step}

-- a number that is neither below nor above another is the same
int_same : (a b : ℤ) → int_lt a b ≡ false → int_lt b a ≡ false → a ≡ b
int_same a b h k = grind (arith, ints)

-- Lists.

passing_case : {A : Type 0} (p : A → Bool) (P : A → Type 0) (x : A) (xs : List A) (b : Bool)
    → p x ≡ b → (p x ≡ true → P x) → AllByRecursion P (filter p xs)
    → AllByRecursion P (cond b (x ∷ filter p xs) (filter p xs))
passing_case p P x xs true is h more = (h is, more)
passing_case p P x xs false is h more = more

each_passing : {A : Type 0} (p : A → Bool) (P : A → Type 0) (xs : List A)
    → AllByRecursion (λ x. p x ≡ true → P x) xs → AllByRecursion P (filter p xs)
each_passing p P [] all = tt
each_passing p P (x ∷ xs) all = passing_case p P x xs (p x) refl all.0 (each_passing p P xs all.1)

entry_case : {A B : Type 0} (f : A → B) (lsid : Lsid) (entry : Lsid × A) (entries : BySession A)
    (b : Bool) → entry_of lsid (valued f entries) ≡ option_map f (entry_of lsid entries)
    → option_map (λ (entry : Lsid × B). entry.1) (cond b (Some (entry.0, f entry.1))
    (find (λ (entry : Lsid × B). same_lsid lsid entry.0) (valued f entries)))
    ≡ option_map f (option_map (λ (entry : Lsid × A). entry.1)
    (cond b (Some entry) (find (λ entry. same_lsid lsid entry.0) entries)))
entry_case f lsid entry entries true more = refl
entry_case f lsid entry entries false more = more

pub entry_valued : {A B : Type 0} (f : A → B) (lsid : Lsid) (entries : BySession A)
    → entry_of lsid (valued f entries) ≡ option_map f (entry_of lsid entries)
entry_valued f lsid [] = refl
entry_valued f lsid (entry ∷ entries) =
    entry_case f lsid entry entries (same_lsid lsid entry.0) (entry_valued f lsid entries)

-- a session that is there is put in at its place
length_case : {A : Type 0} (lsid : Lsid) (a : A) (entry : Lsid × A)
    (entries : BySession A) (b : Bool)
    → is_some (option_map (λ (entry : Lsid × A). entry.1)
    (cond b (Some entry) (find (λ entry. same_lsid lsid entry.0) entries))) ≡ true
    → (is_some (entry_of lsid entries) ≡ true → length (with_entry lsid a entries) ≡ length entries)
    → length (cond b ((lsid, a) ∷ entries) (entry ∷ with_entry lsid a entries))
    ≡ length (entry ∷ entries)
length_case lsid a entry entries true h more = refl
length_case lsid a entry entries false h more = let e = more h in omega (arith, e)

length_there : {A : Type 0} (lsid : Lsid) (a : A) (entries : BySession A)
    → is_some (entry_of lsid entries) ≡ true → length (with_entry lsid a entries) ≡ length entries
length_there lsid a [] h = cc
length_there lsid a (entry ∷ entries) h =
    length_case lsid a entry entries (same_lsid lsid entry.0) h (length_there lsid a entries)

length_kept : {A : Type 0} (lsid : Lsid) (a : A) (entries : BySession A)
    → is_some (entry_of lsid entries) ≡ true → length entries ≤ most_sessions
    → length (with_entry lsid a entries) ≤ most_sessions
length_kept lsid a entries h most = rw (length_there lsid a entries h) most

at_most : (a b : ℕ) → nat_le a b ≡ true → a ≤ b
at_most a b h = grind arith

-- what is coordinated, as it is counted
coordination_case : (tag : Tag) (c : Tag × Coordinated) (coords : Coordinations) (b : Bool)
    → option_map (λ (c : Tag × Option Decision). c.1) (find (λ (c : Tag × Option Decision).
    same_tag c.0 tag) (valued (λ (c : Coordinated). c.decision) coords))
    ≡ option_map (λ (c : Coordinated). c.decision) (coordinated_of coords tag)
    → option_map (λ (c : Tag × Option Decision). c.1)
    (cond b (Some (c.0, c.1.decision)) (find (λ (c : Tag × Option Decision). same_tag c.0 tag)
    (valued (λ (c : Coordinated). c.decision) coords)))
    ≡ option_map (λ (c : Coordinated). c.decision) (option_map (λ (c : Tag × Coordinated). c.1)
    (cond b (Some c) (find (λ (c : Tag × Coordinated). same_tag c.0 tag) coords)))
coordination_case tag c coords true more = refl
coordination_case tag c coords false more = more

coordination_found : (coords : Coordinations) (tag : Tag)
    → option_map (λ (c : Tag × Option Decision). c.1) (find (λ (c : Tag × Option Decision).
    same_tag c.0 tag) (valued (λ (c : Coordinated). c.decision) coords))
    ≡ option_map (λ (c : Coordinated). c.decision) (coordinated_of coords tag)
coordination_found [] tag = refl
coordination_found (c ∷ coords) tag =
    coordination_case tag c coords (same_tag c.0 tag) (coordination_found coords tag)

-- What a decision finds.

pub record Decides (i : Image) (d : Decided) : Type 0 where
  pub q : Pending
  pub is : pending_of i.pending d.tag ≡ Some q
  pub s : Session
  pub since : ℕ
  pub pends : IsPending i.pending i.sessions i.store q s since
  pub tag : q.tag ≡ d.tag
  pub lsid : q.lsid ≡ d.lsid
  pub number : s.number ≡ d.number
  pub from : is_from since d.decision ≡ true

decides_found : (i : Image) (h : IsImage i) (d : Decided) (o : Option Pending)
    → pending_of i.pending d.tag ≡ o → decides d (option_map (standing_by i.sessions) o) ≡ true
    → Decides i d
decides_found i h d None is can = cc
decides_found i h d (Some q) is can =
    let p = found_holds (λ (q : Pending). same_tag q.tag d.tag) (Pends i.pending i.sessions i.store)
    i.pending q h.pending is in
    let st = standing_by i.sessions q in
    let all = both_true (same_lsid st.lsid d.lsid && not (int_lt st.number d.number)
    && not (int_lt d.number st.number)) (is_from st.at d.decision) can in
    let above = both_true (same_lsid st.lsid d.lsid
    && not (int_lt st.number d.number)) (not (int_lt d.number st.number)) all.0 in
    let below = both_true (same_lsid st.lsid d.lsid) (not (int_lt st.number d.number)) above.0 in
    let session = p.2.session in
    let number : st.number ≡ p.0.number = ap number_of session in
    let at : st.at ≡ p.1 = ap (λ (o : Option Session).
    unwrap_or (option_and_then (λ s. prepared_at s.state) o) 0) session
    ∙ ap (λ (o : Option ℕ). unwrap_or o 0) p.2.state in
    record {
      q = q;
      is = is;
      s = p.0;
      since = p.1;
      pends = p.2;
      tag =
          tag_is q.tag d.tag (found_passes (λ (q : Pending). same_tag q.tag d.tag) i.pending q is);
      lsid = lsid_is q.lsid d.lsid below.0;
      number = sym number ∙ int_same st.number d.number (not_true _ below.1) (not_true _ above.1);
      from = rw at at all.1;
    }

pub can_decide : (i : Image) (h : IsImage i) (d : Decided) → (is_below_ceiling (ledger_of i)
    d.decision && decides d (standing_of (ledger_of i) d.tag)) ≡ true → Decides i d
can_decide i h d can =
    let e = both_true (is_below_ceiling (ledger_of i) d.decision) (decides d
    (standing_of (ledger_of i) d.tag)) can in
    decides_found i h d (pending_of i.pending d.tag) refl (ap (decides d) (sym (find_mapped
    (λ (s : Standing). same_tag s.tag d.tag) (standing_by i.sessions) i.pending)) ∙ e.1)

-- The transaction is decided.

module _ (i : Image) (h : IsImage i) (some : nat_eq i.count 0 ≡ false) (tag : Tag) (lsid : Lsid)
    (number : ℤ) where
  abbrev new_table : Session → Table
  new_table new = with_session i.sessions lsid new

  abbrev left_ones : List Pending
  left_ones = filter (λ other. not (same_tag other.tag tag)) i.pending

  found_left : (q : Pending) (t : Tag) → same_tag t tag ≡ false → pending_of i.pending t ≡ Some q
      → pending_of left_ones t ≡ Some q
  found_left q t apart is = find_kept (λ (q : Pending). same_tag q.tag t) (λ (q : Pending).
      same_tag q.tag tag) (λ x own. rw (tag_is x.tag tag own) (not_same tag t apart)) i.pending ∙ is

  -- one session has one prepared transaction
  module _ (q : Pending) (s : Session) (since : ℕ) (p : IsPending i.pending i.sessions i.store q s
      since) (q_tag : q.tag ≡ tag) (q_lsid : q.lsid ≡ lsid) where
    other_case : (r : Pending) (b : Bool) → same_lsid r.lsid lsid ≡ b → same_tag r.tag tag ≡ false
        → Pends i.pending i.sessions i.store r → same_lsid r.lsid lsid ≡ false
    other_case r true is apart o =
        let lsids : r.lsid ≡ q.lsid = lsid_is r.lsid lsid is ∙ sym q_lsid in
        let sessions : session_of i.sessions r.lsid ≡ session_of i.sessions q.lsid =
        ap (session_of i.sessions) lsids in
        let one : o.0 ≡ s = let a = o.2.session in let b = p.session in cc in
        let tags : r.tag ≡ tag = sym o.2.tag ∙ ap (λ (s : Session). s.tag) one ∙ p.tag ∙ q_tag in
        let same : same_tag r.tag tag ≡ true = rw tags (own_tag tag) in
        cc
    other_case r false is apart o = is

    pub other_session : (r : Pending) → same_tag r.tag tag ≡ false
        → Pends i.pending i.sessions i.store r → same_lsid r.lsid lsid ≡ false
    other_session r apart o = other_case r (same_lsid r.lsid lsid) refl apart o

    frame : (new : Session) → Frames tag i.pending i.sessions left_ones (new_table new)
    frame new =
        record {
          same = λ t r apart is.
              let r_tag : r.tag ≡ t = tag_is r.tag t
              (found_passes (λ (q : Pending). same_tag q.tag t) i.pending r is) in
              let pends = found_holds (λ (q : Pending). same_tag q.tag t) (Pends i.pending
              i.sessions i.store) i.pending r h.pending is in (
                found_left r t apart is,
                time_elsewhere i.sessions lsid r.lsid new (other_session r (rw r_tag apart) pends),
              );
        }

    pend : (new : Session) (store' : Versions)
        → ((t : Tag) → same_tag tag t ≡ false → keys_of t store' ≡ keys_of t i.store)
        → AllByRecursion (Pends left_ones (new_table new) store') left_ones
    pend new store' keys =
        each_passing (λ (other : Pending). not (same_tag other.tag tag))
        (Pends left_ones (new_table new) store') i.pending
        (each_as (Pends i.pending i.sessions i.store) (λ r. not (same_tag r.tag tag) ≡ true
        → Pends left_ones (new_table new) store' r) i.pending
        (λ r p is.
        let apart = not_true (same_tag r.tag tag) is in
        pends_still i.pending left_ones i.sessions lsid new i.store store' r (other_session r apart
        p) (found_left r r.tag apart) (keys r.tag (not_same tag r.tag apart)) p)
        h.pending)

    -- sessions
    has_left_case : (other : Lsid) (t : Tag) (o : Option Pending) (b : Bool)
        → same_tag t tag ≡ b → pending_of i.pending t ≡ o → pending_of i.pending tag ≡ Some q
        → same_lsid other lsid ≡ false → IsSomeAnd o (λ q. q.lsid ≡ other)
        → IsSomeAnd (pending_of left_ones t) (λ q. q.lsid ≡ other)
    has_left_case other t None b same is found apart has = absurd has
    has_left_case other t (Some r) true same is found apart has =
        let e : pending_of i.pending t ≡ pending_of i.pending tag =
        ap (pending_of i.pending) (tag_is t tag same) in
        let one : r ≡ q = cc in
        let lsids : other ≡ lsid = sym has ∙ ap (λ (q : Pending). q.lsid) one ∙ q_lsid in
        let own : same_lsid other lsid ≡ true = rw lsids (own_lsid lsid) in
        cc
    has_left_case other t (Some r) false same is found apart has = rw (found_left r t same is) has

    has_left : (other : Lsid) (t : Tag) (st : SessionState) → pending_of i.pending tag ≡ Some q
        → same_lsid other lsid ≡ false → HasIts i.pending other t st → HasIts left_ones other t st
    has_left other t state.Live found apart has = absurd has
    has_left other t (state.Prepared at coordinator) found apart has =
        has_left_case other t (pending_of i.pending t) (same_tag t tag) refl refl found apart has
    has_left other t (state.Committed at) found apart has = tt
    has_left other t state.Released found apart has = tt
    has_left other t (state.Aborted why read_at) found apart has = tt

    standing_left_case : (new : Session) (r : Pending) (pending : List Pending) (b : Bool)
        → same_tag r.tag tag ≡ b → (same_tag r.tag tag ≡ false → same_lsid r.lsid lsid ≡ false)
        → map (standing_by (new_table new)) (filter (λ other. not (same_tag other.tag tag)) pending)
        ≡ filter (λ (other : Standing). not (same_tag other.tag tag))
        (map (standing_by i.sessions) pending)
        → map (standing_by (new_table new))
        (cond (not b) (r ∷ filter (λ other. not (same_tag other.tag tag)) pending)
        (filter (λ other. not (same_tag other.tag tag)) pending))
        ≡ cond (not b) (standing_by i.sessions r ∷ filter (λ (other : Standing).
        not (same_tag other.tag tag)) (map (standing_by i.sessions) pending))
        (filter (λ (other : Standing). not (same_tag other.tag tag))
        (map (standing_by i.sessions) pending))
    standing_left_case new r pending true is apart more = more
    standing_left_case new r pending false is apart more =
        let e : session_of (new_table new) r.lsid ≡ session_of i.sessions r.lsid =
        entry_elsewhere r.lsid lsid (apart is) new i.sessions.entries in
        let here : standing_by (new_table new) r ≡ standing_by i.sessions r = rw e refl in
        rw here (ap (λ (xs : List Standing). standing_by i.sessions r ∷ xs) more)

    standing_left : (new : Session) (pending : List Pending)
        → AllByRecursion (λ r. same_tag r.tag tag ≡ false → same_lsid r.lsid lsid ≡ false) pending
        → map (standing_by (new_table new)) (filter (λ other. not (same_tag other.tag tag)) pending)
        ≡ filter (λ (other : Standing). not (same_tag other.tag tag))
        (map (standing_by i.sessions) pending)
    standing_left new [] all = refl
    standing_left new (r ∷ pending) all = standing_left_case new r pending (same_tag r.tag tag) refl
        all.0 (standing_left new pending all.1)

    -- of a store in which the transaction is decided
    pub record IsDecided (d : Decision) (behind : Versions) : Type 0 where
      pub store : decided tag (commit_time d) i.store ≡ behind
      pub rises : Rises place_cmp behind
      pub keys : (new : Session)
          → AllByRecursion (λ row. IsKey left_ones (new_table new) row.1) behind
      pub others : (t : Tag) → same_tag tag t ≡ false → keys_of t behind ≡ keys_of t i.store
      pub newest : kept newest_of behind
          ≡ journal.decided d (keys_of tag i.store) (kept newest_of i.store)

    stamped_is : (at : ℕ) → pending_of i.pending tag ≡ Some q → since ≤ at
        → IsDecided (decision.Commit at) (stamped tag (At at) i.store)
    stamped_is at found le =
        let time : prepare_time i.sessions q.lsid ≡ Some since =
        ap (option_and_then (λ (s : Session). prepared_at s.state)) p.session ∙ p.state in
        record {
          store = refl;
          rises = rises_mapped (map (restamped tag (At at))) i.store h.rises;
          keys = λ new. each_mapped (IsKey i.pending i.sessions) (IsKey left_ones (new_table new))
              (map (restamped tag (At at))) i.store
              (λ versions key. decided_key tag i.pending i.sessions left_ones (new_table new)
              (frame new) q since at versions le found time key) h.keys;
          others = λ t apart. keys_are t (stamped tag (At at) i.store)
              ∙ stamp_leaves t tag (At at) i.store tt apart ∙ sym (keys_are t i.store);
          newest = decided_newest tag at i.store h.rises (each_as (λ (row : Place × List Version).
              IsKey i.pending i.sessions row.1) (λ row. IsStamped tag at row.1) i.store
              (λ row key. key_stamped tag at i.pending i.sessions row.1 key) h.keys)
              ∙ ap (λ (ks : List Place). committed at ks (kept newest_of i.store))
              (sym (keys_are tag i.store));
        }

    left_key : (new : Session) (versions : List Version) → is_some (first versions) ≡ true
        → IsLeft tag i.pending i.sessions left_ones (new_table new) (frame new) versions
        → IsKey left_ones (new_table new) versions
    left_key new [] some h = cc
    left_key new (v ∷ rest) some h = h

    dropped_is : (shard code : ℕ) → IsDecided (decision.Abort shard code) (dropped tag i.store)
    dropped_is shard code =
        record {
          store = refl;
          rises = rises_filtered has_versions (map (λ row. (row.0, without tag row.1)) i.store)
              (rises_mapped (without tag) i.store h.rises);
          keys = λ new. each_left (IsKey i.pending i.sessions) (IsKey left_ones (new_table new))
              (without tag) i.store
              (λ versions key some. left_key new (without tag versions) some (dropped_left tag
              i.pending i.sessions left_ones (new_table new) (frame new) versions key)) h.keys;
          others = λ t apart. keys_are t (dropped tag i.store)
              ∙ ap (λ (xs : List (Place × Version)). map (λ row. row.0) xs) (drop_leaves t tag
              i.store apart) ∙ sym (keys_are t i.store);
          newest = dropped_newest tag i.store;
        }

    decided_is : (d : Decision) → pending_of i.pending tag ≡ Some q → is_from since d ≡ true
        → IsDecided d (decided tag (commit_time d) i.store)
    decided_is (decision.Commit at) found from = stamped_is at found (at_most since at from)
    decided_is (decision.Abort shard code) found from = dropped_is shard code

    own_has : (d : Decision) → HasIts left_ones lsid tag (state_behind d)
    own_has (decision.Commit at) = tt
    own_has (decision.Abort shard code) = tt

    pub decided_step : (d : Decision) → pending_of i.pending tag ≡ Some q
        → s.number ≡ number → is_from since d ≡ true
        → Counted i (rec.Decided (record { tag = tag; lsid = lsid; number = number; decision = d }))
    decided_step d found same from =
        let new : Session = record { number = number; tag = tag; state = state_behind d } in
        let behind = decided tag (commit_time d) i.store in
        let is = decided_is d found from in
        let session : session_of i.sessions lsid ≡ Some s = ap (session_of i.sessions) (sym q_lsid)
        ∙ p.session in
        let numbered : entry_of lsid (valued (λ (s : Session). s.number) i.sessions.entries)
        ≡ Some number = entry_valued (λ (s : Session). s.number) lsid i.sessions.entries
        ∙ ap (option_map (λ (s : Session). s.number)) session ∙ ap (λ (n : ℤ). Some n) same in
        let keys : keys_of tag i.store ≡ q.keys =
        subst (λ (t : Tag). keys_of t i.store ≡ q.keys) q_tag p.keys in
        let places : places_of (standing_of (ledger_of i) tag) ≡ q.keys = ap places_of
        (find_mapped (λ (s : Standing). same_tag s.tag tag) (standing_by i.sessions) i.pending
        ∙ ap (option_map (standing_by i.sessions)) found) in (
          same_ledger _ _ (boot_stays i.count i.boot some) refl refl
              (number_counted lsid new i.sessions.entries ∙ with_entry_again lsid number
              (valued (λ (s : Session). s.number) i.sessions.entries) numbered)
              (standing_left new i.pending (each_as (Pends i.pending i.sessions i.store)
              (λ r. same_tag r.tag tag ≡ false → same_lsid r.lsid lsid ≡ false) i.pending
              (λ r o apart. other_session r apart o) h.pending))
              (is.newest ∙ ap (λ (ks : List Place). journal.decided d ks (kept newest_of i.store))
              (keys ∙ sym places))
              refl,
          record {
            rises = is.rises;
            keys = is.keys new;
            pending = pend new behind is.others;
            sessions = λ other u there. has_case i.pending left_ones i.sessions lsid other
                new u (same_lsid other lsid) refl there h.sessions (own_has d) (λ u apart has.
                has_left other u.tag u.state found apart has);
            limit = h.limit;
            most = length_kept lsid new i.sessions.entries (ap is_some session) h.most;
          },
        )

-- Each record.

undecided_found : (i : Image) (tag : Tag) (o : Option Coordinated) → coordinated_of i.coord tag ≡ o
    → is_undecided (option_map (λ (c : Coordinated). c.decision) o) ≡ true
    → (c : Coordinated) × (coordinated_of i.coord tag ≡ Some c)
undecided_found i tag None is can = cc
undecided_found i tag (Some c) is can = (c, is)

pub coordination_is : (i : Image) (tag : Tag) → coordination_of (ledger_of i) tag
    ≡ option_map (λ (c : Coordinated). c.decision) (coordinated_of i.coord tag)
coordination_is i tag = coordination_found i.coord tag

record_counted : (i : Image) (r : Rec) (last : ℕ) → IsImage i → nat_eq i.count 0 ≡ false
    → IsWritten r → can_go_on (ledger_of i) last r ≡ true → Counted i r
record_counted i (rec.Boot boot) last h some written can = (
  same_ledger _ _ (rw (counts_on i.count) refl) refl refl refl refl refl refl,
  record {
    rises = h.rises;
    keys = h.keys;
    pending = h.pending;
    sessions = h.sessions;
    limit = h.limit;
    most = h.most;
  },
)
record_counted i (rec.Ceiling bound) last h some written can = (
  same_ledger _ _ (boot_stays i.count i.boot some) refl refl refl refl refl refl,
  record {
    rises = h.rises;
    keys = h.keys;
    pending = h.pending;
    sessions = h.sessions;
    limit = h.limit;
    most = h.most;
  },
)
record_counted i (rec.Commit tag lsid number read_at at writes) last h some written can =
    commit_step i h some tag lsid number read_at at writes written
    (can_writes i tag lsid number read_at at writes can)
record_counted i (rec.Prepared tag lsid number boot read_at at coordinator writes) last h some
    written can =
    prepare_step i h some tag lsid number read_at at writes written
    (can_writes i tag lsid number read_at at writes can) boot coordinator
record_counted i (rec.Decided d) last h some written can =
    let e = can_decide i h d can in
    decided_step i h some d.tag d.lsid d.number e.q e.s e.since e.pends e.tag e.lsid d.decision e.is
    e.number e.from
record_counted i (rec.CoordStart tag lsid number parts) last h some written can =
    let plan : Plan = record { lsid = lsid; number = number; parts = parts } in (
      same_ledger _ _ (boot_stays i.count i.boot some) refl refl refl refl refl
          (valued_put tag_cmp (λ (c : Coordinated). c.decision) tag (undecided plan) i.coord),
      record {
        rises = h.rises;
        keys = h.keys;
        pending = h.pending;
        sessions = h.sessions;
        limit = h.limit;
        most = h.most;
      },
    )
record_counted i (rec.CoordDecision tag d) last h some written can =
    let e = both_true (is_below_ceiling (ledger_of i) d)
    (is_undecided (coordination_of (ledger_of i) tag)) can in
    let c = undecided_found i tag (coordinated_of i.coord tag) refl (ap is_undecided
    (sym (coordination_is i tag)) ∙ e.1) in (
      same_ledger _ _ (boot_stays i.count i.boot some) refl refl refl refl refl
          (decision_counted tag d c.0 i.coord c.1),
      record {
        rises = h.rises;
        keys = h.keys;
        pending = h.pending;
        sessions = h.sessions;
        limit = h.limit;
        most = h.most;
      },
    )
record_counted i (rec.CoordEnd tag) last h some written can = (
  same_ledger _ _ (boot_stays i.count i.boot some) refl refl refl refl refl
      (end_counted tag i.coord),
  record {
    rises = h.rises;
    keys = h.keys;
    pending = h.pending;
    sessions = h.sessions;
    limit = h.limit;
    most = h.most;
  },
)
record_counted i (rec.Floor floor) last h some written can = cc

-- the first record is of a boot
first_counted : (i : Image) (r : Rec) → IsImage i → journal.can_begin r ≡ true → Counted i r
first_counted i (rec.Boot boot) h can = (
  same_ledger _ _ (rw (counts_on i.count) refl) refl refl refl refl refl refl,
  record {
    rises = h.rises;
    keys = h.keys;
    pending = h.pending;
    sessions = h.sessions;
    limit = h.limit;
    most = h.most;
  },
)
first_counted i (rec.Ceiling bound) h can = cc
first_counted i (rec.Commit tag lsid number read_at at writes) h can = cc
first_counted i (rec.Prepared tag lsid number boot read_at at coordinator writes) h can = cc
first_counted i (rec.Decided d) h can = cc
first_counted i (rec.CoordStart tag lsid number parts) h can = cc
first_counted i (rec.CoordDecision tag d) h can = cc
first_counted i (rec.CoordEnd tag) h can = cc
first_counted i (rec.Floor floor) h can = cc

either_counted : (i : Image) (r : Rec) (b : Bool) → nat_eq i.count 0 ≡ b → IsImage i → IsWritten r
    → can_follow_boot (ledger_of i) (if b then None else Some i.boot) r ≡ true → Counted i r
either_counted i r true is h written can = first_counted i r h can
either_counted i r false is h written can = record_counted i r i.boot h is written can

-- a record that can follow is counted, and keeps the state of one piece
pub follows_counted : (i : Image) (r : Rec) → IsImage i → IsWritten r
    → can_follow (ledger_of i) r ≡ true → Counted i r
follows_counted i r h written can = either_counted i r (nat_eq i.count 0) refl h written can

-- Records, one after the other.

pub empty_is_image : IsImage empty_image
empty_is_image = record {
  rises = tt;
  keys = tt;
  pending = tt;
  sessions = λ lsid s is. cc;
  limit = refl;
  most = omega arith;
}

-- each of these can follow those before it
refused_case : (index : ℕ) (l : Ledger) (r : Rec) (recs : List Rec) (b : Bool)
    → (if b then journal.first_refused_from (index + 1) (journal.with_record l r) recs
    else Some index) ≡ None
    → (b ≡ true) × (journal.first_refused_from (index + 1) (journal.with_record l r) recs ≡ None)
refused_case index l r recs true h = (refl, h)
refused_case index l r recs false h = cc

pub records_counted : (recs : List Rec) (index : ℕ) (i : Image) → IsImage i → AreWritten recs
    → journal.first_refused_from index (ledger_of i) recs ≡ None
    → (ledger_of (with_records i recs) ≡ journal.with_records (ledger_of i) recs)
    × IsImage (with_records i recs)
records_counted [] index i h written none = (refl, h)
records_counted (r ∷ recs) index i h written none =
    let e = refused_case index (ledger_of i) r recs (can_follow (ledger_of i) r) none in
    let one = follows_counted i r h written.0 e.0 in
    let rest : journal.first_refused_from (index + 1) (ledger_of (with_record i r)) recs ≡ None =
    rw one.0 e.1 in
    let more = records_counted recs (index + 1) (with_record i r) one.1 written.1 rest in
    (more.0 ∙ ap (λ (l : Ledger). journal.with_records l recs) one.0, more.1)

pub image_counted : (recs : List Rec) → AreWritten recs → journal.first_refused recs ≡ None
    → (ledger_of (image_of recs) ≡ journal.ledger_of recs) × IsImage (image_of recs)
unfolding image_of
image_counted recs written none = records_counted recs 0 empty_image empty_is_image written none
