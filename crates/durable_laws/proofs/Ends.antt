-- A live transaction's end, its commit, and the decision of a prepared one.
use Rattle.std.proofs.Common.{◌≡◌, ◌≤◌, ◌<◌, ◌<ℤ◌, ◌⊎◌, inl, inr, ℕ, Bool, true, false, cond, not}
use Rattle.std.proofs.Common.{List, [], ◌∷◌, Option, Some, None, IsSome, IsSomeAnd, filter, find}
use Rattle.std.proofs.Common.{map, option_map, unwrap_or, refl, ap, subst, ◌∙◌, sym, arith, ◌||◌}
use Rattle.std.specs.List.{list_any, filter_map, cons_option}
use Rattle.std.specs.Option.{is_some}
use Rattle.txn_types.specs.Order.{same_tag, same_lsid}
use Rattle.txn_types.specs.declared.cause.Cause.{Cause}
use Rattle.txn_types.specs.declared.decision.Decision.{Decision}
use Rattle.txn_types.specs.declared.decision.Decision.TheVariants as decision
use Rattle.txn_types.specs.declared.message.Decide.{Decide}
use Rattle.txn_types.specs.declared.names.Tag.{Tag}
use Rattle.txn_types.specs.declared.node.Lsid.{Lsid}
use Rattle.txn_semantics.specs.Writes.{Place, place_of}
use Rattle.session_table.specs.Sessions.{Table, session_of, with_session, prepared_at, commit_time}
use Rattle.session_table.specs.Sessions.{state_behind}
use Rattle.session_table.specs.declared.session.Session.{Session}
use Rattle.session_table.specs.declared.session.SessionState.{SessionState}
use Rattle.session_table.specs.declared.session.SessionState.TheVariants as state
use Rattle.version_store.specs.declared.version.Pending.{Pending}
use Rattle.version_store.specs.declared.version.Stamp.{Stamp}
use Rattle.version_store.specs.declared.version.Stamp.TheVariants.{Unfinished, Prepared, At}
use Rattle.version_store.specs.declared.version.Version.{Version}
use Rattle.version_store.specs.Versions.{Versions, versions_of, finished, dropped, stamped, decided}
use Rattle.version_store.specs.Versions.{with_writes, keys_of, is_of, commit_of, first, FallBelow}
use Rattle.version_store.specs.Versions.{StandsBefore}
use Rattle.journal_rec.specs.declared.record.Rec.TheVariants as rec
use Rattle.participant.specs.declared.said.Open.{Open}
use Rattle.participant.specs.Part.{Part, session, open_of, is_open, ended, aborted}
use Rattle.participant.specs.Decide.{decided_part, record_of}
use Rattle.participant.specs.Stands.{StateAt, SessionAt}
use Rattle.participant.proofs.Ends.{entry_elsewhere}
use Rattle.participant.proofs.Moving.{entry_here, of_two, one_session, ended_stands, applying}
use Rattle.participant.proofs.Tags.{tag_self, tag_same, lsid_same}
use Rattle.participant.proofs.Written.{keys_gone, keys_committed}
use Rattle.part_laws.specs.Each.{Each}
use Rattle.part_laws.specs.Chain.{own_at}
use Rattle.part_laws.specs.Seen.{wrote_at}
use Rattle.part_laws.proofs.Chains.{each_weaker}
use Rattle.part_laws.proofs.Ended.{in_state}
use Rattle.shard_image.specs.Image.{Image}
use Rattle.shard_core.specs.Durable.{HasSession}
use Rattle.durable_laws.proofs.Whole.{AreNewestFirst, newest_commit, HasStamp, PendingHas, IsWhole}
use Rattle.durable_laws.specs.Backed.{is_recorded, AreRecorded}
use Rattle.durable_laws.proofs.Holding.{HoldsPart, Left}
use Rattle.durable_laws.proofs.Places.{MayStamp, newest_chain, behind_fall, fall_below, below_more}
use Rattle.durable_laws.proofs.Lasting.{finished_end, finished_own, finished_decided, finished_drop}
use Rattle.durable_laws.proofs.Beside.{Beside, beside_same, beside_drop, beside_commit}
use Rattle.durable_laws.proofs.Closing.{Closes, closes_whole}

-- What a session's state says.

state_open : (store : Versions) (s : Session) (st : SessionState) (o : Option Open)
    → st ≡ state.Live → StateAt store s st o
    → (a : Open) × (o ≡ Some a) × (a.tag ≡ s.tag) × (map place_of a.writes ≡ keys_of s.tag store)
state_open store s state.Live None is h = absurd h
state_open store s state.Live (Some a) is h = (a, refl, h.0, h.1)
state_open store s (state.Prepared at coordinator) o is h = cc
state_open store s (state.Committed at) o is h = cc
state_open store s state.Released o is h = cc
state_open store s (state.Aborted why read_at) o is h = cc

pub at_session : (p : Part) (last : ℕ) (lsid : Lsid) (s : Session) → IsWhole p last
    → session p lsid ≡ Some s → StateAt p.store s s.state (open_of p lsid)
at_session p last lsid s whole there =
    subst (λ x. SessionAt p.store x (open_of p lsid)) there (whole.stands.sessions lsid)

-- a live transaction has something here
pub live_open : (p : Part) (last : ℕ) (lsid : Lsid) (s : Session) → IsWhole p last
    → session p lsid ≡ Some s → s.state ≡ state.Live → (a : Open) × (open_of p lsid ≡ Some a)
    × (a.tag ≡ s.tag) × (map place_of a.writes ≡ keys_of s.tag p.store)
live_open p last lsid s whole there live =
    state_open p.store s s.state (open_of p lsid) live (at_session p last lsid s whole there)

-- its tag isn't among the prepared ones
pending_apart : (p : Part) (last : ℕ) (lsid : Lsid) (s : Session) (x : Pending) (b : Bool)
    → same_lsid x.lsid lsid ≡ b → IsWhole p last → session p lsid ≡ Some s → s.state ≡ state.Live
    → PendingHas p x → same_tag x.tag s.tag ≡ false
pending_apart p last lsid s x true is whole there live h =
    let one : h.s ≡ s = one_session p lsid h.s s (ap (session p) (sym (lsid_same x.lsid lsid is))
    ∙ h.session) there in
    let wrong : state.Prepared h.at h.coordinator ≡ state.Live = sym h.state
    ∙ ap (λ (z : Session). z.state) one ∙ live in cc
pending_apart p last lsid s x false is whole there live h =
    ap (λ t. same_tag t s.tag) (sym h.tag) ∙ of_two p lsid x.lsid s h.s whole.stands there
    (ap is_open live) is h.session (ap is_open h.state)

none_filtered : (tag : Tag) (pending : List Pending) → Each (λ x. same_tag x.tag tag
    ≡ false) pending → pending ≡ filter (λ x. not (same_tag x.tag tag)) pending
none_filtered tag [] h = refl
none_filtered tag (x ∷ pending) h = ap (λ xs. x ∷ xs) (none_filtered tag pending h.1)
    ∙ ap (λ b. cond (not b) (x ∷ filter (λ (x : Pending). not (same_tag x.tag tag)) pending)
    (filter (λ (x : Pending). not (same_tag x.tag tag)) pending)) (sym h.0)

pub none_pending : (p : Part) (last : ℕ) (lsid : Lsid) (s : Session)
    → IsWhole p last → session p lsid ≡ Some s → s.state ≡ state.Live
    → Each (λ (x : Pending). same_tag x.tag s.tag ≡ false) p.pending
none_pending p last lsid s whole there live =
    each_weaker (PendingHas p) (λ (x : Pending). same_tag x.tag s.tag ≡ false) (λ x h. pending_apart
    p last lsid s x (same_lsid x.lsid lsid) refl whole there live h) p.pending whole.pending

pub live_unfinished : (p : Part) (last : ℕ) (lsid : Lsid) (s : Session) (a : Open)
    → IsWhole p last → open_of p lsid ≡ Some a → a.tag ≡ s.tag → (place : Place)
    → Each (HasStamp s.tag (Unfinished s.tag)) (versions_of p.store place)
live_unfinished p last lsid s a whole mine tag place = subst (λ t. Each (HasStamp t (Unfinished t))
    (versions_of p.store place)) tag ((whole.live lsid a mine).over.stamps place)

-- Sessions, as the records have them.

-- a recorded transaction isn't live, so a live one has a larger number
pub recorded_below : (s recorded : Session) → (s ≡ recorded) ⊎ (recorded.number <ℤ s.number)
    → (recorded.state ≡ state.Live → ⊥) → s.state ≡ state.Live → recorded.number <ℤ s.number
recorded_below s recorded (inl same) never live =
    absurd (never (ap (λ (z : Session). z.state) (sym same) ∙ live))
recorded_below s recorded (inr less) never live = less

pub has_some : (p : Part) (lsid : Lsid) (recorded s : Session) → HasSession p lsid recorded
    → session p lsid ≡ Some s → (s ≡ recorded) ⊎ (recorded.number <ℤ s.number)
has_some p lsid recorded s has there =
    subst (λ x. IsSomeAnd x (λ s. (s ≡ recorded) ⊎ (recorded.number <ℤ s.number))) there has

pub some_has : (p : Part) (lsid : Lsid) (recorded s : Session) → session p lsid ≡ Some s
    → (s ≡ recorded) ⊎ (recorded.number <ℤ s.number) → HasSession p lsid recorded
some_has p lsid recorded s there has =
    subst (λ x. IsSomeAnd x (λ s. (s ≡ recorded) ⊎ (recorded.number <ℤ s.number))) (sym there) has

-- one session has another transaction, and the records what they had
abbrev pub Recorded : Table → Part → Type 0
Recorded table p = (lsid : Lsid) (recorded : Session) → session_of table lsid ≡ Some recorded
    → HasSession p lsid recorded × (recorded.state ≡ state.Live → ⊥)

module _ (p q : Part) (table : Table) (lsid : Lsid) (new : Session)
    (old : Recorded table p) (here : session q lsid ≡ Some new)
    (beside : (x : Lsid) → same_lsid x lsid ≡ false → session q x ≡ session p x) where
  unrecorded_case : ((recorded : Session) → session_of table lsid ≡ Some recorded → HasSession p
      lsid recorded → (recorded.state ≡ state.Live → ⊥) → recorded.number <ℤ new.number)
      → (x : Lsid) (recorded : Session) (b : Bool) → same_lsid x lsid ≡ b → session_of table x
      ≡ Some recorded → HasSession q x recorded × (recorded.state ≡ state.Live → ⊥)
  unrecorded_case above x recorded true is has =
      let at : session_of table lsid ≡ Some recorded =
      ap (session_of table) (sym (lsid_same x lsid is)) ∙ has in
      let was = old lsid recorded at in (
        subst (λ l. HasSession q l recorded) (sym (lsid_same x lsid is))
            (some_has q lsid recorded new here (inr (above recorded at was.0 was.1))),
        was.1,
      )
  unrecorded_case above x recorded false is has =
      let was = old x recorded has in (
        subst (λ s. IsSomeAnd s (λ s. (s ≡ recorded) ⊎ (recorded.number <ℤ s.number)))
            (sym (beside x is)) was.0,
        was.1,
      )

  pub unrecorded : ((recorded : Session) → session_of table lsid ≡ Some recorded → HasSession p
      lsid recorded → (recorded.state ≡ state.Live → ⊥) → recorded.number <ℤ new.number)
      → Recorded table q
  unrecorded above x recorded has = unrecorded_case above x recorded (same_lsid x lsid) refl has

  recorded_case : (new.state ≡ state.Live → ⊥) → (x : Lsid) (recorded : Session) (b : Bool)
      → same_lsid x lsid ≡ b → session_of (with_session table lsid new) x ≡ Some recorded
      → HasSession q x recorded × (recorded.state ≡ state.Live → ⊥)
  recorded_case never x recorded true is has =
      let both : Some new ≡ Some recorded = sym (entry_here lsid new table.entries)
      ∙ ap (session_of (with_session table lsid new)) (sym (lsid_same x lsid is)) ∙ has in
      let one : new ≡ recorded = cc in (
        subst (λ l. HasSession q l recorded) (sym (lsid_same x lsid is))
            (some_has q lsid recorded new here (inl one)),
        subst (λ (z : Session). z.state ≡ state.Live → ⊥) one never,
      )
  recorded_case never x recorded false is has =
      let was = old x recorded (sym (entry_elsewhere x lsid is new table.entries) ∙ has) in (
        subst (λ s. IsSomeAnd s (λ s. (s ≡ recorded) ⊎ (recorded.number <ℤ s.number)))
            (sym (beside x is)) was.0,
        was.1,
      )

  -- the new one is recorded
  pub recorded_now : (new.state ≡ state.Live → ⊥) → Recorded (with_session table lsid new) q
  recorded_now never x recorded has = recorded_case never x recorded (same_lsid x lsid) refl has

-- What is recorded of other sessions stays, and the new transaction is recorded, or leaves nothing
-- that has to be.
module _ (p q : Part) (table : Table) (lsid : Lsid) (new : Session)
    (old : AreRecorded table p) (here : session q lsid ≡ Some new)
    (beside : (x : Lsid) → same_lsid x lsid ≡ false → session q x ≡ session p x) where
  still_case : is_recorded new.state ≡ false → (x : Lsid) (t : Session) (b : Bool)
      → same_lsid x lsid ≡ b → session q x ≡ Some t → is_recorded t.state ≡ true
      → session_of table x ≡ Some t
  still_case none x t true is has told =
      let both : Some new ≡ Some t = sym here ∙ ap (session q) (sym (lsid_same x lsid is)) ∙ has in
      let one : new ≡ t = cc in
      let wrong : true ≡ false = sym told ∙ ap (λ (z : Session). is_recorded z.state) (sym one)
      ∙ none in cc
  still_case none x t false is has told = old x t (sym (beside x is) ∙ has) told

  pub still_recorded : is_recorded new.state ≡ false → AreRecorded table q
  still_recorded none x t has told = still_case none x t (same_lsid x lsid) refl has told

  too_case : (x : Lsid) (t : Session) (b : Bool) → same_lsid x lsid ≡ b → session q x ≡ Some t
      → is_recorded t.state ≡ true → session_of (with_session table lsid new) x ≡ Some t
  too_case x t true is has told =
      let both : Some new ≡ Some t = sym here ∙ ap (session q) (sym (lsid_same x lsid is)) ∙ has in
      let one : new ≡ t = cc in
      ap (session_of (with_session table lsid new)) (lsid_same x lsid is)
      ∙ entry_here lsid new table.entries ∙ ap Some one
  too_case x t false is has told = entry_elsewhere x lsid is new table.entries
      ∙ old x t (sym (beside x is) ∙ has) told

  pub too_recorded : AreRecorded (with_session table lsid new) q
  too_recorded x t has told = too_case x t (same_lsid x lsid) refl has told

-- A live transaction's end.

ended_here : (p : Part) (store : Versions) (lsid : Lsid) (s : Session) (st : SessionState)
    → session (ended (record p { store = store }) lsid s st) lsid ≡ Some (in_state s st)
ended_here p store lsid s st = entry_here lsid (in_state s st) p.sessions.entries

ended_beside : (p : Part) (store : Versions) (lsid : Lsid) (s : Session)
    (st : SessionState) (x : Lsid) → same_lsid x lsid ≡ false
    → session (ended (record p { store = store }) lsid s st) x ≡ session p x
ended_beside p store lsid s st x apart =
    entry_elsewhere x lsid apart (in_state s st) p.sessions.entries

closes_live : (p : Part) (last : ℕ) (store : Versions) (lsid : Lsid) (s : Session)
    (st : SessionState) → IsWhole p last → session p lsid ≡ Some s → s.state ≡ state.Live
    → is_open st ≡ false → Beside s.tag p.store store → keys_of s.tag store ≡ []
    → Closes p (ended (record p { store = store }) lsid s st) lsid s st
closes_live p last store lsid s st whole there live shut beside gone =
    record {
      stands = ended_stands p store lsid s st whole.stands whole.lives shut there (ap is_open live)
          gone beside.keys;
      sessions = refl;
      live = refl;
      pending = none_filtered s.tag p.pending (none_pending p last lsid s whole there live);
      beside = beside;
    }

module _ (i : Image) (p : Part) (last : ℕ) (lsid : Lsid) (s : Session) (whole : IsWhole p last)
    (holds : HoldsPart i p) (there : session p lsid ≡ Some s) (live : s.state ≡ state.Live) where
  -- without a record
  ends_left : (later : ℕ) (store : Versions) (st : SessionState) → is_open st ≡ false
      → is_recorded st ≡ false → last ≤ later → Beside s.tag p.store store
      → keys_of s.tag store ≡ [] → finished store ≡ finished p.store
      → Left i (ended (record p { store = store }) lsid s st) later None
  ends_left later store st shut silent on beside gone same =
      let q : Part = ended (record p { store = store }) lsid s st in
      record {
        whole = closes_whole p q last later lsid s st whole there (ap is_open live) shut on
            (closes_live p last store lsid s st whole there live shut beside gone);
        holds = record {
          boot = holds.boot;
          store = holds.store ∙ sym same;
          pending = holds.pending;
          sessions = unrecorded p q i.sessions lsid (in_state s st) holds.sessions (ended_here p
              store lsid s st) (ended_beside p store lsid s st) (λ recorded has was never.
              recorded_below s recorded (has_some p lsid recorded s was there) never live);
          recorded = still_recorded p q i.sessions lsid (in_state s st) holds.recorded (ended_here p
              store lsid s st) (ended_beside p store lsid s st) silent;
        };
        ceiling = refl;
        coord = refl;
        written = tt;
      }

  pub abort_left : (why : Cause) → Left i (aborted p lsid s why) last None
  abort_left why =
      let o = live_open p last lsid s whole there live in
      ends_left last (dropped s.tag p.store) (state.Aborted why 0) refl refl (omega arith)
      (beside_drop s.tag p.store whole.rises whole.newest) (keys_gone s.tag p.store)
      (finished_end s.tag p.store whole.rises (live_unfinished p last lsid s o.0 whole o.1 o.2))

  pub release_left : ((o : Open) → open_of p lsid ≡ Some o → o.writes ≡ [])
      → Left i (ended p lsid s state.Released) last None
  release_left none =
      let o = live_open p last lsid s whole there live in
      ends_left last p.store state.Released refl refl (omega arith) (beside_same s.tag p.store
      whole.rises whole.filled whole.newest) (sym o.3 ∙ ap (map place_of) (none o.0 o.1)) refl

  -- its versions may be stamped with a time above the clock
  may_place : (o : Open) (at : ℕ) (new : Stamp) → open_of p lsid ≡ Some o → o.tag ≡ s.tag
      → last < at → ((V : List Version) → FallBelow at V → StandsBefore V new) → (V : List Version)
      → AreNewestFirst V → Each (HasStamp s.tag (Unfinished s.tag)) V
      → (is_some (own_at s.tag V) ≡ true → newest_commit V ≤ o.read_at) → MayStamp s.tag new V
  may_place o at new mine tag above may [] newest stamps over = tt
  may_place o at new mine tag above may (v ∷ V) newest stamps over = λ is.
      let reads : o.read_at ≤ last = (whole.live lsid o mine).reads in
      let own : is_some (own_at s.tag (v ∷ V)) ≡ true = ap (λ b. is_some
      (option_map (λ (v : Version). v.doc) (cond b (Some v) (find (is_of s.tag) V)))) is in
      let none : newest_commit (v ∷ V) ≡ newest_commit V =
      ap (λ (st : Stamp). unwrap_or (first (cons_option (commit_of st)
      (filter_map (λ (v : Version). commit_of v.stamp) V))) 0) (stamps.0 is) in
      let under : newest_commit (v ∷ V) ≤ o.read_at = over own in
      let below : newest_commit V ≤ o.read_at = subst (λ n. n ≤ o.read_at) none under in
      may V (fall_below at V (behind_fall v V newest) (grind arith))

  pub may_stamp : (o : Open) (at : ℕ) (new : Stamp) → open_of p lsid ≡ Some o → o.tag ≡ s.tag
      → last < at → ((V : List Version) → FallBelow at V → StandsBefore V new) → (place : Place)
      → MayStamp s.tag new (versions_of p.store place)
  may_stamp o at new mine tag above may place =
      may_place o at new mine tag above may (versions_of p.store place) (whole.newest place)
      (live_unfinished p last lsid s o whole mine tag place)
      (subst (λ t. is_some (own_at t (versions_of p.store place)) ≡ true → newest_commit
      (versions_of p.store place) ≤ o.read_at) tag ((whole.live lsid o mine).over.behind place))

  pub commit_left : (o : Open) (at : ℕ) → open_of p lsid ≡ Some o → last < at
      → Left i (ended (record p { store = decided s.tag (Some at) p.store }) lsid s
      (state.Committed at)) at (Some (rec.Commit s.tag lsid s.number o.read_at at o.writes))
  commit_left o at mine above =
      let has = live_open p last lsid s whole there live in
      let both : Some has.0 ≡ Some o = sym has.1 ∙ mine in
      let one : has.0 ≡ o = cc in
      let tag : o.tag ≡ s.tag = ap (λ (x : Open). x.tag) (sym one) ∙ has.2 in
      let store : Versions = stamped s.tag (At at) p.store in
      let q : Part = ended (record p { store = store }) lsid s (state.Committed at) in
      let beside = beside_commit s.tag at p.store whole.rises whole.filled whole.newest (may_stamp o
      at (At at) mine tag above (λ V h. h)) in
      record {
        whole = closes_whole p q last at lsid s (state.Committed at) whole there (ap is_open live)
            refl (grind arith) (closes_live p last store lsid s (state.Committed at) whole there
            live refl beside (keys_committed s.tag at p.store));
        holds = record {
          boot = holds.boot;
          store = ap (λ (v : Versions). stamped s.tag (At at)
              (with_writes s.tag v o.writes)) holds.store
              ∙ finished_own s.tag (At at) p.store o.writes whole.rises
              refl (live_unfinished p last lsid s o whole mine tag)
              (λ place. newest_chain (versions_of p.store place) (whole.newest place))
              (λ place. subst (λ t. own_at t (versions_of p.store place) ≡ wrote_at place o.writes)
              tag ((whole.live lsid o mine).own place));
          pending = holds.pending;
          sessions = recorded_now p q i.sessions lsid (in_state s (state.Committed at))
              holds.sessions (ended_here p store lsid s (state.Committed at)) (ended_beside p store
              lsid s (state.Committed at)) (λ h. cc);
          recorded = too_recorded p q i.sessions lsid (in_state s (state.Committed at))
              holds.recorded (ended_here p store lsid s (state.Committed at)) (ended_beside p store
              lsid s (state.Committed at));
        };
        ceiling = refl;
        coord = refl;
        written = (whole.live lsid o mine).rises;
      }

-- The decision of a prepared transaction.

prepared_found : (p : Part) (tag : Tag) (x : Pending) (pending : List Pending) (b : Bool)
    → same_tag x.tag tag ≡ b → Each (PendingHas p) (x ∷ pending)
    → (list_any (λ (q : Pending). same_tag q.tag tag) pending ≡ true → (y : Pending) × (y.tag ≡ tag)
    × PendingHas p y) → (b || list_any (λ (q : Pending). same_tag q.tag tag) pending) ≡ true
    → (y : Pending) × (y.tag ≡ tag) × PendingHas p y
prepared_found p tag x pending true is h more any = (x, tag_same x.tag tag is, h.0)
prepared_found p tag x pending false is h more any = more any

pending_found : (p : Part) (tag : Tag) (pending : List Pending) → Each (PendingHas p) pending
    → list_any (λ (q : Pending). same_tag q.tag tag) pending ≡ true
    → (y : Pending) × (y.tag ≡ tag) × PendingHas p y
pending_found p tag [] h any = cc
pending_found p tag (x ∷ pending) h any =
    prepared_found p tag x pending (same_tag x.tag tag) refl h (pending_found p tag pending h.1) any

behind_shut : (d : Decision) → is_open (state_behind d) ≡ false
behind_shut (decision.Commit at) = refl
behind_shut (decision.Abort shard code) = refl

pub behind_never : (d : Decision) → state_behind d ≡ state.Live → ⊥
behind_never (decision.Commit at) h = cc
behind_never (decision.Abort shard code) h = cc

-- a commit is at or above the prepare timestamp
abbrev pub IsFrom : ℕ → Decision → Type 0
IsFrom at (decision.Commit time) = at ≤ time
IsFrom at (decision.Abort shard code) = Unit {0}

prepared_is : (a b c d : ℕ) → state.Prepared a b ≡ state.Prepared c d → a ≡ c
prepared_is a b c d h = cc

module _ (i : Image) (p : Part) (last : ℕ) (m : Decide) (s : Session) (at coordinator : ℕ)
    (whole : IsWhole p last) (holds : HoldsPart i p) (there : session p m.lsid ≡ Some s)
    (prepared : s.state ≡ state.Prepared at coordinator) where
  -- its versions are prepared at this time
  stamped_so : (place : Place)
      → Each (HasStamp s.tag (Prepared s.tag at)) (versions_of p.store place)
  stamped_so place =
      let found = pending_found p s.tag p.pending whole.pending (whole.prepared m.lsid s at
      coordinator there prepared) in
      let x : Pending = found.0 in
      let h : PendingHas p x = found.2 in
      let tags : h.s.tag ≡ s.tag = h.tag ∙ found.1 in
      let same : same_lsid x.lsid m.lsid ≡ true =
      whole.stands.apart x.lsid m.lsid h.s s h.session there (ap is_open h.state) (ap is_open
      prepared) (ap (λ t. same_tag t s.tag) tags ∙ tag_self s.tag) in
      let one : h.s ≡ s = one_session p m.lsid h.s s (ap (session p)
      (sym (lsid_same x.lsid m.lsid same)) ∙ h.session) there in
      let time : h.at ≡ at = prepared_is h.at h.coordinator at coordinator (sym h.state
      ∙ ap (λ (z : Session). z.state) one ∙ prepared) in
      subst (λ t. Each (HasStamp t (Prepared t at)) (versions_of p.store place)) found.1
      (subst (λ n. Each (HasStamp x.tag (Prepared x.tag n)) (versions_of p.store place)) time
      (h.over.stamps place))

  from_place : (time : ℕ) → at ≤ time → (V : List Version) → AreNewestFirst V
      → Each (HasStamp s.tag (Prepared s.tag at)) V → MayStamp s.tag (At time) V
  from_place time from [] newest stamps = tt
  from_place time from (v ∷ V) newest stamps =
      λ is. below_more at time V from (subst (StandsBefore V) (stamps.0 is) newest)

  decide_beside : (d : Decision) → IsFrom at d
      → Beside s.tag p.store (decided s.tag (commit_time d) p.store)
  decide_beside (decision.Commit time) from =
      beside_commit s.tag time p.store whole.rises whole.filled whole.newest (λ place.
      from_place time from (versions_of p.store place) (whole.newest place) (stamped_so place))
  decide_beside (decision.Abort shard code) from =
      beside_drop s.tag p.store whole.rises whole.newest

  decide_lasts : (d : Decision) → decided s.tag (commit_time d) (finished p.store)
      ≡ finished (decided s.tag (commit_time d) p.store)
  decide_lasts (decision.Commit time) = sym (finished_decided s.tag (Prepared s.tag at) (At time)
      p.store whole.rises refl refl stamped_so)
  decide_lasts (decision.Abort shard code) = sym (finished_drop s.tag p.store whole.rises)

  pub decide_left : IsFrom at m.decision
      → Left i (decided_part p m s) last (Some (rec.Decided (record_of m s)))
  decide_left from =
      let q : Part = decided_part p m s in
      let is : IsSomeAnd (session p m.lsid) (λ s. IsSome (prepared_at s.state)) =
      subst (λ x. IsSomeAnd x (λ s. IsSome (prepared_at s.state))) (sym there)
      (subst (λ st. IsSome (prepared_at st)) (sym prepared) refl) in
      let new : Session = in_state s (state_behind m.decision) in
      let closes : Closes p q m.lsid s (state_behind m.decision) = record {
        stands = (applying p m s there whole.stands whole.lives is).stands;
        sessions = refl;
        live = refl;
        pending = refl;
        beside = decide_beside m.decision from;
      } in
      record {
        whole = closes_whole p q last last m.lsid s (state_behind m.decision) whole there
            (ap is_open prepared) (behind_shut m.decision) (omega arith) closes;
        holds = record {
          boot = holds.boot;
          store = ap (λ (v : Versions). decided s.tag (commit_time m.decision) v) holds.store
              ∙ decide_lasts m.decision;
          pending = ap (filter (λ (other : Pending). not (same_tag other.tag s.tag))) holds.pending;
          sessions = recorded_now p q i.sessions m.lsid new holds.sessions (entry_here m.lsid new
              p.sessions.entries) (λ x apart. entry_elsewhere x m.lsid apart new p.sessions.entries)
              (behind_never m.decision);
          recorded = too_recorded p q i.sessions m.lsid new holds.recorded
              (entry_here m.lsid new p.sessions.entries) (λ x apart.
              entry_elsewhere x m.lsid apart new p.sessions.entries);
        };
        ceiling = refl;
        coord = refl;
        written = tt;
      }
