-- A live transaction's preparation.
use Rattle.std.proofs.Common.{◌≡◌, ◌≤◌, ◌<◌, ◌++◌, ◌||◌, ℕ, Bool, true, false, List, [], ◌∷◌, Some}
use Rattle.std.proofs.Common.{None, IsSomeAnd, IfSome, map, unwrap_or, refl, ap, subst, ◌∙◌, sym}
use Rattle.std.proofs.Common.{arith, if◌then◌else◌}
use Rattle.std.specs.List.{list_any}
use Rattle.std.specs.Option.{is_some}
use Rattle.txn_types.specs.BySession.{entry_of}
use Rattle.txn_types.specs.Order.{same_tag, same_lsid, lsid_cmp}
use Rattle.txn_types.specs.declared.names.Tag.{Tag}
use Rattle.txn_types.specs.declared.node.Lsid.{Lsid}
use Rattle.txn_types.proofs.Orders.{lsid_total, lsid_exact}
use Rattle.txn_semantics.specs.Keyed.{taken_out}
use Rattle.txn_semantics.specs.Writes.{Place, place_of}
use Rattle.txn_semantics.proofs.Laying.{rises_taken_out}
use Rattle.session_table.specs.Sessions.{Table, with_state}
use Rattle.session_table.specs.declared.session.Session.{Session}
use Rattle.session_table.specs.declared.session.SessionState.TheVariants as state
use Rattle.version_store.specs.declared.version.Pending.{Pending}
use Rattle.version_store.specs.declared.version.Stamp.{Stamp}
use Rattle.version_store.specs.declared.version.Stamp.TheVariants.{Unfinished, Prepared, At}
use Rattle.version_store.specs.declared.version.Version.{Version}
use Rattle.version_store.specs.Versions.{Versions, versions_of, stamped, with_writes, keys_of}
use Rattle.version_store.specs.Versions.{is_of, commit_of, writer_of, restamped, prepared}
use Rattle.journal_rec.specs.declared.record.Rec.TheVariants as rec
use Rattle.participant.specs.declared.said.Open.{Open}
use Rattle.participant.specs.Part.{Part, session, open_of, is_open, ended}
use Rattle.participant.specs.Stands.{Stands, pending_keys}
use Rattle.participant.proofs.Ends.{entry_elsewhere, entry_without}
use Rattle.participant.proofs.Forgotten.{keys_pushed}
use Rattle.participant.proofs.Keys.{of_writer, keys_restamped}
use Rattle.participant.proofs.Moving.{entry_here, of_two, one_session, pushed_stands}
use Rattle.participant.proofs.Moving.{prepared_stands}
use Rattle.participant.proofs.Statements.{has_live}
use Rattle.participant.proofs.Tags.{tag_self, lsid_same}
use Rattle.part_laws.specs.Each.{Each}
use Rattle.part_laws.specs.Chain.{own_at}
use Rattle.part_laws.specs.Seen.{wrote_at}
use Rattle.part_laws.proofs.Chains.{every, each_both, times_mapped, own-prepared}
use Rattle.part_laws.proofs.Ended.{in_state}
use Rattle.part_laws.proofs.Moving.{live_taken}
use Rattle.part_laws.proofs.Opening.{stamps-own}
use Rattle.part_laws.proofs.Stores.{versions-stamped}
use Rattle.shard_image.specs.Image.{Image}
use Rattle.durable_laws.proofs.Whole.{newest_commit, HasStamp, LiveHas, PendingHas, IsWhole}
use Rattle.durable_laws.proofs.Holding.{HoldsPart, Left}
use Rattle.durable_laws.proofs.Places.{newest_chain}
use Rattle.durable_laws.proofs.Lasting.{finished_own}
use Rattle.durable_laws.proofs.Beside.{Beside, beside_prepare}
use Rattle.durable_laws.proofs.Closing.{live_kept, pending_kept, apart_with}
use Rattle.durable_laws.proofs.Ends.{live_open, live_unfinished, none_pending, may_stamp}
use Rattle.durable_laws.proofs.Ends.{recorded_now, too_recorded}

-- a version's commit is as it was
no_commit : (stamp : Stamp) (tag : Tag) → writer_of stamp ≡ Some tag → None ≡ commit_of stamp
no_commit (Unfinished w) tag h = refl
no_commit (Prepared w at) tag h = refl
no_commit (At at) tag h = cc

commit_case : (tag : Tag) (at : ℕ) (v : Version) (b : Bool) → is_of tag v ≡ b
    → (let w : Version = if b then record { stamp = Prepared tag at; doc = v.doc } else v in
    commit_of w.stamp ≡ commit_of v.stamp)
commit_case tag at v true is = no_commit v.stamp tag (of_writer tag v is)
commit_case tag at v false is = refl

commits_prepared : (tag : Tag) (at : ℕ) (V : List Version)
    → newest_commit (map (restamped tag (Prepared tag at)) V) ≡ newest_commit V
commits_prepared tag at V =
    ap (λ o. unwrap_or o 0) (times_mapped (restamped tag (Prepared tag at)) (λ v. commit_of v.stamp)
    (λ v. commit_of v.stamp) V (every (λ (v : Version). commit_of (restamped tag (Prepared tag
    at) v).stamp ≡ commit_of v.stamp) (λ v. commit_case tag at v (is_of tag v) refl) V))

any_more : (tag : Tag) (pending : List Pending) (x : Pending)
    → list_any (λ (q : Pending). same_tag q.tag tag) pending ≡ true
    → list_any (λ (q : Pending). same_tag q.tag tag) (pending ++ x ∷ []) ≡ true
any_more tag [] x h = cc
any_more tag (y ∷ pending) x h = more_case (same_tag y.tag tag) h (any_more tag pending x)
  where
    more_case : (b : Bool) → (b || list_any (λ (q : Pending). same_tag q.tag tag) pending) ≡ true
        → (list_any (λ (q : Pending). same_tag q.tag tag) pending ≡ true
        → list_any (λ (q : Pending). same_tag q.tag tag) (pending ++ x ∷ []) ≡ true)
        → (b || list_any (λ (q : Pending). same_tag q.tag tag) (pending ++ x ∷ [])) ≡ true
    more_case true h more = refl
    more_case false h more = more h

any_last : (tag : Tag) (pending : List Pending) (x : Pending) → same_tag x.tag tag ≡ true
    → list_any (λ (q : Pending). same_tag q.tag tag) (pending ++ x ∷ []) ≡ true
any_last tag [] x h = ap (λ b. b || false) h
any_last tag (y ∷ pending) x h = last_case (same_tag y.tag tag) (any_last tag pending x h)
  where
    last_case : (b : Bool) → list_any (λ (q : Pending). same_tag q.tag tag) (pending ++ x ∷ [])
        ≡ true → (b || list_any (λ (q : Pending). same_tag q.tag tag) (pending ++ x ∷ [])) ≡ true
    last_case true more = refl
    last_case false more = more

each_more : {A : Type 0} (P : A → Type 0) (xs : List A) (x : A) → Each P xs → P x
    → Each P (xs ++ x ∷ [])
each_more P [] x h last = (last, tt)
each_more P (y ∷ xs) x h last = (h.0, each_more P xs x h.1 last)

module _ (i : Image) (p : Part) (last : ℕ) (lsid : Lsid) (s : Session) (o : Open) (at coordinator :
    ℕ) (whole : IsWhole p last) (holds : HoldsPart i p) (there : session p lsid ≡ Some s)
    (live : s.state ≡ state.Live) (mine : open_of p lsid ≡ Some o) (above : last < at) where
  abbrev pub x : Pending
  x = record { tag = s.tag; lsid = lsid; read_at = o.read_at; keys = map place_of o.writes }

  abbrev pub q : Part
  q = record (ended (record p { store = prepared s.tag at p.store }) lsid s
      (state.Prepared at coordinator)) { pending = p.pending ++ x ∷ [] }

  abbrev now : Session
  now = in_state s (state.Prepared at coordinator)

  tag_is : (o.tag ≡ s.tag) × (map place_of o.writes ≡ keys_of s.tag p.store)
  tag_is =
      let has = live_open p last lsid s whole there live in
      let both : Some has.0 ≡ Some o = sym has.1 ∙ mine in
      let one : has.0 ≡ o = cc in (
        ap (λ (z : Open). z.tag) (sym one) ∙ has.2,
        ap (λ (z : Open). map place_of z.writes) (sym one) ∙ has.3,
      )

  beside : Beside s.tag p.store (prepared s.tag at p.store)
  beside = beside_prepare s.tag at p.store whole.rises whole.filled whole.newest (may_stamp i p last
      lsid s whole holds there live o at (Prepared s.tag at) mine tag_is.0 above (λ V h. h))

  here : session q lsid ≡ Some now
  here = entry_here lsid (in_state s (state.Prepared at coordinator)) p.sessions.entries

  elsewhere : (y : Lsid) → same_lsid y lsid ≡ false → session q y ≡ session p y
  elsewhere y apart =
      entry_elsewhere y lsid apart (in_state s (state.Prepared at coordinator)) p.sessions.entries

  listed : (t : Session) → session p lsid ≡ Some t → (let p1 : Part =
      record p { pending = p.pending ++ x ∷ [] } in pending_keys p1 t.tag ≡ keys_of t.tag p.store)
  listed t h =
      let one : s ≡ t = one_session p lsid s t there h in
      subst (λ (z : Session). let p1 : Part = record p { pending = p.pending ++ x ∷ [] } in
      pending_keys p1 z.tag ≡ keys_of z.tag p.store) one
      (keys_pushed s.tag p.pending x (tag_self s.tag) ∙ tag_is.1)

  stands : Stands q
  stands =
      let p1 : Part = record p { pending = p.pending ++ x ∷ [] } in
      let before : Stands p1 = pushed_stands p lsid s x whole.stands there live refl in
      let is_live : IsSomeAnd (session p1 lsid) (λ s. s.state ≡ state.Live) =
      subst (λ y. IsSomeAnd y (λ s. s.state ≡ state.Live)) (sym there) live in
      let table : Table = with_state p.sessions lsid s (state.Prepared at coordinator) in
      let table_is : IfSome (session p1 lsid) (λ s. table ≡ with_state p.sessions
      lsid s (state.Prepared at coordinator)) = subst (λ y. IfSome y (λ s. table
      ≡ with_state p.sessions lsid s (state.Prepared at coordinator))) (sym there) refl in
      prepared_stands p1 lsid o at coordinator table (taken_out lsid_cmp lsid p.live)
      (prepared s.tag at p.store) before whole.lives is_live (sym mine) listed table_is refl
      (ap (λ t. stamped t (Prepared t at) p.store) (sym tag_is.0))

  live_case : (y : Lsid) (a : Open) (b : Bool) → same_lsid y lsid ≡ b → open_of q y ≡ Some a
      → LiveHas q.store at a
  live_case y a true is has =
      let none : open_of q y ≡ None = ap (λ l. entry_of l (taken_out lsid_cmp lsid p.live))
      (lsid_same y lsid is) ∙ live_taken lsid p.live whole.lives in
      let wrong : None ≡ Some a = sym none ∙ has in cc
  live_case y a false is has =
      let before : open_of p y ≡ Some a = sym (entry_without y lsid is p.live) ∙ has in
      let had = has_live p y a whole.stands before in
      let apart : same_tag a.tag s.tag ≡ false = ap (λ t. same_tag t s.tag) had.tag ∙ of_two p lsid
      y s had.s whole.stands there (ap is_open live) is had.there (ap is_open had.live) in
      live_kept s.tag p.store q.store last at a beside apart (grind arith) (whole.live y a before)

  lsid_apart : (y : Pending) (b : Bool) → same_lsid y.lsid lsid ≡ b → PendingHas p y
      → same_lsid y.lsid lsid ≡ false
  lsid_apart y true is h =
      let one : h.s ≡ s = one_session p lsid h.s s (ap (session p) (sym (lsid_same y.lsid lsid is))
      ∙ h.session) there in
      let wrong : state.Prepared h.at h.coordinator ≡ state.Live = sym h.state
      ∙ ap (λ (z : Session). z.state) one ∙ live in cc
  lsid_apart y false is h = is

  old_pending : (y : Pending) → PendingHas p y → same_tag y.tag s.tag ≡ false → PendingHas q y
  old_pending y h apart = pending_kept s.tag p q y beside apart (elsewhere y.lsid
      (lsid_apart y (same_lsid y.lsid lsid) refl h)) h

  over : (place : Place) → (let V : List Version = versions_of (prepared s.tag at p.store) place in
      Each (HasStamp s.tag (Prepared s.tag at)) V
      × (is_some (own_at s.tag V) ≡ true → newest_commit V ≤ o.read_at))
  over place =
      let V : List Version = versions_of p.store place in
      subst (λ W. Each (HasStamp s.tag (Prepared s.tag at)) W
      × (is_some (own_at s.tag W) ≡ true → newest_commit W ≤ o.read_at))
      (sym (versions-stamped s.tag (Prepared s.tag at) p.store place)) (
        stamps-own s.tag (Prepared s.tag at) V,
        (λ has. subst (λ n. n ≤ o.read_at) (sym (commits_prepared s.tag at V))
            (subst (λ t. is_some (own_at t V) ≡ true → newest_commit V ≤ o.read_at)
            tag_is.0 ((whole.live lsid o mine).over.behind place)
            (ap is_some (sym (own-prepared s.tag s.tag at V)) ∙ has))),
      )

  new_pending : PendingHas q x
  new_pending =
      let reads : o.read_at ≤ last = (whole.live lsid o mine).reads in
      record {
        s = now;
        at = at;
        coordinator = coordinator;
        session = here;
        tag = refl;
        state = refl;
        later = grind arith;
        keys = keys_restamped s.tag (Prepared s.tag at) p.store (tag_self s.tag) ∙ sym tag_is.1;
        over = record { stamps = λ place. (over place).0; behind = λ place. (over place).1 };
      }

  prepared_case : (y : Lsid) (t : Session) (since by : ℕ) (b : Bool)
      → same_lsid y lsid ≡ b → session q y ≡ Some t → t.state ≡ state.Prepared since by
      → list_any (λ (z : Pending). same_tag z.tag t.tag) q.pending ≡ true
  prepared_case y t since by true is has st =
      let both : Some now ≡ Some t = sym here ∙ ap (session q) (sym (lsid_same y lsid is)) ∙ has in
      let one : now ≡ t = cc in
      any_last t.tag p.pending x
      (subst (λ (z : Session). same_tag s.tag z.tag ≡ true) one (tag_self s.tag))
  prepared_case y t since by false is has st =
      any_more t.tag p.pending x (whole.prepared y t since by (sym (elsewhere y is) ∙ has) st)

  pub prepare_left : Left i q at
      (Some (rec.Prepared s.tag lsid s.number p.boot o.read_at at coordinator o.writes))
  prepare_left =
      record {
        whole = record {
          stands = stands;
          rises = beside.rises;
          filled = beside.filled;
          newest = beside.newest;
          lives = rises_taken_out lsid_cmp lsid_total lsid_exact lsid p.live whole.lives;
          live = λ y a has. live_case y a (same_lsid y lsid) refl has;
          pending = each_more (PendingHas q) p.pending x (each_both (PendingHas p)
              (λ (y : Pending). same_tag y.tag s.tag ≡ false) (PendingHas q) old_pending p.pending
              whole.pending (none_pending p last lsid s whole there live)) new_pending;
          prepared =
              λ y t since by has st. prepared_case y t since by (same_lsid y lsid) refl has st;
          apart = apart_with lsid (in_state s (state.Prepared at coordinator)) p.sessions.entries
              whole.apart;
        };
        holds = record {
          boot = holds.boot;
          store = ap (λ (v : Versions). stamped s.tag (Prepared s.tag at)
              (with_writes s.tag v o.writes)) holds.store
              ∙ finished_own s.tag (Prepared s.tag at) p.store o.writes whole.rises
              refl (live_unfinished p last lsid s o whole mine tag_is.0)
              (λ place. newest_chain (versions_of p.store place) (whole.newest place))
              (λ place. subst (λ t. own_at t (versions_of p.store place) ≡ wrote_at place o.writes)
              tag_is.0 ((whole.live lsid o mine).own place));
          pending = ap (λ xs. xs ++ x ∷ []) holds.pending;
          sessions = recorded_now p q i.sessions lsid now holds.sessions here elsewhere (λ h. cc);
          recorded = too_recorded p q i.sessions lsid now holds.recorded here elsewhere;
        };
        ceiling = refl;
        coord = refl;
        written = (whole.live lsid o mine).rises;
      }
