-- A part after a statement that is done or refused.
use Rattle.std.proofs.Common.{◌≡◌, ◌≤◌, ◌++◌, ℕ, Bool, true, false, cond, not, List, [], ◌∷◌}
use Rattle.std.proofs.Common.{Option, Some, None, IfSome, find, map, option_map, unwrap_or, refl}
use Rattle.std.proofs.Common.{ap, subst, ◌∙◌, sym, arith, if◌then◌else◌}
use Rattle.std.specs.List.{list_any, filter_map, cons_option}
use Rattle.std.specs.Option.{is_some, option_or}
use Rattle.std.specs.Ordering.{is_eq}
use Rattle.bson_core.specs.Fields.{Document}
use Rattle.txn_types.specs.BySession.{entry_of}
use Rattle.txn_types.specs.Order.{same_tag, same_lsid, lsid_cmp}
use Rattle.txn_types.specs.declared.message.Statement.{Statement}
use Rattle.txn_types.specs.declared.names.Tag.{Tag}
use Rattle.txn_types.specs.declared.node.Lsid.{Lsid}
use Rattle.txn_types.specs.declared.write.Write.{Write}
use Rattle.txn_types.proofs.Orders.{lsid_total, lsid_exact}
use Rattle.txn_semantics.specs.Keyed.{put}
use Rattle.txn_semantics.specs.Writes.{Place, place_of, place_cmp, write_set}
use Rattle.txn_semantics.proofs.Laying.{rises_put}
use Rattle.session_table.specs.Sessions.{with_session, prepared_at}
use Rattle.session_table.specs.declared.session.Session.{Session}
use Rattle.session_table.specs.declared.session.SessionState.{SessionState}
use Rattle.session_table.specs.declared.session.SessionState.TheVariants as state
use Rattle.version_store.specs.declared.version.Pending.{Pending}
use Rattle.version_store.specs.declared.version.Stamp.TheVariants.{Unfinished}
use Rattle.version_store.specs.declared.version.Version.{Version}
use Rattle.version_store.specs.Versions.{Versions, versions_of, dropped, with_writes, keys_of}
use Rattle.version_store.specs.Versions.{is_of}
use Rattle.participant.specs.declared.said.Open.{Open}
use Rattle.participant.specs.Part.{Part, session, open_of, is_open, elsewhere}
use Rattle.participant.specs.Statement.{own_of, stands as stands_as}
use Rattle.participant.specs.Stands.{Stands, SessionAt, IsClosed, CanLeave, live_session}
use Rattle.participant.specs.Stands.{without_older, mine_of, mine}
use Rattle.participant.proofs.Elsewhere.{nowhere_else}
use Rattle.participant.proofs.Ends.{entry_elsewhere}
use Rattle.participant.proofs.Inserted.{ascend_keys, rises_under, Ascend}
use Rattle.participant.proofs.Moving.{entry_here}
use Rattle.participant.proofs.Statements.{has_live, written_stands, refused_stands, ClosedBeside}
use Rattle.participant.proofs.Tags.{tag_self, lsid_same, lsid_self}
use Rattle.participant.proofs.Written.{rises_written}
use Rattle.part_laws.specs.Each.{Each}
use Rattle.part_laws.specs.Chain.{own_at}
use Rattle.part_laws.specs.Looked.{looked}
use Rattle.part_laws.specs.Seen.{wrote_at}
use Rattle.part_laws.proofs.Chains.{each_weaker, each_filter}
use Rattle.part_laws.proofs.Contents.{wrote_at-append}
use Rattle.part_laws.proofs.Moving.{live_put}
use Rattle.part_laws.proofs.Owners.{not_own, own-topped}
use Rattle.part_laws.proofs.Sets.{wrote_at-write_set}
use Rattle.part_laws.proofs.Stores.{versions_is, versions-with_writes, topped_by}
use Rattle.durable_laws.proofs.Whole.{newest_commit, HasStamp, LiveHas, PendingHas, IsWhole}
use Rattle.durable_laws.proofs.Beside.{Beside, IsFree, beside_write, commits_topped}
use Rattle.durable_laws.proofs.Closing.{live_kept, pending_kept, apart_with}

-- A transaction without keys has no version.

none_case : (tag : Tag) (key : Place × List Version) (o : Option Version)
    (more : List (Place × Option Document)) → map (λ (row : Place × Option Document).
    row.0) (cons_option (option_map (λ (v : Version). (key.0, v.doc)) o) more) ≡ []
    → (option_map (λ (v : Version). v.doc) o ≡ None)
    × (map (λ (row : Place × Option Document). row.0) more ≡ [])
none_case tag key None more h = (refl, h)
none_case tag key (Some v) more h = cc

no_keys : (tag : Tag) (store : Versions) → keys_of tag store ≡ []
    → Each (λ (key : Place × List Version). own_at tag key.1 ≡ None) store
no_keys tag [] h = tt
no_keys tag (key ∷ store) h =
    let both = none_case tag key (find (is_of tag) key.1) (filter_map (λ (key : Place × List
    Version). option_map (λ (v : Version). (key.0, v.doc)) (find (is_of tag) key.1)) store) h in
    (both.0, no_keys tag store both.1)

pub at_looked : (P : List Version → Type 0) (place : Place) (store : Versions)
    → P [] → Each (λ (key : Place × List Version). P key.1) store
    → P (unwrap_or (looked place_cmp place store) [])
at_looked P place [] nil h = nil
at_looked P place (key ∷ store) nil h =
    at_case (is_eq (place_cmp place key.0)) (at_looked P place store nil h.1)
  where
    at_case : (b : Bool) → P (unwrap_or (looked place_cmp place store) [])
        → P (unwrap_or (cond b (Some key.1) (looked place_cmp place store)) [])
    at_case true more = h.0
    at_case false more = more

own_none : (tag : Tag) (store : Versions) (place : Place) → keys_of tag store ≡ []
    → own_at tag (versions_of store place) ≡ None
own_none tag store place h = subst (λ V. own_at tag V ≡ None) (sym (versions_is store place))
    (at_looked (λ V. own_at tag V ≡ None) place store refl (no_keys tag store h))

none_stamped : (tag : Tag) (V : List Version) → own_at tag V ≡ None
    → Each (HasStamp tag (Unfinished tag)) V
none_stamped tag V h = each_weaker (λ v. is_of tag v ≡ false) (HasStamp tag (Unfinished tag)) (λ v
    not_it mine. let wrong : true ≡ false = sym mine ∙ not_it in cc) V (not_own tag V h)

-- Sessions that aren't prepared.

if_there : (P : Session → Type 0) (x : Option Session) (s : Session) → x ≡ Some s → IfSome x P → P s
if_there P x s is h = subst (λ y. IfSome y P) is h

shut_leaves : (x : Option Session) → ((s : Session) → x ≡ Some s → is_open s.state ≡ false)
    → IfSome x (λ t. prepared_at t.state ≡ None)
shut_leaves None h = tt
shut_leaves (Some s) h = shut_case s.state (h s refl)
  where
    shut_case : (st : SessionState) → is_open st ≡ false → prepared_at st ≡ None
    shut_case state.Live shut = refl
    shut_case (state.Prepared at coordinator) shut = cc
    shut_case (state.Committed at) shut = refl
    shut_case state.Released shut = refl
    shut_case (state.Aborted why read_at) shut = refl

-- The session has another transaction that isn't open.

module _ (p : Part) (last : ℕ) (m : Statement) (whole : IsWhole p last) (none : open_of p m.lsid
    ≡ None) (shut : (s : Session) → session p m.lsid ≡ Some s → is_open s.state ≡ false) where
  not_pending : (x : Pending) (b : Bool) → same_lsid x.lsid m.lsid ≡ b → PendingHas p x
      → same_lsid x.lsid m.lsid ≡ false
  not_pending x true is h =
      let wrong : true ≡ false = sym (ap is_open h.state)
      ∙ shut h.s (ap (session p) (sym (lsid_same x.lsid m.lsid is)) ∙ h.session) in cc
  not_pending x false is h = is

  module _ (st : SessionState) (closes : is_open st ≡ false) where
    new : Session
    new = record { number = m.number; tag = m.tag; state = st }

    settled_pending : (x : Pending) → PendingHas p x → PendingHas (stands_as p m st) x
    settled_pending x h =
        record {
          s = h.s;
          at = h.at;
          coordinator = h.coordinator;
          session = entry_elsewhere x.lsid m.lsid (not_pending x (same_lsid x.lsid m.lsid) refl
              h) (record { number = m.number; tag = m.tag; state = st }) p.sessions.entries
              ∙ h.session;
          tag = h.tag;
          state = h.state;
          later = h.later;
          keys = h.keys;
          over = h.over;
        }

    settled_prepared : (y : Lsid) (t : Session) (since by : ℕ) (b : Bool) → same_lsid y m.lsid ≡ b
        → session (stands_as p m st) y ≡ Some t → t.state ≡ state.Prepared since by
        → list_any (λ (z : Pending). same_tag z.tag t.tag) p.pending ≡ true
    unfolding new
    settled_prepared y t since by true is has prepared =
        let both : Some new ≡ Some t = sym (entry_here m.lsid new p.sessions.entries)
        ∙ ap (session (stands_as p m st)) (sym (lsid_same y m.lsid is)) ∙ has in
        let one : new ≡ t = cc in
        let wrong : true ≡ false = sym (ap is_open prepared)
        ∙ ap (λ (z : Session). is_open z.state) (sym one) ∙ closes in cc
    settled_prepared y t since by false is has prepared = whole.prepared y t since by
        (sym (entry_elsewhere y m.lsid is new p.sessions.entries) ∙ has) prepared

    pub settles_whole : IsWhole (stands_as p m st) last
    settles_whole =
        record {
          stands = refused_stands p m st None none closes whole.stands whole.lives whole.rises
              (shut_leaves (session p m.lsid) shut);
          rises = whole.rises;
          filled = whole.filled;
          newest = whole.newest;
          lives = whole.lives;
          live = whole.live;
          pending = each_weaker (PendingHas p) (PendingHas (stands_as p m st)) settled_pending
              p.pending whole.pending;
          prepared = λ y t since by has prepared. settled_prepared y t since by (same_lsid y m.lsid)
              refl has prepared;
          apart = apart_with m.lsid (record { number = m.number; tag = m.tag; state = st })
              p.sessions.entries whole.apart;
        }

-- The session's transaction is live, with more writes.

closed_case : (p : Part) (lsid : Lsid) (tag : Tag) (x : Lsid) (t : Session) (b : Bool)
    → same_lsid x lsid ≡ b → ClosedBeside p lsid tag → ((s : Session) → session p lsid ≡ Some s
    → is_open s.state ≡ true → same_tag s.tag tag ≡ false)
    → session p x ≡ Some t → is_open t.state ≡ true → same_tag t.tag tag ≡ false
closed_case p lsid tag x t true is beside own there so =
    own t (ap (session p) (sym (lsid_same x lsid is)) ∙ there) so
closed_case p lsid tag x t false is beside own there so = beside x t is there so

closed_all : (p : Part) (lsid : Lsid) (tag : Tag) → ClosedBeside p lsid tag → ((s : Session)
    → session p lsid ≡ Some s → is_open s.state ≡ true → same_tag s.tag tag ≡ false)
    → IsClosed p tag
closed_all p lsid tag beside own x t there so =
    closed_case p lsid tag x t (same_lsid x lsid) refl beside own there so

-- what a session may have where its statement is done: nothing open, or this live transaction
abbrev pub MayOpen : Part → Statement → ℕ → Option Open → Type 0
MayOpen p m at None = (s : Session) → session p m.lsid ≡ Some s → is_open s.state ≡ false
MayOpen p m at (Some a) = (a.tag ≡ m.tag) × (a.read_at ≡ at)

own_topped_by : (tag : Tag) (c : Option (Option Document)) (V : List Version)
    → own_at tag (topped_by tag c V) ≡ option_or c (own_at tag V)
own_topped_by tag None V = refl
own_topped_by tag (Some doc) V = own-topped tag doc V

stamps_topped : (tag : Tag) (c : Option (Option Document)) (V : List Version)
    → Each (HasStamp tag (Unfinished tag)) V
    → Each (HasStamp tag (Unfinished tag)) (topped_by tag c V)
stamps_topped tag None V h = h
stamps_topped tag (Some doc) V h =
    ((λ mine. refl), each_filter (HasStamp tag (Unfinished tag)) (λ v. not (is_of tag v)) V h)

behind_topped : (tag : Tag) (c : Option (Option Document)) (V : List Version) (at : ℕ)
    → ((doc : Option Document) → c ≡ Some doc → newest_commit V ≤ at)
    → (is_some (own_at tag V) ≡ true → newest_commit V ≤ at)
    → is_some (own_at tag (topped_by tag c V)) ≡ true → newest_commit (topped_by tag c V) ≤ at
behind_topped tag None V at wrote had has = had has
behind_topped tag (Some doc) V at wrote had has =
    subst (λ n. n ≤ at) (sym (commits_topped tag (Some doc) V)) (wrote doc refl)

module _ (p : Part) (last : ℕ) (m : Statement) (o : Open) (writes : List Write) (at : ℕ) (whole :
    IsWhole p last) (once : elsewhere p m.lsid m.tag ≡ false) (free : IsFree m.tag p.store writes)
    (under : (place : Place) (doc : Option Document) → wrote_at place writes ≡ Some doc
    → newest_commit (versions_of p.store place) ≤ at) (on : at ≤ last) (tag : o.tag ≡ m.tag)
    (reads : o.read_at ≡ at) where
  abbrev pub opened_part : Part
  opened_part = record p {
    sessions = with_session p.sessions m.lsid (live_session m);
    live = put lsid_cmp m.lsid o p.live;
    store = with_writes m.tag p.store writes;
  }

  apart : ClosedBeside p m.lsid m.tag
  apart = nowhere_else p m.lsid m.tag once

  -- what the transaction had
  pub record Had (own : List Write) : Type 0 where
    pub leave : CanLeave (session p m.lsid)
    pub store : without_older m.tag (open_of p m.lsid) p.store ≡ p.store
    pub mine_is : own_of (mine p m) ≡ own
    pub has : (place : Place) → own_at m.tag (versions_of p.store place) ≡ wrote_at place own
    pub stamps : (place : Place)
        → Each (HasStamp m.tag (Unfinished m.tag)) (versions_of p.store place)
    pub behind : (place : Place) → is_some (own_at m.tag (versions_of p.store place)) ≡ true
        → newest_commit (versions_of p.store place) ≤ at

  pub had : (own : Option Open) → open_of p m.lsid ≡ own → MayOpen p m at own → Had (own_of own)
  had None is may =
      let none : (place : Place) → own_at m.tag (versions_of p.store place) ≡ None =
      λ place. own_none m.tag p.store place (whole.stands.owned m.tag (closed_all p m.lsid m.tag
      apart (λ s there so. let wrong : true ≡ false = sym so ∙ may s there in cc))) in
      record {
        leave = shut_leaves (session p m.lsid) may;
        store = ap (λ e. without_older m.tag e p.store) is;
        mine_is = ap (λ e. own_of (mine_of m.tag e)) is;
        has = none;
        stamps = λ place. none_stamped m.tag (versions_of p.store place) (none place);
        behind = λ place h. let wrong : false ≡ true = sym (ap is_some (none place)) ∙ h in cc;
      }
  had (Some a) is may =
      let live = has_live p m.lsid a whole.stands is in
      let h = whole.live m.lsid a is in
      let same : same_tag a.tag m.tag ≡ true = ap (λ t. same_tag t m.tag) may.0 ∙ tag_self m.tag in
      record {
        leave = subst (λ x. IfSome x (λ t. prepared_at t.state ≡ None)) (sym live.there)
            (ap prepared_at live.live);
        store = ap (λ e. without_older m.tag e p.store) is
            ∙ ap (λ b. if b then p.store else dropped a.tag p.store) same;
        mine_is = ap (λ e. own_of (mine_of m.tag e)) is
            ∙ ap (λ b. own_of (if b then Some a else None)) same;
        has = λ place. subst (λ t. own_at t (versions_of p.store place)
            ≡ wrote_at place a.writes) may.0 (h.own place);
        stamps = λ place. subst (λ t. Each (HasStamp t (Unfinished t)) (versions_of p.store place))
            may.0 (h.over.stamps place);
        behind = λ place. subst (λ n. is_some (own_at m.tag (versions_of p.store place)) ≡ true
            → newest_commit (versions_of p.store place) ≤ n) may.1
            (subst (λ t. is_some (own_at t (versions_of p.store place)) ≡ true → newest_commit
            (versions_of p.store place) ≤ a.read_at) may.0 (h.over.behind place));
      }

  module _ (own : List Write) (h : Had own) (all : o.writes ≡ write_set (own ++ writes)) where
    beside : Beside m.tag p.store (with_writes m.tag p.store writes)
    beside = beside_write m.tag p.store writes whole.rises whole.filled whole.newest free

    now_stands : Stands opened_part
    now_stands =
        subst (λ (v : Versions). let x : Part = record p {
          sessions = with_session p.sessions m.lsid (live_session m);
          live = put lsid_cmp m.lsid o p.live;
          store = with_writes m.tag v writes;
        } in Stands x) h.store
        (written_stands p m o writes whole.stands whole.rises once h.leave tag
        (all ∙ ap (λ xs. write_set (xs ++ writes)) (sym h.mine_is)))

    here : session opened_part m.lsid ≡ Some (live_session m)
    here = entry_here m.lsid (live_session m) p.sessions.entries

    beyond : (y : Lsid) → same_lsid y m.lsid ≡ false → session opened_part y ≡ session p y
    beyond y other = entry_elsewhere y m.lsid other (live_session m) p.sessions.entries

    live_now : LiveHas opened_part.store last o
    live_now =
        let store : Versions = with_writes m.tag p.store writes in
        let keys : map place_of o.writes ≡ keys_of m.tag store =
        (let s : Stands opened_part = now_stands in
        let at_it : SessionAt store (Some (live_session m)) (open_of opened_part m.lsid) =
        subst (λ x. SessionAt store x (open_of opened_part m.lsid)) here (s.sessions m.lsid) in
        let mine_now : open_of opened_part m.lsid ≡ Some o = live_put m.lsid m.lsid o p.live
        ∙ ap (λ b. if b then Some o else entry_of m.lsid p.live) (lsid_self m.lsid) in
        (subst (λ x. SessionAt store (Some (live_session m)) x) mine_now at_it).1) in
        let up : Ascend place_cmp (map place_of o.writes) = subst (Ascend place_cmp) (sym keys)
        (ascend_keys place_cmp _ (rises_written m.tag store beside.rises)) in
        record {
          reads = subst (λ n. n ≤ last) (sym reads) on;
          rises = rises_under place_cmp place_of (λ (write : Write). write) o.writes up;
          own = λ place. subst (λ t. own_at t (versions_of store place)
              ≡ wrote_at place o.writes) (sym tag)
              (ap (own_at m.tag) (versions-with_writes m.tag p.store place writes)
              ∙ own_topped_by m.tag (wrote_at place writes) (versions_of p.store place)
              ∙ ap (option_or (wrote_at place writes)) (h.has place)
              ∙ sym (wrote_at-append place own writes)
              ∙ sym (wrote_at-write_set place (own ++ writes))
              ∙ ap (wrote_at place) (sym all));
          over = record {
            stamps = λ place. subst (λ t. Each (HasStamp t (Unfinished t))
                (versions_of store place)) (sym tag)
                (subst (Each (HasStamp m.tag (Unfinished m.tag)))
                (sym (versions-with_writes m.tag p.store place writes)) (stamps_topped m.tag
                (wrote_at place writes) (versions_of p.store place) (h.stamps place)));
            behind = λ place. subst (λ n. is_some (own_at o.tag (versions_of store place)) ≡ true
                → newest_commit (versions_of store place) ≤ n) (sym reads)
                (subst (λ t. is_some (own_at t (versions_of store place)) ≡ true
                → newest_commit (versions_of store place) ≤ at) (sym tag)
                (subst (λ W. is_some (own_at m.tag W) ≡ true → newest_commit W ≤ at)
                (sym (versions-with_writes m.tag p.store place writes))
                (behind_topped m.tag (wrote_at place writes) (versions_of p.store place) at
                (under place) (h.behind place))));
          };
        }

    live_case : (y : Lsid) (a : Open) (b : Bool) → same_lsid y m.lsid ≡ b
        → open_of opened_part y ≡ Some a → LiveHas opened_part.store last a
    live_case y a true is has =
        let both : Some o ≡ Some a = sym (live_put y m.lsid o p.live
        ∙ ap (λ b. if b then Some o else entry_of y p.live) is) ∙ has in
        let one : o ≡ a = cc in
        subst (LiveHas opened_part.store last) one live_now
    live_case y a false is has =
        let before : open_of p y ≡ Some a = sym (live_put y m.lsid o p.live
        ∙ ap (λ b. if b then Some o else entry_of y p.live) is) ∙ has in
        let was = has_live p y a whole.stands before in
        let other : same_tag a.tag m.tag ≡ false = ap (λ t. same_tag t m.tag) was.tag
        ∙ apart y was.s is was.there (ap is_open was.live) in
        live_kept m.tag p.store opened_part.store last last a beside other (omega arith)
        (whole.live y a before)

    lsid_apart : (y : Pending) (b : Bool) → same_lsid y.lsid m.lsid ≡ b → PendingHas p y
        → same_lsid y.lsid m.lsid ≡ false
    lsid_apart y true is x =
        let left : prepared_at x.s.state ≡ None =
        if_there (λ t. prepared_at t.state ≡ None) (session p m.lsid) x.s (ap (session p)
        (sym (lsid_same y.lsid m.lsid is)) ∙ x.session) h.leave in
        let wrong : Some x.at ≡ None = sym (ap prepared_at x.state) ∙ left in cc
    lsid_apart y false is x = is

    pending_case : (y : Pending) → PendingHas p y → PendingHas opened_part y
    pending_case y x =
        let other = lsid_apart y (same_lsid y.lsid m.lsid) refl x in
        pending_kept m.tag p opened_part y beside (ap (λ t. same_tag t m.tag) (sym x.tag)
        ∙ apart y.lsid x.s other x.session (ap is_open x.state)) (beyond y.lsid other) x

    prepared_case : (y : Lsid) (t : Session) (since by : ℕ) (b : Bool) → same_lsid y m.lsid ≡ b
        → session opened_part y ≡ Some t → t.state ≡ state.Prepared since by
        → list_any (λ (z : Pending). same_tag z.tag t.tag) p.pending ≡ true
    prepared_case y t since by true is has prepared =
        let both : Some (live_session m) ≡ Some t = sym here
        ∙ ap (session opened_part) (sym (lsid_same y m.lsid is)) ∙ has in
        let one : live_session m ≡ t = cc in
        let wrong : state.Live ≡ state.Prepared since by = ap (λ (z : Session). z.state) one
        ∙ prepared in cc
    prepared_case y t since by false is has prepared =
        whole.prepared y t since by (sym (beyond y is) ∙ has) prepared

    pub opens_whole : IsWhole opened_part last
    opens_whole =
        record {
          stands = now_stands;
          rises = beside.rises;
          filled = beside.filled;
          newest = beside.newest;
          lives = rises_put lsid_cmp lsid_total lsid_exact m.lsid o p.live whole.lives;
          live = λ y a has. live_case y a (same_lsid y m.lsid) refl has;
          pending = each_weaker (PendingHas p) (PendingHas opened_part) pending_case p.pending
              whole.pending;
          prepared = λ y t since by has prepared. prepared_case y t since by (same_lsid y m.lsid)
              refl has prepared;
          apart = apart_with m.lsid (live_session m) p.sessions.entries whole.apart;
        }
