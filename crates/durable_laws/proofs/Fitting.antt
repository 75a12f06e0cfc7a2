-- Records that hold a shard's state fit it.
use Rattle.std.proofs.Common.{◌≡◌, ◌≤◌, ◌<ℤ◌, ◌&&◌, ◌||◌, ℕ, Bool, true, false, cond, not, List, []}
use Rattle.std.proofs.Common.{◌∷◌, find, map, Option, Some, None, IsSomeAnd, is_none, option_map}
use Rattle.std.proofs.Common.{unwrap_or, refl, ap, subst, ◌∙◌, sym, arith, nat_lt, if◌then◌else◌}
use Rattle.std.specs.List.{list_any, list_all, filter_map, cons_option}
use Rattle.std.specs.Option.{is_some, option_or, option_and_then}
use Rattle.txn_types.specs.Order.{same_tag, same_lsid}
use Rattle.txn_types.specs.declared.cause.By.{By}
use Rattle.txn_types.specs.declared.cause.By.TheVariants as reason
use Rattle.txn_types.specs.declared.decision.Decision.{Decision}
use Rattle.txn_types.specs.declared.names.Tag.{Tag}
use Rattle.txn_types.specs.declared.node.Lsid.{Lsid}
use Rattle.txn_types.specs.declared.write.Write.{Write}
use Rattle.bson_core.specs.Fields.{Document}
use Rattle.txn_semantics.specs.Writes.{Place, place_of, place_cmp}
use Rattle.txn_semantics.proofs.Places.{place_total, place_exact}
use Rattle.coordinator.specs.declared.plan.Plan.{Plan}
use Rattle.part_laws.specs.Seen.{wrote_at, left_by}
use Rattle.part_laws.proofs.Looking.{eq_self}
use Rattle.session_table.specs.Sessions.{session_of, prepared_at}
use Rattle.session_table.specs.declared.session.Session.{Session}
use Rattle.session_table.specs.declared.session.SessionState.TheVariants as state
use Rattle.version_store.specs.declared.version.Pending.{Pending}
use Rattle.version_store.specs.declared.version.Stamp.{Stamp}
use Rattle.version_store.specs.declared.version.Stamp.TheVariants.{Unfinished, Prepared, At}
use Rattle.version_store.specs.declared.version.Version.{Version}
use Rattle.version_store.specs.Versions.{versions_of, outlives, is_of, commit_of, newest_of, first}
use Rattle.version_store.specs.Versions.{content_of, against, other_writer_of, commit_above}
use Rattle.journal_rec.specs.Follows as journal
use Rattle.journal_rec.specs.declared.record.Rec.{Rec}
use Rattle.coordinator.specs.TwoPhase.{Coordinations, Coordinated}
use Rattle.participant.specs.declared.said.Open.{Open}
use Rattle.participant.specs.Laws.{CanWrite, IsStanding}
use Rattle.participant.specs.Part.{Part, session, open_of}
use Rattle.participant.proofs.Moving.{one_session}
use Rattle.participant.proofs.Statements.{has_live}
use Rattle.participant.proofs.Tags.{lsid_same}
use Rattle.part_laws.specs.Each.{Each}
use Rattle.part_laws.specs.Chain.{own_at, IsCommitted}
use Rattle.part_laws.proofs.Chains.{every, each_weaker, times_kept, none_found}
use Rattle.part_laws.proofs.Owners.{committed_none}
use Rattle.shard_image.specs.Image.{Image, image_of, ledger_of, standing_by, number_of}
use Rattle.shard_image.specs.Sound.{IsImage, HasIts, pending_of}
use Rattle.shard_image.proofs.Asked.{number_there, number_new, undisturbed_is, standing_is}
use Rattle.shard_image.proofs.Decisions.{image_counted}
use Rattle.shard_image.proofs.Lookups.{free_is}
use Rattle.shard_core.specs.State.{ShardState}
use Rattle.shard_core.specs.Durable.{plans_of}
use Rattle.shard_core.specs.Laws.{Fits}
use Rattle.durable_laws.specs.Backed.{is_recorded, IsBacked}
use Rattle.durable_laws.specs.Fitting.{AreOrdered}
use Rattle.durable_laws.proofs.Whole.{AreNewestFirst, newest_commit, HasStamp, PendingHas}
use Rattle.durable_laws.proofs.Holding.{Backs}
use Rattle.durable_laws.proofs.Places.{lasting, lasting_rest, behind_fall, fall_committed}
use Rattle.durable_laws.proofs.Lasting.{versions_finished}
use Rattle.durable_laws.proofs.Ends.{none_pending, recorded_below, has_some}
use Rattle.durable_laws.proofs.Backing.{to_backs}

decided_row : Tag × (Plan × Option Decision) → Tag × Option Decision
decided_row x = (x.0, x.1.1)

coord_row : Tag × Coordinated → Tag × Option Decision
coord_row c = (c.0, c.1.decision)

decisions_of : (coords : Coordinations) → map decided_row (plans_of coords) ≡ map coord_row coords
unfolding decided_row coord_row
decisions_of [] = refl
decisions_of (c ∷ coords) = ap (λ xs. coord_row c ∷ xs) (decisions_of coords)

-- Nothing stands against commits at or below what is read at.

none_other : (tag : Tag) (V : List Version) → Each IsCommitted V
    → first (filter_map (other_writer_of tag) V) ≡ None
none_other tag [] c = refl
none_other tag (v ∷ V) c = ap (λ (o : Option Tag).
    first (cons_option (option_and_then (λ (w : Tag). if same_tag w tag then None else Some w) o)
    (filter_map (other_writer_of tag) V))) c.0 ∙ none_other tag V c.1

none_above : (at : ℕ) (o : Option ℕ) → unwrap_or o 0 ≤ at
    → option_and_then (commit_above at) o ≡ None
none_above at None h = refl
none_above at (Some n) h = above_case (nat_lt at n) refl
  where
    above_case : (b : Bool) → nat_lt at n ≡ b
        → ◌≡◌ {A = Option By} (if b then Some (reason.At n) else None) None
    above_case true is = let wrong : ⊥ = grind (arith, is, h) in absurd wrong
    above_case false is = refl

none_against : (at : ℕ) (tag : Tag) (V : List Version) → Each IsCommitted V → newest_commit V ≤ at
    → against at tag V ≡ None
none_against at tag V c h =
    ap (λ o. option_or (option_map (λ (w : Tag). reason.Tag w) o) (option_and_then (commit_above at)
    (newest_of V))) (none_other tag V c) ∙ none_above at (newest_of V) h

lost_commit : (stamp : Stamp) → outlives stamp ≡ false → commit_of stamp ≡ None
lost_commit (Unfinished tag) h = refl
lost_commit (Prepared tag at) h = cc
lost_commit (At at) h = cc

commits_lasting : (V : List Version) → newest_commit (lasting V) ≡ newest_commit V
commits_lasting V = ap (λ o. unwrap_or o 0) (times_kept (λ v. outlives v.stamp)
    (λ v. commit_of v.stamp) V (every (λ (v : Version). outlives v.stamp ≡ false
    → commit_of v.stamp ≡ None) (λ v. lost_commit v.stamp) V))

left_case : (tag : Tag) (v : Version) (V : List Version) (b : Bool)
    → is_of tag v ≡ b → HasStamp tag (Unfinished tag) v → Each IsCommitted V
    → is_some (option_map (λ (v : Version). v.doc) (cond b (Some v) (find (is_of tag) V))) ≡ true
    → Each IsCommitted (cond (outlives v.stamp) (v ∷ lasting V) (lasting V))
left_case tag v V true is h c own = subst (λ b. Each IsCommitted (cond b (v ∷ lasting V)
    (lasting V))) (sym (ap outlives (h is))) (subst (Each IsCommitted) (sym (lasting_rest V c)) c)
left_case tag v V false is h c own =
    let nothing : own_at tag V ≡ None = ap (option_map (λ (v : Version). v.doc))
    (none_found (is_of tag) V (committed_none tag V c)) in
    let wrong : false ≡ true = sym (ap is_some nothing) ∙ own in cc

-- where a live transaction has a version, commits outlive it
own_leaves : (tag : Tag) (V : List Version) → AreNewestFirst V
    → Each (HasStamp tag (Unfinished tag)) V → is_some (own_at tag V) ≡ true
    → Each IsCommitted (lasting V)
own_leaves tag [] newest h own = cc
own_leaves tag (v ∷ V) newest h own =
    left_case tag v V (is_of tag v) refl h.0 (fall_committed V (behind_fall v V newest)) own

-- No prepared transaction is of the session, or has the tag.

none_any : (lsid : Lsid) (pending : List Pending) → Each (λ (q : Pending). same_lsid q.lsid lsid
    ≡ false) pending → list_any (λ (q : Pending). same_lsid q.lsid lsid) pending ≡ false
none_any lsid [] h = refl
none_any lsid (q ∷ pending) h = ap (λ b. b
    || list_any (λ (q : Pending). same_lsid q.lsid lsid) pending) h.0 ∙ none_any lsid pending h.1

none_of : (tag : Tag) (pending : List Pending)
    → Each (λ (q : Pending). same_tag q.tag tag ≡ false) pending → pending_of pending tag ≡ None
none_of tag [] h = refl
none_of tag (q ∷ pending) h = ap (λ b. cond b (Some q) (pending_of pending tag)) h.0
    ∙ none_of tag pending h.1

lsid_case : (p : Part) (lsid : Lsid) (u : Session) (q : Pending) (b : Bool)
    → same_lsid q.lsid lsid ≡ b → session p lsid ≡ Some u → u.state ≡ state.Live → PendingHas p q
    → same_lsid q.lsid lsid ≡ false
lsid_case p lsid u q true is there live h =
    let one : h.s ≡ u = one_session p lsid h.s u (ap (session p) (sym (lsid_same q.lsid lsid is))
    ∙ h.session) there in
    let wrong : state.Prepared h.at h.coordinator ≡ state.Live = sym h.state
    ∙ ap (λ (z : Session). z.state) one ∙ live in cc
lsid_case p lsid u q false is there live h = is

all_each : (test : Write → Bool) (writes : List Write) → Each (λ (w : Write). test w ≡ true) writes
    → list_all test writes ≡ true
all_each test [] h = refl
all_each test (w ∷ writes) h = ap (λ b. b && list_all test writes) h.0 ∙ all_each test writes h.1

last_wrote : (w : Write) (writes : List Write) → is_some (wrote_at (place_of w) (w ∷ writes)) ≡ true
last_wrote w writes = or_case (wrote_at (place_of w) writes) (left_by (place_of w)
    w) (ap (λ b. is_some (if b then Some (content_of w) else None))
    (eq_self place_cmp place_total place_exact (place_of w)))
  where
    or_case : (a b : Option (Option Document)) → is_some b ≡ true → is_some (option_or a b) ≡ true
    or_case None b h = h
    or_case (Some x) b h = refl

more_wrote : (place : Place) (w : Write) (writes : List Write)
    → is_some (wrote_at place writes) ≡ true → is_some (wrote_at place (w ∷ writes)) ≡ true
more_wrote place w writes h = or_case (wrote_at place writes) h
  where
    or_case : (a : Option (Option Document)) → is_some a ≡ true
        → is_some (option_or a (left_by place w)) ≡ true
    or_case None h = cc
    or_case (Some x) h = refl

held_of : (P : Pending → Type 0) (o : Option Pending) → IsSomeAnd o P
    → (q : Pending) × (o ≡ Some q) × P q
held_of P None h = absurd h
held_of P (Some q) h = (q, refl, h)

module _ (recs : List Rec) (s : ShardState) (b : IsBacked recs s)
    (ordered : AreOrdered recs s) where
  i : Image
  i = image_of recs

  counted : (ledger_of i ≡ journal.ledger_of recs) × IsImage i
  unfolding i
  counted = image_counted recs ordered.written ordered.follow

  backs : Backs i s
  unfolding i
  backs = to_backs recs s b

  number_case : (lsid : Lsid) (u : Session) (x : Option Session)
      → session_of i.sessions lsid ≡ x → session s.part lsid ≡ Some u → u.state ≡ state.Live
      → journal.is_next_number (ledger_of i) lsid u.number ≡ true
  unfolding i
  number_case lsid u None is there live = number_new i counted.1 lsid u.number is
      ∙ ap not (ordered.room lsid u there is)
  number_case lsid u (Some r) is there live =
      let was = backs.holds.sessions lsid r is in
      let below : r.number <ℤ u.number =
      recorded_below u r (has_some s.part lsid r u was.0 there) was.1 live in
      number_there i counted.1 lsid u.number r is ∙ grind (arith, below)

  module _ (lsid : Lsid) (u : Session) (o : Open) (there : session s.part lsid ≡ Some u)
      (mine : open_of s.part lsid ≡ Some o) where
    had : (u.state ≡ state.Live) × (o.tag ≡ u.tag)
    had =
        let h = has_live s.part lsid o backs.whole.stands mine in
        let one : h.s ≡ u = one_session s.part lsid h.s u h.there there in
        (ap (λ (z : Session). z.state) (sym one) ∙ h.live, h.tag ∙ ap (λ (z : Session). z.tag) one)

    none_tag : pending_of i.pending u.tag ≡ None
    none_tag = ap (λ xs. pending_of xs u.tag) backs.holds.pending ∙ none_of u.tag s.part.pending
        (none_pending s.part s.clock.last lsid u backs.whole there had.0)

    none_lsid : list_any (λ (q : Pending). same_lsid q.lsid lsid) i.pending ≡ false
    none_lsid =
        ap (list_any (λ (q : Pending). same_lsid q.lsid lsid)) backs.holds.pending
        ∙ none_any lsid s.part.pending (each_weaker (PendingHas s.part)
        (λ (q : Pending). same_lsid q.lsid lsid ≡ false) (λ q h. lsid_case s.part lsid u q
        (same_lsid q.lsid lsid) refl there had.0 h) s.part.pending backs.whole.pending)

    free_at : (place : Place) → is_some (own_at o.tag (versions_of s.part.store place)) ≡ true
        → journal.is_free (ledger_of i) o.read_at place ≡ true
    free_at place own =
        let h = backs.whole.live lsid o mine in
        let V : List Version = versions_of s.part.store place in
        let left : versions_of i.store place ≡ lasting V = ap (λ v. versions_of v place)
        backs.holds.store ∙ versions_finished s.part.store place backs.whole.rises in
        let under : newest_commit (lasting V) ≤ o.read_at =
        subst (λ n. n ≤ o.read_at) (sym (commits_lasting V)) (h.over.behind place own) in
        free_is i counted.1 u.tag o.read_at place none_tag
        ∙ ap (λ W. is_none (against o.read_at u.tag W)) left
        ∙ ap is_none (none_against o.read_at u.tag (lasting V)
        (own_leaves o.tag V (backs.whole.newest place) (h.over.stamps place) own) under)

    wrote_case : (writes : List Write) → ((place : Place) → is_some (wrote_at place writes) ≡ true
        → journal.is_free (ledger_of i) o.read_at place ≡ true)
        → Each (λ (w : Write). journal.is_free (ledger_of i) o.read_at (place_of w) ≡ true) writes
    wrote_case [] h = tt
    wrote_case (w ∷ writes) h = (
      h (place_of w) (last_wrote w writes),
      wrote_case writes (λ place own. h place (more_wrote place w writes own)),
    )

    may_write : CanWrite (ledger_of i) s.clock.last lsid u o
    may_write =
        record {
          number = number_case lsid u (session_of i.sessions lsid) refl there had.0;
          undisturbed = undisturbed_is i lsid u.tag ∙ ap (λ b. not b
              && is_none (pending_of i.pending u.tag)) none_lsid ∙ ap is_none none_tag;
          free =
              all_each (λ write. journal.is_free (ledger_of i) o.read_at (place_of write)) o.writes
              (wrote_case o.writes (λ place wrote.
              free_at place (ap is_some ((backs.whole.live lsid o mine).own place) ∙ wrote)));
          behind = (backs.whole.live lsid o mine).reads;
        }

  may_decide : (lsid : Lsid) (u : Session) (at coordinator : ℕ) → session s.part lsid ≡ Some u
      → u.state ≡ state.Prepared at coordinator → IsStanding (ledger_of i) lsid u at
  may_decide lsid u at coordinator there is =
      let here : session_of i.sessions lsid ≡ Some u =
      backs.holds.recorded lsid u there (ap is_recorded is) in
      let its : HasIts i.pending lsid u.tag (state.Prepared at coordinator) =
      subst (HasIts i.pending lsid u.tag) is (counted.1.sessions lsid u here) in
      let found = held_of (λ q. q.lsid ≡ lsid) (pending_of i.pending u.tag) its in
      let q : Pending = found.0 in
      let own : session_of i.sessions q.lsid ≡ Some u = ap (session_of i.sessions) found.2 ∙ here in
      record {
        standing = standing_by i.sessions q;
        is = standing_is i u.tag ∙ ap (option_map (standing_by i.sessions)) found.1;
        lsid_is = found.2;
        number_is = ap number_of own;
        at_is = ap (λ x. unwrap_or (option_and_then (λ (z : Session). prepared_at z.state) x) 0) own
            ∙ ap (λ st. unwrap_or (prepared_at st) 0) is;
      }

  pub records_fit : Fits (journal.ledger_of recs) s
  unfolding i decided_row coord_row
  records_fit =
      subst (λ l. Fits l s) counted.0
      (record {
        boot = ap (λ b. if b then None else Some (image_of recs).boot) ordered.some
            ∙ ap Some b.durable.boot;
        ceiling = b.durable.ceiling;
        times = ordered.times;
        coordinated = sym (decisions_of (image_of recs).coord)
            ∙ ap (map decided_row) b.durable.coord ∙ decisions_of s.coord;
        votes = ordered.votes;
        live = λ lsid u o there mine. may_write lsid u o there mine;
        prepared = λ lsid u at coordinator there is. may_decide lsid u at coordinator there is;
      })
