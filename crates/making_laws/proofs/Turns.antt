-- What a statement leaves of sessions, and why it is refused.
use Rattle.std.proofs.Common.{◌≡◌, ◌⊎◌, inl, inr, ◌∙◌, ℕ, Bool, true, false, List}
use Rattle.std.proofs.Common.{not, Option, Some, None, refl, sym, ap, subst, nat_eq, nat_lt}
use Rattle.std.proofs.Common.{Result, Ok, Err, if◌then◌else◌}
use Rattle.txn_types.specs.BySession.{with_entry}
use Rattle.txn_types.specs.Order.{same_tag, same_lsid, lsid_cmp}
use Rattle.txn_types.specs.declared.cause.By.{By}
use Rattle.txn_types.specs.declared.cause.Cause.{Cause}
use Rattle.txn_types.specs.declared.cause.Cause.TheVariants as cause
use Rattle.txn_types.specs.declared.id.Id.{Id}
use Rattle.txn_types.specs.declared.message.Statement.{Statement}
use Rattle.txn_types.specs.declared.names.Tag.{Tag}
use Rattle.txn_types.specs.declared.node.Lsid.{Lsid}
use Rattle.txn_types.specs.declared.operation.OpReply.{OpReply}
use Rattle.txn_types.specs.declared.write.Write.{Write}
use Rattle.txn_types.proofs.Orders.{lsid_total, lsid_exact}
use Rattle.txn_semantics.specs.Keyed.{Rises}
use Rattle.txn_semantics.specs.Meaning.{Meaning, eval, ns_of}
use Rattle.txn_semantics.specs.Rows.{Row}
use Rattle.txn_semantics.specs.Touched.{touched}
use Rattle.txn_semantics.proofs.Laying.{rises_taken_out}
use Rattle.journal_rec.specs.Volume.{volume}
use Rattle.session_table.specs.Sessions.{Table, is_full}
use Rattle.session_table.specs.declared.session.Session.{Session}
use Rattle.session_table.specs.declared.session.SessionState.{SessionState}
use Rattle.session_table.specs.declared.session.SessionState.TheVariants as state
use Rattle.version_store.specs.Versions.{scan, conflict}
use Rattle.version_store.specs.declared.version.Held.{Held}
use Rattle.participant.specs.declared.said.Open.{Open}
use Rattle.participant.specs.declared.said.Said.{Said}
use Rattle.participant.specs.declared.said.Said.TheVariants.{Did, Blocked, Refused, Late}
use Rattle.participant.specs.Part.{Part, session, open_of, closed, without_live}
use Rattle.participant.specs.Part.{is_replaced}
use Rattle.participant.specs.Statement as stm
use Rattle.participant.proofs.Cases.{either}
use Rattle.participant.proofs.Ends.{entry_without}
use Rattle.participant.proofs.Tags.{tag_self, tag_same}
use Rattle.cluster_core.specs.Causes.{is_aborted}
use Rattle.making_laws.specs.News.{is_free}
use Rattle.making_laws.proofs.Leaving.{is_kept, Leaves, LivesStand, rests, put_leaves}
use Rattle.making_laws.proofs.Leaving.{out_lives, none_lives, in_lives, aborted_leaves}
use Rattle.making_laws.proofs.Leaving.{none_aborted}
use Rattle.making_laws.proofs.Leaving.{aborted_is}

-- What is told of a transaction: a cause with which it wasn't ended before, one with which it was,
-- or one of which nothing is said.

abbrev pub Fresh : Part → Lsid → Tag → Cause → Type 0
Fresh p lsid tag why = (old : Session) (at : ℕ) → session p lsid ≡ Some old → old.tag ≡ tag
    → old.state ≡ state.Aborted why at → ⊥

pub record Repeats (p : Part) (lsid : Lsid) (tag : Tag) (why : Cause) : Type 0 where
  pub old : Session
  pub at : ℕ
  pub there : session p lsid ≡ Some old
  pub own : old.tag ≡ tag
  pub ended : old.state ≡ state.Aborted why at

abbrev pub ToldAs : Part → Lsid → Tag → Cause → Type 0
ToldAs p lsid tag why = (is_free why ≡ true) ⊎ (Fresh p lsid tag why ⊎ Repeats p lsid tag why)

-- each session that is aborted has a cause with which sessions are ended
abbrev pub AllKept : Part → Type 0
AllKept p = (lsid : Lsid) (s : Session) (why : Cause) (at : ℕ) → session p lsid ≡ Some s
    → s.state ≡ state.Aborted why at → is_kept why ≡ true

some_is : {A : Type 0} (a b : A) → Some a ≡ Some b → a ≡ b
some_is a b e = cc

-- the session has no transaction of this tag that is aborted
abbrev pub IsUnended : Part → Lsid → Tag → Type 0
IsUnended p lsid tag = (why : Cause) → Fresh p lsid tag why

pub no_session : (p : Part) (lsid : Lsid) (tag : Tag) → session p lsid ≡ None
    → IsUnended p lsid tag
no_session p lsid tag none why old at there own ended =
    let wrong : None ≡ Some old = sym none ∙ there in cc

pub other_tag : (p : Part) (lsid : Lsid) (tag : Tag) (s : Session) → session p lsid ≡ Some s
    → same_tag s.tag tag ≡ false → IsUnended p lsid tag
other_tag p lsid tag s is apart why old at there own ended =
    let same : s ≡ old = some_is s old (sym is ∙ there) in
    let wrong : true ≡ false = sym (tag_self tag)
    ∙ ap (λ (t : Tag). same_tag t tag) (sym own ∙ ap (λ (x : Session). x.tag) (sym same)) ∙ apart in
    cc

pub not_ended : (p : Part) (lsid : Lsid) (tag : Tag) (s : Session) → session p lsid ≡ Some s
    → is_aborted s.state ≡ false → IsUnended p lsid tag
not_ended p lsid tag s is not why old at there own ended =
    let same : s ≡ old = some_is s old (sym is ∙ there) in
    none_aborted s.state why at not (ap (λ (x : Session). x.state) same ∙ ended)

pub unkept : (p : Part) (lsid : Lsid) (tag : Tag) (why : Cause) → AllKept p → is_kept why ≡ false
    → Fresh p lsid tag why
unkept p lsid tag why kept not old at there own ended =
    let wrong : true ≡ false = sym (kept lsid old why at there ended) ∙ not in cc

pub unended_told : (p : Part) (lsid : Lsid) (tag : Tag) (why : Cause) → IsUnended p lsid tag
    → ToldAs p lsid tag why
unended_told p lsid tag why h = inr (inl (h why))

-- What a statement is told, and which session it leaves aborted.

abbrev pub SaidAs : Part → Statement → Said → Type 0
SaidAs p m (Refused why at) = ToldAs p m.lsid m.tag why
SaidAs p m other = Unit {0}

pub record Stated (m : Statement) (said : Said) (lsid : Lsid) (new : Session)
    (why : Cause) : Type 0 where
  pub at : ℕ
  pub lsid_is : lsid ≡ m.lsid
  pub tag_is : new.tag ≡ m.tag
  pub number_is : new.number ≡ m.number
  pub refused : said ≡ Refused why at

pub record TurnLeaves (p : Part) (m : Statement) (t : stm.Turn) : Type 0 where
  pub leaves : Leaves (Stated m t.0) p t.1
  pub told : SaidAs p m t.0

quiet : (p : Part) (m : Statement) (said : Said) → SaidAs p m said → TurnLeaves p m (said, p)
quiet p m said told = record { leaves = rests (Stated m said) p; told = told }

refuses_lives : (p : Part) (m : Statement) (why : Cause) (at : ℕ) (o : Option Open)
    → open_of p m.lsid ≡ o → LivesStand p
    → LivesStand (stm.stands (closed p m.lsid o) m (state.Aborted why at))
refuses_lives p m why at None is h =
    none_lives p (stm.stands p m (state.Aborted why at)) m.lsid
    (record { number = m.number; tag = m.tag; state = state.Aborted why at }) refl refl is h
refuses_lives p m why at (Some o) is h =
    out_lives p (stm.stands (closed p m.lsid (Some o)) m (state.Aborted why at)) m.lsid
    (record { number = m.number; tag = m.tag; state = state.Aborted why at }) refl refl h

closed_sessions : (p : Part) (lsid : Lsid) (o : Option Open)
    → (closed p lsid o).sessions ≡ p.sessions
closed_sessions p lsid None = refl
closed_sessions p lsid (Some o) = refl

refuses_leaves : (p : Part) (m : Statement) (why : Cause) (at : ℕ) → IsUnended p m.lsid m.tag
    → is_kept why ≡ true → TurnLeaves p m (stm.refuses p m why at)
refuses_leaves p m why at unended kept =
    let new : Session = record { number = m.number; tag = m.tag; state = state.Aborted why at } in
    record {
      leaves = put_leaves (Stated m (Refused why at)) p (stm.refuses p m why at).1 m.lsid new
          (ap (λ (t : Table). with_entry m.lsid new t.entries)
          (closed_sessions p m.lsid (open_of p m.lsid)))
          (λ other time is. inr (
            record {
              at = at;
              lsid_is = refl;
              tag_is = refl;
              number_is = refl;
              refused = ap (λ (w : Cause). Refused w at) (aborted_is why other at time is);
            },
            subst (λ (w : Cause). is_kept w ≡ true) (aborted_is why other at time is) kept,
          ))
          (refuses_lives p m why at (open_of p m.lsid) refl);
      told = unended_told p m.lsid m.tag why unended;
    }

-- done: the session is live
room_rises : (p : Part) (m : Statement) (o : Option Open) → LivesStand p
    → Rises lsid_cmp (closed p m.lsid o).live
room_rises p m None h = h.rises
room_rises p m (Some o) h = rises_taken_out lsid_cmp lsid_total lsid_exact m.lsid p.live h.rises

room_others : (p : Part) (m : Statement) (o : Option Open) (other : Lsid)
    → same_lsid other m.lsid ≡ false → open_of (closed p m.lsid o) other ≡ open_of p other
room_others p m None other apart = refl
room_others p m (Some o) other apart = entry_without other m.lsid apart p.live

does_leaves : (p : Part) (wall : ℕ) (m : Statement) (at : ℕ) (mine : Option Open) (reply : OpReply)
    (writes : List Write) → TurnLeaves p m (stm.does p wall m at mine reply writes)
does_leaves p wall m at (Some o) reply writes =
    let new : Session = record { number = m.number; tag = m.tag; state = state.Live } in
    let t = stm.does p wall m at (Some o) reply writes in
    record {
      leaves = put_leaves (Stated m t.0) p t.1 m.lsid new refl
          (λ why time is. none_aborted state.Live why time refl is)
          (in_lives p t.1 m.lsid new refl p.live (stm.opened wall m at (Some o) reply writes) refl
          (λ h. h.rises) (λ other apart. refl) refl);
      told = tt;
    }
does_leaves p wall m at None reply writes =
    let new : Session = record { number = m.number; tag = m.tag; state = state.Live } in
    let t = stm.does p wall m at None reply writes in
    let q = without_live p m.lsid in
    let sessions : t.1.sessions.entries ≡ with_entry m.lsid new p.sessions.entries =
    ap (λ (t : Table). with_entry m.lsid new t.entries)
    (closed_sessions p m.lsid (open_of p m.lsid)) in
    record {
      leaves = put_leaves (Stated m t.0) p t.1 m.lsid new sessions
          (λ why time is. none_aborted state.Live why time refl is)
          (in_lives p t.1 m.lsid new sessions q.live (stm.opened wall m at None reply writes) refl
          (room_rises p m (open_of p m.lsid))
          (λ other apart. room_others p m (open_of p m.lsid) other apart) refl);
      told = tt;
    }

within_leaves : (p : Part) (wall : ℕ) (m : Statement) (at : ℕ) (mine : Option Open)
    (reply : OpReply) (writes : List Write) → IsUnended p m.lsid m.tag
    → TurnLeaves p m (stm.within_volume p wall m at mine reply writes)
within_leaves p wall m at mine reply writes h =
    either (nat_lt stm.most_bytes (volume (stm.writes_with mine writes))) (TurnLeaves p m) _ _
    (refuses_leaves p m (cause.Volume (volume (stm.writes_with mine writes))) 0 h refl)
    (does_leaves p wall m at mine reply writes)

conflict_leaves : (p : Part) (wall : ℕ) (m : Statement) (at : ℕ) (mine : Option Open)
    (reply : OpReply) (writes : List Write) (c : Option (Id × By)) → IsUnended p m.lsid m.tag
    → TurnLeaves p m (stm.unless_conflict p wall m at mine reply writes c)
conflict_leaves p wall m at mine reply writes None h = within_leaves p wall m at mine reply writes h
conflict_leaves p wall m at mine reply writes (Some c) h =
    refuses_leaves p m (cause.WriteConflict c.0 c.1) 0 h refl

evaluated_leaves : (p : Part) (wall : ℕ) (m : Statement) (at : ℕ) (mine : Option Open)
    (meaning : Meaning) → IsUnended p m.lsid m.tag
    → TurnLeaves p m (stm.evaluated p wall m at mine meaning)
evaluated_leaves p wall m at mine (Err err) h = refuses_leaves p m (cause.Statement err) at h refl
evaluated_leaves p wall m at mine (Ok done) h =
    conflict_leaves p wall m at mine done.0 done.1 (conflict p.store at m.tag done.1) h

scanned_leaves : (p : Part) (wall : ℕ) (m : Statement) (at : ℕ) (mine : Option Open)
    (rows : Result (List Row) Held) → IsUnended p m.lsid m.tag
    → TurnLeaves p m (stm.scanned p wall m at mine rows)
scanned_leaves p wall m at mine (Err held) h = quiet p m (Blocked held) tt
scanned_leaves p wall m at mine (Ok rows) h =
    evaluated_leaves p wall m at mine (eval m.op rows) h

performed_leaves : (p : Part) (wall : ℕ) (m : Statement) (at : ℕ) (mine : Option Open)
    → IsUnended p m.lsid m.tag → TurnLeaves p m (stm.performed p wall m at mine)
unfolding stm.performed
performed_leaves p wall m at mine h =
    scanned_leaves p wall m at mine (scan p.store (ns_of m.op) (touched m.op) at m.tag) h

begins_leaves : (p : Part) (last wall : ℕ) (m : Statement) → IsUnended p m.lsid m.tag
    → TurnLeaves p m (stm.begins p last wall m)
begins_leaves p last wall m h = performed_leaves p wall m (stm.read_time last m) None h

refused_leaves : (p : Part) (m : Statement) (why : Cause) → ToldAs p m.lsid m.tag why
    → TurnLeaves p m (stm.refused p why)
refused_leaves p m why told = quiet p m (Refused why 0) told

older_leaves : (p : Part) (last wall : ℕ) (m : Statement) (older : Tag) (st : SessionState)
    → IsUnended p m.lsid m.tag → TurnLeaves p m (stm.beside_older p last wall m older st)
older_leaves p last wall m older state.Live h = begins_leaves p last wall m h
older_leaves p last wall m older (state.Prepared at coordinator) h =
    refused_leaves p m (cause.PreparedStands older) (unended_told p m.lsid m.tag _ h)
older_leaves p last wall m older (state.Committed at) h = begins_leaves p last wall m h
older_leaves p last wall m older state.Released h = begins_leaves p last wall m h
older_leaves p last wall m older (state.Aborted why read_at) h = begins_leaves p last wall m h

beside_leaves : (p : Part) (last wall : ℕ) (m : Statement) (s : Option Session)
    → IsUnended p m.lsid m.tag → TurnLeaves p m (stm.beside p last wall m s)
beside_leaves p last wall m None h =
    either (is_full p.sessions) (TurnLeaves p m) _ _
    (refused_leaves p m cause.TooManySessions (unended_told p m.lsid m.tag _ h))
    (begins_leaves p last wall m h)
beside_leaves p last wall m (Some s) h = older_leaves p last wall m s.tag s.state h

first_leaves : (p : Part) (last wall : ℕ) (m : Statement) (s : Option Session)
    → IsUnended p m.lsid m.tag → TurnLeaves p m (stm.first_statement p last wall m s)
first_leaves p last wall m s h =
    either (nat_eq m.boot 0) (TurnLeaves p m) _ _ (beside_leaves p last wall m s h)
    (refused_leaves p m (cause.Unavailable m.boot p.boot) (unended_told p m.lsid m.tag _ h))

goes_leaves : (p : Part) (wall : ℕ) (m : Statement) (s : Session) (o : Option Open)
    → session p m.lsid ≡ Some s → is_aborted s.state ≡ false
    → TurnLeaves p m (stm.goes_on p wall m s o)
goes_leaves p wall m s None is not = quiet p m Late tt
goes_leaves p wall m s (Some o) is not =
    let h = not_ended p m.lsid m.tag s is not in
    let why = cause.Unavailable m.boot p.boot in
    either (nat_eq m.k o.k) (TurnLeaves p m) _ _ (quiet p m (Did o.read_at o.reply o.wrote) tt)
    (either (nat_lt m.k o.k) (TurnLeaves p m) _ _ (quiet p m Late tt)
    (either (nat_eq m.boot p.boot) (TurnLeaves p m) _ _
    (performed_leaves p wall m o.read_at (Some o) h)
    (record {
      leaves = aborted_leaves (Stated m (Refused why 0)) p m.lsid s why is not refl;
      told = unended_told p m.lsid m.tag why h;
    })))

later_leaves : (p : Part) (wall : ℕ) (m : Statement) (s : Session) (st : SessionState)
    → session p m.lsid ≡ Some s → s.state ≡ st → s.tag ≡ m.tag
    → TurnLeaves p m (stm.later_statement p wall m s st)
later_leaves p wall m s state.Live is e own =
    goes_leaves p wall m s (open_of p m.lsid) is (ap is_aborted e)
later_leaves p wall m s (state.Prepared at coordinator) is e own = quiet p m Late tt
later_leaves p wall m s (state.Committed at) is e own = quiet p m Late tt
later_leaves p wall m s state.Released is e own = quiet p m Late tt
later_leaves p wall m s (state.Aborted why read_at) is e own = quiet p m (Refused why read_at)
    (inr (inr (record { old = s; at = read_at; there = is; own = own; ended = e })))

tag_leaves : (p : Part) (last wall : ℕ) (m : Statement) (s : Session) (test : Bool)
    → same_tag s.tag m.tag ≡ test → session p m.lsid ≡ Some s
    → TurnLeaves p m (if test then stm.later_statement p wall m s s.state
    else stm.first_statement p last wall m (Some s))
tag_leaves p last wall m s true e is =
    later_leaves p wall m s s.state is refl (tag_same s.tag m.tag e)
tag_leaves p last wall m s false e is =
    first_leaves p last wall m (Some s) (other_tag p m.lsid m.tag s is e)

session_leaves : (p : Part) (last wall : ℕ) (m : Statement) (s : Option Session) → AllKept p
    → session p m.lsid ≡ s → TurnLeaves p m (stm.by_session p last wall m s)
session_leaves p last wall m None kept is =
    first_leaves p last wall m None (no_session p m.lsid m.tag is)
session_leaves p last wall m (Some s) kept is =
    either (is_replaced s m.number m.tag) (TurnLeaves p m) _ _
    (refused_leaves p m (cause.Replaced s.number s.tag)
    (inr (inl (unkept p m.lsid m.tag (cause.Replaced s.number s.tag) kept refl))))
    (tag_leaves p last wall m s (same_tag s.tag m.tag) refl is)

pub statement_leaves : (p : Part) (last wall : ℕ) (m : Statement) → AllKept p
    → TurnLeaves p m (stm.statement p last wall m)
unfolding stm.statement
statement_leaves p last wall m kept = session_leaves p last wall m (session p m.lsid) kept refl
