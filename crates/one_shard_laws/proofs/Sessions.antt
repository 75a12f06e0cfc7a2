-- Sessions go on after each rule of a participant.
use Rattle.std.proofs.Common.{◌≡◌, ◌≤◌, ◌<ℤ◌, ◌≤ℤ◌, ◌||◌, ◌&&◌, ◌-◌, ℕ, ℤ, Bool, true, false, not}
use Rattle.std.proofs.Common.{List, [], ◌∷◌, Option, Some, None, IfSome, Result, Ok, Err, refl, ap}
use Rattle.std.proofs.Common.{subst, ◌∙◌, sym, arith, int_lt, nat_eq, nat_lt, if◌then◌else◌}
use Rattle.txn_types.specs.Clock.{ticked}
use Rattle.txn_types.specs.Order.{same_lsid, same_tag}
use Rattle.txn_types.specs.declared.cause.By.{By}
use Rattle.txn_types.specs.declared.cause.Cause.{Cause}
use Rattle.txn_types.specs.declared.cause.Cause.TheVariants as cause
use Rattle.txn_types.specs.declared.decision.Told.{Told}
use Rattle.txn_types.specs.declared.decision.Told.TheVariants as told
use Rattle.txn_types.specs.declared.id.Id.{Id}
use Rattle.txn_types.specs.declared.message.Abort.{Abort}
use Rattle.txn_types.specs.declared.message.Commit.{Commit}
use Rattle.txn_types.specs.declared.message.Msg.TheVariants as msg
use Rattle.txn_types.specs.declared.message.Recover.{Recover}
use Rattle.txn_types.specs.declared.message.Statement.{Statement}
use Rattle.txn_types.specs.declared.names.Tag.{Tag}
use Rattle.txn_types.specs.declared.node.Lsid.{Lsid}
use Rattle.txn_types.specs.declared.operation.OpReply.{OpReply}
use Rattle.txn_types.specs.declared.write.Write.{Write}
use Rattle.txn_semantics.specs.Meaning.{Meaning, eval, ns_of}
use Rattle.txn_semantics.specs.Rows.{Row}
use Rattle.txn_semantics.specs.Touched.{touched}
use Rattle.journal_rec.specs.Volume.{volume}
use Rattle.session_table.specs.Sessions.{Table, session_of, with_session, with_state, is_full}
use Rattle.session_table.specs.declared.session.Session.{Session}
use Rattle.session_table.specs.declared.session.SessionState.{SessionState}
use Rattle.session_table.specs.declared.session.SessionState.TheVariants as state
use Rattle.version_store.specs.Versions.{scan, conflict}
use Rattle.version_store.specs.declared.version.Held.{Held}
use Rattle.participant.specs.declared.said.Open.{Open}
use Rattle.participant.specs.Part.{Part, session, open_of, closed, without_live, ended, aborted}
use Rattle.participant.specs.Part.{ends_live, end_live, is_replaced}
use Rattle.participant.specs.Statement as rules
use Rattle.participant.specs.Statement.{Turn, statement}
use Rattle.participant.specs.Commit as co
use Rattle.participant.specs.Commit.{Committing, commit}
use Rattle.participant.specs.Abort as ab
use Rattle.participant.specs.Abort.{abort}
use Rattle.participant.specs.Recover as re
use Rattle.participant.specs.Recover.{recover}
use Rattle.participant.specs.Memory as me
use Rattle.participant.specs.Memory.{ended_for_memory}
use Rattle.participant.specs.Expiry.{lifetime, expire_all, expire}
use Rattle.participant.proofs.Cases.{either}
use Rattle.participant.proofs.Ends.{entry_elsewhere}
use Rattle.participant.proofs.Following.{either_is}
use Rattle.participant.proofs.Moving.{entry_here}
use Rattle.participant.proofs.Tags.{lsid_same, tag_same}
use Rattle.txn_types.specs.Letters.{Named}
use Rattle.one_shard_laws.specs.Sessions.{AtLeast, name_of, SessionsNamed, TablesGo, GoesOn, IsOnce}
use Rattle.one_shard_laws.specs.Alone.{RecHeld, AsksFor, IsMeant, SaidAtLeast}
use Rattle.part_laws.proofs.Turns.{same_boot, one_some}

pub least_same : (n : ℤ) → n ≤ℤ n
least_same n = grind arith

pub least_then : (a b c : ℤ) → a ≤ℤ b → b ≤ℤ c → a ≤ℤ c
least_then a b c h k = grind (arith, h, k)

same_time : (n : ℕ) → n ≤ n
same_time n = omega arith

pub below_above : (a b c : ℤ) → a <ℤ b → b ≤ℤ c → a ≤ℤ c
below_above a b c h k = grind (arith, h, k)

not_lower : (a b : ℤ) → int_lt a b ≡ false → b ≤ℤ a
not_lower a b h = grind (arith, h)

pub same_tables : (P : Named → Type 0) (t : Table) → TablesGo P t t
same_tables P t =
    record { numbers = λ lsid s there. (s, there, least_same s.number); named = λ h. h }

pub both_tables : (P : Named → Type 0) (t u v : Table) → TablesGo P t u → TablesGo P u v
    → TablesGo P t v
both_tables P t u v a b =
    record {
      numbers = λ lsid s there.
          let first = a.numbers lsid s there in
          let next = b.numbers lsid first.0 first.1 in
          (next.0, next.1, least_then s.number first.0.number next.0.number first.2 next.2);
      named = λ h. b.named (a.named h);
    }

pub same_goes : (P : Named → Type 0) (p : Part) → GoesOn P p p
same_goes P p = record { shard = refl; boot = refl; sessions = same_tables P p.sessions }

pub both_go : (P : Named → Type 0) (p q r : Part) → GoesOn P p q → GoesOn P q r → GoesOn P p r
both_go P p q r a b = record {
  shard = b.shard ∙ a.shard;
  boot = b.boot ∙ a.boot;
  sessions = both_tables P p.sessions q.sessions r.sessions a.sessions b.sessions;
}

-- One session changes.

module _ (P : Named → Type 0) (t u : Table) (lsid : Lsid) (new : Session)
    (is : u ≡ with_session t lsid new)
    (fits : (s : Session) → session_of t lsid ≡ Some s → s.number ≤ℤ new.number)
    (named : SessionsNamed P t → P (name_of lsid new)) where
  here : session_of u lsid ≡ Some new
  here = ap (λ (x : Table). session_of x lsid) is ∙ entry_here lsid new t.entries

  elsewhere : (other : Lsid) → same_lsid other lsid ≡ false
      → session_of u other ≡ session_of t other
  elsewhere other apart = ap (λ (x : Table). session_of x other) is
      ∙ entry_elsewhere other lsid apart new t.entries

  number_case : (other : Lsid) (s : Session) (b : Bool) → same_lsid other lsid ≡ b
      → session_of t other ≡ Some s → AtLeast u other s.number
  number_case other s true same there =
      let at : other ≡ lsid = lsid_same other lsid same in
      (new, ap (session_of u) at ∙ here, fits s (sym (ap (session_of t) at) ∙ there))
  number_case other s false apart there = (s, elsewhere other apart ∙ there, least_same s.number)

  named_case : SessionsNamed P t → (other : Lsid) (s : Session) (b : Bool)
      → same_lsid other lsid ≡ b → session_of u other ≡ Some s → P (name_of other s)
  named_case all other s true same there =
      let at : other ≡ lsid = lsid_same other lsid same in
      let one : s ≡ new = one_some (session_of u other) s new there (ap (session_of u) at ∙ here) in
      subst (λ (l : Lsid). P (name_of l s)) (sym at)
      (subst (λ (x : Session). P (name_of lsid x)) (sym one) (named all))
  named_case all other s false apart there = all other s (sym (elsewhere other apart) ∙ there)

  pub put_table : TablesGo P t u
  put_table =
      record {
        numbers = λ other s there. number_case other s (same_lsid other lsid) refl there;
        named = λ all other s there. named_case all other s (same_lsid other lsid) refl there;
      }

put_goes : (P : Named → Type 0) (p q : Part) (lsid : Lsid) (new : Session) → q.shard ≡ p.shard
    → q.boot ≡ p.boot → q.sessions ≡ with_session p.sessions lsid new
    → ((s : Session) → session p lsid ≡ Some s → s.number ≤ℤ new.number)
    → (SessionsNamed P p.sessions → P (name_of lsid new)) → GoesOn P p q
put_goes P p q lsid new shard boot is fits named = record {
  shard = shard;
  boot = boot;
  sessions = put_table P p.sessions q.sessions lsid new is fits named;
}

-- its transaction ends, or is in another state
pub state_goes : (P : Named → Type 0) (p q : Part) (lsid : Lsid) (s : Session) (st : SessionState)
    → session p lsid ≡ Some s → q.shard ≡ p.shard → q.boot ≡ p.boot
    → q.sessions ≡ with_state p.sessions lsid s st → GoesOn P p q
state_goes P p q lsid s st there shard boot is =
    put_goes P p q lsid (record { number = s.number; tag = s.tag; state = st }) shard boot is
    (λ t found. subst (λ (x : Session). x.number ≤ℤ s.number)
    (one_some (session p lsid) s t there found) (least_same s.number))
    (λ all. all lsid s there)

pub abort_goes : (P : Named → Type 0) (p : Part) (lsid : Lsid) (s : Session) (why : Cause)
    → session p lsid ≡ Some s → GoesOn P p (aborted p lsid s why)
abort_goes P p lsid s why is =
    state_goes P p (aborted p lsid s why) lsid s (state.Aborted why 0) is refl refl refl

-- Statements.

module _ (P : Named → Type 0) (once : IsOnce P) (p : Part) (all : SessionsNamed P p.sessions)
    (m : Statement)
    (named : P (record { tag = m.tag; lsid = m.lsid; number = m.number })) where
  abbrev Q : Turn → Type 0
  Q turn = GoesOn P p turn.1 × SaidAtLeast m turn.0 turn.1

  -- what is refused with a cause that is no meaning
  other_cause : (why : Cause) → (IsMeant why → ⊥) → Q (rules.refused p why)
  other_cause why other = (same_goes P p, λ h. absurd (other h))

  closed_same : (found : Option Open) → ((closed p m.lsid found).boot ≡ p.boot)
      × ((closed p m.lsid found).sessions ≡ p.sessions) × ((closed p m.lsid found).shard ≡ p.shard)
  closed_same None = (refl, refl, refl)
  closed_same (Some o) = (refl, refl, refl)

  room_same : (mine : Option Open) → ((rules.made_room p m mine).boot ≡ p.boot)
      × ((rules.made_room p m mine).sessions ≡ p.sessions)
      × ((rules.made_room p m mine).shard ≡ p.shard)
  room_same None = closed_same (open_of p m.lsid)
  room_same (Some o) = (refl, refl, refl)

  abbrev now : SessionState → Session
  now st = record { number = m.number; tag = m.tag; state = st }

  module _ (fits : (s : Session) → session p m.lsid ≡ Some s → s.number ≤ℤ m.number) where
    stands_goes : (q : Part) (st : SessionState) → q.shard ≡ p.shard
        → q.boot ≡ p.boot → q.sessions ≡ with_session p.sessions m.lsid (now st)
        → GoesOn P p q × AtLeast q.sessions m.lsid m.number
    stands_goes q st shard boot is = (
      put_goes P p q m.lsid (now st) shard boot is fits (λ any. named),
      (
        now st,
        ap (λ (t : Table). session_of t m.lsid) is ∙ entry_here m.lsid (now st) p.sessions.entries,
        least_same m.number,
      ),
    )

    refuses_goes : (why : Cause) (at : ℕ) → Q (rules.refuses p m why at)
    refuses_goes why at =
        let c = closed_same (open_of p m.lsid) in
        let h = stands_goes (rules.stands (without_live p m.lsid) m
        (state.Aborted why at)) (state.Aborted why at) c.2 c.0
        (ap (λ (t : Table). with_session t m.lsid (now (state.Aborted why at))) c.1) in
        (h.0, λ meant. h.1)

    does_goes : (wall at : ℕ) (mine : Option Open) (reply : OpReply) (writes : List Write)
        → Q (rules.does p wall m at mine reply writes)
    does_goes wall at mine reply writes =
        let c = room_same mine in
        stands_goes (rules.with_open (rules.made_room p m mine) m
        (rules.opened wall m at mine reply writes) writes) state.Live c.2 c.0
        (ap (λ (t : Table). with_session t m.lsid (now state.Live)) c.1)

    clear_goes : (wall at : ℕ) (mine : Option Open) (reply : OpReply) (writes : List Write)
        (c : Option (Id × By)) → Q (rules.unless_conflict p wall m at mine reply writes c)
    clear_goes wall at mine reply writes None =
        either (nat_lt rules.most_bytes (volume (rules.writes_with mine writes))) Q _ _
        (refuses_goes (cause.Volume (volume (rules.writes_with mine writes))) 0)
        (does_goes wall at mine reply writes)
    clear_goes wall at mine reply writes (Some c) = refuses_goes (cause.WriteConflict c.0 c.1) 0

    meant_goes : (wall at : ℕ) (mine : Option Open) (meaning : Meaning)
        → Q (rules.evaluated p wall m at mine meaning)
    meant_goes wall at mine (Err err) = refuses_goes (cause.Statement err) at
    meant_goes wall at mine (Ok done) =
        clear_goes wall at mine done.0 done.1 (conflict p.store at m.tag done.1)

    scanned_goes : (wall at : ℕ) (mine : Option Open) (found : Result (List Row) Held)
        → Q (rules.scanned p wall m at mine found)
    scanned_goes wall at mine (Err held) = (same_goes P p, tt)
    scanned_goes wall at mine (Ok rows) = meant_goes wall at mine (eval m.op rows)

    performed_goes : (wall at : ℕ) (mine : Option Open) → Q (rules.performed p wall m at mine)
    unfolding rules.performed
    performed_goes wall at mine =
        scanned_goes wall at mine (scan p.store (ns_of m.op) (touched m.op) at m.tag)

    beside_goes : (last wall : ℕ) (older : Tag) (st : SessionState)
        → Q (rules.beside_older p last wall m older st)
    beside_goes last wall older state.Live = performed_goes wall (rules.read_time last m) None
    beside_goes last wall older (state.Prepared at coordinator) =
        other_cause (cause.PreparedStands older) (λ h. h)
    beside_goes last wall older (state.Committed at) =
        performed_goes wall (rules.read_time last m) None
    beside_goes last wall older state.Released = performed_goes wall (rules.read_time last m) None
    beside_goes last wall older (state.Aborted why read_at) =
        performed_goes wall (rules.read_time last m) None

    first_goes : (last wall : ℕ) (s : Session) → Q (rules.first_statement p last wall m (Some s))
    first_goes last wall s = either (nat_eq m.boot 0) Q _ _ (beside_goes last wall s.tag s.state)
        (other_cause (cause.Unavailable m.boot p.boot) (λ h. h))

    none_goes : (last wall : ℕ) → Q (rules.first_statement p last wall m None)
    none_goes last wall =
        either (nat_eq m.boot 0) Q _ _
        (either (is_full p.sessions) Q _ _ (other_cause cause.TooManySessions (λ h. h))
        (performed_goes wall (rules.read_time last m) None))
        (other_cause (cause.Unavailable m.boot p.boot) (λ h. h))

    -- the session's own transaction
    module _ (s : Session) (is : session p m.lsid ≡ Some s)
        (same : same_tag s.tag m.tag ≡ true) where
      again : AtLeast p.sessions m.lsid m.number
      again =
          let number : s.number ≡ m.number =
          (once (name_of m.lsid s) (record { tag = m.tag; lsid = m.lsid; number = m.number })
          (all m.lsid s is) named (tag_same s.tag m.tag same)).1 in
          (s, is, subst (λ (n : ℤ). n ≤ℤ s.number) number (least_same s.number))

      on_goes : (wall : ℕ) (o : Option Open) → Q (rules.goes_on p wall m s o)
      on_goes wall None = (same_goes P p, tt)
      on_goes wall (Some o) =
          either (nat_eq m.k o.k) Q _ _ (same_goes P p, again)
          (either (nat_lt m.k o.k) Q _ _ (same_goes P p, tt)
          (either (nat_eq m.boot p.boot) Q _ _ (performed_goes wall o.read_at (Some o))
          (abort_goes P p m.lsid s (cause.Unavailable m.boot p.boot) is, λ h. absurd h)))

      later_goes : (wall : ℕ) (st : SessionState) → Q (rules.later_statement p wall m s st)
      later_goes wall state.Live = on_goes wall (open_of p m.lsid)
      later_goes wall (state.Prepared at coordinator) = (same_goes P p, tt)
      later_goes wall (state.Committed at) = (same_goes P p, tt)
      later_goes wall state.Released = (same_goes P p, tt)
      later_goes wall (state.Aborted why read_at) = (same_goes P p, λ meant. again)

  or_left : (a b : Bool) → (a || b) ≡ false → a ≡ false
  or_left true b h = h
  or_left false b h = refl

  not_replaced : (s : Session) → session p m.lsid ≡ Some s → is_replaced s m.number m.tag ≡ false
      → (t : Session) → session p m.lsid ≡ Some t → t.number ≤ℤ m.number
  not_replaced s is free t found =
      subst (λ (x : Session). x.number ≤ℤ m.number) (one_some (session p m.lsid) s t is found)
      (not_lower m.number s.number (or_left (int_lt m.number s.number)
      (not (int_lt s.number m.number) && not (same_tag s.tag m.tag)) free))

  found_goes : (last wall : ℕ) (o : Option Session) → session p m.lsid ≡ o
      → Q (rules.by_session p last wall m o)
  found_goes last wall None is =
      none_goes (λ s there. let wrong : None ≡ Some s = sym is ∙ there in cc) last wall
  found_goes last wall (Some s) is =
      either_is (is_replaced s m.number m.tag) Q _ _
      (λ yes. other_cause (cause.Replaced s.number s.tag) (λ h. h))
      (λ free. either_is (same_tag s.tag m.tag) Q _ _ (λ same. later_goes (not_replaced s is free) s
      is same wall s.state) (λ apart. first_goes (not_replaced s is free) last wall s))

  pub statement_goes : (last wall : ℕ) → Q (statement p last wall m)
  unfolding statement
  statement_goes last wall = found_goes last wall (session p m.lsid) refl

-- Commits.

module _ (P : Named → Type 0) (p : Part) (all : SessionsNamed P p.sessions) (last wall : ℕ)
    (m : Commit) where
  abbrev C : Committing → Type 0
  C c = GoesOn P p c.part × IfSome c.rec (RecHeld P p c.part c.last)
      × IfSome c.rec (AsksFor (msg.Commit m) c.part.boot)

  tells_goes : (t : Told) → C (co.tells p last t)
  tells_goes t = (same_goes P p, tt, tt)

  module _ (s : Session) (is : session p m.lsid ≡ Some s) (same : m.tag ≡ s.tag) where
    fails_goes : (why : Cause) → C (co.fails p last m s why)
    fails_goes why = (abort_goes P p m.lsid s why is, tt, tt)

    releases_goes : C (co.releases p last m s)
    releases_goes = (
      state_goes P p (ended p m.lsid s state.Released) m.lsid s state.Released is refl refl refl,
      tt,
      tt,
    )

    commits_goes : m.boot ≡ p.boot → (o : Open) (at : ℕ) → C (co.commits p m s o at)
    commits_goes boot o at =
        let new : Session = record {
          number = s.number;
          tag = s.tag;
          state = state.Committed at;
        } in (
          state_goes P p (co.commits p m s o at).part m.lsid s (state.Committed at) is
              refl refl refl,
          (
            all m.lsid s is,
            (s, is, refl),
            (new, entry_here m.lsid new p.sessions.entries, least_same s.number),
            same_time at,
          ),
          (m, refl, same, boot),
        )

    by_goes : m.boot ≡ p.boot → (o : Open) (at : Option ℕ) → C (co.commits_by p last m s o at)
    by_goes boot o None = fails_goes (cause.ClockEnd last)
    by_goes boot o (Some at) = commits_goes boot o at

    writes_goes : m.boot ≡ p.boot → (o : Open) (writes : List Write)
        → C (co.commits_writes p last wall m s o writes)
    writes_goes boot o [] = releases_goes
    writes_goes boot o (write ∷ writes) = by_goes boot o (ticked last wall)

    open_goes : m.boot ≡ p.boot → (o : Option Open) → C (co.commits_open p last wall m s o)
    open_goes boot None = releases_goes
    open_goes boot (Some o) = writes_goes boot o o.writes

    own_goes : (st : SessionState) → C (co.commits_own p last wall m s st)
    own_goes state.Live =
        either_is (nat_eq m.boot p.boot) C _ _
        (λ now. open_goes (same_boot m.boot p.boot now) (open_of p m.lsid))
        (λ other. fails_goes (cause.Unavailable m.boot p.boot))
    own_goes (state.Prepared at coordinator) = (same_goes P p, tt, tt)
    own_goes (state.Committed at) = tells_goes (told.Committed at)
    own_goes state.Released = tells_goes told.Released
    own_goes (state.Aborted why read_at) = tells_goes (told.Aborted why)

  committing_goes : (o : Option Session) → session p m.lsid ≡ o
      → C (co.commits_session p last wall m o)
  committing_goes None is = tells_goes (told.Aborted (cause.Unavailable m.boot p.boot))
  committing_goes (Some s) is =
      either (int_lt m.number s.number) C _ _ (tells_goes (told.TooOld s.number))
      (either_is (same_tag s.tag m.tag) C _ _
      (λ same. own_goes s is (sym (tag_same s.tag m.tag same)) s.state)
      (λ apart. tells_goes (told.Aborted (cause.Unavailable m.boot p.boot))))

  pub commit_goes : C (commit p last wall m)
  unfolding commit
  commit_goes = committing_goes (session p m.lsid) refl

-- What ends live transactions.

module _ (P : Named → Type 0) (p : Part) where
  aborts_own_goes : (m : Abort) (s : Session) (st : SessionState) → session p m.lsid ≡ Some s
      → GoesOn P p (ab.aborts_own p m s st)
  aborts_own_goes m s state.Live is = abort_goes P p m.lsid s (cause.ClientAbort m.why) is
  aborts_own_goes m s (state.Prepared at coordinator) is = same_goes P p
  aborts_own_goes m s (state.Committed at) is = same_goes P p
  aborts_own_goes m s state.Released is = same_goes P p
  aborts_own_goes m s (state.Aborted why read_at) is = same_goes P p

  aborting_goes : (m : Abort) (o : Option Session) → session p m.lsid ≡ o
      → GoesOn P p (ab.aborts_session p m o)
  aborting_goes m None is = same_goes P p
  aborting_goes m (Some s) is = either (same_tag s.tag m.tag) (GoesOn P p) _ _ (aborts_own_goes m s
      s.state is) (same_goes P p)

  pub client_abort_goes : (m : Abort) → GoesOn P p (abort p m)
  unfolding abort
  client_abort_goes m = aborting_goes m (session p m.lsid) refl

  abbrev R : re.Telling → Type 0
  R t = GoesOn P p t.1

  recovers_own_goes : (m : Recover) (s : Session) (st : SessionState) → session p m.lsid ≡ Some s
      → R (re.recovers_own p m s st)
  recovers_own_goes m s state.Live is = abort_goes P p m.lsid s (cause.ClientAbort 3) is
  recovers_own_goes m s (state.Prepared at coordinator) is = same_goes P p
  recovers_own_goes m s (state.Committed at) is = same_goes P p
  recovers_own_goes m s state.Released is = same_goes P p
  recovers_own_goes m s (state.Aborted why read_at) is = same_goes P p

  recovers_none_goes : (m : Recover) → R (re.recovers_none p m)
  recovers_none_goes m = either (nat_eq m.boot p.boot) R _ _ (same_goes P p) (same_goes P p)

  recovering_goes : (m : Recover) (o : Option Session) → session p m.lsid ≡ o
      → R (re.recovers_session p m o)
  recovering_goes m None is = recovers_none_goes m
  recovering_goes m (Some s) is =
      either (int_lt m.number s.number) R _ _ (same_goes P p)
      (either (same_tag s.tag m.tag) R _ _ (recovers_own_goes m s s.state is)
      (recovers_none_goes m))

  pub recover_goes : (m : Recover) → GoesOn P p (recover p m).1
  unfolding recover
  recover_goes m = recovering_goes m (session p m.lsid) refl

  ends_own_goes : (lsid : Lsid) (s : Session) (st : SessionState) → session p lsid ≡ Some s
      → GoesOn P p (me.ends_own p lsid s st)
  ends_own_goes lsid s state.Live is = abort_goes P p lsid s cause.Memory is
  ends_own_goes lsid s (state.Prepared at coordinator) is = same_goes P p
  ends_own_goes lsid s (state.Committed at) is = same_goes P p
  ends_own_goes lsid s state.Released is = same_goes P p
  ends_own_goes lsid s (state.Aborted why read_at) is = same_goes P p

  ending_goes : (lsid : Lsid) (tag : Tag) (o : Option Session) → session p lsid ≡ o
      → GoesOn P p (me.ends_session p lsid tag o)
  ending_goes lsid tag None is = same_goes P p
  ending_goes lsid tag (Some s) is =
      either (same_tag s.tag tag) (GoesOn P p) _ _ (ends_own_goes lsid s s.state is) (same_goes P p)

  pub memory_goes : (lsid : Lsid) (tag : Tag) → GoesOn P p (ended_for_memory p lsid tag)
  memory_goes lsid tag = ending_goes lsid tag (session p lsid) refl

  live_goes : (lsid : Lsid) (why : Cause) (o : Option Session) → session p lsid ≡ o
      → GoesOn P p (ends_live p lsid why o)
  live_goes lsid why None is = same_goes P p
  live_goes lsid why (Some s) is = abort_goes P p lsid s why is

expire_all_go : (P : Named → Type 0) (wall : ℕ) (rest : List (Lsid × Open)) (p : Part)
    → GoesOn P p (expire_all wall rest p)
expire_all_go P wall [] p = same_goes P p
expire_all_go P wall (entry ∷ rest) p =
    let why = cause.Expired entry.1.begun wall in
    let q : Part = (if nat_lt lifetime (wall - entry.1.begun) then end_live p entry.0 why else p) in
    both_go P p q (expire_all wall rest q)
    (either (nat_lt lifetime (wall - entry.1.begun)) (GoesOn P p) _ _
    (live_goes P p entry.0 why (session p entry.0) refl) (same_goes P p))
    (expire_all_go P wall rest q)

pub expire_goes : (P : Named → Type 0) (p : Part) (wall : ℕ) → GoesOn P p (expire p wall)
unfolding expire
expire_goes P p wall = expire_all_go P wall p.live p
