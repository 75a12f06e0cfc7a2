-- What a shard's part has of transactions that ended by a client's or a router's wish: each was
-- ended so before, or is by the message at hand.
use Rattle.std.proofs.Common.{◌≡◌, ◌-◌, ◌∙◌, ℕ, Bool, true, false, List, [], ◌∷◌, Option, Some}
use Rattle.std.proofs.Common.{None, IfSome, Result, Ok, Err, refl, sym, ap, subst, nat_eq, nat_lt}
use Rattle.std.proofs.Common.{nat_le, int_lt, if◌then◌else◌, arith}
use Rattle.txn_types.specs.BySession.{with_entry, entry_of}
use Rattle.txn_types.specs.Clock.{ticked}
use Rattle.txn_types.specs.Order.{same_tag, same_lsid}
use Rattle.txn_types.specs.declared.cause.By.{By}
use Rattle.txn_types.specs.declared.cause.Cause.{Cause}
use Rattle.txn_types.specs.declared.cause.Cause.TheVariants as cause
use Rattle.txn_types.specs.declared.decision.Decision.{Decision}
use Rattle.txn_types.specs.declared.decision.Decision.TheVariants as decision
use Rattle.txn_types.specs.declared.decision.Told.{Told}
use Rattle.txn_types.specs.declared.decision.Told.TheVariants as told
use Rattle.txn_types.specs.declared.id.Id.{Id}
use Rattle.txn_types.specs.declared.message.Abort.{Abort}
use Rattle.txn_types.specs.declared.message.Commit.{Commit}
use Rattle.txn_types.specs.declared.message.Decide.{Decide}
use Rattle.txn_types.specs.declared.message.Prepare.{Prepare}
use Rattle.txn_types.specs.declared.message.Recover.{Recover}
use Rattle.txn_types.specs.declared.message.Statement.{Statement}
use Rattle.txn_types.specs.declared.names.Tag.{Tag}
use Rattle.txn_types.specs.declared.node.Lsid.{Lsid}
use Rattle.txn_types.specs.declared.operation.OpReply.{OpReply}
use Rattle.txn_types.specs.declared.write.Write.{Write}
use Rattle.txn_semantics.specs.Meaning.{Meaning, eval, ns_of}
use Rattle.txn_semantics.specs.Rows.{Row}
use Rattle.txn_semantics.specs.Touched.{touched}
use Rattle.journal_rec.specs.Volume.{volume}
use Rattle.session_table.specs.Sessions.{is_full, state_behind}
use Rattle.session_table.specs.declared.session.Session.{Session}
use Rattle.session_table.specs.declared.session.SessionState.{SessionState}
use Rattle.session_table.specs.declared.session.SessionState.TheVariants as state
use Rattle.version_store.specs.Versions.{scan, conflict}
use Rattle.version_store.specs.declared.version.Held.{Held}
use Rattle.participant.specs.declared.said.Open.{Open}
use Rattle.participant.specs.declared.said.Said.{Said}
use Rattle.participant.specs.declared.said.Said.TheVariants.{Did, Blocked, Refused, Late}
use Rattle.participant.specs.Part.{Part, session, open_of, closed, without_live, aborted, ends_live}
use Rattle.participant.specs.Part.{is_replaced}
use Rattle.participant.specs.Statement as stm
use Rattle.participant.specs.Commit as co
use Rattle.participant.specs.Prepare as pr
use Rattle.participant.specs.Decide as de
use Rattle.participant.specs.Abort as ab
use Rattle.participant.specs.Recover as rc
use Rattle.participant.specs.Expiry.{expire, expire_all, lifetime}
use Rattle.participant.specs.Memory.{ended_for_memory, ends_session, ends_own}
use Rattle.participant.proofs.Cases.{either}
use Rattle.participant.proofs.Ends.{entry_elsewhere}
use Rattle.participant.proofs.Moving.{entry_here}
use Rattle.participant.proofs.Tags.{lsid_same, tag_same}

-- `F` is said of the reason, where a transaction was ended by a client's or a router's wish.

abbrev pub CauseOk : (ℕ → Type 0) → Cause → Type 0
CauseOk F (cause.ClientAbort why) = F why
CauseOk F other = Unit {0}

abbrev pub EndOk : (ℕ → Type 0) → SessionState → Type 0
EndOk F (state.Aborted why read_at) = CauseOk F why
EndOk F other = Unit {0}

abbrev pub ToldOk : (ℕ → Type 0) → Told → Type 0
ToldOk F (told.Aborted why) = CauseOk F why
ToldOk F other = Unit {0}

abbrev pub SaidOk : (ℕ → Type 0) → Said → Type 0
SaidOk F (Refused why read_at) = CauseOk F why
SaidOk F other = Unit {0}

abbrev pub ResultOk : {A : Type 0} → (ℕ → Type 0) → Result A Cause → Type 0
ResultOk F (Ok a) = Unit {0}
ResultOk F (Err why) = CauseOk F why

-- each session's transaction
abbrev pub PartOk : (Lsid → Tag → ℕ → Type 0) → Part → Type 0
PartOk G p = (lsid : Lsid) (s : Session) → session p lsid ≡ Some s → EndOk (G lsid s.tag) s.state

some_same : (s t : Session) → Some s ≡ Some t → s ≡ t
some_same s t e = grind arith

module _ (G : Lsid → Tag → ℕ → Type 0) where
  alike : (p q : Part) → q.sessions ≡ p.sessions → PartOk G p → PartOk G q
  alike p q e h lsid s there = h lsid s (ap (λ (x : _). entry_of lsid x.entries) (sym e) ∙ there)

  -- one session is put
  puts : (p q : Part) (lsid : Lsid) (new : Session)
      → q.sessions.entries ≡ with_entry lsid new p.sessions.entries
      → EndOk (G lsid new.tag) new.state → PartOk G p → PartOk G q
  puts p q lsid new e this h other s there = by (same_lsid other lsid) refl
    where
      by : (test : Bool) → same_lsid other lsid ≡ test → EndOk (G other s.tag) s.state
      by true is =
          let at : other ≡ lsid = lsid_same other lsid is in
          let now : session q lsid ≡ Some new = ap (entry_of lsid) e
          ∙ entry_here lsid new p.sessions.entries in
          let same : new ≡ s = some_same new s
          (sym now ∙ (ap (λ (l : Lsid). session q l) (sym at) ∙ there)) in
          subst (λ (l : Lsid). EndOk (G l s.tag) s.state) (sym at)
          (subst (λ (x : Session). EndOk (G lsid x.tag) x.state) same this)
      by false is = h other s (sym (entry_elsewhere other lsid is new p.sessions.entries)
          ∙ (ap (entry_of other) (sym e) ∙ there))

  pub aborted_ok : (p : Part) (lsid : Lsid) (s : Session) (why : Cause)
      → CauseOk (G lsid s.tag) why → PartOk G p → PartOk G (aborted p lsid s why)
  aborted_ok p lsid s why this h = puts p (aborted p lsid s why) lsid
      (record { number = s.number; tag = s.tag; state = state.Aborted why 0 }) refl this h

  closed_same : (p : Part) (lsid : Lsid) (o : Option Open)
      → (closed p lsid o).sessions ≡ p.sessions
  closed_same p lsid None = refl
  closed_same p lsid (Some o) = refl

  -- Statements.

  pub record TurnOk (m : Statement) (t : stm.Turn) : Type 0 where
    pub part : PartOk G t.1
    pub said : SaidOk (G m.lsid m.tag) t.0

  stays : (p : Part) (m : Statement) (said : Said) → SaidOk (G m.lsid m.tag) said → PartOk G p
      → TurnOk m (said, p)
  stays p m said this h = record { part = h; said = this }

  refuses_ok : (p : Part) (m : Statement) (why : Cause) (at : ℕ) → CauseOk (G m.lsid m.tag) why
      → PartOk G p → TurnOk m (stm.refuses p m why at)
  refuses_ok p m why at this h = record {
    part = puts (without_live p m.lsid) (stm.refuses p m why at).1 m.lsid
        (record { number = m.number; tag = m.tag; state = state.Aborted why at }) refl this
        (alike p (without_live p m.lsid) (closed_same p m.lsid (open_of p m.lsid)) h);
    said = this;
  }

  room_ok : (p : Part) (m : Statement) (mine : Option Open) → PartOk G p
      → PartOk G (stm.made_room p m mine)
  room_ok p m None h = alike p (without_live p m.lsid)
      (closed_same p m.lsid (open_of p m.lsid)) h
  room_ok p m (Some o) h = h

  does_ok : (p : Part) (wall : ℕ) (m : Statement) (at : ℕ) (mine : Option Open) (reply : OpReply)
      (writes : List Write) → PartOk G p → TurnOk m (stm.does p wall m at mine reply writes)
  does_ok p wall m at mine reply writes h = record {
    part = puts (stm.made_room p m mine) (stm.does p wall m at mine reply writes).1 m.lsid
        (record { number = m.number; tag = m.tag; state = state.Live }) refl tt
        (room_ok p m mine h);
    said = tt;
  }

  within_ok : (p : Part) (wall : ℕ) (m : Statement) (at : ℕ) (mine : Option Open) (reply : OpReply)
      (writes : List Write) → PartOk G p
      → TurnOk m (stm.within_volume p wall m at mine reply writes)
  within_ok p wall m at mine reply writes h =
      either (nat_lt stm.most_bytes (volume (stm.writes_with mine writes))) (TurnOk m) _ _
      (refuses_ok p m (cause.Volume (volume (stm.writes_with mine writes))) 0 tt h)
      (does_ok p wall m at mine reply writes h)

  conflict_ok : (p : Part) (wall : ℕ) (m : Statement) (at : ℕ) (mine : Option Open)
      (reply : OpReply) (writes : List Write) (c : Option (Id × By)) → PartOk G p
      → TurnOk m (stm.unless_conflict p wall m at mine reply writes c)
  conflict_ok p wall m at mine reply writes None h = within_ok p wall m at mine reply writes h
  conflict_ok p wall m at mine reply writes (Some c) h =
      refuses_ok p m (cause.WriteConflict c.0 c.1) 0 tt h

  evaluated_ok : (p : Part) (wall : ℕ) (m : Statement) (at : ℕ) (mine : Option Open)
      (meaning : Meaning) → PartOk G p → TurnOk m (stm.evaluated p wall m at mine meaning)
  evaluated_ok p wall m at mine (Err err) h = refuses_ok p m (cause.Statement err) at tt h
  evaluated_ok p wall m at mine (Ok done) h =
      conflict_ok p wall m at mine done.0 done.1 (conflict p.store at m.tag done.1) h

  scanned_ok : (p : Part) (wall : ℕ) (m : Statement) (at : ℕ) (mine : Option Open)
      (rows : Result (List Row) Held) → PartOk G p → TurnOk m (stm.scanned p wall m at mine rows)
  scanned_ok p wall m at mine (Err held) h = stays p m (Blocked held) tt h
  scanned_ok p wall m at mine (Ok rows) h = evaluated_ok p wall m at mine (eval m.op rows) h

  performed_ok : (p : Part) (wall : ℕ) (m : Statement) (at : ℕ) (mine : Option Open) → PartOk G p
      → TurnOk m (stm.performed p wall m at mine)
  unfolding stm.performed
  performed_ok p wall m at mine h =
      scanned_ok p wall m at mine (scan p.store (ns_of m.op) (touched m.op) at m.tag) h

  begins_ok : (p : Part) (last wall : ℕ) (m : Statement) → PartOk G p
      → TurnOk m (stm.begins p last wall m)
  begins_ok p last wall m h = performed_ok p wall m (stm.read_time last m) None h

  older_ok : (p : Part) (last wall : ℕ) (m : Statement) (older : Tag) (st : SessionState)
      → PartOk G p → TurnOk m (stm.beside_older p last wall m older st)
  older_ok p last wall m older state.Live h = begins_ok p last wall m h
  older_ok p last wall m older (state.Prepared at coordinator) h =
      stays p m (Refused (cause.PreparedStands older) 0) tt h
  older_ok p last wall m older (state.Committed at) h = begins_ok p last wall m h
  older_ok p last wall m older state.Released h = begins_ok p last wall m h
  older_ok p last wall m older (state.Aborted why read_at) h = begins_ok p last wall m h

  beside_ok : (p : Part) (last wall : ℕ) (m : Statement) (s : Option Session) → PartOk G p
      → TurnOk m (stm.beside p last wall m s)
  beside_ok p last wall m None h = either (is_full p.sessions) (TurnOk m) _ _
      (stays p m (Refused cause.TooManySessions 0) tt h) (begins_ok p last wall m h)
  beside_ok p last wall m (Some s) h = older_ok p last wall m s.tag s.state h

  first_ok : (p : Part) (last wall : ℕ) (m : Statement) (s : Option Session) → PartOk G p
      → TurnOk m (stm.first_statement p last wall m s)
  first_ok p last wall m s h = either (nat_eq m.boot 0) (TurnOk m) _ _
      (beside_ok p last wall m s h) (stays p m (Refused (cause.Unavailable m.boot p.boot) 0) tt h)

  goes_ok : (p : Part) (wall : ℕ) (m : Statement) (s : Session) (o : Option Open) → PartOk G p
      → TurnOk m (stm.goes_on p wall m s o)
  goes_ok p wall m s None h = stays p m Late tt h
  goes_ok p wall m s (Some o) h =
      either (nat_eq m.k o.k) (TurnOk m) _ _ (stays p m (Did o.read_at o.reply o.wrote) tt h)
      (either (nat_lt m.k o.k) (TurnOk m) _ _ (stays p m Late tt h)
      (either (nat_eq m.boot p.boot) (TurnOk m) _ _ (performed_ok p wall m o.read_at (Some o) h)
      (stays (aborted p m.lsid s (cause.Unavailable m.boot p.boot)) m
      (Refused (cause.Unavailable m.boot p.boot) 0) tt
      (aborted_ok p m.lsid s (cause.Unavailable m.boot p.boot) tt h))))

  later_ok : (p : Part) (wall : ℕ) (m : Statement) (s : Session) (st : SessionState)
      → EndOk (G m.lsid m.tag) st → PartOk G p → TurnOk m (stm.later_statement p wall m s st)
  later_ok p wall m s state.Live e h = goes_ok p wall m s (open_of p m.lsid) h
  later_ok p wall m s (state.Prepared at coordinator) e h = stays p m Late tt h
  later_ok p wall m s (state.Committed at) e h = stays p m Late tt h
  later_ok p wall m s state.Released e h = stays p m Late tt h
  later_ok p wall m s (state.Aborted why read_at) e h = stays p m (Refused why read_at) e h

  -- where the session has this tag
  own_end : (p : Part) (lsid : Lsid) (tag : Tag) (s : Session) → same_tag s.tag tag ≡ true
      → session p lsid ≡ Some s → PartOk G p → EndOk (G lsid tag) s.state
  own_end p lsid tag s same is h = subst (λ (t : Tag). EndOk (G lsid t) s.state)
      (tag_same s.tag tag same) (h lsid s is)

  tag_case : (p : Part) (last wall : ℕ) (m : Statement) (s : Session) (test : Bool)
      → same_tag s.tag m.tag ≡ test → session p m.lsid ≡ Some s → PartOk G p
      → TurnOk m (if test then stm.later_statement p wall m s s.state
      else stm.first_statement p last wall m (Some s))
  tag_case p last wall m s true same is h =
      later_ok p wall m s s.state (own_end p m.lsid m.tag s same is h) h
  tag_case p last wall m s false same is h = first_ok p last wall m (Some s) h

  session_ok : (p : Part) (last wall : ℕ) (m : Statement) (s : Option Session)
      → session p m.lsid ≡ s → PartOk G p → TurnOk m (stm.by_session p last wall m s)
  session_ok p last wall m None is h = first_ok p last wall m None h
  session_ok p last wall m (Some s) is h =
      either (is_replaced s m.number m.tag) (TurnOk m) _ _
      (stays p m (Refused (cause.Replaced s.number s.tag) 0) tt h)
      (tag_case p last wall m s (same_tag s.tag m.tag) refl is h)

  pub statement_ok : (p : Part) (last wall : ℕ) (m : Statement) → PartOk G p
      → TurnOk m (stm.statement p last wall m)
  unfolding stm.statement
  statement_ok p last wall m h = session_ok p last wall m (session p m.lsid) refl h

  -- Ends of transactions.

  ends_ok : (p : Part) (lsid : Lsid) (why : Cause) → ((F : ℕ → Type 0) → CauseOk F why)
      → (s : Option Session) → PartOk G p → PartOk G (ends_live p lsid why s)
  ends_ok p lsid why none None h = h
  ends_ok p lsid why none (Some s) h = aborted_ok p lsid s why (none (G lsid s.tag)) h

  expire_all_ok : (wall : ℕ) (entries : List (Lsid × Open)) (p : Part) → PartOk G p
      → PartOk G (expire_all wall entries p)
  expire_all_ok wall [] p h = h
  expire_all_ok wall (entry ∷ entries) p h =
      expire_all_ok wall entries _
      (either (nat_lt lifetime (wall - entry.1.begun)) (PartOk G) _ _
      (ends_ok p entry.0 (cause.Expired entry.1.begun wall) (λ F. tt) (session p entry.0) h) h)

  pub expire_ok : (p : Part) (wall : ℕ) → PartOk G p → PartOk G (expire p wall)
  unfolding expire
  expire_ok p wall h = expire_all_ok wall p.live p h

  ends_own_ok : (p : Part) (lsid : Lsid) (s : Session) (st : SessionState) → PartOk G p
      → PartOk G (ends_own p lsid s st)
  ends_own_ok p lsid s state.Live h = aborted_ok p lsid s cause.Memory tt h
  ends_own_ok p lsid s (state.Prepared at coordinator) h = h
  ends_own_ok p lsid s (state.Committed at) h = h
  ends_own_ok p lsid s state.Released h = h
  ends_own_ok p lsid s (state.Aborted why read_at) h = h

  ends_session_ok : (p : Part) (lsid : Lsid) (tag : Tag) (s : Option Session) → PartOk G p
      → PartOk G (ends_session p lsid tag s)
  ends_session_ok p lsid tag None h = h
  ends_session_ok p lsid tag (Some s) h =
      either (same_tag s.tag tag) (PartOk G) _ _ (ends_own_ok p lsid s s.state h) h

  pub memory_ok : (p : Part) (lsid : Lsid) (tag : Tag) → PartOk G p
      → PartOk G (ended_for_memory p lsid tag)
  memory_ok p lsid tag h = ends_session_ok p lsid tag (session p lsid) h

  -- An Abort ends a live transaction for its reason.

  aborts_own_ok : (p : Part) (m : Abort) (s : Session) (st : SessionState) → G m.lsid s.tag m.why
      → PartOk G p → PartOk G (ab.aborts_own p m s st)
  aborts_own_ok p m s state.Live g h = aborted_ok p m.lsid s (cause.ClientAbort m.why) g h
  aborts_own_ok p m s (state.Prepared at coordinator) g h = h
  aborts_own_ok p m s (state.Committed at) g h = h
  aborts_own_ok p m s state.Released g h = h
  aborts_own_ok p m s (state.Aborted why read_at) g h = h

  aborts_tag : (p : Part) (m : Abort) (s : Session) (test : Bool) → same_tag s.tag m.tag ≡ test
      → G m.lsid m.tag m.why → PartOk G p
      → PartOk G (if test then ab.aborts_own p m s s.state else p)
  aborts_tag p m s true same g h = aborts_own_ok p m s s.state
      (subst (λ (t : Tag). G m.lsid t m.why) (sym (tag_same s.tag m.tag same)) g) h
  aborts_tag p m s false same g h = h

  aborts_ok : (p : Part) (m : Abort) (s : Option Session) → G m.lsid m.tag m.why → PartOk G p
      → PartOk G (ab.aborts_session p m s)
  aborts_ok p m None g h = h
  aborts_ok p m (Some s) g h = aborts_tag p m s (same_tag s.tag m.tag) refl g h

  pub abort_ok : (p : Part) (m : Abort) → G m.lsid m.tag m.why → PartOk G p
      → PartOk G (ab.abort p m)
  unfolding ab.abort
  abort_ok p m g h = aborts_ok p m (session p m.lsid) g h

  -- A Recover ends a live one, and tells so.

  pub record TellingOk (m : Recover) (t : rc.Telling) : Type 0 where
    pub part : PartOk G t.1
    pub told : ToldOk (G m.lsid m.tag) t.0

  recovers_own_ok : (p : Part) (m : Recover) (s : Session) (st : SessionState)
      → G m.lsid m.tag 3 → s.tag ≡ m.tag → EndOk (G m.lsid m.tag) st → PartOk G p
      → TellingOk m (rc.recovers_own p m s st)
  recovers_own_ok p m s state.Live g same e h = record {
    part = aborted_ok p m.lsid s (cause.ClientAbort 3)
        (subst (λ (t : Tag). G m.lsid t 3) (sym same) g) h;
    told = g;
  }
  recovers_own_ok p m s (state.Prepared at coordinator) g same e h =
      record { part = h; told = tt }
  recovers_own_ok p m s (state.Committed at) g same e h = record { part = h; told = tt }
  recovers_own_ok p m s state.Released g same e h = record { part = h; told = tt }
  recovers_own_ok p m s (state.Aborted why read_at) g same e h = record { part = h; told = e }

  recovers_none_ok : (p : Part) (m : Recover) → PartOk G p → TellingOk m (rc.recovers_none p m)
  recovers_none_ok p m h = either (nat_eq m.boot p.boot) (TellingOk m) _ _
      (record { part = h; told = tt }) (record { part = h; told = tt })

  recovers_tag : (p : Part) (m : Recover) (s : Session) (test : Bool)
      → same_tag s.tag m.tag ≡ test → session p m.lsid ≡ Some s → G m.lsid m.tag 3 → PartOk G p
      → TellingOk m (if test then rc.recovers_own p m s s.state else rc.recovers_none p m)
  recovers_tag p m s true same is g h = recovers_own_ok p m s s.state g
      (tag_same s.tag m.tag same) (own_end p m.lsid m.tag s same is h) h
  recovers_tag p m s false same is g h = recovers_none_ok p m h

  recovers_ok : (p : Part) (m : Recover) (s : Option Session) → session p m.lsid ≡ s
      → G m.lsid m.tag 3 → PartOk G p → TellingOk m (rc.recovers_session p m s)
  recovers_ok p m None is g h = recovers_none_ok p m h
  recovers_ok p m (Some s) is g h =
      either (int_lt m.number s.number) (TellingOk m) _ _ (record { part = h; told = tt })
      (recovers_tag p m s (same_tag s.tag m.tag) refl is g h)

  pub recover_ok : (p : Part) (m : Recover) → G m.lsid m.tag 3 → PartOk G p
      → TellingOk m (rc.recover p m)
  unfolding rc.recover
  recover_ok p m g h = recovers_ok p m (session p m.lsid) refl g h

  -- Decisions.

  applies_ok : (p : Part) (m : Decide) (s : Session) → PartOk G p
      → PartOk G (de.decided_part p m s)
  applies_ok p m s h = puts p (de.decided_part p m s) m.lsid
      (record { number = s.number; tag = s.tag; state = state_behind m.decision }) refl
      (behind (G m.lsid s.tag) m.decision) h
    where
      behind : (F : ℕ → Type 0) (d : Decision) → EndOk F (state_behind d)
      behind F (decision.Commit at) = tt
      behind F (decision.Abort shard code) = tt

  abbrev pub DecidesOk : de.Deciding → Type 0
  DecidesOk d = PartOk G d.1

  decides_prepared_ok : (p : Part) (m : Decide) (s : Session) (at : ℕ) (d : Decision) → PartOk G p
      → DecidesOk (de.decides_prepared p m s at d)
  decides_prepared_ok p m s at (decision.Commit time) h =
      either (nat_le at time) DecidesOk _ _ (applies_ok p m s h) h
  decides_prepared_ok p m s at (decision.Abort shard code) h = applies_ok p m s h

  decides_live_ok : (p : Part) (m : Decide) (s : Session) (d : Decision) → PartOk G p
      → DecidesOk (de.decides_live p m s d)
  decides_live_ok p m s (decision.Commit time) h = h
  decides_live_ok p m s (decision.Abort shard code) h =
      aborted_ok p m.lsid s (cause.Voted shard code) tt h

  decides_own_ok : (p : Part) (m : Decide) (s : Session) (st : SessionState) → PartOk G p
      → DecidesOk (de.decides_own p m s st)
  decides_own_ok p m s state.Live h = decides_live_ok p m s m.decision h
  decides_own_ok p m s (state.Prepared at coordinator) h =
      decides_prepared_ok p m s at m.decision h
  decides_own_ok p m s (state.Committed at) h = h
  decides_own_ok p m s state.Released h = h
  decides_own_ok p m s (state.Aborted why read_at) h = h

  decides_ok : (p : Part) (m : Decide) (s : Option Session) → PartOk G p
      → DecidesOk (de.decides_session p m s)
  decides_ok p m None h = h
  decides_ok p m (Some s) h =
      either (same_tag s.tag m.tag) DecidesOk _ _ (decides_own_ok p m s s.state h) h

  pub decide_ok : (p : Part) (m : Decide) → PartOk G p → DecidesOk (de.decide p m)
  unfolding de.decide
  decide_ok p m h = decides_ok p m (session p m.lsid) h

  -- A commit.

  pub record CommitsOk (m : Commit) (c : co.Committing) : Type 0 where
    pub part : PartOk G c.part
    pub told : IfSome c.told (ToldOk (G m.lsid m.tag))

  commits_by_ok : (p : Part) (last : ℕ) (m : Commit) (s : Session) (o : Open) (t : Option ℕ)
      → PartOk G p → CommitsOk m (co.commits_by p last m s o t)
  commits_by_ok p last m s o None h = record {
    part = aborted_ok p m.lsid s (cause.ClockEnd last) tt h;
    told = tt;
  }
  commits_by_ok p last m s o (Some at) h = record {
    part = puts p (co.commits p m s o at).part m.lsid
        (record { number = s.number; tag = s.tag; state = state.Committed at }) refl tt h;
    told = tt;
  }

  releases_ok : (p : Part) (last : ℕ) (m : Commit) (s : Session) → PartOk G p
      → CommitsOk m (co.releases p last m s)
  releases_ok p last m s h = record {
    part = puts p (co.releases p last m s).part m.lsid
        (record { number = s.number; tag = s.tag; state = state.Released }) refl tt h;
    told = tt;
  }

  commits_writes_ok : (p : Part) (last wall : ℕ) (m : Commit) (s : Session) (o : Open)
      (ws : List Write) → PartOk G p → CommitsOk m (co.commits_writes p last wall m s o ws)
  commits_writes_ok p last wall m s o [] h = releases_ok p last m s h
  commits_writes_ok p last wall m s o (w ∷ ws) h =
      commits_by_ok p last m s o (ticked last wall) h

  commits_open_ok : (p : Part) (last wall : ℕ) (m : Commit) (s : Session) (o : Option Open)
      → PartOk G p → CommitsOk m (co.commits_open p last wall m s o)
  commits_open_ok p last wall m s None h = releases_ok p last m s h
  commits_open_ok p last wall m s (Some o) h = commits_writes_ok p last wall m s o o.writes h

  commits_own_ok : (p : Part) (last wall : ℕ) (m : Commit) (s : Session) (st : SessionState)
      → EndOk (G m.lsid m.tag) st → PartOk G p
      → CommitsOk m (co.commits_own p last wall m s st)
  commits_own_ok p last wall m s state.Live e h =
      either (nat_eq m.boot p.boot) (CommitsOk m) _ _
      (commits_open_ok p last wall m s (open_of p m.lsid) h)
      (record {
        part = aborted_ok p m.lsid s (cause.Unavailable m.boot p.boot) tt h;
        told = tt;
      })
  commits_own_ok p last wall m s (state.Prepared at coordinator) e h =
      record { part = h; told = tt }
  commits_own_ok p last wall m s (state.Committed at) e h = record { part = h; told = tt }
  commits_own_ok p last wall m s state.Released e h = record { part = h; told = tt }
  commits_own_ok p last wall m s (state.Aborted why read_at) e h = record { part = h; told = e }

  commits_tag : (p : Part) (last wall : ℕ) (m : Commit) (s : Session) (test : Bool)
      → same_tag s.tag m.tag ≡ test → session p m.lsid ≡ Some s → PartOk G p
      → CommitsOk m (if test then co.commits_own p last wall m s s.state
      else co.tells p last (told.Aborted (cause.Unavailable m.boot p.boot)))
  commits_tag p last wall m s true same is h =
      commits_own_ok p last wall m s s.state (own_end p m.lsid m.tag s same is h) h
  commits_tag p last wall m s false same is h = record { part = h; told = tt }

  commits_ok : (p : Part) (last wall : ℕ) (m : Commit) (s : Option Session)
      → session p m.lsid ≡ s → PartOk G p → CommitsOk m (co.commits_session p last wall m s)
  commits_ok p last wall m None is h = record { part = h; told = tt }
  commits_ok p last wall m (Some s) is h =
      either (int_lt m.number s.number) (CommitsOk m) _ _ (record { part = h; told = tt })
      (commits_tag p last wall m s (same_tag s.tag m.tag) refl is h)

  pub commit_ok : (p : Part) (last wall : ℕ) (m : Commit) → PartOk G p
      → CommitsOk m (co.commit p last wall m)
  unfolding co.commit
  commit_ok p last wall m h = commits_ok p last wall m (session p m.lsid) refl h

  -- A prepare.

  pub record VotesOk (m : Prepare) (c : pr.Voting) : Type 0 where
    pub part : PartOk G c.part
    pub told : IfSome c.told (ResultOk (G m.lsid m.tag))

  prepares_by_ok : (p : Part) (last : ℕ) (m : Prepare) (s : Session) (o : Open) (t : Option ℕ)
      → PartOk G p → VotesOk m (pr.prepares_by p last m s o t)
  prepares_by_ok p last m s o None h = record {
    part = aborted_ok p m.lsid s (cause.ClockEnd last) tt h;
    told = tt;
  }
  prepares_by_ok p last m s o (Some at) h = record {
    part = puts p (pr.prepares p m s o at).part m.lsid
        (record { number = s.number; tag = s.tag; state = state.Prepared at m.coordinator }) refl tt
        h;
    told = tt;
  }

  prepares_open_ok : (p : Part) (last wall : ℕ) (m : Prepare) (s : Session) (o : Option Open)
      → PartOk G p → VotesOk m (pr.prepares_open p last wall m s o)
  prepares_open_ok p last wall m s None h = record { part = h; told = tt }
  prepares_open_ok p last wall m s (Some o) h = prepares_by_ok p last m s o (ticked last wall) h

  prepares_own_ok : (p : Part) (last wall : ℕ) (m : Prepare) (s : Session) (st : SessionState)
      → EndOk (G m.lsid m.tag) st → PartOk G p → VotesOk m (pr.prepares_own p last wall m s st)
  prepares_own_ok p last wall m s state.Live e h =
      either (nat_eq m.boot p.boot) (VotesOk m) _ _
      (prepares_open_ok p last wall m s (open_of p m.lsid) h)
      (record {
        part = aborted_ok p m.lsid s (cause.Unavailable m.boot p.boot) tt h;
        told = tt;
      })
  prepares_own_ok p last wall m s (state.Prepared at coordinator) e h =
      record { part = h; told = tt }
  prepares_own_ok p last wall m s (state.Committed at) e h = record { part = h; told = tt }
  prepares_own_ok p last wall m s state.Released e h = record { part = h; told = tt }
  prepares_own_ok p last wall m s (state.Aborted why read_at) e h = record { part = h; told = e }

  prepares_tag : (p : Part) (last wall : ℕ) (m : Prepare) (s : Session) (test : Bool)
      → same_tag s.tag m.tag ≡ test → session p m.lsid ≡ Some s → PartOk G p
      → VotesOk m (if test then pr.prepares_own p last wall m s s.state
      else pr.votes p last (Err (cause.Unavailable m.boot p.boot)))
  prepares_tag p last wall m s true same is h =
      prepares_own_ok p last wall m s s.state (own_end p m.lsid m.tag s same is h) h
  prepares_tag p last wall m s false same is h = record { part = h; told = tt }

  prepares_ok : (p : Part) (last wall : ℕ) (m : Prepare) (s : Option Session)
      → session p m.lsid ≡ s → PartOk G p → VotesOk m (pr.prepares_session p last wall m s)
  prepares_ok p last wall m None is h = record { part = h; told = tt }
  prepares_ok p last wall m (Some s) is h =
      either (is_replaced s m.number m.tag) (VotesOk m) _ _ (record { part = h; told = tt })
      (prepares_tag p last wall m s (same_tag s.tag m.tag) refl is h)

  pub prepare_ok : (p : Part) (last wall : ℕ) (m : Prepare) → PartOk G p
      → VotesOk m (pr.prepare p last wall m)
  unfolding pr.prepare
  prepare_ok p last wall m h = prepares_ok p last wall m (session p m.lsid) refl h
