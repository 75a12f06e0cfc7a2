-- Why each rule of a participant refuses or ends a transaction.
use Rattle.std.proofs.Common.{◌≡◌, ◌≢◌, ◌⊎◌, inl, inr, ◌<ℤ◌, ◌||◌, ◌&&◌, ℕ, Bool, true}
use Rattle.std.proofs.Common.{false, not, List, [], ◌∷◌, Option, Some, None, IfSome, Result, Ok}
use Rattle.std.proofs.Common.{Err}
use Rattle.std.proofs.Common.{refl, ap, subst, ◌∙◌, sym, arith, int_lt, nat_eq, nat_lt}
use Rattle.std.proofs.Common.{if◌then◌else◌}
use Rattle.txn_types.specs.Clock.{ticked, last_time, next_time}
use Rattle.txn_types.specs.Order.{same_lsid, same_tag}
use Rattle.txn_types.specs.declared.cause.By.{By}
use Rattle.txn_types.specs.declared.cause.Cause.{Cause}
use Rattle.txn_types.specs.declared.cause.Cause.TheVariants as cause
use Rattle.txn_types.specs.declared.decision.Told.{Told}
use Rattle.txn_types.specs.declared.decision.Told.TheVariants as told
use Rattle.txn_types.specs.declared.id.Id.{Id}
use Rattle.txn_types.specs.declared.message.Abort.{Abort}
use Rattle.txn_types.specs.declared.message.Commit.{Commit}
use Rattle.txn_types.specs.declared.message.Recover.{Recover}
use Rattle.txn_types.specs.declared.message.Statement.{Statement}
use Rattle.txn_types.specs.declared.names.Tag.{Tag}
use Rattle.txn_types.specs.declared.node.Lsid.{Lsid}
use Rattle.txn_types.specs.declared.operation.OpReply.{OpReply}
use Rattle.txn_types.specs.declared.write.Write.{Write}
use Rattle.txn_semantics.specs.Meaning.{Meaning, eval, ns_of}
use Rattle.txn_semantics.specs.Rows.{Row}
use Rattle.txn_semantics.specs.Touched.{touched}
use Rattle.journal_rec.specs.Volume.{volume}
use Rattle.session_table.specs.Sessions.{Table, session_of, with_session, is_full}
use Rattle.session_table.specs.declared.session.Session.{Session}
use Rattle.session_table.specs.declared.session.SessionState.{SessionState}
use Rattle.session_table.specs.declared.session.SessionState.TheVariants as state
use Rattle.version_store.specs.Versions.{scan, conflict}
use Rattle.version_store.specs.declared.version.Held.{Held}
use Rattle.participant.specs.declared.said.Open.{Open}
use Rattle.participant.specs.declared.said.Said.{Said}
use Rattle.participant.specs.declared.said.Said.TheVariants.{Did, Blocked, Refused, Late}
use Rattle.participant.specs.Part.{Part, session, open_of, closed, aborted}
use Rattle.participant.specs.Part.{is_replaced}
use Rattle.participant.specs.Stands.{mine, mine_of}
use Rattle.participant.specs.Statement as rules
use Rattle.participant.specs.Statement.{Turn, statement, read_time, writes_with}
use Rattle.participant.specs.Commit as co
use Rattle.participant.specs.Commit.{Committing, commit}
use Rattle.participant.specs.Abort as ab
use Rattle.participant.specs.Abort.{abort}
use Rattle.participant.specs.Recover as re
use Rattle.participant.specs.Recover.{recover}
use Rattle.participant.specs.Memory as me
use Rattle.participant.specs.Memory.{ended_for_memory}
use Rattle.participant.proofs.Cases.{either}
use Rattle.participant.proofs.Ends.{entry_elsewhere}
use Rattle.participant.proofs.Following.{either_is}
use Rattle.participant.proofs.Moving.{entry_here}
use Rattle.participant.proofs.Tags.{lsid_same, tag_same, tag_self}
use Rattle.part_laws.specs.Sound.{Opens}
use Rattle.part_laws.specs.Parts.{AtState, AtSession}
use Rattle.part_laws.proofs.Turns.{same_boot}
use Rattle.stood_laws.specs.Because.{moment_of, Sees, DoneOver, IsNewer, IsAnewHere}
use Rattle.stood_laws.specs.Because.{Because, IsElsewhere, CommitBecause, RecoverBecause}

-- the session's transaction has this tag, and had ended with the cause
abbrev pub Again : Part → Lsid → Tag → Cause → Type 0
Again p lsid tag why = (s : Session) × (read_at : ℕ) × (session p lsid ≡ Some s) × (s.tag ≡ tag)
    × (s.state ≡ state.Aborted why read_at)

-- which transactions have ended with a cause: those that had, and this one, for a reason
abbrev pub EndsFor : (Cause → Type 0) → Part → Lsid → Tag → Part → Type 0
EndsFor B p lsid tag q =
    (other : Lsid) (new : Session) (why : Cause) (read_at : ℕ) → session q other ≡ Some new
    → new.state ≡ state.Aborted why read_at
    → (session p other ≡ Some new) ⊎ ((other ≡ lsid) × (new.tag ≡ tag) × B why)

pub same_ends : (B : Cause → Type 0) (p : Part) (lsid : Lsid) (tag : Tag) → EndsFor B p lsid tag p
same_ends B p lsid tag other new why read_at there is = inl there

-- one session is put
module _ (B : Cause → Type 0) (p q : Part) (lsid : Lsid) (tag : Tag) (new : Session)
    (is : q.sessions ≡ with_session p.sessions lsid new)
    (because : (why : Cause) (read_at : ℕ) → new.state ≡ state.Aborted why read_at
    → (new.tag ≡ tag) × B why) where
  here : session q lsid ≡ Some new
  here = ap (λ (x : Table). session_of x lsid) is ∙ entry_here lsid new p.sessions.entries

  put_case : (other : Lsid) (b : Bool) → same_lsid other lsid ≡ b → (found : Session) (why : Cause)
      (read_at : ℕ) → session q other ≡ Some found → found.state ≡ state.Aborted why read_at
      → (session p other ≡ Some found) ⊎ ((other ≡ lsid) × (found.tag ≡ tag) × B why)
  put_case other true same found why read_at there at =
      let l : other ≡ lsid = lsid_same other lsid same in
      let both : Some found ≡ Some new = sym there ∙ ap (session q) l ∙ here in
      let one : found ≡ new = cc in
      let h = because why read_at (ap (λ (x : Session). x.state) (sym one) ∙ at) in
      inr (l, ap (λ (x : Session). x.tag) one ∙ h.0, h.1)
  put_case other false apart found why read_at there at =
      inl (sym (ap (λ (x : Table). session_of x other) is
      ∙ entry_elsewhere other lsid apart new p.sessions.entries) ∙ there)

  pub put_ends : EndsFor B p lsid tag q
  put_ends other found why read_at there at =
      put_case other (same_lsid other lsid) refl found why read_at there at

-- aborted with one cause
same_cause : (a b : Cause) (m n : ℕ) → state.Aborted a m ≡ state.Aborted b n → a ≡ b
same_cause a b m n h = cc

pub aborted_ends : (B : Cause → Type 0) (p : Part) (lsid : Lsid) (tag : Tag) (s : Session)
    (why : Cause) → s.tag ≡ tag → B why → EndsFor B p lsid tag (aborted p lsid s why)
aborted_ends B p lsid tag s why same b =
    put_ends B p (aborted p lsid s why) lsid tag
    (record { number = s.number; tag = s.tag; state = state.Aborted why 0 }) refl
    (λ other read_at h. (same, subst B (same_cause why other 0 read_at h) b))

-- what is live has its session's tag
live_tag : (boot : ℕ) (opens : Opens) (tag : Tag) (st : SessionState) (o : Option Open)
    → AtState boot opens tag st o → (x : Open) → o ≡ Some x → x.tag ≡ tag
live_tag boot opens tag state.Live None h x is = absurd h
live_tag boot opens tag state.Live (Some y) h x is =
    let one : y ≡ x = cc in ap (λ (z : Open). z.tag) (sym one) ∙ h.0
live_tag boot opens tag (state.Prepared time coordinator) o h x is =
    let wrong : None ≡ Some x = sym h.0 ∙ is in cc
live_tag boot opens tag (state.Committed time) o h x is =
    let wrong : None ≡ Some x = sym h ∙ is in cc
live_tag boot opens tag state.Released o h x is = let wrong : None ≡ Some x = sym h ∙ is in cc
live_tag boot opens tag (state.Aborted why read_at) o h x is =
    let wrong : None ≡ Some x = sym h ∙ is in cc

pub open_tag : (p : Part) (opens : Opens) (lsid : Lsid)
    → AtSession p.boot opens (session p lsid) (open_of p lsid) → (s : Session)
    → session p lsid ≡ Some s → (x : Open) → open_of p lsid ≡ Some x → x.tag ≡ s.tag
open_tag p opens lsid at s is x there =
    live_tag p.boot opens s.tag s.state (open_of p lsid)
    (subst (λ (o : Option Session). AtSession p.boot opens o (open_of p lsid)) is at) x there

-- Statements.

module _ (p : Part) (opens : Opens) (last wall : ℕ) (m : Statement)
    (at_session : AtSession p.boot opens (session p m.lsid) (open_of p m.lsid)) where
  abbrev B : Cause → Type 0
  B why = Because p last m why

  abbrev SaidFor : Said → Type 0
  SaidFor (Refused why at) = Again p m.lsid m.tag why ⊎ B why
  SaidFor (Did at reply wrote) = Unit {0}
  SaidFor (Blocked held) = Unit {0}
  SaidFor Late = Unit {0}

  abbrev Q : Turn → Type 0
  Q turn = SaidFor turn.0 × EndsFor B p m.lsid m.tag turn.1

  says : (why : Cause) → B why → Q (rules.refused p why)
  says why b = (inr b, same_ends B p m.lsid m.tag)

  closed_same : (found : Option Open) → (closed p m.lsid found).sessions ≡ p.sessions
  closed_same None = refl
  closed_same (Some o) = refl

  room_same : (mine : Option Open) → (rules.made_room p m mine).sessions ≡ p.sessions
  room_same None = closed_same (open_of p m.lsid)
  room_same (Some o) = refl

  abbrev now : SessionState → Session
  now st = record { number = m.number; tag = m.tag; state = st }

  refuses_for : (why : Cause) (at : ℕ) → B why → Q (rules.refuses p m why at)
  refuses_for why at b = (
    inr b,
    put_ends B p (rules.refuses p m why at).1 m.lsid m.tag (now (state.Aborted why at))
        (ap (λ (t : Table). with_session t m.lsid (now (state.Aborted why at)))
        (closed_same (open_of p m.lsid)))
        (λ other read_at h. (refl, subst B (same_cause why other at read_at h) b)),
  )

  does_for : (at : ℕ) (mine : Option Open) (reply : OpReply) (writes : List Write)
      → Q (rules.does p wall m at mine reply writes)
  does_for at mine reply writes = (
    tt,
    put_ends B p (rules.does p wall m at mine reply writes).1 m.lsid m.tag (now state.Live)
        (ap (λ (t : Table). with_session t m.lsid (now state.Live)) (room_same mine))
        (λ other read_at h. cc),
  )

  module _ (own : Option Open) (is : mine p m ≡ own) (anew : IsAnewHere p m) where
    abbrev at : ℕ
    at = moment_of last m own

    abbrev Done : OpReply → List Write → Type 0
    Done reply writes = DoneOver p at m reply writes

    done_now : (reply : OpReply) (writes : List Write) → Done reply writes
        → DoneOver p (moment_of last m (mine p m)) m reply writes
    done_now reply writes h =
        subst (λ (o : Option Open). DoneOver p (moment_of last m o) m reply writes) (sym is) h

    large : (reply : OpReply) (writes : List Write) → Done reply writes
        → nat_lt rules.most_bytes (volume (writes_with own writes)) ≡ true
        → B (cause.Volume (volume (writes_with own writes)))
    large reply writes h above = (
      reply,
      writes,
      done_now reply writes h,
      ap (λ (o : Option Open). volume (writes_with o writes)) (sym is),
      grind (arith, above),
      anew,
    )

    clear_for : (reply : OpReply) (writes : List Write) (c : Option (Id × By)) → Done reply writes
        → conflict p.store at m.tag writes ≡ c
        → Q (rules.unless_conflict p wall m at own reply writes c)
    clear_for reply writes None h none =
        either_is (nat_lt rules.most_bytes (volume (writes_with own writes))) Q _ _
        (λ above. refuses_for (cause.Volume (volume (writes_with own writes))) 0
        (large reply writes h above))
        (λ within. does_for at own reply writes)
    clear_for reply writes (Some c) h some =
        refuses_for (cause.WriteConflict c.0 c.1) 0 (
          reply,
          writes,
          done_now reply writes h,
          ap (λ (o : Option Open). conflict p.store (moment_of last m o) m.tag writes) is ∙ some,
        )

    meant_for : (rows : List Row) (meaning : Meaning) → Sees p at m rows → eval m.op rows ≡ meaning
        → Q (rules.evaluated p wall m at own meaning)
    meant_for rows (Err err) sees h =
        refuses_for (cause.Statement err) at (
          rows,
          ap (λ (o : Option Open).
              scan p.store (ns_of m.op) (touched m.op) (moment_of last m o) m.tag) is ∙ sees,
          h,
          anew,
        )
    meant_for rows (Ok done) sees h =
        clear_for done.0 done.1 (conflict p.store at m.tag done.1) (rows, sees, h) refl

    scanned_for : (found : Result (List Row) Held)
        → scan p.store (ns_of m.op) (touched m.op) at m.tag ≡ found
        → Q (rules.scanned p wall m at own found)
    scanned_for (Err held) h = (tt, same_ends B p m.lsid m.tag)
    scanned_for (Ok rows) h = meant_for rows (eval m.op rows) h refl

    performed_for : Q (rules.performed p wall m at own)
    unfolding rules.performed
    performed_for = scanned_for (scan p.store (ns_of m.op) (touched m.op) at m.tag) refl

  -- the first statement of a transaction: none of it is live
  module _ (none : mine p m ≡ None)
      (apart : (s : Session) → session p m.lsid ≡ Some s → same_tag s.tag m.tag ≡ false) where
    begins_for : nat_eq m.boot 0 ≡ true → Q (rules.begins p last wall m)
    begins_for first = performed_for None none (inl (same_boot m.boot 0 first, apart))

    beside_for : (s : Session) (st : SessionState) → session p m.lsid ≡ Some s → s.state ≡ st
        → nat_eq m.boot 0 ≡ true → Q (rules.beside_older p last wall m s.tag st)
    beside_for s state.Live is st first = begins_for first
    beside_for s (state.Prepared time coordinator) is st first =
        says (cause.PreparedStands s.tag) (s, is, refl, (time, coordinator, st))
    beside_for s (state.Committed time) is st first = begins_for first
    beside_for s state.Released is st first = begins_for first
    beside_for s (state.Aborted why read_at) is st first = begins_for first

    other_boot : IsNewer p m → nat_eq m.boot 0 ≡ false → B (cause.Unavailable m.boot p.boot)
    other_boot newer h = (refl, refl, inl (grind (arith, h), newer))

    first_for : IsNewer p m → (s : Session) → session p m.lsid ≡ Some s
        → Q (rules.first_statement p last wall m (Some s))
    first_for newer s is =
        either_is (nat_eq m.boot 0) Q _ _ (λ first. beside_for s s.state is refl first)
        (λ other. says (cause.Unavailable m.boot p.boot) (other_boot newer other))

    none_for : IsNewer p m → session p m.lsid ≡ None
        → Q (rules.first_statement p last wall m None)
    none_for newer is =
        either_is (nat_eq m.boot 0) Q _ _
        (λ first. either_is (is_full p.sessions) Q _ _
        (λ full. says cause.TooManySessions (full, is)) (λ room. begins_for first))
        (λ other. says (cause.Unavailable m.boot p.boot) (other_boot newer other))

  mine_apart : (o : Option Open) (tag : Tag) (b : Bool) → same_tag tag m.tag ≡ b → b ≡ false
      → ((x : Open) → o ≡ Some x → x.tag ≡ tag) → mine_of m.tag o ≡ None
  mine_apart None tag b same apart h = refl
  mine_apart (Some x) tag b same apart h =
      let t : same_tag x.tag m.tag ≡ false =
      ap (λ (t : Tag). same_tag t m.tag) (h x refl) ∙ same ∙ apart in
      rw t refl

  mine_same : (o : Open) → o.tag ≡ m.tag → mine_of m.tag (Some o) ≡ Some o
  mine_same o same =
      let t : same_tag o.tag m.tag ≡ true =
      ap (λ (t : Tag). same_tag t m.tag) same ∙ tag_self m.tag in
      rw t refl

  none_open : session p m.lsid ≡ None → open_of p m.lsid ≡ None
  none_open is =
      subst (λ (o : Option Session). AtSession p.boot opens o (open_of p m.lsid)) is at_session

  -- the session's own transaction
  module _ (s : Session) (is : session p m.lsid ≡ Some s) (same : s.tag ≡ m.tag) where
    on_for : (o : Option Open) → open_of p m.lsid ≡ o → Q (rules.goes_on p wall m s o)
    on_for None live = (tt, same_ends B p m.lsid m.tag)
    on_for (Some o) live =
        let tag : o.tag ≡ m.tag = open_tag p opens m.lsid at_session s is o live ∙ same in
        either_is (nat_eq m.k o.k) Q _ _ (λ again. (tt, same_ends B p m.lsid m.tag))
        (λ apart. either_is (nat_lt m.k o.k) Q _ _ (λ late. (tt, same_ends B p m.lsid m.tag))
        (λ after. either_is (nat_eq m.boot p.boot) Q _ _
        (λ now. performed_for (Some o) (ap (mine_of m.tag) live ∙ mine_same o tag) (inr (
          o,
          live,
          tag,
          grind (arith, apart, after),
          same_boot m.boot p.boot now,
        )))
        (λ other. let b : B (cause.Unavailable m.boot p.boot) = (
          refl,
          refl,
          inr (
            λ e. let t : nat_eq m.boot p.boot ≡ true = grind (arith, e) in cc,
            (
              o,
              live,
              tag,
              grind (arith, apart, after),
            ),
          ),
        ) in (
          inr b,
          aborted_ends B p m.lsid m.tag s (cause.Unavailable m.boot p.boot) same b,
        ))))

    later_for : (st : SessionState) → s.state ≡ st → Q (rules.later_statement p wall m s st)
    later_for state.Live st = on_for (open_of p m.lsid) refl
    later_for (state.Prepared time coordinator) st = (tt, same_ends B p m.lsid m.tag)
    later_for (state.Committed time) st = (tt, same_ends B p m.lsid m.tag)
    later_for state.Released st = (tt, same_ends B p m.lsid m.tag)
    later_for (state.Aborted why read_at) st =
        (inl (s, read_at, is, same, st), same_ends B p m.lsid m.tag)

  -- the session has a larger number, or another transaction on this one
  replaced : (s : Session) → session p m.lsid ≡ Some s → is_replaced s m.number m.tag ≡ true
      → B (cause.Replaced s.number s.tag)
  replaced s is h = (
    s,
    is,
    refl,
    refl,
    replaced_case (int_lt m.number s.number) refl
        (int_lt s.number m.number) refl (same_tag s.tag m.tag) refl h,
  )
    where
      replaced_case : (a : Bool) → int_lt m.number s.number ≡ a → (b : Bool)
          → int_lt s.number m.number ≡ b → (c : Bool) → same_tag s.tag m.tag ≡ c
          → (a || (not b && not c)) ≡ true
          → (m.number <ℤ s.number) ⊎ ((m.number ≡ s.number) × (s.tag ≢ m.tag))
      replaced_case true below b k c t h = inl (grind (arith, below))
      replaced_case false below true above c t h = cc
      replaced_case false below false above true t h = cc
      replaced_case false below false above false t h =
          inr (
            grind (arith, below, above),
            λ e.
                let same : same_tag s.tag m.tag ≡ true =
                ap (λ (x : Tag). same_tag x m.tag) e ∙ tag_self m.tag in
                cc,
          )

  newer_than : (s : Session) → session p m.lsid ≡ Some s → is_replaced s m.number m.tag ≡ false
      → same_tag s.tag m.tag ≡ false → IsNewer p m
  newer_than s is free apart t found =
      let both : Some t ≡ Some s = sym found ∙ is in
      let one : t ≡ s = cc in
      subst (λ (x : Session). x.number <ℤ m.number) (sym one)
      (newer_case (int_lt m.number s.number) refl (int_lt s.number m.number) refl
      (same_tag s.tag m.tag) apart free)
    where
      newer_case : (a : Bool) → int_lt m.number s.number ≡ a → (b : Bool)
          → int_lt s.number m.number ≡ b → (c : Bool) → c ≡ false
          → (a || (not b && not c)) ≡ false → s.number <ℤ m.number
      newer_case true below b k c t h = cc
      newer_case false below true above c t h = grind (arith, above)
      newer_case false below false above true t h = cc
      newer_case false below false above false t h = cc

  apart_than : (s : Session) → session p m.lsid ≡ Some s → same_tag s.tag m.tag ≡ false
      → (t : Session) → session p m.lsid ≡ Some t → same_tag t.tag m.tag ≡ false
  apart_than s is apart t found =
      let both : Some t ≡ Some s = sym found ∙ is in
      let one : t ≡ s = cc in
      subst (λ (x : Session). same_tag x.tag m.tag ≡ false) (sym one) apart

  found_for : (o : Option Session) → session p m.lsid ≡ o → Q (rules.by_session p last wall m o)
  found_for None is =
      none_for (ap (mine_of m.tag) (none_open is))
      (λ s there. let wrong : None ≡ Some s = sym is ∙ there in cc)
      (λ s there. let wrong : None ≡ Some s = sym is ∙ there in cc) is
  found_for (Some s) is =
      either_is (is_replaced s m.number m.tag) Q _ _
      (λ yes. says (cause.Replaced s.number s.tag) (replaced s is yes))
      (λ free. either_is (same_tag s.tag m.tag) Q _ _
      (λ same. later_for s is (tag_same s.tag m.tag same) s.state refl)
      (λ apart. first_for (mine_apart (open_of p m.lsid) s.tag (same_tag s.tag m.tag) refl apart
      (open_tag p opens m.lsid at_session s is)) (apart_than s is apart) (newer_than s is free apart)
      s is))

  pub statement_for : Q (statement p last wall m)
  unfolding statement
  statement_for = found_for (session p m.lsid) refl

-- Commits.

-- a cause is told that a transaction had ended with, or for a reason
abbrev pub ToldBy : (Cause → Type 0) → Part → Lsid → Tag → Told → Type 0
ToldBy B p lsid tag (told.Aborted why) = Again p lsid tag why ⊎ B why
ToldBy B p lsid tag other = Unit {0}

module _ (p : Part) (last wall : ℕ) (m : Commit) where
  abbrev CB : Cause → Type 0
  CB why = CommitBecause p last m why

  abbrev C : Committing → Type 0
  C c = IfSome c.told (ToldBy CB p m.lsid m.tag) × EndsFor CB p m.lsid m.tag c.part

  tells_for : (t : Told) → ToldBy CB p m.lsid m.tag t → C (co.tells p last t)
  tells_for t h = (h, same_ends CB p m.lsid m.tag)

  lost_for : IsElsewhere p m → C (co.tells p last (told.Aborted (cause.Unavailable m.boot p.boot)))
  lost_for apart = tells_for (told.Aborted (cause.Unavailable m.boot p.boot))
      (inr (refl, refl, inr apart))

  module _ (s : Session) (is : session p m.lsid ≡ Some s) (same : s.tag ≡ m.tag) where
    fails_for : (why : Cause) → CB why → C (co.fails p last m s why)
    fails_for why b = (inr b, aborted_ends CB p m.lsid m.tag s why same b)

    releases_for : C (co.releases p last m s)
    releases_for = (
      tt,
      put_ends CB p (co.releases p last m s).part m.lsid m.tag
          (record { number = s.number; tag = s.tag; state = state.Released }) refl
          (λ other read_at h. cc),
    )

    commits_for : (o : Open) (at : ℕ) → C (co.commits p m s o at)
    commits_for o at = (
      tt,
      put_ends CB p (co.commits p m s o at).part m.lsid m.tag
          (record { number = s.number; tag = s.tag; state = state.Committed at }) refl
          (λ other read_at h. cc),
    )

    by_for : (o : Open) (at : Option ℕ) → (at ≡ None → last ≡ last_time)
        → C (co.commits_by p last m s o at)
    by_for o None ends = fails_for (cause.ClockEnd last) (refl, ends refl)
    by_for o (Some at) ends = commits_for o at

    clock_ends : (test : Bool) (n : ℕ) → (if test then None else Some n) ≡ None → test ≡ true
    clock_ends true n h = refl
    clock_ends false n h = cc

    at_end : ticked last wall ≡ None → last ≡ last_time
    at_end h =
        let t : nat_eq last last_time ≡ true =
        clock_ends (nat_eq last last_time) (next_time last wall) h in
        grind (arith, t)

    writes_for : (o : Open) (writes : List Write) → C (co.commits_writes p last wall m s o writes)
    writes_for o [] = releases_for
    writes_for o (write ∷ writes) = by_for o (ticked last wall) at_end

    open_for : (o : Option Open) → C (co.commits_open p last wall m s o)
    open_for None = releases_for
    open_for (Some o) = writes_for o o.writes

    own_for : (st : SessionState) → s.state ≡ st → C (co.commits_own p last wall m s st)
    own_for state.Live st =
        either_is (nat_eq m.boot p.boot) C _ _ (λ now. open_for (open_of p m.lsid))
        (λ other. fails_for (cause.Unavailable m.boot p.boot) (refl, refl, inl (boots_apart other)))
      where
        boots_apart : nat_eq m.boot p.boot ≡ false → m.boot ≢ p.boot
        boots_apart other e = let t : nat_eq m.boot p.boot ≡ true = grind (arith, e) in cc
    own_for (state.Prepared time coordinator) st = (tt, same_ends CB p m.lsid m.tag)
    own_for (state.Committed time) st = tells_for (told.Committed time) tt
    own_for state.Released st = tells_for told.Released tt
    own_for (state.Aborted why read_at) st =
        tells_for (told.Aborted why) (inl (s, read_at, is, same, st))

  committing_for : (o : Option Session) → session p m.lsid ≡ o
      → C (co.commits_session p last wall m o)
  committing_for None is = lost_for (λ s there. let wrong : None ≡ Some s = sym is ∙ there in cc)
  committing_for (Some s) is =
      either_is (int_lt m.number s.number) C _ _ (λ old. tells_for (told.TooOld s.number) tt)
      (λ fits. either_is (same_tag s.tag m.tag) C _ _
      (λ same. own_for s is (tag_same s.tag m.tag same) s.state refl)
      (λ apart. lost_for (λ t there. elsewhere_case s t is there fits apart)))
    where
      elsewhere_case : (s t : Session) → session p m.lsid ≡ Some s → session p m.lsid ≡ Some t
          → int_lt m.number s.number ≡ false → same_tag s.tag m.tag ≡ false
          → (t.tag ≢ m.tag) × ((m.number <ℤ t.number) → ⊥)
      elsewhere_case s t is there fits apart =
          let both : Some s ≡ Some t = sym is ∙ there in
          let one : s ≡ t = cc in
          let f : int_lt m.number t.number ≡ false =
          ap (λ (x : Session). int_lt m.number x.number) (sym one) ∙ fits in
          let a : same_tag t.tag m.tag ≡ false =
          ap (λ (x : Session). same_tag x.tag m.tag) (sym one) ∙ apart in (
            λ e. let same : same_tag t.tag m.tag ≡ true =
                ap (λ (x : Tag). same_tag x m.tag) e ∙ tag_self m.tag in cc,
            λ below. let b : int_lt m.number t.number ≡ true = grind (arith, below) in cc,
          )

  pub commit_for : C (commit p last wall m)
  unfolding commit
  commit_for = committing_for (session p m.lsid) refl

-- Aborts, recoveries, and the want of memory.

abbrev pub AbortBecause : Abort → Cause → Type 0
AbortBecause m why = why ≡ cause.ClientAbort m.why

abbrev pub MemoryBecause : Cause → Type 0
MemoryBecause why = why ≡ cause.Memory

module _ (p : Part) where
  aborts_own_for : (m : Abort) (s : Session) (st : SessionState) → s.tag ≡ m.tag
      → EndsFor (AbortBecause m) p m.lsid m.tag (ab.aborts_own p m s st)
  aborts_own_for m s state.Live same = aborted_ends (AbortBecause m) p m.lsid m.tag s
      (cause.ClientAbort m.why) same refl
  aborts_own_for m s (state.Prepared time coordinator) same =
      same_ends (AbortBecause m) p m.lsid m.tag
  aborts_own_for m s (state.Committed time) same = same_ends (AbortBecause m) p m.lsid m.tag
  aborts_own_for m s state.Released same = same_ends (AbortBecause m) p m.lsid m.tag
  aborts_own_for m s (state.Aborted why read_at) same = same_ends (AbortBecause m) p m.lsid m.tag

  aborting_for : (m : Abort) (o : Option Session)
      → EndsFor (AbortBecause m) p m.lsid m.tag (ab.aborts_session p m o)
  aborting_for m None = same_ends (AbortBecause m) p m.lsid m.tag
  aborting_for m (Some s) =
      either_is (same_tag s.tag m.tag) (EndsFor (AbortBecause m) p m.lsid m.tag) _ _
      (λ same. aborts_own_for m s s.state (tag_same s.tag m.tag same))
      (λ apart. same_ends (AbortBecause m) p m.lsid m.tag)

  pub abort_for : (m : Abort) → EndsFor (AbortBecause m) p m.lsid m.tag (abort p m)
  unfolding abort
  abort_for m = aborting_for m (session p m.lsid)

  abbrev R : Recover → re.Telling → Type 0
  R m t = ToldBy (RecoverBecause p m) p m.lsid m.tag t.0
      × EndsFor (RecoverBecause p m) p m.lsid m.tag t.1

  recovers_own_for : (m : Recover) (s : Session) (st : SessionState) → session p m.lsid ≡ Some s
      → s.tag ≡ m.tag → s.state ≡ st → R m (re.recovers_own p m s st)
  recovers_own_for m s state.Live is same st = (
    inr refl,
    aborted_ends (RecoverBecause p m) p m.lsid m.tag s (cause.ClientAbort 3) same refl,
  )
  recovers_own_for m s (state.Prepared time coordinator) is same st =
      (tt, same_ends (RecoverBecause p m) p m.lsid m.tag)
  recovers_own_for m s (state.Committed time) is same st =
      (tt, same_ends (RecoverBecause p m) p m.lsid m.tag)
  recovers_own_for m s state.Released is same st =
      (tt, same_ends (RecoverBecause p m) p m.lsid m.tag)
  recovers_own_for m s (state.Aborted why read_at) is same st =
      (inl (s, read_at, is, same, st), same_ends (RecoverBecause p m) p m.lsid m.tag)

  recovers_none_for : (m : Recover) → R m (re.recovers_none p m)
  recovers_none_for m =
      either_is (nat_eq m.boot p.boot) (R m) _ _
      (λ now. (tt, same_ends (RecoverBecause p m) p m.lsid m.tag))
      (λ other. (
        inr (
          refl,
          refl,
          λ e. let t : nat_eq m.boot p.boot ≡ true = grind (arith, e) in cc,
        ),
        same_ends (RecoverBecause p m) p m.lsid m.tag,
      ))

  recovering_for : (m : Recover) (o : Option Session) → session p m.lsid ≡ o
      → R m (re.recovers_session p m o)
  recovering_for m None is = recovers_none_for m
  recovering_for m (Some s) is =
      either (int_lt m.number s.number) (R m) _ _
      (tt, same_ends (RecoverBecause p m) p m.lsid m.tag)
      (either_is (same_tag s.tag m.tag) (R m) _ _
      (λ same. recovers_own_for m s s.state is (tag_same s.tag m.tag same) refl)
      (λ apart. recovers_none_for m))

  pub recover_for : (m : Recover) → R m (recover p m)
  unfolding recover
  recover_for m = recovering_for m (session p m.lsid) refl

  ends_own_for : (lsid : Lsid) (tag : Tag) (s : Session) (st : SessionState) → s.tag ≡ tag
      → EndsFor MemoryBecause p lsid tag (me.ends_own p lsid s st)
  ends_own_for lsid tag s state.Live same =
      aborted_ends MemoryBecause p lsid tag s cause.Memory same refl
  ends_own_for lsid tag s (state.Prepared time coordinator) same =
      same_ends MemoryBecause p lsid tag
  ends_own_for lsid tag s (state.Committed time) same = same_ends MemoryBecause p lsid tag
  ends_own_for lsid tag s state.Released same = same_ends MemoryBecause p lsid tag
  ends_own_for lsid tag s (state.Aborted why read_at) same = same_ends MemoryBecause p lsid tag

  ending_for : (lsid : Lsid) (tag : Tag) (o : Option Session)
      → EndsFor MemoryBecause p lsid tag (me.ends_session p lsid tag o)
  ending_for lsid tag None = same_ends MemoryBecause p lsid tag
  ending_for lsid tag (Some s) =
      either_is (same_tag s.tag tag) (EndsFor MemoryBecause p lsid tag) _ _
      (λ same. ends_own_for lsid tag s s.state (tag_same s.tag tag same))
      (λ apart. same_ends MemoryBecause p lsid tag)

  pub memory_for : (lsid : Lsid) (tag : Tag)
      → EndsFor MemoryBecause p lsid tag (ended_for_memory p lsid tag)
  memory_for lsid tag = ending_for lsid tag (session p lsid)
