-- A shard's part: what it says and keeps of lost transactions names two boots.
use Rattle.std.proofs.Common.{◌≡◌, ◌≢◌, inl, inr, ◌<ℤ◌, ℕ, ℤ, Bool, true, false, not}
use Rattle.std.proofs.Common.{◌&&◌, ◌||◌, ◌-◌, ◌∙◌, All, List, [], ◌∷◌, Option, Some, None, IfSome}
use Rattle.std.proofs.Common.{Result, Ok, Err, refl, sym, ap, subst, nat_eq, nat_lt, nat_le, int_lt}
use Rattle.std.proofs.Common.{if◌then◌else◌, arith}
use Rattle.std.proofs.lemmas.Bool.{eq-eqb}
use Rattle.std.proofs.lemmas.Int.{ints}
use Rattle.txn_types.specs.BySession.{with_entry}
use Rattle.txn_types.specs.Clock.{ticked}
use Rattle.txn_types.specs.Order.{same_tag, same_lsid}
use Rattle.txn_types.specs.declared.cause.By.{By}
use Rattle.txn_types.specs.declared.cause.Cause.{Cause}
use Rattle.txn_types.specs.declared.cause.Cause.TheVariants as cause
use Rattle.txn_types.specs.declared.decision.Decision.{Decision}
use Rattle.txn_types.specs.declared.decision.Decision.TheVariants as decision
use Rattle.txn_types.specs.declared.decision.Told.TheVariants as told
use Rattle.txn_types.specs.declared.id.Id.{Id}
use Rattle.txn_types.specs.declared.message.Abort.{Abort}
use Rattle.txn_types.specs.declared.message.Commit.{Commit}
use Rattle.txn_types.specs.declared.message.Decide.{Decide}
use Rattle.txn_types.specs.declared.message.Prepare.{Prepare}
use Rattle.txn_types.specs.declared.message.Recover.{Recover}
use Rattle.txn_types.specs.declared.message.Statement.{Statement}
use Rattle.txn_types.specs.declared.names.Tag.{Tag}
use Rattle.txn_types.specs.declared.node.Lsid.{Lsid}
use Rattle.txn_types.specs.declared.operation.OpReply.{OpReply}
use Rattle.txn_types.specs.declared.write.Write.{Write}
use Rattle.txn_semantics.specs.Meaning.{Meaning, eval, ns_of}
use Rattle.txn_semantics.specs.Rows.{Row}
use Rattle.txn_semantics.specs.Touched.{touched}
use Rattle.journal_rec.specs.Volume.{volume}
use Rattle.session_table.specs.Sessions.{is_full, state_behind}
use Rattle.session_table.specs.declared.session.Session.{Session}
use Rattle.session_table.specs.declared.session.SessionState.{SessionState}
use Rattle.session_table.specs.declared.session.SessionState.TheVariants as state
use Rattle.version_store.specs.Versions.{scan, conflict}
use Rattle.version_store.specs.declared.version.Held.{Held}
use Rattle.participant.specs.declared.said.Open.{Open}
use Rattle.participant.specs.declared.said.Said.{Said}
use Rattle.participant.specs.declared.said.Said.TheVariants.{Refused}
use Rattle.participant.specs.Part.{Part, session, open_of, closed, without_live, aborted, ends_live}
use Rattle.participant.specs.Part.{is_replaced}
use Rattle.participant.specs.Statement as stm
use Rattle.participant.specs.Commit as co
use Rattle.participant.specs.Prepare as pr
use Rattle.participant.specs.Decide as de
use Rattle.participant.specs.Abort as ab
use Rattle.participant.specs.Recover as rc
use Rattle.participant.specs.Expiry.{expire, expire_all, lifetime}
use Rattle.participant.specs.Memory.{ended_for_memory, ends_session, ends_own}
use Rattle.participant.proofs.Cases.{either}
use Rattle.participant.proofs.Ends.{entry_elsewhere}
use Rattle.participant.proofs.Moving.{entry_here}
use Rattle.participant.proofs.Tags.{lsid_same, tag_self}
use Rattle.cluster_core.specs.Parts.{HasCome}
use Rattle.known_laws.proofs.Sessions.{entries_put, entry_named}
use Rattle.lost_laws.specs.Lost.{IsApart, Refuses, ToldApart, StateApart, PartApart}

abbrev Entry : Lsid × Session → Type 0
Entry entry = StateApart entry.1.state

put_apart : (p q : Part) (lsid : Lsid) (new : Session)
    → q.sessions.entries ≡ with_entry lsid new p.sessions.entries → StateApart new.state
    → PartApart p → PartApart q
put_apart p q lsid new e this h =
    subst (All Entry) (sym e) (entries_put Entry lsid new p.sessions.entries this h)

pub aborted_apart : (p : Part) (lsid : Lsid) (s : Session) (why : Cause) → IsApart why → PartApart p
    → PartApart (aborted p lsid s why)
aborted_apart p lsid s why w h = put_apart p (aborted p lsid s why) lsid
    (record { number = s.number; tag = s.tag; state = state.Aborted why 0 }) refl w h

closed_apart : (p : Part) (lsid : Lsid) (o : Option Open) → PartApart p
    → PartApart (closed p lsid o)
closed_apart p lsid None h = h
closed_apart p lsid (Some o) h = h

pub state_apart : (p : Part) (lsid : Lsid) (s : Session) → session p lsid ≡ Some s → PartApart p
    → StateApart s.state
state_apart p lsid s is h = entry_named Entry lsid p.sessions.entries h s is

-- boots that a test tells apart
boots_apart : (a b : ℕ) (test : Bool) → nat_eq a b ≡ test → test ≡ false → a ≢ b
boots_apart a b test e f same = clash test (sym e ∙ eq-eqb a b same) f
  where
    clash : (t : Bool) → t ≡ true → t ≡ false → ⊥
    clash true x y = cc
    clash false x y = cc

-- of a choice by boots, the side where they differ
pub by_boots : {A : Type 0} (P : A → Type 0) (a b : ℕ) (x y : A) (test : Bool) → nat_eq a b ≡ test
    → P x → (a ≢ b → P y) → P (if test then x else y)
by_boots P a b x y true e h k = h
by_boots P a b x y false e h k = k (boots_apart a b false e refl)

-- Statements.

abbrev SaidApart : Said → Type 0
SaidApart (Refused why at) = IsApart why
SaidApart other = Unit {0}

abbrev pub TurnApart : stm.Turn → Type 0
TurnApart t = SaidApart t.0 × PartApart t.1

refuses_apart : (p : Part) (m : Statement) (why : Cause) (at : ℕ) → IsApart why → PartApart p
    → TurnApart (stm.refuses p m why at)
refuses_apart p m why at w h = (
  w,
  put_apart (without_live p m.lsid) (stm.refuses p m why at).1 m.lsid
      (record { number = m.number; tag = m.tag; state = state.Aborted why at }) refl w
      (closed_apart p m.lsid (open_of p m.lsid) h),
)

room_apart : (p : Part) (m : Statement) (mine : Option Open) → PartApart p
    → PartApart (stm.made_room p m mine)
room_apart p m None h = closed_apart p m.lsid (open_of p m.lsid) h
room_apart p m (Some o) h = h

does_apart : (p : Part) (wall : ℕ) (m : Statement) (at : ℕ) (mine : Option Open) (reply : OpReply)
    (writes : List Write) → PartApart p → TurnApart (stm.does p wall m at mine reply writes)
does_apart p wall m at mine reply writes h = (
  tt,
  put_apart (stm.made_room p m mine) (stm.does p wall m at mine reply writes).1
      m.lsid (record { number = m.number; tag = m.tag; state = state.Live }) refl tt
      (room_apart p m mine h),
)

within_apart : (p : Part) (wall : ℕ) (m : Statement) (at : ℕ)
    (mine : Option Open) (reply : OpReply) (writes : List Write) → PartApart p
    → TurnApart (stm.within_volume p wall m at mine reply writes)
within_apart p wall m at mine reply writes h =
    either (nat_lt stm.most_bytes (volume (stm.writes_with mine writes))) TurnApart _ _
    (refuses_apart p m (cause.Volume (volume (stm.writes_with mine writes))) 0 tt h)
    (does_apart p wall m at mine reply writes h)

conflict_apart : (p : Part) (wall : ℕ) (m : Statement) (at : ℕ) (mine : Option Open)
    (reply : OpReply) (writes : List Write) (c : Option (Id × By)) → PartApart p
    → TurnApart (stm.unless_conflict p wall m at mine reply writes c)
conflict_apart p wall m at mine reply writes None h = within_apart p wall m at mine reply writes h
conflict_apart p wall m at mine reply writes (Some c) h =
    refuses_apart p m (cause.WriteConflict c.0 c.1) 0 tt h

evaluated_apart : (p : Part) (wall : ℕ) (m : Statement) (at : ℕ) (mine : Option Open)
    (meaning : Meaning) → PartApart p → TurnApart (stm.evaluated p wall m at mine meaning)
evaluated_apart p wall m at mine (Err err) h = refuses_apart p m (cause.Statement err) at tt h
evaluated_apart p wall m at mine (Ok done) h =
    conflict_apart p wall m at mine done.0 done.1 (conflict p.store at m.tag done.1) h

scanned_apart : (p : Part) (wall : ℕ) (m : Statement) (at : ℕ) (mine : Option Open)
    (rows : Result (List Row) Held) → PartApart p → TurnApart (stm.scanned p wall m at mine rows)
scanned_apart p wall m at mine (Err held) h = (tt, h)
scanned_apart p wall m at mine (Ok rows) h = evaluated_apart p wall m at mine (eval m.op rows) h

performed_apart : (p : Part) (wall : ℕ) (m : Statement) (at : ℕ) (mine : Option Open) → PartApart p
    → TurnApart (stm.performed p wall m at mine)
unfolding stm.performed
performed_apart p wall m at mine h =
    scanned_apart p wall m at mine (scan p.store (ns_of m.op) (touched m.op) at m.tag) h

begins_apart : (p : Part) (last wall : ℕ) (m : Statement) → PartApart p
    → TurnApart (stm.begins p last wall m)
begins_apart p last wall m h = performed_apart p wall m (stm.read_time last m) None h

older_apart : (p : Part) (last wall : ℕ) (m : Statement) (older : Tag) (st : SessionState)
    → PartApart p → TurnApart (stm.beside_older p last wall m older st)
older_apart p last wall m older state.Live h = begins_apart p last wall m h
older_apart p last wall m older (state.Prepared at coordinator) h = (tt, h)
older_apart p last wall m older (state.Committed at) h = begins_apart p last wall m h
older_apart p last wall m older state.Released h = begins_apart p last wall m h
older_apart p last wall m older (state.Aborted why read_at) h = begins_apart p last wall m h

beside_apart : (p : Part) (last wall : ℕ) (m : Statement) (s : Option Session) → PartApart p
    → TurnApart (stm.beside p last wall m s)
beside_apart p last wall m None h =
    either (is_full p.sessions) TurnApart _ _ (tt, h) (begins_apart p last wall m h)
beside_apart p last wall m (Some s) h = older_apart p last wall m s.tag s.state h

first_apart : (p : Part) (last wall : ℕ) (m : Statement) (s : Option Session) → m.boot ≢ p.boot
    → PartApart p → TurnApart (stm.first_statement p last wall m s)
first_apart p last wall m s apart h =
    either (nat_eq m.boot 0) TurnApart _ _ (beside_apart p last wall m s h) (apart, h)

goes_apart : (p : Part) (wall : ℕ) (m : Statement) (s : Session) (o : Option Open) → PartApart p
    → TurnApart (stm.goes_on p wall m s o)
goes_apart p wall m s None h = (tt, h)
goes_apart p wall m s (Some o) h =
    either (nat_eq m.k o.k) TurnApart _ _ (tt, h)
    (either (nat_lt m.k o.k) TurnApart _ _ (tt, h)
    (by_boots TurnApart m.boot p.boot (stm.performed p wall m o.read_at (Some o)) (
      Refused (cause.Unavailable m.boot p.boot) 0,
      aborted p m.lsid s (cause.Unavailable m.boot p.boot),
    ) (nat_eq m.boot p.boot) refl
    (performed_apart p wall m o.read_at (Some o) h)
    (λ apart. (apart, aborted_apart p m.lsid s (cause.Unavailable m.boot p.boot) apart h))))

later_apart : (p : Part) (wall : ℕ) (m : Statement) (s : Session) (st : SessionState)
    → StateApart st → PartApart p → TurnApart (stm.later_statement p wall m s st)
later_apart p wall m s state.Live w h = goes_apart p wall m s (open_of p m.lsid) h
later_apart p wall m s (state.Prepared at coordinator) w h = (tt, h)
later_apart p wall m s (state.Committed at) w h = (tt, h)
later_apart p wall m s state.Released w h = (tt, h)
later_apart p wall m s (state.Aborted why read_at) w h = (w, h)

-- Of a transaction that has come in this boot the session has the tag, or a larger number.

abbrev pub Comes : Part → ℕ → Lsid → ℤ → Tag → Type 0
Comes p boot lsid number tag = boot ≡ p.boot → HasCome p lsid number tag

none_there : (s : Session) → None ≡ Some s → ⊥
none_there s e = cc

some_is : (s t : Session) → Some s ≡ Some t → s ≡ t
some_is s t e = grind arith

not_both : (b : Bool) → b ≡ true → b ≡ false → ⊥
not_both true x y = cc
not_both false x y = cc

pub no_session : (p : Part) (boot : ℕ) (lsid : Lsid) (number : ℤ) (tag : Tag)
    → session p lsid ≡ None → Comes p boot lsid number tag → boot ≢ p.boot
no_session p boot lsid number tag is c e = let come = c e in none_there come.0 (sym is ∙ come.1)

not_less : (a b : ℤ) → int_lt a b ≡ false → a <ℤ b → ⊥
not_less a b e h = omega (arith, ints, e, h)

pub other_tag : (p : Part) (boot : ℕ) (lsid : Lsid) (number : ℤ) (tag : Tag) (s : Session)
    → session p lsid ≡ Some s → same_tag s.tag tag ≡ false → int_lt number s.number ≡ false
    → Comes p boot lsid number tag → boot ≢ p.boot
other_tag p boot lsid number tag s is apart low c e =
    let come = c e in
    let same : come.0 ≡ s = some_is come.0 s (sym come.1 ∙ is) in
    elim come.2 [
      | inl own ↦ not_both (same_tag s.tag tag) (subst (λ (t : Tag). same_tag s.tag t ≡ true)
          (sym (ap (λ (x : Session). x.tag) same) ∙ own) (tag_self s.tag)) apart
      | inr less ↦
          not_less number s.number low (subst (λ (x : Session). number <ℤ x.number) same less)
    ]

replaced_low : (a b c : Bool) → (a || (not b && not c)) ≡ false → a ≡ false
replaced_low true b c e = cc
replaced_low false b c e = refl

statement_tag : (p : Part) (last wall : ℕ) (m : Statement) (s : Session) (test : Bool)
    → same_tag s.tag m.tag ≡ test → session p m.lsid ≡ Some s → int_lt m.number s.number ≡ false
    → Comes p m.boot m.lsid m.number m.tag → PartApart p
    → TurnApart (if test then stm.later_statement p wall m s s.state
    else stm.first_statement p last wall m (Some s))
statement_tag p last wall m s true e is low c h =
    later_apart p wall m s s.state (state_apart p m.lsid s is h) h
statement_tag p last wall m s false e is low c h =
    first_apart p last wall m (Some s) (other_tag p m.boot m.lsid m.number m.tag s is e low c) h

statement_some : (p : Part) (last wall : ℕ) (m : Statement) (s : Session) (test : Bool)
    → is_replaced s m.number m.tag ≡ test → session p m.lsid ≡ Some s
    → Comes p m.boot m.lsid m.number m.tag → PartApart p
    → TurnApart (if test then stm.refused p (cause.Replaced s.number s.tag)
    else if same_tag s.tag m.tag then stm.later_statement p wall m s s.state
    else stm.first_statement p last wall m (Some s))
statement_some p last wall m s true e is c h = (tt, h)
statement_some p last wall m s false e is c h =
    statement_tag p last wall m s (same_tag s.tag m.tag) refl is (replaced_low
    (int_lt m.number s.number) (int_lt s.number m.number) (same_tag s.tag m.tag) e) c h

session_apart : (p : Part) (last wall : ℕ) (m : Statement) (s : Option Session)
    → session p m.lsid ≡ s → Comes p m.boot m.lsid m.number m.tag → PartApart p
    → TurnApart (stm.by_session p last wall m s)
session_apart p last wall m None is c h =
    first_apart p last wall m None (no_session p m.boot m.lsid m.number m.tag is c) h
session_apart p last wall m (Some s) is c h =
    statement_some p last wall m s (is_replaced s m.number m.tag) refl is c h

pub statement_apart : (p : Part) (last wall : ℕ) (m : Statement)
    → Comes p m.boot m.lsid m.number m.tag → PartApart p → TurnApart (stm.statement p last wall m)
unfolding stm.statement
statement_apart p last wall m c h = session_apart p last wall m (session p m.lsid) refl c h

-- Ends of transactions.

ends_apart : (p : Part) (lsid : Lsid) (why : Cause) (s : Option Session) → IsApart why → PartApart p
    → PartApart (ends_live p lsid why s)
ends_apart p lsid why None w h = h
ends_apart p lsid why (Some s) w h = aborted_apart p lsid s why w h

expire_all_apart : (wall : ℕ) (entries : List (Lsid × Open)) (p : Part) → PartApart p
    → PartApart (expire_all wall entries p)
expire_all_apart wall [] p h = h
expire_all_apart wall (entry ∷ entries) p h =
    expire_all_apart wall entries _
    (either (nat_lt lifetime (wall - entry.1.begun)) PartApart _ _
    (ends_apart p entry.0 (cause.Expired entry.1.begun wall) (session p entry.0) tt h) h)

pub expire_apart : (p : Part) (wall : ℕ) → PartApart p → PartApart (expire p wall)
unfolding expire
expire_apart p wall h = expire_all_apart wall p.live p h

-- each session stays, with its number and its transaction, where transactions expire
abbrev Stays : Part → Part → Type 0
Stays p q = (lsid : Lsid) (s : Session) → session p lsid ≡ Some s
    → (t : Session) × (session q lsid ≡ Some t) × (t.number ≡ s.number) × (t.tag ≡ s.tag)

abort_case : (p : Part) (lsid : Lsid) (own : Session) (why : Cause) → session p lsid ≡ Some own
    → (other : Lsid) (s : Session) (test : Bool) → same_lsid other lsid ≡ test
    → session p other ≡ Some s
    → (t : Session) × (session (aborted p lsid own why) other ≡ Some t) × (t.number ≡ s.number)
    × (t.tag ≡ s.tag)
abort_case p lsid own why is other s true e there =
    let now : Session =
    record { number = own.number; tag = own.tag; state = state.Aborted why 0 } in
    let at : other ≡ lsid = lsid_same other lsid e in
    let same : own ≡ s = some_is own s (sym is ∙ sym (ap (session p) at) ∙ there) in (
      now,
      ap (session (aborted p lsid own why)) at ∙ entry_here lsid now p.sessions.entries,
      ap (λ (x : Session). x.number) same,
      ap (λ (x : Session). x.tag) same,
    )
abort_case p lsid own why is other s false e there = (
  s,
  entry_elsewhere other lsid e
      (record { number = own.number; tag = own.tag; state = state.Aborted why 0 })
      p.sessions.entries ∙ there,
  refl,
  refl,
)

ends_stay : (p : Part) (lsid : Lsid) (why : Cause) (x : Option Session) → session p lsid ≡ x
    → Stays p (ends_live p lsid why x)
ends_stay p lsid why None is other s there = (s, there, refl, refl)
ends_stay p lsid why (Some own) is other s there =
    abort_case p lsid own why is other s (same_lsid other lsid) refl there

stay_on : (p q r : Part) → Stays p q → Stays q r → Stays p r
stay_on p q r a b lsid s there = let first = a lsid s there in let next = b lsid first.0 first.1 in
    (next.0, next.1, next.2 ∙ first.2, next.3 ∙ first.3)

expire_all_stay : (wall : ℕ) (entries : List (Lsid × Open)) (p q : Part) → Stays p q
    → Stays p (expire_all wall entries q)
expire_all_stay wall [] p q h = h
expire_all_stay wall (entry ∷ entries) p q h =
    expire_all_stay wall entries p _
    (either (nat_lt lifetime (wall - entry.1.begun)) (Stays p) _ _
    (stay_on p q (ends_live q entry.0 (cause.Expired entry.1.begun wall) (session q entry.0)) h
    (ends_stay q entry.0 (cause.Expired entry.1.begun wall) (session q entry.0) refl)) h)

expire_stay : (p : Part) (wall : ℕ) → Stays p (expire p wall)
unfolding expire
expire_stay p wall = expire_all_stay wall p.live p p (λ lsid s there. (s, there, refl, refl))

ends_boot : (p : Part) (lsid : Lsid) (why : Cause) (x : Option Session)
    → (ends_live p lsid why x).boot ≡ p.boot
ends_boot p lsid why None = refl
ends_boot p lsid why (Some own) = refl

expire_all_boot : (wall : ℕ) (entries : List (Lsid × Open)) (p q : Part) → q.boot ≡ p.boot
    → (expire_all wall entries q).boot ≡ p.boot
expire_all_boot wall [] p q h = h
expire_all_boot wall (entry ∷ entries) p q h =
    expire_all_boot wall entries p _
    (either (nat_lt lifetime (wall - entry.1.begun)) (λ (r : Part). r.boot ≡ p.boot) _ _
    (ends_boot q entry.0 (cause.Expired entry.1.begun wall) (session q entry.0) ∙ h) h)

expire_boot : (p : Part) (wall : ℕ) → (expire p wall).boot ≡ p.boot
unfolding expire
expire_boot p wall = expire_all_boot wall p.live p p refl

come_on : (p q : Part) (lsid : Lsid) (number : ℤ) (tag : Tag) → Stays p q
    → HasCome p lsid number tag → HasCome q lsid number tag
come_on p q lsid number tag k (s, is, h) =
    let t = k lsid s is in (
      t.0,
      t.1,
      elim h [
        | inl own ↦ inl (t.3 ∙ own)
        | inr less ↦ inr (subst (λ (n : ℤ). number <ℤ n) (sym t.2) less)
      ],
    )

pub expire_comes : (p : Part) (wall boot : ℕ) (lsid : Lsid) (number : ℤ) (tag : Tag)
    → Comes p boot lsid number tag → Comes (expire p wall) boot lsid number tag
expire_comes p wall boot lsid number tag c e =
    come_on p (expire p wall) lsid number tag (expire_stay p wall) (c (e ∙ expire_boot p wall))

ends_own_apart : (p : Part) (lsid : Lsid) (s : Session) (st : SessionState) → PartApart p
    → PartApart (ends_own p lsid s st)
ends_own_apart p lsid s state.Live h = aborted_apart p lsid s cause.Memory tt h
ends_own_apart p lsid s (state.Prepared at coordinator) h = h
ends_own_apart p lsid s (state.Committed at) h = h
ends_own_apart p lsid s state.Released h = h
ends_own_apart p lsid s (state.Aborted why read_at) h = h

ends_session_apart : (p : Part) (lsid : Lsid) (tag : Tag) (s : Option Session) → PartApart p
    → PartApart (ends_session p lsid tag s)
ends_session_apart p lsid tag None h = h
ends_session_apart p lsid tag (Some s) h =
    either (same_tag s.tag tag) PartApart _ _ (ends_own_apart p lsid s s.state h) h

pub memory_apart : (p : Part) (lsid : Lsid) (tag : Tag) → PartApart p
    → PartApart (ended_for_memory p lsid tag)
memory_apart p lsid tag h = ends_session_apart p lsid tag (session p lsid) h

aborts_own_apart : (p : Part) (m : Abort) (s : Session) (st : SessionState) → PartApart p
    → PartApart (ab.aborts_own p m s st)
aborts_own_apart p m s state.Live h = aborted_apart p m.lsid s (cause.ClientAbort m.why) tt h
aborts_own_apart p m s (state.Prepared at coordinator) h = h
aborts_own_apart p m s (state.Committed at) h = h
aborts_own_apart p m s state.Released h = h
aborts_own_apart p m s (state.Aborted why read_at) h = h

aborts_apart : (p : Part) (m : Abort) (s : Option Session) → PartApart p
    → PartApart (ab.aborts_session p m s)
aborts_apart p m None h = h
aborts_apart p m (Some s) h =
    either (same_tag s.tag m.tag) PartApart _ _ (aborts_own_apart p m s s.state h) h

pub abort_apart : (p : Part) (m : Abort) → PartApart p → PartApart (ab.abort p m)
unfolding ab.abort
abort_apart p m h = aborts_apart p m (session p m.lsid) h

abbrev pub TellsApart : rc.Telling → Type 0
TellsApart t = ToldApart t.0 × PartApart t.1

recovers_own_apart : (p : Part) (m : Recover) (s : Session) (st : SessionState) → StateApart st
    → PartApart p → TellsApart (rc.recovers_own p m s st)
recovers_own_apart p m s state.Live w h = (tt, aborted_apart p m.lsid s (cause.ClientAbort 3) tt h)
recovers_own_apart p m s (state.Prepared at coordinator) w h = (tt, h)
recovers_own_apart p m s (state.Committed at) w h = (tt, h)
recovers_own_apart p m s state.Released w h = (tt, h)
recovers_own_apart p m s (state.Aborted why read_at) w h = (w, h)

recovers_none_apart : (p : Part) (m : Recover) → PartApart p → TellsApart (rc.recovers_none p m)
recovers_none_apart p m h = by_boots TellsApart m.boot p.boot (told.NoTrace, p)
    (told.Aborted (cause.Unavailable m.boot p.boot), p) (nat_eq m.boot p.boot) refl (tt, h)
    (λ apart. (apart, h))

recovers_apart : (p : Part) (m : Recover) (s : Option Session) → session p m.lsid ≡ s → PartApart p
    → TellsApart (rc.recovers_session p m s)
recovers_apart p m None is h = recovers_none_apart p m h
recovers_apart p m (Some s) is h =
    either (int_lt m.number s.number) TellsApart _ _ (tt, h)
    (either (same_tag s.tag m.tag) TellsApart _ _ (recovers_own_apart p m s s.state
    (state_apart p m.lsid s is h) h) (recovers_none_apart p m h))

pub recover_apart : (p : Part) (m : Recover) → PartApart p → TellsApart (rc.recover p m)
unfolding rc.recover
recover_apart p m h = recovers_apart p m (session p m.lsid) refl h

-- A decision.

abbrev DecidesApart : de.Deciding → Type 0
DecidesApart d = PartApart d.1

behind_apart : (d : Decision) → StateApart (state_behind d)
behind_apart (decision.Commit at) = tt
behind_apart (decision.Abort shard code) = tt

applies_apart : (p : Part) (m : Decide) (s : Session) → PartApart p
    → DecidesApart (de.applies p m s)
applies_apart p m s h = put_apart p (de.decided_part p m s) m.lsid
    (record { number = s.number; tag = s.tag; state = state_behind m.decision }) refl
    (behind_apart m.decision) h

decides_prepared_apart : (p : Part) (m : Decide) (s : Session) (at : ℕ) (d : Decision) → PartApart p
    → DecidesApart (de.decides_prepared p m s at d)
decides_prepared_apart p m s at (decision.Commit time) h =
    either (nat_le at time) DecidesApart _ _ (applies_apart p m s h) h
decides_prepared_apart p m s at (decision.Abort shard code) h = applies_apart p m s h

decides_live_apart : (p : Part) (m : Decide) (s : Session) (d : Decision) → PartApart p
    → DecidesApart (de.decides_live p m s d)
decides_live_apart p m s (decision.Commit time) h = h
decides_live_apart p m s (decision.Abort shard code) h =
    aborted_apart p m.lsid s (cause.Voted shard code) tt h

decides_own_apart : (p : Part) (m : Decide) (s : Session) (st : SessionState) → PartApart p
    → DecidesApart (de.decides_own p m s st)
decides_own_apart p m s state.Live h = decides_live_apart p m s m.decision h
decides_own_apart p m s (state.Prepared at coordinator) h =
    decides_prepared_apart p m s at m.decision h
decides_own_apart p m s (state.Committed at) h = h
decides_own_apart p m s state.Released h = h
decides_own_apart p m s (state.Aborted why read_at) h = h

decides_apart : (p : Part) (m : Decide) (s : Option Session) → PartApart p
    → DecidesApart (de.decides_session p m s)
decides_apart p m None h = h
decides_apart p m (Some s) h =
    either (same_tag s.tag m.tag) DecidesApart _ _ (decides_own_apart p m s s.state h) h

pub decide_apart : (p : Part) (m : Decide) → PartApart p → DecidesApart (de.decide p m)
unfolding de.decide
decide_apart p m h = decides_apart p m (session p m.lsid) h

-- A commit and a prepare.

abbrev pub CommitsApart : co.Committing → Type 0
CommitsApart c = IfSome c.told ToldApart × PartApart c.part

commits_by_apart : (p : Part) (last : ℕ) (m : Commit) (s : Session) (o : Open) (t : Option ℕ)
    → PartApart p → CommitsApart (co.commits_by p last m s o t)
commits_by_apart p last m s o None h = (tt, aborted_apart p m.lsid s (cause.ClockEnd last) tt h)
commits_by_apart p last m s o (Some at) h = (
  tt,
  put_apart p (co.commits p m s o at).part m.lsid
      (record { number = s.number; tag = s.tag; state = state.Committed at }) refl tt h,
)

releases_apart : (p : Part) (last : ℕ) (m : Commit) (s : Session) → PartApart p
    → CommitsApart (co.releases p last m s)
releases_apart p last m s h = (
  tt,
  put_apart p (co.releases p last m s).part m.lsid
      (record { number = s.number; tag = s.tag; state = state.Released }) refl tt h,
)

commits_writes_apart : (p : Part) (last wall : ℕ) (m : Commit) (s : Session) (o : Open)
    (ws : List Write) → PartApart p → CommitsApart (co.commits_writes p last wall m s o ws)
commits_writes_apart p last wall m s o [] h = releases_apart p last m s h
commits_writes_apart p last wall m s o (w ∷ ws) h =
    commits_by_apart p last m s o (ticked last wall) h

commits_open_apart : (p : Part) (last wall : ℕ) (m : Commit) (s : Session) (o : Option Open)
    → PartApart p → CommitsApart (co.commits_open p last wall m s o)
commits_open_apart p last wall m s None h = releases_apart p last m s h
commits_open_apart p last wall m s (Some o) h = commits_writes_apart p last wall m s o o.writes h

commits_own_apart : (p : Part) (last wall : ℕ) (m : Commit) (s : Session) (st : SessionState)
    → StateApart st → PartApart p → CommitsApart (co.commits_own p last wall m s st)
commits_own_apart p last wall m s state.Live w h =
    by_boots CommitsApart m.boot p.boot (co.commits_open p last wall m s (open_of p m.lsid))
    (co.fails p last m s (cause.Unavailable m.boot p.boot)) (nat_eq m.boot p.boot) refl
    (commits_open_apart p last wall m s (open_of p m.lsid) h)
    (λ apart. (apart, aborted_apart p m.lsid s (cause.Unavailable m.boot p.boot) apart h))
commits_own_apart p last wall m s (state.Prepared at coordinator) w h = (tt, h)
commits_own_apart p last wall m s (state.Committed at) w h = (tt, h)
commits_own_apart p last wall m s state.Released w h = (tt, h)
commits_own_apart p last wall m s (state.Aborted why read_at) w h = (w, h)

commits_tag : (p : Part) (last wall : ℕ) (m : Commit) (s : Session) (test : Bool)
    → same_tag s.tag m.tag ≡ test → session p m.lsid ≡ Some s → int_lt m.number s.number ≡ false
    → Comes p m.boot m.lsid m.number m.tag → PartApart p
    → CommitsApart (if test then co.commits_own p last wall m s s.state
    else co.tells p last (told.Aborted (cause.Unavailable m.boot p.boot)))
commits_tag p last wall m s true e is low c h =
    commits_own_apart p last wall m s s.state (state_apart p m.lsid s is h) h
commits_tag p last wall m s false e is low c h =
    (other_tag p m.boot m.lsid m.number m.tag s is e low c, h)

commits_number : (p : Part) (last wall : ℕ) (m : Commit) (s : Session) (test : Bool)
    → int_lt m.number s.number ≡ test → session p m.lsid ≡ Some s
    → Comes p m.boot m.lsid m.number m.tag → PartApart p
    → CommitsApart (if test then co.tells p last (told.TooOld s.number)
    else if same_tag s.tag m.tag then co.commits_own p last wall m s s.state
    else co.tells p last (told.Aborted (cause.Unavailable m.boot p.boot)))
commits_number p last wall m s true e is c h = (tt, h)
commits_number p last wall m s false e is c h =
    commits_tag p last wall m s (same_tag s.tag m.tag) refl is e c h

commits_apart : (p : Part) (last wall : ℕ) (m : Commit) (s : Option Session)
    → session p m.lsid ≡ s → Comes p m.boot m.lsid m.number m.tag → PartApart p
    → CommitsApart (co.commits_session p last wall m s)
commits_apart p last wall m None is c h = (no_session p m.boot m.lsid m.number m.tag is c, h)
commits_apart p last wall m (Some s) is c h =
    commits_number p last wall m s (int_lt m.number s.number) refl is c h

pub commit_apart : (p : Part) (last wall : ℕ) (m : Commit) → Comes p m.boot m.lsid m.number m.tag
    → PartApart p → CommitsApart (co.commit p last wall m)
unfolding co.commit
commit_apart p last wall m c h = commits_apart p last wall m (session p m.lsid) refl c h

abbrev pub VotesApart : pr.Voting → Type 0
VotesApart c = IfSome c.told (λ vote. Refuses vote) × PartApart c.part

prepares_by_apart : (p : Part) (last : ℕ) (m : Prepare) (s : Session) (o : Open) (t : Option ℕ)
    → PartApart p → VotesApart (pr.prepares_by p last m s o t)
prepares_by_apart p last m s o None h = (tt, aborted_apart p m.lsid s (cause.ClockEnd last) tt h)
prepares_by_apart p last m s o (Some at) h = (
  tt,
  put_apart p (pr.prepares p m s o at).part m.lsid
      (record { number = s.number; tag = s.tag; state = state.Prepared at m.coordinator }) refl tt
      h,
)

prepares_open_apart : (p : Part) (last wall : ℕ) (m : Prepare) (s : Session) (o : Option Open)
    → PartApart p → VotesApart (pr.prepares_open p last wall m s o)
prepares_open_apart p last wall m s None h = (tt, h)
prepares_open_apart p last wall m s (Some o) h = prepares_by_apart p last m s o (ticked last wall) h

prepares_own_apart : (p : Part) (last wall : ℕ) (m : Prepare) (s : Session) (st : SessionState)
    → StateApart st → PartApart p → VotesApart (pr.prepares_own p last wall m s st)
prepares_own_apart p last wall m s state.Live w h =
    by_boots VotesApart m.boot p.boot (pr.prepares_open p last wall m s (open_of p m.lsid))
    (pr.vetoes p last m s (cause.Unavailable m.boot p.boot)) (nat_eq m.boot p.boot) refl
    (prepares_open_apart p last wall m s (open_of p m.lsid) h)
    (λ apart. (apart, aborted_apart p m.lsid s (cause.Unavailable m.boot p.boot) apart h))
prepares_own_apart p last wall m s (state.Prepared at coordinator) w h = (tt, h)
prepares_own_apart p last wall m s (state.Committed at) w h = (tt, h)
prepares_own_apart p last wall m s state.Released w h = (tt, h)
prepares_own_apart p last wall m s (state.Aborted why read_at) w h = (w, h)

prepares_tag : (p : Part) (last wall : ℕ) (m : Prepare) (s : Session) (test : Bool)
    → same_tag s.tag m.tag ≡ test → session p m.lsid ≡ Some s → int_lt m.number s.number ≡ false
    → Comes p m.boot m.lsid m.number m.tag → PartApart p
    → VotesApart (if test then pr.prepares_own p last wall m s s.state
    else pr.votes p last (Err (cause.Unavailable m.boot p.boot)))
prepares_tag p last wall m s true e is low c h =
    prepares_own_apart p last wall m s s.state (state_apart p m.lsid s is h) h
prepares_tag p last wall m s false e is low c h =
    (other_tag p m.boot m.lsid m.number m.tag s is e low c, h)

prepares_number : (p : Part) (last wall : ℕ) (m : Prepare) (s : Session) (test : Bool)
    → is_replaced s m.number m.tag ≡ test → session p m.lsid ≡ Some s
    → Comes p m.boot m.lsid m.number m.tag → PartApart p
    → VotesApart (if test then pr.votes p last (Err (cause.Replaced s.number s.tag))
    else if same_tag s.tag m.tag then pr.prepares_own p last wall m s s.state
    else pr.votes p last (Err (cause.Unavailable m.boot p.boot)))
prepares_number p last wall m s true e is c h = (tt, h)
prepares_number p last wall m s false e is c h =
    prepares_tag p last wall m s (same_tag s.tag m.tag) refl is (replaced_low
    (int_lt m.number s.number) (int_lt s.number m.number) (same_tag s.tag m.tag) e) c h

prepares_apart : (p : Part) (last wall : ℕ) (m : Prepare) (s : Option Session)
    → session p m.lsid ≡ s → Comes p m.boot m.lsid m.number m.tag → PartApart p
    → VotesApart (pr.prepares_session p last wall m s)
prepares_apart p last wall m None is c h = (no_session p m.boot m.lsid m.number m.tag is c, h)
prepares_apart p last wall m (Some s) is c h =
    prepares_number p last wall m s (is_replaced s m.number m.tag) refl is c h

pub prepare_apart : (p : Part) (last wall : ℕ) (m : Prepare) → Comes p m.boot m.lsid m.number m.tag
    → PartApart p → VotesApart (pr.prepare p last wall m)
unfolding pr.prepare
prepare_apart p last wall m c h = prepares_apart p last wall m (session p m.lsid) refl c h
