-- Sessions of a shard age: one whose transaction has ended stays as it is, or goes on to a larger
-- number. And what is released was released before.
use Rattle.std.proofs.Common.{◌≡◌, ◌⊎◌, inl, inr, ◌≤ℤ◌, ◌<ℤ◌, ℕ, ℤ, Bool, true, false, not, ◌&&◌}
use Rattle.std.proofs.Common.{◌||◌, List, Option, Some, None, Result, Ok, Err, refl, sym, ap}
use Rattle.std.proofs.Common.{subst, ◌∙◌, nat_eq, nat_lt, int_lt, if◌then◌else◌, arith}
use Rattle.std.proofs.lemmas.Int.{ints}
use Rattle.txn_types.specs.BySession.{with_entry, entry_of}
use Rattle.txn_types.specs.Order.{same_tag, same_lsid}
use Rattle.txn_types.specs.declared.cause.By.{By}
use Rattle.txn_types.specs.declared.cause.Cause.{Cause}
use Rattle.txn_types.specs.declared.cause.Cause.TheVariants as cause
use Rattle.txn_types.specs.declared.id.Id.{Id}
use Rattle.txn_types.specs.declared.message.Abort.{Abort}
use Rattle.txn_types.specs.declared.message.Statement.{Statement}
use Rattle.txn_types.specs.declared.names.Tag.{Tag}
use Rattle.txn_types.specs.declared.node.Lsid.{Lsid}
use Rattle.txn_types.specs.declared.operation.OpReply.{OpReply}
use Rattle.txn_types.specs.declared.write.Write.{Write}
use Rattle.txn_semantics.specs.Meaning.{Meaning, eval, ns_of}
use Rattle.txn_semantics.specs.Rows.{Row}
use Rattle.txn_semantics.specs.Touched.{touched}
use Rattle.journal_rec.specs.Volume.{volume}
use Rattle.session_table.specs.Sessions.{is_full}
use Rattle.session_table.specs.declared.session.Session.{Session}
use Rattle.session_table.specs.declared.session.SessionState.{SessionState}
use Rattle.session_table.specs.declared.session.SessionState.TheVariants as state
use Rattle.version_store.specs.Versions.{scan, conflict}
use Rattle.version_store.specs.declared.version.Held.{Held}
use Rattle.participant.specs.declared.said.Open.{Open}
use Rattle.participant.specs.Part.{Part, session, open_of, closed, without_live, aborted, is_replaced}
use Rattle.participant.specs.Statement as stm
use Rattle.participant.specs.Abort as ab
use Rattle.participant.specs.Memory.{ended_for_memory, ends_session, ends_own}
use Rattle.participant.proofs.Cases.{either}
use Rattle.participant.proofs.Ends.{entry_elsewhere}
use Rattle.participant.proofs.Moving.{entry_here}
use Rattle.participant.proofs.Tags.{lsid_same, tag_same}

-- it stays as it is, or goes on to a larger number; or its transaction was live, and stays its own
abbrev pub Older : Session → Session → Type 0
Older s t = (t ≡ s) ⊎ ((s.number <ℤ t.number)
    ⊎ ((s.state ≡ state.Live) × (t.tag ≡ s.tag) × (t.number ≡ s.number)))

abbrev pub Ages : Part → Part → Type 0
Ages p q = (lsid : Lsid) (s : Session) → session p lsid ≡ Some s
    → (t : Session) × (session q lsid ≡ Some t) × Older s t

-- what is released then was so before
abbrev pub NoneFreed : Part → Part → Type 0
NoneFreed p q = (lsid : Lsid) (t : Session) → session q lsid ≡ Some t → t.state ≡ state.Released
    → session p lsid ≡ Some t

abbrev pub Changes : Part → Part → Type 0
Changes p q = Ages p q × NoneFreed p q

both_up : (a b c : ℤ) → a <ℤ b → b <ℤ c → a <ℤ c
both_up a b c h k = omega (arith, ints, h, k)

up_then_same : (a b c : ℤ) → a <ℤ b → c ≡ b → a <ℤ c
up_then_same a b c h e = omega (arith, ints, h, e)

same_then_up : (a b c : ℤ) → b ≡ a → b <ℤ c → a <ℤ c
same_then_up a b c e h = omega (arith, ints, e, h)

pub older_on : (s t u : Session) → Older s t → Older t u → Older s u
older_on s t u (inl a) h = subst (λ (x : Session). Older x u) a h
older_on s t u (inr (inl a)) (inl b) =
    inr (inl (subst (λ (x : Session). s.number <ℤ x.number) (sym b) a))
older_on s t u (inr (inl a)) (inr (inl b)) = inr (inl (both_up s.number t.number u.number a b))
older_on s t u (inr (inl a)) (inr (inr b)) =
    inr (inl (up_then_same s.number t.number u.number a b.2))
older_on s t u (inr (inr a)) (inl b) = inr (inr (subst (λ (x : Session).
    (s.state ≡ state.Live) × (x.tag ≡ s.tag) × (x.number ≡ s.number)) (sym b) a))
older_on s t u (inr (inr a)) (inr (inl b)) =
    inr (inl (same_then_up s.number t.number u.number a.2 b))
older_on s t u (inr (inr a)) (inr (inr b)) = inr (inr (a.0, b.1 ∙ a.1, b.2 ∙ a.2))

pub stays : (p : Part) → Ages p p
stays p lsid s there = (s, there, inl refl)

pub still : (p : Part) → Changes p p
still p = (stays p, λ lsid t there free. there)

pub ages_on : (p q r : Part) → Ages p q → Ages q r → Ages p r
ages_on p q r a b lsid s there =
    let first = a lsid s there in
    let next = b lsid first.0 first.1 in
    (next.0, next.1, older_on s first.0 next.0 first.2 next.2)

pub some_same : {A : Type 0} (a b : A) → Some a ≡ Some b → a ≡ b
some_same a b e = cc

-- One session is put.

put_case : (p q : Part) (lsid : Lsid) (new : Session)
    → q.sessions.entries ≡ with_entry lsid new p.sessions.entries
    → ((s : Session) → session p lsid ≡ Some s → Older s new)
    → (other : Lsid) (s : Session) (test : Bool) → same_lsid other lsid ≡ test
    → session p other ≡ Some s → (t : Session) × (session q other ≡ Some t) × Older s t
put_case p q lsid new e on other s true is there =
    let at : other ≡ lsid = lsid_same other lsid is in (
      new,
      ap (λ (x : Lsid). entry_of x q.sessions.entries) at ∙ ap (entry_of lsid) e
          ∙ entry_here lsid new p.sessions.entries,
      on s (sym (ap (session p) at) ∙ there),
    )
put_case p q lsid new e on other s false is there = (
  s,
  ap (entry_of other) e ∙ entry_elsewhere other lsid is new p.sessions.entries ∙ there,
  inl refl,
)

pub puts : (p q : Part) (lsid : Lsid) (new : Session)
    → q.sessions.entries ≡ with_entry lsid new p.sessions.entries
    → ((s : Session) → session p lsid ≡ Some s → Older s new) → Ages p q
puts p q lsid new e on other s there =
    put_case p q lsid new e on other s (same_lsid other lsid) refl there

free_case : (p q : Part) (lsid : Lsid) (new : Session)
    → q.sessions.entries ≡ with_entry lsid new p.sessions.entries
    → (other : Lsid) (t : Session) (test : Bool) → same_lsid other lsid ≡ test
    → session q other ≡ Some t → (session p other ≡ Some t) ⊎ ((other ≡ lsid) × (t ≡ new))
free_case p q lsid new e other t true is there =
    let at : other ≡ lsid = lsid_same other lsid is in
    let here : Some new ≡ Some t = sym (ap (λ (x : Lsid). entry_of x q.sessions.entries) at
    ∙ ap (entry_of lsid) e ∙ entry_here lsid new p.sessions.entries) ∙ there in
    inr (at, sym (some_same new t here))
free_case p q lsid new e other t false is there = inl (sym (ap (entry_of other) e
    ∙ entry_elsewhere other lsid is new p.sessions.entries) ∙ there)

-- a session is as it was, or is the one that was put
pub put_or_was : (p q : Part) (lsid : Lsid) (new : Session)
    → q.sessions.entries ≡ with_entry lsid new p.sessions.entries
    → (other : Lsid) (t : Session) → session q other ≡ Some t
    → (session p other ≡ Some t) ⊎ ((other ≡ lsid) × (t ≡ new))
put_or_was p q lsid new e other t there =
    free_case p q lsid new e other t (same_lsid other lsid) refl there

pub frees_none : (p q : Part) (lsid : Lsid) (new : Session)
    → q.sessions.entries ≡ with_entry lsid new p.sessions.entries
    → (new.state ≡ state.Released → ⊥) → NoneFreed p q
frees_none p q lsid new e none other t there free =
    elim (put_or_was p q lsid new e other t there) [
      | inl was ↦ was
      | inr put ↦ absurd (none (ap (λ (x : Session). x.state) (sym put.1) ∙ free))
    ]

-- a live transaction comes to another state
pub ends : (p q : Part) (lsid : Lsid) (s : Session) (st : SessionState) → session p lsid ≡ Some s
    → s.state ≡ state.Live → q.sessions.entries
    ≡ with_entry lsid (record { number = s.number; tag = s.tag; state = st }) p.sessions.entries
    → Ages p q
ends p q lsid s st is live e =
    puts p q lsid (record { number = s.number; tag = s.tag; state = st }) e
    (λ x there. let same : s ≡ x = some_same s x (sym is ∙ there) in
    subst (λ (y : Session). Older y (record { number = s.number; tag = s.tag; state = st })) same
    (inr (inr (live, refl, refl))))

pub aborted_ages : (p : Part) (lsid : Lsid) (s : Session) (why : Cause) → session p lsid ≡ Some s
    → s.state ≡ state.Live → Changes p (aborted p lsid s why)
aborted_ages p lsid s why is live = (
  ends p (aborted p lsid s why) lsid s (state.Aborted why 0) is live refl,
  frees_none p (aborted p lsid s why) lsid
      (record { number = s.number; tag = s.tag; state = state.Aborted why 0 }) refl (λ e. cc),
)

-- Want of memory, and aborts.

memory_own : (p : Part) (lsid : Lsid) (s : Session) (st : SessionState) → session p lsid ≡ Some s
    → s.state ≡ st → Changes p (ends_own p lsid s st)
memory_own p lsid s state.Live is e = aborted_ages p lsid s cause.Memory is e
memory_own p lsid s (state.Prepared at coordinator) is e = still p
memory_own p lsid s (state.Committed at) is e = still p
memory_own p lsid s state.Released is e = still p
memory_own p lsid s (state.Aborted why read_at) is e = still p

memory_session : (p : Part) (lsid : Lsid) (tag : Tag) (s : Option Session) → session p lsid ≡ s
    → Changes p (ends_session p lsid tag s)
memory_session p lsid tag None is = still p
memory_session p lsid tag (Some s) is =
    either (same_tag s.tag tag) (Changes p) _ _ (memory_own p lsid s s.state is refl) (still p)

pub memory_ages : (p : Part) (lsid : Lsid) (tag : Tag) → Changes p (ended_for_memory p lsid tag)
memory_ages p lsid tag = memory_session p lsid tag (session p lsid) refl

abort_own : (p : Part) (m : Abort) (s : Session) (st : SessionState) → session p m.lsid ≡ Some s
    → s.state ≡ st → Changes p (ab.aborts_own p m s st)
abort_own p m s state.Live is e = aborted_ages p m.lsid s (cause.ClientAbort m.why) is e
abort_own p m s (state.Prepared at coordinator) is e = still p
abort_own p m s (state.Committed at) is e = still p
abort_own p m s state.Released is e = still p
abort_own p m s (state.Aborted why read_at) is e = still p

abort_session : (p : Part) (m : Abort) (s : Option Session) → session p m.lsid ≡ s
    → Changes p (ab.aborts_session p m s)
abort_session p m None is = still p
abort_session p m (Some s) is =
    either (same_tag s.tag m.tag) (Changes p) _ _ (abort_own p m s s.state is refl) (still p)

pub abort_ages : (p : Part) (m : Abort) → Changes p (ab.abort p m)
unfolding ab.abort
abort_ages p m = abort_session p m (session p m.lsid) refl

-- Statements.

-- the session may go on to the statement's transaction, or has it, live
abbrev MayGo : Part → Statement → Type 0
MayGo p m = (s : Session) → session p m.lsid ≡ Some s → (s.number <ℤ m.number)
    ⊎ ((s.state ≡ state.Live) × (m.tag ≡ s.tag) × (m.number ≡ s.number))

abbrev TurnAges : Part → stm.Turn → Type 0
TurnAges p t = Changes p t.1

stands_ages : (p r : Part) (m : Statement) (st : SessionState) (q : Part)
    → r.sessions ≡ p.sessions → MayGo p m → (st ≡ state.Released → ⊥)
    → q.sessions.entries ≡ with_entry m.lsid
    (record { number = m.number; tag = m.tag; state = st }) r.sessions.entries → Changes p q
stands_ages p r m st q same may held e =
    let new : Session = record { number = m.number; tag = m.tag; state = st } in
    let put = e ∙ ap (λ (t : _). with_entry m.lsid new t.entries) same in (
      puts p q m.lsid new put (λ s there. inr (may s there)),
      frees_none p q m.lsid new put held,
    )

closed_same : (p : Part) (lsid : Lsid) (o : Option Open) → (closed p lsid o).sessions ≡ p.sessions
closed_same p lsid None = refl
closed_same p lsid (Some o) = refl

refuses_ages : (p : Part) (m : Statement) (why : Cause) (at : ℕ) → MayGo p m
    → TurnAges p (stm.refuses p m why at)
refuses_ages p m why at may =
    stands_ages p (without_live p m.lsid) m (state.Aborted why at) (stm.refuses p m why at).1
    (closed_same p m.lsid (open_of p m.lsid)) may (λ e. cc) refl

room_same : (p : Part) (m : Statement) (mine : Option Open)
    → (stm.made_room p m mine).sessions ≡ p.sessions
room_same p m None = closed_same p m.lsid (open_of p m.lsid)
room_same p m (Some o) = refl

does_ages : (p : Part) (wall : ℕ) (m : Statement) (at : ℕ) (mine : Option Open) (reply : OpReply)
    (writes : List Write) → MayGo p m → TurnAges p (stm.does p wall m at mine reply writes)
does_ages p wall m at mine reply writes may =
    stands_ages p (stm.made_room p m mine) m state.Live
    (stm.does p wall m at mine reply writes).1 (room_same p m mine) may (λ e. cc) refl

within_ages : (p : Part) (wall : ℕ) (m : Statement) (at : ℕ) (mine : Option Open) (reply : OpReply)
    (writes : List Write) → MayGo p m
    → TurnAges p (stm.within_volume p wall m at mine reply writes)
within_ages p wall m at mine reply writes may =
    either (nat_lt stm.most_bytes (volume (stm.writes_with mine writes))) (TurnAges p) _ _
    (refuses_ages p m _ 0 may) (does_ages p wall m at mine reply writes may)

conflict_ages : (p : Part) (wall : ℕ) (m : Statement) (at : ℕ) (mine : Option Open)
    (reply : OpReply) (writes : List Write) (c : Option (Id × By)) → MayGo p m
    → TurnAges p (stm.unless_conflict p wall m at mine reply writes c)
conflict_ages p wall m at mine reply writes None may =
    within_ages p wall m at mine reply writes may
conflict_ages p wall m at mine reply writes (Some c) may = refuses_ages p m _ 0 may

evaluated_ages : (p : Part) (wall : ℕ) (m : Statement) (at : ℕ) (mine : Option Open)
    (meaning : Meaning) → MayGo p m → TurnAges p (stm.evaluated p wall m at mine meaning)
evaluated_ages p wall m at mine (Err err) may = refuses_ages p m _ at may
evaluated_ages p wall m at mine (Ok done) may =
    conflict_ages p wall m at mine done.0 done.1 (conflict p.store at m.tag done.1) may

scanned_ages : (p : Part) (wall : ℕ) (m : Statement) (at : ℕ) (mine : Option Open)
    (rows : Result (List Row) Held) → MayGo p m → TurnAges p (stm.scanned p wall m at mine rows)
scanned_ages p wall m at mine (Err held) may = still p
scanned_ages p wall m at mine (Ok rows) may = evaluated_ages p wall m at mine (eval m.op rows) may

performed_ages : (p : Part) (wall : ℕ) (m : Statement) (at : ℕ) (mine : Option Open) → MayGo p m
    → TurnAges p (stm.performed p wall m at mine)
unfolding stm.performed
performed_ages p wall m at mine may =
    scanned_ages p wall m at mine (scan p.store (ns_of m.op) (touched m.op) at m.tag) may

begins_ages : (p : Part) (last wall : ℕ) (m : Statement) → MayGo p m
    → TurnAges p (stm.begins p last wall m)
begins_ages p last wall m may = performed_ages p wall m (stm.read_time last m) None may

beside_older_ages : (p : Part) (last wall : ℕ) (m : Statement) (older : Tag) (st : SessionState)
    → MayGo p m → TurnAges p (stm.beside_older p last wall m older st)
beside_older_ages p last wall m older state.Live may = begins_ages p last wall m may
beside_older_ages p last wall m older (state.Prepared at coordinator) may = still p
beside_older_ages p last wall m older (state.Committed at) may = begins_ages p last wall m may
beside_older_ages p last wall m older state.Released may = begins_ages p last wall m may
beside_older_ages p last wall m older (state.Aborted why read_at) may =
    begins_ages p last wall m may

beside_ages : (p : Part) (last wall : ℕ) (m : Statement) (s : Option Session) → MayGo p m
    → TurnAges p (stm.beside p last wall m s)
beside_ages p last wall m None may =
    either (is_full p.sessions) (TurnAges p) _ _ (still p) (begins_ages p last wall m may)
beside_ages p last wall m (Some s) may = beside_older_ages p last wall m s.tag s.state may

first_ages : (p : Part) (last wall : ℕ) (m : Statement) (s : Option Session) → MayGo p m
    → TurnAges p (stm.first_statement p last wall m s)
first_ages p last wall m s may =
    either (nat_eq m.boot 0) (TurnAges p) _ _ (beside_ages p last wall m s may) (still p)

goes_ages : (p : Part) (wall : ℕ) (m : Statement) (s : Session) (o : Option Open)
    → session p m.lsid ≡ Some s → s.state ≡ state.Live → MayGo p m
    → TurnAges p (stm.goes_on p wall m s o)
goes_ages p wall m s None is live may = still p
goes_ages p wall m s (Some o) is live may =
    either (nat_eq m.k o.k) (TurnAges p) _ _ (still p)
    (either (nat_lt m.k o.k) (TurnAges p) _ _ (still p)
    (either (nat_eq m.boot p.boot) (TurnAges p) _ _
    (performed_ages p wall m o.read_at (Some o) may)
    (aborted_ages p m.lsid s _ is live)))

-- a session that isn't replaced goes on

not_lower : (a b : ℤ) → int_lt b a ≡ false → a ≤ℤ b
not_lower a b e = omega (arith, ints, e)

lower : (a b : ℤ) → int_lt a b ≡ true → a <ℤ b
lower a b e = omega (arith, ints, e)

same_number : (a b : ℤ) → int_lt a b ≡ false → a ≤ℤ b → b ≡ a
same_number a b e h = omega (arith, ints, e, h)

lower_or_same : (a b : ℤ) → a ≤ℤ b → (test : Bool) → int_lt a b ≡ test → (a <ℤ b) ⊎ (b ≡ a)
lower_or_same a b h true is = inl (lower a b is)
lower_or_same a b h false is = inr (same_number a b is h)

replaced_case : (a b c : Bool) → (a || (not b && not c)) ≡ false
    → (a ≡ false) × ((b ≡ true) ⊎ (c ≡ true))
replaced_case true b c e = cc
replaced_case false true c e = (refl, inl refl)
replaced_case false false true e = (refl, inr refl)
replaced_case false false false e = cc

own_may : (p : Part) (m : Statement) (s : Session) → is_replaced s m.number m.tag ≡ false
    → session p m.lsid ≡ Some s → s.state ≡ state.Live → s.tag ≡ m.tag → MayGo p m
own_may p m s new is live own x there =
    let k = replaced_case (int_lt m.number s.number) (int_lt s.number m.number)
    (same_tag s.tag m.tag) new in
    subst (λ (y : Session). (y.number <ℤ m.number)
    ⊎ ((y.state ≡ state.Live) × (m.tag ≡ y.tag) × (m.number ≡ y.number)))
    (some_same s x (sym is ∙ there))
    (elim (lower_or_same s.number m.number (not_lower s.number m.number k.0)
    (int_lt s.number m.number) refl) [ inl up ↦ inl up | inr same ↦ inr (live, sym own, same) ])

other_may : (p : Part) (m : Statement) (s : Session) → is_replaced s m.number m.tag ≡ false
    → session p m.lsid ≡ Some s → same_tag s.tag m.tag ≡ false → MayGo p m
other_may p m s new is apart x there =
    let k = replaced_case (int_lt m.number s.number) (int_lt s.number m.number)
    (same_tag s.tag m.tag) new in
    subst (λ (y : Session). (y.number <ℤ m.number)
    ⊎ ((y.state ≡ state.Live) × (m.tag ≡ y.tag) × (m.number ≡ y.number)))
    (some_same s x (sym is ∙ there))
    (elim k.1 [
      | inl less ↦ inl (lower s.number m.number less)
      | inr same ↦ let wrong : true ≡ false = sym same ∙ apart in cc
    ])

later_ages : (p : Part) (wall : ℕ) (m : Statement) (s : Session) (st : SessionState)
    → session p m.lsid ≡ Some s → s.state ≡ st → s.tag ≡ m.tag
    → is_replaced s m.number m.tag ≡ false → TurnAges p (stm.later_statement p wall m s st)
later_ages p wall m s state.Live is e own new =
    goes_ages p wall m s (open_of p m.lsid) is e (own_may p m s new is e own)
later_ages p wall m s (state.Prepared at coordinator) is e own new = still p
later_ages p wall m s (state.Committed at) is e own new = still p
later_ages p wall m s state.Released is e own new = still p
later_ages p wall m s (state.Aborted why read_at) is e own new = still p

tag_case : (p : Part) (last wall : ℕ) (m : Statement) (s : Session) (test : Bool)
    → same_tag s.tag m.tag ≡ test → session p m.lsid ≡ Some s
    → is_replaced s m.number m.tag ≡ false
    → TurnAges p (if test then stm.later_statement p wall m s s.state
    else stm.first_statement p last wall m (Some s))
tag_case p last wall m s true same is new =
    later_ages p wall m s s.state is refl (tag_same s.tag m.tag same) new
tag_case p last wall m s false same is new =
    first_ages p last wall m (Some s) (other_may p m s new is same)

some_case : (p : Part) (last wall : ℕ) (m : Statement) (s : Session) (test : Bool)
    → is_replaced s m.number m.tag ≡ test → session p m.lsid ≡ Some s
    → TurnAges p (if test then stm.refused p (cause.Replaced s.number s.tag)
    else if same_tag s.tag m.tag then stm.later_statement p wall m s s.state
    else stm.first_statement p last wall m (Some s))
some_case p last wall m s true old is = still p
some_case p last wall m s false new is =
    tag_case p last wall m s (same_tag s.tag m.tag) refl is new

session_ages : (p : Part) (last wall : ℕ) (m : Statement) (s : Option Session)
    → session p m.lsid ≡ s → TurnAges p (stm.by_session p last wall m s)
session_ages p last wall m None is =
    first_ages p last wall m None (λ x there. let wrong : None ≡ Some x = sym is ∙ there in cc)
session_ages p last wall m (Some s) is =
    some_case p last wall m s (is_replaced s m.number m.tag) refl is

pub statement_ages : (p : Part) (last wall : ℕ) (m : Statement)
    → TurnAges p (stm.statement p last wall m)
unfolding stm.statement
statement_ages p last wall m = session_ages p last wall m (session p m.lsid) refl
