-- What a shard's part has of sessions: each goes on to no lower number, and keeps its transaction
-- or goes on to a larger one; and it names none that was not named.
use Rattle.std.proofs.Common.{◌≡◌, ◌⊎◌, inl, inr, ◌≤ℤ◌, ◌<ℤ◌, ℕ, ℤ, Bool, true, false, not, cond}
use Rattle.std.proofs.Common.{find, ◌&&◌, ◌||◌, ◌-◌, ◌∙◌, All, List, [], ◌∷◌, Option, Some, None}
use Rattle.std.proofs.Common.{IfSome, option_map, Result, Ok, Err, refl, sym, ap, subst, nat_eq}
use Rattle.std.proofs.Common.{nat_lt, nat_le, int_lt, if◌then◌else◌, arith}
use Rattle.std.proofs.lemmas.Int.{ints}
use Rattle.std.proofs.lemmas.List.Elements.{All-nil, All-cons, All-head, All-tail}
use Rattle.txn_types.specs.BySession.{BySession, with_entry, entry_of}
use Rattle.txn_types.specs.Clock.{ticked}
use Rattle.txn_types.specs.Order.{same_tag, same_lsid}
use Rattle.txn_types.specs.declared.cause.By.{By}
use Rattle.txn_types.specs.declared.cause.Cause.{Cause}
use Rattle.txn_types.specs.declared.cause.Cause.TheVariants as cause
use Rattle.txn_types.specs.declared.decision.Decision.{Decision}
use Rattle.txn_types.specs.declared.decision.Decision.TheVariants as decision
use Rattle.txn_types.specs.declared.id.Id.{Id}
use Rattle.txn_types.specs.declared.message.Abort.{Abort}
use Rattle.txn_types.specs.declared.message.Commit.{Commit}
use Rattle.txn_types.specs.declared.message.Decide.{Decide}
use Rattle.txn_types.specs.declared.message.Prepare.{Prepare}
use Rattle.txn_types.specs.declared.message.Recover.{Recover}
use Rattle.txn_types.specs.declared.message.Statement.{Statement}
use Rattle.txn_types.specs.declared.names.Tag.{Tag}
use Rattle.txn_types.specs.declared.node.Lsid.{Lsid}
use Rattle.txn_types.specs.declared.operation.OpReply.{OpReply}
use Rattle.txn_types.specs.declared.write.Write.{Write}
use Rattle.txn_semantics.specs.Meaning.{Meaning, eval, ns_of}
use Rattle.txn_semantics.specs.Rows.{Row}
use Rattle.txn_semantics.specs.Touched.{touched}
use Rattle.journal_rec.specs.Volume.{volume}
use Rattle.journal_rec.specs.declared.record.Rec.{Rec}
use Rattle.journal_rec.specs.declared.record.Rec.TheVariants as rec
use Rattle.session_table.specs.Sessions.{is_full, state_behind}
use Rattle.session_table.specs.declared.session.Session.{Session}
use Rattle.session_table.specs.declared.session.SessionState.{SessionState}
use Rattle.session_table.specs.declared.session.SessionState.TheVariants as state
use Rattle.version_store.specs.Versions.{scan, conflict}
use Rattle.version_store.specs.declared.version.Held.{Held}
use Rattle.participant.specs.declared.said.Open.{Open}
use Rattle.participant.specs.declared.said.Said.TheVariants.{Did, Refused, Late}
use Rattle.participant.specs.Part.{Part, session, open_of, closed, without_live, aborted, ends_live}
use Rattle.participant.specs.Part.{is_replaced}
use Rattle.participant.specs.Statement as stm
use Rattle.participant.specs.Commit as co
use Rattle.participant.specs.Prepare as pr
use Rattle.participant.specs.Decide as de
use Rattle.participant.specs.Abort as ab
use Rattle.participant.specs.Recover as rc
use Rattle.participant.specs.Expiry.{expire, expire_all, lifetime}
use Rattle.participant.specs.Memory.{ended_for_memory, ends_session, ends_own}
use Rattle.participant.proofs.Cases.{either}
use Rattle.participant.proofs.Ends.{entry_elsewhere}
use Rattle.participant.proofs.Moving.{entry_here}
use Rattle.participant.proofs.Tags.{lsid_same, tag_same}
use Rattle.txn_types.specs.Letters.{Named}
use Rattle.known_laws.specs.Known.{PartNamed, SessionNamed}
use Rattle.live_laws.proofs.Steps.{no_refused, no_blocked, no_late}

-- An entry stands under its session.

entry_by : {A : Type 0} (Q : Lsid × A → Type 0) (lsid : Lsid) (entry : Lsid
    × A) (more : Option (Lsid × A)) (test : Bool) → same_lsid lsid entry.0 ≡ test → (a : A)
    → Q entry → (option_map (λ (e : Lsid × A). e.1) more ≡ Some a → Q (lsid, a))
    → option_map (λ (e : Lsid × A). e.1) (cond test (Some entry) more) ≡ Some a → Q (lsid, a)
entry_by Q lsid entry more true is a h k e =
    let this : entry.1 ≡ a = grind arith in
    subst (λ (x : _). Q (lsid, x)) this
    (subst (λ (x : Lsid). Q (x, entry.1)) (sym (lsid_same lsid entry.0 is)) h)
entry_by Q lsid entry more false is a h k e = k e

pub entry_named : {A : Type 0} (Q : Lsid × A → Type 0) (lsid : Lsid) (entries : BySession A)
    → All Q entries → (a : A) → entry_of lsid entries ≡ Some a → Q (lsid, a)
entry_named Q lsid [] h a e = grind arith
entry_named {A = A} Q lsid (entry ∷ entries) h a e =
    entry_by Q lsid entry (find (λ (e : Lsid × A). same_lsid lsid e.0) entries)
    (same_lsid lsid entry.0) refl a (All-head Q entry entries h)
    (entry_named Q lsid entries (All-tail Q entry entries h) a) e

pub entries_put : {A : Type 0} (R : Lsid × A → Type 0) (lsid : Lsid) (a : A) (entries : BySession A)
    → R (lsid, a) → All R entries → All R (with_entry lsid a entries)
entries_put R lsid a [] this h = All-cons R (lsid, a) [] this (All-nil R)
entries_put R lsid a (entry ∷ entries) this h =
    either (same_lsid lsid entry.0) (All R) _ _
    (All-cons R (lsid, a) entries this (All-tail R entry entries h))
    (All-cons R entry (with_entry lsid a entries) (All-head R entry entries h)
    (entries_put R lsid a entries this (All-tail R entry entries h)))

-- A session goes on.

pub record Goes (s t : Session) : Type 0 where
  pub number : s.number ≤ℤ t.number
  pub tag : (t.tag ≡ s.tag) ⊎ (s.number <ℤ t.number)

numbers_same : (a b : ℤ) → b ≡ a → a ≤ℤ b
numbers_same a b e = omega (arith, ints, e)

goes_same : (s t : Session) → t.number ≡ s.number → t.tag ≡ s.tag → Goes s t
goes_same s t n g = record { number = numbers_same s.number t.number n; tag = inl g }

numbers_on : (a b c : ℤ) → a ≤ℤ b → b ≤ℤ c → a ≤ℤ c
numbers_on a b c h k = omega (arith, ints, h, k)

numbers_up : (a b c : ℤ) → a <ℤ b → b ≤ℤ c → a <ℤ c
numbers_up a b c h k = omega (arith, ints, h, k)

numbers_above : (a b c : ℤ) → a ≤ℤ b → b <ℤ c → a <ℤ c
numbers_above a b c h k = omega (arith, ints, h, k)

goes_on : (s t u : Session) → Goes s t → Goes t u → Goes s u
goes_on s t u h k = record {
  number = numbers_on s.number t.number u.number h.number k.number;
  tag = elim h.tag [
    | inl same ↦ elim k.tag [
      | inl more ↦ inl (more ∙ same)
      | inr up ↦ inr (numbers_above s.number t.number u.number h.number up)
    ]
    | inr up ↦ inr (numbers_up s.number t.number u.number up k.number)
  ];
}

-- What a rule leaves of sessions.
pub record Moves (P : Named → Type 0) (p q : Part) : Type 0 where
  pub shard : q.shard ≡ p.shard
  pub boot : q.boot ≡ p.boot
  pub goes : (lsid : Lsid) (s : Session) → session p lsid ≡ Some s
      → (t : Session) × (session q lsid ≡ Some t) × Goes s t
  pub named : PartNamed P p → PartNamed P q

pub stays : (P : Named → Type 0) (p : Part) → Moves P p p
stays P p = record {
  shard = refl;
  boot = refl;
  goes = λ lsid s there. (s, there, goes_same s s refl refl);
  named = λ h. h;
}

pub follows : (P : Named → Type 0) (p q r : Part) → Moves P p q → Moves P q r → Moves P p r
follows P p q r a b = record {
  shard = b.shard ∙ a.shard;
  boot = b.boot ∙ a.boot;
  goes = λ lsid s there. let first = a.goes lsid s there in let next =
      b.goes lsid first.0 first.1 in (next.0, next.1, goes_on s first.0 next.0 first.2 next.2);
  named = λ h. b.named (a.named h);
}

-- no session changes
alike : (P : Named → Type 0) (p q : Part) → q.shard ≡ p.shard → q.boot ≡ p.boot
    → q.sessions ≡ p.sessions → Moves P p q
alike P p q a b e = record {
  shard = a;
  boot = b;
  goes = λ lsid s there.
      (s, ap (λ (x : _). entry_of lsid x.entries) e ∙ there, goes_same s s refl refl);
  named = λ h. subst (λ (x : _). All (SessionNamed P) x.entries) (sym e) h;
}

-- one session is put
put_case : (p q : Part) (lsid : Lsid) (new : Session)
    → q.sessions.entries ≡ with_entry lsid new p.sessions.entries
    → ((s : Session) → session p lsid ≡ Some s → Goes s new)
    → (other : Lsid) (s : Session) (test : Bool) → same_lsid other lsid ≡ test
    → session p other ≡ Some s → (t : Session) × (session q other ≡ Some t) × Goes s t
put_case p q lsid new e on other s true is there =
    let at : other ≡ lsid = lsid_same other lsid is in (
      new,
      ap (λ (x : Lsid). entry_of x q.sessions.entries) at ∙ ap (entry_of lsid) e
          ∙ entry_here lsid new p.sessions.entries,
      on s (sym (ap (session p) at) ∙ there),
    )
put_case p q lsid new e on other s false is there = (
  s,
  ap (entry_of other) e ∙ entry_elsewhere other lsid is new p.sessions.entries ∙ there,
  goes_same s s refl refl,
)

puts : (P : Named → Type 0) (lsid : Lsid) (new : Session) (p q : Part) → q.shard ≡ p.shard
    → q.boot ≡ p.boot → q.sessions.entries ≡ with_entry lsid new p.sessions.entries
    → ((s : Session) → session p lsid ≡ Some s → Goes s new) → (PartNamed P p
    → P (record { tag = new.tag; lsid = lsid; number = new.number })) → Moves P p q
puts P lsid new p q a b e on named = record {
  shard = a;
  boot = b;
  goes = λ other s there. put_case p q lsid new e on other s (same_lsid other lsid) refl there;
  named = λ h. subst (All (SessionNamed P)) (sym e) (entries_put (SessionNamed P) lsid new
      p.sessions.entries (named h) h);
}

some_same : (s t : Session) → Some s ≡ Some t → s ≡ t
some_same s t e = grind arith

-- a session that stands is named
pub session_named : (P : Named → Type 0) (p : Part) (lsid : Lsid) (s : Session) → session p lsid
    ≡ Some s → PartNamed P p → P (record { tag = s.tag; lsid = lsid; number = s.number })
session_named P p lsid s is h = entry_named (SessionNamed P) lsid p.sessions.entries h s is

-- a session comes to another state
ends : (P : Named → Type 0) (lsid : Lsid) (s : Session) (st : SessionState) (p q : Part)
    → session p lsid ≡ Some s → q.shard ≡ p.shard → q.boot ≡ p.boot
    → q.sessions.entries ≡ with_entry lsid (record { number = s.number; tag = s.tag; state = st })
    p.sessions.entries → Moves P p q
ends P lsid s st p q is a b e =
    puts P lsid (record { number = s.number; tag = s.tag; state = st }) p q a b e
    (λ x there. let same = some_same x s (sym there ∙ is) in
    goes_same x (record { number = s.number; tag = s.tag; state = st })
    (sym (ap (λ (y : Session). y.number) same)) (sym (ap (λ (y : Session). y.tag) same)))
    (session_named P p lsid s is)

pub aborted_moves : (P : Named → Type 0) (p : Part) (lsid : Lsid) (s : Session) (why : Cause)
    → session p lsid ≡ Some s → Moves P p (aborted p lsid s why)
aborted_moves P p lsid s why is =
    ends P lsid s (state.Aborted why 0) p (aborted p lsid s why) is refl refl refl

closed_same : (p : Part) (lsid : Lsid) (o : Option Open) → ((closed p lsid o).shard ≡ p.shard)
    × ((closed p lsid o).boot ≡ p.boot) × ((closed p lsid o).sessions ≡ p.sessions)
closed_same p lsid None = (refl, refl, refl)
closed_same p lsid (Some o) = (refl, refl, refl)

-- Statements.

abbrev pub NameOf : Statement → Named
NameOf m = record { tag = m.tag; lsid = m.lsid; number = m.number }

-- the session of a statement may go on to its transaction
abbrev MayGo : Part → Statement → Type 0
MayGo p m = (s : Session) → session p m.lsid ≡ Some s
    → (s.number ≤ℤ m.number) × ((m.tag ≡ s.tag) ⊎ (s.number <ℤ m.number))

-- the session has the statement's transaction
abbrev pub HasTag : Part → Statement → Type 0
HasTag p m = (s : Session) × (session p m.lsid ≡ Some s) × (s.tag ≡ m.tag)

pub record TurnMoves (P : Named → Type 0) (p : Part) (m : Statement) (t : stm.Turn) : Type 0 where
  pub moves : Moves P p t.1
  pub did : (at : ℕ) (reply : OpReply) (wrote : Bool) → t.0 ≡ Did at reply wrote → HasTag t.1 m

-- what is refused, and what comes too late, isn't done
refused_moves : (P : Named → Type 0) (p : Part) (m : Statement) (why : Cause) (at : ℕ) (q : Part)
    → Moves P p q → TurnMoves P p m (Refused why at, q)
refused_moves P p m why at q k =
    record { moves = k; did = λ x reply wrote e. absurd (no_refused why at x reply wrote e) }

late_moves : (P : Named → Type 0) (p : Part) (m : Statement) → TurnMoves P p m (Late, p)
late_moves P p m =
    record { moves = stays P p; did = λ x reply wrote e. absurd (no_late x reply wrote e) }

-- the session is put to a state of the statement's transaction
stands_moves : (P : Named → Type 0) (p r : Part) (m : Statement) (st : SessionState) (q : Part)
    → r.shard ≡ p.shard → r.boot ≡ p.boot → r.sessions ≡ p.sessions → P (NameOf m) → MayGo p m
    → q.shard ≡ r.shard → q.boot ≡ r.boot → q.sessions.entries ≡ with_entry m.lsid
    (record { number = m.number; tag = m.tag; state = st }) r.sessions.entries → Moves P p q
stands_moves P p r m st q a b c this may x y e =
    puts P m.lsid (record { number = m.number; tag = m.tag; state = st })
    p q (x ∙ a) (y ∙ b) (e ∙ ap (λ (t : _). with_entry m.lsid
    (record { number = m.number; tag = m.tag; state = st }) t.entries) c)
    (λ s there. let k = may s there in record { number = k.0; tag = k.1 }) (λ h. this)

refuses_moves : (P : Named → Type 0) (p : Part) (m : Statement) (why : Cause) (at : ℕ)
    → P (NameOf m) → MayGo p m → TurnMoves P p m (stm.refuses p m why at)
refuses_moves P p m why at this may =
    let c = closed_same p m.lsid (open_of p m.lsid) in
    refused_moves P p m why at (stm.refuses p m why at).1
    (stands_moves P p (without_live p m.lsid) m (state.Aborted why at) (stm.refuses p m why at).1
    c.0 c.1 c.2 this may refl refl refl)

room_same : (p : Part) (m : Statement) (mine : Option Open)
    → ((stm.made_room p m mine).shard ≡ p.shard) × ((stm.made_room p m mine).boot ≡ p.boot)
    × ((stm.made_room p m mine).sessions ≡ p.sessions)
room_same p m None = closed_same p m.lsid (open_of p m.lsid)
room_same p m (Some o) = (refl, refl, refl)

does_moves : (P : Named → Type 0) (p : Part) (wall : ℕ) (m : Statement) (at : ℕ)
    (mine : Option Open) (reply : OpReply) (writes : List Write) → P (NameOf m) → MayGo p m
    → TurnMoves P p m (stm.does p wall m at mine reply writes)
does_moves P p wall m at mine reply writes this may =
    let c = room_same p m mine in
    let r = stm.made_room p m mine in
    let now : Session = record { number = m.number; tag = m.tag; state = state.Live } in
    record {
      moves = stands_moves P p r m state.Live (stm.does p wall m at mine reply writes).1 c.0 c.1 c.2
          this may refl refl refl;
      did = λ x other wrote e. (now, entry_here m.lsid now r.sessions.entries, refl);
    }

within_moves : (P : Named → Type 0) (p : Part) (wall : ℕ) (m : Statement) (at : ℕ)
    (mine : Option Open) (reply : OpReply) (writes : List Write) → P (NameOf m) → MayGo p m
    → TurnMoves P p m (stm.within_volume p wall m at mine reply writes)
within_moves P p wall m at mine reply writes this may =
    either (nat_lt stm.most_bytes (volume (stm.writes_with mine writes))) (TurnMoves P p m) _ _
    (refuses_moves P p m _ 0 this may) (does_moves P p wall m at mine reply writes this may)

conflict_moves : (P : Named → Type 0) (p : Part) (wall : ℕ) (m : Statement) (at : ℕ) (mine :
    Option Open) (reply : OpReply) (writes : List Write) (c : Option (Id × By)) → P (NameOf m)
    → MayGo p m → TurnMoves P p m (stm.unless_conflict p wall m at mine reply writes c)
conflict_moves P p wall m at mine reply writes None this may =
    within_moves P p wall m at mine reply writes this may
conflict_moves P p wall m at mine reply writes (Some c) this may = refuses_moves P p m _ 0 this may

evaluated_moves : (P : Named → Type 0) (p : Part) (wall : ℕ) (m : Statement)
    (at : ℕ) (mine : Option Open) (meaning : Meaning) → P (NameOf m) → MayGo p m
    → TurnMoves P p m (stm.evaluated p wall m at mine meaning)
evaluated_moves P p wall m at mine (Err err) this may = refuses_moves P p m _ at this may
evaluated_moves P p wall m at mine (Ok done) this may =
    conflict_moves P p wall m at mine done.0 done.1 (conflict p.store at m.tag done.1) this may

scanned_moves : (P : Named → Type 0) (p : Part) (wall : ℕ) (m : Statement) (at : ℕ)
    (mine : Option Open) (rows : Result (List Row) Held) → P (NameOf m) → MayGo p m
    → TurnMoves P p m (stm.scanned p wall m at mine rows)
scanned_moves P p wall m at mine (Err held) this may =
    record { moves = stays P p; did = λ x reply wrote e. absurd (no_blocked held x reply wrote e) }
scanned_moves P p wall m at mine (Ok rows) this may =
    evaluated_moves P p wall m at mine (eval m.op rows) this may

performed_moves : (P : Named → Type 0) (p : Part) (wall : ℕ) (m : Statement) (at : ℕ) (mine :
    Option Open) → P (NameOf m) → MayGo p m → TurnMoves P p m (stm.performed p wall m at mine)
unfolding stm.performed
performed_moves P p wall m at mine this may =
    scanned_moves P p wall m at mine (scan p.store (ns_of m.op) (touched m.op) at m.tag) this may

begins_moves : (P : Named → Type 0) (p : Part) (last wall : ℕ) (m : Statement) → P (NameOf m)
    → MayGo p m → TurnMoves P p m (stm.begins p last wall m)
begins_moves P p last wall m this may =
    performed_moves P p wall m (stm.read_time last m) None this may

older_moves : (P : Named
    → Type 0) (p : Part) (last wall : ℕ) (m : Statement) (older : Tag) (st : SessionState)
    → P (NameOf m) → MayGo p m → TurnMoves P p m (stm.beside_older p last wall m older st)
older_moves P p last wall m older state.Live this may = begins_moves P p last wall m this may
older_moves P p last wall m older (state.Prepared at coordinator) this may =
    refused_moves P p m (cause.PreparedStands older) 0 p (stays P p)
older_moves P p last wall m older (state.Committed at) this may =
    begins_moves P p last wall m this may
older_moves P p last wall m older state.Released this may = begins_moves P p last wall m this may
older_moves P p last wall m older (state.Aborted why read_at) this may =
    begins_moves P p last wall m this may

beside_moves : (P : Named → Type 0) (p : Part) (last wall : ℕ) (m : Statement) (s : Option Session)
    → P (NameOf m) → MayGo p m → TurnMoves P p m (stm.beside p last wall m s)
beside_moves P p last wall m None this may =
    either (is_full p.sessions) (TurnMoves P p m) _ _ (refused_moves P p m cause.TooManySessions 0 p
    (stays P p)) (begins_moves P p last wall m this may)
beside_moves P p last wall m (Some s) this may = older_moves P p last wall m s.tag s.state this may

first_moves : (P : Named → Type 0) (p : Part) (last wall : ℕ) (m : Statement) (s : Option Session)
    → P (NameOf m) → MayGo p m → TurnMoves P p m (stm.first_statement p last wall m s)
first_moves P p last wall m s this may =
    either (nat_eq m.boot 0) (TurnMoves P p m) _ _ (beside_moves P p last wall m s this may)
    (refused_moves P p m (cause.Unavailable m.boot p.boot) 0 p (stays P p))

goes_moves : (P : Named → Type 0) (p : Part) (wall : ℕ) (m : Statement) (s : Session)
    (o : Option Open) → session p m.lsid ≡ Some s → s.tag ≡ m.tag → P (NameOf m) → MayGo p m
    → TurnMoves P p m (stm.goes_on p wall m s o)
goes_moves P p wall m s None is tag this may = late_moves P p m
goes_moves P p wall m s (Some o) is tag this may =
    either (nat_eq m.k o.k) (TurnMoves P p m) _ _
    (record { moves = stays P p; did = λ x reply wrote e. (s, is, tag) })
    (either (nat_lt m.k o.k) (TurnMoves P p m) _ _ (late_moves P p m)
    (either (nat_eq m.boot p.boot) (TurnMoves P p m) _ _
    (performed_moves P p wall m o.read_at (Some o) this may)
    (refused_moves P p m _ 0 _ (aborted_moves P p m.lsid s _ is))))

later_moves : (P : Named → Type 0) (p : Part) (wall : ℕ) (m : Statement) (s : Session)
    (st : SessionState) → session p m.lsid ≡ Some s → s.tag ≡ m.tag → P (NameOf m) → MayGo p m
    → TurnMoves P p m (stm.later_statement p wall m s st)
later_moves P p wall m s state.Live is tag this may =
    goes_moves P p wall m s (open_of p m.lsid) is tag this may
later_moves P p wall m s (state.Prepared at coordinator) is tag this may = late_moves P p m
later_moves P p wall m s (state.Committed at) is tag this may = late_moves P p m
later_moves P p wall m s state.Released is tag this may = late_moves P p m
later_moves P p wall m s (state.Aborted why read_at) is tag this may =
    refused_moves P p m why read_at p (stays P p)

-- a session that isn't replaced goes on

not_lower : (a b : ℤ) → int_lt b a ≡ false → a ≤ℤ b
not_lower a b e = omega (arith, ints, e)

lower : (a b : ℤ) → int_lt a b ≡ true → a <ℤ b
lower a b e = omega (arith, ints, e)

replaced_case : (a b c : Bool) → (a || (not b && not c)) ≡ false
    → (a ≡ false) × ((b ≡ true) ⊎ (c ≡ true))
replaced_case true b c e = cc
replaced_case false true c e = (refl, inl refl)
replaced_case false false true e = (refl, inr refl)
replaced_case false false false e = cc

not_replaced : (s : Session) (m : Statement) → is_replaced s m.number m.tag ≡ false
    → (s.number ≤ℤ m.number) × ((m.tag ≡ s.tag) ⊎ (s.number <ℤ m.number))
not_replaced s m e =
    let k = replaced_case (int_lt m.number s.number) (int_lt s.number m.number)
    (same_tag s.tag m.tag) e in (
      not_lower s.number m.number k.0,
      elim k.1 [
        | inl less ↦ inr (lower s.number m.number less)
        | inr same ↦ inl (sym (tag_same s.tag m.tag same))
      ],
    )

tag_case : (P : Named → Type 0) (p : Part) (last wall : ℕ) (m : Statement) (s : Session) (test :
    Bool) → same_tag s.tag m.tag ≡ test → session p m.lsid ≡ Some s → P (NameOf m) → MayGo p m
    → TurnMoves P p m (if test then stm.later_statement p wall m s s.state
    else stm.first_statement p last wall m (Some s))
tag_case P p last wall m s true same is this may =
    later_moves P p wall m s s.state is (tag_same s.tag m.tag same) this may
tag_case P p last wall m s false same is this may = first_moves P p last wall m (Some s) this may

some_case : (P : Named → Type 0) (p : Part) (last wall : ℕ) (m : Statement) (s : Session)
    (test : Bool) → is_replaced s m.number m.tag ≡ test → session p m.lsid ≡ Some s → P (NameOf m)
    → TurnMoves P p m (if test then stm.refused p (cause.Replaced s.number s.tag)
    else if same_tag s.tag m.tag then stm.later_statement p wall m s s.state
    else stm.first_statement p last wall m (Some s))
some_case P p last wall m s true old is this =
    refused_moves P p m (cause.Replaced s.number s.tag) 0 p (stays P p)
some_case P p last wall m s false new is this =
    tag_case P p last wall m s (same_tag s.tag m.tag) refl is this
    (λ x there. let same = some_same s x (sym is ∙ there) in
    subst (λ (y : Session). (y.number ≤ℤ m.number) × ((m.tag ≡ y.tag) ⊎ (y.number <ℤ m.number)))
    same (not_replaced s m new))

no_session : (s : Session) → None ≡ Some s → ⊥
no_session s e = cc

session_moves : (P : Named → Type 0) (p : Part) (last wall : ℕ) (m : Statement) (s : Option Session)
    → session p m.lsid ≡ s → P (NameOf m) → TurnMoves P p m (stm.by_session p last wall m s)
session_moves P p last wall m None is this =
    first_moves P p last wall m None this (λ x there. absurd (no_session x (sym is ∙ there)))
session_moves P p last wall m (Some s) is this =
    some_case P p last wall m s (is_replaced s m.number m.tag) refl is this

pub statement_moves : (P : Named → Type 0) (p : Part) (last wall : ℕ) (m : Statement) → P (NameOf m)
    → TurnMoves P p m (stm.statement p last wall m)
unfolding stm.statement
statement_moves P p last wall m this = session_moves P p last wall m (session p m.lsid) refl this

-- Ends of transactions.

ends_moves : (P : Named → Type 0) (p : Part) (lsid : Lsid) (why : Cause) (s : Option Session)
    → session p lsid ≡ s → Moves P p (ends_live p lsid why s)
ends_moves P p lsid why None is = stays P p
ends_moves P p lsid why (Some s) is = aborted_moves P p lsid s why is

expire_all_moves : (P : Named → Type 0) (wall : ℕ) (entries : List (Lsid × Open)) (p q : Part)
    → Moves P p q → Moves P p (expire_all wall entries q)
expire_all_moves P wall [] p q h = h
expire_all_moves P wall (entry ∷ entries) p q h =
    expire_all_moves P wall entries p _
    (either (nat_lt lifetime (wall - entry.1.begun)) (Moves P p) _ _
    (follows P p q (ends_live q entry.0 (cause.Expired entry.1.begun wall) (session q entry.0)) h
    (ends_moves P q entry.0 (cause.Expired entry.1.begun wall) (session q entry.0) refl)) h)

pub expire_moves : (P : Named → Type 0) (p : Part) (wall : ℕ) → Moves P p (expire p wall)
unfolding expire
expire_moves P p wall = expire_all_moves P wall p.live p p (stays P p)

ends_own_moves : (P : Named → Type 0) (p : Part) (lsid : Lsid) (s : Session) (st : SessionState)
    → session p lsid ≡ Some s → Moves P p (ends_own p lsid s st)
ends_own_moves P p lsid s state.Live is = aborted_moves P p lsid s cause.Memory is
ends_own_moves P p lsid s (state.Prepared at coordinator) is = stays P p
ends_own_moves P p lsid s (state.Committed at) is = stays P p
ends_own_moves P p lsid s state.Released is = stays P p
ends_own_moves P p lsid s (state.Aborted why read_at) is = stays P p

ends_session_moves : (P : Named → Type 0) (p : Part) (lsid : Lsid) (tag : Tag) (s : Option Session)
    → session p lsid ≡ s → Moves P p (ends_session p lsid tag s)
ends_session_moves P p lsid tag None is = stays P p
ends_session_moves P p lsid tag (Some s) is =
    either (same_tag s.tag tag) (Moves P p) _ _ (ends_own_moves P p lsid s s.state is) (stays P p)

pub memory_moves : (P : Named → Type 0) (p : Part) (lsid : Lsid) (tag : Tag)
    → Moves P p (ended_for_memory p lsid tag)
memory_moves P p lsid tag = ends_session_moves P p lsid tag (session p lsid) refl

aborts_own_moves : (P : Named → Type 0) (p : Part) (m : Abort) (s : Session) (st : SessionState)
    → session p m.lsid ≡ Some s → Moves P p (ab.aborts_own p m s st)
aborts_own_moves P p m s state.Live is = aborted_moves P p m.lsid s _ is
aborts_own_moves P p m s (state.Prepared at coordinator) is = stays P p
aborts_own_moves P p m s (state.Committed at) is = stays P p
aborts_own_moves P p m s state.Released is = stays P p
aborts_own_moves P p m s (state.Aborted why read_at) is = stays P p

aborts_moves : (P : Named → Type 0) (p : Part) (m : Abort) (s : Option Session)
    → session p m.lsid ≡ s → Moves P p (ab.aborts_session p m s)
aborts_moves P p m None is = stays P p
aborts_moves P p m (Some s) is =
    either (same_tag s.tag m.tag) (Moves P p) _ _ (aborts_own_moves P p m s s.state is) (stays P p)

pub abort_moves : (P : Named → Type 0) (p : Part) (m : Abort) → Moves P p (ab.abort p m)
unfolding ab.abort
abort_moves P p m = aborts_moves P p m (session p m.lsid) refl

abbrev pub TellsMoves : (Named → Type 0) → Part → rc.Telling → Type 0
TellsMoves P p t = Moves P p t.1

recovers_own_moves : (P : Named → Type 0) (p : Part) (m : Recover) (s : Session) (st : SessionState)
    → session p m.lsid ≡ Some s → TellsMoves P p (rc.recovers_own p m s st)
recovers_own_moves P p m s state.Live is = aborted_moves P p m.lsid s _ is
recovers_own_moves P p m s (state.Prepared at coordinator) is = stays P p
recovers_own_moves P p m s (state.Committed at) is = stays P p
recovers_own_moves P p m s state.Released is = stays P p
recovers_own_moves P p m s (state.Aborted why read_at) is = stays P p

recovers_none_moves : (P : Named → Type 0) (p : Part) (m : Recover)
    → TellsMoves P p (rc.recovers_none p m)
recovers_none_moves P p m =
    either (nat_eq m.boot p.boot) (TellsMoves P p) _ _ (stays P p) (stays P p)

recovers_moves : (P : Named → Type 0) (p : Part) (m : Recover) (s : Option Session)
    → session p m.lsid ≡ s → TellsMoves P p (rc.recovers_session p m s)
recovers_moves P p m None is = recovers_none_moves P p m
recovers_moves P p m (Some s) is =
    either (int_lt m.number s.number) (TellsMoves P p) _ _ (stays P p)
    (either (same_tag s.tag m.tag) (TellsMoves P p) _ _ (recovers_own_moves P p m s s.state is)
    (recovers_none_moves P p m))

pub recover_moves : (P : Named → Type 0) (p : Part) (m : Recover) → TellsMoves P p (rc.recover p m)
unfolding rc.recover
recover_moves P p m = recovers_moves P p m (session p m.lsid) refl

-- What is recorded names what the session names.

-- a commit alone, or a prepared transaction
abbrev pub Own : (Named → Type 0) → Rec → Type 0
Own P (rec.Commit tag lsid number read_at at writes) =
    P (record { tag = tag; lsid = lsid; number = number })
Own P (rec.Prepared tag lsid number boot read_at at coordinator writes) =
    P (record { tag = tag; lsid = lsid; number = number })
Own P other = ⊥

abbrev pub Recorded : (Named → Type 0) → Part → Option Rec → Type 0
Recorded P p r = PartNamed P p → IfSome r (Own P)

abbrev pub DecidesMoves : (Named → Type 0) → Part → de.Deciding → Type 0
DecidesMoves P p d = Moves P p d.1 × (PartNamed P p
    → IfSome d.0 (λ x. P (record { tag = x.tag; lsid = x.lsid; number = x.number })))

nothing : (P : Named → Type 0) (p : Part) → DecidesMoves P p (None, p)
nothing P p = (stays P p, λ h. tt)

applies_moves : (P : Named → Type 0) (p : Part) (m : Decide) (s : Session)
    → session p m.lsid ≡ Some s → DecidesMoves P p (de.applies p m s)
applies_moves P p m s is = (
  ends P m.lsid s (state_behind m.decision) p (de.decided_part p m s) is refl refl refl,
  session_named P p m.lsid s is,
)

decides_prepared_moves : (P : Named → Type 0) (p : Part) (m : Decide) (s : Session) (at : ℕ)
    (d : Decision) → session p m.lsid ≡ Some s → DecidesMoves P p (de.decides_prepared p m s at d)
decides_prepared_moves P p m s at (decision.Commit time) is =
    either (nat_le at time) (DecidesMoves P p) _ _ (applies_moves P p m s is) (nothing P p)
decides_prepared_moves P p m s at (decision.Abort shard code) is = applies_moves P p m s is

decides_live_moves : (P : Named → Type 0) (p : Part) (m : Decide) (s : Session) (d : Decision)
    → session p m.lsid ≡ Some s → DecidesMoves P p (de.decides_live p m s d)
decides_live_moves P p m s (decision.Commit time) is = nothing P p
decides_live_moves P p m s (decision.Abort shard code) is =
    (aborted_moves P p m.lsid s _ is, λ h. tt)

decides_own_moves : (P : Named → Type 0) (p : Part) (m : Decide) (s : Session) (st : SessionState)
    → session p m.lsid ≡ Some s → DecidesMoves P p (de.decides_own p m s st)
decides_own_moves P p m s state.Live is = decides_live_moves P p m s m.decision is
decides_own_moves P p m s (state.Prepared at coordinator) is =
    decides_prepared_moves P p m s at m.decision is
decides_own_moves P p m s (state.Committed at) is = nothing P p
decides_own_moves P p m s state.Released is = nothing P p
decides_own_moves P p m s (state.Aborted why read_at) is = nothing P p

decides_moves : (P : Named → Type 0) (p : Part) (m : Decide) (s : Option Session)
    → session p m.lsid ≡ s → DecidesMoves P p (de.decides_session p m s)
decides_moves P p m None is = nothing P p
decides_moves P p m (Some s) is = either (same_tag s.tag m.tag) (DecidesMoves P p) _ _
    (decides_own_moves P p m s s.state is) (nothing P p)

pub decide_moves : (P : Named → Type 0) (p : Part) (m : Decide) → DecidesMoves P p (de.decide p m)
unfolding de.decide
decide_moves P p m = decides_moves P p m (session p m.lsid) refl

-- A commit and a prepare.

abbrev pub CommitsMove : (Named → Type 0) → Part → co.Committing → Type 0
CommitsMove P p c = Moves P p c.part × Recorded P p c.rec

commits_by_moves : (P : Named → Type 0) (p : Part) (last : ℕ) (m : Commit) (s : Session) (o : Open)
    (t : Option ℕ) → session p m.lsid ≡ Some s → CommitsMove P p (co.commits_by p last m s o t)
commits_by_moves P p last m s o None is = (aborted_moves P p m.lsid s _ is, λ h. tt)
commits_by_moves P p last m s o (Some at) is = (
  ends P m.lsid s (state.Committed at) p (co.commits p m s o at).part is refl refl refl,
  session_named P p m.lsid s is,
)

releases_moves : (P : Named → Type 0) (p : Part) (last : ℕ) (m : Commit) (s : Session)
    → session p m.lsid ≡ Some s → CommitsMove P p (co.releases p last m s)
releases_moves P p last m s is =
    (ends P m.lsid s state.Released p (co.releases p last m s).part is refl refl refl, λ h. tt)

commits_writes_moves : (P : Named
    → Type 0) (p : Part) (last wall : ℕ) (m : Commit) (s : Session) (o : Open) (ws : List Write)
    → session p m.lsid ≡ Some s → CommitsMove P p (co.commits_writes p last wall m s o ws)
commits_writes_moves P p last wall m s o [] is = releases_moves P p last m s is
commits_writes_moves P p last wall m s o (w ∷ ws) is =
    commits_by_moves P p last m s o (ticked last wall) is

commits_open_moves : (P : Named → Type 0) (p : Part) (last wall : ℕ) (m : Commit) (s : Session) (o :
    Option Open) → session p m.lsid ≡ Some s → CommitsMove P p (co.commits_open p last wall m s o)
commits_open_moves P p last wall m s None is = releases_moves P p last m s is
commits_open_moves P p last wall m s (Some o) is =
    commits_writes_moves P p last wall m s o o.writes is

told_moves : (P : Named → Type 0) (p : Part) → Moves P p p × (PartNamed P p → Unit {0})
told_moves P p = (stays P p, λ h. tt)

commits_own_moves : (P : Named → Type 0) (p : Part) (last wall : ℕ) (m : Commit) (s : Session) (st :
    SessionState) → session p m.lsid ≡ Some s → CommitsMove P p (co.commits_own p last wall m s st)
commits_own_moves P p last wall m s state.Live is =
    either (nat_eq m.boot p.boot) (CommitsMove P p) _ _ (commits_open_moves P p last wall m s
    (open_of p m.lsid) is) (aborted_moves P p m.lsid s _ is, λ h. tt)
commits_own_moves P p last wall m s (state.Prepared at coordinator) is = told_moves P p
commits_own_moves P p last wall m s (state.Committed at) is = told_moves P p
commits_own_moves P p last wall m s state.Released is = told_moves P p
commits_own_moves P p last wall m s (state.Aborted why read_at) is = told_moves P p

commits_move : (P : Named → Type 0) (p : Part) (last wall : ℕ) (m : Commit) (s : Option Session)
    → session p m.lsid ≡ s → CommitsMove P p (co.commits_session p last wall m s)
commits_move P p last wall m None is = told_moves P p
commits_move P p last wall m (Some s) is =
    either (int_lt m.number s.number) (CommitsMove P p) _ _ (told_moves P p)
    (either (same_tag s.tag m.tag) (CommitsMove P p) _ _
    (commits_own_moves P p last wall m s s.state is) (told_moves P p))

pub commit_moves : (P : Named → Type 0) (p : Part) (last wall : ℕ) (m : Commit)
    → CommitsMove P p (co.commit p last wall m)
unfolding co.commit
commit_moves P p last wall m = commits_move P p last wall m (session p m.lsid) refl

abbrev pub VotesMove : (Named → Type 0) → Part → pr.Voting → Type 0
VotesMove P p c = Moves P p c.part × Recorded P p c.rec

prepares_by_moves : (P : Named → Type 0) (p : Part) (last : ℕ) (m : Prepare) (s : Session) (o :
    Open) (t : Option ℕ) → session p m.lsid ≡ Some s → VotesMove P p (pr.prepares_by p last m s o t)
prepares_by_moves P p last m s o None is = (aborted_moves P p m.lsid s _ is, λ h. tt)
prepares_by_moves P p last m s o (Some at) is = (
  ends P m.lsid s (state.Prepared at m.coordinator) p (pr.prepares p m s o at).part is
      refl refl refl,
  session_named P p m.lsid s is,
)

prepares_open_moves : (P : Named
    → Type 0) (p : Part) (last wall : ℕ) (m : Prepare) (s : Session) (o : Option Open)
    → session p m.lsid ≡ Some s → VotesMove P p (pr.prepares_open p last wall m s o)
prepares_open_moves P p last wall m s None is = told_moves P p
prepares_open_moves P p last wall m s (Some o) is =
    prepares_by_moves P p last m s o (ticked last wall) is

prepares_own_moves : (P : Named
    → Type 0) (p : Part) (last wall : ℕ) (m : Prepare) (s : Session) (st : SessionState)
    → session p m.lsid ≡ Some s → VotesMove P p (pr.prepares_own p last wall m s st)
prepares_own_moves P p last wall m s state.Live is =
    either (nat_eq m.boot p.boot) (VotesMove P p) _ _ (prepares_open_moves P p last wall m s
    (open_of p m.lsid) is) (aborted_moves P p m.lsid s _ is, λ h. tt)
prepares_own_moves P p last wall m s (state.Prepared at coordinator) is = told_moves P p
prepares_own_moves P p last wall m s (state.Committed at) is = told_moves P p
prepares_own_moves P p last wall m s state.Released is = told_moves P p
prepares_own_moves P p last wall m s (state.Aborted why read_at) is = told_moves P p

prepares_move : (P : Named → Type 0) (p : Part) (last wall : ℕ) (m : Prepare) (s : Option Session)
    → session p m.lsid ≡ s → VotesMove P p (pr.prepares_session p last wall m s)
prepares_move P p last wall m None is = told_moves P p
prepares_move P p last wall m (Some s) is =
    either (is_replaced s m.number m.tag) (VotesMove P p) _ _ (told_moves P p)
    (either (same_tag s.tag m.tag) (VotesMove P p) _ _
    (prepares_own_moves P p last wall m s s.state is) (told_moves P p))

pub prepare_moves : (P : Named → Type 0) (p : Part) (last wall : ℕ) (m : Prepare)
    → VotesMove P p (pr.prepare p last wall m)
unfolding pr.prepare
prepare_moves P p last wall m = prepares_move P p last wall m (session p m.lsid) refl
