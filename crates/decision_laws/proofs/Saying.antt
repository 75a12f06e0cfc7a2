-- What a shard's session is where the shard tells how a transaction ended, and what it is then.
use Rattle.std.proofs.Common.{◌≡◌, ◌⊎◌, inl, inr, ℕ, ℤ, Bool, true, false, List, [], ◌∷◌}
use Rattle.std.proofs.Common.{Option, Some, None, refl, sym, ap, subst, ◌∙◌, nat_eq, int_lt}
use Rattle.std.proofs.Common.{if◌then◌else◌, not, ◌&&◌}
use Rattle.std.specs.Prelude.{IfSome}
use Rattle.txn_types.specs.Clock.{ticked}
use Rattle.txn_types.specs.Order.{same_tag}
use Rattle.txn_types.specs.declared.cause.Cause.{Cause}
use Rattle.txn_types.specs.declared.cause.Cause.TheVariants as cause
use Rattle.txn_types.specs.declared.decision.Told.{Told}
use Rattle.txn_types.specs.declared.decision.Told.TheVariants as told
use Rattle.txn_types.specs.declared.message.Commit.{Commit}
use Rattle.txn_types.specs.declared.message.Recover.{Recover}
use Rattle.txn_types.specs.declared.names.Tag.{Tag}
use Rattle.txn_types.specs.declared.node.Lsid.{Lsid}
use Rattle.txn_types.specs.declared.write.Write.{Write}
use Rattle.journal_rec.specs.declared.record.Rec.{Rec}
use Rattle.journal_rec.specs.declared.record.Rec.TheVariants as rec
use Rattle.session_table.specs.declared.session.Session.{Session}
use Rattle.session_table.specs.declared.session.SessionState.{SessionState}
use Rattle.session_table.specs.declared.session.SessionState.TheVariants as state
use Rattle.participant.specs.declared.said.Open.{Open}
use Rattle.participant.specs.Part.{Part, session, open_of, aborted}
use Rattle.participant.specs.Commit as co
use Rattle.participant.specs.Recover as rc
use Rattle.participant.specs.Memory.{may_abort, may_tell, may_tell_memory, ended_for_memory}
use Rattle.participant.specs.Memory.{ends_session, ends_own}
use Rattle.participant.proofs.Cases.{either}
use Rattle.participant.proofs.Moving.{entry_here}
use Rattle.participant.proofs.Tags.{tag_same, tag_self}
use Rattle.answer_laws.proofs.Lists.{nat_is}
use Rattle.decision_laws.proofs.Ageing.{some_same}
use Rattle.decision_laws.proofs.Ageing.{Ages, NoneFreed, Changes, stays, still, ends, put_or_was}
use Rattle.decision_laws.proofs.Ageing.{frees_none, aborted_ages}

abbrev pub is_aborted : SessionState → Bool
is_aborted (state.Aborted why read_at) = true
is_aborted other = false

-- Where it tells that a transaction is aborted: its session had no larger number, and where it had
-- the transaction, that was live or aborted; then it has it aborted, or it hasn't it.

abbrev pub IsUnder : ℤ → Session → Type 0
IsUnder number s = int_lt number s.number ≡ false

pub record HasAborted (q : Part) (lsid : Lsid) (tag : Tag) : Type 0 where
  pub own : Session
  pub there : session q lsid ≡ Some own
  pub tag_is : own.tag ≡ tag
  pub ended : is_aborted own.state ≡ true

abbrev pub HasNot : Part → Lsid → ℤ → Tag → Type 0
HasNot q lsid number tag = (s : Session) → session q lsid ≡ Some s
    → IsUnder number s × (s.tag ≡ tag → ⊥)

pub record TellsAborted (p q : Part) (lsid : Lsid) (number : ℤ) (tag : Tag) : Type 0 where
  pub before : (s : Session) → session p lsid ≡ Some s
      → IsUnder number s × (s.tag ≡ tag → may_abort s.state ≡ true)
  pub left : HasAborted q lsid tag ⊎ HasNot q lsid number tag

-- where it hasn't the transaction
none_tells : (p : Part) (lsid : Lsid) (number : ℤ) (tag : Tag) → session p lsid ≡ None
    → TellsAborted p p lsid number tag
none_tells p lsid number tag is = record {
  before = λ s there. let wrong : None ≡ Some s = sym is ∙ there in cc;
  left = inr (λ s there. let wrong : None ≡ Some s = sym is ∙ there in cc);
}

other_tag : (s : Session) (tag : Tag) → same_tag s.tag tag ≡ false → s.tag ≡ tag → ⊥
other_tag s tag apart own =
    let wrong : true ≡ false = sym (tag_self tag)
    ∙ ap (λ (t : Tag). same_tag t tag) (sym own) ∙ apart in cc

other_tells : (p : Part) (lsid : Lsid) (number : ℤ) (tag : Tag) (s : Session)
    → session p lsid ≡ Some s → IsUnder number s → same_tag s.tag tag ≡ false
    → TellsAborted p p lsid number tag
other_tells p lsid number tag s is under apart = record {
  before = λ x there.
      let same : s ≡ x = some_same s x (sym is ∙ there) in
      subst (λ (y : Session). IsUnder number y × (y.tag ≡ tag → may_abort y.state ≡ true)) same
      (under, λ own. absurd (other_tag s tag apart own));
  left = inr (λ x there.
      let same : s ≡ x = some_same s x (sym is ∙ there) in
      subst (λ (y : Session). IsUnder number y × (y.tag ≡ tag → ⊥)) same
      (under, other_tag s tag apart));
}

-- where it has it, live or aborted
own_tells : (p q : Part) (lsid : Lsid) (number : ℤ) (tag : Tag) (s : Session)
    → session p lsid ≡ Some s → IsUnder number s → may_abort s.state ≡ true
    → HasAborted q lsid tag → TellsAborted p q lsid number tag
own_tells p q lsid number tag s is under may has = record {
  before = λ x there.
      let same : s ≡ x = some_same s x (sym is ∙ there) in
      subst (λ (y : Session). IsUnder number y × (y.tag ≡ tag → may_abort y.state ≡ true)) same
      (under, λ own. may);
  left = inl has;
}

has_ended : (p : Part) (lsid : Lsid) (tag : Tag) (s : Session) (why : Cause) → s.tag ≡ tag
    → HasAborted (aborted p lsid s why) lsid tag
has_ended p lsid tag s why own =
    let new : Session = record { number = s.number; tag = s.tag; state = state.Aborted why 0 } in
    record {
      own = new;
      there = entry_here lsid new p.sessions.entries;
      tag_is = own;
      ended = refl;
    }

live_tells : (p : Part) (lsid : Lsid) (number : ℤ) (tag : Tag) (s : Session) (why : Cause)
    → session p lsid ≡ Some s → IsUnder number s → s.tag ≡ tag → s.state ≡ state.Live
    → TellsAborted p (aborted p lsid s why) lsid number tag
live_tells p lsid number tag s why is under own live =
    own_tells p (aborted p lsid s why) lsid number tag s is under (ap may_abort live)
    (has_ended p lsid tag s why own)

again_tells : (p : Part) (lsid : Lsid) (number : ℤ) (tag : Tag) (s : Session) (why : Cause)
    (at : ℕ) → session p lsid ≡ Some s → IsUnder number s → s.tag ≡ tag
    → s.state ≡ state.Aborted why at → TellsAborted p p lsid number tag
again_tells p lsid number tag s why at is under own ended =
    own_tells p p lsid number tag s is under (ap may_abort ended)
    (record { own = s; there = is; tag_is = own; ended = ap is_aborted ended })

-- Where it tells that a transaction is released, that had written nothing.

abbrev pub WritesNone : Option Open → Type 0
WritesNone None = Unit {0}
WritesNone (Some o) = o.writes ≡ []

pub record TellsReleased (p q : Part) (m : Commit) : Type 0 where
  pub own : Session
  pub there : session p m.lsid ≡ Some own
  pub under : IsUnder m.number own
  pub tag_is : own.tag ≡ m.tag
  pub was : ((own.state ≡ state.Live) × (m.boot ≡ p.boot) × WritesNone (open_of p m.lsid))
      ⊎ (own.state ≡ state.Released)
  pub left : (t : Session) × (session q m.lsid ≡ Some t) × (t.tag ≡ m.tag)
      × (t.number ≡ own.number) × (t.state ≡ state.Released)

abbrev pub SaysOf : Part → Part → Commit → Told → Type 0
SaysOf p q m (told.Aborted why) = TellsAborted p q m.lsid m.number m.tag
SaysOf p q m told.Released = TellsReleased p q m
SaysOf p q m other = Unit {0}

-- What is recorded of a commit.

pub record Records (p q : Part) (m : Commit) (r : Rec) : Type 0 where
  pub own : Session
  pub there : session p m.lsid ≡ Some own
  pub under : IsUnder m.number own
  pub tag_is : own.tag ≡ m.tag
  pub live : own.state ≡ state.Live
  pub boot : m.boot ≡ p.boot
  pub mine : Open
  pub has : open_of p m.lsid ≡ Some mine
  pub write : Write
  pub more : List Write
  pub writes : mine.writes ≡ write ∷ more
  pub at : ℕ
  pub is : r ≡ rec.Commit own.tag m.lsid own.number mine.read_at at mine.writes
  pub left : session q m.lsid
      ≡ Some (record { number = own.number; tag = own.tag; state = state.Committed at })

-- What is released then was so before, or its commit releases it.

abbrev pub Frees : Part → Part → Commit → Type 0
Frees p q m = (lsid : Lsid) (t : Session) → session q lsid ≡ Some t → t.state ≡ state.Released
    → (session p lsid ≡ Some t) ⊎ ((t.tag ≡ m.tag) × TellsReleased p q m)

none_frees : (p q : Part) (m : Commit) → NoneFreed p q → Frees p q m
none_frees p q m none lsid t there free = inl (none lsid t there free)

-- A commit.

pub record Commits (p : Part) (m : Commit) (c : co.Committing) : Type 0 where
  pub ages : Ages p c.part
  pub frees : Frees p c.part m
  pub told : IfSome c.told (SaysOf p c.part m)
  pub rec : IfSome c.rec (Records p c.part m)

module _ (p : Part) (m : Commit) where
  abbrev Does : co.Committing → Type 0
  Does c = Commits p m c

  rests : (last : ℕ) (t : Told) → SaysOf p p m t → Does (co.tells p last t)
  rests last t h = record {
    ages = stays p;
    frees = none_frees p p m (still p).1;
    told = h;
    rec = tt;
  }

  module _ (s : Session) (is : session p m.lsid ≡ Some s) (under : IsUnder m.number s)
      (own : s.tag ≡ m.tag) where
    fails : (last : ℕ) (why : Cause) → s.state ≡ state.Live → Does (co.fails p last m s why)
    fails last why live = record {
      ages = (aborted_ages p m.lsid s why is live).0;
      frees = none_frees p (aborted p m.lsid s why) m (aborted_ages p m.lsid s why is live).1;
      told = live_tells p m.lsid m.number m.tag s why is under own live;
      rec = tt;
    }

    releases : (last : ℕ) → s.state ≡ state.Live → m.boot ≡ p.boot
        → WritesNone (open_of p m.lsid) → Does (co.releases p last m s)
    releases last live boot none =
        let new : Session =
        record { number = s.number; tag = s.tag; state = state.Released } in
        let after = (co.releases p last m s).part in
        let says : TellsReleased p after m = record {
          own = s;
          there = is;
          under = under;
          tag_is = own;
          was = inl (live, boot, none);
          left = (new, entry_here m.lsid new p.sessions.entries, own, refl, refl);
        } in
        record {
          ages = ends p after m.lsid s state.Released is live refl;
          frees = λ lsid t there free.
              elim (put_or_was p after m.lsid new refl lsid t there) [
                | inl was ↦ inl was
                | inr put ↦ inr (ap (λ (x : Session). x.tag) put.1 ∙ own, says)
              ];
          told = says;
          rec = tt;
        }

    commits : (last wall : ℕ) (o : Open) (write : Write) (more : List Write) (next : Option ℕ)
        → s.state ≡ state.Live → m.boot ≡ p.boot → open_of p m.lsid ≡ Some o
        → o.writes ≡ write ∷ more → Does (co.commits_by p last m s o next)
    commits last wall o write more None live boot has writes = fails last (cause.ClockEnd last) live
    commits last wall o write more (Some at) live boot has writes =
        let new : Session =
        record { number = s.number; tag = s.tag; state = state.Committed at } in
        let after = (co.commits p m s o at).part in
        record {
          ages = ends p after m.lsid s (state.Committed at) is live refl;
          frees = none_frees p after m (frees_none p after m.lsid new refl (λ e. cc));
          told = tt;
          rec = record {
            own = s;
            there = is;
            under = under;
            tag_is = own;
            live = live;
            boot = boot;
            mine = o;
            has = has;
            write = write;
            more = more;
            writes = writes;
            at = at;
            is = refl;
            left = entry_here m.lsid new p.sessions.entries;
          };
        }

    by_writes : (last wall : ℕ) (o : Open) (writes : List Write) → o.writes ≡ writes
        → s.state ≡ state.Live → m.boot ≡ p.boot → open_of p m.lsid ≡ Some o
        → Does (co.commits_writes p last wall m s o writes)
    by_writes last wall o [] e live boot has =
        releases last live boot (subst WritesNone (sym has) e)
    by_writes last wall o (write ∷ more) e live boot has =
        commits last wall o write more (ticked last wall) live boot has e

    by_open : (last wall : ℕ) (o : Option Open) → open_of p m.lsid ≡ o → s.state ≡ state.Live
        → m.boot ≡ p.boot → Does (co.commits_open p last wall m s o)
    by_open last wall None has live boot =
        releases last live boot (subst WritesNone (sym has) tt)
    by_open last wall (Some o) has live boot = by_writes last wall o o.writes refl live boot has

    by_boot : (last wall : ℕ) (test : Bool) → nat_eq m.boot p.boot ≡ test → s.state ≡ state.Live
        → Does (if test then co.commits_open p last wall m s (open_of p m.lsid)
        else co.fails p last m s (cause.Unavailable m.boot p.boot))
    by_boot last wall true e live =
        by_open last wall (open_of p m.lsid) refl live (nat_is m.boot p.boot e)
    by_boot last wall false e live = fails last (cause.Unavailable m.boot p.boot) live

    by_state : (last wall : ℕ) (st : SessionState) → s.state ≡ st
        → Does (co.commits_own p last wall m s st)
    by_state last wall state.Live e = by_boot last wall (nat_eq m.boot p.boot) refl e
    by_state last wall (state.Prepared at coordinator) e =
        record { ages = stays p; frees = none_frees p p m (still p).1; told = tt; rec = tt }
    by_state last wall (state.Committed at) e = rests last (told.Committed at) tt
    by_state last wall state.Released e = rests last told.Released (record {
      own = s;
      there = is;
      under = under;
      tag_is = own;
      was = inr e;
      left = (s, is, own, refl, e);
    })
    by_state last wall (state.Aborted why at) e = rests last (told.Aborted why)
        (again_tells p m.lsid m.number m.tag s why at is under own e)

  by_tag : (last wall : ℕ) (s : Session) (test : Bool) → same_tag s.tag m.tag ≡ test
      → session p m.lsid ≡ Some s → IsUnder m.number s
      → Does (if test then co.commits_own p last wall m s s.state
      else co.tells p last (told.Aborted (cause.Unavailable m.boot p.boot)))
  by_tag last wall s true same is under =
      by_state s is under (tag_same s.tag m.tag same) last wall s.state refl
  by_tag last wall s false same is under = rests last _
      (other_tells p m.lsid m.number m.tag s is under same)

  by_number : (last wall : ℕ) (s : Session) (test : Bool) → int_lt m.number s.number ≡ test
      → session p m.lsid ≡ Some s
      → Does (if test then co.tells p last (told.TooOld s.number)
      else if same_tag s.tag m.tag then co.commits_own p last wall m s s.state
      else co.tells p last (told.Aborted (cause.Unavailable m.boot p.boot)))
  by_number last wall s true e is = rests last (told.TooOld s.number) tt
  by_number last wall s false e is = by_tag last wall s (same_tag s.tag m.tag) refl is e

  by_session : (last wall : ℕ) (s : Option Session) → session p m.lsid ≡ s
      → Does (co.commits_session p last wall m s)
  by_session last wall None is = rests last _ (none_tells p m.lsid m.number m.tag is)
  by_session last wall (Some s) is = by_number last wall s (int_lt m.number s.number) refl is

pub commit_does : (p : Part) (last wall : ℕ) (m : Commit) → Commits p m (co.commit p last wall m)
unfolding co.commit
commit_does p last wall m = by_session p m last wall (session p m.lsid) refl

-- A recovery: it tells of none that it is released.

abbrev pub RecoverSays : Part → Part → Recover → Told → Type 0
RecoverSays p q m (told.Aborted why) = TellsAborted p q m.lsid m.number m.tag
RecoverSays p q m told.Released = ⊥
RecoverSays p q m other = Unit {0}

pub record Recovers (p : Part) (m : Recover) (t : rc.Telling) : Type 0 where
  pub ages : Changes p t.1
  pub told : RecoverSays p t.1 m t.0

module _ (p : Part) (m : Recover) where
  abbrev Ends : rc.Telling → Type 0
  Ends t = Recovers p m t

  keeps : (t : Told) → RecoverSays p p m t → Ends (t, p)
  keeps t h = record { ages = still p; told = h }

  lost : TellsAborted p p m.lsid m.number m.tag → Ends (rc.recovers_none p m)
  lost h =
      either (nat_eq m.boot p.boot) Ends _ _ (keeps told.NoTrace tt)
      (keeps (told.Aborted (cause.Unavailable m.boot p.boot)) h)

  own_recovers : (s : Session) (st : SessionState) → session p m.lsid ≡ Some s
      → IsUnder m.number s → s.tag ≡ m.tag → s.state ≡ st → Ends (rc.recovers_own p m s st)
  own_recovers s state.Live is under own e = record {
    ages = aborted_ages p m.lsid s (cause.ClientAbort 3) is e;
    told = live_tells p m.lsid m.number m.tag s (cause.ClientAbort 3) is under own e;
  }
  own_recovers s (state.Prepared at coordinator) is under own e = keeps told.NoTrace tt
  own_recovers s (state.Committed at) is under own e = keeps (told.Committed at) tt
  own_recovers s state.Released is under own e = keeps told.NoTrace tt
  own_recovers s (state.Aborted why at) is under own e = keeps (told.Aborted why)
      (again_tells p m.lsid m.number m.tag s why at is under own e)

  tag_recovers : (s : Session) (test : Bool) → same_tag s.tag m.tag ≡ test
      → session p m.lsid ≡ Some s → IsUnder m.number s
      → Ends (if test then rc.recovers_own p m s s.state else rc.recovers_none p m)
  tag_recovers s true same is under =
      own_recovers s s.state is under (tag_same s.tag m.tag same) refl
  tag_recovers s false same is under = lost (other_tells p m.lsid m.number m.tag s is under same)

  number_recovers : (s : Session) (test : Bool) → int_lt m.number s.number ≡ test
      → session p m.lsid ≡ Some s
      → Ends (if test then (told.TooOld s.number, p)
      else if same_tag s.tag m.tag then rc.recovers_own p m s s.state else rc.recovers_none p m)
  number_recovers s true e is = keeps (told.TooOld s.number) tt
  number_recovers s false e is = tag_recovers s (same_tag s.tag m.tag) refl is e

  session_recovers : (s : Option Session) → session p m.lsid ≡ s
      → Ends (rc.recovers_session p m s)
  session_recovers None is = lost (none_tells p m.lsid m.number m.tag is)
  session_recovers (Some s) is = number_recovers s (int_lt m.number s.number) refl is

pub recover_does : (p : Part) (m : Recover) → Recovers p m (rc.recover p m)
unfolding rc.recover
recover_does p m = session_recovers p m (session p m.lsid) refl

-- Want of memory.

both_true : (a b : Bool) → (not a && b) ≡ true → (a ≡ false) × (b ≡ true)
both_true true b e = cc
both_true false b e = (refl, e)

module _ (p : Part) (lsid : Lsid) (number : ℤ) (tag : Tag) where
  own_memory : (s : Session) (st : SessionState) → session p lsid ≡ Some s → IsUnder number s
      → s.tag ≡ tag → s.state ≡ st → may_abort st ≡ true
      → TellsAborted p (ends_own p lsid s st) lsid number tag
  own_memory s state.Live is under own e may =
      live_tells p lsid number tag s cause.Memory is under own e
  own_memory s (state.Prepared at coordinator) is under own e may = cc
  own_memory s (state.Committed at) is under own e may = cc
  own_memory s state.Released is under own e may = cc
  own_memory s (state.Aborted why at) is under own e may =
      again_tells p lsid number tag s why at is under own e

  tag_memory : (s : Session) (test : Bool) → same_tag s.tag tag ≡ test → session p lsid ≡ Some s
      → IsUnder number s → (if test then may_abort s.state else true) ≡ true
      → TellsAborted p (if test then ends_own p lsid s s.state else p) lsid number tag
  tag_memory s true same is under may =
      own_memory s s.state is under (tag_same s.tag tag same) refl may
  tag_memory s false same is under may = other_tells p lsid number tag s is under same

  session_memory : (s : Option Session) → session p lsid ≡ s → may_tell number tag s ≡ true
      → TellsAborted p (ends_session p lsid tag s) lsid number tag
  session_memory None is may = none_tells p lsid number tag is
  session_memory (Some s) is may =
      let k = both_true (int_lt number s.number)
      (if same_tag s.tag tag then may_abort s.state else true) may in
      tag_memory s (same_tag s.tag tag) refl is k.0 k.1

  pub memory_tells : may_tell_memory p lsid number tag ≡ true
      → TellsAborted p (ended_for_memory p lsid tag) lsid number tag
  memory_tells may = session_memory (session p lsid) refl may
