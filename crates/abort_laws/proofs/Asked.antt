-- A step at which a wish is new as a cause is the delivery of what asks for it.
use Rattle.std.proofs.Common.{◌≡◌, ◌⊎◌, inl, inr, ℕ, ℤ, true, false, All, List}
use Rattle.std.proofs.Common.{Some, refl, sym, ap, subst, ◌∙◌, arith}
use Rattle.std.specs.Prelude.{Contains, slice_get}
use Rattle.std.proofs.lemmas.List.Elements.{All-nil, All-contains}
use Rattle.txn_types.specs.Letters.{Named, given_out}
use Rattle.txn_types.specs.declared.cause.Cause.{Cause}
use Rattle.txn_types.specs.declared.cause.Cause.TheVariants as cause
use Rattle.txn_types.specs.declared.event.Happening.{Happening}
use Rattle.txn_types.specs.declared.event.Happening.TheVariants as what
use Rattle.txn_types.specs.declared.event.NodeAnswer.{NodeAnswer}
use Rattle.txn_types.specs.declared.event.NodeEvent.{NodeEvent}
use Rattle.txn_types.specs.declared.message.Envelope.{Envelope}
use Rattle.txn_types.specs.declared.message.Msg.{Msg}
use Rattle.txn_types.specs.declared.message.Msg.TheVariants as msg
use Rattle.txn_types.specs.declared.names.Tag.{Tag}
use Rattle.txn_types.specs.declared.node.Lsid.{Lsid}
use Rattle.txn_types.specs.declared.node.NodeId.TheVariants.{Shard}
use Rattle.session_table.specs.declared.session.Session.{Session}
use Rattle.session_table.specs.declared.session.SessionState.{SessionState}
use Rattle.session_table.specs.declared.session.SessionState.TheVariants as state
use Rattle.participant.specs.Part.{Part, session}
use Rattle.shard_core.specs.NodeStep.{NodeState, ShardTakes}
use Rattle.shard_core.specs.Effect.{plan_name}
use Rattle.chunk_map.specs.Map.{Map}
use Rattle.txn_model.specs.declared.ran.Ran.{Ran}
use Rattle.txn_model.specs.declared.ran.Ran.TheVariants.{Step}
use Rattle.cluster_core.specs.Causes.{Making, IsMade, EndsWith, Tells, Names}
use Rattle.cluster_core.specs.Causes.{NamesAt, HasSession, HasPlan, Aborts, is_aborted}
use Rattle.cluster_core.specs.Nodes.{Nodes}
use Rattle.cluster_core.specs.Parts.{names_of}
use Rattle.cluster_core.specs.Trace.{IsTrace, IsFresh}
use Rattle.world_laws.specs.Joint.{Stands, DisksStand}
use Rattle.world_laws.proofs.Joint.{stands_fresh, stands_run}
use Rattle.world_laws.proofs.Lists.{set_there}
use Rattle.world_laws.proofs.Naming.{found}
use Rattle.known_laws.specs.Known.{KnownStands, NamesNone}
use Rattle.known_laws.proofs.Sessions.{session_named}
use Rattle.known_laws.proofs.Standing.{known_fresh, known_run}
use Rattle.making_laws.specs.News.{IsFirst, IsNew}
use Rattle.abort_laws.specs.Asked.{IsAskedFor}
use Rattle.abort_laws.proofs.Parts.{CauseOk, EndOk, ToldOk, ResultOk, PartOk}
use Rattle.abort_laws.proofs.Rules.{ShardSays, Says, SaysAt, EndsBy, EndsAt, step_ok}
use Rattle.abort_laws.proofs.Places.{place_of, one_place}

-- a transaction that was ended so before, or that the event ends

abbrev Had : Part → Lsid → Tag → ℕ → Type 0
Had p lsid tag why = (s : Session) × (session p lsid ≡ Some s) × (s.tag ≡ tag)
    × ((read_at : ℕ) × (s.state ≡ state.Aborted (cause.ClientAbort why) read_at))

abbrev AbortsAt : Happening → Tag → ℕ → Type 0
AbortsAt (what.Deliver e) tag why = Aborts tag why e.msg
AbortsAt other tag why = ⊥

abbrev pub Wish : Part → Happening → Lsid → Tag → ℕ → Type 0
Wish p w lsid tag why = Had p lsid tag why ⊎ AbortsAt w tag why

cause_had : (p : Part) (w : Happening) (lsid : Lsid) (s : Session) (why : Cause) (read_at : ℕ)
    → session p lsid ≡ Some s → s.state ≡ state.Aborted why read_at
    → CauseOk (Wish p w lsid s.tag) why
cause_had p w lsid s (cause.ClientAbort why) read_at there is =
    inl (s, there, refl, (read_at, is))
cause_had p w lsid s other read_at there is = tt

state_had : (p : Part) (w : Happening) (lsid : Lsid) (s : Session) (st : SessionState)
    → session p lsid ≡ Some s → s.state ≡ st → EndOk (Wish p w lsid s.tag) st
state_had p w lsid s (state.Aborted why read_at) there is =
    cause_had p w lsid s why read_at there is
state_had p w lsid s other there is = tt

part_had : (p : Part) (w : Happening) → PartOk (Wish p w) p
part_had p w lsid s there = state_had p w lsid s s.state there refl

ends_by : (p : Part) (e : Envelope) (m : Msg) → e.msg ≡ m
    → EndsBy (λ lsid tag why. Had p lsid tag why ⊎ Aborts tag why m) m
ends_by p e (msg.Abort m) is = inr (refl, refl)
ends_by p e (msg.Recover m) is = inr (refl, refl)
ends_by p e (msg.Statement m) is = tt
ends_by p e (msg.Answer m) is = tt
ends_by p e (msg.Commit m) is = tt
ends_by p e (msg.Outcome m) is = tt
ends_by p e (msg.CommitTwo m) is = tt
ends_by p e (msg.Prepare m) is = tt
ends_by p e (msg.Vote m) is = tt
ends_by p e (msg.Decide m) is = tt
ends_by p e (msg.Acked m) is = tt
ends_by p e msg.Nudge is = tt

ends_at : (p : Part) (w : Happening) → EndsAt (Wish p w) w
ends_at p (what.Deliver e) = ends_by p e e.msg refl
ends_at p (what.Client conn frame) = tt
ends_at p (what.Gone conn) = tt
ends_at p what.Resend = tt
ends_at p what.Moment = tt

-- A shard's step.

pub record WishStep (before : NodeState) (e : NodeEvent) (a : NodeAnswer)
    (after : NodeState) : Type 0 where
  pub part : PartOk (Wish before.core.part e.what) after.core.part
  pub out : All (λ (sent : Envelope). ShardSays (SaysAt (Wish before.core.part e.what) e.what)
      sent.msg) (given_out a)

pub wish_step : (before : NodeState) (e : NodeEvent) (a : NodeAnswer) (after : NodeState)
    → ShardTakes before e a after → WishStep before e a after
wish_step before e a after (room, inl done) =
    let w = Wish before.core.part e.what in
    let k = step_ok w room before.core e (ends_at before.core.part e.what)
    (part_had before.core.part e.what) in
    record {
      part = subst (λ (s : _). PartOk w s.part) (sym done.core) k.part;
      out = subst (λ (x : NodeAnswer). All (λ (sent : Envelope).
          ShardSays (SaysAt w e.what) sent.msg) (given_out x)) (sym done.told) k.out;
    }
wish_step before e a after (room, inr failed) =
    let w = Wish before.core.part e.what in
    let k = step_ok w room before.core e (ends_at before.core.part e.what)
    (part_had before.core.part e.what) in
    record {
      part = subst (λ (s : _). PartOk w s.part) (sym failed.core) k.part;
      out = subst (λ (x : NodeAnswer). All (λ (sent : Envelope).
          ShardSays (SaysAt w e.what) sent.msg) (given_out x)) (sym failed.told)
          (All-nil (λ (sent : Envelope). ShardSays (SaysAt w e.what) sent.msg));
    }

-- What was asked for.

asked_at : (m : Making) (w : Happening) (why : ℕ) → m.event.what ≡ w → AbortsAt w m.tag why
    → IsAskedFor m why
asked_at m (what.Deliver e) why is h = (e, is, h)
asked_at m (what.Client conn frame) why is h = absurd h
asked_at m (what.Gone conn) why is h = absurd h
asked_at m what.Resend why is h = absurd h
asked_at m what.Moment why is h = absurd h

same_session : (p : Part) (lsid : Lsid) (s t : Session) → session p lsid ≡ Some s
    → session p lsid ≡ Some t → s ≡ t
same_session p lsid s t a b = one_place s t (sym a ∙ b)

ended_asked : (m : Making) (why : ℕ) → WishStep m.before m.event m.answer m.after
    → EndsWith m (cause.ClientAbort why) → IsAskedFor m why
ended_asked m why k x =
    let h = k.part m.lsid x.new x.is in
    by (subst (λ (st : SessionState). EndOk (Wish m.before.core.part m.event.what m.lsid x.new.tag)
    st) x.ended h)
  where
    by : Wish m.before.core.part m.event.what m.lsid x.new.tag why → IsAskedFor m why
    by (inl had) =
        let same = same_session m.before.core.part m.lsid had.0 x.old had.1 x.was in
        let bad : true ≡ false = sym (ap is_aborted had.3.1)
        ∙ (ap (λ (s : Session). is_aborted s.state) same ∙ x.unended) in
        absurd (grind (arith, bad))
    by (inr asks) = asked_at m m.event.what why refl
        (subst (λ (t : Tag). AbortsAt m.event.what t why) x.same asks)

-- what a message tells is said of it

says_of : (T : Tag → ℕ → Type 0) (tag : Tag) (why : ℕ) (m : Msg)
    → Tells tag (cause.ClientAbort why) m → ShardSays T m → T tag why
says_of T tag why (msg.Answer a) t h = subst (λ (x : Tag). T x why) t.0
    (subst (ResultOk (T a.tag)) t.1 h)
says_of T tag why (msg.Outcome o) t h = subst (λ (x : Tag). T x why) t.0
    (subst (ToldOk (T o.tag)) t.1 h)
says_of T tag why (msg.Vote v) t h = subst (λ (x : Tag). T x why) t.0
    (subst (ResultOk (T v.tag)) t.1 h)
says_of T tag why (msg.Statement m) t h = absurd t
says_of T tag why (msg.Commit m) t h = absurd t
says_of T tag why (msg.Abort m) t h = absurd t
says_of T tag why (msg.CommitTwo m) t h = absurd t
says_of T tag why (msg.Prepare m) t h = absurd t
says_of T tag why (msg.Decide m) t h = absurd t
says_of T tag why (msg.Acked m) t h = absurd t
says_of T tag why (msg.Recover m) t h = absurd t
says_of T tag why msg.Nudge t h = absurd t

-- a message names one session
one_lsid : (tag : Tag) (a b : Lsid) (n k : ℤ) (m : Msg) → Names tag a n m → Names tag b k m → a ≡ b
one_lsid tag a b n k (msg.Statement m) h x = sym h.1 ∙ x.1
one_lsid tag a b n k (msg.Commit m) h x = sym h.1 ∙ x.1
one_lsid tag a b n k (msg.CommitTwo m) h x = sym h.1 ∙ x.1
one_lsid tag a b n k (msg.Prepare m) h x = sym h.1 ∙ x.1
one_lsid tag a b n k (msg.Recover m) h x = sym h.1 ∙ x.1
one_lsid tag a b n k (msg.Answer m) h x = absurd h
one_lsid tag a b n k (msg.Outcome m) h x = absurd h
one_lsid tag a b n k (msg.Abort m) h x = absurd h
one_lsid tag a b n k (msg.Vote m) h x = absurd h
one_lsid tag a b n k (msg.Decide m) h x = absurd h
one_lsid tag a b n k (msg.Acked m) h x = absurd h
one_lsid tag a b n k msg.Nudge h x = absurd h

-- Where the nodes stand, the shard's session of a transaction is the making's.

module _ (nodes : Nodes) (shard : ℕ) (m : Making) (stands : Stands nodes)
    (known : KnownStands nodes) (there : slice_get nodes.shards shard ≡ Some m.before) where
  abbrev Is : Named → Type 0
  Is x = Contains (names_of nodes) x

  one_session : (a b : Named) → Is a → Is b → a.tag ≡ b.tag → a.lsid ≡ b.lsid
  one_session a b h k e = (stands.tags.one_begin a b h k e).0

  own_name : (lsid : Lsid) (s : Session) → session m.before.core.part lsid ≡ Some s
      → Is (record { tag = s.tag; lsid = lsid; number = s.number })
  own_name lsid s is = session_named Is m.before.core.part lsid s is
      (known.shards shard m.before there).sessions

  same_by : (lsid : Lsid) (s : Session) → session m.before.core.part lsid ≡ Some s
      → s.tag ≡ m.tag → HasSession m ⊎ HasPlan m → lsid ≡ m.lsid
  same_by lsid s is tag (inl has) = one_session
      (record { tag = s.tag; lsid = lsid; number = s.number })
      (record { tag = has.0.tag; lsid = m.lsid; number = has.0.number })
      (own_name lsid s is) (own_name m.lsid has.0 has.1) (tag ∙ sym has.2)
  same_by lsid s is tag (inr plan) =
      let named : Is (plan_name (m.tag, plan.0)) = found (λ c. Is (plan_name c)) m.tag
      m.before.core.coord (stands.plans shard m.before there).plans plan.0 plan.1 in
      one_session (record { tag = s.tag; lsid = lsid; number = s.number })
      (plan_name (m.tag, plan.0)) (own_name lsid s is) named tag ∙ plan.2

  told_asked : (why : ℕ) (e : Envelope) → m.event.what ≡ what.Deliver e
      → (Names m.tag m.lsid m.number e.msg ⊎ (HasSession m ⊎ HasPlan m))
      → IsFirst m (cause.ClientAbort why)
      → Says (λ lsid tag why. Had m.before.core.part lsid tag why ⊎ Aborts tag why e.msg) e.msg
      m.tag why → IsAskedFor m why
  told_asked why e is has first (lsid, number, names, inr asks) = (e, is, asks)
  told_asked why e is has first (lsid, number, names, inl had) =
      let same : lsid ≡ m.lsid = by has in
      absurd (first had.0 had.3.0
      (subst (λ (l : Lsid). session m.before.core.part l ≡ Some had.0) same had.1) had.2 had.3.1)
    where
      by : Names m.tag m.lsid m.number e.msg ⊎ (HasSession m ⊎ HasPlan m) → lsid ≡ m.lsid
      by (inl here) = one_lsid m.tag lsid m.lsid number m.number e.msg names here
      by (inr other) = same_by lsid had.0 had.1 had.2 other

  says_asked : (w : Happening) (why : ℕ) → m.event.what ≡ w
      → (NamesAt m w ⊎ (HasSession m ⊎ HasPlan m)) → IsFirst m (cause.ClientAbort why)
      → SaysAt (Wish m.before.core.part w) w m.tag why → IsAskedFor m why
  says_asked (what.Deliver e) why is has first h = told_asked why e is has first h
  says_asked (what.Client conn frame) why is has first h = absurd h
  says_asked (what.Gone conn) why is has first h = absurd h
  says_asked what.Resend why is has first h = absurd h
  says_asked what.Moment why is has first h = absurd h

  pub new_asked : (why : ℕ) → WishStep m.before m.event m.answer m.after
      → (NamesAt m m.event.what ⊎ (HasSession m ⊎ HasPlan m))
      → IsNew m (cause.ClientAbort why) → IsAskedFor m why
  new_asked why k has (inl ends) = ended_asked m why k ends
  new_asked why k has (inr (tells, first)) =
      let T = SaysAt (Wish m.before.core.part m.event.what) m.event.what in
      says_asked m.event.what why refl has first
      (says_of T m.tag why tells.0.msg tells.2
      (All-contains (λ (sent : Envelope). ShardSays T sent.msg) (given_out m.answer) tells.0 k.out
      tells.1))

-- A run.

pub all_asked : (chunks : Map) (start : Nodes) (run : List Ran) (trace : List Nodes) (now : Nodes)
    → IsFresh chunks start → DisksStand start → NamesNone start → IsTrace start run trace now
    → (within shard : ℕ) (tag : Tag) (why : ℕ) (m : Making)
    → IsMade (record {
      chunks = chunks;
      routers = start.routers;
      run = run;
      trace = trace;
      now = now;
    }) within shard tag (cause.ClientAbort why) m
    → IsNew m (cause.ClientAbort why) → IsAskedFor m why
all_asked chunks start run trace now fresh disks names h within shard tag why m made new =
    let p = place_of start run trace now h m.place made.nodes
    (Step (Shard shard) m.event m.answer made.faults) made.at.before made.at.step in
    let stands0 = stands_fresh chunks start fresh disks in
    let stands = stands_run start p.before_run p.before_trace made.nodes p.comes stands0 in
    let known = known_run start p.before_run p.before_trace made.nodes p.comes stands0
    (known_fresh chunks start fresh disks names) in
    let s = p.happens in
    let next : p.next ≡ made.next = one_place p.next made.next (sym p.behind ∙ made.behind) in
    let before : s.before ≡ m.before = one_place s.before m.before (sym s.there ∙ made.before) in
    let put : slice_get p.next.shards shard ≡ Some s.after =
    ap (λ (x : Nodes). slice_get x.shards shard) s.nodes
    ∙ set_there made.nodes.shards shard s.after s.before s.there in
    let after : s.after ≡ m.after = one_place s.after m.after
    (sym put ∙ (ap (λ (x : Nodes). slice_get x.shards shard) next ∙ made.after)) in
    let takes : ShardTakes m.before m.event m.answer m.after =
    subst (λ (x : NodeState). ShardTakes x m.event m.answer m.after) before
    (subst (λ (x : NodeState). ShardTakes s.before m.event m.answer x) after s.takes) in
    new_asked made.nodes shard m stands known made.before why
    (wish_step m.before m.event m.answer m.after takes) made.session new
