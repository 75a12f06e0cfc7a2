-- Where a wish is new as a cause, it stood: what asks for it was delivered, and the router that
-- sent that had taken what its reason says.
use Rattle.std.proofs.Common.{◌≡◌, ◌⊎◌, inl, inr, ℕ, ℤ, All, List, [], ◌∷◌, Some, refl, sym}
use Rattle.std.proofs.Common.{ap, subst, ◌∙◌, arith, Option, None}
use Rattle.std.specs.Prelude.{Contains, slice_get}
use Rattle.std.specs.List.{cons_option, filter_map}
use Rattle.std.proofs.lemmas.List.Elements.{All-contains}
use Rattle.txn_types.specs.Letters.{Named, named_in}
use Rattle.txn_types.specs.declared.cause.Cause.TheVariants as cause
use Rattle.txn_types.specs.declared.event.Happening.{Happening}
use Rattle.txn_types.specs.declared.message.Abort.{Abort}
use Rattle.txn_types.specs.declared.message.Envelope.{Envelope}
use Rattle.txn_types.specs.declared.message.Msg.{Msg}
use Rattle.txn_types.specs.declared.message.Msg.TheVariants as msg
use Rattle.txn_types.specs.declared.names.Tag.{Tag}
use Rattle.txn_types.specs.declared.node.Lsid.{Lsid}
use Rattle.txn_types.specs.declared.node.NodeId.TheVariants.{Shard}
use Rattle.shard_core.specs.Effect.{plan_name}
use Rattle.chunk_map.specs.Map.{Map}
use Rattle.txn_model.specs.declared.ran.Ran.{Ran}
use Rattle.txn_model.specs.declared.ran.Ran.TheVariants.{Step}
use Rattle.cluster_core.specs.Causes.{Past, Making, IsMade, NamesAt, HasSession, HasPlan, Aborts}
use Rattle.cluster_core.specs.Causes.{Names, Reason, ByToken, Stood, Took, Asks, SeeksIt}
use Rattle.cluster_core.specs.Nodes.{Nodes}
use Rattle.cluster_core.specs.Parts.{names_of}
use Rattle.cluster_core.specs.Trace.{IsTrace, IsFresh, MayCome}
use Rattle.world_laws.specs.Joint.{Stands, DisksStand}
use Rattle.world_laws.proofs.Joint.{stands_fresh, stands_run}
use Rattle.world_laws.proofs.Naming.{found}
use Rattle.answer_laws.proofs.Lists.{has_first, has_more}
use Rattle.told_laws.proofs.Lists.{has_cases}
use Rattle.known_laws.specs.Known.{KnownStands, NamesNone}
use Rattle.known_laws.proofs.Sessions.{session_named}
use Rattle.known_laws.proofs.Standing.{known_fresh, known_run}
use Rattle.making_laws.specs.News.{IsNew}
use Rattle.abort_laws.specs.Asked.{IsAskedFor}
use Rattle.abort_laws.proofs.Asked.{all_asked}
use Rattle.abort_laws.proofs.Because.{Because, RecoverOf, reason_of}
use Rattle.abort_laws.proofs.Deeds.{SendOk}
use Rattle.abort_laws.proofs.Places.{place_of}
use Rattle.abort_laws.proofs.Running.{SentAt, all_accounted}

-- what a message names is among the names

more_name : (o : Option Named) (rest : List Named) (n : Named) → Contains rest n
    → Contains (cons_option o rest) n
more_name None rest n c = c
more_name (Some x) rest n c = has_more x rest n c

first_name : (o : Option Named) (rest : List Named) (n : Named) → o ≡ Some n
    → Contains (cons_option o rest) n
first_name o rest n is =
    subst (λ (x : Option Named). Contains (cons_option x rest) n) (sym is) (has_first n rest)

name_there : (sent : List Envelope) (e : Envelope) (n : Named) → Contains sent e
    → named_in e.msg ≡ Some n → Contains (filter_map (λ (e : Envelope). named_in e.msg) sent) n
name_there [] e n c is = absurd (omega (arith, c.1))
name_there (x ∷ sent) e n c is = elim (has_cases x sent e c) [
  | inl same ↦ first_name (named_in x.msg) (filter_map (λ (e : Envelope). named_in e.msg) sent) n
      (ap (λ (y : Envelope). named_in y.msg) (sym same) ∙ is)
  | inr k ↦ more_name (named_in x.msg) (filter_map (λ (e : Envelope). named_in e.msg) sent) n
      (name_there sent e n k is)
]

module _ (past : Past) (nodes : Nodes) (shard : ℕ) (m : Making) (stands : Stands nodes)
    (known : KnownStands nodes) (there : slice_get nodes.shards shard ≡ Some m.before)
    (all : All (SentAt past m.place) nodes.sent) where
  abbrev Is : Named → Type 0
  Is x = Contains (names_of nodes) x

  -- the making's session and number are those that the tag stands for
  one_name : (x : Named) → Is x → x.tag ≡ m.tag → HasSession m ⊎ HasPlan m
      → (x.lsid ≡ m.lsid) × (x.number ≡ m.number)
  one_name x h tag (inl has) =
      let y : Named = record { tag = has.0.tag; lsid = m.lsid; number = has.0.number } in
      let same = stands.tags.one_begin x y h (session_named Is m.before.core.part m.lsid has.0
      has.1 (known.shards shard m.before there).sessions) (tag ∙ sym has.2) in
      (same.0, same.1 ∙ has.3)
  one_name x h tag (inr plan) =
      let named : Is (plan_name (m.tag, plan.0)) = found (λ c. Is (plan_name c)) m.tag
      m.before.core.coord (stands.plans shard m.before there).plans plan.0 plan.1 in
      let same = stands.tags.one_begin x (plan_name (m.tag, plan.0)) h named tag in
      (same.0 ∙ plan.2, same.1 ∙ plan.3)

  abort_named : (e : Envelope) (x : Abort) → Contains nodes.sent e → e.msg ≡ msg.Abort x
      → Is (record { tag = x.tag; lsid = x.lsid; number = x.number })
  abort_named e x c is = name_there nodes.sent e
      (record { tag = x.tag; lsid = x.lsid; number = x.number }) c (ap named_in is)

  reason : (e : Envelope) (why : ℕ) (k : Msg) → e.msg ≡ k → Contains nodes.sent e
      → Aborts m.tag why k → (Names m.tag m.lsid m.number k ⊎ (HasSession m ⊎ HasPlan m))
      → Reason past m why
  reason e why (msg.Abort x) is c aborts (inl none) = absurd none
  reason e why (msg.Abort x) is c aborts (inr has) =
      let b : Because past m.place x.tag x.lsid x.number x.why =
      subst (SendOk _ (RecoverOf past m.place)) is (All-contains (SentAt past m.place) nodes.sent e
      all c) in
      let same = one_name (record { tag = x.tag; lsid = x.lsid; number = x.number })
      (abort_named e x c is) aborts.0 has in
      reason_of past m why
      (subst (λ (t : Tag). Because past m.place t m.lsid m.number why) aborts.0
      (subst (λ (l : Lsid). Because past m.place x.tag l m.number why) same.0
      (subst (λ (n : ℤ). Because past m.place x.tag x.lsid n why) same.1
      (subst (Because past m.place x.tag x.lsid x.number) aborts.1 b))))
  reason e why (msg.Recover x) is c aborts has =
      let b : RecoverOf past m.place x.tag =
      subst (SendOk _ (RecoverOf past m.place)) is (All-contains (SentAt past m.place) nodes.sent e
      all c) in
      subst (Reason past m) (sym aborts.1)
      (ByToken b.0 (subst (λ (t : Tag). Took past b.0 m.place (Asks (SeeksIt t))) aborts.0 b.1))
  reason e why (msg.Statement x) is c aborts has = absurd aborts
  reason e why (msg.Answer x) is c aborts has = absurd aborts
  reason e why (msg.Commit x) is c aborts has = absurd aborts
  reason e why (msg.Outcome x) is c aborts has = absurd aborts
  reason e why (msg.CommitTwo x) is c aborts has = absurd aborts
  reason e why (msg.Prepare x) is c aborts has = absurd aborts
  reason e why (msg.Vote x) is c aborts has = absurd aborts
  reason e why (msg.Decide x) is c aborts has = absurd aborts
  reason e why (msg.Acked x) is c aborts has = absurd aborts
  reason e why msg.Nudge is c aborts has = absurd aborts

  pub asked_reason : (why : ℕ) → MayCome nodes.sent (Shard shard) m.event.what
      → (NamesAt m m.event.what ⊎ (HasSession m ⊎ HasPlan m)) → IsAskedFor m why
      → Reason past m why
  asked_reason why comes has (e, is, aborts) =
      let c = subst (MayCome nodes.sent (Shard shard)) is comes in
      reason e why e.msg refl c.0 aborts
      (subst (λ (w : Happening). NamesAt m w ⊎ (HasSession m ⊎ HasPlan m)) is has)

pub all_stood : (chunks : Map) (start : Nodes) (run : List Ran) (trace : List Nodes) (now : Nodes)
    → IsFresh chunks start → DisksStand start → NamesNone start → IsTrace start run trace now
    → (within shard : ℕ) (tag : Tag) (why : ℕ) (m : Making)
    → IsMade (record {
      chunks = chunks;
      routers = start.routers;
      run = run;
      trace = trace;
      now = now;
    }) within shard tag (cause.ClientAbort why) m
    → IsNew m (cause.ClientAbort why)
    → Stood (record {
      chunks = chunks;
      routers = start.routers;
      run = run;
      trace = trace;
      now = now;
    }) m (cause.ClientAbort why)
all_stood chunks start run trace now fresh disks names h within shard tag why m made new =
    let past : Past = record {
      chunks = chunks;
      routers = start.routers;
      run = run;
      trace = trace;
      now = now;
    } in
    let asked = all_asked chunks start run trace now fresh disks names h within shard tag why m made
    new in
    let p = place_of start run trace now h m.place made.nodes
    (Step (Shard shard) m.event m.answer made.faults) made.at.before made.at.step in
    let stands0 = stands_fresh chunks start fresh disks in
    let stands = stands_run start p.before_run p.before_trace made.nodes p.comes stands0 in
    let known = known_run start p.before_run p.before_trace made.nodes p.comes stands0
    (known_fresh chunks start fresh disks names) in (
      asked,
      asked_reason past made.nodes shard m stands known made.before
          (all_accounted chunks start run trace now fresh h m.place made.nodes made.at.before) why
          p.happens.comes made.session asked,
    )
