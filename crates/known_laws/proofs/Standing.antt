-- Each event keeps what is known of boots.
use Rattle.std.proofs.Common.{◌≡◌, ◌≤◌, ◌<◌, ◌+◌, ◌⊎◌, inl, inr, ◌++◌, ◌<ℤ◌, ◌≤ℤ◌, ℕ, ℤ, suc, zero}
use Rattle.std.proofs.Common.{All, List, [], ◌∷◌, Option, Some, None, IfSome, Result, Ok, Err, refl}
use Rattle.std.proofs.Common.{sym, ap, subst, ◌∙◌, arith}
use Rattle.std.specs.Prelude.{slice_get, slice_set, Contains, IfOk}
use Rattle.std.specs.List.{filter_map, cons_option}
use Rattle.std.proofs.lemmas.Int.{ints}
use Rattle.std.proofs.lemmas.List.Elements.{All-nil, All-cons, All-head, All-tail, All-append}
use Rattle.std.proofs.lemmas.List.Elements.{All-weaker, All-contains}
use Rattle.txn_types.specs.Order.{tag_cmp}
use Rattle.txn_types.specs.declared.decision.Decision.{Decision}
use Rattle.txn_types.specs.declared.event.Happening.{Happening}
use Rattle.txn_types.specs.declared.event.Happening.TheVariants as what
use Rattle.txn_types.specs.declared.event.NodeAnswer.{NodeAnswer}
use Rattle.txn_types.specs.declared.event.NodeEvent.{NodeEvent}
use Rattle.txn_types.specs.declared.message.Answer.{Answer}
use Rattle.txn_types.specs.declared.message.Envelope.{Envelope}
use Rattle.txn_types.specs.declared.message.Msg.{Msg}
use Rattle.txn_types.specs.declared.message.Msg.TheVariants as msg
use Rattle.txn_types.specs.declared.names.Tag.{Tag}
use Rattle.txn_types.specs.declared.node.Lsid.{Lsid}
use Rattle.txn_types.specs.declared.node.NodeId.{NodeId}
use Rattle.txn_types.specs.declared.node.NodeId.TheVariants.{Shard, Router}
use Rattle.session_table.specs.declared.session.Session.{Session}
use Rattle.journal_rec.specs.declared.record.Rec.{Rec}
use Rattle.journal_rec.specs.declared.record.Rec.TheVariants as rec
use Rattle.chunk_map.specs.Map.{Map}
use Rattle.coordinator.specs.TwoPhase.{Coordinated, Coordinations, coordinated_of, with_decision}
use Rattle.participant.specs.Part.{Part, session}
use Rattle.router_state.specs.declared.state.Doing.{Doing}
use Rattle.router_state.specs.declared.state.Doing.TheVariants.{Begun, Sought}
use Rattle.router_state.specs.declared.state.Phase.{Phase}
use Rattle.router_state.specs.declared.state.Phase.TheVariants.{Idle, Asking, Checking, Deciding}
use Rattle.router_state.specs.declared.state.Phase.TheVariants.{Committed, Released, Aborted}
use Rattle.router_state.specs.declared.state.Session.{Session as RouterSession}
use Rattle.router_state.specs.State.{Post, RouterState}
use Rattle.shard_image.specs.Image.{Image, image_of, empty_image, decided_if}
use Rattle.shard_image.specs.Image as image
use Rattle.shard_core.specs.State.{ShardState}
use Rattle.shard_core.specs.Core.{CoreStep, core_step}
use Rattle.shard_core.specs.NodeStep.{NodeState, ShardTakes, Appended, Failed, boot_behind, started}
use Rattle.shard_core.specs.NodeStep.{node_of}
use Rattle.txn_model.specs.declared.ran.Ran.{Ran}
use Rattle.txn_model.specs.declared.ran.Ran.TheVariants.{Step, Swapped}
use Rattle.txn_types.specs.Letters.{Named, given_out, named_in}
use Rattle.cluster_core.specs.Nodes.{Nodes}
use Rattle.cluster_core.specs.Parts.{HasCome, KnowsBoot, KnowsBoots, KnowsAsked, KnowsTold}
use Rattle.cluster_core.specs.Parts.{BootsKnown, names_of, TagsBegunOnce}
use Rattle.cluster_core.specs.Trace.{Happens, IsTrace, IsFresh, MayCome, MayRemain, again}
use Rattle.world_laws.specs.Begins.{BegunOnce, PostNames, DoingNames, EntryNames, RouterNames}
use Rattle.world_laws.specs.Boots.{IsNoBoot, BootStands, HasBooted, BootsTo, EnvBoots, ToldBoots}
use Rattle.world_laws.specs.Clocks.{EachShard}
use Rattle.shard_core.specs.Effect.{plan_name}
use Rattle.world_laws.specs.Joint.{Stands, NoName, DisksStand}
use Rattle.world_laws.specs.Tags.{BeginsNamed}
use Rattle.world_laws.proofs.Clocks.{started_is, each_set, each_same}
use Rattle.world_laws.proofs.Joint.{stands_step, all_front}
use Rattle.live_laws.specs.Live.{LiveStands}
use Rattle.live_laws.proofs.Standing.{live_part}
use Rattle.known_laws.specs.Known.{PartNamed, SessionNamed, RecNamed, PartsKnown, AskedKnown}
use Rattle.known_laws.specs.Known.{ToldKnown, KnownTo, EnvKnown, EventKnown, PlanKnown, PlansKnown}
use Rattle.known_laws.specs.Known.{BeginsKnown, HasTag, Answered, PostKnown, PhaseKnown, DoingKnown}
use Rattle.known_laws.specs.Known.{RouterKnown, Known, IsTold, Tells, NodeKnown, KnownStands}
use Rattle.known_laws.specs.Known.{NamesNone}
use Rattle.world_laws.proofs.Records.{records_step}
use Rattle.known_laws.proofs.Ruling.{step_known}
use Rattle.known_laws.proofs.Sending.{Fits, FitsAt, router_known}
use Rattle.known_laws.proofs.Sessions.{Goes, entries_put, session_named}
use Rattle.world_laws.proofs.Naming.{one, put_all, taken_all, found}
use Rattle.world_laws.proofs.Lists.{get_set, set_at}
use Rattle.world_laws.proofs.Boots.{core_by, image_on}
use Rattle.world_laws.proofs.NodeRecords.{some_is}

-- What is said of boots and answers, where more is said of each.

parts_weaker : (B C : ℕ → ℕ → Named → Type 0)
    → ((shard boot : ℕ) (x : Named) → B shard boot x → C shard boot x)
    → (x : Named) (parts : List (ℕ × ℕ)) → PartsKnown B x parts → PartsKnown C x parts
parts_weaker B C f x parts h = All-weaker (λ (part : ℕ × ℕ). B part.0 part.1 x) (λ (part : ℕ × ℕ).
    C part.0 part.1 x) (λ part k. f part.0 part.1 x k) parts h

asked_weaker : (B C : ℕ → ℕ → Named → Type 0) → ((shard boot : ℕ) (x : Named) → B shard boot x
    → C shard boot x) → (shard : ℕ) (m : Msg) → AskedKnown B shard m → AskedKnown C shard m
asked_weaker B C f shard (msg.Statement m) h = f shard m.boot _ h
asked_weaker B C f shard (msg.Commit m) h = f shard m.boot _ h
asked_weaker B C f shard (msg.CommitTwo m) h =
    (f shard m.boot _ h.0, parts_weaker B C f _ m.parts h.1)
asked_weaker B C f shard (msg.Prepare m) h = f shard m.boot _ h
asked_weaker B C f shard other h = tt

told_weaker : (A D : Answer → Type 0) → ((a : Answer) → A a → D a) → (m : Msg) → ToldKnown A m
    → ToldKnown D m
told_weaker A D g (msg.Answer a) h = g a h
told_weaker A D g other h = tt

to_weaker : (B C : ℕ → ℕ → Named → Type 0) (A D : Answer → Type 0)
    → ((shard boot : ℕ) (x : Named) → B shard boot x → C shard boot x) → ((a : Answer) → A a → D a)
    → (to : NodeId) (m : Msg) → KnownTo B A to m → KnownTo C D to m
to_weaker B C A D f g (Shard shard) m h = asked_weaker B C f shard m h
to_weaker B C A D f g (Router router) m h = told_weaker A D g m h

sent_weaker : (B C : ℕ → ℕ → Named → Type 0) (A D : Answer → Type 0)
    → ((shard boot : ℕ) (x : Named) → B shard boot x → C shard boot x) → ((a : Answer) → A a → D a)
    → (sent : List Envelope) → All (EnvKnown B A) sent → All (EnvKnown C D) sent
sent_weaker B C A D f g sent h = All-weaker (EnvKnown B A) (EnvKnown C D) (λ (e : Envelope).
    to_weaker B C A D f g e.to e.msg) sent h

phase_weaker : (B C : ℕ → ℕ → Named → Type 0) → ((shard boot : ℕ) (x : Named) → B shard boot x
    → C shard boot x) → (x : Named) (parts : List (ℕ × ℕ)) (waiting : List Post) (p : Phase)
    → PhaseKnown B x parts waiting p → PhaseKnown C x parts waiting p
phase_weaker B C f x parts waiting Idle h = parts_weaker B C f x parts h
phase_weaker B C f x parts waiting (Asking asker op answers) h =
    (elim h.0 [ inl k ↦ inl (parts_weaker B C f x parts k) | inr k ↦ inr k ], h.1)
phase_weaker B C f x parts waiting (Checking asker) h = parts_weaker B C f x parts h
phase_weaker B C f x parts waiting (Deciding asker) h = parts_weaker B C f x parts h
phase_weaker B C f x parts waiting Committed h = parts_weaker B C f x parts h
phase_weaker B C f x parts waiting Released h = parts_weaker B C f x parts h
phase_weaker B C f x parts waiting (Aborted sent) h = tt

doing_weaker : (B C : ℕ → ℕ → Named → Type 0) → ((shard boot : ℕ) (x : Named) → B shard boot x
    → C shard boot x) → (lsid : Lsid) (number : ℤ) (doing : Doing) → DoingKnown B lsid number doing
    → DoingKnown C lsid number doing
doing_weaker B C f lsid number (Begun t) h = record {
  parts = phase_weaker B C f (record { tag = t.tag; lsid = lsid; number = number }) t.parts
      t.waiting t.phase h.parts;
  waiting = All-weaker (PostKnown B) (PostKnown C) (λ (post : Post).
      asked_weaker B C f post.0 post.1) t.waiting h.waiting;
}
doing_weaker B C f lsid number (Sought seeking known) h = tt

abbrev Entry : (ℕ → ℕ → Named → Type 0) → Lsid × RouterSession → Type 0
Entry B entry = DoingKnown B entry.0 entry.1.number entry.1.doing

router_weaker : (B C : ℕ → ℕ → Named → Type 0) → ((shard boot : ℕ) (x : Named) → B shard boot x
    → C shard boot x) → (r : RouterState) → RouterKnown B r → RouterKnown C r
router_weaker B C f r h = All-weaker (Entry B) (Entry C) (λ (entry : Lsid × RouterSession).
    doing_weaker B C f entry.0 entry.1.number entry.1.doing) r.sessions h

begins_weaker : (B C : ℕ → ℕ → Named → Type 0) → ((shard boot : ℕ) (x : Named) → B shard boot x
    → C shard boot x) → (r : Rec) → BeginsKnown B r → BeginsKnown C r
begins_weaker B C f (rec.CoordStart tag lsid number parts) h = parts_weaker B C f _ parts h
begins_weaker B C f other h = tt

plans_weaker : (B C : ℕ → ℕ → Named → Type 0) → ((shard boot : ℕ) (x : Named) → B shard boot x
    → C shard boot x) → (coords : Coordinations) → PlansKnown B coords → PlansKnown C coords
plans_weaker B C f coords h = All-weaker (PlanKnown B) (PlanKnown C) (λ (c : Tag × Coordinated).
    parts_weaker B C f (plan_name c) c.1.plan.parts) coords h

rec_weaker : (P Q : Named → Type 0) → ((x : Named) → P x → Q x) → (r : Rec) → RecNamed P r
    → RecNamed Q r
rec_weaker P Q f (rec.Commit tag lsid number read_at at writes) h = f _ h
rec_weaker P Q f (rec.Prepared tag lsid number boot read_at at coordinator writes) h = f _ h
rec_weaker P Q f (rec.Decided d) h = f _ h
rec_weaker P Q f other h = tt

part_weaker : (P Q : Named → Type 0) → ((x : Named) → P x → Q x) → (p : Part) → PartNamed P p
    → PartNamed Q p
part_weaker P Q f p h =
    All-weaker (SessionNamed P) (SessionNamed Q) (λ entry k. f _ k) p.sessions.entries h

-- A shard, by what is said of names and boots.

record Holds (P : Named → Type 0) (B : ℕ → ℕ → Named → Type 0) (n : NodeState) : Type 0 where
  boot : 0 < n.core.part.boot
  sessions : PartNamed P n.core.part
  records : All (RecNamed P) n.records
  hand : All (RecNamed P) n.hand
  plans : PlansKnown B n.core.coord
  begins : All (BeginsKnown B) n.records
  more : All (BeginsKnown B) n.hand

holds_weaker : (P Q : Named → Type 0) (B C : ℕ → ℕ → Named → Type 0) → ((x : Named) → P x → Q x)
    → ((shard boot : ℕ) (x : Named) → B shard boot x → C shard boot x) → (n : NodeState)
    → Holds P B n → Holds Q C n
holds_weaker P Q B C f g n h = record {
  boot = h.boot;
  sessions = part_weaker P Q f n.core.part h.sessions;
  records = All-weaker (RecNamed P) (RecNamed Q) (rec_weaker P Q f) n.records h.records;
  hand = All-weaker (RecNamed P) (RecNamed Q) (rec_weaker P Q f) n.hand h.hand;
  plans = plans_weaker B C g n.core.coord h.plans;
  begins = All-weaker (BeginsKnown B) (BeginsKnown C) (begins_weaker B C g) n.records h.begins;
  more = All-weaker (BeginsKnown B) (BeginsKnown C) (begins_weaker B C g) n.hand h.more;
}

to_holds : (nodes : Nodes) (n : NodeState) → NodeKnown nodes n
    → Holds (Contains (names_of nodes)) (Known nodes) n
to_holds nodes n h = record {
  boot = h.boot;
  sessions = h.sessions;
  records = h.records;
  hand = h.hand;
  plans = h.plans;
  begins = h.begins;
  more = h.more;
}

from_holds : (nodes : Nodes) (n : NodeState) → Holds (Contains (names_of nodes)) (Known nodes) n
    → NodeKnown nodes n
from_holds nodes n h = record {
  boot = h.boot;
  sessions = h.sessions;
  records = h.records;
  hand = h.hand;
  plans = h.plans;
  begins = h.begins;
  more = h.more;
}

-- Names.

first_named : (P : Named → Type 0) (o : Option Named) (rest : List Named) → ((x : Named)
    → Contains (cons_option o rest) x → P x) → IfSome o P × ((x : Named) → Contains rest x → P x)
first_named P None rest h = (tt, h)
first_named P (Some y) rest h =
    (h y (0, omega arith, refl), λ x c. h x (suc c.0, omega (arith, c.1), c.2))

-- what each message names is among the names
all_named : (P : Named → Type 0) (sent : List Envelope)
    → ((x : Named) → Contains (filter_map (λ (e : Envelope). named_in e.msg) sent) x → P x)
    → All (λ (e : Envelope). IfSome (named_in e.msg) P) sent
all_named P [] h = All-nil (λ (e : Envelope). IfSome (named_in e.msg) P)
all_named P (e ∷ sent) h =
    let k = first_named P (named_in e.msg) (filter_map (λ (e : Envelope). named_in e.msg) sent) h in
    All-cons (λ (e : Envelope). IfSome (named_in e.msg) P) e sent k.0 (all_named P sent k.1)

more_case : (o : Option Named) (rest all : List Named)
    → ((x : Named) → Contains rest x → Contains all x) → (x : Named)
    → Contains (cons_option o rest) x → Contains (cons_option o all) x
more_case None rest all h x c = h x c
more_case (Some y) rest all h x (zero, below, e) = (zero, omega arith, e)
more_case (Some y) rest all h x (suc k, below, e) = let more = h x (k, omega (arith, below), e) in
    (suc more.0, omega (arith, more.1), more.2)

names_more : (sent more : List Envelope) (x : Named)
    → Contains (filter_map (λ (e : Envelope). named_in e.msg) sent) x
    → Contains (filter_map (λ (e : Envelope). named_in e.msg) (sent ++ more)) x
names_more [] more x c = absurd (omega (arith, c.1))
names_more (e ∷ sent) more x c =
    more_case (named_in e.msg) (filter_map (λ (e : Envelope). named_in e.msg) sent)
    (filter_map (λ (e : Envelope). named_in e.msg) (sent ++ more)) (names_more sent more) x c

names_on : (old new : Nodes) (out : List Envelope) → new.sent ≡ old.sent ++ out → (x : Named)
    → Contains (names_of old) x → Contains (names_of new) x
names_on old new out is x c = subst (λ (sent : List Envelope). Contains
    (filter_map (λ (e : Envelope). named_in e.msg) sent) x) (sym is) (names_more old.sent out x c)

-- What a shard's sessions were goes on, in the same boot; or the shard comes to a later one.

abbrev GoesOn : Part → Part → Type 0
GoesOn p q = (lsid : Lsid) (s : Session) → session p lsid ≡ Some s
    → (t : Session) × (session q lsid ≡ Some t) × Goes s t

abbrev Turns : NodeState → NodeState → Type 0
Turns n m = ((m.core.part.boot ≡ n.core.part.boot) × GoesOn n.core.part m.core.part)
    ⊎ (n.core.part.boot < m.core.part.boot)

abbrev AllTurn : Nodes → Nodes → Type 0
AllTurn old new = (shard : ℕ) (m : NodeState) → slice_get new.shards shard ≡ Some m
    → (n : NodeState) × (slice_get old.shards shard ≡ Some n) × Turns n m

still : (n : NodeState) → Turns n n
still n =
    inl (refl, λ lsid s there. (s, there, record { number = omega (arith, ints); tag = inl refl }))

numbers_on : (a b c : ℤ) → a <ℤ b → b ≤ℤ c → a <ℤ c
numbers_on a b c h k = omega (arith, ints, h, k)

come_case : (lsid : Lsid) (number : ℤ) (tag : Tag) (q : Part) (s t : Session)
    → session q lsid ≡ Some t → Goes s t → (s.tag ≡ tag → s.number ≡ number)
    → (s.tag ≡ tag) ⊎ (number <ℤ s.number) → HasCome q lsid number tag
come_case lsid number tag q s t is g same (inl own) = elim g.tag [
  | inl kept ↦ (t, is, inl (kept ∙ own))
  | inr up ↦ (t, is, inr (subst (λ (n : ℤ). n <ℤ t.number) (same own) up))
]
come_case lsid number tag q s t is g same (inr less) =
    (t, is, inr (numbers_on number s.number t.number less g.number))

-- a session's number is that of its transaction's name
number_of : (nodes : Nodes) (p : Part) (x : Named) → TagsBegunOnce nodes
    → PartNamed (Contains (names_of nodes)) p → Contains (names_of nodes) x → (s : Session)
    → session p x.lsid ≡ Some s → s.tag ≡ x.tag → s.number ≡ x.number
number_of nodes p x once n c s is e =
    (once.one_begin (record { tag = s.tag; lsid = x.lsid; number = s.number }) x
    (session_named (Contains (names_of nodes)) p x.lsid s is n) c e).1

knows_on : (old new : Nodes) → AllTurn old new → TagsBegunOnce old
    → EachShard old (λ number n. NodeKnown old n) → (shard boot : ℕ) (x : Named)
    → Contains (names_of old) x → KnowsBoot old shard boot x.lsid x.number x.tag
    → KnowsBoot new shard boot x.lsid x.number x.tag
knows_on old new all once each shard boot x c h m there =
    let was = all shard m there in
    let k = h was.0 was.1 in
    elim was.2 [
      | inl (same, goes) ↦ (
        subst (λ (b : ℕ). boot ≤ b) (sym same) k.0,
        λ e.
            let come = k.1 (e ∙ same) in
            let next = goes x.lsid come.0 come.1 in
            come_case x.lsid x.number x.tag m.core.part come.0 next.0 next.1 next.2
            (number_of old was.0.core.part x once (each shard was.0 was.1).sessions c come.0 come.1)
            come.2,
      )
      | inr up ↦ let low = k.0 in (omega (arith, low, up), λ e. absurd (omega (arith, low, up, e)))
    ]

known_on : (old new : Nodes) → ((x : Named) → Contains (names_of old) x → Contains (names_of new) x)
    → AllTurn old new → TagsBegunOnce old → EachShard old (λ number n. NodeKnown old n)
    → (shard boot : ℕ) (x : Named) → Known old shard boot x → Known new shard boot x
known_on old new grows all once each shard boot x (inl first) = inl first
known_on old new grows all once each shard boot x (inr (c, k)) =
    inr (grows x c, knows_on old new all once each shard boot x c k)

if_ok : {T E : Type 0} (P Q : T → Type 0) (r : Result T E) → ((t : T) → P t → Q t)
    → IfOk r P → IfOk r Q
if_ok P Q (Ok t) f h = f t h
if_ok P Q (Err e) f h = tt

tells_on : (old new : Nodes) → ((x : Named) → Contains (names_of old) x → Contains (names_of new) x)
    → AllTurn old new → TagsBegunOnce old → EachShard old (λ number n. NodeKnown old n)
    → (a : Answer) → Tells old a → Tells new a
tells_on old new grows all once each a h =
    if_ok (IsTold old a) (IsTold new a) a.outcome (λ done k.
    (k.0, grows k.0 k.1, k.2, knows_on old new all once each a.shard a.boot k.0 k.1 k.3)) h

-- A shard's step.

record Stepped (P : Named → Type 0) (B : ℕ → ℕ → Named → Type 0) (old new : NodeState)
    (given : List Envelope) : Type 0 where
  holds : Holds P B new
  same : new.core.part.boot ≡ old.core.part.boot
  goes : GoesOn old.core.part new.core.part
  out : All (EnvKnown B (Answered P new.core.part)) given

rec_both : (P : Named → Type 0) (B : ℕ → ℕ → Named → Type 0) (r : Option Rec)
    → IfSome r (λ x. RecNamed P x × BeginsKnown B x)
    → IfSome r (RecNamed P) × IfSome r (BeginsKnown B)
rec_both P B None h = (tt, tt)
rec_both P B (Some x) h = h

out_by : (P : Named → Type 0) (B : ℕ → ℕ → Named → Type 0) (old : NodeState) (o : CoreStep) (a :
    NodeAnswer) (new : NodeState) → All (EnvKnown B (Answered P o.core.part)) (given_out o.answer)
    → (Appended old o a new ⊎ Failed old o a new)
    → All (EnvKnown B (Answered P new.core.part)) (given_out a)
out_by P B old o a new h (inl d) =
    subst (λ (x : NodeAnswer). All (EnvKnown B (Answered P new.core.part)) (given_out x))
    (sym d.told)
    (subst (λ (c : ShardState). All (EnvKnown B (Answered P c.part)) (given_out o.answer))
    (sym d.core) h)
out_by P B old o a new h (inr d) =
    subst (λ (x : NodeAnswer). All (EnvKnown B (Answered P new.core.part)) (given_out x))
    (sym d.told) (All-nil (EnvKnown B (Answered P new.core.part)))

-- what an event names is named
abbrev NamedAt : (Named → Type 0) → Happening → Type 0
NamedAt P (what.Deliver e) = IfSome (named_in e.msg) P
NamedAt P other = Unit {0}

takes_known : (P : Named → Type 0) (B : ℕ → ℕ → Named → Type 0) (A : Answer → Type 0)
    (old : NodeState) (e : NodeEvent) (a : NodeAnswer) (new : NodeState) → ShardTakes old e a new
    → NamedAt P e.what → EventKnown B A (Shard old.core.part.shard) e.what → Holds P B old
    → Stepped P B old new (given_out a)
takes_known P B A old e a new h named b s =
    let o = core_step h.0 old.core e in
    let k = step_known P B A h.0 old.core e named b s.sessions s.plans in
    let both = rec_both P B o.rec k.rec in
    let names = records_step (RecNamed P) old o a new (λ x. tt) both.0 s.records s.hand h.1 in
    let begins = records_step (BeginsKnown B) old o a new (λ x. tt) both.1 s.begins s.more h.1 in
    let same : new.core.part.boot ≡ old.core.part.boot = core_by (λ (c : ShardState). c.part.boot
    ≡ old.core.part.boot) old o a new k.moves.boot (λ stopped. k.moves.boot) h.1 in
    record {
      holds = record {
        boot = subst (λ (n : ℕ). 0 < n) (sym same) s.boot;
        sessions = core_by (λ (c : ShardState). PartNamed P c.part) old o a new
            (k.moves.named s.sessions) (λ stopped. k.moves.named s.sessions) h.1;
        records = names.0;
        hand = names.1;
        plans = core_by (λ (c : ShardState). PlansKnown B c.coord) old o a new k.plans (λ stopped.
            k.plans) h.1;
        begins = begins.0;
        more = begins.1;
      };
      same = same;
      goes = core_by (λ (c : ShardState). GoesOn old.core.part c.part) old o a new k.moves.goes
          (λ stopped. k.moves.goes) h.1;
      out = out_by P B old o a new k.out h.1;
    }

-- A start of a shard. (That a start comes to the next boot stands in world_laws, in lemmas that
-- aren't public.)

record_boot : (i : Image) (r : Rec) → IsNoBoot r → (image.with_record i r).boot ≡ i.boot
record_boot i (rec.Boot boot) h = absurd h
record_boot i (rec.Ceiling bound) h = refl
record_boot i (rec.Commit tag lsid number read_at at writes) h = refl
record_boot i (rec.Prepared tag lsid number boot read_at at coordinator writes) h = refl
record_boot i (rec.Decided d) h = refl
record_boot i (rec.CoordStart tag lsid number parts) h = refl
record_boot i (rec.CoordDecision tag d) h = refl
record_boot i (rec.CoordEnd tag) h = refl
record_boot i (rec.Floor floor) h = refl

records_boot : (recs : List Rec) (i : Image) → All IsNoBoot recs
    → (image.with_records i recs).boot ≡ i.boot
records_boot [] i h = refl
records_boot (r ∷ recs) i h = records_boot recs (image.with_record i r) (All-tail IsNoBoot r recs h)
    ∙ record_boot i r (All-head IsNoBoot r recs h)

boot_on : (a b : List Rec) → All IsNoBoot b → (image_of (a ++ b)).boot ≡ (image_of a).boot
unfolding image_of
boot_on a b h = ap (λ (i : Image). i.boot) (image_on empty_image a b)
    ∙ records_boot b (image.with_records empty_image a) h

next_boot : (recs : List Rec) (boot : ℕ) → (image_of (recs ++ rec.Boot boot ∷ [])).boot ≡ boot
unfolding image_of
next_boot recs boot = ap (λ (i : Image). i.boot) (image_on empty_image recs (rec.Boot boot ∷ []))

starts_next : (n : ℕ) (recs : List Rec) (faults : ℕ) (s : NodeState)
    → started n recs faults ≡ Some s → s.core.part.boot ≡ (image_of recs).boot + 1
starts_next n recs faults s e = ap (λ (x : NodeState). x.core.part.boot) (started_is n recs faults s
    e) ∙ next_boot recs ((image_of recs).boot + 1)

remains_boot : (old : NodeState) (recs : List Rec) → MayRemain old recs → BootStands old
    → (image_of recs).boot ≡ old.core.part.boot
remains_boot old recs (inl e) s = ap (λ (rs : List Rec). (image_of rs).boot) e ∙ sym s.records
remains_boot old recs (inr e) s = ap (λ (rs : List Rec). (image_of rs).boot) e
    ∙ boot_on old.records old.hand s.hand ∙ sym s.records

decided_plans : (B : ℕ → ℕ → Named
    → Type 0) (coords : Coordinations) (tag : Tag) (d : Decision) (c : Option Coordinated)
    → coordinated_of coords tag ≡ c → PlansKnown B coords → PlansKnown B (decided_if coords tag d c)
decided_plans B coords tag d None e h = h
decided_plans B coords tag d (Some c) e h = put_all tag_cmp (PlanKnown B) tag
    (with_decision (Some d) c) coords (found (PlanKnown B) tag coords h c e) h

changed_plans : (B : ℕ → ℕ → Named → Type 0) (i : Image) (r : Rec) → PlansKnown B i.coord
    → BeginsKnown B r → PlansKnown B (image.with_record i r).coord
changed_plans B i (rec.Boot boot) h b = h
changed_plans B i (rec.Ceiling bound) h b = h
changed_plans B i (rec.Commit tag lsid number read_at at writes) h b = h
changed_plans B i (rec.Prepared tag lsid number boot read_at at coordinator writes) h b = h
changed_plans B i (rec.Decided d) h b = h
changed_plans B i (rec.CoordStart tag lsid number parts) h b =
    put_all tag_cmp (PlanKnown B) tag _ i.coord b h
changed_plans B i (rec.CoordDecision tag d) h b =
    decided_plans B i.coord tag d (coordinated_of i.coord tag) refl h
changed_plans B i (rec.CoordEnd tag) h b = taken_all tag_cmp (PlanKnown B) tag i.coord h
changed_plans B i (rec.Floor floor) h b = h

changed_named : (P : Named → Type 0) (i : Image) (r : Rec) → All (SessionNamed P) i.sessions.entries
    → RecNamed P r → All (SessionNamed P) (image.with_record i r).sessions.entries
changed_named P i (rec.Boot boot) h b = h
changed_named P i (rec.Ceiling bound) h b = h
changed_named P i (rec.Commit tag lsid number read_at at writes) h b =
    entries_put (SessionNamed P) lsid _ i.sessions.entries b h
changed_named P i (rec.Prepared tag lsid number boot read_at at coordinator writes) h b =
    entries_put (SessionNamed P) lsid _ i.sessions.entries b h
changed_named P i (rec.Decided d) h b = entries_put (SessionNamed P) d.lsid _ i.sessions.entries b h
changed_named P i (rec.CoordStart tag lsid number parts) h b = h
changed_named P i (rec.CoordDecision tag d) h b = h
changed_named P i (rec.CoordEnd tag) h b = h
changed_named P i (rec.Floor floor) h b = h

image_holds : (P : Named → Type 0) (B : ℕ → ℕ → Named → Type 0) (recs : List Rec) (i : Image)
    → All (SessionNamed P) i.sessions.entries → PlansKnown B i.coord → All (RecNamed P) recs
    → All (BeginsKnown B) recs
    → All (SessionNamed P) (image.with_records i recs).sessions.entries
    × PlansKnown B (image.with_records i recs).coord
image_holds P B [] i n c a b = (n, c)
image_holds P B (r ∷ recs) i n c a b =
    image_holds P B recs (image.with_record i r)
    (changed_named P i r n (All-head (RecNamed P) r recs a))
    (changed_plans B i r c (All-head (BeginsKnown B) r recs b)) (All-tail (RecNamed P) r recs a)
    (All-tail (BeginsKnown B) r recs b)

of_image : (P : Named → Type 0) (B : ℕ → ℕ → Named → Type 0) (recs : List Rec)
    → All (RecNamed P) recs → All (BeginsKnown B) recs
    → All (SessionNamed P) (image_of recs).sessions.entries × PlansKnown B (image_of recs).coord
unfolding image_of
of_image P B recs a b =
    image_holds P B recs empty_image (All-nil (SessionNamed P)) (All-nil (PlanKnown B)) a b

starts_holds : (P : Named → Type 0) (B : ℕ → ℕ → Named → Type 0) (n : ℕ) (recs : List Rec)
    (faults : ℕ) (s : NodeState) → started n recs faults ≡ Some s → All (RecNamed P) recs
    → All (BeginsKnown B) recs → Holds P B s
starts_holds P B n recs faults s e a b =
    let more = recs ++ boot_behind (image_of recs) ∷ [] in
    let names = All-append (RecNamed P) recs (boot_behind (image_of recs)
    ∷ []) a (one (RecNamed P) (boot_behind (image_of recs)) tt) in
    let begins = All-append (BeginsKnown B) recs (boot_behind (image_of recs)
    ∷ []) b (one (BeginsKnown B) (boot_behind (image_of recs)) tt) in
    let i = of_image P B more names begins in
    let next = starts_next n recs faults s e in
    let first : 0 < s.core.part.boot = omega (arith, next) in
    let made : Holds P B (node_of n more faults) = record {
      boot = subst (λ (x : NodeState). 0 < x.core.part.boot) (started_is n recs faults s e) first;
      sessions = i.0;
      records = names;
      hand = All-nil (RecNamed P);
      plans = i.1;
      begins = begins;
      more = All-nil (BeginsKnown B);
    } in
    subst (Holds P B) (sym (started_is n recs faults s e)) made

remains_all : (Q : Rec → Type 0) (old : NodeState) (recs : List Rec) → MayRemain old recs
    → All Q old.records → All Q old.hand → All Q recs
remains_all Q old recs (inl e) a b = subst (All Q) (sym e) a
remains_all Q old recs (inr e) a b = subst (All Q) (sym e) (All-append Q old.records old.hand a b)

-- A router's step: what it has begun is named once.

abbrev Only : Nodes → Named → Type 0
Only nodes x = (y : Named) → Contains (names_of nodes) y → y.tag ≡ x.tag
    → (y.lsid ≡ x.lsid) × (y.number ≡ x.number)

only_begun : (nodes : Nodes) (n : ℕ) (r : RouterState) (b : BegunOnce (names_of nodes) n r)
    → (x : Named) → Contains b.begun x → Only nodes x
only_begun nodes n r b x c y named e =
    let d = b.drawn x c in
    let there = b.named y named (ap (λ (t : Tag). t.router) e ∙ d.router
    ∙ b.own) (ap (λ (t : Tag). t.boot) e ∙ d.boot) in
    b.once y x there c e

post_only : (P Q : Named → Type 0) → ((x : Named) → P x → Q x) → (o : Option Named) → IfSome o P
    → IfSome o Q
post_only P Q f None h = tt
post_only P Q f (Some x) h = f x h

doing_only : (P Q : Named → Type 0) → ((x : Named) → P x → Q x)
    → (lsid : Lsid) (number : ℤ) (doing : Doing) → DoingNames P lsid number doing
    → DoingNames Q lsid number doing
doing_only P Q f lsid number (Begun t) h = (
  f (record { tag = t.tag; lsid = lsid; number = number }) h.0,
  All-weaker (PostNames P) (PostNames Q) (λ (post : Post). post_only P Q f (named_in post.1))
      t.waiting h.1,
)
doing_only P Q f lsid number (Sought seeking known) h = tt

router_only : (P Q : Named → Type 0) → ((x : Named) → P x → Q x) → (r : RouterState)
    → RouterNames P r → RouterNames Q r
router_only P Q f r h = All-weaker (EntryNames P) (EntryNames Q) (λ (entry : Lsid × RouterSession).
    doing_only P Q f entry.0 entry.1.number entry.1.doing) r.sessions h

abbrev named_as : Tag → Lsid → ℤ → Named
named_as tag lsid number = record { tag = tag; lsid = lsid; number = number }

named_same : (x y : Named) → x.tag ≡ y.tag → x.lsid ≡ y.lsid → x.number ≡ y.number → x ≡ y
named_same x y a b c =
    ap (λ (t : Tag). named_as t x.lsid x.number) a ∙ ap (λ (l : Lsid). named_as y.tag l x.number) b
    ∙ ap (λ (n : ℤ). named_as y.tag y.lsid n) c

-- an answer of a transaction that is named once
fits : (nodes : Nodes) (a : Answer) → Tells nodes a → Fits (Known nodes) (Only nodes) a
fits nodes a h x only tag =
    if_ok (IsTold nodes a) (λ done. Known nodes a.shard a.boot x) a.outcome
    (λ done k.
    let same = only k.0 k.1 (k.2 ∙ sym tag) in
    let is : k.0 ≡ x = named_same k.0 x (k.2 ∙ sym tag) same.0 same.1 in
    subst (λ (y : Named). Known nodes a.shard a.boot y) is (inr (k.1, k.3))) h

told_fits : (nodes : Nodes) (m : Msg) → ToldKnown (Tells nodes) m
    → ToldKnown (Fits (Known nodes) (Only nodes)) m
told_fits nodes (msg.Answer a) h = fits nodes a h
told_fits nodes other h = tt

-- What may come.

comes_to : (nodes : Nodes) (node : NodeId) (w : Happening)
    → All (EnvKnown (Known nodes) (Tells nodes)) nodes.sent → MayCome nodes.sent node w
    → EventKnown (Known nodes) (Tells nodes) node w
comes_to nodes node (what.Deliver e) s h =
    subst (λ (to : NodeId). KnownTo (Known nodes) (Tells nodes) to e.msg) h.1
    (All-contains (EnvKnown (Known nodes) (Tells nodes)) nodes.sent e s h.0)
comes_to nodes node other s h = tt

comes_named : (nodes : Nodes) (node : NodeId) (w : Happening) → MayCome nodes.sent node w
    → NamedAt (Contains (names_of nodes)) w
comes_named nodes node (what.Deliver e) h =
    All-contains (λ (e : Envelope). IfSome (named_in e.msg) (Contains (names_of nodes))) nodes.sent
    e (all_named (Contains (names_of nodes)) nodes.sent (λ x c. c)) h.0
comes_named nodes node other h = tt

fits_at : (nodes : Nodes) (n : ℕ) (w : Happening)
    → EventKnown (Known nodes) (Tells nodes) (Router n) w → FitsAt (Known nodes) (Only nodes) w
fits_at nodes n (what.Deliver e) h = told_fits nodes e.msg h
fits_at nodes n other h = tt

-- Each event.

turn_set : (old new : Nodes) (n : ℕ) (before after : NodeState)
    → slice_get old.shards n ≡ Some before → new.shards ≡ slice_set old.shards n after
    → Turns before after → AllTurn old new
turn_set old new n before after there is t shard m e =
    elim (get_set old.shards n shard after m
    (sym (ap (λ (l : List NodeState). slice_get l shard) is) ∙ e)) [
      | inl w ↦ (before, ap (slice_get old.shards) w.0 ∙ there, subst (Turns before) w.1 t)
      | inr w ↦ (m, w, still m)
    ]

turn_same : (old new : Nodes) → new.shards ≡ old.shards → AllTurn old new
turn_same old new is shard m e =
    (m, sym (ap (λ (l : List NodeState). slice_get l shard) is) ∙ e, still m)

-- what an answer of a shard tells
answered_tells : (new : Nodes) (n : ℕ) (after : NodeState) → slice_get new.shards n ≡ Some after
    → after.core.part.shard ≡ n → (P : Named → Type 0) → ((x : Named) → P x
    → Contains (names_of new) x) → (a : Answer) → Answered P after.core.part a → Tells new a
answered_tells new n after there own P grows a h =
    if_ok (λ done. (x : Named) × P x × (x.tag ≡ a.tag) × HasTag after.core.part x)
    (IsTold new a) a.outcome
    (λ done k. (
      k.0,
      grows k.0 k.1,
      k.2,
      λ m e.
          let is : m ≡ after =
          some_is m after (sym e ∙ ap (slice_get new.shards) (h.shard ∙ own) ∙ there) in
          subst (λ (y : NodeState). (a.boot ≤ y.core.part.boot) × (a.boot ≡ y.core.part.boot
          → HasCome y.core.part k.0.lsid k.0.number k.0.tag)) (sym is)
          (let same = h.boot in (omega (arith, same), λ e. (k.3.0, k.3.1, inl k.3.2))),
    )) h.done

-- what all stands to
record Moved (old new : Nodes) : Type 0 where
  names : (x : Named) → Contains (names_of old) x → Contains (names_of new) x
  known : (shard boot : ℕ) (x : Named) → Known old shard boot x → Known new shard boot x
  tells : (a : Answer) → Tells old a → Tells new a

moved : (old new : Nodes) (out : List Envelope) → new.sent ≡ old.sent ++ out → AllTurn old new
    → Stands old → KnownStands old → Moved old new
moved old new out is all s c =
    let names = names_on old new out is in
    record {
      names = names;
      known = known_on old new names all s.tags c.shards;
      tells = tells_on old new names all s.tags c.shards;
    }

holds_on : (old new : Nodes) → Moved old new → (n : NodeState)
    → Holds (Contains (names_of old)) (Known old) n → NodeKnown new n
holds_on old new m n h = from_holds new n (holds_weaker (Contains (names_of old))
    (Contains (names_of new)) (Known old) (Known new) m.names m.known n h)

routers_on : (old new : Nodes) → Moved old new → new.routers ≡ old.routers → KnownStands old
    → (number : ℕ) (r : RouterState) → slice_get new.routers number ≡ Some r
    → RouterKnown (Known new) r
routers_on old new m is c number r e = router_weaker (Known old) (Known new) m.known r
    (c.routers number r (sym (ap (λ (l : List RouterState). slice_get l number) is) ∙ e))

routers_set : (old new : Nodes) (n : ℕ) (after : RouterState) → Moved old new
    → new.routers ≡ slice_set old.routers n after → RouterKnown (Known old) after
    → KnownStands old → (number : ℕ) (r : RouterState) → slice_get new.routers number ≡ Some r
    → RouterKnown (Known new) r
routers_set old new n after m is this c number r e =
    router_weaker (Known old) (Known new) m.known r
    (elim (get_set old.routers n number after r
    (sym (ap (λ (l : List RouterState). slice_get l number) is) ∙ e))
    [ inl w ↦ subst (RouterKnown (Known old)) w.1 this | inr w ↦ c.routers number r w ])

sent_on : (old new : Nodes) (out : List Envelope) → Moved old new → new.sent ≡ old.sent ++ out
    → KnownStands old → All (EnvKnown (Known new) (Tells new)) out
    → All (EnvKnown (Known new) (Tells new)) new.sent
sent_on old new out m is c k =
    subst (All (EnvKnown (Known new) (Tells new))) (sym is)
    (All-append (EnvKnown (Known new) (Tells new)) old.sent out (sent_weaker (Known old) (Known new)
    (Tells old) (Tells new) m.known m.tells old.sent c.sent) k)

each_on : (old new : Nodes) → Moved old new → KnownStands old
    → EachShard old (λ number n. NodeKnown new n)
each_on old new m c number n e = holds_on old new m n (to_holds old n (c.shards number n e))

append_none : {A : Type 0} (xs : List A) → xs ++ [] ≡ xs
append_none [] = refl
append_none (x ∷ xs) = ap (λ (ys : List _). x ∷ ys) (append_none xs)

none_more : (old new : Nodes) → new.sent ≡ old.sent → new.sent ≡ old.sent ++ []
none_more old new is = is ∙ sym (append_none old.sent)

pub known_step : (old : Nodes) (ran : Ran) (new : Nodes) → Happens old ran new → Stands old
    → KnownStands old → KnownStands new
known_step old (Step (Shard n) e a faults) new h s c =
    let P = Contains (names_of old) in
    let shards = ap (λ (w : Nodes). w.shards) h.nodes in
    let sent = ap (λ (w : Nodes). w.sent) h.nodes in
    let own = (s.reads.shards n h.before h.there).own in
    let came = subst (λ (k : ℕ). EventKnown (Known old) (Tells old) (Shard k) e.what) (sym own)
    (comes_to old (Shard n) e.what c.sent h.comes) in
    let k = takes_known P (Known old) (Tells old) h.before e a h.after h.takes (comes_named old
    (Shard n) e.what h.comes) came (to_holds old h.before (c.shards n h.before h.there)) in
    let m = moved old new (given_out a) sent (turn_set old new n h.before h.after h.there shards
    (inl (k.same, k.goes))) s c in
    let there = set_at old.shards new.shards n h.after h.before shards h.there in
    let next = (((stands_step old (Step (Shard n) e a faults) new h s).reads).shards n h.after
    there).own in
    record {
      shards = each_set (λ number s. NodeKnown new s) old n h.after new shards (each_on old new m c)
          (holds_on old new m h.after k.holds);
      routers = routers_on old new m (ap (λ (w : Nodes). w.routers) h.nodes) c;
      sent = sent_on old new (given_out a) m sent c
          (sent_weaker (Known old) (Known new) (Answered P h.after.core.part) (Tells new) m.known
          (answered_tells new n h.after there next P m.names) (given_out a) k.out);
    }
known_step old (Step (Router n) e a faults) new h s c =
    let shards = ap (λ (w : Nodes). w.shards) h.nodes in
    let sent = ap (λ (w : Nodes). w.sent) h.nodes in
    let m = moved old new (given_out a) sent (turn_same old new shards) s c in
    let b = s.begun n h.before h.there in
    let names = router_only (Contains b.begun) (Only old) (only_begun old n h.before b) h.before
    b.sessions in
    let k = router_known (Known old) (λ shard x. inl refl) (Only old) (Tells new) h.takes.0 h.before
    e (fits_at old n e.what (comes_to old (Router n) e.what c.sent h.comes)) (c.routers n
    h.before h.there) names in
    record {
      shards = each_same (λ number s. NodeKnown new s) old new shards (each_on old new m c);
      routers = routers_set old new n h.after m (ap (λ (w : Nodes). w.routers) h.nodes)
          (subst (RouterKnown (Known old)) (sym h.takes.2) k.0) c;
      sent = sent_on old new (given_out a) m sent c
          (sent_weaker (Known old) (Known new) (Tells new) (Tells new)
          m.known (λ x t. t) (given_out a) (subst (λ (x : NodeAnswer).
          All (EnvKnown (Known old) (Tells new)) (given_out x)) (sym h.takes.1) k.1));
    }
known_step old (Swapped (Shard n)) new h s c =
    let P = Contains (names_of old) in
    let shards = ap (λ (w : Nodes). w.shards) h.nodes in
    let sent = none_more old new (ap (λ (w : Nodes). w.sent) h.nodes) in
    let was = c.shards n h.before h.there in
    let next = starts_next n h.recs h.faults h.after h.starts in
    let last = remains_boot h.before h.recs h.remain (s.boots.shards n h.before h.there).0 in
    let up : h.before.core.part.boot < h.after.core.part.boot = omega (arith, next, last) in
    let m =
    moved old new [] sent (turn_set old new n h.before h.after h.there shards (inr up)) s c in
    let k = starts_holds P (Known old) n h.recs h.faults h.after h.starts (remains_all (RecNamed P)
    h.before h.recs h.remain was.records was.hand) (remains_all (BeginsKnown (Known old))
    h.before h.recs h.remain was.begins was.more) in
    record {
      shards = each_set (λ number s. NodeKnown new s) old n h.after new shards (each_on old new m c)
          (holds_on old new m h.after k);
      routers = routers_on old new m (ap (λ (w : Nodes). w.routers) h.nodes) c;
      sent = sent_on old new [] m sent c (All-nil (EnvKnown (Known new) (Tells new)));
    }
known_step old (Swapped (Router n)) new h s c =
    let shards = ap (λ (w : Nodes). w.shards) h.nodes in
    let sent = none_more old new (ap (λ (w : Nodes). w.sent) h.nodes) in
    let m = moved old new [] sent (turn_same old new shards) s c in
    record {
      shards = each_same (λ number s. NodeKnown new s) old new shards (each_on old new m c);
      routers = routers_set old new n (again n h.before) m (ap (λ (w : Nodes). w.routers) h.nodes)
          (All-nil (Entry (Known old))) c;
      sent = sent_on old new [] m sent c (All-nil (EnvKnown (Known new) (Tells new)));
    }

pub known_run : (old : Nodes) (run : List Ran) (trace : List Nodes) (new : Nodes)
    → IsTrace old run trace new → Stands old → KnownStands old → KnownStands new
known_run old [] [] new h s c = subst KnownStands (sym h) c
known_run old [] (nodes ∷ trace) new h s c = absurd h
known_run old (ran ∷ run) [] new h s c = absurd h
known_run old (ran ∷ run) (nodes ∷ trace) new h s c =
    known_run h.1.0 run trace new h.1.2 (stands_step old ran h.1.0 h.1.1 s)
    (known_step old ran h.1.0 h.1.1 s c)

-- At a start.

begins_none : (B : ℕ → ℕ → Named → Type 0) (r : Rec) → BeginsNamed NoName r → BeginsKnown B r
begins_none B (rec.CoordStart tag lsid number parts) h = absurd h
begins_none B other h = tt

front_of : (Q : Rec → Type 0) (number : ℕ) (recs : List Rec) (faults : ℕ) (n : NodeState)
    → started number recs faults ≡ Some n → All Q n.records → All Q recs
front_of Q number recs faults n is h = all_front Q recs (boot_behind (image_of recs)
    ∷ []) (subst (λ (x : NodeState). All Q x.records) (started_is number recs faults n is) h)

pub known_fresh : (chunks : Map) (nodes : Nodes) → IsFresh chunks nodes → DisksStand nodes
    → NamesNone nodes → KnownStands nodes
known_fresh chunks nodes h d k =
    record {
      shards = λ number n e.
          let s = h.shards number n e in
          from_holds nodes n
          (starts_holds (Contains (names_of nodes)) (Known nodes) number s.0 s.1 n s.2
          (All-weaker (RecNamed NoName) (RecNamed (Contains (names_of nodes)))
          (rec_weaker NoName (Contains (names_of nodes)) (λ x no. absurd no)) s.0
          (front_of (RecNamed NoName) number s.0 s.1 n s.2 (k number n e)))
          (All-weaker (BeginsNamed NoName) (BeginsKnown (Known nodes)) (begins_none (Known nodes))
          s.0 (front_of (BeginsNamed NoName) number s.0 s.1 n s.2 (d number n e).begins)));
      routers = λ number r e. subst (RouterKnown (Known nodes)) (sym (h.routers number r e).1)
          (All-nil (Entry (Known nodes)));
      sent = subst (All (EnvKnown (Known nodes) (Tells nodes))) (sym h.sent)
          (All-nil (EnvKnown (Known nodes) (Tells nodes)));
    }

-- The part of the joint invariant.

knows : (nodes : Nodes) → KnownStands nodes → (shard boot : ℕ) (x : Named)
    → Known nodes shard boot x → KnowsBoot nodes shard boot x.lsid x.number x.tag
knows nodes c shard boot x (inl first) n e = let some = (c.shards shard n e).boot in
    (omega (arith, first), λ is. absurd (omega (arith, first, is, some)))
knows nodes c shard boot x (inr (named, k)) n e = k n e

asked_part : (nodes : Nodes) → KnownStands nodes → (shard : ℕ) (m : Msg)
    → AskedKnown (Known nodes) shard m → KnowsAsked nodes shard m
asked_part nodes c shard (msg.Statement m) h = knows nodes c shard m.boot _ h
asked_part nodes c shard (msg.Commit m) h = knows nodes c shard m.boot _ h
asked_part nodes c shard (msg.CommitTwo m) h = (
  knows nodes c shard m.boot _ h.0,
  All-weaker (λ (part : ℕ × ℕ). Known nodes part.0 part.1
      (record { tag = m.tag; lsid = m.lsid; number = m.number })) (λ (part : ℕ × ℕ). KnowsBoot nodes
      part.0 part.1 m.lsid m.number m.tag) (λ part k. knows nodes c part.0 part.1 _ k) m.parts h.1,
)
asked_part nodes c shard (msg.Prepare m) h = knows nodes c shard m.boot _ h
asked_part nodes c shard other h = tt

told_part : (nodes : Nodes) (m : Msg) → ToldBoots (HasBooted nodes) m → KnowsTold nodes m
told_part nodes (msg.Answer a) h = h
told_part nodes (msg.Outcome o) h = h
told_part nodes other h = tt

sent_part : (nodes : Nodes) → KnownStands nodes → (from to : NodeId) (time : ℕ) (m : Msg)
    → KnownTo (Known nodes) (Tells nodes) to m → BootsTo (HasBooted nodes) to m
    → KnowsBoots nodes (record { from = from; to = to; time = time; msg = m })
sent_part nodes c from (Shard shard) time m h b = asked_part nodes c shard m h
sent_part nodes c from (Router router) time m h b = told_part nodes m b

all_both : (nodes : Nodes) → KnownStands nodes → (sent : List Envelope)
    → All (EnvKnown (Known nodes) (Tells nodes)) sent → All (EnvBoots (HasBooted nodes)) sent
    → All (KnowsBoots nodes) sent
all_both nodes c [] h b = All-nil (KnowsBoots nodes)
all_both nodes c (e ∷ sent) h b =
    All-cons (KnowsBoots nodes) e sent (sent_part nodes c e.from e.to e.time
    e.msg (All-head (EnvKnown (Known nodes) (Tells nodes)) e sent h)
    (All-head (EnvBoots (HasBooted nodes)) e sent b))
    (all_both nodes c sent (All-tail (EnvKnown (Known nodes) (Tells nodes)) e sent h)
    (All-tail (EnvBoots (HasBooted nodes)) e sent b))

pub known_part : (nodes : Nodes) → Stands nodes → KnownStands nodes
    → All (KnowsBoots nodes) nodes.sent
known_part nodes s c = all_both nodes c nodes.sent c.sent s.boots.sent

pub known_whole : (nodes : Nodes) → Stands nodes → KnownStands nodes → LiveStands nodes
    → BootsKnown nodes
known_whole nodes s c l = record { messages = known_part nodes s c; live = live_part nodes l }
