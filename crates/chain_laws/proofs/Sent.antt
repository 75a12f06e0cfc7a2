-- What is said of statements that were sent holds where more is said of each.
use Rattle.std.proofs.Common.{◌≡◌, ℕ, Bool, true, false, All, List, [], ◌∷◌, ◌++◌, map, refl, sym}
use Rattle.std.proofs.Common.{ap, subst}
use Rattle.std.proofs.lemmas.List.Elements.{All-nil, All-append, All-contains, All-map, All-weaker}
use Rattle.txn_types.specs.Letters.{Letter, sent_by, given_out}
use Rattle.txn_types.specs.declared.event.NodeAnswer.{NodeAnswer}
use Rattle.txn_types.specs.declared.event.NodeEvent.{NodeEvent}
use Rattle.txn_types.specs.declared.message.Envelope.{Envelope}
use Rattle.txn_types.specs.declared.message.Msg.{Msg}
use Rattle.txn_types.specs.declared.message.Msg.TheVariants as msg
use Rattle.txn_types.specs.declared.message.Statement.{Statement}
use Rattle.txn_types.specs.declared.node.NodeId.{NodeId}
use Rattle.txn_types.specs.declared.node.NodeId.TheVariants.{Shard, Router}
use Rattle.router_state.specs.State.{Post, RouterState}
use Rattle.router_plan.specs.Spelling.{letter_of}
use Rattle.router_rules.specs.Times.{walled}
use Rattle.router_core.specs.Step as sp
use Rattle.txn_model.specs.declared.ran.Ran.{Ran}
use Rattle.txn_model.specs.declared.ran.Ran.TheVariants.{Step, Swapped}
use Rattle.cluster_core.specs.Nodes.{Nodes}
use Rattle.cluster_core.specs.Trace.{Happens, IsTrace}
use Rattle.answer_laws.specs.Parts.{MsgFits, SentTo, SentFit}
use Rattle.world_laws.proofs.Naming.{each}
use Rattle.answer_laws.proofs.Shards.{Other, E, takes_gives}
use Rattle.chain_laws.specs.Chained.{WasSent}
use Rattle.answer_laws.proofs.Running.{sent_more}

pub all_sent_more : (Q R : ℕ → Statement → Type 0) → ((n : ℕ) (m : Statement) → Q n m → R n m)
    → (sent : List Envelope) → SentFit Q sent → SentFit R sent
all_sent_more Q R f sent h = All-weaker (λ (e : Envelope). SentTo Q e.to e.msg) (λ (e : Envelope).
    SentTo R e.to e.msg) (λ e. sent_more Q R f e.to e.msg) sent h

-- Statements go to shards alone.

abbrev IsShard : NodeId → Type 0
IsShard (Shard n) = Unit {0}
IsShard (Router n) = ⊥

abbrev StatementTo : NodeId → Msg → Type 0
StatementTo to (msg.Statement m) = IsShard to
StatementTo to other = Unit {0}

abbrev pub ToShards : List Envelope → Type 0
ToShards sent = All (λ (e : Envelope). StatementTo e.to e.msg) sent

shard_to : (to : NodeId) (m : Msg) → IsShard to → StatementTo to m
shard_to to (msg.Statement m) h = h
shard_to to other h = tt

other_to : (to : NodeId) (m : Msg) → Other m → StatementTo to m
other_to to (msg.Statement m) h = absurd h
other_to to other h = tt

router_to : (want : Bool) (r : RouterState) (e : NodeEvent)
    → ToShards (given_out (sp.answer_of want (sp.router_step want r e)))
unfolding sp.router_step
router_to true r e = All-nil (λ (e : Envelope). StatementTo e.to e.msg)
router_to false r e =
    let m = sp.happened (walled r e.wall) e.what in
    let posts = m.given.aborts ++ m.given.sends in
    All-map (λ (e : Envelope). StatementTo e.to e.msg)
    (sent_by (Router m.state.number) m.state.time) (map letter_of posts)
    (each (λ (l : Letter). StatementTo l.0 l.1) letter_of posts
    (λ (post : Post). shard_to (Shard post.0) post.1 tt))

step_to : (old : Nodes) (ran : Ran) (new : Nodes) → Happens old ran new → ToShards old.sent
    → ToShards new.sent
step_to old (Step (Router n) e a faults) new h k =
    subst ToShards (sym (ap (λ (w : Nodes). w.sent) h.nodes))
    (All-append (λ (e : Envelope). StatementTo e.to e.msg) old.sent (given_out a) k
    (subst (λ (x : NodeAnswer). ToShards (given_out x)) (sym h.takes.1)
    (router_to h.takes.0 h.before e)))
step_to old (Step (Shard n) e a faults) new h k =
    subst ToShards (sym (ap (λ (w : Nodes). w.sent) h.nodes))
    (All-append (λ (e : Envelope). StatementTo e.to e.msg) old.sent (given_out a) k
    (All-weaker E (λ (e : Envelope). StatementTo e.to e.msg) (λ e. other_to e.to e.msg)
    (given_out a) (takes_gives h.before e a h.after h.takes)))
step_to old (Swapped (Router n)) new h k =
    subst ToShards (sym (ap (λ (w : Nodes). w.sent) h.nodes)) k
step_to old (Swapped (Shard n)) new h k =
    subst ToShards (sym (ap (λ (w : Nodes). w.sent) h.nodes)) k

pub run_to : (old : Nodes) (run : List Ran) (trace : List Nodes) (new : Nodes)
    → IsTrace old run trace new → ToShards old.sent → ToShards new.sent
run_to old [] [] new h k = subst (λ (w : Nodes). ToShards w.sent) (sym h) k
run_to old [] (nodes ∷ trace) new h k = absurd h
run_to old (ran ∷ run) [] new h k = absurd h
run_to old (ran ∷ run) (nodes ∷ trace) new h k =
    run_to h.1.0 run trace new h.1.2 (step_to old ran h.1.0 h.1.1 k)

pub none_to : (sent : List Envelope) → sent ≡ [] → ToShards sent
none_to sent e = subst ToShards (sym e) (All-nil (λ (e : Envelope). StatementTo e.to e.msg))

-- the shard that a statement was sent to
pub shard_of_sent : (sent : List Envelope) (m : Statement) → ToShards sent → (w : WasSent sent m)
    → (n : ℕ) × (w.0.to ≡ Shard n)
shard_of_sent sent m h w =
    by w.0.to refl (subst (StatementTo w.0.to) w.2
    (All-contains (λ (e : Envelope). StatementTo e.to e.msg) sent w.0 h w.1))
  where
    by : (to : NodeId) → w.0.to ≡ to → IsShard w.0.to → (n : ℕ) × (w.0.to ≡ Shard n)
    by (Shard n) e k = (n, e)
    by (Router n) e k = absurd (subst IsShard e k)

-- and what is said of it
pub fit_of_sent : (Q : ℕ → Statement → Type 0) (sent : List Envelope) (m : Statement)
    → SentFit Q sent → (w : WasSent sent m) → (n : ℕ) → w.0.to ≡ Shard n → Q n m
fit_of_sent Q sent m h w n to =
    subst (MsgFits Q n) w.2 (subst (λ (x : NodeId). SentTo Q x w.0.msg) to
    (All-contains (λ (e : Envelope). SentTo Q e.to e.msg) sent w.0 h w.1))
