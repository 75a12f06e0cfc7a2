-- What routers send, by a run's steps one after the other.
use Rattle.std.proofs.Common.{◌≡◌, inl, inr, ℕ, Bool, true, false, All, List, [], ◌∷◌, ◌++◌, Option}
use Rattle.std.proofs.Common.{Some, refl, sym, ap, subst, ◌∙◌}
use Rattle.std.specs.Prelude.{slice_get, slice_set}
use Rattle.std.proofs.lemmas.List.{append-nil, append_assoc}
use Rattle.std.proofs.lemmas.List.Elements.{All-nil, All-append, All-weaker, Contains-append_left}
use Rattle.txn_types.specs.declared.event.NodeAnswer.{NodeAnswer}
use Rattle.txn_types.specs.declared.event.NodeEvent.{NodeEvent}
use Rattle.txn_types.specs.declared.message.Envelope.{Envelope}
use Rattle.txn_types.specs.declared.message.Msg.{Msg}
use Rattle.txn_types.specs.declared.message.Msg.TheVariants as msg
use Rattle.txn_types.specs.declared.message.Statement.{Statement}
use Rattle.txn_types.specs.declared.node.Lsid.{Lsid}
use Rattle.txn_types.specs.declared.node.NodeId.{NodeId}
use Rattle.txn_types.specs.declared.node.NodeId.TheVariants.{Shard, Router}
use Rattle.chunk_map.specs.Map.{Map}
use Rattle.router_state.specs.declared.state.Doing.{Doing}
use Rattle.router_state.specs.declared.state.Doing.TheVariants.{Begun, Sought}
use Rattle.router_state.specs.declared.state.Session.{Session}
use Rattle.router_state.specs.State.{Post, RouterState, fresh_router}
use Rattle.router_core.specs.Step as sp
use Rattle.txn_model.specs.declared.ran.Ran.{Ran}
use Rattle.txn_model.specs.declared.ran.Ran.TheVariants.{Step, Swapped}
use Rattle.cluster_core.specs.Answering.{Unanswered, opened}
use Rattle.cluster_core.specs.Ledger.{Ledger, fresh_ledger, entered, entered_by, passed, swapped}
use Rattle.txn_types.specs.Letters.{given_out}
use Rattle.cluster_core.specs.Nodes.{Nodes}
use Rattle.cluster_core.specs.Routers.{request_at, is_memory}
use Rattle.cluster_core.specs.Trace.{Happens, IsTrace, IsFresh, RouterSteps, again}
use Rattle.answer_laws.specs.Opened.{opened_at, opened_by, opened_from}
use Rattle.answer_laws.specs.Parts.{MsgFits, SentTo, SentFit, IsPart}
use Rattle.answer_laws.proofs.Fits.{PostFits, DoingFits, EntryFits, RouterFits}
use Rattle.answer_laws.proofs.Beginning.{step_names}
use Rattle.answer_laws.proofs.Sending.{event_fits}
use Rattle.answer_laws.proofs.Shards.{Other, E, takes_gives}
use Rattle.world_laws.proofs.Lists.{get_set}
use Rattle.answer_laws.proofs.Lists.{set_same}

-- More was opened.

pub msg_more : (Q R : ℕ → Statement → Type 0) → ((n : ℕ) (m : Statement) → Q n m → R n m)
    → (shard : ℕ) (m : Msg) → MsgFits Q shard m → MsgFits R shard m
msg_more Q R f shard (msg.Statement m) h = f shard m h
msg_more Q R f shard other h = tt

pub sent_more : (Q R : ℕ → Statement → Type 0) → ((n : ℕ) (m : Statement) → Q n m → R n m)
    → (to : NodeId) (m : Msg) → SentTo Q to m → SentTo R to m
sent_more Q R f (Shard n) m h = msg_more Q R f n m h
sent_more Q R f (Router n) m h = tt

all_sent_more : (Q R : ℕ → Statement → Type 0) → ((n : ℕ) (m : Statement) → Q n m → R n m)
    → (sent : List Envelope) → SentFit Q sent → SentFit R sent
all_sent_more Q R f sent h = All-weaker (λ (e : Envelope). SentTo Q e.to e.msg) (λ (e : Envelope).
    SentTo R e.to e.msg) (λ e. sent_more Q R f e.to e.msg) sent h

pub doing_more : (Q R : ℕ → Statement → Type 0) → ((n : ℕ) (m : Statement) → Q n m → R n m)
    → (doing : Doing) → DoingFits Q doing → DoingFits R doing
doing_more Q R f (Begun t) h =
    All-weaker (PostFits Q) (PostFits R) (λ (post : Post). msg_more Q R f post.0 post.1) t.waiting h
doing_more Q R f (Sought seeking known) h = tt

pub router_more : (Q R : ℕ → Statement → Type 0) → ((n : ℕ) (m : Statement) → Q n m → R n m)
    → (r : RouterState) → RouterFits Q r → RouterFits R r
router_more Q R f r h = All-weaker (EntryFits Q) (EntryFits R) (λ (entry : Lsid × Session).
    doing_more Q R f entry.1.doing) r.sessions h

part_more : (chunks : Map) (begun new : List Unanswered) (n : ℕ) (m : Statement)
    → IsPart chunks begun n m → IsPart chunks (begun ++ new) n m
part_more chunks begun new n m h = record {
  statement = h.statement;
  opened = Contains-append_left begun new h.statement h.opened;
  asked = h.asked;
  tag = h.tag;
  k = h.k;
  op = h.op;
}

pub other_sent : (Q : ℕ → Statement → Type 0) (to : NodeId) (m : Msg) → Other m → SentTo Q to m
other_sent Q (Router n) m h = tt
other_sent Q (Shard n) (msg.Statement m) h = absurd h
other_sent Q (Shard n) other h = tt

pub others_fit : (Q : ℕ → Statement → Type 0) (out : List Envelope) → All E out → SentFit Q out
others_fit Q out h =
    All-weaker E (λ (e : Envelope). SentTo Q e.to e.msg) (λ e. other_sent Q e.to e.msg) out h

-- What stands of the routers, and of what was sent.

pub record RouterStands (chunks : Map) (begun : List Unanswered) (r : RouterState) : Type 0 where
  pub chunks_are : r.chunks ≡ chunks
  pub waits : RouterFits (IsPart chunks begun) r

abbrev pub RoutersStand : Map → List Unanswered → List RouterState → Type 0
RoutersStand chunks begun routers = (n : ℕ) (r : RouterState) → slice_get routers n ≡ Some r
    → RouterStands chunks begun r

pub record SendsParts (chunks : Map) (l : Ledger) (begun : List Unanswered)
    (nodes : Nodes) : Type 0 where
  pub same : l.routers ≡ nodes.routers
  pub routers : RoutersStand chunks begun nodes.routers
  pub sent : SentFit (IsPart chunks begun) nodes.sent

stands_more : (chunks : Map) (begun new : List Unanswered) (r : RouterState)
    → RouterStands chunks begun r → RouterStands chunks (begun ++ new) r
stands_more chunks begun new r h = record {
  chunks_are = h.chunks_are;
  waits = router_more (IsPart chunks begun) (IsPart chunks (begun ++ new)) (part_more chunks begun
      new) r h.waits;
}

-- A router's step.

pub after_is : (want : Bool) (r : RouterState) (e : NodeEvent)
    → is_memory (sp.answer_of want (sp.router_step want r e)) ≡ want
after_is true r e = refl
after_is false r e = refl

memory_same : (r : RouterState) (e : NodeEvent) → (sp.router_step true r e).state ≡ r
unfolding sp.router_step
memory_same r e = refl

entered_routers : (l : Ledger) (n : ℕ) (r : RouterState) (e : NodeEvent) (want : Bool)
    → slice_get l.routers n ≡ Some r
    → (entered l n (Some r) e (sp.answer_of want (sp.router_step want r e))).ledger.routers
    ≡ slice_set l.routers n (sp.router_step want r e).state
entered_routers l n r e true there =
    sym (ap (slice_set l.routers n) (memory_same r e) ∙ set_same l.routers n r there)
entered_routers l n r e false there = refl

router_sends : (chunks : Map) (old : Nodes) (n : ℕ) (e : NodeEvent) (a : NodeAnswer) (faults : ℕ)
    (new : Nodes) (l : Ledger) (begun : List Unanswered) → RouterSteps old n e a faults new
    → SendsParts chunks l begun old
    → SendsParts chunks (entered l n (slice_get l.routers n) e a).ledger
    (begun ++ opened_at n (slice_get l.routers n) e a) new
router_sends chunks old n e a faults new l begun h k =
    let there : slice_get l.routers n ≡ Some h.before =
    ap (λ (rs : List RouterState). slice_get rs n) k.same ∙ h.there in
    rw there (rw h.takes.1 (by h.takes.0 h.takes.1 h.takes.2 there))
  where
    by : (want : Bool) → a ≡ sp.answer_of want (sp.router_step want h.before e)
        → h.after ≡ (sp.router_step want h.before e).state → slice_get l.routers n ≡ Some h.before
        → SendsParts chunks (entered l n (Some h.before) e
        (sp.answer_of want (sp.router_step want h.before e))).ledger (begun
        ++ opened n (request_at h.before e (sp.answer_of want (sp.router_step want h.before e)))
        (sp.answer_of want (sp.router_step want h.before e))) new
    by want told is there =
        let r = h.before in
        let a' = sp.answer_of want (sp.router_step want r e) in
        let more = opened n (request_at r e a') a' in
        let Q = IsPart chunks (begun ++ more) in
        let old_stands = k.routers n r h.there in
        let f = step_names Q want r e (event_fits chunks begun n want r e old_stands.chunks_are)
        (router_more (IsPart chunks begun) Q (part_more chunks begun more) r
        old_stands.waits) in
        let rs : new.routers ≡ slice_set old.routers n h.after =
        ap (λ (w : Nodes). w.routers) h.nodes in
        let this : RouterStands chunks (begun ++ more) h.after =
        subst (RouterStands chunks (begun ++ more)) (sym is)
        (record { chunks_are = f.chunks ∙ old_stands.chunks_are; waits = f.state }) in
        record {
          same = entered_routers l n r e want there ∙ ap (λ (rs : List RouterState).
              slice_set rs n (sp.router_step want r e).state) k.same
              ∙ ap (slice_set old.routers n) (sym is) ∙ sym rs;
          routers = λ number x at.
              elim (get_set old.routers n number h.after x
              (sym (ap (λ (rs : List RouterState). slice_get rs number) rs) ∙ at)) [
                | inl w ↦ subst (RouterStands chunks (begun ++ more)) w.1 this
                | inr w ↦ stands_more chunks begun more x (k.routers number x w)
              ];
          sent = subst (SentFit Q) (sym (ap (λ (w : Nodes). w.sent) h.nodes))
              (All-append (λ (e : Envelope). SentTo Q e.to e.msg) old.sent (given_out a)
              (all_sent_more (IsPart chunks begun) Q (part_more chunks begun more) old.sent
              k.sent) (subst (λ (x : NodeAnswer). SentFit Q (given_out x)) (sym told) f.out));
        }

-- Other events.

routers_kept : (chunks : Map) (old new : Nodes) (l l' : Ledger) (begun : List Unanswered)
    → new.routers ≡ old.routers → l'.routers ≡ l.routers → SentFit (IsPart chunks begun) new.sent
    → SendsParts chunks l begun old → SendsParts chunks l' (begun ++ []) new
routers_kept chunks old new l l' begun rs ls sent k =
    let nil : begun ++ [] ≡ begun = append-nil begun in
    subst (λ (b : List Unanswered). SendsParts chunks l' b new) (sym nil) (record {
      same = ls ∙ k.same ∙ sym rs;
      routers =
          λ n r at. k.routers n r (sym (ap (λ (x : List RouterState). slice_get x n) rs) ∙ at);
      sent = sent;
    })

swap_fits : (chunks : Map) (begun : List Unanswered) (n : ℕ) (r : RouterState) → r.chunks ≡ chunks
    → RouterStands chunks begun (again n r)
swap_fits chunks begun n r is =
    record { chunks_are = is; waits = All-nil (EntryFits (IsPart chunks begun)) }

step_sends : (chunks : Map) (old : Nodes) (ran : Ran) (new : Nodes) (l : Ledger)
    (begun : List Unanswered) → Happens old ran new → SendsParts chunks l begun old
    → SendsParts chunks (entered_by l ran).ledger (begun ++ opened_by l ran) new
unfolding entered_by
step_sends chunks old (Step (Router n) e a faults) new l begun h k =
    router_sends chunks old n e a faults new l begun h k
step_sends chunks old (Step (Shard n) e a faults) new l begun h k =
    routers_kept chunks old new l (passed l).ledger begun
    (ap (λ (w : Nodes). w.routers) h.nodes) refl
    (subst (SentFit (IsPart chunks begun)) (sym (ap (λ (w : Nodes). w.sent) h.nodes))
    (All-append (λ (e : Envelope). SentTo (IsPart chunks begun) e.to e.msg) old.sent
    (given_out a) k.sent (others_fit (IsPart chunks begun) (given_out a)
    (takes_gives h.before e a h.after h.takes)))) k
step_sends chunks old (Swapped (Shard n)) new l begun h k =
    routers_kept chunks old new l (passed l).ledger begun
    (ap (λ (w : Nodes). w.routers) h.nodes) refl
    (subst (SentFit (IsPart chunks begun)) (sym (ap (λ (w : Nodes). w.sent) h.nodes)) k.sent) k
step_sends chunks old (Swapped (Router n)) new l begun h k =
    let there : slice_get l.routers n ≡ Some h.before =
    ap (λ (rs : List RouterState). slice_get rs n) k.same ∙ h.there in
    let rs : new.routers ≡ slice_set old.routers n (again n h.before) =
    ap (λ (w : Nodes). w.routers) h.nodes in
    let nil : begun ++ [] ≡ begun = append-nil begun in
    subst (λ (b : List Unanswered). SendsParts chunks (swapped l n (slice_get l.routers n)) b new)
    (sym nil) (record {
      same = ap (λ (r : Option RouterState). (swapped l n r).routers) there
          ∙ ap (λ (rs : List RouterState). slice_set rs n (again n h.before)) k.same ∙ sym rs;
      routers = λ number x at.
          elim (get_set old.routers n number (again n h.before) x
          (sym (ap (λ (rs : List RouterState). slice_get rs number) rs) ∙ at)) [
            | inl w ↦ subst (RouterStands chunks begun) w.1
                (swap_fits chunks begun n h.before (k.routers n h.before h.there).chunks_are)
            | inr w ↦ k.routers number x w
          ];
      sent =
          subst (SentFit (IsPart chunks begun)) (sym (ap (λ (w : Nodes). w.sent) h.nodes)) k.sent;
    })

pub run_sends : (chunks : Map) (old : Nodes) (run : List Ran) (trace : List Nodes)
    (new : Nodes) (l : Ledger) (begun : List Unanswered) → IsTrace old run trace new
    → SendsParts chunks l begun old
    → SentFit (IsPart chunks (begun ++ opened_from l run)) new.sent
run_sends chunks old [] [] new l begun h k =
    subst (λ (w : Nodes). SentFit (IsPart chunks (begun ++ [])) w.sent) (sym h) (subst
    (λ (b : List Unanswered). SentFit (IsPart chunks b) old.sent) (sym (append-nil begun)) k.sent)
run_sends chunks old [] (nodes ∷ trace) new l begun h k = absurd h
run_sends chunks old (ran ∷ run) [] new l begun h k = absurd h
run_sends chunks old (ran ∷ run) (nodes ∷ trace) new l begun h k =
    subst (λ (b : List Unanswered). SentFit (IsPart chunks b) new.sent)
    (append_assoc begun (opened_by l ran) (opened_from (entered_by l ran).ledger run))
    (run_sends chunks h.1.0 run trace new (entered_by l ran).ledger (begun ++ opened_by l ran) h.1.2
    (step_sends chunks old ran h.1.0 l begun h.1.1 k))

fresh_stands : (chunks : Map) (begun : List Unanswered) (n boot : ℕ)
    → RouterStands chunks begun (fresh_router n boot chunks)
fresh_stands chunks begun n boot =
    record { chunks_are = refl; waits = All-nil (EntryFits (IsPart chunks begun)) }

fresh_sends : (chunks : Map) (nodes : Nodes) → IsFresh chunks nodes
    → SendsParts chunks (fresh_ledger nodes.routers) [] nodes
fresh_sends chunks nodes f = record {
  same = refl;
  routers = λ n r at. let b = f.routers n r at in
      subst (RouterStands chunks []) (sym b.1) (fresh_stands chunks [] n b.0);
  sent = subst (SentFit (IsPart chunks [])) (sym f.sent)
      (All-nil (λ (e : Envelope). SentTo (IsPart chunks []) e.to e.msg));
}

pub all_parts : (chunks : Map) (start : Nodes) (run : List Ran) (trace : List Nodes) (now : Nodes)
    → IsFresh chunks start → IsTrace start run trace now
    → SentFit (IsPart chunks (opened_from (fresh_ledger start.routers) run)) now.sent
all_parts chunks start run trace now f h = run_sends chunks start run trace now
    (fresh_ledger start.routers) [] h (fresh_sends chunks start f)
