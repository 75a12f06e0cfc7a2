-- At each place of a run each Abort and each Recover that was sent has its ground: what its router
-- had taken at an earlier place.
use Rattle.std.proofs.Common.{◌≡◌, ◌⊎◌, inl, inr, ◌≤◌, ◌++◌, ℕ, zero, suc, Bool, true}
use Rattle.std.proofs.Common.{false, All, List, [], ◌∷◌, Option, Some, None, Result, Ok, Err, refl}
use Rattle.std.proofs.Common.{sym, ap, subst, ◌∙◌, arith, take}
use Rattle.std.specs.Prelude.{slice_get}
use Rattle.std.proofs.lemmas.List.Elements.{All-nil, All-append, All-weaker}
use Rattle.txn_types.specs.Letters.{given_out}
use Rattle.txn_types.specs.declared.cause.Cause.{Cause}
use Rattle.txn_types.specs.declared.event.NodeAnswer.{NodeAnswer}
use Rattle.txn_types.specs.declared.event.NodeEvent.{NodeEvent}
use Rattle.txn_types.specs.declared.message.Envelope.{Envelope}
use Rattle.txn_types.specs.declared.message.Msg.{Msg}
use Rattle.txn_types.specs.declared.message.Msg.TheVariants as msg
use Rattle.txn_types.specs.declared.names.Tag.{Tag}
use Rattle.txn_types.specs.declared.node.Lsid.{Lsid}
use Rattle.txn_types.specs.declared.node.NodeId.TheVariants.{Shard, Router}
use Rattle.txn_types.specs.declared.operation.OpReply.{OpReply}
use Rattle.txn_semantics.specs.declared.commits.Answered.{Answered}
use Rattle.chunk_map.specs.Map.{Map}
use Rattle.router_state.specs.declared.state.Doing.{Doing}
use Rattle.router_state.specs.declared.state.Doing.TheVariants.{Begun, Sought}
use Rattle.router_state.specs.declared.state.Phase.{Phase}
use Rattle.router_state.specs.declared.state.Phase.TheVariants.{Idle, Asking, Checking, Deciding}
use Rattle.router_state.specs.declared.state.Phase.TheVariants.{Committed, Released, Aborted}
use Rattle.router_state.specs.declared.state.Seeking.{Seeking}
use Rattle.router_state.specs.declared.state.Session.{Session}
use Rattle.router_state.specs.State.{Post, RouterState}
use Rattle.router_core.specs.Step as sp
use Rattle.txn_model.specs.declared.ran.Ran.{Ran}
use Rattle.txn_model.specs.declared.ran.Ran.TheVariants.{Step, Swapped}
use Rattle.cluster_core.specs.Answering.{Unanswered}
use Rattle.cluster_core.specs.Causes.{Past, TakesRefusal, Asks, SeeksIt}
use Rattle.cluster_core.specs.Ledger.{Ledger, fresh_ledger, ledger_behind, entered_by}
use Rattle.cluster_core.specs.Nodes.{Nodes}
use Rattle.cluster_core.specs.Routers.{is_memory}
use Rattle.cluster_core.specs.Trace.{Happens, IsTrace, IsFresh, RouterSteps, again}
use Rattle.world_laws.proofs.Lists.{get_set}
use Rattle.told_laws.proofs.Running.{Booked, step_booked, fresh_booked}
use Rattle.reply_laws.proofs.Lists.{Once}
use Rattle.abort_laws.proofs.Asked.{wish_step, Wish}
use Rattle.abort_laws.proofs.Because.{AbortOf, RecoverOf, OwnOf, RefusedOf, took_on}
use Rattle.abort_laws.proofs.Because.{because_on, grounds}
use Rattle.abort_laws.proofs.Deeds.{SendOk, RefusalOk, AnswerOk, PhaseOk, SeekOk, DoingOk}
use Rattle.abort_laws.proofs.Places.{one_place}
use Rattle.abort_laws.proofs.Routers.{StepOk, step_ok}
use Rattle.abort_laws.proofs.Rules.{ShardSays, SaysAt}

-- What stands as of a place.

abbrev pub SentAt : Past → ℕ → Envelope → Type 0
SentAt past p e = SendOk (AbortOf past p) (RecoverOf past p) e.msg

abbrev pub EntryAt : Past → ℕ → ℕ → Lsid × Session → Type 0
EntryAt past p n entry = DoingOk (RecoverOf past p) (OwnOf n) (RefusedOf past n p) entry.1.doing

pub record RouterAt (past : Past) (p n : ℕ) (r : RouterState) : Type 0 where
  pub sessions : All (EntryAt past p n) r.sessions
  pub once : Once r.sessions

pub record Accounted (past : Past) (p : ℕ) (nodes : Nodes) : Type 0 where
  pub sent : All (SentAt past p) nodes.sent
  pub routers : (n : ℕ) (r : RouterState) → slice_get nodes.routers n ≡ Some r
      → RouterAt past p n r

-- It goes on standing.

module _ (past : Past) (p : ℕ) where
  up : p ≤ suc p
  up = omega arith

  send_on : (m : Msg) → SendOk (AbortOf past p) (RecoverOf past p) m
      → SendOk (AbortOf past (suc p)) (RecoverOf past (suc p)) m
  send_on (msg.Abort x) h = because_on past p (suc p) x.tag x.lsid x.number x.why up h
  send_on (msg.Recover x) h = (h.0, took_on past h.0 p (suc p) (Asks (SeeksIt x.tag)) up h.1)
  send_on (msg.Statement x) h = tt
  send_on (msg.Answer x) h = tt
  send_on (msg.Commit x) h = tt
  send_on (msg.Outcome x) h = tt
  send_on (msg.CommitTwo x) h = tt
  send_on (msg.Prepare x) h = tt
  send_on (msg.Vote x) h = tt
  send_on (msg.Decide x) h = tt
  send_on (msg.Acked x) h = tt
  send_on msg.Nudge h = tt

  pub sent_on : (es : List Envelope) → All (SentAt past p) es → All (SentAt past (suc p)) es
  sent_on es h = All-weaker (SentAt past p) (SentAt past (suc p)) (λ e. send_on e.msg) es h

  refusal_on : (n : ℕ) (tag : Tag) (o : Result (OpReply × Bool) Cause)
      → RefusalOk (RefusedOf past n p tag) o → RefusalOk (RefusedOf past n (suc p) tag) o
  refusal_on n tag (Ok done) h = tt
  refusal_on n tag (Err why) h = took_on past n p (suc p) (TakesRefusal tag) up h

  phase_on : (n : ℕ) (tag : Tag) (waiting : List Post) (q : Phase)
      → PhaseOk (RefusedOf past n p tag) waiting q
      → PhaseOk (RefusedOf past n (suc p) tag) waiting q
  phase_on n tag waiting (Asking asker op answers) h = (
    h.0,
    All-weaker (AnswerOk (RefusedOf past n p tag)) (AnswerOk (RefusedOf past n (suc p) tag))
        (λ answer. refusal_on n tag answer.1.outcome) answers h.1,
  )
  phase_on n tag waiting Idle h = tt
  phase_on n tag waiting (Checking asker) h = tt
  phase_on n tag waiting (Deciding asker) h = tt
  phase_on n tag waiting Committed h = tt
  phase_on n tag waiting Released h = tt
  phase_on n tag waiting (Aborted sent) h = tt

  seek_on : (seeking : Option Seeking) → SeekOk (RecoverOf past p) seeking
      → SeekOk (RecoverOf past (suc p)) seeking
  seek_on None h = tt
  seek_on (Some k) h = (h.0, took_on past h.0 p (suc p) (Asks (SeeksIt k.tag)) up h.1)

  doing_on : (n : ℕ) (doing : Doing)
      → DoingOk (RecoverOf past p) (OwnOf n) (RefusedOf past n p) doing
      → DoingOk (RecoverOf past (suc p)) (OwnOf n) (RefusedOf past n (suc p)) doing
  doing_on n (Begun t) h = record {
    own = h.own;
    waiting = h.waiting;
    phase = phase_on n t.tag t.waiting t.phase h.phase;
  }
  doing_on n (Sought seeking known) h = seek_on seeking h

  pub router_on : (n : ℕ) (r : RouterState) → RouterAt past p n r → RouterAt past (suc p) n r
  router_on n r h = record {
    sessions = All-weaker (EntryAt past p n) (EntryAt past (suc p) n)
        (λ entry. doing_on n entry.1.doing) r.sessions h.sessions;
    once = h.once;
  }

-- what a shard sends needs no ground
shard_send : (past : Past) (p : ℕ) (T : Tag → ℕ → Type 0) (m : Msg) → ShardSays T m
    → SendOk (AbortOf past p) (RecoverOf past p) m
shard_send past p T (msg.Abort x) h = absurd h
shard_send past p T (msg.Recover x) h = absurd h
shard_send past p T (msg.Statement x) h = tt
shard_send past p T (msg.Answer x) h = tt
shard_send past p T (msg.Commit x) h = tt
shard_send past p T (msg.Outcome x) h = tt
shard_send past p T (msg.CommitTwo x) h = tt
shard_send past p T (msg.Prepare x) h = tt
shard_send past p T (msg.Vote x) h = tt
shard_send past p T (msg.Decide x) h = tt
shard_send past p T (msg.Acked x) h = tt
shard_send past p T msg.Nudge h = tt

-- A step.

abbrev pub ledger_at : Past → ℕ → Ledger
ledger_at past p = ledger_behind (fresh_ledger past.routers) (take p past.run)

-- the routers as the ledger has them, with what was opened and answered
pub record Stood (past : Past) (p : ℕ) (nodes : Nodes) : Type 0 where
  pub begun : List Unanswered
  pub told : List Answered
  pub booked : Booked (ledger_at past p) begun told nodes
  pub accounted : Accounted past p nodes

router_step : (past : Past) (p n : ℕ) (want : Bool) (r : RouterState) (e : NodeEvent)
    (a : NodeAnswer) (faults : ℕ) (nodes : Nodes) (h : Stood past p nodes)
    → slice_get past.run p ≡ Some (Step (Router n) e a faults)
    → slice_get nodes.routers n ≡ Some r
    → a ≡ sp.answer_of want (sp.router_step want r e)
    → StepOk (AbortOf past p) (RecoverOf past p) (OwnOf n) (RefusedOf past n p) r
    (sp.router_step want r e).state (given_out a)
router_step past p n want r e a faults nodes h step there is =
    let k = h.accounted.routers n r there in
    let at : slice_get (ledger_at past p).routers n ≡ Some r =
    ap (λ (xs : List RouterState). slice_get xs n) h.booked.same ∙ there in
    subst (λ (x : NodeAnswer). StepOk (AbortOf past p) (RecoverOf past p) (OwnOf n)
    (RefusedOf past n p) r (sp.router_step want r e).state (given_out x)) (sym is)
    (step_ok (AbortOf past p) (RecoverOf past p) (OwnOf n) (RefusedOf past n p) want r e
    (λ ample. grounds past p n r e a faults h.begun h.told step at
    (h.booked.book.routers_stand n r at) k.once (answers want ample is)) k.sessions)
  where
    answers : (want : Bool) → want ≡ false → a ≡ sp.answer_of want (sp.router_step want r e)
        → is_memory a ≡ false
    answers true ample same = absurd cc
    answers false ample same = rw same refl

router_accounts : (past : Past) (p n : ℕ) (e : NodeEvent) (a : NodeAnswer) (faults : ℕ)
    (old new : Nodes) → slice_get past.run p ≡ Some (Step (Router n) e a faults)
    → RouterSteps old n e a faults new → Stood past p old → Accounted past (suc p) new
router_accounts past p n e a faults old new step s h =
    let k = router_step past p n s.takes.0 s.before e a faults old h step s.there s.takes.1 in
    let before = h.accounted.routers n s.before s.there in
    let after : RouterAt past p n s.after =
    subst (RouterAt past p n) (sym s.takes.2)
    (record { sessions = k.sessions; once = k.once before.once }) in
    subst (Accounted past (suc p)) (sym s.nodes) (record {
      sent = sent_on past p (old.sent ++ given_out a)
          (All-append (SentAt past p) old.sent (given_out a) h.accounted.sent k.out);
      routers = λ j x at. router_on past p j x
          (by j x (get_set old.routers n j s.after x at) after);
    })
  where
    by : (j : ℕ) (x : RouterState) → ((j ≡ n) × (s.after ≡ x)) ⊎ (slice_get old.routers j ≡ Some x)
        → RouterAt past p n s.after → RouterAt past p j x
    by j x (inl w) k = subst (λ (i : ℕ). RouterAt past p i x) (sym w.0)
        (subst (RouterAt past p n) w.1 k)
    by j x (inr there) k = h.accounted.routers j x there

same_routers : (past : Past) (p : ℕ) (old new : Nodes) (out : List Envelope)
    → new.routers ≡ old.routers → new.sent ≡ old.sent ++ out → All (SentAt past p) out
    → Accounted past p old → Accounted past (suc p) new
same_routers past p old new out routers sent all h = record {
  sent = subst (All (SentAt past (suc p))) (sym sent) (sent_on past p (old.sent ++ out)
      (All-append (SentAt past p) old.sent out h.sent all));
  routers = λ n r at. router_on past p n r (h.routers n r
      (ap (λ (xs : List RouterState). slice_get xs n) (sym routers) ∙ at));
}

accounts_step : (past : Past) (p : ℕ) (old : Nodes) (ran : Ran) (new : Nodes)
    → slice_get past.run p ≡ Some ran → Happens old ran new → Stood past p old
    → Accounted past (suc p) new
accounts_step past p old (Step (Router n) e a faults) new step s h =
    router_accounts past p n e a faults old new step s h
accounts_step past p old (Step (Shard n) e a faults) new step s h =
    same_routers past p old new (given_out a) (ap (λ (w : Nodes). w.routers) s.nodes)
    (ap (λ (w : Nodes). w.sent) s.nodes)
    (All-weaker (λ (x : Envelope). ShardSays (SaysAt (Wish s.before.core.part e.what) e.what)
    x.msg) (SentAt past p)
    (λ sent k. shard_send past p (SaysAt (Wish s.before.core.part e.what) e.what)
    sent.msg k) (given_out a)
    (wish_step s.before e a s.after s.takes).out) h.accounted
accounts_step past p old (Swapped (Shard n)) new step s h = record {
  sent = subst (All (SentAt past (suc p))) (sym (ap (λ (w : Nodes). w.sent) s.nodes))
      (sent_on past p old.sent h.accounted.sent);
  routers = λ j x at. router_on past p j x (h.accounted.routers j x
      (ap (λ (w : Nodes). slice_get w.routers j) (sym s.nodes) ∙ at));
}
accounts_step past p old (Swapped (Router n)) new step s h =
    subst (Accounted past (suc p)) (sym s.nodes) (record {
      sent = sent_on past p old.sent h.accounted.sent;
      routers = λ j x at. router_on past p j x
          (by j x (get_set old.routers n j (again n s.before) x at));
    })
  where
    by : (j : ℕ) (x : RouterState)
        → ((j ≡ n) × (again n s.before ≡ x)) ⊎ (slice_get old.routers j ≡ Some x)
        → RouterAt past p j x
    by j x (inl w) = subst (RouterAt past p j) w.1
        (record { sessions = All-nil (EntryAt past p j); once = tt })
    by j x (inr there) = h.accounted.routers j x there

-- Along a run.

next_ledger : (l : Ledger) (run : List Ran) (p : ℕ) (ran : Ran) → slice_get run p ≡ Some ran
    → ledger_behind l (take (suc p) run)
    ≡ (entered_by (ledger_behind l (take p run)) ran).ledger
next_ledger l [] p ran e = let no : None ≡ Some ran = e in absurd cc
next_ledger l (r ∷ run) zero ran e =
    ap (λ (x : Ran). (entered_by l x).ledger) (one_place r ran e)
next_ledger l (r ∷ run) (suc p) ran e = next_ledger (entered_by l r).ledger run p ran e

stood_of : (past : Past) (p : ℕ) (l : Ledger) (begun : List Unanswered) (told : List Answered)
    (nodes : Nodes) → l ≡ ledger_at past p → Booked l begun told nodes → Accounted past p nodes
    → Stood past p nodes
stood_of past p l begun told nodes same b k = record {
  begun = begun;
  told = told;
  booked = subst (λ (x : Ledger). Booked x begun told nodes) same b;
  accounted = k;
}

stood_step : (past : Past) (p : ℕ) (old : Nodes) (ran : Ran) (new : Nodes)
    → slice_get past.run p ≡ Some ran → Happens old ran new → Stood past p old
    → Stood past (suc p) new
stood_step past p old ran new step s h =
    stood_of past (suc p) _ _ _ new
    (sym (next_ledger (fresh_ledger past.routers) past.run p ran step))
    (step_booked (ledger_at past p) h.begun h.told old ran new s h.booked)
    (accounts_step past p old ran new step s h)

-- what stands at first, and goes on with each step, stands at each place
along : (I : ℕ → Nodes → Type 0) (start : Nodes) (run : List Ran) (trace : List Nodes)
    (now : Nodes) → IsTrace start run trace now → I 0 start
    → ((p : ℕ) (old : Nodes) (ran : Ran) (new : Nodes) → slice_get run p ≡ Some ran
    → Happens old ran new → I p old → I (suc p) new)
    → (p : ℕ) (nodes : Nodes) → slice_get trace p ≡ Some nodes → I p nodes
along I start [] [] now h first step p nodes at = let no : None ≡ Some nodes = at in absurd cc
along I start [] (n ∷ trace) now h first step p nodes at = absurd h
along I start (r ∷ run) [] now h first step p nodes at = absurd h
along I start (r ∷ run) (n ∷ trace) now h first step zero nodes at =
    subst (I 0) (sym h.0 ∙ one_place n nodes at) first
along I start (r ∷ run) (n ∷ trace) now h first step (suc p) nodes at =
    along (λ q. I (suc q)) h.1.0 run trace now h.1.2 (step 0 start r h.1.0 refl h.1.1 first)
    (λ q. step (suc q)) p nodes at

stood_first : (chunks : Map) (start : Nodes) (run : List Ran) (trace : List Nodes) (now : Nodes)
    → IsFresh chunks start → Stood (record {
      chunks = chunks;
      routers = start.routers;
      run = run;
      trace = trace;
      now = now;
    }) 0 start
stood_first chunks start run trace now fresh =
    let past : Past = record {
      chunks = chunks;
      routers = start.routers;
      run = run;
      trace = trace;
      now = now;
    } in
    record {
      begun = [];
      told = [];
      booked = fresh_booked chunks start fresh;
      accounted = record {
        sent = subst (All (SentAt past 0)) (sym fresh.sent) (All-nil (SentAt past 0));
        routers = λ n r at. let b = fresh.routers n r at in
            subst (RouterAt past 0 n) (sym b.1)
            (record { sessions = All-nil (EntryAt past 0 n); once = tt });
      };
    }

pub all_accounted : (chunks : Map) (start : Nodes) (run : List Ran) (trace : List Nodes)
    (now : Nodes) → IsFresh chunks start → IsTrace start run trace now → (p : ℕ) (nodes : Nodes)
    → slice_get trace p ≡ Some nodes
    → All (SentAt (record {
      chunks = chunks;
      routers = start.routers;
      run = run;
      trace = trace;
      now = now;
    }) p) nodes.sent
all_accounted chunks start run trace now fresh h p nodes at =
    let past : Past = record {
      chunks = chunks;
      routers = start.routers;
      run = run;
      trace = trace;
      now = now;
    } in
    (along (Stood past) start run trace now h (stood_first chunks start run trace now fresh)
    (stood_step past) p nodes at).accounted.sent
