-- What a router had taken where it sent an Abort or a Recover, as of a place of a run; and what
-- each event grounds.
use Rattle.std.proofs.Common.{◌≡◌, ◌⊎◌, inl, inr, ◌≤◌, max, ℕ, ℤ, Bool, false, List}
use Rattle.std.proofs.Common.{[], Some, Result, Ok, Err, refl, sym, ap}
use Rattle.std.proofs.Common.{subst, ◌∙◌, arith, take}
use Rattle.std.specs.Prelude.{slice_get}
use Rattle.txn_types.specs.declared.cause.Cause.{Cause}
use Rattle.txn_types.specs.declared.event.Happening.{Happening}
use Rattle.txn_types.specs.declared.event.Happening.TheVariants as what
use Rattle.txn_types.specs.declared.event.NodeAnswer.{NodeAnswer}
use Rattle.txn_types.specs.declared.event.NodeEvent.{NodeEvent}
use Rattle.txn_types.specs.declared.message.Answer.{Answer}
use Rattle.txn_types.specs.declared.message.Envelope.{Envelope}
use Rattle.txn_types.specs.declared.message.Msg.{Msg}
use Rattle.txn_types.specs.declared.message.Msg.TheVariants as msg
use Rattle.txn_types.specs.declared.names.Tag.{Tag}
use Rattle.txn_types.specs.declared.node.Lsid.{Lsid}
use Rattle.txn_types.specs.declared.node.NodeId.TheVariants.{Router}
use Rattle.txn_types.specs.declared.operation.Op.{Op}
use Rattle.txn_types.specs.declared.operation.OpReply.{OpReply}
use Rattle.txn_semantics.specs.declared.commits.Answered.{Answered}
use Rattle.client_cmd.specs.declared.request.Request.{Request}
use Rattle.router_state.specs.declared.state.Asker.{Asker}
use Rattle.router_state.specs.declared.state.Doing.TheVariants.{Begun}
use Rattle.router_state.specs.declared.state.Phase.{Phase}
use Rattle.router_state.specs.declared.state.Phase.TheVariants.{Asking}
use Rattle.router_state.specs.declared.state.Transaction.{Transaction}
use Rattle.router_state.specs.State.{RouterState, is_waiting, is_from, asker_of}
use Rattle.router_plan.specs.declared.message.Unserved.{Unserved}
use Rattle.router_plan.specs.Messages.{asked_in}
use Rattle.txn_model.specs.declared.ran.Ran.TheVariants.{Step}
use Rattle.cluster_core.specs.Answering.{Unanswered}
use Rattle.cluster_core.specs.Causes.{Past, Making, Reason, ByClient, BySession, ByEnd}
use Rattle.cluster_core.specs.Causes.{ByRefusal, ByNumber, Took, Asks, AbortsIt, EndsIt, SeeksIt}
use Rattle.cluster_core.specs.Causes.{IsLarger, LeavesIt, RefusesIt, TakesRefusal}
use Rattle.cluster_core.specs.Ledger.{Ledger, fresh_ledger, ledger_behind}
use Rattle.cluster_core.specs.Routers.{request_at, asked_by, is_memory}
use Rattle.answer_laws.proofs.Lists.{nat_is}
use Rattle.told_laws.proofs.Standing.{RouterStands, DoingStands, PhaseStands, IsAsked}
use Rattle.reply_laws.proofs.Lists.{Once, visible}
use Rattle.abort_laws.proofs.Deeds.{RefusalOk, DoingOk, TxnOk, PhaseOk}
use Rattle.abort_laws.proofs.Routers.{AskedGrounds, MsgGrounds, GoneGrounds, EventGrounds}
use Rattle.abort_laws.proofs.Stated.{parts_asked}

-- why an Abort of the transaction may have been sent
abbrev pub Because : Past → ℕ → Tag → Lsid → ℤ → ℕ → Type 0
Because past within tag lsid number why =
    ((why ≡ 1) × Took past tag.router within (Asks (AbortsIt lsid number)))
    ⊎ (((why ≡ 2) × Took past tag.router within (Asks (EndsIt lsid)))
    ⊎ (((why ≡ 4) × Took past tag.router within (LeavesIt tag))
    ⊎ (((why ≡ 5) × Took past tag.router within (TakesRefusal tag))
    ⊎ ((why ≡ 6) × Took past tag.router within (Asks (IsLarger lsid number))))))

-- it is the reason of a making
pub reason_of : (past : Past) (m : Making) (why : ℕ)
    → Because past m.place m.tag m.lsid m.number why → Reason past m why
reason_of past m why (inl (is, t)) = subst (Reason past m) (sym is) (ByClient t)
reason_of past m why (inr (inl (is, t))) = subst (Reason past m) (sym is) (BySession t)
reason_of past m why (inr (inr (inl (is, t)))) = subst (Reason past m) (sym is) (ByEnd t)
reason_of past m why (inr (inr (inr (inl (is, t))))) =
    subst (Reason past m) (sym is) (ByRefusal t)
reason_of past m why (inr (inr (inr (inr (is, t))))) =
    subst (Reason past m) (sym is) (ByNumber t)

-- what was taken stays taken
pub took_on : (past : Past) (n p q : ℕ) (P : Ledger → RouterState → NodeEvent → NodeAnswer → Type 0)
    → p ≤ q → Took past n p P → Took past n q P
took_on past n p q P h t = record {
  place = t.place;
  event = t.event;
  answer = t.answer;
  faults = t.faults;
  router = t.router;
  step = t.step;
  there = t.there;
  earlier = omega (arith, t.earlier, h);
  holds = t.holds;
}

pub because_on : (past : Past) (p q : ℕ) (tag : Tag) (lsid : Lsid) (number : ℤ) (why : ℕ) → p ≤ q
    → Because past p tag lsid number why → Because past q tag lsid number why
because_on past p q tag lsid number why h (inl (is, t)) =
    inl (is, took_on past tag.router p q (Asks (AbortsIt lsid number)) h t)
because_on past p q tag lsid number why h (inr (inl (is, t))) =
    inr (inl (is, took_on past tag.router p q (Asks (EndsIt lsid)) h t))
because_on past p q tag lsid number why h (inr (inr (inl (is, t)))) =
    inr (inr (inl (is, took_on past tag.router p q (LeavesIt tag) h t)))
because_on past p q tag lsid number why h (inr (inr (inr (inl (is, t))))) =
    inr (inr (inr (inl (is, took_on past tag.router p q (TakesRefusal tag) h t))))
because_on past p q tag lsid number why h (inr (inr (inr (inr (is, t))))) =
    inr (inr (inr (inr (is, took_on past tag.router p q (Asks (IsLarger lsid number)) h t))))

-- What is said of sessions and of messages, as of a place.

abbrev pub AbortOf : Past → ℕ → Lsid → ℤ → Tag → ℕ → Type 0
AbortOf past p lsid number tag why = Because past p tag lsid number why

abbrev pub RecoverOf : Past → ℕ → Tag → Type 0
RecoverOf past p tag = (n : ℕ) × Took past n p (Asks (SeeksIt tag))

abbrev pub OwnOf : ℕ → Tag → Type 0
OwnOf n tag = tag.router ≡ n

abbrev pub RefusedOf : Past → ℕ → ℕ → Tag → Type 0
RefusedOf past n p tag = Took past n p (TakesRefusal tag)

-- A step of a router, that isn't out of memory, at its place of the run.

module _ (past : Past) (p n : ℕ) (r : RouterState) (e : NodeEvent) (a : NodeAnswer) (faults : ℕ)
    (begun : List Unanswered) (told : List Answered)
    (step : slice_get past.run p ≡ Some (Step (Router n) e a faults))
    (there : slice_get (ledger_behind (fresh_ledger past.routers) (take p past.run)).routers n
    ≡ Some r)
    (stands : RouterStands n begun
    (ledger_behind (fresh_ledger past.routers) (take p past.run)).unanswered told r)
    (once : Once r.sessions) (ample : is_memory a ≡ false) where
  abbrev now : Ledger
  now = ledger_behind (fresh_ledger past.routers) (take p past.run)

  took : (P : Ledger → RouterState → NodeEvent → NodeAnswer → Type 0) → P now r e a
      → Took past n p P
  took P h = record {
    place = p;
    event = e;
    answer = a;
    faults = faults;
    router = r;
    step = step;
    there = there;
    earlier = omega arith;
    holds = h;
  }

  -- of a transaction of this router
  took_of : (P : Ledger → RouterState → NodeEvent → NodeAnswer → Type 0) (tag : Tag)
      → OwnOf n tag → P now r e a → Took past tag.router p P
  took_of P tag own h = subst (λ (i : ℕ). Took past i p P) (sym own) (took P h)

  asked_grounds : (conn : ℕ) (bytes : List ℕ) (x : Result Request Unserved)
      → asked_in (max r.wall e.wall) bytes ≡ x → request_at r e a ≡ asked_by conn x
      → AskedGrounds (AbortOf past p) (RecoverOf past p) (OwnOf n) (RefusedOf past n p) r conn x
  asked_grounds conn bytes (Err why) is at = tt
  asked_grounds conn bytes (Ok x) is at = record {
    client = λ lsid number tag h own.
        inl (refl, took_of (Asks (AbortsIt lsid number)) tag own ((conn, x), at, h));
    session = λ lsid number tag h own.
        inr (inl (refl, took_of (Asks (EndsIt lsid)) tag own ((conn, x), at, h)));
    token = λ tag h. (n, took (Asks (SeeksIt tag)) ((conn, x), at, h));
    larger = λ lsid number tag h own.
        inr (inr
        (inr (inr (refl, took_of (Asks (IsLarger lsid number)) tag own ((conn, x), at, h)))));
    parts = λ op h. parts_asked r.chunks (max r.wall e.wall) bytes x op is h;
    fresh = stands.number;
  }

  refusal_grounds : (sent : Envelope) (x : Answer) (tag : Tag) (o : Result (OpReply × Bool) Cause)
      → e.what ≡ what.Deliver sent → sent.msg ≡ msg.Answer x → x.outcome ≡ o → x.tag ≡ tag
      → RefusalOk (RefusedOf past n p tag) o
  refusal_grounds sent x tag (Ok done) is m out same = tt
  refusal_grounds sent x tag (Err why) is m out same =
      took (TakesRefusal tag) (sent, is, subst (RefusesIt tag) (sym m) (same, (why, out)))

  msg_grounds : (sent : Envelope) (m : Msg) → e.what ≡ what.Deliver sent → sent.msg ≡ m
      → MsgGrounds (AbortOf past p) (RecoverOf past p) (OwnOf n) (RefusedOf past n p) m
  msg_grounds sent (msg.Answer x) is m = λ lsid number tag own. (
    λ same. refusal_grounds sent x tag x.outcome is m refl same,
    λ v. inr (inr (inr (inl (
      refl,
      subst (λ (i : ℕ). Took past i p (TakesRefusal tag)) (sym own) v,
    )))),
  )
  msg_grounds sent (msg.Outcome o) is m = λ lsid number tag own same other.
      inr (inr (inr (inl (
        refl,
        took_of (TakesRefusal tag) tag own
            (sent, is, subst (RefusesIt tag) (sym m) (same, other)),
      ))))
  msg_grounds sent (msg.Statement x) is m = tt
  msg_grounds sent (msg.Commit x) is m = tt
  msg_grounds sent (msg.Abort x) is m = tt
  msg_grounds sent (msg.CommitTwo x) is m = tt
  msg_grounds sent (msg.Prepare x) is m = tt
  msg_grounds sent (msg.Vote x) is m = tt
  msg_grounds sent (msg.Decide x) is m = tt
  msg_grounds sent (msg.Acked x) is m = tt
  msg_grounds sent (msg.Recover x) is m = tt
  msg_grounds sent msg.Nudge is m = tt

  leaves : (conn : ℕ) (t : Transaction) (asker : Asker) (op : Op) (answers : List (ℕ × Answer))
      → e.what ≡ what.Gone conn → asker.conn ≡ conn → (t.waiting ≡ [] → ⊥)
      → IsAsked n begun now.unanswered told t asker op answers → LeavesIt t.tag now r e a
  leaves conn t asker op answers is from some (inl h) = absurd (some h.0)
  leaves conn t asker op answers is from some (inr h) = (
    h.statement,
    h.there,
    h.tag,
    is ∙ ap what.Gone (sym (h.conn ∙ from)),
  )

  gone_grounds : (conn : ℕ) → e.what ≡ what.Gone conn
      → GoneGrounds (AbortOf past p) (RecoverOf past p) (OwnOf n) (RefusedOf past n p) r conn
  gone_grounds conn is lsid s t asker op answers c k doing phase from =
      let here = visible r.sessions (lsid, s) once c in
      let x : DoingStands n r begun now.unanswered told (Begun t) =
      subst (DoingStands n r begun now.unanswered told) doing (stands.sessions lsid s here) in
      let own : TxnOk (OwnOf n) (RefusedOf past n p) t =
      subst (DoingOk (RecoverOf past p) (OwnOf n) (RefusedOf past n p)) doing k in
      let asked : IsAsked n begun now.unanswered told t asker op answers =
      subst (PhaseStands n begun now.unanswered told t) phase x.1.phase in
      let ok : PhaseOk (RefusedOf past n p t.tag) t.waiting (Asking asker op answers) =
      subst (PhaseOk (RefusedOf past n p t.tag) t.waiting) phase own.phase in
      let waits : asker_of s.doing ≡ Some asker = ap asker_of doing
      ∙ ap (λ (q : Phase). asker_of (Begun (record t { phase = q }))) phase in
      let conn_is : asker.conn ≡ conn = nat_is asker.conn conn
      (ap (is_from conn) (sym waits) ∙ from) in
      inr (inr (inl (
        refl,
        took_of (LeavesIt t.tag) t.tag own.own
            (leaves conn t asker op answers is conn_is ok.0 asked),
      )))

  at_client : (conn : ℕ) (bytes : List ℕ) → e.what ≡ what.Client conn bytes
      → is_waiting r conn ≡ false
      → request_at r e a ≡ asked_by conn (asked_in (max r.wall e.wall) bytes)
  at_client conn bytes is free = rw ample (rw is (rw free refl))

  event_grounds : (w : Happening) → e.what ≡ w
      → EventGrounds (AbortOf past p) (RecoverOf past p) (OwnOf n) (RefusedOf past n p) r
      (max r.wall e.wall) w
  event_grounds (what.Client conn bytes) is = λ free. asked_grounds conn bytes
      (asked_in (max r.wall e.wall) bytes) refl (at_client conn bytes is free)
  event_grounds (what.Gone conn) is = gone_grounds conn is
  event_grounds (what.Deliver sent) is = msg_grounds sent sent.msg is refl
  event_grounds what.Resend is = tt
  event_grounds what.Moment is = tt

  pub grounds : EventGrounds (AbortOf past p) (RecoverOf past p) (OwnOf n) (RefusedOf past n p) r
      (max r.wall e.wall) e.what
  grounds = event_grounds e.what refl
