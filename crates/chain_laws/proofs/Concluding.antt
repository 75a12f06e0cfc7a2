-- On one shard answers are right.
use Rattle.std.proofs.Common.{◌≡◌, ◌⊎◌, inl, inr, ◌<◌, ℕ, Bool, true, All, List, [], ◌∷◌}
use Rattle.std.proofs.Common.{map, length, Some, is_some, Result, Ok, Err, refl, sym, ap}
use Rattle.std.proofs.Common.{subst, ◌∙◌, arith}
use Rattle.std.specs.Prelude.{Contains}
use Rattle.std.proofs.lemmas.List.Elements.{All-contains, All-head, All-weaker}
use Rattle.txn_types.specs.declared.cause.Cause.{Cause}
use Rattle.txn_types.specs.declared.cause.Cause.TheVariants as cause
use Rattle.txn_types.specs.declared.message.Answer.{Answer}
use Rattle.txn_types.specs.declared.message.Envelope.{Envelope}
use Rattle.txn_types.specs.declared.message.Msg.{Msg}
use Rattle.txn_types.specs.declared.message.Msg.TheVariants as msg
use Rattle.txn_types.specs.declared.message.Statement.{Statement}
use Rattle.txn_types.specs.declared.operation.OpReply.{OpReply}
use Rattle.txn_semantics.specs.declared.commits.Answered.{Answered}
use Rattle.txn_semantics.specs.Answers.{ReadsRight, RefusedRight}
use Rattle.chunk_map.specs.Map.{Map, IsMap}
use Rattle.chunk_map.specs.Parts.{part_at}
use Rattle.part_laws.specs.Each.{Among}
use Rattle.part_laws.specs.Sound.{Served}
use Rattle.shard_core.specs.NodeStep.{NodeState}
use Rattle.txn_model.specs.declared.ran.Ran.{Ran}
use Rattle.cluster_core.specs.Answering.{Unanswered, answered_of, meaning_in, refused_as}
use Rattle.cluster_core.specs.Ledger.{fresh_ledger, ledger_behind, answered_in}
use Rattle.cluster_core.specs.Nodes.{Nodes, commits_of}
use Rattle.cluster_core.specs.Trace.{IsTrace}
use Rattle.serving_laws.specs.Telling.{IsToldBy, ToldThere, RefusedThere}
use Rattle.answer_laws.specs.Comes.{IsGiven, as_opened}
use Rattle.answer_laws.specs.Opened.{opened_in}
use Rattle.answer_laws.specs.Parts.{IsPart}
use Rattle.answer_laws.proofs.Running.{all_parts}
use Rattle.told_laws.specs.Places.{IsLater, HasReply}
use Rattle.told_laws.proofs.OneShard.{part_is_whole}
use Rattle.told_laws.proofs.Placed.{all_once, all_behind}
use Rattle.told_laws.proofs.Requests.{all_have_ids}
use Rattle.told_laws.proofs.Running.{all_booked}
use Rattle.told_laws.proofs.Lists.{InOrder, contained}
use Rattle.told_laws.specs.OneShard.{HaveIds}
use Rattle.one_shard_laws.specs.Alone.{IsAlone}
use Rattle.one_shard_laws.specs.Concluding.{StartsAlone, ServedRight}
use Rattle.one_shard_laws.specs.Lasting as la
use Rattle.one_shard_laws.proofs.Concluding.{served_right}
use Rattle.one_shard_laws.proofs.Joint.{runs_alone}
use Rattle.chain_laws.specs.Chained.{WasSent, HasBoot, IsLeftAlone}
use Rattle.chain_laws.specs.Completing.{IsCompleted, completed_in}
use Rattle.chain_laws.proofs.Completed.{run_of, all_completed, HasPart, run_has}
use Rattle.chain_laws.proofs.Linking.{AllAskedBy, Says, IsToldOf}
use Rattle.chain_laws.proofs.Linking.{Links, all_right, refusals_right}
use Rattle.chain_laws.proofs.Owning.{Rising}
use Rattle.chain_laws.proofs.Running.{FirstAlways, ChainsOn, all_chains}
use Rattle.chain_laws.proofs.Sent.{ToShards, run_to, none_to, shard_of_sent, fit_of_sent}
use Rattle.chain_laws.proofs.Standing.{Chained, IsSingle}
use Rattle.chain_laws.proofs.Turning.{IsFirst}

-- What was sent.

alone_first : (m : Msg) → IsAlone m → IsFirst m
alone_first (msg.Answer a) h = h
alone_first other h = tt

one_shard : (chunks : Map) (start : Nodes) → StartsAlone chunks start → chunks.shards ≡ 1
one_shard chunks start h =
    h.fresh.count ∙ ap (λ (shards : List NodeState). length shards) h.shards

pub always_first : (chunks : Map) (start : Nodes) → StartsAlone chunks start → FirstAlways start
always_first chunks start h run trace now t =
    All-weaker (λ (e : Envelope). IsAlone e.msg) (λ (e : Envelope). IsFirst e.msg)
    (λ e. alone_first e.msg) now.sent (runs_alone chunks start run trace now h t).alone

-- What a shard served, in the words of both sides.

rising_of : (served : List Served) → la.InOrder served → Rising served
rising_of [] h = tt
rising_of (x ∷ served) h = (h.0, rising_of served h.1)

asked_of : (sent : List Envelope) (served : List Served) → la.AllAsked sent served
    → AllAskedBy (WasSent sent) served
asked_of sent [] h = tt
asked_of sent (x ∷ served) h =
    let w = h.0 in ((w.1, (w.0, w.2, w.3), w.4, w.5), asked_of sent served h.1)

-- a completed statement has one Answer
one_answer : (u : Unanswered) → IsSingle u → length u.answers ≡ length u.shards
    → (a : Answer) × (u.answers ≡ (0, a) ∷ [])
one_answer u h e = by h.answers
  where
    by : (u.answers ≡ []) ⊎ ((a : Answer) × (u.answers ≡ (0, a) ∷ []))
        → (a : Answer) × (u.answers ≡ (0, a) ∷ [])
    by (inr w) = w
    by (inl none) =
        let zero : length u.answers ≡ 0 = ap (λ (rows : List (ℕ × Answer)). length rows) none in
        let some : 0 < length u.shards = h.some in
        absurd (omega (arith, zero, e, some))

-- what its Answer tells was told of a served statement

record Told (served : List Served) (u : Unanswered) (a : Answer) : Type 0 where
  x : Served
  among : Among x served
  tag : x.tag ≡ u.tag
  life : x.life ≡ a.boot
  read_at : x.read_at ≡ a.read_at
  says : Says x u.k a

-- what a refusal means
err_means : (a : Answer) (why : Cause) → a.outcome ≡ Err why
    → meaning_in (0, a) ≡ refused_as why
err_means a why e = rw e refl

told_refusal : (served : List Served) (u : Unanswered) (a : Answer) (why : Cause)
    → meaning_in (0, a) ≡ refused_as why → a.tag ≡ u.tag → RefusedThere served a why
    → is_some (refused_as why) ≡ true → Told served u a
told_refusal served u a (cause.Statement err) is tag t some = record {
  x = t.0;
  among = t.1;
  tag = t.2 ∙ tag;
  life = t.5;
  read_at = t.3;
  says = inr (err, is, t.4);
}
told_refusal served u a other is tag t some = grind (arith, some)

told_outcome : (served : List Served) (u : Unanswered) (a : Answer)
    (o : Result (OpReply × Bool) Cause) → a.outcome ≡ o → a.tag ≡ u.tag → a.k ≡ u.k
    → ToldThere served a o → is_some (meaning_in (0, a)) ≡ true → Told served u a
told_outcome served u a (Ok done) is tag k t some = record {
  x = t.0;
  among = t.1;
  tag = t.2 ∙ tag;
  life = t.6;
  read_at = t.4;
  says = inl (t.3 ∙ k, (done.0, meant is, t.5));
}
  where
    meant : a.outcome ≡ Ok done → meaning_in (0, a) ≡ Some (Ok (done.0, []))
    meant e = rw e refl
told_outcome served u a (Err why) is tag k t some =
    let e = err_means a why is in
    told_refusal served u a why e tag t (ap is_some (sym e) ∙ some)

told_one : (sent : List Envelope) (begun : List Unanswered) (served : List Served)
    (u : Unanswered) → All (λ (e : Envelope). IsToldBy served e.msg) sent → IsSingle u
    → IsCompleted sent begun u → IsToldOf served u
told_one sent begun served u told single c =
    let one = one_answer u single c.complete in
    let a = one.0 in
    let given : IsGiven sent u (0, a) =
    All-head (IsGiven sent u) (0, a) [] (subst (All (IsGiven sent u)) one.1 c.comes.answers) in
    let says : is_some (meaning_in (0, a)) ≡ true =
    All-head (λ (answer : ℕ × Answer). is_some (meaning_in answer) ≡ true) (0, a) []
    (subst (All (λ (answer : ℕ × Answer). is_some (meaning_in answer) ≡ true)) one.1 c.says) in
    let t = told_outcome served u a a.outcome refl given.tag given.k
    (subst (IsToldBy served) given.msg
    (All-contains (λ (e : Envelope). IsToldBy served e.msg) sent given.envelope told given.sent))
    says in
    record {
      answer = a;
      answers = one.1;
      x = t.x;
      among = t.among;
      tag = t.tag;
      life = t.life;
      read_at = t.read_at;
      says = t.says;
    }

-- The run.

module _ (chunks : Map) (start : Nodes) (run : List Ran) (trace : List Nodes) (now : Nodes)
    (alone : StartsAlone chunks start) (is : IsMap chunks) (h : IsTrace start run trace now) where
  abbrev completed : List Unanswered
  completed = completed_in start.routers run

  abbrev begun : List Unanswered
  begun = opened_in start.routers run

  chains : ChainsOn chunks (ledger_behind (fresh_ledger start.routers) run) completed now
  chains = all_chains chunks start is (one_shard chunks start alone) alone.fresh
      (always_first chunks start alone) run trace now h

  to_shards : ToShards now.sent
  to_shards = run_to start run trace now h (none_to start.sent alone.fresh.sent)

  -- what is known of a statement that was sent
  record Known (m : Statement) : Type 0 where
    chained : Chained completed chains.0 0 m
    part : IsPart chunks begun 0 m

  known : (m : Statement) → WasSent now.sent m → Known m
  known m w =
      let s = shard_of_sent now.sent m to_shards w in
      let c = fit_of_sent (Chained completed chains.0) now.sent m chains.1.sent w s.0 s.1 in
      let p = fit_of_sent (IsPart chunks begun) now.sent m
      (all_parts chunks start run trace now alone.fresh h) w s.0 s.1 in
      record {
        chained = subst (λ (n : ℕ). Chained completed chains.0 n m) c.first c;
        part = subst (λ (n : ℕ). IsPart chunks begun n m) c.first p;
      }

  pub boots_of_sent : (m : Statement) → WasSent now.sent m → HasBoot completed m
  boots_of_sent m w = (known m w).chained.boot

  pub alike : (m n : Statement) → WasSent now.sent m → WasSent now.sent n → m.tag ≡ n.tag
      → m.read_at ≡ n.read_at
  alike m n v w same = chains.1.once (m.tag, m.read_at) (n.tag, n.read_at)
      (known m v).chained.named (known n w).chained.named same

  pub left_alone : (m : Statement) → WasSent now.sent m → IsLeftAlone m
  left_alone m w = (known m w).chained.left

  completed_is : (u : Unanswered) → Contains completed u → IsCompleted now.sent begun u
  completed_is u c = All-contains (IsCompleted now.sent begun) completed u
      (all_completed start run trace now h) c

  answered_are : answered_in start.routers run ≡ map answered_of completed
  answered_are = run_of (fresh_ledger start.routers) run

  once : (u v : Unanswered) → Contains begun u → Contains begun v → u.tag ≡ v.tag → u.k ≡ v.k
      → u ≡ v
  once = all_once chunks start run trace now alone.fresh h

  same_op : (m n : Statement) → WasSent now.sent m → WasSent now.sent n → m.tag ≡ n.tag
      → m.k ≡ n.k → m.op ≡ n.op
  same_op m n v w tag k =
      let a = (known m v).part in
      let b = (known n w).part in
      let same = once a.statement b.statement a.opened b.opened (sym a.tag ∙ tag ∙ b.tag)
      (sym a.k ∙ k ∙ b.k) in
      a.op ∙ ap (λ (u : Unanswered). part_at chunks u.op 0) same ∙ sym b.op

  whole_op : (u : Unanswered) → Contains completed u → (m : Statement) → WasSent now.sent m
      → m.tag ≡ u.tag → m.k ≡ u.k → m.op ≡ u.op
  whole_op u c m w tag k =
      let p = (known m w).part in
      let same = once p.statement (as_opened u) p.opened (completed_is u c).comes.opened
      (sym p.tag ∙ tag) (sym p.k ∙ k) in
      p.op ∙ part_is_whole chunks p.statement.op is (one_shard chunks start alone)
      (All-contains (λ (v : Unanswered). HaveIds v.op) begun p.statement
      (all_have_ids (fresh_ledger start.routers) run) p.opened)
      ∙ ap (λ (v : Unanswered). v.op) same

  links : (sr : ServedRight now)
      → Links (commits_of now) sr.served completed begun (WasSent now.sent)
  links sr = record {
    known = sr.known;
    reads = sr.reads;
    rises = rising_of sr.served sr.rises;
    lives = sr.lives;
    asked = asked_of now.sent sr.served sr.asked;
    told = contained (IsToldOf sr.served) completed (λ u c.
        told_one now.sent begun sr.served u sr.told
        (All-contains IsSingle completed u chains.1.complete c) (completed_is u c));
    boots = boots_of_sent;
    alike = alike;
    left = left_alone;
    opened = λ m w.
        let p = (known m w).part in (p.statement, p.opened, sym p.tag, sym p.k);
    sent = λ u c. All-contains (HasPart now.sent) begun u
        (run_has start run trace now (fresh_ledger start.routers) h) c;
    ops = same_op;
    whole = whole_op;
    of = λ u c. (completed_is u c).comes.opened;
    behind = λ u v p q tag less. subst (λ (as_told : List Answered). HasReply as_told u)
        answered_are (all_behind chunks start run trace now alone.fresh h u v p q tag less);
    later = subst (InOrder IsLater) answered_are
        (all_booked chunks start run trace now alone.fresh h).book.lists.later;
  }

  served : ServedRight now
  served = served_right now (runs_alone chunks start run trace now alone h)

  pub reads_right : ReadsRight (commits_of now) (answered_in start.routers run)
  reads_right = subst (ReadsRight (commits_of now)) (sym answered_are)
      (all_right (commits_of now) served.served completed begun (WasSent now.sent) (links served))

  pub refused_right : RefusedRight (commits_of now) (answered_in start.routers run)
  refused_right = subst (RefusedRight (commits_of now)) (sym answered_are)
      (refusals_right (commits_of now) served.served completed begun (WasSent now.sent)
      (links served))
