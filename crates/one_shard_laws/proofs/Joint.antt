-- Each event keeps what holds of a cluster of one shard, and it holds at its first start.
use Rattle.std.proofs.Common.{◌≡◌, ◌<◌, ◌^◌, ◌++◌, ℕ, zero, suc, List, [], ◌∷◌, All}
use Rattle.std.proofs.Common.{Some, None, refl, ap, subst, ◌∙◌, sym, arith, slice_get}
use Rattle.std.proofs.Common.{slice_set}
use Rattle.std.proofs.lemmas.List.Elements.{All-nil, All-append, All-weaker, All-contains}
use Rattle.txn_types.specs.declared.event.Happening.{Happening}
use Rattle.txn_types.specs.declared.event.Happening.TheVariants as what
use Rattle.txn_types.specs.declared.event.NodeAnswer.{NodeAnswer}
use Rattle.txn_types.specs.declared.event.NodeEvent.{NodeEvent}
use Rattle.txn_types.specs.declared.message.Envelope.{Envelope}
use Rattle.txn_types.specs.declared.message.Msg.{Msg}
use Rattle.txn_types.specs.declared.message.Msg.TheVariants as msg
use Rattle.txn_types.specs.declared.node.NodeId.{NodeId}
use Rattle.txn_types.specs.declared.node.NodeId.TheVariants.{Shard, Router}
use Rattle.part_laws.specs.Sound.{Served}
use Rattle.shard_core.specs.Core.{Room, core_step}
use Rattle.shard_core.specs.Laws.{HasTimes, KeepsTime}
use Rattle.shard_core.specs.NodeStep.{NodeState, started}
use Rattle.shard_core.proofs.Stepping.{step_keeps}
use Rattle.durable_laws.specs.Backed.{IsDurableNode}
use Rattle.durable_laws.proofs.Nodes.{node_takes, node_starts, node_again}
use Rattle.txn_types.specs.declared.node.Lsid.{Lsid}
use Rattle.chunk_map.specs.Map.{Map}
use Rattle.router_state.specs.declared.state.Session.{Session}
use Rattle.router_state.specs.State.{RouterState}
use Rattle.router_core.specs.Step.{RouterTakes}
use Rattle.txn_model.specs.declared.ran.Ran.{Ran}
use Rattle.txn_model.specs.declared.ran.Ran.TheVariants.{Step, Swapped}
use Rattle.txn_types.specs.Letters.{given_out}
use Rattle.cluster_core.specs.Nodes.{Nodes}
use Rattle.cluster_core.specs.Trace.{MayCome, ShardSteps, ShardStarts, Happens, IsTrace, IsFresh}
use Rattle.cluster_core.specs.Trace.{again}
use Rattle.world_laws.specs.Joint.{Stands, DiskStands}
use Rattle.world_laws.proofs.Joint.{stands_step, stands_fresh, new_disk}
use Rattle.serving_laws.specs.Telling.{IsToldBy}
use Rattle.one_shard_laws.specs.Sessions.{IsOnce}
use Rattle.one_shard_laws.specs.Alone.{IsAlone, EventAlone, IsAskedAlone}
use Rattle.one_shard_laws.specs.Asking.{DoingAsks, RouterAsks}
use Rattle.one_shard_laws.proofs.Asking.{router_asks}
use Rattle.one_shard_laws.specs.Lasting.{WasNamed, IsRight, OneShard}
use Rattle.one_shard_laws.specs.Concluding.{StartsAlone}
use Rattle.one_shard_laws.proofs.Growing.{WasSent}
use Rattle.one_shard_laws.proofs.Nodes.{AllTold, right_more, takes_right, again_right, first_right}

abbrev Alone : Envelope → Type 0
Alone e = IsAlone e.msg

abbrev Asked : Envelope → Type 0
Asked e = IsAskedAlone e.msg

-- the one shard is the first
only : {A : Type 0} (x y : A) (n : ℕ) → slice_get (x ∷ []) n ≡ Some y → (n ≡ 0) × (y ≡ x)
only x y zero is = let one : y ≡ x = grind (arith, is) in (refl, one)
only x y (suc n) is = let wrong : None ≡ Some y = is in cc

comes_alone : (sent : List Envelope) (node : NodeId) (w : Happening) → All Alone sent
    → MayCome sent node w → EventAlone w
comes_alone sent node (what.Deliver e) all h = All-contains Alone sent e all h.0
comes_alone sent node (what.Client conn frame) all h = tt
comes_alone sent node (what.Gone conn) all h = tt
comes_alone sent node what.Resend all h = tt
comes_alone sent node what.Moment all h = tt

comes_sent : (sent : List Envelope) (node : NodeId) (w : Happening) → MayCome sent node w
    → WasSent sent w
comes_sent sent node (what.Deliver e) h = h.0
comes_sent sent node (what.Client conn frame) h = tt
comes_sent sent node (what.Gone conn) h = tt
comes_sent sent node what.Resend h = tt
comes_sent sent node what.Moment h = tt

-- A router.

asked_is_alone : (m : Msg) → IsAskedAlone m → IsAlone m
asked_is_alone (msg.Statement m) h = tt
asked_is_alone (msg.Answer m) h = absurd h
asked_is_alone (msg.Commit m) h = tt
asked_is_alone (msg.Outcome m) h = tt
asked_is_alone (msg.Abort m) h = tt
asked_is_alone (msg.CommitTwo m) h = h
asked_is_alone (msg.Prepare m) h = h
asked_is_alone (msg.Vote m) h = h
asked_is_alone (msg.Decide m) h = h
asked_is_alone (msg.Acked m) h = h
asked_is_alone (msg.Recover m) h = tt
asked_is_alone msg.Nudge h = tt

asked_tells : (served : List Served) (m : Msg) → IsAskedAlone m → IsToldBy served m
asked_tells served (msg.Answer a) h = absurd h
asked_tells served other h = tt

abbrev EachAsks : List RouterState → Type 0
EachAsks routers = (number : ℕ) (r : RouterState) → slice_get routers number ≡ Some r → RouterAsks r

one_set : (routers : List RouterState) (n : ℕ) (after : RouterState) → EachAsks routers
    → RouterAsks after → EachAsks (slice_set routers n after)
one_set [] n after h this number r is = h number r is
one_set (x ∷ routers) zero after h this zero r is = let one : after ≡ r = grind (arith, is) in
    subst RouterAsks one this
one_set (x ∷ routers) zero after h this (suc number) r is = h (suc number) r is
one_set (x ∷ routers) (suc n) after h this zero r is = h zero r is
one_set (x ∷ routers) (suc n) after h this (suc number) r is =
    one_set routers n after (λ i y there. h (suc i) y there) this number r is

takes_asks : (old : RouterState) (e : NodeEvent) (a : NodeAnswer) (new : RouterState)
    → RouterTakes old e a new → EventAlone e.what → RouterAsks old
    → RouterAsks new × All Asked (given_out a)
takes_asks old e a new h alone k =
    let s = router_asks h.0 old e alone k in (
      subst RouterAsks (sym h.2) s.0,
      subst (λ (x : NodeAnswer). All Asked (given_out x)) (sym h.1) s.1,
    )

router_does : (nodes : Nodes) (routers : List RouterState) (out : List Envelope) → EachAsks routers
    → All Asked out → OneShard nodes
    → OneShard (record { shards = nodes.shards; routers = routers; sent = nodes.sent ++ out })
router_does nodes routers out asks all h =
    let told : AllTold out = λ served. All-weaker Asked (λ (e : Envelope).
    IsToldBy served e.msg) (λ e k. asked_tells served e.msg k) out all in
    record {
      node = h.node;
      shards = h.shards;
      routers = asks;
      alone = All-append Alone nodes.sent out h.alone (All-weaker Asked Alone
          (λ e k. asked_is_alone e.msg k) out all);
      durable = h.durable;
      right = right_more nodes.sent out h.node.core h.node.records h.node.hand told h.right;
    }

router_again : (nodes : Nodes) (routers : List RouterState) → EachAsks routers → OneShard nodes
    → OneShard (record { shards = nodes.shards; routers = routers; sent = nodes.sent })
router_again nodes routers asks h = record {
  node = h.node;
  shards = h.shards;
  routers = asks;
  alone = h.alone;
  durable = h.durable;
  right = h.right;
}

-- The shard.

module _ (old : Nodes) (s : Stands old) (h : OneShard old) where
  once : IsOnce (WasNamed old.sent)
  once = s.tags.one_begin

  -- where the shard of this number is this node, it is the one shard
  there_is : (n : ℕ) (before : NodeState) → slice_get old.shards n ≡ Some before
      → (n ≡ 0) × (before ≡ h.node)
  there_is n before is = only h.node before n
      (subst (λ (shards : List NodeState). slice_get shards n ≡ Some before) h.shards is)

  time_of : (number : ℕ) (node : NodeState) → slice_get old.shards number ≡ Some node
      → (room : Room) (e : NodeEvent) → e.wall < 2 ^ 32 → HasTimes e.what → node.core.stopped ≡ None
      → KeepsTime node.core (core_step room node.core e)
  time_of number node there room e wall times running = let c = s.clocks number node there in
      step_keeps room node.core e (c.clock running) c.wall wall times

  shard_steps : (n : ℕ) (e : NodeEvent) (a : NodeAnswer) (faults : ℕ) (new : Nodes)
      → ShardSteps old n e a faults new → OneShard new
  shard_steps n e a faults new k =
      let at = there_is n k.before k.there in
      let before : IsRight old.sent k.before.core k.before.records k.before.hand =
      subst (λ (x : NodeState). IsRight old.sent x.core x.records x.hand) (sym at.1) h.right in
      let durable : IsDurableNode k.before = subst IsDurableNode (sym at.1) h.durable in
      let own : k.before.core.part.shard ≡ 0 = (s.reads.shards n k.before k.there).own ∙ at.0 in
      let done = takes_right old.sent once k.before own e a k.after k.takes durable (λ running.
      time_of n k.before k.there k.takes.0 e k.wall k.times running)
      (comes_alone old.sent (Shard n) e.what h.alone k.comes) (comes_sent old.sent (Shard n) e.what
      k.comes) before in
      let shards : slice_set old.shards n k.after ≡ k.after ∷ [] =
      ap (λ (xs : List NodeState). slice_set xs n k.after) h.shards
      ∙ ap (λ (i : ℕ). slice_set (h.node ∷ []) i k.after) at.0 in
      subst OneShard (sym k.nodes)
      (record {
        node = k.after;
        shards = shards;
        routers = h.routers;
        alone = All-append Alone old.sent (given_out a) h.alone done.1;
        durable = node_takes k.before e a k.after k.takes durable;
        right = done.0;
      })

  shard_starts : (n : ℕ) (new : Nodes) → ShardStarts old n new → OneShard new
  shard_starts n new k =
      let at = there_is n k.before k.there in
      let before : IsRight old.sent k.before.core k.before.records k.before.hand =
      subst (λ (x : NodeState). IsRight old.sent x.core x.records x.hand) (sym at.1) h.right in
      let durable : IsDurableNode k.before = subst IsDurableNode (sym at.1) h.durable in
      let starts : started 0 k.recs k.faults ≡ Some k.after =
      subst (λ (i : ℕ). started i k.recs k.faults ≡ Some k.after) at.0 k.starts in
      let shards : slice_set old.shards n k.after ≡ k.after ∷ [] =
      ap (λ (xs : List NodeState). slice_set xs n k.after) h.shards
      ∙ ap (λ (i : ℕ). slice_set (h.node ∷ []) i k.after) at.0 in
      subst OneShard (sym k.nodes)
      (record {
        node = k.after;
        shards = shards;
        routers = h.routers;
        alone = h.alone;
        durable = (node_again k.before k.recs 0 k.faults k.after durable k.remain starts).0;
        right =
            again_right old.sent k.before k.recs k.faults k.after durable before k.remain starts;
      })

  pub one_shard_step : (ran : Ran) (new : Nodes) → Happens old ran new → OneShard new
  one_shard_step (Step (Shard n) e a faults) new k = shard_steps n e a faults new k
  one_shard_step (Step (Router n) e a faults) new k =
      let t = takes_asks k.before e a k.after k.takes (comes_alone old.sent (Router n) e.what
      h.alone k.comes) (h.routers n k.before k.there) in
      subst OneShard (sym k.nodes) (router_does old (slice_set old.routers n k.after) (given_out a)
      (one_set old.routers n k.after h.routers t.0) t.1 h)
  one_shard_step (Swapped (Shard n)) new k = shard_starts n new k
  one_shard_step (Swapped (Router n)) new k =
      subst OneShard (sym k.nodes)
      (router_again old (slice_set old.routers n (again n k.before)) (one_set old.routers n (again n
      k.before) h.routers (All-nil (λ (entry : Lsid × Session). DoingAsks entry.1.doing))) h)

-- A first start.

pub one_shard_first : (chunks : Map) (nodes : Nodes) (faults : ℕ) (n : NodeState)
    → IsFresh chunks nodes → nodes.shards ≡ n ∷ [] → started 0 [] faults ≡ Some n → OneShard nodes
one_shard_first chunks nodes faults n fresh shards starts =
    record {
      node = n;
      shards = shards;
      routers = λ number r is. subst RouterAsks (sym (fresh.routers number r is).1)
          (All-nil (λ (entry : Lsid × Session). DoingAsks entry.1.doing));
      alone = subst (All Alone) (sym fresh.sent) (All-nil Alone);
      durable = node_starts 0 [] faults n tt starts;
      right = subst (λ (x : List Envelope). IsRight x n.core n.records n.hand) (sym fresh.sent)
          (first_right faults n starts);
    }

-- A run.

stands_alone : (chunks : Map) (nodes : Nodes) → StartsAlone chunks nodes → Stands nodes
stands_alone chunks nodes h =
    stands_fresh chunks nodes h.fresh
    (λ number n is.
    let one = only h.node n number
    (subst (λ (shards : List NodeState). slice_get shards number ≡ Some n) h.shards is) in
    subst (λ (x : NodeState). DiskStands nodes x.records) (sym one.1)
    (new_disk nodes 0 h.faults h.node h.starts))

pub one_shard_run : (old : Nodes) (run : List Ran) (trace : List Nodes) (new : Nodes)
    → IsTrace old run trace new → Stands old → OneShard old → OneShard new
one_shard_run old [] [] new h s o = subst OneShard (sym h) o
one_shard_run old [] (nodes ∷ trace) new h s o = absurd h
one_shard_run old (ran ∷ run) [] new h s o = absurd h
one_shard_run old (ran ∷ run) (nodes ∷ trace) new h s o =
    one_shard_run h.1.0 run trace new h.1.2 (stands_step old ran h.1.0 h.1.1 s)
    (one_shard_step old s o ran h.1.0 h.1.1)

pub runs_alone : (chunks : Map) (start : Nodes) (run : List Ran) (trace : List Nodes) (now : Nodes)
    → StartsAlone chunks start → IsTrace start run trace now → OneShard now
runs_alone chunks start run trace now h is =
    one_shard_run start run trace now is (stands_alone chunks start h)
    (one_shard_first chunks start h.faults h.node h.fresh h.shards h.starts)
