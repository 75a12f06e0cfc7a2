-- What stands of all routers and of all that was sent stands after each run of one shard.
use Rattle.std.proofs.Common.{◌≡◌, ◌⊎◌, inl, inr, ◌++◌, ℕ, Bool, true, false, All, List, []}
use Rattle.std.proofs.Common.{◌∷◌, Option, Some, refl, sym, ap, subst, ◌∙◌, arith}
use Rattle.std.specs.Prelude.{Contains, slice_get, slice_set}
use Rattle.std.proofs.lemmas.List.{append-nil, append_assoc}
use Rattle.std.proofs.lemmas.List.Elements.{All-nil, All-contains}
use Rattle.txn_types.specs.Letters.{given_out}
use Rattle.txn_types.specs.declared.event.NodeAnswer.{NodeAnswer}
use Rattle.txn_types.specs.declared.event.NodeEvent.{NodeEvent}
use Rattle.txn_types.specs.declared.message.Envelope.{Envelope}
use Rattle.txn_types.specs.declared.node.NodeId.TheVariants.{Shard, Router}
use Rattle.txn_semantics.specs.declared.commits.Answered.{Answered}
use Rattle.chunk_map.specs.Map.{Map, IsMap}
use Rattle.router_state.specs.State.{RouterState, fresh_router}
use Rattle.router_core.specs.Step as sp
use Rattle.txn_model.specs.declared.ran.Ran.{Ran}
use Rattle.txn_model.specs.declared.ran.Ran.TheVariants.{Step, Swapped}
use Rattle.cluster_core.specs.Answering.{Unanswered, opened}
use Rattle.cluster_core.specs.Ledger.{Ledger, fresh_ledger, ledger_behind, answered_from, entered}
use Rattle.cluster_core.specs.Ledger.{entered_by, answered_in}
use Rattle.cluster_core.specs.Nodes.{Nodes}
use Rattle.cluster_core.specs.Routers.{request_at}
use Rattle.cluster_core.specs.Trace.{Happens, IsTrace, IsFresh, MayCome, RouterSteps, again}
use Rattle.answer_laws.specs.Opened.{opened_at, opened_by, opened_from, opened_in}
use Rattle.answer_laws.proofs.Lists.{set_same}
use Rattle.answer_laws.proofs.Shards.{E, takes_gives}
use Rattle.told_laws.proofs.Lists.{set_cases}
use Rattle.told_laws.proofs.Standing.{BookStands}
use Rattle.told_laws.proofs.Running.{Booked, all_booked, memory_state}
use Rattle.commit_laws.specs.Speaking.{Gave, MsgFollows}
use Rattle.commit_laws.proofs.Follows.{IsNoAsk}
use Rattle.commit_laws.proofs.Standing.{RouterStand, Stand, IsOld, quiet_stand, started_stands}
use Rattle.commit_laws.proofs.Going.{step_stands}

-- Runs that go on by one event.

ledger_on : (l : Ledger) (run : List Ran) (ran : Ran)
    → ledger_behind l (run ++ ran ∷ []) ≡ (entered_by (ledger_behind l run) ran).ledger
ledger_on l [] ran = refl
ledger_on l (first ∷ run) ran = ledger_on (entered_by l first).ledger run ran

opened_on : (l : Ledger) (run : List Ran) (ran : Ran)
    → opened_from l (run ++ ran ∷ []) ≡ opened_from l run ++ opened_by (ledger_behind l run) ran
opened_on l [] ran = append-nil (opened_by l ran)
opened_on l (first ∷ run) ran =
    ap (λ (more : List Unanswered). opened_by l first ++ more)
    (opened_on (entered_by l first).ledger run ran)
    ∙ sym (append_assoc (opened_by l first) (opened_from (entered_by l first).ledger run)
    (opened_by (ledger_behind (entered_by l first).ledger run) ran))

answered_on : (l : Ledger) (run : List Ran) (ran : Ran)
    → answered_from l (run ++ ran ∷ [])
    ≡ answered_from l run ++ (entered_by (ledger_behind l run) ran).answered
answered_on l [] ran = append-nil (entered_by l ran).answered
answered_on l (first ∷ run) ran =
    ap (λ (more : List Answered). (entered_by l first).answered ++ more)
    (answered_on (entered_by l first).ledger run ran)
    ∙ sym (append_assoc (entered_by l first).answered
    (answered_from (entered_by l first).ledger run)
    (entered_by (ledger_behind (entered_by l first).ledger run) ran).answered)

trace_on : (start : Nodes) (run : List Ran) (trace : List Nodes) (old : Nodes) (ran : Ran)
    (new : Nodes) → IsTrace start run trace old → Happens old ran new
    → IsTrace start (run ++ ran ∷ []) (trace ++ old ∷ []) new
trace_on start [] [] old ran new h k =
    (h, (new, subst (λ (x : Nodes). Happens x ran new) h k, refl))
trace_on start [] (nodes ∷ trace) old ran new h k = absurd h
trace_on start (first ∷ run) [] old ran new h k = absurd h
trace_on start (first ∷ run) (nodes ∷ trace) old ran new h k =
    (h.0, (h.1.0, h.1.1, trace_on h.1.0 run trace old ran new h.1.2 k))

-- An event.

shard_none : (out : List Envelope) → All E out → (x : Envelope) → Contains out x → IsNoAsk x.msg
shard_none out h x c = All-contains E out x h c

empty_none : (x : Envelope) → Contains [] x → IsNoAsk x.msg
empty_none x c = absurd (omega (arith, c.1))

same_routers : (chunks : Map) (old new : Nodes) → new.routers ≡ old.routers → (n : ℕ)
    (r : RouterState) → slice_get new.routers n ≡ Some r → IsOld chunks old n r
same_routers chunks old new e n r at =
    inl (sym (ap (λ (rs : List RouterState). slice_get rs n) e) ∙ at)

module _ (chunks : Map) (is : IsMap chunks) (one : chunks.shards ≡ 1) where
  -- a router's step, after which these places stand
  router_case : (l : Ledger) (begun left : List Unanswered) (told : List Answered)
      (old new : Nodes) (n : ℕ) (r : RouterState) (e : NodeEvent) (want : Bool)
      → slice_get old.routers n ≡ Some r → MayCome old.sent (Router n) e.what
      → new.routers ≡ slice_set old.routers n (sp.router_step want r e).state
      → new.sent ≡ old.sent ++ given_out (sp.answer_of want (sp.router_step want r e))
      → BookStands old.routers begun l.unanswered told
      → BookStands new.routers
      (begun ++ opened n (request_at r e (sp.answer_of want (sp.router_step want r e)))
      (sp.answer_of want (sp.router_step want r e))) left
      (told ++ (entered l n (Some r) e (sp.answer_of want (sp.router_step want r e))).answered)
      → Stand chunks old begun told
      → Stand chunks new
      (begun ++ opened n (request_at r e (sp.answer_of want (sp.router_step want r e)))
      (sp.answer_of want (sp.router_step want r e)))
      (told ++ (entered l n (Some r) e (sp.answer_of want (sp.router_step want r e))).answered)
  router_case l begun left told old new n r e true there comes rs sent book after k =
      quiet_stand chunks old new [] begun told sent empty_none
      (same_routers chunks old new (rs ∙ ap (slice_set old.routers n) (memory_state r e)
      ∙ set_same old.routers n r there)) k
  router_case l begun left told old new n r e false there comes rs sent book after k =
      step_stands chunks old new n r e begun l.unanswered left told is one
      (record {
        there = there;
        comes = comes;
        routers = rs;
        sent = sent;
        book = book;
        after = after;
        stand = k;
      })

  router_stands : (l : Ledger) (begun : List Unanswered) (told : List Answered) (old : Nodes)
      (n : ℕ) (e : NodeEvent) (a : NodeAnswer) (faults : ℕ) (new : Nodes)
      → RouterSteps old n e a faults new → Booked l begun told old
      → Booked (entered l n (slice_get l.routers n) e a).ledger
      (begun ++ opened_at n (slice_get l.routers n) e a)
      (told ++ (entered l n (slice_get l.routers n) e a).answered) new
      → Stand chunks old begun told
      → Stand chunks new (begun ++ opened_at n (slice_get l.routers n) e a)
      (told ++ (entered l n (slice_get l.routers n) e a).answered)
  router_stands l begun told old n e a faults new h before after k =
      let there : slice_get l.routers n ≡ Some h.before =
      ap (λ (xs : List RouterState). slice_get xs n) before.same ∙ h.there in
      let book = subst (λ (rs : List RouterState). BookStands rs begun l.unanswered told)
      before.same before.book in
      let left = (entered l n (slice_get l.routers n) e a).ledger.unanswered in
      let a1 = subst (λ (rs : List RouterState). BookStands rs
      (begun ++ opened_at n (slice_get l.routers n) e a) left
      (told ++ (entered l n (slice_get l.routers n) e a).answered)) after.same after.book in
      let a2 = subst (λ (o : Option RouterState). BookStands new.routers
      (begun ++ opened_at n o e a) left (told ++ (entered l n o e a).answered)) there a1 in
      let a3 = subst (λ (b : NodeAnswer). BookStands new.routers
      (begun ++ opened n (request_at h.before e b) b) left
      (told ++ (entered l n (Some h.before) e b).answered)) h.takes.1 a2 in
      let rs : new.routers ≡ slice_set old.routers n (sp.router_step h.takes.0 h.before e).state =
      ap (λ (w : Nodes). w.routers) h.nodes ∙ ap (slice_set old.routers n) h.takes.2 in
      let sent : new.sent ≡ old.sent
      ++ given_out (sp.answer_of h.takes.0 (sp.router_step h.takes.0 h.before e)) =
      ap (λ (w : Nodes). w.sent) h.nodes
      ∙ ap (λ (b : NodeAnswer). old.sent ++ given_out b) h.takes.1 in
      let s3 = router_case l begun left told old new n h.before e h.takes.0 h.there h.comes rs sent
      book a3 k in
      subst (λ (o : Option RouterState). Stand chunks new (begun ++ opened_at n o e a)
      (told ++ (entered l n o e a).answered)) (sym there)
      (subst (λ (b : NodeAnswer). Stand chunks new
      (begun ++ opened n (request_at h.before e b) b)
      (told ++ (entered l n (Some h.before) e b).answered)) (sym h.takes.1) s3)

  step_case : (l : Ledger) (begun : List Unanswered) (told : List Answered) (old : Nodes)
      (ran : Ran) (new : Nodes) → Happens old ran new → Booked l begun told old
      → Booked (entered_by l ran).ledger (begun ++ opened_by l ran)
      (told ++ (entered_by l ran).answered) new → Stand chunks old begun told
      → Stand chunks new (begun ++ opened_by l ran) (told ++ (entered_by l ran).answered)
  unfolding entered_by
  step_case l begun told old (Step (Router n) e a faults) new h before after k =
      router_stands l begun told old n e a faults new h before after k
  step_case l begun told old (Step (Shard n) e a faults) new h before after k =
      quiet_stand chunks old new (given_out a) begun told (ap (λ (w : Nodes). w.sent) h.nodes)
      (shard_none (given_out a) (takes_gives h.before e a h.after h.takes))
      (same_routers chunks old new (ap (λ (w : Nodes). w.routers) h.nodes)) k
  step_case l begun told old (Swapped (Shard n)) new h before after k =
      quiet_stand chunks old new [] begun told
      (ap (λ (w : Nodes). w.sent) h.nodes ∙ sym (append-nil old.sent)) empty_none
      (same_routers chunks old new (ap (λ (w : Nodes). w.routers) h.nodes)) k
  step_case l begun told old (Swapped (Router n)) new h before after k =
      quiet_stand chunks old new [] begun told
      (ap (λ (w : Nodes). w.sent) h.nodes ∙ sym (append-nil old.sent)) empty_none
      (λ m x at. by m x (set_cases old.routers n m (again n h.before) x
      (ap (λ (rs : List RouterState). slice_get rs m)
      (sym (ap (λ (w : Nodes). w.routers) h.nodes)) ∙ at))) k
    where
      by : (m : ℕ) (x : RouterState) → ((m ≡ n) × (x ≡ again n h.before))
          ⊎ ((m ≡ n → ⊥) × (slice_get old.routers m ≡ Some x)) → IsOld chunks old m x
      by m x (inl w) = inr (
        ap (λ (y : RouterState). y.sessions) w.1,
        ap (λ (y : RouterState). y.chunks) w.1 ∙ (k.routers n h.before h.there).chunks_are,
      )
      by m x (inr w) = inl w.1

  -- Runs.

  module _ (start : Nodes) (fresh : IsFresh chunks start) where
    -- after a run
    pub record Reached (run : List Ran) (nodes : Nodes) : Type 0 where
      pub trace : List Nodes
      pub is_trace : IsTrace start run trace nodes
      pub stand : Stand chunks nodes (opened_from (fresh_ledger start.routers) run)
          (answered_from (fresh_ledger start.routers) run)

    reached_on : (run : List Ran) (old : Nodes) (ran : Ran) (new : Nodes) → Reached run old
        → Happens old ran new → Reached (run ++ ran ∷ []) new
    reached_on run old ran new h k =
        let l = fresh_ledger start.routers in
        let trace = h.trace ++ old ∷ [] in
        let is_trace = trace_on start run h.trace old ran new h.is_trace k in
        let before = all_booked chunks start run h.trace old fresh h.is_trace in
        let after = all_booked chunks start (run ++ ran ∷ []) trace new fresh is_trace in
        let b1 = subst (λ (x : Ledger). Booked x (opened_from l (run ++ ran ∷ []))
        (answered_from l (run ++ ran ∷ [])) new) (ledger_on l run ran) after in
        let b2 = subst (λ (os : List Unanswered). Booked
        (entered_by (ledger_behind l run) ran).ledger os (answered_from l (run ++ ran ∷ [])) new)
        (opened_on l run ran) b1 in
        let b3 = subst (λ (ones : List Answered). Booked
        (entered_by (ledger_behind l run) ran).ledger
        (opened_from l run ++ opened_by (ledger_behind l run) ran) ones new)
        (answered_on l run ran) b2 in
        let s = step_case (ledger_behind l run) (opened_from l run) (answered_from l run) old ran
        new k before b3 h.stand in
        record {
          trace = trace;
          is_trace = is_trace;
          stand = subst (λ (os : List Unanswered). Stand chunks new os
              (answered_from l (run ++ ran ∷ []))) (sym (opened_on l run ran))
              (subst (λ (ones : List Answered). Stand chunks new
              (opened_from l run ++ opened_by (ledger_behind l run) ran) ones)
              (sym (answered_on l run ran)) s);
        }

    run_reached : (run more : List Ran) (old : Nodes) (trace : List Nodes) (new : Nodes)
        → Reached run old → IsTrace old more trace new → Reached (run ++ more) new
    run_reached run [] old [] new h k =
        subst (λ (x : Nodes). Reached (run ++ []) x) (sym k)
        (subst (λ (rs : List Ran). Reached rs old) (sym (append-nil run)) h)
    run_reached run [] old (nodes ∷ trace) new h k = absurd k
    run_reached run (ran ∷ more) old [] new h k = absurd k
    run_reached run (ran ∷ more) old (nodes ∷ trace) new h k =
        subst (λ (rs : List Ran). Reached rs new) (append_assoc run (ran ∷ []) more)
        (run_reached (run ++ ran ∷ []) more k.1.0 trace new
        (reached_on run old ran k.1.0 h k.1.1) k.1.2)

    fresh_reached : Reached [] start
    fresh_reached = record {
      trace = [];
      is_trace = refl;
      stand = record {
        routers = λ n r at.
            let b = fresh.routers n r at in
            subst (RouterStand chunks start.sent []) (sym b.1)
            (started_stands chunks start.sent [] (fresh_router n b.0 chunks) refl refl);
        sent = subst (λ (s : List Envelope).
            All (λ (x : Envelope). MsgFollows (Gave s []) [] [] x.to x.msg) s) (sym fresh.sent)
            (All-nil (λ (x : Envelope). MsgFollows (Gave [] []) [] [] x.to x.msg));
        places = λ v c. absurd (omega (arith, c.1));
      };
    }

    pub all_stand : (run : List Ran) (trace : List Nodes) (now : Nodes)
        → IsTrace start run trace now
        → Stand chunks now (opened_in start.routers run) (answered_in start.routers run)
    all_stand run trace now h = (run_reached [] run start trace now fresh_reached h).stand
