-- After each run of one shard all requests to commit one transaction name one boot.
use Rattle.std.proofs.Common.{◌≡◌, inl, inr, ◌++◌, ℕ, Bool, true, false, List}
use Rattle.std.proofs.Common.{[], ◌∷◌, Some, None, refl, sym, ap, subst, ◌∙◌, arith}
use Rattle.std.specs.Prelude.{Contains, slice_get, slice_set}
use Rattle.std.proofs.lemmas.List.{append-nil}
use Rattle.std.proofs.lemmas.List.Elements.{All-contains, Contains-append_cases}
use Rattle.txn_types.specs.Letters.{given_out}
use Rattle.txn_types.specs.declared.event.NodeAnswer.{NodeAnswer}
use Rattle.txn_types.specs.declared.event.NodeEvent.{NodeEvent}
use Rattle.txn_types.specs.declared.message.Commit.{Commit}
use Rattle.txn_types.specs.declared.message.Envelope.{Envelope}
use Rattle.txn_types.specs.declared.names.Tag.{Tag}
use Rattle.txn_types.specs.declared.node.NodeId.TheVariants.{Shard, Router}
use Rattle.txn_semantics.specs.declared.commits.Answered.{Answered}
use Rattle.chunk_map.specs.Map.{Map, IsMap}
use Rattle.router_state.specs.State.{RouterState}
use Rattle.router_core.specs.Step as sp
use Rattle.txn_model.specs.declared.ran.Ran.{Ran}
use Rattle.txn_model.specs.declared.ran.Ran.TheVariants.{Step, Swapped}
use Rattle.cluster_core.specs.Answering.{Unanswered}
use Rattle.cluster_core.specs.Nodes.{Nodes}
use Rattle.cluster_core.specs.Trace.{Happens, IsTrace, RouterSteps, again}
use Rattle.cluster_core.specs.Ledger.{answered_in, fresh_ledger, ledger_behind}
use Rattle.answer_laws.specs.Opened.{opened_in}
use Rattle.answer_laws.proofs.Lists.{set_same}
use Rattle.answer_laws.proofs.Shards.{takes_gives, E}
use Rattle.told_laws.proofs.Lists.{none_there, set_cases}
use Rattle.told_laws.proofs.Running.{all_booked}
use Rattle.told_laws.proofs.Standing.{RouterStands, DoingStands}
use Rattle.one_shard_laws.specs.Concluding.{StartsAlone}
use Rattle.commit_laws.proofs.Running.{all_stand}
use Rattle.commit_laws.proofs.Standing.{Stand, RouterStand, ArePast, not_commit}
use Rattle.world_laws.proofs.Lists.{set_there}
use Rattle.commit_laws.proofs.Stepping.{move_of, did, state_of}
use Rattle.decision_laws.specs.Ends.{WasSent, NameOneBoot}
use Rattle.decision_laws.proofs.Boots.{AreOfBoots, new_from, held_now, old_new}
use Rattle.decision_laws.proofs.Lost.{trace_on, one_map}

pub record OneBoot (nodes : Nodes) : Type 0 where
  pub held : (n : ℕ) (r : RouterState) → slice_get nodes.routers n ≡ Some r
      → AreOfBoots nodes.sent r
  pub one : NameOneBoot nodes.sent

-- what stands of the routers' sessions
abbrev Sessions : Nodes → Type 0
Sessions nodes = (begun : List Unanswered) × (us : List Unanswered) × (told : List Answered)
    × ((n : ℕ) (r : RouterState) → slice_get nodes.routers n ≡ Some r
    → RouterStands n begun us told r)

held_more : (sent out : List Envelope) (r : RouterState) → AreOfBoots sent r
    → ((c : Commit) → WasSent out c → ⊥) → AreOfBoots (sent ++ out) r
held_more sent out r h none lsid s t there doing c was same =
    elim (Contains-append_cases sent out was.0 was.1) [
      | inl w ↦ h lsid s t there doing c (was.0, w, was.2) same
      | inr w ↦ absurd (none c (was.0, w, was.2))
    ]

one_more : (sent out : List Envelope) → NameOneBoot sent → ((c : Commit) → WasSent out c → ⊥)
    → NameOneBoot (sent ++ out)
one_more sent out h none a b was is same =
    elim (Contains-append_cases sent out was.0 was.1) [
      | inl w ↦ elim (Contains-append_cases sent out is.0 is.1) [
        | inl k ↦ h a b (was.0, w, was.2) (is.0, k, is.2) same
        | inr k ↦ absurd (none b (is.0, k, is.2))
      ]
      | inr w ↦ absurd (none a (was.0, w, was.2))
    ]

module _ (chunks : Map) (is : IsMap chunks) (one : chunks.shards ≡ 1) where
  same_boot : (old new : Nodes) (out : List Envelope) → new.sent ≡ old.sent ++ out
      → ((c : Commit) → WasSent out c → ⊥)
      → ((n : ℕ) (r : RouterState) → slice_get new.routers n ≡ Some r → AreOfBoots old.sent r)
      → OneBoot old → OneBoot new
  same_boot old new out sent none held k = record {
    held = λ n r at. subst (λ (s : List Envelope). AreOfBoots s r) (sym sent)
        (held_more old.sent out r (held n r at) none);
    one = subst NameOneBoot (sym sent) (one_more old.sent out k.one none);
  }

  no_commits : (out : List Envelope) → ((x : Envelope) → Contains out x → E x) → (c : Commit)
      → WasSent out c → ⊥
  no_commits out h c was = not_commit was.0.msg c (h was.0 was.1) was.2

  memory_state : (r : RouterState) (e : NodeEvent) → (sp.router_step true r e).state ≡ r
  unfolding sp.router_step
  memory_state r e = refl

  module _ (begun : List Unanswered) (told : List Answered) (begun' us' : List Unanswered)
      (told' : List Answered) where
    -- a router's step
    did_boot : (old new : Nodes) (n : ℕ) (r : RouterState) (e : NodeEvent)
        → slice_get old.routers n ≡ Some r
        → new.routers ≡ slice_set old.routers n (move_of r e).state
        → new.sent ≡ old.sent ++ given_out (did r e) → Stand chunks old begun told
        → Stand chunks new begun' told'
        → ((m : ℕ) (x : RouterState) → slice_get new.routers m ≡ Some x
        → RouterStands m begun' us' told' x)
        → slice_get new.routers n ≡ Some (move_of r e).state
        → OneBoot old → OneBoot new
    did_boot old new n r e there routers sent stand after stands here k =
        let stood = stand.routers n r there in
        let out = given_out (did r e) in
        let behind = (move_of r e).state in
        let past = subst (λ (s : List Envelope). ArePast s behind) sent
        (after.routers n behind here).past in
        let held = held_now chunks is one r e old.sent told stood (k.held n r there) n begun' us'
        told' (stands n behind here) past in
        let newer = old_new chunks is one r e old.sent told stood (k.held n r there) n begun' us'
        told' (stands n behind here) past in
        record {
          held = λ m x at.
              subst (λ (s : List Envelope). AreOfBoots s x) (sym sent)
              (elim (set_cases old.routers n m behind x
              (ap (λ (rs : List RouterState). slice_get rs m) (sym routers) ∙ at)) [
                | inl w ↦ subst (AreOfBoots (old.sent ++ out)) (sym w.1) held
                | inr w ↦ other old new n r e stood m x w.0 (stands m x at)
                    (stands n behind here) (k.held m x w.1)
              ]);
          one = subst NameOneBoot (sym sent)
              (λ a b was is_b same. elim (Contains-append_cases old.sent out was.0 was.1) [
                | inl w ↦ elim (Contains-append_cases old.sent out is_b.0 is_b.1) [
                  | inl q ↦ k.one a b (was.0, w, was.2) (is_b.0, q, is_b.2) same
                  | inr q ↦ newer a b was (is_b.0, q, is_b.2) same
                ]
                | inr w ↦ sym (newer b a is_b (was.0, w, was.2) (sym same))
              ]);
        }
      where
        -- at another router nothing of this one's transactions is
        other : (old new : Nodes) (n : ℕ) (r : RouterState) (e : NodeEvent)
            (stood : RouterStand chunks old.sent told r) (m : ℕ) (x : RouterState) → (m ≡ n → ⊥)
            → RouterStands m begun' us' told' x → RouterStands n begun' us' told'
            (move_of r e).state → AreOfBoots old.sent x
            → AreOfBoots (old.sent ++ given_out (did r e)) x
        other old new n r e stood m x apart there here h lsid s t at doing c was same =
            elim (Contains-append_cases old.sent (given_out (did r e)) was.0 was.1) [
              | inl w ↦ h lsid s t at doing c (was.0, w, was.2) same
              | inr w ↦
                  let f = new_from chunks is one r e old.sent told stood c (was.0, w, was.2) in
                  let own = (subst (DoingStands n (move_of r e).state begun' us' told') f.doing
                  (here.sessions f.lsid f.session f.there)).0 in
                  let its = (subst (DoingStands m x begun' us' told') doing
                  (there.sessions lsid s at)).0 in
                  absurd (apart (sym there.number ∙ sym its.router
                  ∙ ap (λ (y : Tag). y.router) (sym same ∙ f.tag_is) ∙ own.router ∙ here.number))
            ]

  router_step : (old : Nodes) (n : ℕ) (e : NodeEvent) (a : NodeAnswer) (faults : ℕ) (new : Nodes)
      (begun : List Unanswered) (told : List Answered) (begun' us' : List Unanswered)
      (told' : List Answered) → RouterSteps old n e a faults new → Stand chunks old begun told
      → Stand chunks new begun' told'
      → ((m : ℕ) (x : RouterState) → slice_get new.routers m ≡ Some x
      → RouterStands m begun' us' told' x) → OneBoot old → OneBoot new
  router_step old n e a faults new begun told begun' us' told' h stand after stands k =
      by h.takes.0 h.takes.1 h.takes.2
    where
      by : (want : Bool) → a ≡ sp.answer_of want (sp.router_step want h.before e)
          → h.after ≡ (sp.router_step want h.before e).state → OneBoot new
      by true told_is state_is =
          let routers : new.routers ≡ old.routers = ap (λ (w : Nodes). w.routers) h.nodes
          ∙ ap (slice_set old.routers n) (state_is ∙ memory_state h.before e)
          ∙ set_same old.routers n h.before h.there in
          same_boot old new [] (ap (λ (w : Nodes). w.sent) h.nodes
          ∙ ap (λ (b : NodeAnswer). old.sent ++ given_out b) told_is)
          (λ c was. none_there was.0 was.1)
          (λ m x at. k.held m x (ap (λ (rs : List RouterState). slice_get rs m) (sym routers)
          ∙ at)) k
      by false told_is state_is =
          let routers : new.routers ≡ slice_set old.routers n (move_of h.before e).state =
          ap (λ (w : Nodes). w.routers) h.nodes
          ∙ ap (slice_set old.routers n) (state_is ∙ state_of h.before e) in
          did_boot begun told begun' us' told' old new n h.before e h.there routers
          (ap (λ (w : Nodes). w.sent) h.nodes
          ∙ ap (λ (b : NodeAnswer). old.sent ++ given_out b) told_is) stand after stands
          (ap (λ (rs : List RouterState). slice_get rs n) routers
          ∙ set_there old.routers n (move_of h.before e).state h.before h.there) k

  boot_step : (old : Nodes) (ran : Ran) (new : Nodes) (begun : List Unanswered)
      (told : List Answered) (begun' us' : List Unanswered) (told' : List Answered)
      → Happens old ran new → Stand chunks old begun told → Stand chunks new begun' told'
      → ((m : ℕ) (x : RouterState) → slice_get new.routers m ≡ Some x
      → RouterStands m begun' us' told' x) → OneBoot old → OneBoot new
  boot_step old (Step (Router n) e a faults) new begun told begun' us' told' h stand
      after stands k =
      router_step old n e a faults new begun told begun' us' told' h stand after stands k
  boot_step old (Step (Shard n) e a faults) new begun told begun' us' told' h stand after stands k =
      same_boot old new (given_out a) (ap (λ (w : Nodes). w.sent) h.nodes)
      (no_commits (given_out a) (λ x c. All-contains E (given_out a) x
      (takes_gives h.before e a h.after h.takes) c))
      (λ m x at. k.held m x (ap (λ (rs : List RouterState). slice_get rs m)
      (sym (ap (λ (w : Nodes). w.routers) h.nodes)) ∙ at)) k
  boot_step old (Swapped (Shard n)) new begun told begun' us' told' h stand after stands k =
      same_boot old new [] (ap (λ (w : Nodes). w.sent) h.nodes ∙ sym (append-nil old.sent))
      (λ c was. none_there was.0 was.1)
      (λ m x at. k.held m x (ap (λ (rs : List RouterState). slice_get rs m)
      (sym (ap (λ (w : Nodes). w.routers) h.nodes)) ∙ at)) k
  boot_step old (Swapped (Router n)) new begun told begun' us' told' h stand after stands k =
      same_boot old new [] (ap (λ (w : Nodes). w.sent) h.nodes ∙ sym (append-nil old.sent))
      (λ c was. none_there was.0 was.1)
      (λ m x at. elim (set_cases old.routers n m (again n h.before) x
      (ap (λ (rs : List RouterState). slice_get rs m)
      (sym (ap (λ (w : Nodes). w.routers) h.nodes)) ∙ at)) [
        | inl w ↦ subst (AreOfBoots old.sent) (sym w.1) (none_held old.sent n h.before)
        | inr w ↦ k.held m x w.1
      ]) k
    where
      none_held : (sent : List Envelope) (n : ℕ) (r : RouterState)
          → AreOfBoots sent (again n r)
      none_held sent n r lsid s t there doing c was same = let no : None ≡ Some s = there in
          absurd (grind (arith, no))

  module _ (start : Nodes) (h : StartsAlone chunks start) where
    stands_in : (run : List Ran) (trace : List Nodes) (now : Nodes) → IsTrace start run trace now
        → (m : ℕ) (x : RouterState) → slice_get now.routers m ≡ Some x
        → RouterStands m (opened_in start.routers run)
        (ledger_behind (fresh_ledger start.routers) run).unanswered
        (answered_in start.routers run) x
    stands_in run trace now k m x at =
        let b = all_booked chunks start run trace now h.fresh k in
        b.book.routers_stand m x (ap (λ (rs : List RouterState). slice_get rs m) b.same ∙ at)

    boot_run : (run more : List Ran) (before trace : List Nodes) (old new : Nodes)
        → IsTrace start run before old → IsTrace old more trace new → OneBoot old → OneBoot new
    boot_run run [] before [] old new k m l = subst OneBoot (sym m) l
    boot_run run [] before (nodes ∷ trace) old new k m l = absurd m
    boot_run run (ran ∷ more) before [] old new k m l = absurd m
    boot_run run (ran ∷ more) before (nodes ∷ trace) old new k m l =
        let next = trace_on start run before old ran m.1.0 k m.1.1 in
        let further = run ++ ran ∷ [] in
        boot_run further more (before ++ old ∷ []) trace m.1.0 new next m.1.2
        (boot_step old ran m.1.0 (opened_in start.routers run) (answered_in start.routers run)
        (opened_in start.routers further)
        (ledger_behind (fresh_ledger start.routers) further).unanswered
        (answered_in start.routers further) m.1.1
        (all_stand chunks is one start h.fresh run before old k)
        (all_stand chunks is one start h.fresh further (before ++ old ∷ []) m.1.0 next)
        (stands_in further (before ++ old ∷ []) m.1.0 next) l)

    fresh_boot : OneBoot start
    fresh_boot = record {
      held = λ n r at lsid s t there doing c was same.
          none_there was.0 (subst (λ (x : List Envelope). Contains x was.0) h.fresh.sent was.1);
      one = λ a b was is_b same.
          none_there was.0 (subst (λ (x : List Envelope). Contains x was.0) h.fresh.sent was.1);
    }

    pub all_one_boot : (run : List Ran) (trace : List Nodes) (now : Nodes)
        → IsTrace start run trace now → OneBoot now
    all_one_boot run trace now k = boot_run [] run [] trace start now refl k fresh_boot

pub one_boot : (chunks : Map) (start : Nodes) (run : List Ran) (trace : List Nodes) (now : Nodes)
    → IsMap chunks → StartsAlone chunks start → IsTrace start run trace now
    → NameOneBoot now.sent
one_boot chunks start run trace now is h k =
    (all_one_boot chunks is (one_map chunks start h) start h run trace now k).one
