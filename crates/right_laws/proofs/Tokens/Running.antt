-- What stands of tokens stands after each run of one shard in which they are handed back as they
-- were told.
use Rattle.std.proofs.Common.{◌≡◌, ◌⊎◌, inl, inr, ◌∙◌, ◌++◌, ◌+◌, ℕ, Bool, true, false, All, List}
use Rattle.std.proofs.Common.{[], ◌∷◌, Option, Some, None, refl, sym, ap, ap₂, subst, arith, length}
use Rattle.std.proofs.Common.{slice_get, slice_set, take, zero, suc}
use Rattle.std.specs.Prelude.{Contains}
use Rattle.std.proofs.lemmas.List.{append-nil, append_assoc}
use Rattle.std.proofs.lemmas.List.Elements.{All-nil, All-cons, All-contains, Contains-append_cases}
use Rattle.std.proofs.lemmas.List.Elements.{Contains-append_right}
use Rattle.std.proofs.Math.Seq.{take-append_seam}
use Rattle.txn_types.specs.Letters.{given_out}
use Rattle.txn_types.specs.declared.event.NodeAnswer.{NodeAnswer}
use Rattle.txn_types.specs.declared.event.NodeEvent.{NodeEvent}
use Rattle.txn_types.specs.declared.message.Envelope.{Envelope}
use Rattle.txn_types.specs.declared.message.Msg.{Msg}
use Rattle.txn_types.specs.declared.message.Msg.TheVariants as msg
use Rattle.txn_types.specs.declared.names.Tag.{Tag}
use Rattle.txn_types.specs.declared.node.NodeId.TheVariants.{Shard, Router}
use Rattle.txn_semantics.specs.declared.commits.Answered.{Answered}
use Rattle.shard_core.specs.NodeStep.{NodeState}
use Rattle.chunk_map.specs.Map.{Map, IsMap}
use Rattle.router_state.specs.State.{RouterState}
use Rattle.router_core.specs.Step as sp
use Rattle.txn_model.specs.declared.ran.Ran.{Ran}
use Rattle.txn_model.specs.declared.ran.Ran.TheVariants.{Step, Swapped}
use Rattle.cluster_core.specs.Deciding.{IsGiven, TokensGiven, held_at}
use Rattle.cluster_core.specs.Ledger.{Ledger, Entered, fresh_ledger, ledger_behind, entered}
use Rattle.cluster_core.specs.Ledger.{entered_by, swapped, answered_from, answered_in}
use Rattle.cluster_core.specs.Ledger.{all_replied}
use Rattle.cluster_core.specs.Nodes.{Nodes}
use Rattle.cluster_core.specs.Replying.{Replied}
use Rattle.cluster_core.specs.Trace.{Happens, IsTrace, RouterSteps, again}
use Rattle.world_laws.specs.Joint.{Stands, DiskStands, DisksStand, NoName}
use Rattle.world_laws.proofs.Clocks.{started_is}
use Rattle.world_laws.proofs.Going.{some_same}
use Rattle.world_laws.proofs.Naming.{one as one_all}
use Rattle.address_laws.specs.Addresses.{AddressesStand}
use Rattle.address_laws.proofs.Standing.{addresses_run, addresses_fresh}
use Rattle.known_laws.specs.Known.{KnownStands, NamesNone, RecNamed}
use Rattle.known_laws.proofs.Standing.{known_run, known_fresh}
use Rattle.right_laws.specs.Said.{Came, Heard, Served}
use Rattle.right_laws.proofs.Hands.Running.{all_came}
use Rattle.world_laws.proofs.Joint.{stands_fresh, stands_run, new_disk}
use Rattle.answer_laws.specs.Opened.{opened_in}
use Rattle.answer_laws.proofs.Lists.{set_same}
use Rattle.answer_laws.proofs.Running.{all_parts}
use Rattle.answer_laws.proofs.Shards.{E, takes_gives}
use Rattle.told_laws.proofs.Lists.{set_cases, none_there}
use Rattle.told_laws.proofs.Running.{Booked, all_booked, memory_state}
use Rattle.one_shard_laws.specs.Concluding.{StartsAlone, ServedRight}
use Rattle.one_shard_laws.proofs.Concluding.{served_right}
use Rattle.one_shard_laws.proofs.Joint.{runs_alone}
use Rattle.commit_laws.proofs.Follows.{IsNoAsk}
use Rattle.commit_laws.proofs.Running.{all_stand}
use Rattle.commit_laws.proofs.Standing.{Stand}
use Rattle.commit_laws.proofs.Stepping.{move_of, state_of}
use Rattle.making_laws.proofs.Running.{IsNamed}
use Rattle.decision_laws.proofs.Lost.{trace_on, one_map}
use Rattle.decision_laws.proofs.OneBoot.{all_one_boot}
use Rattle.abort_laws.proofs.Asked.{Wish, wish_step}
use Rattle.abort_laws.proofs.Rules.{ShardSays, SaysAt}
use Rattle.right_laws.proofs.Tokens.Deeds.{AskOk}
use Rattle.right_laws.proofs.Tokens.Boots.{none_follow}
use Rattle.right_laws.proofs.Tokens.Given.{ledger_split, replied_split, told_before, places, IsAt}
use Rattle.right_laws.proofs.Tokens.Given.{entered_at_place}
use Rattle.right_laws.proofs.Tokens.Named.{Known, Back}
use Rattle.right_laws.proofs.Tokens.Requests.{EntryOk}
use Rattle.right_laws.proofs.Tokens.Standing.{TokensStand, Steps, NoRecover, quiet_steps}
use Rattle.right_laws.proofs.Tokens.Standing.{did_steps}

-- Lists.

place_there : {A : Type 0} (xs : List A) (x : A) (more : List A)
    → slice_get (xs ++ x ∷ more) (length xs) ≡ Some x
place_there [] x more = refl
place_there (y ∷ xs) x more = place_there xs x more

place_before : {A : Type 0} (xs more : List A) → take (length xs) (xs ++ more) ≡ xs
place_before xs more = take-append_seam xs more

answered_split : (l : Ledger) (run : List Ran) (ran : Ran)
    → answered_from l (run ++ ran ∷ [])
    ≡ answered_from l run ++ (entered_by (ledger_behind l run) ran).answered
answered_split l [] ran = append-nil (entered_by l ran).answered
answered_split l (first ∷ run) ran =
    ap (λ (more : List Answered). (entered_by l first).answered ++ more)
    (answered_split (entered_by l first).ledger run ran)
    ∙ sym (append_assoc (entered_by l first).answered
    (answered_from (entered_by l first).ledger run)
    (entered_by (ledger_behind (entered_by l first).ledger run) ran).answered)

trace_long : (old : Nodes) (run : List Ran) (trace : List Nodes) (new : Nodes)
    → IsTrace old run trace new → length trace ≡ length run
trace_long old [] [] new h = refl
trace_long old [] (nodes ∷ trace) new h = absurd h
trace_long old (ran ∷ run) [] new h = absurd h
trace_long old (ran ∷ run) (nodes ∷ trace) new h =
    ap suc (trace_long h.1.0 run trace new h.1.2)

same_step : (n m : ℕ) (e f : NodeEvent) (a b : NodeAnswer) (i j : ℕ)
    → Step (Router n) e a i ≡ Step (Router m) f b j → (n ≡ m) × (e ≡ f)
same_step n m e f a b i j is = (cc, cc)

-- Steps at which nothing of tokens is done.

says_none : (T : Tag → ℕ → Type 0) (m : Msg) → ShardSays T m → NoRecover m
says_none T (msg.Recover x) h = absurd h
says_none T other h = tt

nothing_asked : (y : Envelope) → Contains [] y → IsNoAsk y.msg
nothing_asked y c = none_there y c

nothing_sought : (y : Envelope) → Contains [] y → NoRecover y.msg
nothing_sought y c = none_there y c

same_routers : (old new : Nodes) → new.routers ≡ old.routers → (n : ℕ) (r : RouterState)
    → slice_get new.routers n ≡ Some r
    → (slice_get old.routers n ≡ Some r) ⊎ (r.sessions ≡ [])
same_routers old new same n r at =
    inl (ap (λ (rs : List RouterState). slice_get rs n) (sym same) ∙ at)

swapped_begun : (l : Ledger) (n : ℕ) (o : Option RouterState) → (swapped l n o).begun ≡ l.begun
swapped_begun l n None = refl
swapped_begun l n (Some r) = refl

module _ (chunks : Map) (is : IsMap chunks) (start : Nodes) (h : StartsAlone chunks start) where
  abbrev fresh : Ledger
  fresh = fresh_ledger start.routers

  abbrev one : chunks.shards ≡ 1
  one = one_map chunks start h

  only_node : (n : ℕ) (x : NodeState) → slice_get start.shards n ≡ Some x → h.node ≡ x
  only_node n x at = by n (ap (λ (xs : List NodeState). slice_get xs n) (sym h.shards) ∙ at)
    where
      by : (n : ℕ) → slice_get (h.node ∷ []) n ≡ Some x → h.node ≡ x
      by zero e = grind (arith, e)
      by (suc i) e = let no : None ≡ Some x = e in absurd (grind (arith, no))

  disks_first : DisksStand start
  disks_first n x at =
      subst (λ (y : NodeState). DiskStands start y.records) (only_node n x at)
      (new_disk start 0 h.faults h.node h.starts)

  world_first : Stands start
  world_first = stands_fresh chunks start h.fresh disks_first

  names_first : NamesNone start
  names_first n x at =
      subst (λ (y : NodeState). All (RecNamed NoName) y.records) (only_node n x at)
      (subst (λ (y : NodeState). All (RecNamed NoName) y.records)
      (sym (started_is 0 [] h.faults h.node h.starts)) (one_all (RecNamed NoName) _ tt))

  -- what is known of boots there
  pub known_of : (run : List Ran) (trace : List Nodes) (now : Nodes) → IsTrace start run trace now
      → KnownStands now
  known_of run trace now k =
      known_run start run trace now k world_first
      (known_fresh chunks start h.fresh disks_first names_first)

  pub addresses_of : (run : List Ran) (trace : List Nodes) (now : Nodes)
      → IsTrace start run trace now → AddressesStand now
  addresses_of run trace now k =
      addresses_run start run trace now k world_first
      (addresses_fresh chunks start h.fresh is disks_first)

  -- what is known of nodes that a run comes to
  pub world_of : (run : List Ran) (trace : List Nodes) (now : Nodes) → IsTrace start run trace now
      → Stands now
  world_of run trace now k = stands_run start run trace now k world_first

  pub served_of : (run : List Ran) (trace : List Nodes) (now : Nodes)
      → IsTrace start run trace now → ServedRight now
  served_of run trace now k = served_right now (runs_alone chunks start run trace now h k)

  booked_of : (run : List Ran) (trace : List Nodes) (now : Nodes) → IsTrace start run trace now
      → Booked (ledger_behind fresh run) (opened_in start.routers run)
      (answered_in start.routers run) now
  booked_of run trace now k = all_booked chunks start run trace now h.fresh k

  stand_of : (run : List Ran) (trace : List Nodes) (now : Nodes) → IsTrace start run trace now
      → Stand chunks now (opened_in start.routers run) (answered_in start.routers run)
  stand_of run trace now k = all_stand chunks is one start h.fresh run trace now k

  -- what stands of tokens after a run
  abbrev pub TokensAfter : List Ran → Nodes → Type 0
  TokensAfter run nodes = TokensStand nodes (answered_in start.routers run)
      (all_replied start.routers run) (ledger_behind fresh run).begun

  abbrev StepsBy : List Ran → Ran → Nodes → Nodes → Type 0
  StepsBy run ran old new = Steps (entered_by (ledger_behind fresh run) ran) old new
      (answered_in start.routers run) (answered_in start.routers (run ++ ran ∷ []))

  -- after one more step
  after_step : (run : List Ran) (ran : Ran) (old new : Nodes) → TokensAfter run old
      → StepsBy run ran old new → TokensAfter (run ++ ran ∷ []) new
  after_step run ran old new k s =
      let l = ledger_behind fresh run in
      let replied : all_replied start.routers (run ++ ran ∷ [])
      ≡ all_replied start.routers run ++ (entered_by l ran).replied =
      replied_split fresh run (ran ∷ [])
      ∙ ap (λ (rs : List Replied). all_replied start.routers run ++ rs)
      (append-nil (entered_by l ran).replied) in
      record {
        replies = λ r c txn txn_is tag shard boot is_token.
            elim (Contains-append_cases (all_replied start.routers run) (entered_by l ran).replied r
            (subst (λ (rs : List Replied). Contains rs r) replied c)) [
              | inl w ↦ s.known txn.lsid txn.number tag boot
                  (k.replies r w txn txn_is tag shard boot is_token)
              | inr w ↦ s.replies r w txn txn_is tag shard boot is_token
            ];
        sessions = s.sessions;
        sent = s.sent;
        named = subst (λ (x : Ledger). All (IsNamed new.sent) x.begun)
            (sym (ledger_split fresh run (ran ∷ []))) s.named;
        hears = s.hears;
      }

  module _ (run : List Ran) (ran : Ran) (more : List Ran) (before : List Nodes) (old new : Nodes)
      (k : IsTrace start run before old) (happens : Happens old ran new)
      (tokens : TokensAfter run old)
      (given : TokensGiven start.routers (run ++ ran ∷ more)) where
    abbrev further : List Ran
    further = run ++ ran ∷ []

    abbrev l : Ledger
    l = ledger_behind fresh run

    abbrev told : List Answered
    told = answered_in start.routers run

    next : IsTrace start further (before ++ old ∷ []) new
    next = trace_on start run before old ran new k happens

    answered_now : answered_in start.routers further ≡ told ++ (entered_by l ran).answered
    answered_now = answered_split fresh run ran

    quiet : (out : List Envelope) → (entered_by l ran).replied ≡ []
        → (entered_by l ran).ledger.begun ≡ l.begun → new.sent ≡ old.sent ++ out
        → ((y : Envelope) → Contains out y → IsNoAsk y.msg)
        → ((y : Envelope) → Contains out y → NoRecover y.msg)
        → ((n : ℕ) (r : RouterState) → slice_get new.routers n ≡ Some r
        → (slice_get old.routers n ≡ Some r) ⊎ (r.sessions ≡ []))
        → StepsBy run ran old new
    quiet out silent same sent none plain routers =
        quiet_steps (entered_by l ran) old new out told (entered_by l ran).answered
        (answered_in start.routers further) (all_replied start.routers run) l.begun silent same
        answered_now sent none plain routers tokens

    -- the tokens of the requests in hand
    given_now : All (IsGiven (all_replied start.routers (run ++ ran ∷ more)) (length run))
        (held_at l ran)
    given_now =
        subst (λ (xs : List Ran). All (IsGiven (all_replied start.routers (run ++ ran ∷ more))
        (length run)) (held_at (ledger_behind fresh xs) ran)) (place_before run (ran ∷ more))
        (given (length run) ran (place_there run ran more))

    module _ (n : ℕ) (e : NodeEvent) (a : NodeAnswer) (faults : ℕ)
        (is_ran : ran ≡ Step (Router n) e a faults) (s : RouterSteps old n e a faults new) where
      ledger_there : slice_get l.routers n ≡ Some s.before
      ledger_there = ap (λ (rs : List RouterState). slice_get rs n)
          (booked_of run before old k).same ∙ s.there

      entered_is : (want : Bool) → a ≡ sp.answer_of want (sp.router_step want s.before e)
          → entered_by l ran ≡ entered l n (Some s.before) e
          (sp.answer_of want (sp.router_step want s.before e))
      unfolding entered_by
      entered_is want told_is =
          ap (entered_by l) is_ran
          ∙ ap₂ (λ (o : Option RouterState) (b : NodeAnswer). entered l n o e b) ledger_there
          told_is

      -- how each reply of the step was given
      ways : (x : Replied) → Contains (entered_by l ran).replied x
          → Heard s.before e x ⊎ Served s.before e x
      ways x c =
          let came = All-contains (Came (before ++ old ∷ []) further)
          (all_replied start.routers further) x
          (all_came chunks start further (before ++ old ∷ []) new h.fresh disks_first next)
          (subst (λ (rs : List Replied). Contains rs x)
          (sym (replied_split fresh run (ran ∷ [])
          ∙ ap (λ (rs : List Replied). all_replied start.routers run ++ rs)
          (append-nil (entered_by l ran).replied)))
          (Contains-append_right (all_replied start.routers run) (entered_by l ran).replied x c)) in
          let here : x.place ≡ l.place =
          All-contains (IsAt l.place) (entered_by l ran).replied x (entered_at_place l ran) c in
          let long : l.place ≡ 0 + length run = places fresh run in
          let place : x.place ≡ length run = omega (arith, here, long) in
          let nodes : old ≡ came.nodes =
          some_same old came.nodes (sym (place_there before old [])
          ∙ ap (slice_get (before ++ old ∷ [])) (trace_long start run before old k ∙ sym place)
          ∙ came.at.before) in
          let step : ran ≡ Step (Router x.hand.router) came.event
          (sp.answer_of false (sp.router_step false came.r came.event)) came.faults =
          some_same ran _ (sym (place_there run ran [])
          ∙ ap (slice_get further) (sym place) ∙ came.at.step) in
          let same = same_step n x.hand.router e came.event a
          (sp.answer_of false (sp.router_step false came.r came.event)) faults came.faults
          (sym is_ran ∙ step) in
          let router : came.r ≡ s.before =
          some_same came.r s.before (sym came.there
          ∙ ap (λ (w : Nodes). slice_get w.routers x.hand.router) (sym nodes)
          ∙ ap (slice_get old.routers) (sym same.0) ∙ s.there) in
          subst (λ (y : RouterState). Heard y e x ⊎ Served y e x) router
          (subst (λ (y : NodeEvent). Heard came.r y x ⊎ Served came.r y x) (sym same.1) came.way)

      router_case : (want : Bool) → a ≡ sp.answer_of want (sp.router_step want s.before e)
          → s.after ≡ (sp.router_step want s.before e).state → StepsBy run ran old new
      router_case true told_is state_is =
          let x = entered_is true told_is in
          let routers : new.routers ≡ old.routers = ap (λ (w : Nodes). w.routers) s.nodes
          ∙ ap (slice_set old.routers n) (state_is ∙ memory_state s.before e)
          ∙ set_same old.routers n s.before s.there in
          quiet [] (ap (λ (y : Entered). y.replied) x) (ap (λ (y : Entered). y.ledger.begun) x)
          (ap (λ (w : Nodes). w.sent) s.nodes
          ∙ ap (λ (b : NodeAnswer). old.sent ++ given_out b) told_is) nothing_asked nothing_sought
          (same_routers old new routers)
      router_case false told_is state_is =
          let x = entered_is false told_is in
          let routers : new.routers ≡ slice_set old.routers n (move_of s.before e).state =
          ap (λ (w : Nodes). w.routers) s.nodes
          ∙ ap (slice_set old.routers n) (state_is ∙ state_of s.before e) in
          let book = booked_of further (before ++ old ∷ []) new next in
          subst (λ (y : Entered). Steps y old new told (answered_in start.routers further)) (sym x)
          (did_steps chunks is one old new l (opened_in start.routers run)
          (opened_in start.routers further) (ledger_behind fresh further).unanswered told
          (entered_by l ran).answered (answered_in start.routers further)
          (booked_of run before old k) (stand_of run before old k) (world_of run before old k)
          (served_of run before old k) (stand_of further (before ++ old ∷ []) new next)
          (λ m y at. book.book.routers_stand m y
          (ap (λ (rs : List RouterState). slice_get rs m) book.same ∙ at))
          (all_parts chunks start further (before ++ old ∷ []) new h.fresh next)
          (all_one_boot chunks is one start h further (before ++ old ∷ []) new next).held
          answered_now (all_replied start.routers (run ++ ran ∷ more))
          (all_replied start.routers run) (length run)
          (told_before start.routers run (ran ∷ more)) tokens n s.before e faults s.there s.comes
          routers
          (ap (λ (w : Nodes). w.sent) s.nodes
          ∙ ap (λ (b : NodeAnswer). old.sent ++ given_out b) told_is)
          (subst (λ (b : NodeAnswer). All (IsGiven (all_replied start.routers (run ++ ran ∷ more))
          (length run)) (held_at l (Step (Router n) e b faults))) told_is
          (subst (λ (y : Ran). All (IsGiven (all_replied start.routers (run ++ ran ∷ more))
          (length run)) (held_at l y)) is_ran given_now))
          (λ y c. ways y (subst (λ (z : Entered). Contains z.replied y) (sym x) c))
          (known_of further (before ++ old ∷ []) new next)
          (served_of further (before ++ old ∷ []) new next))

      router_by : StepsBy run ran old new
      router_by = router_case s.takes.0 s.takes.1 s.takes.2

    step_case : (x : Ran) → ran ≡ x → StepsBy run ran old new
    unfolding entered_by
    step_case (Step (Router n) e a faults) is_ran =
        router_by n e a faults is_ran (subst (λ (y : Ran). Happens old y new) is_ran happens)
    step_case (Step (Shard n) e a faults) is_ran =
        let s = subst (λ (y : Ran). Happens old y new) is_ran happens in
        quiet (given_out a) (ap (λ (y : Ran). (entered_by l y).replied) is_ran)
        (ap (λ (y : Ran). (entered_by l y).ledger.begun) is_ran)
        (ap (λ (w : Nodes). w.sent) s.nodes)
        (λ y c. All-contains E (given_out a) y (takes_gives s.before e a s.after s.takes) c)
        (λ y c. says_none (SaysAt (Wish s.before.core.part e.what) e.what) y.msg
        (All-contains (λ (z : Envelope). ShardSays (SaysAt (Wish s.before.core.part e.what) e.what)
        z.msg) (given_out a) y (wish_step s.before e a s.after s.takes).out c))
        (same_routers old new (ap (λ (w : Nodes). w.routers) s.nodes))
    step_case (Swapped (Shard n)) is_ran =
        let s = subst (λ (y : Ran). Happens old y new) is_ran happens in
        quiet [] (ap (λ (y : Ran). (entered_by l y).replied) is_ran)
        (ap (λ (y : Ran). (entered_by l y).ledger.begun) is_ran)
        (ap (λ (w : Nodes). w.sent) s.nodes ∙ sym (append-nil old.sent)) nothing_asked
        nothing_sought (same_routers old new (ap (λ (w : Nodes). w.routers) s.nodes))
    step_case (Swapped (Router n)) is_ran =
        let s = subst (λ (y : Ran). Happens old y new) is_ran happens in
        quiet [] (ap (λ (y : Ran). (entered_by l y).replied) is_ran)
        (ap (λ (y : Ran). (entered_by l y).ledger.begun) is_ran
        ∙ swapped_begun l n (slice_get l.routers n))
        (ap (λ (w : Nodes). w.sent) s.nodes ∙ sym (append-nil old.sent)) nothing_asked
        nothing_sought
        (λ m x at. elim (set_cases old.routers n m (again n s.before) x
        (ap (λ (rs : List RouterState). slice_get rs m)
        (sym (ap (λ (w : Nodes). w.routers) s.nodes)) ∙ at)) [
          | inl w ↦ inr (ap (λ (y : RouterState). y.sessions) w.1)
          | inr w ↦ inl w.1
        ])

    pub tokens_step : TokensAfter further new
    tokens_step = after_step run ran old new tokens (step_case ran refl)

  -- A run.

  pub tokens_first : TokensAfter [] start
  tokens_first = record {
    replies = λ r c. none_there r c;
    sessions = λ n r at.
        let b = h.fresh.routers n r at in
        subst (λ (x : RouterState). All (EntryOk (Known start [])) x.sessions) (sym b.1)
        (All-nil (EntryOk (Known start [])));
    sent = subst (All (λ (e : Envelope). AskOk (Known start []) e.msg)) (sym h.fresh.sent)
        (All-nil (λ (e : Envelope). AskOk (Known start []) e.msg));
    named = All-nil (IsNamed start.sent);
    hears = λ n r at. none_follow (Back start.sent) r
        (ap (λ (x : RouterState). x.sessions) (h.fresh.routers n r at).1);
  }

  -- nodes that a run has come to, with its part up to there
  pub record IsReached (nodes : Nodes) : Type 0 where
    pub run : List Ran
    pub trace : List Nodes
    pub comes : IsTrace start run trace nodes
    pub tokens : TokensAfter run nodes

  reached_from : (run more : List Ran) (before trace : List Nodes) (old new : Nodes)
      → IsTrace start run before old → IsTrace old more trace new
      → TokensGiven start.routers (run ++ more) → TokensAfter run old
      → All IsReached (trace ++ new ∷ [])
  reached_from run [] before [] old new k m given t =
      All-cons IsReached new [] (subst IsReached (sym m)
      (record { run = run; trace = before; comes = k; tokens = t })) (All-nil IsReached)
  reached_from run [] before (nodes ∷ trace) old new k m given t = absurd m
  reached_from run (ran ∷ more) before [] old new k m given t = absurd m
  reached_from run (ran ∷ more) before (nodes ∷ trace) old new k m given t =
      All-cons IsReached nodes (trace ++ new ∷ [])
      (subst IsReached (sym m.0) (record { run = run; trace = before; comes = k; tokens = t }))
      (reached_from (run ++ ran ∷ []) more (before ++ old ∷ []) trace m.1.0 new
      (trace_on start run before old ran m.1.0 k m.1.1) m.1.2
      (subst (TokensGiven start.routers) (sym (append_assoc run (ran ∷ []) more)) given)
      (tokens_step run ran more before old m.1.0 k m.1.1 t given))

  pub all_reached : (run : List Ran) (trace : List Nodes) (now : Nodes)
      → IsTrace start run trace now → TokensGiven start.routers run
      → All IsReached (trace ++ now ∷ [])
  all_reached run trace now k given =
      reached_from [] run [] trace start now refl k given tokens_first
