-- After each run of one shard routers know of the writes that they were told of; and each commit
-- that was sent names the boot in which the newest statement of its transaction was answered.
use Rattle.std.proofs.Common.{◌≡◌, ◌⊎◌, inl, inr, ◌++◌, ℕ, Bool, true, false, List, [], ◌∷◌}
use Rattle.std.proofs.Common.{Option, Some, None, refl, sym, ap, subst, ◌∙◌}
use Rattle.std.proofs.Common.{if◌then◌else◌}
use Rattle.std.specs.Prelude.{Contains, slice_get, slice_set}
use Rattle.std.proofs.lemmas.List.{append-nil, append_assoc}
use Rattle.std.proofs.lemmas.List.Elements.{All-contains, Contains-append_left}
use Rattle.std.proofs.lemmas.List.Elements.{Contains-append_cases}
use Rattle.txn_types.specs.BySession.{BySession, entry_of}
use Rattle.txn_types.specs.Letters.{given_out}
use Rattle.txn_types.specs.declared.event.NodeAnswer.{NodeAnswer}
use Rattle.txn_types.specs.declared.event.NodeEvent.{NodeEvent}
use Rattle.txn_types.specs.declared.message.Commit.{Commit}
use Rattle.txn_types.specs.declared.message.Envelope.{Envelope}
use Rattle.txn_types.specs.declared.names.Tag.{Tag}
use Rattle.txn_types.specs.declared.node.Lsid.{Lsid}
use Rattle.txn_types.specs.declared.node.NodeId.TheVariants.{Shard, Router}
use Rattle.txn_semantics.specs.declared.commits.Answered.{Answered}
use Rattle.chunk_map.specs.Map.{Map, IsMap}
use Rattle.router_state.specs.declared.state.Doing.{Doing}
use Rattle.router_state.specs.declared.state.Doing.TheVariants.{Begun, Sought}
use Rattle.router_state.specs.declared.state.Phase.{Phase}
use Rattle.router_state.specs.declared.state.Phase.TheVariants.{Aborted}
use Rattle.router_state.specs.declared.state.Session.{Session}
use Rattle.router_state.specs.State.{RouterState, session_of, boot_of}
use Rattle.router_core.specs.Step as sp
use Rattle.txn_model.specs.declared.ran.Ran.{Ran}
use Rattle.txn_model.specs.declared.ran.Ran.TheVariants.{Step, Swapped}
use Rattle.cluster_core.specs.Answering.{Unanswered, unanswered_behind}
use Rattle.cluster_core.specs.Ledger.{Ledger, fresh_ledger, ledger_behind, entered_by, answered_in}
use Rattle.cluster_core.specs.Nodes.{Nodes}
use Rattle.cluster_core.specs.Routers.{is_memory}
use Rattle.cluster_core.specs.Trace.{Happens, IsTrace, again}
use Rattle.world_laws.proofs.Lists.{set_there}
use Rattle.answer_laws.specs.Comes.{as_opened}
use Rattle.answer_laws.specs.Opened.{opened_in}
use Rattle.answer_laws.proofs.Answered.{sent_more}
use Rattle.answer_laws.proofs.Lists.{set_same}
use Rattle.answer_laws.proofs.Shards.{E, takes_gives}
use Rattle.told_laws.proofs.Lists.{none_there, set_cases}
use Rattle.told_laws.proofs.Running.{Booked, all_booked, memory_state}
use Rattle.told_laws.proofs.Standing.{BookStands, RouterStands}
use Rattle.one_shard_laws.specs.Concluding.{StartsAlone}
use Rattle.commit_laws.specs.Speaking.{Gave, CommitFollows, MsgFollows}
use Rattle.commit_laws.proofs.Follows.{IsNoAsk}
use Rattle.commit_laws.proofs.Running.{all_stand}
use Rattle.commit_laws.proofs.Standing.{Stand, not_commit}
use Rattle.commit_laws.proofs.Stepping.{move_of, did, state_of}
use Rattle.chain_laws.specs.Completing.{completed_among, completed_at, completed_by, completed_from}
use Rattle.chain_laws.specs.Completing.{completed_in, IsCompleted}
use Rattle.chain_laws.proofs.Completed.{all_completed}
use Rattle.chain_laws.proofs.Concluding.{always_first}
use Rattle.chain_laws.proofs.Running.{all_chains}
use Rattle.chain_laws.proofs.Standing.{KnownBoot, DoingChains, known_more}
use Rattle.decision_laws.specs.Ends.{WasSent}
use Rattle.decision_laws.proofs.Boots.{new_from}
use Rattle.decision_laws.proofs.Lost.{trace_on, one_map}
use Rattle.right_laws.specs.Knowing.{TellsWrite, PhaseKnowsWrites, DoingKnowsWrites}
use Rattle.right_laws.specs.Knowing.{RoutersKnowWrites}
use Rattle.right_laws.proofs.Writes.Given.{told_now, unreplied}
use Rattle.right_laws.proofs.Writes.Taking.{knows_now, others_now, taken_of}

-- A run that goes on by one event.
completed_on : (l : Ledger) (run : List Ran) (ran : Ran)
    → completed_from l (run ++ ran ∷ [])
    ≡ completed_from l run ++ completed_by (ledger_behind l run) ran
completed_on l [] ran = append-nil (completed_by l ran)
completed_on l (r ∷ run) ran =
    ap (λ (more : List Unanswered). completed_by l r ++ more)
    (completed_on (entered_by l r).ledger run ran)
    ∙ sym (append_assoc (completed_by l r) (completed_from (entered_by l r).ledger run)
    (completed_by (ledger_behind (entered_by l r).ledger run) ran))

-- Where no commit goes out.

module _ (completed : List Unanswered) (sent out : List Envelope)
    (none : (x : Envelope) → Contains out x → IsNoAsk x.msg) where
  still_sent : (c : Commit) → WasSent (sent ++ out) c → WasSent sent c
  still_sent c was =
      elim (Contains-append_cases sent out was.0 was.1) [
        | inl w ↦ (was.0, w, was.2)
        | inr w ↦ absurd (not_commit was.0.msg c (none was.0 w) was.2)
      ]

  phase_on : (tag : Tag) (wrote : List ℕ) (p : Phase)
      → PhaseKnowsWrites completed sent tag wrote p
      → PhaseKnowsWrites completed (sent ++ out) tag wrote p
  phase_on tag wrote (Aborted past) h = λ c was same. h c (still_sent c was) same
  phase_on tag wrote other h = h

  doing_on : (doing : Doing) → DoingKnowsWrites completed sent doing
      → DoingKnowsWrites completed (sent ++ out) doing
  doing_on (Begun t) h = phase_on t.tag t.wrote t.phase h
  doing_on (Sought seeking known) h = tt

no_session : (r : RouterState) (lsid : Lsid) (s : Session) → r.sessions ≡ []
    → session_of r lsid ≡ Some s → ⊥
no_session r lsid s none at =
    let no : None ≡ Some s =
    sym (ap (λ (xs : BySession Session). entry_of lsid xs) none) ∙ at in
    cc

none_sent : (x : Envelope) → Contains [] x → IsNoAsk x.msg
none_sent x c = none_there x c

module _ (chunks : Map) (is : IsMap chunks) (start : Nodes) (h : StartsAlone chunks start) where
  one : chunks.shards ≡ 1
  one = one_map chunks start h

  abbrev pub done : List Ran → List Unanswered
  done run = completed_in start.routers run

  -- a commit that was sent names the boot of the newest statement of its transaction
  abbrev pub NamesLast : List Unanswered → Commit → Type 0
  NamesLast completed c = (k : ℕ) × KnownBoot completed c.tag k c.boot

  pub record Stood (run : List Ran) (nodes : Nodes) : Type 0 where
    pub knows : RoutersKnowWrites (done run) nodes
    pub last : (c : Commit) → WasSent nodes.sent c → NamesLast (done run) c

  -- A step, behind a run.

  module _ (before : List Ran) (behind : List Nodes) (old : Nodes) (ran : Ran) (new : Nodes)
      (k : IsTrace start before behind old) (step : Happens old ran new) where
    abbrev further : List Ran
    further = before ++ ran ∷ []

    abbrev ledger : Ledger
    ledger = ledger_behind (fresh_ledger start.routers) before

    abbrev begun : List Unanswered
    begun = opened_in start.routers before

    abbrev told : List Answered
    told = answered_in start.routers before

    booked : Booked ledger begun told old
    booked = all_booked chunks start before behind old h.fresh k

    book : BookStands old.routers begun ledger.unanswered told
    book = subst (λ (rs : List RouterState). BookStands rs begun ledger.unanswered told)
        booked.same booked.book

    stand : Stand chunks old begun told
    stand = all_stand chunks is one start h.fresh before behind old k

    done_is : done further ≡ done before ++ completed_by ledger ran
    done_is = completed_on (fresh_ledger start.routers) before ran

    -- it is still so, where nothing is completed and no commit goes out
    quiet : (out : List Envelope) → completed_by ledger ran ≡ [] → new.sent ≡ old.sent ++ out
        → ((x : Envelope) → Contains out x → IsNoAsk x.msg)
        → ((n : ℕ) (r : RouterState) → slice_get new.routers n ≡ Some r
        → (slice_get old.routers n ≡ Some r) ⊎ (r.sessions ≡ []))
        → Stood before old → Stood further new
    quiet out none sent silent routers stood =
        let same : done before ≡ done further =
        sym (done_is ∙ ap (λ (us : List Unanswered). done before ++ us) none
        ∙ append-nil (done before)) in
        record {
          knows = λ n r at lsid s there.
              subst (λ (us : List Unanswered). DoingKnowsWrites us new.sent s.doing) same
              (subst (λ (x : List Envelope). DoingKnowsWrites (done before) x s.doing) (sym sent)
              (elim (routers n r at) [
                | inl w ↦ doing_on (done before) old.sent out silent s.doing
                    (stood.knows n r w lsid s there)
                | inr w ↦ absurd (no_session r lsid s w there)
              ]));
          last = λ c was.
              subst (λ (us : List Unanswered). NamesLast us c) same
              (stood.last c (still_sent (done before) old.sent out silent c
              (subst (λ (x : List Envelope). WasSent x c) sent was)));
        }

    -- a router that takes an event for which there is memory
    module _ (n : ℕ) (r : RouterState) (e : NodeEvent) (faults : ℕ)
        (there : slice_get old.routers n ≡ Some r)
        (ran_is : ran ≡ Step (Router n) e (did r e) faults)
        (routers : new.routers ≡ slice_set old.routers n (move_of r e).state)
        (sent : new.sent ≡ old.sent ++ given_out (did r e)) (stood : Stood before old) where
      abbrev now : List Unanswered
      now = completed_among (unanswered_behind n r e (did r e) ledger.unanswered)

      abbrev after : RouterState
      after = (move_of r e).state

      now_is : completed_by ledger ran ≡ now
      now_is = ap (completed_by ledger) ran_is
          ∙ ap (λ (o : Option RouterState). completed_at ledger n o e (did r e))
          (ap (λ (rs : List RouterState). slice_get rs n) booked.same ∙ there)

      both : done further ≡ done before ++ now
      both = done_is ∙ ap (λ (us : List Unanswered). done before ++ us) now_is

      here_now : slice_get new.routers n ≡ Some after
      here_now =
          ap (λ (rs : List RouterState). slice_get rs n) routers
          ∙ set_there old.routers n after r there

      trace_now : IsTrace start further (behind ++ old ∷ []) new
      trace_now = trace_on start before behind old ran new k step

      abbrev left : List Unanswered
      left = (ledger_behind (fresh_ledger start.routers) further).unanswered

      stands_now : RouterStands n (opened_in start.routers further) left
          (answered_in start.routers further) after
      stands_now =
          let b = all_booked chunks start further (behind ++ old ∷ []) new h.fresh trace_now in
          b.book.routers_stand n after
          (ap (λ (rs : List RouterState). slice_get rs n) b.same ∙ here_now)

      opened : (u : Unanswered) → Contains (done before) u
          → Contains begun (as_opened u)
      opened u c = (All-contains (IsCompleted old.sent begun) (done before) u
          (all_completed start before behind old k) c).comes.opened

      knows_at : (m : ℕ) (x : RouterState) → slice_get new.routers m ≡ Some x → (lsid : Lsid)
          (s : Session) → session_of x lsid ≡ Some s
          → DoingKnowsWrites (done before ++ now) (old.sent ++ given_out (did r e)) s.doing
      knows_at m x at lsid s in_it =
          elim (set_cases old.routers n m after x
          (ap (λ (rs : List RouterState). slice_get rs m) (sym routers) ∙ at)) [
            | inl w ↦ knows_now chunks is one old n r e begun ledger.unanswered told (done before)
                now there book stand stood.knows opened
                (λ u c wrote. told_now n r e (did r e) begun ledger.unanswered u
                book.lists.are_open c wrote) (opened_in start.routers further) left
                (answered_in start.routers further) stands_now lsid s
                (subst (λ (y : RouterState). session_of y lsid ≡ Some s) w.1 in_it)
            | inr w ↦ others_now chunks is one old n r e begun ledger.unanswered told (done before)
                now there book stand stood.knows opened
                (λ u c wrote. told_now n r e (did r e) begun ledger.unanswered u
                book.lists.are_open c wrote) (opened_in start.routers further) left
                (answered_in start.routers further) stands_now m x w.0 w.1 lsid s in_it
          ]

      last_of : (c : Commit) → WasSent (given_out (did r e)) c → NamesLast (done further) c
      last_of c was =
          let f = new_from chunks is one r e old.sent told (stand.routers n r there) c was in
          let chains = all_chains chunks start is one h.fresh (always_first chunks start h) further
          (behind ++ old ∷ []) new trace_now in
          let txn = subst (DoingChains (done further) chains.0 f.lsid) f.doing
          ((chains.1.routers n after here_now).sessions f.lsid f.session f.there) in
          let boot : boot_of f.t.parts 0 ≡ c.boot =
          ap (λ (parts : List (ℕ × ℕ)). boot_of parts 0) f.parts in (
            f.t.k,
            subst (λ (tag : Tag). KnownBoot (done further) tag f.t.k c.boot) (sym f.tag_is)
                (subst (KnownBoot (done further) f.t.tag f.t.k) boot (txn.boot f.settled)),
          )

      did_stood : Stood further new
      did_stood = record {
        knows = λ m x at lsid s in_it.
            subst (λ (us : List Unanswered). DoingKnowsWrites us new.sent s.doing) (sym both)
            (subst (λ (y : List Envelope). DoingKnowsWrites (done before ++ now) y s.doing)
            (sym sent) (knows_at m x at lsid s in_it));
        last = λ c was.
            let w = subst (λ (y : List Envelope). WasSent y c) sent was in
            elim (Contains-append_cases old.sent (given_out (did r e)) w.0 w.1) [
              | inl older ↦
                  let x = stood.last c (w.0, older, w.2) in (
                    x.0,
                    subst (λ (us : List Unanswered). KnownBoot us c.tag x.0 c.boot) (sym both)
                        (known_more (done before) now c.tag x.0 c.boot x.1),
                  )
              | inr newer ↦ last_of c (w.0, newer, w.2)
            ];
      }

    same_routers : new.routers ≡ old.routers → (n : ℕ) (r : RouterState)
        → slice_get new.routers n ≡ Some r
        → (slice_get old.routers n ≡ Some r) ⊎ (r.sessions ≡ [])
    same_routers e n r at = inl (sym (ap (λ (rs : List RouterState). slice_get rs n) e) ∙ at)

    want_stood : (want : Bool) (n : ℕ) (r : RouterState) (e : NodeEvent) (faults : ℕ)
        → slice_get old.routers n ≡ Some r
        → ran ≡ Step (Router n) e (sp.answer_of want (sp.router_step want r e)) faults
        → new.routers ≡ slice_set old.routers n (sp.router_step want r e).state
        → new.sent ≡ old.sent ++ given_out (sp.answer_of want (sp.router_step want r e))
        → Stood before old → Stood further new
    want_stood true n r e faults there ran_is routers sent stood =
        quiet [] (ap (completed_by ledger) ran_is
        ∙ ap (λ (o : Option RouterState). completed_at ledger n o e
        (sp.answer_of true (sp.router_step true r e)))
        (ap (λ (rs : List RouterState). slice_get rs n) booked.same ∙ there)) sent none_sent
        (same_routers (routers ∙ ap (slice_set old.routers n) (memory_state r e)
        ∙ set_same old.routers n r there)) stood
    want_stood false n r e faults there ran_is routers sent stood =
        did_stood n r e faults there ran_is
        (routers ∙ ap (slice_set old.routers n) (state_of r e)) sent stood

    pub step_stood : Stood before old → Stood further new
    step_stood stood = by ran refl step
      where
        by : (x : Ran) → ran ≡ x → Happens old x new → Stood further new
        by (Step (Router n) e a faults) at g =
            want_stood g.takes.0 n g.before e faults g.there
            (at ∙ ap (λ (x : NodeAnswer). Step (Router n) e x faults) g.takes.1)
            (ap (λ (w : Nodes). w.routers) g.nodes ∙ ap (slice_set old.routers n) g.takes.2)
            (ap (λ (w : Nodes). w.sent) g.nodes
            ∙ ap (λ (x : NodeAnswer). old.sent ++ given_out x) g.takes.1) stood
        by (Step (Shard n) e a faults) at g =
            quiet (given_out a) (ap (completed_by ledger) at) (ap (λ (w : Nodes). w.sent) g.nodes)
            (λ x c. All-contains E (given_out a) x (takes_gives g.before e a g.after g.takes) c)
            (same_routers (ap (λ (w : Nodes). w.routers) g.nodes)) stood
        by (Swapped (Shard n)) at g =
            quiet [] (ap (completed_by ledger) at)
            (ap (λ (w : Nodes). w.sent) g.nodes ∙ sym (append-nil old.sent)) none_sent
            (same_routers (ap (λ (w : Nodes). w.routers) g.nodes)) stood
        by (Swapped (Router n)) at g =
            quiet [] (ap (completed_by ledger) at)
            (ap (λ (w : Nodes). w.sent) g.nodes ∙ sym (append-nil old.sent)) none_sent
            (λ m x here. elim (set_cases old.routers n m (again n g.before) x
            (ap (λ (rs : List RouterState). slice_get rs m)
            (sym (ap (λ (w : Nodes). w.routers) g.nodes)) ∙ here)) [
              | inl w ↦ inr (ap (λ (y : RouterState). y.sessions) w.1)
              | inr w ↦ inl w.1
            ]) stood

    -- Where a commit was sent, no statement of its transaction is completed that tells of a write.

    commit_is : (c : Commit) → WasSent old.sent c → CommitFollows (Gave old.sent told) begun told c
    commit_is c was =
        subst (MsgFollows (Gave old.sent told) begun told was.0.to) was.2
        (All-contains (λ (x : Envelope). MsgFollows (Gave old.sent told) begun told x.to x.msg)
        old.sent was.0 stand.sent was.1)

    none_now : (c : Commit) → WasSent old.sent c → (u : Unanswered)
        → Contains (completed_by ledger ran) u → u.tag ≡ c.tag → TellsWrite u → ⊥
    none_now c was u there same w = by ran there
      where
        taken : (n : ℕ) (r : RouterState) (e : NodeEvent) (a : NodeAnswer)
            → Contains (completed_among (unanswered_behind n r e a ledger.unanswered)) u → ⊥
        taken n r e a there =
            let k = taken_of n ledger.unanswered u e.what (told_now n r e a begun ledger.unanswered
            u book.lists.are_open there w) in
            unreplied begun ledger.unanswered told book.lists c.tag k.1.old k.1.there
            (sym (ap (λ (x : Unanswered). x.tag) k.1.is) ∙ same) (commit_is c was).replied

        unless_memory : (n : ℕ) (r : RouterState) (e : NodeEvent) (a : NodeAnswer) (test : Bool)
            → Contains (if test then [] else completed_among
            (unanswered_behind n r e a ledger.unanswered)) u → ⊥
        unless_memory n r e a true there = none_there u there
        unless_memory n r e a false there = taken n r e a there

        at_router : (n : ℕ) (o : Option RouterState) (e : NodeEvent) (a : NodeAnswer)
            → Contains (completed_at ledger n o e a) u → ⊥
        at_router n None e a there = none_there u there
        at_router n (Some r) e a there = unless_memory n r e a (is_memory a) there

        by : (x : Ran) → Contains (completed_by ledger x) u → ⊥
        by (Step (Router n) e a faults) there =
            at_router n (slice_get ledger.routers n) e a there
        by (Step (Shard n) e a faults) there = none_there u there
        by (Swapped (Router n)) there = none_there u there
        by (Swapped (Shard n)) there = none_there u there

    pub older : (c : Commit) → WasSent old.sent c → (u : Unanswered) → Contains (done further) u
        → u.tag ≡ c.tag → TellsWrite u → Contains (done before) u
    older c was u there same w =
        elim (Contains-append_cases (done before) (completed_by ledger ran) u
        (subst (λ (us : List Unanswered). Contains us u) done_is there)) [
          | inl x ↦ x
          | inr x ↦ absurd (none_now c was u x same w)
        ]

  -- Runs.

  run_stood : (before : List Ran) (behind : List Nodes) (old : Nodes) (run : List Ran)
      (trace : List Nodes) (finish : Nodes) → IsTrace start before behind old
      → IsTrace old run trace finish → Stood before old → Stood (before ++ run) finish
  run_stood before behind old [] [] finish k more stood =
      subst (λ (l : List Ran). Stood l finish) (sym (append-nil before))
      (subst (Stood before) (sym more) stood)
  run_stood before behind old [] (x ∷ trace) finish k more stood = absurd more
  run_stood before behind old (ran ∷ run) [] finish k more stood = absurd more
  run_stood before behind old (ran ∷ run) (x ∷ trace) finish k more stood =
      subst (λ (l : List Ran). Stood l finish) (append_assoc before (ran ∷ []) run)
      (run_stood (before ++ ran ∷ []) (behind ++ old ∷ []) more.1.0 run trace finish
      (trace_on start before behind old ran more.1.0 k more.1.1) more.1.2
      (step_stood before behind old ran more.1.0 k more.1.1 stood))

  first_stood : Stood [] start
  first_stood = record {
    knows = λ n r at lsid s there.
        absurd (no_session r lsid s
        (ap (λ (x : RouterState). x.sessions) (h.fresh.routers n r at).1) there);
    last = λ c was.
        none_there was.0 (subst (λ (x : List Envelope). Contains x was.0) h.fresh.sent was.1);
  }

  pub all_stood : (run : List Ran) (trace : List Nodes) (finish : Nodes)
      → IsTrace start run trace finish → Stood run finish
  all_stood run trace finish k = run_stood [] [] start run trace finish refl k first_stood

  sent_on : (old : Nodes) (ran : Ran) (new : Nodes) → Happens old ran new → (c : Commit)
      → WasSent old.sent c → WasSent new.sent c
  sent_on old ran new step c was =
      let m = sent_more old ran new step in (
        was.0,
        subst (λ (x : List Envelope). Contains x was.0) (sym m.1)
            (Contains-append_left old.sent m.0 was.0 was.1),
        was.2,
      )

  -- what is completed of a transaction behind its commit, and tells of a write, was completed
  -- before
  pub was_done : (before : List Ran) (behind : List Nodes) (old : Nodes) (run : List Ran)
      (trace : List Nodes) (finish : Nodes) → IsTrace start before behind old
      → IsTrace old run trace finish → (c : Commit) → WasSent old.sent c → (u : Unanswered)
      → Contains (done (before ++ run)) u → u.tag ≡ c.tag → TellsWrite u
      → Contains (done before) u
  was_done before behind old [] [] finish k more c was u there same w =
      subst (λ (l : List Ran). Contains (done l) u) (append-nil before) there
  was_done before behind old [] (x ∷ trace) finish k more c was u there same w = absurd more
  was_done before behind old (ran ∷ run) [] finish k more c was u there same w = absurd more
  was_done before behind old (ran ∷ run) (x ∷ trace) finish k more c was u there same w =
      older before behind old ran more.1.0 k more.1.1 c was u
      (was_done (before ++ ran ∷ []) (behind ++ old ∷ []) more.1.0 run trace finish
      (trace_on start before behind old ran more.1.0 k more.1.1) more.1.2 c
      (sent_on old ran more.1.0 more.1.1 c was) u
      (subst (λ (l : List Ran). Contains (done l) u) (sym (append_assoc before (ran ∷ []) run))
      there) same w) same w
