-- What stands in each state of a run: to whom messages go that tell ends of transactions, and what
-- routers' sessions say of them.
use Rattle.std.proofs.Common.{◌≡◌, ◌⊎◌, inl, inr, ◌∙◌, ◌++◌, ℕ, zero, suc, Bool, true, false}
use Rattle.std.proofs.Common.{All, Contains, List, [], ◌∷◌, length, take, Some, None}
use Rattle.std.proofs.Common.{map, slice_get, slice_set, refl, sym, ap, subst}
use Rattle.std.proofs.lemmas.List.{append-nil, append_assoc}
use Rattle.std.proofs.lemmas.List.Elements.{All-nil, All-append, All-contains, All-weaker}
use Rattle.std.proofs.lemmas.List.Elements.{Contains-append_left}
use Rattle.txn_types.specs.BySession.{BySession, entry_of}
use Rattle.txn_types.specs.Letters.{sent_by, given_out}
use Rattle.txn_types.specs.declared.cause.Cause.{Cause}
use Rattle.txn_types.specs.declared.decision.Told.TheVariants as told_as
use Rattle.txn_types.specs.declared.event.Happening.{Happening}
use Rattle.txn_types.specs.declared.event.Happening.TheVariants as what
use Rattle.txn_types.specs.declared.event.NodeAnswer.{NodeAnswer}
use Rattle.txn_types.specs.declared.event.NodeEvent.{NodeEvent}
use Rattle.txn_types.specs.declared.message.Commit.{Commit}
use Rattle.txn_types.specs.declared.message.Envelope.{Envelope}
use Rattle.txn_types.specs.declared.message.Msg.{Msg}
use Rattle.txn_types.specs.declared.message.Msg.TheVariants as msg
use Rattle.txn_types.specs.declared.message.Outcome.{Outcome}
use Rattle.txn_types.specs.declared.names.Tag.{Tag}
use Rattle.txn_types.specs.declared.node.Lsid.{Lsid}
use Rattle.txn_types.specs.declared.node.NodeId.{NodeId}
use Rattle.txn_types.specs.declared.node.NodeId.TheVariants.{Shard, Router}
use Rattle.chunk_map.specs.Map.{Map, IsMap}
use Rattle.shard_core.specs.NodeStep.{NodeState}
use Rattle.router_state.specs.declared.state.Doing.{Doing}
use Rattle.router_state.specs.declared.state.Doing.TheVariants.{Begun, Sought}
use Rattle.router_state.specs.declared.state.Phase.{Phase}
use Rattle.router_state.specs.declared.state.Phase.TheVariants.{Idle, Asking, Checking, Deciding}
use Rattle.router_state.specs.declared.state.Phase.TheVariants.{Committed, Released, Aborted}
use Rattle.router_state.specs.declared.state.Session.{Session}
use Rattle.router_state.specs.declared.state.Transaction.{Transaction}
use Rattle.router_state.specs.State.{RouterState, session_of}
use Rattle.router_rules.specs.Times.{walled}
use Rattle.router_plan.specs.Spelling.{letter_of}
use Rattle.router_core.specs.Step as sp
use Rattle.txn_model.specs.Commits.{has_entry}
use Rattle.txn_model.specs.declared.ran.Ran.{Ran}
use Rattle.txn_model.specs.declared.ran.Ran.TheVariants.{Step, Swapped}
use Rattle.cluster_core.specs.Deciding.{WasReleased}
use Rattle.cluster_core.specs.Ledger.{fresh_ledger, ledger_behind, answered_in}
use Rattle.cluster_core.specs.Nodes.{Nodes, commits_of}
use Rattle.cluster_core.specs.Trace.{Happens, IsTrace, MayCome, ShardSteps}
use Rattle.cluster_core.specs.Trace.{again}
use Rattle.world_laws.specs.Joint.{Stands}
use Rattle.world_laws.proofs.Joint.{stands_step}
use Rattle.world_laws.proofs.Lists.{set_there}
use Rattle.answer_laws.specs.Opened.{opened_in}
use Rattle.answer_laws.proofs.Lists.{set_same}
use Rattle.answer_laws.proofs.Shards.{takes_gives, E, Other}
use Rattle.told_laws.proofs.Lists.{contained, map_has, set_cases}
use Rattle.told_laws.proofs.Running.{all_booked, memory_state}
use Rattle.told_laws.proofs.Standing.{RouterStands, DoingStands}
use Rattle.one_shard_laws.specs.Alone.{IsAlone, IsAskedAlone, EventAlone}
use Rattle.one_shard_laws.specs.Concluding.{StartsAlone}
use Rattle.one_shard_laws.specs.Lasting.{OneShard}
use Rattle.one_shard_laws.proofs.Asking.{router_asks}
use Rattle.one_shard_laws.proofs.Joint.{runs_alone}
use Rattle.commit_laws.proofs.Follows.{doing_on}
use Rattle.commit_laws.proofs.Running.{all_stand}
use Rattle.commit_laws.proofs.Standing.{Stand}
use Rattle.commit_laws.proofs.Stepping.{move_of, did, state_of}
use Rattle.commit_laws.specs.Speaking.{Gave}
use Rattle.decision_laws.specs.Ends.{IsUnasked, IsAborted}
use Rattle.decision_laws.proofs.Boots.{new_from}
use Rattle.decision_laws.proofs.Ending.{ended_never}
use Rattle.decision_laws.proofs.Lost.{trace_on, one_map}
use Rattle.decision_laws.proofs.Recorded.{stands_start}
use Rattle.right_laws.proofs.Tellings.Moving.{Any, Meets, RouterMeets, Ready, MsgHears}
use Rattle.right_laws.proofs.Tellings.Moving.{WhatHears, happened_meets}
use Rattle.right_laws.proofs.Tellings.Phases.{PhaseMeans, Hears, UnaskedNever}
use Rattle.right_laws.proofs.Tellings.Releasing.{AsksRelease, Says, SaysAt, takes_says}

-- Places of lists.

pub got_on : {A : Type 0} (xs ys : List A) (i : ℕ) (x : A) → slice_get xs i ≡ Some x
    → slice_get (xs ++ ys) i ≡ Some x
got_on [] ys i x e = let no : None ≡ Some x = e in cc
got_on (y ∷ xs) ys zero x e = e
got_on (y ∷ xs) ys (suc i) x e = got_on xs ys i x e

got_last : {A : Type 0} (xs : List A) (x : A) → slice_get (xs ++ x ∷ []) (length xs) ≡ Some x
got_last [] x = refl
got_last (y ∷ xs) x = got_last xs x

-- Who is told an end, and by whom.

abbrev pub MsgAddressed : NodeId → NodeId → Msg → Type 0
MsgAddressed from to (msg.Commit m) = from ≡ Router m.tag.router
MsgAddressed from to (msg.Outcome o) =
    (o.shard ≡ 0) × (o.told ≡ told_as.Released → to ≡ Router o.tag.router)
MsgAddressed from to other = Unit {0}

abbrev pub Addressed : Envelope → Type 0
Addressed e = MsgAddressed e.from e.to e.msg

release_to : (from to back : NodeId) (tag : Tag) (m : Msg) → MsgAddressed from to m
    → AsksRelease from m back tag → back ≡ Router tag.router
release_to from to back tag (msg.Commit m) h k =
    k.1 ∙ h ∙ ap (λ (t : Tag). Router t.router) k.0
release_to from to back tag other h k = absurd k

says_addressed : (d x : Envelope) (m : Msg) → Addressed d → Says d.from d.msg x.to m → Other m
    → MsgAddressed x.from x.to m
says_addressed d x (msg.Outcome o) h k other =
    (k.0, λ e. release_to d.from d.to x.to o.tag d.msg h (k.1 e))
says_addressed d x (msg.Commit m) h k other = absurd other
says_addressed d x (msg.Statement m) h k other = tt
says_addressed d x (msg.Answer m) h k other = tt
says_addressed d x (msg.Abort m) h k other = tt
says_addressed d x (msg.CommitTwo m) h k other = tt
says_addressed d x (msg.Prepare m) h k other = tt
says_addressed d x (msg.Vote m) h k other = tt
says_addressed d x (msg.Decide m) h k other = tt
says_addressed d x (msg.Acked m) h k other = tt
says_addressed d x (msg.Recover m) h k other = tt
says_addressed d x msg.Nudge h k other = tt

given_addressed : (sent : List Envelope) (node : NodeId) (w : Happening) (x : Envelope)
    → All Addressed sent → MayCome sent node w → SaysAt w x → Other x.msg → Addressed x
given_addressed sent node (what.Deliver d) x h comes k other =
    says_addressed d x x.msg (All-contains Addressed sent d h comes.0) k other
given_addressed sent node (what.Client conn bytes) x h comes k other = absurd k
given_addressed sent node (what.Gone conn) x h comes k other = absurd k
given_addressed sent node what.Resend x h comes k other = absurd k
given_addressed sent node what.Moment x h comes k other = absurd k

pub comes_alone : (sent : List Envelope) (node : NodeId) (w : Happening)
    → All (λ (e : Envelope). IsAlone e.msg) sent → MayCome sent node w → EventAlone w
comes_alone sent node (what.Deliver e) all h =
    All-contains (λ (e : Envelope). IsAlone e.msg) sent e all h.0
comes_alone sent node (what.Client conn frame) all h = tt
comes_alone sent node (what.Gone conn) all h = tt
comes_alone sent node what.Resend all h = tt
comes_alone sent node what.Moment all h = tt

asked_addressed : (from to : NodeId) (m : Msg) → IsAskedAlone m
    → ((c : Commit) → m ≡ msg.Commit c → from ≡ Router c.tag.router) → MsgAddressed from to m
asked_addressed from to (msg.Commit c) h f = f c refl
asked_addressed from to (msg.Outcome o) h f = absurd h
asked_addressed from to (msg.Statement m) h f = tt
asked_addressed from to (msg.Abort m) h f = tt
asked_addressed from to (msg.Recover m) h f = tt
asked_addressed from to msg.Nudge h f = tt
asked_addressed from to (msg.Answer m) h f = tt
asked_addressed from to (msg.CommitTwo m) h f = tt
asked_addressed from to (msg.Prepare m) h f = tt
asked_addressed from to (msg.Vote m) h f = tt
asked_addressed from to (msg.Decide m) h f = tt
asked_addressed from to (msg.Acked m) h f = tt

from_router : (r : RouterState) (e : NodeEvent) (x : Envelope) → Contains (given_out (did r e)) x
    → x.from ≡ Router (move_of r e).state.number
unfolding sp.router_step
from_router r e x c =
    let m = move_of r e in
    let a = map_has (sent_by (Router m.state.number) m.state.time)
    (map letter_of (m.given.aborts ++ m.given.sends)) x c in
    ap (λ (y : Envelope). y.from) a.2

-- What was sent stays so.
pub sent_later : (old : Nodes) (run : List Ran) (trace : List Nodes) (now : Nodes)
    → IsTrace old run trace now → (x : Envelope) → Contains old.sent x → Contains now.sent x
sent_later old [] [] now h x c =
    subst (λ (n : Nodes). Contains n.sent x) (sym h) c
sent_later old [] (nodes ∷ trace) now h x c = absurd h
sent_later old (ran ∷ run) [] now h x c = absurd h
sent_later old (ran ∷ run) (nodes ∷ trace) now h x c =
    sent_later h.1.0 run trace now h.1.2 x (step_later ran h.1.1)
  where
    step_later : (r : Ran) → Happens old r h.1.0 → Contains h.1.0.sent x
    step_later (Step (Shard n) e a faults) k =
        subst (λ (s : List Envelope). Contains s x) (sym (ap (λ (w : Nodes). w.sent) k.nodes))
        (Contains-append_left old.sent (given_out a) x c)
    step_later (Step (Router n) e a faults) k =
        subst (λ (s : List Envelope). Contains s x) (sym (ap (λ (w : Nodes). w.sent) k.nodes))
        (Contains-append_left old.sent (given_out a) x c)
    step_later (Swapped (Shard n)) k =
        subst (λ (s : List Envelope). Contains s x) (sym (ap (λ (w : Nodes). w.sent) k.nodes)) c
    step_later (Swapped (Router n)) k =
        subst (λ (s : List Envelope). Contains s x) (sym (ap (λ (w : Nodes). w.sent) k.nodes)) c

-- Where more is known, or more has happened.

module _ (C R A N C' R' A' N' : Tag → Type 0) (c : (tag : Tag) → C tag → C' tag)
    (r : (tag : Tag) → R tag → R' tag) (a : (tag : Tag) → A tag → A' tag)
    (n : (tag : Tag) (wrote : List ℕ) → PhaseMeans C R A N tag wrote (Aborted false)
    → PhaseMeans C' R' A' N' tag wrote (Aborted false)) where
  phase_on : (tag : Tag) (wrote : List ℕ) (p : Phase) → PhaseMeans C R A N tag wrote p
      → PhaseMeans C' R' A' N' tag wrote p
  phase_on tag wrote Idle h = tt
  phase_on tag wrote (Asking asker op answers) h = tt
  phase_on tag wrote (Checking asker) h = h
  phase_on tag wrote (Deciding asker) h = h
  phase_on tag wrote Committed h = c tag h
  phase_on tag wrote Released h = r tag h
  phase_on tag wrote (Aborted true) (inl h) = inl (a tag h)
  phase_on tag wrote (Aborted true) (inr h) = inr h
  phase_on tag wrote (Aborted false) h = n tag wrote h

  meets_on : (doing : Doing) → Meets C R A N doing → Meets C' R' A' N' doing
  meets_on (Begun t) h = (phase_on t.tag t.wrote t.phase h.0, h.1)
  meets_on (Sought seeking known) h = (All-weaker C C' c known h.0, tt)

-- `A` is known of each transaction that is told as aborted, `T` of each that is told as committed.

module _ (chunks : Map) (is : IsMap chunks) (start : Nodes) (h : StartsAlone chunks start)
    (now : Nodes) (T A : Tag → Type 0)
    (told_committed : (e : Envelope) (o : Outcome) (at : ℕ) → Contains now.sent e
    → e.msg ≡ msg.Outcome o → o.told ≡ told_as.Committed at → T o.tag)
    (told_aborted : (e : Envelope) (o : Outcome) (why : Cause) → Contains now.sent e
    → e.msg ≡ msg.Outcome o → o.told ≡ told_as.Aborted why → A o.tag) where
  abbrev pub Took : List Ran → Tag → Type 0
  Took run tag = WasReleased run tag 0

  abbrev pub Done : List Ran → Tag → Type 0
  Done run tag = T tag ⊎ Took run tag

  abbrev pub Never : Tag → Type 0
  Never tag = has_entry (commits_of now) tag ≡ false

  took_on : (run more : List Ran) (tag : Tag) → Took run tag → Took (run ++ more) tag
  took_on run more tag k = record {
    place = k.place;
    wall = k.wall;
    answer = k.answer;
    faults = k.faults;
    envelope = k.envelope;
    outcome = k.outcome;
    step = got_on run more k.place _ k.step;
    msg = k.msg;
    of = k.of;
    from = k.from;
    told = k.told;
  }

  done_on : (run more : List Ran) (tag : Tag) → Done run tag → Done (run ++ more) tag
  done_on run more tag (inl k) = inl k
  done_on run more tag (inr k) = inr (took_on run more tag k)

  abbrev pub Right : List Ran → RouterState → Type 0
  Right run r = RouterMeets (Done run) (Took run) A Never r

  pub record Stood (run : List Ran) (nodes : Nodes) : Type 0 where
    pub sent : All Addressed nodes.sent
    pub routers : (n : ℕ) (r : RouterState) → slice_get nodes.routers n ≡ Some r → Right run r

  right_on : (run more : List Ran) (r : RouterState) → Right run r → Right (run ++ more) r
  right_on run more r k lsid s there =
      meets_on (Done run) (Took run) A Never (Done (run ++ more)) (Took (run ++ more)) A Never
      (done_on run more) (took_on run more) (λ tag x. x) (λ tag wrote x. x) s.doing
      (k lsid s there)

  -- A step, behind a run.

  module _ (before : List Ran) (behind : List Nodes) (old : Nodes) (ran : Ran) (new : Nodes)
      (run : List Ran) (trace : List Nodes) (k : IsTrace start before behind old)
      (step : Happens old ran new) (more : IsTrace new run trace now) (stood : Stood before old)
    where
      abbrev further : List Ran
      further = before ++ ran ∷ []

      one : OneShard old
      one = runs_alone chunks start before behind old h k

      stand : Stand chunks old (opened_in start.routers before) (answered_in start.routers before)
      stand = all_stand chunks is (one_map chunks start h) start h.fresh before behind old k

      -- a router that takes an event for which there is memory
      module _ (n : ℕ) (r : RouterState) (e : NodeEvent) (faults : ℕ)
          (there : slice_get old.routers n ≡ Some r) (comes : MayCome old.sent (Router n) e.what)
          (ran_is : ran ≡ Step (Router n) e (did r e) faults)
          (routers : new.routers ≡ slice_set old.routers n (move_of r e).state) where
        abbrev after : RouterState
        after = (move_of r e).state

        here_now : slice_get new.routers n ≡ Some after
        here_now =
            ap (λ (rs : List RouterState). slice_get rs n) routers
            ∙ set_there old.routers n after r there

        -- one that isn't asked to commit before the step
        record WasUnasked (tag : Tag) : Type 0 where
          lsid : Lsid
          session : Session
          in_it : session_of r lsid ≡ Some session
          t : Transaction
          doing : session.doing ≡ Begun t
          tag_is : t.tag ≡ tag
          unasked : IsUnasked t.phase

        abbrev Ends : Tag → Type 0
        Ends tag = Never tag ⊎ WasUnasked tag

        never_case : (lsid : Lsid) (s : Session) (doing : Doing) → session_of r lsid ≡ Some s
            → s.doing ≡ doing
            → UnaskedNever (Done further) (Took further) A Ends doing
        never_case lsid s (Begun t) at is_t = λ u. inr (record {
          lsid = lsid;
          session = s;
          in_it = at;
          t = t;
          doing = is_t;
          tag_is = refl;
          unasked = u;
        })
        never_case lsid s (Sought seeking known) at is_t = tt

        ready : Ready (Done further) (Took further) A Ends (walled r e.wall)
        ready = (
          λ lsid s at. meets_on (Done before) (Took before) A Never (Done further) (Took further) A
              Ends (done_on before (ran ∷ [])) (took_on before (ran ∷ [])) (λ tag x. x)
              (λ tag wrote x. inl x) s.doing (stood.routers n r there lsid s at),
          (
            λ lsid s at. never_case lsid s s.doing at refl,
            λ lsid s at. doing_on (Gave old.sent (answered_in start.routers before)) Any
                (λ tag j boot g. tt) s.doing ((stand.routers n r there).follows lsid s at),
          ),
        )

        router_same : (a b : ℕ) → Router a ≡ Router b → a ≡ b
        router_same a b e1 = cc

        hears : (x : Envelope) (o : Outcome) → e.what ≡ what.Deliver x → x.msg ≡ msg.Outcome o
            → Hears (Done further) (Took further) A Ends o
        hears x o w m =
            let c = subst (MayCome old.sent (Router n)) w comes in
            let then : Contains now.sent x = sent_later old (ran ∷ run) (old ∷ trace) now
            (refl, (new, step, more)) x c.0 in
            let addressed : MsgAddressed x.from x.to (msg.Outcome o) =
            subst (MsgAddressed x.from x.to) m (All-contains Addressed old.sent x stood.sent c.0) in
            let took : o.told ≡ told_as.Released → Took further o.tag = λ told. record {
              place = length before;
              wall = e.wall;
              answer = did r e;
              faults = faults;
              envelope = x;
              outcome = o;
              step = got_last before ran ∙ ap Some (ran_is
                  ∙ ap (λ (i : ℕ). Step (Router i) e (did r e) faults)
                  (router_same n o.tag.router (sym c.1 ∙ addressed.1 told))
                  ∙ ap (λ (y : Happening). Step (Router o.tag.router)
                  (record { wall = e.wall; what = y }) (did r e) faults) w);
              msg = m;
              of = refl;
              from = addressed.0;
              told = told;
            } in
            record {
              committed = λ at told. inl (told_committed x o at then m told);
              released = λ told. (took told, inr (took told));
              aborted = λ why told. told_aborted x o why then m told;
            }

        msg_hears : (x : Envelope) (m : Msg) → e.what ≡ what.Deliver x → x.msg ≡ m
            → MsgHears (Done further) (Took further) A Ends m
        msg_hears x (msg.Outcome o) w is_m = hears x o w is_m
        msg_hears x (msg.Commit o) w is_m = tt
        msg_hears x (msg.Statement o) w is_m = tt
        msg_hears x (msg.Answer o) w is_m = tt
        msg_hears x (msg.Abort o) w is_m = tt
        msg_hears x (msg.CommitTwo o) w is_m = tt
        msg_hears x (msg.Prepare o) w is_m = tt
        msg_hears x (msg.Vote o) w is_m = tt
        msg_hears x (msg.Decide o) w is_m = tt
        msg_hears x (msg.Acked o) w is_m = tt
        msg_hears x (msg.Recover o) w is_m = tt
        msg_hears x msg.Nudge w is_m = tt

        what_hears : (w : Happening) → e.what ≡ w → WhatHears (Done further) (Took further) A Ends w
        what_hears (what.Deliver x) w = msg_hears x x.msg w refl
        what_hears (what.Client conn bytes) w = tt
        what_hears (what.Gone conn) w = tt
        what_hears what.Resend w = tt
        what_hears what.Moment w = tt

        met_now : RouterMeets (Done further) (Took further) A Ends after
        met_now =
            happened_meets (Done further) (Took further) A Ends (walled r e.wall) e.what ready
            (what_hears e.what refl)

        -- what ended at this step is never committed
        settles : (lsid : Lsid) (s : Session) (t : Transaction) → session_of after lsid ≡ Some s
            → s.doing ≡ Begun t → IsAborted t.phase → Ends t.tag → Never t.tag
        settles lsid s t at is_t aborted (inl x) = x
        settles lsid s t at is_t aborted (inr u) =
            ended_never chunks start before behind old ran new run trace now is h k step more t.tag
            (record {
              n = n;
              before = r;
              there = there;
              lsid = u.lsid;
              session = u.session;
              in_it = u.in_it;
              t = u.t;
              doing = u.doing;
              tag_is = u.tag_is;
              unasked = u.unasked;
              after = after;
              there_after = here_now;
              lsid_after = lsid;
              session_after = s;
              in_after = at;
              t_after = t;
              doing_after = is_t;
              tag_after = refl;
              aborted = aborted;
            })

        settled_phase : (t : Transaction) (p : Phase) → (IsAborted p → Ends t.tag → Never t.tag)
            → PhaseMeans (Done further) (Took further) A Ends t.tag t.wrote p
            → PhaseMeans (Done further) (Took further) A Never t.tag t.wrote p
        settled_phase t Idle f x = tt
        settled_phase t (Asking asker op answers) f x = tt
        settled_phase t (Checking asker) f x = x
        settled_phase t (Deciding asker) f x = x
        settled_phase t Committed f x = x
        settled_phase t Released f x = x
        settled_phase t (Aborted true) f x = x
        settled_phase t (Aborted false) f x = f tt x

        settled : (lsid : Lsid) (s : Session) (doing : Doing) → session_of after lsid ≡ Some s
            → s.doing ≡ doing → Meets (Done further) (Took further) A Ends doing
            → Meets (Done further) (Took further) A Never doing
        settled lsid s (Begun t) at is_t x =
            (settled_phase t t.phase (λ aborted. settles lsid s t at is_t aborted) x.0, x.1)
        settled lsid s (Sought seeking known) at is_t x = x

        right_now : Right further after
        right_now lsid s at = settled lsid s s.doing at refl (met_now lsid s at)

        routers_now : (j : ℕ) (x : RouterState) → slice_get new.routers j ≡ Some x
            → Right further x
        routers_now j x at =
            elim (set_cases old.routers n j after x
            (ap (λ (rs : List RouterState). slice_get rs j) (sym routers) ∙ at)) [
              | inl w ↦ subst (Right further) (sym w.1) right_now
              | inr w ↦ right_on before (ran ∷ []) x (stood.routers j x w.1)
            ]

        -- What goes out.

        stands_now : RouterStands n (opened_in start.routers further)
            (ledger_behind (fresh_ledger start.routers) further).unanswered
            (answered_in start.routers further) after
        stands_now =
            let b = all_booked chunks start further (behind ++ old ∷ []) new h.fresh
            (trace_on start before behind old ran new k step) in
            b.book.routers_stand n after
            (ap (λ (rs : List RouterState). slice_get rs n) b.same ∙ here_now)

        commit_from : (x : Envelope) (c : Commit) → Contains (given_out (did r e)) x
            → x.msg ≡ msg.Commit c → x.from ≡ Router c.tag.router
        commit_from x c there_x is_c =
            let f = new_from chunks is (one_map chunks start h) r e old.sent
            (answered_in start.routers before) (stand.routers n r there) c (x, there_x, is_c) in
            let own = (subst (DoingStands n after (opened_in start.routers further)
            (ledger_behind (fresh_ledger start.routers) further).unanswered
            (answered_in start.routers further)) f.doing
            (stands_now.sessions f.lsid f.session f.there)).0 in
            from_router r e x there_x
            ∙ ap (λ (i : ℕ). Router i) (sym (ap (λ (t : Tag). t.router) f.tag_is ∙ own.router))

        out_addressed : All Addressed (given_out (did r e))
        out_addressed =
            let asked = (router_asks false r e
            (comes_alone old.sent (Router n) e.what one.alone comes)
            (one.routers n r there)).1 in
            contained Addressed (given_out (did r e)) (λ x c.
            asked_addressed x.from x.to x.msg
            (All-contains (λ (y : Envelope). IsAskedAlone y.msg) (given_out (did r e)) x asked c)
            (λ m is_m. commit_from x m c is_m))

        did_stood : new.sent ≡ old.sent ++ given_out (did r e) → Stood further new
        did_stood sent = record {
          sent = subst (All Addressed) (sym sent)
              (All-append Addressed old.sent (given_out (did r e)) stood.sent out_addressed);
          routers = routers_now;
        }

      -- the routers are as they were
      still_stood : (out : List Envelope) → new.routers ≡ old.routers → new.sent ≡ old.sent ++ out
          → All Addressed out → Stood further new
      still_stood out routers sent all = record {
        sent = subst (All Addressed) (sym sent) (All-append Addressed old.sent out stood.sent all);
        routers = λ n r at.
            right_on before (ran ∷ []) r (stood.routers n r
            (ap (λ (rs : List RouterState). slice_get rs n) (sym routers) ∙ at));
      }

      want_stood : (want : Bool) (n : ℕ) (r : RouterState) (e : NodeEvent) (faults : ℕ)
          → slice_get old.routers n ≡ Some r → MayCome old.sent (Router n) e.what
          → ran ≡ Step (Router n) e (sp.answer_of want (sp.router_step want r e)) faults
          → new.routers ≡ slice_set old.routers n (sp.router_step want r e).state
          → new.sent ≡ old.sent ++ given_out (sp.answer_of want (sp.router_step want r e))
          → Stood further new
      want_stood true n r e faults there comes ran_is routers sent =
          still_stood [] (routers ∙ ap (slice_set old.routers n) (memory_state r e)
          ∙ set_same old.routers n r there) sent (All-nil Addressed)
      want_stood false n r e faults there comes ran_is routers sent =
          did_stood n r e faults there comes ran_is
          (routers ∙ ap (slice_set old.routers n) (state_of r e)) sent

      nothing_in : (sessions : BySession Session) (lsid : Lsid) (s : Session) → sessions ≡ []
          → entry_of lsid sessions ≡ Some s → ⊥
      nothing_in sessions lsid s none at =
          let no : None ≡ Some s =
          sym (ap (λ (xs : BySession Session). entry_of lsid xs) none) ∙ at in
          cc

      again_stood : (n : ℕ) (r : RouterState) → new.routers ≡ slice_set old.routers n (again n r)
          → new.sent ≡ old.sent → Stood further new
      again_stood n r routers sent = record {
        sent = subst (All Addressed) (sym sent) stood.sent;
        routers = λ j x at.
            elim (set_cases old.routers n j (again n r) x
            (ap (λ (rs : List RouterState). slice_get rs j) (sym routers) ∙ at)) [
              | inl w ↦ λ lsid s there. absurd (nothing_in x.sessions lsid s
                  (ap (λ (y : RouterState). y.sessions) w.1) there)
              | inr w ↦ right_on before (ran ∷ []) x (stood.routers j x w.1)
            ];
      }

      shard_own : Stands old → (n : ℕ) (e : NodeEvent) (a : NodeAnswer) (faults : ℕ)
          → ShardSteps old n e a faults new → All Addressed (given_out a)
      shard_own stands n e a faults g =
          let at = only_there one.node g.before n
          (subst (λ (shards : List NodeState). slice_get shards n ≡ Some g.before) one.shards
          g.there) in
          let own : g.before.core.part.shard ≡ 0 =
          (stands.reads.shards n g.before g.there).own ∙ at.0 in
          let none : g.before.core.stopped ≡ None → one.node.core.coord ≡ [] =
          λ running. (one.right.runs (ap (λ (x : NodeState). x.core.stopped) (sym at.1)
          ∙ running)).2.coord in
          let says = takes_says g.before e a g.after g.takes own
          (λ running. ap (λ (x : NodeState). x.core.coord) at.1 ∙ none running)
          (comes_alone old.sent (Shard n) e.what one.alone g.comes) in
          contained Addressed (given_out a) (λ x c.
          given_addressed old.sent (Shard n) e.what x stood.sent g.comes
          (All-contains (SaysAt e.what) (given_out a) x says c)
          (All-contains E (given_out a) x (takes_gives g.before e a g.after g.takes) c))
        where
          only_there : (x y : NodeState) (i : ℕ) → slice_get (x ∷ []) i ≡ Some y
              → (i ≡ 0) × (y ≡ x)
          only_there x y zero e1 = (refl, some_is x y e1)
            where
              some_is : (a b : NodeState) → Some a ≡ Some b → b ≡ a
              some_is a b e2 = cc
          only_there x y (suc i) e1 = let no : None ≡ Some y = e1 in cc

      step_stood : (r : Ran) → ran ≡ r → Happens old r new → Stands old → Stood further new
      step_stood (Step (Router n) e a faults) is_r g stands =
          want_stood g.takes.0 n g.before e faults g.there g.comes
          (is_r ∙ ap (λ (x : NodeAnswer). Step (Router n) e x faults) g.takes.1)
          (ap (λ (w : Nodes). w.routers) g.nodes ∙ ap (slice_set old.routers n) g.takes.2)
          (ap (λ (w : Nodes). w.sent) g.nodes
          ∙ ap (λ (x : NodeAnswer). old.sent ++ given_out x) g.takes.1)
      step_stood (Step (Shard n) e a faults) is_r g stands =
          still_stood (given_out a) (ap (λ (w : Nodes). w.routers) g.nodes)
          (ap (λ (w : Nodes). w.sent) g.nodes) (shard_own stands n e a faults g)
      step_stood (Swapped (Router n)) is_r g stands =
          again_stood n g.before (ap (λ (w : Nodes). w.routers) g.nodes)
          (ap (λ (w : Nodes). w.sent) g.nodes)
      step_stood (Swapped (Shard n)) is_r g stands =
          still_stood [] (ap (λ (w : Nodes). w.routers) g.nodes)
          (ap (λ (w : Nodes). w.sent) g.nodes ∙ sym (append-nil old.sent)) (All-nil Addressed)

  -- A run.

  some_nodes : (a b : Nodes) → Some a ≡ Some b → b ≡ a
  some_nodes a b e = cc

  stood_from : (before : List Ran) (behind : List Nodes) (old : Nodes) (run : List Ran)
      (trace : List Nodes) → IsTrace start before behind old → IsTrace old run trace now
      → Stands old → Stood before old → (i : ℕ) (nodes : Nodes)
      → slice_get (trace ++ now ∷ []) i ≡ Some nodes → Stood (before ++ take i run) nodes
  stood_from before behind old [] [] k more stands stood zero nodes at =
      subst (λ (l : List Ran). Stood l nodes) (sym (append-nil before))
      (subst (Stood before) (sym (some_nodes now nodes at ∙ more)) stood)
  stood_from before behind old [] [] k more stands stood (suc i) nodes at =
      let no : None ≡ Some nodes = at in cc
  stood_from before behind old [] (x ∷ trace) k more stands stood i nodes at = absurd more
  stood_from before behind old (ran ∷ run) [] k more stands stood i nodes at = absurd more
  stood_from before behind old (ran ∷ run) (x ∷ trace) k more stands stood zero nodes at =
      subst (λ (l : List Ran). Stood l nodes) (sym (append-nil before))
      (subst (Stood before) (sym (some_nodes x nodes at ∙ more.0)) stood)
  stood_from before behind old (ran ∷ run) (x ∷ trace) k more stands stood (suc i) nodes at =
      subst (λ (l : List Ran). Stood l nodes) (append_assoc before (ran ∷ []) (take i run))
      (stood_from (before ++ ran ∷ []) (behind ++ old ∷ []) more.1.0 run trace
      (trace_on start before behind old ran more.1.0 k more.1.1) more.1.2
      (stands_step old ran more.1.0 more.1.1 stands)
      (step_stood before behind old ran more.1.0 run trace k more.1.1 more.1.2 stood ran refl
      more.1.1 stands) i nodes at)

  stood_first : Stood [] start
  stood_first = record {
    sent = subst (All Addressed) (sym h.fresh.sent) (All-nil Addressed);
    routers = λ n r at lsid s there.
        let b = h.fresh.routers n r at in
        let no : None ≡ Some s =
        ap (λ (x : RouterState). session_of x lsid) (sym b.1) ∙ there in
        absurd (no_session s no);
  }
    where
      no_session : (s : Session) → None ≡ Some s → ⊥
      no_session s e = cc

  pub stood_at : (run : List Ran) (trace : List Nodes) → IsTrace start run trace now → (i : ℕ)
      (nodes : Nodes) → slice_get (trace ++ now ∷ []) i ≡ Some nodes → Stood (take i run) nodes
  stood_at run trace k i nodes at =
      stood_from [] [] start run trace refl k (stands_start chunks start h) stood_first i nodes at
