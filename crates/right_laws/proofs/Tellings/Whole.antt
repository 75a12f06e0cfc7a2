-- Each telling of a run has its ground.
use Rattle.std.proofs.Common.{◌≡◌, ◌⊎◌, inl, inr, ◌∙◌, ◌+◌, ◌++◌, ℕ, zero, suc, Bool, true, false}
use Rattle.std.proofs.Common.{All, Contains, List, [], ◌∷◌, take, Option, Some, None}
use Rattle.std.proofs.Common.{slice_get, refl, sym, ap, subst}
use Rattle.std.proofs.lemmas.List.Elements.{All-contains, Contains-append_right}
use Rattle.txn_types.specs.Letters.{given_out}
use Rattle.txn_types.specs.declared.cause.Cause.{Cause}
use Rattle.txn_types.specs.declared.decision.Told.TheVariants as told_as
use Rattle.txn_types.specs.declared.event.Happening.{Happening}
use Rattle.txn_types.specs.declared.event.Happening.TheVariants as what
use Rattle.txn_types.specs.declared.event.NodeAnswer.{NodeAnswer}
use Rattle.txn_types.specs.declared.event.NodeAnswer.TheVariants as answer
use Rattle.txn_types.specs.declared.event.NodeEvent.{NodeEvent}
use Rattle.txn_types.specs.declared.message.Envelope.{Envelope}
use Rattle.txn_types.specs.declared.message.Msg.{Msg}
use Rattle.txn_types.specs.declared.message.Msg.TheVariants as msg
use Rattle.txn_types.specs.declared.message.Outcome.{Outcome}
use Rattle.txn_types.specs.declared.message.Statement.{Statement}
use Rattle.txn_types.specs.declared.names.Tag.{Tag}
use Rattle.txn_types.specs.declared.node.Lsid.{Lsid}
use Rattle.txn_types.specs.declared.node.NodeId.{NodeId}
use Rattle.txn_types.specs.declared.node.NodeId.TheVariants.{Shard, Router}
use Rattle.chunk_map.specs.Map.{Map, IsMap}
use Rattle.router_state.specs.declared.state.Doing.{Doing}
use Rattle.router_state.specs.declared.state.Doing.TheVariants.{Begun, Sought}
use Rattle.router_state.specs.declared.state.Phase.{Phase}
use Rattle.router_state.specs.declared.state.Phase.TheVariants.{Idle, Asking, Checking, Deciding}
use Rattle.router_state.specs.declared.state.Phase.TheVariants.{Committed, Released, Aborted}
use Rattle.router_state.specs.declared.state.Session.{Session}
use Rattle.router_state.specs.declared.state.Transaction.{Transaction}
use Rattle.router_state.specs.State.{RouterState, session_of}
use Rattle.router_core.specs.Step as sp
use Rattle.txn_model.specs.Commits.{has_entry}
use Rattle.txn_model.specs.declared.ran.Ran.{Ran}
use Rattle.txn_model.specs.declared.ran.Ran.TheVariants.{Step}
use Rattle.cluster_core.specs.Answering.{statement_in}
use Rattle.cluster_core.specs.Deciding.{AllReleased, WasAsked, WasReleased}
use Rattle.cluster_core.specs.Ledger.{answered_in, all_replied}
use Rattle.cluster_core.specs.Nodes.{Nodes, commits_of}
use Rattle.cluster_core.specs.Replying.{Replied}
use Rattle.cluster_core.specs.Telling.{Telling, Meant, Done, Undone, Caused, meant_by, telling_of}
use Rattle.cluster_core.specs.Telling.{telling_by, told_in}
use Rattle.cluster_core.specs.Trace.{IsTrace, MayCome, RouterSteps}
use Rattle.world_laws.proofs.Lists.{set_there}
use Rattle.answer_laws.specs.Opened.{opened_in}
use Rattle.abort_laws.proofs.Places.{Placed, place_of}
use Rattle.one_shard_laws.specs.Concluding.{StartsAlone}
use Rattle.commit_laws.specs.Speaking.{Gave, MsgFollows}
use Rattle.commit_laws.proofs.Running.{all_stand}
use Rattle.commit_laws.proofs.Stepping.{move_of, did, state_of}
use Rattle.decision_laws.specs.Ends.{IsAborted, IsThere, TellsRight}
use Rattle.decision_laws.proofs.Recorded.{commits_told}
use Rattle.txn_types.specs.declared.decision.Told.{Told}
use Rattle.shard_core.specs.NodeStep.{NodeState}
use Rattle.world_laws.specs.Joint.{DisksStand, DiskStands}
use Rattle.world_laws.proofs.Joint.{new_disk}
use Rattle.right_laws.proofs.Hands.Running.{all_came}
use Rattle.right_laws.specs.Grounds.{WasToldAborted, IsWriteless, GroundOf, AllGrounded}
use Rattle.decision_laws.proofs.Lost.{one_map}
use Rattle.making_laws.proofs.Hearing.{mapped_in}
use Rattle.right_laws.specs.Said.{Came}
use Rattle.right_laws.proofs.Tellings.Grounds.{Stands, WhatTold, MsgTold, heard_stands}
use Rattle.right_laws.proofs.Tellings.Grounds.{served_stands}
use Rattle.right_laws.proofs.Tellings.Kept.{DoingKeeps}
use Rattle.right_laws.proofs.Tellings.Moving.{Meets}
use Rattle.right_laws.proofs.Tellings.Phases.{PhaseMeans}
use Rattle.right_laws.proofs.Tellings.Reached.{Stood, stood_at, sent_later, got_on}
use Rattle.told_laws.proofs.Lists.{contained}
use Rattle.right_laws.proofs.Tellings.Saying.{MeantGround, IsKnownDone, IsDoneIn, IsUndoneIn}
use Rattle.right_laws.proofs.Tellings.Saying.{IsLostIn}

some_is : {A : Type 0} (a b : A) → Some a ≡ Some b → a ≡ b
some_is a b e = cc

no_some : {A X : Type 0} (a : A) → None ≡ Some a → X
no_some a e = cc

no_true : {X : Type 0} → true ≡ false → X
no_true e = cc

-- a place before the one where the list was cut
took_at : {A : Type 0} (n : ℕ) (xs : List A) (i : ℕ) (x : A) → slice_get (take n xs) i ≡ Some x
    → slice_get xs i ≡ Some x
took_at zero [] i x e = no_some x e
took_at (suc n) [] i x e = no_some x e
took_at zero (y ∷ xs) i x e = no_some x e
took_at (suc n) (y ∷ xs) zero x e = e
took_at (suc n) (y ∷ xs) (suc i) x e = took_at n xs i x e

not_memory : {X : Type 0} (turn : sp.RouterTurn) → sp.answer_of false turn ≡ answer.Memory → X
not_memory turn e = cc

no_cons_at : {X : Type 0} (i : ℕ) (ran : Ran) → slice_get [] i ≡ Some ran → X
no_cons_at i ran e = no_some ran e

-- the nodes before a step of a run
at_of : (old : Nodes) (run : List Ran) (trace : List Nodes) (now : Nodes)
    → IsTrace old run trace now → (i : ℕ) (ran : Ran) → slice_get run i ≡ Some ran
    → (nodes : Nodes) × (slice_get trace i ≡ Some nodes)
at_of old [] [] now t i ran e = no_cons_at i ran e
at_of old [] (y ∷ trace) now t i ran e = absurd t
at_of old (x ∷ run) [] now t i ran e = absurd t
at_of old (x ∷ run) (y ∷ trace) now t zero ran e = (y, refl)
at_of old (x ∷ run) (y ∷ trace) now t (suc i) ran e =
    at_of t.1.0 run trace now t.1.2 i ran e

-- a part of a statement is a message to its shard
part_is : (e : Envelope) (m : Msg) (to : NodeId) (part : ℕ × Statement) → e.msg ≡ m → e.to ≡ to
    → statement_in e ≡ Some part → (e.msg ≡ msg.Statement part.1) × (e.to ≡ Shard part.0)
part_is e (msg.Statement m) (Shard n) part is to h =
    let here : statement_in e ≡ Some (n, m) = rw (is, to) refl in
    let same = some_is (n, m) part (sym here ∙ h) in (
      is ∙ ap (λ (p : ℕ × Statement). msg.Statement p.1) same,
      to ∙ ap (λ (p : ℕ × Statement). Shard p.0) same,
    )
part_is e (msg.Statement m) (Router n) part is to h =
    let here : statement_in e ≡ None = rw (is, to) refl in no_some part (sym here ∙ h)
part_is e other to part is at h =
    let here : statement_in e ≡ None = rw is refl in no_some part (sym here ∙ h)

shard_same : (a b : ℕ) → Shard a ≡ Shard b → a ≡ b
shard_same a b e = cc

only_node : (x y : NodeState) (n : ℕ) → slice_get (x ∷ []) n ≡ Some y → x ≡ y
only_node x y zero e = some_is x y e
only_node x y (suc n) e = no_some y e

-- the shard's disk is new
pub first_disks : (chunks : Map) (start : Nodes) → StartsAlone chunks start → DisksStand start
first_disks chunks start h number n at =
    subst (λ (x : NodeState). DiskStands start x.records)
    (only_node h.node n number
    (subst (λ (shards : List NodeState). slice_get shards number ≡ Some n) h.shards at))
    (new_disk start 0 h.faults h.node h.starts)

module _ (chunks : Map) (is : IsMap chunks) (start : Nodes) (h : StartsAlone chunks start)
    (run : List Ran) (trace : List Nodes) (now : Nodes) (k : IsTrace start run trace now)
    (came : All (Came trace run) (all_replied start.routers run)) where
  abbrev Never : Tag → Type 0
  Never tag = has_entry (commits_of now) tag ≡ false

  abbrev There : Tag → Type 0
  There tag = has_entry (commits_of now) tag ≡ true

  abbrev Ended : Tag → Type 0
  Ended tag = WasToldAborted now.sent tag

  there_told : (o : Outcome) (x : Told) → o.told ≡ x → IsThere (commits_of now) o.tag o.told
      → (at : ℕ) → x ≡ told_as.Committed at → There o.tag
  there_told o x is_x t at e =
      subst (IsThere (commits_of now) o.tag) (is_x ∙ e) t

  told_committed : (e : Envelope) (o : Outcome) (at : ℕ) → Contains now.sent e
      → e.msg ≡ msg.Outcome o → o.told ≡ told_as.Committed at → There o.tag
  told_committed e o at c is_o told =
      there_told o o.told refl
      (subst (TellsRight (commits_of now)) is_o
      (All-contains (λ (x : Envelope). TellsRight (commits_of now) x.msg) now.sent e
      (commits_told chunks start run trace now h k) c)) at told

  told_aborted : (e : Envelope) (o : Outcome) (why : Cause) → Contains now.sent e
      → e.msg ≡ msg.Outcome o → o.told ≡ told_as.Aborted why → Ended o.tag
  told_aborted e o why c is_o told = record {
    envelope = e;
    outcome = o;
    cause = why;
    among = c;
    msg = is_o;
    of = refl;
    told = told;
  }

  abbrev Right : List Ran → Nodes → Type 0
  Right before nodes = Stood chunks is start h now There Ended told_committed told_aborted before
      nodes

  stands_at : (i : ℕ) (nodes : Nodes) → slice_get (trace ++ now ∷ []) i ≡ Some nodes
      → Right (take i run) nodes
  stands_at i nodes at =
      stood_at chunks is start h now There Ended told_committed told_aborted run trace k i nodes at

  -- the rest of a run
  later_of : (old : Nodes) (rest : List Ran) (states : List Nodes) → IsTrace old rest states now
      → (i : ℕ) (nodes : Nodes) → slice_get (states ++ now ∷ []) i ≡ Some nodes
      → (x : Envelope) → Contains nodes.sent x → Contains now.sent x
  later_of old [] [] t zero nodes at x c =
      subst (λ (w : Nodes). Contains w.sent x) (sym (some_is now nodes at)) c
  later_of old [] [] t (suc i) nodes at x c = no_some nodes at
  later_of old [] (y ∷ states) t i nodes at x c = absurd t
  later_of old (ran ∷ rest) [] t i nodes at x c = absurd t
  later_of old (ran ∷ rest) (y ∷ states) t zero nodes at x c =
      sent_later old (ran ∷ rest) (y ∷ states) now t x
      (subst (λ (w : Nodes). Contains w.sent x) (sym (some_is y nodes at) ∙ t.0) c)
  later_of old (ran ∷ rest) (y ∷ states) t (suc i) nodes at x c =
      later_of t.1.0 rest states t.1.2 i nodes at x c

  was_sent : (i : ℕ) (nodes : Nodes) → slice_get (trace ++ now ∷ []) i ≡ Some nodes
      → (x : Envelope) → Contains nodes.sent x → Contains now.sent x
  was_sent i nodes at x c = later_of start run trace k i nodes at x c

  -- a step of a router at a place of the run
  stepped : (i n : ℕ) (e : NodeEvent) (a : NodeAnswer) (faults : ℕ)
      → slice_get run i ≡ Some (Step (Router n) e a faults)
      → (nodes : Nodes) × (slice_get (trace ++ now ∷ []) i ≡ Some nodes) × ((next : Nodes)
      × (slice_get (trace ++ now ∷ []) (i + 1) ≡ Some next) × RouterSteps nodes n e a faults next)
  stepped i n e a faults step =
      let at = at_of start run trace now k i (Step (Router n) e a faults) step in
      let p = place_of start run trace now k i at.0 (Step (Router n) e a faults) at.1 step in
      (at.0, got_on trace (now ∷ []) i at.0 at.1, (p.next, p.behind, p.happens))

  -- an outcome that was taken was sent
  pub took_sent : (n : ℕ) (tag : Tag) (w : WasReleased (take n run) tag 0)
      → Contains now.sent w.envelope
  took_sent n tag w =
      let s = stepped w.place tag.router (record { wall = w.wall; what = what.Deliver w.envelope })
      w.answer w.faults (took_at n run w.place _ w.step) in
      was_sent w.place s.0 s.1 w.envelope s.2.2.comes.0

  -- statements are asked of the one shard
  asked_first : (n : ℕ) (tag : Tag) (shard : ℕ) → WasAsked (take n run) tag shard → shard ≡ 0
  asked_first n tag shard w =
      let s = stepped w.place tag.router w.event w.answer w.faults
      (took_at n run w.place _ w.step) in
      let from = mapped_in statement_in (given_out w.answer) (shard, w.statement) w.sent in
      let part = part_is from.x from.x.msg from.x.to (shard, w.statement) refl refl from.is in
      let there : Contains now.sent from.x =
      was_sent (w.place + 1) s.2.0 s.2.1 from.x
      (subst (λ (x : Nodes). Contains x.sent from.x) (sym s.2.2.nodes)
      (Contains-append_right s.0.sent (given_out w.answer) from.x from.among)) in
      let stand = all_stand chunks is (one_map chunks start h) start h.fresh run trace now k in
      let follows = subst (MsgFollows (Gave now.sent (answered_in start.routers run))
      (opened_in start.routers run) (answered_in start.routers run) from.x.to) part.0
      (All-contains (λ (x : Envelope). MsgFollows (Gave now.sent (answered_in start.routers run))
      (opened_in start.routers run) (answered_in start.routers run) x.to x.msg) now.sent from.x
      stand.sent there) in
      shard_same shard 0 (sym part.1 ∙ follows.0)

  all_released : (n : ℕ) (tag : Tag) → WasReleased (take n run) tag 0
      → AllReleased (take n run) tag
  all_released n tag w shard asked =
      subst (WasReleased (take n run) tag) (sym (asked_first n tag shard asked)) w

  -- The step at which a reply is given.

  module _ (y : Replied) (c : Came trace run y) where
    placed : Placed start trace now y.place c.nodes
        (Step (Router y.hand.router) c.event (did c.r c.event) c.faults)
    placed =
        place_of start run trace now k y.place c.nodes
        (Step (Router y.hand.router) c.event (did c.r c.event) c.faults) c.at.before c.at.step

    here : slice_get (trace ++ now ∷ []) y.place ≡ Some c.nodes
    here = got_on trace (now ∷ []) y.place c.nodes c.at.before

    steps : (next : Nodes)
        → RouterSteps c.nodes y.hand.router c.event (did c.r c.event) c.faults next
        → slice_get next.routers y.hand.router ≡ Some (move_of c.r c.event).state
    steps next g = by g.takes.0 g.takes.1 g.takes.2
      where
        same : g.before ≡ c.r
        same = some_is g.before c.r (sym g.there ∙ c.there)

        by : (want : Bool)
            → did c.r c.event ≡ sp.answer_of want (sp.router_step want g.before c.event)
            → g.after ≡ (sp.router_step want g.before c.event).state
            → slice_get next.routers y.hand.router ≡ Some (move_of c.r c.event).state
        by true told after = not_memory (sp.router_step false c.r c.event) told
        by false told after =
            ap (λ (w : Nodes). slice_get w.routers y.hand.router) g.nodes
            ∙ set_there c.nodes.routers y.hand.router g.after c.r c.there
            ∙ ap Some (after ∙ ap (λ (r : RouterState). (sp.router_step false r c.event).state) same
            ∙ state_of c.r c.event)

    msg_told : (x : Envelope) (m : Msg) → Contains c.nodes.sent x → x.msg ≡ m → MsgTold Ended m
    msg_told x (msg.Outcome o) there is_m = λ why told.
        told_aborted x o why (was_sent y.place c.nodes here x there) is_m told
    msg_told x (msg.Statement o) there is_m = tt
    msg_told x (msg.Answer o) there is_m = tt
    msg_told x (msg.Commit o) there is_m = tt
    msg_told x (msg.Abort o) there is_m = tt
    msg_told x (msg.CommitTwo o) there is_m = tt
    msg_told x (msg.Prepare o) there is_m = tt
    msg_told x (msg.Vote o) there is_m = tt
    msg_told x (msg.Decide o) there is_m = tt
    msg_told x (msg.Acked o) there is_m = tt
    msg_told x (msg.Recover o) there is_m = tt
    msg_told x msg.Nudge there is_m = tt

    what_told : (w : Happening) → MayCome c.nodes.sent (Router y.hand.router) w
        → WhatTold Ended w
    what_told (what.Deliver x) comes = msg_told x x.msg comes.0 refl
    what_told (what.Client conn bytes) comes = tt
    what_told (what.Gone conn) comes = tt
    what_told what.Resend comes = tt
    what_told what.Moment comes = tt

    module _ (tag : Tag) (meant : Meant) (same : y.hand.tag ≡ Some tag)
        (means : meant_by y.hand.request y.reply ≡ Some meant) where
      kept : (lsid : Lsid) (s : Session) → session_of c.r lsid ≡ Some s → DoingKeeps s.doing
      kept lsid s at = ((stands_at y.place c.nodes here).routers y.hand.router c.r c.there lsid s
          at).1

      stands : Stands Ended (move_of c.r c.event).state tag meant
      stands = elim c.way [
        | inl heard ↦ heard_stands Ended c.r c.event y heard tag meant same means
            (what_told c.event.what placed.happens.comes)
            (kept heard.lsid heard.session heard.in_it)
        | inr served ↦ served_stands Ended c.r c.event y served tag meant same means kept
      ]

      abbrev so_far : List Ran
      so_far = take (y.place + 1) run

      right : Right so_far placed.next
      right = stands_at (y.place + 1) placed.next placed.behind

      met : Meets (λ (x : Tag). There x ⊎ WasReleased so_far x 0)
          (λ (x : Tag). WasReleased so_far x 0) Ended Never stands.session.doing
      met =
          right.routers y.hand.router (move_of c.r c.event).state
          (steps placed.next placed.happens) stands.lsid stands.session stands.there

      abbrev PhaseSays : Tag → List ℕ → Phase → Type 0
      PhaseSays = PhaseMeans (λ (x : Tag). There x ⊎ WasReleased so_far x 0)
          (λ (x : Tag). WasReleased so_far x 0) Ended Never

      done_phase : (t : Transaction) (p : Phase) → IsKnownDone p → PhaseSays t.tag t.wrote p
          → There t.tag ⊎ WasReleased so_far t.tag 0
      done_phase t Committed known x = x
      done_phase t Released known x = inr x
      done_phase t Idle known x = absurd known
      done_phase t (Asking asker op answers) known x = absurd known
      done_phase t (Checking asker) known x = absurd known
      done_phase t (Deciding asker) known x = absurd known
      done_phase t (Aborted sent) known x = absurd known

      done_ground : (doing : Doing) → IsDoneIn tag doing
          → Meets (λ (x : Tag). There x ⊎ WasReleased so_far x 0)
          (λ (x : Tag). WasReleased so_far x 0) Ended Never doing
          → There tag ⊎ WasReleased so_far tag 0
      done_ground (Begun t) g x =
          subst (λ (y : Tag). There y ⊎ WasReleased so_far y 0) g.0
          (done_phase t t.phase g.1 x.0)
      done_ground (Sought seeking known) g x =
          All-contains (λ (y : Tag). There y ⊎ WasReleased so_far y 0) known tag x.0 g

      abbrev Undoes : Tag → Type 0
      Undoes x = Never x ⊎ (Ended x ⊎ IsWriteless (trace ++ now ∷ []) x)

      undone_phase : (t : Transaction) (p : Phase) → stands.session.doing ≡ Begun t → t.phase ≡ p
          → IsAborted p → PhaseSays t.tag t.wrote p → Undoes t.tag
      undone_phase t (Aborted false) is_t is_p aborted x = inl x
      undone_phase t (Aborted true) is_t is_p aborted (inl x) = inr (inl x)
      undone_phase t (Aborted true) is_t is_p aborted (inr none) = inr (inr (record {
        place = y.place + 1;
        nodes = placed.next;
        at = placed.behind;
        n = y.hand.router;
        router = (move_of c.r c.event).state;
        there = steps placed.next placed.happens;
        lsid = stands.lsid;
        session = stands.session;
        in_it = stands.there;
        t = t;
        doing = is_t;
        of = refl;
        aborted = is_p;
        wrote = none;
      }))
      undone_phase t Idle is_t is_p aborted x = absurd aborted
      undone_phase t (Asking asker op answers) is_t is_p aborted x = absurd aborted
      undone_phase t (Checking asker) is_t is_p aborted x = absurd aborted
      undone_phase t (Deciding asker) is_t is_p aborted x = absurd aborted
      undone_phase t Committed is_t is_p aborted x = absurd aborted
      undone_phase t Released is_t is_p aborted x = absurd aborted

      undone_ground : (doing : Doing) → stands.session.doing ≡ doing → IsUndoneIn tag doing
          → Meets (λ (x : Tag). There x ⊎ WasReleased so_far x 0)
          (λ (x : Tag). WasReleased so_far x 0) Ended Never doing → Undoes tag
      undone_ground (Begun t) is_t g x =
          subst Undoes g.0 (undone_phase t t.phase is_t refl g.1 x.0)
      undone_ground (Sought seeking known) is_t g x = absurd g

      lost_ground : (doing : Doing) → IsLostIn tag doing
          → Meets (λ (x : Tag). There x ⊎ WasReleased so_far x 0)
          (λ (x : Tag). WasReleased so_far x 0) Ended Never doing → Never tag
      lost_ground (Begun t) g x =
          subst Never g.0 (subst (PhaseSays t.tag t.wrote) g.1 x.0)
      lost_ground (Sought seeking known) g x = absurd g

      done_case : There tag ⊎ WasReleased so_far tag 0
          → GroundOf run (trace ++ now ∷ []) now y.place tag Done
      done_case (inl there) = inl there
      done_case (inr w) = inr (w, all_released (y.place + 1) tag w)

      ground_case : (m : Meant) → MeantGround Ended stands.q tag stands.session.doing m
          → GroundOf run (trace ++ now ∷ []) now y.place tag m
      ground_case Done g = done_case (done_ground stands.session.doing g met)
      ground_case Undone (inl g) = undone_ground stands.session.doing refl g met
      ground_case Undone (inr ended) = inr (inl ended)
      ground_case (Caused shard why) (inl g) = inl (lost_ground stands.session.doing g met)
      ground_case (Caused shard why) (inr ended) = inr ended

      ground : GroundOf run (trace ++ now ∷ []) now y.place tag meant
      ground = ground_case meant stands.ground

  telling_ground : (y : Replied) → Came trace run y → (o : Option Tag) (m : Option Meant)
      (t : Telling) → y.hand.tag ≡ o → meant_by y.hand.request y.reply ≡ m
      → telling_by y.place o m ≡ Some t
      → GroundOf run (trace ++ now ∷ []) now t.place t.tag t.meant
  telling_ground y c None m t tag meant e = no_some t e
  telling_ground y c (Some tag) None t is_tag meant e = no_some t e
  telling_ground y c (Some tag) (Some meant) t is_tag is_meant e =
      let one : Telling = record { place = y.place; tag = tag; meant = meant } in
      subst (λ (x : Telling). GroundOf run (trace ++ now ∷ []) now x.place x.tag x.meant)
      (some_is one t e) (ground y c tag meant is_tag is_meant)

  pub all_grounded : AllGrounded run trace now (told_in start.routers run)
  all_grounded =
      contained (λ (t : Telling). GroundOf run (trace ++ now ∷ []) now t.place t.tag t.meant)
      (told_in start.routers run)
      (λ t there.
      let from = mapped_in telling_of (all_replied start.routers run) t there in
      telling_ground from.x
      (All-contains (Came trace run) (all_replied start.routers run) from.x came from.among)
      from.x.hand.tag (meant_by from.x.hand.request from.x.reply) t refl refl from.is)

pub all_told : (chunks : Map) (start : Nodes) (run : List Ran) (trace : List Nodes) (now : Nodes)
    → IsMap chunks → StartsAlone chunks start → IsTrace start run trace now
    → AllGrounded run trace now (told_in start.routers run)
all_told chunks start run trace now is h k =
    all_grounded chunks is start h run trace now k
    (all_came chunks start run trace now h.fresh (first_disks chunks start h) k)
