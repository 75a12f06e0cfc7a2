-- A transaction that its router ends before it asks to commit it is lost from then on.
use Rattle.std.proofs.Common.{◌≡◌, ◌++◌, ℕ, Bool, true, false, List}
use Rattle.std.proofs.Common.{[], ◌∷◌, Some, sym, ap, subst, ◌∙◌, arith}
use Rattle.std.specs.Prelude.{Contains, slice_get, slice_set}
use Rattle.std.proofs.lemmas.List.{append_assoc}
use Rattle.std.proofs.lemmas.List.Elements.{All-contains, Contains-append_right}
use Rattle.txn_types.specs.Letters.{given_out}
use Rattle.txn_types.specs.declared.event.NodeAnswer.{NodeAnswer}
use Rattle.txn_types.specs.declared.message.Envelope.{Envelope}
use Rattle.txn_types.specs.declared.names.Tag.{Tag}
use Rattle.txn_types.specs.declared.node.Lsid.{Lsid}
use Rattle.txn_types.specs.declared.node.NodeId.TheVariants.{Shard, Router}
use Rattle.chunk_map.specs.Map.{Map, IsMap}
use Rattle.router_state.specs.declared.state.Doing.TheVariants.{Begun}
use Rattle.router_state.specs.declared.state.Phase.{Phase}
use Rattle.router_state.specs.declared.state.Phase.TheVariants.{Idle, Asking, Checking, Deciding}
use Rattle.router_state.specs.declared.state.Phase.TheVariants.{Committed, Released, Aborted}
use Rattle.router_state.specs.declared.state.Session.{Session}
use Rattle.router_state.specs.declared.state.Transaction.{Transaction}
use Rattle.router_state.specs.State.{RouterState, session_of}
use Rattle.router_core.specs.Step as sp
use Rattle.txn_model.specs.Commits.{has_entry}
use Rattle.txn_model.specs.declared.ran.Ran.{Ran}
use Rattle.txn_model.specs.declared.ran.Ran.TheVariants.{Step, Swapped}
use Rattle.cluster_core.specs.Ledger.{fresh_ledger, ledger_behind, answered_in}
use Rattle.cluster_core.specs.Nodes.{Nodes, commits_of}
use Rattle.cluster_core.specs.Trace.{Happens, IsTrace}
use Rattle.world_laws.proofs.Lists.{set_there}
use Rattle.answer_laws.specs.Opened.{opened_in}
use Rattle.answer_laws.proofs.Lists.{has_first}
use Rattle.answer_laws.proofs.Shards.{takes_gives, E}
use Rattle.told_laws.proofs.Booking.{same_tag_of}
use Rattle.told_laws.proofs.Lists.{none_there}
use Rattle.told_laws.proofs.Quiet.{IsSettled}
use Rattle.told_laws.proofs.Running.{all_booked}
use Rattle.told_laws.proofs.Standing.{RouterStands, DoingStands}
use Rattle.one_shard_laws.specs.Concluding.{StartsAlone}
use Rattle.commit_laws.proofs.Follows.{IsPast}
use Rattle.commit_laws.proofs.Running.{all_stand}
use Rattle.commit_laws.proofs.Standing.{Stand, not_commit}
use Rattle.commit_laws.proofs.Stepping.{move_of, did, state_of}
use Rattle.decision_laws.specs.Ends.{NoneSent, IsAborted, IsUnasked, IsEnded, IsLost}
use Rattle.decision_laws.proofs.Boots.{new_from}
use Rattle.decision_laws.proofs.Lost.{trace_on, one_map, none_more, lost_never}

unasked_past : (p : Phase) → IsUnasked p → IsPast p → ⊥
unasked_past Idle h past = past
unasked_past (Asking asker op answers) h past = past
unasked_past (Checking asker) h past = h
unasked_past (Deciding asker) h past = h
unasked_past Committed h past = h
unasked_past Released h past = h
unasked_past (Aborted sent) h past = h

settled_aborted : (p : Phase) → IsSettled p → IsAborted p → ⊥
settled_aborted Idle h a = a
settled_aborted (Asking asker op answers) h a = a
settled_aborted (Checking asker) h a = a
settled_aborted (Deciding asker) h a = a
settled_aborted Committed h a = a
settled_aborted Released h a = a
settled_aborted (Aborted sent) h a = h

-- one run after another
trace_both : (start : Nodes) (run : List Ran) (before : List Nodes) (old : Nodes)
    (more : List Ran) (after : List Nodes) (now : Nodes) → IsTrace start run before old
    → IsTrace old more after now → IsTrace start (run ++ more) (before ++ after) now
trace_both start [] [] old more after now h k =
    subst (λ (x : Nodes). IsTrace x more after now) h k
trace_both start [] (nodes ∷ before) old more after now h k = absurd h
trace_both start (first ∷ run) [] old more after now h k = absurd h
trace_both start (first ∷ run) (nodes ∷ before) old more after now h k =
    (h.0, (h.1.0, h.1.1, trace_both h.1.0 run before old more after now h.1.2 k))

module _ (chunks : Map) (is : IsMap chunks) (start : Nodes) (h : StartsAlone chunks start)
    (run : List Ran) (trace : List Nodes) (old : Nodes) (ran : Ran) (new : Nodes)
    (k : IsTrace start run trace old) (step : Happens old ran new) (tag : Tag)
    (e : IsEnded old new tag) where
  one : chunks.shards ≡ 1
  one = one_map chunks start h

  stand : Stand chunks old (opened_in start.routers run) (answered_in start.routers run)
  stand = all_stand chunks is one start h.fresh run trace old k

  abbrev further : List Ran
  further = run ++ ran ∷ []

  abbrev Stands : ℕ → RouterState → Type 0
  Stands m x = RouterStands m (opened_in start.routers further)
      (ledger_behind (fresh_ledger start.routers) further).unanswered
      (answered_in start.routers further) x

  stands_at : (m : ℕ) (x : RouterState) → slice_get new.routers m ≡ Some x → Stands m x
  stands_at m x at =
      let b = all_booked chunks start further (trace ++ old ∷ []) new h.fresh
      (trace_on start run trace old ran new k step) in
      b.book.routers_stand m x (ap (λ (rs : List RouterState). slice_get rs m) b.same ∙ at)

  old_none : NoneSent old.sent tag
  old_none c was same =
      unasked_past e.t.phase e.unasked ((stand.routers e.n e.before e.there).past e.lsid e.session
      e.t e.in_it e.doing c was (same ∙ sym e.tag_is))

  -- its session after the step waits for nothing
  waits_none : (m : ℕ) (x : RouterState) (lsid : Lsid) (s : Session) (t : Transaction)
      → slice_get new.routers m ≡ Some x → session_of x lsid ≡ Some s → s.doing ≡ Begun t
      → t.tag ≡ tag → IsSettled t.phase → ⊥
  waits_none m x lsid s t at there doing same settled =
      let here = stands_at m x at in
      let away = stands_at e.n e.after e.there_after in
      let begun = opened_in start.routers further in
      let us = (ledger_behind (fresh_ledger start.routers) further).unanswered in
      let told = answered_in start.routers further in
      let own = (subst (DoingStands m x begun us told) doing (here.sessions lsid s there)).0 in
      let its = (subst (DoingStands e.n e.after begun us told) e.doing_after
      (away.sessions e.lsid_after e.session_after e.in_after)).0 in
      let tags : t.tag ≡ e.t_after.tag = same ∙ sym e.tag_after in
      let number : m ≡ e.n = sym here.number ∙ sym own.router
      ∙ ap (λ (y : Tag). y.router) tags ∙ its.router ∙ away.number in
      let routers : Some x ≡ Some e.after = sym at
      ∙ ap (λ (i : ℕ). slice_get new.routers i) number ∙ e.there_after in
      let router : x ≡ e.after = grind (arith, routers) in
      let in_x : session_of x e.lsid_after ≡ Some e.session_after =
      subst (λ (y : RouterState). session_of y e.lsid_after ≡ Some e.session_after) (sym router)
      e.in_after in
      let lsids : lsid ≡ e.lsid_after = here.alone lsid e.lsid_after s e.session_after there in_x
      (same_tag_of s.doing e.session_after.doing t e.t_after doing e.doing_after tags) in
      let sessions : Some s ≡ Some e.session_after = sym there
      ∙ ap (λ (l : Lsid). session_of x l) lsids ∙ in_x in
      let session : s ≡ e.session_after = grind (arith, sessions) in
      let doings : Begun t ≡ Begun e.t_after = sym doing
      ∙ ap (λ (y : Session). y.doing) session ∙ e.doing_after in
      let txns : t ≡ e.t_after = grind (arith, doings) in
      settled_aborted e.t_after.phase (subst (λ (y : Transaction). IsSettled y.phase) txns settled)
      e.aborted

  none_by : (r : Ran) → Happens old r new → NoneSent new.sent tag
  none_by (Step (Router m) ev a faults) w = by w.takes.0 w.takes.1 w.takes.2
    where
      sent : (b : NodeAnswer) → a ≡ b → NoneSent (given_out b) tag → NoneSent new.sent tag
      sent b same none =
          subst (λ (s : List Envelope). NoneSent s tag)
          (sym (ap (λ (x : Nodes). x.sent) w.nodes
          ∙ ap (λ (y : NodeAnswer). old.sent ++ given_out y) same))
          (none_more old.sent (given_out b) tag old_none none)

      by : (want : Bool) → a ≡ sp.answer_of want (sp.router_step want w.before ev)
          → w.after ≡ (sp.router_step want w.before ev).state → NoneSent new.sent tag
      by true told_is state_is =
          sent (sp.answer_of true (sp.router_step true w.before ev)) told_is
          (λ c was same. none_there was.0 was.1)
      by false told_is state_is =
          let routers : new.routers ≡ slice_set old.routers m (move_of w.before ev).state =
          ap (λ (x : Nodes). x.routers) w.nodes
          ∙ ap (slice_set old.routers m) (state_is ∙ state_of w.before ev) in
          let at = ap (λ (rs : List RouterState). slice_get rs m) routers
          ∙ set_there old.routers m (move_of w.before ev).state w.before w.there in
          sent (did w.before ev) told_is
          (λ c was same.
          let f = new_from chunks is one w.before ev old.sent (answered_in start.routers run)
          (stand.routers m w.before w.there) c was in
          waits_none m (move_of w.before ev).state f.lsid f.session f.t at f.there f.doing
          (sym f.tag_is ∙ same) f.settled)
  none_by (Step (Shard m) ev a faults) w =
      subst (λ (s : List Envelope). NoneSent s tag) (sym (ap (λ (x : Nodes). x.sent) w.nodes))
      (none_more old.sent (given_out a) tag old_none
      (λ c was same. not_commit was.0.msg c (All-contains E (given_out a) was.0
      (takes_gives w.before ev a w.after w.takes) was.1) was.2))
  none_by (Swapped (Router m)) w =
      subst (λ (s : List Envelope). NoneSent s tag) (sym (ap (λ (x : Nodes). x.sent) w.nodes))
      old_none
  none_by (Swapped (Shard m)) w =
      subst (λ (s : List Envelope). NoneSent s tag) (sym (ap (λ (x : Nodes). x.sent) w.nodes))
      old_none

  pub ended_lost : IsLost new tag
  ended_lost = record {
    n = e.n;
    router = e.after;
    there = e.there_after;
    lsid = e.lsid_after;
    session = e.session_after;
    in_it = e.in_after;
    t = e.t_after;
    doing = e.doing_after;
    tag_is = e.tag_after;
    aborted = e.aborted;
    unsent = none_by ran step;
  }

has_start : (trace : List Nodes) (more : List Ran) (new now : Nodes) → IsTrace new more trace now
    → Contains (trace ++ now ∷ []) new
has_start [] [] new now k =
    subst (λ (x : Nodes). Contains (now ∷ []) x) k (has_first now [])
has_start [] (ran ∷ more) new now k = absurd k
has_start (nodes ∷ trace) [] new now k = absurd k
has_start (nodes ∷ trace) (ran ∷ more) new now k =
    subst (λ (x : Nodes). Contains (nodes ∷ (trace ++ now ∷ [])) x) k.0
    (has_first nodes (trace ++ now ∷ []))

pub ended_never : (chunks : Map) (start : Nodes) (run : List Ran) (trace : List Nodes)
    (old : Nodes) (ran : Ran) (new : Nodes) (more : List Ran) (later : List Nodes) (now : Nodes)
    → IsMap chunks → StartsAlone chunks start → IsTrace start run trace old → Happens old ran new
    → IsTrace new more later now → (tag : Tag) → IsEnded old new tag
    → has_entry (commits_of now) tag ≡ false
ended_never chunks start run trace old ran new more later now is h k step further tag e =
    let to_new = trace_on start run trace old ran new k step in
    let behind = trace ++ old ∷ [] in
    lost_never chunks start ((run ++ ran ∷ []) ++ more) (behind ++ later) now is h
    (trace_both start (run ++ ran ∷ []) behind new more later now to_new further) new tag
    (subst (λ (l : List Nodes). Contains l new) (sym (append_assoc behind later (now ∷ [])))
    (Contains-append_right behind (later ++ now ∷ []) new (has_start later more new now further)))
    (ended_lost chunks is start h run trace old ran new k step tag e)
