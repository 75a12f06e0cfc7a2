-- What is lost stays so in each run, and has no entry.
use Rattle.std.proofs.Common.{◌≡◌, inl, inr, ◌++◌, ◌≤◌, ◌||◌, ℕ, Bool, true, false, List}
use Rattle.std.proofs.Common.{[], ◌∷◌, length, Some, None, refl, sym, ap, subst, ◌∙◌, arith}
use Rattle.std.specs.Prelude.{Contains, slice_get, slice_set}
use Rattle.std.proofs.lemmas.List.{append-nil}
use Rattle.std.proofs.lemmas.List.Elements.{All-contains, Contains-append_cases}
use Rattle.txn_types.specs.Letters.{given_out}
use Rattle.txn_types.specs.Order.{same_tag}
use Rattle.txn_types.specs.declared.event.NodeAnswer.{NodeAnswer}
use Rattle.txn_types.specs.declared.event.NodeEvent.{NodeEvent}
use Rattle.txn_types.specs.declared.message.Envelope.{Envelope}
use Rattle.txn_types.specs.declared.names.Tag.{Tag}
use Rattle.txn_types.specs.declared.node.Lsid.{Lsid}
use Rattle.txn_types.specs.declared.node.NodeId.TheVariants.{Shard, Router}
use Rattle.txn_semantics.specs.declared.commits.Answered.{Answered}
use Rattle.txn_semantics.specs.declared.commits.Entry.{Entry}
use Rattle.participant.proofs.Tags.{tag_same}
use Rattle.part_laws.specs.Each.{Each}
use Rattle.chunk_map.specs.Map.{Map, IsMap}
use Rattle.shard_core.specs.NodeStep.{NodeState}
use Rattle.router_state.specs.declared.state.Doing.TheVariants.{Begun}
use Rattle.router_state.specs.declared.state.Session.{Session}
use Rattle.router_state.specs.declared.state.Transaction.{Transaction}
use Rattle.router_state.specs.State.{RouterState, session_of, fresh_router}
use Rattle.router_core.specs.Step as sp
use Rattle.router_core.proofs.Going.{step_on}
use Rattle.txn_model.specs.Commits.{has_entry}
use Rattle.txn_model.specs.declared.ran.Ran.{Ran}
use Rattle.txn_model.specs.declared.ran.Ran.TheVariants.{Step, Swapped}
use Rattle.cluster_core.specs.Answering.{Unanswered}
use Rattle.cluster_core.specs.Ledger.{fresh_ledger, ledger_behind, answered_in}
use Rattle.cluster_core.specs.Nodes.{Nodes, commits_of}
use Rattle.cluster_core.specs.Parts.{WasDrawn}
use Rattle.cluster_core.specs.Trace.{Happens, IsTrace, RouterSteps, again}
use Rattle.answer_laws.specs.Opened.{opened_in}
use Rattle.told_laws.proofs.Booking.{same_tag_of}
use Rattle.told_laws.proofs.Lists.{none_there, only_one, set_cases, has_cases}
use Rattle.told_laws.proofs.Running.{all_booked}
use Rattle.told_laws.proofs.Standing.{RouterStands, DoingStands, drawn_on}
use Rattle.one_shard_laws.specs.Concluding.{StartsAlone}
use Rattle.one_shard_laws.specs.Lasting.{WasCommitted}
use Rattle.one_shard_laws.proofs.Concluding.{served_right}
use Rattle.one_shard_laws.proofs.Joint.{runs_alone}
use Rattle.answer_laws.proofs.Shards.{takes_gives, E}
use Rattle.commit_laws.proofs.Standing.{Stand, not_commit}
use Rattle.commit_laws.proofs.Running.{all_stand}
use Rattle.decision_laws.specs.Ends.{IsAborted, IsLost, NoneSent}
use Rattle.decision_laws.proofs.Losing.{IsOver, after_over, none_given}

-- A run that goes on by one event.
pub trace_on : (start : Nodes) (run : List Ran) (trace : List Nodes) (old : Nodes) (ran : Ran)
    (new : Nodes) → IsTrace start run trace old → Happens old ran new
    → IsTrace start (run ++ ran ∷ []) (trace ++ old ∷ []) new
trace_on start [] [] old ran new h k =
    (h, (new, subst (λ (x : Nodes). Happens x ran new) h k, refl))
trace_on start [] (nodes ∷ trace) old ran new h k = absurd h
trace_on start (first ∷ run) [] old ran new h k = absurd h
trace_on start (first ∷ run) (nodes ∷ trace) old ran new h k =
    (h.0, (h.1.0, h.1.1, trace_on h.1.0 run trace old ran new h.1.2 k))

pub none_more : (sent out : List Envelope) (tag : Tag) → NoneSent sent tag → NoneSent out tag
    → NoneSent (sent ++ out) tag
none_more sent out tag h k c was same =
    elim (Contains-append_cases sent out was.0 was.1) [
      | inl w ↦ h c (was.0, w, was.2) same
      | inr w ↦ k c (was.0, w, was.2) same
    ]

-- what stands of a transaction that was lost
pub record StaysLost (nodes : Nodes) (tag : Tag) : Type 0 where
  pub over : (n : ℕ) (r : RouterState) → slice_get nodes.routers n ≡ Some r → IsOver tag r
  pub drawn : (n : ℕ) (r : RouterState) → slice_get nodes.routers n ≡ Some r → tag.router ≡ n
      → WasDrawn r tag
  pub unsent : NoneSent nodes.sent tag

abbrev Numbers : Nodes → Type 0
Numbers nodes = (n : ℕ) (r : RouterState) → slice_get nodes.routers n ≡ Some r → r.number ≡ n

module _ (chunks : Map) (is : IsMap chunks) (one : chunks.shards ≡ 1) (tag : Tag) where
  router_step : (old : Nodes) (n : ℕ) (e : NodeEvent) (a : NodeAnswer) (faults : ℕ) (new : Nodes)
      (begun : List Unanswered) (told : List Answered) → RouterSteps old n e a faults new
      → Stand chunks old begun told → Numbers old → StaysLost old tag → StaysLost new tag
  router_step old n e a faults new begun told h stand numbers k =
      let stood = stand.routers n h.before h.there in
      let over = k.over n h.before h.there in
      let drawn = λ (to : tag.router ≡ h.before.number). k.drawn n h.before h.there
      (to ∙ numbers n h.before h.there) in
      let want = h.takes.0 in
      let routers : new.routers ≡ slice_set old.routers n h.after =
      ap (λ (w : Nodes). w.routers) h.nodes in
      let cases = λ (m : ℕ) (x : RouterState) (at : slice_get new.routers m ≡ Some x).
      set_cases old.routers n m h.after x
      (ap (λ (rs : List RouterState). slice_get rs m) (sym routers) ∙ at) in
      record {
        over = λ m x at. elim (cases m x at) [
          | inl w ↦ subst (IsOver tag) (sym w.1)
              (after_over tag chunks is one h.before e old.sent told stood over drawn want h.after
              h.takes.2)
          | inr w ↦ k.over m x w.1
        ];
        drawn = λ m x at to. elim (cases m x at) [
          | inl w ↦ subst (λ (y : RouterState). WasDrawn y tag) (sym w.1)
              (subst (λ (y : RouterState). WasDrawn y tag) (sym h.takes.2)
              (let g = step_on want h.before e in
              drawn_on h.before (sp.router_step want h.before e).state tag g.boot g.serial.0
              (k.drawn n h.before h.there (to ∙ w.0))))
          | inr w ↦ k.drawn m x w.1 to
        ];
        unsent = subst (λ (s : List Envelope). NoneSent s tag)
            (sym (ap (λ (w : Nodes). w.sent) h.nodes))
            (none_more old.sent (given_out a) tag k.unsent
            (subst (λ (x : NodeAnswer). NoneSent (given_out x) tag) (sym h.takes.1)
            (none_given tag chunks is one h.before e old.sent told stood over drawn want)));
      }

  same_lost : (old new : Nodes) (out : List Envelope) → new.routers ≡ old.routers
      → new.sent ≡ old.sent ++ out → NoneSent out tag → StaysLost old tag → StaysLost new tag
  same_lost old new out routers sent none k = record {
    over = λ n r at.
        k.over n r (ap (λ (rs : List RouterState). slice_get rs n) (sym routers) ∙ at);
    drawn = λ n r at.
        k.drawn n r (ap (λ (rs : List RouterState). slice_get rs n) (sym routers) ∙ at);
    unsent = subst (λ (s : List Envelope). NoneSent s tag) (sym sent)
        (none_more old.sent out tag k.unsent none);
  }

  no_commits : (out : List Envelope) → ((x : Envelope) → Contains out x → E x) → NoneSent out tag
  no_commits out h c was same = not_commit was.0.msg c (h was.0 was.1) was.2

  fresh_over : (n boot : ℕ) → IsOver tag (fresh_router n boot chunks)
  fresh_over n boot lsid s t there doing same = let no : None ≡ Some s = there in
      absurd (grind (arith, no))

  again_over : (n : ℕ) (r : RouterState) → IsOver tag (again n r)
  again_over n r lsid s t there doing same = let no : None ≡ Some s = there in
      absurd (grind (arith, no))

  again_drawn : (n : ℕ) (r : RouterState) → WasDrawn r tag → WasDrawn (again n r) tag
  again_drawn n r (inl h) = inl (omega (arith, h))
  again_drawn n r (inr h) = let same : tag.boot ≡ r.boot = h.0 in inl (omega (arith, same))

  pub lost_step : (old : Nodes) (ran : Ran) (new : Nodes) (begun : List Unanswered)
      (told : List Answered) → Happens old ran new → Stand chunks old begun told → Numbers old
      → StaysLost old tag → StaysLost new tag
  lost_step old (Step (Router n) e a faults) new begun told h stand numbers k =
      router_step old n e a faults new begun told h stand numbers k
  lost_step old (Step (Shard n) e a faults) new begun told h stand numbers k =
      same_lost old new (given_out a) (ap (λ (w : Nodes). w.routers) h.nodes)
      (ap (λ (w : Nodes). w.sent) h.nodes)
      (no_commits (given_out a) (λ x c. All-contains E (given_out a) x
      (takes_gives h.before e a h.after h.takes) c)) k
  lost_step old (Swapped (Shard n)) new begun told h stand numbers k =
      same_lost old new [] (ap (λ (w : Nodes). w.routers) h.nodes)
      (ap (λ (w : Nodes). w.sent) h.nodes ∙ sym (append-nil old.sent))
      (λ c was same. none_there was.0 was.1) k
  lost_step old (Swapped (Router n)) new begun told h stand numbers k =
      let routers : new.routers ≡ slice_set old.routers n (again n h.before) =
      ap (λ (w : Nodes). w.routers) h.nodes in
      let cases = λ (m : ℕ) (x : RouterState) (at : slice_get new.routers m ≡ Some x).
      set_cases old.routers n m (again n h.before) x
      (ap (λ (rs : List RouterState). slice_get rs m) (sym routers) ∙ at) in
      record {
        over = λ m x at. elim (cases m x at) [
          | inl w ↦ subst (IsOver tag) (sym w.1) (again_over n h.before)
          | inr w ↦ k.over m x w.1
        ];
        drawn = λ m x at to. elim (cases m x at) [
          | inl w ↦ subst (λ (y : RouterState). WasDrawn y tag) (sym w.1)
              (again_drawn n h.before (k.drawn n h.before h.there (to ∙ w.0)))
          | inr w ↦ k.drawn m x w.1 to
        ];
        unsent = subst (λ (s : List Envelope). NoneSent s tag)
            (sym (ap (λ (w : Nodes). w.sent) h.nodes)) k.unsent;
      }

  module _ (start : Nodes) (h : StartsAlone chunks start) where
    numbers_in : (run : List Ran) (trace : List Nodes) (now : Nodes) → IsTrace start run trace now
        → Numbers now
    numbers_in run trace now k n r at =
        let b = all_booked chunks start run trace now h.fresh k in
        (b.book.routers_stand n r
        (ap (λ (rs : List RouterState). slice_get rs n) b.same ∙ at)).number

    lost_run : (run more : List Ran) (before trace : List Nodes) (old new : Nodes)
        → IsTrace start run before old → IsTrace old more trace new → StaysLost old tag
        → StaysLost new tag
    lost_run run [] before [] old new k m l = subst (λ (x : Nodes). StaysLost x tag) (sym m) l
    lost_run run [] before (nodes ∷ trace) old new k m l = absurd m
    lost_run run (ran ∷ more) before [] old new k m l = absurd m
    lost_run run (ran ∷ more) before (nodes ∷ trace) old new k m l =
        lost_run (run ++ ran ∷ []) more (before ++ old ∷ []) trace m.1.0 new
        (trace_on start run before old ran m.1.0 k m.1.1) m.1.2
        (lost_step old ran m.1.0 (opened_in start.routers run) (answered_in start.routers run)
        m.1.1 (all_stand chunks is one start h.fresh run before old k)
        (numbers_in run before old k) l)

    -- one that is lost
    is_lost : (run : List Ran) (trace : List Nodes) (nodes : Nodes) → IsTrace start run trace nodes
        → IsLost nodes tag → StaysLost nodes tag
    is_lost run trace nodes k l =
        let b = all_booked chunks start run trace nodes h.fresh k in
        let stands = λ (n : ℕ) (r : RouterState) (at : slice_get nodes.routers n ≡ Some r).
        b.book.routers_stand n r (ap (λ (rs : List RouterState). slice_get rs n) b.same ∙ at) in
        let begun = opened_in start.routers run in
        let told = answered_in start.routers run in
        let us = (ledger_behind (fresh_ledger start.routers) run).unanswered in
        let own_of = λ (n : ℕ) (r : RouterState) (at : slice_get nodes.routers n ≡ Some r)
        (lsid : Lsid) (s : Session) (t : Transaction) (there : session_of r lsid ≡ Some s)
        (doing : s.doing ≡ Begun t).
        (subst (DoingStands n r begun us told) doing
        ((stands n r at).sessions lsid s there)).0 in
        let mine = own_of l.n l.router l.there l.lsid l.session l.t l.in_it l.doing in
        let number : tag.router ≡ l.n =
        ap (λ (x : Tag). x.router) (sym l.tag_is) ∙ mine.router
        ∙ (stands l.n l.router l.there).number in
        record {
          over = λ n r at lsid s t there doing same.
              let own = own_of n r at lsid s t there doing in
              let here : l.n ≡ n = sym number ∙ ap (λ (x : Tag). x.router) (sym same) ∙ own.router
              ∙ (stands n r at).number in
              one_session n r at lsid s t there doing same l b.same stands here;
          drawn = λ n r at to.
              let here : l.n ≡ n = sym number ∙ to in
              let routers : Some l.router ≡ Some r = sym l.there
              ∙ ap (λ (i : ℕ). slice_get nodes.routers i) here ∙ at in
              let same : l.router ≡ r = grind (arith, routers) in
              subst (λ (y : RouterState). WasDrawn y tag) same
              (inr (
                ap (λ (x : Tag). x.boot) (sym l.tag_is) ∙ mine.boot,
                subst (λ (x : Tag). x.serial ≤ l.router.serial) l.tag_is mine.serial,
              ));
          unsent = l.unsent;
        }
      where
        one_session : (n : ℕ) (r : RouterState) (at : slice_get nodes.routers n ≡ Some r)
            (lsid : Lsid) (s : Session) (t : Transaction) → session_of r lsid ≡ Some s
            → s.doing ≡ Begun t → t.tag ≡ tag → (l : IsLost nodes tag)
            → (ledger_behind (fresh_ledger start.routers) run).routers ≡ nodes.routers
            → ((m : ℕ) (x : RouterState) → slice_get nodes.routers m ≡ Some x
            → RouterStands m (opened_in start.routers run)
            (ledger_behind (fresh_ledger start.routers) run).unanswered
            (answered_in start.routers run) x)
            → l.n ≡ n → IsAborted t.phase
        one_session n r at lsid s t there doing same l rs stands here =
            let routers : Some l.router ≡ Some r = sym l.there
            ∙ ap (λ (i : ℕ). slice_get nodes.routers i) here ∙ at in
            let router : l.router ≡ r = grind (arith, routers) in
            let in_r : session_of r l.lsid ≡ Some l.session =
            subst (λ (y : RouterState). session_of y l.lsid ≡ Some l.session) router l.in_it in
            let lsids : lsid ≡ l.lsid = (stands n r at).alone lsid l.lsid s l.session there in_r
            (same_tag_of s.doing l.session.doing t l.t doing l.doing (same ∙ sym l.tag_is)) in
            let sessions : Some s ≡ Some l.session = sym there
            ∙ ap (λ (x : Lsid). session_of r x) lsids ∙ in_r in
            let session : s ≡ l.session = grind (arith, sessions) in
            let doings : Begun t ≡ Begun l.t = sym doing
            ∙ ap (λ (x : Session). x.doing) session ∙ l.doing in
            let txns : t ≡ l.t = grind (arith, doings) in
            subst (λ (x : Transaction). IsAborted x.phase) (sym txns) l.aborted

    -- in a run, from where it is lost on
    lost_from : (run more : List Ran) (before trace : List Nodes) (old now nodes : Nodes)
        → IsTrace start run before old → IsTrace old more trace now
        → Contains (trace ++ now ∷ []) nodes → IsLost nodes tag → StaysLost now tag
    lost_from run [] before [] old now nodes k m c l =
        let same : nodes ≡ now = only_one now nodes c in
        subst (λ (x : Nodes). StaysLost x tag) (sym m)
        (is_lost run before old k (subst (λ (x : Nodes). IsLost x tag) (same ∙ m) l))
    lost_from run [] before (first ∷ trace) old now nodes k m c l = absurd m
    lost_from run (ran ∷ more) before [] old now nodes k m c l = absurd m
    lost_from run (ran ∷ more) before (first ∷ trace) old now nodes k m c l =
        elim (has_cases first (trace ++ now ∷ []) nodes c) [
          | inl e ↦ lost_run run (ran ∷ more) before (first ∷ trace) old now k m
              (is_lost run before old k (subst (λ (x : Nodes). IsLost x tag) (e ∙ m.0) l))
          | inr d ↦ lost_from (run ++ ran ∷ []) more (before ++ old ∷ []) trace m.1.0 now nodes
              (trace_on start run before old ran m.1.0 k m.1.1) m.1.2 d l
        ]

    pub stays_lost : (run : List Ran) (trace : List Nodes) (now nodes : Nodes)
        → IsTrace start run trace now → Contains (trace ++ now ∷ []) nodes → IsLost nodes tag
        → StaysLost now tag
    stays_lost run trace now nodes k c l =
        lost_from [] run [] trace start now nodes refl k c l

-- No entry is of a transaction that no request asked to commit.

pub no_entry : (P : Entry → Type 0) (entries : List Entry) (tag : Tag) → Each P entries
    → ((e : Entry) → P e → e.tag ≡ tag → ⊥) → has_entry entries tag ≡ false
no_entry P [] tag h f = refl
no_entry P (e ∷ entries) tag h f =
    by (same_tag e.tag tag) refl (no_entry P entries tag h.1 f)
  where
    by : (test : Bool) → same_tag e.tag tag ≡ test
        → has_entry entries tag ≡ false → (test || has_entry entries tag) ≡ false
    by true is more = absurd (f e h.0 (tag_same e.tag tag is))
    by false is more = more

pub one_map : (chunks : Map) (start : Nodes) → StartsAlone chunks start → chunks.shards ≡ 1
one_map chunks start h =
    h.fresh.count ∙ ap (λ (shards : List NodeState). length shards) h.shards

pub never_committed : (chunks : Map) (start : Nodes) (run : List Ran) (trace : List Nodes)
    (now : Nodes) → IsMap chunks → StartsAlone chunks start → IsTrace start run trace now
    → (tag : Tag) → NoneSent now.sent tag → has_entry (commits_of now) tag ≡ false
never_committed chunks start run trace now is h k tag none =
    let r = served_right now (runs_alone chunks start run trace now h k) in
    no_entry (WasCommitted now.sent r.served) (commits_of now) tag r.whole
    (λ e w same. none w.1 (w.0, w.2, w.3) (w.4 ∙ same))

pub lost_never : (chunks : Map) (start : Nodes) (run : List Ran) (trace : List Nodes)
    (now : Nodes) → IsMap chunks → StartsAlone chunks start → IsTrace start run trace now
    → (nodes : Nodes) (tag : Tag) → Contains (trace ++ now ∷ []) nodes → IsLost nodes tag
    → has_entry (commits_of now) tag ≡ false
lost_never chunks start run trace now is h k nodes tag c l =
    never_committed chunks start run trace now is h k tag
    (stays_lost chunks is (one_map chunks start h) tag start h run trace now nodes k c l).unsent
