-- What stands of the transactions of routers is kept by each event of a cluster of one shard, and so
-- stands behind each run.
use Rattle.std.proofs.Common.{◌≡◌, ◌⊎◌, inl, inr, ◌+◌, ◌≤◌, ◌<◌, ℕ, Bool, true, false, All, List}
use Rattle.std.proofs.Common.{[], ◌∷◌, ◌++◌, Option, Some, None, refl, sym, ap, subst, ◌∙◌, ◌&&◌}
use Rattle.std.proofs.Common.{arith, if◌then◌else◌, not, nat_eq}
use Rattle.std.specs.Prelude.{Contains, slice_get, slice_set}
use Rattle.std.proofs.lemmas.List.{append-nil, append_assoc}
use Rattle.std.proofs.lemmas.List.Elements.{All-nil, All-cons, All-append, All-filter, All-contains}
use Rattle.std.proofs.lemmas.List.Elements.{Contains-append_cases}
use Rattle.txn_types.specs.Letters.{given_out}
use Rattle.txn_types.specs.declared.event.Happening.{Happening}
use Rattle.txn_types.specs.declared.event.Happening.TheVariants as what
use Rattle.txn_types.specs.declared.event.NodeAnswer.{NodeAnswer}
use Rattle.txn_types.specs.declared.event.NodeEvent.{NodeEvent}
use Rattle.txn_types.specs.declared.message.Envelope.{Envelope}
use Rattle.txn_types.specs.declared.message.Msg.{Msg}
use Rattle.txn_types.specs.declared.message.Msg.TheVariants as msg
use Rattle.txn_types.specs.declared.message.Statement.{Statement}
use Rattle.txn_types.specs.declared.names.Tag.{Tag}
use Rattle.txn_types.specs.declared.node.NodeId.{NodeId}
use Rattle.txn_types.specs.declared.node.NodeId.TheVariants.{Shard, Router}
use Rattle.txn_types.specs.declared.operation.Op.{Op}
use Rattle.txn_semantics.specs.declared.commits.Answered.{Answered}
use Rattle.client_cmd.specs.declared.request.Request.TheVariants as request
use Rattle.chunk_map.specs.Map.{Map, IsMap}
use Rattle.router_state.specs.State.{RouterState, fresh_router}
use Rattle.router_core.specs.Laws.{GoesOn}
use Rattle.router_core.specs.Requests.{next_tag}
use Rattle.router_core.specs.Step as sp
use Rattle.router_core.proofs.Going.{step_on}
use Rattle.txn_model.specs.declared.ran.Ran.{Ran}
use Rattle.txn_model.specs.declared.ran.Ran.TheVariants.{Step, Swapped}
use Rattle.cluster_core.specs.Answering.{Unanswered, is_complete, all_say, taken_msg, taken_what}
use Rattle.cluster_core.specs.Answering.{opened, opened_by as opened_parts, statements_in}
use Rattle.cluster_core.specs.Answering.{unanswered_behind}
use Rattle.cluster_core.specs.Ledger.{Ledger, fresh_ledger, ledger_behind, entered, entered_by}
use Rattle.cluster_core.specs.Ledger.{passed, swapped, answered_from}
use Rattle.cluster_core.specs.Nodes.{Nodes}
use Rattle.cluster_core.specs.Parts.{WasDrawn}
use Rattle.cluster_core.specs.Routers.{Asked, request_at, is_memory}
use Rattle.cluster_core.specs.Trace.{Happens, IsTrace, IsFresh, RouterSteps, MayCome, again}
use Rattle.answer_laws.specs.Opened.{opened_from}
use Rattle.answer_laws.specs.Parts.{SentTo, SentFit}
use Rattle.answer_laws.proofs.Beginning.{step_names}
use Rattle.answer_laws.proofs.Fits.{EntryFits, EventFits}
use Rattle.world_laws.proofs.Lists.{get_set}
use Rattle.answer_laws.proofs.Lists.{set_same}
use Rattle.answer_laws.proofs.Running.{others_fit, router_more}
use Rattle.chain_laws.proofs.Sent.{all_sent_more}
use Rattle.answer_laws.proofs.Shards.{takes_gives}
use Rattle.told_laws.proofs.Lists.{set_cases, none_there}
use Rattle.told_laws.proofs.Standing.{RouterStands}
use Rattle.told_laws.proofs.Running.{Booked, all_booked, memory_state}
use Rattle.chain_laws.specs.Completing.{completed_among, completed_at, completed_by, completed_from}
use Rattle.chain_laws.proofs.Answering.{all_single}
use Rattle.chain_laws.proofs.Standing.{Times, Chained, IsSingle, RouterChains, Chains, chained_more}
use Rattle.chain_laws.proofs.Standing.{sessions_more}
use Rattle.chain_laws.proofs.Turning.{Turned, EventFirst, IsFirst, Completes, step_turned}
use Rattle.told_laws.proofs.Booking.{drawn_again}

-- Statements of the ledger.

taken_single : (n : ℕ) (w : Happening) (us : List Unanswered) → EventFirst w → All IsSingle us
    → All IsSingle (taken_what n w us)
taken_single n (what.Deliver e) us first h = by e.msg first
  where
    by : (m : Msg) → IsFirst m → All IsSingle (taken_msg n m us)
    by (msg.Answer a) first = all_single n a us first h
    by other first = h
taken_single n (what.Gone conn) us first h =
    All-filter (λ (u : Unanswered). not (nat_eq u.router n && nat_eq u.conn conn)) IsSingle us h
taken_single n other us first h = h

new_parts : (n conn : ℕ) (op : Op) (parts : List (ℕ × Statement))
    → All IsSingle (opened_parts n conn op parts)
new_parts n conn op [] = All-nil IsSingle
new_parts n conn op (part ∷ parts) = All-cons IsSingle _ []
    (record { answers = inl refl; some = omega arith }) (All-nil IsSingle)

new_single : (n : ℕ) (asked : Option Asked) (a : NodeAnswer) → All IsSingle (opened n asked a)
new_single n None a = All-nil IsSingle
new_single n (Some (conn, request.Ping more time)) a = All-nil IsSingle
new_single n (Some (conn, request.Hello old_name more time)) a = All-nil IsSingle
new_single n (Some (conn, request.Statement op txn at after more time)) a =
    new_parts n conn op (statements_in a)
new_single n (Some (conn, request.Commit txn t more time)) a = All-nil IsSingle
new_single n (Some (conn, request.Abort txn more time)) a = All-nil IsSingle
new_single n (Some (conn, request.EndSessions ids more time)) a = All-nil IsSingle

-- a delivered message opens nothing
completes_it : (n : ℕ) (r : RouterState) (wall : ℕ) (w : Happening) (a : NodeAnswer)
    (us : List Unanswered) → is_memory a ≡ false
    → Completes n w us
    (completed_among (unanswered_behind n r (record { wall = wall; what = w }) a us))
completes_it n r wall (what.Deliver e) a us none =
    sym (ap (λ (asked : Option Asked). completed_among (taken_msg n e.msg us
    ++ opened n asked a)) (by (is_memory a)) ∙ ap completed_among (append-nil (taken_msg n e.msg us)))
  where
    by : (test : Bool) → ◌≡◌ {A = Option Asked} (if test then None else None) None
    by true = refl
    by false = refl
completes_it n r wall (what.Client conn bytes) a us none = tt
completes_it n r wall (what.Gone conn) a us none = tt
completes_it n r wall what.Resend a us none = tt
completes_it n r wall what.Moment a us none = tt

-- An Answer that comes is the first shard's.

abbrev pub AllFirst : List Envelope → Type 0
AllFirst sent = All (λ (e : Envelope). IsFirst e.msg) sent

comes_first : (sent : List Envelope) (node : NodeId) (w : Happening) → AllFirst sent
    → MayCome sent node w → EventFirst w
comes_first sent node (what.Deliver e) h may =
    All-contains (λ (e : Envelope). IsFirst e.msg) sent e h may.0
comes_first sent node (what.Client conn bytes) h may = tt
comes_first sent node (what.Gone conn) h may = tt
comes_first sent node what.Resend h may = tt
comes_first sent node what.Moment h may = tt

-- More was completed, and began.

more_chains : (chunks : Map) (completed now : List Unanswered) (times fresh : Times)
    (r : RouterState) → RouterChains chunks completed times r
    → RouterChains chunks (completed ++ now) (times ++ fresh) r
more_chains chunks completed now times fresh r h = record {
  chunks_are = h.chunks_are;
  sessions = sessions_more completed now times fresh r h.sessions;
  waits = router_more (Chained completed times) (Chained (completed ++ now) (times ++ fresh))
      (chained_more completed now times fresh) r h.waits;
}

-- behind an event: with what was completed, for some times
abbrev pub ChainsOn : Map → Ledger → List Unanswered → Nodes → Type 0
ChainsOn chunks l completed nodes = (times : Times) × Chains chunks l completed times nodes

-- routers as they were, and what was sent fits
stays : (chunks : Map) (l l' : Ledger) (completed : List Unanswered) (old new : Nodes)
    → new.routers ≡ old.routers → l'.routers ≡ l.routers → l'.unanswered ≡ l.unanswered
    → ((times : Times) → SentFit (Chained completed times) old.sent
    → SentFit (Chained completed times) new.sent)
    → ChainsOn chunks l completed old → ChainsOn chunks l' (completed ++ []) new
stays chunks l l' completed old new rs ls us sent k =
    subst (λ (c : List Unanswered). ChainsOn chunks l' c new) (sym (append-nil completed)) (
      k.0,
      record {
        same = ls ∙ k.1.same ∙ sym rs;
        routers = λ n r at. k.1.routers n r
            (sym (ap (λ (x : List RouterState). slice_get x n) rs) ∙ at);
        drawn = λ x c n r at. k.1.drawn x c n r
            (sym (ap (λ (x : List RouterState). slice_get x n) rs) ∙ at);
        once = k.1.once;
        single = subst (All IsSingle) (sym us) k.1.single;
        sent = sent k.0 k.1.sent;
        complete = k.1.complete;
      },
    )

-- A router's step.

memory_out : (r : RouterState) (e : NodeEvent)
    → given_out (sp.answer_of true (sp.router_step true r e)) ≡ []
unfolding sp.router_step
memory_out r e = refl

drawn_then : (r s : RouterState) (tag : Tag) → GoesOn r s → WasDrawn r tag → WasDrawn s tag
drawn_then r s tag g (inl h) = inl (subst (λ (boot : ℕ). tag.boot < boot) (sym g.boot) h)
drawn_then r s tag g (inr h) =
    let up : r.serial ≤ s.serial = g.serial.0 in
    inr (h.0 ∙ sym g.boot, omega (arith, up, h.1))

undrawn : (r : RouterState) (tag : Tag) → tag ≡ next_tag r → WasDrawn r tag → ⊥
undrawn r tag e (inl h) =
    let same : tag.boot ≡ r.boot = ap (λ (t : Tag). t.boot) e in absurd (omega (arith, h, same))
undrawn r tag e (inr h) =
    let same : tag.serial ≡ r.serial + 1 = ap (λ (t : Tag). t.serial) e in
    let less : tag.serial ≤ r.serial = h.1 in
    absurd (omega (arith, less, same))

module _ (chunks : Map) (completed : List Unanswered) (times : Times) (l : Ledger)
    (old new : Nodes) (n : ℕ) (r : RouterState) (e : NodeEvent) (begun : List Unanswered)
    (told : List Answered) where
  abbrev did : NodeAnswer
  did = sp.answer_of false (sp.router_step false r e)

  abbrev after : RouterState
  after = (sp.router_step false r e).state

  abbrev now : List Unanswered
  now = completed_among (unanswered_behind n r e did l.unanswered)

  abbrev Turn : Type 0
  Turn = Turned completed now times r after (λ Q. EventFits Q false r e)

  entered_chains : IsMap chunks → chunks.shards ≡ 1 → slice_get old.routers n ≡ Some r
      → new.routers ≡ slice_set old.routers n after → new.sent ≡ old.sent ++ given_out did
      → EventFirst e.what → RouterStands n begun l.unanswered told r
      → Chains chunks l completed times old
      → ChainsOn chunks (entered l n (Some r) e did).ledger (completed ++ now) new
  entered_chains is one there rs ss first stands k =
      let old_chains = k.routers n r there in
      let turn = step_turned completed now begun l.unanswered told times n r e first
      (completes_it n r e.wall e.what did l.unanswered refl)
      (subst IsMap (sym old_chains.chunks_are) is)
      (ap (λ (m : Map). m.shards) old_chains.chunks_are ∙ one) k.single stands
      old_chains.sessions in
      let times' : Times = times ++ turn.fresh in
      let Q = Chained (completed ++ now) times' in
      let f = step_names Q false r e turn.fits
      (router_more (Chained completed times) Q (chained_more completed now times turn.fresh) r
      old_chains.waits) in
      let goes = step_on false r e in
      let this : RouterChains chunks (completed ++ now) times' after =
      record {
        chunks_are = f.chunks ∙ old_chains.chunks_are;
        sessions = turn.sessions;
        waits = f.state;
      } in
      let us = unanswered_behind n r e did l.unanswered in
      let single : All IsSingle us =
      All-append IsSingle (taken_what n e.what l.unanswered) (opened n (request_at r e did) did)
      (taken_single n e.what l.unanswered first k.single)
      (new_single n (request_at r e did) did) in (
        times',
        record {
          same = ap (λ (xs : List RouterState). slice_set xs n after) k.same ∙ sym rs;
          routers = λ m x at.
              elim (get_set old.routers n m after x
              (sym (ap (λ (xs : List RouterState). slice_get xs m) rs) ∙ at)) [
                | inl w ↦ subst (RouterChains chunks (completed ++ now) times') w.1 this
                | inr w ↦ more_chains chunks completed now times turn.fresh x (k.routers m x w)
              ];
          drawn = λ x c m y at router.
              drawn_now turn goes x (Contains-append_cases times turn.fresh x c) m y router
              (set_cases old.routers n m after y
              (sym (ap (λ (xs : List RouterState). slice_get xs m) rs) ∙ at));
          once = λ x y c d same. one_time turn x y
              (Contains-append_cases times turn.fresh x c)
              (Contains-append_cases times turn.fresh y d) same;
          single = All-filter (λ (u : Unanswered). not (is_complete u)) IsSingle us single;
          sent = subst (SentFit Q) (sym ss)
              (All-append (λ (e : Envelope). SentTo Q e.to e.msg) old.sent (given_out did)
              (all_sent_more (Chained completed times) Q
              (chained_more completed now times turn.fresh) old.sent k.sent) f.out);
          complete = All-append IsSingle completed now k.complete
              (All-filter (λ (u : Unanswered). is_complete u && all_say u) IsSingle us single);
        },
      )
    where
      not_before : (turn : Turn) (x : Tag × ℕ) → Contains turn.fresh x → (y : Tag × ℕ)
          → Contains times y → y.0 ≡ x.0 → ⊥
      not_before turn x c y d same =
          let b = turn.begins x c in
          let tag : y.0 ≡ next_tag r = same ∙ b.tag in
          let router : y.0.router ≡ r.number = ap (λ (t : Tag). t.router) tag in
          undrawn r y.0 tag (k.drawn y d n r there (router ∙ stands.number))

      one_time : (turn : Turn) (x y : Tag × ℕ) → Contains times x ⊎ Contains turn.fresh x
          → Contains times y ⊎ Contains turn.fresh y → x.0 ≡ y.0 → x.1 ≡ y.1
      one_time turn x y (inl c) (inl d) same = k.once x y c d same
      one_time turn x y (inl c) (inr d) same = absurd (not_before turn y d x c same)
      one_time turn x y (inr c) (inl d) same = absurd (not_before turn x c y d (sym same))
      one_time turn x y (inr c) (inr d) same = ap (λ (z : Tag × ℕ). z.1) (turn.one x y c d)

      drawn_now : (turn : Turn) → GoesOn r after → (x : Tag × ℕ)
          → Contains times x ⊎ Contains turn.fresh x → (m : ℕ) (y : RouterState)
          → x.0.router ≡ m
          → ((m ≡ n) × (y ≡ after)) ⊎ ((m ≡ n → ⊥) × (slice_get old.routers m ≡ Some y))
          → WasDrawn y x.0
      drawn_now turn goes x (inl c) m y router (inl w) =
          subst (λ (z : RouterState). WasDrawn z x.0) (sym w.1)
          (drawn_then r after x.0 goes (k.drawn x c n r there (router ∙ w.0)))
      drawn_now turn goes x (inl c) m y router (inr w) = k.drawn x c m y w.1 router
      drawn_now turn goes x (inr c) m y router (inl w) =
          let b = turn.begins x c in
          let up : r.serial + 1 ≤ after.serial = b.drawn in
          let serial : x.0.serial ≡ r.serial + 1 = ap (λ (t : Tag). t.serial) b.tag in
          subst (λ (z : RouterState). WasDrawn z x.0) (sym w.1)
          (inr (ap (λ (t : Tag). t.boot) b.tag ∙ sym goes.boot, omega (arith, up, serial)))
      drawn_now turn goes x (inr c) m y router (inr w) =
          let b = turn.begins x c in
          absurd (w.0 (sym router ∙ ap (λ (t : Tag). t.router) b.tag ∙ stands.number))

by_want : (chunks : Map) (completed : List Unanswered) (l : Ledger) (old new : Nodes) (n : ℕ)
    (r : RouterState) (e : NodeEvent) (begun : List Unanswered) (told : List Answered)
    (want : Bool) → IsMap chunks → chunks.shards ≡ 1 → slice_get old.routers n ≡ Some r
    → new.routers ≡ slice_set old.routers n (sp.router_step want r e).state
    → new.sent ≡ old.sent ++ given_out (sp.answer_of want (sp.router_step want r e))
    → EventFirst e.what → RouterStands n begun l.unanswered told r
    → ChainsOn chunks l completed old
    → ChainsOn chunks (entered l n (Some r) e (sp.answer_of want (sp.router_step want r e))).ledger
    (completed ++ completed_at l n (Some r) e (sp.answer_of want (sp.router_step want r e))) new
by_want chunks completed l old new n r e begun told true is one there rs ss first stands k =
    stays chunks l (passed l).ledger completed old new
    (rs ∙ ap (slice_set old.routers n) (memory_state r e) ∙ set_same old.routers n r there) refl
    refl
    (λ times h. subst (SentFit (Chained completed times)) (sym (ss
    ∙ ap (λ (out : List Envelope). old.sent ++ out) (memory_out r e) ∙ append-nil old.sent)) h) k
by_want chunks completed l old new n r e begun told false is one there rs ss first stands k =
    entered_chains chunks completed k.0 l old new n r e begun told is one there rs ss first stands
    k.1

router_chains : (chunks : Map) (completed : List Unanswered) (l : Ledger) (old new : Nodes) (n : ℕ)
    (e : NodeEvent) (a : NodeAnswer) (faults : ℕ) (begun : List Unanswered) (told : List Answered)
    → IsMap chunks → chunks.shards ≡ 1 → AllFirst old.sent → RouterSteps old n e a faults new
    → Booked l begun told old → ChainsOn chunks l completed old
    → ChainsOn chunks (entered l n (slice_get l.routers n) e a).ledger
    (completed ++ completed_at l n (slice_get l.routers n) e a) new
router_chains chunks completed l old new n e a faults begun told is one firsts h book k =
    let there : slice_get l.routers n ≡ Some h.before = ap
    (λ (xs : List RouterState). slice_get xs n) k.1.same ∙ h.there in
    let rs : new.routers ≡ slice_set old.routers n (sp.router_step h.takes.0 h.before e).state = ap
    (λ (w : Nodes). w.routers) h.nodes ∙ ap (slice_set old.routers n) h.takes.2 in
    let ss : new.sent ≡ old.sent
    ++ given_out (sp.answer_of h.takes.0 (sp.router_step h.takes.0 h.before e)) =
    ap (λ (w : Nodes). w.sent) h.nodes
    ∙ ap (λ (x : NodeAnswer). old.sent ++ given_out x) h.takes.1 in
    rw there (rw h.takes.1 (by_want chunks completed l old new n h.before e begun told h.takes.0 is
    one h.there rs ss (comes_first old.sent (Router n) e.what firsts h.comes)
    (book.book.routers_stand n h.before there) k))

-- A router that starts again.

again_chains : (chunks : Map) (completed : List Unanswered) (times : Times) (n : ℕ)
    (r : RouterState) → r.chunks ≡ chunks → RouterChains chunks completed times (again n r)
again_chains chunks completed times n r is = record {
  chunks_are = is;
  sessions = λ lsid s e. let no : None ≡ Some s = e in grind (arith, no);
  waits = All-nil (EntryFits (Chained completed times));
}

swapped_chains : (chunks : Map) (completed : List Unanswered) (l : Ledger) (old new : Nodes)
    (n : ℕ) (r : RouterState) → slice_get old.routers n ≡ Some r
    → new.routers ≡ slice_set old.routers n (again n r) → new.sent ≡ old.sent
    → ChainsOn chunks l completed old
    → ChainsOn chunks (swapped l n (Some r)) (completed ++ []) new
swapped_chains chunks completed l old new n r there rs ss k =
    subst (λ (c : List Unanswered). ChainsOn chunks (swapped l n (Some r)) c new)
    (sym (append-nil completed)) (
      k.0,
      record {
        same = ap (λ (xs : List RouterState). slice_set xs n (again n r)) k.1.same ∙ sym rs;
        routers = λ m x at. routers_now m x (set_cases old.routers n m (again n r) x
            (sym (ap (λ (xs : List RouterState). slice_get xs m) rs) ∙ at));
        drawn = λ x c m y at router. drawn_now x c m y router
            (set_cases old.routers n m (again n r) y
            (sym (ap (λ (xs : List RouterState). slice_get xs m) rs) ∙ at));
        once = k.1.once;
        single = All-filter (λ (u : Unanswered). not (nat_eq u.router n)) IsSingle l.unanswered
            k.1.single;
        sent = subst (SentFit (Chained completed k.0)) (sym ss) k.1.sent;
        complete = k.1.complete;
      },
    )
  where
    routers_now : (m : ℕ) (x : RouterState)
        → ((m ≡ n) × (x ≡ again n r)) ⊎ ((m ≡ n → ⊥) × (slice_get old.routers m ≡ Some x))
        → RouterChains chunks completed k.0 x
    routers_now m x (inl w) = subst (RouterChains chunks completed k.0) (sym w.1)
        (again_chains chunks completed k.0 n r (k.1.routers n r there).chunks_are)
    routers_now m x (inr w) = k.1.routers m x w.1

    drawn_now : (x : Tag × ℕ) → Contains k.0 x → (m : ℕ) (y : RouterState) → x.0.router ≡ m
        → ((m ≡ n) × (y ≡ again n r)) ⊎ ((m ≡ n → ⊥) × (slice_get old.routers m ≡ Some y))
        → WasDrawn y x.0
    drawn_now x c m y router (inl w) =
        subst (λ (z : RouterState). WasDrawn z x.0) (sym w.1)
        (drawn_again r n x.0 (k.1.drawn x c n r there (router ∙ w.0)))
    drawn_now x c m y router (inr w) = k.1.drawn x c m y w.1 router

-- An event.

pub step_chains : (chunks : Map) (completed : List Unanswered) (l : Ledger) (old : Nodes)
    (ran : Ran) (new : Nodes) (begun : List Unanswered) (told : List Answered) → IsMap chunks
    → chunks.shards ≡ 1 → AllFirst old.sent → Happens old ran new → Booked l begun told old
    → ChainsOn chunks l completed old
    → ChainsOn chunks (entered_by l ran).ledger (completed ++ completed_by l ran) new
unfolding entered_by
step_chains chunks completed l old (Step (Router n) e a faults) new begun told is one firsts h book
    k =
    router_chains chunks completed l old new n e a faults begun told is one firsts h book k
step_chains chunks completed l old (Step (Shard n) e a faults) new begun told is one firsts h book
    k =
    stays chunks l (passed l).ledger completed old new (ap (λ (w : Nodes). w.routers) h.nodes) refl
    refl
    (λ times sent. subst (SentFit (Chained completed times))
    (sym (ap (λ (w : Nodes). w.sent) h.nodes))
    (All-append (λ (e : Envelope). SentTo (Chained completed times) e.to e.msg) old.sent
    (given_out a) sent (others_fit (Chained completed times) (given_out a)
    (takes_gives h.before e a h.after h.takes)))) k
step_chains chunks completed l old (Swapped (Shard n)) new begun told is one firsts h book k =
    stays chunks l (passed l).ledger completed old new (ap (λ (w : Nodes). w.routers) h.nodes) refl
    refl
    (λ times sent. subst (SentFit (Chained completed times))
    (sym (ap (λ (w : Nodes). w.sent) h.nodes)) sent) k
step_chains chunks completed l old (Swapped (Router n)) new begun told is one firsts h book k =
    let there : slice_get l.routers n ≡ Some h.before = ap
    (λ (xs : List RouterState). slice_get xs n) k.1.same ∙ h.there in
    rw there (swapped_chains chunks completed l old new n h.before h.there
    (ap (λ (w : Nodes). w.routers) h.nodes) (ap (λ (w : Nodes). w.sent) h.nodes) k)

-- A run, by its beginning.

pub ledger_more : (l : Ledger) (run : List Ran) (ran : Ran)
    → ledger_behind l (run ++ ran ∷ []) ≡ (entered_by (ledger_behind l run) ran).ledger
ledger_more l [] ran = refl
ledger_more l (r ∷ run) ran = ledger_more (entered_by l r).ledger run ran

completed_more : (l : Ledger) (run : List Ran) (ran : Ran)
    → completed_from l (run ++ ran ∷ []) ≡ completed_from l run
    ++ completed_by (ledger_behind l run) ran
completed_more l [] ran = append-nil (completed_by l ran)
completed_more l (r ∷ run) ran =
    ap (λ (more : List Unanswered). completed_by l r ++ more)
    (completed_more (entered_by l r).ledger run ran)
    ∙ sym (append_assoc (completed_by l r) (completed_from (entered_by l r).ledger run)
    (completed_by (ledger_behind (entered_by l r).ledger run) ran))

trace_more : (start : Nodes) (run : List Ran) (trace : List Nodes) (old : Nodes) (ran : Ran)
    (new : Nodes) → IsTrace start run trace old → Happens old ran new
    → IsTrace start (run ++ ran ∷ []) (trace ++ old ∷ []) new
trace_more start [] [] old ran new h k = (h, (new, subst (λ (w : Nodes). Happens w ran new) h k, refl))
trace_more start [] (nodes ∷ trace) old ran new h k = absurd h
trace_more start (r ∷ run) [] old ran new h k = absurd h
trace_more start (r ∷ run) (nodes ∷ trace) old ran new h k =
    (h.0, (h.1.0, h.1.1, trace_more h.1.0 run trace old ran new h.1.2 k))

fresh_chains : (chunks : Map) (start : Nodes) → IsFresh chunks start
    → ChainsOn chunks (fresh_ledger start.routers) [] start
fresh_chains chunks start f = (
  [],
  record {
    same = refl;
    routers = λ n r at.
        let b = f.routers n r at in
        subst (RouterChains chunks [] []) (sym b.1) (fresh_router_chains n b.0);
    drawn = λ x c n r at router. none_there x c;
    once = λ x y c d same. none_there x c;
    single = All-nil IsSingle;
    sent = subst (SentFit (Chained [] [])) (sym f.sent)
        (All-nil (λ (e : Envelope). SentTo (Chained [] []) e.to e.msg));
    complete = All-nil IsSingle;
  },
)
  where
    fresh_router_chains : (n boot : ℕ) → RouterChains chunks [] [] (fresh_router n boot chunks)
    fresh_router_chains n boot = record {
      chunks_are = refl;
      sessions = λ lsid s e. let no : None ≡ Some s = e in grind (arith, no);
      waits = All-nil (EntryFits (Chained [] []));
    }

-- the Answers of a run are the first shard's
abbrev pub FirstAlways : Nodes → Type 0
FirstAlways start = (run : List Ran) (trace : List Nodes) (now : Nodes)
    → IsTrace start run trace now → AllFirst now.sent

run_chains : (chunks : Map) (start : Nodes) → IsMap chunks → chunks.shards ≡ 1
    → IsFresh chunks start → FirstAlways start
    → (done : List Ran) (passed_nodes : List Nodes) (old : Nodes)
    → IsTrace start done passed_nodes old
    → ChainsOn chunks (ledger_behind (fresh_ledger start.routers) done)
    (completed_from (fresh_ledger start.routers) done) old
    → (run : List Ran) (trace : List Nodes) (new : Nodes) → IsTrace old run trace new
    → ChainsOn chunks (ledger_behind (fresh_ledger start.routers) (done ++ run))
    (completed_from (fresh_ledger start.routers) (done ++ run)) new
run_chains chunks start is one f firsts done before old h k [] [] new t =
    subst (λ (w : Nodes). ChainsOn chunks (ledger_behind (fresh_ledger start.routers) (done ++ []))
    (completed_from (fresh_ledger start.routers) (done ++ [])) w) (sym t)
    (subst (λ (d : List Ran). ChainsOn chunks (ledger_behind (fresh_ledger start.routers) d)
    (completed_from (fresh_ledger start.routers) d) old) (sym (append-nil done)) k)
run_chains chunks start is one f firsts done before old h k [] (nodes ∷ trace) new t = absurd t
run_chains chunks start is one f firsts done before old h k (ran ∷ run) [] new t = absurd t
run_chains chunks start is one f firsts done before old h k (ran ∷ run) (nodes ∷ trace) new t =
    let l0 = fresh_ledger start.routers in
    let step = step_chains chunks (completed_from l0 done) (ledger_behind l0 done) old ran t.1.0
    (opened_from l0 done) (answered_from l0 done) is one (firsts done before old h) t.1.1
    (all_booked chunks start done before old f h) k in
    let next : ChainsOn chunks (ledger_behind l0 (done ++ ran ∷ []))
    (completed_from l0 (done ++ ran ∷ [])) t.1.0 =
    subst (λ (l : Ledger). ChainsOn chunks l (completed_from l0 (done ++ ran ∷ [])) t.1.0)
    (sym (ledger_more l0 done ran))
    (subst (λ (c : List Unanswered). ChainsOn chunks (entered_by (ledger_behind l0 done) ran).ledger
    c t.1.0) (sym (completed_more l0 done ran)) step) in
    subst (λ (d : List Ran). ChainsOn chunks (ledger_behind l0 d) (completed_from l0 d) new)
    (append_assoc done (ran ∷ []) run)
    (run_chains chunks start is one f firsts (done ++ ran ∷ []) (before ++ old ∷ []) t.1.0
    (trace_more start done before old ran t.1.0 h t.1.1) next run trace new t.1.2)

pub all_chains : (chunks : Map) (start : Nodes) → IsMap chunks → chunks.shards ≡ 1
    → IsFresh chunks start → FirstAlways start
    → (run : List Ran) (trace : List Nodes) (now : Nodes) → IsTrace start run trace now
    → ChainsOn chunks (ledger_behind (fresh_ledger start.routers) run)
    (completed_from (fresh_ledger start.routers) run) now
all_chains chunks start is one f firsts run trace now h =
    run_chains chunks start is one f firsts [] [] start refl (fresh_chains chunks start f) run trace
    now h
