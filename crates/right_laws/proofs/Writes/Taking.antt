-- A router's step keeps what its sessions know of writes: where a session takes an Answer that
-- tells of one, the shard is among those that wrote.
use Rattle.std.proofs.Common.{◌≡◌, inl, inr, ◌&&◌, ◌||◌, ◌++◌, ℕ, ℤ, Bool, true, false, not}
use Rattle.std.proofs.Common.{List, [], ◌∷◌, filter, filter_map, nat_eq, Option, Some, None, Ok}
use Rattle.std.proofs.Common.{refl, sym, ap, subst, ◌∙◌, arith}
use Rattle.std.specs.Prelude.{Contains, slice_get}
use Rattle.std.specs.List.{list_any}
use Rattle.std.specs.Ordering.{nat_cmp}
use Rattle.std.proofs.lemmas.List.Elements.{All-contains, Contains-append_cases}
use Rattle.txn_types.specs.Letters.{given_out}
use Rattle.txn_types.specs.Order.{same_tag}
use Rattle.txn_types.specs.declared.cause.Cause.{Cause}
use Rattle.txn_types.specs.declared.event.Happening.{Happening}
use Rattle.txn_types.specs.declared.event.Happening.TheVariants as what
use Rattle.txn_types.specs.declared.event.NodeEvent.{NodeEvent}
use Rattle.txn_types.specs.declared.message.Answer.{Answer}
use Rattle.txn_types.specs.declared.message.Commit.{Commit}
use Rattle.txn_types.specs.declared.message.Envelope.{Envelope}
use Rattle.txn_types.specs.declared.message.Msg.{Msg}
use Rattle.txn_types.specs.declared.message.Msg.TheVariants as msg
use Rattle.txn_types.specs.declared.names.Tag.{Tag}
use Rattle.txn_types.specs.declared.node.Lsid.{Lsid}
use Rattle.txn_types.specs.declared.operation.Op.{Op}
use Rattle.txn_types.specs.declared.operation.OpReply.{OpReply}
use Rattle.txn_semantics.specs.Keyed.{put}
use Rattle.txn_semantics.specs.Merge.{merge}
use Rattle.txn_semantics.specs.declared.commits.Answered.{Answered}
use Rattle.chunk_map.specs.Map.{Map, IsMap}
use Rattle.router_state.specs.declared.state.Asker.{Asker}
use Rattle.router_state.specs.declared.state.Doing.{Doing}
use Rattle.router_state.specs.declared.state.Doing.TheVariants.{Begun, Sought}
use Rattle.router_state.specs.declared.state.Phase.{Phase}
use Rattle.router_state.specs.declared.state.Phase.TheVariants.{Idle, Asking, Checking, Deciding}
use Rattle.router_state.specs.declared.state.Phase.TheVariants.{Committed, Released, Aborted}
use Rattle.router_state.specs.declared.state.Session.{Session}
use Rattle.router_state.specs.declared.state.Transaction.{Transaction}
use Rattle.router_state.specs.State.{Post, RouterState, session_of, is_waited, without}
use Rattle.router_rules.specs.Serving as sv
use Rattle.router_rules.specs.Statements as st
use Rattle.router_rules.specs.Times.{walled}
use Rattle.router_core.specs.Requests as rq
use Rattle.cluster_core.specs.Answering.{Unanswered, is_for}
use Rattle.cluster_core.specs.Nodes.{Nodes}
use Rattle.world_laws.proofs.Going.{some_same}
use Rattle.answer_laws.specs.Comes.{as_opened}
use Rattle.answer_laws.proofs.Lists.{both_true, nat_is}
use Rattle.told_laws.proofs.Answering.{takes, for_asked, not_asking}
use Rattle.told_laws.proofs.Booking.{same_tag_of}
use Rattle.told_laws.proofs.Opening.{not_drawn}
use Rattle.told_laws.proofs.Quiet.{IsSettled, IsOver}
use Rattle.told_laws.proofs.Standing.{AllReplied, TxnStands, DoingStands, RouterStands, BookStands}
use Rattle.told_laws.proofs.Standing.{IsOpen}
use Rattle.one_shard_laws.proofs.Asking.{also_wrote}
use Rattle.commit_laws.specs.Speaking.{Gave, CommitFollows, MsgFollows}
use Rattle.commit_laws.proofs.Follows.{Asked, DoingFollows, Follows, IsPast}
use Rattle.commit_laws.proofs.Standing.{Stand}
use Rattle.commit_laws.proofs.Stepping.{move_of, did}
use Rattle.decision_laws.specs.Ends.{WasSent, IsAborted}
use Rattle.decision_laws.proofs.Boots.{IsFrom, new_from}
use Rattle.right_laws.specs.Knowing.{TellsWrite, KnowsWrites, PhaseKnowsWrites, DoingKnowsWrites}
use Rattle.right_laws.specs.Knowing.{RoutersKnowWrites}
use Rattle.right_laws.proofs.Writes.Given.{IsTaken, MsgTakes, WhatTakes, AsksIt, asks_it}
use Rattle.right_laws.proofs.Writes.Knowing.{PhaseKnows, DoingKnows, Knows, RouterKnows, MsgKnows}
use Rattle.right_laws.proofs.Writes.Knowing.{WhatKnows}
use Rattle.right_laws.proofs.Writes.Knowing.{replies_know, happened_knows}

-- Lists.

no_cons : {A X : Type 0} (x : A) (xs : List A) → x ∷ xs ≡ [] → X
no_cons x xs e = cc

front_none : {A : Type 0} (xs ys : List A) → xs ++ ys ≡ [] → xs ≡ []
front_none [] ys e = refl
front_none (x ∷ xs) ys e = no_cons x (xs ++ ys) e

not_both : {X : Type 0} (b : Bool) → b ≡ true → b ≡ false → X
not_both b e f = let no : true ≡ false = sym e ∙ f in cc

without_one : (shard : ℕ) (m : Msg) → is_waited shard ((0, m) ∷ []) ≡ true
    → without shard ((0, m) ∷ []) ≡ []
without_one shard m waits = by (nat_eq 0 shard) refl
  where
    by : (test : Bool) → nat_eq 0 shard ≡ test → without shard ((0, m) ∷ []) ≡ []
    by true is = rw is refl
    by false is =
        let no : false ≡ true = ap (λ (b : Bool). b || false) (sym is) ∙ waits in
        cc

-- the one Answer that tells of a write names its shard as one that wrote
also_some : (a : Answer) (wrote : List ℕ) (reply : OpReply) → a.outcome ≡ Ok (reply, true)
    → also_wrote wrote (filter_map st.writer_in ((a.shard, a) ∷ [])) ≡ [] → ⊥
also_some a wrote reply is none =
    let some : filter_map st.writer_in ((a.shard, a) ∷ []) ≡ a.shard ∷ [] = rw is refl in
    let shown : also_wrote wrote (a.shard ∷ []) ≡ [] =
    subst (λ (l : List ℕ). also_wrote wrote l ≡ []) some none in
    let first : wrote ≡ [] =
    front_none wrote (filter (λ (shard : ℕ). not (list_any (nat_eq shard) wrote)) (a.shard ∷ []))
    shown in
    let last : also_wrote [] (a.shard ∷ []) ≡ [] =
    subst (λ (l : List ℕ). also_wrote l (a.shard ∷ []) ≡ []) first shown in
    no_cons a.shard [] last

-- an Answer that is taken
pub taken_of : (n : ℕ) (us : List Unanswered) (u : Unanswered) (w : Happening) → WhatTakes n us u w
    → (a : Answer) × IsTaken n us a u
taken_of n us u (what.Deliver e) h = by e.msg h
  where
    by : (m : Msg) → MsgTakes n us u m → (a : Answer) × IsTaken n us a u
    by (msg.Answer a) k = (a, k)
    by other k = absurd k
taken_of n us u other h = absurd h

-- A step of a router, with what stood before it.

module _ (chunks : Map) (is : IsMap chunks) (one : chunks.shards ≡ 1) (old : Nodes) (n : ℕ)
    (r : RouterState) (e : NodeEvent) (begun us : List Unanswered) (told : List Answered)
    (completed new : List Unanswered) (there : slice_get old.routers n ≡ Some r)
    (book : BookStands old.routers begun us told) (stand : Stand chunks old begun told)
    (knew : RoutersKnowWrites completed old)
    (opened : (u : Unanswered) → Contains completed u → Contains begun (as_opened u))
    (now_from : (u : Unanswered) → Contains new u → TellsWrite u → WhatTakes n us u e.what) where
  abbrev pub P : Tag → List ℕ → Type 0
  P tag wrote = KnowsWrites (completed ++ new) tag wrote

  abbrev pub A : Tag → List ℕ → Type 0
  A tag wrote = (c : Commit) → WasSent old.sent c → c.tag ≡ tag → P tag wrote

  abbrev fall : (tag : Tag) (wrote : List ℕ) → P tag wrote → A tag wrote
  fall tag wrote h c was same = h

  abbrev before : RouterState
  before = walled r e.wall

  -- Where no statement of it is completed now.

  more : (tag : Tag) (wrote : List ℕ) → KnowsWrites completed tag wrote
      → ((u : Unanswered) → Contains new u → u.tag ≡ tag → TellsWrite u → ⊥) → P tag wrote
  more tag wrote h none u c same w empty =
      elim (Contains-append_cases completed new u c) [
        | inl k ↦ h u k same w empty
        | inr k ↦ none u k same w
      ]

  abbrev Spares : Transaction → Type 0
  Spares t = (IsAborted t.phase → AllReplied begun told t.tag) → (u : Unanswered)
      → Contains new u → u.tag ≡ t.tag → TellsWrite u → ⊥

  commit_is : (c : Commit) → WasSent old.sent c → CommitFollows (Gave old.sent told) begun told c
  commit_is c was =
      subst (MsgFollows (Gave old.sent told) begun told was.0.to) was.2
      (All-contains (λ (x : Envelope). MsgFollows (Gave old.sent told) begun told x.to x.msg)
      old.sent was.0 stand.sent was.1)

  all_replied : (c : Commit) (tag : Tag) → WasSent old.sent c → c.tag ≡ tag
      → AllReplied begun told tag
  all_replied c tag was same v c1 tags = (commit_is c was).replied v c1 (tags ∙ sym same)

  spared : (t : Transaction) (p : Phase) → t.phase ≡ p → (IsAborted p → ⊥) → Spares t
      → PhaseKnowsWrites completed old.sent t.tag t.wrote p
      → KnowsWrites completed t.tag t.wrote → P t.tag t.wrote
  spared t p at live none h k =
      more t.tag t.wrote k
      (λ u c same w. none (λ over. absurd (live (subst IsAborted at over))) u c same w)

  keeps : (t : Transaction) (p : Phase) → t.phase ≡ p
      → PhaseKnowsWrites completed old.sent t.tag t.wrote p → Spares t
      → PhaseKnows P A fall t.tag t.wrote p
  keeps t (Aborted sent) at h none = λ c was same.
      more t.tag t.wrote (h c was same)
      (λ u k tags w. none (λ over. all_replied c t.tag was same) u k tags w)
  keeps t other at h none = spared t other at (λ x. x) none h h

  -- what stood of a session's transaction
  txn_stands : (m : ℕ) (x : RouterState) (lsid : Lsid) (s : Session) (t : Transaction)
      → slice_get old.routers m ≡ Some x → session_of x lsid ≡ Some s → s.doing ≡ Begun t
      → TxnStands m begun us told t
  txn_stands m x lsid s t at in_it doing =
      (subst (DoingStands m x begun us told) doing
      ((book.routers_stand m x at).sessions lsid s in_it)).1

  txn_knew : (m : ℕ) (x : RouterState) (lsid : Lsid) (s : Session) (t : Transaction)
      → slice_get old.routers m ≡ Some x → session_of x lsid ≡ Some s → s.doing ≡ Begun t
      → PhaseKnowsWrites completed old.sent t.tag t.wrote t.phase
  txn_knew m x lsid s t at in_it doing =
      subst (DoingKnowsWrites completed old.sent) doing (knew m x at lsid s in_it)

  old_tag : (a : Answer) (u : Unanswered) (k : IsTaken n us a u) → k.old.tag ≡ u.tag
  old_tag a u k = sym (ap (λ (x : Unanswered). x.tag) k.is)

  asked_for : (m : ℕ) (t : Transaction) (a : Answer) (u : Unanswered)
      → TxnStands m begun us told t → (IsAborted t.phase → AllReplied begun told t.tag)
      → (k : IsTaken n us a u) → u.tag ≡ t.tag
      → AsksIt begun us told book.lists m t k.old
  asked_for m t a u stands over k same =
      asks_it begun us told book.lists m t k.old k.there (old_tag a u k ∙ same) stands.phase over

  doing_keeps : (m : ℕ) (x : RouterState) (lsid : Lsid) (s : Session) (doing : Doing)
      → slice_get old.routers m ≡ Some x → session_of x lsid ≡ Some s → s.doing ≡ doing
      → ((t : Transaction) → TxnStands m begun us told t → Spares t)
      → DoingKnows P A fall doing
  doing_keeps m x lsid s (Begun t) at in_it doing none =
      keeps t t.phase refl (txn_knew m x lsid s t at in_it doing)
      (none t (txn_stands m x lsid s t at in_it doing))
  doing_keeps m x lsid s (Sought seeking known) at in_it doing none = tt

  -- At another router.

  router_is : (a : Answer) (u : Unanswered) → is_for n a u ≡ true → u.router ≡ n
  router_is a u it =
      let l = nat_eq u.router n in
      let t = same_tag u.tag a.tag in
      let k = nat_eq u.k a.k in
      let s = list_any (nat_eq a.shard) u.shards in
      let none = not (list_any (λ (other : ℕ × Answer). nat_eq other.0 a.shard) u.answers) in
      nat_is u.router n (both_true l t (both_true (l && t) k (both_true (l && t && k) s
      (both_true (l && t && k && s) none it).0).0).0).0

  elsewhere : (m : ℕ) → (m ≡ n → ⊥) → (t : Transaction) → TxnStands m begun us told t → Spares t
  elsewhere m apart t stands over u c same w =
      let k = taken_of n us u e.what (now_from u c w) in
      let x = asked_for m t k.0 u stands over k.1 same in
      apart (sym x.asked.router ∙ ap (λ (y : Unanswered). y.router) (sym x.is)
      ∙ router_is k.0 k.1.old k.1.for_it)

  others_know : (m : ℕ) (x : RouterState) → (m ≡ n → ⊥) → slice_get old.routers m ≡ Some x
      → RouterKnows P A fall x
  others_know m x apart at lsid s in_it =
      doing_keeps m x lsid s s.doing at in_it refl (elsewhere m apart)

  -- At the router, where no Answer comes.

  quiet : ((u : Unanswered) → Contains new u → TellsWrite u → ⊥) → RouterKnows P A fall before
  quiet none lsid s in_it =
      doing_keeps n r lsid s s.doing there in_it refl (λ t stands over u c same w. none u c w)

  -- Where one comes.

  module _ (a : Answer) (now_taken : (u : Unanswered) → Contains new u → TellsWrite u
      → IsTaken n us a u) where
    asks_now : (t : Transaction) → TxnStands n begun us told t
        → (IsAborted t.phase → AllReplied begun told t.tag) → (u : Unanswered)
        → (c : Contains new u) → u.tag ≡ t.tag → (w : TellsWrite u)
        → AsksIt begun us told book.lists n t (now_taken u c w).old
    asks_now t stands over u c same w = asked_for n t a u stands over (now_taken u c w) same

    -- a session that doesn't take it
    untaken : (t : Transaction) → TxnStands n begun us told t → takes a t ≡ false → Spares t
    untaken t stands miss over u c same w =
        let k = now_taken u c w in
        let x = asks_now t stands over u c same w in
        let it : is_for n a x.asked.statement ≡ true =
        subst (λ (v : Unanswered). is_for n a v ≡ true) x.is k.for_it in
        not_both (takes a t)
        (sym (for_asked n a begun us told t x.asker x.op x.answers x.asked) ∙ it) miss

    -- or waits for none
    unasking : (t : Transaction) → TxnStands n begun us told t → IsOver t.phase → Spares t
    unasking t stands none over u c same w =
        let x = asks_now t stands over u c same w in
        not_asking t.phase x.asker x.op x.answers none x.phase

    -- or takes it
    module _ (lsid : Lsid) (number : ℤ) (t : Transaction) (asker : Asker) (op : Op)
        (at : t.phase ≡ Asking asker op []) (stands : TxnStands n begun us told t)
        (h : KnowsWrites completed t.tag t.wrote)
        (past : (c : Commit) → WasSent old.sent c → c.tag ≡ t.tag → IsPast t.phase) where
      abbrev now : Transaction
      now = st.with_answer asker op [] a t

      abbrev rows : List (ℕ × Answer)
      rows = (a.shard, a) ∷ []

      same_answers : (asker1 asker2 : Asker) (op1 op2 : Op) (xs ys : List (ℕ × Answer))
          → Asking asker1 op1 xs ≡ Asking asker2 op2 ys → xs ≡ ys
      same_answers asker1 asker2 op1 op2 xs ys eq = cc

      second : (x y : ℕ × Answer) → x ∷ [] ≡ y ∷ [] → x.1 ≡ y.1
      second x y eq = ap (λ (p : ℕ × Answer). p.1) (firsts x y eq)
        where
          firsts : (x y : ℕ × Answer) → x ∷ [] ≡ y ∷ [] → x ≡ y
          firsts x y eq = cc

      tells : (u : Unanswered) → (c : Contains new u) → u.tag ≡ t.tag → (w : TellsWrite u)
          → a.outcome ≡ Ok (w.2.0, true)
      tells u c same w =
          let k = now_taken u c w in
          let x = asks_now t stands (λ over. absurd (subst IsAborted at over)) u c same w in
          let none : x.answers ≡ [] =
          same_answers x.asker asker x.op op x.answers [] (sym x.phase ∙ at) in
          let before_it : k.old.answers ≡ [] =
          ap (λ (y : Unanswered). y.answers) x.is ∙ x.asked.answers_are ∙ none in
          let rows_are : u.answers ≡ rows =
          ap (λ (y : Unanswered). y.answers) k.is ∙ ap (put nat_cmp a.shard a) before_it in
          let it : w.0 ≡ a = second (0, w.0) (a.shard, a) (sym w.1 ∙ rows_are) in
          ap (λ (y : Answer). y.outcome) (sym it) ∙ w.2.1

      wrote_now : P t.tag (also_wrote t.wrote (filter_map st.writer_in rows))
      wrote_now u c same w empty =
          elim (Contains-append_cases completed new u c) [
            | inl k ↦ h u k same w (front_none t.wrote
                (filter (λ (shard : ℕ). not (list_any (nat_eq shard) t.wrote))
                (filter_map st.writer_in rows)) empty)
            | inr k ↦ also_some a t.wrote w.2.0 (tells u k same w) empty
          ]

      concludes_case : (o : Option (ℕ × Cause))
          → Knows P A fall (st.concludes_by lsid number asker op rows now o)
      concludes_case (Some refusal) = λ c was same. absurd (subst IsPast at (past c was same))
      concludes_case None =
          replies_know P A fall lsid number asker op (st.answered_by rows now)
          (merge op (filter_map st.reply_in rows)) wrote_now

      taken_case : (w : List Post) → w ≡ []
          → Knows P A fall (st.taken_by lsid number asker op rows now w)
      taken_case [] eq = concludes_case (st.winning (filter_map st.cause_in rows))
      taken_case (post ∷ posts) eq = no_cons post posts eq

    asked_case : (lsid : Lsid) (number : ℤ) (t : Transaction) (asker : Asker) (op : Op)
        (answers : List (ℕ × Answer)) → t.phase ≡ Asking asker op answers
        → TxnStands n begun us told t → KnowsWrites completed t.tag t.wrote
        → ((c : Commit) → WasSent old.sent c → c.tag ≡ t.tag → IsPast t.phase)
        → Asked (Gave old.sent told) t answers → is_waited a.shard t.waiting ≡ true
        → Knows P A fall (st.taken lsid number a asker op answers t)
    asked_case lsid number t asker op answers at stands h past (inl none) waits =
        let no : false ≡ true = ap (is_waited a.shard) (sym none) ∙ waits in
        absurd (grind (arith, no))
    asked_case lsid number t asker op answers at stands h past (inr f) waits =
        let left : without a.shard t.waiting ≡ [] = ap (without a.shard) f.1.waits
        ∙ without_one a.shard (msg.Statement f.1.m)
        (sym (ap (is_waited a.shard) f.1.waits) ∙ waits) in
        subst (λ (ones : List (ℕ × Answer)).
        Knows P A fall (st.taken lsid number a asker op ones t)) (sym f.0)
        (taken_case lsid number t asker op (at ∙ ap (Asking asker op) f.0) stands h past
        (without a.shard t.waiting) left)

    answer_phase : (lsid : Lsid) (number : ℤ) (t : Transaction) (p : Phase)
        → TxnStands n begun us told (record t { phase = p })
        → PhaseKnowsWrites completed old.sent t.tag t.wrote p
        → ((c : Commit) → WasSent old.sent c → c.tag ≡ t.tag → IsPast p)
        → Follows (Gave old.sent told) (record t { phase = p }) p
        → is_waited a.shard t.waiting ≡ true
        → Knows P A fall (st.answer_to lsid number a (record t { phase = p }))
    answer_phase lsid number t (Asking asker op answers) stands h past f waits =
        asked_case lsid number (record t { phase = Asking asker op answers }) asker op answers refl
        stands h past f waits
    answer_phase lsid number t Idle stands h past f waits =
        keeps (record t { phase = Idle }) Idle refl h
        (unasking (record t { phase = Idle }) stands tt)
    answer_phase lsid number t (Checking asker) stands h past f waits =
        keeps (record t { phase = Checking asker }) (Checking asker) refl h
        (unasking (record t { phase = Checking asker }) stands tt)
    answer_phase lsid number t (Deciding asker) stands h past f waits =
        keeps (record t { phase = Deciding asker }) (Deciding asker) refl h
        (unasking (record t { phase = Deciding asker }) stands tt)
    answer_phase lsid number t Committed stands h past f waits =
        keeps (record t { phase = Committed }) Committed refl h
        (unasking (record t { phase = Committed }) stands tt)
    answer_phase lsid number t Released stands h past f waits =
        keeps (record t { phase = Released }) Released refl h
        (unasking (record t { phase = Released }) stands tt)
    answer_phase lsid number t (Aborted sent) stands h past f waits =
        keeps (record t { phase = Aborted sent }) (Aborted sent) refl h
        (unasking (record t { phase = Aborted sent }) stands tt)

    answer_case : (lsid : Lsid) (number : ℤ) (t : Transaction) (test : Bool) → takes a t ≡ test
        → TxnStands n begun us told t
        → PhaseKnowsWrites completed old.sent t.tag t.wrote t.phase
        → ((c : Commit) → WasSent old.sent c → c.tag ≡ t.tag → IsPast t.phase)
        → Follows (Gave old.sent told) t t.phase
        → Knows P A fall (st.on_answer lsid number a t)
    answer_case lsid number t true so stands h past f = rw so
        (answer_phase lsid number t t.phase stands h past f
        (both_true (same_tag t.tag a.tag && nat_eq a.k t.k) (is_waited a.shard t.waiting) so).1)
    answer_case lsid number t false so stands h past f = rw so
        (keeps t t.phase refl h (untaken t stands so))

    doing_case : (lsid : Lsid) (s : Session) (doing : Doing) → session_of r lsid ≡ Some s
        → s.doing ≡ doing
        → Knows P A fall (sv.answered_in a lsid (record { number = s.number; doing = doing }))
    doing_case lsid s (Begun t) in_it doing =
        answer_case lsid s.number t (takes a t) refl (txn_stands n r lsid s t there in_it doing)
        (txn_knew n r lsid s t there in_it doing)
        (λ c was same. (stand.routers n r there).past lsid s t in_it doing c was same)
        (subst (DoingFollows (Gave old.sent told)) doing
        ((stand.routers n r there).follows lsid s in_it))
    doing_case lsid s (Sought seeking known) in_it doing = tt

    answered_know : (lsid : Lsid) (s : Session) → session_of before lsid ≡ Some s
        → Knows P A fall (sv.answered_in a lsid s)
    answered_know lsid s in_it = doing_case lsid s s.doing in_it refl

  -- The step.

  msg_knows : (x : Envelope) (m : Msg) → e.what ≡ what.Deliver x → x.msg ≡ m
      → MsgKnows P A fall before m
  msg_knows x (msg.Answer a) iw im =
      answered_know a (λ u c w.
      subst (MsgTakes n us u) im (subst (WhatTakes n us u) iw (now_from u c w)))
  msg_knows x other iw im =
      quiet (λ u c w.
      subst (MsgTakes n us u) im (subst (WhatTakes n us u) iw (now_from u c w)))

  what_knows : (w : Happening) → e.what ≡ w → WhatKnows P A fall before w
  what_knows (what.Deliver x) iw = msg_knows x x.msg iw refl
  what_knows other iw = quiet (λ u c w. subst (WhatTakes n us u) iw (now_from u c w))

  -- a transaction that begins has no statement yet
  undrawn : (u : Unanswered) → Contains begun (as_opened u) → u.tag ≡ rq.next_tag r → ⊥
  undrawn u c same =
      let stands = book.routers_stand n r there in
      not_drawn r u.tag same
      (stands.drawn (as_opened u) c (ap (λ (x : Tag). x.router) same ∙ stands.number))

  new_tag : P (rq.next_tag before) []
  new_tag u c same w empty =
      elim (Contains-append_cases completed new u c) [
        | inl k ↦ undrawn u (opened u k) same
        | inr k ↦
            let x = taken_of n us u e.what (now_from u k w) in
            undrawn x.1.old
            (All-contains (IsOpen begun) us x.1.old book.lists.are_open x.1.there).opened
            (old_tag x.0 u x.1 ∙ same)
      ]

  moved : RouterKnows P A fall (move_of r e).state
  moved = happened_knows P A fall before e.what new_tag (what_knows e.what refl)

  -- A commit that goes out is of a session that isn't aborted.

  abbrev out : List Envelope
  out = given_out (did r e)

  abbrev Free : Transaction → Type 0
  Free t = (c : Commit) → WasSent out c → c.tag ≡ t.tag → IsAborted t.phase → ⊥

  after_phase : (t : Transaction) (p : Phase) → t.phase ≡ p → Free t
      → PhaseKnows P A fall t.tag t.wrote p
      → PhaseKnowsWrites (completed ++ new) (old.sent ++ out) t.tag t.wrote p
  after_phase t (Aborted sent) at free h = λ c was same.
      elim (Contains-append_cases old.sent out was.0 was.1) [
        | inl w ↦ h c (was.0, w, was.2) same
        | inr w ↦ absurd (free c (was.0, w, was.2) same (subst IsAborted (sym at) tt))
      ]
  after_phase t other at free h = h

  after_doing : (doing : Doing) → ((t : Transaction) → doing ≡ Begun t → Free t)
      → DoingKnows P A fall doing
      → DoingKnowsWrites (completed ++ new) (old.sent ++ out) doing
  after_doing (Begun t) free h = after_phase t t.phase refl (free t refl) h
  after_doing (Sought seeking known) free h = tt

  module _ (begun' us' : List Unanswered) (told' : List Answered)
      (stands : RouterStands n begun' us' told' (move_of r e).state) where
    unsettled : (p : Phase) → IsSettled p → IsAborted p → ⊥
    unsettled (Aborted sent) s over = s
    unsettled other s over = over

    came : (c : Commit) → WasSent out c → IsFrom chunks is one r e old.sent told
        (stand.routers n r there) c
    came c was = new_from chunks is one r e old.sent told (stand.routers n r there) c was

    live : (lsid : Lsid) (s : Session) (t : Transaction)
        → session_of (move_of r e).state lsid ≡ Some s → s.doing ≡ Begun t → Free t
    live lsid s t in_it doing c was same over =
        let f = came c was in
        let key : lsid ≡ f.lsid = stands.alone lsid f.lsid s f.session in_it f.there
        (same_tag_of s.doing f.session.doing t f.t doing f.doing (sym same ∙ f.tag_is)) in
        let sessions : s ≡ f.session = some_same s f.session (sym in_it
        ∙ ap (λ (l : Lsid). session_of (move_of r e).state l) key ∙ f.there) in
        let doings : Begun t ≡ Begun f.t =
        sym doing ∙ ap (λ (x : Session). x.doing) sessions ∙ f.doing in
        let txns : f.t ≡ t = grind (arith, doings) in
        unsettled t.phase (subst (λ (x : Transaction). IsSettled x.phase) txns f.settled) over

    pub knows_now : (lsid : Lsid) (s : Session) → session_of (move_of r e).state lsid ≡ Some s
        → DoingKnowsWrites (completed ++ new) (old.sent ++ out) s.doing
    knows_now lsid s in_it =
        after_doing s.doing (λ t doing. live lsid s t in_it doing) (moved lsid s in_it)

    -- its transactions are others than those of another router
    apart_tags : (m : ℕ) (x : RouterState) (lsid : Lsid) (s : Session) (t : Transaction)
        → (m ≡ n → ⊥) → slice_get old.routers m ≡ Some x → session_of x lsid ≡ Some s
        → s.doing ≡ Begun t → Free t
    apart_tags m x lsid s t apart at in_it doing c was same over =
        let f = came c was in
        let there = book.routers_stand m x at in
        let own = (subst (DoingStands m x begun us told) doing (there.sessions lsid s in_it)).0 in
        let its = (subst (DoingStands n (move_of r e).state begun' us' told') f.doing
        (stands.sessions f.lsid f.session f.there)).0 in
        apart (sym there.number ∙ sym own.router
        ∙ ap (λ (y : Tag). y.router) (sym same ∙ f.tag_is) ∙ its.router ∙ stands.number)

    pub others_now : (m : ℕ) (x : RouterState) → (m ≡ n → ⊥) → slice_get old.routers m ≡ Some x
        → (lsid : Lsid) (s : Session) → session_of x lsid ≡ Some s
        → DoingKnowsWrites (completed ++ new) (old.sent ++ out) s.doing
    others_now m x apart at lsid s in_it =
        after_doing s.doing (λ t doing. apart_tags m x lsid s t apart at in_it doing)
        (others_know m x apart at lsid s in_it)
