-- What stands of all routers and of all that was sent is kept by a router's step.
use Rattle.std.proofs.Common.{◌≡◌, ◌⊎◌, inl, inr, ◌<◌, ◌++◌, ℕ, All, List, [], ◌∷◌, map, length}
use Rattle.std.proofs.Common.{Some, None, refl, sym, ap, subst, ◌∙◌, arith, zero, suc, false, true}
use Rattle.std.proofs.Common.{◌&&◌, nat_eq}
use Rattle.std.specs.Prelude.{Contains, slice_get, slice_set}
use Rattle.std.proofs.lemmas.List.Elements.{All-contains, Contains-append_left}
use Rattle.std.proofs.lemmas.List.Elements.{Contains-append_cases}
use Rattle.txn_types.specs.Letters.{given_out}
use Rattle.txn_types.specs.Order.{same_tag}
use Rattle.txn_types.specs.declared.event.Happening.{Happening}
use Rattle.txn_types.specs.declared.event.Happening.TheVariants as what
use Rattle.txn_types.specs.declared.event.NodeEvent.{NodeEvent}
use Rattle.txn_types.specs.declared.message.Answer.{Answer}
use Rattle.txn_types.specs.declared.message.Commit.{Commit}
use Rattle.txn_types.specs.declared.message.Envelope.{Envelope}
use Rattle.txn_types.specs.declared.message.Msg.{Msg}
use Rattle.txn_types.specs.declared.message.Msg.TheVariants as msg
use Rattle.txn_types.specs.declared.message.Statement.{Statement}
use Rattle.txn_types.specs.declared.names.Tag.{Tag}
use Rattle.txn_types.specs.declared.node.Lsid.{Lsid}
use Rattle.txn_types.specs.declared.node.NodeId.{NodeId}
use Rattle.txn_types.specs.declared.node.NodeId.TheVariants.{Shard, Router}
use Rattle.txn_semantics.specs.declared.commits.Answered.{Answered}
use Rattle.chunk_map.specs.Map.{Map, IsMap}
use Rattle.router_state.specs.declared.state.Doing.{Doing}
use Rattle.router_state.specs.declared.state.Doing.TheVariants.{Begun}
use Rattle.router_state.specs.declared.state.Session.{Session}
use Rattle.router_state.specs.declared.state.Transaction.{Transaction}
use Rattle.router_state.specs.State.{Post, RouterState, session_of, is_waited}
use Rattle.router_rules.specs.Times.{walled}
use Rattle.router_core.specs.Requests.{next_tag}
use Rattle.router_core.specs.Step as sp
use Rattle.router_core.proofs.Going.{step_on}
use Rattle.cluster_core.specs.Answering.{Unanswered, with_answer, answered_among, unanswered_behind}
use Rattle.cluster_core.specs.Answering.{opened, taken_what, taken_msg}
use Rattle.cluster_core.specs.Nodes.{Nodes}
use Rattle.cluster_core.specs.Routers.{request_at}
use Rattle.cluster_core.specs.Trace.{MayCome}
use Rattle.world_laws.proofs.Going.{some_same}
use Rattle.answer_laws.proofs.Lists.{both_true}
use Rattle.told_laws.specs.Places.{IsOpened}
use Rattle.told_laws.proofs.Lists.{contained, set_cases}
use Rattle.told_laws.proofs.Standing.{BookStands, RouterStands, DoingStands, PhaseStands, TxnStands}
use Rattle.told_laws.proofs.Standing.{IsAsked, replied_if}
use Rattle.told_laws.proofs.Moves.{IsOwn}
use Rattle.told_laws.proofs.Opening.{not_drawn}
use Rattle.told_laws.proofs.Booking.{same_tag_of}
use Rattle.commit_laws.specs.Speaking.{Gave, StatementFollows, CommitFollows, MsgFollows}
use Rattle.commit_laws.proofs.Follows.{Asked, Follows, DoingFollows, IsPast, IsNoAsk}
use Rattle.commit_laws.proofs.Moves.{SessionFrom, Came, SentFrom, MoveFrom}
use Rattle.commit_laws.proofs.Requests.{Ready, MsgGiven, WhatGiven, happened_from}
use Rattle.commit_laws.proofs.Standing.{ArePast, RouterStand, Stand, follows_on, msg_on, no_ask}
use Rattle.commit_laws.proofs.Standing.{not_commit}
use Rattle.commit_laws.proofs.Stepping.{move_of, did, post_of, state_of, was_opened, IsCommitting}
use Rattle.commit_laws.proofs.Stepping.{IsAskingFor, commit_case, statement_case, gives}

set_here : {A : Type 0} (xs : List A) (i : ℕ) (x y : A) → slice_get xs i ≡ Some x
    → slice_get (slice_set xs i y) i ≡ Some y
set_here [] i x y e = let no : None ≡ Some x = e in grind (arith, no)
set_here (a ∷ xs) zero x y e = refl
set_here (a ∷ xs) (suc i) x y e = set_here xs i x y e

-- a router's step, with what stood before it, and with the places of statements after it
pub record Went (chunks : Map) (old new : Nodes) (n : ℕ) (r : RouterState) (e : NodeEvent)
    (begun us left : List Unanswered) (told : List Answered) : Type 0 where
  pub there : slice_get old.routers n ≡ Some r
  pub comes : MayCome old.sent (Router n) e.what
  pub routers : new.routers ≡ slice_set old.routers n (sp.router_step false r e).state
  pub sent : new.sent ≡ old.sent ++ given_out (did r e)
  pub book : BookStands old.routers begun us told
  pub after : BookStands new.routers (begun ++ opened n (request_at r e (did r e)) (did r e)) left
      (told ++ answered_among (unanswered_behind n r e (did r e) us))
  pub stand : Stand chunks old begun told

module _ (chunks : Map) (old new : Nodes) (n : ℕ) (r : RouterState) (e : NodeEvent)
    (begun us left : List Unanswered) (told : List Answered)
    (is : IsMap chunks) (one : chunks.shards ≡ 1)
    (g : Went chunks old new n r e begun us left told) where
  abbrev out : List Envelope
  out = given_out (did r e)

  abbrev fresh : List Unanswered
  fresh = opened n (request_at r e (did r e)) (did r e)

  abbrev now : List Answered
  now = answered_among (unanswered_behind n r e (did r e) us)

  abbrev Given : Tag → ℕ → ℕ → Type 0
  Given = Gave (old.sent ++ out) (told ++ now)

  abbrev before : RouterState
  before = walled r e.wall

  abbrev behind : RouterState
  behind = (move_of r e).state

  stood : RouterStand chunks old.sent told r
  stood = g.stand.routers n r g.there

  -- the Answer that comes
  answer_given : (x : Envelope) (a : Answer) → x.msg ≡ msg.Answer a → e.what ≡ what.Deliver x
      → MsgGiven Given before (msg.Answer a)
  answer_given x a im iw lsid s t there doing asker op phase so done ok =
      let d = subst (DoingStands n r begun us told) doing
      ((g.book.routers_stand n r g.there).sessions lsid s there) in
      let asked : IsAsked n begun us told t asker op [] =
      subst (PhaseStands n begun us told t) phase d.1.phase in
      let f : Asked (Gave old.sent told) t [] =
      subst (Follows (Gave old.sent told) t) phase
      (subst (DoingFollows (Gave old.sent told)) doing (stood.follows lsid s there)) in
      let here = (subst (MayCome old.sent (Router n)) iw g.comes).0 in
      let taken : taken_what n e.what us ≡ map (with_answer n a) us =
      ap (λ (w : Happening). taken_what n w us) iw ∙ ap (λ (m : Msg). taken_msg n m us) im in
      subst (λ (ys : List Unanswered). Gave (old.sent ++ out)
      (told ++ answered_among (ys ++ fresh)) t.tag t.k a.boot) (sym taken)
      (by here asked f)
    where
      waited : is_waited a.shard t.waiting ≡ true
      waited = (both_true (same_tag t.tag a.tag && nat_eq a.k t.k) (is_waited a.shard t.waiting)
          so).1

      by : Contains old.sent x → IsAsked n begun us told t asker op []
          → Asked (Gave old.sent told) t []
          → Gave (old.sent ++ out) (told ++ answered_among (map (with_answer n a) us ++ fresh))
          t.tag t.k a.boot
      by here (inl none) f =
          let no : false ≡ true = ap (is_waited a.shard) (sym none.0) ∙ waited in
          absurd (grind (arith, no))
      by here (inr k) (inl none) =
          let no : false ≡ true = ap (is_waited a.shard) (sym none) ∙ waited in
          absurd (grind (arith, no))
      by here (inr k) (inr f) =
          gives old.sent out begun us told n x a t asker op k so here im done ok
          (ap (λ (posts : List Post). length posts) f.1.waits) fresh

  msg_given : (x : Envelope) (m : Msg) → x.msg ≡ m → e.what ≡ what.Deliver x
      → MsgGiven Given before m
  msg_given x (msg.Answer a) im iw = answer_given x a im iw
  msg_given x other im iw = tt

  what_given : (w : Happening) → e.what ≡ w → WhatGiven Given before w
  what_given (what.Deliver x) iw = msg_given x x.msg refl iw
  what_given other iw = tt

  ready : Ready Given before
  ready = (
    follows_on old.sent out told now r stood.follows,
    (
      stood.once,
      (
        subst IsMap (sym stood.chunks_are) is,
        ap (λ (m : Map). m.shards) stood.chunks_are ∙ one,
      ),
    ),
  )

  moved : MoveFrom Given before (move_of r e)
  moved = happened_from Given before e.what ready (what_given e.what refl)

  routers_are : new.routers ≡ slice_set old.routers n behind
  routers_are = g.routers ∙ ap (slice_set old.routers n) (state_of r e)

  here_now : slice_get new.routers n ≡ Some behind
  here_now = ap (λ (rs : List RouterState). slice_get rs n) routers_are
      ∙ set_here old.routers n r behind g.there

  stands_now : RouterStands n (begun ++ fresh) left (told ++ now) behind
  stands_now = g.after.routers_stand n behind here_now

  -- What goes out.

  out_sent : (x : Envelope) → Contains out x
      → ((p : ℕ) × SentFrom behind.sessions (p, x.msg) × (x.to ≡ Shard p)) ⊎ IsNoAsk x.msg
  out_sent x c =
      let p = post_of r e x c in
      elim (Contains-append_cases (move_of r e).given.aborts (move_of r e).given.sends p.0 p.1) [
        | inl w ↦ inr (subst IsNoAsk (sym p.2.0)
            (All-contains (λ (post : Post). IsNoAsk post.1) (move_of r e).given.aborts p.0
            moved.aborts w))
        | inr w ↦
            elim (moved.sends p.0 w) [
              | inl k ↦ inl (
                p.0.0,
                subst (λ (y : Msg). SentFrom behind.sessions (p.0.0, y)) (sym p.2.0) k,
                p.2.1,
              )
              | inr k ↦ inr (subst IsNoAsk (sym p.2.0) k)
            ]
      ]

  session_is : (lsid : Lsid) (s : Session) (t : Transaction) → session_of behind lsid ≡ Some s
      → s.doing ≡ Begun t → SessionFrom Given before lsid (Begun t)
  session_is lsid s t there doing =
      subst (SessionFrom Given before lsid) doing (moved.sessions lsid s there)

  committing : (p : ℕ) (c : Commit) (k : SentFrom behind.sessions (p, msg.Commit c))
      → IsCommitting Given k.t c
  committing p c k =
      commit_case Given k.t k.t.phase refl (session_is k.lsid k.session k.t k.there k.doing).0 p c
      k.waits

  txn_now : (lsid : Lsid) (s : Session) (t : Transaction) → session_of behind lsid ≡ Some s
      → s.doing ≡ Begun t
      → IsOwn behind t.tag × TxnStands n (begun ++ fresh) left (told ++ now) t
  txn_now lsid s t there doing =
      subst (DoingStands n behind (begun ++ fresh) left (told ++ now)) doing
      (stands_now.sessions lsid s there)

  -- Where a commit was sent.

  old_commit : (x : Envelope) (c : Commit) → Contains old.sent x → x.msg ≡ msg.Commit c
      → CommitFollows (Gave old.sent told) begun told c
  old_commit x c there is =
      subst (MsgFollows (Gave old.sent told) begun told x.to) is
      (All-contains (λ (x : Envelope). MsgFollows (Gave old.sent told) begun told x.to x.msg)
      old.sent x g.stand.sent there)

  old_past : (lsid : Lsid) (t : Transaction) (x : Envelope) (c : Commit) → Contains old.sent x
      → x.msg ≡ msg.Commit c → c.tag ≡ t.tag
      → Came before.sessions lsid t ⊎ (t.tag ≡ next_tag before)
      → IsPast t.phase
  old_past lsid t x c there is same (inl came) =
      came.past (stood.past lsid came.session came.t came.there came.doing c (x, there, is)
      (same ∙ came.tag_is))
  old_past lsid t x c there is same (inr new) =
      let f = old_commit x c there is in
      let o = All-contains (IsOpened begun) told f.newest.answer g.book.lists.of f.newest.among in
      let tag : o.statement.tag ≡ next_tag r =
      sym o.tag ∙ f.newest.tag_is ∙ same ∙ new in
      let stands = g.book.routers_stand n r g.there in
      absurd (not_drawn r o.statement.tag tag
      (stands.drawn o.statement o.opened (ap (λ (y : Tag). y.router) tag ∙ stands.number)))

  new_past : (lsid : Lsid) (s : Session) (t : Transaction) → session_of behind lsid ≡ Some s
      → s.doing ≡ Begun t → (p : ℕ) (c : Commit) → SentFrom behind.sessions (p, msg.Commit c)
      → c.tag ≡ t.tag → IsPast t.phase
  new_past lsid s t there doing p c k same =
      let done_so = committing p c k in
      let key : lsid ≡ k.lsid = stands_now.alone lsid k.lsid s k.session there k.there
      (same_tag_of s.doing k.session.doing t k.t doing k.doing (sym same ∙ done_so.1.0)) in
      let sessions : s ≡ k.session = some_same s k.session
      (sym there ∙ ap (λ (l : Lsid). session_of behind l) key ∙ k.there) in
      let doings : Begun t ≡ Begun k.t =
      sym doing ∙ ap (λ (x : Session). x.doing) sessions ∙ k.doing in
      let txns : t ≡ k.t = grind (arith, doings) in
      subst (λ (x : Transaction). IsPast x.phase) (sym txns) done_so.1.1.1.0

  past_now : ArePast (old.sent ++ out) behind
  past_now lsid s t there doing c was same =
      elim (Contains-append_cases old.sent out was.0 was.1) [
        | inl w ↦ old_past lsid t was.0 c w was.2 same (session_is lsid s t there doing).1
        | inr w ↦
            elim (out_sent was.0 w) [
              | inl k ↦ new_past lsid s t there doing k.0 c
                  (subst (λ (y : Msg). SentFrom behind.sessions (k.0, y)) was.2 k.1) same
              | inr quiet ↦ absurd (not_commit was.0.msg c quiet was.2)
            ]
      ]

  -- at another router
  past_other : (m : ℕ) (x : RouterState) → (m ≡ n → ⊥) → slice_get old.routers m ≡ Some x
      → ArePast (old.sent ++ out) x
  past_other m x apart at lsid s t there doing c was same =
      elim (Contains-append_cases old.sent out was.0 was.1) [
        | inl w ↦ (g.stand.routers m x at).past lsid s t there doing c (was.0, w, was.2) same
        | inr w ↦
            elim (out_sent was.0 w) [
              | inl k ↦ elsewhere k.0
                  (subst (λ (y : Msg). SentFrom behind.sessions (k.0, y)) was.2 k.1)
              | inr quiet ↦ absurd (not_commit was.0.msg c quiet was.2)
            ]
      ]
    where
      elsewhere : (p : ℕ) → SentFrom behind.sessions (p, msg.Commit c) → IsPast t.phase
      elsewhere p k =
          let done_so = committing p c k in
          let own = (txn_now k.lsid k.session k.t k.there k.doing).0 in
          let stands = g.book.routers_stand m x at in
          let other = (subst (DoingStands m x begun us told) doing
          (stands.sessions lsid s there)).0 in
          let here : k.t.tag.router ≡ n = own.router ∙ stands_now.number in
          let there : t.tag.router ≡ m = other.router ∙ stands.number in
          let tags : t.tag.router ≡ k.t.tag.router =
          ap (λ (y : Tag). y.router) (sym same ∙ done_so.1.0) in
          absurd (apart (sym there ∙ tags ∙ here))

  -- The routers.

  router_now : RouterStand chunks (old.sent ++ out) (told ++ now) behind
  router_now = record {
    follows = λ lsid s there. by lsid s.doing (moved.sessions lsid s there);
    once = moved.once;
    chunks_are = ap (λ (x : RouterState). x.chunks) (sym (state_of r e))
        ∙ (step_on false r e).chunks ∙ stood.chunks_are;
    past = past_now;
  }
    where
      by : (lsid : Lsid) (doing : Doing) → SessionFrom Given before lsid doing
          → DoingFollows Given doing
      by lsid (Begun t) h = h.0
      by lsid doing h = tt

  routers_now : (m : ℕ) (x : RouterState) → slice_get new.routers m ≡ Some x
      → RouterStand chunks (old.sent ++ out) (told ++ now) x
  routers_now m x at =
      elim (set_cases old.routers n m behind x
      (ap (λ (rs : List RouterState). slice_get rs m) (sym routers_are) ∙ at)) [
        | inl w ↦ subst (RouterStand chunks (old.sent ++ out) (told ++ now)) (sym w.1) router_now
        | inr w ↦
            let k = g.stand.routers m x w.1 in
            record {
              follows = follows_on old.sent out told now x k.follows;
              once = k.once;
              chunks_are = k.chunks_are;
              past = past_other m x w.0 w.1;
            }
      ]

  -- What was sent.

  asking : (p : ℕ) (m : Statement) (k : SentFrom behind.sessions (p, msg.Statement m))
      → IsAskingFor Given k.t p m
  asking p m k =
      statement_case Given k.t k.t.phase refl
      (session_is k.lsid k.session k.t k.there k.doing).0 p m k.waits

  none_behind : (x : Envelope) (c : Commit) → Contains old.sent x → x.msg ≡ msg.Commit c
      → (v : Unanswered) → Contains fresh v → v.tag ≡ c.tag → ⊥
  none_behind x c there is v new same =
      let o = was_opened n (request_at r e (did r e)) (did r e) v new in
      elim (out_sent o.envelope o.sent) [
        | inl k ↦
            let f = subst (λ (y : Msg). SentFrom behind.sessions (k.0, y)) o.is k.1 in
            let a = asking k.0 o.m f in
            a.1.1.0 (past_now f.lsid f.session f.t f.there f.doing c
            (x, Contains-append_left old.sent out x there, is) (sym same ∙ o.tag ∙ a.1.0))
        | inr quiet ↦ subst IsNoAsk o.is quiet
      ]

  new_follows : (p : ℕ) (to : NodeId) (y : Msg) → SentFrom behind.sessions (p, y) → to ≡ Shard p
      → MsgFollows Given (begun ++ fresh) (told ++ now) to y
  new_follows p to (msg.Statement m) k is =
      let a = asking p m k in (is ∙ ap Shard a.1.1.1, a.0)
  new_follows p to (msg.Commit c) k is =
      let done_so = committing p c k in
      let txn = (txn_now k.lsid k.session k.t k.there k.doing).1 in
      let replied = replied_if n (begun ++ fresh) left (told ++ now) k.t done_so.1.1.1.1 txn in
      record {
        k = k.t.k;
        newest = subst (λ (tag : Tag). Given tag k.t.k c.boot) (sym done_so.1.0)
            (subst (Given k.t.tag k.t.k) (sym done_so.1.1.0) done_so.0.gave);
        below = λ v at same. txn.below v at (same ∙ done_so.1.0);
        replied = λ v at same. replied v at (same ∙ done_so.1.0);
      }
  new_follows p to other k is = tt

  above_zero : (m : Statement) → StatementFollows Given m → 0 < m.k
  above_zero m (inl h) = omega (arith, h.0)
  above_zero m (inr h) = omega (arith, h.1)

  places_now : (v : Unanswered) → Contains (begun ++ fresh) v → 0 < v.k
  places_now v c =
      elim (Contains-append_cases begun fresh v c) [
        | inl w ↦ g.stand.places v w
        | inr w ↦
            let o = was_opened n (request_at r e (did r e)) (did r e) v w in
            elim (out_sent o.envelope o.sent) [
              | inl k ↦
                  let f = subst (λ (y : Msg). SentFrom behind.sessions (k.0, y)) o.is k.1 in
                  subst (λ (m : ℕ). 0 < m) (sym o.k) (above_zero o.m (asking k.0 o.m f).0)
              | inr quiet ↦ absurd (subst IsNoAsk o.is quiet)
            ]
      ]

  pub step_stands : Stand chunks new (begun ++ fresh) (told ++ now)
  step_stands = record {
    routers = λ m x at.
        subst (λ (s : List Envelope). RouterStand chunks s (told ++ now) x) (sym g.sent)
        (routers_now m x at);
    sent = subst (λ (s : List Envelope). All (λ (x : Envelope).
        MsgFollows (Gave s (told ++ now)) (begun ++ fresh) (told ++ now) x.to x.msg) s) (sym g.sent)
        (contained (λ (x : Envelope). MsgFollows Given (begun ++ fresh) (told ++ now) x.to x.msg)
        (old.sent ++ out)
        (λ x c. elim (Contains-append_cases old.sent out x c) [
          | inl w ↦ msg_on old.sent out begun fresh told now x.to x.msg
              (λ m is. none_behind x m w is)
              (All-contains (λ (x : Envelope).
              MsgFollows (Gave old.sent told) begun told x.to x.msg)
              old.sent x g.stand.sent w)
          | inr w ↦
              elim (out_sent x w) [
                | inl k ↦ new_follows k.0 x.to x.msg k.1 k.2
                | inr quiet ↦ no_ask Given (begun ++ fresh) (told ++ now) x.to x.msg quiet
              ]
        ]));
    places = places_now;
  }
