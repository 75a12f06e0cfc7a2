-- A transaction that its router has ended before it asked to commit it is never committed: no
-- request to commit it is ever sent.
use Rattle.std.proofs.Common.{◌≡◌, ◌⊎◌, inl, inr, ◌+◌, ℕ, Bool, true, false, List}
use Rattle.std.proofs.Common.{[], Some, refl, sym, ap, subst, ◌∙◌, arith}
use Rattle.std.specs.Prelude.{Contains}
use Rattle.std.proofs.lemmas.List.Elements.{All-contains, Contains-append_cases}
use Rattle.txn_types.specs.Letters.{given_out}
use Rattle.txn_types.specs.Order.{same_tag}
use Rattle.txn_types.specs.declared.event.Happening.{Happening}
use Rattle.txn_types.specs.declared.event.Happening.TheVariants as what
use Rattle.txn_types.specs.declared.event.NodeEvent.{NodeEvent}
use Rattle.txn_types.specs.declared.message.Commit.{Commit}
use Rattle.txn_types.specs.declared.message.Envelope.{Envelope}
use Rattle.txn_types.specs.declared.message.Msg.{Msg}
use Rattle.txn_types.specs.declared.message.Msg.TheVariants as msg
use Rattle.txn_types.specs.declared.names.Tag.{Tag}
use Rattle.txn_types.specs.declared.node.Lsid.{Lsid}
use Rattle.txn_types.specs.declared.operation.Op.{Op}
use Rattle.txn_semantics.specs.declared.commits.Answered.{Answered}
use Rattle.participant.proofs.Tags.{tag_self, tag_same}
use Rattle.chunk_map.specs.Map.{Map, IsMap}
use Rattle.router_state.specs.declared.state.Asker.{Asker}
use Rattle.router_state.specs.declared.state.Doing.{Doing}
use Rattle.router_state.specs.declared.state.Doing.TheVariants.{Begun, Sought}
use Rattle.router_state.specs.declared.state.Phase.{Phase}
use Rattle.router_state.specs.declared.state.Phase.TheVariants.{Idle, Asking, Checking, Deciding}
use Rattle.router_state.specs.declared.state.Phase.TheVariants.{Committed, Released, Aborted}
use Rattle.router_state.specs.declared.state.Session.{Session}
use Rattle.router_state.specs.declared.state.Transaction.{Transaction}
use Rattle.router_state.specs.State.{Post, RouterState, session_of}
use Rattle.router_rules.specs.Times.{walled}
use Rattle.router_core.specs.Requests.{next_tag}
use Rattle.router_core.specs.Step as sp
use Rattle.cluster_core.specs.Parts.{WasDrawn}
use Rattle.told_laws.proofs.Lists.{none_there}
use Rattle.commit_laws.specs.Speaking.{Gave}
use Rattle.commit_laws.proofs.Follows.{Follows, DoingFollows, IsPast, IsNoAsk}
use Rattle.commit_laws.proofs.Moves.{SessionFrom, Came, SentFrom, MoveFrom}
use Rattle.commit_laws.proofs.Requests.{Ready, MsgGiven, WhatGiven, happened_from}
use Rattle.commit_laws.proofs.Standing.{RouterStand, not_commit}
use Rattle.commit_laws.proofs.Stepping.{move_of, did, post_of, commit_case}
use Rattle.decision_laws.specs.Ends.{IsAborted, NoneSent}
use Rattle.decision_laws.proofs.Following.{follows_to}

not_drawn : (r : RouterState) (tag : Tag) → tag ≡ next_tag r → WasDrawn r tag → ⊥
not_drawn r tag e (inl h) = let same : tag.boot ≡ r.boot = ap (λ (t : Tag). t.boot) e in absurd
    (omega (arith, h, same))
not_drawn r tag e (inr h) = let same : tag.serial ≡ r.serial + 1 = ap (λ (t : Tag). t.serial) e in
    absurd (omega (arith, h.1, same))

aborted_is_past : (p : Phase) → IsAborted p → IsPast p
aborted_is_past (Aborted sent) h = tt
aborted_is_past Idle h = absurd h
aborted_is_past (Asking asker op answers) h = absurd h
aborted_is_past (Checking asker) h = absurd h
aborted_is_past (Deciding asker) h = absurd h
aborted_is_past Committed h = absurd h
aborted_is_past Released h = absurd h

module _ (tag : Tag) where
  -- of each transaction but this one it is known that it is another
  abbrev pub Other : Tag → ℕ → ℕ → Type 0
  Other t k boot = same_tag t tag ≡ false

  not_other : {X : Type 0} (t : Tag) → t ≡ tag → same_tag t tag ≡ false → X
  not_other t e f =
      let yes : same_tag t tag ≡ true = ap (λ (x : Tag). same_tag x tag) e ∙ tag_self tag in
      let no : true ≡ false = sym yes ∙ f in
      absurd (grind (arith, no))

  aborted_follows : (G : Tag → ℕ → ℕ → Type 0) (t : Transaction) (p : Phase) → IsAborted p
      → Follows G t p → Follows Other t p
  aborted_follows G t (Aborted sent) h k = k
  aborted_follows G t Idle h k = absurd h
  aborted_follows G t (Asking asker op answers) h k = absurd h
  aborted_follows G t (Checking asker) h k = absurd h
  aborted_follows G t (Deciding asker) h k = absurd h
  aborted_follows G t Committed h k = absurd h
  aborted_follows G t Released h k = absurd h

  txn_follows : (G : Tag → ℕ → ℕ → Type 0) (t : Transaction) (test : Bool)
      → same_tag t.tag tag ≡ test → (t.tag ≡ tag → IsAborted t.phase) → Follows G t t.phase
      → Follows Other t t.phase
  txn_follows G t true is over h =
      aborted_follows G t t.phase (over (tag_same t.tag tag is)) h
  txn_follows G t false is over h = follows_to G Other t (λ k boot g. is) t.phase h

  -- one that is past and follows is aborted
  still_aborted : (t : Transaction) (p : Phase) → t.tag ≡ tag → IsPast p → Follows Other t p
      → IsAborted p
  still_aborted t (Aborted sent) e past h = tt
  still_aborted t Idle e past h = absurd past
  still_aborted t (Asking asker op answers) e past h = absurd past
  still_aborted t (Checking asker) e past h = not_other t.tag e h.0.gave
  still_aborted t (Deciding asker) e past h = not_other t.tag e h.0.gave
  still_aborted t Committed e past h = not_other t.tag e h.0.gave
  still_aborted t Released e past h = not_other t.tag e h.0.gave

  -- wherever a router has it, it is aborted
  abbrev pub IsOver : RouterState → Type 0
  IsOver r = (lsid : Lsid) (s : Session) (t : Transaction) → session_of r lsid ≡ Some s
      → s.doing ≡ Begun t → t.tag ≡ tag → IsAborted t.phase

  -- a router's step
  module _ (chunks : Map) (is : IsMap chunks) (one : chunks.shards ≡ 1) (r : RouterState)
      (e : NodeEvent) (sent : List Envelope) (told : List Answered)
      (stood : RouterStand chunks sent told r) (over : IsOver r) (drawn : tag.router ≡ r.number
      → WasDrawn r tag) where
    abbrev before : RouterState
    before = walled r e.wall

    doing_follows : (lsid : Lsid) (s : Session) (doing : Doing) → session_of r lsid ≡ Some s
        → s.doing ≡ doing → DoingFollows (Gave sent told) doing → DoingFollows Other doing
    doing_follows lsid s (Begun t) there doing h =
        txn_follows (Gave sent told) t (same_tag t.tag tag) refl (over lsid s t there doing) h
    doing_follows lsid s (Sought seeking known) there doing h = tt

    ready : Ready Other before
    ready = (
      λ lsid s there. doing_follows lsid s s.doing there refl (stood.follows lsid s there),
      (
        stood.once,
        (
          subst IsMap (sym stood.chunks_are) is,
          ap (λ (m : Map). m.shards) stood.chunks_are ∙ one,
        ),
      ),
    )

    given_case : (t : Transaction) (test : Bool) → same_tag t.tag tag ≡ test
        → (t.tag ≡ tag → IsAborted t.phase) → (asker : Asker) (op : Op)
        → t.phase ≡ Asking asker op [] → same_tag t.tag tag ≡ false
    given_case t true same ended asker op phase =
        absurd (subst IsAborted phase (ended (tag_same t.tag tag same)))
    given_case t false same ended asker op phase = same

    msg_given : (m : Msg) → MsgGiven Other before m
    msg_given (msg.Answer a) = λ lsid s t there doing asker op phase so done ok.
        given_case t (same_tag t.tag tag) refl (over lsid s t there doing) asker op phase
    msg_given other = tt

    what_given : (w : Happening) → WhatGiven Other before w
    what_given (what.Deliver x) = msg_given x.msg
    what_given other = tt

    moved : MoveFrom Other before (move_of r e)
    moved = happened_from Other before e.what ready (what_given e.what)

    follows_now : (lsid : Lsid) (s : Session) (t : Transaction)
        → session_of (move_of r e).state lsid ≡ Some s → s.doing ≡ Begun t
        → SessionFrom Other before lsid (Begun t)
    follows_now lsid s t there doing =
        subst (SessionFrom Other before lsid) doing (moved.sessions lsid s there)

    past_now : (lsid : Lsid) (t : Transaction) → t.tag ≡ tag
        → Came before.sessions lsid t ⊎ (t.tag ≡ next_tag before) → IsPast t.phase
    past_now lsid t same (inl came) =
        came.past (aborted_is_past came.t.phase
        (over lsid came.session came.t came.there came.doing (sym came.tag_is ∙ same)))
    past_now lsid t same (inr new) =
        let next : tag ≡ next_tag r = sym same ∙ new in
        absurd (not_drawn r tag next (drawn (ap (λ (x : Tag). x.router) next)))

    over_now : IsOver (move_of r e).state
    over_now lsid s t there doing same =
        let h = follows_now lsid s t there doing in
        still_aborted t t.phase same (past_now lsid t same h.1) h.0

    sent_case : (p : ℕ) (c : Commit) → SentFrom (move_of r e).state.sessions (p, msg.Commit c)
        → c.tag ≡ tag → ⊥
    sent_case p c k same =
        let done = commit_case Other k.t k.t.phase refl
        (follows_now k.lsid k.session k.t k.there k.doing).0 p c k.waits in
        not_other k.t.tag (sym done.1.0 ∙ same) done.0.gave

    pub none_out : (x : Envelope) (c : Commit) → Contains (given_out (did r e)) x
        → x.msg ≡ msg.Commit c → c.tag ≡ tag → ⊥
    none_out x c there is_it same =
        let p = post_of r e x there in
        let path : p.0.1 ≡ msg.Commit c = sym p.2.0 ∙ is_it in
        elim (Contains-append_cases (move_of r e).given.aborts (move_of r e).given.sends p.0 p.1) [
          | inl w ↦ not_commit p.0.1 c
              (All-contains (λ (post : Post). IsNoAsk post.1) (move_of r e).given.aborts p.0
              moved.aborts w) path
          | inr w ↦ elim (moved.sends p.0 w) [
            | inl k ↦ sent_case p.0.0 c
                (subst (λ (y : Msg). SentFrom (move_of r e).state.sessions (p.0.0, y)) path k) same
            | inr quiet ↦ not_commit p.0.1 c quiet path
          ]
        ]

    -- with memory for it or without
    step_over : (want : Bool) → IsOver (sp.router_step want r e).state
    unfolding sp.router_step
    step_over true lsid s t there doing same = over lsid s t there doing same
    step_over false lsid s t there doing same = over_now lsid s t there doing same

    pub after_over : (want : Bool) (x : RouterState)
        → x ≡ (sp.router_step want r e).state → IsOver x
    after_over want x at = subst IsOver (sym at) (step_over want)

    pub none_given : (want : Bool) → NoneSent (given_out (sp.answer_of want
        (sp.router_step want r e))) tag
    none_given true c was same = none_there was.0 was.1
    none_given false c was same = none_out was.0 c was.1 was.2 same
