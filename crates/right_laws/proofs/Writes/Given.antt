-- A statement that a step completes, and whose Answer tells of a write, is one whose Answer comes
-- at the step; the session of its transaction waits for it, unless each statement was answered
-- before.
use Rattle.std.proofs.Common.{◌≡◌, inl, inr, ◌&&◌, ◌<◌, ℕ, Bool, true, false, not, All}
use Rattle.std.proofs.Common.{List, [], ◌∷◌, nat_eq, refl, sym, ap, ◌∙◌, arith}
use Rattle.std.specs.Prelude.{Contains}
use Rattle.std.specs.Ordering.{nat_cmp}
use Rattle.std.proofs.lemmas.List.Elements.{All-contains, Contains-append_cases}
use Rattle.txn_types.specs.declared.event.Happening.{Happening}
use Rattle.txn_types.specs.declared.event.Happening.TheVariants as what
use Rattle.txn_types.specs.declared.event.NodeAnswer.{NodeAnswer}
use Rattle.txn_types.specs.declared.event.NodeEvent.{NodeEvent}
use Rattle.txn_types.specs.declared.message.Answer.{Answer}
use Rattle.txn_types.specs.declared.message.Msg.{Msg}
use Rattle.txn_types.specs.declared.message.Msg.TheVariants as msg
use Rattle.txn_types.specs.declared.names.Tag.{Tag}
use Rattle.txn_types.specs.declared.operation.Op.{Op}
use Rattle.txn_semantics.specs.Keyed.{put}
use Rattle.txn_semantics.specs.declared.commits.Answered.{Answered}
use Rattle.router_state.specs.declared.state.Asker.{Asker}
use Rattle.router_state.specs.declared.state.Phase.{Phase}
use Rattle.router_state.specs.declared.state.Phase.TheVariants.{Idle, Asking, Checking, Deciding}
use Rattle.router_state.specs.declared.state.Phase.TheVariants.{Committed, Released, Aborted}
use Rattle.router_state.specs.declared.state.Transaction.{Transaction}
use Rattle.router_state.specs.State.{RouterState}
use Rattle.cluster_core.specs.Answering.{Unanswered, is_for, with_answer, is_complete, all_say}
use Rattle.cluster_core.specs.Answering.{taken_msg, taken_what, opened, unanswered_behind}
use Rattle.cluster_core.specs.Routers.{request_at}
use Rattle.answer_laws.specs.Comes.{as_opened}
use Rattle.answer_laws.proofs.Answered.{IsNew, all_new}
use Rattle.answer_laws.proofs.Lists.{both_true}
use Rattle.told_laws.proofs.Answering.{with_yes}
use Rattle.told_laws.proofs.Lists.{map_has, filter_has, order_two}
use Rattle.told_laws.proofs.Standing.{AllReplied, Asked, IsAsked, PhaseStands, AreApart, IsOpen}
use Rattle.told_laws.proofs.Standing.{ListsStand}
use Rattle.chain_laws.specs.Completing.{completed_among}
use Rattle.decision_laws.specs.Ends.{IsAborted}
use Rattle.right_laws.specs.Knowing.{TellsWrite}

-- a statement with the Answer that comes
pub record IsTaken (n : ℕ) (us : List Unanswered) (a : Answer) (u : Unanswered) : Type 0 where
  pub old : Unanswered
  pub there : Contains us old
  pub for_it : is_for n a old ≡ true
  pub is : u ≡ record old { answers = put nat_cmp a.shard a old.answers }

abbrev pub MsgTakes : ℕ → List Unanswered → Unanswered → Msg → Type 0
MsgTakes n us u (msg.Answer a) = IsTaken n us a u
MsgTakes n us u other = ⊥

abbrev pub WhatTakes : ℕ → List Unanswered → Unanswered → Happening → Type 0
WhatTakes n us u (what.Deliver e) = MsgTakes n us u e.msg
WhatTakes n us u other = ⊥

incomplete : (begun us : List Unanswered) → All (IsOpen begun) us → (u : Unanswered)
    → Contains us u → is_complete u ≡ true → ⊥
incomplete begun us unheard u c complete =
    let no : true ≡ false =
    sym complete ∙ (All-contains (IsOpen begun) us u unheard c).incomplete in
    absurd (grind (arith, no))

with_case : (n : ℕ) (begun us : List Unanswered) (a : Answer) (old u : Unanswered) (test : Bool)
    → All (IsOpen begun) us → Contains us old → u ≡ with_answer n a old
    → is_complete u ≡ true → is_for n a old ≡ test → IsTaken n us a u
with_case n begun us a old u true unheard there is complete it =
    record { old = old; there = there; for_it = it; is = is ∙ with_yes n a old it }
with_case n begun us a old u false unheard there is complete it =
    let same : with_answer n a old ≡ old = rw it refl in
    absurd (incomplete begun us unheard old there
    (ap is_complete (sym (is ∙ same)) ∙ complete))

taken_case : (n : ℕ) (begun us : List Unanswered) (m : Msg) (u : Unanswered)
    → All (IsOpen begun) us → Contains (taken_msg n m us) u → is_complete u ≡ true
    → MsgTakes n us u m
taken_case n begun us (msg.Answer a) u unheard c complete =
    let m = map_has (with_answer n a) us u c in
    with_case n begun us a m.0 u (is_for n a m.0) unheard m.1 m.2 complete refl
taken_case n begun us other u unheard c complete = absurd (incomplete begun us unheard u c complete)

what_case : (n : ℕ) (begun us : List Unanswered) (w : Happening) (u : Unanswered)
    → All (IsOpen begun) us → Contains (taken_what n w us) u → is_complete u ≡ true
    → WhatTakes n us u w
what_case n begun us (what.Deliver e) u unheard c complete =
    taken_case n begun us e.msg u unheard c complete
what_case n begun us (what.Gone conn) u unheard c complete =
    absurd (incomplete begun us unheard u
    (filter_has (λ (u : Unanswered). not (nat_eq u.router n && nat_eq u.conn conn)) us u c).0
    complete)
what_case n begun us other u unheard c complete = absurd (incomplete begun us unheard u c complete)

-- what is opened at the step has no Answer yet
new_untold : (u : Unanswered) → u.answers ≡ [] → TellsWrite u → ⊥
new_untold u none w =
    let no : (0, w.0) ∷ [] ≡ [] = sym w.1 ∙ none in
    grind (arith, no)

pub told_now : (n : ℕ) (r : RouterState) (e : NodeEvent) (b : NodeAnswer)
    (begun us : List Unanswered) (u : Unanswered) → All (IsOpen begun) us
    → Contains (completed_among (unanswered_behind n r e b us)) u → TellsWrite u
    → WhatTakes n us u e.what
told_now n r e b begun us u unheard c w =
    let f = filter_has (λ (u : Unanswered). is_complete u && all_say u)
    (unanswered_behind n r e b us) u c in
    let complete = (both_true (is_complete u) (all_say u) f.1).0 in
    elim (Contains-append_cases (taken_what n e.what us) (opened n (request_at r e b) b) u f.0) [
      | inl k ↦ what_case n begun us e.what u unheard k complete
      | inr k ↦ absurd (new_untold u
          (All-contains IsNew (opened n (request_at r e b) b) u (all_new n (request_at r e b) b) k)
          w)
    ]

-- Whose session waits for it.

module _ (begun us : List Unanswered) (told : List Answered) (lists : ListsStand begun us told)
  where
    -- what is unanswered had no reply
    pub unreplied : (tag : Tag) (u : Unanswered) → Contains us u → u.tag ≡ tag
        → AllReplied begun told tag → ⊥
    unreplied tag u c same replied =
        let o = All-contains (IsOpen begun) us u lists.are_open c in
        let r = replied (as_opened u) o.opened same in
        let less : r.answer.k < u.k = lists.newest u r.answer c r.among r.tag in
        let here : r.answer.k ≡ u.k = r.k in
        absurd (omega (arith, less, here))

    one_open : (u v : Unanswered) → Contains us u → Contains us v → u.tag ≡ v.tag → u ≡ v
    one_open u v c d same =
        elim (order_two AreApart us u v lists.apart c d) [
          | inl e ↦ e
          | inr w ↦ elim w [
            | inl apart ↦ absurd (apart same)
            | inr apart ↦ absurd (apart (sym same))
          ]
        ]

    -- it is the one that the session's transaction asks
    pub record AsksIt (n : ℕ) (t : Transaction) (u : Unanswered) : Type 0 where
      pub asker : Asker
      pub op : Op
      pub answers : List (ℕ × Answer)
      pub phase : t.phase ≡ Asking asker op answers
      pub asked : Asked n begun us told t asker op answers
      pub is : u ≡ asked.statement

    asking_case : (n : ℕ) (t : Transaction) (u : Unanswered) (asker : Asker) (op : Op)
        (answers : List (ℕ × Answer)) → t.phase ≡ Asking asker op answers → Contains us u
        → u.tag ≡ t.tag → IsAsked n begun us told t asker op answers → AsksIt n t u
    asking_case n t u asker op answers is c same (inl none) =
        absurd (unreplied t.tag u c same none.1)
    asking_case n t u asker op answers is c same (inr k) = record {
      asker = asker;
      op = op;
      answers = answers;
      phase = is;
      asked = k;
      is = one_open u k.statement c k.there (same ∙ sym k.tag);
    }

    phase_case : (n : ℕ) (t : Transaction) (u : Unanswered) (p : Phase) → t.phase ≡ p
        → Contains us u → u.tag ≡ t.tag → PhaseStands n begun us told t p
        → (IsAborted p → AllReplied begun told t.tag) → AsksIt n t u
    phase_case n t u (Asking asker op answers) is c same k over =
        asking_case n t u asker op answers is c same k
    phase_case n t u Idle is c same k over = absurd (unreplied t.tag u c same k)
    phase_case n t u (Checking asker) is c same k over = absurd (unreplied t.tag u c same k)
    phase_case n t u (Deciding asker) is c same k over = absurd (unreplied t.tag u c same k)
    phase_case n t u Committed is c same k over = absurd (unreplied t.tag u c same k)
    phase_case n t u Released is c same k over = absurd (unreplied t.tag u c same k)
    phase_case n t u (Aborted sent) is c same k over = absurd (unreplied t.tag u c same (over tt))

    pub asks_it : (n : ℕ) (t : Transaction) (u : Unanswered) → Contains us u → u.tag ≡ t.tag
        → PhaseStands n begun us told t t.phase → (IsAborted t.phase → AllReplied begun told t.tag)
        → AsksIt n t u
    asks_it n t u c same k over = phase_case n t u t.phase refl c same k over
