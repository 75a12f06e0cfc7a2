-- What an Answer leaves of the transaction that takes it: the shard's boot is the one that it
-- tells.
use Rattle.std.proofs.Common.{◌≡◌, inl, inr, ◌&&◌, ◌||◌, ℕ, ℤ, Bool, true, false, not, List, []}
use Rattle.std.proofs.Common.{◌∷◌, filter_map, nat_eq, Option, Some, None, Ok, Err, Result, refl}
use Rattle.std.proofs.Common.{sym, ap, subst, ◌∙◌, arith}
use Rattle.std.specs.Ordering.{nat_cmp}
use Rattle.txn_types.specs.Order.{same_tag}
use Rattle.txn_types.specs.declared.cause.Cause.{Cause}
use Rattle.txn_types.specs.declared.message.Answer.{Answer}
use Rattle.txn_types.specs.declared.message.Msg.TheVariants as msg
use Rattle.txn_types.specs.declared.names.Tag.{Tag}
use Rattle.txn_types.specs.declared.node.Lsid.{Lsid}
use Rattle.txn_types.specs.declared.operation.Op.{Op}
use Rattle.txn_types.specs.declared.operation.OpReply.{OpReply}
use Rattle.txn_semantics.specs.Keyed.{put}
use Rattle.txn_semantics.specs.Merge.{merge}
use Rattle.router_state.specs.declared.deed.Deed.{Deed}
use Rattle.router_state.specs.declared.state.Asker.{Asker}
use Rattle.router_state.specs.declared.state.Doing.{Doing}
use Rattle.router_state.specs.declared.state.Doing.TheVariants.{Begun, Sought}
use Rattle.router_state.specs.declared.state.Phase.{Phase}
use Rattle.router_state.specs.declared.state.Phase.TheVariants.{Idle, Asking, Checking, Deciding}
use Rattle.router_state.specs.declared.state.Phase.TheVariants.{Committed, Released, Aborted}
use Rattle.router_state.specs.declared.state.Transaction.{Transaction}
use Rattle.router_state.specs.State.{Post, is_own, is_waited, without}
use Rattle.router_rules.specs.Commits as co
use Rattle.router_rules.specs.Ends as en
use Rattle.router_rules.specs.Serving.{answered_in}
use Rattle.router_rules.specs.Statements as st
use Rattle.participant.proofs.Cases.{either}
use Rattle.answer_laws.proofs.Lists.{nat_is, both_true}
use Rattle.told_laws.proofs.Answering.{takes}
use Rattle.told_laws.proofs.Taking.{none_wins}
use Rattle.one_shard_laws.specs.Asking.{OneWrote}
use Rattle.commit_laws.proofs.Follows.{Heard, Next, Asked, Follows, IsPast, DeedFrom, DoingFollows}
use Rattle.commit_laws.proofs.Deeds.{no_asks, none_twice, aborts_none, without_none, commits_from}
use Rattle.commit_laws.proofs.Deeds.{deed_other, kept_from}
use Rattle.one_shard_laws.proofs.Asking.{also_wrote}

-- Who wrote.

wrote_on : (wrote shards : List ℕ) → OneWrote wrote → OneWrote shards
    → OneWrote (also_wrote wrote shards)
wrote_on wrote shards (inl h) (inl k) = subst (λ (w : List ℕ). OneWrote (also_wrote w shards))
    (sym h) (subst (λ (x : List ℕ). OneWrote (also_wrote [] x)) (sym k) (inl refl))
wrote_on wrote shards (inl h) (inr k) = subst (λ (w : List ℕ). OneWrote (also_wrote w shards))
    (sym h) (subst (λ (x : List ℕ). OneWrote (also_wrote [] x)) (sym k) (inr refl))
wrote_on wrote shards (inr h) (inl k) = subst (λ (w : List ℕ). OneWrote (also_wrote w shards))
    (sym h) (subst (λ (x : List ℕ). OneWrote (also_wrote (0 ∷ []) x)) (sym k) (inr refl))
wrote_on wrote shards (inr h) (inr k) = subst (λ (w : List ℕ). OneWrote (also_wrote w shards))
    (sym h) (subst (λ (x : List ℕ). OneWrote (also_wrote (0 ∷ []) x)) (sym k) (inr refl))

writer_case : (a : Answer) (o : Result (OpReply × Bool) Cause) → a.outcome ≡ o
    → OneWrote (filter_map st.writer_in ((0, a) ∷ []))
writer_case a (Ok done) e = by done.1 refl
  where
    by : (test : Bool) → done.1 ≡ test → OneWrote (filter_map st.writer_in ((0, a) ∷ []))
    by true is = let some : st.writer_in (0, a) ≡ Some 0 = rw (e, is) refl in rw some (inr refl)
    by false is = let none : st.writer_in (0, a) ≡ None = rw (e, is) refl in rw none (inl refl)
writer_case a (Err why) e = let none : st.writer_in (0, a) ≡ None = rw e refl in rw none (inl refl)

-- Where no refusal wins, the Answer is a reply.
reply_case : (a : Answer) (o : Result (OpReply × Bool) Cause) → a.outcome ≡ o
    → filter_map st.cause_in ((a.shard, a) ∷ []) ≡ []
    → (done : OpReply × Bool) × (a.outcome ≡ Ok done)
reply_case a (Ok done) e h = (done, e)
reply_case a (Err why) e h =
    let some : st.cause_in (a.shard, a) ≡ Some (a.shard, why) = rw e refl in
    let one : filter_map st.cause_in ((a.shard, a) ∷ []) ≡ (a.shard, why) ∷ [] = rw some refl in
    let no : (a.shard, why) ∷ [] ≡ [] = sym one ∙ h in
    grind (arith, no)

or_false : (b : Bool) → (b || false) ≡ true → b ≡ true
or_false true e = refl
or_false false e = grind arith

module _ (G : Tag → ℕ → ℕ → Type 0) where
  abbrev From : Transaction → Deed → Type 0
  From t d = DeedFrom G (Begun t) d

  -- what is done with the reply
  replies_from : (lsid : Lsid) (number : ℤ) (asker : Asker) (op : Op) (t : Transaction)
      (r : OpReply) → t.phase ≡ Idle → Heard G t.tag t.k t.parts t.wrote → t.waiting ≡ []
      → From t (st.replies lsid number asker op t r)
  replies_from lsid number asker op t r idle h waits =
      either (is_own lsid && not (st.is_cut r)) (From t)
      (co.commits lsid number (Some asker) (record t { reply = Some (st.reply_of op r None) })) _
      (deed_other G t (record t { reply = Some (st.reply_of op r None) })
      (co.commits lsid number (Some asker) (record t { reply = Some (st.reply_of op r None) }))
      refl (λ p. p)
      (commits_from G lsid number (Some asker) (record t { reply = Some (st.reply_of op r None) })
      h))
      (record {
        doing = (refl, (subst (Follows G t) (sym idle) (h, waits), λ p. p));
        sends = inl refl;
        aborts = no_asks;
      })

  refuses_from : (lsid : Lsid) (number : ℤ) (asker : Asker) (t : Transaction)
      (refusal : ℕ × Cause) → From t (st.refuses lsid number asker t refusal)
  refuses_from lsid number asker t refusal = record {
    doing = (refl, (refl, λ p. tt));
    sends = inl refl;
    aborts = none_twice (without refusal.0 (en.aborts lsid number 5 t)) []
        (without_none refusal.0 (en.aborts lsid number 5 t) (aborts_none lsid number 5 t)) no_asks;
  }

  module _ (a : Answer) (t : Transaction) (asker : Asker) (op : Op)
      (x : Next G t.tag t.k t.parts t.wrote t.waiting) (waited : is_waited a.shard t.waiting ≡ true)
      (asks : IsPast t.phase → ⊥)
      (gave : (done : OpReply × Bool) → a.outcome ≡ Ok done → G t.tag t.k a.boot) where
    shard_is : a.shard ≡ 0
    shard_is =
        sym (nat_is 0 a.shard (or_false (nat_eq 0 a.shard)
        (sym (ap (is_waited a.shard) x.waits) ∙ waited)))

    left_is : without a.shard t.waiting ≡ []
    left_is = ap (without a.shard) x.waits
        ∙ ap (λ (n : ℕ). without n ((0, msg.Statement x.m) ∷ [])) shard_is

    parts_now : put nat_cmp a.shard a.boot t.parts ≡ (0, a.boot) ∷ []
    parts_now = ap (put nat_cmp a.shard a.boot) x.parts_are
        ∙ ap (λ (n : ℕ). put nat_cmp n a.boot ((0, x.boot) ∷ [])) shard_is

    wrote_now : OneWrote (also_wrote t.wrote (filter_map st.writer_in ((a.shard, a) ∷ [])))
    wrote_now =
        subst (λ (n : ℕ). OneWrote (also_wrote t.wrote (filter_map st.writer_in ((n, a) ∷ []))))
        (sym shard_is)
        (wrote_on t.wrote (filter_map st.writer_in ((0, a) ∷ [])) x.wrote_is
        (writer_case a a.outcome refl))

    abbrev now : Transaction
    now = st.with_answer asker op [] a t

    abbrev answered : Transaction
    answered = st.answered_by ((a.shard, a) ∷ []) now

    heard_now : st.winning (filter_map st.cause_in ((a.shard, a) ∷ [])) ≡ None
        → Heard G answered.tag answered.k answered.parts answered.wrote
    heard_now wins =
        let r = reply_case a a.outcome refl
        (none_wins (filter_map st.cause_in ((a.shard, a) ∷ [])) wins) in
        record {
          boot = a.boot;
          parts_are = parts_now;
          wrote_is = wrote_now;
          gave = gave r.0 r.1;
        }

    concludes_case : (lsid : Lsid) (number : ℤ) (o : Option (ℕ × Cause))
        → st.winning (filter_map st.cause_in ((a.shard, a) ∷ [])) ≡ o
        → From t (st.concludes_by lsid number asker op ((a.shard, a) ∷ []) now o)
    concludes_case lsid number (Some refusal) wins =
        deed_other G t now (st.refuses lsid number asker now refusal) refl (λ p. absurd (asks p))
        (refuses_from lsid number asker now refusal)
    concludes_case lsid number None wins =
        deed_other G t answered (st.replies lsid number asker op answered
        (merge op (filter_map st.reply_in ((a.shard, a) ∷ [])))) refl (λ p. absurd (asks p))
        (replies_from lsid number asker op answered
        (merge op (filter_map st.reply_in ((a.shard, a) ∷ []))) refl (heard_now wins) refl)

    taken_case : (lsid : Lsid) (number : ℤ) (w : List Post) → w ≡ []
        → From t (st.taken_by lsid number asker op ((a.shard, a) ∷ []) now w)
    taken_case lsid number [] e =
        concludes_case lsid number (st.winning (filter_map st.cause_in ((a.shard, a) ∷ []))) refl
    taken_case lsid number (post ∷ posts) e = let no : post ∷ posts ≡ [] = e in grind (arith, no)

    taken_from : (lsid : Lsid) (number : ℤ) → From t (st.taken lsid number a asker op [] t)
    taken_from lsid number = taken_case lsid number (without a.shard t.waiting) left_is

  -- The session's transaction takes it.

  -- where it is the Answer to the statement that is asked, that was answered in its boot
  abbrev pub IsGiven : Answer → Transaction → Type 0
  IsGiven a t = (asker : Asker) (op : Op) → t.phase ≡ Asking asker op [] → takes a t ≡ true
      → (done : OpReply × Bool) → a.outcome ≡ Ok done → G t.tag t.k a.boot

  asked_from : (lsid : Lsid) (number : ℤ) (a : Answer) (t : Transaction) (asker : Asker) (op : Op)
      (answers : List (ℕ × Answer)) → t.phase ≡ Asking asker op answers → Asked G t answers
      → takes a t ≡ true → IsGiven a t
      → From t (st.taken lsid number a asker op answers t)
  asked_from lsid number a t asker op answers is (inl none) so given =
      let waits = (both_true (same_tag t.tag a.tag && nat_eq a.k t.k) (is_waited a.shard t.waiting)
      so).1 in
      let no : false ≡ true = ap (is_waited a.shard) (sym none) ∙ waits in
      absurd (grind (arith, no))
  asked_from lsid number a t asker op answers is (inr h) so given =
      let waits = (both_true (same_tag t.tag a.tag && nat_eq a.k t.k) (is_waited a.shard t.waiting)
      so).1 in
      subst (λ (ones : List (ℕ × Answer)). From t (st.taken lsid number a asker op ones t))
      (sym h.0)
      (taken_from a t asker op h.1 waits (λ p. subst IsPast is p)
      (λ done e. given asker op (is ∙ ap (Asking asker op) h.0) so done e) lsid number)

  answer_phase : (lsid : Lsid) (number : ℤ) (a : Answer) (t : Transaction) (p : Phase)
      → Follows G (record t { phase = p }) p → takes a t ≡ true
      → IsGiven a (record t { phase = p })
      → From (record t { phase = p }) (st.answer_to lsid number a (record t { phase = p }))
  answer_phase lsid number a t (Asking asker op answers) h so given =
      asked_from lsid number a (record t { phase = Asking asker op answers }) asker op answers refl
      h so given
  answer_phase lsid number a t Idle h so given = kept_from G number (record t { phase = Idle }) h
  answer_phase lsid number a t (Checking asker) h so given =
      kept_from G number (record t { phase = Checking asker }) h
  answer_phase lsid number a t (Deciding asker) h so given =
      kept_from G number (record t { phase = Deciding asker }) h
  answer_phase lsid number a t Committed h so given =
      kept_from G number (record t { phase = Committed }) h
  answer_phase lsid number a t Released h so given =
      kept_from G number (record t { phase = Released }) h
  answer_phase lsid number a t (Aborted sent) h so given =
      kept_from G number (record t { phase = Aborted sent }) h

  answer_case : (lsid : Lsid) (number : ℤ) (a : Answer) (t : Transaction) (test : Bool)
      → takes a t ≡ test → Follows G t t.phase → IsGiven a t
      → From t (st.on_answer lsid number a t)
  answer_case lsid number a t true is h given = rw is
      (answer_phase lsid number a t t.phase h is given)
  answer_case lsid number a t false is h given = rw is (kept_from G number t h)

  pub answered_from : (a : Answer) (lsid : Lsid) (number : ℤ) (doing : Doing)
      → DoingFollows G doing → ((t : Transaction) → doing ≡ Begun t → IsGiven a t)
      → DeedFrom G doing (answered_in a lsid (record { number = number; doing = doing }))
  answered_from a lsid number (Begun t) h given =
      answer_case lsid number a t (takes a t) refl h (given t refl)
  answered_from a lsid number (Sought seeking known) h given =
      record { doing = tt; sends = no_asks; aborts = no_asks }
