-- What an Answer does for a request in hand: where it is the last, the reply is what the statement
-- is answered.
use Rattle.std.proofs.Common.{◌≡◌, inl, inr, ◌++◌, ◌&&◌, ℕ, ℤ, Bool, true, false, not, List, []}
use Rattle.std.proofs.Common.{◌∷◌, map, filter, filter_map, find, length, nat_eq, is_some, Option}
use Rattle.std.proofs.Common.{Some, None, option_map, Result, Ok, Err, refl, sym, ap, ap₂, subst}
use Rattle.std.proofs.Common.{◌∙◌, arith, if◌then◌else◌}
use Rattle.std.specs.Prelude.{Contains}
use Rattle.std.specs.List.{list_all}
use Rattle.std.specs.Option.{option_or}
use Rattle.std.specs.Ordering.{nat_cmp, is_lt}
use Rattle.std.proofs.lemmas.List.Elements.{Contains-append_right}
use Rattle.txn_types.specs.Order.{same_tag}
use Rattle.txn_types.specs.declared.cause.Cause.{Cause}
use Rattle.txn_types.specs.declared.cause.Cause.TheVariants as cause
use Rattle.txn_types.specs.declared.decision.Token.{Token}
use Rattle.txn_types.specs.declared.message.Answer.{Answer}
use Rattle.txn_types.specs.declared.names.Tag.{Tag}
use Rattle.txn_types.specs.declared.node.Lsid.{Lsid}
use Rattle.txn_types.specs.declared.operation.Op.{Op}
use Rattle.txn_types.specs.declared.operation.OpErr.{OpErr}
use Rattle.txn_types.specs.declared.operation.OpReply.{OpReply}
use Rattle.txn_semantics.specs.Keyed.{put}
use Rattle.txn_semantics.specs.Meaning.{Meaning, document_rules}
use Rattle.txn_semantics.specs.Merge.{merge}
use Rattle.txn_semantics.specs.Splits as sp
use Rattle.txn_semantics.specs.declared.commits.Answered.{Answered}
use Rattle.client_cmd.specs.declared.request.Request.{Request}
use Rattle.client_cmd.specs.declared.request.Request.TheVariants as request
use Rattle.client_reply.specs.declared.reply.Reply.TheVariants as reply
use Rattle.router_state.specs.declared.state.Asker.{Asker}
use Rattle.router_state.specs.declared.state.Doing.{Doing}
use Rattle.router_state.specs.declared.state.Doing.TheVariants.{Begun, Sought}
use Rattle.router_state.specs.declared.state.Phase.{Phase}
use Rattle.router_state.specs.declared.state.Phase.TheVariants.{Idle, Asking, Checking, Deciding}
use Rattle.router_state.specs.declared.state.Phase.TheVariants.{Committed, Released, Aborted}
use Rattle.router_state.specs.declared.state.Transaction.{Transaction}
use Rattle.router_state.specs.State.{Post, RouterState, asker_in, asker_of, is_from, is_own}
use Rattle.router_state.specs.State.{is_waited, without, token_of}
use Rattle.router_rules.specs.Serving.{answered_in}
use Rattle.router_rules.specs.Statements as st
use Rattle.cluster_core.specs.Answering.{Unanswered, with_answer, is_complete, all_say, meaning_in}
use Rattle.cluster_core.specs.Answering.{answered_of, answered_among}
use Rattle.cluster_core.specs.Replying.{Hand}
use Rattle.cluster_core.specs.Telling.{HasAnswered, IsOf, IsToldTo}
use Rattle.world_laws.proofs.Going.{some_same}
use Rattle.answer_laws.proofs.Lists.{both_true}
use Rattle.told_laws.proofs.Answering.{takes, with_opened, answers_now, there_now, count_now}
use Rattle.told_laws.proofs.Answering.{complete_is}
use Rattle.told_laws.proofs.Lists.{has_map, has_filter, same_nat}
use Rattle.told_laws.proofs.Standing.{Asked, IsAsked, TxnStands, DoingStands, ListsStand}
use Rattle.told_laws.proofs.Taking.{none_wins, all_replies, told_merged}
use Rattle.reply_laws.proofs.Ending.{SessionIs, commits_goes, stays_goes}
use Rattle.reply_laws.proofs.Hands.{IsStatement, IsAlone, KeepsTo, IsPlaced, EntryStands, Goes}
use Rattle.reply_laws.proofs.Hands.{entry_on, told_done, told_caused, tells_goes, keeps_goes}
use Rattle.reply_laws.proofs.Lists.{found_passes, not_both}

-- Where the refusal that is told is the statement's own, the statement is answered so.

abbrev isnt_err : ℕ × Cause → Bool
isnt_err refusal = not (st.is_err refusal)

record SameErr (answers : List (ℕ × Answer)) : Type 0 where
  say : list_all (λ (answer : ℕ × Answer). is_some (meaning_in answer)) answers ≡ true
  least : sp.least_err (filter_map meaning_in answers)
      ≡ option_map (λ (e : ℕ × OpErr). e.1) (st.least_err (filter_map st.err_in
      (filter_map st.cause_in answers)))

lesser_same : (shard : ℕ) (e : OpErr) (o : Option (ℕ × OpErr))
    → sp.lesser e (option_map (λ (f : ℕ × OpErr). f.1) o) ≡ (st.lesser_err (shard, e) o).1
lesser_same shard e None = refl
lesser_same shard e (Some f) = by (is_lt (sp.err_cmp f.1 e))
  where
    by : (test : Bool) → (if test then f.1 else e) ≡ (if test then f else (shard, e)).1
    by true = refl
    by false = refl

cause_none : (row : ℕ × Answer) (answers : List (ℕ × Answer)) → st.cause_in row ≡ None
    → filter_map st.cause_in (row ∷ answers) ≡ filter_map st.cause_in answers
cause_none row answers h = rw h refl

cause_some : (row : ℕ × Answer) (answers : List (ℕ × Answer)) (x : ℕ × Cause)
    → st.cause_in row ≡ Some x
    → filter_map st.cause_in (row ∷ answers) ≡ x ∷ filter_map st.cause_in answers
cause_some row answers x h = rw h refl

meaning_some : (row : ℕ × Answer) (answers : List (ℕ × Answer)) (m : Meaning) → meaning_in row ≡ Some m
    → filter_map meaning_in (row ∷ answers) ≡ m ∷ filter_map meaning_in answers
meaning_some row answers m h = rw h refl

say_first : (row : ℕ × Answer) (answers : List (ℕ × Answer)) (m : Meaning) → meaning_in row ≡ Some m
    → list_all (λ (answer : ℕ × Answer). is_some (meaning_in answer)) answers ≡ true
    → list_all (λ (answer : ℕ × Answer). is_some (meaning_in answer)) (row ∷ answers) ≡ true
say_first row answers m h e = rw h e

-- one that isn't the statement's own is found
other_found : {X : Type 0} (row : ℕ × Answer) (answers : List (ℕ × Answer)) (why : Cause)
    → st.cause_in row ≡ Some (row.0, why) → isnt_err (row.0, why) ≡ true
    → find isnt_err (filter_map st.cause_in (row ∷ answers)) ≡ None → X
other_found row answers why here test e =
    let first : find isnt_err ((row.0, why) ∷ filter_map st.cause_in answers) ≡ Some (row.0, why) =
    rw test refl in
    let no : Some (row.0, why) ≡ None = sym first ∙ ap (λ (l : List (ℕ × Cause)). find isnt_err l)
    (sym (cause_some row answers (row.0, why) here)) ∙ e in
    absurd (grind (arith, no))

err_case : (row : ℕ × Answer) (answers : List (ℕ × Answer)) (o : Result (OpReply × Bool) Cause)
    → row.1.outcome ≡ o → find isnt_err (filter_map st.cause_in (row ∷ answers)) ≡ None
    → (find isnt_err (filter_map st.cause_in answers) ≡ None → SameErr answers)
    → SameErr (row ∷ answers)
err_case row answers (Ok done) is e more =
    let none : st.cause_in row ≡ None = rw is refl in
    let meaning : meaning_in row ≡ Some (Ok (done.0, [])) = rw is refl in
    let causes = cause_none row answers none in
    let rest = more (ap (λ (l : List (ℕ × Cause)). find isnt_err l) (sym causes) ∙ e) in
    record {
      say = say_first row answers (Ok (done.0, [])) meaning rest.say;
      least =
          ap sp.least_err (meaning_some row answers (Ok (done.0, [])) meaning) ∙ rest.least
          ∙ ap (λ (l : List (ℕ × Cause)). option_map (λ (e : ℕ × OpErr). e.1) (st.least_err
          (filter_map st.err_in l))) (sym causes);
    }
err_case row answers (Err (cause.Statement err)) is e more =
    let one : st.cause_in row ≡ Some (row.0, cause.Statement err) = rw is refl in
    let meaning : meaning_in row ≡ Some (Err err) = rw is refl in
    let causes = cause_some row answers (row.0, cause.Statement err) one in
    let rest = more (ap (λ (l : List (ℕ × Cause)). find isnt_err l) (sym causes) ∙ e) in
    record {
      say = say_first row answers (Err err) meaning rest.say;
      least =
          ap sp.least_err (meaning_some row answers (Err err) meaning)
          ∙ ap (λ (o : Option OpErr). Some (sp.lesser err o)) rest.least
          ∙ ap (λ (e : OpErr). Some e) (lesser_same row.0 err
          (st.least_err (filter_map st.err_in (filter_map st.cause_in answers))))
          ∙ ap (λ (l : List (ℕ × Cause)). option_map (λ (e : ℕ × OpErr). e.1) (st.least_err
          (filter_map st.err_in l))) (sym causes);
    }
err_case row answers (Err other) is e more =
    let one : st.cause_in row ≡ Some (row.0, other) = rw is refl in
    other_found row answers other one refl e

same_errs : (answers : List (ℕ × Answer))
    → find isnt_err (filter_map st.cause_in answers) ≡ None → SameErr answers
same_errs [] e = record { say = refl; least = refl }
same_errs (row ∷ answers) e = err_case row answers row.1.outcome refl e (same_errs answers)

pub record IsRefused (op : Op) (answers : List (ℕ × Answer)) (err : OpErr) : Type 0 where
  pub say : list_all (λ (answer : ℕ × Answer). is_some (meaning_in answer)) answers ≡ true
  pub outcome_is : sp.outcome document_rules op (filter_map meaning_in answers) ≡ Err err

err_same : (a b : OpErr) → cause.Statement a ≡ cause.Statement b → a ≡ b
err_same a b e = cc

outcome_err : (op : Op) (answers : List (ℕ × Answer)) (err : OpErr)
    → sp.least_err (filter_map meaning_in answers) ≡ Some err
    → sp.outcome document_rules op (filter_map meaning_in answers) ≡ Err err
outcome_err op answers err e = rw (e, sp.outcome) refl

refused_by : (op : Op) (answers : List (ℕ × Answer)) (shard : ℕ) (err : OpErr)
    (found : Option (ℕ × Cause)) (least : Option (ℕ × OpErr))
    → find isnt_err (filter_map st.cause_in answers) ≡ found
    → st.least_err (filter_map st.err_in (filter_map st.cause_in answers)) ≡ least
    → option_or found (option_map (λ (e : ℕ × OpErr). (e.0, cause.Statement e.1)) least)
    ≡ Some (shard, cause.Statement err) → IsRefused op answers err
refused_by op answers shard err (Some x) least is isl e =
    let passes = found_passes isnt_err (filter_map st.cause_in answers) x is in
    let same : x ≡ (shard, cause.Statement err) = some_same x (shard, cause.Statement err) e in
    let no : true ≡ false = sym passes.1 ∙ ap isnt_err same in
    absurd (grind (arith, no))
refused_by op answers shard err None None is isl e =
    let no : None ≡ Some (shard, cause.Statement err) = e in absurd (grind (arith, no))
refused_by op answers shard err None (Some f) is isl e =
    let same : f.1 ≡ err = err_same f.1 err (ap (λ (x : ℕ × Cause). x.1)
    (some_same (f.0, cause.Statement f.1) (shard, cause.Statement err) e)) in
    let s = same_errs answers is in
    record {
      say = s.say;
      outcome_is = outcome_err op answers err
          (s.least ∙ ap (option_map (λ (e : ℕ × OpErr). e.1)) isl ∙ ap (λ (e : OpErr). Some e)
          same);
    }

pub refused_is : (op : Op) (answers : List (ℕ × Answer)) (shard : ℕ) (err : OpErr)
    → st.winning (filter_map st.cause_in answers) ≡ Some (shard, cause.Statement err)
    → IsRefused op answers err
refused_is op answers shard err e = refused_by op answers shard err _ _ refl refl e

-- What was answered of the statement in hand.

pub record IsAnswer (answered : List Answered) (h : Hand) (op : Op)
    (outcome : Result OpReply OpErr) : Type 0 where
  pub answer : Answered
  pub among : Contains answered answer
  pub is_of : IsOf h answer
  pub op_is : answer.op ≡ op
  pub outcome_is : answer.outcome ≡ outcome

done_answer : (answered : List Answered) (h : Hand) (op : Op) (done : OpReply) (t : Option Token)
    → IsAnswer answered h op (Ok done) → IsToldTo answered h h.request (st.reply_of op done t)
done_answer answered h op done t x = subst (λ (o : Op). IsToldTo answered h h.request
    (st.reply_of o done t)) x.op_is (told_done answered h x.answer done t x.among x.is_of
    x.outcome_is)

err_answer : (answered : List Answered) (h : Hand) (op : Op) (err : OpErr) (shard : ℕ) (number : ℤ)
    → IsAnswer answered h op (Err err)
    → HasAnswered answered h (reply.Caused shard number (cause.Statement err))
err_answer answered h op err shard number x = let e = x.outcome_is in
    (x.answer, x.among, x.is_of, rw e (shard, number, refl))

alone_if : (q : Request) (lsid : Lsid) → IsStatement q → KeepsTo q lsid → is_own lsid ≡ true
    → IsAlone q
alone_if (request.Statement op None at after more time) lsid s k own = tt
alone_if (request.Statement op (Some txn) at after more time) lsid s k own = not_both (is_own lsid)
    own k
alone_if (request.Ping more time) lsid s k own = s
alone_if (request.Hello old_name more time) lsid s k own = s
alone_if (request.Commit txn t more time) lsid s k own = s
alone_if (request.Abort txn more time) lsid s k own = s
alone_if (request.EndSessions ids more time) lsid s k own = s

-- it is the statement that is asked, by a request that keeps to its session
abbrev AsksIt : Hand → Lsid → Transaction → Asker → Type 0
AsksIt h lsid t asker = is_from h.conn (Some asker) ≡ true
    → KeepsTo h.request lsid × ((h.tag ≡ Some t.tag) × (h.k ≡ t.k))

module _ (n : ℕ) (a : Answer) (begun us : List Unanswered) (answered : List Answered) (h : Hand)
    (lists : ListsStand begun us answered) (here : nat_eq h.router n ≡ true)
    (statement : IsStatement h.request) where
  module _ (lsid : Lsid) (number : ℤ) (t : Transaction) (asker : Asker) (op : Op)
      (answers : List (ℕ × Answer)) (k : Asked n begun us answered t asker op answers)
      (so : takes a t ≡ true) (asks : AsksIt h lsid t asker) where
    now_answer : (outcome : Result OpReply OpErr)
        → is_complete (with_answer n a k.statement) ≡ true
        → list_all (λ (answer : ℕ × Answer). is_some (meaning_in answer))
        (put nat_cmp a.shard a answers) ≡ true
        → sp.outcome document_rules op (filter_map meaning_in (put nat_cmp a.shard a answers))
        ≡ outcome
        → is_from h.conn (Some asker) ≡ true
        → IsAnswer (answered ++ answered_among (map (with_answer n a) us)) h op outcome
    now_answer outcome complete say what from =
        let u = with_answer n a k.statement in
        let same = with_opened n a k.statement in
        let rows = answers_now n a begun us answered lists t asker op answers k so in
        let op_is : u.op ≡ op = ap (λ (x : Unanswered). x.op) same ∙ k.op_is in
        let says : all_say u ≡ true = ap (λ (l : List (ℕ × Answer)). list_all
        (λ (answer : ℕ × Answer). is_some (meaning_in answer)) l) rows ∙ say in
        let both : (is_complete u && all_say u) ≡ true = ap₂ (λ (x y : Bool). x && y) complete
        says in
        let now = answered_among (map (with_answer n a) us) in
        let among : Contains now (answered_of u) =
        has_map answered_of (filter (λ (x : Unanswered). is_complete x && all_say x)
        (map (with_answer n a) us)) u
        (has_filter (λ (x : Unanswered). is_complete x && all_say x) (map (with_answer n a) us)
        u both (there_now n a begun us answered lists t asker op answers k so)) in
        let placed = (asks from).1 in
        record {
          answer = answered_of u;
          among = Contains-append_right answered now (answered_of u) among;
          is_of = (
            placed.0 ∙ ap (λ (tag : Tag). Some tag) (sym k.tag ∙ ap (λ (x : Unanswered). x.tag)
                (sym same)),
            placed.1 ∙ sym k.k ∙ ap (λ (x : Unanswered). x.k) (sym same),
          );
          op_is = op_is;
          outcome_is =
              ap₂ (λ (o : Op) (l : List (ℕ × Answer)). sp.outcome document_rules o
              (filter_map meaning_in l)) op_is rows ∙ what;
        }

    replies_goes : (t1 : Transaction) (r : OpReply) (test : Bool)
        → (is_own lsid && not (st.is_cut r)) ≡ test
        → (is_from h.conn (Some asker) ≡ true
        → IsAnswer (answered ++ answered_among (map (with_answer n a) us)) h op (Ok r))
        → asker_in t1.phase ≡ None
        → Goes n (answered ++ answered_among (map (with_answer n a) us)) h lsid (Some asker)
        (st.replies lsid number asker op t1 r)
    replies_goes t1 r true is f none =
        let all = answered ++ answered_among (map (with_answer n a) us) in
        rw is (commits_goes n all h here lsid number (Some asker)
        (record t1 { reply = Some (st.reply_of op r None) }) (λ from.
        let x = f from in
        let own = (both_true (is_own lsid) (not (st.is_cut r)) is).0 in (
          own,
          record {
            alone = alone_if h.request lsid statement (asks from).0 own;
            answer = x.answer;
            among = x.among;
            is_of = x.is_of;
            done = r;
            outcome = x.outcome_is;
            reply = ap (λ (o : Op). Some (st.reply_of o r None)) (sym x.op_is);
          },
        )))
    replies_goes t1 r false is f none =
        let all = answered ++ answered_among (map (with_answer n a) us) in
        rw is (tells_goes n all h here lsid (Some asker) _
        (st.reply_of op r (Some (token_of t1))) none refl
        (λ from. done_answer all h op r (Some (token_of t1)) (f from)))

    concludes_goes : (o : Option (ℕ × Cause))
        → is_complete (with_answer n a k.statement) ≡ true
        → st.winning (filter_map st.cause_in (put nat_cmp a.shard a answers)) ≡ o
        → Goes n (answered ++ answered_among (map (with_answer n a) us)) h lsid (Some asker)
        (st.concludes_by lsid number asker op (put nat_cmp a.shard a answers)
        (st.with_answer asker op answers a t) o)
    concludes_goes None complete wins =
        let rows = put nat_cmp a.shard a answers in
        let reply = merge op (filter_map st.reply_in rows) in
        let all = all_replies op rows (none_wins (filter_map st.cause_in rows) wins) in
        replies_goes (st.answered_by rows (st.with_answer asker op answers a t)) reply
        (is_own lsid && not (st.is_cut reply)) refl
        (λ from. now_answer (Ok reply) complete all.say (told_merged op rows all) from) refl
    concludes_goes (Some refusal) complete wins =
        let rows = put nat_cmp a.shard a answers in
        let all = answered ++ answered_among (map (with_answer n a) us) in
        tells_goes n all h here lsid (Some asker)
        (st.refuses lsid number asker (st.with_answer asker op answers a t) refusal)
        (reply.Caused refusal.0 number refusal.1) refl refl
        (λ from. told_caused all h refusal.0 number refusal.1 (λ err is.
        let r = refused_is op rows refusal.0 err (wins ∙ ap (λ (c : Cause). Some (refusal.0, c))
        is) in
        err_answer all h op err refusal.0 number
        (now_answer (Err err) complete r.say r.outcome_is from)))

    taken_goes : (w : List Post) → without a.shard t.waiting ≡ w
        → Goes n (answered ++ answered_among (map (with_answer n a) us)) h lsid (Some asker)
        (st.taken_by lsid number asker op (put nat_cmp a.shard a answers)
        (st.with_answer asker op answers a t) w)
    taken_goes (post ∷ posts) is = keeps_goes n
        (answered ++ answered_among (map (with_answer n a) us)) h lsid (Some asker)
        (st.taken_by lsid number asker op (put nat_cmp a.shard a answers)
        (st.with_answer asker op answers a t) (post ∷ posts)) refl refl
        (λ from. ((asks from).0, inr (asks from).1))
    taken_goes [] is =
        let rows = put nat_cmp a.shard a answers in
        let count = count_now n a begun us answered lists t asker op answers k so in
        let long : length (without a.shard t.waiting) ≡ 0 = ap (λ (l : List Post). length l) is in
        let same : length rows ≡ length k.statement.shards = omega (arith, count, long) in
        let complete : is_complete (with_answer n a k.statement) ≡ true =
        complete_is n a begun us answered lists t asker op answers k so ∙ ap
        (λ (m : ℕ). nat_eq m (length k.statement.shards)) same ∙ same_nat
        (length k.statement.shards) in
        concludes_goes (st.winning (filter_map st.cause_in rows)) complete refl

  waits_none : {X : Type 0} (t : Transaction) → t.waiting ≡ [] → takes a t ≡ true → X
  waits_none t none so =
      let waits = (both_true (same_tag t.tag a.tag && nat_eq a.k t.k) (is_waited a.shard t.waiting)
      so).1 in
      let no : false ≡ true = ap (is_waited a.shard) (sym none) ∙ waits in
      absurd (grind (arith, no))

  it_asks : (lsid : Lsid) (t : Transaction) (asker : Asker) → takes a t ≡ true
      → (is_from h.conn (Some asker) ≡ true → KeepsTo h.request lsid × IsPlaced h t)
      → AsksIt h lsid t asker
  it_asks lsid t asker so f from = elim ((f from).1) [
    | inl none ↦ waits_none t none so
    | inr placed ↦ ((f from).0, placed)
  ]

  asked_goes : (lsid : Lsid) (number : ℤ) (t : Transaction) (asker : Asker) (op : Op)
      (answers : List (ℕ × Answer)) → IsAsked n begun us answered t asker op answers
      → takes a t ≡ true
      → (is_from h.conn (Some asker) ≡ true → KeepsTo h.request lsid × IsPlaced h t)
      → Goes n (answered ++ answered_among (map (with_answer n a) us)) h lsid (Some asker)
      (st.taken lsid number a asker op answers t)
  asked_goes lsid number t asker op answers (inl none) so f = waits_none t none.0 so
  asked_goes lsid number t asker op answers (inr k) so f = taken_goes lsid number t asker op answers
      k so (it_asks lsid t asker so f) (without a.shard t.waiting) refl

  still_goes : (lsid : Lsid) (number : ℤ) (t : Transaction)
      → EntryStands answered h (lsid, SessionIs number t)
      → Goes n (answered ++ answered_among (map (with_answer n a) us)) h lsid (asker_in t.phase)
      (record {
        session = SessionIs number t;
        given = record { aborts = []; sends = []; replies = [] };
      })
  still_goes lsid number t f =
      let now = answered_among (map (with_answer n a) us) in
      stays_goes n (answered ++ now) h here lsid (SessionIs number t)
      (entry_on answered now h (lsid, SessionIs number t) f)

  phase_goes : (lsid : Lsid) (number : ℤ) (t : Transaction) (p : Phase)
      → TxnStands n begun us answered (record t { phase = p }) → takes a t ≡ true
      → EntryStands answered h (lsid, SessionIs number (record t { phase = p }))
      → Goes n (answered ++ answered_among (map (with_answer n a) us)) h lsid (asker_in p)
      (st.answer_to lsid number a (record t { phase = p }))
  phase_goes lsid number t (Asking asker op answers) k so f = asked_goes lsid number
      (record t { phase = Asking asker op answers }) asker op answers k.phase so f
  phase_goes lsid number t Idle k so f = still_goes lsid number (record t { phase = Idle }) f
  phase_goes lsid number t (Checking asker) k so f = still_goes lsid number
      (record t { phase = Checking asker }) f
  phase_goes lsid number t (Deciding asker) k so f = still_goes lsid number
      (record t { phase = Deciding asker }) f
  phase_goes lsid number t Committed k so f = still_goes lsid number
      (record t { phase = Committed }) f
  phase_goes lsid number t Released k so f = still_goes lsid number
      (record t { phase = Released }) f
  phase_goes lsid number t (Aborted sent) k so f = still_goes lsid number
      (record t { phase = Aborted sent }) f

  test_goes : (lsid : Lsid) (number : ℤ) (t : Transaction) (test : Bool) → takes a t ≡ test
      → TxnStands n begun us answered t → EntryStands answered h (lsid, SessionIs number t)
      → Goes n (answered ++ answered_among (map (with_answer n a) us)) h lsid (asker_in t.phase)
      (st.on_answer lsid number a t)
  test_goes lsid number t true is k f = rw is (phase_goes lsid number t t.phase k is f)
  test_goes lsid number t false is k f = rw is (still_goes lsid number t f)

  pub answer_goes : (r : RouterState) (lsid : Lsid) (number : ℤ) (doing : Doing)
      → DoingStands n r begun us answered doing
      → EntryStands answered h (lsid, record { number = number; doing = doing })
      → Goes n (answered ++ answered_among (map (with_answer n a) us)) h lsid (asker_of doing)
      (answered_in a lsid (record { number = number; doing = doing }))
  answer_goes r lsid number (Begun t) k f = test_goes lsid number t (takes a t) refl k.1 f
  answer_goes r lsid number (Sought seeking known) k f =
      let now = answered_among (map (with_answer n a) us) in
      stays_goes n (answered ++ now) h here lsid
      (record { number = number; doing = Sought seeking known })
      (entry_on answered now h (lsid, record { number = number; doing = Sought seeking known }) f)
