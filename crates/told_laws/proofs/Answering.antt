-- What stands of opened statements is kept by a step that takes an Answer.
use Rattle.std.proofs.Common.{◌≡◌, inl, inr, ◌+◌, ◌≤◌, ◌<◌, ◌&&◌, ℕ, ℤ, Bool, true, false, not}
use Rattle.std.proofs.Common.{List, [], ◌∷◌, ◌++◌, map, filter, filter_map, length, nat_eq, is_some}
use Rattle.std.proofs.Common.{Option, Some, None, Ok, refl, sym, ap, ap₂, subst, ◌∙◌, arith}
use Rattle.std.specs.Prelude.{Contains, slice_get, slice_set, IsOk}
use Rattle.std.specs.List.{list_any, list_all}
use Rattle.std.specs.Ordering.{nat_cmp}
use Rattle.std.proofs.lemmas.List.Elements.{All-append, All-contains, Contains-append_right}
use Rattle.std.proofs.lemmas.List.Elements.{Contains-append_cases}
use Rattle.txn_types.specs.BySession.{BySession, entry_of}
use Rattle.txn_types.specs.Order.{same_tag}
use Rattle.txn_types.specs.declared.cause.Cause.{Cause}
use Rattle.txn_types.specs.declared.message.Answer.{Answer}
use Rattle.txn_types.specs.declared.names.Tag.{Tag}
use Rattle.txn_types.specs.declared.node.Lsid.{Lsid}
use Rattle.txn_types.specs.declared.operation.Op.{Op}
use Rattle.txn_types.specs.declared.operation.OpReply.{OpReply}
use Rattle.txn_semantics.specs.Keyed.{put}
use Rattle.txn_semantics.specs.Meaning.{document_rules}
use Rattle.txn_semantics.specs.Merge.{merge}
use Rattle.txn_semantics.specs.Splits.{outcome}
use Rattle.txn_semantics.specs.declared.commits.Answered.{Answered}
use Rattle.router_state.specs.declared.state.Asker.{Asker}
use Rattle.router_state.specs.declared.state.Doing.{Doing}
use Rattle.router_state.specs.declared.state.Doing.TheVariants.{Begun, Sought}
use Rattle.router_state.specs.declared.state.Phase.{Phase}
use Rattle.router_state.specs.declared.state.Phase.TheVariants.{Idle, Asking, Checking, Deciding}
use Rattle.router_state.specs.declared.state.Phase.TheVariants.{Committed, Released, Aborted}
use Rattle.router_state.specs.declared.state.Session.{Session}
use Rattle.router_state.specs.declared.state.Transaction.{Transaction}
use Rattle.router_state.specs.Deeds.{in_each_session}
use Rattle.router_state.specs.State.{Post, RouterState, session_of, is_own, is_waited, without}
use Rattle.router_rules.specs.Commits as co
use Rattle.router_rules.specs.Serving.{answered_in}
use Rattle.router_rules.specs.Statements as st
use Rattle.participant.proofs.Cases.{either}
use Rattle.cluster_core.specs.Answering.{Unanswered, is_for, with_answer, is_complete, all_say}
use Rattle.cluster_core.specs.Answering.{meaning_in, answered_of, answered_among, left_unanswered}
use Rattle.answer_laws.specs.Comes.{as_opened}
use Rattle.answer_laws.proofs.Lists.{both_true}
use Rattle.told_laws.specs.Places.{IsLater, IsOpened}
use Rattle.told_laws.proofs.Lists.{contained, has_map, map_has, has_filter, filter_has, InOrder}
use Rattle.told_laws.proofs.Lists.{order_append, order_filter, order_map, order_two, not_same}
use Rattle.told_laws.proofs.Lists.{same_nat}
use Rattle.told_laws.proofs.Quiet.{IsOver, LeftDoing, LeavesIt, commits_left}
use Rattle.told_laws.proofs.Moves.{IsOwn, each_from}
use Rattle.told_laws.proofs.Opening.{nat_sym}
use Rattle.told_laws.proofs.Standing.{AllReplied, OnceIn, Asked, IsAsked, PhaseStands, TxnStands}
use Rattle.told_laws.proofs.Standing.{DoingStands, RouterStands, AreApart, IsOpen, ListsStand}
use Rattle.told_laws.proofs.Standing.{BookStands, GoOn, txn_on, reply_on, own_on, drawn_on}
use Rattle.told_laws.proofs.Booking.{CameOf, came_alone, Changes, book_step}
use Rattle.told_laws.proofs.Taking.{waited_behind, count_behind, once_behind, none_wins}
use Rattle.told_laws.proofs.Taking.{all_replies, told_merged}

-- The lists after the Answer.

abbrev pub taken_by : ℕ → Answer → List Unanswered → List Unanswered
taken_by n a us = map (with_answer n a) us

pub with_opened : (n : ℕ) (a : Answer) (u : Unanswered) → as_opened (with_answer n a u) ≡ as_opened u
with_opened n a u = either (is_for n a u) (λ (x : Unanswered). as_opened x ≡ as_opened u)
    (record u { answers = put nat_cmp a.shard a u.answers }) u refl refl

with_tag : (n : ℕ) (a : Answer) (u : Unanswered) → (with_answer n a u).tag ≡ u.tag
with_tag n a u = ap (λ (x : Unanswered). x.tag) (with_opened n a u)

with_k : (n : ℕ) (a : Answer) (u : Unanswered) → (with_answer n a u).k ≡ u.k
with_k n a u = ap (λ (x : Unanswered). x.k) (with_opened n a u)

-- a statement after the Answer, and what it was before
record Was (n : ℕ) (a : Answer) (us : List Unanswered) (v : Unanswered) : Type 0 where
  before : Unanswered
  there : Contains us before
  opened : as_opened v ≡ as_opened before

was : (n : ℕ) (a : Answer) (us : List Unanswered) (v : Unanswered) → Contains (taken_by n a us) v
    → Was n a us v
was n a us v h =
    let m = map_has (with_answer n a) us v h in
    record { before = m.0; there = m.1; opened = ap as_opened m.2 ∙ with_opened n a m.0 }

tag_was : (u v : Unanswered) → as_opened u ≡ as_opened v → u.tag ≡ v.tag
tag_was u v e = ap (λ (x : Unanswered). x.tag) e

k_was : (u v : Unanswered) → as_opened u ≡ as_opened v → u.k ≡ v.k
k_was u v e = ap (λ (x : Unanswered). x.k) e

-- an answered statement, and the complete one that it is of
record IsNow (us : List Unanswered) (b : Answered) : Type 0 where
  statement : Unanswered
  there : Contains us statement
  complete : is_complete statement ≡ true
  is : b ≡ answered_of statement

is_now : (us : List Unanswered) (b : Answered) → Contains (answered_among us) b → IsNow us b
is_now us b h =
    let m = map_has answered_of (filter (λ (u : Unanswered). is_complete u && all_say u) us) b h in
    let f = filter_has (λ (u : Unanswered). is_complete u && all_say u) us m.0 m.1 in
    record {
      statement = m.0;
      there = f.0;
      complete =
          (both_true (is_complete m.0) (all_say m.0) f.1).0;
      is = m.2;
    }

left_is : (us : List Unanswered) (u : Unanswered) → Contains (left_unanswered us) u
    → Contains us u × (is_complete u ≡ false)
left_is us u h =
    let f = filter_has (λ (u : Unanswered). not (is_complete u)) us u h in
    (f.0, not_true (is_complete u) f.1)
  where
    not_true : (b : Bool) → not b ≡ true → b ≡ false
    not_true true e = grind arith
    not_true false e = refl

is_left : (us : List Unanswered) (u : Unanswered) → Contains us u → is_complete u ≡ false
    → Contains (left_unanswered us) u
is_left us u h e = has_filter (λ (u : Unanswered). not (is_complete u)) us u (ap not e) h

module _ (n : ℕ) (a : Answer) (begun us : List Unanswered) (told : List Answered)
    (h : ListsStand begun us told) where
  taken_apart : InOrder AreApart (map (with_answer n a) us)
  taken_apart = order_map AreApart AreApart (with_answer n a)
      (λ x y apart same. apart (sym (with_tag n a x) ∙ same ∙ with_tag n a y)) us h.apart

  taken_one : (u v : Unanswered) → Contains (map (with_answer n a) us) u
      → Contains (map (with_answer n a) us) v → u.tag ≡ v.tag → u ≡ v
  taken_one u v p q same =
      elim (order_two AreApart (map (with_answer n a) us) u v taken_apart p q) [
        | inl e ↦ e
        | inr w ↦ elim w [ inl k ↦ absurd (k same) | inr k ↦ absurd (k (sym same)) ]
      ]

  now_later : (x : Answered) (b : Answered) → Contains told x
      → Contains (answered_among (map (with_answer n a) us)) b → IsLater x b
  now_later x b p q same =
      let i = is_now (map (with_answer n a) us) b q in
      let w = was n a us i.statement i.there in
      let tag : b.tag ≡ w.before.tag = ap (λ (y : Answered). y.tag) i.is ∙ tag_was i.statement
      w.before w.opened in
      let k : b.k ≡ w.before.k = ap (λ (y : Answered). y.k) i.is ∙ k_was i.statement w.before
      w.opened in
      subst (λ (m : ℕ). x.k < m) (sym k) (h.newest w.before x w.there p (same ∙ tag))

  taken_lists : ListsStand begun (left_unanswered (map (with_answer n a) us))
      (told ++ answered_among (map (with_answer n a) us))
  taken_lists =
      let us1 = map (with_answer n a) us in
      let now = answered_among us1 in
      record {
        order = h.order;
        behind = λ u v p q same less. reply_on told now u (h.behind u v p q same less);
        are_open = contained (IsOpen begun) (left_unanswered us1) (λ u p.
            let l = left_is us1 u p in
            let w = was n a us u l.0 in
            record {
              opened = subst (Contains begun) (sym w.opened)
                  (All-contains (IsOpen begun) us w.before h.are_open w.there).opened;
              incomplete =
                  l.1;
            });
        apart = order_filter AreApart (λ (u : Unanswered). not (is_complete u)) us1 taken_apart;
        newest = λ u b p q same.
            let l = left_is us1 u p in
            let w = was n a us u l.0 in
            elim (Contains-append_cases told now b q) [
              | inl x ↦ subst (λ (m : ℕ). b.k < m) (sym (k_was u w.before w.opened))
                  (h.newest w.before b w.there x (same ∙ tag_was u w.before w.opened))
              | inr x ↦
                  let i = is_now us1 b x in
                  let one = taken_one i.statement u i.there l.0
                  (sym (ap (λ (y : Answered). y.tag) i.is) ∙ same) in
                  let no : true ≡ false = sym i.complete ∙ ap is_complete one ∙ l.1 in
                  absurd (grind (arith, no))
            ];
        of = All-append (IsOpened begun) told now h.of (contained (IsOpened begun) now (λ b p.
            let i = is_now us1 b p in
            let w = was n a us i.statement i.there in
            record {
              statement = as_opened i.statement;
              opened = subst (Contains begun) (sym w.opened)
                  (All-contains (IsOpen begun) us w.before h.are_open w.there).opened;
              tag = ap (λ (y : Answered). y.tag) i.is;
              k = ap (λ (y : Answered). y.k) i.is;
              op = ap (λ (y : Answered). y.op) i.is;
            }));
        later =
            order_append IsLater told now h.later
            (order_map IsLater AreApart answered_of (λ x y apart same. absurd (apart same))
            (filter (λ (u : Unanswered). is_complete u && all_say u) us1)
            (order_filter AreApart (λ (u : Unanswered). is_complete u && all_say u) us1
            taken_apart))
            now_later;
      }

-- The test of an Answer for the statement that is asked.

five_by : (s k l o : Bool) → (true && s && k && l && o) ≡ (s && k && (l && o))
five_by true true l o = refl
five_by true false l o = refl
five_by false k l o = refl

five : (r s k l o s' k' w : Bool) → r ≡ true → s ≡ s' → k ≡ k' → w ≡ (l && o)
    → (r && s && k && l && o) ≡ (s' && k' && w)
five r s k l o s' k' w er es ek ew =
    ap (λ (x : Bool). x && s && k && l && o) er ∙ ap (λ (x : Bool). true && x && k && l && o) es ∙
    ap (λ (x : Bool). true && s' && x && l && o) ek
    ∙ five_by s' k' l o ∙ ap (λ (x : Bool). s' && k' && x) (sym ew)

abbrev pub takes : Answer → Transaction → Bool
takes a t = same_tag t.tag a.tag && nat_eq a.k t.k && is_waited a.shard t.waiting

pub for_asked : (n : ℕ) (a : Answer) (begun us : List Unanswered) (told : List Answered)
    (t : Transaction) (asker : Asker) (op : Op) (answers : List (ℕ × Answer))
    (k : Asked n begun us told t asker op answers)
    → is_for n a k.statement ≡ takes a t
for_asked n a begun us told t asker op answers k =
    let u = k.statement in
    five (nat_eq u.router n) (same_tag u.tag a.tag) (nat_eq u.k a.k)
    (list_any (nat_eq a.shard) u.shards) (not (list_any (λ (other : ℕ × Answer). nat_eq other.0
    a.shard) u.answers))
    (same_tag t.tag a.tag) (nat_eq a.k t.k) (is_waited a.shard t.waiting)
    (ap (λ (r : ℕ). nat_eq r n) k.router ∙ same_nat n)
    (ap (λ (tag : Tag). same_tag tag a.tag) k.tag)
    (ap (λ (m : ℕ). nat_eq m a.k) k.k ∙ nat_sym t.k a.k)
    (k.waited a.shard ∙ ap (λ (rows : List (ℕ × Answer)). list_any (nat_eq a.shard) u.shards && not
    (list_any (λ (other : ℕ × Answer). nat_eq other.0 a.shard) rows)) (sym k.answers_are))

with_not : (n : ℕ) (a : Answer) (u : Unanswered) → is_for n a u ≡ false → with_answer n a u ≡ u
with_not n a u e = rw e refl

pub with_yes : (n : ℕ) (a : Answer) (u : Unanswered) → is_for n a u ≡ true
    → with_answer n a u ≡ record u { answers = put nat_cmp a.shard a u.answers }
with_yes n a u e = rw e refl

-- What a transaction becomes.

abbrev pub GoesTo : ℕ → List Unanswered → List Unanswered → List Answered → Transaction → Doing
    → Type 0
GoesTo n begun us told t (Begun v) = (v.tag ≡ t.tag) × TxnStands n begun us told v
GoesTo n begun us told t (Sought seeking known) = ⊥

over_phase : (n : ℕ) (begun us : List Unanswered) (told : List Answered) (v : Transaction)
    (p : Phase) → IsOver p → AllReplied begun told v.tag → PhaseStands n begun us told v p
over_phase n begun us told v Idle k h = h
over_phase n begun us told v (Asking asker op answers) k h = absurd k
over_phase n begun us told v (Checking asker) k h = h
over_phase n begun us told v (Deciding asker) k h = h
over_phase n begun us told v Committed k h = h
over_phase n begun us told v Released k h = h
over_phase n begun us told v (Aborted sent) k h = tt

left_goes : (n : ℕ) (begun us : List Unanswered) (told : List Answered) (t : Transaction)
    (doing : Doing) → ((v : Unanswered) → Contains begun v → v.tag ≡ t.tag → v.k ≤ t.k)
    → AllReplied begun told t.tag
    → LeftDoing t.tag t.k doing → GoesTo n begun us told t doing
left_goes n begun us told t (Begun v) below replied h = (
  h.tag_is,
  record {
    below = λ u there same. subst (λ (k : ℕ). u.k ≤ k) (sym h.k_is)
        (below u there (same ∙ h.tag_is));
    phase = over_phase n begun us told v v.phase h.over
        (subst (AllReplied begun told) (sym h.tag_is) replied);
  },
)
left_goes n begun us told t (Sought seeking known) below replied h = absurd h

replies_left : (lsid : Lsid) (number : ℤ) (asker : Asker) (op : Op) (t : Transaction) (r : OpReply)
    → IsOver t.phase → LeavesIt t.tag t.k (st.replies lsid number asker op t r)
replies_left lsid number asker op t r over =
    either (is_own lsid && not (st.is_cut r)) (LeavesIt t.tag t.k)
    (co.commits lsid number (Some asker) (record t { reply = Some (st.reply_of op r None) })) _
    (commits_left lsid number (Some asker) (record t { reply = Some (st.reply_of op r None) }))
    (record { tag_is = refl; k_is = refl; over = over })

pub not_asking : (p : Phase) (asker : Asker) (op : Op) (answers : List (ℕ × Answer)) → IsOver p
    → p ≡ Asking asker op answers → ⊥
not_asking p asker op answers over e = subst IsOver e over

-- The session's transaction, after the Answer.

module _ (n : ℕ) (a : Answer) (begun us : List Unanswered) (told : List Answered)
    (h : ListsStand begun us told) where
  goes_on : (t : Transaction) → GoOn begun us told begun (left_unanswered
      (map (with_answer n a) us)) (told ++ answered_among (map (with_answer n a) us)) t
  goes_on t = record {
    back = λ v there same. there;
    on = λ v k. k;
    replies = λ v k. reply_on told
        (answered_among (map (with_answer n a) us)) v k;
  }

  stays_goes : (t : Transaction) → ((asker : Asker) (op : Op) (answers : List (ℕ × Answer)) →
      t.phase ≡ Asking asker op answers → takes a t ≡ false) → TxnStands n begun us told t
      → GoesTo n begun (left_unanswered (map (with_answer n a) us))
      (told ++ answered_among (map (with_answer n a) us)) t (Begun t)
  stays_goes t not h' = (
    refl,
    txn_on n begun us told begun (left_unanswered (map (with_answer n a) us))
        (told ++ answered_among (map (with_answer n a) us)) t (goes_on t)
        (λ asker op answers is k.
        let u = k.statement in
        let same : with_answer n a u ≡ u = with_not n a u
        (for_asked n a begun us told t asker op answers k ∙ not asker op answers is) in
        is_left (map (with_answer n a) us) u (subst (Contains (map (with_answer n a) us)) same
        (has_map (with_answer n a) us u k.there))
        (All-contains (IsOpen begun) us u h.are_open k.there).incomplete)
        h',
  )

  module _ (t : Transaction) (asker : Asker) (op : Op) (answers : List (ℕ × Answer))
      (k : Asked n begun us told t asker op answers) (so : takes a t ≡ true) where
    is_one : is_for n a k.statement ≡ true
    is_one = for_asked n a begun us told t asker op answers k ∙ so

    pub is_waited_for : is_waited a.shard t.waiting ≡ true
    is_waited_for = (both_true (same_tag t.tag a.tag && nat_eq a.k t.k)
        (is_waited a.shard t.waiting) so).1

    pub answers_now : (with_answer n a k.statement).answers ≡ put nat_cmp a.shard a answers
    answers_now = ap (λ (x : Unanswered). x.answers) (with_yes n a k.statement is_one) ∙ ap
        (put nat_cmp a.shard a) k.answers_are

    shards_now : (with_answer n a k.statement).shards ≡ k.statement.shards
    shards_now = ap (λ (x : Unanswered). x.shards) (with_opened n a k.statement)

    pub there_now : Contains (map (with_answer n a) us) (with_answer n a k.statement)
    there_now = has_map (with_answer n a) us k.statement k.there

    pub count_now : length (put nat_cmp a.shard a answers) + length (without a.shard t.waiting) ≡ length
        k.statement.shards
    count_now = count_behind a.shard a t.waiting k.statement.shards answers k.once is_waited_for
        (k.waited a.shard) k.count

    pub complete_is : is_complete (with_answer n a k.statement) ≡ nat_eq
        (length (put nat_cmp a.shard a answers)) (length k.statement.shards)
    complete_is = ap₂ (λ (rows : List (ℕ × Answer)) (ns : List ℕ). nat_eq (length rows) (length ns))
        answers_now shards_now

    asked_now : (v : Transaction) → v.tag ≡ t.tag → v.k ≡ t.k
        → v.waiting ≡ without a.shard t.waiting → is_complete (with_answer n a k.statement) ≡ false
        → Asked n begun (left_unanswered (map (with_answer n a) us))
        (told ++ answered_among (map (with_answer n a) us)) v asker op
        (put nat_cmp a.shard a answers)
    asked_now v tag place waiting unfinished =
        let u = k.statement in
        let same = with_opened n a u in
        record {
          statement = with_answer n a u;
          there = is_left (map (with_answer n a) us) (with_answer n a u) there_now unfinished;
          opened = subst (Contains begun) (sym same) k.opened;
          router = ap (λ (x : Unanswered). x.router) same ∙ k.router;
          conn = ap (λ (x : Unanswered). x.conn) same ∙ k.conn;
          tag = ap (λ (x : Unanswered). x.tag) same ∙ k.tag ∙ sym tag;
          k = ap (λ (x : Unanswered). x.k) same ∙ k.k ∙ sym place;
          op_is = ap (λ (x : Unanswered). x.op) same ∙ k.op_is;
          answers_are = answers_now;
          waited = λ shard.
              ap (is_waited shard) waiting ∙ waited_behind a.shard a t.waiting u.shards answers
              k.waited shard
              ∙ ap (λ (ns : List ℕ). list_any (nat_eq shard) ns && not
              (list_any (λ (other : ℕ × Answer). nat_eq other.0 shard)
              (put nat_cmp a.shard a answers))) (sym shards_now);
          count = ap (λ (posts : List Post). length (put nat_cmp a.shard a answers) + length posts)
              waiting ∙ count_now ∙ ap (λ (ns : List ℕ). length ns) (sym shards_now);
          once = subst OnceIn (sym waiting) (once_behind a.shard t.waiting k.once);
          others = λ v there is.
              elim (k.others v there (is ∙ tag)) [
                | inl e ↦ inl (e ∙ sym same)
                | inr r ↦ inr (reply_on told (answered_among (map (with_answer n a) us)) v r)
              ];
        }

    replied_now : is_complete (with_answer n a k.statement) ≡ true
        → filter_map st.cause_in (put nat_cmp a.shard a answers) ≡ []
        → AllReplied begun (told ++ answered_among (map (with_answer n a) us)) t.tag
    replied_now complete none v there is =
        let u = with_answer n a k.statement in
        let same = with_opened n a k.statement in
        let r = all_replies u.op (put nat_cmp a.shard a answers) none in
        let says : all_say u ≡ true = ap (λ (rows : List (ℕ × Answer)). list_all
        (λ (answer : ℕ × Answer). is_some (meaning_in answer)) rows) answers_now ∙ r.say in
        let both : (is_complete u && all_say u) ≡ true = ap₂ (λ (x y : Bool). x && y) complete
        says in
        let now = answered_among (map (with_answer n a) us) in
        let what : (answered_of u).outcome ≡ Ok
        (merge u.op (filter_map st.reply_in (put nat_cmp a.shard a answers))) =
        ap (λ (rows : List (ℕ × Answer)). outcome document_rules u.op (filter_map meaning_in rows))
        answers_now ∙ told_merged u.op (put nat_cmp a.shard a answers) r in
        let among : Contains now (answered_of u) =
        has_map answered_of (filter (λ (x : Unanswered). is_complete x && all_say x)
        (map (with_answer n a) us)) u
        (has_filter (λ (x : Unanswered). is_complete x && all_say x) (map (with_answer n a) us)
        u both there_now) in
        elim (k.others v there is) [
          | inl e ↦ record {
            answer = answered_of u;
            among = Contains-append_right told now (answered_of u) among;
            tag = ap (λ (x : Unanswered). x.tag) (same ∙ sym e);
            k = ap (λ (x : Unanswered). x.k) (same ∙ sym e);
            op = ap (λ (x : Unanswered). x.op) (same ∙ sym e);
            replied = subst IsOk (sym what) refl;
          }
          | inr reply ↦ reply_on told now v reply
        ]

taken_case : (n : ℕ) (a : Answer) (begun us : List Unanswered) (told : List Answered)
    (h : ListsStand begun us told) (lsid : Lsid) (number : ℤ) (t : Transaction) (asker : Asker)
    (op : Op) (answers : List (ℕ × Answer))
    → Asked n begun us told t asker op answers → takes a t ≡ true
    → ((v : Unanswered) → Contains begun v → v.tag ≡ t.tag → v.k ≤ t.k) → (w : List Post)
    → without a.shard t.waiting ≡ w → (o : Option (ℕ × Cause))
    → st.winning (filter_map st.cause_in (put nat_cmp a.shard a answers)) ≡ o
    → GoesTo n begun (left_unanswered (map (with_answer n a) us))
    (told ++ answered_among (map (with_answer n a) us)) t
    (st.taken_by lsid number asker op (put nat_cmp a.shard a answers)
    (st.with_answer asker op answers a t) w).session.doing
taken_case n a begun us told h lsid number t asker op answers k so below (post ∷ posts) is o wins =
    let count = count_now n a begun us told h t asker op answers k so in
    let long : length (without a.shard t.waiting) ≡ length (post ∷ posts) = ap
    (λ (l : List Post). length l) is in
    let unfinished : is_complete (with_answer n a k.statement) ≡ false =
    complete_is n a begun us told h t asker op answers k so
    ∙ not_same (length (put nat_cmp a.shard a answers)) (length k.statement.shards)
    (λ e. absurd (omega (arith, e, count, long))) in (
      refl,
      record {
        below = below;
        phase = inr (asked_now n a begun us told h t asker op answers k so
            (st.with_answer asker op answers a t) refl refl refl unfinished);
      },
    )
taken_case n a begun us told h lsid number t asker op answers k so below [] is None wins =
    let count = count_now n a begun us told h t asker op answers k so in
    let long : length (without a.shard t.waiting) ≡ 0 = ap (λ (l : List Post). length l) is in
    let same : length (put nat_cmp a.shard a answers) ≡ length k.statement.shards = omega
    (arith, count, long) in
    let complete : is_complete (with_answer n a k.statement) ≡ true =
    complete_is n a begun us told h t asker op answers k so ∙ ap
    (λ (m : ℕ). nat_eq m (length k.statement.shards)) same ∙ same_nat
    (length k.statement.shards) in
    let t1 = st.answered_by (put nat_cmp a.shard a answers) (st.with_answer asker op answers a t) in
    let reply = merge op (filter_map st.reply_in (put nat_cmp a.shard a answers)) in
    rw wins
    (left_goes n begun (left_unanswered (map (with_answer n a) us))
    (told ++ answered_among (map (with_answer n a) us)) t
    (st.replies lsid number asker op t1 reply).session.doing below
    (replied_now n a begun us told h t asker op answers k so complete
    (none_wins (filter_map st.cause_in (put nat_cmp a.shard a answers)) wins))
    (replies_left lsid number asker op t1 reply tt))
taken_case n a begun us told h lsid number t asker op answers k so below [] is (Some refusal) wins =
    rw wins (refl, record { below = below; phase = tt })

asked_case : (n : ℕ) (a : Answer) (begun us : List Unanswered) (told : List Answered)
    (h : ListsStand begun us told) (lsid : Lsid) (number : ℤ) (t : Transaction) (asker : Asker)
    (op : Op) (answers : List (ℕ × Answer))
    → IsAsked n begun us told t asker op answers → takes a t ≡ true
    → ((v : Unanswered) → Contains begun v → v.tag ≡ t.tag → v.k ≤ t.k)
    → GoesTo n begun (left_unanswered (map (with_answer n a) us))
    (told ++ answered_among (map (with_answer n a) us)) t
    (st.taken lsid number a asker op answers t).session.doing
asked_case n a begun us told h lsid number t asker op answers (inl none) so below =
    let waits = (both_true (same_tag t.tag a.tag && nat_eq a.k t.k) (is_waited a.shard t.waiting)
    so).1 in
    let no : false ≡ true = ap (is_waited a.shard) (sym none.0) ∙ waits in
    absurd (grind (arith, no))
asked_case n a begun us told h lsid number t asker op answers (inr k) so below =
    taken_case n a begun us told h lsid number t asker op answers k so below
    (without a.shard t.waiting) refl (st.winning (filter_map st.cause_in
    (put nat_cmp a.shard a answers))) refl

answer_phase : (n : ℕ) (a : Answer) (begun us : List Unanswered) (told : List Answered)
    (h : ListsStand begun us told) (lsid : Lsid) (number : ℤ) (t : Transaction) (p : Phase)
    → takes a t ≡ true
    → TxnStands n begun us told (record t { phase = p })
    → GoesTo n begun (left_unanswered (map (with_answer n a) us))
    (told ++ answered_among (map (with_answer n a) us)) t
    (st.answer_to lsid number a (record t { phase = p })).session.doing
answer_phase n a begun us told h lsid number t (Asking asker op answers) so k =
    asked_case n a begun us told h lsid number (record t { phase = Asking asker op answers }) asker
    op answers k.phase so k.below
answer_phase n a begun us told h lsid number t Idle so k = stays_goes n a begun us told h
    (record t { phase = Idle }) (λ asker op answers e. absurd
    (not_asking Idle asker op answers tt e)) k
answer_phase n a begun us told h lsid number t (Checking asker) so k = stays_goes n a begun us told
    h (record t { phase = Checking asker }) (λ other op answers e. absurd
    (not_asking (Checking asker) other op answers tt e)) k
answer_phase n a begun us told h lsid number t (Deciding asker) so k = stays_goes n a begun us told
    h (record t { phase = Deciding asker }) (λ other op answers e. absurd
    (not_asking (Deciding asker) other op answers tt e)) k
answer_phase n a begun us told h lsid number t Committed so k = stays_goes n a begun us told h
    (record t { phase = Committed }) (λ asker op answers e. absurd
    (not_asking Committed asker op answers tt e)) k
answer_phase n a begun us told h lsid number t Released so k = stays_goes n a begun us told h
    (record t { phase = Released }) (λ asker op answers e. absurd
    (not_asking Released asker op answers tt e)) k
answer_phase n a begun us told h lsid number t (Aborted sent) so k = stays_goes n a begun us told h
    (record t { phase = Aborted sent }) (λ asker op answers e. absurd
    (not_asking (Aborted sent) asker op answers tt e)) k

answer_case : (n : ℕ) (a : Answer) (begun us : List Unanswered) (told : List Answered)
    (h : ListsStand begun us told) (lsid : Lsid) (number : ℤ) (t : Transaction) (test : Bool)
    → takes a t ≡ test
    → TxnStands n begun us told t
    → GoesTo n begun (left_unanswered (map (with_answer n a) us))
    (told ++ answered_among (map (with_answer n a) us)) t
    (st.on_answer lsid number a t).session.doing
answer_case n a begun us told h lsid number t true is k = rw is
    (answer_phase n a begun us told h lsid number t t.phase is k)
answer_case n a begun us told h lsid number t false is k = rw is
    (stays_goes n a begun us told h t (λ asker op answers e. is) k)

-- The router.

goes_doing : (n : ℕ) (r s : RouterState) (begun us : List Unanswered) (told : List Answered)
    (t : Transaction) (doing : Doing) → s.number ≡ r.number → s.boot ≡ r.boot → s.serial ≡ r.serial
    → IsOwn r t.tag
    → GoesTo n begun us told t doing → DoingStands n s begun us told doing
goes_doing n r s begun us told t (Begun v) number boot serial own h =
    (subst (IsOwn s) (sym h.0) (own_on r s t.tag number boot (omega (arith, serial)) own), h.1)
goes_doing n r s begun us told t (Sought seeking known) number boot serial own h = absurd h

session_goes : (n : ℕ) (a : Answer) (begun us : List Unanswered) (told : List Answered)
    (h : ListsStand begun us told) (r s : RouterState) (lsid : Lsid) (number : ℤ) (doing : Doing)
    → s.number ≡ r.number → s.boot ≡ r.boot → s.serial ≡ r.serial
    → DoingStands n r begun us told doing
    → DoingStands n s begun (left_unanswered (map (with_answer n a) us))
    (told ++ answered_among (map (with_answer n a) us))
    (answered_in a lsid (record { number = number; doing = doing })).session.doing
session_goes n a begun us told h r s lsid number (Begun t) x y z k =
    goes_doing n r s begun (left_unanswered (map (with_answer n a) us))
    (told ++ answered_among (map (with_answer n a) us)) t
    (st.on_answer lsid number a t).session.doing x y z k.0
    (answer_case n a begun us told h lsid number t (takes a t) refl k.1)
session_goes n a begun us told h r s lsid number (Sought seeking known) x y z k = tt

tag_of_goes : (n : ℕ) (begun us : List Unanswered) (told : List Answered) (t v : Transaction)
    (doing : Doing) → doing ≡ Begun v → GoesTo n begun us told t doing → v.tag ≡ t.tag
tag_of_goes n begun us told t v doing is h = (subst (GoesTo n begun us told t) is h).0

came_doing : (n : ℕ) (a : Answer) (begun us : List Unanswered) (told : List Answered)
    (h : ListsStand begun us told) (r : RouterState) (lsid : Lsid) (s : Session) (number : ℤ)
    (doing : Doing) (t : Transaction)
    → session_of r lsid ≡ Some s → s.doing ≡ doing → DoingStands n r begun us told doing
    → (answered_in a lsid (record { number = number; doing = doing })).session.doing ≡ Begun t
    → CameOf r lsid t.tag
came_doing n a begun us told h r lsid s number (Begun u) t there is k e =
    record {
      session = s;
      there = there;
      t = u;
      doing = is;
      tag_is = sym (tag_of_goes n begun (left_unanswered (map (with_answer n a) us))
          (told ++ answered_among (map (with_answer n a) us)) u t
          (st.on_answer lsid number a u).session.doing e
          (answer_case n a begun us told h lsid number u (takes a u) refl k.1));
    }
came_doing n a begun us told h r lsid s number (Sought seeking known) t there is k e = let no :
    Sought seeking known ≡ Begun t = e in grind (arith, no)

pub answer_book : (routers : List RouterState) (n : ℕ) (a : Answer) (r q s : RouterState)
    (begun us : List Unanswered) (told : List Answered) → slice_get routers n ≡ Some r
    → q.number ≡ r.number → q.boot ≡ r.boot → q.serial ≡ r.serial → q.sessions ≡ r.sessions
    → s ≡ (in_each_session (answered_in a) q).state → BookStands routers begun us told
    → BookStands (slice_set routers n s) begun (left_unanswered (map (with_answer n a) us))
    (told ++ answered_among (map (with_answer n a) us))
answer_book routers n a r q s begun us told there number boot serial sessions is h =
    let x = h.routers_stand n r there in
    let us1 = left_unanswered (map (with_answer n a) us) in
    let told1 = told ++ answered_among (map (with_answer n a) us) in
    let old = λ (lsid : Lsid) (v : Session) (e : session_of q lsid ≡ Some v). x.sessions lsid v
    (ap (λ (xs : BySession Session). entry_of lsid xs) (sym sessions) ∙ e) in
    let next = (in_each_session (answered_in a) q).state in
    let rises : r.serial ≤ q.serial = omega (arith, serial) in
    let stands : RouterStands n begun us1 told1 next =
    record {
      number = number ∙ x.number;
      drawn = λ u at router. drawn_on r next u.tag boot rises (x.drawn u at router);
      sessions = λ lsid v e.
          let f = each_from (answered_in a) q lsid v e in
          subst (λ (w : Session). DoingStands n next begun us1 told1 w.doing) (sym f.2)
          (session_goes n a begun us told h.lists r next lsid f.0.number f.0.doing number boot
          serial (old lsid f.0 f.1));
      alone = came_alone r next
          (λ lsid v t e doing.
          let f = each_from (answered_in a) q lsid v e in
          came_doing n a begun us told h.lists r lsid f.0 f.0.number f.0.doing t
          (ap (λ (xs : BySession Session). entry_of lsid xs) (sym sessions) ∙ f.1) refl
          (old lsid f.0 f.1) (ap (λ (w : Session). w.doing) (sym f.2) ∙ doing))
          x.alone;
    } in
    let changes : Changes n begun us told begun us1 told1 =
    record {
      back = λ v at. inl at;
      on = λ v at. at;
      replies = λ v reply. reply_on told (answered_among (map (with_answer n a) us)) v reply;
      keep = λ u at apart.
          let same : with_answer n a u ≡ u = with_not n a u
          (ap (λ (b : Bool). b && same_tag u.tag a.tag && nat_eq u.k a.k && list_any
          (nat_eq a.shard) u.shards && not
          (list_any (λ (other : ℕ × Answer). nat_eq other.0 a.shard) u.answers))
          (not_same u.router n apart)) in
          is_left (map (with_answer n a) us) u
          (subst (Contains (map (with_answer n a) us)) same (has_map (with_answer n a) us u at))
          (All-contains (IsOpen begun) us u h.lists.are_open at).incomplete;
    } in
    book_step routers n s begun us told begun us1 told1 changes
    (subst (RouterStands n begun us1 told1) (sym is) stands)
    (taken_lists n a begun us told h.lists) h
