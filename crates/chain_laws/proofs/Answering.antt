-- A router takes an Answer of the first shard: the session's transaction has the boot that it tells,
-- and the statement is complete.
use Rattle.std.proofs.Common.{◌≡◌, inl, inr, ◌<◌, ◌&&◌, ◌||◌, ℕ, ℤ, Bool, true, false}
use Rattle.std.proofs.Common.{not, All, List, [], ◌∷◌, ◌++◌, map, filter_map, length, nat_eq}
use Rattle.std.proofs.Common.{is_some, Option, Some, None, refl, sym, ap, ap₂, subst, ◌∙◌, arith}
use Rattle.std.specs.Prelude.{Contains}
use Rattle.std.specs.List.{list_any, list_all}
use Rattle.std.specs.Ordering.{nat_cmp}
use Rattle.std.specs.declared.cmp.Ordering.{Ordering}
use Rattle.std.specs.declared.cmp.Ordering.TheVariants.{Less, Equal, Greater}
use Rattle.std.proofs.lemmas.List.Elements.{All-contains, All-weaker, All-map}
use Rattle.std.proofs.lemmas.List.Elements.{Contains-append_right}
use Rattle.txn_types.specs.Order.{same_tag}
use Rattle.txn_types.specs.declared.cause.Cause.{Cause}
use Rattle.txn_types.specs.declared.message.Answer.{Answer}
use Rattle.txn_types.specs.declared.names.Tag.{Tag}
use Rattle.txn_types.specs.declared.node.Lsid.{Lsid}
use Rattle.txn_types.specs.declared.operation.Op.{Op}
use Rattle.txn_types.specs.declared.operation.OpReply.{OpReply}
use Rattle.txn_semantics.specs.Keyed.{put}
use Rattle.txn_semantics.specs.Merge.{merge}
use Rattle.txn_semantics.specs.declared.commits.Answered.{Answered}
use Rattle.router_state.specs.declared.deed.Deed.{Deed}
use Rattle.router_state.specs.declared.state.Asker.{Asker}
use Rattle.router_state.specs.declared.state.Doing.{Doing}
use Rattle.router_state.specs.declared.state.Doing.TheVariants.{Begun, Sought}
use Rattle.router_state.specs.declared.state.Phase.{Phase}
use Rattle.router_state.specs.declared.state.Phase.TheVariants.{Idle, Asking, Checking, Deciding}
use Rattle.router_state.specs.declared.state.Phase.TheVariants.{Committed, Released, Aborted}
use Rattle.router_state.specs.declared.state.Session.{Session}
use Rattle.router_state.specs.declared.state.Transaction.{Transaction}
use Rattle.router_state.specs.Deeds.{in_each_session}
use Rattle.router_state.specs.State.{Post, RouterState, session_of, boot_of, is_own, is_waited}
use Rattle.router_state.specs.State.{without}
use Rattle.router_rules.specs.Commits as co
use Rattle.router_rules.specs.Ends.{ended}
use Rattle.router_rules.specs.Serving.{answered_in}
use Rattle.router_rules.specs.Statements as st
use Rattle.participant.proofs.Cases.{either}
use Rattle.cluster_core.specs.Answering.{Unanswered, is_for, with_answer, is_complete, all_say}
use Rattle.cluster_core.specs.Answering.{meaning_in}
use Rattle.answer_laws.proofs.Lists.{both_true}
use Rattle.told_laws.proofs.Lists.{has_map, has_filter, same_nat}
use Rattle.told_laws.proofs.Moves.{each_from}
use Rattle.told_laws.proofs.Opening.{nat_sym}
use Rattle.told_laws.proofs.Quiet.{IsSettled, LeftDoing, IsOver, commits_left}
use Rattle.told_laws.proofs.Standing.{Asked, IsAsked, TxnStands, DoingStands}
use Rattle.told_laws.proofs.Standing.{has_answer}
use Rattle.told_laws.proofs.Taking.{count_behind, none_wins, all_replies}
use Rattle.chain_laws.specs.Completing.{completed_among}
use Rattle.chain_laws.proofs.Same.{SameDoing, commits_same}
use Rattle.chain_laws.proofs.Standing.{WasLast, KnownBoot, Times, IsAsking, TxnChains, DoingChains}
use Rattle.chain_laws.proofs.Standing.{SessionsChain, IsSingle}

-- The boot of the first shard, behind its Answer.

put_first : (boot : ℕ) (row : ℕ × ℕ) (rows : List (ℕ × ℕ)) (o : Ordering) → nat_cmp 0 row.0 ≡ o
    → boot_of (put nat_cmp 0 boot (row ∷ rows)) 0 ≡ boot
put_first boot row rows Less is = rw (is, put) refl
put_first boot row rows Equal is = rw (is, put) refl
put_first boot row rows Greater is = absurd (none row.0 is)
  where
    none : (n : ℕ) → nat_cmp 0 n ≡ Greater → ⊥
    none n e = grind (arith, e)

told_boot : (boot : ℕ) (parts : List (ℕ × ℕ)) → boot_of (put nat_cmp 0 boot parts) 0 ≡ boot
told_boot boot [] = refl
told_boot boot (row ∷ rows) = put_first boot row rows (nat_cmp 0 row.0) refl

-- Statements with single Answers.

single_with : (n : ℕ) (a : Answer) (u : Unanswered) → a.shard ≡ 0 → IsSingle u
    → IsSingle (with_answer n a u)
single_with n a u zero h = by (is_for n a u) refl
  where
    none_yet : is_for n a u ≡ true → u.answers ≡ []
    none_yet is =
        elim (h.answers) [
          | inl e ↦ e
          | inr w ↦
              let last = (both_true (nat_eq u.router n && same_tag u.tag a.tag && nat_eq u.k a.k
              && list_any (nat_eq a.shard) u.shards) _ is).1 in
              let there : not (list_any (λ (other : ℕ × Answer). nat_eq other.0 a.shard)
              ((0, w.0) ∷ [])) ≡ true =
              ap (λ (rows : List (ℕ × Answer)). not (list_any (λ (other : ℕ × Answer).
              nat_eq other.0 a.shard) rows)) (sym w.1) ∙ last in
              let no : not (nat_eq 0 0 || false) ≡ true =
              ap (λ (s : ℕ). not (nat_eq 0 s || false)) (sym zero) ∙ there in
              absurd (grind (arith, no))
        ]

    by : (test : Bool) → is_for n a u ≡ test → IsSingle (with_answer n a u)
    by true is =
        let e : put nat_cmp a.shard a u.answers ≡ (0, a) ∷ [] =
        ap (put nat_cmp a.shard a) (none_yet is) ∙ ap (λ (s : ℕ). (s, a) ∷ []) zero in
        rw is (record { answers = inr (a, e); some = h.some })
    by false is = rw is h

pub all_single : (n : ℕ) (a : Answer) (us : List Unanswered) → a.shard ≡ 0 → All IsSingle us
    → All IsSingle (map (with_answer n a) us)
all_single n a us zero h =
    All-map IsSingle (with_answer n a) us
    (All-weaker IsSingle (λ u. IsSingle (with_answer n a u)) (λ u. single_with n a u zero) us h)

-- The statement that is asked.

five : (r s k l o : Bool) → r ≡ true → s ≡ true → k ≡ true → (l && o) ≡ true
    → (r && s && k && l && o) ≡ true
five r s k l o er es ek elo =
    ap (λ (x : Bool). x && s && k && l && o) er ∙ ap (λ (x : Bool). true && x && k && l && o) es
    ∙ ap (λ (x : Bool). true && true && x && l && o) ek ∙ rest l o elo
  where
    rest : (l o : Bool) → (l && o) ≡ true → (true && true && true && l && o) ≡ true
    rest true o e = e
    rest false o e = e

abbrev takes : Answer → Transaction → Bool
takes a t = same_tag t.tag a.tag && nat_eq a.k t.k && is_waited a.shard t.waiting

module _ (n : ℕ) (a : Answer) (begun us : List Unanswered) (told : List Answered)
    (t : Transaction) (asker : Asker) (op : Op) (answers : List (ℕ × Answer))
    (k : Asked n begun us told t asker op answers) (so : takes a t ≡ true) (zero : a.shard ≡ 0)
    (single : All IsSingle us) where
  waits : is_waited a.shard t.waiting ≡ true
  waits = (both_true (same_tag t.tag a.tag && nat_eq a.k t.k) (is_waited a.shard t.waiting) so).1

  first_two : (same_tag t.tag a.tag ≡ true) × (nat_eq a.k t.k ≡ true)
  first_two = both_true (same_tag t.tag a.tag) (nat_eq a.k t.k)
      (both_true (same_tag t.tag a.tag && nat_eq a.k t.k) (is_waited a.shard t.waiting) so).0

  is_the_one : is_for n a k.statement ≡ true
  is_the_one =
      let u = k.statement in
      five (nat_eq u.router n) (same_tag u.tag a.tag) (nat_eq u.k a.k)
      (list_any (nat_eq a.shard) u.shards)
      (not (list_any (λ (other : ℕ × Answer). nat_eq other.0 a.shard) u.answers))
      (ap (λ (r : ℕ). nat_eq r n) k.router ∙ same_nat n)
      (ap (λ (tag : Tag). same_tag tag a.tag) k.tag ∙ first_two.0)
      (ap (λ (m : ℕ). nat_eq m a.k) k.k ∙ nat_sym t.k a.k ∙ first_two.1)
      (ap (λ (rows : List (ℕ × Answer)). list_any (nat_eq a.shard) u.shards && not
      (list_any (λ (other : ℕ × Answer). nat_eq other.0 a.shard) rows)) k.answers_are
      ∙ sym (k.waited a.shard) ∙ waits)

  taken : with_answer n a k.statement
      ≡ record (k.statement) { answers = put nat_cmp a.shard a k.statement.answers }
  taken = rw is_the_one refl

  none_before : answers ≡ []
  none_before =
      elim ((All-contains IsSingle us k.statement single k.there).answers) [
        | inl e ↦ sym k.answers_are ∙ e
        | inr w ↦
            let have : answers ≡ (0, w.0) ∷ [] = sym k.answers_are ∙ w.1 in
            let o : (list_any (nat_eq a.shard) k.statement.shards && not
            (has_answer a.shard answers)) ≡ true = sym (k.waited a.shard) ∙ waits in
            let none : not (has_answer a.shard answers) ≡ true =
            (both_true (list_any (nat_eq a.shard) k.statement.shards) _ o).1 in
            let no : not (nat_eq 0 0 || false) ≡ true =
            ap (λ (s : ℕ). not (nat_eq 0 s || false)) (sym zero)
            ∙ ap (λ (rows : List (ℕ × Answer)). not (has_answer a.shard rows)) (sym have)
            ∙ none in
            absurd (grind (arith, no))
      ]

  answers_now : (with_answer n a k.statement).answers ≡ put nat_cmp a.shard a answers
  answers_now = ap (λ (u : Unanswered). u.answers) taken ∙ ap (put nat_cmp a.shard a) k.answers_are

  one_now : (with_answer n a k.statement).answers ≡ (0, a) ∷ []
  one_now = answers_now ∙ ap (put nat_cmp a.shard a) none_before ∙ ap (λ (s : ℕ). (s, a) ∷ []) zero

  shards_now : (with_answer n a k.statement).shards ≡ k.statement.shards
  shards_now = ap (λ (u : Unanswered). u.shards) taken

  complete_now : without a.shard t.waiting ≡ [] → is_complete (with_answer n a k.statement) ≡ true
  complete_now none =
      let count = count_behind a.shard a t.waiting k.statement.shards answers k.once waits
      (k.waited a.shard) k.count in
      let long : length (without a.shard t.waiting) ≡ 0 = ap (λ (l : List Post). length l) none in
      let same : length (put nat_cmp a.shard a answers) ≡ length k.statement.shards =
      omega (arith, count, long) in
      ap₂ (λ (x : List (ℕ × Answer)) (y : List ℕ). nat_eq (length x) (length y)) answers_now
      shards_now
      ∙ ap (λ (m : ℕ). nat_eq m (length k.statement.shards)) same
      ∙ same_nat (length k.statement.shards)

  says_now : st.winning (filter_map st.cause_in (put nat_cmp a.shard a answers)) ≡ None
      → all_say (with_answer n a k.statement) ≡ true
  says_now wins =
      ap (λ (rows : List (ℕ × Answer)). list_all (λ (x : ℕ × Answer). is_some (meaning_in x)) rows)
      answers_now
      ∙ (all_replies op (put nat_cmp a.shard a answers)
      (none_wins (filter_map st.cause_in (put nat_cmp a.shard a answers)) wins)).say

  -- it is the newest statement that was completed
  was_last : without a.shard t.waiting ≡ []
      → st.winning (filter_map st.cause_in (put nat_cmp a.shard a answers)) ≡ None
      → WasLast (completed_among (map (with_answer n a) us)) t.tag t.k a.boot
  was_last none wins =
      let u = with_answer n a k.statement in
      record {
        statement = u;
        among = has_filter (λ (u : Unanswered). is_complete u && all_say u)
            (map (with_answer n a) us) u
            (ap₂ (λ (x y : Bool). x && y) (complete_now none) (says_now wins))
            (has_map (with_answer n a) us k.statement k.there);
        tag_is = ap (λ (u : Unanswered). u.tag) taken ∙ k.tag;
        k_is = ap (λ (u : Unanswered). u.k) taken ∙ k.k;
        boot_is = (a, one_now, refl);
      }

last_more : (completed now : List Unanswered) (tag : Tag) (k boot : ℕ) → WasLast now tag k boot
    → WasLast (completed ++ now) tag k boot
last_more completed now tag k boot h = record {
  statement = h.statement;
  among = Contains-append_right completed now h.statement h.among;
  tag_is = h.tag_is;
  k_is = h.k_is;
  boot_is = h.boot_is;
}

-- What the session's transaction becomes.

-- a transaction goes on with its tag, its place and what it reads at; where it is settled, with this
-- of its shards
record GoesWith (t : Transaction) (parts : List (ℕ × ℕ)) (v : Transaction) : Type 0 where
  tag : v.tag ≡ t.tag
  k : v.k ≡ t.k
  read_at : v.read_at ≡ t.read_at
  parts_are : IsSettled v.phase → v.parts ≡ parts
  asks : IsAsking v.phase → IsAsking t.phase

abbrev GoesDoing : Transaction → List (ℕ × ℕ) → Doing → Type 0
GoesDoing t parts (Begun v) = GoesWith t parts v
GoesDoing t parts (Sought seeking known) = ⊥

over_asks : (p : Phase) → IsOver p → IsAsking p → ⊥
over_asks (Asking asker op answers) o a = o
over_asks Idle o a = a
over_asks (Checking asker) o a = a
over_asks (Deciding asker) o a = a
over_asks Committed o a = a
over_asks Released o a = a
over_asks (Aborted sent) o a = a

left_with : (t v : Transaction) (doing : Doing) → v.tag ≡ t.tag → v.k ≡ t.k
    → v.read_at ≡ t.read_at → LeftDoing v.tag v.k doing → SameDoing (Begun v) doing
    → GoesDoing t v.parts doing
left_with t v (Begun w) tag k at h s = record {
  tag = h.tag_is ∙ tag;
  k = h.k_is ∙ k;
  read_at = s.1 ∙ at;
  parts_are = λ x. s.0;
  asks = λ x. absurd (over_asks w.phase h.over x);
}
left_with t v (Sought seeking known) tag k at h s = absurd h

replies_with : (lsid : Lsid) (number : ℤ) (asker : Asker) (op : Op) (t v : Transaction)
    (r : OpReply) → v.tag ≡ t.tag → v.k ≡ t.k → v.read_at ≡ t.read_at → IsOver v.phase
    → GoesDoing t v.parts (st.replies lsid number asker op v r).session.doing
replies_with lsid number asker op t v r tag k at over =
    let w : Transaction = record v { reply = Some (st.reply_of op r None) } in
    either (is_own lsid && not (st.is_cut r))
    (λ (d : Deed). GoesDoing t v.parts d.session.doing)
    (co.commits lsid number (Some asker) w) _
    (left_with t w (co.commits lsid number (Some asker) w).session.doing tag k at
    (commits_left lsid number (Some asker) w) (commits_same lsid number (Some asker) w))
    (record {
      tag = tag;
      k = k;
      read_at = at;
      parts_are = λ x. refl;
      asks = λ x. absurd (over_asks v.phase over x);
    })

-- the transaction behind the Answer is chained
goes_chained : (completed : List Unanswered) (times : Times) (lsid : Lsid) (t : Transaction)
    (parts : List (ℕ × ℕ)) (doing : Doing) → TxnChains completed times lsid t
    → KnownBoot completed t.tag t.k (boot_of parts 0)
    → GoesDoing t parts doing → DoingChains completed times lsid doing
goes_chained completed times lsid t parts (Sought seeking known) h told g = absurd g
goes_chained completed times lsid t parts (Begun v) h told g = record {
  boot = λ s.
      subst (λ (tag : Tag). KnownBoot completed tag v.k (boot_of v.parts 0)) (sym g.tag)
      (subst (λ (k : ℕ). KnownBoot completed t.tag k (boot_of v.parts 0)) (sym g.k)
      (subst (λ (ps : List (ℕ × ℕ)). KnownBoot completed t.tag t.k (boot_of ps 0))
      (sym (g.parts_are s)) told));
  named = subst (λ (tag : Tag). Contains times (tag, v.read_at)) (sym g.tag)
      (subst (λ (at : ℕ). Contains times (t.tag, at)) (sym g.read_at) h.named);
  left = λ z. h.left (sym g.read_at ∙ z);
  up = λ s. subst (λ (k : ℕ). 0 < k) (sym g.k) (h.up (g.asks s));
}

-- one that isn't settled behind it
unsettled : (completed : List Unanswered) (times : Times) (lsid : Lsid) (t v : Transaction)
    → TxnChains completed times lsid t → v.tag ≡ t.tag → v.k ≡ t.k → v.read_at ≡ t.read_at
    → (IsSettled v.phase → ⊥) → (IsAsking v.phase → IsAsking t.phase)
    → TxnChains completed times lsid v
unsettled completed times lsid t v h tag k at not_settled asks = record {
  boot = λ s. absurd (not_settled s);
  named = subst (λ (g : Tag). Contains times (g, v.read_at)) (sym tag)
      (subst (λ (m : ℕ). Contains times (t.tag, m)) (sym at) h.named);
  left = λ z. h.left (sym at ∙ z);
  up = λ s. subst (λ (m : ℕ). 0 < m) (sym k) (h.up (asks s));
}

taken_case : (n : ℕ) (a : Answer) (begun us : List Unanswered) (told : List Answered)
    (completed : List Unanswered) (times : Times) (lsid : Lsid) (number : ℤ) (t : Transaction)
    (asker : Asker) (op : Op) (answers : List (ℕ × Answer))
    → t.phase ≡ Asking asker op answers
    → Asked n begun us told t asker op answers → takes a t ≡ true → a.shard ≡ 0 → All IsSingle us
    → TxnChains (completed ++ completed_among (map (with_answer n a) us)) times lsid t
    → (w : List Post) → without a.shard t.waiting ≡ w → (o : Option (ℕ × Cause))
    → st.winning (filter_map st.cause_in (put nat_cmp a.shard a answers)) ≡ o
    → DoingChains (completed ++ completed_among (map (with_answer n a) us)) times lsid
    (st.taken_by lsid number asker op (put nat_cmp a.shard a answers)
    (st.with_answer asker op answers a t) w).session.doing
taken_case n a begun us told completed times lsid number t asker op answers phase k so zero single h
    (post ∷ posts) is o wins =
    unsettled (completed ++ completed_among (map (with_answer n a) us)) times lsid t
    (st.with_answer asker op answers a t) h refl refl refl (λ s. s)
    (λ s. subst IsAsking (sym phase) tt)
taken_case n a begun us told completed times lsid number t asker op answers phase k so zero single h
    [] is (Some refusal) wins =
    rw wins (unsettled (completed ++ completed_among (map (with_answer n a) us)) times lsid t
    (ended (Aborted false) (st.with_answer asker op answers a t)) h refl refl refl (λ s. s)
    (λ s. absurd s))
taken_case n a begun us told completed times lsid number t asker op answers phase k so zero single h
    [] is None wins =
    let now = completed_among (map (with_answer n a) us) in
    let v = st.answered_by (put nat_cmp a.shard a answers) (st.with_answer asker op answers a t) in
    let reply = merge op (filter_map st.reply_in (put nat_cmp a.shard a answers)) in
    let boot : boot_of (put nat_cmp a.shard a.boot t.parts) 0 ≡ a.boot =
    ap (λ (s : ℕ). boot_of (put nat_cmp s a.boot t.parts) 0) zero ∙ told_boot a.boot t.parts in
    let last = was_last n a begun us told t asker op answers k so zero single is wins in
    let known : KnownBoot (completed ++ now) t.tag t.k
    (boot_of (put nat_cmp a.shard a.boot t.parts) 0) =
    subst (KnownBoot (completed ++ now) t.tag t.k) (sym boot)
    (inr (h.up (subst IsAsking (sym phase) tt), last_more completed now t.tag t.k a.boot last)) in
    rw wins (goes_chained (completed ++ now) times lsid t v.parts
    (st.replies lsid number asker op v reply).session.doing h known
    (replies_with lsid number asker op t v reply refl refl refl tt))

asked_case : (n : ℕ) (a : Answer) (begun us : List Unanswered) (told : List Answered)
    (completed : List Unanswered) (times : Times) (lsid : Lsid) (number : ℤ) (t : Transaction)
    (asker : Asker) (op : Op) (answers : List (ℕ × Answer))
    → t.phase ≡ Asking asker op answers
    → IsAsked n begun us told t asker op answers → takes a t ≡ true → a.shard ≡ 0
    → All IsSingle us
    → TxnChains (completed ++ completed_among (map (with_answer n a) us)) times lsid t
    → DoingChains (completed ++ completed_among (map (with_answer n a) us)) times lsid
    (st.taken lsid number a asker op answers t).session.doing
asked_case n a begun us told completed times lsid number t asker op answers phase (inl none) so zero
    single h =
    let waits = (both_true (same_tag t.tag a.tag && nat_eq a.k t.k) (is_waited a.shard t.waiting)
    so).1 in
    let no : false ≡ true = ap (is_waited a.shard) (sym none.0) ∙ waits in
    absurd (grind (arith, no))
asked_case n a begun us told completed times lsid number t asker op answers phase (inr k) so zero
    single h =
    taken_case n a begun us told completed times lsid number t asker op answers phase k so zero
    single h (without a.shard t.waiting) refl (st.winning (filter_map st.cause_in
    (put nat_cmp a.shard a answers))) refl

answer_phase : (n : ℕ) (a : Answer) (begun us : List Unanswered) (told : List Answered)
    (completed : List Unanswered) (times : Times) (lsid : Lsid) (number : ℤ) (t : Transaction)
    (p : Phase) → takes a (record t { phase = p }) ≡ true → a.shard ≡ 0 → All IsSingle us
    → TxnStands n begun us told (record t { phase = p })
    → TxnChains (completed ++ completed_among (map (with_answer n a) us)) times lsid
    (record t { phase = p })
    → DoingChains (completed ++ completed_among (map (with_answer n a) us)) times lsid
    (st.answer_to lsid number a (record t { phase = p })).session.doing
answer_phase n a begun us told completed times lsid number t (Asking asker op answers) so zero
    single k h =
    asked_case n a begun us told completed times lsid number
    (record t { phase = Asking asker op answers }) asker op answers refl k.phase so zero single h
answer_phase n a begun us told completed times lsid number t Idle so zero single k h = h
answer_phase n a begun us told completed times lsid number t (Checking asker) so zero single k h = h
answer_phase n a begun us told completed times lsid number t (Deciding asker) so zero single k h = h
answer_phase n a begun us told completed times lsid number t Committed so zero single k h = h
answer_phase n a begun us told completed times lsid number t Released so zero single k h = h
answer_phase n a begun us told completed times lsid number t (Aborted sent) so zero single k h = h

answer_case : (n : ℕ) (a : Answer) (begun us : List Unanswered) (told : List Answered)
    (completed : List Unanswered) (times : Times) (lsid : Lsid) (number : ℤ) (t : Transaction)
    (test : Bool) → takes a t ≡ test → a.shard ≡ 0 → All IsSingle us
    → TxnStands n begun us told t
    → TxnChains (completed ++ completed_among (map (with_answer n a) us)) times lsid t
    → DoingChains (completed ++ completed_among (map (with_answer n a) us)) times lsid
    (st.on_answer lsid number a t).session.doing
answer_case n a begun us told completed times lsid number t true is zero single k h =
    rw is (answer_phase n a begun us told completed times lsid number t t.phase is zero single k h)
answer_case n a begun us told completed times lsid number t false is zero single k h = rw is h

session_case : (n : ℕ) (a : Answer) (begun us : List Unanswered) (told : List Answered)
    (completed : List Unanswered) (times : Times) (r : RouterState) (lsid : Lsid) (number : ℤ)
    (doing : Doing) → a.shard ≡ 0 → All IsSingle us → DoingStands n r begun us told doing
    → DoingChains (completed ++ completed_among (map (with_answer n a) us)) times lsid doing
    → DoingChains (completed ++ completed_among (map (with_answer n a) us)) times lsid
    (answered_in a lsid (record { number = number; doing = doing })).session.doing
session_case n a begun us told completed times r lsid number (Begun t) zero single k h =
    answer_case n a begun us told completed times lsid number t (takes a t) refl zero single k.1 h
session_case n a begun us told completed times r lsid number (Sought seeking known) zero single k
    h = tt

pub answered_chain : (n : ℕ) (a : Answer) (begun us : List Unanswered) (told : List Answered)
    (completed : List Unanswered) (times : Times) (r q : RouterState) → a.shard ≡ 0
    → All IsSingle us → ((lsid : Lsid) (s : Session) → session_of q lsid ≡ Some s
    → DoingStands n r begun us told s.doing)
    → SessionsChain (completed ++ completed_among (map (with_answer n a) us)) times q
    → SessionsChain (completed ++ completed_among (map (with_answer n a) us)) times
    (in_each_session (answered_in a) q).state
answered_chain n a begun us told completed times r q zero single stands h lsid v e =
    let f = each_from (answered_in a) q lsid v e in
    subst (λ (w : Session). DoingChains (completed ++ completed_among (map (with_answer n a) us))
    times lsid w.doing) (sym f.2)
    (session_case n a begun us told completed times r lsid f.0.number f.0.doing zero single
    (stands lsid f.0 f.1) (h lsid f.0 f.1))
