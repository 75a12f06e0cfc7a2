-- What a shard served and what its routers were answered, side by side: each answer is what its
-- statement means over the commits, under what the answered ones of its transaction wrote before it.
use Rattle.std.proofs.Common.{◌≡◌, ◌⊎◌, inl, inr, ◌+◌, ◌<◌, ℕ, zero, suc, Bool, true, false, All, List, nat_eq}
use Rattle.std.proofs.Common.{[], ◌∷◌, ◌++◌, map, filter_map, Some, Result, Ok, Err}
use Rattle.std.proofs.Common.{refl, sym, ap, ap₂, subst, ◌∙◌, arith, if◌then◌else◌}
use Rattle.std.specs.Prelude.{Contains, IsOk}
use Rattle.std.proofs.lemmas.List.Elements.{All-contains}
use Rattle.txn_types.specs.Order.{same_tag}
use Rattle.txn_types.specs.declared.message.Answer.{Answer}
use Rattle.txn_types.specs.declared.message.Statement.{Statement}
use Rattle.txn_types.specs.declared.names.Tag.{Tag}
use Rattle.txn_types.specs.declared.operation.Op.{Op}
use Rattle.txn_types.specs.declared.operation.OpErr.{OpErr}
use Rattle.txn_types.specs.declared.operation.OpReply.{OpReply}
use Rattle.txn_types.specs.declared.write.Write.{Write}
use Rattle.txn_semantics.specs.declared.commits.Entry.{Entry}
use Rattle.txn_semantics.specs.declared.commits.Answered.{Answered}
use Rattle.txn_semantics.specs.Answers.{means, own_writes, before, ReadsRight, RefusedRight}
use Rattle.txn_semantics.specs.Effect.{AreKnown}
use Rattle.txn_semantics.specs.Meaning.{Meaning, eval, reply_of, writes_of, ns_of, document_rules}
use Rattle.txn_semantics.specs.Rows.{Row, IsRising, under}
use Rattle.txn_semantics.specs.Splits.{outcome}
use Rattle.txn_semantics.specs.View.{view}
use Rattle.txn_semantics.proofs.Viewing.{view_rises, under_rises}
use Rattle.part_laws.specs.Each.{Each, Among}
use Rattle.part_laws.specs.Now.{AreRight}
use Rattle.part_laws.specs.Sound.{Served, is_of_life, written, IsKnown, EntryRight}
use Rattle.part_laws.specs.Turned.{IsOf}
use Rattle.part_laws.proofs.Known.{known_under, known_view, each_append}
use Rattle.part_laws.proofs.Untouched.{writes_known}
use Rattle.participant.proofs.Tags.{tag_same}
use Rattle.cluster_core.specs.Answering.{Unanswered, answered_of, meaning_in, read_at_of}
use Rattle.answer_laws.specs.Comes.{as_opened}
use Rattle.answer_laws.proofs.Lists.{nat_is, both_true}
use Rattle.told_laws.specs.Places.{Rises, IsLater, HasReply}
use Rattle.told_laws.proofs.Lists.{InOrder, contained, has_map, map_has, order_two}
use Rattle.told_laws.proofs.OneShard.{one_merges}
use Rattle.chain_laws.specs.Chained.{HasBoot, IsLeftAlone}
use Rattle.chain_laws.proofs.Owning.{ComesAfter, Rising, HasAnswer, IsServed, each_last, each_among}
use Rattle.chain_laws.proofs.Owning.{own_is, means_same}

-- Each statement that was served was sent. The first of its transaction in a boot of the shard names
-- no boot, and was read at the time that it names, if it names one; a later one names the boot.

abbrev pub NoneOf : Tag → ℕ → List Served → Type 0
NoneOf tag life before = Each (λ y. y.tag ≡ tag → y.life ≡ life → ⊥) before

abbrev pub Began : Statement → List Served → Served → Type 0
Began m before x = (m.boot ≡ 0) × ((m.read_at ≡ 0) ⊎ (x.read_at ≡ m.read_at))
    × NoneOf x.tag x.life before

abbrev pub WentOn : Statement → Served → Type 0
WentOn m x = (0 < m.boot) × (m.boot ≡ x.life)

abbrev pub AskedBy : (Statement → Type 0) → List Served → Served → Type 0
AskedBy M before x = (m : Statement) × M m × IsOf m x × (Began m before x ⊎ WentOn m x)

abbrev pub AllAskedBy : (Statement → Type 0) → List Served → Type 0
AllAskedBy M [] = Unit {0}
AllAskedBy M (x ∷ served) = AskedBy M served x × AllAskedBy M served

-- what the one Answer to a statement tells of a served statement of its transaction, in the boot
-- that it names: its reply, or the refusal of it or another one
abbrev pub Says : Served → ℕ → Answer → Type 0
Says x k answer =
    ((x.k ≡ k) × ((r : OpReply) × (meaning_in (0, answer) ≡ Some (Ok (r, [])))
    × (reply_of x.meaning ≡ Ok r)))
    ⊎ ((e : OpErr) × (meaning_in (0, answer) ≡ Some (Err e)) × (x.meaning ≡ Err e))

pub record IsToldOf (served : List Served) (u : Unanswered) : Type 0 where
  pub answer : Answer
  pub answers : u.answers ≡ (0, answer) ∷ []
  pub x : Served
  pub among : Among x served
  pub tag : x.tag ≡ u.tag
  pub life : x.life ≡ answer.boot
  pub read_at : x.read_at ≡ answer.read_at
  pub says : Says x u.k answer

-- what stands of both sides
pub record Links (entries : List Entry) (served : List Served) (completed begun : List Unanswered)
    (M : Statement → Type 0) : Type 0 where
  pub known : Each EntryRight entries
  pub reads : AreRight entries served
  pub rises : Rising served
  pub lives : Each (λ x. 0 < x.life) served
  pub asked : AllAskedBy M served
  pub told : All (IsToldOf served) completed
  pub boots : (m : Statement) → M m → HasBoot completed m
  pub alike : (m n : Statement) → M m → M n → m.tag ≡ n.tag → m.read_at ≡ n.read_at
  pub left : (m : Statement) → M m → IsLeftAlone m
  pub opened : (m : Statement) → M m
      → (u : Unanswered) × Contains begun u × (u.tag ≡ m.tag) × (u.k ≡ m.k)
  pub sent : (u : Unanswered) → Contains begun u
      → (m : Statement) × M m × (m.tag ≡ u.tag) × (m.k ≡ u.k)
  pub ops : (m n : Statement) → M m → M n → m.tag ≡ n.tag → m.k ≡ n.k → m.op ≡ n.op
  pub whole : (u : Unanswered) → Contains completed u → (m : Statement) → M m → m.tag ≡ u.tag
      → m.k ≡ u.k → m.op ≡ u.op
  pub of : (u : Unanswered) → Contains completed u → Contains begun (as_opened u)
  pub behind : (u v : Unanswered) → Contains begun u → Contains begun v → u.tag ≡ v.tag → u.k < v.k
      → HasReply (map answered_of completed) u
  pub later : InOrder IsLater (map answered_of completed)

-- A served statement, with what was served before it.

abbrev eval_at : List Entry → Served → List Write → Meaning
eval_at entries x own = eval x.op (under (ns_of x.op) (view entries x.read_at (ns_of x.op)) own)

pub record Stood (entries : List Entry) (M : Statement → Type 0) (served : List Served)
    (x : Served) : Type 0 where
  pub before : List Served
  pub right : x.meaning ≡ eval_at entries x (written x.tag x.life before)
  pub asked : AskedBy M before x
  pub reads : AreRight entries before
  pub after : Each (ComesAfter x) before
  pub rises : Rising before
  pub sub : (y : Served) → Among y before → Among y served
  pub earlier : (y : Served) → Among y served → y.tag ≡ x.tag → y.life ≡ x.life → y.k < x.k
      → Among y before

pub stood : (entries : List Entry) (M : Statement → Type 0) (served : List Served) (x : Served)
    → AreRight entries served → AllAskedBy M served → Rising served → Among x served
    → Stood entries M served x
stood entries M [] x r a s h = absurd h
stood entries M (z ∷ served) x r a s (inl e) =
    subst (Stood entries M (z ∷ served)) (sym e) (record {
      before = served;
      right = r.0;
      asked = a.0;
      reads = r.1;
      after = s.0;
      rises = s.1;
      sub = λ y h. inr h;
      earlier = λ y h t l less. not_it y h less;
    })
  where
    not_it : (y : Served) → Among y (z ∷ served) → y.k < z.k → Among y served
    not_it y (inl e) less = let same : y.k ≡ z.k = ap (λ (s : Served). s.k) e in
        absurd (omega (arith, less, same))
    not_it y (inr h) less = h
stood entries M (z ∷ served) x r a s (inr h) =
    let k = stood entries M served x r.1 a.1 s.1 h in
    record {
      before = k.before;
      right = k.right;
      asked = k.asked;
      reads = k.reads;
      after = k.after;
      rises = k.rises;
      sub = λ y i. inr (k.sub y i);
      earlier = λ y i t l less. k.earlier y (there y i t l less) t l less;
    }
  where
    there : (y : Served) → Among y (z ∷ served) → y.tag ≡ x.tag → y.life ≡ x.life → y.k < x.k
        → Among y served
    there y (inl e) t l less =
        let up = (each_last (ComesAfter z) served x s.0 h (sym t ∙ ap (λ (s : Served). s.tag) e)
        (sym l ∙ ap (λ (s : Served). s.life) e)).0 in
        let same : y.k ≡ z.k = ap (λ (s : Served). s.k) e in
        absurd (omega (arith, less, up, same))
    there y (inr i) t l less = i

-- two of one transaction, boot and place are one
one_of : (served : List Served) (x y : Served) → Rising served → Among x served → Among y served
    → x.tag ≡ y.tag → x.life ≡ y.life → x.k ≡ y.k → x ≡ y
one_of [] x y s h i t l k = absurd h
one_of (z ∷ served) x y s (inl e) (inl f) t l k = e ∙ sym f
one_of (z ∷ served) x y s (inl e) (inr i) t l k =
    let up = (each_last (ComesAfter z) served y s.0 i (sym t ∙ ap (λ (s : Served). s.tag) e)
    (sym l ∙ ap (λ (s : Served). s.life) e)).0 in
    let same : x.k ≡ z.k = ap (λ (s : Served). s.k) e in
    absurd (omega (arith, k, up, same))
one_of (z ∷ served) x y s (inr h) (inl f) t l k =
    let up = (each_last (ComesAfter z) served x s.0 h (t ∙ ap (λ (s : Served). s.tag) f)
    (l ∙ ap (λ (s : Served). s.life) f)).0 in
    let same : y.k ≡ z.k = ap (λ (s : Served). s.k) f in
    absurd (omega (arith, k, up, same))
one_of (z ∷ served) x y s (inr h) (inr i) t l k = one_of served x y s.1 h i t l k

none_written : (tag : Tag) (life : ℕ) (served : List Served) → NoneOf tag life served
    → written tag life served ≡ []
none_written tag life [] h = refl
none_written tag life (y ∷ served) h =
    by (none_written tag life served h.1) (is_of_life tag life y) refl
  where
    by : written tag life served ≡ [] → (test : Bool) → is_of_life tag life y ≡ test → written tag life (y ∷ served) ≡ []
    by more true is =
        let both = both_true (same_tag y.tag tag) (nat_eq y.life life) is in
        absurd (h.0 (tag_same y.tag tag both.0) (nat_is y.life life both.1))
    by more false is =
        ap (λ (b : Bool). written tag life served ++ (if b then writes_of y.meaning else [])) is
        ∙ ap (λ (ws : List Write). ws ++ []) more

-- What was written is known by its ids.

written_known : (entries : List Entry) (tag : Tag) (life : ℕ) (served : List Served)
    → Each EntryRight entries → AreRight entries served
    → Each IsKnown (written tag life served)
written_known entries tag life [] known right = tt
written_known entries tag life (y ∷ served) known right =
    let meant : Each IsKnown (writes_of y.meaning) =
    subst (λ (m : Meaning). Each IsKnown (writes_of m)) (sym right.0)
    (writes_known y.op _ (known_under (ns_of y.op) _ (written y.tag y.life served)
    (written_known entries y.tag y.life served known right.1)
    (known_view entries y.read_at (ns_of y.op) known))) in
    each_append IsKnown (written tag life served) _
    (written_known entries tag life served known right.1) (by meant (is_of_life tag life y))
  where
    by : Each IsKnown (writes_of y.meaning) → (test : Bool)
        → Each IsKnown (if test then writes_of y.meaning else [])
    by meant true = meant
    by meant false = tt

-- what is told of a reply is what it says
reply_told : (op : Op) (m : Meaning) (r : OpReply) → reply_of m ≡ Ok r
    → outcome document_rules op (Ok (r, []) ∷ []) ≡ outcome document_rules op (m ∷ [])
reply_told op (Ok done) r e = ap (λ (s : OpReply). outcome document_rules op (Ok (s, []) ∷ []))
    (sym (ok_is done.0 r e))
  where
    ok_is : (a b : OpReply) → ◌≡◌ {A = Result OpReply OpErr} (Ok a) (Ok b) → a ≡ b
    ok_is a b e = cc
reply_told op (Err x) r e = absurd (none x r e)
  where
    none : (x : OpErr) (r : OpReply) → ◌≡◌ {A = Result OpReply OpErr} (Err x) (Ok r) → ⊥
    none x r e = cc

no_reply : (m : Meaning) (r : OpReply) (e : OpErr) → m ≡ Err e → reply_of m ≡ Ok r → ⊥
no_reply m r e is told = none e r (sym (ap reply_of is) ∙ told)
  where
    none : (x : OpErr) (r : OpReply) → ◌≡◌ {A = Result OpReply OpErr} (Err x) (Ok r) → ⊥
    none x r e = cc

err_not : (o : Result OpReply OpErr) (x : OpErr) → o ≡ Err x → IsOk o → ⊥
err_not (Ok r) x e k = none r x e
  where
    none : (r : OpReply) (x : OpErr) → ◌≡◌ {A = Result OpReply OpErr} (Ok r) (Err x) → ⊥
    none r x e = cc
err_not (Err y) x e k = grind (arith, k)

one_meaning : (answer : Answer) (m : Meaning) → meaning_in (0, answer) ≡ Some m
    → filter_map meaning_in ((0, answer) ∷ []) ≡ m ∷ []
one_meaning answer m e = rw e refl

refused_is : (m : Meaning) (e : OpErr) → reply_of m ≡ Err e → m ≡ Err e
refused_is (Ok done) e is = absurd (none done.0 e is)
  where
    none : (r : OpReply) (x : OpErr) → ◌≡◌ {A = Result OpReply OpErr} (Ok r) (Err x) → ⊥
    none r x e = cc
refused_is (Err x) e is = ap (λ (y : OpErr). Err y) (err_is x e is)
  where
    err_is : (a b : OpErr) → ◌≡◌ {A = Result OpReply OpErr} (Err a) (Err b) → a ≡ b
    err_is a b e = cc

module _ (entries : List Entry) (served : List Served) (completed begun : List Unanswered)
    (M : Statement → Type 0) (h : Links entries served completed begun M) where
  told_of : (u : Unanswered) → Contains completed u → IsToldOf served u
  told_of u c = All-contains (IsToldOf served) completed u h.told c

  at : (x : Served) → Among x served → Stood entries M served x
  at x a = stood entries M served x h.reads h.asked h.rises a

  -- of one transaction and place one statement is completed
  order : InOrder Rises completed
  order = unmapped completed h.later
    where
      unmapped : (us : List Unanswered) → InOrder IsLater (map answered_of us) → InOrder Rises us
      unmapped [] k = tt
      unmapped (u ∷ us) k = (
        contained (Rises u) us (λ v c.
            All-contains (IsLater (answered_of u)) (map answered_of us) (answered_of v) k.0
            (has_map answered_of us v c)),
        unmapped us k.1,
      )

  once : (u v : Unanswered) → Contains completed u → Contains completed v → u.tag ≡ v.tag
      → u.k ≡ v.k → u ≡ v
  once u v p q tag k =
      elim (order_two Rises completed u v order p q) [
        | inl e ↦ e
        | inr w ↦
            elim w [
              | inl less ↦ let l : u.k < v.k = less tag in absurd (omega (arith, l, k))
              | inr less ↦ let l : v.k < u.k = less (sym tag) in absurd (omega (arith, l, k))
            ]
      ]

  -- a completed one with a reply
  record Replied (tag : Tag) (k : ℕ) : Type 0 where
    u : Unanswered
    among : Contains completed u
    tag_is : u.tag ≡ tag
    k_is : u.k ≡ k
    ok : IsOk (answered_of u).outcome

  replied : (u v : Unanswered) → Contains begun u → Contains begun v → u.tag ≡ v.tag → u.k < v.k
      → Replied u.tag u.k
  replied u v p q tag less =
      let r = h.behind u v p q tag less in
      let m = map_has answered_of completed r.answer r.among in
      record {
        u = m.0;
        among = m.1;
        tag_is = ap (λ (a : Answered). a.tag) (sym m.2) ∙ r.tag;
        k_is = ap (λ (a : Answered). a.k) (sym m.2) ∙ r.k;
        ok = subst (λ (a : Answered). IsOk a.outcome) m.2 r.replied;
      }

  outcome_is : (u : Unanswered) (t : IsToldOf served u) (m : Meaning)
      → meaning_in (0, t.answer) ≡ Some m
      → (answered_of u).outcome ≡ outcome document_rules u.op (m ∷ [])
  outcome_is u t m e =
      ap (λ (answers : List (ℕ × Answer)). outcome document_rules u.op
      (filter_map meaning_in answers)) t.answers
      ∙ ap (outcome document_rules u.op) (one_meaning t.answer m e)

  -- what was replied was served at its place
  reply_k : (u : Unanswered) → Contains completed u → IsOk (answered_of u).outcome
      → (t : IsToldOf served u)
      → (t.x.k ≡ u.k) × ((r : OpReply) × (reply_of t.x.meaning ≡ Ok r))
  reply_k u c ok t = by t.says
    where
      by : Says t.x u.k t.answer → (t.x.k ≡ u.k) × ((r : OpReply) × (reply_of t.x.meaning ≡ Ok r))
      by (inl s) = (s.0, (s.1.0, s.1.2))
      by (inr s) =
          absurd (err_not (answered_of u).outcome s.0 (outcome_is u t (Err s.0) s.1) ok)

  -- what comes behind another statement of its transaction names the boot in which this was answered
  record Before (u : Unanswered) (x : Served) : Type 0 where
    m : Statement
    sent : M m
    of : IsOf m x
    v : Unanswered
    there : Contains begun v
    v_tag : v.tag ≡ x.tag
    v_k : v.k ≡ x.k

  asked_at : (u : Unanswered) (x : Served) → Among x served → Before u x
  asked_at u x a =
      let s = at x a in
      let o = h.opened s.asked.0 s.asked.1 in
      record {
        m = s.asked.0;
        sent = s.asked.1;
        of = s.asked.2;
        v = o.0;
        there = o.1;
        v_tag = o.2 ∙ sym s.asked.2.0;
        v_k = o.3 ∙ sym s.asked.2.1;
      }

  -- a completed one before it was replied
  ok_before : (u : Unanswered) (x : Served) → Contains completed u → Among x served
      → u.tag ≡ x.tag → u.k < x.k → IsOk (answered_of u).outcome
  ok_before u x c a tag less =
      let b = asked_at u x a in
      let r = replied (as_opened u) b.v (h.of u c) b.there (tag ∙ sym b.v_tag)
      (subst (λ (k : ℕ). u.k < k) (sym b.v_k) less) in
      let same = once r.u u r.among c r.tag_is r.k_is in
      subst (λ (w : Unanswered). IsOk (answered_of w).outcome) same r.ok

  -- the statement named the boot in which it was served, where it follows another
  follow_life : (x : Served) → Among x served → (m : Statement) → M m → IsOf m x → 1 < x.k
      → (b : Unanswered) × Contains completed b × (b.tag ≡ x.tag) × (b.k + 1 ≡ x.k)
      × ((t : IsToldOf served b) → t.answer.boot ≡ x.life)
  follow_life x a m sent of more = found (at x a)
    where
      first_of : {A : Type 0} (y z : ℕ × A) → y ∷ [] ≡ z ∷ [] → y.1 ≡ z.1
      first_of y z e = ap (λ (p : ℕ × _). p.1) (one_is y z e)
        where
          one_is : {A : Type 0} (y z : ℕ × A) → y ∷ [] ≡ z ∷ [] → y ≡ z
          one_is y z e = grind (arith, e)

      found : Stood entries M served x
          → (b : Unanswered) × Contains completed b × (b.tag ≡ x.tag) × (b.k + 1 ≡ x.k)
          × ((t : IsToldOf served b) → t.answer.boot ≡ x.life)
      found s = by (h.boots s.asked.0 s.asked.1)
        where
          n : Statement
          n = s.asked.0

          nk : x.k ≡ n.k
          nk = s.asked.2.1

          by : HasBoot completed n
              → (b : Unanswered) × Contains completed b × (b.tag ≡ x.tag) × (b.k + 1 ≡ x.k)
              × ((t : IsToldOf served b) → t.answer.boot ≡ x.life)
          by (inl w) = absurd (omega (arith, more, nk, w.0))
          by (inr w) = (
            w.1.before,
            w.1.among,
            w.1.tag ∙ sym s.asked.2.0,
            w.1.k ∙ sym nk,
            boot,
          )
            where
              boot : (t : IsToldOf served w.1.before) → t.answer.boot ≡ x.life
              boot t =
                  let same : t.answer ≡ w.1.boot.0 =
                  first_of (0, t.answer) (0, w.1.boot.0) (sym t.answers ∙ w.1.boot.1) in
                  let is : t.answer.boot ≡ n.boot = ap (λ (a : Answer). a.boot) same ∙ w.1.boot.2 in
                  let life : 0 < t.x.life =
                  each_last (λ x. 0 < x.life) served t.x h.lives t.among in
                  let up : 0 < n.boot = subst (λ (k : ℕ). 0 < k) (t.life ∙ is) life in
                  is ∙ named up s.asked.3
                where
                  named : 0 < n.boot → Began n s.before x ⊎ WentOn n x → n.boot ≡ x.life
                  named up (inl k) = absurd (omega (arith, up, k.0))
                  named up (inr k) = k.1

  -- the places of statements begin at one
  place_up : (x : Served) → Among x served → 0 < x.k
  place_up x a =
      let s = at x a in
      let nk : x.k ≡ s.asked.0.k = s.asked.2.1 in
      elim (h.boots s.asked.0 s.asked.1) [
        | inl w ↦ let one : s.asked.0.k ≡ 1 = w.0 in omega (arith, nk, one)
        | inr w ↦ let more : 1 < s.asked.0.k = w.0 in omega (arith, nk, more)
      ]

  -- what was completed before a served statement of its transaction was served in its boot

  abbrev Named : Served → Type 0
  Named x = (b : Unanswered) × Contains completed b × (b.tag ≡ x.tag) × (b.k + 1 ≡ x.k)
      × ((t : IsToldOf served b) → t.answer.boot ≡ x.life)

  named_before : (x : Served) → Among x served → (u : Unanswered) → Contains completed u
      → u.tag ≡ x.tag → u.k < x.k → IsToldOf served u → Named x
  named_before x a u c tag less t =
      let ok = reply_k u c (ok_before u x c a tag less) t in
      let up : 0 < t.x.k = place_up t.x t.among in
      let one : t.x.k ≡ u.k = ok.0 in
      let b = asked_at u x a in
      follow_life x a b.m b.sent b.of (omega (arith, up, one, less))

  same_life : (n : ℕ) (x : Served) → Among x served → (u : Unanswered) → Contains completed u
      → u.tag ≡ x.tag → x.k ≡ u.k + suc n → (t : IsToldOf served u) → t.answer.boot ≡ x.life
  same_life zero x a u c tag k t =
      let f = named_before x a u c tag (omega (arith, k)) t in
      let bk : f.0.k + 1 ≡ x.k = f.3 in
      let same : u ≡ f.0 = once u f.0 c f.1 (tag ∙ sym f.2) (omega (arith, k, bk)) in
      (subst (λ (w : Unanswered). (s : IsToldOf served w) → s.answer.boot ≡ x.life) (sym same)
      f.4) t
  same_life (suc j) x a u c tag k t =
      let f = named_before x a u c tag (omega (arith, k)) t in
      let bk : f.0.k + 1 ≡ x.k = f.3 in
      let s = told_of f.0 f.1 in
      let ok = reply_k f.0 f.1 (ok_before f.0 x f.1 a f.2 (omega (arith, bk))) s in
      let sk : s.x.k ≡ f.0.k = ok.0 in
      same_life j s.x s.among u c (tag ∙ sym f.2 ∙ sym s.tag) (omega (arith, k, bk, sk)) t
      ∙ s.life ∙ f.4 s

  before_life : (x : Served) → Among x served → (u : Unanswered) → Contains completed u
      → u.tag ≡ x.tag → u.k < x.k → (t : IsToldOf served u)
      → (t.x.k ≡ u.k) × (t.x.life ≡ x.life)
  before_life x a u c tag less t =
      let ok = reply_k u c (ok_before u x c a tag less) t in
      let d = gap u.k x.k less in
      (ok.0, t.life ∙ same_life d.0 x a u c tag d.1 t)
    where
      gap : (a b : ℕ) → a < b → (n : ℕ) × (b ≡ a + suc n)
      gap zero zero h = absurd (omega (arith, h))
      gap zero (suc b) h = (b, omega arith)
      gap (suc a) zero h = absurd (omega (arith, h))
      gap (suc a) (suc b) h =
          let less : a < b = omega (arith, h) in
          let g = gap a b less in
          (g.0, let e : b ≡ a + suc g.0 = g.1 in omega (arith, e))

  -- a refusal is that of the statement itself

  refused_k : (u : Unanswered) → Contains completed u → (t : IsToldOf served u) → (e : OpErr)
      → meaning_in (0, t.answer) ≡ Some (Err e) → t.x.meaning ≡ Err e → t.x.k ≡ u.k
  refused_k u c t e says meant = compare (order_of t.x.k u.k)
    where
      order_of : (a b : ℕ) → (a < b) ⊎ ((a ≡ b) ⊎ (b < a))
      order_of zero zero = inr (inl refl)
      order_of zero (suc b) = inl (omega arith)
      order_of (suc a) zero = inr (inr (omega arith))
      order_of (suc a) (suc b) =
          elim (order_of a b) [
            | inl l ↦ inl (omega (arith, l))
            | inr w ↦
                elim w [
                  | inl e ↦ inr (inl (ap suc e))
                  | inr l ↦ inr (inr (omega (arith, l)))
                ]
          ]

      -- it would have been replied
      later_not : u.k < t.x.k → ⊥
      later_not less =
          err_not (answered_of u).outcome e (outcome_is u t (Err e) says)
          (ok_before u t.x c t.among (sym t.tag) less)

      -- the other one was replied, in the same boot, or read the same
      earlier_not : t.x.k < u.k → ⊥
      earlier_not less =
          let x = t.x in
          let b = asked_at u x t.among in
          let r = replied b.v (as_opened u) b.there (h.of u c) (b.v_tag ∙ t.tag)
          (subst (λ (k : ℕ). k < u.k) (sym b.v_k) less) in
          let w = told_of r.u r.among in
          let ok = reply_k r.u r.among r.ok w in
          let wk : w.x.k ≡ x.k = ok.0 ∙ r.k_is ∙ b.v_k in
          let wt : w.x.tag ≡ x.tag = w.tag ∙ r.tag_is ∙ b.v_tag in
          split w.x w.among wk wt ok.1.0 ok.1.1 (place_up x t.among) (order_of x.k 1)
        where
          split : (y : Served) → Among y served → y.k ≡ t.x.k → y.tag ≡ t.x.tag → (r : OpReply)
              → reply_of y.meaning ≡ Ok r → 0 < t.x.k
              → (t.x.k < 1) ⊎ ((t.x.k ≡ 1) ⊎ (1 < t.x.k)) → ⊥
          split y a yk yt r ok up (inl l) = absurd (omega (arith, up, l))
          split y a yk yt r ok up (inr (inl one)) = first y a yk yt r ok one
            where
              first : (y : Served) → Among y served → y.k ≡ t.x.k → y.tag ≡ t.x.tag
                  → (r : OpReply) → reply_of y.meaning ≡ Ok r → t.x.k ≡ 1 → ⊥
              first y a yk yt r ok one =
                  let sx = at t.x t.among in
                  let sy = at y a in
                  let m = sx.asked.0 in
                  let n = sy.asked.0 in
                  let mk : t.x.k ≡ m.k = sx.asked.2.1 in
                  let nk : y.k ≡ n.k = sy.asked.2.1 in
                  let mt : t.x.tag ≡ m.tag = sx.asked.2.0 in
                  let nt : y.tag ≡ n.tag = sy.asked.2.0 in
                  let tags : m.tag ≡ n.tag = sym mt ∙ sym yt ∙ nt in
                  let o = h.sent (as_opened u) (h.of u c) in
                  let ok2 : o.0.k ≡ u.k = o.3 in
                  let alike : m.read_at ≡ o.0.read_at = h.alike m o.0 sx.asked.1 o.1
                  (sym mt ∙ t.tag ∙ sym o.2) in
                  let named = λ (z : m.read_at ≡ 0).
                  (let k1 : o.0.k ≡ 1 = h.left o.0 o.1 (sym alike ∙ z) in
                  absurd (omega (arith, less, one, k1, ok2))) in
                  let ox : t.x.op ≡ y.op = sx.asked.2.2 ∙ h.ops m n sx.asked.1 sy.asked.1 tags
                  (sym mk ∙ sym yk ∙ nk) ∙ sym sy.asked.2.2 in
                  let mn : m.read_at ≡ n.read_at = h.alike m n sx.asked.1 sy.asked.1 tags in
                  let bx = begun_so t.x m sx.before sx.asked.1 (sym mk ∙ one) sx.asked.3
                  (λ z. named z) in
                  let by = begun_so y n sy.before sy.asked.1 (sym nk ∙ yk ∙ one) sy.asked.3
                  (λ z. named (mn ∙ z)) in
                  let at_x : t.x.read_at ≡ y.read_at = bx.0 ∙ mn ∙ sym by.0 in
                  let px : t.x.meaning ≡ eval_at entries t.x [] =
                  sx.right ∙ ap (eval_at entries t.x) (none_written t.x.tag t.x.life sx.before
                  bx.1) in
                  let py : y.meaning ≡ eval_at entries y [] =
                  sy.right ∙ ap (eval_at entries y) (none_written y.tag y.life sy.before by.1) in
                  let both : t.x.meaning ≡ y.meaning =
                  px ∙ ap₂ (λ (o : Op) (at : ℕ). eval o (under (ns_of o) (view entries at
                  (ns_of o)) [])) ox at_x ∙ sym py in
                  no_reply y.meaning r e (sym both ∙ meant) ok
                where
                  begun_so : (x : Served) (m : Statement) (older : List Served) → M m → m.k ≡ 1
                      → Began m older x ⊎ WentOn m x → (m.read_at ≡ 0 → ⊥)
                      → (x.read_at ≡ m.read_at) × NoneOf x.tag x.life older
                  begun_so x m older s k (inl b) apart =
                      (elim (b.1) [ inl z ↦ absurd (apart z) | inr e ↦ e ], b.2)
                  begun_so x m older s k (inr b) apart =
                      elim (h.boots m s) [
                        | inl w ↦ let z : m.boot ≡ 0 = w.1 in
                            let up : 0 < m.boot = b.0 in absurd (omega (arith, z, up))
                        | inr w ↦ let up : 1 < m.k = w.0 in absurd (omega (arith, k, up))
                      ]
          split y a yk yt r ok up (inr (inr more)) =
              let b = asked_at u t.x t.among in
              let f = follow_life t.x t.among b.m b.sent b.of more in
              let s = told_of f.0 f.1 in
              let bk : f.0.k + 1 ≡ t.x.k = f.3 in
              let l1 = before_life t.x t.among f.0 f.1 f.2 (omega (arith, bk)) s in
              let l2 = before_life y a f.0 f.1 (f.2 ∙ sym yt) (omega (arith, bk, yk)) s in
              let same : y ≡ t.x = one_of served y t.x h.rises a t.among yt
              (sym l2.1 ∙ l1.1) yk in
              no_reply y.meaning r e (ap (λ (z : Served). z.meaning) same ∙ meant) ok

      compare : (t.x.k < u.k) ⊎ ((t.x.k ≡ u.k) ⊎ (u.k < t.x.k)) → t.x.k ≡ u.k
      compare (inl l) = absurd (earlier_not l)
      compare (inr (inl e)) = e
      compare (inr (inr l)) = absurd (later_not l)

  said_k : (u : Unanswered) → Contains completed u → (t : IsToldOf served u) → t.x.k ≡ u.k
  said_k u c t =
      elim (t.says) [ inl s ↦ s.0 | inr s ↦ refused_k u c t s.0 s.1 s.2 ]

  -- The answer.

  abbrev answered : List Answered
  answered = map answered_of completed

  own_right : (u : Unanswered) → Contains completed u → (t : IsToldOf served u)
      → (s : Stood entries M served t.x)
      → own_writes entries [] (before (answered_of u) answered)
      ≡ written t.x.tag t.x.life s.before
  own_right u c t s =
      let k = said_k u c t in
      subst (λ (tag : Tag). own_writes entries [] (before (answered_of u) answered)
      ≡ written tag t.x.life s.before) (sym t.tag)
      (own_is entries answered u.tag t.x.life h.later s.before u.k s.reads s.rises
      (each_among (λ y. y.tag ≡ u.tag → y.life ≡ t.x.life → (y.k < u.k) × HasAnswer answered y)
      s.before (λ y a tag life. earlier_one y (s.sub y a)
      (each_last (ComesAfter t.x) s.before y s.after a (tag ∙ sym t.tag) life).0 k tag life))
      (λ a there tag less. served_one a (map_has answered_of completed a there) k tag less))
    where
      earlier_one : (y : Served) → Among y served → y.k < t.x.k → t.x.k ≡ u.k → y.tag ≡ u.tag
          → y.life ≡ t.x.life → (y.k < u.k) × HasAnswer answered y
      earlier_one y a less k tag life =
          let b = asked_at u y a in
          let low : y.k < u.k = subst (λ (n : ℕ). y.k < n) k less in
          let r = replied b.v (as_opened u) b.there (h.of u c) (b.v_tag ∙ tag)
          (subst (λ (n : ℕ). n < u.k) (sym b.v_k) low) in
          let w = told_of r.u r.among in
          let rk : r.u.k ≡ y.k = r.k_is ∙ b.v_k in
          let rt : r.u.tag ≡ y.tag = r.tag_is ∙ b.v_tag in
          let l = before_life t.x t.among r.u r.among (rt ∙ tag ∙ sym t.tag)
          (subst (λ (n : ℕ). n < t.x.k) (sym rk) less) w in
          let same : w.x ≡ y = one_of served w.x y h.rises w.among a (w.tag ∙ rt)
          (l.1 ∙ sym life) (l.0 ∙ rk) in (
            low,
            record {
              answer = answered_of r.u;
              among = has_map answered_of completed r.u r.among;
              tag = rt;
              k = rk;
              op = sym (h.whole r.u r.among b.m b.sent (sym b.of.0 ∙ sym rt)
                  (sym b.of.1 ∙ sym rk)) ∙ sym b.of.2;
              read_at = ap read_at_of w.answers ∙ sym w.read_at
                  ∙ ap (λ (z : Served). z.read_at) same;
            },
          )

      served_one : (a : Answered)
          → (v : Unanswered) × Contains completed v × (a ≡ answered_of v) → t.x.k ≡ u.k
          → a.tag ≡ u.tag → a.k < u.k → IsServed s.before u.tag t.x.life a.k
      served_one a m k tag less =
          let w = told_of m.0 m.1 in
          let vt : m.0.tag ≡ t.x.tag = ap (λ (b : Answered). b.tag) (sym m.2) ∙ tag ∙ sym t.tag in
          let vk : a.k ≡ m.0.k = ap (λ (b : Answered). b.k) m.2 in
          let low : m.0.k < t.x.k = omega (arith, vk, k, less) in
          let l = before_life t.x t.among m.0 m.1 vt low w in
          let wk : w.x.k ≡ m.0.k = l.0 in
          record {
            x = w.x;
            among = s.earlier w.x w.among (w.tag ∙ vt) l.1 (omega (arith, wk, low));
            tag_is = w.tag ∙ vt ∙ t.tag;
            life_is = l.1;
            k_is = wk ∙ sym vk;
          }

  pub one_right : (u : Unanswered) → Contains completed u → (answered_of u).outcome
      ≡ reply_of (means entries (own_writes entries [] (before (answered_of u) answered))
      (answered_of u))
  one_right u c =
      let t = told_of u c in
      let s = at t.x t.among in
      let k = said_k u c t in
      let own = own_right u c t s in
      let mk : t.x.k ≡ s.asked.0.k = s.asked.2.1 in
      let op : u.op ≡ t.x.op =
      sym (h.whole u c s.asked.0 s.asked.1 (sym s.asked.2.0 ∙ t.tag) (sym mk ∙ k))
      ∙ sym s.asked.2.2 in
      let at : read_at_of u.answers ≡ t.x.read_at = ap read_at_of t.answers ∙ sym t.read_at in
      let meant : means entries (own_writes entries [] (before (answered_of u) answered))
      (answered_of u) ≡ t.x.meaning =
      ap (λ (w : List Write). means entries w (answered_of u)) own
      ∙ means_same entries (written t.x.tag t.x.life s.before) (answered_of u) t.x op at
      ∙ sym s.right in
      said t s op t.says ∙ ap reply_of (sym meant)
    where
      said : (t : IsToldOf served u) (s : Stood entries M served t.x) → u.op ≡ t.x.op
          → Says t.x u.k t.answer → (answered_of u).outcome ≡ reply_of t.x.meaning
      said t s op (inl w) =
          let own = written t.x.tag t.x.life s.before in
          let ns = ns_of t.x.op in
          let rows : List Row = under ns (view entries t.x.read_at ns) own in
          let rises : IsRising rows =
          under_rises ns (view entries t.x.read_at ns) own (view_rises entries t.x.read_at ns) in
          let known : AreKnown document_rules rows =
          known_under ns (view entries t.x.read_at ns) own
          (written_known entries t.x.tag t.x.life s.before h.known s.reads)
          (known_view entries t.x.read_at ns h.known) in
          outcome_is u t (Ok (w.1.0, [])) w.1.1
          ∙ reply_told u.op t.x.meaning w.1.0 w.1.2
          ∙ ap₂ (λ (o : Op) (m : Meaning). outcome document_rules o (m ∷ [])) op s.right
          ∙ one_merges t.x.op rows rises known ∙ ap reply_of (sym s.right)
      said t s op (inr w) = outcome_is u t (Err w.0) w.1 ∙ ap reply_of (sym w.2)

  abbrev IsRight : Answered → Type 0
  IsRight a =
      a.outcome ≡ reply_of (means entries (own_writes entries [] (before a answered)) a)

  pub all_right : ReadsRight entries answered
  all_right = contained IsRight answered (λ a there.
      let m = map_has answered_of completed a there in
      subst IsRight (sym m.2) (one_right m.0 m.1))

  pub refusals_right : RefusedRight entries answered
  refusals_right = contained
      (λ a. (e : OpErr) → a.outcome ≡ Err e
      → means entries (own_writes entries [] (before a answered)) a ≡ Err e) answered
      (λ a there e is.
      refused_is (means entries (own_writes entries [] (before a answered)) a) e
      (sym (All-contains IsRight answered a all_right there) ∙ is))
