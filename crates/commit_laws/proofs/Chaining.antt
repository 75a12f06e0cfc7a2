-- On one shard all answered statements of a committed transaction were served in the boot that its
-- commit names.
use Rattle.std.proofs.Common.{◌≡◌, ◌⊎◌, inl, inr, ◌+◌, ◌≤◌, ◌<◌, ℕ, Bool, true, false, All, ◌&&◌}
use Rattle.std.proofs.Common.{List, [], ◌∷◌, nat_eq, nat_lt, zero, suc, Ok, Err, Result, refl, sym}
use Rattle.std.proofs.Common.{ap, ap₂, subst, ◌∙◌, arith}
use Rattle.std.specs.Prelude.{Contains, IsOk}
use Rattle.std.proofs.lemmas.Bool.{ltb-true, ltb-false}
use Rattle.std.proofs.lemmas.List.Elements.{All-contains}
use Rattle.txn_types.specs.Order.{same_tag}
use Rattle.txn_types.specs.declared.cause.Cause.{Cause}
use Rattle.txn_types.specs.declared.message.Answer.{Answer}
use Rattle.txn_types.specs.declared.message.Commit.{Commit}
use Rattle.txn_types.specs.declared.message.Envelope.{Envelope}
use Rattle.txn_types.specs.declared.message.Msg.{Msg}
use Rattle.txn_types.specs.declared.message.Msg.TheVariants as msg
use Rattle.txn_types.specs.declared.message.Statement.{Statement}
use Rattle.txn_types.specs.declared.names.Tag.{Tag}
use Rattle.txn_types.specs.declared.node.NodeId.{NodeId}
use Rattle.txn_types.specs.declared.operation.OpReply.{OpReply}
use Rattle.txn_semantics.specs.declared.commits.Answered.{Answered}
use Rattle.txn_semantics.specs.declared.commits.Entry.{Entry}
use Rattle.txn_semantics.specs.Answers.{own_writes, of_tag}
use Rattle.participant.proofs.Tags.{tag_self}
use Rattle.chunk_map.specs.Map.{Map, IsMap}
use Rattle.part_laws.specs.Now.{AreRight}
use Rattle.part_laws.specs.Sound.{Served, is_of_life, written}
use Rattle.part_laws.specs.Turned.{IsOf}
use Rattle.cluster_core.specs.Answering.{Unanswered}
use Rattle.answer_laws.specs.Parts.{SentTo, SentFit, IsPart}
use Rattle.world_laws.proofs.Naming.{tag_is}
use Rattle.answer_laws.proofs.Lists.{has_first, has_more}
use Rattle.told_laws.specs.OneShard.{HaveIds}
use Rattle.told_laws.specs.Places.{IsLater, IsOpened}
use Rattle.told_laws.proofs.Lists.{InOrder, contained, filter_has, has_filter, order_two}
use Rattle.told_laws.proofs.Lists.{order_filter, same_nat}
use Rattle.told_laws.proofs.OneShard.{part_is_whole}
use Rattle.commit_laws.specs.Speaking.{Gave, StatementFollows, CommitFollows, MsgFollows}
use Rattle.commit_laws.proofs.Pairing.{Match, Falls, AlsoFalls, of_life, turned, turned_order}
use Rattle.commit_laws.proofs.Pairing.{life_is, same_writes}

-- What is known of one shard: which statements it served, and what each Answer tells.

-- a served statement was asked for: by the first message of its transaction, or by one of its boot
abbrev pub WasAskedFor : List Envelope → Served → Type 0
WasAskedFor sent x = (e : Envelope) × (m : Statement) × Contains sent e × (e.msg ≡ msg.Statement m)
    × IsOf m x × ((m.boot ≡ 0) ⊎ (m.boot ≡ x.life))

-- a reply tells of a statement that was served in its boot
abbrev pub IsToldIn : List Served → Answer → Type 0
IsToldIn served a = (done : OpReply × Bool) → a.outcome ≡ Ok done → (x : Served)
    × Contains served x × (x.tag ≡ a.tag) × (x.k ≡ a.k) × (x.read_at ≡ a.read_at)
    × (x.life ≡ a.boot)

pub record Serves (sent : List Envelope) (served : List Served) : Type 0 where
  pub asked : (x : Served) → Contains served x → WasAskedFor sent x
  pub lives : (x : Served) → Contains served x → 0 < x.life
  pub told : (e : Envelope) (a : Answer) → Contains sent e → e.msg ≡ msg.Answer a
      → IsToldIn served a
  pub falls : (tag : Tag) (life : ℕ) → InOrder Falls (of_life tag life served)

-- and what is known of its routers
pub record Speaks (chunks : Map) (sent : List Envelope) (begun : List Unanswered)
    (told : List Answered) : Type 0 where
  pub map : IsMap chunks
  pub one : chunks.shards ≡ 1
  pub follow : All (λ e. MsgFollows (Gave sent told) begun told e.to e.msg) sent
  pub places : (v : Unanswered) → Contains begun v → 0 < v.k
  pub parts : SentFit (IsPart chunks begun) sent
  pub ids : All (λ u. HaveIds u.op) begun
  pub once : (u v : Unanswered) → Contains begun u → Contains begun v → u.tag ≡ v.tag → u.k ≡ v.k
      → u ≡ v
  pub later : InOrder IsLater told
  pub opened : All (IsOpened begun) told

ok_done : (o : Result (OpReply × Bool) Cause) → IsOk o → (done : OpReply × Bool) × (o ≡ Ok done)
ok_done (Ok done) h = (done, refl)
ok_done (Err why) h = let no : false ≡ true = h in absurd (grind (arith, no))

module _ (chunks : Map) (sent : List Envelope) (begun : List Unanswered) (told : List Answered)
    (served : List Served) (s : Speaks chunks sent begun told) (v : Serves sent served) where
  abbrev Given : Tag → ℕ → ℕ → Type 0
  Given = Gave sent told

  -- two answered statements of one place are one
  told_one : (a b : Answered) → Contains told a → Contains told b → a.tag ≡ b.tag → a.k ≡ b.k
      → a ≡ b
  told_one a b p q tag k =
      elim (order_two IsLater told a b s.later p q) [
        | inl e ↦ e
        | inr w ↦ elim w [
          | inl less ↦ let l : a.k < b.k = less tag in absurd (omega (arith, l, k))
          | inr less ↦ let l : b.k < a.k = less (sym tag) in absurd (omega (arith, l, k))
        ]
      ]

  -- a message that was sent
  follows : (e : Envelope) (m : Msg) → Contains sent e → e.msg ≡ m
      → MsgFollows Given begun told e.to m
  follows e m there is =
      subst (MsgFollows Given begun told e.to) is
      (All-contains (λ (e : Envelope). MsgFollows Given begun told e.to e.msg) sent e s.follow
      there)

  -- the statement that was opened, of which a message is the whole
  pub record IsAskedBy (m : Statement) : Type 0 where
    pub statement : Unanswered
    pub opened : Contains begun statement
    pub tag : m.tag ≡ statement.tag
    pub k : m.k ≡ statement.k
    pub op : m.op ≡ statement.op
    pub follows : StatementFollows Given m

  asked_by : (e : Envelope) (m : Statement) → Contains sent e → e.msg ≡ msg.Statement m
      → IsAskedBy m
  asked_by e m there is =
      let f = follows e (msg.Statement m) there is in
      let fits : SentTo (IsPart chunks begun) e.to e.msg =
      All-contains (λ (e : Envelope). SentTo (IsPart chunks begun) e.to e.msg) sent e s.parts
      there in
      let part : IsPart chunks begun 0 m =
      subst (λ (to : NodeId). SentTo (IsPart chunks begun) to (msg.Statement m)) f.0
      (subst (SentTo (IsPart chunks begun) e.to) is fits) in
      record {
        statement = part.statement;
        opened = part.opened;
        tag = part.tag;
        k = part.k;
        op = part.op ∙ part_is_whole chunks part.statement.op s.map s.one
            (All-contains (λ (u : Unanswered). HaveIds u.op) begun part.statement s.ids
            part.opened);
        follows = f.1;
      }

  -- what was served of a statement that was answered in this boot
  pub record WasServed (tag : Tag) (k boot : ℕ) : Type 0 where
    pub answer : Answered
    pub among : Contains told answer
    pub tag_is : answer.tag ≡ tag
    pub k_is : answer.k ≡ k
    pub x : Served
    pub there : Contains served x
    pub x_tag : x.tag ≡ tag
    pub x_k : x.k ≡ k
    pub read_at : x.read_at ≡ answer.read_at
    pub life : x.life ≡ boot

  was_served : (tag : Tag) (k boot : ℕ) → Given tag k boot → WasServed tag k boot
  was_served tag k boot g =
      let ok = ok_done g.one.answer.outcome g.replied in
      let t = v.told g.one.envelope g.one.answer g.one.was_sent g.one.msg ok.0 ok.1 in
      record {
        answer = g.answer;
        among = g.among;
        tag_is = g.tag_is;
        k_is = g.k_is;
        x = t.0;
        there = t.1;
        x_tag = t.2 ∙ g.one.tag ∙ g.tag_is;
        x_k = t.3 ∙ g.one.k ∙ g.k_is;
        read_at = t.4 ∙ g.one.read_at;
        life = t.5 ∙ g.boot_is;
      }

  -- From the newest statement to those before it.

  not_zero : (n : ℕ) → 0 < n → n ≡ 0 → ⊥
  not_zero n h e = absurd (omega (arith, h, e))

  boots : (tag : Tag) (n boot b : ℕ) (x : Served) → (b ≡ 0) ⊎ (b ≡ x.life) → x.life ≡ boot
      → Given tag n b → b ≡ boot
  boots tag n boot b x (inr e) life g = e ∙ life
  boots tag n boot b x (inl e) life g =
      let old = was_served tag n b g in
      absurd (not_zero old.x.life (v.lives old.x old.there) (old.life ∙ e))

  before_it : (tag : Tag) (k n boot : ℕ) → k ≡ suc n → Given tag k boot
      → (k ≡ 1) ⊎ Given tag n boot
  before_it tag k n boot is g =
      let w = was_served tag k boot g in
      let a = v.asked w.x w.there in
      let o = asked_by a.0 a.1 a.2 a.3 in
      let place : a.1.k ≡ k = sym a.4.1 ∙ w.x_k in
      elim (o.follows) [
        | inl first ↦ inl (sym place ∙ first.0)
        | inr h ↦
            let next : a.1.k ≡ h.0 + 1 = h.1 in
            let same : h.0 ≡ n = omega (arith, next, place, is) in
            let tags : a.1.tag ≡ tag = sym a.4.0 ∙ w.x_tag in
            let g1 : Given tag n a.1.boot =
            subst (λ (t : Tag). Given t n a.1.boot) tags
            (subst (λ (j : ℕ). Given a.1.tag j a.1.boot) same h.2) in
            inr (subst (Given tag n) (boots tag n boot a.1.boot w.x a.5 w.life g1) g1)
      ]

  walk_case : (tag : Tag) (boot n k : ℕ) → k ≡ suc n → Given tag k boot → (j : ℕ) → j ≤ k → 0 < j
      → (test : Bool) → nat_lt j k ≡ test → (Given tag n boot → j ≤ n → Given tag j boot)
      → Given tag j boot
  walk_case tag boot n k is g j le pos false e more =
      let least : k ≤ j = ltb-false j k e in
      let same : k ≡ j = omega (arith, least, le) in
      subst (λ (i : ℕ). Given tag i boot) same g
  walk_case tag boot n k is g j le pos true e more =
      let less : j < k = ltb-true j k e in
      elim (before_it tag k n boot is g) [
        | inl one ↦ absurd (omega (arith, less, one, pos))
        | inr g1 ↦ more g1 (omega (arith, less, is))
      ]

  walk : (tag : Tag) (boot n k : ℕ) → k ≡ n → Given tag k boot → (j : ℕ) → j ≤ k → 0 < j
      → Given tag j boot
  walk tag boot zero k is g j le pos = absurd (omega (arith, is, le, pos))
  walk tag boot (suc n) k is g j le pos =
      walk_case tag boot n k is g j le pos (nat_lt j k) refl
      (λ g1 le1. walk tag boot n n refl g1 j le1 pos)

  -- A commit that was sent.

  module _ (d : Envelope) (c : Commit) (there : Contains sent d) (is : d.msg ≡ msg.Commit c) where
    commit_is : CommitFollows Given begun told c
    commit_is = follows d (msg.Commit c) there is

    -- an answered statement of its transaction
    pub record IsOfIt (a : Answered) : Type 0 where
      pub among : Contains told a
      pub tag : a.tag ≡ c.tag
      pub statement : Unanswered
      pub opened : Contains begun statement
      pub tag_is : a.tag ≡ statement.tag
      pub k_is : a.k ≡ statement.k
      pub op_is : a.op ≡ statement.op

    of_it : (a : Answered) → Contains (of_tag c.tag told) a → IsOfIt a
    of_it a in_tag =
        let f = filter_has (λ (a : Answered). same_tag a.tag c.tag) told a in_tag in
        let o = All-contains (IsOpened begun) told a s.opened f.0 in
        record {
          among = f.0;
          tag = tag_is a.tag c.tag f.1;
          statement = o.statement;
          opened = o.opened;
          tag_is = o.tag;
          k_is = o.k;
          op_is = o.op;
        }

    pub all_replied : All (λ a. IsOk a.outcome) (of_tag c.tag told)
    all_replied = contained (λ (a : Answered). IsOk a.outcome) (of_tag c.tag told)
        (λ a in_tag.
        let o = of_it a in_tag in
        let r = commit_is.replied o.statement o.opened (sym o.tag_is ∙ o.tag) in
        let same = told_one r.answer a r.among o.among (r.tag ∙ sym o.tag_is) (r.k ∙ sym o.k_is) in
        subst (λ (b : Answered). IsOk b.outcome) same r.replied)

    given_of : (a : Answered) → Contains (of_tag c.tag told) a → Given c.tag a.k c.boot
    given_of a in_tag =
        let o = of_it a in_tag in
        let le = commit_is.below o.statement o.opened (sym o.tag_is ∙ o.tag) in
        let pos = s.places o.statement o.opened in
        let k : a.k ≡ o.statement.k = o.k_is in
        walk c.tag c.boot commit_is.k commit_is.k refl commit_is.newest a.k (omega (arith, k, le))
        (omega (arith, k, pos))

    in_life : (x : Served) → x.tag ≡ c.tag → x.life ≡ c.boot
        → is_of_life c.tag c.boot x ≡ true
    in_life x tag life =
        ap₂ (λ (t : Tag) (n : ℕ). same_tag t c.tag && nat_eq n c.boot) tag life
        ∙ ap₂ (λ (p q : Bool). p && q) (tag_self c.tag) (same_nat c.boot)

    matched : (a : Answered) → Contains (of_tag c.tag told) a
        → (x : Served) × Contains (of_life c.tag c.boot served) x × Match x a
    matched a in_tag =
        let o = of_it a in_tag in
        let w = was_served c.tag a.k c.boot (given_of a in_tag) in
        let same = told_one w.answer a w.among o.among (w.tag_is ∙ sym o.tag) w.k_is in
        let q = v.asked w.x w.there in
        let b = asked_by q.0 q.1 q.2 q.3 in
        let one = s.once b.statement o.statement b.opened o.opened
        (sym b.tag ∙ sym q.4.0 ∙ w.x_tag ∙ sym o.tag ∙ o.tag_is)
        (sym b.k ∙ sym q.4.1 ∙ w.x_k ∙ o.k_is) in
        let op : w.x.op ≡ a.op =
        q.4.2 ∙ b.op ∙ ap (λ (u : Unanswered). u.op) one ∙ sym o.op_is in (
          w.x,
          has_filter (is_of_life c.tag c.boot) served w.x (in_life w.x w.x_tag w.life) w.there,
          (w.x_k, (op, w.read_at ∙ ap (λ (z : Answered). z.read_at) same)),
        )

    answered : (x : Served) → Contains (of_life c.tag c.boot served) x
        → (a : Answered) × Contains (of_tag c.tag told) a × (a.k ≡ x.k)
    answered x in_it =
        let f = filter_has (is_of_life c.tag c.boot) served x in_it in
        let l = life_is c.tag c.boot x f.1 in
        let q = v.asked x f.0 in
        let b = asked_by q.0 q.1 q.2 q.3 in
        let tag : b.statement.tag ≡ c.tag =
        sym b.tag ∙ sym q.4.0 ∙ l.0 in
        let r = commit_is.replied b.statement b.opened tag in
        let yes : same_tag r.answer.tag c.tag ≡ true =
        ap (λ (t : Tag). same_tag t c.tag) (r.tag ∙ tag) ∙ tag_self c.tag in (
          r.answer,
          has_filter (λ (a : Answered). same_tag a.tag c.tag) told r.answer yes r.among,
          r.k ∙ sym b.k ∙ sym q.4.1,
        )

    -- the answered ones rise
    rise_case : (ones : List Answered) → InOrder IsLater ones
        → ((a : Answered) → Contains ones a → a.tag ≡ c.tag)
        → InOrder (λ (a b : Answered). a.k < b.k) ones
    rise_case [] h tags = tt
    rise_case (a ∷ ones) h tags = (
      contained (λ (b : Answered). a.k < b.k) ones (λ b k.
          All-contains (IsLater a) ones b h.0 k
          (tags a (has_first a ones) ∙ sym (tags b (has_more a ones b k)))),
      rise_case ones h.1 (λ b k. tags b (has_more a ones b k)),
    )

    they_fall : InOrder AlsoFalls (turned (of_tag c.tag told))
    they_fall =
        turned_order (λ (a b : Answered). a.k < b.k) AlsoFalls (λ a b less. less)
        (of_tag c.tag told)
        (rise_case (of_tag c.tag told)
        (order_filter IsLater (λ (a : Answered). same_tag a.tag c.tag) told s.later)
        (λ a k. (of_it a k).tag))

    pub what_it_wrote : (entries : List Entry) → AreRight entries served
        → written c.tag c.boot served ≡ own_writes entries [] (of_tag c.tag told)
    what_it_wrote entries right =
        same_writes entries c.tag c.boot served (of_tag c.tag told) right
        (v.falls c.tag c.boot) they_fall answered matched
