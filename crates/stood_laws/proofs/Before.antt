-- On one shard what the answered statements of a transaction wrote before a statement that comes to
-- it is what the shard served of them, in the boot that the statement names.
use Rattle.std.proofs.Common.{◌≡◌, ◌⊎◌, inl, inr, ◌+◌, ◌≤◌, ◌<◌, ◌++◌, ℕ, zero, suc, Bool, true, false}
use Rattle.std.proofs.Common.{All, List, [], ◌∷◌, nat_lt, Ok, Err, Result, refl, sym, ap, subst, ◌∙◌}
use Rattle.std.proofs.Common.{arith, filter}
use Rattle.std.specs.Prelude.{Contains, IsOk}
use Rattle.std.proofs.lemmas.Bool.{ltb-true, ltb-false}
use Rattle.std.proofs.lemmas.List.Elements.{All-contains, Contains-append_left}
use Rattle.std.proofs.lemmas.List.Elements.{Contains-append_right, Contains-append_cases}
use Rattle.txn_types.specs.declared.cause.Cause.{Cause}
use Rattle.txn_types.specs.declared.message.Envelope.{Envelope}
use Rattle.txn_types.specs.declared.message.Msg.TheVariants as msg
use Rattle.txn_types.specs.declared.message.Statement.{Statement}
use Rattle.txn_types.specs.declared.names.Tag.{Tag}
use Rattle.txn_types.specs.declared.node.NodeId.{NodeId}
use Rattle.txn_types.specs.declared.operation.OpReply.{OpReply}
use Rattle.txn_semantics.specs.declared.commits.Answered.{Answered}
use Rattle.txn_semantics.specs.declared.commits.Entry.{Entry}
use Rattle.txn_semantics.specs.Answers.{own_writes, of_tag}
use Rattle.chunk_map.specs.Map.{Map}
use Rattle.part_laws.specs.Each.{Each, Among}
use Rattle.part_laws.specs.Now.{AreRight}
use Rattle.part_laws.specs.Sound.{Served, written}
use Rattle.part_laws.specs.Turned.{IsOf}
use Rattle.txn_model.specs.declared.ran.Ran.{Ran}
use Rattle.cluster_core.specs.Answering.{Unanswered}
use Rattle.cluster_core.specs.Ledger.{Ledger, entered_by, answered_from}
use Rattle.answer_laws.specs.Parts.{SentTo, IsPart}
use Rattle.told_laws.specs.OneShard.{HaveIds}
use Rattle.told_laws.specs.Places.{IsLater, IsOpened}
use Rattle.told_laws.proofs.Lists.{InOrder, none_there}
use Rattle.told_laws.proofs.OneShard.{part_is_whole}
use Rattle.serving_laws.specs.Telling.{IsToldBy, ToldThere}
use Rattle.one_shard_laws.specs.Lasting.{AllAsked, WasAsked, BeganBy, WentOnBy}
use Rattle.one_shard_laws.specs.Lasting as la
use Rattle.chain_laws.proofs.Owning.{Rising, HasAnswer, each_last, each_among, own_is}
use Rattle.commit_laws.specs.Speaking.{Gave, StatementFollows, MsgFollows}
use Rattle.commit_laws.proofs.Chaining.{Speaks}

-- what a run answered it has answered after more steps
pub answered_on : (l : Ledger) (run more : List Ran) (a : Answered)
    → Contains (answered_from l run) a → Contains (answered_from l (run ++ more)) a
answered_on l [] more a h = none_there a h
answered_on l (ran ∷ run) more a h =
    elim (Contains-append_cases (entered_by l ran).answered
    (answered_from (entered_by l ran).ledger run) a h) [
      | inl k ↦ Contains-append_left (entered_by l ran).answered
          (answered_from (entered_by l ran).ledger (run ++ more)) a k
      | inr k ↦ Contains-append_right (entered_by l ran).answered
          (answered_from (entered_by l ran).ledger (run ++ more)) a
          (answered_on (entered_by l ran).ledger run more a k)
    ]

pub rising_of : (served : List Served) → la.InOrder served → Rising served
rising_of [] h = tt
rising_of (x ∷ served) h = (h.0, rising_of served h.1)

-- Which statements were served: each was asked for, by the first message of its transaction or by
-- one that names its boot.

record Asked (sent : List Envelope) (x : Served) : Type 0 where
  envelope : Envelope
  m : Statement
  there : Contains sent envelope
  is : envelope.msg ≡ msg.Statement m
  of : IsOf m x
  boot : (m.boot ≡ 0) ⊎ (m.boot ≡ x.life)

asked_of : (sent : List Envelope) (before : List Served) (x : Served) → WasAsked sent before x
    → Asked sent x
asked_of sent before x w = record {
  envelope = w.0;
  m = w.1;
  there = w.2;
  is = w.3;
  of = w.4;
  boot = boot_of w.5;
}
  where
    boot_of : BeganBy w.1 before x ⊎ WentOnBy w.1 x → (w.1.boot ≡ 0) ⊎ (w.1.boot ≡ x.life)
    boot_of (inl b) = inl b.0
    boot_of (inr b) = inr b.1

asked_at : (sent : List Envelope) (served : List Served) → AllAsked sent served → (x : Served)
    → Among x served → Asked sent x
asked_at sent [] h x a = absurd a
asked_at sent (y ∷ served) h x (inl e) =
    subst (Asked sent) (sym e) (asked_of sent served y h.0)
asked_at sent (y ∷ served) h x (inr a) = asked_at sent served h.1 x a

ok_done : (o : Result (OpReply × Bool) Cause) → IsOk o → (done : OpReply × Bool) × (o ≡ Ok done)
ok_done (Ok done) h = (done, refl)
ok_done (Err why) h = let no : false ≡ true = h in absurd (grind (arith, no))

not_zero : (n : ℕ) → 0 < n → n ≡ 0 → ⊥
not_zero n h e = absurd (omega (arith, h, e))

module _ (chunks : Map) (sent : List Envelope) (begun : List Unanswered) (told : List Answered)
    (s : Speaks chunks sent begun told) (served : List Served) (asked : AllAsked sent served)
    (lives : Each (λ (x : Served). 0 < x.life) served)
    (tells : All (λ (e : Envelope). IsToldBy served e.msg) sent) where
  abbrev Given : Tag → ℕ → ℕ → Type 0
  Given = Gave sent told

  -- the statement that was opened, of which a message is the whole
  record Opened (m : Statement) : Type 0 where
    statement : Unanswered
    opened : Contains begun statement
    tag : m.tag ≡ statement.tag
    k : m.k ≡ statement.k
    op : m.op ≡ statement.op
    follows : StatementFollows Given m

  opened_by : (e : Envelope) (m : Statement) → Contains sent e → e.msg ≡ msg.Statement m → Opened m
  opened_by e m there is =
      let f : MsgFollows Given begun told e.to (msg.Statement m) =
      subst (MsgFollows Given begun told e.to) is
      (All-contains (λ (e : Envelope). MsgFollows Given begun told e.to e.msg) sent e s.follow
      there) in
      let fits : SentTo (IsPart chunks begun) e.to e.msg =
      All-contains (λ (e : Envelope). SentTo (IsPart chunks begun) e.to e.msg) sent e s.parts
      there in
      let part : IsPart chunks begun 0 m =
      subst (λ (to : NodeId). SentTo (IsPart chunks begun) to (msg.Statement m)) f.0
      (subst (SentTo (IsPart chunks begun) e.to) is fits) in
      record {
        statement = part.statement;
        opened = part.opened;
        tag = part.tag;
        k = part.k;
        op = part.op ∙ part_is_whole chunks part.statement.op s.map s.one
            (All-contains (λ (u : Unanswered). HaveIds u.op) begun part.statement s.ids
            part.opened);
        follows = f.1;
      }

  -- what was served of a statement that was answered in this boot
  record WasServed (tag : Tag) (k boot : ℕ) : Type 0 where
    answer : Answered
    among : Contains told answer
    tag_is : answer.tag ≡ tag
    k_is : answer.k ≡ k
    x : Served
    there : Among x served
    x_tag : x.tag ≡ tag
    x_k : x.k ≡ k
    read_at : x.read_at ≡ answer.read_at
    life : x.life ≡ boot

  was_served : (tag : Tag) (k boot : ℕ) → Given tag k boot → WasServed tag k boot
  was_served tag k boot g =
      let ok = ok_done g.one.answer.outcome g.replied in
      let h : IsToldBy served (msg.Answer g.one.answer) =
      subst (IsToldBy served) g.one.msg
      (All-contains (λ (e : Envelope). IsToldBy served e.msg) sent g.one.envelope tells
      g.one.was_sent) in
      let t = subst (ToldThere served g.one.answer) ok.1 h in
      record {
        answer = g.answer;
        among = g.among;
        tag_is = g.tag_is;
        k_is = g.k_is;
        x = t.0;
        there = t.1;
        x_tag = t.2 ∙ g.one.tag ∙ g.tag_is;
        x_k = t.3 ∙ g.one.k ∙ g.k_is;
        read_at = t.4 ∙ g.one.read_at;
        life = t.6 ∙ g.boot_is;
      }

  -- From a statement to those before it.

  boots : (tag : Tag) (n boot b : ℕ) (x : Served) → (b ≡ 0) ⊎ (b ≡ x.life) → x.life ≡ boot
      → Given tag n b → b ≡ boot
  boots tag n boot b x (inr e) life g = e ∙ life
  boots tag n boot b x (inl e) life g =
      let old = was_served tag n b g in
      absurd (not_zero old.x.life
      (each_last (λ (x : Served). 0 < x.life) served old.x lives old.there) (old.life ∙ e))

  before_it : (tag : Tag) (k n boot : ℕ) → k ≡ suc n → Given tag k boot
      → (k ≡ 1) ⊎ Given tag n boot
  before_it tag k n boot is g =
      let w = was_served tag k boot g in
      let a = asked_at sent served asked w.x w.there in
      let o = opened_by a.envelope a.m a.there a.is in
      let place : a.m.k ≡ k = sym a.of.1 ∙ w.x_k in
      elim (o.follows) [
        | inl first ↦ inl (sym place ∙ first.0)
        | inr h ↦
            let next : a.m.k ≡ h.0 + 1 = h.1 in
            let same : h.0 ≡ n = omega (arith, next, place, is) in
            let tags : a.m.tag ≡ tag = sym a.of.0 ∙ w.x_tag in
            let g1 : Given tag n a.m.boot =
            subst (λ (t : Tag). Given t n a.m.boot) tags
            (subst (λ (j : ℕ). Given a.m.tag j a.m.boot) same h.2) in
            inr (subst (Given tag n) (boots tag n boot a.m.boot w.x a.boot w.life g1) g1)
      ]

  walk_case : (tag : Tag) (boot n k : ℕ) → k ≡ suc n → Given tag k boot → (j : ℕ) → j ≤ k → 0 < j
      → (test : Bool) → nat_lt j k ≡ test → (Given tag n boot → j ≤ n → Given tag j boot)
      → Given tag j boot
  walk_case tag boot n k is g j le pos false e more =
      let least : k ≤ j = ltb-false j k e in
      let same : k ≡ j = omega (arith, least, le) in
      subst (λ (i : ℕ). Given tag i boot) same g
  walk_case tag boot n k is g j le pos true e more =
      let less : j < k = ltb-true j k e in
      elim (before_it tag k n boot is g) [
        | inl one ↦ absurd (omega (arith, less, one, pos))
        | inr g1 ↦ more g1 (omega (arith, less, is))
      ]

  walk : (tag : Tag) (boot n k : ℕ) → k ≡ n → Given tag k boot → (j : ℕ) → j ≤ k → 0 < j
      → Given tag j boot
  walk tag boot zero k is g j le pos = absurd (omega (arith, is, le, pos))
  walk tag boot (suc n) k is g j le pos =
      walk_case tag boot n k is g j le pos (nat_lt j k) refl
      (λ g1 le1. walk tag boot n n refl g1 j le1 pos)

  -- A statement that was sent.

  module _ (e : Envelope) (m : Statement) (there : Contains sent e) (is : e.msg ≡ msg.Statement m)
    where
      -- one that names no boot is the first
      pub first_place : m.boot ≡ 0 → m.k ≡ 1
      first_place none = by (opened_by e m there is).follows
        where
          by : StatementFollows Given m → m.k ≡ 1
          by (inl first) = first.0
          by (inr h) =
              let old = was_served m.tag h.0 m.boot h.2 in
              absurd (not_zero old.x.life
              (each_last (λ (x : Served). 0 < x.life) served old.x lives old.there)
              (old.life ∙ none))

      -- before one that names a boot each was answered there
      earlier : 0 < m.boot → (j : ℕ) → j < m.k → 0 < j → Given m.tag j m.boot
      earlier up j less pos = by (opened_by e m there is).follows
        where
          by : StatementFollows Given m → Given m.tag j m.boot
          by (inl first) = absurd (not_zero m.boot up first.1)
          by (inr h) =
              let next : m.k ≡ h.0 + 1 = h.1 in
              walk m.tag m.boot h.0 h.0 refl h.2 j (omega (arith, less, next)) pos

      -- Of all that was answered, and at the commits that there are then.
      module _ (entries : List Entry) (all : List Answered) (later : InOrder IsLater all)
          (front : (a : Answered) → Contains told a → Contains all a)
          (places : (a : Answered) → Contains all a → 0 < a.k) where
        pub none_before : m.boot ≡ 0
            → own_writes entries [] (filter (λ (a : Answered). nat_lt a.k m.k) (of_tag m.tag all))
            ≡ []
        none_before none =
            own_is entries all m.tag m.boot later [] m.k tt tt tt
            (λ a c tag less.
            let pos : 0 < a.k = places a c in
            let one : m.k ≡ 1 = first_place none in
            absurd (omega (arith, pos, less, one)))

        pub all_before : 0 < m.boot → (read_at : ℕ)
            → Each (λ (y : Served). y.tag ≡ m.tag → y.life ≡ m.boot
            → (y.k < m.k) × (y.read_at ≡ read_at)) served
            → AreRight entries served → Rising served
            → own_writes entries [] (filter (λ (a : Answered). nat_lt a.k m.k) (of_tag m.tag all))
            ≡ written m.tag m.boot served
        all_before up read_at newest right rising =
            own_is entries all m.tag m.boot later served m.k right rising
            (each_among (λ (y : Served). y.tag ≡ m.tag → y.life ≡ m.boot
            → (y.k < m.k) × HasAnswer all y) served (λ y c tag life. (
              (up_to y c tag life).0,
              has_answer y c tag life,
            )))
            (λ a c tag less.
            let w = was_served m.tag a.k m.boot (earlier up a.k less (places a c)) in
            record { x = w.x; among = w.there; tag_is = w.x_tag; life_is = w.life; k_is = w.x_k })
          where
            up_to : (y : Served) → Among y served → y.tag ≡ m.tag → y.life ≡ m.boot
                → (y.k < m.k) × (y.read_at ≡ read_at)
            up_to y c = each_last (λ (y : Served). y.tag ≡ m.tag → y.life ≡ m.boot
                → (y.k < m.k) × (y.read_at ≡ read_at)) served y newest c

            answer_by : (y : Served) → y.tag ≡ m.tag → y.read_at ≡ read_at → (a : Asked sent y)
                → (o : Opened a.m) → (w : WasServed m.tag y.k m.boot) → w.x.read_at ≡ read_at
                → IsOpened begun w.answer → HasAnswer all y
            answer_by y tag same a o w also u =
                let one = s.once u.statement o.statement u.opened o.opened
                (sym u.tag ∙ w.tag_is ∙ sym tag ∙ a.of.0 ∙ o.tag)
                (sym u.k ∙ w.k_is ∙ a.of.1 ∙ o.k) in
                record {
                  answer = w.answer;
                  among = front w.answer w.among;
                  tag = w.tag_is ∙ sym tag;
                  k = w.k_is;
                  op = u.op ∙ ap (λ (v : Unanswered). v.op) one ∙ sym o.op ∙ sym a.of.2;
                  read_at = sym w.read_at ∙ also ∙ sym same;
                }

            has_answer : (y : Served) → Among y served → y.tag ≡ m.tag → y.life ≡ m.boot
                → HasAnswer all y
            has_answer y c tag life =
                let a = asked_at sent served asked y c in
                let o = opened_by a.envelope a.m a.there a.is in
                let pos : 0 < o.statement.k = s.places o.statement o.opened in
                let place : y.k ≡ o.statement.k = a.of.1 ∙ o.k in
                let w = was_served m.tag y.k m.boot
                (earlier up y.k (up_to y c tag life).0 (omega (arith, pos, place))) in
                answer_by y tag (up_to y c tag life).1 a o w
                (up_to w.x w.there w.x_tag w.life).1
                (All-contains (IsOpened begun) told w.answer s.opened w.among)
