-- Where the statements of a transaction that a shard served in one boot are those that were
-- answered, what they wrote is what these mean.
use Rattle.std.proofs.Common.{◌≡◌, inl, inr, ◌++◌, ◌<◌, ℕ, Bool, true, false, List, [], ◌∷◌, All}
use Rattle.std.proofs.Common.{filter, nat_eq, refl, sym, ap, ap₂, subst, ◌∙◌, arith}
use Rattle.std.specs.Prelude.{Contains}
use Rattle.std.proofs.lemmas.List.{append-nil}
use Rattle.std.proofs.lemmas.List.Elements.{All-nil, All-contains, Contains-append_left}
use Rattle.std.proofs.lemmas.List.Elements.{Contains-append_cases, Contains-push}
use Rattle.txn_types.specs.Order.{same_tag}
use Rattle.txn_types.specs.declared.names.Tag.{Tag}
use Rattle.txn_types.specs.declared.operation.Op.{Op}
use Rattle.txn_types.specs.declared.write.Write.{Write}
use Rattle.txn_semantics.specs.declared.commits.Answered.{Answered}
use Rattle.txn_semantics.specs.declared.commits.Entry.{Entry}
use Rattle.txn_semantics.specs.Answers.{means, own_writes}
use Rattle.txn_semantics.specs.Meaning.{Meaning, eval, writes_of, ns_of}
use Rattle.txn_semantics.specs.Rows.{under}
use Rattle.txn_semantics.specs.View.{view}
use Rattle.part_laws.specs.Now.{AreRight}
use Rattle.part_laws.specs.Sound.{Served, is_of_life, written}
use Rattle.answer_laws.proofs.Lists.{both_true, nat_is, has_first, has_more}
use Rattle.world_laws.proofs.Naming.{tag_is}
use Rattle.told_laws.proofs.Lists.{InOrder, has_cases, only_one, order_append}

-- The statements of a transaction with the newest first.

abbrev pub turned : List Answered → List Answered
turned [] = []
turned (a ∷ ones) = turned ones ++ a ∷ []

pub turned_has : (ones : List Answered) (x : Answered) → Contains (turned ones) x → Contains ones x
turned_has [] x c = c
turned_has (a ∷ ones) x c =
    elim (Contains-append_cases (turned ones) (a ∷ []) x c) [
      | inl k ↦ has_more a ones x (turned_has ones x k)
      | inr k ↦ subst (Contains (a ∷ ones)) (sym (only_one a x k)) (has_first a ones)
    ]

pub has_turned : (ones : List Answered) (x : Answered) → Contains ones x → Contains (turned ones) x
has_turned [] x c = c
has_turned (a ∷ ones) x c =
    elim (has_cases a ones x c) [
      | inl e ↦ subst (Contains (turned ones ++ a ∷ [])) (sym e) (Contains-push (turned ones) a)
      | inr k ↦ Contains-append_left (turned ones) (a ∷ []) x (has_turned ones x k)
    ]

pub turned_order : (R S : Answered → Answered → Type 0) → ((a b : Answered) → R a b → S b a)
    → (ones : List Answered) → InOrder R ones → InOrder S (turned ones)
turned_order R S f [] h = tt
turned_order R S f (a ∷ ones) h =
    order_append S (turned ones) (a ∷ []) (turned_order R S f ones h.1)
    (All-nil (S a), tt)
    (λ x y c d. subst (S x) (sym (only_one a y d))
    (f a x (All-contains (R a) ones x h.0 (turned_has ones x c))))

-- what they wrote over these, each over those before it
abbrev wrote_over : List Entry → List Write → List Answered → List Write
wrote_over entries own [] = own
wrote_over entries own (a ∷ ones) =
    wrote_over entries own ones ++ writes_of (means entries (wrote_over entries own ones) a)

over_last : (entries : List Entry) (own : List Write) (ones : List Answered) (a : Answered)
    → wrote_over entries own (ones ++ a ∷ [])
    ≡ wrote_over entries (own ++ writes_of (means entries own a)) ones
over_last entries own [] a = refl
over_last entries own (x ∷ ones) a =
    ap (λ (w : List Write). w ++ writes_of (means entries w x)) (over_last entries own ones a)

wrote_turned : (entries : List Entry) (own : List Write) (ones : List Answered)
    → own_writes entries own ones ≡ wrote_over entries own (turned ones)
wrote_turned entries own [] = refl
wrote_turned entries own (a ∷ ones) =
    wrote_turned entries (own ++ writes_of (means entries own a)) ones
    ∙ sym (over_last entries own (turned ones) a)

-- Two lists that go together.

abbrev pub Match : Served → Answered → Type 0
Match x a = (x.k ≡ a.k) × ((x.op ≡ a.op) × (x.read_at ≡ a.read_at))

abbrev Paired : List Served → List Answered → Type 0
Paired [] [] = Unit {0}
Paired [] (a ∷ ones) = ⊥
Paired (x ∷ xs) [] = ⊥
Paired (x ∷ xs) (a ∷ ones) = Match x a × Paired xs ones

abbrev pub Falls : Served → Served → Type 0
Falls x y = y.k < x.k

abbrev pub AlsoFalls : Answered → Answered → Type 0
AlsoFalls a b = b.k < a.k

no_one : {A : Type 0} {X : Type 0} (x : A) → Contains [] x → X
no_one x c = absurd (omega (arith, c.1))

heads : (x : Served) (xs : List Served) (a : Answered) (ones : List Answered)
    → All (Falls x) xs → All (AlsoFalls a) ones
    → ((b : Answered) × Contains (a ∷ ones) b × (b.k ≡ x.k))
    → ((y : Served) × Contains (x ∷ xs) y × Match y a) → Match x a
heads x xs a ones fx fa ha hx =
    elim (has_cases x xs hx.0 hx.1) [
      | inl e ↦ subst (λ (y : Served). Match y a) e hx.2
      | inr k ↦
          let below : hx.0.k < x.k = All-contains (Falls x) xs hx.0 fx k in
          let same : hx.0.k ≡ a.k = hx.2.0 in
          absurd (elim (has_cases a ones ha.0 ha.1) [
            | inl e ↦
                let other : a.k ≡ x.k = ap (λ (b : Answered). b.k) (sym e) ∙ ha.2 in
                absurd (omega (arith, below, same, other))
            | inr d ↦
                let less : ha.0.k < a.k = All-contains (AlsoFalls a) ones ha.0 fa d in
                let other : ha.0.k ≡ x.k = ha.2 in
                absurd (omega (arith, below, same, less, other))
          ])
    ]

pair : (xs : List Served) (ones : List Answered) → InOrder Falls xs → InOrder AlsoFalls ones
    → ((x : Served) → Contains xs x → (a : Answered) × Contains ones a × (a.k ≡ x.k))
    → ((a : Answered) → Contains ones a → (x : Served) × Contains xs x × Match x a)
    → Paired xs ones
pair [] [] fx fa h k = tt
pair [] (a ∷ ones) fx fa h k = let y = k a (has_first a ones) in no_one y.0 y.1
pair (x ∷ xs) [] fx fa h k = let b = h x (has_first x xs) in no_one b.0 b.1
pair (x ∷ xs) (a ∷ ones) fx fa h k =
    let m = heads x xs a ones fx.0 fa.0 (h x (has_first x xs)) (k a (has_first a ones)) in
    let same : x.k ≡ a.k = m.0 in (
      m,
      pair xs ones fx.1 fa.1
          (λ y c.
          let b = h y (has_more x xs y c) in
          elim (has_cases a ones b.0 b.1) [
            | inl e ↦
                let less : y.k < x.k = All-contains (Falls x) xs y fx.0 c in
                let here : a.k ≡ y.k = ap (λ (z : Answered). z.k) (sym e) ∙ b.2 in
                absurd (omega (arith, less, here, same))
            | inr d ↦ (b.0, d, b.2)
          ])
          (λ b c.
          let y = k b (has_more a ones b c) in
          elim (has_cases x xs y.0 y.1) [
            | inl e ↦
                let less : b.k < a.k = All-contains (AlsoFalls a) ones b fa.0 c in
                let here : x.k ≡ b.k = ap (λ (z : Served). z.k) (sym e) ∙ y.2.0 in
                absurd (omega (arith, less, here, same))
            | inr d ↦ (y.0, d, y.2)
          ]),
    )

-- What they wrote.

abbrev pub of_life : Tag → ℕ → List Served → List Served
of_life tag life served = filter (is_of_life tag life) served

means_same : (entries : List Entry) (own : List Write) (x : Served) (a : Answered) → Match x a
    → eval x.op (under (ns_of x.op) (view entries x.read_at (ns_of x.op)) own)
    ≡ means entries own a
means_same entries own x a m =
    ap₂ (λ (op : Op) (at : ℕ). eval op (under (ns_of op) (view entries at (ns_of op)) own)) m.1.0
    m.1.1

pub life_is : (tag : Tag) (life : ℕ) (x : Served) → is_of_life tag life x ≡ true
    → (x.tag ≡ tag) × (x.life ≡ life)
life_is tag life x e =
    let b = both_true (same_tag x.tag tag) (nat_eq x.life life) e in
    (tag_is x.tag tag b.0, nat_is x.life life b.1)

module _ (entries : List Entry) (tag : Tag) (life : ℕ) where
  one_wrote : (x : Served) (served : List Served) (ones : List Answered) (test : Bool)
      → is_of_life tag life x ≡ test
      → x.meaning ≡ eval x.op (under (ns_of x.op) (view entries x.read_at (ns_of x.op))
      (written x.tag x.life served))
      → ((bs : List Answered) → Paired (of_life tag life served) bs
      → written tag life served ≡ wrote_over entries [] bs)
      → Paired (of_life tag life (x ∷ served)) ones
      → written tag life (x ∷ served) ≡ wrote_over entries [] ones
  one_wrote x served ones false is told more p =
      let rest : of_life tag life (x ∷ served) ≡ of_life tag life served = rw is refl in
      let skip : written tag life (x ∷ served) ≡ written tag life served ++ [] = rw is refl in
      skip ∙ append-nil (written tag life served)
      ∙ more ones (subst (λ (xs : List Served). Paired xs ones) rest p)
  one_wrote x served ones true is told more p =
      let first : of_life tag life (x ∷ served) ≡ x ∷ of_life tag life served = rw is refl in
      let add : written tag life (x ∷ served) ≡ written tag life served ++ writes_of x.meaning =
      rw is refl in
      add ∙ by ones (subst (λ (xs : List Served). Paired xs ones) first p)
    where
      by : (bs : List Answered) → Paired (x ∷ of_life tag life served) bs
          → written tag life served ++ writes_of x.meaning ≡ wrote_over entries [] bs
      by [] q = absurd q
      by (b ∷ bs) q =
          let old = more bs q.1 in
          let l = life_is tag life x is in
          let own : written x.tag x.life served ≡ wrote_over entries [] bs =
          ap₂ (λ (t : Tag) (n : ℕ). written t n served) l.0 l.1 ∙ old in
          let meaning : x.meaning ≡ means entries (wrote_over entries [] bs) b =
          told ∙ ap (λ (w : List Write). eval x.op
          (under (ns_of x.op) (view entries x.read_at (ns_of x.op)) w)) own
          ∙ means_same entries (wrote_over entries [] bs) x b q.0 in
          ap₂ (λ (w : List Write) (m : Meaning). w ++ writes_of m) old meaning

  all_wrote : (served : List Served) (ones : List Answered) → AreRight entries served
      → Paired (of_life tag life served) ones → written tag life served ≡ wrote_over entries [] ones
  all_wrote [] [] h p = refl
  all_wrote [] (a ∷ ones) h p = absurd p
  all_wrote (x ∷ served) ones h p =
      one_wrote x served ones (is_of_life tag life x) refl h.0
      (λ bs q. all_wrote served bs h.1 q) p

  -- the statements that were answered, in their order, and those that were served
  pub same_writes : (served : List Served) (ones : List Answered) → AreRight entries served
      → InOrder Falls (of_life tag life served) → InOrder AlsoFalls (turned ones)
      → ((x : Served) → Contains (of_life tag life served) x
      → (a : Answered) × Contains ones a × (a.k ≡ x.k))
      → ((a : Answered) → Contains ones a
      → (x : Served) × Contains (of_life tag life served) x × Match x a)
      → written tag life served ≡ own_writes entries [] ones
  same_writes served ones right fx fa h k =
      all_wrote served (turned ones) right
      (pair (of_life tag life served) (turned ones) fx fa
      (λ x c. let b = h x c in (b.0, has_turned ones b.0 b.1, b.2))
      (λ a c. k a (turned_has ones a c)))
      ∙ sym (wrote_turned entries [] ones)
