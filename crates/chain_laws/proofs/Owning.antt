-- What the answered statements of a transaction wrote before one of them is what was served of them
-- before it, in one boot.
use Rattle.std.proofs.Common.{◌≡◌, ◌⊎◌, inl, inr, ◌<◌, ◌&&◌, ℕ, Bool, true, false, List, [], ◌∷◌}
use Rattle.std.proofs.Common.{◌++◌, filter, nat_eq, nat_lt, refl, sym, ap, ap₂, subst, ◌∙◌, arith}
use Rattle.std.proofs.Common.{append-nil, if◌then◌else◌, All}
use Rattle.std.specs.Prelude.{Contains}
use Rattle.std.proofs.lemmas.Bool.{lt-ltb, le-ltb, ltb-true}
use Rattle.std.proofs.lemmas.List.Elements.{All-contains}
use Rattle.txn_types.specs.Order.{same_tag}
use Rattle.txn_types.specs.declared.names.Tag.{Tag}
use Rattle.txn_types.specs.declared.operation.Op.{Op}
use Rattle.txn_types.specs.declared.write.Write.{Write}
use Rattle.txn_semantics.specs.declared.commits.Entry.{Entry}
use Rattle.txn_semantics.specs.declared.commits.Answered.{Answered}
use Rattle.txn_semantics.specs.Answers.{means, own_writes, of_tag}
use Rattle.txn_semantics.specs.Meaning.{Meaning, eval, writes_of, ns_of}
use Rattle.txn_semantics.specs.Rows.{under}
use Rattle.txn_semantics.specs.View.{view}
use Rattle.part_laws.specs.Each.{Each, Among}
use Rattle.part_laws.specs.Now.{AreRight}
use Rattle.part_laws.specs.Sound.{Served, is_of_life, written}
use Rattle.participant.proofs.Tags.{tag_self, tag_same}
use Rattle.answer_laws.proofs.Lists.{nat_is, both_true, has_first, has_more}
use Rattle.told_laws.specs.Places.{IsLater}
use Rattle.told_laws.proofs.Lists.{InOrder, has_cases, has_filter, filter_has, order_filter}
use Rattle.told_laws.proofs.Lists.{contained, same_nat}

-- of two statements of one transaction in one boot the newer has the greater place, and both read at
-- one moment
abbrev pub ComesAfter : Served → Served → Type 0
ComesAfter x y = y.tag ≡ x.tag → y.life ≡ x.life → (y.k < x.k) × (y.read_at ≡ x.read_at)

abbrev pub Rising : List Served → Type 0
Rising [] = Unit {0}
Rising (x ∷ served) = Each (ComesAfter x) served × Rising served

-- a served statement was answered
pub record HasAnswer (answered : List Answered) (y : Served) : Type 0 where
  pub answer : Answered
  pub among : Contains answered answer
  pub tag : answer.tag ≡ y.tag
  pub k : answer.k ≡ y.k
  pub op : answer.op ≡ y.op
  pub read_at : answer.read_at ≡ y.read_at

-- a statement of that place of a transaction was served, in a boot
pub record IsServed (served : List Served) (tag : Tag) (life k : ℕ) : Type 0 where
  pub x : Served
  pub among : Among x served
  pub tag_is : x.tag ≡ tag
  pub life_is : x.life ≡ life
  pub k_is : x.k ≡ k

pub each_last : {X : Type 0} (P : X → Type 0) (xs : List X) (x : X) → Each P xs → Among x xs → P x
each_last P [] x h a = absurd a
each_last P (y ∷ xs) x h (inl e) = subst P (sym e) h.0
each_last P (y ∷ xs) x h (inr a) = each_last P xs x h.1 a

pub each_among : {X : Type 0} (P : X → Type 0) (xs : List X) → ((x : X) → Among x xs → P x)
    → Each P xs
each_among P [] f = tt
each_among P (x ∷ xs) f = (f x (inl refl), each_among P xs (λ y a. f y (inr a)))

-- Places below a bound.

abbrev Below : Answered → Answered → Type 0
Below a b = a.k < b.k

none_at : {A : Type 0} (xs : List A) → ((x : A) → Contains xs x → ⊥) → xs ≡ []
none_at [] f = refl
none_at (x ∷ xs) f = absurd (f x (has_first x xs))

below_none : (bound : ℕ) (bs : List Answered) → ((a : Answered) → Contains bs a → a.k < bound → ⊥)
    → filter (λ (a : Answered). nat_lt a.k bound) bs ≡ []
below_none bound bs f =
    none_at (filter (λ (a : Answered). nat_lt a.k bound) bs) (λ a h.
    let b = filter_has (λ (a : Answered). nat_lt a.k bound) bs a h in
    f a b.0 (ltb-true a.k bound b.1))

kept : (bound : ℕ) (a : Answered) (bs : List Answered) → a.k < bound
    → filter (λ (a : Answered). nat_lt a.k bound) (a ∷ bs)
    ≡ a ∷ filter (λ (a : Answered). nat_lt a.k bound) bs
kept bound a bs h = let yes : nat_lt a.k bound ≡ true = lt-ltb a.k bound h in rw yes refl

dropped : (bound : ℕ) (a : Answered) (bs : List Answered) → (a.k < bound → ⊥)
    → filter (λ (a : Answered). nat_lt a.k bound) (a ∷ bs)
    ≡ filter (λ (a : Answered). nat_lt a.k bound) bs
dropped bound a bs h =
    let no : nat_lt a.k bound ≡ false = le-ltb a.k bound (omega (arith, h)) in rw no refl

-- below a bound is what is below an element, and that element, where none stands between
split_below : (bound : ℕ) (x : Answered) (bs : List Answered) → InOrder Below bs → Contains bs x
    → x.k < bound → ((a : Answered) → Contains bs a → x.k < a.k → a.k < bound → ⊥)
    → filter (λ (a : Answered). nat_lt a.k bound) bs
    ≡ filter (λ (a : Answered). nat_lt a.k x.k) bs ++ x ∷ []
split_below bound x [] order there less none = absurd (omega (arith, there.1))
split_below bound x (z ∷ bs) order there less none =
    by (λ h. split_below bound x bs order.1 h less (λ a c. none a (has_more z bs a c)))
    (has_cases z bs x there)
  where
    by : (Contains bs x → filter (λ (a : Answered). nat_lt a.k bound) bs
        ≡ filter (λ (a : Answered). nat_lt a.k x.k) bs ++ x ∷ [])
        → (x ≡ z) ⊎ Contains bs x → filter (λ (a : Answered). nat_lt a.k bound) (z ∷ bs)
        ≡ filter (λ (a : Answered). nat_lt a.k x.k) (z ∷ bs) ++ x ∷ []
    by more (inl e) =
        let above = λ (a : Answered) (h : Contains bs a).
        subst (λ (y : Answered). y.k < a.k) (sym e) (All-contains (Below z) bs a order.0 h) in
        let less_z : z.k < bound = subst (λ (y : Answered). y.k < bound) e less in
        let same : x.k ≡ z.k = ap (λ (y : Answered). y.k) e in
        kept bound z bs less_z
        ∙ ap (λ (more : List Answered). z ∷ more)
        (below_none bound bs (λ a h l. none a (has_more z bs a h) (above a h) l))
        ∙ ap (λ (y : Answered). y ∷ []) (sym e)
        ∙ ap (λ (more : List Answered). more ++ x ∷ [])
        (sym (dropped x.k z bs (λ l. absurd (omega (arith, l, same)))
        ∙ below_none x.k bs (λ a h l. let up = above a h in absurd (omega (arith, up, l)))))
    by more (inr h) =
        let under : z.k < x.k = All-contains (Below z) bs x order.0 h in
        kept bound z bs (omega (arith, under, less))
        ∙ ap (λ (rest : List Answered). z ∷ rest) (more h)
        ∙ ap (λ (more : List Answered). more ++ x ∷ []) (sym (kept x.k z bs under))

-- What one more statement writes.
own_more : (entries : List Entry) (own : List Write) (bs : List Answered) (a : Answered)
    → own_writes entries own (bs ++ a ∷ [])
    ≡ own_writes entries own bs ++ writes_of (means entries (own_writes entries own bs) a)
own_more entries own [] a = refl
own_more entries own (b ∷ bs) a =
    own_more entries (own ++ writes_of (means entries own b)) bs a

-- the meaning of an answered statement is that of the one that was served
pub means_same : (entries : List Entry) (own : List Write) (a : Answered) (y : Served)
    → a.op ≡ y.op → a.read_at ≡ y.read_at
    → means entries own a
    ≡ eval y.op (under (ns_of y.op) (view entries y.read_at (ns_of y.op)) own)
means_same entries own a y op at =
    ap₂ (λ (o : Op) (t : ℕ). eval o (under (ns_of o) (view entries t (ns_of o)) own)) op at

module _ (entries : List Entry) (answered : List Answered) (tag : Tag) (life : ℕ)
    (later : InOrder IsLater answered) where
  abbrev mine : List Answered
  mine = of_tag tag answered

  mine_is : (a : Answered) → Contains mine a → Contains answered a × (a.tag ≡ tag)
  mine_is a h =
      let b = filter_has (λ (a : Answered). same_tag a.tag tag) answered a h in
      (b.0, tag_same a.tag tag b.1)

  is_mine : (a : Answered) → Contains answered a → a.tag ≡ tag → Contains mine a
  is_mine a h e = has_filter (λ (a : Answered). same_tag a.tag tag) answered a
      (ap (λ (t : Tag). same_tag t tag) e ∙ tag_self tag) h

  in_order : (bs : List Answered) → ((a : Answered) → Contains bs a → a.tag ≡ tag)
      → InOrder IsLater bs → InOrder Below bs
  in_order [] f h = tt
  in_order (a ∷ bs) f h = (
    each_below bs (λ b c. f b (has_more a bs b c)) h.0,
    in_order bs (λ b c. f b (has_more a bs b c)) h.1,
  )
    where
      each_below : (cs : List Answered) → ((b : Answered) → Contains cs b → b.tag ≡ tag)
          → All (IsLater a) cs → All (Below a) cs
      each_below cs g k = contained (Below a) cs (λ b c.
          All-contains (IsLater a) cs b k c (f a (has_first a bs) ∙ sym (g b c)))

  mine_order : InOrder Below mine
  mine_order = in_order mine (λ a h. (mine_is a h).1)
      (order_filter IsLater (λ (a : Answered). same_tag a.tag tag) answered later)

  abbrev below : ℕ → List Answered
  below k = filter (λ (a : Answered). nat_lt a.k k) mine

  abbrev Answers : ℕ → List Served → Type 0
  Answers k served =
      Each (λ y. y.tag ≡ tag → y.life ≡ life → (y.k < k) × HasAnswer answered y) served

  abbrev Serves : ℕ → List Served → Type 0
  Serves k served = (a : Answered) → Contains answered a → a.tag ≡ tag → a.k < k
      → IsServed served tag life a.k

  not_first : (y : Served) (served : List Served) (k : ℕ) → IsServed (y ∷ served) tag life k
      → (y.tag ≡ tag → y.life ≡ life → y.k ≡ k → ⊥) → IsServed served tag life k
  not_first y served k h apart = by h.among
    where
      by : Among h.x (y ∷ served) → IsServed served tag life k
      by (inl e) = absurd (apart (ap (λ (x : Served). x.tag) (sym e) ∙ h.tag_is)
          (ap (λ (x : Served). x.life) (sym e) ∙ h.life_is)
          (ap (λ (x : Served). x.k) (sym e) ∙ h.k_is))
      by (inr a) = record
          { x = h.x; among = a; tag_is = h.tag_is; life_is = h.life_is; k_is = h.k_is }

  pub own_is : (served : List Served) (k : ℕ) → AreRight entries served → Rising served
      → Answers k served → Serves k served
      → own_writes entries [] (below k) ≡ written tag life served
  own_is [] k right rising answers serves =
      ap (own_writes entries []) (below_none k mine (λ a h less.
      let m = mine_is a h in (serves a m.0 m.1 less).among))
  own_is (y ∷ served) k right rising answers serves =
      by (λ j a s. own_is served j right.1 rising.1 a s) (is_of_life tag life y) refl
    where
      by : ((j : ℕ) → Answers j served → Serves j served
          → own_writes entries [] (below j) ≡ written tag life served)
          → (test : Bool) → is_of_life tag life y ≡ test
          → own_writes entries [] (below k) ≡ written tag life (y ∷ served)
      by more false is =
          more k answers.1 (λ a h t less. not_first y served a.k (serves a h t less)
          (λ e l same. other e l))
          ∙ sym (append-nil (written tag life served))
          ∙ ap (λ (b : Bool). written tag life served ++ (if b then writes_of y.meaning else []))
          (sym is)
        where
          other : y.tag ≡ tag → y.life ≡ life → ⊥
          other t l =
              let yes : is_of_life tag life y ≡ true =
              ap₂ (λ (a b : Bool). a && b) (ap (λ (x : Tag). same_tag x tag) t ∙ tag_self tag)
              (ap (λ (x : ℕ). nat_eq x life) l ∙ same_nat life) in
              let differs : true ≡ false = sym yes ∙ is in
              absurd (grind (arith, differs))
      by more true is =
          let both = both_true (same_tag y.tag tag) (nat_eq y.life life) is in
          let yt : y.tag ≡ tag = tag_same y.tag tag both.0 in
          let yl : y.life ≡ life = nat_is y.life life both.1 in
          let here = answers.0 yt yl in
          let ans = here.1.answer in
          let w = written tag life served in
          let first : own_writes entries [] (below y.k) ≡ w =
          more y.k
          (each_among (λ z. z.tag ≡ tag → z.life ≡ life → (z.k < y.k) × HasAnswer answered z)
          served (λ z a t l. (
            (each_last (ComesAfter y) served z rising.0 a (t ∙ sym yt) (l ∙ sym yl)).0,
            (each_last (λ y. y.tag ≡ tag → y.life ≡ life → (y.k < k) × HasAnswer answered y) served
                z answers.1 a t l).1,
          )))
          (λ a h t less. not_first y served a.k
          (serves a h t (let up = here.0 in omega (arith, less, up)))
          (λ e l same. absurd (omega (arith, less, same)))) in
          let ak : ans.k ≡ y.k = here.1.k in
          let split : below k ≡ below y.k ++ ans ∷ [] =
          split_below k ans mine mine_order (is_mine ans here.1.among (here.1.tag ∙ yt))
          (subst (λ (n : ℕ). n < k) (sym ak) here.0)
          (λ a h up less. between yt yl a h (subst (λ (n : ℕ). n < a.k) ak up) less)
          ∙ ap (λ (n : ℕ). below n ++ ans ∷ []) ak in
          let meant : means entries w ans ≡ y.meaning =
          means_same entries w ans y here.1.op here.1.read_at
          ∙ ap₂ (λ (t : Tag) (l : ℕ). eval y.op (under (ns_of y.op)
          (view entries y.read_at (ns_of y.op)) (written t l served))) (sym yt) (sym yl)
          ∙ sym right.0 in
          ap (own_writes entries []) split ∙ own_more entries [] (below y.k) ans
          ∙ ap (λ (own : List Write). own ++ writes_of (means entries own ans)) first
          ∙ ap (λ (m : Meaning). w ++ writes_of m) meant
          ∙ ap (λ (b : Bool). w ++ (if b then writes_of y.meaning else [])) (sym is)
        where
          found : y.tag ≡ tag → y.life ≡ life → (a : Answered) → y.k < a.k
              → (s : IsServed (y ∷ served) tag life a.k) → Among s.x (y ∷ served) → ⊥
          found yt yl a up s (inl e) =
              let same : s.x.k ≡ y.k = ap (λ (x : Served). x.k) e in
              let it : s.x.k ≡ a.k = s.k_is in
              absurd (omega (arith, up, same, it))
          found yt yl a up s (inr b) =
              let less = (each_last (ComesAfter y) served s.x rising.0 b
              (s.tag_is ∙ sym yt) (s.life_is ∙ sym yl)).0 in
              let it : s.x.k ≡ a.k = s.k_is in
              absurd (omega (arith, up, less, it))

          between : y.tag ≡ tag → y.life ≡ life → (a : Answered) → Contains mine a → y.k < a.k
              → a.k < k → ⊥
          between yt yl a h up less =
              let m = mine_is a h in
              let s = serves a m.0 m.1 less in
              found yt yl a up s s.among
