-- Statements that wrote nothing as of one list of commits wrote nothing as of another, where they
-- are told alike.
use Rattle.std.proofs.Common.{◌≡◌, inl, inr, ◌<◌, ◌++◌, ◌==◌, ℕ, zero, suc, false, not}
use Rattle.std.proofs.Common.{List, [], ◌∷◌, length, nat_lt, refl, sym, ap, subst, ◌∙◌, arith}
use Rattle.std.specs.Prelude.{Contains}
use Rattle.std.proofs.lemmas.Bool.{ltb-true}
use Rattle.std.proofs.lemmas.List.Elements.{All-contains}
use Rattle.txn_types.specs.Order.{same_tag}
use Rattle.txn_types.specs.declared.names.Tag.{Tag}
use Rattle.txn_types.specs.declared.write.Write.{Write}
use Rattle.txn_semantics.specs.Answers.{ReadsRight, before, means, of_tag, own_writes}
use Rattle.txn_semantics.specs.Meaning.{ns_of, reply_of, writes_of}
use Rattle.txn_semantics.specs.View.{view}
use Rattle.txn_semantics.specs.declared.commits.Answered.{Answered}
use Rattle.txn_semantics.specs.declared.commits.Entry.{Entry}
use Rattle.participant.proofs.Tags.{tag_self}
use Rattle.cluster_core.specs.Deciding.{has_written}
use Rattle.world_laws.proofs.Naming.{tag_is}
use Rattle.answer_laws.proofs.Lists.{has_first, has_more}
use Rattle.told_laws.proofs.Lists.{filter_has, has_filter, has_cases, none_there}
use Rattle.decision_laws.proofs.Replies.{no_cons, writes_alike}

front_none : (xs ys : List Write) → xs ++ ys ≡ [] → xs ≡ []
front_none [] ys e = refl
front_none (x ∷ xs) ys e = no_cons x (xs ++ ys) e

module _ (entries : List Entry) where
  -- it writes nothing where its transaction wrote nothing before it
  abbrev pub IsIdle : Answered → Type 0
  IsIdle a = writes_of (means entries [] a) ≡ []

  first_none : (own : List Write) (ones : List Answered) → own_writes entries own ones ≡ []
      → own ≡ []
  first_none own [] e = e
  first_none own (a ∷ ones) e =
      front_none own (writes_of (means entries own a))
      (first_none (own ++ writes_of (means entries own a)) ones e)

  each_idle : (ones : List Answered) → own_writes entries [] ones ≡ [] → (a : Answered)
      → Contains ones a → IsIdle a
  each_idle [] e a c = none_there a c
  each_idle (x ∷ ones) e a c =
      let none : IsIdle x = first_none (writes_of (means entries [] x)) ones e in
      elim (has_cases x ones a c) [
        | inl same ↦ subst IsIdle (sym same) none
        | inr more ↦ each_idle ones (subst (λ (w : List Write). own_writes entries w ones ≡ []) none
            e) a more
      ]

  idle_none : (ones : List Answered) → ((a : Answered) → Contains ones a → IsIdle a)
      → own_writes entries [] ones ≡ []
  idle_none [] h = refl
  idle_none (x ∷ ones) h =
      subst (λ (w : List Write). own_writes entries w ones ≡ []) (sym (h x (has_first x ones)))
      (idle_none ones (λ a c. h a (has_more x ones a c)))

  -- what it is told then
  told_idle : (ones : List Answered) → ReadsRight entries ones → (a : Answered) → Contains ones a
      → ((b : Answered) → Contains ones b → b.tag ≡ a.tag → b.k < a.k → IsIdle b)
      → a.outcome ≡ reply_of (means entries [] a)
  told_idle ones right a c idle =
      let own : own_writes entries [] (before a ones) ≡ [] =
      idle_none (before a ones) (λ b d.
      let f = filter_has (λ (x : Answered). nat_lt x.k a.k) (of_tag a.tag ones) b d in
      let g = filter_has (λ (x : Answered). same_tag x.tag a.tag) ones b f.0 in
      idle b g.0 (tag_is b.tag a.tag g.1) (ltb-true b.k a.k f.1)) in
      All-contains (λ (x : Answered). x.outcome
      ≡ reply_of (means entries (own_writes entries [] (before x ones)) x)) ones a right c
      ∙ ap (λ (w : List Write). reply_of (means entries w a)) own

below_next : (a b n : ℕ) → a < b → b < suc n → a < n
below_next a b n h k = omega (arith, h, k)

below_own : (a : ℕ) → a < suc a
below_own a = omega arith

not_below : {X : Type 0} (a : ℕ) → a < zero → X
not_below a h = absurd (omega (arith, h))

-- what was told as of the old commits is told as of the new ones
module _ (old new : List Entry) (told later : List Answered) (was : ReadsRight old told)
    (is : ReadsRight new later) (tag : Tag)
    (back : (a : Answered) → Contains later a → a.tag ≡ tag → Contains told a)
    (none : own_writes old [] (of_tag tag told) ≡ []) where
  idle_before : (a : Answered) → Contains told a → a.tag ≡ tag → IsIdle old a
  idle_before a c same =
      each_idle old (of_tag tag told) none a
      (has_filter (λ (x : Answered). same_tag x.tag tag) told a
      (ap (λ (t : Tag). same_tag t tag) same ∙ tag_self tag) c)

  idle_then : (n : ℕ) (a : Answered) → Contains later a → a.tag ≡ tag → a.k < n → IsIdle new a
  idle_then zero a c same less = not_below a.k less
  idle_then (suc n) a c same less =
      let said = told_idle new later is a c
      (λ b d own below. idle_then n b d (own ∙ same) (below_next b.k a.k n below less)) in
      let first = told_idle old told was a (back a c same)
      (λ b d own below. idle_before b d (own ∙ same)) in
      writes_alike a.op (view old a.read_at (ns_of a.op)) (view new a.read_at (ns_of a.op))
      (sym first ∙ said) (idle_before a (back a c same) same)

  pub none_then : own_writes new [] (of_tag tag later) ≡ []
  none_then =
      idle_none new (of_tag tag later) (λ a d.
      let g = filter_has (λ (x : Answered). same_tag x.tag tag) later a d in
      idle_then (suc a.k) a g.0 (tag_is a.tag tag g.1) (below_own a.k))

pub none_written : (entries : List Entry) (told : List Answered) (tag : Tag)
    → own_writes entries [] (of_tag tag told) ≡ [] → has_written entries told tag ≡ false
none_written entries told tag e = ap (λ (writes : List Write). not (length writes == 0)) e
