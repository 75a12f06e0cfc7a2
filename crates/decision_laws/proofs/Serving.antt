-- What is known of the one shard and of its routers, as what a transaction wrote is found by it.
use Rattle.std.proofs.Common.{◌≡◌, ◌⊎◌, inl, inr, ◌<◌, ◌≤◌, ℕ, Bool, true, false, List, [], ◌∷◌}
use Rattle.std.proofs.Common.{refl, sym, subst, ◌∙◌}
use Rattle.std.specs.Prelude.{Contains}
use Rattle.std.proofs.lemmas.List.Elements.{All-contains}
use Rattle.txn_types.specs.declared.message.Answer.{Answer}
use Rattle.txn_types.specs.declared.message.Envelope.{Envelope}
use Rattle.txn_types.specs.declared.message.Msg.TheVariants as msg
use Rattle.txn_types.specs.declared.names.Tag.{Tag}
use Rattle.chunk_map.specs.Map.{Map, IsMap}
use Rattle.journal_rec.specs.declared.record.Rec.{Rec}
use Rattle.part_laws.specs.Each.{Each, Among}
use Rattle.part_laws.specs.Sound.{Served, is_of_life}
use Rattle.shard_core.specs.State.{ShardState}
use Rattle.txn_model.specs.declared.ran.Ran.{Ran}
use Rattle.cluster_core.specs.Ledger.{answered_in, fresh_ledger}
use Rattle.cluster_core.specs.Nodes.{Nodes}
use Rattle.cluster_core.specs.Trace.{IsTrace}
use Rattle.answer_laws.specs.Opened.{opened_in}
use Rattle.answer_laws.proofs.Lists.{has_first, has_more}
use Rattle.answer_laws.proofs.Running.{all_parts}
use Rattle.told_laws.proofs.Lists.{InOrder, contained, filter_has, has_cases, none_there}
use Rattle.told_laws.proofs.Placed.{all_once}
use Rattle.told_laws.proofs.Requests.{all_have_ids}
use Rattle.told_laws.proofs.Running.{all_booked}
use Rattle.serving_laws.specs.Telling.{IsToldBy, ToldThere}
use Rattle.one_shard_laws.specs.Concluding.{StartsAlone}
use Rattle.one_shard_laws.specs.Lasting.{Lasts, AllAsked, ComesAfter}
use Rattle.one_shard_laws.specs.Lasting as la
use Rattle.commit_laws.proofs.Chaining.{WasAskedFor, IsToldIn, Serves, Speaks}
use Rattle.commit_laws.proofs.Pairing.{Falls, of_life, life_is}
use Rattle.commit_laws.proofs.Running.{all_stand}
use Rattle.decision_laws.proofs.Lost.{one_map}

among_has : {A : Type 0} (x : A) (xs : List A) → Among x xs → Contains xs x
among_has x [] h = absurd h
among_has x (y ∷ xs) (inl e) =
    subst (λ (z : _). Contains (y ∷ xs) z) (sym e) (has_first y xs)
among_has x (y ∷ xs) (inr h) = has_more y xs x (among_has x xs h)

pub each_has : {A : Type 0} (P : A → Type 0) (xs : List A) → Each P xs → (x : A) → Contains xs x
    → P x
each_has P [] h x c = none_there x c
each_has P (y ∷ xs) h x c =
    elim (has_cases y xs x c) [
      | inl e ↦ subst P (sym e) h.0
      | inr k ↦ each_has P xs h.1 x k
    ]

-- The shard.

asked_of : (sent : List Envelope) (served : List Served) → AllAsked sent served → (x : Served)
    → Contains served x → WasAskedFor sent x
asked_of sent [] h x c = none_there x c
asked_of sent (y ∷ served) h x c =
    elim (has_cases y served x c) [
      | inl e ↦ subst (WasAskedFor sent) (sym e) (first h.0)
      | inr k ↦ asked_of sent served h.1 x k
    ]
  where
    first : la.WasAsked sent served y → WasAskedFor sent y
    first w = (w.0, w.1, w.2, w.3, w.4, boot w.5)
      where
        boot : la.BeganBy w.1 served y ⊎ la.WentOnBy w.1 y → (w.1.boot ≡ 0) ⊎ (w.1.boot ≡ y.life)
        boot (inl b) = inl b.0
        boot (inr b) = inr b.1

told_of : (served : List Served) (a : Answer) → IsToldBy served (msg.Answer a) → IsToldIn served a
told_of served a h done e =
    let t = subst (ToldThere served a) e h in
    (t.0, among_has t.0 served t.1, t.2, t.3, t.4, t.6)

falls_case : (tag : Tag) (life : ℕ) (x : Served) (served : List Served) (test : Bool)
    → is_of_life tag life x ≡ test → Each (ComesAfter x) served
    → InOrder Falls (of_life tag life served) → InOrder Falls (of_life tag life (x ∷ served))
falls_case tag life x served false is h more =
    let rest : of_life tag life (x ∷ served) ≡ of_life tag life served = rw is refl in
    subst (InOrder Falls) (sym rest) more
falls_case tag life x served true is h more =
    let first : of_life tag life (x ∷ served) ≡ x ∷ of_life tag life served = rw is refl in
    subst (InOrder Falls) (sym first) (
      contained (Falls x) (of_life tag life served) (λ y c.
          let f = filter_has (is_of_life tag life) served y c in
          let here = life_is tag life x is in
          let there = life_is tag life y f.1 in
          (each_has (ComesAfter x) served h y f.0 (there.0 ∙ sym here.0)
          (there.1 ∙ sym here.1)).0),
      more,
    )

falls_of : (tag : Tag) (life : ℕ) (served : List Served) → la.InOrder served
    → InOrder Falls (of_life tag life served)
falls_of tag life [] h = tt
falls_of tag life (x ∷ served) h =
    falls_case tag life x served (is_of_life tag life x) refl h.0
    (falls_of tag life served h.1)

pub serves : (sent : List Envelope) (recs : List Rec) (s : ShardState) (served : List Served)
    → Lasts sent recs s served → Serves sent served
serves sent recs s served l = record {
  asked = asked_of sent served l.asked;
  lives = λ x c. (each_has (λ (y : Served). (0 < y.life) × (y.life ≤ s.part.boot)) served l.lives x
      c).0;
  told = λ e a there is.
      told_of served a (subst (IsToldBy served) is
      (All-contains (λ (e : Envelope). IsToldBy served e.msg) sent e l.told there));
  falls = λ tag life. falls_of tag life served l.rises;
}

-- Its routers.

pub speaks : (chunks : Map) (start : Nodes) (run : List Ran) (trace : List Nodes) (now : Nodes)
    → IsMap chunks → StartsAlone chunks start → IsTrace start run trace now
    → Speaks chunks now.sent (opened_in start.routers run) (answered_in start.routers run)
speaks chunks start run trace now is h k =
    let one = one_map chunks start h in
    let stand = all_stand chunks is one start h.fresh run trace now k in
    let lists = (all_booked chunks start run trace now h.fresh k).book.lists in
    record {
      map = is;
      one = one;
      follow = stand.sent;
      places = stand.places;
      parts = all_parts chunks start run trace now h.fresh k;
      ids = all_have_ids (fresh_ledger start.routers) run;
      once = all_once chunks start run trace now h.fresh k;
      later = lists.later;
      opened = lists.of;
    }
