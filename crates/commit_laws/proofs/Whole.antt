-- On one shard each committed transaction is whole.
use Rattle.std.proofs.Common.{◌≡◌, ◌⊎◌, inl, inr, ◌<◌, ℕ, Bool, true, false, All, List, []}
use Rattle.std.proofs.Common.{◌∷◌, length, refl, sym, ap, subst, ◌∙◌, arith}
use Rattle.std.specs.Prelude.{Contains, IsOk, IsTrue}
use Rattle.std.proofs.lemmas.List.Elements.{All-contains}
use Rattle.txn_types.specs.declared.message.Answer.{Answer}
use Rattle.txn_types.specs.declared.message.Envelope.{Envelope}
use Rattle.txn_types.specs.declared.message.Msg.TheVariants as msg
use Rattle.txn_types.specs.declared.names.Tag.{Tag}
use Rattle.txn_semantics.specs.declared.commits.Answered.{Answered}
use Rattle.txn_semantics.specs.declared.commits.Entry.{Entry}
use Rattle.txn_semantics.specs.Answers.{Whole, began, own_writes, of_tag}
use Rattle.txn_semantics.specs.Writes.{write_set}
use Rattle.chunk_map.specs.Map.{Map, IsMap}
use Rattle.part_laws.specs.Each.{Each, Among}
use Rattle.part_laws.specs.Sound.{Served, is_of_life, written}
use Rattle.shard_core.specs.NodeStep.{NodeState}
use Rattle.txn_model.specs.declared.ran.Ran.{Ran}
use Rattle.cluster_core.specs.Ledger.{answered_in, fresh_ledger}
use Rattle.cluster_core.specs.Nodes.{Nodes, commits_of}
use Rattle.cluster_core.specs.Right.{boots_of}
use Rattle.cluster_core.specs.Trace.{IsTrace}
use Rattle.answer_laws.specs.Opened.{opened_in}
use Rattle.answer_laws.proofs.Lists.{has_first, has_more}
use Rattle.answer_laws.proofs.Running.{all_parts}
use Rattle.told_laws.proofs.Lists.{InOrder, contained, filter_has, has_cases}
use Rattle.told_laws.proofs.Placed.{all_once}
use Rattle.told_laws.proofs.Requests.{all_have_ids}
use Rattle.told_laws.proofs.Running.{all_booked}
use Rattle.serving_laws.specs.Telling.{IsToldBy, ToldThere}
use Rattle.one_shard_laws.specs.Concluding.{StartsAlone, ServedRight}
use Rattle.one_shard_laws.specs.Lasting.{OneShard, AllAsked, ComesAfter, WasCommitted}
use Rattle.one_shard_laws.specs.Lasting as la
use Rattle.one_shard_laws.proofs.Concluding.{once_right, served_right}
use Rattle.one_shard_laws.proofs.Joint.{runs_alone}
use Rattle.one_shard_laws.proofs.Listing.{each_all, each_more}
use Rattle.commit_laws.proofs.Running.{all_stand}
use Rattle.commit_laws.proofs.Pairing.{Falls, of_life, life_is}
use Rattle.commit_laws.proofs.Chaining.{WasAskedFor, IsToldIn, Serves, Speaks, all_replied}
use Rattle.commit_laws.proofs.Chaining.{what_it_wrote}

-- Elements of lists.

among_has : {A : Type 0} (x : A) (xs : List A) → Among x xs → Contains xs x
among_has x [] h = absurd h
among_has x (y ∷ xs) (inl e) =
    subst (λ (z : _). Contains (y ∷ xs) z) (sym e) (has_first y xs)
among_has x (y ∷ xs) (inr h) = has_more y xs x (among_has x xs h)

each_has : {A : Type 0} (P : A → Type 0) (xs : List A) → Each P xs → (x : A) → Contains xs x → P x
each_has P [] h x c = absurd (omega (arith, c.1))
each_has P (y ∷ xs) h x c =
    elim (has_cases y xs x c) [
      | inl e ↦ subst P (sym e) h.0
      | inr k ↦ each_has P xs h.1 x k
    ]

-- What is known of the shard.

asked_of : (sent : List Envelope) (served : List Served) → AllAsked sent served → (x : Served)
    → Contains served x → WasAskedFor sent x
asked_of sent [] h x c = absurd (omega (arith, c.1))
asked_of sent (y ∷ served) h x c =
    elim (has_cases y served x c) [
      | inl e ↦ subst (WasAskedFor sent) (sym e) (first h.0)
      | inr k ↦ asked_of sent served h.1 x k
    ]
  where
    first : la.WasAsked sent served y → WasAskedFor sent y
    first w = (w.0, w.1, w.2, w.3, w.4, boot w.5)
      where
        boot : la.BeganBy w.1 served y ⊎ la.WentOnBy w.1 y → (w.1.boot ≡ 0) ⊎ (w.1.boot ≡ y.life)
        boot (inl b) = inl b.0
        boot (inr b) = inr b.1

told_of : (served : List Served) (a : Answer) → IsToldBy served (msg.Answer a) → IsToldIn served a
told_of served a h done e =
    let t = subst (ToldThere served a) e h in
    (t.0, among_has t.0 served t.1, t.2, t.3, t.4, t.6)

falls_case : (tag : Tag) (life : ℕ) (x : Served) (served : List Served) (test : Bool)
    → is_of_life tag life x ≡ test → Each (ComesAfter x) served
    → InOrder Falls (of_life tag life served) → InOrder Falls (of_life tag life (x ∷ served))
falls_case tag life x served false is h more =
    let rest : of_life tag life (x ∷ served) ≡ of_life tag life served = rw is refl in
    subst (InOrder Falls) (sym rest) more
falls_case tag life x served true is h more =
    let first : of_life tag life (x ∷ served) ≡ x ∷ of_life tag life served = rw is refl in
    subst (InOrder Falls) (sym first) (
      contained (Falls x) (of_life tag life served) (λ y c.
          let f = filter_has (is_of_life tag life) served y c in
          let here = life_is tag life x is in
          let there = life_is tag life y f.1 in
          (each_has (ComesAfter x) served h y f.0 (there.0 ∙ sym here.0)
          (there.1 ∙ sym here.1)).0),
      more,
    )

falls_of : (tag : Tag) (life : ℕ) (served : List Served) → la.InOrder served
    → InOrder Falls (of_life tag life served)
falls_of tag life [] h = tt
falls_of tag life (x ∷ served) h =
    falls_case tag life x served (is_of_life tag life x) refl h.0
    (falls_of tag life served h.1)

serves : (nodes : Nodes) (r : ServedRight nodes) → Serves nodes.sent r.served
serves nodes r = record {
  asked = asked_of nodes.sent r.served r.asked;
  lives = each_has (λ (x : Served). 0 < x.life) r.served r.lives;
  told = λ e a there is.
      told_of r.served a (subst (IsToldBy r.served) is
      (All-contains (λ (e : Envelope). IsToldBy r.served e.msg) nodes.sent e r.told there));
  falls = λ tag life. falls_of tag life r.served r.rises;
}

-- And of its routers.

one_shard_map : (chunks : Map) (start : Nodes) → StartsAlone chunks start → chunks.shards ≡ 1
one_shard_map chunks start h =
    h.fresh.count ∙ ap (λ (shards : List NodeState). length shards) h.shards

speaks : (chunks : Map) (start : Nodes) (run : List Ran) (trace : List Nodes) (now : Nodes)
    → IsMap chunks → StartsAlone chunks start → IsTrace start run trace now
    → Speaks chunks now.sent (opened_in start.routers run) (answered_in start.routers run)
speaks chunks start run trace now is h k =
    let one = one_shard_map chunks start h in
    let stand = all_stand chunks is one start h.fresh run trace now k in
    let lists = (all_booked chunks start run trace now h.fresh k).book.lists in
    record {
      map = is;
      one = one;
      follow = stand.sent;
      places = stand.places;
      parts = all_parts chunks start run trace now h.fresh k;
      ids = all_have_ids (fresh_ledger start.routers) run;
      once = all_once chunks start run trace now h.fresh k;
      later = lists.later;
      opened = lists.of;
    }

-- what is said of an entry
abbrev IsWritten : List ℕ → List Entry → List Answered → Entry → Type 0
IsWritten boots entries told e = IsTrue (began boots e.tag)
    → e.writes ≡ write_set (own_writes entries [] (of_tag e.tag told))

abbrev AreReplied : List ℕ → List Answered → Entry → Type 0
AreReplied boots told e =
    IsTrue (began boots e.tag) → All (λ a. IsOk a.outcome) (of_tag e.tag told)

pub all_whole : (chunks : Map) (start : Nodes) (run : List Ran) (trace : List Nodes) (now : Nodes)
    → IsMap chunks → StartsAlone chunks start → IsTrace start run trace now
    → Whole (boots_of start.routers) (commits_of now) (answered_in start.routers run)
all_whole chunks start run trace now is h k =
    let o = runs_alone chunks start run trace now h k in
    let r = served_right now o in
    let s = speaks chunks start run trace now is h k in
    let v = serves now r in
    let begun = opened_in start.routers run in
    let told = answered_in start.routers run in
    let boots = boots_of start.routers in
    let entries = commits_of now in
    record {
      writes = each_all (IsWritten boots entries told) entries
          (each_more (WasCommitted now.sent r.served) (IsWritten boots entries told) (λ e w any.
          w.5 ∙ ap write_set (subst (λ (tag : Tag). written tag w.1.boot r.served
          ≡ own_writes entries [] (of_tag tag told)) w.4
          (what_it_wrote chunks now.sent begun told r.served s v w.0 w.1 w.2 w.3 entries r.reads)))
          entries r.whole);
      replied = each_all (AreReplied boots told) entries
          (each_more (WasCommitted now.sent r.served) (AreReplied boots told) (λ e w any.
          subst (λ (tag : Tag). All (λ a. IsOk a.outcome) (of_tag tag told)) w.4
          (all_replied chunks now.sent begun told r.served s v w.0 w.1 w.2 w.3)) entries r.whole);
      once = once_right now o boots;
    }
