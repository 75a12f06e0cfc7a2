-- Sessions in a list: none stands twice; and which connections wait in them.
use Rattle.std.proofs.Common.{◌≡◌, inl, inr, ◌||◌, ◌&&◌, Bool, true, false, ℕ, All, List, [], ◌∷◌}
use Rattle.std.proofs.Common.{find, cond, Some, None, refl, sym, ap, ap₂, subst, ◌∙◌, arith}
use Rattle.std.specs.Prelude.{Contains}
use Rattle.std.specs.List.{list_any}
use Rattle.std.proofs.lemmas.List.Elements.{All-nil, All-cons, All-head, All-tail, All-contains}
use Rattle.txn_types.specs.BySession.{BySession, entry_of, with_entry}
use Rattle.txn_types.specs.Order.{same_lsid}
use Rattle.txn_types.specs.declared.node.Lsid.{Lsid}
use Rattle.router_state.specs.declared.deed.Deed.{Deed}
use Rattle.router_state.specs.declared.state.Session.{Session}
use Rattle.router_state.specs.Deeds.{each_session}
use Rattle.router_state.specs.State.{asker_of, is_from}
use Rattle.shard_image.proofs.Sessions.{own_lsid, lsid_is}
use Rattle.world_laws.proofs.Going.{first_is, rest_is, some_same}
use Rattle.world_laws.proofs.PartTimes.{entries_put}
use Rattle.answer_laws.proofs.Lists.{has_first, has_more}
use Rattle.told_laws.proofs.Lists.{has_cases}

-- Tests.

pub or_left : (a b : Bool) → a ≡ true → (a || b) ≡ true
or_left a b e = ap (λ (x : Bool). x || b) e

pub or_right : (a b : Bool) → b ≡ true → (a || b) ≡ true
or_right true b e = refl
or_right false b e = e

pub or_step : (a b c : Bool) → (b ≡ true → c ≡ true) → (a || b) ≡ true → (a || c) ≡ true
or_step true b c f e = refl
or_step false b c f e = f e

pub or_only : (a b : Bool) → a ≡ false → (a || b) ≡ true → b ≡ true
or_only a b none e = ap (λ (x : Bool). x || b) (sym none) ∙ e

pub or_first : (a b : Bool) → b ≡ false → (a || b) ≡ true → a ≡ true
or_first true b none e = refl
or_first false b none e = sym none ∙ e

pub and_both : (a b : Bool) → a ≡ true → b ≡ true → (a && b) ≡ true
and_both a b e f = ap₂ (λ (x y : Bool). x && y) e f

pub four_or : (a b c d r s : Bool) → (a ≡ true → (c || r) ≡ true) → (b ≡ true → (d || s) ≡ true)
    → (a || b) ≡ true → ((c || d) || (r || s)) ≡ true
four_or true b c d r s f g e = first c d r s (f refl)
  where
    first : (c d r s : Bool) → (c || r) ≡ true → ((c || d) || (r || s)) ≡ true
    first true d r s e = refl
    first false true r s e = refl
    first false false true s e = refl
    first false false false s e = grind (arith, e)
four_or false b c d r s f g e = second c d r s (g e)
  where
    second : (c d r s : Bool) → (d || s) ≡ true → ((c || d) || (r || s)) ≡ true
    second true d r s e = refl
    second false true r s e = refl
    second false false true s e = refl
    second false false false s e = e

pub not_both : {X : Type 0} (a : Bool) → a ≡ true → a ≡ false → X
not_both a e f = let no : true ≡ false = sym e ∙ f in absurd (grind (arith, no))

pub found_passes : {A : Type 0} (p : A → Bool) (xs : List A) (x : A) → find p xs ≡ Some x
    → Contains xs x × (p x ≡ true)
found_passes p [] x e = let no : None ≡ Some x = e in absurd (grind (arith, no))
found_passes p (y ∷ xs) x e = by (p y) refl (λ k. found_passes p xs x k)
  where
    by : (test : Bool) → p y ≡ test → (find p xs ≡ Some x → Contains xs x × (p x ≡ true))
        → Contains (y ∷ xs) x × (p x ≡ true)
    by true is more =
        let same : y ≡ x = some_same y x
        (ap (λ (b : Bool). cond b (Some y) (find p xs)) (sym is) ∙ e) in
        (subst (Contains (y ∷ xs)) same (has_first y xs), subst (λ (z : _). p z ≡ true) same is)
    by false is more =
        let k = more (ap (λ (b : Bool). cond b (Some y) (find p xs)) (sym is) ∙ e) in
        (has_more y xs x k.0, k.1)

-- Each session has one place.

abbrev pub NotUnder : Lsid → Lsid × Session → Type 0
NotUnder lsid other = same_lsid other.0 lsid ≡ false

abbrev pub Once : BySession Session → Type 0
Once [] = Unit {0}
Once (entry ∷ entries) = All (NotUnder entry.0) entries × Once entries

pub visible : (entries : BySession Session) (x : Lsid × Session) → Once entries
    → Contains entries x → entry_of x.0 entries ≡ Some x.1
visible [] x h c = absurd (omega (arith, c.1))
visible (entry ∷ entries) x h c =
    elim (has_cases entry entries x c) [
      | inl e ↦ subst (λ (y : Lsid × Session). entry_of y.0 (entry ∷ entries) ≡ Some y.1) (sym e)
          (first_is entry.0 entry entries (own_lsid entry.0))
      | inr k ↦ rest_is x.0 entry entries (All-contains (NotUnder entry.0) entries x h.0 k) ∙
          visible entries x h.1 k
    ]

apart_each : (act : Lsid → Session → Deed) (lsid : Lsid) (entries : BySession Session)
    → All (NotUnder lsid) entries → All (NotUnder lsid) (each_session act entries).0
apart_each act lsid [] h = All-nil (NotUnder lsid)
apart_each act lsid (entry ∷ entries) h =
    All-cons (NotUnder lsid) (entry.0, (act entry.0 entry.1).session) (each_session act entries).0
    (All-head (NotUnder lsid) entry entries h)
    (apart_each act lsid entries (All-tail (NotUnder lsid) entry entries h))

pub once_each : (act : Lsid → Session → Deed) (entries : BySession Session) → Once entries
    → Once (each_session act entries).0
once_each act [] h = tt
once_each act (entry ∷ entries) h = (
  apart_each act entry.0 entries h.0,
  once_each act entries h.1,
)

pub once_put : (lsid : Lsid) (v : Session) (entries : BySession Session) → Once entries
    → Once (with_entry lsid v entries)
once_put lsid v [] h = (All-nil (NotUnder lsid), tt)
once_put lsid v (entry ∷ entries) h = by (same_lsid lsid entry.0) refl (once_put lsid v entries h.1)
  where
    by : (test : Bool) → same_lsid lsid entry.0 ≡ test → Once (with_entry lsid v entries)
        → Once (with_entry lsid v (entry ∷ entries))
    by true is more = rw is (
      subst (λ (key : Lsid). All (NotUnder key) entries) (sym (lsid_is lsid entry.0 is)) h.0,
      h.1,
    )
    by false is more = rw is (entries_put (NotUnder entry.0) lsid v entries is h.0, more)

-- Who waits.

abbrev pub waits_in : ℕ → BySession Session → Bool
waits_in conn entries = list_any (λ entry. is_from conn (asker_of entry.1.doing)) entries

pub put_waits : (conn : ℕ) (lsid : Lsid) (v : Session) (entries : BySession Session)
    → ((old : Session) → entry_of lsid entries ≡ Some old → is_from conn (asker_of old.doing) ≡
    false)
    → waits_in conn entries ≡ true → waits_in conn (with_entry lsid v entries) ≡ true
put_waits conn lsid v [] free e = let no : false ≡ true = e in absurd (grind (arith, no))
put_waits conn lsid v (entry ∷ entries) free e =
    by (same_lsid lsid entry.0) refl
    (λ apart. put_waits conn lsid v entries
    (λ old k. free old (rest_is lsid entry entries apart ∙ k)))
  where
    by : (test : Bool) → same_lsid lsid entry.0 ≡ test
        → (same_lsid lsid entry.0 ≡ false → waits_in conn entries ≡ true
        → waits_in conn (with_entry lsid v entries) ≡ true)
        → waits_in conn (with_entry lsid v (entry ∷ entries)) ≡ true
    by true is more =
        rw is (or_right (is_from conn (asker_of v.doing)) (waits_in conn entries)
        (or_only (is_from conn (asker_of entry.1.doing)) (waits_in conn entries)
        (free entry.1 (first_is lsid entry entries is)) e))
    by false is more =
        rw is (or_step (is_from conn (asker_of entry.1.doing)) (waits_in conn entries)
        (waits_in conn (with_entry lsid v entries)) (more is) e)

pub put_waits_here : (conn : ℕ) (lsid : Lsid) (v : Session) (entries : BySession Session)
    → is_from conn (asker_of v.doing) ≡ true → waits_in conn (with_entry lsid v entries) ≡ true
put_waits_here conn lsid v [] e = or_left (is_from conn (asker_of v.doing)) false e
put_waits_here conn lsid v (entry ∷ entries) e = by (same_lsid lsid entry.0) refl
    (put_waits_here conn lsid v entries e)
  where
    by : (test : Bool) → same_lsid lsid entry.0 ≡ test
        → waits_in conn (with_entry lsid v entries) ≡ true
        → waits_in conn (with_entry lsid v (entry ∷ entries)) ≡ true
    by true is more = rw is (or_left (is_from conn (asker_of v.doing)) (waits_in conn entries) e)
    by false is more = rw is (or_right (is_from conn (asker_of entry.1.doing))
        (waits_in conn (with_entry lsid v entries)) more)

-- where none waits, each doesn't
pub none_waits : (conn : ℕ) (entries : BySession Session) → waits_in conn entries ≡ false
    → All (λ entry. is_from conn (asker_of entry.1.doing) ≡ false) entries
none_waits conn [] e = All-nil (λ (entry : Lsid × Session). is_from conn (asker_of entry.1.doing)
    ≡ false)
none_waits conn (entry ∷ entries) e =
    let b = neither (is_from conn (asker_of entry.1.doing)) (waits_in conn entries) e in
    All-cons (λ (entry : Lsid × Session). is_from conn (asker_of entry.1.doing) ≡ false) entry
    entries b.0 (none_waits conn entries b.1)
  where
    neither : (a b : Bool) → (a || b) ≡ false → (a ≡ false) × (b ≡ false)
    neither true b e = grind arith
    neither false b e = (refl, e)
