-- Lists under sessions, each of which stands there once.
use Rattle.std.proofs.Common.{◌≡◌, inl, inr, Bool, true, false, [], ◌∷◌, Some, None, refl, sym, ap}
use Rattle.std.proofs.Common.{subst, ◌∙◌, arith}
use Rattle.std.specs.Prelude.{Contains}
use Rattle.std.proofs.lemmas.List.Elements.{Contains-append_cases}
use Rattle.txn_types.specs.BySession.{BySession, entry_of, with_entry}
use Rattle.txn_types.specs.Order.{same_lsid}
use Rattle.txn_types.specs.declared.node.Lsid.{Lsid}
use Rattle.router_state.specs.declared.deed.Deed.{Deed}
use Rattle.router_state.specs.declared.state.Session.{Session}
use Rattle.router_state.specs.Deeds.{each_session}
use Rattle.router_state.specs.State.{Post}
use Rattle.shard_image.proofs.Sessions.{own_lsid, lsid_is, entry_elsewhere}
use Rattle.world_laws.proofs.Going.{first_is, rest_is}
use Rattle.answer_laws.proofs.Lists.{has_first, has_more}
use Rattle.told_laws.proofs.Lists.{has_cases}

abbrev pub OnceUnder : {A : Type 0} → BySession A → Type 0
OnceUnder [] = Unit {0}
OnceUnder (entry ∷ entries) = (entry_of entry.0 entries ≡ None) × OnceUnder entries

other_way : (a b : Lsid) → same_lsid a b ≡ false → same_lsid b a ≡ false
other_way a b e = by (same_lsid b a) refl
  where
    by : (test : Bool) → same_lsid b a ≡ test → test ≡ false
    by true is =
        let same : b ≡ a = lsid_is b a is in
        let yes : same_lsid a b ≡ true = subst (λ (l : Lsid). same_lsid a l ≡ true) (sym same)
        (own_lsid a) in
        sym yes ∙ e
    by false is = refl

put_case : {A : Type 0} (lsid : Lsid) (a : A) (entry : Lsid × A) (entries : BySession A)
    (test : Bool) → same_lsid lsid entry.0 ≡ test → OnceUnder (entry ∷ entries)
    → OnceUnder (with_entry lsid a entries) → OnceUnder (with_entry lsid a (entry ∷ entries))
put_case lsid a entry entries true e h more =
    rw e (
      subst (λ (l : Lsid). entry_of l entries ≡ None) (sym (lsid_is lsid entry.0 e)) h.0,
      h.1,
    )
put_case lsid a entry entries false e h more =
    rw e (entry_elsewhere entry.0 lsid (other_way lsid entry.0 e) a entries ∙ h.0, more)

pub put_once : {A : Type 0} (lsid : Lsid) (a : A) (entries : BySession A) → OnceUnder entries
    → OnceUnder (with_entry lsid a entries)
put_once lsid a [] h = (refl, tt)
put_once lsid a (entry ∷ entries) h =
    put_case lsid a entry entries (same_lsid lsid entry.0) refl h (put_once lsid a entries h.1)

-- what stands in the list stands under its session
here_case : {A : Type 0} (entry : Lsid × A) (entries : BySession A) (x : Lsid × A) (test : Bool)
    → same_lsid x.0 entry.0 ≡ test → entry_of entry.0 entries ≡ None
    → entry_of x.0 entries ≡ Some x.1 → entry_of x.0 (entry ∷ entries) ≡ Some x.1
here_case entry entries x true e none h =
    let same : entry_of x.0 entries ≡ entry_of entry.0 entries =
    ap (λ (l : Lsid). entry_of l entries) (lsid_is x.0 entry.0 e) in
    let no : None ≡ Some x.1 = sym none ∙ sym same ∙ h in
    grind (arith, no)
here_case entry entries x false e none h = rest_is x.0 entry entries e ∙ h

pub stands_here : {A : Type 0} (entries : BySession A) (x : Lsid × A) → OnceUnder entries
    → Contains entries x → entry_of x.0 entries ≡ Some x.1
stands_here [] x h c = absurd (omega (arith, c.1))
stands_here (entry ∷ entries) x h c =
    elim (has_cases entry entries x c) [
      | inl e ↦ subst (λ (y : Lsid × _). entry_of y.0 (entry ∷ entries) ≡ Some y.1) (sym e)
          (first_is entry.0 entry entries (own_lsid entry.0))
      | inr k ↦ here_case entry entries x (same_lsid x.0 entry.0) refl h.0
          (stands_here entries x h.1 k)
    ]

-- What is done in each session.

module _ (act : Lsid → Session → Deed) where
  abbrev behind : Lsid × Session → Lsid × Session
  behind entry = (entry.0, (act entry.0 entry.1).session)

  none_case : (lsid : Lsid) (entry : Lsid × Session) (entries : BySession Session) (test : Bool)
      → same_lsid lsid entry.0 ≡ test → entry_of lsid (entry ∷ entries) ≡ None
      → (entry_of lsid entries ≡ None → entry_of lsid (each_session act entries).0 ≡ None)
      → entry_of lsid (each_session act (entry ∷ entries)).0 ≡ None
  none_case lsid entry entries true e h more =
      let no : Some entry.1 ≡ None = sym (first_is lsid entry entries e) ∙ h in grind (arith, no)
  none_case lsid entry entries false e h more =
      rest_is lsid (behind entry) (each_session act entries).0 e
      ∙ more (sym (rest_is lsid entry entries e) ∙ h)

  none_behind : (lsid : Lsid) (entries : BySession Session) → entry_of lsid entries ≡ None
      → entry_of lsid (each_session act entries).0 ≡ None
  none_behind lsid [] h = refl
  none_behind lsid (entry ∷ entries) h =
      none_case lsid entry entries (same_lsid lsid entry.0) refl h (none_behind lsid entries)

  pub each_once : (entries : BySession Session) → OnceUnder entries
      → OnceUnder (each_session act entries).0
  each_once [] h = tt
  each_once (entry ∷ entries) h = (none_behind entry.0 entries h.0, each_once entries h.1)

  pub each_has : (entries : BySession Session) (x : Lsid × Session) → Contains entries x
      → Contains (each_session act entries).0 (behind x)
  each_has [] x c = absurd (omega (arith, c.1))
  each_has (entry ∷ entries) x c =
      elim (has_cases entry entries x c) [
        | inl e ↦ subst (λ (y : Lsid × Session).
            Contains (each_session act (entry ∷ entries)).0 (behind y)) (sym e)
            (has_first (behind entry) (each_session act entries).0)
        | inr k ↦ has_more (behind entry) (each_session act entries).0 (behind x)
            (each_has entries x k)
      ]

  -- what goes out comes from a session
  pub each_sends : (entries : BySession Session) (post : Post)
      → Contains (each_session act entries).1.sends post
      → (x : Lsid × Session) × Contains entries x × Contains (act x.0 x.1).given.sends post
  each_sends [] post c = absurd (omega (arith, c.1))
  each_sends (entry ∷ entries) post c =
      elim (Contains-append_cases (act entry.0 entry.1).given.sends
      (each_session act entries).1.sends post c) [
        | inl k ↦ (entry, has_first entry entries, k)
        | inr k ↦
            let more = each_sends entries post k in
            (more.0, has_more entry entries more.0 more.1, more.2)
      ]
