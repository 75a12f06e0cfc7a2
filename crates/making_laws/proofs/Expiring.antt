-- What is left of sessions where transactions expire.
use Rattle.std.proofs.Common.{◌≡◌, ◌⊎◌, inl, inr, ◌∙◌, ◌-◌, ℕ, Bool, true, false, List, [], ◌∷◌}
use Rattle.std.proofs.Common.{Option, Some, None, option_map, refl, sym, ap, subst, nat_lt, find}
use Rattle.std.proofs.Common.{if◌then◌else◌, cond}
use Rattle.std.specs.declared.cmp.Ordering.TheVariants.{Less}
use Rattle.std.specs.Ordering.{is_eq, ordering_reverse}
use Rattle.txn_types.specs.BySession.{entry_of}
use Rattle.txn_types.specs.Order.{same_lsid, lsid_cmp}
use Rattle.txn_types.specs.declared.cause.Cause.{Cause}
use Rattle.txn_types.specs.declared.cause.Cause.TheVariants as cause
use Rattle.txn_types.specs.declared.names.Tag.{Tag}
use Rattle.txn_types.specs.declared.node.Lsid.{Lsid}
use Rattle.txn_types.proofs.Orders.{lsid_total}
use Rattle.txn_semantics.specs.Keyed.{AllAbove, Rises}
use Rattle.session_table.specs.declared.session.Session.{Session}
use Rattle.session_table.specs.declared.session.SessionState.TheVariants as state
use Rattle.participant.specs.declared.said.Open.{Open}
use Rattle.participant.specs.Expiry.{expire, expire_all, lifetime}
use Rattle.participant.specs.Part.{Part, session, open_of, ends_live, end_live, aborted}
use Rattle.participant.proofs.Ends.{entry_elsewhere, entry_without}
use Rattle.participant.proofs.Moving.{entry_here}
use Rattle.participant.proofs.Tags.{lsid_same, lsid_self}
use Rattle.cluster_core.specs.Causes.{is_aborted}
use Rattle.making_laws.proofs.Leaving.{is_kept, FromOld, Origin, Leaves, LivesStand, LiveAt}
use Rattle.making_laws.proofs.Leaving.{out_lives, none_aborted, aborted_is}
use Rattle.making_laws.proofs.Turns.{ToldAs, Repeats, Fresh, AllKept}

abbrev expired_of : Session → ℕ → ℕ → Session
expired_of s begun wall =
    record { number = s.number; tag = s.tag; state = state.Aborted (cause.Expired begun wall) 0 }

-- the session's live transaction has expired
pub record Expired (p q : Part) (lsid : Lsid) : Type 0 where
  pub old : Session
  pub there : session p lsid ≡ Some old
  pub live : old.state ≡ state.Live
  pub begun : ℕ
  pub wall : ℕ
  pub now : session q lsid ≡ Some (expired_of old begun wall)

abbrev pub Expires : Part → Part → Type 0
Expires p q = (lsid : Lsid) → (session q lsid ≡ session p lsid) ⊎ Expired p q lsid

some_is : {A : Type 0} (a b : A) → Some a ≡ Some b → a ≡ b
some_is a b e = cc

-- what was expired isn't live
pub no_live : {X : Type 0} (s : Session) (begun wall : ℕ)
    → (expired_of s begun wall).state ≡ state.Live
    → X
no_live s begun wall e = let wrong : true ≡ false = ap is_aborted e in cc

both_expire : (p q r : Part) → Expires p q → Expires q r → Expires p r
both_expire p q r a b lsid =
    elim (b lsid) [
      | inl same ↦ elim (a lsid) [
        | inl first ↦ inl (same ∙ first)
        | inr x ↦ inr (record {
          old = x.old;
          there = x.there;
          live = x.live;
          begun = x.begun;
          wall = x.wall;
          now = same ∙ x.now;
        })
      ]
      | inr y ↦ elim (a lsid) [
        | inl first ↦ inr (record {
          old = y.old;
          there = sym first ∙ y.there;
          live = y.live;
          begun = y.begun;
          wall = y.wall;
          now = y.now;
        })
        | inr x ↦
            let one : expired_of x.old x.begun x.wall ≡ y.old =
            some_is (expired_of x.old x.begun x.wall) y.old (sym x.now ∙ y.there) in
            no_live x.old x.begun x.wall (ap (λ (s : Session). s.state) one ∙ y.live)
      ]
    ]

one_case : (p : Part) (lsid : Lsid) (begun wall : ℕ) (s : Session) → session p lsid ≡ Some s
    → s.state ≡ state.Live → (other : Lsid) (test : Bool) → same_lsid other lsid ≡ test
    → (session (aborted p lsid s (cause.Expired begun wall)) other ≡ session p other)
    ⊎ Expired p (aborted p lsid s (cause.Expired begun wall)) other
one_case p lsid begun wall s is live other true e =
    let same : other ≡ lsid = lsid_same other lsid e in
    let q = aborted p lsid s (cause.Expired begun wall) in
    inr (record {
      old = s;
      there = ap (session p) same ∙ is;
      live = live;
      begun = begun;
      wall = wall;
      now = ap (session q) same ∙ entry_here lsid (expired_of s begun wall) p.sessions.entries;
    })
one_case p lsid begun wall s is live other false e =
    inl (entry_elsewhere other lsid e (expired_of s begun wall) p.sessions.entries)

one_expires : (p : Part) (lsid : Lsid) (begun wall : ℕ) (x : Option Session) → session p lsid ≡ x
    → LiveAt p lsid → Expires p (ends_live p lsid (cause.Expired begun wall) x)
one_expires p lsid begun wall None is h other = inl refl
one_expires p lsid begun wall (Some s) is h other =
    let one : h.own ≡ s = some_is h.own s (sym h.there ∙ is) in
    one_case p lsid begun wall s is (ap (λ (x : Session). x.state) (sym one) ∙ h.live) other
    (same_lsid other lsid) refl

one_lives : (p : Part) (lsid : Lsid) (why : Cause) (x : Option Session) → LivesStand p
    → LivesStand (ends_live p lsid why x)
one_lives p lsid why None h = h
one_lives p lsid why (Some s) h =
    out_lives p (aborted p lsid s why) lsid
    (record { number = s.number; tag = s.tag; state = state.Aborted why 0 }) refl refl h

one_others : (p : Part) (lsid : Lsid) (why : Cause) (x : Option Session) (other : Lsid)
    → same_lsid other lsid ≡ false → open_of (ends_live p lsid why x) other ≡ open_of p other
one_others p lsid why None other apart = refl
one_others p lsid why (Some s) other apart = entry_without other lsid apart p.live

-- what is still to be looked at is live
abbrev StandIn : List (Lsid × Open) → List (Lsid × Open) → Type 0
StandIn all [] = Unit {0}
StandIn all (entry ∷ rest) = (entry_of entry.0 all ≡ Some entry.1) × StandIn all rest

less_apart : (a b : Lsid) → lsid_cmp a b ≡ Less → same_lsid b a ≡ false
less_apart a b less = ap is_eq (lsid_total.antisymm b a ∙ ap ordering_reverse less)

stand_on : (low : Lsid) (all now rest : List (Lsid × Open))
    → ((other : Lsid) → same_lsid other low ≡ false → entry_of other now ≡ entry_of other all)
    → AllAbove lsid_cmp low rest → StandIn all rest → StandIn now rest
stand_on low all now [] same above h = tt
stand_on low all now (entry ∷ rest) same above h = (
  same entry.0 (less_apart low entry.0 above.0) ∙ h.0,
  stand_on low all now rest same above.1 h.1,
)

behind_one : (entry : Lsid × Open) (all : List (Lsid × Open)) (other : Lsid)
    → same_lsid other entry.0 ≡ false → entry_of other (entry ∷ all) ≡ entry_of other all
behind_one entry all other apart =
    ap (λ (b : Bool). option_map (λ (x : Lsid × Open). x.1) (cond b (Some entry)
    (find (λ (x : Lsid × Open). same_lsid other x.0) all))) apart

stand_all : (rows : List (Lsid × Open)) → Rises lsid_cmp rows → StandIn rows rows
stand_all [] r = tt
stand_all (entry ∷ rows) r = (
  ap (λ (b : Bool). option_map (λ (x : Lsid × Open). x.1) (cond b (Some entry)
      (find (λ (x : Lsid × Open). same_lsid entry.0 x.0) rows))) (lsid_self entry.0),
  stand_on entry.0 rows (entry ∷ rows) rows (behind_one entry rows) r.0 (stand_all rows r.1),
)

abbrev Left : Part → Part → Type 0
Left p q = Expires p q × LivesStand q

rest_case : (wall : ℕ) (entry : Lsid × Open) (rest : List (Lsid × Open)) (p : Part) (test : Bool)
    → LivesStand p → AllAbove lsid_cmp entry.0 rest → StandIn p.live (entry ∷ rest)
    → ((q : Part) → LivesStand q → StandIn q.live rest → Left q (expire_all wall rest q))
    → Left p (expire_all wall rest (if test
    then end_live p entry.0 (cause.Expired entry.1.begun wall) else p))
rest_case wall entry rest p true h above stand more =
    let q = end_live p entry.0 (cause.Expired entry.1.begun wall) in
    let why = cause.Expired entry.1.begun wall in
    let live = one_lives p entry.0 why (session p entry.0) h in
    let next = more q live (stand_on entry.0 p.live q.live rest (one_others p entry.0 why
    (session p entry.0)) above stand.1) in (
      both_expire p q (expire_all wall rest q)
          (one_expires p entry.0 entry.1.begun wall (session p entry.0) refl
          (h.live entry.0 entry.1 stand.0)) next.0,
      next.1,
    )
rest_case wall entry rest p false h above stand more = more p h stand.1

rest_expires : (wall : ℕ) (rest : List (Lsid × Open)) (p : Part) → LivesStand p
    → Rises lsid_cmp rest → StandIn p.live rest → Left p (expire_all wall rest p)
rest_expires wall [] p h rises stand = (λ lsid. inl refl, h)
rest_expires wall (entry ∷ rest) p h rises stand =
    rest_case wall entry rest p (nat_lt lifetime (wall - entry.1.begun)) h rises.0 stand
    (λ q live now. rest_expires wall rest q live rises.1 now)

pub expire_left : (p : Part) (wall : ℕ) → LivesStand p → Left p (expire p wall)
unfolding expire
expire_left p wall h = rest_expires wall p.live p h h.rises (stand_all p.live h.rises)

-- What is said of sessions then is said of those before.

module _ (p q : Part) (e : Expires p q) where
  was_live : (lsid : Lsid) (x : Expired p q lsid) (tag : Tag) (why : Cause) → Fresh p lsid tag why
  was_live lsid x tag why old at there own ended =
      let one : x.old ≡ old = some_is x.old old (sym x.there ∙ there) in
      none_aborted x.old.state why at (ap is_aborted x.live)
      (ap (λ (s : Session). s.state) one ∙ ended)

  fresh_before : (lsid : Lsid) (tag : Tag) (why : Cause) → Fresh q lsid tag why
      → Fresh p lsid tag why
  fresh_before lsid tag why fresh old at there own ended =
      elim (e lsid) [
        | inl same ↦ fresh old at (same ∙ there) own ended
        | inr x ↦ was_live lsid x tag why old at there own ended
      ]

  repeats_before : (lsid : Lsid) (tag : Tag) (why : Cause) → Repeats q lsid tag why
      → Fresh p lsid tag why ⊎ Repeats p lsid tag why
  repeats_before lsid tag why h =
      elim (e lsid) [
        | inl same ↦ inr (record {
          old = h.old;
          at = h.at;
          there = sym same ∙ h.there;
          own = h.own;
          ended = h.ended;
        })
        | inr x ↦ inl (was_live lsid x tag why)
      ]

  pub told_before : (lsid : Lsid) (tag : Tag) (why : Cause) → ToldAs q lsid tag why
      → ToldAs p lsid tag why
  told_before lsid tag why (inl free) = inl free
  told_before lsid tag why (inr (inl fresh)) = inr (inl (fresh_before lsid tag why fresh))
  told_before lsid tag why (inr (inr h)) = inr (repeats_before lsid tag why h)

  pub kept_then : AllKept p → AllKept q
  kept_then kept lsid s why at there ended =
      elim (e lsid) [
        | inl same ↦ kept lsid s why at (sym same ∙ there) ended
        | inr x ↦
            let one : expired_of x.old x.begun x.wall ≡ s =
            some_is (expired_of x.old x.begun x.wall) s (sym x.now ∙ there) in
            subst (λ (w : Cause). is_kept w ≡ true)
            (aborted_is (cause.Expired x.begun x.wall) why 0 at
            (ap (λ (n : Session). n.state) one ∙ ended)) refl
      ]

  expired_origin : (T : Lsid → Session → Cause → Type 0) (lsid : Lsid) (new : Session) (why : Cause)
      (at : ℕ) → new.state ≡ state.Aborted why at → (f : FromOld q lsid new why)
      → (x : Expired p q lsid) → Origin T p lsid new why
  expired_origin T lsid new why at ended f x =
      let now = expired_of x.old x.begun x.wall in
      let one : now ≡ f.old = some_is now f.old (sym x.now ∙ f.there) in
      elim f.was [
        | inl same ↦
            let whole : now ≡ new = one ∙ sym same in
            inl (record {
              old = x.old;
              there = x.there;
              was = inr (
                ap is_aborted x.live,
                ap (λ (n : Session). n.tag) (sym whole),
                subst (λ (w : Cause). is_kept w ≡ true)
                    (aborted_is (cause.Expired x.begun x.wall) why 0 at
                    (ap (λ (n : Session). n.state) whole ∙ ended)) refl,
              );
            })
        | inr u ↦
            let wrong : true ≡ false = ap (λ (n : Session). is_aborted n.state) one ∙ u.0 in
            cc
      ]

  origin_before : (T : Lsid → Session → Cause → Type 0) (lsid : Lsid) (new : Session) (why : Cause)
      (at : ℕ) → new.state ≡ state.Aborted why at → Origin T q lsid new why
      → Origin T p lsid new why
  origin_before T lsid new why at ended (inr t) = inr t
  origin_before T lsid new why at ended (inl f) =
      elim (e lsid) [
        | inl same ↦ inl (record { old = f.old; there = sym same ∙ f.there; was = f.was })
        | inr x ↦ expired_origin T lsid new why at ended f x
      ]

  pub leaves_before : (T : Lsid → Session → Cause → Type 0) (r : Part)
      → (LivesStand p → LivesStand q) → Leaves T q r → Leaves T p r
  leaves_before T r lives h = record {
    aborts = λ lsid new why at there ended. origin_before T lsid new why at ended
        (h.aborts lsid new why at there ended);
    lives = λ k. h.lives (lives k);
  }
