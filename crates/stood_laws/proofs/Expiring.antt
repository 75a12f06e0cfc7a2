-- What an event's wall ends: live transactions that are too old, and nothing else.
use Rattle.std.proofs.Common.{◌≡◌, ◌⊎◌, inl, inr, ◌<◌, ◌-◌, ℕ, Bool, true, false, List, [], ◌∷◌}
use Rattle.std.proofs.Common.{Option, Some, None, refl, ap, subst, ◌∙◌, sym, arith}
use Rattle.std.proofs.Common.{nat_lt, if◌then◌else◌}
use Rattle.std.specs.Ordering.{is_eq, ordering_reverse}
use Rattle.std.specs.declared.cmp.Ordering.TheVariants.{Less}
use Rattle.txn_types.proofs.Orders.{lsid_total}
use Rattle.txn_types.specs.BySession.{entry_of}
use Rattle.txn_types.specs.Order.{same_lsid, lsid_cmp}
use Rattle.txn_types.specs.declared.cause.Cause.{Cause}
use Rattle.txn_types.specs.declared.cause.Cause.TheVariants as cause
use Rattle.txn_types.specs.declared.node.Lsid.{Lsid}
use Rattle.txn_semantics.specs.Keyed.{AllAbove, Rises}
use Rattle.session_table.specs.declared.session.Session.{Session}
use Rattle.session_table.specs.declared.session.SessionState.TheVariants as state
use Rattle.participant.specs.declared.said.Open.{Open}
use Rattle.participant.specs.Part.{Part, session, open_of, ends_live, end_live}
use Rattle.participant.specs.Expiry.{lifetime, expire_all, expire}
use Rattle.participant.proofs.Ends.{entry_elsewhere}
use Rattle.participant.proofs.Moving.{entry_here}
use Rattle.participant.proofs.Tags.{lsid_same, lsid_self}
use Rattle.part_laws.specs.Each.{Among}

-- a session's transaction as the wall leaves it: as it was, or ended as too old
abbrev pub IsExpired : List (Lsid × Open) → ℕ → Lsid → Session → Session → Type 0
IsExpired live wall lsid old new =
    (o : Open) × Among (lsid, o) live × (new.state ≡ state.Aborted (cause.Expired o.begun wall) 0)
    × (60 < wall - o.begun)

abbrev pub WasAmong : List (Lsid × Open) → Part → ℕ → Lsid → Session → Type 0
WasAmong live p wall lsid new =
    (session p lsid ≡ Some new)
    ⊎ ((old : Session) × (session p lsid ≡ Some old) × (new.number ≡ old.number)
    × (new.tag ≡ old.tag) × IsExpired live wall lsid old new)

less_apart : (a b : Lsid) → lsid_cmp a b ≡ Less → same_lsid b a ≡ false
less_apart a b less = ap is_eq (lsid_total.antisymm b a ∙ ap ordering_reverse less)

apart_among : (lsid other : Lsid) (o : Open) (rest : List (Lsid × Open))
    → AllAbove lsid_cmp lsid rest → Among (other, o) rest → same_lsid other lsid ≡ false
apart_among lsid other o [] above none = elim none [ ]
apart_among lsid other o (entry ∷ rest) above (inl is) =
    subst (λ (x : Lsid × Open). same_lsid x.0 lsid ≡ false) (sym is)
    (less_apart lsid entry.0 above.0)
apart_among lsid other o (entry ∷ rest) above (inr more) =
    apart_among lsid other o rest above.1 more

-- one is ended
module _ (wall : ℕ) (entry : Lsid × Open) (rest : List (Lsid × Open)) (p : Part)
    (above : AllAbove lsid_cmp entry.0 rest) where
  abbrev why : Cause
  why = cause.Expired entry.1.begun wall

  from_ended : (s : Session) → session p entry.0 ≡ Some s → 60 < wall - entry.1.begun
      → (other : Lsid) (new : Session) (b : Bool) → same_lsid other entry.0 ≡ b
      → WasAmong rest (ends_live p entry.0 why (Some s)) wall other new
      → WasAmong (entry ∷ rest) p wall other new
  from_ended s is old other new true same (inl there) =
      let l : other ≡ entry.0 = lsid_same other entry.0 same in
      let t : Session = record {
        number = s.number;
        tag = s.tag;
        state = state.Aborted why 0;
      } in
      let both : Some new ≡ Some t = sym there
      ∙ ap (session (ends_live p entry.0 why (Some s))) l
      ∙ entry_here entry.0 t p.sessions.entries in
      let one : new ≡ t = cc in
      inr (
        s,
        ap (session p) l ∙ is,
        ap (λ (x : Session). x.number) one,
        ap (λ (x : Session). x.tag) one,
        (
          entry.1,
          inl (ap (λ (x : Lsid). (x, entry.1)) l),
          ap (λ (x : Session). x.state) one,
          old,
        ),
      )
  from_ended s is old other new false apart (inl there) =
      inl (sym (entry_elsewhere other entry.0 apart
      (record { number = s.number; tag = s.tag; state = state.Aborted why 0 }) p.sessions.entries)
      ∙ there)
  from_ended s is old other new b same (inr h) =
      let x = h.4 in
      let apart = apart_among entry.0 other x.0 rest above x.1 in
      inr (
        h.0,
        sym (entry_elsewhere other entry.0 apart
            (record { number = s.number; tag = s.tag; state = state.Aborted why 0 })
            p.sessions.entries) ∙ h.1,
        h.2,
        h.3,
        (x.0, inr x.1, x.2, x.3),
      )

  from_same : (other : Lsid) (new : Session) → WasAmong rest p wall other new
      → WasAmong (entry ∷ rest) p wall other new
  from_same other new (inl there) = inl there
  from_same other new (inr h) =
      let x = h.4 in inr (h.0, h.1, h.2, h.3, (x.0, inr x.1, x.2, x.3))

  from_live : (o : Option Session) → session p entry.0 ≡ o → 60 < wall - entry.1.begun
      → (other : Lsid) (new : Session) → WasAmong rest (ends_live p entry.0 why o) wall other new
      → WasAmong (entry ∷ rest) p wall other new
  from_live None is old other new h = from_same other new h
  from_live (Some s) is old other new h =
      from_ended s is old other new (same_lsid other entry.0) refl h

  from_either : (b : Bool) → nat_lt lifetime (wall - entry.1.begun) ≡ b
      → (other : Lsid) (new : Session)
      → WasAmong rest (if b then end_live p entry.0 why else p) wall other new
      → WasAmong (entry ∷ rest) p wall other new
  from_either true old other new h =
      from_live (session p entry.0) refl (grind (arith, old)) other new h
  from_either false young other new h = from_same other new h

all_expire : (wall : ℕ) (rest : List (Lsid × Open)) (p : Part) → Rises lsid_cmp rest
    → (other : Lsid) (new : Session) → session (expire_all wall rest p) other ≡ Some new
    → WasAmong rest p wall other new
all_expire wall [] p rises other new there = inl there
all_expire wall (entry ∷ rest) p rises other new there =
    from_either wall entry rest p rises.0 (nat_lt lifetime (wall - entry.1.begun)) refl other new
    (all_expire wall rest (if nat_lt lifetime (wall - entry.1.begun)
    then end_live p entry.0 (cause.Expired entry.1.begun wall) else p) rises.1 other new there)

-- what is among live ones is found there
among_found : (other : Lsid) (o : Open) (rows : List (Lsid × Open)) → Rises lsid_cmp rows
    → Among (other, o) rows → entry_of other rows ≡ Some o
among_found other o [] rises none = elim none [ ]
among_found other o (row ∷ rows) rises (inl is) =
    subst (λ (x : Lsid × Open). entry_of other (x ∷ rows) ≡ Some o) is (rw (lsid_self other) refl)
among_found other o (row ∷ rows) rises (inr more) =
    rw (apart_among row.0 other o rows rises.0 more) (among_found other o rows rises.1 more)

-- the session's transaction was the same; it is as it was, or it was live and has ended as too old
pub record Expiring (p : Part) (wall : ℕ) (lsid : Lsid) (old new : Session) : Type 0 where
  pub was : session p lsid ≡ Some old
  pub number : new.number ≡ old.number
  pub tag : new.tag ≡ old.tag
  pub state_is : (new ≡ old) ⊎ ((o : Open) × (open_of p lsid ≡ Some o)
      × (new.state ≡ state.Aborted (cause.Expired o.begun wall) 0) × (60 < wall - o.begun))

expiring : (p : Part) (wall : ℕ) (lsid : Lsid) (new : Session) → Rises lsid_cmp p.live
    → WasAmong p.live p wall lsid new → (old : Session) × Expiring p wall lsid old new
expiring p wall lsid new rises (inl there) =
    (new, record { was = there; number = refl; tag = refl; state_is = inl refl })
expiring p wall lsid new rises (inr h) =
    let x = h.4 in (
      h.0,
      record {
        was = h.1;
        number = h.2;
        tag = h.3;
        state_is = inr (x.0, among_found lsid x.0 p.live rises x.1, x.2, x.3);
      },
    )

pub expire_for : (p : Part) (wall : ℕ) → Rises lsid_cmp p.live → (lsid : Lsid) (new : Session)
    → session (expire p wall) lsid ≡ Some new → (old : Session) × Expiring p wall lsid old new
unfolding expire
expire_for p wall rises lsid new there =
    expiring p wall lsid new rises (all_expire wall p.live p rises lsid new there)
