-- Sessions keep their numbers where transactions expire.
use Rattle.std.proofs.Common.{◌≡◌, ◌<ℤ◌, ◌-◌, ℕ, ℤ, Bool, true, false, List, [], ◌∷◌, Option, Some}
use Rattle.std.proofs.Common.{None, refl, ap, subst, ◌∙◌, sym, nat_lt, if◌then◌else◌}
use Rattle.txn_types.specs.Order.{same_lsid}
use Rattle.txn_types.specs.declared.cause.Cause.{Cause}
use Rattle.txn_types.specs.declared.cause.Cause.TheVariants as cause
use Rattle.txn_types.specs.declared.message.Statement.{Statement}
use Rattle.txn_types.specs.declared.node.Lsid.{Lsid}
use Rattle.txn_semantics.specs.declared.commits.Entry.{Entry}
use Rattle.session_table.specs.declared.session.Session.{Session}
use Rattle.session_table.specs.declared.session.SessionState.TheVariants as state
use Rattle.participant.specs.declared.said.Open.{Open}
use Rattle.participant.specs.Part.{Part, session, ends_live, end_live, aborted}
use Rattle.participant.specs.Expiry.{lifetime, expire_all, expire}
use Rattle.participant.proofs.Cases.{either}
use Rattle.participant.proofs.Ends.{entry_elsewhere}
use Rattle.participant.proofs.Moving.{entry_here}
use Rattle.participant.proofs.Tags.{lsid_same}
use Rattle.part_laws.specs.Sound.{Served, written}
use Rattle.serving_laws.specs.Coming.{IsNew}

-- each session stands with a number as great
pub record KeepsNumbers (p q : Part) : Type 0 where
  pub boot : q.boot ≡ p.boot
  pub numbers : (lsid : Lsid) (s : Session) → session p lsid ≡ Some s
      → (t : Session) × (session q lsid ≡ Some t) × (t.number ≡ s.number)

pub same_numbers : (p : Part) → KeepsNumbers p p
same_numbers p = record { boot = refl; numbers = λ lsid s there. (s, there, refl) }

pub both_numbers : (p q r : Part) → KeepsNumbers p q → KeepsNumbers q r → KeepsNumbers p r
both_numbers p q r a b =
    record {
      boot = b.boot ∙ a.boot;
      numbers = λ lsid s there. let first = a.numbers lsid s there in
          let next = b.numbers lsid first.0 first.1 in (next.0, next.1, next.2 ∙ first.2);
    }

abort_case : (p : Part) (lsid : Lsid) (own : Session) (why : Cause) → session p lsid ≡ Some own
    → (other : Lsid) (s : Session) (b : Bool) → same_lsid other lsid ≡ b → session p other ≡ Some s
    → (t : Session) × (session (aborted p lsid own why) other ≡ Some t) × (t.number ≡ s.number)
abort_case p lsid own why is other s true same there =
    let ended : Session =
    record { number = own.number; tag = own.tag; state = state.Aborted why 0 } in
    let at : other ≡ lsid = lsid_same other lsid same in
    let both : Some s ≡ Some own = sym there ∙ ap (session p) at ∙ is in
    let one : s ≡ own = cc in (
      ended,
      ap (session (aborted p lsid own why)) at ∙ entry_here lsid ended p.sessions.entries,
      ap (λ (x : Session). x.number) (sym one),
    )
abort_case p lsid own why is other s false apart there = (
  s,
  entry_elsewhere other lsid apart
      (record { number = own.number; tag = own.tag; state = state.Aborted why 0 })
      p.sessions.entries ∙ there,
  refl,
)

pub abort_numbers : (p : Part) (lsid : Lsid) (own : Session) (why : Cause)
    → session p lsid ≡ Some own → KeepsNumbers p (aborted p lsid own why)
abort_numbers p lsid own why is = record {
  boot = refl;
  numbers = λ other s there. abort_case p lsid own why is other s (same_lsid other lsid) refl there;
}

end_numbers : (p : Part) (lsid : Lsid) (why : Cause) (x : Option Session) → session p lsid ≡ x
    → KeepsNumbers p (ends_live p lsid why x)
end_numbers p lsid why None is = same_numbers p
end_numbers p lsid why (Some own) is = abort_numbers p lsid own why is

expire_rest : (wall : ℕ) (rest : List (Lsid × Open)) (p : Part)
    → KeepsNumbers p (expire_all wall rest p)
expire_rest wall [] p = same_numbers p
expire_rest wall (entry ∷ rest) p =
    let q = (if nat_lt lifetime (wall - entry.1.begun)
    then end_live p entry.0 (cause.Expired entry.1.begun wall) else p) in
    both_numbers p q (expire_all wall rest q)
    (either (nat_lt lifetime (wall - entry.1.begun)) (KeepsNumbers p) _ _ (end_numbers p
    entry.0 (cause.Expired entry.1.begun wall) (session p entry.0) refl) (same_numbers p))
    (expire_rest wall rest q)

pub expire_numbers : (p : Part) (wall : ℕ) → KeepsNumbers p (expire p wall)
unfolding expire
expire_numbers p wall = expire_rest wall p.live p

pub expired_begins : (p : Part) (wall : ℕ) (entries : List Entry) (served : List Served)
    (m : Statement) → IsNew p entries served m → IsNew (expire p wall) entries served m
expired_begins p wall entries served m new may =
    let k = expire_numbers p wall in
    let h = new (λ s there. let t = k.numbers m.lsid s there in
    subst (λ (n : ℤ). n <ℤ m.number) t.2 (may t.0 t.1)) in
    (ap (λ boot. written m.tag boot served) k.boot ∙ h.0, h.1)
