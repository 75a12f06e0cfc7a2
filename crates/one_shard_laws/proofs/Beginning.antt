-- A statement that may begin is new: its transaction wrote nothing here in this boot, and has no
-- commit.
use Rattle.std.proofs.Common.{◌≡◌, ◌<ℤ◌, ◌≤ℤ◌, ◌&&◌, ◌++◌, ℤ, Bool, true, false, List, [], ◌∷◌}
use Rattle.std.proofs.Common.{Some, refl, ap, subst, ◌∙◌, arith, nat_eq, if◌then◌else◌}
use Rattle.txn_types.specs.Order.{same_tag}
use Rattle.txn_types.specs.declared.message.Statement.{Statement}
use Rattle.txn_types.specs.declared.names.Tag.{Tag}
use Rattle.txn_types.specs.declared.node.Lsid.{Lsid}
use Rattle.txn_types.specs.declared.write.Write.{Write}
use Rattle.txn_semantics.specs.declared.commits.Entry.{Entry}
use Rattle.txn_semantics.specs.Meaning.{writes_of}
use Rattle.participant.specs.Part.{Part, session}
use Rattle.participant.proofs.Tags.{tag_same}
use Rattle.part_laws.specs.Each.{Each}
use Rattle.part_laws.specs.Sound.{Served, is_of_life, written, HasNone}
use Rattle.shard_core.specs.State.{ShardState}
use Rattle.txn_types.specs.Letters.{Named}
use Rattle.serving_laws.specs.Coming.{MayBegin, IsNew}
use Rattle.one_shard_laws.specs.Sessions.{IsHeld, IsOnce}
use Rattle.one_shard_laws.specs.Lasting.{Runs}
use Rattle.part_laws.proofs.Turns.{same_boot}

both_true : (a b : Bool) → (a && b) ≡ true → (a ≡ true) × (b ≡ true)
both_true true b h = (refl, h)
both_true false b h = cc

below_not : (a b c : ℤ) → a ≤ℤ b → b <ℤ c → a ≡ c → ⊥
below_not a b c h k same = grind (arith, h, k, same)

module _ (P : Named → Type 0) (once : IsOnce P) (p : Part) (m : Statement) (named :
    P (record { tag = m.tag; lsid = m.lsid; number = m.number })) (may : MayBegin p m) where
  pub not_held : (tag : Tag) → IsHeld P p.sessions tag → same_tag tag m.tag ≡ true → ⊥
  not_held tag h same =
      let one = once h.0 (record { tag = m.tag; lsid = m.lsid; number = m.number }) h.1 named (h.2
      ∙ tag_same tag m.tag same) in
      let s = h.3 in
      let there : session p m.lsid ≡ Some s.0 =
      subst (λ (l : Lsid). session p l ≡ Some s.0) one.0 s.1 in
      below_not h.0.number s.0.number m.number s.2 (may s.0 there) one.1

  none_case : (x : Served) (b : Bool) → is_of_life m.tag p.boot x ≡ b → (x.life ≡ p.boot
      → IsHeld P p.sessions x.tag) → ◌≡◌ {A = List Write} (if b then writes_of x.meaning else []) []
  none_case x true is h =
      let both = both_true (same_tag x.tag m.tag) (nat_eq x.life p.boot) is in
      absurd (not_held x.tag (h (same_boot x.life p.boot both.1)) both.0)
  none_case x false is h = refl

  none_written : (served : List Served) → Each (λ (x : Served). x.life ≡ p.boot
      → IsHeld P p.sessions x.tag) served → written m.tag p.boot served ≡ []
  none_written [] h = refl
  none_written (x ∷ served) h =
      ap (λ (ws : List Write). ws ++ (if is_of_life m.tag p.boot x then writes_of x.meaning
      else [])) (none_written served h.1) ∙ none_case x (is_of_life m.tag p.boot x) refl h.0

  other_case : (tag : Tag) (b : Bool) → same_tag tag m.tag ≡ b → IsHeld P p.sessions tag
      → same_tag tag m.tag ≡ false
  other_case tag true is h = absurd (not_held tag h is)
  other_case tag false is h = is

  pub none_committed : (entries : List Entry)
      → Each (λ (e : Entry). IsHeld P p.sessions e.tag) entries
      → HasNone m.tag entries
  none_committed [] h = tt
  none_committed (e ∷ entries) h =
      (other_case e.tag (same_tag e.tag m.tag) refl h.0, none_committed entries h.1)

pub is_new : (P : Named → Type 0) → IsOnce P
    → (s : ShardState) (entries : List Entry) (served : List Served) → Runs P s entries served
    → (m : Statement) → P (record { tag = m.tag; lsid = m.lsid; number = m.number })
    → IsNew s.part entries served m
is_new P once s entries served runs m named may = (
  none_written P once s.part m named may served runs.has_served,
  none_committed P once s.part m named may entries runs.has_committed,
)
