use Rattle.std.proofs.Common.{◌≡◌, ◌+◌, ℕ, suc, List, ◌∷◌, drop, refl, ap, sym, subst, ◌∙◌, arith}
use Rattle.std.proofs.Math.Seq.{drop-cons}
use Rattle.txn_types.specs.declared.write.Write.{Write}
use Rattle.version_store.specs.declared.laid.Laid.{Laid}
use Rattle.version_store.specs.Chains.{IsKept}
use Rattle.version_store.specs.TakenBack.{laid_by}
use Rattle.version_store.proofs.Groups.{kept_flattened}
use Rattle.version_store.proofs.TakenBack.{IsLaying, laying_begun, laying_on}
use Rattle.version_store.proofs.store.Store.put_all.Goals as goal

pub loop-write-preserved : goal.loop-write-preserved
loop-write-preserved c =
    let writes = c.args.writes.now in
    let at = c.loop-write.write-index in
    let item = c.write-item.result in
    let begun = c.args.self.now in
    let tag = c.args.tag in
    let next : suc at ≡ at + 1 = omega arith in
    let left : drop at writes ≡ item ∷ drop (at + 1) writes =
    drop-cons writes at item (omega (arith, c.loop-write-test.true)) ∙ ap (λ (w : Write). w
    ∷ drop (suc at) writes) (sym c.write-item.is) ∙ ap (λ (n : ℕ). item ∷ drop n writes) next in
    laying_on tag c.loop-write.self c.lay_copy.new.self c.loop-write.laid.items
    c.lay_copy.new.laid.items (laid_by tag c.loop-write.self item) item (drop (at + 1) writes)
    begun writes c.in-Ok.ensures.ok c.in-Ok.ensures.laid refl
    (subst (λ (ws : List Write). IsLaying tag c.loop-write.self c.loop-write.laid.items ws begun
    writes) left c.loop-write.invariant)

pub loop-write-init : goal.loop-write-init
loop-write-init c =
    let kept = subst IsKept c.self.view_is (kept_flattened c.self.inside.collections.entries
    c.self.invariant) in
    subst (λ (laid : List Laid). IsLaying c.args.tag c.args.self.now laid c.args.writes.now
    c.args.self.now c.args.writes.now) (sym c.new-laid.ensures.items)
    (laying_begun c.args.tag c.args.self.now c.args.writes.now c.requires.free c.requires.kept kept)
