use Rattle.std.proofs.Common.{◌≡◌, ◌+◌, ℕ, suc, List, drop, ◌∷◌, refl, ap, sym, subst, ◌∙◌, arith}
use Rattle.std.proofs.Common.{drop_of_length-le}
use Rattle.std.proofs.Math.Seq.{drop-cons}
use Rattle.txn_semantics.specs.Writes.{Place, place_cmp}
use Rattle.txn_semantics.proofs.Places.{place_total, place_exact}
use Rattle.version_store.specs.Versions.{Versions, without}
use Rattle.version_store.specs.Chains.{changed_at, changed_under, with_versions}
use Rattle.version_store.proofs.Histories.{kept_all, kept_under}
use Rattle.version_store.proofs.store.Store.take_out.Goals as goal

pub loop-key-preserved : goal.loop-key-preserved
loop-key-preserved c =
    let f = without c.args.tag.now in
    let keys = c.args.keys.now in
    let at = c.loop-key.key-index in
    let key = c.key-item.result in
    let next : suc at ≡ at + 1 = omega arith in
    let item : drop at keys ≡ key ∷ drop (at + 1) keys =
    drop-cons keys at key (omega (arith, c.loop-key-test.true)) ∙ ap (λ (k : Place). k
    ∷ drop (suc at) keys) (sym c.key-item.is) ∙ ap (λ (n : ℕ). key ∷ drop n keys) next in
    ap (λ (s : Versions). with_versions (changed_under place_cmp f (drop (at + 1) keys) s))
    c.take_out_at.ensures
    ∙ kept_under place_cmp place_total place_exact f refl (drop (at + 1) keys)
    (changed_at place_cmp f key c.loop-key.self)
    ∙ sym (ap (λ (ks : List Place). with_versions (changed_under place_cmp f ks c.loop-key.self))
    item)
    ∙ c.loop-key.invariant

pub returns-clause-changed : goal.returns-clause-changed
returns-clause-changed c =
    let f = without c.args.tag.now in
    let all = drop_of_length-le c.args.keys.now (omega (arith, c.loop-key-test.false)) in
    sym (kept_all c.loop-key.self c.collections-left.ensures.histories)
    ∙ subst (λ (ks : List Place). with_versions (changed_under place_cmp f ks c.loop-key.self)
    ≡ with_versions (changed_under place_cmp f c.args.keys.now c.args.self.now)) all
    c.loop-key.invariant
