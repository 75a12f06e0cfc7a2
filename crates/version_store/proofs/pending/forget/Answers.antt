use Rattle.std.proofs.Common.{◌≡◌, ◌+◌, ◌∙◌, ℕ, suc, Bool, true, false, not, List, Some, None}
use Rattle.std.proofs.Common.{slice_get, ap, sym, arith}
use Rattle.txn_types.specs.Order.{same_tag}
use Rattle.version_store.specs.declared.version.Pending.{Pending}
use Rattle.version_store.proofs.Removing.{sifted, sifted_out, sifted_in, sifted_all}
use Rattle.version_store.proofs.pending.forget.Goals as goal

pub loop-pending-preserved-then-is_same : goal.loop-pending-preserved-then-is_same
loop-pending-preserved-then-is_same c =
    let test : Pending → Bool = λ other. not (same_tag other.tag c.args.tag.now) in
    let at : slice_get c.loop-pending.pendings c.loop-pending.place ≡ Some c.in-Some.pending.now =
    sym c.in-Some.ensures.value in
    let out : test c.in-Some.pending.now ≡ false =
    ap not (sym c.is_same.ensures ∙ c.if-is_same.true) in
    ap (λ (xs : List Pending). sifted test c.loop-pending.place xs) c.remove.ensures.rest
    ∙ sifted_out test c.loop-pending.pendings c.loop-pending.place c.in-Some.pending.now at out
    ∙ c.loop-pending.invariant

pub loop-pending-preserved : goal.loop-pending-preserved
loop-pending-preserved c =
    let test : Pending → Bool = λ other. not (same_tag other.tag c.args.tag.now) in
    let at : slice_get c.loop-pending.pendings c.loop-pending.place ≡ Some c.in-Some.pending.now =
    sym c.in-Some.ensures.value in
    let kept : test c.in-Some.pending.now ≡ true =
    ap not (sym c.is_same.ensures ∙ c.if-is_same.false) in
    let next : c.loop-pending.place + 1 ≡ suc c.loop-pending.place = omega arith in
    ap (λ (n : ℕ). sifted test n c.loop-pending.pendings) next
    ∙ sifted_in test c.loop-pending.pendings c.loop-pending.place c.in-Some.pending.now at kept
    ∙ c.loop-pending.invariant

pub returns : goal.returns
returns c =
    let test : Pending → Bool = λ other. not (same_tag other.tag c.args.tag.now) in
    let past : slice_get c.loop-pending.pendings c.loop-pending.place ≡ None =
    sym c.in_default.ensures.value in
    sym (sifted_all test c.loop-pending.pendings c.loop-pending.place past)
    ∙ c.loop-pending.invariant
