use Rattle.std.proofs.Common.{ℕ, List, ◌≡◌, drop, take, length, inl, inr, arith, sym, ap, ◌∙◌, refl}
use Rattle.record_store.proofs.Fronts.{whole_record, bare_record}
use Rattle.record_store.proofs.payload.Payload.record_at.Goals as goal

pub returns-then-carries-clause-bytes : goal.returns-then-carries-clause-bytes
returns-then-carries-clause-bytes c =
    let bytes = c.deref.result.now in
    let same : bytes ≡ c.args.self.now = c.deref.ensures.value ∙ c.self.view_is in
    whole_record bytes c.args.place c.args.rec.now c.requires.place
    (omega (arith, c.self.invariant.0, ap (λ (l : List ℕ). length l) c.deref.ensures.value))
    (ap (λ (l : List ℕ). drop c.args.place (take 64 l)) same ∙ c.requires.front)
    (elim c.requires.carries [
      | inl none ↦ absurd (c.if-carries.ensures.none refl none)
      | inr all ↦ all ∙ ap (λ (l : List ℕ). drop 64 l) (sym same)
    ])

pub returns-clause-bytes : goal.returns-clause-bytes
returns-clause-bytes c =
    let bytes = c.deref-2.result.now in
    let same : bytes ≡ c.args.self.now = c.deref-2.ensures.value ∙ c.self.view_is in
    bare_record bytes c.args.place c.args.rec.now c.requires.place (ap (λ (l : List ℕ).
    drop c.args.place (take 64 l)) same ∙ c.requires.front) (c.if-carries.ensures.some refl)
