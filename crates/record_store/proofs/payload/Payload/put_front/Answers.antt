use Rattle.std.proofs.Common.{ℕ, List, take, drop, ap, ◌∙◌}
use Rattle.std.proofs.lemmas.List.{drop_at}
use Rattle.record_store.proofs.Fronts.{over_all, first_written}
use Rattle.record_store.proofs.payload.Payload.put_front.Goals as goal

pub returns-clause-front : goal.returns-clause-front
returns-clause-front c =
    ap (λ (l : List ℕ). drop c.write_front-place.result (take 64 l))
    (over_all c.put_first.new.bytes _ c.self.inside.bytes.len
    (c.put_first.auto.bytes ∙ c.deref_mut.ensures.len) ∙ c.put_first.ensures)
    ∙ first_written c.write_front-place.new.out _ c.write_front-place.result
    c.write_front-place.array_long
    ∙ c.write_front-place.ensures.front

pub returns-clause-carried : goal.returns-clause-carried
returns-clause-carried c =
    ap (λ (l : List ℕ). drop 64 l) (over_all c.put_first.new.bytes _ c.self.inside.bytes.len
    (c.put_first.auto.bytes ∙ c.deref_mut.ensures.len) ∙ c.put_first.ensures)
    ∙ drop_at c.write_front-place.new.out _ 64 c.write_front-place.array_long
    ∙ ap (λ (l : List ℕ). drop 64 l) (c.deref_mut.ensures.value ∙ c.self.view_is)
