use Rattle.std.proofs.Common.{◌≡◌, ◌≤◌, ◌++◌, ◌∷◌, ℕ, List, [], take, length, refl, arith}
use Rattle.journal_rec.specs.Spelling.{tag_bytes, decision_bytes}
use Rattle.journal_rec.proofs.Fronts.{three_put, written_behind}
use Rattle.journal_rec.proofs.fixed.end_with_decision.Goals as goal

pub returns : goal.returns
returns c =
    let kind : List ℕ = 7 ∷ [] in
    let tag = tag_bytes c.args.tag in
    let decision = decision_bytes c.args.decision.now in
    let low : 37 ≤ length c.args.out.now = grind (arith, c.told-out) in
    let end : length c.put_decision.new.out ≡ c.put_decision.result = grind (
      arith,
      c.told-out,
      c.put_kind-at.auto.out,
      c.put_tag-last.auto.out,
      c.put_decision.auto.out,
      c.put_kind-at.ensures.place,
      c.put_tag-last.ensures.place,
      c.put_decision.ensures.place,
    ) in
    written_behind 37 c.put_decision.result c.args.out.now c.put_decision.new.out
    (kind ++ tag ++ decision) low end
    (three_put (take 37 c.args.out.now) _ _ _ kind tag decision kind tag decision
    c.put_kind-at.ensures.front c.put_tag-last.ensures.front c.put_decision.ensures.front
    refl refl refl)
