use Rattle.std.proofs.Common.{◌≡◌, ◌≤◌, ◌++◌, ◌∷◌, ℕ, List, [], take, length, refl, arith}
use Rattle.journal_rec.specs.Spelling.{tag_bytes}
use Rattle.journal_rec.proofs.Fronts.{two_put, written_behind}
use Rattle.journal_rec.proofs.fixed.end_with_end.Goals as goal

pub returns : goal.returns
returns c =
    let kind : List ℕ = 8 ∷ [] in
    let tag = tag_bytes c.args.tag in
    let low : 49 ≤ length c.args.out.now = grind (arith, c.told-out) in
    let end : length c.put_tag.new.out ≡ c.put_tag.result = grind (
      arith,
      c.told-out,
      c.put_kind-at.auto.out,
      c.put_tag.auto.out,
      c.put_kind-at.ensures.place,
      c.put_tag.ensures.place,
    ) in
    written_behind 49 c.put_tag.result c.args.out.now c.put_tag.new.out (kind ++ tag) low end
    (two_put (take 49 c.args.out.now) _ _ kind tag kind tag c.put_kind-at.ensures.front
    c.put_tag.ensures.front refl refl)
