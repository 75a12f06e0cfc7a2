use Rattle.std.proofs.Common.{◌≡◌, ◌≤◌, ◌++◌, ◌∷◌, ℕ, List, [], take, length, refl, ap, arith}
use Rattle.std.proofs.Common.{w64}
use Rattle.std.proofs.lemmas.Int.{to_z-of_z}
use Rattle.journal_rec.specs.Spelling.{named_bytes}
use Rattle.journal_rec.proofs.Fronts.{two_put, written_behind}
use Rattle.journal_rec.proofs.fixed.end_with_start.Goals as goal

pub returns : goal.returns
returns c =
    let kind : List ℕ = 6 ∷ [] in
    let named = named_bytes c.args.tag c.args.lsid.now c.args.number in
    let whole =
    ap (named_bytes c.args.tag c.args.lsid.now) (to_z-of_z w64 c.args.number c.ranges.number) in
    let low : 24 ≤ length c.args.out.now = grind (arith, c.told-out) in
    let end : length c.put_named.new.out ≡ c.put_named.result = grind (
      arith,
      c.told-out,
      c.put_kind-at.auto.out,
      c.put_named.auto.out,
      c.put_kind-at.ensures.place,
      c.put_named.ensures.place,
    ) in
    written_behind 24 c.put_named.result c.args.out.now c.put_named.new.out (kind ++ named) low end
    (two_put (take 24 c.args.out.now) _ _ kind _ kind named c.put_kind-at.ensures.front
    c.put_named.ensures.front refl whole)
