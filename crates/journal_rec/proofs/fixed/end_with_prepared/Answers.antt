use Rattle.std.proofs.Common.{◌≡◌, ◌≤◌, ◌++◌, ◌∷◌, ℕ, List, [], take, length, refl, ap, arith, w64}
use Rattle.std.proofs.lemmas.Int.{to_z-of_z}
use Rattle.journal_rec.specs.Spelling.{named_bytes, preparing_bytes}
use Rattle.journal_rec.proofs.Fronts.{three_put, written_behind}
use Rattle.journal_rec.proofs.fixed.end_with_prepared.Goals as goal

pub returns : goal.returns
returns c =
    let kind : List ℕ = 4 ∷ [] in
    let named = named_bytes c.args.tag c.args.lsid.now c.args.number in
    let preparing = preparing_bytes c.args.boot c.args.read_at c.args.at c.args.coordinator in
    let whole =
    ap (named_bytes c.args.tag c.args.lsid.now) (to_z-of_z w64 c.args.number c.ranges.number) in
    let low : 2 ≤ length c.args.out.now = grind (arith, c.told-out) in
    let end : length c.put_preparing.new.out ≡ c.put_preparing.result = grind (
      arith,
      c.told-out,
      c.put_kind-named.auto.out,
      c.put_named-preparing.auto.out,
      c.put_preparing.auto.out,
      c.put_kind-named.ensures.place,
      c.put_named-preparing.ensures.place,
      c.put_preparing.ensures.place,
    ) in
    written_behind 2 c.put_preparing.result c.args.out.now c.put_preparing.new.out
    (kind ++ (named ++ preparing)) low end
    (three_put (take 2 c.args.out.now) _ _ _ kind _ preparing kind named preparing
    c.put_kind-named.ensures.front c.put_named-preparing.ensures.front
    c.put_preparing.ensures.front refl whole refl)
