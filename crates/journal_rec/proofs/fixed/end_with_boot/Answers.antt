use Rattle.std.proofs.Common.{◌≡◌, ◌≤◌, ◌++◌, ◌∷◌, ℕ, List, [], take, length, refl, arith}
use Rattle.std.specs.Int.{w32, to_le_bytes}
use Rattle.journal_rec.proofs.Fronts.{two_put, written_behind}
use Rattle.journal_rec.proofs.fixed.end_with_boot.Goals as goal

pub returns : goal.returns
returns c =
    let kind : List ℕ = 1 ∷ [] in
    let boot = to_le_bytes w32 c.args.boot in
    let low : 59 ≤ length c.args.out.now = grind (arith, c.told-out) in
    let end : length c.put.new.out ≡ c.put.result = grind (
      arith,
      c.told-out,
      c.put_kind-at.auto.out,
      c.put.auto.out,
      c.put_kind-at.ensures.place,
      c.put.ensures.place,
    ) in
    written_behind 59 c.put.result c.args.out.now c.put.new.out (kind ++ boot) low end
    (two_put (take 59 c.args.out.now) _ _ kind c.to_le_bytes.result kind boot
    c.put_kind-at.ensures.front c.put.ensures.front refl c.to_le_bytes.ensures)
