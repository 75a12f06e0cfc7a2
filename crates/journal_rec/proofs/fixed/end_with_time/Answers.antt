use Rattle.std.proofs.Common.{◌≡◌, ◌≤◌, ◌++◌, ◌∷◌, ℕ, List, [], take, length, refl, arith}
use Rattle.journal_rec.specs.Spelling.{time_bytes}
use Rattle.journal_rec.proofs.Fronts.{two_put, written_behind}
use Rattle.journal_rec.proofs.fixed.end_with_time.Goals as goal

pub returns : goal.returns
returns c =
    let kind : List ℕ = c.args.kind ∷ [] in
    let time = time_bytes c.args.time in
    let low : 55 ≤ length c.args.out.now = grind (arith, c.told-out) in
    let end : length c.put_time.new.out ≡ c.put_time.result = grind (
      arith,
      c.told-out,
      c.put_kind-at.auto.out,
      c.put_time.auto.out,
      c.put_kind-at.ensures.place,
      c.put_time.ensures.place,
    ) in
    written_behind 55 c.put_time.result c.args.out.now c.put_time.new.out (kind ++ time) low end
    (two_put (take 55 c.args.out.now) _ _ kind time kind time c.put_kind-at.ensures.front
    c.put_time.ensures.front refl refl)
