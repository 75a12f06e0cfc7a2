use Rattle.std.proofs.Common.{◌≡◌, ◌≤◌, ◌++◌, ◌∷◌, ℕ, List, [], take, length, refl, ap, arith}
use Rattle.std.proofs.Common.{w64}
use Rattle.std.proofs.lemmas.Int.{to_z-of_z}
use Rattle.journal_rec.specs.Spelling.{named_bytes, time_bytes}
use Rattle.journal_rec.proofs.Fronts.{two_put, three_put, written_behind}
use Rattle.journal_rec.proofs.fixed.end_with_commit.Goals as goal

pub returns : goal.returns
returns c =
    let kind : List ℕ = 3 ∷ [] in
    let named = named_bytes c.args.tag c.args.lsid.now c.args.number in
    let read = time_bytes c.args.read_at in
    let at = time_bytes c.args.at in
    let whole =
    ap (named_bytes c.args.tag c.args.lsid.now) (to_z-of_z w64 c.args.number c.ranges.number) in
    let low : 8 ≤ length c.args.out.now = grind (arith, c.told-out) in
    let end : length c.put_time.new.out ≡ c.put_time.result = grind (
      arith,
      c.told-out,
      c.put_kind-named.auto.out,
      c.put_named-times.auto.out,
      c.put_time-last.auto.out,
      c.put_time.auto.out,
      c.put_kind-named.ensures.place,
      c.put_named-times.ensures.place,
      c.put_time-last.ensures.place,
      c.put_time.ensures.place,
    ) in
    written_behind 8 c.put_time.result c.args.out.now c.put_time.new.out
    (kind ++ (named ++ (read ++ at))) low end
    (three_put (take 8 c.args.out.now) _ _ _ kind _ (read ++ at) kind named (read ++ at)
    c.put_kind-named.ensures.front c.put_named-times.ensures.front
    (two_put _ _ _ read at read at c.put_time-last.ensures.front c.put_time.ensures.front refl refl)
    refl whole refl)
