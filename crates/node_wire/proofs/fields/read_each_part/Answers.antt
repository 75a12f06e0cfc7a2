use Rattle.std.proofs.Common.{◌≡◌, ◌-◌, ◌+◌, ◌∷◌, [], List, ℕ, length, sym, subst, ap, ◌∙◌}
use Rattle.std.proofs.Common.{length-append}
use Rattle.std.proofs.lemmas.Result.{err_from_is_err_and}
use Rattle.node_wire.specs.Reading.{each_at, part_at}
use Rattle.node_wire.proofs.Turns.{each_more, each_end, each_refused}
use Rattle.node_wire.proofs.fields.read_each_part.Goals as goal

pub returns-in_err-shard : goal.returns-in_err-shard
returns-in_err-shard c =
    let p = err_from_is_err_and c.from_residual.result c.from_residual.ensures.1 in
    rw (p.1, p.2) (each_refused (part_at c.args.end) c.args.count c.loop.counter c.loop.parts
    c.loop.rest.now c.in_err-shard.field-0.0 (each_at (part_at c.args.end) c.args.count []
    c.args.bytes.now) c.loop-test.true c.in_err-shard.ensures c.loop.invariant.so_far)

pub loop-preserved : goal.loop-preserved
loop-preserved c =
    let part : ℕ × ℕ = (c.in_ok-shard.shard, c.in_ok-shard.boot) in
    let whole = each_at (part_at c.args.end) c.args.count [] c.args.bytes.now in
    let more = each_more (part_at c.args.end) c.args.count c.loop.counter c.loop.parts
    c.loop.rest.now c.in_ok-shard.after.now part whole c.loop-test.true c.in_ok-shard.ensures
    c.loop.invariant.so_far in record {
      so_far = subst (λ (ps : List (ℕ × ℕ)). each_at (part_at c.args.end)
          (c.args.count - (c.loop.counter + 1)) ps c.in_ok-shard.after.now
          ≡ whole) (sym c.in_ok-push.ensures.ok) more;
      counted = ap length c.in_ok-push.ensures.ok ∙ length-append c.loop.parts (part ∷ [])
          ∙ ap (λ (n : ℕ). n + 1) c.loop.invariant.counted;
    }

pub returns : goal.returns
returns c =
    each_end (part_at c.args.end) c.args.count c.loop.counter c.loop.parts c.loop.rest.now (each_at
    (part_at c.args.end) c.args.count [] c.args.bytes.now) c.loop-test.false c.loop.invariant.so_far
