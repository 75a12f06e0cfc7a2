use Rattle.std.proofs.Common.{◌≡◌, ◌-◌, ◌+◌, ◌∷◌, [], List, ℕ, length, sym, subst, ap, ◌∙◌}
use Rattle.std.proofs.Common.{length-append}
use Rattle.std.proofs.lemmas.Result.{err_from_is_err_and}
use Rattle.journal_rec.specs.Reading.{parts_at}
use Rattle.journal_rec.proofs.Turns.{parts_more, parts_end, parts_refused}
use Rattle.journal_rec.proofs.fields.read_parts.Goals as goal

pub returns-in_err-shard : goal.returns-in_err-shard
returns-in_err-shard c =
    let p = err_from_is_err_and c.from_residual.result c.from_residual.ensures.1 in
    rw (p.1, p.2) (parts_refused c.args.count c.loop.counter c.loop.parts c.loop.rest.now
    c.in_err-shard.field-0.0 (parts_at c.args.count [] c.args.bytes.now) c.loop-test.true
    c.in_err-shard.ensures c.loop.invariant.so_far)

pub loop-preserved : goal.loop-preserved
loop-preserved c =
    let part : ℕ × ℕ = (c.in_ok-shard.shard, c.in_ok-shard.boot) in
    let more = parts_more c.args.count c.loop.counter c.loop.parts c.loop.rest.now
    c.in_ok-shard.after.now part (parts_at c.args.count [] c.args.bytes.now) c.loop-test.true
    c.in_ok-shard.ensures c.loop.invariant.so_far in record {
      so_far = subst (λ (ps : List (ℕ × ℕ)).
          parts_at (c.args.count - (c.loop.counter + 1)) ps c.in_ok-shard.after.now
          ≡ parts_at c.args.count [] c.args.bytes.now) (sym c.in_ok-push.ensures.ok) more;
      counted = ap length c.in_ok-push.ensures.ok ∙ length-append c.loop.parts (part ∷ [])
          ∙ ap (λ (n : ℕ). n + 1) c.loop.invariant.counted;
    }

pub returns : goal.returns
returns c = parts_end c.args.count c.loop.counter c.loop.parts c.loop.rest.now
    (parts_at c.args.count [] c.args.bytes.now) c.loop-test.false c.loop.invariant.so_far
