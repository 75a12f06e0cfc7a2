use Rattle.std.proofs.Common.{◌≡◌, ◌++◌, ◌-◌, ◌+◌, ◌<◌, ◌≤◌, ℕ, List, refl, sym, ap, subst, ◌∙◌}
use Rattle.std.proofs.Common.{arith}
use Rattle.std.specs.List.{flat_map, range_with_len}
use Rattle.std.proofs.lemmas.List.{append_assoc, append-nil}
use Rattle.play_text.specs.Dump.{kept_by, share, lines_of, past_from}
use Rattle.play_text.specs.Text.{by_shard}
use Rattle.play_text.proofs.Sharing.{shares_are, share_more}
use Rattle.play_text.proofs.dump.put_writes.Goals as goal

pub loop-shard-preserved : goal.loop-shard-preserved
loop-shard-preserved c =
    let place = kept_by c.args.map.now in
    let below : c.loop-shard.shard < past_from place 0 c.args.writes.now =
    omega (arith, c.loop-shard-test.true, c.past_of-shard-end.ensures) in
    let rest : List ℕ =
    lines_of place (flat_map (share place c.args.writes.now) (range_with_len (c.loop-shard.shard
    + 1) (past_from place 0 c.args.writes.now - (c.loop-shard.shard + 1)))) in
    let put : c.put_share.new.out.items ≡ c.loop-shard.out.items ++ lines_of place (share place
    c.args.writes.now c.loop-shard.shard) = c.in_ok-put_share.ensures in
    ap (λ xs. xs ++ rest) put
    ∙ append_assoc c.loop-shard.out.items
    (lines_of place (share place c.args.writes.now c.loop-shard.shard)) rest
    ∙ ap (λ xs. c.loop-shard.out.items ++ xs) (sym (share_more place c.args.writes.now
    c.loop-shard.shard (past_from place 0 c.args.writes.now) below))
    ∙ c.loop-shard.invariant

pub returns : goal.returns
returns c =
    let place = kept_by c.args.map.now in
    let done : past_from place 0 c.args.writes.now - c.loop-shard.shard ≡ 0 =
    omega (arith, c.loop-shard-test.false, c.past_of-shard-end.ensures) in
    let invariant : c.loop-shard.out.items ++ lines_of place
    (flat_map (share place c.args.writes.now) (range_with_len c.loop-shard.shard 0))
    ≡ c.args.out.now.items ++ lines_of place (flat_map (share place c.args.writes.now)
    (range_with_len 0 (past_from place 0 c.args.writes.now))) =
    subst (λ (n : ℕ). c.loop-shard.out.items ++ lines_of place
    (flat_map (share place c.args.writes.now) (range_with_len c.loop-shard.shard n))
    ≡ c.args.out.now.items ++ lines_of place (flat_map (share place c.args.writes.now)
    (range_with_len 0 (past_from place 0 c.args.writes.now)))) done c.loop-shard.invariant in
    sym (append-nil c.loop-shard.out.items) ∙ invariant
    ∙ ap (λ ws. c.args.out.now.items ++ lines_of place ws) (shares_are place c.args.writes.now)
