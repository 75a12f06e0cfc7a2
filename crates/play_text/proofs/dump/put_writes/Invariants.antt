use Rattle.std.proofs.Common.{◌≡◌, ◌++◌, ◌-◌}
use Rattle.std.specs.List.{flat_map, range_with_len}
use Rattle.play_text.specs.Dump.{kept_by, share, lines_of, past_from}
use Rattle.play_text.proofs.dump.put_writes.Given as goal

abbrev pub invariant-loop-shard : goal.invariant-loop-shard
invariant-loop-shard l =
    l.out.items ++ lines_of (kept_by l.map) (flat_map (share (kept_by l.map) l.writes)
    (range_with_len l.shard (past_from (kept_by l.map) 0 l.writes - l.shard)))
    ≡ l.initial.out.items ++ lines_of (kept_by l.map) (flat_map (share (kept_by l.map) l.writes)
    (range_with_len 0 (past_from (kept_by l.map) 0 l.writes)))
