use Rattle.std.proofs.Common.{◌≡◌, ◌++◌, drop}
use Rattle.std.specs.List.{flat_map}
use Rattle.play_text.specs.Text.{entry_text}
use Rattle.play_text.specs.Dump.{kept_by}
use Rattle.play_text.proofs.dump.put_dump.Given as goal

abbrev pub invariant-loop-entry : goal.invariant-loop-entry
invariant-loop-entry l =
    l.out.items ++ flat_map (entry_text (kept_by l.map)) (drop l.entry-index l.entries)
    ≡ l.initial.out.items ++ flat_map (entry_text (kept_by l.map)) l.entries
