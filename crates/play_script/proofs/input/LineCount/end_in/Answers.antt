use Rattle.std.proofs.Common.{◌+◌, take, sym, subst}
use Rattle.play_script.specs.Counting.{Counted}
use Rattle.play_script.proofs.Counting.{front_short_at, line_ends_at, line_goes_on_at}
use Rattle.play_script.proofs.Counting.{line_is_long_at, lines_are_many_at}
use Rattle.play_script.proofs.input.LineCount.end_in.Goals as goal
use Rattle.play_script.proofs.input.LineCount.end_in.Goals.{then-bytes-place-eq10}
use Rattle.play_script.proofs.input.LineCount.end_in.Goals.{else-bytes-place-eq10+else-self-ge-MOST_LINE}

pub returns-then-self-ge-MOST_LINES : goal.returns-then-self-ge-MOST_LINES
returns-then-self-ge-MOST_LINES c = (
  lines_are_many_at c.args.bytes.now c.loop-place.place c.loop-place.self c.loop-place-test.true
      c.loop-place.invariant c.if-self-ge-MOST_LINES.true,
  λ e. cc,
  front_short_at c.args.bytes.now c.loop-place.place c.loop-place.self c.loop-place.invariant,
)

pub returns-then-self-ge-MOST_LINE : goal.returns-then-self-ge-MOST_LINE
returns-then-self-ge-MOST_LINE c = (
  line_is_long_at c.args.bytes.now c.loop-place.place c.loop-place.self c.loop-place-test.true
      c.loop-place.invariant c.if-self-ge-MOST_LINES.false c.if-bytes-place-eq10.false
      c.if-self-ge-MOST_LINE.true,
  λ e. cc,
  front_short_at c.args.bytes.now c.loop-place.place c.loop-place.self c.loop-place.invariant,
)

pub loop-place-preserved : goal.loop-place-preserved
loop-place-preserved c =
    elim c.if-bytes-place-eq10.branch [
      | then-bytes-place-eq10 w ↦
          subst (λ s. Counted (take (c.loop-place.place + 1) c.args.bytes.now) s) (sym w.self-is)
          (line_ends_at c.args.bytes.now c.loop-place.place c.loop-place.self c.loop-place-test.true
          c.loop-place.invariant c.if-self-ge-MOST_LINES.false w.if-bytes-place-eq10.true)
      | else-bytes-place-eq10+else-self-ge-MOST_LINE w ↦
          subst (λ s. Counted (take (c.loop-place.place + 1) c.args.bytes.now) s) (sym w.self-is)
          (line_goes_on_at c.args.bytes.now c.loop-place.place c.loop-place.self
          c.loop-place-test.true c.loop-place.invariant c.if-self-ge-MOST_LINES.false
          w.if-bytes-place-eq10.false w.if-self-ge-MOST_LINE.false)
    ]
