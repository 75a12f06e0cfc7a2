use Rattle.std.proofs.Common.{ℕ, ◌≤◌, List, [], length, take, sym, subst, arith}
use Rattle.outside_core.proofs.Steps.{Reading, reading_none}
use Rattle.play_script.specs.Lines.{lines_of}
use Rattle.play_script.specs.Input.{IsInput}
use Rattle.play_script.specs.Counting.{AreShort, Counted}
use Rattle.play_script.proofs.Counting.{few_stopped, few_whole, none_counted, short_whole}
use Rattle.play_script.proofs.Counting.{told_stop, told_whole}
use Rattle.play_script.proofs.input.read_input.Goals as goal

pub loop-bytes-init : goal.loop-bytes-init
loop-bytes-init g c = record {
  later = omega arith;
  read = subst (λ b. Reading (g.S.Source.left c.args.src.now) (g.S.Source.left c.args.src.now) [] b)
      (sym c.new-bytes.ensures.items) (reading_none (g.S.Source.left c.args.src.now) []);
  counted = subst (λ b. Counted b (record { ended = 0; whole = 0; tail = 0 }))
      (sym c.new-bytes.ensures.items) none_counted;
}

pub returns-then-branch-eq0-clause-read : goal.returns-then-branch-eq0-clause-read
returns-then-branch-eq0-clause-read g c = told_whole (g.S.Source.left c.read.new.self)
    c.read.new.out.items c.in_ok-read.field-0 c.loop-bytes.count c.loop-bytes.invariant.read
    c.in_ok-read.ensures.bytes c.if-branch-eq0.true c.loop-bytes.invariant.counted

pub returns-in-Some-clause-read : goal.returns-in-Some-clause-read
returns-in-Some-clause-read g c =
    let stopped = subst (λ b. IsInput b (take c.end_in.new.self.whole b) c.in-Some.end)
    c.deref.ensures.value c.in-Some.ensures.0 in
    told_stop (g.S.Source.left c.read.new.self) c.read.new.out.items c.in_ok-read.field-0
    _ _ c.in-Some.end c.loop-bytes.invariant.read c.in_ok-read.ensures.bytes stopped
    c.in-Some.ensures.1 c.truncate.ensures.items

pub returns-then-branch-eq0-clause-short : goal.returns-then-branch-eq0-clause-short
returns-then-branch-eq0-clause-short g c =
    short_whole (g.S.Source.left c.loop-bytes.src) (g.S.Source.left c.read.new.self)
    c.read.new.out.items c.in_ok-read.field-0 c.loop-bytes.count c.in_ok-read.ensures.bytes
    c.if-branch-eq0.true c.loop-bytes.invariant.counted

pub returns-in-Some-clause-short : goal.returns-in-Some-clause-short
returns-in-Some-clause-short g c =
    subst AreShort (sym c.truncate.ensures.items) (subst
    (λ b. AreShort (take c.end_in.new.self.whole b)) c.deref.ensures.value c.in-Some.ensures.2)

pub returns-then-branch-eq0-clause-few : goal.returns-then-branch-eq0-clause-few
returns-then-branch-eq0-clause-few g c =
    few_whole (g.S.Source.left c.loop-bytes.src) (g.S.Source.left c.read.new.self)
    c.read.new.out.items c.in_ok-read.field-0 c.loop-bytes.count c.in_ok-read.ensures.bytes
    c.if-branch-eq0.true c.loop-bytes.invariant.counted

pub returns-in-Some-clause-few : goal.returns-in-Some-clause-few
returns-in-Some-clause-few g c =
    let few = few_stopped _ _ c.in-Some.end c.in-Some.ensures.0 c.in-Some.ensures.1 in
    subst (λ b. length (lines_of b) ≤ 10000000) (sym {A = List ℕ} c.truncate.ensures.items)
    (subst (λ b. length (lines_of (take c.end_in.new.self.whole b)) ≤ 10000000)
    c.deref.ensures.value few)
