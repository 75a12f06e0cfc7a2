use Rattle.std.proofs.Common.{◌≡◌, ◌∙◌, ℕ, Option, Some, None, ap, sym, unwrap_or}
use Rattle.txn_types.specs.Clock.{ticked}
use Rattle.txn_types.specs.declared.cause.Cause.TheVariants as cause
use Rattle.participant.specs.Part.{Part}
use Rattle.txn_types.specs.declared.decision.Told.TheVariants as told
use Rattle.participant.specs.Commit.{Committing, commits_by, fails}
use Rattle.participant.proofs.Commits.{other_boot, without_writes, with_writes}
use Rattle.participant.proofs.part.Participant.commit_live.Goals as goal

pub returns-then-m-self-clause-done : goal.returns-then-m-self-clause-done
returns-then-m-self-clause-done c = λ s is.
    other_boot c.args.self.now c.args.clock.now.last c.args.wall c.args.m.now s c.self.inside.boot
    (ap (λ (q : Part). q.boot) c.self.view_is) c.if-m-self.true
    ∙ c.commit_fails.ensures c.args.clock.now.last s is

pub returns-then-not-has_writes-clause-done : goal.returns-then-not-has_writes-clause-done
returns-then-not-has_writes-clause-done c = λ s is.
    without_writes c.args.self.now c.args.clock.now.last c.args.wall c.args.m.now s
    c.self.inside.boot (ap (λ (q : Part). q.boot) c.self.view_is) c.if-m-self.false
    (sym c.has_writes.ensures ∙ c.if-not-has_writes.true)
    ∙ c.release.ensures c.args.clock.now.last s is

pub returns-in-None-clause-done : goal.returns-in-None-clause-done
returns-in-None-clause-done c = λ s is.
    let w = with_writes c.args.self.now c.args.clock.now.last c.args.wall c.args.m.now s
    c.self.inside.boot (ap (λ (q : Part). q.boot) c.self.view_is) c.if-m-self.false
    (sym c.has_writes.ensures ∙ c.if-not-has_writes.false) in
    let none : ticked c.args.clock.now.last c.args.wall ≡ None = sym c.next_tick.ensures.time
    ∙ c.in-None.is in
    let stays : c.next_tick.new.clock.last ≡ c.args.clock.now.last = c.next_tick.ensures.last
    ∙ ap (λ (r : Option ℕ). unwrap_or r c.args.clock.now.last) c.in-None.is in
    w.2
    ∙ ap (commits_by c.args.self.now c.args.clock.now.last c.args.m.now s w.0) none
    ∙ ap (λ (n : ℕ). fails c.args.self.now n c.args.m.now s (cause.ClockEnd n)) (sym stays)
    ∙ c.commit_fails-in-None.ensures c.next_tick.new.clock.last s is

pub returns-in-Some-clause-done : goal.returns-in-Some-clause-done
returns-in-Some-clause-done c = λ s is.
    let w = with_writes c.args.self.now c.args.clock.now.last c.args.wall c.args.m.now s
    c.self.inside.boot (ap (λ (q : Part). q.boot) c.self.view_is) c.if-m-self.false
    (sym c.has_writes.ensures ∙ c.if-not-has_writes.false) in
    let some : ticked c.args.clock.now.last c.args.wall ≡ Some c.in-Some.at =
    sym c.next_tick.ensures.time ∙ c.in-Some.is in
    let last : c.next_tick.new.clock.last ≡ c.in-Some.at = c.next_tick.ensures.last
    ∙ ap (λ (r : Option ℕ). unwrap_or r c.args.clock.now.last) c.in-Some.is in
    w.2
    ∙ ap (commits_by c.args.self.now c.args.clock.now.last c.args.m.now s w.0) some
    ∙ c.commit_at.ensures s w.0 is w.1
    ∙ ap (λ (n : ℕ). let x : Committing = record {
      told = Some (told.Committed c.in-Some.at);
      rec = c.commit_at.result;
      last = n;
      part = c.commit_at.new.self;
    } in x) (sym last)
