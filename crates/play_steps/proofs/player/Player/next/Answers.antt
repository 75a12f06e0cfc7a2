use Rattle.std.proofs.Common.{◌<◌, List, ℕ, length, Option, IfNone, ap, sym, subst, ◌∙◌, arith}
use Rattle.play_steps.specs.declared.want.Want.{Want}
use Rattle.play_steps.proofs.Ready.{as_ready}
use Rattle.play_steps.proofs.Lining.{ready_none, ready_some, ready_keeps, line_ends, line_goes}
use Rattle.play_steps.proofs.player.Player.next.Goals as goal

pub returns-in-Some : goal.returns-in-Some
returns-in-Some g c =
    sym c.loop-want.invariant
    ∙ ready_some (g.L.CommitList.text c.args.commits.now) c.loop-want.out.items
    c.ready.new.out.items c.loop-want.self c.ready.new.self c.in-Some.want
    (c.in_ok-want.ensures
    ∙ ap (λ (o : Option Want). as_ready c.ready.new.out.items o c.ready.new.self) c.in-Some.is)

pub returns-in-Some-2 : goal.returns-in-Some-2
returns-in-Some-2 g c =
    sym c.loop-want.invariant
    ∙ ready_none (g.L.CommitList.text c.args.commits.now) c.loop-want.out.items
    c.ready.new.out.items c.loop-want.self c.ready.new.self
    (c.in_ok-want.ensures ∙ ap (λ (o : Option Want). as_ready c.ready.new.out.items o
    c.ready.new.self) c.in_default.is)
    ∙ line_ends (g.L.CommitList.text c.args.commits.now) c.ready.new.out.items
    c.line_next.new.out.items c.ready.new.self c.line_next.new.self c.in_ok-want-2.field-0
    c.in-Some-2.want c.in-Some-2.is c.in_ok-want-2.ensures.next

pub loop-want-smaller : goal.loop-want-smaller
loop-want-smaller g c =
    let fewer : length c.line_next.new.self.lines < length c.ready.new.self.lines =
    subst (λ (o : Option Want). IfNone o (length c.line_next.new.self.lines
    < length c.ready.new.self.lines)) c.in_default-2.is c.in_ok-want-2.ensures.fewer in
    omega (
      arith,
      fewer,
      ap (λ (ls : List (List ℕ)). length ls) (ready_keeps c.loop-want.self c.ready.new.self
          c.loop-want.out.items c.ready.new.out.items c.in_ok-want.field-0 c.in_ok-want.ensures),
    )

pub loop-want-preserved : goal.loop-want-preserved
loop-want-preserved g c =
    sym (line_goes (g.L.CommitList.text c.args.commits.now) c.ready.new.out.items
    c.line_next.new.out.items c.ready.new.self c.line_next.new.self c.in_ok-want-2.field-0
    c.in_default-2.is c.in_ok-want-2.ensures.next)
    ∙ sym (ready_none (g.L.CommitList.text c.args.commits.now) c.loop-want.out.items
    c.ready.new.out.items c.loop-want.self c.ready.new.self
    (c.in_ok-want.ensures ∙ ap (λ (o : Option Want). as_ready c.ready.new.out.items o
    c.ready.new.self) c.in_default.is))
    ∙ c.loop-want.invariant
