use Rattle.std.proofs.Common.{◌≡◌, length, ap, sym, ◌∙◌, arith}
use Rattle.std.proofs.lemmas.Bool.{eqb-true}
use Rattle.play_script.specs.Lines.{lines_of}
use Rattle.play_steps.specs.Player.{Player}
use Rattle.play_steps.specs.Lines.{at_line}
use Rattle.play_steps.proofs.Lining.{ends, no_lines, done}
use Rattle.play_steps.proofs.player.Player.line_next.Goals as goal

pub returns-then-is_empty-clause-next : goal.returns-then-is_empty-clause-next
returns-then-is_empty-clause-next g c =
    ends (g.L.CommitList.text c.args.commits.now) c.args.out.now.items c.put.new.out.items
    c.args.self.now
    (sym (ap (λ (p : Player). p.lines) c.self.view_is) ∙ no_lines c.self.inside.lines.now
    (eqb-true (length c.self.inside.lines.now) 0 (sym c.if-is_empty.ensures)))
    c.in_ok-put.ensures

pub returns-in_ok-do_line-in-Some-clause-next : goal.returns-in_ok-do_line-in-Some-clause-next
returns-in_ok-do_line-in-Some-clause-next g c =
    let rest = lines_of c.next_line.result.1.now in
    let taken : c.self.inside.taken ≡ c.args.self.now.taken =
    ap (λ (p : Player). p.taken) c.self.view_is in
    done (g.L.CommitList.text c.args.commits.now) c.args.out.now.items c.do_line.new.out.items
    c.next_line.result.0.now rest c.args.self.now _ c.do_line.new.self c.in-Some.asked_line
    (sym (ap (λ (p : Player). p.lines) c.self.view_is) ∙ c.next_line.ensures.parts)
    (omega (arith, c.if-self-ge-MOST_LINES.false, taken))
    (ap (λ (p : Player). at_line p rest) c.self.view_is)
    (sym c.in-Some.is ∙ c.in_ok-asked.ensures)
    c.in_ok-do_line-in-Some.ensures
