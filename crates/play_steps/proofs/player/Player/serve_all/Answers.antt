use Rattle.std.proofs.Common.{List, ℕ, ap, sym, ◌∙◌}
use Rattle.play_text.specs.Text.{closed_line}
use Rattle.client_streams.specs.Turns.{turn_of}
use Rattle.play_steps.specs.Player.{Player, connection, behind_text, ready}
use Rattle.play_steps.proofs.Serving.{passes, closes, gives_next, behind_behind}
use Rattle.play_steps.proofs.player.Player.serve_all.Goals as goal

pub returns-in-Message : goal.returns-in-Message
returns-in-Message c =
    gives_next c.loop-conn.self c.give.new.self c.in-Some.conn c.in_ok-want-in-Message.want
    c.loop-conn.out.items (behind_text c.args.out.now.items (ready c.args.self.now))
    c.in-Some.ensures
    (c.in-Message.ensures
    ∙ ap (λ (p : Player). turn_of (connection p c.in-Some.conn)) c.self.view_is)
    c.in_ok-want-in-Message.ensures.given
    c.in_ok-want-in-Message.ensures.rest
    c.loop-conn.invariant

pub loop-conn-preserved-in-Continue-branch-2 : goal.loop-conn-preserved-in-Continue-branch-2
loop-conn-preserved-in-Continue-branch-2 c =
    ap (λ (text : List ℕ). behind_text text (ready c.close.new.self))
    c.in_ok-close-in-Fault.ensures.text
    ∙ sym (behind_behind c.loop-conn.out.items (closed_line c.in-Some.conn c.in-Fault.number)
    (ready c.close.new.self))
    ∙ ap (behind_text c.loop-conn.out.items)
    (closes c.loop-conn.self c.close.new.self c.in-Some.conn c.in-Fault.number c.in-Some.ensures
    (c.in-Fault.ensures ∙ ap (λ (p : Player). turn_of (connection p c.in-Some.conn))
    c.self.view_is) c.in_ok-close-in-Fault.ensures.closed)
    ∙ c.loop-conn.invariant

pub loop-conn-preserved : goal.loop-conn-preserved
loop-conn-preserved c =
    ap (behind_text c.loop-conn.out.items) (passes c.loop-conn.self
    c.pass.new.self c.in-Some.conn c.in-Some.ensures (c.in-Nothing.ensures
    ∙ ap (λ (p : Player). turn_of (connection p c.in-Some.conn)) c.self.view_is) c.pass.ensures)
    ∙ c.loop-conn.invariant
