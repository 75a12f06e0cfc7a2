use Rattle.std.proofs.Common.{◌≡◌, ℤ, w64, to_z, of_z, subst, ◌∙◌}
use Rattle.std.specs.Prelude.{IfOk}
use Rattle.std.specs.Option.{option_copied}
use Rattle.std.proofs.lemmas.Int.{to_z-of_z}
use Rattle.router_state.specs.Deeds.{Move}
use Rattle.router_plan.specs.Plans.{state_of, move_of}
use Rattle.router_core.proofs.Plainly.{next_has_room, plain_refused, plain_begins}
use Rattle.router_core.proofs.statements.plain_statement.Goals as goal

pub returns-in-Some-clause-moved : goal.returns-in-Some-clause-moved
returns-in-Some-clause-moved c =
    subst (λ (m : Move). IfOk c.answers.result
    (λ p. move_of p c.args.chunks.now c.args.sessions.now ≡ m))
    (plain_refused (state_of c.args.base.now c.args.chunks.now c.args.sessions.now) c.args.asker
    c.args.op.now c.args.at (option_copied c.entry_of-session.result) c.in_ok-refusal.refusal
    c.in-Some.reply c.entry_of-session.ensures c.in_ok-refusal.ensures c.in-Some.is)
    c.answers.ensures.moved

pub next_number-number-requires : goal.next_number-number-requires
next_number-number-requires c =
    next_has_room (state_of c.args.base.now c.args.chunks.now c.args.sessions.now) c.args.asker.conn
    c.args.op.now (option_copied c.entry_of-session.result) c.in_ok-refusal.refusal c.requires
    c.entry_of-session.ensures c.in_ok-refusal.ensures c.in_default.is

pub returns-clause-moved : goal.returns-clause-moved
returns-clause-moved c =
    let number : ℤ = to_z w64 (of_z w64 c.next_number-number.result) in
    subst (λ (m : Move). IfOk c.begins.result
    (λ p. move_of p c.args.chunks.now c.args.sessions.now ≡ m))
    (plain_begins (state_of c.args.base.now c.args.chunks.now c.args.sessions.now) c.args.asker
    c.args.op.now c.args.at (option_copied c.entry_of-session.result) c.in_ok-refusal.refusal
    number c.entry_of-session.ensures c.in_ok-refusal.ensures c.in_default.is
    (to_z-of_z w64 c.next_number-number.result (record { sfits = c.next_number-number.type_inv })
    ∙ c.next_number-number.ensures))
    c.begins.ensures.moved
