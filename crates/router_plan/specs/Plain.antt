-- Commands by themselves: each begins the next transaction of its connection's own session.
use Rattle.std.specs.Prelude.{ℕ, ℤ, pos, ◌-◌, ◌^◌, ◌+ℤ◌, [], ◌∷◌, nat_le, Option, Some, None}
use Rattle.txn_types.specs.declared.operation.Op.{Op}
use Rattle.txn_semantics.specs.Touched.{first_some}
use Rattle.client_reply.specs.declared.reply.Refusal.TheVariants as refusal
use Rattle.client_reply.specs.declared.reply.Reply.{Reply}
use Rattle.router_state.specs.declared.state.Session.{Session}
use Rattle.router_state.specs.State.{RouterState}
use Rattle.router_plan.specs.Refusals.{where_so, busy, too_many, many_shards}

-- why one is refused: no other refusal of a statement can come
abbrev pub plain_refusal : RouterState → ℕ → Option Session → Op → Option Reply
plain_refusal s conn session op = first_some (
    busy session conn ∷
    too_many s session ∷
    where_so (nat_le (2 ^ 63 - 1) s.serial) refusal.Spent ∷
    many_shards s.chunks op ∷
    [])

-- the connection's next number, from 1
abbrev pub next_number : Option Session → ℤ
next_number None = pos 1
next_number (Some session) = session.number +ℤ pos 1
