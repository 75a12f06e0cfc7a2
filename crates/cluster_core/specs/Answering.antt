-- Which statements a run answered, from the messages and requests of the run alone. A statement is
-- answered at the step at which its router has taken, from every shard that it sent the statement
-- to, an Answer with a reply or with the statement's own refusal. The first Answer of each shard
-- counts, and none after the end of the statement's connection.
use Rattle.std.specs.Prelude.{ℕ, ◌&&◌, Bool, not, List, [], ◌∷◌, ◌++◌, map, filter, filter_map}
use Rattle.std.specs.Prelude.{nat_eq, length, Option, Some, None, is_some, Ok, Err, if◌then◌else◌}
use Rattle.std.specs.List.{list_any, list_all}
use Rattle.std.specs.Ordering.{nat_cmp}
use Rattle.txn_types.specs.Order.{same_tag}
use Rattle.txn_types.specs.declared.cause.Cause.{Cause}
use Rattle.txn_types.specs.declared.cause.Cause.TheVariants as cause
use Rattle.txn_types.specs.declared.event.Happening.{Happening}
use Rattle.txn_types.specs.declared.event.Happening.TheVariants as what
use Rattle.txn_types.specs.declared.event.NodeAnswer.{NodeAnswer}
use Rattle.txn_types.specs.declared.event.NodeEvent.{NodeEvent}
use Rattle.txn_types.specs.declared.message.Answer.{Answer}
use Rattle.txn_types.specs.declared.message.Envelope.{Envelope}
use Rattle.txn_types.specs.declared.message.Msg.{Msg}
use Rattle.txn_types.specs.declared.message.Msg.TheVariants as msg
use Rattle.txn_types.specs.declared.message.Statement.{Statement}
use Rattle.txn_types.specs.declared.names.Tag.{Tag}
use Rattle.txn_types.specs.declared.node.NodeId.TheVariants.{Shard, Router}
use Rattle.txn_types.specs.declared.operation.Op.{Op}
use Rattle.txn_semantics.specs.Keyed.{put}
use Rattle.txn_semantics.specs.Meaning.{Meaning, document_rules}
use Rattle.txn_semantics.specs.Splits.{outcome}
use Rattle.txn_semantics.specs.declared.commits.Answered.{Answered}
use Rattle.client_cmd.specs.declared.request.Request.TheVariants as request
use Rattle.router_state.specs.State.{RouterState}
use Rattle.txn_types.specs.Letters.{given_out}
use Rattle.cluster_core.specs.Routers.{Asked, request_at}

-- a statement that was sent and isn't answered: its router and connection, its transaction and
-- place there, the client's whole operation, the shards that it was sent to, and the answers that
-- were taken, by rising shard
pub record Unanswered : Type 0 where
  pub router : ℕ
  pub conn : ℕ
  pub tag : Tag
  pub k : ℕ
  pub op : Op
  pub shards : List ℕ
  pub answers : List (ℕ × Answer)

abbrev pub statement_in : Envelope → Option (ℕ × Statement)
statement_in e = elim (e.msg) [
  | msg.Statement m ↦ elim (e.to) [ Shard n ↦ Some (n, m) | Router n ↦ None ]
  | _ ↦ None
]

-- the parts of a statement that a step sent, with their shards
abbrev pub statements_in : NodeAnswer → List (ℕ × Statement)
statements_in a = filter_map statement_in (given_out a)

-- What a request opens.
abbrev pub opened_by : ℕ → ℕ → Op → List (ℕ × Statement) → List Unanswered
opened_by router conn op [] = []
opened_by router conn op (part ∷ parts) =
    record {
      router = router;
      conn = conn;
      tag = part.1.tag;
      k = part.1.k;
      op = op;
      shards = map (λ p. p.0) (part ∷ parts);
      answers = [];
    } ∷ []

abbrev pub opened : ℕ → Option Asked → NodeAnswer → List Unanswered
opened router None a = []
opened router (Some asked) a = elim (asked.1) [
  | request.Statement op txn at after more time ↦ opened_by router asked.0 op (statements_in a)
  | _ ↦ []
]

-- An Answer that a router takes.

abbrev pub is_for : ℕ → Answer → Unanswered → Bool
is_for router a u =
    nat_eq u.router router && same_tag u.tag a.tag && nat_eq u.k a.k && list_any (nat_eq a.shard)
    u.shards && not (list_any (λ other. nat_eq other.0 a.shard) u.answers)

abbrev pub with_answer : ℕ → Answer → Unanswered → Unanswered
with_answer router a u = if is_for router a u
    then record u { answers = put nat_cmp a.shard a u.answers } else u

abbrev pub is_complete : Unanswered → Bool
is_complete u = nat_eq (length u.answers) (length u.shards)

-- what an Answer says of the statement: its reply, or its own refusal; none where another cause
-- stands
abbrev pub refused_as : Cause → Option Meaning
refused_as (cause.Statement err) = Some (Err err)
refused_as other = None

abbrev pub meaning_in : ℕ × Answer → Option Meaning
meaning_in answer =
    elim (answer.1.outcome) [ Ok done ↦ Some (Ok (done.0, [])) | Err why ↦ refused_as why ]

abbrev pub all_say : Unanswered → Bool
all_say u = list_all (λ answer. is_some (meaning_in answer)) u.answers

abbrev pub read_at_of : List (ℕ × Answer) → ℕ
read_at_of [] = 0
read_at_of (answer ∷ answers) = answer.1.read_at

-- the answered statement: it was read at what its answers tell, and what it is told is one reply or
-- refusal
abbrev pub answered_of : Unanswered → Answered
answered_of u = record {
  tag = u.tag;
  read_at = read_at_of u.answers;
  k = u.k;
  op = u.op;
  outcome = outcome document_rules u.op (filter_map meaning_in u.answers);
}

abbrev pub answered_among : List Unanswered → List Answered
answered_among us = map answered_of (filter (λ u. is_complete u && all_say u) us)

-- taken at a router: an Answer, or the end of a connection
abbrev pub taken_msg : ℕ → Msg → List Unanswered → List Unanswered
taken_msg n (msg.Answer a) us = map (with_answer n a) us
taken_msg n other us = us

abbrev pub taken_what : ℕ → Happening → List Unanswered → List Unanswered
taken_what n (what.Deliver e) us = taken_msg n e.msg us
taken_what n (what.Gone conn) us = filter (λ u. not (nat_eq u.router n && nat_eq u.conn conn)) us
taken_what n other us = us

-- the statements after a router's step, with those that it answers
abbrev pub unanswered_behind : ℕ → RouterState → NodeEvent → NodeAnswer → List Unanswered
    → List Unanswered
unanswered_behind n r e a us = taken_what n e.what us ++ opened n (request_at r e a) a

-- without those that are answered
abbrev pub left_unanswered : List Unanswered → List Unanswered
left_unanswered us = filter (λ u. not (is_complete u)) us
