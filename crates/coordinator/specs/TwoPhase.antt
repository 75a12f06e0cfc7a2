-- Two-phase commit at its coordinator. Each participant's first vote counts: the first vote against
-- decides to abort, and the last of all timestamps decides to commit at the greatest. A participant
-- that is named twice votes once and acknowledges once. After the server's outline of commits
-- across shards.
use Rattle.std.specs.Prelude.{ℕ, ◌&&◌, Bool, not, List, [], ◌∷◌, ◌++◌, map, filter, fold, find, max}
use Rattle.std.specs.Prelude.{nat_eq, Option, Some, None, is_some, is_none, option_map, Result, Ok}
use Rattle.std.specs.Prelude.{Err, if◌then◌else◌}
use Rattle.std.specs.List.{list_any, list_all, flat_map}
use Rattle.txn_types.specs.Causes.{cause_number}
use Rattle.txn_types.specs.Letters.{Letter}
use Rattle.txn_types.specs.Numbers.{put_number}
use Rattle.txn_types.specs.Order.{same_tag, tag_cmp}
use Rattle.txn_types.specs.declared.cause.Cause.{Cause}
use Rattle.txn_types.specs.declared.decision.Decision.{Decision}
use Rattle.txn_types.specs.declared.decision.Decision.TheVariants as decision
use Rattle.txn_types.specs.declared.message.Msg.TheVariants as msg
use Rattle.txn_types.specs.declared.names.Tag.{Tag}
use Rattle.txn_types.specs.declared.node.NodeId.TheVariants.{Shard}
use Rattle.txn_semantics.specs.Keyed.{put, taken_out}
use Rattle.coordinator.specs.declared.plan.Plan.{Plan}

-- a shard, and its boot when it took part
abbrev pub Participant : Type 0
Participant = ℕ × ℕ

-- a coordinated transaction: the plan; the shards that voted, with their timestamps; the decision;
-- the shards that have it; and the routers that wait for it, rising
pub record Coordinated : Type 0 where
  pub plan : Plan
  pub votes : List (ℕ × ℕ)
  pub decision : Option Decision
  pub acks : List ℕ
  pub askers : List ℕ

-- rising by tag
abbrev pub Coordinations : Type 0
Coordinations = List (Tag × Coordinated)

abbrev pub coordinated_of : Coordinations → Tag → Option Coordinated
coordinated_of coords tag = option_map (λ c. c.1) (find (λ c. same_tag c.0 tag) coords)

-- with a transaction in this state
abbrev pub with_coordinated : Tag → Coordinated → Coordinations → Coordinations
with_coordinated tag c coords = put tag_cmp tag c coords

-- no one has voted, and nothing is decided
abbrev pub undecided : Plan → Coordinated
undecided plan = record { plan = plan; votes = []; decision = None; acks = []; askers = [] }

-- with a transaction whose commit begins
abbrev pub started : Tag → Plan → Coordinations → Coordinations
started tag plan coords = with_coordinated tag (undecided plan) coords

-- Who waits for the decision.

-- the router waits for the decision
abbrev pub with_asker : ℕ → Coordinated → Coordinated
with_asker router c = record c { askers = put_number router c.askers }

abbrev pub is_asker : ℕ → Coordinated → Bool
is_asker router c = list_any (nat_eq router) c.askers

-- after a router's question; one that a decision answers changes nothing
abbrev pub asked : Tag → ℕ → Coordinated → Coordinations → Coordinations
asked tag router c coords = if is_none c.decision
    then with_coordinated tag (with_asker router c) coords else coords

-- Votes.

abbrev pub takes_part : ℕ → Plan → Bool
takes_part shard plan = list_any (λ part. nat_eq part.0 shard) plan.parts

abbrev pub has_voted : ℕ → Coordinated → Bool
has_voted shard c = list_any (λ vote. nat_eq vote.0 shard) c.votes

-- the vote counts: nothing is decided, and it is the participant's first
abbrev pub counts : ℕ → Coordinated → Bool
counts shard c = is_none c.decision && takes_part shard c.plan && not (has_voted shard c)

-- each participant has voted
abbrev pub all_voted : Coordinated → Bool
all_voted c = list_all (λ part. has_voted part.0 c) c.plan.parts

-- the greatest timestamp
abbrev pub greatest : List (ℕ × ℕ) → ℕ
greatest votes = fold (λ most vote. max most vote.1) 0 votes

-- what is decided once these votes are in
abbrev pub commit_by : Coordinated → Option Decision
commit_by c = if all_voted c then Some (decision.Commit (greatest c.votes)) else None

abbrev pub with_vote : ℕ → ℕ → Coordinated → Coordinated
with_vote shard at c = record c { votes = c.votes ++ (shard, at) ∷ [] }

abbrev pub with_decision : Option Decision → Coordinated → Coordinated
with_decision decision c = record c { decision = decision }

-- after a vote that counts
abbrev pub behind_vote : ℕ → Result ℕ Cause → Coordinated → Coordinated
behind_vote shard (Err cause) c = with_decision (Some (decision.Abort shard (cause_number cause))) c
behind_vote shard (Ok at) c =
    with_decision (commit_by (with_vote shard at c)) (with_vote shard at c)

-- after a vote; one that doesn't count changes nothing
abbrev pub voted : Tag → ℕ → Result ℕ Cause → Coordinated → Coordinations → Coordinations
voted tag shard vote c coords = if counts shard c
    then with_coordinated tag (behind_vote shard vote c) coords else coords

-- what a vote decides
abbrev pub decided_by : ℕ → Result ℕ Cause → Coordinated → Option Decision
decided_by shard vote c = if counts shard c then (behind_vote shard vote c).decision else None

-- Acknowledgements.

abbrev pub has_acked : ℕ → Coordinated → Bool
has_acked shard c = list_any (nat_eq shard) c.acks

-- the acknowledgement counts: there is a decision to have, and it is the participant's first
abbrev pub ack_counts : ℕ → Coordinated → Bool
ack_counts shard c = is_some c.decision && takes_part shard c.plan && not (has_acked shard c)

-- the participant has the decision
abbrev pub with_ack : ℕ → Coordinated → Coordinated
with_ack shard c = record c { acks = c.acks ++ shard ∷ [] }

-- each participant has it
abbrev pub all_acked : Coordinated → Bool
all_acked c = list_all (λ part. has_acked part.0 c) c.plan.parts

-- this is the last that was wanted
abbrev pub is_last_ack : ℕ → Coordinated → Bool
is_last_ack shard c = ack_counts shard c && all_acked (with_ack shard c)

-- after an acknowledgement that counts: once all have the decision the transaction is forgotten
abbrev pub behind_ack : Tag → ℕ → Coordinated → Coordinations → Coordinations
behind_ack tag shard c coords =
    if all_acked (with_ack shard c) then taken_out tag_cmp tag coords
    else with_coordinated tag (with_ack shard c) coords

-- after an acknowledgement; one that doesn't count changes nothing
abbrev pub acked : Tag → ℕ → Coordinated → Coordinations → Coordinations
acked tag shard c coords = if ack_counts shard c then behind_ack tag shard c coords else coords

-- What is sent to participants, in the order of the plan.

abbrev pub prepare_to : ℕ → Tag → Plan → Participant → Letter
prepare_to own tag plan part = (
  Shard part.0,
  msg.Prepare (record {
    tag = tag;
    lsid = plan.lsid;
    number = plan.number;
    boot = part.1;
    coordinator = own;
  }),
)

abbrev pub decide_to : Tag → Plan → Decision → Participant → Letter
decide_to tag plan decision part = (
  Shard part.0,
  msg.Decide (record { tag = tag; lsid = plan.lsid; number = plan.number; decision = decision }),
)

abbrev pub prepares : ℕ → Tag → Plan → List Letter
prepares own tag plan = map (prepare_to own tag plan) plan.parts

abbrev pub decides : Tag → Plan → Decision → List Letter
decides tag plan decision = map (decide_to tag plan decision) plan.parts

-- once more: to those whose vote is wanted, or else to those that don't have the decision
abbrev pub resends_by : ℕ → Tag → Coordinated → Option Decision → List Letter
resends_by own tag c None =
    map (prepare_to own tag c.plan) (filter (λ part. not (has_voted part.0 c)) c.plan.parts)
resends_by own tag c (Some decision) =
    map (decide_to tag c.plan decision) (filter (λ part. not (has_acked part.0 c)) c.plan.parts)

-- by rising tag
abbrev pub resends : ℕ → Coordinations → List Letter
resends own coords = flat_map (λ entry. resends_by own entry.0 entry.1 entry.1.decision) coords
