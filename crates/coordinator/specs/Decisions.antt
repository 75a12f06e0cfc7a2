-- What a coordinator decides, by all the votes that reach it, in the words of two-phase commit: the
-- first vote of each participant counts; the first of these that refuses aborts; where all have a
-- timestamp, the transaction commits at the greatest.
use Rattle.std.specs.Prelude.{ℕ, ◌&&◌, Bool, not, List, [], ◌∷◌, ◌++◌, nat_eq, Option, Some, None}
use Rattle.std.specs.Prelude.{Result, Ok, Err, if◌then◌else◌}
use Rattle.std.specs.List.{list_any, list_all}
use Rattle.txn_types.specs.Causes.{cause_number}
use Rattle.txn_types.specs.declared.cause.Cause.{Cause}
use Rattle.txn_types.specs.declared.decision.Decision.{Decision}
use Rattle.txn_types.specs.declared.decision.Decision.TheVariants.{Commit, Abort}
use Rattle.coordinator.specs.declared.plan.Plan.{Plan}
use Rattle.coordinator.specs.TwoPhase.{Coordinated, takes_part, counts, behind_vote, greatest}

-- a vote that arrives: of which shard, and its timestamp or why it can't commit
abbrev pub Ballot : Type 0
Ballot = ℕ × Result ℕ Cause

-- a coordination after votes that arrive one after the other
abbrev pub heard : List Ballot → Coordinated → Coordinated
heard [] c = c
heard (ballot ∷ ballots) c =
    heard ballots (if counts ballot.0 c then behind_vote ballot.0 ballot.1 c else c)

-- the first vote of each participant, in the order in which they arrive; these shards voted before
abbrev pub is_first : Plan → List ℕ → ℕ → Bool
is_first plan before shard = takes_part shard plan && not (list_any (nat_eq shard) before)

abbrev pub first_votes : Plan → List ℕ → List Ballot → List Ballot
first_votes plan before [] = []
first_votes plan before (ballot ∷ ballots) =
    if is_first plan before ballot.0
    then ballot ∷ first_votes plan (before ++ ballot.0 ∷ []) ballots
    else first_votes plan before ballots

-- the abort by the first vote that refuses
abbrev pub refusal : ℕ → Result ℕ Cause → Option Decision → Option Decision
refusal shard (Err cause) later = Some (Abort shard (cause_number cause))
refusal shard (Ok at) later = later

abbrev pub first_refusal : List Ballot → Option Decision
first_refusal [] = None
first_refusal (vote ∷ votes) = refusal vote.0 vote.1 (first_refusal votes)

-- the timestamps of votes, each with its shard
abbrev pub with_time : ℕ → Result ℕ Cause → List (ℕ × ℕ) → List (ℕ × ℕ)
with_time shard (Ok at) later = (shard, at) ∷ later
with_time shard (Err cause) later = later

abbrev pub times : List Ballot → List (ℕ × ℕ)
times [] = []
times (vote ∷ votes) = with_time vote.0 vote.1 (times votes)

-- each participant has one of these timestamps
abbrev pub are_all : Plan → List (ℕ × ℕ) → Bool
are_all plan votes = list_all (λ part. list_any (λ vote. nat_eq vote.0 part.0) votes) plan.parts

abbrev pub unless_refused : Option Decision → Option Decision → Option Decision
unless_refused (Some abort) commit = Some abort
unless_refused None commit = commit

abbrev pub commit_at : Plan → List (ℕ × ℕ) → Option Decision
commit_at plan votes = if are_all plan votes then Some (Commit (greatest votes)) else None

-- what the first votes decide; nothing without a vote
abbrev pub outcome : Plan → List Ballot → Option Decision
outcome plan [] = None
outcome plan (vote ∷ votes) =
    unless_refused (first_refusal (vote ∷ votes)) (commit_at plan (times (vote ∷ votes)))
