-- What is decided, vote by vote, is what the first votes decide.
use Rattle.std.proofs.Common.{◌≡◌, ℕ, ◌+◌, ◌≤◌, ◌||◌, ◌&&◌, ◌⊎◌, is_none, Bool, true, false, not}
use Rattle.std.proofs.Common.{cond, List, [], ◌∷◌, ◌++◌, max, Option, Some, None, Result, Ok, Err}
use Rattle.std.proofs.Common.{refl, ap, sym, ◌∙◌, arith, eqb, leb, append_assoc, fold, inl, inr}
use Rattle.std.proofs.Common.{⊎_elim}
use Rattle.std.specs.List.{list_any, list_all}
use Rattle.std.proofs.lemmas.Bool.{eqb-true, eq-eqb, le-leb, cases_lt, and_parts, and_from}
use Rattle.std.proofs.lemmas.Bool.{or_cases, or_left, or_right}
use Rattle.std.proofs.lemmas.List.Folds.{list_any-append}
use Rattle.txn_types.specs.Causes.{cause_number}
use Rattle.txn_types.specs.declared.cause.Cause.{Cause}
use Rattle.txn_types.specs.declared.decision.Decision.{Decision}
use Rattle.txn_types.specs.declared.decision.Decision.TheVariants.{Commit, Abort}
use Rattle.coordinator.specs.declared.plan.Plan.{Plan}
use Rattle.coordinator.specs.TwoPhase.{Coordinated, undecided, takes_part, has_voted, counts}
use Rattle.coordinator.specs.TwoPhase.{all_voted, greatest, with_vote, with_decision, behind_vote}
use Rattle.coordinator.specs.Decisions.{Ballot, heard, is_first, first_votes, first_refusal, times}
use Rattle.coordinator.specs.Decisions.{are_all, unless_refused, commit_at, outcome}
use Rattle.coordinator.proofs.Counting.{eqb_turned}

-- a decision stands: no later vote counts
one_stands : (ballot : Ballot) (c : Coordinated) (d : Decision) → c.decision ≡ Some d
    → cond (counts ballot.0 c) (behind_vote ballot.0 ballot.1 c) c ≡ c
one_stands ballot c d h =
    ap (λ (o : Option Decision). cond (is_none o && takes_part ballot.0 c.plan
    && not (has_voted ballot.0 c)) (behind_vote ballot.0 ballot.1 c) c) h

pub stands : (ballots : List Ballot) (c : Coordinated) (d : Decision) → c.decision ≡ Some d
    → heard ballots c ≡ c
stands [] c d h = refl
stands (ballot ∷ ballots) c d h = ap (heard ballots) (one_stands ballot c d h)
    ∙ stands ballots c d h

-- what holds of each part holds of a shard among them
holds_of : (p : ℕ → Bool) (parts : List (ℕ × ℕ)) (shard : ℕ)
    → list_all (λ part. p part.0) parts ≡ true → list_any (λ part. eqb part.0 shard) parts ≡ true
    → p shard ≡ true
holds_of p [] shard all some = let wrong : false ≡ true = some in cc
holds_of p (part ∷ parts) shard all some =
    let both = and_parts (p part.0) (list_all (λ other. p other.0) parts) all in
    ⊎_elim (λ e. ap p (sym (eqb-true part.0 shard e)) ∙ both.0)
    (λ later. holds_of p parts shard both.1 later)
    (or_cases (eqb part.0 shard) (list_any (λ other. eqb other.0 shard) parts) some)

-- where each participant has voted, no later vote is a first one
none_first : (t a : Bool) → (t ≡ true → a ≡ true) → (t && not a) ≡ false
none_first true a h = ap not (h refl)
none_first false a h = refl

no_more : (plan : Plan) (before : List ℕ) (ballots : List Ballot)
    → ((shard : ℕ) → takes_part shard plan ≡ true → list_any (eqb shard) before ≡ true)
    → first_votes plan before ballots ≡ []
no_more plan before [] h = refl
no_more plan before (ballot ∷ ballots) h =
    ap (λ (b : Bool). cond b (ballot ∷ first_votes plan (before ++ ballot.0 ∷ []) ballots)
    (first_votes plan before ballots))
    (none_first (takes_part ballot.0 plan) (list_any (eqb ballot.0) before) (h ballot.0))
    ∙ no_more plan before ballots h

-- the outcome of votes after timestamps that are known
abbrev outcome_behind : List (ℕ × ℕ) → Plan → List Ballot → Option Decision
outcome_behind known plan [] = None
outcome_behind known plan (vote ∷ votes) =
    unless_refused (first_refusal (vote ∷ votes)) (commit_at plan (known ++ times (vote ∷ votes)))

behind_none : (plan : Plan) (votes : List Ballot)
    → outcome_behind [] plan votes ≡ outcome plan votes
behind_none plan [] = refl
behind_none plan (vote ∷ votes) = refl

one_more_known : (known : List (ℕ × ℕ)) (plan : Plan) (shard at : ℕ) (votes : List Ballot)
    → are_all plan (known ++ (shard, at) ∷ []) ≡ false
    → outcome_behind (known ++ (shard, at) ∷ []) plan votes
    ≡ outcome_behind known plan ((shard, Ok at) ∷ votes)
one_more_known known plan shard at [] h =
    sym (ap (λ (b : Bool). cond b (Some (Commit (greatest (known ++ (shard, at) ∷ [])))) None) h)
one_more_known known plan shard at (vote ∷ votes) h =
    ap (λ (ts : List (ℕ × ℕ)). unless_refused (first_refusal (vote ∷ votes)) (commit_at plan ts))
    (append_assoc known ((shard, at) ∷ []) (times (vote ∷ votes)))

-- the shards that voted, as the coordination and as the list of those before have them
abbrev Agree : Coordinated → List ℕ → Type 0
Agree c before = (shard : ℕ) → has_voted shard c ≡ list_any (eqb shard) before

agree_more : (shard at : ℕ) (c : Coordinated) (before : List ℕ) → Agree c before
    → Agree (with_vote shard at c) (before ++ shard ∷ [])
agree_more shard at c before same other =
    list_any-append (λ (vote : ℕ × ℕ). eqb vote.0 other) c.votes ((shard, at) ∷ [])
    ∙ ap (λ (b : Bool). b || (eqb shard other || false)) (same other)
    ∙ ap (λ (b : Bool). list_any (eqb other) before || (b || false)) (eqb_turned shard other)
    ∙ sym (list_any-append (eqb other) before (shard ∷ []))

abbrev Decided : List Ballot → Type 0
Decided ballots = (c : Coordinated) (before : List ℕ) → c.decision ≡ None → Agree c before
    → (heard ballots c).decision ≡ outcome_behind c.votes c.plan (first_votes c.plan before ballots)

-- a timestamp that counts, where with it each has voted or not
time_counts : (v : Bool) (shard at : ℕ) (ballots : List Ballot) (c : Coordinated) (before : List ℕ)
    → Decided ballots → Agree c before → all_voted (with_vote shard at c) ≡ v
    → (heard ballots (with_decision (cond v (Some (Commit (greatest (c.votes ++ (shard, at) ∷ []))))
    None) (with_vote shard at c))).decision
    ≡ outcome_behind c.votes c.plan
    ((shard, Ok at) ∷ first_votes c.plan (before ++ shard ∷ []) ballots)
time_counts true shard at ballots c before later same all =
    let d = Commit (greatest (c.votes ++ (shard, at) ∷ [])) in
    let voted = λ (other : ℕ) (there : takes_part other c.plan
    ≡ true). sym (agree_more shard at c before same other)
    ∙ holds_of (λ s. has_voted s (with_vote shard at c)) c.plan.parts other all there in
    let rest = no_more c.plan (before ++ shard ∷ []) ballots voted in
    ap (λ (k : Coordinated). k.decision)
    (stands ballots (with_decision (Some d) (with_vote shard at c)) d refl)
    ∙ sym (ap (λ (b : Bool). cond b (Some d) None) all)
    ∙ sym (ap (λ (votes : List Ballot). outcome_behind c.votes c.plan ((shard, Ok at) ∷ votes))
    rest)
time_counts false shard at ballots c before later same all =
    later (with_decision None (with_vote shard at c)) (before ++ shard ∷ []) refl
    (agree_more shard at c before same)
    ∙ one_more_known c.votes c.plan shard at (first_votes c.plan (before ++ shard ∷ []) ballots) all

vote_counts : (shard : ℕ) (vote : Result ℕ Cause) (ballots : List Ballot) (c : Coordinated)
    (before : List ℕ) → Decided ballots → Agree c before
    → (heard ballots (behind_vote shard vote c)).decision ≡ outcome_behind c.votes c.plan
    ((shard, vote) ∷ first_votes c.plan (before ++ shard ∷ []) ballots)
vote_counts shard (Err cause) ballots c before later same =
    let d = Abort shard (cause_number cause) in
    ap (λ (k : Coordinated). k.decision) (stands ballots (with_decision (Some d) c) d refl)
vote_counts shard (Ok at) ballots c before later same =
    time_counts (all_voted (with_vote shard at c)) shard at ballots c before later same refl

step : (b first : Bool) (ballot : Ballot) (ballots : List Ballot) (c : Coordinated)
    (before : List ℕ) → b ≡ first → Decided ballots → c.decision ≡ None → Agree c before
    → (heard ballots (cond b (behind_vote ballot.0 ballot.1 c) c)).decision
    ≡ outcome_behind c.votes c.plan (cond first (ballot
    ∷ first_votes c.plan (before ++ ballot.0 ∷ []) ballots) (first_votes c.plan before ballots))
step true true ballot ballots c before e later none same =
    vote_counts ballot.0 ballot.1 ballots c before later same
step false false ballot ballots c before e later none same = later c before none same
step true false ballot ballots c before e later none same = cc
step false true ballot ballots c before e later none same = cc

decided_as : (ballots : List Ballot) → Decided ballots
decided_as [] c before none same = none
decided_as (ballot ∷ ballots) c before none same =
    let is : counts ballot.0 c ≡ is_first c.plan before ballot.0 =
    ap (λ (o : Option Decision). is_none o && takes_part ballot.0 c.plan
    && not (has_voted ballot.0 c)) none
    ∙ ap (λ (v : Bool). takes_part ballot.0 c.plan && not v) (same ballot.0) in
    step (counts ballot.0 c) (is_first c.plan before ballot.0) ballot ballots c before is
    (decided_as ballots) none same

pub first_votes_decide : (plan : Plan) (ballots : List Ballot)
    → (heard ballots (undecided plan)).decision ≡ outcome plan (first_votes plan [] ballots)
first_votes_decide plan ballots = decided_as ballots (undecided plan) [] refl (λ shard. refl)
    ∙ behind_none plan (first_votes plan [] ballots)

-- the greatest timestamp
abbrev more : ℕ → ℕ × ℕ → ℕ
more most vote = max most vote.1

grows : (m : ℕ) (votes : List (ℕ × ℕ)) → m ≤ fold more m votes
grows m [] = omega arith
grows m (vote ∷ votes) = omega (arith, grows (max m vote.1) votes)

all_at_most : (m bound : ℕ) (votes : List (ℕ × ℕ)) → fold more m votes ≤ bound
    → list_all (λ vote. leb vote.1 bound) votes ≡ true
all_at_most m bound [] h = refl
all_at_most m bound (vote ∷ votes) h =
    and_from (leb vote.1 bound) (list_all (λ other. leb other.1 bound) votes) (le-leb vote.1 bound
    (omega (arith, grows (max m vote.1) votes, h))) (all_at_most (max m vote.1) bound votes h)

pub each_is_at_most : (votes : List (ℕ × ℕ))
    → list_all (λ vote. leb vote.1 (greatest votes)) votes ≡ true
each_is_at_most votes = all_at_most 0 (greatest votes) votes (omega arith)

one_at : (m : ℕ) (votes : List (ℕ × ℕ))
    → (fold more m votes ≡ m) ⊎ (list_any (λ vote. eqb vote.1 (fold more m votes)) votes ≡ true)
one_at m [] = inl refl
one_at m (vote ∷ votes) =
    let top = fold more (max m vote.1) votes in
    ⊎_elim
    (λ e. ⊎_elim
    (λ less. inr (or_left (eqb vote.1 top) (list_any (λ other. eqb other.1 top) votes)
    (eq-eqb vote.1 top (omega (arith, e, less)))))
    (λ most. inl (omega (arith, e, most)))
    (cases_lt m vote.1))
    (λ there. inr (or_right (eqb vote.1 top) (list_any (λ other. eqb other.1 top) votes) there))
    (one_at (max m vote.1) votes)

pub one_is_at : (vote : ℕ × ℕ) (votes : List (ℕ × ℕ))
    → list_any (λ other. eqb other.1 (greatest (vote ∷ votes))) (vote ∷ votes) ≡ true
one_is_at vote votes =
    let top = greatest (vote ∷ votes) in
    ⊎_elim
    (λ e. or_left (eqb vote.1 top) (list_any (λ other. eqb other.1 top) votes)
    (eq-eqb vote.1 top (omega (arith, e, grows (max 0 vote.1) votes))))
    (λ there. there)
    (one_at 0 (vote ∷ votes))
