-- What is coordinated, without votes and those that wait, after each change.
use Rattle.std.proofs.Common.{◌≡◌, ℕ, ◌&&◌, Bool, true, false, cond, List, [], ◌∷◌, find, Option}
use Rattle.std.proofs.Common.{Some, None, is_none, option_map, Result, Ok, Err, refl, ap, ◌∙◌, sym}
use Rattle.std.proofs.Common.{if◌then◌else◌}
use Rattle.txn_types.specs.Order.{same_tag, tag_cmp}
use Rattle.txn_types.specs.declared.cause.Cause.{Cause}
use Rattle.txn_types.specs.declared.decision.Decision.{Decision}
use Rattle.txn_types.specs.declared.names.Tag.{Tag}
use Rattle.txn_types.proofs.Orders.{tag_total, tag_exact}
use Rattle.txn_semantics.specs.Keyed.{put, taken_out, Rises}
use Rattle.txn_semantics.proofs.Laying.{rises_put, rises_taken_out}
use Rattle.coordinator.specs.declared.plan.Plan.{Plan}
use Rattle.coordinator.specs.TwoPhase.{Coordinations, Coordinated, coordinated_of, with_coordinated}
use Rattle.coordinator.specs.TwoPhase.{with_decision, counts, behind_vote, voted, decided_by}
use Rattle.coordinator.specs.TwoPhase.{takes_part, is_last_ack, acked, ack_counts, with_ack}
use Rattle.coordinator.proofs.Found.{last_forgets, others_keep}
use Rattle.participant.proofs.Tags.{tag_flip, tag_same}
use Rattle.part_laws.specs.Looked.{looked}
use Rattle.part_laws.proofs.Looking.{looked-put, looked-map, rows_same, rises_map}
use Rattle.shard_image.specs.Image.{decided_coords, decided_if}
use Rattle.shard_image.proofs.Lists.{valued_put, valued_out}
use Rattle.shard_core.specs.Durable.{plans_of}

-- the plan and the decision
abbrev pub plan_of : Coordinated → Plan × Option Decision
plan_of c = (c.plan, c.decision)

pub plans_put : (tag : Tag) (c : Coordinated) (coords : Coordinations)
    → plans_of (with_coordinated tag c coords) ≡ put tag_cmp tag (plan_of c) (plans_of coords)
plans_put tag c coords = valued_put tag_cmp plan_of tag c coords

pub plans_out : (tag : Tag) (coords : Coordinations)
    → plans_of (taken_out tag_cmp tag coords) ≡ taken_out tag_cmp tag (plans_of coords)
plans_out tag coords = valued_out tag_cmp plan_of tag coords

found_case : (tag : Tag) (row : Tag × Coordinated) (rows : Coordinations) (b : Bool)
    → option_map (λ (c : Tag × Coordinated).
    c.1) (find (λ (c : Tag × Coordinated). same_tag c.0 tag) rows) ≡ looked tag_cmp tag rows
    → option_map (λ (c : Tag × Coordinated).
    c.1) (cond b (Some row) (find (λ (c : Tag × Coordinated). same_tag c.0 tag) rows))
    ≡ cond b (Some row.1) (looked tag_cmp tag rows)
found_case tag row rows true more = refl
found_case tag row rows false more = more

pub coord_looked : (tag : Tag) (coords : Coordinations)
    → coordinated_of coords tag ≡ looked tag_cmp tag coords
coord_looked tag [] = refl
coord_looked tag (row ∷ rows) =
    ap (λ b. option_map (λ (c : Tag × Coordinated). c.1) (cond b (Some row)
    (find (λ (c : Tag × Coordinated). same_tag c.0 tag) rows))) (tag_flip row.0 tag)
    ∙ found_case tag row rows (same_tag tag row.0) (coord_looked tag rows)

pub plan_looked : (tag : Tag) (coords : Coordinations)
    → looked tag_cmp tag (plans_of coords) ≡ option_map plan_of (coordinated_of coords tag)
plan_looked tag coords = looked-map tag_cmp tag_total tag_exact plan_of tag coords
    ∙ ap (option_map plan_of) (sym (coord_looked tag coords))

-- one that is put with its own plan and decision leaves all
same_case : (tag key : Tag) (x : Plan
    × Option Decision) (plans : List (Tag × (Plan × Option Decision))) (b : Bool)
    → same_tag key tag ≡ b → looked tag_cmp tag plans ≡ Some x
    → cond b (Some x) (looked tag_cmp key plans) ≡ looked tag_cmp key plans
same_case tag key x plans true is there =
    sym (ap (λ t. looked tag_cmp t plans) (tag_same key tag is) ∙ there)
same_case tag key x plans false is there = refl

pub plans_same : (tag : Tag) (c new : Coordinated) (coords : Coordinations)
    → Rises tag_cmp coords → coordinated_of coords tag ≡ Some c → plan_of new ≡ plan_of c
    → plans_of (with_coordinated tag new coords) ≡ plans_of coords
plans_same tag c new coords r there same =
    let plans : List (Tag × (Plan × Option Decision)) = plans_of coords in
    let rp : Rises tag_cmp plans = rises_map tag_cmp tag_total tag_exact plan_of coords r in
    let here : looked tag_cmp tag plans ≡ Some (plan_of new) = plan_looked tag coords
    ∙ ap (option_map plan_of) there ∙ ap Some (sym same) in
    plans_put tag new coords
    ∙ rows_same tag_cmp tag_total tag_exact (put tag_cmp tag (plan_of new) plans) plans
    (rises_put tag_cmp tag_total tag_exact tag (plan_of new) plans rp) rp
    (λ key. looked-put tag_cmp tag_total tag_exact key tag (plan_of new) plans
    ∙ same_case tag key (plan_of new) plans (same_tag key tag) refl here)

pub rises_with : (tag : Tag) (c : Coordinated) (coords : Coordinations) → Rises tag_cmp coords
    → Rises tag_cmp (with_coordinated tag c coords)
rises_with tag c coords r = rises_put tag_cmp tag_total tag_exact tag c coords r

pub rises_out : (tag : Tag) (coords : Coordinations) → Rises tag_cmp coords
    → Rises tag_cmp (taken_out tag_cmp tag coords)
rises_out tag coords r = rises_taken_out tag_cmp tag_total tag_exact tag coords r

-- Votes.

is_nothing : (d : Option Decision) → is_none d ≡ true → d ≡ None
is_nothing None h = refl
is_nothing (Some d) h = cc

and_first : (a b c : Bool) → (a && b && c) ≡ true → a ≡ true
and_first true b c h = refl
and_first false b c h = cc

undecided_yet : (shard : ℕ) (c : Coordinated) → counts shard c ≡ true → c.decision ≡ None
undecided_yet shard c h =
    is_nothing c.decision (and_first (is_none c.decision) (takes_part shard c.plan) _ h)

behind_plan : (shard : ℕ) (vote : Result ℕ Cause) (c : Coordinated)
    → (behind_vote shard vote c).plan ≡ c.plan
behind_plan shard (Err cause) c = refl
behind_plan shard (Ok at) c = refl

both : (p x : Plan) (d y : Option Decision) → p ≡ x → d ≡ y
    → ◌≡◌ {A = Plan × Option Decision} (p, d) (x, y)
both p x d y e f = ap (λ (z : Plan). let w : Plan × Option Decision = (z, d) in w) e
    ∙ ap (λ (z : Option Decision). let w : Plan × Option Decision = (x, z) in w) f

vote_case : (tag : Tag) (shard : ℕ) (vote : Result ℕ Cause) (c : Coordinated)
    (coords : Coordinations) (d : Option Decision) (b : Bool) → counts shard c ≡ b
    → Rises tag_cmp coords → coordinated_of coords tag ≡ Some c
    → (if b then (behind_vote shard vote c).decision else None) ≡ None → plans_of (if b
    then with_coordinated tag (behind_vote shard vote c) coords else coords) ≡ plans_of coords
vote_case tag shard vote c coords d true is r there none = plans_same tag c (behind_vote shard
    vote c) coords r there (both (behind_vote shard vote c).plan c.plan (behind_vote shard vote
    c).decision c.decision (behind_plan shard vote c) (none ∙ sym (undecided_yet shard c is)))
vote_case tag shard vote c coords d false is r there none = refl

-- one that decides nothing
pub vote_leaves : (tag : Tag) (shard : ℕ) (vote : Result ℕ Cause) (c : Coordinated)
    (coords : Coordinations) → Rises tag_cmp coords → coordinated_of coords tag ≡ Some c
    → decided_by shard vote c ≡ None → plans_of (voted tag shard vote c coords) ≡ plans_of coords
vote_leaves tag shard vote c coords r there none =
    vote_case tag shard vote c coords None (counts shard c) refl r there none

decided_case : (tag : Tag) (shard : ℕ) (vote : Result ℕ Cause)
    (c : Coordinated) (coords : Coordinations) (d : Decision) (b : Bool)
    → (if b then (behind_vote shard vote c).decision else None) ≡ Some d
    → plans_of (if b then with_coordinated tag (behind_vote shard vote c) coords else coords)
    ≡ put tag_cmp tag (c.plan, Some d) (plans_of coords)
decided_case tag shard vote c coords d true decides =
    plans_put tag (behind_vote shard vote c) coords
    ∙ ap (λ (p : Plan). put tag_cmp tag (p, (behind_vote shard vote c).decision) (plans_of coords))
    (behind_plan shard vote c)
    ∙ ap (λ (o : Option Decision). put tag_cmp tag (c.plan, o) (plans_of coords)) decides
decided_case tag shard vote c coords d false decides = cc

-- one that decides
pub vote_decides : (tag : Tag) (shard : ℕ) (vote : Result ℕ Cause) (c : Coordinated)
    (coords : Coordinations) (d : Decision) → decided_by shard vote c ≡ Some d
    → plans_of (voted tag shard vote c coords) ≡ put tag_cmp tag (c.plan, Some d) (plans_of coords)
vote_decides tag shard vote c coords d decides =
    decided_case tag shard vote c coords d (counts shard c) decides

-- the same in the records' state
record_case : (tag : Tag) (d : Decision) (coords : Coordinations) (o : Option Coordinated) (x : Plan
    × Option Decision) → option_map plan_of o ≡ Some x
    → plans_of (decided_if coords tag d o) ≡ put tag_cmp tag (x.0, Some d) (plans_of coords)
record_case tag d coords None x h = cc
record_case tag d coords (Some c) x h =
    let same : plan_of c ≡ x = cc in
    let plan : c.plan ≡ x.0 = ap (λ (z : Plan × Option Decision). z.0) same in
    plans_put tag (with_decision (Some d) c) coords
    ∙ ap (λ (p : Plan). put tag_cmp tag (p, Some d) (plans_of coords)) plan

pub record_decides : (tag : Tag) (d : Decision) (c : Coordinated) (old coords : Coordinations)
    → plans_of old ≡ plans_of coords → coordinated_of coords tag ≡ Some c
    → plans_of (decided_coords old tag d) ≡ put tag_cmp tag (c.plan, Some d) (plans_of coords)
record_decides tag d c old coords same there =
    let here : option_map plan_of (coordinated_of old tag) ≡ Some (plan_of c) =
    sym (plan_looked tag old) ∙ ap (looked tag_cmp tag) same ∙ plan_looked tag coords
    ∙ ap (option_map plan_of) there in
    record_case tag d old (coordinated_of old tag) (plan_of c) here
    ∙ ap (put tag_cmp tag (c.plan, Some d)) same

rises_either : (b : Bool) (xs ys : Coordinations) → Rises tag_cmp xs → Rises tag_cmp ys
    → Rises tag_cmp (cond b xs ys)
rises_either true xs ys h k = h
rises_either false xs ys h k = k

pub rises_voted : (tag : Tag) (shard : ℕ) (vote : Result ℕ Cause) (c : Coordinated)
    (coords : Coordinations) → Rises tag_cmp coords → Rises tag_cmp (voted tag shard vote c coords)
rises_voted tag shard vote c coords r = rises_either (counts shard c) (with_coordinated tag
    (behind_vote shard vote c) coords) coords (rises_with tag (behind_vote shard vote c) coords r) r

-- Acknowledgements.

pub rises_acked : (tag : Tag) (shard : ℕ) (c : Coordinated) (coords : Coordinations)
    → Rises tag_cmp coords → Rises tag_cmp (acked tag shard c coords)
rises_acked tag shard c coords r =
    rises_either (ack_counts shard c) _ coords (rises_either _ (taken_out tag_cmp tag coords)
    (with_coordinated tag (with_ack shard c) coords) (rises_out tag coords r)
    (rises_with tag (with_ack shard c) coords r)) r

pub last_ack : (tag : Tag) (shard : ℕ) (c : Coordinated) (coords : Coordinations)
    → is_last_ack shard c ≡ true
    → plans_of (acked tag shard c coords) ≡ taken_out tag_cmp tag (plans_of coords)
last_ack tag shard c coords last = ap plans_of (last_forgets tag shard c coords last)
    ∙ plans_out tag coords

ack_case : (tag : Tag) (shard : ℕ) (c : Coordinated) (coords : Coordinations) (b : Bool)
    → Rises tag_cmp coords → coordinated_of coords tag ≡ Some c
    → plans_of (cond b (with_coordinated tag (with_ack shard c) coords) coords) ≡ plans_of coords
ack_case tag shard c coords true r there = plans_same tag c (with_ack shard c) coords r there refl
ack_case tag shard c coords false r there = refl

pub other_ack : (tag : Tag) (shard : ℕ) (c : Coordinated) (coords : Coordinations)
    → Rises tag_cmp coords → coordinated_of coords tag ≡ Some c → is_last_ack shard c ≡ false
    → plans_of (acked tag shard c coords) ≡ plans_of coords
other_ack tag shard c coords r there other = ap plans_of (others_keep tag shard c coords other)
    ∙ ack_case tag shard c coords (ack_counts shard c) r there
