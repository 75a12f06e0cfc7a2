-- What is said of the names of plans stays so where plans are put, taken out and asked again.
use Rattle.std.proofs.Common.{◌≡◌, ℕ, Bool, true, false, cond, List, [], ◌∷◌, map, find, All}
use Rattle.std.proofs.Common.{Option, Some, None, option_map, Result, Ok, Err, refl, sym, subst}
use Rattle.std.proofs.Common.{arith}
use Rattle.std.specs.Ordering.{is_eq}
use Rattle.std.specs.declared.cmp.Ordering.{Ordering}
use Rattle.std.specs.declared.cmp.Ordering.TheVariants.{Less, Equal, Greater}
use Rattle.std.proofs.lemmas.List.Elements.{All-nil, All-cons, All-head, All-tail, All-append}
use Rattle.std.proofs.lemmas.List.Elements.{All-map, All-weaker}
use Rattle.txn_types.specs.Order.{same_tag, tag_cmp}
use Rattle.txn_types.specs.declared.cause.Cause.{Cause}
use Rattle.txn_types.specs.declared.decision.Decision.{Decision}
use Rattle.txn_types.specs.declared.names.Tag.{Tag}
use Rattle.txn_types.proofs.Orders.{tag_exact}
use Rattle.txn_semantics.specs.Keyed.{put, taken_out}
use Rattle.coordinator.specs.declared.plan.Plan.{Plan}
use Rattle.coordinator.specs.TwoPhase.{Coordinated, Coordinations, coordinated_of, counts, voted}
use Rattle.coordinator.specs.TwoPhase.{behind_vote, acked, ack_counts, all_acked, with_ack}
use Rattle.coordinator.specs.TwoPhase.{prepare_to, decide_to, resends, resends_by, Participant}
use Rattle.participant.proofs.Cases.{either}
use Rattle.txn_types.specs.Letters.{Named}
use Rattle.shard_core.specs.Effect.{plan_name, AllPlans, NamesOnly, AllName}

pub nothing : {A : Type 0} (P : A → Type 0) → All P []
nothing P = All-nil P

pub one : {A : Type 0} (P : A → Type 0) (x : A) → P x → All P (x ∷ [])
one P x h = All-cons P x [] h (All-nil P)

pub is_equal : (o : Ordering) → is_eq o ≡ true → o ≡ Equal
is_equal Less e = grind arith
is_equal Equal e = refl
is_equal Greater e = grind arith

pub tag_is : (a b : Tag) → same_tag a b ≡ true → a ≡ b
tag_is a b e = tag_exact a b (is_equal (tag_cmp a b) e)

put_by : {K A : Type 0} (cmp : K → K → Ordering) (Q : K × A → Type 0) (key : K) (a : A)
    (row : K × A) (rows : List (K × A)) (o : Ordering)
    → Q (key, a) → Q row → All Q rows → All Q (put cmp key a rows)
    → All Q (elim o [
      | Less ↦ (key, a) ∷ row ∷ rows
      | Equal ↦ (key, a) ∷ rows
      | Greater ↦ row ∷ put cmp key a rows
    ])
put_by cmp Q key a row rows Less new one more puts =
    All-cons Q (key, a) (row ∷ rows) new (All-cons Q row rows one more)
put_by cmp Q key a row rows Equal new one more puts = All-cons Q (key, a) rows new more
put_by cmp Q key a row rows Greater new one more puts = All-cons Q row (put cmp key a rows) one puts

pub put_all : {K A : Type 0} (cmp : K → K → Ordering) (Q : K × A → Type 0) (key : K) (a : A)
    (rows : List (K × A)) → Q (key, a) → All Q rows → All Q (put cmp key a rows)
put_all cmp Q key a [] new h = one Q (key, a) new
put_all cmp Q key a (row ∷ rows) new h =
    put_by cmp Q key a row rows (cmp key row.0) new (All-head Q row rows h) (All-tail Q row rows h)
    (put_all cmp Q key a rows new (All-tail Q row rows h))

taken_by : {K A : Type 0} (cmp : K → K → Ordering) (Q : K × A → Type 0) (key : K) (row : K × A)
    (rows : List (K × A)) (o : Ordering)
    → Q row → All Q rows → All Q (taken_out cmp key rows) → All Q (elim o
    [ Less ↦ row ∷ rows | Equal ↦ rows | Greater ↦ row ∷ taken_out cmp key rows ])
taken_by cmp Q key row rows Less one more takes = All-cons Q row rows one more
taken_by cmp Q key row rows Equal one more takes = more
taken_by cmp Q key row rows Greater one more takes =
    All-cons Q row (taken_out cmp key rows) one takes

pub taken_all : {K A : Type 0} (cmp : K → K → Ordering) (Q : K × A
    → Type 0) (key : K) (rows : List (K × A)) → All Q rows → All Q (taken_out cmp key rows)
taken_all cmp Q key [] h = h
taken_all cmp Q key (row ∷ rows) h = taken_by cmp Q key row rows (cmp key row.0) (All-head Q row
    rows h) (All-tail Q row rows h) (taken_all cmp Q key rows (All-tail Q row rows h))

-- the plan of a coordinated transaction is named by its tag

found_by : (Q : Tag × Coordinated → Type 0) (tag : Tag) (entry : Tag × Coordinated)
    (coords : Coordinations) (test : Bool) (c : Coordinated) → same_tag entry.0 tag ≡ test
    → Q entry → ((c : Coordinated) → coordinated_of coords tag ≡ Some c → Q (tag, c))
    → option_map (λ (c : Tag × Coordinated). c.1) (cond test (Some entry)
    (find (λ (c : Tag × Coordinated). same_tag c.0 tag) coords)) ≡ Some c → Q (tag, c)
found_by Q tag entry coords true c t h more e =
    let is : entry.1 ≡ c = grind arith in
    subst (λ (x : Coordinated). Q (tag, x)) is
    (subst (λ (x : Tag). Q (x, entry.1)) (tag_is entry.0 tag t) h)
found_by Q tag entry coords false c t h more e = more c e

pub found : (Q : Tag × Coordinated → Type 0) (tag : Tag) (coords : Coordinations) → All Q coords
    → (c : Coordinated) → coordinated_of coords tag ≡ Some c → Q (tag, c)
found Q tag [] h c e = grind arith
found Q tag (entry ∷ coords) h c e =
    found_by Q tag entry coords (same_tag entry.0 tag) c refl (All-head Q entry coords h)
    (found Q tag coords (All-tail Q entry coords h)) e

-- votes and acknowledgements

pub vote_plan : (shard : ℕ) (vote : Result ℕ Cause) (c : Coordinated)
    → (behind_vote shard vote c).plan ≡ c.plan
vote_plan shard (Ok at) c = refl
vote_plan shard (Err why) c = refl

abbrev Q : (Named → Type 0) → Tag × Coordinated → Type 0
Q P c = P (plan_name c)

pub voted_plans : (P : Named → Type 0) (tag : Tag) (shard : ℕ) (vote : Result ℕ Cause)
    (c : Coordinated) (coords : Coordinations) → P (plan_name (tag, c)) → AllPlans P coords
    → AllPlans P (voted tag shard vote c coords)
voted_plans P tag shard vote c coords this h =
    either (counts shard c) (AllPlans P) _ _
    (put_all tag_cmp (Q P) tag (behind_vote shard vote c) coords
    (subst (λ (p : Plan). P (record { tag = tag; lsid = p.lsid; number = p.number }))
    (sym (vote_plan shard vote c)) this) h) h

pub acked_plans : (P : Named
    → Type 0) (tag : Tag) (shard : ℕ) (c : Coordinated) (coords : Coordinations)
    → P (plan_name (tag, c)) → AllPlans P coords → AllPlans P (acked tag shard c coords)
acked_plans P tag shard c coords this h =
    either (ack_counts shard c) (AllPlans P) _ _
    (either (all_acked (with_ack shard c)) (AllPlans P) _ _ (taken_all tag_cmp (Q P) tag coords h)
    (put_all tag_cmp (Q P) tag (with_ack shard c) coords this h)) h

-- what is sent to participants

pub each : {A B : Type 0} (P : B → Type 0) (f : A → B) (xs : List A) → ((x : A) → P (f x))
    → All P (map f xs)
each P f [] h = All-nil P
each P f (x ∷ xs) h = All-cons P (f x) (map f xs) (h x) (each P f xs h)

pub each_of : {A B : Type 0} (Q : A → Type 0) (P : B → Type 0) (f : A → B)
    → ((x : A) → Q x → P (f x)) → (xs : List A) → All Q xs → All P (map f xs)
each_of {A = A} Q P f h xs k = All-map P f xs (All-weaker Q (λ (x : A). P (f x)) h xs k)

pub prepares_name : (P : Named → Type 0) (own : ℕ) (tag : Tag) (plan : Plan)
    → P (record { tag = tag; lsid = plan.lsid; number = plan.number }) → (parts : List Participant)
    → AllName P (map (prepare_to own tag plan) parts)
prepares_name P own tag plan h parts = each (NamesOnly P) (prepare_to own tag plan) parts (λ x. h)

pub decides_name : (P : Named → Type 0) (tag : Tag) (plan : Plan) (d : Decision)
    → P (record { tag = tag; lsid = plan.lsid; number = plan.number }) → (parts : List Participant)
    → AllName P (map (decide_to tag plan d) parts)
decides_name P tag plan d h parts = each (NamesOnly P) (decide_to tag plan d) parts (λ x. h)

resends_by_name : (P : Named → Type 0) (own : ℕ) (tag : Tag) (c : Coordinated) (d : Option Decision)
    → P (plan_name (tag, c)) → AllName P (resends_by own tag c d)
resends_by_name P own tag c None h = prepares_name P own tag c.plan h _
resends_by_name P own tag c (Some d) h = decides_name P tag c.plan d h _

pub resends_name : (P : Named → Type 0) (own : ℕ) (coords : Coordinations) → AllPlans P coords
    → AllName P (resends own coords)
resends_name P own [] h = All-nil (NamesOnly P)
resends_name P own (entry ∷ coords) h =
    All-append (NamesOnly P) (resends_by own entry.0 entry.1 entry.1.decision) (resends own coords)
    (resends_by_name P own entry.0 entry.1 entry.1.decision (All-head (Q P) entry coords h))
    (resends_name P own coords (All-tail (Q P) entry coords h))
