-- Each vote and each acknowledgement that counts leaves one participant fewer to wait for.
use Rattle.std.proofs.Common.{◌≡◌, ℕ, ◌+◌, ◌≤◌, ◌<◌, ◌||◌, ◌&&◌, is_none, is_some, Bool, true}
use Rattle.std.proofs.Common.{false, not, cond, List, [], ◌∷◌, ◌++◌, length, filter, refl, ap, sym}
use Rattle.std.proofs.Common.{subst, ◌∙◌, arith, eqb, ⊎_elim, length-append}
use Rattle.std.specs.List.{list_any}
use Rattle.std.proofs.lemmas.Bool.{eqb-true, eq-eqb, ne_eqb, cases_eq, and_parts, not-true}
use Rattle.std.proofs.lemmas.List.Folds.{list_any-append}
use Rattle.coordinator.specs.TwoPhase.{Coordinated, takes_part, has_voted, counts, has_acked}
use Rattle.coordinator.specs.TwoPhase.{ack_counts}
use Rattle.coordinator.specs.Room.{unheard, unacked, HasRoom}

abbrev Part : Type 0
Part = ℕ × ℕ

pub eqb_turned : (a b : ℕ) → eqb a b ≡ eqb b a
eqb_turned a b = ⊎_elim (λ e. eq-eqb a b e ∙ sym (eq-eqb b a (sym e))) (λ n. ne_eqb a b n
    ∙ sym (ne_eqb b a (λ e. n (sym e)))) (cases_eq a b)

or_none : (b : Bool) → (b || false) ≡ b
or_none true = refl
or_none false = refl

-- more are named: no more are waited for
leaves_case : (a b : Bool) (x : Part) (xs ys : List Part) → length xs ≤ length ys
    → length (cond (not (a || b)) (x ∷ xs) xs) ≤ length (cond (not a) (x ∷ ys) ys)
leaves_case true b x xs ys h = h
leaves_case false true x xs ys h = omega arith
leaves_case false false x xs ys h = omega arith

leaves : (old here : Part → Bool) (parts : List Part)
    → length (filter (λ x. not (old x || here x)) parts) ≤ length (filter (λ x. not (old x)) parts)
leaves old here [] = omega arith
leaves old here (x ∷ parts) = leaves_case (old x) (here x) x _ _ (leaves old here parts)

-- one that wasn't named is: one fewer is waited for
fewer_case : (a b : Bool) (x : Part) (xs ys : List Part) → (b ≡ true → a ≡ false)
    → length xs ≤ length ys → (b ≡ false → length xs + 1 ≤ length ys)
    → length (cond (not (a || b)) (x ∷ xs) xs) + 1 ≤ length (cond (not a) (x ∷ ys) ys)
fewer_case true true x xs ys new h more = let wrong : true ≡ false = new refl in absurd (cc)
fewer_case false true x xs ys new h more = omega arith
fewer_case true false x xs ys new h more = more refl
fewer_case false false x xs ys new h more = omega (arith, more refl)

fewer : (old here : Part → Bool) (parts : List Part) → list_any here parts ≡ true
    → ((x : Part) → here x ≡ true → old x ≡ false)
    → length (filter (λ x. not (old x || here x)) parts) + 1
    ≤ length (filter (λ x. not (old x)) parts)
fewer old here [] some new = let wrong : false ≡ true = some in absurd (cc)
fewer old here (x ∷ parts) some new =
    fewer_case (old x) (here x) x _ _ (new x) (leaves old here parts)
    (λ e. fewer old here parts (sym (ap (λ (b : Bool). b || list_any here parts) e) ∙ some) new)

-- a vote that counts
vote_is_new : (shard : ℕ) (votes : List Part) → list_any (λ vote. eqb vote.0 shard) votes ≡ false
    → (x : Part) → (eqb shard x.0 || false) ≡ true → list_any (λ vote. eqb vote.0 x.0) votes ≡ false
vote_is_new shard votes h x here =
    ap (λ (s : ℕ). list_any (λ vote. eqb vote.0 s) votes)
    (sym (eqb-true shard x.0 (sym (or_none (eqb shard x.0)) ∙ here))) ∙ h

voter_is_there : (shard : ℕ) (parts : List Part) → list_any (λ part. eqb part.0 shard) parts ≡ true
    → list_any (λ x. eqb shard x.0 || false) parts ≡ true
voter_is_there shard parts h = ap (λ (f : Part → Bool). list_any f parts) (λ i x.
    (or_none (eqb shard x.0) ∙ eqb_turned shard x.0) i) ∙ h

pub one_vote_fewer : (shard at : ℕ) (c : Coordinated) → counts shard c ≡ true → length (unheard
    c.plan.parts (c.votes ++ (shard, at) ∷ [])) + 1 ≤ length (unheard c.plan.parts c.votes)
one_vote_fewer shard at c h =
    let both =
    and_parts (is_none c.decision && takes_part shard c.plan) (not (has_voted shard c)) h in
    let there = and_parts (is_none c.decision) (takes_part shard c.plan) both.0 in
    let old : Part → Bool = λ x. list_any (λ vote. eqb vote.0 x.0) c.votes in
    let here : Part → Bool = λ x. eqb shard x.0 || false in
    let less = fewer old here c.plan.parts (voter_is_there shard c.plan.parts there.1)
    (vote_is_new shard c.votes (not-true (has_voted shard c) both.1)) in
    let same : length (unheard c.plan.parts (c.votes ++ (shard, at) ∷ []))
    ≡ length (filter (λ x. not (old x || here x)) c.plan.parts) =
    ap (λ (f : Part → Bool). length (filter (λ x. not (f x)) c.plan.parts)) (λ i x.
    list_any-append (λ (vote : Part). eqb vote.0 x.0) c.votes ((shard, at) ∷ []) i) in
    omega (arith, less, same)

-- an acknowledgement that counts
ack_is_new : (shard : ℕ) (acks : List ℕ) → list_any (eqb shard) acks ≡ false → (x : Part)
    → (eqb x.0 shard || false) ≡ true → list_any (eqb x.0) acks ≡ false
ack_is_new shard acks h x here =
    ap (λ (s : ℕ). list_any (eqb s) acks) (eqb-true x.0 shard
    (sym (or_none (eqb x.0 shard)) ∙ here)) ∙ h

acker_is_there : (shard : ℕ) (parts : List Part) → list_any (λ part. eqb part.0 shard) parts ≡ true
    → list_any (λ x. eqb x.0 shard || false) parts ≡ true
acker_is_there shard parts h =
    ap (λ (f : Part → Bool). list_any f parts) (λ i x. or_none (eqb x.0 shard) i) ∙ h

pub one_ack_fewer : (shard : ℕ) (c : Coordinated) → ack_counts shard c ≡ true → length (unacked
    c.plan.parts (c.acks ++ shard ∷ [])) + 1 ≤ length (unacked c.plan.parts c.acks)
one_ack_fewer shard c h =
    let both =
    and_parts (is_some c.decision && takes_part shard c.plan) (not (has_acked shard c)) h in
    let there = and_parts (is_some c.decision) (takes_part shard c.plan) both.0 in
    let old : Part → Bool = λ x. list_any (eqb x.0) c.acks in
    let here : Part → Bool = λ x. eqb x.0 shard || false in
    let less = fewer old here c.plan.parts (acker_is_there shard c.plan.parts there.1)
    (ack_is_new shard c.acks (not-true (has_acked shard c) both.1)) in
    let same : length (unacked c.plan.parts (c.acks ++ shard ∷ []))
    ≡ length (filter (λ x. not (old x || here x)) c.plan.parts) =
    ap (λ (f : Part → Bool). length (filter (λ x. not (f x)) c.plan.parts)) (λ i x.
    list_any-append (eqb x.0) c.acks (shard ∷ []) i) in
    omega (arith, less, same)

-- there is room for a vote that counts, and then for those that may still come
pub vote_fits : (shard at : ℕ) (c : Coordinated) (room ack_room : ℕ) → counts shard c ≡ true
    → HasRoom c.plan.parts c.votes room c.acks ack_room → length c.votes < room
vote_fits shard at c room ack_room h r = omega (arith, one_vote_fewer shard at c h, r.for_votes)

pub room_behind_vote : (shard at : ℕ) (c : Coordinated) (room more ack_room : ℕ)
    → counts shard c ≡ true → HasRoom c.plan.parts c.votes room c.acks ack_room → room ≤ more
    → HasRoom c.plan.parts (c.votes ++ (shard, at) ∷ []) more c.acks ack_room
room_behind_vote shard at c room more ack_room h r grows = record {
  for_votes = omega (
    arith,
    one_vote_fewer shard at c h,
    r.for_votes,
    grows,
    length-append c.votes ((shard, at) ∷ []),
  );
  for_acks = r.for_acks;
}

pub ack_fits : (shard : ℕ) (c : Coordinated) (room ack_room : ℕ) → ack_counts shard c ≡ true
    → HasRoom c.plan.parts c.votes room c.acks ack_room → length c.acks < ack_room
ack_fits shard c room ack_room h r = omega (arith, one_ack_fewer shard c h, r.for_acks)

pub room_behind_ack : (shard : ℕ) (c : Coordinated) (room ack_room more : ℕ)
    → ack_counts shard c ≡ true → HasRoom c.plan.parts c.votes room c.acks ack_room
    → ack_room ≤ more
    → HasRoom c.plan.parts c.votes room (c.acks ++ shard ∷ []) more
room_behind_ack shard c room ack_room more h r grows = record {
  for_votes = r.for_votes;
  for_acks =
      omega (arith, one_ack_fewer shard c h, r.for_acks, grows, length-append c.acks (shard ∷ []));
}

-- what a push that can't fail leaves
pub pushed : {A : Type 0} (ok : Bool) (items old more : List A) → ok ≡ true
    → items ≡ cond ok more old → items ≡ more
pushed ok items old more h is = is ∙ ap (λ (b : Bool). cond b more old) h

-- at first there is room for one of each
at_most_case : (b : Bool) (x : Part) (xs parts : List Part) → length xs ≤ length parts
    → length (cond b (x ∷ xs) xs) ≤ length (x ∷ parts)
at_most_case true x xs parts h = omega arith
at_most_case false x xs parts h = omega arith

at_most : (p : Part → Bool) (parts : List Part) → length (filter p parts) ≤ length parts
at_most p [] = omega arith
at_most p (x ∷ parts) = at_most_case (p x) x (filter p parts) parts (at_most p parts)

pub room_at_first : (parts : List Part) (room ack_room : ℕ) → length parts ≤ room
    → length parts ≤ ack_room → HasRoom parts [] room [] ack_room
room_at_first parts room ack_room r s = record {
  for_votes = omega
      (arith, at_most (λ part. not (list_any (λ (vote : Part). eqb vote.0 part.0) [])) parts, r);
  for_acks = omega (arith, at_most (λ part. not (list_any (eqb part.0) [])) parts, s);
}

pub room_for : (parts kept votes : List Part) (acks : List ℕ) (room ack_room : ℕ)
    → kept ≡ parts → votes ≡ [] → acks ≡ [] → length parts ≤ room → length parts ≤ ack_room
    → HasRoom kept votes room acks ack_room
room_for parts kept votes acks room ack_room k v a r s =
    subst (λ (ps : List Part). HasRoom ps votes room acks ack_room) (sym k)
    (subst (λ (vs : List Part). HasRoom parts vs room acks ack_room) (sym v)
    (subst (λ (as' : List ℕ). HasRoom parts [] room as' ack_room) (sym a)
    (room_at_first parts room ack_room r s)))
