-- Numbers that rise, each once: one that is among some is among them once.
use Rattle.std.proofs.Common.{◌≡◌, ◌||◌, ℕ, zero, suc, ◌+◌, ◌<◌, ◌≤◌, ◌⊎◌, inl, inr, Bool, true}
use Rattle.std.proofs.Common.{false, cond, List, [], ◌∷◌, ◌++◌, map, refl, ap, sym, subst, ◌∙◌}
use Rattle.std.proofs.Common.{arith, nat_eq, nat_lt, if◌then◌else◌}
use Rattle.std.specs.List.{list_any}
use Rattle.std.proofs.lemmas.Bool.{eqb-true, ltb-true, eq-eqb, ne_eqb}
use Rattle.txn_types.specs.Numbers.{put_number}
use Rattle.txn_semantics.specs.Splits.{times}
use Rattle.chunk_map.specs.Place.{rising}

-- each is above this one
abbrev pub Above : ℕ → List ℕ → Type 0
Above n [] = Unit {0}
Above n (m ∷ ms) = (n < m) × Above n ms

abbrev pub Rise : List ℕ → Type 0
Rise [] = Unit {0}
Rise (m ∷ ms) = Above m ms × Rise ms

above_less : (n m : ℕ) (ms : List ℕ) → n < m → Above m ms → Above n ms
above_less n m [] h above = tt
above_less n m (k ∷ ms) h above = (omega (arith, h, above.0), above_less n m ms h above.1)

none_above : (n : ℕ) (ms : List ℕ) → Above n ms → times n ms ≡ 0
none_above n [] above = refl
none_above n (m ∷ ms) above = let more = none_above n ms above.1 in grind (arith, above.0, more)

put_above_case : (n k m : ℕ) (ms : List ℕ) (lt eq : Bool)
    → n < k → Above n (m ∷ ms) → Above n (put_number k ms)
    → Above n (if lt then k ∷ m ∷ ms else if eq then m ∷ ms else m ∷ put_number k ms)
put_above_case n k m ms true eq h above more = (h, above)
put_above_case n k m ms false true h above more = above
put_above_case n k m ms false false h above more = (above.0, more)

put_above : (n k : ℕ) (ms : List ℕ) → n < k → Above n ms → Above n (put_number k ms)
put_above n k [] h above = (h, tt)
put_above n k (m ∷ ms) h above =
    put_above_case n k m ms (nat_lt k m) (nat_eq k m) h above (put_above n k ms h above.1)

put_rise_case : (k m : ℕ) (ms : List ℕ) (lt eq : Bool) → nat_lt k m ≡ lt
    → nat_eq k m ≡ eq → Rise (m ∷ ms) → Rise (put_number k ms)
    → Rise (if lt then k ∷ m ∷ ms else if eq then m ∷ ms else m ∷ put_number k ms)
put_rise_case k m ms true eq lt_is eq_is rise more = let less : k < m = ltb-true k m lt_is in
    ((less, above_less k m ms less rise.0), rise)
put_rise_case k m ms false true lt_is eq_is rise more = rise
put_rise_case k m ms false false lt_is eq_is rise more = let less : m < k =
    grind (arith, lt_is, eq_is) in (put_above m k ms less rise.0, more)

put_rise : (k : ℕ) (ms : List ℕ) → Rise ms → Rise (put_number k ms)
put_rise k [] rise = (tt, tt)
put_rise k (m ∷ ms) rise =
    put_rise_case k m ms (nat_lt k m) (nat_eq k m) refl refl rise (put_rise k ms rise.1)

pub rising_rises : (ns : List ℕ) → Rise (rising ns)
rising_rises [] = tt
rising_rises (n ∷ ns) = put_rise n (rising ns) (rising_rises ns)

times_self : (n : ℕ) (ms : List ℕ) → times n (n ∷ ms) ≡ 1 + times n ms
times_self n ms = rw (eq-eqb n) refl

times_other : (n m : ℕ) (ms : List ℕ) → nat_eq n m ≡ false → times n (m ∷ ms) ≡ times n ms
times_other n m ms h = grind (arith, h)

put_once_case : (k m : ℕ) (ms : List ℕ) (lt eq : Bool) → nat_lt k m ≡ lt
    → nat_eq k m ≡ eq → Rise (m ∷ ms) → times k (put_number k ms) ≡ 1
    → times k (if lt then k ∷ m ∷ ms else if eq then m ∷ ms else m ∷ put_number k ms) ≡ 1
put_once_case k m ms true eq lt_is eq_is rise more = let less : k < m = ltb-true k m lt_is in
    let none = none_above k (m ∷ ms) (less, above_less k m ms less rise.0) in
    grind (arith, times_self k (m ∷ ms), none)
put_once_case k m ms false true lt_is eq_is rise more = let same : k ≡ m = eqb-true k m eq_is in
    subst (λ i. times i (m ∷ ms)
    ≡ 1) (sym same) (grind (arith, times_self m ms, none_above m ms rise.0))
put_once_case k m ms false false lt_is eq_is rise more =
    times_other k m (put_number k ms) eq_is ∙ more

put_once : (k : ℕ) (ms : List ℕ) → Rise ms → times k (put_number k ms) ≡ 1
put_once k [] rise = times_self k []
put_once k (m ∷ ms) rise =
    put_once_case k m ms (nat_lt k m) (nat_eq k m) refl refl rise (put_once k ms rise.1)

put_leaves_case : (n k m : ℕ) (ms : List ℕ) (lt eq : Bool) → nat_eq n k ≡ false
    → times n (put_number k ms) ≡ times n ms → times n (if lt then k ∷ m ∷ ms else if eq then m ∷ ms
    else m ∷ put_number k ms) ≡ times n (m ∷ ms)
put_leaves_case n k m ms true eq h more = times_other n k (m ∷ ms) h
put_leaves_case n k m ms false true h more = refl
put_leaves_case n k m ms false false h more = ap (λ t. (if nat_eq n m then 1 else 0) + t) more

put_leaves : (n k : ℕ) (ms : List ℕ) → nat_eq n k ≡ false → times n (put_number k ms) ≡ times n ms
put_leaves n k [] h = times_other n k [] h
put_leaves n k (m ∷ ms) h =
    put_leaves_case n k m ms (nat_lt k m) (nat_eq k m) h (put_leaves n k ms h)

once_case : (n m : ℕ) (ms : List ℕ) (b : Bool) → nat_eq n m ≡ b
    → (list_any (nat_eq n) ms ≡ true → times n (rising ms) ≡ 1)
    → (b || list_any (nat_eq n) ms) ≡ true → times n (put_number m (rising ms)) ≡ 1
once_case n m ms true is more h = let same : n ≡ m = eqb-true n m is in subst (λ i.
    times n (put_number i (rising ms)) ≡ 1) same (put_once n (rising ms) (rising_rises ms))
once_case n m ms false is more h = put_leaves n m (rising ms) is ∙ more h

-- a number among some is there once
pub among_once : (n : ℕ) (ns : List ℕ) → list_any (nat_eq n) ns ≡ true → times n (rising ns) ≡ 1
among_once n [] h = cc
among_once n (m ∷ ns) h = once_case n m ns (nat_eq n m) refl (λ more. among_once n ns more) h

-- one that is named is among them
none_or_case : (n m : ℕ) (ms : List ℕ) (b : Bool) → (times n ms ≡ 0) ⊎ (list_any (nat_eq n) ms
    ≡ true) → ((if b then 1 else 0) + times n ms ≡ 0) ⊎ ((b || list_any (nat_eq n) ms) ≡ true)
none_or_case n m ms true more = inr refl
none_or_case n m ms false (inl none) = inl (omega (arith, none))
none_or_case n m ms false (inr there) = inr there

among_by : (n : ℕ) (ms : List ℕ) → (times n ms ≡ 0) ⊎ (list_any (nat_eq n) ms ≡ true)
    → times n ms ≡ 1 → list_any (nat_eq n) ms ≡ true
among_by n ms (inl none) h = absurd (omega (arith, none, h))
among_by n ms (inr there) h = there

none_or_some : (n : ℕ) (ms : List ℕ) → (times n ms ≡ 0) ⊎ (list_any (nat_eq n) ms ≡ true)
none_or_some n [] = inl refl
none_or_some n (m ∷ ms) = none_or_case n m ms (nat_eq n m) (none_or_some n ms)

pub named_among : (n : ℕ) (ms : List ℕ) → times n ms ≡ 1 → list_any (nat_eq n) ms ≡ true
named_among n ms h = among_by n ms (none_or_some n ms) h
