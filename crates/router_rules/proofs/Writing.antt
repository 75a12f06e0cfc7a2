-- The shards that have written are different ones, also after an answer.
use Rattle.std.proofs.Common.{◌≡◌, ◌||◌, ◌&&◌, ℕ, ◌<◌, ◌≤◌, Bool, true, false, cond, not, List, []}
use Rattle.std.proofs.Common.{◌∷◌, ◌++◌, filter, length, Option, Some, None, Result, Ok, Err, refl}
use Rattle.std.proofs.Common.{ap, sym, subst, ◌∙◌, arith, nat_eq, nat_lt, if◌then◌else◌}
use Rattle.std.specs.Prelude.{◌==◌}
use Rattle.std.specs.List.{AllByRecursion, IsDistinct, cons_option, filter_map, list_any}
use Rattle.std.specs.Ordering.{nat_cmp}
use Rattle.std.specs.declared.cmp.Ordering.{Ordering}
use Rattle.std.specs.declared.cmp.Ordering.TheVariants.{Less, Equal, Greater}
use Rattle.std.proofs.lemmas.Bool.{eqb-true, eq-eqb, ltb-true}
use Rattle.std.proofs.lemmas.Cmp.{nat_cmp_total}
use Rattle.std.proofs.lemmas.Map.Steps.{length-le_from_distinct_below}
use Rattle.txn_types.specs.declared.cause.Cause.{Cause}
use Rattle.txn_types.specs.declared.message.Answer.{Answer}
use Rattle.txn_types.specs.declared.operation.Op.{Op}
use Rattle.txn_types.specs.declared.operation.OpReply.{OpReply}
use Rattle.txn_semantics.specs.Keyed.{put, AllAbove, Rises}
use Rattle.txn_semantics.proofs.Laying as laying
use Rattle.router_state.specs.declared.state.Asker.{Asker}
use Rattle.router_state.specs.declared.state.Phase.{Phase}
use Rattle.router_state.specs.declared.state.Phase.TheVariants.{Asking}
use Rattle.router_state.specs.declared.state.Transaction.{Transaction}
use Rattle.router_state.specs.State.{Post, is_waited}
use Rattle.router_rules.specs.Statements.{writer_in, answered_by}
use Rattle.router_rules.specs.Safe.{Below, KeysBelow, IsSafePhase, IsSafeTransaction}

-- Comparisons of shards.

less_case : (lt eq : Bool) → cond lt Less (cond eq Equal Greater) ≡ Less → lt ≡ true
less_case true eq h = refl
less_case false true h = cc
less_case false false h = cc

equal_case : (lt eq : Bool) → cond lt Less (cond eq Equal Greater) ≡ Equal → eq ≡ true
equal_case true eq h = cc
equal_case false true h = refl
equal_case false false h = cc

pub exact : (n m : ℕ) → nat_cmp n m ≡ Equal → n ≡ m
exact n m h = eqb-true n m (equal_case (nat_lt n m) (n == m) h)

differ_case : (n m : ℕ) (b : Bool) → nat_eq n m ≡ b → n < m → b ≡ false
differ_case n m true same less = let e : n ≡ m = eqb-true n m same in
    absurd (omega (arith, less, e))
differ_case n m false same less = refl

less_differs : (n m : ℕ) → nat_cmp n m ≡ Less → nat_eq n m ≡ false
less_differs n m h =
    differ_case n m (nat_eq n m) refl (ltb-true n m (less_case (nat_lt n m) (n == m) h))

-- Lists of shards, none of which is this one.

abbrev Apart : ℕ → List ℕ → Type 0
Apart n ms = AllByRecursion (λ m. nat_eq n m ≡ false) ms

cond_apart : (n m : ℕ) (ms : List ℕ) (b : Bool) → nat_eq n m ≡ false → Apart n ms
    → Apart n (cond b (m ∷ ms) ms)
cond_apart n m ms true h apart = (h, apart)
cond_apart n m ms false h apart = apart

filter_apart : (n : ℕ) (p : ℕ → Bool) (ms : List ℕ) → Apart n ms → Apart n (filter p ms)
filter_apart n p [] apart = tt
filter_apart n p (m ∷ ms) apart =
    cond_apart n m (filter p ms) (p m) apart.0 (filter_apart n p ms apart.1)

cond_once : (m : ℕ) (ms : List ℕ) (b : Bool) → Apart m ms → IsDistinct nat_eq ms
    → IsDistinct nat_eq (cond b (m ∷ ms) ms)
unfolding IsDistinct
cond_once m ms true apart once = (apart, once)
cond_once m ms false apart once = once

filter_once : (p : ℕ → Bool) (ms : List ℕ) → IsDistinct nat_eq ms → IsDistinct nat_eq (filter p ms)
unfolding IsDistinct
filter_once p [] once = tt
filter_once p (m ∷ ms) once =
    cond_once m (filter p ms) (p m) (filter_apart m p ms once.0) (filter_once p ms once.1)

cond_below : (n m : ℕ) (ms : List ℕ) (b : Bool) → m < n → Below n ms → Below n (cond b (m ∷ ms) ms)
cond_below n m ms true h below = (h, below)
cond_below n m ms false h below = below

filter_below : (n : ℕ) (p : ℕ → Bool) (ms : List ℕ) → Below n ms → Below n (filter p ms)
filter_below n p [] below = tt
filter_below n p (m ∷ ms) below =
    cond_below n m (filter p ms) (p m) below.0 (filter_below n p ms below.1)

both_apart : (n : ℕ) (ms ks : List ℕ) → Apart n ms → Apart n ks → Apart n (ms ++ ks)
both_apart n [] ks apart more = more
both_apart n (m ∷ ms) ks apart more = (apart.0, both_apart n ms ks apart.1 more)

both_below : (n : ℕ) (ms ks : List ℕ) → Below n ms → Below n ks → Below n (ms ++ ks)
both_below n [] ks below more = more
both_below n (m ∷ ms) ks below more = (below.0, both_below n ms ks below.1 more)

both_once : (ms ks : List ℕ) → IsDistinct nat_eq ms → IsDistinct nat_eq ks
    → AllByRecursion (λ m. Apart m ks) ms → IsDistinct nat_eq (ms ++ ks)
unfolding IsDistinct
both_once [] ks once more apart = more
both_once (m ∷ ms) ks once more apart =
    (both_apart m ms ks once.0 apart.0, both_once ms ks once.1 more apart.1)

-- Those that aren't among some are apart from them.

abbrev new : List ℕ → ℕ → Bool
new all k = not (list_any (nat_eq k) all)

apart_by : (m k : ℕ) (all : List ℕ) (b : Bool) → nat_eq m k ≡ b → list_any (nat_eq k) all ≡ false
    → list_any (nat_eq m) all ≡ true → b ≡ false
apart_by m k all true same absent present =
    let e : m ≡ k = eqb-true m k same in
    let there : list_any (nat_eq k) all ≡ true =
    subst (λ i. list_any (nat_eq i) all ≡ true) e present in
    sym there ∙ absent
apart_by m k all false same absent present = refl

new_case : (m k : ℕ) (all more : List ℕ) (b : Bool) → list_any (nat_eq k) all ≡ b
    → list_any (nat_eq m) all ≡ true → Apart m more → Apart m (cond (not b) (k ∷ more) more)
new_case m k all more true is present apart = apart
new_case m k all more false is present apart =
    (apart_by m k all (nat_eq m k) refl is present, apart)

new_apart : (m : ℕ) (all ks : List ℕ) → list_any (nat_eq m) all ≡ true
    → Apart m (filter (new all) ks)
new_apart m all [] present = tt
new_apart m all (k ∷ ks) present = new_case m k all (filter (new all) ks) (list_any (nat_eq k) all)
    refl present (new_apart m all ks present)

or_later : (a b : Bool) → b ≡ true → (a || b) ≡ true
or_later true b h = refl
or_later false b h = h

all_apart : (ms all ks : List ℕ) → ((q : ℕ) → list_any (nat_eq q) ms ≡ true
    → list_any (nat_eq q) all ≡ true) → AllByRecursion (λ m. Apart m (filter (new all) ks)) ms
all_apart [] all ks among = tt
all_apart (m ∷ ms) all ks among = (
  new_apart m all ks (among m (ap (λ b. b || list_any (nat_eq m) ms) (eq-eqb m m refl))),
  all_apart ms all ks (λ q h. among q (or_later (nat_eq q m) (list_any (nat_eq q) ms) h)),
)

-- Writers among answers.

ok_case : (P : Option ℕ → Type 0) (shard : ℕ) (wrote : Bool) → P None → P (Some shard)
    → P (if wrote then Some shard else None)
ok_case P shard true none some = some
ok_case P shard false none some = none

writer_case : (P : Option ℕ → Type 0) (shard : ℕ) (outcome : Result (OpReply × Bool) Cause)
    → P None → P (Some shard)
    → P (elim outcome [ Ok done ↦ if done.1 then Some shard else None | Err why ↦ None ])
writer_case P shard (Ok done) none some = ok_case P shard done.1 none some
writer_case P shard (Err why) none some = none

writers_apart : (n : ℕ) (rows : List (ℕ × Answer)) → AllAbove nat_cmp n rows
    → Apart n (filter_map writer_in rows)
writers_apart n [] above = tt
writers_apart n (row ∷ rows) above =
    let more = writers_apart n rows above.1 in
    writer_case (λ o. Apart n (cons_option o (filter_map writer_in rows))) row.0 row.1.outcome more
    (less_differs n row.0 above.0, more)

writers_once : (rows : List (ℕ × Answer)) → Rises nat_cmp rows
    → IsDistinct nat_eq (filter_map writer_in rows)
unfolding IsDistinct
writers_once [] rises = tt
writers_once (row ∷ rows) rises =
    let more = writers_once rows rises.1 in
    writer_case (λ o. IsDistinct nat_eq (cons_option o (filter_map writer_in rows))) row.0
    row.1.outcome more (writers_apart row.0 rows rises.0, more)

writers_below : (n : ℕ) (rows : List (ℕ × Answer)) → KeysBelow n rows
    → Below n (filter_map writer_in rows)
writers_below n [] below = tt
writers_below n (row ∷ rows) below =
    let more = writers_below n rows below.1 in
    writer_case (λ o. Below n (cons_option o (filter_map writer_in rows))) row.0 row.1.outcome more
    (below.0, more)

pub wrote_once : (t : Transaction) (rows : List (ℕ × Answer)) → IsDistinct nat_eq t.wrote
    → Rises nat_cmp rows → IsDistinct nat_eq (answered_by rows t).wrote
wrote_once t rows once rises =
    both_once t.wrote (filter (new t.wrote) (filter_map writer_in rows)) once
    (filter_once (new t.wrote) (filter_map writer_in rows) (writers_once rows rises))
    (all_apart t.wrote t.wrote (filter_map writer_in rows) (λ q h. h))

pub wrote_below : (n : ℕ) (t : Transaction) (rows : List (ℕ × Answer)) → Below n t.wrote
    → KeysBelow n rows → Below n (answered_by rows t).wrote
wrote_below n t rows below keys =
    both_below n t.wrote (filter (new t.wrote) (filter_map writer_in rows)) below
    (filter_below n (new t.wrote) (filter_map writer_in rows) (writers_below n rows keys))

-- An answer put among the others.

put_case : {A : Type 0} (n key : ℕ) (a : A) (row : ℕ × A) (rows : List (ℕ × A)) (o : Ordering)
    → key < n → KeysBelow n (row ∷ rows) → KeysBelow n (put nat_cmp key a rows)
    → KeysBelow n (elim o [
      | Less ↦ (key, a) ∷ row ∷ rows
      | Equal ↦ (key, a) ∷ rows
      | Greater ↦ row ∷ put nat_cmp key a rows
    ])
put_case n key a row rows Less h below more = (h, below)
put_case n key a row rows Equal h below more = (h, below.1)
put_case n key a row rows Greater h below more = (below.0, more)

pub put_below : {A : Type 0} (n key : ℕ) (a : A) (rows : List (ℕ × A)) → key < n → KeysBelow n rows
    → KeysBelow n (put nat_cmp key a rows)
put_below n key a [] h below = (h, tt)
put_below n key a (row ∷ rows) h below =
    put_case n key a row rows (nat_cmp key row.0) h below (put_below n key a rows h below.1)

pub put_rises : {A : Type 0} (key : ℕ) (a : A) (rows : List (ℕ × A)) → Rises nat_cmp rows
    → Rises nat_cmp (put nat_cmp key a rows)
put_rises key a rows rises = laying.rises_put nat_cmp nat_cmp_total exact key a rows rises

-- A shard that is waited for is one of those that were asked.

waited_case : (n shard to : ℕ) (b more : Bool) → nat_eq to shard ≡ b → to < n
    → (more ≡ true → shard < n) → (b || more) ≡ true → shard < n
waited_case n shard to true more same below later h =
    subst (λ k. k < n) (eqb-true to shard same) below
waited_case n shard to false more same below later h = later h

pub waited_below : (n shard : ℕ) (posts : List Post) → KeysBelow n posts
    → is_waited shard posts ≡ true → shard < n
waited_below n shard [] below h = cc
waited_below n shard (post ∷ posts) below h = waited_case n shard post.0 (nat_eq post.0 shard)
    (is_waited shard posts) refl below.0 (waited_below n shard posts below.1) h

-- Different shards below 65,535 are at most so many.

among_case : (n q m : ℕ) (b more : Bool) → nat_eq q m ≡ b → m < n → (more ≡ true → q < n)
    → (b || more) ≡ true → q < n
among_case n q m true more same below later h = subst (λ k. k < n) (sym (eqb-true q m same)) below
among_case n q m false more same below later h = later h

among_below : (n q : ℕ) (ms : List ℕ) → Below n ms → list_any (nat_eq q) ms ≡ true → q < n
among_below n q [] below h = cc
among_below n q (m ∷ ms) below h = among_case n q m (nat_eq q m) (list_any (nat_eq q) ms) refl
    below.0 (among_below n q ms below.1) h

few : (n : ℕ) (ms : List ℕ) → IsDistinct nat_eq ms → Below n ms → length ms ≤ n
few n ms once below = length-le_from_distinct_below ms n once (λ q h. among_below n q ms below h)

pub few_wrote : (t : Transaction) → IsSafeTransaction t → length t.wrote ≤ 65535
few_wrote t safe = few 65535 t.wrote safe.once safe.few

pub last_of : (a b c : Bool) → (a && b && c) ≡ true → c ≡ true
last_of true true c h = h
last_of true false c h = cc
last_of false b c h = cc

-- after an answer that is waited for
pub taken_room : (a : Answer) (t : Transaction) (asker : Asker) (op : Op)
    (answers : List (ℕ × Answer)) → IsSafeTransaction t → t.phase ≡ Asking asker op answers
    → is_waited a.shard t.waiting ≡ true
    → length (answered_by (put nat_cmp a.shard a answers) t).wrote ≤ 65535
taken_room a t asker op answers safe is waited =
    let asked : IsSafePhase t.waiting (Asking asker op answers) =
    subst (λ (p : Phase). IsSafePhase t.waiting p) is safe.asked in
    let below : a.shard < 65535 = waited_below 65535 a.shard t.waiting asked.0 waited in
    let rows : List (ℕ × Answer) = put nat_cmp a.shard a answers in
    few 65535 (answered_by rows t).wrote
    (wrote_once t rows safe.once (put_rises a.shard a answers asked.1))
    (wrote_below 65535 t rows safe.few (put_below 65535 a.shard a answers below asked.2))
