-- A command by itself begins a transaction that wasn't begun before, so that only four refusals can
-- come.
use Rattle.std.proofs.Common.{◌≡◌, ◌&&◌, ℕ, ℤ, pos, ◌-◌, ◌^◌, ◌+ℤ◌, Bool, true, false, not, List}
use Rattle.std.proofs.Common.{[], ◌∷◌, Option, Some, None, refl, ap, ◌∙◌, arith, nat_le}
use Rattle.std.specs.Prelude.{is_none, int_lt}
use Rattle.std.specs.Ordering.{int_eq}
use Rattle.std.proofs.lemmas.Bool.Decides.{Decides-int_eq}
use Rattle.std.proofs.lemmas.Int.{ints}
use Rattle.txn_types.specs.declared.node.Lsid.{Lsid}
use Rattle.txn_types.specs.declared.operation.Op.{Op}
use Rattle.txn_semantics.specs.Touched.{first_some}
use Rattle.client_reply.specs.declared.reply.Refusal.TheVariants as refusal
use Rattle.client_reply.specs.declared.reply.Reply.{Reply}
use Rattle.router_state.specs.declared.state.Session.{Session}
use Rattle.router_state.specs.declared.state.Transaction.{Transaction}
use Rattle.router_state.specs.State.{RouterState, commit_sent}
use Rattle.router_plan.specs.Refusals.{where_so, begun_in, is_so, too_old, busy, no_transaction}
use Rattle.router_plan.specs.Refusals.{after_commit, too_long, too_many, spent, many_shards}
use Rattle.router_plan.specs.Refusals.{is_aborted, known_aborted, statement_refusal}
use Rattle.router_plan.specs.Plain.{plain_refusal, next_number}

none_first : (o : Option Reply) (xs ys : List (Option Reply)) → o ≡ None
    → first_some xs ≡ first_some ys → first_some (o ∷ xs) ≡ first_some ys
none_first None xs ys is h = h
none_first (Some r) xs ys is h = cc

same_first : (o : Option Reply) (xs ys : List (Option Reply)) → first_some xs ≡ first_some ys
    → first_some (o ∷ xs) ≡ first_some (o ∷ ys)
same_first None xs ys h = h
same_first (Some r) xs ys h = refl

equal_first : (a b : Option Reply) (xs ys : List (Option Reply)) → a ≡ b
    → first_some xs ≡ first_some ys → first_some (a ∷ xs) ≡ first_some (b ∷ ys)
equal_first a b xs ys is h = ap (λ o. first_some (o ∷ xs)) is ∙ same_first b xs ys h

-- The next number is above the session's.

not_below : (n : ℤ) → int_lt (n +ℤ pos 1) n ≡ false
not_below n = by (int_lt (n +ℤ pos 1) n) refl
  where
    by : (b : Bool) → int_lt (n +ℤ pos 1) n ≡ b → b ≡ false
    by true e = absurd (omega (arith, ints))
    by false e = refl

not_same : (n : ℤ) → int_eq n (n +ℤ pos 1) ≡ false
not_same n = by (int_eq n (n +ℤ pos 1)) refl
  where
    by : (b : Bool) → int_eq n (n +ℤ pos 1) ≡ b → b ≡ false
    by true e = let same : n ≡ n +ℤ pos 1 = (Decides-int_eq n (n +ℤ pos 1)).0 e in
        absurd (omega (arith, ints))
    by false e = refl

old_none : (session : Option Session) → too_old session (next_number session) ≡ None
old_none None = refl
old_none (Some session) = rw (not_below session.number) refl

pub begun_none : (session : Option Session) → begun_in session (next_number session) ≡ None
begun_none None = refl
begun_none (Some session) = rw (not_same session.number) refl

same_none : (session : Option Session)
    → is_so (λ s. int_eq s.number (next_number session)) session ≡ false
same_none None = refl
same_none (Some session) = not_same session.number

-- so nothing is refused that is refused of what was begun
module _ (s : RouterState) (conn : ℕ) (session : Option Session) (lsid : Lsid) (op : Op) where
  there_none : no_transaction session (next_number session) true false ≡ None
  there_none = ap (λ (t : Option Transaction). where_so (is_none t && not true)
      (refusal.NoTransaction (next_number session) false)) (begun_none session)

  after_none : after_commit session (next_number session) ≡ None
  after_none = ap (λ (t : Option Transaction). where_so
      (is_so (λ (t : Transaction). commit_sent t.phase) t) refusal.AfterCommit) (begun_none session)

  long_none : too_long session (next_number session) ≡ None
  long_none = ap (λ (t : Option Transaction). where_so
      (is_so (λ (t : Transaction). nat_le 1000000 t.k) t) refusal.TooLong) (begun_none session)

  spent_same : spent s session (next_number session)
      ≡ where_so (nat_le (2 ^ 63 - 1) s.serial) refusal.Spent
  spent_same = ap (λ (t : Option Transaction). where_so (is_none t && nat_le (2 ^ 63 - 1) s.serial)
      refusal.Spent) (begun_none session)

  aborted_none : known_aborted session (next_number session) ≡ None
  aborted_none = ap (λ (t : Option Transaction). where_so
      (is_so (λ (t : Transaction). is_aborted t.phase) t) refusal.Aborted) (begun_none session)

pub plain_is : (s : RouterState) (conn : ℕ) (session : Option Session) (lsid : Lsid) (op : Op)
    → statement_refusal s conn session
    (record { lsid = lsid; number = next_number session; start = true }) op
    ≡ plain_refusal s conn session op
unfolding statement_refusal
plain_is s conn session lsid op =
    none_first _ _ (busy session conn ∷ too_many s session ∷ where_so (nat_le (2 ^ 63 - 1) s.serial)
    refusal.Spent ∷ many_shards s.chunks op ∷ []) (old_none session)
    (same_first (busy session conn) _ (too_many s session
    ∷ where_so (nat_le (2 ^ 63 - 1) s.serial) refusal.Spent ∷ many_shards s.chunks op ∷ [])
    (none_first _ _ (too_many s session ∷ where_so (nat_le (2 ^ 63 - 1) s.serial) refusal.Spent
    ∷ many_shards s.chunks op ∷ [])
    (ap (λ b. where_so b (refusal.Started (next_number session))) (same_none session))
    (none_first _ _ (too_many s session ∷ where_so (nat_le (2 ^ 63 - 1) s.serial) refusal.Spent
    ∷ many_shards s.chunks op ∷ []) (there_none s conn session lsid op)
    (none_first _ _ (too_many s session ∷ where_so (nat_le (2 ^ 63 - 1) s.serial) refusal.Spent
    ∷ many_shards s.chunks op ∷ []) (after_none s conn session lsid op)
    (none_first _ _ (too_many s session ∷ where_so (nat_le (2 ^ 63 - 1) s.serial) refusal.Spent
    ∷ many_shards s.chunks op ∷ []) (long_none s conn session lsid op)
    (same_first (too_many s session) _
    (where_so (nat_le (2 ^ 63 - 1) s.serial) refusal.Spent ∷ many_shards s.chunks op ∷ [])
    (equal_first _ _ _ (many_shards s.chunks op ∷ []) (spent_same s conn session lsid op)
    (same_first (many_shards s.chunks op) _ []
    (none_first _ _ [] (aborted_none s conn session lsid op) refl)))))))))
