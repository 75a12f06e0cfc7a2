-- What is known after a refusal that didn't come.
use Rattle.std.proofs.Common.{◌≡◌, ◌&&◌, ℕ, ◌<◌, ◌-◌, ◌^◌, Bool, true, false, List, ◌∷◌, Option}
use Rattle.std.proofs.Common.{Some, None, refl, subst, arith, nat_le}
use Rattle.std.specs.Prelude.{is_none}
use Rattle.txn_types.specs.declared.operation.Op.{Op}
use Rattle.txn_semantics.specs.Touched.{first_some}
use Rattle.client_cmd.specs.declared.request.Txn.{Txn}
use Rattle.client_reply.specs.declared.reply.Refusal.{Refusal}
use Rattle.router_state.specs.declared.state.Session.{Session}
use Rattle.router_state.specs.declared.state.Transaction.{Transaction}
use Rattle.router_state.specs.State.{RouterState}
use Rattle.router_plan.specs.Refusals.{where_so, begun_in, is_so, too_old, busy, started}
use Rattle.router_plan.specs.Refusals.{no_transaction, after_commit, too_long, too_many, spent}
use Rattle.router_plan.specs.Refusals.{statement_refusal}
use Rattle.router_plan.specs.Plain.{plain_refusal}

first_none : {A : Type 0} (a : Option A) (rest : List (Option A))
    → first_some (a ∷ rest) ≡ None → a ≡ None
first_none None rest h = refl
first_none (Some a) rest h = cc

rest_none : {A : Type 0} (a : Option A) (rest : List (Option A)) → first_some (a ∷ rest) ≡ None
    → first_some rest ≡ None
rest_none None rest h = h
rest_none (Some a) rest h = cc

holds_not : (b : Bool) (why : Refusal) → where_so b why ≡ None → b ≡ false
holds_not true why h = cc
holds_not false why h = refl

not_le : (a b : ℕ) → nat_le a b ≡ false → b < a
not_le a b h = grind (arith, h)

-- a statement that isn't refused is one of its transaction's first million
pub is_short : (s : RouterState) (conn : ℕ) (session : Option Session) (txn : Txn)
    (op : Op) (t : Transaction) → statement_refusal s conn session txn op ≡ None
    → begun_in session txn.number ≡ Some t → t.k < 1000000
unfolding statement_refusal
is_short s conn session txn op t none is =
    let a = rest_none (too_old session txn.number) _ none in
    let b = rest_none (busy session conn) _ a in
    let c = rest_none (started session txn) _ b in
    let d = rest_none (no_transaction session txn.number txn.start false) _ c in
    let e = rest_none (after_commit session txn.number) _ d in
    let f : too_long session txn.number ≡ None = first_none (too_long session txn.number) _ e in
    let g : is_so (λ (t : Transaction). nat_le 1000000 t.k) (begun_in session txn.number) ≡ false =
    holds_not _ _ f in
    not_le 1000000 t.k (subst (λ (o : Option Transaction).
    is_so (λ (t : Transaction). nat_le 1000000 t.k) o ≡ false) is g)

-- one that begins its transaction finds a serial
pub has_serial : (s : RouterState) (conn : ℕ) (session : Option Session) (txn : Txn) (op : Op)
    → statement_refusal s conn session txn op ≡ None → begun_in session txn.number ≡ None
    → s.serial < 2 ^ 63 - 1
unfolding statement_refusal
has_serial s conn session txn op none is =
    let a = rest_none (too_old session txn.number) _ none in
    let b = rest_none (busy session conn) _ a in
    let c = rest_none (started session txn) _ b in
    let d = rest_none (no_transaction session txn.number txn.start false) _ c in
    let e = rest_none (after_commit session txn.number) _ d in
    let f = rest_none (too_long session txn.number) _ e in
    let g = rest_none (too_many s session) _ f in
    let h : spent s session txn.number ≡ None = first_none (spent s session txn.number) _ g in
    let i : (is_none (begun_in session txn.number) && nat_le (2 ^ 63 - 1) s.serial) ≡ false =
    holds_not _ _ h in
    not_le (2 ^ 63 - 1) s.serial (subst (λ (o : Option Transaction).
    (is_none o && nat_le (2 ^ 63 - 1) s.serial) ≡ false) is i)

pub plain_has_serial : (s : RouterState) (conn : ℕ) (session : Option Session) (op : Op)
    → plain_refusal s conn session op ≡ None → s.serial < 2 ^ 63 - 1
plain_has_serial s conn session op none =
    let a = rest_none (busy session conn) _ none in
    let b = rest_none (too_many s session) _ a in
    not_le (2 ^ 63 - 1) s.serial (holds_not _ _ (first_none _ _ b))
