use Rattle.std.proofs.Common.{◌≡◌, ℕ, zero, suc, ◌<◌, ◌≤◌, Bool, true, false, [], ◌∷◌, ◌++◌, Some}
use Rattle.std.proofs.Common.{None, length, get_or, slice_set, position, refl, ap, sym, subst, ◌∙◌}
use Rattle.std.proofs.Common.{arith}
use Rattle.std.specs.List.{position_or_len}
use Rattle.std.proofs.lemmas.Bool.Decides.{nat_tests}
use Rattle.std.proofs.lemmas.List.Sums.{fails_before_first}
use Rattle.std.proofs.lemmas.List.Quantifiers.{position-Some}
use Rattle.txn_types.specs.declared.node.Lsid.{Lsid}
use Rattle.txn_types.specs.BySession.{BySession, with_entry}
use Rattle.txn_types.specs.Order.{same_lsid}
use Rattle.router_state.specs.declared.state.Session.{Session}
use Rattle.router_state.proofs.table.put_entry.Goals as goal

-- whether the entry has that name
abbrev has_name : Lsid → Lsid × Session → Bool
has_name lsid entry = same_lsid lsid entry.0

-- The first entry of the name is replaced.
at_first : (lsid : Lsid) (session : Session) (table : BySession Session) (at : ℕ) (default : Lsid
    × Session) → at < length table → has_name lsid (get_or table at default) ≡ true
    → ((k : ℕ) → k < at → has_name lsid (get_or table k default) ≡ false)
    → slice_set table at (lsid, session) ≡ with_entry lsid session table
at_first lsid session [] at default within named before = absurd (omega arith)
at_first lsid session (entry ∷ table) zero default within named before = rw named refl
at_first lsid session (entry ∷ table) (suc at) default within named before =
    let other : has_name lsid entry ≡ false = before 0 (omega arith) in
    rw other (ap (λ (rest : BySession Session). entry ∷ rest) (at_first lsid session table at
    default (omega arith) named (λ k below. before (suc k) (omega arith))))

-- Where no entry has the name, one goes after them all.
behind : (lsid : Lsid) (session : Session) (table : BySession Session) (default : Lsid × Session)
    → ((k : ℕ) → k < length table → has_name lsid (get_or table k default) ≡ false)
    → table ++ (lsid, session) ∷ [] ≡ with_entry lsid session table
behind lsid session [] default absent = refl
behind lsid session (entry ∷ table) default absent =
    let other : has_name lsid entry ≡ false = absent 0 (omega arith) in
    rw other (ap (λ (rest : BySession Session). entry ∷ rest)
    (behind lsid session table default (λ k below. absent (suc k) (omega arith))))

nowhere : (p : Lsid × Session → Bool) (table : BySession Session) → position p table ≡ None
    → length table ≤ position_or_len p table
nowhere p table none = grind (arith, nat_tests)

pub returns-in-Some-clause-ok : goal.returns-in-Some-clause-ok
returns-in-Some-clause-ok c =
    let lsid : Lsid = c.args.lsid in
    let table : BySession Session = c.args.table.now in
    let found : position (has_name lsid) table ≡ Some c.in-Some.at =
    subst (λ (xs : BySession Session). position (has_name lsid) xs
    ≡ Some c.in-Some.at) c.as_slice.ensures (sym c.place_of.ensures.place ∙ c.in-Some.is) in
    let first = position-Some (has_name lsid) table c.in-Some.at (lsid, c.args.session) found in
    rw c.set.ensures (at_first lsid c.args.session table c.in-Some.at (lsid, c.args.session) first.0
    first.1 first.2)

pub returns-clause-ok : goal.returns-clause-ok
returns-clause-ok c =
    let lsid : Lsid = c.args.lsid in
    let table : BySession Session = c.args.table.now in
    let none : position (has_name lsid) table ≡ None =
    subst (λ (xs : BySession Session). position (has_name lsid) xs
    ≡ None) c.as_slice.ensures (sym c.place_of.ensures.place ∙ c.in_default.is) in
    let absent : length table ≤ position_or_len (has_name lsid) table =
    nowhere (has_name lsid) table none in
    rw c.in_ok-push.ensures.ok (behind lsid c.args.session table (lsid, c.args.session) (λ k below.
    fails_before_first (has_name lsid) table k (lsid, c.args.session) (omega arith)))
