use Rattle.std.proofs.Common.{◌≡◌, ◌++◌, sym, subst}
use Rattle.std.specs.List.{IsDistinct}
use Rattle.std.specs.Map.{keys_of}
use Rattle.std.specs.Ordering.{eq_by_cmp}
use Rattle.txn_types.specs.BySession.{BySession}
use Rattle.txn_types.specs.Order.{lsid_cmp}
use Rattle.session_table.specs.Sessions.{Table}
use Rattle.session_table.specs.declared.session.Session.{Session}
use Rattle.session_table.proofs.Entries.{copied_on}
use Rattle.session_table.proofs.table.Sessions.copy.Goals as goal

pub loop-key-preserved : goal.loop-key-preserved
loop-key-preserved c =
    let left = c.next.new.self in
    let copy = c.loop-key.copy in
    let made : BySession Session
    → Table = λ entries. record { limit = copy.limit; entries = entries } in
    let there =
    copied_on (λ (entries : BySession Session). IsDistinct (eq_by_cmp lsid_cmp) (keys_of entries)
    × (made entries ≡ c.args.self.now)) copy.entries c.loop-key.key-iterator left
    c.in-Some.key.now c.lsid.result.now c.in-Some.session.now
    c.in_ok-copy.field-0 c.loop-key.invariant.0 c.in-Some.ensures.steps c.lsid.ensures
    c.in_ok-copy.ensures c.loop-key.invariant in
    subst (λ (t : Table). IsDistinct (eq_by_cmp lsid_cmp) (keys_of (t.entries ++ left))
    × ((let u : Table = record { limit = t.limit; entries = t.entries ++ left } in u)
    ≡ c.args.self.now)) (sym c.in_ok-set.ensures.ok) there
