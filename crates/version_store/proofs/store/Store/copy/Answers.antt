use Rattle.std.proofs.Common.{◌≡◌}
use Rattle.std.proofs.lemmas.Cmp.{nat_list_cmp_total}
use Rattle.std.proofs.lemmas.Map.Lookups.{exact_bytes}
use Rattle.version_store.specs.Chains.{AreCollections}
use Rattle.version_store.specs.Nested.{flattened}
use Rattle.version_store.proofs.Groups.{Groups, ns_cmp}
use Rattle.version_store.proofs.Keyed.{copied_on}
use Rattle.version_store.proofs.store.Store.copy.Goals as goal

pub loop-ns-preserved-in_ok-insert : goal.loop-ns-preserved-in_ok-insert
loop-ns-preserved-in_ok-insert c =
    copied_on ns_cmp nat_list_cmp_total exact_bytes (λ (rows : Groups). AreCollections rows
    × (flattened rows ≡ c.args.self.now)) c.loop-ns.collections.entries
    c.insert.new.self.entries c.loop-ns.ns-iterator c.next.new.self
    c.in-Some.ns.now c.in_ok-copy.field-0 c.in-Some.collection.now c.in_ok-copy-2.field-0
    c.loop-ns.invariant.0.rises c.in-Some.ensures.steps c.in_ok-copy.ensures
    c.in_ok-copy-2.ensures c.in_ok-insert.ensures.entries
    c.loop-ns.invariant

pub loop-ns-preserved : goal.loop-ns-preserved
loop-ns-preserved c =
    copied_on ns_cmp nat_list_cmp_total exact_bytes (λ (rows : Groups). AreCollections rows
    × (flattened rows ≡ c.args.self.now)) c.loop-ns.collections.entries
    c.insert.new.self.entries c.loop-ns.ns-iterator c.next.new.self
    c.in-Some.ns.now c.in_ok-copy.field-0 c.in-Some.collection.now c.in_ok-copy-2.field-0
    c.loop-ns.invariant.0.rises c.in-Some.ensures.steps c.in_ok-copy.ensures
    c.in_ok-copy-2.ensures c.in_ok-insert.ensures.entries
    c.loop-ns.invariant
