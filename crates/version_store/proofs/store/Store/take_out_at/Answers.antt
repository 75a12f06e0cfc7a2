use Rattle.std.proofs.Common.{List, ℕ, ap, sym, subst, ◌∙◌}
use Rattle.std.specs.BTreeMap.{BTreeMap}
use Rattle.txn_types.specs.Order.{id_cmp}
use Rattle.txn_types.specs.declared.id.Id.{Id}
use Rattle.txn_semantics.specs.Writes.{place_cmp}
use Rattle.version_store.specs.contracts.store.Store.{the_view, the_invariant}
use Rattle.version_store.specs.Versions.{without}
use Rattle.version_store.specs.Chains.{IsCollection, AreCollections, Each, changed_at}
use Rattle.version_store.specs.Chains.{with_versions}
use Rattle.version_store.specs.Collections.{Documents}
use Rattle.version_store.specs.Nested.{flattened}
use Rattle.version_store.specs.Ids.{HaveIds}
use Rattle.version_store.proofs.Documents.{collection_taken}
use Rattle.version_store.proofs.Groups.{ns_cmp, taken_there, taken_nowhere}
use Rattle.version_store.proofs.Histories.{each_set, each_found}
use Rattle.version_store.proofs.Ids.{ids_changed, ids_left, ids_without}
use Rattle.version_store.proofs.Keyed.{rises_of}
use Rattle.version_store.proofs.store.Store.take_out_at.Goals as goal
use Rattle.version_store.proofs.store.Store.take_out_at.Goals.{in-Some, in_default}

pub returns : goal.returns
returns c =
    let f = without c.args.tag.now in
    let ns = c.ns.result.now in
    let id = c.args.key.now.1 in
    let groups = c.self.inside.collections.entries in
    let store = c.args.self.now in
    let named =
    ap (λ (n : List ℕ). with_versions (changed_at place_cmp f (n, id) store)) c.ns.ensures in
    elim c.match-get_mut.branch [
      | in-Some w ↦
          let old = w.in-Some.collection.now in
          let new = w.take_out.new.self in
          let is = w.take_out.ensures
          ∙ ap (λ (i : Id). with_versions (changed_at id_cmp f i old)) w.id.ensures in
          ap the_view w.self-inside-is ∙ ap flattened (c.get_mut.follows.holds new).0
          ∙ taken_there f ns id old new groups store c.self.view_is c.self.invariant.rises
          c.self.invariant.collections (sym w.in-Some.ensures.value) is
          ∙ named
      | in_default w ↦
          ap the_view w.self-inside-is ∙ ap (λ (m : BTreeMap (List ℕ) Documents).
          flattened m.entries) c.get_mut.follows.holds-at-none
          ∙ taken_nowhere f ns id groups store c.self.view_is c.self.invariant.collections
          (sym w.in_default.ensures.value)
          ∙ named
    ]

pub invariant_of-self : goal.invariant_of-self
invariant_of-self c =
    let ns = c.ns.result.now in
    let groups = c.self.inside.collections.entries in
    let all = c.self.invariant.collections in
    let f = without c.args.tag.now in
    let id = c.args.key.now.1 in
    let store = c.args.self.now in
    let ids = ids_left (changed_at place_cmp f (ns, id) store) (ids_changed f (ns, id) store
    (ids_without c.args.tag.now id) (subst HaveIds c.self.view_is c.self.invariant.ids)) in
    elim c.match-get_mut.branch [
      | in-Some w ↦
          let new = w.take_out.new.self in
          let old = w.in-Some.collection.now in
          let is : IsCollection new = subst IsCollection (sym w.take_out.ensures)
          (collection_taken c.args.tag.now w.id.result.now old
          (each_found ns_cmp IsCollection ns old groups (sym w.in-Some.ensures.value) all)) in
          let left = taken_there f ns id old new groups store c.self.view_is
          c.self.invariant.rises all (sym w.in-Some.ensures.value) (w.take_out.ensures
          ∙ ap (λ (i : Id). with_versions (changed_at id_cmp f i old)) w.id.ensures) in
          let held : AreCollections (c.get_mut.follows.lender new).entries =
          record {
            rises = rises_of ns_cmp (c.get_mut.follows.lender new).entries
                (c.get_mut.follows.holds new).4;
            collections = subst (Each IsCollection) (sym (c.get_mut.follows.holds new).0)
                (each_set ns_cmp IsCollection ns new groups is all);
            ids = subst HaveIds (sym (ap flattened (c.get_mut.follows.holds new).0 ∙ left)) ids;
          } in
          subst the_invariant (sym w.self-inside-is) held
      | in_default w ↦ subst the_invariant (sym w.self-inside-is)
          (subst (λ (m : BTreeMap (List ℕ) Documents). AreCollections m.entries)
          (sym c.get_mut.follows.holds-at-none) c.self.invariant)
    ]
