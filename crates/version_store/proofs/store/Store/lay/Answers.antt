use Rattle.std.proofs.Common.{◌≡◌, List, ℕ, None, ap, sym, subst, ◌∙◌, rules}
use Rattle.std.specs.BTreeMap.{BTreeMap}
use Rattle.std.specs.List.{filter_map}
use Rattle.txn_types.specs.Order.{id_cmp}
use Rattle.version_store.specs.declared.version.Version.{Version}
use Rattle.version_store.specs.Versions.{first, other_writer_of}
use Rattle.version_store.specs.Chains.{IsCollection, Each, versions_at}
use Rattle.version_store.specs.Collections.{Documents}
use Rattle.version_store.specs.Nested.{flattened}
use Rattle.version_store.specs.Ids.{HaveIds}
use Rattle.version_store.proofs.Groups.{ns_cmp, versions_in, group_found, set_laid, set_left}
use Rattle.version_store.proofs.Groups.{insert_laid, insert_left, left_there, kept_there, kept_new}
use Rattle.version_store.proofs.Ids.{ids_laid}
use Rattle.version_store.proofs.Keyed.{rises_of}
use Rattle.version_store.proofs.store.Store.lay.Goals as goal

pub put-requires : goal.put-requires
put-requires c =
    let ns = c.args.ns in
    let groups = c.self.inside.collections.entries in
    let docs = c.in-Some.collection.now in
    ap (λ (line : List Version). first (filter_map (other_writer_of c.args.tag.now) line))
    (versions_in ns c.args.id docs groups c.args.self.now c.self.view_is c.self.invariant.rises
    (group_found ns docs groups (sym c.in-Some.ensures.value)))
    ∙ c.requires.free

pub returns-in-Some-clause-ok : goal.returns-in-Some-clause-ok
returns-in-Some-clause-ok c =
    let new = c.put.new.self in
    let there =
    set_laid c.args.tag.now c.args.ns c.args.id c.args.version c.in-Some.collection.now new
    c.self.inside.collections.entries (c.get_mut.follows.lender new).entries c.args.self.now
    c.put.result c.self.view_is c.self.invariant.rises
    (sym c.in-Some.ensures.value) (c.get_mut.follows.holds new).0 c.put.ensures.ok in
    search (there, rules)

pub returns-in-Some-clause-err : goal.returns-in-Some-clause-err
returns-in-Some-clause-err c =
    let set = ap flattened (c.get_mut.follows.holds c.put.new.self).0 in
    let there = left_there c.args.ns c.in-Some.collection.now c.put.new.self
    c.self.inside.collections.entries c.args.self.now c.self.view_is
    (sym c.in-Some.ensures.value) in
    search (set, there, c.put.ensures.err, rules)

pub invariant_of-self : goal.invariant_of-self
invariant_of-self c =
    let ns = c.args.ns in
    let tag = c.args.tag.now in
    let groups = c.self.inside.collections.entries in
    let docs = c.in-Some.collection.now in
    let new = c.put.new.self in
    let free : first (filter_map (other_writer_of tag) (versions_at id_cmp c.args.id docs)) ≡ None =
    ap (λ (line : List Version). first (filter_map (other_writer_of tag) line))
    (versions_in ns c.args.id docs groups c.args.self.now c.self.view_is c.self.invariant.rises
    (group_found ns docs groups (sym c.in-Some.ensures.value)))
    ∙ c.requires.free in
    record {
      rises =
          rises_of ns_cmp (c.get_mut.follows.lender new).entries (c.get_mut.follows.holds new).4;
      collections =
          subst (Each IsCollection) (sym (c.get_mut.follows.holds new).0)
          (kept_there tag ns c.args.id c.args.version docs new groups c.put.result c.put.ensures.ok
          c.put.ensures.err (sym c.in-Some.ensures.value) free c.self.invariant.collections);
      ids =
          ids_laid c.put.result tag (ns, c.args.id) c.args.version c.args.self.now
          (flattened (c.get_mut.follows.lender new).entries)
          (set_laid tag ns c.args.id c.args.version docs new groups (c.get_mut.follows.lender
          new).entries c.args.self.now c.put.result c.self.view_is c.self.invariant.rises
          (sym c.in-Some.ensures.value) (c.get_mut.follows.holds new).0 c.put.ensures.ok)
          (set_left ns docs new groups (c.get_mut.follows.lender new).entries
          c.args.self.now c.put.result c.self.view_is (sym c.in-Some.ensures.value)
          (c.get_mut.follows.holds new).0 c.put.ensures.err) c.requires.known
          (subst HaveIds c.self.view_is c.self.invariant.ids);
    }

pub invariant_of-self-2 : goal.invariant_of-self-2
invariant_of-self-2 c =
    let same =
    ap (λ (m : BTreeMap (List ℕ) Documents). m.entries) c.get_mut.follows.holds-at-none in
    record {
      rises = rises_of ns_cmp c.insert.new.self.entries c.insert.ensures.ordered;
      collections =
          kept_new c.args.ns c.args.id c.args.version c.in-Ok-of.collection
          c.get_mut.follows.lender-at-none.entries c.self.inside.collections.entries
          c.insert.new.self.entries c.insert.result same c.in-Ok-of.ensures.ok
          c.insert.ensures.entries c.insert.ensures.err c.self.invariant.collections;
      ids =
          ids_laid c.insert.result c.args.tag.now (c.args.ns, c.args.id) c.args.version
          c.args.self.now (flattened c.insert.new.self.entries)
          (insert_laid c.args.tag.now c.args.ns c.args.id c.args.version c.in-Ok-of.collection
          c.get_mut.follows.lender-at-none.entries c.self.inside.collections.entries
          c.insert.new.self.entries c.args.self.now c.insert.result same
          c.self.view_is c.self.invariant.rises (sym c.in_default.ensures.value)
          c.in-Ok-of.ensures.ok c.insert.ensures.entries)
          (insert_left c.get_mut.follows.lender-at-none.entries c.self.inside.collections.entries
          c.insert.new.self.entries c.args.self.now c.insert.result same c.self.view_is
          c.insert.ensures.err) c.requires.known
          (subst HaveIds c.self.view_is c.self.invariant.ids);
    }

pub returns-clause-ok : goal.returns-clause-ok
returns-clause-ok c =
    let same =
    ap (λ (m : BTreeMap (List ℕ) Documents). m.entries) c.get_mut.follows.holds-at-none in
    let new =
    insert_laid c.args.tag.now c.args.ns c.args.id c.args.version c.in-Ok-of.collection
    c.get_mut.follows.lender-at-none.entries c.self.inside.collections.entries
    c.insert.new.self.entries c.args.self.now c.insert.result same
    c.self.view_is c.self.invariant.rises (sym c.in_default.ensures.value) c.in-Ok-of.ensures.ok
    c.insert.ensures.entries in
    search (new, rules)
