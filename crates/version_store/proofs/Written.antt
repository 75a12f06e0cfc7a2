-- The keys of a transaction, namespace by namespace.
use Rattle.std.proofs.Common.{◌≡◌, ℕ, List, ◌∷◌, ◌++◌, append_assoc, map, option_map, find, ap, sym}
use Rattle.std.proofs.Common.{◌∙◌}
use Rattle.std.proofs.lemmas.List.{map-append}
use Rattle.std.proofs.lemmas.List.Elements.{filter_map-append}
use Rattle.txn_types.specs.declared.names.Tag.{Tag}
use Rattle.txn_semantics.specs.Writes.{Place}
use Rattle.version_store.specs.Versions.{Versions, is_of, keys_of, written_by}
use Rattle.version_store.specs.Collections.{Documents}
use Rattle.version_store.specs.Nested.{under_first, flattened}
use Rattle.version_store.proofs.Groups.{Groups}

keys_append : (tag : Tag) (xs ys : Versions)
    → keys_of tag (xs ++ ys) ≡ keys_of tag xs ++ keys_of tag ys
keys_append tag xs ys =
    ap (map (λ key. key.0)) (filter_map-append
    (λ key. option_map (λ version. (key.0, version.doc)) (find (is_of tag) key.1)) xs ys)
    ∙ map-append (λ key. key.0) (written_by tag xs) (written_by tag ys)

pub keys_on : (tag : Tag) (old new all : List Place) (group : List ℕ × Documents) (left now :
    Groups) → now ≡ group ∷ left → new ≡ old ++ keys_of tag (under_first group.0 group.1)
    → old ++ keys_of tag (flattened now) ≡ all
    → new ++ keys_of tag (flattened left) ≡ all
keys_on tag old new all group left now here is so_far =
    ap (λ (keys : List Place). keys ++ keys_of tag (flattened left)) is
    ∙ append_assoc old (keys_of tag (under_first group.0 group.1)) (keys_of tag (flattened left))
    ∙ ap (λ (keys : List Place). old ++ keys)
    (sym (keys_append tag (under_first group.0 group.1) (flattened left)))
    ∙ ap (λ (groups : Groups). old ++ keys_of tag (flattened groups)) (sym here)
    ∙ so_far
