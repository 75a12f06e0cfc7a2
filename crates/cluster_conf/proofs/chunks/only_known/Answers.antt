use Rattle.std.proofs.Common.{◌≡◌, true, refl, ◌∷◌, sym, ◌∙◌, arith}
use Rattle.std.specs.List.{list_any}
use Rattle.std.specs.Str.{bytes_eq}
use Rattle.std.specs.Prelude.{string_bytes}
use Rattle.std.proofs.lemmas.Grind.{common_steps}
use Rattle.toml.proofs.Views.{Entry}
use Rattle.cluster_conf.specs.Conf.{row_keys}
use Rattle.cluster_conf.proofs.chunks.only_known.Goals as goal

pub members-preserved : goal.members-preserved
members-preserved c =
    let (can, finite, same) = c.members.invariant in
    let e : Entry = (c.in-Some.key.now, c.in-Some._value.now) in
    let iter : c.members.key-iterator ≡ e ∷ c.next.new.self = grind (arith, common_steps) in
    let known : list_any (bytes_eq (string_bytes e.0)) row_keys ≡ true =
    grind (arith, common_steps) in
    (tt, tt, sym (rw (iter, known) refl) ∙ same)
