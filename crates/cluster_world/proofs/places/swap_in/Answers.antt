use Rattle.std.proofs.Common.{◌≡◌, Some, ap, sym, ◌∙◌, insert, slice_get}
use Rattle.std.proofs.lemmas.Option.{slice_get-get_or}
use Rattle.cluster_world.proofs.Set.{insert_removed}
use Rattle.cluster_world.proofs.places.swap_in.Goals as goal

pub returns-in-Ok-clause-ok : goal.returns-in-Ok-clause-ok
returns-in-Ok-clause-ok g c =
    let got : slice_get c.args.list.now.items c.args.place ≡ Some c.remove.result =
    slice_get-get_or c.args.list.now.items c.args.place c.remove.result c.requires.within
    ∙ ap (λ x. Some x) (sym c.remove.ensures.value) in (
      c.remove.result,
      c.in-Ok.item,
      got,
      c.in-Ok.ensures,
      c.put_in.ensures ∙ ap (λ xs. insert xs c.args.place c.in-Ok.item) c.remove.ensures.items
          ∙ insert_removed c.args.list.now.items c.args.place c.in-Ok.item c.requires.within,
    )

pub returns-in-Err-clause-err : goal.returns-in-Err-clause-err
returns-in-Err-clause-err g c =
    let got : slice_get c.args.list.now.items c.args.place ≡ Some c.remove.result =
    slice_get-get_or c.args.list.now.items c.args.place c.remove.result c.requires.within
    ∙ ap (λ x. Some x) (sym c.remove.ensures.value) in
    (c.remove.result, got, c.in-Err.ensures, c.remove.ensures.items)
