use Rattle.std.proofs.Common.{◌≡◌, Option, Some, None, refl, sym, ◌∙◌, ap, is_some, Bor}
use Rattle.std.specs.Option.{option_copied}
use Rattle.query_eval.specs.Held.{doc_in}
use Rattle.query_eval.proofs.Placed.{holds_there, holds_between}
use Rattle.query_eval.proofs.held.holds.Goals as goal

some_copied : {X : Type 0} (o : Option (Bor X)) → is_some o ≡ is_some (option_copied o)
some_copied None = refl
some_copied (Some x) = refl

pub returns-in-Ok : goal.returns-in-Ok
returns-in-Ok c =
    c.is_some.ensures ∙ some_copied c.doc.result ∙ ap is_some c.doc.ensures
    ∙ sym (holds_there doc_in c.args.id.now c.args.rows.now c.in-Ok.at c.index-rows-at.result
    c.requires c.in-Ok.ensures.within c.in-Ok.ensures.there)

pub returns-in-Err : goal.returns-in-Err
returns-in-Err c = sym (holds_between doc_in c.args.id.now c.args.rows.now c.in-Err._at
    c.in-Err.ensures.within c.in-Err.ensures.between)
