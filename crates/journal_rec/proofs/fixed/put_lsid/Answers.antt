use Rattle.std.proofs.Common.{take, ap, sym, refl, ◌∙◌, ◌++◌, ◌∷◌, []}
use Rattle.txn_types.specs.declared.node.Lsid.{Lsid}
use Rattle.journal_rec.specs.Spelling.{lsid_bytes}
use Rattle.journal_rec.proofs.Fronts.{two_put, three_put}
use Rattle.journal_rec.proofs.fixed.put_lsid.Goals as goal

pub returns-in-Client-clause-front : goal.returns-in-Client-clause-front
unfolding lsid_bytes
returns-in-Client-clause-front c =
    let start = take c.args.at c.args.out.now in
    two_put start _ _ (0 ∷ []) _ (0 ∷ []) _ c.put-id.ensures.front c.put.ensures.front refl refl
    ∙ ap (λ (l : Lsid). start ++ lsid_bytes l) (sym c.in-Client.is)

pub returns-in-Own-clause-front : goal.returns-in-Own-clause-front
unfolding lsid_bytes
returns-in-Own-clause-front c =
    let start = take c.args.at c.args.out.now in
    let zeros = 0 ∷ 0 ∷ 0 ∷ 0 ∷ 0 ∷ 0 ∷ [] in
    three_put start _ _ _ (1 ∷ []) _ zeros (1 ∷ []) _ zeros c.put-own.ensures.front
    c.put_own-zeros.ensures.front c.put-in-Own.ensures.front refl refl refl
    ∙ ap (λ (l : Lsid). start ++ lsid_bytes l) (sym c.in-Own.is)
