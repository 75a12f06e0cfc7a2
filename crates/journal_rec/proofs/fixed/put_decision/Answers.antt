use Rattle.std.proofs.Common.{ℕ, List, take, ap, sym, refl, ◌∙◌, ◌++◌, ◌∷◌, []}
use Rattle.std.specs.Int.{w16, w64, to_le_bytes}
use Rattle.txn_types.specs.declared.decision.Decision.{Decision}
use Rattle.journal_rec.specs.Spelling.{decision_bytes}
use Rattle.journal_rec.proofs.Fronts.{three_put}
use Rattle.journal_rec.proofs.fixed.put_decision.Goals as goal

pub returns-in-Commit-clause-front : goal.returns-in-Commit-clause-front
unfolding decision_bytes
returns-in-Commit-clause-front c =
    let start = take c.args.at c.args.out.now in
    let zeros : List ℕ = 0 ∷ 0 ∷ 0 ∷ [] in
    let first : List ℕ = 1 ∷ [] in
    three_put start _ _ _ first c.to_le_bytes.result zeros first
    (to_le_bytes w64 c.in-Commit.at_time) zeros c.put-time.ensures.front
    c.put-zeros.ensures.front c.put.ensures.front refl
    (c.to_le_bytes.ensures ∙ ap (λ (n : ℕ). to_le_bytes w64 n) c.at_time.view_is) refl
    ∙ ap (λ (d : Decision). start ++ decision_bytes d) (sym c.in-Commit.is)

pub returns-in-Abort-clause-front : goal.returns-in-Abort-clause-front
unfolding decision_bytes
returns-in-Abort-clause-front c =
    let start = take c.args.at c.args.out.now in
    let first : List ℕ = 2 ∷ 0 ∷ 0 ∷ 0 ∷ 0 ∷ 0 ∷ 0 ∷ 0 ∷ 0 ∷ [] in
    let last : List ℕ = c.in-Abort.code ∷ [] in
    three_put start _ _ _ first c.to_le_bytes-in-Abort.result last first
    (to_le_bytes w16 c.in-Abort.shard) last c.put-number.ensures.front c.put-last.ensures.front
    c.put-in-Abort.ensures.front refl c.to_le_bytes-in-Abort.ensures refl
    ∙ ap (λ (d : Decision). start ++ decision_bytes d) (sym c.in-Abort.is)
