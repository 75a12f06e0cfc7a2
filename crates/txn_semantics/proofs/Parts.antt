-- The laws of laying at rows, whose keys are ids.
use Rattle.std.proofs.Common.{◌≡◌, Bool, true, false, cond, List, ◌∷◌}
use Rattle.std.specs.declared.cmp.Ordering.TheVariants.{Less}
use Rattle.txn_types.specs.declared.id.Id.{Id}
use Rattle.txn_types.specs.Order.{id_cmp}
use Rattle.txn_types.proofs.Orders.{id_total, id_exact}
use Rattle.txn_semantics.specs.Keyed as keyed
use Rattle.txn_semantics.specs.Rows.{IsRising, put_row, delete_row, laid_over, at}
use Rattle.txn_semantics.proofs.Laying as laying

abbrev pub AllAbove : {A : Type 0} → Id → List (Id × A) → Type 0
AllAbove id rows = keyed.AllAbove id_cmp id rows

pub above_trans : {A : Type 0} (low id : Id) (rows : List (Id × A)) → id_cmp low id ≡ Less
    → AllAbove id rows → AllAbove low rows
above_trans = laying.above_trans id_cmp id_total id_exact

pub above_at : {A : Type 0} (p : Id → Bool) (id : Id) (rows : List (Id × A)) → AllAbove id rows
    → AllAbove id (at p rows)
above_at = laying.above_at id_cmp id_total id_exact

pub rising_at : {A : Type 0} (p : Id → Bool) (rows : List (Id × A)) → IsRising rows
    → IsRising (at p rows)
rising_at = laying.rises_at id_cmp id_total id_exact

pub put_first : {A : Type 0} (id : Id) (a : A) (rows : List (Id × A)) → AllAbove id rows
    → put_row id a rows ≡ (id, a) ∷ rows
put_first = laying.put_first id_cmp id_total id_exact

pub above_put : {A : Type 0} (low id : Id) (a : A) (rows : List (Id × A)) → id_cmp low id ≡ Less
    → AllAbove low rows → AllAbove low (put_row id a rows)
above_put = laying.above_put id_cmp id_total id_exact

pub rising_put : {A : Type 0} (id : Id) (a : A) (rows : List (Id × A)) → IsRising rows
    → IsRising (put_row id a rows)
rising_put = laying.rises_put id_cmp id_total id_exact

pub rising_laid : {A : Type 0} (rows others : List (Id × A)) → IsRising rows
    → IsRising (laid_over rows others)
rising_laid = laying.rises_laid id_cmp id_total id_exact

pub rising_taken_out : {A : Type 0} (id : Id) (rows : List (Id × A)) → IsRising rows
    → IsRising (delete_row id rows)
rising_taken_out = laying.rises_taken_out id_cmp id_total id_exact

pub at-put_in : {A : Type 0} (p : Id → Bool) (id : Id) (a : A) (rows : List (Id × A)) → p id ≡ true
    → IsRising rows → at p (put_row id a rows) ≡ put_row id a (at p rows)
at-put_in = laying.at-put_in id_cmp id_total id_exact

pub at-put_out : {A : Type 0} (p : Id → Bool) (id : Id) (a : A) (rows : List (Id × A))
    → p id ≡ false → at p (put_row id a rows) ≡ at p rows
at-put_out = laying.at-put_out id_cmp id_total id_exact

pub at-taken_in : {A : Type 0} (p : Id → Bool) (id : Id) (rows : List (Id × A)) → p id ≡ true
    → IsRising rows → at p (delete_row id rows) ≡ delete_row id (at p rows)
at-taken_in = laying.at-taken_in id_cmp id_total id_exact

pub at-taken_past : {A : Type 0} (p : Id → Bool) (id : Id) (rows : List (Id × A)) → p id ≡ false
    → at p (delete_row id rows) ≡ at p rows
at-taken_past = laying.at-taken_past id_cmp id_total id_exact

-- the part of what is laid is the part laid over the part
pub at-laid : {A : Type 0} (p : Id → Bool) (rows others : List (Id × A)) → IsRising rows
    → at p (laid_over rows others) ≡ laid_over (at p rows) (at p others)
at-laid = laying.at-laid id_cmp id_total id_exact

pub laid_behind : {A : Type 0} (row : Id × A) (rows others : List (Id × A)) → AllAbove row.0 others
    → laid_over (row ∷ rows) others ≡ row ∷ laid_over rows others
laid_behind = laying.laid_behind id_cmp id_total id_exact

pub join_two : {A : Type 0} (p q : Id → Bool) (rows : List (Id × A)) → IsRising rows
    → laid_over (at p rows) (at q rows) ≡ at (λ id. cond (p id) true (q id)) rows
join_two = laying.join_two id_cmp id_total id_exact
