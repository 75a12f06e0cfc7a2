-- What an item does to rows as they are held, and what the calls that do it give.
use Rattle.std.specs.Prelude.{◌≡◌, ℕ, Bool, true, false, List, [], ◌∷◌, ◌++◌, map, length}
use Rattle.std.specs.Prelude.{Option, Some, None, Result, Ok, Err, if◌then◌else◌}
use Rattle.bson_core.specs.Fields.{Document}
use Rattle.txn_types.specs.declared.filter.Filter.{Filter}
use Rattle.txn_types.specs.declared.id.Id.{Id}
use Rattle.txn_types.specs.declared.operation.InsertItem.{InsertItem}
use Rattle.txn_types.specs.declared.operation.OpErr.{OpErr}
use Rattle.txn_types.specs.declared.operation.OpReply.{OpReply}
use Rattle.txn_types.specs.declared.operation.UpdateItem.{UpdateItem}
use Rattle.txn_types.specs.declared.write.Write.{Write}
use Rattle.txn_semantics.specs.Effect.{AreKnown, Done, Doing, insert_step, updated}
use Rattle.txn_semantics.specs.Filters.{matches}
use Rattle.txn_semantics.specs.Meaning.{Meaning, document_rules}
use Rattle.txn_semantics.specs.Rows.{Row, IsRising, laid_over}
use Rattle.query_eval.specs.Held.{doc_in, rows_in, all_written}
use Rattle.query_eval.specs.declared.error.EvalErr.{EvalErr}
use Rattle.query_eval.specs.declared.error.EvalErr.TheVariants.{Op, Memory}
use Rattle.query_eval.specs.declared.evaluating.Met.{Met}
use Rattle.query_eval.specs.declared.held.Held.{Held}
use Rattle.query_eval.specs.declared.held.Held.TheVariants.{Own, Nothing}

-- the error is this refusal, or out of memory
abbrev pub IsRefusal : EvalErr → OpErr → Type 0
IsRefusal (Op e) refusal = e ≡ refusal
IsRefusal Memory refusal = Unit {0}

-- what is done with a row that is met: it gets a new document, or none
abbrev pub change_of : Row → Option Document → Done
change_of row None = record { met = row ∷ []; changed = [] }
change_of row (Some doc) = record { met = row ∷ []; changed = (row.0, doc) ∷ [] }

-- the error tells why the definition refuses; out of memory says nothing of it
abbrev pub Refuses : {A : Type 0} → EvalErr → Result A OpErr → Type 0
Refuses (Op e) means = means ≡ Err e
Refuses Memory means = Unit {0}

abbrev pub Makes : Row → Result (Option Document) EvalErr → Doing → Type 0
Makes row (Ok new) doing = doing ≡ Ok (change_of row new)
Makes row (Err e) doing = Refuses e doing

-- the document of a row that the filter wants
abbrev pub wanted_in : Filter → Held → Option Document
wanted_in filter held =
    elim (doc_in held) [ None ↦ None | Some doc ↦ if matches filter doc then Some doc else None ]

-- the row with its new document, where it has one
abbrev pub with_change : Id × Held → Option Document → Id × Held
with_change row None = row
with_change row (Some doc) = (row.0, Own doc)

abbrev pub count_of : Option Document → ℕ
count_of None = 0
count_of (Some doc) = 1

-- an item came to a row: it didn't want it, or met and perhaps changed it
pub record Changed (item : UpdateItem) (old new : Id × Held) (count : ℕ) : Type 0 where
  pub doc : Document
  pub change : Option Document
  pub is_wanted : wanted_in item.filter old.1 ≡ Some doc
  pub does : updated document_rules item (old.0, doc) ≡ Ok (change_of (old.0, doc) change)
  pub now : new ≡ with_change old change
  pub counted : count ≡ count_of change

pub record Refused (item : UpdateItem) (old : Id × Held) (e : EvalErr) : Type 0 where
  pub doc : Document
  pub is_wanted : wanted_in item.filter old.1 ≡ Some doc
  pub refuses : Refuses e (updated document_rules item (old.0, doc))

abbrev pub Changes : UpdateItem → Id × Held → Id × Held → Result (Option ℕ) EvalErr → Type 0
Changes item old new (Ok None) = (wanted_in item.filter old.1 ≡ None) × (new ≡ old)
Changes item old new (Ok (Some count)) = Changed item old new count
Changes item old new (Err e) = Refused item old e

-- a row that the filter wants is taken away
abbrev pub Drops : Filter → Id × Held → Id × Held → Bool → Type 0
Drops filter old new true = (doc : Document) × (wanted_in filter old.1 ≡ Some doc)
    × (new ≡ (old.0, Nothing))
Drops filter old new false = (wanted_in filter old.1 ≡ None) × (new ≡ old)

-- What was done to rows: each row that was changed has its content, and the others are as they
-- were.
pub record Follows (content : Document → Option Document) (left : List Row → List Row → List Row)
    (before : List (Id × Held)) (done : Done) (after : List (Id × Held)) : Type 0 where
  pub rows : rows_in after ≡ left (rows_in before) done.changed
  pub written : all_written after
      ≡ laid_over (all_written before) (map (λ row. (row.0, content row.1)) done.changed)
  pub rising : IsRising after
  pub known : AreKnown document_rules (rows_in after)

-- of an update, and of a delete
abbrev pub put_content : Document → Option Document
put_content doc = Some doc

abbrev pub no_content : Document → Option Document
no_content doc = None

-- an item was done, or refused
pub record Acted (content : Document → Option Document) (left : List Row → List Row → List Row)
    (doing : Doing) (before after : List (Id × Held)) (met : Met) : Type 0 where
  pub done : Done
  pub does : doing ≡ Ok done
  pub follows : Follows content left before done after
  pub n : met.n ≡ length done.met
  pub changed : met.changed ≡ length done.changed

abbrev pub Acts : (Document → Option Document) → (List Row → List Row → List Row) → Doing
    → List (Id × Held) → List (Id × Held) → Result Met EvalErr → Type 0
Acts content left doing before after (Ok met) = Acted content left doing before after met
Acts content left doing before after (Err e) = Refuses e doing

-- An item of an insert came to rows and to what items before it added: it added its document, where
-- that has an id.
pub record Inserted (item : InsertItem) (rows added after : List Row) (count : ℕ) : Type 0 where
  pub done : Done
  pub does : insert_step document_rules item (rows ++ added) ≡ Ok done
  pub after_is : after ≡ laid_over added done.changed
  pub known : AreKnown document_rules done.changed
  pub count_is : count ≡ length done.met

abbrev pub Inserts : InsertItem → List Row → List Row → List Row → Result ℕ EvalErr → Type 0
Inserts item rows added after (Ok count) = Inserted item rows added after count
Inserts item rows added after (Err e) = Refuses e (insert_step document_rules item (rows ++ added))

-- what an operation gives: its meaning, or out of memory
abbrev pub Means : Result (OpReply × List Write) EvalErr → Meaning → Type 0
Means (Ok m) meaning = meaning ≡ Ok m
Means (Err e) meaning = Refuses e meaning
