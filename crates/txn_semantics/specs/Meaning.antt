-- What a statement means: its reply and its writes over one list of rows, rising by id; or its
-- refusal.
use Rattle.std.specs.Prelude.{ℕ, ◌-◌, ◌^◌, List, [], Result, Ok, Err, map, length, min}
use Rattle.std.specs.Str.{bytes_eq}
use Rattle.txn_types.specs.Limits.{most_found}
use Rattle.bson_core.specs.Spelling.{spelling}
use Rattle.txn_types.specs.Ids.{id_in}
use Rattle.txn_types.specs.declared.operation.Op.{Op}
use Rattle.txn_types.specs.declared.operation.Op.TheVariants.{Insert, Find, Update, Delete}
use Rattle.txn_types.specs.declared.operation.OpReply.{OpReply}
use Rattle.txn_types.specs.declared.operation.OpReply.TheVariants.{Count, Rows}
use Rattle.txn_types.specs.declared.operation.OpErr.{OpErr}
use Rattle.txn_types.specs.declared.write.Write.{Write}
use Rattle.txn_types.specs.declared.write.Write.TheVariants.{Put, Delete as Removed}
use Rattle.txn_semantics.specs.Rows.{Row, laid_over}
use Rattle.txn_semantics.specs.Filters.{matches}
use Rattle.txn_semantics.specs.Updates.{apply}
use Rattle.txn_semantics.specs.Effect.{DocumentRules, Done, Doing, through, insert_step}
use Rattle.txn_semantics.specs.Effect.{update_step, delete_step, without}
use Rattle.txn_semantics.specs.Found.{Found, found}

abbrev pub Meaning : Type 0
Meaning = Result (OpReply × List Write) OpErr

-- counts stand still at 2^63 - 1
abbrev pub capped : ℕ → ℕ
capped n = min n (2 ^ 63 - 1)

-- one write for each id that some item wrote, with its last content, rising by id
abbrev pub meaning_of : (Done → OpReply) → (Row → Write) → Doing → Meaning
meaning_of reply write (Ok done) = Ok (reply done, map write (laid_over [] done.changed))
meaning_of reply write (Err e) = Err e

abbrev pub put_of : List ℕ → Row → Write
put_of ns row = Put ns row.0 row.1

abbrev pub removed_of : List ℕ → Row → Write
removed_of ns row = Removed ns row.0

-- how many documents the items met
abbrev pub count_met : Done → OpReply
count_met done = Count (capped (length done.met)) 0

-- and how many of them got other bytes
abbrev pub count_both : Done → OpReply
count_both done = Count (capped (length done.met)) (capped (length done.changed))

abbrev pub rows_of : Found → OpReply
rows_of found = Rows found.0 found.1

-- the documents of a find have at most 16,000,000 bytes
abbrev pub eval_by : DocumentRules → Op → List Row → Meaning
eval_by w (Insert ns items) rows =
    meaning_of count_met (put_of ns) (through (insert_step w) laid_over items rows)
eval_by w (Find ns wanted down limit) rows =
    Ok (rows_of (found w most_found wanted down limit rows), [])
eval_by w (Update ns items) rows =
    meaning_of count_both (put_of ns) (through (update_step w) laid_over items rows)
eval_by w (Delete ns items) rows =
    meaning_of count_met (removed_of ns) (through (delete_step w) without items rows)

abbrev pub document_rules : DocumentRules
document_rules = record {
  matches = matches;
  apply = apply;
  same = λ a b. bytes_eq (spelling a) (spelling b);
  size = λ doc. length (spelling doc);
  id_in = id_in;
}

-- the meaning of an operation over rows
abbrev pub eval : Op → List Row → Meaning
eval op rows = eval_by document_rules op rows

-- what is told of a meaning
abbrev pub reply_of : Meaning → Result OpReply OpErr
reply_of (Ok m) = Ok m.0
reply_of (Err e) = Err e

-- the writes of a meaning, none where it was refused
abbrev pub writes_of : Meaning → List Write
writes_of (Ok m) = m.1
writes_of (Err e) = []

-- the namespace of an operation
abbrev pub ns_of : Op → List ℕ
ns_of (Insert ns items) = ns
ns_of (Find ns wanted down limit) = ns
ns_of (Update ns items) = ns
ns_of (Delete ns items) = ns
