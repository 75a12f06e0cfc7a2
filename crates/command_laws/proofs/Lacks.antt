-- A refusal for what is missing comes only where no field is refused.
use Rattle.std.proofs.Common.{◌≡◌, ℕ, zero, suc, Bool, true, false, List, [], ◌∷◌, Option, Some}
use Rattle.std.proofs.Common.{None, is_some, Result, Ok, Err, refl, ap, subst, ◌∙◌, codes}
use Rattle.std.proofs.Common.{if◌then◌else◌}
use Rattle.std.specs.Prelude.{◌&&◌, nat_le, length}
use Rattle.std.specs.Option.{option_or, option_and_then}
use Rattle.std.specs.Str.{bytes_eq}
use Rattle.outcomes.specs.Bind.{◌>>=◌}
use Rattle.bson_core.specs.declared.value.Value.{Value}
use Rattle.bson_core.specs.declared.value.Value.TheOpen as of
use Rattle.bson_core.specs.declared.value.Value.TheOpen.{Value-F}
use Rattle.bson_core.specs.declared.value.Value.TheViews.{out-Value}
use Rattle.bson_core.specs.Fields.{Document, value_of}
use Rattle.bson_core.specs.Spelling.{spelling}
use Rattle.bson_core.specs.Nesting.{nesting}
use Rattle.op_msg.specs.declared.frame.Frame.{Frame}
use Rattle.txn_types.specs.Ids.{id_name, id_of}
use Rattle.txn_types.specs.Names.{is_database, is_collection}
use Rattle.txn_types.specs.declared.update.UpdateKind.{UpdateKind}
use Rattle.txn_types.specs.declared.update.UpdateKind.TheVariants.{Set, Unset, Inc}
use Rattle.crud_parse.specs.declared.error.CrudErr.{CrudErr}
use Rattle.crud_parse.specs.declared.error.CrudErr.TheVariants as refusal
use Rattle.crud_parse.specs.declared.operators.Junction.{Junction}
use Rattle.crud_parse.specs.declared.operators.Operator.{Operator}
use Rattle.crud_parse.specs.declared.operators.Operator.TheVariants as asks
use Rattle.crud_parse.specs.Results.{each, each_of}
use Rattle.crud_parse.specs.Names.{begins_with_dollar, has_full_stop, begins_with_operator}
use Rattle.crud_parse.specs.Operators.{junction_of, operator_of, kind_of}
use Rattle.crud_parse.specs.Filters.{list_in, flag_in, asked, condition, operators_in, meets}
use Rattle.crud_parse.specs.Filters.{are_documents, Reader, inner_by, filters_by, named_by}
use Rattle.crud_parse.specs.Filters.{element_by, filter_by, filter_at, filter_of}
use Rattle.crud_parse.specs.Updates.{is_number, value_for, field_op, ops_in, ops_of, update_in}
use Rattle.crud_parse.specs.Updates.{update_of}
use Rattle.command_parse.specs.declared.command.Command.{Command}
use Rattle.command_parse.specs.declared.command.Command.TheVariants as command
use Rattle.command_parse.specs.declared.command.Statement.{Statement}
use Rattle.command_parse.specs.declared.rules.Batch.{Batch}
use Rattle.command_parse.specs.declared.rules.Batch.TheVariants.{Documents, Changes}
use Rattle.command_parse.specs.declared.rules.Change.{Change}
use Rattle.command_parse.specs.declared.rules.Rule.{Rule}
use Rattle.command_parse.specs.declared.rules.Rule.TheVariants as rule
use Rattle.command_parse.specs.declared.rules.ItemRule.{ItemRule}
use Rattle.command_parse.specs.declared.rules.ItemRule.TheVariants as item
use Rattle.command_parse.specs.Commands.{list_name, item_rule, rule_of}
use Rattle.command_parse.specs.Values.{number_in, document_in, text_where, falls_in, limit_in}
use Rattle.command_parse.specs.Values.{is_zero, all_in, no_upsert_in, session_id, session_in}
use Rattle.command_parse.specs.Values.{time_in, gossip_time, gossip_in, is_text, above_zero}
use Rattle.command_parse.specs.Values.{concern_field, concern_in, is_uuid, sessions_in}
use Rattle.command_parse.specs.Checks.{Checked, behind, check_each, complete, or_wrong, firsts}
use Rattle.command_parse.specs.Checks.{lacking, present}
use Rattle.command_parse.specs.Items.{Given, InBody, InSection, documents_in, of_batch_size}
use Rattle.command_parse.specs.Items.{batch_in, id_check, document_check, item_field_by}
use Rattle.command_parse.specs.Items.{item_field_check, replaces_many, change_check, item_check}
use Rattle.command_parse.specs.Items.{batch_check}
use Rattle.command_parse.specs.Operations.{Field, fields_of, value_check, section_check, field_by}
use Rattle.command_parse.specs.Operations.{field_checked, field_check, given_in, needed, checked}
use Rattle.command_parse.specs.Operations.{namespace_in, built, op_of}
use Rattle.client_cmd.specs.declared.request.Request.{Request}
use Rattle.client_cmd.specs.declared.error.CmdErr.{CmdErr}
use Rattle.client_cmd.specs.declared.error.CmdErr.TheVariants as why
use Rattle.client_cmd.specs.Errors.{from_parsing}
use Rattle.client_cmd.specs.Commands.{as_command, is_served, served, first_name, command_in}
use Rattle.client_cmd.specs.Commands.{is_unacknowledged, is_retried, time_ahead, not_ahead}
use Rattle.client_cmd.specs.Commands.{refused_where, request_by, request_of}
use Rattle.client_cmd.specs.Commands as client
use Rattle.command_parse.specs.Commands.{command_named}
use Rattle.command_laws.specs.Missing.{ArePassed, IsElseRight}
use Rattle.command_laws.proofs.Alike.{asked_as}

-- a result that is no refusal for what is missing
abbrev Never : {A : Type 0} → Result A CrudErr → Type 0
Never (Ok x) = Unit {0}
Never (Err (refusal.Missing name)) = ⊥
Never (Err e) = Unit {0}

bound : {A B : Type 0} (r : Result A CrudErr) (f : A → Result B CrudErr) → Never r
    → ((x : A) → Never (f x)) → Never (r >>= f)
bound (Ok x) f h next = next x
bound (Err (refusal.Missing name)) f h next = h
bound (Err refusal.Memory) f h next = tt
bound (Err (refusal.UnknownOperator name)) f h next = tt
bound (Err (refusal.DottedName name)) f h next = tt
bound (Err (refusal.WrongKind name)) f h next = tt
bound (Err (refusal.UnknownField name)) f h next = tt

wrong : {A : Type 0} (name : List ℕ) (o : Option A) → Never (or_wrong name o)
wrong name None = tt
wrong name (Some x) = tt

-- either of two
either : {A : Type 0} (b : Bool) (x y : Result A CrudErr) → Never x → Never y
    → Never (if b then x else y)
either true x y h k = h
either false x y h k = k

each_never : {A B : Type 0} (read : A → Result B CrudErr) (xs : List A) → ((x : A) → Never (read x))
    → Never (each read xs)
each_never read [] h = tt
each_never read (x ∷ xs) h =
    bound (read x) _ (h x) (λ y. bound (each read xs) _ (each_never read xs h) (λ ys. tt))

each_of_never : {A B : Type 0} (read : A → Result (List B) CrudErr) (xs : List A)
    → ((x : A) → Never (read x)) → Never (each_of read xs)
each_of_never read [] h = tt
each_of_never read (x ∷ xs) h =
    bound (read x) _ (h x) (λ ys. bound (each_of read xs) _ (each_of_never read xs h) (λ zs. tt))

-- Filters.

list_never : (name : List ℕ) (x : Value-F Value) → Never (list_in name x)
list_never name (of.List values) = tt
list_never name x = tt

flag_never : (name : List ℕ) (x : Value-F Value) → Never (flag_in name x)
flag_never name (of.Bool b) = tt
flag_never name x = tt

asked_never : (field name : List ℕ) (value : Value) (o : Option Operator)
    → Never (asked field name value o)
asked_never field name value None = tt
asked_never field name value (Some (asks.Compare cmp)) = tt
asked_never field name value (Some asks.In) =
    bound (list_in name (out-Value value)) _ (list_never name (out-Value value)) (λ values. tt)
asked_never field name value (Some asks.Nin) =
    bound (list_in name (out-Value value)) _ (list_never name (out-Value value)) (λ values. tt)
asked_never field name value (Some asks.Exists) =
    bound (flag_in name (out-Value value)) _ (flag_never name (out-Value value)) (λ yes. tt)

meets_never : (field : List ℕ) (value : Value) (o : Option Document) → Never (meets field value o)
meets_never field value (Some operators) =
    bound (each (condition field) operators) _ (each_never (condition field) operators
    (λ operator. asked_never field operator.0 operator.1 (operator_of operator.0))) (λ filters. tt)
meets_never field value None = tt

inner_never : (read : Reader) → ((doc : Document) → Never (read doc))
    → (name : List ℕ) (x : Value-F Value) → Never (inner_by read name x)
inner_never read h name (of.Doc fields) = h fields
inner_never read h name x = tt

filters_never : (read : Reader) → ((doc : Document) → Never (read doc))
    → (name : List ℕ) (x : Value-F Value) → Never (filters_by read name x)
filters_never read h name (of.List values) =
    either (are_documents values) _ _ (each_never (λ value. inner_by read name (out-Value value))
    values (λ value. inner_never read h name (out-Value value))) tt
filters_never read h name x = tt

named_never : (read : Reader) → ((doc : Document) → Never (read doc))
    → (name : List ℕ) (value : Value) (o : Option Junction) → Never (named_by read name value o)
named_never read h name value (Some junction) = bound (filters_by read name (out-Value value)) _
    (filters_never read h name (out-Value value)) (λ filters. tt)
named_never read h name value None =
    either (begins_with_dollar name) _ _ tt (either (has_full_stop name) _ _ tt
    (meets_never name value (operators_in (out-Value value))))

filter_by_never : (read : Reader) → ((doc : Document) → Never (read doc)) → (doc : Document)
    → Never (filter_by read doc)
unfolding element_by
filter_by_never read h doc = bound (each (element_by read) doc) _ (each_never (element_by read) doc
    (λ element. named_never read h element.0 element.1 (junction_of element.0))) (λ filters. tt)

filter_at_never : (levels : ℕ) (doc : Document) → Never (filter_at levels doc)
unfolding filter_at
filter_at_never zero doc = tt
filter_at_never (suc levels) doc = filter_by_never (filter_at levels) (filter_at_never levels) doc

filter_never : (doc : Document) → Never (filter_of doc)
unfolding filter_of
filter_never doc = filter_at_never (nesting doc) doc

-- Updates.

value_never : (kind : UpdateKind) (name : List ℕ) (value : Value)
    → Never (value_for kind name value)
value_never Set name value = tt
value_never Unset name value = tt
value_never Inc name value = either (is_number (out-Value value)) _ _ tt tt

field_op_never : (kind : UpdateKind) (field : List ℕ × Value) → Never (field_op kind field)
field_op_never kind field = either (has_full_stop field.0) _ _ tt
    (bound (value_for kind field.0 field.1) _ (value_never kind field.0 field.1) (λ value. tt))

ops_never : (name : List ℕ) (o : Option UpdateKind) (x : Value-F Value) → Never (ops_in name o x)
ops_never name None x = tt
ops_never name (Some kind) (of.Doc fields) = each_never (field_op kind) fields (field_op_never kind)
ops_never name (Some kind) x = tt

update_never : (x : Value-F Value) → Never (update_in x)
update_never (of.Doc fields) =
    either (begins_with_operator fields) _ _ (bound (each_of ops_of fields) _ (each_of_never ops_of
    fields (λ operator. ops_never operator.0 (kind_of operator.0) (out-Value operator.1)))
    (λ ops. tt)) tt
update_never x = tt

-- Values of fields.

complete_never : {A : Type 0} (r : Result A CrudErr) → Never r → Never (complete r)
complete_never r h = bound r _ h (λ x. tt)

each_check : {A : Type 0} (check : A → Checked) (xs : List A) → ((x : A) → Never (check x))
    → Never (check_each check xs)
each_check check [] h = tt
each_check check (x ∷ xs) h = bound (check x) _ (h x) (λ missing.
    bound (check_each check xs) _ (each_check check xs h) (λ name. tt))

no_upsert_never : (name : List ℕ) (x : Value-F Value) → Never (no_upsert_in name x)
no_upsert_never name x =
    bound (flag_in name x) _ (flag_never name x) (λ upsert. either upsert _ _ tt tt)

session_id_never : (o : Option Value) → Never (session_id o)
session_id_never None = tt
session_id_never (Some value) = either (is_uuid (out-Value value)) _ _ tt tt

session_never : (name : List ℕ) (x : Value-F Value) → Never (session_in name x)
session_never name (of.Doc fields) = session_id_never (value_of (codes "id") fields)
session_never name x = tt

gossip_time_never : (o : Option Value) → Never (gossip_time o)
gossip_time_never None = tt
gossip_time_never (Some value) = complete_never (or_wrong (codes "clusterTime")
    (time_in (out-Value value))) (wrong (codes "clusterTime") (time_in (out-Value value)))

gossip_never : (name : List ℕ) (x : Value-F Value) → Never (gossip_in name x)
gossip_never name (of.Doc fields) = gossip_time_never (value_of (codes "clusterTime") fields)
gossip_never name x = tt

concern_field_never : (field : List ℕ × Value) → Never (concern_field field)
concern_field_never field =
    either (bytes_eq field.0 (codes "level")) _ _ (complete_never (or_wrong field.0
    (is_text (out-Value field.1))) (wrong field.0 (is_text (out-Value field.1))))
    (either (bytes_eq field.0 (codes "afterClusterTime")) _ _ (complete_never (or_wrong field.0
    (time_in (out-Value field.1))) (wrong field.0 (time_in (out-Value field.1))))
    (either (bytes_eq field.0 (codes "atClusterTime")) _ _ (complete_never
    (or_wrong field.0 (option_and_then above_zero (time_in (out-Value field.1))))
    (wrong field.0 (option_and_then above_zero (time_in (out-Value field.1))))) tt))

concern_never : (name : List ℕ) (x : Value-F Value) → Never (concern_in name x)
concern_never name (of.Doc fields) = each_check concern_field (firsts fields) concern_field_never
concern_never name x = tt

sessions_never : (name : List ℕ) (x : Value-F Value) → Never (sessions_in name x)
sessions_never name (of.List values) =
    either (nat_le 1 (length values) && nat_le (length values) 100000) _
    _ (each_check (λ value. session_in name (out-Value value)) values
    (λ value. session_never name (out-Value value))) tt
sessions_never name x = tt

-- Lists of documents.

documents_never : (name : List ℕ) (x : Value-F Value) → Never (documents_in name x)
documents_never name (of.List values) = each_never (λ value. or_wrong name
    (document_in (out-Value value))) values (λ value. wrong name (document_in (out-Value value)))
documents_never name x = tt

size_never : (name : List ℕ) (docs : List Document) → Never (of_batch_size name docs)
size_never name docs = either (nat_le 1 (length docs) && nat_le (length docs) 100000) _ _ tt tt

batch_never : (b : Batch) (given : Given) → Never (batch_in b given)
batch_never b (InBody value) = bound (documents_in (list_name b) (out-Value value)) _
    (documents_never (list_name b) (out-Value value)) (λ docs. size_never (list_name b) docs)
batch_never b (InSection docs) = size_never (list_name b) docs

id_never : (o : Option Value) → Never (id_check o)
id_never None = tt
id_never (Some value) = either (is_some (id_of value)) _ _ tt tt

document_never : (doc : Document) → Never (document_check doc)
document_never doc = bound (id_check (value_of id_name doc)) _ (id_never (value_of id_name doc))
    (λ missing. either (nat_le (length (spelling doc)) 16777216) _ _ tt tt)

item_field_never : (name : List ℕ) (value : Value) (o : Option ItemRule)
    → Never (item_field_by name value o)
item_field_never name value None = tt
item_field_never name value (Some item.Query) = complete_never (inner_by filter_of name
    (out-Value value)) (inner_never filter_of filter_never name (out-Value value))
item_field_never name value (Some item.Update) =
    complete_never (update_of value) (update_never (out-Value value))
item_field_never name value (Some item.Multi) =
    complete_never (flag_in name (out-Value value)) (flag_never name (out-Value value))
item_field_never name value (Some item.Upsert) =
    complete_never (no_upsert_in name (out-Value value)) (no_upsert_never name (out-Value value))
item_field_never name value (Some item.Limit) = complete_never (or_wrong name
    (all_in (out-Value value))) (wrong name (all_in (out-Value value)))

change_never : (change : Change) (doc : Document) → Never (change_check change doc)
change_never change doc =
    bound (check_each (item_field_check change) (firsts doc)) _ (each_check (item_field_check
    change) (firsts doc) (λ field. item_field_never field.0 field.1 (item_rule change field.0)))
    (λ inside. either (replaces_many doc) _ _ tt tt)

item_never : (b : Batch) (doc : Document) → Never (item_check b doc)
item_never Documents doc = document_never doc
item_never (Changes change) doc = change_never change doc

batch_check_never : (b : Batch) (given : Given) → Never (batch_check b given)
batch_check_never b given = bound (batch_in b given) _ (batch_never b given) (λ docs.
    each_check (item_check b) docs (item_never b))

-- Fields.

value_check_never : (r : Rule) (name : List ℕ) (value : Value) → Never (value_check r name value)
value_check_never rule.Ignored name value = tt
value_check_never rule.Collection name value =
    complete_never (or_wrong name (text_where is_collection (out-Value value))) (wrong name
    (text_where is_collection (out-Value value)))
value_check_never rule.Database name value = complete_never (or_wrong name (text_where is_database
    (out-Value value))) (wrong name (text_where is_database (out-Value value)))
value_check_never rule.Session name value = session_never name (out-Value value)
value_check_never rule.Document name value = complete_never (or_wrong name
    (document_in (out-Value value))) (wrong name (document_in (out-Value value)))
value_check_never rule.Filter name value = complete_never (inner_by filter_of name
    (out-Value value)) (inner_never filter_of filter_never name (out-Value value))
value_check_never rule.Sort name value = complete_never (or_wrong name (falls_in (out-Value value)))
    (wrong name (falls_in (out-Value value)))
value_check_never rule.Limit name value = complete_never (or_wrong name
    (limit_in (out-Value value))) (wrong name (limit_in (out-Value value)))
value_check_never rule.Skip name value = either (is_zero (out-Value value)) _ _ tt tt
value_check_never (rule.Batch batch) name value = batch_check_never batch (InBody value)
value_check_never rule.Number name value = complete_never (or_wrong name
    (number_in (out-Value value))) (wrong name (number_in (out-Value value)))
value_check_never rule.Flag name value =
    complete_never (flag_in name (out-Value value)) (flag_never name (out-Value value))
value_check_never rule.Clear name value =
    complete_never (no_upsert_in name (out-Value value)) (no_upsert_never name (out-Value value))
value_check_never rule.ClusterTime name value = gossip_never name (out-Value value)
value_check_never rule.Concern name value = concern_never name (out-Value value)
value_check_never rule.Sessions name value = sessions_never name (out-Value value)

section_never : (r : Rule) (name : List ℕ) (docs : List Document)
    → Never (section_check r name docs)
section_never (rule.Batch batch) name docs = batch_check_never batch (InSection docs)
section_never other name docs = tt

field_by_never : (name : List ℕ) (given : Given) (o : Option Rule) → Never (field_by name given o)
field_by_never name given None = tt
field_by_never name (InBody value) (Some r) = value_check_never r name value
field_by_never name (InSection docs) (Some r) = section_never r name docs

field_never : (c : Command) (name : List ℕ) (given : Given) → Never (field_checked c name given)
field_never (command.Hello old_name) name (InSection docs) = tt
field_never (command.Hello old_name) name (InBody value) =
    field_by_never name (InBody value) (rule_of (command.Hello old_name) name)
field_never command.Ping name given = field_by_never name given (rule_of command.Ping name)
field_never (command.Statement s) name given =
    field_by_never name given (rule_of (command.Statement s) name)
field_never command.Commit name given = field_by_never name given (rule_of command.Commit name)
field_never command.Abort name given = field_by_never name given (rule_of command.Abort name)
field_never command.EndSessions name given =
    field_by_never name given (rule_of command.EndSessions name)

fields_never : (c : Command) (fields : List Field) → Never (check_each (field_check c) fields)
fields_never c fields = each_check (field_check c) fields (λ field. field_never c field.0 field.1)

-- Commands.

found : {A B : Type 0} (r : Result A CrudErr) (f : A → Result B CrudErr) (y : B) → (r >>= f) ≡ Ok y
    → (x : A) × (r ≡ Ok x) × (f x ≡ Ok y)
found (Ok x) f y e = (x, refl, e)
found (Err d) f y e = absurd cc

each_passed : (c : Command) (fields : List Field) (missing : Option (List ℕ))
    → check_each (field_check c) fields ≡ Ok missing → ArePassed c fields
each_passed c [] missing is = tt
each_passed c (field ∷ fields) missing is =
    let one = found (field_check c field) (λ first.
    behind first (check_each (field_check c) fields)) missing is in
    let more = found (check_each (field_check c) fields) (λ name.
    Ok (option_or one.0 name)) missing one.2 in
    ((one.0, one.1), each_passed c fields more.0 more.1)

checked_case : (c : Command) (fields : List Field) (r : Checked) (lacks : Option (List ℕ))
    (name : List ℕ) → check_each (field_check c) fields ≡ r → Never r
    → (r >>= λ inside. present (option_or inside lacks)) ≡ Err (refusal.Missing name)
    → ArePassed c fields
checked_case c fields (Ok missing) lacks name is never told = each_passed c fields missing is
checked_case c fields (Err e) lacks name is never told = absurd (let missing : e ≡ refusal.Missing
    name = cc in subst (λ (d : CrudErr). Never {A = Option (List ℕ)} (Err d)) missing never)

checked_passed : (c : Command) (frame : Frame) (name : List ℕ)
    → checked c frame ≡ Err (refusal.Missing name) → ArePassed c (firsts (fields_of frame))
unfolding checked
checked_passed c frame name told =
    checked_case c (firsts (fields_of frame)) (check_each (field_check c)
    (firsts (fields_of frame))) (lacking (λ name. is_some (given_in name frame))
    (needed c frame)) name refl (fields_never c (firsts (fields_of frame))) told

right_passed : (c : Command) (frame : Frame) (u : Unit {0}) → checked c frame ≡ Ok u
    → ArePassed c (firsts (fields_of frame))
unfolding checked
right_passed c frame u is =
    let inside =
    found (check_each (field_check c) (firsts (fields_of frame))) (λ inside. present (option_or
    inside (lacking (λ name. is_some (given_in name frame)) (needed c frame)))) u is in
    each_passed c (firsts (fields_of frame)) inside.0 inside.1

op_case : (s : Statement) (frame : Frame) (name : List ℕ) (r : Result (Unit {0}) CrudErr)
    → checked (command.Statement s) frame ≡ r → (r >>= λ present. namespace_in s frame.body
    >>= λ ns. built s ns frame) ≡ Err (refusal.Missing name)
    → ArePassed (command.Statement s) (firsts (fields_of frame))
op_case s frame name (Ok u) is told = right_passed (command.Statement s) frame u is
op_case s frame name (Err e) is told = let missing : e ≡ refusal.Missing name = cc in
    checked_passed (command.Statement s) frame name (is ∙ ap (λ (d : CrudErr). Err d) missing)

op_passed : (s : Statement) (frame : Frame) (name : List ℕ) → op_of s frame
    ≡ Err (refusal.Missing name) → ArePassed (command.Statement s) (firsts (fields_of frame))
unfolding op_of
op_passed s frame name told = op_case s frame name (checked (command.Statement s) frame) refl told

-- a refusal of a command for what is missing is one of its fields
parsed_case : (e : CrudErr) (name : List ℕ) → from_parsing e ≡ why.Parse (refusal.Missing name)
    → e ≡ refusal.Missing name
parsed_case refusal.Memory name is = absurd cc
parsed_case (refusal.Missing other) name is = cc
parsed_case (refusal.UnknownOperator other) name is = absurd cc
parsed_case (refusal.DottedName other) name is = absurd cc
parsed_case (refusal.WrongKind other) name is = absurd cc
parsed_case (refusal.UnknownField other) name is = absurd cc

parsed : {A : Type 0} (r : Result A CrudErr) (f : A → Request) (name : List ℕ)
    → ◌>>=◌ (as_command r) (λ x. Ok (f x)) ≡ Err (why.Parse (refusal.Missing name))
    → r ≡ Err (refusal.Missing name)
parsed (Ok x) f name is = absurd cc
parsed (Err e) f name is = ap (λ (d : CrudErr). Err d) (parsed_case e name
    (let same : from_parsing e ≡ why.Parse (refusal.Missing name) = cc in same))

by_passed : (c : Command) (frame : Frame) (name : List ℕ)
    → request_by c frame ≡ Err (why.Parse (refusal.Missing name))
    → ArePassed c (firsts (fields_of frame))
by_passed command.Ping frame name is =
    checked_passed command.Ping frame name (parsed (checked command.Ping frame) _ name is)
by_passed (command.Hello old_name) frame name is = checked_passed (command.Hello old_name) frame
    name (parsed (checked (command.Hello old_name) frame) _ name is)
by_passed (command.Statement s) frame name is =
    op_passed s frame name (parsed (op_of s frame) _ name is)
by_passed command.Commit frame name is =
    checked_passed command.Commit frame name (parsed (checked command.Commit frame) _ name is)
by_passed command.Abort frame name is =
    checked_passed command.Abort frame name (parsed (checked command.Abort frame) _ name is)
by_passed command.EndSessions frame name is = checked_passed command.EndSessions frame name
    (parsed (checked command.EndSessions frame) _ name is)

-- what comes before
unrefused : {A : Type 0} (b : Bool) (e : CmdErr) (r : Result A CmdErr) (d : CmdErr) → (e ≡ d → ⊥)
    → ◌>>=◌ (refused_where b e) (λ u. r) ≡ Err d → (b ≡ false) × (r ≡ Err d)
unrefused true e r d other is = absurd (other (let same : e ≡ d = cc in same))
unrefused false e r d other is = (refl, is)

near : {A : Type 0} (wall : ℕ) (o : Option ℕ) (r : Result A CmdErr) (name : List ℕ)
    → ◌>>=◌ (not_ahead wall o) (λ u. r) ≡ Err (why.Parse (refusal.Missing name))
    → (o ≡ None) × (r ≡ Err (why.Parse (refusal.Missing name)))
near wall None r name is = (refl, is)
near wall (Some time) r name is = absurd cc

asked_right : (wall : ℕ) (frame : Frame) (c : Command) (name : List ℕ) → command_in frame ≡ Ok c
    → asked_as wall frame c ≡ Err (why.Parse (refusal.Missing name)) → IsElseRight wall frame
asked_right wall frame c name known is =
    let first = unrefused (is_unacknowledged frame) why.Unacknowledged _
    (why.Parse (refusal.Missing name)) (λ same. cc) is in
    let second = unrefused (is_retried c frame) why.RetryWrite _ (why.Parse (refusal.Missing name))
    (λ same. cc) first.1 in
    let third = near wall (time_ahead wall frame.body) (request_by c frame) name second.1 in
    record {
      command = c;
      known = known;
      answered = first.0;
      once = second.0;
      near = third.0;
      fields = by_passed c frame name third.1;
    }

known_case : (wall : ℕ) (frame : Frame) (name : List ℕ) (r : Result Command CmdErr)
    → command_in frame ≡ r → ◌>>=◌ r (asked_as wall frame) ≡ Err (why.Parse (refusal.Missing name))
    → ((d : CmdErr) → r ≡ Err d → d ≡ why.Parse (refusal.Missing name) → ⊥) → IsElseRight wall frame
known_case wall frame name (Ok c) known is other = asked_right wall frame c name known is
known_case wall frame name (Err d) known is other =
    absurd (other d refl (let same : d ≡ why.Parse (refusal.Missing name) = cc in same))

served_if : (name : List ℕ) (c : Command) (b : Bool) (d : CmdErr)
    → ◌≡◌ {A = Result Command CmdErr} (if b then Ok c else Err (why.Unknown name)) (Err d)
    → d ≡ why.Unknown name
served_if name c true d is = absurd cc
served_if name c false d is = cc

served_case : (name : List ℕ) (legacy : Bool) (o : Option Command) (d : CmdErr)
    → served name legacy o ≡ Err d → d ≡ why.Unknown name
served_case name legacy None d is = cc
served_case name legacy (Some c) d is = served_if name c (is_served legacy c) d is

pub missing_is_last : (wall : ℕ) (frame : Frame) (name : List ℕ)
    → request_of wall frame ≡ Err (why.Parse (refusal.Missing name)) → IsElseRight wall frame
unfolding request_of
missing_is_last wall frame name is =
    known_case wall frame name (command_in frame) refl is (λ d failed same.
    let unknown : d ≡ why.Unknown (first_name frame.body) = served_case (first_name frame.body)
    frame.legacy (command_named (first_name frame.body)) d failed in
    cc)
