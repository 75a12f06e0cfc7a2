-- What a message of bytes asks, fits.
use Rattle.std.proofs.Common.{◌≡◌, inl, inr, ◌+◌, ◌<◌, ℕ, Bool, true, false, All, List, [], ◌∷◌}
use Rattle.std.proofs.Common.{◌++◌, cond, Option, Some, None, Result, Ok, Err, refl, sym, ap, subst}
use Rattle.std.proofs.Common.{get_or, zero, suc, arith}
use Rattle.std.specs.Prelude.{codes, ◌&&◌, nat_le, length}
use Rattle.std.specs.Str.{bytes_eq, is_utf8}
use Rattle.std.proofs.lemmas.List.Elements.{All-nil, All-cons, All-head, All-tail}
use Rattle.std.proofs.lemmas.List.Elements.{All-append}
use Rattle.outcomes.specs.Bind.{◌>>=◌}
use Rattle.outcomes.proofs.Binding.{bind_ok, held, ok_is}
use Rattle.bson_core.specs.declared.value.Value.{Value}
use Rattle.bson_core.specs.declared.value.Value.TheOpen as of
use Rattle.bson_core.specs.declared.value.Value.TheOpen.{Value-F}
use Rattle.bson_core.specs.declared.value.Value.TheVariants.{Null}
use Rattle.bson_core.specs.declared.value.Value.TheViews.{out-Value}
use Rattle.bson_core.specs.declared.value.Value.TheViews as views
use Rattle.bson_core.specs.Fields.{Document, value_of}
use Rattle.bson_core.specs.Grammar.{ReadsAt, reads_leaf, reads_step}
use Rattle.bson_core.proofs.InGrammar.{null_written}
use Rattle.codec_laws.proofs.Levels.{levels_rolled}
use Rattle.op_msg.specs.Message.{IsMessage, ReadsDocuments, ReadsSections, Section}
use Rattle.op_msg.specs.Message.{Sequence, bodies, sequences_of}
use Rattle.op_msg.specs.Reading.{frame_of}
use Rattle.op_msg.specs.declared.frame.Frame.{Frame}
use Rattle.op_msg.proofs.Messages.{frame_found}
use Rattle.txn_types.specs.Limits.{most_batch}
use Rattle.txn_types.specs.Names.{is_collection, is_database, namespace_of}
use Rattle.txn_types.specs.declared.filter.Filter.{Filter}
use Rattle.txn_types.specs.declared.operation.InsertItem.{InsertItem}
use Rattle.txn_types.specs.declared.operation.Op.{Op}
use Rattle.txn_types.specs.declared.operation.Op.TheVariants as op
use Rattle.txn_types.specs.declared.operation.UpdateItem.{UpdateItem}
use Rattle.txn_types.specs.declared.update.Update.{Update}
use Rattle.txn_types.specs.declared.update.Update.TheVariants.{Replace, Ops}
use Rattle.txn_types.specs.declared.update.UpdateKind.{UpdateKind}
use Rattle.txn_types.specs.declared.update.UpdateKind.TheVariants.{Set, Unset, Inc}
use Rattle.txn_types.specs.declared.update.UpdateOp.{UpdateOp}
use Rattle.crud_parse.specs.Names.{begins_with_operator, has_full_stop}
use Rattle.crud_parse.specs.Operators.{beside, kind_of}
use Rattle.crud_parse.specs.Results.{each, each_of, with_front}
use Rattle.crud_parse.specs.Updates.{field_op, is_number, ops_in, ops_of, update_in, update_of}
use Rattle.crud_parse.specs.Updates.{value_for}
use Rattle.crud_parse.specs.declared.error.CrudErr.{CrudErr}
use Rattle.crud_parse.specs.declared.error.CrudErr.TheVariants.{DottedName}
use Rattle.command_parse.specs.Checks.{field_in, or_missing, or_wrong}
use Rattle.command_parse.specs.Items.{Given, InBody, InSection, batch_in, documents_in, each_at}
use Rattle.command_parse.specs.Items.{delete_item, insert_item, many_in, of_batch_size, query_in}
use Rattle.command_parse.specs.Items.{update_item}
use Rattle.command_parse.specs.Commands.{list_name, name_of}
use Rattle.command_parse.specs.Operations.{batch_under, built, checked, given_by, given_in}
use Rattle.command_parse.specs.Operations.{filter_under, falls_under, limit_under}
use Rattle.command_parse.specs.Operations.{joined_names, namespace_in, op_of, text_in, text_under}
use Rattle.command_parse.specs.Values.{document_in}
use Rattle.command_parse.specs.declared.command.Command.TheVariants as command
use Rattle.command_parse.specs.declared.command.Statement.{Statement}
use Rattle.command_parse.specs.declared.command.Statement.TheVariants as statement
use Rattle.command_parse.specs.declared.rules.Batch.{Batch}
use Rattle.command_parse.specs.declared.rules.Batch.TheVariants.{Documents, Changes}
use Rattle.command_parse.specs.declared.rules.Change.TheVariants as change
use Rattle.request_laws.specs.Fitting.{ChangeFits, InsertFits, NsFits, OpFits, SetsFit}
use Rattle.request_laws.specs.Fitting.{UpdateFits, ValueFits}
use Rattle.request_laws.proofs.Docs.{DocRead, FieldRead, IsRead, doc_fits, document_read}
use Rattle.request_laws.proofs.Docs.{inner_document, inner_list, named_read, value_fits}
use Rattle.request_laws.proofs.Namespaces.{namespace_fits}

-- A message that was read.

abbrev pub DocsRead : List Document → Type 0
DocsRead docs = All DocRead docs

abbrev pub SeqRead : Sequence → Type 0
SeqRead seq = DocsRead seq.1

pub record FrameRead (f : Frame) : Type 0 where
  pub body : DocRead f.body
  pub seqs : All SeqRead f.seqs

documents_read : (docs : List Document) (bytes : List ℕ) → ReadsDocuments docs bytes
    → DocsRead docs
documents_read [] bytes h = All-nil DocRead
documents_read (doc ∷ docs) bytes h = All-cons DocRead doc docs (document_read doc h.0 h.2)
    (documents_read docs h.1 h.4)

sections_read : (parts : List Section) (bytes : List ℕ) → ReadsSections parts bytes
    → DocsRead (bodies parts) × All SeqRead (sequences_of parts)
sections_read [] bytes h = (All-nil DocRead, All-nil SeqRead)
sections_read (inl doc ∷ parts) bytes h =
    let more = sections_read parts h.1 h.4 in
    (All-cons DocRead doc (bodies parts) (document_read doc h.2.0 h.2.1) more.0, more.1)
sections_read (inr seq ∷ parts) bytes h =
    let more = sections_read parts h.1 h.4 in (
      more.0,
      All-cons SeqRead seq (sequences_of parts) (documents_read seq.1 h.2.0 h.2.2) more.1,
    )

message_read : (bytes : List ℕ) (f : Frame) → IsMessage bytes f → FrameRead f
message_read bytes f (inl m) =
    let all = sections_read m.parts m.inside m.reads in
    let body : DocsRead (f.body ∷ []) = subst DocsRead m.body all.0 in
    record {
      body = All-head DocRead f.body [] body;
      seqs = subst (All SeqRead) m.seqs all.1;
    }
message_read bytes f (inr m) = record {
  body = document_read f.body m.first m.body;
  seqs = subst (All SeqRead) (sym m.no_sequences) (All-nil SeqRead);
}

pub frame_read : (bytes : List ℕ) (f : Frame) → ((i : ℕ) → get_or bytes i 0 < 256)
    → frame_of bytes ≡ Ok f → FrameRead f
frame_read bytes f fits e = message_read bytes f (frame_found bytes f fits e)

-- Values of a body.

missing_is : {A : Type 0} (name : List ℕ) (o : Option A) (x : A)
    → ◌≡◌ {A = Result A CrudErr} (or_missing name o) (Ok x) → o ≡ Some x
missing_is name (Some y) x e = ap (λ (z : _). Some z) (ok_is y x e)
missing_is name None x e = absurd cc

wrong_is : {A : Type 0} (name : List ℕ) (o : Option A) (x : A)
    → ◌≡◌ {A = Result A CrudErr} (or_wrong name o) (Ok x) → o ≡ Some x
wrong_is name (Some y) x e = ap (λ (z : _). Some z) (ok_is y x e)
wrong_is name None x e = absurd cc

field_read : (name : List ℕ) (doc : Document) (value : Value) → field_in name doc ≡ Ok value
    → DocRead doc → IsRead value
field_read name doc value e h =
    named_read name doc value (missing_is name (value_of name doc) value e) h

-- Lists of documents.

document_case : (value : Value) (x : Value-F Value) (doc : Document) → out-Value value ≡ x
    → document_in x ≡ Some doc → IsRead value → DocRead doc
document_case value (of.Doc fields) doc is e h =
    let same : fields ≡ doc = cc in subst DocRead same (inner_document value fields is h)
document_case value other doc is e h = absurd cc

each_document : (name : List ℕ) (values : List Value) (docs : List Document)
    → each (λ value. or_wrong name (document_in (out-Value value))) values ≡ Ok docs
    → All IsRead values → DocsRead docs
each_document name [] docs e h = subst DocsRead (ok_is [] docs e) (All-nil DocRead)
each_document name (value ∷ values) docs e h =
    let read : Value → Result Document CrudErr =
    λ (v : Value). or_wrong name (document_in (out-Value v)) in
    let one = bind_ok (read value) (λ y. with_front (y ∷ []) (each read values)) docs e in
    let more = bind_ok (each read values) (λ ys. Ok (one.0 ∷ [] ++ ys)) docs one.2 in
    subst DocsRead (ok_is (one.0 ∷ more.0) docs more.2) (All-cons DocRead one.0 more.0
    (document_case value (out-Value value) one.0 refl
    (wrong_is name (document_in (out-Value value)) one.0 one.1) (All-head IsRead value values h))
    (each_document name values more.0 more.1 (All-tail IsRead value values h)))

documents_case : (name : List ℕ) (value : Value) (x : Value-F Value) (docs : List Document)
    → out-Value value ≡ x → documents_in name x ≡ Ok docs → IsRead value → DocsRead docs
documents_case name value (of.List values) docs is e h =
    each_document name values docs e (inner_list value values is h)
documents_case name value other docs is e h = absurd cc

size_is : (name : List ℕ) (docs sized : List Document) → of_batch_size name docs ≡ Ok sized
    → docs ≡ sized
size_is name docs sized e =
    ok_is docs sized (held (nat_le 1 (length docs) && nat_le (length docs) most_batch) _ (Ok docs)
    sized e).1

abbrev GivenRead : Given → Type 0
GivenRead (InBody value) = IsRead value
GivenRead (InSection docs) = DocsRead docs

batch_read : (batch : Batch) (given : Given) (docs : List Document)
    → batch_in batch given ≡ Ok docs → GivenRead given → DocsRead docs
batch_read batch (InBody value) docs e h =
    let name = list_name batch in
    let all = bind_ok (documents_in name (out-Value value)) (of_batch_size name) docs e in
    subst DocsRead (size_is name all.0 docs all.2)
    (documents_case name value (out-Value value) all.0 refl all.1 h)
batch_read batch (InSection found) docs e h =
    subst DocsRead (size_is (list_name batch) found docs e) h

beside_case : (seq : Sequence) (rest : Option (List Document)) (docs : List Document) (b : Bool)
    → cond b (Some seq.1) rest ≡ Some docs → SeqRead seq → (rest ≡ Some docs → DocsRead docs)
    → DocsRead docs
beside_case seq rest docs true e own more = let same : seq.1 ≡ docs = cc in subst DocsRead same own
beside_case seq rest docs false e own more = more e

beside_read : (name : List ℕ) (seqs : List Sequence) (docs : List Document)
    → beside name seqs ≡ Some docs → All SeqRead seqs → DocsRead docs
beside_read name [] docs e h = absurd cc
beside_read name (seq ∷ seqs) docs e h =
    beside_case seq (beside name seqs) docs (bytes_eq name seq.0) e (All-head SeqRead seq seqs h)
    (λ more. beside_read name seqs docs more (All-tail SeqRead seq seqs h))

given_case : (value : Option Value) (section : Option (List Document)) (given : Given)
    → given_by value section ≡ Some given → ((v : Value) → value ≡ Some v → IsRead v)
    → ((docs : List Document) → section ≡ Some docs → DocsRead docs) → GivenRead given
given_case (Some v) section given e vs ds =
    let same : InBody v ≡ given = cc in subst GivenRead same (vs v refl)
given_case None (Some docs) given e vs ds =
    let same : InSection docs ≡ given = cc in subst GivenRead same (ds docs refl)
given_case None None given e vs ds = absurd cc

under_read : (batch : Batch) (frame : Frame) (docs : List Document)
    → batch_under batch frame ≡ Ok docs → FrameRead frame → DocsRead docs
under_read batch frame docs e f =
    let name = list_name batch in
    let given = bind_ok (or_missing name (given_in name frame)) (batch_in batch) docs e in
    batch_read batch given.0 docs given.2 (given_case (value_of name frame.body)
    (beside name frame.seqs) given.0 (missing_is name (given_in name frame) given.0 given.1)
    (λ v is. named_read name frame.body v is f.body)
    (λ found is. beside_read name frame.seqs found is f.seqs))

-- Inserts.

insert_case : (place : ℕ) (doc : Document) (item : InsertItem) → insert_item place doc ≡ Ok item
    → DocRead doc → InsertFits item
insert_case place doc item e h =
    subst InsertFits (ok_is _ item (held _ _ (Ok (record { index = place; doc = doc })) item e).1)
    (doc_fits doc h)

inserts_fit : (place : ℕ) (docs : List Document) (items : List InsertItem)
    → each_at insert_item place docs ≡ Ok items → DocsRead docs → All InsertFits items
inserts_fit place [] items e h = subst (All InsertFits) (ok_is [] items e) (All-nil InsertFits)
inserts_fit place (doc ∷ docs) items e h =
    let one = bind_ok (insert_item place doc)
    (λ y. with_front (y ∷ []) (each_at insert_item (place + 1) docs)) items e in
    let more = bind_ok (each_at insert_item (place + 1) docs) (λ ys. Ok (one.0 ∷ [] ++ ys)) items
    one.2 in
    subst (All InsertFits) (ok_is (one.0 ∷ more.0) items more.2) (All-cons InsertFits one.0 more.0
    (insert_case place doc one.0 one.1 (All-head DocRead doc docs h))
    (inserts_fit (place + 1) docs more.0 more.1 (All-tail DocRead doc docs h)))

-- Updates.

null_fits : ValueFits Null
unfolding views.roll-Value denote.Hole.Carrier.roll views.out-Value denote.Hole.Carrier.out
null_fits = record {
  written = null_written;
  levels = omega (arith, levels_rolled of.Null);
  id = λ id e. absurd cc;
}

value_case : (kind : UpdateKind) (name : List ℕ) (value made : Value)
    → value_for kind name value ≡ Ok made → ValueFits value → ValueFits made
value_case Set name value made e h = subst ValueFits (ok_is value made e) h
value_case Unset name value made e h = subst ValueFits (ok_is Null made e) null_fits
value_case Inc name value made e h =
    subst ValueFits (ok_is value made (held (is_number (out-Value value)) _ (Ok value) made e).1) h

passes : {A : Type 0} (b : Bool) (why : CrudErr) (r : Result A CrudErr) (x : A)
    → cond b (Err why) r ≡ Ok x → r ≡ Ok x
passes true why r x e = absurd cc
passes false why r x e = e

field_case : (kind : UpdateKind) (field : List ℕ × Value) (made : UpdateOp)
    → field_op kind field ≡ Ok made → FieldRead field → SetsFit made
field_case kind field made e h =
    let value = bind_ok (value_for kind field.0 field.1)
    (λ v. Ok (record { kind = kind; name = field.0; value = v })) made
    (passes (has_full_stop field.0) (DottedName field.0) _ made e) in
    subst SetsFit (ok_is _ made value.2)
    (h.0, value_case kind field.0 field.1 value.0 value.1 (value_fits field.1 h.1))

fields_fit : (kind : UpdateKind) (fields : Document) (ops : List UpdateOp)
    → each (field_op kind) fields ≡ Ok ops → DocRead fields → All SetsFit ops
fields_fit kind [] ops e h = subst (All SetsFit) (ok_is [] ops e) (All-nil SetsFit)
fields_fit kind (field ∷ fields) ops e h =
    let one = bind_ok (field_op kind field)
    (λ y. with_front (y ∷ []) (each (field_op kind) fields)) ops e in
    let more = bind_ok (each (field_op kind) fields) (λ ys. Ok (one.0 ∷ [] ++ ys)) ops one.2 in
    subst (All SetsFit) (ok_is (one.0 ∷ more.0) ops more.2) (All-cons SetsFit one.0 more.0
    (field_case kind field one.0 one.1 (All-head FieldRead field fields h))
    (fields_fit kind fields more.0 more.1 (All-tail FieldRead field fields h)))

operator_case : (name : List ℕ) (value : Value) (kind : Option UpdateKind) (x : Value-F Value)
    (ops : List UpdateOp) → out-Value value ≡ x → ops_in name kind x ≡ Ok ops → IsRead value
    → All SetsFit ops
operator_case name value None x ops is e h = absurd cc
operator_case name value (Some kind) (of.Doc fields) ops is e h =
    fields_fit kind fields ops e (inner_document value fields is h)
operator_case name value (Some kind) other ops is e h = absurd cc

operators_fit : (fields : Document) (ops : List UpdateOp) → each_of ops_of fields ≡ Ok ops
    → DocRead fields → All SetsFit ops
operators_fit [] ops e h = subst (All SetsFit) (ok_is [] ops e) (All-nil SetsFit)
operators_fit (field ∷ fields) ops e h =
    let one = bind_ok (ops_of field) (λ ys. with_front ys (each_of ops_of fields)) ops e in
    let more = bind_ok (each_of ops_of fields) (λ ys. Ok (one.0 ++ ys)) ops one.2 in
    subst (All SetsFit) (ok_is (one.0 ++ more.0) ops more.2) (All-append SetsFit one.0 more.0
    (operator_case field.0 field.1 (kind_of field.0) (out-Value field.1) one.0 refl one.1
    (All-head FieldRead field fields h).1)
    (operators_fit fields more.0 more.1 (All-tail FieldRead field fields h)))

change_by : (b : Bool) (fields : Document) (made : Update)
    → cond b (each_of ops_of fields >>= λ ops. Ok (Ops ops)) (Ok (Replace fields)) ≡ Ok made
    → DocRead fields → ChangeFits made
change_by true fields made e h =
    let ops = bind_ok (each_of ops_of fields) (λ ops. Ok (Ops ops)) made e in
    subst ChangeFits (ok_is (Ops ops.0) made ops.2) (operators_fit fields ops.0 ops.1 h)
change_by false fields made e h =
    subst ChangeFits (ok_is (Replace fields) made e) (doc_fits fields h)

change_case : (value : Value) (x : Value-F Value) (made : Update) → out-Value value ≡ x
    → update_in x ≡ Ok made → IsRead value → ChangeFits made
change_case value (of.Doc fields) made is e h =
    change_by (begins_with_operator fields) fields made e (inner_document value fields is h)
change_case value other made is e h = absurd cc

update_case : (place : ℕ) (doc : Document) (item : UpdateItem) → update_item place doc ≡ Ok item
    → DocRead doc → UpdateFits item
update_case place doc item e h =
    let query = bind_ok (query_in doc) _ item e in
    let made = bind_ok (field_in (codes "u") doc >>= update_of) _ item query.2 in
    let many = bind_ok (many_in doc) _ item made.2 in
    let value = bind_ok (field_in (codes "u") doc) update_of made.0 made.1 in
    subst UpdateFits (ok_is _ item many.2) (change_case value.0 (out-Value value.0) made.0 refl
    value.2 (field_read (codes "u") doc value.0 value.1 h))

updates_fit : (place : ℕ) (docs : List Document) (items : List UpdateItem)
    → each_at update_item place docs ≡ Ok items → DocsRead docs → All UpdateFits items
updates_fit place [] items e h = subst (All UpdateFits) (ok_is [] items e) (All-nil UpdateFits)
updates_fit place (doc ∷ docs) items e h =
    let one = bind_ok (update_item place doc)
    (λ y. with_front (y ∷ []) (each_at update_item (place + 1) docs)) items e in
    let more = bind_ok (each_at update_item (place + 1) docs) (λ ys. Ok (one.0 ∷ [] ++ ys)) items
    one.2 in
    subst (All UpdateFits) (ok_is (one.0 ∷ more.0) items more.2) (All-cons UpdateFits one.0 more.0
    (update_case place doc one.0 one.1 (All-head DocRead doc docs h))
    (updates_fit (place + 1) docs more.0 more.1 (All-tail DocRead doc docs h)))

-- Namespaces.

leaf_text : (t : List ℕ) (kind : ℕ) (bytes : List ℕ) → reads_leaf (of.Text t) kind bytes
    → is_utf8 t ≡ true
leaf_text t kind bytes h = h.2

text_utf8 : (value : Value) (t : List ℕ) → out-Value value ≡ of.Text t → IsRead value
    → is_utf8 t ≡ true
unfolding ReadsAt
text_utf8 value t is (zero, le, at) = leaf_text t at.0 at.1
    (subst (λ (x : Value-F Value). reads_leaf x at.0 at.1) is at.2)
text_utf8 value t is (suc depth, le, at) = leaf_text t at.0 at.1
    (subst (λ (x : Value-F Value). reads_step (ReadsAt depth) x at.0 at.1) is at.2)

text_case : (name : List ℕ) (value : Value) (x : Value-F Value) (t : List ℕ) → out-Value value ≡ x
    → text_in name x ≡ Ok t → IsRead value → is_utf8 t ≡ true
text_case name value (of.Text s) t is e h = subst (λ (u : List ℕ). is_utf8 u ≡ true) (ok_is s t e)
    (text_utf8 value s is h)
text_case name value other t is e h = absurd cc

text_read : (name : List ℕ) (body : Document) (t : List ℕ) → text_under name body ≡ Ok t
    → DocRead body → is_utf8 t ≡ true
text_read name body t e h =
    let value = bind_ok (field_in name body) (λ v. text_in name (out-Value v)) t e in
    text_case name value.0 (out-Value value.0) t refl value.2
    (field_read name body value.0 value.1 h)

names_fit : (s : Statement) (d c ns : List ℕ) → joined_names s d c ≡ Ok ns → is_utf8 d ≡ true
    → is_utf8 c ≡ true → NsFits ns
names_fit s d c ns e du cu =
    let first = held (is_database d) _ _ ns e in
    let second = held (is_collection c) _ (Ok (namespace_of d c)) ns first.1 in
    subst NsFits (ok_is (namespace_of d c) ns second.1)
    (namespace_fits d c du cu first.0 second.0)

namespace_read : (s : Statement) (body : Document) (ns : List ℕ) → namespace_in s body ≡ Ok ns
    → DocRead body → NsFits ns
namespace_read s body ns e h =
    let d = bind_ok (text_under (codes "$db") body) _ ns e in
    let c = bind_ok (text_under (name_of s) body) _ ns d.2 in
    names_fit s d.0 c.0 ns c.2 (text_read (codes "$db") body d.0 d.1 h)
    (text_read (name_of s) body c.0 c.1 h)

-- Operations.

find_fits : (ns : List ℕ) (f : Result Filter CrudErr) (d : Result Bool CrudErr)
    (l : Result ℕ CrudErr) (o : Op)
    → (f >>= λ filter. d >>= λ down. l >>= λ limit. Ok (op.Find ns filter down limit)) ≡ Ok o
    → NsFits ns → OpFits o
find_fits ns (Ok f) (Ok d) (Ok l) o e h = subst OpFits (ok_is (op.Find ns f d l) o e) h
find_fits ns (Ok f) (Ok d) (Err x) o e h = absurd cc
find_fits ns (Ok f) (Err x) l o e h = absurd cc
find_fits ns (Err x) d l o e h = absurd cc

built_fits : (s : Statement) (ns : List ℕ) (frame : Frame) (o : Op) → built s ns frame ≡ Ok o
    → NsFits ns → FrameRead frame → OpFits o
built_fits statement.Insert ns frame o e n f =
    let items = bind_ok (batch_under Documents frame >>= each_at insert_item 0)
    (λ docs. Ok (op.Insert ns docs)) o e in
    let docs = bind_ok (batch_under Documents frame) (each_at insert_item 0) items.0 items.1 in
    subst OpFits (ok_is (op.Insert ns items.0) o items.2)
    (n, inserts_fit 0 docs.0 items.0 docs.2 (under_read Documents frame docs.0 docs.1 f))
built_fits statement.Find ns frame o e n f = find_fits ns (filter_under frame.body)
    (falls_under frame.body) (limit_under frame.body) o e n
built_fits statement.Update ns frame o e n f =
    let items = bind_ok (batch_under (Changes change.Update) frame >>= each_at update_item 0)
    (λ docs. Ok (op.Update ns docs)) o e in
    let docs = bind_ok (batch_under (Changes change.Update) frame) (each_at update_item 0) items.0
    items.1 in
    subst OpFits (ok_is (op.Update ns items.0) o items.2) (
      n,
      updates_fit 0 docs.0 items.0 docs.2
          (under_read (Changes change.Update) frame docs.0 docs.1 f),
    )
built_fits statement.Delete ns frame o e n f =
    let items = bind_ok (batch_under (Changes change.Delete) frame >>= each_at delete_item 0)
    (λ docs. Ok (op.Delete ns docs)) o e in
    subst OpFits (ok_is (op.Delete ns items.0) o items.2) n

pub op_fits : (s : Statement) (frame : Frame) (o : Op) → op_of s frame ≡ Ok o → FrameRead frame
    → OpFits o
unfolding op_of
op_fits s frame o e f =
    let first = bind_ok (checked (command.Statement s) frame) _ o e in
    let ns = bind_ok (namespace_in s frame.body) _ o first.2 in
    built_fits s ns.0 frame o ns.2 (namespace_read s frame.body ns.0 ns.1 f.body) f
