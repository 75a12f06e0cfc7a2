-- What a request states is stated to some shard: an insert has documents, which have ids, and an
-- update and a delete have items.
use Rattle.std.proofs.Common.{◌≡◌, ◌+◌, ◌++◌, ◌&&◌, ℕ, Bool, true, false, All, List, [], ◌∷◌}
use Rattle.std.proofs.Common.{filter_map, Option, Some, None, is_some, option_map, Result, Ok, Err}
use Rattle.std.proofs.Common.{length, nat_eq, nat_lt, nat_le, refl, ap, subst}
use Rattle.std.proofs.Common.{if◌then◌else◌}
use Rattle.std.specs.Prelude.{flat_map}
use Rattle.std.proofs.lemmas.List.Elements.{All-head}
use Rattle.outcomes.specs.Bind.{◌>>=◌}
use Rattle.outcomes.proofs.Binding.{bind_ok}
use Rattle.bson_core.specs.Fields.{Document}
use Rattle.bson_core.specs.declared.value.Value.TheViews.{out-Value}
use Rattle.op_msg.specs.Reading.{frame_of}
use Rattle.op_msg.specs.declared.frame.Frame.{Frame}
use Rattle.op_msg.specs.declared.frame.FrameErr.{FrameErr}
use Rattle.txn_types.specs.Ids.{id_in}
use Rattle.txn_types.specs.Limits.{most_batch}
use Rattle.txn_types.specs.Numbers.{put_number}
use Rattle.txn_types.specs.declared.filter.Filter.{Filter}
use Rattle.txn_types.specs.declared.id.Id.{Id}
use Rattle.txn_types.specs.declared.operation.InsertItem.{InsertItem}
use Rattle.txn_types.specs.declared.operation.Op.{Op}
use Rattle.txn_types.specs.declared.operation.Op.TheVariants as op
use Rattle.txn_semantics.specs.Touched.{Touched, id_test}
use Rattle.crud_parse.specs.Results.{with_front}
use Rattle.crud_parse.specs.declared.error.CrudErr.{CrudErr}
use Rattle.crud_parse.specs.declared.error.CrudErr.TheVariants.{WrongKind}
use Rattle.command_parse.specs.Commands.{list_name}
use Rattle.command_parse.specs.Items.{Given, InBody, InSection, each_at, insert_item, update_item}
use Rattle.command_parse.specs.Items.{delete_item, of_batch_size, batch_in, documents_in}
use Rattle.command_parse.specs.Operations.{op_of, checked, namespace_in, batch_under, filter_under}
use Rattle.command_parse.specs.Operations.{falls_under, limit_under, built, given_in}
use Rattle.command_parse.specs.Checks.{or_missing}
use Rattle.command_parse.specs.declared.command.Command.{Command}
use Rattle.command_parse.specs.declared.command.Command.TheVariants as command
use Rattle.command_parse.specs.declared.command.Statement.{Statement}
use Rattle.command_parse.specs.declared.command.Statement.TheVariants as statement
use Rattle.command_parse.specs.declared.rules.Batch.{Batch}
use Rattle.command_parse.specs.declared.rules.Batch.TheVariants.{Documents, Changes}
use Rattle.command_parse.specs.declared.rules.Change.TheVariants as change
use Rattle.chunk_map.specs.Map.{Map}
use Rattle.chunk_map.specs.Parts.{shards_of}
use Rattle.chunk_map.specs.Place.{shard_of, shards_by, or_first, rising}
use Rattle.client_cmd.specs.Commands as cmd
use Rattle.client_cmd.specs.declared.request.Request.{Request}
use Rattle.client_cmd.specs.declared.request.Request.TheVariants as request
use Rattle.router_plan.specs.Messages as messages
use Rattle.told_laws.specs.OneShard.{HaveIds}
use Rattle.told_laws.proofs.Requests.{cmd_bind, cmd_is, asked_case, asked_ids}
use Rattle.abort_laws.proofs.Requests.{op_in}

-- it isn't the empty list
abbrev pub IsNotEmpty : {A : Type 0} → List A → Type 0
IsNotEmpty [] = ⊥
IsNotEmpty (x ∷ xs) = Unit {0}

abbrev pub HasItems : Op → Type 0
HasItems (op.Insert ns docs) = IsNotEmpty docs
HasItems (op.Find ns wanted down limit) = Unit {0}
HasItems (op.Update ns items) = IsNotEmpty items
HasItems (op.Delete ns items) = IsNotEmpty items

ok_is : {A : Type 0} (x y : A) → ◌≡◌ {A = Result A CrudErr} (Ok x) (Ok y) → x ≡ y
ok_is x y e = cc

-- a batch has documents

size_some : (name : List ℕ) (read docs : List Document) → of_batch_size name read ≡ Ok docs
    → IsNotEmpty docs
size_some name [] docs e = absurd (no docs e)
  where
    no : (docs : List Document)
        → ◌≡◌ {A = Result (List Document) CrudErr} (Err (WrongKind name)) (Ok docs)
        → ⊥
    no docs e = cc
size_some name (doc ∷ read) docs e =
    by (nat_le 1 (length (doc ∷ read)) && nat_le (length (doc ∷ read)) most_batch) e
  where
    by : (test : Bool) → (if test then Ok (doc ∷ read) else Err (WrongKind name)) ≡ Ok docs
        → IsNotEmpty docs
    by true is = subst IsNotEmpty (ok_is (doc ∷ read) docs is) tt
    by false is = absurd cc

batch_some : (batch : Batch) (given : Given) (docs : List Document) → batch_in batch given ≡ Ok docs
    → IsNotEmpty docs
batch_some batch (InBody value) docs e =
    let read = bind_ok (documents_in (list_name batch) (out-Value value))
    (of_batch_size (list_name batch)) docs e in
    size_some (list_name batch) read.0 docs read.2
batch_some batch (InSection read) docs e = size_some (list_name batch) read docs e

under_some : (batch : Batch) (frame : Frame) (docs : List Document)
    → batch_under batch frame ≡ Ok docs → IsNotEmpty docs
under_some batch frame docs e =
    let given = bind_ok (or_missing (list_name batch) (given_in (list_name batch) frame))
    (batch_in batch) docs e in
    batch_some batch given.0 docs given.2

items_some : {B : Type 0} (read : ℕ → Document → Result B CrudErr) (first : ℕ)
    (docs : List Document) (items : List B) → each_at read first docs ≡ Ok items
    → IsNotEmpty docs → IsNotEmpty items
items_some read first [] items e h = absurd h
items_some {B = B} read first (doc ∷ docs) items e h =
    let one = bind_ok (read first doc)
    (λ y. with_front (y ∷ []) (each_at read (first + 1) docs)) items e in
    let more = bind_ok (each_at read (first + 1) docs) (λ zs. Ok (one.0 ∷ [] ++ zs)) items one.2 in
    subst IsNotEmpty (ok_is {A = List B} (one.0 ∷ more.0) items more.2) tt

find_some : (ns : List ℕ) (f : Result Filter CrudErr) (d : Result Bool CrudErr)
    (l : Result ℕ CrudErr) (o : Op)
    → (f >>= λ filter. d >>= λ down. l >>= λ limit. Ok (op.Find ns filter down limit)) ≡ Ok o
    → HasItems o
find_some ns (Ok f) (Ok d) (Ok l) o e = subst HasItems (ok_is (op.Find ns f d l) o e) tt
find_some ns (Ok f) (Ok d) (Err x) o e = absurd cc
find_some ns (Ok f) (Err x) l o e = absurd cc
find_some ns (Err x) d l o e = absurd cc

built_some : (s : Statement) (ns : List ℕ) (frame : Frame) (o : Op) → built s ns frame ≡ Ok o
    → HasItems o
built_some statement.Insert ns frame o e =
    let items = bind_ok (batch_under Documents frame >>= each_at insert_item 0)
    (λ docs. Ok (op.Insert ns docs)) o e in
    let docs = bind_ok (batch_under Documents frame) (each_at insert_item 0) items.0 items.1 in
    subst HasItems (ok_is (op.Insert ns items.0) o items.2)
    (items_some insert_item 0 docs.0 items.0 docs.2 (under_some Documents frame docs.0 docs.1))
built_some statement.Find ns frame o e = find_some ns (filter_under frame.body)
    (falls_under frame.body) (limit_under frame.body) o e
built_some statement.Update ns frame o e =
    let items = bind_ok (batch_under (Changes change.Update) frame >>= each_at update_item 0)
    (λ docs. Ok (op.Update ns docs)) o e in
    let docs = bind_ok (batch_under (Changes change.Update) frame) (each_at update_item 0) items.0
    items.1 in
    subst HasItems (ok_is (op.Update ns items.0) o items.2)
    (items_some update_item 0 docs.0 items.0 docs.2
    (under_some (Changes change.Update) frame docs.0 docs.1))
built_some statement.Delete ns frame o e =
    let items = bind_ok (batch_under (Changes change.Delete) frame >>= each_at delete_item 0)
    (λ docs. Ok (op.Delete ns docs)) o e in
    let docs = bind_ok (batch_under (Changes change.Delete) frame) (each_at delete_item 0) items.0
    items.1 in
    subst HasItems (ok_is (op.Delete ns items.0) o items.2)
    (items_some delete_item 0 docs.0 items.0 docs.2
    (under_some (Changes change.Delete) frame docs.0 docs.1))

have_items : (s : Statement) (frame : Frame) (o : Op) → op_of s frame ≡ Ok o → HasItems o
unfolding op_of
have_items s frame o e =
    let first = bind_ok (checked (command.Statement s) frame) _ o e in
    let ns = bind_ok (namespace_in s frame.body) _ o first.2 in
    built_some s ns.0 frame o ns.2

-- Requests.

as_ok : (r : Result Op CrudErr) (o : Op) → cmd.as_command r ≡ Ok o → r ≡ Ok o
as_ok (Ok x) o e = ap (λ (y : Op). Ok y) (cmd_is x o e)
as_ok (Err d) o e = absurd cc

abbrev ItemsIn : Option Op → Type 0
ItemsIn None = Unit {0}
ItemsIn (Some o) = HasItems o

by_items : (c : Command) (frame : Frame) (r : Request) → cmd.request_by c frame ≡ Ok r
    → ItemsIn (op_in r)
by_items command.Ping frame r e = let x = cmd_bind (cmd.as_command (checked command.Ping frame)) _ r
    e in subst (λ (q : Request). ItemsIn (op_in q)) (cmd_is _ r x.2) tt
by_items (command.Hello old_name) frame r e = let x = cmd_bind
    (cmd.as_command (checked (command.Hello old_name) frame)) _ r e in subst
    (λ (q : Request). ItemsIn (op_in q)) (cmd_is _ r x.2) tt
by_items (command.Statement s) frame r e =
    let x = cmd_bind (cmd.as_command (op_of s frame)) _ r e in
    subst (λ (q : Request). ItemsIn (op_in q)) (cmd_is _ r x.2)
    (have_items s frame x.0 (as_ok (op_of s frame) x.0 x.1))
by_items command.Commit frame r e = let x = cmd_bind (cmd.as_command (checked command.Commit frame))
    _ r e in subst (λ (q : Request). ItemsIn (op_in q)) (cmd_is _ r x.2) tt
by_items command.Abort frame r e = let x = cmd_bind (cmd.as_command (checked command.Abort frame)) _
    r e in subst (λ (q : Request). ItemsIn (op_in q)) (cmd_is _ r x.2) tt
by_items command.EndSessions frame r e = let x = cmd_bind
    (cmd.as_command (checked command.EndSessions frame)) _ r e in subst
    (λ (q : Request). ItemsIn (op_in q)) (cmd_is _ r x.2) tt

request_items : (wall : ℕ) (frame : Frame) (r : Request) → cmd.request_of wall frame ≡ Ok r
    → ItemsIn (op_in r)
unfolding cmd.request_of
request_items wall frame r e =
    let a = cmd_bind (cmd.command_in frame) _ r e in
    let b = cmd_bind (cmd.refused_where (cmd.is_unacknowledged frame) _) _ r a.2 in
    let c = cmd_bind (cmd.refused_where (cmd.is_retried a.0 frame) _) _ r b.2 in
    let d = cmd_bind (cmd.not_ahead wall (cmd.time_ahead wall frame.body)) _ r c.2 in
    by_items a.0 frame r d.2

read_items : (wall : ℕ) (x : Result Frame FrameErr) (r : Request) → messages.read_by wall x ≡ Ok r
    → ItemsIn (op_in r)
read_items wall (Ok frame) r e = request_items wall frame r
    (asked_case (cmd.request_of wall frame) r e)
read_items wall (Err d) r e = absurd cc

asked_items : (wall : ℕ) (bytes : List ℕ) (r : Request) → messages.asked_in wall bytes ≡ Ok r
    → ItemsIn (op_in r)
unfolding messages.asked_in
asked_items wall bytes r e = read_items wall (frame_of bytes) r e

-- Shards.

put_some : (n : ℕ) (numbers : List ℕ) → IsNotEmpty (put_number n numbers)
put_some n [] = tt
put_some n (m ∷ numbers) = by (nat_lt n m) (nat_eq n m)
  where
    by : (a b : Bool) → IsNotEmpty (if a then n ∷ m ∷ numbers else if b then m ∷ numbers
        else m ∷ put_number n numbers)
    by true b = tt
    by false true = tt
    by false false = tt

rising_some : (ns : List ℕ) → IsNotEmpty ns → IsNotEmpty (rising ns)
rising_some [] h = absurd h
rising_some (n ∷ ns) h = put_some n (rising ns)

or_some : (ns : List ℕ) → IsNotEmpty (or_first ns)
or_some [] = tt
or_some (n ∷ ns) = tt

for_some : (m : Map) (ns : List ℕ) (t : Touched) → IsNotEmpty (shards_by m ns t)
for_some m ns (Some ids) = or_some _
for_some m ns None = or_some _

more_some : (xs ys : List ℕ) → IsNotEmpty xs → IsNotEmpty (xs ++ ys)
more_some [] ys h = absurd h
more_some (x ∷ xs) ys h = tt

flat_some : {B : Type 0} (f : B → List ℕ) (items : List B) → ((b : B) → IsNotEmpty (f b))
    → IsNotEmpty items → IsNotEmpty (flat_map f items)
flat_some f [] k h = absurd h
flat_some f (b ∷ items) k h = more_some (f b) (flat_map f items) (k b)

first_some : {B : Type 0} (f : B → Option ℕ) (b : B) (items : List B) → is_some (f b) ≡ true
    → IsNotEmpty (filter_map f (b ∷ items))
first_some f b items h = by (f b) refl h
  where
    by : (o : Option ℕ) → f b ≡ o → is_some o ≡ true → IsNotEmpty (filter_map f (b ∷ items))
    by None e k = absurd cc
    by (Some n) e k = rw e tt

mapped : (f : Id → ℕ) (o : Option Id) → is_some o ≡ true → is_some (option_map f o) ≡ true
mapped f None h = h
mapped f (Some id) h = refl

docs_some : (m : Map) (ns : List ℕ) (docs : List InsertItem)
    → All (λ item. is_some (id_in item.doc) ≡ true) docs → IsNotEmpty docs
    → IsNotEmpty (filter_map (λ (item : InsertItem). option_map (shard_of m ns) (id_in item.doc))
    docs)
docs_some m ns [] ids h = absurd h
docs_some m ns (item ∷ docs) ids h =
    first_some (λ (item : InsertItem). option_map (shard_of m ns) (id_in item.doc)) item docs
    (mapped (shard_of m ns) (id_in item.doc)
    (All-head (λ (item : InsertItem). is_some (id_in item.doc) ≡ true) item docs ids))

shards_some : (m : Map) (o : Op) → HaveIds o → HasItems o → IsNotEmpty (shards_of m o)
unfolding shards_of
shards_some m (op.Insert ns docs) ids h = rising_some _ (docs_some m ns docs ids h)
shards_some m (op.Find ns wanted down limit) ids h = for_some m ns (id_test wanted)
shards_some m (op.Update ns items) ids h = rising_some _ (flat_some _ items
    (λ item. for_some m ns (id_test item.filter)) h)
shards_some m (op.Delete ns items) ids h = rising_some _ (flat_some _ items
    (λ item. for_some m ns (id_test item.filter)) h)

not_empty : {A : Type 0} (xs : List A) → IsNotEmpty xs → xs ≡ [] → ⊥
not_empty [] h e = h
not_empty (x ∷ xs) h e = absurd cc

-- a statement that a request asks is for some shard
pub parts_asked : (m : Map) (wall : ℕ) (bytes : List ℕ) (r : Request) (o : Op)
    → messages.asked_in wall bytes ≡ Ok r → op_in r ≡ Some o → shards_of m o ≡ [] → ⊥
parts_asked m wall bytes (request.Statement q txn at after more time) o e is =
    let same : q ≡ o = cc in
    subst (λ (x : Op). shards_of m x ≡ [] → ⊥) same
    (not_empty (shards_of m q) (shards_some m q
    (asked_ids wall bytes (request.Statement q txn at after more time) e)
    (asked_items wall bytes (request.Statement q txn at after more time) e)))
parts_asked m wall bytes (request.Ping more time) o e is = absurd cc
parts_asked m wall bytes (request.Hello old_name more time) o e is = absurd cc
parts_asked m wall bytes (request.Commit txn t more time) o e is = absurd cc
parts_asked m wall bytes (request.Abort txn more time) o e is = absurd cc
parts_asked m wall bytes (request.EndSessions ids more time) o e is = absurd cc
