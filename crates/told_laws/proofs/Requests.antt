-- The documents of a request have ids, and so have those of each statement that a router opened.
use Rattle.std.proofs.Common.{◌≡◌, ◌+◌, max, ℕ, Bool, true, false, All, List, [], ◌∷◌, ◌++◌, cond}
use Rattle.std.proofs.Common.{Option, Some, None, is_some, Result, Ok, Err, refl, ap, subst}
use Rattle.std.proofs.Common.{if◌then◌else◌}
use Rattle.std.specs.Prelude.{slice_get}
use Rattle.std.proofs.lemmas.List.Elements.{All-nil, All-cons, All-append}
use Rattle.outcomes.specs.Bind.{◌>>=◌}
use Rattle.outcomes.proofs.Binding.{bind_ok}
use Rattle.bson_core.specs.Fields.{Document}
use Rattle.op_msg.specs.Reading.{frame_of}
use Rattle.op_msg.specs.declared.frame.Frame.{Frame}
use Rattle.op_msg.specs.declared.frame.FrameErr.{FrameErr}
use Rattle.txn_types.specs.Ids.{id_in, id_name}
use Rattle.txn_types.specs.declared.event.Happening.{Happening}
use Rattle.txn_types.specs.declared.event.Happening.TheVariants as what
use Rattle.txn_types.specs.declared.event.NodeAnswer.{NodeAnswer}
use Rattle.txn_types.specs.declared.event.NodeEvent.{NodeEvent}
use Rattle.txn_types.specs.declared.message.Statement.{Statement as Sent}
use Rattle.txn_types.specs.declared.filter.Filter.{Filter}
use Rattle.txn_types.specs.declared.node.NodeId.TheVariants.{Shard, Router}
use Rattle.txn_types.specs.declared.operation.InsertItem.{InsertItem}
use Rattle.txn_types.specs.declared.operation.Op.{Op}
use Rattle.txn_types.specs.declared.operation.Op.TheVariants as op
use Rattle.crud_parse.specs.Results.{with_front}
use Rattle.crud_parse.specs.declared.error.CrudErr.{CrudErr}
use Rattle.crud_parse.specs.declared.error.CrudErr.TheVariants.{Missing}
use Rattle.command_parse.specs.Items.{each_at, insert_item, update_item, delete_item}
use Rattle.command_parse.specs.Operations.{op_of, checked, namespace_in, batch_under, filter_under}
use Rattle.command_parse.specs.Operations.{falls_under, limit_under, built}
use Rattle.command_parse.specs.declared.command.Command.{Command}
use Rattle.command_parse.specs.declared.command.Command.TheVariants as command
use Rattle.command_parse.specs.declared.command.Statement.{Statement}
use Rattle.command_parse.specs.declared.command.Statement.TheVariants as statement
use Rattle.command_parse.specs.declared.rules.Batch.TheVariants.{Documents, Changes}
use Rattle.command_parse.specs.declared.rules.Change.TheVariants as change
use Rattle.client_cmd.specs.Commands as cmd
use Rattle.client_cmd.specs.declared.error.CmdErr.{CmdErr}
use Rattle.client_cmd.specs.declared.request.Request.{Request}
use Rattle.client_cmd.specs.declared.request.Request.TheVariants as request
use Rattle.router_plan.specs.Messages as messages
use Rattle.router_plan.specs.declared.message.Unserved.{Unserved}
use Rattle.router_state.specs.State.{RouterState, is_waiting}
use Rattle.txn_model.specs.declared.ran.Ran.{Ran}
use Rattle.txn_model.specs.declared.ran.Ran.TheVariants.{Step, Swapped}
use Rattle.cluster_core.specs.Answering.{Unanswered, opened, opened_by as opened_parts}
use Rattle.cluster_core.specs.Answering.{statements_in}
use Rattle.cluster_core.specs.Ledger.{Ledger, entered_by}
use Rattle.cluster_core.specs.Routers.{Asked, asked_by, asked_at, request_at, is_memory}
use Rattle.answer_laws.specs.Opened.{opened_at, opened_by, opened_from}
use Rattle.told_laws.specs.OneShard.{HaveIds}

ok_is : {A : Type 0} (x y : A) → ◌≡◌ {A = Result A CrudErr} (Ok x) (Ok y) → x ≡ y
ok_is x y e = cc

abbrev HasId : InsertItem → Type 0
HasId item = is_some (id_in item.doc) ≡ true

item_id : (place : ℕ) (doc : Document) (item : InsertItem) → insert_item place doc ≡ Ok item
    → HasId item
item_id place doc item e = by (is_some (id_in doc)) refl e
  where
    by : (b : Bool) → is_some (id_in doc) ≡ b
        → cond b (Ok (record { index = place; doc = doc })) (Err (Missing id_name)) ≡ Ok item
        → HasId item
    by true is e = subst HasId (ok_is (record { index = place; doc = doc }) item e) is
    by false is e = absurd cc

each_ids : (first : ℕ) (docs : List Document) (items : List InsertItem)
    → each_at insert_item first docs ≡ Ok items → All HasId items
each_ids first [] items e = subst (All HasId) (ok_is {A = List InsertItem} [] items e)
    (All-nil HasId)
each_ids first (doc ∷ docs) items e =
    let one = bind_ok (insert_item first doc)
    (λ y. with_front (y ∷ []) (each_at insert_item (first + 1) docs)) items e in
    let more = bind_ok (each_at insert_item (first + 1) docs) (λ zs. Ok (one.0 ∷ [] ++ zs)) items
    one.2 in
    subst (All HasId) (ok_is {A = List InsertItem} (one.0 ∷ more.0) items more.2)
    (All-cons HasId one.0 more.0 (item_id first doc one.0 one.1)
    (each_ids (first + 1) docs more.0 more.1))

find_ids : (ns : List ℕ) (f : Result Filter CrudErr) (d : Result Bool CrudErr)
    (l : Result ℕ CrudErr) (o : Op)
    → (f >>= λ filter. d >>= λ down. l >>= λ limit. Ok (op.Find ns filter down limit)) ≡ Ok o
    → HaveIds o
find_ids ns (Ok f) (Ok d) (Ok l) o e = subst HaveIds (ok_is (op.Find ns f d l) o e) tt
find_ids ns (Ok f) (Ok d) (Err x) o e = absurd cc
find_ids ns (Ok f) (Err x) l o e = absurd cc
find_ids ns (Err x) d l o e = absurd cc

built_ids : (s : Statement) (ns : List ℕ) (frame : Frame) (o : Op) → built s ns frame ≡ Ok o
    → HaveIds o
built_ids statement.Insert ns frame o e =
    let items = bind_ok (batch_under Documents frame >>= each_at insert_item 0)
    (λ docs. Ok (op.Insert ns docs)) o e in
    let docs = bind_ok (batch_under Documents frame) (each_at insert_item 0) items.0 items.1 in
    subst HaveIds (ok_is (op.Insert ns items.0) o items.2) (each_ids 0 docs.0 items.0 docs.2)
built_ids statement.Find ns frame o e = find_ids ns (filter_under frame.body)
    (falls_under frame.body) (limit_under frame.body) o e
built_ids statement.Update ns frame o e =
    let items = bind_ok (batch_under (Changes change.Update) frame >>= each_at update_item 0)
    (λ docs. Ok (op.Update ns docs)) o e in
    subst HaveIds (ok_is (op.Update ns items.0) o items.2) tt
built_ids statement.Delete ns frame o e =
    let items = bind_ok (batch_under (Changes change.Delete) frame >>= each_at delete_item 0)
    (λ docs. Ok (op.Delete ns docs)) o e in
    subst HaveIds (ok_is (op.Delete ns items.0) o items.2) tt

have_ids : (s : Statement) (frame : Frame) (o : Op) → op_of s frame ≡ Ok o → HaveIds o
unfolding op_of
have_ids s frame o e =
    let first = bind_ok (checked (command.Statement s) frame) _ o e in
    let ns = bind_ok (namespace_in s frame.body) _ o first.2 in
    built_ids s ns.0 frame o ns.2

-- Requests.

pub cmd_bind : {A B : Type 0} (r : Result A CmdErr) (f : A → Result B CmdErr) (y : B)
    → (r >>= f) ≡ Ok y → (x : A) × (r ≡ Ok x) × (f x ≡ Ok y)
cmd_bind (Ok x) f y e = (x, refl, e)
cmd_bind (Err d) f y e = absurd cc

pub cmd_is : {A : Type 0} (x y : A) → ◌≡◌ {A = Result A CmdErr} (Ok x) (Ok y) → x ≡ y
cmd_is x y e = cc

as_ok : (r : Result Op CrudErr) (o : Op) → cmd.as_command r ≡ Ok o → r ≡ Ok o
as_ok (Ok x) o e = ap (λ (y : Op). Ok y) (cmd_is x o e)
as_ok (Err d) o e = absurd cc

-- what a statement asks
abbrev op_in : Request → Option Op
op_in (request.Statement o txn at after more time) = Some o
op_in other = None

abbrev IdsIn : Option Op → Type 0
IdsIn None = Unit {0}
IdsIn (Some o) = HaveIds o

by_ids : (c : Command) (frame : Frame) (r : Request) → cmd.request_by c frame ≡ Ok r
    → IdsIn (op_in r)
by_ids command.Ping frame r e = let x = cmd_bind (cmd.as_command (checked command.Ping frame)) _ r
    e in subst (λ (q : Request). IdsIn (op_in q)) (cmd_is _ r x.2) tt
by_ids (command.Hello old_name) frame r e = let x = cmd_bind
    (cmd.as_command (checked (command.Hello old_name) frame)) _ r e in subst
    (λ (q : Request). IdsIn (op_in q)) (cmd_is _ r x.2) tt
by_ids (command.Statement s) frame r e =
    let x = cmd_bind (cmd.as_command (op_of s frame)) _ r e in
    subst (λ (q : Request). IdsIn (op_in q)) (cmd_is _ r x.2)
    (have_ids s frame x.0 (as_ok (op_of s frame) x.0 x.1))
by_ids command.Commit frame r e = let x = cmd_bind (cmd.as_command (checked command.Commit frame)) _
    r e in subst (λ (q : Request). IdsIn (op_in q)) (cmd_is _ r x.2) tt
by_ids command.Abort frame r e = let x = cmd_bind (cmd.as_command (checked command.Abort frame)) _ r
    e in subst (λ (q : Request). IdsIn (op_in q)) (cmd_is _ r x.2) tt
by_ids command.EndSessions frame r e = let x = cmd_bind
    (cmd.as_command (checked command.EndSessions frame)) _ r e in subst
    (λ (q : Request). IdsIn (op_in q)) (cmd_is _ r x.2) tt

request_ids : (wall : ℕ) (frame : Frame) (r : Request) → cmd.request_of wall frame ≡ Ok r
    → IdsIn (op_in r)
unfolding cmd.request_of
request_ids wall frame r e =
    let a = cmd_bind (cmd.command_in frame) _ r e in
    let b = cmd_bind (cmd.refused_where (cmd.is_unacknowledged frame) _) _ r a.2 in
    let c = cmd_bind (cmd.refused_where (cmd.is_retried a.0 frame) _) _ r b.2 in
    let d = cmd_bind (cmd.not_ahead wall (cmd.time_ahead wall frame.body)) _ r c.2 in
    by_ids a.0 frame r d.2

-- read, with what was read
pub asked_case : (x : Result Request CmdErr) (r : Request) → messages.asked_by x ≡ Ok r → x ≡ Ok r
asked_case (Ok q) r e = let same : q ≡ r = un_is q r e in ap (λ (y : Request). Ok y) same
  where
    un_is : (x y : Request) → ◌≡◌ {A = Result Request Unserved} (Ok x) (Ok y) → x ≡ y
    un_is x y e = cc
asked_case (Err d) r e = absurd cc

read_case : (wall : ℕ) (x : Result Frame FrameErr) (r : Request) → messages.read_by wall x ≡ Ok r
    → IdsIn (op_in r)
read_case wall (Ok frame) r e = request_ids wall frame r
    (asked_case (cmd.request_of wall frame) r e)
read_case wall (Err d) r e = absurd cc

pub asked_ids : (wall : ℕ) (bytes : List ℕ) (r : Request) → messages.asked_in wall bytes ≡ Ok r
    → IdsIn (op_in r)
unfolding messages.asked_in
asked_ids wall bytes r e = read_case wall (frame_of bytes) r e

-- What routers open.

abbrev OpenIds : Unanswered → Type 0
OpenIds u = HaveIds u.op

abbrev AskedIds : Option Asked → Type 0
AskedIds None = Unit {0}
AskedIds (Some asked) = IdsIn (op_in asked.1)

taken_ids : (conn : ℕ) (x : Result Request Unserved) → ((r : Request) → x ≡ Ok r → IdsIn (op_in r))
    → AskedIds (asked_by conn x)
taken_ids conn (Ok r) h = h r refl
taken_ids conn (Err why) h = tt

client_ids : (conn : ℕ) (test : Bool) (wall : ℕ) (bytes : List ℕ)
    → AskedIds (if test then None else asked_by conn (messages.asked_in wall bytes))
client_ids conn true wall bytes = tt
client_ids conn false wall bytes = taken_ids conn (messages.asked_in wall bytes)
    (asked_ids wall bytes)

at_ids : (r : RouterState) (wall : ℕ) (w : Happening) → AskedIds (asked_at r wall w)
at_ids r wall (what.Client conn bytes) = client_ids conn (is_waiting r conn) wall bytes
at_ids r wall (what.Gone conn) = tt
at_ids r wall (what.Deliver e) = tt
at_ids r wall what.Resend = tt
at_ids r wall what.Moment = tt

unless_memory : (test : Bool) (asked : Option Asked) → AskedIds asked
    → AskedIds (if test then None else asked)
unless_memory true asked h = tt
unless_memory false asked h = h

parts_ids : (n conn : ℕ) (o : Op) (parts : List (ℕ × Sent)) → HaveIds o
    → All OpenIds (opened_parts n conn o parts)
parts_ids n conn o [] h = All-nil OpenIds
parts_ids n conn o (part ∷ parts) h = All-cons OpenIds _ [] h (All-nil OpenIds)

opens_ids : (n : ℕ) (asked : Option Asked) (a : NodeAnswer) → AskedIds asked
    → All OpenIds (opened n asked a)
opens_ids n None a h = All-nil OpenIds
opens_ids n (Some (conn, request.Ping more time)) a h = All-nil OpenIds
opens_ids n (Some (conn, request.Hello old_name more time)) a h = All-nil OpenIds
opens_ids n (Some (conn, request.Statement o txn at after more time)) a h = parts_ids n conn o
    (statements_in a) h
opens_ids n (Some (conn, request.Commit txn t more time)) a h = All-nil OpenIds
opens_ids n (Some (conn, request.Abort txn more time)) a h = All-nil OpenIds
opens_ids n (Some (conn, request.EndSessions ids more time)) a h = All-nil OpenIds

step_ids : (n : ℕ) (r : Option RouterState) (e : NodeEvent) (a : NodeAnswer)
    → All OpenIds (opened_at n r e a)
step_ids n None e a = All-nil OpenIds
step_ids n (Some r) e a = opens_ids n (request_at r e a) a
    (unless_memory (is_memory a) (asked_at r (max r.wall e.wall) e.what)
    (at_ids r (max r.wall e.wall) e.what))

ran_ids : (l : Ledger) (ran : Ran) → All OpenIds (opened_by l ran)
ran_ids l (Step (Router n) e a faults) = step_ids n (slice_get l.routers n) e a
ran_ids l (Step (Shard n) e a faults) = All-nil OpenIds
ran_ids l (Swapped (Router n)) = All-nil OpenIds
ran_ids l (Swapped (Shard n)) = All-nil OpenIds

pub all_have_ids : (l : Ledger) (run : List Ran) → All (λ u. HaveIds u.op) (opened_from l run)
all_have_ids l [] = All-nil OpenIds
all_have_ids l (ran ∷ run) = All-append OpenIds (opened_by l ran)
    (opened_from (entered_by l ran).ledger run) (ran_ids l ran)
    (all_have_ids (entered_by l ran).ledger run)
