-- Each statement that a router sends fits, where what clients send is bytes.
use Rattle.std.proofs.Common.{◌≡◌, ◌<◌, ◌^◌, max, ℕ, Bool, true, false, All, List, [], ◌∷◌}
use Rattle.std.proofs.Common.{Option, Some, None, Result, Ok, Err, refl, sym, subst}
use Rattle.std.proofs.Common.{if◌then◌else◌}
use Rattle.std.specs.Prelude.{slice_get, slice_index}
use Rattle.std.proofs.lemmas.List.Elements.{All-nil, All-cons, All-append, All-head, All-tail}
use Rattle.std.proofs.lemmas.List.Elements.{All-contains, All-filter, All-weaker}
use Rattle.txn_types.specs.declared.event.Happening.{Happening}
use Rattle.txn_types.specs.declared.event.Happening.TheVariants as what
use Rattle.txn_types.specs.declared.event.NodeAnswer.{NodeAnswer}
use Rattle.txn_types.specs.declared.event.NodeEvent.{NodeEvent}
use Rattle.txn_types.specs.declared.message.Envelope.{Envelope}
use Rattle.txn_types.specs.declared.message.Msg.{Msg}
use Rattle.txn_types.specs.declared.message.Msg.TheVariants as msg
use Rattle.txn_types.specs.declared.message.Statement.{Statement as Sent}
use Rattle.txn_types.specs.declared.node.NodeId.{NodeId}
use Rattle.txn_types.specs.declared.node.NodeId.TheVariants.{Shard, Router}
use Rattle.txn_types.specs.declared.id.Id.{Id}
use Rattle.txn_types.specs.declared.operation.Op.{Op}
use Rattle.txn_types.specs.declared.operation.Op.TheVariants as op
use Rattle.txn_semantics.specs.Meaning.{document_rules, ns_of}
use Rattle.txn_semantics.specs.Splits.{goes, here, part_of}
use Rattle.chunk_map.specs.Map.{Map}
use Rattle.chunk_map.specs.Place.{shard_of}
use Rattle.client_cmd.specs.declared.request.Request.{Request}
use Rattle.client_cmd.specs.declared.request.Request.TheVariants as request
use Rattle.router_plan.specs.Messages as messages
use Rattle.router_plan.specs.declared.message.Unserved.{Unserved}
use Rattle.router_state.specs.State.{RouterState, is_waiting}
use Rattle.txn_model.specs.declared.ran.Ran.{Ran}
use Rattle.txn_model.specs.declared.ran.Ran.TheVariants.{Step, Swapped}
use Rattle.cluster_core.specs.Nodes.{Nodes}
use Rattle.cluster_core.specs.Trace.{IsFresh, IsTrace}
use Rattle.cluster_core.specs.Answering.{Unanswered, opened, opened_by as opened_parts}
use Rattle.cluster_core.specs.Answering.{statements_in}
use Rattle.cluster_core.specs.Ledger.{Ledger, entered_by, fresh_ledger}
use Rattle.cluster_core.specs.Routers.{Asked, asked_by, asked_at, request_at, is_memory}
use Rattle.answer_laws.specs.Opened.{opened_at, opened_by, opened_from}
use Rattle.answer_laws.specs.Parts.{IsPart, SentFit, SentTo}
use Rattle.answer_laws.proofs.Running.{all_parts}
use Rattle.request_laws.specs.Fitting.{InsertFits, OpFits}
use Rattle.fit_laws.specs.Bytes.{AreOfBytes, BringsBytes, IsOfBytes, StatementFits}
use Rattle.fit_laws.proofs.Asked.{RequestFits, asked_fits}

-- What routers open.

abbrev OpenFits : Unanswered → Type 0
OpenFits u = OpFits u.op

abbrev AskedFits : Option Asked → Type 0
AskedFits None = Unit {0}
AskedFits (Some asked) = RequestFits asked.1

taken_ids : (conn : ℕ) (x : Result Request Unserved) → ((r : Request) → x ≡ Ok r → RequestFits r)
    → AskedFits (asked_by conn x)
taken_ids conn (Ok r) h = h r refl
taken_ids conn (Err why) h = tt

client_ids : (conn : ℕ) (test : Bool) (wall : ℕ) (bytes : List ℕ)
    → ((place : ℕ) → slice_index bytes place < 2 ^ 8)
    → AskedFits (if test then None else asked_by conn (messages.asked_in wall bytes))
client_ids conn true wall bytes fits = tt
client_ids conn false wall bytes fits = taken_ids conn (messages.asked_in wall bytes)
    (λ r is. asked_fits wall bytes r fits is)

at_ids : (r : RouterState) (wall : ℕ) (w : Happening) → BringsBytes w
    → AskedFits (asked_at r wall w)
at_ids r wall (what.Client conn bytes) fits =
    client_ids conn (is_waiting r conn) wall bytes fits
at_ids r wall (what.Gone conn) fits = tt
at_ids r wall (what.Deliver e) fits = tt
at_ids r wall what.Resend fits = tt
at_ids r wall what.Moment fits = tt

unless_memory : (test : Bool) (asked : Option Asked) → AskedFits asked
    → AskedFits (if test then None else asked)
unless_memory true asked h = tt
unless_memory false asked h = h

parts_ids : (n conn : ℕ) (o : Op) (parts : List (ℕ × Sent)) → OpFits o
    → All OpenFits (opened_parts n conn o parts)
parts_ids n conn o [] h = All-nil OpenFits
parts_ids n conn o (part ∷ parts) h = All-cons OpenFits _ [] h (All-nil OpenFits)

opens_ids : (n : ℕ) (asked : Option Asked) (a : NodeAnswer) → AskedFits asked
    → All OpenFits (opened n asked a)
opens_ids n None a h = All-nil OpenFits
opens_ids n (Some (conn, request.Ping more time)) a h = All-nil OpenFits
opens_ids n (Some (conn, request.Hello old_name more time)) a h = All-nil OpenFits
opens_ids n (Some (conn, request.Statement o txn at after more time)) a h = parts_ids n conn o
    (statements_in a) h.0
opens_ids n (Some (conn, request.Commit txn t more time)) a h = All-nil OpenFits
opens_ids n (Some (conn, request.Abort txn more time)) a h = All-nil OpenFits
opens_ids n (Some (conn, request.EndSessions ids more time)) a h = All-nil OpenFits

step_ids : (n : ℕ) (r : Option RouterState) (e : NodeEvent) (a : NodeAnswer) → BringsBytes e.what
    → All OpenFits (opened_at n r e a)
step_ids n None e a fits = All-nil OpenFits
step_ids n (Some r) e a fits = opens_ids n (request_at r e a) a
    (unless_memory (is_memory a) (asked_at r (max r.wall e.wall) e.what)
    (at_ids r (max r.wall e.wall) e.what fits))

ran_ids : (l : Ledger) (ran : Ran) → IsOfBytes ran → All OpenFits (opened_by l ran)
ran_ids l (Step (Router n) e a faults) fits = step_ids n (slice_get l.routers n) e a fits
ran_ids l (Step (Shard n) e a faults) fits = All-nil OpenFits
ran_ids l (Swapped (Router n)) fits = All-nil OpenFits
ran_ids l (Swapped (Shard n)) fits = All-nil OpenFits

opened_fit : (l : Ledger) (run : List Ran) → AreOfBytes run → All OpenFits (opened_from l run)
opened_fit l [] fits = All-nil OpenFits
opened_fit l (ran ∷ run) fits = All-append OpenFits (opened_by l ran)
    (opened_from (entered_by l ran).ledger run) (ran_ids l ran (All-head IsOfBytes ran run fits))
    (opened_fit (entered_by l ran).ledger run (All-tail IsOfBytes ran run fits))

-- Parts.

part_fits : (p : Id → Bool) (o : Op) → OpFits o → OpFits (part_of document_rules p o)
part_fits p (op.Insert ns docs) h = (h.0, All-filter (goes document_rules p) InsertFits docs h.1)
part_fits p (op.Find ns wanted down limit) h = h
part_fits p (op.Update ns items) h = h
part_fits p (op.Delete ns items) h = h

is_part_fits : (chunks : Map) (begun : List Unanswered) (shard : ℕ) (m : Sent)
    → All OpenFits begun → IsPart chunks begun shard m → OpFits m.op
is_part_fits chunks begun shard m all part =
    let own : OpFits part.statement.op =
    All-contains OpenFits begun part.statement all part.opened in
    subst OpFits (sym part.op)
    (part_fits (here (shard_of chunks (ns_of part.statement.op)) shard) part.statement.op own)

to_fits : (chunks : Map) (begun : List Unanswered) (to : NodeId) (m : Msg) → All OpenFits begun
    → SentTo (IsPart chunks begun) to m → SentTo StatementFits to m
to_fits chunks begun (Router n) m all h = tt
to_fits chunks begun (Shard n) (msg.Statement m) all h = is_part_fits chunks begun n m all h
to_fits chunks begun (Shard n) other all h = tt

pub sent_fits : (chunks : Map) (start : Nodes) (run : List Ran) (trace : List Nodes) (now : Nodes)
    → IsFresh chunks start → IsTrace start run trace now → AreOfBytes run
    → SentFit StatementFits now.sent
sent_fits chunks start run trace now fresh is fits =
    let begun = opened_from (fresh_ledger start.routers) run in
    let all = opened_fit (fresh_ledger start.routers) run fits in
    All-weaker (λ (e : Envelope). SentTo (IsPart chunks begun) e.to e.msg)
    (λ (e : Envelope). SentTo StatementFits e.to e.msg)
    (λ e h. to_fits chunks begun e.to e.msg all h) now.sent
    (all_parts chunks start run trace now fresh is)
