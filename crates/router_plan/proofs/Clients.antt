-- The sessions that a client's request names are those of clients.
use Rattle.std.proofs.Common.{◌≡◌, ℕ, ℤ, Bool, true, false, List, Option, Some, None, Result, Ok}
use Rattle.std.proofs.Common.{Err, refl, subst, if◌then◌else◌}
use Rattle.std.specs.Prelude.{codes, option_map}
use Rattle.outcomes.specs.Bind.{◌>>=◌}
use Rattle.bson_core.specs.declared.value.Value.{Value}
use Rattle.bson_core.specs.declared.value.Value.TheOpen as of
use Rattle.bson_core.specs.declared.value.Value.TheOpen.{Value-F}
use Rattle.bson_core.specs.declared.value.Value.TheViews.{out-Value}
use Rattle.bson_core.specs.Fields.{Document, value_of}
use Rattle.op_msg.specs.Reading.{frame_of}
use Rattle.op_msg.specs.declared.frame.Frame.{Frame}
use Rattle.op_msg.specs.declared.frame.FrameErr.{FrameErr}
use Rattle.txn_types.specs.declared.node.Lsid.{Lsid}
use Rattle.command_parse.specs.declared.command.Command.{Command}
use Rattle.command_parse.specs.declared.command.Command.TheVariants as command
use Rattle.command_parse.specs.Operations.{op_of, checked, is_in_transaction}
use Rattle.command_parse.specs.Values.{number_in}
use Rattle.client_cmd.specs.declared.error.CmdErr.{CmdErr}
use Rattle.client_cmd.specs.declared.error.CmdErr.TheVariants.{Unacknowledged, RetryWrite}
use Rattle.client_cmd.specs.declared.request.Request.{Request}
use Rattle.client_cmd.specs.declared.request.Request.TheVariants as request
use Rattle.client_cmd.specs.Commands.{as_command, command_in, is_unacknowledged, is_retried}
use Rattle.client_cmd.specs.Commands.{refused_where, not_ahead, time_ahead, session_by, starts_in}
use Rattle.client_cmd.specs.Commands.{txn_by, txn_in, statement_txn, token_under, sessions_under}
use Rattle.client_cmd.specs.Commands.{seen_time, at_time, after_time, request_by, request_of}
use Rattle.router_state.specs.State.{is_own}
use Rattle.router_plan.specs.Messages.{asked_by, read_by, asked_in}
use Rattle.router_plan.specs.Names.{NamesClient, IsClients}

ok_behind : {A B : Type 0} (r : Result A CmdErr) (f : A → Result B CmdErr) (y : B)
    → (r >>= f) ≡ Ok y → (x : A) × (f x ≡ Ok y)
ok_behind (Ok x) f y h = (x, h)
ok_behind (Err e) f y h = cc

ok_same : (a b : Request) → ◌≡◌ {A = Result Request CmdErr} (Ok a) (Ok b) → a ≡ b
ok_same a b h = cc

-- Sessions.

session_is : (fields : Value-F Value) → is_own (session_by fields) ≡ false
session_is (of.Doc fields) = refl
session_is other = refl

numbered_is : (lsid : Lsid) (number : Option ℤ) (start : Bool) → is_own lsid ≡ false
    → NamesClient (option_map (λ n. record { lsid = lsid; number = n; start = start }) number)
numbered_is lsid None start h = tt
numbered_is lsid (Some n) start h = h

by_is : (lsid number : Option Value) (start : Bool) → NamesClient (txn_by lsid number start)
by_is None number start = tt
by_is (Some lsid) None start = tt
by_is (Some lsid) (Some number) start = numbered_is (session_by (out-Value lsid))
    (number_in (out-Value number)) start (session_is (out-Value lsid))

txn_is : (body : Document) → NamesClient (txn_in body)
txn_is body =
    by_is (value_of (codes "lsid") body) (value_of (codes "txnNumber") body) (starts_in body)

statement_case : (b : Bool) (body : Document) → NamesClient (if b then txn_in body else None)
statement_case true body = txn_is body
statement_case false body = tt

-- Requests.

by_command : (c : Command) (frame : Frame) (r : Request) → request_by c frame ≡ Ok r → IsClients r
by_command command.Ping frame r h = subst IsClients (ok_same (request.Ping frame.more
    (seen_time frame.body)) r (ok_behind (as_command (checked command.Ping frame)) _ r h).1) tt
by_command (command.Hello old_name) frame r h =
    subst IsClients (ok_same (request.Hello old_name frame.more (seen_time frame.body)) r
    (ok_behind (as_command (checked (command.Hello old_name) frame)) _ r h).1) tt
by_command (command.Statement s) frame r h =
    let done = ok_behind (as_command (op_of s frame)) _ r h in
    subst IsClients (ok_same (request.Statement done.0 (statement_txn frame)
    (at_time frame.body) (after_time frame.body) frame.more (seen_time frame.body)) r done.1)
    (statement_case (is_in_transaction frame) frame.body)
by_command command.Commit frame r h = subst IsClients (ok_same
    (request.Commit (txn_in frame.body) (token_under frame.body) frame.more (seen_time frame.body))
    r (ok_behind (as_command (checked command.Commit frame)) _ r h).1) (txn_is frame.body)
by_command command.Abort frame r h =
    subst IsClients (ok_same (request.Abort (txn_in frame.body) frame.more (seen_time frame.body)) r
    (ok_behind (as_command (checked command.Abort frame)) _ r h).1) (txn_is frame.body)
by_command command.EndSessions frame r h = subst IsClients
    (ok_same (request.EndSessions (sessions_under frame.body) frame.more (seen_time frame.body)) r
    (ok_behind (as_command (checked command.EndSessions frame)) _ r h).1) tt

in_frame : (wall : ℕ) (frame : Frame) (r : Request) → request_of wall frame ≡ Ok r → IsClients r
unfolding request_of
in_frame wall frame r h =
    let a = ok_behind (command_in frame) _ r h in
    let b = ok_behind (refused_where (is_unacknowledged frame) Unacknowledged) _ r a.1 in
    let c = ok_behind (refused_where (is_retried a.0 frame) RetryWrite) _ r b.1 in
    let d = ok_behind (not_ahead wall (time_ahead wall frame.body)) _ r c.1 in
    by_command a.0 frame r d.1

asked_ok : (r : Result Request CmdErr) (asked : Request) → asked_by r ≡ Ok asked → r ≡ Ok asked
asked_ok (Ok r) asked h = cc
asked_ok (Err e) asked h = cc

read_ok : (wall : ℕ) (frame : Result Frame FrameErr) (r : Request) → read_by wall frame ≡ Ok r
    → IsClients r
read_ok wall (Ok frame) r h = in_frame wall frame r (asked_ok (request_of wall frame) r h)
read_ok wall (Err e) r h = cc

pub asked_clients : (wall : ℕ) (bytes : List ℕ) (r : Request) → asked_in wall bytes ≡ Ok r
    → IsClients r
unfolding asked_in
asked_clients wall bytes r h = read_ok wall (frame_of bytes) r h
