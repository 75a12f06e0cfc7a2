-- What a client's message asks fits: the operation; and the transaction that it names, whose session
-- has 16 bytes and whose number has 64 bits.
use Rattle.std.proofs.Common.{◌≡◌, ◌<◌, ◌^◌, ℕ, ℤ, Bool, true, false, List, []}
use Rattle.std.proofs.Common.{Option, Some, None, Result, Ok, Err, refl, ap, subst}
use Rattle.std.proofs.Common.{arith, codes, length, if◌then◌else◌, ◌&&◌, ◌==◌}
use Rattle.std.specs.Prelude.{FitsSigned, slice_index, option_map, unwrap_or}
use Rattle.std.specs.Int.{w64}
use Rattle.bson_core.specs.declared.value.Value.{Value}
use Rattle.bson_core.specs.declared.value.Value.TheOpen as of
use Rattle.bson_core.specs.declared.value.Value.TheOpen.{Value-F}
use Rattle.bson_core.specs.declared.value.Value.TheViews.{out-Value}
use Rattle.bson_core.specs.Fields.{value_of}
use Rattle.op_msg.specs.Reading.{frame_of}
use Rattle.op_msg.specs.declared.frame.Frame.{Frame}
use Rattle.op_msg.specs.declared.frame.FrameErr.{FrameErr}
use Rattle.txn_types.specs.Ids.{id_of_kind}
use Rattle.txn_types.specs.declared.id.Id.TheVariants as kinds
use Rattle.txn_types.specs.declared.node.Lsid.{Lsid}
use Rattle.txn_types.specs.declared.node.Lsid.TheVariants.{Client, Own}
use Rattle.crud_parse.specs.declared.error.CrudErr.{CrudErr}
use Rattle.command_parse.specs.Checks.{Checked}
use Rattle.command_parse.specs.Operations.{op_of, checked, is_in_transaction}
use Rattle.command_parse.specs.Values.{is_uuid, number_in, session_id, session_in}
use Rattle.command_parse.specs.declared.command.Command.{Command}
use Rattle.command_parse.specs.declared.command.Command.TheVariants as command
use Rattle.client_cmd.specs.Commands as cmd
use Rattle.client_cmd.specs.declared.request.Request.{Request}
use Rattle.client_cmd.specs.declared.request.Request.TheVariants as request
use Rattle.client_cmd.specs.declared.request.Txn.{Txn}
use Rattle.client_cmd.proofs.Sessions.{HasSession, statement_session, commit_session}
use Rattle.client_cmd.proofs.Sessions.{abort_session}
use Rattle.participant.proofs.Cases.{either}
use Rattle.router_plan.specs.Messages as messages
use Rattle.told_laws.proofs.Requests.{asked_case, cmd_bind, cmd_is}
use Rattle.request_laws.specs.Fitting.{OpFits}
use Rattle.request_laws.proofs.Docs.{IsRead, named_read, value_fits}
use Rattle.request_laws.proofs.Requests.{FrameRead, frame_read, op_fits}

-- a client's session
abbrev pub IsClients : Lsid → Type 0
IsClients (Client bytes) = length bytes ≡ 16
IsClients (Own router boot conn) = ⊥

pub record TxnFits (t : Txn) : Type 0 where
  pub lsid : IsClients t.lsid
  pub number : FitsSigned w64 t.number

abbrev pub TxnIn : Option Txn → Type 0
TxnIn None = Unit {0}
TxnIn (Some t) = TxnFits t

-- what a request asks and names
abbrev pub RequestFits : Request → Type 0
RequestFits (request.Statement o txn at after more time) = OpFits o × TxnIn txn
RequestFits (request.Commit txn t more time) = TxnIn txn
RequestFits (request.Abort txn more time) = TxnIn txn
RequestFits other = Unit {0}

-- The number.

number_case : (x : Value-F Value) (n : ℤ) → number_in x ≡ Some n
    → id_of_kind x ≡ Some (kinds.Num n)
number_case (of.Int m) n e = ap (λ (k : ℤ). Some (kinds.Num k)) (some_is m n e)
  where
    some_is : (a b : ℤ) → ◌≡◌ {A = Option ℤ} (Some a) (Some b) → a ≡ b
    some_is a b e = cc
number_case (of.Long m) n e = ap (λ (k : ℤ). Some (kinds.Num k)) (some_is m n e)
  where
    some_is : (a b : ℤ) → ◌≡◌ {A = Option ℤ} (Some a) (Some b) → a ≡ b
    some_is a b e = cc
number_case other n e = absurd cc

number_fits : (value : Value) (n : ℤ) → IsRead value → number_in (out-Value value) ≡ Some n
    → FitsSigned w64 n
number_fits value n h e =
    (value_fits value h).id (kinds.Num n) (number_case (out-Value value) n e)

-- The session.

and_second : (a b : Bool) → (a && b) ≡ true → b ≡ true
and_second true b h = h
and_second false b h = absurd cc

uuid_has : (x : Value-F Value) → is_uuid x ≡ true → length (cmd.session_bytes x) ≡ 16
uuid_has (of.Bin b) e =
    let same : (length b.bytes == 16) ≡ true = and_second (b.subtype == 4) (length b.bytes == 16) e in
    grind (arith, same)
uuid_has other e = absurd cc

id_case : (value : Value) (test : Bool) (why : CrudErr) → is_uuid (out-Value value) ≡ test
    → ◌≡◌ {A = Checked} (if test then Ok None else Err why) (Ok None)
    → length (cmd.session_bytes (out-Value value)) ≡ 16
id_case value true why is e = uuid_has (out-Value value) is
id_case value false why is e = absurd cc

id_has : (o : Option Value) → session_id o ≡ Ok None
    → IsClients (Client (unwrap_or (option_map (λ value. cmd.session_bytes (out-Value value)) o) []))
id_has None e = absurd cc
id_has (Some value) e = id_case value (is_uuid (out-Value value)) _ refl e

session_fits : (x : Value-F Value) → session_in (codes "lsid") x ≡ Ok None
    → IsClients (cmd.session_by x)
session_fits (of.Doc fields) e = id_has (value_of (codes "id") fields) e
session_fits other e = absurd cc

-- A transaction.

number_by : (lsid number : Value) (start : Bool) (o : Option ℤ)
    → IsClients (cmd.session_by (out-Value lsid)) → ((n : ℤ) → o ≡ Some n → FitsSigned w64 n)
    → TxnIn (option_map
    (λ n. record { lsid = cmd.session_by (out-Value lsid); number = n; start = start }) o)
number_by lsid number start None h k = tt
number_by lsid number start (Some n) h k = record { lsid = h; number = k n refl }

txn_by : (lsid number : Option Value) (start : Bool)
    → ((v : Value) → lsid ≡ Some v → session_in (codes "lsid") (out-Value v) ≡ Ok None)
    → ((v : Value) → number ≡ Some v → IsRead v) → TxnIn (cmd.txn_by lsid number start)
txn_by (Some lsid) (Some number) start h k =
    number_by lsid number start (number_in (out-Value number))
    (session_fits (out-Value lsid) (h lsid refl)) (λ n e. number_fits number n (k number refl) e)
txn_by (Some lsid) None start h k = tt
txn_by None number start h k = tt

txn_fits : (frame : Frame) → HasSession frame → FrameRead frame → TxnIn (cmd.txn_in frame.body)
txn_fits frame h read =
    txn_by (value_of (codes "lsid") frame.body) (value_of (codes "txnNumber") frame.body)
    (cmd.starts_in frame.body) h (λ v e. named_read (codes "txnNumber") frame.body v e read.body)

-- Requests.

as_ok : {A : Type 0} (r : Result A CrudErr) (o : A) → cmd.as_command r ≡ Ok o → r ≡ Ok o
as_ok (Ok x) o e = ap (λ (y : _). Ok y) (cmd_is x o e)
as_ok (Err d) o e = absurd cc

by_fits : (c : Command) (frame : Frame) (r : Request) → FrameRead frame
    → cmd.request_by c frame ≡ Ok r → RequestFits r
by_fits command.Ping frame r f e = let x = cmd_bind (cmd.as_command (checked command.Ping frame)) _
    r e in subst RequestFits (cmd_is _ r x.2) tt
by_fits (command.Hello old_name) frame r f e = let x = cmd_bind
    (cmd.as_command (checked (command.Hello old_name) frame)) _ r e in
    subst RequestFits (cmd_is _ r x.2) tt
by_fits (command.Statement s) frame r f e =
    let x = cmd_bind (cmd.as_command (op_of s frame)) _ r e in
    let op = as_ok (op_of s frame) x.0 x.1 in
    subst RequestFits (cmd_is _ r x.2) (
      op_fits s frame x.0 op f,
      either (is_in_transaction frame) TxnIn (cmd.txn_in frame.body) None
          (txn_fits frame (statement_session s frame x.0 op) f) tt,
    )
by_fits command.Commit frame r f e =
    let x = cmd_bind (cmd.as_command (checked command.Commit frame)) _ r e in
    subst RequestFits (cmd_is _ r x.2)
    (txn_fits frame (commit_session frame x.0 (as_ok (checked command.Commit frame) x.0 x.1)) f)
by_fits command.Abort frame r f e =
    let x = cmd_bind (cmd.as_command (checked command.Abort frame)) _ r e in
    subst RequestFits (cmd_is _ r x.2)
    (txn_fits frame (abort_session frame x.0 (as_ok (checked command.Abort frame) x.0 x.1)) f)
by_fits command.EndSessions frame r f e = let x = cmd_bind
    (cmd.as_command (checked command.EndSessions frame)) _ r e in
    subst RequestFits (cmd_is _ r x.2) tt

request_fits : (wall : ℕ) (frame : Frame) (r : Request) → FrameRead frame
    → cmd.request_of wall frame ≡ Ok r → RequestFits r
unfolding cmd.request_of
request_fits wall frame r f e =
    let a = cmd_bind (cmd.command_in frame) _ r e in
    let b = cmd_bind (cmd.refused_where (cmd.is_unacknowledged frame) _) _ r a.2 in
    let c = cmd_bind (cmd.refused_where (cmd.is_retried a.0 frame) _) _ r b.2 in
    let d = cmd_bind (cmd.not_ahead wall (cmd.time_ahead wall frame.body)) _ r c.2 in
    by_fits a.0 frame r f d.2

read_case : (wall : ℕ) (x : Result Frame FrameErr) (r : Request)
    → ((f : Frame) → x ≡ Ok f → FrameRead f) → messages.read_by wall x ≡ Ok r → RequestFits r
read_case wall (Ok frame) r f e = request_fits wall frame r (f frame refl)
    (asked_case (cmd.request_of wall frame) r e)
read_case wall (Err d) r f e = absurd cc

pub asked_fits : (wall : ℕ) (bytes : List ℕ) (r : Request)
    → ((place : ℕ) → slice_index bytes place < 2 ^ 8) → messages.asked_in wall bytes ≡ Ok r
    → RequestFits r
unfolding messages.asked_in
asked_fits wall bytes r fits e = read_case wall (frame_of bytes) r
    (λ frame read. frame_read bytes frame (λ i. omega (arith, fits i)) read) e
