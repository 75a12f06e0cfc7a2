-- The sessions of a command that was checked.
use Rattle.std.proofs.Common.{◌≡◌, ℕ, Bool, true, false, cond, List, [], ◌∷◌, length, Some, None}
use Rattle.std.proofs.Common.{Ok, Err, refl, subst, codes}
use Rattle.std.specs.Prelude.{nat_le, ◌&&◌}
use Rattle.bson_core.specs.declared.value.Value.{Value}
use Rattle.bson_core.specs.declared.value.Value.TheOpen as of
use Rattle.bson_core.specs.declared.value.Value.TheOpen.{Value-F}
use Rattle.bson_core.specs.declared.value.Value.TheViews.{out-Value}
use Rattle.bson_core.specs.Fields.{value_of}
use Rattle.op_msg.specs.declared.frame.Frame.{Frame}
use Rattle.txn_types.specs.declared.operation.Op.{Op}
use Rattle.command_parse.specs.declared.command.Command.{Command}
use Rattle.command_parse.specs.declared.command.Command.TheVariants as command
use Rattle.command_parse.specs.declared.command.Statement.{Statement}
use Rattle.command_parse.specs.declared.command.Statement.TheVariants as statement
use Rattle.command_parse.specs.declared.rules.Rule.TheVariants as rule
use Rattle.command_parse.specs.Commands.{rule_of}
use Rattle.crud_parse.specs.declared.error.CrudErr.{CrudErr}
use Rattle.crud_parse.specs.declared.error.CrudErr.TheVariants.{WrongKind}
use Rattle.command_parse.specs.Checks.{Checked, check_each}
use Rattle.command_parse.specs.Values.{session_in, sessions_in}
use Rattle.command_parse.specs.Operations.{checked, op_of}
use Rattle.client_cmd.specs.Lists.{list_of}
use Rattle.command_parse.proofs.Checked.{both_checked, field_is_checked, op_is_checked}

-- a session is one under any name
any_name : (a b : List ℕ) (v : Value-F Value) → session_in a v ≡ Ok None → session_in b v ≡ Ok None
any_name a b (of.Doc fields) e = e
any_name a b other e = absurd cc

abbrev AreSessions : List ℕ → List Value → Type 0
AreSessions name values = check_each (λ value. session_in name (out-Value value)) values ≡ Ok None

pub all_names : (a b : List ℕ) (values : List Value) → AreSessions a values → AreSessions b values
all_names a b [] e = refl
all_names a b (value ∷ values) e =
    let both = both_checked (λ (v : Value). session_in a (out-Value v)) value values e in
    rw (any_name a b (out-Value value) both.0, all_names a b values both.1) refl

chosen : (b : Bool) (r : Checked) (e : CrudErr) → cond b r (Err e) ≡ Ok None → r ≡ Ok None
chosen true r e is = is
chosen false r e is = absurd cc

-- the values of a list of sessions
pub listed : (values : List Value) → sessions_in (codes "endSessions") (of.List values) ≡ Ok None
    → check_each (λ value. session_in (codes "lsid") (out-Value value)) values ≡ Ok None
listed values e =
    all_names (codes "endSessions") (codes "lsid") values
    (chosen (nat_le 1 (length values) && nat_le (length values) 100000)
    (check_each (λ value. session_in (codes "endSessions") (out-Value value)) values)
    (WrongKind (codes "endSessions")) e)

pub listed_by : (v : Value-F Value) (values : List Value)
    → list_of v ≡ Some values → sessions_in (codes "endSessions") v ≡ Ok None
    → check_each (λ value. session_in (codes "lsid") (out-Value value)) values ≡ Ok None
listed_by (of.List found) values is e = let same : found ≡ values = cc in
    subst (λ (l : List Value). check_each (λ value. session_in (codes "lsid") (out-Value value)) l
    ≡ Ok None) same (listed found e)
listed_by other values is e = absurd cc

pub is_listed : (v : Value-F Value) → list_of v ≡ None
    → sessions_in (codes "endSessions") v ≡ Ok None → ⊥
is_listed (of.List found) is e = absurd cc
is_listed other is e = absurd cc

-- the field `lsid` of a body is a session
abbrev pub HasSession : Frame → Type 0
HasSession frame = (v : Value) → value_of (codes "lsid") frame.body ≡ Some v
    → session_in (codes "lsid") (out-Value v) ≡ Ok None

of_statement : (s : Statement) → rule_of (command.Statement s) (codes "lsid") ≡ Some rule.Session
of_statement statement.Insert = refl
of_statement statement.Find = refl
of_statement statement.Update = refl
of_statement statement.Delete = refl

pub statement_session : (s : Statement) (frame : Frame) (op : Op) → op_of s frame ≡ Ok op
    → HasSession frame
statement_session s frame op e v is =
    let c = op_is_checked s frame op e in
    field_is_checked (command.Statement s) frame (codes "lsid") v rule.Session c.0 c.1 is
    (of_statement s)

pub commit_session : (frame : Frame) (u : Unit {0}) → checked command.Commit frame ≡ Ok u
    → HasSession frame
commit_session frame u e v is =
    field_is_checked command.Commit frame (codes "lsid") v rule.Session u e is refl

pub abort_session : (frame : Frame) (u : Unit {0}) → checked command.Abort frame ≡ Ok u
    → HasSession frame
abort_session frame u e v is =
    field_is_checked command.Abort frame (codes "lsid") v rule.Session u e is refl

pub ended_sessions : (frame : Frame) (u : Unit {0}) → checked command.EndSessions frame ≡ Ok u
    → (v : Value) → value_of (codes "endSessions") frame.body ≡ Some v
    → sessions_in (codes "endSessions") (out-Value v) ≡ Ok None
ended_sessions frame u e v is =
    field_is_checked command.EndSessions frame (codes "endSessions") v rule.Sessions u e is refl
