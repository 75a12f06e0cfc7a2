-- What a request names to read at isn't 0: its read concern was checked.
use Rattle.std.proofs.Common.{◌≡◌, ◌<◌, ◌||◌, ℕ, Bool, true, false, cond, List, [], ◌∷◌, ◌++◌}
use Rattle.std.proofs.Common.{Option, Some, None, Result, Ok, Err, refl, sym, ap, subst, ◌∙◌, arith}
use Rattle.std.proofs.Common.{codes, ◌==◌, if◌then◌else◌}
use Rattle.std.specs.Option.{option_and_then}
use Rattle.std.specs.Str.{bytes_eq}
use Rattle.std.proofs.lemmas.Slice.Eq.{bytes_eq-Decides}
use Rattle.bson_core.specs.declared.value.Value.{Value}
use Rattle.bson_core.specs.declared.value.Value.TheOpen as of
use Rattle.bson_core.specs.declared.value.Value.TheOpen.{Value-F}
use Rattle.bson_core.specs.declared.value.Value.TheViews.{out-Value}
use Rattle.bson_core.specs.Fields.{Document, value_of}
use Rattle.op_msg.specs.Reading.{frame_of}
use Rattle.op_msg.specs.declared.frame.Frame.{Frame}
use Rattle.op_msg.specs.declared.frame.FrameErr.{FrameErr}
use Rattle.txn_types.specs.declared.operation.Op.{Op}
use Rattle.crud_parse.specs.declared.error.CrudErr.{CrudErr}
use Rattle.command_parse.specs.declared.command.Command.{Command}
use Rattle.command_parse.specs.declared.command.Command.TheVariants as command
use Rattle.command_parse.specs.declared.command.Statement.{Statement}
use Rattle.command_parse.specs.declared.command.Statement.TheVariants as statement
use Rattle.command_parse.specs.declared.rules.Rule.TheVariants as rule
use Rattle.command_parse.specs.Checks.{Checked, check_each, is_among, firsts_behind, firsts}
use Rattle.command_parse.specs.Checks.{complete, or_wrong}
use Rattle.command_parse.specs.Commands.{rule_of}
use Rattle.command_parse.specs.Operations.{op_of, checked}
use Rattle.command_parse.specs.Values.{time_in, above_zero, concern_field, concern_in, document_in}
use Rattle.command_parse.proofs.Checked.{both_checked, field_is_checked, op_is_checked}
use Rattle.client_cmd.specs.declared.error.CmdErr.{CmdErr}
use Rattle.client_cmd.specs.declared.error.CmdErr.TheVariants.{Unacknowledged, RetryWrite}
use Rattle.client_cmd.specs.declared.request.Request.{Request}
use Rattle.client_cmd.specs.declared.request.Request.TheVariants as request
use Rattle.client_cmd.specs.Commands as cmd
use Rattle.router_plan.specs.Messages.{asked_by, read_by, asked_in}
use Rattle.chain_laws.proofs.Moving.{IsUp}
use Rattle.told_laws.proofs.Requests.{cmd_bind}

-- The first field of a name in a document that was checked field by field.

not_among_by : (b rest more : Bool) → (b || rest) ≡ false → (rest ≡ false → more ≡ false)
    → (b || more) ≡ false
not_among_by true rest more among later = absurd cc
not_among_by false rest more among later = later among

not_among : (name other : List ℕ) (names : List (List ℕ)) → is_among name names ≡ false
    → bytes_eq other name ≡ false → is_among name (names ++ other ∷ []) ≡ false
not_among name other [] among differs = rw differs refl
not_among name other (first ∷ names) among differs =
    not_among_by (bytes_eq first name) (is_among name names) (is_among name (names ++ other ∷ []))
    among (λ h. not_among name other names h differs)

first_by : (check : List ℕ × Value → Checked) (name : List ℕ) (names : List (List ℕ))
    (field : List ℕ × Value) (fields : Document) (x : Value) (same known : Bool)
    → bytes_eq field.0 name ≡ same → is_among field.0 names ≡ known → is_among name names ≡ false
    → cond same (Some field.1) (value_of name fields) ≡ Some x
    → check_each check (cond known (firsts_behind names fields)
    (field ∷ firsts_behind (names ++ field.0 ∷ []) fields)) ≡ Ok None
    → ((others : List (List ℕ)) → is_among name others ≡ false → value_of name fields ≡ Some x
    → check_each check (firsts_behind others fields) ≡ Ok None → check (name, x) ≡ Ok None)
    → check (name, x) ≡ Ok None
first_by check name names field fields x true true s k among is e later =
    absurd (let bad : true ≡ false = sym k
    ∙ ap (λ (n : List ℕ). is_among n names) ((bytes_eq-Decides field.0 name).0 s) ∙ among in cc)
first_by check name names field fields x true false s k among is e later =
    let named : field.0 ≡ name = (bytes_eq-Decides field.0 name).0 s in
    let given : field.1 ≡ x = cc in
    let this : ◌≡◌ {A = List ℕ × Value} field (name, x) = λ i. (named i, given i) in
    subst (λ (f : List ℕ × Value). check f ≡ Ok None) this
    (both_checked check field (firsts_behind (names ++ field.0 ∷ []) fields) e).0
first_by check name names field fields x false true s k among is e later = later names among is e
first_by check name names field fields x false false s k among is e later =
    later (names ++ field.0 ∷ []) (not_among name field.0 names among s) is
    (both_checked check field (firsts_behind (names ++ field.0 ∷ []) fields) e).1

first_checked : (check : List ℕ × Value → Checked) (name : List ℕ) (names : List (List ℕ))
    (fields : Document) (x : Value) → is_among name names ≡ false → value_of name fields ≡ Some x
    → check_each check (firsts_behind names fields) ≡ Ok None → check (name, x) ≡ Ok None
first_checked check name names [] x among is e = absurd cc
first_checked check name names (field ∷ fields) x among is e =
    first_by check name names field fields x (bytes_eq field.0 name) (is_among field.0 names) refl
    refl among is e (λ others. first_checked check name others fields x)

-- The time of a read concern.

abbrev at_name : List ℕ
at_name = codes "atClusterTime"

complete_up : (o : Option ℕ) → complete (or_wrong at_name (option_and_then above_zero o)) ≡ Ok None
    → IsUp o
complete_up None e = tt
complete_up (Some t) e = by (t == 0) refl e
  where
    by : (test : Bool) → (t == 0) ≡ test
        → complete (or_wrong at_name (if test then None else Some t)) ≡ Ok None → 0 < t
    by true is e = absurd cc
    by false is e = grind (arith, is)

field_up : (w : Value) → concern_field (at_name, w) ≡ Ok None → IsUp (time_in (out-Value w))
field_up w e = complete_up (time_in (out-Value w)) e

found_up : (fields : Document) (o : Option Value) → value_of at_name fields ≡ o
    → check_each concern_field (firsts fields) ≡ Ok None
    → IsUp (option_and_then (λ (value : Value). time_in (out-Value value)) o)
found_up fields None is e = tt
found_up fields (Some w) is e =
    field_up w (first_checked concern_field at_name [] fields w refl is e)

concern_up : (x : Value-F Value) → concern_in (codes "readConcern") x ≡ Ok None
    → IsUp (option_and_then (λ (value : Value). time_in (out-Value value))
    (option_and_then (λ (fields : Document). value_of at_name fields) (document_in x)))
concern_up (of.Doc fields) e = found_up fields (value_of at_name fields) refl e
concern_up other e = tt

body_up : (s : Statement) (frame : Frame) (o : Option Value)
    → value_of (codes "readConcern") frame.body ≡ o → (u : Unit {0})
    → checked (command.Statement s) frame ≡ Ok u
    → rule_of (command.Statement s) (codes "readConcern") ≡ Some rule.Concern
    → IsUp (option_and_then (λ (value : Value). time_in (out-Value value))
    (option_and_then (λ (value : Value). option_and_then (λ (fields : Document).
    value_of at_name fields) (document_in (out-Value value))) o))
body_up s frame None is u e of_rule = tt
body_up s frame (Some v) is u e of_rule =
    concern_up (out-Value v) (field_is_checked (command.Statement s) frame (codes "readConcern") v
    rule.Concern u e is of_rule)

concern_rule : (s : Statement)
    → rule_of (command.Statement s) (codes "readConcern") ≡ Some rule.Concern
concern_rule statement.Insert = refl
concern_rule statement.Find = refl
concern_rule statement.Update = refl
concern_rule statement.Delete = refl

at_up : (s : Statement) (frame : Frame) (o : Op) → op_of s frame ≡ Ok o
    → IsUp (cmd.at_time frame.body)
at_up s frame o e =
    let c = op_is_checked s frame o e in
    body_up s frame (value_of (codes "readConcern") frame.body) refl c.0 c.1 (concern_rule s)

-- Requests.

abbrev pub NamesUp : Request → Type 0
NamesUp (request.Statement op txn at after more time) = IsUp at
NamesUp other = Unit {0}

cmd_is : (x y : Request) → ◌≡◌ {A = Result Request CmdErr} (Ok x) (Ok y) → x ≡ y
cmd_is x y e = cc

as_ok : (r : Result Op CrudErr) (o : Op) → cmd.as_command r ≡ Ok o → r ≡ Ok o
as_ok (Ok x) o e = ap (λ (y : Op). Ok y) (op_is x o e)
  where
    op_is : (x y : Op) → ◌≡◌ {A = Result Op CmdErr} (Ok x) (Ok y) → x ≡ y
    op_is x y e = cc
as_ok (Err d) o e = absurd cc

by_up : (c : Command) (frame : Frame) (r : Request) → cmd.request_by c frame ≡ Ok r → NamesUp r
by_up command.Ping frame r e =
    let x = cmd_bind (cmd.as_command (checked command.Ping frame)) _ r e in
    subst NamesUp (cmd_is _ r x.2) tt
by_up (command.Hello old_name) frame r e =
    let x = cmd_bind (cmd.as_command (checked (command.Hello old_name) frame)) _ r e in
    subst NamesUp (cmd_is _ r x.2) tt
by_up (command.Statement s) frame r e =
    let x = cmd_bind (cmd.as_command (op_of s frame)) _ r e in
    subst NamesUp (cmd_is _ r x.2) (at_up s frame x.0 (as_ok (op_of s frame) x.0 x.1))
by_up command.Commit frame r e =
    let x = cmd_bind (cmd.as_command (checked command.Commit frame)) _ r e in
    subst NamesUp (cmd_is _ r x.2) tt
by_up command.Abort frame r e =
    let x = cmd_bind (cmd.as_command (checked command.Abort frame)) _ r e in
    subst NamesUp (cmd_is _ r x.2) tt
by_up command.EndSessions frame r e =
    let x = cmd_bind (cmd.as_command (checked command.EndSessions frame)) _ r e in
    subst NamesUp (cmd_is _ r x.2) tt

request_up : (wall : ℕ) (frame : Frame) (r : Request) → cmd.request_of wall frame ≡ Ok r
    → NamesUp r
unfolding cmd.request_of
request_up wall frame r e =
    let a = cmd_bind (cmd.command_in frame) _ r e in
    let b = cmd_bind (cmd.refused_where (cmd.is_unacknowledged frame) Unacknowledged) _ r a.2 in
    let c = cmd_bind (cmd.refused_where (cmd.is_retried a.0 frame) RetryWrite) _ r b.2 in
    let d = cmd_bind (cmd.not_ahead wall (cmd.time_ahead wall frame.body)) _ r c.2 in
    by_up a.0 frame r d.2

asked_ok : (x : Result Request CmdErr) (r : Request) → asked_by x ≡ Ok r → x ≡ Ok r
asked_ok (Ok q) r e = cc
asked_ok (Err d) r e = cc

read_up : (wall : ℕ) (x : Result Frame FrameErr) (r : Request) → read_by wall x ≡ Ok r → NamesUp r
read_up wall (Ok frame) r e = request_up wall frame r (asked_ok (cmd.request_of wall frame) r e)
read_up wall (Err d) r e = absurd cc

pub asked_up : (wall : ℕ) (bytes : List ℕ) (r : Request) → asked_in wall bytes ≡ Ok r → NamesUp r
unfolding asked_in
asked_up wall bytes r e = read_up wall (frame_of bytes) r e
