-- A request to commit or to abort names its transaction.
use Rattle.std.proofs.Common.{◌≡◌, ◌∙◌, ◌||◌, ◌++◌, ℕ, ℤ, Bool, true, false, cond, List, [], ◌∷◌}
use Rattle.std.proofs.Common.{map}
use Rattle.std.proofs.Common.{Option, Some, None, is_some, option_map, Result, Ok, Err, refl, sym}
use Rattle.std.proofs.Common.{ap}
use Rattle.std.proofs.Common.{subst, if◌then◌else◌}
use Rattle.std.specs.Option.{option_or}
use Rattle.std.specs.Str.{bytes_eq}
use Rattle.std.specs.Prelude.{codes}
use Rattle.std.proofs.lemmas.Slice.Eq.{bytes_eq-Decides}
use Rattle.outcomes.proofs.Binding.{bind_ok}
use Rattle.bson_core.specs.declared.value.Value.{Value}
use Rattle.bson_core.specs.declared.value.Value.TheViews.{out-Value}
use Rattle.bson_core.specs.Fields.{Document, value_of}
use Rattle.op_msg.specs.declared.frame.Frame.{Frame}
use Rattle.op_msg.specs.declared.frame.FrameErr.{FrameErr}
use Rattle.op_msg.specs.Reading as rd
use Rattle.crud_parse.specs.Operators.{beside}
use Rattle.crud_parse.specs.declared.error.CrudErr.{CrudErr}
use Rattle.command_parse.specs.declared.command.Command.{Command}
use Rattle.command_parse.specs.declared.command.Command.TheVariants as command
use Rattle.command_parse.specs.declared.rules.Rule.TheVariants as rule
use Rattle.command_parse.specs.Commands.{rule_of}
use Rattle.command_parse.specs.Values.{number_in}
use Rattle.command_parse.specs.Checks.{Checked, check_each, complete, or_wrong, is_among}
use Rattle.command_parse.specs.Checks.{firsts_behind, firsts, lacking, present}
use Rattle.command_parse.specs.Items.{Given, InBody, InSection}
use Rattle.command_parse.specs.Operations.{Field, in_body, in_section, fields_of, field_check}
use Rattle.command_parse.specs.Operations.{checked, op_of, given_in, given_by, needed}
use Rattle.command_parse.specs.Operations.{needed_database, needed_session}
use Rattle.command_parse.proofs.Checked.{both_checked, field_is_checked}
use Rattle.command_parse.proofs.Lacking.{lacking_behind}
use Rattle.client_cmd.specs.Commands as cmd
use Rattle.client_cmd.specs.declared.request.Request.{Request}
use Rattle.client_cmd.specs.declared.request.Request.TheVariants as request
use Rattle.client_cmd.specs.declared.request.Txn.{Txn}
use Rattle.router_plan.specs.Messages as messages
use Rattle.told_laws.proofs.Requests.{cmd_bind, cmd_is, asked_case}

-- Of the fields of a command that was checked, the first of a name.

abbrev first_of : {A : Type 0} → List ℕ → List (List ℕ × A) → Option A
first_of name [] = None
first_of name (field ∷ fields) = cond (bytes_eq field.0 name) (Some field.1) (first_of name fields)

not_among_by : (b rest more : Bool) → (b || rest) ≡ false → (rest ≡ false → more ≡ false)
    → (b || more) ≡ false
not_among_by true rest more among later = absurd cc
not_among_by false rest more among later = later among

not_among : (name other : List ℕ) (names : List (List ℕ)) → is_among name names ≡ false
    → bytes_eq other name ≡ false → is_among name (names ++ other ∷ []) ≡ false
not_among name other [] among differs = rw differs refl
not_among name other (first ∷ names) among differs =
    not_among_by (bytes_eq first name) (is_among name names) (is_among name (names ++ other ∷ []))
    among (λ h. not_among name other names h differs)

first_by : {A : Type 0} (check : List ℕ × A → Checked) (name : List ℕ) (names : List (List ℕ))
    (field : List ℕ × A) (fields : List (List ℕ × A)) (x : A) (same known : Bool)
    → bytes_eq field.0 name ≡ same → is_among field.0 names ≡ known → is_among name names ≡ false
    → cond same (Some field.1) (first_of name fields) ≡ Some x
    → check_each check (cond known (firsts_behind names fields)
    (field ∷ firsts_behind (names ++ field.0 ∷ []) fields)) ≡ Ok None
    → ((others : List (List ℕ)) → is_among name others ≡ false → first_of name fields ≡ Some x
    → check_each check (firsts_behind others fields) ≡ Ok None → check (name, x) ≡ Ok None)
    → check (name, x) ≡ Ok None
first_by check name names field fields x true true s k among is e later =
    absurd (let bad : true ≡ false = sym k
    ∙ ap (λ (n : List ℕ). is_among n names) ((bytes_eq-Decides field.0 name).0 s) ∙ among in cc)
first_by {A = A} check name names field fields x true false s k among is e later =
    let named : field.0 ≡ name = (bytes_eq-Decides field.0 name).0 s in
    let given : field.1 ≡ x = cc in
    let this : ◌≡◌ {A = List ℕ × A} field (name, x) = λ i. (named i, given i) in
    subst (λ (f : List ℕ × A). check f ≡ Ok None) this
    (both_checked check field (firsts_behind (names ++ field.0 ∷ []) fields) e).0
first_by check name names field fields x false true s k among is e later = later names among is e
first_by check name names field fields x false false s k among is e later =
    later (names ++ field.0 ∷ []) (not_among name field.0 names among s) is
    (both_checked check field (firsts_behind (names ++ field.0 ∷ []) fields) e).1

first_checked : {A : Type 0} (check : List ℕ × A → Checked) (name : List ℕ) (names : List (List ℕ))
    (fields : List (List ℕ × A)) (x : A)
    → is_among name names ≡ false → first_of name fields ≡ Some x
    → check_each check (firsts_behind names fields) ≡ Ok None → check (name, x) ≡ Ok None
first_checked check name names [] x among is e = absurd cc
first_checked check name names (field ∷ fields) x among is e =
    first_by check name names field fields x (bytes_eq field.0 name) (is_among field.0 names) refl
    refl among is e (λ others. first_checked check name others fields x)

-- A name that only a section has.

same_bytes : (a b : List ℕ) (test : Bool) → bytes_eq a b ≡ test → bytes_eq b a ≡ test
same_bytes a b true e = (bytes_eq-Decides b a).1 (sym ((bytes_eq-Decides a b).0 e))
same_bytes a b false e = by (bytes_eq b a) refl
  where
    by : (test : Bool) → bytes_eq b a ≡ test → bytes_eq b a ≡ false
    by true f = let bad : true ≡ false = sym ((bytes_eq-Decides a b).1
        (sym ((bytes_eq-Decides b a).0 f))) ∙ e in cc
    by false f = f

in_sections : (name : List ℕ) (seqs : List (List ℕ × List Document)) (docs : List Document)
    → beside name seqs ≡ Some docs → first_of name (map in_section seqs) ≡ Some (InSection docs)
in_sections name [] docs e = absurd cc
in_sections name (row ∷ seqs) docs e = by (bytes_eq name row.0) refl e (in_sections name seqs docs)
  where
    by : (test : Bool) → bytes_eq name row.0 ≡ test
        → cond test (Some row.1) (beside name seqs) ≡ Some docs
        → (beside name seqs ≡ Some docs → first_of name (map in_section seqs)
        ≡ Some (InSection docs))
        → first_of name (map in_section (row ∷ seqs)) ≡ Some (InSection docs)
    by true is f more =
        let here : row.1 ≡ docs = cc in
        ap (λ (b : Bool). cond b (Some (InSection row.1)) (first_of name (map in_section seqs)))
        (same_bytes name row.0 true is) ∙ ap (λ (d : List Document). Some (InSection d)) here
    by false is f more =
        ap (λ (b : Bool). cond b (Some (InSection row.1)) (first_of name (map in_section seqs)))
        (same_bytes name row.0 false is) ∙ more f

past_body : (name : List ℕ) (body : Document) (sections : List Field)
    → value_of name body ≡ None
    → first_of name (map in_body body ++ sections) ≡ first_of name sections
past_body name [] sections e = refl
past_body name (field ∷ body) sections e =
    by (bytes_eq field.0 name) refl e (past_body name body sections)
  where
    by : (test : Bool) → bytes_eq field.0 name ≡ test
        → cond test (Some field.1) (value_of name body) ≡ None
        → (value_of name body ≡ None → first_of name (map in_body body ++ sections)
        ≡ first_of name sections)
        → first_of name (map in_body (field ∷ body) ++ sections) ≡ first_of name sections
    by true is f more = absurd cc
    by false is f more =
        ap (λ (b : Bool). cond b (Some (InBody field.1))
        (first_of name (map in_body body ++ sections))) is ∙ more f

none_present : (missing : Option (List ℕ)) (u : Unit {0}) → present missing ≡ Ok u → missing ≡ None
none_present None u e = refl
none_present (Some name) u e = absurd cc

first_none : (a b : Option (List ℕ)) → option_or a b ≡ None → (a ≡ None) × (b ≡ None)
first_none None b e = (refl, e)
first_none (Some x) b e = absurd cc

-- each field that counts was checked, and none is missing
record WasChecked (c : Command) (frame : Frame) : Type 0 where
  all : check_each (field_check c) (firsts (fields_of frame)) ≡ Ok None
  none : lacking (λ name. is_some (given_in name frame)) (needed c frame) ≡ None

was_checked : (c : Command) (frame : Frame) (u : Unit {0}) → checked c frame ≡ Ok u
    → WasChecked c frame
unfolding checked
was_checked c frame u e =
    let inside = bind_ok (check_each (field_check c) (firsts (fields_of frame))) _ u e in
    let none = first_none inside.0 _ (none_present _ u inside.2) in
    record {
      all = inside.1 ∙ ap (λ (m : Option (List ℕ)). Ok m) none.0;
      none = none.1;
    }

-- of a name that isn't a section's, what is there is in the body
in_body_then : (c : Command) (frame : Frame) (name : List ℕ) → WasChecked c frame
    → ((docs : List Document) → field_check c (name, InSection docs) ≡ Ok None → ⊥)
    → is_some (given_in name frame) ≡ true
    → (v : Value) × (value_of name frame.body ≡ Some v)
in_body_then c frame name w unlisted there = by (value_of name frame.body) refl
    (beside name frame.seqs) refl
  where
    by : (o : Option Value) → value_of name frame.body ≡ o → (p : Option (List Document))
        → beside name frame.seqs ≡ p → (v : Value) × (value_of name frame.body ≡ Some v)
    by (Some v) e p f = (v, e)
    by None e (Some docs) f = absurd (unlisted docs
        (first_checked (field_check c) name [] (fields_of frame) (InSection docs) refl
        (past_body name frame.body (map in_section frame.seqs) e
        ∙ in_sections name frame.seqs docs f) w.all))
    by None e None f =
        let bad : false ≡ true = sym (ap (λ (g : Option Given). is_some g)
        (ap (λ (o : Option Value). given_by o (beside name frame.seqs)) e
        ∙ ap (given_by None) f)) ∙ there in
        cc

-- the session and the number are there
both_there : (is_there : List ℕ → Bool) (a b : List ℕ) → lacking is_there (a ∷ b ∷ []) ≡ None
    → (is_there a ≡ true) × (is_there b ≡ true)
both_there is_there a b e = by (is_there a) refl e
  where
    two : (test : Bool) → is_there b ≡ test → (if test then None else Some b) ≡ None
        → is_there b ≡ true
    two true is f = is
    two false is f = absurd cc

    by : (test : Bool) → is_there a ≡ test
        → (if test then lacking is_there (b ∷ []) else Some a) ≡ None
        → (is_there a ≡ true) × (is_there b ≡ true)
    by true is f = (is, two (is_there b) refl f)
    by false is f = absurd cc

number_some : (name : List ℕ) (o : Option ℤ) → complete (or_wrong name o) ≡ Ok None
    → (n : ℤ) × (o ≡ Some n)
number_some name None e = absurd cc
number_some name (Some n) e = (n, refl)

-- by its session and its number
txn_some : (body : Document) (lsid number : Value) (n : ℤ)
    → value_of (codes "lsid") body ≡ Some lsid
    → value_of (codes "txnNumber") body ≡ Some number → number_in (out-Value number) ≡ Some n
    → (txn : Txn) × (cmd.txn_in body ≡ Some txn)
txn_some body lsid number n a b c = (
  record { lsid = cmd.session_by (out-Value lsid); number = n; start = cmd.starts_in body },
  ap (λ (o : Option Value). cmd.txn_by o (value_of (codes "txnNumber") body) (cmd.starts_in body)) a
      ∙ ap (λ (o : Option Value). cmd.txn_by (Some lsid) o (cmd.starts_in body)) b
      ∙ ap (option_map (λ (n : ℤ). record {
        lsid = cmd.session_by (out-Value lsid);
        number = n;
        start = cmd.starts_in body;
      })) c,
)

named_by : (c : Command) (frame : Frame) (u : Unit {0}) → checked c frame ≡ Ok u
    → needed c frame ≡ needed_database frame ++ needed_session true ++ codes "autocommit" ∷ []
    → ((docs : List Document) → field_check c (codes "lsid", InSection docs) ≡ Ok None → ⊥)
    → ((docs : List Document) → field_check c (codes "txnNumber", InSection docs) ≡ Ok None → ⊥)
    → rule_of c (codes "txnNumber") ≡ Some rule.Number
    → (txn : Txn) × (cmd.txn_in frame.body ≡ Some txn)
named_by c frame u e needs no_lsid no_number number =
    let w = was_checked c frame u e in
    let is_there = λ (name : List ℕ). is_some (given_in name frame) in
    let all : lacking is_there (needed_database frame ++ needed_session true
    ++ codes "autocommit" ∷ []) ≡ None = ap (lacking is_there) (sym needs) ∙ w.none in
    let front = first_none (lacking is_there (needed_database frame ++ needed_session true))
    (lacking is_there (codes "autocommit" ∷ []))
    (sym (lacking_behind is_there (needed_database frame ++ needed_session true)
    (codes "autocommit" ∷ [])) ∙ all) in
    let session = first_none (lacking is_there (needed_database frame))
    (lacking is_there (needed_session true))
    (sym (lacking_behind is_there (needed_database frame) (needed_session true)) ∙ front.0) in
    let there = both_there is_there (codes "lsid") (codes "txnNumber") session.1 in
    let lsid = in_body_then c frame (codes "lsid") w no_lsid there.0 in
    let num = in_body_then c frame (codes "txnNumber") w no_number there.1 in
    let n = number_some (codes "txnNumber") (number_in (out-Value num.0))
    (field_is_checked c frame (codes "txnNumber") num.0 rule.Number u e num.1 number) in
    txn_some frame.body lsid.0 num.0 n.0 lsid.1 num.1 n.1

-- Requests.

abbrev pub NamesTxn : Request → Type 0
NamesTxn (request.Commit txn t more time) = (x : Txn) × (txn ≡ Some x)
NamesTxn (request.Abort txn more time) = (x : Txn) × (txn ≡ Some x)
NamesTxn other = Unit {0}

as_ok : {A : Type 0} (r : Result A CrudErr) (u : A) → cmd.as_command r ≡ Ok u → r ≡ Ok u
as_ok (Ok a) u e = cc
as_ok (Err d) u e = absurd cc

by_txn : (c : Command) (frame : Frame) (r : Request) → cmd.request_by c frame ≡ Ok r → NamesTxn r
by_txn command.Ping frame r e = let x = cmd_bind (cmd.as_command (checked command.Ping frame)) _ r e
    in subst NamesTxn (cmd_is _ r x.2) tt
by_txn (command.Hello old_name) frame r e = let x = cmd_bind
    (cmd.as_command (checked (command.Hello old_name) frame)) _ r e in subst NamesTxn
    (cmd_is _ r x.2) tt
by_txn (command.Statement s) frame r e = let x = cmd_bind (cmd.as_command (op_of s frame)) _ r e in
    subst NamesTxn (cmd_is _ r x.2) tt
by_txn command.Commit frame r e =
    let x = cmd_bind (cmd.as_command (checked command.Commit frame)) _ r e in
    subst NamesTxn (cmd_is _ r x.2) (named_by command.Commit frame x.0
    (as_ok (checked command.Commit frame) x.0 x.1) refl (λ docs f. cc) (λ docs f. cc) refl)
by_txn command.Abort frame r e =
    let x = cmd_bind (cmd.as_command (checked command.Abort frame)) _ r e in
    subst NamesTxn (cmd_is _ r x.2) (named_by command.Abort frame x.0
    (as_ok (checked command.Abort frame) x.0 x.1) refl (λ docs f. cc) (λ docs f. cc) refl)
by_txn command.EndSessions frame r e = let x = cmd_bind
    (cmd.as_command (checked command.EndSessions frame)) _ r e in subst NamesTxn (cmd_is _ r x.2) tt

request_txn : (wall : ℕ) (frame : Frame) (r : Request) → cmd.request_of wall frame ≡ Ok r
    → NamesTxn r
unfolding cmd.request_of
request_txn wall frame r e =
    let a = cmd_bind (cmd.command_in frame) _ r e in
    let b = cmd_bind (cmd.refused_where (cmd.is_unacknowledged frame) _) _ r a.2 in
    let c = cmd_bind (cmd.refused_where (cmd.is_retried a.0 frame) _) _ r b.2 in
    let d = cmd_bind (cmd.not_ahead wall (cmd.time_ahead wall frame.body)) _ r c.2 in
    by_txn a.0 frame r d.2

read_txn : (wall : ℕ) (x : Result Frame FrameErr) (r : Request) → messages.read_by wall x ≡ Ok r
    → NamesTxn r
read_txn wall (Ok frame) r e = request_txn wall frame r
    (asked_case (cmd.request_of wall frame) r e)
read_txn wall (Err d) r e = absurd cc

pub asked_txn : (wall : ℕ) (bytes : List ℕ) (r : Request) → messages.asked_in wall bytes ≡ Ok r
    → NamesTxn r
unfolding messages.asked_in
asked_txn wall bytes r e = read_txn wall (rd.frame_of bytes) r e
