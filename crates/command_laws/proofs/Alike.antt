-- Messages that say the same to a command ask the same.
use Rattle.std.proofs.Common.{◌≡◌, ℕ, Bool, true, false, List, [], ◌∷◌, ◌++◌, Option, Some, None}
use Rattle.std.proofs.Common.{is_some, Result, Ok, Err, refl, sym, ap, ◌∙◌, codes, if◌then◌else◌}
use Rattle.std.specs.Prelude.{◌&&◌, ◌||◌, not, option_map, option_and_then, unwrap_or}
use Rattle.std.specs.List.{find, filter_map}
use Rattle.std.specs.Option.{option_or}
use Rattle.std.specs.Str.{bytes_eq}
use Rattle.outcomes.specs.Bind.{◌>>=◌}
use Rattle.bson_core.specs.declared.value.Value.{Value}
use Rattle.bson_core.specs.declared.value.Value.TheViews.{out-Value}
use Rattle.bson_core.specs.Fields.{value_of}
use Rattle.op_msg.specs.declared.frame.Frame.{Frame}
use Rattle.txn_types.specs.declared.filter.Filter.TheViews.{And}
use Rattle.txn_types.specs.declared.operation.Op.TheVariants as op
use Rattle.crud_parse.specs.Results as parsing
use Rattle.crud_parse.specs.Filters.{inner_by, filter_of}
use Rattle.command_parse.specs.declared.command.Command.{Command}
use Rattle.command_parse.specs.declared.command.Command.TheVariants as command
use Rattle.command_parse.specs.declared.command.Statement.{Statement}
use Rattle.command_parse.specs.declared.command.Statement.TheVariants as statement
use Rattle.command_parse.specs.declared.rules.Batch.{Batch}
use Rattle.command_parse.specs.declared.rules.Batch.TheVariants.{Documents, Changes}
use Rattle.command_parse.specs.declared.rules.Change.TheVariants.{Update, Delete}
use Rattle.command_parse.specs.Commands.{name_of, list_name, batch_of, command_named}
use Rattle.command_parse.specs.Values.{falls_in, limit_in, document_in, time_in}
use Rattle.command_parse.specs.Checks.{check_each, or_wrong, or_missing, firsts, lacking, present}
use Rattle.command_parse.specs.Checks.{given_or}
use Rattle.command_parse.specs.Items.{each_at, insert_item, update_item, delete_item}
use Rattle.command_parse.specs.Operations.{fields_of, field_check, given_in, needed_list}
use Rattle.command_parse.specs.Operations.{needed_session, is_in_transaction, is_false_where}
use Rattle.command_parse.specs.Operations.{needed, checked, text_in, joined_names, namespace_in}
use Rattle.command_parse.specs.Operations.{batch_under, built, op_of}
use Rattle.client_cmd.specs.declared.request.Request.{Request}
use Rattle.client_cmd.specs.declared.request.Request.TheVariants as request
use Rattle.client_cmd.specs.declared.error.CmdErr.{CmdErr}
use Rattle.client_cmd.specs.declared.error.CmdErr.TheVariants.{Unacknowledged, RetryWrite}
use Rattle.client_cmd.specs.Tokens.{token_in}
use Rattle.client_cmd.specs.Commands.{as_command, first_name, command_in, served, wants_no_answer}
use Rattle.client_cmd.specs.Commands.{is_unacknowledged, is_write, is_retried, seen_time}
use Rattle.client_cmd.specs.Commands.{after_time, at_time, is_ahead, time_ahead, not_ahead, is_true}
use Rattle.client_cmd.specs.Commands.{txn_by, txn_in, statement_txn, sessions_by, request_by}
use Rattle.client_cmd.specs.Commands.{refused_where, request_of}
use Rattle.command_laws.specs.Fields.{is_ignored}

-- a list of documents has this name; it may be a section
abbrev pub is_list : List ℕ → Bool
is_list name = bytes_eq name (list_name Documents) || (bytes_eq name (list_name (Changes Update))
    || bytes_eq name (list_name (Changes Delete)))

-- to this command the two say the same
pub record Alike (c : Command) (f g : Frame) : Type 0 where
  pub legacy : f.legacy ≡ g.legacy
  pub more : f.more ≡ g.more
  pub values : (name : List ℕ) → is_ignored c name ≡ false → is_list name ≡ false
      → value_of name f.body ≡ value_of name g.body
  pub there : (name : List ℕ) → is_ignored c name ≡ false
      → is_some (given_in name f) ≡ is_some (given_in name g)
  pub lists : (b : Batch) → is_ignored c (list_name b) ≡ false → batch_under b f ≡ batch_under b g
  pub fields : check_each (field_check c) (firsts (fields_of f))
      ≡ check_each (field_check c) (firsts (fields_of g))

-- No command ignores these.

record Looks (c : Command) : Type 0 where
  database : is_ignored c (codes "$db") ≡ false
  session : is_ignored c (codes "lsid") ≡ false
  number : is_ignored c (codes "txnNumber") ≡ false
  autocommit : is_ignored c (codes "autocommit") ≡ false
  start : is_ignored c (codes "startTransaction") ≡ false
  concern : is_ignored c (codes "readConcern") ≡ false
  gossip : is_ignored c (codes "$clusterTime") ≡ false
  write : is_ignored c (codes "writeConcern") ≡ false

looks : (c : Command) → Looks c
looks command.Ping = record {
  database = refl;
  session = refl;
  number = refl;
  autocommit = refl;
  start = refl;
  concern = refl;
  gossip = refl;
  write = refl;
}
looks (command.Hello old_name) = record {
  database = refl;
  session = refl;
  number = refl;
  autocommit = refl;
  start = refl;
  concern = refl;
  gossip = refl;
  write = refl;
}
looks (command.Statement statement.Insert) = record {
  database = refl;
  session = refl;
  number = refl;
  autocommit = refl;
  start = refl;
  concern = refl;
  gossip = refl;
  write = refl;
}
looks (command.Statement statement.Find) = record {
  database = refl;
  session = refl;
  number = refl;
  autocommit = refl;
  start = refl;
  concern = refl;
  gossip = refl;
  write = refl;
}
looks (command.Statement statement.Update) = record {
  database = refl;
  session = refl;
  number = refl;
  autocommit = refl;
  start = refl;
  concern = refl;
  gossip = refl;
  write = refl;
}
looks (command.Statement statement.Delete) = record {
  database = refl;
  session = refl;
  number = refl;
  autocommit = refl;
  start = refl;
  concern = refl;
  gossip = refl;
  write = refl;
}
looks command.Commit = record {
  database = refl;
  session = refl;
  number = refl;
  autocommit = refl;
  start = refl;
  concern = refl;
  gossip = refl;
  write = refl;
}
looks command.Abort = record {
  database = refl;
  session = refl;
  number = refl;
  autocommit = refl;
  start = refl;
  concern = refl;
  gossip = refl;
  write = refl;
}
looks command.EndSessions = record {
  database = refl;
  session = refl;
  number = refl;
  autocommit = refl;
  start = refl;
  concern = refl;
  gossip = refl;
  write = refl;
}

-- What is needed.

abbrev AllLooked : Command → List (List ℕ) → Type 0
AllLooked c [] = Unit {0}
AllLooked c (name ∷ names) = (is_ignored c name ≡ false) × AllLooked c names

both_looked : (c : Command) (names more : List (List ℕ)) → AllLooked c names → AllLooked c more
    → AllLooked c (names ++ more)
both_looked c [] more h k = k
both_looked c (name ∷ names) more h k = (h.0, both_looked c names more h.1 k)

abbrev database_by : Bool → List (List ℕ)
database_by legacy = if legacy then [] else codes "$db" ∷ []

database_looked : (c : Command) (legacy : Bool) → AllLooked c (database_by legacy)
database_looked c true = tt
database_looked c false = ((looks c).database, tt)

session_looked : (c : Command) (wanted : Bool) → AllLooked c (needed_session wanted)
session_looked c true = ((looks c).session, ((looks c).number, tt))
session_looked c false = tt

list_looked : (s : Statement) → AllLooked (command.Statement s) (needed_list (batch_of s))
list_looked statement.Insert = (refl, tt)
list_looked statement.Find = tt
list_looked statement.Update = (refl, tt)
list_looked statement.Delete = (refl, tt)

-- what a command needs, in one form of messages, of a transaction or not
abbrev needed_by : Command → Bool → Bool → List (List ℕ)
needed_by (command.Statement s) legacy txn =
    needed_list (batch_of s) ++ database_by legacy ++ needed_session txn
needed_by command.Commit legacy txn =
    database_by legacy ++ needed_session true ++ codes "autocommit" ∷ []
needed_by command.Abort legacy txn =
    database_by legacy ++ needed_session true ++ codes "autocommit" ∷ []
needed_by other legacy txn = database_by legacy

needed_is : (c : Command) (f : Frame) → needed c f ≡ needed_by c f.legacy (is_in_transaction f)
needed_is command.Ping f = refl
needed_is (command.Hello old_name) f = refl
needed_is (command.Statement s) f = refl
needed_is command.Commit f = refl
needed_is command.Abort f = refl
needed_is command.EndSessions f = refl

needed_looked : (c : Command) (legacy txn : Bool) → AllLooked c (needed_by c legacy txn)
needed_looked (command.Statement s) legacy txn =
    both_looked (command.Statement s) (needed_list (batch_of s) ++ database_by legacy)
    (needed_session txn)
    (both_looked (command.Statement s) (needed_list (batch_of s)) (database_by legacy)
    (list_looked s) (database_looked (command.Statement s) legacy))
    (session_looked (command.Statement s) txn)
needed_looked command.Commit legacy txn =
    both_looked command.Commit (database_by legacy ++ needed_session true) (codes "autocommit" ∷ [])
    (both_looked command.Commit (database_by legacy) (needed_session true)
    (database_looked command.Commit legacy) (session_looked command.Commit true)) (refl, tt)
needed_looked command.Abort legacy txn =
    both_looked command.Abort (database_by legacy ++ needed_session true) (codes "autocommit" ∷ [])
    (both_looked command.Abort (database_by legacy) (needed_session true)
    (database_looked command.Abort legacy) (session_looked command.Abort true)) (refl, tt)
needed_looked command.Ping legacy txn = database_looked command.Ping legacy
needed_looked (command.Hello old_name) legacy txn = database_looked (command.Hello old_name) legacy
needed_looked command.EndSessions legacy txn = database_looked command.EndSessions legacy

lacking_alike : (c : Command) (p q : List ℕ → Bool) (names : List (List ℕ))
    → ((name : List ℕ) → is_ignored c name ≡ false → p name ≡ q name) → AllLooked c names
    → lacking p names ≡ lacking q names
lacking_alike c p q [] same all = refl
lacking_alike c p q (name ∷ names) same all =
    let here = same name all.0 in
    let more = lacking_alike c p q names same all.1 in
    λ i. if here i then more i else Some name

transaction_alike : (c : Command) (f g : Frame) → Alike c f g
    → is_in_transaction f ≡ is_in_transaction g
transaction_alike c f g a =
    ap is_false_where (a.values (codes "autocommit") (looks c).autocommit refl)

lacks_alike : (c : Command) (f g : Frame) → Alike c f g → lacking (λ name. is_some
    (given_in name f)) (needed c f) ≡ lacking (λ name. is_some (given_in name g)) (needed c g)
lacks_alike c f g a =
    let txn = transaction_alike c f g a in
    ap (lacking (λ name. is_some (given_in name f))) (needed_is c f)
    ∙ lacking_alike c (λ name. is_some (given_in name f)) (λ name. is_some (given_in name g))
    (needed_by c f.legacy (is_in_transaction f)) a.there
    (needed_looked c f.legacy (is_in_transaction f))
    ∙ (λ i. lacking (λ name. is_some (given_in name g)) (needed_by c (a.legacy i) (txn i)))
    ∙ sym (ap (lacking (λ name. is_some (given_in name g))) (needed_is c g))

pub checked_alike : (c : Command) (f g : Frame) → Alike c f g → checked c f ≡ checked c g
unfolding checked
checked_alike c f g a =
    let lacks = lacks_alike c f g a in
    λ i. ◌>>=◌ (a.fields i) (λ inside. present (option_or inside (lacks i)))

-- What is asked.

name_looked : (s : Statement) → is_ignored (command.Statement s) (name_of s) ≡ false
name_looked statement.Insert = refl
name_looked statement.Find = refl
name_looked statement.Update = refl
name_looked statement.Delete = refl

name_unlisted : (s : Statement) → is_list (name_of s) ≡ false
name_unlisted statement.Insert = refl
name_unlisted statement.Find = refl
name_unlisted statement.Update = refl
name_unlisted statement.Delete = refl

namespace_alike : (s : Statement) (f g : Frame) → Alike (command.Statement s) f g
    → namespace_in s f.body ≡ namespace_in s g.body
namespace_alike s f g a =
    let database = a.values (codes "$db") (looks (command.Statement s)).database refl in
    let collection = a.values (name_of s) (name_looked s) (name_unlisted s) in
    λ i. ◌>>=◌ (◌>>=◌ (or_missing (codes "$db") (database i))
    (λ value. text_in (codes "$db") (out-Value value))) (λ database.
    ◌>>=◌ (◌>>=◌ (or_missing (name_of s) (collection i)) (λ value.
    text_in (name_of s) (out-Value value))) (λ collection. joined_names s database collection))

built_alike : (s : Statement) (ns : List ℕ) (f g : Frame) → Alike (command.Statement s) f g
    → built s ns f ≡ built s ns g
built_alike statement.Insert ns f g a = let docs = a.lists Documents refl in
    λ i. ◌>>=◌ (◌>>=◌ (docs i) (each_at insert_item 0)) (λ docs. Ok (op.Insert ns docs))
built_alike statement.Find ns f g a =
    let filters = a.values (codes "filter") refl refl in
    let sorts = a.values (codes "sort") refl refl in
    let limits = a.values (codes "limit") refl refl in
    λ i. ◌>>=◌ (given_or (And []) (λ value. inner_by filter_of (codes "filter") (out-Value value))
    (filters i)) (λ filter.
    ◌>>=◌ (given_or false (λ value. or_wrong (codes "sort") (falls_in (out-Value value))) (sorts i))
    (λ down.
    ◌>>=◌ (given_or 0 (λ value. or_wrong (codes "limit") (limit_in (out-Value value))) (limits i))
    (λ limit. Ok (op.Find ns filter down limit))))
built_alike statement.Update ns f g a = let docs = a.lists (Changes Update) refl in
    λ i. ◌>>=◌ (◌>>=◌ (docs i) (each_at update_item 0)) (λ items. Ok (op.Update ns items))
built_alike statement.Delete ns f g a = let docs = a.lists (Changes Delete) refl in
    λ i. ◌>>=◌ (◌>>=◌ (docs i) (each_at delete_item 0)) (λ items. Ok (op.Delete ns items))

pub op_alike : (s : Statement) (f g : Frame) → Alike (command.Statement s) f g
    → op_of s f ≡ op_of s g
unfolding op_of
op_alike s f g a =
    let check = checked_alike (command.Statement s) f g a in
    let namespace = namespace_alike s f g a in
    λ i. ◌>>=◌ (check i) (λ u. ◌>>=◌ (namespace i) (λ ns. built_alike s ns f g a i))

-- a time in a document in a field
time_alike : (inner : List ℕ) (v w : Option Value) → v ≡ w
    → option_and_then (λ value. time_in (out-Value value)) (option_and_then (λ value.
    option_and_then (λ fields. value_of inner fields) (document_in (out-Value value))) v)
    ≡ option_and_then (λ value. time_in (out-Value value)) (option_and_then (λ value.
    option_and_then (λ fields. value_of inner fields) (document_in (out-Value value))) w)
time_alike inner v w is = ap (λ (o : Option Value).
    option_and_then (λ value. time_in (out-Value value)) (option_and_then (λ value.
    option_and_then (λ fields. value_of inner fields) (document_in (out-Value value))) o)) is

seen_alike : (c : Command) (f g : Frame) → Alike c f g → seen_time f.body ≡ seen_time g.body
seen_alike c f g a =
    time_alike (codes "clusterTime") _ _ (a.values (codes "$clusterTime") (looks c).gossip refl)

after_alike : (c : Command) (f g : Frame) → Alike c f g → after_time f.body ≡ after_time g.body
after_alike c f g a = time_alike (codes "afterClusterTime") _ _ (a.values (codes "readConcern")
    (looks c).concern refl)

at_alike : (c : Command) (f g : Frame) → Alike c f g → at_time f.body ≡ at_time g.body
at_alike c f g a =
    time_alike (codes "atClusterTime") _ _ (a.values (codes "readConcern") (looks c).concern refl)

txn_alike : (c : Command) (f g : Frame) → Alike c f g → txn_in f.body ≡ txn_in g.body
txn_alike c f g a =
    let session = a.values (codes "lsid") (looks c).session refl in
    let number = a.values (codes "txnNumber") (looks c).number refl in
    let start = a.values (codes "startTransaction") (looks c).start refl in
    λ i. txn_by (session i) (number i)
    (unwrap_or (option_map (λ value. is_true (out-Value value)) (start i)) false)

statement_alike : (c : Command) (f g : Frame) → Alike c f g → statement_txn f ≡ statement_txn g
statement_alike c f g a =
    let txn = txn_alike c f g a in
    let within = transaction_alike c f g a in
    λ i. if within i then txn i else None

by_alike : (c : Command) (f g : Frame) → Alike c f g → request_by c f ≡ request_by c g
by_alike command.Ping f g a =
    let seen = seen_alike command.Ping f g a in
    let check = checked_alike command.Ping f g a in
    λ i. as_command (check i) >>= λ u. Ok (request.Ping (a.more i) (seen i))
by_alike (command.Hello old_name) f g a =
    let seen = seen_alike (command.Hello old_name) f g a in
    let check = checked_alike (command.Hello old_name) f g a in
    λ i. as_command (check i) >>= λ u. Ok (request.Hello old_name (a.more i) (seen i))
by_alike (command.Statement s) f g a =
    let seen = seen_alike (command.Statement s) f g a in
    let op = op_alike s f g a in
    let txn = statement_alike (command.Statement s) f g a in
    let at = at_alike (command.Statement s) f g a in
    let after = after_alike (command.Statement s) f g a in
    λ i. as_command (op i)
    >>= λ o. Ok (request.Statement o (txn i) (at i) (after i) (a.more i) (seen i))
by_alike command.Commit f g a =
    let seen = seen_alike command.Commit f g a in
    let check = checked_alike command.Commit f g a in
    let txn = txn_alike command.Commit f g a in
    let token = a.values (codes "recoveryToken") refl refl in
    λ i. as_command (check i) >>= λ u. Ok (request.Commit (txn i)
    (option_map (λ value. token_in (out-Value value)) (token i)) (a.more i) (seen i))
by_alike command.Abort f g a =
    let seen = seen_alike command.Abort f g a in
    let check = checked_alike command.Abort f g a in
    let txn = txn_alike command.Abort f g a in
    λ i. as_command (check i) >>= λ u. Ok (request.Abort (txn i) (a.more i) (seen i))
by_alike command.EndSessions f g a =
    let seen = seen_alike command.EndSessions f g a in
    let check = checked_alike command.EndSessions f g a in
    let ids = a.values (codes "endSessions") refl refl in
    λ i. as_command (check i) >>= λ u. Ok (request.EndSessions (unwrap_or
    (option_map (λ value. sessions_by (out-Value value)) (ids i)) []) (a.more i) (seen i))

-- what is asked once the command is known
abbrev pub asked_as : ℕ → Frame → Command → Result Request CmdErr
asked_as wall f c =
    refused_where (is_unacknowledged f) Unacknowledged >>= λ u. refused_where (is_retried c f)
    RetryWrite >>= λ v. not_ahead wall (time_ahead wall f.body) >>= λ w. request_by c f

asked_alike : (wall : ℕ) (c : Command) (f g : Frame) → Alike c f g
    → asked_as wall f c ≡ asked_as wall g c
asked_alike wall c f g a =
    let seen = seen_alike c f g a in
    let after = after_alike c f g a in
    let at = at_alike c f g a in
    let write = a.values (codes "writeConcern") (looks c).write refl in
    let number = a.values (codes "txnNumber") (looks c).number refl in
    let within = transaction_alike c f g a in
    let by = by_alike c f g a in
    λ i. refused_where (a.more i || wants_no_answer (write i)) Unacknowledged >>= λ u.
    refused_where (is_write c && is_some (number i) && not (within i)) RetryWrite >>= λ v.
    not_ahead wall (find (is_ahead wall) (filter_map (λ t. t) (seen i ∷ after i ∷ at i ∷ [])))
    >>= λ w. by i

asked_case : (wall : ℕ) (f g : Frame) (r : Result Command CmdErr)
    → ((c : Command) → r ≡ Ok c → Alike c f g) → (r >>= asked_as wall f) ≡ (r >>= asked_as wall g)
asked_case wall f g (Ok c) alike = asked_alike wall c f g (alike c refl)
asked_case wall f g (Err e) alike = refl

-- two messages that ask for one command, to which they say the same
pub request_alike : (wall : ℕ) (f g : Frame) → first_name f.body ≡ first_name g.body
    → f.legacy ≡ g.legacy → ((c : Command) → command_in f ≡ Ok c → Alike c f g)
    → request_of wall f ≡ request_of wall g
unfolding request_of
request_alike wall f g name legacy alike =
    let same : command_in f ≡ command_in g =
    λ i. served (name i) (legacy i) (command_named (name i)) in
    asked_case wall f g (command_in f) alike
    ∙ ap (λ (r : Result Command CmdErr). r >>= asked_as wall g) same
