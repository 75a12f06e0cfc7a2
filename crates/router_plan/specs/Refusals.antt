-- Why a router refuses a request, in the order in which this is tested. What is refused leaves the
-- transaction and the session's number as they are.
use Rattle.std.specs.Prelude.{ℕ, ℤ, ◌-◌, ◌^◌, ◌&&◌, Bool, true, false, not, [], ◌∷◌, length, nat_eq}
use Rattle.std.specs.Prelude.{nat_le, nat_lt, int_lt, Option, Some, None, is_none, is_some}
use Rattle.std.specs.Prelude.{if◌then◌else◌}
use Rattle.std.specs.Ordering.{int_eq}
use Rattle.txn_types.specs.declared.decision.Token.{Token}
use Rattle.txn_types.specs.declared.decision.Token.TheVariants as token
use Rattle.txn_types.specs.declared.operation.Op.{Op}
use Rattle.txn_semantics.specs.Touched.{first_some}
use Rattle.client_cmd.specs.declared.request.Txn.{Txn}
use Rattle.client_reply.specs.declared.reply.Refusal.{Refusal}
use Rattle.client_reply.specs.declared.reply.Refusal.TheVariants as refusal
use Rattle.client_reply.specs.declared.reply.Reply.{Reply}
use Rattle.client_reply.specs.declared.reply.Reply.TheVariants.{Refused, TooOld}
use Rattle.chunk_map.specs.Map.{Map}
use Rattle.chunk_map.specs.Parts.{has_spread}
use Rattle.router_state.specs.declared.state.Asker.{Asker}
use Rattle.router_state.specs.declared.state.Phase.{Phase}
use Rattle.router_state.specs.declared.state.Transaction.{Transaction}
use Rattle.router_state.specs.declared.state.Session.{Session}
use Rattle.router_state.specs.declared.state.Phase.TheVariants.{Aborted}
use Rattle.router_state.specs.declared.state.Doing.TheVariants.{Begun, Sought}
use Rattle.router_state.specs.State.{RouterState, commit_sent, asker_of}

abbrev pub where_so : Bool → Refusal → Option Reply
where_so holds why = if holds then Some (Refused why) else None

-- the transaction of this number, where it was begun here
abbrev pub begun_in : Option Session → ℤ → Option Transaction
begun_in None number = None
begun_in (Some session) number = if int_eq session.number number
    then elim (session.doing) [ Begun t ↦ Some t | Sought seeking known ↦ None ] else None

abbrev pub is_so : {A : Type 0} → (A → Bool) → Option A → Bool
is_so test None = false
is_so test (Some a) = test a

-- the number is below the session's
abbrev pub too_old : Option Session → ℤ → Option Reply
too_old None number = None
too_old (Some session) number = if int_lt number session.number
    then Some (TooOld number session.number) else None

-- a request of the session, from another connection, is unanswered
abbrev pub is_elsewhere : ℕ → Option Asker → Bool
is_elsewhere conn None = false
is_elsewhere conn (Some asker) = not (nat_eq asker.conn conn)

abbrev pub busy : Option Session → ℕ → Option Reply
busy session conn =
    where_so (is_so (λ s. is_elsewhere conn (asker_of s.doing)) session) refusal.Busy

-- a start stands on the session's own number
abbrev pub started : Option Session → Txn → Option Reply
started session txn = where_so (txn.start
    && is_so (λ s. int_eq s.number txn.number) session) (refusal.Started txn.number)

-- it wasn't begun here, and the request doesn't begin or look for it
abbrev pub no_transaction : Option Session → ℤ → Bool → Bool → Option Reply
no_transaction session number serves commit =
    where_so (is_none (begun_in session number) && not serves) (refusal.NoTransaction number commit)

-- it wasn't begun here, and the token names no shard that is there
abbrev pub names_shard : ℕ → Option Token → Bool
names_shard shards (Some (token.Placed tag shard boot)) = nat_lt shard shards
names_shard shards other = false

abbrev pub no_token_shard : Option Session → ℤ → ℕ → Option Token → Option Reply
no_token_shard session number shards t =
    where_so (is_none (begun_in session number) && not (names_shard shards t)) refusal.NoDecision

-- its commit was sent
abbrev pub after_commit : Option Session → ℤ → Option Reply
after_commit session number = where_so (is_so (λ (t : Transaction). commit_sent t.phase)
    (begun_in session number)) refusal.AfterCommit

-- it has all the statements that it may have
abbrev pub too_long : Option Session → ℤ → Option Reply
too_long session number = where_so (is_so (λ (t : Transaction). nat_le 1000000 t.k)
    (begun_in session number)) refusal.TooLong

-- the session is new, and there is no room for it
abbrev pub too_many_of : ℕ → Option Session → Option Reply
too_many_of sessions session = where_so (is_none session && nat_le 1000000 sessions) refusal.TooMany

abbrev pub too_many : RouterState → Option Session → Option Reply
too_many s session = too_many_of (length s.sessions) session

-- it begins a transaction, and no serial is left
abbrev pub spent_at : ℕ → Option Session → ℤ → Option Reply
spent_at serial session number =
    where_so (is_none (begun_in session number) && nat_le (2 ^ 63 - 1) serial) refusal.Spent

abbrev pub spent : RouterState → Option Session → ℤ → Option Reply
spent s session number = spent_at s.serial session number

-- what is for one document may be at several shards
abbrev pub many_shards : Map → Op → Option Reply
many_shards chunks op = where_so (has_spread chunks op) refusal.ManyShards

-- after the refusals: the transaction is known as aborted
abbrev pub is_aborted : Phase → Bool
is_aborted (Aborted sent) = true
is_aborted other = false

abbrev pub known_aborted : Option Session → ℤ → Option Reply
known_aborted session number = where_so (is_so (λ (t : Transaction). is_aborted t.phase)
    (begun_in session number)) refusal.Aborted

-- of a statement; a command by itself is the start of its connection's next transaction
unfoldable pub statement_refusal : RouterState → ℕ → Option Session → Txn → Op → Option Reply
statement_refusal s conn session txn op = first_some (
    too_old session txn.number ∷
    busy session conn ∷
    started session txn ∷
    no_transaction session txn.number txn.start false ∷
    after_commit session txn.number ∷
    too_long session txn.number ∷
    too_many s session ∷
    spent s session txn.number ∷
    many_shards s.chunks op ∷
    known_aborted session txn.number ∷
    [])

-- of a request to commit
unfoldable pub commit_refusal : RouterState → ℕ → Option Session → Txn → Option Token → Option Reply
commit_refusal s conn session txn t = first_some (
    too_old session txn.number ∷
    busy session conn ∷
    started session txn ∷
    no_transaction session txn.number (is_some t) true ∷
    no_token_shard session txn.number s.chunks.shards t ∷
    too_many s session ∷
    known_aborted session txn.number ∷
    [])

-- of a request to abort
unfoldable pub abort_refusal : RouterState → ℕ → Option Session → Txn → Option Reply
abort_refusal s conn session txn = first_some (
    too_old session txn.number ∷
    busy session conn ∷
    started session txn ∷
    no_transaction session txn.number false false ∷
    after_commit session txn.number ∷
    [])
