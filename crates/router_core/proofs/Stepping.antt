-- A router stays safe after each event, and what it replies can be spelled.
use Rattle.std.proofs.Common.{◌≡◌, ◌&&◌, ℕ, ℤ, pos, ◌+◌, ◌≤◌, ◌≤ℤ◌, ◌-◌, ◌^◌, Bool, true, false}
use Rattle.std.proofs.Common.{not, List, [], ◌∷◌, length, Option, Some, None, Result, Ok, Err, refl}
use Rattle.std.proofs.Common.{sym, subst, ◌∙◌, arith, nat_le, if◌then◌else◌}
use Rattle.std.specs.Prelude.{is_none, is_some, int_lt}
use Rattle.std.specs.List.{IsDistinct}
use Rattle.std.specs.Ordering.{int_eq}
use Rattle.std.proofs.lemmas.Int.{ints}
use Rattle.txn_types.specs.BySession.{BySession, entry_of}
use Rattle.txn_types.specs.declared.decision.Token.{Token}
use Rattle.txn_types.specs.declared.decision.Token.TheVariants as token
use Rattle.txn_types.specs.declared.event.Happening.{Happening}
use Rattle.txn_types.specs.declared.event.Happening.TheVariants as what
use Rattle.txn_types.specs.declared.event.NodeEvent.{NodeEvent}
use Rattle.txn_types.specs.declared.message.Msg.{Msg}
use Rattle.txn_types.specs.declared.message.Msg.TheVariants as msg
use Rattle.txn_types.specs.declared.node.Lsid.{Lsid}
use Rattle.txn_types.specs.declared.operation.Op.{Op}
use Rattle.txn_semantics.specs.Touched.{first_some}
use Rattle.client_cmd.specs.declared.request.Request.{Request}
use Rattle.client_cmd.specs.declared.request.Request.TheVariants as request
use Rattle.client_cmd.specs.declared.request.Txn.{Txn}
use Rattle.client_reply.specs.Replies.{FitsReply}
use Rattle.client_reply.specs.declared.reply.Refusal.{Refusal}
use Rattle.client_reply.specs.declared.reply.Refusal.TheVariants as refusal
use Rattle.client_reply.specs.declared.reply.Reply.{Reply}
use Rattle.client_reply.specs.declared.reply.Reply.TheVariants as reply
use Rattle.chunk_map.specs.Map.{Map}
use Rattle.chunk_map.specs.Parts.{shards_of, has_spread}
use Rattle.router_state.specs.declared.deed.Deed.{Deed}
use Rattle.router_state.specs.declared.state.Asker.{Asker}
use Rattle.router_state.specs.declared.state.Doing.{Doing}
use Rattle.router_state.specs.declared.state.Doing.TheVariants.{Begun, Sought}
use Rattle.router_state.specs.declared.state.Session.{Session}
use Rattle.router_state.specs.declared.state.Transaction.{Transaction}
use Rattle.router_state.specs.Deeds.{Move, still, done_in, in_each_session}
use Rattle.router_state.specs.State.{RouterState, session_of, own_session, is_own, is_waiting}
use Rattle.router_state.specs.State.{asker_of, commit_sent}
use Rattle.router_rules.specs.Commits.{commit_asked}
use Rattle.router_rules.specs.Ends.{client_aborts, ends_session, end_session, end_sessions}
use Rattle.router_rules.specs.Ends.{gone_from}
use Rattle.router_rules.specs.Safe.{FitsIf, IsDrawn, IsSafeTransaction, IsSafeDoing, IsSafeIn}
use Rattle.router_rules.specs.Safe.{AreSafe, AllFit, IsGood}
use Rattle.router_rules.specs.Serving.{answered_in, ended_in}
use Rattle.router_rules.specs.Statements.{asks}
use Rattle.router_rules.specs.Times.{walled, timed, met, read_time}
use Rattle.router_rules.specs.Tokens.{seeks}
use Rattle.router_rules.proofs.Good.{asks_good, commit_asked_good, client_aborts_good, seeks_good}
use Rattle.router_rules.proofs.Good.{answered_good, ended_good, ends_session_good, gone_good}
use Rattle.router_rules.proofs.Writing.{few_wrote}
use Rattle.router_rules.proofs.Held.{both_fit, raised, put_safe, found_safe, each_safe, each_fits}
use Rattle.router_plan.specs.declared.message.Unserved.{Unserved}
use Rattle.router_plan.specs.declared.message.Unserved.TheVariants.{Told, Closed, Memory}
use Rattle.router_plan.specs.Messages.{asked_in}
use Rattle.router_plan.specs.Refusals.{where_so, begun_in, is_so, is_elsewhere, names_shard}
use Rattle.router_plan.specs.Refusals.{is_aborted, too_old, busy, started, no_transaction}
use Rattle.router_plan.specs.Refusals.{no_token_shard, after_commit, too_long, too_many, spent}
use Rattle.router_plan.specs.Refusals.{many_shards, known_aborted, statement_refusal}
use Rattle.router_plan.specs.Refusals.{commit_refusal, abort_refusal}
use Rattle.router_core.specs.Requests.{unless_refused, begun_at, drawn, begins, states, by_itself}
use Rattle.router_core.specs.Requests.{statement, commit_sought, commit_by, commit, abort_by, abort}
use Rattle.router_core.specs.Requests.{serves}
use Rattle.router_plan.specs.Names.{NamesClient, IsClients}
use Rattle.router_plan.specs.Plain.{next_number}
use Rattle.router_plan.specs.declared.change.Change.{Change}
use Rattle.router_plan.specs.declared.plan.Base.{Base}
use Rattle.router_plan.specs.Plans.{state_of, changed, told_also}
use Rattle.router_core.specs.Safe.{IsSafe, IsHeld}
use Rattle.router_core.specs.Step.{delivered, asker_by, unless_silent, served, client, happened}
use Rattle.router_core.specs.Step.{router_step}
use Rattle.router_plan.proofs.Clients.{asked_clients}
use Rattle.router_plan.proofs.Alone.{begun_none}

-- Refusals can be spelled.

so_fits : (b : Bool) (why : Refusal) → FitsIf (where_so b why)
so_fits true why = (tt, tt)
so_fits false why = tt

old_case : (number have : ℤ) (b : Bool)
    → FitsIf (if b then Some (reply.TooOld number have) else None)
old_case number have true = (tt, tt)
old_case number have false = tt

old_fits : (session : Option Session) (number : ℤ) → FitsIf (too_old session number)
old_fits None number = tt
old_fits (Some session) number = old_case number session.number (int_lt number session.number)

elsewhere_fits : (session : Option Session) (conn : ℕ) → FitsIf (busy session conn)
elsewhere_fits session conn =
    so_fits (is_so (λ s. is_elsewhere conn (asker_of s.doing)) session) refusal.Busy

started_fits : (session : Option Session) (txn : Txn) → FitsIf (started session txn)
started_fits session txn = so_fits (txn.start
    && is_so (λ s. int_eq s.number txn.number) session) (refusal.Started txn.number)

there_fits : (session : Option Session) (number : ℤ) (serves commit : Bool)
    → FitsIf (no_transaction session number serves commit)
there_fits session number serves commit =
    so_fits (is_none (begun_in session number) && not serves) (refusal.NoTransaction number commit)

shard_fits : (session : Option Session) (number : ℤ) (shards : ℕ) (t : Option Token)
    → FitsIf (no_token_shard session number shards t)
shard_fits session number shards t =
    so_fits (is_none (begun_in session number) && not (names_shard shards t)) refusal.NoDecision

after_fits : (session : Option Session) (number : ℤ) → FitsIf (after_commit session number)
after_fits session number = so_fits (is_so (λ (t : Transaction). commit_sent t.phase)
    (begun_in session number)) refusal.AfterCommit

long_fits : (session : Option Session) (number : ℤ) → FitsIf (too_long session number)
long_fits session number = so_fits (is_so (λ (t : Transaction). nat_le 1000000 t.k)
    (begun_in session number)) refusal.TooLong

many_fits : (s : RouterState) (session : Option Session) → FitsIf (too_many s session)
many_fits s session =
    so_fits (is_none session && nat_le 1000000 (length s.sessions)) refusal.TooMany

spent_fits : (s : RouterState) (session : Option Session) (number : ℤ)
    → FitsIf (spent s session number)
spent_fits s session number =
    so_fits (is_none (begun_in session number) && nat_le (2 ^ 63 - 1) s.serial) refusal.Spent

spread_fits : (s : RouterState) (op : Op) → FitsIf (many_shards s.chunks op)
spread_fits s op = so_fits (has_spread s.chunks op) refusal.ManyShards

aborted_fits : (session : Option Session) (number : ℤ) → FitsIf (known_aborted session number)
aborted_fits session number = so_fits (is_so (λ (t : Transaction). is_aborted t.phase)
    (begun_in session number)) refusal.Aborted

abbrev EachFits : List (Option Reply) → Type 0
EachFits [] = Unit {0}
EachFits (o ∷ rest) = FitsIf o × EachFits rest

first_case : (o : Option Reply) (rest : List (Option Reply)) → FitsIf o → FitsIf (first_some rest)
    → FitsIf (first_some (o ∷ rest))
first_case None rest fits more = more
first_case (Some r) rest fits more = fits

first_fits : (all : List (Option Reply)) → EachFits all → FitsIf (first_some all)
first_fits [] fit = tt
first_fits (o ∷ rest) fit = first_case o rest fit.0 (first_fits rest fit.1)

statement_fits : (s : RouterState) (conn : ℕ) (session : Option Session) (txn : Txn) (op : Op)
    → FitsIf (statement_refusal s conn session txn op)
unfolding statement_refusal
statement_fits s conn session txn op =
    first_fits (
    too_old session txn.number ∷
    busy session conn ∷
    started session txn ∷
    no_transaction session txn.number txn.start false ∷
    after_commit session txn.number ∷
    too_long session txn.number ∷
    too_many s session ∷
    spent s session txn.number ∷
    many_shards s.chunks op ∷
    known_aborted session txn.number ∷
    []) (
      old_fits session txn.number,
      (
        elsewhere_fits session conn,
        (
          started_fits session txn,
          (
            there_fits session txn.number txn.start false,
            (
              after_fits session txn.number,
              (
                long_fits session txn.number,
                (
                  many_fits s session,
                  (
                    spent_fits s session txn.number,
                    (spread_fits s op, (aborted_fits session txn.number, tt)),
                  ),
                ),
              ),
            ),
          ),
        ),
      ),
    )

commit_fits : (s : RouterState) (conn : ℕ) (session : Option Session) (txn : Txn) (t : Option Token)
    → FitsIf (commit_refusal s conn session txn t)
unfolding commit_refusal
commit_fits s conn session txn t =
    first_fits (
    too_old session txn.number ∷
    busy session conn ∷
    started session txn ∷
    no_transaction session txn.number (is_some t) true ∷
    no_token_shard session txn.number s.chunks.shards t ∷
    too_many s session ∷
    known_aborted session txn.number ∷
    []) (
      old_fits session txn.number,
      (
        elsewhere_fits session conn,
        (
          started_fits session txn,
          (
            there_fits session txn.number (is_some t) true,
            (
              shard_fits session txn.number s.chunks.shards t,
              (many_fits s session, (aborted_fits session txn.number, tt)),
            ),
          ),
        ),
      ),
    )

abort_fits : (s : RouterState) (conn : ℕ) (session : Option Session) (txn : Txn)
    → FitsIf (abort_refusal s conn session txn)
unfolding abort_refusal
abort_fits s conn session txn =
    first_fits (
    too_old session txn.number ∷
    busy session conn ∷
    started session txn ∷
    no_transaction session txn.number false false ∷
    after_commit session txn.number ∷
    []) (
      old_fits session txn.number,
      (
        elsewhere_fits session conn,
        (
          started_fits session txn,
          (there_fits session txn.number false false, (after_fits session txn.number, tt)),
        ),
      ),
    )

-- Moves.

still_held : (s : RouterState) → IsSafe s → IsHeld (still s)
still_held s safe = record { state = safe; replies = tt }

refused_held : (s : RouterState) (asker : Asker) (o : Option Reply) (move : Move) → IsSafe s
    → FitsIf o → IsHeld move → IsHeld (unless_refused s asker o move)
refused_held s asker None move safe fits held = held
refused_held s asker (Some r) move safe fits held = record { state = safe; replies = (fits, tt) }

done_held : (s : RouterState) (lsid : Lsid) (deed : Deed) → IsSafe s → IsGood s.serial lsid deed
    → IsHeld (done_in s lsid deed)
done_held s lsid deed safe good = record {
  state = record {
    map = safe.map;
    shards = safe.shards;
    sessions = put_safe s.serial lsid deed.session s.sessions good.session safe.sessions;
  };
  replies = good.replies;
}

also_held : (move : Move) (asker : Asker) (legacy : Bool) (r : Reply) → IsHeld move → FitsReply r
    → IsHeld (told_also move asker legacy r)
also_held move asker legacy r held fits =
    record { state = held.state; replies = both_fit move.given.replies _ held.replies (fits, tt) }

-- after the times of a request, of a message, and of an event
met_safe : (s : RouterState) (time after : Option ℕ) → IsSafe s → IsSafe (met s time after)
met_safe s time after safe =
    record { map = safe.map; shards = safe.shards; sessions = safe.sessions }

-- A session that stands is safe.

abbrev Stands : ℕ → Lsid → Option Session → Type 0
Stands serial lsid session = (x : Session) → session ≡ Some x → IsSafeIn serial lsid x

of_standing : (s : RouterState) (lsid : Lsid) → IsSafe s → Stands s.serial lsid (session_of s lsid)
of_standing s lsid safe x h = found_safe s.serial lsid s.sessions x safe.sessions h

some_same : (a b : Transaction) → Some a ≡ Some b → a ≡ b
some_same a b h = cc

doing_case : (doing : Doing) (t : Transaction) → IsSafeDoing doing
    → (elim doing [ Begun t ↦ Some t | Sought seeking known ↦ None ]) ≡ Some t → IsSafeTransaction t
doing_case (Begun u) t safe h =
    subst (λ (x : Transaction). IsSafeTransaction x) (some_same u t h) safe
doing_case (Sought seeking known) t safe h = cc

number_case : (doing : Doing) (t : Transaction) (same : Bool) → IsSafeDoing doing
    → (if same then elim doing [ Begun t ↦ Some t | Sought seeking known ↦ None ]
    else None) ≡ Some t → IsSafeTransaction t
number_case doing t true safe h = doing_case doing t safe h
number_case doing t false safe h = cc

begun_safe : (serial : ℕ) (lsid : Lsid) (session : Option Session) (number : ℤ) (t : Transaction)
    → Stands serial lsid session → begun_in session number ≡ Some t → IsSafeTransaction t
begun_safe serial lsid None number t stands h = cc
begun_safe serial lsid (Some session) number t stands h =
    number_case session.doing t (int_eq session.number number) (stands session refl).doing h

-- what was begun here wrote at few shards
pub begun_few : (serial : ℕ) (lsid : Lsid) (sessions : BySession Session) (session : Option Session)
    (number : ℤ) (t : Transaction) → AreSafe serial sessions → session ≡ entry_of lsid sessions
    → begun_in session number ≡ Some t → length t.wrote ≤ 65535
begun_few serial lsid sessions session number t safe is h = few_wrote t (begun_safe serial lsid
    session number t (λ x some. found_safe serial lsid sessions x safe (sym is ∙ some)) h)

-- Statements.

drawn_safe : (s : RouterState) (read_at : ℕ) → IsSafe s → IsSafe (drawn s read_at)
drawn_safe s read_at safe = record {
  map = safe.map;
  shards = safe.shards;
  sessions = raised s.serial (s.serial + 1) s.sessions (omega arith) safe.sessions;
}

begun_at_safe : (s : RouterState) (read_at : ℕ) → IsSafeTransaction (begun_at s read_at)
unfolding IsDistinct
begun_at_safe s read_at = record { once = tt; few = tt; told = tt; asked = tt }

begins_held : (s : RouterState) (lsid : Lsid) (session : Option Session) (number : ℤ)
    (asker : Asker) (op : Op) (at : Option ℕ) → IsSafe s → IsDrawn (s.serial + 1) lsid number
    → IsHeld (begins s lsid session number asker op at)
begins_held s lsid session number asker op at safe own =
    let read_at : ℕ = read_time s (is_own lsid) (shards_of s.chunks op) at in
    let good : IsGood (s.serial + 1) lsid (asks s.chunks lsid number asker op
    (begun_at s read_at)) = asks_good (s.serial + 1) lsid number own s.chunks asker op
    (begun_at s read_at) safe.map safe.shards (begun_at_safe s read_at) in
    done_held (drawn s read_at) lsid _ (drawn_safe s read_at safe)
    (record { session = good.session; replies = good.replies })

states_held : (s : RouterState) (lsid : Lsid) (session : Option Session) (number : ℤ)
    (asker : Asker) (op : Op) (at : Option ℕ) (t : Option Transaction) → IsSafe s
    → IsDrawn (s.serial + 1) lsid number
    → ((x : Transaction) → t ≡ Some x → IsDrawn s.serial lsid number × IsSafeTransaction x)
    → IsHeld (states s lsid session number asker op at t)
states_held s lsid session number asker op at None safe own begun =
    begins_held s lsid session number asker op at safe own
states_held s lsid session number asker op at (Some t) safe own begun =
    let here = begun t refl in
    done_held s lsid (asks s.chunks lsid number asker op t) safe
    (asks_good s.serial lsid number here.0 s.chunks asker op t safe.map safe.shards here.1)

not_own : (serial : ℕ) (lsid : Lsid) (number : ℤ) → is_own lsid ≡ false → IsDrawn serial lsid number
not_own serial lsid number h is = cc

plus_one : (serial : ℕ) (session : Option Session) → ((x : Session) → session ≡ Some x
    → x.number ≤ℤ pos serial) → next_number session ≤ℤ pos (serial + 1)
plus_one serial None h = omega (arith, ints)
plus_one serial (Some session) h = let below : session.number ≤ℤ pos serial = h session refl in
    omega (arith, ints)

none_some : (t : Option Transaction) (x : Transaction) → t ≡ None → t ≡ Some x → ⊥
none_some t x none some = let both : ◌≡◌ {A = Option Transaction} None (Some x) = sym none
    ∙ some in cc

never : (session : Option Session) (t : Transaction)
    → begun_in session (next_number session) ≡ Some t → ⊥
never session t h = none_some (begun_in session (next_number session)) t (begun_none session) h

statement_held : (s : RouterState) (asker : Asker) (txn : Option Txn) (op : Op) (at : Option ℕ)
    → IsSafe s → NamesClient txn → IsHeld (statement s asker txn op at)
statement_held s asker None op at safe names =
    let lsid : Lsid = own_session s asker.conn in
    let session : Option Session = session_of s lsid in
    let number : ℤ = next_number session in
    refused_held s asker (statement_refusal s asker.conn session (by_itself s asker.conn) op) _ safe
    (statement_fits s asker.conn session (by_itself s asker.conn) op)
    (states_held s lsid session number asker op at (begun_in session number) safe
    (λ is. plus_one s.serial session (λ x h. (of_standing s lsid safe x h).own is))
    (λ x h. absurd (never session x h)))
statement_held s asker (Some txn) op at safe names =
    let session : Option Session = session_of s txn.lsid in
    refused_held s asker (statement_refusal s asker.conn session txn op) _ safe
    (statement_fits s asker.conn session txn op)
    (states_held s txn.lsid session txn.number asker op at (begun_in session txn.number) safe
    (not_own (s.serial + 1) txn.lsid txn.number names)
    (λ x h. (
      not_own s.serial txn.lsid txn.number names,
      begun_safe s.serial txn.lsid session txn.number x (of_standing s txn.lsid safe) h,
    )))

-- Commits and aborts.

sought_held : (s : RouterState) (asker : Asker) (txn : Txn) (session : Option Session)
    (t : Option Token) → IsSafe s → is_own txn.lsid ≡ false → Stands s.serial txn.lsid session
    → IsHeld (commit_sought s asker txn session t)
sought_held s asker txn session None safe names stands = still_held s safe
sought_held s asker txn session (Some (token.Early tag)) safe names stands = still_held s safe
sought_held s asker txn session (Some token.Other) safe names stands = still_held s safe
sought_held s asker txn session (Some (token.Placed tag shard boot)) safe names stands =
    done_held s txn.lsid (seeks txn.lsid txn.number asker tag shard boot session) safe
    (seeks_good s.serial txn.lsid txn.number (not_own s.serial txn.lsid txn.number names) asker
    _ session stands)

by_held : (s : RouterState) (asker : Asker) (txn : Txn) (session : Option Session)
    (t : Option Token) (own : Option Transaction) → IsSafe s → is_own txn.lsid ≡ false
    → Stands s.serial txn.lsid session
    → ((x : Transaction) → own ≡ Some x → IsSafeTransaction x)
    → IsHeld (commit_by s asker txn session t own)
by_held s asker txn session t None safe names stands begun =
    sought_held s asker txn session t safe names stands
by_held s asker txn session t (Some own) safe names stands begun =
    done_held s txn.lsid (commit_asked txn.lsid txn.number asker own) safe
    (commit_asked_good s.serial txn.lsid txn.number (not_own s.serial txn.lsid txn.number names)
    asker own (begun own refl))

commit_held : (s : RouterState) (asker : Asker) (txn : Option Txn) (t : Option Token) → IsSafe s
    → NamesClient txn → IsHeld (commit s asker txn t)
commit_held s asker None t safe names = still_held s safe
commit_held s asker (Some txn) t safe names =
    let session : Option Session = session_of s txn.lsid in
    let stands : Stands s.serial txn.lsid session = of_standing s txn.lsid safe in
    refused_held s asker (commit_refusal s asker.conn session txn t) _ safe
    (commit_fits s asker.conn session txn t)
    (by_held s asker txn session t (begun_in session txn.number) safe names stands
    (λ x h. begun_safe s.serial txn.lsid session txn.number x stands h))

abort_by_held : (s : RouterState) (asker : Asker) (txn : Txn) (own : Option Transaction)
    → IsSafe s → is_own txn.lsid ≡ false → ((x : Transaction) → own ≡ Some x → IsSafeTransaction x)
    → IsHeld (abort_by s asker txn own)
abort_by_held s asker txn None safe names begun = still_held s safe
abort_by_held s asker txn (Some own) safe names begun =
    done_held s txn.lsid (client_aborts txn.lsid txn.number asker own)
    safe (client_aborts_good s.serial txn.lsid txn.number
    (not_own s.serial txn.lsid txn.number names) asker own (begun own refl))

abort_held : (s : RouterState) (asker : Asker) (txn : Option Txn) → IsSafe s → NamesClient txn
    → IsHeld (abort s asker txn)
abort_held s asker None safe names = still_held s safe
abort_held s asker (Some txn) safe names =
    let session : Option Session = session_of s txn.lsid in
    let stands : Stands s.serial txn.lsid session = of_standing s txn.lsid safe in
    refused_held s asker (abort_refusal s asker.conn session txn) _ safe
    (abort_fits s asker.conn session txn)
    (abort_by_held s asker txn (begun_in session txn.number) safe names
    (λ x h. begun_safe s.serial txn.lsid session txn.number x stands h))

-- Ends of sessions.

end_held : (s : RouterState) (lsid : Lsid) (session : Option Session) → IsSafe s
    → Stands s.serial lsid session → IsHeld (end_session s lsid session)
end_held s lsid None safe stands = still_held s safe
end_held s lsid (Some session) safe stands =
    let good : IsGood s.serial lsid (ends_session lsid session) =
    ends_session_good s.serial lsid session (stands session refl) in
    record {
      state = record {
        map = safe.map;
        shards = safe.shards;
        sessions = put_safe s.serial lsid (ends_session lsid session).session s.sessions
            good.session safe.sessions;
      };
      replies = good.replies;
    }

pub ends_held : (s : RouterState) (lsids : List Lsid) → IsSafe s → IsHeld (end_sessions s lsids)
ends_held s [] safe = still_held s safe
ends_held s (lsid ∷ lsids) safe =
    let first : IsHeld (end_session s lsid (session_of s lsid)) =
    end_held s lsid (session_of s lsid) safe (of_standing s lsid safe) in
    let more : IsHeld (end_sessions (end_session s lsid (session_of s lsid)).state lsids) =
    ends_held (end_session s lsid (session_of s lsid)).state lsids first.state in
    record { state = more.state; replies = both_fit _ _ first.replies more.replies }

-- Requests.

serves_held : (s : RouterState) (asker : Asker) (legacy : Bool) (r : Request) → IsSafe s
    → IsClients r → IsHeld (serves s asker legacy r)
unfolding serves
serves_held s asker legacy (request.Ping more time) safe names = also_held (still (met s time None))
    asker legacy reply.Ping (still_held (met s time None) (met_safe s time None safe)) (tt, tt)
serves_held s asker legacy (request.Hello old_name more time) safe names =
    also_held (still (met s time None)) asker legacy (reply.Hello old_name s.wall asker.conn)
    (still_held (met s time None) (met_safe s time None safe)) (tt, tt)
serves_held s asker legacy (request.Statement op txn at after more time) safe names =
    statement_held (met s time after) asker txn op at (met_safe s time after safe) names
serves_held s asker legacy (request.Commit txn t more time) safe names =
    commit_held (met s time None) asker txn t (met_safe s time None safe) names
serves_held s asker legacy (request.Abort txn more time) safe names =
    abort_held (met s time None) asker txn (met_safe s time None safe) names
serves_held s asker legacy (request.EndSessions ids more time) safe names =
    also_held (end_sessions (met s time None) ids) asker legacy (reply.Ended None)
    (ends_held (met s time None) ids (met_safe s time None safe)) (tt, tt)

-- Messages and the step.

told_case : (why : Refusal) → FitsReply (reply.Refused why)
told_case why = (tt, tt)

served_held : (s : RouterState) (conn : ℕ) (bytes : List ℕ) (asked : Result Request Unserved)
    → IsSafe s → ((r : Request) → asked ≡ Ok r → IsClients r) → IsHeld (served s conn bytes asked)
served_held s conn bytes (Ok r) safe names =
    serves_held s (asker_by conn bytes) _ r safe (names r refl)
served_held s conn bytes (Err (Told why)) safe names = also_held (still s) (asker_by conn bytes) _
    (reply.Refused why) (still_held s safe) (told_case why)
served_held s conn bytes (Err (Closed number)) safe names = still_held s safe
served_held s conn bytes (Err Memory) safe names = still_held s safe

silent_held : (wants : Bool) (move : Move) → IsHeld move → IsHeld (unless_silent wants move)
silent_held true move held = held
silent_held false move held = record { state = held.state; replies = tt }

either_held : (b : Bool) (x y : Move) → IsHeld x → IsHeld y → IsHeld (if b then x else y)
either_held true x y hx hy = hx
either_held false x y hx hy = hy

client_held : (s : RouterState) (conn : ℕ) (bytes : List ℕ) → IsSafe s
    → IsHeld (client s conn bytes)
client_held s conn bytes safe =
    either_held (is_waiting s conn) (still s) _ (still_held s safe)
    (silent_held _ (served s conn bytes (asked_in s.wall bytes)) (served_held s conn bytes
    (asked_in s.wall bytes) safe (λ r h. asked_clients s.wall bytes r h)))

each_held : (s : RouterState) (act : Lsid → Session → Deed) → ((lsid : Lsid) (session : Session)
    → IsSafeIn s.serial lsid session → IsGood s.serial lsid (act lsid session)) → IsSafe s
    → IsHeld (in_each_session act s)
each_held s act good safe = record {
  state = record {
    map = safe.map;
    shards = safe.shards;
    sessions = each_safe s.serial act s.sessions good safe.sessions;
  };
  replies = each_fits s.serial act s.sessions good safe.sessions;
}

delivered_held : (s : RouterState) (m : Msg) → IsSafe s → IsHeld (delivered s m)
delivered_held s (msg.Answer a) safe =
    each_held s (answered_in a) (λ lsid session h. answered_good s.serial a lsid session h) safe
delivered_held s (msg.Outcome o) safe =
    each_held s (ended_in o) (λ lsid session h. ended_good s.serial o lsid session h) safe
delivered_held s other safe = still_held s safe

timed_safe : (s : RouterState) (time : ℕ) → IsSafe s → IsSafe (timed s time)
timed_safe s time safe = record { map = safe.map; shards = safe.shards; sessions = safe.sessions }

pub happened_held : (s : RouterState) (h : Happening) → IsSafe s → IsHeld (happened s h)
happened_held s (what.Client conn bytes) safe = client_held s conn bytes safe
happened_held s (what.Gone conn) safe =
    each_held s (gone_from conn) (λ lsid session h. gone_good s.serial conn lsid session h) safe
happened_held s (what.Deliver e) safe =
    delivered_held (timed s e.time) e.msg (timed_safe s e.time safe)
happened_held s what.Resend safe = record { state = safe; replies = tt }
happened_held s what.Moment safe = still_held s safe

walled_safe : (s : RouterState) (wall : ℕ) → IsSafe s → IsSafe (walled s wall)
walled_safe s wall safe = record { map = safe.map; shards = safe.shards; sessions = safe.sessions }

-- a router after these is one that is safe
pub met_holds : (s t : RouterState) (time after : Option ℕ) → IsSafe s
    → t ≡ met s time after → IsSafe t
met_holds s t time after safe is = subst IsSafe (sym is) (met_safe s time after safe)

pub timed_holds : (s t : RouterState) (time : ℕ) → IsSafe s → t ≡ timed s time → IsSafe t
timed_holds s t time safe is = subst IsSafe (sym is) (timed_safe s time safe)

pub walled_holds : (s t : RouterState) (wall : ℕ) → IsSafe s → t ≡ walled s wall → IsSafe t
walled_holds s t wall safe is = subst IsSafe (sym is) (walled_safe s wall safe)

-- what is planned at an event can be spelled
pub planned_fits : (s t : RouterState) (wall : ℕ) (h : Happening) (move : Move) → IsSafe s
    → t ≡ walled s wall → move ≡ happened t h → AllFit move.given.replies
planned_fits s t wall h move safe at is = subst (λ (m : Move).
    AllFit m.given.replies) (sym is) (happened_held t h (walled_holds s t wall safe at)).replies

-- so the state after a step is safe
step_safe : (s : RouterState) (e : NodeEvent) → IsSafe s → IsSafe (router_step false s e).state
unfolding router_step
step_safe s e safe = (happened_held (walled s e.wall) e.what (walled_safe s e.wall safe)).state

-- made of what was planned over the sessions that were seen
pub step_holds : (base behind : Base) (chunks : Map) (change : Change) (sessions seen
    next : BySession Session) (e : NodeEvent) → IsSafe (state_of base chunks sessions)
    → seen ≡ sessions → next ≡ changed change sessions
    → state_of behind chunks (changed change seen) ≡ (router_step false (state_of base chunks seen)
    e).state → IsSafe (state_of behind chunks next)
step_holds base behind chunks change sessions seen next e safe same made is =
    let step : state_of behind chunks (changed change sessions) ≡ (router_step false (state_of base
    chunks sessions) e).state = subst (λ (xs : BySession Session). state_of behind chunks
    (changed change xs) ≡ (router_step false (state_of base chunks xs) e).state) same is in
    let held : IsSafe (state_of behind chunks (changed change sessions)) =
    subst IsSafe (sym step) (step_safe (state_of base chunks sessions) e safe) in
    subst (λ (xs : BySession Session). IsSafe (state_of behind chunks xs)) (sym made) held
