-- A router's step: what it sends goes to shards that are there, and what it has of shards is of
-- such.
use Rattle.std.proofs.Common.{◌≡◌, ℕ, ℤ, Bool, true, false, not, ◌&&◌, All, List, [], ◌∷◌, ◌++◌}
use Rattle.std.proofs.Common.{map, filter, length, nat_eq, nat_lt, int_lt, int_eq, is_none, is_some}
use Rattle.std.proofs.Common.{Option, Some, None, IfSome, Result, Ok, Err, refl, sym, subst}
use Rattle.std.specs.Prelude.{fold, flat_map, filter_map}
use Rattle.std.specs.Ordering.{nat_cmp, is_lt}
use Rattle.std.specs.List.{range_with_len}
use Rattle.std.proofs.lemmas.Bool.{ltb-true}
use Rattle.std.proofs.lemmas.List.Elements.{All-nil, All-cons, All-head, All-tail, All-append}
use Rattle.std.proofs.lemmas.List.Elements.{All-map, All-filter}
use Rattle.txn_types.specs.BySession.{BySession}
use Rattle.txn_types.specs.Letters.{Letter, sent_by, given_out}
use Rattle.txn_types.specs.Order.{same_tag}
use Rattle.txn_types.specs.declared.cause.Cause.{Cause}
use Rattle.txn_types.specs.declared.decision.Told.{Told}
use Rattle.txn_types.specs.declared.decision.Told.TheVariants as told_as
use Rattle.txn_types.specs.declared.decision.Token.{Token}
use Rattle.txn_types.specs.declared.decision.Token.TheVariants as token
use Rattle.txn_types.specs.declared.event.Happening.{Happening}
use Rattle.txn_types.specs.declared.event.Happening.TheVariants as what
use Rattle.txn_types.specs.declared.event.NodeEvent.{NodeEvent}
use Rattle.txn_types.specs.declared.message.Answer.{Answer}
use Rattle.txn_types.specs.declared.message.Envelope.{Envelope}
use Rattle.txn_types.specs.declared.message.Msg.{Msg}
use Rattle.txn_types.specs.declared.message.Msg.TheVariants as msg
use Rattle.txn_types.specs.declared.message.Outcome.{Outcome}
use Rattle.txn_types.specs.declared.names.Tag.{Tag}
use Rattle.txn_types.specs.declared.node.Lsid.{Lsid}
use Rattle.txn_types.specs.declared.node.NodeId.{NodeId}
use Rattle.txn_types.specs.declared.node.NodeId.TheVariants.{Shard, Router}
use Rattle.txn_types.specs.declared.operation.Op.{Op}
use Rattle.txn_types.specs.declared.operation.OpReply.{OpReply}
use Rattle.txn_semantics.specs.Keyed.{put}
use Rattle.txn_semantics.specs.Touched.{first_some}
use Rattle.op_msg.specs.Asking.{wants_reply}
use Rattle.client_cmd.specs.declared.request.Request.{Request}
use Rattle.client_cmd.specs.declared.request.Request.TheVariants as request
use Rattle.client_cmd.specs.declared.request.Txn.{Txn}
use Rattle.client_reply.specs.declared.reply.Refusal.TheVariants as refusal
use Rattle.client_reply.specs.declared.reply.Reply.{Reply}
use Rattle.chunk_map.specs.Map.{Map}
use Rattle.chunk_map.specs.Parts.{shards_of}
use Rattle.router_plan.specs.Messages.{asked_in}
use Rattle.router_plan.specs.Plans.{told_also}
use Rattle.router_plan.specs.Refusals.{begun_in, too_old, busy, started, no_transaction}
use Rattle.router_plan.specs.Refusals.{no_token_shard, names_shard, too_many, known_aborted}
use Rattle.router_plan.specs.Refusals.{where_so, commit_refusal}
use Rattle.router_plan.specs.Spelling.{letter_of}
use Rattle.router_plan.specs.declared.message.Unserved.{Unserved}
use Rattle.router_plan.specs.declared.message.Unserved.TheVariants as un
use Rattle.router_core.specs.Requests as rq
use Rattle.router_core.specs.Step as sp
use Rattle.router_rules.specs.Commits as co
use Rattle.router_rules.specs.Ends as en
use Rattle.router_rules.specs.Resends as rs
use Rattle.router_rules.specs.Serving.{answered_in, ended_in}
use Rattle.router_rules.specs.Statements as st
use Rattle.router_rules.specs.Times.{walled}
use Rattle.router_rules.specs.Tokens as tk
use Rattle.router_state.specs.Deeds.{nothing, aborting, telling, told, both, in_session, Move}
use Rattle.router_state.specs.Deeds.{still, done_in, each_session, in_each_session}
use Rattle.router_state.specs.Shards.{writers, readers, has_written, with_shard}
use Rattle.router_state.specs.State.{Post, RouterState, asker_of, is_from, is_waiting, commit_sent}
use Rattle.router_state.specs.State.{is_unfinished, is_waited, is_own, without, token_of}
use Rattle.router_state.specs.State.{session_of, boot_of}
use Rattle.router_state.specs.declared.deed.Deed.{Deed}
use Rattle.router_state.specs.declared.deed.Given.{Given}
use Rattle.router_state.specs.declared.state.Asker.{Asker}
use Rattle.router_state.specs.declared.state.Doing.{Doing}
use Rattle.router_state.specs.declared.state.Doing.TheVariants.{Begun, Sought}
use Rattle.router_state.specs.declared.state.Phase.{Phase}
use Rattle.router_state.specs.declared.state.Phase.TheVariants.{Idle, Asking, Checking, Deciding}
use Rattle.router_state.specs.declared.state.Phase.TheVariants.{Committed, Released, Aborted}
use Rattle.router_state.specs.declared.state.Seeking.{Seeking}
use Rattle.router_state.specs.declared.state.Session.{Session}
use Rattle.router_state.specs.declared.state.Transaction.{Transaction}
use Rattle.participant.proofs.Cases.{either}
use Rattle.address_laws.specs.Addresses.{ShardsThere, PartsThere, NamesThere, LetterThere, EnvThere}
use Rattle.address_laws.specs.Addresses.{EventThere, PostThere, PostsThere, PhaseThere}
use Rattle.address_laws.specs.Addresses.{TransactionThere, DoingThere, MapThere, SessionsThere}
use Rattle.address_laws.specs.Addresses.{RouterThere}
use Rattle.world_laws.proofs.PartTimes.{entries_put}
use Rattle.address_laws.proofs.Lists.{entry_has, option_put}
use Rattle.address_laws.proofs.Maps.{asked_there, each_there}
use Rattle.world_laws.proofs.Naming.{one, each_of, put_all}

abbrev At : (NodeId → Type 0) → ℕ → Type 0
At T shard = T (Shard shard)

-- what stands under a shard's number
abbrev Under : {A : Type 0} → (NodeId → Type 0) → ℕ × A → Type 0
Under T entry = T (Shard entry.0)

-- What is done, given out and left.

record GivenThere (T : NodeId → Type 0) (g : Given) : Type 0 where
  aborts : PostsThere T g.aborts
  sends : PostsThere T g.sends

record DeedThere (T : NodeId → Type 0) (d : Deed) : Type 0 where
  doing : DoingThere T d.session.doing
  given : GivenThere T d.given

record MoveThere (T : NodeId → Type 0) (m : Move) : Type 0 where
  state : SessionsThere T m.state
  given : GivenThere T m.given

none : (T : NodeId → Type 0) → PostsThere T []
none T = All-nil (PostThere T)

no_given : (T : NodeId → Type 0) → GivenThere T nothing
no_given T = record { aborts = none T; sends = none T }

both_there : (T : NodeId → Type 0) (a b : Given) → GivenThere T a → GivenThere T b
    → GivenThere T (both a b)
both_there T a b h k = record {
  aborts = All-append (PostThere T) a.aborts b.aborts h.aborts k.aborts;
  sends = All-append (PostThere T) a.sends b.sends h.sends k.sends;
}

-- Participants.

shards_put : (T : NodeId → Type 0) (parts : List (ℕ × ℕ)) (shards : List ℕ) → PartsThere T parts
    → ShardsThere T shards → PartsThere T (fold with_shard parts shards)
shards_put T parts [] h k = h
shards_put T parts (shard ∷ shards) h k =
    shards_put T (with_shard parts shard) shards (put_all nat_cmp (Under T) shard (boot_of parts
    shard) parts (All-head (At T) shard shards k) h) (All-tail (At T) shard shards k)

readers_there : (T : NodeId → Type 0) (t : Transaction) → PartsThere T t.parts
    → PartsThere T (readers t)
readers_there T t h = All-filter (λ (part : ℕ × ℕ). not (has_written t part.0)) (Under T) t.parts h

writers_there : (T : NodeId → Type 0) (t : Transaction) → ShardsThere T t.wrote
    → PartsThere T (writers t)
writers_there T t h = All-map (Under T) (λ (shard : ℕ). (shard, boot_of t.parts shard)) t.wrote h

-- Ends.

aborts_there : (T : NodeId → Type 0) (lsid : Lsid) (number : ℤ) (why : ℕ) (t : Transaction)
    → PartsThere T t.parts → PostsThere T (en.aborts lsid number why t)
aborts_there T lsid number why t h = each_of (Under T) (PostThere T) (en.abort_to lsid number why
    t.tag) (λ part k. (k, tt)) t.parts h

without_there : (T : NodeId → Type 0) (shard : ℕ) (posts : List Post) → PostsThere T posts
    → PostsThere T (without shard posts)
without_there T shard posts h = All-filter (λ post. not (nat_eq post.0 shard)) (PostThere T) posts h

leaves_doing : (T : NodeId → Type 0) (lsid : Lsid) (number : ℤ) (doing : Doing) → DoingThere T doing
    → PostsThere T (en.leaves lsid (record { number = number; doing = doing }))
leaves_doing T lsid number (Begun t) h = either (is_unfinished t.phase) (PostsThere T) _ _
    (aborts_there T lsid number 6 t h.parts) (none T)
leaves_doing T lsid number (Sought seeking known) h = none T

-- after an end nothing more is asked
ended_there : (T : NodeId → Type 0) (phase : Phase) (t : Transaction) → PhaseThere T phase
    → PartsThere T t.parts → ShardsThere T t.wrote → TransactionThere T (en.ended phase t)
ended_there T phase t q p w = record { parts = p; wrote = w; answers = q; waiting = none T }

ends_there : (T : NodeId → Type 0) (lsid : Lsid) (number : ℤ) (why : ℕ) (t : Transaction)
    → TransactionThere T t → DeedThere T (en.ends lsid number why t)
ends_there T lsid number why t h = record {
  doing = ended_there T (Aborted (commit_sent t.phase)) t tt h.parts h.wrote;
  given = record { aborts = aborts_there T lsid number why t h.parts; sends = none T };
}

rests : (T : NodeId → Type 0) (number : ℤ) (t : Transaction) → TransactionThere T t
    → DeedThere T (in_session number t nothing)
rests T number t h = record { doing = h; given = no_given T }

-- Commits.

-- what a commit rests on
record CommitThere (T : NodeId → Type 0) (t : Transaction) : Type 0 where
  parts : PartsThere T t.parts
  wrote : ShardsThere T t.wrote

finished_there : (T : NodeId
    → Type 0) (lsid : Lsid) (number : ℤ) (asker : Option Asker) (phase : Phase) (t : Transaction)
    → PhaseThere T phase → CommitThere T t → DeedThere T (co.finished lsid number asker phase t)
finished_there T lsid number asker phase t q h = record {
  doing = ended_there T phase t q h.parts h.wrote;
  given = record { aborts = none T; sends = none T };
}

waits_there : (T : NodeId → Type 0) (number : ℤ) (phase : Phase) (posts : List Post)
    (t : Transaction) → PhaseThere T phase → CommitThere T t → PostsThere T posts
    → DeedThere T (co.waits number phase posts t)
waits_there T number phase posts t q h k = record {
  doing = record { parts = h.parts; wrote = h.wrote; answers = q; waiting = k };
  given = record { aborts = none T; sends = k };
}

decides_by_there : (T : NodeId → Type 0) (lsid : Lsid) (number : ℤ) (asker : Option Asker)
    (t : Transaction) (parts : List (ℕ × ℕ)) → CommitThere T t → PartsThere T parts
    → DeedThere T (co.decides_by lsid number asker t parts)
decides_by_there T lsid number asker t [] h k = finished_there T lsid number asker Released t tt h
decides_by_there T lsid number asker t (first ∷ []) h k =
    waits_there T number (Deciding asker) _ t tt h
    (one (PostThere T) (co.commit_to lsid number t first) (All-head (Under T) first [] k, tt))
decides_by_there T lsid number asker t (first ∷ second ∷ more) h k =
    waits_there T number (Deciding asker) _ t tt h
    (one (PostThere T) (co.commit_two_to lsid number t first)
    (All-head (Under T) first (second ∷ more) k, writers_there T t h.wrote))

decides_there : (T : NodeId → Type 0) (lsid : Lsid) (number : ℤ) (asker : Option Asker)
    (t : Transaction) → CommitThere T t → DeedThere T (co.decides lsid number asker t)
decides_there T lsid number asker t h =
    decides_by_there T lsid number asker t (writers t) h (writers_there T t h.wrote)

commits_by_there : (T : NodeId → Type 0) (lsid : Lsid) (number : ℤ) (asker : Option Asker)
    (t : Transaction) (parts : List (ℕ × ℕ)) → CommitThere T t → PartsThere T parts
    → DeedThere T (co.commits_by lsid number asker t parts)
commits_by_there T lsid number asker t [] h k = decides_there T lsid number asker t h
commits_by_there T lsid number asker t (first ∷ more) h k =
    waits_there T number (Checking asker) _ t tt h (each_of (Under T) (PostThere T)
    (co.commit_to lsid number t) (λ part k. (k, tt)) (first ∷ more) k)

commits_there : (T : NodeId → Type 0) (lsid : Lsid) (number : ℤ) (asker : Option Asker)
    (t : Transaction) → CommitThere T t → DeedThere T (co.commits lsid number asker t)
commits_there T lsid number asker t h =
    commits_by_there T lsid number asker t (readers t) h (readers_there T t h.parts)

commit_of : (T : NodeId → Type 0) (t : Transaction) → TransactionThere T t → CommitThere T t
commit_of T t h = record { parts = h.parts; wrote = h.wrote }

listens_there : (T : NodeId → Type 0) (lsid : Lsid) (number : ℤ) (asker : Asker) (t : Transaction)
    → TransactionThere T t → DeedThere T (co.listens lsid number asker t)
listens_there T lsid number asker t h =
    either (nat_eq (length t.waiting) 0) (DeedThere T) _ _
    (decides_there T lsid number (Some asker) t (commit_of T t h))
    (record {
      doing = record { parts = h.parts; wrote = h.wrote; answers = tt; waiting = h.waiting };
      given = no_given T;
    })

commit_phase : (T : NodeId → Type 0) (lsid : Lsid) (number : ℤ) (asker : Asker) (t : Transaction)
    (p : Phase) → TransactionThere T (record t { phase = p })
    → DeedThere T (co.commit_asked lsid number asker (record t { phase = p }))
commit_phase T lsid number asker t Idle h = commits_there T lsid number (Some asker) (record t
    { phase = Idle }) (commit_of T (record t { phase = Idle }) h)
commit_phase T lsid number asker t (Asking other op answers) h =
    rests T number (record t { phase = Asking other op answers }) h
commit_phase T lsid number asker t (Checking other) h = record {
  doing = record { parts = h.parts; wrote = h.wrote; answers = tt; waiting = h.waiting };
  given = no_given T;
}
commit_phase T lsid number asker t (Deciding other) h =
    listens_there T lsid number asker (record t { phase = Deciding other }) h
commit_phase T lsid number asker t Committed h = finished_there T lsid number (Some asker) Committed
    (record t { phase = Committed }) tt (commit_of T (record t { phase = Committed }) h)
commit_phase T lsid number asker t Released h = finished_there T lsid number (Some asker) Released
    (record t { phase = Released }) tt (commit_of T (record t { phase = Released }) h)
commit_phase T lsid number asker t (Aborted sent) h =
    record { doing = h; given = record { aborts = none T; sends = none T } }

commit_asked_there : (T : NodeId → Type 0) (lsid : Lsid) (number : ℤ) (asker : Asker)
    (t : Transaction) → TransactionThere T t → DeedThere T (co.commit_asked lsid number asker t)
commit_asked_there T lsid number asker t h = commit_phase T lsid number asker t t.phase h

released_there : (T : NodeId → Type 0) (lsid : Lsid) (number : ℤ) (asker : Option Asker) (t :
    Transaction) (posts : List Post) → PhaseThere T t.phase → CommitThere T t → PostsThere T posts
    → DeedThere T (co.released lsid number asker t posts)
released_there T lsid number asker t [] q h k = decides_there T lsid number asker t h
released_there T lsid number asker t (post ∷ posts) q h k =
    record {
      doing = record { parts = h.parts; wrote = h.wrote; answers = q; waiting = k };
      given = no_given T;
    }

-- all but one are told of an abort
others_given : (T : NodeId → Type 0) (shard : ℕ) (lsid : Lsid) (number : ℤ) (t : Transaction)
    → PartsThere T t.parts → PostsThere T (without shard (en.aborts lsid number 5 t) ++ [])
others_given T shard lsid number t h =
    All-append (PostThere T) (without shard (en.aborts lsid number 5 t)) [] (without_there T shard
    (en.aborts lsid number 5 t) (aborts_there T lsid number 5 t h)) (none T)

fails_there : (T : NodeId → Type 0) (lsid : Lsid) (number : ℤ) (asker : Option Asker) (o : Outcome)
    (t : Transaction) → CommitThere T t → DeedThere T (co.fails lsid number asker o t)
fails_there T lsid number asker o t h = record {
  doing = record { parts = h.parts; wrote = h.wrote; answers = tt; waiting = none T };
  given = record { aborts = others_given T o.shard lsid number t h.parts; sends = none T };
}

-- Statements.

statements_there : (T : NodeId → Type 0) (chunks : Map) (lsid : Lsid) (number : ℤ) (t : Transaction)
    (op : Op) → MapThere T chunks → PostsThere T (st.statements_to chunks lsid number t op)
statements_there T chunks lsid number t op m =
    each_of (At T) (PostThere T) (st.statement_to chunks lsid number t op) (λ shard k. (k, tt))
    (shards_of chunks op) (asked_there T chunks op m)

asks_there : (T : NodeId → Type 0) (chunks : Map) (lsid : Lsid) (number : ℤ) (asker : Asker)
    (op : Op) (t : Transaction) → MapThere T chunks → CommitThere T t
    → DeedThere T (st.asks chunks lsid number asker op t)
asks_there T chunks lsid number asker op t m h =
    let s = statements_there T chunks lsid number t op m in
    record {
      doing = record {
        parts = shards_put T t.parts (shards_of chunks op) h.parts (asked_there T chunks op m);
        wrote = h.wrote;
        answers = All-nil (Under T);
        waiting = s;
      };
      given = record { aborts = none T; sends = s };
    }

refuses_there : (T : NodeId → Type 0) (lsid : Lsid) (number : ℤ) (asker : Asker) (t : Transaction)
    (refusal : ℕ × Cause) → CommitThere T t → DeedThere T (st.refuses lsid number asker t refusal)
refuses_there T lsid number asker t refusal h = record {
  doing = ended_there T (Aborted false) t tt h.parts h.wrote;
  given = record { aborts = others_given T refusal.0 lsid number t h.parts; sends = none T };
}

replies_there : (T : NodeId
    → Type 0) (lsid : Lsid) (number : ℤ) (asker : Asker) (op : Op) (t : Transaction) (r : OpReply)
    → TransactionThere T t → DeedThere T (st.replies lsid number asker op t r)
replies_there T lsid number asker op t r h =
    either (is_own lsid && not (st.is_cut r)) (DeedThere T)
    (co.commits lsid number (Some asker) (record t { reply = Some (st.reply_of op r None) }))
    (in_session number t (telling (told asker (st.reply_of op r (Some (token_of t))) ∷ [])))
    (commits_there T lsid number (Some asker) (record t { reply = Some (st.reply_of op r None) })
    (record { parts = h.parts; wrote = h.wrote }))
    (record { doing = h; given = record { aborts = none T; sends = none T } })

-- the shards that wrote in a statement are those that answered

writer_by : (T : NodeId → Type 0) (shard : ℕ) (a : Answer) (x : Result (OpReply × Bool) Cause)
    → T (Shard shard) → IfSome (st.writer_in (shard, record a { outcome = x })) (At T)
writer_by T shard a (Ok done) h =
    either done.1 (λ (o : Option ℕ). IfSome o (At T)) (Some shard) None h tt
writer_by T shard a (Err why) h = tt

answerers_there : (T : NodeId → Type 0) (answers : List (ℕ × Answer)) → All (Under T) answers
    → ShardsThere T (filter_map st.writer_in answers)
answerers_there T [] h = All-nil (At T)
answerers_there T (answer ∷ answers) h =
    option_put (At T) (st.writer_in answer) (filter_map st.writer_in answers)
    (writer_by T answer.0 answer.1 answer.1.outcome (All-head (Under T) answer answers h))
    (answerers_there T answers (All-tail (Under T) answer answers h))

wrote_there : (T : NodeId → Type 0) (t : Transaction) (answers : List (ℕ × Answer))
    → ShardsThere T t.wrote → All (Under T) answers
    → ShardsThere T (t.wrote ++ filter (λ (shard : ℕ). not (has_written t shard))
    (filter_map st.writer_in answers))
wrote_there T t answers h k =
    All-append (At T) t.wrote
    (filter (λ (shard : ℕ). not (has_written t shard)) (filter_map st.writer_in answers)) h
    (All-filter (λ (shard : ℕ). not (has_written t shard)) (At T) (filter_map st.writer_in answers)
    (answerers_there T answers k))

concludes_by_there : (T : NodeId → Type 0) (lsid : Lsid) (number : ℤ) (asker : Asker) (op : Op)
    (answers : List (ℕ × Answer)) (t : Transaction) (w : Option (ℕ × Cause)) → CommitThere T t
    → All (Under T) answers
    → DeedThere T (st.concludes_by lsid number asker op answers t w)
concludes_by_there T lsid number asker op answers t None h k =
    replies_there T lsid number asker op (st.answered_by answers t) _ (record {
      parts = h.parts;
      wrote = wrote_there T t answers h.wrote k;
      answers = tt;
      waiting = none T;
    })
concludes_by_there T lsid number asker op answers t (Some refusal) h k =
    refuses_there T lsid number asker t refusal h

taken_by_there : (T : NodeId → Type 0) (lsid : Lsid) (number : ℤ) (asker : Asker) (op : Op)
    (answers : List (ℕ × Answer)) (t : Transaction) (posts : List Post) → TransactionThere T t
    → All (Under T) answers
    → DeedThere T (st.taken_by lsid number asker op answers t posts)
taken_by_there T lsid number asker op answers t [] h k =
    concludes_by_there T lsid number asker op answers t _ (commit_of T t h) k
taken_by_there T lsid number asker op answers t (post ∷ posts) h k = rests T number t h

answer_phase : (T : NodeId → Type 0) (lsid : Lsid) (number : ℤ) (a : Answer) (t : Transaction)
    (p : Phase) → T (Shard a.shard) → TransactionThere T (record t { phase = p })
    → DeedThere T (st.answer_to lsid number a (record t { phase = p }))
answer_phase T lsid number a t (Asking asker op answers) this h =
    let new = put_all nat_cmp (Under T) a.shard a answers this h.answers in
    taken_by_there T lsid number asker op (put nat_cmp a.shard a answers) (st.with_answer asker op
    answers a (record t { phase = Asking asker op answers })) (without a.shard t.waiting)
    (record {
      parts = put_all nat_cmp (Under T) a.shard a.boot t.parts this h.parts;
      wrote = h.wrote;
      answers = new;
      waiting = without_there T a.shard t.waiting h.waiting;
    })
    new
answer_phase T lsid number a t Idle this h = rests T number (record t { phase = Idle }) h
answer_phase T lsid number a t (Checking asker) this h =
    rests T number (record t { phase = Checking asker }) h
answer_phase T lsid number a t (Deciding asker) this h =
    rests T number (record t { phase = Deciding asker }) h
answer_phase T lsid number a t Committed this h = rests T number (record t { phase = Committed }) h
answer_phase T lsid number a t Released this h = rests T number (record t { phase = Released }) h
answer_phase T lsid number a t (Aborted sent) this h =
    rests T number (record t { phase = Aborted sent }) h

on_answer_there : (T : NodeId → Type 0) (lsid : Lsid) (number : ℤ) (a : Answer) (t : Transaction)
    → T (Shard a.shard) → TransactionThere T t → DeedThere T (st.on_answer lsid number a t)
on_answer_there T lsid number a t this h =
    either (same_tag t.tag a.tag && nat_eq a.k t.k && is_waited a.shard t.waiting) (DeedThere T) _ _
    (answer_phase T lsid number a t t.phase this h) (rests T number t h)

-- In each session.

abbrev EntryThere : (NodeId → Type 0) → Lsid × Session → Type 0
EntryThere T entry = DoingThere T entry.1.doing

each_session_there : (T : NodeId → Type 0) (act : Lsid → Session → Deed)
    → ((lsid : Lsid) (s : Session) → DoingThere T s.doing → DeedThere T (act lsid s))
    → (sessions : BySession Session) → All (EntryThere T) sessions
    → All (EntryThere T) (each_session act sessions).0 × GivenThere T (each_session act sessions).1
each_session_there T act h [] k = (k, no_given T)
each_session_there T act h (entry ∷ entries) k =
    let d = h entry.0 entry.1 (All-head (EntryThere T) entry entries k) in
    let more = each_session_there T act h entries (All-tail (EntryThere T) entry entries k) in (
      All-cons (EntryThere T) (entry.0, (act entry.0 entry.1).session) (each_session act entries).0
          d.doing more.0,
      both_there T (act entry.0 entry.1).given (each_session act entries).1 d.given more.1,
    )

in_each_there : (T : NodeId → Type 0) (act : Lsid → Session → Deed)
    → ((lsid : Lsid) (s : Session) → DoingThere T s.doing → DeedThere T (act lsid s))
    → (s : RouterState) → SessionsThere T s → MoveThere T (in_each_session act s)
in_each_there T act h s k = let e = each_session_there T act h s.sessions k in
    record { state = e.0; given = e.1 }

done_there : (T : NodeId → Type 0) (s : RouterState) (lsid : Lsid) (d : Deed) → SessionsThere T s
    → DeedThere T d → MoveThere T (done_in s lsid d)
done_there T s lsid d h k = record {
  state = entries_put (EntryThere T) lsid d.session s.sessions k.doing h;
  given = k.given;
}

-- Outcomes.

checked_there : (T : NodeId → Type 0) (lsid : Lsid) (number : ℤ) (asker : Option Asker)
    (o : Outcome) (t : Transaction) (x : Told) → TransactionThere T t
    → DeedThere T (co.checked lsid number asker (record o { told = x }) t)
checked_there T lsid number asker o t told_as.Released h =
    released_there T lsid number asker t (without o.shard t.waiting) h.answers (commit_of T t h)
    (without_there T o.shard t.waiting h.waiting)
checked_there T lsid number asker o t (told_as.Committed at) h =
    finished_there T lsid number asker Committed t tt (commit_of T t h)
checked_there T lsid number asker o t (told_as.Aborted cause) h =
    fails_there T lsid number asker (record o { told = told_as.Aborted cause }) t (commit_of T t h)
checked_there T lsid number asker o t (told_as.TooOld have) h =
    fails_there T lsid number asker (record o { told = told_as.TooOld have }) t (commit_of T t h)
checked_there T lsid number asker o t told_as.NoTrace h =
    fails_there T lsid number asker (record o { told = told_as.NoTrace }) t (commit_of T t h)

-- told, and nothing more is asked
tells_there : (T : NodeId → Type 0) (number : ℤ) (phase : Phase) (t : Transaction) (g : Given)
    → g.aborts ≡ [] → g.sends ≡ [] → PhaseThere T phase → CommitThere T t
    → DeedThere T (in_session number (en.ended phase t) g)
tells_there T number phase t g a b q h = record {
  doing = ended_there T phase t q h.parts h.wrote;
  given = record {
    aborts = subst (PostsThere T) (sym a) (none T);
    sends = subst (PostsThere T) (sym b) (none T);
  };
}

decided_there : (T : NodeId → Type 0) (lsid : Lsid) (number : ℤ) (asker : Option Asker)
    (o : Outcome) (t : Transaction) (x : Told) → CommitThere T t
    → DeedThere T (co.decided lsid number asker (record o { told = x }) t)
decided_there T lsid number asker o t told_as.Released h =
    finished_there T lsid number asker Committed t tt h
decided_there T lsid number asker o t (told_as.Committed at) h =
    finished_there T lsid number asker Committed t tt h
decided_there T lsid number asker o t (told_as.Aborted cause) h =
    tells_there T number (Aborted true) t _ refl refl tt h
decided_there T lsid number asker o t (told_as.TooOld have) h =
    tells_there T number (Deciding None) t _ refl refl tt h
decided_there T lsid number asker o t told_as.NoTrace h =
    tells_there T number (Deciding None) t _ refl refl tt h

counted_phase : (T : NodeId → Type 0) (lsid : Lsid) (number : ℤ) (o : Outcome)
    (t : Transaction) (p : Phase) → TransactionThere T (record t { phase = p })
    → DeedThere T (co.counted lsid number o (record t { phase = p }))
counted_phase T lsid number o t (Checking asker) h =
    checked_there T lsid number asker o (record t { phase = Checking asker }) o.told h
counted_phase T lsid number o t (Deciding asker) h = decided_there T lsid number asker o (record t
    { phase = Deciding asker }) o.told (commit_of T (record t { phase = Deciding asker }) h)
counted_phase T lsid number o t Idle h = rests T number (record t { phase = Idle }) h
counted_phase T lsid number o t (Asking asker op answers) h =
    rests T number (record t { phase = Asking asker op answers }) h
counted_phase T lsid number o t Committed h = rests T number (record t { phase = Committed }) h
counted_phase T lsid number o t Released h = rests T number (record t { phase = Released }) h
counted_phase T lsid number o t (Aborted sent) h =
    rests T number (record t { phase = Aborted sent }) h

on_outcome_there : (T : NodeId → Type 0) (lsid : Lsid) (number : ℤ) (o : Outcome) (t : Transaction)
    → TransactionThere T t → DeedThere T (co.on_outcome lsid number o t)
on_outcome_there T lsid number o t h = either (same_tag t.tag o.tag && is_waited o.shard t.waiting)
    (DeedThere T) _ _ (counted_phase T lsid number o t t.phase h) (rests T number t h)

-- Tokens.

abbrev SeekingThere : (NodeId → Type 0) → Option Seeking → Type 0
SeekingThere T seeking = IfSome seeking (λ (k : Seeking). T (Shard k.shard))

anew_there : (T : NodeId → Type 0) (lsid : Lsid) (number : ℤ) (k : Seeking) (known : List Tag)
    → T (Shard k.shard) → DeedThere T (tk.asks_anew lsid number k known)
anew_there T lsid number k known this = record {
  doing = this;
  given = record {
    aborts = none T;
    sends = one (PostThere T) (tk.recover_to lsid number k) (this, tt);
  };
}

asks_for_there : (T : NodeId
    → Type 0) (lsid : Lsid) (number : ℤ) (k : Seeking) (older : Option Seeking) (known : List Tag)
    → T (Shard k.shard) → DeedThere T (tk.asks_for lsid number k older known)
asks_for_there T lsid number k None known this = anew_there T lsid number k known this
asks_for_there T lsid number k (Some older) known this = either (tk.same_place older k) (DeedThere
    T) _ _ (record { doing = this; given = no_given T }) (anew_there T lsid number k known this)

seeks_in_there : (T : NodeId → Type 0) (lsid : Lsid) (number : ℤ) (asker : Asker) (k : Seeking)
    (seeking : Option Seeking) (known : List Tag) → T (Shard k.shard) → SeekingThere T seeking
    → DeedThere T (tk.seeks_in lsid number asker k seeking known)
seeks_in_there T lsid number asker k seeking known this h =
    either (tk.is_known k.tag known) (DeedThere T) _ _
    (record { doing = h; given = record { aborts = none T; sends = none T } })
    (asks_for_there T lsid number k seeking known this)

left_given : (T : NodeId → Type 0) (lsid : Lsid) (number own : ℤ) (k : Seeking) (doing : Doing)
    → T (Shard k.shard) → DoingThere T doing
    → GivenThere T (both (aborting (en.leaves lsid (record { number = own; doing = doing })))
    (tk.asks_anew lsid number k []).given)
left_given T lsid number own k doing this h =
    both_there T (aborting (en.leaves lsid (record { number = own; doing = doing })))
    (tk.asks_anew lsid number k []).given
    (record { aborts = leaves_doing T lsid own doing h; sends = none T })
    (anew_there T lsid number k [] this).given

seeks_doing : (T : NodeId → Type 0) (lsid : Lsid) (number own : ℤ) (asker : Asker) (k : Seeking)
    (doing : Doing) → T (Shard k.shard) → DoingThere T doing
    → DeedThere T (tk.seeks_by lsid number asker k (Some (record { number = own; doing = doing })))
seeks_doing T lsid number own asker k (Begun t) this h =
    either (int_lt own number) (DeedThere T) _ _
    (record { doing = this; given = left_given T lsid number own k (Begun t) this h })
    (record { doing = h; given = no_given T })
seeks_doing T lsid number own asker k (Sought seeking known) this h =
    either (int_lt own number) (DeedThere T) _ _ (record {
      doing = this;
      given = left_given T lsid number own k (Sought seeking known) this h;
    })
    (seeks_in_there T lsid number asker k seeking known this h)

seeks_by_there : (T : NodeId → Type 0) (lsid : Lsid) (number : ℤ) (asker : Asker) (k : Seeking)
    (s : Option Session) → T (Shard k.shard) → IfSome s (λ (s : Session). DoingThere T s.doing)
    → DeedThere T (tk.seeks_by lsid number asker k s)
seeks_by_there T lsid number asker k None this h = anew_there T lsid number k [] this
seeks_by_there T lsid number asker k (Some s) this h =
    seeks_doing T lsid number s.number asker k s.doing this h

recovered_there : (T : NodeId → Type 0) (number : ℤ) (seeking : Option Seeking) (known : List Tag)
    (o : Outcome) → SeekingThere T seeking → DeedThere T (tk.on_recovered number seeking known o)
recovered_there T number None known o h = record { doing = tt; given = no_given T }
recovered_there T number (Some k) known o h =
    either (same_tag k.tag o.tag && nat_eq k.shard o.shard) (DeedThere T) _ _
    (record { doing = tt; given = record { aborts = none T; sends = none T } })
    (record { doing = h; given = no_given T })

-- Ends that clients ask for, and those of sessions and connections.

client_ends : (T : NodeId → Type 0) (lsid : Lsid) (number : ℤ) (asker : Asker) (t : Transaction)
    (sent : Bool) → CommitThere T t
    → TransactionThere T (en.ended (Aborted sent) t)
    × PostsThere T (en.aborts lsid number 1 t ++ [])
client_ends T lsid number asker t sent h = (
  ended_there T (Aborted sent) t tt h.parts h.wrote,
  All-append (PostThere T) (en.aborts lsid number 1 t) []
      (aborts_there T lsid number 1 t h.parts) (none T),
)

client_phase : (T : NodeId → Type 0) (lsid : Lsid) (number : ℤ) (asker : Asker)
    (t : Transaction) (p : Phase) → TransactionThere T (record t { phase = p })
    → DeedThere T (en.client_aborts lsid number asker (record t { phase = p }))
client_phase T lsid number asker t (Aborted sent) h =
    record { doing = h; given = record { aborts = none T; sends = none T } }
client_phase T lsid number asker t Idle h = let e = client_ends T lsid number asker
    (record t { phase = Idle }) false (commit_of T (record t { phase = Idle }) h) in
    record { doing = e.0; given = record { aborts = e.1; sends = none T } }
client_phase T lsid number asker t (Asking other op answers) h =
    let e = client_ends T lsid number asker (record t { phase = Asking other op answers })
    false (commit_of T (record t { phase = Asking other op answers }) h) in
    record { doing = e.0; given = record { aborts = e.1; sends = none T } }
client_phase T lsid number asker t (Checking other) h =
    let e = client_ends T lsid number asker (record t { phase = Checking other })
    true (commit_of T (record t { phase = Checking other }) h) in
    record { doing = e.0; given = record { aborts = e.1; sends = none T } }
client_phase T lsid number asker t (Deciding other) h =
    let e = client_ends T lsid number asker (record t { phase = Deciding other })
    true (commit_of T (record t { phase = Deciding other }) h) in
    record { doing = e.0; given = record { aborts = e.1; sends = none T } }
client_phase T lsid number asker t Committed h = let e = client_ends T lsid number asker
    (record t { phase = Committed }) true (commit_of T (record t { phase = Committed }) h) in
    record { doing = e.0; given = record { aborts = e.1; sends = none T } }
client_phase T lsid number asker t Released h = let e = client_ends T lsid number asker
    (record t { phase = Released }) true (commit_of T (record t { phase = Released }) h) in
    record { doing = e.0; given = record { aborts = e.1; sends = none T } }

gone_phase : (T : NodeId → Type 0) (conn : ℕ) (lsid : Lsid) (number : ℤ) (t : Transaction)
    (p : Phase) → TransactionThere T (record t { phase = p })
    → DeedThere T (en.gone_asking conn lsid
    (record { number = number; doing = Begun (record t { phase = p }) })
    (record t { phase = p }))
gone_phase T conn lsid number t (Asking asker op answers) h =
    ends_there T lsid number 4 (record t { phase = Asking asker op answers }) h
gone_phase T conn lsid number t (Checking asker) h = record {
  doing = record { parts = h.parts; wrote = h.wrote; answers = tt; waiting = h.waiting };
  given = no_given T;
}
gone_phase T conn lsid number t (Deciding asker) h = record {
  doing = record { parts = h.parts; wrote = h.wrote; answers = tt; waiting = h.waiting };
  given = no_given T;
}
gone_phase T conn lsid number t Idle h = record { doing = h; given = no_given T }
gone_phase T conn lsid number t Committed h = record { doing = h; given = no_given T }
gone_phase T conn lsid number t Released h = record { doing = h; given = no_given T }
gone_phase T conn lsid number t (Aborted sent) h = record { doing = h; given = no_given T }

unheard_there : (T : NodeId → Type 0) (seeking : Option Seeking) → SeekingThere T seeking
    → SeekingThere T (en.unheard seeking)
unheard_there T None h = tt
unheard_there T (Some k) h = h

gone_doing : (T : NodeId → Type 0) (conn : ℕ) (lsid : Lsid) (number : ℤ) (doing : Doing)
    → DoingThere T doing
    → DeedThere T (en.gone_in conn lsid (record { number = number; doing = doing }))
gone_doing T conn lsid number (Begun t) h = gone_phase T conn lsid number t t.phase h
gone_doing T conn lsid number (Sought seeking known) h =
    record { doing = unheard_there T seeking h; given = no_given T }

gone_there : (T : NodeId → Type 0) (conn : ℕ) (s : RouterState) → SessionsThere T s
    → MoveThere T (en.gone s conn)
gone_there T conn s h =
    in_each_there T (en.gone_from conn)
    (λ lsid s k. either (is_from conn (asker_of s.doing)) (DeedThere T) _ _
    (gone_doing T conn lsid s.number s.doing k) (record { doing = k; given = no_given T })) s h

session_phase : (T : NodeId → Type 0) (lsid : Lsid) (number : ℤ) (doing : Doing)
    → DoingThere T doing
    → DeedThere T (en.ends_session lsid (record { number = number; doing = doing }))
session_phase T lsid number (Begun t) h =
    either (is_none (asker_of (Begun t)) && not (commit_sent t.phase)) (DeedThere T) _ _
    (ends_there T lsid number 2 t h) (record { doing = h; given = no_given T })
session_phase T lsid number (Sought seeking known) h = record { doing = h; given = no_given T }

-- A session of a router.

abbrev SomeThere : (NodeId → Type 0) → Option Session → Type 0
SomeThere T s = IfSome s (λ (s : Session). DoingThere T s.doing)

some_there : (T : NodeId → Type 0) (r : RouterState) (lsid : Lsid) (s : Option Session)
    → session_of r lsid ≡ s → SessionsThere T r → SomeThere T s
some_there T r lsid None e h = tt
some_there T r lsid (Some s) e h =
    entry_has (λ (s : Session). DoingThere T s.doing) lsid r.sessions h s e

session_there : (T : NodeId → Type 0) (r : RouterState) (lsid : Lsid) → SessionsThere T r
    → SomeThere T (session_of r lsid)
session_there T r lsid h = some_there T r lsid (session_of r lsid) refl h

abbrev BegunThere : (NodeId → Type 0) → Option Transaction → Type 0
BegunThere T t = IfSome t (TransactionThere T)

begun_doing : (T : NodeId → Type 0) (own number : ℤ) (doing : Doing) → DoingThere T doing
    → BegunThere T (begun_in (Some (record { number = own; doing = doing })) number)
begun_doing T own number (Begun t) h = either (int_eq own number) (BegunThere T) (Some t) None h tt
begun_doing T own number (Sought seeking known) h =
    either (int_eq own number) (BegunThere T) None None tt tt

begun_there : (T : NodeId → Type 0) (s : Option Session) (number : ℤ) → SomeThere T s
    → BegunThere T (begun_in s number)
begun_there T None number h = tt
begun_there T (Some s) number h = begun_doing T s.number number s.doing h

own_there : (T : NodeId → Type 0) (r : RouterState) (lsid : Lsid) (number : ℤ) → SessionsThere T r
    → BegunThere T (begun_in (session_of r lsid) number)
own_there T r lsid number h = begun_there T (session_of r lsid) number (session_there T r lsid h)

still_there : (T : NodeId → Type 0) (r : RouterState) → SessionsThere T r → MoveThere T (still r)
still_there T r h = record { state = h; given = no_given T }

end_there : (T : NodeId → Type 0) (r : RouterState) (lsid : Lsid) (s : Option Session)
    → SomeThere T s → SessionsThere T r → MoveThere T (en.end_session r lsid s)
end_there T r lsid None k h = still_there T r h
end_there T r lsid (Some s) k h =
    done_there T r lsid (en.ends_session lsid s) h (session_phase T lsid s.number s.doing k)

end_all_there : (T : NodeId → Type 0) (lsids : List Lsid) (r : RouterState) → SessionsThere T r
    → MoveThere T (en.end_sessions r lsids)
end_all_there T [] r h = still_there T r h
end_all_there T (lsid ∷ lsids) r h =
    let first = end_there T r lsid (session_of r lsid) (session_there T r lsid h) h in
    let next = (en.end_session r lsid (session_of r lsid)).state in
    let more = end_all_there T lsids next first.state in
    record {
      state = more.state;
      given = both_there T (en.end_session r lsid (session_of r lsid)).given (en.end_sessions next
          lsids).given first.given more.given;
    }

-- Requests.

refused_there : (T : NodeId
    → Type 0) (r : RouterState) (asker : Asker) (why : Option Reply) (m : Move) → SessionsThere T r
    → (why ≡ None → MoveThere T m) → MoveThere T (rq.unless_refused r asker why m)
refused_there T r asker None m h k = k refl
refused_there T r asker (Some reply) m h k =
    record { state = h; given = record { aborts = none T; sends = none T } }

left_there : (T : NodeId → Type 0) (lsid : Lsid) (s : Option Session) → SomeThere T s
    → PostsThere T (rq.left_of lsid s)
left_there T lsid None h = none T
left_there T lsid (Some s) h = leaves_doing T lsid s.number s.doing h

begins_there : (T : NodeId → Type 0) (r : RouterState) (lsid : Lsid) (s : Option Session)
    (number : ℤ) (asker : Asker) (op : Op) (read_at : ℕ) → MapThere T r.chunks → SomeThere T s
    → SessionsThere T r
    → MoveThere T (rq.begins_at r lsid s number asker op read_at)
begins_there T r lsid s number asker op read_at m k h =
    let deed = st.asks r.chunks lsid number asker op (rq.begun_at r read_at) in
    let d = asks_there T r.chunks lsid number asker op (rq.begun_at r read_at) m
    (record { parts = All-nil (Under T); wrote = All-nil (At T) }) in
    done_there T (rq.drawn r read_at) lsid
    (record { session = deed.session; given = both (aborting (rq.left_of lsid s)) deed.given })
    h
    (record {
      doing = d.doing;
      given = both_there T (aborting (rq.left_of lsid s)) deed.given
          (record { aborts = left_there T lsid s k; sends = none T }) d.given;
    })

states_there : (T : NodeId → Type 0) (r : RouterState) (lsid : Lsid) (s : Option Session)
    (number : ℤ) (asker : Asker) (op : Op) (at : Option ℕ) (t : Option Transaction)
    → MapThere T r.chunks → SomeThere T s → BegunThere T t → SessionsThere T r
    → MoveThere T (rq.states r lsid s number asker op at t)
states_there T r lsid s number asker op at None m k b h =
    begins_there T r lsid s number asker op _ m k h
states_there T r lsid s number asker op at (Some t) m k b h = done_there T r lsid (st.asks r.chunks
    lsid number asker op t) h (asks_there T r.chunks lsid number asker op t m (commit_of T t b))

states_txn : (T : NodeId → Type 0) (r : RouterState) (asker : Asker) (txn : Txn)
    (op : Op) (at : Option ℕ) → MapThere T r.chunks → SessionsThere T r
    → MoveThere T (rq.statement_in r asker txn (session_of r txn.lsid) op at)
states_txn T r asker txn op at m h =
    refused_there T r asker _ _ h (λ none.
    states_there T r txn.lsid (session_of r txn.lsid) txn.number asker op at
    (begun_in (session_of r txn.lsid) txn.number) m (session_there T r txn.lsid h)
    (own_there T r txn.lsid txn.number h) h)

statement_there : (T : NodeId
    → Type 0) (r : RouterState) (asker : Asker) (txn : Option Txn) (op : Op) (at : Option ℕ)
    → MapThere T r.chunks → SessionsThere T r → MoveThere T (rq.statement r asker txn op at)
statement_there T r asker None op at m h =
    states_txn T r asker (rq.by_itself r asker.conn) op at m h
statement_there T r asker (Some txn) op at m h = states_txn T r asker txn op at m h

-- a token that isn't refused names a shard of the map

rest_none : {A : Type 0} (x : Option A) (xs : List (Option A)) → first_some (x ∷ xs) ≡ None
    → first_some xs ≡ None
rest_none None xs e = e
rest_none (Some a) xs e = cc

this_none : {A : Type 0} (x : Option A) (xs : List (Option A))
    → first_some (x ∷ xs) ≡ None → x ≡ None
this_none None xs e = refl
this_none (Some a) xs e = cc

token_none : (r : RouterState) (conn : ℕ) (s : Option Session) (txn : Txn) (t : Option Token)
    → commit_refusal r conn s txn t ≡ None → no_token_shard s txn.number r.chunks.shards t ≡ None
unfolding commit_refusal
token_none r conn s txn t e =
    this_none (no_token_shard s txn.number r.chunks.shards t)
    (too_many r s ∷ known_aborted s txn.number ∷ [])
    (rest_none (no_transaction s txn.number (is_some t) true) _ (rest_none (started s txn) _
    (rest_none (busy s conn) _ (rest_none (too_old s txn.number) _ e))))

not_so : (holds : Bool) → where_so (not holds) refusal.NoDecision ≡ None → holds ≡ true
not_so true e = refl
not_so false e = cc

names_case : (own : Option Transaction) (names : Bool) → own ≡ None
    → where_so (is_none own && not names) refusal.NoDecision ≡ None → names ≡ true
names_case None names is e = not_so names e
names_case (Some own) names is e = cc

token_names : (r : RouterState) (conn : ℕ) (s : Option Session) (txn : Txn) (t : Option Token)
    → begun_in s txn.number ≡ None → commit_refusal r conn s txn t ≡ None
    → names_shard r.chunks.shards t ≡ true
token_names r conn s txn t own e = names_case (begun_in s txn.number) (names_shard r.chunks.shards
    t) own (token_none r conn s txn t e)

placed_there : (T : NodeId → Type 0) (r : RouterState) (asker : Asker) (txn : Txn)
    (s : Option Session) (tag : Tag) (shard boot : ℕ) → nat_lt shard r.chunks.shards ≡ true
    → MapThere T r.chunks → SomeThere T s → SessionsThere T r
    → MoveThere T (rq.commit_sought r asker txn s (Some (token.Placed tag shard boot)))
placed_there T r asker txn s tag shard boot names m k h =
    done_there T r txn.lsid (tk.seeks txn.lsid txn.number asker tag shard boot s) h
    (seeks_by_there T txn.lsid txn.number asker
    (record { asker = Some asker; tag = tag; shard = shard; boot = boot }) s
    (m.all shard (ltb-true shard r.chunks.shards names)) k)

sought_there : (T : NodeId
    → Type 0) (r : RouterState) (asker : Asker) (txn : Txn) (s : Option Session) (t : Option Token)
    → names_shard r.chunks.shards t ≡ true → MapThere T r.chunks → SomeThere T s → SessionsThere T r
    → MoveThere T (rq.commit_sought r asker txn s t)
sought_there T r asker txn s (Some (token.Placed tag shard boot)) names m k h =
    placed_there T r asker txn s tag shard boot names m k h
sought_there T r asker txn s other names m k h = still_there T r h

commit_by_there : (T : NodeId → Type 0) (r : RouterState) (asker : Asker) (txn : Txn)
    (s : Option Session) (t : Option Token) (own : Option Transaction) → begun_in s txn.number ≡ own
    → commit_refusal r asker.conn s txn t ≡ None
    → MapThere T r.chunks → SomeThere T s → BegunThere T own → SessionsThere T r
    → MoveThere T (rq.commit_by r asker txn s t own)
commit_by_there T r asker txn s t None is e m k b h =
    sought_there T r asker txn s t (token_names r asker.conn s txn t is e) m k h
commit_by_there T r asker txn s t (Some own) is e m k b h = done_there T r txn.lsid (co.commit_asked
    txn.lsid txn.number asker own) h (commit_asked_there T txn.lsid txn.number asker own b)

commit_request_there : (T : NodeId
    → Type 0) (r : RouterState) (asker : Asker) (txn : Option Txn) (t : Option Token)
    → MapThere T r.chunks → SessionsThere T r → MoveThere T (rq.commit r asker txn t)
commit_request_there T r asker None t m h = still_there T r h
commit_request_there T r asker (Some txn) t m h =
    refused_there T r asker _ _ h (λ none.
    commit_by_there T r asker txn (session_of r txn.lsid) t
    (begun_in (session_of r txn.lsid) txn.number) refl none m (session_there T r txn.lsid h)
    (own_there T r txn.lsid txn.number h) h)

abort_by_there : (T : NodeId
    → Type 0) (r : RouterState) (asker : Asker) (txn : Txn) (own : Option Transaction)
    → BegunThere T own → SessionsThere T r → MoveThere T (rq.abort_by r asker txn own)
abort_by_there T r asker txn None b h = still_there T r h
abort_by_there T r asker txn (Some own) b h = done_there T r txn.lsid (en.client_aborts txn.lsid
    txn.number asker own) h (client_phase T txn.lsid txn.number asker own own.phase b)

abort_there : (T : NodeId → Type 0) (r : RouterState) (asker : Asker) (txn : Option Txn)
    → SessionsThere T r → MoveThere T (rq.abort r asker txn)
abort_there T r asker None h = still_there T r h
abort_there T r asker (Some txn) h = refused_there T r asker _ _ h (λ none.
    abort_by_there T r asker txn _ (own_there T r txn.lsid txn.number h) h)

also_there : (T : NodeId → Type 0) (m : Move) (asker : Asker) (legacy : Bool) (r : Reply)
    → MoveThere T m → MoveThere T (told_also m asker legacy r)
also_there T m asker legacy r h = record {
  state = h.state;
  given = record {
    aborts = All-append (PostThere T) m.given.aborts [] h.given.aborts (none T);
    sends = All-append (PostThere T) m.given.sends [] h.given.sends (none T);
  };
}

serves_there : (T : NodeId → Type 0) (r : RouterState) (asker : Asker) (legacy : Bool) (x : Request)
    → MapThere T r.chunks → SessionsThere T r → MoveThere T (rq.serves r asker legacy x)
unfolding rq.serves
serves_there T r asker legacy (request.Ping more time) m h =
    also_there T _ asker legacy _ (still_there T _ h)
serves_there T r asker legacy (request.Hello old_name more time) m h =
    also_there T _ asker legacy _ (still_there T _ h)
serves_there T r asker legacy (request.Statement op txn at after more time) m h =
    statement_there T _ asker txn op at m h
serves_there T r asker legacy (request.Commit txn t more time) m h =
    commit_request_there T _ asker txn t m h
serves_there T r asker legacy (request.Abort txn more time) m h = abort_there T _ asker txn h
serves_there T r asker legacy (request.EndSessions ids more time) m h =
    also_there T _ asker legacy _ (end_all_there T ids _ h)

served_there : (T : NodeId
    → Type 0) (r : RouterState) (conn : ℕ) (bytes : List ℕ) (x : Result Request Unserved)
    → MapThere T r.chunks → SessionsThere T r → MoveThere T (sp.served r conn bytes x)
served_there T r conn bytes (Ok asked) m h = serves_there T r _ _ asked m h
served_there T r conn bytes (Err (un.Told why)) m h =
    also_there T (still r) _ _ _ (still_there T r h)
served_there T r conn bytes (Err (un.Closed number)) m h = still_there T r h
served_there T r conn bytes (Err un.Memory) m h = still_there T r h

silent_there : (T : NodeId → Type 0) (test : Bool) (m : Move) → MoveThere T m
    → MoveThere T (sp.unless_silent test m)
silent_there T true m h = h
silent_there T false m h =
    record { state = h.state; given = record { aborts = h.given.aborts; sends = h.given.sends } }

-- Resends.

abbrev Un : (NodeId → Type 0) → rs.Unanswered → Type 0
Un T u = PostThere T u.1

inserted_there : (T : NodeId → Type 0) (a : rs.Unanswered) (others : List rs.Unanswered) → Un T a
    → All (Un T) others → All (Un T) (rs.inserted a others)
inserted_there T a [] k h = one (Un T) a k
inserted_there T a (b ∷ others) k h =
    either (is_lt (rs.waiting_cmp a b)) (All (Un T)) _ _ (All-cons (Un T) a (b ∷ others) k h)
    (All-cons (Un T) b (rs.inserted a others) (All-head (Un T) b others h)
    (inserted_there T a others k (All-tail (Un T) b others h)))

order_there : (T : NodeId → Type 0) (us : List rs.Unanswered) → All (Un T) us
    → All (Un T) (rs.in_order us)
order_there T [] h = h
order_there T (u ∷ us) h = inserted_there T u (rs.in_order us) (All-head (Un T) u us h)
    (order_there T us (All-tail (Un T) u us h))

sought_un : (T : NodeId → Type 0) (lsid : Lsid) (number : ℤ) (k : Option Seeking) → SeekingThere T k
    → All (Un T) (rs.sought_post lsid number k)
sought_un T lsid number None h = All-nil (Un T)
sought_un T lsid number (Some k) h = one (Un T) (k.tag, tk.recover_to lsid number k) (h, tt)

waiting_un : (T : NodeId → Type 0) (lsid : Lsid) (number : ℤ) (doing : Doing) → DoingThere T doing
    → All (Un T) (rs.waiting_in (lsid, record { number = number; doing = doing }))
waiting_un T lsid number (Begun t) h =
    All-map (Un T) (λ (post : Post). (t.tag, post)) t.waiting h.waiting
waiting_un T lsid number (Sought seeking known) h = sought_un T lsid number seeking h

all_un : (T : NodeId → Type 0) (sessions : BySession Session) → All (EntryThere T) sessions
    → All (Un T) (flat_map rs.waiting_in sessions)
all_un T [] h = All-nil (Un T)
all_un T (entry ∷ entries) h =
    All-append (Un T) (rs.waiting_in entry) (flat_map rs.waiting_in entries) (waiting_un T entry.0
    entry.1.number entry.1.doing (All-head (EntryThere T) entry entries h))
    (all_un T entries (All-tail (EntryThere T) entry entries h))

resent_there : (T : NodeId → Type 0) (r : RouterState) → MapThere T r.chunks → SessionsThere T r
    → PostsThere T (rs.resent r)
resent_there T r m h =
    All-append (PostThere T) _ (rs.unanswered r.sessions)
    (each_of (At T) (PostThere T) (λ (shard : ℕ). (shard, msg.Nudge)) (λ shard k. (k, tt))
    (range_with_len 0 r.chunks.shards) (each_there T r.chunks m))
    (All-map (PostThere T) (λ (a : rs.Unanswered). a.1) (rs.in_order (flat_map rs.waiting_in
    r.sessions)) (order_there T (flat_map rs.waiting_in r.sessions) (all_un T r.sessions h)))

-- The step.

answered_doing : (T : NodeId → Type 0) (a : Answer) (lsid : Lsid) (number : ℤ) (doing : Doing)
    → T (Shard a.shard) → DoingThere T doing
    → DeedThere T (answered_in a lsid (record { number = number; doing = doing }))
answered_doing T a lsid number (Begun t) this h = on_answer_there T lsid number a t this h
answered_doing T a lsid number (Sought seeking known) this h =
    record { doing = h; given = no_given T }

ended_doing : (T : NodeId → Type 0) (o : Outcome) (lsid : Lsid) (number : ℤ) (doing : Doing)
    → DoingThere T doing → DeedThere T (ended_in o lsid (record { number = number; doing = doing }))
ended_doing T o lsid number (Begun t) h = on_outcome_there T lsid number o t h
ended_doing T o lsid number (Sought seeking known) h = recovered_there T number seeking known o h

delivered_there : (T : NodeId → Type 0) (r : RouterState) (m : Msg) → NamesThere T m
    → SessionsThere T r → MoveThere T (sp.delivered r m)
delivered_there T r (msg.Answer a) this h = in_each_there T (answered_in a) (λ lsid s k.
    answered_doing T a lsid s.number s.doing this k) r h
delivered_there T r (msg.Outcome o) this h =
    in_each_there T (ended_in o) (λ lsid s k. ended_doing T o lsid s.number s.doing k) r h
delivered_there T r other this h = still_there T r h

happened_there : (T : NodeId → Type 0) (r : RouterState) (w : Happening) → EventThere T w
    → MapThere T r.chunks → SessionsThere T r → MoveThere T (sp.happened r w)
happened_there T r (what.Client conn bytes) b m h =
    either (is_waiting r conn) (MoveThere T) _ _ (still_there T r h) (silent_there T
    (wants_reply bytes) _ (served_there T r conn bytes (asked_in r.wall bytes) m h))
happened_there T r (what.Gone conn) b m h = gone_there T conn r h
happened_there T r (what.Deliver e) b m h = delivered_there T _ e.msg b.names h
happened_there T r what.Resend b m h =
    record { state = h; given = record { aborts = none T; sends = resent_there T r m h } }
happened_there T r what.Moment b m h = still_there T r h

-- what a router leaves and gives out
pub record Sends (T : NodeId → Type 0) (r : RouterState) (given : List Envelope) : Type 0 where
  pub sessions : SessionsThere T r
  pub out : T (Router r.number) → All (EnvThere T) given

letters_there : (T : NodeId → Type 0) (posts : List Post) → PostsThere T posts
    → All (LetterThere T) (map letter_of posts)
letters_there T posts h = All-map (LetterThere T) letter_of posts h

pub letters_go : (T : NodeId → Type 0) (from : NodeId) (time : ℕ) (letters : List Letter) → T from
    → All (LetterThere T) letters → All (EnvThere T) (map (sent_by from time) letters)
letters_go T from time letters own h = each_of (LetterThere T) (EnvThere T) (sent_by from time) (λ l
    k. record { goes = k.0; comes = own; names = k.1 }) letters h

pub router_sends : (T : NodeId → Type 0) (want : Bool) (r : RouterState) (e : NodeEvent)
    → EventThere T e.what → RouterThere T r
    → Sends T (sp.router_step want r e).state
    (given_out (sp.answer_of want (sp.router_step want r e)))
unfolding sp.router_step
router_sends T true r e b h = record { sessions = h.sessions; out = λ own. All-nil (EnvThere T) }
router_sends T false r e b h =
    let m = sp.happened (walled r e.wall) e.what in
    let k = happened_there T (walled r e.wall) e.what b h.map h.sessions in
    record {
      sessions = k.state;
      out = λ own. letters_go T (Router m.state.number) m.state.time (map letter_of
          (m.given.aborts ++ m.given.sends)) own
          (letters_there T (m.given.aborts ++ m.given.sends)
          (All-append (PostThere T) m.given.aborts m.given.sends k.given.aborts k.given.sends));
    }
