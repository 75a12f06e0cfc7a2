-- A router of a cluster of one shard asks for no commit of several.
use Rattle.std.proofs.Common.{◌≡◌, ◌⊎◌, inl, inr, ℕ, ℤ, Bool, true, false, not, ◌&&◌, filter}
use Rattle.std.proofs.Common.{filter_map, refl, ap, All, List, [], ◌∷◌, ◌++◌, map, length, nat_eq}
use Rattle.std.proofs.Common.{int_lt, int_eq, is_none, Option, Some, None, IfSome, Result, Ok, Err}
use Rattle.std.proofs.Common.{sym, subst}
use Rattle.std.proofs.lemmas.List.Elements.{All-nil, All-cons, All-head, All-tail, All-append}
use Rattle.std.proofs.lemmas.List.Elements.{All-map, All-filter}
use Rattle.txn_types.specs.BySession.{BySession, with_entry}
use Rattle.txn_types.specs.Order.{same_tag, same_lsid}
use Rattle.txn_types.specs.declared.cause.Cause.{Cause}
use Rattle.txn_types.specs.declared.decision.Told.{Told}
use Rattle.txn_types.specs.declared.decision.Told.TheVariants as told_as
use Rattle.txn_types.specs.declared.decision.Token.{Token}
use Rattle.txn_types.specs.declared.message.Answer.{Answer}
use Rattle.txn_types.specs.declared.message.Outcome.{Outcome}
use Rattle.txn_types.specs.declared.names.Tag.{Tag}
use Rattle.txn_types.specs.declared.node.Lsid.{Lsid}
use Rattle.txn_types.specs.declared.operation.Op.{Op}
use Rattle.txn_types.specs.declared.operation.OpReply.{OpReply}
use Rattle.std.specs.Ordering.{nat_cmp, is_lt}
use Rattle.std.specs.Prelude.{flat_map}
use Rattle.std.specs.List.{range_with_len, list_any}
use Rattle.txn_semantics.specs.Keyed.{put}
use Rattle.txn_types.specs.Letters.{Letter, sent_by, given_out}
use Rattle.txn_types.specs.declared.event.Happening.{Happening}
use Rattle.txn_types.specs.declared.event.Happening.TheVariants as what
use Rattle.txn_types.specs.declared.event.NodeEvent.{NodeEvent}
use Rattle.txn_types.specs.declared.message.Envelope.{Envelope}
use Rattle.txn_types.specs.declared.message.Msg.{Msg}
use Rattle.txn_types.specs.declared.message.Msg.TheVariants as msg
use Rattle.txn_types.specs.declared.node.NodeId.TheVariants.{Router}
use Rattle.txn_types.specs.declared.decision.Token.TheVariants as token
use Rattle.client_cmd.specs.declared.request.Request.{Request}
use Rattle.client_cmd.specs.declared.request.Request.TheVariants as request
use Rattle.client_cmd.specs.declared.request.Txn.{Txn}
use Rattle.client_reply.specs.declared.reply.Reply.{Reply}
use Rattle.chunk_map.specs.Map.{Map}
use Rattle.router_plan.specs.declared.message.Unserved.{Unserved}
use Rattle.router_plan.specs.declared.message.Unserved.TheVariants as un
use Rattle.router_plan.specs.Refusals.{begun_in}
use Rattle.router_state.specs.Shards.{writers, readers}
use Rattle.router_rules.specs.Serving.{answered_in, ended_in}
use Rattle.router_plan.specs.Plans.{told_also}
use Rattle.router_plan.specs.Spelling.{letter_of}
use Rattle.router_core.specs.Requests as rq
use Rattle.router_rules.specs.Resends as rs
use Rattle.router_core.specs.Step as sp
use Rattle.router_rules.specs.Times.{walled}
use Rattle.router_state.specs.State.{is_waiting, Post, RouterState, asker_of, is_from, commit_sent}
use Rattle.router_state.specs.State.{is_unfinished, is_waited, is_own, without, boot_of, token_of}
use Rattle.router_state.specs.State.{session_of, own_session}
use Rattle.router_plan.specs.Messages.{asked_in}
use Rattle.op_msg.specs.Asking.{wants_reply}
use Rattle.participant.proofs.Cases.{either}
use Rattle.router_state.specs.declared.state.Asker.{Asker}
use Rattle.router_state.specs.declared.state.Phase.{Phase}
use Rattle.router_state.specs.declared.state.Phase.TheVariants.{Idle, Asking, Checking, Deciding}
use Rattle.router_state.specs.declared.state.Phase.TheVariants.{Committed, Released, Aborted}
use Rattle.router_state.specs.declared.state.Transaction.{Transaction}
use Rattle.router_state.specs.declared.state.Seeking.{Seeking}
use Rattle.router_state.specs.declared.state.Doing.{Doing}
use Rattle.router_state.specs.declared.state.Doing.TheVariants.{Begun, Sought}
use Rattle.router_state.specs.declared.state.Session.{Session}
use Rattle.router_state.specs.declared.deed.Given.{Given}
use Rattle.router_state.specs.declared.deed.Deed.{Deed}
use Rattle.router_state.specs.Deeds.{nothing, aborting, telling, told, both, in_session, Move}
use Rattle.router_state.specs.Deeds.{still, done_in, each_session}
use Rattle.router_rules.specs.Ends as en
use Rattle.router_rules.specs.Commits as co
use Rattle.router_rules.specs.Statements as st
use Rattle.router_rules.specs.Tokens as tk
use Rattle.serving_laws.proofs.Lists.{one, each}
use Rattle.one_shard_laws.specs.Alone.{IsAlone, EventAlone, IsAskedAlone}
use Rattle.one_shard_laws.specs.Asking.{AllAsk, OneWrote, OneAnswer, PhaseAsks, TxnAsks, DoingAsks}
use Rattle.one_shard_laws.specs.Asking.{RouterAsks, GivenAsks, DeedAsks, MoveAsks}
use Rattle.world_laws.proofs.PartTimes.{entry_has}

abbrev Asks : Post → Type 0
Asks post = IsAskedAlone post.1

none : AllAsk []
none = All-nil Asks

entries_put : {A : Type 0} (R : Lsid × A → Type 0) (lsid : Lsid) (a : A) (entries : BySession A)
    → R (lsid, a) → All R entries → All R (with_entry lsid a entries)
entries_put R lsid a [] this h = one R (lsid, a) this
entries_put R lsid a (entry ∷ entries) this h =
    either (same_lsid lsid entry.0) (All R) _ _
    (All-cons R (lsid, a) entries this (All-tail R entry entries h))
    (All-cons R entry (with_entry lsid a entries) (All-head R entry entries h)
    (entries_put R lsid a entries this (All-tail R entry entries h)))

-- Who wrote, and who answered.

-- nothing more is asked of it
left : (t : Transaction) (p : Phase) → OneWrote t.wrote → PhaseAsks p → TxnAsks (en.ended p t)
left t p w h = record { waiting = none; wrote = w; phase = h }

abbrev IsShort : List (ℕ × ℕ) → Type 0
IsShort parts = (parts ≡ []) ⊎ ((part : ℕ × ℕ) × (parts ≡ part ∷ []))

writers_short : (t : Transaction) → OneWrote t.wrote → IsShort (writers t)
writers_short t (inl h) =
    inl (ap (λ (shards : List ℕ). map (λ shard. (shard, boot_of t.parts shard)) shards) h)
writers_short t (inr h) = inr (
  (0, boot_of t.parts 0),
  ap (λ (shards : List ℕ). map (λ shard. (shard, boot_of t.parts shard)) shards) h,
)

not_short : (first second : ℕ × ℕ) (more : List (ℕ × ℕ)) → IsShort (first ∷ second ∷ more) → ⊥
not_short first second more (inl h) = cc
not_short first second more (inr h) = cc

-- an answer of the one shard is kept in place of an earlier one
one_put : (a : Answer) (answers : List (ℕ × Answer)) → a.shard ≡ 0 → OneAnswer answers
    → OneAnswer (put nat_cmp a.shard a answers)
one_put a answers own h =
    subst (λ (n : ℕ). OneAnswer (put nat_cmp n a answers)) (sym own) (put_case h)
  where
    put_case : OneAnswer answers → OneAnswer (put nat_cmp 0 a answers)
    put_case (inl is) =
        subst (λ (l : List (ℕ × Answer)). OneAnswer (put nat_cmp 0 a l)) (sym is) (inr (a, refl))
    put_case (inr is) =
        subst (λ (l : List (ℕ × Answer)). OneAnswer (put nat_cmp 0 a l)) (sym is.1) (inr (a, refl))

abbrev with_writer : Option ℕ → List ℕ → List ℕ
with_writer None shards = shards
with_writer (Some shard) shards = shard ∷ shards

writer_case : (shard : ℕ) (a : Answer) (o : Result (OpReply × Bool) Cause)
    → (st.writer_in (shard, record a { outcome = o }) ≡ None)
    ⊎ (st.writer_in (shard, record a { outcome = o }) ≡ Some shard)
writer_case shard a (Ok done) = either done.1 (λ (o : Option ℕ). (o ≡ None)
    ⊎ (o ≡ Some shard)) (Some shard) None (inr refl) (inl refl)
writer_case shard a (Err why) = inl refl

writers_of : (answers : List (ℕ × Answer)) → OneAnswer answers
    → OneWrote (filter_map st.writer_in answers)
writers_of answers (inl h) = inl (ap (filter_map st.writer_in) h)
writers_of answers (inr h) = subst (λ (l : List (ℕ × Answer)).
    OneWrote (filter_map st.writer_in l)) (sym h.1) (by_writer (writer_case 0 h.0 h.0.outcome))
  where
    by_writer : (st.writer_in (0, h.0) ≡ None) ⊎ (st.writer_in (0, h.0) ≡ Some 0)
        → OneWrote (filter_map st.writer_in ((0, h.0) ∷ []))
    by_writer (inl is) = inl (ap (λ (o : Option ℕ). with_writer o []) is)
    by_writer (inr is) = inr (ap (λ (o : Option ℕ). with_writer o []) is)

abbrev pub also_wrote : List ℕ → List ℕ → List ℕ
also_wrote wrote shards = wrote ++ filter (λ shard. not (list_any (nat_eq shard) wrote)) shards

wrote_one : (wrote shards : List ℕ) → OneWrote wrote → OneWrote shards
    → OneWrote (also_wrote wrote shards)
wrote_one wrote shards (inl h) (inl k) = subst (λ (w : List ℕ). OneWrote (also_wrote w shards))
    (sym h) (subst (λ (x : List ℕ). OneWrote (also_wrote [] x)) (sym k) (inl refl))
wrote_one wrote shards (inl h) (inr k) = subst (λ (w : List ℕ). OneWrote (also_wrote w shards))
    (sym h) (subst (λ (x : List ℕ). OneWrote (also_wrote [] x)) (sym k) (inr refl))
wrote_one wrote shards (inr h) (inl k) = subst (λ (w : List ℕ). OneWrote (also_wrote w shards))
    (sym h) (subst (λ (x : List ℕ). OneWrote (also_wrote (0 ∷ []) x)) (sym k) (inr refl))
wrote_one wrote shards (inr h) (inr k) = subst (λ (w : List ℕ). OneWrote (also_wrote w shards))
    (sym h) (subst (λ (x : List ℕ). OneWrote (also_wrote (0 ∷ []) x)) (sym k) (inr refl))

no_given : GivenAsks nothing
no_given = record { aborts = none; sends = none }

pub both_ask : (a b : Given) → GivenAsks a → GivenAsks b → GivenAsks (both a b)
both_ask a b h k = record {
  aborts = All-append Asks a.aborts b.aborts h.aborts k.aborts;
  sends = All-append Asks a.sends b.sends h.sends k.sends;
}

-- Ends.

aborts_ask : (lsid : Lsid) (number : ℤ) (why : ℕ) (t : Transaction)
    → AllAsk (en.aborts lsid number why t)
aborts_ask lsid number why t = each Asks (en.abort_to lsid number why t.tag) t.parts (λ x. tt)

without_asks : (shard : ℕ) (posts : List Post) → AllAsk posts → AllAsk (without shard posts)
without_asks shard posts h = All-filter (λ post. not (nat_eq post.0 shard)) Asks posts h

leaves_doing : (lsid : Lsid) (number : ℤ) (doing : Doing)
    → AllAsk (en.leaves lsid (record { number = number; doing = doing }))
leaves_doing lsid number (Begun t) =
    either (is_unfinished t.phase) AllAsk _ _ (aborts_ask lsid number 6 t) none
leaves_doing lsid number (Sought seeking known) = none

leaves_ask : (lsid : Lsid) (s : Session) → AllAsk (en.leaves lsid s)
leaves_ask lsid s = leaves_doing lsid s.number s.doing

ends_ask : (lsid : Lsid) (number : ℤ) (why : ℕ) (t : Transaction) → OneWrote t.wrote
    → DeedAsks (en.ends lsid number why t)
ends_ask lsid number why t w = record {
  doing = left t (Aborted (commit_sent t.phase)) w tt;
  given = record { aborts = aborts_ask lsid number why t; sends = none };
}

rests : (number : ℤ) (t : Transaction) → TxnAsks t → DeedAsks (in_session number t nothing)
rests number t h = record { doing = h; given = no_given }

-- Commits.

commit_ask : (lsid : Lsid) (number : ℤ) (t : Transaction) (parts : List (ℕ × ℕ))
    → AllAsk (map (co.commit_to lsid number t) parts)
commit_ask lsid number t parts = each Asks (co.commit_to lsid number t) parts (λ x. tt)

finished_asks : (lsid : Lsid) (number : ℤ) (asker : Option Asker) (phase : Phase) (t : Transaction)
    → OneWrote t.wrote → PhaseAsks phase → DeedAsks (co.finished lsid number asker phase t)
finished_asks lsid number asker phase t w h =
    record { doing = left t phase w h; given = record { aborts = none; sends = none } }

waits_ask : (number : ℤ) (phase : Phase) (posts : List Post) (t : Transaction) → OneWrote t.wrote
    → PhaseAsks phase → AllAsk posts → DeedAsks (co.waits number phase posts t)
waits_ask number phase posts t w p h = record {
  doing = record { waiting = h; wrote = w; phase = p };
  given = record { aborts = none; sends = h };
}

decides_by_ask : (lsid : Lsid) (number : ℤ) (asker : Option Asker) (t : Transaction) (parts : List
    (ℕ × ℕ)) → OneWrote t.wrote → IsShort parts → DeedAsks (co.decides_by lsid number asker t parts)
decides_by_ask lsid number asker t [] w short = finished_asks lsid number asker Released t w tt
decides_by_ask lsid number asker t (first ∷ []) w short =
    waits_ask number (Deciding asker) _ t w tt (one Asks (co.commit_to lsid number t first) tt)
decides_by_ask lsid number asker t (first ∷ second ∷ more) w short =
    absurd (not_short first second more short)

decides_ask : (lsid : Lsid) (number : ℤ) (asker : Option Asker) (t : Transaction) → OneWrote t.wrote
    → DeedAsks (co.decides lsid number asker t)
decides_ask lsid number asker t w =
    decides_by_ask lsid number asker t (writers t) w (writers_short t w)

commits_by_ask : (lsid : Lsid) (number : ℤ) (asker : Option Asker) (t : Transaction)
    (parts : List (ℕ × ℕ)) → OneWrote t.wrote → DeedAsks (co.commits_by lsid number asker t parts)
commits_by_ask lsid number asker t [] w = decides_ask lsid number asker t w
commits_by_ask lsid number asker t (first ∷ more) w =
    waits_ask number (Checking asker) _ t w tt (commit_ask lsid number t (first ∷ more))

commits_ask : (lsid : Lsid) (number : ℤ) (asker : Option Asker) (t : Transaction) → OneWrote t.wrote
    → DeedAsks (co.commits lsid number asker t)
commits_ask lsid number asker t w = commits_by_ask lsid number asker t (readers t) w

listens_ask : (lsid : Lsid) (number : ℤ) (asker : Asker) (t : Transaction) → TxnAsks t
    → DeedAsks (co.listens lsid number asker t)
listens_ask lsid number asker t h =
    either (nat_eq (length t.waiting) 0) DeedAsks _ _
    (decides_ask lsid number (Some asker) t h.wrote) (record {
      doing = record { waiting = h.waiting; wrote = h.wrote; phase = tt };
      given = no_given;
    })

commit_phase : (lsid : Lsid) (number : ℤ) (asker : Asker) (t : Transaction) (p : Phase)
    → TxnAsks (record t { phase = p })
    → DeedAsks (co.commit_asked lsid number asker (record t { phase = p }))
commit_phase lsid number asker t Idle h =
    commits_ask lsid number (Some asker) (record t { phase = Idle }) h.wrote
commit_phase lsid number asker t (Asking other op answers) h =
    record { doing = h; given = no_given }
commit_phase lsid number asker t (Checking other) h =
    record { doing = record { waiting = h.waiting; wrote = h.wrote; phase = tt }; given = no_given }
commit_phase lsid number asker t (Deciding other) h =
    listens_ask lsid number asker (record t { phase = Deciding other }) h
commit_phase lsid number asker t Committed h =
    finished_asks lsid number (Some asker) Committed (record t { phase = Committed }) h.wrote tt
commit_phase lsid number asker t Released h =
    finished_asks lsid number (Some asker) Released (record t { phase = Released }) h.wrote tt
commit_phase lsid number asker t (Aborted sent) h =
    record { doing = h; given = record { aborts = none; sends = none } }

pub commit_asked_asks : (lsid : Lsid) (number : ℤ) (asker : Asker) (t : Transaction) → TxnAsks t
    → DeedAsks (co.commit_asked lsid number asker t)
commit_asked_asks lsid number asker t h = commit_phase lsid number asker t t.phase h

released_asks : (lsid : Lsid) (number : ℤ) (asker : Option Asker) (t : Transaction) (posts :
    List Post) → TxnAsks t → AllAsk posts → DeedAsks (co.released lsid number asker t posts)
released_asks lsid number asker t [] k h = decides_ask lsid number asker t k.wrote
released_asks lsid number asker t (post ∷ posts) k h =
    record { doing = record { waiting = h; wrote = k.wrote; phase = k.phase }; given = no_given }

fails_ask : (lsid : Lsid) (number : ℤ) (asker : Option Asker) (o : Outcome) (t : Transaction)
    → OneWrote t.wrote → DeedAsks (co.fails lsid number asker o t)
fails_ask lsid number asker o t w =
    record {
      doing = left t (Aborted true) w tt;
      given = record {
        aborts = All-append Asks (without o.shard (en.aborts lsid number 5 t)) []
            (without_asks o.shard (en.aborts lsid number 5 t) (aborts_ask lsid number 5 t)) none;
        sends = none;
      };
    }

-- Statements.

statements_ask : (chunks : Map) (lsid : Lsid) (number : ℤ) (t : Transaction) (op : Op)
    → AllAsk (st.statements_to chunks lsid number t op)
statements_ask chunks lsid number t op =
    each Asks (st.statement_to chunks lsid number t op) _ (λ x. tt)

pub asks_ask : (chunks : Map) (lsid : Lsid) (number : ℤ) (asker : Asker) (op : Op) (t : Transaction)
    → OneWrote t.wrote → DeedAsks (st.asks chunks lsid number asker op t)
asks_ask chunks lsid number asker op t w =
    record {
      doing =
          record { waiting = statements_ask chunks lsid number t op; wrote = w; phase = inl refl };
      given = record { aborts = none; sends = statements_ask chunks lsid number t op };
    }

refuses_ask : (lsid : Lsid) (number : ℤ) (asker : Asker) (t : Transaction) (refusal : ℕ × Cause)
    → OneWrote t.wrote → DeedAsks (st.refuses lsid number asker t refusal)
refuses_ask lsid number asker t refusal w =
    record {
      doing = left t (Aborted false) w tt;
      given = record {
        aborts = All-append Asks (without refusal.0 (en.aborts lsid number 5 t)) []
            (without_asks refusal.0 (en.aborts lsid number 5 t) (aborts_ask lsid number 5 t)) none;
        sends = none;
      };
    }

replies_ask : (lsid : Lsid) (number : ℤ) (asker : Asker) (op : Op) (t : Transaction) (r : OpReply)
    → TxnAsks t → DeedAsks (st.replies lsid number asker op t r)
replies_ask lsid number asker op t r h =
    either (is_own lsid && not (st.is_cut r)) DeedAsks
    (co.commits lsid number (Some asker) (record t { reply = Some (st.reply_of op r None) }))
    (in_session number t (telling (told asker (st.reply_of op r (Some (token_of t))) ∷ [])))
    (commits_ask lsid number (Some asker) (record t { reply = Some (st.reply_of op r None) })
    h.wrote) (record { doing = h; given = record { aborts = none; sends = none } })

concludes_by_ask : (lsid : Lsid) (number : ℤ) (asker : Asker) (op : Op)
    (answers : List (ℕ × Answer)) (t : Transaction) (w : Option (ℕ × Cause)) → OneWrote t.wrote
    → OneAnswer answers → DeedAsks (st.concludes_by lsid number asker op answers t w)
concludes_by_ask lsid number asker op answers t None w h =
    replies_ask lsid number asker op (st.answered_by answers t) _ (record {
      waiting = none;
      wrote = wrote_one t.wrote (filter_map st.writer_in answers) w (writers_of answers h);
      phase = tt;
    })
concludes_by_ask lsid number asker op answers t (Some refusal) w h =
    refuses_ask lsid number asker t refusal w

taken_by_asks : (lsid : Lsid) (number : ℤ) (asker : Asker) (op : Op) (answers : List (ℕ × Answer))
    (t : Transaction) (posts : List Post) → TxnAsks t → OneAnswer answers
    → DeedAsks (st.taken_by lsid number asker op answers t posts)
taken_by_asks lsid number asker op answers t [] h k =
    concludes_by_ask lsid number asker op answers t _ h.wrote k
taken_by_asks lsid number asker op answers t (post ∷ posts) h k = rests number t h

answer_phase : (lsid : Lsid) (number : ℤ) (a : Answer) (t : Transaction) (p : Phase)
    → a.shard ≡ 0 → TxnAsks (record t { phase = p })
    → DeedAsks (st.answer_to lsid number a (record t { phase = p }))
answer_phase lsid number a t (Asking asker op answers) own h =
    let more = one_put a answers own h.phase in
    taken_by_asks lsid number asker op (put nat_cmp a.shard a answers) (st.with_answer asker op
    answers a (record t { phase = Asking asker op answers })) (without a.shard t.waiting)
    (record { waiting = without_asks a.shard t.waiting h.waiting; wrote = h.wrote; phase = more })
    more
answer_phase lsid number a t Idle own h = record { doing = h; given = no_given }
answer_phase lsid number a t (Checking asker) own h = record { doing = h; given = no_given }
answer_phase lsid number a t (Deciding asker) own h = record { doing = h; given = no_given }
answer_phase lsid number a t Committed own h = record { doing = h; given = no_given }
answer_phase lsid number a t Released own h = record { doing = h; given = no_given }
answer_phase lsid number a t (Aborted sent) own h = record { doing = h; given = no_given }

pub on_answer_asks : (lsid : Lsid) (number : ℤ) (a : Answer) (t : Transaction) → a.shard ≡ 0
    → TxnAsks t → DeedAsks (st.on_answer lsid number a t)
on_answer_asks lsid number a t own h =
    either (same_tag t.tag a.tag && nat_eq a.k t.k && is_waited a.shard t.waiting) DeedAsks _ _
    (answer_phase lsid number a t t.phase own h) (rests number t h)

-- In each session.

each_asks : (act : Lsid → Session → Deed)
    → ((lsid : Lsid) (s : Session) → DoingAsks s.doing → DeedAsks (act lsid s))
    → (sessions : BySession Session) → All (λ entry. DoingAsks entry.1.doing) sessions
    → All (λ entry. DoingAsks entry.1.doing) (each_session act sessions).0
    × GivenAsks (each_session act sessions).1
each_asks act h [] k = (k, no_given)
each_asks act h (entry ∷ entries) k =
    let d = h entry.0 entry.1 (All-head (λ (entry : Lsid × Session). DoingAsks entry.1.doing) entry
    entries k) in
    let more = each_asks act h entries
    (All-tail (λ (entry : Lsid × Session). DoingAsks entry.1.doing) entry entries k) in (
      All-cons (λ (entry : Lsid × Session). DoingAsks entry.1.doing)
          (entry.0, (act entry.0 entry.1).session) (each_session act entries).0 d.doing more.0,
      both_ask (act entry.0 entry.1).given (each_session act entries).1 d.given more.1,
    )

pub done_asks : (s : RouterState) (lsid : Lsid) (d : Deed) → RouterAsks s → DeedAsks d
    → MoveAsks (done_in s lsid d)
done_asks s lsid d h k = record {
  state = entries_put (λ (entry : Lsid × Session). DoingAsks entry.1.doing) lsid d.session
      s.sessions k.doing h;
  given = k.given;
}

-- Outcomes.

checked_told : (lsid : Lsid) (number : ℤ) (asker : Option Asker) (o : Outcome) (t : Transaction)
    (x : Told) → TxnAsks t → DeedAsks (co.checked lsid number asker (record o { told = x }) t)
checked_told lsid number asker o t told_as.Released h = released_asks lsid number asker t
    (without o.shard t.waiting) h (without_asks o.shard t.waiting h.waiting)
checked_told lsid number asker o t (told_as.Committed at) h =
    finished_asks lsid number asker Committed t h.wrote tt
checked_told lsid number asker o t (told_as.Aborted cause) h =
    fails_ask lsid number asker (record o { told = told_as.Aborted cause }) t h.wrote
checked_told lsid number asker o t (told_as.TooOld have) h =
    fails_ask lsid number asker (record o { told = told_as.TooOld have }) t h.wrote
checked_told lsid number asker o t told_as.NoTrace h =
    fails_ask lsid number asker (record o { told = told_as.NoTrace }) t h.wrote

decided_told : (lsid : Lsid) (number : ℤ) (asker : Option Asker)
    (o : Outcome) (t : Transaction) (x : Told) → OneWrote t.wrote
    → DeedAsks (co.decided lsid number asker (record o { told = x }) t)
decided_told lsid number asker o t told_as.Released w =
    finished_asks lsid number asker Committed t w tt
decided_told lsid number asker o t (told_as.Committed at) w =
    finished_asks lsid number asker Committed t w tt
decided_told lsid number asker o t (told_as.Aborted cause) w =
    record { doing = left t (Aborted true) w tt; given = record { aborts = none; sends = none } }
decided_told lsid number asker o t (told_as.TooOld have) w =
    record { doing = left t (Deciding None) w tt; given = record { aborts = none; sends = none } }
decided_told lsid number asker o t told_as.NoTrace w =
    record { doing = left t (Deciding None) w tt; given = record { aborts = none; sends = none } }

counted_phase : (lsid : Lsid) (number : ℤ) (o : Outcome) (t : Transaction) (p : Phase)
    → TxnAsks (record t { phase = p })
    → DeedAsks (co.counted lsid number o (record t { phase = p }))
counted_phase lsid number o t (Checking asker) h =
    checked_told lsid number asker o (record t { phase = Checking asker }) o.told h
counted_phase lsid number o t (Deciding asker) h =
    decided_told lsid number asker o (record t { phase = Deciding asker }) o.told h.wrote
counted_phase lsid number o t Idle h = record { doing = h; given = no_given }
counted_phase lsid number o t (Asking asker op answers) h = record { doing = h; given = no_given }
counted_phase lsid number o t Committed h = record { doing = h; given = no_given }
counted_phase lsid number o t Released h = record { doing = h; given = no_given }
counted_phase lsid number o t (Aborted sent) h = record { doing = h; given = no_given }

on_outcome_asks : (lsid : Lsid) (number : ℤ) (o : Outcome) (t : Transaction) → TxnAsks t
    → DeedAsks (co.on_outcome lsid number o t)
on_outcome_asks lsid number o t h = either (same_tag t.tag o.tag && is_waited o.shard t.waiting)
    DeedAsks _ _ (counted_phase lsid number o t t.phase h) (rests number t h)

-- Tokens.

anew_asks : (lsid : Lsid) (number : ℤ) (k : Seeking) (known : List Tag)
    → DeedAsks (tk.asks_anew lsid number k known)
anew_asks lsid number k known = record {
  doing = tt;
  given = record { aborts = none; sends = one Asks (tk.recover_to lsid number k) tt };
}

asks_for_asks : (lsid : Lsid) (number : ℤ) (k : Seeking) (older : Option Seeking) (known : List Tag)
    → DeedAsks (tk.asks_for lsid number k older known)
asks_for_asks lsid number k None known = anew_asks lsid number k known
asks_for_asks lsid number k (Some older) known = either (tk.same_place older k) DeedAsks _ _
    (record { doing = tt; given = no_given }) (anew_asks lsid number k known)

seeks_in_asks : (lsid : Lsid) (number : ℤ) (asker : Asker) (k : Seeking) (seeking : Option Seeking)
    (known : List Tag) → DeedAsks (tk.seeks_in lsid number asker k seeking known)
seeks_in_asks lsid number asker k seeking known = either (tk.is_known k.tag known) DeedAsks _ _
    (record { doing = tt; given = record { aborts = none; sends = none } }) (asks_for_asks lsid
    number k seeking known)

seeks_doing : (lsid : Lsid) (number own : ℤ) (asker : Asker) (k : Seeking) (doing : Doing)
    → DoingAsks doing
    → DeedAsks (tk.seeks_by lsid number asker k (Some (record { number = own; doing = doing })))
seeks_doing lsid number own asker k (Begun t) h =
    either (int_lt own number) DeedAsks _ _
    (record {
      doing = tt;
      given = both_ask (aborting (en.leaves lsid (record { number = own; doing = Begun t })))
          (tk.asks_anew lsid number k []).given
          (record { aborts = leaves_doing lsid own (Begun t); sends = none }) (anew_asks lsid number
          k []).given;
    })
    (record { doing = h; given = no_given })
seeks_doing lsid number own asker k (Sought seeking known) h =
    either (int_lt own number) DeedAsks _ _
    (record {
      doing = tt;
      given = both_ask (aborting []) (tk.asks_anew lsid number k []).given
          (record { aborts = none; sends = none }) (anew_asks lsid number k []).given;
    })
    (seeks_in_asks lsid number asker k seeking known)

seeks_by_asks : (lsid : Lsid) (number : ℤ) (asker : Asker) (k : Seeking) (s : Option Session)
    → IfSome s (λ (s : Session). DoingAsks s.doing) → DeedAsks (tk.seeks_by lsid number asker k s)
seeks_by_asks lsid number asker k None h = anew_asks lsid number k []
seeks_by_asks lsid number asker k (Some s) h = seeks_doing lsid number s.number asker k s.doing h

recovered_asks : (number : ℤ) (seeking : Option Seeking) (known : List Tag) (o : Outcome)
    → DeedAsks (tk.on_recovered number seeking known o)
recovered_asks number None known o = record { doing = tt; given = no_given }
recovered_asks number (Some k) known o = either (same_tag k.tag o.tag && nat_eq k.shard o.shard)
    DeedAsks _ _ (record { doing = tt; given = record { aborts = none; sends = none } })
    (record { doing = tt; given = no_given })

-- Ends that clients ask for, and those of sessions and connections.

client_phase : (lsid : Lsid) (number : ℤ) (asker : Asker) (t : Transaction) (p : Phase)
    → TxnAsks (record t { phase = p })
    → DeedAsks (en.client_aborts lsid number asker (record t { phase = p }))
client_phase lsid number asker t (Aborted sent) h =
    record { doing = h; given = record { aborts = none; sends = none } }
client_phase lsid number asker t Idle h = record {
  doing = left (record t { phase = Idle }) (Aborted (commit_sent Idle)) h.wrote tt;
  given = record {
    aborts = All-append Asks (en.aborts lsid number 1 t) [] (aborts_ask lsid number 1 t) none;
    sends = none;
  };
}
client_phase lsid number asker t (Asking other op answers) h = record {
  doing = left (record t { phase = Asking other op answers })
      (Aborted (commit_sent (Asking other op answers))) h.wrote tt;
  given = record {
    aborts = All-append Asks (en.aborts lsid number 1 t) [] (aborts_ask lsid number 1 t) none;
    sends = none;
  };
}
client_phase lsid number asker t (Checking other) h = record {
  doing = left (record t { phase = Checking other })
      (Aborted (commit_sent (Checking other))) h.wrote tt;
  given = record {
    aborts = All-append Asks (en.aborts lsid number 1 t) [] (aborts_ask lsid number 1 t) none;
    sends = none;
  };
}
client_phase lsid number asker t (Deciding other) h = record {
  doing = left (record t { phase = Deciding other })
      (Aborted (commit_sent (Deciding other))) h.wrote tt;
  given = record {
    aborts = All-append Asks (en.aborts lsid number 1 t) [] (aborts_ask lsid number 1 t) none;
    sends = none;
  };
}
client_phase lsid number asker t Committed h = record {
  doing = left (record t { phase = Committed }) (Aborted (commit_sent Committed)) h.wrote tt;
  given = record {
    aborts = All-append Asks (en.aborts lsid number 1 t) [] (aborts_ask lsid number 1 t) none;
    sends = none;
  };
}
client_phase lsid number asker t Released h = record {
  doing = left (record t { phase = Released }) (Aborted (commit_sent Released)) h.wrote tt;
  given = record {
    aborts = All-append Asks (en.aborts lsid number 1 t) [] (aborts_ask lsid number 1 t) none;
    sends = none;
  };
}

gone_phase : (conn : ℕ) (lsid : Lsid) (number : ℤ) (t : Transaction) (p : Phase)
    → TxnAsks (record t { phase = p }) → DeedAsks (en.gone_asking conn lsid
    (record { number = number; doing = Begun (record t { phase = p }) }) (record t { phase = p }))
gone_phase conn lsid number t (Asking asker op answers) h =
    ends_ask lsid number 4 (record t { phase = Asking asker op answers }) h.wrote
gone_phase conn lsid number t (Checking asker) h =
    record { doing = record { waiting = h.waiting; wrote = h.wrote; phase = tt }; given = no_given }
gone_phase conn lsid number t (Deciding asker) h =
    record { doing = record { waiting = h.waiting; wrote = h.wrote; phase = tt }; given = no_given }
gone_phase conn lsid number t Idle h = record { doing = h; given = no_given }
gone_phase conn lsid number t Committed h = record { doing = h; given = no_given }
gone_phase conn lsid number t Released h = record { doing = h; given = no_given }
gone_phase conn lsid number t (Aborted sent) h = record { doing = h; given = no_given }

gone_doing : (conn : ℕ) (lsid : Lsid) (number : ℤ) (doing : Doing) → DoingAsks doing
    → DeedAsks (en.gone_in conn lsid (record { number = number; doing = doing }))
gone_doing conn lsid number (Begun t) h = gone_phase conn lsid number t t.phase h
gone_doing conn lsid number (Sought seeking known) h = record { doing = tt; given = no_given }

pub gone_asks : (conn : ℕ) (s : RouterState) → RouterAsks s → MoveAsks (en.gone s conn)
gone_asks conn s h =
    let e = each_asks (en.gone_from conn) (λ lsid s k. either (is_from conn (asker_of s.doing))
    DeedAsks _ _ (gone_doing conn lsid s.number s.doing k)
    (record { doing = k; given = no_given })) s.sessions h in
    record { state = e.0; given = e.1 }

session_phase : (lsid : Lsid) (number : ℤ) (doing : Doing) → DoingAsks doing
    → DeedAsks (en.ends_session lsid (record { number = number; doing = doing }))
session_phase lsid number (Begun t) h =
    either (is_none (asker_of (Begun t)) && not (commit_sent t.phase)) DeedAsks _ _ (ends_ask lsid
    number 2 t h.wrote) (record { doing = h; given = no_given })
session_phase lsid number (Sought seeking known) h = record { doing = tt; given = no_given }

-- A session of a router.

abbrev SomeAsks : Option Session → Type 0
SomeAsks s = IfSome s (λ (s : Session). DoingAsks s.doing)

some_asks : (r : RouterState) (lsid : Lsid) (s : Option Session) → session_of r lsid ≡ s
    → RouterAsks r → SomeAsks s
some_asks r lsid None e h = tt
some_asks r lsid (Some s) e h = entry_has (λ (s : Session). DoingAsks s.doing) lsid r.sessions h s e

session_asks : (r : RouterState) (lsid : Lsid) → RouterAsks r → SomeAsks (session_of r lsid)
session_asks r lsid h = some_asks r lsid (session_of r lsid) refl h

abbrev BegunAsks : Option Transaction → Type 0
BegunAsks t = IfSome t (λ (t : Transaction). TxnAsks t)

begun_doing : (own number : ℤ) (doing : Doing) → DoingAsks doing
    → BegunAsks (begun_in (Some (record { number = own; doing = doing })) number)
begun_doing own number (Begun t) h = either (int_eq own number) BegunAsks (Some t) None h tt
begun_doing own number (Sought seeking known) h =
    either (int_eq own number) BegunAsks None None tt tt

begun_asks : (s : Option Session) (number : ℤ) → SomeAsks s → BegunAsks (begun_in s number)
begun_asks None number h = tt
begun_asks (Some s) number h = begun_doing s.number number s.doing h

still_asks : (r : RouterState) → RouterAsks r → MoveAsks (still r)
still_asks r h = record { state = h; given = no_given }

end_asks : (r : RouterState) (lsid : Lsid) (s : Option Session) → SomeAsks s → RouterAsks r
    → MoveAsks (en.end_session r lsid s)
end_asks r lsid None k h = still_asks r h
end_asks r lsid (Some s) k h =
    done_asks r lsid (en.ends_session lsid s) h (session_phase lsid s.number s.doing k)

end_all_ask : (lsids : List Lsid) (r : RouterState) → RouterAsks r
    → MoveAsks (en.end_sessions r lsids)
end_all_ask [] r h = still_asks r h
end_all_ask (lsid ∷ lsids) r h =
    let first = end_asks r lsid (session_of r lsid) (session_asks r lsid h) h in
    let more = end_all_ask lsids (en.end_session r lsid (session_of r lsid)).state first.state in
    record {
      state = more.state;
      given = both_ask (en.end_session r lsid (session_of r lsid)).given (en.end_sessions
          (en.end_session r lsid (session_of r lsid)).state lsids).given first.given more.given;
    }

-- Requests.

refused_asks : (r : RouterState) (asker : Asker) (why : Option Reply) (m : Move) → RouterAsks r
    → MoveAsks m → MoveAsks (rq.unless_refused r asker why m)
refused_asks r asker None m h k = k
refused_asks r asker (Some reply) m h k =
    record { state = h; given = record { aborts = none; sends = none } }

left_asks : (lsid : Lsid) (s : Option Session) → AllAsk (rq.left_of lsid s)
left_asks lsid None = none
left_asks lsid (Some s) = leaves_ask lsid s

begins_ask : (r : RouterState) (lsid : Lsid) (s : Option Session) (number : ℤ) (asker : Asker) (op :
    Op) (read_at : ℕ) → RouterAsks r → MoveAsks (rq.begins_at r lsid s number asker op read_at)
begins_ask r lsid s number asker op read_at h =
    let deed = st.asks r.chunks lsid number asker op (rq.begun_at r read_at) in
    let d = asks_ask r.chunks lsid number asker op (rq.begun_at r read_at) (inl refl) in
    done_asks (rq.drawn r read_at) lsid
    (record { session = deed.session; given = both (aborting (rq.left_of lsid s)) deed.given })
    h
    (record {
      doing = d.doing;
      given = both_ask (aborting (rq.left_of lsid s)) deed.given
          (record { aborts = left_asks lsid s; sends = none }) d.given;
    })

states_ask : (r : RouterState) (lsid : Lsid) (s : Option Session) (number : ℤ) (asker : Asker)
    (op : Op) (at : Option ℕ) (t : Option Transaction) → BegunAsks t → RouterAsks r
    → MoveAsks (rq.states r lsid s number asker op at t)
states_ask r lsid s number asker op at None b h = begins_ask r lsid s number asker op _ h
states_ask r lsid s number asker op at (Some t) b h = done_asks r lsid (st.asks r.chunks lsid number
    asker op t) h (asks_ask r.chunks lsid number asker op t b.wrote)

statement_asks : (r : RouterState) (asker : Asker) (txn : Option Txn) (op : Op) (at : Option ℕ)
    → RouterAsks r → MoveAsks (rq.statement r asker txn op at)
statement_asks r asker None op at h =
    let lsid = own_session r asker.conn in
    let number = (rq.by_itself r asker.conn).number in
    refused_asks r asker _ _ h (states_ask r lsid (session_of r lsid)
    number asker op at (begun_in (session_of r lsid) number)
    (begun_asks (session_of r lsid) number (session_asks r lsid h)) h)
statement_asks r asker (Some txn) op at h =
    refused_asks r asker _ _ h (states_ask r txn.lsid (session_of r txn.lsid)
    txn.number asker op at (begun_in (session_of r txn.lsid) txn.number)
    (begun_asks (session_of r txn.lsid) txn.number (session_asks r txn.lsid h)) h)

sought_asks : (r : RouterState) (asker : Asker) (txn : Txn) (s : Option Session) (t : Option Token)
    → SomeAsks s → RouterAsks r → MoveAsks (rq.commit_sought r asker txn s t)
sought_asks r asker txn s (Some (token.Placed tag shard boot)) k h = done_asks r txn.lsid (tk.seeks
    txn.lsid txn.number asker tag shard boot s) h (seeks_by_asks txn.lsid txn.number asker _ s k)
sought_asks r asker txn s other k h = still_asks r h

commit_by_asks : (r : RouterState) (asker : Asker) (txn : Txn) (s : Option Session)
    (t : Option Token) (own : Option Transaction) → SomeAsks s → BegunAsks own → RouterAsks r
    → MoveAsks (rq.commit_by r asker txn s t own)
commit_by_asks r asker txn s t None k b h = sought_asks r asker txn s t k h
commit_by_asks r asker txn s t (Some own) k b h = done_asks r txn.lsid (co.commit_asked txn.lsid
    txn.number asker own) h (commit_asked_asks txn.lsid txn.number asker own b)

commit_asks : (r : RouterState) (asker : Asker) (txn : Option Txn) (t : Option Token) → RouterAsks r
    → MoveAsks (rq.commit r asker txn t)
commit_asks r asker None t h = still_asks r h
commit_asks r asker (Some txn) t h =
    let k = session_asks r txn.lsid h in
    refused_asks r asker _ _ h (commit_by_asks r asker txn (session_of r txn.lsid) t (begun_in
    (session_of r txn.lsid) txn.number) k (begun_asks (session_of r txn.lsid) txn.number k) h)

abort_by_asks : (r : RouterState) (asker : Asker) (txn : Txn) (own : Option Transaction)
    → BegunAsks own → RouterAsks r → MoveAsks (rq.abort_by r asker txn own)
abort_by_asks r asker txn None b h = still_asks r h
abort_by_asks r asker txn (Some own) b h = done_asks r txn.lsid (en.client_aborts txn.lsid
    txn.number asker own) h (client_phase txn.lsid txn.number asker own own.phase b)

abort_asks : (r : RouterState) (asker : Asker) (txn : Option Txn) → RouterAsks r
    → MoveAsks (rq.abort r asker txn)
abort_asks r asker None h = still_asks r h
abort_asks r asker (Some txn) h = refused_asks r asker _ _ h (abort_by_asks r asker txn _
    (begun_asks (session_of r txn.lsid) txn.number (session_asks r txn.lsid h)) h)

also_asks : (m : Move) (asker : Asker) (legacy : Bool) (r : Reply) → MoveAsks m
    → MoveAsks (told_also m asker legacy r)
also_asks m asker legacy r h =
    record {
      state = h.state;
      given = record {
        aborts = All-append Asks m.given.aborts [] h.given.aborts none;
        sends = All-append Asks m.given.sends [] h.given.sends none;
      };
    }

serves_asks : (r : RouterState) (asker : Asker) (legacy : Bool) (x : Request) → RouterAsks r
    → MoveAsks (rq.serves r asker legacy x)
unfolding rq.serves
serves_asks r asker legacy (request.Ping more time) h = also_asks _ asker legacy _ (still_asks _ h)
serves_asks r asker legacy (request.Hello old_name more time) h =
    also_asks _ asker legacy _ (still_asks _ h)
serves_asks r asker legacy (request.Statement op txn at after more time) h =
    statement_asks _ asker txn op at h
serves_asks r asker legacy (request.Commit txn t more time) h = commit_asks _ asker txn t h
serves_asks r asker legacy (request.Abort txn more time) h = abort_asks _ asker txn h
serves_asks r asker legacy (request.EndSessions ids more time) h =
    also_asks _ asker legacy _ (end_all_ask ids _ h)

served_asks : (r : RouterState) (conn : ℕ) (bytes : List ℕ) (x : Result Request Unserved)
    → RouterAsks r → MoveAsks (sp.served r conn bytes x)
served_asks r conn bytes (Ok asked) h = serves_asks r _ _ asked h
served_asks r conn bytes (Err (un.Told why)) h = also_asks (still r) _ _ _ (still_asks r h)
served_asks r conn bytes (Err (un.Closed number)) h = still_asks r h
served_asks r conn bytes (Err un.Memory) h = still_asks r h

silent_asks : (test : Bool) (m : Move) → MoveAsks m → MoveAsks (sp.unless_silent test m)
silent_asks true m h = h
silent_asks false m h =
    record { state = h.state; given = record { aborts = h.given.aborts; sends = h.given.sends } }

-- Resends.

abbrev Un : rs.Unanswered → Type 0
Un u = IsAskedAlone u.1.1

inserted_asks : (a : rs.Unanswered) (others : List rs.Unanswered) → Un a → All Un others
    → All Un (rs.inserted a others)
inserted_asks a [] k h = one Un a k
inserted_asks a (b ∷ others) k h =
    either (is_lt (rs.waiting_cmp a b)) (All Un) _ _ (All-cons Un a (b ∷ others) k h)
    (All-cons Un b (rs.inserted a others) (All-head Un b others h)
    (inserted_asks a others k (All-tail Un b others h)))

order_asks : (us : List rs.Unanswered) → All Un us → All Un (rs.in_order us)
order_asks [] h = h
order_asks (u ∷ us) h =
    inserted_asks u (rs.in_order us) (All-head Un u us h) (order_asks us (All-tail Un u us h))

sought_un : (lsid : Lsid) (number : ℤ) (k : Option Seeking) → All Un (rs.sought_post lsid number k)
sought_un lsid number None = All-nil Un
sought_un lsid number (Some k) = one Un _ tt

waiting_un : (lsid : Lsid) (number : ℤ) (doing : Doing) → DoingAsks doing
    → All Un (rs.waiting_in (lsid, record { number = number; doing = doing }))
waiting_un lsid number (Begun t) h = All-map Un (λ (post : Post). (t.tag, post)) t.waiting h.waiting
waiting_un lsid number (Sought seeking known) h = sought_un lsid number seeking

all_un : (sessions : BySession Session) → All (λ entry. DoingAsks entry.1.doing) sessions
    → All Un (flat_map rs.waiting_in sessions)
all_un [] h = All-nil Un
all_un (entry ∷ entries) h =
    All-append Un (rs.waiting_in entry) (flat_map rs.waiting_in entries)
    (waiting_un entry.0 entry.1.number entry.1.doing
    (All-head (λ (entry : Lsid × Session). DoingAsks entry.1.doing) entry entries h))
    (all_un entries
    (All-tail (λ (entry : Lsid × Session). DoingAsks entry.1.doing) entry entries h))

resent_asks : (r : RouterState) → RouterAsks r → AllAsk (rs.resent r)
resent_asks r h =
    All-append Asks _ (rs.unanswered r.sessions)
    (each Asks _ (range_with_len 0 r.chunks.shards) (λ x. tt))
    (All-map Asks (λ (a : rs.Unanswered). a.1) (rs.in_order (flat_map rs.waiting_in r.sessions))
    (order_asks (flat_map rs.waiting_in r.sessions) (all_un r.sessions h)))

-- The step.

answered_doing : (a : Answer) (lsid : Lsid) (number : ℤ) (doing : Doing) → a.shard ≡ 0
    → DoingAsks doing → DeedAsks (answered_in a lsid (record { number = number; doing = doing }))
answered_doing a lsid number (Begun t) own h = on_answer_asks lsid number a t own h
answered_doing a lsid number (Sought seeking known) own h = record { doing = tt; given = no_given }

ended_doing : (o : Outcome) (lsid : Lsid) (number : ℤ) (doing : Doing) → DoingAsks doing
    → DeedAsks (ended_in o lsid (record { number = number; doing = doing }))
ended_doing o lsid number (Begun t) h = on_outcome_asks lsid number o t h
ended_doing o lsid number (Sought seeking known) h = recovered_asks number seeking known o

delivered_asks : (r : RouterState) (m : Msg) → IsAlone m → RouterAsks r
    → MoveAsks (sp.delivered r m)
delivered_asks r (msg.Answer a) own h = let e = each_asks (answered_in a) (λ lsid s k.
    answered_doing a lsid s.number s.doing own k) r.sessions h in
    record { state = e.0; given = e.1 }
delivered_asks r (msg.Outcome o) own h = let e =
    each_asks (ended_in o) (λ lsid s k. ended_doing o lsid s.number s.doing k) r.sessions h in
    record { state = e.0; given = e.1 }
delivered_asks r other own h = still_asks r h

happened_asks : (r : RouterState) (w : Happening) → EventAlone w → RouterAsks r
    → MoveAsks (sp.happened r w)
happened_asks r (what.Client conn bytes) own h =
    either (is_waiting r conn) MoveAsks _ _ (still_asks r h)
    (silent_asks (wants_reply bytes) _ (served_asks r conn bytes (asked_in r.wall bytes) h))
happened_asks r (what.Gone conn) own h = gone_asks conn r h
happened_asks r (what.Deliver e) own h = delivered_asks _ e.msg own h
happened_asks r what.Resend own h =
    record { state = h; given = record { aborts = none; sends = resent_asks r h } }
happened_asks r what.Moment own h = still_asks r h

pub router_asks : (want : Bool) (r : RouterState) (e : NodeEvent) → EventAlone e.what
    → RouterAsks r → RouterAsks (sp.router_step want r e).state × All (λ (e : Envelope).
    IsAskedAlone e.msg) (given_out (sp.answer_of want (sp.router_step want r e)))
unfolding sp.router_step
router_asks true r e own h = (h, All-nil (λ (e : Envelope). IsAskedAlone e.msg))
router_asks false r e own h =
    let m = sp.happened (walled r e.wall) e.what in
    let k = happened_asks (walled r e.wall) e.what own h in (
      k.state,
      All-map (λ (e : Envelope). IsAskedAlone e.msg) (sent_by (Router m.state.number) m.state.time)
          (map letter_of (m.given.aborts ++ m.given.sends))
          (All-map (λ (l : Letter). IsAskedAlone l.1) letter_of (m.given.aborts ++ m.given.sends)
          (All-append Asks m.given.aborts m.given.sends k.given.aborts k.given.sends)),
    )
