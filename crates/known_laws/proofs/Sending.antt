-- A router's step: what it sends and has of shards' boots is known of its transactions.
use Rattle.std.proofs.Common.{◌≡◌, ◌⊎◌, inl, inr, ◌||◌, ℕ, ℤ, Bool, true, false, not, ◌&&◌, All}
use Rattle.std.proofs.Common.{arith, List, [], ◌∷◌, ◌++◌, map, length, nat_eq, int_lt, int_eq}
use Rattle.std.proofs.Common.{is_none, is_some, Option, Some, None, IfSome, Result, Ok, Err, refl}
use Rattle.std.proofs.Common.{sym, subst, if◌then◌else◌}
use Rattle.std.specs.Prelude.{cond, find, fold, option_map, unwrap_or, flat_map, filter_map}
use Rattle.std.specs.Ordering.{nat_cmp, is_lt}
use Rattle.std.specs.List.{range_with_len}
use Rattle.std.proofs.lemmas.Bool.{eq-eqb, eqb-true}
use Rattle.std.proofs.lemmas.Bool.Decides.{Decides-int_eq}
use Rattle.std.proofs.lemmas.Map.Lookups.{exact_unsigned}
use Rattle.std.specs.List.{cons_option}
use Rattle.std.specs.Prelude.{IfOk}
use Rattle.std.proofs.lemmas.List.Elements.{All-nil, All-cons, All-head, All-tail, All-append}
use Rattle.std.proofs.lemmas.List.Elements.{All-map, All-filter, All-weaker}
use Rattle.txn_types.specs.BySession.{BySession}
use Rattle.txn_types.specs.Letters.{sent_by}
use Rattle.txn_types.specs.Order.{same_tag}
use Rattle.txn_types.specs.declared.cause.Cause.{Cause}
use Rattle.txn_types.specs.declared.cause.Cause.TheVariants as cause
use Rattle.txn_types.specs.declared.decision.Told.{Told}
use Rattle.txn_types.specs.declared.decision.Told.TheVariants as told_as
use Rattle.txn_types.specs.declared.decision.Token.{Token}
use Rattle.txn_types.specs.declared.decision.Token.TheVariants as token
use Rattle.txn_types.specs.declared.event.Happening.{Happening}
use Rattle.txn_types.specs.declared.event.Happening.TheVariants as what
use Rattle.txn_types.specs.declared.event.NodeEvent.{NodeEvent}
use Rattle.txn_types.specs.declared.message.Answer.{Answer}
use Rattle.txn_types.specs.declared.message.Msg.{Msg}
use Rattle.txn_types.specs.declared.message.Msg.TheVariants as msg
use Rattle.txn_types.specs.declared.message.Outcome.{Outcome}
use Rattle.txn_types.specs.declared.names.Tag.{Tag}
use Rattle.txn_types.specs.declared.node.Lsid.{Lsid}
use Rattle.txn_types.specs.declared.node.NodeId.TheVariants.{Router}
use Rattle.txn_types.specs.declared.operation.Op.{Op}
use Rattle.txn_types.specs.declared.operation.OpErr.{OpErr}
use Rattle.txn_types.specs.declared.operation.OpReply.{OpReply}
use Rattle.txn_semantics.specs.Keyed.{put}
use Rattle.txn_semantics.specs.Touched.{first_some}
use Rattle.op_msg.specs.Asking.{wants_reply}
use Rattle.client_cmd.specs.declared.request.Request.{Request}
use Rattle.client_cmd.specs.declared.request.Request.TheVariants as request
use Rattle.client_cmd.specs.declared.request.Txn.{Txn}
use Rattle.client_reply.specs.declared.reply.Refusal.TheVariants as refusal
use Rattle.client_reply.specs.declared.reply.Reply.{Reply}
use Rattle.chunk_map.specs.Map.{Map}
use Rattle.chunk_map.specs.Parts.{shards_of}
use Rattle.router_plan.specs.Messages.{asked_in}
use Rattle.router_plan.specs.Plans.{told_also}
use Rattle.router_plan.specs.Refusals.{begun_in, too_old, busy, is_elsewhere, is_so, is_aborted}
use Rattle.router_plan.specs.Refusals.{started, no_transaction, after_commit, too_long, too_many}
use Rattle.router_plan.specs.Refusals.{spent, many_shards, known_aborted, where_so}
use Rattle.router_plan.specs.Refusals.{statement_refusal}
use Rattle.client_reply.specs.declared.reply.Refusal.{Refusal}
use Rattle.router_plan.specs.Spelling.{letter_of}
use Rattle.router_plan.specs.declared.message.Unserved.{Unserved}
use Rattle.router_plan.specs.declared.message.Unserved.TheVariants as un
use Rattle.router_core.specs.Requests as rq
use Rattle.router_core.specs.Step as sp
use Rattle.router_rules.specs.Commits as co
use Rattle.router_rules.specs.Ends as en
use Rattle.router_rules.specs.Resends as rs
use Rattle.router_rules.specs.Serving.{answered_in, ended_in}
use Rattle.router_rules.specs.Statements as st
use Rattle.router_rules.specs.Times.{walled}
use Rattle.router_rules.specs.Tokens as tk
use Rattle.router_state.specs.Deeds.{nothing, aborting, telling, told, both, in_session, Move}
use Rattle.router_state.specs.Deeds.{still, done_in, each_session, in_each_session}
use Rattle.router_state.specs.Shards.{writers, readers, has_written, with_shard}
use Rattle.router_state.specs.State.{Post, RouterState, asker_of, is_from, is_waiting, asker_in}
use Rattle.router_state.specs.State.{commit_sent, is_unfinished, is_waited, is_own, without}
use Rattle.router_state.specs.State.{token_of, session_of, boot_of}
use Rattle.router_state.specs.declared.deed.Deed.{Deed}
use Rattle.router_state.specs.declared.deed.Given.{Given}
use Rattle.router_state.specs.declared.state.Asker.{Asker}
use Rattle.router_state.specs.declared.state.Doing.{Doing}
use Rattle.router_state.specs.declared.state.Doing.TheVariants.{Begun, Sought}
use Rattle.router_state.specs.declared.state.Phase.{Phase}
use Rattle.router_state.specs.declared.state.Phase.TheVariants.{Idle, Asking, Checking, Deciding}
use Rattle.router_state.specs.declared.state.Phase.TheVariants.{Committed, Released, Aborted}
use Rattle.router_state.specs.declared.state.Seeking.{Seeking}
use Rattle.router_state.specs.declared.state.Session.{Session}
use Rattle.router_state.specs.declared.state.Transaction.{Transaction}
use Rattle.participant.proofs.Cases.{either}
use Rattle.txn_types.specs.Letters.{given_out}
use Rattle.std.specs.List.{list_any}
use Rattle.std.specs.Option.{option_or}
use Rattle.std.specs.declared.cmp.Ordering.{Ordering}
use Rattle.std.specs.declared.cmp.Ordering.TheVariants.{Less, Equal, Greater}
use Rattle.participant.proofs.Tags.{tag_same}
use Rattle.txn_types.specs.Letters.{Named}
use Rattle.world_laws.specs.Begins.{EntryNames, DoingNames, RouterNames}
use Rattle.known_laws.specs.Known.{PartsKnown, ToldKnown, EnvKnown, LetterKnown, PostKnown}
use Rattle.known_laws.specs.Known.{PostsKnown, AreTaken, has_refusal, PhaseKnown, TransactionKnown}
use Rattle.known_laws.specs.Known.{DoingKnown, RouterKnown}
use Rattle.known_laws.proofs.Sessions.{entries_put, entry_named}
use Rattle.world_laws.proofs.Naming.{one, each, each_of, put_all}

-- A name, in a session.
abbrev N : Lsid → ℤ → Transaction → Named
N lsid number t = record { tag = t.tag; lsid = lsid; number = number }

abbrev Part : (ℕ → ℕ → Named → Type 0) → Named → ℕ × ℕ → Type 0
Part B x part = B part.0 part.1 x

-- boot 0 is that of a shard which hasn't answered
abbrev pub Zero : (ℕ → ℕ → Named → Type 0) → Type 0
Zero B = (shard : ℕ) (x : Named) → B shard 0 x

record GivenKnown (B : ℕ → ℕ → Named → Type 0) (g : Given) : Type 0 where
  aborts : PostsKnown B g.aborts
  sends : PostsKnown B g.sends

record DeedKnown (B : ℕ → ℕ → Named → Type 0) (lsid : Lsid) (d : Deed) : Type 0 where
  doing : DoingKnown B lsid d.session.number d.session.doing
  given : GivenKnown B d.given

record MoveKnown (B : ℕ → ℕ → Named → Type 0) (m : Move) : Type 0 where
  state : RouterKnown B m.state
  given : GivenKnown B m.given

none : (B : ℕ → ℕ → Named → Type 0) → PostsKnown B []
none B = All-nil (PostKnown B)

no_given : (B : ℕ → ℕ → Named → Type 0) → GivenKnown B nothing
no_given B = record { aborts = none B; sends = none B }

both_known : (B : ℕ → ℕ → Named → Type 0) (a b : Given) → GivenKnown B a → GivenKnown B b
    → GivenKnown B (both a b)
both_known B a b h k = record {
  aborts = All-append (PostKnown B) a.aborts b.aborts h.aborts k.aborts;
  sends = All-append (PostKnown B) a.sends b.sends h.sends k.sends;
}

-- Boots of participants.

told_first : (B : ℕ → ℕ → Named → Type 0) (x : Named) (shard : ℕ) (part : ℕ
    × ℕ) (parts : List (ℕ × ℕ)) (test : Bool) → nat_eq part.0 shard ≡ test → B part.0 part.1 x
    → B shard (boot_of parts shard) x
    → B shard (unwrap_or (option_map (λ (part : ℕ × ℕ). part.1)
    (cond test (Some part) (find (λ (part : ℕ × ℕ). nat_eq part.0 shard) parts))) 0) x
told_first B x shard part parts true e h more = let is : part.0 ≡ shard = grind (arith, e) in
    subst (λ (n : ℕ). B n part.1 x) is h
told_first B x shard part parts false e h more = more

boot_known : (B : ℕ → ℕ → Named → Type 0) → Zero B → (x : Named) (shard : ℕ) (parts : List (ℕ × ℕ))
    → PartsKnown B x parts → B shard (boot_of parts shard) x
boot_known B z x shard [] h = z shard x
boot_known B z x shard (part ∷ parts) h =
    told_first B x shard part parts (nat_eq part.0 shard) refl (All-head (Part B x) part parts h)
    (boot_known B z x shard parts (All-tail (Part B x) part parts h))

shards_known : (B : ℕ → ℕ → Named → Type 0) → Zero B
    → (x : Named) (parts : List (ℕ × ℕ)) (shards : List ℕ) → PartsKnown B x parts
    → PartsKnown B x (fold with_shard parts shards)
shards_known B z x parts [] h = h
shards_known B z x parts (shard ∷ shards) h =
    shards_known B z x (with_shard parts shard) shards (put_all nat_cmp (Part B x) shard
    (boot_of parts shard) parts (boot_known B z x shard parts h) h)

readers_known : (B : ℕ → ℕ → Named → Type 0) (x : Named) (t : Transaction) → PartsKnown B x t.parts
    → PartsKnown B x (readers t)
readers_known B x t h =
    All-filter (λ (part : ℕ × ℕ). not (has_written t part.0)) (Part B x) t.parts h

writers_known : (B : ℕ → ℕ → Named → Type 0) → Zero B → (x : Named) (t : Transaction)
    → PartsKnown B x t.parts → PartsKnown B x (writers t)
writers_known B z x t h = each (Part B x) (λ (shard : ℕ). (shard, boot_of t.parts shard)) t.wrote
    (λ shard. boot_known B z x shard t.parts h)

-- Ends.

aborts_known : (B : ℕ → ℕ → Named → Type 0) (lsid : Lsid) (number : ℤ) (why : ℕ) (t : Transaction)
    → PostsKnown B (en.aborts lsid number why t)
aborts_known B lsid number why t =
    each (PostKnown B) (en.abort_to lsid number why t.tag) t.parts (λ x. tt)

without_known : (B : ℕ → ℕ → Named → Type 0) (shard : ℕ) (posts : List Post) → PostsKnown B posts
    → PostsKnown B (without shard posts)
without_known B shard posts h = All-filter (λ post. not (nat_eq post.0 shard)) (PostKnown B) posts h

leaves_known : (B : ℕ → ℕ → Named → Type 0) (lsid : Lsid) (number : ℤ) (doing : Doing)
    → PostsKnown B (en.leaves lsid (record { number = number; doing = doing }))
leaves_known B lsid number (Begun t) =
    either (is_unfinished t.phase) (PostsKnown B) _ _ (aborts_known B lsid number 6 t) (none B)
leaves_known B lsid number (Sought seeking known) = none B

ends_known : (B : ℕ → ℕ → Named → Type 0) (lsid : Lsid) (number : ℤ) (why : ℕ) (t : Transaction)
    → DeedKnown B lsid (en.ends lsid number why t)
ends_known B lsid number why t = record {
  doing = record { parts = tt; waiting = none B };
  given = record { aborts = aborts_known B lsid number why t; sends = none B };
}

rests : (B : ℕ → ℕ → Named → Type 0) (lsid : Lsid) (number : ℤ) (t : Transaction)
    → TransactionKnown B (N lsid number t) t → DeedKnown B lsid (in_session number t nothing)
rests B lsid number t h = record { doing = h; given = no_given B }

-- Commits.

commit_known : (B : ℕ → ℕ → Named
    → Type 0) (lsid : Lsid) (number : ℤ) (t : Transaction) (parts : List (ℕ × ℕ))
    → PartsKnown B (N lsid number t) parts → PostsKnown B (map (co.commit_to lsid number t) parts)
commit_known B lsid number t parts h = each_of (Part B (N lsid number t)) (PostKnown B)
    (co.commit_to lsid number t) (λ part k. k) parts h

-- a phase that says the same of the participants
abbrev Says : (ℕ → ℕ → Named → Type 0) → Phase → Type 0
Says B phase = (x : Named) (parts : List (ℕ × ℕ)) (waiting : List Post) → PartsKnown B x parts
    → PhaseKnown B x parts waiting phase

finished_known : (B : ℕ → ℕ → Named → Type 0) (lsid : Lsid) (number : ℤ) (asker : Option Asker)
    (phase : Phase) (t : Transaction) → Says B phase → PartsKnown B (N lsid number t) t.parts
    → DeedKnown B lsid (co.finished lsid number asker phase t)
finished_known B lsid number asker phase t q h = record {
  doing = record { parts = q (N lsid number t) t.parts [] h; waiting = none B };
  given = record { aborts = none B; sends = none B };
}

waits_known : (B : ℕ → ℕ → Named → Type 0) (lsid : Lsid) (number : ℤ) (phase : Phase)
    (posts : List Post) (t : Transaction) → Says B phase → PartsKnown B (N lsid number t) t.parts
    → PostsKnown B posts → DeedKnown B lsid (co.waits number phase posts t)
waits_known B lsid number phase posts t q h k = record {
  doing = record { parts = q (N lsid number t) t.parts posts h; waiting = k };
  given = record { aborts = none B; sends = k };
}

decides_by_known : (B : ℕ → ℕ → Named → Type 0) (lsid : Lsid) (number : ℤ) (asker : Option Asker)
    (t : Transaction) (parts : List (ℕ × ℕ)) → PartsKnown B (N lsid number t) t.parts
    → PartsKnown B (N lsid number t) (writers t) → PartsKnown B (N lsid number t) parts
    → DeedKnown B lsid (co.decides_by lsid number asker t parts)
decides_by_known B lsid number asker t [] p w h =
    finished_known B lsid number asker Released t (λ x parts waiting k. k) p
decides_by_known B lsid number asker t (first ∷ []) p w h =
    waits_known B lsid number (Deciding asker) _ t (λ x parts waiting k. k) p (one (PostKnown B)
    (co.commit_to lsid number t first) (All-head (Part B (N lsid number t)) first [] h))
decides_by_known B lsid number asker t (first ∷ second ∷ more) p w h =
    waits_known B lsid number (Deciding asker) _ t (λ x parts waiting k. k) p
    (one (PostKnown B) (co.commit_two_to lsid number t first)
    (All-head (Part B (N lsid number t)) first (second ∷ more) h, w))

decides_known : (B : ℕ → ℕ → Named → Type 0) → Zero B
    → (lsid : Lsid) (number : ℤ) (asker : Option Asker) (t : Transaction)
    → PartsKnown B (N lsid number t) t.parts → DeedKnown B lsid (co.decides lsid number asker t)
decides_known B z lsid number asker t p = let w = writers_known B z (N lsid number t) t p in
    decides_by_known B lsid number asker t (writers t) p w w

commits_by_known : (B : ℕ → ℕ → Named → Type 0) → Zero B
    → (lsid : Lsid) (number : ℤ) (asker : Option Asker) (t : Transaction) (parts : List (ℕ × ℕ))
    → PartsKnown B (N lsid number t) t.parts → PartsKnown B (N lsid number t) parts
    → DeedKnown B lsid (co.commits_by lsid number asker t parts)
commits_by_known B z lsid number asker t [] p h = decides_known B z lsid number asker t p
commits_by_known B z lsid number asker t (first ∷ more) p h = waits_known B lsid number
    (Checking asker) _ t (λ x parts waiting k. k) p (commit_known B lsid number t (first ∷ more) h)

commits_known : (B : ℕ → ℕ → Named → Type 0) → Zero B
    → (lsid : Lsid) (number : ℤ) (asker : Option Asker) (t : Transaction)
    → PartsKnown B (N lsid number t) t.parts → DeedKnown B lsid (co.commits lsid number asker t)
commits_known B z lsid number asker t p =
    commits_by_known B z lsid number asker t (readers t) p (readers_known B (N lsid number t) t p)

listens_known : (B : ℕ → ℕ → Named → Type 0) → Zero B
    → (lsid : Lsid) (number : ℤ) (asker : Asker) (t : Transaction)
    → PartsKnown B (N lsid number t) t.parts → PostsKnown B t.waiting
    → DeedKnown B lsid (co.listens lsid number asker t)
listens_known B z lsid number asker t p w =
    either (nat_eq (length t.waiting) 0) (DeedKnown B lsid) _ _ (decides_known B z lsid number
    (Some asker) t p) (record { doing = record { parts = p; waiting = w }; given = no_given B })

commit_phase : (B : ℕ → ℕ → Named → Type 0) → Zero B
    → (lsid : Lsid) (number : ℤ) (asker : Asker) (t : Transaction) (p : Phase)
    → TransactionKnown B (N lsid number t) (record t { phase = p })
    → DeedKnown B lsid (co.commit_asked lsid number asker (record t { phase = p }))
commit_phase B z lsid number asker t Idle h =
    commits_known B z lsid number (Some asker) (record t { phase = Idle }) h.parts
commit_phase B z lsid number asker t (Asking other op answers) h =
    rests B lsid number (record t { phase = Asking other op answers }) h
commit_phase B z lsid number asker t (Checking other) h =
    record { doing = record { parts = h.parts; waiting = h.waiting }; given = no_given B }
commit_phase B z lsid number asker t (Deciding other) h =
    listens_known B z lsid number asker (record t { phase = Deciding other }) h.parts h.waiting
commit_phase B z lsid number asker t Committed h = finished_known B lsid number (Some asker)
    Committed (record t { phase = Committed }) (λ x parts waiting k. k) h.parts
commit_phase B z lsid number asker t Released h = finished_known B lsid number (Some asker) Released
    (record t { phase = Released }) (λ x parts waiting k. k) h.parts
commit_phase B z lsid number asker t (Aborted sent) h =
    record { doing = h; given = record { aborts = none B; sends = none B } }

commit_asked_known : (B : ℕ → ℕ → Named → Type 0) → Zero B
    → (lsid : Lsid) (number : ℤ) (asker : Asker) (t : Transaction)
    → TransactionKnown B (N lsid number t) t
    → DeedKnown B lsid (co.commit_asked lsid number asker t)
commit_asked_known B z lsid number asker t h = commit_phase B z lsid number asker t t.phase h

-- of a transaction whose readers were asked
released_known : (B : ℕ → ℕ → Named → Type 0) → Zero B
    → (lsid : Lsid) (number : ℤ) (asker : Option Asker) (t : Transaction) (posts : List Post)
    → Says B t.phase → PartsKnown B (N lsid number t) t.parts → PostsKnown B posts
    → DeedKnown B lsid (co.released lsid number asker t posts)
released_known B z lsid number asker t [] q p h = decides_known B z lsid number asker t p
released_known B z lsid number asker t (post ∷ posts) q p h = record {
  doing = record { parts = q (N lsid number t) t.parts (post ∷ posts) p; waiting = h };
  given = no_given B;
}

others_given : (B : ℕ → ℕ → Named → Type 0) (shard : ℕ) (lsid : Lsid) (number : ℤ) (t : Transaction)
    → PostsKnown B (without shard (en.aborts lsid number 5 t) ++ [])
others_given B shard lsid number t =
    All-append (PostKnown B) (without shard (en.aborts lsid number 5 t)) [] (without_known B shard
    (en.aborts lsid number 5 t) (aborts_known B lsid number 5 t)) (none B)

fails_known : (B : ℕ → ℕ → Named → Type 0) (lsid : Lsid) (number : ℤ) (asker : Option Asker)
    (o : Outcome) (t : Transaction) → DeedKnown B lsid (co.fails lsid number asker o t)
fails_known B lsid number asker o t = record {
  doing = record { parts = tt; waiting = none B };
  given = record { aborts = others_given B o.shard lsid number t; sends = none B };
}

-- Statements.

statements_known : (B : ℕ → ℕ → Named → Type 0) → Zero B
    → (chunks : Map) (lsid : Lsid) (number : ℤ) (t : Transaction) (op : Op)
    → PartsKnown B (N lsid number t) t.parts
    → PostsKnown B (st.statements_to chunks lsid number t op)
statements_known B z chunks lsid number t op p = each (PostKnown B) (st.statement_to chunks lsid
    number t op) _ (λ shard. boot_known B z (N lsid number t) shard t.parts p)

asks_known : (B : ℕ → ℕ → Named → Type 0) → Zero B
    → (chunks : Map) (lsid : Lsid) (number : ℤ) (asker : Asker) (op : Op) (t : Transaction)
    → PartsKnown B (N lsid number t) t.parts
    → DeedKnown B lsid (st.asks chunks lsid number asker op t)
asks_known B z chunks lsid number asker op t p =
    let s = statements_known B z chunks lsid number t op p in
    record {
      doing = record {
        parts = (
          inl (shards_known B z (N lsid number t) t.parts (shards_of chunks op) p),
          All-nil (λ (answer : ℕ × Answer). is_waited answer.0
              (st.statements_to chunks lsid number t op) ≡ false),
        );
        waiting = s;
      };
      given = record { aborts = none B; sends = s };
    }

refuses_known : (B : ℕ → ℕ → Named → Type 0) (lsid : Lsid) (number : ℤ) (asker : Asker) (t :
    Transaction) (refusal : ℕ × Cause) → DeedKnown B lsid (st.refuses lsid number asker t refusal)
refuses_known B lsid number asker t refusal = record {
  doing = record { parts = tt; waiting = none B };
  given = record { aborts = others_given B refusal.0 lsid number t; sends = none B };
}

replies_known : (B : ℕ → ℕ → Named → Type 0) → Zero B
    → (lsid : Lsid) (number : ℤ) (asker : Asker) (op : Op) (t : Transaction) (r : OpReply)
    → TransactionKnown B (N lsid number t) t → PartsKnown B (N lsid number t) t.parts
    → DeedKnown B lsid (st.replies lsid number asker op t r)
replies_known B z lsid number asker op t r h p =
    either (is_own lsid && not (st.is_cut r)) (DeedKnown B lsid)
    (co.commits lsid number (Some asker) (record t { reply = Some (st.reply_of op r None) }))
    (in_session number t (telling (told asker (st.reply_of op r (Some (token_of t))) ∷ [])))
    (commits_known B z lsid number (Some asker) (record t { reply = Some (st.reply_of op r None) })
    p) (record { doing = h; given = record { aborts = none B; sends = none B } })

-- a refusal wins where there is one

first_or : {A : Type 0} (a b : Option A) → option_or a b ≡ None → (a ≡ None) × (b ≡ None)
first_or None b e = (refl, e)
first_or (Some a) b e = cc

found_none : (x : ℕ × Cause) (xs : List (ℕ × Cause)) (test : Bool) → test ≡ not (st.is_err x)
    → cond test (Some x) (find (λ refusal. not (st.is_err refusal)) xs) ≡ None → st.is_err x ≡ true
found_none x xs true t e = cc
found_none x xs false t e = flips (st.is_err x) t
  where
    flips : (b : Bool) → false ≡ not b → b ≡ true
    flips true t = refl
    flips false t = cc

abbrev as_told : ℕ × OpErr → ℕ × Cause
as_told e = (e.0, cause.Statement e.1)

least_some : (x : Option (ℕ × OpErr)) (xs : List (ℕ × OpErr)) → is_some x ≡ true
    → option_map as_told (st.least_err (cons_option x xs)) ≡ None → ⊥
least_some None xs t e = cc
least_some (Some x) xs t e = cc

wins : (refusals : List (ℕ × Cause)) → st.winning refusals ≡ None → refusals ≡ []
wins [] e = refl
wins (x ∷ xs) e =
    let k = first_or _ _ e in
    absurd (least_some (st.err_in x) (filter_map st.err_in xs)
    (found_none x xs (not (st.is_err x)) refl k.0) k.1)

cause_case : (o : Option (ℕ × Cause)) (more : List (ℕ × Cause)) (b : Bool) → cons_option o more ≡ []
    → (more ≡ [] → b ≡ false) → (is_some o || b) ≡ false
cause_case None more b e k = k e
cause_case (Some c) more b e k = cc

no_refusal : (answers : List (ℕ × Answer)) → filter_map st.cause_in answers ≡ []
    → has_refusal answers ≡ false
no_refusal [] e = refl
no_refusal (answer ∷ answers) e = cause_case (st.cause_in answer) (filter_map st.cause_in answers)
    (has_refusal answers) e (no_refusal answers)

clash : (b : Bool) → b ≡ true → b ≡ false → ⊥
clash true h k = cc
clash false h k = cc

-- all are known where none refuses
all_known : (B : ℕ → ℕ → Named → Type 0) (x : Named) (parts : List (ℕ × ℕ))
    (answers : List (ℕ × Answer)) → st.winning (filter_map st.cause_in answers) ≡ None
    → (PartsKnown B x parts ⊎ (has_refusal answers ≡ true)) → PartsKnown B x parts
all_known B x parts answers e (inl h) = h
all_known B x parts answers e (inr h) = absurd (clash (has_refusal answers) h
    (no_refusal answers (wins (filter_map st.cause_in answers) e)))

concludes_by_known : (B : ℕ → ℕ → Named → Type 0) → Zero B
    → (lsid : Lsid) (number : ℤ) (asker : Asker) (op : Op) (answers : List (ℕ × Answer))
    (t : Transaction) (w : Option (ℕ × Cause)) → st.winning (filter_map st.cause_in answers) ≡ w
    → (PartsKnown B (N lsid number t) t.parts ⊎ (has_refusal answers ≡ true))
    → DeedKnown B lsid (st.concludes_by lsid number asker op answers t w)
concludes_by_known B z lsid number asker op answers t None e h =
    let p = all_known B (N lsid number t) t.parts answers e h in
    replies_known B z lsid number asker op (st.answered_by answers t) _
    (record { parts = p; waiting = none B }) p
concludes_by_known B z lsid number asker op answers t (Some refusal) e h =
    refuses_known B lsid number asker t refusal

taken_by_known : (B : ℕ → ℕ → Named → Type 0) → Zero B → (lsid : Lsid) (number : ℤ)
    (asker : Asker) (op : Op) (answers : List (ℕ × Answer)) (t : Transaction) (posts : List Post)
    → TransactionKnown B (N lsid number t) t
    → (PartsKnown B (N lsid number t) t.parts ⊎ (has_refusal answers ≡ true))
    → DeedKnown B lsid (st.taken_by lsid number asker op answers t posts)
taken_by_known B z lsid number asker op answers t [] h k =
    concludes_by_known B z lsid number asker op answers t _ refl k
taken_by_known B z lsid number asker op answers t (post ∷ posts) h k = rests B lsid number t h

-- Answers, each of a shard that is waited for.

or_first : (a b : Bool) → a ≡ true → (a || b) ≡ true
or_first true b h = refl
or_first false b h = cc

or_second : (a b : Bool) → b ≡ true → (a || b) ≡ true
or_second true b h = refl
or_second false b h = h

or_neither : (a b : Bool) → (a || b) ≡ false → (a ≡ false) × (b ≡ false)
or_neither true b h = cc
or_neither false b h = (refl, h)

or_false : (a b : Bool) → a ≡ false → b ≡ false → (a || b) ≡ false
or_false true b h k = cc
or_false false b h k = k

refuses_put : (shard : ℕ) (a : Answer) (row : ℕ × Answer) (rows : List (ℕ × Answer)) (o : Ordering)
    → is_some (st.cause_in (shard, a)) ≡ true → has_refusal (put nat_cmp shard a rows) ≡ true
    → has_refusal (elim o [
      | Less ↦ (shard, a) ∷ row ∷ rows
      | Equal ↦ (shard, a) ∷ rows
      | Greater ↦ row ∷ put nat_cmp shard a rows
    ]) ≡ true
refuses_put shard a row rows Less this more =
    or_first (is_some (st.cause_in (shard, a))) (has_refusal (row ∷ rows)) this
refuses_put shard a row rows Equal this more =
    or_first (is_some (st.cause_in (shard, a))) (has_refusal rows) this
refuses_put shard a row rows Greater this more =
    or_second (is_some (st.cause_in row)) (has_refusal (put nat_cmp shard a rows)) more

-- a refusal that is put in is among them
refusal_put : (shard : ℕ) (a : Answer) (rows : List (ℕ × Answer))
    → is_some (st.cause_in (shard, a)) ≡ true → has_refusal (put nat_cmp shard a rows) ≡ true
refusal_put shard a [] this = or_first (is_some (st.cause_in (shard, a))) false this
refusal_put shard a (row ∷ rows) this =
    refuses_put shard a row rows (nat_cmp shard row.0) this (refusal_put shard a rows this)

-- one of another shard stays
stays_put : (shard : ℕ) (a : Answer) (row : ℕ × Answer) (rows : List (ℕ × Answer)) (o : Ordering)
    → nat_cmp shard row.0 ≡ o → nat_eq row.0 shard ≡ false → has_refusal (row ∷ rows) ≡ true
    → (has_refusal rows ≡ true → has_refusal (put nat_cmp shard a rows) ≡ true)
    → has_refusal (elim o [
      | Less ↦ (shard, a) ∷ row ∷ rows
      | Equal ↦ (shard, a) ∷ rows
      | Greater ↦ row ∷ put nat_cmp shard a rows
    ]) ≡ true
stays_put shard a row rows Less c apart h more =
    or_second (is_some (st.cause_in (shard, a))) (has_refusal (row ∷ rows)) h
stays_put shard a row rows Equal c apart h more =
    let same : shard ≡ row.0 = exact_unsigned shard row.0 c in
    absurd (clash (nat_eq row.0 shard) (eq-eqb row.0 shard (sym same)) apart)
stays_put shard a row rows Greater c apart h more = stays_behind (is_some (st.cause_in row))
    (has_refusal rows) (has_refusal (put nat_cmp shard a rows)) h more
  where
    stays_behind : (a b c : Bool) → (a || b) ≡ true → (b ≡ true → c ≡ true) → (a || c) ≡ true
    stays_behind true b c h k = refl
    stays_behind false b c h k = k h

refusal_stays : (shard : ℕ) (a : Answer) (rows : List (ℕ × Answer))
    → All (λ (row : ℕ × Answer). nat_eq row.0 shard ≡ false) rows → has_refusal rows ≡ true
    → has_refusal (put nat_cmp shard a rows) ≡ true
refusal_stays shard a [] apart h = cc
refusal_stays shard a (row ∷ rows) apart h =
    stays_put shard a row rows (nat_cmp shard row.0) refl
    (All-head (λ (row : ℕ × Answer). nat_eq row.0 shard ≡ false) row rows apart) h
    (refusal_stays shard a rows
    (All-tail (λ (row : ℕ × Answer). nat_eq row.0 shard ≡ false) row rows apart))

unwaited_case : (shard other : ℕ) (post : Post) (rest : List Post) (test : Bool)
    → is_waited other rest ≡ false → (not test ≡ true → nat_eq post.0 other ≡ false)
    → is_waited other (cond (not test) (post ∷ rest) rest) ≡ false
unwaited_case shard other post rest true h k = h
unwaited_case shard other post rest false h k =
    or_false (nat_eq post.0 other) (is_waited other rest) (k refl) h

not_true : (b : Bool) → not b ≡ true → b ≡ false
not_true true e = cc
not_true false e = refl

-- a shard that was taken out isn't waited for, and none comes to be
unwaited_self : (shard : ℕ) (posts : List Post) → is_waited shard (without shard posts) ≡ false
unwaited_self shard [] = refl
unwaited_self shard (post ∷ posts) = unwaited_case shard shard post (without shard posts)
    (nat_eq post.0 shard) (unwaited_self shard posts) (not_true (nat_eq post.0 shard))

unwaited_more : (other shard : ℕ) (posts : List Post) → is_waited other posts ≡ false
    → is_waited other (without shard posts) ≡ false
unwaited_more other shard [] h = refl
unwaited_more other shard (post ∷ posts) h =
    let k = or_neither (nat_eq post.0 other) (is_waited other posts) h in
    unwaited_case shard other post (without shard posts) (nat_eq post.0 shard)
    (unwaited_more other shard posts k.1) (λ e. k.0)

apart_case : (shard other : ℕ) (waiting : List Post) (test : Bool) → nat_eq other shard ≡ test
    → is_waited shard waiting ≡ true → is_waited other waiting ≡ false → nat_eq other shard ≡ false
apart_case shard other waiting true e h k = absurd (clash (is_waited shard waiting) h
    (subst (λ (n : ℕ). is_waited n waiting ≡ false) (eqb-true other shard e) k))
apart_case shard other waiting false e h k = e

-- after the answer of a shard that was waited for
next_known : (B : ℕ → ℕ → Named → Type 0) (x : Named) (a : Answer) (o : Result (OpReply × Bool)
    Cause) (parts : List (ℕ × ℕ)) (waiting : List Post) (answers : List (ℕ × Answer))
    → IfOk o (λ done. B a.shard a.boot x)
    → is_waited a.shard waiting ≡ true → (PartsKnown B x parts ⊎ (has_refusal answers ≡ true))
    × AreTaken waiting answers
    → PartsKnown B x (put nat_cmp a.shard a.boot parts)
    ⊎ (has_refusal (put nat_cmp a.shard (record a { outcome = o }) answers) ≡ true)
next_known B x a (Ok done) parts waiting answers this w (inl h, k) =
    inl (put_all nat_cmp (Part B x) a.shard a.boot parts this h)
next_known B x a (Ok done) parts waiting answers this w (inr h, k) =
    inr (refusal_stays a.shard (record a { outcome = Ok done }) answers
    (All-weaker (λ (row : ℕ × Answer). is_waited row.0 waiting ≡ false)
    (λ (row : ℕ × Answer). nat_eq row.0 a.shard ≡ false) (λ row taken.
    apart_case a.shard row.0 waiting (nat_eq row.0 a.shard) refl w taken) answers k) h)
next_known B x a (Err why) parts waiting answers this w h =
    inr (refusal_put a.shard (record a { outcome = Err why }) answers refl)

taken_more : (a : Answer) (waiting : List Post) (answers : List (ℕ × Answer))
    → AreTaken waiting answers → AreTaken (without a.shard waiting) (put nat_cmp a.shard a answers)
taken_more a waiting answers k =
    put_all nat_cmp (λ (row : ℕ × Answer). is_waited row.0 (without a.shard waiting) ≡ false)
    a.shard a answers (unwaited_self a.shard waiting)
    (All-weaker (λ (row : ℕ × Answer). is_waited row.0 waiting ≡ false)
    (λ (row : ℕ × Answer). is_waited row.0 (without a.shard waiting) ≡ false)
    (λ row taken. unwaited_more row.0 a.shard waiting taken) answers k)

answer_phase : (B : ℕ → ℕ → Named → Type 0) → Zero B
    → (lsid : Lsid) (number : ℤ) (a : Answer) (t : Transaction) (p : Phase)
    → IfOk a.outcome (λ done. B a.shard a.boot (N lsid number t))
    → is_waited a.shard t.waiting ≡ true
    → TransactionKnown B (N lsid number t) (record t { phase = p })
    → DeedKnown B lsid (st.answer_to lsid number a (record t { phase = p }))
answer_phase B z lsid number a t (Asking asker op answers) this w h =
    let next =
    next_known B (N lsid number t) a a.outcome t.parts t.waiting answers this w h.parts in
    taken_by_known B z lsid number asker op (put nat_cmp a.shard a answers) (st.with_answer asker op
    answers a (record t { phase = Asking asker op answers })) (without a.shard t.waiting)
    (record {
      parts = (next, taken_more a t.waiting answers h.parts.1);
      waiting = without_known B a.shard t.waiting h.waiting;
    }) next
answer_phase B z lsid number a t Idle this w h = rests B lsid number (record t { phase = Idle }) h
answer_phase B z lsid number a t (Checking asker) this w h =
    rests B lsid number (record t { phase = Checking asker }) h
answer_phase B z lsid number a t (Deciding asker) this w h =
    rests B lsid number (record t { phase = Deciding asker }) h
answer_phase B z lsid number a t Committed this w h =
    rests B lsid number (record t { phase = Committed }) h
answer_phase B z lsid number a t Released this w h =
    rests B lsid number (record t { phase = Released }) h
answer_phase B z lsid number a t (Aborted sent) this w h =
    rests B lsid number (record t { phase = Aborted sent }) h

both_true : (a b : Bool) → (a && b) ≡ true → (a ≡ true) × (b ≡ true)
both_true true b e = (refl, e)
both_true false b e = cc

-- an answer of a transaction that is known by its name tells its boot
abbrev pub Fits : (ℕ → ℕ → Named → Type 0) → (Named → Type 0) → Answer → Type 0
Fits B Only a = (x : Named) → Only x → x.tag ≡ a.tag → IfOk a.outcome (λ done. B a.shard a.boot x)

answer_case : (B : ℕ → ℕ → Named → Type 0) → Zero B
    → (lsid : Lsid) (number : ℤ) (a : Answer) (t : Transaction) (test : Bool)
    → (same_tag t.tag a.tag && nat_eq a.k t.k && is_waited a.shard t.waiting) ≡ test
    → (t.tag ≡ a.tag → IfOk a.outcome (λ done. B a.shard a.boot (N lsid number t)))
    → TransactionKnown B (N lsid number t) t
    → DeedKnown B lsid (if test then st.answer_to lsid number a t else in_session number t nothing)
answer_case B z lsid number a t true e this h =
    let k = both_true (same_tag t.tag a.tag && nat_eq a.k t.k) (is_waited a.shard t.waiting) e in
    let w = both_true (same_tag t.tag a.tag) (nat_eq a.k t.k) k.0 in
    answer_phase B z lsid number a t t.phase (this (tag_same t.tag a.tag w.0)) k.1 h
answer_case B z lsid number a t false e this h = rests B lsid number t h

on_answer_known : (B : ℕ → ℕ → Named → Type 0) → Zero B
    → (lsid : Lsid) (number : ℤ) (a : Answer) (t : Transaction)
    → (t.tag ≡ a.tag → IfOk a.outcome (λ done. B a.shard a.boot (N lsid number t)))
    → TransactionKnown B (N lsid number t) t
    → DeedKnown B lsid (st.on_answer lsid number a t)
on_answer_known B z lsid number a t this h = answer_case B z lsid number a t (same_tag t.tag a.tag
    && nat_eq a.k t.k && is_waited a.shard t.waiting) refl this h

-- In each session.

abbrev EntryKnown : (ℕ → ℕ → Named → Type 0) → Lsid × Session → Type 0
EntryKnown B entry = DoingKnown B entry.0 entry.1.number entry.1.doing

each_session_known : (B : ℕ → ℕ → Named → Type 0) (Only : Named → Type 0) (act : Lsid
    → Session → Deed) → ((lsid : Lsid) (s : Session) → DoingKnown B lsid s.number s.doing
    → DoingNames Only lsid s.number s.doing → DeedKnown B lsid (act lsid s))
    → (sessions : BySession Session) → All (EntryKnown B) sessions
    → All (EntryNames Only) sessions → All (EntryKnown B) (each_session act sessions).0
    × GivenKnown B (each_session act sessions).1
each_session_known B Only act h [] k n = (k, no_given B)
each_session_known B Only act h (entry ∷ entries) k n =
    let d = h entry.0 entry.1 (All-head (EntryKnown B) entry entries k) (All-head (EntryNames Only)
    entry entries n) in
    let more = each_session_known B Only act h entries (All-tail (EntryKnown B) entry entries k)
    (All-tail (EntryNames Only) entry entries n) in (
      All-cons (EntryKnown B) (entry.0, (act entry.0 entry.1).session) (each_session act entries).0
          d.doing more.0,
      both_known B (act entry.0 entry.1).given (each_session act entries).1 d.given more.1,
    )

in_each_known : (B : ℕ → ℕ → Named → Type 0) (Only : Named → Type 0) (act : Lsid → Session → Deed)
    → ((lsid : Lsid) (s : Session) → DoingKnown B lsid s.number s.doing
    → DoingNames Only lsid s.number s.doing → DeedKnown B lsid (act lsid s))
    → (s : RouterState) → RouterKnown B s → RouterNames Only s → MoveKnown B (in_each_session act s)
in_each_known B Only act h s k n = let e = each_session_known B Only act h s.sessions k n in
    record { state = e.0; given = e.1 }

done_known : (B : ℕ → ℕ → Named → Type 0) (s : RouterState) (lsid : Lsid) (d : Deed)
    → RouterKnown B s → DeedKnown B lsid d → MoveKnown B (done_in s lsid d)
done_known B s lsid d h k = record {
  state = entries_put (EntryKnown B) lsid d.session s.sessions k.doing h;
  given = k.given;
}

-- Outcomes.

checked_known : (B : ℕ → ℕ → Named → Type 0) → Zero B
    → (lsid : Lsid) (number : ℤ) (asker : Option Asker) (o : Outcome) (t : Transaction) (x : Told)
    → Says B t.phase → PartsKnown B (N lsid number t) t.parts → PostsKnown B t.waiting
    → DeedKnown B lsid (co.checked lsid number asker (record o { told = x }) t)
checked_known B z lsid number asker o t told_as.Released q h w = released_known B z lsid number
    asker t (without o.shard t.waiting) q h (without_known B o.shard t.waiting w)
checked_known B z lsid number asker o t (told_as.Committed at) q h w =
    finished_known B lsid number asker Committed t (λ x parts waiting k. k) h
checked_known B z lsid number asker o t (told_as.Aborted cause) q h w =
    fails_known B lsid number asker (record o { told = told_as.Aborted cause }) t
checked_known B z lsid number asker o t (told_as.TooOld have) q h w =
    fails_known B lsid number asker (record o { told = told_as.TooOld have }) t
checked_known B z lsid number asker o t told_as.NoTrace q h w =
    fails_known B lsid number asker (record o { told = told_as.NoTrace }) t

decided_known : (B : ℕ → ℕ → Named → Type 0) (lsid : Lsid) (number : ℤ) (asker : Option Asker)
    (o : Outcome) (t : Transaction) (x : Told) → PartsKnown B (N lsid number t) t.parts
    → DeedKnown B lsid (co.decided lsid number asker (record o { told = x }) t)
decided_known B lsid number asker o t told_as.Released h =
    finished_known B lsid number asker Committed t (λ x parts waiting k. k) h
decided_known B lsid number asker o t (told_as.Committed at) h =
    finished_known B lsid number asker Committed t (λ x parts waiting k. k) h
decided_known B lsid number asker o t (told_as.Aborted cause) h = record {
  doing = record { parts = tt; waiting = none B };
  given = record { aborts = none B; sends = none B };
}
decided_known B lsid number asker o t (told_as.TooOld have) h = record {
  doing = record { parts = h; waiting = none B };
  given = record { aborts = none B; sends = none B };
}
decided_known B lsid number asker o t told_as.NoTrace h = record {
  doing = record { parts = h; waiting = none B };
  given = record { aborts = none B; sends = none B };
}

counted_phase : (B : ℕ → ℕ → Named → Type 0) → Zero B
    → (lsid : Lsid) (number : ℤ) (o : Outcome) (t : Transaction) (p : Phase)
    → TransactionKnown B (N lsid number t) (record t { phase = p })
    → DeedKnown B lsid (co.counted lsid number o (record t { phase = p }))
counted_phase B z lsid number o t (Checking asker) h = checked_known B z lsid number asker o
    (record t { phase = Checking asker }) o.told (λ x parts waiting k. k) h.parts h.waiting
counted_phase B z lsid number o t (Deciding asker) h =
    decided_known B lsid number asker o (record t { phase = Deciding asker }) o.told h.parts
counted_phase B z lsid number o t Idle h = rests B lsid number (record t { phase = Idle }) h
counted_phase B z lsid number o t (Asking asker op answers) h =
    rests B lsid number (record t { phase = Asking asker op answers }) h
counted_phase B z lsid number o t Committed h =
    rests B lsid number (record t { phase = Committed }) h
counted_phase B z lsid number o t Released h = rests B lsid number (record t { phase = Released }) h
counted_phase B z lsid number o t (Aborted sent) h =
    rests B lsid number (record t { phase = Aborted sent }) h

on_outcome_known : (B : ℕ → ℕ → Named → Type 0) → Zero B
    → (lsid : Lsid) (number : ℤ) (o : Outcome) (t : Transaction)
    → TransactionKnown B (N lsid number t) t → DeedKnown B lsid (co.on_outcome lsid number o t)
on_outcome_known B z lsid number o t h =
    either (same_tag t.tag o.tag && is_waited o.shard t.waiting) (DeedKnown B lsid) _ _
    (counted_phase B z lsid number o t t.phase h) (rests B lsid number t h)

-- Tokens.

anew_known : (B : ℕ → ℕ → Named → Type 0) (lsid : Lsid) (number : ℤ) (k : Seeking)
    (known : List Tag) → DeedKnown B lsid (tk.asks_anew lsid number k known)
anew_known B lsid number k known = record {
  doing = tt;
  given = record { aborts = none B; sends = one (PostKnown B) (tk.recover_to lsid number k) tt };
}

asks_for_known : (B : ℕ → ℕ → Named → Type 0) (lsid : Lsid) (number : ℤ) (k : Seeking) (older :
    Option Seeking) (known : List Tag) → DeedKnown B lsid (tk.asks_for lsid number k older known)
asks_for_known B lsid number k None known = anew_known B lsid number k known
asks_for_known B lsid number k (Some older) known = either (tk.same_place older k) (DeedKnown B
    lsid) _ _ (record { doing = tt; given = no_given B }) (anew_known B lsid number k known)

seeks_in_known : (B : ℕ → ℕ → Named → Type 0) (lsid : Lsid) (number : ℤ)
    (asker : Asker) (k : Seeking) (seeking : Option Seeking) (known : List Tag)
    → DeedKnown B lsid (tk.seeks_in lsid number asker k seeking known)
seeks_in_known B lsid number asker k seeking known =
    either (tk.is_known k.tag known) (DeedKnown B lsid) _ _
    (record { doing = tt; given = record { aborts = none B; sends = none B } })
    (asks_for_known B lsid number k seeking known)

left_given : (B : ℕ → ℕ → Named → Type 0) (lsid : Lsid) (number own : ℤ) (k : Seeking) (doing :
    Doing) → GivenKnown B (both (aborting (en.leaves lsid (record { number = own; doing = doing })))
    (tk.asks_anew lsid number k []).given)
left_given B lsid number own k doing =
    both_known B (aborting (en.leaves lsid (record { number = own; doing = doing }))) (tk.asks_anew
    lsid number k []).given (record { aborts = leaves_known B lsid own doing; sends = none B })
    (anew_known B lsid number k []).given

seeks_doing : (B : ℕ → ℕ → Named → Type 0) (lsid : Lsid) (number own : ℤ) (asker : Asker)
    (k : Seeking) (doing : Doing) → DoingKnown B lsid own doing → DeedKnown B lsid (tk.seeks_by lsid
    number asker k (Some (record { number = own; doing = doing })))
seeks_doing B lsid number own asker k (Begun t) h =
    either (int_lt own number) (DeedKnown B lsid) _ _
    (record { doing = tt; given = left_given B lsid number own k (Begun t) })
    (record { doing = h; given = no_given B })
seeks_doing B lsid number own asker k (Sought seeking known) h =
    either (int_lt own number) (DeedKnown B lsid) _ _
    (record { doing = tt; given = left_given B lsid number own k (Sought seeking known) })
    (seeks_in_known B lsid number asker k seeking known)

abbrev SomeKnown : (ℕ → ℕ → Named → Type 0) → Lsid → Option Session → Type 0
SomeKnown B lsid s = IfSome s (λ (s : Session). DoingKnown B lsid s.number s.doing)

seeks_by_known : (B : ℕ → ℕ → Named
    → Type 0) (lsid : Lsid) (number : ℤ) (asker : Asker) (k : Seeking) (s : Option Session)
    → SomeKnown B lsid s → DeedKnown B lsid (tk.seeks_by lsid number asker k s)
seeks_by_known B lsid number asker k None h = anew_known B lsid number k []
seeks_by_known B lsid number asker k (Some s) h =
    seeks_doing B lsid number s.number asker k s.doing h

recovered_known : (B : ℕ → ℕ → Named → Type 0) (lsid : Lsid) (number : ℤ) (seeking : Option Seeking)
    (known : List Tag) (o : Outcome) → DeedKnown B lsid (tk.on_recovered number seeking known o)
recovered_known B lsid number None known o = record { doing = tt; given = no_given B }
recovered_known B lsid number (Some k) known o =
    either (same_tag k.tag o.tag && nat_eq k.shard o.shard) (DeedKnown B lsid) _ _
    (record { doing = tt; given = record { aborts = none B; sends = none B } })
    (record { doing = tt; given = no_given B })

-- Ends that clients ask for, and those of sessions and connections.

client_given : (B : ℕ → ℕ → Named → Type 0) (lsid : Lsid) (number : ℤ) (t : Transaction)
    → PostsKnown B (en.aborts lsid number 1 t ++ [])
client_given B lsid number t = All-append (PostKnown B) (en.aborts lsid number 1 t) []
    (aborts_known B lsid number 1 t) (none B)

client_phase : (B : ℕ → ℕ → Named → Type 0) (lsid : Lsid) (number : ℤ) (asker : Asker)
    (t : Transaction) (p : Phase) → TransactionKnown B (N lsid number t) (record t { phase = p })
    → DeedKnown B lsid (en.client_aborts lsid number asker (record t { phase = p }))
client_phase B lsid number asker t (Aborted sent) h =
    record { doing = h; given = record { aborts = none B; sends = none B } }
client_phase B lsid number asker t Idle h = record {
  doing = record { parts = tt; waiting = none B };
  given = record { aborts = client_given B lsid number t; sends = none B };
}
client_phase B lsid number asker t (Asking other op answers) h = record {
  doing = record { parts = tt; waiting = none B };
  given = record { aborts = client_given B lsid number t; sends = none B };
}
client_phase B lsid number asker t (Checking other) h = record {
  doing = record { parts = tt; waiting = none B };
  given = record { aborts = client_given B lsid number t; sends = none B };
}
client_phase B lsid number asker t (Deciding other) h = record {
  doing = record { parts = tt; waiting = none B };
  given = record { aborts = client_given B lsid number t; sends = none B };
}
client_phase B lsid number asker t Committed h = record {
  doing = record { parts = tt; waiting = none B };
  given = record { aborts = client_given B lsid number t; sends = none B };
}
client_phase B lsid number asker t Released h = record {
  doing = record { parts = tt; waiting = none B };
  given = record { aborts = client_given B lsid number t; sends = none B };
}

gone_phase : (B : ℕ → ℕ → Named → Type 0) (conn : ℕ) (lsid : Lsid) (number : ℤ) (t : Transaction)
    (p : Phase) → TransactionKnown B (N lsid number t) (record t { phase = p })
    → DeedKnown B lsid (en.gone_asking conn lsid
    (record { number = number; doing = Begun (record t { phase = p }) })
    (record t { phase = p }))
gone_phase B conn lsid number t (Asking asker op answers) h =
    ends_known B lsid number 4 (record t { phase = Asking asker op answers })
gone_phase B conn lsid number t (Checking asker) h =
    record { doing = record { parts = h.parts; waiting = h.waiting }; given = no_given B }
gone_phase B conn lsid number t (Deciding asker) h =
    record { doing = record { parts = h.parts; waiting = h.waiting }; given = no_given B }
gone_phase B conn lsid number t Idle h = record { doing = h; given = no_given B }
gone_phase B conn lsid number t Committed h = record { doing = h; given = no_given B }
gone_phase B conn lsid number t Released h = record { doing = h; given = no_given B }
gone_phase B conn lsid number t (Aborted sent) h = record { doing = h; given = no_given B }

gone_doing : (B : ℕ → ℕ → Named → Type 0) (conn : ℕ) (lsid : Lsid) (number : ℤ) (doing : Doing)
    → DoingKnown B lsid number doing
    → DeedKnown B lsid (en.gone_in conn lsid (record { number = number; doing = doing }))
gone_doing B conn lsid number (Begun t) h = gone_phase B conn lsid number t t.phase h
gone_doing B conn lsid number (Sought seeking known) h = record { doing = tt; given = no_given B }

gone_known : (B : ℕ → ℕ → Named → Type 0) (Only : Named → Type 0) (conn : ℕ) (s : RouterState)
    → RouterKnown B s → RouterNames Only s → MoveKnown B (en.gone s conn)
gone_known B Only conn s h n =
    in_each_known B Only (en.gone_from conn)
    (λ lsid s k names. either (is_from conn (asker_of s.doing)) (DeedKnown B lsid) _ _ (gone_doing B
    conn lsid s.number s.doing k) (record { doing = k; given = no_given B })) s h n

session_phase : (B : ℕ → ℕ → Named → Type 0) (lsid : Lsid) (number : ℤ) (doing : Doing)
    → DoingKnown B lsid number doing
    → DeedKnown B lsid (en.ends_session lsid (record { number = number; doing = doing }))
session_phase B lsid number (Begun t) h =
    either (is_none (asker_of (Begun t)) && not (commit_sent t.phase)) (DeedKnown B lsid) _ _
    (ends_known B lsid number 2 t) (record { doing = h; given = no_given B })
session_phase B lsid number (Sought seeking known) h = record { doing = tt; given = no_given B }

-- A session of a router.

some_known : (B : ℕ → ℕ → Named → Type 0) (r : RouterState) (lsid : Lsid) (s : Option Session)
    → session_of r lsid ≡ s → RouterKnown B r → SomeKnown B lsid s
some_known B r lsid None e h = tt
some_known B r lsid (Some s) e h = entry_named (EntryKnown B) lsid r.sessions h s e

session_known : (B : ℕ → ℕ → Named → Type 0) (r : RouterState) (lsid : Lsid) → RouterKnown B r
    → SomeKnown B lsid (session_of r lsid)
session_known B r lsid h = some_known B r lsid (session_of r lsid) refl h

abbrev BegunKnown : (ℕ → ℕ → Named → Type 0) → Lsid → ℤ → Option Transaction → Type 0
BegunKnown B lsid number t = IfSome t (λ (t : Transaction). TransactionKnown B (N lsid number t) t)

number_is : (a b : ℤ) → int_eq a b ≡ true → a ≡ b
number_is a b e = (Decides-int_eq a b).0 e

begun_case : (B : ℕ → ℕ → Named → Type 0) (lsid : Lsid) (own number : ℤ) (t : Transaction)
    (test : Bool) → int_eq own number ≡ test → TransactionKnown B (N lsid own t) t
    → BegunKnown B lsid number (if test then Some t else None)
begun_case B lsid own number t true e h =
    subst (λ (n : ℤ). TransactionKnown B (N lsid n t) t) (number_is own number e) h
begun_case B lsid own number t false e h = tt

begun_doing : (B : ℕ → ℕ → Named → Type 0) (lsid : Lsid) (own number : ℤ) (doing : Doing)
    → DoingKnown B lsid own doing
    → BegunKnown B lsid number (begun_in (Some (record { number = own; doing = doing })) number)
begun_doing B lsid own number (Begun t) h =
    begun_case B lsid own number t (int_eq own number) refl h
begun_doing B lsid own number (Sought seeking known) h =
    either (int_eq own number) (BegunKnown B lsid number) None None tt tt

begun_known : (B : ℕ → ℕ → Named → Type 0) (lsid : Lsid) (s : Option Session) (number : ℤ)
    → SomeKnown B lsid s → BegunKnown B lsid number (begun_in s number)
begun_known B lsid None number h = tt
begun_known B lsid (Some s) number h = begun_doing B lsid s.number number s.doing h

own_known : (B : ℕ → ℕ → Named → Type 0) (r : RouterState) (lsid : Lsid) (number : ℤ)
    → RouterKnown B r → BegunKnown B lsid number (begun_in (session_of r lsid) number)
own_known B r lsid number h =
    begun_known B lsid (session_of r lsid) number (session_known B r lsid h)

still_known : (B : ℕ → ℕ → Named → Type 0) (r : RouterState) → RouterKnown B r
    → MoveKnown B (still r)
still_known B r h = record { state = h; given = no_given B }

end_known : (B : ℕ → ℕ → Named → Type 0) (r : RouterState) (lsid : Lsid) (s : Option Session)
    → SomeKnown B lsid s → RouterKnown B r → MoveKnown B (en.end_session r lsid s)
end_known B r lsid None k h = still_known B r h
end_known B r lsid (Some s) k h =
    done_known B r lsid (en.ends_session lsid s) h (session_phase B lsid s.number s.doing k)

end_all_known : (B : ℕ → ℕ → Named → Type 0) (lsids : List Lsid) (r : RouterState) → RouterKnown B r
    → MoveKnown B (en.end_sessions r lsids)
end_all_known B [] r h = still_known B r h
end_all_known B (lsid ∷ lsids) r h =
    let first = end_known B r lsid (session_of r lsid) (session_known B r lsid h) h in
    let next = (en.end_session r lsid (session_of r lsid)).state in
    let more = end_all_known B lsids next first.state in
    record {
      state = more.state;
      given = both_known B (en.end_session r lsid (session_of r lsid)).given (en.end_sessions next
          lsids).given first.given more.given;
    }

-- A statement is served where its transaction asks nothing else.

rest_none : {A : Type 0} (x : Option A) (xs : List (Option A)) → first_some (x ∷ xs) ≡ None
    → first_some xs ≡ None
rest_none None xs e = e
rest_none (Some a) xs e = cc

this_none : {A : Type 0} (x : Option A) (xs : List (Option A))
    → first_some (x ∷ xs) ≡ None → x ≡ None
this_none None xs e = refl
this_none (Some a) xs e = cc

-- not busy, not after its commit, and not known as aborted
record Serves (s : Option Session) (conn : ℕ) (number : ℤ) : Type 0 where
  busy : busy s conn ≡ None
  sent : after_commit s number ≡ None
  aborted : known_aborted s number ≡ None

serves_of : (r : RouterState) (conn : ℕ) (s : Option Session) (txn : Txn) (op : Op)
    → statement_refusal r conn s txn op ≡ None → Serves s conn txn.number
unfolding statement_refusal
serves_of r conn s txn op e =
    let a = rest_none (too_old s txn.number) _ e in
    let b = rest_none (busy s conn) _ a in
    let c = rest_none (started s txn) _ b in
    let d = rest_none (no_transaction s txn.number txn.start false) _ c in
    let f = rest_none (after_commit s txn.number) _ d in
    let g = rest_none (too_long s txn.number) _ f in
    let h = rest_none (too_many r s) _ g in
    let i = rest_none (spent r s txn.number) _ h in
    let j = rest_none (many_shards r.chunks op) _ i in
    record {
      busy = this_none (busy s conn) _ a;
      sent = this_none (after_commit s txn.number) _ d;
      aborted = this_none (known_aborted s txn.number) [] j;
    }

not_where : (b : Bool) (why : Refusal) → where_so b why ≡ None → b ≡ false
not_where true why e = cc
not_where false why e = refl

-- the session's request isn't of this connection
quiet_entry : (conn : ℕ) (entries : BySession Session)
    → list_any (λ (entry : Lsid × Session). is_from conn (asker_of entry.1.doing)) entries ≡ false
    → All (λ (entry : Lsid × Session). is_from conn (asker_of entry.1.doing) ≡ false) entries
quiet_entry conn [] e =
    All-nil (λ (entry : Lsid × Session). is_from conn (asker_of entry.1.doing) ≡ false)
quiet_entry conn (entry ∷ entries) e =
    let k = or_neither (is_from conn (asker_of entry.1.doing))
    (list_any (λ (entry : Lsid × Session). is_from conn (asker_of entry.1.doing)) entries) e in
    All-cons (λ (entry : Lsid × Session). is_from conn (asker_of entry.1.doing) ≡ false) entry
    entries k.0 (quiet_entry conn entries k.1)

quiet_session : (r : RouterState) (conn : ℕ) (lsid : Lsid) (s : Session)
    → session_of r lsid ≡ Some s → is_waiting r conn ≡ false
    → is_from conn (asker_of s.doing) ≡ false
quiet_session r conn lsid s is e = entry_named (λ (entry : Lsid × Session). is_from conn
    (asker_of entry.1.doing) ≡ false) lsid r.sessions (quiet_entry conn r.sessions e) s is

no_asker : (conn : ℕ) (asker : Option Asker) → is_from conn asker ≡ false
    → is_elsewhere conn asker ≡ false → asker ≡ None
no_asker conn None a b = refl
no_asker conn (Some asker) a b =
    absurd (clash (nat_eq asker.conn conn) (flips (nat_eq asker.conn conn) b) a)
  where
    flips : (b : Bool) → not b ≡ false → b ≡ true
    flips true e = refl
    flips false e = cc

idle_phase : (B : ℕ → ℕ → Named → Type 0) (x : Named) (parts : List (ℕ × ℕ)) (waiting : List Post)
    (p : Phase) → asker_in p ≡ None → is_aborted p ≡ false → PhaseKnown B x parts waiting p
    → PartsKnown B x parts
idle_phase B x parts waiting Idle a b h = h
idle_phase B x parts waiting (Asking asker op answers) a b h = cc
idle_phase B x parts waiting (Checking asker) a b h = h
idle_phase B x parts waiting (Deciding asker) a b h = h
idle_phase B x parts waiting Committed a b h = h
idle_phase B x parts waiting Released a b h = h
idle_phase B x parts waiting (Aborted sent) a b h = cc

abbrev IdleKnown : (ℕ → ℕ → Named → Type 0) → Lsid → ℤ → Option Transaction → Type 0
IdleKnown B lsid number t = IfSome t (λ (t : Transaction). PartsKnown B (N lsid number t) t.parts)

idle_case : (B : ℕ → ℕ → Named → Type 0) (lsid : Lsid) (own number : ℤ) (t : Transaction)
    (test : Bool) → int_eq own number ≡ test → asker_in t.phase ≡ None
    → is_so (λ (t : Transaction). is_aborted t.phase) (if test then Some t else None) ≡ false
    → TransactionKnown B (N lsid own t) t
    → IdleKnown B lsid number (if test then Some t else None)
idle_case B lsid own number t true e a b h =
    subst (λ (n : ℤ). PartsKnown B (N lsid n t) t.parts) (number_is own number e)
    (idle_phase B (N lsid own t) t.parts t.waiting t.phase a b h.parts)
idle_case B lsid own number t false e a b h = tt

idle_doing : (B : ℕ → ℕ → Named → Type 0) (lsid : Lsid) (own number : ℤ) (conn : ℕ) (doing : Doing)
    → is_from conn (asker_of doing) ≡ false
    → Serves (Some (record { number = own; doing = doing })) conn number
    → DoingKnown B lsid own doing
    → IdleKnown B lsid number (begun_in (Some (record { number = own; doing = doing })) number)
idle_doing B lsid own number conn (Begun t) q s h =
    idle_case B lsid own number t (int_eq own number) refl
    (no_asker conn (asker_in t.phase) q
    (not_where (is_elsewhere conn (asker_in t.phase)) refusal.Busy s.busy))
    (not_where (is_so (λ (t : Transaction). is_aborted t.phase)
    (if int_eq own number then Some t else None)) refusal.Aborted s.aborted) h
idle_doing B lsid own number conn (Sought seeking known) q s h =
    either (int_eq own number) (IdleKnown B lsid number) None None tt tt

idle_known : (B : ℕ → ℕ → Named → Type 0) (r : RouterState) (conn : ℕ) (lsid : Lsid) (number : ℤ)
    (s : Option Session) → session_of r lsid ≡ s → is_waiting r conn ≡ false → Serves s conn number
    → SomeKnown B lsid s → IdleKnown B lsid number (begun_in s number)
idle_known B r conn lsid number None is w v h = tt
idle_known B r conn lsid number (Some s) is w v h =
    idle_doing B lsid s.number number conn s.doing (quiet_session r conn lsid s is w) v h

-- Requests.

refused_known : (B : ℕ → ℕ → Named
    → Type 0) (r : RouterState) (asker : Asker) (why : Option Reply) (m : Move) → RouterKnown B r
    → (why ≡ None → MoveKnown B m) → MoveKnown B (rq.unless_refused r asker why m)
refused_known B r asker None m h k = k refl
refused_known B r asker (Some reply) m h k =
    record { state = h; given = record { aborts = none B; sends = none B } }

left_known : (B : ℕ → ℕ → Named → Type 0) (lsid : Lsid) (s : Option Session)
    → PostsKnown B (rq.left_of lsid s)
left_known B lsid None = none B
left_known B lsid (Some s) = leaves_known B lsid s.number s.doing

begins_known : (B : ℕ → ℕ → Named → Type 0) → Zero B → (r : RouterState) (lsid : Lsid)
    (s : Option Session) (number : ℤ) (asker : Asker) (op : Op) (read_at : ℕ) → RouterKnown B r
    → MoveKnown B (rq.begins_at r lsid s number asker op read_at)
begins_known B z r lsid s number asker op read_at h =
    let deed = st.asks r.chunks lsid number asker op (rq.begun_at r read_at) in
    let d = asks_known B z r.chunks lsid number asker op (rq.begun_at r read_at)
    (All-nil (Part B (N lsid number (rq.begun_at r read_at)))) in
    done_known B (rq.drawn r read_at) lsid
    (record { session = deed.session; given = both (aborting (rq.left_of lsid s)) deed.given })
    h
    (record {
      doing = d.doing;
      given = both_known B (aborting (rq.left_of lsid s)) deed.given
          (record { aborts = left_known B lsid s; sends = none B }) d.given;
    })

states_known : (B : ℕ → ℕ → Named → Type 0) → Zero B
    → (r : RouterState) (lsid : Lsid) (s : Option Session) (number : ℤ) (asker : Asker) (op : Op)
    (at : Option ℕ) (t : Option Transaction) → IdleKnown B lsid number t → RouterKnown B r
    → MoveKnown B (rq.states r lsid s number asker op at t)
states_known B z r lsid s number asker op at None b h =
    begins_known B z r lsid s number asker op _ h
states_known B z r lsid s number asker op at (Some t) b h = done_known B r lsid (st.asks r.chunks
    lsid number asker op t) h (asks_known B z r.chunks lsid number asker op t b)

states_txn : (B : ℕ → ℕ → Named → Type 0) → Zero B
    → (r : RouterState) (asker : Asker) (txn : Txn) (op : Op) (at : Option ℕ)
    → is_waiting r asker.conn ≡ false → RouterKnown B r
    → MoveKnown B (rq.statement_in r asker txn (session_of r txn.lsid) op at)
states_txn B z r asker txn op at w h =
    refused_known B r asker _ _ h (λ none.
    states_known B z r txn.lsid (session_of r txn.lsid) txn.number asker op at
    (begun_in (session_of r txn.lsid) txn.number)
    (idle_known B r asker.conn txn.lsid txn.number (session_of r txn.lsid) refl w (serves_of r
    asker.conn (session_of r txn.lsid) txn op none) (session_known B r txn.lsid h)) h)

statement_known : (B : ℕ → ℕ → Named → Type 0) → Zero B
    → (r : RouterState) (asker : Asker) (txn : Option Txn) (op : Op) (at : Option ℕ)
    → is_waiting r asker.conn ≡ false → RouterKnown B r
    → MoveKnown B (rq.statement r asker txn op at)
statement_known B z r asker None op at w h =
    states_txn B z r asker (rq.by_itself r asker.conn) op at w h
statement_known B z r asker (Some txn) op at w h = states_txn B z r asker txn op at w h

sought_known : (B : ℕ → ℕ → Named
    → Type 0) (r : RouterState) (asker : Asker) (txn : Txn) (s : Option Session) (t : Option Token)
    → SomeKnown B txn.lsid s → RouterKnown B r → MoveKnown B (rq.commit_sought r asker txn s t)
sought_known B r asker txn s (Some (token.Placed tag shard boot)) k h =
    done_known B r txn.lsid (tk.seeks txn.lsid txn.number asker tag shard boot s)
    h (seeks_by_known B txn.lsid txn.number asker
    (record { asker = Some asker; tag = tag; shard = shard; boot = boot }) s k)
sought_known B r asker txn s other k h = still_known B r h

commit_by_known : (B : ℕ → ℕ → Named → Type 0) → Zero B → (r : RouterState) (asker : Asker)
    (txn : Txn) (s : Option Session) (t : Option Token) (own : Option Transaction)
    → SomeKnown B txn.lsid s → BegunKnown B txn.lsid txn.number own → RouterKnown B r
    → MoveKnown B (rq.commit_by r asker txn s t own)
commit_by_known B z r asker txn s t None k b h = sought_known B r asker txn s t k h
commit_by_known B z r asker txn s t (Some own) k b h = done_known B r txn.lsid (co.commit_asked
    txn.lsid txn.number asker own) h (commit_asked_known B z txn.lsid txn.number asker own b)

commit_request_known : (B : ℕ → ℕ → Named → Type 0) → Zero B
    → (r : RouterState) (asker : Asker) (txn : Option Txn) (t : Option Token) → RouterKnown B r
    → MoveKnown B (rq.commit r asker txn t)
commit_request_known B z r asker None t h = still_known B r h
commit_request_known B z r asker (Some txn) t h =
    refused_known B r asker _ _ h (λ none.
    commit_by_known B z r asker txn (session_of r txn.lsid) t (begun_in (session_of r txn.lsid)
    txn.number) (session_known B r txn.lsid h) (own_known B r txn.lsid txn.number h) h)

abort_by_known : (B : ℕ → ℕ → Named → Type 0) (r : RouterState) (asker : Asker) (txn : Txn)
    (own : Option Transaction) → BegunKnown B txn.lsid txn.number own → RouterKnown B r
    → MoveKnown B (rq.abort_by r asker txn own)
abort_by_known B r asker txn None b h = still_known B r h
abort_by_known B r asker txn (Some own) b h = done_known B r txn.lsid (en.client_aborts txn.lsid
    txn.number asker own) h (client_phase B txn.lsid txn.number asker own own.phase b)

abort_known : (B : ℕ → ℕ → Named → Type 0) (r : RouterState) (asker : Asker) (txn : Option Txn)
    → RouterKnown B r → MoveKnown B (rq.abort r asker txn)
abort_known B r asker None h = still_known B r h
abort_known B r asker (Some txn) h = refused_known B r asker _ _ h (λ none.
    abort_by_known B r asker txn _ (own_known B r txn.lsid txn.number h) h)

also_known : (B : ℕ → ℕ → Named → Type 0) (m : Move) (asker : Asker) (legacy : Bool) (r : Reply)
    → MoveKnown B m → MoveKnown B (told_also m asker legacy r)
also_known B m asker legacy r h = record {
  state = h.state;
  given = record {
    aborts = All-append (PostKnown B) m.given.aborts [] h.given.aborts (none B);
    sends = All-append (PostKnown B) m.given.sends [] h.given.sends (none B);
  };
}

serves_known : (B : ℕ → ℕ → Named → Type 0) → Zero B
    → (r : RouterState) (asker : Asker) (legacy : Bool) (x : Request)
    → is_waiting r asker.conn ≡ false → RouterKnown B r → MoveKnown B (rq.serves r asker legacy x)
unfolding rq.serves
serves_known B z r asker legacy (request.Ping more time) w h =
    also_known B _ asker legacy _ (still_known B _ h)
serves_known B z r asker legacy (request.Hello old_name more time) w h =
    also_known B _ asker legacy _ (still_known B _ h)
serves_known B z r asker legacy (request.Statement op txn at after more time) w h =
    statement_known B z _ asker txn op at w h
serves_known B z r asker legacy (request.Commit txn t more time) w h =
    commit_request_known B z _ asker txn t h
serves_known B z r asker legacy (request.Abort txn more time) w h = abort_known B _ asker txn h
serves_known B z r asker legacy (request.EndSessions ids more time) w h =
    also_known B _ asker legacy _ (end_all_known B ids _ h)

served_known : (B : ℕ → ℕ → Named → Type 0) → Zero B
    → (r : RouterState) (conn : ℕ) (bytes : List ℕ) (x : Result Request Unserved)
    → is_waiting r conn ≡ false → RouterKnown B r → MoveKnown B (sp.served r conn bytes x)
served_known B z r conn bytes (Ok asked) w h = serves_known B z r _ _ asked w h
served_known B z r conn bytes (Err (un.Told why)) w h =
    also_known B (still r) _ _ _ (still_known B r h)
served_known B z r conn bytes (Err (un.Closed number)) w h = still_known B r h
served_known B z r conn bytes (Err un.Memory) w h = still_known B r h

silent_known : (B : ℕ → ℕ → Named → Type 0) (test : Bool) (m : Move) → MoveKnown B m
    → MoveKnown B (sp.unless_silent test m)
silent_known B true m h = h
silent_known B false m h =
    record { state = h.state; given = record { aborts = h.given.aborts; sends = h.given.sends } }

client_case : (B : ℕ → ℕ → Named → Type 0) → Zero B
    → (r : RouterState) (conn : ℕ) (bytes : List ℕ) (test : Bool) → is_waiting r conn ≡ test
    → RouterKnown B r
    → MoveKnown B (if test then still r
    else sp.unless_silent (wants_reply bytes) (sp.served r conn bytes (asked_in r.wall bytes)))
client_case B z r conn bytes true e h = still_known B r h
client_case B z r conn bytes false e h =
    silent_known B (wants_reply bytes) _ (served_known B z r conn bytes (asked_in r.wall bytes) e h)

-- Resends.

abbrev Un : (ℕ → ℕ → Named → Type 0) → rs.Unanswered → Type 0
Un B u = PostKnown B u.1

inserted_known : (B : ℕ → ℕ → Named → Type 0) (a : rs.Unanswered) (others : List rs.Unanswered)
    → Un B a → All (Un B) others → All (Un B) (rs.inserted a others)
inserted_known B a [] k h = one (Un B) a k
inserted_known B a (b ∷ others) k h =
    either (is_lt (rs.waiting_cmp a b)) (All (Un B)) _ _ (All-cons (Un B) a (b ∷ others) k h)
    (All-cons (Un B) b (rs.inserted a others) (All-head (Un B) b others h)
    (inserted_known B a others k (All-tail (Un B) b others h)))

order_known : (B : ℕ → ℕ → Named → Type 0) (us : List rs.Unanswered) → All (Un B) us
    → All (Un B) (rs.in_order us)
order_known B [] h = h
order_known B (u ∷ us) h = inserted_known B u (rs.in_order us) (All-head (Un B) u us h)
    (order_known B us (All-tail (Un B) u us h))

sought_un : (B : ℕ → ℕ → Named → Type 0) (lsid : Lsid) (number : ℤ) (k : Option Seeking)
    → All (Un B) (rs.sought_post lsid number k)
sought_un B lsid number None = All-nil (Un B)
sought_un B lsid number (Some k) = one (Un B) (k.tag, tk.recover_to lsid number k) tt

waiting_un : (B : ℕ → ℕ → Named → Type 0) (lsid : Lsid) (number : ℤ) (doing : Doing)
    → DoingKnown B lsid number doing
    → All (Un B) (rs.waiting_in (lsid, record { number = number; doing = doing }))
waiting_un B lsid number (Begun t) h =
    All-map (Un B) (λ (post : Post). (t.tag, post)) t.waiting h.waiting
waiting_un B lsid number (Sought seeking known) h = sought_un B lsid number seeking

all_un : (B : ℕ → ℕ → Named → Type 0) (sessions : BySession Session) → All (EntryKnown B) sessions
    → All (Un B) (flat_map rs.waiting_in sessions)
all_un B [] h = All-nil (Un B)
all_un B (entry ∷ entries) h =
    All-append (Un B) (rs.waiting_in entry) (flat_map rs.waiting_in entries) (waiting_un B entry.0
    entry.1.number entry.1.doing (All-head (EntryKnown B) entry entries h))
    (all_un B entries (All-tail (EntryKnown B) entry entries h))

resent_known : (B : ℕ → ℕ → Named → Type 0) (r : RouterState) → RouterKnown B r
    → PostsKnown B (rs.resent r)
resent_known B r h =
    All-append (PostKnown B) _ (rs.unanswered r.sessions)
    (each (PostKnown B) _ (range_with_len 0 r.chunks.shards) (λ x. tt))
    (All-map (PostKnown B) (λ (a : rs.Unanswered). a.1) (rs.in_order (flat_map rs.waiting_in
    r.sessions)) (order_known B (flat_map rs.waiting_in r.sessions) (all_un B r.sessions h)))

-- The step.

answered_doing : (B : ℕ → ℕ → Named → Type 0) → Zero B
    → (Only : Named → Type 0) (a : Answer) (lsid : Lsid) (number : ℤ) (doing : Doing)
    → Fits B Only a → DoingKnown B lsid number doing → DoingNames Only lsid number doing
    → DeedKnown B lsid (answered_in a lsid (record { number = number; doing = doing }))
answered_doing B z Only a lsid number (Begun t) this h n =
    on_answer_known B z lsid number a t (this (N lsid number t) n.0) h
answered_doing B z Only a lsid number (Sought seeking known) this h n =
    record { doing = tt; given = no_given B }

ended_doing : (B : ℕ → ℕ → Named → Type 0) → Zero B
    → (o : Outcome) (lsid : Lsid) (number : ℤ) (doing : Doing) → DoingKnown B lsid number doing
    → DeedKnown B lsid (ended_in o lsid (record { number = number; doing = doing }))
ended_doing B z o lsid number (Begun t) h = on_outcome_known B z lsid number o t h
ended_doing B z o lsid number (Sought seeking known) h =
    recovered_known B lsid number seeking known o

-- what an event tells a router
abbrev pub FitsAt : (ℕ → ℕ → Named → Type 0) → (Named → Type 0) → Happening → Type 0
FitsAt B Only (what.Deliver e) = ToldKnown (Fits B Only) e.msg
FitsAt B Only other = Unit {0}

delivered_known : (B : ℕ → ℕ → Named → Type 0) → Zero B
    → (Only : Named → Type 0) (r : RouterState) (m : Msg) → ToldKnown (Fits B Only) m
    → RouterKnown B r → RouterNames Only r → MoveKnown B (sp.delivered r m)
delivered_known B z Only r (msg.Answer a) this h n = in_each_known B Only (answered_in a) (λ lsid s
    k names. answered_doing B z Only a lsid s.number s.doing this k names) r h n
delivered_known B z Only r (msg.Outcome o) this h n = in_each_known B Only (ended_in o) (λ lsid s k
    names. ended_doing B z o lsid s.number s.doing k) r h n
delivered_known B z Only r other this h n = still_known B r h

happened_known : (B : ℕ → ℕ → Named → Type 0) → Zero B
    → (Only : Named → Type 0) (r : RouterState) (w : Happening) → FitsAt B Only w → RouterKnown B r
    → RouterNames Only r → MoveKnown B (sp.happened r w)
happened_known B z Only r (what.Client conn bytes) b h n =
    client_case B z r conn bytes (is_waiting r conn) refl h
happened_known B z Only r (what.Gone conn) b h n = gone_known B Only conn r h n
happened_known B z Only r (what.Deliver e) b h n = delivered_known B z Only _ e.msg b h n
happened_known B z Only r what.Resend b h n =
    record { state = h; given = record { aborts = none B; sends = resent_known B r h } }
happened_known B z Only r what.Moment b h n = still_known B r h

pub router_known : (B : ℕ → ℕ → Named → Type 0) → Zero B
    → (Only : Named → Type 0) (A : Answer → Type 0) (want : Bool) (r : RouterState) (e : NodeEvent)
    → FitsAt B Only e.what → RouterKnown B r → RouterNames Only r
    → RouterKnown B (sp.router_step want r e).state
    × All (EnvKnown B A) (given_out (sp.answer_of want (sp.router_step want r e)))
unfolding sp.router_step
router_known B z Only A true r e b h n = (h, All-nil (EnvKnown B A))
router_known B z Only A false r e b h n =
    let m = sp.happened (walled r e.wall) e.what in
    let k = happened_known B z Only (walled r e.wall) e.what b h n in (
      k.state,
      All-map (EnvKnown B A) (sent_by (Router m.state.number) m.state.time)
          (map letter_of (m.given.aborts ++ m.given.sends))
          (All-map (LetterKnown B A) letter_of (m.given.aborts ++ m.given.sends)
          (All-append (PostKnown B) m.given.aborts m.given.sends k.given.aborts k.given.sends)),
    )
