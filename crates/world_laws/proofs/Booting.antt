-- A router's step: the boots in what it has and sends are those that shards told.
use Rattle.std.proofs.Common.{◌≡◌, ℕ, ℤ, Bool, true, false, not, ◌&&◌, All, arith, List, [], ◌∷◌}
use Rattle.std.proofs.Common.{◌++◌, map, length, nat_eq, int_lt, int_eq, is_none, Option, Some}
use Rattle.std.proofs.Common.{None, IfSome, Result, Ok, Err, refl, sym, subst}
use Rattle.std.proofs.lemmas.List.Elements.{All-nil, All-cons, All-head, All-tail, All-append}
use Rattle.std.proofs.lemmas.List.Elements.{All-map, All-filter}
use Rattle.txn_types.specs.BySession.{BySession}
use Rattle.txn_types.specs.Order.{same_tag}
use Rattle.txn_types.specs.declared.cause.Cause.{Cause}
use Rattle.txn_types.specs.declared.decision.Told.{Told}
use Rattle.txn_types.specs.declared.decision.Told.TheVariants as told_as
use Rattle.txn_types.specs.declared.decision.Token.{Token}
use Rattle.txn_types.specs.declared.message.Answer.{Answer}
use Rattle.txn_types.specs.declared.message.Outcome.{Outcome}
use Rattle.txn_types.specs.declared.names.Tag.{Tag}
use Rattle.txn_types.specs.declared.node.Lsid.{Lsid}
use Rattle.txn_types.specs.declared.operation.Op.{Op}
use Rattle.txn_types.specs.declared.operation.OpReply.{OpReply}
use Rattle.std.specs.Ordering.{nat_cmp, is_lt}
use Rattle.std.specs.Prelude.{flat_map}
use Rattle.std.specs.List.{range_with_len}
use Rattle.txn_semantics.specs.Keyed.{put}
use Rattle.txn_types.specs.Letters.{sent_by}
use Rattle.txn_types.specs.declared.event.Happening.{Happening}
use Rattle.txn_types.specs.declared.event.Happening.TheVariants as what
use Rattle.txn_types.specs.declared.event.NodeEvent.{NodeEvent}
use Rattle.txn_types.specs.declared.message.Msg.{Msg}
use Rattle.txn_types.specs.declared.message.Msg.TheVariants as msg
use Rattle.txn_types.specs.declared.node.NodeId.TheVariants.{Router}
use Rattle.txn_types.specs.declared.decision.Token.TheVariants as token
use Rattle.client_cmd.specs.declared.request.Request.{Request}
use Rattle.client_cmd.specs.declared.request.Request.TheVariants as request
use Rattle.client_cmd.specs.declared.request.Txn.{Txn}
use Rattle.client_reply.specs.declared.reply.Reply.{Reply}
use Rattle.chunk_map.specs.Map.{Map}
use Rattle.router_plan.specs.declared.message.Unserved.{Unserved}
use Rattle.router_plan.specs.declared.message.Unserved.TheVariants as un
use Rattle.router_plan.specs.Refusals.{begun_in}
use Rattle.router_state.specs.Shards.{writers, readers}
use Rattle.router_rules.specs.Serving.{answered_in, ended_in}
use Rattle.router_plan.specs.Plans.{told_also}
use Rattle.router_plan.specs.Spelling.{letter_of}
use Rattle.router_core.specs.Requests as rq
use Rattle.router_rules.specs.Resends as rs
use Rattle.router_core.specs.Step as sp
use Rattle.router_rules.specs.Times.{walled}
use Rattle.router_state.specs.State.{is_waiting}
use Rattle.router_plan.specs.Messages.{asked_in}
use Rattle.txn_types.specs.Letters.{given_out}
use Rattle.participant.proofs.Cases.{either}
use Rattle.router_state.specs.declared.state.Asker.{Asker}
use Rattle.router_state.specs.declared.state.Phase.{Phase}
use Rattle.router_state.specs.declared.state.Phase.TheVariants.{Idle, Asking, Checking, Deciding}
use Rattle.router_state.specs.declared.state.Phase.TheVariants.{Committed, Released, Aborted}
use Rattle.router_state.specs.declared.state.Transaction.{Transaction}
use Rattle.router_state.specs.declared.state.Seeking.{Seeking}
use Rattle.router_state.specs.declared.state.Doing.{Doing}
use Rattle.router_state.specs.declared.state.Doing.TheVariants.{Begun, Sought}
use Rattle.router_state.specs.declared.state.Session.{Session}
use Rattle.router_state.specs.State.{Post, RouterState, asker_of, is_from, commit_sent}
use Rattle.router_state.specs.State.{is_unfinished, is_waited, is_own, without, token_of}
use Rattle.router_state.specs.State.{session_of}
use Rattle.router_state.specs.declared.deed.Given.{Given}
use Rattle.router_state.specs.declared.deed.Deed.{Deed}
use Rattle.router_state.specs.Deeds.{nothing, aborting, telling, told, both, in_session, Move}
use Rattle.router_state.specs.Deeds.{still, done_in, each_session}
use Rattle.router_rules.specs.Ends as en
use Rattle.router_rules.specs.Commits as co
use Rattle.router_rules.specs.Statements as st
use Rattle.router_rules.specs.Tokens as tk
use Rattle.world_laws.proofs.Naming.{one, each}
use Rattle.world_laws.proofs.PartTimes.{entries_put, entry_has}
use Rattle.std.specs.Prelude.{cond, find, fold, option_map, unwrap_or}
use Rattle.chunk_map.specs.Parts.{shards_of}
use Rattle.router_state.specs.Shards.{has_written, with_shard}
use Rattle.router_state.specs.State.{boot_of}
use Rattle.router_state.specs.Deeds.{in_each_session}
use Rattle.op_msg.specs.Asking.{wants_reply}
use Rattle.world_laws.specs.Boots.{PartsTold, ToldBoots, LetterBoots, EnvBoots, BootsBy, PostBoots}
use Rattle.world_laws.specs.Boots.{AllBoots, DoingBoots, RouterBoots, GivenBoots, DeedBoots}
use Rattle.world_laws.specs.Boots.{MoveBoots}
use Rattle.world_laws.proofs.Naming.{put_all}

abbrev Part : (ℕ → ℕ → Type 0) → ℕ × ℕ → Type 0
Part B part = B part.0 part.1

-- each shard has boot 0
abbrev pub Zero : (ℕ → ℕ → Type 0) → Type 0
Zero B = (shard : ℕ) → B shard 0

none : (B : ℕ → ℕ → Type 0) → AllBoots B []
none B = All-nil (PostBoots B)

no_given : (B : ℕ → ℕ → Type 0) → GivenBoots B nothing
no_given B = record { aborts = none B; sends = none B }

none_given : (B : ℕ → ℕ → Type 0) (g : Given) → g.aborts ≡ [] → g.sends ≡ [] → GivenBoots B g
none_given B g a b = record {
  aborts = subst (AllBoots B) (sym a) (none B);
  sends = subst (AllBoots B) (sym b) (none B);
}

both_boots : (B : ℕ → ℕ → Type 0) (a b : Given) → GivenBoots B a → GivenBoots B b
    → GivenBoots B (both a b)
both_boots B a b h k = record {
  aborts = All-append (PostBoots B) a.aborts b.aborts h.aborts k.aborts;
  sends = All-append (PostBoots B) a.sends b.sends h.sends k.sends;
}

-- Boots that participants told.

told_first : (B : ℕ → ℕ → Type 0) (shard : ℕ) (part : ℕ × ℕ) (parts : List (ℕ × ℕ)) (test : Bool)
    → nat_eq part.0 shard ≡ test → B part.0 part.1 → B shard (boot_of parts shard)
    → B shard (unwrap_or (option_map (λ (part : ℕ × ℕ). part.1)
    (cond test (Some part) (find (λ (part : ℕ × ℕ). nat_eq part.0 shard) parts))) 0)
told_first B shard part parts true e h more = let is : part.0 ≡ shard = grind (arith, e) in
    subst (λ (n : ℕ). B n part.1) is h
told_first B shard part parts false e h more = more

boot_told : (B : ℕ → ℕ → Type 0) → Zero B → (shard : ℕ) (parts : List (ℕ × ℕ)) → PartsTold B parts
    → B shard (boot_of parts shard)
boot_told B z shard [] h = z shard
boot_told B z shard (part ∷ parts) h = told_first B shard part parts (nat_eq part.0 shard) refl
    (All-head (Part B) part parts h) (boot_told B z shard parts (All-tail (Part B) part parts h))

shards_told : (B : ℕ → ℕ → Type 0) → Zero B → (parts : List (ℕ × ℕ)) (shards : List ℕ)
    → PartsTold B parts → PartsTold B (fold with_shard parts shards)
shards_told B z parts [] h = h
shards_told B z parts (shard ∷ shards) h = shards_told B z (with_shard parts shard) shards
    (put_all nat_cmp (Part B) shard (boot_of parts shard) parts (boot_told B z shard parts h) h)

readers_told : (B : ℕ → ℕ → Type 0) (t : Transaction) → PartsTold B t.parts
    → PartsTold B (readers t)
readers_told B t h = All-filter (λ (part : ℕ × ℕ). not (has_written t part.0)) (Part B) t.parts h

writers_told : (B : ℕ → ℕ → Type 0) → Zero B → (t : Transaction) → PartsTold B t.parts
    → PartsTold B (writers t)
writers_told B z t h = each (Part B) (λ (shard : ℕ). (shard, boot_of t.parts shard)) t.wrote
    (λ shard. boot_told B z shard t.parts h)

-- Ends.

aborts_boots : (B : ℕ → ℕ → Type 0) (lsid : Lsid) (number : ℤ) (why : ℕ) (t : Transaction)
    → AllBoots B (en.aborts lsid number why t)
aborts_boots B lsid number why t =
    each (PostBoots B) (en.abort_to lsid number why t.tag) t.parts (λ x. tt)

without_boots : (B : ℕ → ℕ → Type 0) (shard : ℕ) (posts : List Post) → AllBoots B posts
    → AllBoots B (without shard posts)
without_boots B shard posts h = All-filter (λ post. not (nat_eq post.0 shard)) (PostBoots B) posts h

leaves_doing : (B : ℕ → ℕ → Type 0) (lsid : Lsid) (number : ℤ) (doing : Doing)
    → AllBoots B (en.leaves lsid (record { number = number; doing = doing }))
leaves_doing B lsid number (Begun t) =
    either (is_unfinished t.phase) (AllBoots B) _ _ (aborts_boots B lsid number 6 t) (none B)
leaves_doing B lsid number (Sought seeking known) = none B

ends_boots : (B : ℕ → ℕ → Type 0) (lsid : Lsid) (number : ℤ) (why : ℕ) (t : Transaction)
    → PartsTold B t.parts → DeedBoots B (en.ends lsid number why t)
ends_boots B lsid number why t p = record {
  doing = (p, none B);
  given = record { aborts = aborts_boots B lsid number why t; sends = none B };
}

rests : (B : ℕ → ℕ → Type 0) (number : ℤ) (t : Transaction) → DoingBoots B (Begun t)
    → DeedBoots B (in_session number t nothing)
rests B number t h = record { doing = h; given = no_given B }

-- Commits.

commit_boots : (B : ℕ → ℕ → Type 0) (lsid : Lsid) (number : ℤ) (t : Transaction)
    (parts : List (ℕ × ℕ)) → PartsTold B parts → AllBoots B (map (co.commit_to lsid number t) parts)
commit_boots B lsid number t parts h = All-map (PostBoots B) (co.commit_to lsid number t) parts h

finished_boots : (B : ℕ → ℕ
    → Type 0) (lsid : Lsid) (number : ℤ) (asker : Option Asker) (phase : Phase) (t : Transaction)
    → PartsTold B t.parts → DeedBoots B (co.finished lsid number asker phase t)
finished_boots B lsid number asker phase t p =
    record { doing = (p, none B); given = record { aborts = none B; sends = none B } }

waits_boots : (B : ℕ → ℕ
    → Type 0) (number : ℤ) (phase : Phase) (posts : List Post) (t : Transaction)
    → PartsTold B t.parts → AllBoots B posts → DeedBoots B (co.waits number phase posts t)
waits_boots B number phase posts t p h =
    record { doing = (p, h); given = record { aborts = none B; sends = h } }

decides_by_boots : (B : ℕ → ℕ → Type 0) (lsid : Lsid) (number : ℤ) (asker : Option Asker)
    (t : Transaction) (parts : List (ℕ × ℕ)) → PartsTold B t.parts → PartsTold B (writers t)
    → PartsTold B parts
    → DeedBoots B (co.decides_by lsid number asker t parts)
decides_by_boots B lsid number asker t [] p w h = finished_boots B lsid number asker Released t p
decides_by_boots B lsid number asker t (first ∷ []) p w h = waits_boots B number (Deciding asker) _
    t p (one (PostBoots B) (co.commit_to lsid number t first) (All-head (Part B) first [] h))
decides_by_boots B lsid number asker t (first ∷ second ∷ more) p w h =
    waits_boots B number (Deciding asker) _ t p (one (PostBoots B)
    (co.commit_two_to lsid number t first) (All-head (Part B) first (second ∷ more) h, w))

decides_boots : (B : ℕ → ℕ → Type 0) → Zero B
    → (lsid : Lsid) (number : ℤ) (asker : Option Asker) (t : Transaction) → PartsTold B t.parts
    → DeedBoots B (co.decides lsid number asker t)
decides_boots B z lsid number asker t p = let w = writers_told B z t p in
    decides_by_boots B lsid number asker t (writers t) p w w

commits_by_boots : (B : ℕ → ℕ → Type 0) → Zero B
    → (lsid : Lsid) (number : ℤ) (asker : Option Asker) (t : Transaction) (parts : List (ℕ × ℕ))
    → PartsTold B t.parts → PartsTold B parts
    → DeedBoots B (co.commits_by lsid number asker t parts)
commits_by_boots B z lsid number asker t [] p h = decides_boots B z lsid number asker t p
commits_by_boots B z lsid number asker t (first ∷ more) p h =
    waits_boots B number (Checking asker) _ t p (commit_boots B lsid number t (first ∷ more) h)

commits_boots : (B : ℕ → ℕ → Type 0) → Zero B
    → (lsid : Lsid) (number : ℤ) (asker : Option Asker) (t : Transaction) → PartsTold B t.parts
    → DeedBoots B (co.commits lsid number asker t)
commits_boots B z lsid number asker t p =
    commits_by_boots B z lsid number asker t (readers t) p (readers_told B t p)

listens_boots : (B : ℕ → ℕ → Type 0) → Zero B
    → (lsid : Lsid) (number : ℤ) (asker : Asker) (t : Transaction) → DoingBoots B (Begun t)
    → DeedBoots B (co.listens lsid number asker t)
listens_boots B z lsid number asker t h = either (nat_eq (length t.waiting) 0) (DeedBoots B) _ _
    (decides_boots B z lsid number (Some asker) t h.0) (record { doing = h; given = no_given B })

commit_phase : (B : ℕ → ℕ → Type 0) → Zero B
    → (lsid : Lsid) (number : ℤ) (asker : Asker) (t : Transaction) (p : Phase)
    → DoingBoots B (Begun t)
    → DeedBoots B (co.commit_asked lsid number asker (record t { phase = p }))
commit_phase B z lsid number asker t Idle h =
    commits_boots B z lsid number (Some asker) (record t { phase = Idle }) h.0
commit_phase B z lsid number asker t (Asking other op answers) h =
    record { doing = h; given = no_given B }
commit_phase B z lsid number asker t (Checking other) h = record { doing = h; given = no_given B }
commit_phase B z lsid number asker t (Deciding other) h =
    listens_boots B z lsid number asker (record t { phase = Deciding other }) h
commit_phase B z lsid number asker t Committed h =
    finished_boots B lsid number (Some asker) Committed (record t { phase = Committed }) h.0
commit_phase B z lsid number asker t Released h =
    finished_boots B lsid number (Some asker) Released (record t { phase = Released }) h.0
commit_phase B z lsid number asker t (Aborted sent) h =
    record { doing = h; given = record { aborts = none B; sends = none B } }

commit_asked_boots : (B : ℕ → ℕ → Type 0) → Zero B
    → (lsid : Lsid) (number : ℤ) (asker : Asker) (t : Transaction) → DoingBoots B (Begun t)
    → DeedBoots B (co.commit_asked lsid number asker t)
commit_asked_boots B z lsid number asker t h = commit_phase B z lsid number asker t t.phase h

released_boots : (B : ℕ → ℕ → Type 0) → Zero B
    → (lsid : Lsid) (number : ℤ) (asker : Option Asker) (t : Transaction) (posts : List Post)
    → PartsTold B t.parts → AllBoots B posts → DeedBoots B (co.released lsid number asker t posts)
released_boots B z lsid number asker t [] p h = decides_boots B z lsid number asker t p
released_boots B z lsid number asker t (post ∷ posts) p h =
    record { doing = (p, h); given = no_given B }

fails_boots : (B : ℕ → ℕ → Type 0) (lsid : Lsid) (number : ℤ) (asker : Option Asker) (o : Outcome)
    (t : Transaction) → PartsTold B t.parts → DeedBoots B (co.fails lsid number asker o t)
fails_boots B lsid number asker o t p =
    record {
      doing = (p, none B);
      given = record {
        aborts =
            All-append (PostBoots B) (without o.shard (en.aborts lsid number 5 t)) [] (without_boots
            B o.shard (en.aborts lsid number 5 t) (aborts_boots B lsid number 5 t)) (none B);
        sends = none B;
      };
    }

-- Statements.

statements_boots : (B : ℕ → ℕ → Type 0) → Zero B
    → (chunks : Map) (lsid : Lsid) (number : ℤ) (t : Transaction) (op : Op) → PartsTold B t.parts
    → AllBoots B (st.statements_to chunks lsid number t op)
statements_boots B z chunks lsid number t op p = each (PostBoots B) (st.statement_to chunks lsid
    number t op) _ (λ shard. boot_told B z shard t.parts p)

asks_boots : (B : ℕ → ℕ → Type 0) → Zero B
    → (chunks : Map) (lsid : Lsid) (number : ℤ) (asker : Asker) (op : Op) (t : Transaction)
    → PartsTold B t.parts → DeedBoots B (st.asks chunks lsid number asker op t)
asks_boots B z chunks lsid number asker op t p =
    let s = statements_boots B z chunks lsid number t op p in
    record {
      doing = (shards_told B z t.parts (shards_of chunks op) p, s);
      given = record { aborts = none B; sends = s };
    }

refuses_boots : (B : ℕ → ℕ
    → Type 0) (lsid : Lsid) (number : ℤ) (asker : Asker) (t : Transaction) (refusal : ℕ × Cause)
    → PartsTold B t.parts → DeedBoots B (st.refuses lsid number asker t refusal)
refuses_boots B lsid number asker t refusal p =
    record {
      doing = (p, none B);
      given = record {
        aborts = All-append (PostBoots B) (without refusal.0 (en.aborts lsid number 5 t))
            [] (without_boots B refusal.0 (en.aborts lsid number 5 t)
            (aborts_boots B lsid number 5 t)) (none B);
        sends = none B;
      };
    }

replies_boots : (B : ℕ → ℕ → Type 0) → Zero B
    → (lsid : Lsid) (number : ℤ) (asker : Asker) (op : Op) (t : Transaction) (r : OpReply)
    → DoingBoots B (Begun t) → DeedBoots B (st.replies lsid number asker op t r)
replies_boots B z lsid number asker op t r h =
    either (is_own lsid && not (st.is_cut r)) (DeedBoots B)
    (co.commits lsid number (Some asker) (record t { reply = Some (st.reply_of op r None) }))
    (in_session number t (telling (told asker (st.reply_of op r (Some (token_of t))) ∷ [])))
    (commits_boots B z lsid number (Some asker) (record t { reply = Some (st.reply_of op r None) })
    h.0) (record { doing = h; given = record { aborts = none B; sends = none B } })

concludes_by_boots : (B : ℕ → ℕ → Type 0) → Zero B → (lsid : Lsid) (number : ℤ) (asker : Asker)
    (op : Op) (answers : List (ℕ × Answer)) (t : Transaction) (w : Option (ℕ × Cause))
    → PartsTold B t.parts → DeedBoots B (st.concludes_by lsid number asker op answers t w)
concludes_by_boots B z lsid number asker op answers t None p =
    replies_boots B z lsid number asker op (st.answered_by answers t) _ (p, none B)
concludes_by_boots B z lsid number asker op answers t (Some refusal) p =
    refuses_boots B lsid number asker t refusal p

taken_by_boots : (B : ℕ → ℕ → Type 0) → Zero B → (lsid : Lsid) (number : ℤ) (asker : Asker)
    (op : Op) (answers : List (ℕ × Answer)) (t : Transaction) (posts : List Post)
    → DoingBoots B (Begun t) → DeedBoots B (st.taken_by lsid number asker op answers t posts)
taken_by_boots B z lsid number asker op answers t [] h =
    concludes_by_boots B z lsid number asker op answers t _ h.0
taken_by_boots B z lsid number asker op answers t (post ∷ posts) h = rests B number t h

answer_phase : (B : ℕ → ℕ → Type 0) → Zero B
    → (lsid : Lsid) (number : ℤ) (a : Answer) (t : Transaction) (p : Phase) → B a.shard a.boot
    → DoingBoots B (Begun t) → DeedBoots B (st.answer_to lsid number a (record t { phase = p }))
answer_phase B z lsid number a t (Asking asker op answers) b h =
    taken_by_boots B z lsid number asker op (put nat_cmp a.shard a answers) (st.with_answer asker op
    answers a (record t { phase = Asking asker op answers })) (without a.shard t.waiting)
    (put_all nat_cmp (Part B) a.shard a.boot t.parts b h.0, without_boots B a.shard t.waiting h.1)
answer_phase B z lsid number a t Idle b h = record { doing = h; given = no_given B }
answer_phase B z lsid number a t (Checking asker) b h = record { doing = h; given = no_given B }
answer_phase B z lsid number a t (Deciding asker) b h = record { doing = h; given = no_given B }
answer_phase B z lsid number a t Committed b h = record { doing = h; given = no_given B }
answer_phase B z lsid number a t Released b h = record { doing = h; given = no_given B }
answer_phase B z lsid number a t (Aborted sent) b h = record { doing = h; given = no_given B }

on_answer_boots : (B : ℕ → ℕ → Type 0) → Zero B
    → (lsid : Lsid) (number : ℤ) (a : Answer) (t : Transaction) → B a.shard a.boot
    → DoingBoots B (Begun t) → DeedBoots B (st.on_answer lsid number a t)
on_answer_boots B z lsid number a t b h =
    either (same_tag t.tag a.tag && nat_eq a.k t.k && is_waited a.shard t.waiting) (DeedBoots B) _ _
    (answer_phase B z lsid number a t t.phase b h) (rests B number t h)

-- In each session.

abbrev EntryBoots : (ℕ → ℕ → Type 0) → Lsid × Session → Type 0
EntryBoots B entry = DoingBoots B entry.1.doing

each_boots : (B : ℕ → ℕ → Type 0) (act : Lsid → Session → Deed)
    → ((lsid : Lsid) (s : Session) → DoingBoots B s.doing → DeedBoots B (act lsid s))
    → (sessions : BySession Session) → All (EntryBoots B) sessions
    → All (EntryBoots B) (each_session act sessions).0 × GivenBoots B (each_session act sessions).1
each_boots B act h [] k = (k, no_given B)
each_boots B act h (entry ∷ entries) k =
    let d = h entry.0 entry.1 (All-head (EntryBoots B) entry entries k) in
    let more = each_boots B act h entries (All-tail (EntryBoots B) entry entries k) in (
      All-cons (EntryBoots B) (entry.0, (act entry.0 entry.1).session) (each_session act entries).0
          d.doing more.0,
      both_boots B (act entry.0 entry.1).given (each_session act entries).1 d.given more.1,
    )

in_each_boots : (B : ℕ → ℕ → Type 0) (act : Lsid → Session → Deed)
    → ((lsid : Lsid) (s : Session) → DoingBoots B s.doing → DeedBoots B (act lsid s))
    → (s : RouterState) → RouterBoots B s → MoveBoots B (in_each_session act s)
in_each_boots B act h s k = let e = each_boots B act h s.sessions k in
    record { state = e.0; given = e.1 }

done_boots : (B : ℕ → ℕ → Type 0) (s : RouterState) (lsid : Lsid) (d : Deed) → RouterBoots B s
    → DeedBoots B d → MoveBoots B (done_in s lsid d)
done_boots B s lsid d h k = record {
  state = entries_put (EntryBoots B) lsid d.session s.sessions k.doing h;
  given = k.given;
}

-- Outcomes.

checked_told : (B : ℕ → ℕ → Type 0) → Zero B
    → (lsid : Lsid) (number : ℤ) (asker : Option Asker) (o : Outcome) (t : Transaction) (x : Told)
    → DoingBoots B (Begun t) → DeedBoots B (co.checked lsid number asker (record o { told = x }) t)
checked_told B z lsid number asker o t told_as.Released h = released_boots B z lsid number asker t
    (without o.shard t.waiting) h.0 (without_boots B o.shard t.waiting h.1)
checked_told B z lsid number asker o t (told_as.Committed at) h =
    finished_boots B lsid number asker Committed t h.0
checked_told B z lsid number asker o t (told_as.Aborted cause) h =
    fails_boots B lsid number asker (record o { told = told_as.Aborted cause }) t h.0
checked_told B z lsid number asker o t (told_as.TooOld have) h =
    fails_boots B lsid number asker (record o { told = told_as.TooOld have }) t h.0
checked_told B z lsid number asker o t told_as.NoTrace h =
    fails_boots B lsid number asker (record o { told = told_as.NoTrace }) t h.0

decided_told : (B : ℕ → ℕ → Type 0) (lsid : Lsid) (number : ℤ) (asker : Option Asker)
    (o : Outcome) (t : Transaction) (x : Told) → PartsTold B t.parts
    → DeedBoots B (co.decided lsid number asker (record o { told = x }) t)
decided_told B lsid number asker o t told_as.Released p =
    finished_boots B lsid number asker Committed t p
decided_told B lsid number asker o t (told_as.Committed at) p =
    finished_boots B lsid number asker Committed t p
decided_told B lsid number asker o t (told_as.Aborted cause) p =
    record { doing = (p, none B); given = record { aborts = none B; sends = none B } }
decided_told B lsid number asker o t (told_as.TooOld have) p =
    record { doing = (p, none B); given = record { aborts = none B; sends = none B } }
decided_told B lsid number asker o t told_as.NoTrace p =
    record { doing = (p, none B); given = record { aborts = none B; sends = none B } }

counted_phase : (B : ℕ → ℕ → Type 0) → Zero B
    → (lsid : Lsid) (number : ℤ) (o : Outcome) (t : Transaction) (p : Phase)
    → DoingBoots B (Begun t) → DeedBoots B (co.counted lsid number o (record t { phase = p }))
counted_phase B z lsid number o t (Checking asker) h =
    checked_told B z lsid number asker o (record t { phase = Checking asker }) o.told h
counted_phase B z lsid number o t (Deciding asker) h =
    decided_told B lsid number asker o (record t { phase = Deciding asker }) o.told h.0
counted_phase B z lsid number o t Idle h = record { doing = h; given = no_given B }
counted_phase B z lsid number o t (Asking asker op answers) h =
    record { doing = h; given = no_given B }
counted_phase B z lsid number o t Committed h = record { doing = h; given = no_given B }
counted_phase B z lsid number o t Released h = record { doing = h; given = no_given B }
counted_phase B z lsid number o t (Aborted sent) h = record { doing = h; given = no_given B }

on_outcome_boots : (B : ℕ → ℕ → Type 0) → Zero B
    → (lsid : Lsid) (number : ℤ) (o : Outcome) (t : Transaction) → DoingBoots B (Begun t)
    → DeedBoots B (co.on_outcome lsid number o t)
on_outcome_boots B z lsid number o t h = either (same_tag t.tag o.tag && is_waited o.shard
    t.waiting) (DeedBoots B) _ _ (counted_phase B z lsid number o t t.phase h) (rests B number t h)

-- Tokens.

anew_boots : (B : ℕ → ℕ → Type 0) (lsid : Lsid) (number : ℤ) (k : Seeking) (known : List Tag)
    → DeedBoots B (tk.asks_anew lsid number k known)
anew_boots B lsid number k known = record {
  doing = tt;
  given = record { aborts = none B; sends = one (PostBoots B) (tk.recover_to lsid number k) tt };
}

asks_for_boots : (B : ℕ → ℕ → Type 0) (lsid : Lsid) (number : ℤ) (k : Seeking) (older :
    Option Seeking) (known : List Tag) → DeedBoots B (tk.asks_for lsid number k older known)
asks_for_boots B lsid number k None known = anew_boots B lsid number k known
asks_for_boots B lsid number k (Some older) known = either (tk.same_place older k) (DeedBoots B) _ _
    (record { doing = tt; given = no_given B }) (anew_boots B lsid number k known)

seeks_in_boots : (B : ℕ → ℕ → Type 0) (lsid : Lsid) (number : ℤ)
    (asker : Asker) (k : Seeking) (seeking : Option Seeking) (known : List Tag)
    → DeedBoots B (tk.seeks_in lsid number asker k seeking known)
seeks_in_boots B lsid number asker k seeking known = either (tk.is_known k.tag known)
    (DeedBoots B) _ _ (record { doing = tt; given = record { aborts = none B; sends = none B } })
    (asks_for_boots B lsid number k seeking known)

seeks_doing : (B : ℕ → ℕ → Type 0) (lsid : Lsid) (number own : ℤ)
    (asker : Asker) (k : Seeking) (doing : Doing) → DoingBoots B doing
    → DeedBoots B (tk.seeks_by lsid number asker k (Some (record { number = own; doing = doing })))
seeks_doing B lsid number own asker k (Begun t) h =
    either (int_lt own number) (DeedBoots B) _ _
    (record {
      doing = tt;
      given = both_boots B (aborting (en.leaves lsid (record { number = own; doing = Begun t })))
          (tk.asks_anew lsid number k []).given
          (record { aborts = leaves_doing B lsid own (Begun t); sends = none B }) (anew_boots B lsid
          number k []).given;
    })
    (record { doing = h; given = no_given B })
seeks_doing B lsid number own asker k (Sought seeking known) h =
    either (int_lt own number) (DeedBoots B) _ _
    (record {
      doing = tt;
      given = both_boots B (aborting []) (tk.asks_anew lsid number k []).given
          (record { aborts = none B; sends = none B }) (anew_boots B lsid number k []).given;
    })
    (seeks_in_boots B lsid number asker k seeking known)

seeks_by_boots : (B : ℕ → ℕ → Type 0) (lsid : Lsid) (number : ℤ) (asker : Asker)
    (k : Seeking) (s : Option Session) → IfSome s (λ (s : Session). DoingBoots B s.doing)
    → DeedBoots B (tk.seeks_by lsid number asker k s)
seeks_by_boots B lsid number asker k None h = anew_boots B lsid number k []
seeks_by_boots B lsid number asker k (Some s) h =
    seeks_doing B lsid number s.number asker k s.doing h

recovered_boots : (B : ℕ → ℕ → Type 0) (number : ℤ) (seeking : Option Seeking) (known : List Tag)
    (o : Outcome) → DeedBoots B (tk.on_recovered number seeking known o)
recovered_boots B number None known o = record { doing = tt; given = no_given B }
recovered_boots B number (Some k) known o =
    either (same_tag k.tag o.tag && nat_eq k.shard o.shard) (DeedBoots B) _ _
    (record { doing = tt; given = record { aborts = none B; sends = none B } })
    (record { doing = tt; given = no_given B })

-- Ends that clients ask for, and those of sessions and connections.

client_given : (B : ℕ → ℕ → Type 0) (lsid : Lsid) (number : ℤ) (t : Transaction)
    → AllBoots B (both (aborting (en.aborts lsid number 1 t)) (telling [])).aborts
client_given B lsid number t = All-append (PostBoots B) (en.aborts lsid number 1 t) []
    (aborts_boots B lsid number 1 t) (none B)

client_phase : (B : ℕ → ℕ → Type 0) (lsid : Lsid) (number : ℤ)
    (asker : Asker) (t : Transaction) (p : Phase) → DoingBoots B (Begun t)
    → DeedBoots B (en.client_aborts lsid number asker (record t { phase = p }))
client_phase B lsid number asker t (Aborted sent) h =
    record { doing = h; given = record { aborts = none B; sends = none B } }
client_phase B lsid number asker t Idle h = record {
  doing = (h.0, none B);
  given = record { aborts = client_given B lsid number t; sends = none B };
}
client_phase B lsid number asker t (Asking other op answers) h = record {
  doing = (h.0, none B);
  given = record { aborts = client_given B lsid number t; sends = none B };
}
client_phase B lsid number asker t (Checking other) h = record {
  doing = (h.0, none B);
  given = record { aborts = client_given B lsid number t; sends = none B };
}
client_phase B lsid number asker t (Deciding other) h = record {
  doing = (h.0, none B);
  given = record { aborts = client_given B lsid number t; sends = none B };
}
client_phase B lsid number asker t Committed h = record {
  doing = (h.0, none B);
  given = record { aborts = client_given B lsid number t; sends = none B };
}
client_phase B lsid number asker t Released h = record {
  doing = (h.0, none B);
  given = record { aborts = client_given B lsid number t; sends = none B };
}

gone_phase : (B : ℕ → ℕ → Type 0) (conn : ℕ) (lsid : Lsid) (number : ℤ) (t : Transaction)
    (p : Phase) → DoingBoots B (Begun t)
    → DeedBoots B (en.gone_asking conn lsid
    (record { number = number; doing = Begun (record t { phase = p }) })
    (record t { phase = p }))
gone_phase B conn lsid number t (Asking asker op answers) h =
    ends_boots B lsid number 4 (record t { phase = Asking asker op answers }) h.0
gone_phase B conn lsid number t (Checking asker) h = record { doing = h; given = no_given B }
gone_phase B conn lsid number t (Deciding asker) h = record { doing = h; given = no_given B }
gone_phase B conn lsid number t Idle h = record { doing = h; given = no_given B }
gone_phase B conn lsid number t Committed h = record { doing = h; given = no_given B }
gone_phase B conn lsid number t Released h = record { doing = h; given = no_given B }
gone_phase B conn lsid number t (Aborted sent) h = record { doing = h; given = no_given B }

gone_doing : (B : ℕ → ℕ → Type 0) (conn : ℕ) (lsid : Lsid) (number : ℤ) (doing : Doing)
    → DoingBoots B doing
    → DeedBoots B (en.gone_in conn lsid (record { number = number; doing = doing }))
gone_doing B conn lsid number (Begun t) h = gone_phase B conn lsid number t t.phase h
gone_doing B conn lsid number (Sought seeking known) h = record { doing = tt; given = no_given B }

gone_boots : (B : ℕ → ℕ → Type 0) (conn : ℕ) (s : RouterState) → RouterBoots B s
    → MoveBoots B (en.gone s conn)
gone_boots B conn s h = in_each_boots B (en.gone_from conn) (λ lsid s k.
    either (is_from conn (asker_of s.doing)) (DeedBoots B) _ _
    (gone_doing B conn lsid s.number s.doing k) (record { doing = k; given = no_given B })) s h

session_phase : (B : ℕ → ℕ → Type 0) (lsid : Lsid) (number : ℤ) (doing : Doing) → DoingBoots B doing
    → DeedBoots B (en.ends_session lsid (record { number = number; doing = doing }))
session_phase B lsid number (Begun t) h =
    either (is_none (asker_of (Begun t)) && not (commit_sent t.phase)) (DeedBoots B) _ _
    (ends_boots B lsid number 2 t h.0) (record { doing = h; given = no_given B })
session_phase B lsid number (Sought seeking known) h = record { doing = tt; given = no_given B }

-- A session of a router.

abbrev SomeBoots : (ℕ → ℕ → Type 0) → Option Session → Type 0
SomeBoots B s = IfSome s (λ (s : Session). DoingBoots B s.doing)

some_boots : (B : ℕ → ℕ → Type 0) (r : RouterState) (lsid : Lsid) (s : Option Session)
    → session_of r lsid ≡ s → RouterBoots B r → SomeBoots B s
some_boots B r lsid None e h = tt
some_boots B r lsid (Some s) e h =
    entry_has (λ (s : Session). DoingBoots B s.doing) lsid r.sessions h s e

session_boots : (B : ℕ → ℕ → Type 0) (r : RouterState) (lsid : Lsid) → RouterBoots B r
    → SomeBoots B (session_of r lsid)
session_boots B r lsid h = some_boots B r lsid (session_of r lsid) refl h

abbrev BegunBoots : (ℕ → ℕ → Type 0) → Option Transaction → Type 0
BegunBoots B t = IfSome t (λ (t : Transaction). DoingBoots B (Begun t))

begun_doing : (B : ℕ → ℕ → Type 0) (own number : ℤ) (doing : Doing) → DoingBoots B doing
    → BegunBoots B (begun_in (Some (record { number = own; doing = doing })) number)
begun_doing B own number (Begun t) h = either (int_eq own number) (BegunBoots B) (Some t) None h tt
begun_doing B own number (Sought seeking known) h =
    either (int_eq own number) (BegunBoots B) None None tt tt

begun_boots : (B : ℕ → ℕ → Type 0) (s : Option Session) (number : ℤ) → SomeBoots B s
    → BegunBoots B (begun_in s number)
begun_boots B None number h = tt
begun_boots B (Some s) number h = begun_doing B s.number number s.doing h

own_boots : (B : ℕ → ℕ → Type 0) (r : RouterState) (lsid : Lsid) (number : ℤ) → RouterBoots B r
    → BegunBoots B (begun_in (session_of r lsid) number)
own_boots B r lsid number h = begun_boots B (session_of r lsid) number (session_boots B r lsid h)

still_boots : (B : ℕ → ℕ → Type 0) (r : RouterState) → RouterBoots B r → MoveBoots B (still r)
still_boots B r h = record { state = h; given = no_given B }

end_boots : (B : ℕ → ℕ → Type 0) (r : RouterState) (lsid : Lsid) (s : Option Session)
    → SomeBoots B s → RouterBoots B r → MoveBoots B (en.end_session r lsid s)
end_boots B r lsid None k h = still_boots B r h
end_boots B r lsid (Some s) k h =
    done_boots B r lsid (en.ends_session lsid s) h (session_phase B lsid s.number s.doing k)

end_all_boots : (B : ℕ → ℕ → Type 0) (lsids : List Lsid) (r : RouterState) → RouterBoots B r
    → MoveBoots B (en.end_sessions r lsids)
end_all_boots B [] r h = still_boots B r h
end_all_boots B (lsid ∷ lsids) r h =
    let first = end_boots B r lsid (session_of r lsid) (session_boots B r lsid h) h in
    let more =
    end_all_boots B lsids (en.end_session r lsid (session_of r lsid)).state first.state in
    record {
      state = more.state;
      given = both_boots B (en.end_session r lsid (session_of r lsid)).given (en.end_sessions
          (en.end_session r lsid (session_of r lsid)).state lsids).given first.given more.given;
    }

-- Requests.

refused_boots : (B : ℕ → ℕ → Type 0) (r : RouterState) (asker : Asker) (why : Option Reply)
    (m : Move) → RouterBoots B r → MoveBoots B m → MoveBoots B (rq.unless_refused r asker why m)
refused_boots B r asker None m h k = k
refused_boots B r asker (Some reply) m h k =
    record { state = h; given = record { aborts = none B; sends = none B } }

left_boots : (B : ℕ → ℕ → Type 0) (lsid : Lsid) (s : Option Session)
    → AllBoots B (rq.left_of lsid s)
left_boots B lsid None = none B
left_boots B lsid (Some s) = leaves_doing B lsid s.number s.doing

begins_boots : (B : ℕ → ℕ → Type 0) → Zero B → (r : RouterState) (lsid : Lsid)
    (s : Option Session) (number : ℤ) (asker : Asker) (op : Op) (read_at : ℕ) → RouterBoots B r
    → MoveBoots B (rq.begins_at r lsid s number asker op read_at)
begins_boots B z r lsid s number asker op read_at h =
    let deed = st.asks r.chunks lsid number asker op (rq.begun_at r read_at) in
    let d =
    asks_boots B z r.chunks lsid number asker op (rq.begun_at r read_at) (All-nil (Part B)) in
    done_boots B (rq.drawn r read_at) lsid
    (record { session = deed.session; given = both (aborting (rq.left_of lsid s)) deed.given })
    h
    (record {
      doing = d.doing;
      given = both_boots B (aborting (rq.left_of lsid s)) deed.given
          (record { aborts = left_boots B lsid s; sends = none B }) d.given;
    })

states_boots : (B : ℕ → ℕ → Type 0) → Zero B → (r : RouterState) (lsid : Lsid) (s : Option Session)
    (number : ℤ) (asker : Asker) (op : Op) (at : Option ℕ) (t : Option Transaction) → BegunBoots B t
    → RouterBoots B r
    → MoveBoots B (rq.states r lsid s number asker op at t)
states_boots B z r lsid s number asker op at None b h =
    begins_boots B z r lsid s number asker op _ h
states_boots B z r lsid s number asker op at (Some t) b h = done_boots B r lsid (st.asks r.chunks
    lsid number asker op t) h (asks_boots B z r.chunks lsid number asker op t b.0)

statement_boots : (B : ℕ → ℕ → Type 0) → Zero B
    → (r : RouterState) (asker : Asker) (txn : Option Txn) (op : Op) (at : Option ℕ)
    → RouterBoots B r → MoveBoots B (rq.statement r asker txn op at)
statement_boots B z r asker None op at h =
    let txn = rq.by_itself r asker.conn in
    refused_boots B r asker _ _ h
    (states_boots B z r txn.lsid (session_of r txn.lsid) txn.number asker op at
    (begun_in (session_of r txn.lsid) txn.number) (own_boots B r txn.lsid txn.number h) h)
statement_boots B z r asker (Some txn) op at h =
    refused_boots B r asker _ _ h
    (states_boots B z r txn.lsid (session_of r txn.lsid) txn.number asker op at
    (begun_in (session_of r txn.lsid) txn.number) (own_boots B r txn.lsid txn.number h) h)

sought_boots : (B : ℕ → ℕ
    → Type 0) (r : RouterState) (asker : Asker) (txn : Txn) (s : Option Session) (t : Option Token)
    → SomeBoots B s → RouterBoots B r → MoveBoots B (rq.commit_sought r asker txn s t)
sought_boots B r asker txn s (Some (token.Placed tag shard boot)) k h =
    done_boots B r txn.lsid (tk.seeks txn.lsid txn.number asker tag shard boot s) h
    (seeks_by_boots B txn.lsid txn.number asker _ s k)
sought_boots B r asker txn s other k h = still_boots B r h

commit_by_boots : (B : ℕ → ℕ → Type 0) → Zero B → (r : RouterState) (asker : Asker) (txn : Txn)
    (s : Option Session) (t : Option Token) (own : Option Transaction) → SomeBoots B s
    → BegunBoots B own → RouterBoots B r
    → MoveBoots B (rq.commit_by r asker txn s t own)
commit_by_boots B z r asker txn s t None k b h = sought_boots B r asker txn s t k h
commit_by_boots B z r asker txn s t (Some own) k b h = done_boots B r txn.lsid (co.commit_asked
    txn.lsid txn.number asker own) h (commit_asked_boots B z txn.lsid txn.number asker own b)

commit_request_boots : (B : ℕ → ℕ → Type 0) → Zero B
    → (r : RouterState) (asker : Asker) (txn : Option Txn) (t : Option Token) → RouterBoots B r
    → MoveBoots B (rq.commit r asker txn t)
commit_request_boots B z r asker None t h = still_boots B r h
commit_request_boots B z r asker (Some txn) t h =
    refused_boots B r asker _ _ h
    (commit_by_boots B z r asker txn (session_of r txn.lsid) t (begun_in (session_of r txn.lsid)
    txn.number) (session_boots B r txn.lsid h) (own_boots B r txn.lsid txn.number h) h)

abort_by_boots : (B : ℕ → ℕ
    → Type 0) (r : RouterState) (asker : Asker) (txn : Txn) (own : Option Transaction)
    → BegunBoots B own → RouterBoots B r → MoveBoots B (rq.abort_by r asker txn own)
abort_by_boots B r asker txn None b h = still_boots B r h
abort_by_boots B r asker txn (Some own) b h = done_boots B r txn.lsid (en.client_aborts txn.lsid
    txn.number asker own) h (client_phase B txn.lsid txn.number asker own own.phase b)

abort_boots : (B : ℕ → ℕ → Type 0) (r : RouterState) (asker : Asker) (txn : Option Txn)
    → RouterBoots B r → MoveBoots B (rq.abort r asker txn)
abort_boots B r asker None h = still_boots B r h
abort_boots B r asker (Some txn) h = refused_boots B r asker _ _ h (abort_by_boots B r asker txn _
    (own_boots B r txn.lsid txn.number h) h)

also_boots : (B : ℕ → ℕ → Type 0) (m : Move) (asker : Asker) (legacy : Bool) (r : Reply)
    → MoveBoots B m → MoveBoots B (told_also m asker legacy r)
also_boots B m asker legacy r h =
    record {
      state = h.state;
      given = record {
        aborts = All-append (PostBoots B) m.given.aborts [] h.given.aborts (none B);
        sends = All-append (PostBoots B) m.given.sends [] h.given.sends (none B);
      };
    }

serves_boots : (B : ℕ → ℕ → Type 0) → Zero B
    → (r : RouterState) (asker : Asker) (legacy : Bool) (x : Request) → RouterBoots B r
    → MoveBoots B (rq.serves r asker legacy x)
unfolding rq.serves
serves_boots B z r asker legacy (request.Ping more time) h =
    also_boots B _ asker legacy _ (still_boots B _ h)
serves_boots B z r asker legacy (request.Hello old_name more time) h =
    also_boots B _ asker legacy _ (still_boots B _ h)
serves_boots B z r asker legacy (request.Statement op txn at after more time) h =
    statement_boots B z _ asker txn op at h
serves_boots B z r asker legacy (request.Commit txn t more time) h =
    commit_request_boots B z _ asker txn t h
serves_boots B z r asker legacy (request.Abort txn more time) h = abort_boots B _ asker txn h
serves_boots B z r asker legacy (request.EndSessions ids more time) h =
    also_boots B _ asker legacy _ (end_all_boots B ids _ h)

served_boots : (B : ℕ → ℕ → Type 0) → Zero B
    → (r : RouterState) (conn : ℕ) (bytes : List ℕ) (x : Result Request Unserved) → RouterBoots B r
    → MoveBoots B (sp.served r conn bytes x)
served_boots B z r conn bytes (Ok asked) h = serves_boots B z r _ _ asked h
served_boots B z r conn bytes (Err (un.Told why)) h =
    also_boots B (still r) _ _ _ (still_boots B r h)
served_boots B z r conn bytes (Err (un.Closed number)) h = still_boots B r h
served_boots B z r conn bytes (Err un.Memory) h = still_boots B r h

silent_boots : (B : ℕ → ℕ → Type 0) (test : Bool) (m : Move) → MoveBoots B m
    → MoveBoots B (sp.unless_silent test m)
silent_boots B true m h = h
silent_boots B false m h =
    record { state = h.state; given = record { aborts = h.given.aborts; sends = h.given.sends } }

-- Resends.

abbrev Un : (ℕ → ℕ → Type 0) → rs.Unanswered → Type 0
Un B u = PostBoots B u.1

inserted_boots : (B : ℕ → ℕ → Type 0) (a : rs.Unanswered) (others : List rs.Unanswered) → Un B a
    → All (Un B) others → All (Un B) (rs.inserted a others)
inserted_boots B a [] k h = one (Un B) a k
inserted_boots B a (b ∷ others) k h =
    either (is_lt (rs.waiting_cmp a b)) (All (Un B)) _ _ (All-cons (Un B) a (b ∷ others) k h)
    (All-cons (Un B) b (rs.inserted a others) (All-head (Un B) b others h)
    (inserted_boots B a others k (All-tail (Un B) b others h)))

order_boots : (B : ℕ → ℕ → Type 0) (us : List rs.Unanswered) → All (Un B) us
    → All (Un B) (rs.in_order us)
order_boots B [] h = h
order_boots B (u ∷ us) h = inserted_boots B u (rs.in_order us) (All-head (Un B) u us h)
    (order_boots B us (All-tail (Un B) u us h))

sought_un : (B : ℕ → ℕ → Type 0) (lsid : Lsid) (number : ℤ) (k : Option Seeking)
    → All (Un B) (rs.sought_post lsid number k)
sought_un B lsid number None = All-nil (Un B)
sought_un B lsid number (Some k) = one (Un B) _ tt

waiting_un : (B : ℕ → ℕ → Type 0) (lsid : Lsid) (number : ℤ) (doing : Doing) → DoingBoots B doing
    → All (Un B) (rs.waiting_in (lsid, record { number = number; doing = doing }))
waiting_un B lsid number (Begun t) h = All-map (Un B) (λ (post : Post). (t.tag, post)) t.waiting h.1
waiting_un B lsid number (Sought seeking known) h = sought_un B lsid number seeking

all_un : (B : ℕ → ℕ → Type 0) (sessions : BySession Session) → All (EntryBoots B) sessions
    → All (Un B) (flat_map rs.waiting_in sessions)
all_un B [] h = All-nil (Un B)
all_un B (entry ∷ entries) h =
    All-append (Un B) (rs.waiting_in entry) (flat_map rs.waiting_in entries) (waiting_un B
    entry.0 entry.1.number entry.1.doing (All-head (EntryBoots B) entry entries h))
    (all_un B entries (All-tail (EntryBoots B) entry entries h))

resent_boots : (B : ℕ → ℕ → Type 0) (r : RouterState) → RouterBoots B r → AllBoots B (rs.resent r)
resent_boots B r h =
    All-append (PostBoots B) _ (rs.unanswered r.sessions)
    (each (PostBoots B) _ (range_with_len 0 r.chunks.shards) (λ x. tt))
    (All-map (PostBoots B) (λ (a : rs.Unanswered). a.1) (rs.in_order (flat_map rs.waiting_in
    r.sessions)) (order_boots B (flat_map rs.waiting_in r.sessions) (all_un B r.sessions h)))

-- The step.

answered_doing : (B : ℕ → ℕ → Type 0) → Zero B
    → (a : Answer) (lsid : Lsid) (number : ℤ) (doing : Doing)
    → B a.shard a.boot → DoingBoots B doing
    → DeedBoots B (answered_in a lsid (record { number = number; doing = doing }))
answered_doing B z a lsid number (Begun t) b h = on_answer_boots B z lsid number a t b h
answered_doing B z a lsid number (Sought seeking known) b h =
    record { doing = tt; given = no_given B }

ended_doing : (B : ℕ → ℕ → Type 0) → Zero B
    → (o : Outcome) (lsid : Lsid) (number : ℤ) (doing : Doing) → DoingBoots B doing
    → DeedBoots B (ended_in o lsid (record { number = number; doing = doing }))
ended_doing B z o lsid number (Begun t) h = on_outcome_boots B z lsid number o t h
ended_doing B z o lsid number (Sought seeking known) h = recovered_boots B number seeking known o

delivered_boots : (B : ℕ → ℕ → Type 0) → Zero B → (r : RouterState) (m : Msg) → ToldBoots B m
    → RouterBoots B r → MoveBoots B (sp.delivered r m)
delivered_boots B z r (msg.Answer a) b h =
    in_each_boots B (answered_in a) (λ lsid s k. answered_doing B z a lsid s.number s.doing b k) r h
delivered_boots B z r (msg.Outcome o) b h =
    in_each_boots B (ended_in o) (λ lsid s k. ended_doing B z o lsid s.number s.doing k) r h
delivered_boots B z r other b h = still_boots B r h

happened_boots : (B : ℕ → ℕ → Type 0) → Zero B → (n : ℕ) (r : RouterState) (w : Happening)
    → BootsBy B (Router n) w → RouterBoots B r → MoveBoots B (sp.happened r w)
happened_boots B z n r (what.Client conn bytes) b h =
    either (is_waiting r conn) (MoveBoots B) _ _ (still_boots B r h) (silent_boots B
    (wants_reply bytes) _ (served_boots B z r conn bytes (asked_in r.wall bytes) h))
happened_boots B z n r (what.Gone conn) b h = gone_boots B conn r h
happened_boots B z n r (what.Deliver e) b h = delivered_boots B z _ e.msg b h
happened_boots B z n r what.Resend b h =
    record { state = h; given = record { aborts = none B; sends = resent_boots B r h } }
happened_boots B z n r what.Moment b h = still_boots B r h

pub router_boots : (B : ℕ → ℕ → Type 0) → Zero B
    → (n : ℕ) (want : Bool) (r : RouterState) (e : NodeEvent) → BootsBy B (Router n) e.what
    → RouterBoots B r
    → RouterBoots B (sp.router_step want r e).state
    × All (EnvBoots B) (given_out (sp.answer_of want (sp.router_step want r e)))
unfolding sp.router_step
router_boots B z n true r e b h = (h, All-nil (EnvBoots B))
router_boots B z n false r e b h =
    let m = sp.happened (walled r e.wall) e.what in
    let k = happened_boots B z n (walled r e.wall) e.what b h in (
      k.state,
      All-map (EnvBoots B) (sent_by (Router m.state.number) m.state.time)
          (map letter_of (m.given.aborts ++ m.given.sends))
          (All-map (LetterBoots B) letter_of (m.given.aborts ++ m.given.sends)
          (All-append (PostBoots B) m.given.aborts m.given.sends k.given.aborts k.given.sends)),
    )
