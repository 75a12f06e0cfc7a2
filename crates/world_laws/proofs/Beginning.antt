-- A router's step: what it names was named in its sessions, or is of the transaction that it
-- begins; sessions go on; and a transaction begins above its session's number.
use Rattle.std.proofs.Common.{◌≡◌, inl, inr, ◌<ℤ◌, ℕ, ℤ, Bool, true, false, not, ◌&&◌, All, List}
use Rattle.std.proofs.Common.{[], ◌∷◌, ◌++◌, map, int_lt, int_eq, is_none, Option, Some, None}
use Rattle.std.proofs.Common.{IfSome, Result, Ok, Err, refl, sym, ap, ap₂, subst, ◌∙◌, arith}
use Rattle.std.proofs.Common.{if◌then◌else◌}
use Rattle.std.specs.Prelude.{flat_map}
use Rattle.std.specs.List.{range_with_len}
use Rattle.std.specs.Ordering.{is_lt}
use Rattle.std.proofs.lemmas.Int.{ints, by_lt_z}
use Rattle.std.proofs.lemmas.Bool.Decides.{Decides-int_eq}
use Rattle.std.proofs.lemmas.List.Elements.{All-nil, All-cons, All-head, All-tail, All-append}
use Rattle.std.proofs.lemmas.List.Elements.{All-map}
use Rattle.txn_types.specs.BySession.{BySession, entry_of}
use Rattle.txn_types.specs.Order.{same_lsid}
use Rattle.txn_types.specs.Letters.{Letter, sent_by, Named, named_in, given_out}
use Rattle.txn_types.specs.declared.decision.Token.{Token}
use Rattle.txn_types.specs.declared.decision.Token.TheVariants as token
use Rattle.txn_types.specs.declared.event.Happening.{Happening}
use Rattle.txn_types.specs.declared.event.Happening.TheVariants as what
use Rattle.txn_types.specs.declared.event.NodeEvent.{NodeEvent}
use Rattle.txn_types.specs.declared.message.Envelope.{Envelope}
use Rattle.txn_types.specs.declared.message.Msg.{Msg}
use Rattle.txn_types.specs.declared.message.Msg.TheVariants as msg
use Rattle.txn_types.specs.declared.node.Lsid.{Lsid}
use Rattle.txn_types.specs.declared.node.NodeId.TheVariants.{Router}
use Rattle.txn_types.specs.declared.operation.Op.{Op}
use Rattle.txn_semantics.specs.Touched.{first_some}
use Rattle.client_cmd.specs.declared.request.Request.{Request}
use Rattle.client_cmd.specs.declared.request.Request.TheVariants as request
use Rattle.client_cmd.specs.declared.request.Txn.{Txn}
use Rattle.client_reply.specs.declared.reply.Refusal.{Refusal}
use Rattle.client_reply.specs.declared.reply.Refusal.TheVariants as refusal
use Rattle.client_reply.specs.declared.reply.Reply.{Reply}
use Rattle.client_reply.specs.declared.reply.Reply.TheVariants.{TooOld}
use Rattle.op_msg.specs.Asking.{wants_reply}
use Rattle.router_state.specs.declared.deed.Deed.{Deed}
use Rattle.router_state.specs.declared.state.Asker.{Asker}
use Rattle.router_state.specs.declared.state.Doing.{Doing}
use Rattle.router_state.specs.declared.state.Doing.TheVariants.{Begun, Sought}
use Rattle.router_state.specs.declared.state.Seeking.{Seeking}
use Rattle.router_state.specs.declared.state.Session.{Session}
use Rattle.router_state.specs.declared.state.Transaction.{Transaction}
use Rattle.router_state.specs.Deeds.{Move, still, answers, both, aborting, done_in}
use Rattle.router_state.specs.State.{Post, RouterState, session_of, is_waiting}
use Rattle.router_rules.specs.Ends as en
use Rattle.router_rules.specs.Resends as rs
use Rattle.router_rules.specs.Serving.{answered_in, ended_in}
use Rattle.router_rules.specs.Statements as st
use Rattle.router_rules.specs.Times.{walled, met, timed}
use Rattle.router_rules.specs.Tokens as tk
use Rattle.router_plan.specs.declared.message.Unserved.{Unserved}
use Rattle.router_plan.specs.declared.message.Unserved.TheVariants as un
use Rattle.router_plan.specs.Messages.{asked_in}
use Rattle.router_plan.specs.Plans.{told_also}
use Rattle.router_plan.specs.Refusals.{begun_in, statement_refusal, commit_refusal, abort_refusal}
use Rattle.router_plan.specs.Refusals.{too_old, busy, started, no_transaction, after_commit}
use Rattle.router_plan.specs.Refusals.{too_long, too_many, spent, many_shards, known_aborted}
use Rattle.router_plan.specs.Refusals.{where_so, is_so}
use Rattle.router_plan.specs.Spelling.{letter_of}
use Rattle.router_core.specs.Requests as rq
use Rattle.router_core.specs.Step as sp
use Rattle.shard_image.proofs.Sessions.{entry_there, lsid_is}
use Rattle.participant.proofs.Cases.{either}
use Rattle.world_laws.specs.Begins.{begins_unless, begins_by, begins_asked, begins_at, begins}
use Rattle.world_laws.specs.Begins.{PostNames, AllNames, DoingNames, EntryNames, RouterNames}
use Rattle.world_laws.specs.Begins.{GoesOn, DeedNames, AllGo, MoveNames, Kept, Drew, Leaves}
use Rattle.shard_core.specs.Effect.{SentNames}
use Rattle.world_laws.proofs.Naming.{one, each}
use Rattle.world_laws.proofs.Deeds.{Own, name_of, both_name, own_deed, asks_name, leaves_name}
use Rattle.world_laws.proofs.Deeds.{commit_asked_names, client_aborts_name, answered_names}
use Rattle.world_laws.proofs.Deeds.{ended_names, gone_names, session_names, stays_names}
use Rattle.world_laws.proofs.Deeds.{seeks_in_names, anew_given}
use Rattle.world_laws.proofs.Going.{first_is, rest_is, some_same, all_self, all_then, done_names}
use Rattle.world_laws.proofs.Going.{in_each_names}

-- What refusals leave.

pub first_none : (o : Option Reply) (os : List (Option Reply)) → first_some (o ∷ os) ≡ None
    → (o ≡ None) × (first_some os ≡ None)
first_none None os h = (refl, h)
first_none (Some r) os h = grind arith

pub four_none : (a b c d : Option Reply) (os : List (Option Reply))
    → first_some (a ∷ b ∷ c ∷ d ∷ os) ≡ None → (a ≡ None) × (c ≡ None) × (d ≡ None)
four_none a b c d os h =
    let x = first_none a (b ∷ c ∷ d ∷ os) h in
    let y = first_none b (c ∷ d ∷ os) x.1 in
    let z = first_none c (d ∷ os) y.1 in
    (x.0, z.0, (first_none d os z.1).0)

pub so_not : (b : Bool) (why : Refusal) → where_so b why ≡ None → b ≡ false
so_not true why h = grind arith
so_not false why h = refl

pub not_lower : (n : ℤ) (old : Session) → too_old (Some old) n ≡ None → int_lt n old.number ≡ false
not_lower n old h = by (int_lt n old.number) refl
  where
    by : (b : Bool) → int_lt n old.number ≡ b → b ≡ false
    by true e = let bad : Some (TooOld n old.number) ≡ None = ap (λ (c : Bool). if c
        then Some (TooOld n old.number) else None) (sym e) ∙ h in grind (arith, bad)
    by false e = refl

pub below_unless : (a n : ℤ) → int_lt n a ≡ false → int_eq a n ≡ false → a <ℤ n
below_unless a n h k = by_lt_z a n (λ lt. lt) (λ le. let same : a ≡ n =
    omega (arith, ints, h, le) in let yes : int_eq a n ≡ true = (Decides-int_eq a n).1 same in
    let bad : true ≡ false = sym yes ∙ k in grind (arith, bad))

pub same_unless : (a n : ℤ) → int_lt n a ≡ false → int_lt a n ≡ false → a ≡ n
same_unless a n h k = omega (arith, ints, h, k)

pub lower_if : (a n : ℤ) → int_lt a n ≡ true → a <ℤ n
lower_if a n h = omega (arith, ints, h)

pub start_above : (old : Session) (n : ℤ) (start : Bool) → int_lt n old.number ≡ false
    → (start && int_eq old.number n) ≡ false → not start ≡ false → old.number <ℤ n
start_above old n true lower same none = below_unless old.number n lower same
start_above old n false lower same none = grind arith

-- a statement that isn't refused, of a transaction that its session hasn't begun, is above the
-- session's number
fresh_if : (s : RouterState) (conn : ℕ) (session : Option Session) (txn : Txn) (op : Op)
    → statement_refusal s conn session txn op ≡ None → begun_in session txn.number ≡ None
    → (old : Session) → session ≡ Some old → old.number <ℤ txn.number
unfolding statement_refusal
fresh_if s conn session txn op h none old is =
    let n = txn.number in
    let f = four_none (too_old session n) (busy session conn) (started session txn) (no_transaction
    session n txn.start false) (after_commit session n ∷ too_long session n ∷ too_many s session
    ∷ spent s session n ∷ many_shards s.chunks op ∷ known_aborted session n ∷ []) h in
    let lower : int_lt n old.number ≡ false =
    not_lower n old (ap (λ (o : Option Session). too_old o n) (sym is) ∙ f.0) in
    let same : (txn.start && int_eq old.number n) ≡ false =
    ap (λ (o : Option Session). txn.start && is_so (λ (s : Session). int_eq s.number n) o) (sym is)
    ∙ so_not (txn.start && is_so (λ (s : Session). int_eq s.number n) session)
    (refusal.Started n) f.1 in
    let starts : not txn.start ≡ false =
    ap (λ (o : Option Transaction). is_none o && not txn.start) (sym none) ∙ so_not (is_none
    (begun_in session n) && not txn.start) (refusal.NoTransaction n false) f.2 in
    start_above old txn.number txn.start lower same starts

-- a commit that isn't refused is of no lower number
pub commit_above : (s : RouterState) (conn : ℕ) (session : Option Session) (txn : Txn)
    (t : Option Token) → commit_refusal s conn session txn t ≡ None → (old : Session)
    → session ≡ Some old → int_lt txn.number old.number ≡ false
unfolding commit_refusal
commit_above s conn session txn t h old is = not_lower txn.number old
    (ap (λ (o : Option Session). too_old o txn.number) (sym is) ∙ (first_none _ _ h).0)

-- Sessions of a router.

either_if : {A : Type 0} (test : Bool) (P : A → Type 0) (x y : A) → (test ≡ true → P x)
    → (test ≡ false → P y) → P (if test then x else y)
either_if true P x y a b = a refl
either_if false P x y a b = b refl

entry_case : (P : Named → Type 0) (lsid : Lsid) (entry : Lsid
    × Session) (entries : BySession Session) (s : Session) → EntryNames P entry
    → (entry_of lsid entries ≡ Some s → DoingNames P lsid s.number s.doing)
    → (test : Bool) → same_lsid lsid entry.0 ≡ test → entry_of lsid (entry ∷ entries) ≡ Some s
    → DoingNames P lsid s.number s.doing
entry_case P lsid entry entries s this more true here e =
    let old : entry.1 ≡ s = some_same entry.1 s (sym (first_is lsid entry entries here) ∙ e) in
    subst (λ (x : Session). DoingNames P lsid x.number x.doing) old (subst (λ (l : Lsid).
    DoingNames P l entry.1.number entry.1.doing) (sym (lsid_is lsid entry.0 here)) this)
entry_case P lsid entry entries s this more false here e =
    more (sym (rest_is lsid entry entries here) ∙ e)

entry_named : (P : Named → Type 0) (lsid : Lsid) (entries : BySession Session) (s : Session)
    → All (EntryNames P) entries → entry_of lsid entries ≡ Some s
    → DoingNames P lsid s.number s.doing
entry_named P lsid [] s h e = grind arith
entry_named P lsid (entry ∷ entries) s h e =
    entry_case P lsid entry entries s (All-head (EntryNames P) entry entries h) (entry_named P lsid
    entries s (All-tail (EntryNames P) entry entries h)) (same_lsid lsid entry.0) refl e

pub begun_if : (own number : ℤ) (u t : Transaction) (test : Bool) → int_eq own number ≡ test
    → (if test then Some u else None) ≡ Some t → (own ≡ number) × (Begun u ≡ Begun t)
begun_if own number u t true is e = ((Decides-int_eq own number).0 is, ap Begun (some_same u t e))
begun_if own number u t false is e = grind arith

pub not_sought : (test : Bool) (t : Transaction) → (if test then None else None) ≡ Some t → ⊥
not_sought true t e = grind arith
not_sought false t e = grind arith

pub begun_doing : (own number : ℤ) (doing : Doing) (t : Transaction)
    → begun_in (Some (record { number = own; doing = doing })) number ≡ Some t
    → (own ≡ number) × (doing ≡ Begun t)
begun_doing own number (Begun u) t e = begun_if own number u t (int_eq own number) refl e
begun_doing own number (Sought seeking known) t e = absurd (not_sought (int_eq own number) t e)

-- a transaction that was begun in a session
pub record IsBegun (session : Option Session) (number : ℤ) (t : Transaction) : Type 0 where
  pub there : Session
  pub is : session ≡ Some there
  pub number_is : there.number ≡ number
  pub doing : there.doing ≡ Begun t

pub is_begun : (session : Option Session) (number : ℤ) (t : Transaction)
    → begun_in session number ≡ Some t → IsBegun session number t
is_begun None number t e = grind arith
is_begun (Some s) number t e = let b = begun_doing s.number number s.doing t e in
    record { there = s; is = refl; number_is = b.0; doing = b.1 }

pub is_session : (there : Session) (number : ℤ) (t : Transaction) → there.number ≡ number
    → there.doing ≡ Begun t → there ≡ record { number = number; doing = Begun t }
is_session there number t a b = ap₂ (λ (n : ℤ) (d : Doing). record { number = n; doing = d }) a b

-- what is done with a transaction that was begun
own_done : (P : Named → Type 0) (r : RouterState) (lsid : Lsid) (number : ℤ) (t : Transaction)
    (d : Deed) → begun_in (session_of r lsid) number ≡ Some t → RouterNames P r
    → (P (name_of lsid number t.tag) → AllNames P t.waiting → Own P number t.tag d)
    → MoveNames P r (done_in r lsid d)
own_done P r lsid number t d e h f =
    let b = is_begun (session_of r lsid) number t e in
    let s = is_session b.there number t b.number_is b.doing in
    let n = subst (λ (x : Session). DoingNames P lsid x.number x.doing) s (entry_named P lsid
    r.sessions b.there h b.is) in
    let k = own_deed P lsid number t d n.0 (f n.0 n.1) in
    done_names P r lsid d h k.doing k.given (λ old x. subst (λ (y : Session). GoesOn y d.session)
    (sym (some_same old b.there (sym x ∙ b.is) ∙ s)) k.goes)

still_names : (P : Named → Type 0) (r : RouterState) → RouterNames P r → MoveNames P r (still r)
still_names P r h = record {
  state = h;
  given = record { aborts = All-nil (PostNames P); sends = All-nil (PostNames P) };
  goes = all_self r r refl;
}

replied_names : (P : Named → Type 0) (r : RouterState) (asker : Asker) (reply : Reply)
    → RouterNames P r → MoveNames P r (answers r asker reply)
replied_names P r asker reply h = record {
  state = h;
  given = record { aborts = All-nil (PostNames P); sends = All-nil (PostNames P) };
  goes = all_self r r refl;
}

-- Statements.

left_names : (P : Named → Type 0) (r : RouterState) (lsid : Lsid) (s : Option Session)
    → session_of r lsid ≡ s → RouterNames P r → AllNames P (rq.left_of lsid s)
left_names P r lsid None e h = All-nil (PostNames P)
left_names P r lsid (Some s) e h = leaves_name P lsid s (entry_named P lsid r.sessions s h e)

begun_as : (P : Named → Type 0) (lsid : Lsid) (number : ℤ) (t : Transaction) (d : Deed)
    → P (name_of lsid number t.tag) → Own P number t.tag d
    → DoingNames P lsid d.session.number d.session.doing
begun_as P lsid number t d p o = (own_deed P lsid number t d p o).doing

begins_names : (P : Named → Type 0) (r : RouterState) (lsid : Lsid) (s : Option Session)
    (number : ℤ) (asker : Asker) (op : Op) (read_at : ℕ) → session_of r lsid ≡ s
    → ((old : Session) → s ≡ Some old → old.number <ℤ number)
    → P (name_of lsid number (rq.next_tag r)) → RouterNames P r
    → MoveNames P r (rq.begins_at r lsid s number asker op read_at)
begins_names P r lsid s number asker op read_at e fresh p h =
    let t = rq.begun_at r read_at in
    let deed = st.asks r.chunks lsid number asker op t in
    let o = asks_name P r.chunks lsid number asker op t p in
    let d = rq.behind_left lsid s deed in
    let m = done_names P (rq.drawn r read_at) lsid d h (begun_as P lsid number
    t deed p o) (both_name P (aborting (rq.left_of lsid s)) deed.given
    (record { aborts = left_names P r lsid s e h; sends = All-nil (PostNames P) }) o.given)
    (λ old x. inl (fresh old (sym e ∙ x))) in
    record { state = m.state; given = m.given; goes = m.goes }

states_names : (P : Named → Type 0) (r : RouterState) (asker : Asker) (txn : Txn)
    (op : Op) (at : Option ℕ) (refusal : Option Reply) (own : Option Transaction)
    → statement_refusal r asker.conn (session_of r txn.lsid) txn op ≡ refusal
    → begun_in (session_of r txn.lsid) txn.number ≡ own → IfSome (begins_unless r txn refusal own) P
    → RouterNames P r
    → MoveNames P r (rq.unless_refused r asker refusal
    (rq.states r txn.lsid (session_of r txn.lsid) txn.number asker op at own))
states_names P r asker txn op at (Some why) own a b p h = replied_names P r asker why h
states_names P r asker txn op at None (Some t) a b p h = own_done P r txn.lsid txn.number t _ b h
    (λ i w. asks_name P r.chunks txn.lsid txn.number asker op t i)
states_names P r asker txn op at None None a b p h =
    begins_names P r txn.lsid (session_of r txn.lsid) txn.number asker op _ refl
    (fresh_if r asker.conn (session_of r txn.lsid) txn op a b) p h

statement_names : (P : Named → Type 0) (r : RouterState) (asker : Asker) (txn : Option Txn)
    (op : Op) (at : Option ℕ) → IfSome (begins_by r asker.conn txn op) P → RouterNames P r
    → MoveNames P r (rq.statement r asker txn op at)
statement_names P r asker None op at p h = let txn = rq.by_itself r asker.conn in
    states_names P r asker txn op at (statement_refusal r asker.conn (session_of r txn.lsid) txn op)
    (begun_in (session_of r txn.lsid) txn.number) refl refl p h
statement_names P r asker (Some txn) op at p h =
    states_names P r asker txn op at (statement_refusal r asker.conn (session_of r txn.lsid) txn op)
    (begun_in (session_of r txn.lsid) txn.number) refl refl p h

-- Commits, also by a token, and aborts.

seeks_larger : (P : Named → Type 0) (lsid : Lsid) (number : ℤ) (asker : Asker) (k : Seeking)
    (s : Session) → s.number <ℤ number → DoingNames P lsid s.number s.doing
    → DeedNames P lsid s (record {
      session = (tk.asks_anew lsid number k []).session;
      given = both (aborting (en.leaves lsid s)) (tk.asks_anew lsid number k []).given;
    })
seeks_larger P lsid number asker k s less h = record {
  doing = tt;
  given = both_name P (aborting (en.leaves lsid s)) (tk.asks_anew lsid number k []).given
      (record { aborts = leaves_name P lsid s h; sends = All-nil (PostNames P) }) (anew_given P lsid
      number k []);
  goes = inl less;
}

seeks_doing : (P : Named → Type 0) (lsid : Lsid) (number own : ℤ) (asker : Asker) (k : Seeking)
    (doing : Doing) → int_lt number own ≡ false → DoingNames P lsid own doing
    → DeedNames P lsid (record { number = own; doing = doing })
    (tk.seeks_by lsid number asker k (Some (record { number = own; doing = doing })))
seeks_doing P lsid number own asker k (Begun t) lower h =
    either_if (int_lt own number) (DeedNames P lsid (record { number = own; doing = Begun t })) _ _
    (λ is. seeks_larger P lsid number asker k (record { number = own; doing = Begun t }) (lower_if
    own number is) h) (λ is. stays_names P lsid (record { number = own; doing = Begun t }) h)
seeks_doing P lsid number own asker k (Sought seeking known) lower h =
    either_if (int_lt own number)
    (DeedNames P lsid (record { number = own; doing = Sought seeking known })) _ _
    (λ is. seeks_larger P lsid number asker k
    (record { number = own; doing = Sought seeking known }) (lower_if own number is) h)
    (λ is. subst (λ (n : ℤ). DeedNames P lsid (record { number = n; doing = Sought seeking known })
    (tk.seeks_in lsid number asker k seeking known)) (sym (same_unless own number lower is))
    (seeks_in_names P lsid number asker k seeking known))

seeks_some : (P : Named → Type 0) (lsid : Lsid) (number : ℤ) (asker : Asker) (k : Seeking)
    (s : Session) → int_lt number s.number ≡ false → DoingNames P lsid s.number s.doing
    → DeedNames P lsid s (tk.seeks_by lsid number asker k (Some s))
seeks_some P lsid number asker k s lower h =
    seeks_doing P lsid number s.number asker k s.doing lower h

seeks_done : (P : Named → Type 0) (r : RouterState) (lsid : Lsid) (number : ℤ)
    (asker : Asker) (k : Seeking) (s : Option Session) → session_of r lsid ≡ s
    → ((old : Session) → s ≡ Some old → int_lt number old.number ≡ false) → RouterNames P r
    → MoveNames P r (done_in r lsid (tk.seeks_by lsid number asker k s))
seeks_done P r lsid number asker k None e lower h = done_names P r lsid _ h tt (anew_given P lsid
    number k []) (λ old x. let bad : None ≡ Some old = sym e ∙ x in grind (arith, bad))
seeks_done P r lsid number asker k (Some s) e lower h =
    let d =
    seeks_some P lsid number asker k s (lower s refl) (entry_named P lsid r.sessions s h e) in
    done_names P r lsid _ h d.doing d.given (λ old x. subst (λ (y : Session). GoesOn y
    (tk.seeks_by lsid number asker k (Some s)).session) (some_same s old (sym e ∙ x)) d.goes)

sought_names : (P : Named → Type 0) (r : RouterState) (asker : Asker) (txn : Txn) (t : Option Token)
    → ((old : Session) → session_of r txn.lsid ≡ Some old → int_lt txn.number old.number ≡ false)
    → RouterNames P r
    → MoveNames P r (rq.commit_sought r asker txn (session_of r txn.lsid) t)
sought_names P r asker txn None lower h = still_names P r h
sought_names P r asker txn (Some (token.Early tag)) lower h = still_names P r h
sought_names P r asker txn (Some (token.Placed tag shard boot)) lower h =
    seeks_done P r txn.lsid txn.number asker _ (session_of r txn.lsid) refl lower h
sought_names P r asker txn (Some token.Other) lower h = still_names P r h

commits_names : (P : Named → Type 0) (r : RouterState) (asker : Asker) (txn : Txn)
    (t : Option Token) (refusal : Option Reply) (own : Option Transaction)
    → commit_refusal r asker.conn (session_of r txn.lsid) txn t ≡ refusal
    → begun_in (session_of r txn.lsid) txn.number ≡ own → RouterNames P r → MoveNames P r
    (rq.unless_refused r asker refusal (rq.commit_by r asker txn (session_of r txn.lsid) t own))
commits_names P r asker txn t (Some why) own a b h = replied_names P r asker why h
commits_names P r asker txn t None None a b h =
    sought_names P r asker txn t (commit_above r asker.conn (session_of r txn.lsid) txn t a) h
commits_names P r asker txn t None (Some own) a b h = own_done P r txn.lsid txn.number own _ b h
    (λ i w. commit_asked_names P txn.lsid txn.number asker own i w)

commit_names : (P : Named → Type 0) (r : RouterState) (asker : Asker) (txn : Option Txn)
    (t : Option Token) → RouterNames P r → MoveNames P r (rq.commit r asker txn t)
commit_names P r asker None t h = still_names P r h
commit_names P r asker (Some txn) t h = commits_names P r asker txn t (commit_refusal r asker.conn
    (session_of r txn.lsid) txn t) (begun_in (session_of r txn.lsid) txn.number) refl refl h

aborts_names : (P : Named → Type 0) (r : RouterState) (asker : Asker)
    (txn : Txn) (refusal : Option Reply) (own : Option Transaction)
    → begun_in (session_of r txn.lsid) txn.number ≡ own → RouterNames P r
    → MoveNames P r (rq.unless_refused r asker refusal (rq.abort_by r asker txn own))
aborts_names P r asker txn (Some why) own b h = replied_names P r asker why h
aborts_names P r asker txn None None b h = still_names P r h
aborts_names P r asker txn None (Some own) b h = own_done P r txn.lsid txn.number own _ b h (λ i w.
    client_aborts_name P txn.lsid txn.number asker own i w)

abort_names : (P : Named → Type 0) (r : RouterState) (asker : Asker) (txn : Option Txn)
    → RouterNames P r → MoveNames P r (rq.abort r asker txn)
abort_names P r asker None h = still_names P r h
abort_names P r asker (Some txn) h = aborts_names P r asker txn (abort_refusal r asker.conn
    (session_of r txn.lsid) txn) (begun_in (session_of r txn.lsid) txn.number) refl h

-- Ends of sessions.

end_names : (P : Named → Type 0) (r : RouterState) (lsid : Lsid) (s : Option Session)
    → session_of r lsid ≡ s → RouterNames P r → MoveNames P r (en.end_session r lsid s)
end_names P r lsid None e h = still_names P r h
end_names P r lsid (Some s) e h =
    let d = session_names P lsid s (entry_named P lsid r.sessions s h e) in
    done_names P r lsid (en.ends_session lsid s) h d.doing d.given (λ old x. subst (λ (y : Session).
    GoesOn y (en.ends_session lsid s).session) (some_same s old (sym e ∙ x)) d.goes)

end_all_names : (P : Named → Type 0) (lsids : List Lsid) (r : RouterState) → RouterNames P r
    → MoveNames P r (en.end_sessions r lsids)
end_all_names P [] r h = still_names P r h
end_all_names P (lsid ∷ lsids) r h =
    let first = end_names P r lsid (session_of r lsid) refl h in
    let next = (en.end_session r lsid (session_of r lsid)).state in
    let more = end_all_names P lsids next first.state in
    record {
      state = more.state;
      given = both_name P (en.end_session r lsid (session_of r lsid)).given (en.end_sessions next
          lsids).given first.given more.given;
      goes = all_then r next (en.end_sessions next lsids).state first.goes more.goes;
    }

-- Requests.

also_names : (P : Named → Type 0) (r : RouterState) (m : Move) (asker : Asker) (legacy : Bool)
    (reply : Reply) → MoveNames P r m → MoveNames P r (told_also m asker legacy reply)
also_names P r m asker legacy reply h = record {
  state = h.state;
  given = record {
    aborts = All-append (PostNames P) m.given.aborts [] h.given.aborts (All-nil (PostNames P));
    sends = All-append (PostNames P) m.given.sends [] h.given.sends (All-nil (PostNames P));
  };
  goes = h.goes;
}

-- the times that a request names change no session
met_names : (P : Named → Type 0) (r : RouterState) (time after : Option ℕ) (m : Move)
    → MoveNames P (met r time after) m → MoveNames P r m
met_names P r time after m h = record { state = h.state; given = h.given; goes = h.goes }

serves_names : (P : Named → Type 0) (r : RouterState) (asker : Asker) (legacy : Bool) (x : Request)
    → IfSome (begins_asked r asker.conn (Ok x)) P → RouterNames P r
    → MoveNames P r (rq.serves r asker legacy x)
unfolding rq.serves
serves_names P r asker legacy (request.Ping more time) p h =
    also_names P r _ asker legacy _ (met_names P r time None _ (still_names P (met r time None) h))
serves_names P r asker legacy (request.Hello old_name more time) p h =
    also_names P r _ asker legacy _ (met_names P r time None _ (still_names P (met r time None) h))
serves_names P r asker legacy (request.Statement op txn at after more time) p h =
    met_names P r time after _ (statement_names P (met r time after) asker txn op at p h)
serves_names P r asker legacy (request.Commit txn t more time) p h =
    met_names P r time None _ (commit_names P (met r time None) asker txn t h)
serves_names P r asker legacy (request.Abort txn more time) p h =
    met_names P r time None _ (abort_names P (met r time None) asker txn h)
serves_names P r asker legacy (request.EndSessions ids more time) p h = also_names P r _ asker
    legacy _ (met_names P r time None _ (end_all_names P ids (met r time None) h))

served_names : (P : Named
    → Type 0) (r : RouterState) (conn : ℕ) (bytes : List ℕ) (x : Result Request Unserved)
    → IfSome (begins_asked r conn x) P → RouterNames P r → MoveNames P r (sp.served r conn bytes x)
served_names P r conn bytes (Ok asked) p h = serves_names P r (sp.asker_by conn bytes) _ asked p h
served_names P r conn bytes (Err (un.Told why)) p h =
    also_names P r (still r) _ _ _ (still_names P r h)
served_names P r conn bytes (Err (un.Closed number)) p h = still_names P r h
served_names P r conn bytes (Err un.Memory) p h = still_names P r h

silent_names : (P : Named → Type 0) (r : RouterState) (test : Bool) (m : Move) → MoveNames P r m
    → MoveNames P r (sp.unless_silent test m)
silent_names P r true m h = h
silent_names P r false m h = record {
  state = h.state;
  given = record { aborts = h.given.aborts; sends = h.given.sends };
  goes = h.goes;
}

client_names : (P : Named → Type 0) (r : RouterState) (conn : ℕ) (bytes : List ℕ) (test : Bool)
    → IfSome (if test then None else begins_asked r conn (asked_in r.wall bytes)) P
    → RouterNames P r
    → MoveNames P r (if test then still r
    else sp.unless_silent (wants_reply bytes) (sp.served r conn bytes (asked_in r.wall bytes)))
client_names P r conn bytes true p h = still_names P r h
client_names P r conn bytes false p h =
    silent_names P r (wants_reply bytes) _ (served_names P r conn bytes (asked_in r.wall bytes) p h)

-- Resends.

abbrev Un : (Named → Type 0) → rs.Unanswered → Type 0
Un P u = PostNames P u.1

inserted_names : (P : Named → Type 0) (a : rs.Unanswered) (others : List rs.Unanswered) → Un P a
    → All (Un P) others → All (Un P) (rs.inserted a others)
inserted_names P a [] k h = one (Un P) a k
inserted_names P a (b ∷ others) k h =
    either (is_lt (rs.waiting_cmp a b)) (All (Un P)) _ _ (All-cons (Un P) a (b ∷ others) k h)
    (All-cons (Un P) b (rs.inserted a others) (All-head (Un P) b others h)
    (inserted_names P a others k (All-tail (Un P) b others h)))

order_names : (P : Named → Type 0) (us : List rs.Unanswered) → All (Un P) us
    → All (Un P) (rs.in_order us)
order_names P [] h = h
order_names P (u ∷ us) h = inserted_names P u (rs.in_order us) (All-head (Un P) u us h)
    (order_names P us (All-tail (Un P) u us h))

sought_un : (P : Named → Type 0) (lsid : Lsid) (number : ℤ) (k : Option Seeking)
    → All (Un P) (rs.sought_post lsid number k)
sought_un P lsid number None = All-nil (Un P)
sought_un P lsid number (Some k) = one (Un P) _ tt

waiting_un : (P : Named → Type 0) (lsid : Lsid) (number : ℤ) (doing : Doing)
    → DoingNames P lsid number doing
    → All (Un P) (rs.waiting_in (lsid, record { number = number; doing = doing }))
waiting_un P lsid number (Begun t) h = All-map (Un P) (λ (post : Post). (t.tag, post)) t.waiting h.1
waiting_un P lsid number (Sought seeking known) h = sought_un P lsid number seeking

all_un : (P : Named → Type 0) (sessions : BySession Session) → All (EntryNames P) sessions
    → All (Un P) (flat_map rs.waiting_in sessions)
all_un P [] h = All-nil (Un P)
all_un P (entry ∷ entries) h =
    All-append (Un P) (rs.waiting_in entry) (flat_map rs.waiting_in entries) (waiting_un P
    entry.0 entry.1.number entry.1.doing (All-head (EntryNames P) entry entries h))
    (all_un P entries (All-tail (EntryNames P) entry entries h))

resent_names : (P : Named → Type 0) (r : RouterState) → RouterNames P r → AllNames P (rs.resent r)
resent_names P r h =
    All-append (PostNames P) _ (rs.unanswered r.sessions)
    (each (PostNames P) _ (range_with_len 0 r.chunks.shards) (λ x. tt))
    (All-map (PostNames P) (λ (a : rs.Unanswered). a.1) (rs.in_order (flat_map rs.waiting_in
    r.sessions)) (order_names P (flat_map rs.waiting_in r.sessions) (all_un P r.sessions h)))

-- The step.

delivered_names : (P : Named → Type 0) (r : RouterState) (m : Msg) → RouterNames P r
    → MoveNames P r (sp.delivered r m)
delivered_names P r (msg.Answer a) h =
    in_each_names P (answered_in a) r (λ lsid s k. answered_names P a lsid s.number s.doing k) h
delivered_names P r (msg.Outcome o) h =
    in_each_names P (ended_in o) r (λ lsid s k. ended_names P o lsid s.number s.doing k) h
delivered_names P r other h = still_names P r h

happened_names : (P : Named → Type 0) (r : RouterState) (w : Happening) → IfSome (begins_at r w) P
    → RouterNames P r → MoveNames P r (sp.happened r w)
happened_names P r (what.Client conn bytes) p h =
    client_names P r conn bytes (is_waiting r conn) p h
happened_names P r (what.Gone conn) p h =
    in_each_names P (en.gone_from conn) r (gone_names P conn) h
happened_names P r (what.Deliver e) p h = let m = delivered_names P (timed r e.time) e.msg h in
    record { state = m.state; given = m.given; goes = m.goes }
happened_names P r what.Resend p h = record {
  state = h;
  given = record { aborts = All-nil (PostNames P); sends = resent_names P r h };
  goes = all_self r r refl;
}
happened_names P r what.Moment p h = still_names P r h

-- what a step leaves and gives out
pub record StepNames (P : Named → Type 0) (s t : RouterState) (sent : List Envelope) : Type 0 where
  pub state : RouterNames P t
  pub out : SentNames P sent
  pub goes : AllGo s t

pub step_names : (P : Named → Type 0) (want : Bool) (r : RouterState) (e : NodeEvent)
    → IfSome (begins want r e) P → RouterNames P r
    → StepNames P r (sp.router_step want r e).state
    (given_out (sp.answer_of want (sp.router_step want r e)))
unfolding sp.router_step
step_names P true r e p h = record {
  state = h;
  out = All-nil (λ (e : Envelope). IfSome (named_in e.msg) P);
  goes = all_self r r refl;
}
step_names P false r e p h =
    let m = sp.happened (walled r e.wall) e.what in
    let k = happened_names P (walled r e.wall) e.what p h in
    record {
      state = k.state;
      out =
          All-map (λ (e : Envelope). IfSome (named_in e.msg) P) (sent_by (Router m.state.number)
          m.state.time) (map letter_of (m.given.aborts ++ m.given.sends))
          (All-map (λ (l : Letter). IfSome (named_in l.1) P)
          letter_of (m.given.aborts ++ m.given.sends)
          (All-append (PostNames P) m.given.aborts m.given.sends k.given.aborts k.given.sends));
      goes = k.goes;
    }

-- What a step draws.

kept : (r t : RouterState) → t.number ≡ r.number → t.boot ≡ r.boot → t.serial ≡ r.serial → Kept r t
kept r t a b c = record { number = a; boot = b; serial = c }

begins_leave : (r : RouterState) (lsid : Lsid) (s : Option Session)
    (number : ℤ) (asker : Asker) (op : Op) (read_at : ℕ)
    → ((old : Session) → session_of r lsid ≡ Some old → old.number <ℤ number)
    → Drew r (name_of lsid number (rq.next_tag r))
    (rq.begins_at r lsid s number asker op read_at).state
begins_leave r lsid s number asker op read_at fresh =
    let deed = st.asks r.chunks lsid number asker op (rq.begun_at r read_at) in
    record {
      number = refl;
      boot = refl;
      serial = refl;
      tag = refl;
      fresh = fresh;
      come = (deed.session, entry_there lsid deed.session r.sessions, inr (refl, refl));
    }

states_leave : (r : RouterState) (asker : Asker) (txn : Txn) (op : Op)
    (at : Option ℕ) (refusal : Option Reply) (own : Option Transaction)
    → statement_refusal r asker.conn (session_of r txn.lsid) txn op ≡ refusal
    → begun_in (session_of r txn.lsid) txn.number ≡ own
    → Leaves r (rq.unless_refused r asker refusal (rq.states r txn.lsid (session_of r txn.lsid)
    txn.number asker op at own)).state (begins_unless r txn refusal own)
states_leave r asker txn op at (Some why) own a b = kept r r refl refl refl
states_leave r asker txn op at None (Some t) a b =
    record { number = refl; boot = refl; serial = refl }
states_leave r asker txn op at None None a b = begins_leave r txn.lsid (session_of r txn.lsid)
    txn.number asker op _ (fresh_if r asker.conn (session_of r txn.lsid) txn op a b)

statement_leaves : (r : RouterState) (asker : Asker) (txn : Option Txn) (op : Op) (at : Option ℕ)
    → Leaves r (rq.statement r asker txn op at).state (begins_by r asker.conn txn op)
statement_leaves r asker None op at = let txn = rq.by_itself r asker.conn in
    states_leave r asker txn op at (statement_refusal r asker.conn (session_of r txn.lsid) txn op)
    (begun_in (session_of r txn.lsid) txn.number) refl refl
statement_leaves r asker (Some txn) op at =
    states_leave r asker txn op at (statement_refusal r asker.conn (session_of r txn.lsid) txn op)
    (begun_in (session_of r txn.lsid) txn.number) refl refl

refused_leaves : (r : RouterState) (asker : Asker) (refusal : Option Reply) (m : Move)
    → Kept r m.state → Kept r (rq.unless_refused r asker refusal m).state
refused_leaves r asker None m h = h
refused_leaves r asker (Some why) m h = kept r r refl refl refl

sought_leaves : (r : RouterState) (asker : Asker) (txn : Txn) (s : Option Session)
    (t : Option Token) → Kept r (rq.commit_sought r asker txn s t).state
sought_leaves r asker txn s None = kept r r refl refl refl
sought_leaves r asker txn s (Some (token.Early tag)) = kept r r refl refl refl
sought_leaves r asker txn s (Some (token.Placed tag shard boot)) =
    record { number = refl; boot = refl; serial = refl }
sought_leaves r asker txn s (Some token.Other) = kept r r refl refl refl

commit_by_leaves : (r : RouterState) (asker : Asker) (txn : Txn) (s : Option Session)
    (t : Option Token) (own : Option Transaction) → Kept r (rq.commit_by r asker txn s t own).state
commit_by_leaves r asker txn s t None = sought_leaves r asker txn s t
commit_by_leaves r asker txn s t (Some own) = record { number = refl; boot = refl; serial = refl }

commit_leaves : (r : RouterState) (asker : Asker) (txn : Option Txn) (t : Option Token)
    → Kept r (rq.commit r asker txn t).state
commit_leaves r asker None t = kept r r refl refl refl
commit_leaves r asker (Some txn) t = refused_leaves r asker _ _ (commit_by_leaves r asker txn
    (session_of r txn.lsid) t (begun_in (session_of r txn.lsid) txn.number))

abort_by_leaves : (r : RouterState) (asker : Asker) (txn : Txn) (own : Option Transaction)
    → Kept r (rq.abort_by r asker txn own).state
abort_by_leaves r asker txn None = kept r r refl refl refl
abort_by_leaves r asker txn (Some own) = record { number = refl; boot = refl; serial = refl }

abort_leaves : (r : RouterState) (asker : Asker) (txn : Option Txn)
    → Kept r (rq.abort r asker txn).state
abort_leaves r asker None = kept r r refl refl refl
abort_leaves r asker (Some txn) = refused_leaves r asker _ _ (abort_by_leaves r asker txn
    (begun_in (session_of r txn.lsid) txn.number))

end_leaves : (r : RouterState) (lsid : Lsid) (s : Option Session)
    → Kept r (en.end_session r lsid s).state
end_leaves r lsid None = kept r r refl refl refl
end_leaves r lsid (Some s) = record { number = refl; boot = refl; serial = refl }

kept_then : (r s t : RouterState) → Kept r s → Kept s t → Kept r t
kept_then r s t h k =
    record { number = k.number ∙ h.number; boot = k.boot ∙ h.boot; serial = k.serial ∙ h.serial }

end_all_leave : (lsids : List Lsid) (r : RouterState) → Kept r (en.end_sessions r lsids).state
end_all_leave [] r = kept r r refl refl refl
end_all_leave (lsid ∷ lsids) r =
    let next = (en.end_session r lsid (session_of r lsid)).state in
    kept_then r next (en.end_sessions next lsids).state (end_leaves r lsid (session_of r lsid))
    (end_all_leave lsids next)

-- times change nothing of it
met_leaves : (r : RouterState) (time after : Option ℕ) (t : RouterState) (o : Option Named)
    → Leaves (met r time after) t o → Leaves r t o
met_leaves r time after t None h = record { number = h.number; boot = h.boot; serial = h.serial }
met_leaves r time after t (Some x) h = record {
  number = h.number;
  boot = h.boot;
  serial = h.serial;
  tag = h.tag;
  fresh = h.fresh;
  come = h.come;
}

walled_leaves : (r : RouterState) (wall : ℕ) (t : RouterState) (o : Option Named)
    → Leaves (walled r wall) t o → Leaves r t o
walled_leaves r wall t None h = record { number = h.number; boot = h.boot; serial = h.serial }
walled_leaves r wall t (Some x) h = record {
  number = h.number;
  boot = h.boot;
  serial = h.serial;
  tag = h.tag;
  fresh = h.fresh;
  come = h.come;
}

kept_met : (r : RouterState) (time after : Option ℕ) (t : RouterState)
    → Kept (met r time after) t → Kept r t
kept_met r time after t h = record { number = h.number; boot = h.boot; serial = h.serial }

serves_leave : (r : RouterState) (asker : Asker) (legacy : Bool) (x : Request)
    → Leaves r (rq.serves r asker legacy x).state (begins_asked r asker.conn (Ok x))
unfolding rq.serves
serves_leave r asker legacy (request.Ping more time) =
    record { number = refl; boot = refl; serial = refl }
serves_leave r asker legacy (request.Hello old_name more time) =
    record { number = refl; boot = refl; serial = refl }
serves_leave r asker legacy (request.Statement op txn at after more time) =
    met_leaves r time after _ (begins_by (met r time after) asker.conn txn op)
    (statement_leaves (met r time after) asker txn op at)
serves_leave r asker legacy (request.Commit txn t more time) =
    kept_met r time None _ (commit_leaves (met r time None) asker txn t)
serves_leave r asker legacy (request.Abort txn more time) =
    kept_met r time None _ (abort_leaves (met r time None) asker txn)
serves_leave r asker legacy (request.EndSessions ids more time) =
    kept_met r time None _ (end_all_leave ids (met r time None))

served_leaves : (r : RouterState) (conn : ℕ) (bytes : List ℕ) (x : Result Request Unserved)
    → Leaves r (sp.served r conn bytes x).state (begins_asked r conn x)
served_leaves r conn bytes (Ok asked) = serves_leave r (sp.asker_by conn bytes) _ asked
served_leaves r conn bytes (Err (un.Told why)) = kept r r refl refl refl
served_leaves r conn bytes (Err (un.Closed number)) = kept r r refl refl refl
served_leaves r conn bytes (Err un.Memory) = kept r r refl refl refl

silent_leaves : (r : RouterState) (test : Bool) (m : Move) (o : Option Named) → Leaves r m.state o
    → Leaves r (sp.unless_silent test m).state o
silent_leaves r true m o h = h
silent_leaves r false m o h = h

client_leaves : (r : RouterState) (conn : ℕ) (bytes : List ℕ) (test : Bool)
    → Leaves r (if test then still r else sp.unless_silent (wants_reply bytes)
    (sp.served r conn bytes (asked_in r.wall bytes))).state (if test then None
    else begins_asked r conn (asked_in r.wall bytes))
client_leaves r conn bytes true = kept r r refl refl refl
client_leaves r conn bytes false =
    silent_leaves r (wants_reply bytes) _ _ (served_leaves r conn bytes (asked_in r.wall bytes))

delivered_leaves : (r : RouterState) (m : Msg) → Kept r (sp.delivered r m).state
delivered_leaves r (msg.Answer a) = record { number = refl; boot = refl; serial = refl }
delivered_leaves r (msg.Outcome o) = record { number = refl; boot = refl; serial = refl }
delivered_leaves r other = kept r r refl refl refl

happened_leaves : (r : RouterState) (w : Happening)
    → Leaves r (sp.happened r w).state (begins_at r w)
happened_leaves r (what.Client conn bytes) = client_leaves r conn bytes (is_waiting r conn)
happened_leaves r (what.Gone conn) = record { number = refl; boot = refl; serial = refl }
happened_leaves r (what.Deliver e) = let k = delivered_leaves (timed r e.time) e.msg in
    record { number = k.number; boot = k.boot; serial = k.serial }
happened_leaves r what.Resend = kept r r refl refl refl
happened_leaves r what.Moment = kept r r refl refl refl

pub step_leaves : (want : Bool) (r : RouterState) (e : NodeEvent)
    → Leaves r (sp.router_step want r e).state (begins want r e)
unfolding sp.router_step
step_leaves true r e = kept r r refl refl refl
step_leaves false r e = walled_leaves r e.wall _ (begins_at (walled r e.wall) e.what)
    (happened_leaves (walled r e.wall) e.what)
