-- What a request does at a router for itself: it is answered, or waited for, in a session whose
-- transaction it is of; and no request is told a cause at once.
use Rattle.std.proofs.Common.{◌≡◌, ◌⊎◌, inl, inr, ◌∙◌, ◌&&◌, ◌++◌, ℕ, ℤ, Bool, true, false}
use Rattle.std.proofs.Common.{not, All, Contains, List, [], ◌∷◌, length, nat_eq}
use Rattle.std.proofs.Common.{int_lt, is_none, is_some, Option, Some, None}
use Rattle.std.proofs.Common.{refl, sym, ap, subst, if◌then◌else◌}
use Rattle.std.proofs.lemmas.Bool.Decides.{Decides-int_eq}
use Rattle.std.proofs.lemmas.List.Elements.{All-nil, All-append, All-weaker, All-contains}
use Rattle.std.proofs.lemmas.List.Elements.{All-contains_itself}
use Rattle.std.specs.Ordering.{int_eq}
use Rattle.txn_types.specs.BySession.{BySession, with_entry}
use Rattle.txn_types.specs.declared.decision.Token.{Token}
use Rattle.txn_types.specs.declared.decision.Token.TheVariants as token
use Rattle.txn_types.specs.declared.message.Envelope.{Envelope}
use Rattle.txn_types.specs.declared.message.Statement.{Statement}
use Rattle.txn_types.specs.declared.names.Tag.{Tag}
use Rattle.txn_types.specs.declared.node.Lsid.{Lsid}
use Rattle.txn_types.specs.declared.operation.Op.{Op}
use Rattle.txn_semantics.specs.Touched.{first_some}
use Rattle.client_cmd.specs.declared.request.Txn.{Txn}
use Rattle.client_reply.specs.declared.reply.Refusal.{Refusal}
use Rattle.client_reply.specs.declared.reply.Refusal.TheVariants as refusal
use Rattle.client_reply.specs.declared.reply.Reply.{Reply}
use Rattle.client_reply.specs.declared.reply.Reply.TheVariants as reply
use Rattle.chunk_map.specs.Map.{Map}
use Rattle.chunk_map.specs.Parts.{shards_of}
use Rattle.router_state.specs.Deeds.{Move, still, answers, done_in, told, nothing, in_session}
use Rattle.router_state.specs.Deeds.{telling, both, aborting}
use Rattle.router_state.specs.Shards.{readers, writers}
use Rattle.router_state.specs.State.{RouterState, session_of, asker_of, asker_in, is_from, is_own}
use Rattle.router_state.specs.State.{commit_sent, is_waiting}
use Rattle.router_state.specs.declared.deed.Deed.{Deed}
use Rattle.router_state.specs.declared.deed.Given.{Given}
use Rattle.router_state.specs.declared.deed.Sent.{Sent}
use Rattle.router_state.specs.declared.state.Asker.{Asker}
use Rattle.router_state.specs.declared.state.Doing.{Doing}
use Rattle.router_state.specs.declared.state.Doing.TheVariants.{Begun, Sought}
use Rattle.router_state.specs.declared.state.Phase.{Phase}
use Rattle.router_state.specs.declared.state.Phase.TheVariants.{Idle, Asking, Checking, Deciding}
use Rattle.router_state.specs.declared.state.Phase.TheVariants.{Committed, Released, Aborted}
use Rattle.router_state.specs.declared.state.Seeking.{Seeking}
use Rattle.router_state.specs.declared.state.Session.{Session}
use Rattle.router_state.specs.declared.state.Transaction.{Transaction}
use Rattle.router_rules.specs.Commits as co
use Rattle.router_rules.specs.Ends as en
use Rattle.router_rules.specs.Statements as st
use Rattle.router_rules.specs.Times.{read_time}
use Rattle.router_rules.specs.Tokens as tk
use Rattle.router_plan.specs.Plans.{told_also}
use Rattle.router_plan.specs.Refusals as rf
use Rattle.router_core.specs.Requests as rq
use Rattle.participant.proofs.Cases.{either}
use Rattle.shard_image.proofs.Sessions.{with_entry_again}
use Rattle.world_laws.proofs.Beginning.{first_none, so_not, is_begun, same_unless}
use Rattle.world_laws.proofs.Naming.{one, each}
use Rattle.world_laws.proofs.PartTimes.{entries_put}
use Rattle.known_laws.proofs.Sessions.{entry_named}
use Rattle.answer_laws.proofs.Beginning.{leaves_fit}
use Rattle.answer_laws.proofs.Deeds.{leaves_any, anew_given, seeks_in_names}
use Rattle.answer_laws.proofs.Fits.{PostFits, AllFit, GivenFit, NoStatement}
use Rattle.answer_laws.proofs.Lists.{has_first}
use Rattle.told_laws.proofs.Lists.{same_nat}
use Rattle.reply_laws.proofs.Lists.{waits_in, put_waits_here, none_waits, not_both}
use Rattle.making_laws.proofs.Hearing.{Stated, IsPlain, TxnHas, EntryHas, DoingHas, tag_of, TagFits}
use Rattle.making_laws.proofs.Hearing.{IsBare, Goes, commits_goes, decides_goes, finished_goes}
use Rattle.making_laws.proofs.Hearing.{ended_stated, not_bare, no_some}

-- it is told something
abbrev pub Told : ℕ → List Sent → Type 0
Told conn replies = (s : Sent) × Contains replies s × (s.conn ≡ conn)

abbrev pub PlainSent : Sent → Type 0
PlainSent s = IsPlain s.reply

-- a session that has what is said of sessions, and whose request is of this transaction
pub record IsNew (begun : List Statement) (sent : List Envelope) (conn : ℕ) (tag : Option Tag)
    (entry : Lsid × Session) : Type 0 where
  pub has : EntryHas begun sent entry
  pub fits : is_from conn (asker_of entry.1.doing) ≡ true → TagFits tag entry.1.doing

abbrev pub OldOrNew : List Statement → List Envelope → ℕ → Option Tag → BySession Session
    → Lsid × Session → Type 0
OldOrNew begun sent conn tag old entry = Contains old entry ⊎ IsNew begun sent conn tag entry

pub record Serves (begun : List Statement) (sent : List Envelope) (conn : ℕ) (tag : Option Tag)
    (old : BySession Session) (m : Move) : Type 0 where
  pub entries : All (OldOrNew begun sent conn tag old) m.state.sessions
  pub plain : All PlainSent m.given.replies
  pub own : (waits_in conn m.state.sessions ≡ true) ⊎ Told conn m.given.replies

module _ (begun : List Statement) (sent : List Envelope) (conn : ℕ) (tag : Option Tag)
    (old : BySession Session) where
  abbrev Entry : Lsid × Session → Type 0
  Entry = OldOrNew begun sent conn tag old

  pub self : All Entry old
  self = All-weaker (Contains old) Entry (λ x c. inl c) old (All-contains_itself old)

  pub same_serves : (m : Move) → m.state.sessions ≡ old → All PlainSent m.given.replies
      → Told conn m.given.replies → Serves begun sent conn tag old m
  same_serves m is plain told = record {
    entries = subst (All Entry) (sym is) self;
    plain = plain;
    own = inr told;
  }

  pub put_serves : (m : Move) (lsid : Lsid) (v : Session) → m.state.sessions ≡ with_entry lsid v old
      → EntryHas begun sent (lsid, v)
      → (is_from conn (asker_of v.doing) ≡ true → TagFits tag v.doing)
      → All PlainSent m.given.replies
      → (is_from conn (asker_of v.doing) ≡ true) ⊎ Told conn m.given.replies
      → Serves begun sent conn tag old m
  put_serves m lsid v is has fits plain own = record {
    entries = subst (All Entry) (sym is)
        (entries_put Entry lsid v old (inr (record { has = has; fits = fits })) self);
    plain = plain;
    own = elim own [
      | inl from ↦ inl (ap (waits_in conn) is ∙ put_waits_here conn lsid v old from)
      | inr told ↦ inr told
    ];
  }

told_one : (asker : Asker) (r : Reply) → Told asker.conn (told asker r ∷ [])
told_one asker r = (told asker r, has_first (told asker r) [], refl)

plain_one : (asker : Asker) (r : Reply) → IsPlain r → All PlainSent (told asker r ∷ [])
plain_one asker r h = one PlainSent (told asker r) h

none_plain : All PlainSent []
none_plain = All-nil PlainSent

own_from : (asker : Asker) (o : Option Asker) → o ≡ Some asker → is_from asker.conn o ≡ true
own_from asker o e = ap (is_from asker.conn) e ∙ same_nat asker.conn

not_none : {X : Type 0} (conn : ℕ) (o : Option Asker) → o ≡ None → is_from conn o ≡ true → X
not_none conn o e from = not_both (is_from conn o) from (ap (is_from conn) e)

-- What was refused.

abbrev PlainIf : Option Reply → Type 0
PlainIf None = Unit {0}
PlainIf (Some r) = IsPlain r

abbrev AllPlain : List (Option Reply) → Type 0
AllPlain [] = Unit {0}
AllPlain (o ∷ os) = PlainIf o × AllPlain os

first_plain : (os : List (Option Reply)) → AllPlain os → PlainIf (first_some os)
first_plain [] h = tt
first_plain (None ∷ os) h = first_plain os h.1
first_plain (Some r ∷ os) h = h.0

so_plain : (b : Bool) (why : Refusal) → PlainIf (rf.where_so b why)
so_plain true why = tt
so_plain false why = tt

old_plain : (session : Option Session) (number : ℤ) → PlainIf (rf.too_old session number)
old_plain None number = tt
old_plain (Some v) number = either (int_lt number v.number) PlainIf
    (Some (reply.TooOld number v.number)) None tt tt

statement_plain : (r : RouterState) (conn : ℕ) (session : Option Session) (txn : Txn) (op : Op)
    → PlainIf (rf.statement_refusal r conn session txn op)
unfolding rf.statement_refusal
statement_plain r conn session txn op =
    let n = txn.number in
    first_plain (rf.too_old session n ∷ rf.busy session conn ∷ rf.started session txn
    ∷ rf.no_transaction session n txn.start false ∷ rf.after_commit session n
    ∷ rf.too_long session n ∷ rf.too_many r session ∷ rf.spent r session n
    ∷ rf.many_shards r.chunks op ∷ rf.known_aborted session n ∷ []) (
      old_plain session n,
      (
        so_plain _ _,
        (
          so_plain _ _,
          (
            so_plain _ _,
            (
              so_plain _ _,
              (so_plain _ _, (so_plain _ _, (so_plain _ _, (so_plain _ _, (so_plain _ _, tt))))),
            ),
          ),
        ),
      ),
    )

commit_plain : (r : RouterState) (conn : ℕ) (session : Option Session) (txn : Txn)
    (t : Option Token) → PlainIf (rf.commit_refusal r conn session txn t)
unfolding rf.commit_refusal
commit_plain r conn session txn t =
    let n = txn.number in
    first_plain (rf.too_old session n ∷ rf.busy session conn ∷ rf.started session txn
    ∷ rf.no_transaction session n (is_some t) true ∷ rf.no_token_shard session n r.chunks.shards t
    ∷ rf.too_many r session ∷ rf.known_aborted session n ∷ []) (
      old_plain session n,
      (
        so_plain _ _,
        (
          so_plain _ _,
          (
            so_plain _ _,
            (
              so_plain _ _,
              (so_plain _ _, (so_plain _ _, tt)),
            ),
          ),
        ),
      ),
    )

abort_plain : (r : RouterState) (conn : ℕ) (session : Option Session) (txn : Txn)
    → PlainIf (rf.abort_refusal r conn session txn)
unfolding rf.abort_refusal
abort_plain r conn session txn =
    let n = txn.number in
    first_plain (rf.too_old session n ∷ rf.busy session conn ∷ rf.started session txn
    ∷ rf.no_transaction session n false false ∷ rf.after_commit session n ∷ [])
    (old_plain session n, (so_plain _ _, (so_plain _ _, (so_plain _ _, (so_plain _ _, tt)))))

refused_serves : (begun : List Statement) (sent : List Envelope) (tag : Option Tag)
    (r : RouterState) (asker : Asker) (why : Reply) → IsPlain why
    → Serves begun sent asker.conn tag r.sessions (answers r asker why)
refused_serves begun sent tag r asker why plain =
    same_serves begun sent asker.conn tag r.sessions (answers r asker why) refl
    (plain_one asker why plain) (told_one asker why)

-- What a session has that isn't waited for.

session_has : (begun : List Statement) (sent : List Envelope) (r : RouterState) (lsid : Lsid)
    (v : Session) → All (EntryHas begun sent) r.sessions → session_of r lsid ≡ Some v
    → EntryHas begun sent (lsid, v)
session_has begun sent r lsid v h is =
    entry_named (EntryHas begun sent) lsid r.sessions h v is

not_from : (conn : ℕ) (r : RouterState) (lsid : Lsid) (v : Session) → is_waiting r conn ≡ false
    → session_of r lsid ≡ Some v → is_from conn (asker_of v.doing) ≡ false
not_from conn r lsid v none is =
    entry_named (λ (entry : Lsid × Session). is_from conn (asker_of entry.1.doing) ≡ false) lsid
    r.sessions (none_waits conn r.sessions none) v is

txn_has : (begun : List Statement) (sent : List Envelope) (r : RouterState) (lsid : Lsid)
    (number : ℤ) (t : Transaction) → All (EntryHas begun sent) r.sessions
    → rf.begun_in (session_of r lsid) number ≡ Some t → TxnHas begun sent lsid number t
txn_has begun sent r lsid number t h e =
    let b = is_begun (session_of r lsid) number t e in
    let has = session_has begun sent r lsid b.there h b.is in
    subst (λ (n : ℤ). TxnHas begun sent lsid n t) b.number_is
    (subst (λ (d : Doing). DoingHas begun sent lsid b.there.number d) b.doing has)

-- Statements.

-- it is refused, or asked, by a transaction that has what is said of it
pub record RefusesSo (asker : Asker) (old : BySession Session) (m : Move) : Type 0 where
  pub why : Reply
  pub plain : IsPlain why
  pub replies : m.given.replies ≡ told asker why ∷ []
  pub sessions : m.state.sessions ≡ old

pub record AsksSo (begun : List Statement) (sent : List Envelope) (asker : Asker)
    (old : BySession Session) (chunks : Map) (op : Op) (m : Move) : Type 0 where
  pub lsid : Lsid
  pub number : ℤ
  pub t : Transaction
  pub has : TxnHas begun sent lsid number t
  pub sends : m.given.sends ≡ st.statements_to chunks lsid number t op
  pub aborts : AllFit NoStatement m.given.aborts
  pub replies : m.given.replies ≡ []
  pub sessions : m.state.sessions
      ≡ with_entry lsid (st.asks chunks lsid number asker op t).session old

abbrev pub StatesSo : List Statement → List Envelope → Asker → BySession Session → Map → Op → Move
    → Type 0
StatesSo begun sent asker old chunks op m =
    RefusesSo asker old m ⊎ AsksSo begun sent asker old chunks op m

states_so : (begun : List Statement) (sent : List Envelope) (r : RouterState) (asker : Asker)
    (lsid : Lsid) (number : ℤ) (op : Op) (at : Option ℕ) (refused : Option Reply)
    (own : Option Transaction) → PlainIf refused
    → ((t : Transaction) → own ≡ Some t → TxnHas begun sent lsid number t)
    → StatesSo begun sent asker r.sessions r.chunks op (rq.unless_refused r asker refused
    (rq.states r lsid (session_of r lsid) number asker op at own))
states_so begun sent r asker lsid number op at (Some why) own plain has = inl (record {
  why = why;
  plain = plain;
  replies = refl;
  sessions = refl;
})
states_so begun sent r asker lsid number op at None (Some t) plain has = inr (record {
  lsid = lsid;
  number = number;
  t = t;
  has = has t refl;
  sends = refl;
  aborts = All-nil (PostFits NoStatement);
  replies = refl;
  sessions = refl;
})
states_so begun sent r asker lsid number op at None None plain has = inr (record {
  lsid = lsid;
  number = number;
  t = rq.begun_at r (read_time r (is_own lsid) (shards_of r.chunks op) at);
  has = record {
    stated = inl (record { parts = refl; wrote = refl; waiting = refl; phase = tt });
    kept = tt;
    given = tt;
  };
  sends = refl;
  aborts = All-append (PostFits NoStatement) (rq.left_of lsid (session_of r lsid)) []
      (leaves_fit NoStatement lsid (session_of r lsid)) (All-nil (PostFits NoStatement));
  replies = refl;
  sessions = refl;
})

pub statement_so : (begun : List Statement) (sent : List Envelope) (r : RouterState)
    (asker : Asker) (txn : Option Txn) (op : Op) (at : Option ℕ)
    → All (EntryHas begun sent) r.sessions
    → StatesSo begun sent asker r.sessions r.chunks op (rq.statement r asker txn op at)
statement_so begun sent r asker None op at h =
    let txn = rq.by_itself r asker.conn in
    states_so begun sent r asker txn.lsid txn.number op at
    (rf.statement_refusal r asker.conn (session_of r txn.lsid) txn op)
    (rf.begun_in (session_of r txn.lsid) txn.number)
    (statement_plain r asker.conn (session_of r txn.lsid) txn op)
    (λ t e. txn_has begun sent r txn.lsid txn.number t h e)
statement_so begun sent r asker (Some txn) op at h =
    states_so begun sent r asker txn.lsid txn.number op at
    (rf.statement_refusal r asker.conn (session_of r txn.lsid) txn op)
    (rf.begun_in (session_of r txn.lsid) txn.number)
    (statement_plain r asker.conn (session_of r txn.lsid) txn op)
    (λ t e. txn_has begun sent r txn.lsid txn.number t h e)

-- Commits.

number_same : (a b : ℤ) → int_lt a b ≡ false → int_lt b a ≡ false → int_eq a b ≡ true
number_same a b e f = (Decides-int_eq a b).1 (same_unless a b f e)

pub begun_found : (s : Session) (number : ℤ) (t : Transaction) → s.doing ≡ Begun t
    → int_eq s.number number ≡ true → rf.begun_in (Some s) number ≡ Some t
begun_found s number t e same = rw (same, e) refl

module _ (begun : List Statement) (sent : List Envelope) (tag : Option Tag) (r : RouterState)
    (asker : Asker) (h : All (EntryHas begun sent) r.sessions)
    (free : is_waiting r asker.conn ≡ false) where
  abbrev Serve : Move → Type 0
  Serve m = Serves begun sent asker.conn tag r.sessions m

  goes_serves : (lsid : Lsid) (number : ℤ) (t : Transaction) (d : Deed)
      → (Stated begun t.tag lsid number → tag ≡ Some t.tag)
      → Goes begun sent lsid number (Some asker) t d → Serve (done_in r lsid d)
  goes_serves lsid number t d is g =
      elim g.goes [
        | inl w ↦
            put_serves begun sent asker.conn tag r.sessions (done_in r lsid d) lsid d.session refl
            g.has
            (λ from. inl (is w.2 ∙ ap (λ (x : Tag). Some x) (sym g.tag) ∙ ap tag_of (sym g.doing)))
            (subst (All PlainSent) (sym w.1) none_plain)
            (inl (own_from asker (asker_of d.session.doing) w.0))
        | inr e ↦
            put_serves begun sent asker.conn tag r.sessions (done_in r lsid d) lsid d.session refl
            g.has (λ from. not_none asker.conn (asker_of d.session.doing) e.0 from)
            (subst (All PlainSent) (sym e.1.1) (plain_one asker e.1.0 e.1.2))
            (inr (subst (Told asker.conn) (sym e.1.1) (told_one asker e.1.0)))
      ]

  -- it is waited for in this transaction
  waits_serves : (lsid : Lsid) (number : ℤ) (v : Transaction) → asker_in v.phase ≡ Some asker
      → TxnHas begun sent lsid number v → tag ≡ Some v.tag
      → Serve (done_in r lsid (in_session number v nothing))
  waits_serves lsid number v from has is =
      put_serves begun sent asker.conn tag r.sessions (done_in r lsid (in_session number v nothing))
      lsid (record { number = number; doing = Begun v }) refl has (λ from. inl is) none_plain
      (inl (own_from asker (asker_in v.phase) from))

  module _ (lsid : Lsid) (number : ℤ) (t : Transaction)
      (is : Stated begun t.tag lsid number → tag ≡ Some t.tag) where
    listens_serves : (other : Option Asker)
        → TxnHas begun sent lsid number (record t { phase = Deciding other })
        → Serve (done_in r lsid
        (co.listens lsid number asker (record t { phase = Deciding other })))
    listens_serves other has =
        let stated = not_bare begun sent lsid number t (Deciding other) (λ w. w) has.stated in
        either (nat_eq (length t.waiting) 0) (λ (d : Deed). Serve (done_in r lsid d))
        (co.decides lsid number (Some asker) (record t { phase = Deciding other })) _
        (goes_serves lsid number (record t { phase = Deciding other })
        (co.decides lsid number (Some asker) (record t { phase = Deciding other })) is
        (decides_goes begun sent lsid number (Some asker)
        (record t { phase = Deciding other }) has))
        (waits_serves lsid number (record t { phase = Deciding (Some asker) }) refl
        (record { stated = inr stated; kept = has.kept; given = tt }) (is stated))

    asked_serves : (p : Phase) → is_from asker.conn (asker_in p) ≡ false
        → rf.is_elsewhere asker.conn (asker_in p) ≡ false
        → TxnHas begun sent lsid number (record t { phase = p })
        → Serve (done_in r lsid (co.commit_asked lsid number asker (record t { phase = p })))
    asked_serves Idle apart here has =
        goes_serves lsid number (record t { phase = Idle })
        (co.commits lsid number (Some asker) (record t { phase = Idle })) is
        (commits_goes begun sent lsid number (Some asker) (record t { phase = Idle }) has)
    asked_serves (Asking other op given) apart here has =
        not_both (not (nat_eq other.conn asker.conn)) (ap not apart) here
    asked_serves (Checking other) apart here has =
        let stated = not_bare begun sent lsid number t (Checking other) (λ w. w) has.stated in
        waits_serves lsid number (record t { phase = Checking (Some asker) }) refl
        (record { stated = inr stated; kept = has.kept; given = tt }) (is stated)
    asked_serves (Deciding other) apart here has = listens_serves other has
    asked_serves Committed apart here has =
        goes_serves lsid number (record t { phase = Committed })
        (co.finished lsid number (Some asker) Committed (record t { phase = Committed })) is
        (finished_goes begun sent lsid number (Some asker) Committed
        (record t { phase = Committed })
        refl tt tt has)
    asked_serves Released apart here has =
        goes_serves lsid number (record t { phase = Released })
        (co.finished lsid number (Some asker) Released (record t { phase = Released })) is
        (finished_goes begun sent lsid number (Some asker) Released (record t { phase = Released })
        refl tt tt has)
    asked_serves (Aborted so) apart here has =
        put_serves begun sent asker.conn tag r.sessions _ lsid
        (record { number = number; doing = Begun (record t { phase = Aborted so }) }) refl has
        (λ from. not_none asker.conn None refl from)
        (plain_one asker (reply.Refused refusal.Aborted) tt)
        (inr (told_one asker (reply.Refused refusal.Aborted)))

  -- Tokens.

  sought_serves : (lsid : Lsid) (number : ℤ) (k : Seeking) (known : List Tag) (d : Deed)
      → d.session ≡ record { number = number; doing = Sought (Some k) known }
      → d.given.replies ≡ [] → k.asker ≡ Some asker → tag ≡ Some k.tag
      → Serve (done_in r lsid d)
  sought_serves lsid number k known d session replies from is =
      let v : Session = record { number = number; doing = Sought (Some k) known } in
      put_serves begun sent asker.conn tag r.sessions (done_in r lsid d) lsid v
      (ap (λ (s : Session). with_entry lsid s r.sessions) session) tt (λ from. inl is)
      (subst (All PlainSent) (sym replies) none_plain) (inl (own_from asker k.asker from))

  seeks_serves : (lsid : Lsid) (number : ℤ) (k : Seeking) (o : Option Session)
      → session_of r lsid ≡ o → k.asker ≡ Some asker → tag ≡ Some k.tag
      → rf.too_old o number ≡ None → rf.begun_in o number ≡ None
      → Serve (done_in r lsid (tk.seeks_by lsid number asker k o))
  seeks_serves lsid number k None there from is low none =
      sought_serves lsid number k [] _ refl refl from is
  seeks_serves lsid number k (Some s) there from is low none =
      seeks_case s.doing (int_lt s.number number) refl refl
    where
      again : (older : Option Seeking) (known : List Tag)
          → Serve (done_in r lsid (tk.asks_for lsid number k older known))
      again None known = sought_serves lsid number k known _ refl refl from is
      again (Some older) known =
          either (tk.same_place older k) (λ (d : Deed). Serve (done_in r lsid d)) _ _
          (sought_serves lsid number k known _ refl refl from is)
          (sought_serves lsid number k known _ refl refl from is)

      known_case : (seeking : Option Seeking) (known : List Tag) → s.doing ≡ Sought seeking known
          → Serve (done_in r lsid (tk.seeks_in lsid number asker k seeking known))
      known_case seeking known e =
          either (tk.is_known k.tag known) (λ (d : Deed). Serve (done_in r lsid d)) _ _
          (put_serves begun sent asker.conn tag r.sessions _ lsid
          (record { number = number; doing = Sought seeking known }) refl tt
          (λ from. not_both (is_from asker.conn (asker_of (Sought seeking known))) from
          (ap (λ (d : Doing). is_from asker.conn (asker_of d)) (sym e)
          ∙ not_from asker.conn r lsid s free there))
          (plain_one asker (tk.token_reply k) tt) (inr (told_one asker (tk.token_reply k))))
          (again seeking known)

      same_number : int_lt s.number number ≡ false → int_eq s.number number ≡ true
      same_number e = by (int_lt number s.number) refl low
        where
          by : (b : Bool) → int_lt number s.number ≡ b
              → (if b then Some (reply.TooOld number s.number) else None) ≡ None
              → int_eq s.number number ≡ true
          by true f g = no_some (reply.TooOld number s.number) (sym g)
          by false f g = number_same s.number number e f

      seeks_case : (doing : Doing) (test : Bool) → s.doing ≡ doing
          → int_lt s.number number ≡ test
          → Serve (done_in r lsid (tk.seeks_by lsid number asker k
          (Some (record { number = s.number; doing = doing }))))
      seeks_case doing true e less = rw less (sought_serves lsid number k [] _ refl refl from is)
      seeks_case (Sought seeking known) false e less = rw less (known_case seeking known e)
      seeks_case (Begun t) false e less =
          let found : rf.begun_in (Some s) number ≡ Some t = begun_found s number t e
          (same_number less) in
          no_some t (sym none ∙ found)

  -- A request to commit.

  elsewhere_if : (lsid : Lsid) (v : Session) → rf.busy (session_of r lsid) asker.conn ≡ None
      → session_of r lsid ≡ Some v → rf.is_elsewhere asker.conn (asker_of v.doing) ≡ false
  elsewhere_if lsid v e is =
      ap (rf.is_so (λ (s : Session). rf.is_elsewhere asker.conn (asker_of s.doing))) (sym is)
      ∙ so_not (rf.is_so (λ (s : Session). rf.is_elsewhere asker.conn (asker_of s.doing))
      (session_of r lsid)) refusal.Busy e

  -- what is known where a request to commit isn't refused
  record Commits (txn : Txn) (t : Option Token) : Type 0 where
    low : rf.too_old (session_of r txn.lsid) txn.number ≡ None
    busy : rf.busy (session_of r txn.lsid) asker.conn ≡ None
    place : rf.no_token_shard (session_of r txn.lsid) txn.number r.chunks.shards t ≡ None

  may_commit : (txn : Txn) (t : Option Token)
      → rf.commit_refusal r asker.conn (session_of r txn.lsid) txn t ≡ None → Commits txn t
  unfolding rf.commit_refusal
  may_commit txn t e =
      let session = session_of r txn.lsid in
      let n = txn.number in
      let last = rf.too_many r session ∷ rf.known_aborted session n ∷ [] in
      let places = rf.no_token_shard session n r.chunks.shards t ∷ last in
      let rest = rf.started session txn ∷ rf.no_transaction session n (is_some t) true ∷ places in
      let a = first_none (rf.too_old session n) (rf.busy session asker.conn ∷ rest) e in
      let b = first_none (rf.busy session asker.conn) rest a.1 in
      let c = first_none (rf.started session txn)
      (rf.no_transaction session n (is_some t) true ∷ places) b.1 in
      let d = first_none (rf.no_transaction session n (is_some t) true) places c.1 in
      let f = first_none (rf.no_token_shard session n r.chunks.shards t) last d.1 in
      record { low = a.0; busy = b.0; place = f.0 }

  own_commit : (txn : Txn) (t : Transaction)
      → (Stated begun t.tag txn.lsid txn.number → tag ≡ Some t.tag)
      → rf.begun_in (session_of r txn.lsid) txn.number ≡ Some t
      → rf.busy (session_of r txn.lsid) asker.conn ≡ None
      → Serve (done_in r txn.lsid (co.commit_asked txn.lsid txn.number asker t))
  own_commit txn t is e busy =
      let b = is_begun (session_of r txn.lsid) txn.number t e in
      let same = ap asker_of b.doing in
      asked_serves txn.lsid txn.number t is t.phase
      (ap (is_from asker.conn) (sym same) ∙ not_from asker.conn r txn.lsid b.there free b.is)
      (ap (rf.is_elsewhere asker.conn) (sym same) ∙ elsewhere_if txn.lsid b.there busy b.is)
      (txn_has begun sent r txn.lsid txn.number t h e)

  -- no token names a shard that is there
  no_place : {X : Type 0} (txn : Txn) (t : Option Token)
      → rf.begun_in (session_of r txn.lsid) txn.number ≡ None
      → rf.names_shard r.chunks.shards t ≡ false
      → rf.no_token_shard (session_of r txn.lsid) txn.number r.chunks.shards t ≡ None → X
  no_place txn t none names e =
      let so : (is_none (rf.begun_in (session_of r txn.lsid) txn.number)
      && not (rf.names_shard r.chunks.shards t)) ≡ true =
      ap (λ (o : Option Transaction). is_none o && not (rf.names_shard r.chunks.shards t)) none
      ∙ ap not names in
      not_both _ so (so_not _ refusal.NoDecision e)

  token_commit : (txn : Txn) (t : Option Token)
      → ((other : Tag) (shard boot : ℕ) → t ≡ Some (token.Placed other shard boot)
      → tag ≡ Some other)
      → rf.begun_in (session_of r txn.lsid) txn.number ≡ None → Commits txn t
      → Serve (rq.commit_sought r asker txn (session_of r txn.lsid) t)
  token_commit txn (Some (token.Placed other shard boot)) is none c =
      let k : Seeking = record { asker = Some asker; tag = other; shard = shard; boot = boot } in
      seeks_serves txn.lsid txn.number k (session_of r txn.lsid) refl refl
      (is other shard boot refl)
      c.low none
  token_commit txn (Some (token.Early other)) is none c =
      no_place txn (Some (token.Early other)) none refl c.place
  token_commit txn (Some token.Other) is none c = no_place txn (Some token.Other) none refl c.place
  token_commit txn None is none c = no_place txn None none refl c.place

  -- the tag that the request is of
  pub record TagIs (txn : Txn) (t : Option Token) : Type 0 where
    pub own : (x : Transaction) → rf.begun_in (session_of r txn.lsid) txn.number ≡ Some x
        → Stated begun x.tag txn.lsid txn.number → tag ≡ Some x.tag
    pub other : rf.begun_in (session_of r txn.lsid) txn.number ≡ None
        → rf.too_old (session_of r txn.lsid) txn.number ≡ None → (other : Tag) (shard boot : ℕ)
        → t ≡ Some (token.Placed other shard boot)
        → tag ≡ Some other

  commit_case : (txn : Txn) (t : Option Token) (refused : Option Reply)
      (own : Option Transaction) → TagIs txn t
      → rf.begun_in (session_of r txn.lsid) txn.number ≡ own → PlainIf refused
      → (refused ≡ None → Commits txn t)
      → Serve (rq.unless_refused r asker refused (rq.commit_by r asker txn (session_of r txn.lsid) t
      own))
  commit_case txn t (Some why) own is e plain c = refused_serves begun sent tag r asker why plain
  commit_case txn t None (Some own) is e plain c =
      own_commit txn own (is.own own e) e (c refl).busy
  commit_case txn t None None is e plain c =
      token_commit txn t (is.other e (c refl).low) e (c refl)

  pub commit_serves : (txn : Txn) (t : Option Token) → TagIs txn t
      → Serve (rq.commit r asker (Some txn) t)
  commit_serves txn t is =
      commit_case txn t (rf.commit_refusal r asker.conn (session_of r txn.lsid) txn t)
      (rf.begun_in (session_of r txn.lsid) txn.number) is refl
      (commit_plain r asker.conn (session_of r txn.lsid) txn t) (may_commit txn t)

  -- A request to abort.

  aborted_serves : (lsid : Lsid) (number : ℤ) (t : Transaction) → TxnHas begun sent lsid number t
      → Serve (done_in r lsid (in_session number (en.aborted t)
      (both (aborting (en.aborts lsid number 1 t)) (telling (told asker (reply.Ended None) ∷ [])))))
  aborted_serves lsid number t has =
      put_serves begun sent asker.conn tag r.sessions _ lsid
      (record { number = number; doing = Begun (en.aborted t) }) refl
      (record {
        stated = ended_stated begun sent lsid number (record t { phase = Idle })
            (Aborted (commit_sent t.phase)) tt (idle_stated has.stated);
        kept = has.kept;
        given = tt;
      })
      (λ from. not_none asker.conn None refl from)
      (plain_one asker (reply.Ended None) tt) (inr (told_one asker (reply.Ended None)))
    where
      idle_stated : IsBare t ⊎ Stated begun t.tag lsid number
          → IsBare (record t { phase = Idle }) ⊎ Stated begun t.tag lsid number
      idle_stated (inl bare) = inl (record {
        parts = bare.parts;
        wrote = bare.wrote;
        waiting = bare.waiting;
        phase = tt;
      })
      idle_stated (inr stated) = inr stated

  client_serves : (lsid : Lsid) (number : ℤ) (t : Transaction) (p : Phase)
      → TxnHas begun sent lsid number (record t { phase = p })
      → Serve (done_in r lsid (en.client_aborts lsid number asker (record t { phase = p })))
  client_serves lsid number t (Aborted so) has =
      put_serves begun sent asker.conn tag r.sessions _ lsid
      (record { number = number; doing = Begun (record t { phase = Aborted so }) }) refl has
      (λ from. not_none asker.conn None refl from)
      (plain_one asker (reply.Ended None) tt) (inr (told_one asker (reply.Ended None)))
  client_serves lsid number t Idle has = aborted_serves lsid number (record t { phase = Idle }) has
  client_serves lsid number t (Asking other op given) has =
      aborted_serves lsid number (record t { phase = Asking other op given }) has
  client_serves lsid number t (Checking other) has =
      aborted_serves lsid number (record t { phase = Checking other }) has
  client_serves lsid number t (Deciding other) has =
      aborted_serves lsid number (record t { phase = Deciding other }) has
  client_serves lsid number t Committed has =
      aborted_serves lsid number (record t { phase = Committed }) has
  client_serves lsid number t Released has =
      aborted_serves lsid number (record t { phase = Released }) has

  begun_there : (txn : Txn)
      → rf.abort_refusal r asker.conn (session_of r txn.lsid) txn ≡ None
      → rf.no_transaction (session_of r txn.lsid) txn.number false false ≡ None
  unfolding rf.abort_refusal
  begun_there txn e =
      let session = session_of r txn.lsid in
      let n = txn.number in
      let rest = rf.no_transaction session n false false ∷ rf.after_commit session n ∷ [] in
      let a = first_none (rf.too_old session n)
      (rf.busy session asker.conn ∷ rf.started session txn ∷ rest) e in
      let b = first_none (rf.busy session asker.conn) (rf.started session txn ∷ rest) a.1 in
      let c = first_none (rf.started session txn) rest b.1 in
      (first_none (rf.no_transaction session n false false) (rf.after_commit session n ∷ []) c.1).0

  abort_case : (txn : Txn) (refused : Option Reply) (own : Option Transaction)
      → rf.begun_in (session_of r txn.lsid) txn.number ≡ own → PlainIf refused
      → (refused ≡ None → rf.no_transaction (session_of r txn.lsid) txn.number false false ≡ None)
      → Serve (rq.unless_refused r asker refused (rq.abort_by r asker txn own))
  abort_case txn (Some why) own e plain c = refused_serves begun sent tag r asker why plain
  abort_case txn None (Some own) e plain c =
      client_serves txn.lsid txn.number own own.phase
      (txn_has begun sent r txn.lsid txn.number own h e)
  abort_case txn None None e plain c =
      let so : (is_none (rf.begun_in (session_of r txn.lsid) txn.number) && not false) ≡ true =
      ap (λ (o : Option Transaction). is_none o && not false) e in
      not_both _ so (so_not _ (refusal.NoTransaction txn.number false) (c refl))

  pub abort_serves : (txn : Txn) → Serve (rq.abort r asker (Some txn))
  abort_serves txn =
      abort_case txn (rf.abort_refusal r asker.conn (session_of r txn.lsid) txn)
      (rf.begun_in (session_of r txn.lsid) txn.number) refl
      (abort_plain r asker.conn (session_of r txn.lsid) txn) (begun_there txn)

-- No statement is sent for a request to commit.

abbrev pub Quiet : Given → Type 0
Quiet g = GivenFit NoStatement g

quiet_none : AllFit NoStatement []
quiet_none = All-nil (PostFits NoStatement)

abbrev QuietDeed : Deed → Type 0
QuietDeed d = Quiet d.given

finished_quiet : (lsid : Lsid) (number : ℤ) (asker : Option Asker) (p : Phase) (t : Transaction)
    → QuietDeed (co.finished lsid number asker p t)
finished_quiet lsid number asker p t = record { aborts = quiet_none; sends = quiet_none }

decides_quiet : (lsid : Lsid) (number : ℤ) (asker : Option Asker) (t : Transaction)
    (parts : List (ℕ × ℕ)) → QuietDeed (co.decides_by lsid number asker t parts)
decides_quiet lsid number asker t [] = finished_quiet lsid number asker Released t
decides_quiet lsid number asker t (first ∷ []) =
    record { aborts = quiet_none; sends = one (PostFits NoStatement) _ tt }
decides_quiet lsid number asker t (first ∷ second ∷ more) =
    record { aborts = quiet_none; sends = one (PostFits NoStatement) _ tt }

commits_quiet : (lsid : Lsid) (number : ℤ) (asker : Option Asker) (t : Transaction)
    (parts : List (ℕ × ℕ)) → QuietDeed (co.commits_by lsid number asker t parts)
commits_quiet lsid number asker t [] = decides_quiet lsid number asker t (writers t)
commits_quiet lsid number asker t (first ∷ more) = record {
  aborts = quiet_none;
  sends = each (PostFits NoStatement) (co.commit_to lsid number t) (first ∷ more) (λ x. tt);
}

asked_quiet : (lsid : Lsid) (number : ℤ) (asker : Asker) (t : Transaction) (p : Phase)
    → QuietDeed (co.commit_asked lsid number asker (record t { phase = p }))
asked_quiet lsid number asker t Idle =
    commits_quiet lsid number (Some asker) (record t { phase = Idle })
    (readers (record t { phase = Idle }))
asked_quiet lsid number asker t (Asking other op given) =
    record { aborts = quiet_none; sends = quiet_none }
asked_quiet lsid number asker t (Checking other) =
    record { aborts = quiet_none; sends = quiet_none }
asked_quiet lsid number asker t (Deciding other) =
    either (nat_eq (length t.waiting) 0) QuietDeed
    (co.decides lsid number (Some asker) (record t { phase = Deciding other })) _
    (decides_quiet lsid number (Some asker) (record t { phase = Deciding other })
    (writers (record t { phase = Deciding other })))
    (record { aborts = quiet_none; sends = quiet_none })
asked_quiet lsid number asker t Committed =
    finished_quiet lsid number (Some asker) Committed (record t { phase = Committed })
asked_quiet lsid number asker t Released =
    finished_quiet lsid number (Some asker) Released (record t { phase = Released })
asked_quiet lsid number asker t (Aborted so) =
    record { aborts = quiet_none; sends = quiet_none }

seeks_quiet : (lsid : Lsid) (number own : ℤ) (asker : Asker) (k : Seeking) (doing : Doing)
    → QuietDeed (tk.seeks_by lsid number asker k (Some (record { number = own; doing = doing })))
seeks_quiet lsid number own asker k (Begun t) =
    either (int_lt own number) QuietDeed _ _
    (record {
      aborts = All-append (PostFits NoStatement) (en.leaves lsid
          (record { number = own; doing = Begun t })) [] (leaves_any NoStatement lsid
          (record { number = own; doing = Begun t })) quiet_none;
      sends = (anew_given NoStatement lsid number k []).sends;
    }) (record { aborts = quiet_none; sends = quiet_none })
seeks_quiet lsid number own asker k (Sought seeking known) =
    either (int_lt own number) QuietDeed _ _
    (record {
      aborts = All-append (PostFits NoStatement) (en.leaves lsid
          (record { number = own; doing = Sought seeking known })) [] (leaves_any NoStatement lsid
          (record { number = own; doing = Sought seeking known })) quiet_none;
      sends = (anew_given NoStatement lsid number k []).sends;
    }) (seeks_in_names NoStatement lsid number asker k seeking known).given

sought_quiet : (lsid : Lsid) (number : ℤ) (asker : Asker) (k : Seeking) (o : Option Session)
    → QuietDeed (tk.seeks_by lsid number asker k o)
sought_quiet lsid number asker k None = anew_given NoStatement lsid number k []
sought_quiet lsid number asker k (Some s) = seeks_quiet lsid number s.number asker k s.doing

still_quiet : Quiet nothing
still_quiet = record { aborts = quiet_none; sends = quiet_none }

token_quiet : (r : RouterState) (asker : Asker) (txn : Txn) (session : Option Session)
    (t : Option Token) → Quiet (rq.commit_sought r asker txn session t).given
token_quiet r asker txn session None = still_quiet
token_quiet r asker txn session (Some (token.Early tag)) = still_quiet
token_quiet r asker txn session (Some token.Other) = still_quiet
token_quiet r asker txn session (Some (token.Placed tag shard boot)) =
    sought_quiet txn.lsid txn.number asker _ session

commit_by_quiet : (r : RouterState) (asker : Asker) (txn : Txn) (session : Option Session)
    (t : Option Token) (refused : Option Reply) (own : Option Transaction)
    → Quiet (rq.unless_refused r asker refused (rq.commit_by r asker txn session t own)).given
commit_by_quiet r asker txn session t (Some why) own =
    record { aborts = quiet_none; sends = quiet_none }
commit_by_quiet r asker txn session t None None = token_quiet r asker txn session t
commit_by_quiet r asker txn session t None (Some own) =
    asked_quiet txn.lsid txn.number asker own own.phase

pub commit_quiet : (r : RouterState) (asker : Asker) (txn : Txn) (t : Option Token)
    → Quiet (rq.commit r asker (Some txn) t).given
commit_quiet r asker txn t =
    commit_by_quiet r asker txn (session_of r txn.lsid) t
    (rf.commit_refusal r asker.conn (session_of r txn.lsid) txn t)
    (rf.begun_in (session_of r txn.lsid) txn.number)

-- The end of sessions.

record EndsAll (begun : List Statement) (sent : List Envelope) (conn : ℕ) (tag : Option Tag)
    (old : BySession Session) (m : Move) : Type 0 where
  entries : All (OldOrNew begun sent conn tag old) m.state.sessions
  replies : m.given.replies ≡ []

module _ (begun : List Statement) (sent : List Envelope) (conn : ℕ) (tag : Option Tag) where
  same_ends : (old : BySession Session) (m : Move) → m.state.sessions ≡ old
      → m.given.replies ≡ [] → EndsAll begun sent conn tag old m
  same_ends old m is none = record {
    entries = subst (All (OldOrNew begun sent conn tag old)) (sym is)
        (self begun sent conn tag old);
    replies = none;
  }

  ends_has : (lsid : Lsid) (number : ℤ) (t : Transaction) → TxnHas begun sent lsid number t
      → TxnHas begun sent lsid number (en.aborted t)
  ends_has lsid number t has = record {
    stated = by has.stated;
    kept = has.kept;
    given = tt;
  }
    where
      by : IsBare t ⊎ Stated begun t.tag lsid number
          → IsBare (en.aborted t) ⊎ Stated begun t.tag lsid number
      by (inl bare) = inl (record {
        parts = bare.parts;
        wrote = bare.wrote;
        waiting = refl;
        phase = tt;
      })
      by (inr stated) = inr stated

  ends_case : (r : RouterState) (lsid : Lsid) (number : ℤ) (t : Transaction) (test : Bool)
      → (is_none (asker_of (Begun t)) && not (commit_sent t.phase)) ≡ test
      → session_of r lsid ≡ Some (record { number = number; doing = Begun t })
      → TxnHas begun sent lsid number t
      → EndsAll begun sent conn tag r.sessions (en.end_session r lsid (Some (record {
        number = number;
        doing = Begun t;
      })))
  ends_case r lsid number t true e is has =
      rw e (record {
        entries = entries_put (OldOrNew begun sent conn tag r.sessions) lsid
            (record { number = number; doing = Begun (en.aborted t) }) r.sessions
            (inr (record {
              has = ends_has lsid number t has;
              fits = λ from. not_none conn None refl from;
            })) (self begun sent conn tag r.sessions);
        replies = refl;
      })
  ends_case r lsid number t false e is has =
      rw e (same_ends r.sessions _ (with_entry_again lsid (record {
        number = number;
        doing = Begun t;
      }) r.sessions is) refl)

  end_doing : (r : RouterState) (lsid : Lsid) (number : ℤ) (doing : Doing)
      → session_of r lsid ≡ Some (record { number = number; doing = doing })
      → DoingHas begun sent lsid number doing
      → EndsAll begun sent conn tag r.sessions (en.end_session r lsid (Some (record {
        number = number;
        doing = doing;
      })))
  end_doing r lsid number (Begun t) is has = ends_case r lsid number t _ refl is has
  end_doing r lsid number (Sought seeking known) is has =
      same_ends r.sessions _ (with_entry_again lsid (record {
        number = number;
        doing = Sought seeking known;
      }) r.sessions is) refl

  end_one : (r : RouterState) (lsid : Lsid) (o : Option Session) → session_of r lsid ≡ o
      → All (EntryHas begun sent) r.sessions
      → EndsAll begun sent conn tag r.sessions (en.end_session r lsid o)
  end_one r lsid None is h = same_ends r.sessions (still r) refl refl
  end_one r lsid (Some s) is h = end_doing r lsid s.number s.doing is
      (session_has begun sent r lsid s h is)

  pub new_has : (old entries : BySession Session) → All (EntryHas begun sent) old
      → All (OldOrNew begun sent conn tag old) entries → All (EntryHas begun sent) entries
  new_has old entries h k =
      All-weaker (OldOrNew begun sent conn tag old) (EntryHas begun sent) (λ entry x. elim x [
        | inl there ↦ All-contains (EntryHas begun sent) old entry h there
        | inr new ↦ new.has
      ]) entries k

  end_all : (r : RouterState) (lsids : List Lsid) → All (EntryHas begun sent) r.sessions
      → EndsAll begun sent conn tag r.sessions (en.end_sessions r lsids)
  end_all r [] h = same_ends r.sessions (still r) refl refl
  end_all r (lsid ∷ lsids) h =
      let one = end_one r lsid (session_of r lsid) refl h in
      let first = en.end_session r lsid (session_of r lsid) in
      let more =
      end_all first.state lsids (new_has r.sessions first.state.sessions h one.entries) in
      record {
        entries = All-weaker (OldOrNew begun sent conn tag first.state.sessions)
            (OldOrNew begun sent conn tag r.sessions) (λ entry x. elim x [
              | inl there ↦ All-contains (OldOrNew begun sent conn tag r.sessions)
                  first.state.sessions entry one.entries there
              | inr new ↦ inr new
            ]) (en.end_sessions first.state lsids).state.sessions more.entries;
        replies = ap (λ (l : List Sent). l ++ (en.end_sessions first.state lsids).given.replies)
            one.replies ∙ more.replies;
      }

  also_serves : (old : BySession Session) (m : Move) (asker : Asker) (legacy : Bool) (why : Reply)
      → asker.conn ≡ conn → IsPlain why → EndsAll begun sent conn tag old m
      → Serves begun sent conn tag old (told_also m asker legacy why)
  also_serves old m asker legacy why is plain e =
      let s : Sent = record {
        conn = asker.conn;
        request = asker.request;
        legacy = legacy;
        reply = why;
      } in
      let replies : (told_also m asker legacy why).given.replies ≡ s ∷ [] =
      ap (λ (l : List Sent). l ++ s ∷ []) e.replies in
      record {
        entries = e.entries;
        plain = subst (All PlainSent) (sym replies) (one PlainSent s plain);
        own = inr (subst (Told conn) (sym replies) (s, has_first s [], is));
      }

  pub still_serves : (r : RouterState) (asker : Asker) (legacy : Bool) (why : Reply)
      → asker.conn ≡ conn → IsPlain why
      → Serves begun sent conn tag r.sessions (told_also (still r) asker legacy why)
  still_serves r asker legacy why is plain =
      also_serves r.sessions (still r) asker legacy why is plain
      (same_ends r.sessions (still r) refl refl)

  pub ends_serves : (r : RouterState) (lsids : List Lsid) (asker : Asker) (legacy : Bool)
      → asker.conn ≡ conn → All (EntryHas begun sent) r.sessions
      → Serves begun sent conn tag r.sessions
      (told_also (en.end_sessions r lsids) asker legacy (reply.Ended None))
  ends_serves r lsids asker legacy is h =
      also_serves r.sessions (en.end_sessions r lsids) asker legacy (reply.Ended None) is tt
      (end_all r lsids h)
