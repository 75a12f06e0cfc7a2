-- What a request does for requests in hand of other connections: their sessions stay as they are.
-- And what one of a statement does for itself.
use Rattle.std.proofs.Common.{◌≡◌, ◌⊎◌, inl, inr, ◌++◌, ◌&&◌, ℕ, ℤ, Bool, true, false, not, All}
use Rattle.std.proofs.Common.{List, [], ◌∷◌, nat_eq, length, int_lt, is_none, Option, Some, None}
use Rattle.std.proofs.Common.{is_some, nat_le, ◌-◌, ◌^◌, refl, sym, ap, subst, ◌∙◌, arith}
use Rattle.std.specs.Ordering.{int_eq}
use Rattle.std.specs.Prelude.{Contains}
use Rattle.std.proofs.lemmas.List.Elements.{All-nil, All-append, All-weaker, All-contains}
use Rattle.std.proofs.lemmas.List.Elements.{All-contains_itself}
use Rattle.txn_types.specs.BySession.{BySession, entry_of, with_entry}
use Rattle.txn_types.specs.declared.decision.Token.{Token}
use Rattle.txn_types.specs.declared.decision.Token.TheVariants as token
use Rattle.txn_types.specs.declared.names.Tag.{Tag}
use Rattle.txn_types.specs.declared.node.Lsid.{Lsid}
use Rattle.txn_types.specs.declared.operation.Op.{Op}
use Rattle.txn_semantics.specs.Touched.{first_some}
use Rattle.client_cmd.specs.declared.request.Request.{Request}
use Rattle.client_cmd.specs.declared.request.Request.TheVariants as request
use Rattle.client_cmd.specs.declared.request.Txn.{Txn}
use Rattle.client_reply.specs.declared.reply.Refusal.{Refusal}
use Rattle.client_reply.specs.declared.reply.Refusal.TheVariants as refusal
use Rattle.client_reply.specs.declared.reply.Reply.{Reply}
use Rattle.client_reply.specs.declared.reply.Reply.TheVariants as reply
use Rattle.chunk_map.specs.Map.{Map}
use Rattle.chunk_map.specs.Parts.{has_spread, shards_of}
use Rattle.router_state.specs.declared.deed.Deed.{Deed}
use Rattle.router_state.specs.declared.deed.Sent.{Sent}
use Rattle.router_state.specs.declared.state.Asker.{Asker}
use Rattle.router_state.specs.declared.state.Doing.{Doing}
use Rattle.router_state.specs.declared.state.Doing.TheVariants.{Begun, Sought}
use Rattle.router_state.specs.declared.state.Phase.{Phase}
use Rattle.router_state.specs.declared.state.Phase.TheVariants.{Idle, Asking, Checking, Deciding}
use Rattle.router_state.specs.declared.state.Phase.TheVariants.{Committed, Released, Aborted}
use Rattle.router_state.specs.declared.state.Seeking.{Seeking}
use Rattle.router_state.specs.declared.state.Session.{Session}
use Rattle.router_state.specs.declared.state.Transaction.{Transaction}
use Rattle.router_state.specs.Deeds.{Move, still, answers, done_in, told}
use Rattle.router_state.specs.State.{RouterState, session_of, asker_in, asker_of, is_from, is_own}
use Rattle.router_state.specs.State.{commit_sent}
use Rattle.router_state.specs.Shards.{writers, readers}
use Rattle.router_rules.specs.Commits as co
use Rattle.router_rules.specs.Ends as en
use Rattle.router_rules.specs.Statements as st
use Rattle.router_rules.specs.Times.{met, read_time}
use Rattle.router_rules.specs.Tokens as tk
use Rattle.router_plan.specs.Plans.{told_also}
use Rattle.router_plan.specs.Refusals as rf
use Rattle.router_core.specs.Requests as rq
use Rattle.participant.proofs.Cases.{either}
use Rattle.shard_image.proofs.Sessions.{with_entry_again}
use Rattle.world_laws.proofs.Beginning.{first_none, so_not, is_begun}
use Rattle.answer_laws.proofs.Beginning.{leaves_fit}
use Rattle.answer_laws.proofs.Fits.{PostFits, AllFit, NoStatement}
use Rattle.world_laws.proofs.Going.{some_same}
use Rattle.world_laws.proofs.Naming.{one}
use Rattle.world_laws.proofs.PartTimes.{entries_put}
use Rattle.answer_laws.proofs.Lists.{nat_is}
use Rattle.told_laws.proofs.Lists.{not_same}
use Rattle.told_laws.proofs.Moves.{IsOther}
use Rattle.reply_laws.proofs.Hands.{IsPlain, KeepsTo}
use Rattle.reply_laws.proofs.Lists.{Once, waits_in, once_put, put_waits}

-- Nobody but this connection waits.
abbrev pub NotOthers : ℕ → Option Asker → Type 0
NotOthers conn None = Unit {0}
NotOthers conn (Some asker) = asker.conn ≡ conn

pub not_others : (c conn : ℕ) (o : Option Asker) → (c ≡ conn → ⊥) → NotOthers conn o
    → is_from c o ≡ false
not_others c conn None apart h = refl
not_others c conn (Some asker) apart h = not_same asker.conn c (λ e. apart (sym e ∙ h))

-- an entry that was there, or one in which nobody else waits
abbrev pub EntryOf : ℕ → BySession Session → Lsid × Session → Type 0
EntryOf conn old entry = Contains old entry ⊎ NotOthers conn (asker_of entry.1.doing)

abbrev pub ToIt : ℕ → Sent → Type 0
ToIt conn sent = sent.conn ≡ conn

-- sessions of other connections stay, and none of these is told anything
pub record Spares (conn : ℕ) (old : BySession Session) (m : Move) : Type 0 where
  pub once : Once old → Once m.state.sessions
  pub entries : All (EntryOf conn old) m.state.sessions
  pub replies : All (ToIt conn) m.given.replies
  pub waits : (c : ℕ) → (c ≡ conn → ⊥) → waits_in c old ≡ true
      → waits_in c m.state.sessions ≡ true

entries_self : (conn : ℕ) (old : BySession Session) → All (EntryOf conn old) old
entries_self conn old = All-weaker (Contains old) (EntryOf conn old) (λ x c. inl c) old
    (All-contains_itself old)

pub spares_still : (conn : ℕ) (old : BySession Session) (m : Move) → m.state.sessions ≡ old
    → All (ToIt conn) m.given.replies → Spares conn old m
spares_still conn old m e told = record {
  once = λ o. subst Once (sym e) o;
  entries = subst (All (EntryOf conn old)) (sym e) (entries_self conn old);
  replies = told;
  waits = λ c apart w. ap (waits_in c) e ∙ w;
}

-- nobody else waits in this session
abbrev pub FreeAt : ℕ → BySession Session → Lsid → Type 0
FreeAt conn old lsid = (v : Session) → entry_of lsid old ≡ Some v → NotOthers conn
    (asker_of v.doing)

spares_put : (conn : ℕ) (old : BySession Session) (m : Move) (lsid : Lsid) (v : Session)
    → m.state.sessions ≡ with_entry lsid v old → FreeAt conn old lsid
    → NotOthers conn (asker_of v.doing) → All (ToIt conn) m.given.replies → Spares conn old m
spares_put conn old m lsid v e free fits told = record {
  once = λ o. subst Once (sym e) (once_put lsid v old o);
  entries = subst (All (EntryOf conn old)) (sym e)
      (entries_put (EntryOf conn old) lsid v old (inr fits) (entries_self conn old));
  replies = told;
  waits = λ c apart w. ap (waits_in c) e ∙ put_waits c lsid v old
      (λ was k. not_others c conn (asker_of was.doing) apart (free was k)) w;
}

record DeedSpares (conn : ℕ) (d : Deed) : Type 0 where
  asker : NotOthers conn (asker_of d.session.doing)
  replies : All (ToIt conn) d.given.replies

spares_done : (conn : ℕ) (r : RouterState) (lsid : Lsid) (d : Deed) → FreeAt conn r.sessions lsid
    → DeedSpares conn d → Spares conn r.sessions (done_in r lsid d)
spares_done conn r lsid d free h = spares_put conn r.sessions (done_in r lsid d) lsid d.session refl
    free h.asker h.replies

told_one : (asker : Asker) (r : Reply) → All (ToIt asker.conn) (told asker r ∷ [])
told_one asker r = one (ToIt asker.conn) (told asker r) refl

none_told : (conn : ℕ) → All (ToIt conn) []
none_told conn = All-nil (ToIt conn)

spares_answer : (r : RouterState) (asker : Asker) (why : Reply)
    → Spares asker.conn r.sessions (answers r asker why)
spares_answer r asker why = spares_still asker.conn r.sessions (answers r asker why) refl
    (told_one asker why)

-- Commits.

decides_by_spares : (lsid : Lsid) (number : ℤ) (asker : Asker) (t : Transaction)
    (parts : List (ℕ × ℕ))
    → DeedSpares asker.conn (co.decides_by lsid number (Some asker) t parts)
decides_by_spares lsid number asker t [] = record { asker = tt; replies = told_one asker _ }
decides_by_spares lsid number asker t (first ∷ []) = record
    { asker = refl; replies = none_told asker.conn }
decides_by_spares lsid number asker t (first ∷ second ∷ more) = record
    { asker = refl; replies = none_told asker.conn }

commits_by_spares : (lsid : Lsid) (number : ℤ) (asker : Asker) (t : Transaction)
    (parts : List (ℕ × ℕ))
    → DeedSpares asker.conn (co.commits_by lsid number (Some asker) t parts)
commits_by_spares lsid number asker t [] = decides_by_spares lsid number asker t (writers t)
commits_by_spares lsid number asker t (first ∷ more) = record
    { asker = refl; replies = none_told asker.conn }

listens_spares : (lsid : Lsid) (number : ℤ) (asker : Asker) (t : Transaction)
    → DeedSpares asker.conn (co.listens lsid number asker t)
listens_spares lsid number asker t =
    either (nat_eq (length t.waiting) 0) (DeedSpares asker.conn)
    (co.decides lsid number (Some asker) t) _
    (decides_by_spares lsid number asker t (writers t))
    (record { asker = refl; replies = none_told asker.conn })

commit_spares : (lsid : Lsid) (number : ℤ) (asker : Asker) (t : Transaction) (p : Phase)
    → NotOthers asker.conn (asker_in p)
    → DeedSpares asker.conn (co.commit_asked lsid number asker (record t { phase = p }))
commit_spares lsid number asker t Idle h = commits_by_spares lsid number asker
    (record t { phase = Idle }) (readers (record t { phase = Idle }))
commit_spares lsid number asker t (Asking other op answers) h = record
    { asker = h; replies = none_told asker.conn }
commit_spares lsid number asker t (Checking other) h = record
    { asker = refl; replies = none_told asker.conn }
commit_spares lsid number asker t (Deciding other) h = listens_spares lsid number asker
    (record t { phase = Deciding other })
commit_spares lsid number asker t Committed h = record { asker = tt; replies = told_one asker _ }
commit_spares lsid number asker t Released h = record { asker = tt; replies = told_one asker _ }
commit_spares lsid number asker t (Aborted sent) h = record
    { asker = tt; replies = told_one asker _ }

-- Tokens.

asks_spares : (lsid : Lsid) (number : ℤ) (asker : Asker) (k : Seeking) (older : Option Seeking)
    (known : List Tag) → k.asker ≡ Some asker
    → DeedSpares asker.conn (tk.asks_for lsid number k older known)
asks_spares lsid number asker k older known e = by older
  where
    this : NotOthers asker.conn k.asker
    this = subst (NotOthers asker.conn) (sym e) refl

    by : (older : Option Seeking) → DeedSpares asker.conn (tk.asks_for lsid number k older known)
    by None = record { asker = this; replies = none_told asker.conn }
    by (Some old) = either (tk.same_place old k) (DeedSpares asker.conn) _ _
        (record { asker = this; replies = none_told asker.conn })
        (record { asker = this; replies = none_told asker.conn })

seeks_in_spares : (lsid : Lsid) (number : ℤ) (asker : Asker) (k : Seeking)
    (seeking : Option Seeking) (known : List Tag) → k.asker ≡ Some asker
    → NotOthers asker.conn (asker_of (Sought seeking known))
    → DeedSpares asker.conn (tk.seeks_in lsid number asker k seeking known)
seeks_in_spares lsid number asker k seeking known e h =
    either (tk.is_known k.tag known) (DeedSpares asker.conn) _ _
    (record { asker = h; replies = told_one asker _ })
    (asks_spares lsid number asker k seeking known e)

anew_spares : (lsid : Lsid) (number : ℤ) (asker : Asker) (k : Seeking) (known : List Tag)
    → k.asker ≡ Some asker → DeedSpares asker.conn (tk.asks_anew lsid number k known)
anew_spares lsid number asker k known e =
    record { asker = subst (NotOthers asker.conn) (sym e) refl; replies = none_told asker.conn }

seeks_doing_spares : (lsid : Lsid) (number own : ℤ) (asker : Asker) (k : Seeking) (doing : Doing)
    → k.asker ≡ Some asker → NotOthers asker.conn (asker_of doing)
    → DeedSpares asker.conn (tk.seeks_by lsid number asker k
    (Some (record { number = own; doing = doing })))
seeks_doing_spares lsid number own asker k (Begun t) e h =
    either (int_lt own number) (DeedSpares asker.conn) _ _
    (record { asker = subst (NotOthers asker.conn) (sym e) refl; replies = none_told asker.conn })
    (record { asker = h; replies = none_told asker.conn })
seeks_doing_spares lsid number own asker k (Sought seeking known) e h =
    either (int_lt own number) (DeedSpares asker.conn) _ _
    (record { asker = subst (NotOthers asker.conn) (sym e) refl; replies = none_told asker.conn })
    (seeks_in_spares lsid number asker k seeking known e h)

seeks_spares : (lsid : Lsid) (number : ℤ) (asker : Asker) (k : Seeking) (o : Option Session)
    → k.asker ≡ Some asker → ((v : Session) → o ≡ Some v → NotOthers asker.conn (asker_of v.doing))
    → DeedSpares asker.conn (tk.seeks_by lsid number asker k o)
seeks_spares lsid number asker k None e free = anew_spares lsid number asker k [] e
seeks_spares lsid number asker k (Some v) e free = seeks_doing_spares lsid number v.number asker k
    v.doing e (free v refl)

-- Refusals.

elsewhere_not : (conn : ℕ) (o : Option Asker) → rf.is_elsewhere conn o ≡ false → NotOthers conn o
elsewhere_not conn None e = tt
elsewhere_not conn (Some asker) e = nat_is asker.conn conn (was (nat_eq asker.conn conn) e)
  where
    was : (b : Bool) → not b ≡ false → b ≡ true
    was true h = refl
    was false h = grind (arith, h)

busy_free : (conn : ℕ) (session : Option Session) (v : Session) → rf.busy session conn ≡ None
    → session ≡ Some v → NotOthers conn (asker_of v.doing)
busy_free conn session v e is =
    elsewhere_not conn (asker_of v.doing)
    (ap (rf.is_so (λ (s : Session). rf.is_elsewhere conn (asker_of s.doing))) (sym is)
    ∙ so_not (rf.is_so (λ (s : Session). rf.is_elsewhere conn (asker_of s.doing)) session)
    refusal.Busy e)

-- the second of several refusals
second_none : (a b : Option Reply) (os : List (Option Reply)) → first_some (a ∷ b ∷ os) ≡ None
    → b ≡ None
second_none a b os h = (first_none b os (first_none a (b ∷ os) h).1).0

statement_free : (r : RouterState) (conn : ℕ) (txn : Txn) (op : Op)
    → rf.statement_refusal r conn (session_of r txn.lsid) txn op ≡ None
    → FreeAt conn r.sessions txn.lsid
unfolding rf.statement_refusal
statement_free r conn txn op h v is =
    let session = session_of r txn.lsid in
    let n = txn.number in
    busy_free conn session v
    (second_none (rf.too_old session n) (rf.busy session conn)
    (rf.started session txn ∷ rf.no_transaction session n txn.start false
    ∷ rf.after_commit session n ∷ rf.too_long session n ∷ rf.too_many r session
    ∷ rf.spent r session n ∷ rf.many_shards r.chunks op ∷ rf.known_aborted session n ∷ []) h) is

commit_free : (r : RouterState) (conn : ℕ) (txn : Txn) (t : Option Token)
    → rf.commit_refusal r conn (session_of r txn.lsid) txn t ≡ None
    → FreeAt conn r.sessions txn.lsid
unfolding rf.commit_refusal
commit_free r conn txn t h v is =
    let session = session_of r txn.lsid in
    let n = txn.number in
    busy_free conn session v
    (second_none (rf.too_old session n) (rf.busy session conn)
    (rf.started session txn ∷ rf.no_transaction session n (is_some t) true
    ∷ rf.no_token_shard session n r.chunks.shards t ∷ rf.too_many r session
    ∷ rf.known_aborted session n ∷ []) h) is

abort_free : (r : RouterState) (conn : ℕ) (txn : Txn)
    → rf.abort_refusal r conn (session_of r txn.lsid) txn ≡ None → FreeAt conn r.sessions txn.lsid
unfolding rf.abort_refusal
abort_free r conn txn h v is =
    let session = session_of r txn.lsid in
    let n = txn.number in
    busy_free conn session v
    (second_none (rf.too_old session n) (rf.busy session conn)
    (rf.started session txn ∷ rf.no_transaction session n false false
    ∷ rf.after_commit session n ∷ []) h) is

-- The refusal of a statement tells nothing of it.

abbrev PlainIf : Option Reply → Type 0
PlainIf None = Unit {0}
PlainIf (Some r) = IsPlain r

abbrev AllPlain : List (Option Reply) → Type 0
AllPlain [] = Unit {0}
AllPlain (o ∷ os) = PlainIf o × AllPlain os

first_plain : (os : List (Option Reply)) → AllPlain os → PlainIf (first_some os)
first_plain [] h = tt
first_plain (None ∷ os) h = first_plain os h.1
first_plain (Some r ∷ os) h = h.0

where_plain : (b : Bool) (why : Refusal) → IsPlain (reply.Refused why) → PlainIf (rf.where_so b why)
where_plain true why h = h
where_plain false why h = tt

old_plain : (session : Option Session) (number : ℤ) → PlainIf (rf.too_old session number)
old_plain None number = tt
old_plain (Some v) number = either (int_lt number v.number) PlainIf
    (Some (reply.TooOld number v.number)) None tt tt

statement_plain : (r : RouterState) (conn : ℕ) (session : Option Session) (txn : Txn) (op : Op)
    → PlainIf (rf.statement_refusal r conn session txn op)
unfolding rf.statement_refusal
statement_plain r conn session txn op =
    let n = txn.number in
    let elsewhere = rf.is_so (λ (s : Session). rf.is_elsewhere conn (asker_of s.doing)) session in
    let same = txn.start && rf.is_so (λ (s : Session). int_eq s.number n) session in
    let unknown = is_none (rf.begun_in session n) && not txn.start in
    let sent = rf.is_so (λ (t : Transaction). commit_sent t.phase) (rf.begun_in session n) in
    let long = rf.is_so (λ (t : Transaction). nat_le 1000000 t.k) (rf.begun_in session n) in
    let many = is_none session && nat_le 1000000 (length r.sessions) in
    let spent = is_none (rf.begun_in session n) && nat_le (2 ^ 63 - 1) r.serial in
    let over = rf.is_so (λ (t : Transaction). rf.is_aborted t.phase) (rf.begun_in session n) in
    let plain : AllPlain (rf.too_old session n ∷ rf.busy session conn ∷ rf.started session txn
    ∷ rf.no_transaction session n txn.start false ∷ rf.after_commit session n
    ∷ rf.too_long session n ∷ rf.too_many r session ∷ rf.spent r session n
    ∷ rf.many_shards r.chunks op ∷ rf.known_aborted session n ∷ []) = (
      old_plain session n,
      (
        where_plain elsewhere refusal.Busy tt,
        (
          where_plain same (refusal.Started n) tt,
          (
            where_plain unknown (refusal.NoTransaction n false) tt,
            (
              where_plain sent refusal.AfterCommit tt,
              (
                where_plain long refusal.TooLong tt,
                (
                  where_plain many refusal.TooMany tt,
                  (
                    where_plain spent refusal.Spent tt,
                    (
                      where_plain (has_spread r.chunks op) refusal.ManyShards tt,
                      (where_plain over refusal.Aborted tt, tt),
                    ),
                  ),
                ),
              ),
            ),
          ),
        ),
      ),
    ) in
    first_plain (rf.too_old session n ∷ rf.busy session conn ∷ rf.started session txn
    ∷ rf.no_transaction session n txn.start false ∷ rf.after_commit session n
    ∷ rf.too_long session n ∷ rf.too_many r session ∷ rf.spent r session n
    ∷ rf.many_shards r.chunks op ∷ rf.known_aborted session n ∷ []) plain

-- Requests to commit, to abort and to end sessions.

begun_free : (r : RouterState) (conn : ℕ) (lsid : Lsid) (number : ℤ) (t : Transaction)
    → rf.begun_in (session_of r lsid) number ≡ Some t → FreeAt conn r.sessions lsid
    → NotOthers conn (asker_in t.phase)
begun_free r conn lsid number t e free =
    let b = is_begun (session_of r lsid) number t e in
    subst (λ (d : Doing). NotOthers conn (asker_of d)) b.doing (free b.there b.is)

sought_spares : (r : RouterState) (asker : Asker) (txn : Txn) (t : Option Token)
    → FreeAt asker.conn r.sessions txn.lsid
    → Spares asker.conn r.sessions (rq.commit_sought r asker txn (session_of r txn.lsid) t)
sought_spares r asker txn None free = spares_still asker.conn r.sessions (still r) refl
    (none_told asker.conn)
sought_spares r asker txn (Some (token.Early tag)) free = spares_still asker.conn r.sessions
    (still r) refl (none_told asker.conn)
sought_spares r asker txn (Some (token.Placed tag shard boot)) free =
    let k : Seeking = record { asker = Some asker; tag = tag; shard = shard; boot = boot } in
    spares_done asker.conn r txn.lsid
    (tk.seeks_by txn.lsid txn.number asker k (session_of r txn.lsid)) free
    (seeks_spares txn.lsid txn.number asker k (session_of r txn.lsid) refl free)
sought_spares r asker txn (Some token.Other) free = spares_still asker.conn r.sessions (still r)
    refl (none_told asker.conn)

commits_spares : (r : RouterState) (asker : Asker) (txn : Txn) (t : Option Token)
    (refused : Option Reply) (own : Option Transaction)
    → rf.begun_in (session_of r txn.lsid) txn.number ≡ own
    → (refused ≡ None → FreeAt asker.conn r.sessions txn.lsid)
    → Spares asker.conn r.sessions (rq.unless_refused r asker refused (rq.commit_by r asker txn
    (session_of r txn.lsid) t own))
commits_spares r asker txn t (Some why) own b free = spares_answer r asker why
commits_spares r asker txn t None None b free = sought_spares r asker txn t (free refl)
commits_spares r asker txn t None (Some own) b free =
    spares_done asker.conn r txn.lsid (co.commit_asked txn.lsid txn.number asker own) (free refl)
    (commit_spares txn.lsid txn.number asker own own.phase
    (begun_free r asker.conn txn.lsid txn.number own b (free refl)))

commit_spared : (r : RouterState) (asker : Asker) (txn : Option Txn) (t : Option Token)
    → Spares asker.conn r.sessions (rq.commit r asker txn t)
commit_spared r asker None t = spares_still asker.conn r.sessions (still r) refl
    (none_told asker.conn)
commit_spared r asker (Some txn) t = commits_spares r asker txn t
    (rf.commit_refusal r asker.conn (session_of r txn.lsid) txn t)
    (rf.begun_in (session_of r txn.lsid) txn.number) refl
    (λ e. commit_free r asker.conn txn t e)

client_spares : (lsid : Lsid) (number : ℤ) (asker : Asker) (t : Transaction) (p : Phase)
    → DeedSpares asker.conn (en.client_aborts lsid number asker (record t { phase = p }))
client_spares lsid number asker t Idle = record { asker = tt; replies = told_one asker _ }
client_spares lsid number asker t (Asking other op answers) = record
    { asker = tt; replies = told_one asker _ }
client_spares lsid number asker t (Checking other) = record
    { asker = tt; replies = told_one asker _ }
client_spares lsid number asker t (Deciding other) = record
    { asker = tt; replies = told_one asker _ }
client_spares lsid number asker t Committed = record { asker = tt; replies = told_one asker _ }
client_spares lsid number asker t Released = record { asker = tt; replies = told_one asker _ }
client_spares lsid number asker t (Aborted sent) = record { asker = tt; replies = told_one asker _ }

aborts_spares : (r : RouterState) (asker : Asker) (txn : Txn) (refused : Option Reply)
    (own : Option Transaction) → (refused ≡ None → FreeAt asker.conn r.sessions txn.lsid)
    → Spares asker.conn r.sessions (rq.unless_refused r asker refused (rq.abort_by r asker txn own))
aborts_spares r asker txn (Some why) own free = spares_answer r asker why
aborts_spares r asker txn None None free = spares_still asker.conn r.sessions (still r) refl
    (none_told asker.conn)
aborts_spares r asker txn None (Some own) free =
    spares_done asker.conn r txn.lsid (en.client_aborts txn.lsid txn.number asker own) (free refl)
    (client_spares txn.lsid txn.number asker own own.phase)

abort_spared : (r : RouterState) (asker : Asker) (txn : Option Txn)
    → Spares asker.conn r.sessions (rq.abort r asker txn)
abort_spared r asker None = spares_still asker.conn r.sessions (still r) refl
    (none_told asker.conn)
abort_spared r asker (Some txn) = aborts_spares r asker txn
    (rf.abort_refusal r asker.conn (session_of r txn.lsid) txn)
    (rf.begun_in (session_of r txn.lsid) txn.number) (λ e. abort_free r asker.conn txn e)

-- a session ends where nobody waits
none_is : (o : Option Asker) → is_none o ≡ true → o ≡ None
none_is None e = refl
none_is (Some asker) e = grind (arith, e)

ends_case : (conn : ℕ) (r : RouterState) (lsid : Lsid) (number : ℤ) (t : Transaction) (test : Bool)
    → (is_none (asker_of (Begun t)) && not (commit_sent t.phase)) ≡ test
    → entry_of lsid r.sessions ≡ Some (record { number = number; doing = Begun t })
    → Spares conn r.sessions (en.end_session r lsid (Some (record {
      number = number;
      doing = Begun t;
    })))
ends_case conn r lsid number t true is there =
    let s : Session = record { number = number; doing = Begun t } in
    let nobody : asker_of (Begun t) ≡ None = none_is (asker_of (Begun t))
    (first (is_none (asker_of (Begun t))) (not (commit_sent t.phase)) is) in
    rw is (spares_put conn r.sessions _ lsid (en.ends lsid number 2 t).session refl
    (λ v e. subst (λ (x : Session). NotOthers conn (asker_of x.doing)) (some_same s v
    (sym there ∙ e)) (subst (NotOthers conn) (sym nobody) tt)) tt (none_told conn))
  where
    first : (a b : Bool) → (a && b) ≡ true → a ≡ true
    first true b e = refl
    first false b e = grind (arith, e)
ends_case conn r lsid number t false is there =
    let s : Session = record { number = number; doing = Begun t } in
    rw is (spares_still conn r.sessions _ (with_entry_again lsid s r.sessions there)
    (none_told conn))

end_doing : (conn : ℕ) (r : RouterState) (lsid : Lsid) (number : ℤ) (doing : Doing)
    → entry_of lsid r.sessions ≡ Some (record { number = number; doing = doing })
    → Spares conn r.sessions (en.end_session r lsid (Some (record {
      number = number;
      doing = doing;
    })))
end_doing conn r lsid number (Begun t) there = ends_case conn r lsid number t
    (is_none (asker_of (Begun t)) && not (commit_sent t.phase)) refl there
end_doing conn r lsid number (Sought seeking known) there =
    spares_still conn r.sessions _
    (with_entry_again lsid (record { number = number; doing = Sought seeking known }) r.sessions
    there) (none_told conn)

end_spares : (conn : ℕ) (r : RouterState) (lsid : Lsid) (o : Option Session)
    → session_of r lsid ≡ o → Spares conn r.sessions (en.end_session r lsid o)
end_spares conn r lsid None e = spares_still conn r.sessions (still r) refl (none_told conn)
end_spares conn r lsid (Some s) e = end_doing conn r lsid s.number s.doing e

spares_then : (conn : ℕ) (old : BySession Session) (first more m : Move)
    → m.state.sessions ≡ more.state.sessions
    → m.given.replies ≡ first.given.replies ++ more.given.replies
    → Spares conn old first → Spares conn first.state.sessions more → Spares conn old m
spares_then conn old first more m e told h k = record {
  once = λ o. subst Once (sym e) (k.once (h.once o));
  entries =
      subst (All (EntryOf conn old)) (sym e)
      (All-weaker (EntryOf conn first.state.sessions) (EntryOf conn old) (λ x c. elim c [
        | inl there ↦ All-contains (EntryOf conn old) first.state.sessions x h.entries there
        | inr fits ↦ inr fits
      ]) more.state.sessions k.entries);
  replies = subst (All (ToIt conn)) (sym told)
      (All-append (ToIt conn) first.given.replies more.given.replies h.replies k.replies);
  waits = λ c apart w. ap (waits_in c) e ∙ k.waits c apart (h.waits c apart w);
}

ends_spares : (conn : ℕ) (r : RouterState) (lsids : List Lsid)
    → Spares conn r.sessions (en.end_sessions r lsids)
ends_spares conn r [] = spares_still conn r.sessions (still r) refl (none_told conn)
ends_spares conn r (lsid ∷ lsids) =
    let first = en.end_session r lsid (session_of r lsid) in
    spares_then conn r.sessions first (en.end_sessions first.state lsids)
    (en.end_sessions r (lsid ∷ lsids)) refl refl
    (end_spares conn r lsid (session_of r lsid) refl) (ends_spares conn first.state lsids)

spares_also : (old : BySession Session) (m : Move) (asker : Asker) (legacy : Bool) (r : Reply)
    → Spares asker.conn old m → Spares asker.conn old (told_also m asker legacy r)
spares_also old m asker legacy r h = record {
  once = h.once;
  entries = h.entries;
  replies =
      All-append (ToIt asker.conn) m.given.replies _ h.replies
      (one (ToIt asker.conn) (record {
        conn = asker.conn;
        request = asker.request;
        legacy = legacy;
        reply = r;
      }) refl);
  waits = h.waits;
}

pub spares_told : (r : RouterState) (asker : Asker) (legacy : Bool) (why : Reply)
    → Spares asker.conn r.sessions (told_also (still r) asker legacy why)
spares_told r asker legacy why = spares_also r.sessions (still r) asker legacy why
    (spares_still asker.conn r.sessions (still r) refl (none_told asker.conn))

-- A statement.

-- a request of a transaction names a client's session
abbrev pub NamesClient : Option Txn → Type 0
NamesClient None = Unit {0}
NamesClient (Some txn) = is_own txn.lsid ≡ false

-- it is asked in a session in which nobody else waits
pub record AsksNow (asker : Asker) (old : BySession Session) (chunks : Map) (op : Op)
    (txn : Option Txn) (m : Move) : Type 0 where
  pub lsid : Lsid
  pub number : ℤ
  pub t : Transaction
  pub sends : m.given.sends ≡ st.statements_to chunks lsid number t op
  pub aborts : AllFit NoStatement m.given.aborts
  pub replies : m.given.replies ≡ []
  pub sessions : m.state.sessions
      ≡ with_entry lsid (st.asks chunks lsid number asker op t).session old
  pub free : FreeAt asker.conn old lsid
  pub keeps : (at after time : Option ℕ) (more : Bool)
      → KeepsTo (request.Statement op txn at after more time) lsid

pub record RefusesNow (asker : Asker) (old : BySession Session) (m : Move) : Type 0 where
  pub why : Reply
  pub plain : IsPlain why
  pub sends : m.given.sends ≡ []
  pub aborts : m.given.aborts ≡ []
  pub replies : m.given.replies ≡ told asker why ∷ []
  pub sessions : m.state.sessions ≡ old

abbrev pub AsksOrRefuses : Asker → BySession Session → Map → Op → Option Txn → Move → Type 0
AsksOrRefuses asker old chunks op txn m = RefusesNow asker old m ⊎ AsksNow asker old chunks op txn m

states_now : (r : RouterState) (asker : Asker) (lsid : Lsid) (number : ℤ) (op : Op)
    (at : Option ℕ) (txn : Option Txn) (refused : Option Reply) (own : Option Transaction)
    → (refused ≡ None → FreeAt asker.conn r.sessions lsid) → PlainIf refused
    → ((at after time : Option ℕ) (more : Bool)
    → KeepsTo (request.Statement op txn at after more time) lsid)
    → AsksOrRefuses asker r.sessions r.chunks op txn (rq.unless_refused r asker refused
    (rq.states r lsid (session_of r lsid) number asker op at own))
states_now r asker lsid number op at txn (Some why) own free plain keeps = inl (record {
  why = why;
  plain = plain;
  sends = refl;
  aborts = refl;
  replies = refl;
  sessions = refl;
})
states_now r asker lsid number op at txn None (Some t) free plain keeps = inr (record {
  lsid = lsid;
  number = number;
  t = t;
  sends = refl;
  aborts = All-nil (PostFits NoStatement);
  replies = refl;
  sessions = refl;
  free = free refl;
  keeps = keeps;
})
states_now r asker lsid number op at txn None None free plain keeps = inr (record {
  lsid = lsid;
  number = number;
  t = rq.begun_at r (read_time r (is_own lsid) (shards_of r.chunks op) at);
  sends = refl;
  aborts = All-append (PostFits NoStatement) (rq.left_of lsid (session_of r lsid)) []
      (leaves_fit NoStatement lsid (session_of r lsid)) (All-nil (PostFits NoStatement));
  replies = refl;
  sessions = refl;
  free = free refl;
  keeps = keeps;
})

pub statement_now : (r : RouterState) (asker : Asker) (txn : Option Txn) (op : Op) (at : Option ℕ)
    → NamesClient txn
    → AsksOrRefuses asker r.sessions r.chunks op txn (rq.statement r asker txn op at)
statement_now r asker None op at names =
    let txn = rq.by_itself r asker.conn in
    states_now r asker txn.lsid txn.number op at None
    (rf.statement_refusal r asker.conn (session_of r txn.lsid) txn op)
    (rf.begun_in (session_of r txn.lsid) txn.number)
    (λ e. statement_free r asker.conn txn op e)
    (statement_plain r asker.conn (session_of r txn.lsid) txn op) (λ at after time more. tt)
statement_now r asker (Some txn) op at names =
    states_now r asker txn.lsid txn.number op at (Some txn)
    (rf.statement_refusal r asker.conn (session_of r txn.lsid) txn op)
    (rf.begun_in (session_of r txn.lsid) txn.number)
    (λ e. statement_free r asker.conn txn op e)
    (statement_plain r asker.conn (session_of r txn.lsid) txn op) (λ at after time more. names)

pub spares_now : (asker : Asker) (old : BySession Session) (chunks : Map) (op : Op)
    (txn : Option Txn) (m : Move) → AsksOrRefuses asker old chunks op txn m
    → Spares asker.conn old m
spares_now asker old chunks op txn m (inl w) = spares_still asker.conn old m w.sessions
    (subst (All (ToIt asker.conn)) (sym w.replies) (told_one asker w.why))
spares_now asker old chunks op txn m (inr w) = spares_put asker.conn old m w.lsid
    (st.asks chunks w.lsid w.number asker op w.t).session w.sessions w.free refl
    (subst (All (ToIt asker.conn)) (sym w.replies) (none_told asker.conn))

-- Any request.

pub others_spare : (r : RouterState) (asker : Asker) (legacy : Bool) (x : Request) → IsOther x
    → Spares asker.conn r.sessions (rq.serves r asker legacy x)
unfolding rq.serves
others_spare r asker legacy (request.Ping more time) h = spares_told (met r time None) asker legacy
    reply.Ping
others_spare r asker legacy (request.Hello old_name more time) h =
    spares_told (met r time None) asker legacy (reply.Hello old_name r.wall asker.conn)
others_spare r asker legacy (request.Statement op txn at after more time) h = absurd h
others_spare r asker legacy (request.Commit txn t more time) h = commit_spared (met r time None)
    asker txn t
others_spare r asker legacy (request.Abort txn more time) h = abort_spared (met r time None) asker
    txn
others_spare r asker legacy (request.EndSessions ids more time) h =
    spares_also r.sessions (en.end_sessions (met r time None) ids) asker legacy (reply.Ended None)
    (ends_spares asker.conn (met r time None) ids)
