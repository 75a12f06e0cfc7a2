-- What an event does at a router, session by session: each goes on quietly, or one asks a
-- statement.
use Rattle.std.proofs.Common.{◌≡◌, ◌⊎◌, inl, inr, ◌+◌, ◌≤◌, ◌||◌, ℕ, ℤ, Bool, true, false, not}
use Rattle.std.proofs.Common.{List, [], ◌∷◌, option_map, Option, Some, None, refl, sym, ap, subst}
use Rattle.std.proofs.Common.{◌∙◌, arith}
use Rattle.std.specs.List.{list_any}
use Rattle.std.proofs.lemmas.List.Elements.{All-nil, All-append}
use Rattle.txn_types.specs.BySession.{BySession, entry_of}
use Rattle.txn_types.specs.Order.{same_lsid}
use Rattle.txn_types.specs.declared.decision.Token.{Token}
use Rattle.txn_types.specs.declared.decision.Token.TheVariants as token
use Rattle.txn_types.specs.declared.names.Tag.{Tag}
use Rattle.txn_types.specs.declared.node.Lsid.{Lsid}
use Rattle.txn_types.specs.declared.operation.Op.{Op}
use Rattle.client_cmd.specs.declared.request.Request.{Request}
use Rattle.client_cmd.specs.declared.request.Request.TheVariants as request
use Rattle.client_cmd.specs.declared.request.Txn.{Txn}
use Rattle.client_reply.specs.declared.reply.Refusal.TheVariants as refusal
use Rattle.client_reply.specs.declared.reply.Reply.{Reply}
use Rattle.router_state.specs.declared.deed.Deed.{Deed}
use Rattle.router_state.specs.declared.state.Asker.{Asker}
use Rattle.router_state.specs.declared.state.Doing.{Doing}
use Rattle.router_state.specs.declared.state.Doing.TheVariants.{Begun, Sought}
use Rattle.router_state.specs.declared.state.Phase.{Phase}
use Rattle.router_state.specs.declared.state.Phase.TheVariants.{Idle, Asking, Checking, Deciding}
use Rattle.router_state.specs.declared.state.Phase.TheVariants.{Committed, Released, Aborted}
use Rattle.router_state.specs.declared.state.Seeking.{Seeking}
use Rattle.router_state.specs.declared.state.Session.{Session}
use Rattle.router_state.specs.declared.state.Transaction.{Transaction}
use Rattle.router_state.specs.Deeds.{Move, still, answers, done_in, each_session, in_each_session}
use Rattle.router_state.specs.State.{RouterState, session_of, is_waiting, is_from, asker_of}
use Rattle.router_state.specs.State.{asker_in, commit_sent}
use Rattle.router_rules.specs.Ends as en
use Rattle.router_rules.specs.Statements as st
use Rattle.router_rules.specs.Times.{met}
use Rattle.router_rules.specs.Tokens as tk
use Rattle.router_plan.specs.Refusals.{begun_in, statement_refusal, commit_refusal, abort_refusal}
use Rattle.router_plan.specs.Refusals.{too_old, busy, started, no_transaction, after_commit}
use Rattle.router_plan.specs.Refusals.{too_long, too_many, spent, many_shards, known_aborted, is_so}
use Rattle.router_plan.specs.Refusals.{is_elsewhere, is_aborted}
use Rattle.router_core.specs.Requests as rq
use Rattle.shard_image.proofs.Sessions.{entry_there, entry_elsewhere, lsid_is}
use Rattle.world_laws.specs.Begins.{Kept}
use Rattle.answer_laws.proofs.Fits.{PostFits, AllFit, NoStatement}
use Rattle.world_laws.proofs.Beginning.{IsBegun, is_begun, first_none, so_not}
use Rattle.answer_laws.proofs.Beginning.{leaves_fit}
use Rattle.world_laws.proofs.Going.{first_is, rest_is, some_same}
use Rattle.told_laws.proofs.Quiet.{IsSettled, QuietDoing, doing_self, doing_then}
use Rattle.told_laws.proofs.Quiet.{commit_asked_quiet, client_aborts_quiet, session_quiet}
use Rattle.told_laws.proofs.Quiet.{seeks_quiet}

-- what is there after an event goes on from what stood there, or looks for a decision alone
abbrev pub QuietFrom : Option Session → Doing → Type 0
QuietFrom old (Sought seeking known) = Unit {0}
QuietFrom None (Begun v) = ⊥
QuietFrom (Some s) (Begun v) = QuietDoing s.doing (Begun v)

abbrev pub AllQuiet : RouterState → RouterState → Type 0
AllQuiet r t = (lsid : Lsid) (v : Session) → session_of t lsid ≡ Some v
    → QuietFrom (session_of r lsid) v.doing

pub record QuietMove (r : RouterState) (m : Move) : Type 0 where
  pub kept : Kept r m.state
  pub sessions : AllQuiet r m.state

quiet_some : (s : Session) (doing : Doing) → QuietDoing s.doing doing → QuietFrom (Some s) doing
quiet_some s (Begun v) h = h
quiet_some s (Sought seeking known) h = tt

some_quiet : (s : Session) (doing : Doing) → QuietFrom (Some s) doing → QuietDoing s.doing doing
some_quiet s (Begun v) h = h
some_quiet s (Sought seeking known) h = tt

quiet_is : (o : Option Session) (s : Session) (doing : Doing) → o ≡ Some s
    → QuietDoing s.doing doing → QuietFrom o doing
quiet_is o s doing e h = subst (λ (x : Option Session). QuietFrom x doing) (sym e)
    (quiet_some s doing h)

from_then : (o : Option Session) (a b : Doing) → QuietFrom o a → QuietDoing a b → QuietFrom o b
from_then o a (Sought seeking known) h k = tt
from_then None (Begun t) (Begun v) h k = h
from_then None (Sought seeking known) (Begun v) h k = k
from_then (Some s) a (Begun v) h k = doing_then s.doing a (Begun v) (some_quiet s a h) k

sought_any : (old : Option Session) (doing : Doing) → QuietFrom None doing → QuietFrom old doing
sought_any old (Begun x) w = absurd w
sought_any old (Sought seeking known) w = tt

all_then : (r s t : RouterState) → AllQuiet r s → AllQuiet s t → AllQuiet r t
all_then r s t h k lsid v e = by (session_of s lsid) refl (k lsid v e)
  where
    by : (o : Option Session) → session_of s lsid ≡ o → QuietFrom o v.doing
        → QuietFrom (session_of r lsid) v.doing
    by None is q = sought_any (session_of r lsid) v.doing q
    by (Some w) is q = from_then (session_of r lsid) w.doing v.doing (h lsid w is)
        (some_quiet w v.doing q)

kept_self : (r : RouterState) → Kept r r
kept_self r = record { number = refl; boot = refl; serial = refl }

pub all_self : (r : RouterState) → AllQuiet r r
all_self r lsid v e = quiet_is (session_of r lsid) v v.doing e (doing_self v.doing)

pub quiet_still : (r : RouterState) (m : Move) → m.state ≡ r → QuietMove r m
quiet_still r m e = record {
  kept = subst (Kept r) (sym e) (kept_self r);
  sessions = subst
      (AllQuiet r) (sym e) (all_self r);
}

-- What is done in one session.

pub done_there : (r : RouterState) (lsid other : Lsid) (d : Deed) (v : Session)
    → session_of (done_in r lsid d).state other ≡ Some v
    → ((other ≡ lsid) × (v ≡ d.session)) ⊎ ((same_lsid other lsid ≡ false) ×
    (session_of r other ≡ Some v))
done_there r lsid other d v e = by (same_lsid other lsid) refl
  where
    by : (test : Bool) → same_lsid other lsid ≡ test
        → ((other ≡ lsid) × (v ≡ d.session)) ⊎
        ((same_lsid other lsid ≡ false) × (session_of r other ≡ Some v))
    by true is =
        let key : other ≡ lsid = lsid_is other lsid is in
        inl (
          key,
          some_same v d.session (sym e ∙ ap (λ (l : Lsid). session_of
              (done_in r lsid d).state l) key ∙ entry_there lsid d.session r.sessions),
        )
    by false is = inr (is, sym (entry_elsewhere other lsid is d.session r.sessions) ∙ e)

done_quiet : (r : RouterState) (lsid : Lsid) (d : Deed)
    → QuietFrom (session_of r lsid) d.session.doing → QuietMove r (done_in r lsid d)
done_quiet r lsid d h = record {
  kept = record { number = refl; boot = refl; serial = refl };
  sessions = λ other v e. by other v (done_there r lsid other d v e);
}
  where
    by : (other : Lsid) (v : Session) → ((other ≡ lsid) × (v ≡ d.session)) ⊎
        ((same_lsid other lsid ≡ false) × (session_of r other ≡ Some v))
        → QuietFrom (session_of r other) v.doing
    by other v (inl w) =
        subst (λ (l : Lsid). QuietFrom (session_of r l) v.doing) (sym w.0)
        (subst (λ (s : Session). QuietFrom (session_of r lsid) s.doing) (sym w.1) h)
    by other v (inr w) = quiet_is (session_of r other) v v.doing w.1 (doing_self v.doing)

-- What is done in each session.

each_entry : (act : Lsid → Session → Deed) (lsid : Lsid) (entries : BySession Session)
    → entry_of lsid (each_session act entries).0 ≡ option_map
    (λ (s : Session). (act lsid s).session) (entry_of lsid entries)
each_entry act lsid [] = refl
each_entry act lsid (entry ∷ entries) = by (same_lsid lsid entry.0) refl
    (each_entry act lsid entries)
  where
    by : (test : Bool) → same_lsid lsid entry.0 ≡ test
        → entry_of lsid (each_session act entries).0 ≡ option_map
        (λ (s : Session). (act lsid s).session) (entry_of lsid entries)
        → entry_of lsid (each_session act (entry ∷ entries)).0 ≡ option_map
        (λ (s : Session). (act lsid s).session) (entry_of lsid (entry ∷ entries))
    by true is more =
        first_is lsid (entry.0, (act entry.0 entry.1).session) (each_session act entries).0 is
        ∙ ap (λ (l : Lsid). Some (act l entry.1).session) (sym (lsid_is lsid entry.0 is))
        ∙ sym (ap (option_map (λ (s : Session). (act lsid s).session))
        (first_is lsid entry entries is))
    by false is more =
        rest_is lsid (entry.0, (act entry.0 entry.1).session) (each_session act entries).0 is ∙ more
        ∙ sym (ap (option_map (λ (s : Session). (act lsid s).session))
        (rest_is lsid entry entries is))

pub each_from : (act : Lsid → Session → Deed) (r : RouterState) (lsid : Lsid) (v : Session)
    → session_of (in_each_session act r).state lsid ≡ Some v
    → (s : Session) × (session_of r lsid ≡ Some s) × (v ≡ (act lsid s).session)
each_from act r lsid v e = by (session_of r lsid) refl (sym (each_entry act lsid r.sessions) ∙ e)
  where
    by : (o : Option Session) → session_of r lsid ≡ o
        → option_map (λ (s : Session). (act lsid s).session) (session_of r lsid) ≡ Some v
        → (s : Session) × (session_of r lsid ≡ Some s) × (v ≡ (act lsid s).session)
    by None is f = let no : None ≡ Some v = sym
        (ap (option_map (λ (s : Session). (act lsid s).session)) is) ∙ f in grind (arith, no)
    by (Some s) is f = (
      s,
      is,
      sym (some_same (act lsid s).session v
          (sym (ap (option_map (λ (s : Session). (act lsid s).session)) is) ∙ f)),
    )

pub each_quiet : (act : Lsid → Session → Deed) (r : RouterState)
    → ((lsid : Lsid) (s : Session) → QuietDoing s.doing (act lsid s).session.doing)
    → QuietMove r (in_each_session act r)
each_quiet act r h = record {
  kept = record { number = refl; boot = refl; serial = refl };
  sessions = λ lsid v e.
      let f = each_from act r lsid v e in
      quiet_is (session_of r lsid) f.0 v.doing f.1
      (subst (λ (w : Session). QuietDoing f.0.doing w.doing) (sym f.2) (h lsid f.0));
}

-- Requests to commit, to abort and to end sessions.

begun_quiet : (r : RouterState) (lsid : Lsid) (number : ℤ) (t : Transaction) (d : Deed)
    → begun_in (session_of r lsid) number ≡ Some t → QuietDoing (Begun t) d.session.doing
    → QuietMove r (done_in r lsid d)
begun_quiet r lsid number t d e h =
    let b = is_begun (session_of r lsid) number t e in
    done_quiet r lsid d (quiet_is (session_of r lsid) b.there d.session.doing b.is
    (subst (λ (x : Doing). QuietDoing x d.session.doing) (sym b.doing) h))

seeks_from : (lsid : Lsid) (number : ℤ) (asker : Asker) (k : Seeking) (o : Option Session)
    → QuietFrom o (tk.seeks_by lsid number asker k o).session.doing
seeks_from lsid number asker k None = tt
seeks_from lsid number asker k (Some s) = quiet_some s
    (tk.seeks_by lsid number asker k (Some s)).session.doing (seeks_quiet lsid number asker k s)

sought_quiet : (r : RouterState) (asker : Asker) (txn : Txn) (t : Option Token)
    → QuietMove r (rq.commit_sought r asker txn (session_of r txn.lsid) t)
sought_quiet r asker txn None = quiet_still r (still r) refl
sought_quiet r asker txn (Some (token.Early tag)) = quiet_still r (still r) refl
sought_quiet r asker txn (Some (token.Placed tag shard boot)) =
    let k : Seeking = record { asker = Some asker; tag = tag; shard = shard; boot = boot } in
    done_quiet r txn.lsid (tk.seeks_by txn.lsid txn.number asker k (session_of r txn.lsid))
    (seeks_from txn.lsid txn.number asker k (session_of r txn.lsid))
sought_quiet r asker txn (Some token.Other) = quiet_still r (still r) refl

commits_quiet : (r : RouterState) (asker : Asker) (txn : Txn) (t : Option Token)
    (refused : Option Reply) (own : Option Transaction)
    → begun_in (session_of r txn.lsid) txn.number ≡ own
    → QuietMove r (rq.unless_refused r asker refused (rq.commit_by r asker txn
    (session_of r txn.lsid) t own))
commits_quiet r asker txn t (Some why) own b = quiet_still r (answers r asker why) refl
commits_quiet r asker txn t None None b = sought_quiet r asker txn t
commits_quiet r asker txn t None (Some own) b = begun_quiet r txn.lsid txn.number own _ b
    (commit_asked_quiet txn.lsid txn.number asker own)

commit_quiet : (r : RouterState) (asker : Asker) (txn : Option Txn) (t : Option Token)
    → QuietMove r (rq.commit r asker txn t)
commit_quiet r asker None t = quiet_still r (still r) refl
commit_quiet r asker (Some txn) t = commits_quiet r asker txn t
    (commit_refusal r asker.conn (session_of r txn.lsid) txn t)
    (begun_in (session_of r txn.lsid) txn.number) refl

aborts_quiet : (r : RouterState) (asker : Asker) (txn : Txn) (refused : Option Reply)
    (own : Option Transaction) → begun_in (session_of r txn.lsid) txn.number ≡ own
    → QuietMove r (rq.unless_refused r asker refused (rq.abort_by r asker txn own))
aborts_quiet r asker txn (Some why) own b = quiet_still r (answers r asker why) refl
aborts_quiet r asker txn None None b = quiet_still r (still r) refl
aborts_quiet r asker txn None (Some own) b = begun_quiet r txn.lsid txn.number own _ b
    (client_aborts_quiet txn.lsid txn.number asker own)

abort_quiet : (r : RouterState) (asker : Asker) (txn : Option Txn)
    → QuietMove r (rq.abort r asker txn)
abort_quiet r asker None = quiet_still r (still r) refl
abort_quiet r asker (Some txn) = aborts_quiet r asker txn
    (abort_refusal r asker.conn (session_of r txn.lsid) txn)
    (begun_in (session_of r txn.lsid) txn.number) refl

end_quiet : (r : RouterState) (lsid : Lsid) (o : Option Session) → session_of r lsid ≡ o
    → QuietMove r (en.end_session r lsid o)
end_quiet r lsid None e = quiet_still r (still r) refl
end_quiet r lsid (Some s) e =
    let m = done_quiet r lsid (en.ends_session lsid s)
    (quiet_is (session_of r lsid) s (en.ends_session lsid s).session.doing e
    (session_quiet lsid s.number s.doing)) in
    record { kept = m.kept; sessions = m.sessions }

kept_then : (r s t : RouterState) → Kept r s → Kept s t → Kept r t
kept_then r s t h k = record {
  number = k.number ∙ h.number;
  boot = k.boot ∙ h.boot;
  serial =
      k.serial ∙ h.serial;
}

ends_quiet : (r : RouterState) (lsids : List Lsid) → QuietMove r (en.end_sessions r lsids)
ends_quiet r [] = quiet_still r (still r) refl
ends_quiet r (lsid ∷ lsids) =
    let first = end_quiet r lsid (session_of r lsid) refl in
    let next = (en.end_session r lsid (session_of r lsid)).state in
    let more = ends_quiet next lsids in
    record {
      kept = kept_then r next (en.end_sessions next lsids).state first.kept more.kept;
      sessions = all_then r next (en.end_sessions next lsids).state first.sessions more.sessions;
    }

-- Statements.

-- its tag was drawn in this boot
pub record IsOwn (r : RouterState) (tag : Tag) : Type 0 where
  pub router : tag.router ≡ r.number
  pub boot : tag.boot ≡ r.boot
  pub serial : tag.serial ≤ r.serial

-- it is the session's, and nothing is asked
abbrev pub IsIdleIn : RouterState → Lsid → Transaction → Type 0
IsIdleIn r lsid t = (s : Session) × (session_of r lsid ≡ Some s) × (s.doing ≡ Begun t) × IsSettled
    t.phase

-- a statement is asked, of a transaction in which nothing is asked, or of a new one
pub record AsksOne (r : RouterState) (conn : ℕ) (op : Op) (m : Move) : Type 0 where
  pub lsid : Lsid
  pub number : ℤ
  pub asker : Asker
  pub t : Transaction
  pub from : asker.conn ≡ conn
  pub sends : m.given.sends ≡ st.statements_to r.chunks lsid number t op
  pub aborts : AllFit NoStatement m.given.aborts
  pub number_is : m.state.number ≡ r.number
  pub boot_is : m.state.boot ≡ r.boot
  pub rises : r.serial ≤ m.state.serial
  pub of : IsIdleIn r lsid t ⊎ ((t.tag ≡ rq.next_tag r) × (r.serial + 1 ≤ m.state.serial))
  pub state : (other : Lsid) (v : Session) → session_of m.state other ≡ Some v
      → ((other ≡ lsid) × (v ≡ (st.asks r.chunks lsid number asker op t).session)) ⊎
      ((same_lsid other lsid ≡ false) × (session_of r other ≡ Some v))

abbrev pub MayAskOne : RouterState → ℕ → Op → Move → Type 0
MayAskOne r conn op m = ((m.state ≡ r) × (m.given.sends ≡ []) × (m.given.aborts ≡ [])) ⊎ AsksOne r
    conn op m

pub not_waiting : (conn : ℕ) (lsid : Lsid) (entries : BySession Session) (s : Session)
    → list_any (λ (entry : Lsid × Session). is_from conn (asker_of entry.1.doing)) entries ≡ false
    → entry_of lsid entries ≡ Some s → is_from conn (asker_of s.doing) ≡ false
not_waiting conn lsid [] s h e = grind arith
not_waiting conn lsid (entry ∷ entries) s h e =
    let b = neither (is_from conn (asker_of entry.1.doing))
    (list_any (λ (entry : Lsid × Session). is_from conn (asker_of entry.1.doing)) entries) h in
    by (same_lsid lsid entry.0) refl b.0 (λ k. not_waiting conn lsid entries s b.1 k)
  where
    neither : (a b : Bool) → (a || b) ≡ false → (a ≡ false) × (b ≡ false)
    neither true b e = grind arith
    neither false b e = (refl, e)

    by : (test : Bool) → same_lsid lsid entry.0 ≡ test
        → is_from conn (asker_of entry.1.doing) ≡ false
        → (entry_of lsid entries ≡ Some s → is_from conn (asker_of s.doing) ≡ false)
        → is_from conn (asker_of s.doing) ≡ false
    by true is here more =
        let same : entry.1 ≡ s = some_same entry.1 s (sym (first_is lsid entry entries is) ∙ e) in
        subst (λ (x : Session). is_from conn (asker_of x.doing) ≡ false) same here
    by false is here more = more (sym (rest_is lsid entry entries is) ∙ e)

settled_if : (conn : ℕ) (p : Phase) → is_elsewhere conn (asker_in p) ≡ false → commit_sent p ≡ false
    → is_aborted p ≡ false → is_from conn (asker_in p) ≡ false → IsSettled p
settled_if conn Idle a b c d = tt
settled_if conn (Asking asker op answers) a b c d = let no : not false ≡ false = ap not (sym d) ∙
    a in grind (arith, no)
settled_if conn (Checking asker) a b c d = grind (arith, b)
settled_if conn (Deciding asker) a b c d = grind (arith, b)
settled_if conn Committed a b c d = grind (arith, b)
settled_if conn Released a b c d = grind (arith, b)
settled_if conn (Aborted sent) a b c d = grind (arith, c)

-- what no refusal leaves of it
pub record Passes (conn : ℕ) (session : Option Session) (number : ℤ) : Type 0 where
  pub elsewhere : is_so (λ (s : Session). is_elsewhere conn (asker_of s.doing)) session ≡ false
  pub sent : is_so (λ (t : Transaction). commit_sent t.phase) (begun_in session number) ≡ false
  pub aborted : is_so (λ (t : Transaction). is_aborted t.phase) (begun_in session number) ≡ false

pub passes : (r : RouterState) (conn : ℕ) (session : Option Session) (txn : Txn) (op : Op)
    → statement_refusal r conn session txn op ≡ None → Passes conn session txn.number
unfolding statement_refusal
passes r conn session txn op h =
    let n = txn.number in
    let last = many_shards r.chunks op ∷ known_aborted session n ∷ [] in
    let behind = too_long session n ∷ too_many r session ∷ spent r session n ∷ last in
    let rest = no_transaction session n txn.start false ∷ after_commit session n ∷ behind in
    let a = first_none (too_old session n) (busy session conn ∷ started session txn ∷ rest) h in
    let b = first_none (busy session conn) (started session txn ∷ rest) a.1 in
    let c = first_none (started session txn) rest b.1 in
    let d = first_none (no_transaction session n txn.start false) (after_commit session n ∷ behind)
    c.1 in
    let e = first_none (after_commit session n) behind d.1 in
    let f = first_none (too_long session n) (too_many r session ∷ spent r session n ∷ last) e.1 in
    let g = first_none (too_many r session) (spent r session n ∷ last) f.1 in
    let i = first_none (spent r session n) last g.1 in
    let j = first_none (many_shards r.chunks op) (known_aborted session n ∷ []) i.1 in
    let k = first_none (known_aborted session n) [] j.1 in
    record {
      elsewhere = so_not (is_so (λ (s : Session). is_elsewhere conn (asker_of s.doing)) session)
          refusal.Busy b.0;
      sent = so_not (is_so (λ (t : Transaction). commit_sent t.phase) (begun_in session n))
          refusal.AfterCommit e.0;
      aborted = so_not (is_so (λ (t : Transaction). is_aborted t.phase) (begun_in session n))
          refusal.Aborted k.0;
    }

asks_begun : (r : RouterState) (lsid : Lsid) (number : ℤ) (asker : Asker) (op : Op)
    (t : Transaction) → begun_in (session_of r lsid) number ≡ Some t → IsSettled t.phase
    → AsksOne r asker.conn op (done_in r lsid (st.asks r.chunks lsid number asker op t))
asks_begun r lsid number asker op t e settled =
    let b = is_begun (session_of r lsid) number t e in
    record {
      lsid = lsid;
      number = number;
      asker = asker;
      t = t;
      from = refl;
      sends = refl;
      aborts = All-nil (PostFits NoStatement);
      number_is = refl;
      boot_is = refl;
      rises = omega arith;
      of = inl (b.there, b.is, b.doing, settled);
      state = λ other v x. done_there r lsid other (st.asks r.chunks lsid number asker op t) v x;
    }

asks_new : (r : RouterState) (lsid : Lsid) (s : Option Session) (number : ℤ) (asker : Asker)
    (op : Op) (read_at : ℕ)
    → AsksOne r asker.conn op (rq.begins_at r lsid s number asker op read_at)
asks_new r lsid s number asker op read_at =
    let t = rq.begun_at r read_at in
    let deed = rq.behind_left lsid s (st.asks r.chunks lsid number asker op t) in
    record {
      lsid = lsid;
      number = number;
      asker = asker;
      t = t;
      from = refl;
      sends = refl;
      aborts = All-append (PostFits NoStatement) (rq.left_of lsid s) []
          (leaves_fit NoStatement lsid s) (All-nil (PostFits NoStatement));
      number_is = refl;
      boot_is = refl;
      rises = omega arith;
      of = inr (refl, omega arith);
      state = λ other v x. done_there (rq.drawn r read_at) lsid other deed v x;
    }

states_ask : (r : RouterState) (asker : Asker) (lsid : Lsid) (number : ℤ) (op : Op) (at : Option ℕ)
    (refused : Option Reply) (own : Option Transaction) → begun_in (session_of r lsid) number ≡ own
    → (refused ≡ None → Passes asker.conn (session_of r lsid) number)
    → is_waiting r asker.conn ≡ false
    → MayAskOne r asker.conn op (rq.unless_refused r asker refused
    (rq.states r lsid (session_of r lsid) number asker op at own))
states_ask r asker lsid number op at (Some why) own b p w = inl (refl, refl, refl)
states_ask r asker lsid number op at None (Some t) b p w = inr
    (asks_begun r lsid number asker op t b (idle (p refl) (is_begun (session_of r lsid) number t
    b)))
  where
    idle : Passes asker.conn (session_of r lsid) number → IsBegun (session_of r lsid) number t
        → IsSettled t.phase
    idle k there =
        let here : asker_of there.there.doing ≡ asker_in t.phase = ap asker_of there.doing in
        settled_if asker.conn t.phase
        (ap (is_elsewhere asker.conn) (sym here) ∙ ap
        (is_so (λ (s : Session). is_elsewhere asker.conn (asker_of s.doing))) (sym there.is) ∙
        k.elsewhere)
        (ap (is_so (λ (t : Transaction). commit_sent t.phase)) (sym b) ∙ k.sent)
        (ap (is_so (λ (t : Transaction). is_aborted t.phase)) (sym b) ∙ k.aborted)
        (ap (is_from asker.conn) (sym here) ∙ not_waiting asker.conn lsid r.sessions there.there w
        there.is)
states_ask r asker lsid number op at None None b p w = inr
    (asks_new r lsid (session_of r lsid) number asker op _)

pub statement_asks : (r : RouterState) (asker : Asker) (txn : Option Txn) (op : Op) (at : Option ℕ)
    → is_waiting r asker.conn ≡ false
    → MayAskOne r asker.conn op (rq.statement r asker txn op at)
statement_asks r asker None op at w =
    let txn = rq.by_itself r asker.conn in
    states_ask r asker txn.lsid txn.number op at
    (statement_refusal r asker.conn (session_of r txn.lsid) txn op)
    (begun_in (session_of r txn.lsid) txn.number) refl
    (λ e. passes r asker.conn (session_of r txn.lsid) txn op e) w
statement_asks r asker (Some txn) op at w =
    states_ask r asker txn.lsid txn.number op at
    (statement_refusal r asker.conn (session_of r txn.lsid) txn op)
    (begun_in (session_of r txn.lsid) txn.number) refl
    (λ e. passes r asker.conn (session_of r txn.lsid) txn op e) w

-- Requests that are no statement.

abbrev pub IsOther : Request → Type 0
IsOther (request.Statement op txn at after more time) = ⊥
IsOther other = Unit {0}

pub others_quiet : (r : RouterState) (asker : Asker) (legacy : Bool) (x : Request) → IsOther x
    → QuietMove r (rq.serves r asker legacy x)
unfolding rq.serves
others_quiet r asker legacy (request.Ping more time) h = let m = quiet_still (met r time None)
    (still (met r time None)) refl in record {
      kept = record {
        number = refl;
        boot = refl;
        serial =
            refl;
      };
      sessions = m.sessions;
    }
others_quiet r asker legacy (request.Hello old_name more time) h = let m = quiet_still
    (met r time None) (still (met r time None)) refl in record
    { kept = record { number = refl; boot = refl; serial = refl }; sessions = m.sessions }
others_quiet r asker legacy (request.Statement op txn at after more time) h = absurd h
others_quiet r asker legacy (request.Commit txn t more time) h = let m = commit_quiet
    (met r time None) asker txn t in record {
      kept = record {
        number = m.kept.number;
        boot =
            m.kept.boot;
        serial = m.kept.serial;
      };
      sessions = m.sessions;
    }
others_quiet r asker legacy (request.Abort txn more time) h = let m = abort_quiet (met r time None)
    asker txn in record {
      kept = record {
        number = m.kept.number;
        boot = m.kept.boot;
        serial =
            m.kept.serial;
      };
      sessions = m.sessions;
    }
others_quiet r asker legacy (request.EndSessions ids more time) h = let m = ends_quiet
    (met r time None) ids in record {
      kept = record {
        number = m.kept.number;
        boot = m.kept.boot;
        serial = m.kept.serial;
      };
      sessions = m.sessions;
    }
