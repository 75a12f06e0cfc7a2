-- What an event does at a router, session by session: a transaction keeps what it reads at and the
-- boots of its shards, or it asks a statement.
use Rattle.std.proofs.Common.{◌≡◌, ◌⊎◌, inl, inr, ◌+◌, ◌≤◌, ◌<◌, ◌||◌, ◌*◌, ◌^◌, max, ℕ, ℤ, pos}
use Rattle.std.proofs.Common.{Bool, true, false, not, List, [], ◌∷◌, Option, Some, None, ◌+ℤ◌, refl}
use Rattle.std.proofs.Common.{sym, ap, subst, ◌∙◌, arith, if◌then◌else◌}
use Rattle.std.specs.List.{list_any}
use Rattle.std.proofs.lemmas.Int.{ints}
use Rattle.std.proofs.lemmas.List.Elements.{All-nil, All-append}
use Rattle.txn_types.specs.BySession.{BySession, entry_of}
use Rattle.txn_types.specs.Order.{same_lsid}
use Rattle.txn_types.specs.declared.decision.Token.{Token}
use Rattle.txn_types.specs.declared.decision.Token.TheVariants as token
use Rattle.txn_types.specs.declared.node.Lsid.{Lsid}
use Rattle.txn_types.specs.declared.operation.Op.{Op}
use Rattle.client_cmd.specs.declared.request.Request.{Request}
use Rattle.client_cmd.specs.declared.request.Request.TheVariants as request
use Rattle.client_cmd.specs.declared.request.Txn.{Txn}
use Rattle.client_reply.specs.declared.reply.Refusal.TheVariants as refusal
use Rattle.client_reply.specs.declared.reply.Reply.{Reply}
use Rattle.chunk_map.specs.Parts.{shards_of}
use Rattle.router_state.specs.declared.deed.Deed.{Deed}
use Rattle.router_state.specs.declared.state.Asker.{Asker}
use Rattle.router_state.specs.declared.state.Doing.{Doing}
use Rattle.router_state.specs.declared.state.Doing.TheVariants.{Begun, Sought}
use Rattle.router_state.specs.declared.state.Phase.{Phase}
use Rattle.router_state.specs.declared.state.Phase.TheVariants.{Idle, Asking, Checking, Deciding}
use Rattle.router_state.specs.declared.state.Phase.TheVariants.{Committed, Released, Aborted}
use Rattle.router_state.specs.declared.state.Seeking.{Seeking}
use Rattle.router_state.specs.declared.state.Session.{Session}
use Rattle.router_state.specs.declared.state.Transaction.{Transaction}
use Rattle.router_state.specs.Deeds.{Move, answers, done_in, in_each_session}
use Rattle.router_state.specs.State.{RouterState, session_of, is_waiting, is_from, is_own, asker_of}
use Rattle.router_state.specs.State.{asker_in, commit_sent}
use Rattle.router_rules.specs.Commits as co
use Rattle.router_rules.specs.Ends as en
use Rattle.router_rules.specs.Statements as st
use Rattle.router_rules.specs.Times.{met, is_left, chosen, read_time}
use Rattle.router_rules.specs.Tokens as tk
use Rattle.router_plan.specs.Names.{NamesClient}
use Rattle.router_plan.specs.Plain.{next_number}
use Rattle.router_plan.specs.Refusals.{begun_in, statement_refusal, commit_refusal, abort_refusal}
use Rattle.router_plan.specs.Refusals.{too_old, busy, started, no_transaction, after_commit}
use Rattle.router_plan.specs.Refusals.{too_long, too_many, spent, many_shards, known_aborted, is_so}
use Rattle.router_plan.specs.Refusals.{is_elsewhere, is_aborted}
use Rattle.router_core.specs.Requests as rq
use Rattle.answer_laws.proofs.Fits.{PostFits, AllFit, NoStatement}
use Rattle.world_laws.proofs.Beginning.{IsBegun, is_begun, first_none, so_not}
use Rattle.answer_laws.proofs.Beginning.{leaves_fit}
use Rattle.world_laws.proofs.Going.{first_is, rest_is, some_same}
use Rattle.told_laws.proofs.Quiet.{IsSettled}
use Rattle.told_laws.proofs.Moves.{done_there, each_from, IsIdleIn, IsOther}
use Rattle.chain_laws.proofs.Same.{SameDoing, same_self, same_then, commit_asked_same}
use Rattle.chain_laws.proofs.Same.{client_aborts_same, session_same, seeks_same}

abbrev pub SameFrom : Option Session → Doing → Type 0
SameFrom old (Sought seeking known) = Unit {0}
SameFrom None (Begun v) = ⊥
SameFrom (Some s) (Begun v) = SameDoing s.doing (Begun v)

abbrev pub AllSame : RouterState → RouterState → Type 0
AllSame r t = (lsid : Lsid) (v : Session) → session_of t lsid ≡ Some v
    → SameFrom (session_of r lsid) v.doing

same_some : (s : Session) (doing : Doing) → SameDoing s.doing doing → SameFrom (Some s) doing
same_some s (Begun v) h = h
same_some s (Sought seeking known) h = tt

some_same_of : (s : Session) (doing : Doing) → SameFrom (Some s) doing → SameDoing s.doing doing
some_same_of s (Begun v) h = h
some_same_of s (Sought seeking known) h = tt

same_is : (o : Option Session) (s : Session) (doing : Doing) → o ≡ Some s
    → SameDoing s.doing doing → SameFrom o doing
same_is o s doing e h = subst (λ (x : Option Session). SameFrom x doing) (sym e)
    (same_some s doing h)

from_then : (o : Option Session) (a b : Doing) → SameFrom o a → SameDoing a b → SameFrom o b
from_then o a (Sought seeking known) h k = tt
from_then None (Begun t) (Begun v) h k = h
from_then None (Sought seeking known) (Begun v) h k = k
from_then (Some s) a (Begun v) h k = same_then s.doing a (Begun v) (some_same_of s a h) k

sought_any : (old : Option Session) (doing : Doing) → SameFrom None doing → SameFrom old doing
sought_any old (Begun x) w = absurd w
sought_any old (Sought seeking known) w = tt

pub all_then : (r s t : RouterState) → AllSame r s → AllSame s t → AllSame r t
all_then r s t h k lsid v e = by (session_of s lsid) refl (k lsid v e)
  where
    by : (o : Option Session) → session_of s lsid ≡ o → SameFrom o v.doing
        → SameFrom (session_of r lsid) v.doing
    by None is q = sought_any (session_of r lsid) v.doing q
    by (Some w) is q = from_then (session_of r lsid) w.doing v.doing (h lsid w is)
        (some_same_of w v.doing q)

pub all_self : (r : RouterState) → AllSame r r
all_self r lsid v e = same_is (session_of r lsid) v v.doing e (same_self v.doing)

pub same_still : (r : RouterState) (m : Move) → m.state ≡ r → AllSame r m.state
same_still r m e = subst (AllSame r) (sym e) (all_self r)

done_same : (r : RouterState) (lsid : Lsid) (d : Deed)
    → SameFrom (session_of r lsid) d.session.doing → AllSame r (done_in r lsid d).state
done_same r lsid d h other v e = by other v (done_there r lsid other d v e)
  where
    by : (other : Lsid) (v : Session) → ((other ≡ lsid) × (v ≡ d.session)) ⊎
        ((same_lsid other lsid ≡ false) × (session_of r other ≡ Some v))
        → SameFrom (session_of r other) v.doing
    by other v (inl w) =
        subst (λ (l : Lsid). SameFrom (session_of r l) v.doing) (sym w.0)
        (subst (λ (s : Session). SameFrom (session_of r lsid) s.doing) (sym w.1) h)
    by other v (inr w) = same_is (session_of r other) v v.doing w.1 (same_self v.doing)

pub each_same : (act : Lsid → Session → Deed) (r : RouterState)
    → ((lsid : Lsid) (s : Session) → SameDoing s.doing (act lsid s).session.doing)
    → AllSame r (in_each_session act r).state
each_same act r h lsid v e =
    let f = each_from act r lsid v e in
    same_is (session_of r lsid) f.0 v.doing f.1
    (subst (λ (w : Session). SameDoing f.0.doing w.doing) (sym f.2) (h lsid f.0))

-- Requests to commit, to abort and to end sessions.

begun_same : (r : RouterState) (lsid : Lsid) (number : ℤ) (t : Transaction) (d : Deed)
    → begun_in (session_of r lsid) number ≡ Some t → SameDoing (Begun t) d.session.doing
    → AllSame r (done_in r lsid d).state
begun_same r lsid number t d e h =
    let b = is_begun (session_of r lsid) number t e in
    done_same r lsid d (same_is (session_of r lsid) b.there d.session.doing b.is
    (subst (λ (x : Doing). SameDoing x d.session.doing) (sym b.doing) h))

seeks_from : (lsid : Lsid) (number : ℤ) (asker : Asker) (k : Seeking) (o : Option Session)
    → SameFrom o (tk.seeks_by lsid number asker k o).session.doing
seeks_from lsid number asker k None = tt
seeks_from lsid number asker k (Some s) = same_some s
    (tk.seeks_by lsid number asker k (Some s)).session.doing (seeks_same lsid number asker k s)

sought_same : (r : RouterState) (asker : Asker) (txn : Txn) (t : Option Token)
    → AllSame r (rq.commit_sought r asker txn (session_of r txn.lsid) t).state
sought_same r asker txn None = all_self r
sought_same r asker txn (Some (token.Early tag)) = all_self r
sought_same r asker txn (Some (token.Placed tag shard boot)) =
    let k : Seeking = record { asker = Some asker; tag = tag; shard = shard; boot = boot } in
    done_same r txn.lsid (tk.seeks_by txn.lsid txn.number asker k (session_of r txn.lsid))
    (seeks_from txn.lsid txn.number asker k (session_of r txn.lsid))
sought_same r asker txn (Some token.Other) = all_self r

commits_same : (r : RouterState) (asker : Asker) (txn : Txn) (t : Option Token)
    (refused : Option Reply) (own : Option Transaction)
    → begun_in (session_of r txn.lsid) txn.number ≡ own
    → AllSame r (rq.unless_refused r asker refused (rq.commit_by r asker txn
    (session_of r txn.lsid) t own)).state
commits_same r asker txn t (Some why) own b = all_self r
commits_same r asker txn t None None b = sought_same r asker txn t
commits_same r asker txn t None (Some own) b = begun_same r txn.lsid txn.number own
    (co.commit_asked txn.lsid txn.number asker own) b
    (commit_asked_same txn.lsid txn.number asker own)

commit_same : (r : RouterState) (asker : Asker) (txn : Option Txn) (t : Option Token)
    → AllSame r (rq.commit r asker txn t).state
commit_same r asker None t = all_self r
commit_same r asker (Some txn) t = commits_same r asker txn t
    (commit_refusal r asker.conn (session_of r txn.lsid) txn t)
    (begun_in (session_of r txn.lsid) txn.number) refl

aborts_same : (r : RouterState) (asker : Asker) (txn : Txn) (refused : Option Reply)
    (own : Option Transaction) → begun_in (session_of r txn.lsid) txn.number ≡ own
    → AllSame r (rq.unless_refused r asker refused (rq.abort_by r asker txn own)).state
aborts_same r asker txn (Some why) own b = all_self r
aborts_same r asker txn None None b = all_self r
aborts_same r asker txn None (Some own) b = begun_same r txn.lsid txn.number own
    (en.client_aborts txn.lsid txn.number asker own) b
    (client_aborts_same txn.lsid txn.number asker own)

abort_same : (r : RouterState) (asker : Asker) (txn : Option Txn)
    → AllSame r (rq.abort r asker txn).state
abort_same r asker None = all_self r
abort_same r asker (Some txn) = aborts_same r asker txn
    (abort_refusal r asker.conn (session_of r txn.lsid) txn)
    (begun_in (session_of r txn.lsid) txn.number) refl

end_same : (r : RouterState) (lsid : Lsid) (o : Option Session) → session_of r lsid ≡ o
    → AllSame r (en.end_session r lsid o).state
end_same r lsid None e = all_self r
end_same r lsid (Some s) e =
    done_same r lsid (en.ends_session lsid s)
    (same_is (session_of r lsid) s (en.ends_session lsid s).session.doing e
    (session_same lsid s.number s.doing))

ends_same : (r : RouterState) (lsids : List Lsid) → AllSame r (en.end_sessions r lsids).state
ends_same r [] = all_self r
ends_same r (lsid ∷ lsids) =
    let next = (en.end_session r lsid (session_of r lsid)).state in
    all_then r next (en.end_sessions next lsids).state
    (end_same r lsid (session_of r lsid) refl) (ends_same next lsids)

pub others_same : (r : RouterState) (asker : Asker) (legacy : Bool) (x : Request) → IsOther x
    → AllSame r (rq.serves r asker legacy x).state
unfolding rq.serves
others_same r asker legacy (request.Ping more time) h = all_self r
others_same r asker legacy (request.Hello old_name more time) h = all_self r
others_same r asker legacy (request.Statement op txn at after more time) h = absurd h
others_same r asker legacy (request.Commit txn t more time) h =
    commit_same (met r time None) asker txn t
others_same r asker legacy (request.Abort txn more time) h = abort_same (met r time None) asker txn
others_same r asker legacy (request.EndSessions ids more time) h = ends_same (met r time None) ids

-- Statements.

-- a transaction begins, with what it reads at; that is left to the shard for a command by itself
-- alone
pub record IsFresh (r s : RouterState) (lsid : Lsid) (t : Transaction) : Type 0 where
  pub read_at : ℕ
  pub is : t ≡ rq.begun_at r read_at
  pub left : read_at ≡ 0 → is_own lsid ≡ true
  pub drawn : r.serial + 1 ≤ s.serial

-- a statement is asked, of a client's transaction in which nothing is asked, or of a new one
pub record Asks (r : RouterState) (op : Op) (m : Move) : Type 0 where
  pub lsid : Lsid
  pub number : ℤ
  pub asker : Asker
  pub t : Transaction
  pub sends : m.given.sends ≡ st.statements_to r.chunks lsid number t op
  pub aborts : AllFit NoStatement m.given.aborts
  pub of : (IsIdleIn r lsid t × (is_own lsid ≡ false)) ⊎ IsFresh r m.state lsid t
  pub state : (other : Lsid) (v : Session) → session_of m.state other ≡ Some v
      → ((other ≡ lsid) × (v ≡ (st.asks r.chunks lsid number asker op t).session)) ⊎
      (session_of r other ≡ Some v)

abbrev pub MayAsk : RouterState → Op → Move → Type 0
MayAsk r op m = ((m.state ≡ r) × (m.given.sends ≡ []) × (m.given.aborts ≡ [])) ⊎ Asks r op m

not_waiting : (conn : ℕ) (lsid : Lsid) (entries : BySession Session) (s : Session)
    → list_any (λ (entry : Lsid × Session). is_from conn (asker_of entry.1.doing)) entries ≡ false
    → entry_of lsid entries ≡ Some s → is_from conn (asker_of s.doing) ≡ false
not_waiting conn lsid [] s h e = grind arith
not_waiting conn lsid (entry ∷ entries) s h e =
    let b = neither (is_from conn (asker_of entry.1.doing))
    (list_any (λ (entry : Lsid × Session). is_from conn (asker_of entry.1.doing)) entries) h in
    by (same_lsid lsid entry.0) refl b.0 (λ k. not_waiting conn lsid entries s b.1 k)
  where
    neither : (a b : Bool) → (a || b) ≡ false → (a ≡ false) × (b ≡ false)
    neither true b e = grind arith
    neither false b e = (refl, e)

    by : (test : Bool) → same_lsid lsid entry.0 ≡ test
        → is_from conn (asker_of entry.1.doing) ≡ false
        → (entry_of lsid entries ≡ Some s → is_from conn (asker_of s.doing) ≡ false)
        → is_from conn (asker_of s.doing) ≡ false
    by true is here more =
        let same : entry.1 ≡ s = some_same entry.1 s (sym (first_is lsid entry entries is) ∙ e) in
        subst (λ (x : Session). is_from conn (asker_of x.doing) ≡ false) same here
    by false is here more = more (sym (rest_is lsid entry entries is) ∙ e)

settled_if : (conn : ℕ) (p : Phase) → is_elsewhere conn (asker_in p) ≡ false → commit_sent p ≡ false
    → is_aborted p ≡ false → is_from conn (asker_in p) ≡ false → IsSettled p
settled_if conn Idle a b c d = tt
settled_if conn (Asking asker op answers) a b c d = let no : not false ≡ false = ap not (sym d) ∙
    a in grind (arith, no)
settled_if conn (Checking asker) a b c d = grind (arith, b)
settled_if conn (Deciding asker) a b c d = grind (arith, b)
settled_if conn Committed a b c d = grind (arith, b)
settled_if conn Released a b c d = grind (arith, b)
settled_if conn (Aborted sent) a b c d = grind (arith, c)

-- what no refusal leaves of it
record Passes (conn : ℕ) (session : Option Session) (number : ℤ) : Type 0 where
  elsewhere : is_so (λ (s : Session). is_elsewhere conn (asker_of s.doing)) session ≡ false
  sent : is_so (λ (t : Transaction). commit_sent t.phase) (begun_in session number) ≡ false
  aborted : is_so (λ (t : Transaction). is_aborted t.phase) (begun_in session number) ≡ false

passes : (r : RouterState) (conn : ℕ) (session : Option Session) (txn : Txn) (op : Op)
    → statement_refusal r conn session txn op ≡ None → Passes conn session txn.number
unfolding statement_refusal
passes r conn session txn op h =
    let n = txn.number in
    let last = many_shards r.chunks op ∷ known_aborted session n ∷ [] in
    let behind = too_long session n ∷ too_many r session ∷ spent r session n ∷ last in
    let rest = no_transaction session n txn.start false ∷ after_commit session n ∷ behind in
    let a = first_none (too_old session n) (busy session conn ∷ started session txn ∷ rest) h in
    let b = first_none (busy session conn) (started session txn ∷ rest) a.1 in
    let c = first_none (started session txn) rest b.1 in
    let d = first_none (no_transaction session n txn.start false) (after_commit session n ∷ behind)
    c.1 in
    let e = first_none (after_commit session n) behind d.1 in
    let f = first_none (too_long session n) (too_many r session ∷ spent r session n ∷ last) e.1 in
    let g = first_none (too_many r session) (spent r session n ∷ last) f.1 in
    let i = first_none (spent r session n) last g.1 in
    let j = first_none (many_shards r.chunks op) (known_aborted session n ∷ []) i.1 in
    let k = first_none (known_aborted session n) [] j.1 in
    record {
      elsewhere = so_not (is_so (λ (s : Session). is_elsewhere conn (asker_of s.doing)) session)
          refusal.Busy b.0;
      sent = so_not (is_so (λ (t : Transaction). commit_sent t.phase) (begun_in session n))
          refusal.AfterCommit e.0;
      aborted = so_not (is_so (λ (t : Transaction). is_aborted t.phase) (begun_in session n))
          refusal.Aborted k.0;
    }

-- a time that a request names isn't 0
abbrev pub IsUp : Option ℕ → Type 0
IsUp None = Unit {0}
IsUp (Some at) = 0 < at

left_plain : (plain : Bool) (shards : List ℕ) (at : Option ℕ) → is_left plain shards at ≡ true
    → plain ≡ true
left_plain plain (shard ∷ []) None e = e
left_plain plain (shard ∷ []) (Some at) e = grind (arith, e)
left_plain plain [] at e = grind (arith, e)
left_plain plain (shard ∷ second ∷ more) at e = grind (arith, e)

chosen_up : (r : RouterState) (at : Option ℕ) → IsUp at → chosen r at ≡ 0 → ⊥
chosen_up r (Some at) up e = absurd (omega (arith, up, e))
chosen_up r None up e = absurd (over (max r.time (r.wall * 2 ^ 32)) e)
  where
    over : (n : ℕ) → max n 1 ≡ 0 → ⊥
    over n e = omega (arith, e)

read_left : (r : RouterState) (plain : Bool) (shards : List ℕ) (at : Option ℕ) → IsUp at
    → read_time r plain shards at ≡ 0 → plain ≡ true
read_left r plain shards at up e = by (is_left plain shards at) refl e
  where
    by : (test : Bool) → is_left plain shards at ≡ test → (if test then 0 else chosen r at) ≡ 0
        → plain ≡ true
    by true is z = left_plain plain shards at is
    by false is z = absurd (chosen_up r at up z)

asks_begun : (r : RouterState) (lsid : Lsid) (number : ℤ) (asker : Asker) (op : Op)
    (t : Transaction) → begun_in (session_of r lsid) number ≡ Some t → IsSettled t.phase
    → is_own lsid ≡ false
    → Asks r op (done_in r lsid (st.asks r.chunks lsid number asker op t))
asks_begun r lsid number asker op t e settled client =
    let b = is_begun (session_of r lsid) number t e in
    record {
      lsid = lsid;
      number = number;
      asker = asker;
      t = t;
      sends = refl;
      aborts = All-nil (PostFits NoStatement);
      of = inl ((b.there, b.is, b.doing, settled), client);
      state = λ other v x. there other v (done_there r lsid other
          (st.asks r.chunks lsid number asker op t) v x);
    }
  where
    there : (other : Lsid) (v : Session)
        → ((other ≡ lsid) × (v ≡ (st.asks r.chunks lsid number asker op t).session)) ⊎
        ((same_lsid other lsid ≡ false) × (session_of r other ≡ Some v))
        → ((other ≡ lsid) × (v ≡ (st.asks r.chunks lsid number asker op t).session)) ⊎
        (session_of r other ≡ Some v)
    there other v (inl w) = inl w
    there other v (inr w) = inr w.1

asks_new : (r : RouterState) (lsid : Lsid) (s : Option Session) (number : ℤ) (asker : Asker)
    (op : Op) (at : Option ℕ) → IsUp at
    → Asks r op (rq.begins r lsid s number asker op at)
asks_new r lsid s number asker op at up =
    let read_at = read_time r (is_own lsid) (shards_of r.chunks op) at in
    let t = rq.begun_at r read_at in
    let deed = rq.behind_left lsid s (st.asks r.chunks lsid number asker op t) in
    record {
      lsid = lsid;
      number = number;
      asker = asker;
      t = t;
      sends = refl;
      aborts = All-append (PostFits NoStatement) (rq.left_of lsid s) []
          (leaves_fit NoStatement lsid s) (All-nil (PostFits NoStatement));
      of = inr (record {
        read_at = read_at;
        is = refl;
        left = read_left r (is_own lsid) (shards_of r.chunks op) at up;
        drawn = omega arith;
      });
      state = λ other v x. there other v (done_there (rq.drawn r read_at) lsid other deed v x);
    }
  where
    there : (other : Lsid) (v : Session)
        → ((other ≡ lsid) × (v ≡ (st.asks r.chunks lsid number asker op (rq.begun_at r
        (read_time r (is_own lsid) (shards_of r.chunks op) at))).session)) ⊎
        ((same_lsid other lsid ≡ false) × (session_of r other ≡ Some v))
        → ((other ≡ lsid) × (v ≡ (st.asks r.chunks lsid number asker op (rq.begun_at r
        (read_time r (is_own lsid) (shards_of r.chunks op) at))).session)) ⊎
        (session_of r other ≡ Some v)
    there other v (inl w) = inl w
    there other v (inr w) = inr w.1

states_ask : (r : RouterState) (asker : Asker) (lsid : Lsid) (number : ℤ) (op : Op) (at : Option ℕ)
    (refused : Option Reply) (own : Option Transaction) → begun_in (session_of r lsid) number ≡ own
    → (refused ≡ None → Passes asker.conn (session_of r lsid) number)
    → ((t : Transaction) → own ≡ Some t → is_own lsid ≡ false)
    → IsUp at → is_waiting r asker.conn ≡ false
    → MayAsk r op (rq.unless_refused r asker refused
    (rq.states r lsid (session_of r lsid) number asker op at own))
states_ask r asker lsid number op at (Some why) own b p client up w = inl (refl, refl, refl)
states_ask r asker lsid number op at None (Some t) b p client up w = inr
    (asks_begun r lsid number asker op t b (idle (p refl) (is_begun (session_of r lsid) number t
    b)) (client t refl))
  where
    idle : Passes asker.conn (session_of r lsid) number → IsBegun (session_of r lsid) number t
        → IsSettled t.phase
    idle k there =
        let here : asker_of there.there.doing ≡ asker_in t.phase = ap asker_of there.doing in
        settled_if asker.conn t.phase
        (ap (is_elsewhere asker.conn) (sym here) ∙ ap
        (is_so (λ (s : Session). is_elsewhere asker.conn (asker_of s.doing))) (sym there.is) ∙
        k.elsewhere)
        (ap (is_so (λ (t : Transaction). commit_sent t.phase)) (sym b) ∙ k.sent)
        (ap (is_so (λ (t : Transaction). is_aborted t.phase)) (sym b) ∙ k.aborted)
        (ap (is_from asker.conn) (sym here) ∙ not_waiting asker.conn lsid r.sessions there.there w
        there.is)
states_ask r asker lsid number op at None None b p client up w = inr
    (asks_new r lsid (session_of r lsid) number asker op at up)

-- a connection's next number isn't begun
next_none : (o : Option Session) (t : Transaction) → begun_in o (next_number o) ≡ Some t → ⊥
next_none o t e =
    let b = is_begun o (next_number o) t e in
    let same : b.there.number ≡ b.there.number +ℤ pos 1 =
    b.number_is ∙ ap next_number b.is in
    omega (arith, ints, same)

pub statement_asks : (r : RouterState) (asker : Asker) (txn : Option Txn) (op : Op) (at : Option ℕ)
    → NamesClient txn → IsUp at → is_waiting r asker.conn ≡ false
    → MayAsk r op (rq.statement r asker txn op at)
statement_asks r asker None op at client up w =
    let txn = rq.by_itself r asker.conn in
    states_ask r asker txn.lsid txn.number op at
    (statement_refusal r asker.conn (session_of r txn.lsid) txn op)
    (begun_in (session_of r txn.lsid) txn.number) refl
    (λ e. passes r asker.conn (session_of r txn.lsid) txn op e)
    (λ t e. absurd (next_none (session_of r txn.lsid) t e)) up w
statement_asks r asker (Some txn) op at client up w =
    states_ask r asker txn.lsid txn.number op at
    (statement_refusal r asker.conn (session_of r txn.lsid) txn op)
    (begun_in (session_of r txn.lsid) txn.number) refl
    (λ e. passes r asker.conn (session_of r txn.lsid) txn op e) (λ t e. client) up w
