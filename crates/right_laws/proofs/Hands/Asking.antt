-- What a request leaves of sessions: each is as it was, or one that lives, in which the request
-- waits as it suits it.
use Rattle.std.proofs.Common.{◌≡◌, ◌⊎◌, inl, inr, ◌∙◌, ◌&&◌, ℕ, ℤ, Bool, true, false, not, All}
use Rattle.std.proofs.Common.{Contains, List, [], ◌∷◌, map, fold, length, nat_eq, int_lt, is_none}
use Rattle.std.proofs.Common.{Option, Some, None, refl, sym, ap, subst}
use Rattle.std.proofs.lemmas.List.Elements.{All-weaker, All-contains, All-contains_itself}
use Rattle.std.specs.Ordering.{nat_cmp}
use Rattle.txn_types.specs.BySession.{BySession, entry_of, with_entry}
use Rattle.txn_types.specs.declared.decision.Token.{Token}
use Rattle.txn_types.specs.declared.decision.Token.TheVariants as token
use Rattle.txn_types.specs.declared.names.Tag.{Tag}
use Rattle.txn_types.specs.declared.node.Lsid.{Lsid}
use Rattle.txn_types.specs.declared.operation.Op.{Op}
use Rattle.client_cmd.specs.declared.request.Request.{Request}
use Rattle.client_cmd.specs.declared.request.Request.TheVariants as request
use Rattle.client_cmd.specs.declared.request.Txn.{Txn}
use Rattle.client_reply.specs.declared.reply.Reply.{Reply}
use Rattle.chunk_map.specs.Map.{Map}
use Rattle.chunk_map.specs.Parts.{shards_of}
use Rattle.router_state.specs.Deeds.{Move, done_in}
use Rattle.router_state.specs.Shards.{with_shard}
use Rattle.router_state.specs.State.{RouterState, session_of, asker_of, asker_in, is_from, is_own}
use Rattle.router_state.specs.State.{commit_sent, is_waiting, boot_of}
use Rattle.router_state.specs.declared.deed.Deed.{Deed}
use Rattle.router_state.specs.declared.state.Asker.{Asker}
use Rattle.router_state.specs.declared.state.Doing.{Doing}
use Rattle.router_state.specs.declared.state.Doing.TheVariants.{Begun, Sought}
use Rattle.router_state.specs.declared.state.Phase.{Phase}
use Rattle.router_state.specs.declared.state.Phase.TheVariants.{Idle, Asking, Checking, Deciding}
use Rattle.router_state.specs.declared.state.Phase.TheVariants.{Committed, Released, Aborted}
use Rattle.router_state.specs.declared.state.Seeking.{Seeking}
use Rattle.router_state.specs.declared.state.Session.{Session}
use Rattle.router_state.specs.declared.state.Transaction.{Transaction}
use Rattle.router_rules.specs.Commits as co
use Rattle.router_rules.specs.Ends as en
use Rattle.router_rules.specs.Statements as st
use Rattle.router_rules.specs.Times.{met, read_time}
use Rattle.router_rules.specs.Tokens as tk
use Rattle.router_plan.specs.Refusals as rf
use Rattle.router_core.specs.Requests as rq
use Rattle.cluster_core.specs.Replying.{txn_of}
use Rattle.cluster_core.specs.Telling.{is_attempt, is_abort}
use Rattle.participant.proofs.Cases.{either}
use Rattle.shard_image.proofs.Sessions.{with_entry_again}
use Rattle.world_laws.proofs.Beginning.{is_begun}
use Rattle.world_laws.proofs.PartTimes.{entries_put}
use Rattle.known_laws.proofs.Sessions.{entry_named}
use Rattle.reply_laws.proofs.Asking.{NamesClient}
use Rattle.reply_laws.proofs.Lists.{none_waits, not_both}
use Rattle.reply_laws.proofs.Reading.{NamesIn}
use Rattle.making_laws.proofs.Hearing.{some_is, no_some}
use Rattle.abort_laws.proofs.Requests.{op_in}
use Rattle.right_laws.specs.Said.{Suits, NamesIt}
use Rattle.right_laws.proofs.Hands.Living.{Lives, TxnLives, Commits, commits_lives, decides_lives}
use Rattle.right_laws.proofs.Hands.Living.{put_some}

-- a session that lives, in which this request waits as it suits it
pub record IsNew (conn : ℕ) (q : Request) (entry : Lsid × Session) : Type 0 where
  pub lives : Lives entry.1.doing
  pub suits : is_from conn (asker_of entry.1.doing) ≡ true → Suits q entry.0 entry.1.doing
  pub names : is_from conn (asker_of entry.1.doing) ≡ true → NamesIt q entry.0 entry.1.number

abbrev pub OldOrNew : ℕ → Request → BySession Session → Lsid × Session → Type 0
OldOrNew conn q old entry = Contains old entry ⊎ IsNew conn q entry

abbrev pub Leaves : ℕ → Request → BySession Session → Move → Type 0
Leaves conn q old m = All (OldOrNew conn q old) m.state.sessions

abbrev pub LivesIn : Lsid × Session → Type 0
LivesIn entry = Lives entry.1.doing

module _ (conn : ℕ) (q : Request) (old : BySession Session) where
  self : All (OldOrNew conn q old) old
  self = All-weaker (Contains old) (OldOrNew conn q old) (λ x c. inl c) old
      (All-contains_itself old)

  put : (lsid : Lsid) (v : Session) → IsNew conn q (lsid, v)
      → All (OldOrNew conn q old) (with_entry lsid v old)
  put lsid v new = entries_put (OldOrNew conn q old) lsid v old (inr new) self

  put_again : (lsid : Lsid) (v : Session) → entry_of lsid old ≡ Some v
      → All (OldOrNew conn q old) (with_entry lsid v old)
  put_again lsid v is =
      subst (All (OldOrNew conn q old)) (sym (with_entry_again lsid v old is)) self

-- nobody waits there
none_new : (conn : ℕ) (q : Request) (lsid : Lsid) (v : Session) → Lives v.doing
    → asker_of v.doing ≡ None → IsNew conn q (lsid, v)
none_new conn q lsid v lives none = record {
  lives = lives;
  suits = λ from. not_both (is_from conn (asker_of v.doing)) from (ap (is_from conn) none);
  names = λ from. not_both (is_from conn (asker_of v.doing)) from (ap (is_from conn) none);
}

-- What a session has that isn't waited for.

pub session_lives : (r : RouterState) (lsid : Lsid) (v : Session) → All LivesIn r.sessions
    → session_of r lsid ≡ Some v → Lives v.doing
session_lives r lsid v h is = entry_named LivesIn lsid r.sessions h v is

not_from : (conn : ℕ) (r : RouterState) (lsid : Lsid) (v : Session) → is_waiting r conn ≡ false
    → session_of r lsid ≡ Some v → is_from conn (asker_of v.doing) ≡ false
not_from conn r lsid v none is =
    entry_named (λ (entry : Lsid × Session). is_from conn (asker_of entry.1.doing) ≡ false) lsid
    r.sessions (none_waits conn r.sessions none) v is

txn_lives : (r : RouterState) (lsid : Lsid) (number : ℤ) (t : Transaction)
    → All LivesIn r.sessions → rf.begun_in (session_of r lsid) number ≡ Some t → TxnLives t
txn_lives r lsid number t h e =
    let b = is_begun (session_of r lsid) number t e in
    subst Lives b.doing (session_lives r lsid b.there h b.is)

-- A statement.

names_txn : (q : Request) (txn : Txn) → txn_of q ≡ Some txn → NamesIt q txn.lsid txn.number
names_txn q txn is x e =
    let same : txn ≡ x = some_is txn x (sym is ∙ e) in
    (ap (λ (t : Txn). t.lsid) (sym same), ap (λ (t : Txn). t.number) (sym same))

map_some : {A B : Type 0} (f : A → B) (xs : List A) → map f xs ≡ [] → xs ≡ []
map_some f [] e = refl
map_some f (x ∷ xs) e = absurd cc

fold_some : (shards : List ℕ) (parts : List (ℕ × ℕ)) → (parts ≡ [] → ⊥)
    → fold with_shard parts shards ≡ [] → ⊥
fold_some [] parts some e = some e
fold_some (shard ∷ shards) parts some e =
    fold_some shards (with_shard parts shard) (put_some nat_cmp shard (boot_of parts shard) parts) e

parts_some : (shards : List ℕ) (parts : List (ℕ × ℕ)) → (shards ≡ [] → ⊥)
    → fold with_shard parts shards ≡ [] → ⊥
parts_some [] parts some e = some refl
parts_some (shard ∷ shards) parts some e =
    fold_some shards (with_shard parts shard) (put_some nat_cmp shard (boot_of parts shard) parts) e

record Fits (q : Request) (lsid : Lsid) (number : ℤ) : Type 0 where
  suits : (is_attempt q ≡ is_own lsid) × (is_abort q ≡ false)
  names : NamesIt q lsid number

asks_new : (q : Request) (chunks : Map) (lsid : Lsid) (number : ℤ) (asker : Asker) (op : Op)
    (t : Transaction) → (shards_of chunks op ≡ [] → ⊥) → Fits q lsid number
    → IsNew asker.conn q (lsid, (st.asks chunks lsid number asker op t).session)
asks_new q chunks lsid number asker op t some fits = record {
  lives = record {
    parts = parts_some (shards_of chunks op) t.parts some;
    waits = λ e. some (map_some (st.statement_to chunks lsid number t op) (shards_of chunks op) e);
  };
  suits = λ from. fits.suits;
  names = λ from. fits.names;
}

states_leave : (q : Request) (r : RouterState) (asker : Asker) (lsid : Lsid) (number : ℤ)
    (op : Op) (at : Option ℕ) (refused : Option Reply) (own : Option Transaction)
    → (shards_of r.chunks op ≡ [] → ⊥) → Fits q lsid number
    → Leaves asker.conn q r.sessions (rq.unless_refused r asker refused
    (rq.states r lsid (session_of r lsid) number asker op at own))
states_leave q r asker lsid number op at (Some why) own some fits =
    self asker.conn q r.sessions
states_leave q r asker lsid number op at None (Some t) some fits =
    put asker.conn q r.sessions lsid (st.asks r.chunks lsid number asker op t).session
    (asks_new q r.chunks lsid number asker op t some fits)
states_leave q r asker lsid number op at None None some fits =
    let t = rq.begun_at r (read_time r (is_own lsid) (shards_of r.chunks op) at) in
    put asker.conn q r.sessions lsid (st.asks r.chunks lsid number asker op t).session
    (asks_new q r.chunks lsid number asker op t some fits)

statement_leaves : (r : RouterState) (asker : Asker) (txn : Option Txn) (op : Op)
    (at other later time : Option ℕ) (more : Bool) → (shards_of r.chunks op ≡ [] → ⊥)
    → NamesClient txn
    → Leaves asker.conn (request.Statement op txn other later more time) r.sessions
    (rq.statement r asker txn op at)
statement_leaves r asker None op at other later time more some names =
    let txn = rq.by_itself r asker.conn in
    states_leave (request.Statement op None other later more time) r asker txn.lsid txn.number op at
    (rf.statement_refusal r asker.conn (session_of r txn.lsid) txn op)
    (rf.begun_in (session_of r txn.lsid) txn.number) some
    (record { suits = (refl, refl); names = λ x none. no_some x none })
statement_leaves r asker (Some txn) op at other later time more some names =
    states_leave (request.Statement op (Some txn) other later more time) r asker txn.lsid
    txn.number op at
    (rf.statement_refusal r asker.conn (session_of r txn.lsid) txn op)
    (rf.begun_in (session_of r txn.lsid) txn.number) some
    (record {
      suits = (sym names, refl);
      names = names_txn (request.Statement op (Some txn) other later more time) txn refl;
    })

-- A request to commit.

module _ (q : Request) (tries : is_attempt q ≡ true) (asker : Asker) (lsid : Lsid) (number : ℤ)
    (it : NamesIt q lsid number) where
  commit_new : (d : Deed) → Commits lsid number d → IsNew asker.conn q (lsid, d.session)
  commit_new d c = record {
    lives = c.lives;
    suits = λ from. c.suits q tries;
    names = λ from. subst (NamesIt q lsid) (sym c.number_is) it;
  }

  asked_new : (t : Transaction) (p : Phase) → TxnLives (record t { phase = p })
      → is_from asker.conn (asker_in p) ≡ false
      → IsNew asker.conn q (
        lsid,
        (co.commit_asked lsid number asker (record t { phase = p })).session,
      )
  asked_new t Idle h apart =
      commit_new (co.commits lsid number (Some asker) (record t { phase = Idle }))
      (commits_lives lsid number (Some asker) (record t { phase = Idle }) h.parts)
  asked_new t (Asking other op given) h apart = record {
    lives = h;
    suits = λ from. not_both (is_from asker.conn (Some other)) from apart;
    names = λ from. it;
  }
  asked_new t (Checking other) h apart = record {
    lives = record { parts = h.parts; waits = tt };
    suits = λ from. tries;
    names = λ from. it;
  }
  asked_new t (Deciding other) h apart =
      either (nat_eq (length t.waiting) 0)
      (λ (d : Deed). IsNew asker.conn q (lsid, d.session))
      (co.decides lsid number (Some asker) (record t { phase = Deciding other })) _
      (commit_new (co.decides lsid number (Some asker) (record t { phase = Deciding other }))
      (decides_lives lsid number (Some asker) (record t { phase = Deciding other }) h.parts))
      (record {
        lives = record { parts = h.parts; waits = tt };
        suits = λ from. tries;
        names = λ from. it;
      })
  asked_new t Committed h apart =
      record {
        lives = record { parts = h.parts; waits = tt };
        suits = λ from. tries;
        names = λ from. it;
      }
  asked_new t Released h apart =
      record {
        lives = record { parts = h.parts; waits = tt };
        suits = λ from. tries;
        names = λ from. it;
      }
  asked_new t (Aborted so) h apart =
      record {
        lives = record { parts = h.parts; waits = tt };
        suits = λ from. tries;
        names = λ from. it;
      }

  -- by a token
  sought_new : (seeking : Option Seeking) (known : List Tag)
      → IsNew asker.conn q (lsid, record { number = number; doing = Sought seeking known })
  sought_new seeking known = record { lives = tt; suits = λ from. tries; names = λ from. it }

  seeks_in_new : (k : Seeking) (seeking : Option Seeking) (known : List Tag)
      → IsNew asker.conn q (lsid, (tk.seeks_in lsid number asker k seeking known).session)
  seeks_in_new k seeking known =
      either (tk.is_known k.tag known) (λ (d : Deed). IsNew asker.conn q (lsid, d.session)) _ _
      (sought_new seeking known) (again seeking)
    where
      again : (older : Option Seeking)
          → IsNew asker.conn q (lsid, (tk.asks_for lsid number k older known).session)
      again None = sought_new (Some k) known
      again (Some old) =
          either (tk.same_place old k) (λ (d : Deed). IsNew asker.conn q (lsid, d.session)) _ _
          (sought_new (Some k) known) (sought_new (Some k) known)

  seeks_doing : (own : ℤ) (k : Seeking) (doing : Doing) → Lives doing
      → is_from asker.conn (asker_of doing) ≡ false
      → IsNew asker.conn q (
        lsid,
        (tk.seeks_by lsid number asker k
            (Some (record { number = own; doing = doing }))).session,
      )
  seeks_doing own k (Begun t) h apart =
      either (int_lt own number) (λ (d : Deed). IsNew asker.conn q (lsid, d.session)) _ _
      (sought_new (Some k) [])
      (record {
        lives = h;
        suits = λ from. not_both (is_from asker.conn (asker_of (Begun t))) from apart;
        names = λ from. not_both (is_from asker.conn (asker_of (Begun t))) from apart;
      })
  seeks_doing own k (Sought seeking known) h apart =
      either (int_lt own number) (λ (d : Deed). IsNew asker.conn q (lsid, d.session)) _ _
      (sought_new (Some k) []) (seeks_in_new k seeking known)

  seeks_new : (k : Seeking) (o : Option Session)
      → ((v : Session) → o ≡ Some v
      → Lives v.doing × (is_from asker.conn (asker_of v.doing) ≡ false))
      → IsNew asker.conn q (lsid, (tk.seeks_by lsid number asker k o).session)
  seeks_new k None f = sought_new (Some k) []
  seeks_new k (Some v) f =
      let h = f v refl in seeks_doing v.number k v.doing h.0 h.1

module _ (q : Request) (tries : is_attempt q ≡ true) (r : RouterState) (asker : Asker)
    (h : All LivesIn r.sessions) (free : is_waiting r asker.conn ≡ false) where
  abbrev Leave : Move → Type 0
  Leave m = Leaves asker.conn q r.sessions m

  sought_leaves : (txn : Txn) (t : Option Token) → txn_of q ≡ Some txn
      → Leave (rq.commit_sought r asker txn (session_of r txn.lsid) t)
  sought_leaves txn (Some (token.Placed tag shard boot)) is =
      let k : Seeking = record { asker = Some asker; tag = tag; shard = shard; boot = boot } in
      put asker.conn q r.sessions txn.lsid
      (tk.seeks_by txn.lsid txn.number asker k (session_of r txn.lsid)).session
      (seeks_new q tries asker txn.lsid txn.number (names_txn q txn is) k
      (session_of r txn.lsid) (λ v there.
      (session_lives r txn.lsid v h there, not_from asker.conn r txn.lsid v free there)))
  sought_leaves txn (Some (token.Early tag)) is = self asker.conn q r.sessions
  sought_leaves txn (Some token.Other) is = self asker.conn q r.sessions
  sought_leaves txn None is = self asker.conn q r.sessions

  own_leaves : (txn : Txn) (t : Transaction) → txn_of q ≡ Some txn
      → rf.begun_in (session_of r txn.lsid) txn.number ≡ Some t
      → Leave (done_in r txn.lsid (co.commit_asked txn.lsid txn.number asker t))
  own_leaves txn t is e =
      let b = is_begun (session_of r txn.lsid) txn.number t e in
      put asker.conn q r.sessions txn.lsid
      (co.commit_asked txn.lsid txn.number asker t).session
      (asked_new q tries asker txn.lsid txn.number (names_txn q txn is) t t.phase
      (txn_lives r txn.lsid txn.number t h e)
      (ap (λ (d : Doing). is_from asker.conn (asker_of d)) (sym b.doing)
      ∙ not_from asker.conn r txn.lsid b.there free b.is))

  commit_case : (txn : Txn) (t : Option Token) (refused : Option Reply) (own : Option Transaction)
      → txn_of q ≡ Some txn → rf.begun_in (session_of r txn.lsid) txn.number ≡ own
      → Leave (rq.unless_refused r asker refused
      (rq.commit_by r asker txn (session_of r txn.lsid) t own))
  commit_case txn t (Some why) own is e =
      self asker.conn q r.sessions
  commit_case txn t None (Some own) is e = own_leaves txn own is e
  commit_case txn t None None is e = sought_leaves txn t is

  commit_leaves : (txn : Option Txn) (t : Option Token) → txn_of q ≡ txn
      → Leave (rq.commit r asker txn t)
  commit_leaves None t is = self asker.conn q r.sessions
  commit_leaves (Some txn) t is =
      commit_case txn t (rf.commit_refusal r asker.conn (session_of r txn.lsid) txn t)
      (rf.begun_in (session_of r txn.lsid) txn.number) is refl

-- A request to abort.

client_new : (q : Request) (asker : Asker) (lsid : Lsid) (number : ℤ) (t : Transaction) (p : Phase)
    → TxnLives (record t { phase = p })
    → IsNew asker.conn q (
      lsid,
      (en.client_aborts lsid number asker (record t { phase = p })).session,
    )
client_new q asker lsid number t (Aborted so) h = none_new asker.conn q lsid _ h refl
client_new q asker lsid number t Idle h =
    none_new asker.conn q lsid _ (record { parts = h.parts; waits = tt }) refl
client_new q asker lsid number t (Asking other op given) h =
    none_new asker.conn q lsid _ (record { parts = h.parts; waits = tt }) refl
client_new q asker lsid number t (Checking other) h =
    none_new asker.conn q lsid _ (record { parts = h.parts; waits = tt }) refl
client_new q asker lsid number t (Deciding other) h =
    none_new asker.conn q lsid _ (record { parts = h.parts; waits = tt }) refl
client_new q asker lsid number t Committed h =
    none_new asker.conn q lsid _ (record { parts = h.parts; waits = tt }) refl
client_new q asker lsid number t Released h =
    none_new asker.conn q lsid _ (record { parts = h.parts; waits = tt }) refl

abort_case : (q : Request) (r : RouterState) (asker : Asker) (txn : Txn) (refused : Option Reply)
    (own : Option Transaction) → All LivesIn r.sessions
    → rf.begun_in (session_of r txn.lsid) txn.number ≡ own
    → Leaves asker.conn q r.sessions (rq.unless_refused r asker refused
    (rq.abort_by r asker txn own))
abort_case q r asker txn (Some why) own h e =
    self asker.conn q r.sessions
abort_case q r asker txn None None h e = self asker.conn q r.sessions
abort_case q r asker txn None (Some own) h e =
    put asker.conn q r.sessions txn.lsid
    (en.client_aborts txn.lsid txn.number asker own).session
    (client_new q asker txn.lsid txn.number own own.phase
    (txn_lives r txn.lsid txn.number own h e))

abort_leaves : (q : Request) (r : RouterState) (asker : Asker) (txn : Option Txn)
    → All LivesIn r.sessions → Leaves asker.conn q r.sessions (rq.abort r asker txn)
abort_leaves q r asker None h = self asker.conn q r.sessions
abort_leaves q r asker (Some txn) h =
    abort_case q r asker txn (rf.abort_refusal r asker.conn (session_of r txn.lsid) txn)
    (rf.begun_in (session_of r txn.lsid) txn.number) h refl

-- The end of sessions.

module _ (conn : ℕ) (q : Request) where
  pub new_lives : (old entries : BySession Session) → All LivesIn old
      → All (OldOrNew conn q old) entries → All LivesIn entries
  new_lives old entries h k =
      All-weaker (OldOrNew conn q old) LivesIn (λ entry x. elim x [
        | inl there ↦ All-contains LivesIn old entry h there
        | inr new ↦ new.lives
      ]) entries k

  ends_case : (r : RouterState) (lsid : Lsid) (number : ℤ) (t : Transaction) (test : Bool)
      → (is_none (asker_of (Begun t)) && not (commit_sent t.phase)) ≡ test
      → session_of r lsid ≡ Some (record { number = number; doing = Begun t }) → TxnLives t
      → Leaves conn q r.sessions (en.end_session r lsid (Some (record {
        number = number;
        doing = Begun t;
      })))
  ends_case r lsid number t true e is h =
      rw e (put conn q r.sessions lsid (record { number = number; doing = Begun (en.aborted t) })
      (none_new conn q lsid (record { number = number; doing = Begun (en.aborted t) })
      (record { parts = h.parts; waits = tt }) refl))
  ends_case r lsid number t false e is h =
      rw e (put_again conn q r.sessions lsid (record { number = number; doing = Begun t }) is)

  end_doing : (r : RouterState) (lsid : Lsid) (number : ℤ) (doing : Doing)
      → session_of r lsid ≡ Some (record { number = number; doing = doing }) → Lives doing
      → Leaves conn q r.sessions (en.end_session r lsid (Some (record {
        number = number;
        doing = doing;
      })))
  end_doing r lsid number (Begun t) is h = ends_case r lsid number t _ refl is h
  end_doing r lsid number (Sought seeking known) is h =
      put_again conn q r.sessions lsid (record { number = number; doing = Sought seeking known }) is

  end_one : (r : RouterState) (lsid : Lsid) (o : Option Session) → session_of r lsid ≡ o
      → All LivesIn r.sessions → Leaves conn q r.sessions (en.end_session r lsid o)
  end_one r lsid None is h = self conn q r.sessions
  end_one r lsid (Some s) is h =
      end_doing r lsid s.number s.doing is (session_lives r lsid s h is)

  end_all : (r : RouterState) (lsids : List Lsid) → All LivesIn r.sessions
      → Leaves conn q r.sessions (en.end_sessions r lsids)
  end_all r [] h = self conn q r.sessions
  end_all r (lsid ∷ lsids) h =
      let one = end_one r lsid (session_of r lsid) refl h in
      let first = en.end_session r lsid (session_of r lsid) in
      let more =
      end_all first.state lsids (new_lives r.sessions first.state.sessions h one) in
      All-weaker (OldOrNew conn q first.state.sessions) (OldOrNew conn q r.sessions)
      (λ entry x. elim x [
        | inl there ↦ All-contains (OldOrNew conn q r.sessions) first.state.sessions entry one there
        | inr new ↦ inr new
      ]) (en.end_sessions first.state lsids).state.sessions more

-- Any request.

pub serves_leave : (r : RouterState) (asker : Asker) (legacy : Bool) (q : Request)
    → All LivesIn r.sessions → is_waiting r asker.conn ≡ false
    → ((op : Op) → op_in q ≡ Some op → shards_of r.chunks op ≡ [] → ⊥) → NamesIn q
    → Leaves asker.conn q r.sessions (rq.serves r asker legacy q)
unfolding rq.serves
serves_leave r asker legacy (request.Ping more time) h free some names =
    self asker.conn (request.Ping more time) r.sessions
serves_leave r asker legacy (request.Hello old_name more time) h free some names =
    self asker.conn (request.Hello old_name more time) r.sessions
serves_leave r asker legacy (request.Statement op txn at later more time) h free some names =
    statement_leaves (met r time later) asker txn op at at later time more (some op refl) names
serves_leave r asker legacy (request.Commit txn t more time) h free some names =
    commit_leaves (request.Commit txn t more time) refl (met r time None) asker h free txn t refl
serves_leave r asker legacy (request.Abort txn more time) h free some names =
    abort_leaves (request.Abort txn more time) (met r time None) asker txn h
serves_leave r asker legacy (request.EndSessions ids more time) h free some names =
    end_all asker.conn (request.EndSessions ids more time) (met r time None) ids h
