-- A step that asks a statement: it names the boot in which the one before it was answered, and what
-- its transaction reads at.
use Rattle.std.proofs.Common.{◌≡◌, ◌⊎◌, inl, inr, ◌+◌, ◌≤◌, ◌<◌, ℕ, ℤ, true, false, All, List, []}
use Rattle.std.proofs.Common.{◌∷◌, ◌++◌, map, Some, refl, sym, ap, subst, ◌∙◌, arith}
use Rattle.std.specs.Prelude.{Contains}
use Rattle.std.proofs.lemmas.List.Elements.{All-nil, All-map, All-weaker, Contains-push}
use Rattle.txn_types.specs.declared.message.Statement.{Statement}
use Rattle.txn_types.specs.declared.names.Tag.{Tag}
use Rattle.txn_types.specs.declared.node.Lsid.{Lsid}
use Rattle.txn_types.specs.declared.operation.Op.{Op}
use Rattle.txn_types.specs.declared.node.NodeId.{NodeId}
use Rattle.txn_types.specs.declared.node.NodeId.TheVariants.{Shard, Router}
use Rattle.chunk_map.specs.Map.{Map, IsMap}
use Rattle.chunk_map.specs.Parts.{shards_of, part_at}
use Rattle.router_state.specs.declared.state.Session.{Session}
use Rattle.router_state.specs.declared.state.Transaction.{Transaction}
use Rattle.router_state.specs.Deeds.{Move}
use Rattle.router_state.specs.State.{RouterState, session_of, boot_of, is_own}
use Rattle.router_rules.specs.Statements as st
use Rattle.router_core.specs.Requests as rq
use Rattle.cluster_core.specs.Answering.{Unanswered}
use Rattle.answer_laws.proofs.Fits.{PostFits, AllFit}
use Rattle.address_laws.proofs.Maps.{asked_there}
use Rattle.told_laws.proofs.Lists.{only_one, none_there}
use Rattle.told_laws.proofs.Moves.{IsIdleIn}
use Rattle.chain_laws.specs.Chained.{HasBoot}
use Rattle.chain_laws.proofs.Moving.{Asks, MayAsk, IsFresh}
use Rattle.chain_laws.proofs.Standing.{KnownBoot, Times, TxnChains, DoingChains, SessionsChain}
use Rattle.chain_laws.proofs.Standing.{Chained, txn_more, sessions_more, doing_more}

-- a transaction that a step begins, with what it reads at
pub record Begins (r s : RouterState) (x : Tag × ℕ) : Type 0 where
  pub tag : x.0 ≡ rq.next_tag r
  pub drawn : r.serial + 1 ≤ s.serial

-- what a step that may ask leaves: what it asks is chained, and so are the sessions
pub record Asked (completed now : List Unanswered) (times : Times) (r : RouterState)
    (m : Move) : Type 0 where
  pub fresh : Times
  pub begins : (x : Tag × ℕ) → Contains fresh x → Begins r m.state x
  pub one : (x y : Tag × ℕ) → Contains fresh x → Contains fresh y → x ≡ y
  pub sessions : SessionsChain (completed ++ now) (times ++ fresh) m.state
  pub sends : AllFit (Chained (completed ++ now) (times ++ fresh)) m.given.sends

-- On one shard each statement goes to it.

abbrev First : NodeId → Type 0
First (Shard n) = n ≡ 0
First (Router n) = Unit {0}

pub all_first : (m : Map) (op : Op) → IsMap m → m.shards ≡ 1 → All (λ n. n ≡ 0) (shards_of m op)
all_first m op is one = asked_there First m op (record {
  is = is;
  some = subst (λ (k : ℕ). 0 < k) (sym one) (omega arith);
  all = λ n less. omega (arith, less, one);
})

-- The next statement.

-- what is settled names the boot of its newest statement
pub record IsReady (completed : List Unanswered) (times : Times) (lsid : Lsid)
    (t : Transaction) : Type 0 where
  pub boot : KnownBoot completed t.tag t.k (boot_of t.parts 0)
  pub named : Contains times (t.tag, t.read_at)
  pub left : t.read_at ≡ 0 → is_own lsid ≡ true
  pub alone : t.read_at ≡ 0 → t.k ≡ 0

module _ (completed : List Unanswered) (times : Times) (chunks : Map) (lsid : Lsid) (number : ℤ)
    (t : Transaction) (op : Op) (h : IsReady completed times lsid t) where
  -- the part for a shard
  abbrev part : ℕ → Statement
  part shard = record {
    tag = t.tag;
    lsid = lsid;
    number = number;
    k = t.k + 1;
    read_at = t.read_at;
    boot = boot_of t.parts shard;
    op = part_at chunks op shard;
  }

  has_boot : KnownBoot completed t.tag t.k (boot_of t.parts 0) → HasBoot completed (part 0)
  has_boot (inl w) = inl (let z : t.k ≡ 0 = w.0 in omega (arith, z), w.1)
  has_boot (inr w) = inr (
    let up : 0 < t.k = w.0 in omega (arith, up),
    record {
      before = w.1.statement;
      among = w.1.among;
      tag = w.1.tag_is;
      k = ap (λ (k : ℕ). k + 1) w.1.k_is;
      boot = w.1.boot_is;
    },
  )

  next_chained : Chained completed times 0 (part 0)
  next_chained = record {
    first = refl;
    boot = has_boot h.boot;
    left = λ z. let none : t.k ≡ 0 = h.alone z in omega (arith, none);
    named = h.named;
  }

  posts_chained : (shards : List ℕ) → All (λ n. n ≡ 0) shards
      → AllFit (Chained completed times) (map (st.statement_to chunks lsid number t op) shards)
  posts_chained shards zero =
      All-map (PostFits (Chained completed times)) (st.statement_to chunks lsid number t op) shards
      (All-weaker (λ (n : ℕ). n ≡ 0)
      (λ (n : ℕ). PostFits (Chained completed times) (st.statement_to chunks lsid number t op n))
      (λ n e. subst (λ (s : ℕ). Chained completed times s (part s)) (sym e) next_chained) shards
      zero)

-- The step.

none_asked : (completed now : List Unanswered) (times : Times) (r : RouterState) (m : Move)
    → m.state ≡ r → m.given.sends ≡ [] → SessionsChain completed times r
    → Asked completed now times r m
none_asked completed now times r m same none h = record {
  fresh = [];
  begins = λ x c. none_there x c;
  one = λ x y c d. none_there x c;
  sessions = subst (SessionsChain (completed ++ now) (times ++ [])) (sym same)
      (sessions_more completed now times [] r h);
  sends = subst (AllFit (Chained (completed ++ now) (times ++ []))) (sym none)
      (All-nil (PostFits (Chained (completed ++ now) (times ++ []))));
}

asked_session : (completed : List Unanswered) (times : Times) (r : RouterState) (op : Op)
    (m : Move) (a : Asks r op m) → IsReady completed times a.lsid a.t
    → DoingChains completed times a.lsid
    (st.asks r.chunks a.lsid a.number a.asker op a.t).session.doing
asked_session completed times r op m a k = record {
  boot = λ s. absurd s;
  named = k.named;
  left = k.left;
  up = λ s. omega arith;
}

asks_leave : (completed now : List Unanswered) (times fresh : Times) (r : RouterState) (op : Op)
    (m : Move) (a : Asks r op m) → IsMap r.chunks → r.chunks.shards ≡ 1
    → IsReady (completed ++ now) (times ++ fresh) a.lsid a.t
    → ((x : Tag × ℕ) → Contains fresh x → Begins r m.state x)
    → ((x y : Tag × ℕ) → Contains fresh x → Contains fresh y → x ≡ y)
    → SessionsChain completed times r → Asked completed now times r m
asks_leave completed now times fresh r op m a is one ready begins alone h = record {
  fresh = fresh;
  begins = begins;
  one = alone;
  sessions = λ other v e. by other v (a.state other v e);
  sends = subst (AllFit (Chained (completed ++ now) (times ++ fresh))) (sym a.sends)
      (posts_chained (completed ++ now) (times ++ fresh) r.chunks a.lsid a.number a.t op ready
      (shards_of r.chunks op) (all_first r.chunks op is one));
}
  where
    by : (other : Lsid) (v : Session)
        → ((other ≡ a.lsid) × (v ≡ (st.asks r.chunks a.lsid a.number a.asker op a.t).session)) ⊎
        (session_of r other ≡ Some v)
        → DoingChains (completed ++ now) (times ++ fresh) other v.doing
    by other v (inl w) =
        subst (λ (l : Lsid). DoingChains (completed ++ now) (times ++ fresh) l v.doing) (sym w.0)
        (subst (λ (s : Session). DoingChains (completed ++ now) (times ++ fresh) a.lsid s.doing)
        (sym w.1) (asked_session (completed ++ now) (times ++ fresh) r op m a ready))
    by other v (inr w) = doing_more completed now times fresh other v.doing (h other v w)

idle_ready : (completed now : List Unanswered) (times : Times) (r : RouterState) (lsid : Lsid)
    (t : Transaction) → SessionsChain completed times r → IsIdleIn r lsid t
    → is_own lsid ≡ false → IsReady (completed ++ now) (times ++ []) lsid t
idle_ready completed now times r lsid t h i client =
    let k : TxnChains completed times lsid t =
    subst (DoingChains completed times lsid) i.2 (h lsid i.0 i.1) in
    let more = txn_more completed now times [] lsid t k in
    record {
      boot = more.boot i.3;
      named = more.named;
      left = more.left;
      alone = λ z. let no : true ≡ false = sym (more.left z) ∙ client in
          absurd (grind (arith, no));
    }

fresh_ready : (completed : List Unanswered) (times : Times) (r : RouterState) (lsid : Lsid)
    (read_at : ℕ) → (read_at ≡ 0 → is_own lsid ≡ true)
    → IsReady completed (times ++ (rq.next_tag r, read_at) ∷ []) lsid (rq.begun_at r read_at)
fresh_ready completed times r lsid read_at left = record {
  boot = inl (refl, refl);
  named = Contains-push times (rq.next_tag r, read_at);
  left = left;
  alone = λ z. refl;
}

pub asked_chains : (completed now : List Unanswered) (times : Times) (r : RouterState) (op : Op)
    (m : Move) → IsMap r.chunks → r.chunks.shards ≡ 1 → SessionsChain completed times r
    → MayAsk r op m → Asked completed now times r m
asked_chains completed now times r op m is one h (inl none) =
    none_asked completed now times r m none.0 none.1 h
asked_chains completed now times r op m is one h (inr a) = by (a.of)
  where
    by : (IsIdleIn r a.lsid a.t × (is_own a.lsid ≡ false)) ⊎ IsFresh r m.state a.lsid a.t
        → Asked completed now times r m
    by (inl w) =
        asks_leave completed now times [] r op m a is one
        (idle_ready completed now times r a.lsid a.t h w.0 w.1)
        (λ x c. none_there x c) (λ x y c d. none_there x c) h
    by (inr w) =
        let new : Tag × ℕ = (rq.next_tag r, w.read_at) in
        asks_leave completed now times (new ∷ []) r op m a is one
        (subst (IsReady (completed ++ now) (times ++ new ∷ []) a.lsid) (sym w.is)
        (fresh_ready (completed ++ now) times r a.lsid w.read_at w.left))
        (λ x c. record {
          tag = ap (λ (y : Tag × ℕ). y.0) (only_one new x c);
          drawn = w.drawn;
        })
        (λ x y c d. only_one new x c ∙ sym (only_one new y d)) h
