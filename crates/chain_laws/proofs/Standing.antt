-- What stands of the transactions of routers, beside the statements that were completed: what the
-- first shard told of its boot, and what is read at.
use Rattle.std.proofs.Common.{◌≡◌, ◌⊎◌, inl, inr, ◌<◌, ℕ, true, All, List, []}
use Rattle.std.proofs.Common.{◌∷◌, ◌++◌, length, Option, Some, None, refl, sym, subst, ◌∙◌}
use Rattle.std.specs.Prelude.{Contains, slice_get}
use Rattle.std.proofs.lemmas.List.Elements.{Contains-append_left}
use Rattle.txn_types.specs.declared.message.Answer.{Answer}
use Rattle.txn_types.specs.declared.message.Statement.{Statement}
use Rattle.txn_types.specs.declared.names.Tag.{Tag}
use Rattle.txn_types.specs.declared.node.Lsid.{Lsid}
use Rattle.chunk_map.specs.Map.{Map}
use Rattle.router_state.specs.declared.state.Doing.{Doing}
use Rattle.router_state.specs.declared.state.Doing.TheVariants.{Begun, Sought}
use Rattle.router_state.specs.declared.state.Phase.{Phase}
use Rattle.router_state.specs.declared.state.Phase.TheVariants.{Idle, Asking, Checking, Deciding}
use Rattle.router_state.specs.declared.state.Phase.TheVariants.{Committed, Released, Aborted}
use Rattle.router_state.specs.declared.state.Session.{Session}
use Rattle.router_state.specs.declared.state.Transaction.{Transaction}
use Rattle.router_state.specs.State.{RouterState, session_of, boot_of, is_own}
use Rattle.cluster_core.specs.Answering.{Unanswered}
use Rattle.cluster_core.specs.Nodes.{Nodes}
use Rattle.cluster_core.specs.Ledger.{Ledger}
use Rattle.cluster_core.specs.Parts.{WasDrawn}
use Rattle.answer_laws.specs.Parts.{SentFit}
use Rattle.answer_laws.proofs.Fits.{RouterFits}
use Rattle.told_laws.proofs.Quiet.{IsSettled, Quiet, QuietPhase, QuietDoing}
use Rattle.told_laws.proofs.Moves.{QuietFrom, AllQuiet}
use Rattle.chain_laws.specs.Chained.{IsAnsweredIn, Follows, HasBoot, IsLeftAlone}
use Rattle.chain_laws.proofs.Same.{SameDoing}
use Rattle.chain_laws.proofs.Moving.{SameFrom, AllSame}

-- the statement of that place was answered in this boot
pub record WasLast (completed : List Unanswered) (tag : Tag) (k boot : ℕ) : Type 0 where
  pub statement : Unanswered
  pub among : Contains completed statement
  pub tag_is : statement.tag ≡ tag
  pub k_is : statement.k ≡ k
  pub boot_is : IsAnsweredIn boot statement

-- what is known of the first shard's boot behind the statement of that place
abbrev pub KnownBoot : List Unanswered → Tag → ℕ → ℕ → Type 0
KnownBoot completed tag k boot =
    ((k ≡ 0) × (boot ≡ 0)) ⊎ ((0 < k) × WasLast completed tag k boot)

-- what is read at, by transaction
abbrev pub Times : Type 0
Times = List (Tag × ℕ)

abbrev pub IsAsking : Phase → Type 0
IsAsking (Asking asker op answers) = Unit {0}
IsAsking other = ⊥

pub record TxnChains (completed : List Unanswered) (times : Times) (lsid : Lsid)
    (t : Transaction) : Type 0 where
  pub boot : IsSettled t.phase → KnownBoot completed t.tag t.k (boot_of t.parts 0)
  pub named : Contains times (t.tag, t.read_at)
  pub left : t.read_at ≡ 0 → is_own lsid ≡ true
  pub up : IsAsking t.phase → 0 < t.k

abbrev pub DoingChains : List Unanswered → Times → Lsid → Doing → Type 0
DoingChains completed times lsid (Begun t) = TxnChains completed times lsid t
DoingChains completed times lsid (Sought seeking known) = Unit {0}

abbrev pub SessionsChain : List Unanswered → Times → RouterState → Type 0
SessionsChain completed times r = (lsid : Lsid) (s : Session) → session_of r lsid ≡ Some s
    → DoingChains completed times lsid s.doing

-- a statement for a shard
pub record Chained (completed : List Unanswered) (times : Times) (shard : ℕ)
    (m : Statement) : Type 0 where
  pub first : shard ≡ 0
  pub boot : HasBoot completed m
  pub left : IsLeftAlone m
  pub named : Contains times (m.tag, m.read_at)

-- the Answers of a statement, of the first shard alone
pub record IsSingle (u : Unanswered) : Type 0 where
  pub answers : (u.answers ≡ []) ⊎ ((a : Answer) × (u.answers ≡ (0, a) ∷ []))
  pub some : 0 < length u.shards

pub record RouterChains (chunks : Map) (completed : List Unanswered) (times : Times)
    (r : RouterState) : Type 0 where
  pub chunks_are : r.chunks ≡ chunks
  pub sessions : SessionsChain completed times r
  pub waits : RouterFits (Chained completed times) r

pub record Chains (chunks : Map) (l : Ledger) (completed : List Unanswered) (times : Times)
    (nodes : Nodes) : Type 0 where
  pub same : l.routers ≡ nodes.routers
  pub routers : (n : ℕ) (r : RouterState) → slice_get nodes.routers n ≡ Some r
      → RouterChains chunks completed times r
  pub drawn : (x : Tag × ℕ) → Contains times x → (n : ℕ) (r : RouterState)
      → slice_get nodes.routers n ≡ Some r → x.0.router ≡ n → WasDrawn r x.0
  pub once : (x y : Tag × ℕ) → Contains times x → Contains times y → x.0 ≡ y.0 → x.1 ≡ y.1
  pub single : All (IsSingle) l.unanswered
  pub sent : SentFit (Chained completed times) nodes.sent
  pub complete : All (IsSingle) completed

-- More was completed, and more transactions began.

last_more : (completed now : List Unanswered) (tag : Tag) (k boot : ℕ)
    → WasLast completed tag k boot → WasLast (completed ++ now) tag k boot
last_more completed now tag k boot h = record {
  statement = h.statement;
  among = Contains-append_left completed now h.statement h.among;
  tag_is = h.tag_is;
  k_is = h.k_is;
  boot_is = h.boot_is;
}

pub known_more : (completed now : List Unanswered) (tag : Tag) (k boot : ℕ)
    → KnownBoot completed tag k boot → KnownBoot (completed ++ now) tag k boot
known_more completed now tag k boot (inl h) = inl h
known_more completed now tag k boot (inr h) = inr (h.0, last_more completed now tag k boot h.1)

follows_more : (completed now : List Unanswered) (m : Statement) → Follows completed m
    → Follows (completed ++ now) m
follows_more completed now m h = record {
  before = h.before;
  among = Contains-append_left completed now h.before h.among;
  tag = h.tag;
  k = h.k;
  boot = h.boot;
}

boot_more : (completed now : List Unanswered) (m : Statement) → HasBoot completed m
    → HasBoot (completed ++ now) m
boot_more completed now m (inl h) = inl h
boot_more completed now m (inr h) = inr (h.0, follows_more completed now m h.1)

pub chained_more : (completed now : List Unanswered) (times fresh : Times) (shard : ℕ)
    (m : Statement) → Chained completed times shard m
    → Chained (completed ++ now) (times ++ fresh) shard m
chained_more completed now times fresh shard m h = record {
  first = h.first;
  boot = boot_more completed now m h.boot;
  left = h.left;
  named = Contains-append_left times fresh (m.tag, m.read_at) h.named;
}

pub txn_more : (completed now : List Unanswered) (times fresh : Times) (lsid : Lsid)
    (t : Transaction) → TxnChains completed times lsid t
    → TxnChains (completed ++ now) (times ++ fresh) lsid t
txn_more completed now times fresh lsid t h = record {
  boot = λ s. known_more completed now t.tag t.k (boot_of t.parts 0) (h.boot s);
  named = Contains-append_left times fresh (t.tag, t.read_at) h.named;
  left = h.left;
  up = h.up;
}

pub doing_more : (completed now : List Unanswered) (times fresh : Times) (lsid : Lsid)
    (doing : Doing) → DoingChains completed times lsid doing
    → DoingChains (completed ++ now) (times ++ fresh) lsid doing
doing_more completed now times fresh lsid (Begun t) h = txn_more completed now times fresh lsid t h
doing_more completed now times fresh lsid (Sought seeking known) h = tt

-- A step in which no statement is answered.

settled_before : (t v : Transaction) (p : Phase) → v.phase ≡ p → IsSettled p → QuietPhase t v p
    → IsSettled t.phase
settled_before t v Idle e h k = k
settled_before t v (Asking asker op answers) e h k = absurd h
settled_before t v (Checking asker) e h k = k
settled_before t v (Deciding asker) e h k = k
settled_before t v Committed e h k = k
settled_before t v Released e h k = k
settled_before t v (Aborted sent) e h k = absurd h

asking_before : (t v : Transaction) (p : Phase) → IsAsking p → QuietPhase t v p → IsAsking t.phase
asking_before t v (Asking asker op answers) e k = subst IsAsking (sym k.0) tt
asking_before t v Idle e k = absurd e
asking_before t v (Checking asker) e k = absurd e
asking_before t v (Deciding asker) e k = absurd e
asking_before t v Committed e k = absurd e
asking_before t v Released e k = absurd e
asking_before t v (Aborted sent) e k = absurd e

txn_goes : (completed : List Unanswered) (times : Times) (lsid : Lsid) (t v : Transaction)
    → Quiet t v → v.parts ≡ t.parts → v.read_at ≡ t.read_at → TxnChains completed times lsid t
    → TxnChains completed times lsid v
txn_goes completed times lsid t v q parts at h = record {
  boot = λ s.
      subst (λ (tag : Tag). KnownBoot completed tag v.k (boot_of v.parts 0)) (sym q.tag)
      (subst (λ (k : ℕ). KnownBoot completed t.tag k (boot_of v.parts 0)) (sym q.k)
      (subst (λ (ps : List (ℕ × ℕ)). KnownBoot completed t.tag t.k (boot_of ps 0)) (sym parts)
      (h.boot (settled_before t v v.phase refl s q.phase))));
  named = subst (λ (tag : Tag). Contains times (tag, v.read_at)) (sym q.tag)
      (subst (λ (n : ℕ). Contains times (t.tag, n)) (sym at) h.named);
  left = λ z. h.left (sym at ∙ z);
  up = λ s. subst (λ (k : ℕ). 0 < k) (sym q.k) (h.up (asking_before t v v.phase s q.phase));
}

doing_goes : (completed : List Unanswered) (times : Times) (lsid : Lsid) (a b : Doing)
    → QuietDoing a b → SameDoing a b → DoingChains completed times lsid a
    → DoingChains completed times lsid b
doing_goes completed times lsid a (Sought seeking known) q s h = tt
doing_goes completed times lsid (Begun t) (Begun v) q s h =
    txn_goes completed times lsid t v q s.0 s.1 h
doing_goes completed times lsid (Sought seeking known) (Begun v) q s h = absurd q

from_goes : (completed : List Unanswered) (times : Times) (lsid : Lsid) (o : Option Session)
    (b : Doing) → QuietFrom o b → SameFrom o b
    → ((x : Session) → o ≡ Some x → DoingChains completed times lsid x.doing)
    → DoingChains completed times lsid b
from_goes completed times lsid o (Sought seeking known) q s h = tt
from_goes completed times lsid None (Begun v) q s h = absurd q
from_goes completed times lsid (Some x) (Begun v) q s h =
    doing_goes completed times lsid x.doing (Begun v) q s (h x refl)

pub sessions_go : (completed : List Unanswered) (times : Times) (r s : RouterState) → AllQuiet r s
    → AllSame r s → SessionsChain completed times r → SessionsChain completed times s
sessions_go completed times r s q same h lsid v e =
    from_goes completed times lsid (session_of r lsid) v.doing (q lsid v e) (same lsid v e)
    (λ x is. h lsid x is)

pub sessions_more : (completed now : List Unanswered) (times fresh : Times) (r : RouterState)
    → SessionsChain completed times r → SessionsChain (completed ++ now) (times ++ fresh) r
sessions_more completed now times fresh r h lsid s e =
    doing_more completed now times fresh lsid s.doing (h lsid s e)
