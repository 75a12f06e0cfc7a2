-- What stands of the statements that routers opened, beside their sessions and the answers that
-- were taken: a session's
-- transaction has had a reply to each of its statements, but for the one that is asked.
use Rattle.std.proofs.Common.{◌≡◌, ◌⊎◌, inl, inr, ◌+◌, ◌≤◌, ◌<◌, ◌&&◌, ℕ, Bool, false, not, All}
use Rattle.std.proofs.Common.{List, [], ◌∷◌, ◌++◌, length, nat_eq, Some, refl, sym, ap, subst, ◌∙◌}
use Rattle.std.proofs.Common.{arith}
use Rattle.std.specs.Prelude.{Contains, slice_get}
use Rattle.std.specs.List.{list_any}
use Rattle.std.proofs.lemmas.List.Elements.{Contains-append_left}
use Rattle.txn_types.specs.declared.message.Answer.{Answer}
use Rattle.txn_types.specs.declared.names.Tag.{Tag}
use Rattle.txn_types.specs.declared.node.Lsid.{Lsid}
use Rattle.txn_types.specs.declared.operation.Op.{Op}
use Rattle.txn_semantics.specs.declared.commits.Answered.{Answered}
use Rattle.router_state.specs.declared.state.Asker.{Asker}
use Rattle.router_state.specs.declared.state.Doing.{Doing}
use Rattle.router_state.specs.declared.state.Doing.TheVariants.{Begun, Sought}
use Rattle.router_state.specs.declared.state.Phase.{Phase}
use Rattle.router_state.specs.declared.state.Phase.TheVariants.{Idle, Asking, Checking, Deciding}
use Rattle.router_state.specs.declared.state.Phase.TheVariants.{Committed, Released, Aborted}
use Rattle.router_state.specs.declared.state.Session.{Session}
use Rattle.router_state.specs.declared.state.Transaction.{Transaction}
use Rattle.router_state.specs.State.{Post, RouterState, session_of, is_waited}
use Rattle.cluster_core.specs.Answering.{Unanswered, is_complete}
use Rattle.cluster_core.specs.Parts.{WasDrawn}
use Rattle.answer_laws.specs.Comes.{as_opened}
use Rattle.told_laws.specs.Places.{Rises, IsLater, HasReply, IsOpened}
use Rattle.told_laws.proofs.Lists.{InOrder}
use Rattle.told_laws.proofs.Quiet.{IsSettled, Quiet, QuietPhase}
use Rattle.told_laws.proofs.Moves.{IsOwn}

-- each statement of the transaction has had its reply
abbrev pub AllReplied : List Unanswered → List Answered → Tag → Type 0
AllReplied begun told tag = (v : Unanswered) → Contains begun v → v.tag ≡ tag → HasReply told v

-- no two messages for one shard
abbrev pub OnceIn : List Post → Type 0
OnceIn [] = Unit {0}
OnceIn (post ∷ posts) = (is_waited post.0 posts ≡ false) × OnceIn posts

abbrev pub has_answer : ℕ → List (ℕ × Answer) → Bool
has_answer shard answers = list_any (λ other. nat_eq other.0 shard) answers

-- the statement that is asked, with the answers that were taken and the shards that are waited for
pub record Asked (n : ℕ) (begun us : List Unanswered) (told : List Answered) (t : Transaction)
    (asker : Asker) (op : Op) (answers : List (ℕ × Answer)) : Type 0 where
  pub statement : Unanswered
  pub there : Contains us statement
  pub opened : Contains begun (as_opened statement)
  pub router : statement.router ≡ n
  pub conn : statement.conn ≡ asker.conn
  pub tag : statement.tag ≡ t.tag
  pub k : statement.k ≡ t.k
  pub op_is : statement.op ≡ op
  pub answers_are : statement.answers ≡ answers
  pub waited : (shard : ℕ) → is_waited shard t.waiting ≡ (list_any (nat_eq shard) statement.shards
      && not (has_answer shard answers))
  pub count : length answers + length t.waiting ≡ length statement.shards
  pub once : OnceIn t.waiting
  pub others : (v : Unanswered) → Contains begun v → v.tag ≡ t.tag
      → (v ≡ as_opened statement) ⊎ HasReply told v

-- a statement for no shard is asked of none
abbrev pub IsAsked : ℕ → List Unanswered → List Unanswered → List Answered → Transaction → Asker
    → Op → List (ℕ × Answer) → Type 0
IsAsked n begun us told t asker op answers = ((t.waiting ≡ []) × AllReplied begun told t.tag) ⊎
    Asked n begun us told t asker op answers

abbrev pub PhaseStands : ℕ → List Unanswered → List Unanswered → List Answered → Transaction → Phase
    → Type 0
PhaseStands n begun us told t Idle = AllReplied begun told t.tag
PhaseStands n begun us told t (Asking asker op answers) = IsAsked n begun us told t asker op answers
PhaseStands n begun us told t (Checking asker) = AllReplied begun told t.tag
PhaseStands n begun us told t (Deciding asker) = AllReplied begun told t.tag
PhaseStands n begun us told t Committed = AllReplied begun told t.tag
PhaseStands n begun us told t Released = AllReplied begun told t.tag
PhaseStands n begun us told t (Aborted sent) = Unit {0}

pub record TxnStands (n : ℕ) (begun us : List Unanswered) (told : List Answered) (t : Transaction) :
    Type 0 where
  pub below : (v : Unanswered) → Contains begun v → v.tag ≡ t.tag → v.k ≤ t.k
  pub phase : PhaseStands n begun us told t t.phase

abbrev pub DoingStands : ℕ → RouterState → List Unanswered → List Unanswered → List Answered → Doing
    → Type 0
DoingStands n r begun us told (Begun t) = IsOwn r t.tag × TxnStands n begun us told t
DoingStands n r begun us told (Sought seeking known) = Unit {0}

abbrev pub SameTag : Doing → Doing → Type 0
SameTag (Begun t) (Begun u) = t.tag ≡ u.tag
SameTag (Begun t) (Sought seeking known) = ⊥
SameTag (Sought seeking known) other = ⊥

pub record RouterStands (n : ℕ) (begun us : List Unanswered) (told : List Answered)
    (r : RouterState) : Type 0 where
  pub number : r.number ≡ n
  pub drawn : (u : Unanswered) → Contains begun u → u.tag.router ≡ n → WasDrawn r u.tag
  pub sessions : (lsid : Lsid) (s : Session) → session_of r lsid ≡ Some s
      → DoingStands n r begun us told s.doing
  pub alone : (lsid other : Lsid) (s v : Session) → session_of r lsid ≡ Some s
      → session_of r other ≡ Some v → SameTag s.doing v.doing → lsid ≡ other

-- one statement of a transaction is unanswered at most
abbrev pub AreApart : Unanswered → Unanswered → Type 0
AreApart u v = u.tag ≡ v.tag → ⊥

pub record IsOpen (begun : List Unanswered) (u : Unanswered) : Type 0 where
  pub opened : Contains begun (as_opened u)
  pub incomplete : is_complete u ≡ false

-- what stands of statements alone
pub record ListsStand (begun us : List Unanswered) (told : List Answered) : Type 0 where
  pub order : InOrder Rises begun
  pub behind : (u v : Unanswered) → Contains begun u → Contains begun v → u.tag ≡ v.tag → u.k < v.k
      → HasReply told u
  pub are_open : All (IsOpen begun) us
  pub apart : InOrder AreApart us
  pub newest : (u : Unanswered) (a : Answered) → Contains us u → Contains told a → a.tag ≡ u.tag
      → a.k < u.k
  pub of : All (IsOpened begun) told
  pub later : InOrder IsLater told

pub record BookStands (routers : List RouterState) (begun us : List Unanswered)
    (told : List Answered) : Type 0 where
  pub routers_stand : (n : ℕ) (r : RouterState) → slice_get routers n ≡ Some r
      → RouterStands n begun us told r
  pub lists : ListsStand begun us told

-- Replies that were told stay told.

pub reply_on : (told more : List Answered) (u : Unanswered) → HasReply told u
    → HasReply (told ++ more) u
reply_on told more u h =
    record {
      answer = h.answer;
      among = Contains-append_left told more h.answer h.among;
      tag =
          h.tag;
      k = h.k;
      op = h.op;
      replied = h.replied;
    }

-- A transaction stands as it stood, where the lists went on.

-- how the lists go on, for a transaction
pub record GoOn (begun us : List Unanswered) (told : List Answered) (begun' us' : List Unanswered)
    (told' : List Answered) (t : Transaction) : Type 0 where
  pub back : (v : Unanswered) → Contains begun' v → v.tag ≡ t.tag → Contains begun v
  pub on : (v : Unanswered) → Contains begun v → Contains begun' v
  pub replies : (v : Unanswered) → HasReply told v → HasReply told' v

replied_on : (begun us : List Unanswered) (told : List Answered) (begun' us' : List Unanswered)
    (told' : List Answered) (t : Transaction) → GoOn begun us told begun' us' told' t
    → AllReplied begun told t.tag → AllReplied begun' told' t.tag
replied_on begun us told begun' us' told' t g h v there same = g.replies v
    (h v (g.back v there same) same)

-- the statement that is asked has to be there still
phase_on : (n : ℕ) (begun us : List Unanswered) (told : List Answered)
    (begun' us' : List Unanswered) (told' : List Answered) (t : Transaction)
    → GoOn begun us told begun' us' told' t
    → (p : Phase) → ((asker : Asker) (op : Op) (answers : List (ℕ × Answer)) → p ≡ Asking asker op
    answers → (a : Asked n begun us told t asker op answers) → Contains us' a.statement)
    → PhaseStands n begun us told t p → PhaseStands n begun' us' told' t p
phase_on n begun us told begun' us' told' t g Idle keep h = replied_on begun us told begun' us'
    told' t g h
phase_on n begun us told begun' us' told' t g (Asking asker op answers) keep (inl h) = inl
    (h.0, replied_on begun us told begun' us' told' t g h.1)
phase_on n begun us told begun' us' told' t g (Asking asker op answers) keep (inr h) = inr (record {
  statement = h.statement;
  there = keep asker op answers refl h;
  opened = g.on (as_opened h.statement) h.opened;
  router = h.router;
  conn = h.conn;
  tag = h.tag;
  k = h.k;
  op_is = h.op_is;
  answers_are = h.answers_are;
  waited = h.waited;
  count = h.count;
  once = h.once;
  others = λ v there same. elim (h.others v (g.back v there same) same)
      [ inl e ↦ inl e | inr r ↦ inr (g.replies v r) ];
})
phase_on n begun us told begun' us' told' t g (Checking asker) keep h = replied_on begun us told
    begun' us' told' t g h
phase_on n begun us told begun' us' told' t g (Deciding asker) keep h = replied_on begun us told
    begun' us' told' t g h
phase_on n begun us told begun' us' told' t g Committed keep h = replied_on begun us told begun' us'
    told' t g h
phase_on n begun us told begun' us' told' t g Released keep h = replied_on begun us told begun' us'
    told' t g h
phase_on n begun us told begun' us' told' t g (Aborted sent) keep h = tt

pub txn_on : (n : ℕ) (begun us : List Unanswered) (told : List Answered)
    (begun' us' : List Unanswered) (told' : List Answered) (t : Transaction)
    → GoOn begun us told begun' us' told' t
    → ((asker : Asker) (op : Op) (answers : List (ℕ × Answer)) → t.phase ≡ Asking asker op answers
    → (a : Asked n begun us told t asker op answers) → Contains us' a.statement)
    → TxnStands n begun us told t → TxnStands n begun' us' told' t
txn_on n begun us told begun' us' told' t g keep h = record {
  below = λ v there same. h.below v (g.back v there same) same;
  phase = phase_on n begun us told begun' us' told' t g t.phase keep h.phase;
}

-- it stands as it stood, where it goes on quietly

settled_replied : (n : ℕ) (begun us : List Unanswered) (told : List Answered) (t : Transaction)
    (p : Phase) → IsSettled p → PhaseStands n begun us told t p → AllReplied begun told t.tag
settled_replied n begun us told t Idle k h = h
settled_replied n begun us told t (Asking asker op answers) k h = absurd k
settled_replied n begun us told t (Checking asker) k h = h
settled_replied n begun us told t (Deciding asker) k h = h
settled_replied n begun us told t Committed k h = h
settled_replied n begun us told t Released k h = h
settled_replied n begun us told t (Aborted sent) k h = absurd k

pub replied_if : (n : ℕ) (begun us : List Unanswered) (told : List Answered) (t : Transaction)
    → IsSettled t.phase → TxnStands n begun us told t → AllReplied begun told t.tag
replied_if n begun us told t k h = settled_replied n begun us told t t.phase k h.phase

same_asked : (n : ℕ) (begun us : List Unanswered) (told : List Answered) (t v : Transaction)
    (asker : Asker) (op : Op) (answers : List (ℕ × Answer)) → v.tag ≡ t.tag → v.k ≡ t.k
    → v.waiting ≡ t.waiting
    → IsAsked n begun us told t asker op answers → IsAsked n begun us told v asker op answers
same_asked n begun us told t v asker op answers tag k waiting (inl h) = inl
    (waiting ∙ h.0, subst (AllReplied begun told) (sym tag) h.1)
same_asked n begun us told t v asker op answers tag k waiting (inr h) = inr (record {
  statement = h.statement;
  there = h.there;
  opened = h.opened;
  router = h.router;
  conn = h.conn;
  tag = h.tag ∙ sym tag;
  k = h.k ∙ sym k;
  op_is = h.op_is;
  answers_are = h.answers_are;
  waited = λ shard. ap (is_waited shard) waiting ∙ h.waited shard;
  count = ap (λ (posts : List Post). length answers + length posts) waiting ∙ h.count;
  once = subst OnceIn (sym waiting) h.once;
  others = λ u there same. h.others u there (same ∙ tag);
})

quiet_phase : (n : ℕ) (begun us : List Unanswered) (told : List Answered) (t v : Transaction)
    → TxnStands n begun us told t → v.tag ≡ t.tag → v.k ≡ t.k
    → (p : Phase) → QuietPhase t v p → PhaseStands n begun us told v p
quiet_phase n begun us told t v h tag k Idle q = subst (AllReplied begun told) (sym tag)
    (replied_if n begun us told t q h)
quiet_phase n begun us told t v h tag k (Asking asker op answers) q =
    same_asked n begun us told t v asker op answers tag k q.1
    (subst (PhaseStands n begun us told t) q.0 h.phase)
quiet_phase n begun us told t v h tag k (Checking asker) q = subst (AllReplied begun told) (sym tag)
    (replied_if n begun us told t q h)
quiet_phase n begun us told t v h tag k (Deciding asker) q = subst (AllReplied begun told) (sym tag)
    (replied_if n begun us told t q h)
quiet_phase n begun us told t v h tag k Committed q = subst (AllReplied begun told) (sym tag)
    (replied_if n begun us told t q h)
quiet_phase n begun us told t v h tag k Released q = subst (AllReplied begun told) (sym tag)
    (replied_if n begun us told t q h)
quiet_phase n begun us told t v h tag k (Aborted sent) q = tt

pub quiet_stands : (n : ℕ) (begun us : List Unanswered) (told : List Answered) (t v : Transaction)
    → Quiet t v → TxnStands n begun us told t → TxnStands n begun us told v
quiet_stands n begun us told t v q h = record {
  below = λ u there same. subst (λ (k : ℕ). u.k ≤ k) (sym q.k) (h.below u there (same ∙ q.tag));
  phase = quiet_phase n begun us told t v h q.tag q.k v.phase q.phase;
}

pub own_on : (r s : RouterState) (tag : Tag) → s.number ≡ r.number → s.boot ≡ r.boot
    → r.serial ≤ s.serial → IsOwn r tag → IsOwn s tag
own_on r s tag a b c h = record {
  router = h.router ∙ sym a;
  boot = h.boot ∙ sym b;
  serial = omega
      (arith, c, h.serial);
}

pub drawn_on : (r s : RouterState) (tag : Tag) → s.boot ≡ r.boot → r.serial ≤ s.serial
    → WasDrawn r tag → WasDrawn s tag
drawn_on r s tag b c (inl h) = inl (subst (λ (boot : ℕ). tag.boot < boot) (sym b) h)
drawn_on r s tag b c (inr h) = inr (h.0 ∙ sym b, omega (arith, c, h.1))
