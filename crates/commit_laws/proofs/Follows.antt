-- What stands of a session's transaction on one shard: what it has of the shard's boot, and what it
-- waits for. `G tag k boot` says that the statement of this transaction and place was answered in
-- this boot of the shard.
use Rattle.std.proofs.Common.{◌≡◌, ◌⊎◌, inl, inr, ℕ, All, List, [], ◌∷◌}
use Rattle.txn_types.specs.declared.message.Answer.{Answer}
use Rattle.txn_types.specs.declared.message.Msg.{Msg}
use Rattle.txn_types.specs.declared.message.Msg.TheVariants as msg
use Rattle.txn_types.specs.declared.message.Statement.{Statement}
use Rattle.txn_types.specs.declared.names.Tag.{Tag}
use Rattle.router_state.specs.declared.deed.Deed.{Deed}
use Rattle.router_state.specs.declared.state.Doing.{Doing}
use Rattle.router_state.specs.declared.state.Doing.TheVariants.{Begun, Sought}
use Rattle.router_state.specs.declared.state.Phase.{Phase}
use Rattle.router_state.specs.declared.state.Phase.TheVariants.{Idle, Asking, Checking, Deciding}
use Rattle.router_state.specs.declared.state.Phase.TheVariants.{Committed, Released, Aborted}
use Rattle.router_state.specs.declared.state.Transaction.{Transaction}
use Rattle.router_state.specs.State.{Post}
use Rattle.answer_laws.proofs.Shards.{Other}
use Rattle.one_shard_laws.specs.Asking.{OneWrote}
use Rattle.commit_laws.specs.Speaking.{StatementFollows}

-- the newest statement was answered
pub record Heard (G : Tag → ℕ → ℕ → Type 0) (tag : Tag) (k : ℕ) (parts : List (ℕ × ℕ))
    (wrote : List ℕ) : Type 0 where
  pub boot : ℕ
  pub parts_are : parts ≡ (0, boot) ∷ []
  pub wrote_is : OneWrote wrote
  pub gave : G tag k boot

-- the newest statement is asked of the shard
pub record Next (G : Tag → ℕ → ℕ → Type 0) (tag : Tag) (k : ℕ) (parts : List (ℕ × ℕ))
    (wrote : List ℕ) (waiting : List Post) : Type 0 where
  pub boot : ℕ
  pub parts_are : parts ≡ (0, boot) ∷ []
  pub wrote_is : OneWrote wrote
  pub m : Statement
  pub waits : waiting ≡ (0, msg.Statement m) ∷ []
  pub tag_is : m.tag ≡ tag
  pub k_is : m.k ≡ k
  pub follows : StatementFollows G m

-- a commit is of this transaction, and names this boot
abbrev pub MsgCommits : Tag → ℕ → Msg → Type 0
MsgCommits tag boot (msg.Statement m) = ⊥
MsgCommits tag boot (msg.Commit m) = (m.tag ≡ tag) × (m.boot ≡ boot)
MsgCommits tag boot other = Unit {0}

abbrev pub AllCommit : Tag → ℕ → List Post → Type 0
AllCommit tag boot posts = All (λ (post : Post). MsgCommits tag boot post.1) posts

abbrev pub Commits : (Tag → ℕ → ℕ → Type 0) → Transaction → Type 0
Commits G t = (h : Heard G t.tag t.k t.parts t.wrote) × AllCommit t.tag h.boot t.waiting

abbrev pub Asked : (Tag → ℕ → ℕ → Type 0) → Transaction → List (ℕ × Answer) → Type 0
Asked G t answers =
    (t.waiting ≡ []) ⊎ ((answers ≡ []) × Next G t.tag t.k t.parts t.wrote t.waiting)

abbrev pub Follows : (Tag → ℕ → ℕ → Type 0) → Transaction → Phase → Type 0
Follows G t Idle = Heard G t.tag t.k t.parts t.wrote × (t.waiting ≡ [])
Follows G t (Asking asker op answers) = Asked G t answers
Follows G t (Checking asker) = Commits G t
Follows G t (Deciding asker) = Commits G t
Follows G t Committed = Commits G t
Follows G t Released = Commits G t
Follows G t (Aborted sent) = t.waiting ≡ []

-- a commit may have been sent, and no statement is asked any more
abbrev pub IsPast : Phase → Type 0
IsPast Idle = ⊥
IsPast (Asking asker op answers) = ⊥
IsPast other = Unit {0}

abbrev pub DoingFollows : (Tag → ℕ → ℕ → Type 0) → Doing → Type 0
DoingFollows G (Begun t) = Follows G t t.phase
DoingFollows G (Sought seeking known) = Unit {0}

-- Where more was answered.

abbrev Grows : (G H : Tag → ℕ → ℕ → Type 0) → Type 0
Grows G H = (tag : Tag) (k boot : ℕ) → G tag k boot → H tag k boot

module _ (G H : Tag → ℕ → ℕ → Type 0) (f : Grows G H) where
  pub statement_on : (m : Statement) → StatementFollows G m → StatementFollows H m
  statement_on m (inl h) = inl h
  statement_on m (inr h) = inr (h.0, h.1, f m.tag h.0 m.boot h.2)

  heard_on : (t : Transaction) → Heard G t.tag t.k t.parts t.wrote
      → Heard H t.tag t.k t.parts t.wrote
  heard_on t h = record {
    boot = h.boot;
    parts_are = h.parts_are;
    wrote_is = h.wrote_is;
    gave = f t.tag t.k h.boot h.gave;
  }

  next_on : (t : Transaction) → Next G t.tag t.k t.parts t.wrote t.waiting
      → Next H t.tag t.k t.parts t.wrote t.waiting
  next_on t h = record {
    boot = h.boot;
    parts_are = h.parts_are;
    wrote_is = h.wrote_is;
    m = h.m;
    waits = h.waits;
    tag_is = h.tag_is;
    k_is = h.k_is;
    follows = statement_on h.m h.follows;
  }

  commits_on : (t : Transaction) → Commits G t → Commits H t
  unfolding heard_on
  commits_on t h = (heard_on t h.0, h.1)

  asked_on : (t : Transaction) (answers : List (ℕ × Answer)) → Asked G t answers
      → Asked H t answers
  asked_on t answers (inl h) = inl h
  asked_on t answers (inr h) = inr (h.0, next_on t h.1)

  follows_on : (t : Transaction) (p : Phase) → Follows G t p → Follows H t p
  follows_on t Idle h = (heard_on t h.0, h.1)
  follows_on t (Asking asker op answers) h = asked_on t answers h
  follows_on t (Checking asker) h = commits_on t h
  follows_on t (Deciding asker) h = commits_on t h
  follows_on t Committed h = commits_on t h
  follows_on t Released h = commits_on t h
  follows_on t (Aborted sent) h = h

  pub doing_on : (doing : Doing) → DoingFollows G doing → DoingFollows H doing
  doing_on (Begun t) h = follows_on t t.phase h
  doing_on (Sought seeking known) h = tt

-- What is done in a session: its transaction stays, and where its commit may have been sent that
-- stays so; and what goes out it waits for.

-- no statement and no commit
abbrev pub IsNoAsk : Msg → Type 0
IsNoAsk m = Other m

abbrev pub NoneAsk : List Post → Type 0
NoneAsk posts = All (λ (post : Post). IsNoAsk post.1) posts

abbrev pub FromDoing : (Tag → ℕ → ℕ → Type 0) → Doing → Doing → Type 0
FromDoing G old (Sought seeking known) = Unit {0}
FromDoing G (Begun t) (Begun v) =
    (v.tag ≡ t.tag) × (Follows G v v.phase × (IsPast t.phase → IsPast v.phase))
FromDoing G (Sought seeking known) (Begun v) = ⊥

-- what goes out is all that the session waits for, or nothing
abbrev pub SendsOf : Doing → List Post → Type 0
SendsOf (Begun v) sends = (sends ≡ []) ⊎ (sends ≡ v.waiting)
SendsOf (Sought seeking known) sends = NoneAsk sends

pub record DeedFrom (G : Tag → ℕ → ℕ → Type 0) (old : Doing) (d : Deed) : Type 0 where
  pub doing : FromDoing G old d.session.doing
  pub sends : SendsOf d.session.doing d.given.sends
  pub aborts : NoneAsk d.given.aborts
