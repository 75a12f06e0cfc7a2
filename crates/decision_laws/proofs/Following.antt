-- What stands of a session's transaction, where more is known of the statements of that one alone.
use Rattle.std.proofs.Common.{◌≡◌, inl, inr, ℕ, List, sym, subst}
use Rattle.txn_types.specs.declared.message.Answer.{Answer}
use Rattle.txn_types.specs.declared.message.Statement.{Statement}
use Rattle.txn_types.specs.declared.names.Tag.{Tag}
use Rattle.router_state.specs.declared.state.Phase.{Phase}
use Rattle.router_state.specs.declared.state.Phase.TheVariants.{Idle, Asking, Checking, Deciding}
use Rattle.router_state.specs.declared.state.Phase.TheVariants.{Committed, Released, Aborted}
use Rattle.router_state.specs.declared.state.Transaction.{Transaction}
use Rattle.commit_laws.specs.Speaking.{StatementFollows}
use Rattle.commit_laws.proofs.Follows.{Heard, Next, Commits, Asked, Follows}

module _ (G H : Tag → ℕ → ℕ → Type 0) (t : Transaction)
    (f : (k boot : ℕ) → G t.tag k boot → H t.tag k boot) where
  pub heard_to : Heard G t.tag t.k t.parts t.wrote → Heard H t.tag t.k t.parts t.wrote
  heard_to h = record {
    boot = h.boot;
    parts_are = h.parts_are;
    wrote_is = h.wrote_is;
    gave = f t.k h.boot h.gave;
  }

  statement_to : (m : Statement) → m.tag ≡ t.tag → StatementFollows G m → StatementFollows H m
  statement_to m same (inl h) = inl h
  statement_to m same (inr h) = inr (
    h.0,
    h.1,
    subst (λ (x : Tag). H x h.0 m.boot) (sym same)
        (f h.0 m.boot (subst (λ (x : Tag). G x h.0 m.boot) same h.2)),
  )

  commits_to : Commits G t → Commits H t
  unfolding heard_to
  commits_to h = (heard_to h.0, h.1)

  next_to : Next G t.tag t.k t.parts t.wrote t.waiting
      → Next H t.tag t.k t.parts t.wrote t.waiting
  next_to h = record {
    boot = h.boot;
    parts_are = h.parts_are;
    wrote_is = h.wrote_is;
    m = h.m;
    waits = h.waits;
    tag_is = h.tag_is;
    k_is = h.k_is;
    follows = statement_to h.m h.tag_is h.follows;
  }

  asked_to : (answers : List (ℕ × Answer)) → Asked G t answers → Asked H t answers
  asked_to answers (inl h) = inl h
  asked_to answers (inr h) = inr (h.0, next_to h.1)

  pub follows_to : (p : Phase) → Follows G t p → Follows H t p
  follows_to Idle h = (heard_to h.0, h.1)
  follows_to (Asking asker op answers) h = asked_to answers h
  follows_to (Checking asker) h = commits_to h
  follows_to (Deciding asker) h = commits_to h
  follows_to Committed h = commits_to h
  follows_to Released h = commits_to h
  follows_to (Aborted sent) h = h
