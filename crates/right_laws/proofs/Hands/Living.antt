-- What a message of a shard, and the end of a connection, leave of a session: a transaction that
-- was begun takes part somewhere, and one whose statement is asked waits for an answer; and the
-- request that waits there still suits it.
use Rattle.std.proofs.Common.{◌≡◌, ◌⊎◌, inl, inr, ◌∙◌, ◌&&◌, ℕ, ℤ, Bool, true, false, not, List}
use Rattle.std.proofs.Common.{[], ◌∷◌, filter_map, nat_eq, Option, Some, None, refl, sym}
use Rattle.std.specs.Ordering.{nat_cmp}
use Rattle.std.specs.declared.cmp.Ordering.{Ordering}
use Rattle.std.specs.declared.cmp.Ordering.TheVariants.{Less, Equal, Greater}
use Rattle.txn_types.specs.Order.{same_tag}
use Rattle.txn_types.specs.declared.cause.Cause.{Cause}
use Rattle.txn_types.specs.declared.decision.Told.{Told}
use Rattle.txn_types.specs.declared.decision.Told.TheVariants as told_as
use Rattle.txn_types.specs.declared.message.Answer.{Answer}
use Rattle.txn_types.specs.declared.message.Outcome.{Outcome}
use Rattle.txn_types.specs.declared.node.Lsid.{Lsid}
use Rattle.txn_types.specs.declared.operation.Op.{Op}
use Rattle.txn_types.specs.declared.operation.OpReply.{OpReply}
use Rattle.txn_semantics.specs.Keyed.{put}
use Rattle.txn_semantics.specs.Merge.{merge}
use Rattle.client_cmd.specs.declared.request.Request.{Request}
use Rattle.router_state.specs.Deeds.{nothing, in_session}
use Rattle.router_state.specs.Shards.{readers, writers}
use Rattle.router_state.specs.State.{Post, asker_of, is_from, is_own, is_waited, without}
use Rattle.router_state.specs.declared.deed.Deed.{Deed}
use Rattle.router_state.specs.declared.state.Asker.{Asker}
use Rattle.router_state.specs.declared.state.Doing.{Doing}
use Rattle.router_state.specs.declared.state.Doing.TheVariants.{Begun, Sought}
use Rattle.router_state.specs.declared.state.Phase.{Phase}
use Rattle.router_state.specs.declared.state.Phase.TheVariants.{Idle, Asking, Checking, Deciding}
use Rattle.router_state.specs.declared.state.Phase.TheVariants.{Committed, Released, Aborted}
use Rattle.router_state.specs.declared.state.Session.{Session}
use Rattle.router_state.specs.declared.state.Transaction.{Transaction}
use Rattle.router_rules.specs.Commits as co
use Rattle.router_rules.specs.Ends as en
use Rattle.router_rules.specs.Serving.{answered_in, ended_in}
use Rattle.router_rules.specs.Statements as st
use Rattle.router_rules.specs.Tokens as tk
use Rattle.cluster_core.specs.Telling.{is_attempt}
use Rattle.participant.proofs.Cases.{either}
use Rattle.answer_laws.proofs.Lists.{both_true}
use Rattle.right_laws.specs.Said.{Suits}

-- A session.

abbrev pub WaitsIn : List Post → Phase → Type 0
WaitsIn posts (Asking asker op answers) = posts ≡ [] → ⊥
WaitsIn posts other = Unit {0}

pub record TxnLives (t : Transaction) : Type 0 where
  pub parts : t.parts ≡ [] → ⊥
  pub waits : WaitsIn t.waiting t.phase

abbrev pub Lives : Doing → Type 0
Lives (Begun t) = TxnLives t
Lives (Sought seeking known) = Unit {0}

-- what a deed leaves; nobody waits there any more, or whoever waited still suits it
pub record Follows (lsid : Lsid) (number : ℤ) (old : Doing) (new : Session) : Type 0 where
  pub number_is : new.number ≡ number
  pub lives : Lives new.doing
  pub suits : (q : Request) → Suits q lsid old
      → (asker_of new.doing ≡ None) ⊎ Suits q lsid new.doing

pub put_some : {K A : Type 0} (cmp : K → K → Ordering) (key : K) (a : A) (rows : List (K × A))
    → put cmp key a rows ≡ [] → ⊥
put_some cmp key a [] e = absurd cc
put_some {K = K} {A = A} cmp key a (row ∷ rows) e = by (cmp key row.0) e
  where
    by : (o : Ordering) → ◌≡◌ {A = List (K × A)} (elim o [
      | Less ↦ (key, a) ∷ row ∷ rows
      | Equal ↦ (key, a) ∷ rows
      | Greater ↦ row ∷ put cmp key a rows
    ]) [] → ⊥
    by Less f = absurd cc
    by Equal f = absurd cc
    by Greater f = absurd cc

no_cons : {A : Type 0} (x : A) (xs : List A) → x ∷ xs ≡ [] → ⊥
no_cons x xs e = absurd cc

-- A commit.

pub record Commits (lsid : Lsid) (number : ℤ) (d : Deed) : Type 0 where
  pub number_is : d.session.number ≡ number
  pub lives : Lives d.session.doing
  pub suits : (q : Request) → is_attempt q ≡ true → Suits q lsid d.session.doing

module _ (lsid : Lsid) (number : ℤ) (asker : Option Asker) (t : Transaction)
    (some : t.parts ≡ [] → ⊥) where
  decides_by_lives : (parts : List (ℕ × ℕ))
      → Commits lsid number (co.decides_by lsid number asker t parts)
  decides_by_lives [] = record {
    number_is = refl;
    lives = record { parts = some; waits = tt };
    suits = λ q e. e;
  }
  decides_by_lives (first ∷ []) = record {
    number_is = refl;
    lives = record { parts = some; waits = tt };
    suits = λ q e. e;
  }
  decides_by_lives (first ∷ second ∷ more) = record {
    number_is = refl;
    lives = record { parts = some; waits = tt };
    suits = λ q e. e;
  }

  pub decides_lives : Commits lsid number (co.decides lsid number asker t)
  decides_lives = decides_by_lives (writers t)

  commits_by_lives : (parts : List (ℕ × ℕ))
      → Commits lsid number (co.commits_by lsid number asker t parts)
  commits_by_lives [] = decides_lives
  commits_by_lives (first ∷ more) = record {
    number_is = refl;
    lives = record { parts = some; waits = tt };
    suits = λ q e. e;
  }

  pub commits_lives : Commits lsid number (co.commits lsid number asker t)
  commits_lives = commits_by_lives (readers t)

module _ (lsid : Lsid) (number : ℤ) where
  stays_follow : (doing : Doing) → Lives doing
      → Follows lsid number doing (record { number = number; doing = doing })
  stays_follow doing h = record { number_is = refl; lives = h; suits = λ q s. inr s }

  commit_follows : (old : Doing) (d : Deed)
      → ((q : Request) → Suits q lsid old → is_attempt q ≡ true) → Commits lsid number d
      → Follows lsid number old d.session
  commit_follows old d tries c =
      record {
        number_is = c.number_is;
        lives = c.lives;
        suits = λ q s. inr (c.suits q (tries q s));
      }

  -- An answer.

  module _ (a : Answer) (t : Transaction) (asker : Asker) (op : Op) (answers : List (ℕ × Answer))
    where
      abbrev old : Doing
      old = Begun (record t { phase = Asking asker op answers })

      abbrev rows : List (ℕ × Answer)
      rows = put nat_cmp a.shard a answers

      abbrev taken : Transaction
      taken = st.with_answer asker op answers a (record t { phase = Asking asker op answers })

      taken_some : taken.parts ≡ [] → ⊥
      taken_some = put_some nat_cmp a.shard a.boot t.parts

      abbrev FollowsIt : Deed → Type 0
      FollowsIt d = Follows lsid number old d.session

      replies_follow : (r : OpReply) (test : Bool) → (is_own lsid && not (st.is_cut r)) ≡ test
          → FollowsIt (st.replies lsid number asker op (st.answered_by rows taken) r)
      replies_follow r true e =
          let own = (both_true (is_own lsid) (not (st.is_cut r)) e).0 in
          rw e (commit_follows old
          (co.commits lsid number (Some asker) (record (st.answered_by rows taken)
          { reply = Some (st.reply_of op r None) }))
          (λ q s. s.0 ∙ own)
          (commits_lives lsid number (Some asker) (record (st.answered_by rows taken)
          { reply = Some (st.reply_of op r None) }) taken_some))
      replies_follow r false e = rw e (record {
        number_is = refl;
        lives = record { parts = taken_some; waits = tt };
        suits = λ q s. inl refl;
      })

      concludes_follow : (o : Option (ℕ × Cause))
          → FollowsIt (st.concludes_by lsid number asker op rows taken o)
      concludes_follow None = replies_follow (merge op (filter_map st.reply_in rows)) _ refl
      concludes_follow (Some refusal) = record {
        number_is = refl;
        lives = record { parts = taken_some; waits = tt };
        suits = λ q s. inl refl;
      }

      taken_follows : (posts : List Post) → without a.shard t.waiting ≡ posts
          → FollowsIt (st.taken_by lsid number asker op rows taken posts)
      taken_follows [] e = concludes_follow (st.winning (filter_map st.cause_in rows))
      taken_follows (post ∷ posts) e = record {
        number_is = refl;
        lives = record { parts = taken_some; waits = λ none. no_cons post posts (sym e ∙ none) };
        suits = λ q s. inr s;
      }

  answer_phase : (a : Answer) (t : Transaction) (p : Phase)
      → TxnLives (record t { phase = p })
      → Follows lsid number (Begun (record t { phase = p }))
      (st.answer_to lsid number a (record t { phase = p })).session
  answer_phase a t (Asking asker op answers) h =
      taken_follows a t asker op answers (without a.shard t.waiting) refl
  answer_phase a t Idle h = stays_follow (Begun (record t { phase = Idle })) h
  answer_phase a t (Checking asker) h = stays_follow (Begun (record t { phase = Checking asker })) h
  answer_phase a t (Deciding asker) h = stays_follow (Begun (record t { phase = Deciding asker })) h
  answer_phase a t Committed h = stays_follow (Begun (record t { phase = Committed })) h
  answer_phase a t Released h = stays_follow (Begun (record t { phase = Released })) h
  answer_phase a t (Aborted so) h = stays_follow (Begun (record t { phase = Aborted so })) h

  pub answer_follows : (a : Answer) (doing : Doing) → Lives doing
      → Follows lsid number doing (answered_in a lsid (record {
        number = number;
        doing = doing;
      })).session
  answer_follows a (Begun t) h =
      either (same_tag t.tag a.tag && nat_eq a.k t.k && is_waited a.shard t.waiting)
      (λ (d : Deed). Follows lsid number (Begun t) d.session) (st.answer_to lsid number a t)
      (in_session number t nothing)
      (answer_phase a t t.phase h) (stays_follow (Begun t) h)
  answer_follows a (Sought seeking known) h = stays_follow (Sought seeking known) tt

  -- An outcome.

  module _ (o : Outcome) (t : Transaction) (asker : Option Asker) (some : t.parts ≡ [] → ⊥) where
    abbrev check : Transaction
    check = record t { phase = Checking asker }

    abbrev decide : Transaction
    decide = record t { phase = Deciding asker }

    released_follows : (posts : List Post)
        → Follows lsid number (Begun check) (co.released lsid number asker check posts).session
    released_follows [] = commit_follows (Begun check) (co.decides lsid number asker check)
        (λ q s. s) (decides_lives lsid number asker check some)
    released_follows (post ∷ posts) = record {
      number_is = refl;
      lives = record { parts = some; waits = tt };
      suits = λ q s. inr s;
    }

    checked_follows : (x : Told)
        → Follows lsid number (Begun check)
        (co.checked lsid number asker (record o { told = x }) check).session
    checked_follows told_as.Released = released_follows (without o.shard t.waiting)
    checked_follows (told_as.Committed at) =
        record {
          number_is = refl;
          lives = record { parts = some; waits = tt };
          suits = λ q s. inr s;
        }
    checked_follows (told_as.Aborted cause) =
        record {
          number_is = refl;
          lives = record { parts = some; waits = tt };
          suits = λ q s. inr s;
        }
    checked_follows (told_as.TooOld have) =
        record {
          number_is = refl;
          lives = record { parts = some; waits = tt };
          suits = λ q s. inr s;
        }
    checked_follows told_as.NoTrace =
        record {
          number_is = refl;
          lives = record { parts = some; waits = tt };
          suits = λ q s. inr s;
        }

    decided_follows : (x : Told)
        → Follows lsid number (Begun decide)
        (co.decided lsid number asker (record o { told = x }) decide).session
    decided_follows told_as.Released =
        record {
          number_is = refl;
          lives = record { parts = some; waits = tt };
          suits = λ q s. inr s;
        }
    decided_follows (told_as.Committed at) =
        record {
          number_is = refl;
          lives = record { parts = some; waits = tt };
          suits = λ q s. inr s;
        }
    decided_follows (told_as.Aborted cause) =
        record {
          number_is = refl;
          lives = record { parts = some; waits = tt };
          suits = λ q s. inr s;
        }
    decided_follows (told_as.TooOld have) =
        record {
          number_is = refl;
          lives = record { parts = some; waits = tt };
          suits = λ q s. inr s;
        }
    decided_follows told_as.NoTrace =
        record {
          number_is = refl;
          lives = record { parts = some; waits = tt };
          suits = λ q s. inr s;
        }

  counted_follows : (o : Outcome) (t : Transaction) (p : Phase)
      → TxnLives (record t { phase = p })
      → Follows lsid number (Begun (record t { phase = p }))
      (co.counted lsid number o (record t { phase = p })).session
  counted_follows o t (Checking asker) h = checked_follows o t asker h.parts o.told
  counted_follows o t (Deciding asker) h = decided_follows o t asker h.parts o.told
  counted_follows o t Idle h = stays_follow (Begun (record t { phase = Idle })) h
  counted_follows o t (Asking asker op answers) h =
      stays_follow (Begun (record t { phase = Asking asker op answers })) h
  counted_follows o t Committed h = stays_follow (Begun (record t { phase = Committed })) h
  counted_follows o t Released h = stays_follow (Begun (record t { phase = Released })) h
  counted_follows o t (Aborted so) h = stays_follow (Begun (record t { phase = Aborted so })) h

  pub outcome_follows : (o : Outcome) (doing : Doing) → Lives doing
      → Follows lsid number doing (ended_in o lsid (record {
        number = number;
        doing = doing;
      })).session
  outcome_follows o (Begun t) h =
      either (same_tag t.tag o.tag && is_waited o.shard t.waiting)
      (λ (d : Deed). Follows lsid number (Begun t) d.session) (co.counted lsid number o t)
      (in_session number t nothing)
      (counted_follows o t t.phase h) (stays_follow (Begun t) h)
  outcome_follows o (Sought None known) h = stays_follow (Sought None known) tt
  outcome_follows o (Sought (Some k) known) h =
      either (same_tag k.tag o.tag && nat_eq k.shard o.shard)
      (λ (d : Deed). Follows lsid number (Sought (Some k) known) d.session)
      (tk.recovered number k known o) (tk.sought number (Some k) known nothing)
      (record { number_is = refl; lives = tt; suits = λ q s. inr s })
      (stays_follow (Sought (Some k) known) tt)

  -- The end of a connection.

  gone_phase : (conn : ℕ) (t : Transaction) (p : Phase) → TxnLives (record t { phase = p })
      → Follows lsid number (Begun (record t { phase = p }))
      (en.gone_asking conn lsid (record {
        number = number;
        doing = Begun (record t { phase = p });
      }) (record t { phase = p })).session
  gone_phase conn t (Asking asker op answers) h =
      record {
        number_is = refl;
        lives = record { parts = h.parts; waits = tt };
        suits = λ q s. inl refl;
      }
  gone_phase conn t (Checking asker) h =
      record {
        number_is = refl;
        lives = record { parts = h.parts; waits = tt };
        suits = λ q s. inl refl;
      }
  gone_phase conn t (Deciding asker) h =
      record {
        number_is = refl;
        lives = record { parts = h.parts; waits = tt };
        suits = λ q s. inl refl;
      }
  gone_phase conn t Idle h = stays_follow (Begun (record t { phase = Idle })) h
  gone_phase conn t Committed h = stays_follow (Begun (record t { phase = Committed })) h
  gone_phase conn t Released h = stays_follow (Begun (record t { phase = Released })) h
  gone_phase conn t (Aborted so) h = stays_follow (Begun (record t { phase = Aborted so })) h

  gone_doing : (conn : ℕ) (doing : Doing) → Lives doing
      → Follows lsid number doing (en.gone_in conn lsid (record {
        number = number;
        doing = doing;
      })).session
  gone_doing conn (Begun t) h = gone_phase conn t t.phase h
  gone_doing conn (Sought None known) h =
      record { number_is = refl; lives = tt; suits = λ q s. inr s }
  gone_doing conn (Sought (Some k) known) h =
      record { number_is = refl; lives = tt; suits = λ q s. inr s }

  pub gone_follows : (conn : ℕ) (doing : Doing) → Lives doing
      → Follows lsid number doing (en.gone_from conn lsid (record {
        number = number;
        doing = doing;
      })).session
  gone_follows conn doing h =
      either (is_from conn (asker_of doing)) (λ (d : Deed). Follows lsid number doing d.session) _ _
      (gone_doing conn doing h) (stays_follow doing h)
