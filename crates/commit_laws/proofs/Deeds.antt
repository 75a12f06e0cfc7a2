-- What is done in a session leaves its transaction as it should stand: commits, outcomes, ends and
-- tokens.
use Rattle.std.proofs.Common.{◌≡◌, inl, inr, ◌&&◌, ℕ, ℤ, not, All, List, [], ◌∷◌, ◌++◌, map, length}
use Rattle.std.proofs.Common.{nat_eq, int_lt, is_none, Option, Some, None, refl, sym, ap, subst}
use Rattle.std.proofs.Common.{◌∙◌}
use Rattle.std.proofs.lemmas.List.Elements.{All-nil, All-append, All-filter, All-map, All-weaker}
use Rattle.txn_types.specs.Order.{same_tag}
use Rattle.txn_types.specs.declared.decision.Told.{Told}
use Rattle.txn_types.specs.declared.decision.Told.TheVariants as told_as
use Rattle.txn_types.specs.declared.message.Outcome.{Outcome}
use Rattle.txn_types.specs.declared.names.Tag.{Tag}
use Rattle.txn_types.specs.declared.node.Lsid.{Lsid}
use Rattle.router_state.specs.declared.deed.Deed.{Deed}
use Rattle.router_state.specs.declared.deed.Given.{Given}
use Rattle.router_state.specs.declared.state.Asker.{Asker}
use Rattle.router_state.specs.declared.state.Doing.{Doing}
use Rattle.router_state.specs.declared.state.Doing.TheVariants.{Begun, Sought}
use Rattle.router_state.specs.declared.state.Phase.{Phase}
use Rattle.router_state.specs.declared.state.Phase.TheVariants.{Idle, Asking, Checking, Deciding}
use Rattle.router_state.specs.declared.state.Phase.TheVariants.{Committed, Released, Aborted}
use Rattle.router_state.specs.declared.state.Seeking.{Seeking}
use Rattle.router_state.specs.declared.state.Session.{Session}
use Rattle.router_state.specs.declared.state.Transaction.{Transaction}
use Rattle.router_state.specs.Deeds.{nothing, in_session, stays}
use Rattle.router_state.specs.State.{Post, asker_of, is_from, commit_sent, is_unfinished, is_waited}
use Rattle.router_state.specs.State.{without, boot_of}
use Rattle.router_state.specs.Shards.{writers, readers, has_written}
use Rattle.router_rules.specs.Commits as co
use Rattle.router_rules.specs.Ends as en
use Rattle.router_rules.specs.Serving.{ended_in}
use Rattle.router_rules.specs.Tokens as tk
use Rattle.participant.proofs.Cases.{either}
use Rattle.world_laws.proofs.Naming.{one, each}
use Rattle.one_shard_laws.specs.Asking.{OneWrote}
use Rattle.commit_laws.proofs.Follows.{Heard, Commits, AllCommit, MsgCommits, Follows, IsPast}
use Rattle.commit_laws.proofs.Follows.{IsNoAsk, NoneAsk, FromDoing, SendsOf, DeedFrom, DoingFollows}

pub no_asks : NoneAsk []
no_asks = All-nil (λ (post : Post). IsNoAsk post.1)

-- Aborts.

pub aborts_none : (lsid : Lsid) (number : ℤ) (why : ℕ) (t : Transaction)
    → NoneAsk (en.aborts lsid number why t)
aborts_none lsid number why t =
    each (λ (post : Post). IsNoAsk post.1) (en.abort_to lsid number why t.tag) t.parts (λ x. tt)

pub without_none : (shard : ℕ) (posts : List Post) → NoneAsk posts → NoneAsk (without shard posts)
without_none shard posts h =
    All-filter (λ post. not (nat_eq post.0 shard)) (λ (post : Post). IsNoAsk post.1) posts h

pub none_twice : (a b : List Post) → NoneAsk a → NoneAsk b → NoneAsk (a ++ b)
none_twice a b h k = All-append (λ (post : Post). IsNoAsk post.1) a b h k

leaves_doing : (lsid : Lsid) (number : ℤ) (doing : Doing)
    → NoneAsk (en.leaves lsid (record { number = number; doing = doing }))
leaves_doing lsid number (Begun t) =
    either (is_unfinished t.phase) NoneAsk _ _ (aborts_none lsid number 6 t) no_asks
leaves_doing lsid number (Sought seeking known) = no_asks

pub leaves_none : (lsid : Lsid) (s : Session) → NoneAsk (en.leaves lsid s)
leaves_none lsid s = leaves_doing lsid s.number s.doing

module _ (G : Tag → ℕ → ℕ → Type 0) where
  abbrev From : Transaction → Deed → Type 0
  From t d = DeedFrom G (Begun t) d

  abbrev HeardOf : Transaction → Type 0
  HeardOf t = Heard G t.tag t.k t.parts t.wrote

  -- it is as it was before another of the same transaction
  from_other : (t u : Transaction) (doing : Doing) → u.tag ≡ t.tag
      → (IsPast t.phase → IsPast u.phase)
      → FromDoing G (Begun u) doing → FromDoing G (Begun t) doing
  from_other t u (Begun v) tag past h = (h.0 ∙ tag, (h.1.0, λ p. h.1.1 (past p)))
  from_other t u (Sought seeking known) tag past h = tt

  pub deed_other : (t u : Transaction) (d : Deed) → u.tag ≡ t.tag
      → (IsPast t.phase → IsPast u.phase) → From u d → From t d
  deed_other t u d tag past h = record {
    doing = from_other t u d.session.doing tag past h.doing;
    sends = h.sends;
    aborts = h.aborts;
  }

  pub kept_from : (number : ℤ) (t : Transaction) → Follows G t t.phase
      → From t (in_session number t nothing)
  kept_from number t h = record { doing = (refl, (h, λ p. p)); sends = inl refl; aborts = no_asks }

  -- Commits.

  readers_told : (t : Transaction) (h : HeardOf t)
      → All (λ (part : ℕ × ℕ). part.1 ≡ h.boot) (readers t)
  readers_told t h =
      All-filter (λ (part : ℕ × ℕ). not (has_written t part.0))
      (λ (part : ℕ × ℕ). part.1 ≡ h.boot) t.parts
      (subst (All (λ (part : ℕ × ℕ). part.1 ≡ h.boot)) (sym h.parts_are)
      (one (λ (part : ℕ × ℕ). part.1 ≡ h.boot) (0, h.boot) refl))

  writers_case : (t : Transaction) (h : HeardOf t) → OneWrote t.wrote
      → All (λ (part : ℕ × ℕ). part.1 ≡ h.boot) (writers t)
  writers_case t h (inl e) =
      subst (λ (wrote : List ℕ). All (λ (part : ℕ × ℕ). part.1 ≡ h.boot)
      (map (λ (shard : ℕ). (shard, boot_of t.parts shard)) wrote)) (sym e)
      (All-nil (λ (part : ℕ × ℕ). part.1 ≡ h.boot))
  writers_case t h (inr e) =
      let here : boot_of t.parts 0 ≡ h.boot =
      ap (λ (parts : List (ℕ × ℕ)). boot_of parts 0) h.parts_are in
      subst (λ (wrote : List ℕ). All (λ (part : ℕ × ℕ). part.1 ≡ h.boot)
      (map (λ (shard : ℕ). (shard, boot_of t.parts shard)) wrote)) (sym e)
      (one (λ (part : ℕ × ℕ). part.1 ≡ h.boot) (0, boot_of t.parts 0) here)

  commit_told : (lsid : Lsid) (number : ℤ) (t : Transaction) (boot : ℕ) (parts : List (ℕ × ℕ))
      → All (λ (part : ℕ × ℕ). part.1 ≡ boot) parts
      → AllCommit t.tag boot (map (co.commit_to lsid number t) parts)
  commit_told lsid number t boot parts h =
      All-map (λ (post : Post). MsgCommits t.tag boot post.1) (co.commit_to lsid number t) parts
      (All-weaker (λ (part : ℕ × ℕ). part.1 ≡ boot)
      (λ (part : ℕ × ℕ). MsgCommits t.tag boot (co.commit_to lsid number t part).1)
      (λ part e. (refl, e)) parts h)

  none_commit : (t : Transaction) (boot : ℕ) → AllCommit t.tag boot []
  none_commit t boot = All-nil (λ (post : Post). MsgCommits t.tag boot post.1)

  committed_from : (lsid : Lsid) (number : ℤ) (asker : Option Asker) (t : Transaction) → HeardOf t
      → From t (co.finished lsid number asker Committed t)
  committed_from lsid number asker t h = record {
    doing = (refl, ((h, none_commit t h.boot), λ p. tt));
    sends = inl refl;
    aborts = no_asks;
  }

  released_from : (lsid : Lsid) (number : ℤ) (asker : Option Asker) (t : Transaction) → HeardOf t
      → From t (co.finished lsid number asker Released t)
  released_from lsid number asker t h = record {
    doing = (refl, ((h, none_commit t h.boot), λ p. tt));
    sends = inl refl;
    aborts = no_asks;
  }

  decides_by_from : (lsid : Lsid) (number : ℤ) (asker : Option Asker) (t : Transaction)
      (h : HeardOf t) (parts : List (ℕ × ℕ)) → All (λ (part : ℕ × ℕ). part.1 ≡ h.boot) parts
      → From t (co.decides_by lsid number asker t parts)
  decides_by_from lsid number asker t h [] k = released_from lsid number asker t h
  decides_by_from lsid number asker t h (part ∷ []) k = record {
    doing = (refl, ((h, commit_told lsid number t h.boot (part ∷ []) k), λ p. tt));
    sends = inr refl;
    aborts = no_asks;
  }
  decides_by_from lsid number asker t h (first ∷ second ∷ more) k = record {
    doing = (
      refl,
      (
        (
          h,
          one (λ (post : Post). MsgCommits t.tag h.boot post.1)
              (co.commit_two_to lsid number t first) tt,
        ),
        λ p. tt,
      ),
    );
    sends = inr refl;
    aborts = no_asks;
  }

  decides_from : (lsid : Lsid) (number : ℤ) (asker : Option Asker) (t : Transaction) → HeardOf t
      → From t (co.decides lsid number asker t)
  decides_from lsid number asker t h =
      decides_by_from lsid number asker t h (writers t) (writers_case t h h.wrote_is)

  commits_by_from : (lsid : Lsid) (number : ℤ) (asker : Option Asker) (t : Transaction)
      (h : HeardOf t) (parts : List (ℕ × ℕ)) → All (λ (part : ℕ × ℕ). part.1 ≡ h.boot) parts
      → From t (co.commits_by lsid number asker t parts)
  commits_by_from lsid number asker t h [] k = decides_from lsid number asker t h
  commits_by_from lsid number asker t h (first ∷ more) k = record {
    doing = (refl, ((h, commit_told lsid number t h.boot (first ∷ more) k), λ p. tt));
    sends = inr refl;
    aborts = no_asks;
  }

  pub commits_from : (lsid : Lsid) (number : ℤ) (asker : Option Asker) (t : Transaction)
      → HeardOf t → From t (co.commits lsid number asker t)
  commits_from lsid number asker t h =
      commits_by_from lsid number asker t h (readers t) (readers_told t h)

  listens_from : (lsid : Lsid) (number : ℤ) (asker : Asker) (t : Transaction) → Commits G t
      → From t (co.listens lsid number asker t)
  listens_from lsid number asker t h =
      either (nat_eq (length t.waiting) 0) (From t) (co.decides lsid number (Some asker) t) _
      (decides_from lsid number (Some asker) t h.0)
      (record { doing = (refl, (h, λ p. tt)); sends = inl refl; aborts = no_asks })

  commit_phase : (lsid : Lsid) (number : ℤ) (asker : Asker) (t : Transaction) (p : Phase)
      → Follows G (record t { phase = p }) p
      → From (record t { phase = p }) (co.commit_asked lsid number asker (record t { phase = p }))
  commit_phase lsid number asker t Idle h =
      commits_from lsid number (Some asker) (record t { phase = Idle }) h.0
  commit_phase lsid number asker t (Asking other op answers) h =
      kept_from number (record t { phase = Asking other op answers }) h
  commit_phase lsid number asker t (Checking other) h =
      record { doing = (refl, (h, λ p. tt)); sends = inl refl; aborts = no_asks }
  commit_phase lsid number asker t (Deciding other) h =
      listens_from lsid number asker (record t { phase = Deciding other }) h
  commit_phase lsid number asker t Committed h =
      committed_from lsid number (Some asker) (record t { phase = Committed }) h.0
  commit_phase lsid number asker t Released h =
      released_from lsid number (Some asker) (record t { phase = Released }) h.0
  commit_phase lsid number asker t (Aborted sent) h =
      record { doing = (refl, (h, λ p. tt)); sends = inl refl; aborts = no_asks }

  pub commit_asked_from : (lsid : Lsid) (number : ℤ) (asker : Asker) (t : Transaction)
      → Follows G t t.phase → From t (co.commit_asked lsid number asker t)
  commit_asked_from lsid number asker t h = commit_phase lsid number asker t t.phase h

  -- Outcomes.

  waits_on : (lsid : Lsid) (number : ℤ) (asker : Option Asker) (t : Transaction)
      (posts : List Post) (h : HeardOf t) → Follows G (record t { waiting = posts }) t.phase
      → From t (co.released lsid number asker t posts)
  waits_on lsid number asker t [] h k = decides_from lsid number asker t h
  waits_on lsid number asker t (post ∷ posts) h k =
      record { doing = (refl, (k, λ p. p)); sends = inl refl; aborts = no_asks }

  fails_from : (lsid : Lsid) (number : ℤ) (asker : Option Asker) (o : Outcome) (t : Transaction)
      → From t (co.fails lsid number asker o t)
  fails_from lsid number asker o t = record {
    doing = (refl, (refl, λ p. tt));
    sends = inl refl;
    aborts = none_twice (without o.shard (en.aborts lsid number 5 t)) []
        (without_none o.shard (en.aborts lsid number 5 t) (aborts_none lsid number 5 t)) no_asks;
  }

  commits_without : (t : Transaction) (boot shard : ℕ) → AllCommit t.tag boot t.waiting
      → AllCommit t.tag boot (without shard t.waiting)
  commits_without t boot shard h =
      All-filter (λ post. not (nat_eq post.0 shard))
      (λ (post : Post). MsgCommits t.tag boot post.1) t.waiting h

  checked_told : (lsid : Lsid) (number : ℤ) (asker : Option Asker) (o : Outcome)
      (t : Transaction) (x : Told) → Commits G t
      → From (record t { phase = Checking asker })
      (co.checked lsid number asker (record o { told = x }) (record t { phase = Checking asker }))
  checked_told lsid number asker o t told_as.Released h =
      waits_on lsid number asker (record t { phase = Checking asker }) (without o.shard t.waiting)
      h.0 (h.0, commits_without t h.0.boot o.shard h.1)
  checked_told lsid number asker o t (told_as.Committed at) h =
      committed_from lsid number asker (record t { phase = Checking asker }) h.0
  checked_told lsid number asker o t (told_as.Aborted cause) h =
      fails_from lsid number asker (record o { told = told_as.Aborted cause })
      (record t { phase = Checking asker })
  checked_told lsid number asker o t (told_as.TooOld have) h =
      fails_from lsid number asker (record o { told = told_as.TooOld have })
      (record t { phase = Checking asker })
  checked_told lsid number asker o t told_as.NoTrace h =
      fails_from lsid number asker (record o { told = told_as.NoTrace })
      (record t { phase = Checking asker })

  decided_told : (lsid : Lsid) (number : ℤ) (asker : Option Asker) (o : Outcome)
      (t : Transaction) (x : Told) → HeardOf t
      → From t (co.decided lsid number asker (record o { told = x }) t)
  decided_told lsid number asker o t told_as.Released h = committed_from lsid number asker t h
  decided_told lsid number asker o t (told_as.Committed at) h =
      committed_from lsid number asker t h
  decided_told lsid number asker o t (told_as.Aborted cause) h =
      record { doing = (refl, (refl, λ p. tt)); sends = inl refl; aborts = no_asks }
  decided_told lsid number asker o t (told_as.TooOld have) h = record {
    doing = (refl, ((h, none_commit t h.boot), λ p. tt));
    sends = inl refl;
    aborts = no_asks;
  }
  decided_told lsid number asker o t told_as.NoTrace h = record {
    doing = (refl, ((h, none_commit t h.boot), λ p. tt));
    sends = inl refl;
    aborts = no_asks;
  }

  counted_phase : (lsid : Lsid) (number : ℤ) (o : Outcome) (t : Transaction) (p : Phase)
      → Follows G (record t { phase = p }) p
      → From (record t { phase = p }) (co.counted lsid number o (record t { phase = p }))
  counted_phase lsid number o t (Checking asker) h = checked_told lsid number asker o t o.told h
  counted_phase lsid number o t (Deciding asker) h =
      decided_told lsid number asker o (record t { phase = Deciding asker }) o.told h.0
  counted_phase lsid number o t Idle h = kept_from number (record t { phase = Idle }) h
  counted_phase lsid number o t (Asking asker op answers) h =
      kept_from number (record t { phase = Asking asker op answers }) h
  counted_phase lsid number o t Committed h = kept_from number (record t { phase = Committed }) h
  counted_phase lsid number o t Released h = kept_from number (record t { phase = Released }) h
  counted_phase lsid number o t (Aborted sent) h =
      kept_from number (record t { phase = Aborted sent }) h

  on_outcome_from : (lsid : Lsid) (number : ℤ) (o : Outcome) (t : Transaction)
      → Follows G t t.phase → From t (co.on_outcome lsid number o t)
  on_outcome_from lsid number o t h =
      either (same_tag t.tag o.tag && is_waited o.shard t.waiting) (From t) _ _
      (counted_phase lsid number o t t.phase h) (kept_from number t h)

  sought_none : (old : Doing) (number : ℤ) (seeking : Option Seeking) (known : List Tag)
      (g : Given) → NoneAsk g.sends → NoneAsk g.aborts
      → DeedFrom G old (tk.sought number seeking known g)
  sought_none old number seeking known g h k = record { doing = tt; sends = h; aborts = k }

  recovered_from : (old : Doing) (number : ℤ) (seeking : Option Seeking) (known : List Tag)
      (o : Outcome) → DeedFrom G old (tk.on_recovered number seeking known o)
  recovered_from old number None known o = sought_none old number None known nothing no_asks no_asks
  recovered_from old number (Some k) known o =
      either (same_tag k.tag o.tag && nat_eq k.shard o.shard) (DeedFrom G old) _ _
      (record { doing = tt; sends = no_asks; aborts = no_asks })
      (record { doing = tt; sends = no_asks; aborts = no_asks })

  pub ended_from : (o : Outcome) (lsid : Lsid) (number : ℤ) (doing : Doing) → DoingFollows G doing
      → DeedFrom G doing (ended_in o lsid (record { number = number; doing = doing }))
  ended_from o lsid number (Begun t) h = on_outcome_from lsid number o t h
  ended_from o lsid number (Sought seeking known) h =
      recovered_from (Sought seeking known) number seeking known o

  -- Ends.

  ends_from : (lsid : Lsid) (number : ℤ) (why : ℕ) (t : Transaction)
      → From t (en.ends lsid number why t)
  ends_from lsid number why t = record {
    doing = (refl, (refl, λ p. tt));
    sends = inl refl;
    aborts = aborts_none lsid number why t;
  }

  told_ends : (lsid : Lsid) (number : ℤ) (t : Transaction)
      → NoneAsk (en.aborts lsid number 1 t ++ [])
  told_ends lsid number t =
      none_twice (en.aborts lsid number 1 t) [] (aborts_none lsid number 1 t) no_asks

  client_phase : (lsid : Lsid) (number : ℤ) (asker : Asker) (t : Transaction) (p : Phase)
      → Follows G (record t { phase = p }) p → From (record t { phase = p })
      (en.client_aborts lsid number asker (record t { phase = p }))
  client_phase lsid number asker t (Aborted sent) h =
      record { doing = (refl, (h, λ p. tt)); sends = inl refl; aborts = no_asks }
  client_phase lsid number asker t Idle h = record
      { doing = (refl, (refl, λ p. tt)); sends = inl refl; aborts = told_ends lsid number t }
  client_phase lsid number asker t (Asking other op answers) h = record
      { doing = (refl, (refl, λ p. tt)); sends = inl refl; aborts = told_ends lsid number t }
  client_phase lsid number asker t (Checking other) h = record
      { doing = (refl, (refl, λ p. tt)); sends = inl refl; aborts = told_ends lsid number t }
  client_phase lsid number asker t (Deciding other) h = record
      { doing = (refl, (refl, λ p. tt)); sends = inl refl; aborts = told_ends lsid number t }
  client_phase lsid number asker t Committed h = record
      { doing = (refl, (refl, λ p. tt)); sends = inl refl; aborts = told_ends lsid number t }
  client_phase lsid number asker t Released h = record
      { doing = (refl, (refl, λ p. tt)); sends = inl refl; aborts = told_ends lsid number t }

  pub client_aborts_from : (lsid : Lsid) (number : ℤ) (asker : Asker) (t : Transaction)
      → Follows G t t.phase → From t (en.client_aborts lsid number asker t)
  client_aborts_from lsid number asker t h = client_phase lsid number asker t t.phase h

  stays_from : (s : Session) → DoingFollows G s.doing → DeedFrom G s.doing (stays s)
  stays_from s h = record { doing = same s.doing h; sends = none s.doing; aborts = no_asks }
    where
      same : (doing : Doing) → DoingFollows G doing → FromDoing G doing doing
      same (Begun t) k = (refl, (k, λ p. p))
      same (Sought seeking known) k = tt

      none : (doing : Doing) → SendsOf doing []
      none (Begun t) = inl refl
      none (Sought seeking known) = no_asks

  pub session_from : (lsid : Lsid) (number : ℤ) (doing : Doing) → DoingFollows G doing
      → DeedFrom G doing (en.ends_session lsid (record { number = number; doing = doing }))
  session_from lsid number (Begun t) h =
      either (is_none (asker_of (Begun t)) && not (commit_sent t.phase)) (From t)
      (en.ends lsid number 2 t) _ (ends_from lsid number 2 t)
      (stays_from (record { number = number; doing = Begun t }) h)
  session_from lsid number (Sought seeking known) h =
      stays_from (record { number = number; doing = Sought seeking known }) tt

  gone_phase : (conn : ℕ) (lsid : Lsid) (number : ℤ) (t : Transaction) (p : Phase)
      → Follows G (record t { phase = p }) p
      → From (record t { phase = p }) (en.gone_asking conn lsid
      (record { number = number; doing = Begun (record t { phase = p }) }) (record t { phase = p }))
  gone_phase conn lsid number t (Asking asker op answers) h =
      ends_from lsid number 4 (record t { phase = Asking asker op answers })
  gone_phase conn lsid number t (Checking asker) h =
      record { doing = (refl, (h, λ p. tt)); sends = inl refl; aborts = no_asks }
  gone_phase conn lsid number t (Deciding asker) h =
      record { doing = (refl, (h, λ p. tt)); sends = inl refl; aborts = no_asks }
  gone_phase conn lsid number t Idle h =
      stays_from (record { number = number; doing = Begun (record t { phase = Idle }) }) h
  gone_phase conn lsid number t Committed h =
      stays_from (record { number = number; doing = Begun (record t { phase = Committed }) }) h
  gone_phase conn lsid number t Released h =
      stays_from (record { number = number; doing = Begun (record t { phase = Released }) }) h
  gone_phase conn lsid number t (Aborted sent) h =
      stays_from (record { number = number; doing = Begun (record t { phase = Aborted sent }) }) h

  gone_doing : (conn : ℕ) (lsid : Lsid) (number : ℤ) (doing : Doing) → DoingFollows G doing
      → DeedFrom G doing (en.gone_in conn lsid (record { number = number; doing = doing }))
  gone_doing conn lsid number (Begun t) h = gone_phase conn lsid number t t.phase h
  gone_doing conn lsid number (Sought seeking known) h =
      record { doing = tt; sends = no_asks; aborts = no_asks }

  pub gone_from : (conn : ℕ) (lsid : Lsid) (s : Session) → DoingFollows G s.doing
      → DeedFrom G s.doing (en.gone_from conn lsid s)
  gone_from conn lsid s h =
      either (is_from conn (asker_of s.doing)) (DeedFrom G s.doing) _ _
      (gone_doing conn lsid s.number s.doing h) (stays_from s h)

  -- Tokens.

  anew_from : (old : Doing) (lsid : Lsid) (number : ℤ) (k : Seeking) (known : List Tag)
      → DeedFrom G old (tk.asks_anew lsid number k known)
  anew_from old lsid number k known = record {
    doing = tt;
    sends = one (λ (post : Post). IsNoAsk post.1) (tk.recover_to lsid number k) tt;
    aborts = no_asks;
  }

  asks_for_from : (old : Doing) (lsid : Lsid) (number : ℤ) (k : Seeking) (older : Option Seeking)
      (known : List Tag) → DeedFrom G old (tk.asks_for lsid number k older known)
  asks_for_from old lsid number k None known = anew_from old lsid number k known
  asks_for_from old lsid number k (Some older) known =
      either (tk.same_place older k) (DeedFrom G old) _ _
      (record { doing = tt; sends = no_asks; aborts = no_asks }) (anew_from old lsid number k known)

  seeks_in_from : (old : Doing) (lsid : Lsid) (number : ℤ) (asker : Asker) (k : Seeking)
      (seeking : Option Seeking) (known : List Tag)
      → DeedFrom G old (tk.seeks_in lsid number asker k seeking known)
  seeks_in_from old lsid number asker k seeking known =
      either (tk.is_known k.tag known) (DeedFrom G old) _ _
      (record { doing = tt; sends = no_asks; aborts = no_asks })
      (asks_for_from old lsid number k seeking known)

  seeks_doing : (lsid : Lsid) (number own : ℤ) (asker : Asker) (k : Seeking) (doing : Doing)
      → DoingFollows G doing → DeedFrom G doing
      (tk.seeks_by lsid number asker k (Some (record { number = own; doing = doing })))
  seeks_doing lsid number own asker k (Begun t) h =
      either (int_lt own number) (From t) _ _
      (record {
        doing = tt;
        sends = one (λ (post : Post). IsNoAsk post.1) (tk.recover_to lsid number k) tt;
        aborts = none_twice (en.leaves lsid (record { number = own; doing = Begun t })) []
            (leaves_doing lsid own (Begun t)) no_asks;
      })
      (stays_from (record { number = own; doing = Begun t }) h)
  seeks_doing lsid number own asker k (Sought seeking known) h =
      either (int_lt own number) (DeedFrom G (Sought seeking known)) _ _
      (record {
        doing = tt;
        sends = one (λ (post : Post). IsNoAsk post.1) (tk.recover_to lsid number k) tt;
        aborts = no_asks;
      })
      (seeks_in_from (Sought seeking known) lsid number asker k seeking known)

  pub seeks_from : (lsid : Lsid) (number : ℤ) (asker : Asker) (k : Seeking) (s : Session)
      → DoingFollows G s.doing → DeedFrom G s.doing (tk.seeks_by lsid number asker k (Some s))
  seeks_from lsid number asker k s h = seeks_doing lsid number s.number asker k s.doing h

  pub anew_new : (lsid : Lsid) (number : ℤ) (k : Seeking)
      → DeedFrom G (Sought None []) (tk.asks_anew lsid number k [])
  anew_new lsid number k = anew_from (Sought None []) lsid number k []
