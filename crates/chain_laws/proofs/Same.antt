-- A session's transaction keeps what it reads at, and the boots that its shards told, where none of
-- its statements is answered.
use Rattle.std.proofs.Common.{◌≡◌, ◌&&◌, ℕ, ℤ, not, List, [], ◌∷◌, length}
use Rattle.std.proofs.Common.{nat_eq, int_lt, is_none, Option, Some, None, refl, ◌∙◌}
use Rattle.txn_types.specs.Order.{same_tag}
use Rattle.txn_types.specs.declared.decision.Told.{Told}
use Rattle.txn_types.specs.declared.decision.Told.TheVariants as told_as
use Rattle.txn_types.specs.declared.message.Outcome.{Outcome}
use Rattle.txn_types.specs.declared.names.Tag.{Tag}
use Rattle.txn_types.specs.declared.node.Lsid.{Lsid}
use Rattle.router_state.specs.declared.deed.Deed.{Deed}
use Rattle.router_state.specs.declared.state.Asker.{Asker}
use Rattle.router_state.specs.declared.state.Doing.{Doing}
use Rattle.router_state.specs.declared.state.Doing.TheVariants.{Begun, Sought}
use Rattle.router_state.specs.declared.state.Phase.{Phase}
use Rattle.router_state.specs.declared.state.Phase.TheVariants.{Idle, Asking, Checking, Deciding}
use Rattle.router_state.specs.declared.state.Phase.TheVariants.{Committed, Released, Aborted}
use Rattle.router_state.specs.declared.state.Seeking.{Seeking}
use Rattle.router_state.specs.declared.state.Session.{Session}
use Rattle.router_state.specs.declared.state.Transaction.{Transaction}
use Rattle.router_state.specs.State.{Post, asker_of, is_from, commit_sent, is_waited, without}
use Rattle.router_state.specs.Shards.{writers, readers}
use Rattle.router_rules.specs.Commits as co
use Rattle.router_rules.specs.Ends as en
use Rattle.router_rules.specs.Serving.{ended_in}
use Rattle.router_rules.specs.Tokens as tk
use Rattle.participant.proofs.Cases.{either}

abbrev pub SameDoing : Doing → Doing → Type 0
SameDoing old (Sought seeking known) = Unit {0}
SameDoing (Begun t) (Begun v) = (v.parts ≡ t.parts) × (v.read_at ≡ t.read_at)
SameDoing (Sought seeking known) (Begun v) = ⊥

abbrev pub SameDeed : Transaction → Deed → Type 0
SameDeed t d = SameDoing (Begun t) d.session.doing

pub same_self : (doing : Doing) → SameDoing doing doing
same_self (Begun t) = (refl, refl)
same_self (Sought seeking known) = tt

pub same_then : (a b c : Doing) → SameDoing a b → SameDoing b c → SameDoing a c
same_then a b (Sought seeking known) h k = tt
same_then (Begun t) (Begun v) (Begun w) h k = (k.0 ∙ h.0, k.1 ∙ h.1)
same_then (Sought seeking known) (Begun v) (Begun w) h k = absurd h
same_then a (Sought seeking known) (Begun w) h k = absurd k

-- Commits.

decides_by_same : (lsid : Lsid) (number : ℤ) (asker : Option Asker) (t : Transaction)
    (parts : List (ℕ × ℕ)) → SameDeed t (co.decides_by lsid number asker t parts)
decides_by_same lsid number asker t [] = (refl, refl)
decides_by_same lsid number asker t (first ∷ []) = (refl, refl)
decides_by_same lsid number asker t (first ∷ second ∷ more) = (refl, refl)

decides_same : (lsid : Lsid) (number : ℤ) (asker : Option Asker) (t : Transaction)
    → SameDeed t (co.decides lsid number asker t)
decides_same lsid number asker t = decides_by_same lsid number asker t (writers t)

commits_by_same : (lsid : Lsid) (number : ℤ) (asker : Option Asker) (t : Transaction)
    (parts : List (ℕ × ℕ)) → SameDeed t (co.commits_by lsid number asker t parts)
commits_by_same lsid number asker t [] = decides_same lsid number asker t
commits_by_same lsid number asker t (first ∷ more) = (refl, refl)

pub commits_same : (lsid : Lsid) (number : ℤ) (asker : Option Asker) (t : Transaction)
    → SameDeed t (co.commits lsid number asker t)
commits_same lsid number asker t = commits_by_same lsid number asker t (readers t)

listens_same : (lsid : Lsid) (number : ℤ) (asker : Asker) (t : Transaction)
    → SameDeed t (co.listens lsid number asker t)
listens_same lsid number asker t =
    either (nat_eq (length t.waiting) 0) (SameDeed t) (co.decides lsid number (Some asker) t) _
    (decides_same lsid number (Some asker) t) (refl, refl)

commit_phase : (lsid : Lsid) (number : ℤ) (asker : Asker) (t : Transaction) (p : Phase)
    → SameDeed (record t { phase = p }) (co.commit_asked lsid number asker
    (record t { phase = p }))
commit_phase lsid number asker t Idle =
    commits_same lsid number (Some asker) (record t { phase = Idle })
commit_phase lsid number asker t (Asking other op answers) = (refl, refl)
commit_phase lsid number asker t (Checking other) = (refl, refl)
commit_phase lsid number asker t (Deciding other) = listens_same lsid number asker
    (record t { phase = Deciding other })
commit_phase lsid number asker t Committed = (refl, refl)
commit_phase lsid number asker t Released = (refl, refl)
commit_phase lsid number asker t (Aborted sent) = (refl, refl)

pub commit_asked_same : (lsid : Lsid) (number : ℤ) (asker : Asker) (t : Transaction)
    → SameDeed t (co.commit_asked lsid number asker t)
commit_asked_same lsid number asker t = commit_phase lsid number asker t t.phase

-- Outcomes.

released_same : (lsid : Lsid) (number : ℤ) (asker : Option Asker) (t : Transaction)
    (posts : List Post) → SameDeed t (co.released lsid number asker t posts)
released_same lsid number asker t [] = decides_same lsid number asker t
released_same lsid number asker t (post ∷ posts) = (refl, refl)

checked_told : (lsid : Lsid) (number : ℤ) (asker : Option Asker) (o : Outcome) (t : Transaction)
    (x : Told) → SameDeed t (co.checked lsid number asker (record o { told = x }) t)
checked_told lsid number asker o t told_as.Released = released_same lsid number asker t
    (without o.shard t.waiting)
checked_told lsid number asker o t (told_as.Committed at) = (refl, refl)
checked_told lsid number asker o t (told_as.Aborted cause) = (refl, refl)
checked_told lsid number asker o t (told_as.TooOld have) = (refl, refl)
checked_told lsid number asker o t told_as.NoTrace = (refl, refl)

decided_told : (lsid : Lsid) (number : ℤ) (asker : Option Asker) (o : Outcome) (t : Transaction)
    (x : Told) → SameDeed t (co.decided lsid number asker (record o { told = x }) t)
decided_told lsid number asker o t told_as.Released = (refl, refl)
decided_told lsid number asker o t (told_as.Committed at) = (refl, refl)
decided_told lsid number asker o t (told_as.Aborted cause) = (refl, refl)
decided_told lsid number asker o t (told_as.TooOld have) = (refl, refl)
decided_told lsid number asker o t told_as.NoTrace = (refl, refl)

counted_phase : (lsid : Lsid) (number : ℤ) (o : Outcome) (t : Transaction) (p : Phase)
    → SameDeed (record t { phase = p }) (co.counted lsid number o (record t { phase = p }))
counted_phase lsid number o t (Checking asker) = checked_told lsid number asker o
    (record t { phase = Checking asker }) o.told
counted_phase lsid number o t (Deciding asker) = decided_told lsid number asker o
    (record t { phase = Deciding asker }) o.told
counted_phase lsid number o t Idle = (refl, refl)
counted_phase lsid number o t (Asking asker op answers) = (refl, refl)
counted_phase lsid number o t Committed = (refl, refl)
counted_phase lsid number o t Released = (refl, refl)
counted_phase lsid number o t (Aborted sent) = (refl, refl)

on_outcome_same : (lsid : Lsid) (number : ℤ) (o : Outcome) (t : Transaction)
    → SameDeed t (co.on_outcome lsid number o t)
on_outcome_same lsid number o t =
    either (same_tag t.tag o.tag && is_waited o.shard t.waiting) (SameDeed t) _ _
    (counted_phase lsid number o t t.phase) (refl, refl)

recovered_same : (number : ℤ) (seeking : Option Seeking) (known : List Tag) (o : Outcome)
    (old : Doing) → SameDoing old (tk.on_recovered number seeking known o).session.doing
recovered_same number None known o old = tt
recovered_same number (Some k) known o old =
    either (same_tag k.tag o.tag && nat_eq k.shard o.shard)
    (λ (d : Deed). SameDoing old d.session.doing) _ _ tt tt

pub ended_same : (o : Outcome) (lsid : Lsid) (number : ℤ) (doing : Doing)
    → SameDoing doing (ended_in o lsid (record { number = number; doing = doing })).session.doing
ended_same o lsid number (Begun t) = on_outcome_same lsid number o t
ended_same o lsid number (Sought seeking known) = recovered_same number seeking known o
    (Sought seeking known)

-- Ends.

client_phase : (lsid : Lsid) (number : ℤ) (asker : Asker) (t : Transaction) (p : Phase)
    → SameDeed (record t { phase = p }) (en.client_aborts lsid number asker
    (record t { phase = p }))
client_phase lsid number asker t (Aborted sent) = (refl, refl)
client_phase lsid number asker t Idle = (refl, refl)
client_phase lsid number asker t (Asking other op answers) = (refl, refl)
client_phase lsid number asker t (Checking other) = (refl, refl)
client_phase lsid number asker t (Deciding other) = (refl, refl)
client_phase lsid number asker t Committed = (refl, refl)
client_phase lsid number asker t Released = (refl, refl)

pub client_aborts_same : (lsid : Lsid) (number : ℤ) (asker : Asker) (t : Transaction)
    → SameDeed t (en.client_aborts lsid number asker t)
client_aborts_same lsid number asker t = client_phase lsid number asker t t.phase

pub session_same : (lsid : Lsid) (number : ℤ) (doing : Doing)
    → SameDoing doing (en.ends_session lsid (record {
      number = number;
      doing = doing;
    })).session.doing
session_same lsid number (Begun t) =
    either (is_none (asker_of (Begun t)) && not (commit_sent t.phase)) (SameDeed t)
    (en.ends lsid number 2 t) _ (refl, refl) (refl, refl)
session_same lsid number (Sought seeking known) = tt

gone_phase : (conn : ℕ) (lsid : Lsid) (number : ℤ) (t : Transaction) (p : Phase)
    → SameDeed (record t { phase = p }) (en.gone_asking conn lsid
    (record { number = number; doing = Begun (record t { phase = p }) }) (record t { phase = p }))
gone_phase conn lsid number t (Asking asker op answers) = (refl, refl)
gone_phase conn lsid number t (Checking asker) = (refl, refl)
gone_phase conn lsid number t (Deciding asker) = (refl, refl)
gone_phase conn lsid number t Idle = (refl, refl)
gone_phase conn lsid number t Committed = (refl, refl)
gone_phase conn lsid number t Released = (refl, refl)
gone_phase conn lsid number t (Aborted sent) = (refl, refl)

gone_doing : (conn : ℕ) (lsid : Lsid) (number : ℤ) (doing : Doing)
    → SameDoing doing (en.gone_in conn lsid (record {
      number = number;
      doing = doing;
    })).session.doing
gone_doing conn lsid number (Begun t) = gone_phase conn lsid number t t.phase
gone_doing conn lsid number (Sought seeking known) = tt

pub gone_same : (conn : ℕ) (lsid : Lsid) (s : Session)
    → SameDoing s.doing (en.gone_from conn lsid s).session.doing
gone_same conn lsid s =
    either (is_from conn (asker_of s.doing)) (λ (d : Deed). SameDoing s.doing d.session.doing) _ _
    (gone_doing conn lsid s.number s.doing) (same_self s.doing)

-- Tokens.

seeks_in_same : (lsid : Lsid) (number : ℤ) (asker : Asker) (k : Seeking) (seeking : Option Seeking)
    (known : List Tag) (old : Doing)
    → SameDoing old (tk.seeks_in lsid number asker k seeking known).session.doing
seeks_in_same lsid number asker k seeking known old =
    either (tk.is_known k.tag known) (λ (d : Deed). SameDoing old d.session.doing) _ _ tt
    (asks_for seeking)
  where
    asks_for : (older : Option Seeking)
        → SameDoing old (tk.asks_for lsid number k older known).session.doing
    asks_for None = tt
    asks_for (Some older) = either (tk.same_place older k)
        (λ (d : Deed). SameDoing old d.session.doing) _ _ tt tt

seeks_doing : (lsid : Lsid) (number own : ℤ) (asker : Asker) (k : Seeking) (doing : Doing)
    → SameDoing doing (tk.seeks_by lsid number asker k (Some
    (record { number = own; doing = doing }))).session.doing
seeks_doing lsid number own asker k (Begun t) =
    either (int_lt own number) (λ (d : Deed). SameDoing (Begun t) d.session.doing) _ _ tt
    (refl, refl)
seeks_doing lsid number own asker k (Sought seeking known) =
    either (int_lt own number) (λ (d : Deed). SameDoing (Sought seeking known) d.session.doing) _ _
    tt (seeks_in_same lsid number asker k seeking known (Sought seeking known))

pub seeks_same : (lsid : Lsid) (number : ℤ) (asker : Asker) (k : Seeking) (s : Session)
    → SameDoing s.doing (tk.seeks_by lsid number asker k (Some s)).session.doing
seeks_same lsid number asker k s = seeks_doing lsid number s.number asker k s.doing
