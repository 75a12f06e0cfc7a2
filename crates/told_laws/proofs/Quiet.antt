-- How a session's transaction goes on where none of its statements is asked or answered: it keeps
-- its tag and the place of
-- its newest statement, and an unanswered statement stays so, or the transaction is aborted.
use Rattle.std.proofs.Common.{◌≡◌, ◌&&◌, ℕ, ℤ, Bool, true, false, not, List, [], ◌∷◌, length}
use Rattle.std.proofs.Common.{nat_eq, int_lt, is_none, Option, Some, None, refl, sym, subst, ◌∙◌}
use Rattle.txn_types.specs.Order.{same_tag}
use Rattle.txn_types.specs.declared.decision.Told.{Told}
use Rattle.txn_types.specs.declared.decision.Told.TheVariants as told_as
use Rattle.txn_types.specs.declared.message.Outcome.{Outcome}
use Rattle.txn_types.specs.declared.names.Tag.{Tag}
use Rattle.txn_types.specs.declared.node.Lsid.{Lsid}
use Rattle.router_state.specs.declared.deed.Deed.{Deed}
use Rattle.router_state.specs.declared.state.Asker.{Asker}
use Rattle.router_state.specs.declared.state.Doing.{Doing}
use Rattle.router_state.specs.declared.state.Doing.TheVariants.{Begun, Sought}
use Rattle.router_state.specs.declared.state.Phase.{Phase}
use Rattle.router_state.specs.declared.state.Phase.TheVariants.{Idle, Asking, Checking, Deciding}
use Rattle.router_state.specs.declared.state.Phase.TheVariants.{Committed, Released, Aborted}
use Rattle.router_state.specs.declared.state.Seeking.{Seeking}
use Rattle.router_state.specs.declared.state.Session.{Session}
use Rattle.router_state.specs.declared.state.Transaction.{Transaction}
use Rattle.router_state.specs.State.{Post, asker_of, is_from, commit_sent, is_waited, without}
use Rattle.router_state.specs.Shards.{writers, readers}
use Rattle.router_rules.specs.Commits as co
use Rattle.router_rules.specs.Ends as en
use Rattle.router_rules.specs.Serving.{ended_in}
use Rattle.router_rules.specs.Tokens as tk
use Rattle.participant.proofs.Cases.{either}

-- nothing is asked, and it isn't known as aborted
abbrev pub IsSettled : Phase → Type 0
IsSettled Idle = Unit {0}
IsSettled (Asking asker op answers) = ⊥
IsSettled (Checking asker) = Unit {0}
IsSettled (Deciding asker) = Unit {0}
IsSettled Committed = Unit {0}
IsSettled Released = Unit {0}
IsSettled (Aborted sent) = ⊥

-- nothing is asked
abbrev pub IsOver : Phase → Type 0
IsOver (Asking asker op answers) = ⊥
IsOver other = Unit {0}

abbrev pub QuietPhase : Transaction → Transaction → Phase → Type 0
QuietPhase t v Idle = IsSettled t.phase
QuietPhase t v (Asking asker op answers) = (t.phase ≡ Asking asker op answers) ×
    (v.waiting ≡ t.waiting)
QuietPhase t v (Checking asker) = IsSettled t.phase
QuietPhase t v (Deciding asker) = IsSettled t.phase
QuietPhase t v Committed = IsSettled t.phase
QuietPhase t v Released = IsSettled t.phase
QuietPhase t v (Aborted sent) = Unit {0}

pub record Quiet (t v : Transaction) : Type 0 where
  pub tag : v.tag ≡ t.tag
  pub k : v.k ≡ t.k
  pub phase : QuietPhase t v v.phase

abbrev pub QuietDoing : Doing → Doing → Type 0
QuietDoing old (Sought seeking known) = Unit {0}
QuietDoing (Begun t) (Begun v) = Quiet t v
QuietDoing (Sought seeking known) (Begun v) = ⊥

-- it is over, with this tag and place
pub record IsLeft (tag : Tag) (k : ℕ) (v : Transaction) : Type 0 where
  pub tag_is : v.tag ≡ tag
  pub k_is : v.k ≡ k
  pub over : IsOver v.phase

abbrev pub LeftDoing : Tag → ℕ → Doing → Type 0
LeftDoing tag k (Begun v) = IsLeft tag k v
LeftDoing tag k (Sought seeking known) = ⊥

abbrev pub LeavesIt : Tag → ℕ → Deed → Type 0
LeavesIt tag k d = LeftDoing tag k d.session.doing

-- What is settled may be left so.

settled_phase : (t v : Transaction) (p : Phase) → IsSettled t.phase → IsOver p → QuietPhase t v p
settled_phase t v Idle h k = h
settled_phase t v (Asking asker op answers) h k = absurd k
settled_phase t v (Checking asker) h k = h
settled_phase t v (Deciding asker) h k = h
settled_phase t v Committed h k = h
settled_phase t v Released h k = h
settled_phase t v (Aborted sent) h k = tt

settled_doing : (t : Transaction) (doing : Doing) → IsSettled t.phase → LeftDoing t.tag t.k doing
    → QuietDoing (Begun t) doing
settled_doing t (Begun v) h k =
    record { tag = k.tag_is; k = k.k_is; phase = settled_phase t v v.phase h k.over }
settled_doing t (Sought seeking known) h k = absurd k

self_phase : (t : Transaction) (p : Phase) → t.phase ≡ p → QuietPhase t t p
self_phase t Idle e = subst IsSettled (sym e) tt
self_phase t (Asking asker op answers) e = (e, refl)
self_phase t (Checking asker) e = subst IsSettled (sym e) tt
self_phase t (Deciding asker) e = subst IsSettled (sym e) tt
self_phase t Committed e = subst IsSettled (sym e) tt
self_phase t Released e = subst IsSettled (sym e) tt
self_phase t (Aborted sent) e = tt

pub quiet_self : (t : Transaction) → Quiet t t
quiet_self t = record { tag = refl; k = refl; phase = self_phase t t.phase refl }

pub doing_self : (doing : Doing) → QuietDoing doing doing
doing_self (Begun t) = quiet_self t
doing_self (Sought seeking known) = tt

settled_then : (t v : Transaction) (p : Phase) → v.phase ≡ p → IsSettled p → QuietPhase t v p
    → IsSettled t.phase
settled_then t v Idle e h k = k
settled_then t v (Asking asker op answers) e h k = absurd h
settled_then t v (Checking asker) e h k = k
settled_then t v (Deciding asker) e h k = k
settled_then t v Committed e h k = k
settled_then t v Released e h k = k
settled_then t v (Aborted sent) e h k = absurd h

then_phase : (t v w : Transaction) (p : Phase) → Quiet t v → QuietPhase v w p → QuietPhase t w p
then_phase t v w Idle h k = settled_then t v v.phase refl k h.phase
then_phase t v w (Asking asker op answers) h k =
    let m = subst (QuietPhase t v) k.0 h.phase in (m.0, k.1 ∙ m.1)
then_phase t v w (Checking asker) h k = settled_then t v v.phase refl k h.phase
then_phase t v w (Deciding asker) h k = settled_then t v v.phase refl k h.phase
then_phase t v w Committed h k = settled_then t v v.phase refl k h.phase
then_phase t v w Released h k = settled_then t v v.phase refl k h.phase
then_phase t v w (Aborted sent) h k = tt

quiet_then : (t v w : Transaction) → Quiet t v → Quiet v w → Quiet t w
quiet_then t v w h k =
    record { tag = k.tag ∙ h.tag; k = k.k ∙ h.k; phase = then_phase t v w w.phase h k.phase }

pub doing_then : (a b c : Doing) → QuietDoing a b → QuietDoing b c → QuietDoing a c
doing_then a b (Sought seeking known) h k = tt
doing_then (Begun t) (Begun v) (Begun w) h k = quiet_then t v w h k
doing_then (Sought seeking known) (Begun v) (Begun w) h k = absurd h
doing_then a (Sought seeking known) (Begun w) h k = absurd k

-- Commits leave a transaction over.

decides_by_left : (lsid : Lsid) (number : ℤ) (asker : Option Asker) (t : Transaction)
    (parts : List (ℕ × ℕ))
    → LeavesIt t.tag t.k (co.decides_by lsid number asker t parts)
decides_by_left lsid number asker t [] = record { tag_is = refl; k_is = refl; over = tt }
decides_by_left lsid number asker t (first ∷ []) = record { tag_is = refl; k_is = refl; over = tt }
decides_by_left lsid number asker t (first ∷ second ∷ more) = record
    { tag_is = refl; k_is = refl; over = tt }

decides_left : (lsid : Lsid) (number : ℤ) (asker : Option Asker) (t : Transaction)
    → LeavesIt t.tag t.k (co.decides lsid number asker t)
decides_left lsid number asker t = decides_by_left lsid number asker t (writers t)

commits_by_left : (lsid : Lsid) (number : ℤ) (asker : Option Asker) (t : Transaction)
    (parts : List (ℕ × ℕ))
    → LeavesIt t.tag t.k (co.commits_by lsid number asker t parts)
commits_by_left lsid number asker t [] = decides_left lsid number asker t
commits_by_left lsid number asker t (first ∷ more) = record
    { tag_is = refl; k_is = refl; over = tt }

pub commits_left : (lsid : Lsid) (number : ℤ) (asker : Option Asker) (t : Transaction)
    → LeavesIt t.tag t.k (co.commits lsid number asker t)
commits_left lsid number asker t = commits_by_left lsid number asker t (readers t)

abbrev QuietDeed : Transaction → Deed → Type 0
QuietDeed t d = QuietDoing (Begun t) d.session.doing

listens_quiet : (lsid : Lsid) (number : ℤ) (asker : Asker) (t : Transaction) → IsSettled t.phase
    → QuietDeed t (co.listens lsid number asker t)
listens_quiet lsid number asker t h =
    either (nat_eq (length t.waiting) 0) (QuietDeed t) (co.decides lsid number (Some asker) t) _
    (settled_doing t (co.decides lsid number (Some asker) t).session.doing h
    (decides_left lsid number (Some asker) t))
    (record { tag = refl; k = refl; phase = h })

commit_phase : (lsid : Lsid) (number : ℤ) (asker : Asker) (t : Transaction) (p : Phase)
    → QuietDeed (record t { phase = p }) (co.commit_asked lsid number asker
    (record t { phase = p }))
commit_phase lsid number asker t Idle =
    let v : Transaction = record t { phase = Idle } in
    settled_doing v (co.commits lsid number (Some asker) v).session.doing tt
    (commits_left lsid number (Some asker) v)
commit_phase lsid number asker t (Asking other op answers) = quiet_self
    (record t { phase = Asking other op answers })
commit_phase lsid number asker t (Checking other) = record { tag = refl; k = refl; phase = tt }
commit_phase lsid number asker t (Deciding other) = listens_quiet lsid number asker
    (record t { phase = Deciding other }) tt
commit_phase lsid number asker t Committed = record { tag = refl; k = refl; phase = tt }
commit_phase lsid number asker t Released = record { tag = refl; k = refl; phase = tt }
commit_phase lsid number asker t (Aborted sent) = quiet_self (record t { phase = Aborted sent })

pub commit_asked_quiet : (lsid : Lsid) (number : ℤ) (asker : Asker) (t : Transaction)
    → QuietDeed t (co.commit_asked lsid number asker t)
commit_asked_quiet lsid number asker t = commit_phase lsid number asker t t.phase

-- Outcomes.

released_quiet : (lsid : Lsid) (number : ℤ) (asker : Option Asker) (t : Transaction)
    (posts : List Post) → IsSettled t.phase
    → IsOver t.phase → QuietDeed t (co.released lsid number asker t posts)
released_quiet lsid number asker t [] h k =
    settled_doing t (co.decides lsid number asker t).session.doing h
    (decides_left lsid number asker t)
released_quiet lsid number asker t (post ∷ posts) h k =
    settled_doing t (Begun (record t { waiting = post ∷ posts })) h
    (record { tag_is = refl; k_is = refl; over = k })

checked_told : (lsid : Lsid) (number : ℤ) (asker : Option Asker) (o : Outcome) (t : Transaction)
    (x : Told) → IsSettled t.phase
    → IsOver t.phase → QuietDeed t (co.checked lsid number asker (record o { told = x }) t)
checked_told lsid number asker o t told_as.Released h k = released_quiet lsid number asker t
    (without o.shard t.waiting) h k
checked_told lsid number asker o t (told_as.Committed at) h k = record
    { tag = refl; k = refl; phase = h }
checked_told lsid number asker o t (told_as.Aborted cause) h k = record
    { tag = refl; k = refl; phase = tt }
checked_told lsid number asker o t (told_as.TooOld have) h k = record
    { tag = refl; k = refl; phase = tt }
checked_told lsid number asker o t told_as.NoTrace h k = record { tag = refl; k = refl; phase = tt }

decided_told : (lsid : Lsid) (number : ℤ) (asker : Option Asker) (o : Outcome) (t : Transaction)
    (x : Told) → IsSettled t.phase
    → QuietDeed t (co.decided lsid number asker (record o { told = x }) t)
decided_told lsid number asker o t told_as.Released h = record { tag = refl; k = refl; phase = h }
decided_told lsid number asker o t (told_as.Committed at) h = record
    { tag = refl; k = refl; phase = h }
decided_told lsid number asker o t (told_as.Aborted cause) h = record
    { tag = refl; k = refl; phase = tt }
decided_told lsid number asker o t (told_as.TooOld have) h = record
    { tag = refl; k = refl; phase = h }
decided_told lsid number asker o t told_as.NoTrace h = record { tag = refl; k = refl; phase = h }

counted_phase : (lsid : Lsid) (number : ℤ) (o : Outcome) (t : Transaction) (p : Phase)
    → QuietDeed (record t { phase = p }) (co.counted lsid number o (record t { phase = p }))
counted_phase lsid number o t (Checking asker) = checked_told lsid number asker o
    (record t { phase = Checking asker }) o.told tt tt
counted_phase lsid number o t (Deciding asker) = decided_told lsid number asker o
    (record t { phase = Deciding asker }) o.told tt
counted_phase lsid number o t Idle = quiet_self (record t { phase = Idle })
counted_phase lsid number o t (Asking asker op answers) = quiet_self
    (record t { phase = Asking asker op answers })
counted_phase lsid number o t Committed = quiet_self (record t { phase = Committed })
counted_phase lsid number o t Released = quiet_self (record t { phase = Released })
counted_phase lsid number o t (Aborted sent) = quiet_self (record t { phase = Aborted sent })

on_outcome_quiet : (lsid : Lsid) (number : ℤ) (o : Outcome) (t : Transaction)
    → QuietDeed t (co.on_outcome lsid number o t)
on_outcome_quiet lsid number o t =
    either (same_tag t.tag o.tag && is_waited o.shard t.waiting) (QuietDeed t) _ _
    (counted_phase lsid number o t t.phase) (quiet_self t)

recovered_quiet : (number : ℤ) (seeking : Option Seeking) (known : List Tag) (o : Outcome)
    (old : Doing)
    → QuietDoing old (tk.on_recovered number seeking known o).session.doing
recovered_quiet number None known o old = tt
recovered_quiet number (Some k) known o old =
    either (same_tag k.tag o.tag && nat_eq k.shard o.shard)
    (λ (d : Deed). QuietDoing old d.session.doing) _ _ tt tt

pub ended_quiet : (o : Outcome) (lsid : Lsid) (number : ℤ) (doing : Doing)
    → QuietDoing doing (ended_in o lsid (record { number = number; doing = doing })).session.doing
ended_quiet o lsid number (Begun t) = on_outcome_quiet lsid number o t
ended_quiet o lsid number (Sought seeking known) = recovered_quiet number seeking known o
    (Sought seeking known)

-- Ends.

client_phase : (lsid : Lsid) (number : ℤ) (asker : Asker) (t : Transaction) (p : Phase)
    → QuietDeed (record t { phase = p }) (en.client_aborts lsid number asker
    (record t { phase = p }))
client_phase lsid number asker t (Aborted sent) = quiet_self (record t { phase = Aborted sent })
client_phase lsid number asker t Idle = record { tag = refl; k = refl; phase = tt }
client_phase lsid number asker t (Asking other op answers) = record
    { tag = refl; k = refl; phase = tt }
client_phase lsid number asker t (Checking other) = record { tag = refl; k = refl; phase = tt }
client_phase lsid number asker t (Deciding other) = record { tag = refl; k = refl; phase = tt }
client_phase lsid number asker t Committed = record { tag = refl; k = refl; phase = tt }
client_phase lsid number asker t Released = record { tag = refl; k = refl; phase = tt }

pub client_aborts_quiet : (lsid : Lsid) (number : ℤ) (asker : Asker) (t : Transaction)
    → QuietDeed t (en.client_aborts lsid number asker t)
client_aborts_quiet lsid number asker t = client_phase lsid number asker t t.phase

pub session_quiet : (lsid : Lsid) (number : ℤ) (doing : Doing)
    → QuietDoing doing (en.ends_session lsid (record {
      number = number;
      doing = doing;
    })).session.doing
session_quiet lsid number (Begun t) =
    either (is_none (asker_of (Begun t)) && not (commit_sent t.phase)) (QuietDeed t)
    (en.ends lsid number 2 t) _
    (record { tag = refl; k = refl; phase = tt }) (quiet_self t)
session_quiet lsid number (Sought seeking known) = tt

-- The end of a connection: no statement of it is asked any more.

abbrev pub NotFrom : ℕ → Phase → Type 0
NotFrom conn (Asking asker op answers) = nat_eq asker.conn conn ≡ false
NotFrom conn other = Unit {0}

abbrev pub DoingNotFrom : ℕ → Doing → Type 0
DoingNotFrom conn (Begun t) = NotFrom conn t.phase
DoingNotFrom conn (Sought seeking known) = Unit {0}

abbrev GoneDoing : ℕ → Doing → Doing → Type 0
GoneDoing conn old new = QuietDoing old new × DoingNotFrom conn new

abbrev GoneDeed : ℕ → Transaction → Deed → Type 0
GoneDeed conn t d = GoneDoing conn (Begun t) d.session.doing

gone_phase : (conn : ℕ) (lsid : Lsid) (number : ℤ) (t : Transaction) (p : Phase)
    → GoneDeed conn (record t { phase = p }) (en.gone_asking conn lsid
    (record { number = number; doing = Begun (record t { phase = p }) }) (record t { phase = p }))
gone_phase conn lsid number t (Asking asker op answers) =
    (record { tag = refl; k = refl; phase = tt }, tt)
gone_phase conn lsid number t (Checking asker) = (record { tag = refl; k = refl; phase = tt }, tt)
gone_phase conn lsid number t (Deciding asker) = (record { tag = refl; k = refl; phase = tt }, tt)
gone_phase conn lsid number t Idle = (quiet_self (record t { phase = Idle }), tt)
gone_phase conn lsid number t Committed = (quiet_self (record t { phase = Committed }), tt)
gone_phase conn lsid number t Released = (quiet_self (record t { phase = Released }), tt)
gone_phase conn lsid number t (Aborted sent) = (quiet_self (record t { phase = Aborted sent }), tt)

gone_doing : (conn : ℕ) (lsid : Lsid) (number : ℤ) (doing : Doing)
    → GoneDoing conn doing (en.gone_in conn lsid (record {
      number = number;
      doing = doing;
    })).session.doing
gone_doing conn lsid number (Begun t) = gone_phase conn lsid number t t.phase
gone_doing conn lsid number (Sought seeking known) = (tt, tt)

not_from : (conn : ℕ) (t : Transaction) (p : Phase)
    → is_from conn (asker_of (Begun (record t { phase = p }))) ≡ false → NotFrom conn p
not_from conn t (Asking asker op answers) e = e
not_from conn t Idle e = tt
not_from conn t (Checking asker) e = tt
not_from conn t (Deciding asker) e = tt
not_from conn t Committed e = tt
not_from conn t Released e = tt
not_from conn t (Aborted sent) e = tt

doing_not_from : (conn : ℕ) (doing : Doing) → is_from conn (asker_of doing) ≡ false
    → DoingNotFrom conn doing
doing_not_from conn (Begun t) e = not_from conn t t.phase e
doing_not_from conn (Sought seeking known) e = tt

gone_case : (conn : ℕ) (lsid : Lsid) (s : Session) (test : Bool)
    → is_from conn (asker_of s.doing) ≡ test
    → GoneDoing conn s.doing (en.gone_from conn lsid s).session.doing
gone_case conn lsid s true e = rw e (gone_doing conn lsid s.number s.doing)
gone_case conn lsid s false e = rw e (doing_self s.doing, doing_not_from conn s.doing e)

pub gone_quiet : (conn : ℕ) (lsid : Lsid) (s : Session)
    → GoneDoing conn s.doing (en.gone_from conn lsid s).session.doing
gone_quiet conn lsid s = gone_case conn lsid s (is_from conn (asker_of s.doing)) refl

-- Tokens.

seeks_in_quiet : (lsid : Lsid) (number : ℤ) (asker : Asker) (k : Seeking) (seeking : Option Seeking)
    (known : List Tag) (old : Doing)
    → QuietDoing old (tk.seeks_in lsid number asker k seeking known).session.doing
seeks_in_quiet lsid number asker k seeking known old =
    either (tk.is_known k.tag known) (λ (d : Deed). QuietDoing old d.session.doing) _ _ tt
    (asks_for seeking)
  where
    asks_for : (older : Option Seeking) → QuietDoing old (tk.asks_for lsid number k older
        known).session.doing
    asks_for None = tt
    asks_for (Some older) = either (tk.same_place older k)
        (λ (d : Deed). QuietDoing old d.session.doing) _ _ tt tt

seeks_doing : (lsid : Lsid) (number own : ℤ) (asker : Asker) (k : Seeking) (doing : Doing)
    → QuietDoing doing (tk.seeks_by lsid number asker k (Some
    (record { number = own; doing = doing }))).session.doing
seeks_doing lsid number own asker k (Begun t) =
    either (int_lt own number) (λ (d : Deed). QuietDoing (Begun t) d.session.doing) _ _ tt
    (quiet_self t)
seeks_doing lsid number own asker k (Sought seeking known) =
    either (int_lt own number) (λ (d : Deed). QuietDoing (Sought seeking known) d.session.doing) _ _
    tt
    (seeks_in_quiet lsid number asker k seeking known (Sought seeking known))

pub seeks_quiet : (lsid : Lsid) (number : ℤ) (asker : Asker) (k : Seeking) (s : Session)
    → QuietDoing s.doing (tk.seeks_by lsid number asker k (Some s)).session.doing
seeks_quiet lsid number asker k s = seeks_doing lsid number s.number asker k s.doing
