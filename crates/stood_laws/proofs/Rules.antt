-- What stands at the part of a shard that makes a cause, cause by cause.
use Rattle.std.proofs.Common.{◌≡◌, ◌≢◌, ◌⊎◌, inl, inr, ◌<◌, ◌+◌, ◌-◌, ◌<ℤ◌, ℕ, ℤ, true, false}
use Rattle.std.proofs.Common.{refl, ap, subst, ◌∙◌, sym, arith}
use Rattle.txn_types.specs.Order.{lsid_cmp}
use Rattle.txn_types.specs.declared.cause.By.TheVariants as by
use Rattle.txn_types.specs.declared.cause.Cause.{Cause}
use Rattle.txn_types.specs.declared.cause.Cause.TheVariants as cause
use Rattle.txn_types.specs.declared.event.Happening.TheVariants as what
use Rattle.txn_types.specs.declared.message.Abort.{Abort}
use Rattle.txn_types.specs.declared.message.Commit.{Commit}
use Rattle.txn_types.specs.declared.message.Envelope.{Envelope}
use Rattle.txn_types.specs.declared.message.Msg.{Msg}
use Rattle.txn_types.specs.declared.message.Msg.TheVariants as msg
use Rattle.txn_types.specs.declared.message.Recover.{Recover}
use Rattle.txn_types.specs.declared.message.Statement.{Statement}
use Rattle.txn_semantics.specs.Keyed.{Rises}
use Rattle.session_table.specs.Sessions.{is_full}
use Rattle.session_table.specs.declared.session.Session.{Session}
use Rattle.participant.specs.Part.{Part, session}
use Rattle.shard_core.specs.State.{ShardState, met}
use Rattle.shard_core.specs.Core.{entered}
use Rattle.cluster_core.specs.Causes.{Past, Making, Stood, met_at, core_at, part_at}
use Rattle.cluster_core.specs.Causes.{has_version}
use Rattle.stood_laws.specs.Because.{Because, CommitBecause, RecoverBecause, MsgBecause}
use Rattle.stood_laws.specs.Because.{moment_of}
use Rattle.stood_laws.specs.Ruled.{is_ruled}
use Rattle.participant.specs.Stands.{mine}
use Rattle.stood_laws.proofs.Conflicts.{conflict_has_version}
use Rattle.stood_laws.proofs.Expiring.{expire_for}
use Rattle.stood_laws.proofs.Standing.{IsOfMaking, ByRule, ByWall}

-- the wall
pub wall_stood : (past : Past) (m : Making) (why : Cause) → ByWall m why → Stood past m why
wall_stood past m (cause.Expired begun now) h =
    let x = h.1 in
    (x.0, x.1, x.2, x.3, h.0, above begun now (entered m.before.core m.event).wall h.0 x.4)
  where
    above : (begun now wall : ℕ) → now ≡ wall → 60 < wall - begun → begun + 60 < now
    above begun now wall is old = omega (arith, is, old)
wall_stood past m other h = absurd h

-- a rule
module _ (past : Past) (m : Making) (rises : Rises lsid_cmp m.before.core.part.live)
    (d : Envelope) (is : m.event.what ≡ what.Deliver d) where
  abbrev s : ShardState
  s = met (entered m.before.core m.event) d

  core_is : core_at m ≡ s
  core_is = ap (met_at (entered m.before.core m.event)) is

  abbrev p : Part
  p = s.part

  part_is : part_at m ≡ p
  part_is = ap (λ (x : ShardState). x.part) core_is

  statement_stood : (x : Statement) → d.msg ≡ msg.Statement x
      → (x.tag ≡ m.tag) × (x.lsid ≡ m.lsid) × (x.number ≡ m.number) → (why : Cause)
      → is_ruled why ≡ true → Because p s.clock.last x why → Stood past m why
  statement_stood x at of (cause.Replaced number other) ruled h =
      let e = expire_for m.before.core.part s.wall rises x.lsid h.0 h.1 in
      let old : Session = e.0 in
      let before = e.1 in (
        old,
        inl (ap (session m.before.core.part) (sym of.1) ∙ before.was),
        sym before.number ∙ h.2,
        sym before.tag ∙ h.3,
        larger h.4,
      )
    where
      larger : ((x.number <ℤ number) ⊎ ((x.number ≡ number) × (other ≢ x.tag)))
          → ((m.number <ℤ number) ⊎ ((m.number ≡ number) × (other ≢ m.tag)))
      larger (inl below) = inl (subst (λ (n : ℤ). n <ℤ number) of.2 below)
      larger (inr same) = inr (sym of.2 ∙ same.0, λ e. same.1 (e ∙ sym of.0))
  statement_stood x at of (cause.PreparedStands other) ruled h = (
    h.0,
    ap (λ (q : Part). session q m.lsid) part_is ∙ ap (session p) (sym of.1) ∙ h.1,
    h.2,
    h.3,
  )
  statement_stood x at of cause.TooManySessions ruled h = (
    ap (λ (q : Part). is_full q.sessions) part_is ∙ h.0,
    ap (λ (q : Part). session q m.lsid) part_is ∙ ap (session p) (sym of.1) ∙ h.1,
  )
  statement_stood x at of (cause.WriteConflict id (by.Tag other)) ruled h =
      subst (λ (q : Part). has_version id other q.store ≡ true) (sym part_is)
      (conflict_has_version p.store (moment_of s.clock.last x (mine p x)) x.tag h.1 id other h.3)
  statement_stood x at of (cause.WriteConflict id (by.At time)) ruled h = cc
  statement_stood x at of (cause.Unavailable carried have) ruled h = cc
  statement_stood x at of (cause.Statement err) ruled h = cc
  statement_stood x at of (cause.Volume bytes) ruled h = cc
  statement_stood x at of other ruled h = absurd h

  commit_stood : (x : Commit) → (why : Cause) → is_ruled why ≡ true
      → CommitBecause p s.clock.last x why → Stood past m why
  commit_stood x (cause.ClockEnd last) ruled h = (
    ap (λ (q : ShardState). q.clock.last) core_is ∙ sym h.0,
    h.0 ∙ h.1,
  )
  commit_stood x (cause.Unavailable carried have) ruled h = cc
  commit_stood x other ruled h = absurd h

  recover_stood : (x : Recover) (why : Cause) → is_ruled why ≡ true → RecoverBecause p x why
      → Stood past m why
  recover_stood x (cause.Unavailable carried have) ruled h = cc
  recover_stood x (cause.ClientAbort why) ruled h = cc
  recover_stood x other ruled h = absurd h

  abort_stood : (x : Abort) (why : Cause) → is_ruled why ≡ true → why ≡ cause.ClientAbort x.why
      → Stood past m why
  abort_stood x why ruled h = let wrong : false ≡ true = sym (ap is_ruled h) ∙ ruled in cc

  msg_stood : (x : Msg) → d.msg ≡ x → IsOfMaking m x → (why : Cause) → is_ruled why ≡ true
      → MsgBecause s x why → Stood past m why
  msg_stood (msg.Statement x) at of why ruled h = statement_stood x at of why ruled h
  msg_stood (msg.Commit x) at of why ruled h = commit_stood x why ruled h
  msg_stood (msg.Abort x) at of why ruled h = abort_stood x why ruled h
  msg_stood (msg.Recover x) at of why ruled h = recover_stood x why ruled h
  msg_stood (msg.Answer x) at of why ruled h = absurd h
  msg_stood (msg.Outcome x) at of why ruled h = absurd h
  msg_stood (msg.CommitTwo x) at of why ruled h = absurd h
  msg_stood (msg.Prepare x) at of why ruled h = absurd h
  msg_stood (msg.Vote x) at of why ruled h = absurd h
  msg_stood (msg.Decide x) at of why ruled h = absurd h
  msg_stood (msg.Acked x) at of why ruled h = absurd h
  msg_stood msg.Nudge at of why ruled h = absurd h

pub rule_stood : (past : Past) (m : Making) (why : Cause) → is_ruled why ≡ true
    → Rises lsid_cmp m.before.core.part.live → ByRule m why → Stood past m why
rule_stood past m why ruled rises h =
    msg_stood past m rises h.0 h.1 h.0.msg refl h.2 why ruled h.3
