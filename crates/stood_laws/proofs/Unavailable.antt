-- A boot that a message names and that isn't the shard's is one that its journal has before.
use Rattle.std.proofs.Common.{◌≡◌, ◌≢◌, ◌⊎◌, inl, inr, ◌<◌, ◌≤◌, ◌++◌, ◌<ℤ◌, ℕ, zero, suc, ℤ}
use Rattle.std.proofs.Common.{[], ◌∷◌, All, Contains, Some, IfSome}
use Rattle.std.proofs.Common.{ap, subst, ◌∙◌, sym, arith, filter_map, slice_get}
use Rattle.std.proofs.lemmas.List.Elements.{All-contains}
use Rattle.txn_types.specs.Letters.{Named, named_in}
use Rattle.txn_types.specs.declared.cause.Cause.TheVariants as cause
use Rattle.txn_types.specs.declared.event.Happening.TheVariants as what
use Rattle.txn_types.specs.declared.message.Commit.{Commit}
use Rattle.txn_types.specs.declared.message.Envelope.{Envelope}
use Rattle.txn_types.specs.declared.message.Msg.{Msg}
use Rattle.txn_types.specs.declared.message.Msg.TheVariants as msg
use Rattle.txn_types.specs.declared.message.Recover.{Recover}
use Rattle.txn_types.specs.declared.message.Statement.{Statement}
use Rattle.txn_types.specs.declared.names.Tag.{Tag}
use Rattle.txn_types.specs.declared.node.Lsid.{Lsid}
use Rattle.txn_types.specs.declared.node.NodeId.{NodeId}
use Rattle.txn_types.specs.declared.node.NodeId.TheVariants.{Shard}
use Rattle.session_table.specs.declared.session.Session.{Session}
use Rattle.participant.specs.Expiry.{expire}
use Rattle.participant.specs.Part.{Part, session}
use Rattle.txn_semantics.specs.Keyed.{Rises}
use Rattle.txn_types.specs.Order.{lsid_cmp}
use Rattle.shard_core.specs.Core.{entered}
use Rattle.shard_core.specs.State.{ShardState, met}
use Rattle.cluster_core.specs.Causes.{Past, Making, Stood, boot_in}
use Rattle.cluster_core.specs.Nodes.{Nodes}
use Rattle.cluster_core.specs.Parts.{HasCome}
use Rattle.cluster_core.specs.Trace.{MayCome}
use Rattle.known_laws.specs.Known.{Known, EnvKnown, KnownTo, Tells}
use Rattle.one_shard_laws.specs.Sessions.{IsOnce, name_of}
use Rattle.one_shard_laws.specs.Lasting.{WasNamed}
use Rattle.one_shard_laws.proofs.Behind.{sent_named}
use Rattle.one_shard_laws.proofs.Sessions.{expire_goes}
use Rattle.stood_laws.specs.Because.{Because, CommitBecause, RecoverBecause, NamesOther}
use Rattle.stood_laws.specs.Because.{IsElsewhere}
use Rattle.stood_laws.specs.Ruled.{NamesEarlier}
use Rattle.stood_laws.proofs.Boots.{counted, counted_has, Counts}
use Rattle.stood_laws.proofs.Conflicts.{one_some}
use Rattle.stood_laws.proofs.Expiring.{expire_for}

-- an earlier boot than the shard's is in its journal, before it
pub boot_stood : (past : Past) (m : Making) (carried have : ℕ) → Counts m.before
    → have ≡ m.before.core.part.boot → 0 < carried → carried < m.before.core.part.boot
    → Stood past m (cause.Unavailable carried have)
boot_stood past m carried have counts is some below =
    by_boot m.before.core.part.boot counts is below
  where
    by_boot : (boot : ℕ) → filter_map boot_in m.before.records ≡ counted boot → have ≡ boot
        → carried < boot → Stood past m (cause.Unavailable carried have)
    by_boot zero all is below = absurd (omega (arith, below))
    by_boot (suc n) all is below = (
      counted n,
      all ∙ ap (λ (b : ℕ). counted n ++ b ∷ []) (sym is),
      counted_has n carried some (omega (arith, below)),
    )

-- what has come before the event's wall is there after it
come_entered : (p : Part) (wall : ℕ) (lsid : Lsid) (number : ℤ) (tag : Tag)
    → Rises lsid_cmp p.live → HasCome p lsid number tag → HasCome (expire p wall) lsid number tag
come_entered p wall lsid number tag rises h =
    let goes = expire_goes (λ (n : Named). Unit {0}) p wall in
    let new = goes.sessions.numbers lsid h.0 h.1 in
    let e = expire_for p wall rises lsid new.0 new.1 in
    let old = e.1 in
    let same : e.0 ≡ h.0 = one_some e.0 h.0 (sym old.was ∙ h.1) in (
      new.0,
      new.1,
      by_case new.0 (old.number ∙ ap (λ (s : Session). s.number) same)
          (old.tag ∙ ap (λ (s : Session). s.tag) same) h.2,
    )
  where
    by_case : (a : Session) → a.number ≡ h.0.number → a.tag ≡ h.0.tag
        → ((h.0.tag ≡ tag) ⊎ (number <ℤ h.0.number)) → ((a.tag ≡ tag) ⊎ (number <ℤ a.number))
    by_case a n t (inl same) = inl (t ∙ same)
    by_case a n t (inr above) = inr (subst (λ (x : ℤ). number <ℤ x) (sym n) above)

not_both : (a b : ℤ) → a <ℤ b → b <ℤ a → ⊥
not_both a b h k = grind (arith, h, k)

not_self : (a b : ℤ) → a <ℤ b → a ≡ b → ⊥
not_self a b h k = grind (arith, h, k)

below_boot : (a b : ℕ) → a ≤ b → (a ≡ b → ⊥) → a < b
below_boot a b h k = elim (last_or a b h) [ inl l ↦ l | inr e ↦ absurd (k e) ]
  where
    last_or : (a b : ℕ) → a ≤ b → (a < b) ⊎ (a ≡ b)
    last_or a b h = grind (arith, h)

-- A step at which a message comes to the shard.
module _ (past : Past) (m : Making) (nodes : Nodes) (shard : ℕ)
    (there : slice_get nodes.shards shard ≡ Some m.before) (counts : Counts m.before)
    (rises : Rises lsid_cmp m.before.core.part.live) (once : IsOnce (WasNamed nodes.sent))
    (named : (lsid : Lsid) (s : Session) → session m.before.core.part lsid ≡ Some s
    → WasNamed nodes.sent (name_of lsid s))
    (known : All (EnvKnown (Known nodes) (Tells nodes)) nodes.sent)
    (d : Envelope) (is : m.event.what ≡ what.Deliver d)
    (comes : MayCome nodes.sent (Shard shard) m.event.what) where
  abbrev s : ShardState
  s = met (entered m.before.core m.event) d

  abbrev p : Part
  p = s.part

  came : Contains nodes.sent d × (d.to ≡ Shard shard)
  came = subst (MayCome nodes.sent (Shard shard)) is comes

  same_boot : p.boot ≡ m.before.core.part.boot
  same_boot = (expire_goes (λ (n : Named). Unit {0}) m.before.core.part s.wall).boot

  known_to : KnownTo (Known nodes) (Tells nodes) (Shard shard) d.msg
  known_to = subst (λ (to : NodeId). KnownTo (Known nodes) (Tells nodes) to d.msg) came.1
      (All-contains (EnvKnown (Known nodes) (Tells nodes)) nodes.sent d known came.0)

  -- a boot that a message names for this transaction
  behind : (boot : ℕ) (lsid : Lsid) (number : ℤ) (tag : Tag) → 0 < boot
      → Known nodes shard boot (record { tag = tag; lsid = lsid; number = number })
      → (boot ≤ m.before.core.part.boot) × (boot ≡ m.before.core.part.boot
      → HasCome m.before.core.part lsid number tag)
  behind boot lsid number tag some (inl none) = absurd (omega (arith, some, none))
  behind boot lsid number tag some (inr k) = k.1 m.before there

  -- the transaction that has come is there when its message is met
  has_come : (lsid : Lsid) (number : ℤ) (tag : Tag) → HasCome m.before.core.part lsid number tag
      → HasCome p lsid number tag
  has_come lsid number tag h = come_entered m.before.core.part s.wall lsid number tag rises h

  named_there : (lsid : Lsid) (x : Session) → session p lsid ≡ Some x
      → WasNamed nodes.sent (name_of lsid x)
  named_there lsid x at =
      let e = expire_for m.before.core.part s.wall rises lsid x at in
      let old = e.1 in
      subst (λ (n : ℤ). WasNamed nodes.sent (record { tag = x.tag; lsid = lsid; number = n }))
      (sym old.number)
      (subst (λ (t : Tag). WasNamed nodes.sent (record {
        tag = t;
        lsid = lsid;
        number = e.0.number;
      })) (sym old.tag) (named lsid e.0 old.was))

  statement_behind : (x : Statement) → d.msg ≡ msg.Statement x → 0 < x.boot → NamesOther p x
      → x.boot < m.before.core.part.boot
  statement_behind x at some other =
      let k = behind x.boot x.lsid x.number x.tag some
      (subst (KnownTo (Known nodes) (Tells nodes) (Shard shard)) at known_to) in
      below_boot x.boot m.before.core.part.boot k.0 (λ e. apart other e (k.1 e))
    where
      name : WasNamed nodes.sent (record { tag = x.tag; lsid = x.lsid; number = x.number })
      name = subst (λ (y : Msg). IfSome (named_in y) (WasNamed nodes.sent)) at
          (sent_named nodes.sent d came.0)

      apart : NamesOther p x → x.boot ≡ m.before.core.part.boot
          → HasCome m.before.core.part x.lsid x.number x.tag → ⊥
      apart (inr after) e h = after.0 (e ∙ sym same_boot)
      apart (inl (positive, newer)) e h =
          let c = has_come x.lsid x.number x.tag h in
          by_come c (newer c.0 c.1)
        where
          by_come : (c : HasCome p x.lsid x.number x.tag) → c.0.number <ℤ x.number → ⊥
          by_come c less = elim (c.2) [
            | inl tag ↦ not_self c.0.number x.number less
                (once (name_of x.lsid c.0)
                (record { tag = x.tag; lsid = x.lsid; number = x.number })
                (named_there x.lsid c.0 c.1) name tag).1
            | inr above ↦ not_both c.0.number x.number less above
          ]

  commit_behind : (x : Commit) → d.msg ≡ msg.Commit x → 0 < x.boot
      → ((x.boot ≢ p.boot) ⊎ IsElsewhere p x) → x.boot < m.before.core.part.boot
  commit_behind x at some other =
      let k = behind x.boot x.lsid x.number x.tag some
      (subst (KnownTo (Known nodes) (Tells nodes) (Shard shard)) at known_to) in
      below_boot x.boot m.before.core.part.boot k.0 (λ e. apart other e (k.1 e))
    where
      apart : ((x.boot ≢ p.boot) ⊎ IsElsewhere p x) → x.boot ≡ m.before.core.part.boot
          → HasCome m.before.core.part x.lsid x.number x.tag → ⊥
      apart (inl other) e h = other (e ∙ sym same_boot)
      apart (inr elsewhere) e h =
          let c = has_come x.lsid x.number x.tag h in
          let far = elsewhere c.0 c.1 in
          elim (c.2) [ inl tag ↦ far.0 tag | inr above ↦ far.1 above ]

  pub statement_boot : (x : Statement) → d.msg ≡ msg.Statement x → (NamesOther p x → 0 < x.boot)
      → (carried have : ℕ) → Because p s.clock.last x (cause.Unavailable carried have)
      → Stood past m (cause.Unavailable carried have)
  statement_boot x at some carried have h =
      let below = statement_behind x at (some h.2) h.2 in
      let positive = some h.2 in
      boot_stood past m carried have counts (h.1 ∙ same_boot)
      (subst (λ (n : ℕ). 0 < n) (sym h.0) positive)
      (subst (λ (n : ℕ). n < m.before.core.part.boot) (sym h.0) below)

  pub commit_boot : (x : Commit) → d.msg ≡ msg.Commit x → 0 < x.boot → (carried have : ℕ)
      → CommitBecause p s.clock.last x (cause.Unavailable carried have)
      → Stood past m (cause.Unavailable carried have)
  commit_boot x at some carried have h =
      boot_stood past m carried have counts (h.1 ∙ same_boot)
      (subst (λ (n : ℕ). 0 < n) (sym h.0) some)
      (subst (λ (n : ℕ). n < m.before.core.part.boot) (sym h.0) (commit_behind x at some h.2))

  pub recover_boot : (x : Recover) → NamesEarlier m.before.core.part.boot x → (carried have : ℕ)
      → RecoverBecause p x (cause.Unavailable carried have)
      → Stood past m (cause.Unavailable carried have)
  recover_boot x earlier carried have h =
      boot_stood past m carried have counts (h.1 ∙ same_boot)
      (subst (λ (n : ℕ). 0 < n) (sym h.0) earlier.0)
      (subst (λ (n : ℕ). n < m.before.core.part.boot) (sym h.0)
      (below_boot x.boot m.before.core.part.boot earlier.1 (λ e. h.2 (e ∙ sym same_boot))))
