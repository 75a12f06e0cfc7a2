-- On one shard no vote ends a transaction: none of its sessions is aborted by one.
use Rattle.std.proofs.Common.{◌≡◌, inl, inr, ◌++◌, ℕ, List, [], ◌∷◌, All, Option, Some, None}
use Rattle.std.proofs.Common.{refl, ap, subst, sym, slice_get}
use Rattle.std.proofs.lemmas.List.Elements.{All-nil, All-head, All-tail}
use Rattle.txn_types.specs.Letters.{Named}
use Rattle.txn_types.specs.declared.cause.Cause.TheVariants as cause
use Rattle.txn_types.specs.declared.event.NodeAnswer.{NodeAnswer}
use Rattle.txn_types.specs.declared.event.NodeEvent.{NodeEvent}
use Rattle.txn_types.specs.declared.message.Msg.{Msg}
use Rattle.txn_types.specs.declared.message.Msg.TheVariants as msg
use Rattle.txn_types.specs.declared.names.Tag.{Tag}
use Rattle.txn_types.specs.declared.node.Lsid.{Lsid}
use Rattle.txn_types.specs.declared.node.NodeId.TheVariants.{Shard, Router}
use Rattle.session_table.specs.declared.session.Session.{Session}
use Rattle.session_table.specs.declared.session.SessionState.{SessionState}
use Rattle.session_table.specs.declared.session.SessionState.TheVariants as state
use Rattle.journal_rec.specs.declared.record.Rec.{Rec}
use Rattle.journal_rec.specs.declared.record.Rec.TheVariants as rec
use Rattle.participant.specs.Part.{Part, session}
use Rattle.shard_image.specs.Image.{Image, empty_image, image_of, with_record, with_records}
use Rattle.shard_core.specs.State.{ShardState, met}
use Rattle.shard_core.specs.Core.{core_step, entered}
use Rattle.shard_core.specs.NodeStep.{NodeState, ShardTakes, started, node_of, boot_behind}
use Rattle.chunk_map.specs.Map.{Map}
use Rattle.txn_model.specs.declared.ran.Ran.{Ran}
use Rattle.txn_model.specs.declared.ran.Ran.TheVariants.{Step, Swapped}
use Rattle.cluster_core.specs.Nodes.{Nodes}
use Rattle.cluster_core.specs.Trace.{Happens, IsTrace, ShardSteps}
use Rattle.world_laws.specs.Clocks.{EachShard}
use Rattle.world_laws.specs.Joint.{Stands}
use Rattle.world_laws.proofs.Clocks.{each_set, each_same, started_is}
use Rattle.world_laws.proofs.Joint.{stands_step}
use Rattle.world_laws.proofs.Lists.{set_at}
use Rattle.known_laws.proofs.Sessions.{entries_put, entry_named}
use Rattle.one_shard_laws.specs.Alone.{RecAlone}
use Rattle.one_shard_laws.specs.Concluding.{StartsAlone}
use Rattle.one_shard_laws.specs.Lasting.{WasNamed, OneShard, HasRun, commits_by}
use Rattle.one_shard_laws.proofs.Joint.{one_shard_first, one_shard_step}
use Rattle.stood_laws.specs.Because.{MsgBecause, EndsAt}
use Rattle.stood_laws.proofs.Standing.{only, stands_alone, comes_alone}
use Rattle.stood_laws.proofs.Stepping.{step_for, stopped_for}

abbrev pub Unvoted : Part → Type 0
Unvoted p = (lsid : Lsid) (s : Session) (voter code read_at : ℕ) → session p lsid ≡ Some s
    → s.state ≡ state.Aborted (cause.Voted voter code) read_at → ⊥

-- A start: the records of a shard that commits alone leave no session aborted.

abbrev IsUnended : SessionState → Type 0
IsUnended (state.Aborted why read_at) = ⊥
IsUnended other = Unit {0}

abbrev Entry : Lsid × Session → Type 0
Entry entry = IsUnended entry.1.state

module _ (P : Named → Type 0) where
  behind_record : (i : Image) (r : Rec) → RecAlone P r → All Entry i.sessions.entries
      → All Entry (with_record i r).sessions.entries
  behind_record i (rec.Boot boot) alone h = h
  behind_record i (rec.Ceiling bound) alone h = h
  behind_record i (rec.Commit tag lsid number read_at at writes) alone h =
      entries_put Entry lsid _ i.sessions.entries tt h
  behind_record i (rec.Prepared tag lsid number boot read_at at coordinator writes) alone h =
      absurd alone
  behind_record i (rec.Decided d) alone h = absurd alone
  behind_record i (rec.CoordStart tag lsid number parts) alone h = absurd alone
  behind_record i (rec.CoordDecision tag d) alone h = absurd alone
  behind_record i (rec.CoordEnd tag) alone h = absurd alone
  behind_record i (rec.Floor floor) alone h = absurd alone

  behind_records : (recs : List Rec) (i : Image) → All (RecAlone P) recs
      → All Entry i.sessions.entries → All Entry (with_records i recs).sessions.entries
  behind_records [] i alone h = h
  behind_records (r ∷ recs) i alone h =
      behind_records recs (with_record i r) (All-tail (RecAlone P) r recs alone)
      (behind_record i r (All-head (RecAlone P) r recs alone) h)

  of_image : (recs : List Rec) → All (RecAlone P) recs → All Entry (image_of recs).sessions.entries
  unfolding image_of
  of_image recs alone = behind_records recs empty_image alone (All-nil Entry)

  of_node : (shard : ℕ) (recs : List Rec) (faults : ℕ) → All (RecAlone P) recs
      → Unvoted (node_of shard recs faults).core.part
  of_node shard recs faults alone lsid s voter code read_at there ended =
      subst IsUnended ended
      (entry_named Entry lsid (node_of shard recs faults).core.part.sessions.entries
      (of_image recs alone) s there)

  starts_unvoted : (shard : ℕ) (recs : List Rec) (faults : ℕ) (n : NodeState)
      → started shard recs faults ≡ Some n → All (RecAlone P) n.records → Unvoted n.core.part
  starts_unvoted shard recs faults n is alone =
      let all = recs ++ boot_behind (image_of recs) ∷ [] in
      let same : n ≡ node_of shard all faults = started_is shard recs faults n is in
      subst (λ (x : NodeState). Unvoted x.core.part) (sym same)
      (of_node shard all faults (subst (λ (x : NodeState). All (RecAlone P) x.records) same alone))

-- the records of the one shard
records_alone : (nodes : Nodes) → OneShard nodes → (n : ℕ) (x : NodeState)
    → slice_get nodes.shards n ≡ Some x → All (RecAlone (WasNamed nodes.sent)) x.records
records_alone nodes h n x there =
    let first = only h.node x n
    (subst (λ (xs : List NodeState). slice_get xs n ≡ Some x) h.shards there) in
    subst (λ (y : NodeState). All (RecAlone (WasNamed nodes.sent)) y.records) (sym first.1)
    h.right.kept.2.alone.records

-- A step: no rule of a message that comes to a shard that commits alone makes such a cause.

none_ruled : (s : ShardState) (m : Msg) (voter code : ℕ) → MsgBecause s m (cause.Voted voter code)
    → ⊥
none_ruled s (msg.Statement m) voter code h = h
none_ruled s (msg.Commit m) voter code h = h
none_ruled s (msg.Abort m) voter code h = cc
none_ruled s (msg.Recover m) voter code h = h
none_ruled s (msg.Answer m) voter code h = h
none_ruled s (msg.Outcome m) voter code h = h
none_ruled s (msg.CommitTwo m) voter code h = h
none_ruled s (msg.Prepare m) voter code h = h
none_ruled s (msg.Vote m) voter code h = h
none_ruled s (msg.Decide m) voter code h = h
none_ruled s (msg.Acked m) voter code h = h
none_ruled s msg.Nudge voter code h = h

none_ended : (s : ShardState) (e : NodeEvent) (lsid : Lsid) (tag : Tag) (voter code : ℕ)
    → EndsAt s e lsid tag (cause.Voted voter code) → ⊥
none_ended s e lsid tag voter code (inl memory) = cc
none_ended s e lsid tag voter code (inr (inl old)) = old
none_ended s e lsid tag voter code (inr (inr rule)) =
    none_ruled (met (entered s e) rule.0) rule.0.msg voter code rule.3

part_is : (before : NodeState) (e : NodeEvent) (a : NodeAnswer) (after : NodeState)
    → (takes : ShardTakes before e a after)
    → after.core.part ≡ (core_step takes.0 before.core e).core.part
part_is before e a after (room, inl done) = ap (λ (s : ShardState). s.part) done.core
part_is before e a after (room, inr failed) = ap (λ (s : ShardState). s.part) failed.core

module _ (old : Nodes) (h : OneShard old) (n : ℕ) (e : NodeEvent) (a : NodeAnswer) (faults : ℕ)
    (new : Nodes) (k : ShardSteps old n e a faults new) (was : Unvoted k.before.core.part) where
  has_run : k.before.core.stopped ≡ None
      → HasRun old.sent k.before.core k.before.records k.before.hand
  has_run =
      let first = only h.node k.before n
      (subst (λ (xs : List NodeState). slice_get xs n ≡ Some k.before) h.shards k.there) in
      subst (λ (x : NodeState). x.core.stopped ≡ None
      → HasRun old.sent x.core x.records x.hand) (sym first.1) h.right.runs

  by_stopped : (o : Option ℕ) → k.before.core.stopped ≡ o
      → Unvoted (core_step k.takes.0 k.before.core e).core.part
  by_stopped (Some times) is =
      subst (λ (s : ShardState). Unvoted s.part)
      (sym (stopped_for k.before.core e times is k.takes.0).core) was
  by_stopped None runs = λ lsid s voter code read_at there ended.
      let r = has_run runs in
      let lasts = r.1 in
      let step = step_for k.before.core e lasts.opens (commits_by k.before.records) r.0 lasts.holds
      r.2.coord runs (comes_alone old n e.what h.alone k.comes) k.takes.0 in
      elim (step.ends lsid s (cause.Voted voter code) read_at there ended) [
        | inl stood ↦ was lsid s voter code read_at stood ended
        | inr ends ↦ none_ended k.before.core e lsid s.tag voter code ends
      ]

  takes_unvoted : Unvoted k.after.core.part
  takes_unvoted =
      subst Unvoted (sym (part_is k.before e a k.after k.takes))
      (by_stopped k.before.core.stopped refl)

-- A run.

abbrev NoneVoted : Nodes → Type 0
NoneVoted nodes = EachShard nodes (λ number n. Unvoted n.core.part)

step_none : (old : Nodes) (ran : Ran) (new : Nodes) → Happens old ran new → Stands old
    → OneShard old → NoneVoted old → NoneVoted new
step_none old (Step (Shard n) e a faults) new k s h was =
    each_set (λ number x. Unvoted x.core.part) old n k.after new
    (ap (λ (w : Nodes). w.shards) k.nodes) was
    (takes_unvoted old h n e a faults new k (was n k.before k.there))
step_none old (Step (Router n) e a faults) new k s h was =
    each_same (λ number x. Unvoted x.core.part) old new (ap (λ (w : Nodes). w.shards) k.nodes) was
step_none old (Swapped (Shard n)) new k s h was =
    let shards = ap (λ (w : Nodes). w.shards) k.nodes in
    let there : slice_get new.shards n ≡ Some k.after =
    set_at old.shards new.shards n k.after k.before shards k.there in
    each_set (λ number x. Unvoted x.core.part) old n k.after new shards was
    (starts_unvoted (WasNamed new.sent) n k.recs k.faults k.after k.starts
    (records_alone new (one_shard_step old s h (Swapped (Shard n)) new k) n k.after there))
step_none old (Swapped (Router n)) new k s h was =
    each_same (λ number x. Unvoted x.core.part) old new (ap (λ (w : Nodes). w.shards) k.nodes) was

run_none : (old : Nodes) (run : List Ran) (trace : List Nodes) (new : Nodes)
    → IsTrace old run trace new → Stands old → OneShard old → NoneVoted old → NoneVoted new
run_none old [] [] new is s h was = subst NoneVoted (sym is) was
run_none old [] (nodes ∷ trace) new is s h was = absurd is
run_none old (ran ∷ run) [] new is s h was = absurd is
run_none old (ran ∷ run) (nodes ∷ trace) new is s h was =
    run_none is.1.0 run trace new is.1.2 (stands_step old ran is.1.0 is.1.1 s)
    (one_shard_step old s h ran is.1.0 is.1.1) (step_none old ran is.1.0 is.1.1 s h was)

pub none_voted : (chunks : Map) (start : Nodes) (run : List Ran) (trace : List Nodes) (now : Nodes)
    → StartsAlone chunks start → IsTrace start run trace now → (n : ℕ) (x : NodeState)
    → slice_get now.shards n ≡ Some x → Unvoted x.core.part
none_voted chunks start run trace now alone is =
    let first = one_shard_first chunks start alone.faults alone.node alone.fresh alone.shards
    alone.starts in
    run_none start run trace now is (stands_alone chunks start alone) first
    (λ n x there.
    let here = only alone.node x n
    (subst (λ (xs : List NodeState). slice_get xs n ≡ Some x) alone.shards there) in
    starts_unvoted (WasNamed start.sent) 0 [] alone.faults x
    (subst (λ (y : NodeState). started 0 [] alone.faults ≡ Some y) (sym here.1) alone.starts)
    (records_alone start first n x there))
