-- Each event keeps what is told of lost transactions.
use Rattle.std.proofs.Common.{◌≡◌, ◌⊎◌, inl, inr, ◌++◌, ℕ, Bool, true, false, All, List, [], ◌∷◌}
use Rattle.std.proofs.Common.{map, Some, sym, ap, subst}
use Rattle.std.specs.Prelude.{slice_get}
use Rattle.std.proofs.lemmas.List.Elements.{All-nil, All-append, All-contains}
use Rattle.txn_types.specs.Letters.{Letter, sent_by}
use Rattle.txn_types.specs.declared.decision.Decision.{Decision}
use Rattle.txn_types.specs.declared.decision.Decision.TheVariants as decision
use Rattle.txn_types.specs.declared.event.Happening.{Happening}
use Rattle.txn_types.specs.declared.event.Happening.TheVariants as what
use Rattle.txn_types.specs.declared.event.NodeAnswer.{NodeAnswer}
use Rattle.txn_types.specs.declared.event.NodeEvent.{NodeEvent}
use Rattle.txn_types.specs.declared.message.Envelope.{Envelope}
use Rattle.txn_types.specs.declared.message.Msg.{Msg}
use Rattle.txn_types.specs.declared.message.Msg.TheVariants as msg
use Rattle.txn_types.specs.declared.node.Lsid.{Lsid}
use Rattle.txn_types.specs.declared.node.NodeId.{NodeId}
use Rattle.txn_types.specs.declared.node.NodeId.TheVariants.{Shard, Router}
use Rattle.session_table.specs.Sessions.{state_behind}
use Rattle.session_table.specs.declared.session.Session.{Session}
use Rattle.journal_rec.specs.declared.record.Rec.{Rec}
use Rattle.journal_rec.specs.declared.record.Rec.TheVariants as rec
use Rattle.chunk_map.specs.Map.{Map}
use Rattle.router_state.specs.State.{RouterState}
use Rattle.router_core.specs.Step.{router_step, answer_of}
use Rattle.shard_image.specs.Image.{Image, image_of, empty_image}
use Rattle.shard_image.specs.Image as image
use Rattle.shard_core.specs.State.{ShardState}
use Rattle.shard_core.specs.Core.{CoreStep, core_step}
use Rattle.shard_core.specs.NodeStep.{NodeState, ShardTakes, Appended, Failed, boot_behind, started}
use Rattle.txn_model.specs.declared.ran.Ran.{Ran}
use Rattle.txn_model.specs.declared.ran.Ran.TheVariants.{Step, Swapped}
use Rattle.txn_types.specs.Letters.{given_out}
use Rattle.cluster_core.specs.Nodes.{Nodes}
use Rattle.cluster_core.specs.Parts.{KnowsBoots, KnowsAsked, KnowsTold}
use Rattle.cluster_core.specs.Trace.{Happens, IsTrace, IsFresh, MayCome}
use Rattle.world_laws.specs.Joint.{Stands}
use Rattle.world_laws.proofs.Clocks.{started_is, each_set, each_same}
use Rattle.world_laws.proofs.Joint.{stands_step}
use Rattle.known_laws.specs.Known.{KnownStands}
use Rattle.world_laws.proofs.Naming.{each}
use Rattle.known_laws.proofs.Sessions.{entries_put}
use Rattle.known_laws.proofs.Standing.{known_step, known_part}
use Rattle.lost_laws.specs.Lost.{StateApart, PartApart, EnvApart, LostStands}
use Rattle.lost_laws.proofs.Steps.{ComesBy, ComesAt, step_apart}

-- A shard's step.

part_by : (old : NodeState) (o : CoreStep) (a : NodeAnswer) (new : NodeState)
    → PartApart o.core.part → (Appended old o a new ⊎ Failed old o a new) → PartApart new.core.part
part_by old o a new h (inl d) = subst (λ (c : ShardState). PartApart c.part) (sym d.core) h
part_by old o a new h (inr d) = subst (λ (c : ShardState). PartApart c.part) (sym d.core) h

out_by : (old : NodeState) (o : CoreStep) (a : NodeAnswer) (new : NodeState)
    → All EnvApart (given_out o.answer) → (Appended old o a new ⊎ Failed old o a new)
    → All EnvApart (given_out a)
out_by old o a new h (inl d) = subst (λ (x : NodeAnswer). All EnvApart (given_out x)) (sym d.told) h
out_by old o a new h (inr d) =
    subst (λ (x : NodeAnswer). All EnvApart (given_out x)) (sym d.told) (All-nil EnvApart)

takes_apart : (old : NodeState) (e : NodeEvent) (a : NodeAnswer) (new : NodeState)
    → ShardTakes old e a new → ComesAt old.core.part e.what → PartApart old.core.part
    → PartApart new.core.part × All EnvApart (given_out a)
takes_apart old e a new h c k =
    let s = step_apart h.0 old.core e c k in (
      part_by old (core_step h.0 old.core e) a new s.part h.1,
      out_by old (core_step h.0 old.core e) a new s.out h.1,
    )

-- What may come is of transactions that have come in the boot that it has.

asked_comes : (nodes : Nodes) (n : ℕ) (s : NodeState) → slice_get nodes.shards n ≡ Some s
    → (m : Msg) → KnowsAsked nodes n m → ComesBy s.core.part m
asked_comes nodes n s there (msg.Statement m) h = (h s there).1
asked_comes nodes n s there (msg.Commit m) h = (h s there).1
asked_comes nodes n s there (msg.CommitTwo m) h = (h.0 s there).1
asked_comes nodes n s there (msg.Prepare m) h = (h s there).1
asked_comes nodes n s there other h = tt

-- what is known of a message by the node that it goes to
abbrev KnowsAs : Nodes → NodeId → Msg → Type 0
KnowsAs nodes node m =
    elim node [ Shard shard ↦ KnowsAsked nodes shard m | Router router ↦ KnowsTold nodes m ]

knows_asked : (nodes : Nodes) (n : ℕ) (from to : NodeId) (time : ℕ) (m : Msg) → to ≡ Shard n
    → KnowsBoots nodes (record { from = from; to = to; time = time; msg = m })
    → KnowsAsked nodes n m
knows_asked nodes n from to time m is h = subst (λ (node : NodeId). KnowsAs nodes node m) is h

comes_at : (nodes : Nodes) (n : ℕ) (s : NodeState) → slice_get nodes.shards n ≡ Some s
    → (w : Happening) → All (KnowsBoots nodes) nodes.sent → MayCome nodes.sent (Shard n) w
    → ComesAt s.core.part w
comes_at nodes n s there (what.Deliver e) k h =
    asked_comes nodes n s there e.msg (knows_asked nodes n e.from e.to e.time e.msg h.1
    (All-contains (KnowsBoots nodes) nodes.sent e k h.0))
comes_at nodes n s there other k h = tt

-- A start of a shard: what its records tell of aborted transactions is the votes against them.

behind_apart : (d : Decision) → StateApart (state_behind d)
behind_apart (decision.Commit at) = tt
behind_apart (decision.Abort shard code) = tt

abbrev Entry : Lsid × Session → Type 0
Entry entry = StateApart entry.1.state

changed_apart : (i : Image) (r : Rec) → All Entry i.sessions.entries
    → All Entry (image.with_record i r).sessions.entries
changed_apart i (rec.Boot boot) h = h
changed_apart i (rec.Ceiling bound) h = h
changed_apart i (rec.Commit tag lsid number read_at at writes) h =
    entries_put Entry lsid _ i.sessions.entries tt h
changed_apart i (rec.Prepared tag lsid number boot read_at at coordinator writes) h =
    entries_put Entry lsid _ i.sessions.entries tt h
changed_apart i (rec.Decided d) h =
    entries_put Entry d.lsid _ i.sessions.entries (behind_apart d.decision) h
changed_apart i (rec.CoordStart tag lsid number parts) h = h
changed_apart i (rec.CoordDecision tag d) h = h
changed_apart i (rec.CoordEnd tag) h = h
changed_apart i (rec.Floor floor) h = h

image_apart : (recs : List Rec) (i : Image) → All Entry i.sessions.entries
    → All Entry (image.with_records i recs).sessions.entries
image_apart [] i h = h
image_apart (r ∷ recs) i h = image_apart recs (image.with_record i r) (changed_apart i r h)

of_image : (recs : List Rec) → All Entry (image_of recs).sessions.entries
unfolding image_of
of_image recs = image_apart recs empty_image (All-nil Entry)

starts_apart : (n : ℕ) (recs : List Rec) (faults : ℕ) (s : NodeState)
    → started n recs faults ≡ Some s → PartApart s.core.part
starts_apart n recs faults s e = subst (λ (x : NodeState). PartApart x.core.part)
    (sym (started_is n recs faults s e)) (of_image (recs ++ boot_behind (image_of recs) ∷ []))

-- A router's messages are a router's.

letters_apart : (n : ℕ) (time : ℕ) (letters : List Letter)
    → All EnvApart (map (sent_by (Router n) time) letters)
letters_apart n time letters = each EnvApart (sent_by (Router n) time) letters (λ l. tt)

router_apart : (want : Bool) (r : RouterState) (e : NodeEvent)
    → All EnvApart (given_out (answer_of want (router_step want r e)))
unfolding router_step
router_apart true r e = All-nil EnvApart
router_apart false r e = letters_apart _ _ _

-- Each event.

sent_more : (old new : Nodes) (out : List Envelope) → new.sent ≡ old.sent ++ out
    → All EnvApart old.sent → All EnvApart out → All EnvApart new.sent
sent_more old new out is h k = subst (All EnvApart) (sym is) (All-append EnvApart old.sent out h k)

pub lost_step : (old : Nodes) (ran : Ran) (new : Nodes) → Happens old ran new → Stands old
    → KnownStands old → LostStands old → LostStands new
lost_step old (Step (Shard n) e a faults) new h s k c =
    let come = comes_at old n h.before h.there e.what (known_part old s k) h.comes in
    let t = takes_apart h.before e a h.after h.takes come (c.shards n h.before h.there) in
    record {
      shards = each_set (λ number x. PartApart x.core.part) old n h.after new
          (ap (λ (w : Nodes). w.shards) h.nodes) c.shards t.0;
      sent = sent_more old new (given_out a) (ap (λ (w : Nodes). w.sent) h.nodes) c.sent t.1;
    }
lost_step old (Step (Router n) e a faults) new h s k c = record {
  shards = each_same (λ number x. PartApart x.core.part) old new (ap (λ (w : Nodes). w.shards)
      h.nodes) c.shards;
  sent = sent_more old new (given_out a) (ap (λ (w : Nodes). w.sent) h.nodes) c.sent
      (subst (λ (x : NodeAnswer). All EnvApart (given_out x)) (sym h.takes.1)
      (router_apart h.takes.0 h.before e));
}
lost_step old (Swapped (Shard n)) new h s k c = record {
  shards = each_set (λ number x. PartApart x.core.part) old n h.after new (ap
      (λ (w : Nodes). w.shards) h.nodes) c.shards (starts_apart n h.recs h.faults h.after h.starts);
  sent = subst (All EnvApart) (sym (ap (λ (w : Nodes). w.sent) h.nodes)) c.sent;
}
lost_step old (Swapped (Router n)) new h s k c = record {
  shards = each_same (λ number x. PartApart x.core.part) old new (ap (λ (w : Nodes). w.shards)
      h.nodes) c.shards;
  sent = subst (All EnvApart) (sym (ap (λ (w : Nodes). w.sent) h.nodes)) c.sent;
}

pub lost_run : (old : Nodes) (run : List Ran) (trace : List Nodes) (new : Nodes)
    → IsTrace old run trace new → Stands old → KnownStands old → LostStands old → LostStands new
lost_run old [] [] new h s k c = subst LostStands (sym h) c
lost_run old [] (nodes ∷ trace) new h s k c = absurd h
lost_run old (ran ∷ run) [] new h s k c = absurd h
lost_run old (ran ∷ run) (nodes ∷ trace) new h s k c =
    lost_run h.1.0 run trace new h.1.2 (stands_step old ran h.1.0 h.1.1 s)
    (known_step old ran h.1.0 h.1.1 s k) (lost_step old ran h.1.0 h.1.1 s k c)

pub lost_fresh : (chunks : Map) (nodes : Nodes) → IsFresh chunks nodes → LostStands nodes
lost_fresh chunks nodes h = record {
  shards = λ number n e. let s = h.shards number n e in starts_apart number s.0 s.1 n s.2;
  sent = subst (All EnvApart) (sym h.sent) (All-nil EnvApart);
}
