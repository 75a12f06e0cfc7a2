-- Each event keeps that no time which was answered or recorded is above a shard's clock, or above
-- its last ceiling.
use Rattle.std.proofs.Common.{◌≡◌, ◌⊎◌, inl, inr, ◌<◌, ◌≤◌, ◌^◌, ◌++◌, ℕ, All, List, [], ◌∷◌}
use Rattle.std.proofs.Common.{Option, Some, None, IfSome, refl, sym, ap, subst, ◌∙◌, arith}
use Rattle.std.specs.Prelude.{slice_get, slice_set}
use Rattle.std.proofs.lemmas.List.{append-nil}
use Rattle.txn_types.specs.declared.event.NodeAnswer.{NodeAnswer}
use Rattle.txn_types.specs.declared.event.NodeEvent.{NodeEvent}
use Rattle.txn_types.specs.declared.node.NodeId.TheVariants.{Shard, Router}
use Rattle.journal_rec.specs.declared.record.Rec.{Rec}
use Rattle.journal_rec.specs.declared.record.Rec.TheVariants as rec
use Rattle.shard_image.specs.Image.{Image, image_of, empty_image}
use Rattle.shard_image.specs.Image as image
use Rattle.shard_core.specs.State.{ShardState}
use Rattle.shard_core.specs.Core.{Room, core_step}
use Rattle.shard_core.specs.NodeStep.{NodeState, ShardTakes, Appended, Failed, joined, started}
use Rattle.shard_core.specs.NodeStep.{node_of, boot_behind}
use Rattle.shard_core.specs.Laws.{HasTimes, KeepsTime}
use Rattle.shard_core.proofs.Stepping.{step_keeps}
use Rattle.txn_model.specs.declared.ran.Ran.{Ran}
use Rattle.txn_model.specs.declared.ran.Ran.TheVariants.{Step, Swapped}
use Rattle.cluster_core.specs.Nodes.{Nodes}
use Rattle.cluster_core.specs.Trace.{Happens, MayRemain}
use Rattle.cluster_core.specs.Parts.{IsRunning, last_ceiling}
use Rattle.std.proofs.lemmas.List.Elements.{All-nil, All-cons, All-head, All-tail, All-append}
use Rattle.std.proofs.lemmas.List.Elements.{All-weaker, All-contains}
use Rattle.txn_types.specs.declared.event.Happening.{Happening}
use Rattle.txn_types.specs.declared.event.Happening.TheVariants as what
use Rattle.txn_types.specs.declared.decision.Decision.{Decision}
use Rattle.txn_types.specs.declared.decision.Decision.TheVariants as decision
use Rattle.txn_types.specs.declared.message.Envelope.{Envelope}
use Rattle.txn_types.specs.declared.message.Msg.{Msg}
use Rattle.txn_types.specs.declared.message.Msg.TheVariants as msg
use Rattle.txn_types.specs.declared.names.Tag.{Tag}
use Rattle.txn_types.specs.declared.node.Lsid.{Lsid}
use Rattle.txn_types.specs.declared.node.NodeId.{NodeId}
use Rattle.txn_types.specs.Order.{tag_cmp}
use Rattle.session_table.specs.Sessions.{state_behind}
use Rattle.session_table.specs.declared.session.Session.{Session}
use Rattle.coordinator.specs.TwoPhase.{Coordinated, Coordinations, coordinated_of, with_decision}
use Rattle.participant.specs.Laws.{DecisionBehind}
use Rattle.shard_image.specs.Image.{decided_if}
use Rattle.shard_core.specs.NodeStep.{ceiling_append, record_append, core_of}
use Rattle.txn_types.specs.Letters.{given_out}
use Rattle.cluster_core.specs.Trace.{MayCome}
use Rattle.cluster_core.specs.Parts.{IsBehind, RecordsBehind, AnswersBehind, AtShard, time_in}
use Rattle.cluster_core.specs.Parts.{decision_time, ReadsBehind}
use Rattle.world_laws.specs.Behind.{StateBehind, CoordinatedBehind, CoordBehind, MsgBehind}
use Rattle.world_laws.specs.Behind.{LetterBehind, RecBehind, CoreBehind, EnvBehind, EventBehind}
use Rattle.world_laws.specs.ReadTimes.{NodeReads, ReadsStand, IsAsked, RoutersAsk}
use Rattle.world_laws.specs.Clocks.{ClockStands, ClocksStand}
use Rattle.world_laws.proofs.Lists.{get_set, set_there, all_places}
use Rattle.world_laws.proofs.Steps.{step_does, stopped_rests}
use Rattle.world_laws.proofs.Records.{records_step}
use Rattle.world_laws.proofs.StepTimes.{step_behind, stopped_out, vote_later, decision_later}
use Rattle.world_laws.proofs.Clocks.{Any, ceiling_on, ceiling_of_image, takes, started_is}
use Rattle.world_laws.proofs.Clocks.{remains_small, failed_ceilings, no_appends, none_parts}
use Rattle.world_laws.proofs.Clocks.{rests_not, each_set, each_same}
use Rattle.world_laws.proofs.Naming.{nothing, one, put_all, taken_all, found}
use Rattle.world_laws.proofs.PartTimes.{entries_put}

if_weaker : (P R : ℕ → Type 0) → ((t : ℕ) → P t → R t) → (o : Option ℕ) → IfSome o P → IfSome o R
if_weaker P R h None k = tt
if_weaker P R h (Some t) k = h t k

-- a record's time
abbrev Timed : (ℕ → Type 0) → Rec → Type 0
Timed P r = IfSome (time_in r) P

timed_weaker : (P R : ℕ → Type 0) → ((t : ℕ) → P t → R t) → (recs : List Rec) → All (Timed P) recs
    → All (Timed R) recs
timed_weaker P R h recs k = All-weaker (Timed P) (Timed R) (λ r. if_weaker P R h (time_in r)) recs k

timed_if : (P R : ℕ → Type 0) → ((t : ℕ) → P t → R t) → (r : Option Rec) → IfSome r (Timed P)
    → IfSome r (Timed R)
timed_if P R h None k = tt
timed_if P R h (Some r) k = if_weaker P R h (time_in r) k

-- an Answer that a shard gives is this shard's, of a time that it is after
abbrev Told : ℕ → NodeState → Msg → Type 0
Told number n (msg.Answer a) = (a.shard ≡ number) × IsBehind n a.read_at
Told number n other = Unit {0}

abbrev OutTold : ℕ → NodeState → Envelope → Type 0
OutTold number n e = MsgBehind e.time e.msg × Told number n e.msg

-- a node's step
record Stepped (number : ℕ) (old new : NodeState) (a : NodeAnswer) : Type 0 where
  reads : NodeReads number new
  moves : (t : ℕ) → IsBehind old t → IsBehind new t
  out : All (OutTold number new) (given_out a)

told_of : (number : ℕ) (n : NodeState) (last shard : ℕ) → shard ≡ number → ((t : ℕ) → t ≤ last
    → IsBehind n t) → (m : Msg) → LetterBehind last shard m → MsgBehind last m × Told number n m
told_of number n last shard e h (msg.Answer a) k = (k.0, (k.1 ∙ e, h a.read_at k.0))
told_of number n last shard e h (msg.Vote v) k = (k, tt)
told_of number n last shard e h (msg.Decide d) k = (k, tt)
told_of number n last shard e h other k = (tt, tt)

out_told : (number : ℕ) (n : NodeState) (s : ShardState) → s.part.shard ≡ number → ((t : ℕ)
    → t ≤ s.clock.last → IsBehind n t) → (e : Envelope) → EnvBehind s e → OutTold number n e
out_told number n s is h e k = let t = told_of number n s.clock.last s.part.shard is h e.msg k.1 in
    (rw k.0 t.0, t.1)

low : (t last ceiling durable : ℕ) → t ≤ last → last ≤ ceiling → ceiling ≡ durable → t ≤ durable
low t last ceiling durable a b c = grind arith

low_old : (t durable ceiling now : ℕ) → t ≤ durable → ceiling ≡ durable → ceiling ≤ now → t ≤ now
low_old t durable ceiling now a b c = grind arith

up : (t a b : ℕ) → t ≤ a → a ≤ b → t ≤ b
up t a b h k = grind arith

not_both : (o : Option ℕ) (n : ℕ) → o ≡ Some n → o ≡ None → ⊥
not_both o n a b = grind arith

appends : (number : ℕ) (old : NodeState) (room : Room) (e : NodeEvent) (a : NodeAnswer) (new :
    NodeState) → Appended old (core_step room old.core e) a new → IsRunning old → EventBehind e.what
    → ClockStands old → ClockStands new → KeepsTime old.core (core_step room old.core e)
    → NodeReads number old → Stepped number old new a
appends number old room e a new d run k c cn kt r =
    let o = core_step room old.core e in
    let f = step_does Any room old.core e in
    let b = step_behind room old.core e run (r.core run) k in
    let on : IsRunning new = rw d.core (f.stopped ∙ run) in
    let top : o.core.clock.ceiling ≡ last_ceiling new.records = subst (λ (s : ShardState).
    s.clock.ceiling ≡ last_ceiling new.records) d.core (cn.ceiling on) in
    let here : (t : ℕ) → t ≤ o.core.clock.last → IsBehind new t = λ t l. (
      λ x. rw d.core l,
      low t o.core.clock.last o.core.clock.ceiling (last_ceiling new.records) l kt.clock.below top,
    ) in
    let moves : (t : ℕ) → IsBehind old t → IsBehind new t =
    λ t l. here t (up t old.core.clock.last o.core.clock.last (l.0 run) kt.rises) in
    let none : new.hand ≡ [] = d.hand ∙ c.calm run in
    record {
      reads = record {
        own = rw d.core (f.same.shard ∙ r.own);
        core = λ x. subst CoreBehind (sym d.core) b.core;
        records =
            (records_step (Timed (IsBehind new)) old o a new (λ b. tt)
            (timed_if (λ t. t ≤ o.core.clock.last) (IsBehind new) here o.rec b.rec)
            (timed_weaker (IsBehind old) (IsBehind new) moves old.records r.records)
            (subst (All (Timed (IsBehind new))) (sym (c.calm run))
            (All-nil (Timed (IsBehind new)))) (inl d)).0;
        hand = subst (All (RecBehind (last_ceiling (new.records ++ new.hand)))) (sym none)
            (All-nil (RecBehind (last_ceiling (new.records ++ new.hand))));
      };
      moves = moves;
      out = subst (λ (a : NodeAnswer). All (OutTold number new) (given_out a))
          (sym d.told) (All-weaker (EnvBehind o.core) (OutTold number new)
          (out_told number new o.core (f.same.shard ∙ r.own) here) (given_out o.answer) b.out);
    }

-- what is durable of a step whose append failed names no time

quiet_record : (P : ℕ → Type 0) (r : Option Rec) (kept : List (List Rec)) (lost : List Rec)
    (rest : List (List Rec)) → record_append r ≡ kept ++ lost ∷ rest → All (Timed P) (joined kept)
quiet_record P None kept lost rest is = absurd (none_parts kept lost rest is)
quiet_record P (Some r) [] lost rest is = All-nil (Timed P)
quiet_record P (Some r) (k ∷ []) lost rest is = grind arith
quiet_record P (Some r) (k ∷ j ∷ kept) lost rest is = grind arith

quiet_kept : (P : ℕ → Type 0) (bound : Option ℕ) (r : Option Rec)
    (kept : List (List Rec)) (lost : List Rec) (rest : List (List Rec))
    → ceiling_append bound ++ record_append r ≡ kept ++ lost ∷ rest → All (Timed P) (joined kept)
quiet_kept P None r kept lost rest is = quiet_record P r kept lost rest is
quiet_kept P (Some b) r [] lost rest is = All-nil (Timed P)
quiet_kept P (Some b) r (k ∷ kept) lost rest is =
    let same : k ≡ (rec.Ceiling b ∷ []) = grind arith in
    let more : record_append r ≡ kept ++ lost ∷ rest = grind arith in
    subst (λ (k : List Rec). All (Timed P) (k ++ joined kept)) (sym same)
    (All-cons (Timed P) (rec.Ceiling b) (joined kept) tt (quiet_record P r kept lost rest more))

fails : (number : ℕ) (old : NodeState) (room : Room) (e : NodeEvent) (a : NodeAnswer) (new :
    NodeState) → Failed old (core_step room old.core e) a new → IsRunning old → EventBehind e.what
    → ClockStands old → KeepsTime old.core (core_step room old.core e) → NodeReads number old
    → Stepped number old new a
fails number old room e a new d run k c kt r =
    let o = core_step room old.core e in
    let f = step_does Any room old.core e in
    let b = step_behind room old.core e run (r.core run) k in
    let g = failed_ceilings old room e a new d run c kt in
    let stops : new.core.stopped ≡ Some new.faults = ap (λ (s : ShardState). s.stopped) d.core in
    let moves : (t : ℕ) → IsBehind old t → IsBehind new t = λ t l. (
      λ x. absurd (not_both new.core.stopped new.faults stops x),
      up t (last_ceiling old.records) (last_ceiling new.records) l.1 g.1,
    ) in
    let all : All (RecBehind o.core.clock.ceiling) new.hand =
    (records_step (RecBehind o.core.clock.ceiling) old o a new (λ b. tt)
    (timed_if (λ t. t ≤ o.core.clock.last) (λ t. t ≤ o.core.clock.ceiling)
    (λ t l. up t o.core.clock.last o.core.clock.ceiling l kt.clock.below) o.rec b.rec)
    (timed_weaker (IsBehind old) (λ t. t ≤ o.core.clock.ceiling)
    (λ t l. low_old t (last_ceiling old.records) old.core.clock.ceiling o.core.clock.ceiling l.1
    (c.ceiling run) f.ceiling) old.records r.records)
    (subst (All (RecBehind o.core.clock.ceiling)) (sym (c.calm run))
    (All-nil (RecBehind o.core.clock.ceiling))) (inr d)).1 in
    record {
      reads = record {
        own = ap (λ (s : ShardState). s.part.shard) d.core ∙ f.same.shard ∙ r.own;
        core = λ x. absurd (not_both new.core.stopped new.faults stops x);
        records = subst (All (Timed (IsBehind new))) (sym d.records)
            (All-append (Timed (IsBehind new)) old.records (joined d.kept)
            (timed_weaker (IsBehind old) (IsBehind new) moves old.records r.records)
            (quiet_kept (IsBehind new) o.ceiling o.rec d.kept d.lost d.rest d.parted));
        hand = subst (λ (n : ℕ). All (RecBehind n) new.hand) (sym g.0) all;
      };
      moves = moves;
      out = subst (λ (a : NodeAnswer). All (OutTold number new) (given_out a)) (sym d.told)
          (nothing (OutTold number new));
    }

-- a stopped shard's step

zero_behind : (n : NodeState) (t : ℕ) → t ≤ 0 → IsBehind n t
zero_behind n t h = (λ r. grind (arith, h), grind (arith, h))

null_of : (number : ℕ) (n : NodeState) (shard : ℕ) → shard ≡ number → (time : ℕ) (m : Msg)
    → LetterBehind 0 shard m → MsgBehind time m × Told number n m
null_of number n shard e time (msg.Answer a) k =
    (grind (arith, k.0), (k.1 ∙ e, zero_behind n a.read_at k.0))
null_of number n shard e time (msg.Vote v) k = (vote_later 0 time (grind arith) v.vote k, tt)
null_of number n shard e time (msg.Decide d) k =
    (decision_later 0 time (grind arith) d.decision k, tt)
null_of number n shard e time other k = (tt, tt)

rests : (number : ℕ) (old : NodeState) (room : Room) (e : NodeEvent)
    (a : NodeAnswer) (new : NodeState) (faults : ℕ) → old.core.stopped ≡ Some faults
    → Appended old (core_step room old.core e) a new → NodeReads number old
    → Stepped number old new a
rests number old room e a new faults stopped d r =
    let o = core_step room old.core e in
    let q = stopped_rests room old.core e faults stopped in
    let core : new.core ≡ old.core = d.core ∙ q.core in
    let records : new.records ≡ old.records =
    rw (d.records, no_appends o q.ceiling q.rec) (append-nil old.records) in
    let moves : (t : ℕ) → IsBehind old t → IsBehind new t = λ t l. (
      λ x. subst (λ (s : ShardState). t ≤ s.clock.last) (sym core)
          (l.0 (subst (λ (s : ShardState). s.stopped ≡ None) core x)),
      subst (λ (recs : List Rec). t ≤ last_ceiling recs) (sym records) l.1,
    ) in
    let hand : All (RecBehind (last_ceiling (old.records ++ new.hand))) new.hand =
    subst (λ (h : List Rec). All (RecBehind (last_ceiling (old.records ++ h))) h)
    (sym d.hand) r.hand in
    record {
      reads = record {
        own = rw core r.own;
        core = λ x. subst CoreBehind (sym core)
            (r.core (subst (λ (s : ShardState). s.stopped ≡ None) core x));
        records = subst (All (Timed (IsBehind new))) (sym records) (timed_weaker (IsBehind old)
            (IsBehind new) moves old.records r.records);
        hand = subst (λ (recs : List Rec). All (RecBehind (last_ceiling (recs ++ new.hand)))
            new.hand) (sym records) hand;
      };
      moves = moves;
      out = subst (λ (a : NodeAnswer). All (OutTold number new) (given_out a)) (sym d.told)
          (All-weaker (λ (e : Envelope). LetterBehind 0 old.core.part.shard e.msg) (OutTold number
          new) (λ e k. null_of number new old.core.part.shard r.own e.time e.msg k)
          (given_out o.answer) (stopped_out room old.core e faults stopped));
    }

takes_by : (number : ℕ) (old : NodeState) (room : Room) (e : NodeEvent) (a : NodeAnswer)
    (new : NodeState) (stopped : Option ℕ) → old.core.stopped ≡ stopped → e.wall < 2 ^ 32
    → HasTimes e.what → EventBehind e.what
    → ClockStands old → ClockStands new → NodeReads number old
    → (Appended old (core_step room old.core e) a new
    ⊎ Failed old (core_step room old.core e) a new) → Stepped number old new a
takes_by number old room e a new None run w t k c cn r (inl d) = appends number old room e a new d
    run k c cn (step_keeps room old.core e (c.clock run) c.wall w t) r
takes_by number old room e a new None run w t k c cn r (inr d) =
    fails number old room e a new d run k c (step_keeps room old.core e (c.clock run) c.wall w t) r
takes_by number old room e a new (Some faults) run w t k c cn r (inl d) =
    rests number old room e a new faults run d r
takes_by number old room e a new (Some faults) run w t k c cn r (inr d) =
    absurd (rests_not old room e a new faults run d)

steps : (number : ℕ) (old : NodeState) (e : NodeEvent) (a : NodeAnswer) (new : NodeState)
    → ShardTakes old e a new → e.wall < 2 ^ 32 → HasTimes e.what → EventBehind e.what
    → ClockStands old → NodeReads number old → Stepped number old new a
steps number old e a new h w t k c r =
    takes_by number old h.0 e a new old.core.stopped refl w t k c (takes old e a new h w t c) r h.1

-- A start: no time in the records is above the last ceiling, which is the clock then.

record ImageBehind (last : ℕ) (i : Image) : Type 0 where
  sessions : All (λ entry. StateBehind last entry.1.state) i.sessions.entries
  coord : CoordBehind last i.coord

decided_state : (last : ℕ) (d : Decision) → IfSome (decision_time d) (λ t. t ≤ last)
    → StateBehind last (state_behind d)
decided_state last (decision.Commit at) h = h
decided_state last (decision.Abort shard code) h = grind arith

decision_is : (last : ℕ) (d : Decision) → IfSome (decision_time d) (λ t. t ≤ last)
    → DecisionBehind last d
decision_is last (decision.Commit at) h = h
decision_is last (decision.Abort shard code) h = tt

abbrev InCoord : ℕ → Tag × Coordinated → Type 0
InCoord last c = CoordinatedBehind last c.1

abbrev InSessions : ℕ → Lsid × Session → Type 0
InSessions last entry = StateBehind last entry.1.state

decided_coord : (last : ℕ) (coords : Coordinations) (tag : Tag) (d : Decision)
    (c : Option Coordinated) → coordinated_of coords tag ≡ c → DecisionBehind last d
    → CoordBehind last coords → CoordBehind last (decided_if coords tag d c)
decided_coord last coords tag d None e k h = h
decided_coord last coords tag d (Some c) e k h = put_all tag_cmp (InCoord last) tag
    (with_decision (Some d) c) coords ((found (InCoord last) tag coords h c e).0, k) h

changed_behind : (last : ℕ) (i : Image) (r : Rec) → RecBehind last r → ImageBehind last i
    → ImageBehind last (image.with_record i r)
changed_behind last i (rec.Boot boot) k h = record { sessions = h.sessions; coord = h.coord }
changed_behind last i (rec.Ceiling bound) k h = record { sessions = h.sessions; coord = h.coord }
changed_behind last i (rec.Commit tag lsid number read_at at writes) k h = record {
  sessions = entries_put (InSessions last) lsid _ i.sessions.entries k h.sessions;
  coord = h.coord;
}
changed_behind last i (rec.Prepared tag lsid number boot read_at at coordinator writes) k h =
    record {
      sessions = entries_put (InSessions last) lsid _ i.sessions.entries k h.sessions;
      coord = h.coord;
    }
changed_behind last i (rec.Decided d) k h = record {
  sessions = entries_put (InSessions last) d.lsid _ i.sessions.entries (decided_state last
      d.decision k) h.sessions;
  coord = h.coord;
}
changed_behind last i (rec.CoordStart tag lsid number parts) k h = record {
  sessions = h.sessions;
  coord = put_all tag_cmp (InCoord last) tag _ i.coord
      (All-nil (λ (vote : ℕ × ℕ). vote.1 ≤ last), tt) h.coord;
}
changed_behind last i (rec.CoordDecision tag d) k h = record {
  sessions = h.sessions;
  coord = decided_coord last i.coord tag d (coordinated_of i.coord tag) refl (decision_is last
      d k) h.coord;
}
changed_behind last i (rec.CoordEnd tag) k h =
    record { sessions = h.sessions; coord = taken_all tag_cmp (InCoord last) tag i.coord h.coord }
changed_behind last i (rec.Floor floor) k h = record { sessions = h.sessions; coord = h.coord }

image_behind : (last : ℕ) (recs : List Rec) (i : Image) → All (RecBehind last) recs
    → ImageBehind last i → ImageBehind last (image.with_records i recs)
image_behind last [] i k h = h
image_behind last (r ∷ recs) i k h = image_behind last recs (image.with_record i r) (All-tail
    (RecBehind last) r recs k) (changed_behind last i r (All-head (RecBehind last) r recs k) h)

of_image : (last : ℕ) (recs : List Rec) → All (RecBehind last) recs
    → ImageBehind last (image_of recs)
unfolding image_of
of_image last recs k = image_behind last recs empty_image k
    (record { sessions = All-nil (InSessions last); coord = All-nil (InCoord last) })

core_behind : (n : ℕ) (recs : List Rec) → All (RecBehind (image_of recs).ceiling) recs
    → CoreBehind (core_of n (image_of recs))
core_behind n recs k =
    let h = of_image (image_of recs).ceiling recs k in
    record {
      part = record {
        live = All-nil (λ entry. entry.1.read_at ≤ (image_of recs).ceiling);
        sessions = h.sessions;
      };
      coord = h.coord;
    }

record Started (number : ℕ) (old new : NodeState) : Type 0 where
  reads : NodeReads number new
  moves : (t : ℕ) → IsBehind old t → IsBehind new t

remains_timed : (old : NodeState) (number : ℕ) (recs : List Rec) → MayRemain old recs
    → ClockStands old → NodeReads number old → All (RecBehind (last_ceiling recs)) recs
remains_timed old number recs (inl e) c r =
    subst (λ (x : List Rec). All (RecBehind (last_ceiling x)) x) (sym e) (timed_weaker
    (IsBehind old) (λ t. t ≤ last_ceiling old.records) (λ t l. l.1) old.records r.records)
remains_timed old number recs (inr e) c r =
    let all = old.records ++ old.hand in
    subst (λ (x : List Rec). All (RecBehind (last_ceiling x)) x) (sym e)
    (All-append (RecBehind (last_ceiling all)) old.records old.hand
    (timed_weaker (IsBehind old) (λ t. t ≤ last_ceiling all) (λ t l. up t
    (last_ceiling old.records) (last_ceiling all) l.1 c.durable) old.records r.records) r.hand)

-- a node that starts from records of which none has a time above their last ceiling
pub starts_reads : (number : ℕ) (recs : List Rec) (faults : ℕ) (new : NodeState)
    → started number recs faults ≡ Some new → All (RecBehind (last_ceiling recs)) recs
    → NodeReads number new × ((t : ℕ) → t ≤ last_ceiling recs → IsBehind new t)
starts_reads number recs faults new e behind =
    let more = recs ++ boot_behind (image_of recs) ∷ [] in
    let node = node_of number more faults in
    let same : last_ceiling more ≡ last_ceiling recs =
    ceiling_on recs (boot_behind (image_of recs) ∷ []) in
    let is : (image_of more).ceiling ≡ last_ceiling more = ceiling_of_image more in
    let times : All (RecBehind (last_ceiling recs)) more =
    All-append (RecBehind (last_ceiling recs)) recs (boot_behind (image_of recs)
    ∷ []) behind (one (RecBehind (last_ceiling recs)) (boot_behind (image_of recs)) tt) in
    let here : (t : ℕ) → t ≤ last_ceiling recs
    → IsBehind node t = λ t l. (λ x. rw (is, same) l, rw same l) in
    let reads : NodeReads number node = record {
      own = refl;
      core = λ x. core_behind number more (subst (λ (n : ℕ). All (RecBehind n) more)
          (sym (is ∙ same)) times);
      records = timed_weaker (λ t. t ≤ last_ceiling recs) (IsBehind node) here more times;
      hand = All-nil (RecBehind (last_ceiling (more ++ [])));
    } in
    subst (λ (x : NodeState). NodeReads number x × ((t : ℕ) → t ≤ last_ceiling recs → IsBehind x t))
    (sym (started_is number recs faults new e)) (reads, here)

starts_stand : (number : ℕ) (old : NodeState) (recs : List Rec) (faults : ℕ) (new : NodeState)
    → MayRemain old recs → started number recs faults ≡ Some new → ClockStands old
    → NodeReads number old → Started number old new
starts_stand number old recs faults new remain e c r =
    let s = starts_reads number recs faults new e (remains_timed old number recs remain c r) in
    record {
      reads = s.0;
      moves = λ t l. s.1 t (up t (last_ceiling old.records) (last_ceiling recs) l.1
          (remains_small old recs remain c).0);
    }

-- Each event.

-- what was answered stays behind, where one shard goes on so
abbrev Goes : Nodes → Nodes → Type 0
Goes old new = (shard t : ℕ) → AtShard old shard (λ n. IsBehind n t)
    → AtShard new shard (λ n. IsBehind n t)

abbrev Answer' : Nodes → Msg → Type 0
Answer' nodes (msg.Answer a) = AtShard nodes a.shard (λ n. IsBehind n a.read_at)
Answer' nodes other = Unit {0}

answer_on : (old new : Nodes) → Goes old new → (m : Msg) → Answer' old m → Answer' new m
answer_on old new g (msg.Answer a) h = g a.shard a.read_at h
answer_on old new g other h = tt

answers_on : (old new : Nodes) → Goes old new → (sent : List Envelope)
    → All (AnswersBehind old) sent → All (AnswersBehind new) sent
answers_on old new g sent h = All-weaker (λ (e : Envelope). Answer' old e.msg) (λ (e : Envelope).
    Answer' new e.msg) (λ e k. answer_on old new g e.msg k) sent h

goes_set : (old new : Nodes) (n : ℕ) (before after : NodeState)
    → slice_get old.shards n ≡ Some before → new.shards ≡ slice_set old.shards n after
    → ((t : ℕ) → IsBehind before t → IsBehind after t) → Goes old new
goes_set old new n before after there is moves shard t h x e =
    elim (get_set old.shards n shard after x
    (sym (ap (λ (l : List NodeState). slice_get l shard) is) ∙ e)) [
      | inl w ↦ subst (λ (y : NodeState). IsBehind y t) w.1
          (moves t (h before (ap (λ (k : ℕ). slice_get old.shards k) w.0 ∙ there)))
      | inr w ↦ h x w
    ]

goes_same : (old new : Nodes) → new.shards ≡ old.shards → Goes old new
goes_same old new is shard t h x e =
    h x (sym (ap (λ (l : List NodeState). slice_get l shard) is) ∙ e)

-- what a shard gives out is after it
some_is : {A : Type 0} (x y : A) → Some x ≡ Some y → x ≡ y
some_is x y e = grind arith

told_behind : (old new : Nodes) (n : ℕ) (before after : NodeState)
    → slice_get old.shards n ≡ Some before → new.shards ≡ slice_set old.shards n after → (m : Msg)
    → Told n after m → Answer' new m
told_behind old new n before after there is (msg.Answer a) k =
    let here : slice_get new.shards n ≡ Some after = ap (λ (l : List NodeState). slice_get l n) is
    ∙ set_there old.shards n after before there in
    λ x e. subst (λ (y : NodeState). IsBehind y a.read_at)
    (some_is after x (sym here ∙ ap (λ (i : ℕ). slice_get new.shards i) (sym k.0) ∙ e)) k.1
told_behind old new n before after there is other k = tt

comes_behind : (sent : List Envelope) (node : NodeId) (w : Happening)
    → All (λ (e : Envelope). MsgBehind e.time e.msg) sent → MayCome sent node w → EventBehind w
comes_behind sent node (what.Client conn frame) h k = tt
comes_behind sent node (what.Gone conn) h k = tt
comes_behind sent node (what.Deliver e) h k =
    All-contains (λ (e : Envelope). MsgBehind e.time e.msg) sent e h k.0
comes_behind sent node what.Resend h k = tt
comes_behind sent node what.Moment h k = tt

asked_times : (time : ℕ) (m : Msg) → IsAsked m → MsgBehind time m
asked_times time (msg.Answer a) h = absurd h
asked_times time (msg.Vote v) h = absurd h
asked_times time (msg.Decide d) h = absurd h
asked_times time other h = tt

asked_answers : (nodes : Nodes) (m : Msg) → IsAsked m → Answer' nodes m
asked_answers nodes (msg.Answer a) h = absurd h
asked_answers nodes other h = tt

abbrev Times : Envelope → Type 0
Times e = MsgBehind e.time e.msg

-- all sent messages stand, where those of a step do
sent_on : (old new : Nodes) (out : List Envelope) → new.sent ≡ old.sent ++ out → Goes old new
    → All (λ (e : Envelope). Times e × Answer' new e.msg) out → ReadsStand old
    → All Times new.sent × All (AnswersBehind new) new.sent
sent_on old new out is g k r = (
  subst (All Times) (sym is) (All-append Times old.sent out r.times
      (All-weaker (λ (e : Envelope). Times e × Answer' new e.msg) Times (λ e h. h.0) out k)),
  subst (All (AnswersBehind new)) (sym is) (All-append (AnswersBehind new) old.sent out
      (answers_on old new g old.sent r.answers) (All-weaker (λ (e : Envelope). Times e
      × Answer' new e.msg) (AnswersBehind new) (λ e h. h.1) out k)),
)

same_sent : (old new : Nodes) → new.sent ≡ old.sent → Goes old new → ReadsStand old
    → All Times new.sent × All (AnswersBehind new) new.sent
same_sent old new is g r = (
  subst (All Times) (sym is) r.times,
  subst (All (AnswersBehind new)) (sym is) (answers_on old new g old.sent r.answers),
)

pub reads_step : (old : Nodes) (ran : Ran) (new : Nodes) → Happens old ran new → RoutersAsk ran
    → ClocksStand old → ReadsStand old → ReadsStand new
reads_step old (Step (Shard n) e a faults) new h q c r =
    let shards = ap (λ (w : Nodes). w.shards) h.nodes in
    let s = steps n h.before e a h.after h.takes h.wall h.times (comes_behind old.sent (Shard n)
    e.what r.times h.comes) (c n h.before h.there) (r.shards n h.before h.there) in
    let sent = sent_on old new (given_out a) (ap (λ (w : Nodes). w.sent) h.nodes) (goes_set old new
    n h.before h.after h.there shards s.moves)
    (All-weaker (OutTold n h.after) (λ (e : Envelope). Times e × Answer' new e.msg)
    (λ e k. (k.0, told_behind old new n h.before h.after h.there shards e.msg k.1))
    (given_out a) s.out) r in
    record {
      shards = each_set NodeReads old n h.after new shards r.shards s.reads;
      times = sent.0;
      answers = sent.1;
    }
reads_step old (Step (Router n) e a faults) new h q c r =
    let shards = ap (λ (w : Nodes). w.shards) h.nodes in
    let sent = sent_on old new (given_out a) (ap (λ (w : Nodes). w.sent) h.nodes)
    (goes_same old new shards)
    (All-weaker (λ (e : Envelope). IsAsked e.msg) (λ (e : Envelope). Times e × Answer' new e.msg)
    (λ e k. (asked_times e.time e.msg k, asked_answers new e.msg k)) (given_out a) q) r in
    record {
      shards = each_same NodeReads old new shards r.shards;
      times = sent.0;
      answers = sent.1;
    }
reads_step old (Swapped (Shard n)) new h q c r =
    let shards = ap (λ (w : Nodes). w.shards) h.nodes in
    let s = starts_stand n h.before h.recs h.faults h.after h.remain h.starts (c n h.before h.there)
    (r.shards n h.before h.there) in
    let sent = same_sent old new (ap (λ (w : Nodes). w.sent) h.nodes) (goes_set old new n h.before
    h.after h.there shards s.moves) r in
    record {
      shards = each_set NodeReads old n h.after new shards r.shards s.reads;
      times = sent.0;
      answers = sent.1;
    }
reads_step old (Swapped (Router n)) new h q c r =
    let shards = ap (λ (w : Nodes). w.shards) h.nodes in
    let sent =
    same_sent old new (ap (λ (w : Nodes). w.sent) h.nodes) (goes_same old new shards) r in
    record {
      shards = each_same NodeReads old new shards r.shards;
      times = sent.0;
      answers = sent.1;
    }

pub reads_part : (nodes : Nodes) → ReadsStand nodes → ReadsBehind nodes
reads_part nodes r = record {
  answers = r.answers;
  records = all_places RecordsBehind nodes.shards (λ i n e. (r.shards i n e).records);
}
