-- Each event keeps that live transactions are as they were answered.
use Rattle.std.proofs.Common.{◌≡◌, inl, inr, ◌++◌, ℕ, suc, zero, All, List, [], ◌∷◌, Some, None}
use Rattle.std.proofs.Common.{sym, ap, subst, ◌∙◌, arith}
use Rattle.std.specs.Prelude.{Contains}
use Rattle.std.proofs.lemmas.List.Elements.{All-nil, All-weaker}
use Rattle.txn_types.specs.declared.event.NodeAnswer.{NodeAnswer}
use Rattle.txn_types.specs.declared.event.NodeEvent.{NodeEvent}
use Rattle.txn_types.specs.declared.message.Envelope.{Envelope}
use Rattle.txn_types.specs.declared.node.Lsid.{Lsid}
use Rattle.txn_types.specs.declared.node.NodeId.TheVariants.{Shard, Router}
use Rattle.journal_rec.specs.declared.record.Rec.{Rec}
use Rattle.chunk_map.specs.Map.{Map}
use Rattle.participant.specs.declared.said.Open.{Open}
use Rattle.shard_core.specs.State.{ShardState}
use Rattle.shard_core.specs.Core.{core_step}
use Rattle.shard_core.specs.NodeStep.{NodeState, ShardTakes, started}
use Rattle.txn_model.specs.declared.ran.Ran.{Ran}
use Rattle.txn_model.specs.declared.ran.Ran.TheVariants.{Step, Swapped}
use Rattle.txn_types.specs.Letters.{given_out}
use Rattle.cluster_core.specs.Nodes.{Nodes}
use Rattle.cluster_core.specs.Parts.{IsRunning, LiveAsAnswered}
use Rattle.cluster_core.specs.Trace.{Happens, IsTrace, IsFresh}
use Rattle.world_laws.specs.Clocks.{EachShard}
use Rattle.world_laws.proofs.Clocks.{started_is, each_set, each_same}
use Rattle.live_laws.specs.Live.{LiveStands}
use Rattle.live_laws.proofs.Opens.{AllLive}
use Rattle.live_laws.proofs.Steps.{AnsweredIn, step_live}
use Rattle.world_laws.proofs.Lists.{all_places}

-- of a shard, by the list of what was sent
abbrev LiveIn : List Envelope → NodeState → Type 0
LiveIn sent n = IsRunning n
    → AllLive (AnsweredIn sent n.core.part.shard n.core.part.boot) n.core.part

-- Longer lists.

in_front : {A : Type 0} (xs ys : List A) (x : A) → Contains xs x → Contains (xs ++ ys) x
in_front [] ys x h = absurd (omega (arith, h.1))
in_front (a ∷ xs) ys x (zero, below, e) = (zero, omega arith, e)
in_front (a ∷ xs) ys x (suc k, below, e) = let more =
    in_front xs ys x (k, omega (arith, below), e) in (suc more.0, omega (arith, more.1), more.2)

at_end : {A : Type 0} (xs ys : List A) (x : A) → Contains ys x → Contains (xs ++ ys) x
at_end [] ys x h = h
at_end (a ∷ xs) ys x h = let more = at_end xs ys x h in (suc more.0, omega (arith, more.1), more.2)

answered_more : (sent more : List Envelope) → ((e : Envelope) → Contains sent e → Contains more e)
    → (shard boot : ℕ) (o : Open) → AnsweredIn sent shard boot o → AnsweredIn more shard boot o
answered_more sent more grows shard boot o h = (h.0, h.1, grows h.0 h.2, h.3, h.4)

live_more : (sent more : List Envelope) → ((e : Envelope) → Contains sent e → Contains more e)
    → (n : NodeState) → LiveIn sent n → LiveIn more n
live_more sent more grows n h runs =
    All-weaker (λ (entry : Lsid × Open). AnsweredIn sent n.core.part.shard n.core.part.boot entry.1)
    (λ (entry : Lsid × Open). AnsweredIn more n.core.part.shard n.core.part.boot entry.1)
    (λ entry k. answered_more sent more grows n.core.part.shard n.core.part.boot entry.1 k)
    n.core.part.live (h runs)

-- A shard's step.

no_stop : (faults : ℕ) → Some faults ≡ None → ⊥
no_stop faults e = cc

takes_live : (sent : List Envelope) (old : NodeState) (e : NodeEvent) (a : NodeAnswer)
    (new : NodeState) → ShardTakes old e a new → LiveIn sent old → LiveIn (sent ++ given_out a) new
takes_live sent old e a new (room, inl d) h runs =
    let o = core_step room old.core e in
    let P = AnsweredIn (sent ++ given_out o.answer) o.core.part.shard o.core.part.boot in
    let k = step_live P room old.core e in
    let was : old.core.stopped ≡ None =
    k.1 (sym (ap (λ (c : ShardState). c.stopped) d.core) ∙ runs) in
    let Q = λ (shard boot : ℕ). All (λ (entry : Lsid × Open).
    AnsweredIn (sent ++ given_out o.answer) shard boot entry.1) old.core.part.live in
    let before = live_more sent (sent ++ given_out o.answer) (in_front sent (given_out o.answer))
    old h was in
    let moved = subst (λ (n : ℕ). Q n o.core.part.boot) (sym k.0.shard)
    (subst (λ (n : ℕ). Q old.core.part.shard n) (sym k.0.boot) before) in
    let now = k.0.live (λ x t. answered_more (given_out o.answer) (sent ++ given_out o.answer)
    (at_end sent (given_out o.answer)) o.core.part.shard o.core.part.boot x t) moved in
    subst (λ (x : NodeAnswer). AllLive (AnsweredIn (sent ++ given_out x) new.core.part.shard
    new.core.part.boot) new.core.part) (sym d.told)
    (subst (λ (c : ShardState). AllLive (AnsweredIn (sent ++ given_out o.answer) c.part.shard
    c.part.boot) c.part) (sym d.core) now)
takes_live sent old e a new (room, inr d) h runs =
    absurd (no_stop new.faults (sym (ap (λ (c : ShardState). c.stopped) d.core) ∙ runs))

starts_live : (sent : List Envelope) (n : ℕ) (recs : List Rec) (faults : ℕ) (s : NodeState)
    → started n recs faults ≡ Some s → LiveIn sent s
starts_live sent n recs faults s e =
    subst (LiveIn sent) (sym (started_is n recs faults s e))
    (λ runs. All-nil (λ (entry : Lsid × Open). AnsweredIn sent _ _ entry.1))

-- Each event.

stands_more : (old new : Nodes) (out : List Envelope) → new.sent ≡ old.sent ++ out
    → EachShard old (λ number n. LiveIn old.sent n) → EachShard old (λ number n. LiveIn new.sent n)
stands_more old new out is h number n there =
    subst (λ (sent : List Envelope). LiveIn sent n) (sym is)
    (live_more old.sent (old.sent ++ out) (in_front old.sent out) n (h number n there))

pub live_step : (old : Nodes) (ran : Ran) (new : Nodes) → Happens old ran new → LiveStands old
    → LiveStands new
live_step old (Step (Shard n) e a faults) new h c =
    let sent = ap (λ (w : Nodes). w.sent) h.nodes in
    each_set (λ number s. LiveIn new.sent s) old n h.after new
    (ap (λ (w : Nodes). w.shards) h.nodes) (stands_more old new (given_out a) sent c)
    (subst (λ (l : List Envelope). LiveIn l h.after) (sym sent)
    (takes_live old.sent h.before e a h.after h.takes (c n h.before h.there)))
live_step old (Step (Router n) e a faults) new h c =
    each_same (λ number s. LiveIn new.sent s) old new (ap (λ (w : Nodes). w.shards) h.nodes)
    (stands_more old new (given_out a) (ap (λ (w : Nodes). w.sent) h.nodes) c)
live_step old (Swapped (Shard n)) new h c =
    let sent = ap (λ (w : Nodes). w.sent) h.nodes in
    each_set (λ number s. LiveIn new.sent s) old n h.after new
    (ap (λ (w : Nodes). w.shards) h.nodes)
    (subst (λ (l : List Envelope). EachShard old (λ number s. LiveIn l s)) (sym sent) c)
    (starts_live new.sent n h.recs h.faults h.after h.starts)
live_step old (Swapped (Router n)) new h c =
    each_same (λ number s. LiveIn new.sent s) old new (ap (λ (w : Nodes). w.shards) h.nodes)
    (subst (λ (l : List Envelope). EachShard old (λ number s. LiveIn l s))
    (sym (ap (λ (w : Nodes). w.sent) h.nodes)) c)

pub live_run : (old : Nodes) (run : List Ran) (trace : List Nodes) (new : Nodes)
    → IsTrace old run trace new → LiveStands old → LiveStands new
live_run old [] [] new h c = subst LiveStands (sym h) c
live_run old [] (nodes ∷ trace) new h c = absurd h
live_run old (ran ∷ run) [] new h c = absurd h
live_run old (ran ∷ run) (nodes ∷ trace) new h c =
    live_run h.1.0 run trace new h.1.2 (live_step old ran h.1.0 h.1.1 c)

pub live_fresh : (chunks : Map) (nodes : Nodes) → IsFresh chunks nodes → LiveStands nodes
live_fresh chunks nodes h number n e = let s = h.shards number n e in
    starts_live nodes.sent number s.0 s.1 n s.2

pub live_part : (nodes : Nodes) → LiveStands nodes → All (LiveAsAnswered nodes) nodes.shards
live_part nodes c = all_places (LiveAsAnswered nodes) nodes.shards c
