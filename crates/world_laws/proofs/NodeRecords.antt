-- Each event keeps that what shards hold and tell of prepared and committed transactions has its
-- record.
use Rattle.std.proofs.Common.{◌≡◌, ◌⊎◌, inl, inr, ℕ, All, List, [], ◌∷◌, ◌++◌, map, unwrap_or}
use Rattle.std.proofs.Common.{Option, Some, None, option_map, IfSome, Result, Ok, Err, refl, sym}
use Rattle.std.proofs.Common.{ap, subst, ◌∙◌, arith}
use Rattle.std.specs.Prelude.{Contains, slice_get, slice_set}
use Rattle.std.proofs.lemmas.Option.{slice_get-map, slice_get-get_or, slice_get_within}
use Rattle.std.proofs.lemmas.Option.{get_or_from_slice_get}
use Rattle.std.proofs.lemmas.List.Elements.{All-nil, All-head, All-tail, All-append, All-weaker}
use Rattle.std.proofs.lemmas.List.Elements.{All-contains, All-contains_itself, Contains-append_left}
use Rattle.std.proofs.lemmas.List.Elements.{Contains-append_right}
use Rattle.txn_types.specs.Order.{tag_cmp}
use Rattle.txn_types.specs.declared.decision.Decision.{Decision}
use Rattle.txn_types.specs.declared.decision.Decision.TheVariants as decision
use Rattle.txn_types.specs.declared.decision.Told.{Told}
use Rattle.txn_types.specs.declared.decision.Told.TheVariants as told
use Rattle.txn_types.specs.declared.event.Happening.{Happening}
use Rattle.txn_types.specs.declared.event.Happening.TheVariants as what
use Rattle.txn_types.specs.declared.event.NodeAnswer.{NodeAnswer}
use Rattle.txn_types.specs.declared.event.NodeEvent.{NodeEvent}
use Rattle.txn_types.specs.declared.message.Envelope.{Envelope}
use Rattle.txn_types.specs.declared.message.Msg.{Msg}
use Rattle.txn_types.specs.declared.message.Msg.TheVariants as msg
use Rattle.txn_types.specs.declared.message.Outcome.{Outcome}
use Rattle.txn_types.specs.declared.message.Vote.{Vote}
use Rattle.txn_types.specs.declared.cause.Cause.{Cause}
use Rattle.txn_types.specs.declared.names.Tag.{Tag}
use Rattle.txn_types.specs.declared.node.Lsid.{Lsid}
use Rattle.txn_types.specs.declared.node.NodeId.{NodeId}
use Rattle.txn_types.specs.declared.node.NodeId.TheVariants.{Shard, Router}
use Rattle.session_table.specs.Sessions.{state_behind}
use Rattle.session_table.specs.declared.session.Session.{Session}
use Rattle.journal_rec.specs.declared.record.Decided.{Decided}
use Rattle.journal_rec.specs.declared.record.Rec.{Rec}
use Rattle.journal_rec.specs.declared.record.Rec.TheVariants as rec
use Rattle.coordinator.specs.TwoPhase.{Coordinated, Coordinations, coordinated_of, with_decision}
use Rattle.shard_image.specs.Image.{Image, image_of, empty_image, decided_if}
use Rattle.shard_image.specs.Image as image
use Rattle.shard_core.specs.State.{ShardState}
use Rattle.shard_core.specs.Core.{Room, CoreStep, core_step}
use Rattle.shard_core.specs.NodeStep.{NodeState, ShardTakes, Appended, Failed, appends_of}
use Rattle.shard_core.specs.NodeStep.{ceiling_append, record_append, joined, core_of, node_of}
use Rattle.shard_core.specs.NodeStep.{boot_behind, started}
use Rattle.txn_model.specs.Commits.{records_of}
use Rattle.txn_model.specs.declared.ran.Ran.{Ran}
use Rattle.txn_model.specs.declared.ran.Ran.TheVariants.{Step, Swapped}
use Rattle.txn_types.specs.Letters.{given_out}
use Rattle.cluster_core.specs.Nodes.{Nodes, journals_of}
use Rattle.cluster_core.specs.Trace.{Happens, MayCome, MayRemain}
use Rattle.cluster_core.specs.Parts.{IsRunning, IsCommitAs, HasPrepared, HasCommit, VoteRecorded}
use Rattle.cluster_core.specs.Parts.{OutcomeRecorded, DecisionRecorded, IsRecorded, CommitsRecorded}
use Rattle.world_laws.specs.Clocks.{EachShard}
use Rattle.world_laws.specs.ReadTimes.{ReadsStand, IsAsked, RoutersAsk}
use Rattle.world_laws.specs.Recorded.{StateRecorded, CommitRecorded, CoordRecorded, CoreRecorded}
use Rattle.world_laws.specs.Recorded.{ToldRecorded, VoteHere, LetterRecorded, EventRecorded, Makes}
use Rattle.world_laws.specs.Recorded.{RestsOn, Here, NodeRecorded, RecordsStand}
use Rattle.world_laws.proofs.Lists.{set_get, set_there}
use Rattle.world_laws.proofs.Naming.{one, put_all, taken_all}
use Rattle.world_laws.proofs.PartTimes.{entries_put}
use Rattle.world_laws.proofs.Records.{records_step}
use Rattle.world_laws.proofs.Steps.{stopped_rests}
use Rattle.world_laws.proofs.Clocks.{started_is, rests_not, each_set, each_same}
use Rattle.world_laws.proofs.StepRecords.{step_keeps, stopped_tells, core_more, commit_more}
use Rattle.world_laws.proofs.StepRecords.{rests_more}

-- Journals of nodes.

abbrev records : NodeState → List Rec
records n = n.records

pub some_is : {A : Type 0} (x y : A) → Some x ≡ Some y → x ≡ y
some_is x y e = grind arith

record Mapped (shards : List NodeState) (recs : List Rec) : Type 0 where
  place : ℕ
  node : NodeState
  there : slice_get shards place ≡ Some node
  is : node.records ≡ recs

mapped_some : (o : Option NodeState) (recs : List Rec) → option_map records o ≡ Some recs
    → (n : NodeState) × (o ≡ Some n) × (n.records ≡ recs)
mapped_some None recs e = grind arith
mapped_some (Some n) recs e = (n, refl, some_is n.records recs e)

of_journal : (shards : List NodeState) (recs : List Rec) → Contains (map records shards) recs
    → Mapped shards recs
of_journal shards recs h =
    let there : slice_get (map records shards) h.0 ≡ Some recs =
    slice_get-get_or (map records shards) h.0 recs h.1 ∙ ap Some h.2 in
    let m =
    mapped_some (slice_get shards h.0) recs (sym (slice_get-map records shards h.0) ∙ there) in
    record { place = h.0; node = m.0; there = m.1; is = m.2 }

to_journal : (shards : List NodeState) (i : ℕ) (n : NodeState) → slice_get shards i ≡ Some n
    → Contains (map records shards) n.records
to_journal shards i n e =
    let there : slice_get (map records shards) i ≡ Some n.records = slice_get-map records shards i
    ∙ ap (option_map records) e in (
      i,
      slice_get_within (map records shards) i n.records there,
      get_or_from_slice_get (map records shards) i n.records n.records there,
    )

journal_at : (nodes : Nodes) (i : ℕ) (n : NodeState) → slice_get nodes.shards i ≡ Some n
    → records_of (journals_of nodes) i ≡ n.records
journal_at nodes i n e = ap (λ (o : Option (List Rec)). unwrap_or o []) (slice_get-map records
    nodes.shards i ∙ ap (option_map records) e)

-- Journals grow.

abbrev Grows : Nodes → Nodes → Type 0
Grows old new = (i : ℕ) (n : NodeState) → slice_get old.shards i ≡ Some n → (m : NodeState)
    × (slice_get new.shards i ≡ Some m) × ((r : Rec) → Contains n.records r → Contains m.records r)

grows_same : (old new : Nodes) → new.shards ≡ old.shards → Grows old new
grows_same old new is i n e = (n, ap (λ (l : List NodeState). slice_get l i) is ∙ e, λ r h. h)

grows_set : (old new : Nodes) (n : ℕ) (before after : NodeState)
    → slice_get old.shards n ≡ Some before → new.shards ≡ slice_set old.shards n after
    → ((r : Rec) → Contains before.records r → Contains after.records r) → Grows old new
grows_set old new n before after there is more i m e =
    elim (set_get old.shards n i after m e) [
      | inl w ↦
          let same : before ≡ m =
          some_is before m (sym there ∙ ap (slice_get old.shards) (sym w.0) ∙ e) in (
            after,
            ap (λ (l : List NodeState). slice_get l i) is ∙ w.1,
            λ r h. more r (subst (λ (x : NodeState). Contains x.records r) (sym same) h),
          )
      | inr w ↦ (m, ap (λ (l : List NodeState). slice_get l i) is ∙ w, λ r h. h)
    ]

commit_grows : (old new : Nodes) → Grows old new → (tag : Tag) (at : ℕ) → HasCommit old tag at
    → HasCommit new tag at
commit_grows old new g tag at h =
    let m = of_journal old.shards h.0 h.2 in
    let n = g m.place m.node m.there in (
      n.0.records,
      h.1,
      to_journal new.shards m.place n.0 n.1,
      n.2 h.1 (subst (λ (recs : List Rec). Contains recs h.1) (sym m.is) h.3),
      h.4,
    )

none_has : (r : Rec) → Contains [] r → ⊥
none_has r h = absurd (omega (arith, h.1))

prepared_case : (old new : Nodes) → Grows old new
    → (shard : ℕ) (tag : Tag) (at : ℕ) (o : Option NodeState) → slice_get old.shards shard ≡ o
    → HasPrepared old shard tag at → HasPrepared new shard tag at
prepared_case old new g shard tag at None e h =
    absurd (none_has h.0 (subst (λ (recs : List Rec). Contains recs h.0)
    (ap (λ (o : Option (List Rec)). unwrap_or o [])
    (slice_get-map records old.shards shard ∙ ap (option_map records) e)) h.1))
prepared_case old new g shard tag at (Some n) e h =
    let m = g shard n e in (
      h.0,
      subst (λ (recs : List Rec). Contains recs h.0) (sym (journal_at new shard m.0 m.1))
          (m.2 h.0 (subst (λ (recs : List Rec). Contains recs h.0) (journal_at old shard n e) h.1)),
      h.2,
    )

prepared_grows : (old new : Nodes) → Grows old new → (shard : ℕ) (tag : Tag) (at : ℕ)
    → HasPrepared old shard tag at → HasPrepared new shard tag at
prepared_grows old new g shard tag at h =
    prepared_case old new g shard tag at (slice_get old.shards shard) refl h

-- What was sent stays recorded.

vote_grows : (old new : Nodes) → Grows old new → (v : Vote) (vote : Result ℕ Cause)
    → VoteRecorded old (record v { vote = vote }) → VoteRecorded new (record v { vote = vote })
vote_grows old new g v (Ok at) h = prepared_grows old new g v.shard v.tag at h
vote_grows old new g v (Err why) h = tt

outcome_grows : (old new : Nodes) → Grows old new → (o : Outcome) (t : Told)
    → OutcomeRecorded old (record o { told = t }) → OutcomeRecorded new (record o { told = t })
outcome_grows old new g o (told.Committed at) h = commit_grows old new g o.tag at h
outcome_grows old new g o told.Released h = tt
outcome_grows old new g o (told.Aborted why) h = tt
outcome_grows old new g o (told.TooOld have) h = tt
outcome_grows old new g o told.NoTrace h = tt

decision_grows : (old new : Nodes) → Grows old new → (tag : Tag) (d : Decision)
    → DecisionRecorded old tag d → DecisionRecorded new tag d
decision_grows old new g tag (decision.Commit at) h = commit_grows old new g tag at h
decision_grows old new g tag (decision.Abort shard code) h = tt

pub msg_grows : (old new : Nodes) → Grows old new → (m : Msg) → IsRecorded old m → IsRecorded new m
msg_grows old new g (msg.Vote v) h = vote_grows old new g v v.vote h
msg_grows old new g (msg.Outcome o) h = outcome_grows old new g o o.told h
msg_grows old new g (msg.Decide d) h = decision_grows old new g d.tag d.decision h
msg_grows old new g (msg.Statement m) h = tt
msg_grows old new g (msg.Answer m) h = tt
msg_grows old new g (msg.Commit m) h = tt
msg_grows old new g (msg.Abort m) h = tt
msg_grows old new g (msg.CommitTwo m) h = tt
msg_grows old new g (msg.Prepare m) h = tt
msg_grows old new g (msg.Acked m) h = tt
msg_grows old new g (msg.Recover m) h = tt
msg_grows old new g msg.Nudge h = tt

abbrev Sent : Nodes → Envelope → Type 0
Sent nodes e = IsRecorded nodes e.msg

sent_on : (old new : Nodes) (out : List Envelope) → new.sent ≡ old.sent ++ out → Grows old new
    → CommitsRecorded old → All (Sent new) out → CommitsRecorded new
sent_on old new out is g h k =
    subst (All (Sent new)) (sym is) (All-append (Sent new) old.sent out (All-weaker (Sent old)
    (Sent new) (λ (e : Envelope). msg_grows old new g e.msg) old.sent h) k)

sent_same : (old new : Nodes) → new.sent ≡ old.sent → Grows old new → CommitsRecorded old
    → CommitsRecorded new
sent_same old new is g h = subst (All (Sent new)) (sym is) (All-weaker (Sent old) (Sent new)
    (λ (e : Envelope). msg_grows old new g e.msg) old.sent h)

asked_recorded : (nodes : Nodes) (m : Msg) → IsAsked m → IsRecorded nodes m
asked_recorded nodes (msg.Vote v) h = absurd h
asked_recorded nodes (msg.Outcome o) h = absurd h
asked_recorded nodes (msg.Decide d) h = absurd h
asked_recorded nodes (msg.Statement m) h = tt
asked_recorded nodes (msg.Answer m) h = tt
asked_recorded nodes (msg.Commit m) h = tt
asked_recorded nodes (msg.Abort m) h = tt
asked_recorded nodes (msg.CommitTwo m) h = tt
asked_recorded nodes (msg.Prepare m) h = tt
asked_recorded nodes (msg.Acked m) h = tt
asked_recorded nodes (msg.Recover m) h = tt
asked_recorded nodes msg.Nudge h = tt

-- What a shard tells.

here_prepared : (nodes : Nodes) (n : ℕ) (node : NodeState) → slice_get nodes.shards n ≡ Some node
    → (tag : Tag) (at : ℕ) → Here node tag at → HasPrepared nodes n tag at
here_prepared nodes n node e tag at h =
    (h.0, subst (λ (recs : List Rec). Contains recs h.0) (sym (journal_at nodes n node e)) h.1, h.2)

vote_told : (nodes : Nodes) (n : ℕ) (node : NodeState) → slice_get nodes.shards n ≡ Some node
    → (v : Vote) (vote : Result ℕ Cause) → v.shard ≡ n → VoteHere (Here node) v.tag vote
    → VoteRecorded nodes (record v { vote = vote })
vote_told nodes n node e v (Ok at) s h = subst (λ (k : ℕ). HasPrepared nodes k v.tag at) (sym s)
    (here_prepared nodes n node e v.tag at h)
vote_told nodes n node e v (Err why) s h = tt

outcome_told : (nodes : Nodes) (o : Outcome) (t : Told) → ToldRecorded (HasCommit nodes) o.tag t
    → OutcomeRecorded nodes (record o { told = t })
outcome_told nodes o (told.Committed at) h = h
outcome_told nodes o told.Released h = tt
outcome_told nodes o (told.Aborted why) h = tt
outcome_told nodes o (told.TooOld have) h = tt
outcome_told nodes o told.NoTrace h = tt

decision_told : (nodes : Nodes) (tag : Tag) (d : Decision) → CommitRecorded (HasCommit nodes) tag d
    → DecisionRecorded nodes tag d
decision_told nodes tag (decision.Commit at) h = h
decision_told nodes tag (decision.Abort shard code) h = tt

letter_told : (nodes : Nodes) (n : ℕ) (node : NodeState) → slice_get nodes.shards n ≡ Some node
    → (shard : ℕ) → shard ≡ n → (m : Msg) → LetterRecorded (Here node) (HasCommit nodes) shard m
    → IsRecorded nodes m
letter_told nodes n node e shard s (msg.Vote v) h = vote_told nodes n node e v v.vote (h.1 ∙ s) h.0
letter_told nodes n node e shard s (msg.Outcome o) h = outcome_told nodes o o.told h
letter_told nodes n node e shard s (msg.Decide d) h = decision_told nodes d.tag d.decision h
letter_told nodes n node e shard s (msg.Statement m) h = tt
letter_told nodes n node e shard s (msg.Answer m) h = tt
letter_told nodes n node e shard s (msg.Commit m) h = tt
letter_told nodes n node e shard s (msg.Abort m) h = tt
letter_told nodes n node e shard s (msg.CommitTwo m) h = tt
letter_told nodes n node e shard s (msg.Prepare m) h = tt
letter_told nodes n node e shard s (msg.Acked m) h = tt
letter_told nodes n node e shard s (msg.Recover m) h = tt
letter_told nodes n node e shard s msg.Nudge h = tt

-- what is delivered was recorded

comes_case : (nodes : Nodes) (tag : Tag) (d : Decision) → DecisionRecorded nodes tag d
    → CommitRecorded (HasCommit nodes) tag d
comes_case nodes tag (decision.Commit at) h = h
comes_case nodes tag (decision.Abort shard code) h = tt

msg_comes : (nodes : Nodes) (e : Envelope) (m : Msg) → e.msg ≡ m → IsRecorded nodes m
    → EventRecorded (HasCommit nodes) (what.Deliver (record e { msg = m }))
msg_comes nodes e (msg.Decide d) is h = comes_case nodes d.tag d.decision h
msg_comes nodes e (msg.Vote v) is h = tt
msg_comes nodes e (msg.Outcome o) is h = tt
msg_comes nodes e (msg.Statement m) is h = tt
msg_comes nodes e (msg.Answer m) is h = tt
msg_comes nodes e (msg.Commit m) is h = tt
msg_comes nodes e (msg.Abort m) is h = tt
msg_comes nodes e (msg.CommitTwo m) is h = tt
msg_comes nodes e (msg.Prepare m) is h = tt
msg_comes nodes e (msg.Acked m) is h = tt
msg_comes nodes e (msg.Recover m) is h = tt
msg_comes nodes e msg.Nudge is h = tt

comes_recorded : (nodes : Nodes) (node : NodeId) (w : Happening) → CommitsRecorded nodes
    → MayCome nodes.sent node w → EventRecorded (HasCommit nodes) w
comes_recorded nodes node (what.Client conn frame) h k = tt
comes_recorded nodes node (what.Gone conn) h k = tt
comes_recorded nodes node (what.Deliver e) h k =
    msg_comes nodes e e.msg refl (All-contains (Sent nodes) nodes.sent e h k.0)
comes_recorded nodes node what.Resend h k = tt
comes_recorded nodes node what.Moment h k = tt

event_more : (C D : Tag → ℕ → Type 0) → ((tag : Tag) (at : ℕ) → C tag at → D tag at)
    → (w : Happening) → EventRecorded C w → EventRecorded D w
event_more C D f (what.Client conn frame) h = tt
event_more C D f (what.Gone conn) h = tt
event_more C D f (what.Deliver e) h = by e.msg h
  where
    by : (m : Msg) → EventRecorded C (what.Deliver (record e { msg = m }))
        → EventRecorded D (what.Deliver (record e { msg = m }))
    by (msg.Decide d) h = commit_more C C D D f f d.tag d.decision h
    by (msg.Vote v) h = tt
    by (msg.Outcome o) h = tt
    by (msg.Statement m) h = tt
    by (msg.Answer m) h = tt
    by (msg.Commit m) h = tt
    by (msg.Abort m) h = tt
    by (msg.CommitTwo m) h = tt
    by (msg.Prepare m) h = tt
    by (msg.Acked m) h = tt
    by (msg.Recover m) h = tt
    by msg.Nudge h = tt
event_more C D f what.Resend h = tt
event_more C D f what.Moment h = tt

-- A record among a shard's makes what it says.

makes_in : (nodes : Nodes) (n : ℕ) (node : NodeState) → slice_get nodes.shards n ≡ Some node
    → (r : Rec) → Contains node.records r → Makes (Here node) (HasCommit nodes) r
makes_in nodes n node e (rec.Boot boot) h = tt
makes_in nodes n node e (rec.Ceiling bound) h = tt
makes_in nodes n node e (rec.Commit tag lsid number read_at at writes) h = (
  node.records,
  rec.Commit tag lsid number read_at at writes,
  to_journal nodes.shards n node e,
  h,
  (refl, refl),
)
makes_in nodes n node e (rec.Prepared tag lsid number boot read_at at coordinator writes) h =
    (rec.Prepared tag lsid number boot read_at at coordinator writes, h, (refl, refl))
makes_in nodes n node e (rec.Decided d) h = tt
makes_in nodes n node e (rec.CoordStart tag lsid number parts) h = tt
makes_in nodes n node e (rec.CoordDecision tag (decision.Commit at)) h = (
  node.records,
  rec.CoordDecision tag (decision.Commit at),
  to_journal nodes.shards n node e,
  h,
  (refl, refl),
)
makes_in nodes n node e (rec.CoordDecision tag (decision.Abort shard code)) h = tt
makes_in nodes n node e (rec.CoordEnd tag) h = tt
makes_in nodes n node e (rec.Floor floor) h = tt

in_appends : (o : CoreStep) (r : Rec) → o.rec ≡ Some r → Contains (joined (appends_of o)) r
in_appends o r e = by o.ceiling o.rec e
  where
    by : (bound : Option ℕ) (q : Option Rec) → q ≡ Some r
        → Contains (joined (ceiling_append bound ++ record_append q)) r
    by bound None e = grind arith
    by None (Some q) e = (0, omega arith, some_is q r e)
    by (Some b) (Some q) e = (1, omega arith, some_is q r e)

made : (nodes : Nodes) (n : ℕ) (old node : NodeState) (o : CoreStep) (a : NodeAnswer)
    → slice_get nodes.shards n ≡ Some node → Appended old o a node → (q : Option Rec) → o.rec ≡ q
    → IfSome q (Makes (Here node) (HasCommit nodes))
made nodes n old node o a e d None is = tt
made nodes n old node o a e d (Some r) is =
    makes_in nodes n node e r (subst (λ (recs : List Rec). Contains recs r) (sym d.records)
    (Contains-append_right old.records (joined (appends_of o)) r (in_appends o r is)))

-- What a record rests on, whether it stands or not.

abbrev So : (Tag → ℕ → Type 0) → Option Rec → Tag → ℕ → Type 0
So C q tag at = C tag at ⊎ IfSome q (IsCommitAs tag at)

abbrev Any : Tag → ℕ → Type 0
Any tag at = Unit {0}

made_so : (C : Tag → ℕ → Type 0) (q : Option Rec) → IfSome q (Makes Any (So C q))
made_so C None = tt
made_so C (Some (rec.Boot boot)) = tt
made_so C (Some (rec.Ceiling bound)) = tt
made_so C (Some (rec.Commit tag lsid number read_at at writes)) = inr (refl, refl)
made_so C (Some (rec.Prepared tag lsid number boot read_at at coordinator writes)) = tt
made_so C (Some (rec.Decided d)) = tt
made_so C (Some (rec.CoordStart tag lsid number parts)) = tt
made_so C (Some (rec.CoordDecision tag (decision.Commit at))) = inr (refl, refl)
made_so C (Some (rec.CoordDecision tag (decision.Abort shard code))) = tt
made_so C (Some (rec.CoordEnd tag)) = tt
made_so C (Some (rec.Floor floor)) = tt

decided_down : (C : Tag → ℕ → Type 0) (q : Decided) (d : Decision) (tag : Tag)
    → CommitRecorded (So C (Some (rec.Decided q))) tag d → CommitRecorded C tag d
decided_down C q (decision.Commit at) tag (inl h) = h
decided_down C q (decision.Commit at) tag (inr h) = absurd h
decided_down C q (decision.Abort shard code) tag h = tt

rests_down : (C : Tag → ℕ → Type 0) (q : Option Rec) → IfSome q (RestsOn (So C q))
    → IfSome q (RestsOn C)
rests_down C None h = tt
rests_down C (Some (rec.Boot boot)) h = tt
rests_down C (Some (rec.Ceiling bound)) h = tt
rests_down C (Some (rec.Commit tag lsid number read_at at writes)) h = tt
rests_down C (Some (rec.Prepared tag lsid number boot read_at at coordinator writes)) h = tt
rests_down C (Some (rec.Decided d)) h = decided_down C d d.decision d.tag h
rests_down C (Some (rec.CoordStart tag lsid number parts)) h = tt
rests_down C (Some (rec.CoordDecision tag d)) h = tt
rests_down C (Some (rec.CoordEnd tag)) h = tt
rests_down C (Some (rec.Floor floor)) h = tt

-- A step of a shard.

abbrev C : Nodes → Tag → ℕ → Type 0
C nodes = HasCommit nodes

core_grows : (old new : Nodes) → Grows old new → (n m : NodeState)
    → ((r : Rec) → Contains n.records r → Contains m.records r) → (s : ShardState)
    → CoreRecorded (Here n) (C old) s → CoreRecorded (Here m) (C new) s
core_grows old new g n m more s h = core_more (Here n) (C old) (Here m) (C new) (λ tag at k.
    (k.0, more k.0 k.1, k.2)) (commit_grows old new g) s h

rests_grow : (old new : Nodes) → Grows old new → (recs : List Rec) → All (RestsOn (C old)) recs
    → All (RestsOn (C new)) recs
rests_grow old new g recs h = All-weaker (RestsOn (C old)) (RestsOn (C new)) (rests_more (C old)
    (C old) (C new) (C new) (commit_grows old new g) (commit_grows old new g)) recs h

-- a shard that didn't take the event
other_stands : (old new : Nodes) → Grows old new → (n : NodeState) → NodeRecorded old n
    → NodeRecorded new n
other_stands old new g n h = record {
  core = λ run. core_grows old new g n n (λ r k. k) n.core (h.core run);
  records = rests_grow old new g n.records h.records;
  hand = rests_grow old new g n.hand h.hand;
}

-- what the step's record rests on
step_rests : (old new : Nodes) → Grows old new → (n : NodeState) (room : Room) (e : NodeEvent)
    → n.core.stopped ≡ None → NodeRecorded old n → EventRecorded (C old) e.what
    → IfSome (core_step room n.core e).rec (RestsOn (C new))
step_rests old new g n room e run h k =
    let o = core_step room n.core e in
    let D = So (C new) o.rec in
    let s = step_keeps Any D room n.core e run (core_more (Here n) (C old) Any D (λ tag at x. tt)
    (λ tag at x. inl (commit_grows old new g tag at x)) n.core (h.core run)) (event_more (C old)
    D (λ tag at x. inl (commit_grows old new g tag at x)) e.what k) (made_so (C new) o.rec) in
    rests_down (C new) o.rec s.rec

pub record Stepped (new : Nodes) (n : ℕ) (after : NodeState) (a : NodeAnswer) : Type 0 where
  pub stands : NodeRecorded new after
  pub out : All (Sent new) (given_out a)

stopped_not : (n : NodeState) (faults : ℕ) → n.core.stopped ≡ Some faults → IsRunning n → ⊥
stopped_not n faults h run = let bad : None ≡ Some faults = sym run ∙ h in grind (arith, bad)

letters_told : (new : Nodes) (n : ℕ) (after : NodeState)
    → slice_get new.shards n ≡ Some after → (shard : ℕ) → shard ≡ n → (out : List Envelope)
    → All (λ e. LetterRecorded (Here after) (C new) shard e.msg) out → All (Sent new) out
letters_told new n after e shard s out h =
    All-weaker (λ (e : Envelope). LetterRecorded (Here after) (C new) shard e.msg) (Sent new)
    (λ (x : Envelope). letter_told new n after e shard s x.msg) out h

takes_by : (old new : Nodes) (n : ℕ) (before : NodeState) (room : Room) (e : NodeEvent)
    (a : NodeAnswer) (after : NodeState) (stopped : Option ℕ) → before.core.stopped ≡ stopped
    → Grows old new → slice_get new.shards n ≡ Some after
    → before.core.part.shard ≡ n → after.core.part.shard ≡ n
    → ((r : Rec) → Contains before.records r → Contains after.records r)
    → EventRecorded (C old) e.what → NodeRecorded old before
    → (Appended before (core_step room before.core e) a after
    ⊎ Failed before (core_step room before.core e) a after) → Stepped new n after a
takes_by old new n before room e a after None run g there was own more k h (inl d) =
    let o = core_step room before.core e in
    let s = step_keeps (Here after) (C new) room before.core e run (core_grows old new g before
    after more before.core (h.core run)) (event_more (C old) (C new) (commit_grows old new g)
    e.what k) (made new n before after o a there d o.rec refl) in
    let r = records_step (RestsOn (C new)) before o a after (λ b. tt) s.rec (rests_grow old new g
    before.records h.records) (rests_grow old new g before.hand h.hand) (inl d) in
    record {
      stands = record {
        core = λ x. subst (CoreRecorded (Here after) (C new)) (sym d.core) s.core;
        records = r.0;
        hand = r.1;
      };
      out = subst (λ (x : NodeAnswer). All (Sent new) (given_out x)) (sym d.told) (letters_told new
          n after there o.core.part.shard (ap (λ (c : ShardState). c.part.shard) (sym d.core) ∙ own)
          (given_out o.answer) s.out);
    }
takes_by old new n before room e a after None run g there was own more k h (inr d) =
    let o = core_step room before.core e in
    let r = records_step (RestsOn (C new)) before o a after (λ b.
    tt) (step_rests old new g before room e run h k) (rests_grow old new g before.records
    h.records) (rests_grow old new g before.hand h.hand) (inr d) in
    record {
      stands = record {
        core = λ x. absurd (stopped_not after after.faults
            (ap (λ (c : ShardState). c.stopped) d.core) x);
        records = r.0;
        hand = r.1;
      };
      out = subst (λ (x : NodeAnswer). All (Sent new) (given_out x)) (sym d.told)
          (All-nil (Sent new));
    }
takes_by old new n before room e a after (Some faults) is g there was own more k h (inl d) =
    let o = core_step room before.core e in
    let q = stopped_rests room before.core e faults is in
    let none : IfSome o.rec (RestsOn (C new)) =
    subst (λ (r : Option Rec). IfSome r (RestsOn (C new))) (sym q.rec) tt in
    let r = records_step (RestsOn (C new)) before o a after (λ b. tt) none (rests_grow old new g
    before.records h.records) (rests_grow old new g before.hand h.hand) (inl d) in
    record {
      stands = record {
        core = λ x. absurd (stopped_not after faults
            (ap (λ (c : ShardState). c.stopped) (d.core ∙ q.core) ∙ is) x);
        records = r.0;
        hand = r.1;
      };
      out = subst (λ (x : NodeAnswer). All (Sent new) (given_out x)) (sym d.told)
          (letters_told new n after there before.core.part.shard was (given_out o.answer)
          (stopped_tells (Here after) (C new) room before.core e faults is));
    }
takes_by old new n before room e a after (Some faults) is g there was own more k h (inr d) =
    absurd (rests_not before room e a after faults is d)

-- a step only adds records
takes_more : (before : NodeState) (e : NodeEvent) (a : NodeAnswer) (after : NodeState)
    → ShardTakes before e a after → (r : Rec) → Contains before.records r → Contains after.records r
takes_more before e a after h r k =
    elim (h.1) [
      | inl d ↦ subst (λ (recs : List Rec). Contains recs r) (sym d.records) (Contains-append_left
          before.records (joined (appends_of (core_step h.0 before.core e))) r k)
      | inr d ↦ subst (λ (recs : List Rec). Contains recs r) (sym d.records)
          (Contains-append_left before.records (joined d.kept) r k)
    ]

-- A start.

record ImageRecorded (V D : Tag → ℕ → Type 0) (i : Image) : Type 0 where
  sessions : All (λ entry. StateRecorded V D entry.1.tag entry.1.state) i.sessions.entries
  coord : CoordRecorded D i.coord

module _ (V D : Tag → ℕ → Type 0) where
  abbrev In : Lsid × Session → Type 0
  In entry = StateRecorded V D entry.1.tag entry.1.state

  abbrev InCoord : Tag × Coordinated → Type 0
  InCoord c = IfSome c.1.decision (CommitRecorded D c.0)

  decided_state : (tag : Tag) (d : Decision) → CommitRecorded D tag d
      → StateRecorded V D tag (state_behind d)
  decided_state tag (decision.Commit at) h = h
  decided_state tag (decision.Abort shard code) h = tt

  decided_coord : (coords : Coordinations) (tag : Tag) (d : Decision) (c : Option Coordinated)
      → CommitRecorded D tag d → CoordRecorded D coords
      → CoordRecorded D (decided_if coords tag d c)
  decided_coord coords tag d None k h = h
  decided_coord coords tag d (Some c) k h =
      put_all tag_cmp InCoord tag (with_decision (Some d) c) coords k h

  changed_keeps : (i : Image) (r : Rec) → Makes V D r → RestsOn D r → ImageRecorded V D i
      → ImageRecorded V D (image.with_record i r)
  changed_keeps i (rec.Boot boot) m k h = record { sessions = h.sessions; coord = h.coord }
  changed_keeps i (rec.Ceiling bound) m k h = record { sessions = h.sessions; coord = h.coord }
  changed_keeps i (rec.Commit tag lsid number read_at at writes) m k h =
      record { sessions = entries_put In lsid _ i.sessions.entries m h.sessions; coord = h.coord }
  changed_keeps i (rec.Prepared tag lsid number boot read_at at coordinator writes) m k h =
      record { sessions = entries_put In lsid _ i.sessions.entries m h.sessions; coord = h.coord }
  changed_keeps i (rec.Decided d) m k h = record {
    sessions =
        entries_put In d.lsid _ i.sessions.entries (decided_state d.tag d.decision k) h.sessions;
    coord = h.coord;
  }
  changed_keeps i (rec.CoordStart tag lsid number parts) m k h =
      record { sessions = h.sessions; coord = put_all tag_cmp InCoord tag _ i.coord tt h.coord }
  changed_keeps i (rec.CoordDecision tag d) m k h = record {
    sessions = h.sessions;
    coord = decided_coord i.coord tag d (coordinated_of i.coord tag) m h.coord;
  }
  changed_keeps i (rec.CoordEnd tag) m k h =
      record { sessions = h.sessions; coord = taken_all tag_cmp InCoord tag i.coord h.coord }
  changed_keeps i (rec.Floor floor) m k h = record { sessions = h.sessions; coord = h.coord }

  image_keeps : (recs : List Rec) (i : Image) → All (Makes V D) recs → All (RestsOn D) recs
      → ImageRecorded V D i → ImageRecorded V D (image.with_records i recs)
  image_keeps [] i m k h = h
  image_keeps (r ∷ recs) i m k h =
      image_keeps recs (image.with_record i r)
      (All-tail (Makes V D) r recs m) (All-tail (RestsOn D) r recs k)
      (changed_keeps i r (All-head (Makes V D) r recs m) (All-head (RestsOn D) r recs k) h)

  of_image : (recs : List Rec) → All (Makes V D) recs → All (RestsOn D) recs
      → ImageRecorded V D (image_of recs)
  unfolding image_of
  of_image recs m k =
      image_keeps recs empty_image m k (record { sessions = All-nil In; coord = All-nil InCoord })

  core_recorded : (n : ℕ) (recs : List Rec) → All (Makes V D) recs → All (RestsOn D) recs
      → CoreRecorded V D (core_of n (image_of recs))
  core_recorded n recs m k = let h = of_image recs m k in
      record { part = h.sessions; coord = h.coord }

-- a shard that starts from records that rest on what stands
pub starts_recorded : (nodes : Nodes) (n : ℕ) (recs : List Rec) (faults : ℕ) (after : NodeState)
    → slice_get nodes.shards n ≡ Some after → started n recs faults ≡ Some after
    → All (RestsOn (C nodes)) recs → NodeRecorded nodes after
starts_recorded nodes n recs faults after there is h =
    let more = recs ++ boot_behind (image_of recs) ∷ [] in
    let node = node_of n more faults in
    let same = started_is n recs faults after is in
    let at : slice_get nodes.shards n ≡ Some node = there ∙ ap Some same in
    let rests : All (RestsOn (C nodes)) more = All-append (RestsOn (C nodes)) recs (boot_behind
    (image_of recs) ∷ []) h (one (RestsOn (C nodes)) (boot_behind (image_of recs)) tt) in
    let makes : All (Makes (Here node) (C nodes)) more = All-weaker (Contains more)
    (Makes (Here node) (C nodes)) (makes_in nodes n node at) more (All-contains_itself more) in
    subst (NodeRecorded nodes) (sym same) (record {
      core = λ run. core_recorded (Here node) (C nodes) n more makes rests;
      records = rests;
      hand = All-nil (RestsOn (C nodes));
    })

remains_more : (before : NodeState) (recs : List Rec) → MayRemain before recs → (r : Rec)
    → Contains before.records r → Contains recs r
remains_more before recs (inl e) r h = subst (λ (x : List Rec). Contains x r) (sym e) h
remains_more before recs (inr e) r h = subst (λ (x : List Rec).
    Contains x r) (sym e) (Contains-append_left before.records before.hand r h)

starts_more : (n : ℕ) (before : NodeState) (recs : List Rec) (faults : ℕ) (after : NodeState)
    → MayRemain before recs → started n recs faults ≡ Some after → (r : Rec)
    → Contains before.records r → Contains after.records r
starts_more n before recs faults after m is r h =
    subst (λ (x : NodeState). Contains x.records r) (sym (started_is n recs faults after is))
    (Contains-append_left recs (boot_behind (image_of recs) ∷ []) r
    (remains_more before recs m r h))

remains_rests : (D : Tag → ℕ → Type 0) (before : NodeState) (recs : List Rec)
    → MayRemain before recs → All (RestsOn D) before.records → All (RestsOn D) before.hand
    → All (RestsOn D) recs
remains_rests D before recs (inl e) h k = subst (All (RestsOn D)) (sym e) h
remains_rests D before recs (inr e) h k =
    subst (All (RestsOn D)) (sym e) (All-append (RestsOn D) before.records before.hand h k)

-- Each event.

others_stand : (old new : Nodes) → Grows old new → EachShard old (λ number n. NodeRecorded old n)
    → EachShard old (λ number n. NodeRecorded new n)
others_stand old new g h number n e = other_stands old new g n (h number n e)

there_now : (old new : Nodes) (n : ℕ) (before after : NodeState)
    → slice_get old.shards n ≡ Some before → new.shards ≡ slice_set old.shards n after
    → slice_get new.shards n ≡ Some after
there_now old new n before after there is = ap (λ (l : List NodeState). slice_get l n) is
    ∙ set_there old.shards n after before there

pub records_kept : (old : Nodes) (ran : Ran) (new : Nodes) → Happens old ran new → RoutersAsk ran
    → ReadsStand old → ReadsStand new → RecordsStand old → RecordsStand new
records_kept old (Step (Shard n) e a faults) new h q r r' s =
    let shards = ap (λ (w : Nodes). w.shards) h.nodes in
    let more = takes_more h.before e a h.after h.takes in
    let g = grows_set old new n h.before h.after h.there shards more in
    let at = there_now old new n h.before h.after h.there shards in
    let t = takes_by old new n h.before h.takes.0 e a h.after h.before.core.stopped refl g at
    (r.shards n h.before h.there).own (r'.shards n h.after at).own more (comes_recorded old
    (Shard n) e.what s.sent h.comes) (s.shards n h.before h.there) h.takes.1 in
    record {
      shards = each_set (λ number m. NodeRecorded new m) old n h.after new shards (others_stand old
          new g s.shards) t.stands;
      sent = sent_on old new (given_out a) (ap (λ (w : Nodes). w.sent) h.nodes) g s.sent t.out;
    }
records_kept old (Step (Router n) e a faults) new h q r r' s =
    let shards = ap (λ (w : Nodes). w.shards) h.nodes in
    let g = grows_same old new shards in
    record {
      shards = each_same (λ number m. NodeRecorded new m) old new shards (others_stand old new
          g s.shards);
      sent = sent_on old new (given_out a) (ap (λ (w : Nodes). w.sent) h.nodes)
          g s.sent (All-weaker (λ (e : Envelope). IsAsked e.msg) (Sent new)
          (λ (e : Envelope). asked_recorded new e.msg) (given_out a) q);
    }
records_kept old (Swapped (Shard n)) new h q r r' s =
    let shards = ap (λ (w : Nodes). w.shards) h.nodes in
    let g = grows_set old new n h.before h.after h.there shards (starts_more n h.before h.recs
    h.faults h.after h.remain h.starts) in
    let was = s.shards n h.before h.there in
    let stands = starts_recorded new n h.recs h.faults h.after (there_now old new n h.before h.after
    h.there shards) h.starts
    (remains_rests (C new) h.before h.recs h.remain (rests_grow old new g h.before.records
    was.records) (rests_grow old new g h.before.hand was.hand)) in
    record {
      shards = each_set (λ number m. NodeRecorded new m) old n h.after new shards (others_stand old
          new g s.shards) stands;
      sent = sent_same old new (ap (λ (w : Nodes). w.sent) h.nodes) g s.sent;
    }
records_kept old (Swapped (Router n)) new h q r r' s =
    let shards = ap (λ (w : Nodes). w.shards) h.nodes in
    let g = grows_same old new shards in
    record {
      shards = each_same (λ number m. NodeRecorded new m) old new shards (others_stand old new
          g s.shards);
      sent = sent_same old new (ap (λ (w : Nodes). w.sent) h.nodes) g s.sent;
    }
