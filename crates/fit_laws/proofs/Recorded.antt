-- Each record of a shard, and each in hand, fits its bytes, in runs on one shard.
use Rattle.std.proofs.Common.{◌≡◌, ◌⊎◌, inl, inr, ⊎_elim, ◌+◌, ◌≤◌, ◌<◌, ◌^◌, ◌++◌, ℕ, ℤ, zero, suc}
use Rattle.std.proofs.Common.{Bool, true, false, All, List, [], ◌∷◌, Option, Some, None, refl, sym, ap}
use Rattle.std.proofs.Common.{subst, ◌∙◌, arith, IfSome, unwrap_or, slice_get, length}
use Rattle.std.proofs.Common.{if◌then◌else◌}
use Rattle.std.specs.Prelude.{Contains, nat_lt}
use Rattle.std.proofs.lemmas.List.{append-nil, append_assoc}
use Rattle.std.proofs.lemmas.List.Elements.{All-nil, All-cons, All-head, All-tail, All-append}
use Rattle.std.proofs.lemmas.List.Elements.{All-weaker, All-contains, Contains-append_left}
use Rattle.txn_types.specs.Letters.{Named, given_out}
use Rattle.txn_types.specs.Limits.{most_written}
use Rattle.txn_types.specs.declared.event.Happening.{Happening}
use Rattle.txn_types.specs.declared.event.Happening.TheVariants as what
use Rattle.txn_types.specs.declared.event.NodeAnswer.{NodeAnswer}
use Rattle.txn_types.specs.declared.event.NodeEvent.{NodeEvent}
use Rattle.txn_types.specs.declared.message.Commit.{Commit}
use Rattle.txn_types.specs.declared.message.Envelope.{Envelope}
use Rattle.txn_types.specs.declared.message.Msg.{Msg}
use Rattle.txn_types.specs.declared.message.Msg.TheVariants as msg
use Rattle.txn_types.specs.declared.names.Tag.{Tag}
use Rattle.txn_types.specs.declared.node.Lsid.{Lsid}
use Rattle.txn_types.specs.declared.node.NodeId.{NodeId}
use Rattle.txn_types.specs.declared.node.NodeId.TheVariants.{Shard, Router}
use Rattle.txn_types.specs.declared.write.Write.{Write}
use Rattle.txn_semantics.specs.declared.commits.Entry.{Entry}
use Rattle.journal_rec.specs.Follows.{first_refused}
use Rattle.journal_rec.specs.Spelling.{body_bytes}
use Rattle.journal_rec.specs.Volume.{writes_bytes}
use Rattle.journal_rec.specs.declared.record.Rec.{Rec}
use Rattle.journal_rec.specs.declared.record.Rec.TheVariants as rec
use Rattle.record_laws.specs.Fits.{RecordFits}
use Rattle.log_laws.specs.Fitting.{AllFit}
use Rattle.request_laws.specs.Fitting.{WriteFits}
use Rattle.participant.specs.Part.{Part, open_of}
use Rattle.participant.specs.Statement.{own_of}
use Rattle.shard_image.specs.Image.{image_of}
use Rattle.shard_image.specs.Sound.{AreWritten, IsWritten}
use Rattle.part_laws.specs.Each.{Each}
use Rattle.part_laws.specs.Parts.{Holds}
use Rattle.part_laws.specs.Sound.{EntryRight, IsKnown, Served, written}
use Rattle.shard_core.specs.Carrying.{IsBounded, IsCarried, carried, carried_by}
use Rattle.shard_core.specs.Core.{Room, CoreStep, core_step}
use Rattle.shard_core.specs.Laws.{KeepsTime}
use Rattle.shard_core.specs.NodeStep.{Appended, Failed, NodeState, appends_of}
use Rattle.shard_core.specs.NodeStep.{boot_behind, ceiling_append, joined, record_append}
use Rattle.shard_core.specs.NodeStep.{started, started_if}
use Rattle.shard_core.specs.State.{ShardState}
use Rattle.shard_core.proofs.Carrying.{step_carries}
use Rattle.shard_core.proofs.Stepping.{step_keeps}
use Rattle.durable_laws.specs.Backed.{IsDurableNode}
use Rattle.chunk_map.specs.Map.{Map}
use Rattle.txn_model.specs.declared.ran.Ran.{Ran}
use Rattle.txn_model.specs.declared.ran.Ran.TheVariants.{Step, Swapped}
use Rattle.cluster_core.specs.Nodes.{Nodes}
use Rattle.cluster_core.specs.Trace.{Happens, IsTrace, MayCome, MayRemain, ShardSteps}
use Rattle.serving_laws.specs.Left.{StepServes}
use Rattle.serving_laws.specs.Telling.{Grows, GrowsBy}
use Rattle.world_laws.specs.Joint.{DiskStands, Stands}
use Rattle.world_laws.specs.Clocks.{EachShard}
use Rattle.world_laws.proofs.Clocks.{each_same, each_set, no_appends, started_is}
use Rattle.world_laws.proofs.Going.{some_same}
use Rattle.world_laws.proofs.Joint.{new_disk, stands_fresh, stands_step}
use Rattle.world_laws.proofs.Naming.{one}
use Rattle.world_laws.proofs.Steps.{stopped_rests}
use Rattle.node_store.proofs.Known.{own_within}
use Rattle.one_shard_laws.specs.Alone.{EventAlone, EventAsksFor, IsAlone, RecHeld, StepAlone}
use Rattle.one_shard_laws.specs.Concluding.{StartsAlone}
use Rattle.one_shard_laws.specs.Lasting.{HasRun, IsRight, OneShard, WasNamed, commits_by}
use Rattle.one_shard_laws.specs.Sessions.{GoesOn, IsOnce}
use Rattle.one_shard_laws.proofs.Behind.{Committed, does, leaves, serves}
use Rattle.one_shard_laws.proofs.Growing.{WasSent}
use Rattle.one_shard_laws.proofs.Joint.{one_shard_first, one_shard_step, runs_alone}
use Rattle.one_shard_laws.proofs.Listing.{each_all}
use Rattle.chain_laws.proofs.Sent.{fit_of_sent, none_to, run_to, shard_of_sent}
use Rattle.fit_laws.specs.Bytes.{AreOfBytes, AreOnConnections, IsOfBytes, IsOnConnection}
use Rattle.fit_laws.specs.Bytes.{RoutersFit, StatementFits}
use Rattle.fit_laws.proofs.Named.{NameFits}
use Rattle.fit_laws.proofs.Routers.{NamesStand, names_first, names_step}
use Rattle.fit_laws.proofs.Sent.{sent_fits}
use Rattle.fit_laws.proofs.Served.{MeaningFits, StatementsFit, WrittenFits, commits_fit}
use Rattle.fit_laws.proofs.Served.{served_fits, written_fits}
use Rattle.fit_laws.proofs.Writes.{bytes_within, set_all, writes_fit}

-- A record that fits where its writes rise, as those of each record do; and what it wrote fits.
abbrev RecFits : Rec → Type 0
RecFits r = (IsWritten r → RecordFits r) × WrittenFits r

record ShardFits (n : NodeState) : Type 0 where
  bounded : IsBounded n.core.part
  records : All RecFits n.records
  hand : All RecFits n.hand

-- What comes of the message that asks for a commit.

abbrev AsksCommit : Happening → Type 0
AsksCommit (what.Deliver e) = (c : Commit) × (e.msg ≡ msg.Commit c)
AsksCommit other = ⊥

asks_commit : (w : Happening) (boot : ℕ) (tag : Tag) (lsid : Lsid) (number : ℤ) (read_at at : ℕ)
    (writes : List Write)
    → EventAsksFor w boot (rec.Commit tag lsid number read_at at writes) → AsksCommit w
asks_commit (what.Deliver e) boot tag lsid number read_at at writes h = (h.0, h.1)
asks_commit (what.Client conn frame) boot tag lsid number read_at at writes h = h
asks_commit (what.Gone conn) boot tag lsid number read_at at writes h = h
asks_commit what.Resend boot tag lsid number read_at at writes h = h
asks_commit what.Moment boot tag lsid number read_at at writes h = h

carries_little : (p : Part) (w : Happening) → IsBounded p → AsksCommit w
    → length (carried p w) ≤ most_written
carries_little p (what.Deliver e) bounded h =
    subst (λ (m : Msg). length (carried_by p m) ≤ most_written) (sym h.1)
    (bytes_within (own_of (open_of p h.0.lsid)) (own_within p h.0.lsid bounded))
carries_little p (what.Client conn frame) bounded h = absurd h
carries_little p (what.Gone conn) bounded h = absurd h
carries_little p what.Resend bounded h = absurd h
carries_little p what.Moment bounded h = absurd h

told_same : (p q : Part) (w : Happening) (served told : List Served) (out : List Envelope)
    → AsksCommit w → Grows p q w served told out → told ≡ served
told_same p q (what.Deliver e) served told out h grows =
    (subst (λ (m : Msg). GrowsBy p q m served told out) h.1 grows).0
told_same p q (what.Client conn frame) served told out h grows = absurd h
told_same p q (what.Gone conn) served told out h grows = absurd h
told_same p q what.Resend served told out h grows = absurd h
told_same p q what.Moment served told out h grows = absurd h

each_end : {X : Type 0} (P : X → Type 0) (xs : List X) (x : X) → Each P (xs ++ x ∷ []) → P x
each_end P [] x h = h.0
each_end P (y ∷ xs) x h = each_end P xs x h.1

no_bytes : (bytes : List ℕ) → bytes ≡ [] → length bytes ≤ most_written
no_bytes bytes h = subst (λ (bs : List ℕ). length bs ≤ most_written) (sym h) (omega arith)

below_all : (at last ceiling : ℕ) → at ≤ last → last ≤ ceiling → ceiling < 2 ^ 64 → at < 2 ^ 64
below_all at last ceiling h k small = omega (arith, h, k, small)

before_all : (read_at at : ℕ) → read_at < at → at < 2 ^ 64 → read_at < 2 ^ 64
before_all read_at at h small = omega (arith, h, small)

-- Appends.

flat : (lists : List (List Rec)) → All (All RecFits) lists → All RecFits (joined lists)
flat [] h = All-nil RecFits
flat (recs ∷ lists) h = All-append RecFits recs (joined lists) (All-head (All RecFits) recs lists h)
    (flat lists (All-tail (All RecFits) recs lists h))

parts_fit : (kept : List (List Rec)) (lost : List Rec) (rest : List (List Rec))
    → All (All RecFits) (kept ++ lost ∷ rest) → All (All RecFits) kept × All RecFits lost
parts_fit [] lost rest h = (All-nil (All RecFits), All-head (All RecFits) lost rest h)
parts_fit (recs ∷ kept) lost rest h =
    let more = parts_fit kept lost rest
    (All-tail (All RecFits) recs (kept ++ lost ∷ rest) h) in (
      All-cons (All RecFits) recs kept
          (All-head (All RecFits) recs (kept ++ lost ∷ rest) h) more.0,
      more.1,
    )

-- A node's step.

module _ (sent : List Envelope) (once : IsOnce (WasNamed sent))
    (named : (x : Named) → WasNamed sent x → NameFits x) (all : StatementsFit sent)
    (old : NodeState) (own : old.core.part.shard ≡ 0) (e : NodeEvent) (room : Room)
    (alone : EventAlone e.what) (comes : WasSent sent e.what)
    (right : IsRight sent old.core old.records old.hand) (fits : ShardFits old) where
  abbrev o : CoreStep
  o = core_step room old.core e

  abbrev M : Named → Type 0
  M = WasNamed sent

  carries : IsCarried old.core e.what o
  carries = step_carries room old.core e fits.bounded

  -- while it runs
  module _ (running : old.core.stopped ≡ None) (time : KeepsTime old.core o) where
    abbrev ongoing : HasRun sent old.core old.records old.hand
    ongoing = right.runs running

    abbrev served : List Served
    served = ongoing.0

    abbrev entries : List Entry
    entries = commits_by old.records

    did : StepAlone M old.core e.what o
    did = does sent once room old.core own e old.records served ongoing.1 ongoing.2 alone comes time

    serving : StepServes ongoing.1.opens old.core e.what entries served o
    serving = serves sent once room old.core own e old.records served ongoing.1 ongoing.2 alone comes time

    meanings : Each MeaningFits served
    meanings =
        served_fits sent entries old.core.clock.last served all
        (commits_fit M old.records ongoing.1.alone.records
        (All-weaker RecFits WrittenFits (λ r h. h.1) old.records fits.records))
        ongoing.1.holds.sound.right ongoing.1.holds.sound.owns ongoing.1.asked

    ceiling_fits : (c : Option ℕ) → o.ceiling ≡ c → All (All RecFits) (ceiling_append c)
    ceiling_fits None is = All-nil (All RecFits)
    ceiling_fits (Some bound) is =
        let same : o.core.clock.ceiling ≡ bound =
        time.ceiling ∙ ap (λ (c : Option ℕ). unwrap_or c old.core.clock.ceiling) is in
        let small : bound < 2 ^ 64 =
        subst (λ (n : ℕ). n < 2 ^ 64) same time.clock.ends in
        one (All RecFits) (rec.Ceiling bound ∷ []) (one RecFits (rec.Ceiling bound)
        ((λ rises. small), tt))

    commit_fits : (c : Committed o.core.part serving.last entries serving.told ongoing.1.opens o.rec)
        → RecFits (rec.Commit c.tag c.lsid c.number c.read_at c.at c.writes)
    commit_fits c =
        let r : Rec = rec.Commit c.tag c.lsid c.number c.read_at c.at c.writes in
        let stands : (p : Part) × GoesOn M old.core.part p
        × RecHeld M p o.core.part o.core.clock.last r = subst (λ (x : Option Rec).
        IfSome x (λ (y : Rec). (p : Part) × GoesOn M old.core.part p
        × RecHeld M p o.core.part o.core.clock.last y)) c.is did.rec in
        let asks : AsksCommit e.what = asks_commit e.what o.core.part.boot c.tag c.lsid c.number
        c.read_at c.at c.writes (subst (λ (x : Option Rec).
        IfSome x (EventAsksFor e.what o.core.part.boot)) c.is did.asked) in
        let same : serving.told ≡ served = told_same serving.entered o.core.part e.what served
        serving.told (given_out o.answer) asks serving.grows in
        let name = named _ stands.2.0 in
        let mine : EntryRight (record {
          tag = c.tag;
          read_at = c.read_at;
          at = c.at;
          writes = c.writes;
        }) = each_end EntryRight entries _ c.holds.1.sound.known in
        let at : c.at < 2 ^ 64 = below_all c.at o.core.clock.last o.core.clock.ceiling stands.2.3
        time.clock.below time.clock.ends in
        let wrote : All WriteFits c.writes = subst (All WriteFits) (sym c.wrote)
        (set_all WriteFits (written c.tag o.core.part.boot serving.told)
        (written_fits c.tag o.core.part.boot serving.told
        (subst (Each MeaningFits) (sym same) meanings))) in
        let body : (writes_bytes c.writes ≡ []) ⊎ (writes_bytes c.writes
        ≡ carried old.core.part e.what) = subst (λ (x : Option Rec). IfSome x (λ (y : Rec).
        (body_bytes y ≡ []) ⊎ (body_bytes y ≡ carried old.core.part e.what))) c.is
        carries.carries in
        let small : length (writes_bytes c.writes) ≤ most_written =
        ⊎_elim (λ (none : writes_bytes c.writes ≡ []). no_bytes (writes_bytes c.writes) none)
        (λ (is : writes_bytes c.writes ≡ carried old.core.part e.what).
        subst (λ (bs : List ℕ). length bs ≤ most_written) (sym is)
        (carries_little old.core.part e.what fits.bounded asks)) body in (
          (λ rises. (
            name.tag,
            name.lsid,
            name.number,
            before_all c.read_at c.at mine.rises at,
            at,
            writes_fit c.writes wrote (each_all IsKnown c.writes mine.known) rises small,
          )),
          wrote,
        )

    record_fits : (r : Option Rec) → o.rec ≡ r → All (All RecFits) (record_append r)
    record_fits None is = All-nil (All RecFits)
    record_fits (Some r) is =
        ⊎_elim (λ (none : (o.rec ≡ None)
        × Holds ongoing.1.opens o.core.part o.core.clock.last entries serving.told).
        not_both r (sym is ∙ none.0))
        (λ (c : Committed o.core.part serving.last entries serving.told ongoing.1.opens o.rec).
        one (All RecFits) (r ∷ []) (one RecFits r (subst RecFits
        (some_same _ r (sym c.is ∙ is)) (commit_fits c))))
        (leaves M old.core.part o.core.part ongoing.1.opens serving.last o.core.clock.last entries
        serving.told e.what o.rec alone did.rec serving.left)
      where
        not_both : (r : Rec) → ◌≡◌ {A = Option Rec} (Some r) None
            → All (All RecFits) (record_append (Some r))
        not_both r h = absurd cc

    runs_fit : All (All RecFits) (appends_of o)
    runs_fit = All-append (All RecFits) (ceiling_append o.ceiling) (record_append o.rec)
        (ceiling_fits o.ceiling refl) (record_fits o.rec refl)

  appends_fit : (stops : Option ℕ) → old.core.stopped ≡ stops
      → (old.core.stopped ≡ None → KeepsTime old.core o) → All (All RecFits) (appends_of o)
  appends_fit None is time = runs_fit is (time is)
  appends_fit (Some faults) is time =
      let rests = stopped_rests room old.core e faults is in
      subst (All (All RecFits)) (sym (no_appends o rests.ceiling rests.rec))
      (All-nil (All RecFits))

  takes_fits : (a : NodeAnswer) (new : NodeState)
      → (old.core.stopped ≡ None → KeepsTime old.core o)
      → Appended old o a new ⊎ Failed old o a new → ShardFits new
  takes_fits a new time (inl d) = record {
    bounded = subst (λ (c : ShardState). IsBounded c.part) (sym d.core) carries.bounded;
    records = subst (All RecFits) (sym d.records)
        (All-append RecFits old.records (joined (appends_of o)) fits.records
        (flat (appends_of o) (appends_fit old.core.stopped refl time)));
    hand = subst (All RecFits) (sym d.hand) fits.hand;
  }
  takes_fits a new time (inr f) =
      let parts = parts_fit f.kept f.lost f.rest
      (subst (All (All RecFits)) f.parted (appends_fit old.core.stopped refl time)) in
      record {
        bounded = subst (λ (c : ShardState). IsBounded c.part) (sym f.core) carries.bounded;
        records = subst (All RecFits) (sym f.records)
            (All-append RecFits old.records (joined f.kept) fits.records (flat f.kept parts.0));
        hand = subst (All RecFits) (sym f.hand) parts.1;
      }

-- A start.

boot_case : (shard : ℕ) (recs : List Rec) (faults : ℕ) (n other : NodeState) (test : Bool)
    → nat_lt (image_of recs).boot 4294967294 ≡ test
    → (if test then Some other else None) ≡ Some n → (image_of recs).boot + 1 < 2 ^ 32
boot_case shard recs faults n other true is e = grind (arith, is)
boot_case shard recs faults n other false is e = absurd cc

boot_by : (shard : ℕ) (recs : List Rec) (faults : ℕ) (n : NodeState) (refused : Option ℕ)
    → started_if shard recs faults refused ≡ Some n → (image_of recs).boot + 1 < 2 ^ 32
boot_by shard recs faults n None e =
    boot_case shard recs faults n _ (nat_lt (image_of recs).boot 4294967294) refl e
boot_by shard recs faults n (Some index) e = absurd cc

starts_fit : (shard : ℕ) (recs : List Rec) (faults : ℕ) (n : NodeState)
    → started shard recs faults ≡ Some n → All RecFits recs → ShardFits n
starts_fit shard recs faults n e h =
    let boot = boot_by shard recs faults n (first_refused recs) e in
    subst ShardFits (sym (started_is shard recs faults n e))
    (record {
      bounded = record { rises = tt; within = tt };
      records = All-append RecFits recs (boot_behind (image_of recs) ∷ []) h
          (one RecFits (boot_behind (image_of recs)) ((λ rises. boot), tt));
      hand = All-nil RecFits;
    })

remains_fit : (n : NodeState) (recs : List Rec) → MayRemain n recs → ShardFits n → All RecFits recs
remains_fit n recs (inl is) h = subst (All RecFits) (sym is) h.records
remains_fit n recs (inr is) h =
    subst (All RecFits) (sym is) (All-append RecFits n.records n.hand h.records h.hand)

-- Each event.

record AllFits (nodes : Nodes) : Type 0 where
  names : NamesStand nodes
  shards : EachShard nodes (λ number n. ShardFits n)

only : {A : Type 0} (x y : A) (n : ℕ) → slice_get (x ∷ []) n ≡ Some y → (n ≡ 0) × (y ≡ x)
only x y zero is = let one : y ≡ x = grind (arith, is) in (refl, one)
only x y (suc n) is = absurd cc

comes_alone : (sent : List Envelope) (node : NodeId) (w : Happening)
    → All (λ (e : Envelope). IsAlone e.msg) sent → MayCome sent node w → EventAlone w
comes_alone sent node (what.Deliver e) h k =
    All-contains (λ (e : Envelope). IsAlone e.msg) sent e h k.0
comes_alone sent node (what.Client conn frame) h k = tt
comes_alone sent node (what.Gone conn) h k = tt
comes_alone sent node what.Resend h k = tt
comes_alone sent node what.Moment h k = tt

comes_sent : (sent : List Envelope) (node : NodeId) (w : Happening) → MayCome sent node w
    → WasSent sent w
comes_sent sent node (what.Deliver e) k = k.0
comes_sent sent node (what.Client conn frame) k = tt
comes_sent sent node (what.Gone conn) k = tt
comes_sent sent node what.Resend k = tt
comes_sent sent node what.Moment k = tt

-- the one shard takes an event
shard_fits : (old : Nodes) (n : ℕ) (e : NodeEvent) (a : NodeAnswer) (faults : ℕ) (new : Nodes)
    → (k : ShardSteps old n e a faults new) → Stands old → OneShard old → StatementsFit old.sent
    → AllFits old → ShardFits k.after
shard_fits old n e a faults new k s h all fits =
    let at = only h.node k.before n (subst (λ (shards : List NodeState).
    slice_get shards n ≡ Some k.before) h.shards k.there) in
    let before : IsRight old.sent k.before.core k.before.records k.before.hand =
    subst (λ (x : NodeState). IsRight old.sent x.core x.records x.hand) (sym at.1) h.right in
    let own : k.before.core.part.shard ≡ 0 = (s.reads.shards n k.before k.there).own ∙ at.0 in
    let clock = s.clocks n k.before k.there in
    takes_fits old.sent s.tags.one_begin fits.names.sent all k.before own e k.takes.0
    (comes_alone old.sent (Shard n) e.what h.alone k.comes)
    (comes_sent old.sent (Shard n) e.what k.comes) before (fits.shards n k.before k.there)
    a k.after
    (λ running. step_keeps k.takes.0 k.before.core e (clock.clock running) clock.wall k.wall
    k.times) k.takes.1

fits_step : (old : Nodes) (ran : Ran) (new : Nodes) → Happens old ran new → Stands old
    → OneShard old → StatementsFit old.sent → IsOfBytes ran → IsOnConnection ran → AllFits old
    → AllFits new
fits_step old (Step (Shard n) e a faults) new k s h all bytes on fits = record {
  names = names_step old (Step (Shard n) e a faults) new k s bytes on fits.names;
  shards = each_set (λ number n. ShardFits n) old n k.after new
      (ap (λ (w : Nodes). w.shards) k.nodes) fits.shards
      (shard_fits old n e a faults new k s h all fits);
}
fits_step old (Step (Router n) e a faults) new k s h all bytes on fits = record {
  names = names_step old (Step (Router n) e a faults) new k s bytes on fits.names;
  shards = each_same (λ number n. ShardFits n) old new (ap (λ (w : Nodes). w.shards) k.nodes)
      fits.shards;
}
fits_step old (Swapped (Shard n)) new k s h all bytes on fits = record {
  names = names_step old (Swapped (Shard n)) new k s bytes on fits.names;
  shards = each_set (λ number n. ShardFits n) old n k.after new
      (ap (λ (w : Nodes). w.shards) k.nodes) fits.shards
      (starts_fit n k.recs k.faults k.after k.starts
      (remains_fit k.before k.recs k.remain (fits.shards n k.before k.there)));
}
fits_step old (Swapped (Router n)) new k s h all bytes on fits = record {
  names = names_step old (Swapped (Router n)) new k s bytes on fits.names;
  shards = each_same (λ number n. ShardFits n) old new (ap (λ (w : Nodes). w.shards) k.nodes)
      fits.shards;
}

-- What was sent stays sent.

abbrev Grew : Nodes → Nodes → Type 0
Grew old new = (out : List Envelope) × (new.sent ≡ old.sent ++ out)

step_grew : (old : Nodes) (ran : Ran) (new : Nodes) → Happens old ran new → Grew old new
step_grew old (Step (Shard n) e a faults) new k =
    (given_out a, ap (λ (w : Nodes). w.sent) k.nodes)
step_grew old (Step (Router n) e a faults) new k =
    (given_out a, ap (λ (w : Nodes). w.sent) k.nodes)
step_grew old (Swapped (Shard n)) new k =
    ([], ap (λ (w : Nodes). w.sent) k.nodes ∙ sym (append-nil old.sent))
step_grew old (Swapped (Router n)) new k =
    ([], ap (λ (w : Nodes). w.sent) k.nodes ∙ sym (append-nil old.sent))

run_grew : (old : Nodes) (run : List Ran) (trace : List Nodes) (new : Nodes)
    → IsTrace old run trace new → Grew old new
run_grew old [] [] new h =
    ([], ap (λ (w : Nodes). w.sent) h ∙ sym (append-nil old.sent))
run_grew old [] (nodes ∷ trace) new h = absurd h
run_grew old (ran ∷ run) [] new h = absurd h
run_grew old (ran ∷ run) (nodes ∷ trace) new h =
    let first = step_grew old ran h.1.0 h.1.1 in
    let more = run_grew h.1.0 run trace new h.1.2 in (
      first.0 ++ more.0,
      more.1 ∙ ap (λ (sent : List Envelope). sent ++ more.0) first.1
          ∙ append_assoc old.sent first.0 more.0,
    )

fit_before : (old new : Nodes) → Grew old new → StatementsFit new.sent → StatementsFit old.sent
fit_before old new grew all e m here is =
    all e m (subst (λ (sent : List Envelope). Contains sent e) (sym grew.1)
    (Contains-append_left old.sent grew.0 e here)) is

-- A run.

fits_run : (old : Nodes) (run : List Ran) (trace : List Nodes) (new : Nodes)
    → IsTrace old run trace new → Stands old → OneShard old → StatementsFit new.sent
    → AreOfBytes run → AreOnConnections run → AllFits old → AllFits new
fits_run old [] [] new h s one all bytes on fits = subst AllFits (sym h) fits
fits_run old [] (nodes ∷ trace) new h s one all bytes on fits = absurd h
fits_run old (ran ∷ run) [] new h s one all bytes on fits = absurd h
fits_run old (ran ∷ run) (nodes ∷ trace) new h s one all bytes on fits =
    let mid : Nodes = h.1.0 in
    fits_run mid run trace new h.1.2 (stands_step old ran mid h.1.1 s)
    (one_shard_step old s one ran mid h.1.1) all (All-tail IsOfBytes ran run bytes)
    (All-tail IsOnConnection ran run on)
    (fits_step old ran mid h.1.1 s one
    (fit_before old new (run_grew old (ran ∷ run) (nodes ∷ trace) new h) all)
    (All-head IsOfBytes ran run bytes) (All-head IsOnConnection ran run on) fits)

first_stands : (chunks : Map) (start : Nodes) → StartsAlone chunks start → Stands start
first_stands chunks start h =
    stands_fresh chunks start h.fresh
    (λ number n is.
    let one = only h.node n number
    (subst (λ (shards : List NodeState). slice_get shards number ≡ Some n) h.shards is) in
    subst (λ (x : NodeState). DiskStands start x.records) (sym one.1)
    (new_disk start 0 h.faults h.node h.starts))

first_fits : (chunks : Map) (start : Nodes) → StartsAlone chunks start → RoutersFit start
    → AllFits start
first_fits chunks start h routers = record {
  names = names_first chunks start h.fresh routers;
  shards = λ number n is.
      let one = only h.node n number
      (subst (λ (shards : List NodeState). slice_get shards number ≡ Some n) h.shards is) in
      subst ShardFits (sym one.1)
      (starts_fit 0 [] h.faults h.node h.starts (All-nil RecFits));
}

statements_fit : (chunks : Map) (start : Nodes) (run : List Ran) (trace : List Nodes) (now : Nodes)
    → StartsAlone chunks start → IsTrace start run trace now → AreOfBytes run
    → StatementsFit now.sent
statements_fit chunks start run trace now h is bytes e m here named =
    let sent = sent_fits chunks start run trace now h.fresh is bytes in
    let to = run_to start run trace now is (none_to start.sent h.fresh.sent) in
    let shard = shard_of_sent now.sent m to (e, here, named) in
    fit_of_sent StatementFits now.sent m sent (e, here, named) shard.0 shard.1

-- The records and those in hand.

both_fit : (recs hand : List Rec) → All RecFits recs → All RecFits hand → AreWritten (recs ++ hand)
    → AllFit recs × AllFit hand
both_fit [] [] h k w = (tt, tt)
both_fit [] (r ∷ hand) h k w =
    let first = All-head RecFits r hand k in
    (tt, (first.0 w.0, (both_fit [] hand h (All-tail RecFits r hand k) w.1).1))
both_fit (r ∷ recs) hand h k w =
    let first = All-head RecFits r recs h in
    let more = both_fit recs hand (All-tail RecFits r recs h) k w.1 in
    ((first.0 w.0, more.0), more.1)

pub records_fit : (chunks : Map) (start : Nodes) (run : List Ran) (trace : List Nodes) (now : Nodes)
    → StartsAlone chunks start → IsTrace start run trace now → AreOfBytes run
    → AreOnConnections run → RoutersFit start → (n : ℕ) (s : NodeState)
    → slice_get now.shards n ≡ Some s → AllFit s.records × AllFit s.hand
records_fit chunks start run trace now h is bytes on routers n s there =
    let one = runs_alone chunks start run trace now h is in
    let fits = fits_run start run trace now is (first_stands chunks start h)
    (one_shard_first chunks start h.faults h.node h.fresh h.shards h.starts)
    (statements_fit chunks start run trace now h is bytes) bytes on
    (first_fits chunks start h routers) in
    let mine = fits.shards n s there in
    let same : s ≡ one.node = (only one.node s n (subst (λ (shards : List NodeState).
    slice_get shards n ≡ Some s) one.shards there)).1 in
    let durable : IsDurableNode s = subst IsDurableNode (sym same) one.durable in
    both_fit s.records s.hand mine.records mine.hand durable.written
