-- What stands of one transaction at the one shard goes on in a run.
use Rattle.std.proofs.Common.{◌≡◌, ◌⊎◌, inl, inr, ◌≤◌, ◌<◌, ◌++◌, ◌+◌, ℕ, ℤ}
use Rattle.std.proofs.Common.{List, [], ◌∷◌, All, Option, Some, None, IfSome, filter_map}
use Rattle.std.proofs.Common.{slice_get, slice_set, refl, sym, ap, subst, ◌∙◌, arith}
use Rattle.std.specs.Prelude.{Contains}
use Rattle.std.proofs.lemmas.List.{append-nil, append_assoc}
use Rattle.std.proofs.lemmas.List.Elements.{All-append, All-contains, All-head, All-tail, All-weaker}
use Rattle.std.proofs.lemmas.List.Elements.{Contains-append_cases, Contains-append_left}
use Rattle.std.proofs.lemmas.List.Elements.{filter_map-append}
use Rattle.txn_types.specs.Letters.{Named, named_in, given_out}
use Rattle.txn_types.specs.declared.event.Happening.{Happening}
use Rattle.txn_types.specs.declared.event.Happening.TheVariants as what
use Rattle.txn_types.specs.declared.event.NodeAnswer.{NodeAnswer}
use Rattle.txn_types.specs.declared.event.NodeEvent.{NodeEvent}
use Rattle.txn_types.specs.declared.message.Commit.{Commit}
use Rattle.txn_types.specs.declared.message.Envelope.{Envelope}
use Rattle.txn_types.specs.declared.message.Msg.{Msg}
use Rattle.txn_types.specs.declared.message.Msg.TheVariants as msg
use Rattle.txn_types.specs.declared.message.Recover.{Recover}
use Rattle.txn_types.specs.declared.names.Tag.{Tag}
use Rattle.txn_types.specs.declared.node.Lsid.{Lsid}
use Rattle.txn_types.specs.declared.node.NodeId.{NodeId}
use Rattle.txn_types.specs.declared.node.NodeId.TheVariants.{Shard, Router}
use Rattle.journal_rec.specs.declared.record.Rec.{Rec}
use Rattle.journal_rec.specs.declared.record.Rec.TheVariants as rec
use Rattle.participant.specs.Part.{Part}
use Rattle.shard_image.specs.Image.{Image, image_of, with_record, with_records}
use Rattle.shard_core.specs.State.{ShardState}
use Rattle.shard_core.specs.Core.{Room, core_step}
use Rattle.shard_core.specs.NodeStep.{NodeState, Appended, Failed, boot_behind, joined}
use Rattle.shard_core.specs.NodeStep.{started}
use Rattle.durable_laws.specs.Backed.{IsDurableNode}
use Rattle.durable_laws.proofs.Facts.{image_append}
use Rattle.durable_laws.proofs.Nodes.{node_again}
use Rattle.txn_model.specs.declared.ran.Ran.{Ran}
use Rattle.txn_model.specs.declared.ran.Ran.TheVariants.{Step, Swapped}
use Rattle.cluster_core.specs.Nodes.{Nodes}
use Rattle.cluster_core.specs.Parts.{KnowsBoot, KnowsBoots, KnowsAsked, HasCome}
use Rattle.cluster_core.specs.Trace.{MayCome, MayRemain, ShardSteps, RouterSteps, ShardStarts}
use Rattle.cluster_core.specs.Trace.{Happens, IsTrace}
use Rattle.world_laws.specs.Boots.{BootStands, IsNoBoot}
use Rattle.world_laws.specs.Joint.{Stands}
use Rattle.world_laws.proofs.Boots.{core_by}
use Rattle.world_laws.proofs.Clocks.{started_is, rests_not, no_appends}
use Rattle.world_laws.proofs.Joint.{stands_step}
use Rattle.world_laws.proofs.Naming.{nothing, one}
use Rattle.world_laws.proofs.Steps.{stopped_rests}
use Rattle.answer_laws.proofs.Lists.{has_first, has_more}
use Rattle.told_laws.proofs.Lists.{only_one}
use Rattle.known_laws.specs.Known.{KnownStands, PartNamed, SessionNamed}
use Rattle.known_laws.proofs.Standing.{known_step, known_part}
use Rattle.one_shard_laws.specs.Alone.{IsAskedAlone}
use Rattle.one_shard_laws.specs.Lasting.{OneShard, WasNamed, IsRight}
use Rattle.one_shard_laws.proofs.Asking.{router_asks}
use Rattle.one_shard_laws.proofs.Behind.{sent_named}
use Rattle.one_shard_laws.proofs.Joint.{one_shard_step}
use Rattle.one_shard_laws.proofs.Stepping.{step_alone}
use Rattle.decision_laws.specs.Ends.{WasSent}
use Rattle.decision_laws.specs.Recovering.{WasSought, RecoversCome, sought_name}
use Rattle.decision_laws.proofs.Keeping.{Its, Over, Keeps, HasRec, NoRec, Gone, Stood}
use Rattle.decision_laws.proofs.Keeping.{KnowsIt, AskedIt, step_stood, is_committed}
use Rattle.decision_laws.proofs.Coming.{alone_at, names_at}
use Rattle.decision_laws.proofs.Recorded.{Commits, only}
use Rattle.decision_laws.proofs.Saying.{is_aborted}
use Rattle.decision_laws.proofs.Steps.{asked_by, step_says, stopped_tells_none, IsNoEnd}

-- What a run sends is added to what was sent.

sent_step : (old : Nodes) (ran : Ran) (new : Nodes) → Happens old ran new
    → (out : List Envelope) × (new.sent ≡ old.sent ++ out)
sent_step old (Step (Shard n) e a faults) new h = (given_out a, ap (λ (w : Nodes). w.sent) h.nodes)
sent_step old (Step (Router n) e a faults) new h = (given_out a, ap (λ (w : Nodes). w.sent) h.nodes)
sent_step old (Swapped (Shard n)) new h =
    ([], ap (λ (w : Nodes). w.sent) h.nodes ∙ sym (append-nil old.sent))
sent_step old (Swapped (Router n)) new h =
    ([], ap (λ (w : Nodes). w.sent) h.nodes ∙ sym (append-nil old.sent))

pub sent_goes : (old : Nodes) (run : List Ran) (trace : List Nodes) (new : Nodes)
    → IsTrace old run trace new → (out : List Envelope) × (new.sent ≡ old.sent ++ out)
sent_goes old [] [] new h = ([], ap (λ (w : Nodes). w.sent) h ∙ sym (append-nil old.sent))
sent_goes old [] (nodes ∷ trace) new h = absurd h
sent_goes old (ran ∷ run) [] new h = absurd h
sent_goes old (ran ∷ run) (nodes ∷ trace) new h =
    let first = sent_step old ran h.1.0 h.1.1 in
    let more = sent_goes h.1.0 run trace new h.1.2 in (
      first.0 ++ more.0,
      more.1 ∙ ap (λ (x : List Envelope). x ++ more.0) first.1
          ∙ append_assoc old.sent first.0 more.0,
    )

named_before : (sent more : List Envelope) (x : Named) → WasNamed sent x
    → WasNamed (sent ++ more) x
named_before sent more x h = subst (λ (ns : List Named). Contains ns x)
    (sym (filter_map-append (λ (e : Envelope). named_in e.msg) sent more))
    (Contains-append_left (filter_map (λ (e : Envelope). named_in e.msg) sent)
    (filter_map (λ (e : Envelope). named_in e.msg) more) x h)

-- Boots of the records.

record_boot : (i : Image) (r : Rec) → IsNoBoot r → (with_record i r).boot ≡ i.boot
record_boot i (rec.Boot boot) h = absurd h
record_boot i (rec.Ceiling bound) h = refl
record_boot i (rec.Commit tag lsid number read_at at writes) h = refl
record_boot i (rec.Prepared tag lsid number boot read_at at coordinator writes) h = refl
record_boot i (rec.Decided d) h = refl
record_boot i (rec.CoordStart tag lsid number parts) h = refl
record_boot i (rec.CoordDecision tag d) h = refl
record_boot i (rec.CoordEnd tag) h = refl
record_boot i (rec.Floor floor) h = refl

records_boot : (recs : List Rec) (i : Image) → All IsNoBoot recs
    → (with_records i recs).boot ≡ i.boot
records_boot [] i h = refl
records_boot (r ∷ recs) i h = records_boot recs (with_record i r) (All-tail IsNoBoot r recs h)
    ∙ record_boot i r (All-head IsNoBoot r recs h)

remains_boot : (old : NodeState) (recs : List Rec) → MayRemain old recs → BootStands old
    → (image_of recs).boot ≡ old.core.part.boot
remains_boot old recs (inl e) s = ap (λ (rs : List Rec). (image_of rs).boot) e ∙ sym s.records
remains_boot old recs (inr e) s = ap (λ (rs : List Rec). (image_of rs).boot) e
    ∙ ap (λ (i : Image). i.boot) (image_append old.records old.hand)
    ∙ records_boot old.hand (image_of old.records) s.hand ∙ sym s.records

next_boot : (a b c d : ℕ) → a ≡ b + 1 → c ≡ b → c ≡ d → d < a
next_boot a b c d h k l = omega (arith, h, k, l)

-- A router tells of no end.

no_end : (m : Msg) → IsAskedAlone m → IsNoEnd m
no_end (msg.Outcome x) h = absurd h
no_end (msg.Answer a) h = absurd h
no_end other h = tt

pub router_ends_none : (old new : Nodes) → OneShard old → (n : ℕ) (e : NodeEvent) (a : NodeAnswer)
    (faults : ℕ) → RouterSteps old n e a faults new
    → All (λ (x : Envelope). IsNoEnd x.msg) (given_out a)
router_ends_none old new o n e a faults step =
    let asks = (router_asks step.takes.0 step.before e (alone_at old o (Router n) e.what step.comes)
    (o.routers n step.before step.there)).1 in
    All-weaker (λ (x : Envelope). IsAskedAlone x.msg) (λ (x : Envelope). IsNoEnd x.msg)
    (λ x y. no_end x.msg y) (given_out a)
    (subst (λ (b : NodeAnswer). All (λ (x : Envelope). IsAskedAlone x.msg) (given_out b))
    (sym step.takes.1) asks)

-- Where the node stays, and what ends nothing is sent.

module _ (tag : Tag) (lsid : Lsid) (number : ℤ) (boot : ℕ) where
  abbrev St : List Envelope → NodeState → Type 0
  St sent n = Stood tag lsid number boot sent n

  stood_more : (sent out : List Envelope) (n : NodeState)
      → All (λ (e : Envelope). IsNoEnd e.msg) out → St sent n → St (sent ++ out) n
  stood_more sent out n none h = record {
    kept = h.kept;
    with_hand = h.with_hand;
    runs = h.runs;
    gone = λ t. elim (Contains-append_cases sent out t.0 t.3) [
      | inl was ↦ h.gone (t.0, t.1, t.2, was, t.4, t.5, t.6)
      | inr now ↦ absurd (subst IsNoEnd t.4
          (All-contains (λ (e : Envelope). IsNoEnd e.msg) out t.0 none now))
    ];
  }

  stood_same : (sent : List Envelope) (n m : NodeState) → m.core ≡ n.core → m.records ≡ n.records
      → m.hand ≡ n.hand → St sent n → St sent m
  stood_same sent n m core records hand h = record {
    kept = subst (Keeps tag lsid number) (sym records) h.kept;
    with_hand = subst (λ (x : List Rec). Keeps tag lsid number (x ++ m.hand)) (sym records)
        (subst (λ (x : List Rec). Keeps tag lsid number (n.records ++ x)) (sym hand) h.with_hand);
    runs = λ run has. subst (λ (c : ShardState). Over tag lsid number is_committed c.part.sessions)
        (sym core) (h.runs (ap (λ (c : ShardState). c.stopped) (sym core) ∙ run)
        (subst (HasRec tag lsid number) records has));
    gone = λ t.
        let g = h.gone t in
        record {
          records = subst (All (NoRec tag lsid number)) (sym records) g.records;
          hand = subst (All (NoRec tag lsid number)) (sym hand) g.hand;
          past = subst (λ (c : ShardState). (boot < c.part.boot)
              ⊎ ((boot ≡ c.part.boot) × Over tag lsid number is_aborted c.part.sessions))
              (sym core) g.past;
        };
  }

  -- Where the shard starts again.

  module _ (sent : List Envelope) (old : NodeState) (recs : List Rec) (faults : ℕ)
      (new : NodeState) (remain : MayRemain old recs) (go : started 0 recs faults ≡ Some new)
      (durable : IsDurableNode old) (boots : BootStands old) (h : St sent old) where
    booted : List Rec
    booted = recs ++ boot_behind (image_of recs) ∷ []

    keeps_left : Keeps tag lsid number recs
    keeps_left = by remain
      where
        by : MayRemain old recs → Keeps tag lsid number recs
        by (inl e) = subst (Keeps tag lsid number) (sym e) h.kept
        by (inr e) = subst (Keeps tag lsid number) (sym e) h.with_hand

    keeps_booted : Keeps tag lsid number booted
    unfolding booted
    keeps_booted has =
        elim (Contains-append_cases recs (boot_behind (image_of recs) ∷ []) has.0 has.1) [
          | inl there ↦ subst (λ (i : Image). Over tag lsid number is_committed i.sessions)
              (sym (image_append recs (boot_behind (image_of recs) ∷ [])))
              (keeps_left (has.0, there, has.2))
          | inr last ↦ absurd (subst (Commits tag)
              (only_one (boot_behind (image_of recs)) has.0 last) has.2)
        ]

    records_are : new.records ≡ booted
    unfolding booted
    records_are = ap (λ (x : NodeState). x.records) (started_is 0 recs faults new go)

    hand_is : new.hand ≡ []
    hand_is = ap (λ (x : NodeState). x.hand) (started_is 0 recs faults new go)

    sessions_are : new.core.part.sessions ≡ (image_of new.records).sessions
    sessions_are = subst (λ (x : NodeState). x.core.part.sessions ≡ (image_of x.records).sessions)
        (sym (started_is 0 recs faults new go)) refl

    rises : old.core.part.boot < new.core.part.boot
    rises =
        let f = (node_again old recs 0 faults new durable remain go).1 in
        next_boot new.core.part.boot f.0.part.boot (image_of recs).boot old.core.part.boot
        f.2.boot f.1.durable.boot (remains_boot old recs remain boots)

    none_left : Gone tag lsid number boot old → All (NoRec tag lsid number) booted
    unfolding booted
    none_left g = All-append (NoRec tag lsid number) recs (boot_behind (image_of recs) ∷ [])
        (by remain)
        (one (NoRec tag lsid number) (boot_behind (image_of recs)) (λ wrong. absurd wrong))
      where
        by : MayRemain old recs → All (NoRec tag lsid number) recs
        by (inl e) = subst (All (NoRec tag lsid number)) (sym e) g.records
        by (inr e) = subst (All (NoRec tag lsid number)) (sym e)
            (All-append (NoRec tag lsid number) old.records old.hand g.records g.hand)

    up_case : (boot < old.core.part.boot)
        ⊎ ((boot ≡ old.core.part.boot) × Over tag lsid number is_aborted old.core.part.sessions)
        → boot < new.core.part.boot
    up_case (inl less) = let up = rises in omega (arith, less, up)
    up_case (inr same) = let up = rises in let here = same.0 in omega (arith, here, up)

    start_stood : St sent new
    start_stood =
        let keeps : Keeps tag lsid number new.records =
        subst (Keeps tag lsid number) (sym records_are) keeps_booted in
        record {
          kept = keeps;
          with_hand = subst (Keeps tag lsid number)
              (sym (ap (λ (x : List Rec). new.records ++ x) hand_is ∙ append-nil new.records)) keeps;
          runs = λ run has. subst (Over tag lsid number is_committed) (sym sessions_are) (keeps has);
          gone = λ t.
              let g = h.gone t in
              record {
                records = subst (All (NoRec tag lsid number)) (sym records_are) (none_left g);
                hand = subst (All (NoRec tag lsid number)) (sym hand_is)
                    (nothing (NoRec tag lsid number));
                past = inl (up_case g.past);
              };
        }

-- A run, to the end of which a request to commit the transaction is sent.

module _ (last : List Envelope) (c : Commit)
    (its : (x : Named) → WasNamed last x → Its c.tag c.lsid c.number x)
    (boots : (m : Commit) → WasSent last m → m.tag ≡ c.tag → m.boot ≡ c.boot)
    (sought : (x : Recover) → WasSought last x → x.tag ≡ c.tag → x.boot ≡ c.boot) where
  abbrev P : Named → Type 0
  P = Its c.tag c.lsid c.number

  abbrev pub Has : Nodes → Type 0
  Has nodes = (n : NodeState) × (nodes.shards ≡ n ∷ [])
      × Stood c.tag c.lsid c.number c.boot nodes.sent n

  part_its : (sent more : List Envelope) → last ≡ sent ++ more → (p : Part)
      → PartNamed (WasNamed sent) p → PartNamed P p
  part_its sent more is p h = All-weaker (SessionNamed (WasNamed sent)) (SessionNamed P)
      (λ entry k. by (record { tag = entry.1.tag; lsid = entry.0; number = entry.1.number }) k)
      p.sessions.entries h
    where
      by : (x : Named) → WasNamed sent x → P x
      by x k = its x (subst (λ (y : List Envelope). WasNamed y x) (sym is)
          (named_before sent more x k))

  module _ (old new : Nodes) (s : Stands old) (o : OneShard old) (k : KnownStands old)
      (known : KnownStands new) (come : RecoversCome old) (more : List Envelope)
      (ends : last ≡ new.sent ++ more) (h : Has old) where
    there_is : (n : ℕ) (before : NodeState) → slice_get old.shards n ≡ Some before
        → (n ≡ 0) × (before ≡ h.0)
    there_is n before is = only h.0 before n
        (subst (λ (xs : List NodeState). slice_get xs n ≡ Some before) h.1 is)

    one_is : (before : NodeState) → before ≡ h.0 → before ≡ o.node
    one_is before is = is ∙ (only o.node h.0 0
        (subst (λ (xs : List NodeState). slice_get xs 0 ≡ Some h.0) (sym h.1 ∙ o.shards) refl)).1

    module _ (n : ℕ) (e : NodeEvent) (a : NodeAnswer) (faults : ℕ)
        (step : ShardSteps old n e a faults new) where
      abbrev before : NodeState
      before = step.before

      abbrev after : NodeState
      after = step.after

      at : (n ≡ 0) × (before ≡ h.0)
      at = there_is n before step.there

      out_is : new.sent ≡ old.sent ++ given_out a
      out_is = ap (λ (w : Nodes). w.sent) step.nodes

      first : last ≡ old.sent ++ (given_out a ++ more)
      first = ends ∙ ap (λ (x : List Envelope). x ++ more) out_is
          ∙ append_assoc old.sent (given_out a) more

      shards_are : new.shards ≡ after ∷ []
      shards_are = ap (λ (w : Nodes). w.shards) step.nodes
          ∙ ap (λ (xs : List NodeState). slice_set xs n after) h.1
          ∙ ap (λ (i : ℕ). slice_set (h.0 ∷ []) i after) at.0

      stood : Stood c.tag c.lsid c.number c.boot old.sent before
      stood = subst (Stood c.tag c.lsid c.number c.boot old.sent) (sym at.1) h.2

      right : IsRight old.sent before.core before.records before.hand
      right = subst (λ (x : NodeState). IsRight old.sent x.core x.records x.hand)
          (sym (one_is before at.1)) o.right

      durable : IsDurableNode before
      durable = subst IsDurableNode (sym (one_is before at.1)) o.durable

      to_last : (x : Envelope) → Contains old.sent x → Contains last x
      to_last x there = subst (λ (xs : List Envelope). Contains xs x) (sym first)
          (Contains-append_left old.sent (given_out a ++ more) x there)

      name_of : (d : Envelope) → Contains old.sent d → (m : Msg) → d.msg ≡ m
          → IfSome (named_in m) P
      name_of d there m is = subst (λ (x : Msg). IfSome (named_in x) P) is
          (by (named_in d.msg) (sent_named old.sent d there))
        where
          by : (x : Option Named) → IfSome x (WasNamed old.sent) → IfSome x P
          by None h = tt
          by (Some x) h = its x (subst (λ (xs : List Envelope). WasNamed xs x) (sym first)
              (named_before old.sent (given_out a ++ more) x h))

      known_it : (b : ℕ) (l : Lsid) (i : ℤ) (t : Tag) → KnowsBoot old n b l i t
          → b ≡ c.boot → l ≡ c.lsid → i ≡ c.number → t ≡ c.tag
          → KnowsIt c.tag c.lsid c.number c.boot before.core.part
      known_it b l i t h eb el ei et =
          let x = h before step.there in (
            subst (λ (y : ℕ). y ≤ before.core.part.boot) eb x.0,
            λ here.
                subst (λ (y : Tag). HasCome before.core.part c.lsid c.number y) et
                (subst (λ (y : ℤ). HasCome before.core.part c.lsid y t) ei
                (subst (λ (y : Lsid). HasCome before.core.part y i t) el (x.1 (eb ∙ here)))),
          )

      to_shard : (d : Envelope) → d.to ≡ Shard n → KnowsBoots old d → KnowsAsked old n d.msg
      to_shard d to h = subst (KnowsBoots old) (ap (λ (x : NodeId). record d { to = x }) to) h

      asked_case : (d : Envelope) → Contains old.sent d → d.to ≡ Shard n → (m : Msg) → d.msg ≡ m
          → AskedIt c.tag c.lsid c.number c.boot before.core.part m
      asked_case d there to (msg.Commit m) is = λ mine.
          let name = name_of d there (msg.Commit m) is mine in
          let boot = boots m (d, to_last d there, is) mine in
          let all = All-contains (KnowsBoots old) old.sent d (known_part old s k) there in
          let it : KnowsAsked old n (msg.Commit m) =
          subst (KnowsAsked old n) is (to_shard d to all) in
          (name.0, name.1, boot, known_it m.boot m.lsid m.number m.tag it boot name.0 name.1 mine)
      asked_case d there to (msg.Recover x) is = λ mine.
          let came = come x (d, there, is) in
          let name = its (sought_name x) (subst (λ (xs : List Envelope).
          WasNamed xs (sought_name x)) (sym first)
          (named_before old.sent (given_out a ++ more) (sought_name x) came.0)) mine in
          let boot = sought x (d, to_last d there, is) mine in
          let it : KnowsBoot old n x.boot x.lsid x.number x.tag =
          subst (λ (i : ℕ). KnowsBoot old i x.boot x.lsid x.number x.tag) (sym at.0) came.1 in
          (name.0, name.1, boot, known_it x.boot x.lsid x.number x.tag it boot name.0 name.1 mine)
      asked_case d there to other is = tt

      asked_at : (w : Happening) → MayCome old.sent (Shard n) w
          → AskedIt c.tag c.lsid c.number c.boot before.core.part (asked_by w)
      asked_at (what.Deliver d) h = asked_case d h.0 h.1 d.msg refl
      asked_at (what.Client conn frame) h = tt
      asked_at (what.Gone conn) h = tt
      asked_at what.Resend h = tt
      asked_at what.Moment h = tt

      after_there : slice_get new.shards 0 ≡ Some after
      after_there = ap (λ (xs : List NodeState). slice_get xs 0) shards_are

      running : (room : Room) → before.core.stopped ≡ None
          → Appended before (core_step room before.core e) a after
          ⊎ Failed before (core_step room before.core e) a after
          → Stood c.tag c.lsid c.number c.boot (old.sent ++ given_out a) after
      running room run took =
          let r = right.runs run in
          let q = (core_step room before.core e).core.part in
          let alone = alone_at old o (Shard n) e.what step.comes in
          let own : before.core.part.shard ≡ 0 =
          (s.reads.shards n before step.there).own ∙ at.0 in
          let left : after.core.part ≡ q = core_by (λ (x : ShardState). x.part ≡ q) before
          (core_step room before.core e) a after refl (λ stopped. refl) took in
          step_stood c.tag c.lsid c.number c.boot old.sent before e a after room run r.3 stood
          (step_says P room before.core e run r.2.coord durable.shard.part alone)
          (part_its old.sent (given_out a ++ more) first before.core.part
          (k.shards n before step.there).sessions)
          (subst (PartNamed P) left (part_its new.sent more ends after.core.part
          (known.shards 0 after after_there).sessions))
          (step_alone (WasNamed old.sent) room before.core e s.tags.one_begin own r.2.named
          r.2.coord alone (names_at old o (Shard n) e.what step.comes)).goes.boot
          (asked_at e.what step.comes) took

      stopped : (room : Room) (faults : ℕ) → before.core.stopped ≡ Some faults
          → Appended before (core_step room before.core e) a after
          → Stood c.tag c.lsid c.number c.boot (old.sent ++ given_out a) after
      stopped room faults is d =
          let r = stopped_rests room before.core e faults is in
          let x = core_step room before.core e in
          let records : after.records ≡ before.records = d.records
          ∙ ap (λ (ys : List (List Rec)). before.records ++ joined ys)
          (no_appends x r.ceiling r.rec) ∙ append-nil before.records in
          stood_same c.tag c.lsid c.number c.boot (old.sent ++ given_out a) before after
          (d.core ∙ r.core) records d.hand
          (stood_more c.tag c.lsid c.number c.boot old.sent (given_out a) before
          (subst (λ (b : NodeAnswer). All (λ (y : Envelope). IsNoEnd y.msg) (given_out b))
          (sym d.told) (stopped_tells_none room before.core e faults is)) stood)

      takes_case : (room : Room) (stops : Option ℕ) → before.core.stopped ≡ stops
          → Appended before (core_step room before.core e) a after
          ⊎ Failed before (core_step room before.core e) a after
          → Stood c.tag c.lsid c.number c.boot (old.sent ++ given_out a) after
      takes_case room None is took = running room is took
      takes_case room (Some faults) is (inl d) = stopped room faults is d
      takes_case room (Some faults) is (inr f) =
          absurd (rests_not before room e a after faults is f)

      shard_has : Has new
      shard_has = (
        after,
        shards_are,
        subst (λ (x : List Envelope). Stood c.tag c.lsid c.number c.boot x after) (sym out_is)
            (takes_case step.takes.0 before.core.stopped refl step.takes.1),
      )

    router_has : (n : ℕ) (e : NodeEvent) (a : NodeAnswer) (faults : ℕ)
        → RouterSteps old n e a faults new → Has new
    router_has n e a faults step = (
      h.0,
      ap (λ (w : Nodes). w.shards) step.nodes ∙ h.1,
      subst (λ (x : List Envelope). Stood c.tag c.lsid c.number c.boot x h.0)
          (sym (ap (λ (w : Nodes). w.sent) step.nodes))
          (stood_more c.tag c.lsid c.number c.boot old.sent (given_out a) h.0
          (router_ends_none old new o n e a faults step) h.2),
    )

    start_has : (n : ℕ) → ShardStarts old n new → Has new
    start_has n step =
        let at = there_is n step.before step.there in
        let durable : IsDurableNode step.before =
        subst IsDurableNode (sym (one_is step.before at.1)) o.durable in
        let boots_stand = (s.boots.shards n step.before step.there).0 in
        let starts : started 0 step.recs step.faults ≡ Some step.after =
        subst (λ (i : ℕ). started i step.recs step.faults ≡ Some step.after) at.0 step.starts in (
          step.after,
          ap (λ (w : Nodes). w.shards) step.nodes
              ∙ ap (λ (xs : List NodeState). slice_set xs n step.after) h.1
              ∙ ap (λ (i : ℕ). slice_set (h.0 ∷ []) i step.after) at.0,
          subst (λ (x : List Envelope). Stood c.tag c.lsid c.number c.boot x step.after)
              (sym (ap (λ (w : Nodes). w.sent) step.nodes))
              (start_stood c.tag c.lsid c.number c.boot old.sent step.before step.recs step.faults
              step.after step.remain starts durable boots_stand
              (subst (Stood c.tag c.lsid c.number c.boot old.sent) (sym at.1) h.2)),
        )

    step_has : (ran : Ran) → Happens old ran new → Has new
    step_has (Step (Shard n) e a faults) step = shard_has n e a faults step
    step_has (Step (Router n) e a faults) step = router_has n e a faults step
    step_has (Swapped (Shard n)) step = start_has n step
    step_has (Swapped (Router n)) step = (
      h.0,
      ap (λ (w : Nodes). w.shards) step.nodes ∙ h.1,
      subst (λ (x : List Envelope). Stood c.tag c.lsid c.number c.boot x h.0)
          (sym (ap (λ (w : Nodes). w.sent) step.nodes)) h.2,
    )

  pub run_has : (run : List Ran) (trace : List Nodes) (old now : Nodes) → IsTrace old run trace now
      → last ≡ now.sent
      → ((nodes : Nodes) → Contains (trace ++ now ∷ []) nodes → RecoversCome nodes)
      → Stands old → OneShard old → KnownStands old → Has old → Has now
  run_has [] [] old now is ends come s o k h = subst Has (sym is) h
  run_has [] (nodes ∷ trace) old now is ends come s o k h = absurd is
  run_has (ran ∷ run) [] old now is ends come s o k h = absurd is
  run_has (ran ∷ run) (nodes ∷ trace) old now is ends come s o k h =
      let mid = is.1.0 in
      let s' = stands_step old ran mid is.1.1 s in
      let k' = known_step old ran mid is.1.1 s k in
      let goes = sent_goes mid run trace now is.1.2 in
      run_has run trace mid now is.1.2 ends
      (λ x there. come x (has_more nodes (trace ++ now ∷ []) x there)) s'
      (one_shard_step old s o ran mid is.1.1) k'
      (step_has old mid s o k k'
      (subst RecoversCome is.0 (come nodes (has_first nodes (trace ++ now ∷ []))))
      goes.0 (ends ∙ goes.1) h ran is.1.1)
