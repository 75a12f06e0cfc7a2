-- What a shard's step names was named before, so that tags stand for what they stood for.
use Rattle.std.proofs.Common.{◌≡◌, inl, inr, ◌++◌, ℕ, All, Contains, List, [], ◌∷◌, filter_map}
use Rattle.std.proofs.Common.{Option, Some, None, IfSome, refl, sym, ap, subst, ◌∙◌, arith}
use Rattle.std.specs.Prelude.{slice_get, slice_set}
use Rattle.std.proofs.lemmas.List.Elements.{All-nil, All-cons, All-head, All-tail, All-append}
use Rattle.std.proofs.lemmas.List.Elements.{All-weaker, All-contains, All-contains_itself}
use Rattle.std.proofs.lemmas.List.Elements.{Contains-append_left, Contains-append_cases}
use Rattle.std.proofs.lemmas.List.Elements.{filter_map-append}
use Rattle.txn_types.specs.Order.{tag_cmp}
use Rattle.txn_types.specs.declared.event.Happening.{Happening}
use Rattle.txn_types.specs.declared.event.Happening.TheVariants as what
use Rattle.txn_types.specs.declared.event.NodeAnswer.{NodeAnswer}
use Rattle.txn_types.specs.declared.event.NodeEvent.{NodeEvent}
use Rattle.txn_types.specs.declared.message.Envelope.{Envelope}
use Rattle.txn_types.specs.declared.message.Msg.{Msg}
use Rattle.txn_types.specs.declared.names.Tag.{Tag}
use Rattle.txn_types.specs.declared.decision.Decision.{Decision}
use Rattle.txn_types.specs.declared.node.NodeId.{NodeId}
use Rattle.txn_types.specs.declared.node.NodeId.TheVariants.{Shard, Router}
use Rattle.journal_rec.specs.declared.record.Rec.{Rec}
use Rattle.journal_rec.specs.declared.record.Rec.TheVariants as rec
use Rattle.coordinator.specs.TwoPhase.{Coordinated, Coordinations, coordinated_of, with_decision}
use Rattle.shard_image.specs.Image.{Image, image_of, empty_image, decided_if, decided_coords}
use Rattle.shard_image.specs.Image as image
use Rattle.shard_core.specs.State.{ShardState}
use Rattle.shard_core.specs.Core.{core_step}
use Rattle.shard_core.specs.NodeStep.{NodeState, ShardTakes, boot_behind, started}
use Rattle.router_state.specs.State.{RouterState}
use Rattle.txn_model.specs.declared.ran.Ran.{Ran}
use Rattle.txn_model.specs.declared.ran.Ran.TheVariants.{Step, Swapped}
use Rattle.txn_types.specs.Letters.{given_out, Named, named_in}
use Rattle.cluster_core.specs.Nodes.{Nodes}
use Rattle.cluster_core.specs.Trace.{Happens, ShardSteps, ShardStarts, RouterStarts, MayCome}
use Rattle.cluster_core.specs.Trace.{MayRemain, again}
use Rattle.cluster_core.specs.Parts.{names_of, TagsBegunOnce, WasDrawn}
use Rattle.shard_core.specs.Effect.{AllPlans, plan_name, NamesBy, SentNames, MayRecord, StepRecords}
use Rattle.world_laws.specs.Clocks.{EachShard}
use Rattle.world_laws.specs.Tags.{BeginsNamed, PlansNamed, AllPlansNamed}
use Rattle.world_laws.proofs.Lists.{set_get}
use Rattle.world_laws.proofs.Naming.{one, put_all, taken_all, found}
use Rattle.world_laws.proofs.Steps.{step_does}
use Rattle.world_laws.proofs.Records.{records_step}
use Rattle.world_laws.proofs.Clocks.{started_is, each_set, each_same}

-- the names in a list of messages

abbrev pub names : List Envelope → List Named
names sent = filter_map (λ e. named_in e.msg) sent

abbrev with_name : Option Named → List Named → List Named
with_name None names = names
with_name (Some n) names = n ∷ names

name_first : (P : Named → Type 0) (e : Envelope) (sent : List Envelope) (n : Option Named)
    → named_in e.msg ≡ n → IfSome (named_in e.msg) P → All P (names sent) → All P (names (e ∷ sent))
name_first P e sent None is h more = rw is more
name_first P e sent (Some n) is h more =
    let this : P n = subst (λ (o : Option Named). IfSome o P) is h in
    rw is (All-cons P n (names sent) this more)

sent_first : (P : Named → Type 0) (e : Envelope) (sent : List Envelope) (n : Option Named)
    → named_in e.msg ≡ n → All P (names (e ∷ sent)) → (All P (names sent) → SentNames P sent)
    → SentNames P (e ∷ sent)
sent_first P e sent None is h more =
    let rest : All P (names sent) =
    subst (λ (o : Option Named). All P (with_name o (names sent))) is h in
    All-cons (λ (e : Envelope). IfSome (named_in e.msg) P) e sent
    (subst (λ (o : Option Named). IfSome o P) (sym is) tt) (more rest)
sent_first P e sent (Some n) is h more =
    let all : All P (n ∷ names sent) =
    subst (λ (o : Option Named). All P (with_name o (names sent))) is h in
    All-cons (λ (e : Envelope). IfSome (named_in e.msg) P) e sent (subst (λ (o : Option Named).
    IfSome o P) (sym is) (All-head P n (names sent) all)) (more (All-tail P n (names sent) all))

-- what holds of the names of all messages holds of each message's
pub names_all : (P : Named → Type 0) (sent : List Envelope) → SentNames P sent → All P (names sent)
names_all P [] h = All-nil P
names_all P (e ∷ sent) h =
    name_first P e sent (named_in e.msg) refl
    (All-head (λ (e : Envelope). IfSome (named_in e.msg) P) e sent h)
    (names_all P sent (All-tail (λ (e : Envelope). IfSome (named_in e.msg) P) e sent h))

sent_named : (P : Named → Type 0) (sent : List Envelope) → All P (names sent) → SentNames P sent
sent_named P [] h = All-nil (λ (e : Envelope). IfSome (named_in e.msg) P)
sent_named P (e ∷ sent) h = sent_first P e sent (named_in e.msg) refl h (λ k. sent_named P sent k)

-- what was sent before is named so
sent_before : (nodes : Nodes) → SentNames (Contains (names_of nodes)) nodes.sent
sent_before nodes =
    sent_named (Contains (names_of nodes)) nodes.sent (All-contains_itself (names nodes.sent))

-- what may come names what was named
comes_named : (nodes : Nodes) (node : NodeId) (w : Happening) → MayCome nodes.sent node w
    → NamesBy (Contains (names_of nodes)) w
comes_named nodes node (what.Client conn frame) h = tt
comes_named nodes node (what.Gone conn) h = tt
comes_named nodes node (what.Deliver e) h = All-contains (λ (e : Envelope).
    IfSome (named_in e.msg) (Contains (names_of nodes))) nodes.sent e (sent_before nodes) h.0
comes_named nodes node what.Resend h = tt
comes_named nodes node what.Moment h = tt

-- A step of a shard.

begin_named : (P : Named → Type 0) (s : ShardState) (m : Msg) (new : ShardState) (r : Rec)
    → IfSome (named_in m) P → MayRecord s m new r → BeginsNamed P r
begin_named P s m new (rec.Boot boot) p h = tt
begin_named P s m new (rec.Ceiling bound) p h = tt
begin_named P s m new (rec.Commit tag lsid number read_at at writes) p h = tt
begin_named P s m new (rec.Prepared tag lsid number boot read_at at coordinator writes) p h = tt
begin_named P s m new (rec.Decided d) p h = tt
begin_named P s m new (rec.CoordStart tag lsid number parts) p h =
    subst (λ (o : Option Named). IfSome o P) h p
begin_named P s m new (rec.CoordDecision tag d) p h = tt
begin_named P s m new (rec.CoordEnd tag) p h = tt
begin_named P s m new (rec.Floor floor) p h = tt

record_named : (P : Named → Type 0) (s : ShardState) (e : NodeEvent) (new : ShardState)
    (r : Option Rec) → NamesBy P e.what → IfSome r (StepRecords s e new) → IfSome r (BeginsNamed P)
record_named P s e new None p h = tt
record_named P s e new (Some r) p h = begin_named P _ h.0.msg new r (subst (NamesBy P) h.1 p) h.2

pub takes_named : (P : Named → Type 0) (old : NodeState) (e : NodeEvent) (a : NodeAnswer)
    (new : NodeState) → ShardTakes old e a new → NamesBy P e.what → PlansNamed P old
    → PlansNamed P new × SentNames P (given_out a)
takes_named P old e a new h p c =
    let o = core_step h.0 old.core e in
    let f = step_does P h.0 old.core e in
    let r = records_step (BeginsNamed P) old o a new (λ b. tt) (record_named P old.core e o.core
    o.rec p f.recorded) c.records c.hand h.1 in
    elim (h.1) [
      | inl d ↦ (
        record {
          plans = subst (λ (s : ShardState). AllPlans P s.coord) (sym d.core) (f.plans p c.plans);
          records = r.0;
          hand = r.1;
        },
        subst (λ (a : NodeAnswer). SentNames P (given_out a)) (sym d.told) (f.names p c.plans),
      )
      | inr d ↦ (
        record {
          plans = subst (λ (s : ShardState). AllPlans P s.coord) (sym d.core) (f.plans p c.plans);
          records = r.0;
          hand = r.1;
        },
        subst (λ (a : NodeAnswer). SentNames P (given_out a)) (sym d.told)
            (All-nil (λ (e : Envelope). IfSome (named_in e.msg) P)),
      )
    ]

-- A start of a shard.

abbrev Q : (Named → Type 0) → Tag × Coordinated → Type 0
Q P c = P (plan_name c)

decided_plans : (P : Named
    → Type 0) (coords : Coordinations) (tag : Tag) (d : Decision) (c : Option Coordinated)
    → coordinated_of coords tag ≡ c → AllPlans P coords → AllPlans P (decided_if coords tag d c)
decided_plans P coords tag d None e h = h
decided_plans P coords tag d (Some c) e h =
    put_all tag_cmp (Q P) tag (with_decision (Some d) c) coords (found (Q P) tag coords h c e) h

changed_plans : (P : Named → Type 0) (i : Image) (r : Rec) → AllPlans P i.coord → BeginsNamed P r
    → AllPlans P (image.with_record i r).coord
changed_plans P i (rec.Boot boot) h b = h
changed_plans P i (rec.Ceiling bound) h b = h
changed_plans P i (rec.Commit tag lsid number read_at at writes) h b = h
changed_plans P i (rec.Prepared tag lsid number boot read_at at coordinator writes) h b = h
changed_plans P i (rec.Decided d) h b = h
changed_plans P i (rec.CoordStart tag lsid number parts) h b =
    put_all tag_cmp (Q P) tag _ i.coord b h
changed_plans P i (rec.CoordDecision tag d) h b =
    decided_plans P i.coord tag d (coordinated_of i.coord tag) refl h
changed_plans P i (rec.CoordEnd tag) h b = taken_all tag_cmp (Q P) tag i.coord h
changed_plans P i (rec.Floor floor) h b = h

image_plans : (P : Named → Type 0) (recs : List Rec) (i : Image) → AllPlans P i.coord
    → All (BeginsNamed P) recs → AllPlans P (image.with_records i recs).coord
image_plans P [] i h b = h
image_plans P (r ∷ recs) i h b = image_plans P recs (image.with_record i r) (changed_plans P i r h
    (All-head (BeginsNamed P) r recs b)) (All-tail (BeginsNamed P) r recs b)

plans_of_image : (P : Named → Type 0) (recs : List Rec) → All (BeginsNamed P) recs
    → AllPlans P (image_of recs).coord
unfolding image_of
plans_of_image P recs b = image_plans P recs empty_image (All-nil (Q P)) b

remains_named : (P : Named → Type 0) (old : NodeState) (recs : List Rec) → MayRemain old recs
    → PlansNamed P old → All (BeginsNamed P) recs
remains_named P old recs (inl e) c = subst (All (BeginsNamed P)) (sym e) c.records
remains_named P old recs (inr e) c = subst (All (BeginsNamed P)) (sym e) (All-append (BeginsNamed P)
    old.records old.hand c.records c.hand)

pub starts_named : (P : Named → Type 0) (n : ℕ) (recs : List Rec) (faults : ℕ) (s : NodeState)
    → started n recs faults ≡ Some s → All (BeginsNamed P) recs → PlansNamed P s
starts_named P n recs faults s e h =
    let more = recs ++ boot_behind (image_of recs) ∷ [] in
    let all = All-append (BeginsNamed P) recs (boot_behind (image_of recs)
    ∷ []) h (one (BeginsNamed P) (boot_behind (image_of recs)) tt) in
    subst (PlansNamed P) (sym (started_is n recs faults s e)) (record {
      plans = plans_of_image P more all;
      records = all;
      hand = All-nil (BeginsNamed P);
    })

-- Each event: names are only added.

begins_weaker : (P R : Named → Type 0) → ((n : Named) → P n → R n) → (r : Rec) → BeginsNamed P r
    → BeginsNamed R r
begins_weaker P R h (rec.CoordStart tag lsid number parts) b = h _ b
begins_weaker P R h (rec.Boot boot) b = tt
begins_weaker P R h (rec.Ceiling bound) b = tt
begins_weaker P R h (rec.Commit tag lsid number read_at at writes) b = tt
begins_weaker P R h (rec.Prepared tag lsid number boot read_at at coordinator writes) b = tt
begins_weaker P R h (rec.Decided d) b = tt
begins_weaker P R h (rec.CoordDecision tag d) b = tt
begins_weaker P R h (rec.CoordEnd tag) b = tt
begins_weaker P R h (rec.Floor floor) b = tt

weaker : (P R : Named → Type 0) → ((n : Named) → P n → R n) → (s : NodeState) → PlansNamed P s
    → PlansNamed R s
weaker P R h s c =
    record {
      plans = All-weaker (Q P) (Q R) (λ c. h (plan_name c)) s.core.coord c.plans;
      records =
          All-weaker (BeginsNamed P) (BeginsNamed R) (begins_weaker P R h) s.records c.records;
      hand = All-weaker (BeginsNamed P) (BeginsNamed R) (begins_weaker P R h) s.hand c.hand;
    }

-- all plans are named by what was sent before and is sent now
pub on_sent : (old new : Nodes) (out : List Envelope) → new.sent ≡ old.sent ++ out → (n : Named)
    → Contains (names_of old) n → Contains (names_of new) n
on_sent old new out e n h =
    subst (λ (sent : List Envelope). Contains (names sent) n) (sym e) (subst (λ (ns : List Named).
    Contains ns n) (sym (filter_map-append (λ (e : Envelope). named_in e.msg) old.sent out))
    (Contains-append_left (names old.sent) (names out) n h))

-- what is named after a step that names nothing new was named before
pub back_sent : (old new : Nodes) (out : List Envelope) → new.sent ≡ old.sent ++ out
    → SentNames (Contains (names_of old)) out → (n : Named) → Contains (names_of new) n
    → Contains (names_of old) n
back_sent old new out e k n h =
    let here : Contains (names old.sent ++ names out) n = subst (λ (ns : List Named).
    Contains ns n) (filter_map-append (λ (e : Envelope). named_in e.msg) old.sent out)
    (subst (λ (sent : List Envelope). Contains (names sent) n) e h) in
    elim (Contains-append_cases (names old.sent) (names out) n here) [
      | inl w ↦ w
      | inr w ↦ All-contains (Contains (names_of old)) (names out) n
          (names_all (Contains (names_of old)) out k) w
    ]

-- tags stand for what they stood for, where nothing new is named, and routers go on
abbrev pub GoOn : Nodes → Nodes → Type 0
GoOn old new = (i : ℕ) (r : RouterState) → slice_get old.routers i ≡ Some r → (s : RouterState)
    × (slice_get new.routers i ≡ Some s) × ((tag : Tag) → WasDrawn r tag → WasDrawn s tag)

pub tags_stay : (old new : Nodes) → ((n : Named) → Contains (names_of new) n
    → Contains (names_of old) n) → GoOn old new → TagsBegunOnce old → TagsBegunOnce new
tags_stay old new back on c =
    record {
      one_begin = λ a b p q. c.one_begin a b (back a p) (back b q);
      drawn = λ a p. let d = c.drawn a (back a p) in let s = on a.tag.router d.0 d.1 in
          (s.0, s.1, s.2 a.tag d.2);
      one_tag = λ a b p q. c.one_tag a b (back a p) (back b q);
    }

same_routers : (old new : Nodes) → new.routers ≡ old.routers → GoOn old new
same_routers old new e i r h = (r, ap (λ (rs : List RouterState). slice_get rs i) e ∙ h, λ tag w. w)

drawn_before : (before : RouterState) (n : ℕ) (tag : Tag) → WasDrawn before tag
    → WasDrawn (again n before) tag
drawn_before before n tag (inl h) = inl (grind arith)
drawn_before before n tag (inr h) = inl (grind arith)

some_is : {A : Type 0} (x y : A) → Some x ≡ Some y → x ≡ y
some_is x y e = grind arith

-- a router that starts again has a later boot
restarted : (old new : Nodes) (n : ℕ) (before : RouterState) → slice_get old.routers n ≡ Some before
    → new.routers ≡ slice_set old.routers n (again n before) → GoOn old new
restarted old new n before there e i r h =
    elim (set_get old.routers n i (again n before) r h) [
      | inl w ↦
          let is : r ≡ before =
          some_is r before (sym h ∙ ap (λ (k : ℕ). slice_get old.routers k) w.0 ∙ there) in (
            again n before,
            ap (λ (rs : List RouterState). slice_get rs i) e ∙ w.1,
            λ tag x. drawn_before before n tag (subst (λ (r : RouterState). WasDrawn r tag) is x),
          )
      | inr w ↦ (r, ap (λ (rs : List RouterState). slice_get rs i) e ∙ w, λ tag x. x)
    ]

-- what a step of a shard names
pub names_back : (old : Nodes) (n : ℕ) (e : NodeEvent) (a : NodeAnswer) (before after : NodeState)
    → slice_get old.shards n ≡ Some before → MayCome old.sent (Shard n) e.what
    → ShardTakes before e a after → AllPlansNamed old
    → PlansNamed (Contains (names_of old)) after × SentNames (Contains (names_of old)) (given_out a)
names_back old n e a before after there comes takes c = takes_named (Contains (names_of old)) before
    e a after takes (comes_named old (Shard n) e.what comes) (c n before there)

stay_named : (old new : Nodes)
    → ((n : Named) → Contains (names_of old) n → Contains (names_of new) n)
    → EachShard new (λ number n. PlansNamed (Contains (names_of old)) n) → AllPlansNamed new
stay_named old new on c number s e =
    weaker (Contains (names_of old)) (Contains (names_of new)) on s (c number s e)

same_sent : (old new : Nodes) → new.sent ≡ old.sent → (n : Named) → Contains (names_of old) n
    → Contains (names_of new) n
same_sent old new e n h = subst (λ (sent : List Envelope). Contains (names sent) n) (sym e) h

pub same_back : (old new : Nodes) → new.sent ≡ old.sent → (n : Named) → Contains (names_of new) n
    → Contains (names_of old) n
same_back old new e n h = subst (λ (sent : List Envelope). Contains (names sent) n) e h

pub plans_step : (old : Nodes) (ran : Ran) (new : Nodes) → Happens old ran new → AllPlansNamed old
    → AllPlansNamed new
plans_step old (Step (Shard n) e a faults) new h c =
    stay_named old new (on_sent old new (given_out a) (ap (λ (w : Nodes). w.sent) h.nodes))
    (each_set (λ number s. PlansNamed (Contains (names_of old)) s)
    old n h.after new (ap (λ (w : Nodes). w.shards) h.nodes) c
    (names_back old n e a h.before h.after h.there h.comes h.takes c).0)
plans_step old (Step (Router n) e a faults) new h c =
    stay_named old new (on_sent old new (given_out a) (ap (λ (w : Nodes). w.sent) h.nodes))
    (each_same (λ number s. PlansNamed (Contains (names_of old)) s) old new
    (ap (λ (w : Nodes). w.shards) h.nodes) c)
plans_step old (Swapped (Shard n)) new h c =
    stay_named old new (same_sent old new (ap (λ (w : Nodes). w.sent) h.nodes))
    (each_set (λ number s. PlansNamed (Contains (names_of old)) s) old n h.after new
    (ap (λ (w : Nodes). w.shards) h.nodes) c
    (starts_named (Contains (names_of old)) n h.recs h.faults h.after h.starts
    (remains_named (Contains (names_of old)) h.before h.recs h.remain (c n h.before h.there))))
plans_step old (Swapped (Router n)) new h c =
    stay_named old new (same_sent old new (ap (λ (w : Nodes). w.sent) h.nodes))
    (each_same (λ number s. PlansNamed (Contains (names_of old)) s) old new
    (ap (λ (w : Nodes). w.shards) h.nodes) c)

-- what a shard's step, its start and a router's start leave

pub tags_shard : (old : Nodes) (n : ℕ) (e : NodeEvent) (a : NodeAnswer) (faults : ℕ) (new : Nodes)
    → ShardSteps old n e a faults new → AllPlansNamed old → TagsBegunOnce old → TagsBegunOnce new
tags_shard old n e a faults new h c t =
    tags_stay old new (back_sent old new (given_out a) (ap (λ (w : Nodes). w.sent) h.nodes)
    (names_back old n e a h.before h.after h.there h.comes h.takes c).1)
    (same_routers old new (ap (λ (w : Nodes). w.routers) h.nodes)) t

pub tags_shard_start : (old : Nodes) (n : ℕ) (new : Nodes) → ShardStarts old n new
    → TagsBegunOnce old → TagsBegunOnce new
tags_shard_start old n new h t = tags_stay old new (same_back old new (ap (λ (w : Nodes). w.sent)
    h.nodes)) (same_routers old new (ap (λ (w : Nodes). w.routers) h.nodes)) t

pub tags_router_start : (old : Nodes) (n : ℕ) (new : Nodes) → RouterStarts old n new
    → TagsBegunOnce old → TagsBegunOnce new
tags_router_start old n new h t =
    tags_stay old new (same_back old new (ap (λ (w : Nodes). w.sent) h.nodes))
    (restarted old new n h.before h.there (ap (λ (w : Nodes). w.routers) h.nodes)) t
