-- What a shard told as released wrote nothing.
use Rattle.std.proofs.Common.{◌≡◌, ◌⊎◌, inl, inr, ◌<◌, ◌++◌, ℕ, suc, Bool, true, false, not}
use Rattle.std.proofs.Common.{List, [], ◌∷◌, All, Option, Some, None, map, length, slice_get}
use Rattle.std.proofs.Common.{slice_set}
use Rattle.std.proofs.Common.{max, refl, sym, ap, subst, ◌∙◌, if◌then◌else◌, arith}
use Rattle.std.specs.Prelude.{Contains}
use Rattle.std.proofs.lemmas.List.{append-nil, append_assoc}
use Rattle.std.proofs.lemmas.List.Elements.{All-contains, All-head, All-tail}
use Rattle.std.proofs.lemmas.List.Elements.{Contains-append_cases, Contains-append_left}
use Rattle.std.proofs.lemmas.List.Elements.{Contains-append_right}
use Rattle.txn_types.specs.Letters.{Named, given_out}
use Rattle.txn_types.specs.Order.{same_lsid}
use Rattle.txn_types.specs.declared.decision.Told.TheVariants as told_as
use Rattle.txn_types.specs.declared.event.NodeAnswer.{NodeAnswer}
use Rattle.txn_types.specs.declared.event.NodeEvent.{NodeEvent}
use Rattle.txn_types.specs.declared.message.Commit.{Commit}
use Rattle.txn_types.specs.declared.message.Envelope.{Envelope}
use Rattle.txn_types.specs.declared.message.Msg.{Msg}
use Rattle.txn_types.specs.declared.message.Msg.TheVariants as msg
use Rattle.txn_types.specs.declared.message.Outcome.{Outcome}
use Rattle.txn_types.specs.declared.message.Statement.{Statement}
use Rattle.txn_types.specs.declared.names.Tag.{Tag}
use Rattle.txn_types.specs.declared.node.Lsid.{Lsid}
use Rattle.txn_types.specs.declared.node.NodeId.TheVariants.{Shard, Router}
use Rattle.txn_types.specs.declared.operation.Op.{Op}
use Rattle.txn_semantics.specs.Answers.{of_tag, own_writes}
use Rattle.txn_semantics.specs.declared.commits.Answered.{Answered}
use Rattle.txn_semantics.specs.declared.commits.Entry.{Entry}
use Rattle.client_cmd.specs.declared.request.Request.TheVariants as request
use Rattle.chunk_map.specs.Map.{Map, IsMap}
use Rattle.journal_rec.specs.declared.record.Rec.{Rec}
use Rattle.journal_rec.specs.declared.record.Rec.TheVariants as rec
use Rattle.session_table.specs.Sessions.{Table, session_of, with_session}
use Rattle.session_table.specs.declared.session.Session.{Session}
use Rattle.session_table.specs.declared.session.SessionState.TheVariants as state
use Rattle.participant.specs.declared.said.Open.{Open}
use Rattle.participant.specs.Part.{Part, session, open_of}
use Rattle.participant.proofs.Ends.{entry_elsewhere}
use Rattle.participant.proofs.Moving.{entry_here}
use Rattle.participant.proofs.Tags.{lsid_same}
use Rattle.part_laws.specs.Parts.{IsServing, LiveAt, opened_of}
use Rattle.part_laws.specs.Sound.{Opens, Served, written}
use Rattle.part_laws.proofs.Elapsed.{expire_holds}
use Rattle.part_laws.proofs.Ended.{at_live}
use Rattle.part_laws.proofs.Judged.{served_are_right}
use Rattle.shard_image.specs.Image.{Image, image_of, with_record, with_records, empty_image}
use Rattle.shard_core.specs.State.{ShardState}
use Rattle.shard_core.specs.Core.{Room, CoreStep, core_step}
use Rattle.shard_core.specs.NodeStep.{NodeState, Appended, Failed, boot_behind, started}
use Rattle.durable_laws.specs.Backed.{IsDurableNode}
use Rattle.router_state.specs.State.{RouterState}
use Rattle.txn_model.specs.Commits.{commits}
use Rattle.txn_model.specs.declared.ran.Ran.{Ran}
use Rattle.txn_model.specs.declared.ran.Ran.TheVariants.{Step, Swapped}
use Rattle.cluster_core.specs.Answering.{Unanswered, is_complete, left_unanswered, opened}
use Rattle.cluster_core.specs.Answering.{taken_what, unanswered_behind, opened_by as opened_parts}
use Rattle.cluster_core.specs.Deciding.{has_written}
use Rattle.cluster_core.specs.Ledger.{Ledger, fresh_ledger, entered, entered_at, entered_by, passed}
use Rattle.cluster_core.specs.Ledger.{ledger_behind, answered_from, answered_in}
use Rattle.cluster_core.specs.Nodes.{Nodes, commits_of}
use Rattle.cluster_core.specs.Routers.{Asked, asked_at, is_memory, request_at}
use Rattle.cluster_core.specs.Trace.{ShardSteps, ShardStarts, Happens, IsTrace}
use Rattle.world_laws.proofs.Boots.{core_by}
use Rattle.world_laws.proofs.Clocks.{started_is, rests_not}
use Rattle.world_laws.proofs.Naming.{one}
use Rattle.world_laws.proofs.Steps.{stopped_rests}
use Rattle.answer_laws.specs.Opened.{opened_at, opened_by, opened_from, opened_in}
use Rattle.answer_laws.proofs.Answered.{sent_more}
use Rattle.told_laws.specs.Places.{IsOpened}
use Rattle.told_laws.proofs.Lists.{has_filter, none_there, not_same, only_one, order_two}
use Rattle.told_laws.specs.Places.{IsLater}
use Rattle.told_laws.proofs.Running.{all_booked}
use Rattle.told_laws.proofs.Standing.{ListsStand}
use Rattle.serving_laws.specs.Left.{Enters}
use Rattle.one_shard_laws.specs.Alone.{RecAlone}
use Rattle.one_shard_laws.specs.Concluding.{StartsAlone}
use Rattle.one_shard_laws.specs.Lasting.{OneShard, HasRun, Lasts, WasNamed, IsRight, commits_by}
use Rattle.one_shard_laws.proofs.Joint.{runs_alone}
use Rattle.chain_laws.proofs.Concluding.{reads_right}
use Rattle.chain_laws.proofs.Running.{ledger_more}
use Rattle.commit_laws.specs.Speaking.{CommitFollows, Gave, MsgFollows}
use Rattle.commit_laws.proofs.Chaining.{what_it_wrote}
use Rattle.commit_laws.proofs.Running.{all_stand}
use Rattle.decision_laws.specs.Ends.{WasSent}
use Rattle.decision_laws.proofs.Ageing.{some_same}
use Rattle.decision_laws.proofs.Coming.{alone_at, commit_asked}
use Rattle.decision_laws.proofs.Idle.{none_then, none_written}
use Rattle.decision_laws.proofs.Recorded.{only}
use Rattle.decision_laws.proofs.Lost.{one_map, trace_on}
use Rattle.decision_laws.proofs.Replies.{no_writes}
use Rattle.decision_laws.proofs.Saying.{TellsReleased, SaysOf, WritesNone, RecoverSays}
use Rattle.decision_laws.proofs.Serving.{serves, speaks}
use Rattle.decision_laws.proofs.Standing.{router_ends_none}
use Rattle.decision_laws.proofs.Steps.{AskedAs, FreesBy, IsNoEnd, OutTo, StepSays, asked_by}
use Rattle.decision_laws.proofs.Steps.{step_says, stopped_tells_none}

-- What a step opens isn't answered by it.

opened_more : (l : Ledger) (run : List Ran) (ran : Ran)
    → opened_from l (run ++ ran ∷ []) ≡ opened_from l run ++ opened_by (ledger_behind l run) ran
opened_more l [] ran = append-nil (opened_by l ran)
opened_more l (r ∷ run) ran =
    ap (λ (more : List Unanswered). opened_by l r ++ more)
    (opened_more (entered_by l r).ledger run ran)
    ∙ sym (append_assoc (opened_by l r) (opened_from (entered_by l r).ledger run)
    (opened_by (ledger_behind (entered_by l r).ledger run) ran))

answered_more : (l : Ledger) (run : List Ran) (ran : Ran)
    → answered_from l (run ++ ran ∷ [])
    ≡ answered_from l run ++ (entered_by (ledger_behind l run) ran).answered
answered_more l [] ran = append-nil (entered_by l ran).answered
answered_more l (r ∷ run) ran =
    ap (λ (more : List Answered). (entered_by l r).answered ++ more)
    (answered_more (entered_by l r).ledger run ran)
    ∙ sym (append_assoc (entered_by l r).answered (answered_from (entered_by l r).ledger run)
    (entered_by (ledger_behind (entered_by l r).ledger run) ran).answered)

new_incomplete : (n conn : ℕ) (op : Op) (parts : List (ℕ × Statement)) (v : Unanswered)
    → Contains (opened_parts n conn op parts) v → is_complete v ≡ false
new_incomplete n conn op [] v c = none_there v c
new_incomplete n conn op (part ∷ parts) v c =
    subst (λ (u : Unanswered). is_complete u ≡ false) (sym (only_one _ v c))
    (not_same 0 (suc (length (map (λ (p : ℕ × Statement). p.0) parts)))
    (λ e. absurd (omega (arith, e))))

incomplete : (n : ℕ) (asked : Option Asked) (a : NodeAnswer) (v : Unanswered)
    → Contains (opened n asked a) v → is_complete v ≡ false
incomplete n None a v c = none_there v c
incomplete n (Some (conn, request.Ping more time)) a v c = none_there v c
incomplete n (Some (conn, request.Hello old_name more time)) a v c = none_there v c
incomplete n (Some (conn, request.Statement op txn at after more time)) a v c =
    new_incomplete n conn op _ v c
incomplete n (Some (conn, request.Commit txn t more time)) a v c = none_there v c
incomplete n (Some (conn, request.Abort txn more time)) a v c = none_there v c
incomplete n (Some (conn, request.EndSessions ids more time)) a v c = none_there v c

module _ (l : Ledger) (n : ℕ) (r : RouterState) (e : NodeEvent) (a : NodeAnswer)
    (v : Unanswered) (c : Contains (opened n (request_at r e a) a) v) where
  left_there : Contains (left_unanswered (unanswered_behind n r e a l.unanswered)) v
  left_there =
      has_filter (λ (u : Unanswered). not (is_complete u))
      (unanswered_behind n r e a l.unanswered) v
      (ap not (incomplete n (request_at r e a) a v c))
      (Contains-append_right (taken_what n e.what l.unanswered) (opened n (request_at r e a) a) v c)

  waits_if : (test : Bool) → is_memory a ≡ test
      → Contains (if test then passed l else entered_at l n r e a).ledger.unanswered v
  waits_if true is =
      let nothing : request_at r e a ≡ None =
      ap (λ (b : Bool). if b then None else asked_at r (max r.wall e.wall) e.what) is in
      none_there v (subst (λ (x : Option Asked). Contains (opened n x a) v) nothing c)
  waits_if false is = left_there

waits_at : (l : Ledger) (n : ℕ) (r : Option RouterState) (e : NodeEvent) (a : NodeAnswer)
    (v : Unanswered) → Contains (opened_at n r e a) v
    → Contains (entered l n r e a).ledger.unanswered v
waits_at l n None e a v c = none_there v c
waits_at l n (Some r) e a v c = waits_if l n r e a v c (is_memory a) refl

waits : (l : Ledger) (ran : Ran) (v : Unanswered) → Contains (opened_by l ran) v
    → Contains (entered_by l ran).ledger.unanswered v
unfolding entered_by
waits l (Step (Router n) e a faults) v c = waits_at l n (slice_get l.routers n) e a v c
waits l (Step (Shard n) e a faults) v c = none_there v c
waits l (Swapped node) v c = none_there v c

-- No state of records has a released session.

abbrev NoFree : Table → Type 0
NoFree table = (lsid : Lsid) (t : Session) → session_of table lsid ≡ Some t
    → t.state ≡ state.Released → ⊥

put_free : (table : Table) (l : Lsid) (new : Session) → (new.state ≡ state.Released → ⊥)
    → NoFree table → NoFree (with_session table l new)
put_free table l new held h lsid t there free = by (same_lsid lsid l) refl
  where
    by : (test : Bool) → same_lsid lsid l ≡ test → ⊥
    by true is =
        let here : Some new ≡ Some t = sym (entry_here l new table.entries)
        ∙ ap (session_of (with_session table l new)) (sym (lsid_same lsid l is)) ∙ there in
        held (ap (λ (x : Session). x.state) (some_same new t here) ∙ free)
    by false is = h lsid t (sym (entry_elsewhere lsid l is new table.entries) ∙ there) free

record_free : (P : Named → Type 0) (i : Image) (r : Rec) → RecAlone P r → NoFree i.sessions
    → NoFree (with_record i r).sessions
record_free P i (rec.Commit tag lsid number read_at at writes) alone h =
    put_free i.sessions lsid (record { number = number; tag = tag; state = state.Committed at })
    (λ e. cc) h
record_free P i (rec.Boot boot) alone h = h
record_free P i (rec.Ceiling bound) alone h = h
record_free P i (rec.Prepared tag lsid number boot read_at at coordinator writes) alone h =
    absurd alone
record_free P i (rec.Decided d) alone h = absurd alone
record_free P i (rec.CoordStart tag lsid number parts) alone h = absurd alone
record_free P i (rec.CoordDecision tag d) alone h = absurd alone
record_free P i (rec.CoordEnd tag) alone h = absurd alone
record_free P i (rec.Floor floor) alone h = absurd alone

records_free : (P : Named → Type 0) (recs : List Rec) (i : Image) → All (RecAlone P) recs
    → NoFree i.sessions → NoFree (with_records i recs).sessions
records_free P [] i alone h = h
records_free P (r ∷ recs) i alone h =
    records_free P recs (with_record i r) (All-tail (RecAlone P) r recs alone)
    (record_free P i r (All-head (RecAlone P) r recs alone) h)

image_free : (P : Named → Type 0) (recs : List Rec) → All (RecAlone P) recs
    → NoFree (image_of recs).sessions
unfolding image_of
image_free P recs alone =
    records_free P recs empty_image alone
    (λ lsid t there free. let wrong : None ≡ Some t = there in cc)

started_free : (P : Named → Type 0) (recs : List Rec) (faults : ℕ) (new : NodeState)
    → started 0 recs faults ≡ Some new → All (RecAlone P) new.records
    → NoFree new.core.part.sessions
started_free P recs faults new go alone =
    subst NoFree (sym sessions_are) (image_free P new.records alone)
  where
    sessions_are : new.core.part.sessions ≡ (image_of new.records).sessions
    sessions_are = subst (λ (x : NodeState). x.core.part.sessions ≡ (image_of x.records).sessions)
        (sym (started_is 0 recs faults new go)) refl

-- A live transaction that is released wrote nothing in this boot.

pub serves_entered : (last : ℕ) (entries : List Entry) (served : List Served) (opens : Opens)
    (p q : Part) → IsServing p opens last entries served → Enters p q
    → (mid : Opens) × IsServing q mid last entries served
serves_entered last entries served opens p q h (inl same) =
    (opens, subst (λ (r : Part). IsServing r opens last entries served) (sym same) h)
serves_entered last entries served opens p q h (inr w) =
    let k = expire_holds p opens last entries served h w.0 in (
      k.0,
      subst (λ (r : Part). IsServing r k.0 last entries served) (sym w.1) k.1,
    )

none_here : (last : ℕ) (entries : List Entry) (served : List Served) (opens : Opens) (p : Part)
    → IsServing p opens last entries served → (tag : Tag) (o : Option Open)
    → LiveAt p.boot opens tag o → WritesNone o → written tag p.boot served ≡ []
none_here last entries served opens p h tag None live none = absurd live
none_here last entries served opens p h tag (Some o) live none =
    no_writes (written tag p.boot served)
    (sym (h.sound.opened tag (opened_of p.boot o) live.1).wrote ∙ none)

live_none : (last : ℕ) (entries : List Entry) (served : List Served) (opens : Opens) (p q : Part)
    → IsServing p opens last entries served → Enters p q → (lsid : Lsid) (own : Session)
    → session q lsid ≡ Some own → own.state ≡ state.Live → WritesNone (open_of q lsid)
    → written own.tag q.boot served ≡ []
live_none last entries served opens p q h enters lsid own there live none =
    let k = serves_entered last entries served opens p q h enters in
    none_here last entries served k.0 q k.1 own.tag (open_of q lsid)
    (at_live q k.0 last entries served k.1 lsid own there live) none

-- The run.

module _ (chunks : Map) (is : IsMap chunks) (start : Nodes) (h : StartsAlone chunks start) where
  abbrev told_by : List Ran → List Answered
  told_by run = answered_in start.routers run

  abbrev begun_by : List Ran → List Unanswered
  begun_by run = opened_in start.routers run

  -- it was asked to commit, and as of the commits of now its answered statements wrote nothing
  pub record Silent (run : List Ran) (nodes : Nodes) (tag : Tag) : Type 0 where
    pub commit : Commit
    pub was : WasSent nodes.sent commit
    pub of : commit.tag ≡ tag
    pub none : own_writes (commits_of nodes) [] (of_tag tag (told_by run)) ≡ []

  to_tag : (run : List Ran) (nodes : Nodes) (a b : Tag) → a ≡ b → Silent run nodes a
      → Silent run nodes b
  to_tag run nodes a b e s = subst (Silent run nodes) e s

  -- what is told, and what a shard that runs has, as released
  pub record Freed (run : List Ran) (nodes : Nodes) : Type 0 where
    pub told : (e : Envelope) (o : Outcome) → Contains nodes.sent e → e.msg ≡ msg.Outcome o
        → o.told ≡ told_as.Released → Silent run nodes o.tag
    pub kept : (n : NodeState) → nodes.shards ≡ n ∷ [] → n.core.stopped ≡ None → (lsid : Lsid)
        (t : Session) → session n.core.part lsid ≡ Some t → t.state ≡ state.Released
        → Silent run nodes t.tag

  follows_at : (run : List Ran) (trace : List Nodes) (nodes : Nodes)
      → IsTrace start run trace nodes → (c : Commit) → WasSent nodes.sent c
      → CommitFollows (Gave nodes.sent (told_by run)) (begun_by run) (told_by run) c
  follows_at run trace nodes k c was =
      let all = (all_stand chunks is (one_map chunks start h) start h.fresh run trace nodes k).sent in
      let G = Gave nodes.sent (told_by run) in
      subst (MsgFollows G (begun_by run) (told_by run) was.0.to) was.2
      (All-contains (λ (e : Envelope). MsgFollows G (begun_by run) (told_by run) e.to e.msg)
      nodes.sent was.0 all was.1)

  module _ (run : List Ran) (trace : List Nodes) (old : Nodes) (ran : Ran) (new : Nodes)
      (k : IsTrace start run trace old) (step : Happens old ran new) where
    abbrev further : List Ran
    further = run ++ ran ∷ []

    abbrev l : Ledger
    l = fresh_ledger start.routers

    on : IsTrace start further (trace ++ old ∷ []) new
    on = trace_on start run trace old ran new k step

    out : (more : List Envelope) × (new.sent ≡ old.sent ++ more)
    out = sent_more old ran new step

    was_on : (c : Commit) → WasSent old.sent c → WasSent new.sent c
    was_on c w = (
      w.0,
      subst (λ (s : List Envelope). Contains s w.0) (sym out.1)
          (Contains-append_left old.sent out.0 w.0 w.1),
      w.2,
    )

    -- after a commit was sent no statement of its transaction is answered any more

    one_told : (a b : Answered) → Contains (told_by further) a → Contains (told_by further) b
        → a.tag ≡ b.tag → a.k ≡ b.k → a ≡ b
    one_told a b p q tag place =
        elim (order_two IsLater (told_by further) a b
        (all_booked chunks start further (trace ++ old ∷ []) new h.fresh on).book.lists.later p q) [
          | inl e ↦ e
          | inr w ↦ elim w [
            | inl less ↦ let up : a.k < b.k = less tag in absurd (omega (arith, up, place))
            | inr less ↦ let up : b.k < a.k = less (sym tag) in absurd (omega (arith, up, place))
          ]
        ]

    old_told : (a : Answered) → Contains (told_by run) a → Contains (told_by further) a
    old_told a c = subst (λ (ones : List Answered). Contains ones a)
        (sym (answered_more l run ran))
        (Contains-append_left (told_by run) (entered_by (ledger_behind l run) ran).answered a c)

    back : (c : Commit) → WasSent old.sent c → (a : Answered) → Contains (told_by further) a
        → a.tag ≡ c.tag → Contains (told_by run) a
    back c was a there same =
        by (Contains-append_cases (begun_by run) (opened_by (ledger_behind l run) ran) o.statement
        (subst (λ (us : List Unanswered). Contains us o.statement) (opened_more l run ran)
        o.opened))
      where
        lists : ListsStand (begun_by further) (ledger_behind l further).unanswered
            (told_by further)
        lists =
            (all_booked chunks start further (trace ++ old ∷ []) new h.fresh on).book.lists

        o : IsOpened (begun_by further) a
        o = All-contains (IsOpened (begun_by further)) (told_by further) a lists.of there

        by : Contains (begun_by run) o.statement
            ⊎ Contains (opened_by (ledger_behind l run) ran) o.statement
            → Contains (told_by run) a
        by (inl before) =
            let r = (follows_at run trace old k c was).replied o.statement before
            (sym o.tag ∙ same) in
            subst (Contains (told_by run))
            (one_told r.answer a (old_told r.answer r.among) there (r.tag ∙ sym o.tag)
            (r.k ∙ sym o.k)) r.among
        by (inr newly) =
            let r = (follows_at further (trace ++ old ∷ []) new on c (was_on c was)).replied
            o.statement o.opened (sym o.tag ∙ same) in
            let still : Contains (ledger_behind l further).unanswered o.statement =
            subst (λ (x : Ledger). Contains x.unanswered o.statement) (sym (ledger_more l run ran))
            (waits (ledger_behind l run) ran o.statement newly) in
            let less : r.answer.k < o.statement.k =
            lists.newest o.statement r.answer still r.among r.tag in
            let place : r.answer.k ≡ o.statement.k = r.k in
            absurd (omega (arith, less, place))

    silent_on : (tag : Tag) → Silent run old tag → Silent further new tag
    silent_on tag s = record {
      commit = s.commit;
      was = was_on s.commit s.was;
      of = s.of;
      none = none_then (commits_of old) (commits_of new) (told_by run) (told_by further)
          (reads_right chunks start run trace old h is k)
          (reads_right chunks start further (trace ++ old ∷ []) new h is on) tag
          (λ a c same. back s.commit s.was a c (same ∙ sym s.of)) s.none;
    }

    freed_on : (told : (e : Envelope) (o : Outcome) → Contains old.sent e → e.msg ≡ msg.Outcome o
        → o.told ≡ told_as.Released → Silent run old o.tag) → new.sent ≡ old.sent
        → (e : Envelope) (o : Outcome) → Contains new.sent e → e.msg ≡ msg.Outcome o
        → o.told ≡ told_as.Released → Silent further new o.tag
    freed_on told same e o there is_o free =
        silent_on o.tag (told e o (subst (λ (s : List Envelope). Contains s e) same there) is_o
        free)

    now : OneShard old
    now = runs_alone chunks start run trace old h k

    module _ (f : Freed run old) where
      -- the shard

      module _ (n : ℕ) (e : NodeEvent) (a : NodeAnswer) (faults : ℕ)
          (s : ShardSteps old n e a faults new) where
        abbrev before : NodeState
        before = s.before

        at : (n ≡ 0) × (before ≡ now.node)
        at = only now.node before n
            (subst (λ (xs : List NodeState). slice_get xs n ≡ Some before) now.shards s.there)

        old_shards : old.shards ≡ before ∷ []
        old_shards = now.shards ∙ ap (λ (x : NodeState). x ∷ []) (sym at.1)

        new_shards : new.shards ≡ s.after ∷ []
        new_shards = ap (λ (w : Nodes). w.shards) s.nodes
            ∙ ap (λ (xs : List NodeState). slice_set xs n s.after) old_shards
            ∙ ap (λ (i : ℕ). slice_set (before ∷ []) i s.after) at.0

        right : IsRight old.sent before.core before.records before.hand
        right = subst (λ (x : NodeState). IsRight old.sent x.core x.records x.hand) (sym at.1)
            now.right

        durable : IsDurableNode before
        durable = subst IsDurableNode (sym at.1) now.durable

        commits_are : commits_of old ≡ commits_by before.records
        commits_are = ap (λ (xs : List NodeState). commits (map (λ (x : NodeState). x.records) xs))
            old_shards

        module _ (room : Room) (run_so : before.core.stopped ≡ None) where
          abbrev step_of : CoreStep
          step_of = core_step room before.core e

          abbrev q : Part
          q = step_of.core.part

          has : HasRun old.sent before.core before.records before.hand
          has = right.runs run_so

          says : StepSays (λ x. Unit {0}) before.core e.what step_of
          says = step_says (λ x. Unit {0}) room before.core e run_so has.2.coord durable.shard.part
              (alone_at old now (Shard n) e.what s.comes)

          abbrev p : Part
          p = says.p

          -- what was released before
          kept_before : (lsid : Lsid) (t : Session) → session p lsid ≡ Some t
              → t.state ≡ state.Released → Silent run old t.tag
          kept_before lsid t there free =
              f.kept before old_shards run_so lsid t (says.none_freed lsid t there free) free

          -- what is released now
          frees_now : (m : Commit) → asked_by e.what ≡ msg.Commit m → (own : Session)
              → session p m.lsid ≡ Some own → own.tag ≡ m.tag → own.state ≡ state.Live
              → m.boot ≡ p.boot → WritesNone (open_of p m.lsid) → Silent run old m.tag
          frees_now m asks own there tag live boot none =
              let was = commit_asked old now (Shard n) e.what s.comes m asks in
              let served : List Served = has.0 in
              let entries = commits_by before.records in
              let last : Lasts old.sent before.records before.core served = has.1 in
              let here : written own.tag p.boot served ≡ [] =
              live_none before.core.clock.last entries served last.opens before.core.part p
              last.holds says.entered m.lsid own there live none in
              let its : written m.tag m.boot served ≡ [] =
              subst (λ (t : Tag). written t m.boot served ≡ []) tag
              (subst (λ (b : ℕ). written own.tag b served ≡ []) (sym boot) here) in
              let wrote = what_it_wrote chunks old.sent (begun_by run) (told_by run) served
              (speaks chunks start run trace old is h k)
              (serves old.sent before.records before.core served last) was.0 m was.1 was.2 entries
              (served_are_right before.core.part.store last.opens before.core.clock.last entries
              served last.holds.sound) in
              record {
                commit = m;
                was = was;
                of = refl;
                none = subst (λ (es : List Entry). own_writes es [] (of_tag m.tag (told_by run))
                    ≡ []) (sym commits_are) (sym wrote ∙ its);
              }

          releases : (m : Commit) → asked_by e.what ≡ msg.Commit m → TellsReleased p q m
              → Silent run old m.tag
          releases m asks t = by t.was
            where
              by : ((t.own.state ≡ state.Live) × (m.boot ≡ p.boot) × WritesNone (open_of p m.lsid))
                  ⊎ (t.own.state ≡ state.Released) → Silent run old m.tag
              by (inl w) = frees_now m asks t.own t.there t.tag_is w.0 w.1 w.2
              by (inr free) = to_tag run old t.own.tag m.tag t.tag_is
                  (kept_before m.lsid t.own t.there free)

          told_case : (x : Msg) → asked_by e.what ≡ x → (o : Outcome) → AskedAs p q x o
              → o.told ≡ told_as.Released → Silent run old o.tag
          told_case (msg.Commit m) asks o t free =
              to_tag run old m.tag o.tag (sym t.0)
              (releases m asks (subst (SaysOf p q m) free t.1))
          told_case (msg.Recover m) asks o t free = absurd (subst (RecoverSays p q m) free t.1)
          told_case other asks o t free = absurd t

          left_case : (x : Msg) → asked_by e.what ≡ x → FreesBy p q x → (lsid : Lsid) (t : Session)
              → session q lsid ≡ Some t → t.state ≡ state.Released → Silent run old t.tag
          left_case (msg.Commit m) asks frees lsid t there free =
              elim (frees lsid t there free) [
                | inl was ↦ kept_before lsid t was free
                | inr now_so ↦ to_tag run old m.tag t.tag (sym now_so.0) (releases m asks now_so.1)
              ]
          left_case other asks frees lsid t there free =
              kept_before lsid t (frees lsid t there free) free

          given_case : Appended before step_of a s.after ⊎ Failed before step_of a s.after
              → (x : Envelope) (o : Outcome) → Contains (given_out a) x → x.msg ≡ msg.Outcome o
              → o.told ≡ told_as.Released → Silent run old o.tag
          given_case (inl d) x o there is_o free =
              let among : Contains (given_out step_of.answer) x =
              subst (λ (b : NodeAnswer). Contains (given_out b) x) d.told there in
              let says_x : OutTo p q (asked_by e.what) x.msg =
              All-contains (λ (z : Envelope). OutTo p q (asked_by e.what) z.msg)
              (given_out step_of.answer) x says.out among in
              told_case (asked_by e.what) refl o
              (subst (OutTo p q (asked_by e.what)) is_o says_x) free
          given_case (inr d) x o there is_o free =
              none_there x (subst (λ (b : NodeAnswer). Contains (given_out b) x) d.told there)

          part_then : Appended before step_of a s.after ⊎ Failed before step_of a s.after
              → s.after.core.part ≡ q
          part_then took = core_by (λ (x : ShardState). x.part ≡ q) before step_of a s.after refl
              (λ stopped. refl) took

          runs_freed : Appended before step_of a s.after ⊎ Failed before step_of a s.after
              → Freed further new
          runs_freed took = record {
            told = λ x o there is_o free.
                elim (Contains-append_cases old.sent (given_out a) x
                (subst (λ (xs : List Envelope). Contains xs x)
                (ap (λ (w : Nodes). w.sent) s.nodes) there)) [
                  | inl was ↦ silent_on o.tag (f.told x o was is_o free)
                  | inr now_so ↦ silent_on o.tag (given_case took x o now_so is_o free)
                ];
            kept = λ node shards run_then lsid t there free.
                let same : node ≡ s.after = (only s.after node 0
                (subst (λ (xs : List NodeState). slice_get xs 0 ≡ Some node)
                (sym shards ∙ new_shards) refl)).1 in
                let in_q : session q lsid ≡ Some t =
                subst (λ (part : Part). session part lsid ≡ Some t) (part_then took)
                (subst (λ (x : NodeState). session x.core.part lsid ≡ Some t) same there) in
                silent_on t.tag (left_case (asked_by e.what) refl says.frees lsid t in_q free);
          }

        stops_freed : (room : Room) (stops : ℕ) → before.core.stopped ≡ Some stops
            → Appended before (core_step room before.core e) a s.after → Freed further new
        stops_freed room stops stopped d = record {
          told = λ x o there is_o free.
              elim (Contains-append_cases old.sent (given_out a) x
              (subst (λ (xs : List Envelope). Contains xs x)
              (ap (λ (w : Nodes). w.sent) s.nodes) there)) [
                | inl was ↦ silent_on o.tag (f.told x o was is_o free)
                | inr now_so ↦
                    absurd (subst IsNoEnd is_o (All-contains (λ (y : Envelope). IsNoEnd y.msg)
                    (given_out a) x (subst (λ (b : NodeAnswer). All (λ (y : Envelope).
                    IsNoEnd y.msg) (given_out b)) (sym d.told)
                    (stopped_tells_none room before.core e stops stopped)) now_so))
              ];
          kept = λ node shards run_then lsid t there free.
              let same : node ≡ s.after = (only s.after node 0
              (subst (λ (xs : List NodeState). slice_get xs 0 ≡ Some node)
              (sym shards ∙ new_shards) refl)).1 in
              let rests = stopped_rests room before.core e stops stopped in
              let wrong : Some stops ≡ None = sym stopped
              ∙ ap (λ (c : ShardState). c.stopped) (sym (d.core ∙ rests.core))
              ∙ ap (λ (x : NodeState). x.core.stopped) (sym same) ∙ run_then in
              cc;
        }

        shard_freed : Freed further new
        shard_freed = by s.takes.0 before.core.stopped refl s.takes.1
          where
            by : (room : Room) (stops : Option ℕ) → before.core.stopped ≡ stops
                → Appended before (core_step room before.core e) a s.after
                ⊎ Failed before (core_step room before.core e) a s.after → Freed further new
            by room None run_so took = runs_freed room run_so took
            by room (Some stops) stopped (inl d) = stops_freed room stops stopped d
            by room (Some stops) stopped (inr d) =
                absurd (rests_not before room e a s.after stops stopped d)

      -- the shard starts again
      starts_freed : (n : ℕ) → ShardStarts old n new → Freed further new
      starts_freed n s =
          let at = only now.node s.before n
          (subst (λ (xs : List NodeState). slice_get xs n ≡ Some s.before) now.shards s.there) in
          let go : started 0 s.recs s.faults ≡ Some s.after =
          subst (λ (i : ℕ). started i s.recs s.faults ≡ Some s.after) at.0 s.starts in
          let later = runs_alone chunks start further (trace ++ old ∷ []) new h on in
          record {
            told = freed_on f.told (ap (λ (w : Nodes). w.sent) s.nodes);
            kept = λ node shards run_then lsid t there free.
                let shards_are : new.shards ≡ s.after ∷ [] = ap (λ (w : Nodes). w.shards) s.nodes
                ∙ ap (λ (xs : List NodeState). slice_set xs n s.after) now.shards
                ∙ ap (λ (i : ℕ). slice_set (now.node ∷ []) i s.after) at.0 in
                let same : node ≡ s.after = (only s.after node 0
                (subst (λ (xs : List NodeState). slice_get xs 0 ≡ Some node)
                (sym shards ∙ shards_are) refl)).1 in
                let its : later.node ≡ s.after = (only s.after later.node 0
                (subst (λ (xs : List NodeState). slice_get xs 0 ≡ Some later.node)
                (sym later.shards ∙ shards_are) refl)).1 in
                let alone : All (RecAlone (WasNamed new.sent)) s.after.records =
                subst (λ (x : NodeState). All (RecAlone (WasNamed new.sent)) x.records) its
                later.right.kept.2.alone.records in
                absurd (started_free (WasNamed new.sent) s.recs s.faults s.after go alone lsid t
                (subst (λ (x : NodeState). session x.core.part lsid ≡ Some t) same there) free);
          }

      -- a router
      rests_freed : new.shards ≡ old.shards
          → ((e : Envelope) (o : Outcome) → Contains new.sent e → e.msg ≡ msg.Outcome o
          → Contains old.sent e) → Freed further new
      rests_freed shards_are sent = record {
        told = λ e o there is_o free. silent_on o.tag (f.told e o (sent e o there is_o) is_o free);
        kept = λ node shards run_so lsid t there free. silent_on t.tag
            (f.kept node (sym shards_are ∙ shards) run_so lsid t there free);
      }

      pub step_freed : Freed further new
      step_freed = by ran step
        where
          by : (r : Ran) → Happens old r new → Freed further new
          by (Step (Shard n) e a faults) s = shard_freed n e a faults s
          by (Step (Router n) e a faults) s =
              rests_freed (ap (λ (w : Nodes). w.shards) s.nodes) (λ x o there is_o.
              elim (Contains-append_cases old.sent (given_out a) x
              (subst (λ (xs : List Envelope). Contains xs x)
              (ap (λ (w : Nodes). w.sent) s.nodes) there)) [
                | inl was ↦ was
                | inr now_so ↦
                    absurd (subst IsNoEnd is_o (All-contains (λ (y : Envelope). IsNoEnd y.msg)
                    (given_out a) x (router_ends_none old new now n e a faults s) now_so))
              ])
          by (Swapped (Shard n)) s = starts_freed n s
          by (Swapped (Router n)) s =
              rests_freed (ap (λ (w : Nodes). w.shards) s.nodes) (λ x o there is_o.
              subst (λ (xs : List Envelope). Contains xs x) (ap (λ (w : Nodes). w.sent) s.nodes)
              there)

  goes : (run : List Ran) (trace : List Nodes) (old : Nodes) (more : List Ran)
      (later : List Nodes) (last : Nodes) → IsTrace start run trace old → Freed run old
      → IsTrace old more later last → Freed (run ++ more) last
  goes run trace old [] [] last k f m =
      subst (λ (x : Nodes). Freed (run ++ []) x) (sym m)
      (subst (λ (rs : List Ran). Freed rs old) (sym (append-nil run)) f)
  goes run trace old [] (nodes ∷ later) last k f m = absurd m
  goes run trace old (ran ∷ more) [] last k f m = absurd m
  goes run trace old (ran ∷ more) (nodes ∷ later) last k f m =
      subst (λ (rs : List Ran). Freed rs last) (append_assoc run (ran ∷ []) more)
      (goes (run ++ ran ∷ []) (trace ++ old ∷ []) m.1.0 more later last
      (trace_on start run trace old ran m.1.0 k m.1.1)
      (step_freed run trace old ran m.1.0 k m.1.1 f) m.1.2)

  first_freed : Freed [] start
  first_freed = record {
    told = λ e o there is_o free. none_there e
        (subst (λ (xs : List Envelope). Contains xs e) h.fresh.sent there);
    kept = λ node shards run_so lsid t there free.
        let same : node ≡ h.node = (only h.node node 0
        (subst (λ (xs : List NodeState). slice_get xs 0 ≡ Some node) (sym shards ∙ h.shards)
        refl)).1 in
        let alone : All (RecAlone (λ x. Unit {0})) h.node.records =
        subst (λ (x : NodeState). All (RecAlone (λ y. Unit {0})) x.records)
        (sym (started_is 0 [] h.faults h.node h.starts))
        (one (RecAlone (λ x. Unit {0})) (boot_behind (image_of [])) tt) in
        absurd (started_free (λ x. Unit {0}) [] h.faults h.node h.starts alone lsid t
        (subst (λ (x : NodeState). session x.core.part lsid ≡ Some t) same there) free);
  }

  all_freed : (run : List Ran) (trace : List Nodes) (now : Nodes) → IsTrace start run trace now
      → Freed run now
  all_freed run trace now k = goes [] [] start run trace now refl first_freed k

-- What a shard told as released wrote nothing.
pub released_wrote_nothing : (chunks : Map) (start : Nodes) (run : List Ran) (trace : List Nodes)
    (now : Nodes) → IsMap chunks → StartsAlone chunks start → IsTrace start run trace now
    → (e : Envelope) (o : Outcome) → Contains now.sent e → e.msg ≡ msg.Outcome o
    → o.told ≡ told_as.Released
    → has_written (commits_of now) (answered_in start.routers run) o.tag ≡ false
released_wrote_nothing chunks start run trace now is h k e o there is_o free =
    none_written (commits_of now) (answered_in start.routers run) o.tag
    ((all_freed chunks is start h run trace now k).told e o there is_o free).none
