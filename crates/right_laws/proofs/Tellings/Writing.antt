-- Each commit that a shard records has a write, so each entry of the list of commits has one; and
-- the statements of its transaction wrote something.
use Rattle.std.proofs.Common.{◌≡◌, inl, inr, ◌∙◌, ◌||◌, ◌++◌, ◌==◌, ℕ, zero, suc}
use Rattle.std.proofs.Common.{Bool, true, false, not, All, Contains, List, [], ◌∷◌, length}
use Rattle.std.proofs.Common.{flat_map}
use Rattle.std.proofs.Common.{Option, Some, None, IfSome, option_map, option_and_then, unwrap_or}
use Rattle.std.proofs.Common.{nat_eq, int_lt, slice_get, slice_set, refl, sym, ap}
use Rattle.std.proofs.Common.{map, subst, IsTrue, arith}
use Rattle.std.specs.List.{list_any}
use Rattle.std.specs.Ordering.{is_lt}
use Rattle.std.proofs.lemmas.Bool.{ne_eqb}
use Rattle.std.proofs.lemmas.List.Elements.{All-nil, All-cons, All-head, All-tail, All-append}
use Rattle.std.proofs.lemmas.List.Elements.{All-contains, Contains-append_left}
use Rattle.std.proofs.lemmas.List.Elements.{Contains-append_right}
use Rattle.txn_types.specs.Clock.{ticked}
use Rattle.txn_types.specs.Letters.{Named}
use Rattle.txn_types.specs.Order.{same_tag}
use Rattle.txn_types.specs.declared.event.Happening.{Happening}
use Rattle.txn_types.specs.declared.event.Happening.TheVariants as what
use Rattle.txn_types.specs.declared.event.NodeAnswer.{NodeAnswer}
use Rattle.txn_types.specs.declared.event.NodeAnswer.TheVariants as answer
use Rattle.txn_types.specs.declared.event.NodeEvent.{NodeEvent}
use Rattle.txn_types.specs.declared.message.Commit.{Commit}
use Rattle.txn_types.specs.declared.message.Envelope.{Envelope}
use Rattle.txn_types.specs.declared.message.Msg.{Msg}
use Rattle.txn_types.specs.declared.message.Msg.TheVariants as msg
use Rattle.txn_types.specs.declared.message.Recover.{Recover}
use Rattle.txn_types.specs.declared.message.Statement.{Statement}
use Rattle.txn_types.specs.declared.names.Tag.{Tag}
use Rattle.txn_types.specs.declared.node.NodeId.{NodeId}
use Rattle.txn_types.specs.declared.node.NodeId.TheVariants.{Shard, Router}
use Rattle.txn_types.specs.declared.write.Write.{Write}
use Rattle.txn_semantics.specs.Answers.{began, own_writes, of_tag}
use Rattle.txn_semantics.specs.Writes.{write_set}
use Rattle.txn_semantics.specs.declared.commits.Entry.{Entry}
use Rattle.journal_rec.specs.declared.record.Rec.{Rec}
use Rattle.journal_rec.specs.declared.record.Rec.TheVariants as rec
use Rattle.session_table.specs.declared.session.Session.{Session}
use Rattle.session_table.specs.declared.session.SessionState.{SessionState}
use Rattle.session_table.specs.declared.session.SessionState.TheVariants as state
use Rattle.coordinator.specs.TwoPhase.{Coordinated, Coordinations, coordinated_of}
use Rattle.participant.specs.Commit as pc
use Rattle.participant.specs.Part.{Part, session, open_of, elsewhere}
use Rattle.participant.specs.Statement.{statement}
use Rattle.participant.specs.declared.said.Open.{Open}
use Rattle.participant.specs.declared.said.Said.{Said}
use Rattle.participant.specs.declared.said.Said.TheVariants.{Did, Blocked, Refused, Late}
use Rattle.participant.proofs.Cases.{either}
use Rattle.participant.proofs.Tags.{tag_same}
use Rattle.chunk_map.specs.Map.{Map, IsMap}
use Rattle.shard_core.specs.State.{ShardState, met, ceiling_of, with_part}
use Rattle.shard_core.specs.Ruled.{Ruled, coordinates}
use Rattle.shard_core.specs.Participating.{answers}
use Rattle.shard_core.specs.Coordinating.{unless_coordinated, unless_older, larger_number}
use Rattle.shard_core.specs.Coordinating.{on_recover, recovers}
use Rattle.shard_core.specs.Rules.{ruled, from_router, router_of}
use Rattle.shard_core.specs.Wanting.{wanting, Wanting, told_if, told_memory, may_be_told}
use Rattle.shard_core.specs.Core.{Room, Ample, Scarce, Short, CoreStep, core_step, step_if, stepped}
use Rattle.shard_core.specs.Core.{stays, entered, happened, scarce, running_step, stopped_step}
use Rattle.shard_core.specs.NodeStep.{NodeState, ShardTakes, joined, appends_of}
use Rattle.shard_core.specs.NodeStep.{ceiling_append, record_append, started, boot_behind}
use Rattle.shard_image.specs.Image.{image_of}
use Rattle.txn_model.specs.Commits.{Journals, commits, entries_behind, entry_of, has_entry}
use Rattle.txn_model.specs.Commits.{put_entry, in_order, entry_cmp}
use Rattle.txn_model.specs.declared.ran.Ran.{Ran}
use Rattle.txn_model.specs.declared.ran.Ran.TheVariants.{Step, Swapped}
use Rattle.cluster_core.specs.Deciding.{has_written}
use Rattle.cluster_core.specs.Ledger.{answered_in}
use Rattle.cluster_core.specs.Nodes.{Nodes, commits_of, journals_of}
use Rattle.cluster_core.specs.Right.{boots_of}
use Rattle.cluster_core.specs.Trace.{Happens, IsTrace}
use Rattle.world_laws.proofs.Clocks.{started_is}
use Rattle.world_laws.proofs.Naming.{one}
use Rattle.answer_laws.proofs.Lists.{has_first, has_more}
use Rattle.told_laws.proofs.Lists.{contained}
use Rattle.one_shard_laws.specs.Alone.{IsAlone, EventAlone, RecAlone}
use Rattle.one_shard_laws.specs.Concluding.{StartsAlone}
use Rattle.one_shard_laws.specs.Lasting.{OneShard, WasNamed}
use Rattle.one_shard_laws.proofs.Joint.{runs_alone}
use Rattle.commit_laws.proofs.Whole.{all_whole}
use Rattle.decision_laws.proofs.Lost.{trace_on}
use Rattle.right_laws.proofs.Tellings.Reached.{comes_alone}

-- a record that commits has a write
abbrev pub HasWrite : Rec → Type 0
HasWrite (rec.Commit tag lsid number read_at at writes) = writes ≡ [] → ⊥
HasWrite other = Unit {0}

abbrev Writes : Option Rec → Type 0
Writes o = IfSome o HasWrite

no_cons : {A X : Type 0} (x : A) (xs : List A) → x ∷ xs ≡ [] → X
no_cons x xs e = cc

-- A commit.

abbrev Records : pc.Committing → Type 0
Records c = Writes c.rec

writes_case : (p : Part) (last wall : ℕ) (m : Commit) (s : Session) (o : Open) (ws : List Write)
    → o.writes ≡ ws → Records (pc.commits_writes p last wall m s o ws)
writes_case p last wall m s o [] is = tt
writes_case p last wall m s o (w ∷ ws) is = by (ticked last wall)
  where
    by : (at : Option ℕ) → Records (pc.commits_by p last m s o at)
    by None = tt
    by (Some at) = λ none. no_cons w ws (sym is ∙ none)

open_case : (p : Part) (last wall : ℕ) (m : Commit) (s : Session) (o : Option Open)
    → Records (pc.commits_open p last wall m s o)
open_case p last wall m s None = tt
open_case p last wall m s (Some o) = writes_case p last wall m s o o.writes refl

own_case : (p : Part) (last wall : ℕ) (m : Commit) (s : Session) (st : SessionState)
    → Records (pc.commits_own p last wall m s st)
own_case p last wall m s state.Live =
    either (nat_eq m.boot p.boot) Records _ _ (open_case p last wall m s (open_of p m.lsid)) tt
own_case p last wall m s (state.Prepared at coordinator) = tt
own_case p last wall m s (state.Committed at) = tt
own_case p last wall m s state.Released = tt
own_case p last wall m s (state.Aborted why read_at) = tt

session_case : (p : Part) (last wall : ℕ) (m : Commit) (s : Option Session)
    → Records (pc.commits_session p last wall m s)
session_case p last wall m None = tt
session_case p last wall m (Some s) =
    either (int_lt m.number s.number) Records _ _ tt
    (either (same_tag s.tag m.tag) Records _ _ (own_case p last wall m s s.state) tt)

commit_writes : (p : Part) (last wall : ℕ) (m : Commit) → Records (pc.commit p last wall m)
unfolding pc.commit
commit_writes p last wall m = session_case p last wall m (session p m.lsid)

-- A rule, on one shard.

abbrev Rules : Ruled → Type 0
Rules r = Writes r.rec

module _ (s : ShardState) (none : s.coord ≡ []) (from : NodeId) where
  answers_write : (p : Part) (m : Statement) (said : Said)
      → Rules (answers (with_part s p) from m said)
  answers_write p m (Did read_at reply wrote) = tt
  answers_write p m (Blocked held) = tt
  answers_write p m (Refused why read_at) = tt
  answers_write p m Late = tt

  coordinated_case : (m : Recover) (router : ℕ) (c : Option Coordinated) (other : Ruled)
      → coordinated_of s.coord m.tag ≡ c → Rules other
      → Rules (unless_coordinated s router m.tag c other)
  coordinated_case m router None other is h = h
  coordinated_case m router (Some c) other is h =
      let wrong : None ≡ Some c =
      sym (ap (λ (x : Coordinations). coordinated_of x m.tag) none) ∙ is in
      cc

  older_case : (m : Recover) (router : ℕ) (have : Option _) (other : Ruled) → Rules other
      → Rules (unless_older s router m.tag have other)
  older_case m router None other h = h
  older_case m router (Some have) other h = tt

  recover_writes : (m : Recover) (router : Option ℕ)
      → Rules (from_router s (λ n. on_recover s n m) router)
  recover_writes m None = tt
  recover_writes m (Some n) =
      older_case m n (larger_number (session s.part m.lsid) m.number)
      (unless_coordinated s n m.tag (coordinated_of s.coord m.tag) (recovers s n m))
      (coordinated_case m n (coordinated_of s.coord m.tag) (recovers s n m) refl tt)

  ruled_writes : (m : Msg) → IsAlone m → Rules (ruled s from m)
  ruled_writes (msg.Statement m) alone =
      let turn = statement s.part s.clock.last s.wall m in
      either (elsewhere s.part m.lsid m.tag) Rules _ _ tt (answers_write turn.1 m turn.0)
  ruled_writes (msg.Answer m) alone = tt
  ruled_writes (msg.Commit m) alone = commit_writes s.part s.clock.last s.wall m
  ruled_writes (msg.Outcome m) alone = tt
  ruled_writes (msg.Abort m) alone = either (coordinates s m.tag) Rules _ _ tt tt
  ruled_writes (msg.CommitTwo m) alone = absurd alone
  ruled_writes (msg.Prepare m) alone = absurd alone
  ruled_writes (msg.Vote m) alone = absurd alone
  ruled_writes (msg.Decide m) alone = absurd alone
  ruled_writes (msg.Acked m) alone = absurd alone
  ruled_writes (msg.Recover m) alone = recover_writes m (router_of from)
  ruled_writes msg.Nudge alone = tt

-- A step.

abbrev Steps : CoreStep → Type 0
Steps o = Writes o.rec

module _ (t : ShardState) (none : t.coord ≡ []) where
  happens : (w : Happening) → EventAlone w → Steps (happened t w)
  happens (what.Client conn frame) alone = tt
  happens (what.Gone conn) alone = tt
  happens (what.Deliver x) alone = ruled_writes (met t x) none x.from x.msg alone
  happens what.Resend alone = tt
  happens what.Moment alone = tt

  abbrev EachSteps : Option CoreStep → Type 0
  EachSteps None = Unit {0}
  EachSteps (Some o) = Steps o

  told_steps : (x : Envelope) (w : Option Wanting)
      → EachSteps (option_map (stepped (ceiling_of t x))
      (option_and_then (told_if (met t x)) w))
  told_steps x None = tt
  told_steps x (Some w) =
      either (may_be_told (met t x) w) (λ (r : Option Ruled). EachSteps
      (option_map (stepped (ceiling_of t x)) r)) (Some (told_memory (met t x) w)) None tt tt

  scarce_steps : (w : Happening) → EachSteps (scarce t w)
  scarce_steps (what.Client conn frame) = tt
  scarce_steps (what.Gone conn) = tt
  scarce_steps (what.Deliver x) = told_steps x (wanting (met t x) x.from x.msg)
  scarce_steps what.Resend = tt
  scarce_steps what.Moment = tt

  unless_short : (s : ShardState) (o : Option CoreStep) → EachSteps o
      → Steps (unwrap_or o (stays s answer.Memory))
  unless_short s None h = tt
  unless_short s (Some o) h = h

running_writes : (s : ShardState) → s.coord ≡ [] → (room : Room) (e : NodeEvent)
    → EventAlone e.what → Steps (running_step room s e)
running_writes s none Ample e alone = happens (entered s e) none e.what alone
running_writes s none Scarce e alone =
    unless_short (entered s e) none s (scarce (entered s e) e.what)
    (scarce_steps (entered s e) none e.what)
running_writes s none Short e alone = tt

stopping_writes : (s : ShardState) (room : Room) (faults : ℕ) (e : NodeEvent)
    → Steps (stopped_step room s faults e)
stopping_writes s Ample faults e = tt
stopping_writes s Scarce faults e = tt
stopping_writes s Short faults e = tt

by_stopped : (s : ShardState) (room : Room) (e : NodeEvent) (stopped : Option ℕ)
    → (stopped ≡ None → s.coord ≡ []) → EventAlone e.what → Steps (step_if room s e stopped)
by_stopped s room e None none alone = running_writes s (none refl) room e alone
by_stopped s room e (Some faults) none alone = stopping_writes s room faults e

step_writes : (room : Room) (s : ShardState) (e : NodeEvent)
    → (s.stopped ≡ None → s.coord ≡ []) → EventAlone e.what → Steps (core_step room s e)
unfolding core_step
step_writes room s e none alone = by_stopped s room e s.stopped none alone

-- A node.

abbrev AllWrite : List Rec → Type 0
AllWrite recs = All HasWrite recs

appends_write : (o : CoreStep) → Steps o → All AllWrite (appends_of o)
appends_write o h =
    All-append AllWrite (ceiling_append o.ceiling) (record_append o.rec) (first o.ceiling)
    (second o.rec h)
  where
    first : (c : Option ℕ) → All AllWrite (ceiling_append c)
    first None = All-nil AllWrite
    first (Some bound) = one AllWrite (rec.Ceiling bound ∷ []) (one HasWrite (rec.Ceiling bound) tt)

    second : (r : Option Rec) → Writes r → All AllWrite (record_append r)
    second None k = All-nil AllWrite
    second (Some r) k = one AllWrite (r ∷ []) (one HasWrite r k)

joined_write : (lists : List (List Rec)) → All AllWrite lists → AllWrite (joined lists)
joined_write [] h = All-nil HasWrite
joined_write (l ∷ lists) h =
    All-append HasWrite l (joined lists) (All-head AllWrite l lists h)
    (joined_write lists (All-tail AllWrite l lists h))

pub record NodeWrites (n : NodeState) : Type 0 where
  pub records : AllWrite n.records
  pub hand : AllWrite n.hand

node_writes : (old : NodeState) (e : NodeEvent) (a : NodeAnswer) (new : NodeState)
    → ShardTakes old e a new → (old.core.stopped ≡ None → old.core.coord ≡ [])
    → EventAlone e.what → NodeWrites old → NodeWrites new
node_writes old e a new t none alone h =
    let o = core_step t.0 old.core e in
    let all = appends_write o (step_writes t.0 old.core e none alone) in
    elim (t.1) [
      | inl d ↦ record {
        records = subst AllWrite (sym d.records)
            (All-append HasWrite old.records (joined (appends_of o)) h.records
            (joined_write (appends_of o) all));
        hand = subst AllWrite (sym d.hand) h.hand;
      }
      | inr d ↦
          let parted = subst (All AllWrite) d.parted all in
          record {
            records = subst AllWrite (sym d.records)
                (All-append HasWrite old.records (joined d.kept) h.records
                (joined_write d.kept
                (contained AllWrite d.kept (λ l c.
                All-contains AllWrite (d.kept ++ d.lost ∷ d.rest) l parted
                (Contains-append_left d.kept (d.lost ∷ d.rest) l c)))));
            hand = subst AllWrite (sym d.hand)
                (All-contains AllWrite (d.kept ++ d.lost ∷ d.rest) d.lost parted
                (Contains-append_right d.kept (d.lost ∷ d.rest) d.lost (has_first d.lost d.rest)));
          }
    ]

node_starts : (shard : ℕ) (recs : List Rec) (faults : ℕ) (n : NodeState)
    → started shard recs faults ≡ Some n → AllWrite recs → NodeWrites n
node_starts shard recs faults n go h =
    let is = started_is shard recs faults n go in
    record {
      records = subst (λ (x : NodeState). AllWrite x.records) (sym is)
          (All-append HasWrite recs (boot_behind (image_of recs) ∷ []) h
          (one HasWrite (boot_behind (image_of recs)) tt));
      hand = subst (λ (x : NodeState). AllWrite x.hand) (sym is) (All-nil HasWrite);
    }

abbrev NodesWrite : Nodes → Type 0
NodesWrite nodes = (n : ℕ) (s : NodeState) → slice_get nodes.shards n ≡ Some s → NodeWrites s

-- A run.

none_of : (nodes : Nodes) (one_shard : OneShard nodes) (n : ℕ) (s : NodeState)
    → slice_get nodes.shards n ≡ Some s → s.core.stopped ≡ None → s.core.coord ≡ []
none_of nodes o n s at running =
    let same : s ≡ o.node =
    only o.node s n (subst (λ (l : List NodeState). slice_get l n ≡ Some s) o.shards at) in
    ap (λ (x : NodeState). x.core.coord) same
    ∙ (o.right.runs (ap (λ (x : NodeState). x.core.stopped) (sym same) ∙ running)).2.coord
  where
    some_is : (a b : NodeState) → Some a ≡ Some b → b ≡ a
    some_is a b e = cc

    only : (x y : NodeState) (i : ℕ) → slice_get (x ∷ []) i ≡ Some y → y ≡ x
    only x y zero e = some_is x y e
    only x y (suc i) e = let no : None ≡ Some y = e in cc

set_write : (old : Nodes) (n : ℕ) (s : NodeState) → NodesWrite old → NodeWrites s → (j : ℕ)
    (x : NodeState) → slice_get (slice_set old.shards n s) j ≡ Some x → NodeWrites x
set_write old n s h k j x at = by old.shards n j at (λ i y e. h i y e)
  where
    some_is : (a b : NodeState) → Some a ≡ Some b → a ≡ b
    some_is a b e = cc

    by : (xs : List NodeState) (i m : ℕ) → slice_get (slice_set xs i s) m ≡ Some x
        → ((l : ℕ) (y : NodeState) → slice_get xs l ≡ Some y → NodeWrites y) → NodeWrites x
    by [] i m e f = f m x e
    by (y ∷ xs) zero zero e f = subst NodeWrites (some_is s x e) k
    by (y ∷ xs) zero (suc m) e f = f (suc m) x e
    by (y ∷ xs) (suc i) zero e f = f zero x e
    by (y ∷ xs) (suc i) (suc m) e f = by xs i m e (λ l z g. f (suc l) z g)

step_nodes : (old : Nodes) (ran : Ran) (new : Nodes) → OneShard old → Happens old ran new
    → NodesWrite old → NodesWrite new
step_nodes old (Step (Shard n) e a faults) new o g h =
    subst NodesWrite (sym g.nodes)
    (set_write old n g.after h
    (node_writes g.before e a g.after g.takes (none_of old o n g.before g.there)
    (comes_alone old.sent (Shard n) e.what o.alone g.comes) (h n g.before g.there)))
step_nodes old (Step (Router n) e a faults) new o g h = subst NodesWrite (sym g.nodes) h
step_nodes old (Swapped (Router n)) new o g h = subst NodesWrite (sym g.nodes) h
step_nodes old (Swapped (Shard n)) new o g h =
    let k = h n g.before g.there in
    subst NodesWrite (sym g.nodes)
    (set_write old n g.after h
    (node_starts n g.recs g.faults g.after g.starts (elim g.remain [
      | inl same ↦ subst AllWrite (sym same) k.records
      | inr same ↦ subst AllWrite (sym same)
          (All-append HasWrite g.before.records g.before.hand k.records k.hand)
    ])))

run_nodes : (chunks : Map) (start : Nodes) → StartsAlone chunks start → (before : List Ran)
    (behind : List Nodes) (old : Nodes) (run : List Ran) (trace : List Nodes) (now : Nodes)
    → IsTrace start before behind old → IsTrace old run trace now → NodesWrite old → NodesWrite now
run_nodes chunks start h before behind old [] [] now k more w = subst NodesWrite (sym more) w
run_nodes chunks start h before behind old [] (y ∷ trace) now k more w = absurd more
run_nodes chunks start h before behind old (ran ∷ run) [] now k more w = absurd more
run_nodes chunks start h before behind old (ran ∷ run) (y ∷ trace) now k more w =
    run_nodes chunks start h (before ++ ran ∷ []) (behind ++ old ∷ []) more.1.0 run trace now
    (trace_on start before behind old ran more.1.0 k more.1.1) more.1.2
    (step_nodes old ran more.1.0 (runs_alone chunks start before behind old h k) more.1.1 w)

first_nodes : (chunks : Map) (start : Nodes) → StartsAlone chunks start → NodesWrite start
first_nodes chunks start h n s at =
    let b = h.fresh.shards n s at in
    let one_node : h.node ≡ s =
    only_node h.node n s (subst (λ (l : List NodeState). slice_get l n ≡ Some s) h.shards at) in
    subst NodeWrites one_node (node_starts 0 [] h.faults h.node h.starts (All-nil HasWrite))
  where
    some_is : (a b : NodeState) → Some a ≡ Some b → a ≡ b
    some_is a b e = cc

    only_node : (x : NodeState) (i : ℕ) (y : NodeState) → slice_get (x ∷ []) i ≡ Some y → x ≡ y
    only_node x zero y e = some_is x y e
    only_node x (suc i) y e = let no : None ≡ Some y = e in cc

-- The list of commits.

abbrev HasSome : Entry → Type 0
HasSome e = e.writes ≡ [] → ⊥

put_some : (e : Entry) (es : List Entry) → HasSome e → All HasSome es → All HasSome (put_entry e es)
put_some e [] h k = one HasSome e h
put_some e (f ∷ es) h k =
    either (is_lt (entry_cmp e f)) (All HasSome) (e ∷ f ∷ es) (f ∷ put_entry e es)
    (All-cons HasSome e (f ∷ es) h k)
    (All-cons HasSome f (put_entry e es) (All-head HasSome f es k)
    (put_some e es h (All-tail HasSome f es k)))

order_some : (sorted es : List Entry) → All HasSome sorted → All HasSome es
    → All HasSome (in_order sorted es)
order_some sorted [] h k = h
order_some sorted (e ∷ es) h k =
    order_some (put_entry e sorted) es (put_some e sorted (All-head HasSome e es k) h)
    (All-tail HasSome e es k)

entry_some : (P : Named → Type 0) (journals : Journals) (before : List Rec) (r : Rec)
    → RecAlone P r → HasWrite r → All HasSome (entry_of journals before r)
entry_some P journals before (rec.Commit tag lsid number read_at at writes) alone h =
    one HasSome (record { tag = tag; read_at = read_at; at = at; writes = writes }) h
entry_some P journals before (rec.CoordDecision tag d) alone h = absurd alone
entry_some P journals before (rec.Boot boot) alone h = All-nil HasSome
entry_some P journals before (rec.Ceiling bound) alone h = All-nil HasSome
entry_some P journals before (rec.Floor bound) alone h = absurd alone
entry_some P journals before (rec.Prepared tag lsid number boot read_at at coordinator writes) alone
    h = absurd alone
entry_some P journals before (rec.Decided d) alone h = absurd alone
entry_some P journals before (rec.CoordStart tag lsid number parts) alone h = absurd alone
entry_some P journals before (rec.CoordEnd tag) alone h = absurd alone

entries_some : (P : Named → Type 0) (journals : Journals) (before recs : List Rec)
    → All (RecAlone P) recs → AllWrite recs → All HasSome (entries_behind journals before recs)
entries_some P journals before [] alone h = All-nil HasSome
entries_some P journals before (r ∷ recs) alone h =
    All-append HasSome (entry_of journals before r)
    (entries_behind journals (before ++ r ∷ []) recs)
    (entry_some P journals before r (All-head (RecAlone P) r recs alone)
    (All-head HasWrite r recs h))
    (entries_some P journals (before ++ r ∷ []) recs (All-tail (RecAlone P) r recs alone)
    (All-tail HasWrite r recs h))

list_some : (P : Named → Type 0) (recs : List Rec) → All (RecAlone P) recs → AllWrite recs
    → All HasSome (commits (recs ∷ []))
unfolding commits
list_some P recs alone h =
    order_some [] (flat_map (λ recs. entries_behind (recs ∷ []) [] recs) (recs ∷ []))
    (All-nil HasSome)
    (All-append HasSome (entries_behind (recs ∷ []) [] recs) []
    (entries_some P (recs ∷ []) [] recs alone h) (All-nil HasSome))

commits_some : (chunks : Map) (start : Nodes) (run : List Ran) (trace : List Nodes) (now : Nodes)
    → StartsAlone chunks start → IsTrace start run trace now → All HasSome (commits_of now)
commits_some chunks start run trace now h k =
    let o = runs_alone chunks start run trace now h k in
    let nodes = run_nodes chunks start h [] [] start run trace now refl k
    (first_nodes chunks start h) in
    let there : slice_get now.shards 0 ≡ Some o.node =
    ap (λ (l : List NodeState). slice_get l 0) o.shards in
    let journals : journals_of now ≡ o.node.records ∷ [] =
    ap (λ (shards : List NodeState). map (λ (n : NodeState). n.records) shards) o.shards in
    subst (λ (j : Journals). All HasSome (commits j)) (sym journals)
    (list_some (WasNamed now.sent) o.node.records o.right.kept.2.alone.records
    (nodes 0 o.node there).records)

any_has : (p : Entry → Bool) (es : List Entry) → list_any p es ≡ true
    → (e : Entry) × Contains es e × (p e ≡ true)
any_has p [] h = let no : false ≡ true = h in absurd (grind (arith, no))
any_has p (e ∷ es) h = by (p e) refl h (λ g. any_has p es g)
  where
    by : (test : Bool) → p e ≡ test → (test || list_any p es) ≡ true
        → (list_any p es ≡ true → (x : Entry) × Contains es x × (p x ≡ true))
        → (x : Entry) × Contains (e ∷ es) x × (p x ≡ true)
    by true is g more = (e, has_first e es, is)
    by false is g more = let k = more g in (k.0, has_more e es k.0 k.1, k.2)

suc_zero : (n : ℕ) → suc n ≡ 0 → ⊥
suc_zero n e = absurd (omega (arith, e))

-- A transaction that is committed wrote something.
pub committed_wrote : (chunks : Map) (start : Nodes) (run : List Ran) (trace : List Nodes)
    (now : Nodes) → IsMap chunks → StartsAlone chunks start → IsTrace start run trace now
    → (tag : Tag) → IsTrue (began (boots_of start.routers) tag)
    → has_entry (commits_of now) tag ≡ true
    → has_written (commits_of now) (answered_in start.routers run) tag ≡ true
committed_wrote chunks start run trace now is h k tag began_so there =
    let told = answered_in start.routers run in
    let entries = commits_of now in
    let found = any_has (λ (e : Entry). same_tag e.tag tag) entries there in
    let same : found.0.tag ≡ tag = tag_same found.0.tag tag found.2 in
    let whole = all_whole chunks start run trace now is h k in
    let writes = All-contains (λ (e : Entry). IsTrue (began (boots_of start.routers) e.tag)
    → e.writes ≡ write_set (own_writes entries [] (of_tag e.tag told))) entries found.0 whole.writes
    found.1 (subst (λ (t : Tag). IsTrue (began (boots_of start.routers) t)) (sym same) began_so) in
    let some = All-contains HasSome entries found.0
    (commits_some chunks start run trace now h k) found.1 in
    by (own_writes entries [] (of_tag tag told)) refl found.0
    (writes ∙ ap (λ (t : Tag). write_set (own_writes entries [] (of_tag t told))) same) some
  where
    by : (ws : List Write) → own_writes (commits_of now) [] (of_tag tag (answered_in start.routers
        run)) ≡ ws
        → (e : Entry) → e.writes
        ≡ write_set (own_writes (commits_of now) [] (of_tag tag (answered_in start.routers run)))
        → HasSome e
        → not (length (own_writes (commits_of now) [] (of_tag tag (answered_in start.routers run)))
        == 0) ≡ true
    by [] is e w some = absurd (some (w ∙ ap write_set is))
    by (x ∷ ws) is e w some =
        ap (λ (l : List Write). not (length l == 0)) is
        ∙ ap not (ne_eqb (suc (length ws)) 0 (λ same. suc_zero (length ws) same))
