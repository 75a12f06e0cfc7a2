-- On one shard a statement's own meaning, and the bytes that it writes, stand over the list of
-- commits where they make a cause.
use Rattle.std.proofs.Common.{◌≡◌, ◌⊎◌, inl, inr, ◌<◌, ◌≤◌, ◌++◌, ℕ, Bool, true, false, List, [], ◌∷◌}
use Rattle.std.proofs.Common.{All, Contains, Option, Some, None, IfSome, Ok, option_map}
use Rattle.std.proofs.Common.{unwrap_or, length, nat_eq, refl, ap, ap₂, subst, ◌∙◌}
use Rattle.std.proofs.Common.{sym, arith, slice_get, if◌then◌else◌}
use Rattle.std.proofs.lemmas.List.{append-nil}
use Rattle.std.proofs.lemmas.List.Elements.{All-nil, All-contains}
use Rattle.txn_types.specs.Letters.{named_in, given_out}
use Rattle.txn_types.specs.Order.{same_tag}
use Rattle.txn_types.specs.declared.cause.Cause.{Cause}
use Rattle.txn_types.specs.declared.cause.Cause.TheVariants as cause
use Rattle.txn_types.specs.declared.event.Happening.TheVariants as what
use Rattle.txn_types.specs.declared.id.Id.{Id}
use Rattle.txn_types.specs.declared.message.Envelope.{Envelope}
use Rattle.txn_types.specs.declared.message.Msg.{Msg}
use Rattle.txn_types.specs.declared.message.Msg.TheVariants as msg
use Rattle.txn_types.specs.declared.message.Statement.{Statement}
use Rattle.txn_types.specs.declared.names.Tag.{Tag}
use Rattle.txn_types.specs.declared.node.NodeId.TheVariants.{Shard}
use Rattle.txn_types.specs.declared.operation.OpErr.{OpErr}
use Rattle.txn_types.specs.declared.write.Write.{Write}
use Rattle.txn_semantics.specs.declared.commits.Answered.{Answered}
use Rattle.txn_semantics.specs.declared.commits.Entry.{Entry}
use Rattle.txn_semantics.specs.Answers.{own_writes}
use Rattle.txn_semantics.specs.Meaning.{eval, writes_of, ns_of}
use Rattle.txn_semantics.specs.Rows.{Row, under, at as rows_at}
use Rattle.txn_semantics.specs.Splits.{here}
use Rattle.txn_semantics.specs.View.{view}
use Rattle.txn_semantics.specs.Writes.{write_set}
use Rattle.txn_semantics.proofs.Viewing.{view_rises}
use Rattle.session_table.specs.declared.session.Session.{Session}
use Rattle.journal_rec.specs.Volume.{volume}
use Rattle.journal_rec.specs.declared.record.Rec.{Rec}
use Rattle.journal_rec.specs.declared.record.Rec.TheVariants as rec
use Rattle.participant.specs.declared.said.Open.{Open}
use Rattle.participant.specs.Part.{Part, session, open_of}
use Rattle.participant.specs.Stands.{mine, mine_of}
use Rattle.participant.specs.Statement.{own_of as wrote_before, read_time as time_named}
use Rattle.participant.proofs.Tags.{tag_self}
use Rattle.part_laws.specs.Each.{Each}
use Rattle.part_laws.specs.Now.{AreRight}
use Rattle.part_laws.specs.Parts.{Holds, HeldBy, LiveAt, opened_of}
use Rattle.part_laws.specs.Sound.{Opened, Opens, Served, ServedRight, own_of, written}
use Rattle.part_laws.proofs.Elapsed.{expire_holds, session_of_open}
use Rattle.part_laws.proofs.Ended.{at_live}
use Rattle.part_laws.proofs.Judged.{served_are_right, under_write_set}
use Rattle.part_laws.proofs.Serving.{told_is}
use Rattle.chunk_map.specs.Map.{Map, IsMap}
use Rattle.chunk_map.specs.Place.{shard_of}
use Rattle.shard_core.specs.Core.{CoreStep, core_step, entered}
use Rattle.shard_core.specs.NodeStep.{NodeState, Appended, Failed, joined}
use Rattle.shard_core.specs.NodeStep.{ceiling_append, record_append}
use Rattle.shard_core.specs.Laws.{KeepsTime}
use Rattle.shard_core.specs.State.{ShardState, met, read_at_of}
use Rattle.shard_core.proofs.Stepping.{step_keeps}
use Rattle.txn_model.specs.declared.ran.Ran.{Ran}
use Rattle.txn_model.specs.declared.ran.Ran.TheVariants.{Step}
use Rattle.cluster_core.specs.Answering.{Unanswered}
use Rattle.cluster_core.specs.Causes.{Past, Making, IsMade, Stood}
use Rattle.cluster_core.specs.Causes.{read_time, rows_there, answered_before}
use Rattle.cluster_core.specs.Ledger.{answered_in, fresh_ledger}
use Rattle.cluster_core.specs.Nodes.{Nodes, commits_of}
use Rattle.cluster_core.specs.Parts.{last_ceiling}
use Rattle.cluster_core.specs.Right.{past_of}
use Rattle.cluster_core.specs.Trace.{IsTrace, MayCome}
use Rattle.world_laws.specs.Above.{IsAbove}
use Rattle.world_laws.specs.Clocks.{ClockStands}
use Rattle.world_laws.specs.Joint.{Stands}
use Rattle.world_laws.proofs.Clocks.{Any}
use Rattle.world_laws.proofs.Joint.{stands_step}
use Rattle.world_laws.proofs.Steps.{step_does}
use Rattle.answer_laws.specs.Opened.{opened_in}
use Rattle.answer_laws.proofs.Running.{all_parts}
use Rattle.told_laws.specs.Places.{IsLater, IsOpened}
use Rattle.told_laws.proofs.Lists.{InOrder, none_there}
use Rattle.told_laws.proofs.OneShard.{only_shard}
use Rattle.told_laws.proofs.Placed.{all_once}
use Rattle.told_laws.proofs.Requests.{all_have_ids}
use Rattle.told_laws.proofs.Running.{all_booked}
use Rattle.serving_laws.proofs.Ending.{expire_none}
use Rattle.serving_laws.proofs.Numbers.{expire_numbers}
use Rattle.serving_laws.proofs.Stepping.{met_last}
use Rattle.one_shard_laws.specs.Alone.{AsksFor, EventAsksFor}
use Rattle.one_shard_laws.specs.Concluding.{StartsAlone}
use Rattle.one_shard_laws.specs.Lasting.{WasNamed, OneShard, HasRun, IsUpTo, commits_by}
use Rattle.one_shard_laws.specs.Sessions.{SessionsNamed, name_of}
use Rattle.one_shard_laws.proofs.Behind.{sent_named, does, quiet_records}
use Rattle.one_shard_laws.proofs.Joint.{one_shard_step}
use Rattle.one_shard_laws.proofs.Listing.{each_more}
use Rattle.one_shard_laws.proofs.Sessions.{expire_goes}
use Rattle.commit_laws.proofs.Chaining.{Speaks}
use Rattle.commit_laws.proofs.Running.{all_stand}
use Rattle.making_laws.specs.News.{IsNew}
use Rattle.stood_laws.specs.Because.{MsgBecause, Sees, moment_of, BeginsHere, GoesOnHere, IsAnewHere}
use Rattle.stood_laws.proofs.Before.{answered_on, rising_of, none_before, all_before}
use Rattle.stood_laws.proofs.Beyond.{Beyond, comes_sent, run_goes, seen_still}
use Rattle.stood_laws.proofs.Expiring.{expire_for}
use Rattle.stood_laws.proofs.Ruling.{open_tag}
use Rattle.stood_laws.proofs.Standing.{StepOf, IsOfMaking, step, one, world, at_first, taken}
use Rattle.stood_laws.proofs.Standing.{has_run, event_alone, only, no_letters}
use Rattle.stood_laws.proofs.Stepping.{step_for}
use Rattle.stood_laws.proofs.Times.{live_is, time_is}

same_least : (n : ℕ) → n ≤ n
same_least n = omega arith

at_most : (a b c : ℕ) → a ≤ b → b ≤ c → a ≤ c
at_most a b c h k = omega (arith, h, k)

below_next : (a b c : ℕ) → a ≤ b → b < c → a < c
below_next a b c h k = omega (arith, h, k)

same_is : (a b c : ℕ) → a ≤ b → b ≡ c → a ≤ c
same_is a b c h is = omega (arith, h, is)

one_some : {A : Type 0} (x y : A) → Some x ≡ Some y → x ≡ y
one_some x y h = cc

-- what was served is right over commits that are seen the same
right_still : (old new : List Entry) (last : ℕ) (served : List Served)
    → ((t : ℕ) → t ≤ last → (ns : List ℕ) → view new t ns ≡ view old t ns)
    → Each (ServedRight old last) served → AreRight old served → AreRight new served
right_still old new last [] same right h = tt
right_still old new last (y ∷ served) same right h = (
  h.0
      ∙ ap (λ (rows : List Row). eval y.op (under (ns_of y.op) rows
      (written y.tag y.life served))) (sym (same y.read_at right.0.reads (ns_of y.op))),
  right_still old new last served same right.1 h.1,
)

-- all rows are here, where all stand on this shard
all_here : (place : Id → ℕ) (n : ℕ) → ((id : Id) → place id ≡ n) → (rows : List Row)
    → rows_at (here place n) rows ≡ rows
all_here place n h [] = refl
all_here place n h (row ∷ rows) =
    let yes : nat_eq (place row.0) n ≡ true =
    ap (λ (k : ℕ). nat_eq k n) (h row.0) ∙ same_nat n in
    rw yes (ap (λ (more : List Row). row ∷ more) (all_here place n h rows))
  where
    same_nat : (k : ℕ) → nat_eq k k ≡ true
    same_nat k = grind arith

-- a statement's step records nothing
no_rec : (x : Statement) (boot : ℕ) (r : Rec) → AsksFor (msg.Statement x) boot r → ⊥
no_rec x boot (rec.Commit tag lsid number read_at at writes) h = not_commit h.0 h.1
  where
    not_commit : (c : _) → msg.Statement x ≡ msg.Commit c → ⊥
    not_commit c h = cc
no_rec x boot other h = h

none_recorded : (d : Envelope) (x : Statement) → d.msg ≡ msg.Statement x → (boot : ℕ)
    (r : Option Rec) → IfSome r (EventAsksFor (what.Deliver d) boot) → r ≡ None
none_recorded d x at boot None h = refl
none_recorded d x at boot (Some r) h =
    absurd (no_rec x boot r (subst (λ (y : Msg). AsksFor y boot r) at h))

module _ (chunks : Map) (start : Nodes) (run : List Ran) (trace : List Nodes) (now : Nodes)
    (map : IsMap chunks) (alone : StartsAlone chunks start) (is : IsTrace start run trace now)
    (within shard : ℕ) (tag : Tag) (why : Cause) (m : Making)
    (made : IsMade (past_of chunks start run trace now) within shard tag why m)
    (runs : m.before.core.stopped ≡ None) (d : Envelope) (delivered : m.event.what ≡ what.Deliver d)
    (x : Statement) (at : d.msg ≡ msg.Statement x) (of : IsOfMaking m (msg.Statement x)) where
  abbrev past : Past
  past = past_of chunks start run trace now

  abbrev st : StepOf past start shard m made.nodes made.next
  st = step chunks start run trace now alone is within shard tag why m made

  abbrev o : OneShard made.nodes
  o = one chunks start run trace now alone is within shard tag why m made

  abbrev stands : Stands made.nodes
  stands = world chunks start run trace now alone is within shard tag why m made

  abbrev ran : HasRun made.nodes.sent m.before.core m.before.records m.before.hand
  ran = has_run chunks start run trace now alone is within shard tag why m made runs

  abbrev sent : List Envelope
  sent = made.nodes.sent

  abbrev served : List Served
  served = ran.0

  abbrev s : ShardState
  s = met (entered m.before.core m.event) d

  abbrev before : Part
  before = m.before.core.part

  abbrev last : ℕ
  last = m.before.core.clock.last

  abbrev entries : List Entry
  entries = commits_by m.before.records

  abbrev ns : List ℕ
  ns = ns_of x.op

  holds : Holds ran.1.opens s.part last entries served
  holds = expire_holds before ran.1.opens last entries served ran.1.holds
      (entered m.before.core m.event).wall

  abbrev opens : Opens
  opens = holds.0

  meant : (moment : ℕ) (rows : List Row) → Sees s.part moment x rows
      → eval x.op rows
      ≡ eval x.op (under ns (view entries moment ns) (own_of (opens x.tag)))
  meant moment rows sees =
      told_is s.part.store opens last entries served holds.1.sound x.tag moment x.op rows sees

  sent_it : Contains sent d
  sent_it = (subst (MayCome sent (Shard shard)) delivered st.steps.comes).0

  -- What was answered.

  abbrev all : List Answered
  all = answered_in start.routers run

  abbrev told : List Answered
  told = answered_in start.routers st.before_run

  abbrev begun : List Unanswered
  begun = opened_in start.routers st.before_run

  one_map : chunks.shards ≡ 1
  one_map = alone.fresh.count ∙ ap (λ (shards : List NodeState). length shards) alone.shards

  speaks : Speaks chunks sent begun told
  speaks =
      let stand = all_stand chunks map one_map start alone.fresh st.before_run st.before_trace
      made.nodes st.comes in
      let lists = (all_booked chunks start st.before_run st.before_trace made.nodes alone.fresh
      st.comes).book.lists in
      record {
        map = map;
        one = one_map;
        follow = stand.sent;
        places = stand.places;
        parts = all_parts chunks start st.before_run st.before_trace made.nodes alone.fresh
            st.comes;
        ids = all_have_ids (fresh_ledger start.routers) st.before_run;
        once = all_once chunks start st.before_run st.before_trace made.nodes alone.fresh st.comes;
        later = lists.later;
        opened = lists.of;
      }

  later : InOrder IsLater all
  later = (all_booked chunks start run trace now alone.fresh is).book.lists.later

  front : (a : Answered) → Contains told a → Contains all a
  front a c = subst (λ (rs : List Ran). Contains (answered_in start.routers rs) a) (sym st.whole)
      (answered_on (fresh_ledger start.routers) st.before_run
      (Step (Shard shard) m.event m.answer st.faults ∷ st.after_run) a c)

  places : (a : Answered) → Contains all a → 0 < a.k
  places a c =
      let lists = (all_booked chunks start run trace now alone.fresh is).book.lists in
      let w = All-contains (IsOpened (opened_in start.routers run)) all a lists.of c in
      subst (λ (k : ℕ). 0 < k) (sym w.k)
      ((all_stand chunks map one_map start alone.fresh run trace now is).places w.statement
      w.opened)

  lives : Each (λ (y : Served). 0 < y.life) served
  lives = each_more (λ (y : Served). (0 < y.life) × (y.life ≤ before.boot))
      (λ (y : Served). 0 < y.life) (λ y h. h.0) served ran.1.lives

  -- The rows that stood there, by what is seen of the commits, and the transaction's own writes.
  rows_are : (moment : ℕ) (own : List Write) → read_time m x ≡ moment
      → view (commits_of now) moment ns ≡ view entries moment ns
      → own_writes (commits_of now) [] (answered_before past m.tag x.k) ≡ own
      → rows_there past m x ≡ under ns (view entries moment ns) own
  rows_are moment own time same wrote =
      let first = at_first chunks start run trace now alone is within shard tag why m made in
      all_here (shard_of chunks ns) m.shard (λ id. only_shard chunks ns id map one_map
      ∙ sym (made.there ∙ first.0)) (under ns (view (commits_of now) (read_time m x) ns)
      (own_writes (commits_of now) [] (answered_before past m.tag x.k)))
      ∙ ap₂ (λ (t : ℕ) (w : List Write). under ns (view (commits_of now) t ns) w) time wrote
      ∙ ap (λ (rows : List Row). under ns rows own) same

  -- A statement that comes after the newest of its live transaction.
  module _ (g : GoesOnHere s.part x) where
    abbrev p : Open
    p = g.0

    was_open : open_of before x.lsid ≡ Some p
    was_open = expire_none before (entered m.before.core m.event).wall ran.1.holds.rises x.lsid p g.1

    boot_is : x.boot ≡ before.boot
    boot_is = g.4 ∙ (expire_numbers before (entered m.before.core m.event).wall).boot

    boot_up : 0 < x.boot
    boot_up = subst (λ (n : ℕ). 0 < n) (sym boot_is) ran.2.boot

    newest : Each (λ (y : Served). y.tag ≡ x.tag → y.life ≡ x.boot
        → (y.k < x.k) × (y.read_at ≡ p.read_at)) served
    newest =
        each_more (IsUpTo before.boot p) (λ (y : Served). y.tag ≡ x.tag → y.life ≡ x.boot
        → (y.k < x.k) × (y.read_at ≡ p.read_at))
        (λ y up t life. let u = up (t ∙ sym g.2) (life ∙ boot_is) in
        (below_next y.k p.k x.k u.0 g.3, u.1)) served (ran.2.has_newest x.lsid p was_open)

    is_open : opens x.tag ≡ Some (opened_of s.part.boot p)
    is_open =
        let t = session_of_open s.part opens last entries served holds.1 x.lsid p g.1 in
        let live : LiveAt s.part.boot opens t.0.tag (Some p) =
        subst (LiveAt s.part.boot opens t.0.tag) g.1
        (at_live s.part opens last entries served holds.1 x.lsid t.0 t.1 t.2) in
        ap opens (sym g.2 ∙ live.0) ∙ live.1

    own_set : own_of (opens x.tag) ≡ write_set (written x.tag x.boot served)
    own_set =
        ap own_of is_open
        ∙ (holds.1.sound.opened x.tag (opened_of s.part.boot p) is_open).wrote
        ∙ ap (λ (n : ℕ). write_set (written x.tag n served)) (sym g.4)

    reads : p.read_at ≤ last
    reads = (holds.1.sound.opened x.tag (opened_of s.part.boot p) is_open).reads

    mine_is : mine s.part x ≡ Some p
    mine_is =
        let yes : same_tag p.tag x.tag ≡ true =
        ap (λ (t : Tag). same_tag t x.tag) g.2 ∙ tag_self x.tag in
        ap (mine_of x.tag) g.1
        ∙ ap (λ (b : Bool). if b then Some p else None) yes

    moment_is : moment_of s.clock.last x (mine s.part x) ≡ p.read_at
    moment_is = ap (moment_of s.clock.last x) mine_is

    stands_beyond : Beyond m.before.records last m.before
    stands_beyond =
        let c : ClockStands m.before = stands.clocks shard m.before made.before in
        record {
          more = [];
          records = sym (append-nil m.before.records);
          above = All-nil (IsAbove last);
          hand = subst (All (IsAbove last)) (sym ran.3) (All-nil (IsAbove last));
          ceiling = same_is last m.before.core.clock.ceiling (last_ceiling m.before.records)
              (c.clock runs).below (c.ceiling runs);
          clock = λ r. same_least last;
        }

    seen : (t : ℕ) → t ≤ last → (space : List ℕ)
        → view (commits_of now) t space ≡ view entries t space
    seen t low space =
        let first = at_first chunks start run trace now alone is within shard tag why m made in
        let went = run_goes m.before.records last made.nodes
        (Step (Shard shard) m.event m.answer st.faults ∷ st.after_run)
        (made.nodes ∷ st.after_trace) now (refl, (made.next, st.steps, st.goes)) stands o (
          m.before,
          o.shards ∙ ap (λ (n : NodeState). n ∷ []) (sym first.1),
          stands_beyond,
        ) in
        seen_still m.before.records last now went.0 went.1 t low space

    right : AreRight (commits_of now) served
    right =
        right_still entries (commits_of now) last served seen ran.1.holds.sound.right
        (served_are_right before.store ran.1.opens last entries served ran.1.holds.sound)

    own : own_writes (commits_of now) [] (answered_before past m.tag x.k)
        ≡ written x.tag x.boot served
    own =
        subst (λ (t : Tag). own_writes (commits_of now) [] (answered_before past t x.k)
        ≡ written x.tag x.boot served) of.0
        (all_before chunks sent begun told speaks served ran.1.asked lives ran.1.told d x sent_it
        at (commits_of now) all later front places boot_up p.read_at newest right
        (rising_of served ran.1.rises))

    goes_meant : (rows : List Row)
        → Sees s.part (moment_of s.clock.last x (mine s.part x)) x rows
        → eval x.op (rows_there past m x) ≡ eval x.op rows
    goes_meant rows sees =
        let at_it : Sees s.part p.read_at x rows =
        subst (λ (t : ℕ). Sees s.part t x rows) moment_is sees in
        let time : read_time m x ≡ p.read_at =
        time_is m d delivered x at of.0 of.1 ∙ moment_is in
        ap (eval x.op) (rows_are p.read_at (written x.tag x.boot served) time
        (seen p.read_at reads ns) own
        ∙ sym (under_write_set ns (view entries p.read_at ns) (written x.tag x.boot served)
        (view_rises entries p.read_at ns))
        ∙ ap (under ns (view entries p.read_at ns)) (sym own_set))
        ∙ sym (meant p.read_at rows at_it)

  -- The first statement of a transaction.
  module _ (g : BeginsHere s.part x) where
    -- its session hasn't its transaction before, either
    not_there : (old : Session) → session before x.lsid ≡ Some old → old.tag ≡ x.tag → ⊥
    not_there old there same =
        let k = (expire_numbers before (entered m.before.core m.event).wall).numbers x.lsid old
        there in
        let e = expire_for before (entered m.before.core m.event).wall ran.1.holds.rises x.lsid
        k.0 k.1 in
        let one : e.0 ≡ old = one_some e.0 old (sym e.1.was ∙ there) in
        let yes : same_tag k.0.tag x.tag ≡ true =
        ap (λ (t : Tag). same_tag t x.tag)
        (e.1.tag ∙ ap (λ (y : Session). y.tag) one ∙ same) ∙ tag_self x.tag in
        let wrong : true ≡ false = sym yes ∙ g.1 k.0 k.1 in cc

    named_it : WasNamed sent (record { tag = x.tag; lsid = x.lsid; number = x.number })
    named_it = subst (λ (y : Msg). IfSome (named_in y) (WasNamed sent)) at
        (sent_named sent d sent_it)

    none_held : HeldBy s.part x.tag → ⊥
    none_held h =
        let names : SessionsNamed (WasNamed sent) s.part.sessions =
        (expire_goes (WasNamed sent) before (entered m.before.core m.event).wall).sessions.named
        ran.2.named in
        let once = stands.tags.one_begin (name_of h.0 h.1)
        (record { tag = x.tag; lsid = x.lsid; number = x.number }) (names h.0 h.1 h.2) named_it
        h.3 in
        let yes : same_tag h.1.tag x.tag ≡ true =
        ap (λ (t : Tag). same_tag t x.tag) h.3 ∙ tag_self x.tag in
        let wrong : true ≡ false =
        sym yes ∙ g.1 h.1 (ap (session s.part) (sym once.0) ∙ h.2) in cc

    none_open : own_of (opens x.tag) ≡ []
    none_open = by (opens x.tag) refl
      where
        by : (y : Option Opened) → opens x.tag ≡ y → own_of y ≡ []
        by None found = refl
        by (Some y) found = absurd (none_held (holds.1.held x.tag y found))

    none_mine : mine s.part x ≡ None
    none_mine = by (open_of s.part x.lsid) refl
      where
        by : (y : Option Open) → open_of s.part x.lsid ≡ y → mine_of x.tag y ≡ None
        by None found = refl
        by (Some y) found =
            let t = session_of_open s.part opens last entries served holds.1 x.lsid y found in
            let same : y.tag ≡ t.0.tag =
            open_tag s.part opens x.lsid (holds.1.sessions x.lsid) t.0 t.1 y found in
            let no : same_tag y.tag x.tag ≡ false =
            ap (λ (z : Tag). same_tag z x.tag) same ∙ g.1 t.0 t.1 in
            ap (λ (b : Bool). if b then Some y else None) no

    moment_named : moment_of s.clock.last x (mine s.part x) ≡ time_named s.clock.last x
    moment_named = ap (moment_of s.clock.last x) none_mine

    named_low : time_named s.clock.last x ≤ s.clock.last
    named_low = by (nat_eq x.read_at 0)
      where
        met_it : x.read_at ≤ s.clock.last
        met_it = subst (λ (y : Msg). read_at_of y ≤ s.clock.last) at
            (met_last (entered m.before.core m.event) d).1

        by : (b : Bool) → (if b then s.clock.last else x.read_at) ≤ s.clock.last
        by true = same_least s.clock.last
        by false = met_it

    -- its step was appended
    module _ (done : Appended m.before
        (core_step (taken chunks start run trace now alone is within shard tag why m made).0
        m.before.core m.event) m.answer m.after)
        (reached : s.clock.last ≤ m.after.core.clock.last) where
      abbrev c : CoreStep
      c = core_step (taken chunks start run trace now alone is within shard tag why m made).0
          m.before.core m.event

      still_runs : m.after.core.stopped ≡ None
      still_runs = ap (λ (y : ShardState). y.stopped) done.core
          ∙ (step_does Any (taken chunks start run trace now alone is within shard tag why m
          made).0 m.before.core m.event).stopped ∙ runs

      next_one : OneShard made.next
      next_one = one_shard_step made.nodes stands o
          (Step (Shard shard) m.event m.answer st.faults) made.next st.steps

      next_stands : Stands made.next
      next_stands = stands_step made.nodes
          (Step (Shard shard) m.event m.answer st.faults) made.next st.steps stands

      stands_after : Beyond m.after.records m.after.core.clock.last m.after
      stands_after =
          let k : ClockStands m.after = next_stands.clocks shard m.after made.after in
          record {
            more = [];
            records = sym (append-nil m.after.records);
            above = All-nil (IsAbove m.after.core.clock.last);
            hand = subst (All (IsAbove m.after.core.clock.last)) (sym (k.calm still_runs))
                (All-nil (IsAbove m.after.core.clock.last));
            ceiling = same_is m.after.core.clock.last m.after.core.clock.ceiling
                (last_ceiling m.after.records) (k.clock still_runs).below (k.ceiling still_runs);
            clock = λ r. same_least m.after.core.clock.last;
          }

      after_is : m.after ≡ next_one.node
      after_is = (only next_one.node m.after shard
          (subst (λ (xs : List NodeState). slice_get xs shard ≡ Some m.after) next_one.shards
          made.after)).1

      own_shard : m.before.core.part.shard ≡ 0
      own_shard =
          (stands.reads.shards shard m.before made.before).own
          ∙ (at_first chunks start run trace now alone is within shard tag why m made).0

      keeps : KeepsTime m.before.core c
      keeps =
          let k : ClockStands m.before = stands.clocks shard m.before made.before in
          step_keeps (taken chunks start run trace now alone is within shard tag why m made).0
          m.before.core m.event (k.clock runs) k.wall st.steps.wall st.steps.times

      none_rec : c.rec ≡ None
      none_rec =
          none_recorded d x at c.core.part.boot c.rec
          (subst (λ w. IfSome c.rec (EventAsksFor w c.core.part.boot)) delivered
          (does sent stands.tags.one_begin
          (taken chunks start run trace now alone is within shard tag why m made).0 m.before.core
          own_shard m.event m.before.records served ran.1 ran.2
          (event_alone chunks start run trace now alone is within shard tag why m made)
          (comes_sent made.nodes shard m.event.what st.steps.comes) keeps).asked)

      commits_same : commits_by m.after.records ≡ entries
      commits_same =
          ap commits_by done.records
          ∙ ap (λ (r : Option Rec). commits_by (m.before.records
          ++ joined (ceiling_append c.ceiling ++ record_append r))) none_rec
          ∙ (quiet_records (WasNamed sent) m.before.records ran.1.alone c.ceiling).1

      seen_after : (t : ℕ) → t ≤ m.after.core.clock.last → (space : List ℕ)
          → view (commits_of now) t space ≡ view entries t space
      seen_after t low space =
          let went = run_goes m.after.records m.after.core.clock.last made.next st.after_run
          st.after_trace now st.goes next_stands next_one (
            m.after,
            next_one.shards ∙ ap (λ (n : NodeState). n ∷ []) (sym after_is),
            stands_after,
          ) in
          seen_still m.after.records m.after.core.clock.last now went.0 went.1 t low space
          ∙ ap (λ (es : List Entry). view es t space) commits_same

      none_wrote : own_writes (commits_of now) [] (answered_before past m.tag x.k) ≡ []
      none_wrote =
          subst (λ (t : Tag). own_writes (commits_of now) [] (answered_before past t x.k) ≡ [])
          of.0 (none_before chunks sent begun told speaks served ran.1.asked lives ran.1.told d x
          sent_it at (commits_of now) all later front places g.0)

      begins_meant : (rows : List Row)
          → Sees s.part (moment_of s.clock.last x (mine s.part x)) x rows
          → eval x.op (rows_there past m x) ≡ eval x.op rows
      begins_meant rows sees =
          let moment : ℕ = time_named s.clock.last x in
          let at_it : Sees s.part moment x rows =
          subst (λ (t : ℕ). Sees s.part t x rows) moment_named sees in
          let time : read_time m x ≡ moment =
          time_is m d delivered x at of.0 of.1 ∙ moment_named in
          ap (eval x.op) (rows_are moment [] time
          (seen_after moment (at_most moment s.clock.last m.after.core.clock.last named_low reached)
          ns) none_wrote
          ∙ ap (under ns (view entries moment ns)) (sym none_open))
          ∙ sym (meant moment rows at_it)

  -- Both.

  tells_none : (es : List Envelope) → es ≡ [] → (e : Envelope) → Contains es e → ⊥
  tells_none es none e there = none_there e (subst (λ (l : List Envelope). Contains l e) none there)

  abbrev did : CoreStep
  did = core_step (taken chunks start run trace now alone is within shard tag why m made).0
      m.before.core m.event

  meant_same : IsNew m why → IsAnewHere s.part x → (rows : List Row)
      → Sees s.part (moment_of s.clock.last x (mine s.part x)) x rows
      → eval x.op (rows_there past m x) ≡ eval x.op rows
  meant_same new (inr g) rows sees = goes_meant g rows sees
  meant_same (inl ends) (inl g) rows sees =
      absurd (not_there g ends.old (ap (session before) of.1 ∙ ends.was) (ends.own ∙ sym of.0))
  meant_same (inr tells) (inl g) rows sees =
      by (taken chunks start run trace now alone is within shard tag why m made).1
      ((step_for m.before.core m.event ran.1.opens entries served ran.1.holds ran.2.coord runs
      (event_alone chunks start run trace now alone is within shard tag why m made)
      (taken chunks start run trace now alone is within shard tag why m made).0).clock d delivered)
    where
      by : Appended m.before did m.answer m.after ⊎ Failed m.before did m.answer m.after
          → (s.clock.last ≤ did.core.clock.last) ⊎ (given_out did.answer ≡ [])
          → eval x.op (rows_there past m x) ≡ eval x.op rows
      by (inl done) (inl up) =
          begins_meant g done
          (subst (λ (y : ShardState). s.clock.last ≤ y.clock.last) (sym done.core) up) rows sees
      by (inl done) (inr none) =
          absurd (tells_none (given_out m.answer) (ap given_out done.told ∙ none) tells.0.0
          tells.0.1)
      by (inr failed) h = absurd (no_letters m.answer failed.told tells.0.0 tells.0.1)

  pub statement_stood : IsNew m why → (err : OpErr)
      → MsgBecause s (msg.Statement x) (cause.Statement err) → Stood past m (cause.Statement err)
  statement_stood new err h = (x, (d, delivered, at), meant_same new h.3 h.0 h.1 ∙ h.2)

  wrote_is : (y : Option Open)
      → wrote_before y ≡ unwrap_or (option_map (λ (p : Open). p.writes) y) []
  wrote_is None = refl
  wrote_is (Some p) = refl

  pub volume_stood : IsNew m why → (bytes : ℕ)
      → MsgBecause s (msg.Statement x) (cause.Volume bytes) → Stood past m (cause.Volume bytes)
  volume_stood new bytes h =
      let same : eval x.op (rows_there past m x) ≡ Ok (h.0, h.1) =
      meant_same new h.5 h.2.0 h.2.1 ∙ h.2.2 in (
        x,
        (d, delivered, at),
        h.3
            ∙ ap₂ (λ (own more : List Write). volume (write_set (own ++ more)))
            (wrote_is (mine s.part x)
            ∙ ap (λ (y : Option Open). unwrap_or (option_map (λ (p : Open). p.writes) y) [])
            (sym (live_is m d delivered x at of.0 of.1)))
            (sym (ap writes_of same)),
        h.4,
      )
