-- A step of a shard's core, and the records of its appends.
use Rattle.std.proofs.Common.{◌≡◌, ◌≤◌, ◌<◌, ◌-◌, ◌^◌, ◌++◌, ℕ, max, Bool, true, false, List, []}
use Rattle.std.proofs.Common.{◌∷◌, Option, Some, None, IfSome, option_map, option_and_then}
use Rattle.std.proofs.Common.{unwrap_or, refl, ap, subst, ◌∙◌, sym, arith, nat_lt, if◌then◌else◌}
use Rattle.std.proofs.Common.{inl, filter}
use Rattle.txn_types.specs.Clock.{raised, advanced, reach, wanted_ceiling}
use Rattle.txn_types.specs.declared.event.Happening.{Happening}
use Rattle.txn_types.specs.declared.event.Happening.TheVariants as what
use Rattle.txn_types.specs.declared.event.NodeAnswer.{NodeAnswer}
use Rattle.txn_types.specs.declared.event.NodeAnswer.TheVariants as answer
use Rattle.txn_types.specs.declared.event.NodeEvent.{NodeEvent}
use Rattle.txn_types.specs.declared.message.Envelope.{Envelope}
use Rattle.version_store.specs.Versions.{Versions, finished}
use Rattle.journal_rec.specs.declared.record.Rec.{Rec}
use Rattle.journal_rec.specs.declared.record.Rec.TheVariants as rec
use Rattle.participant.specs.declared.said.Open.{Open}
use Rattle.participant.specs.Part.{Part, session}
use Rattle.participant.specs.Expiry.{expire}
use Rattle.participant.proofs.Cases.{either}
use Rattle.shard_image.specs.Image.{Image, with_record, with_records, image_of}
use Rattle.shard_image.specs.Sound.{IsWritten, AreWritten}
use Rattle.shard_core.specs.State.{ShardState, walled, met, reached, ceiling_of, read_at_of}
use Rattle.shard_core.specs.Ruled.{Ruled}
use Rattle.shard_core.specs.Wanting.{wanting, Wanting, told_if, told_memory, may_be_told}
use Rattle.shard_core.specs.Core.{Room, Ample, Scarce, Short, CoreStep, core_step, step_if, stepped}
use Rattle.shard_core.specs.Core.{stays, entered, happened, scarce, running_step, stopped_step}
use Rattle.shard_core.specs.NodeStep.{NodeState, ceiling_append, record_append, appends_of, joined}
use Rattle.shard_core.specs.NodeStep.{Failed}
use Rattle.durable_laws.proofs.Whole.{LiveHas, IsWhole}
use Rattle.durable_laws.specs.Backed.{AreApart, is_recorded, AreRecorded, IsShard, IsBacked}
use Rattle.durable_laws.specs.Backed.{at_ceiling, kept_state, lost_state}
use Rattle.durable_laws.proofs.Holding.{behind, Backs}
use Rattle.durable_laws.proofs.Events.{expire_kept}
use Rattle.durable_laws.proofs.Ends.{some_has}
use Rattle.durable_laws.proofs.Facts.{image_append, passed, entry_left, some_passed}
use Rattle.txn_types.specs.declared.node.Lsid.{Lsid}
use Rattle.session_table.specs.Sessions.{Table, session_of}
use Rattle.session_table.specs.declared.session.Session.{Session}
use Rattle.session_table.specs.declared.session.SessionState.{SessionState}
use Rattle.session_table.specs.declared.session.SessionState.TheVariants as state
use Rattle.durable_laws.proofs.Backing.{shard_whole, backs_shard, to_backs, from_backs}
use Rattle.durable_laws.proofs.Ruling.{with_left, ruled_backed, told_backed}

-- A clock that goes on.

live_later : (store : Versions) (last later : ℕ) (o : Open) → last ≤ later → LiveHas store last o
    → LiveHas store later o
live_later store last later o on h = let reads : o.read_at ≤ last = h.reads in
    record { reads = grind arith; rises = h.rises; own = h.own; over = h.over }

pub whole_later : (p : Part) (last later : ℕ) → last ≤ later → IsWhole p last → IsWhole p later
whole_later p last later on w =
    record {
      stands = w.stands;
      rises = w.rises;
      filled = w.filled;
      newest = w.newest;
      lives = w.lives;
      live = λ lsid o mine. live_later p.store last later o on (w.live lsid o mine);
      pending = w.pending;
      prepared = w.prepared;
      apart = w.apart;
    }

-- the record of a ceiling
abbrev pub bound_record : Option ℕ → Option Rec
bound_record None = None
bound_record (Some bound) = Some (rec.Ceiling bound)

-- the state after a ceiling
abbrev pub raised_image : Image → Option ℕ → Image
raised_image i bound = behind i (bound_record bound)

met_case : (i : Image) (s : ShardState) (far time read_at : ℕ) (test : Bool)
    → nat_lt s.clock.ceiling far ≡ test → far ≤ 2 ^ 64 - 1 → Backs i s
    → (let c : Option ℕ = if test then Some (wanted_ceiling far) else None in
    let q : ShardState = record s { clock = advanced (advanced (raised s.clock c) time) read_at } in
    Backs (raised_image i c) q)
met_case i s far time read_at true is ends b =
    let above : s.clock.ceiling < far = grind (arith, is) in
    record {
      whole = whole_later s.part s.clock.last (max (max s.clock.last time) read_at)
          (grind arith) b.whole;
      holds = record {
        boot = b.holds.boot;
        store = b.holds.store;
        pending = b.holds.pending;
        sessions = b.holds.sessions;
        recorded = b.holds.recorded;
      };
      ceiling = grind arith;
      rises = b.rises;
      plans = b.plans;
    }
met_case i s far time read_at false is ends b =
    record {
      whole = whole_later s.part s.clock.last (max (max s.clock.last time) read_at)
          (grind arith) b.whole;
      holds = b.holds;
      ceiling = b.ceiling;
      rises = b.rises;
      plans = b.plans;
    }

reach_small : (last wall time read_at : ℕ) → reach last wall time read_at ≤ 2 ^ 64 - 1
reach_small last wall time read_at = grind arith

met_backed : (i : Image) (s : ShardState) (e : Envelope) → Backs i s
    → Backs (raised_image i (ceiling_of s e)) (met s e)
met_backed i s e b = met_case i s (reached s e) e.time (read_at_of e.msg) (nat_lt s.clock.ceiling
    (reached s e)) refl (reach_small s.clock.last s.wall e.time (read_at_of e.msg)) b

-- after its ceiling and its record
abbrev pub BacksStep : Image → CoreStep → Type 0
BacksStep i o = Backs (behind (raised_image i o.ceiling) o.rec) o.core × IfSome o.rec IsWritten

pub entered_backed : (i : Image) (s : ShardState) (e : NodeEvent) → Backs i s
    → Backs i (entered s e)
entered_backed i s e b =
    let w : ShardState = walled s e.wall in
    let bw : Backs i w = record {
      whole = b.whole;
      holds = b.holds;
      ceiling = b.ceiling;
      rises = b.rises;
      plans = b.plans;
    } in
    (with_left i w (expire w.part w.wall) None bw
    (expire_kept i w.part w.clock.last w.wall b.whole b.holds)).0

delivered_reads : (s : ShardState) (e : Envelope) → read_at_of e.msg ≤ (met s e).clock.last
delivered_reads s e = grind arith

happened_backed : (i : Image) (s : ShardState) (h : Happening) → Backs i s
    → BacksStep i (happened s h)
happened_backed i s (what.Client conn frame) b = (b, tt)
happened_backed i s (what.Gone conn) b = (b, tt)
happened_backed i s (what.Deliver e) b = ruled_backed (raised_image i (ceiling_of s e)) (met s e)
    (met_backed i s e b) e.from e.msg (delivered_reads s e)
happened_backed i s what.Resend b = (b, tt)
happened_backed i s what.Moment b = (b, tt)

abbrev EachStep : Image → Option CoreStep → Type 0
EachStep i None = Unit {0}
EachStep i (Some o) = BacksStep i o

told_case : (i : Image) (s : ShardState) (e : Envelope) (w : Option Wanting) → Backs i s
    → EachStep i (option_map (stepped (ceiling_of s e)) (option_and_then (told_if (met s e)) w))
told_case i s e None b = tt
told_case i s e (Some wanting) b =
    either (may_be_told (met s e) wanting) (λ (r : Option Ruled). EachStep i
    (option_map (stepped (ceiling_of s e)) r)) (Some (told_memory (met s e) wanting)) None
    (told_backed (raised_image i (ceiling_of s e)) (met s e) (met_backed i s e b) wanting) tt

scarce_backed : (i : Image) (s : ShardState) (h : Happening) → Backs i s → EachStep i (scarce s h)
scarce_backed i s (what.Client conn frame) b = tt
scarce_backed i s (what.Gone conn) b = tt
scarce_backed i s (what.Deliver e) b = told_case i s e (wanting (met s e) e.from e.msg) b
scarce_backed i s what.Resend b = tt
scarce_backed i s what.Moment b = tt

unless_short : (i : Image) (o : Option CoreStep) (other : CoreStep) → EachStep i o
    → BacksStep i other → BacksStep i (unwrap_or o other)
unless_short i None other h k = k
unless_short i (Some o) other h k = h

runs_backed : (room : Room) (i : Image) (s : ShardState) (e : NodeEvent) → Backs i s
    → BacksStep i (running_step room s e)
runs_backed Ample i s e b = happened_backed i (entered s e) e.what (entered_backed i s e b)
runs_backed Scarce i s e b = unless_short i (scarce (entered s e) e.what) (stays s answer.Memory)
    (scarce_backed i (entered s e) e.what (entered_backed i s e b)) (b, tt)
runs_backed Short i s e b = (b, tt)

stops_backed : (room : Room) (i : Image) (s : ShardState) (faults : ℕ) (e : NodeEvent) → Backs i s
    → BacksStep i (stopped_step room s faults e)
stops_backed Ample i s faults e b = (b, tt)
stops_backed Scarce i s faults e b = (b, tt)
stops_backed Short i s faults e b = (b, tt)

step_case : (room : Room) (i : Image) (s : ShardState) (e : NodeEvent) (stopped : Option ℕ)
    → Backs i s → BacksStep i (step_if room s e stopped)
step_case room i s e None b = runs_backed room i s e b
step_case room i s e (Some faults) b = stops_backed room i s faults e b

pub step_backed : (room : Room) (i : Image) (s : ShardState) (e : NodeEvent) → Backs i s
    → BacksStep i (core_step room s e)
unfolding core_step
step_backed room i s e b = step_case room i s e s.stopped b

-- The records of its appends.

appended_is : (i : Image) (c : Option ℕ) (r : Option Rec)
    → with_records i (joined (ceiling_append c ++ record_append r)) ≡ behind (raised_image i c) r
appended_is i None None = refl
appended_is i None (Some r) = refl
appended_is i (Some bound) None = refl
appended_is i (Some bound) (Some r) = refl

written_case : (c : Option ℕ) (r : Option Rec) → IfSome r IsWritten
    → AreWritten (joined (ceiling_append c ++ record_append r))
written_case None None w = tt
written_case None (Some r) w = (w, tt)
written_case (Some bound) None w = (tt, tt)
written_case (Some bound) (Some r) w = (tt, (w, tt))

pub step_is_backed : (room : Room) (s : ShardState) (e : NodeEvent) (recs : List Rec)
    → IsBacked recs s
    → IsBacked (recs ++ joined (appends_of (core_step room s e))) (core_step room s e).core
step_is_backed room s e recs b =
    let o : CoreStep = core_step room s e in
    let all = (step_backed room (image_of recs) s e (to_backs recs s b)).0 in
    from_backs (recs ++ joined (appends_of o)) o.core
    (subst (λ (i : Image). Backs i o.core) (sym (image_append recs (joined (appends_of o))
    ∙ appended_is (image_of recs) o.ceiling o.rec)) all)

pub step_is_written : (room : Room) (s : ShardState) (e : NodeEvent) (recs : List Rec)
    → IsBacked recs s → AreWritten (joined (appends_of (core_step room s e)))
step_is_written room s e recs b = let o : CoreStep = core_step room s e in
    written_case o.ceiling o.rec (step_backed room (image_of recs) s e (to_backs recs s b)).1

-- Where an append fails.

ceiling_case : (i : Image) (s : ShardState) (c : Option ℕ) → Backs i s → (let q : ShardState =
    record s { clock = record { last = s.clock.last; ceiling = unwrap_or c s.clock.ceiling } } in
    Backs (raised_image i c) q)
ceiling_case i s None b = record {
  whole = b.whole;
  holds = b.holds;
  ceiling = b.ceiling;
  rises = b.rises;
  plans = b.plans;
}
ceiling_case i s (Some bound) b =
    record {
      whole = b.whole;
      holds = record {
        boot = b.holds.boot;
        store = b.holds.store;
        pending = b.holds.pending;
        sessions = b.holds.sessions;
        recorded = b.holds.recorded;
      };
      ceiling = refl;
      rises = b.rises;
      plans = b.plans;
    }

-- the appends before the one that failed, and that one too
abbrev pub BacksFront : Image → ShardState → CoreStep → List (List Rec) → List Rec
    → List (List Rec) → Type 0
BacksFront i s o kept lost rest = Backs (with_records i (joined kept)) (kept_state s o kept)
    × Backs (with_records i (joined kept ++ lost)) (lost_state s o rest)

front_case : (i : Image) (s : ShardState) (o : CoreStep) (c : Option ℕ) (r : Option Rec)
    (kept : List (List Rec)) (lost : List Rec) (rest : List (List Rec))
    → ceiling_append c ++ record_append r ≡ kept ++ lost ∷ rest
    → Backs i s → Backs (raised_image i c) (at_ceiling s o)
    → Backs (behind (raised_image i c) r) o.core → BacksFront i s o kept lost rest
front_case i s o None None [] lost rest is b mid all = cc
front_case i s o None None (k ∷ kept) lost rest is b mid all = cc
front_case i s o None (Some r) [] lost rest is b mid all =
    let one : (r ∷ []) ≡ lost = cc in
    let end : [] ≡ rest = cc in (
      b,
      subst (λ (x : List Rec). Backs (with_records i x) (lost_state s o rest)) one
          (subst (λ (x : List (List Rec)). Backs (with_record i r) (lost_state s o x)) end all),
    )
front_case i s o None (Some r) (k ∷ []) lost rest is b mid all = cc
front_case i s o None (Some r) (k ∷ l ∷ kept) lost rest is b mid all = cc
front_case i s o (Some bound) None [] lost rest is b mid all =
    let one : (rec.Ceiling bound ∷ []) ≡ lost = cc in
    let end : [] ≡ rest = cc in (
      b,
      subst (λ (x : List Rec). Backs (with_records i x) (lost_state s o rest)) one (subst (λ (x :
          List (List Rec)). Backs (with_record i (rec.Ceiling bound)) (lost_state s o x)) end all),
    )
front_case i s o (Some bound) None (k ∷ []) lost rest is b mid all = cc
front_case i s o (Some bound) None (k ∷ l ∷ kept) lost rest is b mid all = cc
front_case i s o (Some bound) (Some r) [] lost rest is b mid all =
    let one : (rec.Ceiling bound ∷ []) ≡ lost = cc in
    let end : (r ∷ []) ∷ [] ≡ rest = cc in (
      b,
      subst (λ (x : List Rec). Backs (with_records i x) (lost_state s o rest)) one (subst (λ (x :
          List (List Rec)). Backs (with_record i (rec.Ceiling bound)) (lost_state s o x)) end mid),
    )
front_case i s o (Some bound) (Some r) (k ∷ []) lost rest is b mid all =
    let first : (rec.Ceiling bound ∷ []) ≡ k = cc in
    let one : (r ∷ []) ≡ lost = cc in
    let end : [] ≡ rest = cc in (
      subst (λ (x : List Rec). Backs (with_records i (x ++ [])) (at_ceiling s o)) first mid,
      subst (λ (z : List Rec). Backs (with_records i ((z ++ []) ++ lost)) (lost_state s o rest))
          first
          (subst (λ (x : List Rec). Backs (with_records (with_record i (rec.Ceiling bound)) x)
          (lost_state s o rest)) one
          (subst (λ (x : List (List Rec)). Backs (with_record (with_record i (rec.Ceiling bound)) r)
          (lost_state s o x)) end all)),
    )
front_case i s o (Some bound) (Some r) (k ∷ l ∷ []) lost rest is b mid all = cc
front_case i s o (Some bound) (Some r) (k ∷ l ∷ m ∷ kept) lost rest is b mid all = cc

pub behind_both : (xs ys zs : List Rec) → (xs ++ ys) ++ zs ≡ xs ++ (ys ++ zs)
behind_both [] ys zs = refl
behind_both (x ∷ xs) ys zs = ap (λ (l : List Rec). x ∷ l) (behind_both xs ys zs)

pub with_hand : (old kept lost now hand : List Rec) → now ≡ old ++ kept → hand ≡ lost
    → now ++ hand ≡ old ++ (kept ++ lost)
with_hand old kept lost now hand a b = ap (λ (l : List Rec). l ++ hand) a
    ∙ ap (λ (l : List Rec). (old ++ kept) ++ l) b ∙ behind_both old kept lost

-- an append failed
pub fault_is_backed : (old : NodeState) (e : NodeEvent) (room : Room) (a : NodeAnswer) (new :
    NodeState) (f : Failed old (core_step room old.core e) a new) → IsBacked old.records old.core
    → IsBacked new.records (kept_state old.core (core_step room old.core e) f.kept) × IsBacked
    (new.records ++ new.hand) (lost_state old.core (core_step room old.core e) f.rest)
fault_is_backed old e room a new f b =
    let o : CoreStep = core_step room old.core e in
    let i : Image = image_of old.records in
    let start : Backs i old.core = to_backs old.records old.core b in
    let fronts : BacksFront i old.core o f.kept f.lost f.rest =
    front_case i old.core o o.ceiling o.rec f.kept f.lost f.rest f.parted start (ceiling_case i
    old.core o.ceiling start) (step_backed room i old.core e start).0 in (
      from_backs new.records (kept_state old.core o f.kept)
          (subst (λ (x : List Rec). Backs (image_of x) (kept_state old.core o f.kept))
          (sym f.records) (subst (λ (x : Image). Backs x (kept_state old.core o f.kept))
          (sym (image_append old.records (joined f.kept))) fronts.0)),
      from_backs (new.records ++ new.hand) (lost_state old.core o f.rest)
          (subst (λ (x : List Rec). Backs (image_of x) (lost_state old.core o f.rest)) (sym
          (with_hand old.records (joined f.kept) f.lost new.records new.hand f.records f.hand))
          (subst (λ (x : Image). Backs x (lost_state old.core o f.rest))
          (sym (image_append old.records (joined f.kept ++ f.lost))) fronts.1)),
    )

-- Without records: as if there had been some of just what outlives a stop.

recorded_of : Part → Table
recorded_of p = record {
  limit = 0;
  entries = filter (λ (e : Lsid × Session). is_recorded e.1.state) p.sessions.entries;
}

recorded_there : (p : Part) → AreApart p.sessions.entries
    → (lsid : Lsid) (t : Session) → session_of (recorded_of p) lsid ≡ Some t
    → (session p lsid ≡ Some t) × (is_recorded t.state ≡ true)
unfolding recorded_of
recorded_there p apart lsid t has = some_passed (λ s. is_recorded s.state) (session p lsid) t
    (sym (entry_left (λ s. is_recorded s.state) lsid p.sessions.entries apart) ∙ has)

recorded_here : (p : Part) → AreApart p.sessions.entries → AreRecorded (recorded_of p) p
unfolding recorded_of
recorded_here p apart lsid t there told =
    entry_left (λ s. is_recorded s.state) lsid p.sessions.entries apart
    ∙ ap (passed (λ s. is_recorded s.state)) there ∙ ap (λ b. if b then Some t else None) told

never_live : (st : SessionState) → is_recorded st ≡ true → st ≡ state.Live → ⊥
never_live st told live = let wrong : true ≡ false = sym told ∙ ap is_recorded live in cc

image_like : ShardState → Image
image_like s =
    record {
      boot = s.part.boot;
      ceiling = s.clock.ceiling;
      store = finished s.part.store;
      sessions = recorded_of s.part;
      pending = s.part.pending;
      coord = s.coord;
      count = 0;
      greatest = 0;
    }

like_backs : (s : ShardState) → IsShard s → Backs (image_like s) s
unfolding image_like
like_backs s h =
    record {
      whole = shard_whole s h;
      holds = record {
        boot = refl;
        store = refl;
        pending = refl;
        sessions = λ lsid recorded has.
            let there = recorded_there s.part h.apart lsid recorded has in (
              some_has s.part lsid recorded recorded there.0 (inl refl),
              never_live recorded.state there.1,
            );
        recorded = recorded_here s.part h.apart;
      };
      ceiling = refl;
      rises = h.rises;
      plans = refl;
    }

pub step_is_shard : (room : Room) (s : ShardState) (e : NodeEvent) → IsShard s
    → IsShard (core_step room s e).core
step_is_shard room s e h =
    backs_shard _ (core_step room s e).core (step_backed room (image_like s) s e (like_backs s h)).0
