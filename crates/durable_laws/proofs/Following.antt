-- The records of a step can follow those of the shard's state.
use Rattle.std.proofs.Common.{◌≡◌, ◌<◌, ◌+◌, ◌++◌, ◌^◌, ◌-◌, ℕ, Bool, true, false, List, [], ◌∷◌}
use Rattle.std.proofs.Common.{Option, Some, None, refl, ap, ◌∙◌, sym, nat_lt, if◌then◌else◌}
use Rattle.txn_types.specs.Order.{same_lsid}
use Rattle.txn_types.specs.declared.cause.Cause.{Cause}
use Rattle.txn_types.specs.declared.cause.Cause.TheVariants as cause
use Rattle.txn_types.specs.declared.event.NodeEvent.{NodeEvent}
use Rattle.txn_types.specs.declared.node.Lsid.{Lsid}
use Rattle.session_table.specs.declared.session.Session.{Session}
use Rattle.session_table.specs.declared.session.SessionState.TheVariants as state
use Rattle.journal_rec.specs.Follows.{Ledger, can_follow, with_record, with_records, ledger_of}
use Rattle.journal_rec.specs.Follows.{no_records, first_refused, first_refused_from}
use Rattle.journal_rec.specs.declared.record.Rec.{Rec}
use Rattle.participant.specs.declared.said.Open.{Open}
use Rattle.participant.specs.Part.{Part, session, ends_live, end_live}
use Rattle.participant.specs.Expiry.{lifetime, expire_all, expire}
use Rattle.participant.proofs.Ends.{entry_elsewhere}
use Rattle.participant.proofs.Tags.{lsid_same}
use Rattle.part_laws.proofs.Ended.{in_state}
use Rattle.shard_image.specs.Image.{image_of}
use Rattle.shard_core.specs.State.{ShardState}
use Rattle.shard_core.specs.Core.{Room, core_step, entered}
use Rattle.shard_core.specs.NodeStep.{joined, appends_of}
use Rattle.shard_core.specs.Laws.{IsClock, HasTimes, NamesTimes, Fits, AllFollow}
use Rattle.durable_laws.specs.Backed.{IsBacked}
use Rattle.durable_laws.specs.Fitting.{AreOrdered}
use Rattle.durable_laws.proofs.Backing.{to_backs, from_backs}
use Rattle.durable_laws.proofs.Fitting.{records_fit}
use Rattle.durable_laws.proofs.Stepping.{entered_backed}

-- A session that isn't there doesn't come by what expires.

none_case : (p : Part) (x lsid : Lsid) (why : Cause) (s : Option Session) (b : Bool)
    → same_lsid x lsid ≡ b → session p lsid ≡ s → session p x ≡ None
    → session (ends_live p lsid why s) x ≡ None
none_case p x lsid why None b is there none = none
none_case p x lsid why (Some s) true is there none =
    let wrong : Some s ≡ None = sym there ∙ ap (session p) (sym (lsid_same x lsid is)) ∙ none in cc
none_case p x lsid why (Some s) false is there none =
    entry_elsewhere x lsid is (in_state s (state.Aborted why 0)) p.sessions.entries ∙ none

none_either : (p : Part) (x : Lsid) (entry : Lsid × Open) (wall : ℕ) (b : Bool) → session p x ≡ None
    → session (if b then end_live p entry.0 (cause.Expired entry.1.begun wall) else p) x ≡ None
none_either p x entry wall true none = none_case p x entry.0 (cause.Expired entry.1.begun wall)
    (session p entry.0) (same_lsid x entry.0) refl refl none
none_either p x entry wall false none = none

none_all : (x : Lsid) (wall : ℕ) (rows : List (Lsid × Open)) (p : Part) → session p x ≡ None
    → session (expire_all wall rows p) x ≡ None
none_all x wall [] p none = none
none_all x wall (entry ∷ rows) p none = none_all x wall rows _ (none_either p x entry wall
    (nat_lt lifetime (wall - entry.1.begun)) none)

none_expired : (p : Part) (x : Lsid) (wall : ℕ) → session p x ≡ None
    → session (expire p wall) x ≡ None
unfolding expire
none_expired p x wall none = none_all x wall p.live p none

was_there : (p : Part) (x : Lsid) (wall : ℕ) (t : Session) (o : Option Session) → session p x ≡ o
    → session (expire p wall) x ≡ Some t → (u : Session) × (session p x ≡ Some u)
was_there p x wall t None is there = let wrong : None ≡ Some t = sym (none_expired p x wall is)
    ∙ there in cc
was_there p x wall t (Some u) is there = (u, is)

entered_is_backed : (recs : List Rec) (s : ShardState) (e : NodeEvent) → IsBacked recs s
    → IsBacked recs (entered s e)
entered_is_backed recs s e b =
    from_backs recs (entered s e) (entered_backed (image_of recs) s e (to_backs recs s b))

entered_is_ordered : (recs : List Rec) (s : ShardState) (e : NodeEvent) → AreOrdered recs s
    → AreOrdered recs (entered s e)
entered_is_ordered recs s e o =
    record {
      some = o.some;
      follow = o.follow;
      written = o.written;
      times = o.times;
      votes = o.votes;
      room = λ lsid t there none. let was = was_there s.part lsid _ t (session s.part lsid) refl
          there in o.room lsid was.0 was.1 none;
    }

-- None is refused where each follows.

step_case : (index : ℕ) (l : Ledger) (r : Rec) (rest : Option ℕ) → can_follow l r ≡ true
    → rest ≡ None → (if can_follow l r then rest else Some index) ≡ None
step_case index l r rest can none = ap (λ b. if b then rest else Some index) can ∙ none

none_refused : (index : ℕ) (l : Ledger) (new : List Rec) → AllFollow l new
    → first_refused_from index l new ≡ None
none_refused index l [] all = refl
none_refused index l (r ∷ new) all =
    step_case index l r _ all.0 (none_refused (index + 1) (with_record l r) new all.1)

more_case : (index : ℕ) (l : Ledger) (r : Rec) (before after : Option ℕ) (b : Bool)
    → can_follow l r ≡ b → (if b then before else Some index) ≡ None
    → (before ≡ None → after ≡ None) → (if b then after else Some index) ≡ None
more_case index l r before after true is h more = more h
more_case index l r before after false is h more = cc

more_follow : (index : ℕ) (l : Ledger) (recs new : List Rec)
    → first_refused_from index l recs ≡ None → AllFollow (with_records l recs) new
    → first_refused_from index l (recs ++ new) ≡ None
more_follow index l [] new none all = none_refused index l new all
more_follow index l (r ∷ recs) new none all =
    more_case index l r (first_refused_from (index + 1) (with_record l r) recs)
    (first_refused_from (index + 1) (with_record l r) (recs ++ new)) (can_follow l r) refl none
    (λ before. more_follow (index + 1) (with_record l r) recs new before all)

-- what a step's records are known to do where those before them fit
abbrev pub CanFollow : Type 0
CanFollow = (room : Room) (l : Ledger) (s : ShardState) (e : NodeEvent) → Fits l (entered s e)
    → IsClock s.clock → s.wall < 2 ^ 32 → e.wall < 2 ^ 32 → HasTimes e.what → NamesTimes e.what
    → AllFollow l (joined (appends_of (core_step room s e)))

pub step_follows : CanFollow → (room : Room) (s : ShardState) (e : NodeEvent) (recs : List Rec)
    → IsBacked recs s → AreOrdered recs s → IsClock s.clock → s.wall < 2 ^ 32 → e.wall < 2 ^ 32
    → HasTimes e.what → NamesTimes e.what
    → first_refused (recs ++ joined (appends_of (core_step room s e))) ≡ None
step_follows law room s e recs b o c w v t n =
    let fits = records_fit recs (entered s e) (entered_is_backed recs s e b)
    (entered_is_ordered recs s e o) in
    more_follow 0 no_records recs (joined (appends_of (core_step room s e))) o.follow
    (law room (ledger_of recs) s e fits c w v t n)
