-- What holds of a shard's part after a start from its records.
use Rattle.std.proofs.Common.{◌≡◌, ◌≤◌, ◌+◌, ◌++◌, ℕ, Bool, true, false, cond, List, [], ◌∷◌, find}
use Rattle.std.proofs.Common.{All, Option, Some, None, IsSomeAnd, refl, ap, subst, ◌∙◌, sym}
use Rattle.std.proofs.lemmas.List.Elements.{All-head, All-tail}
use Rattle.txn_types.specs.Order.{same_lsid, same_tag}
use Rattle.txn_types.specs.declared.cause.Cause.TheVariants as cause
use Rattle.txn_types.specs.declared.decision.Decision.{Decision}
use Rattle.txn_types.specs.declared.decision.Decision.TheVariants as decision
use Rattle.txn_types.specs.declared.names.Tag.{Tag}
use Rattle.txn_types.specs.declared.node.Lsid.{Lsid}
use Rattle.txn_types.specs.declared.operation.OpErr.{OpErr}
use Rattle.txn_semantics.specs.declared.commits.Entry.{Entry}
use Rattle.session_table.specs.Sessions.{Table, session_of, with_session, prepared_at, state_behind}
use Rattle.session_table.specs.declared.session.Session.{Session}
use Rattle.session_table.specs.declared.session.SessionState.{SessionState}
use Rattle.session_table.specs.declared.session.SessionState.TheVariants as state
use Rattle.version_store.specs.declared.version.Pending.{Pending}
use Rattle.journal_rec.specs.Follows.{first_refused, most_sessions}
use Rattle.journal_rec.specs.declared.record.Rec.{Rec}
use Rattle.journal_rec.specs.declared.record.Rec.TheVariants as rec
use Rattle.participant.specs.Part.{session}
use Rattle.participant.specs.Sound.{IsPending}
use Rattle.participant.proofs.Ends.{entry_elsewhere}
use Rattle.participant.proofs.Moving.{entry_here}
use Rattle.participant.proofs.Tags.{lsid_same}
use Rattle.part_laws.specs.Sound.{Opens, Served}
use Rattle.part_laws.specs.Parts.{IsServing}
use Rattle.part_laws.specs.Start.{none_open, prepared_ones, Survives, StandsAgain, Restarts}
use Rattle.part_laws.proofs.Starting.{first_holds, finished_survives}
use Rattle.part_laws.proofs.Restarting.{restart_holds}
use Rattle.part_laws.proofs.Elapsed.{clock_holds}
use Rattle.shard_image.specs.Image.{Image, empty_image, with_record, with_records, image_of}
use Rattle.shard_image.specs.Sound.{IsImage, HasIts, pending_of, AreWritten}
use Rattle.shard_image.proofs.Decisions.{image_counted}
use Rattle.shard_core.specs.State.{ShardState}
use Rattle.shard_core.specs.NodeStep.{NodeState, core_of, boot_behind, started}
use Rattle.durable_laws.specs.Backed.{IsBacked, is_recorded}
use Rattle.durable_laws.proofs.Beginning.{started_case, start_finds}
use Rattle.durable_laws.proofs.Facts.{image_append}

-- Records leave no refusal by a statement's meaning.

abbrev IsSaved : SessionState → Type 0
IsSaved (state.Aborted why at) = (err : OpErr) → why ≡ cause.Statement err → ⊥
IsSaved other = Unit {0}

abbrev AllSaved : Table → Type 0
AllSaved table = (lsid : Lsid) (s : Session) → session_of table lsid ≡ Some s → IsSaved s.state

saved_case : (table : Table) (lsid : Lsid) (new : Session) → AllSaved table
    → IsSaved new.state → (other : Lsid) (s : Session) (b : Bool) → same_lsid other lsid ≡ b
    → session_of (with_session table lsid new) other ≡ Some s → IsSaved s.state
saved_case table lsid new all this other s true same is =
    let at : other ≡ lsid = lsid_same other lsid same in
    let both : Some s ≡ Some new = sym is ∙ ap (session_of (with_session table lsid new)) at
    ∙ entry_here lsid new table.entries in
    let one : s ≡ new = cc in
    subst (λ (x : Session). IsSaved x.state) (sym one) this
saved_case table lsid new all this other s false apart is =
    all other s (sym (entry_elsewhere other lsid apart new table.entries) ∙ is)

with_saved : (table : Table) (lsid : Lsid) (new : Session) → AllSaved table → IsSaved new.state
    → AllSaved (with_session table lsid new)
with_saved table lsid new all this other s is =
    saved_case table lsid new all this other s (same_lsid other lsid) refl is

behind_saved : (d : Decision) → IsSaved (state_behind d)
behind_saved (decision.Commit at) = tt
behind_saved (decision.Abort shard code) = λ err h. cc

record_saved : (i : Image) (r : Rec) → AllSaved i.sessions → AllSaved (with_record i r).sessions
record_saved i (rec.Boot boot) h = h
record_saved i (rec.Ceiling bound) h = h
record_saved i (rec.Commit tag lsid number read_at at writes) h = with_saved i.sessions lsid
    (record { number = number; tag = tag; state = state.Committed at }) h tt
record_saved i (rec.Prepared tag lsid number boot read_at at coordinator writes) h =
    with_saved i.sessions lsid
    (record { number = number; tag = tag; state = state.Prepared at coordinator }) h tt
record_saved i (rec.Decided d) h = with_saved i.sessions d.lsid
    (record { number = d.number; tag = d.tag; state = state_behind d.decision }) h
    (behind_saved d.decision)
record_saved i (rec.CoordStart tag lsid number parts) h = h
record_saved i (rec.CoordDecision tag d) h = h
record_saved i (rec.CoordEnd tag) h = h
record_saved i (rec.Floor floor) h = h

records_saved : (i : Image) (recs : List Rec) → AllSaved i.sessions
    → AllSaved (with_records i recs).sessions
records_saved i [] h = h
records_saved i (r ∷ recs) h = records_saved (with_record i r) recs (record_saved i r h)

image_saved : (recs : List Rec) → AllSaved (image_of recs).sessions
unfolding image_of
image_saved recs = records_saved empty_image recs (λ lsid s is. cc)

-- Prepared transactions stand again.

found_case : {A : Type 0} (P : A → Type 0) (test : A → Bool) (x : A) (xs : List A) (b : Bool)
    (a : A) → P x → (find test xs ≡ Some a → P a) → cond b (Some x) (find test xs) ≡ Some a → P a
found_case P test x xs true a here more is = let one : x ≡ a = cc in subst P one here
found_case P test x xs false a here more is = more is

all_found : {A : Type 0} (P : A → Type 0) (test : A → Bool) (xs : List A) (a : A) → All P xs
    → find test xs ≡ Some a → P a
all_found P test [] a h is = cc
all_found P test (x ∷ xs) a h is = found_case P test x xs (test x) a (All-head P x xs h) (λ more.
    all_found P test xs a (All-tail P x xs h) more) is

prepared_recorded : (st : SessionState) (at : ℕ) → prepared_at st ≡ Some at → is_recorded st ≡ true
prepared_recorded state.Live at h = cc
prepared_recorded (state.Prepared time coordinator) at h = refl
prepared_recorded (state.Committed time) at h = cc
prepared_recorded state.Released at h = cc
prepared_recorded (state.Aborted why time) at h = cc

module _ (recs : List Rec) (s : ShardState) (backed : IsBacked recs s)
    (image : IsImage (image_of recs)) where
  pends : (tag : Tag) (q : Pending) → pending_of (image_of recs).pending tag ≡ Some q
      → IsPending s.part q
  pends tag q is = all_found (IsPending s.part) (λ q.
      same_tag q.tag tag) s.part.pending q backed.shard.part.pending
      (sym (ap (λ (pending : List Pending). pending_of pending tag) backed.durable.pending) ∙ is)

  prepared_case : (lsid : Lsid) (t : Session) (o : Option Pending)
      → session_of (image_of recs).sessions lsid ≡ Some t
      → pending_of (image_of recs).pending t.tag ≡ o → IsSomeAnd o (λ q. q.lsid ≡ lsid)
      → session s.part lsid ≡ Some t
  prepared_case lsid t None there is h = absurd h
  prepared_case lsid t (Some q) there is h =
      let p = pends t.tag q is in
      let here : session s.part lsid ≡ Some p.0 = ap (session s.part) (sym h) ∙ p.2 in
      let again : session_of (image_of recs).sessions lsid ≡ Some p.0 =
      backed.recorded lsid p.0 here (prepared_recorded p.0.state p.1 p.3.state) in
      here ∙ sym again ∙ there

  again_case : (lsid : Lsid) (t : Session) (st : SessionState)
      → t.state ≡ st → session_of (image_of recs).sessions lsid ≡ Some t
      → HasIts (image_of recs).pending lsid t.tag st → StandsAgain s.part lsid t.tag st
  again_case lsid t state.Live is there has = has
  again_case lsid t (state.Prepared at coordinator) is there has =
      (t, prepared_case lsid t (pending_of (image_of recs).pending t.tag) there refl has, refl, is)
  again_case lsid t (state.Committed at) is there has = tt
  again_case lsid t state.Released is there has = tt
  again_case lsid t (state.Aborted why at) is there has =
      subst IsSaved is (image_saved recs lsid t there)

  core_restarts : (shard : ℕ) (boot : ℕ) (opens : Opens) (last : ℕ) (entries : List Entry)
      (served : List Served) → IsServing s.part opens last entries served
      → Restarts s.part (record {
        shard = shard;
        boot = boot;
        sessions = (image_of recs).sessions;
        live = [];
        pending = (image_of recs).pending;
        store = (image_of recs).store;
      })
  core_restarts shard boot opens last entries served part =
      record {
        store = subst (Survives s.part.store) (sym backed.durable.store)
            (finished_survives s.part.store part.sound.rises);
        live = refl;
        sessions =
            λ lsid t there. again_case lsid t t.state refl there (image.sessions lsid t there);
        prepared = λ lsid t at coordinator is st.
            (t, backed.recorded lsid t is (ap is_recorded st), refl, st);
      }

pub start_serves : (shard : ℕ) (recs : List Rec) (faults : ℕ) (n : NodeState)
    (s : ShardState) (opens : Opens) (entries : List Entry) (served : List Served)
    → IsBacked recs s → AreWritten recs → IsServing s.part opens s.clock.last entries served
    → s.clock.last ≤ s.clock.ceiling
    → started shard recs faults ≡ Some n
    → IsServing n.core.part (prepared_ones opens) n.core.clock.last entries served
start_serves shard recs faults n s opens entries served backed written part below h =
    let start = started_case shard recs faults n (first_refused recs) refl h in
    let i : Image = image_of recs in
    let all : List Rec = recs ++ boot_behind i ∷ [] in
    let is : image_of all ≡ with_record i (boot_behind i) =
    image_append recs (boot_behind i ∷ []) in
    let core : core_of shard (with_record i (boot_behind i)) ≡ n.core = ap (core_of shard) (sym is)
    ∙ ap (λ (x : NodeState). x.core) start.node in
    let image : IsImage i = (image_counted recs written start.follows).1 in
    let again = restart_holds s.part (core_of shard (with_record i (boot_behind i))).part opens
    s.clock.last entries served part (core_restarts recs s backed image shard (i.boot + 1) opens
    s.clock.last entries served part) in
    let clock : IsServing n.core.part (prepared_ones opens) s.clock.last entries served =
    subst (λ (c : ShardState). IsServing c.part (prepared_ones opens) s.clock.last entries
    served) core again in
    let found = start_finds shard recs faults n s backed h in
    clock_holds n.core.part (prepared_ones opens) s.clock.last entries served clock
    n.core.clock.last (subst (λ c. s.clock.last ≤ c.last) (sym found.clock) below)

pub first_serves : (shard faults : ℕ) (n : NodeState) → started shard [] faults ≡ Some n
    → IsServing n.core.part none_open n.core.clock.last [] []
unfolding image_of
first_serves shard faults n h =
    let start = started_case shard [] faults n (first_refused []) refl h in
    subst (λ (x : NodeState). IsServing x.core.part none_open x.core.clock.last [] []) start.node
    (first_holds shard 1 most_sessions 0)
