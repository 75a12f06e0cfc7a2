-- The state after a record that can follow is of one piece.
use Rattle.std.proofs.Common.{◌≡◌, ◌+◌, ℕ, ℤ, Bool, true, false, not, List, [], ◌∷◌, ◌++◌, filter}
use Rattle.std.proofs.Common.{map, Option, Some, None, IfSome, IsSomeAnd, if◌then◌else◌, refl, ap}
use Rattle.std.proofs.Common.{sym, subst, ◌∙◌}
use Rattle.txn_types.specs.Order.{same_tag}
use Rattle.txn_types.specs.declared.decision.Decision.{Decision}
use Rattle.txn_types.specs.declared.names.Tag.{Tag}
use Rattle.txn_types.specs.declared.node.Lsid.{Lsid}
use Rattle.txn_types.specs.declared.write.Write.{Write}
use Rattle.txn_semantics.specs.Writes.{Place, place_of}
use Rattle.session_table.specs.Sessions.{Table, with_session, commit_time, state_behind}
use Rattle.session_table.specs.declared.session.Session.{Session}
use Rattle.session_table.specs.declared.session.SessionState.TheVariants as state
use Rattle.version_store.specs.Versions.{Versions, with_writes, decided, prepared}
use Rattle.version_store.specs.declared.version.Pending.{Pending}
use Rattle.journal_rec.specs.Follows as journal
use Rattle.journal_rec.specs.Follows.{Ledger, can_follow}
use Rattle.journal_rec.specs.declared.record.Decided.{Decided}
use Rattle.journal_rec.specs.declared.record.Rec.{Rec}
use Rattle.journal_rec.specs.declared.record.Rec.TheVariants as rec
use Rattle.coordinator.specs.TwoPhase.{Coordinations, Coordinated, coordinated_of, with_coordinated}
use Rattle.coordinator.specs.TwoPhase.{with_decision}
use Rattle.shard_image.specs.Image.{Image, with_record, with_records, ledger_of, can_follow_image}
use Rattle.shard_image.specs.Image.{decided_if}
use Rattle.shard_image.specs.Sound.{IsImage, IsWritten, AreWritten}
use Rattle.shard_image.proofs.Decisions.{follows_counted}

pub keeps : (i j : Image) (r : Rec) → IsImage i → IsWritten r → can_follow_image i r ≡ true
    → j ≡ with_record i r → IsImage j
keeps i j r h written can is =
    subst (λ (i : Image). IsImage i) (sym is) (follows_counted i r h written can).1

-- a commit
pub commit_keeps : (j : Image) (tag : Tag) (lsid : Lsid) (number : ℤ) (read_at at : ℕ)
    (writes laid_writes : List Write) (laid behind : Versions) (sessions : Table) → IsImage j
    → IsWritten (rec.Commit tag lsid number read_at at writes)
    → can_follow_image j (rec.Commit tag lsid number read_at at writes) ≡ true
    → laid_writes ≡ writes → laid ≡ with_writes tag j.store laid_writes
    → behind ≡ decided tag (Some at) laid
    → sessions ≡ with_session j.sessions lsid
    (record { number = number; tag = tag; state = state.Committed at })
    → IsImage (record {
      boot = j.boot;
      ceiling = j.ceiling;
      store = behind;
      sessions = sessions;
      pending = j.pending;
      coord = j.coord;
      count = j.count + 1;
      greatest = at;
    })
commit_keeps j tag lsid number read_at at writes laid_writes laid behind sessions h written can same
    is decides sets =
    let store : behind ≡ decided tag (Some at) (with_writes tag j.store writes) =
    decides ∙ ap (λ (v : Versions). decided tag (Some at) v) (is
    ∙ ap (λ (ws : List Write). with_writes tag j.store ws) same) in
    keeps j _ (rec.Commit tag lsid number read_at at writes) h written can
    (ap (λ (v : Versions). let i : Image = record {
      boot = j.boot;
      ceiling = j.ceiling;
      store = v;
      sessions = sessions;
      pending = j.pending;
      coord = j.coord;
      count = j.count + 1;
      greatest = at;
    } in i) store
    ∙ ap (λ (t : Table). let i : Image = record {
      boot = j.boot;
      ceiling = j.ceiling;
      store = decided tag (Some at) (with_writes tag j.store writes);
      sessions = t;
      pending = j.pending;
      coord = j.coord;
      count = j.count + 1;
      greatest = at;
    } in i) sets)

-- a prepared transaction
pub prepare_keeps : (j : Image) (q : Pending) (number : ℤ) (at coordinator boot : ℕ) (writes
    laid_writes : List Write) (laid behind : Versions) (sessions : Table) (pending : List Pending)
    → IsImage j
    → IsWritten (rec.Prepared q.tag q.lsid number boot q.read_at at coordinator writes)
    → can_follow_image j (rec.Prepared q.tag q.lsid number boot q.read_at at coordinator
    writes) ≡ true
    → q.keys ≡ map place_of writes → laid_writes ≡ writes
    → laid ≡ with_writes q.tag j.store laid_writes → behind ≡ prepared q.tag at laid
    → sessions ≡ with_session j.sessions q.lsid
    (record { number = number; tag = q.tag; state = state.Prepared at coordinator })
    → pending ≡ j.pending ++ q ∷ []
    → IsImage (record {
      boot = j.boot;
      ceiling = j.ceiling;
      store = behind;
      sessions = sessions;
      pending = pending;
      coord = j.coord;
      count = j.count + 1;
      greatest = at;
    })
prepare_keeps j q number at coordinator boot writes laid_writes laid behind sessions pending h
    written can keys same is prepares sets pushed =
    let store : behind ≡ prepared q.tag at (with_writes q.tag j.store writes) =
    prepares ∙ ap (λ (v : Versions). prepared q.tag at v) (is
    ∙ ap (λ (ws : List Write). with_writes q.tag j.store ws) same) in
    let places : List Place → Pending = λ (ks : List Place).
    record { tag = q.tag; lsid = q.lsid; read_at = q.read_at; keys = ks } in
    let whole : pending ≡ j.pending ++ places (map place_of writes) ∷ [] = pushed
    ∙ ap (λ (ks : List Place). j.pending ++ places ks ∷ []) keys in
    keeps j _ (rec.Prepared q.tag q.lsid number boot q.read_at at coordinator writes) h written can
    (ap (λ (v : Versions). let i : Image = record {
      boot = j.boot;
      ceiling = j.ceiling;
      store = v;
      sessions = sessions;
      pending = pending;
      coord = j.coord;
      count = j.count + 1;
      greatest = at;
    } in i) store
    ∙ ap (λ (t : Table). let i : Image = record {
      boot = j.boot;
      ceiling = j.ceiling;
      store = prepared q.tag at (with_writes q.tag j.store writes);
      sessions = t;
      pending = pending;
      coord = j.coord;
      count = j.count + 1;
      greatest = at;
    } in i) sets
    ∙ ap (λ (p : List Pending). let i : Image = record {
      boot = j.boot;
      ceiling = j.ceiling;
      store = prepared q.tag at (with_writes q.tag j.store writes);
      sessions = with_session j.sessions q.lsid
          (record { number = number; tag = q.tag; state = state.Prepared at coordinator });
      pending = p;
      coord = j.coord;
      count = j.count + 1;
      greatest = at;
    } in i) whole)

-- a decision
pub decide_keeps : (j : Image) (d : Decided) (at : Option ℕ) (new : Session)
    (behind : Versions) (sessions : Table) (pending : List Pending) → IsImage j
    → can_follow_image j (rec.Decided d) ≡ true
    → at ≡ commit_time d.decision
    → new ≡ record { number = d.number; tag = d.tag; state = state_behind d.decision }
    → behind ≡ decided d.tag at j.store
    → pending ≡ filter (λ other. not (same_tag other.tag d.tag)) j.pending
    → sessions ≡ with_session j.sessions d.lsid new
    → IsImage (record {
      boot = j.boot;
      ceiling = j.ceiling;
      store = behind;
      sessions = sessions;
      pending = pending;
      coord = j.coord;
      count = j.count + 1;
      greatest = j.greatest;
    })
decide_keeps j d at new behind sessions pending h can time stands decides left sets =
    let store : behind ≡ decided d.tag (commit_time d.decision) j.store = decides
    ∙ ap (λ (at : Option ℕ). decided d.tag at j.store) time in
    let table : sessions ≡ with_session j.sessions d.lsid
    (record { number = d.number; tag = d.tag; state = state_behind d.decision }) =
    sets ∙ ap (λ (s : Session). with_session j.sessions d.lsid s) stands in
    keeps j _ (rec.Decided d) h tt can
    (ap (λ (v : Versions). let i : Image = record {
      boot = j.boot;
      ceiling = j.ceiling;
      store = v;
      sessions = sessions;
      pending = pending;
      coord = j.coord;
      count = j.count + 1;
      greatest = j.greatest;
    } in i) store
    ∙ ap (λ (t : Table). let i : Image = record {
      boot = j.boot;
      ceiling = j.ceiling;
      store = decided d.tag (commit_time d.decision) j.store;
      sessions = t;
      pending = pending;
      coord = j.coord;
      count = j.count + 1;
      greatest = j.greatest;
    } in i) table
    ∙ ap (λ (p : List Pending). let i : Image = record {
      boot = j.boot;
      ceiling = j.ceiling;
      store = decided d.tag (commit_time d.decision) j.store;
      sessions = with_session j.sessions d.lsid
          (record { number = d.number; tag = d.tag; state = state_behind d.decision });
      pending = p;
      coord = j.coord;
      count = j.count + 1;
      greatest = j.greatest;
    } in i) left)

-- a coordinator's decision
restored : (o : Option Coordinated) (tag : Tag) (d : Decision) (coords new : Coordinations)
    → IsSomeAnd o (λ c. c.decision ≡ None)
    → IfSome o (λ c. new ≡ with_coordinated tag (with_decision (Some d) c) coords)
    → new ≡ decided_if coords tag d o
restored None tag d coords new there is = absurd there
restored (Some c) tag d coords new there is = is

pub restored_is : (i j : Image) (tag : Tag) (d : Decision) (new : Coordinations) → j ≡ i
    → IsSomeAnd (coordinated_of j.coord tag) (λ c. c.decision ≡ None)
    → IfSome (coordinated_of j.coord tag)
    (λ c. new ≡ with_coordinated tag (with_decision (Some d) c) j.coord)
    → record {
      boot = j.boot;
      ceiling = j.ceiling;
      store = j.store;
      sessions = j.sessions;
      pending = j.pending;
      coord = new;
      count = j.count + 1;
      greatest = j.greatest;
    } ≡ with_record i (rec.CoordDecision tag d)
restored_is i j tag d new same there is =
    ap (λ (coords : Coordinations). let k : Image = record {
      boot = j.boot;
      ceiling = j.ceiling;
      store = j.store;
      sessions = j.sessions;
      pending = j.pending;
      coord = coords;
      count = j.count + 1;
      greatest = j.greatest;
    } in k) (restored (coordinated_of j.coord tag) tag d j.coord new there is)
    ∙ ap (λ (k : Image). with_record k (rec.CoordDecision tag d)) same

-- Records, one after the other.

taken : {A : Type 0} (b : Bool) (x y z : A) → b ≡ true → (if b then x else y) ≡ z → x ≡ z
taken true x y z is e = e
taken false x y z is e = cc

-- how far it has come: these are left, of which the first is of this number
pub record Comes (i : Image) (index : ℕ) (left : List Rec) (all : Image)
    (refused : Option ℕ) : Type 0 where
  pub sound : IsImage i
  pub written : AreWritten left
  pub image : with_records i left ≡ all
  pub count : i.count ≡ index
  pub first : journal.first_refused_from index (ledger_of i) left ≡ refused

pub goes_on : (i j : Image) (index : ℕ) (r : Rec) (left : List Rec) (all : Image)
    (refused : Option ℕ) → Comes i index (r ∷ left) all refused → can_follow_image i r ≡ true
    → j ≡ with_record i r → Comes j (index + 1) left all refused
goes_on i j index r left all refused h can is =
    let counted = follows_counted i r h.sound h.written.0 can in
    record {
      sound = keeps i j r h.sound h.written.0 can is;
      written = h.written.1;
      image = ap (λ (i : Image). with_records i left) is ∙ h.image;
      count = ap (λ (i : Image). i.count) is ∙ ap (λ (n : ℕ). n + 1) h.count;
      first =
          ap (λ (i : Image). journal.first_refused_from (index + 1) (ledger_of i) left) is
          ∙ ap (λ (l : Ledger). journal.first_refused_from (index + 1) l left) counted.0
          ∙ taken (can_follow (ledger_of i) r) (journal.first_refused_from (index + 1)
          (journal.with_record (ledger_of i) r) left) (Some index) refused can h.first;
    }
